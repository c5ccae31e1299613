use Rattle.std.proofs.Common.{◌+◌, ◌-◌, ◌≤◌, List, [], ◌∷◌, ◌++◌, length, drop, sym, ap, subst, ◌∙◌, arith}
use Rattle.std.specs.Prelude.{All}
use Rattle.std.proofs.lemmas.Option.{slice_get_within}
use Rattle.qq_entry.specs.declared.command.Entry.{Entry}
use Rattle.qq_raft_model.specs.declared.limits.TheConstants.{BATCH_BYTES, BATCH_ENTRIES}
use Rattle.qq_raft_model.specs.Leading.{fit}
use Rattle.qq_raft_core.proofs.Ranges.{all_at, batch_all, batch_count, batch_short, with_bytes}
use Rattle.qq_raft_core.proofs.Sendable.{batch_end}
use Rattle.std.proofs.lemmas.List.Elements.{All-drop}
use Rattle.qq_raft_core.specs.Fits.{IsShort}
use Rattle.qq_base.specs.declared.memory.TheConstants.{NUMBER_END}
use Rattle.qq_raft_core.specs.Raft.{IsInLog}
use Rattle.qq_raft_core.proofs.Entries.{batch-first, batch-none, entry-known}
use Rattle.qq_raft_core.proofs.batch.batch_from.Goals as goal

pub returns-in_default-clause-ok : goal.returns-in_default-clause-ok
returns-in_default-clause-ok g c =
    let log = g.L.LogView.log c.args.log.now in
    let place = c.saturating_sub-place.result in
    let past = sym (entry-known log place c.requires.whole) ∙ c.in_default.ensures.none in
    c.from_vec.ensures ∙ c.new-entries.ensures.items
    ∙ sym (batch-none log.entries c.args.next place c.saturating_sub-place.ensures past)

pub returns-clause-ok : goal.returns-clause-ok
returns-clause-ok g c =
    let log = g.L.LogView.log c.args.log.now in
    let place = c.saturating_sub-place.result in
    let first = c.in-Some.first.now in
    let room = c.saturating_sub-room.result in
    let there = sym (entry-known log place c.requires.whole) ∙ c.in-Some.ensures.some in
    let left = c.saturating_sub-room.ensures ∙ ap (λ n. BATCH_BYTES - n) c.weight.ensures in
    c.from_vec-2.ensures ∙ c.in_ok-add_fitting.ensures.ok
    ∙ ap (λ es. es ++ fit 255 room (drop (place + 1) log.entries))
    (c.in_ok-push.ensures.items ∙ ap (λ es. es ++ c.in_ok-copy.field-0 ∷ []) c.new-entries.ensures.items
    ∙ ap (λ (e : Entry). e ∷ []) c.in_ok-copy.ensures.ok)
    ∙ batch-first log.entries c.args.next place room first c.saturating_sub-place.ensures there left

pub returns-in_default-clause-each : goal.returns-in_default-clause-each
returns-in_default-clause-each g c =
    let log = (g.L.LogView.log c.args.log.now).entries in
    subst (All IsInLog) (sym (returns-in_default-clause-ok g c))
    (batch_all IsInLog c.args.next log c.requires.entries)

pub returns-clause-each : goal.returns-clause-each
returns-clause-each g c =
    let log = (g.L.LogView.log c.args.log.now).entries in
    subst (All IsInLog) (sym (returns-clause-ok g c)) (batch_all IsInLog c.args.next log c.requires.entries)

pub returns-in_default-clause-count : goal.returns-in_default-clause-count
returns-in_default-clause-count g c =
    let log = (g.L.LogView.log c.args.log.now).entries in
    subst (λ (es : List Entry). length es ≤ BATCH_ENTRIES) (sym (returns-in_default-clause-ok g c))
    (batch_count (drop (c.args.next - 1) log))

pub returns-clause-count : goal.returns-clause-count
returns-clause-count g c =
    let log = (g.L.LogView.log c.args.log.now).entries in
    subst (λ (es : List Entry). length es ≤ BATCH_ENTRIES) (sym (returns-clause-ok g c))
    (batch_count (drop (c.args.next - 1) log))

pub weight-requires : goal.weight-requires
weight-requires g c =
    let log = g.L.LogView.log c.args.log.now in
    let place = c.saturating_sub-place.result in
    let there = sym (entry-known log place c.requires.whole) ∙ c.in-Some.ensures.some in
    (all_at IsInLog log.entries place c.in-Some.first.now there c.requires.entries).0

pub add_fitting-requires-clause-within : goal.add_fitting-requires-clause-within
add_fitting-requires-clause-within g c =
    let log = g.L.LogView.log c.args.log.now in
    let place = c.saturating_sub-place.result in
    let there = sym (entry-known log place c.requires.whole) ∙ c.in-Some.ensures.some in
    let lt = slice_get_within log.entries place c.in-Some.first.now there in
    omega (arith, lt, c.requires.last)

pub returns-in_default-clause-short : goal.returns-in_default-clause-short
returns-in_default-clause-short g c =
    let log = (g.L.LogView.log c.args.log.now).entries in
    let rest = drop (c.args.next - 1) log in
    subst IsShort (sym (returns-in_default-clause-ok g c))
    (batch_short c.entries_read_back.ensures.short rest (with_bytes rest (All-drop IsInLog (c.args.next - 1) log c.requires.entries)))

pub returns-in_default-clause-end : goal.returns-in_default-clause-end
returns-in_default-clause-end g c =
    let log = (g.L.LogView.log c.args.log.now).entries in
    subst (λ (es : List Entry). c.args.next - 1 + length es ≤ NUMBER_END) (sym (returns-in_default-clause-ok g c))
    (batch_end c.args.next log c.requires.last c.requires.next)

pub returns-clause-short : goal.returns-clause-short
returns-clause-short g c =
    let log = (g.L.LogView.log c.args.log.now).entries in
    let rest = drop (c.args.next - 1) log in
    subst IsShort (sym (returns-clause-ok g c))
    (batch_short c.entries_read_back.ensures.short rest (with_bytes rest (All-drop IsInLog (c.args.next - 1) log c.requires.entries)))

pub returns-clause-end : goal.returns-clause-end
returns-clause-end g c =
    let log = (g.L.LogView.log c.args.log.now).entries in
    subst (λ (es : List Entry). c.args.next - 1 + length es ≤ NUMBER_END) (sym (returns-clause-ok g c))
    (batch_end c.args.next log c.requires.last c.requires.next)
