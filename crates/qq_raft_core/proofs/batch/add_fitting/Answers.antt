use Rattle.std.proofs.Common.{◌+◌, ◌<◌, ◌≤◌, [], ◌∷◌, ◌++◌, sym, ap, subst, ◌∙◌, append_assoc}
use Rattle.std.proofs.lemmas.List.{append-nil}
use Rattle.qq_raft_core.proofs.Ranges.{all_at}
use Rattle.qq_raft_core.specs.Raft.{IsInLog}
use Rattle.qq_raft_core.proofs.Entries.{fit-more, fit-full, fit-ended, entry-known}
use Rattle.qq_raft_core.proofs.batch.add_fitting.Goals as goal

pub returns-in_default-clause-ok : goal.returns-in_default-clause-ok
returns-in_default-clause-ok g c =
    let log = g.L.LogView.log c.args.log.now in
    let so_far = c.entries.entries.items in
    let past = sym (entry-known log (c.args.place + c.entries.i) c.requires.whole) ∙ c.in_default.ensures.none in
    sym (append-nil so_far)
    ∙ ap (λ es. so_far ++ es)
    (sym (fit-ended log.entries c.args.place c.args.count c.entries.i c.entries.left past))
    ∙ c.entries.invariant

pub returns-then-left-size-clause-ok : goal.returns-then-left-size-clause-ok
returns-then-left-size-clause-ok g c =
    let log = g.L.LogView.log c.args.log.now in
    let so_far = c.entries.entries.items in
    let there = sym (entry-known log (c.args.place + c.entries.i) c.requires.whole) ∙ c.in-Some.ensures.some in
    let lt = subst (λ n. c.entries.left < n) c.weight-size.ensures c.if-left-size.true in
    sym (append-nil so_far)
    ∙ ap (λ es. so_far ++ es)
    (sym (fit-full log.entries c.args.place c.args.count c.entries.i c.entries.left c.in-Some.entry.now there lt))
    ∙ c.entries.invariant

pub weight-size-requires : goal.weight-size-requires
weight-size-requires g c =
    let log = g.L.LogView.log c.args.log.now in
    let there = sym (entry-known log (c.args.place + c.entries.i) c.requires.whole) ∙ c.in-Some.ensures.some in
    (all_at IsInLog log.entries (c.args.place + c.entries.i) c.in-Some.entry.now there c.requires.entries).0

pub entries-preserved : goal.entries-preserved
entries-preserved g c =
    let log = g.L.LogView.log c.args.log.now in
    let so_far = c.entries.entries.items in
    let e = c.in-Some.entry.now in
    let there = sym (entry-known log (c.args.place + c.entries.i) c.requires.whole) ∙ c.in-Some.ensures.some in
    let le = subst (λ n. n ≤ c.entries.left) c.weight-size.ensures c.if-left-size.false in
    let more = fit-more log.entries c.args.place c.args.count c.entries.i c.entries.left e c.entries-test.true there
    le in
    rw (c.in_ok-push.ensures.items, c.in_ok-copy.ensures.ok, c.weight-size.ensures)
    (append_assoc so_far (e ∷ []) _ ∙ ap (λ es. so_far ++ es) (sym more) ∙ c.entries.invariant)
