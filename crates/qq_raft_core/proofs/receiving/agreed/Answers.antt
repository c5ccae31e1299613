use Rattle.std.proofs.Common.{◌≡◌, suc, ◌+◌, drop, get_or, sym, ap, ◌∙◌, add-zero, arith}
use Rattle.std.proofs.lemmas.Option.{slice_get-get_or}
use Rattle.qq_raft_model.specs.Server.{agreed}
use Rattle.qq_raft_core.proofs.Entries.{agreed-more, agreed-differs, agreed-ended, entry-known}
use Rattle.qq_raft_core.proofs.receiving.agreed.Goals as goal

pub returns-in-None : goal.returns-in-None
returns-in-None g c =
    let log = g.L.LogView.log c.args.log.now in
    let place = c.entries.place in
    let past = sym (entry-known log (c.args.before + place) c.requires.whole) ∙ c.in-None.ensures.none in
    sym (add-zero place)
    ∙ ap (λ n. place + n) (sym (agreed-ended c.args.entries.now log.entries place c.args.before past))
    ∙ c.entries.invariant

pub returns-then-entries-place : goal.returns-then-entries-place
returns-then-entries-place g c =
    let log = g.L.LogView.log c.args.log.now in
    let place = c.entries.place in
    let own = sym (entry-known log (c.args.before + place) c.requires.whole) ∙ c.in-Some.ensures.some in
    let there = slice_get-get_or c.args.entries.now place c.index-entries-place.result c.entries-test.true in
    sym (add-zero place)
    ∙ ap (λ n. place + n) (sym (agreed-differs c.args.entries.now log.entries place c.args.before
    (get_or c.args.entries.now place c.index-entries-place.result) c.in-Some.own.now there own
    c.if-entries-place.true))
    ∙ c.entries.invariant

pub entries-preserved : goal.entries-preserved
entries-preserved g c =
    let log = g.L.LogView.log c.args.log.now in
    let place = c.entries.place in
    let own = sym (entry-known log (c.args.before + place) c.requires.whole) ∙ c.in-Some.ensures.some in
    let there = slice_get-get_or c.args.entries.now place c.index-entries-place.result c.entries-test.true in
    let more = agreed-more c.args.entries.now log.entries place c.args.before
    (get_or c.args.entries.now place c.index-entries-place.result) c.in-Some.own.now there own
    c.if-entries-place.false in
    let rest = agreed (drop (place + 1) c.args.entries.now) (drop (c.args.before + (place + 1)) log.entries) in
    let n : place + 1 + rest ≡ place + suc rest = omega arith in
    n ∙ ap (λ n. place + n) (sym more) ∙ c.entries.invariant
