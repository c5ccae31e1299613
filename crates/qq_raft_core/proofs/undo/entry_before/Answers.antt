use Rattle.std.proofs.Common.{◌≡◌, ◌+◌, List, drop, true, refl, sym, ap, subst, ◌∙◌, arith}
use Rattle.std.specs.Prelude.{slice_get}
use Rattle.std.proofs.lemmas.List.{drop_all}
use Rattle.qq_raft_core.specs.Undone.{keeps_within, log_before}
use Rattle.qq_raft_core.specs.declared.undo.Undo.{Undo}
use Rattle.qq_raft_core.proofs.Entries.{drop-some, entry-known}
use Rattle.qq_raft_core.proofs.Undoing.{before-cut, before-kept, rest-within}
use Rattle.qq_raft_core.proofs.undo.entry_before.Goals as goal

pub undos-preserved : goal.undos-preserved
undos-preserved g c =
    let us = c.args.undos.now in
    let es = (g.L.LogView.log c.args.log.now).entries in
    let place = c.undos.place in
    let u = c.in-Some.undo.now in
    let rest = drop (place + 1) us in
    let is = drop-some us place u (sym c.in-Some.ensures) in
    let within = subst (λ (l : List Undo). keeps_within l es ≡ true) is c.undos.invariant.within in
    record {
      same = sym (before-kept u rest es c.args.at within (omega (arith, c.if-undo-at.false)))
          ∙ sym (ap (λ (l : List Undo). slice_get (log_before l es) c.args.at) is)
          ∙ c.undos.invariant.same;
      within = rest-within u rest es within;
    }

pub returns-then-undo-at : goal.returns-then-undo-at
returns-then-undo-at g c =
    let us = c.args.undos.now in
    let es = (g.L.LogView.log c.args.log.now).entries in
    let place = c.undos.place in
    let u = c.in-Some.undo.now in
    let rest = drop (place + 1) us in
    let is = drop-some us place u (sym c.in-Some.ensures) in
    let within = subst (λ (l : List Undo). keeps_within l es ≡ true) is c.undos.invariant.within in
    c.at.ensures
    ∙ sym (before-cut u rest es c.args.at within c.if-undo-at.true)
    ∙ sym (ap (λ (l : List Undo). slice_get (log_before l es) c.args.at) is)
    ∙ c.undos.invariant.same
