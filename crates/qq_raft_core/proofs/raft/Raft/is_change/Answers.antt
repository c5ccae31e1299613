use Rattle.std.proofs.Common.{◌∙◌, ◌-◌, ap}
use Rattle.std.proofs.lemmas.Bool.{false≢true}
use Rattle.std.specs.Prelude.{slice_get}
use Rattle.qq_raft_core.proofs.Undoing.{change-known, keep-within, other-change, same-change, within-from}
use Rattle.qq_raft_core.proofs.raft.Raft.is_change.Goals as goal

pub ends_before-requires-clause-within : goal.ends_before-requires-clause-within
ends_before-requires-clause-within g c =
    within-from _ _ _ _ _ _ c.undos_from-later.ensures c.deref.ensures.value c.requires.sound.undos

pub ends_before-requires-clause-keep : goal.ends_before-requires-clause-keep
ends_before-requires-clause-keep g c =
    keep-within c.args.place c.args.self.now.op c.args.self.now.undos.items c.deref.result.now
    c.undos_from-later.result.now c.in-Some.undo.now (g.L.LogView.log c.args.self.now.log).entries c.requires.some
    c.undos_from-later.ensures c.deref.ensures.value
    (c.in-Some.ensures ∙ ap (λ us. slice_get us (c.args.place - 1)) c.deref-2.ensures.value) c.requires.sound.undos

pub returns-in-None : goal.returns-in-None
returns-in-None g c =
    let log = g.L.LogView.log in
    let r = c.args.self.now in (
      λ e. absurd (false≢true e),
      λ is. absurd (other-change log r c.args.place c.undos_from-later.result.now c.in-Some.undo.now c.args.op.now
          c.term_before.result c.vote_before.result c.term_before.ensures c.vote_before.ensures
          (change-known log r c.args.place c.deref.result.now c.undos_from-later.result.now c.in-Some.undo.now c.requires.some
          c.undos_from-later.ensures c.deref.ensures.value
          (c.in-Some.ensures ∙ ap (λ us. slice_get us (c.args.place - 1)) c.deref-2.ensures.value)) c.in-None.ensures.none is),
    )

pub returns-in-Some-entries_of : goal.returns-in-Some-entries_of
returns-in-Some-entries_of g c =
    let log = g.L.LogView.log in
    let r = c.args.self.now in
    same-change log r c.args.place c.undos_from-later.result.now c.in-Some.undo.now c.args.op.now
    c.term_before.result c.vote_before.result c.in-Some-entries_of.entries.now c.as_slice.result.now c.ends_before.result
    c.term_before.ensures c.vote_before.ensures
    (change-known log r c.args.place c.deref.result.now c.undos_from-later.result.now c.in-Some.undo.now c.requires.some
    c.undos_from-later.ensures c.deref.ensures.value
    (c.in-Some.ensures ∙ ap (λ us. slice_get us (c.args.place - 1)) c.deref-2.ensures.value))
    c.in-Some-entries_of.ensures.some c.as_slice.ensures c.ends_before.ensures
