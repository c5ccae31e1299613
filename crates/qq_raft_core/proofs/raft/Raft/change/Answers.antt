use Rattle.std.proofs.Common.{◌∷◌, ◌++◌, ◌+◌, [], ◌∙◌, length, length-append, take, refl, ap, sym, arith}
use Rattle.qq_raft_core.specs.Rising.{rises}
use Rattle.qq_raft_core.specs.Undone.{Before}
use Rattle.qq_raft_core.proofs.Undoing.{noted_before, same-undos}
use Rattle.qq_raft_core.proofs.raft.Raft.change.Goals as goal

pub returns-in_err-push_undo-clause-before : goal.returns-in_err-push_undo-clause-before
returns-in_err-push_undo-clause-before g c =
    same-undos g.L.LogView.log c.args.self.now c.push_undo.new.undos c.in_err-push_undo.ensures.err

pub returns-in_err-replace_tail-clause-before : goal.returns-in_err-replace_tail-clause-before
returns-in_err-replace_tail-clause-before g c =
    let old = c.args.self.now in
    noted_before g.L.LogView.log c.args.keep old
    (record old { undos = c.push_undo.new.undos; op = old.op + 1; log = c.replace_tail.new.log }) c.requires.sound.mark
    c.requires.keep
    (c.in_ok-push_undo.ensures.ok ∙ ap (λ u. old.undos.items ++ u ∷ []) c.in_ok-undo.ensures.ok) refl refl
    (c.replace_tail.ensures.base ∙ sym c.requires.sound.whole) c.replace_tail.ensures.kept

pub returns-in_err-push_op-clause-before : goal.returns-in_err-push_op-clause-before
returns-in_err-push_op-clause-before g c =
    let old = c.args.self.now in
    noted_before g.L.LogView.log c.args.keep old
    (record old {
      undos = c.push_undo.new.undos;
      op = old.op + 1;
      log = c.replace_tail.new.log;
      ops = c.push_op.new.ops;
    }) c.requires.sound.mark c.requires.keep
    (c.in_ok-push_undo.ensures.ok ∙ ap (λ u. old.undos.items ++ u ∷ []) c.in_ok-undo.ensures.ok) refl refl
    (c.replace_tail.ensures.base ∙ sym c.requires.sound.whole) c.replace_tail.ensures.kept

pub returns-clause-before : goal.returns-clause-before
returns-clause-before g c =
    let old = c.args.self.now in
    noted_before g.L.LogView.log c.args.keep old
    (record old {
      undos = c.push_undo.new.undos;
      op = old.op + 1;
      log = c.replace_tail.new.log;
      ops = c.push_op.new.ops;
      term = c.args.term;
      vote = c.args.vote;
    }) c.requires.sound.mark c.requires.keep
    (c.in_ok-push_undo.ensures.ok ∙ ap (λ u. old.undos.items ++ u ∷ []) c.in_ok-undo.ensures.ok) refl refl
    (c.replace_tail.ensures.base ∙ sym c.requires.sound.whole) c.replace_tail.ensures.kept

pub returns-clause-sound : goal.returns-clause-sound
returns-clause-sound g c =
    let old = c.args.self.now in
    let sound = c.requires.sound in
    let more = ap length c.in_ok-push_undo.ensures.ok in
    let count = length-append old.undos.items (c.in_ok-undo.undo ∷ []) in
    let mark = sound.mark in
    record {
      whole = c.replace_tail.ensures.base;
      last = c.in_ok-replace_tail.ensures.last;
      entries = c.in_ok-replace_tail.ensures.entries;
      each = sound.each;
      peers = sound.peers;
      op = omega (arith, c.if-full.false);
      term = c.requires.term;
      vote = c.requires.vote;
      queue = sound.queue;
      node = sound.node;
      ops = c.in_ok-push_op.ensures.ops;
      commit = sound.commit;
      out = sound.out;
      waiting = sound.waiting;
      undos = ap (λ (b : Before). b.leads) (returns-clause-before g c) ∙ sound.undos;
      mark = omega (arith, more, count, mark);
      rising = λ t. ap (rises 0 c.args.term.0)
          (c.in_ok-replace_tail.ensures.ok
          ∙ ap (λ es. take c.args.keep (g.L.LogView.log old.log).entries ++ es)
          (c.as_slice-2.ensures ∙ sym c.as_slice.ensures))
          ∙ c.still_rises-rising.ensures t;
    }
