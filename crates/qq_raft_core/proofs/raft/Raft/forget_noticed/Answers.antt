use Rattle.std.proofs.Common.{◌≡◌, List, true, subst, sym, arith}
use Rattle.qq_raft_core.specs.Undone.{leads_back}
use Rattle.qq_raft_core.specs.declared.undo.Undo.{Undo}
use Rattle.qq_raft_core.proofs.Undoing.{leads-later}
use Rattle.qq_raft_core.proofs.raft.Raft.forget_noticed.Goals as goal

pub returns-clause-sound : goal.returns-clause-sound
returns-clause-sound g c =
    let old = c.args.self.now in
    let es = (g.L.LogView.log old.log).entries in
    record {
      whole = c.requires.whole;
      last = c.requires.last;
      entries = c.requires.entries;
      each = c.requires.each;
      peers = c.requires.peers;
      op = c.requires.op;
      term = c.requires.term;
      vote = c.requires.vote;
      queue = c.requires.queue;
      node = c.requires.node;
      ops = c.requires.ops;
      commit = c.requires.commit;
      out = c.requires.out;
      waiting = c.requires.waiting;
      undos = subst (λ (us : List Undo). leads_back old.op us es ≡ true) (sym c.drop_front.ensures)
          (leads-later _ old.op old.undos.items es c.requires.undos);
      mark = omega arith;
      rising = c.requires.rising;
    }
