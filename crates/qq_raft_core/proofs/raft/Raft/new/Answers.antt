use Rattle.std.proofs.Common.{◌<◌, ◌^◌, ◌∙◌, ◌&&◌, true, length, ap, sym, subst, arith}
use Rattle.std.proofs.lemmas.Bool.{le-leb}
use Rattle.std.specs.Prelude.{All}
use Rattle.qq_raft_core.proofs.Members.{new-each, new-count}
use Rattle.qq_log.specs.Writable.{MayWrite}
use Rattle.qq_raft_core.specs.Ends.{IsSendable}
use Rattle.qq_raft_core.proofs.Ranges.{all_none}
use Rattle.qq_raft_core.specs.Raft.{IsPeer, IsWaiting}
use Rattle.qq_raft_core.specs.Undone.{leads_back}
use Rattle.qq_raft_core.proofs.raft.Raft.new.Goals as goal

pub returns-clause-sound : goal.returns-clause-sound
returns-clause-sound g c =
    record {
      whole = c.requires.whole;
      last = c.requires.ends.last;
      entries = c.requires.ends.entries;
      each = subst (All IsPeer) (sym c.in_ok-peers.ensures.ok)
          (new-each c.args.node c.args.members.now c.requires.nodes.1);
      peers = subst (λ ps. length ps < 2 ^ 32) (sym c.in_ok-peers.ensures.ok)
          (new-count c.args.node c.args.members.now c.requires.members);
      op = rw c.start-op.ensures c.requires.ends.op;
      term = rw c.start-op.ensures c.requires.ends.term;
      vote = rw c.start-op.ensures c.requires.ends.vote;
      queue = omega arith;
      node = c.requires.nodes.0;
      commit = omega arith;
      ops = all_none MayWrite _ c.new-ops.ensures.items;
      out = all_none IsSendable _ c.new-out.ensures.items;
      waiting = all_none IsWaiting _ c.new-waiting.ensures.items;
      undos = ap (λ us. leads_back c.start-op.result.0 us (g.L.LogView.log c.args.log).entries) c.new-undos.ensures.items
          ∙ ap (λ b. b && true) (le-leb 0 c.start-op.result.0 (omega arith));
      mark = omega arith;
      rising = λ t. sym c.log_rises-rising.ensures ∙ t;
    }
