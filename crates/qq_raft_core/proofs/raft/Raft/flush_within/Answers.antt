use Rattle.std.proofs.Common.{◌-◌, ◌+◌, sym, ap, ◌∙◌}
use Rattle.qq_raft_model.specs.Leading.{flush_within}
use Rattle.qq_raft_core.specs.Raft.{server_of}
use Rattle.qq_raft_core.proofs.Flushes.{last-round, one-round}
use Rattle.qq_raft_core.proofs.raft.Raft.flush_within.Goals as goal

pub sends-preserved : goal.sends-preserved
sends-preserved g c =
    let s = server_of g.L.LogView.log c.sends.self in
    record {
      sound = c.in_ok-send.ensures.sound;
      before = c.send.ensures.before ∙ c.sends.invariant.before;
      rest = ap (λ t. flush_within (c.args.rounds - (c.sends.round + 1)) t) c.in_ok-send.ensures.ok
          ∙ sym (one-round s c.args.rounds c.sends.round c.sends-test.true (sym c.some_lag-lag.ensures ∙ c.if-not-lag.false))
          ∙ c.sends.invariant.rest;
    }

pub returns-then-not-lag-clause-ok : goal.returns-then-not-lag-clause-ok
returns-then-not-lag-clause-ok g c =
    let s = server_of g.L.LogView.log c.sends.self in
    sym (last-round s c.args.rounds c.sends.round c.sends-test.true (sym c.some_lag-lag.ensures ∙ c.if-not-lag.true))
    ∙ c.sends.invariant.rest
