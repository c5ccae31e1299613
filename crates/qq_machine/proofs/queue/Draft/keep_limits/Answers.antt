use Rattle.std.proofs.Common.{ℕ, ◌-◌, length, ap, sym, ◌∙◌, arith}
use Rattle.qq_model.specs.Changes.{while_next}
use Rattle.qq_parts.specs.Follows.{parts_drop_head, parts_keep_limits}
use Rattle.qq_ready.specs.Queue.{ReadyState, in_order}
use Rattle.qq_machine.specs.Views.{work_of}
use Rattle.qq_machine.proofs.Lists.{while_next-more, while_next-over}
use Rattle.qq_machine.proofs.Ready.{ready_count}
use Rattle.qq_machine.proofs.queue.Draft.keep_limits.Goals as goal

pub rounds-preserved : goal.rounds-preserved
rounds-preserved c = record {
  same =
      while_next-more c.count-ready.result c.rounds._round parts_drop_head (work_of c.args.args.now c.rounds.self)
      (work_of c.args.args.now c.drop_head.new.self) _ c.in_ok-drop_head.field-0 (omega arith)
      c.in_ok-drop_head.ensures.ok c.if-not-branch.false c.rounds.invariant.same;
  base = c.drop_head.ensures.base ∙ c.rounds.invariant.base;
}

pub returns-then-not-branch-clause-ok : goal.returns-then-not-branch-clause-ok
unfolding parts_keep_limits
returns-then-not-branch-clause-ok c =
    ap (λ (k : ℕ). while_next k parts_drop_head (work_of c.args.args.now c.args.self.now))
    (ready_count c.args.args.now c.args.self.now.queue
    ∙ sym (c.count-ready.ensures ∙ ap (λ (r : ReadyState). length (in_order r.queue)) c.store.ensures))
    ∙ while_next-over (c.count-ready.result - c.rounds._round) parts_drop_head (work_of c.args.args.now c.rounds.self)
    (work_of c.args.args.now c.drop_head.new.self) _ c.in_ok-drop_head.field-0 c.in_ok-drop_head.ensures.ok c.if-not-branch.true
    c.rounds.invariant.same (c.in_ok-drop_head.ensures.still c.if-not-branch.true)
