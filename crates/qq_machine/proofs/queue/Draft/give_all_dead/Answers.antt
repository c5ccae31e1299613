use Rattle.std.proofs.Common.{ℕ, ◌-◌, length, ap, sym, ◌∙◌, arith}
use Rattle.std.proofs.lemmas.List.{length-map}
use Rattle.qq_model.specs.Changes.{while_next}
use Rattle.qq_parts.specs.Follows.{parts_give_dead, parts_give_all_dead}
use Rattle.qq_dead.specs.Letters.{DeadState}
use Rattle.qq_machine.specs.Views.{work_of, dead_item}
use Rattle.qq_machine.proofs.Lists.{while_next-more, while_next-over}
use Rattle.qq_machine.proofs.queue.Draft.give_all_dead.Goals as goal

pub rounds-preserved : goal.rounds-preserved
rounds-preserved c = record {
  same =
      while_next-more c.len-dead.result c.rounds._round parts_give_dead (work_of c.args.args.now c.rounds.self)
      (work_of c.args.args.now c.give_dead.new.self) _ c.in_ok-give_dead.field-0 (omega arith)
      c.in_ok-give_dead.ensures.ok c.if-not-branch.false c.rounds.invariant.same;
  base = c.give_dead.ensures.base ∙ c.rounds.invariant.base;
}

pub returns-then-not-branch-clause-ok : goal.returns-then-not-branch-clause-ok
unfolding parts_give_all_dead
returns-then-not-branch-clause-ok c =
    ap (λ (k : ℕ). while_next k parts_give_dead (work_of c.args.args.now c.args.self.now))
    (length-map c.args.self.now.queue.dead.store.letters.rows dead_item
    ∙ sym (c.len-dead.ensures ∙ ap (λ (d : DeadState). length d.letters.rows) c.store.ensures))
    ∙ while_next-over (c.len-dead.result - c.rounds._round) parts_give_dead (work_of c.args.args.now c.rounds.self)
    (work_of c.args.args.now c.give_dead.new.self) _ c.in_ok-give_dead.field-0 c.in_ok-give_dead.ensures.ok c.if-not-branch.true
    c.rounds.invariant.same (c.in_ok-give_dead.ensures.still c.if-not-branch.true)
