use Rattle.std.proofs.Common.{ℕ, ◌+◌, take, length, ap, sym, ◌∙◌, arith}
use Rattle.qq_parts.specs.Parts.{outs}
use Rattle.qq_machine.proofs.Lists.{outs-more}
use Rattle.qq_machine.proofs.counted.out_count.Goals as goal

pub consumers-preserved : goal.consumers-preserved
consumers-preserved c =
    c.in_ok-more.ensures.ok ∙ ap (λ (n : ℕ). n + c.out_at.result) c.consumers.invariant
    ∙ ap (λ (n : ℕ). length (outs (take c.consumers.place c.args.consumers.now.roster.served)) + n)
    (sym c.out_at.ensures)
    ∙ outs-more c.args.consumers.now.roster.served c.consumers.place (omega (arith, c.len-place-end.ensures.len))
