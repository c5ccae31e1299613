use Rattle.std.proofs.Common.{ℕ, ◌+◌, ◌≤◌, Bool, drop, ap, sym, ◌∙◌, subst, arith, if◌then◌else◌}
use Rattle.std.specs.Prelude.{count_by}
use Rattle.qq_machine.specs.Reads.{is_current}
use Rattle.qq_machine.proofs.Reading.{count-more, count-within}
use Rattle.qq_machine.proofs.reads.current_count.Goals as goal

pub consumers-preserved : goal.consumers-preserved
consumers-preserved c =
    let served = c.args.consumers.now.roster.served in
    record {
      all =
          ap (λ (n : ℕ). n + count_by is_current (drop (c.consumers.place + 1) served))
          (c.count_after-count.ensures
          ∙ ap (λ (b : Bool). if b then c.consumers.count + 1 else c.consumers.count) c.is_current-more.ensures)
          ∙ count-more is_current served c.consumers.place c.consumers.count
          (omega (arith, c.len-place-end.ensures.len)) c.consumers.invariant.all;
      within =
          subst (λ (n : ℕ). n ≤ c.consumers.place + 1) (sym c.count_after-count.ensures)
          (count-within c.is_current-more.result c.consumers.count c.consumers.place c.consumers.invariant.within);
    }
