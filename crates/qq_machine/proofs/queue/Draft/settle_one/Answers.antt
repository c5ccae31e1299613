use Rattle.std.proofs.Common.{ℕ, ◌+◌, Bool, ap, sym, subst, ◌∙◌, if◌then◌else◌}
use Rattle.qq_parts.specs.Commands.{DeadSettled}
use Rattle.qq_dead.specs.Letters.{DeadState, Rises}
use Rattle.qq_machine.specs.Views.{work_of}
use Rattle.qq_machine.proofs.Dead.{with_letters, settles-one}
use Rattle.qq_machine.proofs.queue.Draft.settle_one.Goals as goal

pub returns-clause-ok : goal.returns-clause-ok
returns-clause-ok c =
    settles-one c.args.args.now c.args.self.now c.args.term.0 c.args.number c.args.count c.in_ok-settled.settled
    c.settle.new.self.store.letters c.requires (subst (λ (d : DeadState). Rises d.letters.rows) c.store.ensures c.counters.ensures.numbered.rising)
    c.in_ok-settled.ensures.value
    c.in_ok-settled.ensures.letters
    ∙ ap (λ (n : ℕ). let s : DeadSettled = record {
      work = with_letters c.settle.new.self.store.letters (work_of c.args.args.now c.args.self.now);
      count = n;
    } in s)
    (ap (λ (b : Bool). if b then c.args.count + 1 else c.args.count) (sym c.is_some-did.ensures)
    ∙ sym c.in_ok-after.ensures.ok)
