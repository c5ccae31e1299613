use Rattle.std.proofs.Common.{◌+◌, ◌∙◌, sym}
use Rattle.std.proofs.lemmas.Bool.{ne_eqb}
use Rattle.qq_recover.proofs.States.{change-apart}
use Rattle.qq_recover.proofs.state.followed.Goals as goal

pub returns-clause-ok : goal.returns-clause-ok
returns-clause-ok c = λ queue.
    sym (change-apart c.args.state queue c.args.op c.args.term c.args.vote c.args.keep c.args.entries
    (c.requires.within queue)
    (ne_eqb c.args.op (c.args.state.op + 1) (λ same. c.if-op-next.false (same ∙ sym c.next.ensures))))
