use Rattle.qq_entry.specs.declared.command.Command.TheVariants.{Cancel, Down}
use Rattle.qq_cluster_pins.proofs.Asked.{leaves-nobody, leaves-of, leaves-open, rows-leave}
use Rattle.qq_cluster_pins.proofs.takers.takers_are_dropped_at_answers.Goals as goal

pub returns-clause-cancel : goal.returns-clause-cancel
returns-clause-cancel c = λ seats row stamp tag. leaves-of seats row (Cancel stamp tag)

pub returns-clause-down : goal.returns-clause-down
returns-clause-down c = λ seats row session. leaves-of seats row (Down session)

pub returns-clause-open : goal.returns-clause-open
returns-clause-open c = leaves-open

pub returns-clause-others : goal.returns-clause-others
returns-clause-others c = leaves-nobody

pub returns-clause-rows : goal.returns-clause-rows
returns-clause-rows c = rows-leave
