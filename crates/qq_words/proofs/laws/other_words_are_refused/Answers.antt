use Rattle.std.proofs.Common.{refl}
use Rattle.clap.proofs.OnLiterals.{clap_on_literals}
use Rattle.qq_words.specs.Words.{read_words}
use Rattle.qq_words.proofs.laws.other_words_are_refused.Goals as goal

pub returns-clause-no_words : goal.returns-clause-no_words
unfolding read_words clap_on_literals
returns-clause-no_words c = refl

pub returns-clause-no_command : goal.returns-clause-no_command
unfolding read_words clap_on_literals
returns-clause-no_command c = refl

pub returns-clause-two_commands : goal.returns-clause-two_commands
unfolding read_words clap_on_literals
returns-clause-two_commands c = refl

pub returns-clause-help : goal.returns-clause-help
unfolding read_words clap_on_literals
returns-clause-help c = refl

pub returns-clause-helps : goal.returns-clause-helps
unfolding read_words clap_on_literals
returns-clause-helps c = refl

pub returns-clause-version : goal.returns-clause-version
unfolding read_words clap_on_literals
returns-clause-version c = refl

pub returns-clause-twice : goal.returns-clause-twice
unfolding read_words clap_on_literals
returns-clause-twice c = refl

pub returns-clause-flag_twice : goal.returns-clause-flag_twice
unfolding read_words clap_on_literals
returns-clause-flag_twice c = refl

pub returns-clause-flag_value : goal.returns-clause-flag_value
unfolding read_words clap_on_literals
returns-clause-flag_value c = refl

pub returns-clause-no_value : goal.returns-clause-no_value
unfolding read_words clap_on_literals
returns-clause-no_value c = refl

pub returns-clause-option_as_value : goal.returns-clause-option_as_value
unfolding read_words clap_on_literals
returns-clause-option_as_value c = refl

pub returns-clause-sign : goal.returns-clause-sign
unfolding read_words clap_on_literals
returns-clause-sign c = refl

pub returns-clause-hyphen : goal.returns-clause-hyphen
unfolding read_words clap_on_literals
returns-clause-hyphen c = refl

pub returns-clause-ends : goal.returns-clause-ends
unfolding read_words clap_on_literals
returns-clause-ends c = refl

pub returns-clause-empty : goal.returns-clause-empty
unfolding read_words clap_on_literals
returns-clause-empty c = refl

pub returns-clause-empty_number : goal.returns-clause-empty_number
unfolding read_words clap_on_literals
returns-clause-empty_number c = refl

pub returns-clause-zero : goal.returns-clause-zero
unfolding read_words clap_on_literals
returns-clause-zero c = refl

pub returns-clause-leading_zero : goal.returns-clause-leading_zero
unfolding read_words clap_on_literals
returns-clause-leading_zero c = refl

pub returns-clause-plus : goal.returns-clause-plus
unfolding read_words clap_on_literals
returns-clause-plus c = refl

pub returns-clause-no_node : goal.returns-clause-no_node
unfolding read_words clap_on_literals
returns-clause-no_node c = refl

pub returns-clause-many_nodes : goal.returns-clause-many_nodes
unfolding read_words clap_on_literals
returns-clause-many_nodes c = refl

pub returns-clause-many_members : goal.returns-clause-many_members
unfolding read_words clap_on_literals
returns-clause-many_members c = refl

pub returns-clause-many : goal.returns-clause-many
unfolding read_words clap_on_literals
returns-clause-many c = refl

pub returns-clause-least : goal.returns-clause-least
unfolding read_words clap_on_literals
returns-clause-least c = refl

pub returns-clause-most : goal.returns-clause-most
unfolding read_words clap_on_literals
returns-clause-most c = refl

pub returns-clause-other : goal.returns-clause-other
unfolding read_words clap_on_literals
returns-clause-other c = refl

pub returns-clause-short : goal.returns-clause-short
unfolding read_words clap_on_literals
returns-clause-short c = refl

pub returns-clause-queues_twice : goal.returns-clause-queues_twice
unfolding read_words clap_on_literals
returns-clause-queues_twice c = refl

pub returns-clause-group_twice : goal.returns-clause-group_twice
unfolding read_words clap_on_literals
returns-clause-group_twice c = refl

pub returns-clause-no_root : goal.returns-clause-no_root
unfolding read_words clap_on_literals
returns-clause-no_root c = refl

pub returns-clause-no_dumped : goal.returns-clause-no_dumped
unfolding read_words clap_on_literals
returns-clause-no_dumped c = refl

pub returns-clause-dumped : goal.returns-clause-dumped
unfolding read_words clap_on_literals
returns-clause-dumped c = refl

pub returns-clause-no_drill : goal.returns-clause-no_drill
unfolding read_words clap_on_literals
returns-clause-no_drill c = refl

pub returns-clause-two_drills : goal.returns-clause-two_drills
unfolding read_words clap_on_literals
returns-clause-two_drills c = refl

pub returns-clause-drill_zero : goal.returns-clause-drill_zero
unfolding read_words clap_on_literals
returns-clause-drill_zero c = refl

pub returns-clause-drill_digits : goal.returns-clause-drill_digits
unfolding read_words clap_on_literals
returns-clause-drill_digits c = refl

pub returns-clause-drills : goal.returns-clause-drills
unfolding read_words clap_on_literals
returns-clause-drills c = refl

pub returns-clause-drilled : goal.returns-clause-drilled
unfolding read_words clap_on_literals
returns-clause-drilled c = refl

pub returns-clause-drill_queues : goal.returns-clause-drill_queues
unfolding read_words clap_on_literals
returns-clause-drill_queues c = refl
