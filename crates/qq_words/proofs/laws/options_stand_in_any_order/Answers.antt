use Rattle.std.proofs.Common.{refl}
use Rattle.clap.proofs.OnLiterals.{clap_on_literals}
use Rattle.qq_words.specs.Words.{read_words}
use Rattle.qq_words.proofs.laws.options_stand_in_any_order.Goals as goal

pub returns-clause-none : goal.returns-clause-none
unfolding read_words clap_on_literals
returns-clause-none c = refl

pub returns-clause-both : goal.returns-clause-both
unfolding read_words clap_on_literals
returns-clause-both c = refl

pub returns-clause-turned : goal.returns-clause-turned
unfolding read_words clap_on_literals
returns-clause-turned c = refl

pub returns-clause-nodes : goal.returns-clause-nodes
unfolding read_words clap_on_literals
returns-clause-nodes c = refl

pub returns-clause-files : goal.returns-clause-files
unfolding read_words clap_on_literals
returns-clause-files c = refl

pub returns-clause-dump : goal.returns-clause-dump
unfolding read_words clap_on_literals
returns-clause-dump c = refl

pub returns-clause-drill : goal.returns-clause-drill
unfolding read_words clap_on_literals
returns-clause-drill c = refl

pub returns-clause-drill_last : goal.returns-clause-drill_last
unfolding read_words clap_on_literals
returns-clause-drill_last c = refl

pub returns-clause-drill_first : goal.returns-clause-drill_first
unfolding read_words clap_on_literals
returns-clause-drill_first c = refl
