use Rattle.qq_words.proofs.Limits.{drill-within, dump-within, script-within}
use Rattle.qq_words.proofs.laws.options_are_within_limits.Goals as goal

pub returns-clause-script : goal.returns-clause-script
returns-clause-script c = script-within

pub returns-clause-dump : goal.returns-clause-dump
returns-clause-dump c = dump-within

pub returns-clause-drill : goal.returns-clause-drill
returns-clause-drill c = drill-within
