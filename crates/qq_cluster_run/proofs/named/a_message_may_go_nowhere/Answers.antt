use Rattle.std.proofs.Common.{refl}
use Rattle.std.specs.Char.{encode_utf8}
use Rattle.std.specs.Fmt.{digits}
use Rattle.std.specs.Str.{chars, is_utf8}
use Rattle.qq_script_lines.specs.Arguments.{send}
use Rattle.qq_script_lines.specs.Lines.{read}
use Rattle.qq_cluster_run.proofs.named.a_message_may_go_nowhere.Goals as goal

pub returns-clause-exchange : goal.returns-clause-exchange
unfolding is_utf8 chars encode_utf8 digits read send
returns-clause-exchange c = λ s. refl

pub returns-clause-queue : goal.returns-clause-queue
unfolding is_utf8 chars encode_utf8 digits read send
returns-clause-queue c = λ s. refl

pub returns-clause-words : goal.returns-clause-words
unfolding is_utf8 chars encode_utf8 digits read send
returns-clause-words c = λ s. refl

pub returns-clause-number : goal.returns-clause-number
unfolding is_utf8 chars encode_utf8 digits read send
returns-clause-number c = λ s. refl

pub returns-clause-body : goal.returns-clause-body
unfolding is_utf8 chars encode_utf8 digits read send
returns-clause-body c = λ s. refl

pub returns-clause-longest : goal.returns-clause-longest
unfolding is_utf8 chars encode_utf8 digits read send
returns-clause-longest c = λ s. refl
