use Rattle.std.proofs.Common.{ap, ◌∙◌}
use Rattle.std.proofs.lemmas.List.{append-nil}
use Rattle.qq_log.specs.Stable.{stable}
use Rattle.qq_raft_model.specs.Server.{step}
use Rattle.qq_raft_model.proofs.Handing.{comes-to, continues-step, same-lane}
use Rattle.qq_raft_model.proofs.laws.a_server_works_on_what_it_handed_out.Goals as goal

pub returns-clause-one : goal.returns-clause-one
returns-clause-one c = λ s input. continues-step s input

pub returns-clause-step : goal.returns-clause-step
returns-clause-step c = λ ops s input is. comes-to ops s (step s input) (continues-step s input) is

pub returns-clause-restart : goal.returns-clause-restart
returns-clause-restart c = λ ops node nodes lane is. ap stable (append-nil ops) ∙ is

pub returns-clause-lane : goal.returns-clause-lane
returns-clause-lane c = λ s. same-lane s
