use Rattle.std.proofs.Common.{◌≡◌, drop}
use Rattle.qq_consuming.specs.Consuming.{not_taken}
use Rattle.qq_consuming.proofs.consuming.Consuming.claim.Given as goal

abbrev pub invariant-loop-id : goal.invariant-loop-id
invariant-loop-id l = not_taken (drop l.id-index l.ids) l.self ≡ not_taken l.ids l.self
