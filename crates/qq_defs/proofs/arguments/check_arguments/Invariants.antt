use Rattle.std.proofs.Common.{◌≡◌}
use Rattle.serde_json.specs.View.{members_view}
use Rattle.qq_defs.specs.Arguments.{check_arguments}
use Rattle.qq_defs.proofs.arguments.check_arguments.Given as goal

-- what the rest gives, all gives
abbrev pub invariant-loop-key : goal.invariant-loop-key
invariant-loop-key l =
    check_arguments (members_view l.key-iterator) ≡ check_arguments (members_view l.arguments.entries)
