use Rattle.std.proofs.Common.{◌≡◌, ◌++◌}
use Rattle.std.specs.Map.{values_of}
use Rattle.std.specs.VecDeque.Iter.{deque_iter_rest}
use Rattle.qq_session.specs.Publishing.{open_commands}
use Rattle.qq_session.proofs.publishing.Publishing.resend.Given as goal

-- those so far and the rest are all
abbrev pub invariant-commands : goal.invariant-commands
invariant-commands l = l.commands.items ++ values_of (deque_iter_rest l.one-iterator) ≡ open_commands l.self
