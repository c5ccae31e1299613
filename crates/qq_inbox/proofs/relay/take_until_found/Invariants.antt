use Rattle.std.proofs.Common.{◌≡◌}
use Rattle.qq_inbox.specs.Inbox.{view, IsPassOf}
use Rattle.qq_inbox.proofs.relay.take_until_found.Given as goal

-- nothing is taken yet
abbrev pub invariant-tries : goal.invariant-tries
invariant-tries g l = IsPassOf l.inbox l.pass × (view l.pass ≡ view l.fn.pass)
