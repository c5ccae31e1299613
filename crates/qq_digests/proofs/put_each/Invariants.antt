use Rattle.std.proofs.Common.{◌≡◌, ◌++◌, map, take}
use Rattle.sha2.specs.Sha256.{sha256}
use Rattle.qq_digests.specs.Lanes.{with_prefix}
use Rattle.qq_digests.proofs.put_each.Given as goal

abbrev pub invariant-messages : goal.invariant-messages
invariant-messages l =
    l.out.items ≡ l.initial.out.items ++ map sha256 (with_prefix l.prefix (take l.message-index l.messages))
