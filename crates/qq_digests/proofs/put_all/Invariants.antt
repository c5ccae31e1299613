use Rattle.std.proofs.Common.{◌≡◌, ◌*◌, ◌++◌, map, drop}
use Rattle.sha2.specs.Sha256.{sha256}
use Rattle.qq_digests.specs.Lanes.{with_prefix}
use Rattle.qq_digests.proofs.put_all.Given as goal

-- what was added and the digests of the rest are all
abbrev pub invariant-groups : goal.invariant-groups
invariant-groups l =
    l.out.items ++ map sha256 (with_prefix l.prefix (drop (8 * l.i) l.messages))
    ≡ l.initial.out.items ++ map sha256 (with_prefix l.prefix l.messages)
