use Rattle.std.proofs.Common.{◌≡◌, ℕ, ◌+◌, ◌-◌, ◌*◌, List, map, take, drop, ap, ◌∙◌, arith}
use Rattle.std.specs.Borrow.{Bor}
use Rattle.sha2.specs.Sha256.{sha256}
use Rattle.qq_digests.specs.Lanes.{with_prefix}
use Rattle.qq_digests.proofs.Lengths.{digests-append, group_added, group_and_rest}
use Rattle.qq_digests.proofs.put_all.Goals as goal

pub groups-preserved : goal.groups-preserved
groups-preserved c =
    let p = c.args.prefix.now in
    let ms = c.args.messages.now in
    let at : ℕ = 8 * c.groups.i in
    let end : ℕ = c.min-end.result in
    let next : 8 * (c.groups.i + 1) ≡ at + 8 = omega arith in
    let of = λ (l : List (Bor (List ℕ))). map sha256 (with_prefix p l) in
    let group = take (end - at) (drop at ms) in
    let rest = drop (8 * (c.groups.i + 1)) ms in
    let parts = group_and_rest ms at end (omega (arith, c.min-end.ensures)) (λ h. omega (arith, c.min-end.ensures))
    (λ h. omega (arith, c.min-end.ensures)) in
    group_added c.put_some.new.out.items c.groups.out.items (of (drop at ms)) _ (of group) (of rest)
    c.in_ok-put_some.ensures.ok
    (ap of (rw (← next) at parts) ∙ digests-append p group rest) c.groups.invariant
