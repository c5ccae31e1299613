use Rattle.std.proofs.Common.{◌≡◌, ℕ, ◌+◌, ◌-◌, ◌*◌, ◌++◌, List, length, map, take, drop, ap, ◌∙◌, arith, length-drop, sym}
use Rattle.std.specs.List.{sum}
use Rattle.std.proofs.lemmas.List.{length-take-le, map-append}
use Rattle.std.proofs.lemmas.List.Sums.{sum_by-append}
use Rattle.std.specs.Borrow.{Bor}
use Rattle.sha2.specs.Sha256.{sha256}
use Rattle.qq_digests.specs.Pieces.{pieces}
use Rattle.qq_digests.proofs.Lengths.{digests_of, group_added, group_and_rest, pieces-append}
use Rattle.qq_digests.proofs.put_digests.Goals as goal

pub groups-preserved : goal.groups-preserved
groups-preserved c =
    let p = c.args.prefix.now in
    let ns = c.args.lengths.now in
    let at : ℕ = 8 * c.groups.i in
    let end : ℕ = c.min-end.result in
    let next : 8 * (c.groups.i + 1) ≡ at + 8 = omega arith in
    let of = map (λ (piece : List ℕ). sha256 (p ++ piece)) in
    let bytes = c.groups.rest.now in
    let group = take (end - at) (drop at ns) in
    let rest = drop (8 * (c.groups.i + 1)) ns in
    let parts = group_and_rest ns at end (omega (arith, c.min-end.ensures)) (λ h. omega (arith, c.min-end.ensures))
    (λ h. omega (arith, c.min-end.ensures)) in
    let long : length group ≡ end - at =
    length-take-le (end - at) (drop at ns) (omega (arith, c.min-end.ensures, length-drop at ns)) in
    let more : pieces (drop at ns) bytes ≡ pieces group bytes ++ pieces rest c.pieces.result.1.now =
    ap (λ (l : List ℕ). pieces l bytes) (rw (← next) at parts) ∙ pieces-append group rest bytes
    ∙ ap (λ (l : List ℕ). pieces group bytes ++ pieces rest l) (sym c.pieces.ensures.rest) in
    let found : map (λ (m : Bor (List ℕ)). m.now) (take (end - at) c.pieces.result.0) ≡ pieces group bytes =
    ap (λ (k : ℕ). map (λ (m : Bor (List ℕ)). m.now) (take k c.pieces.result.0)) (sym long) ∙ c.pieces.ensures.pieces in
    let sums : sum (drop at ns) ≡ sum group + sum rest =
    ap sum (rw (← next) at parts) ∙ sum_by-append (λ (n : ℕ). n) group rest in
    record {
      added =
          group_added c.put_some.new.out.items c.groups.out.items (of (pieces (drop at ns) bytes)) _
          (of (pieces group bytes)) (of (pieces rest c.pieces.result.1.now))
          (c.in_ok-put_some.ensures.ok
          ∙ ap (λ (l : List (List ℕ)). c.groups.out.items ++ l)
          (digests_of p (take (end - at) c.pieces.result.0) ∙ ap of found))
          (ap of more ∙ map-append _ (pieces group bytes) (pieces rest c.pieces.result.1.now)) c.groups.invariant.added;
      room = rw c.pieces.ensures.rest (omega (arith, sums, length-drop (sum group) bytes, c.groups.invariant.room));
    }
