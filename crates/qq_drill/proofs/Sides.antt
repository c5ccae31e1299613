-- What is known of one queue is changed in its place.
use Rattle.std.proofs.Common.{◌≡◌, ◌<◌, ◌-◌, ◌∙◌, ℕ, Result, Ok, Err, OnErr, OnOk, List, length, get_or, map, set, ap, sym}
use Rattle.std.proofs.lemmas.List.{get_or-map, map-set}
use Rattle.std.proofs.Math.Seq.{map-set_same}
use Rattle.qq_drill.specs.Drill.{Side, new_side, put_side, side_at, side_of}
use Rattle.qq_drill.specs.declared.side.Side.{Side as SideRow}

pub sides-set : (f : Side → Side) (xs : List SideRow) (queue place : ℕ) (was new : SideRow) → place ≡ queue - 1
    → place < length xs → side_of new ≡ f (side_of (get_or xs place was))
    → map side_of (set xs place new) ≡ put_side queue (f (side_at queue (map side_of xs))) (map side_of xs)
sides-set f xs queue place was new at lt made =
    map-set side_of xs place new
    ∙ ap (set (map side_of xs) place) (made ∙ ap f (sym (get_or-map side_of xs place was new_side lt)))
    ∙ ap (λ (i : ℕ). set (map side_of xs) i (f (get_or (map side_of xs) i new_side))) at

pub sides-set_ok : {E : Type 0} (r : Result (Unit {0}) E) (f : Side → Side) (xs : List SideRow) (queue place : ℕ)
    (was new : SideRow) → place ≡ queue - 1 → place < length xs
    → OnOk r (side_of new ≡ f (side_of (get_or xs place was)))
    → OnOk r (map side_of (set xs place new) ≡ put_side queue (f (side_at queue (map side_of xs))) (map side_of xs))
sides-set_ok (Ok done) f xs queue place was new at lt made = sides-set f xs queue place was new at lt made
sides-set_ok (Err cause) f xs queue place was new at lt made = tt

pub sides-set_err : {E : Type 0} (r : Result (Unit {0}) E) (xs : List SideRow) (place : ℕ) (was new : SideRow)
    → OnErr r (side_of new ≡ side_of (get_or xs place was)) → OnErr r (map side_of (set xs place new) ≡ map side_of xs)
sides-set_err (Ok done) xs place was new same = tt
sides-set_err (Err cause) xs place was new same = map-set_same side_of xs place new was same
