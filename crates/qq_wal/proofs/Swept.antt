-- Changes name no file beside the log.
use Rattle.std.proofs.Common.{◌≡◌, arith, ℕ, map, Bool, true, false, cond, List, [], ◌∷◌, ◌++◌, Option, Some, None, refl, subst, ap, ◌∙◌}
use Rattle.std.specs.Prelude.{All}
use Rattle.std.specs.List.{AllByRecursion, Contains, fold}
use Rattle.std.proofs.lemmas.List.Elements.{recursion_from_All}
use Rattle.qq_base.proofs.Fronts.{all-front}
use Rattle.qq_disk.specs.declared.name.FileName.{FileName}
use Rattle.qq_log.specs.declared.head.Span.{Span}
use Rattle.qq_log.specs.declared.op.Op.{Op}
use Rattle.qq_log.specs.declared.op.Op.TheVariants.{Change, SnapshotMade, SegmentMade}
use Rattle.qq_log.specs.Stable.{Stable, new_state, apply_op, change, follows, may_keep, segments_between, then_apply, stable}
use Rattle.qq_log.specs.Writable.{IsChange}
use Rattle.qq_wal.specs.Sweep.{files_named, segment_file, snapshot_file, IsReplaced}

-- a state that names no file beside the log
abbrev NamesNone : Option Stable → Type 0
NamesNone None = Unit {0}
NamesNone (Some s) = (s.snapshot ≡ 0) × (s.segments ≡ [])

none-then : (o : Option Stable) (op : Op) → NamesNone o → IsChange op → NamesNone (then_apply o op)
unfolding apply_op change
none-then None op none is = tt
none-then (Some s) (SnapshotMade id n head file) none is = absurd is
none-then (Some s) (SegmentMade id n file first last) none is = absurd is
none-then (Some s) (Change id n term vote keep entries) none is =
    by (follows s n) (may_keep (record s { op = n }) keep.0)
  where
    by : (t u : Bool) → NamesNone (cond t (cond u (Some (change (record s { op = n }) term vote keep.0 entries)) None) None)
    by true true = (none.0, ap (λ (spans : List Span). segments_between s.base.index.0 keep.0 spans) none.1)
    by true false = tt
    by false u = tt

none-all : (ops : List Op) (o : Option Stable) → NamesNone o → AllByRecursion IsChange ops → NamesNone (fold then_apply o ops)
none-all [] o none all = none
none-all (op ∷ ops) o none all = none-all ops (then_apply o op) (none-then o op none all.0) all.1

named-none : (o : Option Stable) → NamesNone o → files_named o ≡ []
named-none None none = refl
named-none (Some s) none =
    ap (λ (n : ℕ). snapshot_file n ++ map segment_file s.segments) none.0
    ∙ ap (λ (spans : List Span). map segment_file spans) none.1

pub none-replaced : (ops : List Op) → All IsChange ops → (file : FileName) → IsReplaced ops file → ⊥
none-replaced ops all file is =
    let each : AllByRecursion IsChange is.earlier = all-front IsChange is.earlier is.front.rest
    (subst (AllByRecursion IsChange) is.front.is (recursion_from_All IsChange ops all)) in
    nowhere file (subst (λ (names : List FileName). Contains names file)
    (named-none (stable is.earlier) (none-all is.earlier (Some new_state) (refl, refl) each)) is.named)
  where
    nowhere : (file : FileName) → Contains [] file → ⊥
    nowhere file has = absurd (omega (arith, has.1))
