-- The number of a state's last op is the count of its ops.
use Rattle.std.proofs.Common.{◌≡◌, ◌+◌, Bool, true, false, cond, List, [], ◌∷◌, length, Option, Some, None, refl, sym, ap, ◌∙◌, arith}
use Rattle.std.specs.Prelude.{fold}
use Rattle.std.proofs.lemmas.Bool.{eqb-true}
use Rattle.qq_log.specs.declared.op.Op.{Op}
use Rattle.qq_log.specs.declared.op.Op.TheVariants.{Change, SnapshotMade, SegmentMade}
use Rattle.qq_log.specs.Op.{number}
use Rattle.qq_log.specs.Stable.{Stable, new_state, follows, may_keep, may_rebase, has_range, change, rebase, add_segment, act, apply_op, then_apply, apply_ops, stable}

-- what a test lets through
chosen : (b : Bool) (x u : Stable) → cond b (Some x) None ≡ Some u → u.op ≡ x.op
chosen true x u is = let same : x ≡ u = cc in ap (λ (t : Stable). t.op) (sym same)
chosen false x u is = absurd cc

act-op : (s u : Stable) (op : Op) → act s op ≡ Some u → u.op ≡ s.op
unfolding change rebase add_segment
act-op s u (Change queue op term vote keep entries) is =
    chosen (may_keep s keep.0) (change s term vote keep.0 entries) u is
act-op s u (SnapshotMade queue op head file) is = chosen (may_rebase s head) (rebase s head file) u is
act-op s u (SegmentMade queue op file first last) is =
    chosen (has_range s first.0 last.0) (add_segment s file first last) u is

apply_op-count : (s u : Stable) (op : Op) → apply_op s op ≡ Some u → u.op ≡ s.op + 1
unfolding apply_op
apply_op-count s u op is = by (follows s (number op)) refl is
  where
    by : (b : Bool) → follows s (number op) ≡ b
        → cond b (act (record s { op = number op }) op) None ≡ Some u → u.op ≡ s.op + 1
    by true next made = act-op (record s { op = number op }) u op made ∙ eqb-true (number op) (s.op + 1) next
    by false next made = absurd cc

apply_ops-none : (ops : List Op) → fold then_apply None ops ≡ None
apply_ops-none [] = refl
apply_ops-none (op ∷ ops) = apply_ops-none ops

apply_ops-count : (ops : List Op) (s u : Stable) → apply_ops s ops ≡ Some u → u.op ≡ s.op + length ops
apply_ops-count [] s u is = let same : s ≡ u = cc in omega (arith, ap (λ (t : Stable). t.op) same)
apply_ops-count (op ∷ ops) s u is =
    by (apply_op s op) refl (λ t rest. apply_ops-count ops t u rest) is
  where
    by : (o : Option Stable) → apply_op s op ≡ o
        → ((t : Stable) → apply_ops t ops ≡ Some u → u.op ≡ t.op + length ops)
        → fold then_apply o ops ≡ Some u → u.op ≡ s.op + length (op ∷ ops)
    by None first count rest = absurd (cc (sym (apply_ops-none ops) ∙ rest))
    by (Some t) first count rest = omega (arith, count t rest, apply_op-count s t op first)

pub state-count : (ops : List Op) (s : Stable) → stable ops ≡ Some s → s.op ≡ length ops
state-count ops s is = omega (arith, apply_ops-count ops new_state s is)
