-- The lanes that are handed out, one after the other.
use Rattle.std.proofs.Common.{◌∙◌, List, [], ◌∷◌, ◌++◌, Option, Some, None, sym, ap, subst, append_assoc}
use Rattle.qq_base.specs.declared.ids.QueueId.{QueueId}
use Rattle.qq_log.specs.declared.lane.Lane.{Lane}
use Rattle.qq_log.specs.Stable.{Stable}
use Rattle.qq_wal_chain.specs.Image.{put}
use Rattle.qq_wal_chain.specs.Lanes.{Lanes}
use Rattle.qq_recover.specs.Lanes.{Begins, AreLanes, IsAdded, AddsLane}

-- what holds of all lanes, where those of one queue more are taken out
pub lanes-more : (P : List Lane → Type 0) (queues : List QueueId) (id : QueueId) (old new : Lanes)
    (before after later : List Lane) → AddsLane id old new before after
    → ((later : List Lane) → AreLanes (id ∷ queues) old later → P (before ++ later)) → AreLanes queues new later
    → P (after ++ later)
lanes-more P queues id old new before after later adds all h =
    by (old id.0) all adds.lane (subst (λ (lanes : Lanes). AreLanes queues lanes later) adds.rest h)
  where
    by : (o : Option Stable)
        → ((later : List Lane) → Begins (AreLanes queues (put old id.0 None)) id o later → P (before ++ later))
        → IsAdded id o before after → AreLanes queues (put old id.0 None) later → P (after ++ later)
    by None all same h = subst P (ap (λ (l : List Lane). l ++ later) (sym same)) (all later h)
    by (Some s) all one h =
        subst P (sym (ap (λ (l : List Lane). l ++ later) one.1 ∙ append_assoc before (one.0 ∷ []) later))
        (all (one.0 ∷ later) (one.2, one.3, h))
