-- The lanes of queues, in their order.
use Rattle.std.proofs.Common.{◌≡◌, ◌||◌, ℕ, Bool, true, false, cond, eqb, List, [], ◌∷◌, length, Option, Some, None, refl, sym, ap, ◌∙◌, arith}
use Rattle.std.specs.List.{AllByRecursion, list_any}
use Rattle.std.proofs.lemmas.Bool.{eq-eqb, eqb-true}
use Rattle.std.proofs.lemmas.List.{length-map}
use Rattle.qq_base.specs.declared.ids.QueueId.{QueueId}
use Rattle.qq_base.proofs.Lists.{AllByRecursion-weaker}
use Rattle.qq_log.specs.Carries.{is_listed}
use Rattle.qq_log.specs.declared.head.SnapshotHead.{SnapshotHead}
use Rattle.qq_log.specs.declared.lane.Lane.{Lane}
use Rattle.qq_log.specs.Log.{last_of, log_of}
use Rattle.qq_log.specs.Stable.{Stable, last_index}
use Rattle.qq_wal_chain.specs.Image.{put}
use Rattle.qq_wal_chain.specs.Lanes.{Lanes}
use Rattle.qq_recover.specs.Lanes.{AreLanes, Begins}
use Rattle.qq_recover.specs.Recovered.{IsLaneFor}
use Rattle.qq_recover.specs.State.{IsPlainLaneOf}
use Rattle.qq_disk_pins.specs.Told.{IsTold}

-- what is told without a queue is told
told-before : (lanes : Lanes) (n : ℕ) (lane : Lane) → IsTold (put lanes n None) lane → IsTold lanes lane
told-before lanes n lane (state, is, plain) = (state, by (eqb n lane.queue.0) is, plain)
  where
    by : (t : Bool) → cond t None (lanes lane.queue.0) ≡ Some state → lanes lane.queue.0 ≡ Some state
    by true e = absurd cc
    by false e = e

pub all-told : (queues : List QueueId) (lanes : Lanes) (list : List Lane) → AreLanes queues lanes list
    → AllByRecursion (IsTold lanes) list
all-told [] lanes [] are = tt
all-told [] lanes (lane ∷ list) are = absurd are
all-told (id ∷ queues) lanes list are = by (lanes id.0) refl list are (all-told queues (put lanes id.0 None))
  where
    rest : (list : List Lane) → AllByRecursion (IsTold (put lanes id.0 None)) list → AllByRecursion (IsTold lanes) list
    rest list told =
        AllByRecursion-weaker (IsTold (put lanes id.0 None)) (IsTold lanes) (λ lane. told-before lanes id.0 lane) list
        told

    by : (o : Option Stable) → lanes id.0 ≡ o → (list : List Lane)
        → Begins (AreLanes queues (put lanes id.0 None)) id o list
        → ((list : List Lane) → AreLanes queues (put lanes id.0 None) list
        → AllByRecursion (IsTold (put lanes id.0 None)) list) → AllByRecursion (IsTold lanes) list
    by None e list are later = rest list (later list are)
    by (Some s) e [] are later = absurd are
    by (Some s) e (lane ∷ list) are later =
        ((s, ap (λ (q : QueueId). lanes q.0) are.0 ∙ e, are.1), rest list (later list are.2))

abbrev Has : QueueId → List Lane → Type 0
Has id list = list_any (λ (lane : Lane). eqb lane.queue.0 id.0) list ≡ true

has-more : (id : QueueId) (lane : Lane) (list : List Lane) → Has id list → Has id (lane ∷ list)
has-more id lane list has = by (eqb lane.queue.0 id.0)
  where
    by : (t : Bool) → (t || list_any (λ (lane : Lane). eqb lane.queue.0 id.0) list) ≡ true
    by true = refl
    by false = has

has-first : (id : QueueId) (lane : Lane) (list : List Lane) → lane.queue.0 ≡ id.0 → Has id (lane ∷ list)
has-first id lane list same =
    ap (λ (t : Bool). t || list_any (λ (lane : Lane). eqb lane.queue.0 id.0) list)
    (eq-eqb lane.queue.0 id.0 same)

pub every-has : (queues : List QueueId) (lanes : Lanes) (list : List Lane) (id : QueueId) (state : Stable)
    → AreLanes queues lanes list → is_listed queues id ≡ true → lanes id.0 ≡ Some state → Has id list
every-has [] lanes list id state are listed is = absurd cc
every-has (q ∷ queues) lanes list id state are listed is =
    by (eqb q.0 id.0) refl (lanes q.0) refl list are listed
    (λ (list : List Lane). every-has queues (put lanes q.0 None) list id state)
  where
    by : (t : Bool) → eqb q.0 id.0 ≡ t → (o : Option Stable) → lanes q.0 ≡ o → (list : List Lane)
        → Begins (AreLanes queues (put lanes q.0 None)) q o list → (t || is_listed queues id) ≡ true
        → ((list : List Lane) → AreLanes queues (put lanes q.0 None) list → is_listed queues id ≡ true
        → put lanes q.0 None id.0 ≡ Some state → Has id list) → Has id list
    by true e None none list are listed later =
        absurd (cc (sym none ∙ ap lanes (eqb-true q.0 id.0 e) ∙ is))
    by true e (Some s) some [] are listed later = absurd are
    by true e (Some s) some (lane ∷ list) are listed later =
        has-first id lane list (ap (λ (i : QueueId). i.0) are.0 ∙ eqb-true q.0 id.0 e)
    by false e None none list are listed later =
        later list are listed (ap (λ (t : Bool). cond t None (lanes id.0)) e ∙ is)
    by false e (Some s) some [] are listed later = absurd are
    by false e (Some s) some (lane ∷ list) are listed later =
        has-more id lane list (later list are.2 listed (ap (λ (t : Bool). cond t None (lanes id.0)) e ∙ is))

-- ---- one lane

pub none-handed : (id : QueueId) (found : Option Lane) → IsLaneFor id None found → found ≡ None
none-handed id None is = refl
none-handed id (Some lane) is = absurd is

pub one-handed : (id : QueueId) (state : Stable) (found : Option Lane) → IsLaneFor id (Some state) found
    → (lane : Lane) × (found ≡ Some lane) × (lane.queue ≡ id) × IsPlainLaneOf state lane
one-handed id state None is = absurd is
one-handed id state (Some lane) is = (lane, refl, is.0, is.1)

pub lane-end : (state : Stable) (lane : Lane) (room : ℕ) → IsPlainLaneOf state lane
    → last_of (log_of lane room) ≡ last_index state
lane-end state lane room is = omega (
  arith,
  ap (λ (b : SnapshotHead). b.index.0) is.state.base,
  length-map lane.entries Some,
  ap length is.state.entries,
)
