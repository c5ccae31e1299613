-- Queues to which an event has happened, one after the other.
use Rattle.std.proofs.Common.{◌≡◌, ◌≢◌, ◌⊎◌, ◌<◌, ◌≤◌, ◌+◌, ◌-◌, ℕ, zero, suc, Bool, true, false, ◌||◌, List, [], ◌∷◌, ◌++◌, Option, Some, None, drop, get_or, length, take, refl, sym, ap, ◌∙◌, subst, inl, inr, arith, append_assoc, append-nil}
use Rattle.std.proofs.Math.Seq.{take-append_seam}
use Rattle.std.specs.Global.{Vec}
use Rattle.std.specs.Prelude.{All, nat_eq, nat_lt, slice_get, slice_set}
use Rattle.std.specs.List.{AllByRecursion, flat_map}
use Rattle.std.proofs.lemmas.Bool.{cases_eq, cases_lt, eq-eqb, false≢true, le-ltb, lt-ltb, ne_eqb, or_from, or_parts}
use Rattle.std.proofs.lemmas.List.Elements.{All-from_all_within, All-nil}
use Rattle.std.proofs.lemmas.List.Folds.{list_any_more}
use Rattle.std.proofs.lemmas.Option.{get_or_from_slice_get, slice_get-get_or, slice_get_cases}
use Rattle.qq_disk.specs.Facts.{DiskFacts}
use Rattle.qq_log.specs.Writable.{MayWrite}
use Rattle.qq_log.specs.declared.op.Op.{Op}
use Rattle.qq_raft_model.specs.State.{Server}
use Rattle.qq_cluster_model.specs.Cluster.{Cluster, Setup}
use Rattle.qq_cluster_model.specs.Queue.{Event, Queue, Stops, Writes}
use Rattle.qq_cluster_laws.specs.Waiting.{ops_by, ops_waiting}
use Rattle.qq_queue.specs.ClusterQueue.{Becomes, IsSameQueue, OfItsQueue, waiting_ops}
use Rattle.qq_queue.specs.Members.{AreSound}
use Rattle.qq_queue.specs.Sessions.{standings}
use Rattle.qq_queue.specs.declared.cluster_queue.ClusterQueue.{ClusterQueue}
use Rattle.qq_cluster.specs.Active.{AreRising, is_in}
use Rattle.qq_cluster.specs.Logs.{NodeTurns}
use Rattle.qq_cluster.specs.Nodes.{Stands}
use Rattle.qq_cluster.specs.Turning.{HasStopped, HasTaken, HasTurned, TakesAt, Turns, TurnsAt, TurnsWhere}
use Rattle.qq_cluster.specs.declared.node.Node.{Node}
use Rattle.qq_cluster.specs.declared.nodes.Nodes.{Nodes as Held}
use Rattle.qq_cluster.proofs.OneQueue.{set-get, set-long}
use Rattle.qq_cluster.proofs.Walks.{all-get}

-- ---- lists

pub set-other : {A : Type 0} (xs : List A) (at i : ℕ) (x : A) → (i ≢ at) → slice_get (slice_set xs at x) i ≡ slice_get xs i
set-other [] zero i x apart = refl
set-other [] (suc at) i x apart = refl
set-other (y ∷ ys) zero zero x apart = absurd (apart refl)
set-other (y ∷ ys) zero (suc i) x apart = refl
set-other (y ∷ ys) (suc at) zero x apart = refl
set-other (y ∷ ys) (suc at) (suc i) x apart = set-other ys at i x (λ e. apart (ap suc e))

some-one : {A : Type 0} (x y : A) → Some x ≡ Some y → x ≡ y
some-one x y e = cc

pub within-length : {A : Type 0} (xs : List A) (i : ℕ) (x : A) → slice_get xs i ≡ Some x → i < length xs
within-length {A = A} xs i x here = by (slice_get_cases xs i).1
  where
    by : ((y : A) × (i < length xs) × (slice_get xs i ≡ Some y) × (get_or xs i y ≡ y))
        ⊎ ((length xs ≤ i) × (slice_get xs i ≡ None)) → i < length xs
    by (inl found) = found.1
    by (inr past_end) = absurd (let e : Some x ≡ None = sym here ∙ past_end.1 in cc)

pub all-here : {A : Type 0} (P : A → Type 0) (xs : List A) (i : ℕ) (x : A) → All P xs → slice_get xs i ≡ Some x → P x
all-here P xs i x all here =
    subst P (get_or_from_slice_get xs i x x here) (all i x (within-length xs i x here))

pub all-from : {A : Type 0} (P : A → Type 0) (xs : List A) → ((i : ℕ) (x : A) → slice_get xs i ≡ Some x → P x)
    → All P xs
all-from P xs each = All-from_all_within P xs (λ k d low high. each k (get_or xs k d) (slice_get-get_or xs k d high))

-- ---- the queue at an index

pub turns-at : (event : Event) (at : ℕ) (queues : List ClusterQueue) (d new : ClusterQueue) → at < length queues
    → AreSound new.group → IsSameQueue (get_or queues at d) new → Becomes event (get_or queues at d) new
    → TurnsAt event at queues (slice_set queues at new)
turns-at event at queues d new lt sound same becomes = record {
  old = get_or queues at d;
  new = new;
  here = slice_get-get_or queues at d lt;
  is = refl;
  turns = record { sound = sound; same = same; becomes = becomes };
}

pub takes-at : (k at : ℕ) (queues : List ClusterQueue) (d : ClusterQueue) (before later : List Op) → at < length queues
    → OfItsQueue (get_or queues at d) (λ (q : Queue). later ≡ before ++ waiting_ops (q.group.seat k).server)
    → TakesAt k at queues before later
takes-at k at queues d before later lt taken e here =
    subst (λ (x : ClusterQueue). OfItsQueue x (λ (q : Queue). later ≡ before ++ waiting_ops (q.group.seat k).server))
    (get_or_from_slice_get queues at e d here) taken

-- ---- one after the other

pub turns-none : (test : ℕ → Bool) (event : Event) (queues : List ClusterQueue) → ((at : ℕ) → test at ≡ false)
    → TurnsWhere test event queues queues
turns-none test event queues none = record {
  many = refl;
  own = λ at d e here there is. absurd (false≢true (sym (none at) ∙ is));
  others = λ at is. refl;
}

pub turns-more : (test more : ℕ → Bool) (event : Event) (at : ℕ) (olds mids news : List ClusterQueue)
    → TurnsWhere test event olds mids → TurnsAt event at mids news → test at ≡ false
    → ((i : ℕ) → more i ≡ (test i || nat_eq i at)) → TurnsWhere more event olds news
turns-more test more event at olds mids news first second fresh grows = record {
  many = ap length second.is ∙ set-long mids at second.new ∙ first.many;
  own = own;
  others = λ i is. (let parts = or_parts (test i) (nat_eq i at) (sym (grows i) ∙ is) in
      elim (cases_eq i at) [
        | inl same ↦ absurd (false≢true (sym parts.1 ∙ eq-eqb i at same))
        | inr other ↦ unchanged i other ∙ first.others i parts.0
      ]);
}
  where
    unchanged : (i : ℕ) → (i ≢ at) → slice_get news i ≡ slice_get mids i
    unchanged i other =
        ap (λ (l : List ClusterQueue). slice_get l i) second.is ∙ set-other mids at i second.new other

    own : (i : ℕ) (d e : ClusterQueue) → slice_get olds i ≡ Some d → slice_get news i ≡ Some e → more i ≡ true
        → Turns event d e
    own i d e here there is = by (set-get mids at i second.new e (ap (λ (l : List ClusterQueue). slice_get l i) (sym second.is) ∙ there))
      where
        by : ((i ≡ at) × (e ≡ second.new)) ⊎ ((i ≢ at) × (slice_get mids i ≡ Some e)) → Turns event d e
        by (inl same) =
            let was : Some d ≡ Some second.old =
            sym here ∙ ap (slice_get olds) same.0 ∙ sym (first.others at fresh) ∙ second.here in
            subst (λ (x : ClusterQueue). Turns event x e) (sym (some-one d second.old was))
            (subst (Turns event second.old) (sym same.1) second.turns)
        by (inr other) =
            first.own i d e here other.1
            (by-test (test i) refl)
          where
            by-test : (b : Bool) → test i ≡ b → test i ≡ true
            by-test true yes' = yes'
            by-test false no' =
                absurd (false≢true (sym (or_from (test i) (nat_eq i at) no' (ne_eqb i at other.0)) ∙ sym (grows i) ∙ is))

-- all are sound still
pub turned-sound : (test : ℕ → Bool) (event : Event) (olds news : List ClusterQueue)
    → All (λ (d : ClusterQueue). AreSound d.group) olds → TurnsWhere test event olds news
    → All (λ (d : ClusterQueue). AreSound d.group) news
turned-sound test event olds news sound turns =
    all-from (λ (d : ClusterQueue). AreSound d.group) news (λ i e there. by i e there (test i) refl)
  where
    by : (i : ℕ) (e : ClusterQueue) → slice_get news i ≡ Some e → (b : Bool) → test i ≡ b → AreSound e.group
    by i e there true is =
        let lt = within-length news i e there in
        let many = turns.many in
        (turns.own i (get_or olds i e) e (slice_get-get_or olds i e (omega (arith, lt, many))) there is).sound
    by i e there false is =
        all-here (λ (d : ClusterQueue). AreSound d.group) olds i e sound (sym (turns.others i is) ∙ there)

-- ---- along the active ones

abbrev pub active-front : (active : List ℕ) → ℕ → ℕ → Bool
active-front active place at = is_in at (take place active)

-- a number that comes later isn't among the first
pub front-fresh : (active : List ℕ) (place : ℕ) → AreRising active → place < length active → (d : ℕ)
    → is_in (get_or active place d) (take place active) ≡ false
front-fresh [] place rising lt d = absurd (omega (arith, lt))
front-fresh (number ∷ active) zero rising lt d = refl
front-fresh (number ∷ active) (suc place) rising lt d =
    let above : number < get_or active place d = later active place rising.0 (omega (arith, lt)) in
    or_from (nat_eq (get_or active place d) number) (is_in (get_or active place d) (take place active))
    (ne_eqb (get_or active place d) number (λ e. absurd (omega (arith, above, e))))
    (front-fresh active place rising.1 (omega (arith, lt)) d)
  where
    later : (xs : List ℕ) (i : ℕ) → AllByRecursion (λ (x : ℕ). number < x) xs → i < length xs → number < get_or xs i d
    later [] i each lt = absurd (omega (arith, lt))
    later (x ∷ xs) zero each lt = each.0
    later (x ∷ xs) (suc i) each lt = later xs i each.1 (omega (arith, lt))

pub front-more : (active : List ℕ) (place d : ℕ) → place < length active → (at : ℕ)
    → active-front active (place + 1) at ≡ (active-front active place at || nat_eq at (get_or active place d))
front-more active place d lt at = list_any_more (nat_eq at) active place d lt

take-all : (xs : List ℕ) (n : ℕ) → length xs ≤ n → take n xs ≡ xs
take-all [] zero le = refl
take-all [] (suc n) le = refl
take-all (x ∷ xs) zero le = absurd (omega (arith, le))
take-all (x ∷ xs) (suc n) le = ap (λ (l : List ℕ). x ∷ l) (take-all xs n (omega (arith, le)))

pub turns-all_active : (active : List ℕ) (place : ℕ) (event : Event) (olds news : List ClusterQueue)
    → length active ≤ place → TurnsWhere (active-front active place) event olds news
    → TurnsWhere (λ (at : ℕ). is_in at active) event olds news
turns-all_active active place event olds news le turns =
    subst (λ (l : List ℕ). TurnsWhere (λ (at : ℕ). is_in at l) event olds news) (take-all active place le) turns

-- ---- all of them, by their indexes

pub below-more : (count at : ℕ) → nat_lt at (count + 1) ≡ (nat_lt at count || nat_eq at count)
below-more count at = elim (cases_lt at count) [
  | inl lt ↦ lt-ltb at (count + 1) (omega (arith, lt)) ∙ sym (ap (λ (b : Bool). b || nat_eq at count) (lt-ltb at count lt))
  | inr le ↦ elim (cases_eq at count) [
    | inl same ↦ lt-ltb at (count + 1) (omega (arith, same))
        ∙ sym (ap (λ (b : Bool). b || nat_eq at count) (le-ltb at count le) ∙ eq-eqb at count same)
    | inr other ↦ le-ltb at (count + 1) (omega (arith, le, other))
        ∙ sym (ap (λ (b : Bool). b || nat_eq at count) (le-ltb at count le) ∙ ne_eqb at count other)
  ]
]

-- ---- what was taken

waiting-same : (o : Option Server) → waiting_ops o ≡ ops_by o
waiting-same None = refl
waiting-same (Some s) = refl

-- so many of the active queues have handed out what waits
abbrev pub TakenFrom : {D : Type 0} → DiskFacts D → ℕ → ℕ → Held D → List Op → Type 0
TakenFrom facts k place held ops =
    (setup : Setup) (c : Cluster) → Stands facts setup held c
    → ops ≡ flat_map (λ (at : ℕ). ops_waiting k (c.queue (at + 1))) (take place held.active)

module _ {D : Type 0} {facts : DiskFacts D} where
  pub taken-more : (k place at : ℕ) (held : Held D) (mids : List ClusterQueue) (event : Event) (before later : List Op)
      → AreRising held.active → place < length held.active → at < length held.queues.items
      → at ≡ get_or held.active place 0
      → TurnsWhere (active-front held.active place) event held.queues.items mids
      → TakenFrom facts k place held before → TakesAt k at mids before later → TakenFrom facts k (place + 1) held later
  taken-more k place at held mids event before later rising lt small is turns first second setup c st =
      by (slice_get_cases held.queues.items at).1
    where
      own : ℕ → List Op
      own n = ops_waiting k (c.queue (n + 1))

      fresh : active-front held.active place at ≡ false
      fresh = ap (λ (n : ℕ). is_in n (take place held.active)) is ∙ front-fresh held.active place rising lt 0

      one-more : (f : ℕ → List Op) (xs : List ℕ) (i : ℕ) → i < length xs
          → flat_map f (take i xs) ++ f (get_or xs i 0) ≡ flat_map f (take (i + 1) xs)
      one-more f [] i small = absurd (omega (arith, small))
      one-more f (x ∷ xs) zero small = sym (append-nil (f x))
      one-more f (x ∷ xs) (suc i) small =
          append_assoc (f x) (flat_map f (take i xs)) (f (get_or xs i 0))
          ∙ ap (λ (l : List Op). f x ++ l) (one-more f xs i (omega (arith, small)))
          ∙ ap (λ (m : ℕ). flat_map f (take m (x ∷ xs))) (let e : suc (i + 1) ≡ suc i + 1 = omega arith in e)

      by : ((d : ClusterQueue) × (at < length held.queues.items) × (slice_get held.queues.items at ≡ Some d)
          × (get_or held.queues.items at d ≡ d))
          ⊎ ((length held.queues.items ≤ at) × (slice_get held.queues.items at ≡ None))
          → later ≡ flat_map own (take (place + 1) held.active)
      by (inr past_end) = let le = past_end.0 in absurd (omega (arith, small, le))
      by (inl found) =
          second found.0 (turns.others at fresh ∙ found.2) (standings held.sessions) (c.queue (at + 1))
          (st.queues at found.0 found.2).stands
          ∙ ap (λ (l : List Op). before ++ l) (waiting-same ((c.queue (at + 1)).group.seat k).server)
          ∙ ap (λ (l : List Op). l ++ own at) (first setup c st)
          ∙ ap (λ (n : ℕ). flat_map own (take place held.active) ++ own n) is
          ∙ one-more own held.active place lt

  pub taken-all : (k place : ℕ) (held : Held D) (ops : List Op) → length held.active
      ≤ place → TakenFrom facts k place held ops
      → (setup : Setup) (c : Cluster) → Stands facts setup held c
      → ops ≡ flat_map (λ (at : ℕ). ops_waiting k (c.queue (at + 1))) held.active
  taken-all k place held ops le taken setup c st =
      taken setup c st
      ∙ ap (flat_map (λ (at : ℕ). ops_waiting k (c.queue (at + 1)))) (take-all held.active place le)

-- ---- so many of the active queues

pub record TurningTo {D : Type 0} (event : Event) (place : ℕ) (old new : Held D) : Type 0 where
  pub same : new ≡ record old { queues = new.queues }
  pub turns : TurnsWhere (active-front old.active place) event old.queues.items new.queues.items

module _ {D : Type 0} where
  pub turning-none : (event : Event) (held : Held D) → TurningTo event 0 held held
  turning-none event held = record {
    same = refl;
    turns = turns-none (active-front held.active 0) event held.queues.items (λ at. refl);
  }

  pub turning-active : (event : Event) (place : ℕ) (old new : Held D) → TurningTo event place old new
      → new.active ≡ old.active
  turning-active event place old new turning = ap (λ (h : Held D). h.active) turning.same

  pub turning-at : (event : Event) (place at : ℕ) (old new : Held D) → TurningTo event place old new
      → at ≡ get_or new.active place 0 → at ≡ get_or old.active place 0
  turning-at event place at old new turning is =
      is ∙ ap (λ (l : List ℕ). get_or l place 0) (turning-active event place old new turning)

  pub turning-more : (event : Event) (place at : ℕ) (old mid new : Held D) → AreRising old.active
      → place < length old.active → at ≡ get_or mid.active place 0 → TurningTo event place old mid
      → new ≡ record mid { queues = new.queues } → TurnsAt event at mid.queues.items new.queues.items
      → TurningTo event (place + 1) old new
  turning-more event place at old mid new rising lt is first same second = record {
    same = same ∙ ap (λ (h : Held D). record h { queues = new.queues }) first.same;
    turns = turns-more (active-front old.active place) (active-front old.active (place + 1)) event at old.queues.items
        mid.queues.items new.queues.items first.turns second
        (ap (active-front old.active place) (turning-at event place at old mid first is)
        ∙ front-fresh old.active place rising lt 0)
        (λ i. front-more old.active place 0 lt i
        ∙ ap (λ (n : ℕ). active-front old.active place i || nat_eq i n)
        (sym (turning-at event place at old mid first is)));
  }

  pub turning-all : (event : Event) (place : ℕ) (old new : Held D) → AreRising old.active → length old.active ≤ place
      → TurningTo event place old new → HasTurned event old new
  turning-all event place old new rising le turning = record {
    same = turning.same;
    rising = rising;
    turns = turns-all_active old.active place event old.queues.items new.queues.items le turning.turns;
  }

  -- the queues in between are sound, and the active ones are as they were
  pub turning-sound : (event : Event) (place : ℕ) (old new : Held D)
      → All (λ (d : ClusterQueue). AreSound d.group) old.queues.items → TurningTo event place old new
      → All (λ (d : ClusterQueue). AreSound d.group) new.queues.items
  turning-sound event place old new sound turning =
      turned-sound (active-front old.active place) event old.queues.items new.queues.items sound turning.turns

  pub turning-below : (event : Event) (place at : ℕ) (old new : Held D)
      → AllByRecursion (λ (i : ℕ). i < length old.queues.items) old.active → place < length old.active
      → at ≡ get_or new.active place 0 → TurningTo event place old new → at < length new.queues.items
  turning-below event place at old new within lt is turning =
      let below = all-get (λ (i : ℕ). i < length old.queues.items) old.active place 0 within lt in
      let here = turning-at event place at old new turning is in
      let many = turning.turns.many in
      omega (arith, below, here, many)

pub record TakingTo {D : Type 0} (facts : DiskFacts D) (k place : ℕ) (old new : Held D) (ops : List Op) : Type 0 where
  pub turning : TurningTo (Writes k) place old new
  pub may : All MayWrite ops
  pub taken : (setup : Setup) (c : Cluster) → Stands facts setup old c
      → ops ≡ flat_map (λ (at : ℕ). ops_waiting k (c.queue (at + 1))) (take place old.active)

module _ {D : Type 0} {facts : DiskFacts D} where
  pub taking-none : (k : ℕ) (held : Held D) (ops : List Op) → ops ≡ [] → TakingTo facts k 0 held held ops
  taking-none k held ops none = record {
    turning = turning-none (Writes k) held;
    may = subst (All MayWrite) (sym none) (All-nil MayWrite);
    taken = λ setup c st. none;
  }

  pub taking-more : (k place at : ℕ) (old mid new : Held D) (before later : List Op) → AreRising old.active
      → AllByRecursion (λ (i : ℕ). i < length old.queues.items) old.active → place < length old.active
      → at ≡ get_or mid.active place 0 → TakingTo facts k place old mid before
      → new ≡ record mid { queues = new.queues } → TurnsAt (Writes k) at mid.queues.items new.queues.items
      → TakesAt k at mid.queues.items before later → (All MayWrite before → All MayWrite later)
      → TakingTo facts k (place + 1) old new later
  taking-more k place at old mid new before later rising within lt is first same turns takes may = record {
    turning = turning-more (Writes k) place at old mid new rising lt is first.turning same turns;
    may = may first.may;
    taken = taken-more {facts = facts} k place at old mid.queues.items (Writes k) before later rising lt
        (let below = all-get (λ (i : ℕ). i < length old.queues.items) old.active place 0 within lt in
        let here = turning-at (Writes k) place at old mid first.turning is in
        omega (arith, below, here)) (turning-at (Writes k) place at old mid first.turning is) first.turning.turns first.taken
        takes;
  }

  pub taking-all : (k place : ℕ) (old new : Held D) (ops : List Op) → AreRising old.active → length old.active ≤ place
      → TakingTo facts k place old new ops → HasTaken facts k old new ops
  taking-all k place old new ops rising le taking = record {
    turned = turning-all (Writes k) place old new rising le taking.turning;
    may = taking.may;
    taken = taken-all {facts = facts} k place old ops le taking.taken;
  }

  pub taken-sound : (k : ℕ) (old new : Held D) (ops : List Op)
      → All (λ (d : ClusterQueue). AreSound d.group) old.queues.items → HasTaken facts k old new ops
      → All (λ (d : ClusterQueue). AreSound d.group) new.queues.items
  taken-sound k old new ops sound taken =
      turned-sound (λ (at : ℕ). is_in at old.active) (Writes k) old.queues.items new.queues.items sound
      taken.turned.turns

-- ---- all of them

pub stops-all : (count : ℕ) (event : Event) (olds news : List ClusterQueue) → count ≡ length olds
    → TurnsWhere (λ (at : ℕ). nat_lt at count) event olds news
    → TurnsWhere (λ (at : ℕ). nat_lt at (length olds)) event olds news
stops-all count event olds news is turns =
    subst (λ (n : ℕ). TurnsWhere (λ (at : ℕ). nat_lt at n) event olds news) is turns

-- ---- a vector's queues are those of its slice

whole : {A : Type 0} (n : ℕ) (xs ys : List A) → length xs ≡ n → take n (xs ++ ys) ≡ xs
whole n xs ys e = subst (λ (m : ℕ). take m (xs ++ ys) ≡ xs) e (take-append_seam xs ys)

pub turns-back : (event : Event) (at : ℕ) (items queues news : List ClusterQueue) (count : ℕ) → queues ≡ items
    → length queues ≡ count → TurnsAt event at queues news
    → TurnsAt event at items (take count (news ++ drop (length news) items))
turns-back event at items queues news count is many turn = record {
  old = turn.old;
  new = turn.new;
  here = subst (λ (l : List ClusterQueue). slice_get l at ≡ Some turn.old) is turn.here;
  is = whole count news (drop (length news) items) (ap length turn.is ∙ set-long queues at turn.new ∙ many)
      ∙ turn.is ∙ ap (λ (l : List ClusterQueue). slice_set l at turn.new) is;
  turns = turn.turns;
}

pub stops-back : (event : Event) (items queues news : List ClusterQueue) (count : ℕ) → queues ≡ items
    → length queues ≡ count → TurnsWhere (λ at. nat_lt at (length queues)) event queues news
    → TurnsWhere (λ at. nat_lt at (length items)) event items (take count (news ++ drop (length news) items))
stops-back event items queues news count is many turn =
    subst (λ (l : List ClusterQueue). TurnsWhere (λ at. nat_lt at (length items)) event items l)
    (sym (whole count news (drop (length news) items) (turn.many ∙ many)))
    (subst (λ (l : List ClusterQueue). TurnsWhere (λ at. nat_lt at (length l)) event l news) is turn)

pub has-stopped : {D : Type 0} (k : ℕ) (old mid : Held D) (nodes : Vec (Node D)) → mid ≡ record old { queues = mid.queues }
    → TurnsWhere (λ at. nat_lt at (length old.queues.items)) (Stops k) old.queues.items mid.queues.items
    → NodeTurns (λ (d e : Node D). e ≡ record d { up = false }) (k - 1) mid.nodes.items nodes.items
    → HasStopped k old (record mid { nodes = nodes })
has-stopped {D = D} k old mid nodes same queues turn = record {
  same = ap (λ (h : Held D). record h { nodes = nodes }) same;
  queues = queues;
  nodes = subst (λ (v : Vec (Node D)). NodeTurns (λ (d e : Node D). e ≡ record d { up = false }) (k - 1) v.items nodes.items)
      (ap (λ (h : Held D). h.nodes) same) turn;
}
