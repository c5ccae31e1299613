-- Each queue has its own part of what the records come to.
use Rattle.std.proofs.Common.{◌≡◌, ◌&&◌, ℕ, Bool, true, false, cond, eqb, List, [], ◌∷◌, ◌++◌, map, filter, fold, Option, Some, None, refl, sym, ap, subst, ◌∙◌, inl, inr, ◌⊎◌, unwrap_or}
use Rattle.std.proofs.lemmas.Bool.{and_from, cases_eq, eq-eqb, ne_eqb}
use Rattle.qq_base.specs.declared.ids.QueueId.{QueueId}
use Rattle.qq_log.specs.Carries.{is_listed}
use Rattle.qq_log.specs.declared.lane.Carry.{Carry}
use Rattle.qq_log.specs.declared.op.Op.{Op}
use Rattle.qq_log.specs.Op.{queue}
use Rattle.qq_log.specs.Stable.{Stable, new_state, apply_op, then_apply, apply_ops, take_carry, restates}
use Rattle.qq_wal_record.specs.declared.record.LogRecord.{LogRecord}
use Rattle.qq_wal_record.specs.declared.record.LogRecord.TheVariants.{Op as OpRecord, Carry as CarryRecord}
use Rattle.qq_base.specs.Fronts.{IsFront}
use Rattle.qq_wal_chain.specs.Records.{replay}
use Rattle.qq_wal_chain.specs.Image.{put}
use Rattle.qq_wal_chain.specs.Promise.{Recovers}
use Rattle.qq_wal_chain.specs.Lanes.{Lanes, put_lane, is_op_within_ends, is_carry_within_ends, is_plain, has_entries, is_change, add_record, of_queue, IsStateOf, RecoversLanes}
use Rattle.qq_wal_chain.specs.Wal.{wal, no_lanes}
use Rattle.qq_wal_chain.proofs.Replays.{replay-none}
use Rattle.qq_wal_chain.proofs.Walk.{put-at, put-other}

-- ---- filters of fronts

filter-append : {A : Type 0} (p : A → Bool) (a b : List A) → filter p (a ++ b) ≡ filter p a ++ filter p b
filter-append p [] b = refl
filter-append {A} p (x ∷ a) b = by (p x) (filter-append p a b)
  where
    by : (t : Bool) → filter p (a ++ b) ≡ filter p a ++ filter p b
        → cond t (x ∷ filter p (a ++ b)) (filter p (a ++ b)) ≡ cond t (x ∷ filter p a) (filter p a) ++ filter p b
    by true later = ap (λ (l : List A). x ∷ l) later
    by false later = later

-- a queue's part of a front is a front of its part
pub front-filter : {A : Type 0} (p : A → Bool) (a b : List A) → IsFront a b → IsFront (filter p a) (filter p b)
front-filter {A} p a b f = record {
  rest = filter p f.rest;
  is = ap (λ (l : List A). filter p l) f.is ∙ filter-append p a f.rest;
}

-- ---- fronts of mapped lists

pub record MappedFront {A B : Type 0} (f : A → B) (mapped : List B) (all : List A) : Type 0 where
  pub items : List A
  pub is : mapped ≡ map f items
  pub front : IsFront items all

pub mapped-front : {A B : Type 0} (f : A → B) (bs : List B) (xs : List A) → IsFront bs (map f xs)
    → MappedFront f bs xs
mapped-front f [] all h = record { items = []; is = refl; front = record { rest = all; is = refl } }
mapped-front f (b ∷ bs) [] h = absurd (cc (h.is))
mapped-front {A} {B} f (b ∷ bs) (a ∷ all) h =
    let whole : f a ∷ map f all ≡ b ∷ (bs ++ h.rest) = h.is in
    let heads : f a ≡ b = cc whole in
    let tails : map f all ≡ bs ++ h.rest = cc whole in
    let later = mapped-front f bs all (record { rest = h.rest; is = tails }) in
    record {
      items = a ∷ later.items;
      is = ap (λ (b : B). b ∷ bs) (sym heads) ∙ ap (λ (l : List B). f a ∷ l) later.is;
      front = record { rest = later.front.rest; is = ap (λ (l : List A). a ∷ l) later.front.is };
    }

pub mapped-tail : {A B : Type 0} (f : A → B) → ((x y : A) → f x ≡ f y → x ≡ y) → (xs bs : List A)
    → IsFront (map f xs) (map f bs) → IsFront xs bs
mapped-tail f inj [] bs h = record { rest = bs; is = refl }
mapped-tail f inj (a ∷ xs) [] h = absurd (cc (h.is))
mapped-tail {A} {B} f inj (a ∷ xs) (b ∷ bs) h =
    let whole : f b ∷ map f bs ≡ f a ∷ (map f xs ++ h.rest) = h.is in
    let heads : f b ≡ f a = cc whole in
    let tails : map f bs ≡ map f xs ++ h.rest = cc whole in
    let later = mapped-tail f inj xs bs (record { rest = h.rest; is = tails }) in
    record { rest = later.rest; is = ap (λ (x : A). x ∷ bs) (inj b a heads) ∙ ap (λ (l : List A). a ∷ l) later.is }

-- ---- one queue

-- what ops add to what a queue has
abbrev pub GoesOn : Option Stable → List Op → Option Stable → Type 0
GoesOn old [] new = new ≡ old
GoesOn old (op ∷ ops) new =
    (state : Stable) × (new ≡ Some state) × (apply_ops (unwrap_or old new_state) (op ∷ ops) ≡ Some state)

first-op : (old : Option Stable) (op : Op) (ops : List Op) (s : Stable) (new : Option Stable)
    → apply_op (unwrap_or old new_state) op ≡ Some s → GoesOn (Some s) ops new → GoesOn old (op ∷ ops) new
first-op old op [] s new is later = (s, later, is)
first-op old op (next ∷ ops) s new is (state, here, comes) =
    (state, here, ap (λ (o : Option Stable). fold then_apply o (next ∷ ops)) is ∙ comes)

pub queue-part : (queues : List QueueId) (id : ℕ) (ops : List Op) (lanes after : Lanes)
    → replay (wal queues) (map OpRecord ops) (Some lanes) ≡ Some after
    → GoesOn (lanes id) (of_queue id ops) (after id)
queue-part queues id [] lanes after e =
    let same : lanes ≡ after = cc in
    ap (λ (l : Lanes). l id) (sym same)
queue-part queues id (op ∷ ops) lanes after e =
    by (is_listed queues (queue op) && is_op_within_ends op && is_change op) e
    (λ l h. queue-part queues id ops l after h)
  where
    q : ℕ
    q = (queue op).0

    part : List Op
    part = of_queue id ops

    none : {A : Type 0} → replay (wal queues) (map OpRecord ops) None ≡ Some after → A
    none h = absurd (cc (sym (replay-none (wal queues) (map OpRecord ops)) ∙ h))

    placed : (s : Stable) → apply_op (unwrap_or (lanes q) new_state) op ≡ Some s
        → GoesOn (put lanes q (Some s) id) part (after id) → (q ≡ id) ⊎ (q ≡ id → ⊥)
        → GoesOn (lanes id) (cond (eqb q id) (op ∷ part) part) (after id)
    placed s is later (inl same) =
        let here : put lanes q (Some s) id ≡ Some s =
        subst (λ (id : ℕ). put lanes q (Some s) id ≡ Some s) same (put-at lanes q (Some s)) in
        let first : apply_op (unwrap_or (lanes id) new_state) op ≡ Some s =
        subst (λ (id : ℕ). apply_op (unwrap_or (lanes id) new_state) op ≡ Some s) same is in
        subst (λ (t : Bool). GoesOn (lanes id) (cond t (op ∷ part) part) (after id)) (sym (eq-eqb q id same))
        (first-op (lanes id) op part s (after id) first
        (subst (λ (o : Option Stable). GoesOn o part (after id)) here later))
    placed s is later (inr apart) =
        subst (λ (t : Bool). GoesOn (lanes id) (cond t (op ∷ part) part) (after id)) (sym (ne_eqb q id apart))
        (subst (λ (o : Option Stable). GoesOn o part (after id)) (put-other lanes q id (Some s) apart) later)

    state : (s : Option Stable) → apply_op (unwrap_or (lanes q) new_state) op ≡ s
        → replay (wal queues) (map OpRecord ops) (put_lane lanes (queue op) s) ≡ Some after
        → ((l : Lanes) → replay (wal queues) (map OpRecord ops) (Some l) ≡ Some after → GoesOn (l id) part (after id))
        → GoesOn (lanes id) (cond (eqb q id) (op ∷ part) part) (after id)
    state None is h later = none h
    state (Some s) is h later = placed s is (later (put lanes q (Some s)) h) (cases_eq q id)

    by : (t : Bool) → replay (wal queues) (map OpRecord ops)
        (cond t (put_lane lanes (queue op) (apply_op (unwrap_or (lanes q) new_state) op)) None) ≡ Some after
        → ((l : Lanes) → replay (wal queues) (map OpRecord ops) (Some l) ≡ Some after → GoesOn (l id) part (after id))
        → GoesOn (lanes id) (of_queue id (op ∷ ops)) (after id)
    by false h later = none h
    by true h later = state (apply_op (unwrap_or (lanes q) new_state) op) refl h later

is-state : (ops : List Op) (new : Option Stable) → GoesOn None ops new → IsStateOf ops new
is-state [] new h = h
is-state (op ∷ ops) new h = h

pub same_op : (x y : Op) → OpRecord x ≡ OpRecord y → x ≡ y
same_op x y e = cc

-- what the records come to, queue by queue
pub recovers-lanes : (queues : List QueueId) (noticed given : List Op) (found : Option Lanes)
    → Recovers (wal queues) (map OpRecord noticed) (map OpRecord given) found → RecoversLanes noticed given found
recovers-lanes queues noticed given found r =
    let m = mapped-front OpRecord r.ops given r.front in
    let held : IsFront noticed m.items = mapped-tail OpRecord same_op noticed m.items
    (subst (λ (l : List LogRecord). IsFront (map OpRecord noticed) l) m.is r.held) in
    let value : replay (wal queues) (map OpRecord m.items) (Some no_lanes) ≡ Some r.world =
    ap (λ (l : List LogRecord). replay (wal queues) l (Some no_lanes)) (sym m.is) ∙ r.value in
    record {
      lanes = r.world;
      is = r.is;
      each = λ id. record {
        ops = of_queue id m.items;
        held = front-filter (λ (op : Op). eqb (queue op).0 id) noticed m.items held;
        front = front-filter (λ (op : Op). eqb (queue op).0 id) m.items given m.front;
        is = is-state (of_queue id m.items) (r.world id) (queue-part queues id m.items no_lanes r.world value);
      };
    }

-- ---- carries

put-same : {A : Type 0} (f : ℕ → A) (n : ℕ) (a : A) → f n ≡ a → put f n a ≡ f
put-same {A} f n a here = λ i m. each m (cases_eq n m) i
  where
    each : (m : ℕ) → (n ≡ m) ⊎ (n ≡ m → ⊥) → put f n a m ≡ f m
    each m (inl same) = subst (λ (m : ℕ). put f n a m ≡ f m) same (put-at f n a ∙ sym here)
    each m (inr apart) = put-other f n m a apart

-- a carry that restates its queue's state leaves all as it is
pub carry-restates : (queues : List QueueId) (c : Carry) (lanes : Lanes) (s : Stable) → lanes c.queue.0 ≡ Some s
    → restates c s ≡ true → is_listed queues c.queue ≡ true → is_carry_within_ends c ≡ true → is_plain c ≡ true
    → add_record queues (CarryRecord c) lanes ≡ Some lanes
unfolding take_carry
carry-restates queues c lanes s here same listed within plain =
    ap (λ (t : Bool). cond t (put_lane lanes c.queue (take_carry (lanes c.queue.0) c)) None) test
    ∙ ap (λ (o : Option Stable). put_lane lanes c.queue (take_carry o c)) here
    ∙ ap (λ (t : Bool). put_lane lanes c.queue (cond t (Some s) None)) same
    ∙ ap (λ (l : Lanes). Some l) (put-same lanes c.queue.0 (Some s) here)
  where
    has : has_entries (lanes c.queue.0) c ≡ true
    has = ap (λ (o : Option Stable). has_entries o c) here

    test :
        (is_listed queues c.queue && is_carry_within_ends c && is_plain c && has_entries (lanes c.queue.0) c) ≡ true
    test =
        and_from (is_listed queues c.queue && is_carry_within_ends c && is_plain c) (has_entries (lanes c.queue.0) c)
        (and_from (is_listed queues c.queue && is_carry_within_ends c) (is_plain c)
        (and_from (is_listed queues c.queue) (is_carry_within_ends c) listed within) plain) has
