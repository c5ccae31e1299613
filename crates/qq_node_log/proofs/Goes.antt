-- Where a queue's ops end the next one goes on.
use Rattle.std.proofs.Common.{◌≡◌, ◌+◌, ◌-◌, ◌||◌, ◌&&◌, ℕ, Bool, true, false, cond, eqb, leb, List, [], ◌∷◌, ◌++◌, map, length, Option, Some, None, option_map, refl, sym, ap, subst, ◌∙◌, arith, append_assoc, append-nil, length-append, length-take}
use Rattle.std.specs.Prelude.{IsSome, fold}
use Rattle.std.specs.List.{AllByRecursion}
use Rattle.std.proofs.lemmas.Bool.{eq-eqb, eqb-true, and_parts, false≢true, leb-true}
use Rattle.std.proofs.lemmas.List.{length-map}
use Rattle.qq_base.specs.declared.ids.QueueId.{QueueId}
use Rattle.qq_base.proofs.Lists.{AllByRecursion-weaker}
use Rattle.qq_log.specs.Above.{take_above}
use Rattle.qq_log.specs.Carries.{Carries, add_op, carry_before, carry_behind, carry_or_new, follows_carry, is_listed}
use Rattle.qq_log.specs.declared.lane.Carry.{Carry}
use Rattle.qq_log.specs.declared.op.Op.{Op}
use Rattle.qq_log.specs.declared.op.Op.TheVariants.{Change, SnapshotMade, SegmentMade}
use Rattle.qq_log.specs.Op.{queue}
use Rattle.qq_log.specs.Stable.{Stable, apply_op, change, last_index, may_keep, stable, then_apply}
use Rattle.qq_log.specs.Writable.{IsChange, MayWrite}
use Rattle.qq_lots.specs.Lots.{Lot, Parts, give_batch, ids_of, ops_at}
use Rattle.qq_lots.proofs.Writes.{ops_at-both}
use Rattle.qq_wal.proofs.Follows.{same_queue}
use Rattle.qq_node_log.specs.Ends.{End, CarriesAre, IsCarryOf, carry_end, end_of, ends}
use Rattle.qq_node_log.specs.Giving.{AllGoOn}

-- ---- ops of one queue

fold-more : (o : Option Stable) (a b : List Op)
    → fold then_apply o (a ++ b) ≡ fold then_apply (fold then_apply o a) b
fold-more o [] b = refl
fold-more o (op ∷ a) b = fold-more (then_apply o op) a b

fold-none : (ops : List Op) → fold then_apply None ops ≡ None
fold-none [] = refl
fold-none (op ∷ ops) = fold-none ops

stable-more : (ops : List Op) (op : Op) → stable (ops ++ op ∷ []) ≡ then_apply (stable ops) op
stable-more ops op = fold-more (stable []) ops (op ∷ [])

-- what begins ops that come to a state comes to one
front-some : (a b : List Op) → IsSome (stable (a ++ b)) → IsSome (stable a)
front-some a b some = by (stable a) refl
  where
    by : (o : Option Stable) → stable a ≡ o → IsSome o
    by (Some s) is = refl
    by None is =
        subst IsSome (fold-more (stable []) a b ∙ ap (λ (o : Option Stable). fold then_apply o b) is ∙ fold-none b) some

-- an op that gives a state goes on after a carry that ends where the state before does
followed : (s : Stable) (c : Carry) (op : Op) → IsChange op → end_of s ≡ carry_end c → IsSome (apply_op s op)
    → follows_carry c op ≡ true
unfolding apply_op
followed s c (Change q n term vote keep entries) is same some =
    by (eqb n (s.op + 1)) refl (may_keep s keep.0) refl some
  where
    carried : follows_carry c (Change q n term vote keep entries) ≡ (eqb n (s.op + 1) && may_keep s keep.0)
    carried =
        sym (ap (λ (e : End). (eqb n (e.op + 1)) && (leb e.base keep.0 && leb keep.0 e.last)) same)

    by : (a : Bool) → eqb n (s.op + 1) ≡ a → (b : Bool) → may_keep s keep.0 ≡ b
        → IsSome (cond a (cond b (Some (change (record s { op = n }) term vote keep.0 entries)) None) None)
        → follows_carry c (Change q n term vote keep entries) ≡ true
    by true next true may some = carried ∙ ap (λ (t : Bool). t && may_keep s keep.0) next ∙ may
    by true next false may some = absurd (false≢true some)
    by false next b may some = absurd (false≢true some)
followed s c (SnapshotMade q n head file) is same some = absurd is
followed s c (SegmentMade q n file first last) is same some = absurd is

-- and then the state ends where the carry does
stepped : (s : Stable) (c : Carry) (op : Op) → end_of s ≡ carry_end c → follows_carry c op ≡ true
    → option_map end_of (apply_op s op) ≡ Some (carry_end (carry_behind c op))
unfolding apply_op change
stepped s c (Change q n term vote keep entries) same follows =
    ap (λ (t : Bool). option_map end_of (cond t (cond (may_keep s keep.0)
    (Some (change (record s { op = n }) term vote keep.0 entries)) None) None)) outer.0
    ∙ ap (λ (t : Bool). option_map end_of (cond t (Some (change (record s { op = n }) term vote keep.0 entries)) None))
    outer.1
    ∙ (λ i. Some (record { op = n; base = base i; last = last i }))
  where
    carried : (eqb n (s.op + 1) && may_keep s keep.0) ≡ true
    carried =
        ap (λ (e : End). (eqb n (e.op + 1)) && (leb e.base keep.0 && leb keep.0 e.last)) same ∙ follows

    outer : (eqb n (s.op + 1) ≡ true) × (may_keep s keep.0 ≡ true)
    outer = and_parts (eqb n (s.op + 1)) (may_keep s keep.0) carried

    inner : (leb s.base.index.0 keep.0 ≡ true) × (leb keep.0 (last_index s) ≡ true)
    inner = and_parts (leb s.base.index.0 keep.0) (leb keep.0 (last_index s)) outer.1

    base : s.base.index.0 ≡ c.base.index.0
    base = ap (λ (e : End). e.base) same

    last : s.base.index.0 + length (take_above s.base.index.0 keep.0 s.log ++ map Some entries)
        ≡ keep.0 + length entries
    last =
        omega (
          arith,
          leb-true s.base.index.0 keep.0 inner.0,
          leb-true keep.0 (last_index s) inner.1,
          length-append (take_above s.base.index.0 keep.0 s.log) (map Some entries),
          length-map entries Some,
          length-take (keep.0 - s.base.index.0) s.log,
        )
stepped s c (SnapshotMade q n head file) same follows = absurd cc
stepped s c (SegmentMade q n file first last) same follows = absurd cc

-- the same of all ops of the queue until then
goes-on : (c : Carry) (ops : List Op) (op : Op) → IsChange op → ends ops ≡ Some (carry_end c)
    → IsSome (stable (ops ++ op ∷ [])) → follows_carry c op ≡ true
goes-on c ops op is same some = by (stable ops) same (subst IsSome (stable-more ops op) some)
  where
    by : (o : Option Stable) → option_map end_of o ≡ Some (carry_end c) → IsSome (then_apply o op)
        → follows_carry c op ≡ true
    by None same some = absurd (false≢true some)
    by (Some s) same some = followed s c op is (let e : end_of s ≡ carry_end c = cc in e) some

ends-behind : (c : Carry) (ops : List Op) (op : Op) → ends ops ≡ Some (carry_end c) → follows_carry c op ≡ true
    → ends (ops ++ op ∷ []) ≡ Some (carry_end (carry_behind c op))
ends-behind c ops op same follows = ap (option_map end_of) (stable-more ops op) ∙ by (stable ops) same
  where
    by : (o : Option Stable) → option_map end_of o ≡ Some (carry_end c)
        → option_map end_of (then_apply o op) ≡ Some (carry_end (carry_behind c op))
    by None same = absurd cc
    by (Some s) same = stepped s c op (let e : end_of s ≡ carry_end c = cc in e) follows

-- ---- ops of all queues

-- a queue's carry with an op more, of its own or of another queue
carry-next : (lot : Lot) (place : ℕ) (carries : Carries) (own : List Op) (op : Op)
    → follows_carry (carry_before carries op) op ≡ true → IsCarryOf (lot.id place) carries own
    → IsCarryOf (lot.id place) (add_op carries op) (own ++ ops_at lot place (op ∷ []))
carry-next lot place carries own op follows is = by (eqb (queue op).0 (lot.id place).0) refl
  where
    by : (t : Bool) → eqb (queue op).0 (lot.id place).0 ≡ t
        → ends (own ++ cond t (op ∷ []) [])
        ≡ Some (carry_end (carry_or_new (cond t (Some (carry_behind (carry_before carries op) op)) (carries (lot.id place).0))
        (lot.id place)))
    by true same =
        let one : queue op ≡ lot.id place =
        same_queue (queue op) (lot.id place) (eqb-true (queue op).0 (lot.id place).0 same) in
        ends-behind (carry_before carries op) own op
        (is ∙ ap (λ (q : QueueId). Some (carry_end (carry_or_new (carries q.0) q))) (sym one)) follows
    by false same = ap ends (append-nil own) ∙ is

carries-next : (lot : Lot) (parts : Parts) (carries : Carries) (op : Op)
    → follows_carry (carry_before carries op) op ≡ true → CarriesAre lot parts carries
    → CarriesAre lot (give_batch lot (op ∷ []) parts) (add_op carries op)
carries-next lot parts carries op follows is =
    AllByRecursion-weaker (λ (place : ℕ). IsCarryOf (lot.id place) carries (parts place).ops)
    (λ (place : ℕ). IsCarryOf (lot.id place) (add_op carries op) (give_batch lot (op ∷ []) parts place).ops)
    (λ place own. carry-next lot place carries (parts place).ops op follows own) lot.places is

-- one op and then others
given-then : (lot : Lot) (parts : Parts) (op : Op) (ops : List Op) (place : ℕ)
    → (give_batch lot ops (give_batch lot (op ∷ []) parts) place).ops ≡ (give_batch lot (op ∷ ops) parts place).ops
given-then lot parts op ops place =
    append_assoc (parts place).ops (ops_at lot place (op ∷ [])) (ops_at lot place ops)
    ∙ ap (λ (l : List Op). (parts place).ops ++ l) (sym (ops_at-both lot place (op ∷ []) ops))

-- with ops that go on, the carries tell where each queue's ops end
pub carries-given : (lot : Lot) (ops : List Op) (parts : Parts) (queues : List QueueId) (carries : Carries)
    → AllGoOn queues carries ops → CarriesAre lot parts carries
    → CarriesAre lot (give_batch lot ops parts) (fold add_op carries ops)
carries-given lot [] parts queues carries goes is =
    AllByRecursion-weaker (λ (place : ℕ). IsCarryOf (lot.id place) carries (parts place).ops)
    (λ (place : ℕ). IsCarryOf (lot.id place) carries ((parts place).ops ++ []))
    (λ place own. ap ends (append-nil (parts place).ops) ∙ own) lot.places is
carries-given lot (op ∷ ops) parts queues carries goes is =
    AllByRecursion-weaker
    (λ (place : ℕ). IsCarryOf (lot.id place) (fold add_op (add_op carries op) ops)
    (give_batch lot ops (give_batch lot (op ∷ []) parts) place).ops)
    (λ (place : ℕ). IsCarryOf (lot.id place) (fold add_op (add_op carries op) ops) (give_batch lot (op ∷ ops) parts place).ops)
    (λ place own. sym (ap ends (given-then lot parts op ops place)) ∙ own) lot.places
    (carries-given lot ops (give_batch lot (op ∷ []) parts) queues (add_op carries op) goes.1
    (carries-next lot parts carries op goes.0.follows is))

-- ---- which ops go on

-- of each queue, with ops more its ops come to a state
abbrev AllSound : Lot → Parts → List Op → List ℕ → Type 0
AllSound lot parts ops places =
    AllByRecursion (λ (place : ℕ). IsSome (stable ((parts place).ops ++ ops_at lot place ops))) places

-- the first of them goes on where its queue's carry tells
first-goes : (lot : Lot) (parts : Parts) (carries : Carries) (op : Op) (ops : List Op) (places : List ℕ) → IsChange op
    → is_listed (map lot.id places) (queue op) ≡ true → AllSound lot parts (op ∷ ops) places
    → AllByRecursion (λ (place : ℕ). IsCarryOf (lot.id place) carries (parts place).ops) places
    → follows_carry (carry_before carries op) op ≡ true
first-goes lot parts carries op ops [] change listed sound is = absurd cc
first-goes lot parts carries op ops (place ∷ places) change listed sound is =
    by (eqb (lot.id place).0 (queue op).0) refl listed
    (λ rest. first-goes lot parts carries op ops places change rest sound.1 is.1)
  where
    here : lot.id place ≡ queue op → follows_carry (carry_before carries op) op ≡ true
    here one =
        let mine : eqb (queue op).0 (lot.id place).0 ≡ true = subst (λ (q : QueueId). eqb q.0 (lot.id place).0 ≡ true) one
        (eq-eqb (lot.id place).0 (lot.id place).0 refl) in
        goes-on (carry_before carries op) (parts place).ops op change
        (is.0 ∙ ap (λ (q : QueueId). Some (carry_end (carry_or_new (carries q.0) q))) one)
        (front-some ((parts place).ops ++ op ∷ []) (ops_at lot place ops)
        (subst (λ (l : List Op). IsSome (stable l))
        (ap (λ (t : Bool). (parts place).ops ++ cond t (op ∷ ops_at lot place ops) (ops_at lot place ops)) mine
        ∙ sym (append_assoc (parts place).ops (op ∷ []) (ops_at lot place ops))) sound.0))

    by : (t : Bool) → eqb (lot.id place).0 (queue op).0 ≡ t → (t || is_listed (map lot.id places) (queue op)) ≡ true
        → (is_listed (map lot.id places) (queue op) ≡ true → follows_carry (carry_before carries op) op ≡ true)
        → follows_carry (carry_before carries op) op ≡ true
    by true same listed later =
        here (same_queue (lot.id place) (queue op) (eqb-true (lot.id place).0 (queue op).0 same))
    by false same listed later = later listed

-- ops that may be given go on, one after the other
pub all-go : (lot : Lot) (ops : List Op) (parts : Parts) (carries : Carries) → AllByRecursion MayWrite ops
    → AllByRecursion (λ (op : Op). is_listed (ids_of lot) (queue op) ≡ true) ops → AllSound lot parts ops lot.places
    → CarriesAre lot parts carries → AllGoOn (ids_of lot) carries ops
all-go lot [] parts carries may listed sound is = tt
all-go lot (op ∷ ops) parts carries may listed sound is =
    let follows : follows_carry (carry_before carries op) op ≡ true =
    first-goes lot parts carries op ops lot.places may.0.gather.change listed.0 sound is in (
      record { listed = listed.0; follows = follows },
      all-go lot ops (give_batch lot (op ∷ []) parts) (add_op carries op) may.1 listed.1
          (AllByRecursion-weaker (λ (place : ℕ). IsSome (stable ((parts place).ops ++ ops_at lot place (op ∷ ops))))
          (λ (place : ℕ). IsSome (stable (give_batch lot ops (give_batch lot (op ∷ []) parts) place).ops))
          (λ place some. subst (λ (l : List Op). IsSome (stable l)) (sym (given-then lot parts op ops place)) some)
          lot.places sound)
          (carries-next lot parts carries op follows is),
    )
