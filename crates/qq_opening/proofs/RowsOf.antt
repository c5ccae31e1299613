-- The rows of queues, and the queues of which a node has a member.
use Rattle.std.proofs.Common.{◌≡◌, ◌+◌, ℕ, zero, suc, Bool, true, false, cond, ◌||◌, List, [], ◌∷◌, Some, length, map, refl, sym, ap, ◌∙◌, subst, inl, inr, arith}
use Rattle.std.specs.Prelude.{filter, nat_eq, slice_get}
use Rattle.std.specs.List.{range_with_len}
use Rattle.std.proofs.lemmas.Option.{slice_get_within}
use Rattle.qq_base.specs.declared.ids.NodeId.{NodeId}
use Rattle.qq_base.specs.declared.ids.QueueId.{QueueId}
use Rattle.qq_raft_model.specs.Group.{has_node}
use Rattle.qq_raft_protocol.specs.Facts.{In}
use Rattle.qq_route.specs.declared.queue_row.QueueRow.{QueueRow}
use Rattle.qq_cluster_model.specs.Cluster.{Setup, members}
use Rattle.qq_cluster.specs.Setting.{IsRowOf, ids_on, is_among}
use Rattle.qq_cluster.proofs.Walks.{in-range}

-- ---- lists

-- an item of a list, by its index
pub record At {A : Type 0} (xs : List A) (Holds : A → Type 0) : Type 0 where
  pub index : ℕ
  pub item : A
  pub here : slice_get xs index ≡ Some item
  pub holds : Holds item

at-later : {A : Type 0} (x : A) (xs : List A) (Holds : A → Type 0) → At xs Holds → At (x ∷ xs) Holds
at-later x xs Holds at = record { index = suc at.index; item = at.item; here = at.here; holds = at.holds }

-- where what passes comes from
pub from-passing : {A B : Type 0} (f : A → B) (passes : A → Bool) (y : B) (xs : List A)
    → In y (map f (filter passes xs)) → At xs (λ x. (f x ≡ y) × (passes x ≡ true))
from-passing f passes y [] here = absurd here
from-passing {A} {B} f passes y (x ∷ xs) here = by (passes x) refl (λ later. from-passing f passes y xs later) here
  where
    by : (b : Bool) → passes x ≡ b
        → (In y (map f (filter passes xs)) → At xs (λ z. (f z ≡ y) × (passes z ≡ true)))
        → In y (map f (cond b (x ∷ filter passes xs) (filter passes xs)))
        → At (x ∷ xs) (λ z. (f z ≡ y) × (passes z ≡ true))
    by true is rest (inl same) = record { index = 0; item = x; here = refl; holds = (sym same, is) }
    by true is rest (inr later) = at-later x xs (λ z. (f z ≡ y) × (passes z ≡ true)) (rest later)
    by false is rest later = at-later x xs (λ z. (f z ≡ y) × (passes z ≡ true)) (rest later)

pub to-passing : {A B : Type 0} (f : A → B) (passes : A → Bool) (xs : List A) (i : ℕ) (x : A)
    → slice_get xs i ≡ Some x → passes x ≡ true → In (f x) (map f (filter passes xs))
to-passing f passes [] i x here is = absurd cc
to-passing {A} {B} f passes (y ∷ xs) zero x here is =
    let same : y ≡ x = cc in
    subst (λ (b : Bool). In (f x) (map f (cond b (y ∷ filter passes xs) (filter passes xs))))
    (sym (ap passes same ∙ is)) (inl (ap f (sym same)))
to-passing {A} {B} f passes (y ∷ xs) (suc i) x here is = by (passes y) (to-passing f passes xs i x here is)
  where
    by : (b : Bool) → In (f x) (map f (filter passes xs))
        → In (f x) (map f (cond b (y ∷ filter passes xs) (filter passes xs)))
    by true later = inr later
    by false later = later

some-row : (a b : QueueRow) → Some a ≡ Some b → a ≡ b
some-row a b e = cc

pub same-row : (rows : List QueueRow) (i : ℕ) (a b : QueueRow) → slice_get rows i ≡ Some a
    → slice_get rows i ≡ Some b → a ≡ b
same-row rows i a b first second = some-row a b (sym first ∙ second)

-- a node is one of the members
pub is-among : (k : ℕ) (nodes : List NodeId) → is_among k nodes ≡ has_node k nodes
is-among k [] = refl
is-among k (n ∷ nodes) = ap (λ (b : Bool). nat_eq n.0 k || b) (is-among k nodes)

-- ---- the rows of a setup

module _ (rows : List QueueRow) (setup : Setup) (places : setup.places ≡ range_with_len 1 (length rows))
    (ids : (place : ℕ) → In place setup.places → (setup.args place).queue.0 ≡ place)
    (each : (at : ℕ) (row : QueueRow) → slice_get rows at ≡ Some row → IsRowOf setup (at + 1) row) where
  pub row-place : (i : ℕ) (row : QueueRow) → slice_get rows i ≡ Some row → In (i + 1) setup.places
  row-place i row here =
      subst (In (i + 1)) (sym places) (in-range (length rows) i (slice_get_within rows i row here))

  pub row-id : (i : ℕ) (row : QueueRow) → slice_get rows i ≡ Some row → row.args.queue.0 ≡ i + 1
  row-id i row here =
      ap (λ args. args.queue.0) (each i row here).args_is ∙ ids (i + 1) (row-place i row here)

  pub row-members : (i : ℕ) (row : QueueRow) → slice_get rows i ≡ Some row → members setup (i + 1) ≡ row.members
  row-members i row here = (each i row here).down.nodes_is

  -- a queue of which a node has a member is a row's
  pub id-row : (k : ℕ) (id : QueueId) → In id (ids_on rows k)
      → At rows (λ row. (row.args.queue ≡ id) × (is_among k row.members ≡ true))
  id-row k id here =
      from-passing (λ (row : QueueRow). row.args.queue) (λ (row : QueueRow). is_among k row.members) id rows here

  pub row-on : (k i : ℕ) (row : QueueRow) → slice_get rows i ≡ Some row → is_among k row.members ≡ true
      → In row.args.queue (ids_on rows k)
  row-on k i row here member =
      to-passing (λ (row : QueueRow). row.args.queue) (λ (row : QueueRow). is_among k row.members) rows i row here
      member

  -- by its number
  pub id-at : (k i : ℕ) (id : QueueId) (row : QueueRow) → In id (ids_on rows k) → id.0 ≡ i + 1
      → slice_get rows i ≡ Some row → (row.args.queue ≡ id) × (is_among k row.members ≡ true)
  id-at k i id row here number there =
      let own = id-row k id here in
      let first = row-id own.index own.item own.here in
      let second = ap (λ (q : QueueId). q.0) own.holds.0 in
      let index : own.index ≡ i = omega (arith, first, second, number) in
      let same : own.item ≡ row =
      same-row rows i own.item row (ap (slice_get rows) (sym index) ∙ own.here) there in
      subst (λ (r : QueueRow). (r.args.queue ≡ id) × (is_among k r.members ≡ true)) same own.holds
