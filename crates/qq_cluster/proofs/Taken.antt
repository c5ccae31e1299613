-- What all queues have handed out is what waits at a node.
use Rattle.std.proofs.Common.{◌≡◌, ◌≢◌, ◌<◌, ◌≤◌, ◌+◌, ◌-◌, ℕ, zero, suc, Bool, true, false, cond, List, [], ◌∷◌, ◌++◌, Option, Some, None, length, refl, sym, ap, ◌∙◌, subst, inl, inr, arith}
use Rattle.std.specs.Prelude.{filter, nat_eq, nat_lt}
use Rattle.std.specs.List.{AllByRecursion, flat_map, list_any, range_with_len}
use Rattle.std.proofs.lemmas.Bool.{cases_Bool, cases_eq, false≢true, lt-ltb, ne_eqb, or_from, or_parts}
use Rattle.qq_base.proofs.Lists.{AllByRecursion-weaker}
use Rattle.qq_disk.specs.Facts.{DiskFacts}
use Rattle.qq_log.specs.declared.op.Op.{Op}
use Rattle.qq_raft_model.specs.Group.{has_node}
use Rattle.qq_raft_model.specs.State.{Server}
use Rattle.qq_raft_protocol.specs.Facts.{In}
use Rattle.qq_cluster_model.specs.Cluster.{Cluster, Setup, members}
use Rattle.qq_cluster_model.specs.Queue.{waiting, waiting_by}
use Rattle.qq_cluster_model.specs.Rules.{waits_written}
use Rattle.qq_cluster_laws.specs.Linked.{IsReached}
use Rattle.qq_cluster_laws.specs.Waiting.{AreApart, all_waiting, ops_by, ops_waiting}
use Rattle.qq_cluster.specs.Active.{AreRising, is_in}
use Rattle.qq_cluster.specs.Nodes.{Stands}
use Rattle.qq_cluster.specs.Turning.{HasTaken}
use Rattle.qq_cluster.specs.declared.nodes.Nodes.{Nodes as Held}
use Rattle.qq_cluster.proofs.Membership.{out-ops, outside}
use Rattle.qq_cluster.proofs.Quiet.{done}
use Rattle.qq_cluster.proofs.Walks.{in-range}

-- ---- lists

absent : (a x : ℕ) (xs : List ℕ) → a < x → AllByRecursion (λ (y : ℕ). x < y) xs → is_in a xs ≡ false
absent a x [] lt above = refl
absent a x (y ∷ xs) lt above =
    or_from (nat_eq a y) (is_in a xs) (ne_eqb a y (λ e. (let more = above.0 in omega (arith, lt, more, e))))
    (absent a x xs lt above.1)

-- what some numbers that rise give, where the others give nothing
rising-all : (h : ℕ → List Op) (numbers : List ℕ) (a n : ℕ) → AreRising numbers
    → AllByRecursion (λ (x : ℕ). a ≤ x) numbers → AllByRecursion (λ (x : ℕ). x < a + n) numbers
    → ((i : ℕ) → a ≤ i → i < a + n → is_in i numbers ≡ false → h i ≡ [])
    → flat_map h numbers ≡ flat_map h (range_with_len a n)
rising-all h [] a zero rising low high none = refl
rising-all h (x ∷ numbers) a zero rising low high none =
    let le = low.0 in let lt = high.0 in absurd (omega (arith, le, lt))
rising-all h [] a (suc n) rising low high none =
    sym (ap (λ (l : List Op). l ++ flat_map h (range_with_len (a + 1) n)) (none a (omega arith) (omega arith) refl)
    ∙ sym (rising-all h [] (a + 1) n tt tt tt (λ i le lt is. none i (omega (arith, le)) (omega (arith, lt)) refl)))
rising-all h (x ∷ numbers) a (suc n) rising low high none = elim (cases_eq a x) [
  | inl same ↦ ap (λ (i : ℕ). h i ++ flat_map h numbers) (sym same)
      ∙ ap (λ (l : List Op). h a ++ l)
      (rising-all h numbers (a + 1) n rising.1
      (AllByRecursion-weaker (λ (y : ℕ). x < y) (λ (y : ℕ). a + 1 ≤ y) (λ y lt. omega (arith, lt, same)) numbers
      rising.0)
      (AllByRecursion-weaker (λ (y : ℕ). y < a + suc n) (λ (y : ℕ). y < a + 1 + n) (λ y lt. omega (arith, lt))
      numbers high.1)
      (λ i le lt is. none i (omega (arith, le)) (omega (arith, lt))
      (or_from (nat_eq i x) (is_in i numbers) (ne_eqb i x (λ e. omega (arith, le, same, e))) is)))
  | inr other ↦ rising-all h (x ∷ numbers) (a + 1) n rising (
    (let le = low.0 in omega (arith, le, other)),
    AllByRecursion-weaker (λ (y : ℕ). x < y) (λ (y : ℕ). a + 1 ≤ y)
        (λ y lt. (let le = low.0 in omega (arith, lt, le))) numbers rising.0,
  )
      (AllByRecursion-weaker (λ (y : ℕ). y < a + suc n) (λ (y : ℕ). y < a + 1 + n) (λ y lt. omega (arith, lt))
      (x ∷ numbers) high)
      (λ i le lt is. none i (omega (arith, le)) (omega (arith, lt)) is)
      ∙ sym (ap (λ (l : List Op). l ++ flat_map h (range_with_len (a + 1) n))
      (none a (omega arith) (omega arith) (or_from (nat_eq a x) (is_in a numbers) (ne_eqb a x other)
      (absent a x numbers (let le = low.0 in omega (arith, le, other)) rising.0))))
]

-- by place in place of index
by-place : (g : ℕ → List Op) (a n : ℕ)
    → flat_map (λ (at : ℕ). g (at + 1)) (range_with_len a n) ≡ flat_map g (range_with_len (a + 1) n)
by-place g a zero = refl
by-place g a (suc n) = ap (λ (l : List Op). g (a + 1) ++ l) (by-place g (a + 1) n)

-- those that are passed over give nothing
filtered : (g : ℕ → List Op) (passes : ℕ → Bool) (xs : List ℕ)
    → ((x : ℕ) → passes x ≡ false → g x ≡ []) → flat_map g (filter passes xs) ≡ flat_map g xs
filtered g passes [] none = refl
filtered g passes (x ∷ xs) none = by (passes x) refl (filtered g passes xs none)
  where
    by : (b : Bool) → passes x ≡ b → flat_map g (filter passes xs) ≡ flat_map g xs
        → flat_map g (cond b (x ∷ filter passes xs) (filter passes xs)) ≡ g x ++ flat_map g xs
    by true is rest = ap (λ (l : List Op). g x ++ l) rest
    by false is rest = rest ∙ ap (λ (l : List Op). l ++ flat_map g xs) (sym (none x is))

append-none : {A : Type 0} (xs ys : List A) → xs ++ ys ≡ [] → (xs ≡ []) × (ys ≡ [])
append-none [] ys is = (refl, is)
append-none (x ∷ xs) ys is = absurd cc

none-long : {A : Type 0} (xs : List A) → length xs ≡ 0 → xs ≡ []
none-long [] is = refl
none-long (x ∷ xs) is = absurd (omega (arith, is))

-- ---- what waits at a node

waits-by : (o : Option Server) → waiting_by o ≡ length (ops_by o)
waits-by None = refl
waits-by (Some s) = refl

nothing-by : (o : Option Server) → waiting_by o ≡ 0 → ops_by o ≡ []
nothing-by o is = none-long (ops_by o) (sym (waits-by o) ∙ is)

module _ (setup : Setup) (c : Cluster) (k : ℕ) where
  abbrev pub waits_at : ℕ → List Op
  waits_at place = ops_waiting k (c.queue place)

  pub nothing-waits : (place : ℕ) → waits_at place ≡ [] → waiting k (c.queue place).group ≡ 0
  nothing-waits place is = waits-by ((c.queue place).group.seat k).server ∙ ap length is

  -- ops wait where some queue has some
  pub none-written : (places : List ℕ) → flat_map waits_at places ≡ []
      → list_any (λ (place : ℕ). waits_written k (c.queue place)) places ≡ false
  none-written [] is = refl
  none-written (place ∷ places) is =
      let parts = append-none (waits_at place) (flat_map waits_at places) is in
      or_from (waits_written k (c.queue place)) (list_any (λ (p : ℕ). waits_written k (c.queue p)) places)
      (ap (nat_lt 0) (nothing-waits place parts.0)) (none-written places parts.1)

  no-ops : (places : List ℕ) → list_any (λ (place : ℕ). waits_written k (c.queue place)) places ≡ false
      → flat_map waits_at places ≡ []
  no-ops [] is = refl
  no-ops (place ∷ places) is =
      let parts = or_parts (waits_written k (c.queue place))
      (list_any (λ (p : ℕ). waits_written k (c.queue p)) places) is in
      ap (λ (l : List Op). l ++ flat_map waits_at places)
      (nothing-by ((c.queue place).group.seat k).server
      (not-more (waiting k (c.queue place).group) parts.0)) ∙ no-ops places parts.1
    where
      not-more : (n : ℕ) → nat_lt 0 n ≡ false → n ≡ 0
      not-more zero is = refl
      not-more (suc n) is = absurd (false≢true (sym is ∙ lt-ltb 0 (suc n) (omega arith)))

  pub some-written : (places : List ℕ) → (flat_map waits_at places ≡ [] → ⊥)
      → list_any (λ (place : ℕ). waits_written k (c.queue place)) places ≡ true
  some-written places some = elim (cases_Bool (list_any (λ (place : ℕ). waits_written k (c.queue place)) places)) [
    | inl is ↦ is
    | inr is ↦ absurd (some (no-ops places is))
  ]

  pub each-none : (places : List ℕ) (place : ℕ) → flat_map waits_at places ≡ [] → In place places → waits_at place ≡ []
  each-none [] place is here = absurd here
  each-none (first ∷ places) place is (inl same) =
      ap waits_at same ∙ (append-none (waits_at first) (flat_map waits_at places) is).0
  each-none (first ∷ places) place is (inr later) =
      each-none places place (append-none (waits_at first) (flat_map waits_at places) is).1 later

-- ---- whose they are

apart-range : (setup : Setup) (a n : ℕ)
    → ((place : ℕ) → a ≤ place → place < a + n → (setup.args place).queue.0 ≡ place)
    → AreApart setup (range_with_len a n)
apart-range setup a zero ids = tt
apart-range setup a (suc n) ids = (
  others (a + 1) n (omega arith) (omega arith),
  apart-range setup (a + 1) n (λ place low high. ids place (omega (arith, low)) (omega (arith, high))),
)
  where
    own : (setup.args a).queue.0 ≡ a
    own = ids a (omega arith) (omega arith)

    others : (b m : ℕ) → a < b → b + m ≤ a + suc n
        → AllByRecursion (λ (other : ℕ). (setup.args other).queue.0 ≢ (setup.args a).queue.0) (range_with_len b m)
    others b zero low high = tt
    others b (suc m) low high = (
      (λ same. (let at = ids b (omega (arith, low)) (omega (arith, high)) in omega (arith, same, own, at, low))),
      others (b + 1) m (omega (arith, low)) (omega (arith, high)),
    )

module _ {D : Type 0} {facts : DiskFacts D} where
  pub apart-places : (setup : Setup) (c : Cluster) (held : Held D) → Stands facts setup held c
      → AreApart setup setup.places
  apart-places setup c held st =
      subst (AreApart setup) (sym st.set_up.places)
      (apart-range setup 1 (length held.queues.items)
      (λ place low high. st.set_up.ids place
      (subst (In place) (sym st.set_up.places)
      (subst (λ (p : ℕ). In p (range_with_len 1 (length held.queues.items)))
      (let e : (place - 1) + 1 ≡ place = omega (arith, low) in e)
      (in-range (length held.queues.items) (place - 1) (omega (arith, low, high)))))))

  module _ (k : ℕ) (old new : Held D) (ops : List Op) (taken : HasTaken facts k old new ops) (setup : Setup)
      (c : Cluster) (r : IsReached setup c) (st : Stands facts setup old c) (up : c.up k ≡ true)
      (node : In k setup.nodes) where
    -- of all queues
    pub taken-places : ops ≡ flat_map (waits_at setup c k) setup.places
    taken-places =
        taken.taken setup c st
        ∙ rising-all (λ (at : ℕ). waits_at setup c k (at + 1)) old.active 0 (length old.queues.items)
        taken.turned.rising (all-above old.active)
        (AllByRecursion-weaker (λ (at : ℕ). at < length old.queues.items) (λ (at : ℕ). at < 0 + length old.queues.items)
        (λ at lt. omega (arith, lt)) old.active st.within)
        (λ i low high is. nothing-by ((c.queue (i + 1)).group.seat k).server
        (done setup c.up (c.queue (i + 1)) k node up (st.quiet i (omega (arith, high)) is)).written)
        ∙ by-place (waits_at setup c k) 0 (length old.queues.items)
        ∙ ap (flat_map (waits_at setup c k)) (sym st.set_up.places)
      where
        all-above : (xs : List ℕ) → AllByRecursion (λ (x : ℕ). 0 ≤ x) xs
        all-above [] = tt
        all-above (x ∷ xs) = (omega arith, all-above xs)

    -- of those of which the node has a member
    pub taken-waiting : ops ≡ all_waiting setup c k
    taken-waiting =
        taken-places
        ∙ sym (filtered (waits_at setup c k) (λ (place : ℕ). has_node k (members setup place)) setup.places
        (λ place is. out-ops setup c k place st.set_up.groups r (outside setup c k place st.set_up.groups r is)))
