-- What is read of a queue is read of its parts.
use Rattle.std.proofs.Common.{◌≡◌, ℕ, ◌+◌, ◌-◌, ◌<◌, ◌⊎◌, Bool, true, false, cond, List, [], ◌∷◌, ◌++◌, Some, None, length, refl, sym, ap, ◌∙◌, subst, inl, inr, arith, if◌then◌else◌}
use Rattle.std.specs.Prelude.{nat_lt, sum_by}
use Rattle.std.specs.Option.{option_map}
use Rattle.std.specs.List.{AllByRecursion}
use Rattle.std.proofs.lemmas.Bool.{lt-ltb}
use Rattle.std.proofs.lemmas.List.Sums.{sum_by-append, sum_by-cons}
use Rattle.qq_base.proofs.Lists.{In, AllByRecursion-in, AllByRecursion-append, AllByRecursion-weaker, In-append_left}
use Rattle.qq_base.specs.declared.ids.ConsumerId.{ConsumerId}
use Rattle.qq_base.specs.Ids.{same_consumer}
use Rattle.qq_entry.specs.declared.message.Reason.{Reason}
use Rattle.qq_model.specs.declared.place.Key.{Key}
use Rattle.qq_model.specs.declared.place.Key.TheVariants.{Front, Back}
use Rattle.qq_model.specs.declared.place.Place.{Place}
use Rattle.qq_model.specs.declared.place.Place.TheVariants.{Ready, Out, Dead}
use Rattle.qq_model.specs.declared.place.Row.{Row}
use Rattle.qq_model.specs.State.{State}
use Rattle.qq_model.specs.Choice.{is_lesser, key_less, place_key, ready_key, next_message, is_out_to, out_count}
use Rattle.qq_model.specs.Limits.{is_ready, is_dead, is_live, ready_count, ready_bytes, dead_count, live_count}
use Rattle.qq_model.specs.Changes.{message_of}
use Rattle.qq_model.proofs.Least.{key_less-order, least_by-is, none-least_by}
use Rattle.qq_model.proofs.Lists.{AllByRecursion-from_in}
use Rattle.qq_model.proofs.OneConsumer.{same_consumer-refl}
use Rattle.qq_parts.specs.Reduced.{Item, item_row, items, is_live_item}
use Rattle.qq_parts.proofs.Live.{gone-is, fold-live}
use Rattle.qq_parts.proofs.Puts.{In-from_filter, message-at}
use Rattle.qq_parts.specs.Parts.{Served, Parts, outs, items_of, Stands, item_number, IsPlaced, ArePlaced, IsDead, HasOut, AreTwo, AreApart, IsWhole}
use Rattle.qq_parts.specs.Reads.{first_of, ready_items, size_of, Reads}
use Rattle.qq_parts.proofs.Perms.{perm-sym, perm-in, perm-sum}
use Rattle.qq_parts.proofs.Turn.{rising-indices, item-row, each-row}

-- The parts, one by one -------------------------------------------------------------------------------

-- what is true of each part's places is true of all items
pub record OfParts (P : Item → Type 0) : Type 0 where
  pub ready : (x : Item) (key : Key) → x.row.place ≡ Ready key → P x
  pub out : (x : Item) (consumer : ConsumerId) (id : ℕ) → x.row.place ≡ Out consumer id → P x
  pub dead : (x : Item) (number : ℕ) (reason : Reason)
      → x.row.place ≡ Dead number reason → P x

pub each-ready : (P : Item → Type 0) (m : Parts) → IsWhole m
    → ((x : Item) (key : Key) → x.row.place ≡ Ready key → P x) → AllByRecursion P (ready_items m)
each-ready P m whole ready =
    AllByRecursion-append P m.fronts m.backs
    (AllByRecursion-weaker (IsPlaced (λ n. Ready (Front n)) m.rest.returns) P
    (λ x at. ready x (Front (item_number x)) at.place) m.fronts whole.fronts.each)
    (AllByRecursion-weaker (IsPlaced (λ n. Ready (Back n)) m.rest.orders) P
    (λ x at. ready x (Back (item_number x)) at.place) m.backs whole.backs.each)

pub each-out : (P : Item → Type 0) (ones : List Served) → AllByRecursion HasOut ones
    → ((x : Item) (consumer : ConsumerId) (id : ℕ) → x.row.place ≡ Out consumer id → P x)
    → AllByRecursion P (outs ones)
each-out P [] has out = tt
each-out P (one ∷ ones) has out =
    AllByRecursion-append P one.out (outs ones)
    (AllByRecursion-weaker (IsPlaced (Out one.consumer.id) (one.consumer.next_id - 1)) P
    (λ x at. out x one.consumer.id (item_number x) at.place) one.out has.0.0.each)
    (each-out P ones has.1 out)

pub each-dead : (P : Item → Type 0) (m : Parts) → IsWhole m
    → ((x : Item) (number : ℕ) (reason : Reason)
    → x.row.place ≡ Dead number reason → P x) → AllByRecursion P m.dead
each-dead P m whole dead =
    AllByRecursion-weaker (IsDead m.rest.deads) P (λ x at. dead x (item_number x) at.reason at.place) m.dead
    whole.dead.each

pub each-item : (P : Item → Type 0) (m : Parts) → IsWhole m → OfParts P → AllByRecursion P (items_of m)
each-item P m whole of =
    AllByRecursion-append P (ready_items m) (outs m.served ++ m.dead) (each-ready P m whole of.ready)
    (AllByRecursion-append P (outs m.served) m.dead (each-out P m.served whole.served of.out)
    (each-dead P m whole of.dead))

-- The next message ------------------------------------------------------------------------------------

-- nothing is ready
none-next : (m : Parts) (s : State) → Stands m s → IsWhole m → ready_items m ≡ [] → next_message s.rows ≡ None
none-next m s stands whole none =
    let keyless : Item → Type 0 = λ x. ready_key x.row ≡ None in
    none-least_by key_less ready_key s.rows
    (each-row m s (λ (row : Row). ready_key row ≡ None) stands
    (λ row gone. gone-is (λ place. place_key place ≡ None) (λ reason. refl) row.place gone)
    (AllByRecursion-append keyless (ready_items m) (outs m.served ++ m.dead)
    (subst (AllByRecursion keyless) (sym none) tt)
    (AllByRecursion-append keyless (outs m.served) m.dead
    (each-out keyless m.served whole.served (λ x consumer id is. ap place_key is))
    (each-dead keyless m whole (λ x number reason is. ap place_key is)))))

-- an item comes first of all that are ready
abbrev pub ComesFirst : Item → Item → Type 0
ComesFirst x y = (y ≡ x) ⊎ (is_lesser key_less (ready_key x.row) (ready_key y.row) ≡ true)

lesser-none : (x y : Item) (key : Key) → ready_key x.row ≡ Some key → ready_key y.row ≡ None → ComesFirst x y
lesser-none x y key keyed none =
    inr (ap (λ o. is_lesser key_less o (ready_key y.row)) keyed ∙ ap (λ o. is_lesser key_less (Some key) o) none)

lesser-key : (x y : Item) (a b : Key) → ready_key x.row ≡ Some a → ready_key y.row ≡ Some b → key_less a b ≡ true
    → ComesFirst x y
lesser-key x y a b first second less =
    inr (ap (λ o. is_lesser key_less o (ready_key y.row)) first ∙ ap (λ o. is_lesser key_less (Some a) o) second ∙ less)

-- behind the first of a list of one kind
behind-first : (class : ℕ → Key) (last : ℕ) (x : Item) (xs : List Item)
    → ((a b : ℕ) → key_less (class a) (class b) ≡ nat_lt a b)
    → ArePlaced (λ n. Ready (class n)) last (x ∷ xs) → AllByRecursion (ComesFirst x) (x ∷ xs)
behind-first class last x xs order placed =
    (inl refl, both xs placed.rising.0 placed.each.1)
  where
    both : (ys : List Item) → AllByRecursion (λ (y : Item). item_number x < item_number y) ys
        → AllByRecursion (IsPlaced (λ n. Ready (class n)) last) ys → AllByRecursion (ComesFirst x) ys
    both [] above each = tt
    both (y ∷ ys) above each = (
      lesser-key x y (class (item_number x)) (class (item_number y)) (ap place_key placed.each.0.place)
          (ap place_key each.0.place) (order (item_number x) (item_number y)
          ∙ lt-ltb (item_number x) (item_number y) above.0),
      both ys above.1 each.1,
    )

first-next : (m : Parts) (s : State) (x : Item) (key : Key) → Stands m s → IsWhole m → In x (ready_items m)
    → ready_key x.row ≡ Some key → AllByRecursion (ComesFirst x) (ready_items m) → next_message s.rows ≡ Some x.row
first-next m s x key stands whole here keyed first =
    let row : Row → Type 0 = λ r. (r ≡ x.row) ⊎ (is_lesser key_less (ready_key x.row) (ready_key r) ≡ true) in
    let later : AllByRecursion (ComesFirst x) (outs m.served ++ m.dead) =
    AllByRecursion-append (ComesFirst x) (outs m.served) m.dead
    (each-out (ComesFirst x) m.served whole.served
    (λ y consumer id is. lesser-none x y key keyed (ap place_key is)))
    (each-dead (ComesFirst x) m whole (λ y number reason is. lesser-none x y key keyed (ap place_key is))) in
    let all : AllByRecursion (ComesFirst x) (items_of m) =
    AllByRecursion-append (ComesFirst x) (ready_items m) (outs m.served ++ m.dead) first later in
    least_by-is key_less ready_key key_less-order s.rows x.row key
    (item-row m s x stands (In-append_left x (ready_items m) (outs m.served ++ m.dead) here)).0 keyed
    (each-row m s row stands
    (λ r gone. inr (ap (λ o. is_lesser key_less o (ready_key r)) keyed
    ∙ ap (λ o. is_lesser key_less (Some key) o)
    (gone-is (λ place. place_key place ≡ None) (λ reason. refl) r.place gone)))
    (AllByRecursion-weaker (ComesFirst x) (λ (y : Item). row y.row)
    (λ y comes. elim (comes) [ inl same ↦ inl (ap item_row same) | inr less ↦ inr less ]) (items_of m) all))

pub next-is : (m : Parts) (s : State) → Stands m s → IsWhole m
    → next_message s.rows ≡ option_map item_row (first_of (ready_items m))
next-is m s stands whole = by m.fronts refl m.backs refl
  where
    by : (fronts : List Item) → m.fronts ≡ fronts → (backs : List Item) → m.backs ≡ backs
        → next_message s.rows ≡ option_map item_row (first_of (ready_items m))
    by [] none [] empty =
        let all : ready_items m ≡ [] = ap (λ (xs : List Item). xs ++ m.backs) none ∙ empty in
        none-next m s stands whole all ∙ ap (λ (xs : List Item). option_map item_row (first_of xs)) (sym all)
    by [] none (x ∷ xs) is =
        let all : ready_items m ≡ x ∷ xs = ap (λ (ys : List Item). ys ++ m.backs) none ∙ is in
        let placed = subst (ArePlaced (λ n. Ready (Back n)) m.rest.orders) is whole.backs in
        first-next m s x (Back (item_number x)) stands whole (subst (In x) (sym all) (inl refl))
        (ap place_key placed.each.0.place)
        (subst (AllByRecursion (ComesFirst x)) (sym all) (behind-first Back m.rest.orders x xs (λ a b. refl) placed))
        ∙ ap (λ (ys : List Item). option_map item_row (first_of ys)) (sym all)
    by (x ∷ xs) is backs any =
        let all : ready_items m ≡ x ∷ (xs ++ m.backs) = ap (λ (ys : List Item). ys ++ m.backs) is in
        let placed = subst (ArePlaced (λ n. Ready (Front n)) m.rest.returns) is whole.fronts in
        let keyed : ready_key x.row ≡ Some (Front (item_number x)) = ap place_key placed.each.0.place in
        let behind : AllByRecursion (ComesFirst x) m.backs =
        AllByRecursion-weaker (IsPlaced (λ n. Ready (Back n)) m.rest.orders) (ComesFirst x)
        (λ y at. lesser-key x y (Front (item_number x)) (Back (item_number y)) keyed (ap place_key at.place) refl)
        m.backs whole.backs.each in
        first-next m s x (Front (item_number x)) stands whole (subst (In x) (sym all) (inl refl)) keyed
        (subst (AllByRecursion (ComesFirst x)) (sym all)
        (AllByRecursion-append (ComesFirst x) (x ∷ xs) m.backs
        (behind-first Front m.rest.returns x xs (λ a b. refl) placed) behind))
        ∙ ap (λ (ys : List Item). option_map item_row (first_of ys)) (sym all)

-- Counts ----------------------------------------------------------------------------------------------

pub sum-all : {A : Type 0} (f g : A → ℕ) (xs : List A) → AllByRecursion (λ (x : A). f x ≡ g x) xs
    → sum_by f xs ≡ sum_by g xs
sum-all f g [] each = refl
sum-all f g (x ∷ xs) each =
    let rest = sum-all f g xs each.1 in
    sum_by-cons f x xs ∙ ap (λ n. n + sum_by f xs) each.0 ∙ ap (λ n. g x + n) rest ∙ sym (sum_by-cons g x xs)

pub sum-ones : {A : Type 0} (xs : List A) → sum_by (λ (x : A). 1) xs ≡ length xs
sum-ones [] = refl
sum-ones {A = A} (x ∷ xs) =
    let rest = sum-ones xs in
    let next : 1 + length xs ≡ length (x ∷ xs) = omega arith in
    sum_by-cons (λ (y : A). 1) x xs ∙ ap (λ n. 1 + n) rest ∙ next

pub sum-none : {A : Type 0} (xs : List A) → sum_by (λ (x : A). 0) xs ≡ 0
sum-none [] = refl
sum-none {A = A} (x ∷ xs) = let rest = sum-none xs in sum_by-cons (λ (y : A). 0) x xs ∙ ap (λ n. 0 + n) rest

-- a sum over rows that passes by what is gone is one over the items
pub sum-items : (m : Parts) (s : State) (f : Row → ℕ) → Stands m s → ((row : Row) → is_live row.place ≡ false → f row ≡ 0)
    → sum_by f s.rows ≡ sum_by (λ (x : Item). f x.row) (items_of m)
sum-items m s f stands none =
    fold-live (λ (n : ℕ) (row : Row). n + f row)
    (λ n row gone. let same : n + 0 ≡ n = omega arith in ap (λ k. n + k) (none row gone) ∙ same) s.rows s.messages
    stands.long 0
    ∙ perm-sum (λ (x : Item). f x.row) stands.perm

-- and the sums over the parts
pub sum-parts : (m : Parts) (f : Item → ℕ)
    → sum_by f (items_of m) ≡ sum_by f (ready_items m) + (sum_by f (outs m.served) + sum_by f m.dead)
sum-parts m f =
    sum_by-append f (ready_items m) (outs m.served ++ m.dead)
    ∙ ap (λ n. sum_by f (ready_items m) + n) (sum_by-append f (outs m.served) m.dead)

-- what is summed of the ready alone
pub sum-ready : (m : Parts) (s : State) (f : Row → ℕ) (g : Item → ℕ) → Stands m s → IsWhole m
    → ((row : Row) → is_live row.place ≡ false → f row ≡ 0)
    → ((x : Item) (key : Key) → x.row.place ≡ Ready key → f x.row ≡ g x)
    → ((x : Item) (consumer : ConsumerId) (id : ℕ) → x.row.place ≡ Out consumer id → f x.row ≡ 0)
    → ((x : Item) (number : ℕ) (reason : Reason)
    → x.row.place ≡ Dead number reason → f x.row ≡ 0)
    → sum_by f s.rows ≡ sum_by g (ready_items m)
sum-ready m s f g stands whole gone ready out dead =
    let over : Item → ℕ = λ x. f x.row in
    let none : Item → ℕ = λ x. 0 in
    let a : sum_by over (ready_items m) ≡ sum_by g (ready_items m) =
    sum-all over g (ready_items m) (each-ready (λ (x : Item). over x ≡ g x) m whole ready) in
    let b : sum_by over (outs m.served) ≡ 0 =
    sum-all over none (outs m.served) (each-out (λ (x : Item). over x ≡ 0) m.served whole.served out)
    ∙ sum-none (outs m.served) in
    let c : sum_by over m.dead ≡ 0 =
    sum-all over none m.dead (each-dead (λ (x : Item). over x ≡ 0) m whole dead) ∙ sum-none m.dead in
    let last : sum_by g (ready_items m) + (0 + 0) ≡ sum_by g (ready_items m) = omega arith in
    sum-items m s f stands gone ∙ sum-parts m over
    ∙ ap (λ n. n + (sum_by over (outs m.served) + sum_by over m.dead)) a
    ∙ ap (λ n. sum_by g (ready_items m) + (n + sum_by over m.dead)) b
    ∙ ap (λ n. sum_by g (ready_items m) + (0 + n)) c ∙ last

pub ready-is : (m : Parts) (s : State) → Stands m s → IsWhole m → ready_count s.rows ≡ length (ready_items m)
ready-is m s stands whole =
    let one : Bool → ℕ = λ b. cond b 1 0 in
    sum-ready m s (λ (row : Row). one (is_ready row.place)) (λ (x : Item). 1) stands whole
    (λ row gone. ap one (gone-is (λ place. is_ready place ≡ false) (λ reason. refl) row.place gone))
    (λ x key is. ap (λ place. one (is_ready place)) is) (λ x consumer id is. ap (λ place. one (is_ready place)) is)
    (λ x number reason is. ap (λ place. one (is_ready place)) is)
    ∙ sum-ones (ready_items m)

pub bytes-is : (m : Parts) (s : State) → Stands m s → IsWhole m → ready_bytes s.rows ≡ size_of (ready_items m)
bytes-is m s stands whole =
    sum-ready m s (λ (row : Row). if is_ready row.place then row.size else 0) (λ (x : Item). x.row.size) stands whole
    (λ row gone. ap (λ b. if b then row.size else 0)
    (gone-is (λ place. is_ready place ≡ false) (λ reason. refl) row.place gone))
    (λ x key is. ap (λ place. if is_ready place then x.row.size else 0) is)
    (λ x consumer id is. ap (λ place. if is_ready place then x.row.size else 0) is)
    (λ x number reason is. ap (λ place. if is_ready place then x.row.size else 0) is)

pub live-is : (m : Parts) (s : State) → Stands m s → IsWhole m → live_count s.rows ≡ length (items_of m)
live-is m s stands whole =
    let one : Bool → ℕ = λ b. cond b 1 0 in
    let over : Item → ℕ = λ x. one (is_live x.row.place) in
    sum-items m s (λ (row : Row). one (is_live row.place)) stands (λ row gone. ap one gone)
    ∙ sum-all over (λ (x : Item). 1) (items_of m)
    (each-item (λ (x : Item). over x ≡ 1) m whole (record {
      ready = λ x key is. ap (λ place. one (is_live place)) is;
      out = λ x consumer id is. ap (λ place. one (is_live place)) is;
      dead = λ x number reason is. ap (λ place. one (is_live place)) is;
    }))
    ∙ sum-ones (items_of m)

pub dead-is : (m : Parts) (s : State) → Stands m s → IsWhole m → dead_count s.rows ≡ length m.dead
dead-is m s stands whole =
    let one : Bool → ℕ = λ b. cond b 1 0 in
    let over : Item → ℕ = λ x. one (is_dead x.row.place) in
    let none : Item → ℕ = λ x. 0 in
    let a : sum_by over (ready_items m) ≡ 0 =
    sum-all over none (ready_items m)
    (each-ready (λ (x : Item). over x ≡ 0) m whole (λ x key is. ap (λ place. one (is_dead place)) is))
    ∙ sum-none (ready_items m) in
    let b : sum_by over (outs m.served) ≡ 0 =
    sum-all over none (outs m.served)
    (each-out (λ (x : Item). over x ≡ 0) m.served whole.served (λ x consumer id is. ap (λ place. one (is_dead place)) is))
    ∙ sum-none (outs m.served) in
    let c : sum_by over m.dead ≡ length m.dead =
    sum-all over (λ (x : Item). 1) m.dead
    (each-dead (λ (x : Item). over x ≡ 1) m whole (λ x number reason is. ap (λ place. one (is_dead place)) is))
    ∙ sum-ones m.dead in
    let last : 0 + (0 + length m.dead) ≡ length m.dead = omega arith in
    sum-items m s (λ (row : Row). one (is_dead row.place)) stands
    (λ row gone. ap one (gone-is (λ place. is_dead place ≡ false) (λ reason. refl) row.place gone))
    ∙ sum-parts m over
    ∙ ap (λ n. n + (sum_by over (outs m.served) + sum_by over m.dead)) a
    ∙ ap (λ n. 0 + (n + sum_by over m.dead)) b ∙ ap (λ n. 0 + (0 + n)) c ∙ last

-- The message of an item ------------------------------------------------------------------------------

pub messages-are : (m : Parts) (s : State) → Stands m s
    → AllByRecursion (λ (x : Item). message_of s.rows s.messages x.row ≡ x.message) (items_of m)
messages-are m s stands =
    AllByRecursion-from_in (λ (x : Item). message_of s.rows s.messages x.row ≡ x.message) (items_of m)
    (λ x here.
    message-at x x.row s.rows s.messages (rising-indices s.rows stands.rising)
    (In-from_filter is_live_item x (items s.rows s.messages) (perm-in x (perm-sym stands.perm) here)) refl)

-- How many are out ------------------------------------------------------------------------------------

-- of one consumer, among the out lists of consumers that are apart
counted : (one : Served) (other : Served) → HasOut other → same_consumer other.consumer.id one.consumer.id ≡ false
    → sum_by (λ (x : Item). cond (is_out_to one.consumer.id x.row.place) 1 0) other.out ≡ 0
counted one other has apart =
    let over : Item → ℕ = λ x. cond (is_out_to one.consumer.id x.row.place) 1 0 in
    sum-all over (λ (x : Item). 0) other.out
    (AllByRecursion-weaker (IsPlaced (Out other.consumer.id) (other.consumer.next_id - 1))
    (λ (x : Item). over x ≡ 0)
    (λ x at. ap (λ place. cond (is_out_to one.consumer.id place) 1 0) at.place ∙ ap (λ b. cond b 1 0) apart) other.out
    has.0.each)
    ∙ sum-none other.out

own-counted : (one : Served) → HasOut one
    → sum_by (λ (x : Item). cond (is_out_to one.consumer.id x.row.place) 1 0) one.out ≡ length one.out
own-counted one has =
    let over : Item → ℕ = λ x. cond (is_out_to one.consumer.id x.row.place) 1 0 in
    sum-all over (λ (x : Item). 1) one.out
    (AllByRecursion-weaker (IsPlaced (Out one.consumer.id) (one.consumer.next_id - 1)) (λ (x : Item). over x ≡ 1)
    (λ x at. ap (λ place. cond (is_out_to one.consumer.id place) 1 0) at.place
    ∙ ap (λ b. cond b 1 0) (same_consumer-refl one.consumer.id)) one.out has.0.each)
    ∙ sum-ones one.out

none-counted : (one : Served) (ones : List Served) → AllByRecursion HasOut ones
    → AllByRecursion (λ (other : Served). same_consumer other.consumer.id one.consumer.id ≡ false) ones
    → sum_by (λ (x : Item). cond (is_out_to one.consumer.id x.row.place) 1 0) (outs ones) ≡ 0
none-counted one [] has apart = refl
none-counted one (other ∷ ones) has apart =
    let over : Item → ℕ = λ x. cond (is_out_to one.consumer.id x.row.place) 1 0 in
    let a = counted one other has.0 apart.0 in
    let b = none-counted one ones has.1 apart.1 in
    sum_by-append over other.out (outs ones) ∙ ap (λ n. n + sum_by over (outs ones)) a ∙ ap (λ n. 0 + n) b

out-counted : (one : Served) (ones : List Served) → AllByRecursion HasOut ones → AreApart ones → In one ones
    → sum_by (λ (x : Item). cond (is_out_to one.consumer.id x.row.place) 1 0) (outs ones) ≡ length one.out
out-counted one [] has apart here = absurd here
out-counted one (other ∷ ones) has apart (inl same) =
    let over : Item → ℕ = λ x. cond (is_out_to one.consumer.id x.row.place) 1 0 in
    let has' : HasOut one = subst HasOut (sym same) has.0 in
    let a : sum_by over other.out ≡ length one.out =
    ap (λ (o : Served). sum_by over o.out) (sym same) ∙ own-counted one has' in
    let b =
    none-counted one ones has.1
    (AllByRecursion-weaker (AreTwo other) (λ (o : Served). same_consumer o.consumer.id one.consumer.id ≡ false)
    (λ o two. ap (λ (k : Served). same_consumer o.consumer.id k.consumer.id) same ∙ two.1) ones apart.0) in
    let last : length one.out + 0 ≡ length one.out = omega arith in
    sum_by-append over other.out (outs ones) ∙ ap (λ n. n + sum_by over (outs ones)) a
    ∙ ap (λ n. length one.out + n) b ∙ last
out-counted one (other ∷ ones) has apart (inr later) =
    let over : Item → ℕ = λ x. cond (is_out_to one.consumer.id x.row.place) 1 0 in
    let two = AllByRecursion-in (AreTwo other) one ones apart.0 later in
    let a = counted one other has.0 two.0 in
    let b = out-counted one ones has.1 apart.1 later in
    let last : 0 + length one.out ≡ length one.out = omega arith in
    sum_by-append over other.out (outs ones) ∙ ap (λ n. n + sum_by over (outs ones)) a ∙ ap (λ n. 0 + n) b ∙ last

pub out-is : (m : Parts) (s : State) (one : Served) → Stands m s → IsWhole m → In one m.served
    → out_count one.consumer.id s.rows ≡ length one.out
out-is m s one stands whole here =
    let test : Place → ℕ = λ place. cond (is_out_to one.consumer.id place) 1 0 in
    let over : Item → ℕ = λ x. test x.row.place in
    let none : Item → ℕ = λ x. 0 in
    let a : sum_by over (ready_items m) ≡ 0 =
    sum-all over none (ready_items m)
    (each-ready (λ (x : Item). over x ≡ 0) m whole (λ x key is. ap test is)) ∙ sum-none (ready_items m) in
    let b = out-counted one m.served whole.served whole.apart here in
    let c : sum_by over m.dead ≡ 0 =
    sum-all over none m.dead (each-dead (λ (x : Item). over x ≡ 0) m whole (λ x number reason is. ap test is))
    ∙ sum-none m.dead in
    let last : 0 + (length one.out + 0) ≡ length one.out = omega arith in
    sum-items m s (λ (row : Row). test row.place) stands
    (λ row gone. gone-is (λ place. test place ≡ 0) (λ reason. refl) row.place gone)
    ∙ sum-parts m over
    ∙ ap (λ n. n + (sum_by over (outs m.served) + sum_by over m.dead)) a
    ∙ ap (λ n. 0 + (n + sum_by over m.dead)) b ∙ ap (λ n. 0 + (length one.out + n)) c ∙ last

pub reads : (m : Parts) (s : State) → Stands m s → IsWhole m → Reads m s
reads m s stands whole = record {
  next = next-is m s stands whole;
  ready = ready-is m s stands whole;
  bytes = bytes-is m s stands whole;
  live = live-is m s stands whole;
  dead = dead-is m s stands whole;
  out =
      AllByRecursion-from_in (λ (one : Served). out_count one.consumer.id s.rows ≡ length one.out) m.served
      (λ one here. out-is m s one stands whole here);
  message = messages-are m s stands;
}
