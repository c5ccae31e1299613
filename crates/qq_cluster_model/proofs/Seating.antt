-- Who has the taker of a number: one consumer, until that taker is dropped, and then nobody.
use Rattle.std.proofs.Common.{◌≡◌, ◌⊎◌, ℕ, Bool, true, false, not, cond, List, [], ◌∷◌, Option, Some, None, refl, sym, ap, ◌∙◌, subst, inl, inr}
use Rattle.std.specs.Prelude.{find, nat_eq, nat_lt}
use Rattle.std.specs.List.{AllByRecursion}
use Rattle.std.specs.Option.{option_map}
use Rattle.std.proofs.lemmas.Bool.{cond_both, eq-eqb, false≢true}
use Rattle.qq_base.proofs.Lists.{AllByRecursion-filter}
use Rattle.qq_base.specs.Ids.{same_consumer, same_session}
use Rattle.qq_base.specs.declared.ids.ConsumerId.{ConsumerId}
use Rattle.qq_entry.specs.declared.audit.AuditRow.{AuditRow}
use Rattle.qq_model.proofs.OneConsumer.{same_consumer-refl, same_consumer-true}
use Rattle.qq_taker.specs.Seats.{is_of, leaves, sit, staying, taker_of}
use Rattle.qq_taker.specs.declared.seats.Leaving.{Leaving}
use Rattle.qq_taker.specs.declared.seats.Leaving.TheVariants.{Consumer, Session}
use Rattle.qq_taker.specs.declared.seats.Seat.{Seat}
use Rattle.qq_cluster_model.specs.Queue.{attach}
use Rattle.qq_cluster_model.specs.Taking.{leaving_at, seated, seated_by}

abbrev number_of : Option Seat → Option ℕ
number_of o = option_map (λ (seat : Seat). seat.number) o

-- ---- who loses its taker

leaves_at : Leaving → ConsumerId → Bool
leaves_at (Consumer own) id = same_consumer id own
leaves_at (Session session) id = same_session id.session session

leaves-at : (whom : Leaving) (seat : Seat) → leaves whom seat ≡ leaves_at whom seat.consumer
unfolding leaves_at
leaves-at (Consumer own) seat = refl
leaves-at (Session session) seat = refl

-- a consumer that doesn't leave keeps its taker
stays : (whom : Leaving) (id : ConsumerId) (seats : List Seat) → leaves_at whom id ≡ false
    → taker_of id (staying whom seats) ≡ taker_of id seats
stays whom id [] not' = refl
stays whom id (seat ∷ more) not' =
    by (same_consumer seat.consumer id) refl (leaves whom seat) refl (stays whom id more not')
  where
    by : (b : Bool) → same_consumer seat.consumer id ≡ b → (l : Bool) → leaves whom seat ≡ l
        → taker_of id (staying whom more) ≡ taker_of id more
        → taker_of id (cond (not l) (seat ∷ staying whom more) (staying whom more))
        ≡ number_of (cond b (Some seat) (find (is_of id) more))
    by true own true gone rest =
        absurd (false≢true (sym not' ∙ ap (leaves_at whom) (sym (same_consumer-true seat.consumer id own))
        ∙ sym (leaves-at whom seat) ∙ gone))
    by true own false kept rest =
        ap (λ (b : Bool). number_of (cond b (Some seat) (find (is_of id) (staying whom more)))) own
    by false other true gone rest = rest
    by false other false kept rest =
        ap (λ (b : Bool). number_of (cond b (Some seat) (find (is_of id) (staying whom more)))) other ∙ rest

-- one that leaves has none
goes : (whom : Leaving) (id : ConsumerId) (seats : List Seat) → leaves_at whom id ≡ true
    → taker_of id (staying whom seats) ≡ None
goes whom id [] is = refl
goes whom id (seat ∷ more) is =
    by (same_consumer seat.consumer id) refl (leaves whom seat) refl (goes whom id more is)
  where
    by : (b : Bool) → same_consumer seat.consumer id ≡ b → (l : Bool) → leaves whom seat ≡ l
        → taker_of id (staying whom more) ≡ None
        → taker_of id (cond (not l) (seat ∷ staying whom more) (staying whom more)) ≡ None
    by b own true gone rest = rest
    by true own false kept rest =
        absurd (false≢true (sym kept ∙ leaves-at whom seat
        ∙ ap (leaves_at whom) (same_consumer-true seat.consumer id own) ∙ is))
    by false other false kept rest =
        ap (λ (b : Bool). number_of (cond b (Some seat) (find (is_of id) (staying whom more)))) other ∙ rest

-- ---- a consumer gets a taker

sit-all : (P : Seat → Type 0) (new : Seat) (seats : List Seat) → P new → AllByRecursion P seats
    → AllByRecursion P (sit new seats)
sit-all P new [] is each = (is, tt)
sit-all P new (seat ∷ more) is each =
    cond_both (nat_lt new.consumer.tag seat.consumer.tag) (new ∷ seat ∷ more) (seat ∷ sit new more) (AllByRecursion P)
    (λ _. (is, each)) (λ _. (each.0, sit-all P new more is each.1))

sit-new : (new : Seat) (seats : List Seat) → taker_of new.consumer seats ≡ None
    → taker_of new.consumer (sit new seats) ≡ Some new.number
sit-new new [] none =
    ap (λ (b : Bool). number_of (cond b (Some new) None)) (same_consumer-refl new.consumer)
sit-new new (seat ∷ more) none =
    by (same_consumer seat.consumer new.consumer) refl none (sit-new new more)
  where
    first : (rest : List Seat) → taker_of new.consumer (new ∷ rest) ≡ Some new.number
    first rest =
        ap (λ (b : Bool). number_of (cond b (Some new) (find (is_of new.consumer) rest)))
        (same_consumer-refl new.consumer)

    by : (b : Bool) → same_consumer seat.consumer new.consumer ≡ b
        → number_of (cond b (Some seat) (find (is_of new.consumer) more)) ≡ None
        → (taker_of new.consumer more ≡ None → taker_of new.consumer (sit new more) ≡ Some new.number)
        → taker_of new.consumer (sit new (seat ∷ more)) ≡ Some new.number
    by true own none' rest = absurd (let e : Some seat.number ≡ None = none' in cc)
    by false other none' rest =
        cond_both (nat_lt new.consumer.tag seat.consumer.tag) (new ∷ seat ∷ more) (seat ∷ sit new more)
        (λ (l : List Seat). taker_of new.consumer l ≡ Some new.number) (λ _. first (seat ∷ more))
        (λ _. ap (λ (b : Bool). number_of (cond b (Some seat) (find (is_of new.consumer) (sit new more)))) other
        ∙ rest none')

sit-other : (id : ConsumerId) (new : Seat) (seats : List Seat) → same_consumer new.consumer id ≡ false
    → taker_of id (sit new seats) ≡ taker_of id seats
sit-other id new [] other = ap (λ (b : Bool). number_of (cond b (Some new) None)) other
sit-other id new (seat ∷ more) other =
    cond_both (nat_lt new.consumer.tag seat.consumer.tag) (new ∷ seat ∷ more) (seat ∷ sit new more)
    (λ (l : List Seat). taker_of id l ≡ taker_of id (seat ∷ more))
    (λ _. ap (λ (b : Bool). number_of (cond b (Some new) (find (is_of id) (seat ∷ more)))) other)
    (λ _. by (same_consumer seat.consumer id) (sit-other id new more other))
  where
    by : (b : Bool) → taker_of id (sit new more) ≡ taker_of id more
        → number_of (cond b (Some seat) (find (is_of id) (sit new more)))
        ≡ number_of (cond b (Some seat) (find (is_of id) more))
    by true rest = refl
    by false rest = rest

-- ---- the taker of one number

module _ (number : ℕ) (id : ConsumerId) where
  -- the consumer's seat has the number, and no other has
  abbrev pub IsOwn : Seat → Type 0
  IsOwn seat = nat_eq seat.number number ≡ same_consumer seat.consumer id

  abbrev pub IsOther : Seat → Type 0
  IsOther seat = nat_eq seat.number number ≡ false

  pub record IsSeated (seats : List Seat) : Type 0 where
    pub own : AllByRecursion IsOwn seats
    pub has : taker_of id seats ≡ Some number

  none-other : (seats : List Seat) → AllByRecursion IsOwn seats → taker_of id seats ≡ None
      → AllByRecursion IsOther seats
  none-other [] own none = tt
  none-other (seat ∷ more) own none = by (same_consumer seat.consumer id) refl none (none-other more own.1)
    where
      by : (b : Bool) → same_consumer seat.consumer id ≡ b
          → number_of (cond b (Some seat) (find (is_of id) more)) ≡ None
          → (taker_of id more ≡ None → AllByRecursion IsOther more) → AllByRecursion IsOther (seat ∷ more)
      by true here none' rest = absurd (let e : Some seat.number ≡ None = none' in cc)
      by false there none' rest = (own.0 ∙ there, rest none')

  -- nobody else has it
  pub whose : (c : ConsumerId) (seats : List Seat) → AllByRecursion IsOwn seats → taker_of c seats ≡ Some number
      → c ≡ id
  whose c [] own has = absurd (let e : None ≡ Some number = has in cc)
  whose c (seat ∷ more) own has = by (same_consumer seat.consumer c) refl has (whose c more own.1)
    where
      by : (b : Bool) → same_consumer seat.consumer c ≡ b
          → number_of (cond b (Some seat) (find (is_of c) more)) ≡ Some number
          → (taker_of c more ≡ Some number → c ≡ id) → c ≡ id
      by true here has' rest =
          let e : Some seat.number ≡ Some number = has' in
          let n : seat.number ≡ number = cc in
          sym (same_consumer-true seat.consumer c here)
          ∙ same_consumer-true seat.consumer id (sym own.0 ∙ eq-eqb seat.number number n)
      by false there has' rest = rest has'

  pub never : (c : ConsumerId) (n : ℕ) (seats : List Seat) → AllByRecursion IsOther seats → taker_of c seats ≡ Some n
      → nat_eq n number ≡ false
  never c n [] other has = absurd (let e : None ≡ Some n = has in cc)
  never c n (seat ∷ more) other has = by (same_consumer seat.consumer c) has (never c n more other.1)
    where
      by : (b : Bool) → number_of (cond b (Some seat) (find (is_of c) more)) ≡ Some n
          → (taker_of c more ≡ Some n → nat_eq n number ≡ false) → nat_eq n number ≡ false
      by true has' rest =
          let e : Some seat.number ≡ Some n = has' in
          let is : seat.number ≡ n = cc in
          ap (λ (m : ℕ). nat_eq m number) (sym is) ∙ other.0
      by false has' rest = rest has'

  -- ---- rows that are answered

  pub rows-other : (seats : List Seat) (rows : List AuditRow) → AllByRecursion IsOther seats
      → AllByRecursion IsOther (seated seats rows)
  rows-other seats [] other = other
  rows-other seats (row ∷ rows) other = rows-other (seated_by (leaving_at row) seats) rows (by (leaving_at row))
    where
      by : (o : Option Leaving) → AllByRecursion IsOther (seated_by o seats)
      by None = other
      by (Some whom) = AllByRecursion-filter IsOther (λ (seat : Seat). not (leaves whom seat)) seats other

  pub rows-seated : (seats : List Seat) (rows : List AuditRow) → IsSeated seats
      → IsSeated (seated seats rows) ⊎ AllByRecursion IsOther (seated seats rows)
  rows-seated seats [] is = inl is
  rows-seated seats (row ∷ rows) is =
      on (by (leaving_at row)) (rows-seated (seated_by (leaving_at row) seats) rows)
    where
      by : (o : Option Leaving) → IsSeated (seated_by o seats) ⊎ AllByRecursion IsOther (seated_by o seats)
      by None = inl is
      by (Some whom) = at (leaves_at whom id) refl
        where
          own : AllByRecursion IsOwn (staying whom seats)
          own = AllByRecursion-filter IsOwn (λ (seat : Seat). not (leaves whom seat)) seats is.own

          at : (b : Bool) → leaves_at whom id ≡ b
              → IsSeated (staying whom seats) ⊎ AllByRecursion IsOther (staying whom seats)
          at true gone = inr (none-other (staying whom seats) own (goes whom id seats gone))
          at false kept = inl (record { own = own; has = stays whom id seats kept ∙ is.has })

      next : List Seat
      next = seated_by (leaving_at row) seats

      on : IsSeated next ⊎ AllByRecursion IsOther next
          → (IsSeated next → IsSeated (seated next rows) ⊎ AllByRecursion IsOther (seated next rows))
          → IsSeated (seated next rows) ⊎ AllByRecursion IsOther (seated next rows)
      on (inl seated') rest = rest seated'
      on (inr other) rest = inr (rows-other (seated_by (leaving_at row) seats) rows other)

  -- ---- takers that are given

  other-own : (seats : List Seat) → AllByRecursion IsOther seats → taker_of id seats ≡ None
      → AllByRecursion IsOwn seats
  other-own [] other none = tt
  other-own (seat ∷ more) other none = by (same_consumer seat.consumer id) refl none (other-own more other.1)
    where
      by : (b : Bool) → same_consumer seat.consumer id ≡ b
          → number_of (cond b (Some seat) (find (is_of id) more)) ≡ None
          → (taker_of id more ≡ None → AllByRecursion IsOwn more) → AllByRecursion IsOwn (seat ∷ more)
      by true here gone rest = absurd (let e : Some seat.number ≡ None = gone in cc)
      by false there gone rest = (other.0 ∙ sym there, rest gone)

  pub first-seated : (seats : List Seat) → AllByRecursion IsOther seats → taker_of id seats ≡ None
      → IsSeated (attach id number (taker_of id seats) seats)
  first-seated seats other none =
      subst (λ (o : Option ℕ). IsSeated (attach id number o seats)) (sym none) (record {
        own = sit-all IsOwn new seats (eq-eqb number number refl ∙ sym (same_consumer-refl id))
            (other-own seats other none);
        has = sit-new new seats none;
      })
    where
      new : Seat
      new = record { consumer = id; number = number }

  pub attach-other : (c : ConsumerId) (n : ℕ) (seats : List Seat) → nat_eq n number ≡ false
      → AllByRecursion IsOther seats → AllByRecursion IsOther (attach c n (taker_of c seats) seats)
  attach-other c n seats differs other = by (taker_of c seats)
    where
      by : (o : Option ℕ) → AllByRecursion IsOther (attach c n o seats)
      by None = sit-all IsOther (record { consumer = c; number = n }) seats differs other
      by (Some m) = other

  pub attach-seated : (c : ConsumerId) (n : ℕ) (seats : List Seat) → nat_eq n number ≡ false → IsSeated seats
      → IsSeated (attach c n (taker_of c seats) seats)
  attach-seated c n seats differs is = by (taker_of c seats) refl
    where
      elsewhere : taker_of c seats ≡ None → (b : Bool) → same_consumer c id ≡ b → same_consumer c id ≡ false
      elsewhere none true same =
          absurd (let e : None ≡ Some number =
          sym none ∙ ap (λ (x : ConsumerId). taker_of x seats) (same_consumer-true c id same) ∙ is.has in cc)
      elsewhere none false same = same

      by : (o : Option ℕ) → taker_of c seats ≡ o → IsSeated (attach c n o seats)
      by None none =
          let other : same_consumer c id ≡ false = elsewhere none (same_consumer c id) refl in
          record {
            own = sit-all IsOwn (record { consumer = c; number = n }) seats (differs ∙ sym other) is.own;
            has = sit-other id (record { consumer = c; number = n }) seats other ∙ is.has;
          }
      by (Some m) busy = is
