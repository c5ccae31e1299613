-- What a consumer knows is what has come and what was handed out.
use Rattle.std.proofs.Common.{◌≡◌, ℕ, ◌+◌, ◌<◌, ◌≤◌, Bool, true, false, ◌||◌, List, [], ◌∷◌, ◌++◌, length, Option, Some, None, refl, sym, ap, ◌∙◌, subst, inl, inr, arith, append_assoc, append-nil, length-append}
use Rattle.std.specs.Prelude.{nat_eq, nat_lt}
use Rattle.std.specs.List.{AllByRecursion, list_any}
use Rattle.std.specs.Cmp.{both_ways}
use Rattle.std.proofs.lemmas.Bool.{cases_Bool, cond_both, eq-eqb, eqb-true, ltb-true, ltb-false, lt-ltb, le-ltb, or_cases, or_left, or_right}
use Rattle.qq_base.proofs.Lists.{In, In-append_left, In-append_right, AllByRecursion-weaker, AllByRecursion-append}
use Rattle.qq_base.specs.declared.ids.ConsumerId.{ConsumerId}
use Rattle.qq_entry.specs.declared.answer.Delivery.{Delivery}
use Rattle.qq_consuming.specs.Consuming.{Received, arrive, hand_out, hand_out_by, has_arrived, ids_of, insert_delivery, new_consumer, next_by, next_delivery, without_first}
use Rattle.qq_consuming.specs.Received.{IsReceived}
use Rattle.qq_consuming.specs.Arrivals.{Deed, Arrives, Asks, after_deeds, arrivals, given, handed}
use Rattle.qq_consuming.proofs.ReceivedLemmas.{arrive-received, handed-received, insert-all, new-received}

any-append : (id : ℕ) (xs ys : List Delivery)
    → list_any (nat_eq id) (ids_of (xs ++ ys)) ≡ (list_any (nat_eq id) (ids_of xs) || list_any (nat_eq id) (ids_of ys))
any-append id [] ys = refl
any-append id (x ∷ xs) ys =
    ap (λ (b : Bool). nat_eq id x.id || b) (any-append id xs ys)
    ∙ by (nat_eq id x.id)
  where
    by : (b : Bool) → (b || (list_any (nat_eq id) (ids_of xs) || list_any (nat_eq id) (ids_of ys)))
        ≡ ((b || list_any (nat_eq id) (ids_of xs)) || list_any (nat_eq id) (ids_of ys))
    by true = refl
    by false = refl

-- ids that count from a number
abbrev pub Counted : ℕ → List Delivery → Type 0
Counted n [] = Unit {0}
Counted n (d ∷ ds) = (d.id ≡ n) × Counted (n + 1) ds

counted-push : (n : ℕ) (ds : List Delivery) (d : Delivery) → Counted n ds → d.id ≡ n + length ds
    → Counted n (ds ++ d ∷ [])
counted-push n [] d counted is = (is ∙ omega arith, tt)
counted-push n (one ∷ more) d counted is = (counted.0, counted-push (n + 1) more d counted.1 (is ∙ omega arith))

-- what has arrived and what was handed out, and what is known of it
pub record Tracks (r : Received) (out arrived : List Delivery) : Type 0 where
  pub received : IsReceived r
  pub next : r.next ≡ length out + 1
  pub counted : Counted 1 out
  pub known : (id : ℕ) → 0 < id → has_arrived id r ≡ list_any (nat_eq id) (ids_of arrived)
  pub out_in : AllByRecursion (λ (d : Delivery). In d arrived) out
  pub waiting_in : AllByRecursion (λ (d : Delivery). In d arrived) r.waiting

-- ---- an arrival

insert-any : (id : ℕ) (d : Delivery) (ds : List Delivery)
    → list_any (nat_eq id) (ids_of (insert_delivery d ds)) ≡ (list_any (nat_eq id) (ids_of ds) || nat_eq id d.id)
insert-any id d [] = by (nat_eq id d.id)
  where
    by : (b : Bool) → (b || false) ≡ b
    by true = refl
    by false = refl
insert-any id d (one ∷ more) =
    cond_both (nat_lt d.id one.id) (d ∷ one ∷ more) (one ∷ insert_delivery d more)
    (λ (ds : List Delivery). list_any (nat_eq id) (ids_of ds)
    ≡ (list_any (nat_eq id) (ids_of (one ∷ more)) || nat_eq id d.id))
    (λ _. swap (nat_eq id d.id) (list_any (nat_eq id) (ids_of (one ∷ more))))
    (λ _. ap (λ (b : Bool). nat_eq id one.id || b) (insert-any id d more)
    ∙ over (nat_eq id one.id))
  where
    swap : (a b : Bool) → (a || b) ≡ (b || a)
    swap true true = refl
    swap true false = refl
    swap false true = refl
    swap false false = refl

    over : (b : Bool) → (b || (list_any (nat_eq id) (ids_of more) || nat_eq id d.id))
        ≡ ((b || list_any (nat_eq id) (ids_of more)) || nat_eq id d.id)
    over true = refl
    over false = refl

-- a test that implies another adds nothing to it
absorb : (a b : Bool) → (b ≡ true → a ≡ true) → a ≡ (a || b)
absorb true b implies = refl
absorb false true implies = implies refl
absorb false false implies = refl

or-over : (a b c : Bool) → (a || (b || c)) ≡ ((a || b) || c)
or-over true b c = refl
or-over false b c = refl

arrive-has : (id : ℕ) (d : Delivery) (r : Received)
    → has_arrived id (arrive d r) ≡ (has_arrived id r || nat_eq id d.id)
arrive-has id d r =
    cond_both (has_arrived d.id r) r (record r { waiting = insert_delivery d r.waiting })
    (λ (x : Received). has_arrived id x ≡ (has_arrived id r || nat_eq id d.id))
    (λ here. absorb (has_arrived id r) (nat_eq id d.id)
    (λ same. ap (λ (n : ℕ). has_arrived n r) (eqb-true id d.id same) ∙ here))
    (λ _. ap (λ (b : Bool). nat_lt id r.next || b) (insert-any id d r.waiting)
    ∙ or-over (nat_lt id r.next) (list_any (nat_eq id) (ids_of r.waiting)) (nat_eq id d.id))

-- arrivals that are among some are among these and more
in-more : (ds arrived more : List Delivery) → AllByRecursion (λ (d : Delivery). In d arrived) ds
    → AllByRecursion (λ (d : Delivery). In d (arrived ++ more)) ds
in-more ds arrived more =
    AllByRecursion-weaker (λ (d : Delivery). In d arrived) (λ (d : Delivery). In d (arrived ++ more))
    (λ d here. In-append_left d arrived more here) ds

tracks-arrive : (d : Delivery) (r : Received) (out arrived : List Delivery) → Tracks r out arrived
    → Tracks (arrive d r) out (arrived ++ d ∷ [])
tracks-arrive d r out arrived is =
    let r' : Received = record r { waiting = insert_delivery d r.waiting } in
    let all : List Delivery = arrived ++ d ∷ [] in
    record {
      received = arrive-received d r is.received;
      next =
          cond_both (has_arrived d.id r) r r' (λ (x : Received). x.next ≡ length out + 1) (λ _. is.next) (λ _. is.next);
      counted = is.counted;
      known = λ id positive.
          arrive-has id d r ∙ ap (λ (b : Bool). b || nat_eq id d.id) (is.known id positive)
          ∙ ap (λ (b : Bool). list_any (nat_eq id) (ids_of arrived) || b) (one (nat_eq id d.id))
          ∙ sym (any-append id arrived (d ∷ []));
      out_in = in-more out arrived (d ∷ []) is.out_in;
      waiting_in =
          let before = in-more r.waiting arrived (d ∷ []) is.waiting_in in
          cond_both (has_arrived d.id r) r r' (λ (x : Received). AllByRecursion (λ (o : Delivery). In o all) x.waiting)
          (λ _. before)
          (λ _. insert-all (λ (o : Delivery). In o all) d r.waiting
          (In-append_right d arrived (d ∷ []) (inl refl)) before);
    }
  where
    one : (b : Bool) → b ≡ (b || false)
    one true = refl
    one false = refl

-- ---- an ask

lt-next : (id n one : ℕ) → n ≡ one → nat_lt id (n + 1) ≡ (nat_lt id n || nat_eq id one)
lt-next id n one same =
    both_ways (nat_lt id (n + 1)) (nat_lt id n || nat_eq id one)
    (λ low. let lt : id < n + 1 = ltb-true id (n + 1) low in
    elim (cases_Bool (nat_lt id n)) [
      | inl lower ↦ or_left (nat_lt id n) (nat_eq id one) lower
      | inr high ↦
          or_right (nat_lt id n) (nat_eq id one)
          (eq-eqb id one (let le : n ≤ id = ltb-false id n high in omega (arith, lt, le, same)))
    ])
    (λ either. lt-ltb id (n + 1) (elim (or_cases (nat_lt id n) (nat_eq id one) either) [
      | inl low ↦ let lt : id < n = ltb-true id n low in omega (arith, lt)
      | inr is ↦ let e : id ≡ one = eqb-true id one is in omega (arith, e, same)
    ]))

tracks-given : (r : Received) (out arrived : List Delivery) (one : Delivery) (more : List Delivery)
    → r.waiting ≡ one ∷ more → r.next ≡ one.id → Tracks r out arrived
    → Tracks (record r { next = r.next + 1; waiting = more }) (out ++ one ∷ []) arrived
tracks-given r out arrived one more are same is =
    let waiting : AllByRecursion (λ (d : Delivery). In d arrived) (one ∷ more) =
    subst (AllByRecursion (λ (d : Delivery). In d arrived)) are is.waiting_in in
    record {
      received = handed-received r one more are is.received;
      next = let n = is.next in let l : length (out ++ one ∷ []) ≡ length out + 1 = length-append out (one ∷ []) in
          omega (arith, n, l);
      counted = counted-push 1 out one is.counted (let n = is.next in omega (arith, n, same));
      known = λ id positive.
          ap (λ (b : Bool). b || list_any (nat_eq id) (ids_of more)) (lt-next id r.next one.id same)
          ∙ sym (or-over (nat_lt id r.next) (nat_eq id one.id) (list_any (nat_eq id) (ids_of more)))
          ∙ ap (λ (ds : List Delivery). nat_lt id r.next || list_any (nat_eq id) (ids_of ds)) (sym are)
          ∙ is.known id positive;
      out_in = AllByRecursion-append (λ (d : Delivery). In d arrived) out (one ∷ []) is.out_in (waiting.0, tt);
      waiting_in = waiting.1;
    }

tracks-ask : (r : Received) (out arrived : List Delivery) → Tracks r out arrived
    → Tracks (hand_out r) (out ++ given (next_delivery r)) arrived
tracks-ask r out arrived is = by r.waiting refl
  where
    nothing : Tracks r (out ++ []) arrived
    nothing = subst (λ (o : List Delivery). Tracks r o arrived) (sym (append-nil out)) is

    by : (ds : List Delivery) → r.waiting ≡ ds
        → Tracks (hand_out_by (next_by r.next ds) r) (out ++ given (next_by r.next ds)) arrived
    by [] are = nothing
    by (one ∷ more) are =
        cond_both (nat_eq r.next one.id) (Some one) None
        (λ (o : Option Delivery). Tracks (hand_out_by o r) (out ++ given o) arrived)
        (λ here. subst
        (λ (ds : List Delivery). Tracks (record r { next = r.next + 1; waiting = ds }) (out ++ one ∷ []) arrived)
        (sym (ap without_first are))
        (tracks-given r out arrived one more are (eqb-true r.next one.id here) is))
        (λ _. nothing)

-- ---- all deeds

tracks-start : (consumer : ConsumerId) → Tracks (new_consumer consumer) [] []
tracks-start consumer =
    record {
      received = new-received consumer;
      next = refl;
      counted = tt;
      known = λ id positive. ap (λ (b : Bool). b || false) (le-ltb id 1 (omega (arith, positive)));
      out_in = tt;
      waiting_in = tt;
    }

tracks-run : (deeds : List Deed) (r : Received) (out arrived : List Delivery) → Tracks r out arrived
    → Tracks (after_deeds deeds r) (out ++ handed r deeds) (arrived ++ arrivals deeds)
tracks-run [] r out arrived is =
    subst (λ (o : List Delivery). Tracks r o (arrived ++ [])) (sym (append-nil out))
    (subst (λ (a : List Delivery). Tracks r out a) (sym (append-nil arrived)) is)
tracks-run (Arrives d ∷ deeds) r out arrived is =
    let rest = tracks-run deeds (arrive d r) out (arrived ++ d ∷ []) (tracks-arrive d r out arrived is) in
    subst (λ (a : List Delivery). Tracks (after_deeds deeds (arrive d r)) (out ++ handed (arrive d r) deeds) a)
    (append_assoc arrived (d ∷ []) (arrivals deeds)) rest
tracks-run (Asks ∷ deeds) r out arrived is =
    let rest = tracks-run deeds (hand_out r) (out ++ given (next_delivery r)) arrived (tracks-ask r out arrived is) in
    subst (λ (o : List Delivery). Tracks (after_deeds deeds (hand_out r)) o (arrived ++ arrivals deeds))
    (append_assoc out (given (next_delivery r)) (handed (hand_out r) deeds)) rest

pub history : (consumer : ConsumerId) (deeds : List Deed)
    → Tracks (after_deeds deeds (new_consumer consumer)) (handed (new_consumer consumer) deeds) (arrivals deeds)
history consumer deeds = tracks-run deeds (new_consumer consumer) [] [] (tracks-start consumer)
