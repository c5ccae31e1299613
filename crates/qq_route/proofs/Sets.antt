-- Sets of numbers, as rising lists.
use Rattle.std.proofs.Common.{◌≡◌, ℕ, ◌<◌, ◌≤◌, Bool, true, false, cond, ◌||◌, ◌&&◌, List, [], ◌∷◌, ◌++◌, length, get_or, map, filter, nat_eq, nat_cmp, is_eq, Ordering, Less, Equal, Greater, refl, sym, ap, ◌∙◌, subst, arith, Some, None, option_map}
use Rattle.std.specs.List.{list_any, AllByRecursion}
use Rattle.std.specs.List.Sorted.{IsStrictlySortedBy}
use Rattle.std.specs.Ordering.{match_ordering}
use Rattle.std.specs.Cmp.{ranked, nat_cmp_is}
use Rattle.std.specs.BTreeMap.{is_at}
use Rattle.std.specs.BTreeSet.{insert_key}
use Rattle.std.specs.Set.{remove_key}
use Rattle.std.proofs.lemmas.Map.Views.{any-filter_same}
use Rattle.std.proofs.lemmas.List.Kept.{IsStrictlySortedBy-filter}
use Rattle.qq_base.specs.declared.ids.QueueId.{QueueId}
use Rattle.qq_route.specs.Routes.{is_named, comes_to, takes, queue_id, targets, ExchangeState, Table}
use Rattle.qq_route.specs.declared.exchange.Binding.{Binding}
use Rattle.qq_route.proofs.Bindings.{queue_of}

abbrev pub has : ℕ → List ℕ → Bool
has q ks = list_any (is_at (nat_cmp q)) ks

below_cmp : (x y : ℕ) → x < y → nat_cmp x y ≡ Less
below_cmp x y h = sym (nat_cmp_is x y Less h)

above_cmp : (x y : ℕ) → y < x → nat_cmp x y ≡ Greater
above_cmp x y h = sym (nat_cmp_is x y Greater h)

same_cmp : (x : ℕ) → nat_cmp x x ≡ Equal
same_cmp x = sym (nat_cmp_is x x Equal refl)

cmp_below : (x y : ℕ) → nat_cmp x y ≡ Less → x < y
cmp_below x y e = ranked x y Less (sym e)

-- what is at or below a number isn't among those above it
absent : (q x : ℕ) (ys : List ℕ) → q ≤ x → AllByRecursion (λ y. nat_cmp x y ≡ Less) ys → has q ys ≡ false
absent q x [] h all = refl
absent q x (y ∷ ys) h all =
    let less : x < y = cmp_below x y all.0 in
    let apart : nat_cmp q y ≡ Less = below_cmp q y (omega (arith, less, h)) in
    ap (λ r. is_eq r || has q ys) apart ∙ absent q x ys h all.1

here : (x : ℕ) (xs : List ℕ) → has x (x ∷ xs) ≡ true
here x xs = ap (λ r. is_eq r || has x xs) (same_cmp x)

not_both : {P : Type 0} → true ≡ false → P
not_both e = absurd (let f : true ≡ false = e in cc)

pub same_sets : (xs ys : List ℕ) → IsStrictlySortedBy nat_cmp xs → IsStrictlySortedBy nat_cmp ys
    → ((q : ℕ) → has q xs ≡ has q ys) → xs ≡ ys
unfolding IsStrictlySortedBy
same_sets [] [] s t h = refl
same_sets [] (y ∷ ys) s t h = not_both (sym (here y ys) ∙ sym (h y))
same_sets (x ∷ xs) [] s t h = not_both (sym (here x xs) ∙ h x)
same_sets (x ∷ xs) (y ∷ ys) s t h = by (nat_cmp x y) refl (same_sets xs ys s.1 t.1)
  where
    tail : (a : ℕ) (xs ys : List ℕ) → AllByRecursion (λ b. nat_cmp a b ≡ Less) xs
        → AllByRecursion (λ b. nat_cmp a b ≡ Less) ys
        → ((q : ℕ) → has q (a ∷ xs) ≡ has q (a ∷ ys)) → (q : ℕ) → has q xs ≡ has q ys
    tail a xs ys u v h q = at (nat_cmp q a) refl
      where
        at : (r : Ordering) → nat_cmp q a ≡ r → has q xs ≡ has q ys
        at Less e =
            absent q a xs (let l = cmp_below q a e in omega (arith, l)) u
            ∙ sym (absent q a ys (let l = cmp_below q a e in omega (arith, l)) v)
        at Equal e =
            let l : q ≡ a = ranked q a Equal (sym e) in absent q a xs (omega (arith, l)) u
            ∙ sym (absent q a ys (omega (arith, l)) v)
        at Greater e = ap (λ r. is_eq r || has q xs) (sym e) ∙ h q ∙ ap (λ r. is_eq r || has q ys) e

    by : (r : Ordering) → nat_cmp x y ≡ r → (((q : ℕ) → has q xs ≡ has q ys) → xs ≡ ys) → x ∷ xs ≡ y ∷ ys
    by Less e rest =
        let l : x < y = cmp_below x y e in
        not_both (sym (here x xs) ∙ h x ∙ ap (λ r. is_eq r || has x ys) e ∙ absent x y ys (omega (arith, l)) t.0)
    by Equal e rest =
        let l : x ≡ y = ranked x y Equal (sym e) in
        let T : ℕ → Type 0 = λ a. AllByRecursion (λ b. nat_cmp a b ≡ Less) ys in
        let H : ℕ → Type 0 = λ a. (q : ℕ) → has q (x ∷ xs) ≡ has q (a ∷ ys) in
        let more = rest (tail x xs ys s.0 (subst T (sym l) t.0) (subst H (sym l) h)) in
        λ i. l i ∷ more i
    by Greater e rest =
        let l : y < x = ranked x y Greater (sym e) in
        not_both (sym (here y ys) ∙ sym (h y) ∙ ap (λ r. is_eq r || has y xs) (below_cmp y x l)
        ∙ absent y x xs (omega (arith, l)) s.0)

-- a number that was put and taken out again
pub put_back : (n : ℕ) (ks : List ℕ) → has n ks ≡ false
    → remove_key (is_at (nat_cmp n)) (insert_key nat_cmp ks n) ≡ ks
put_back n [] h = ap (λ r. cond (is_eq r) [] (n ∷ [])) (same_cmp n)
put_back n (k ∷ ks) h = by (nat_cmp n k) refl h (put_back n ks)
  where
    by : (r : Ordering) → nat_cmp n k ≡ r → (is_eq r || has n ks) ≡ false
        → (has n ks ≡ false → remove_key (is_at (nat_cmp n)) (insert_key nat_cmp ks n) ≡ ks)
        → remove_key (is_at (nat_cmp n)) (match_ordering r (n ∷ k ∷ ks) (k ∷ ks) (k ∷ insert_key nat_cmp ks n)) ≡ k
        ∷ ks
    by Less e h rest =
        ap (λ r. cond (is_eq r) (k ∷ ks)
        (n ∷ cond (is_eq (nat_cmp n k)) ks (k ∷ remove_key (is_at (nat_cmp n)) ks))) (same_cmp n)
    by Equal e h rest = not_both h
    by Greater e h rest =
        ap (λ r. cond (is_eq r) (insert_key nat_cmp ks n)
        (k ∷ remove_key (is_at (nat_cmp n)) (insert_key nat_cmp ks n))) e ∙ ap (λ l. k ∷ l) (rest h)

true_and : (b : Bool) → (b && true) ≡ b
true_and true = refl
true_and false = refl

and_false : (b : Bool) → (b && false) ≡ false
and_false true = refl
and_false false = refl

-- the queues of the bindings that a test leaves
pub named_bound : (test : Binding → Bool) (bindings : List Binding) (n : ℕ)
    → is_named (map queue_of (filter test bindings)) n ≡ list_any (λ (b : Binding). nat_eq b.queue.0 n && test b)
    bindings
named_bound test [] n = refl
named_bound test (b ∷ bindings) n = by (test b) (named_bound test bindings n)
  where
    by : (t : Bool)
        → is_named (map queue_of (filter test bindings)) n ≡ list_any
        (λ (b : Binding). nat_eq b.queue.0 n && test b) bindings
        → is_named (map queue_of (cond t (b ∷ filter test bindings) (filter test bindings))) n ≡
        ((nat_eq b.queue.0 n && t) || list_any (λ (b : Binding). nat_eq b.queue.0 n && test b) bindings)
    by true rest =
        ap (λ c. nat_eq b.queue.0 n || c) rest
        ∙ ap (λ c. c || list_any (λ (b : Binding). nat_eq b.queue.0 n && test b) bindings)
        (sym (true_and (nat_eq b.queue.0 n)))
    by false rest =
        rest ∙ ap (λ c. c || list_any (λ (b : Binding). nat_eq b.queue.0 n && test b) bindings)
        (sym (and_false (nat_eq b.queue.0 n)))

-- what is named among the bound queues is what the exchange takes
pub same_filter : (e : ExchangeState) (key : List ℕ) (ks : List ℕ)
    → filter (is_named (map queue_of (filter (λ (b : Binding). takes e.kind b.key key) e.bindings))) ks ≡ filter
    (comes_to e key) ks
same_filter e key ks =
    ap (λ p. filter p ks) (λ i n. named_bound (λ (b : Binding). takes e.kind b.key key) e.bindings n i)

-- a filter of the known numbers has what is known and passes
pub has-filter : (p : ℕ → Bool) (q : ℕ) (ks : List ℕ) → has q (filter p ks) ≡ (has q ks && p q)
has-filter p q ks =
    any-filter_same (is_at (nat_cmp q)) p (p q) (λ k e. ap p (sym (at k (nat_cmp q k) refl e))) ks
    ∙ swap (p q) (has q ks)
  where
    at : (k : ℕ) (r : Ordering) → nat_cmp q k ≡ r → is_eq r ≡ true → q ≡ k
    at k Less e h = not_both (sym h)
    at k Equal e h = ranked q k Equal (sym e)
    at k Greater e h = not_both (sym h)

    swap : (a b : Bool) → (a && b) ≡ (b && a)
    swap true true = refl
    swap true false = refl
    swap false true = refl
    swap false false = refl

eq_apart : (n q : ℕ) → (n ≡ q → ⊥) → nat_eq n q ≡ false
eq_apart n q h = grind (arith, h)

-- one queue that is known is the only one of its name
one_known : (known : List ℕ) (one : QueueId) → IsStrictlySortedBy nat_cmp known → has one.0 known ≡ true
    → filter (is_named (one ∷ [])) known ≡ one.0 ∷ []
unfolding IsStrictlySortedBy
one_known known one rises is =
    same_sets (filter (is_named (one ∷ [])) known) (one.0 ∷ [])
    (IsStrictlySortedBy-filter nat_cmp (is_named (one ∷ [])) known rises) (tt, tt)
    (λ q. has-filter (is_named (one ∷ [])) q known ∙ by q (nat_cmp q one.0) refl)
  where
    by : (q : ℕ) (r : Ordering) → nat_cmp q one.0 ≡ r
        → (has q known && (nat_eq one.0 q || false)) ≡ (is_eq r || false)
    by q Less e =
        let l : q < one.0 = cmp_below q one.0 e in
        ap (λ t. has q known && (t || false)) (eq_apart one.0 q (λ s. omega (arith, l, s))) ∙ and_false (has q known)
    by q Equal e =
        let l : q ≡ one.0 = ranked q one.0 Equal (sym e) in
        let own : nat_eq one.0 q ≡ true = grind (arith, l) in
        ap (λ t. has q known && (t || false)) own ∙ true_and (has q known) ∙ ap (λ n. has n known) l ∙ is
    by q Greater e =
        let l : one.0 < q = ranked q one.0 Greater (sym e) in
        ap (λ t. has q known && (t || false)) (eq_apart one.0 q (λ s. omega (arith, l, s))) ∙ and_false (has q known)

pub one_listed : (known : List ℕ) (queues : List QueueId) → 1 ≤ length queues → length queues < 2
    → IsStrictlySortedBy nat_cmp known → has (get_or queues 0 (record { 0 = 0 })).0 known ≡ true
    → queues ≡ map queue_id (filter (is_named queues) known)
one_listed known [] least most rises is = absurd (omega (arith, least))
one_listed known (one ∷ []) least most rises is = sym (ap (map queue_id) (one_known known one rises is))
one_listed known (one ∷ two ∷ more) least most rises is = absurd (omega (arith, most))

-- so far the set has the known numbers that were named
pub record Gathers (known set : List ℕ) (queues : List QueueId) : Type 0 where
  pub rises : IsStrictlySortedBy nat_cmp set
  pub each : (q : ℕ) → has q set ≡ (has q known && is_named queues q)

named_more : (queues : List QueueId) (more : QueueId) (q : ℕ)
    → is_named (queues ++ more ∷ []) q ≡ (is_named queues q || nat_eq more.0 q)
named_more [] more q = by (nat_eq more.0 q)
  where
    by : (t : Bool) → (t || false) ≡ t
    by true = refl
    by false = refl
named_more (x ∷ queues) more q = ap (λ b. nat_eq x.0 q || b) (named_more queues more q) ∙ by (nat_eq x.0 q)
  where
    by : (t : Bool) → (t || (is_named queues q || nat_eq more.0 q)) ≡ ((t || is_named queues q) || nat_eq more.0 q)
    by true = refl
    by false = refl

-- a known number goes in,
pub gathers_known : (known set new : List ℕ) (queues : List QueueId) (more : QueueId) → Gathers known set queues
    → has more.0 known ≡ true
    → IsStrictlySortedBy nat_cmp new → ((q : ℕ) → has q new ≡ cond (is_at (nat_cmp more.0) q) true (has q set)) →
    Gathers known new (queues ++ more ∷ [])
gathers_known known set new queues more so_far is rises put =
    record {
      rises = rises;
      each = λ q. put q ∙ ap (λ b. cond (is_at (nat_cmp more.0) q) true b) (so_far.each q)
          ∙ by q (nat_cmp more.0 q) refl ∙ ap (λ b. has q known && b) (sym (named_more queues more q));
    }
  where
    or_true : (b c : Bool) → c ≡ true → (b || c) ≡ true
    or_true true c e = refl
    or_true false c e = e

    joined : (a b c : Bool) → c ≡ false → (a && b) ≡ (a && (b || c))
    joined a true c e = refl
    joined a false c e = ap (λ d. a && d) (sym e)

    all : (a b c : Bool) → a ≡ true → c ≡ true → true ≡ (a && (b || c))
    all a b c e f = sym (ap (λ d. d && (b || c)) e ∙ or_true b c f)

    by : (q : ℕ) (r : Ordering) → nat_cmp more.0 q ≡ r
        → cond (is_eq r) true (has q known && is_named queues q) ≡
        (has q known && (is_named queues q || nat_eq more.0 q))
    by q Less e =
        let l : more.0 < q = cmp_below more.0 q e in
        joined (has q known) (is_named queues q) (nat_eq more.0 q) (eq_apart more.0 q (λ s. omega (arith, l, s)))
    by q Equal e =
        let l : more.0 ≡ q = ranked more.0 q Equal (sym e) in
        all (has q known) (is_named queues q) (nat_eq more.0 q) (ap (λ m. has m known) (sym l) ∙ is)
        (grind (arith, l))
    by q Greater e =
        let l : q < more.0 = ranked more.0 q Greater (sym e) in
        joined (has q known) (is_named queues q) (nat_eq more.0 q) (eq_apart more.0 q (λ s. omega (arith, l, s)))

-- and another one doesn't
pub gathers_unknown : (known set : List ℕ) (queues : List QueueId) (more : QueueId) → Gathers known set queues
    → has more.0 known ≡ false
    → Gathers known set (queues ++ more ∷ [])
gathers_unknown known set queues more so_far is =
    record {
      rises = so_far.rises;
      each = λ q. so_far.each q ∙ by q (nat_eq more.0 q) refl
          ∙ ap (λ b. has q known && b) (sym (named_more queues more q));
    }
  where
    or_none : (b : Bool) → b ≡ (b || false)
    or_none true = refl
    or_none false = refl

    by : (q : ℕ) (t : Bool) → nat_eq more.0 q ≡ t
        → (has q known && is_named queues q) ≡ (has q known && (is_named queues q || t))
    by q true e =
        let l : more.0 ≡ q = grind (arith, e) in
        let none : has q known ≡ false = ap (λ m. has m known) (sym l) ∙ is in
        ap (λ b. b && is_named queues q) none ∙ sym (ap (λ b. b && (is_named queues q || true)) none)
    by q false e = ap (λ b. has q known && b) (or_none (is_named queues q))

pub some_targets : (t : Table) (name key : List ℕ) (e : ExchangeState) → t.exchanges name ≡ Some e
    → targets t name key ≡ None → ⊥
some_targets t name key e some none =
    let is : targets t name key ≡ Some (map queue_id (filter (comes_to e key) t.queues)) = ap
    (option_map (λ (e : ExchangeState). map queue_id (filter (comes_to e key) t.queues))) some in
    let f : Some (map queue_id (filter (comes_to e key) t.queues)) ≡ None = sym is ∙ none in
    cc
