-- The queue of consumers that wait: one leaves it, one enters it, and its first one is next.
use Rattle.std.proofs.Common.{◌≡◌, ◌⊎◌, ℕ, ◌<◌, ◌≤◌, true, false, [], ◌∷◌, ◌++◌, Option, Some, None, IfSome, is_some, refl, sym, ap, ◌∙◌, subst, inl, inr, arith}
use Rattle.std.specs.Prelude.{nat_eq, nat_lt, find}
use Rattle.std.specs.List.{AllByRecursion}
use Rattle.std.specs.Option.{option_map}
use Rattle.std.proofs.lemmas.Bool.{false≢true, cases_Bool, cond-true, cond-false, cond_both, eqb-true, eq-eqb}
use Rattle.qq_base.specs.declared.ids.ConsumerId.{ConsumerId}
use Rattle.qq_base.specs.Ids.{same_consumer}
use Rattle.qq_base.proofs.Lists.{AllByRecursion-append, AllByRecursion-weaker}
use Rattle.qq_model.proofs.OneConsumer.{same_consumer-true, same_consumer-refl}
use Rattle.qq_consumer.specs.declared.rising.Numbered.{Numbered}
use Rattle.qq_consumer.specs.Numbers.{Rises, AreBelow, IsFree, has_number, item_by, with_item, without}
use Rattle.qq_consumer.specs.Turns.{Waiting, waiter, IsIn, IsQueue, leave, enter, place_in}
use Rattle.qq_consumer.proofs.Places.{rises-push, rises-with, each-with, rises-without, each-without}

-- ---- where one stands

pub in-each : (P : Numbered ConsumerId → Type 0) (one : Numbered ConsumerId) (ws : Waiting) → AllByRecursion P ws
    → IsIn one ws
    → P one
in-each P one [] each here = absurd here
in-each P one (w ∷ ws) each (inl same) = subst P (sym same) each.0
in-each P one (w ∷ ws) each (inr later) = in-each P one ws each.1 later

in-left : (one : Numbered ConsumerId) (ws vs : Waiting) → IsIn one ws → IsIn one (ws ++ vs)
in-left one [] vs here = absurd here
in-left one (w ∷ ws) vs (inl same) = inl same
in-left one (w ∷ ws) vs (inr later) = inr (in-left one ws vs later)

in-last : (one : Numbered ConsumerId) (ws : Waiting) → IsIn one (ws ++ one ∷ [])
in-last one [] = inl refl
in-last one (w ∷ ws) = inr (in-last one ws)

in-with_own : (one : Numbered ConsumerId) (ws : Waiting) → IsIn one (with_item one ws)
in-with_own one [] = inl refl
in-with_own one (w ∷ ws) =
    cond_both (nat_lt w.number one.number) (w ∷ with_item one ws) (one ∷ w ∷ ws) (IsIn one)
    (λ _. inr (in-with_own one ws)) (λ _. inl refl)

in-with : (one other : Numbered ConsumerId) (ws : Waiting) → IsIn other ws → IsIn other (with_item one ws)
in-with one other [] here = absurd here
in-with one other (w ∷ ws) here =
    cond_both (nat_lt w.number one.number) (w ∷ with_item one ws) (one ∷ w ∷ ws) (IsIn other)
    (λ _. by here (λ later. in-with one other ws later)) (λ _. inr here)
  where
    by : IsIn other (w ∷ ws) → (IsIn other ws → IsIn other (with_item one ws)) → IsIn other (w ∷ with_item one ws)
    by (inl same) rest = inl same
    by (inr later) rest = inr (rest later)

-- numbers that rise are each one's own
pub in-once : (a b : Numbered ConsumerId) (ws : Waiting) → Rises ws → IsIn a ws → IsIn b ws → a.number ≡ b.number → a ≡ b
in-once a b [] rising here there same = absurd here
in-once a b (w ∷ ws) rising (inl here) (inl there) same = here ∙ sym there
in-once a b (w ∷ ws) rising (inl here) (inr there) same =
    let less : w.number < b.number = in-each (λ (o : Numbered ConsumerId). w.number < o.number) b ws rising.0 there in
    let own : a.number ≡ w.number = ap (λ (o : Numbered ConsumerId). o.number) here in
    absurd (omega arith)
in-once a b (w ∷ ws) rising (inr here) (inl there) same =
    let less : w.number < a.number = in-each (λ (o : Numbered ConsumerId). w.number < o.number) a ws rising.0 here in
    let own : b.number ≡ w.number = ap (λ (o : Numbered ConsumerId). o.number) there in
    absurd (omega arith)
in-once a b (w ∷ ws) rising (inr here) (inr there) same = in-once a b ws rising.1 here there same

in-without : (number : ℕ) (one : Numbered ConsumerId) (ws : Waiting) → IsIn one ws → (one.number ≡ number → ⊥)
    → IsIn one (without number ws)
in-without number one [] here other = absurd here
in-without number one (w ∷ ws) here other = by (cases_Bool (has_number number w)) here
    (λ later. in-without number one ws later other)
  where
    by : (has_number number w ≡ true) ⊎ (has_number number w ≡ false) → IsIn one (w ∷ ws)
        → (IsIn one ws → IsIn one (without number ws)) → IsIn one (without number (w ∷ ws))
    by (inl is) (inl same) rest =
        absurd (other (ap (λ (o : Numbered ConsumerId). o.number) same ∙ eqb-true w.number number is))
    by (inl is) (inr later) rest =
        subst (IsIn one) (sym (cond-true (has_number number w) ws (w ∷ without number ws) is)) later
    by (inr isn't) (inl same) rest =
        subst (IsIn one) (sym (cond-false (has_number number w) ws (w ∷ without number ws) isn't)) (inl same)
    by (inr isn't) (inr later) rest =
        subst (IsIn one) (sym (cond-false (has_number number w) ws (w ∷ without number ws) isn't)) (inr (rest later))

-- the others have other numbers
others : (P : Numbered ConsumerId → Type 0) (number : ℕ) (ws : Waiting) → Rises ws → AllByRecursion P ws
    → AllByRecursion (λ (o : Numbered ConsumerId). P o × (o.number ≡ number → ⊥)) (without number ws)
others P number [] rising each = tt
others P number (w ∷ ws) rising each = by (cases_Bool (has_number number w)) (others P number ws rising.1 each.1)
  where
    Q : Numbered ConsumerId → Type 0
    Q o = P o × (o.number ≡ number → ⊥)

    above : (vs : Waiting) → w.number ≡ number → AllByRecursion P vs
        → AllByRecursion (λ (o : Numbered ConsumerId). w.number < o.number) vs → AllByRecursion Q vs
    above [] is each' less = tt
    above (v ∷ vs) is each' less = ((each'.0, λ same. absurd (omega (arith, less.0))), above vs is each'.1 less.1)

    by : (has_number number w ≡ true) ⊎ (has_number number w ≡ false) → AllByRecursion Q (without number ws)
        → AllByRecursion Q (without number (w ∷ ws))
    by (inl is) rest =
        subst (AllByRecursion Q) (sym (cond-true (has_number number w) ws (w ∷ without number ws) is))
        (above ws (eqb-true w.number number is) each.1 rising.0)
    by (inr isn't) rest =
        subst (AllByRecursion Q) (sym (cond-false (has_number number w) ws (w ∷ without number ws) isn't)) (
          (
            each.0,
            λ same. absurd
                (false≢true (sym isn't ∙ ap (λ n. nat_eq n number) same ∙ eq-eqb number number refl)),
          ),
          rest,
        )

-- ---- the queue

-- the turns are those of before, but for one consumer
abbrev pub IsAside : ConsumerId → (ConsumerId → Option ℕ) → (ConsumerId → Option ℕ) → Type 0
IsAside id f g = (q : ConsumerId) → same_consumer id q ≡ false → g q ≡ f q

some-is : (a b : ℕ) → Some a ≡ Some b → a ≡ b
some-is a b same = cc

-- at the consumer itself
own-turn : (id q : ConsumerId) (f : ConsumerId → Option ℕ) → same_consumer id q ≡ true → f q ≡ f id
own-turn id q f is = ap f (sym (same_consumer-true id q is))

pub same-queue : (f g : ConsumerId → Option ℕ) (last later : ℕ) (ws : Waiting) → IsQueue f last ws
    → ((q : ConsumerId) → g q ≡ f q) → last ≤ later → IsQueue g later ws
same-queue f g last later ws queue same le = record {
  order = queue.order;
  drawn =
      AllByRecursion-weaker (λ (o : Numbered ConsumerId). o.number ≤ last)
      (λ (o : Numbered ConsumerId). o.number ≤ later)
      (λ o most. omega arith) ws queue.drawn;
  among =
      AllByRecursion-weaker (λ (o : Numbered ConsumerId). f o.item ≡ Some o.number)
      (λ (o : Numbered ConsumerId). g o.item ≡ Some o.number) (λ o is. same o.item ∙ is) ws queue.among;
  all = λ q n is. queue.all q n (sym (same q) ∙ is);
}

-- as before at all, where one consumer has the turn that it had
aside-same : (id : ConsumerId) (f g : ConsumerId → Option ℕ) → IsAside id f g → g id ≡ f id
    → (q : ConsumerId) → g q ≡ f q
aside-same id f g aside own q = by (cases_Bool (same_consumer id q))
  where
    by : (same_consumer id q ≡ true) ⊎ (same_consumer id q ≡ false) → g q ≡ f q
    by (inl is) = own-turn id q g is ∙ own ∙ sym (own-turn id q f is)
    by (inr other) = aside q other

pub stays-queue : (id : ConsumerId) (f g : ConsumerId → Option ℕ) (last later : ℕ) (ws : Waiting) → IsQueue f last ws
    → IsAside id f g → g id ≡ f id → last ≤ later → IsQueue g later ws
stays-queue id f g last later ws queue aside own le =
    same-queue f g last later ws queue (aside-same id f g aside own) le

pub leave-queue : (id : ConsumerId) (f g : ConsumerId → Option ℕ) (last : ℕ) (ws : Waiting) (turn : Option ℕ)
    → IsQueue f last ws → IsAside id f g → f id ≡ turn → g id ≡ None → IsQueue g last (leave turn ws)
leave-queue id f g last ws None queue aside was none =
    stays-queue id f g last last ws queue aside (none ∙ sym was) (omega arith)
leave-queue id f g last ws (Some n) queue aside was none = record {
  order = rises-without n ws queue.order;
  drawn = each-without (λ (o : Numbered ConsumerId). o.number ≤ last) n ws queue.drawn;
  among =
      AllByRecursion-weaker
      (λ (o : Numbered ConsumerId). (f o.item ≡ Some o.number) × (o.number ≡ n → ⊥))
      (λ (o : Numbered ConsumerId). g o.item ≡ Some o.number) (λ o is. still o is.0 is.1) (without n ws)
      (others (λ (o : Numbered ConsumerId). f o.item ≡ Some o.number) n ws queue.order queue.among);
  all = λ q m is. there q m is (cases_Bool (same_consumer id q));
}
  where
    still : (o : Numbered ConsumerId) → f o.item ≡ Some o.number → (o.number ≡ n → ⊥) → g o.item ≡ Some o.number
    still o is other = by (cases_Bool (same_consumer id o.item))
      where
        by : (same_consumer id o.item ≡ true) ⊎ (same_consumer id o.item ≡ false) → g o.item ≡ Some o.number
        by (inl own) = absurd (other (some-is o.number n (sym is ∙ own-turn id o.item f own ∙ was)))
        by (inr no_one) = aside o.item no_one ∙ is

    there : (q : ConsumerId) (m : ℕ) → g q ≡ Some m → (same_consumer id q ≡ true) ⊎ (same_consumer id q ≡ false)
        → IsIn (waiter m q) (without n ws)
    there q m is (inl own) =
        let e : None ≡ Some m = sym none ∙ sym (own-turn id q g own) ∙ is in absurd cc
    there q m is (inr no_one) =
        let here : IsIn (waiter m q) ws = queue.all q m (sym (aside q no_one) ∙ is) in
        in-without n (waiter m q) ws here
        (λ same. absurd (false≢true (sym no_one
        ∙ ap (same_consumer id) (ap (λ (o : Numbered ConsumerId). o.item)
        (in-once (waiter m q) (waiter n id) ws queue.order here (queue.all id n was) same))
        ∙ same_consumer-refl id)))

pub below-last : (last turn : ℕ) (ws : Waiting) → AllByRecursion (λ (o : Numbered ConsumerId). o.number ≤ last) ws
    → last < turn → AreBelow turn ws
below-last last turn ws drawn less =
    AllByRecursion-weaker (λ (o : Numbered ConsumerId). o.number ≤ last) (λ (o : Numbered ConsumerId). o.number < turn)
    (λ o most. omega arith) ws drawn

pub enter-queue : (id : ConsumerId) (f g : ConsumerId → Option ℕ) (last later : ℕ) (ws : Waiting) (turn : Option ℕ)
    → IsQueue f last ws → IsAside id f g → f id ≡ None → g id ≡ turn → last < later
    → (turn ≡ None) ⊎ (turn ≡ Some later) → IsQueue g later (enter id turn ws)
enter-queue id f g last later ws None queue aside none own less new =
    stays-queue id f g last later ws queue aside (own ∙ sym none) (omega arith)
enter-queue id f g last later ws (Some n) queue aside none own less (inl new) = absurd cc
enter-queue id f g last later ws (Some n) queue aside none own less (inr new) = record {
  order = rises-push ws (waiter n id) queue.order (below-last last n ws queue.drawn more);
  drawn =
      AllByRecursion-append (λ (o : Numbered ConsumerId). o.number ≤ later) ws (waiter n id ∷ [])
      (AllByRecursion-weaker (λ (o : Numbered ConsumerId). o.number ≤ last)
      (λ (o : Numbered ConsumerId). o.number ≤ later) (λ o most. omega arith) ws queue.drawn) (most, tt);
  among =
      AllByRecursion-append (λ (o : Numbered ConsumerId). g o.item ≡ Some o.number) ws (waiter n id ∷ [])
      (AllByRecursion-weaker (λ (o : Numbered ConsumerId). f o.item ≡ Some o.number)
      (λ (o : Numbered ConsumerId). g o.item ≡ Some o.number) still ws queue.among) (own, tt);
  all = λ q m is. there q m is (cases_Bool (same_consumer id q));
}
  where
    more : last < n
    more = let own : n ≡ later = some-is n later new in omega (arith, own)

    most : n ≤ later
    most = let own : n ≡ later = some-is n later new in omega (arith, own)

    still : (o : Numbered ConsumerId) → f o.item ≡ Some o.number → g o.item ≡ Some o.number
    still o is = by (cases_Bool (same_consumer id o.item))
      where
        by : (same_consumer id o.item ≡ true) ⊎ (same_consumer id o.item ≡ false) → g o.item ≡ Some o.number
        by (inl its) = let e : None ≡ Some o.number = sym none ∙ sym (own-turn id o.item f its) ∙ is in absurd cc
        by (inr no_one) = aside o.item no_one ∙ is

    there : (q : ConsumerId) (m : ℕ) → g q ≡ Some m → (same_consumer id q ≡ true) ⊎ (same_consumer id q ≡ false)
        → IsIn (waiter m q) (ws ++ waiter n id ∷ [])
    there q m is (inl its) =
        let turns : m ≡ n = some-is m n (sym is ∙ own-turn id q g its ∙ own) in
        let ids : id ≡ q = same_consumer-true id q its in
        subst (λ (o : Numbered ConsumerId). IsIn o (ws ++ waiter n id ∷ []))
        (ap (λ k. waiter k id) (sym turns) ∙ ap (waiter m) ids) (in-last (waiter n id) ws)
    there q m is (inr no_one) =
        in-left (waiter m q) ws (waiter n id ∷ []) (queue.all q m (sym (aside q no_one) ∙ is))

-- one with a turn that nobody has waits in its place
pub place-queue : (id : ConsumerId) (f g : ConsumerId → Option ℕ) (last : ℕ) (ws : Waiting) (turn : Option ℕ)
    → IsQueue f last ws → IsAside id f g → f id ≡ None → g id ≡ turn → IfSome turn (λ n. n ≤ last)
    → IfSome turn (λ n. IsFree n ws) → IsQueue g last (place_in id turn ws)
place-queue id f g last ws None queue aside none own drawn free =
    stays-queue id f g last last ws queue aside (own ∙ sym none) (omega arith)
place-queue id f g last ws (Some n) queue aside none own drawn free = record {
  order = rises-with (waiter n id) ws queue.order free;
  drawn = each-with (λ (o : Numbered ConsumerId). o.number ≤ last) (waiter n id) ws queue.drawn drawn;
  among =
      each-with (λ (o : Numbered ConsumerId). g o.item ≡ Some o.number) (waiter n id) ws
      (AllByRecursion-weaker (λ (o : Numbered ConsumerId). f o.item ≡ Some o.number)
      (λ (o : Numbered ConsumerId). g o.item ≡ Some o.number) still ws queue.among) own;
  all = λ q m is. there q m is (cases_Bool (same_consumer id q));
}
  where
    still : (o : Numbered ConsumerId) → f o.item ≡ Some o.number → g o.item ≡ Some o.number
    still o is = by (cases_Bool (same_consumer id o.item))
      where
        by : (same_consumer id o.item ≡ true) ⊎ (same_consumer id o.item ≡ false) → g o.item ≡ Some o.number
        by (inl its) = let e : None ≡ Some o.number = sym none ∙ sym (own-turn id o.item f its) ∙ is in absurd cc
        by (inr no_one) = aside o.item no_one ∙ is

    there : (q : ConsumerId) (m : ℕ) → g q ≡ Some m → (same_consumer id q ≡ true) ⊎ (same_consumer id q ≡ false)
        → IsIn (waiter m q) (with_item (waiter n id) ws)
    there q m is (inl its) =
        let turns : m ≡ n = some-is m n (sym is ∙ own-turn id q g its ∙ own) in
        let ids : id ≡ q = same_consumer-true id q its in
        subst (λ (o : Numbered ConsumerId). IsIn o (with_item (waiter n id) ws))
        (ap (λ k. waiter k id) (sym turns) ∙ ap (waiter m) ids) (in-with_own (waiter n id) ws)
    there q m is (inr no_one) =
        in-with (waiter n id) (waiter m q) ws (queue.all q m (sym (aside q no_one) ∙ is))

-- a turn that is in the queue is found there
pub found-turn : (n : ℕ) (id : ConsumerId) (ws : Waiting) → IsIn (waiter n id) ws → is_some (item_by n ws) ≡ true
found-turn n id [] here = absurd here
found-turn n id (w ∷ ws) here = by (cases_Bool (has_number n w)) here (λ later. found-turn n id ws later)
  where
    by : (has_number n w ≡ true) ⊎ (has_number n w ≡ false) → IsIn (waiter n id) (w ∷ ws)
        → (IsIn (waiter n id) ws → is_some (item_by n ws) ≡ true) → is_some (item_by n (w ∷ ws)) ≡ true
    by (inl is) it rest =
        ap (λ (o : Option (Numbered ConsumerId)). is_some (option_map (λ (x : Numbered ConsumerId). x.item) o))
        (cond-true (has_number n w) (Some w) (find (has_number n) ws) is)
    by (inr isn't) (inl same) rest =
        absurd (false≢true (sym isn't ∙ ap (λ k. nat_eq k n) (sym (ap (λ (o : Numbered ConsumerId). o.number) same))
        ∙ eq-eqb n n refl))
    by (inr isn't) (inr later) rest =
        ap (λ (o : Option (Numbered ConsumerId)). is_some (option_map (λ (x : Numbered ConsumerId). x.item) o))
        (cond-false (has_number n w) (Some w) (find (has_number n) ws) isn't) ∙ rest later
