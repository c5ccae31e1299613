-- Those that wait to be served are a queue.
use Rattle.std.proofs.Common.{◌≡◌, ℕ, ◌+◌, ◌-◌, ◌<◌, ◌≤◌, ◌⊎◌, Bool, true, false, not, ◌&&◌, List, [], ◌∷◌, ◌++◌, Option, Some, None, map, refl, sym, ap, ◌∙◌, subst, inl, inr, arith, if◌then◌else◌}
use Rattle.std.specs.Prelude.{nat_lt, Contains}
use Rattle.std.specs.Option.{option_map}
use Rattle.std.specs.List.{AllByRecursion}
use Rattle.std.proofs.lemmas.Bool.{false≢true, cases_Bool, cond-true, cond-false, lt-ltb}
use Rattle.qq_base.proofs.Lists.{In, In-map, In-append_left, In-append_right, AllByRecursion-in, AllByRecursion-append, AllByRecursion-map, AllByRecursion-weaker}
use Rattle.qq_base.specs.declared.ids.ConsumerId.{ConsumerId}
use Rattle.qq_base.specs.Ids.{same_consumer}
use Rattle.qq_model.specs.declared.place.Row.{Row}
use Rattle.qq_model.specs.declared.consumer.Consumer.{Consumer}
use Rattle.qq_entry.specs.declared.command.Mode.{Mode}
use Rattle.qq_entry.specs.declared.command.Mode.TheVariants.{Prefetch, Link}
use Rattle.qq_model.specs.State.{State}
use Rattle.qq_model.specs.Choice.{credit_left, may_be_served, waiting_turn, longest_waiting, next_consumer, is_lesser}
use Rattle.qq_model.specs.Serving.{use_credit}
use Rattle.qq_model.proofs.Least.{nat_lt-order, least_by-is, none-least_by}
use Rattle.qq_model.proofs.Lists.{AllByRecursion-from_in}
use Rattle.qq_model.proofs.OneConsumer.{same_consumer-refl}
use Rattle.qq_model.proofs.Soundness.{Contains-in, in_contains}
use Rattle.qq_parts.specs.Reduced.{Item}
use Rattle.qq_parts.specs.Parts.{Served, consumer_at, Parts, Stands, AreTwo, AreApart, IsWhole}
use Rattle.qq_parts.specs.Outs.{serve_one, hand_to, hand_over}
use Rattle.qq_parts.specs.Turns.{may_serve, AreByTurn, AreWaiting, first_one, behind, AreInTurn}
use Rattle.qq_parts.proofs.Reading.{out-is}

-- The next one ----------------------------------------------------------------------------------------

-- a consumer may be served where the definition says so
pub may-is : (m : Parts) (s : State) (one : Served) → Stands m s → IsWhole m → In one m.served
    → may_be_served s.rows one.consumer ≡ may_serve one
may-is m s one stands whole here =
    ap (λ n. not one.consumer.cancelled && nat_lt 0 (credit_left one.consumer.mode one.consumer.credit n))
    (out-is m s one stands whole here)

turn-of : (rows : List Row) (one : Served) (may : Bool) → may_be_served rows one.consumer ≡ may
    → waiting_turn rows one.consumer ≡ (if may then Some one.consumer.turn else None)
turn-of rows one may is = ap (λ (b : Bool). if b then Some one.consumer.turn else None) is

-- one whose turn is least of all that wait
first-turn : (m : Parts) (s : State) (one : Served) (ones : List Served) → Stands m s → IsWhole m
    → AreWaiting m (one ∷ ones) → longest_waiting s.rows (map consumer_at m.served) ≡ Some one.consumer
first-turn m s one ones stands whole waiting =
    let here : In one m.served = in_contains m.served one waiting.among.0.0 in
    let turn : ℕ = one.consumer.turn in
    let keyed : waiting_turn s.rows one.consumer ≡ Some turn =
    turn-of s.rows one true (may-is m s one stands whole here ∙ waiting.among.0.1) in
    let first : Consumer → Type 0 = λ c.
    (c ≡ one.consumer) ⊎ (is_lesser nat_lt (waiting_turn s.rows one.consumer) (waiting_turn s.rows c) ≡ true) in
    least_by-is nat_lt (waiting_turn s.rows) nat_lt-order (map consumer_at m.served) one.consumer turn
    (In-map consumer_at one m.served here) keyed
    (AllByRecursion-map (λ (other : Served). first other.consumer) first consumer_at m.served (λ other it. it)
    (AllByRecursion-from_in (λ (other : Served). first other.consumer) m.served
    (λ other there. by other there keyed
    (AllByRecursion-in (λ (k : Served). (may_serve k ≡ false) ⊎ Contains (one ∷ ones) k) other m.served waiting.all
    there))))
  where
    lesser : (other : Served) (o : Option ℕ) → waiting_turn s.rows one.consumer ≡ Some one.consumer.turn
        → waiting_turn s.rows other.consumer ≡ o → is_lesser nat_lt (Some one.consumer.turn) o ≡ true
        → is_lesser nat_lt (waiting_turn s.rows one.consumer) (waiting_turn s.rows other.consumer) ≡ true
    lesser other o keyed is less =
        ap (λ k. is_lesser nat_lt k (waiting_turn s.rows other.consumer)) keyed
        ∙ ap (λ k. is_lesser nat_lt (Some one.consumer.turn) k) is ∙ less

    by : (other : Served) → In other m.served → waiting_turn s.rows one.consumer ≡ Some one.consumer.turn
        → (may_serve other ≡ false) ⊎ Contains (one ∷ ones) other
        → (other.consumer ≡ one.consumer)
        ⊎ (is_lesser nat_lt (waiting_turn s.rows one.consumer) (waiting_turn s.rows other.consumer) ≡ true)
    by other there keyed (inl never) =
        inr (lesser other None keyed
        (turn-of s.rows other false (may-is m s other stands whole there ∙ never)) refl)
    by other there keyed (inr waits) = elim (in_contains (one ∷ ones) other waits) [
      | inl same ↦ inl (ap consumer_at same)
      | inr later ↦
          let more : one.consumer.turn < other.consumer.turn =
          AllByRecursion-in (λ (k : Served). one.consumer.turn < k.consumer.turn) other ones waiting.order.0 later in
          let may =
          AllByRecursion-in (λ (k : Served). Contains m.served k × (may_serve k ≡ true)) other ones waiting.among.1
          later in
          inr (lesser other (Some other.consumer.turn) keyed
          (turn-of s.rows other true (may-is m s other stands whole there ∙ may.1))
          (lt-ltb one.consumer.turn other.consumer.turn more))
    ]

none-turn : (m : Parts) (s : State) → Stands m s → IsWhole m → AreWaiting m []
    → longest_waiting s.rows (map consumer_at m.served) ≡ None
none-turn m s stands whole waiting =
    none-least_by nat_lt (waiting_turn s.rows) (map consumer_at m.served)
    (AllByRecursion-map (λ (one : Served). waiting_turn s.rows one.consumer ≡ None)
    (λ (c : Consumer). waiting_turn s.rows c ≡ None) consumer_at m.served (λ one it. it)
    (AllByRecursion-from_in (λ (one : Served). waiting_turn s.rows one.consumer ≡ None) m.served
    (λ one here. by one here
    (AllByRecursion-in (λ (k : Served). (may_serve k ≡ false) ⊎ Contains [] k) one m.served waiting.all here))))
  where
    by : (one : Served) → In one m.served → (may_serve one ≡ false) ⊎ Contains [] one
        → waiting_turn s.rows one.consumer ≡ None
    by one here (inl never) = turn-of s.rows one false (may-is m s one stands whole here ∙ never)
    by one here (inr waits) = absurd (in_contains [] one waits)

next-by : (m : Parts) (s : State) (waiting : List Served) → Stands m s → IsWhole m → AreWaiting m waiting
    → longest_waiting s.rows (map consumer_at m.served) ≡ option_map consumer_at (first_one waiting)
next-by m s [] stands whole waiting = none-turn m s stands whole waiting
next-by m s (one ∷ ones) stands whole waiting = first-turn m s one ones stands whole waiting

pub next-in_turn : (m : Parts) (s : State) (waiting : List Served) → Stands m s → IsWhole m → AreWaiting m waiting
    → next_consumer false s.rows s.consumers ≡ option_map consumer_at (first_one waiting)
next-in_turn m s waiting stands whole queue =
    ap (λ (t : State). longest_waiting s.rows t.consumers) stands.rest ∙ next-by m s waiting stands whole queue

-- Serving ---------------------------------------------------------------------------------------------

-- one that waits behind the first isn't it
not-first : (one other : Served) → one.consumer.turn < other.consumer.turn → other ≡ one → ⊥
not-first one other less same =
    let turn : other.consumer.turn ≡ one.consumer.turn = ap (λ (k : Served). k.consumer.turn) same in
    absurd (omega arith)

-- where two are the same, their ids are
pub one-id : (one other : Served) (ones : List Served) → AreApart ones → In one ones → In other ones
    → same_consumer other.consumer.id one.consumer.id ≡ true → other ≡ one
one-id one other [] apart here there same = absurd here
one-id one other (first ∷ ones) apart (inl here) (inl there) same = there ∙ sym here
one-id one other (first ∷ ones) apart (inl here) (inr there) same =
    let two = AllByRecursion-in (AreTwo first) other ones apart.0 there in
    absurd (false≢true (sym (ap (λ (k : Served). same_consumer other.consumer.id k.consumer.id) here ∙ two.1) ∙ same))
one-id one other (first ∷ ones) apart (inr here) (inl there) same =
    let two = AllByRecursion-in (AreTwo first) one ones apart.0 here in
    absurd (false≢true (sym (ap (λ (k : Served). same_consumer k.consumer.id one.consumer.id) there ∙ two.0) ∙ same))
one-id one other (first ∷ ones) apart (inr here) (inr there) same = one-id one other ones apart.1 here there same

-- the served one is there, and so are the others
pub handed-self : (turn : ℕ) (x : Item) (one : Served) (ones : List Served) → AreApart ones → In one ones
    → In (serve_one turn x one) (hand_to turn x one.consumer.id ones)
handed-self turn x one [] apart here = absurd here
handed-self turn x one (first ∷ ones) apart here =
    by (cases_Bool (same_consumer first.consumer.id one.consumer.id)) here
    (λ later. handed-self turn x one ones apart.1 later)
  where
    by : (same_consumer first.consumer.id one.consumer.id ≡ true)
        ⊎ (same_consumer first.consumer.id one.consumer.id ≡ false) → In one (first ∷ ones)
        → (In one ones → In (serve_one turn x one) (hand_to turn x one.consumer.id ones))
        → In (serve_one turn x one) (hand_to turn x one.consumer.id (first ∷ ones))
    by (inl is) there rest =
        let same : first ≡ one = one-id one first (first ∷ ones) apart there (inl refl) is in
        subst (In (serve_one turn x one))
        (sym (cond-true (same_consumer first.consumer.id one.consumer.id) (serve_one turn x first ∷ ones)
        (first ∷ hand_to turn x one.consumer.id ones) is)) (inl (ap (serve_one turn x) (sym same)))
    by (inr other) (inl same) rest =
        absurd (false≢true (sym other ∙ ap (λ (k : Served). same_consumer k.consumer.id one.consumer.id) (sym same)
        ∙ same_consumer-refl one.consumer.id))
    by (inr other) (inr later) rest =
        subst (In (serve_one turn x one))
        (sym (cond-false (same_consumer first.consumer.id one.consumer.id) (serve_one turn x first ∷ ones)
        (first ∷ hand_to turn x one.consumer.id ones) other)) (inr (rest later))

pub handed-other : (turn : ℕ) (x : Item) (consumer : ConsumerId) (k : Served) (ones : List Served) → In k ones
    → same_consumer k.consumer.id consumer ≡ false → In k (hand_to turn x consumer ones)
handed-other turn x consumer k [] here other = absurd here
handed-other turn x consumer k (first ∷ ones) (inl same) other =
    let is : same_consumer first.consumer.id consumer ≡ false =
    ap (λ (o : Served). same_consumer o.consumer.id consumer) (sym same) ∙ other in
    subst (In k)
    (sym (cond-false (same_consumer first.consumer.id consumer) (serve_one turn x first ∷ ones)
    (first ∷ hand_to turn x consumer ones) is)) (inl same)
handed-other turn x consumer k (first ∷ ones) (inr later) other =
    by (cases_Bool (same_consumer first.consumer.id consumer)) (handed-other turn x consumer k ones later other)
  where
    by : (same_consumer first.consumer.id consumer ≡ true) ⊎ (same_consumer first.consumer.id consumer ≡ false)
        → In k (hand_to turn x consumer ones) → In k (hand_to turn x consumer (first ∷ ones))
    by (inl is) rest =
        subst (In k)
        (sym (cond-true (same_consumer first.consumer.id consumer) (serve_one turn x first ∷ ones)
        (first ∷ hand_to turn x consumer ones) is)) (inr later)
    by (inr is) rest =
        subst (In k)
        (sym (cond-false (same_consumer first.consumer.id consumer) (serve_one turn x first ∷ ones)
        (first ∷ hand_to turn x consumer ones) is)) (inr rest)

-- what is there after a serving
pub handed-cases : (turn : ℕ) (x : Item) (one k : Served) (ones : List Served) → AreApart ones → In one ones
    → In k (hand_to turn x one.consumer.id ones)
    → (k ≡ serve_one turn x one) ⊎ (In k ones × (same_consumer k.consumer.id one.consumer.id ≡ false))
handed-cases turn x one k [] apart here there = absurd here
handed-cases turn x one k (first ∷ ones) apart here there =
    by (cases_Bool (same_consumer first.consumer.id one.consumer.id)) here
    (λ later. handed-cases turn x one k ones apart.1 later)
  where
    Goal : Type 0
    Goal =
        (k ≡ serve_one turn x one) ⊎ (In k (first ∷ ones) × (same_consumer k.consumer.id one.consumer.id ≡ false))

    by : (same_consumer first.consumer.id one.consumer.id ≡ true)
        ⊎ (same_consumer first.consumer.id one.consumer.id ≡ false) → In one (first ∷ ones)
        → (In one ones → In k (hand_to turn x one.consumer.id ones)
        → (k ≡ serve_one turn x one) ⊎ (In k ones × (same_consumer k.consumer.id one.consumer.id ≡ false)))
        → Goal
    by (inl is) mine rest =
        let same : first ≡ one = one-id one first (first ∷ ones) apart mine (inl refl) is in
        let list : In k (serve_one turn x first ∷ ones) =
        subst (In k) (cond-true (same_consumer first.consumer.id one.consumer.id) (serve_one turn x first ∷ ones)
        (first ∷ hand_to turn x one.consumer.id ones) is) there in
        elim (list) [
          | inl at ↦ inl (at ∙ ap (serve_one turn x) same)
          | inr later ↦
              let two = AllByRecursion-in (AreTwo first) k ones apart.0 later in
              inr (inr later, ap (λ (o : Served). same_consumer k.consumer.id o.consumer.id) (sym same) ∙ two.1)
        ]
    by (inr other) mine rest =
        let list : In k (first ∷ hand_to turn x one.consumer.id ones) =
        subst (In k) (cond-false (same_consumer first.consumer.id one.consumer.id) (serve_one turn x first ∷ ones)
        (first ∷ hand_to turn x one.consumer.id ones) other) there in
        elim (list) [
          | inl at ↦
              inr (inl at, ap (λ (o : Served). same_consumer o.consumer.id one.consumer.id) at ∙ other)
          | inr later ↦ elim (mine) [
            | inl same ↦
                absurd (false≢true (sym other
                ∙ ap (λ (o : Served). same_consumer o.consumer.id one.consumer.id) (sym same)
                ∙ same_consumer-refl one.consumer.id))
            | inr stays ↦ elim (rest stays later) [
              | inl is ↦ inl is
              | inr old ↦ inr (inr old.0, old.1)
            ]
          ]
        ]

turn-served : (mode : Mode) (turn : ℕ) (consumer : Consumer)
    → (use_credit mode (record consumer { next_id = consumer.next_id + 1; turn = turn })).turn ≡ turn
turn-served (Prefetch prefetch) turn consumer = refl
turn-served Link turn consumer = refl

by_turn-push : (ones : List Served) (new : Served) (last : ℕ) → AreByTurn ones
    → AllByRecursion (λ (one : Served). one.consumer.turn ≤ last) ones → last < new.consumer.turn
    → AreByTurn (ones ++ new ∷ [])
by_turn-push [] new last order below above = (tt, tt)
by_turn-push (one ∷ ones) new last order below above =
    let less : one.consumer.turn < new.consumer.turn = omega (arith, below.0) in (
      AllByRecursion-append (λ (other : Served). one.consumer.turn < other.consumer.turn) ones (new ∷ []) order.0
          (less, tt),
      by_turn-push ones new last order.1 below.1 above,
    )

-- what is true of each that waits, and of the served one if it waits
behind-each : (P : Served → Type 0) (one : Served) (ones : List Served) → AllByRecursion P ones
    → (may_serve one ≡ true → P one) → AllByRecursion P (behind one ones)
behind-each P one ones each own = by (may_serve one) own
  where
    by : (b : Bool) → (b ≡ true → P one) → AllByRecursion P (if b then ones ++ one ∷ [] else ones)
    by true own = AllByRecursion-append P ones (one ∷ []) each (own refl, tt)
    by false own = each

behind-order : (last : ℕ) (one : Served) (ones : List Served) → AreByTurn ones
    → AllByRecursion (λ (other : Served). other.consumer.turn ≤ last) ones → last < one.consumer.turn
    → AreByTurn (behind one ones)
behind-order last one ones order below above = by (may_serve one)
  where
    by : (b : Bool) → AreByTurn (if b then ones ++ one ∷ [] else ones)
    by true = by_turn-push ones one last order below above
    by false = order

behind-old : (one k : Served) (ones : List Served) → In k ones → In k (behind one ones)
behind-old one k ones here = by (may_serve one)
  where
    by : (b : Bool) → In k (if b then ones ++ one ∷ [] else ones)
    by true = In-append_left k ones (one ∷ []) here
    by false = here

behind-new : (one : Served) (ones : List Served) → may_serve one ≡ true → In one (behind one ones)
behind-new one ones may =
    subst (In one) (sym (cond-true (may_serve one) (ones ++ one ∷ []) ones may))
    (In-append_right one ones (one ∷ []) (inl refl))

pub serving : (m : Parts) (x : Item) (one : Served) (ones : List Served) → IsWhole m → AreWaiting m (one ∷ ones)
    → AreWaiting (hand_over x one.consumer m) (behind (serve_one (m.rest.turns + 1) x one) ones)
serving m x one ones whole waiting =
    let turn : ℕ = m.rest.turns + 1 in
    let new : Served = serve_one turn x one in
    let after : List Served = hand_to turn x one.consumer.id m.served in
    let here : In one m.served = in_contains m.served one waiting.among.0.0 in
    let own : new.consumer.turn ≡ turn = turn-served one.consumer.mode turn one.consumer in
    let fits : new.consumer.turn ≤ turn = omega (arith, own) in
    record {
      among =
          behind-each (λ (k : Served). Contains after k × (may_serve k ≡ true)) new ones
          (AllByRecursion-from_in (λ (k : Served). Contains after k × (may_serve k ≡ true)) ones (λ k later.
          let it =
          AllByRecursion-in (λ (o : Served). Contains m.served o × (may_serve o ≡ true)) k ones waiting.among.1 later in
          let more : one.consumer.turn < k.consumer.turn =
          AllByRecursion-in (λ (o : Served). one.consumer.turn < o.consumer.turn) k ones waiting.order.0 later in (
            Contains-in k after (handed-other turn x one.consumer.id k m.served (in_contains m.served k it.0)
                (apart-from k (in_contains m.served k it.0) here more)),
            it.1,
          )))
          (λ may. (Contains-in new after (handed-self turn x one m.served whole.apart here), may));
      all =
          AllByRecursion-from_in
          (λ (k : Served). (may_serve k ≡ false) ⊎ Contains (behind new ones) k) after (λ k there.
          elim (handed-cases turn x one k m.served whole.apart here there) [
            | inl is ↦ elim (cases_Bool (may_serve k)) [
              | inl may ↦
                  inr (Contains-in k (behind new ones) (subst (λ (o : Served). In o (behind new ones)) (sym is)
                  (behind-new new ones (ap may_serve (sym is) ∙ may))))
              | inr never ↦ inl never
            ]
            | inr old ↦
                elim (AllByRecursion-in (λ (o : Served). (may_serve o ≡ false) ⊎ Contains (one ∷ ones) o) k m.served
                waiting.all old.0) [
                  | inl never ↦ inl never
                  | inr waits ↦ elim (in_contains (one ∷ ones) k waits) [
                    | inl same ↦
                        absurd (false≢true (sym old.1
                        ∙ ap (λ (o : Served). same_consumer o.consumer.id one.consumer.id) same
                        ∙ same_consumer-refl one.consumer.id))
                    | inr later ↦ inr (Contains-in k (behind new ones) (behind-old new k ones later))
                  ]
                ]
          ]);
      order =
          behind-order m.rest.turns new ones waiting.order.1 waiting.drawn.1 (omega (arith, own));
      drawn =
          behind-each (λ (k : Served). k.consumer.turn ≤ turn) new ones
          (AllByRecursion-weaker (λ (k : Served). k.consumer.turn ≤ m.rest.turns)
          (λ (k : Served). k.consumer.turn ≤ turn) (λ k le. omega arith) ones waiting.drawn.1) (λ may. fits);
    }
  where
    apart-from : (k : Served) → In k m.served → In one m.served → one.consumer.turn < k.consumer.turn
        → same_consumer k.consumer.id one.consumer.id ≡ false
    apart-from k there here less = elim (cases_Bool (same_consumer k.consumer.id one.consumer.id)) [
      | inl same ↦ absurd (not-first one k less (one-id one k m.served whole.apart here there same))
      | inr other ↦ other
    ]

later-by : (m : Parts) (x : Item) (one : Served) (ones waiting : List Served) → IsWhole m → AreWaiting m waiting
    → waiting ≡ one ∷ ones
    → AreWaiting (hand_over x one.consumer m) (behind (serve_one (m.rest.turns + 1) x one) ones)
later-by m x one ones waiting whole queue is = serving m x one ones whole (subst (AreWaiting m) is queue)

pub in_turn : (m : Parts) (s : State) (waiting : List Served) → Stands m s → IsWhole m → AreWaiting m waiting
    → AreInTurn m s waiting
in_turn m s waiting stands whole queue = record {
  next = next-in_turn m s waiting stands whole queue;
  later = λ x one ones is. later-by m x one ones waiting whole queue is;
}
