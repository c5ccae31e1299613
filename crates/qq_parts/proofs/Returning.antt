-- What is out with the consumers of a session goes back in the parts as in the queue.
use Rattle.std.proofs.Common.{◌≡◌, ℕ, ◌-◌, ◌<◌, ◌⊎◌, Bool, true, false, not, cond, List, [], ◌∷◌, ◌++◌, append_assoc, Option, Some, None, map, fold, length, nat_lt, refl, sym, ap, ◌∙◌, subst, inl, inr, if◌then◌else◌}
use Rattle.std.specs.Prelude.{filter, nat_eq}
use Rattle.std.specs.List.{AllByRecursion}
use Rattle.std.specs.Option.{option_map, option_map_or}
use Rattle.std.proofs.lemmas.Bool.{cases_Bool, cond-true, cond-false, eq-eqb, lt-ltb}
use Rattle.std.proofs.lemmas.List.Sums.{fold-append}
use Rattle.qq_base.proofs.Lists.{In, In-append_left, In-append_right, In-append_cases, AllByRecursion-in, AllByRecursion-append, AllByRecursion-weaker}
use Rattle.qq_base.specs.declared.ids.SessionId.{SessionId}
use Rattle.qq_base.specs.declared.ids.ConsumerId.{ConsumerId}
use Rattle.qq_base.specs.Ids.{same_consumer}
use Rattle.qq_entry.specs.declared.message.Reason.{Reason}
use Rattle.qq_entry.specs.declared.message.Reason.TheVariants.{DeliveryLimit}
use Rattle.qq_entry.specs.declared.queue.Strategy.{Strategy}
use Rattle.qq_entry.specs.declared.queue.Strategy.TheVariants.{Absent, AtMostOnce, AtLeastOnce}
use Rattle.qq_model.specs.declared.place.Place.TheVariants.{Out}
use Rattle.qq_model.specs.declared.place.Row.{Row}
use Rattle.qq_model.specs.declared.consumer.Consumer.{Consumer}
use Rattle.qq_model.specs.State.{State}
use Rattle.qq_model.specs.Choice.{is_lesser, out_count}
use Rattle.qq_model.specs.Gate.{end_session}
use Rattle.qq_model.specs.Changes.{Progress, while_next, return_row}
use Rattle.qq_model.specs.Commands.{delivery_id, first_delivery, return_by, return_first, return_all, is_of_session, return_session, down}
use Rattle.qq_model.proofs.Least.{nat_lt-order, least_by-is}
use Rattle.qq_model.proofs.Lists.{AllByRecursion-from_in}
use Rattle.qq_model.proofs.OneConsumer.{same_consumer-refl}
use Rattle.qq_parts.specs.Reduced.{Item}
use Rattle.qq_parts.proofs.Live.{gone-is}
use Rattle.qq_parts.specs.Parts.{Served, consumer_at, Parts, outs, items_of, Stands, IsWhole, item_number, IsPlaced, HasOut, AreTwo, AreApart}
use Rattle.qq_parts.specs.Reads.{ready_items}
use Rattle.qq_parts.specs.Changes.{bury, put_back, recounted, is_spent, give_back, back_letter, Holds, IsTaken}
use Rattle.qq_parts.specs.Outs.{cut_id, out_of, behind_one, cut_out, taken_of}
use Rattle.qq_parts.specs.Consumers.{keep_ones, stays_one}
use Rattle.qq_parts.proofs.Turn.{item-row, each-row}
use Rattle.qq_parts.proofs.Reading.{each-ready, each-dead, out-is}
use Rattle.qq_parts.proofs.Ending.{may_end}
use Rattle.qq_parts.proofs.Waiting.{one-id}
use Rattle.qq_parts.proofs.Leaving.{may_go}
use Rattle.qq_parts.specs.Work.{Work, with_parts, StandsFor, AnswersFor}
use Rattle.qq_parts.specs.Ends.{parts_return}
use Rattle.qq_parts.specs.Commands.{session_outs, parts_return_session, parts_end_session, parts_down}
use Rattle.qq_parts.proofs.Works.{with-effects, whole-rest}
use Rattle.qq_parts.proofs.StepEnding.{returned}

-- Other consumers -------------------------------------------------------------------------------------

abbrev pub with_served : List Served → Parts → Parts
with_served ones m = record m { served = ones }

bury-served : (strategy : Strategy) (reason : Reason) (x : Item) (m : Parts) (ones : List Served)
    → bury strategy reason x (with_served ones m) ≡ with_served ones (bury strategy reason x m)
bury-served Absent reason x m ones = refl
bury-served AtMostOnce reason x m ones = refl
bury-served AtLeastOnce reason x m ones = refl

put-served : (limit : Option ℕ) (x : Item) (m : Parts) (ones : List Served)
    → put_back limit x (with_served ones m) ≡ with_served ones (put_back limit x m)
put-served None x m ones = refl
put-served (Some limit) x m ones = refl

-- what goes back doesn't look at consumers
back-served : (x : Item) (m : Parts) (ones : List Served)
    → give_back x (with_served ones m) ≡ with_served ones (give_back x m)
back-served x m ones = by (is_spent m x)
  where
    strategy : Strategy
    strategy = m.rest.args.strategy

    limit : Option ℕ
    limit = m.rest.args.delivery_limit

    y : Item
    y = recounted x

    by : (b : Bool)
        → (if b then bury strategy DeliveryLimit y (with_served ones m) else put_back limit y (with_served ones m))
        ≡ with_served ones (if b then bury strategy DeliveryLimit y m else put_back limit y m)
    by true = bury-served strategy DeliveryLimit y m ones
    by false = put-served limit y m ones

-- and changes none
back-same : (x : Item) (m : Parts) → (give_back x m).served ≡ m.served
back-same x m = ap (λ (n : Parts). n.served) (back-served x m m.served)

-- messages go back, one after the other
abbrev return_items : Work → List Item → Work
return_items t xs = fold (λ (now : Work) (x : Item). parts_return x now) t xs

items-same : (t : Work) (xs : List Item) → (return_items t xs).parts.served ≡ t.parts.served
items-same t [] = refl
items-same t (x ∷ xs) = items-same (parts_return x t) xs ∙ back-same x t.parts

-- the parts with these consumers stand for a step under way
abbrev At : List Served → Work → Progress → Type 0
At ones t p = StandsFor (record { parts = with_served ones t.parts; effects = t.effects }) p

-- The first delivery to a consumer --------------------------------------------------------------------

outs-in : (x : Item) (ones : List Served) → In x (outs ones) → (one : Served) × In one ones × In x one.out
outs-in x [] here = absurd here
outs-in x (one ∷ ones) here = elim (In-append_cases x one.out (outs ones) here) [
  | inl own ↦ (one, inl refl, own)
  | inr later ↦ let rest = outs-in x ones later in (rest.0, inr rest.1, rest.2)
]

in-outs : (x : Item) (one : Served) (ones : List Served) → In one ones → In x one.out → In x (outs ones)
in-outs x one [] here own = absurd here
in-outs x one (first ∷ ones) (inl same) own =
    In-append_left x first.out (outs ones) (subst (λ (k : Served). In x k.out) same own)
in-outs x one (first ∷ ones) (inr later) own = In-append_right x first.out (outs ones) (in-outs x one ones later own)

-- an item comes first of the deliveries to a consumer
abbrev ComesFirst : ConsumerId → Item → Item → Type 0
ComesFirst id x y =
    (y ≡ x) ⊎ (is_lesser nat_lt (delivery_id id x.row.place) (delivery_id id y.row.place) ≡ true)

behind-none : (id : ConsumerId) (x y : Item) (k : ℕ) → delivery_id id x.row.place ≡ Some k
    → delivery_id id y.row.place ≡ None → ComesFirst id x y
behind-none id x y k keyed none =
    inr (ap (λ o. is_lesser nat_lt o (delivery_id id y.row.place)) keyed ∙ ap (λ o. is_lesser nat_lt (Some k) o) none)

behind-key : (id : ConsumerId) (x y : Item) (k n : ℕ) → delivery_id id x.row.place ≡ Some k
    → delivery_id id y.row.place ≡ Some n → k < n → ComesFirst id x y
behind-key id x y k n keyed later less =
    inr (ap (λ o. is_lesser nat_lt o (delivery_id id y.row.place)) keyed
    ∙ ap (λ o. is_lesser nat_lt (Some k) o) later ∙ lt-ltb k n less)

-- the id of what is out with a consumer
own-id : (one : Served) (x : Item) → x.row.place ≡ Out one.consumer.id (item_number x)
    → delivery_id one.consumer.id x.row.place ≡ Some (item_number x)
own-id one x at =
    ap (delivery_id one.consumer.id) at
    ∙ cond-true (same_consumer one.consumer.id one.consumer.id) (Some (item_number x)) None
    (same_consumer-refl one.consumer.id)

other-id : (id other : ConsumerId) (x : Item) (n : ℕ) → x.row.place ≡ Out other n → same_consumer other id ≡ false
    → delivery_id id x.row.place ≡ None
other-id id other x n at apart = ap (delivery_id id) at ∙ cond-false (same_consumer other id) (Some n) None apart

placed-of : (one : Served) (x : Item) (ones : List Served) → AllByRecursion HasOut ones → In one ones → In x one.out
    → x.row.place ≡ Out one.consumer.id (item_number x)
placed-of one x ones has here own =
    let it : HasOut one = AllByRecursion-in HasOut one ones has here in
    let at : IsPlaced (Out one.consumer.id) (one.consumer.next_id - 1) x =
    AllByRecursion-in (IsPlaced (Out one.consumer.id) (one.consumer.next_id - 1)) x one.out it.0.each own in
    at.place

-- of all that is out, the first of a consumer comes first
first-of_outs : (c : Consumer) (x : Item) (xs : List Item) (m : Parts) → IsWhole m
    → In (record { consumer = c; out = x ∷ xs }) m.served → (y : Item) → In y (outs m.served) → ComesFirst c.id x y
first-of_outs c x xs m whole here y there =
    let one : Served = record { consumer = c; out = x ∷ xs } in
    let keyed : delivery_id c.id x.row.place ≡ Some (item_number x) =
    own-id one x (placed-of one x m.served whole.served here (inl refl)) in
    let found = outs-in y m.served there in
    let at = placed-of found.0 y m.served whole.served found.1 found.2 in
    elim (cases_Bool (same_consumer found.0.consumer.id c.id)) [
      | inr other ↦
          behind-none c.id x y (item_number x) keyed
          (other-id c.id found.0.consumer.id y (item_number y) at other)
      | inl same ↦
          let is : found.0 ≡ one = one-id one found.0 m.served whole.apart here found.1 same in
          let own : In y (x ∷ xs) = subst (λ (k : Served). In y k.out) is found.2 in
          let place : y.row.place ≡ Out c.id (item_number y) =
          subst (λ (k : Served). y.row.place ≡ Out k.consumer.id (item_number y)) is at in
          let has : HasOut one = AllByRecursion-in HasOut one m.served whole.served here in
          elim (own) [
            | inl itself ↦ inl itself
            | inr later ↦
                behind-key c.id x y (item_number x) (item_number y) keyed (own-id one y place)
                (AllByRecursion-in (λ (z : Item). item_number x < item_number z) y xs has.0.rising.0 later)
          ]
    ]

first-delivery : (c : Consumer) (x : Item) (xs : List Item) (m : Parts) (s : State) → Stands m s → IsWhole m
    → In (record { consumer = c; out = x ∷ xs }) m.served → first_delivery c.id s.rows ≡ Some x.row
first-delivery c x xs m s stands whole here =
    let one : Served = record { consumer = c; out = x ∷ xs } in
    let key : Row → Option ℕ = λ row. delivery_id c.id row.place in
    let keyed : key x.row ≡ Some (item_number x) =
    own-id one x (placed-of one x m.served whole.served here (inl refl)) in
    let first : Row → Type 0 = λ row. (row ≡ x.row) ⊎ (is_lesser nat_lt (key x.row) (key row) ≡ true) in
    let out : In x (outs m.served) = in-outs x one m.served here (inl refl) in
    let all : AllByRecursion (ComesFirst c.id x) (items_of m) =
    AllByRecursion-append (ComesFirst c.id x) (ready_items m) (outs m.served ++ m.dead)
    (each-ready (ComesFirst c.id x) m whole
    (λ y k is. behind-none c.id x y (item_number x) keyed (ap (delivery_id c.id) is)))
    (AllByRecursion-append (ComesFirst c.id x) (outs m.served) m.dead
    (AllByRecursion-from_in (ComesFirst c.id x) (outs m.served) (first-of_outs c x xs m whole here))
    (each-dead (ComesFirst c.id x) m whole
    (λ y number reason is. behind-none c.id x y (item_number x) keyed (ap (delivery_id c.id) is)))) in
    least_by-is nat_lt key nat_lt-order s.rows x.row (item_number x)
    (item-row m s x stands
    (In-append_right x (ready_items m) (outs m.served ++ m.dead) (In-append_left x (outs m.served) m.dead out))).0
    keyed
    (each-row m s first stands
    (λ row gone. inr (ap (λ o. is_lesser nat_lt o (key row)) keyed
    ∙ ap (λ o. is_lesser nat_lt (Some (item_number x)) o)
    (gone-is (λ place. delivery_id c.id place ≡ None) (λ reason. refl) row.place gone)))
    (AllByRecursion-weaker (ComesFirst c.id x) (λ (y : Item). first y.row)
    (λ y comes. elim (comes) [
      | inl same ↦ inl (ap (λ (z : Item). z.row) same)
      | inr less ↦ inr less
    ]) (items_of m) all))

-- It is taken out -------------------------------------------------------------------------------------

cut-first : (c : Consumer) (x : Item) (xs : List Item) (before after : List Served)
    → AreApart (before ++ record { consumer = c; out = x ∷ xs } ∷ after)
    → cut_out c.id (item_number x) (before ++ record { consumer = c; out = x ∷ xs } ∷ after)
    ≡ Some (record { item = x; served = before ++ record { consumer = c; out = xs } ∷ after })
cut-first c x xs [] after apart =
    let one : Served = record { consumer = c; out = x ∷ xs } in
    cond-true (same_consumer c.id c.id) (option_map (out_of one after) (cut_id (item_number x) (x ∷ xs)))
    (option_map (behind_one one) (cut_out c.id (item_number x) after)) (same_consumer-refl c.id)
    ∙ ap (option_map (out_of one after))
    (cond-true (nat_eq (item_number x) (item_number x)) (Some (record { item = x; rest = xs })) _
    (eq-eqb (item_number x) (item_number x) refl))
cut-first c x xs (first ∷ before) after apart =
    let one : Served = record { consumer = c; out = x ∷ xs } in
    let rest = cut-first c x xs before after apart.1 in
    let two : AreTwo first one =
    AllByRecursion-in (AreTwo first) one (before ++ one ∷ after) apart.0
    (In-append_right one before (one ∷ after) (inl refl)) in
    cond-false (same_consumer first.consumer.id c.id)
    (option_map (out_of first (before ++ one ∷ after)) (cut_id (item_number x) first.out))
    (option_map (behind_one first) (cut_out c.id (item_number x) (before ++ one ∷ after))) two.0
    ∙ ap (option_map (behind_one first)) rest

first-goes : (c : Consumer) (x : Item) (xs : List Item) (before after : List Served) (t : Work) (p : Progress)
    → At (before ++ record { consumer = c; out = x ∷ xs } ∷ after) t p
    → At (before ++ record { consumer = c; out = xs } ∷ after) (parts_return x t) (return_row x.row p)
first-goes c x xs before after t p it =
    let ones : List Served = before ++ record { consumer = c; out = x ∷ xs } ∷ after in
    let rest : List Served = before ++ record { consumer = c; out = xs } ∷ after in
    let m : Parts = with_served ones t.parts in
    let left : Parts = with_served rest t.parts in
    let taken : IsTaken (record { item = x; left = left }) m p.state =
    (may_end c.id (item_number x) m p.state it.stands it.whole).taken (record { item = x; left = left })
    (ap (option_map (taken_of m)) (cut-first c x xs before after it.whole.apart)) in
    let back : StandsFor (parts_return x (record { parts = left; effects = t.effects })) (return_row x.row p) =
    with-effects (λ q. StandsFor (parts_return x (record { parts = left; effects = t.effects })) (return_row x.row q))
    (record { parts = m; effects = t.effects }) p it
    (returned x left p.state t.effects taken.stands taken.whole) in
    subst (λ (n : Parts). StandsFor (record { parts = n; effects = t.effects ++ back_letter x t.parts })
    (return_row x.row p)) (back-served x t.parts rest) back

-- All deliveries to a consumer go back ----------------------------------------------------------------

go-back : (c : Consumer) (xs : List Item) (before after : List Served) (t : Work) (p : Progress)
    → At (before ++ record { consumer = c; out = xs } ∷ after) t p
    → At (before ++ record { consumer = c; out = [] } ∷ after) (return_items t xs)
    (while_next (length xs) (return_first c.id) p)
go-back c [] before after t p it = it
go-back c (x ∷ xs) before after t p it =
    let one : Served = record { consumer = c; out = x ∷ xs } in
    let m : Parts = with_served (before ++ one ∷ after) t.parts in
    let first : first_delivery c.id p.state.rows ≡ Some x.row =
    first-delivery c x xs m p.state it.stands it.whole (In-append_right one before (one ∷ after) (inl refl)) in
    subst (λ (o : Option Row). At (before ++ record { consumer = c; out = [] } ∷ after)
    (return_items (parts_return x t) xs)
    (option_map_or (while_next (length xs) (return_first c.id)) (return_by o p) p)) (sym first)
    (go-back c xs before after (parts_return x t) (return_row x.row p) (first-goes c x xs before after t p it))

-- a consumer of a session has nothing out
abbrev emptied : SessionId → Served → Served
emptied session one =
    if is_of_session session one.consumer then record { consumer = one.consumer; out = [] } else one

abbrev return_one : SessionId → Progress → Consumer → Progress
return_one session now consumer = if is_of_session session consumer then return_all consumer now else now

go-all : (session : SessionId) (before ones : List Served) (t : Work) (p : Progress) → At (before ++ ones) t p
    → At (before ++ map (emptied session) ones) (return_items t (session_outs session ones))
    (fold (return_one session) p (map consumer_at ones))
unfolding return_all
go-all session before [] t p it = it
go-all session before (one ∷ ones) t p it =
    by (is_of_session session one.consumer)
    (λ before' u q at. go-all session before' ones u q at)
  where
    test : Served → Bool
    test other = is_of_session session other.consumer

    rest : List Served
    rest = filter test ones

    by : (b : Bool)
        → ((before' : List Served) (u : Work) (q : Progress) → At (before' ++ ones) u q
        → At (before' ++ map (emptied session) ones) (return_items u (outs rest))
        (fold (return_one session) q (map consumer_at ones)))
        → At (before ++ (if b then record { consumer = one.consumer; out = [] } else one) ∷ map (emptied session) ones)
        (return_items t (outs (cond b (one ∷ rest) rest)))
        (fold (return_one session) (if b then return_all one.consumer p else p) (map consumer_at ones))
    by true onward =
        let none : Served = record { consumer = one.consumer; out = [] } in
        let u : Work = return_items t one.out in
        let m : Parts = with_served (before ++ one ∷ ones) t.parts in
        let count : out_count one.consumer.id p.state.rows ≡ length one.out =
        out-is m p.state one it.stands it.whole (In-append_right one before (one ∷ ones) (inl refl)) in
        let back : At (before ++ none ∷ ones) u (return_all one.consumer p) =
        subst (λ n. At (before ++ none ∷ ones) u (while_next n (return_first one.consumer.id) p)) (sym count)
        (go-back one.consumer one.out before ones t p it) in
        let made =
        onward (before ++ none ∷ []) u (return_all one.consumer p)
        (subst (λ (list : List Served). At list u (return_all one.consumer p))
        (sym (append_assoc before (none ∷ []) ones)) back) in
        subst (λ (list : List Served). At list (return_items t (one.out ++ outs rest))
        (fold (return_one session) (return_all one.consumer p) (map consumer_at ones)))
        (append_assoc before (none ∷ []) (map (emptied session) ones))
        (subst (λ (v : Work). At ((before ++ none ∷ []) ++ map (emptied session) ones) v
        (fold (return_one session) (return_all one.consumer p) (map consumer_at ones)))
        (sym (fold-append (λ (now : Work) (x : Item). parts_return x now) t one.out (outs rest))) made)
    by false onward =
        subst (λ (list : List Served). At list (return_items t (outs rest))
        (fold (return_one session) p (map consumer_at ones)))
        (append_assoc before (one ∷ []) (map (emptied session) ones))
        (onward (before ++ one ∷ []) t p
        (subst (λ (list : List Served). At list t p) (sym (append_assoc before (one ∷ []) ones)) it))

-- Down ------------------------------------------------------------------------------------------------

-- those that stay are as they were
stay-same : (session : SessionId) (ones : List Served)
    → filter (stays_one session) (map (emptied session) ones) ≡ filter (stays_one session) ones
stay-same session [] = refl
stay-same session (one ∷ ones) = by (is_of_session session one.consumer) refl (stay-same session ones)
  where
    by : (b : Bool) → is_of_session session one.consumer ≡ b
        → filter (stays_one session) (map (emptied session) ones) ≡ filter (stays_one session) ones
        → filter (stays_one session)
        ((if b then record { consumer = one.consumer; out = [] } else one) ∷ map (emptied session) ones)
        ≡ filter (stays_one session) (one ∷ ones)
    by true is rest =
        cond-false (not (is_of_session session one.consumer)) _ _ (ap not is) ∙ rest
        ∙ sym (cond-false (not (is_of_session session one.consumer)) _ _ (ap not is))
    by false is rest =
        cond-true (not (is_of_session session one.consumer)) _ _ (ap not is)
        ∙ ap (λ (list : List Served). one ∷ list) rest
        ∙ sym (cond-true (not (is_of_session session one.consumer)) _ _ (ap not is))

stays-or_empty : (session : SessionId) (ones : List Served)
    → AllByRecursion (λ (one : Served). (stays_one session one ≡ true) ⊎ (one.out ≡ [])) (map (emptied session) ones)
stays-or_empty session [] = tt
stays-or_empty session (one ∷ ones) =
    (by (is_of_session session one.consumer) refl, stays-or_empty session ones)
  where
    by : (b : Bool) → is_of_session session one.consumer ≡ b
        → (stays_one session (if b then record { consumer = one.consumer; out = [] } else one) ≡ true)
        ⊎ ((if b then record { consumer = one.consumer; out = [] } else one).out ≡ [])
    by true is = inr refl
    by false is = inl (ap not is)

ends-session : (session : SessionId) (m : Parts) (s : State) → Holds m s
    → Holds (parts_end_session session m) (record s { sessions = end_session s.sessions session })
ends-session session m s it = record {
  stands = record {
    rest = ap (λ (t : State). record t { sessions = end_session t.sessions session }) it.stands.rest;
    perm = it.stands.perm;
    rising = it.stands.rising;
    long = it.stands.long;
  };
  whole = whole-rest m (parts_end_session session m).rest refl refl refl it.whole;
}

pub downs : (session : SessionId) (t : Work) (p : Progress) → StandsFor t p
    → AnswersFor (parts_down session t) (down session p)
unfolding down parts_down
downs session t p it =
    let m : Parts = t.parts in
    let start : Work = with_parts (keep_ones (stays_one session) m) t in
    let back : Work = parts_return_session session t in
    let q : Progress = return_session session p.state.consumers p in
    let all : At (map (emptied session) m.served) back q =
    subst (λ (list : List Consumer). At (map (emptied session) m.served) back (fold (return_one session) p list))
    (sym (ap (λ (s : State). s.consumers) it.stands.rest)) (go-all session [] m.served start p it) in
    let gone : Holds (keep_ones (stays_one session) (with_served (map (emptied session) m.served) back.parts))
    (record (q.state) {
      consumers = filter (λ (c : Consumer). not (is_of_session session c)) q.state.consumers;
    }) =
    may_go (with_served (map (emptied session) m.served) back.parts) q.state all.stands all.whole session
    (stays-or_empty session m.served) in
    let same : filter (stays_one session) (map (emptied session) m.served) ≡ back.parts.served =
    stay-same session m.served ∙ sym (items-same start (session_outs session m.served)) in
    let left : Holds back.parts (record (q.state) {
      consumers = filter (λ (c : Consumer). not (is_of_session session c)) q.state.consumers;
    }) =
    subst (λ (list : List Served). Holds (with_served list back.parts) (record (q.state) {
      consumers = filter (λ (c : Consumer). not (is_of_session session c)) q.state.consumers;
    })) same gone in
    let over = ends-session session back.parts _ left in
    record {
      work = record { stands = over.stands; whole = over.whole; effects = all.effects };
      answer = refl;
    }
