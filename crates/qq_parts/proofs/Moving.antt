-- Messages leave the parts, and come back to others.
use Rattle.std.proofs.Common.{◌≡◌, ℕ, ◌+◌, ◌<◌, ◌≤◌, Bool, true, false, List, [], ◌∷◌, ◌++◌, append_assoc, Option, Some, None, length, refl, sym, ap, ◌∙◌, subst, inl, arith, length-append, if◌then◌else◌}
use Rattle.std.specs.List.{AllByRecursion}
use Rattle.qq_base.specs.declared.ids.Index.{Index}
use Rattle.qq_base.proofs.Lists.{AllByRecursion-append, AllByRecursion-weaker}
use Rattle.qq_entry.specs.declared.message.Message.{Message}
use Rattle.qq_entry.specs.declared.message.Reason.{Reason}
use Rattle.qq_entry.specs.declared.message.Reason.TheVariants.{DeliveryLimit}
use Rattle.qq_entry.specs.declared.audit.Effect.{Effect}
use Rattle.qq_entry.specs.declared.audit.Effect.TheVariants.{DeadOnce}
use Rattle.qq_entry.specs.declared.queue.Strategy.{Strategy}
use Rattle.qq_entry.specs.declared.queue.Strategy.TheVariants.{Absent, AtMostOnce, AtLeastOnce}
use Rattle.qq_model.specs.declared.place.GoneReason.{GoneReason}
use Rattle.qq_model.specs.declared.place.GoneReason.TheVariants as gone
use Rattle.qq_model.specs.declared.place.Key.TheVariants.{Front, Back}
use Rattle.qq_model.specs.declared.place.Place.{Place}
use Rattle.qq_model.specs.declared.place.Place.TheVariants.{Ready, Dead, Gone}
use Rattle.qq_model.specs.declared.place.Row.{Row}
use Rattle.qq_model.specs.State.{State}
use Rattle.qq_model.specs.Limits.{is_live}
use Rattle.qq_model.specs.Changes.{Progress, put_row, message_of, die_by, die, go_back, return_counted, return_row}
use Rattle.qq_model.specs.Commands.{append_message, move_row}
use Rattle.qq_model.proofs.InOrder.{put-length}
use Rattle.qq_parts.specs.Reduced.{Item, items, is_live_item, live_items}
use Rattle.qq_parts.proofs.Puts.{In-from_filter, message-at, live-append}
use Rattle.qq_parts.specs.Perm.{Perm}
use Rattle.qq_parts.specs.Perm.Perm.{skip, swap, join}
use Rattle.qq_parts.specs.Parts.{Parts, outs, items_of, frame, with_rows, AreRising, Stands, StandsWith, item_number, NumbersRise, IsPlaced, ArePlaced, IsDead, AreDead, IsWhole}
use Rattle.qq_parts.specs.Changes.{Taken, take_by, take_first, moved, push_back, push_front, push_dead, arrive, bury, dead_letter, put_back, recounted, is_spent, give_back, back_letter, Holds, HoldsAfter, MayLeave, MayArrive, IsTaken}
use Rattle.qq_parts.proofs.Perms.{perm-refl, perm-sym, perm-in, perm-right, perm-middle}
use Rattle.qq_parts.proofs.Turn.{rising-indices, rising-put, turn-live, turn-gone}

-- Where an item stands in all -------------------------------------------------------------------------

-- at the end of the backs, of the fronts and of the dead
pub back-perm : (x : Item) (fronts backs rest : List Item)
    → Perm (x ∷ ((fronts ++ backs) ++ rest)) ((fronts ++ (backs ++ x ∷ [])) ++ rest)
back-perm x fronts backs rest =
    let all : (fronts ++ (backs ++ x ∷ [])) ++ rest ≡ (fronts ++ backs) ++ (x ∷ rest) =
    ap (λ (ys : List Item). ys ++ rest) (sym (append_assoc fronts backs (x ∷ [])))
    ∙ append_assoc (fronts ++ backs) (x ∷ []) rest in
    perm-sym (subst (λ (ys : List Item). Perm ys (x ∷ ((fronts ++ backs) ++ rest))) (sym all)
    (perm-middle (fronts ++ backs) x rest))

pub front-perm : (x : Item) (fronts backs rest : List Item)
    → Perm (x ∷ ((fronts ++ backs) ++ rest)) (((fronts ++ x ∷ []) ++ backs) ++ rest)
front-perm x fronts backs rest =
    let inner : (fronts ++ x ∷ []) ++ backs ≡ fronts ++ (x ∷ backs) = append_assoc fronts (x ∷ []) backs in
    perm-sym (subst (λ (ys : List Item). Perm (ys ++ rest) (x ∷ ((fronts ++ backs) ++ rest))) (sym inner)
    (perm-right rest (perm-middle fronts x backs)))

pub dead-perm : (x : Item) (ready out dead : List Item)
    → Perm (x ∷ (ready ++ (out ++ dead))) (ready ++ (out ++ (dead ++ x ∷ [])))
dead-perm x ready out dead =
    let all : ready ++ (out ++ (dead ++ x ∷ [])) ≡ (ready ++ (out ++ dead)) ++ (x ∷ []) =
    ap (λ (ys : List Item). ready ++ ys) (sym (append_assoc out dead (x ∷ [])))
    ∙ sym (append_assoc ready (out ++ dead) (x ∷ [])) in
    let none : (ready ++ (out ++ dead)) ++ [] ≡ ready ++ (out ++ dead) = append-nil (ready ++ (out ++ dead)) in
    perm-sym (subst (λ (ys : List Item). Perm ys (x ∷ (ready ++ (out ++ dead)))) (sym all)
    (subst (λ (ys : List Item). Perm ((ready ++ (out ++ dead)) ++ (x ∷ [])) (x ∷ ys)) none
    (perm-middle (ready ++ (out ++ dead)) x [])))
  where
    append-nil : (ys : List Item) → ys ++ [] ≡ ys
    append-nil [] = refl
    append-nil (y ∷ ys) = ap (λ (zs : List Item). y ∷ zs) (append-nil ys)

-- Lists that stay whole -------------------------------------------------------------------------------

rises-push : (at : ℕ) (xs : List Item) (y : Item) → NumbersRise xs
    → AllByRecursion (λ (x : Item). item_number x ≤ at) xs → at < item_number y → NumbersRise (xs ++ y ∷ [])
rises-push at [] y rising below above = (tt, tt)
rises-push at (x ∷ xs) y rising below above =
    let less : item_number x < item_number y = omega (arith, below.0) in (
      AllByRecursion-append (λ (z : Item). item_number x < item_number z) xs (y ∷ []) rising.0 (less, tt),
      rises-push at xs y rising.1 below.1 above,
    )

pub placed-push : (at : ℕ → Place) (last : ℕ) (xs : List Item) (y : Item) → ArePlaced at last xs
    → y.row.place ≡ at (last + 1) → item_number y ≡ last + 1 → ArePlaced at (last + 1) (xs ++ y ∷ [])
placed-push at last xs y placed is counts = record {
  rising =
      rises-push last xs y placed.rising
      (AllByRecursion-weaker (IsPlaced at last) (λ (x : Item). item_number x ≤ last) (λ x it. it.drawn) xs
      placed.each) (omega arith);
  each =
      AllByRecursion-append (IsPlaced at (last + 1)) xs (y ∷ [])
      (AllByRecursion-weaker (IsPlaced at last) (IsPlaced at (last + 1))
      (λ x it. record { place = it.place; drawn = omega (arith, it.drawn) }) xs placed.each)
      (record { place = is ∙ ap at (sym counts); drawn = omega arith }, tt);
}

pub dead-push : (last : ℕ) (xs : List Item) (y : Item) (reason : Reason) → AreDead last xs
    → y.row.place ≡ Dead (last + 1) reason → item_number y ≡ last + 1 → AreDead (last + 1) (xs ++ y ∷ [])
dead-push last xs y reason dead is counts = record {
  rising =
      rises-push last xs y dead.rising
      (AllByRecursion-weaker (IsDead last) (λ (x : Item). item_number x ≤ last) (λ x it. it.drawn) xs dead.each)
      (omega arith);
  each =
      AllByRecursion-append (IsDead (last + 1)) xs (y ∷ [])
      (AllByRecursion-weaker (IsDead last) (IsDead (last + 1))
      (λ x it. record { reason = it.reason; place = it.place; drawn = omega (arith, it.drawn) }) xs dead.each)
      (record { reason = reason; place = is ∙ ap (λ n. Dead n reason) (sym counts); drawn = omega arith }, tt);
}

pub whole-back : (x : Item) (m : Parts) → IsWhole m → IsWhole (push_back x m)
whole-back x m whole = record {
  fronts = whole.fronts;
  backs =
      placed-push (λ n. Ready (Back n)) m.rest.orders m.backs (moved (Ready (Back (m.rest.orders + 1))) x) whole.backs
      refl refl;
  served = whole.served;
  apart = whole.apart;
  dead = whole.dead;
}

pub whole-front : (x : Item) (m : Parts) → IsWhole m → IsWhole (push_front x m)
whole-front x m whole = record {
  fronts =
      placed-push (λ n. Ready (Front n)) m.rest.returns m.fronts (moved (Ready (Front (m.rest.returns + 1))) x)
      whole.fronts refl refl;
  backs = whole.backs;
  served = whole.served;
  apart = whole.apart;
  dead = whole.dead;
}

pub whole-dead : (reason : Reason) (x : Item) (m : Parts) → IsWhole m → IsWhole (push_dead reason x m)
whole-dead reason x m whole = record {
  fronts = whole.fronts;
  backs = whole.backs;
  served = whole.served;
  apart = whole.apart;
  dead =
      dead-push m.rest.deads m.dead (moved (Dead (m.rest.deads + 1) reason) x) reason whole.dead refl refl;
}

-- A message that was taken out ------------------------------------------------------------------------

-- what is known of the rows of a state that stands for parts and one message more
pub record Rows (x : Item) (m : Parts) (rows : List Row) (messages : List Message) : Type 0 where
  pub perm : Perm (live_items rows messages) (x ∷ items_of m)
  pub rising : AreRising rows
  pub long : length rows ≡ length messages

pub rows-of : (x : Item) (m : Parts) (s : State) → StandsWith x m s → Rows x m s.rows s.messages
rows-of x m s with = record { perm = with.perm; rising = with.rising; long = with.long }

-- what is true of the state of the parts, is true of that which stands for them
pub by-frame : (P : State → Type 0) (x : Item) (m : Parts) (s : State) → StandsWith x m s
    → P (with_rows s.rows s.messages (frame m)) → P s
by-frame P x m s with holds = subst P (sym with.rest) holds

pub stands-live : (x y : Item) (m after : Parts) (rows : List Row) (messages : List Message) → Rows x m rows messages
    → y.row.index ≡ x.row.index → y.message ≡ x.message → is_live y.row.place ≡ true
    → Perm (y ∷ items_of m) (items_of after)
    → Stands after (with_rows (put_row y.row rows) messages (frame after))
stands-live x y m after rows messages it index message lives perm = record {
  rest = refl;
  perm =
      join (live_items (put_row y.row rows) messages) (y ∷ items_of m) (items_of after)
      (subst (λ (n : Message). Perm (live_items (put_row y.row rows) messages)
      (record { row = y.row; message = n } ∷ items_of m)) (sym message)
      (turn-live rows messages x (items_of m) y.row it.rising it.perm index lives)) perm;
  rising = rising-put y.row rows it.rising;
  long = put-length y.row rows ∙ it.long;
}

stands-gone : (x : Item) (new : Row) (m : Parts) (rows : List Row) (messages : List Message)
    → Rows x m rows messages → new.index ≡ x.row.index → is_live new.place ≡ false
    → Stands m (with_rows (put_row new rows) messages (frame m))
stands-gone x new m rows messages it index none = record {
  rest = refl;
  perm = turn-gone rows messages x (items_of m) new it.rising it.perm index none;
  rising = rising-put new rows it.rising;
  long = put-length new rows ∙ it.long;
}

-- it is gone
pub goes : (x : Item) (m : Parts) (s : State) → StandsWith x m s → IsWhole m → (reason : GoneReason)
    → Holds m (move_row x.row (Gone reason) s)
goes x m s with whole reason =
    by-frame (λ t. Holds m (move_row x.row (Gone reason) t)) x m s with
    (record {
      stands =
          stands-gone x (record (x.row) { place = Gone reason }) m s.rows s.messages (rows-of x m s with) refl refl;
      whole = whole;
    })

-- the message that a dead letter has
pub message-is : (x : Item) (row : Row) (m : Parts) (rows : List Row) (messages : List Message) → Rows x m rows messages
    → row.index ≡ x.row.index → message_of rows messages row ≡ x.message
message-is x row m rows messages it index =
    message-at x row rows messages (rising-indices rows it.rising)
    (In-from_filter is_live_item x (items rows messages) (perm-in x (perm-sym it.perm) (inl refl))) index

append-none : (effects : List Effect) → effects ++ [] ≡ effects
append-none [] = refl
append-none (one ∷ effects) = ap (λ (rest : List Effect). one ∷ rest) (append-none effects)

-- it dies, with this row
dies-by : (strategy : Strategy) (reason : Reason) (x y : Item) (m : Parts) (rows : List Row) (messages : List Message)
    (effects : List Effect) → Rows x m rows messages → IsWhole m → y.row.index ≡ x.row.index → y.message ≡ x.message
    → HoldsAfter (bury strategy reason y m) (dead_letter strategy reason y)
    (record { state = with_rows rows messages (frame m); effects = effects })
    (die_by strategy reason y.row (record { state = with_rows rows messages (frame m); effects = effects }))
dies-by Absent reason x y m rows messages effects it whole index message = record {
  stands = stands-gone x (record (y.row) { place = Gone (gone.Died reason) }) m rows messages it index refl;
  whole = whole;
  effects = sym (append-none effects);
}
dies-by AtMostOnce reason x y m rows messages effects it whole index message = record {
  stands = stands-gone x (record (y.row) { place = Gone (gone.Died reason) }) m rows messages it index refl;
  whole = whole;
  effects =
      ap (λ (n : Message). effects ++ DeadOnce reason n ∷ [])
      (message-is x y.row m rows messages it index ∙ sym message);
}
dies-by AtLeastOnce reason x y m rows messages effects it whole index message =
    let z : Item = moved (Dead (m.rest.deads + 1) reason) y in
    record {
      stands =
          stands-live x z m (push_dead reason y m) rows messages it index message refl
          (dead-perm z (m.fronts ++ m.backs) (outs m.served) m.dead);
      whole = whole-dead reason y m whole;
      effects = sym (append-none effects);
    }

-- it goes back, with this row
back-by : (limit : Option ℕ) (x y : Item) (m : Parts) (rows : List Row) (messages : List Message)
    (effects : List Effect) → Rows x m rows messages → IsWhole m → y.row.index ≡ x.row.index → y.message ≡ x.message
    → HoldsAfter (put_back limit y m) [] (record { state = with_rows rows messages (frame m); effects = effects })
    (go_back limit y.row (record { state = with_rows rows messages (frame m); effects = effects }))
back-by None x y m rows messages effects it whole index message =
    let z : Item = moved (Ready (Back (m.rest.orders + 1))) y in
    record {
      stands =
          stands-live x z m (push_back y m) rows messages it index message refl
          (back-perm z m.fronts m.backs (outs m.served ++ m.dead));
      whole = whole-back y m whole;
      effects = sym (append-none effects);
    }
back-by (Some limit) x y m rows messages effects it whole index message =
    let z : Item = moved (Ready (Front (m.rest.returns + 1))) y in
    record {
      stands =
          stands-live x z m (push_front y m) rows messages it index message refl
          (front-perm z m.fronts m.backs (outs m.served ++ m.dead));
      whole = whole-front y m whole;
      effects = sym (append-none effects);
    }

pub dies : (x : Item) (m : Parts) (s : State) → StandsWith x m s → IsWhole m → (reason : Reason)
    (effects : List Effect)
    → HoldsAfter (bury m.rest.args.strategy reason x m) (dead_letter m.rest.args.strategy reason x)
    (record { state = s; effects = effects }) (die reason x.row (record { state = s; effects = effects }))
unfolding die
dies x m s with whole reason effects =
    by-frame (λ t. HoldsAfter (bury m.rest.args.strategy reason x m) (dead_letter m.rest.args.strategy reason x)
    (record { state = t; effects = effects }) (die reason x.row (record { state = t; effects = effects }))) x m s with
    (dies-by m.rest.args.strategy reason x x m s.rows s.messages effects (rows-of x m s with) whole refl refl)

-- a choice of parts and effects, and one of what is done
after-by : (b : Bool) (m n : Parts) (more other : List Effect) (p a c : Progress)
    → (b ≡ true → HoldsAfter m more p a) → (b ≡ false → HoldsAfter n other p c)
    → HoldsAfter (if b then m else n) (if b then more else other) p (if b then a else c)
after-by true m n more other p a c first second = first refl
after-by false m n more other p a c first second = second refl

returns-over : (x : Item) (m : Parts) (rows : List Row) (messages : List Message) (effects : List Effect)
    → Rows x m rows messages → IsWhole m
    → HoldsAfter (give_back x m) (back_letter x m)
    (record { state = with_rows rows messages (frame m); effects = effects })
    (return_counted (recounted x).row (record { state = with_rows rows messages (frame m); effects = effects }))
unfolding die
returns-over x m rows messages effects it whole =
    let args = m.rest.args in
    let p : Progress = record { state = with_rows rows messages (frame m); effects = effects } in
    let y : Item = recounted x in
    after-by (is_spent m x) (bury args.strategy DeliveryLimit y m) (put_back args.delivery_limit y m)
    (dead_letter args.strategy DeliveryLimit y) [] p (die DeliveryLimit y.row p) (go_back args.delivery_limit y.row p)
    (λ _. dies-by args.strategy DeliveryLimit x y m rows messages effects it whole refl refl)
    (λ _. back-by args.delivery_limit x y m rows messages effects it whole refl refl)

pub returns : (x : Item) (m : Parts) (s : State) → StandsWith x m s → IsWhole m → (effects : List Effect)
    → HoldsAfter (give_back x m) (back_letter x m) (record { state = s; effects = effects })
    (return_row x.row (record { state = s; effects = effects }))
unfolding return_row
returns x m s with whole effects =
    by-frame (λ t. HoldsAfter (give_back x m) (back_letter x m) (record { state = t; effects = effects })
    (return_row x.row (record { state = t; effects = effects }))) x m s with
    (returns-over x m s.rows s.messages effects (rows-of x m s with) whole)

pub may_leave : (x : Item) (m : Parts) (s : State) → StandsWith x m s → IsWhole m → MayLeave x m s
may_leave x m s with whole = record {
  goes = goes x m s with whole;
  dies = dies x m s with whole;
  returns = returns x m s with whole;
}

-- The first ready message -----------------------------------------------------------------------------

rises-pop : (at : ℕ → Place) (last : ℕ) (x : Item) (xs : List Item) → ArePlaced at last (x ∷ xs)
    → ArePlaced at last xs
rises-pop at last x xs placed = record { rising = placed.rising.1; each = placed.each.1 }

taken-by : (fronts backs : List Item) (m : Parts) (s : State) (taken : Taken)
    → Stands (record m { fronts = fronts; backs = backs }) s → IsWhole (record m { fronts = fronts; backs = backs })
    → take_by fronts backs m ≡ Some taken → IsTaken taken m s
taken-by [] [] m s taken stands whole is = absurd cc
taken-by [] (x ∷ backs) m s taken stands whole is =
    let same : record { item = x; left = record m { fronts = []; backs = backs } } ≡ taken = cc in
    subst (λ (t : Taken). IsTaken t m s) same (record {
      stands = record { rest = stands.rest; perm = stands.perm; rising = stands.rising; long = stands.long };
      whole = record {
        fronts = whole.fronts;
        backs = rises-pop (λ n. Ready (Back n)) m.rest.orders x backs whole.backs;
        served = whole.served;
        apart = whole.apart;
        dead = whole.dead;
      };
    })
taken-by (x ∷ fronts) backs m s taken stands whole is =
    let same : record { item = x; left = record m { fronts = fronts; backs = backs } } ≡ taken = cc in
    subst (λ (t : Taken). IsTaken t m s) same (record {
      stands = record { rest = stands.rest; perm = stands.perm; rising = stands.rising; long = stands.long };
      whole = record {
        fronts = rises-pop (λ n. Ready (Front n)) m.rest.returns x fronts whole.fronts;
        backs = whole.backs;
        served = whole.served;
        apart = whole.apart;
        dead = whole.dead;
      };
    })

pub first-taken : (m : Parts) (s : State) (taken : Taken) → Stands m s → IsWhole m → take_first m ≡ Some taken
    → IsTaken taken m s
first-taken m s taken stands whole is = taken-by m.fronts m.backs m s taken stands whole is

-- A new message ---------------------------------------------------------------------------------------

rising-push : (rows : List Row) (row : Row) → AreRising rows
    → AllByRecursion (λ (one : Row). one.index.0 < row.index.0) rows → AreRising (rows ++ row ∷ [])
rising-push [] row rising below = (tt, tt)
rising-push (first ∷ rows) row rising below = (
  AllByRecursion-append (λ (one : Row). first.index.0 < one.index.0) rows (row ∷ []) rising.0 (below.0, tt),
  rising-push rows row rising.1 below.1,
)

arrives-over : (m : Parts) (index : Index) (message : Message) (rows : List Row) (messages : List Message)
    → Perm (live_items rows messages) (items_of m) → AreRising rows → length rows ≡ length messages → IsWhole m
    → AllByRecursion (λ (row : Row). row.index.0 < index.0) rows
    → Holds (arrive index message m) (append_message (with_rows rows messages (frame m)) index message)
arrives-over m index message rows messages perm rising long whole below =
    let row : Row = record {
      index = index;
      arrival = m.rest.arrivals + 1;
      count = 0;
      size = message.size;
      place = Ready (Back (m.rest.orders + 1));
    } in
    let x : Item = record { row = row; message = message } in
    let all : live_items (rows ++ row ∷ []) (messages ++ message ∷ []) ≡ live_items rows messages ++ x ∷ [] =
    live-append row message rows messages long in
    record {
      stands = record {
        rest = refl;
        perm =
            subst (λ (ys : List Item). Perm ys (items_of (arrive index message m))) (sym all)
            (join (live_items rows messages ++ x ∷ []) (items_of m ++ x ∷ []) (items_of (arrive index message m))
            (perm-right (x ∷ []) perm)
            (join (items_of m ++ x ∷ []) (x ∷ items_of m) (items_of (arrive index message m))
            (to-front (items_of m) x) (back-perm x m.fronts m.backs (outs m.served ++ m.dead))));
        rising = rising-push rows row rising below;
        long = length-append rows (row ∷ []) ∙ ap (λ k. k + 1) long ∙ sym (length-append messages (message ∷ []));
      };
      whole = record {
        fronts = whole.fronts;
        backs = placed-push (λ n. Ready (Back n)) m.rest.orders m.backs x whole.backs refl refl;
        served = whole.served;
        apart = whole.apart;
        dead = whole.dead;
      };
    }
  where
    to-front : (ys : List Item) (x : Item) → Perm (ys ++ x ∷ []) (x ∷ ys)
    to-front [] x = perm-refl (x ∷ [])
    to-front (y ∷ ys) x =
        join (y ∷ (ys ++ x ∷ [])) (y ∷ x ∷ ys) (x ∷ y ∷ ys) (skip y (ys ++ x ∷ []) (x ∷ ys) (to-front ys x))
        (swap y x ys)

pub arrives : (m : Parts) (s : State) → Stands m s → IsWhole m → MayArrive m s
arrives m s stands whole index message below =
    subst (λ t. Holds (arrive index message m) (append_message t index message)) (sym stands.rest)
    (arrives-over m index message s.rows s.messages stands.perm stands.rising stands.long whole below)
