-- A delivery is made, a consumer joins, and all that is ready is purged.
use Rattle.std.proofs.Common.{◌≡◌, ℕ, ◌+◌, ◌-◌, ◌<◌, true, false, cond, List, [], ◌∷◌, ◌++◌, append_assoc, map, length, refl, sym, ap, ◌∙◌, subst, inl, inr, arith}
use Rattle.std.specs.Prelude.{filter}
use Rattle.std.specs.List.{AllByRecursion}
use Rattle.std.proofs.lemmas.Bool.{cond-true, cond-false}
use Rattle.std.proofs.lemmas.List.{map-append, length-map}
use Rattle.qq_base.proofs.Lists.{In, AllByRecursion-append, AllByRecursion-weaker}
use Rattle.qq_base.specs.declared.ids.ConsumerId.{ConsumerId}
use Rattle.qq_base.specs.Ids.{same_consumer}
use Rattle.qq_entry.specs.declared.command.Mode.{Mode}
use Rattle.qq_entry.specs.declared.command.Mode.TheVariants.{Prefetch, Link}
use Rattle.qq_entry.specs.declared.message.Message.{Message}
use Rattle.qq_entry.specs.declared.audit.Effect.{Effect}
use Rattle.qq_entry.specs.declared.audit.Effect.TheVariants.{Deliver}
use Rattle.qq_model.specs.declared.place.Place.TheVariants.{Out, Gone}
use Rattle.qq_model.specs.declared.place.GoneReason.TheVariants as gone
use Rattle.qq_model.specs.declared.place.Row.{Row}
use Rattle.qq_model.specs.declared.consumer.Consumer.{Consumer}
use Rattle.qq_model.specs.State.{State}
use Rattle.qq_model.specs.Limits.{is_ready, is_live}
use Rattle.qq_model.specs.Changes.{put_row, put_consumer}
use Rattle.qq_model.specs.Commands.{new_consumer, join as join_state, purge_row}
use Rattle.qq_model.specs.Serving.{use_credit, serve, deliver}
use Rattle.qq_model.proofs.InOrder.{indices-purged}
use Rattle.qq_model.proofs.Indices.{Rises}
use Rattle.qq_model.proofs.OneConsumer.{same_consumer-refl}
use Rattle.qq_parts.specs.Reduced.{Item, is_live_item, live_items}
use Rattle.qq_parts.proofs.Puts.{purge_item, live-purge, filter-append}
use Rattle.qq_parts.specs.Perm.{Perm}
use Rattle.qq_parts.specs.Perm.Perm.{join}
use Rattle.qq_parts.specs.Parts.{Served, consumer_at, Parts, outs, items_of, frame, with_rows, AreRising, Stands, StandsWith, ArePlaced, HasOut, AreTwo, AreApart, IsWhole}
use Rattle.qq_parts.specs.Reads.{ready_items}
use Rattle.qq_parts.specs.Changes.{moved, Holds, HoldsAfter}
use Rattle.qq_parts.specs.Outs.{serve_one, hand_to, hand_over, delivery_to, MayDeliver, joined, IsFree, MayJoin, MayPurge}
use Rattle.qq_parts.proofs.Perms.{perm-sym, perm-left, perm-right, perm-middle, perm-map, perm-filter}
use Rattle.qq_parts.proofs.Turn.{rising-indices, indices-rising}
use Rattle.qq_parts.proofs.Reading.{each-ready, each-out, each-dead}
use Rattle.qq_parts.proofs.Moving.{placed-push, Rows, rows-of, by-frame, stands-live, message-is}

-- A delivery ------------------------------------------------------------------------------------------

-- one that is served keeps its id, its mode and so on, and its next delivery has the next id
serve-id : (mode : Mode) (turn : ℕ) (consumer : Consumer)
    → (use_credit mode (record consumer { next_id = consumer.next_id + 1; turn = turn })).id ≡ consumer.id
serve-id (Prefetch prefetch) turn consumer = refl
serve-id Link turn consumer = refl

serve-next : (mode : Mode) (turn : ℕ) (consumer : Consumer)
    → (use_credit mode (record consumer { next_id = consumer.next_id + 1; turn = turn })).next_id ≡ consumer.next_id + 1
serve-next (Prefetch prefetch) turn consumer = refl
serve-next Link turn consumer = refl

has-served : (turn : ℕ) (x : Item) (one : Served) → HasOut one → HasOut (serve_one turn x one)
has-served turn x one has =
    let consumer : Consumer = one.consumer in
    let id : (serve turn consumer).id ≡ consumer.id = serve-id consumer.mode turn consumer in
    let next : (serve turn consumer).next_id ≡ consumer.next_id + 1 = serve-next consumer.mode turn consumer in
    let y : Item = moved (Out consumer.id consumer.next_id) x in
    let last : consumer.next_id - 1 + 1 ≡ consumer.next_id = omega (arith, has.1) in
    let pushed : ArePlaced (Out consumer.id) (consumer.next_id - 1 + 1) (one.out ++ y ∷ []) =
    placed-push (Out consumer.id) (consumer.next_id - 1) one.out y has.0 (ap (Out consumer.id) (sym last)) (sym last)
    in
    let least : (serve turn consumer).next_id - 1 ≡ consumer.next_id - 1 + 1 = omega (arith, next, has.1) in (
      subst (λ (c : ConsumerId). ArePlaced (Out c) ((serve turn consumer).next_id - 1) (one.out ++ y ∷ [])) (sym id)
          (subst (λ n. ArePlaced (Out consumer.id) n (one.out ++ y ∷ [])) (sym least) pushed),
      omega (arith, next),
    )

-- where nobody has the id, nothing changes
put-nobody : (new : Consumer) (ones : List Served)
    → AllByRecursion (λ (one : Served). same_consumer one.consumer.id new.id ≡ false) ones
    → put_consumer new (map consumer_at ones) ≡ map consumer_at ones
put-nobody new [] apart = refl
put-nobody new (one ∷ ones) apart =
    ap (λ (c : Consumer). c ∷ put_consumer new (map consumer_at ones))
    (cond-false (same_consumer one.consumer.id new.id) new one.consumer apart.0)
    ∙ ap (λ (cs : List Consumer). one.consumer ∷ cs) (put-nobody new ones apart.1)

-- the consumer is served, and the others are as before
pub record HandsTo (turn : ℕ) (x : Item) (consumer : Consumer) (ones after : List Served) : Type 0 where
  pub perm : Perm (moved (Out consumer.id consumer.next_id) x ∷ outs ones) (outs after)
  pub consumers : put_consumer (serve turn consumer) (map consumer_at ones) ≡ map consumer_at after
  pub has : AllByRecursion HasOut after
  pub apart : AreApart after
  pub two : (other : Served) → AllByRecursion (AreTwo other) ones → AllByRecursion (AreTwo other) after

served-id : (turn : ℕ) (consumer : Consumer) → (serve turn consumer).id ≡ consumer.id
served-id turn consumer = serve-id consumer.mode turn consumer

-- two ids that are apart stay so as one is served
two-served : (turn : ℕ) (x : Item) (other one : Served) → AreTwo other one → AreTwo other (serve_one turn x one)
two-served turn x other one two = (
  ap (same_consumer other.consumer.id) (served-id turn one.consumer) ∙ two.0,
  ap (λ (c : ConsumerId). same_consumer c other.consumer.id) (served-id turn one.consumer) ∙ two.1,
)

served-two : (turn : ℕ) (x : Item) (one other : Served) → AreTwo one other → AreTwo (serve_one turn x one) other
served-two turn x one other two = (
  ap (λ (c : ConsumerId). same_consumer c other.consumer.id) (served-id turn one.consumer) ∙ two.0,
  ap (same_consumer other.consumer.id) (served-id turn one.consumer) ∙ two.1,
)

hands-first : (turn : ℕ) (x : Item) (one : Served) (ones : List Served) → AllByRecursion HasOut (one ∷ ones)
    → AreApart (one ∷ ones) → HandsTo turn x one.consumer (one ∷ ones) (serve_one turn x one ∷ ones)
hands-first turn x one ones has apart =
    let c : Consumer = one.consumer in
    let y : Item = moved (Out c.id c.next_id) x in
    let new : Consumer = serve turn c in
    record {
      perm =
          perm-sym (subst (λ (ys : List Item). Perm ys (y ∷ (one.out ++ outs ones)))
          (sym (append_assoc one.out (y ∷ []) (outs ones))) (perm-middle one.out y (outs ones)));
      consumers =
          ap (λ (k : Consumer). k ∷ put_consumer new (map consumer_at ones))
          (cond-true (same_consumer c.id new.id) new c
          (ap (same_consumer c.id) (served-id turn c) ∙ same_consumer-refl c.id))
          ∙ ap (λ (cs : List Consumer). new ∷ cs)
          (put-nobody new ones
          (AllByRecursion-weaker (AreTwo one) (λ (other : Served). same_consumer other.consumer.id new.id ≡ false)
          (λ other two. ap (same_consumer other.consumer.id) (served-id turn c) ∙ two.1) ones apart.0));
      has = (has-served turn x one has.0, has.1);
      apart = (
        AllByRecursion-weaker (AreTwo one) (AreTwo (serve_one turn x one))
            (λ other two. served-two turn x one other two) ones apart.0,
        apart.1,
      );
      two = λ other each. (two-served turn x other one each.0, each.1);
    }

hands-later : (turn : ℕ) (x : Item) (consumer : Consumer) (one : Served) (ones after : List Served)
    → AllByRecursion HasOut (one ∷ ones) → AreApart (one ∷ ones)
    → same_consumer one.consumer.id consumer.id ≡ false → HandsTo turn x consumer ones after
    → HandsTo turn x consumer (one ∷ ones) (one ∷ after)
hands-later turn x consumer one ones after has apart other rest =
    let y : Item = moved (Out consumer.id consumer.next_id) x in
    let new : Consumer = serve turn consumer in
    record {
      perm =
          join (y ∷ (one.out ++ outs ones)) (one.out ++ (y ∷ outs ones)) (one.out ++ outs after)
          (perm-sym (perm-middle one.out y (outs ones))) (perm-left one.out rest.perm);
      consumers =
          ap (λ (k : Consumer). k ∷ put_consumer new (map consumer_at ones))
          (cond-false (same_consumer one.consumer.id new.id) new one.consumer
          (ap (same_consumer one.consumer.id) (served-id turn consumer) ∙ other))
          ∙ ap (λ (cs : List Consumer). one.consumer ∷ cs) rest.consumers;
      has = (has.0, rest.has);
      apart = (rest.two one apart.0, rest.apart);
      two = λ k each. (each.0, rest.two k each.1);
    }

two-in : (one : Served) (consumer : Consumer) (ones : List Served) → AllByRecursion (AreTwo one) ones
    → In consumer (map consumer_at ones) → same_consumer one.consumer.id consumer.id ≡ false
two-in one consumer [] two here = absurd here
two-in one consumer (other ∷ ones) two (inl same) =
    ap (λ (c : Consumer). same_consumer one.consumer.id c.id) same ∙ two.0.0
two-in one consumer (other ∷ ones) two (inr later) = two-in one consumer ones two.1 later

pub is_handed : (turn : ℕ) (x : Item) (consumer : Consumer) (ones : List Served) → AllByRecursion HasOut ones
    → AreApart ones → In consumer (map consumer_at ones)
    → HandsTo turn x consumer ones (hand_to turn x consumer.id ones)
is_handed turn x consumer [] has apart here = absurd here
is_handed turn x consumer (one ∷ ones) has apart (inl same) =
    subst (λ (c : Consumer). HandsTo turn x c (one ∷ ones) (hand_to turn x c.id (one ∷ ones))) (sym same)
    (subst (HandsTo turn x one.consumer (one ∷ ones))
    (sym (cond-true (same_consumer one.consumer.id one.consumer.id) (serve_one turn x one ∷ ones)
    (one ∷ hand_to turn x one.consumer.id ones) (same_consumer-refl one.consumer.id)))
    (hands-first turn x one ones has apart))
is_handed turn x consumer (one ∷ ones) has apart (inr later) =
    let other = two-in one consumer ones apart.0 later in
    subst (HandsTo turn x consumer (one ∷ ones))
    (sym (cond-false (same_consumer one.consumer.id consumer.id) (serve_one turn x one ∷ ones)
    (one ∷ hand_to turn x consumer.id ones) other))
    (hands-later turn x consumer one ones (hand_to turn x consumer.id ones) has apart other
    (is_handed turn x consumer ones has.1 apart.1 later))

delivers-over : (x : Item) (consumer : Consumer) (m : Parts) (rows : List Row) (messages : List Message)
    (effects : List Effect) → Rows x m rows messages → IsWhole m → In consumer (map consumer_at m.served)
    → HoldsAfter (hand_over x consumer m) (Deliver consumer.id (delivery_to consumer x) ∷ [])
    (record { state = with_rows rows messages (frame m); effects = effects })
    (deliver x.row consumer (record { state = with_rows rows messages (frame m); effects = effects }))
delivers-over x consumer m rows messages effects it whole here =
    let turn : ℕ = m.rest.turns + 1 in
    let after : Parts = hand_over x consumer m in
    let y : Item = moved (Out consumer.id consumer.next_id) x in
    let handed = is_handed turn x consumer m.served whole.served whole.apart here in
    let ready : List Item = ready_items m in
    let perm : Perm (y ∷ items_of m) (items_of after) =
    join (y ∷ (ready ++ (outs m.served ++ m.dead))) (ready ++ (y ∷ (outs m.served ++ m.dead)))
    (ready ++ (outs (hand_to turn x consumer.id m.served) ++ m.dead))
    (perm-sym (perm-middle ready y (outs m.served ++ m.dead)))
    (perm-left ready (perm-right m.dead handed.perm)) in
    record {
      stands =
          subst (Stands after)
          (ap (λ (cs : List Consumer).
          record (m.rest) {
            turns = turn;
            rows = put_row y.row rows;
            messages = messages;
            consumers = cs;
          }) (sym handed.consumers))
          (stands-live x y m after rows messages it refl refl refl perm);
      whole = record {
        fronts = whole.fronts;
        backs = whole.backs;
        served = handed.has;
        apart = handed.apart;
        dead = whole.dead;
      };
      effects =
          ap (λ (message : Message).
          effects
          ++ Deliver consumer.id (record {
            index = x.row.index;
            arrival = x.row.arrival;
            id = consumer.next_id;
            count = x.row.count;
            message = message;
          })
          ∷ []) (message-is x x.row m rows messages it refl);
    }

pub delivers : (x : Item) (consumer : Consumer) (m : Parts) (s : State) → StandsWith x m s → IsWhole m
    → In consumer (map consumer_at m.served) → MayDeliver x consumer m s
delivers x consumer m s with whole here effects =
    by-frame (λ t. HoldsAfter (hand_over x consumer m) (Deliver consumer.id (delivery_to consumer x) ∷ [])
    (record { state = t; effects = effects }) (deliver x.row consumer (record { state = t; effects = effects }))) x m s
    with (delivers-over x consumer m s.rows s.messages effects (rows-of x m s with) whole here)

-- Joining ---------------------------------------------------------------------------------------------

outs-join : (ones : List Served) (consumer : Consumer)
    → outs (ones ++ record { consumer = consumer; out = [] } ∷ []) ≡ outs ones
outs-join [] consumer = refl
outs-join (one ∷ ones) consumer = ap (λ (xs : List Item). one.out ++ xs) (outs-join ones consumer)

apart-join : (ones : List Served) (new : Served) → AreApart ones → AllByRecursion (λ (one : Served). AreTwo one new) ones
    → AreApart (ones ++ new ∷ [])
apart-join [] new apart free = (tt, tt)
apart-join (one ∷ ones) new apart free =
    (AllByRecursion-append (AreTwo one) ones (new ∷ []) apart.0 (free.0, tt), apart-join ones new apart.1 free.1)

joins-over : (m : Parts) (id : ConsumerId) (mode : Mode) (rows : List Row) (messages : List Message)
    → Perm (live_items rows messages) (items_of m) → AreRising rows → length rows ≡ length messages → IsWhole m
    → IsFree id m → Holds (joined id mode m) (join_state id mode (with_rows rows messages (frame m)))
joins-over m id mode rows messages perm rising long whole free =
    let consumer : Consumer = new_consumer id mode (m.rest.turns + 1) in
    let new : Served = record { consumer = consumer; out = [] } in
    let after : Parts = joined id mode m in
    let same : outs after.served ≡ outs m.served = outs-join m.served consumer in
    let least : 0 < 1 = omega arith in
    record {
      stands = record {
        rest =
            ap (λ (cs : List Consumer). record (after.rest) { rows = rows; messages = messages; consumers = cs })
            (sym (map-append consumer_at m.served (new ∷ [])));
        perm =
            subst (λ (xs : List Item). Perm (live_items rows messages) (ready_items m ++ (xs ++ m.dead))) (sym same)
            perm;
        rising = rising;
        long = long;
      };
      whole = record {
        fronts = whole.fronts;
        backs = whole.backs;
        served =
            AllByRecursion-append HasOut m.served (new ∷ []) whole.served
            ((record { rising = tt; each = tt }, least), tt);
        apart = apart-join m.served new whole.apart free;
        dead = whole.dead;
      };
    }

pub joins : (m : Parts) (s : State) → Stands m s → IsWhole m → MayJoin m s
joins m s stands whole id mode free =
    subst (λ t. Holds (joined id mode m) (join_state id mode t)) (sym stands.rest)
    (joins-over m id mode s.rows s.messages stands.perm stands.rising stands.long whole free)

-- Purge -----------------------------------------------------------------------------------------------

ready-leave : (xs : List Item) → AllByRecursion (λ (x : Item). is_ready x.row.place ≡ true) xs
    → filter is_live_item (map purge_item xs) ≡ []
ready-leave [] each = refl
ready-leave (x ∷ xs) each =
    let gone : is_live (purge_row x.row).place ≡ false =
    ap (λ (row : Row). is_live row.place)
    (cond-true (is_ready x.row.place) (record (x.row) { place = Gone gone.Purged }) x.row each.0) in
    cond-false (is_live (purge_row x.row).place) (purge_item x ∷ filter is_live_item (map purge_item xs))
    (filter is_live_item (map purge_item xs)) gone
    ∙ ready-leave xs each.1

others-stay : (xs : List Item)
    → AllByRecursion (λ (x : Item). (is_ready x.row.place ≡ false) × (is_live x.row.place ≡ true)) xs
    → filter is_live_item (map purge_item xs) ≡ xs
others-stay [] each = refl
others-stay (x ∷ xs) each =
    let same : purge_item x ≡ x =
    ap (λ (row : Row). record { row = row; message = x.message })
    (cond-false (is_ready x.row.place) (record (x.row) { place = Gone gone.Purged }) x.row each.0.0) in
    let rest : List Item = filter is_live_item (map purge_item xs) in
    ap (λ (y : Item). cond (is_live_item y) (y ∷ rest) rest) same
    ∙ cond-true (is_live_item x) (x ∷ rest) rest each.0.1 ∙ ap (λ (ys : List Item). x ∷ ys) (others-stay xs each.1)

pub purges : (m : Parts) (s : State) → Stands m s → IsWhole m → MayPurge m s
purges m s stands whole =
    let others : List Item = outs m.served ++ m.dead in
    let stay : Item → Type 0 = λ x. (is_ready x.row.place ≡ false) × (is_live x.row.place ≡ true) in
    let none =
    ready-leave (ready_items m)
    (each-ready (λ (x : Item). is_ready x.row.place ≡ true) m whole (λ x key is. ap is_ready is)) in
    let kept =
    others-stay others
    (AllByRecursion-append stay (outs m.served) m.dead
    (each-out stay m.served whole.served (λ x consumer id is. (ap is_ready is, ap is_live is)))
    (each-dead stay m whole (λ x number reason is. (ap is_ready is, ap is_live is)))) in
    let all : filter is_live_item (map purge_item (items_of m)) ≡ others =
    ap (filter is_live_item) (map-append purge_item (ready_items m) others)
    ∙ filter-append is_live_item (map purge_item (ready_items m)) (map purge_item others)
    ∙ ap (λ (xs : List Item). xs ++ filter is_live_item (map purge_item others)) none ∙ kept in
    record {
      stands = record {
        rest = ap (λ (t : State). record t { rows = map purge_row s.rows }) stands.rest;
        perm =
            subst (λ (xs : List Item). Perm xs others) (sym (live-purge s.rows s.messages))
            (subst (λ (xs : List Item). Perm (filter is_live_item (map purge_item (live_items s.rows s.messages))) xs)
            all (perm-filter is_live_item (perm-map purge_item stands.perm)));
        rising =
            indices-rising (map purge_row s.rows)
            (subst Rises (sym (indices-purged s.rows)) (rising-indices s.rows stands.rising));
        long = length-map s.rows purge_row ∙ stands.long;
      };
      whole = record {
        fronts = record { rising = tt; each = tt };
        backs = record { rising = tt; each = tt };
        served = whole.served;
        apart = whole.apart;
        dead = whole.dead;
      };
    }
