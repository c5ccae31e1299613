-- No consumer has more that it hasn't settled than its prefetch allows.
use Rattle.std.proofs.Common.{◌≡◌, ℕ, ◌+◌, ◌-◌, ◌<◌, ◌≤◌, ◌⊎◌, Bool, true, false, not, List, [], ◌∷◌, ◌++◌, map, refl, sym, ap, ◌∙◌, subst, inl, inr, arith}
use Rattle.std.specs.Prelude.{nat_lt, nat_le, filter}
use Rattle.std.proofs.lemmas.Bool.{cases_Bool, cond-true, cond-false, and_parts, ltb-true}
use Rattle.std.proofs.lemmas.List.{append-nil}
use Rattle.std.proofs.lemmas.List.Elements.{filter-append}
use Rattle.qq_base.specs.declared.ids.ConsumerId.{ConsumerId}
use Rattle.qq_entry.specs.declared.command.Command.{Command}
use Rattle.qq_entry.specs.declared.command.Mode.{Mode}
use Rattle.qq_entry.specs.declared.command.Mode.TheVariants.{Prefetch, Link}
use Rattle.qq_model.specs.declared.place.Place.TheVariants.{Out}
use Rattle.qq_model.specs.declared.place.Row.{Row}
use Rattle.qq_model.specs.declared.consumer.Consumer.{Consumer}
use Rattle.qq_model.specs.State.{Sessions}
use Rattle.qq_base.specs.Ids.{same_consumer}
use Rattle.qq_model.specs.Choice.{may_be_served, free_credit, credit_left, prefetch_limit, out_count}
use Rattle.qq_model.specs.Changes.{Progress, put_row, put_consumer, is_needed}
use Rattle.qq_model.specs.Gate.{take_tag, greatest_tag, IsNumbered}
use Rattle.qq_model.specs.Commands.{new_consumer, is_of_session, purge_row}
use Rattle.qq_model.specs.Serving.{use_credit, serve}
use Rattle.qq_base.proofs.Lists.{In, filter-swap}
use Rattle.qq_laws.proofs.Both.{KeepsInOrder}
use Rattle.qq_model.proofs.Ending.{Later-ends}
use Rattle.qq_model.proofs.Ids.{CountsOn, consumer-found, counts-acts}
use Rattle.qq_model.proofs.Later.{Guarded, Later, Used}
use Rattle.qq_model.proofs.LaterSteps.{tag-later}
use Rattle.qq_model.proofs.Lookups.{next_consumer-in}
use Rattle.qq_model.proofs.OneConsumer.{Who, consumers-new, consumers-other, consumers_with, same_consumer-true, who-one}
use Rattle.qq_model.proofs.OneConsumer.Who.{Never, Stays, Went}
use Rattle.qq_model.proofs.OutCounts.{not_out, out-one, out-purged, out-with}
use Rattle.qq_model.proofs.SingleChanges.{Acts, IsOwn, KeepsRows, Serves}
use Rattle.qq_model.proofs.Current.{IsCurrent, tag-unused, tag-used}
use Rattle.qq_model.proofs.Serve.{serve-id}
use Rattle.qq_model.proofs.IdSteps.{counts-delivers, counts-serves}

-- the consumer of an id has no more than its prefetch, and one that never was has nothing
pub record Roomy (id : ConsumerId) (rows : List Row) (consumers : List Consumer) (s : Sessions) : Type 0 where
  pub room : (one : Consumer) (prefetch : ℕ) → consumers_with id consumers ≡ one ∷ [] → one.mode ≡ Prefetch prefetch
      → out_count id rows ≤ prefetch_limit prefetch
  pub unspent : (Used s id.session 0 id.tag → ⊥) → out_count id rows ≡ 0

-- each consumer of the id now was one of the same mode
abbrev Modes : ConsumerId → List Consumer → List Consumer → Type 0
Modes id old new =
    (one : Consumer) → consumers_with id new ≡ one ∷ [] → (before : Consumer) × (consumers_with id old ≡ before ∷ [])
    × (before.mode ≡ one.mode)

roomy-less : (id : ConsumerId) (rows rows' : List Row) (old new : List Consumer) (s t : Sessions) → Roomy id rows
    old s
    → out_count id rows' ≤ out_count id rows → Modes id old new
    → (Used s id.session 0 id.tag → Used t id.session 0 id.tag) → Roomy id rows' new t
roomy-less id rows rows' old new s t roomy less modes later = record {
  room = λ one prefetch is mode.
      let before = modes one is in
      omega (arith, roomy.room before.0 prefetch before.1 (before.2 ∙ mode), less);
  unspent = λ never. omega (arith, roomy.unspent (λ used. never (later used)), less);
}

modes-same : (id : ConsumerId) (consumers : List Consumer) → Modes id consumers consumers
modes-same id consumers one is = (one, is, refl)

modes-with : (id : ConsumerId) (consumers : List Consumer) (count : ℕ) (s : Sessions) (consumer new : Consumer)
    → In consumer consumers → new.id ≡ consumer.id → new.mode ≡ consumer.mode → Who id consumers count s
    → Modes id consumers (put_consumer new consumers)
modes-with id consumers count s consumer new here same mode who one is =
    elim (cases_Bool (same_consumer consumer.id id)) [
      | inl own ↦
          let only = (who-one id consumers count s consumer here own who).0 in
          let both : new ∷ [] ≡ one ∷ [] = sym (consumers-new id consumer new consumers only same) ∙ is in
          let itself : new ≡ one = cc in
          (consumer, only, sym mode ∙ ap (λ (c : Consumer). c.mode) itself)
      | inr other ↦ (
        one,
        sym (consumers-other id new consumers (ap (λ (i : ConsumerId). same_consumer i id) same ∙ other)) ∙ is,
        refl,
      )
    ]

modes-leave : (id : ConsumerId) (consumers : List Consumer) (count : ℕ) (s : Sessions) (keeps : Consumer → Bool)
    → Who id consumers count s → Modes id consumers (filter keeps consumers)
modes-leave id consumers count s keeps who one is = by who
  where
    swap : consumers_with id (filter keeps consumers) ≡ filter keeps (consumers_with id consumers)
    swap = filter-swap (λ (c : Consumer). same_consumer c.id id) keeps consumers

    by : Who id consumers count s → (before : Consumer) × (consumers_with id consumers ≡ before ∷ [])
        × (before.mode ≡ one.mode)
    by (Never none zero') = let e : [] ≡ one ∷ [] = sym (swap ∙ ap (filter keeps) none) ∙ is in absurd cc
    by (Went none used) = let e : [] ≡ one ∷ [] = sym (swap ∙ ap (filter keeps) none) ∙ is in absurd cc
    by (Stays c only next used) = elim (cases_Bool (keeps c)) [
      | inl kept ↦
          let e : c ∷ [] ≡ one ∷ [] = sym (swap ∙ ap (filter keeps) only ∙ cond-true (keeps c) (c ∷ []) [] kept)
          ∙ is in
          let same : c ≡ one = cc in
          (c, only, ap (λ (d : Consumer). d.mode) same)
      | inr gone ↦
          let e : [] ≡ one ∷ [] = sym (swap ∙ ap (filter keeps) only ∙ cond-false (keeps c) (c ∷ []) [] gone) ∙ is in
          absurd cc
    ]

-- the ids count on, and there is room
pub record Fits (id : ConsumerId) (before : ℕ) (command : Command) (p : Progress) : Type 0 where
  pub on : CountsOn id before command p
  pub roomy : Roomy id p.state.rows p.state.consumers p.state.sessions

fits-rows : (id : ConsumerId) (before : ℕ) (command : Command) → Acts command (CountsOn id before command)
    → KeepsRows command (Fits id before command)
fits-rows id before command acts = record {
  row = λ p q old new fits here moves out why turns. record {
    on = acts.rows.row p q old new fits.on here moves out why turns;
    roomy =
        roomy-less id p.state.rows q.state.rows p.state.consumers q.state.consumers p.state.sessions q.state.sessions
        fits.roomy
        (subst (λ (rows : List Row). out_count id rows ≤ out_count id p.state.rows) (sym turns.rows)
        (out-with id new p.state.rows (not_out id new.place out)))
        (subst (Modes id p.state.consumers) (sym turns.consumers) (modes-same id p.state.consumers))
        (λ used. subst (λ (s : Sessions). Used s id.session 0 id.tag) (sym turns.sessions) used);
  };
}

-- a consumer changes, but for its id, its mode and its next delivery
fits-changed : (id : ConsumerId) (before : ℕ) (command : Command) (p : Progress) (other : ConsumerId)
    (consumer new : Consumer) → Fits id before command p → In consumer p.state.consumers → new.id ≡ consumer.id
    → new.mode ≡ consumer.mode
    → Roomy id p.state.rows (put_consumer new p.state.consumers) p.state.sessions
fits-changed id before command p other consumer new fits here same mode =
    roomy-less id p.state.rows p.state.rows p.state.consumers (put_consumer new p.state.consumers) p.state.sessions
    p.state.sessions fits.roomy (omega arith)
    (modes-with id p.state.consumers _ p.state.sessions consumer new here same mode fits.on.who) (λ used. used)

-- a consumer joins
fits-join : (id : ConsumerId) (before : ℕ) (command : Command) (p : Progress) (other : ConsumerId) (mode : Mode)
    → Fits id before command p → nat_le other.tag (greatest_tag other.session p.state.sessions) ≡ false
    → IsOwn command other
    → Roomy id p.state.rows (p.state.consumers ++ new_consumer other mode (p.state.turns + 1) ∷ [])
    (take_tag other.session other.tag p.state.sessions)
fits-join id before command p other mode fits above own = by (cases_Bool (same_consumer other id))
  where
    new : Consumer
    new = new_consumer other mode (p.state.turns + 1)

    more : consumers_with id (p.state.consumers ++ new ∷ []) ≡ consumers_with id p.state.consumers
        ++ consumers_with id (new ∷ [])
    more = filter-append (λ (one : Consumer). same_consumer one.id id) p.state.consumers (new ∷ [])

    by : (same_consumer other id ≡ true) ⊎ (same_consumer other id ≡ false)
        → Roomy id p.state.rows (p.state.consumers ++ new ∷ []) (take_tag other.session other.tag p.state.sessions)
    by (inl is) =
        let same : other ≡ id = same_consumer-true other id is in
        let current : IsCurrent p.state.sessions id.session =
        fits.on.current own.0 own.1 (sym own.2 ∙ ap (λ (i : ConsumerId). i.session) same) in
        let above' : nat_le id.tag (greatest_tag id.session p.state.sessions) ≡ false =
        subst (λ (i : ConsumerId). nat_le i.tag (greatest_tag i.session p.state.sessions) ≡ false) same above in
        let used' : Used (take_tag other.session other.tag p.state.sessions) id.session 0 id.tag =
        subst (λ (i : ConsumerId). Used (take_tag i.session i.tag p.state.sessions) id.session 0 id.tag) (sym same)
        (tag-used p.state.sessions id current) in
        let none : out_count id p.state.rows ≡ 0 = fits.roomy.unspent
        (tag-unused p.state.sessions id current above') in
        record { room = λ one prefetch only prefetch'. omega (arith, none); unspent = λ never. absurd (never used') }
    by (inr differs) =
        let apart : consumers_with id (p.state.consumers ++ new ∷ []) ≡ consumers_with id p.state.consumers =
        more ∙ ap (λ (cs : List Consumer). consumers_with id p.state.consumers ++ cs)
        (cond-false (same_consumer other id) (new ∷ []) [] differs)
        ∙ append-nil (consumers_with id p.state.consumers) in
        roomy-less id p.state.rows p.state.rows p.state.consumers (p.state.consumers ++ new ∷ []) p.state.sessions
        (take_tag other.session other.tag p.state.sessions) fits.roomy (omega arith)
        (λ one is. (one, sym apart ∙ is, refl))
        (λ used. (tag-later id.session p.state.sessions other above).used 0 id.tag fits.on.guarded used)

pub fits-acts : (id : ConsumerId) (before : ℕ) (command : Command) → IsNumbered id.session
    → Acts command (Fits id before command)
fits-acts id before command numbered =
    let counts = counts-acts id before command numbered in
    record {
      rows = fits-rows id before command counts;
      purge = λ p fits purges. record {
        on = counts.purge p fits.on purges;
        roomy =
            roomy-less id p.state.rows (map purge_row p.state.rows) p.state.consumers p.state.consumers
            p.state.sessions
            p.state.sessions fits.roomy (out-purged id p.state.rows) (modes-same id p.state.consumers) (λ used. used);
      };
      attach =
          λ p term fits least greater. record { on = counts.attach p term fits.on least greater; roomy = fits.roomy };
      join =
          λ p other mode fits above own.
          record {
            on = counts.join p other mode fits.on above own;
            roomy = fits-join id before command p other mode fits above own;
          };
      cancel = λ p other consumer fits found. record {
        on = counts.cancel p other consumer fits.on found;
        roomy =
            fits-changed id before command p other consumer _ fits
            (consumer-found other p.state.consumers consumer found)
            refl refl;
      };
      finish = λ p fits. record {
        on = counts.finish p fits.on;
        roomy =
            roomy-less id p.state.rows p.state.rows p.state.consumers
            (filter (is_needed p.state.rows) p.state.consumers)
            p.state.sessions p.state.sessions fits.roomy (omega arith)
            (modes-leave id p.state.consumers _ p.state.sessions (is_needed p.state.rows) fits.on.who) (λ used. used);
      };
      credit = λ p other consumer credit fits found. record {
        on = counts.credit p other consumer credit fits.on found;
        roomy =
            fits-changed id before command p other consumer _ fits
            (consumer-found other p.state.consumers consumer found)
            refl refl;
      };
      turn = λ p other consumer fits found. record {
        on = counts.turn p other consumer fits.on found;
        roomy =
            fits-changed id before command p other consumer _ fits
            (consumer-found other p.state.consumers consumer found)
            refl refl;
      };
      leave = λ p session fits is same none. record {
        on = counts.leave p session fits.on is same none;
        roomy =
            roomy-less id p.state.rows p.state.rows p.state.consumers
            (filter (λ (consumer : Consumer). not (is_of_session session consumer)) p.state.consumers)
            p.state.sessions
            _
            fits.roomy (omega arith)
            (modes-leave id p.state.consumers _ p.state.sessions
            (λ (consumer : Consumer). not (is_of_session session consumer)) fits.on.who)
            (λ used. (Later-ends id.session p.state.sessions session numbered).used 0 id.tag fits.on.guarded used);
      };
    }

-- Deliveries -----------------------------------------------------------------------------------------------

use_credit-mode : (mode : Mode) (consumer : Consumer) → (use_credit mode consumer).mode ≡ consumer.mode
use_credit-mode (Prefetch prefetch) consumer = refl
use_credit-mode Link consumer = refl

serve-mode : (turn : ℕ) (consumer : Consumer) → (serve turn consumer).mode ≡ consumer.mode
serve-mode turn consumer =
    use_credit-mode consumer.mode (record consumer { next_id = consumer.next_id + 1; turn = turn })

-- a consumer with a prefetch that may be served has less than it
pub serve-below : (rows : List Row) (consumer : Consumer) (prefetch : ℕ) → may_be_served rows consumer ≡ true
    → consumer.mode ≡ Prefetch prefetch → out_count consumer.id rows < prefetch_limit prefetch
serve-below rows consumer prefetch may mode =
    let free : 0 < free_credit rows consumer =
    ltb-true 0 (free_credit rows consumer)
    (and_parts (not consumer.cancelled) (nat_lt 0 (free_credit rows consumer)) may).1 in
    let is : free_credit rows consumer ≡ prefetch_limit prefetch - out_count consumer.id rows =
    ap (λ (m : Mode). credit_left m consumer.credit (out_count consumer.id rows)) mode in
    omega (arith, free, is)

pub fits-delivers : (id : ConsumerId) (before : ℕ) (command : Command) → KeepsInOrder (Fits id before command)
fits-delivers id before command p row consumer rising fits found next =
    record {
      on = counts-delivers id before command p row consumer fits.on found next;
      roomy = by (cases_Bool (same_consumer consumer.id id));
    }
  where
    chosen : In consumer p.state.consumers × (may_be_served p.state.rows consumer ≡ true)
    chosen = next_consumer-in p.state.args.single_active p.state.rows p.state.consumers consumer next

    new : Consumer
    new = serve (p.state.turns + 1) consumer

    out : Row
    out = record row { place = Out consumer.id consumer.next_id }

    by : (same_consumer consumer.id id ≡ true) ⊎ (same_consumer consumer.id id ≡ false)
        → Roomy id (put_row out p.state.rows) (put_consumer new p.state.consumers) p.state.sessions
    by (inl is) =
        let one = who-one id p.state.consumers _ p.state.sessions consumer chosen.0 is fits.on.who in
        let only = consumers-new id consumer new p.state.consumers one.0 (serve-id (p.state.turns + 1) consumer) in
        let more = out-one id out p.state.rows rising in
        record {
          room = λ c prefetch is' mode.
              let both : new ∷ [] ≡ c ∷ [] = sym only ∙ is' in
              let itself : new ≡ c = cc in
              let mode' : consumer.mode ≡ Prefetch prefetch =
              sym (serve-mode (p.state.turns + 1) consumer) ∙ ap (λ (d : Consumer). d.mode) itself ∙ mode in
              let below = serve-below p.state.rows consumer prefetch chosen.1 mode' in
              let below' : out_count id p.state.rows < prefetch_limit prefetch =
              subst (λ (i : ConsumerId). out_count i p.state.rows < prefetch_limit prefetch)
              (same_consumer-true consumer.id id is) below in
              omega (arith, below', more);
          unspent = λ never. absurd (never one.2);
        }
    by (inr other) =
        roomy-less id p.state.rows (put_row out p.state.rows) p.state.consumers (put_consumer new p.state.consumers)
        p.state.sessions p.state.sessions fits.roomy (out-with id out p.state.rows other)
        (modes-with id p.state.consumers _ p.state.sessions consumer new chosen.0
        (serve-id (p.state.turns + 1) consumer) (serve-mode (p.state.turns + 1) consumer) fits.on.who) (λ used. used)

pub fits-serves : (id : ConsumerId) (before : ℕ) (command : Command) → IsNumbered id.session
    → Serves command (Fits id before command)
fits-serves id before command numbered =
    let counts = counts-serves id before command in
    record {
      rows = fits-rows id before command (counts-acts id before command numbered);
      offer =
          λ p number reason row fits here is next may few.
          record { on = counts.offer p number reason row fits.on here is next may few; roomy = fits.roomy };
      drain = λ p other consumer fits found. record {
        on = counts.drain p other consumer fits.on found;
        roomy =
            fits-changed id before command p other consumer _ fits
            (consumer-found other p.state.consumers consumer found)
            refl refl;
      };
    }

pub roomy-later : (id : ConsumerId) (rows : List Row) (consumers : List Consumer) (s t : Sessions)
    → Later id.session s t → Guarded s → Roomy id rows consumers s → Roomy id rows consumers t
roomy-later id rows consumers s t later guarded roomy =
    roomy-less id rows rows consumers consumers s t roomy (omega arith) (modes-same id consumers)
    (λ used. later.used 0 id.tag guarded used)
