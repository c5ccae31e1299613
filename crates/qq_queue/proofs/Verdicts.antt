-- What becomes of a queue where a taker is given to a consumer, and where one gives a verdict.
use Rattle.std.proofs.Common.{◌≡◌, ℕ, List, [], ◌∷◌, ◌++◌, Option, Some, None, refl, sym, ap, ◌∙◌}
use Rattle.qq_base.specs.declared.ids.ConsumerId.{ConsumerId}
use Rattle.qq_cluster_model.specs.Queue.{Attaches, Judges, Queue, attach, attached, consumer_of, happens, said}
use Rattle.qq_cluster_model.specs.Taking.{delivered, judged, judged_by, told_of, unjudged, waiting_of}
use Rattle.qq_session.specs.declared.shown.Shown.{Shown}
use Rattle.qq_session.specs.declared.shown.Shown.TheVariants.{Attached, IsBusy}
use Rattle.qq_taker.specs.Seats.{sit, taker_of}
use Rattle.qq_taker.specs.declared.handed.Handed.{Handed}
use Rattle.qq_taker.specs.declared.seats.Seat.{Seat}
use Rattle.qq_taker.specs.declared.taker.Verdict.{Verdict}
use Rattle.qq_queue.specs.ClusterQueue.{Stands}
use Rattle.qq_queue.specs.Judging.{judged_as}
use Rattle.qq_queue.specs.Sessions.{Standings}
use Rattle.qq_queue.specs.declared.cluster_queue.ClusterQueue.{ClusterQueue}
use Rattle.qq_queue.proofs.Happening.{stands-then, waits-nothing}
use Rattle.qq_queue.proofs.Showing.{shows-both, shows-nothing, shows-of}

-- ---- a taker is given to a consumer

abbrev seats-with : ClusterQueue → List Seat → ClusterQueue
seats-with d seats = record d { seats = seats }

attach-stands : (sessions : Standings) (d : ClusterQueue) (q : Queue) (session tag number : ℕ) (seats : List Seat)
    → Stands sessions d q
    → attach (consumer_of session tag) number (taker_of (consumer_of session tag) d.seats) d.seats ≡ seats
    → Stands sessions (seats-with d seats) (happens q (Attaches session tag number))
attach-stands sessions d q session tag number seats st is =
    let id : ConsumerId = consumer_of session tag in
    let own : attach id number (taker_of id q.seats) q.seats ≡ seats =
    ap (λ (l : List Seat). attach id number (taker_of id l) l) st.seats ∙ is in
    stands-then sessions d (seats-with d seats) q (Attaches session tag number) st (st.group, λ k down. down) refl
    st.clients st.consumers
    (record {
      seats = own;
      untold = waits-nothing q.untold (attach id number (taker_of id q.seats) q.seats) ∙ st.untold;
    }) refl refl

pub attach-does : (sessions : Standings) (d : ClusterQueue) (q : Queue) (session tag number : ℕ) (id : ConsumerId)
    (seats : List Seat) (before after : List Shown) → Stands sessions d q → id ≡ consumer_of session tag
    → None ≡ taker_of id d.seats → seats ≡ sit (record { consumer = id; number = number }) d.seats
    → after ≡ before ++ Attached session number ∷ []
    → Stands sessions (seats-with d seats) (happens q (Attaches session tag number))
    × (after ≡ before ++ said q (Attaches session tag number))
attach-does sessions d q session tag number id seats before after st own none' sits said' =
    let free : taker_of (consumer_of session tag) d.seats ≡ None =
    sym (none' ∙ ap (λ (i : ConsumerId). taker_of i d.seats) own) in (
      attach-stands sessions d q session tag number seats st
          (ap (λ (o : Option ℕ). attach (consumer_of session tag) number o d.seats) free
          ∙ ap (λ (i : ConsumerId). sit (record { consumer = i; number = number }) d.seats) (sym own) ∙ sym sits),
      shows-of (Attached session number ∷ []) (said q (Attaches session tag number)) before after
          (ap (λ (l : List Seat). attached session number (taker_of (consumer_of session tag) l)) st.seats
          ∙ ap (attached session number) free) said',
    )

-- the consumer has one already
pub busy-does : (sessions : Standings) (d : ClusterQueue) (q : Queue) (session tag number other : ℕ) (id : ConsumerId)
    (before after : List Shown) → Stands sessions d q → id ≡ consumer_of session tag → Some other ≡ taker_of id d.seats
    → after ≡ before ++ IsBusy session other ∷ []
    → Stands sessions d (happens q (Attaches session tag number))
    × (after ≡ before ++ said q (Attaches session tag number))
busy-does sessions d q session tag number other id before after st own some said' =
    let there : taker_of (consumer_of session tag) d.seats ≡ Some other =
    sym (some ∙ ap (λ (i : ConsumerId). taker_of i d.seats) own) in (
      attach-stands sessions d q session tag number d.seats st
          (ap (λ (o : Option ℕ). attach (consumer_of session tag) number o d.seats) there),
      shows-of (IsBusy session other ∷ []) (said q (Attaches session tag number)) before after
          (ap (λ (l : List Seat). attached session number (taker_of (consumer_of session tag) l)) st.seats
          ∙ ap (attached session number) there) said',
    )

-- ---- verdicts

judged-is : (seats : List Seat) (o : Option ℕ) (h : Handed) (verdict : Verdict) (more : List Handed)
    → judged_by seats o h verdict more ≡ judged_as o h verdict ∷ delivered (told_of seats more)
judged-is seats None h verdict more = refl
judged-is seats (Some number) h verdict more = refl

abbrev untold-with : ClusterQueue → List Handed → ClusterQueue
untold-with d untold = record d { untold = untold }

pub verdict-does : (sessions : Standings) (d : ClusterQueue) (q : Queue) (h : Handed) (more untold : List Handed)
    (verdict : Verdict) (before mid after : List Shown) → Stands sessions d q → d.untold ≡ h ∷ more
    → mid ≡ before ++ judged_as (taker_of h.consumer d.seats) h verdict ∷ []
    → untold ≡ waiting_of d.seats more → after ≡ mid ++ delivered (told_of d.seats more)
    → Stands sessions (untold-with d untold) (happens q (Judges verdict))
    × (after ≡ before ++ said q (Judges verdict))
verdict-does sessions d q h more untold verdict before mid after st first told' waits rest = (
  stands-then sessions d (untold-with d untold) q (Judges verdict) st (st.group, λ k down. down) refl st.clients
      st.consumers
      (record {
        seats = st.seats;
        untold = ap (unjudged q.seats) (st.untold ∙ first) ∙ ap (λ (l : List Seat). waiting_of l more) st.seats
            ∙ sym waits;
      }) refl refl,
  shows-of (judged_as (taker_of h.consumer d.seats) h verdict ∷ delivered (told_of d.seats more))
      (said q (Judges verdict)) before after
      (ap (judged q.seats verdict) (st.untold ∙ first)
      ∙ ap (λ (l : List Seat). judged l verdict (h ∷ more)) st.seats
      ∙ judged-is d.seats (taker_of h.consumer d.seats) h verdict more)
      (shows-both (judged_as (taker_of h.consumer d.seats) h verdict ∷ []) (delivered (told_of d.seats more)) before mid
      after told' rest),
)

pub judges-nothing : (sessions : Standings) (d : ClusterQueue) (q : Queue) (verdict : Verdict) (before : List Shown)
    → Stands sessions d q → d.untold ≡ []
    → Stands sessions d (happens q (Judges verdict)) × (before ≡ before ++ said q (Judges verdict))
judges-nothing sessions d q verdict before st none' = (
  stands-then sessions d d q (Judges verdict) st (st.group, λ k down. down) refl st.clients st.consumers
      (record {
        seats = st.seats;
        untold = ap (unjudged q.seats) (st.untold ∙ none') ∙ sym none';
      }) refl refl,
  shows-nothing (said q (Judges verdict)) before (ap (judged q.seats verdict) (st.untold ∙ none')),
)
