-- What a taker sees of what a queue shows, and what its consumer does.
use Rattle.std.proofs.Common.{◌≡◌, ℕ, Bool, true, false, cond, List, [], ◌∷◌, ◌++◌, Option, Some, None, map, refl, sym, ap, ◌∙◌}
use Rattle.std.specs.Prelude.{filter_map, is_some, nat_eq}
use Rattle.std.specs.List.{AllByRecursion, cons_option}
use Rattle.std.proofs.lemmas.Bool.{cond_both, eq-eqb, eqb-true, false≢true}
use Rattle.std.proofs.lemmas.List.{map-append}
use Rattle.qq_base.proofs.Lists.{AllByRecursion-append}
use Rattle.qq_base.specs.Ids.{same_consumer}
use Rattle.qq_base.specs.declared.ids.ConsumerId.{ConsumerId}
use Rattle.qq_entry.specs.declared.answer.Delivery.{Delivery}
use Rattle.qq_entry.specs.declared.audit.AuditRow.{AuditRow}
use Rattle.qq_entry.specs.declared.command.Command.{Command}
use Rattle.qq_model.proofs.OneConsumer.{same_consumer-refl, same_consumer-true}
use Rattle.qq_session.specs.Clients.{may_hand, printed}
use Rattle.qq_session.specs.declared.shown.Shown.{Shown}
use Rattle.qq_session.specs.declared.shown.Shown.TheVariants.{Answered, WindowFull}
use Rattle.qq_session.specs.Shown.{said_of}
use Rattle.qq_session.proofs.AuditRows.{filter_map-append}
use Rattle.qq_taker.specs.Seats.{taker_of}
use Rattle.qq_taker.specs.Seen.{seen_of}
use Rattle.qq_taker.specs.declared.handed.Handed.{Handed}
use Rattle.qq_taker.specs.declared.seats.Seat.{Seat}
use Rattle.qq_taker.specs.declared.taker.Seen.{Seen}
use Rattle.qq_taker.specs.declared.taker.Verdict.{Verdict}
use Rattle.qq_cluster_model.specs.Laws.{deliveries_shown, deliveries_waiting, delivery_shown, seen_by}
use Rattle.qq_cluster_model.specs.Queue.{Queue, Event, Mutes, Ends, Submits, TellsEnded, TellsNotTaken, Attaches, Judges, Resends, Fetches, Downs, Ticks, Delivers, Loses, Copies, Writes, Syncs, Notices, Stops, Finds, consumer_of, handed_out, has_leader, offered, rows_told, said, seats_after, told}
use Rattle.qq_cluster_model.specs.Taking.{answers, delivered, judged, judged_by, told_of, told_then}
use Rattle.qq_cluster_model.proofs.Consumed.{answers-none, delivered-at, offered-none}
use Rattle.qq_cluster_model.proofs.Handing.{all-answers, all-attached, all-delivered, answers-filter, filter-none}
use Rattle.qq_cluster_model.proofs.Seating.{IsOther, IsSeated, never, whose}

-- ---- what is told is to no consumer with a taker

not-own : (id c : ConsumerId) (number : ℕ) (seats : List Seat) → taker_of c seats ≡ None
    → taker_of id seats ≡ Some number → same_consumer c id ≡ false
not-own id c number seats none has = by (same_consumer c id) refl
  where
    by : (b : Bool) → same_consumer c id ≡ b → b ≡ false
    by true same =
        absurd (let e : None ≡ Some number =
        sym none ∙ ap (λ (x : ConsumerId). taker_of x seats) (same_consumer-true c id same) ∙ has in cc)
    by false same = refl

told-other : (id : ConsumerId) (number : ℕ) (seats : List Seat) (hs : List Handed) → taker_of id seats ≡ Some number
    → deliveries_waiting id (told_of seats hs) ≡ []
told-other id number seats [] has = refl
told-other id number seats (h ∷ more) has = by (taker_of h.consumer seats) refl (told-other id number seats more has)
  where
    by : (o : Option ℕ) → taker_of h.consumer seats ≡ o → deliveries_waiting id (told_of seats more) ≡ []
        → deliveries_waiting id (cond (is_some o) [] (h ∷ told_of seats more)) ≡ []
    by (Some n) is rest = refl
    by None is rest =
        ap (λ (b : Bool). cons_option (cond b (Some h.delivery) None) (deliveries_waiting id (told_of seats more)))
        (not-own id h.consumer number seats is has) ∙ rest

-- ---- deliveries that were seen

pub record AreSeen (seen : List Seen) (ds : List Delivery) : Type 0 where
  pub ids : map (λ (one : Seen). one.id) seen ≡ map (λ (one : Delivery). one.id) ds
  pub arrivals : map (λ (one : Seen). one.arrival) seen ≡ map (λ (one : Delivery). one.arrival) ds

pub seen-none : AreSeen [] []
seen-none = record { ids = refl; arrivals = refl }

pub seen-same : (seen others : List Seen) (ds es : List Delivery) → seen ≡ others → ds ≡ es → AreSeen others es
    → AreSeen seen ds
seen-same seen others ds es same alike are = record {
  ids = ap (map (λ (one : Seen). one.id)) same ∙ are.ids ∙ sym (ap (map (λ (one : Delivery). one.id)) alike);
  arrivals = ap (map (λ (one : Seen). one.arrival)) same ∙ are.arrivals
      ∙ sym (ap (map (λ (one : Delivery). one.arrival)) alike);
}

seen-one : (b : Bool) (d : Delivery) (verdict : Verdict)
    → AreSeen (cons_option (cond b (Some (seen_of d verdict)) None) []) (cons_option (cond b (Some d) None) [])
seen-one true d verdict = record { ids = refl; arrivals = refl }
seen-one false d verdict = seen-none

joined : {A B C : Type 0} (f : A → C) (g : B → C) (xs ys : List A) (us vs : List B) → map f xs ≡ map g us
    → map f ys ≡ map g vs → map f (xs ++ ys) ≡ map g (us ++ vs)
joined {C = C} f g xs ys us vs first second =
    map-append f xs ys ∙ ap (λ (l : List C). l ++ map f ys) first ∙ ap (λ (l : List C). map g us ++ l) second
    ∙ sym (map-append g us vs)

pub seen-both : (xs ys : List Seen) (us vs : List Delivery) → AreSeen xs us → AreSeen ys vs
    → AreSeen (xs ++ ys) (us ++ vs)
seen-both xs ys us vs first second = record {
  ids = joined (λ (one : Seen). one.id) (λ (one : Delivery). one.id) xs ys us vs first.ids second.ids;
  arrivals = joined (λ (one : Seen). one.arrival) (λ (one : Delivery). one.arrival) xs ys us vs first.arrivals
      second.arrivals;
}

module _ (number : ℕ) (id : ConsumerId) where
  abbrev pub sees : List Shown → List Seen
  sees shown = filter_map (seen_by number) shown

  -- ---- events without a verdict

  abbrev IsUnseen : Shown → Type 0
  IsUnseen x = seen_by number x ≡ None

  rows-unseen : (rows : List AuditRow) → AllByRecursion IsUnseen (map Answered rows)
  rows-unseen [] = tt
  rows-unseen (row ∷ rows) = (refl, rows-unseen rows)

  told-unseen : (q : Queue) (event : Event) → AllByRecursion IsUnseen (told q event)
  told-unseen q event =
      let rows : List AuditRow = printed (rows_told q event) q.clients in
      let out : List Handed = told_then q.untold (seats_after q event) (handed_out q event) in
      AllByRecursion-append IsUnseen (answers q.seats rows) (delivered out)
      (all-answers IsUnseen (λ session n. refl) q.seats rows (rows-unseen rows))
      (all-delivered IsUnseen (λ c d. refl) out)

  offered-unseen : (ready : Bool) (session : ℕ) (commands : List Command)
      → AllByRecursion IsUnseen (said_of ready session commands)
  offered-unseen true session commands = tt
  offered-unseen false session [] = tt
  offered-unseen false session (command ∷ commands) = (refl, offered-unseen false session commands)

  abbrev pub NoVerdict : Event → Type 0
  NoVerdict (Judges verdict) = ⊥
  NoVerdict _ = Unit {0}

  all-unseen : (q : Queue) (event : Event) → NoVerdict event → AllByRecursion IsUnseen (said q event)
  all-unseen q (Judges verdict) none = absurd none
  all-unseen q (Submits session body) none =
      cond_both (may_hand (q.clients session).numbers)
      (said_of (has_leader q) session (offered q.clients (Submits session body))) (WindowFull session ∷ [])
      (AllByRecursion IsUnseen)
      (λ _. offered-unseen (has_leader q) session (offered q.clients (Submits session body))) (λ _. (refl, tt))
  all-unseen q (Resends session) none =
      offered-unseen (has_leader q) session (offered q.clients (Resends session))
  all-unseen q (Downs session) none = offered-unseen (has_leader q) session (offered q.clients (Downs session))
  all-unseen q (TellsEnded session) none = (refl, tt)
  all-unseen q (TellsNotTaken session own) none = (refl, tt)
  all-unseen q (Attaches session tag n) none =
      all-attached IsUnseen (λ s m. refl) (λ s m. refl) session n (taker_of (consumer_of session tag) q.seats)
  all-unseen q (Mutes session muted) none = told-unseen q (Mutes session muted)
  all-unseen q (Ends session) none = told-unseen q (Ends session)
  all-unseen q (Fetches session) none = told-unseen q (Fetches session)
  all-unseen q (Ticks k) none = told-unseen q (Ticks k)
  all-unseen q (Delivers at) none = told-unseen q (Delivers at)
  all-unseen q (Loses at) none = told-unseen q (Loses at)
  all-unseen q (Copies at) none = told-unseen q (Copies at)
  all-unseen q (Writes k) none = told-unseen q (Writes k)
  all-unseen q (Syncs k) none = told-unseen q (Syncs k)
  all-unseen q (Notices k) none = told-unseen q (Notices k)
  all-unseen q (Stops k) none = told-unseen q (Stops k)
  all-unseen q (Finds k op) none = told-unseen q (Finds k op)

  pub said-unseen : (q : Queue) (event : Event) → NoVerdict event → sees (said q event) ≡ []
  said-unseen q event none = filter-none (seen_by number) (said q event) (all-unseen q event none)

  told-own : (q : Queue) (event : Event) → taker_of id (seats_after q event) ≡ Some number
      → deliveries_shown id (told q event) ≡ []
  told-own q event has =
      let rows : List AuditRow = printed (rows_told q event) q.clients in
      let out : List Handed = told_then q.untold (seats_after q event) (handed_out q event) in
      filter_map-append (delivery_shown id) (answers q.seats rows) (delivered out)
      ∙ ap (λ (ds : List Delivery). ds ++ deliveries_shown id (delivered out))
      (answers-filter (delivery_shown id) (λ session n. refl) q.seats rows ∙ answers-none id rows)
      ∙ delivered-at id out ∙ by q.untold
    where
      by : (waits : List Handed)
          → deliveries_waiting id (told_then waits (seats_after q event) (handed_out q event)) ≡ []
      by [] = told-other id number (seats_after q event) (handed_out q event) has
      by (h ∷ more) = refl

  -- while the consumer has its taker nothing else is shown to it
  pub said-own : (q : Queue) (event : Event) → NoVerdict event → taker_of id (seats_after q event) ≡ Some number
      → deliveries_shown id (said q event) ≡ []
  said-own q (Judges verdict) none has = absurd none
  said-own q (Submits session body) none has =
      cond_both (may_hand (q.clients session).numbers)
      (said_of (has_leader q) session (offered q.clients (Submits session body))) (WindowFull session ∷ [])
      (λ (shown : List Shown). deliveries_shown id shown ≡ [])
      (λ _. offered-none id (has_leader q) session (offered q.clients (Submits session body))) (λ _. refl)
  said-own q (Resends session) none has =
      offered-none id (has_leader q) session (offered q.clients (Resends session))
  said-own q (Downs session) none has = offered-none id (has_leader q) session (offered q.clients (Downs session))
  said-own q (TellsEnded session) none has = refl
  said-own q (TellsNotTaken session own) none has = refl
  said-own q (Attaches session tag n) none has =
      filter-none (delivery_shown id) (said q (Attaches session tag n))
      (all-attached (λ (x : Shown). delivery_shown id x ≡ None) (λ s m. refl) (λ s m. refl) session n
      (taker_of (consumer_of session tag) q.seats))
  said-own q (Mutes session muted) none has = told-own q (Mutes session muted) has
  said-own q (Ends session) none has = told-own q (Ends session) has
  said-own q (Fetches session) none has = told-own q (Fetches session) has
  said-own q (Ticks k) none has = told-own q (Ticks k) has
  said-own q (Delivers at) none has = told-own q (Delivers at) has
  said-own q (Loses at) none has = told-own q (Loses at) has
  said-own q (Copies at) none has = told-own q (Copies at) has
  said-own q (Writes k) none has = told-own q (Writes k) has
  said-own q (Syncs k) none has = told-own q (Syncs k) has
  said-own q (Notices k) none has = told-own q (Notices k) has
  said-own q (Stops k) none has = told-own q (Stops k) has
  said-own q (Finds k op) none has = told-own q (Finds k op) has

  -- ---- verdicts

  delivered-unseen : (hs : List Handed) → sees (delivered hs) ≡ []
  delivered-unseen hs = filter-none (seen_by number) (delivered hs) (all-delivered IsUnseen (λ c d. refl) hs)

  same-number : (c : ConsumerId) (n : ℕ) (seats : List Seat) → IsSeated number id seats → taker_of c seats ≡ Some n
      → nat_eq n number ≡ same_consumer c id
  same-number c n seats is has = by (nat_eq n number) refl
    where
      other : nat_eq n number ≡ false → (b : Bool) → same_consumer c id ≡ b → false ≡ b
      other differs true same =
          let e : Some n ≡ Some number =
          sym has ∙ ap (λ (x : ConsumerId). taker_of x seats) (same_consumer-true c id same) ∙ is.has in
          let m : n ≡ number = cc in
          absurd (false≢true (sym differs ∙ eq-eqb n number m))
      other differs false same = refl

      by : (b : Bool) → nat_eq n number ≡ b → b ≡ same_consumer c id
      by true same =
          let m : n ≡ number = eqb-true n number same in
          let own : c ≡ id = whose number id c seats is.own (has ∙ ap (λ (k : ℕ). Some k) m) in
          sym (ap (λ (x : ConsumerId). same_consumer x id) own ∙ same_consumer-refl id)
      by false differs = other differs (same_consumer c id) refl

  pub judged-seen : (seats : List Seat) (verdict : Verdict) (waits : List Handed) → IsSeated number id seats
      → AreSeen (sees (judged seats verdict waits)) (deliveries_shown id (judged seats verdict waits))
  judged-seen seats verdict [] is = seen-none
  judged-seen seats verdict (h ∷ more) is = by (taker_of h.consumer seats) refl
    where
      rest : deliveries_shown id (delivered (told_of seats more)) ≡ []
      rest = delivered-at id (told_of seats more) ∙ told-other id number seats more is.has

      by : (o : Option ℕ) → taker_of h.consumer seats ≡ o
          → AreSeen (sees (judged_by seats o h verdict more)) (deliveries_shown id (judged_by seats o h verdict more))
      by None none =
          seen-same (sees (delivered (h ∷ told_of seats more))) []
          (deliveries_shown id (delivered (h ∷ told_of seats more))) [] (delivered-unseen (h ∷ told_of seats more))
          (ap (λ (b : Bool).
          cons_option (cond b (Some h.delivery) None) (deliveries_shown id (delivered (told_of seats more))))
          (not-own id h.consumer number seats none is.has) ∙ rest) seen-none
      by (Some n) has =
          seen-same (sees (judged_by seats (Some n) h verdict more))
          (cons_option (cond (same_consumer h.consumer id) (Some (seen_of h.delivery verdict)) None) [])
          (deliveries_shown id (judged_by seats (Some n) h verdict more))
          (cons_option (cond (same_consumer h.consumer id) (Some h.delivery) None) [])
          (ap (λ (l : List Seen). cons_option (cond (nat_eq n number) (Some (seen_of h.delivery verdict)) None) l)
          (delivered-unseen (told_of seats more))
          ∙ ap (λ (b : Bool). cons_option (cond b (Some (seen_of h.delivery verdict)) None) [])
          (same-number h.consumer n seats is has))
          (ap (λ (l : List Delivery). cons_option (cond (same_consumer h.consumer id) (Some h.delivery) None) l) rest)
          (seen-one (same_consumer h.consumer id) h.delivery verdict)

  pub judged-unseen : (seats : List Seat) (verdict : Verdict) (waits : List Handed)
      → AllByRecursion (IsOther number id) seats → sees (judged seats verdict waits) ≡ []
  judged-unseen seats verdict [] other = refl
  judged-unseen seats verdict (h ∷ more) other = by (taker_of h.consumer seats) refl
    where
      by : (o : Option ℕ) → taker_of h.consumer seats ≡ o → sees (judged_by seats o h verdict more) ≡ []
      by None none = delivered-unseen (h ∷ told_of seats more)
      by (Some n) has =
          ap (λ (b : Bool).
          cons_option (cond b (Some (seen_of h.delivery verdict)) None) (sees (delivered (told_of seats more))))
          (never number id h.consumer n seats other has) ∙ delivered-unseen (told_of seats more)
