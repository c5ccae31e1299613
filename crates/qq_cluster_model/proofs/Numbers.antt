-- A session's numbers are what it has made of them, and it stays ended.
use Rattle.std.proofs.Common.{◌≡◌, ◌≢◌, ◌⊎◌, ℕ, Bool, true, false, cond, List, [], ◌∷◌, refl, sym, ap, ◌∙◌, subst, inl, inr}
use Rattle.std.specs.Prelude.{nat_eq}
use Rattle.std.proofs.lemmas.Bool.{eq-eqb, ne_eqb, cases_eq, cond_both}
use Rattle.qq_base.proofs.Puts.{put-each}
use Rattle.qq_base.specs.Fronts.{put}
use Rattle.qq_base.specs.Ids.{client}
use Rattle.qq_entry.specs.declared.command.Unstamped.{Unstamped}
use Rattle.qq_entry.specs.declared.queue.QueueArgs.{QueueArgs}
use Rattle.qq_raft_model.specs.Group.{Group}
use Rattle.qq_session.specs.Arriving.{Deed, Hands}
use Rattle.qq_session.specs.Publishing.{Numbers, new_numbers, hand}
use Rattle.qq_session.specs.Deeds.{after_deeds, takes_of}
use Rattle.qq_session.specs.Clients.{Client, Clients, may_hand}
use Rattle.qq_session.proofs.Heard.{deeds-append, heard-numbers}
use Rattle.qq_session.proofs.Ended.{all-ended}
use Rattle.qq_cluster_model.specs.Laws.{StaysEnded, deeds, deeds_at, hands_at, queue_after}
use Rattle.qq_cluster_model.specs.Queue.{Queue, Event, Mutes, Ends, Submits, TellsEnded, TellsNotTaken, Attaches, Judges, Resends, Fetches, Downs, Ticks, Delivers, Loses, Copies, Writes, Syncs, Notices, Stops, Finds, acts, after, happens, begin, rows_told}

-- ---- what a client does by itself

abbrev handed_at : ℕ → ℕ → Unstamped → Numbers → Numbers
handed_at own session body n = after_deeds (cond (nat_eq own session) (Hands body ∷ []) []) n

hand-numbers : (own session : ℕ) (body : Unstamped) (clients : Clients)
    → (acts (Submits own body) clients session).numbers ≡ handed_at own session body (clients session).numbers
hand-numbers own session body clients = by (may_hand (clients own).numbers) refl
  where
    kept : (i : ℕ) → (i ≡ own → ⊥) → (clients i).numbers ≡ handed_at own i body (clients i).numbers
    kept i other =
        ap (λ (b : Bool). after_deeds (cond b (Hands body ∷ []) []) (clients i).numbers)
        (sym (ne_eqb own i (λ same. other (sym same))))

    same : (b : Bool) → may_hand (clients own).numbers ≡ b
        → cond b (hand body (clients own).numbers) (clients own).numbers
        ≡ handed_at own own body (clients own).numbers
    same b is =
        ap (λ (c : Bool). cond c (hand body (clients own).numbers) (clients own).numbers) (sym is)
        ∙ ap (λ (c : Bool). after_deeds (cond c (Hands body ∷ []) []) (clients own).numbers)
        (sym (eq-eqb own own refl))

    whole : (i : ℕ) → may_hand (clients own).numbers ≡ false
        → (clients i).numbers ≡ handed_at own i body (clients i).numbers
    whole i is = at (cases_eq i own)
      where
        at : ((i ≡ own) ⊎ (i ≢ own)) → (clients i).numbers ≡ handed_at own i body (clients i).numbers
        at (inl e) =
            subst (λ (j : ℕ). (clients j).numbers ≡ handed_at own j body (clients j).numbers) (sym e)
            (same false is)
        at (inr other) = kept i other

    by : (b : Bool) → may_hand (clients own).numbers ≡ b
        → (cond b (put own (record (clients own) { numbers = hand body (clients own).numbers }) clients) clients
        session).numbers ≡ handed_at own session body (clients session).numbers
    by true is =
        put-each (λ (i : ℕ) (c : Client). c.numbers ≡ handed_at own i body (clients i).numbers) own
        (record (clients own) { numbers = hand body (clients own).numbers }) clients (same true is) kept session
    by false is = whole session is

acts-numbers : (session : ℕ) (event : Event) (clients : Clients)
    → (acts event clients session).numbers ≡ after_deeds (hands_at session event) (clients session).numbers
acts-numbers session (Mutes own muted) clients =
    put-each (λ (i : ℕ) (c : Client). c.numbers ≡ (clients i).numbers) own
    (record (clients own) { muted = muted }) clients refl (λ i other. refl) session
acts-numbers session (Ends own) clients =
    put-each (λ (i : ℕ) (c : Client). c.numbers ≡ (clients i).numbers) own
    (record (clients own) { ended = true }) clients refl (λ i other. refl) session
acts-numbers session (Submits own body) clients = hand-numbers own session body clients
acts-numbers session (TellsEnded own) clients = refl
acts-numbers session (TellsNotTaken own id) clients = refl
acts-numbers session (Attaches own tag number) clients = refl
acts-numbers session (Judges verdict) clients = refl
acts-numbers session (Fetches own) clients = refl
acts-numbers session (Resends own) clients = refl
acts-numbers session (Downs own) clients = refl
acts-numbers session (Ticks k) clients = refl
acts-numbers session (Delivers at) clients = refl
acts-numbers session (Loses at) clients = refl
acts-numbers session (Copies at) clients = refl
acts-numbers session (Writes k) clients = refl
acts-numbers session (Syncs k) clients = refl
acts-numbers session (Notices k) clients = refl
acts-numbers session (Stops k) clients = refl
acts-numbers session (Finds k op) clients = refl

-- ---- events

pub event-numbers : (session : ℕ) (q : Queue) (event : Event)
    → ((happens q event).clients session).numbers
    ≡ after_deeds (deeds_at session q event) (q.clients session).numbers
event-numbers session q event =
    let clients : Clients = acts event q.clients in
    let takes : List Deed = takes_of session clients (rows_told q event) in
    heard-numbers (rows_told q event) clients session
    ∙ ap (after_deeds takes) (acts-numbers session event q.clients)
    ∙ sym (deeds-append (hands_at session event) takes (q.clients session).numbers)

deeds-numbers : (session : ℕ) (q : Queue) (events : List Event)
    → ((after q events).clients session).numbers ≡ after_deeds (deeds session q events) (q.clients session).numbers
deeds-numbers session q [] = refl
deeds-numbers session q (event ∷ events) =
    deeds-numbers session (happens q event) events
    ∙ ap (after_deeds (deeds session (happens q event) events)) (event-numbers session q event)
    ∙ sym (deeds-append (deeds_at session q event) (deeds session (happens q event) events)
    (q.clients session).numbers)

-- a session's numbers are what it has made of them
pub counts-deeds : (args : QueueArgs) (group : Group) (session : ℕ) (events : List Event)
    → ((queue_after args group events).clients session).numbers
    ≡ after_deeds (deeds session (begin args group) events) (new_numbers (client session) args.queue)
counts-deeds args group session events = deeds-numbers session (begin args group) events

-- ---- sessions that have ended

still-ended : (session : ℕ) (event : Event) (clients : Clients) → (clients session).ended ≡ true
    → (acts event clients session).ended ≡ true
still-ended session (Mutes own muted) clients is =
    put-each (λ (i : ℕ) (c : Client). (clients i).ended ≡ true → c.ended ≡ true) own
    (record (clients own) { muted = muted }) clients (λ e. e) (λ i other e. e) session is
still-ended session (Ends own) clients is =
    put-each (λ (i : ℕ) (c : Client). (clients i).ended ≡ true → c.ended ≡ true) own
    (record (clients own) { ended = true }) clients (λ e. refl) (λ i other e. e) session is
still-ended session (Submits own body) clients is =
    let n : Numbers = (clients own).numbers in
    cond_both (may_hand n) (put own (record (clients own) { numbers = hand body n }) clients) clients
    (λ (c : Clients). (c session).ended ≡ true)
    (λ _. put-each (λ (i : ℕ) (c : Client). (clients i).ended ≡ true → c.ended ≡ true) own
    (record (clients own) { numbers = hand body n }) clients (λ e. e) (λ i other e. e) session is) (λ _. is)
still-ended session (TellsEnded own) clients is = is
still-ended session (TellsNotTaken own id) clients is = is
still-ended session (Attaches own tag number) clients is = is
still-ended session (Judges verdict) clients is = is
still-ended session (Fetches own) clients is = is
still-ended session (Resends own) clients is = is
still-ended session (Downs own) clients is = is
still-ended session (Ticks k) clients is = is
still-ended session (Delivers at) clients is = is
still-ended session (Loses at) clients is = is
still-ended session (Copies at) clients is = is
still-ended session (Writes k) clients is = is
still-ended session (Syncs k) clients is = is
still-ended session (Notices k) clients is = is
still-ended session (Stops k) clients is = is
still-ended session (Finds k op) clients is = is

pub stays-ended : (session : ℕ) (q : Queue) → StaysEnded session q
stays-ended session q = record {
  ends = put-each (λ (i : ℕ) (c : Client). i ≡ session → c.ended ≡ true) session
      (record (q.clients session) { ended = true }) q.clients (λ e. refl) (λ i other e. absurd (other e)) session refl;
  stays = λ event is.
      all-ended session (rows_told q event) (acts event q.clients) (still-ended session event q.clients is);
}
