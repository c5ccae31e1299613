-- What is told of what a queue shows.
use Rattle.std.proofs.Common.{◌≡◌, ℕ, zero, suc, Bool, true, false, List, [], ◌∷◌, ◌++◌, Option, Some, None, map, refl, sym, ap, ◌∙◌, append_assoc, append-nil}
use Rattle.std.specs.Prelude.{slice_get}
use Rattle.std.specs.List.{AllByRecursion, flat_map, slice_set}
use Rattle.std.specs.Option.{option_map_or}
use Rattle.std.proofs.lemmas.Bool.{cond_both}
use Rattle.qq_base.proofs.Lists.{AllByRecursion-append}
use Rattle.qq_entry.specs.declared.answer.Delivery.{Delivery}
use Rattle.qq_entry.specs.declared.audit.AuditRow.{AuditRow}
use Rattle.qq_entry.specs.declared.command.Command.{Command}
use Rattle.qq_session.specs.Clients.{may_hand, printed}
use Rattle.qq_session.specs.Shown.{said_of}
use Rattle.qq_session.specs.declared.shown.Shown.{Shown}
use Rattle.qq_session.specs.declared.shown.Shown.TheVariants.{Answered, Delivered, NoLeader, WindowFull, HasEnded, NotTaken, Attached, IsBusy, Taken, Dropped}
use Rattle.qq_taker.specs.Seats.{leaving, taker_of}
use Rattle.qq_taker.specs.Takers.{Held, Free, Given, Gone, Takers, change_held, is_given, is_given_by, judge, look}
use Rattle.qq_taker.specs.declared.handed.Handed.{Handed}
use Rattle.qq_taker.specs.declared.seats.Leaving.{Leaving}
use Rattle.qq_taker.specs.declared.seats.Seat.{Seat}
use Rattle.qq_taker.specs.declared.taker.Verdict.{Verdict}
use Rattle.qq_script.specs.Shown.{shown_text}
use Rattle.qq_cluster_model.specs.Outcome.{Outcome, hear_some, heard_by, sees_all, turns}
use Rattle.qq_cluster_model.specs.Queue.{Queue, Event, Submits, Judges, Resends, Downs, attached, consumer_of, happens, has_leader, handed_out, offered, rows_told, said, seats_after, told}
use Rattle.qq_cluster_model.specs.Taking.{answers, delivered, dropped_by, judged, judged_by, leaving_at, seated_by, told_of, told_then}
use Rattle.qq_queue.specs.ClusterQueue.{Stands as IsQueue}
use Rattle.qq_queue.specs.Events.{event_of}
use Rattle.qq_queue.specs.Judging.{claim_first}
use Rattle.qq_queue.specs.Sessions.{Standings}
use Rattle.qq_queue.specs.declared.claim.Claim.{Claim}
use Rattle.qq_queue.specs.declared.cluster_queue.ClusterQueue.{ClusterQueue}
use Rattle.qq_queue.specs.declared.event.QueueEvent.{QueueEvent}
use Rattle.qq_queue.specs.declared.event.QueueEvent.TheVariants.{Submit, TellEnded, TellNotTaken, Attach, Judge, Resend, Fetch, Down, Tick, Notice, Deliver, Lose, Copy}
use Rattle.qq_cluster.specs.Happening.{IsUnasked}
use Rattle.qq_cluster.specs.Judging.{HasJudged, IsAsked, asked_by}
use Rattle.qq_cluster.specs.Telling.{Does, tell, tell_all, turns_then}

-- ---- the text

pub tell_all-text : (first : Bool) (place : ℕ) (name : List ℕ) (shown : List Shown) (o : Outcome)
    → (tell_all first place name shown o).text ≡ o.text ++ flat_map (shown_text first name) shown
tell_all-text first place name [] o = sym (append-nil o.text)
tell_all-text first place name (x ∷ more) o =
    tell_all-text first place name more (tell first place name x o)
    ∙ append_assoc o.text (shown_text first name x) (flat_map (shown_text first name) more)

-- ---- the takers

-- it isn't the verdict of a taker
abbrev pub IsUntaken : Shown → Type 0
IsUntaken (Taken number consumer delivery verdict) = ⊥
IsUntaken shown = Unit {0}

turns-same : (shown : Shown) (all : Takers) → IsUntaken shown → turns_then shown all ≡ turns shown all
turns-same (Answered row) all untaken = refl
turns-same (Delivered consumer delivery) all untaken = refl
turns-same (NoLeader session) all untaken = refl
turns-same (WindowFull session) all untaken = refl
turns-same (HasEnded session) all untaken = refl
turns-same (NotTaken session id) all untaken = refl
turns-same (Attached session number) all untaken = refl
turns-same (IsBusy session number) all untaken = refl
turns-same (Taken number consumer delivery verdict) all untaken = absurd untaken
turns-same (Dropped session number) all untaken = refl

pub tell_all-takers : (first : Bool) (place : ℕ) (name : List ℕ) (shown : List Shown) (o : Outcome)
    → AllByRecursion IsUntaken shown → (tell_all first place name shown o).takers ≡ sees_all place shown o.takers
tell_all-takers first place name [] o untaken = refl
tell_all-takers first place name (x ∷ more) o untaken =
    tell_all-takers first place name more (tell first place name x o) untaken.1
    ∙ ap (λ (all : Takers). sees_all place more (hear_some (heard_by place x) all)) (turns-same x o.takers untaken.0)

-- ---- what shows no verdict

pub delivered-untaken : (all : List Handed) → AllByRecursion IsUntaken (delivered all)
delivered-untaken [] = tt
delivered-untaken (h ∷ more) = (tt, delivered-untaken more)

dropped-untaken : (all : List Seat)
    → AllByRecursion IsUntaken (map (λ (seat : Seat). Dropped seat.consumer.session.number seat.number) all)
dropped-untaken [] = tt
dropped-untaken (seat ∷ more) = (tt, dropped-untaken more)

leaving-untaken : (o : Option Leaving) (seats : List Seat) → AllByRecursion IsUntaken (dropped_by o seats)
leaving-untaken None seats = tt
leaving-untaken (Some whom) seats = dropped-untaken (leaving whom seats)

answers-untaken : (seats : List Seat) (rows : List AuditRow) → AllByRecursion IsUntaken (answers seats rows)
answers-untaken seats [] = tt
answers-untaken seats (row ∷ rows) = (
  tt,
  AllByRecursion-append IsUntaken (dropped_by (leaving_at row) seats)
      (answers (seated_by (leaving_at row) seats) rows) (leaving-untaken (leaving_at row) seats)
      (answers-untaken (seated_by (leaving_at row) seats) rows),
)

told-untaken : (q : Queue) (event : Event) → AllByRecursion IsUntaken (told q event)
told-untaken q event =
    AllByRecursion-append IsUntaken (answers q.seats (printed (rows_told q event) q.clients))
    (delivered (told_then q.untold (seats_after q event) (handed_out q event)))
    (answers-untaken q.seats (printed (rows_told q event) q.clients))
    (delivered-untaken (told_then q.untold (seats_after q event) (handed_out q event)))

refused-untaken : (session : ℕ) (commands : List Command)
    → AllByRecursion IsUntaken (map (λ (c : Command). NoLeader session) commands)
refused-untaken session [] = tt
refused-untaken session (command ∷ more) = (tt, refused-untaken session more)

said_of-untaken : (ready : Bool) (session : ℕ) (commands : List Command)
    → AllByRecursion IsUntaken (said_of ready session commands)
said_of-untaken true session commands = tt
said_of-untaken false session commands = refused-untaken session commands

attached-untaken : (session number : ℕ) (o : Option ℕ) → AllByRecursion IsUntaken (attached session number o)
attached-untaken session number None = (tt, tt)
attached-untaken session number (Some other) = (tt, tt)

pub said-untaken : (q : Queue) (event : QueueEvent) → IsUnasked event
    → AllByRecursion IsUntaken (said q (event_of event))
said-untaken q (Submit session body) may =
    cond_both (may_hand (q.clients session).numbers)
    (said_of (has_leader q) session (offered q.clients (Submits session body))) (WindowFull session ∷ [])
    (AllByRecursion IsUntaken)
    (λ _. said_of-untaken (has_leader q) session (offered q.clients (Submits session body))) (λ _. (tt, tt))
said-untaken q (TellEnded session) may = (tt, tt)
said-untaken q (TellNotTaken session id) may = (tt, tt)
said-untaken q (Attach session tag number) may =
    attached-untaken session number (taker_of (consumer_of session tag) q.seats)
said-untaken q (Judge verdict) may = absurd may
said-untaken q (Resend session) may =
    said_of-untaken (has_leader q) session (offered q.clients (Resends session))
said-untaken q (Fetch session) may = told-untaken q (event_of (Fetch session))
said-untaken q (Down session) may = said_of-untaken (has_leader q) session (offered q.clients (Downs session))
said-untaken q (Tick node) may = told-untaken q (event_of (Tick node))
said-untaken q (Notice node) may = told-untaken q (event_of (Notice node))
said-untaken q (Deliver place) may = told-untaken q (event_of (Deliver place))
said-untaken q (Lose place) may = told-untaken q (event_of (Lose place))
said-untaken q (Copy place) may = told-untaken q (event_of (Copy place))

-- ---- verdicts

-- one that isn't there, or that no consumer was given, stays as it is whatever its verdict would be
unlooked : (delivery : Delivery) (verdict : Verdict) (at : ℕ) (held : List Held)
    → option_map_or is_given_by (slice_get held at) false ≡ false
    → change_held (suc at) (look delivery verdict) held ≡ held
unlooked delivery verdict at [] free = refl
unlooked delivery verdict zero (Free seen ∷ held) free = refl
unlooked delivery verdict zero (Given seen ∷ held) free = absurd (let wrong : true ≡ false = free in cc)
unlooked delivery verdict zero (Gone ∷ held) free = refl
unlooked delivery verdict (suc at) (one ∷ held) free =
    by (slice_get held at) ∙ ap (λ (more : List Held). one ∷ more) (unlooked delivery verdict at held free)
  where
    by : (o : Option Held)
        → option_map_or (λ (h : Held). one ∷ slice_set held at (look delivery verdict h)) o (one ∷ held)
        ≡ one ∷ option_map_or (λ (h : Held). slice_set held at (look delivery verdict h)) o held
    by None = refl
    by (Some h) = refl

pub unasked-stays : (number : ℕ) (delivery : Delivery) (verdict : Verdict) (all : Takers) → is_given number all ≡ false
    → judge number delivery verdict all ≡ all
unasked-stays zero delivery verdict all free = refl
unasked-stays (suc at) delivery verdict all free =
    ap (λ (held : List Held). let a : Takers = record { held = held; heard = all.heard } in a)
    (unlooked delivery verdict at all.held free)

-- the taker was asked before its verdict is told
pub judged-takers : (first : Bool) (place : ℕ) (name : List ℕ) (seats : List Seat) (verdict : Verdict) (h : Handed)
    (more : List Handed) (o : Outcome)
    → (tell_all first place name (judged seats verdict (h ∷ more))
    (record o { takers = asked_by (taker_of h.consumer seats) h.delivery verdict o.takers })).takers
    ≡ sees_all place (judged seats verdict (h ∷ more)) o.takers
judged-takers first place name seats verdict h more o = by (taker_of h.consumer seats)
  where
    by : (number : Option ℕ)
        → (tell_all first place name (judged_by seats number h verdict more)
        (record o { takers = asked_by number h.delivery verdict o.takers })).takers
        ≡ sees_all place (judged_by seats number h verdict more) o.takers
    by None =
        tell_all-takers first place name (delivered (h ∷ told_of seats more)) (record o { takers = o.takers })
        (delivered-untaken (h ∷ told_of seats more))
    by (Some number) =
        let asked : Outcome = record o { takers = judge number h.delivery verdict o.takers } in
        tell_all-takers first place name (delivered (told_of seats more))
        (tell first place name (Taken number h.consumer h.delivery verdict) asked)
        (delivered-untaken (told_of seats more))

-- ---- what a call does

-- an event has happened to a queue, and what it shows was told
pub told-does : (first : Bool) (event : QueueEvent) (sessions : Standings) (old new : ClusterQueue) (place : ℕ)
    (name : List ℕ) (shown list : List Shown) (before after : Outcome) → IsUnasked event
    → ((q : Queue) → IsQueue sessions old q
    → IsQueue sessions new (happens q (event_of event)) × (shown ≡ said q (event_of event)))
    → list ≡ shown → place ≡ old.args.queue.0 → name ≡ old.name → after ≡ tell_all first place name list before
    → Does first (event_of event) sessions old new before after
told-does first event sessions old new place name shown list before after may does listed placed named told' q st =
    let both = does q st in
    let is : list ≡ said q (event_of event) = listed ∙ both.1 in (
      both.0,
      record {
        text = ap (λ (o : Outcome). o.text) told' ∙ tell_all-text first place name list before
            ∙ ap (λ (l : List Shown). before.text ++ flat_map (shown_text first name) l) is
            ∙ ap (λ (n : List ℕ). before.text ++ flat_map (shown_text first n) (said q (event_of event))) named;
        takers = ap (λ (o : Outcome). o.takers) told'
            ∙ ap (λ (l : List Shown). (tell_all first place name l before).takers) is
            ∙ tell_all-takers first place name (said q (event_of event)) before (said-untaken q event may)
            ∙ ap (λ (k : ℕ). sees_all k (said q (event_of event)) before.takers) placed;
      },
    )

-- the taker of the first delivery that waits has given a verdict on it, and that was told
judged-shows : (first : Bool) (sessions : Standings) (old new : ClusterQueue) (h : Handed) (more : List Handed)
    (verdict : Verdict) (place : ℕ) (name : List ℕ) (shown list : List Shown) (before after : Outcome)
    → old.untold ≡ h ∷ more
    → ((q : Queue) → IsQueue sessions old q
    → IsQueue sessions new (happens q (Judges verdict)) × (shown ≡ said q (Judges verdict)))
    → list ≡ shown → place ≡ old.args.queue.0 → name ≡ old.name
    → after ≡ tell_all first place name list
    (record before { takers = asked_by (taker_of h.consumer old.seats) h.delivery verdict before.takers })
    → Does first (Judges verdict) sessions old new before after
judged-shows first sessions old new h more verdict place name shown list before after waits does listed placed named
    told' q st =
    let both = does q st in
    let asked : Outcome =
    record before { takers = asked_by (taker_of h.consumer old.seats) h.delivery verdict before.takers } in
    let own : said q (Judges verdict) ≡ judged old.seats verdict (h ∷ more) =
    ap (judged q.seats verdict) (st.untold ∙ waits)
    ∙ ap (λ (l : List Seat). judged l verdict (h ∷ more)) st.seats in
    let is : list ≡ judged old.seats verdict (h ∷ more) = listed ∙ both.1 ∙ own in (
      both.0,
      record {
        text = ap (λ (o : Outcome). o.text) told' ∙ tell_all-text first place name list asked
            ∙ ap (λ (l : List Shown). before.text ++ flat_map (shown_text first name) l) (listed ∙ both.1)
            ∙ ap (λ (n : List ℕ). before.text ++ flat_map (shown_text first n) (said q (Judges verdict))) named;
        takers = ap (λ (o : Outcome). o.takers) told'
            ∙ ap (λ (l : List Shown). (tell_all first place name l asked).takers) is
            ∙ judged-takers first place name old.seats verdict h more before
            ∙ ap (λ (l : List Shown). sees_all place l before.takers) (sym own)
            ∙ ap (λ (k : ℕ). sees_all k (said q (Judges verdict)) before.takers) placed;
      },
    )

-- of whatever waits first
pub has-judged : (first : Bool) (sessions : Standings) (old new : ClusterQueue) (untold : List Handed)
    (verdict : Verdict) (claim : Option Claim) (place : ℕ) (name : List ℕ) (shown list : List Shown)
    (before mid after : Outcome) → old.untold ≡ untold → IsAsked old.seats untold (Some verdict) before mid
    → claim ≡ claim_first verdict untold
    → ((q : Queue) → IsQueue sessions old q
    → IsQueue sessions new (happens q (Judges verdict)) × (shown ≡ said q (Judges verdict)))
    → list ≡ shown → place ≡ old.args.queue.0 → name ≡ old.name → after ≡ tell_all first place name list mid
    → HasJudged first sessions untold old new before after claim
has-judged first sessions old new [] verdict claim place name shown list before mid after waits asked claimed does
    listed placed named told' =
    absurd (let n : ◌≡◌ {A = Option Verdict} (Some verdict) None = asked.0 in cc)
has-judged first sessions old new (h ∷ more) verdict claim place name shown list before mid after waits asked claimed
    does listed placed named told' =
    let same : asked.0 ≡ verdict =
    (let e : ◌≡◌ {A = Option Verdict} (Some verdict) (Some asked.0) = asked.1.0 in cc) in
    record {
      verdict = verdict;
      does =
          judged-shows first sessions old new h more verdict place name shown list before after waits does listed placed
          named
          (told' ∙ ap (tell_all first place name list) (asked.1.1
          ∙ ap (λ (v : Verdict). let o : Outcome = record before {
            takers = asked_by (taker_of h.consumer old.seats) h.delivery v before.takers;
          } in o) same));
      claim_is = claimed;
    }

-- nothing waited
pub judged-none : (first : Bool) (sessions : Standings) (old : ClusterQueue) (untold : List Handed)
    (answer : Option Verdict) (before after : Outcome) → answer ≡ None → IsAsked old.seats untold answer before after
    → HasJudged first sessions untold old old before after None
judged-none first sessions old [] answer before after none' asked = (refl, asked.1, refl)
judged-none first sessions old (h ∷ more) answer before after none' asked =
    absurd (let e : ◌≡◌ {A = Option Verdict} None (Some asked.0) = sym none' ∙ asked.1.0 in cc)
