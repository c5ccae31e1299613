-- What is printed as an answer is a row of the audit, and what a step does is what an entry of it does.
use Rattle.std.proofs.Common.{◌≡◌, ℕ, List, [], ◌∷◌, Option, Some, None, take, drop, refl, sym, subst, take-append-drop}
use Rattle.std.specs.Prelude.{Contains}
use Rattle.std.specs.List.{AllByRecursion}
use Rattle.std.proofs.lemmas.Bool.{cond_both}
use Rattle.std.proofs.lemmas.List.Elements.{Contains-append_left, Contains-append_right}
use Rattle.qq_base.proofs.Lists.{AllByRecursion-append, AllByRecursion-filter, AllByRecursion-map, AllByRecursion-weaker}
use Rattle.qq_base.specs.Fronts.{IsFront}
use Rattle.qq_base.specs.declared.ids.Term.{Term}
use Rattle.qq_entry.specs.declared.audit.AuditRow.{AuditRow}
use Rattle.qq_entry.specs.declared.audit.Effect.{Effect}
use Rattle.qq_entry.specs.declared.command.Entry.{Entry}
use Rattle.qq_entry.specs.declared.queue.QueueArgs.{QueueArgs}
use Rattle.qq_model.specs.Audit.{audit_of, effects_of, state_after}
use Rattle.qq_model.specs.State.{State, empty_queue}
use Rattle.qq_raft_model.specs.Group.{Group}
use Rattle.qq_raft_model.specs.Promises.{IsUp}
use Rattle.qq_raft_model.specs.Server.{is_ready}
use Rattle.qq_raft_model.specs.State.{Server}
use Rattle.qq_session.specs.Printed.{IsAnswer, IsAudited}
use Rattle.qq_session.specs.Clients.{printed, may_hand}
use Rattle.qq_session.specs.declared.shown.Shown.TheVariants.{Answered, WindowFull}
use Rattle.qq_session.specs.Shown.{effects_of_term, said_of}
use Rattle.qq_taker.specs.Seats.{taker_of}
use Rattle.qq_taker.specs.declared.handed.Handed.{Handed}
use Rattle.qq_session.proofs.Audits.{audit-front}
use Rattle.qq_session.proofs.EffectsOfTerm.{effects-append, of-term}
use Rattle.qq_session.proofs.PrintedAnswers.{all-drop, each-contained, front-contains, later-audited, offered-audited, printed-are}
use Rattle.qq_cluster_model.specs.Queue.{Queue, Event, Mutes, Ends, Submits, TellsEnded, TellsNotTaken, Attaches, Judges, Resends, Fetches, Downs, Ticks, Delivers, Loses, Copies, Writes, Syncs, Notices, Stops, Finds, after, all_said, audit_rows, consumer_of, effects_at, effects_by, group_then, handed_out, happens, has_leader, is_shown, offered, rows_at, rows_by, rows_told, said, seats_after, stepping, told}
use Rattle.qq_cluster_model.specs.Taking.{answers, delivered, told_then}
use Rattle.qq_cluster_model.proofs.Handing.{all-answers, all-attached, all-delivered, all-judged}
use Rattle.qq_cluster_model.proofs.Groups.{KnowsCommits, KeepsCommits, Reached, audit-grows, known-in, reached-next}

-- ---- rows

-- what the members of a group know to be committed begins its entries
abbrev pub AreKnown : Group → Type 0
AreKnown g = (k : ℕ) (s : Server) → IsUp g k s → IsFront (take s.commit s.log) g.audit

rows-of : (args : QueueArgs) (audit : List Entry) (o p : Option Server)
    → ((t : Server) → p ≡ Some t → IsFront (take t.commit t.log) audit)
    → AllByRecursion (Contains (audit_of (empty_queue args) audit)) (rows_by args o p)
rows-of args audit None p known = tt
rows-of args audit (Some s) None known = tt
rows-of args audit (Some s) (Some t) known =
    let all : List AuditRow = audit_of (empty_queue args) audit in
    let own : List AuditRow = audit_of (empty_queue args) (take t.commit t.log) in
    AllByRecursion-filter (Contains all) (is_shown t) (drop s.commit own)
    (all-drop (Contains all) s.commit own
    (AllByRecursion-weaker (Contains own) (Contains all)
    (λ row is. front-contains own all row
    (audit-front (empty_queue args) (take t.commit t.log) audit (known t refl)) is) own (each-contained own)))

rows-at : (args : QueueArgs) (g h : Group) → AreKnown h → (o : Option ℕ)
    → AllByRecursion (Contains (audit_of (empty_queue args) h.audit)) (rows_at o args g h)
rows-at args g h known None = tt
rows-at args g h known (Some k) =
    rows-of args h.audit (g.seat k).server (h.seat k).server (λ t up. known k t up)

-- ---- effects

abbrev pub HasEffect : QueueArgs → List Entry → Effect → Type 0
HasEffect args entries effect = Contains (effects_of (empty_queue args) entries) effect

pub has-later : (args : QueueArgs) (a b : List Entry) (effect : Effect) → IsFront a b → HasEffect args a effect
    → HasEffect args b effect
has-later args a b effect front has =
    let s : State = empty_queue args in
    subst (λ (l : List Entry). HasEffect args l effect) (sym front.is)
    (subst (λ (l : List Effect). Contains l effect) (sym (effects-append s a front.rest))
    (Contains-append_left (effects_of s a) (effects_of (state_after s a) front.rest) effect has))

-- the effects of the entries behind the first ones
behind-has : (args : QueueArgs) (term : Term) (k : ℕ) (all : List Entry)
    → AllByRecursion (HasEffect args all)
    (effects_of_term term (state_after (empty_queue args) (take k all)) (drop k all))
behind-has args term k all =
    let s : State = empty_queue args in
    let first : List Entry = take k all in
    let rest : List Entry = drop k all in
    let later : State = state_after s first in
    AllByRecursion-weaker (Contains (effects_of later rest)) (HasEffect args all)
    (λ effect is. subst (λ (l : List Entry). HasEffect args l effect) (take-append-drop k all)
    (subst (λ (l : List Effect). Contains l effect) (sym (effects-append s first rest))
    (Contains-append_right (effects_of s first) (effects_of later rest) effect is)))
    (effects_of_term term later rest) (of-term term later rest)

effects-of : (args : QueueArgs) (audit : List Entry) (o p : Option Server)
    → ((t : Server) → p ≡ Some t → IsFront (take t.commit t.log) audit)
    → AllByRecursion (HasEffect args audit) (effects_by args o p)
effects-of args audit None p known = tt
effects-of args audit (Some s) None known = tt
effects-of args audit (Some s) (Some t) known =
    let all : List Entry = take t.commit t.log in
    cond_both (is_ready t)
    (effects_of_term t.term (state_after (empty_queue args) (take s.commit all)) (drop s.commit all)) []
    (AllByRecursion (HasEffect args audit))
    (λ _. AllByRecursion-weaker (HasEffect args all) (HasEffect args audit)
    (λ effect is. has-later args all audit effect (known t refl) is)
    (effects_of_term t.term (state_after (empty_queue args) (take s.commit all)) (drop s.commit all))
    (behind-has args t.term s.commit all)) (λ _. tt)

pub effects-at : (args : QueueArgs) (g h : Group) → AreKnown h → (o : Option ℕ)
    → AllByRecursion (HasEffect args h.audit) (effects_at o args g h)
effects-at args g h known None = tt
effects-at args g h known (Some k) =
    effects-of args h.audit (g.seat k).server (h.seat k).server (λ t up. known k t up)

-- ---- what is said

told-audited : (q : Queue) (event : Event) → AreKnown (group_then q event)
    → AllByRecursion (IsAudited (audit_rows (happens q event))) (told q event)
told-audited q event known' =
    let audit : List AuditRow = audit_rows (happens q event) in
    let rows : List AuditRow = printed (rows_told q event) q.clients in
    let out : List Handed = told_then q.untold (seats_after q event) (handed_out q event) in
    AllByRecursion-append (IsAudited audit) (answers q.seats rows) (delivered out)
    (all-answers (IsAudited audit) (λ session number. tt) q.seats rows
    (AllByRecursion-map (IsAnswer audit) (IsAudited audit) Answered rows (λ row is. is)
    (printed-are audit (rows_told q event) q.clients
    (rows-at q.args q.group (group_then q event) known' (stepping q event)))))
    (all-delivered (IsAudited audit) (λ id d. tt) out)

said-audited : (q : Queue) (event : Event) → AreKnown (group_then q event)
    → AllByRecursion (IsAudited (audit_rows (happens q event))) (said q event)
said-audited q (Submits session body) known' =
    let event : Event = Submits session body in
    let audit : List AuditRow = audit_rows (happens q event) in
    cond_both (may_hand (q.clients session).numbers) (said_of (has_leader q) session (offered q.clients event))
    (WindowFull session ∷ []) (AllByRecursion (IsAudited audit))
    (λ _. offered-audited audit (has_leader q) session (offered q.clients event)) (λ _. (tt, tt))
said-audited q (Resends session) known' =
    offered-audited (audit_rows (happens q (Resends session))) (has_leader q) session
    (offered q.clients (Resends session))
said-audited q (Downs session) known' =
    offered-audited (audit_rows (happens q (Downs session))) (has_leader q) session (offered q.clients (Downs session))
said-audited q (TellsEnded session) known' = (tt, tt)
said-audited q (TellsNotTaken session id) known' = (tt, tt)
said-audited q (Attaches session tag number) known' =
    all-attached (IsAudited (audit_rows (happens q (Attaches session tag number)))) (λ own n. tt) (λ own n. tt) session
    number (taker_of (consumer_of session tag) q.seats)
said-audited q (Judges verdict) known' =
    all-judged (IsAudited (audit_rows (happens q (Judges verdict)))) (λ id d. tt) (λ n id d v. tt) q.seats verdict
    q.untold
said-audited q (Mutes session muted) known' = told-audited q (Mutes session muted) known'
said-audited q (Ends session) known' = told-audited q (Ends session) known'
said-audited q (Fetches session) known' = told-audited q (Fetches session) known'
said-audited q (Ticks k) known' = told-audited q (Ticks k) known'
said-audited q (Delivers at) known' = told-audited q (Delivers at) known'
said-audited q (Loses at) known' = told-audited q (Loses at) known'
said-audited q (Copies at) known' = told-audited q (Copies at) known'
said-audited q (Writes k) known' = told-audited q (Writes k) known'
said-audited q (Syncs k) known' = told-audited q (Syncs k) known'
said-audited q (Notices k) known' = told-audited q (Notices k) known'
said-audited q (Stops k) known' = told-audited q (Stops k) known'
said-audited q (Finds k op) known' = told-audited q (Finds k op) known'

-- ---- later

pub all-audited : KnowsCommits → KeepsCommits → (q : Queue) (events : List Event) → Reached q
    → AllByRecursion (IsAudited (audit_rows (after q events))) (all_said q events)
all-audited knows keeps q [] r = tt
all-audited knows keeps q (event ∷ events) r =
    let next : Queue = happens q event in
    let final : Queue = after next events in
    let r' : Reached next = reached-next q event r in
    AllByRecursion-append (IsAudited (audit_rows final)) (said q event) (all_said next events)
    (AllByRecursion-weaker (IsAudited (audit_rows next)) (IsAudited (audit_rows final))
    (later-audited (audit_rows next) (audit_rows final) (audit-grows keeps next events r'))
    (said q event) (said-audited q event (known-in knows next r')))
    (all-audited knows keeps next events r')
