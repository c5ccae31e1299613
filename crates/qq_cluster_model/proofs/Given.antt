-- Each command of a session that reaches the group was given a number by that session.
use Rattle.std.proofs.Common.{◌≡◌, ◌⊎◌, ℕ, zero, suc, Bool, true, cond, List, [], ◌∷◌, ◌++◌, Option, Some, None, length, take, ◌+◌, ◌≤◌, refl, sym, ap, ◌∙◌, subst, inl, inr, arith, append_assoc, length-append}
use Rattle.std.specs.Prelude.{Contains, filter_map, replicate}
use Rattle.std.specs.List.{AllByRecursion}
use Rattle.std.specs.Map.{values_of}
use lib.Seq.{take-nil}
use Rattle.std.proofs.lemmas.Bool.{cond_both, eq-eqb}
use Rattle.std.proofs.lemmas.List.Elements.{Contains-append_left, All-from_recursion}
use Rattle.qq_base.specs.Fronts.{IsFront}
use Rattle.qq_base.proofs.Fronts.{front-cons, front-length, front-trans}
use Rattle.qq_base.proofs.Lists.{AllByRecursion-append, AllByRecursion-weaker}
use Rattle.qq_base.specs.Ids.{client}
use Rattle.qq_base.specs.declared.ids.NodeId.{NodeId}
use Rattle.qq_base.specs.declared.ids.QueueId.{QueueId}
use Rattle.qq_base.specs.declared.ids.SessionId.{SessionId}
use Rattle.qq_entry.specs.Command.{stamp}
use Rattle.qq_entry.specs.declared.command.Command.{Command}
use Rattle.qq_entry.specs.declared.command.Command.TheVariants as commands
use Rattle.qq_entry.specs.declared.command.Entry.{Entry}
use Rattle.qq_entry.specs.declared.command.Stamp.{Stamp}
use Rattle.qq_entry.specs.declared.command.Unstamped.{Unstamped}
use Rattle.qq_entry.specs.declared.queue.QueueArgs.{QueueArgs}
use Rattle.qq_log.specs.Stable.{Stable, known_entries, new_state, stable}
use Rattle.qq_log.specs.declared.op.Op.{Op}
use Rattle.qq_model.specs.Audit.{audit_of}
use Rattle.qq_model.specs.State.{empty_queue}
use Rattle.qq_raft_model.specs.Group.{Event as Move, Group, group_after, new_group}
use Rattle.qq_raft_model.specs.Group.Event.{Tick, Submit, Add, Flush, Deliver, Lose, Copy, Take, Notice, Crash, Restart}
use Rattle.qq_raft_model.specs.Promises.{AreDistinct, IsOpened, IsSubmitted, WasLeft, whole_audit}
use Rattle.qq_raft_model.specs.Refines.{IsNoop}
use Rattle.qq_raft_protocol.specs.World.{Lane}
use Rattle.qq_session.specs.Arriving.{ArriveInOrder, Deed, Hands, WasHanded, fresh_command, handed}
use Rattle.qq_session.specs.Publishing.{Numbers, OpenCommand, next_command}
use Rattle.qq_session.proofs.AuditRows.{Contains-middle}
use Rattle.qq_session.specs.Deeds.{after_deeds, takes_of}
use Rattle.qq_session.specs.Clients.{is_used, may_hand}
use Rattle.qq_session.proofs.Heard.{deeds-append}
use Rattle.qq_session.proofs.OpenCommands.{AreOpen, IsOfSession, client-same, deeds-open, deeds-session, first_numbers, handed-append, next-own}
use Rattle.qq_cluster_model.specs.Laws.{IsBegun, all_moves, commands_of, deeds, deeds_at, queue_after}
use Rattle.qq_cluster_model.specs.Queue.{Queue, Event, Mutes, Ends, Submits, TellsEnded, TellsNotTaken, Attaches, Judges, Resends, Fetches, Downs, Ticks, Delivers, Loses, Copies, Writes, Syncs, Notices, Stops, Finds, acts, audit_rows, begin, happens, leader, moves, offered, rows_told, submits, waiting}
use Rattle.qq_cluster_model.proofs.Groups.{args-are, group-is}
use Rattle.qq_cluster_model.proofs.Numbers.{event-numbers}

-- a command of a session is among these
abbrev Was : ℕ → List Command → Command → Type 0
Was i those command =
    (given : Stamp) → stamp command ≡ Some given → given.session ≡ client i → Contains those command

was-more : (i : ℕ) (those more : List Command) (command : Command) → Was i those command → Was i (those ++ more) command
was-more i those more command was given is session =
    Contains-append_left those more command (was given is session)

-- ---- moves

-- what a move brings to a server
abbrev Brings : (Command → Type 0) → Move → Type 0
Brings P (Submit k time command) = P command
Brings P (Add k time command) = ⊥
Brings P _ = Unit {0}

submits-bring : (P : Command → Type 0) (o : Option ℕ) (given : List Command) → AllByRecursion P given
    → AllByRecursion (Brings P) (submits o given)
submits-bring P o [] each = tt
submits-bring P None (command ∷ given) each = submits-bring P None given each.1
submits-bring P (Some k) (command ∷ given) each = (each.0, submits-bring P (Some k) given each.1)

takes-bring : (P : Command → Type 0) (k count : ℕ) → AllByRecursion (Brings P) (replicate count (Take k))
takes-bring P k zero = tt
takes-bring P k (suc count) = (tt, takes-bring P k count)

moves-bring : (P : Command → Type 0) (q : Queue) (event : Event) → AllByRecursion P (offered q.clients event)
    → AllByRecursion (Brings P) (moves q event)
moves-bring P q (Mutes session muted) each = submits-bring P (leader q.group) [] tt
moves-bring P q (Ends session) each = submits-bring P (leader q.group) [] tt
moves-bring P q (TellsEnded session) each = submits-bring P (leader q.group) [] tt
moves-bring P q (TellsNotTaken session id) each = submits-bring P (leader q.group) [] tt
moves-bring P q (Attaches session tag number) each = submits-bring P (leader q.group) [] tt
moves-bring P q (Judges verdict) each = submits-bring P (leader q.group) [] tt
moves-bring P q (Fetches session) each = submits-bring P (leader q.group) [] tt
moves-bring P q (Submits session body) each =
    submits-bring P (leader q.group) (offered q.clients (Submits session body)) each
moves-bring P q (Resends session) each =
    submits-bring P (leader q.group) (offered q.clients (Resends session)) each
moves-bring P q (Downs session) each = submits-bring P (leader q.group) (offered q.clients (Downs session)) each
moves-bring P q (Ticks k) each = (tt, tt)
moves-bring P q (Delivers at) each = (tt, tt)
moves-bring P q (Loses at) each = (tt, tt)
moves-bring P q (Copies at) each = (tt, tt)
moves-bring P q (Writes k) each = takes-bring P k (waiting k q.group)
moves-bring P q (Syncs k) each = tt
moves-bring P q (Notices k) each = (tt, tt)
moves-bring P q (Stops k) each = (tt, tt)
moves-bring P q (Finds k op) each = (tt, tt)

brings-weaker : (P R : Command → Type 0) → ((command : Command) → P command → R command) → (move : Move)
    → Brings P move → Brings R move
brings-weaker P R f (Submit k time command) is = f command is
brings-weaker P R f (Add k time command) is = absurd is
brings-weaker P R f (Tick k) is = tt
brings-weaker P R f (Flush k) is = tt
brings-weaker P R f (Deliver at) is = tt
brings-weaker P R f (Lose at) is = tt
brings-weaker P R f (Copy at) is = tt
brings-weaker P R f (Take k) is = tt
brings-weaker P R f (Notice k op) is = tt
brings-weaker P R f (Crash k) is = tt
brings-weaker P R f (Restart k op) is = tt

-- ---- what an event offers

-- what each session has made of its numbers
abbrev AreNumbered : QueueId → (ℕ → List Deed) → Queue → Type 0
AreNumbered queue so_far q = (i : ℕ) → (q.clients i).numbers ≡ after_deeds (so_far i) (first_numbers queue i)

module _ (queue : QueueId) (so_far : ℕ → List Deed) (q : Queue) (event : Event)
    (before : AreNumbered queue so_far q) where
  -- what a session has given, and gives at this event
  abbrev all_given : ℕ → List Command
  all_given i = handed (first_numbers queue i) (so_far i ++ deeds_at i q event)

  grown : (i : ℕ) → all_given i
      ≡ handed (first_numbers queue i) (so_far i) ++ handed (q.clients i).numbers (deeds_at i q event)
  grown i =
      handed-append (so_far i) (deeds_at i q event) (first_numbers queue i)
      ∙ ap (λ (n : Numbers). handed (first_numbers queue i) (so_far i) ++ handed n (deeds_at i q event))
      (sym (before i))

  old : (i : ℕ) (command : Command) → Contains (handed (first_numbers queue i) (so_far i)) command
      → Contains (all_given i) command
  old i command is =
      subst (λ (l : List Command). Contains l command) (sym (grown i))
      (Contains-append_left (handed (first_numbers queue i) (so_far i)) (handed (q.clients i).numbers
      (deeds_at i q event)) command is)

  own-session : (i : ℕ) → (q.clients i).numbers.session ≡ client i
  own-session i = ap (λ (n : Numbers). n.session) (before i) ∙ deeds-session (so_far i) (first_numbers queue i)

  -- a command of another session doesn't count
  of-own : (i own : ℕ) (command : Command) → IsOfSession (client own) command
      → (i ≡ own → Contains (all_given i) command) → Was i (all_given i) command
  of-own i own command of given other is session =
      let same : Some of.by ≡ Some other = sym of.is ∙ is in
      let by_is : of.by ≡ other = cc in
      given (client-same i own (sym session ∙ sym (ap (λ (g : Stamp). g.session) by_is) ∙ of.session_is))

  opens : (own : ℕ) → AreOpen (client own) (handed (first_numbers queue own) (so_far own))
      (q.clients own).numbers.opened
  opens own =
      subst (λ (n : Numbers). AreOpen (client own) (handed (first_numbers queue own) (so_far own)) n.opened)
      (sym (before own)) (deeds-open (so_far own) (first_numbers queue own) [] tt)

  resent : (i own : ℕ) (opened : List OpenCommand)
      → AreOpen (client own) (handed (first_numbers queue own) (so_far own)) opened
      → AllByRecursion (Was i (all_given i)) (values_of opened)
  resent i own [] are = tt
  resent i own (one ∷ more) are = (
    of-own i own one.1 are.0.own
        (λ same. subst (λ (j : ℕ). Contains (all_given j) one.1) (sym same) (old own one.1 are.0.given)),
    resent i own more are.1,
  )

-- a session gives a command a number
given-number : (queue : QueueId) (so_far : ℕ → List Deed) (q : Queue) (before : AreNumbered queue so_far q) (own : ℕ)
    (body : Unstamped) → may_hand (q.clients own).numbers ≡ true
    → Contains (all_given queue so_far q (Submits own body) before own) (next_command body (q.clients own).numbers)
given-number queue so_far q before own body may =
    let n : Numbers = (q.clients own).numbers in
    let takes : List Deed =
    takes_of own (acts (Submits own body) q.clients) (rows_told q (Submits own body)) in
    let rest : List Command = handed (after_deeds (Hands body ∷ []) n) takes in
    let found : handed n (deeds_at own q (Submits own body)) ≡ next_command body n ∷ rest =
    ap (λ (b : Bool). handed n (cond b (Hands body ∷ []) [] ++ takes)) (eq-eqb own own refl)
    ∙ ap (λ (b : Bool). cond b (next_command body n ∷ []) [] ++ rest) may in
    subst (λ (l : List Command). Contains l (next_command body n))
    (sym (grown queue so_far q (Submits own body) before own
    ∙ ap (λ (l : List Command). handed (first_numbers queue own) (so_far own) ++ l) found))
    (Contains-middle (handed (first_numbers queue own) (so_far own)) rest (next_command body n))

offers-given : (queue : QueueId) (so_far : ℕ → List Deed) (q : Queue) (event : Event)
    (before : AreNumbered queue so_far q) (i : ℕ)
    → AllByRecursion (Was i (all_given queue so_far q event before i)) (offered q.clients event)
offers-given queue so_far q (Submits own body) before i =
    let n : Numbers = (q.clients own).numbers in
    let those : List Command = all_given queue so_far q (Submits own body) before i in
    cond_both (may_hand n) (next_command body n ∷ []) [] (AllByRecursion (Was i those))
    (λ may. (
      of-own queue so_far q (Submits own body) before i own (next_command body n)
          (subst (λ (s : SessionId). IsOfSession s (next_command body n))
          (own-session queue so_far q (Submits own body) before own) (next-own body n))
          (λ same. subst
          (λ (j : ℕ). Contains (all_given queue so_far q (Submits own body) before j) (next_command body n)) (sym same)
          (given-number queue so_far q before own body may)),
      tt,
    )) (λ _. tt)
offers-given queue so_far q (Resends own) before i =
    resent queue so_far q (Resends own) before i own (q.clients own).numbers.opened
    (opens queue so_far q (Resends own) before own)
offers-given queue so_far q (Downs own) before i =
    cond_both (is_used (q.clients own).numbers) (commands.Down (client own) ∷ []) []
    (AllByRecursion (Was i (all_given queue so_far q (Downs own) before i)))
    (λ _. ((λ given is session. absurd (let e : None ≡ Some given = is in cc)), tt)) (λ _. tt)
offers-given queue so_far q (Mutes session muted) before i = tt
offers-given queue so_far q (Ends session) before i = tt
offers-given queue so_far q (TellsEnded session) before i = tt
offers-given queue so_far q (TellsNotTaken session id) before i = tt
offers-given queue so_far q (Attaches session tag number) before i = tt
offers-given queue so_far q (Judges verdict) before i = tt
offers-given queue so_far q (Fetches session) before i = tt
offers-given queue so_far q (Ticks k) before i = tt
offers-given queue so_far q (Delivers at) before i = tt
offers-given queue so_far q (Loses at) before i = tt
offers-given queue so_far q (Copies at) before i = tt
offers-given queue so_far q (Writes k) before i = tt
offers-given queue so_far q (Syncs k) before i = tt
offers-given queue so_far q (Notices k) before i = tt
offers-given queue so_far q (Stops k) before i = tt
offers-given queue so_far q (Finds k op) before i = tt

-- ---- all events

all-brought : (queue : QueueId) (so_far : ℕ → List Deed) (q : Queue) (events : List Event)
    → AreNumbered queue so_far q → (i : ℕ)
    → AllByRecursion (Brings (Was i (handed (first_numbers queue i) (so_far i ++ deeds i q events)))) (all_moves q events)
all-brought queue so_far q [] before i = tt
all-brought queue so_far q (event ∷ events) before i =
    let next : Queue = happens q event in
    let first : List Deed = so_far i ++ deeds_at i q event in
    let whole : List Command =
    handed (first_numbers queue i) (so_far i ++ (deeds_at i q event ++ deeds i next events)) in
    let joined : handed (first_numbers queue i) (first ++ deeds i next events) ≡ whole =
    ap (handed (first_numbers queue i)) (append_assoc (so_far i) (deeds_at i q event) (deeds i next events)) in
    let apart : handed (first_numbers queue i) first
    ++ handed (after_deeds first (first_numbers queue i)) (deeds i next events) ≡ whole =
    sym (handed-append first (deeds i next events) (first_numbers queue i)) ∙ joined in
    AllByRecursion-append (Brings (Was i whole)) (moves q event) (all_moves next events)
    (AllByRecursion-weaker (Brings (Was i (handed (first_numbers queue i) first))) (Brings (Was i whole))
    (brings-weaker (Was i (handed (first_numbers queue i) first)) (Was i whole)
    (λ command was. subst (λ (l : List Command). Was i l command) apart
    (was-more i (handed (first_numbers queue i) first)
    (handed (after_deeds first (first_numbers queue i)) (deeds i next events)) command was))) (moves q event)
    (moves-bring (Was i (handed (first_numbers queue i) first)) q event
    (offers-given queue so_far q event before i)))
    (subst (λ (l : List Command). AllByRecursion (Brings (Was i l)) (all_moves next events)) joined
    (all-brought queue (λ j. so_far j ++ deeds_at j q event) next events
    (λ j. event-numbers j q event ∙ ap (after_deeds (deeds_at j q event)) (before j)
    ∙ sym (deeds-append (so_far j) (deeds_at j q event) (first_numbers queue j))) i))

moves-given : (args : QueueArgs) (group : Group) (session : ℕ) (events : List Event)
    → AllByRecursion (Brings (Was session (commands_of args group session events)))
    (all_moves (begin args group) events)
moves-given args group session events =
    all-brought args.queue (λ i. []) (begin args group) events (λ i. refl) session

-- ---- entries

-- what the law of groups says
abbrev pub WasSubmitted : Type 0
WasSubmitted =
    (g : Group) (whole : List Entry) (made : List Move) (a : List Entry) (e : Entry) → AreDistinct g.nodes
    → IsOpened g whole → IsFront (a ++ e ∷ []) (whole_audit whole (group_after g made))
    → WasLeft g a e ⊎ (IsNoop e ⊎ IsSubmitted g made a e)

middle : (P : Move → Type 0) (first : List Move) (move : Move) (rest : List Move)
    → AllByRecursion P (first ++ move ∷ rest) → P move
middle P [] move rest each = each.0
middle P (other ∷ first) move rest each = middle P first move rest each.1

-- an entry that was in no log at the start has a command that its session gave
pub entry-given : WasSubmitted → (args : QueueArgs) (group : Group) (session : ℕ) (events : List Event) → (b : IsBegun group)
    → (a : List Entry) (e : Entry) → IsFront (a ++ e ∷ []) (whole_audit b.whole (queue_after args group events).group)
    → WasLeft group a e ⊎ WasHanded (client session) (commands_of args group session events) e
entry-given submitted args group session events b a e front =
    by (submitted group b.whole (all_moves (begin args group) events) a e b.distinct b.opened
    (subst (λ (g : Group). IsFront (a ++ e ∷ []) (whole_audit b.whole g)) (group-is (begin args group) events) front))
  where
    by : (WasLeft group a e ⊎ (IsNoop e ⊎ IsSubmitted group (all_moves (begin args group) events) a e))
        → WasLeft group a e ⊎ WasHanded (client session) (commands_of args group session events) e
    by (inl left) = inl left
    by (inr (inl noop)) =
        inr (λ given is own. absurd (let e : None ≡ Some given = sym (ap (λ (x : Entry). stamp x.command) noop) ∙ is in cc))
    by (inr (inr s)) =
        let brings : Brings (Was session (commands_of args group session events)) s.event =
        middle (Brings (Was session (commands_of args group session events))) s.first s.event s.rest
        (subst (AllByRecursion (Brings (Was session (commands_of args group session events)))) s.is
        (moves-given args group session events)) in
        elim s.gives [
          | inl is ↦ inr (subst (Brings (Was session (commands_of args group session events))) is brings)
          | inr is ↦ absurd (subst (Brings (Was session (commands_of args group session events))) is brings)
        ]

-- ---- the commands that are carried out

-- what the laws say
abbrev pub KnowsWhole : Type 0
KnowsWhole =
    (g : Group) (whole : List Entry) (made : List Move) → AreDistinct g.nodes → IsOpened g whole
    → IsFront whole (whole_audit whole (group_after g made))
    × IsFront (group_after g made).audit (whole_audit whole (group_after g made))

abbrev pub ArriveAll : Type 0
ArriveAll =
    (args : QueueArgs) (session : SessionId) (queue : QueueId) (made : List Deed) (entries : List Entry)
    → ArriveInOrder args session queue made entries

-- what holds of each item behind those before it
all-fronts : {A : Type 0} (P : A → Type 0) (xs : List A)
    → ((a : List A) (x : A) → IsFront (a ++ x ∷ []) xs → P x) → AllByRecursion P xs
all-fronts P [] each = tt
all-fronts P (x ∷ xs) each = (
  each [] x (record { rest = xs; is = refl }),
  all-fronts P xs (λ a y front. each (x ∷ a) y (front-cons x (a ++ y ∷ []) xs front)),
)

-- new logs have no entry
none-left : (queue : QueueId) (nodes : List NodeId) (a : List Entry) (e : Entry) → WasLeft (new_group queue nodes) a e
    → ⊥
none-left queue nodes a e w =
    let few : w.left.upto ≤ 0 = w.left.handed in
    let ops : stable [] ≡ Some w.left.state =
    ap (λ (l : List Op). stable l) (sym (take-nil w.left.upto)) ∙ w.left.is in
    let state : new_state ≡ w.left.state = cc in
    let log : w.lane.log ≡ [] =
    ap (λ (l : Lane). l.log) w.left.lane_is ∙ ap (λ (s : Stable). known_entries s.log) (sym state) in
    let long : length (a ++ e ∷ []) ≤ length w.lane.log = front-length w.front in
    let none : length w.lane.log ≡ 0 = ap length log in
    let more : length (a ++ e ∷ []) ≡ length a + 1 = length-append a (e ∷ []) in
    absurd (no_less (length a) (omega (arith, long, none, more)))
  where
    no_less : (n : ℕ) → n + 1 ≤ 0 → ⊥
    no_less n le = omega (arith, le)

module _ (submitted : WasSubmitted) (knows : KnowsWhole) where
  -- an entry of the audit
  pub row-given : (args : QueueArgs) (group : Group) (session : ℕ) (events : List Event) → IsBegun group
      → (a : List Entry) (e : Entry) → IsFront (a ++ e ∷ []) (queue_after args group events).group.audit
      → WasLeft group a e ⊎ WasHanded (client session) (commands_of args group session events) e
  row-given args group session events b a e front =
      entry-given submitted args group session events b a e
      (front-trans front (subst (λ (g : Group). IsFront g.audit (whole_audit b.whole g))
      (sym (group-is (begin args group) events))
      (knows group b.whole (all_moves (begin args group) events) b.distinct b.opened).1))

  -- from new logs on the first ones that the session gave numbers, in order
  pub carried-in_order : ArriveAll → ((queue : QueueId) (nodes : List NodeId) → IsOpened (new_group queue nodes) [])
      → (args : QueueArgs) (nodes : List NodeId) (session : ℕ) (events : List Event) → AreDistinct nodes
      → (n : ℕ) × (filter_map (fresh_command (client session))
      (audit_rows (queue_after args (new_group args.queue nodes) events))
      ≡ take n (commands_of args (new_group args.queue nodes) session events))
  carried-in_order arrive opened args nodes session events distinct =
      let group : Group = new_group args.queue nodes in
      let q : Queue = queue_after args group events in
      let begun : IsBegun group = record { distinct = distinct; whole = []; opened = opened args.queue nodes } in
      let P : Entry → Type 0 = WasHanded (client session) (commands_of args group session events) in
      let each : AllByRecursion P q.group.audit =
      all-fronts P q.group.audit
      (λ a e front. elim (row-given args group session events begun a e front) [
        | inl left ↦ absurd (none-left args.queue nodes a e left)
        | inr was ↦ was
      ]) in
      let ordered = arrive args (client session) args.queue (deeds session (begin args group) events) q.group.audit
      (inl refl) (All-from_recursion P q.group.audit each) in (
        ordered.0,
        ap (λ (own : QueueArgs). filter_map (fresh_command (client session)) (audit_of (empty_queue own) q.group.audit))
            (args-are (begin args group) events) ∙ ordered.1,
      )
