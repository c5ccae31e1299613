-- Who takes commands, and who is told of the end of a session.
use Rattle.std.proofs.Common.{cond, take, drop, ◌≡◌, ◌≤◌, ◌<◌, ℕ, Bool, true, false, List, [], ◌∷◌, Option, Some, None, length, map, refl, ap, ◌∙◌}
use Rattle.std.specs.Prelude.{filter, is_some, nat_eq}
use Rattle.std.specs.List.{AllByRecursion}
use Rattle.std.proofs.lemmas.Bool.{and_parts, eqb-true, cond-true, cond-false, lt-ltb, le-ltb}
use Rattle.qq_base.proofs.Puts.{put-same}
use Rattle.qq_base.specs.Fronts.{put}
use Rattle.qq_base.proofs.Lists.{AllByRecursion-weaker}
use Rattle.qq_base.specs.Ids.{client}
use Rattle.qq_consuming.specs.Consumers.{know_by}
use Rattle.qq_consuming.specs.Consuming.{Received}
use Rattle.qq_entry.specs.declared.audit.AuditRow.{AuditRow}
use Rattle.qq_entry.specs.declared.command.Entry.{Entry}
use Rattle.qq_entry.specs.declared.queue.QueueArgs.{QueueArgs}
use Rattle.qq_model.specs.Audit.{audit_of, state_after}
use Rattle.qq_model.specs.State.{empty_queue}
use Rattle.qq_raft_model.specs.Server.{is_ready}
use Rattle.qq_raft_model.specs.State.{Server}
use Rattle.qq_entry.specs.declared.command.Command.{Command}
use Rattle.qq_entry.specs.declared.command.Command.TheVariants.{Down}
use Rattle.qq_entry.specs.declared.command.Unstamped.{Unstamped}
use Rattle.qq_model.specs.declared.TheConstants.{WINDOW}
use Rattle.qq_raft_model.specs.Group.{Event as Move, group_after}
use Rattle.qq_raft_model.specs.Group.Event.{Submit}
use Rattle.qq_session.specs.Publishing.{Numbers, next_command, hand, open_commands}
use Rattle.qq_session.specs.Clients.{Client, Clients, is_used, may_hand}
use Rattle.qq_session.specs.declared.shown.Shown.TheVariants.{NoLeader, WindowFull}
use Rattle.qq_session.specs.Shown.{effects_of_term, said_of}
use Rattle.qq_taker.specs.declared.handed.Handed.{Handed}
use Rattle.qq_cluster_model.specs.Laws.{IsOwnTo, LeaderIsTold, NobodyIsTold, TellsOfEnd}
use Rattle.qq_cluster_model.specs.Queue.{Queue, Submits, Resends, Downs, acts, happens, is_shown, leader, moves, offered, own_effects, own_rows, said, submits, known}
use Rattle.qq_cluster_model.proofs.Takerless.{waiting-still}

-- a queue whose window for a session isn't full
record Hands (session : ℕ) (body : Unstamped) (q : Queue) : Type 0 where
  pub opened : acts (Submits session body) q.clients
      ≡ put session (record (q.clients session) { numbers = hand body (q.clients session).numbers }) q.clients
  pub offered_is : offered q.clients (Submits session body) ≡ next_command body (q.clients session).numbers ∷ []
  pub said_is : said q (Submits session body)
      ≡ said_of (is_some (leader q.group)) session (next_command body (q.clients session).numbers ∷ [])

hands : (session : ℕ) (body : Unstamped) (q : Queue) → length (q.clients session).numbers.opened < WINDOW
    → Hands session body q
hands session body q room =
    let n : Numbers = (q.clients session).numbers in
    let may : may_hand n ≡ true = lt-ltb (length n.opened) WINDOW room in
    let given : offered q.clients (Submits session body) ≡ next_command body n ∷ [] =
    cond-true (may_hand n) (next_command body n ∷ []) [] may in
    record {
      opened = cond-true (may_hand n) (put session (record (q.clients session) { numbers = hand body n }) q.clients)
          q.clients may;
      offered_is = given;
      said_is = cond-true (may_hand n)
          (said_of (is_some (leader q.group)) session (offered q.clients (Submits session body)))
          (WindowFull session ∷ []) may
          ∙ ap (said_of (is_some (leader q.group)) session) given;
    }

submits-some : (k : ℕ) (commands : List Command) → submits (Some k) commands ≡ map (Submit k 0) commands
submits-some k [] = refl
submits-some k (command ∷ commands) = ap (λ (l : List Move). Submit k 0 command ∷ l) (submits-some k commands)

submits-none : (commands : List Command) → submits None commands ≡ []
submits-none [] = refl
submits-none (command ∷ commands) = submits-none commands

-- ---- where there is a leader

pub opened : (session : ℕ) (body : Unstamped) (q : Queue) → length (q.clients session).numbers.opened < WINDOW
    → ((happens q (Submits session body)).clients session).numbers ≡ hand body (q.clients session).numbers
opened session body q room =
    ap (λ (c : Clients). (c session).numbers) (hands session body q room).opened
    ∙ ap (λ (c : Client). c.numbers)
    (put-same session (record (q.clients session) { numbers = hand body (q.clients session).numbers }) q.clients)

pub reaches : (session : ℕ) (body : Unstamped) (q : Queue) (k : ℕ) → length (q.clients session).numbers.opened < WINDOW
    → leader q.group ≡ Some k
    → (moves q (Submits session body) ≡ Submit k 0 (next_command body (q.clients session).numbers) ∷ [])
    × (said q (Submits session body) ≡ [])
reaches session body q k room is =
    let it = hands session body q room in (
      ap (λ (o : Option ℕ). submits o (offered q.clients (Submits session body))) is
          ∙ ap (submits (Some k)) it.offered_is,
      it.said_is
          ∙ ap (λ (o : Option ℕ). said_of (is_some o) session
          (next_command body (q.clients session).numbers ∷ [])) is,
    )

-- ---- where there is none

pub lost : (session : ℕ) (body : Unstamped) (q : Queue) → length (q.clients session).numbers.opened < WINDOW
    → leader q.group ≡ None
    → (moves q (Submits session body) ≡ []) × (said q (Submits session body) ≡ NoLeader session ∷ [])
lost session body q room is =
    let it = hands session body q room in (
      ap (λ (o : Option ℕ). submits o (offered q.clients (Submits session body))) is
          ∙ submits-none (offered q.clients (Submits session body)),
      it.said_is
          ∙ ap (λ (o : Option ℕ). said_of (is_some o) session
          (next_command body (q.clients session).numbers ∷ [])) is,
    )

pub full : (session : ℕ) (body : Unstamped) (q : Queue) → WINDOW ≤ length (q.clients session).numbers.opened
    → (happens q (Submits session body) ≡ q) × (said q (Submits session body) ≡ WindowFull session ∷ [])
full session body q most =
    let n : Numbers = (q.clients session).numbers in
    let none' : may_hand n ≡ false = le-ltb (length n.opened) WINDOW most in
    let nothing : offered q.clients (Submits session body) ≡ [] =
    cond-false (may_hand n) (next_command body n ∷ []) [] none' in
    let clients : acts (Submits session body) q.clients ≡ q.clients =
    cond-false (may_hand n) (put session (record (q.clients session) { numbers = hand body n }) q.clients) q.clients
    none' in (
      ap (λ (l : List Handed). record q {
        clients = acts (Submits session body) q.clients;
        consumers = known q.clients (Submits session body) q.consumers;
        untold = l;
        group = group_after q.group (submits (leader q.group) (offered q.clients (Submits session body)));
      }) (waiting-still q.untold q.seats)
          ∙ ap (λ (c : Clients). record q {
            clients = c;
            consumers = known q.clients (Submits session body) q.consumers;
            group = group_after q.group (submits (leader q.group) (offered q.clients (Submits session body)));
          }) clients
          ∙ ap (λ (l : List Received). record q {
            consumers = l;
            group = group_after q.group (submits (leader q.group) (offered q.clients (Submits session body)));
          }) (cond-false (may_hand n) (know_by (client session) body q.consumers) q.consumers none')
          ∙ ap (λ (l : List Command). record q { group = group_after q.group (submits (leader q.group) l) }) nothing,
      cond-false (may_hand n)
          (said_of (is_some (leader q.group)) session (offered q.clients (Submits session body)))
          (WindowFull session ∷ []) none',
    )

-- ---- commands that are sent again

pub resends-silent : (session : ℕ) (q : Queue) (k : ℕ) → leader q.group ≡ Some k
    → (moves q (Resends session) ≡ map (Submit k 0) (open_commands (q.clients session).numbers))
    × (said q (Resends session) ≡ [])
resends-silent session q k is =
    let commands : List Command = open_commands (q.clients session).numbers in (
      ap (λ (o : Option ℕ). submits o commands) is ∙ submits-some k commands,
      ap (λ (o : Option ℕ). said_of (is_some o) session commands) is,
    )

pub finds-no_leader : (session : ℕ) (q : Queue) → leader q.group ≡ None → (happens q (Resends session) ≡ q)
    × (said q (Resends session) ≡ map (λ (c : Command). NoLeader session) (open_commands (q.clients session).numbers))
finds-no_leader session q is =
    let commands : List Command = open_commands (q.clients session).numbers in (
      ap (λ (l : List Handed). record q {
        untold = l;
        group = group_after q.group (submits (leader q.group) commands);
      }) (waiting-still q.untold q.seats)
          ∙ ap (λ (o : Option ℕ). record q { group = group_after q.group (submits o commands) }) is
          ∙ ap (λ (l : List Move). record q { group = group_after q.group l }) (submits-none commands),
      ap (λ (o : Option ℕ). said_of (is_some o) session commands) is,
    )

-- ---- the end of a session

leader-told : (session : ℕ) (q : Queue) → is_used (q.clients session).numbers ≡ true → LeaderIsTold session q
leader-told session q used =
    let downs : List Command = Down (client session) ∷ [] in
    let given : offered q.clients (Downs session) ≡ downs =
    cond-true (is_used (q.clients session).numbers) downs [] used in
    record {
      handed = λ k is. ap (λ (o : Option ℕ). submits o (offered q.clients (Downs session))) is
          ∙ ap (submits (Some k)) given;
      silent = λ k is. ap (λ (o : Option ℕ). said_of (is_some o) session (offered q.clients (Downs session))) is;
      lost = λ is. ap (λ (l : List Handed). record q {
        untold = l;
        group = group_after q.group (submits (leader q.group) (offered q.clients (Downs session)));
      }) (waiting-still q.untold q.seats)
          ∙ ap (λ (o : Option ℕ). record q {
            group = group_after q.group (submits o (offered q.clients (Downs session)));
          }) is
          ∙ ap (λ (l : List Move). record q { group = group_after q.group l })
          (submits-none (offered q.clients (Downs session)));
      told = λ is. ap (λ (o : Option ℕ). said_of (is_some o) session (offered q.clients (Downs session))) is
          ∙ ap (said_of false session) given;
    }

nobody-told : (session : ℕ) (q : Queue) → is_used (q.clients session).numbers ≡ false → NobodyIsTold session q
nobody-told session q unused =
    let none' : offered q.clients (Downs session) ≡ [] =
    cond-false (is_used (q.clients session).numbers) (Down (client session) ∷ []) [] unused in
    record {
      same = ap (λ (l : List Handed). record q {
        untold = l;
        group = group_after q.group (submits (leader q.group) (offered q.clients (Downs session)));
      }) (waiting-still q.untold q.seats)
          ∙ ap (λ (l : List Command). record q { group = group_after q.group (submits (leader q.group) l) }) none';
      silent = ap (said_of (is_some (leader q.group)) session) none' ∙ no-words (is_some (leader q.group));
    }
  where
    no-words : (b : Bool) → said_of b session [] ≡ []
    no-words true = refl
    no-words false = refl

pub tells-of_end : (session : ℕ) (q : Queue) → TellsOfEnd session q
tells-of_end session q = (
  (λ more. leader-told session q (lt-ltb 1 (q.clients session).numbers.next more)),
  (λ first. nobody-told session q (le-ltb 1 (q.clients session).numbers.next first)),
)

-- ---- who answers

all-filtered : (p : AuditRow → Bool) (rows : List AuditRow) → AllByRecursion (λ row. p row ≡ true) (filter p rows)
all-filtered p [] = tt
all-filtered p (row ∷ rows) = by (p row) refl (all-filtered p rows)
  where
    by : (b : Bool) → p row ≡ b → AllByRecursion (λ r. p r ≡ true) (filter p rows)
        → AllByRecursion (λ r. p r ≡ true) (cond b (row ∷ filter p rows) (filter p rows))
    by true is rest = (is, rest)
    by false is rest = rest

pub rows-own : (args : QueueArgs) (s t : Server) → AllByRecursion (IsOwnTo t) (own_rows args s t)
rows-own args s t =
    AllByRecursion-weaker (λ (row : AuditRow). is_shown t row ≡ true) (IsOwnTo t)
    (λ row is. (let both = and_parts (is_ready t) (nat_eq row.entry.term.0 t.term.0) is in
    record { ready = both.0; term = eqb-true row.entry.term.0 t.term.0 both.1 })) (own_rows args s t)
    (all-filtered (is_shown t) (drop s.commit (audit_of (empty_queue args) (take t.commit t.log))))

pub no-effects : (args : QueueArgs) (s t : Server) → is_ready t ≡ false → own_effects args s t ≡ []
no-effects args s t none' =
    let all : List Entry = take t.commit t.log in
    cond-false (is_ready t)
    (effects_of_term t.term (state_after (empty_queue args) (take s.commit all)) (drop s.commit all)) [] none'
