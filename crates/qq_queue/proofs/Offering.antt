-- Commands that are offered to the leader.
use Rattle.std.proofs.Common.{◌≡◌, ◌⊎◌, ℕ, ◌<◌, Bool, true, false, cond, List, [], ◌∷◌, ◌++◌, drop, length, Option, Some, None, refl, sym, ap, subst, ◌∙◌, inl, inr, arith, append-nil, append_assoc}
use Rattle.std.specs.Prelude.{is_some, nat_eq, nat_lt}
use Rattle.std.specs.List.{fold}
use Rattle.std.proofs.Math.Path.{fun_ext}
use Rattle.std.proofs.lemmas.Bool.{cases_Bool, cond-true, cond-false, eqb-true, le-ltb, lt-ltb}
use Rattle.std.proofs.lemmas.Grind.{flat_map-append}
use Rattle.qq_base.specs.Fronts.{put}
use Rattle.qq_base.specs.declared.ids.NodeId.{NodeId}
use Rattle.qq_base.specs.declared.memory.Memory.{Memory}
use Rattle.qq_base.specs.Ids.{client}
use Rattle.qq_entry.specs.declared.command.Command.{Command}
use Rattle.qq_entry.specs.declared.command.Command.TheVariants as commands
use Rattle.qq_entry.specs.declared.command.Unstamped.{Unstamped}
use Rattle.qq_model.specs.declared.TheConstants.{WINDOW}
use Rattle.qq_raft_core.specs.Raft.{server_of}
use Rattle.qq_raft_model.specs.Group.{Event as Move, Group as GroupState, group_after}
use Rattle.qq_raft_model.specs.Server.{is_ready}
use Rattle.qq_group.specs.Group.{Represents, server_at}
use Rattle.qq_group.specs.Reads.{later as later_code, leader_of, leading_at, node_of as node_in}
use Rattle.qq_consuming.specs.Consumers.{know_by}
use Rattle.qq_consuming.specs.Consuming.{Received}
use Rattle.qq_session.specs.Publishing.{Numbers, hand, next_command, open_commands}
use Rattle.qq_session.specs.Clients.{Client, Clients, is_used, may_hand}
use Rattle.qq_session.specs.declared.shown.Shown.{Shown}
use Rattle.qq_session.specs.declared.shown.Shown.TheVariants.{WindowFull, HasEnded, NotTaken}
use Rattle.qq_session.specs.Shown.{said_of}
use Rattle.qq_cluster_model.specs.Delivering.{learn}
use Rattle.qq_cluster_model.specs.Queue.{Queue, Event, Leading, Submits, Resends, Downs, TellsEnded, TellsNotTaken, acts, group_then, happens, has_leader, later, leader, leading, moves, node_of, offered, said, submit_to, submits, synced_after}
use Rattle.qq_cluster_model.proofs.Groups.{group-append}
use Rattle.qq_queue.specs.ClusterQueue.{HasRefused, IsOfferCaused, Stands}
use Rattle.qq_queue.specs.Members.{AreSound, IsGroupOf, Makes, Member, Members, number_of, own_log}
use Rattle.qq_queue.specs.Sessions.{Standings, clients_of, numbers_of}
use Rattle.qq_queue.specs.declared.cluster_queue.ClusterQueue.{ClusterQueue}
use Rattle.qq_queue.proofs.Members.{raft_of, seat-is}
use Rattle.qq_queue.proofs.Happening.{KeepsTakers, keeps-takers, stands-then, waits-nothing}
use Rattle.qq_queue.proofs.Showing.{shows-of}

-- ---- the leader

-- of a leading member of the code, whose number of a node and whose term these are
lead_by : {A : Type 0} → (A → ℕ) → (A → ℕ) → Option A → Option Leading
lead_by node term None = None
lead_by node term (Some l) = Some (record { node = node l; term = term l })

-- how the code looks for the leader, which is how the definition does
record IsSearch {A : Type 0} (later_code : Option A → Option A → Option A) (at : NodeId → Option Member → Option A)
    (found : Option A → Option NodeId) (node term : A → ℕ) (made : NodeId → Member → A) : Type 0 where
  pub none : later_code None None ≡ None
  pub first : (x : A) → later_code (Some x) None ≡ Some x
  pub second : (x : A) → later_code None (Some x) ≡ Some x
  pub both : (x y : A) → later_code (Some x) (Some y) ≡ cond (nat_lt (term x) (term y)) (Some y) (Some x)
  pub down : (n : NodeId) → at n None ≡ None
  pub up : (n : NodeId) (s : Member)
      → at n (Some s) ≡ cond (is_ready (server_of own_log s.raft)) (Some (made n s)) None
  pub node_is : (n : NodeId) (s : Member) → node (made n s) ≡ n.0
  pub term_is : (n : NodeId) (s : Member) → term (made n s) ≡ s.raft.term.0
  pub nobody : found None ≡ None
  pub somebody : (x : A) → number_of (found (Some x)) ≡ Some (node x)

lead-cond : {A : Type 0} (node term : A → ℕ) (b : Bool) (x y : A)
    → lead_by node term (cond b (Some x) (Some y)) ≡ cond b (lead_by node term (Some x)) (lead_by node term (Some y))
lead-cond node term true x y = refl
lead-cond node term false x y = refl

lead-if : {A : Type 0} (node term : A → ℕ) (b : Bool) (x : A)
    → lead_by node term (cond b (Some x) None) ≡ cond b (lead_by node term (Some x)) None
unfolding lead_by
lead-if node term true x = refl
lead-if node term false x = refl

lead : ℕ → ℕ → Option Leading
lead node term = Some (record { node = node; term = term })

module _ {A : Type 0} (later_code : Option A → Option A → Option A) (at : NodeId → Option Member → Option A)
    (found : Option A → Option NodeId) (node term : A → ℕ) (made : NodeId → Member → A)
    (search' : IsSearch later_code at found node term made) where
  later-leads : (best next : Option A)
      → lead_by node term (later_code best next) ≡ later (lead_by node term best) (lead_by node term next)
  unfolding lead_by
  later-leads None None = ap (lead_by node term) search'.none
  later-leads (Some x) None = ap (lead_by node term) (search'.first x)
  later-leads None (Some x) = ap (lead_by node term) (search'.second x)
  later-leads (Some x) (Some y) =
      ap (lead_by node term) (search'.both x y) ∙ lead-cond node term (nat_lt (term x) (term y)) y x

  at-leads : (n : NodeId) (o : Option Member) → lead_by node term (at n o) ≡ leading n.0 (raft_of o)
  unfolding lead_by lead
  at-leads n None = ap (lead_by node term) (search'.down n)
  at-leads n (Some s) =
      ap (lead_by node term) (search'.up n s)
      ∙ lead-if node term (is_ready (server_of own_log s.raft)) (made n s)
      ∙ ap (λ (k : ℕ). cond (is_ready (server_of own_log s.raft)) (lead k (term (made n s))) None) (search'.node_is n s)
      ∙ ap (λ (t : ℕ). cond (is_ready (server_of own_log s.raft)) (lead n.0 t) None) (search'.term_is n s)

  all-lead : (g : GroupState) (group : Members) → Represents own_log g group → (nodes : List NodeId) (best : Option A)
      → lead_by node term (fold (λ b n. later_code b (at n (server_at n.0 group))) best nodes)
      ≡ fold (λ b n. later b (leading n.0 (g.seat n.0).server)) (lead_by node term best) nodes
  all-lead g group r [] best = refl
  all-lead g group r (n ∷ nodes) best =
      all-lead g group r nodes (later_code best (at n (server_at n.0 group)))
      ∙ ap (λ (b : Option Leading). fold (λ b n. later b (leading n.0 (g.seat n.0).server)) b nodes)
      (later-leads best (at n (server_at n.0 group))
      ∙ ap (later (lead_by node term best)) (at-leads n (server_at n.0 group)
      ∙ ap (leading n.0) (sym (seat-is g group n.0 r))))

  found-is : (o : Option A) → node_of (lead_by node term o) ≡ number_of (found o)
  unfolding lead_by
  found-is None = sym (ap number_of search'.nobody)
  found-is (Some x) = sym (search'.somebody x)

  searched : (g : GroupState) (group : Members) → Represents own_log g group
      → leader g ≡ number_of (found (fold (λ b n. later_code b (at n (server_at n.0 group))) None group.nodes.items))
  unfolding lead_by
  searched g group r =
      ap (λ (nodes : List NodeId). node_of (fold (λ b n. later b (leading n.0 (g.seat n.0).server)) None nodes)) r.nodes
      ∙ ap node_of (sym (all-lead g group r group.nodes.items None))
      ∙ found-is (fold (λ b n. later_code b (at n (server_at n.0 group))) None group.nodes.items)

pub leader-is : (g : GroupState) (group : Members) → Represents own_log g group
    → leader g ≡ number_of (leader_of own_log group)
leader-is g group r =
    searched later_code (leading_at own_log) node_in (λ l. l.node.0) (λ l. l.term.0)
    (λ n s. record { node = n; term = s.raft.term }) (record {
      none = refl;
      first = λ x. refl;
      second = λ x. refl;
      both = λ x y. refl;
      down = λ n. refl;
      up = λ n s. refl;
      node_is = λ n s. refl;
      term_is = λ n s. refl;
      nobody = refl;
      somebody = λ x. refl;
    }) g group r

number-some : (o : Option NodeId) → is_some (number_of o) ≡ is_some o
number-some None = refl
number-some (Some node) = refl

-- ---- moves one after the other

pub makes-none : (group : Members) → Makes [] group group
makes-none group args g it = (it, λ k down. down)

pub makes-then : (first second : List Move) (old mid new : Members) → Makes first old mid → Makes second mid new
    → Makes (first ++ second) old new
makes-then first second old mid new one two args g it =
    let a = one args g it in
    let b = two args (group_after g first) a.0 in (
      subst (λ (h : GroupState). IsGroupOf args h new) (sym (group-append g first second)) b.0,
      λ k down. b.1 k (a.1 k down),
    )

pub submits-one : (o : Option ℕ) (command : Command) → submits o (command ∷ []) ≡ submit_to o command
submits-one o command = append-nil (submit_to o command)

-- ---- what is said of commands

-- what one command says, and then the others, is what all say
pub said-then : (ready : Bool) (session : ℕ) (command : Command) (more : List Command) (o : List Shown)
    → (o ++ said_of ready session (command ∷ [])) ++ said_of ready session more
    ≡ o ++ said_of ready session (command ∷ more)
said-then true session command more o = append_assoc o [] []
said-then false session command more o =
    append_assoc o (said_of false session (command ∷ [])) (said_of false session more)

pub said-none : (ready : Bool) (session : ℕ) → said_of ready session [] ≡ []
said-none true session = refl
said-none false session = refl

-- ---- events that offer commands

-- an event offers these commands, and that is all that it is to the group
pub record IsOffering (event : Event) (q : Queue) (session : ℕ) (given : List Command) : Type 0 where
  pub moves_are : moves q event ≡ submits (leader q.group) given
  pub takers : KeepsTakers q event
  pub synced_is : synced_after q event ≡ q.synced
  pub says : said q event ≡ said_of (has_leader q) session given

pub offering-does : (sessions : Standings) (old new : ClusterQueue) (q : Queue) (event : Event) (session : ℕ)
    (given : List Command) (o : Option NodeId) (before after : List Shown) → Stands sessions old q
    → IsOffering event q session given → o ≡ leader_of own_log old.group
    → Makes (submits (number_of o) given) old.group new.group → new.args ≡ old.args → new.synced ≡ old.synced
    → (happens q event).clients ≡ clients_of sessions (numbers_of new.publishers)
    → (happens q event).consumers ≡ new.consumers → new.seats ≡ old.seats → new.untold ≡ old.untold
    → after ≡ before ++ (said_of (is_some o) session given)
    → Stands sessions new (happens q event) × (after ≡ before ++ said q event)
offering-does sessions old new q event session given o before after st f lead makes args synced clients consumers
    seats untold said' =
    let group = makes old.args q.group st.group in
    let own : leader q.group ≡ number_of o =
    leader-is q.group old.group st.group.represents ∙ ap number_of (sym lead) in (
      stands-then sessions old new q event st (
        subst (λ (l : List Move). IsGroupOf old.args (group_after q.group l) new.group)
            (sym (f.moves_are ∙ ap (λ (x : Option ℕ). submits x given) own)) group.0,
        group.1,
      ) args clients consumers (keeps-takers sessions old new q event st f.takers seats untold) synced f.synced_is,
      shows-of (said_of (is_some o) session given) (said q event) before after
          (f.says ∙ ap (λ (b : Bool). said_of b session given) (ap is_some own ∙ number-some o)) said',
    )

-- ---- a command with the next number

pub put-numbers : (sessions : Standings) (session : ℕ) (n : Numbers) (f : ℕ → Numbers)
    → put session (record (clients_of sessions f session) { numbers = n }) (clients_of sessions f)
    ≡ clients_of sessions (put session n f)
unfolding put
put-numbers sessions session n f = fun_ext (λ k. by k (cases_Bool (nat_eq k session)))
  where
    at : ℕ → Numbers → Client
    at k numbers = record { numbers = numbers; muted = (sessions k).muted; ended = (sessions k).ended }

    by : (k : ℕ) → (nat_eq k session ≡ true) ⊎ (nat_eq k session ≡ false)
        → put session (record (clients_of sessions f session) { numbers = n }) (clients_of sessions f) k
        ≡ clients_of sessions (put session n f) k
    by k (inl here) = rw here (ap (λ (j : ℕ). at j n) (sym (eqb-true k session here)))
    by k (inr other) = rw other refl

-- the numbers of a session
abbrev pub numbers_in : Standings → ClusterQueue → ℕ → Numbers
numbers_in sessions d session = (clients_of sessions (numbers_of d.publishers) session).numbers

pub submit-offers : (sessions : Standings) (d : ClusterQueue) (q : Queue) (session : ℕ) (body : Unstamped)
    → Stands sessions d q → may_hand (numbers_of d.publishers session) ≡ true
    → IsOffering (Submits session body) q session (next_command body (numbers_of d.publishers session) ∷ [])
submit-offers sessions d q session body st room =
    let clients : Clients = clients_of sessions (numbers_of d.publishers) in
    let command : Command = next_command body (numbers_of d.publishers session) in
    let given : offered q.clients (Submits session body) ≡ command ∷ [] =
    ap (λ (c : Clients). offered c (Submits session body)) st.clients
    ∙ cond-true (may_hand (numbers_of d.publishers session)) (command ∷ []) [] room in
    record {
      moves_are = ap (submits (leader q.group)) given;
      takers = record { seats = refl; untold = waits-nothing q.untold q.seats };
      synced_is = refl;
      says = cond-true (may_hand (q.clients session).numbers)
          (said_of (has_leader q) session (offered q.clients (Submits session body))) (WindowFull session ∷ [])
          (ap (λ (c : Clients). may_hand (c session).numbers) st.clients ∙ room)
          ∙ ap (said_of (has_leader q) session) given;
    }

pub submit-clients : (sessions : Standings) (d : ClusterQueue) (q : Queue) (session : ℕ) (body : Unstamped)
    (next : ℕ → Numbers) → Stands sessions d q → may_hand (numbers_of d.publishers session) ≡ true
    → next ≡ put session (hand body (numbers_of d.publishers session)) (numbers_of d.publishers)
    → (happens q (Submits session body)).clients ≡ clients_of sessions next
submit-clients sessions d q session body next st room is =
    let numbers : ℕ → Numbers = numbers_of d.publishers in
    ap (acts (Submits session body)) st.clients
    ∙ cond-true (may_hand (numbers session))
    (put session (record (clients_of sessions numbers session) { numbers = hand body (numbers session) })
    (clients_of sessions numbers)) (clients_of sessions numbers) room
    ∙ put-numbers sessions session (hand body (numbers session)) numbers
    ∙ ap (clients_of sessions) (sym is)

pub submit-consumers : (sessions : Standings) (d : ClusterQueue) (q : Queue) (session : ℕ) (body : Unstamped)
    (next : List Received) → Stands sessions d q
    → next ≡ cond (may_hand (numbers_of d.publishers session)) (know_by (client session) body d.consumers) d.consumers
    → (happens q (Submits session body)).consumers ≡ next
submit-consumers sessions d q session body next st is =
    ap (λ (c : Clients). learn c session body q.consumers) st.clients
    ∙ ap (learn (clients_of sessions (numbers_of d.publishers)) session body) st.consumers ∙ sym is

-- ---- events that leave a queue as it is

-- an event that is nothing to the group, and that no client hears
pub record IsIdle (event : Event) (q : Queue) : Type 0 where
  pub moves_are : moves q event ≡ []
  pub clients_are : (happens q event).clients ≡ q.clients
  pub consumers_are : (happens q event).consumers ≡ q.consumers
  pub takers : KeepsTakers q event
  pub synced_is : synced_after q event ≡ q.synced

pub idle-stands : (sessions : Standings) (old new : ClusterQueue) (q : Queue) (event : Event) → Stands sessions old q
    → IsIdle event q → new.args ≡ old.args → new.group ≡ old.group → new.synced ≡ old.synced
    → numbers_of new.publishers ≡ numbers_of old.publishers → new.consumers ≡ old.consumers → new.seats ≡ old.seats
    → new.untold ≡ old.untold → Stands sessions new (happens q event)
idle-stands sessions old new q event st f args group synced numbers consumers seats untold =
    stands-then sessions old new q event st (
      subst (λ (x : Members). IsGroupOf old.args (group_then q event) x) (sym group)
          (subst (λ (l : List Move). IsGroupOf old.args (group_after q.group l) old.group) (sym f.moves_are) st.group),
      λ k down. ap (λ (x : Members). server_at k x) group ∙ down,
    ) args (f.clients_are ∙ st.clients ∙ ap (clients_of sessions) (sym numbers))
    (f.consumers_are ∙ st.consumers ∙ sym consumers)
    (keeps-takers sessions old new q event st f.takers seats untold) synced f.synced_is

pub full-idle : (sessions : Standings) (d : ClusterQueue) (q : Queue) (session : ℕ) (body : Unstamped)
    → Stands sessions d q → may_hand (numbers_of d.publishers session) ≡ false
    → IsIdle (Submits session body) q × (said q (Submits session body) ≡ WindowFull session ∷ [])
full-idle sessions d q session body st full =
    let own : may_hand (q.clients session).numbers ≡ false =
    ap (λ (c : Clients). may_hand (c session).numbers) st.clients ∙ full in
    let numbers : Numbers = (q.clients session).numbers in (
      record {
        moves_are = ap (submits (leader q.group))
            (cond-false (may_hand numbers) (next_command body numbers ∷ []) [] own);
        clients_are = cond-false (may_hand numbers)
            (put session (record (q.clients session) { numbers = hand body numbers }) q.clients) q.clients own;
        consumers_are = cond-false (may_hand numbers) (know_by (client session) body q.consumers) q.consumers own;
        takers = record { seats = refl; untold = waits-nothing q.untold q.seats };
        synced_is = refl;
      },
      cond-false (may_hand numbers) (said_of (has_leader q) session (offered q.clients (Submits session body)))
          (WindowFull session ∷ []) own,
    )

pub resend-offers : (sessions : Standings) (d : ClusterQueue) (q : Queue) (session : ℕ) → Stands sessions d q
    → IsOffering (Resends session) q session (open_commands (numbers_of d.publishers session))
resend-offers sessions d q session st = record {
  moves_are = ap (λ (c : Clients). submits (leader q.group) (offered c (Resends session))) st.clients;
  takers = record { seats = refl; untold = waits-nothing q.untold q.seats };
  synced_is = refl;
  says = ap (λ (c : Clients). said_of (has_leader q) session (offered c (Resends session))) st.clients;
}

pub down-offers : (sessions : Standings) (d : ClusterQueue) (q : Queue) (session : ℕ) → Stands sessions d q
    → is_used (numbers_of d.publishers session) ≡ true
    → IsOffering (Downs session) q session (commands.Down (client session) ∷ [])
down-offers sessions d q session st used =
    let given : offered q.clients (Downs session) ≡ commands.Down (client session) ∷ [] =
    ap (λ (c : Clients). offered c (Downs session)) st.clients
    ∙ cond-true (is_used (numbers_of d.publishers session)) (commands.Down (client session) ∷ []) [] used in
    record {
      moves_are = ap (submits (leader q.group)) given;
      takers = record { seats = refl; untold = waits-nothing q.untold q.seats };
      synced_is = refl;
      says = ap (said_of (has_leader q) session) given;
    }

pub unused-idle : (sessions : Standings) (d : ClusterQueue) (q : Queue) (session : ℕ) → Stands sessions d q
    → is_used (numbers_of d.publishers session) ≡ false
    → IsIdle (Downs session) q × (said q (Downs session) ≡ [])
unused-idle sessions d q session st unused =
    let given : offered q.clients (Downs session) ≡ [] =
    ap (λ (c : Clients). offered c (Downs session)) st.clients
    ∙ cond-false (is_used (numbers_of d.publishers session)) (commands.Down (client session) ∷ []) [] unused in (
      record {
        moves_are = ap (submits (leader q.group)) given;
        clients_are = refl;
        consumers_are = refl;
        takers = record { seats = refl; untold = waits-nothing q.untold q.seats };
        synced_is = refl;
      },
      ap (said_of (has_leader q) session) given ∙ said-none (has_leader q) session,
    )

-- ---- what the calls make of it

pub one-makes : (o : Option NodeId) (command : Command) (old new : Members)
    → Makes (submit_to (number_of o) command) old new → Makes (submits (number_of o) (command ∷ [])) old new
one-makes o command old new makes args g it =
    let made = makes args g it in (
      subst (λ (l : List Move). IsGroupOf args (group_after g l) new) (sym (submits-one (number_of o) command)) made.0,
      made.1,
    )

-- a command was given the next number and offered
pub submit-does : (sessions : Standings) (old new : ClusterQueue) (q : Queue) (session : ℕ) (body : Unstamped)
    (command : Command) (o : Option NodeId) (before after : List Shown) → Stands sessions old q
    → length (numbers_of old.publishers session).opened < WINDOW
    → command ≡ next_command body (numbers_of old.publishers session) → o ≡ leader_of own_log old.group
    → Makes (submit_to (number_of o) command) old.group new.group → new.args ≡ old.args → new.synced ≡ old.synced
    → numbers_of new.publishers
    ≡ put session (hand body (numbers_of old.publishers session)) (numbers_of old.publishers)
    → new.consumers ≡ cond (may_hand (numbers_of old.publishers session))
    (know_by (client session) body old.consumers) old.consumers → new.seats ≡ old.seats → new.untold ≡ old.untold
    → after ≡ before ++ (said_of (is_some o) session (command ∷ []))
    → Stands sessions new (happens q (Submits session body))
    × (after ≡ before ++ said q (Submits session body))
submit-does sessions old new q session body command o before after st less is lead makes args synced numbers knows
    seats untold said' =
    let room : may_hand (numbers_of old.publishers session) ≡ true =
    lt-ltb (length (numbers_of old.publishers session).opened) WINDOW less in
    offering-does sessions old new q (Submits session body) session (command ∷ []) o before after st
    (subst (λ (x : Command). IsOffering (Submits session body) q session (x ∷ [])) (sym is)
    (submit-offers sessions old q session body st room)) lead (one-makes o command old.group new.group makes) args
    synced (submit-clients sessions old q session body (numbers_of new.publishers) st room numbers)
    (submit-consumers sessions old q session body new.consumers st knows) seats untold said'

-- the session's window is full
pub full-does : (sessions : Standings) (old new : ClusterQueue) (q : Queue) (session : ℕ) (body : Unstamped)
    (before after : List Shown) → Stands sessions old q → length (numbers_of old.publishers session).opened ≡ WINDOW
    → new.args ≡ old.args → new.group ≡ old.group → new.synced ≡ old.synced
    → numbers_of new.publishers ≡ numbers_of old.publishers
    → new.consumers ≡ cond (may_hand (numbers_of old.publishers session))
    (know_by (client session) body old.consumers) old.consumers → new.seats ≡ old.seats → new.untold ≡ old.untold
    → after ≡ before ++ (WindowFull session ∷ [])
    → Stands sessions new (happens q (Submits session body))
    × (after ≡ before ++ said q (Submits session body))
full-does sessions old new q session body before after st is args group synced numbers consumers seats untold
    said' =
    let full : may_hand (numbers_of old.publishers session) ≡ false =
    le-ltb (length (numbers_of old.publishers session).opened) WINDOW (omega (arith, is)) in
    let idle = full-idle sessions old q session body st full in (
      idle-stands sessions old new q (Submits session body) st idle.0 args group synced numbers
          (consumers ∙ cond-false (may_hand (numbers_of old.publishers session))
          (know_by (client session) body old.consumers) old.consumers full) seats untold,
      shows-of (WindowFull session ∷ []) (said q (Submits session body)) before after idle.1 said',
    )

-- a session that has ended is told so
pub ended-does : (sessions : Standings) (old new : ClusterQueue) (q : Queue) (session : ℕ) (before after : List Shown)
    → Stands sessions old q → new ≡ old → after ≡ before ++ (HasEnded session ∷ [])
    → Stands sessions new (happens q (TellsEnded session))
    × (after ≡ before ++ said q (TellsEnded session))
ended-does sessions old new q session before after st same said' = (
  subst (λ (d : ClusterQueue). Stands sessions d (happens q (TellsEnded session))) (sym same)
      (idle-stands sessions old old q (TellsEnded session) st
      (record {
        moves_are = refl;
        clients_are = refl;
        consumers_are = refl;
        takers = record { seats = refl; untold = waits-nothing q.untold q.seats };
        synced_is = refl;
      }) refl refl refl refl refl refl refl),
  shows-of (HasEnded session ∷ []) (said q (TellsEnded session)) before after refl said',
)

-- and one whose command ends what wasn't handed out
pub untaken-does : (sessions : Standings) (old new : ClusterQueue) (q : Queue) (session id : ℕ) (before after : List Shown)
    → Stands sessions old q → new ≡ old → after ≡ before ++ (NotTaken session id ∷ [])
    → Stands sessions new (happens q (TellsNotTaken session id))
    × (after ≡ before ++ said q (TellsNotTaken session id))
untaken-does sessions old new q session id before after st same said' = (
  subst (λ (d : ClusterQueue). Stands sessions d (happens q (TellsNotTaken session id))) (sym same)
      (idle-stands sessions old old q (TellsNotTaken session id) st
      (record {
        moves_are = refl;
        clients_are = refl;
        consumers_are = refl;
        takers = record { seats = refl; untold = waits-nothing q.untold q.seats };
        synced_is = refl;
      }) refl refl refl refl refl refl refl),
  shows-of (NotTaken session id ∷ []) (said q (TellsNotTaken session id)) before after refl said',
)

pub down-does : (sessions : Standings) (old new : ClusterQueue) (q : Queue) (session : ℕ) (command : Command)
    (o : Option NodeId) (before after : List Shown) → Stands sessions old q
    → is_used (numbers_of old.publishers session) ≡ true → command ≡ commands.Down (client session)
    → o ≡ leader_of own_log old.group → Makes (submit_to (number_of o) command) old.group new.group
    → new.args ≡ old.args → new.synced ≡ old.synced → new.publishers ≡ old.publishers → new.consumers ≡ old.consumers
    → new.seats ≡ old.seats → new.untold ≡ old.untold
    → after ≡ before ++ (said_of (is_some o) session (command ∷ []))
    → Stands sessions new (happens q (Downs session))
    × (after ≡ before ++ said q (Downs session))
down-does sessions old new q session command o before after st used is lead makes args synced publishers consumers
    seats untold said' =
    offering-does sessions old new q (Downs session) session (command ∷ []) o before after st
    (subst (λ (x : Command). IsOffering (Downs session) q session (x ∷ [])) (sym is)
    (down-offers sessions old q session st used)) lead (one-makes o command old.group new.group makes) args synced
    (st.clients ∙ ap (λ (p : _). clients_of sessions (numbers_of p)) (sym publishers))
    (st.consumers ∙ sym consumers) seats untold said'

pub unused-does : (sessions : Standings) (old new : ClusterQueue) (q : Queue) (session : ℕ) (before after : List Shown)
    → Stands sessions old q → is_used (numbers_of old.publishers session) ≡ false → new ≡ old → after ≡ before ++ []
    → Stands sessions new (happens q (Downs session))
    × (after ≡ before ++ said q (Downs session))
unused-does sessions old new q session before after st unused same text =
    let idle = unused-idle sessions old q session st unused in (
      subst (λ (d : ClusterQueue). Stands sessions d (happens q (Downs session))) (sym same)
          (idle-stands sessions old old q (Downs session) st idle.0 refl refl refl refl refl refl refl),
      shows-of [] (said q (Downs session)) before after idle.1 text,
    )

pub resend-does : (sessions : Standings) (old new : ClusterQueue) (q : Queue) (session : ℕ) (given : List Command)
    (o : Option NodeId) (before after : List Shown) → Stands sessions old q
    → given ≡ open_commands (numbers_of old.publishers session) → o ≡ leader_of own_log old.group
    → Makes (submits (number_of o) given) old.group new.group → new.args ≡ old.args → new.synced ≡ old.synced
    → new.publishers ≡ old.publishers → new.consumers ≡ old.consumers
    → new.seats ≡ old.seats → new.untold ≡ old.untold
    → after ≡ before ++ (said_of (is_some o) session given)
    → Stands sessions new (happens q (Resends session))
    × (after ≡ before ++ said q (Resends session))
resend-does sessions old new q session given o before after st is lead makes args synced publishers consumers seats
    untold said' =
    offering-does sessions old new q (Resends session) session given o before after st
    (subst (IsOffering (Resends session) q session) (sym is) (resend-offers sessions old q session st)) lead makes args
    synced (st.clients ∙ ap (λ (p : _). clients_of sessions (numbers_of p)) (sym publishers))
    (st.consumers ∙ sym consumers) seats untold said'

-- ---- commands that are sent again

-- some of the commands were offered, and the others are left
pub record Resending (o : Option NodeId) (all rest : List Command) (old new : ClusterQueue) : Type 0 where
  pub done : List Command
  pub all_is : all ≡ done ++ rest
  pub made : Makes (submits (number_of o) done) old.group new.group
  pub only : new ≡ record old { group = new.group }

pub resending-none : (o : Option NodeId) (all : List Command) (d : ClusterQueue) → Resending o all all d d
resending-none o all d = record { done = []; all_is = refl; made = makes-none d.group; only = refl }

submits-more : (o : Option ℕ) (first second : List Command)
    → submits o (first ++ second) ≡ submits o first ++ submits o second
submits-more o first second = flat_map-append (submit_to o) first second

pub resending-more : (o : Option NodeId) (all rest : List Command) (command : Command) (old mid new : ClusterQueue)
    → Resending o all (command ∷ rest) old mid → Makes (submit_to (number_of o) command) mid.group new.group
    → new ≡ record mid { group = new.group } → Resending o all rest old new
resending-more o all rest command old mid new r makes only = record {
  done = r.done ++ command ∷ [];
  all_is = r.all_is ∙ sym (append_assoc r.done (command ∷ []) rest);
  made = λ args g it.
      let made = makes-then (submits (number_of o) r.done) (submits (number_of o) (command ∷ [])) old.group mid.group
      new.group r.made (one-makes o command mid.group new.group makes) args g it in (
        subst (λ (l : List Move). IsGroupOf args (group_after g l) new.group)
            (sym (submits-more (number_of o) r.done (command ∷ []))) made.0,
        made.1,
      );
  only = only ∙ ap (λ (d : ClusterQueue). let n : ClusterQueue = record d { group = new.group } in n) r.only;
}

pub resending-all : (o : Option NodeId) (all rest : List Command) (old new : ClusterQueue)
    → Resending o all rest old new → rest ≡ [] → Makes (submits (number_of o) all) old.group new.group
resending-all o all rest old new r none args g it =
    let made = r.made args g it in (
      subst (λ (l : List Command). IsGroupOf args (group_after g (submits (number_of o) l)) new.group)
          (sym (r.all_is ∙ ap (λ (l : List Command). r.done ++ l) none ∙ append-nil r.done)) made.0,
      made.1,
    )

-- the leader has refused one of them
pub resending-refused : (o : Option NodeId) (all rest : List Command) (command : Command) (old mid : ClusterQueue)
    (e : Memory) → Resending o all (command ∷ rest) old mid → o ≡ leader_of own_log old.group
    → AreSound mid.group → IsOfferCaused o command mid.group e → HasRefused all old e
resending-refused o all rest command old mid e r lead sound cause =
    subst (λ (x : Option NodeId). Makes (submits (number_of x) r.done) old.group mid.group
    → IsOfferCaused x command mid.group e → HasRefused all old e) (sym lead)
    (λ made because. record {
      before = r.done;
      command = command;
      behind = rest;
      is = r.all_is;
      group = mid.group;
      made = made;
      sound = sound;
      cause = because;
    }) r.made cause

pub nil-of : {A : Type 0} (xs : List A) → xs ≡ drop 1 xs → xs ≡ []
nil-of [] is = refl
nil-of {A = A} (x ∷ xs) is = let same = ap (λ (l : List A). length l) is in absurd (omega (arith, same))
