-- Of what a node's log was given no more is noticed than a sync has kept.
use Rattle.std.proofs.Common.{◌≡◌, ◌≢◌, ◌⊎◌, ◌≤◌, ◌+◌, ℕ, zero, suc, Bool, true, false, cond, List, [], ◌∷◌, ◌++◌, Option, Some, None, length, take, drop, refl, sym, ap, ◌∙◌, subst, inl, inr, arith, length-append}
use Rattle.std.specs.Prelude.{fold, is_some, nat_le, nat_lt, replicate, ◌&&◌}
use Rattle.std.proofs.lemmas.List.{length-take-le}
use Rattle.std.proofs.lemmas.Bool.{and_parts, cases_eq, cond_both, cond-false, cond-true, eqb-true, leb-true}
use Rattle.qq_base.proofs.Puts.{put-each, put-other, put-same}
use Rattle.qq_base.specs.Fronts.{put}
use Rattle.qq_entry.specs.declared.command.Command.{Command}
use Rattle.qq_entry.specs.declared.queue.QueueArgs.{QueueArgs}
use Rattle.qq_log.specs.Op.{number}
use Rattle.qq_log.specs.Stable.{Stable, add_segment, act, apply_op, change, follows, has_range, may_keep, may_rebase, new_state, rebase, stable, then_apply}
use Rattle.qq_log.specs.declared.op.Op.{Op}
use Rattle.qq_log.specs.declared.op.Op.TheVariants as ops
use Rattle.qq_raft_model.specs.Group.{Event as Move, Group, Seat, after_step, deliver_by, feed, feed_by, group_after, happens as moved, has_node, is_down, lane_with, may_restart, restart_by, take_by, take_op}
use Rattle.qq_raft_model.specs.Group.Event.{Tick, Submit, Add, Flush, Deliver, Lose, Copy, Take, Notice, Crash, Restart}
use Rattle.qq_raft_model.specs.Server.{Input, greater, restart, step}
use Rattle.qq_raft_model.specs.State.{Server}
use Rattle.qq_raft_model.proofs.Noticed.{noticed-is, noticed_by}
use Rattle.qq_raft_msg.specs.Rpc.{envelope}
use Rattle.qq_raft_msg.specs.declared.rpc.Rpc.{Rpc}
use Rattle.qq_cluster_model.specs.Laws.{CountsRise, IsBegun, queue_after}
use Rattle.qq_cluster_model.specs.Queue.{Queue, Event, Mutes, Ends, Submits, TellsEnded, TellsNotTaken, Attaches, Judges, Resends, Fetches, Downs, Ticks, Delivers, Loses, Copies, Writes, Syncs, Notices, Stops, Finds, after, begin, happens, leader, moves, offered, submits, synced_after, waiting}

-- ---- how many ops there are

act-op : (s t : Stable) (op : Op) → act s op ≡ Some t → t.op ≡ s.op
unfolding change rebase add_segment
act-op s t (ops.Change queue op term vote keep entries) is =
    cond_both (may_keep s keep.0) (Some (change s term vote keep.0 entries)) None
    (λ (o : Option Stable). o ≡ Some t → t.op ≡ s.op) (λ _ e. (let same : change s term vote keep.0 entries ≡ t = cc in
    ap (λ (u : Stable). u.op) (sym same))) (λ _ e. absurd cc) is
act-op s t (ops.SnapshotMade queue op head file) is =
    cond_both (may_rebase s head) (Some (rebase s head file)) None
    (λ (o : Option Stable). o ≡ Some t → t.op ≡ s.op) (λ _ e. (let same : rebase s head file ≡ t = cc in
    ap (λ (u : Stable). u.op) (sym same))) (λ _ e. absurd cc) is
act-op s t (ops.SegmentMade queue op file first last) is =
    cond_both (has_range s first.0 last.0) (Some (add_segment s file first last)) None
    (λ (o : Option Stable). o ≡ Some t → t.op ≡ s.op) (λ _ e. (let same : add_segment s file first last ≡ t = cc in
    ap (λ (u : Stable). u.op) (sym same))) (λ _ e. absurd cc) is

apply-op : (s t : Stable) (op : Op) → apply_op s op ≡ Some t → t.op ≡ s.op + 1
unfolding apply_op
apply-op s t op is =
    cond_both (follows s (number op)) (act (record s { op = number op }) op) None
    (λ (o : Option Stable). o ≡ Some t → t.op ≡ s.op + 1)
    (λ next e. act-op (record s { op = number op }) t op e ∙ eqb-true (number op) (s.op + 1) next)
    (λ _ e. absurd cc) is

none-stays : (all : List Op) → fold then_apply None all ≡ None
none-stays [] = refl
none-stays (op ∷ all) = none-stays all

count-ops : (all : List Op) (s t : Stable) → fold then_apply (Some s) all ≡ Some t → t.op ≡ s.op + length all
count-ops [] s t is =
    let same : s ≡ t = cc in
    let op = ap (λ (u : Stable). u.op) same in
    omega (arith, op)
count-ops (op ∷ all) s t is = by (apply_op s op) refl is (λ u e. count-ops all u t e)
  where
    by : (o : Option Stable) → apply_op s op ≡ o → fold then_apply o all ≡ Some t
        → ((u : Stable) → fold then_apply (Some u) all ≡ Some t → t.op ≡ u.op + length all)
        → t.op ≡ s.op + length (op ∷ all)
    by None none' e more = absurd (let same : None ≡ Some t = sym (none-stays all) ∙ e in cc)
    by (Some u) one e more =
        let later = more u e in
        let here = apply-op s u op one in
        omega (arith, later, here)

-- what ops come to has as many
stable-op : (all : List Op) (t : Stable) → stable all ≡ Some t → t.op ≡ length all
stable-op all t is = let so = count-ops all new_state t is in omega (arith, so)

-- ---- seats

pub record IsRight (synced : ℕ) (seat : Seat) : Type 0 where
  pub server : (s : Server) → seat.server ≡ Some s → s.noticed ≡ seat.noticed
  pub noticed : seat.noticed ≤ synced
  pub synced_is : synced ≤ length seat.ops

abbrev pub AreRight : (ℕ → ℕ) → Group → Type 0
AreRight synced g = (k : ℕ) → IsRight (synced k) (g.seat k)

-- one seat changes
one-seat : (synced : ℕ → ℕ) (k : ℕ) (seat : Seat) (old : ℕ → Seat) → IsRight (synced k) seat
    → ((i : ℕ) → IsRight (synced i) (old i)) → (i : ℕ) → IsRight (synced i) (put k seat old i)
one-seat synced k seat old new right =
    put-each (λ (i : ℕ) (x : Seat). IsRight (synced i) x) k seat old new (λ i other. right i)

right-step : (synced : ℕ → ℕ) (k : ℕ) (t : Server) (g : Group) → t.noticed ≤ synced k → AreRight synced g
    → AreRight synced (after_step k t g)
right-step synced k t g le right =
    one-seat synced k (record {
      server = Some (record t { out = [] });
      ops = (g.seat k).ops;
      noticed = t.noticed;
    }) g.seat
    (record {
      server = λ s is. (let same : record t { out = [] } ≡ s = cc in ap (λ (u : Server). u.noticed) (sym same));
      noticed = le;
      synced_is = (right k).synced_is;
    }) right

right-feed : (synced : ℕ → ℕ) (k : ℕ) (input : Input) (g : Group)
    → ((s : Server) → s.noticed ≤ synced k → noticed_by input s.noticed ≤ synced k) → AreRight synced g
    → AreRight synced (feed k input g)
right-feed synced k input g bound right = by (g.seat k).server refl
  where
    by : (o : Option Server) → (g.seat k).server ≡ o → AreRight synced (feed_by k input o g)
    by None is = right
    by (Some s) is =
        let own = (right k).server s is in
        let le = (right k).noticed in
        let low : s.noticed ≤ synced k = omega (arith, own, le) in
        let so = noticed-is s input in
        let most = bound s low in
        right-step synced k (step s input) g (omega (arith, so, most)) right

right-take : (synced : ℕ → ℕ) (k : ℕ) (g : Group) → AreRight synced g → AreRight synced (take_op k (g.seat k).server g)
right-take synced k g right = by (g.seat k).server refl
  where
    of : (s : Server) → (g.seat k).server ≡ Some s → (all : List Op) → AreRight synced (take_by k s all g)
    of s is [] = right
    of s is (op ∷ all) =
        let more = length-append (g.seat k).ops (op ∷ []) in
        let le = (right k).synced_is in
        one-seat synced k (record {
          server = Some (record s { ops = all });
          ops = (g.seat k).ops ++ op ∷ [];
          noticed = (g.seat k).noticed;
        }) g.seat
        (record {
          server = λ t e. (let same : record s { ops = all } ≡ t = cc in
              ap (λ (u : Server). u.noticed) (sym same) ∙ (right k).server s is);
          noticed = (right k).noticed;
          synced_is = omega (arith, more, le);
        }) right

    by : (o : Option Server) → (g.seat k).server ≡ o → AreRight synced (take_op k o g)
    by None is = right
    by (Some s) is = of s is s.ops

right-crash : (synced : ℕ → ℕ) (k : ℕ) (g : Group) → AreRight synced g → AreRight synced (moved (Crash k) g)
right-crash synced k g right =
    one-seat synced k (record { server = None; ops = (g.seat k).ops; noticed = (g.seat k).noticed }) g.seat
    (record {
      server = λ s is. absurd (let e : None ≡ Some s = is in cc);
      noticed = (right k).noticed;
      synced_is = (right k).synced_is;
    }) right

right-deliver : (synced : ℕ → ℕ) (before rest : List Rpc) (g : Group) → AreRight synced g
    → AreRight synced (deliver_by before rest g)
right-deliver synced before [] g right = right
right-deliver synced before (rpc ∷ rest) g right =
    right-feed synced (envelope rpc).to.0 (Input.Receive rpc) (record g { bag = before ++ rest }) (λ s le. le) right

-- ---- moves by which no count but of ops rises

abbrev IsPlain : Move → Type 0
IsPlain (Notice k op) = ⊥
IsPlain (Restart k op) = ⊥
IsPlain _ = Unit {0}

right-plain : (synced : ℕ → ℕ) (move : Move) (g : Group) → IsPlain move → AreRight synced g
    → AreRight synced (moved move g)
right-plain synced (Tick k) g plain right = right-feed synced k Input.Tick g (λ s le. le) right
right-plain synced (Submit k time command) g plain right =
    right-feed synced k (Input.Submit time command) g (λ s le. le) right
right-plain synced (Add k time command) g plain right =
    right-feed synced k (Input.Add time command) g (λ s le. le) right
right-plain synced (Flush k) g plain right = right-feed synced k Input.Flush g (λ s le. le) right
right-plain synced (Deliver at) g plain right = right-deliver synced (take at g.bag) (drop at g.bag) g right
right-plain synced (Lose at) g plain right = right
right-plain synced (Copy at) g plain right = right
right-plain synced (Take k) g plain right = right-take synced k g right
right-plain synced (Crash k) g plain right = right-crash synced k g right
right-plain synced (Notice k op) g plain right = absurd plain
right-plain synced (Restart k op) g plain right = absurd plain

abbrev ArePlain : List Move → Type 0
ArePlain [] = Unit {0}
ArePlain (move ∷ more) = IsPlain move × ArePlain more

right-all : (synced : ℕ → ℕ) (all : List Move) (g : Group) → ArePlain all → AreRight synced g
    → AreRight synced (group_after g all)
right-all synced [] g plain right = right
right-all synced (move ∷ more) g plain right =
    right-all synced more (moved move g) plain.1 (right-plain synced move g plain.0 right)

submits-plain : (o : Option ℕ) (given : List Command) → ArePlain (submits o given)
submits-plain o [] = tt
submits-plain None (command ∷ given) = submits-plain None given
submits-plain (Some k) (command ∷ given) = (tt, submits-plain (Some k) given)

takes-plain : (k count : ℕ) → ArePlain (replicate count (Take k))
takes-plain k zero = tt
takes-plain k (suc count) = (tt, takes-plain k count)

-- ---- notices, syncs and restarts

greater-most : (a b : ℕ) → a ≤ b → greater a b ≤ b
greater-most a b le = cond_both (nat_lt a b) b a (λ (n : ℕ). n ≤ b) (λ _. omega arith) (λ _. le)

right-notice : (synced : ℕ → ℕ) (k : ℕ) (g : Group) → AreRight synced g
    → AreRight synced (moved (Notice k (synced k)) g)
right-notice synced k g right =
    cond_both (nat_le (synced k) (length (g.seat k).ops)) (feed k (Input.Notice (synced k)) g) g (AreRight synced)
    (λ _. right-feed synced k (Input.Notice (synced k)) g (λ s le. greater-most s.noticed (synced k) le) right)
    (λ _. right)

right-sync : (q : Queue) (k : ℕ) → AreRight q.synced q.group → AreRight (synced_after q (Syncs k)) q.group
right-sync q k right =
    cond_both (is_some (q.group.seat k).server) (put k (length (q.group.seat k).ops) q.synced) q.synced
    (λ (synced : ℕ → ℕ). AreRight synced q.group)
    (λ _. put-each (λ (i n : ℕ). IsRight n (q.group.seat i)) k (length (q.group.seat k).ops) q.synced
    (let le = (right k).noticed in let most = (right k).synced_is in record {
      server = (right k).server;
      noticed = omega (arith, le, most);
      synced_is = omega arith;
    }) (λ i other. right i)) (λ _. right)

-- what holds of both new values, and of the others
both-put : {A B : Type 0} (P : A → B → Type 0) (k : ℕ) (x : A) (y : B) (f : ℕ → A) (g : ℕ → B) → P x y
    → ((i : ℕ) → P (f i) (g i)) → (i : ℕ) → P (put k x f i) (put k y g i)
both-put P k x y f g new old i = by (cases_eq i k)
  where
    by : ((i ≡ k) ⊎ (i ≢ k)) → P (put k x f i) (put k y g i)
    by (inl e) =
        subst (λ (j : ℕ). P (put k x f j) (put k y g j)) (sym e)
        (subst (λ z. P z (put k y g k)) (sym (put-same k x f)) (subst (P x) (sym (put-same k y g)) new))
    by (inr other) =
        subst (λ z. P z (put k y g i)) (sym (put-other k x f i other))
        (subst (P (f i)) (sym (put-other k y g i other)) (old i))

record MayFind (k op : ℕ) (g : Group) : Type 0 where
  pub low : (g.seat k).noticed ≤ op
  pub high : op ≤ length (g.seat k).ops

may-find : (k op : ℕ) (g : Group) → may_restart k op g ≡ true → MayFind k op g
may-find k op g is =
    let rest = (and_parts (is_down (g.seat k).server)
    (has_node k g.nodes && (nat_le (g.seat k).noticed op && nat_le op (length (g.seat k).ops))) is).1 in
    let bounds = (and_parts (has_node k g.nodes)
    (nat_le (g.seat k).noticed op && nat_le op (length (g.seat k).ops)) rest).1 in
    let both = and_parts (nat_le (g.seat k).noticed op) (nat_le op (length (g.seat k).ops)) bounds in
    record { low = leb-true (g.seat k).noticed op both.0; high = leb-true op (length (g.seat k).ops) both.1 }

right-restart : (synced : ℕ → ℕ) (k op : ℕ) (g : Group) → AreRight synced g → may_restart k op g ≡ true
    → AreRight (put k op synced) (moved (Restart k op) g)
right-restart synced k op g right may =
    subst (AreRight (put k op synced))
    (sym (cond-true (may_restart k op g) (restart_by k op (stable (take op (g.seat k).ops)) g) g may))
    (by (stable (take op (g.seat k).ops)) refl)
  where
    bounds : MayFind k op g
    bounds = may-find k op g may

    by : (o : Option Stable) → stable (take op (g.seat k).ops) ≡ o → AreRight (put k op synced) (restart_by k op o g)
    by None is =
        put-each (λ (i n : ℕ). IsRight n (g.seat i)) k op synced
        (record { server = (right k).server; noticed = bounds.low; synced_is = bounds.high }) (λ i other. right i)
    by (Some state) is =
        let seat : Seat = record {
          server = Some (restart (record { 0 = k }) g.nodes (lane_with g.queue state));
          ops = take op (g.seat k).ops;
          noticed = op;
        } in
        let long = length-take-le op (g.seat k).ops bounds.high in
        both-put (λ (n : ℕ) (x : Seat). IsRight n x) k op seat synced g.seat
        (record {
          server = λ s e. (let same : restart (record { 0 = k }) g.nodes (lane_with g.queue state) ≡ s = cc in
              ap (λ (u : Server). u.noticed) (sym same) ∙ stable-op (take op (g.seat k).ops) state is ∙ long);
          noticed = omega arith;
          synced_is = omega (arith, long);
        }) right

right-found : (q : Queue) (k op : ℕ) → AreRight q.synced q.group
    → AreRight (synced_after q (Finds k op)) (moved (Restart k op) q.group)
right-found q k op right = by (may_restart k op q.group) refl
  where
    by : (b : Bool) → may_restart k op q.group ≡ b
        → AreRight (cond (may_restart k op q.group) (put k op q.synced) q.synced) (moved (Restart k op) q.group)
    by true may =
        subst (λ (synced : ℕ → ℕ). AreRight synced (moved (Restart k op) q.group))
        (sym (cond-true (may_restart k op q.group) (put k op q.synced) q.synced may))
        (right-restart q.synced k op q.group right may)
    by false not' =
        subst (λ (synced : ℕ → ℕ). AreRight synced (moved (Restart k op) q.group))
        (sym (cond-false (may_restart k op q.group) (put k op q.synced) q.synced not'))
        (subst (AreRight q.synced) (sym (cond-false (may_restart k op q.group)
        (restart_by k op (stable (take op (q.group.seat k).ops)) q.group) q.group not')) right)

-- ---- queues

abbrev pub IsCounted : Queue → Type 0
IsCounted q = AreRight q.synced q.group

pub counted-event : (q : Queue) (event : Event) → IsCounted q → IsCounted (happens q event)
counted-event q (Mutes session muted) right = right
counted-event q (Ends session) right = right
counted-event q (TellsEnded session) right = right
counted-event q (TellsNotTaken session id) right = right
counted-event q (Attaches session tag number) right = right
counted-event q (Judges verdict) right = right
counted-event q (Fetches session) right = right
counted-event q (Submits session body) right = right-all q.synced (moves q (Submits session body)) q.group
    (submits-plain (leader q.group) (offered q.clients (Submits session body))) right
counted-event q (Resends session) right = right-all q.synced (moves q (Resends session)) q.group
    (submits-plain (leader q.group) (offered q.clients (Resends session))) right
counted-event q (Downs session) right = right-all q.synced (moves q (Downs session)) q.group
    (submits-plain (leader q.group) (offered q.clients (Downs session))) right
counted-event q (Ticks k) right = right-plain q.synced (Tick k) q.group tt right
counted-event q (Delivers at) right = right-plain q.synced (Deliver at) q.group tt right
counted-event q (Loses at) right = right-plain q.synced (Lose at) q.group tt right
counted-event q (Copies at) right = right-plain q.synced (Copy at) q.group tt right
counted-event q (Writes k) right =
    right-all q.synced (moves q (Writes k)) q.group (takes-plain k (waiting k q.group)) right
counted-event q (Syncs k) right = right-sync q k right
counted-event q (Notices k) right = right-notice q.synced k q.group right
counted-event q (Stops k) right = right-crash q.synced k q.group right
counted-event q (Finds k op) right = right-found q k op right

pub counted-all : (q : Queue) (events : List Event) → IsCounted q → IsCounted (after q events)
counted-all q [] right = right
counted-all q (event ∷ events) right = counted-all (happens q event) events (counted-event q event right)

pub counted-new : (args : QueueArgs) (group : Group) → IsBegun group → IsCounted (begin args group)
counted-new args group begun k = record {
  server = λ s is. absurd (let e : None ≡ Some s = sym (begun.opened.down.down k) ∙ is in cc);
  noticed = omega arith;
  synced_is = begun.opened.down.noticed k;
}

pub counts-rise : (args : QueueArgs) (group : Group) (events : List Event) (k : ℕ) → IsBegun group
    → CountsRise (queue_after args group events) k
counts-rise args group events k begun =
    let right = counted-all (begin args group) events (counted-new args group begun) k in
    record { noticed = right.noticed; synced = right.synced_is }
