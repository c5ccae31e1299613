-- The leader hears the answers.
use Rattle.std.proofs.Common.{◌≡◌, ◌≢◌, ◌⊎◌, ℕ, suc, ◌≤◌, ◌<◌, ◌+◌, Bool, true, false, cond, eqb, List, [], ◌∷◌, ◌++◌, length, map, take, Some, refl, sym, ap, ◌∙◌, subst, inl, inr, arith, append_assoc, append-nil, length-append}
use Rattle.std.proofs.Math.ListN.{drop_of_length-le}
use Rattle.std.proofs.lemmas.List.{length-take}
use Rattle.std.specs.Prelude.{Contains, replicate}
use Rattle.std.specs.List.{AllByRecursion}
use Rattle.std.proofs.lemmas.Bool.{and_from, eq-eqb, cases_lt}
use Rattle.std.proofs.lemmas.List.Elements.{Contains-append_left, Contains-append_right}
use Rattle.qq_base.proofs.Lists.{In-map}
use Rattle.qq_entry.specs.declared.audit.AuditRow.{AuditRow}
use Rattle.qq_entry.specs.declared.command.Entry.{Entry}
use Rattle.qq_entry.specs.declared.queue.QueueArgs.{QueueArgs}
use Rattle.qq_model.proofs.Soundness.{Contains-in, in_contains}
use Rattle.qq_raft_msg.specs.Rpc.{envelope}
use Rattle.qq_raft_msg.specs.declared.rpc.AppendedMsg.{AppendedMsg}
use Rattle.qq_raft_msg.specs.declared.rpc.Rpc.{Rpc}
use Rattle.qq_raft_msg.specs.declared.rpc.Rpc.TheVariants.{Appended}
use Rattle.qq_raft_model.specs.Group.{Seat}
use Rattle.qq_raft_model.specs.Server.{Input, is_ready, receive}
use Rattle.qq_raft_model.specs.State.{Server, is_leader, last, term_at}
use Rattle.qq_cluster_model.specs.Queue.{Queue, Delivers, after, all_said, happens, own_effects, own_rows, rows_told, said}
use Rattle.qq_cluster_model.proofs.Takerless.{told-answers}
use Rattle.qq_session.specs.Clients.{Clients, hear_all, printed}
use Rattle.qq_session.specs.declared.shown.Shown.{Shown}
use Rattle.qq_session.specs.declared.shown.Shown.TheVariants.{Answered}
use Rattle.qq_session.specs.Shown.{effects_of_term}
use Rattle.qq_entry.specs.declared.audit.Effect.{Effect}
use Rattle.qq_model.specs.Audit.{state_after}
use Rattle.qq_model.specs.State.{empty_queue}
use Rattle.qq_cluster_progress_laws.proofs.Delivering.{IsReply, Plan}
use Rattle.qq_cluster_progress_laws.proofs.Exchange.{Replied, delivers, same_some}
use Rattle.qq_cluster_progress_laws.proofs.Feeding.{Feeds, FeedsOne, effects-told, feeds-one, rows-told}
use Rattle.qq_cluster_progress_laws.proofs.Following.{IsQuiet, QuietBefore, delivers-quiet, quiet-cons}
use Rattle.qq_cluster_progress_laws.proofs.Leader.{HasOwnCommit, HasUpTo, Hears, Waits, appended-hears}
use Rattle.qq_cluster_progress_laws.proofs.Printing.{Awaits, IsAskedBy, IsOther, Tells, own-tells, row_after}

-- ---- what is shown

-- what some events leave of a number that is open before the entry is committed, and what they show then
pub record Shows (i commit after : ℕ) (session seq : ℕ) (row : AuditRow) (old new : Clients) (shown : List Shown)
    : Type 0 where
  pub waits : after < i → Awaits session seq old → Awaits session seq new
  pub tells : commit < i → i ≤ after → Awaits session seq old → Contains shown (Answered row)

pub shows-then : (i a b c session seq : ℕ) (row : AuditRow) (x y z : Clients) (first second : List Shown) → b ≤ c
    → Shows i a b session seq row x y first → Shows i b c session seq row y z second
    → Shows i a c session seq row x z (first ++ second)
shows-then i a b c session seq row x y z first second le one two = record {
  waits = λ lt awaits. two.waits lt (one.waits (omega (arith, le, lt)) awaits);
  tells = λ lt reaches awaits. elim (cases_lt b i) [
    | inl before ↦ Contains-append_right first second (Answered row) (two.tells before reaches (one.waits before awaits))
    | inr done ↦ Contains-append_left first second (Answered row) (one.tells lt done awaits)
  ];
}

-- nothing happens to the leader and the clients
pub shows-nothing : (i a session seq : ℕ) (row : AuditRow) (x y : Clients) (shown : List Shown) → y ≡ x
    → Shows i a a session seq row x y shown
shows-nothing i a session seq row x y shown same = record {
  waits = λ lt awaits. subst (Awaits session seq) (sym same) awaits;
  tells = λ lt le. absurd (omega (arith, lt, le));
}

pub contains-map : {A B : Type 0} (f : A → B) (x : A) (xs : List A) → Contains xs x → Contains (map f xs) (f x)
contains-map f x xs here = Contains-in (f x) (map f xs) (In-map f x xs (in_contains xs x here))

pub shows-told : (i commit after session seq : ℕ) (row : AuditRow) (old new : Clients) (rows : List AuditRow)
    (shown : List Shown) → Tells i commit after session seq row old new rows
    → (Contains (map Answered rows) (Answered row) → Contains shown (Answered row))
    → Shows i commit after session seq row old new shown
shows-told i commit after session seq row old new rows shown tells into = record {
  waits = tells.waits;
  tells = λ lt le awaits. into (contains-map Answered row rows (tells.tells lt le awaits));
}

-- ---- the leader

-- its log is the plan's with the entry
pub record LeaderIs (p : Plan) (e : Entry) (q : Queue) (s : Server) : Type 0 where
  pub up : (q.group.seat p.node).server ≡ Some s
  pub waits : Waits p.upto p.most s
  pub log : s.log ≡ p.log ++ e ∷ []
  pub term : s.term.0 ≡ p.term

pub leads-ready : (i : ℕ) (most : ℕ → Bool) (s : Server) → Waits i most s → HasOwnCommit s → is_ready s ≡ true
leads-ready i most s waits own =
    and_from (is_leader s.role) (eqb (term_at s.log s.commit) s.term.0) (ap is_leader waits.may.leads)
    (eq-eqb (term_at s.log s.commit) s.term.0 own)

pub upto-is : (p : Plan) (e : Entry) (s : Server) → last s ≡ p.upto → s.log ≡ p.log ++ e ∷ []
    → p.upto ≡ length p.log + 1
upto-is p e s is log =
    let long = ap length log in
    let more = length-append p.log (e ∷ []) in
    omega (arith, is, long, more)

-- what holds of a command's number
pub record IsGiven (p : Plan) (e : Entry) (session seq : ℕ) : Type 0 where
  pub others : AllByRecursion (IsOther session seq) p.log
  pub asked : IsAskedBy session seq e

-- what the leader's step tells
pub leader-tells : (p : Plan) (e : Entry) (session seq : ℕ) (args : QueueArgs) (s t : Server) (clients : Clients)
    → IsGiven p e session seq → e.term.0 ≡ p.term → Waits p.upto p.most t → t.log ≡ p.log ++ e ∷ []
    → t.term.0 ≡ p.term → HasOwnCommit t
    → Tells p.upto s.commit t.commit session seq (row_after args p.log e) clients
    (hear_all (own_rows args s t) clients) (printed (own_rows args s t) clients)
leader-tells p e session seq args s t clients given own waits log term ready =
    let upto = upto-is p e t waits.may.last_is log in
    let within = waits.may.within in
    subst (λ (i : ℕ). Tells i s.commit t.commit session seq (row_after args p.log e) clients
    (hear_all (own_rows args s t) clients) (printed (own_rows args s t) clients)) (sym upto)
    (own-tells session seq args p.log e given.others given.asked s t log (leads-ready p.upto p.most t waits ready)
    (own ∙ sym term) (omega (arith, upto, within)) clients)

pub waits-out : (i : ℕ) (most : ℕ → Bool) (s : Server) (out : List Rpc) → Waits i most s
    → Waits i most (record s { out = out })
waits-out i most s out waits = record {
  may = record {
    leads = waits.may.leads;
    last_is = waits.may.last_is;
    own = waits.may.own;
    within = waits.may.within;
    noticed = waits.may.noticed;
    majority = waits.may.majority;
  };
  counts = waits.counts;
}

-- answers were delivered to the leader
pub record HasHeardAll (p : Plan) (e : Entry) (q r : Queue) (s : Server) (rs : List Rpc) (shown : List Shown) : Type 0
  where
    pub server : Server
    pub is : LeaderIs p e r server
    pub rises : s.commit ≤ server.commit
    pub keeps : (j : ℕ) → HasUpTo p.upto j s.peers → HasUpTo p.upto j server.peers
    pub gains : (j : ℕ) → p.most j ≡ true → Replied j rs → HasUpTo p.upto j server.peers
    pub args : r.args ≡ q.args
    pub others : (i : ℕ) → i ≢ p.node → r.group.seat i ≡ q.group.seat i
    pub synced : r.synced ≡ q.synced
    pub given : (r.group.seat p.node).ops ≡ (q.group.seat p.node).ops
    pub ops : server.ops ≡ s.ops
    pub ready : HasOwnCommit s → HasOwnCommit server
    pub shows : (session seq : ℕ) → IsGiven p e session seq → HasOwnCommit s
        → Shows p.upto s.commit server.commit session seq (row_after q.args p.log e) q.clients r.clients shown

-- where the commit doesn't rise nothing is done
pub no-effects : (args : QueueArgs) (s t : Server) → t.commit ≤ s.commit → own_effects args s t ≡ []
no-effects args s t le =
    let all : List Entry = take t.commit t.log in
    let short : length all ≤ s.commit = (let l = length-take t.commit t.log in omega (arith, l, le)) in
    ap (λ (l : List Entry). cond (is_ready t)
    (effects_of_term t.term (state_after (empty_queue args) (take s.commit all)) l) []) (drop_of_length-le all short)
    ∙ both (is_ready t)
  where
    both : (b : Bool) → cond {A = List Effect} b [] [] ≡ []
    both true = refl
    both false = refl

module _ (p : Plan) (e : Entry) (own : e.term.0 ≡ p.term) where
  -- one answer
  pub one-heard : (q : Queue) (s : Server) (m : AppendedMsg) (rest : List Rpc) → LeaderIs p e q s
      → q.group.bag ≡ Appended m ∷ rest → m.term.0 ≡ p.term → m.to.0 ≡ p.node
      → (p.most m.from.0 ≡ true → (m.ok ≡ true) × (m.index.0 ≡ p.upto))
      → (out : List Rpc) × ((happens q (Delivers 0)).group.bag ≡ rest ++ out)
      × HasHeardAll p e q (happens q (Delivers 0)) s (Appended m ∷ []) (said q (Delivers 0))
  one-heard q s m rest leader bag term to good = (u.out, f.bag, all)
    where
      u : Server
      u = receive (Appended m) s

      feeds : Feeds q (Delivers 0) p.node (Input.Receive (Appended m)) rest
      feeds = subst (λ (n : ℕ). Feeds q (Delivers 0) n (Input.Receive (Appended m)) rest) to
          (delivers q (Appended m) rest bag)

      f : FeedsOne q (happens q (Delivers 0)) p.node s u rest
      f = feeds-one q (Delivers 0) p.node (Input.Receive (Appended m)) rest s feeds leader.up

      a : Waits p.upto p.most u × Hears p.upto s u
          × (m.ok ≡ true → p.upto ≤ m.index.0 → HasUpTo p.upto m.from.0 u.peers)
      a = appended-hears p.upto p.most m s leader.waits (term ∙ sym leader.term)

      t : Server
      t = record u { out = [] }

      waits : Waits p.upto p.most t
      waits = waits-out p.upto p.most u [] a.0

      log : t.log ≡ p.log ++ e ∷ []
      log = a.1.log ∙ leader.log

      term_is : t.term.0 ≡ p.term
      term_is = ap (λ x. x.0) a.1.term ∙ leader.term

      rows : rows_told q (Delivers 0) ≡ own_rows q.args s t
      rows = rows-told q (Delivers 0) p.node (Input.Receive (Appended m)) rest s feeds leader.up

      all : HasHeardAll p e q (happens q (Delivers 0)) s (Appended m ∷ []) (said q (Delivers 0))
      all = record {
        server = t;
        is = record { up = ap (λ (x : Seat). x.server) f.seat; waits = waits; log = log; term = term_is };
        rises = a.1.rises;
        keeps = a.1.keeps;
        gains = λ j counts replied. elim replied.here [
          | inl same ↦ (let from : m.from.0 ≡ j = ap (λ (x : Rpc). (envelope x).from.0) (sym same) ∙ replied.from in
              let g = good (ap p.most from ∙ counts) in
              subst (λ (n : ℕ). HasUpTo p.upto n u.peers) from (a.2 g.0 (let is = g.1 in omega (arith, is))))
          | inr later ↦ absurd later
        ];
        args = f.args;
        others = f.others;
        synced = f.synced;
        given = ap (λ (x : Seat). x.ops) f.seat;
        ops = a.1.ops;
        ready = a.1.ready;
        shows = λ session seq given old.
            shows-told p.upto s.commit t.commit session seq (row_after q.args p.log e) q.clients
            (happens q (Delivers 0)).clients (printed (own_rows q.args s t) q.clients) (said q (Delivers 0))
            (subst (λ (c : Clients). Tells p.upto s.commit t.commit session seq (row_after q.args p.log e) q.clients c
            (printed (own_rows q.args s t) q.clients)) (sym f.clients)
            (leader-tells p e session seq q.args s t q.clients given own waits log term_is (a.1.ready old)))
            (λ here. told-answers q (Delivers 0) (Answered (row_after q.args p.log e))
            (subst (λ (l : List AuditRow). Contains (map Answered (printed l q.clients))
            (Answered (row_after q.args p.log e))) (sym rows) here));
      }

  -- all that are there
  pub all-heard : (rs more : List Rpc) (q : Queue) (s : Server) → LeaderIs p e q s → q.group.bag ≡ rs ++ more
      → AllByRecursion (IsReply p) rs
      → HasHeardAll p e q (after q (replicate (length rs) (Delivers 0))) s rs
      (all_said q (replicate (length rs) (Delivers 0)))
  all-heard [] more q s leader bag replies = record {
    server = s;
    is = leader;
    rises = omega arith;
    keeps = λ j has. has;
    gains = λ j counts replied. absurd replied.here;
    args = refl;
    others = λ i other. refl;
    synced = refl;
    given = refl;
    ops = refl;
    ready = λ old. old;
    shows = λ session seq given old.
        shows-nothing p.upto s.commit session seq (row_after q.args p.log e) q.clients q.clients [] refl;
  }
  all-heard (r ∷ rs) more q s leader bag replies =
      let reply : IsReply p r = replies.0 in
      let m : AppendedMsg = reply.msg in
      let first =
      one-heard q s m (rs ++ more) leader (bag ∙ ap (λ (x : Rpc). x ∷ rs ++ more) reply.is) reply.term reply.to
      reply.good in
      let next : Queue = happens q (Delivers 0) in
      let one = first.2 in
      let two =
      all-heard rs (more ++ first.0) next one.server one.is (first.1 ∙ append_assoc rs more first.0) replies.1 in
      let a = one.rises in
      let b = two.rises in
      record {
        server = two.server;
        is = two.is;
        rises = omega (arith, a, b);
        keeps = λ j has. two.keeps j (one.keeps j has);
        gains = λ j counts replied. elim replied.here [
          | inl same ↦ two.keeps j (one.gains j counts
              (record { msg = replied.msg; here = inl (same ∙ reply.is); from = replied.from }))
          | inr later ↦ two.gains j counts (record { msg = replied.msg; here = later; from = replied.from })
        ];
        args = two.args ∙ one.args;
        others = λ i other. two.others i other ∙ one.others i other;
        synced = two.synced ∙ one.synced;
        given = two.given ∙ one.given;
        ops = two.ops ∙ one.ops;
        ready = λ old. two.ready (one.ready old);
        shows = λ session seq given old.
            shows-then p.upto s.commit one.server.commit two.server.commit session seq (row_after q.args p.log e)
            q.clients next.clients (after next (replicate (length rs) (Delivers 0))).clients (said q (Delivers 0))
            (all_said next (replicate (length rs) (Delivers 0))) b (one.shows session seq given old)
            (subst (λ (args : QueueArgs). Shows p.upto one.server.commit two.server.commit session seq
            (row_after args p.log e) next.clients (after next (replicate (length rs) (Delivers 0))).clients
            (all_said next (replicate (length rs) (Delivers 0)))) one.args (two.shows session seq given (one.ready old)));
      }

  -- ---- where nothing is handed out before the entry is committed

  heard-quiet : (q : Queue) (s t : Server) (m : AppendedMsg) (rest rs : List Rpc) (shown : List Shown) → LeaderIs p e q s
      → q.group.bag ≡ Appended m ∷ rest → m.to.0 ≡ p.node → HasHeardAll p e q (happens q (Delivers 0)) s rs shown
      → t.commit ≤ s.commit → LeaderIs p e (happens q (Delivers 0)) t → IsQuiet q → IsQuiet (happens q (Delivers 0))
  heard-quiet q s t m rest rs shown leader bag to one le is quiet =
      let u : Server = receive (Appended m) s in
      let feeds : Feeds q (Delivers 0) p.node (Input.Receive (Appended m)) rest =
      subst (λ (n : ℕ). Feeds q (Delivers 0) n (Input.Receive (Appended m)) rest) to
      (delivers q (Appended m) rest bag) in
      let f : FeedsOne q (happens q (Delivers 0)) p.node s u rest =
      feeds-one q (Delivers 0) p.node (Input.Receive (Appended m)) rest s feeds leader.up in
      let same : record u { out = [] } ≡ t =
      same_some (record u { out = [] }) t (sym (ap (λ (x : Seat). x.server) f.seat) ∙ is.up) in
      delivers-quiet q 0 quiet
      (effects-told q (Delivers 0) p.node (Input.Receive (Appended m)) rest s feeds leader.up
      ∙ ap (own_effects q.args s) same ∙ no-effects q.args s t le)

  heard-then : (q next r : Queue) (s : Server) (rs : List Rpc) (a b : List Shown)
      → (one : HasHeardAll p e q next s rs a) → HasHeardAll p e next r one.server [] b
      → HasHeardAll p e q r s [] (a ++ b)
  heard-then q next r s rs a b one two =
      let x = one.rises in
      let y = two.rises in
      record {
        server = two.server;
        is = two.is;
        rises = omega (arith, x, y);
        keeps = λ j has. two.keeps j (one.keeps j has);
        gains = λ j counts replied. absurd replied.here;
        args = two.args ∙ one.args;
        others = λ i other. two.others i other ∙ one.others i other;
        synced = two.synced ∙ one.synced;
        given = two.given ∙ one.given;
        ops = two.ops ∙ one.ops;
        ready = λ old. two.ready (one.ready old);
        shows = λ session seq given old.
            shows-then p.upto s.commit one.server.commit two.server.commit session seq (row_after q.args p.log e)
            q.clients next.clients r.clients a b y (one.shows session seq given old)
            (subst (λ (args : QueueArgs). Shows p.upto one.server.commit two.server.commit session seq
            (row_after args p.log e) next.clients r.clients b) one.args (two.shows session seq given (one.ready old)));
      }

  -- one answer, in the words of the first answers
  heard-one : (q : Queue) (s : Server) (rs : List Rpc)
      → (one : HasHeardAll p e q (happens q (Delivers 0)) s rs (said q (Delivers 0)))
      → HasHeardAll p e q (after q (Delivers 0 ∷ [])) s [] (all_said q (Delivers 0 ∷ []))
  heard-one q s rs one =
      subst (HasHeardAll p e q (happens q (Delivers 0)) s []) (sym (append-nil (said q (Delivers 0)))) (record {
        server = one.server;
        is = one.is;
        rises = one.rises;
        keeps = one.keeps;
        gains = λ j counts replied. absurd replied.here;
        args = one.args;
        others = one.others;
        synced = one.synced;
        given = one.given;
        ops = one.ops;
        ready = one.ready;
        shows = one.shows;
      })

  -- the first answers, by which the entry is committed
  pub record HeardPart (q : Queue) (s : Server) (n : ℕ) : Type 0 where
    pub count : ℕ
    pub rest : ℕ
    pub split : count + rest ≡ n
    pub quiet : QuietBefore q (replicate count (Delivers 0))
    pub heard : HasHeardAll p e q (after q (replicate count (Delivers 0))) s []
        (all_said q (replicate count (Delivers 0)))
    pub reaches : p.upto ≤ heard.server.commit

  part-one : (q : Queue) (s : Server) (rs : List Rpc) (n : ℕ)
      → (one : HasHeardAll p e q (happens q (Delivers 0)) s rs (said q (Delivers 0))) → p.upto ≤ one.server.commit
      → HeardPart q s (n + 1)
  unfolding heard-one
  part-one q s rs n one reaches = record {
    count = 1;
    rest = n;
    split = omega arith;
    quiet = tt;
    heard = heard-one q s rs one;
    reaches = reaches;
  }

  part-more : (q : Queue) (s : Server) (rs : List Rpc) (n : ℕ)
      → (one : HasHeardAll p e q (happens q (Delivers 0)) s rs (said q (Delivers 0)))
      → IsQuiet (happens q (Delivers 0)) → HeardPart (happens q (Delivers 0)) one.server n → HeardPart q s (n + 1)
  unfolding heard-then
  part-more q s rs n one quiet part = record {
    count = suc part.count;
    rest = part.rest;
    split = (let split = part.split in omega (arith, split));
    quiet = quiet-cons q (Delivers 0) (replicate part.count (Delivers 0)) quiet part.quiet;
    heard = heard-then q (happens q (Delivers 0)) (after q (replicate (suc part.count) (Delivers 0))) s rs
        (said q (Delivers 0)) (all_said (happens q (Delivers 0)) (replicate part.count (Delivers 0))) one part.heard;
    reaches = part.reaches;
  }

  pub heard-cut : (rs more : List Rpc) (q : Queue) (s : Server) → LeaderIs p e q s → q.group.bag ≡ rs ++ more
      → AllByRecursion (IsReply p) rs → p.upto ≡ s.commit + 1 → IsQuiet q
      → QuietBefore q (replicate (length rs) (Delivers 0)) ⊎ HeardPart q s (length rs)
  heard-cut [] more q s leader bag replies next-is quiet = inl tt
  heard-cut (r ∷ rs) more q s leader bag replies next-is quiet =
      let reply : IsReply p r = replies.0 in
      let m : AppendedMsg = reply.msg in
      let here : q.group.bag ≡ Appended m ∷ rs ++ more = bag ∙ ap (λ (x : Rpc). x ∷ rs ++ more) reply.is in
      let first = one-heard q s m (rs ++ more) leader here reply.term reply.to reply.good in
      let next : Queue = happens q (Delivers 0) in
      let one = first.2 in
      let rose = one.rises in
      elim (cases_lt one.server.commit p.upto) [
        | inl below ↦
            let waits : IsQuiet next =
            heard-quiet q s one.server m (rs ++ more) (Appended m ∷ []) (said q (Delivers 0)) leader here reply.to one
            (omega (arith, below, next-is)) one.is quiet in
            elim (heard-cut rs (more ++ first.0) next one.server one.is (first.1 ∙ append_assoc rs more first.0) replies.1
            (omega (arith, below, next-is, rose)) waits) [
              | inl all ↦ inl (quiet-cons q (Delivers 0) (replicate (length rs) (Delivers 0)) waits all)
              | inr part ↦ inr (subst (HeardPart q s) (omega arith)
                  (part-more q s (Appended m ∷ []) (length rs) one waits part))
            ]
        | inr reaches ↦ inr (subst (HeardPart q s) (omega arith) (part-one q s (Appended m ∷ []) (length rs) one reaches))
      ]
