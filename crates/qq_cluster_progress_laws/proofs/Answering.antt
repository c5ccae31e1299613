-- The members' answers leave once their changes are durable.
use Rattle.std.proofs.Common.{◌≡◌, ◌≢◌, ℕ, ◌<◌, Bool, true, false, List, [], ◌∷◌, ◌++◌, length, Option, Some, None, refl, sym, ap, ◌∙◌, subst, inl, inr, arith}
use Rattle.std.specs.List.{AllByRecursion}
use Rattle.std.proofs.lemmas.Bool.{cases_eq}
use Rattle.qq_base.proofs.Lists.{AllByRecursion-append}
use Rattle.qq_base.specs.declared.ids.NodeId.{NodeId}
use Rattle.qq_entry.specs.declared.audit.AuditRow.{AuditRow}
use Rattle.qq_log.specs.declared.op.Op.{Op}
use Rattle.qq_raft_protocol.specs.Facts.{In}
use Rattle.qq_raft_msg.specs.declared.rpc.Rpc.{Rpc}
use Rattle.qq_raft_model.specs.Group.{Group, Seat}
use Rattle.qq_raft_model.specs.Server.{notice}
use Rattle.qq_raft_model.specs.State.{Server}
use Rattle.qq_cluster_model.specs.Queue.{Queue, Event, after}
use Rattle.qq_cluster_model.proofs.Groups.{after-append}
use Rattle.qq_session.specs.Clients.{hear_all}
use Rattle.qq_cluster_progress_laws.specs.Alone.{turn, turn_where, turns}
use Rattle.qq_cluster_progress_laws.proofs.Exchange.{Goes, HasHeard, Pends, Replied, Talk, heard-more, none-effects, none-own, replied-left, replied-right, same_some, some_none}
use Rattle.qq_cluster_progress_laws.proofs.Member.{follower-notice, rpcs_of}
use Rattle.qq_cluster_progress_laws.proofs.Rounds.{IsSettled, rests-refl}
use Rattle.qq_cluster_progress_laws.proofs.Sound.{AreHanded, IsSound, ops-counted, sound-all}
use Rattle.qq_cluster_progress_laws.proofs.Turns.{HasNone, IsEven, Rests, Tells, rests-quiet, turn-quiet, turn-rests, turn-tells}
use Rattle.qq_cluster_progress_laws.proofs.Following.{AllQuiet, IsQuiet, quiet-after, quiet-append}

-- all others have heard of the entry, and only answers are on their way
pub record IsAnswering (p : Talk) (q : Queue) (rs : List Rpc) : Type 0 where
  pub bag : q.group.bag ≡ rs
  pub replies : AllByRecursion p.Reply rs
  pub heard : (j : ℕ) → j ≢ p.node → HasHeard p rs j (q.group.seat j)
  pub even : (j : ℕ) → p.up j ≡ true → IsEven j q
  pub leader : HasNone p.node q

pub record Keeps (p : Talk) (q r : Queue) : Type 0 where
  pub leader : r.group.seat p.node ≡ q.group.seat p.node
  pub clients : r.clients ≡ q.clients
  pub args : r.args ≡ q.args

keeps-refl : (p : Talk) (q : Queue) → Keeps p q q
keeps-refl p q = record { leader = refl; clients = refl; args = refl }

pub keeps-then : (p : Talk) (q r s : Queue) → Keeps p q r → Keeps p r s → Keeps p q s
keeps-then p q r s a b =
    record { leader = b.leader ∙ a.leader; clients = b.clients ∙ a.clients; args = b.args ∙ a.args }

-- what turns have left: answers that count are on their way
pub record HaveAnswered (p : Talk) (q r : Queue) (rs : List Rpc) (nodes : List ℕ) : Type 0 where
  pub more : List Rpc
  pub answering : IsAnswering p r more
  pub keeps : Keeps p q r
  pub old : (i : ℕ) → Replied i rs → Replied i more
  pub still : (i : ℕ) → HasNone i q → HasNone i r
  pub none : (i : ℕ) → In i nodes → p.up i ≡ true → HasNone i r
  pub own : (i : ℕ) → In i nodes → p.up i ≡ true → i ≢ p.node → p.most i ≡ true → Replied i more

answering-rests : (p : Talk) (q r : Queue) (rs : List Rpc) → Rests q r → IsAnswering p q rs → IsAnswering p r rs
answering-rests p q r rs rests a = record {
  bag = ap (λ (g : Group). g.bag) rests.group ∙ a.bag;
  replies = a.replies;
  heard = λ j other. subst (HasHeard p rs j) (ap (λ (g : Group). g.seat j) (sym rests.group)) (a.heard j other);
  even = λ j node_up. (let e = a.even j node_up in record {
    synced = rests.synced j ∙ e.synced ∙ ap (λ (g : Group). length (g.seat j).ops) (sym rests.group);
    noticed = ap (λ (g : Group). (g.seat j).noticed) rests.group ∙ e.noticed
        ∙ ap (λ (g : Group). length (g.seat j).ops) (sym rests.group);
  });
  leader = λ s up. a.leader s (ap (λ (g : Group). (g.seat p.node).server) (sym rests.group) ∙ up);
}

rests-keeps : (p : Talk) (q r : Queue) → Rests q r → Keeps p q r
rests-keeps p q r rests = record {
  leader = ap (λ (g : Group). g.seat p.node) rests.group;
  clients = rests.clients;
  args = rests.args;
}

-- a member with nothing to do, whose answer, if it counts, is on its way
still-answered : (p : Talk) (q r : Queue) (rs : List Rpc) (j : ℕ) → Rests q r → IsAnswering p q rs
    → (p.up j ≡ true → HasNone j q) → (p.up j ≡ true → j ≢ p.node → p.most j ≡ true → Replied j rs) → HaveAnswered p q r rs (j ∷ [])
still-answered p q r rs j rests a none own = record {
  more = rs;
  answering = answering-rests p q r rs rests a;
  keeps = rests-keeps p q r rests;
  old = λ i there. there;
  still = λ i empty s up. empty s (ap (λ (g : Group). (g.seat i).server) (sym rests.group) ∙ up);
  none = λ i here node_up s up. elim here [
    | inl same ↦ none (subst (λ (n : ℕ). p.up n ≡ true) same node_up) s
        (ap (λ (g : Group). (g.seat j).server) (sym rests.group)
        ∙ subst (λ (n : ℕ). (r.group.seat n).server ≡ Some s) same up)
    | inr later ↦ absurd later
  ];
  own = λ i here node_up other counts. elim here [
    | inl same ↦ subst (λ (n : ℕ). Replied n rs) (sym same)
        (own (subst (λ (n : ℕ). p.up n ≡ true) same node_up) (λ is. other (same ∙ is))
        (subst (λ (n : ℕ). p.most n ≡ true) same counts))
    | inr later ↦ absurd later
  ];
}

module _ (handed : AreHanded) (members : List NodeId) (p : Talk) (goes : Goes p) where
  -- nothing waits where there is no op
  pub none-pends : (q : Queue) (j : ℕ) → IsSound members q → IsEven j q → HasNone j q → Pends j (q.group.seat j) → ⊥
  none-pends q j sound even none pends =
      let t = pends.server in
      let count = ops-counted handed members q sound j t pends.is in
      let ops = ap length (none t pends.is) in
      let told = (sound.counted j).server t pends.is in
      let noticed = even.noticed in
      let later : t.noticed < t.op = pends.later in
      omega (arith, count, ops, told, noticed, later)

  -- so where nothing is on its way, a member that counts has something to do
  pub still-busy : (q : Queue) (rs : List Rpc) (j : ℕ) → IsSound members q → IsAnswering p q rs → q.group.bag ≡ []
      → j ≢ p.node → p.most j ≡ true → IsSettled j q → ⊥
  still-busy q rs j sound a none other counts settled = elim ((a.heard j other).answered counts) [
    | inl there ↦ nobody (subst (Replied j) (sym a.bag ∙ none) there)
    | inr pends ↦ none-pends q j sound settled.0 settled.1 pends
  ]
    where
      nobody : Replied j [] → ⊥
      nobody r = r.here

  rest-answered : (q : Queue) (rs : List Rpc) (j : ℕ) → IsSound members q → IsAnswering p q rs → p.up j ≡ true
      → HasNone j q → HaveAnswered p q (after q (turn j q)) rs (j ∷ [])
  rest-answered q rs j sound a node_up none =
      still-answered p q (after q (turn j q)) rs j (turn-rests j q (a.even j node_up) none) a (λ _. none)
      (λ _ other counts. elim ((a.heard j other).answered counts) [
        | inl there ↦ there
        | inr pends ↦ absurd (none-pends q j sound (a.even j node_up) none pends)
      ])

  module _ (q : Queue) (rs : List Rpc) (j : ℕ) (sound : IsSound members q) (a : IsAnswering p q rs)
      (node_up : p.up j ≡ true) (other : j ≢ p.node) (t : Server) (up : (q.group.seat j).server ≡ Some t) (op : Op)
      (ops : List Op) (some : t.ops ≡ op ∷ ops) where
    abbrev next : Queue
    next = after q (turn j q)

    abbrev left : List Rpc
    left = rpcs_of t.waiting

    tells : Tells q next j t
    tells = turn-tells handed members q sound j t up (a.even j node_up) op ops some

    -- what it is told frees all that waited
    told : notice t.op (record t { ops = [] })
        ≡ record t { ops = []; noticed = t.op; out = t.out ++ left; waiting = [] }
    told =
        follower-notice (record t { ops = [] }) ((a.heard j other).follows t up)
        (let c = ops-counted handed members q sound j t up in let n = (sound.counted j).server t up in
        let e = (a.even j node_up).noticed in omega (arith, c, n, e))
        ((sound.fit.each j t up).waiting)

    out : (notice t.op (record t { ops = [] })).out ≡ left
    out = ap (λ (s : Server). s.out) told ∙ ap (λ (l : List Rpc). l ++ left) (sound.fit.each j t up).out

    abbrev then' : Server
    then' = record t { ops = []; noticed = t.op; out = []; waiting = [] }

    server : (next.group.seat j).server ≡ Some then'
    server = ap (λ (s : Seat). s.server) tells.seat ∙ ap (λ (s : Server). Some (record s { out = [] })) told

    -- it hands nothing out
    told-quiet : IsQuiet q → AllQuiet q (turn j q)
    told-quiet quiet =
        turn-quiet handed members q sound j t up (a.even j node_up) op ops some quiet
        (none-effects q.args (record t { ops = [] }) (record (notice t.op (record t { ops = [] })) { out = [] })
        (ap (λ (s : Server). s.role) told ∙ (a.heard j other).follows t up))

    own-heard : HasHeard p (rs ++ left) j (next.group.seat j)
    own-heard = record {
      follows = λ s is.
          ap (λ (x : Server). x.role) (sym (same_some then' s (sym server ∙ is))) ∙ (a.heard j other).follows t up;
      alive = λ counts. (then', server);
      since = λ s is.
          subst p.Since (same_some then' s (sym server ∙ is)) (goes.keeps t t.op ((a.heard j other).since t up));
      waiting = λ s is _.
          subst (λ (x : Server). AllByRecursion p.Reply (rpcs_of x.waiting)) (same_some then' s (sym server ∙ is)) tt;
      answered = λ counts. inl (freed counts);
    }
      where
        freed : p.most j ≡ true → Replied j (rs ++ left)
        freed counts = elim ((a.heard j other).answered counts) [
          | inl there ↦ replied-left j rs left there
          | inr pends ↦ replied-right j rs left
              (subst (λ (s : Server). Replied j (rpcs_of s.waiting))
              (same_some pends.server t (sym pends.is ∙ up)) pends.reply)
        ]

    own-none : HasNone j next
    own-none s is = ap (λ (x : Server). x.ops) (sym (same_some then' s (sym server ∙ is)))

    told-answered : HaveAnswered p q next rs (j ∷ [])
    told-answered = record {
      more = rs ++ left;
      answering = record {
        bag = tells.bag ∙ ap (λ (l : List Rpc). q.group.bag ++ l) out ∙ ap (λ (l : List Rpc). l ++ left) a.bag;
        replies = AllByRecursion-append p.Reply rs left a.replies ((a.heard j other).waiting t up node_up);
        heard = λ i away. elim (cases_eq i j) [
          | inl same ↦ subst (λ (n : ℕ). HasHeard p (rs ++ left) n (next.group.seat n)) (sym same) own-heard
          | inr differs ↦ subst (HasHeard p (rs ++ left) i) (sym (tells.others i differs))
              (heard-more p rs left i (q.group.seat i) (a.heard i away))
        ];
        even = λ i i_up. elim (cases_eq i j) [
          | inl same ↦ subst (λ (n : ℕ). IsEven n next) (sym same) tells.even
          | inr differs ↦ record {
            synced = tells.synced i differs ∙ (a.even i i_up).synced
                ∙ ap (λ (s : Seat). length s.ops) (sym (tells.others i differs));
            noticed = ap (λ (s : Seat). s.noticed) (tells.others i differs) ∙ (a.even i i_up).noticed
                ∙ ap (λ (s : Seat). length s.ops) (sym (tells.others i differs));
          }
        ];
        leader = λ s is. a.leader s (ap (λ (x : Seat). x.server) (sym (tells.others p.node (λ e. other (sym e)))) ∙ is);
      };
      keeps = record {
        leader = tells.others p.node (λ e. other (sym e));
        clients = tells.clients ∙ ap (λ (rows : List AuditRow). hear_all rows q.clients)
            (none-own q.args (record t { ops = [] }) (record (notice t.op (record t { ops = [] })) { out = [] })
            (ap (λ (s : Server). s.role) told ∙ (a.heard j other).follows t up));
        args = tells.args;
      };
      old = λ i there. replied-left i rs left there;
      still = λ i empty s is. elim (cases_eq i j) [
        | inl same ↦ own-none s (subst (λ (n : ℕ). (next.group.seat n).server ≡ Some s) same is)
        | inr differs ↦ empty s (ap (λ (x : Seat). x.server) (sym (tells.others i differs)) ∙ is)
      ];
      none = λ i here i_up s is. elim here [
        | inl same ↦ own-none s (subst (λ (n : ℕ). (next.group.seat n).server ≡ Some s) same is)
        | inr later ↦ absurd later
      ];
      own = λ i here i_up away counts. elim here [
        | inl same ↦ subst (λ (n : ℕ). Replied n (rs ++ left)) (sym same)
            (elim (own-heard.answered (subst (λ (n : ℕ). p.most n ≡ true) same counts)) [
              | inl there ↦ there
              | inr pends ↦ absurd (none-later pends)
            ])
        | inr later ↦ absurd later
      ];
    }
      where
        none-later : Pends j (next.group.seat j) → ⊥
        none-later pends =
            let same : then' ≡ pends.server = same_some then' pends.server (sym server ∙ pends.is) in
            let noticed = ap (λ (s : Server). s.noticed) same in
            let op_is = ap (λ (s : Server). s.op) same in
            let later : pends.server.noticed < pends.server.op = pends.later in
            omega (arith, noticed, op_is, later)

  -- a turn of any member
  one-answered : (q : Queue) (rs : List Rpc) (j : ℕ) → IsSound members q → IsAnswering p q rs
      → HaveAnswered p q (after q (turn_where (p.up j) j q)) rs (j ∷ [])
  one-answered q rs j sound a = by (p.up j) refl
    where
      of : p.up j ≡ true → j ≢ p.node → (t : Server) → (q.group.seat j).server ≡ Some t → (all : List Op)
          → t.ops ≡ all → HaveAnswered p q (after q (turn j q)) rs (j ∷ [])
      of node_up other t up [] none =
          rest-answered q rs j sound a node_up (λ s is. ap (λ (x : Server). x.ops) (same_some s t (sym is ∙ up)) ∙ none)
      of node_up other t up (op ∷ ops) some = told-answered q rs j sound a node_up other t up op ops some

      at : p.up j ≡ true → j ≢ p.node → (o : Option Server) → (q.group.seat j).server ≡ o
          → HaveAnswered p q (after q (turn j q)) rs (j ∷ [])
      at node_up other None down =
          rest-answered q rs j sound a node_up (λ s is. absurd (some_none s (sym is ∙ down)))
      at node_up other (Some t) up = of node_up other t up t.ops refl

      by : (b : Bool) → p.up j ≡ b → HaveAnswered p q (after q (turn_where b j q)) rs (j ∷ [])
      by false down =
          still-answered p q q rs j (rests-refl q) a
          (λ node_up. absurd (let e : false ≡ true = sym down ∙ node_up in cc)) (λ node_up. absurd (let e : false ≡ true = sym down ∙ node_up in cc))
      by true node_up = elim (cases_eq j p.node) [
        | inl own ↦ rest-answered q rs j sound a node_up
            (subst (λ (n : ℕ). HasNone n q) (sym own) a.leader)
        | inr other ↦ at node_up other (q.group.seat j).server refl
      ]

  one-quiet : (q : Queue) (rs : List Rpc) (j : ℕ) → IsSound members q → IsAnswering p q rs → IsQuiet q
      → AllQuiet q (turn_where (p.up j) j q)
  one-quiet q rs j sound a quiet = by (p.up j) refl
    where
      rests : p.up j ≡ true → HasNone j q → AllQuiet q (turn j q)
      rests node_up none = rests-quiet j q (a.even j node_up) none quiet

      of : p.up j ≡ true → j ≢ p.node → (t : Server) → (q.group.seat j).server ≡ Some t → (all : List Op)
          → t.ops ≡ all → AllQuiet q (turn j q)
      of node_up other t up [] none =
          rests node_up (λ s is. ap (λ (x : Server). x.ops) (same_some s t (sym is ∙ up)) ∙ none)
      of node_up other t up (op ∷ ops) some = told-quiet q rs j sound a node_up other t up op ops some quiet

      at : p.up j ≡ true → j ≢ p.node → (o : Option Server) → (q.group.seat j).server ≡ o → AllQuiet q (turn j q)
      at node_up other None down = rests node_up (λ s is. absurd (some_none s (sym is ∙ down)))
      at node_up other (Some t) up = of node_up other t up t.ops refl

      by : (b : Bool) → p.up j ≡ b → AllQuiet q (turn_where b j q)
      by false down = tt
      by true node_up = elim (cases_eq j p.node) [
        | inl own ↦ rests node_up (subst (λ (n : ℕ). HasNone n q) (sym own) a.leader)
        | inr other ↦ at node_up other (q.group.seat j).server refl
      ]

  -- all turns
  pub all-answered : (nodes : List ℕ) (q : Queue) (rs : List Rpc) → IsSound members q → IsAnswering p q rs
      → HaveAnswered p q (after q (turns p.up nodes q)) rs nodes
  all-answered [] q rs sound a = record {
    more = rs;
    answering = a;
    keeps = keeps-refl p q;
    old = λ i there. there;
    still = λ i empty. empty;
    none = λ i here. absurd here;
    own = λ i here. absurd here;
  }
  all-answered (j ∷ nodes) q rs sound a =
      let events : List Event = turn_where (p.up j) j q in
      let next : Queue = after q events in
      let first = one-answered q rs j sound a in
      let rest = all-answered nodes next first.more (sound-all members q events sound) first.answering in
      subst (λ (r : Queue). HaveAnswered p q r rs (j ∷ nodes))
      (sym (after-append q events (turns p.up nodes next))) (record {
        more = rest.more;
        answering = rest.answering;
        keeps = keeps-then p q next (after next (turns p.up nodes next)) first.keeps rest.keeps;
        old = λ i there. rest.old i (first.old i there);
        still = λ i empty. rest.still i (first.still i empty);
        none = λ i here i_up. elim here [
          | inl same ↦ rest.still i (first.none i (inl same) i_up)
          | inr later ↦ rest.none i later i_up
        ];
        own = λ i here i_up other counts. elim here [
          | inl same ↦ rest.old i (first.own i (inl same) i_up other counts)
          | inr later ↦ rest.own i later i_up other counts
        ];
      })

  -- and they hand nothing out
  pub answers-quiet : (nodes : List ℕ) (q : Queue) (rs : List Rpc) → IsSound members q → IsAnswering p q rs → IsQuiet q
      → AllQuiet q (turns p.up nodes q)
  answers-quiet [] q rs sound a quiet = tt
  answers-quiet (j ∷ nodes) q rs sound a quiet =
      let events : List Event = turn_where (p.up j) j q in
      let next : Queue = after q events in
      let first = one-answered q rs j sound a in
      let one = one-quiet q rs j sound a quiet in
      quiet-append q events (turns p.up nodes next) one
      (answers-quiet nodes next first.more (sound-all members q events sound) first.answering
      (quiet-after q events quiet one))
