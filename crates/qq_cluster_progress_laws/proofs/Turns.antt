-- What a node's turn in a round leaves of one of its queues.
use Rattle.std.proofs.Common.{◌≡◌, ◌≢◌, ℕ, ◌≤◌, ◌+◌, Bool, true, false, cond, List, [], ◌∷◌, ◌++◌, length, map, Option, Some, None, refl, sym, ap, ◌∙◌, subst, inl, inr, arith, append_assoc, append-nil, length-append}
use Rattle.std.specs.Prelude.{Contains, nat_le, replicate, is_some}
use Rattle.std.proofs.lemmas.Bool.{cases_eq, cond_both, cond-true, cond-false, lt-ltb, le-ltb, le-leb}
use Rattle.std.proofs.lemmas.List.Elements.{Contains-append_left, Contains-append_right}
use Rattle.qq_base.proofs.Puts.{put-same, put-other}
use Rattle.qq_base.specs.Fronts.{put}
use Rattle.qq_entry.specs.declared.audit.AuditRow.{AuditRow}
use Rattle.qq_log.specs.declared.op.Op.{Op}
use Rattle.qq_raft_model.specs.Group.{Group, Seat, feed, group_after, happens as moved, take_by, take_op}
use Rattle.qq_raft_model.specs.Group.Event.{Take}
use Rattle.qq_raft_model.specs.Server.{Input, notice}
use Rattle.qq_raft_model.specs.State.{Server}
use Rattle.qq_raft_model.proofs.Noticed.{noticed-is}
use Rattle.qq_raft_msg.specs.declared.rpc.Rpc.{Rpc}
use Rattle.qq_base.specs.declared.ids.NodeId.{NodeId}
use Rattle.qq_cluster_progress_laws.proofs.Leader.{greater-high}
use Rattle.qq_cluster_model.specs.Queue.{Queue, Event, Notices, Syncs, Writes, after, all_said, effects_told, happens, own_effects, own_rows, rows_told, said, waiting, waiting_by}
use Rattle.qq_cluster_model.specs.Rules.{waits_noticed}
use Rattle.qq_cluster_model.proofs.Takerless.{told-answers}
use Rattle.qq_session.specs.Clients.{hear_all, printed}
use Rattle.qq_session.specs.declared.shown.Shown.{Shown}
use Rattle.qq_session.specs.declared.shown.Shown.TheVariants.{Answered}
use Rattle.qq_cluster_progress_laws.specs.Alone.{turn}
use Rattle.qq_cluster_progress_laws.proofs.Feeding.{Feeds, FeedsOne, effects-told, fed, feeds-one, rows-told}
use Rattle.qq_cluster_progress_laws.proofs.Following.{AllQuiet, IsQuiet, QuietBefore, notices-quiet, syncs-quiet, writes-quiet}
use Rattle.qq_cluster_progress_laws.proofs.Sound.{AreHanded, IsSound, ops-counted}

-- ---- a log is given all that waits

-- the seat of a member whose ops are all given
abbrev pub given : Seat → Server → Seat
given seat s = record { server = Some (record s { ops = [] }); ops = seat.ops ++ s.ops; noticed = seat.noticed }

record GivesAll (g h : Group) (j : ℕ) (s : Server) : Type 0 where
  seat : h.seat j ≡ given (g.seat j) s
  others : (i : ℕ) → i ≢ j → h.seat i ≡ g.seat i
  bag : h.bag ≡ g.bag

gives-all : (j : ℕ) (ops : List Op) (g : Group) (s : Server) → (g.seat j).server ≡ Some s → s.ops ≡ ops
    → GivesAll g (group_after g (replicate (length ops) (Take j))) j s
gives-all j [] g s up is = record {
  seat =
      ap (λ (o : Option Server). record { server = o; ops = (g.seat j).ops; noticed = (g.seat j).noticed }) up
      ∙ ap (λ (l : List Op). record {
        server = Some (record s { ops = l });
        ops = (g.seat j).ops;
        noticed = (g.seat j).noticed;
      }) is
      ∙ ap (λ (l : List Op). record { server = Some (record s { ops = [] }); ops = l; noticed = (g.seat j).noticed })
      (sym (append-nil (g.seat j).ops) ∙ ap (λ (l : List Op). (g.seat j).ops ++ l) (sym is));
  others = λ i other. refl;
  bag = refl;
}
gives-all j (op ∷ ops) g s up is =
    let seat : Seat = record {
      server = Some (record s { ops = ops });
      ops = (g.seat j).ops ++ op ∷ [];
      noticed = (g.seat j).noticed;
    } in
    let h : Group = moved (Take j) g in
    let step : h ≡ record g { seat = put j seat g.seat } =
    ap (λ (o : Option Server). take_op j o g) up ∙ ap (λ (l : List Op). take_by j s l g) is in
    let here : h.seat j ≡ seat = ap (λ (x : Group). x.seat j) step ∙ put-same j seat g.seat in
    let rest = gives-all j ops h (record s { ops = ops }) (ap (λ (x : Seat). x.server) here) refl in
    record {
      seat = rest.seat ∙ ap (λ (x : Seat). given x (record s { ops = ops })) here
          ∙ ap (λ (l : List Op). record {
            server = Some (record s { ops = [] });
            ops = l;
            noticed = (g.seat j).noticed;
          }) (append_assoc (g.seat j).ops (op ∷ []) ops ∙ ap (λ (l : List Op). (g.seat j).ops ++ l) (sym is));
      others = λ i other.
          rest.others i other ∙ ap (λ (x : Group). x.seat i) step ∙ put-other j seat g.seat i other;
      bag = rest.bag ∙ ap (λ (x : Group). x.bag) step;
    }

writes-all : (j : ℕ) (q : Queue) (s : Server) → (q.group.seat j).server ≡ Some s
    → GivesAll q.group (happens q (Writes j)).group j s
writes-all j q s up =
    subst (λ (n : ℕ). GivesAll q.group (group_after q.group (replicate n (Take j))) j s)
    (sym (ap waiting_by up)) (gives-all j s.ops q.group s up refl)

-- ---- turns

-- all that a node's log was given is synced, and its member was told so
pub record IsEven (j : ℕ) (q : Queue) : Type 0 where
  pub synced : q.synced j ≡ length (q.group.seat j).ops
  pub noticed : (q.group.seat j).noticed ≡ length (q.group.seat j).ops

-- the member has no op that its log wasn't given
abbrev pub HasNone : ℕ → Queue → Type 0
HasNone j q = (s : Server) → (q.group.seat j).server ≡ Some s → s.ops ≡ []

pub record Rests (q r : Queue) : Type 0 where
  pub group : r.group ≡ q.group
  pub clients : r.clients ≡ q.clients
  pub args : r.args ≡ q.args
  pub synced : (i : ℕ) → r.synced i ≡ q.synced i

-- a sync of what is synced
syncs-same : (j : ℕ) (q : Queue) → q.synced j ≡ length (q.group.seat j).ops → (i : ℕ)
    → (happens q (Syncs j)).synced i ≡ q.synced i
syncs-same j q is i =
    cond_both (is_some (q.group.seat j).server) (put j (length (q.group.seat j).ops) q.synced) q.synced
    (λ (synced : ℕ → ℕ). synced i ≡ q.synced i)
    (λ _. elim (cases_eq i j) [
      | inl own ↦ subst (λ (n : ℕ). put j (length (q.group.seat j).ops) q.synced n ≡ q.synced n) (sym own)
          (put-same j (length (q.group.seat j).ops) q.synced ∙ sym is)
      | inr other ↦ put-other j (length (q.group.seat j).ops) q.synced i other
    ])
    (λ _. refl)

-- it has nothing to do
rests-silent : (j : ℕ) (q : Queue) → IsEven j q → HasNone j q
    → Rests q (after q (turn j q)) × (turn j q ≡ Writes j ∷ Syncs j ∷ [])
rests-silent j q even none = (
  subst (λ (es : List Event). Rests q (after two es))
      (sym (cond-false (waits_noticed j two) (Notices j ∷ []) [] silent)) rests,
  ap (λ (l : List Event). Writes j ∷ Syncs j ∷ l) (cond-false (waits_noticed j two) (Notices j ∷ []) [] silent),
)
  where
    one : Queue
    one = happens q (Writes j)

    two : Queue
    two = happens one (Syncs j)

    count : waiting j q.group ≡ 0
    count = by (q.group.seat j).server refl
      where
        by : (o : Option Server) → (q.group.seat j).server ≡ o → waiting_by o ≡ 0
        by None is = refl
        by (Some s) is = ap length (none s is)

    wrote : one.group ≡ q.group
    wrote = ap (λ (n : ℕ). group_after q.group (replicate n (Take j))) count

    synced : (i : ℕ) → two.synced i ≡ q.synced i
    synced i = syncs-same j one (even.synced ∙ ap (λ (g : Group). length (g.seat j).ops) (sym wrote)) i

    rests : Rests q two
    rests = record { group = wrote; clients = refl; args = refl; synced = synced }

    silent : waits_noticed j two ≡ false
    silent =
        le-ltb (two.group.seat j).noticed (two.synced j)
        (let a = synced j in let b = ap (λ (g : Group). (g.seat j).noticed) wrote in let c = even.synced in
        let d = even.noticed in omega (arith, a, b, c, d))

pub turn-rests : (j : ℕ) (q : Queue) → IsEven j q → HasNone j q → Rests q (after q (turn j q))
turn-rests j q even none = (rests-silent j q even none).0

pub rests-quiet : (j : ℕ) (q : Queue) → IsEven j q → HasNone j q → IsQuiet q → AllQuiet q (turn j q)
rests-quiet j q even none quiet =
    let wrote = writes-quiet q j quiet in
    subst (AllQuiet q) (sym (rests-silent j q even none).1) (wrote, (syncs-quiet (happens q (Writes j)) j wrote, tt))

-- before it is told something
pub turn-before : (j : ℕ) (q : Queue) → IsQuiet q → QuietBefore q (turn j q)
turn-before j q quiet = (writes-quiet q j quiet, by (waits_noticed j (happens (happens q (Writes j)) (Syncs j))))
  where
    by : (b : Bool) → QuietBefore (happens q (Writes j)) (Syncs j ∷ cond b (Notices j ∷ []) [])
    by true = (syncs-quiet (happens q (Writes j)) j (writes-quiet q j quiet), tt)
    by false = tt

-- it tells its member what is synced
pub record Tells (q r : Queue) (j : ℕ) (s : Server) : Type 0 where
  pub seat : r.group.seat j
      ≡ fed (record { server = None; ops = (q.group.seat j).ops ++ s.ops; noticed = 0 }) (notice s.op (record s { ops = [] }))
  pub others : (i : ℕ) → i ≢ j → r.group.seat i ≡ q.group.seat i
  pub bag : r.group.bag ≡ q.group.bag ++ (notice s.op (record s { ops = [] })).out
  pub clients : r.clients
      ≡ hear_all (own_rows q.args (record s { ops = [] }) (record (notice s.op (record s { ops = [] })) { out = [] })) q.clients
  pub args : r.args ≡ q.args
  pub synced : (i : ℕ) → i ≢ j → r.synced i ≡ q.synced i
  pub even : IsEven j r

-- what the member answers
abbrev pub answers_at : Queue → Server → List Shown
answers_at q s =
    map Answered (printed (own_rows q.args (record s { ops = [] })
    (record (notice s.op (record s { ops = [] })) { out = [] })) q.clients)

module _ (handed : AreHanded) (nodes : List NodeId) (q : Queue) (sound : IsSound nodes q) (j : ℕ) (s : Server)
    (up : (q.group.seat j).server ≡ Some s) (even : IsEven j q) (op : Op) (ops : List Op) (some : s.ops ≡ op ∷ ops) where
  -- once the log has the member's ops, and once it is synced
  abbrev one : Queue
  one = happens q (Writes j)

  abbrev two : Queue
  two = happens one (Syncs j)

  wrote : GivesAll q.group two.group j s
  wrote = writes-all j q s up

  up-two : (two.group.seat j).server ≡ Some (record s { ops = [] })
  up-two = ap (λ (x : Seat). x.server) wrote.seat

  long : length (two.group.seat j).ops ≡ length (q.group.seat j).ops + length s.ops
  long = ap (λ (x : Seat). length x.ops) wrote.seat ∙ length-append (q.group.seat j).ops s.ops

  synced-two : two.synced ≡ put j (length (two.group.seat j).ops) q.synced
  synced-two =
      cond-true (is_some (two.group.seat j).server) (put j (length (two.group.seat j).ops) q.synced) q.synced
      (ap is_some up-two)

  all : two.synced j ≡ s.op
  all =
      ap (λ (f : ℕ → ℕ). f j) synced-two ∙ put-same j (length (two.group.seat j).ops) q.synced ∙ long
      ∙ sym (ops-counted handed nodes q sound j s up)

  waits : waits_noticed j two ≡ true
  waits =
      lt-ltb (two.group.seat j).noticed (two.synced j)
      (let a = ap (λ (x : Seat). x.noticed) wrote.seat in let b = even.noticed in let c = all in
      let d = ops-counted handed nodes q sound j s up in let e = ap length some in omega (arith, a, b, c, d, e))

  events : turn j q ≡ Writes j ∷ Syncs j ∷ Notices j ∷ []
  events = ap (λ (l : List Event). Writes j ∷ Syncs j ∷ l) (cond-true (waits_noticed j two) (Notices j ∷ []) [] waits)

  feeds : Feeds two (Notices j) j (Input.Notice (two.synced j)) two.group.bag
  feeds = record {
    steps = refl;
    is = cond-true (nat_le (two.synced j) (length (two.group.seat j).ops))
        (feed j (Input.Notice (two.synced j)) two.group) two.group
        (le-leb (two.synced j) (length (two.group.seat j).ops)
        (let a = all in let b = long in let c = ops-counted handed nodes q sound j s up in omega (arith, a, b, c)));
    synced = refl;
    acts = refl;
  }

  abbrev bare : Server
  bare = record s { ops = [] }

  told : FeedsOne two (happens two (Notices j)) j bare (notice s.op bare) two.group.bag
  told =
      subst (λ (n : ℕ). FeedsOne two (happens two (Notices j)) j bare (notice n bare) two.group.bag) all
      (feeds-one two (Notices j) j (Input.Notice (two.synced j)) two.group.bag bare feeds up-two)

  least : s.noticed ≤ s.op
  least =
      let a = (sound.counted j).server s up in
      let b = even.noticed in
      let c = ops-counted handed nodes q sound j s up in
      omega (arith, a, b, c)

  tells : Tells q (happens two (Notices j)) j s
  tells = record {
    seat = told.seat ∙ ap (λ (l : List Op). record {
      server = Some (record (notice s.op bare) { out = [] });
      ops = l;
      noticed = (notice s.op bare).noticed;
    }) (ap (λ (x : Seat). x.ops) wrote.seat);
    others = λ i other. told.others i other ∙ wrote.others i other;
    bag = told.bag ∙ ap (λ (l : List Rpc). l ++ (notice s.op bare).out) wrote.bag;
    clients = told.clients;
    args = told.args;
    synced = λ i other.
        ap (λ (f : ℕ → ℕ). f i) synced-two ∙ put-other j (length (two.group.seat j).ops) q.synced i other;
    even = record {
      synced = all ∙ ops-counted handed nodes q sound j s up ∙ sym long
          ∙ ap (λ (x : Seat). length x.ops) (sym told.seat);
      noticed = ap (λ (x : Seat). x.noticed) told.seat ∙ noticed-is bare (Input.Notice s.op)
          ∙ greater-high s.noticed s.op least ∙ ops-counted handed nodes q sound j s up ∙ sym long
          ∙ ap (λ (x : Seat). length x.ops) (sym told.seat);
    };
  }

  pub turn-tells : Tells q (after q (turn j q)) j s
  turn-tells = subst (λ (es : List Event). Tells q (after q es) j s) (sym events) tells

  -- where that hands nothing out
  pub turn-quiet : IsQuiet q → own_effects q.args bare (record (notice s.op bare) { out = [] }) ≡ []
      → AllQuiet q (turn j q)
  turn-quiet quiet none =
      let a = writes-quiet q j quiet in
      let b = syncs-quiet one j a in
      let same : effects_told two (Notices j) ≡ [] =
      effects-told two (Notices j) j (Input.Notice (two.synced j)) two.group.bag bare feeds up-two
      ∙ ap (λ (n : ℕ). own_effects q.args bare (record (notice n bare) { out = [] })) all ∙ none in
      subst (AllQuiet q) (sym events) (a, (b, (notices-quiet two j b same, tt)))

  shown : (x : Shown) → Contains (answers_at q s) x → Contains (said two (Notices j)) x
  shown x here =
      let rows : List AuditRow = own_rows q.args bare (record (notice s.op bare) { out = [] }) in
      let same : rows_told two (Notices j) ≡ rows =
      rows-told two (Notices j) j (Input.Notice (two.synced j)) two.group.bag bare feeds up-two
      ∙ ap (λ (n : ℕ). own_rows q.args bare (record (notice n bare) { out = [] })) all in
      told-answers two (Notices j) x
      (subst (λ (l : List AuditRow). Contains (map Answered (printed l q.clients)) x) (sym same) here)

  pub turn-shows : (x : Shown) → Contains (answers_at q s) x → Contains (all_said q (turn j q)) x
  turn-shows x here =
      subst (λ (es : List Event). Contains (all_said q es) x) (sym events)
      (Contains-append_right (said q (Writes j)) _ x (Contains-append_right (said one (Syncs j)) _ x
      (Contains-append_left (said two (Notices j)) [] x (shown x here))))
