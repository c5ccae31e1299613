-- An input reaches a server that is up: its moves lead to a world of the next group.
use Rattle.std.proofs.Common.{◌≡◌, ℕ, ◌+◌, ◌≤◌, ltb, List, [], ◌∷◌, ◌++◌, length, take, Option, Some, None, refl, sym, ap, subst, ◌∙◌, append_assoc, arith, inl, inr}
use Rattle.std.proofs.lemmas.Bool.{cond_both, cases_lt, ltb-true, ltb-false}
use Rattle.std.proofs.lemmas.List.{length-append, take-append-le, take_all}
use Rattle.std.specs.Prelude.{option_map}
use Rattle.qq_base.specs.Fronts.{IsFront}
use Rattle.qq_base.proofs.Fronts.{front-refl, front-trans, front-shorter}
use Rattle.qq_base.proofs.Puts.{put-each}
use Rattle.qq_base.specs.declared.ids.NodeId.{NodeId}
use Rattle.qq_entry.specs.declared.command.Entry.{Entry}
use Rattle.qq_log.specs.declared.op.Op.{Op}
use Rattle.qq_log.specs.Stable.{Stable, stable}
use Rattle.qq_raft_protocol.specs.Moves.{longer, run}
use Rattle.qq_raft_protocol.specs.World.{Member, World}
use Rattle.qq_raft_protocol.proofs.Lists.{In-append}
use Rattle.qq_raft_protocol.proofs.Shades.{shaded-audit}
use Rattle.qq_raft_model.specs.Handing.{state_of, Continues}
use Rattle.qq_raft_model.specs.Refines.{number, IsReached, MayCome, OnlyMoves, Stands}
use Rattle.qq_raft_model.specs.Server.{Input, step}
use Rattle.qq_raft_model.specs.State.{Server}
use Rattle.qq_raft_model.proofs.Adding.{done-front}
use Rattle.qq_raft_model.proofs.Agreeing.{take_front}
use Rattle.qq_raft_model.proofs.Handing.{comes-to, continues-step}
use Rattle.qq_raft_model.proofs.Later.{others-stand, way-later}
use Rattle.qq_raft_model.proofs.Reached.{shaded-there, safe-there, then-reached}
use Rattle.qq_raft_model.proofs.Sources.{StepsTo, Takes, steps-by}
use Rattle.qq_raft_model.proofs.Steps.{step-refines}
use Rattle.qq_raft_model.specs.Group.{Group, Seat, after_step, feed, feed_by}
use Rattle.qq_raft_model.specs.Promises.{members_of}
use Rattle.qq_raft_model.proofs.Members.{same-group}
use Rattle.qq_raft_model.proofs.Tied.{HasLane, HasLanes, IsTied, IsSeat, Tied, Follows, follows-refl, pending}

-- ---- the longer of two fronts

pub longer-first : {a b c : List Entry} → IsFront a c → IsFront b c → IsFront a (longer a b)
longer-first {a = a} {b = b} p q =
    cond_both (ltb (length a) (length b)) b a (λ (z : List Entry). IsFront a z)
    (λ e. let lt = ltb-true (length a) (length b) e in front-shorter p q (omega (arith, lt)))
    (λ _. front-refl a)

pub longer-second : {a b c : List Entry} → IsFront a c → IsFront b c → IsFront b (longer a b)
longer-second {a = a} {b = b} p q =
    cond_both (ltb (length a) (length b)) b a (λ (z : List Entry). IsFront b z) (λ _. front-refl b)
    (λ e. let le = ltb-false (length a) (length b) e in front-shorter q p le)

pub longer-whole : {a b c : List Entry} → IsFront a c → IsFront b c → IsFront (longer a b) c
longer-whole {a = a} {b = b} {c = c} p q =
    cond_both (ltb (length a) (length b)) b a (λ (z : List Entry). IsFront z c) (λ _. q) (λ _. p)

-- ---- what the server knows to be committed

pub known-front : {members : List ℕ} {w : World} {k : ℕ} {s : Server} → IsReached members w → Stands w k s
    → IsFront (take s.commit s.log) w.audit
known-front {members} {w} {k} {s} reached st =
    let own : IsFront (w.done k) s.log = done-front {members = members} reached st in
    subst (λ (x : List Entry). IsFront x w.audit) (sym (take_front (w.done k) s.log s.commit own st.commit))
    ((safe-there members w reached).done k).0

-- ---- what the log comes to

-- the lanes that were there are there still
stay-lanes : {w v : World} {k : ℕ} {was now : ℕ} {ops : List Op} → OnlyMoves k w v → (v.member k).noticed ≡ now
    → was ≤ now → HasLanes (w.member k) was ops → HasLanes (v.member k) now ops
stay-lanes only same le old n late within =
    let h = old n (omega (arith, le, late)) within in
    record {
      term = h.term;
      vote = h.vote;
      log = h.log;
      is = h.is;
      here =
          only.lanes (record { op = n; term = h.term.0; vote = option_map number h.vote; log = h.log }) h.here
          (omega (arith, same, late));
    }

-- and the newest one, where an op was handed out
more-lanes : {m : Member} {now : ℕ} (ops : List Op) (op : Op) → HasLanes m now ops
    → HasLane m (length (ops ++ op ∷ [])) (ops ++ op ∷ []) → HasLanes m now (ops ++ op ∷ [])
more-lanes {m = m} ops op old new n late within =
    elim (cases_lt (length ops) n) [
      | inl lt ↦
          let whole : length (ops ++ op ∷ []) ≡ n = omega (arith, lt, within, length-append ops (op ∷ [])) in
          subst (λ (l : List Op). HasLane m n l)
          (sym (take_all n (ops ++ op ∷ []) (omega (arith, whole))))
          (subst (λ (i : ℕ). HasLane m i (ops ++ op ∷ [])) whole new)
      | inr le ↦
          subst (λ (l : List Op). HasLane m n l) (sym (take-append-le n ops (op ∷ []) le)) (old n late le)
    ]

-- ---- the server after it

new-count : (ops : List Op) (s t : Server) → Continues s t → s.op ≡ length (ops ++ s.ops)
    → t.op ≡ length (ops ++ t.ops)
new-count ops s t next count = elim next.hands [
  | inl r ↦
      ap (λ (x : Stable). x.op) r.state ∙ count ∙ ap (λ (l : List Op). length (ops ++ l)) (sym r.ops)
  | inr c ↦
      let one : t.op ≡ s.op + 1 = c.next in
      let handed : length t.ops ≡ length (s.ops ++ c.op ∷ []) = ap length c.ops in
      omega (
        arith,
        one,
        handed,
        count,
        length-append ops t.ops,
        length-append ops s.ops,
        length-append s.ops (c.op ∷ []),
      )
]

new-lanes : {members : List ℕ} {w : World} {k : ℕ} {S : List Entry → Entry → Type 0} (ops : List Op) (was : ℕ)
    (s t : Server)
    → (r : StepsTo members w k S t) → Continues s t → stable (ops ++ s.ops) ≡ Some (state_of s)
    → s.op ≡ length (ops ++ s.ops) → was ≤ t.noticed → HasLanes (w.member k) was (ops ++ s.ops)
    → HasLanes ((run w r.moves).member k) t.noticed (ops ++ t.ops)
new-lanes {members} {w} {k} {S} ops was s t r next holds count rises lanes =
    let m = (run w r.moves).member k in
    let noticed : m.noticed ≡ t.noticed = r.stands.noticed in
    let stay : HasLanes m t.noticed (ops ++ s.ops) = stay-lanes r.only noticed rises lanes in
    elim next.hands [
      | inl q ↦ subst (λ (l : List Op). HasLanes m t.noticed (ops ++ l)) (sym q.ops) stay
      | inr c ↦
          let list : ops ++ t.ops ≡ (ops ++ s.ops) ++ c.op ∷ [] =
          ap (λ (l : List Op). ops ++ l) c.ops ∙ sym (append_assoc ops s.ops (c.op ∷ [])) in
          let newest : HasLane m t.op (ops ++ t.ops) = record {
            term = t.term;
            vote = t.vote;
            log = t.log;
            is = comes-to ops s t next holds;
            here = inl (sym r.stands.lane);
          } in
          let counted : HasLane m (length (ops ++ t.ops)) (ops ++ t.ops) =
          subst (λ (i : ℕ). HasLane m i (ops ++ t.ops)) (new-count ops s t next count) newest in
          let added : HasLane m (length ((ops ++ s.ops) ++ c.op ∷ [])) ((ops ++ s.ops) ++ c.op ∷ []) =
          subst (λ (l : List Op). HasLane m (length l) l) list counted in
          subst (λ (l : List Op). HasLanes m t.noticed l) (sym list) (more-lanes (ops ++ s.ops) c.op stay added)
    ]

-- what it sent is taken away
quiet-stands : {w : World} {k : ℕ} {s : Server} → Stands w k s → Stands w k (record s { out = [] })
quiet-stands st = record {
  node = st.node;
  lane = st.lane;
  noticed = st.noticed;
  role = st.role;
  commit = st.commit;
  own_vote = st.own_vote;
  votes = st.votes;
  matches = st.matches;
  within = st.within;
  itself = st.itself;
  waiting = st.waiting;
  out = λ r here. absurd here;
}

pub same_some : {A : Type 0} (a b : A) → Some a ≡ Some b → a ≡ b
same_some a b e = cc

-- ---- the others

pub other-seat : {members : List ℕ} {w v : World} {audit grown : List Entry} {k i : ℕ} {seat : Seat}
    → OnlyMoves k w v → (i ≡ k → ⊥) → IsFront audit grown → IsSeat members w audit i seat
    → IsSeat members v grown i seat
other-seat {i = i} {seat = seat} only other grows y = record {
  up = λ s is.
      let z = y.up s is in
      record {
        stands = others-stand only other z.stands;
        group = z.group;
        holds = z.holds;
        count = z.count;
        noticed_is = z.noticed_is;
        known = front-trans z.known grows;
      };
  lanes =
      subst (λ (m : Member). HasLanes m seat.noticed (seat.ops ++ pending seat.server))
      (sym (only.member i other)) y.lanes;
}

-- ---- the group

feed-some : {nodes : List NodeId} {w : World} {g : Group} (S : List Entry → Entry → Type 0) (k : ℕ) (input : Input)
    (s : Server) → Tied nodes g w → (g.seat k).server ≡ Some s → MayCome w k s input × Takes S s input
    → Follows nodes S w g (after_step k (step s input) g)
feed-some {nodes} {w} {g} S k input s tied is may =
    let members = members_of nodes in
    let t = step s input in
    let ops = (g.seat k).ops in
    let was = (g.seat k).noticed in
    let old : IsTied members w k ops was g.audit s = (tied.seats k).up s is in
    let r : StepsTo members w k S t =
    steps-by S input old.stands may.1 (step-refines input tied.reached old.group old.stands may.0) in
    let v = run w r.moves in
    let next : Continues s t = continues-step s input in
    let reached : IsReached members v = then-reached r.moves tied.reached r.allowed in
    let h = after_step k t g in
    let before : IsFront g.audit v.audit =
    front-trans tied.audit (shaded-audit r.moves w (shaded-there members w tied.reached) r.allowed) in
    let known : IsFront (take t.commit t.log) v.audit = known-front reached r.stands in
    let grows : IsFront g.audit h.audit = longer-first before known in
    let lanes : HasLanes (w.member k) was (ops ++ s.ops) =
    subst (λ (o : Option Server). HasLanes (w.member k) was (ops ++ pending o)) is (tied.seats k).lanes in
    let same : was ≡ s.noticed = old.noticed_is in
    let there : (w.member k).noticed ≡ s.noticed = old.stands.noticed in
    let later : (w.member k).noticed ≤ (v.member k).noticed = r.only.later.noticed k in
    let now : (v.member k).noticed ≡ t.noticed = r.stands.noticed in
    let rises : was ≤ t.noticed = omega (arith, same, there, later, now) in
    let own : IsTied members v k ops t.noticed h.audit (record t { out = [] }) = record {
      stands = quiet-stands r.stands;
      group = same-group s.peers t.peers next.nodes old.group;
      holds = comes-to ops s t next old.holds;
      count = new-count ops s t next old.count;
      noticed_is = refl;
      known = longer-second before known;
    } in
    let seat : Seat = record { server = Some (record t { out = [] }); ops = ops; noticed = t.noticed } in
    record {
      moves = r.moves;
      allowed = r.allowed;
      sourced = r.sourced;
      tied = record {
        reached = reached;
        nodes_are = tied.nodes_are;
        seats =
            put-each (λ i x. IsSeat members v h.audit i x) k seat g.seat
            (record {
              up = λ u e.
                  subst (IsTied members v k ops t.noticed h.audit) (same_some (record t { out = [] }) u e) own;
              lanes = new-lanes ops was s t r next old.holds old.count rises lanes;
            })
            (λ i other. other-seat r.only other grows (tied.seats i));
        bag = λ y here. elim (In-append y g.bag t.out here) [
          | inl sent ↦ way-later r.only.later (tied.bag y sent)
          | inr new ↦ r.stands.out y new
        ];
        audit = longer-whole before known;
      };
      audit = grows;
    }

feed-by : {nodes : List NodeId} {w : World} {g : Group} (S : List Entry → Entry → Type 0) (k : ℕ) (input : Input)
    (o : Option Server) → Tied nodes g w → (g.seat k).server ≡ o
    → ((s : Server) → o ≡ Some s → MayCome w k s input × Takes S s input) → Follows nodes S w g (feed_by k input o g)
feed-by S k input None tied is may = follows-refl tied
feed-by S k input (Some s) tied is may = feed-some S k input s tied is (may s refl)

pub feed-follows : {nodes : List NodeId} {w : World} {g : Group} (S : List Entry → Entry → Type 0) (k : ℕ)
    (input : Input) → Tied nodes g w
    → ((s : Server) → (g.seat k).server ≡ Some s → MayCome w k s input × Takes S s input)
    → Follows nodes S w g (feed k input g)
feed-follows {g = g} S k input tied may = feed-by S k input (g.seat k).server tied refl may
