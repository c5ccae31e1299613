-- What a member answers a leader, and when the answer leaves.
use Rattle.std.proofs.Common.{◌≡◌, ◌⊎◌, ℕ, ◌≤◌, ◌<◌, ◌-◌, ◌+◌, true, false, ◌&&◌, ltb, leb, List, [], ◌∷◌, ◌++◌, length, map, drop, take, Option, Some, None, refl, sym, ap, ◌∙◌, subst, inl, inr, arith}
use Rattle.std.specs.Prelude.{min}
use Rattle.std.proofs.lemmas.Bool.{cond_both, cond-true, cond-false, ltb-false, le-ltb, leb-false, le-leb}
use Rattle.std.proofs.lemmas.List.{take_all}
use Rattle.std.proofs.Math.Seq.{drop-length}
use Rattle.qq_base.specs.declared.ids.NodeId.{NodeId}
use Rattle.qq_entry.specs.declared.command.Entry.{Entry}
use Rattle.qq_raft_msg.specs.declared.rpc.AppendMsg.{AppendMsg}
use Rattle.qq_raft_msg.specs.declared.rpc.AppendedMsg.{AppendedMsg}
use Rattle.qq_raft_msg.specs.declared.rpc.Rpc.{Rpc}
use Rattle.qq_raft_msg.specs.declared.rpc.Rpc.TheVariants.{Append, Appended}
use Rattle.qq_raft_msg.specs.declared.state.Role.{Role}
use Rattle.qq_raft_msg.specs.declared.state.Role.TheVariants.{Follower}
use Rattle.qq_raft_model.specs.declared.peer.Peer.{Peer}
use Rattle.qq_raft_model.specs.declared.peer.Waiting.{Waiting}
use Rattle.qq_raft_model.specs.Leading.{advance, commit_within, is_elected, is_majority, lead, lead_if_elected}
use Rattle.qq_raft_model.specs.Server.{accept, agreed, end, free, greater, has_agreed, is_match, learn, notice, receive, receive_append, refuse, refuse_entries, still_waiting, take_entries, take_notice, write, write_missing}
use Rattle.qq_raft_model.specs.State.{Server, change, enter, follow, is_candidate, is_leader, is_later, last, say, say_all, wait}
use Rattle.qq_cluster_progress_laws.proofs.Leader.{greater-high}
use Rattle.qq_cluster_progress_laws.proofs.Waiting.{Rises, WaitsLater}

-- ---- entries of a leader come

-- what stands before it answers
record Ready (m : AppendMsg) (t u : Server) : Type 0 where
  role : u.role ≡ Follower
  node : u.node ≡ t.node
  term : u.term.0 ≡ m.term.0
  out : u.out ≡ t.out
  waiting : u.waiting ≡ t.waiting

-- the answer leaves at once, or waits for the last change
abbrev Says : Server → Server → AppendedMsg → Type 0
Says t u reply =
    ((u.out ≡ t.out ++ Appended reply ∷ []) × (u.waiting ≡ t.waiting))
    ⊎ ((u.noticed < u.op) × (u.out ≡ t.out) × (u.waiting ≡ t.waiting ++ wait u.op (Appended reply) ∷ []))

-- It follows, and answers once: that it has the entries, where the one before them is its own.
pub record Answers (m : AppendMsg) (t u : Server) : Type 0 where
  pub role : u.role ≡ Follower
  pub node : u.node ≡ t.node
  pub term : u.term.0 ≡ m.term.0
  pub reply : AppendedMsg
  pub from : reply.from ≡ t.node
  pub to : reply.to ≡ m.from
  pub term_is : reply.term.0 ≡ m.term.0
  pub good : is_match m t.log ≡ true → (reply.ok ≡ true) × (reply.index.0 ≡ end m)
  pub takes : (e : Entry) → is_match m t.log ≡ true → m.prev_index.0 ≡ length t.log → m.entries ≡ e ∷ []
      → u.log ≡ t.log ++ e ∷ []
  pub says : Says t u reply

enter-ready : (m : AppendMsg) (leader : Option NodeId) (t : Server) → t.term.0 ≤ m.term.0
    → Ready m t (follow leader (enter m.term t))
unfolding enter change
enter-ready m leader t le =
    cond_both (is_later m.term t) (follow None (change m.term None (last t) [] t)) t
    (λ (u : Server). Ready m t (follow leader u))
    (λ _. record { role = refl; node = refl; term = refl; out = refl; waiting = refl })
    (λ e. (let ge = ltb-false t.term.0 m.term.0 e in
    record { role = refl; node = refl; term = omega (arith, le, ge); out = refl; waiting = refl }))

write-ready : (m : AppendMsg) (leader : Option NodeId) (es : List Entry) (t : Server) → t.term.0 ≤ m.term.0
    → Ready m t (follow leader (write m es t))
unfolding change
write-ready m leader [] t le = enter-ready m leader t le
write-ready m leader (e ∷ es) t le = record { role = refl; node = refl; term = refl; out = refl; waiting = refl }

-- an entry behind its whole log follows it
writes : (m : AppendMsg) (t : Server) (e : Entry) → m.prev_index.0 ≡ length t.log → m.entries ≡ e ∷ []
    → (write_missing m t).log ≡ t.log ++ e ∷ []
unfolding change
writes m t e at brings =
    let none : has_agreed m t.log ≡ 0 =
    ap (λ (es : List Entry). agreed es (drop m.prev_index.0 t.log)) brings
    ∙ ap (λ (n : ℕ). agreed (e ∷ []) (drop n t.log)) at ∙ ap (agreed (e ∷ [])) (drop-length t.log) in
    ap (λ (n : ℕ). (follow (Some m.from) (write m (drop n m.entries) t)).log) none
    ∙ ap (λ (es : List Entry). (follow (Some m.from) (write m es t)).log) brings
    ∙ ap (λ (n : ℕ). take (m.prev_index.0 + n) t.log ++ e ∷ []) none
    ∙ ap (λ (n : ℕ). take (n + 0) t.log ++ e ∷ []) at
    ∙ ap (λ (l : List Entry). l ++ e ∷ []) (take_all (length t.log + 0) t.log (omega arith))

answers : (m : AppendMsg) (t u : Server) (reply : AppendedMsg) → Ready m t u → reply.from ≡ u.node
    → reply.to ≡ m.from → reply.term ≡ u.term
    → (is_match m t.log ≡ true → (reply.ok ≡ true) × (reply.index.0 ≡ end m))
    → ((e : Entry) → is_match m t.log ≡ true → m.prev_index.0 ≡ length t.log → m.entries ≡ e ∷ []
    → u.log ≡ t.log ++ e ∷ []) → Answers m t (say (Appended reply) u)
unfolding say_all
answers m t u reply ready from to term good takes =
    cond_both (leb u.op u.noticed) (record u { out = u.out ++ Appended reply ∷ [] })
    (record u { waiting = u.waiting ++ wait u.op (Appended reply) ∷ [] }) (Answers m t)
    (λ _. record {
      role = ready.role;
      node = ready.node;
      term = ready.term;
      reply = reply;
      from = from ∙ ready.node;
      to = to;
      term_is = ap (λ x. x.0) term ∙ ready.term;
      good = good;
      takes = takes;
      says = inl (ap (λ (l : List Rpc). l ++ Appended reply ∷ []) ready.out, ready.waiting);
    })
    (λ e. record {
      role = ready.role;
      node = ready.node;
      term = ready.term;
      reply = reply;
      from = from ∙ ready.node;
      to = to;
      term_is = ap (λ x. x.0) term ∙ ready.term;
      good = good;
      takes = takes;
      says = inr (
        leb-false u.op u.noticed e,
        ready.out,
        ap (λ (l : List Waiting). l ++ wait u.op (Appended reply) ∷ []) ready.waiting,
      );
    })

learned : (m : AppendMsg) (t u : Server) (index : ℕ) → Ready m t u → Ready m t (learn index u)
learned m t u index r = record { role = r.role; node = r.node; term = r.term; out = r.out; waiting = r.waiting }

-- entries of a term that isn't earlier
pub append-answers : (m : AppendMsg) (t : Server) → t.term.0 ≤ m.term.0 → Answers m t (receive (Append m) t)
unfolding receive accept refuse receive_append take_entries refuse_entries
append-answers m t le =
    subst (Answers m t) (sym (cond-false (ltb m.term.0 t.term.0) (refuse (Append m) t) (receive_append m t)
    (le-ltb m.term.0 t.term.0 le)))
    (cond_both (is_match m t.log) (take_entries m t) (refuse_entries m t) (Answers m t)
    (λ _. (let u = learn (min m.commit.0 (end m)) (write_missing m t) in
    answers m t u (record { from = u.node; to = m.from; term = u.term; ok = true; index = record { 0 = end m } })
    (learned m t (write_missing m t) (min m.commit.0 (end m))
    (write-ready m (Some m.from) (drop (has_agreed m t.log) m.entries) t le)) refl refl refl (λ _. (refl, refl)) (λ e _ at brings. writes m t e at brings)))
    (λ e. (let u = follow (Some m.from) (enter m.term t) in
    answers m t u
    (record { from = u.node; to = m.from; term = u.term; ok = false; index = record { 0 = min (m.prev_index.0 - 1) (last t) } })
    (enter-ready m (Some m.from) t le) refl refl refl
    (λ is. absurd (let x : true ≡ false = sym is ∙ e in cc))
    (λ f is at brings. absurd (let x : true ≡ false = sym is ∙ e in cc)))))

-- ---- its changes are durable

abbrev pub rpcs_of : List Waiting → List Rpc
rpcs_of ws = map (λ (w : Waiting). w.rpc) ws

free-all : (low high : ℕ) (ws : List Waiting) → Rises low high ws → free high ws ≡ rpcs_of ws
free-all low high [] r = refl
free-all low high (w ∷ ws) r =
    cond-true (leb w.op high) (w.rpc ∷ free high ws) [] (le-leb w.op high r.1)
    ∙ ap (λ (l : List Rpc). w.rpc ∷ l) (free-all w.op high ws r.2)

still-none : (low high : ℕ) (ws : List Waiting) → Rises low high ws → still_waiting high ws ≡ []
still-none low high [] r = refl
still-none low high (w ∷ ws) r =
    cond-true (leb w.op high) (still_waiting high ws) (w ∷ ws) (le-leb w.op high r.1) ∙ still-none w.op high ws r.2

-- a server that noticed all, and said all that waited
abbrev pub noticed-all : Server → Server
noticed-all s = record s { noticed = s.op; out = s.out ++ rpcs_of s.waiting; waiting = [] }

pub takes-all : (s : Server) → s.noticed ≤ s.op → WaitsLater s
    → take_notice (greater s.noticed s.op) s ≡ noticed-all s
takes-all s le later =
    ap (λ (n : ℕ). take_notice n s) (greater-high s.noticed s.op le)
    ∙ ap (λ (l : List Rpc). record s { noticed = s.op; out = s.out ++ l; waiting = still_waiting s.op s.waiting })
    (free-all (s.noticed + 1) s.op s.waiting later)
    ∙ ap (λ (l : List Waiting). record s { noticed = s.op; out = s.out ++ rpcs_of s.waiting; waiting = l })
    (still-none (s.noticed + 1) s.op s.waiting later)

-- nothing else changes
pub plain-notice : (s : Server) → is_leader s.role ≡ false → is_elected (noticed-all s) ≡ false → s.noticed ≤ s.op
    → WaitsLater s → notice s.op s ≡ noticed-all s
unfolding notice lead_if_elected advance
plain-notice s other beaten le later =
    ap advance (ap lead_if_elected (takes-all s le later) ∙ cond-false (is_elected told) (lead told) told beaten)
    ∙ cond-false (is_leader told.role) (record told { commit = commit_within told (last told - told.commit) }) told other
  where
    told : Server
    told = noticed-all s

pub follower-notice : (s : Server) → s.role ≡ Follower → s.noticed ≤ s.op → WaitsLater s
    → notice s.op s ≡ noticed-all s
follower-notice s follows le later =
    plain-notice s (ap is_leader follows)
    (ap (λ (r : Role). is_candidate r && is_majority (leb s.op s.op) (λ (p : Peer). p.granted) s.peers) follows) le later
