-- A server notices that its changes are durable: its own vote and its entries may count by then.
use Rattle.std.proofs.Common.{◌≡◌, ℕ, ◌+◌, ◌-◌, ◌≤◌, List, [], ◌∷◌, ◌++◌, length, map, take, refl, sym, ap, subst, arith, inl, inr}
use Rattle.std.proofs.lemmas.Bool.{cond_both, cond-false, cases_Bool}
use Rattle.qq_base.specs.Fronts.{IsFront}
use Rattle.qq_base.proofs.Fronts.{front-length}
use Rattle.qq_entry.specs.declared.command.Entry.{Entry}
use Rattle.qq_raft_protocol.specs.World.{Lane, World}
use Rattle.qq_raft_protocol.proofs.Shades.{shaded-noticed}
use Rattle.qq_raft_model.specs.declared.peer.Peer.{Peer}
use Rattle.qq_raft_model.specs.State.{Server, last, is_leader, change}
use Rattle.qq_raft_model.specs.Leading.{add_entry, advance, commit_within, is_elected, lead, lead_if_elected, noop, pass, send, start_peer}
use Rattle.qq_raft_model.specs.Server.{greater, take_notice, notice}
use Rattle.qq_raft_model.specs.Refines.{IsGroup, IsReached, Stands, Refines}
use Rattle.qq_raft_model.proofs.Adding.{is_leader_of, done-front}
use Rattle.qq_raft_model.proofs.Counting.{advance-refines, mapped-group}
use Rattle.qq_raft_model.proofs.Leads.{lead_if-refines}
use Rattle.qq_raft_model.proofs.Noticing.{greater_le, greater_most, take-refines}
use Rattle.qq_raft_model.proofs.Reached.{shaded-there, refines-next}
use Rattle.qq_raft_model.proofs.Refining.{refines-refl}

lead-group : {members : List ℕ} {k : ℕ} (s : Server) → IsGroup members k s.peers
    → IsGroup members k (lead_if_elected s).peers
unfolding lead_if_elected lead add_entry change send
lead-group {members} {k} s group =
    let start : Peer → Peer = start_peer (last s + 1) in
    let log : List Entry = take (length s.log) s.log ++ noop s.term ∷ [] in
    cond_both (is_elected s) (lead s) s (λ (t : Server). IsGroup members k t.peers)
    (λ _.
    mapped-group (λ (p : Peer). pass log p) (map start s.peers) (λ p. refl)
    (mapped-group start s.peers (λ p. refl) group))
    (λ _. group)

-- what is known to be committed is within the log
commit-within : {members : List ℕ} {w : World} {k : ℕ} {s : Server} → IsReached members w
    → Stands w k s → s.commit ≤ last s
commit-within {members} {w} {k} {s} reached st =
    let done : IsFront (w.done k) s.log = done-front reached st in
    let known : length (w.done k) ≤ length s.log = front-length done in
    let commit : length (w.done k) ≡ s.commit = st.commit in
    omega (arith, known, commit)

advance-any : {members : List ℕ} {w : World} {k : ℕ} {s : Server} → IsReached members w
    → IsGroup members k s.peers → Stands w k s → Refines members w k (advance s)
unfolding advance
advance-any {members} {w} {k} {s} reached group st =
    let moved = record s { commit = commit_within s (last s - s.commit) } in
    elim (cases_Bool (is_leader s.role)) [
      | inl e ↦
          advance-refines {members = members} group st (is_leader_of s.role e) (commit-within reached st)
      | inr e ↦
          subst (Refines members w k) (sym (cond-false (is_leader s.role) moved s e)) (refines-refl st)
    ]

pub notice-refines : {members : List ℕ} {w : World} {k : ℕ} {s : Server} (op : ℕ)
    → IsReached members w → IsGroup members k s.peers → Stands w k s → op ≤ s.op
    → Refines members w k (notice op s)
unfolding notice
notice-refines {members} {w} {k} {s} op reached group st le =
    let n = greater s.noticed op in
    let same : (w.member k).noticed ≡ s.noticed = st.noticed in
    let mine : (w.member k).mine.op ≡ s.op = ap (λ (l : Lane). l.op) st.lane in
    let below : (w.member k).noticed ≤ (w.member k).mine.op =
    shaded-noticed (shaded-there members w reached) k (w.member k).mine (inl refl) in
    let most : n ≤ s.op = greater_most s.noticed op s.op (omega (arith, same, mine, below)) le in
    refines-next {t = notice op s} reached (take-refines n st (greater_le s.noticed op) most) (λ v reached_v taken only.
    refines-next {t = notice op s} reached_v (lead_if-refines reached_v group taken) (λ u reached_u led only_u.
    advance-any reached_u (lead-group (take_notice n s) group) led))
