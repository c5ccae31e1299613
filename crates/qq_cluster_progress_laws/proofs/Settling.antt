-- A queue over new logs settles in four rounds, and its first member leads then.
use Rattle.std.proofs.Common.{◌≡◌, ◌≢◌, ◌<◌, ℕ, zero, suc, ◌≤◌, Bool, true, List, [], ◌∷◌, length, map, refl, sym, ap, ◌∙◌, subst, inl, arith}
use Rattle.qq_base.specs.declared.ids.NodeId.{NodeId}
use Rattle.qq_raft_protocol.specs.Facts.{In}
use Rattle.qq_raft_model.specs.declared.peer.Peer.{Peer}
use Rattle.qq_raft_model.specs.Group.{has_node}
use Rattle.qq_raft_model.specs.Handing.{peer_number}
use Rattle.qq_raft_model.specs.Refines.{number}
use Rattle.qq_raft_model.specs.State.{Server}
use Rattle.qq_cluster_model.specs.Queue.{Queue, Ticks, after, happens}
use Rattle.qq_cluster_progress_laws.specs.Alone.{round_alone}
use Rattle.qq_cluster_progress_laws.specs.Soon.{AreOnce}
use Rattle.qq_cluster_progress_laws.proofs.Committing.{IsLedQuietly}
use Rattle.qq_cluster_progress_laws.proofs.Elected.{first-busy, fourth-leads, one-busy, second-busy, single-busy, single-leads, third-busy}
use Rattle.qq_cluster_progress_laws.proofs.Fit.{others}
use Rattle.qq_cluster_progress_laws.proofs.Led.{quiet-stays}
use Rattle.qq_cluster_progress_laws.proofs.Rising.{IsFreshQueue, in-numbers}
use Rattle.qq_cluster_progress_laws.proofs.Rounds.{IsSettled}
use Rattle.qq_cluster_progress_laws.proofs.Sending.{other-in}
use Rattle.qq_cluster_progress_laws.proofs.Sound.{AreHanded}

-- so many rounds of the queue alone
abbrev pub rounds : (ℕ → Bool) → List ℕ → ℕ → Queue → Queue
rounds up nodes zero q = q
rounds up nodes (suc n) q = let r = rounds up nodes n q in after r (round_alone up nodes r)

-- a pump of the queue alone leaves it so: where it stops before four rounds, and after four
pub record Settles (members : List NodeId) (up : ℕ → Bool) (nodes : List ℕ) (k : ℕ) (q : Queue) : Type 0 where
  pub early : (n : ℕ) → n < 4 → (rounds up nodes n q).group.bag ≡ []
      → ((j : ℕ) → up j ≡ true → IsSettled j (rounds up nodes n q)) → IsLedQuietly members up k (rounds up nodes n q)
  pub then : IsLedQuietly members up k (rounds up nodes 4 q)

module _ (handed : AreHanded) (members : List NodeId) (up : ℕ → Bool) (nodes : List ℕ) (q : Queue) (k : ℕ)
    (fresh : IsFreshQueue members up q) (member : has_node k members ≡ true)
    (among : (j : ℕ) → up j ≡ true → In j nodes) (once : AreOnce nodes) where
  abbrev one : Queue
  one = happens q (Ticks k)

  abbrev server : Server
  server = (fresh.there k member).0

  k_up : up k ≡ true
  k_up = fresh.members_up k member

  single : server.peers ≡ [] → Settles members up nodes k one
  single none = record {
    early = early;
    then = quiet-stays members up nodes k (rounds up nodes 3 one) third;
  }
    where
      second : IsLedQuietly members up k (rounds up nodes 2 one)
      second = single-leads handed members up nodes q k fresh member (λ j is. among j is) none once

      third : IsLedQuietly members up k (rounds up nodes 3 one)
      third = quiet-stays members up nodes k (rounds up nodes 2 one) second

      early : (n : ℕ) → n < 4 → (rounds up nodes n one).group.bag ≡ []
          → ((j : ℕ) → up j ≡ true → IsSettled j (rounds up nodes n one)) → IsLedQuietly members up k (rounds up nodes n one)
      early zero lt bag settled =
          absurd (one-busy handed members up nodes q k fresh member (λ j is. among j is) (settled k k_up))
      early (suc zero) lt bag settled =
          absurd (single-busy handed members up nodes q k fresh member (λ j is. among j is) none once (settled k k_up))
      early (suc (suc zero)) lt bag settled = second
      early (suc (suc (suc zero))) lt bag settled = third
      early (suc (suc (suc (suc n)))) lt bag settled = absurd (omega (arith, lt))

  several : (x : Peer) (xs : List Peer) → server.peers ≡ x ∷ xs → Settles members up nodes k one
  several x xs some = record {
    early = early;
    then = fourth-leads handed members up nodes q k fresh member (λ j is. among j is) more;
  }
    where
      more : 1 ≤ length server.peers
      more = (let l = ap length some in omega (arith, l))

      numbers : map peer_number server.peers ≡ map number (others k members)
      numbers = (fresh.sound.fit.each k server (fresh.there k member).1).peers

      there : In x.node.0 (map number (others k members))
      there = subst (λ (l : List ℕ). In x.node.0 l) (ap (map peer_number) (sym some) ∙ numbers) (inl refl)

      other : x.node.0 ≢ k
      other = other-in k members x.node.0 there

      counts : has_node x.node.0 members ≡ true
      counts = in-numbers k members x.node.0 there

      j_up : up x.node.0 ≡ true
      j_up = fresh.members_up x.node.0 counts

      early : (n : ℕ) → n < 4 → (rounds up nodes n one).group.bag ≡ []
          → ((j : ℕ) → up j ≡ true → IsSettled j (rounds up nodes n one)) → IsLedQuietly members up k (rounds up nodes n one)
      early zero lt bag settled =
          absurd (one-busy handed members up nodes q k fresh member (λ j is. among j is) (settled k k_up))
      early (suc zero) lt bag settled =
          absurd (first-busy handed members up nodes q k fresh member (λ j is. among j is) more x.node.0 other counts bag
          (settled x.node.0 j_up))
      early (suc (suc zero)) lt bag settled =
          absurd (second-busy handed members up nodes q k fresh member (λ j is. among j is) more (settled k k_up))
      early (suc (suc (suc zero))) lt bag settled =
          absurd (third-busy handed members up nodes q k fresh member (λ j is. among j is) more x.node.0 other counts bag
          (settled x.node.0 j_up))
      early (suc (suc (suc (suc n)))) lt bag settled = absurd (omega (arith, lt))

  pub settles : Settles members up nodes k one
  settles = by server.peers refl
    where
      by : (l : List Peer) → server.peers ≡ l → Settles members up nodes k one
      by [] is = single is
      by (x ∷ xs) is = several x xs is
