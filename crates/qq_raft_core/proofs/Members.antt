-- The other members of a new server.
use Rattle.std.proofs.Common.{◌≤◌, ◌<◌, ◌^◌, Bool, true, false, cond, not, List, [], ◌∷◌, length, map, arith}
use Rattle.std.specs.Prelude.{All, filter, nat_eq}
use Rattle.std.proofs.lemmas.List.{length-map}
use Rattle.std.proofs.lemmas.List.Elements.{All-filter, All-map, All-weaker}
use Rattle.qq_base.specs.declared.ids.NodeId.{NodeId}
use Rattle.qq_raft_msg.specs.Rpc.{IsNode}
use Rattle.qq_raft_model.specs.Server.{new_peer}
use Rattle.qq_raft_core.specs.Raft.{IsPeer}

new-peer : (d : NodeId) → IsNode d → IsPeer (new_peer d)
new-peer d f = (omega arith, f, omega arith)

pub new-each : (node : NodeId) (members : List NodeId) → All IsNode members
    → All IsPeer (map new_peer (filter (λ (q : NodeId). not (nat_eq q.0 node.0)) members))
new-each node members all =
    let p = λ (q : NodeId). not (nat_eq q.0 node.0) in
    All-map IsPeer new_peer (filter p members)
    (All-weaker IsNode (λ (d : NodeId). IsPeer (new_peer d)) new-peer (filter p members) (All-filter p IsNode members all))

filtered : {A : Type 0} (p : A → Bool) (xs : List A) → length (filter p xs) ≤ length xs
filtered p [] = omega arith
filtered p (x ∷ xs) = by (p x) (filtered p xs)
  where
    by : (b : Bool) → length (filter p xs) ≤ length xs → length (cond b (x ∷ filter p xs) (filter p xs)) ≤ length (x ∷ xs)
    by true le = omega (arith, le)
    by false le = omega (arith, le)

pub new-count : (node : NodeId) (members : List NodeId) → length members < 2 ^ 32
    → length (map new_peer (filter (λ (q : NodeId). not (nat_eq q.0 node.0)) members)) < 2 ^ 32
new-count node members lt =
    let others = filter (λ (q : NodeId). not (nat_eq q.0 node.0)) members in
    let n = length-map others new_peer in
    let le = filtered (λ (q : NodeId). not (nat_eq q.0 node.0)) members in
    omega (arith, n, le, lt)
