-- Fields and their encodings.
use Rattle.std.proofs.Common.{◌≡◌, ℕ, ◌^◌, ◌<◌, ◌≤◌, true, List, ◌++◌, length, Ok, refl, sym, subst, arith}
use Rattle.std.specs.Int.{w8, w32, w64}
use Rattle.std.proofs.lemmas.Bool.Decides.{nat_tests}
use Rattle.qq_base.specs.Fields.{AreBytes}
use Rattle.qq_base.specs.declared.ids.NodeId.{NodeId}
use Rattle.qq_command.specs.declared.refusal.Refusal.TheVariants.{Short, BadKind, BadField}
use Rattle.qq_fields.specs.Writing.{u8, u32, u64}
use Rattle.qq_command.specs.Reading.{checked}
use Rattle.qq_log.specs.declared.limits.TheConstants.{NODE_LIMIT}
use Rattle.qq_raft_msg.specs.Encoding.{way, shadow}
use Rattle.qq_raft_msg.specs.Reading.{number_at, bytes_at, is_kind, kind_at, is_node, node_at, envelope_at, shadow_at}
use Rattle.qq_raft_msg.specs.Rpc.{IsNode, IsEnvelope}
use Rattle.qq_fields.proofs.Laws.{bytes-takes, bytes-again, Takes, Takes-then, Holds, Holds-map, Reads, here, then_ok, where_true, in_turn, checked-reads}
use Rattle.qq_raft_msg.proofs.Numbers.{u8-reads, u32-reads, u64-reads}

-- ---- kinds and nodes

kind_bounds : (n : ℕ) → is_kind n ≡ true → (0 < n) × (n ≤ 6)
kind_bounds n t = (grind (arith, nat_tests), grind (arith, nat_tests))

pub kind_takes : (bytes : List ℕ) → AreBytes bytes
    → Holds (kind_at bytes) (λ x. Takes bytes (u8 x.0) x.1 × (0 < x.0) × (x.0 ≤ 6))
unfolding kind_at
kind_takes bytes fits =
    then_ok (number_at w8 bytes) _ (u8-reads.takes bytes fits) (λ n p.
    where_true (is_kind n.0) (Ok n) BadKind (λ t.
    let within = kind_bounds n.0 t in here n (p.0, within.0, within.1)))

pub kind_again : (n : ℕ) (bytes rest : List ℕ) → bytes ≡ u8 n ++ rest → n < 2 ^ 8 → is_kind n ≡ true
    → kind_at bytes ≡ Ok (n, rest)
unfolding kind_at
kind_again n bytes rest e lt t = in_turn _ (number_at w8 bytes) _ (u8-reads.again n bytes rest e lt) (rw t refl)

node_bounds : (n : ℕ) → is_node n ≡ true → (1 ≤ n) × (n ≤ NODE_LIMIT)
node_bounds n t = (grind (arith, nat_tests), grind (arith, nat_tests))

node_passes : (n : ℕ) → 1 ≤ n → n ≤ NODE_LIMIT → is_node n ≡ true
node_passes n low high = grind (arith, nat_tests)

abbrev node : NodeId → List ℕ
node n = u8 n.0

pub node-reads : Reads node_at node IsNode
unfolding node_at
node-reads = record {
  takes =
      λ bytes fits. then_ok (checked is_node (number_at w8 bytes)) _
      ((checked-reads BadField is_node u8-reads).takes bytes fits) (λ n p.
      here _ (p.0, node_bounds n.0 p.1.1));
  again =
      λ n bytes rest e f. in_turn _ (checked is_node (number_at w8 bytes)) _
      ((checked-reads BadField is_node u8-reads).again n.0 bytes rest e
      (omega (arith, f.1), node_passes n.0 f.0 f.1)) refl;
}

pub envelope-reads : Reads envelope_at way IsEnvelope
unfolding envelope_at way
envelope-reads = record {
  takes = λ bytes fits.
      then_ok (node_at bytes) _ (node-reads.takes bytes fits) (λ from p.
      then_ok (node_at from.1) _ (node-reads.takes from.1 p.0.rest_fits) (λ to q.
      then_ok (number_at w64 to.1) _ (u64-reads.takes to.1 q.0.rest_fits) (λ term r.
      here _ (Takes-then (Takes-then p.0 q.0) r.0, (p.1, q.1, r.1)))));
  again = λ e bytes rest is f.
      let split : bytes ≡ u8 e.from.0 ++ (u8 e.to.0 ++ (u64 e.term.0 ++ rest)) = is in
      in_turn _ (node_at bytes) _ (node-reads.again e.from bytes _ split f.0)
      (in_turn _ (node_at _) _ (node-reads.again e.to _ _ refl f.1)
      (in_turn _ (number_at w64 _) _ (u64-reads.again e.term.0 _ rest refl f.2) refl));
}

-- ---- shadows

pub shadow-reads : Reads shadow_at shadow (λ b. length b < 2 ^ 32)
unfolding shadow_at shadow
shadow-reads = record {
  takes = λ bytes fits.
      then_ok (number_at w32 bytes) _ (u32-reads.takes bytes fits) (λ n p.
      Holds-map (bytes_at n.0 n.1) (bytes-takes Short n.0 n.1 p.0.rest_fits) (λ x q. (
        Takes-then (subst (λ (k : ℕ). Takes bytes (u32 k) n.1) (sym q.1) p.0) q.0,
        subst (λ (k : ℕ). k < 2 ^ 32) (sym q.1) p.1,
      )));
  again = λ b bytes rest e f.
      let split : bytes ≡ u32 (length b) ++ (b ++ rest) = e in
      in_turn _ (number_at w32 bytes) _ (u32-reads.again (length b) bytes _ split f)
      (bytes-again Short (length b) b _ rest refl refl);
}
