-- Messages that wait behind one whose change isn't durable.
use Rattle.std.proofs.Common.{◌≡◌, ◌∙◌, ℕ, true, false, List, [], ◌∷◌, refl, ap, subst}
use Rattle.std.specs.Prelude.{nat_le, slice_get}
use Rattle.std.specs.Option.{option_map_or}
use Rattle.qq_raft_model.specs.declared.peer.Waiting.{Waiting}
use Rattle.qq_raft_model.specs.Server.{free, still_waiting}

pub none-free : (op : ℕ) (ws : List Waiting)
    → option_map_or (λ (w : Waiting). nat_le w.op op) (slice_get ws 0) false ≡ false → free op ws ≡ []
none-free op [] f = refl
none-free op (w ∷ ws) f = rw f refl

pub all-wait : (op : ℕ) (ws : List Waiting)
    → option_map_or (λ (w : Waiting). nat_le w.op op) (slice_get ws 0) false ≡ false → still_waiting op ws ≡ ws
all-wait op [] f = refl
all-wait op (w ∷ ws) f = rw f refl

-- one leaves
pub freed : (op : ℕ) (ws rest : List Waiting) (w : Waiting) → ws ≡ w ∷ rest
    → option_map_or (λ (v : Waiting). nat_le v.op op) (slice_get ws 0) false ≡ true → free op ws ≡ w.rpc ∷ free op rest
freed op ws rest w is t =
    let here = subst (λ vs. option_map_or (λ (v : Waiting). nat_le v.op op) (slice_get vs 0) false ≡ true) is t in
    ap (free op) is ∙ rw here refl

pub left : (op : ℕ) (ws rest : List Waiting) (w : Waiting) → ws ≡ w ∷ rest
    → option_map_or (λ (v : Waiting). nat_le v.op op) (slice_get ws 0) false ≡ true
    → still_waiting op ws ≡ still_waiting op rest
left op ws rest w is t =
    let here = subst (λ vs. option_map_or (λ (v : Waiting). nat_le v.op op) (slice_get vs 0) false ≡ true) is t in
    ap (still_waiting op) is ∙ rw here refl
