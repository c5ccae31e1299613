-- What a refusal tells is at its end.
use Rattle.std.proofs.Common.{◌≡◌, ◌⊎◌, ◌≤◌, ◌^◌, ◌-◌, ℕ, inl, inr, arith}
use Rattle.qq_base.specs.declared.memory.Memory.TheVariants.{Spent, Want}
use Rattle.qq_base.specs.declared.memory.TheConstants.{NUMBER_END}
use Rattle.qq_raft_msg.specs.declared.bag.TheConstants.{BAG_LIMIT}

spent-same : (m n : ℕ) → Spent m ≡ Spent n → m ≡ n
spent-same m n e = cc

pub told-ends : (number : ℕ)
    → (Spent number ≡ Want) ⊎ ((Spent number ≡ Spent (2 ^ 63)) ⊎ (Spent number ≡ Spent (2 ^ 32 - 1)))
    → (number ≡ BAG_LIMIT) ⊎ (NUMBER_END ≤ number)
told-ends number (inl want) = absurd cc
told-ends number (inr (inl end)) = let e = spent-same number (2 ^ 63) end in inr (omega (arith, e))
told-ends number (inr (inr limit)) = let e = spent-same number (2 ^ 32 - 1) limit in inl (omega (arith, e))
