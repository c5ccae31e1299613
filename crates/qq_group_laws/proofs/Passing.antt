-- Which number stands at its end where a refusal tells one.
use Rattle.std.proofs.Common.{◌≡◌, ◌⊎◌, ◌^◌, List, ◌∷◌, ◌++◌, length, sym, subst, inl, inr, arith}
use Rattle.qq_base.specs.declared.ids.Index.{Index}
use Rattle.qq_base.specs.declared.memory.Memory.TheVariants.{Spent, Want}
use Rattle.qq_base.specs.declared.memory.TheConstants.{NUMBER_END}
use Rattle.qq_entry.specs.declared.command.Entry.{Entry}
use Rattle.qq_raft_core.specs.Raft.{IsAtEnd}
use Rattle.qq_raft_msg.specs.Queue.{Applied}
use Rattle.qq_raft_msg.specs.declared.bag.TheConstants.{BAG_LIMIT}
use Rattle.qq_raft_model.specs.State.{Server as Raft}
use Rattle.qq_group_laws.proofs.Causes.{found-past}
use Rattle.qq_raft.specs.Step.{ServerState, PassesEnd, apply_all, next_index, unapplied}

end-apart : BAG_LIMIT ≡ NUMBER_END → ⊥
end-apart is = omega (arith, is)

limit-apart : NUMBER_END ≡ BAG_LIMIT → ⊥
limit-apart is = omega (arith, is)

-- ---- the end of numbers

-- where it is told, the bag had no part in that
pub own-end : (A B : Type 0) → ((NUMBER_END ≡ NUMBER_END) × A) ⊎ ((NUMBER_END ≡ BAG_LIMIT) × B) → A
own-end A B (inl own) = own.1
own-end A B (inr full) = absurd (limit-apart full.0)

pub queue-end : {P : Type 0} (S A : P → Type 0) (B : Type 0) (plain : P) → S plain
    → ((p : P) → S p → (NUMBER_END ≡ NUMBER_END) × A p) ⊎ ((NUMBER_END ≡ BAG_LIMIT) × B) → A plain
queue-end S A B plain stood (inl own) = (own plain stood).1
queue-end S A B plain stood (inr full) = absurd (limit-apart full.0)

-- no number had a part in what only wants memory
pub want-end : (B : Type 0) → (Spent NUMBER_END ≡ Want) ⊎ ((NUMBER_END ≡ BAG_LIMIT) × B) → ⊥
want-end B (inl want) = absurd cc
want-end B (inr full) = limit-apart full.0

-- an entry raises a number of the queue past its end, once those before it are applied
abbrev HasPassing :
    {P : Type 0} → (P → Index → Entry → Applied P) → (P → Index → Entry → Type 0) → List Entry → ServerState P
    → Type 0
HasPassing step passes entries s =
    (before rest : List Entry) × (entry : Entry) × (entries ≡ before ++ entry ∷ rest)
    × passes (apply_all step before s).queue (next_index (apply_all step before s)) entry

passing : {P : Type 0} (step : P → Index → Entry → Applied P) (passes : P → Index → Entry → Type 0)
    (entries : List Entry) (s : ServerState P) → PassesEnd step passes entries s → HasPassing step passes entries s
passing step passes entries s passed =
    let found = found-past step passes entries s passed in (found.0, found.2, found.1, found.3, found.4)

pub end-or-passing : {P : Type 0} (step : P → Index → Entry → Applied P) (passes : P → Index → Entry → Type 0)
    (r : Raft) (s made : ServerState P) → made ≡ s → IsAtEnd r ⊎ PassesEnd step passes (unapplied s) s
    → (r.op ≡ 2 ^ 63) ⊎ (r.term.0 ≡ 2 ^ 63) ⊎ (length r.log ≡ 2 ^ 63) ⊎ HasPassing step passes (unapplied made) made
end-or-passing step passes r s made is (inl (inl op)) = inl op
end-or-passing step passes r s made is (inl (inr (inl term))) = inr (inl term)
end-or-passing step passes r s made is (inl (inr (inr last))) = inr (inr (inl last))
end-or-passing {P} step passes r s made is (inr passed) =
    inr (inr (inr (subst (λ (t : ServerState P). HasPassing step passes (unapplied t) t) (sym is)
    (passing step passes (unapplied s) s passed))))

-- ---- the bag's limit

-- where it is told, no number of the server had a part in that
pub own-limit : (A B : Type 0) → ((BAG_LIMIT ≡ NUMBER_END) × A) ⊎ ((BAG_LIMIT ≡ BAG_LIMIT) × B) → B
own-limit A B (inl own) = absurd (end-apart own.0)
own-limit A B (inr full) = full.1

pub queue-limit : {P : Type 0} (S A : P → Type 0) (B : Type 0) (plain : P) → S plain
    → ((p : P) → S p → (BAG_LIMIT ≡ NUMBER_END) × A p) ⊎ ((BAG_LIMIT ≡ BAG_LIMIT) × B) → B
queue-limit S A B plain stood (inl own) = absurd (end-apart (own plain stood).0)
queue-limit S A B plain stood (inr full) = full.1

pub want-limit : (B : Type 0) → (Spent BAG_LIMIT ≡ Want) ⊎ ((BAG_LIMIT ≡ BAG_LIMIT) × B) → B
want-limit B (inl want) = absurd cc
want-limit B (inr full) = full.1
