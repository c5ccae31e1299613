-- The consumers and their queue at the last commit.
use Rattle.std.proofs.Common.{◌≡◌, ℕ, List, sym, subst}
use Rattle.qq_parts.specs.Parts.{Served}
use Rattle.qq_consumer.specs.Roster.{roster_of}
use Rattle.qq_base.specs.declared.ids.ConsumerId.{ConsumerId}
use Rattle.qq_consumer.specs.Numbers.{RisingList}
use Rattle.qq_consumer.specs.Turns.{Waiting, IsKept, AreKept}

-- what is kept stays so where nothing changes
pub still-kept : (ws vs : Waiting) (xs ys : List Served) (k : ℕ) → vs ≡ ws → ys ≡ xs → IsKept ws (roster_of xs k)
    → IsKept vs (roster_of ys k)
still-kept ws vs xs ys k waiting served kept =
    subst (λ (us : Waiting). IsKept us (roster_of ys k)) (sym waiting)
    (subst (λ (os : List Served). IsKept ws (roster_of os k)) (sym served) kept)

-- what was kept at the last commit is kept again
pub taken-back : (ws : Waiting) (xs : List Served) (k : ℕ) (waiting : RisingList ConsumerId) (ys zs : List Served)
    → IsKept ws (roster_of xs k) → waiting.items ≡ ws → ys ≡ xs → waiting.base ≡ ws → zs ≡ xs
    → AreKept waiting (roster_of ys k) (roster_of zs k)
taken-back ws xs k waiting ys zs kept items served base before = record {
  now_kept = still-kept ws waiting.items xs ys k items served kept;
  before_kept = still-kept ws waiting.base xs zs k base before kept;
}
