-- The search for the greatest entry that may be committed.
use Rattle.std.proofs.Common.{◌≡◌, ℕ, zero, suc, ◌≤◌, ◌+◌, ◌-◌, ◌<◌, true, false, refl, sym, subst, arith}
use Rattle.std.proofs.lemmas.Bool.{cond_both}
use Rattle.qq_raft_model.specs.State.{Server}
use Rattle.qq_raft_model.specs.Leading.{may_commit, commit_within}

found-here : (s : Server) (n : ℕ) → may_commit s (s.commit + suc n) ≡ true
    → commit_within s (suc n) ≡ s.commit + suc n
found-here s n t = rw t refl

passed-here : (s : Server) (n : ℕ) → may_commit s (s.commit + suc n) ≡ false
    → commit_within s (suc n) ≡ commit_within s n
passed-here s n f = rw f refl

pub found : (s : Server) (above i : ℕ) → i < above → may_commit s (s.commit + (above - i)) ≡ true
    → commit_within s (above - i) ≡ s.commit + (above - i)
found s above i lt =
    let k : above - i ≡ suc (above - (i + 1)) = omega arith in
    subst (λ m. may_commit s (s.commit + m) ≡ true → commit_within s m ≡ s.commit + m) (sym k)
    (found-here s (above - (i + 1)))

pub passed : (s : Server) (above i : ℕ) → i < above → may_commit s (s.commit + (above - i)) ≡ false
    → commit_within s (above - i) ≡ commit_within s (above - (i + 1))
passed s above i lt =
    let k : above - i ≡ suc (above - (i + 1)) = omega arith in
    subst (λ m. may_commit s (s.commit + m) ≡ false → commit_within s m ≡ commit_within s (above - (i + 1))) (sym k)
    (passed-here s (above - (i + 1)))

-- it is no more above the commit than it may be
pub within-more : (s : Server) (n : ℕ) → commit_within s n ≤ s.commit + n
within-more s zero = omega arith
within-more s (suc n) =
    cond_both (may_commit s (s.commit + suc n)) (s.commit + suc n) (commit_within s n)
    (λ (m : ℕ). m ≤ s.commit + suc n) (λ _. omega arith)
    (λ _. let le = within-more s n in omega (arith, le))
