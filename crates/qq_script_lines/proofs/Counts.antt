-- Seven digits are a small number.
use Rattle.std.proofs.Common.{◌≡◌, ℕ, zero, suc, ◌+◌, ◌*◌, ◌≤◌, refl, arith}

-- a bound on what so many digits come to
abbrev pub most : ℕ → ℕ
most zero = 0
most (suc n) = most n * 10 + 255

pub most-next : (n : ℕ) → most (n + 1) ≡ most n * 10 + 255
most-next n = let e : n + 1 ≡ suc n = omega arith in rw e refl

pub most-small : (n : ℕ) → n ≤ 7 → most n ≤ 300000000
most-small zero le = omega arith
most-small (suc zero) le = omega arith
most-small (suc (suc zero)) le = omega arith
most-small (suc (suc (suc zero))) le = omega arith
most-small (suc (suc (suc (suc zero)))) le = omega arith
most-small (suc (suc (suc (suc (suc zero))))) le = omega arith
most-small (suc (suc (suc (suc (suc (suc zero)))))) le = omega arith
most-small (suc (suc (suc (suc (suc (suc (suc zero))))))) le = omega arith
most-small (suc (suc (suc (suc (suc (suc (suc (suc n)))))))) le = absurd (omega (arith, le))
