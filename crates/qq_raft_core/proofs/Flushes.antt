-- The rounds of a flush.
use Rattle.std.proofs.Common.{◌≡◌, ℕ, suc, ◌+◌, ◌-◌, ◌<◌, true, false, refl, sym, subst, arith}
use Rattle.std.specs.List.{list_any}
use Rattle.qq_raft_model.specs.State.{Server, last}
use Rattle.qq_raft_model.specs.Leading.{flush_within, lags, send}

goes-on : (n : ℕ) (s : Server) → list_any (lags (last s)) s.peers ≡ true
    → flush_within (suc n) s ≡ flush_within n (send (lags (last s)) s)
goes-on n s is = rw is refl

ends : (n : ℕ) (s : Server) → list_any (lags (last s)) s.peers ≡ false → flush_within (suc n) s ≡ s
ends n s is = rw is refl

pub one-round : (s : Server) (rounds i : ℕ) → i < rounds → list_any (lags (last s)) s.peers ≡ true
    → flush_within (rounds - i) s ≡ flush_within (rounds - (i + 1)) (send (lags (last s)) s)
one-round s rounds i lt =
    let k : rounds - i ≡ suc (rounds - (i + 1)) = omega (arith, lt) in
    subst (λ m. list_any (lags (last s)) s.peers ≡ true
    → flush_within m s ≡ flush_within (rounds - (i + 1)) (send (lags (last s)) s)) (sym k)
    (goes-on (rounds - (i + 1)) s)

pub last-round : (s : Server) (rounds i : ℕ) → i < rounds → list_any (lags (last s)) s.peers ≡ false
    → flush_within (rounds - i) s ≡ s
last-round s rounds i lt =
    let k : rounds - i ≡ suc (rounds - (i + 1)) = omega (arith, lt) in
    subst (λ m. list_any (lags (last s)) s.peers ≡ false → flush_within m s ≡ s) (sym k)
    (ends (rounds - (i + 1)) s)
