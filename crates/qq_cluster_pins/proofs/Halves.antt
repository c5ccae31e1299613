-- How many are more than half.
use Rattle.std.proofs.Common.{◌≡◌, ℕ, ◌≤◌, ◌<◌, ◌+◌, ◌*◌, Bool, true, false, cond, List, [], ◌∷◌, length, count_by, refl, sym, ap, ◌∙◌, subst, inl, inr, arith}
use Rattle.std.specs.Prelude.{filter, nat_le, nat_lt}
use Rattle.std.proofs.lemmas.Bool.{false≢true, le-leb, leb-true, lt-ltb, ltb-true}
use Rattle.qq_raft_model.specs.declared.peer.Peer.{Peer}
use Rattle.qq_raft_model.specs.Leading.{is_majority}
use Rattle.qq_raft_protocol.specs.Facts.{In, Most, tally}

same : (a b : Bool) → (a ≡ true → b ≡ true) → (b ≡ true → a ≡ true) → a ≡ b
same true b there back = sym (there refl)
same false true there back = back refl
same false false there back = refl

-- more than half of so many
pub more : (n m x : ℕ) → n < 2 * m → 2 * m ≤ n + 2 → nat_lt n (2 * x) ≡ nat_le m x
more n m x over under =
    same (nat_lt n (2 * x)) (nat_le m x)
    (λ is. le-leb m x (let lt = ltb-true n (2 * x) is in omega (arith, lt, under)))
    (λ is. lt-ltb n (2 * x) (let le = leb-true m x is in omega (arith, le, over)))

none : (x : ℕ) → 0 + x ≡ x
none x = omega arith

-- a leader's own vote with those of its peers, or without it
pub counts : (n m : ℕ) → n < 2 * m → 2 * m ≤ n + 2 → (peers : List Peer) (passes : Peer → Bool) → length peers + 1 ≡ n
    → (is_majority true passes peers ≡ nat_le m (1 + count_by passes peers))
    × (is_majority false passes peers ≡ nat_le m (count_by passes peers))
counts n m over under peers passes is = (
  ap (λ (l : ℕ). nat_lt l (2 * (1 + count_by passes peers))) is ∙ more n m (1 + count_by passes peers) over under,
  ap (λ (l : ℕ). nat_lt l (2 * (0 + count_by passes peers))) is
      ∙ ap (λ (x : ℕ). nat_lt n (2 * x)) (none (count_by passes peers)) ∙ more n m (count_by passes peers) over under,
)

-- ---- members

tally-filter : (test : ℕ → Bool) (ms : List ℕ) → tally test ms ≡ length (filter test ms)
tally-filter test [] = refl
tally-filter test (m ∷ ms) = by (test m) (tally-filter test ms)
  where
    by : (b : Bool) → tally test ms ≡ length (filter test ms)
        → cond b (1 + tally test ms) (tally test ms) ≡ length (cond b (m ∷ filter test ms) (filter test ms))
    by true is = (let e = is in omega (arith, e))
    by false is = is

fewer : (few many : ℕ → Bool) (ms : List ℕ) → ((q : ℕ) → In q ms → few q ≡ true → many q ≡ true)
    → tally few ms ≤ tally many ms
fewer few many [] each = omega arith
fewer few many (m ∷ ms) each =
    by (few m) (many m) (each m (inl refl)) (fewer few many ms (λ q here. each q (inr here)))
  where
    by : (a b : Bool) → (a ≡ true → b ≡ true) → tally few ms ≤ tally many ms
        → cond a (1 + tally few ms) (tally few ms) ≤ cond b (1 + tally many ms) (tally many ms)
    by true true implies le = omega (arith, le)
    by true false implies le = absurd (false≢true (implies refl))
    by false true implies le = omega (arith, le)
    by false false implies le = le

-- at least so many of the members
pub logs : (n m : ℕ) → n < 2 * m → 2 * m ≤ n + 2 → (ms : List ℕ) (test : ℕ → Bool) → length ms ≡ n
    → (Most ms (λ k. test k ≡ true) → m ≤ length (filter test ms))
    × (m ≤ length (filter test ms) → Most ms (λ k. test k ≡ true))
logs n m over under ms test is = (
  λ most. (let c = tally-filter test ms in let f = fewer most.counts test ms most.each in let major = most.majority in
      omega (arith, c, f, major, is, under)),
  λ some. record {
    counts = test;
    majority = (let c = tally-filter test ms in omega (arith, c, some, is, over));
    each = λ q here passes. passes;
  },
)

-- how many members count, in a list's words
pub filtered : (counts : ℕ → Bool) (ms : List ℕ) → length ms < 2 * tally counts ms
    → length ms < 2 * length (filter counts ms)
filtered counts ms major = subst (λ (n : ℕ). length ms < 2 * n) (tally-filter counts ms) major
