-- No index above the greatest that a majority has, among those that a member has last, is held.
use Rattle.std.proofs.Common.{◌≡◌, ◌⊎◌, inl, inr, ℕ, zero, suc, ◌+◌, ◌-◌, ◌*◌, ◌<◌, ◌≤◌, Bool, true, false, cond, List, [], ◌∷◌, length, take, get_or, min, refl, sym, ap, subst, ◌∙◌, arith}
use Rattle.std.specs.Prelude.{All, nat_le, nat_lt, ◌&&◌, ◌==◌}
use Rattle.std.specs.List.{AllByRecursion, count_by}
use Rattle.std.proofs.lemmas.Bool.{cases_lt, le-leb, lt-leb}
use Rattle.std.proofs.lemmas.List.Recursion.{is_count_by}
use Rattle.std.proofs.lemmas.List.Elements.{All-more, All-weaker, recursion_from_All}
use Rattle.qq_base.specs.declared.memory.TheConstants.{NUMBER_END}
use Rattle.qq_raft_model.specs.declared.peer.Peer.{Peer}
use Rattle.qq_raft_model.specs.Leading.{durable, may_commit, commit_within, one_if}
use Rattle.qq_raft_model.specs.State.{Server, last, term_at}
use Rattle.qq_raft_core.specs.Held.{is_held}
use Rattle.qq_raft_core.specs.Raft.{IsPeer}

-- ---- counts

abbrev tally : {A : Type 0} → (A → Bool) → List A → ℕ
tally p [] = 0
tally p (x ∷ xs) = cond (p x) (1 + tally p xs) (tally p xs)

tally-count : {A : Type 0} (p : A → Bool) (xs : List A) → tally p xs ≡ count_by p xs
tally-count p xs = is_count_by (tally p) p refl (λ x ys. refl) xs

tally-same : {A : Type 0} (p q : A → Bool) (xs : List A) → AllByRecursion (λ x. p x ≡ q x) xs → tally p xs ≡ tally q xs
tally-same p q [] all = refl
tally-same p q (x ∷ xs) all = rw (all.0, tally-same p q xs all.1) refl

tally-none : {A : Type 0} (p : A → Bool) (xs : List A) → AllByRecursion (λ x. p x ≡ false) xs → tally p xs ≡ 0
tally-none p [] all = refl
tally-none p (x ∷ xs) all = rw (all.0, tally-none p xs all.1) refl

count-same : {A : Type 0} (p q : A → Bool) (xs : List A) → AllByRecursion (λ x. p x ≡ q x) xs
    → count_by p xs ≡ count_by q xs
count-same p q xs all = sym (tally-count p xs) ∙ tally-same p q xs all ∙ tally-count q xs

count-none : {A : Type 0} (p : A → Bool) (xs : List A) → AllByRecursion (λ x. p x ≡ false) xs → count_by p xs ≡ 0
count-none p xs all = sym (tally-count p xs) ∙ tally-none p xs all

-- ---- one index more

-- who has an index has the next one, where nobody who is held above has it last
one-more : (held index own : ℕ) → (own ≡ index → own ≤ held) → held < index → nat_le index own ≡ nat_le (index + 1) own
one-more held index own last lt = by (cases_lt own index) (cases_lt index own)
  where
    by : ((own < index) ⊎ (index ≤ own)) → ((index < own) ⊎ (own ≤ index)) → nat_le index own ≡ nat_le (index + 1) own
    by (inl below) other = rw (lt-leb index own below, lt-leb (index + 1) own (omega (arith, below))) refl
    by (inr from) (inl above) = rw (le-leb index own from, le-leb (index + 1) own (omega (arith, above))) refl
    by (inr from) (inr upto) = let le = last (omega (arith, from, upto)) in absurd (omega (arith, le, lt, from, upto))

-- what a search over the members has found
pub record Covers (s : Server) (held : ℕ) (peers : List Peer) : Type 0 where
  pub own : is_held s (durable s) ≡ true → durable s ≤ held
  pub each : All (λ (p : Peer). is_held s p.matched ≡ true → p.matched ≤ held) peers

-- one member more was looked at
pub covers-more :
    (s : Server) (held new place : ℕ) (p : Peer) → p ≡ get_or s.peers place p → place < length s.peers
    → Covers s held (take place s.peers) → held ≤ new → (is_held s p.matched ≡ true → p.matched ≤ new)
    → Covers s new (take (place + 1) s.peers)
covers-more s held new place p is lt c rises here =
    let F = λ (q : Peer). is_held s q.matched ≡ true → q.matched ≤ new in
    let weaker = All-weaker (λ (q : Peer). is_held s q.matched ≡ true → q.matched ≤ held) F
    (λ q f t. let le = f t in omega (arith, le, rises)) (take place s.peers) c.each in
    record {
      own = λ t. let le = c.own t in omega (arith, le, rises);
      each = All-more F s.peers place p lt weaker (subst F is here);
    }

each-more : (s : Server) (held index : ℕ) (peers : List Peer)
    → AllByRecursion (λ (p : Peer). is_held s p.matched ≡ true → p.matched ≤ held) peers → is_held s index ≡ true
    → held < index → AllByRecursion (λ (p : Peer). nat_le index p.matched ≡ nat_le (index + 1) p.matched) peers
each-more s held index [] all t lt = tt
each-more s held index (p ∷ peers) all t lt = (
  one-more held index p.matched (λ same. all.0 (subst (λ n. is_held s n ≡ true) (sym same) t)) lt,
  each-more s held index peers all.1 t lt,
)

next-held : (s : Server) (held index : ℕ) → Covers s held s.peers → held < index → is_held s index ≡ true
    → is_held s (index + 1) ≡ true
next-held s held index c lt t =
    let own = one-more held index (durable s) (λ same. c.own (subst (λ n. is_held s n ≡ true) (sym same) t)) lt in
    let each = recursion_from_All (λ (p : Peer). is_held s p.matched ≡ true → p.matched ≤ held) s.peers c.each in
    let others = count-same (λ (p : Peer). nat_le index p.matched) (λ (p : Peer). nat_le (index + 1) p.matched) s.peers
    (each-more s held index s.peers each t lt) in
    ap (λ n. nat_lt (length s.peers + 1) (2 * (one_if (nat_le (index + 1) (durable s)) + n))) (sym others)
    ∙ ap (λ b. nat_lt (length s.peers + 1) (2 * (one_if b + count_by (λ (p : Peer). nat_le index p.matched) s.peers)))
    (sym own)
    ∙ t

up-held : (s : Server) (held n index : ℕ) → Covers s held s.peers → held < index → is_held s index ≡ true
    → is_held s (index + n) ≡ true
up-held s held zero index c lt t =
    let n : index ≡ index + 0 = omega arith in
    subst (λ m. is_held s m ≡ true) n t
up-held s held (suc n) index c lt t =
    let m : index + 1 + n ≡ index + suc n = omega arith in
    subst (λ k. is_held s k ≡ true) m
    (up-held s held n (index + 1) c (omega (arith, lt)) (next-held s held index c lt t))

-- ---- above all members

none-past : (index : ℕ) (peers : List Peer) → AllByRecursion IsPeer peers → NUMBER_END < index
    → AllByRecursion (λ (p : Peer). nat_le index p.matched ≡ false) peers
none-past index [] all lt = tt
none-past index (p ∷ peers) all lt =
    let le = all.0.0 in
    (lt-leb index p.matched (omega (arith, le, lt)), none-past index peers all.1 lt)

past-end : (s : Server) (index : ℕ) → All IsPeer s.peers → last s ≤ NUMBER_END → NUMBER_END < index
    → is_held s index ≡ false
past-end s index peers end lt =
    let none = count-none (λ (p : Peer). nat_le index p.matched) s.peers
    (none-past index s.peers (recursion_from_All IsPeer s.peers peers) lt) in
    let own : nat_le index (durable s) ≡ false = lt-leb index (durable s) (omega (arith, end, lt)) in
    ap (λ n. nat_lt (length s.peers + 1) (2 * (one_if (nat_le index (durable s)) + n))) none
    ∙ ap (λ b. nat_lt (length s.peers + 1) (2 * (one_if b + 0))) own
    ∙ lt-leb (suc (length s.peers + 1)) 0 (omega arith)

pub none-above : (s : Server) (held : ℕ) → Covers s held s.peers → All IsPeer s.peers → last s ≤ NUMBER_END
    → (index : ℕ) → held < index → is_held s index ≡ false
none-above s held c peers end index lt = by (is_held s index) refl
  where
    by : (b : Bool) → is_held s index ≡ b → b ≡ false
    by false e = refl
    by true e =
        let far = up-held s held (NUMBER_END + 1) index c lt e in
        let none = past-end s (index + (NUMBER_END + 1)) peers end (omega arith) in
        sym far ∙ none

-- ---- the search for the commit

false-right : (b c : Bool) → c ≡ false → (b && c) ≡ false
false-right true c e = e
false-right false c e = refl

pass-down : (s : Server) (start d : ℕ) → ((i : ℕ) → start < i → may_commit s (s.commit + i) ≡ false)
    → commit_within s (start + d) ≡ commit_within s start
pass-down s start zero none = let n : start + 0 ≡ start = omega arith in ap (commit_within s) n
pass-down s start (suc d) none =
    let n : start + suc d ≡ suc (start + d) = omega arith in
    let here = none (suc (start + d)) (omega arith) in
    ap (commit_within s) n ∙ rw here (pass-down s start d none)

-- nothing is passed over where a search begins no lower than what is held
pub begins-held : (s : Server) (above held start : ℕ) → start ≡ min above (held - s.commit)
    → ((index : ℕ) → held < index → is_held s index ≡ false) → commit_within s start ≡ commit_within s above
begins-held s above held start is none = by (cases_lt start above)
  where
    by : ((start < above) ⊎ (above ≤ start)) → commit_within s start ≡ commit_within s above
    by (inr ge) = let n : start ≡ above = omega (arith, is, ge) in ap (commit_within s) n
    by (inl lt) =
        let n : above ≡ start + (above - start) = omega (arith, lt) in
        sym (ap (commit_within s) n ∙ pass-down s start (above - start) (λ i more.
        false-right (term_at s.log (s.commit + i) == s.term.0) (is_held s (s.commit + i))
        (none (s.commit + i) (omega (arith, is, lt, more)))))
