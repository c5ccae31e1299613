-- What a change of a map by sessions is to a function of the session.
use Rattle.std.proofs.Common.{◌≡◌, ◌⊎◌, ℕ, true, false, cond, List, Option, Some, None, refl, sym, ap, ◌∙◌, inl, inr}
use Rattle.std.specs.Prelude.{nat_eq, unwrap_or, is_some}
use Rattle.std.specs.Map.{lookup}
use Rattle.indexmap.specs.IndexMap.{IndexMap, get, WritesThrough}
use Rattle.std.specs.Cmp.{nat_eq_equiv}
use Rattle.std.proofs.Math.Path.{fun_ext}
use Rattle.std.proofs.lemmas.Bool.{cases_Bool, eqb-true, cond-true, cond-false}
use Rattle.qq_base.specs.Fronts.{put}

-- what is known of a session, or what is of one that isn't known
abbrev pub at : {V : Type 0} → (ℕ → V) → List (ℕ × V) → ℕ → V
at new rows = λ k. unwrap_or (lookup (nat_eq k) rows) (new k)

-- what is written at a session's number is that session
pub written-at : {V : Type 0} (new : ℕ → V) (k : ℕ) (c : V) (old rows : List (ℕ × V))
    → ((q : ℕ) → lookup (nat_eq q) rows ≡ cond (nat_eq k q) (Some c) (lookup (nat_eq q) old))
    → at new rows ≡ put k c (at new old)
unfolding put
written-at {V} new k c old rows updates = fun_ext (λ q. by q (cases_Bool (nat_eq k q)))
  where
    by : (q : ℕ) → ((nat_eq k q ≡ true) ⊎ (nat_eq k q ≡ false)) → at new rows q ≡ cond (nat_eq q k) c (at new old q)
    by q (inl here) =
        ap (λ (o : Option V). unwrap_or o (new q))
        (updates q ∙ cond-true (nat_eq k q) (Some c) (lookup (nat_eq q) old) here)
        ∙ sym (cond-true (nat_eq q k) c (at new old q) (nat_eq_equiv.symm q k ∙ here))
    by q (inr other) =
        ap (λ (o : Option V). unwrap_or o (new q))
        (updates q ∙ cond-false (nat_eq k q) (Some c) (lookup (nat_eq q) old) other)
        ∙ sym (cond-false (nat_eq q k) c (at new old q) (nat_eq_equiv.symm q k ∙ other))

-- a session is put where it is already
pub put-itself : {V : Type 0} (k : ℕ) (c : V) (f : ℕ → V) → c ≡ f k → put k c f ≡ f
unfolding put
put-itself {V} k c f is = fun_ext (λ q. by q (cases_Bool (nat_eq q k)))
  where
    by : (q : ℕ) → ((nat_eq q k ≡ true) ⊎ (nat_eq q k ≡ false)) → cond (nat_eq q k) c (f q) ≡ f q
    by q (inl here) = cond-true (nat_eq q k) c (f q) here ∙ is ∙ ap f (sym (eqb-true q k here))
    by q (inr other) = cond-false (nat_eq q k) c (f q) other

-- the row that is found is the session
pub known-at : {V S : Type 0} (new : ℕ → V) (session : ℕ) (m : IndexMap ℕ V S) (c : V) (f : ℕ → V)
    → Some c ≡ get nat_eq m session → at new m.entries ≡ f → c ≡ f session
known-at {V} new session m c f found view =
    ap (λ (o : Option V). unwrap_or o (new session)) found ∙ ap (λ (h : ℕ → V). h session) view

-- a row was written through
pub written-known : {V S : Type 0} (new : ℕ → V) (session : ℕ) (m n : IndexMap ℕ V S) (c w : V) (f : ℕ → V)
    (change : V → V) → Some c ≡ get nat_eq m session → at new m.entries ≡ f
    → WritesThrough nat_eq (nat_eq session) m w n → w ≡ change c
    → at new n.entries ≡ put session (change (f session)) f
written-known {V} new session m n c w f change found view wrote is =
    written-at new session w m.entries n.entries (wrote.3 (ap is_some (sym found))).0
    ∙ ap (put session w) view
    ∙ ap (λ (x : V). put session x f) (is ∙ ap change (known-at new session m c f found view))

-- what is written through is what was there
pub written-same : {V S : Type 0} (new : ℕ → V) (session : ℕ) (m n : IndexMap ℕ V S) (c w : V) (f : ℕ → V)
    → Some c ≡ get nat_eq m session → at new m.entries ≡ f → WritesThrough nat_eq (nat_eq session) m w n → w ≡ c
    → at new n.entries ≡ f
written-same new session m n c w f found view wrote is =
    written-known new session m n c w f (λ x. x) found view wrote is ∙ put-itself session (f session) f refl

-- no row is found: the session is a new one
pub absent-at : {V S : Type 0} (new : ℕ → V) (session : ℕ) (m : IndexMap ℕ V S) (f : ℕ → V)
    → None ≡ get nat_eq m session → at new m.entries ≡ f → f session ≡ new session
absent-at {V} new session m f none view =
    sym (ap (λ (h : ℕ → V). h session) view) ∙ ap (λ (o : Option V). unwrap_or o (new session)) (sym none)
