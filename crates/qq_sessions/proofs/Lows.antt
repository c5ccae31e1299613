-- The least index that kept answers name, as one pass over them finds it.
use Rattle.std.proofs.Common.{◌≡◌, ℕ, ◌≤◌, ◌⊎◌, true, false, List, [], ◌∷◌, ◌++◌, Option, Some, None, refl, sym, ap, ◌∙◌, subst, inl, inr, arith, if◌then◌else◌}
use Rattle.std.specs.Prelude.{nat_lt, fold}
use Rattle.std.proofs.lemmas.Bool.{cases_Bool, cond-true, cond-false, ltb-true, ltb-false}
use Rattle.qq_base.specs.declared.ids.Index.{Index}
use Rattle.qq_entry.specs.declared.answer.Answer.{Answer}
use Rattle.qq_entry.specs.declared.answer.Answer.TheVariants.{Got}
use Rattle.qq_model.specs.declared.session.OpenSession.{OpenSession}
use Rattle.qq_live.specs.Indices.{lesser, least}
use Rattle.qq_live.proofs.Sums.{least-same}
use Rattle.qq_sessions.specs.KeptLow.{got_index, lesser_index, low_of, low_of_session}
use Rattle.qq_sessions.specs.Named.{got_indices, answers_indices, kept_indices, HoldsKept}

-- ---- the lesser of two

abbrev less : ℕ → ℕ → ℕ
less a b = if nat_lt b a then b else a

record IsLess (a b n : ℕ) : Type 0 where
  pub first : n ≤ a
  pub second : n ≤ b
  pub one : (n ≡ a) ⊎ (n ≡ b)

less-is : (a b : ℕ) → IsLess a b (less a b)
less-is a b = by (cases_Bool (nat_lt b a))
  where
    by : (nat_lt b a ≡ true) ⊎ (nat_lt b a ≡ false) → IsLess a b (less a b)
    by (inl is) =
        let l = ltb-true b a is in
        subst (IsLess a b) (sym (cond-true (nat_lt b a) b a is))
        (record { first = omega (arith, l); second = omega arith; one = inr refl })
    by (inr is) =
        let m = ltb-false b a is in
        subst (IsLess a b) (sym (cond-false (nat_lt b a) b a is))
        (record { first = omega arith; second = omega (arith, m); one = inl refl })

less-two : (a b c : ℕ) → less (less a b) c ≡ less a (less b c)
less-two a b c =
    by (less a b) (less b c) (less (less a b) c) (less a (less b c)) (less-is a b) (less-is b c)
    (less-is (less a b) c) (less-is a (less b c))
  where
    by : (ab bc l r : ℕ) → IsLess a b ab → IsLess b c bc → IsLess ab c l → IsLess a bc r → l ≡ r
    by ab bc l r x y p q = at x.one y.one p.one q.one
      where
        at : (ab ≡ a) ⊎ (ab ≡ b) → (bc ≡ b) ⊎ (bc ≡ c) → (l ≡ ab) ⊎ (l ≡ c) → (r ≡ a) ⊎ (r ≡ bc) → l ≡ r
        at e f g h =
            let x1 = x.first in
            let x2 = x.second in
            let y1 = y.first in
            let y2 = y.second in
            let p1 = p.first in
            let p2 = p.second in
            let q1 = q.first in
            let q2 = q.second in
            omega (arith, e, f, g, h, x1, x2, y1, y2, p1, p2, q1, q2)

pub lesser-two : (a b c : Option ℕ) → lesser_index (lesser_index a b) c ≡ lesser_index a (lesser_index b c)
lesser-two a b None = refl
lesser-two a None (Some c) = refl
lesser-two None (Some b) (Some c) = refl
lesser-two (Some a) (Some b) (Some c) = ap (λ (n : ℕ). Some n) (less-two a b c)

pub first-lesser : (n : ℕ) (o : Option ℕ) → lesser n o ≡ lesser_index (Some n) o
first-lesser n None = refl
first-lesser n (Some m) = refl

pub none-lesser : (o : Option ℕ) → lesser_index None o ≡ o
none-lesser None = refl
none-lesser (Some n) = refl

pub least-append : (xs ys : List Index) → least (xs ++ ys) ≡ lesser_index (least xs) (least ys)
least-append [] ys = sym (none-lesser (least ys))
least-append (x ∷ xs) ys =
    ap (lesser x.0) (least-append xs ys)
    ∙ first-lesser x.0 (lesser_index (least xs) (least ys))
    ∙ sym (lesser-two (Some x.0) (least xs) (least ys))
    ∙ ap (λ (o : Option ℕ). lesser_index o (least ys)) (sym (first-lesser x.0 (least xs)))

-- ---- kept answers

got-is : (answer : Answer) → got_index answer ≡ least (got_indices answer)
got-is (Got delivery) = refl
got-is _ = refl

answers-low : (answers : List Answer) (low : Option ℕ)
    → low_of low answers ≡ lesser_index low (least (answers_indices answers))
answers-low [] low = refl
answers-low (answer ∷ answers) low =
    answers-low answers (lesser_index low (got_index answer))
    ∙ lesser-two low (got_index answer) (least (answers_indices answers))
    ∙ ap (λ (o : Option ℕ). lesser_index low (lesser_index o (least (answers_indices answers)))) (got-is answer)
    ∙ ap (lesser_index low) (sym (least-append (got_indices answer) (answers_indices answers)))

sessions-low : (ones : List OpenSession) (low : Option ℕ)
    → fold low_of_session low ones ≡ lesser_index low (least (kept_indices ones))
sessions-low [] low = refl
sessions-low (one ∷ ones) low =
    sessions-low ones (low_of low one.kept)
    ∙ ap (λ (o : Option ℕ). lesser_index o (least (kept_indices ones))) (answers-low one.kept low)
    ∙ lesser-two low (least (answers_indices one.kept)) (least (kept_indices ones))
    ∙ ap (lesser_index low) (sym (least-append (answers_indices one.kept) (kept_indices ones)))

-- what is held as often as kept answers name it has their least index
pub held-low : (indices : List Index) (ones : List OpenSession) → HoldsKept indices ones
    → least indices ≡ fold low_of_session None ones
held-low indices ones held =
    least-same indices (kept_indices ones) held
    ∙ sym (sessions-low ones None ∙ none-lesser (least (kept_indices ones)))
