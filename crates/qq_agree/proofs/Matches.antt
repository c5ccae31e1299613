-- Whether two logs match.
use Rattle.std.proofs.Common.{◌≡◌, ℕ, zero, suc, ◌+◌, ◌-◌, ◌<◌, ◌≤◌, Bool, true, false, List, [], ◌∷◌, ◌++◌, length, drop, refl, sym, ap, subst, ◌∙◌, arith, inl, inr}
use Rattle.std.specs.Bool.{Decides}
use Rattle.std.specs.List.{AllByRecursion}
use Rattle.std.specs.Prelude.{if◌then◌else◌}
use Rattle.std.proofs.lemmas.Bool.{cases_order, false≢true, le-ltb, lt-ltb}
use Rattle.std.proofs.lemmas.Bool.Decides.{Decides-at, Decides-like}
use Rattle.std.proofs.lemmas.List.{length-drop}
use Rattle.qq_base.specs.Fronts.{IsFront}
use Rattle.qq_base.proofs.Fronts.{front-compare, front-cons, front-trans, longer_front, same_head, same_tail}
use Rattle.qq_entry.specs.declared.command.Entry.{Entry}
use Rattle.qq_entry.specs.Same.{same_entry}
use Rattle.qq_entry.proofs.Equalities.{entry_decides}
use Rattle.qq_raft_protocol.specs.World.{Lane}
use Rattle.qq_raft_protocol.specs.Facts.{add, In}
use Rattle.qq_raft_protocol.proofs.Lists.{In-front}
use Rattle.qq_raft_protocol.proofs.Logs.{In-add, In-place}
use Rattle.qq_agree.specs.Support.{LogsMatch, TermsRise}
use Rattle.qq_agree.specs.Tests.{apart, common, logs_match}
use Rattle.qq_agree.proofs.Rises.{Rise, rise-drop, rise-log, terms_rise-decides}

pub match-self : (x : List Entry) → LogsMatch x x
match-self x a b e f first second same = front-compare first second

pub match-swap : (x y : List Entry) → LogsMatch x y → LogsMatch y x
match-swap x y m a b e f first second same =
    elim (m b a f e second first (sym same)) [ inl front ↦ inr front | inr front ↦ inl front ]

-- ---- the same entry before both

front-tail : (w c : Entry) (a x : List Entry) → IsFront (w ∷ a) (c ∷ x) → IsFront a x
front-tail w c a x p = record { rest = p.rest; is = same_tail c w x (a ++ p.rest) p.is }

front-head : (w c : Entry) (a x : List Entry) → IsFront (w ∷ a) (c ∷ x) → w ≡ c
front-head w c a x p = sym (same_head c w x (a ++ p.rest) p.is)

front-one : (e c : Entry) (xs : List Entry) → e ≡ c → IsFront (e ∷ []) (c ∷ xs)
front-one e c xs same = record { rest = xs; is = ap (λ z. z ∷ xs) (sym same) }

match-more : (c : Entry) (x y : List Entry) → LogsMatch x y → LogsMatch (c ∷ x) (c ∷ y)
match-more c x y m [] [] e f p q same =
    inl (front-one e f [] (front-head e c [] x p ∙ sym (front-head f c [] y q)))
match-more c x y m [] (z ∷ b) e f p q same =
    inl (front-one e z (add b f) (front-head e c [] x p ∙ sym (front-head z c (add b f) y q)))
match-more c x y m (w ∷ a) [] e f p q same =
    inr (front-one f w (add a e) (front-head f c [] y q ∙ sym (front-head w c (add a e) x p)))
match-more c x y m (w ∷ a) (z ∷ b) e f p q same =
    let head : w ≡ z = front-head w c (add a e) x p ∙ sym (front-head z c (add b f) y q) in
    elim (m a b e f (front-tail w c (add a e) x p) (front-tail z c (add b f) y q) same) [
      | inl front ↦ inl (longer_front w z head front)
      | inr front ↦ inr (longer_front z w (sym head) front)
    ]

match-less : (c : Entry) (x y : List Entry) → LogsMatch (c ∷ x) (c ∷ y) → LogsMatch x y
match-less c x y m a b e f p q same =
    elim (m (c ∷ a) (c ∷ b) e f (front-cons c (add a e) x p) (front-cons c (add b f) y q) same) [
      | inl front ↦ inl (front-tail c c (add a e) (add b f) front)
      | inr front ↦ inr (front-tail c c (add b f) (add a e) front)
    ]

-- ---- no term occurs in both

abbrev pub Apart : List Entry → List Entry → Type 0
Apart x y = (e f : Entry) → In e x → In f y → e.term.0 ≡ f.term.0 → ⊥

match-apart : (x y : List Entry) → Apart x y → LogsMatch x y
match-apart x y away a b e f p q same =
    absurd (away e f (In-front e p (In-add a e)) (In-front f q (In-add b f)) same)

heads : (x y : Entry) (xs ys a : List Entry) (e : Entry) → IsFront (add a e) (x ∷ xs) → IsFront (add a e) (y ∷ ys)
    → x ≡ y
heads x y xs ys [] e p q = sym (front-head e x [] xs p) ∙ front-head e y [] ys q
heads x y xs ys (z ∷ a) e p q = sym (front-head z x (add a e) xs p) ∙ front-head z y (add a e) ys q

apart-match : (x y : Entry) (xs ys : List Entry) → (x ≡ y → ⊥) → LogsMatch (x ∷ xs) (y ∷ ys)
    → Apart (x ∷ xs) (y ∷ ys)
apart-match x y xs ys other m e f here there same =
    let p = In-place e (x ∷ xs) here in
    let q = In-place f (y ∷ ys) there in
    elim (m p.before q.before e f p.front q.front same) [
      | inl front ↦ other (heads x y xs ys p.before e p.front (front-trans front q.front))
      | inr front ↦ other (heads x y xs ys q.before f (front-trans front p.front) q.front)
    ]

-- ---- after what both begin with

abbrev MatchAfter : List Entry → List Entry → ℕ → Type 0
MatchAfter x y n = (Apart (drop n x) (drop n y) → LogsMatch x y) × (LogsMatch x y → Apart (drop n x) (drop n y))

match-after : (x y : List Entry) → MatchAfter x y (common x y)
match-after [] ys = (match-apart [] ys, λ m e f here there same. absurd here)
match-after (x ∷ xs) [] = (match-apart (x ∷ xs) [], λ m e f here there same. absurd there)
match-after (x ∷ xs) (y ∷ ys) =
    by (same_entry x y) (entry_decides (same_entry x y) x y refl) (match-after xs ys)
  where
    by : (b : Bool) → Decides b (x ≡ y) → MatchAfter xs ys (common xs ys)
        → MatchAfter (x ∷ xs) (y ∷ ys) (if b then suc (common xs ys) else 0)
    by true d rest =
        let same : x ≡ y = d.0 refl in (
          λ away. subst (λ (z : Entry). LogsMatch (x ∷ xs) (z ∷ ys)) same (match-more x xs ys (rest.0 away)),
          λ m. rest.1 (match-less x xs ys (subst (λ (z : Entry). LogsMatch (x ∷ xs) (z ∷ ys)) (sym same) m)),
        )
    by false d rest = (
      match-apart (x ∷ xs) (y ∷ ys),
      apart-match x y xs ys (λ same. false≢true (d.1 same)),
    )

-- ---- a walk along both

least : (y : Entry) (ys : List Entry) → Rise (y ∷ ys) → (f : Entry) → In f (y ∷ ys) → y.term.0 ≤ f.term.0
least y ys r f (inl same) = subst (λ (z : Entry). y.term.0 ≤ z.term.0) (sym same) (omega arith)
least y ys r f (inr later) = by ys r.0 later
  where
    by : (fs : List Entry) → AllByRecursion (λ (g : Entry). y.term.0 ≤ g.term.0) fs → In f fs → y.term.0 ≤ f.term.0
    by [] each here = absurd here
    by (g ∷ fs) each (inl same) = subst (λ (z : Entry). y.term.0 ≤ z.term.0) (sym same) each.0
    by (g ∷ fs) each (inr later) = by fs each.1 later

-- an entry that is earlier than all others of the other log
past-first : (x y : Entry) (xs ys : List Entry) → x.term.0 < y.term.0 → Rise (y ∷ ys) → Apart xs (y ∷ ys)
    → Apart (x ∷ xs) (y ∷ ys)
past-first x y xs ys lt r away e f (inl own) there same =
    let le : y.term.0 ≤ f.term.0 = least y ys r f there in
    let is : e.term.0 ≡ x.term.0 = ap (λ (z : Entry). z.term.0) own in
    absurd (omega (arith, lt, le, is, same))
past-first x y xs ys lt r away e f (inr later) there same = away e f later there same

apart-swap : (x y : List Entry) → Apart x y → Apart y x
apart-swap x y away e f here there same = away f e there here (sym same)

pub apart-decides : (n : ℕ) (xs ys : List Entry) → Rise xs → Rise ys → length xs + length ys ≤ n + 1
    → Decides (apart n xs ys) (Apart xs ys)
apart-decides zero [] ys r s le = (λ pass e f here there same. absurd here, λ h. refl)
apart-decides zero (x ∷ xs) [] r s le = (λ pass e f here there same. absurd there, λ h. refl)
apart-decides zero (x ∷ xs) (y ∷ ys) r s le = absurd (omega (arith, le))
apart-decides (suc n) [] ys r s le = (λ pass e f here there same. absurd here, λ h. refl)
apart-decides (suc n) (x ∷ xs) [] r s le = (λ pass e f here there same. absurd there, λ h. refl)
apart-decides (suc n) (x ∷ xs) (y ∷ ys) r s le =
    let one = apart-decides n xs (y ∷ ys) r.1 s (omega (arith, le)) in
    let two = apart-decides n (x ∷ xs) ys r s.1 (omega (arith, le)) in
    elim (cases_order x.term.0 y.term.0) [
      | inl same ↦
          rw (le-ltb x.term.0 y.term.0 (omega (arith, same)), le-ltb y.term.0 x.term.0 (omega (arith, same)))
          (λ pass. absurd (false≢true pass), λ away. absurd (away x y (inl refl) (inl refl) same))
      | inr (inl lt) ↦
          rw (lt-ltb x.term.0 y.term.0 lt)
          (Decides-like (apart n xs (y ∷ ys)) (past-first x y xs ys lt s) (λ away e f here. away e f (inr here)) one)
      | inr (inr gt) ↦
          rw (le-ltb x.term.0 y.term.0 (omega (arith, gt)), lt-ltb y.term.0 x.term.0 gt)
          (Decides-like (apart n (x ∷ xs) ys)
          (λ away. apart-swap (y ∷ ys) (x ∷ xs) (past-first y x ys xs gt r (apart-swap (x ∷ xs) ys away)))
          (λ away e f here there. away e f here (inr there)) two)
    ]

pub logs_match-decides : (x y : List Entry) → Rise x → Rise y → Decides (logs_match x y) (LogsMatch x y)
logs_match-decides x y r s =
    let n = common x y in
    let both = match-after x y in
    Decides-like (logs_match x y) both.0 both.1
    (apart-decides (length x + (length y - 1)) (drop n x) (drop n y) (rise-drop n x r) (rise-drop n y s)
    (omega (arith, length-drop n x, length-drop n y)))

pub logs_match-known : (r : Bool) (l m : Lane) → r ≡ logs_match l.log m.log → TermsRise l → TermsRise m
    → Decides r (LogsMatch l.log m.log)
logs_match-known r l m is first second =
    Decides-at r (logs_match l.log m.log) is
    (logs_match-decides l.log m.log (rise-log l ((terms_rise-decides l).1 first))
    (rise-log m ((terms_rise-decides m).1 second)))
