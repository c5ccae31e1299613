-- Whether terms rise along a log.
use Rattle.std.proofs.Common.{◌≡◌, ℕ, zero, suc, ◌≤◌, true, ◌&&◌, List, [], ◌∷◌, ◌++◌, drop, refl, sym, subst, ◌∙◌, arith, inl, inr}
use Rattle.std.specs.Bool.{Decides, ⊤}
use Rattle.std.specs.List.{AllByRecursion}
use Rattle.std.specs.Prelude.{nat_le}
use Rattle.std.proofs.lemmas.Bool.{and_parts, leb-true}
use Rattle.std.proofs.lemmas.Bool.Decides.{Decides-and, Decides-like}
use Rattle.qq_base.specs.Fronts.{IsFront}
use Rattle.qq_base.proofs.Fronts.{front-cons, same_head, same_tail}
use Rattle.qq_entry.specs.declared.command.Entry.{Entry}
use Rattle.qq_raft_protocol.specs.World.{Lane}
use Rattle.qq_raft_protocol.specs.Facts.{add, Within}
use Rattle.qq_raft_protocol.proofs.Kept.{not_empty}
use Rattle.qq_agree.specs.Support.{TermsRise}
use Rattle.qq_agree.specs.Tests.{rises, terms_rise}
use Rattle.qq_agree.proofs.Tests.{Decides-leb}

-- ---- from one term on, up to another

abbrev RiseFrom : ℕ → ℕ → List Entry → Type 0
RiseFrom from upto es =
    (a : List Entry) (e : Entry) → IsFront (add a e) es
    → (from ≤ e.term.0) × (Within e.term.0 a × (e.term.0 ≤ upto))

more : (from upto : ℕ) (x : Entry) (es : List Entry) → from ≤ x.term.0 → x.term.0 ≤ upto
    → RiseFrom x.term.0 upto es → RiseFrom from upto (x ∷ es)
more from upto x es ge le rest [] e front =
    let same : x ≡ e = same_head x e es front.rest front.is in (
      subst (λ (z : Entry). from ≤ z.term.0) same ge,
      (λ y here. absurd here, subst (λ (z : Entry). z.term.0 ≤ upto) same le),
    )
more from upto x es ge le rest (y ∷ a) e front =
    let same : x ≡ y = same_head x y es (add a e ++ front.rest) front.is in
    let r = rest a e (record { rest = front.rest; is = same_tail x y es (add a e ++ front.rest) front.is }) in
    let first : x.term.0 ≤ e.term.0 = r.0 in (
      omega (arith, ge, first),
      (
        λ z here. elim here [
          | inl own ↦ subst (λ (w : Entry). w.term.0 ≤ e.term.0) (same ∙ sym own) first
          | inr later ↦ r.1.0 z later
        ],
        r.1.1,
      ),
    )

less : (from upto : ℕ) (x : Entry) (es : List Entry) → RiseFrom from upto (x ∷ es)
    → (from ≤ x.term.0) × ((x.term.0 ≤ upto) × RiseFrom x.term.0 upto es)
less from upto x es all =
    let one = all [] x (record { rest = es; is = refl }) in (
      one.0,
      (
        one.1.1,
        λ a e front. let r = all (x ∷ a) e (front-cons x (add a e) es front) in
            (r.1.0 x (inl refl), (λ y here. r.1.0 y (inr here), r.1.1)),
      ),
    )

rises-decides : (from upto : ℕ) (es : List Entry) → Decides (rises from upto es) (RiseFrom from upto es)
rises-decides from upto [] = (λ pass a e front. absurd (not_empty a [] e front refl), λ h. refl)
rises-decides from upto (x ∷ es) =
    Decides-like (rises from upto (x ∷ es)) (λ h. more from upto x es h.0 h.1.0 h.1.1) (less from upto x es)
    (Decides-and (nat_le from x.term.0) (nat_le x.term.0 upto && rises x.term.0 upto es) (Decides-leb from x.term.0)
    (Decides-and (nat_le x.term.0 upto) (rises x.term.0 upto es) (Decides-leb x.term.0 upto)
    (rises-decides x.term.0 upto es)))

pub terms_rise-decides : (l : Lane) → Decides (terms_rise l) (TermsRise l)
terms_rise-decides l =
    Decides-like (terms_rise l) (λ h a e front. (h a e front).1) (λ h a e front. (omega arith, h a e front))
    (rises-decides 0 l.term l.log)

-- ---- each term is at or below those that follow

abbrev pub Rise : List Entry → Type 0
Rise [] = ⊤
Rise (e ∷ es) = AllByRecursion (λ (f : Entry). e.term.0 ≤ f.term.0) es × Rise es

rise-from : (from upto : ℕ) (es : List Entry) → rises from upto es ≡ true
    → AllByRecursion (λ (f : Entry). from ≤ f.term.0) es × Rise es
rise-from from upto [] pass = (tt, tt)
rise-from from upto (x ∷ es) pass =
    let one = and_parts (nat_le from x.term.0) (nat_le x.term.0 upto && rises x.term.0 upto es) pass in
    let two = and_parts (nat_le x.term.0 upto) (rises x.term.0 upto es) one.1 in
    let le : from ≤ x.term.0 = leb-true from x.term.0 one.0 in
    let rest = rise-from x.term.0 upto es two.1 in
    ((le, later from x.term.0 es le rest.0), rest)
  where
    later : (n m : ℕ) (fs : List Entry) → n ≤ m → AllByRecursion (λ (f : Entry). m ≤ f.term.0) fs
        → AllByRecursion (λ (f : Entry). n ≤ f.term.0) fs
    later n m [] le each = tt
    later n m (f ∷ fs) le each =
        let one : m ≤ f.term.0 = each.0 in
        (omega (arith, le, one), later n m fs le each.1)

pub rise-log : (l : Lane) → terms_rise l ≡ true → Rise l.log
rise-log l pass = (rise-from 0 l.term l.log pass).1

pub rise-drop : (n : ℕ) (es : List Entry) → Rise es → Rise (drop n es)
rise-drop zero es r = r
rise-drop (suc n) [] r = tt
rise-drop (suc n) (x ∷ es) r = rise-drop n es r.1
