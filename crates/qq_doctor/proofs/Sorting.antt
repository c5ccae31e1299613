-- What was found is kept queue by queue.
use Rattle.std.proofs.Common.{◌≡◌, ◌≢◌, ◌⊎◌, ◌∙◌, ◌+◌, ◌<◌, ◌≤◌, ℕ, Bool, true, false, List, [], ◌∷◌, ◌++◌, ap, append_assoc, arith, cond, get_or, inl, inr, length, length-append, map, refl, subst, sym}
use Rattle.std.specs.Bool.{Decides}
use Rattle.std.specs.Prelude.{nat_eq}
use Rattle.std.proofs.Math.ListN.{set}
use Rattle.std.proofs.Math.Nat.{eq-or-lt_of_le}
use Rattle.std.proofs.Math.Seq.{get_or-append_seam}
use Rattle.std.proofs.lemmas.Bool.Decides.{Decides-eqb, not_from_Decides}
use Rattle.std.proofs.lemmas.List.{append-nil, get_or-set_other, get_or-set_same, get_or_append_left, length-set, map-append}
use Rattle.std.proofs.lemmas.List.Elements.{filter-append}
use Rattle.qq_log.specs.declared.lane.Lane.{Lane}
use Rattle.qq_doctor.specs.Lanes.{Found}
use Rattle.qq_doctor.specs.Sorted.{AreSorted, is_of, of_node, of_queue}

-- ---- at first

pub sorted-empty : AreSorted 0 [] []
sorted-empty = record { count_is = refl; each = λ at lt. absurd (omega (arith, lt)) }

pub sorted-next : (n : ℕ) (rows : List (List Found)) → AreSorted n [] rows → AreSorted (n + 1) [] (rows ++ [] ∷ [])
sorted-next n rows so = record {
  count_is = length-append rows ([] ∷ []) ∙ ap (λ (m : ℕ). m + 1) so.count_is;
  each = each;
}
  where
    by : (at : ℕ) → (at ≡ n) ⊎ (at < n) → get_or (rows ++ [] ∷ []) at [] ≡ []
    by at (inr lt) =
        get_or_append_left rows ([] ∷ []) [] at (omega (arith, lt, so.count_is)) ∙ so.each at lt
    by at (inl e) =
        ap (λ (i : ℕ). get_or (rows ++ [] ∷ []) i []) (e ∙ sym so.count_is) ∙ get_or-append_seam rows [] [] []

    each : (at : ℕ) → at < n + 1 → get_or (rows ++ [] ∷ []) at [] ≡ []
    each at lt =
        let le : at ≤ n = omega (arith, lt) in
        by at (eq-or-lt_of_le le)

-- ---- one lane more

more-by : (q : ℕ) (x : Found) (found : List Found) (own : Bool) → is_of q x ≡ own
    → of_queue q (found ++ x ∷ []) ≡ of_queue q found ++ cond own (x ∷ []) []
more-by q x found own is =
    filter-append (is_of q) found (x ∷ []) ∙ ap (λ (b : Bool). of_queue q found ++ cond b (x ∷ []) []) is

is-own : (q : ℕ) (x : Found) → x.1.queue.0 ≡ q → is_of q x ≡ true
is-own q x e = (Decides-eqb x.1.queue.0 q).1 e

is-not : (q : ℕ) (x : Found) → (x.1.queue.0 ≡ q → ⊥) → is_of q x ≡ false
is-not q x other = by (nat_eq x.1.queue.0 q) (Decides-eqb x.1.queue.0 q)
  where
    by : (b : Bool) → Decides b (x.1.queue.0 ≡ q) → b ≡ false
    by true decides = absurd (other (decides.0 refl))
    by false decides = refl

more-own : (q : ℕ) (x : Found) (found : List Found) → x.1.queue.0 ≡ q
    → of_queue q (found ++ x ∷ []) ≡ of_queue q found ++ x ∷ []
more-own q x found e = more-by q x found true (is-own q x e)

more-other : (q : ℕ) (x : Found) (found : List Found) → (x.1.queue.0 ≡ q → ⊥)
    → of_queue q (found ++ x ∷ []) ≡ of_queue q found
more-other q x found other = more-by q x found false (is-not q x other) ∙ append-nil (of_queue q found)

-- one of a queue that has no row
pub sorted-pass : (count : ℕ) (found : List Found) (rows : List (List Found)) (x : Found)
    → ((at : ℕ) → at < count → x.1.queue.0 ≡ at + 1 → ⊥) → AreSorted count found rows
    → AreSorted count (found ++ x ∷ []) rows
sorted-pass count found rows x outside so = record {
  count_is = so.count_is;
  each = λ at lt. so.each at lt ∙ sym (more-other (at + 1) x found (outside at lt));
}

-- one of the queue that has this row
pub sorted-add : (count : ℕ) (found : List Found) (rows : List (List Found)) (x : Found) (i : ℕ) (row : List Found)
    → x.1.queue.0 ≡ i + 1 → i < length rows → row ≡ get_or rows i [] ++ x ∷ [] → AreSorted count found rows
    → AreSorted count (found ++ x ∷ []) (set rows i row)
sorted-add count found rows x i row number within is so = record {
  count_is = length-set rows i row ∙ so.count_is;
  each = λ at lt. by at lt (nat_eq at i) (Decides-eqb at i);
}
  where
    here : get_or (set rows i row) i [] ≡ of_queue (i + 1) (found ++ x ∷ [])
    here =
        get_or-set_same rows i row [] within ∙ is
        ∙ ap (λ (l : List Found). l ++ x ∷ []) (so.each i (omega (arith, within, so.count_is)))
        ∙ sym (more-own (i + 1) x found number)

    by : (at : ℕ) → at < count → (b : Bool) → Decides b (at ≡ i)
        → get_or (set rows i row) at [] ≡ of_queue (at + 1) (found ++ x ∷ [])
    by at lt true decides =
        subst (λ (n : ℕ). get_or (set rows i row) n [] ≡ of_queue (n + 1) (found ++ x ∷ [])) (sym (decides.0 refl)) here
    by at lt false decides =
        let other : at ≢ i = not_from_Decides false decides refl in
        get_or-set_other rows i at row [] other ∙ so.each at lt
        ∙ sym (more-other (at + 1) x found (λ e. other (omega (arith, e, number))))

-- ---- a node's lanes

-- what was added so far; the rest is still to come
pub record Adding (k : ℕ) (all rest : List Lane) (old new : List (List Found)) : Type 0 where
  pub done : List Lane
  pub parts : all ≡ done ++ rest
  pub adds : (count : ℕ) (found : List Found) → AreSorted count found old
      → AreSorted count (found ++ map (of_node k) done) new

pub adding-begin : (k : ℕ) (all rest : List Lane) (old : List (List Found)) → rest ≡ all → Adding k all rest old old
adding-begin k all rest old is = record {
  done = [];
  parts = sym is;
  adds = λ count found so. subst (λ (l : List Found). AreSorted count l old) (sym (append-nil found)) so;
}

pub adding-more : (k : ℕ) (all rest left : List Lane) (lane : Lane) (old now next : List (List Found))
    → rest ≡ lane ∷ left → Adding k all rest old now
    → ((count : ℕ) (found : List Found) → AreSorted count found now
    → AreSorted count (found ++ of_node k lane ∷ []) next) → Adding k all left old next
adding-more k all rest left lane old now next is so one = record {
  done = so.done ++ lane ∷ [];
  parts = so.parts ∙ ap (λ (l : List Lane). so.done ++ l) is ∙ sym (append_assoc so.done (lane ∷ []) left);
  adds = λ count found sorted.
      subst (λ (l : List Found). AreSorted count l next)
      (append_assoc found (map (of_node k) so.done) (of_node k lane ∷ [])
      ∙ ap (λ (l : List Found). found ++ l) (sym (map-append (of_node k) so.done (lane ∷ []))))
      (one count (found ++ map (of_node k) so.done) (so.adds count found sorted));
}

pub adding-end : (k : ℕ) (all rest : List Lane) (old new : List (List Found)) → rest ≡ [] → Adding k all rest old new
    → (count : ℕ) (found : List Found) → AreSorted count found old
    → AreSorted count (found ++ map (of_node k) all) new
adding-end k all rest old new none so count found sorted =
    subst (λ (l : List Lane). AreSorted count (found ++ map (of_node k) l) new)
    (sym (so.parts ∙ ap (λ (l : List Lane). so.done ++ l) none ∙ append-nil so.done)) (so.adds count found sorted)
