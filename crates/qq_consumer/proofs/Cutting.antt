-- Ids that are taken out of what is out with a consumer.
use Rattle.std.proofs.Common.{◌≡◌, ◌⊎◌, ◌+◌, ℕ, zero, suc, true, false, List, [], ◌∷◌, ◌++◌, Option, Some, None, map, drop, refl, sym, ap, ◌∙◌, subst, inl, inr, arith}
use Rattle.std.specs.Prelude.{find, slice_get}
use Rattle.std.specs.Option.{option_map, option_map_or}
use Rattle.std.proofs.lemmas.Bool.{cases_Bool, cond-true, cond-false}
use Rattle.std.proofs.lemmas.List.{append_assoc}
use Rattle.qq_base.specs.declared.ids.ConsumerId.{ConsumerId}
use Rattle.qq_entry.specs.declared.message.ReadyRow.{ReadyRow}
use Rattle.qq_parts.specs.Reduced.{Item}
use Rattle.qq_parts.specs.Outs.{Cut, cut_id, behind_item}
use Rattle.qq_consumer.specs.declared.rising.Numbered.{Numbered}
use Rattle.qq_consumer.specs.Numbers.{has_number, item_of, item_by, without}
use Rattle.qq_consumer.specs.Roster.{out_item, row_of, Cuts, first_cut, cut_ids}

abbrev pub listed : Option ReadyRow → List ReadyRow
listed None = []
listed (Some row) = row ∷ []

-- one id
abbrev pub cut_one : Option Cut → List Item → Cuts
cut_one None out = record { items = []; rest = out }
cut_one (Some cut) out = record { items = cut.item ∷ []; rest = cut.rest }

pub cut-one : (id : ℕ) (out : List Item) → cut_ids (id ∷ []) out ≡ cut_one (cut_id id out) out
cut-one id out = by (cut_id id out)
  where
    by : (o : Option Cut)
        → option_map_or (λ (cut : Cut). first_cut cut.item (cut_ids [] cut.rest)) o (cut_ids [] out) ≡ cut_one o out
    by None = refl
    by (Some cut) = refl

-- one id, and then the others
pub record AreCut (id : ℕ) (ids : List ℕ) (out : List Item) : Type 0 where
  pub items : map row_of (cut_ids (id ∷ ids) out).items
      ≡ map row_of (cut_ids (id ∷ []) out).items ++ map row_of (cut_ids ids (cut_ids (id ∷ []) out).rest).items
  pub rest : (cut_ids (id ∷ ids) out).rest ≡ (cut_ids ids (cut_ids (id ∷ []) out).rest).rest

pub are-cut : (id : ℕ) (ids : List ℕ) (out : List Item) → AreCut id ids out
are-cut id ids out = record { items = items (cut_id id out); rest = rest (cut_id id out) }
  where
    all : Option Cut → Cuts
    all o = option_map_or (λ (cut : Cut). first_cut cut.item (cut_ids ids cut.rest)) o (cut_ids ids out)

    one : Option Cut → Cuts
    one o = option_map_or (λ (cut : Cut). first_cut cut.item (cut_ids [] cut.rest)) o (cut_ids [] out)

    items : (o : Option Cut) → map row_of (all o).items ≡ map row_of (one o).items ++ map row_of
        (cut_ids ids (one o).rest).items
    items None = refl
    items (Some cut) = refl

    rest : (o : Option Cut) → (all o).rest ≡ (cut_ids ids (one o).rest).rest
    rest None = refl
    rest (Some cut) = refl

-- what is taken of the numbers in memory is what is cut of the items
pub record IsTakenAt (consumer : ConsumerId) (id : ℕ) (xs : List (Numbered ReadyRow)) : Type 0 where
  pub items : map row_of (cut_ids (id ∷ []) (map (out_item consumer) xs)).items ≡ listed (item_by id xs)
  pub rest : (cut_ids (id ∷ []) (map (out_item consumer) xs)).rest ≡ map (out_item consumer) (without id xs)

pub taken-at : (consumer : ConsumerId) (id : ℕ) (xs : List (Numbered ReadyRow)) → IsTakenAt consumer id xs
taken-at consumer id xs =
    let out = map (out_item consumer) xs in
    let is = both xs in
    record {
      items = ap (λ (cuts : Cuts). map row_of cuts.items) (cut-one id out) ∙ is.0;
      rest = ap (λ (cuts : Cuts). cuts.rest) (cut-one id out) ∙ is.1;
    }
  where
    Holds : List (Numbered ReadyRow) → Option Cut → Type 0
    Holds ys o =
        (map row_of (cut_one o (map (out_item consumer) ys)).items ≡ listed (item_by id ys))
        × ((cut_one o (map (out_item consumer) ys)).rest ≡ map (out_item consumer) (without id ys))

    both : (ys : List (Numbered ReadyRow)) → Holds ys (cut_id id (map (out_item consumer) ys))
    both [] = (refl, refl)
    both (y ∷ ys) = by (cases_Bool (has_number id y)) (both ys)
      where
        x : Item
        x = out_item consumer y

        tail : List Item
        tail = map (out_item consumer) ys

        later : (o : Option Cut) → Holds ys o
            → (map row_of (cut_one (option_map (behind_item x) o) (x ∷ tail)).items ≡ listed (item_by id ys))
            × ((cut_one (option_map (behind_item x) o) (x ∷ tail)).rest ≡ x ∷ map (out_item consumer) (without id ys))
        later None is = (is.0, ap (λ (zs : List Item). x ∷ zs) is.1)
        later (Some cut) is = (is.0, ap (λ (zs : List Item). x ∷ zs) is.1)

        by : (has_number id y ≡ true) ⊎ (has_number id y ≡ false) → Holds ys (cut_id id tail)
            → Holds (y ∷ ys) (cut_id id (x ∷ tail))
        by (inl here) rest =
            subst (λ (o : Option Cut). Holds (y ∷ ys) o)
            (sym (cond-true (has_number id y) (Some (record { item = x; rest = tail }))
            (option_map (behind_item x) (cut_id id tail)) here)) (
              sym (ap (λ (o : Option (Numbered ReadyRow)). listed (option_map item_of o))
                  (cond-true (has_number id y) (Some y) (find (has_number id) ys) here)),
              ap (map (out_item consumer)) (sym (cond-true (has_number id y) ys (y ∷ without id ys) here)),
            )
        by (inr other) rest =
            let is = later (cut_id id tail) rest in
            subst (λ (o : Option Cut). Holds (y ∷ ys) o)
            (sym (cond-false (has_number id y) (Some (record { item = x; rest = tail }))
            (option_map (behind_item x) (cut_id id tail)) other)) (
              is.0 ∙ sym (ap (λ (o : Option (Numbered ReadyRow)). listed (option_map item_of o))
                  (cond-false (has_number id y) (Some y) (find (has_number id) ys) other)),
              is.1 ∙ ap (map (out_item consumer)) (sym (cond-false (has_number id y) ys (y ∷ without id ys) other)),
            )

-- a list from a place on begins with the item there
pub drop-at : {A : Type 0} (xs : List A) (k : ℕ) (x : A) → slice_get xs k ≡ Some x → drop k xs ≡ x ∷ drop (k + 1) xs
drop-at [] k x found = absurd cc
drop-at {A = A} (y ∷ xs) zero x found =
    let same : y ≡ x = cc in ap (λ (z : A). z ∷ xs) same
drop-at {A = A} (y ∷ xs) (suc k) x found =
    let next : (k + 1) + 1 ≡ suc (k + 1) = omega arith in
    let one : suc k + 1 ≡ suc (k + 1) = omega arith in
    drop-at xs k x found ∙ ap (λ (ys : List A). x ∷ ys) (sym (ap (λ n. drop n (y ∷ xs)) one))

-- the loop's next step
pub next-items : (ids : List ℕ) (place id : ℕ) (out left : List Item) (rows more all : List ReadyRow)
    → slice_get ids place ≡ Some id → more ≡ rows ++ map row_of (cut_ids (id ∷ []) out).items
    → left ≡ (cut_ids (id ∷ []) out).rest → rows ++ map row_of (cut_ids (drop place ids) out).items ≡ all
    → more ++ map row_of (cut_ids (drop (place + 1) ids) left).items ≡ all
next-items ids place id out left rows more all found makes leaves before =
    let first : Cuts = cut_ids (id ∷ []) out in
    ap (λ (xs : List ReadyRow). xs ++ map row_of (cut_ids (drop (place + 1) ids) left).items) makes
    ∙ ap (λ (xs : List Item). (rows ++ map row_of first.items) ++ map row_of (cut_ids (drop (place + 1) ids) xs).items)
    leaves
    ∙ append_assoc rows (map row_of first.items) (map row_of (cut_ids (drop (place + 1) ids) first.rest).items)
    ∙ ap (λ (xs : List ReadyRow). rows ++ xs) (sym (are-cut id (drop (place + 1) ids) out).items)
    ∙ ap (λ (ns : List ℕ). rows ++ map row_of (cut_ids ns out).items) (sym (drop-at ids place id found)) ∙ before

pub next-rest : (ids : List ℕ) (place id : ℕ) (out left all : List Item) → slice_get ids place ≡ Some id
    → left ≡ (cut_ids (id ∷ []) out).rest → (cut_ids (drop place ids) out).rest ≡ all
    → (cut_ids (drop (place + 1) ids) left).rest ≡ all
next-rest ids place id out left all found leaves before =
    ap (λ (xs : List Item). (cut_ids (drop (place + 1) ids) xs).rest) leaves
    ∙ sym (are-cut id (drop (place + 1) ids) out).rest
    ∙ ap (λ (ns : List ℕ). (cut_ids ns out).rest) (sym (drop-at ids place id found)) ∙ before
