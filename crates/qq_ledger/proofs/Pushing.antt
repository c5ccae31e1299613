-- The indices of the first of a list, and of one more.
use Rattle.std.proofs.Common.{◌≡◌, ℕ, zero, suc, ◌+◌, ◌≤◌, List, [], ◌∷◌, ◌++◌, Some, map, take, length, refl, sym, ap, ◌∙◌, arith}
use Rattle.std.specs.Prelude.{slice_get}
use Rattle.std.specs.Option.{option_map_or}
use Rattle.std.proofs.lemmas.List.{map-append, append_assoc, append-nil}
use Rattle.qq_base.specs.declared.ids.Index.{Index}
use Rattle.qq_entry.specs.declared.message.ReadyRow.{ReadyRow}
use Rattle.qq_base.specs.declared.ids.ConsumerId.{ConsumerId}
use Rattle.qq_parts.specs.Parts.{Served, outs}
use Rattle.qq_consumer.specs.declared.rising.Numbered.{Numbered}
use Rattle.qq_consumer.specs.Roster.{out_item}
use Rattle.qq_ledger.specs.Low.{item_index}
use Rattle.qq_ledger.specs.Ledger.{numbered_index, out_indices}

map-take : {A : Type 0} (f : A → Index) (xs : List A) (k : ℕ) (x : A) → slice_get xs k ≡ Some x
    → map f (take (suc k) xs) ≡ map f (take k xs) ++ f x ∷ []
map-take f [] k x at = absurd cc
map-take f (y ∷ xs) zero x at = let same : y ≡ x = cc in ap (λ z. f z ∷ []) same
map-take f (y ∷ xs) (suc k) x at = ap (λ (zs : List Index). f y ∷ zs) (map-take f xs k x at)

next : (k : ℕ) → suc k ≡ k + 1
next k = omega arith

-- one more is behind those so far
pub pushed : {A : Type 0} (f : A → Index) (xs : List A) (k : ℕ) (x : A) (first now after : List Index)
    → Some x ≡ slice_get xs k → now ≡ first ++ map f (take k xs) → after ≡ now ++ f x ∷ []
    → after ≡ first ++ map f (take (k + 1) xs)
pushed f xs k x first now after at so_far made =
    made ∙ ap (λ (zs : List Index). zs ++ f x ∷ []) so_far
    ∙ append_assoc first (map f (take k xs)) (f x ∷ [])
    ∙ ap (λ (zs : List Index). first ++ zs) (sym (map-take f xs k x (sym at)))
    ∙ ap (λ (n : ℕ). first ++ map f (take n xs)) (next k)

take-end : {A : Type 0} (xs : List A) (n : ℕ) → length xs ≤ n → take n xs ≡ xs
take-end [] zero le = refl
take-end [] (suc n) le = refl
take-end (x ∷ xs) zero le = absurd (omega (arith, le))
take-end {A = A} (x ∷ xs) (suc n) le = ap (λ (zs : List A). x ∷ zs) (take-end xs n (omega (arith, le)))

pub all-pushed : {A : Type 0} (f : A → Index) (xs : List A) (k : ℕ) (first now : List Index) → length xs ≤ k
    → now ≡ first ++ map f (take k xs) → now ≡ first ++ map f xs
all-pushed {A = A} f xs k first now le so_far =
    so_far ∙ ap (λ (zs : List A). first ++ map f zs) (take-end xs k le)

-- what is out with one consumer more
outs-take : (ones : List Served) (k : ℕ)
    → out_indices (take (suc k) ones)
    ≡ out_indices (take k ones) ++ option_map_or (λ (one : Served). map item_index one.out) (slice_get ones k) []
outs-take [] zero = refl
outs-take [] (suc k) = refl
outs-take (one ∷ ones) zero = ap (map item_index) (append-nil one.out)
outs-take (one ∷ ones) (suc k) =
    map-append item_index one.out (outs (take (suc k) ones))
    ∙ ap (λ (zs : List Index). map item_index one.out ++ zs) (outs-take ones k)
    ∙ sym (append_assoc (map item_index one.out) (out_indices (take k ones)) _)
    ∙ ap (λ (zs : List Index). zs ++ option_map_or (λ (o : Served). map item_index o.out) (slice_get ones k) [])
    (sym (map-append item_index one.out (outs (take k ones))))

pub outs-pushed : (ones : List Served) (k : ℕ) (first now after : List Index)
    → now ≡ first ++ out_indices (take k ones)
    → after ≡ now ++ option_map_or (λ (one : Served). map item_index one.out) (slice_get ones k) []
    → after ≡ first ++ out_indices (take (k + 1) ones)
outs-pushed ones k first now after so_far made =
    let more : List Index = option_map_or (λ (one : Served). map item_index one.out) (slice_get ones k) [] in
    made ∙ ap (λ (zs : List Index). zs ++ more) so_far ∙ append_assoc first (out_indices (take k ones)) more
    ∙ ap (λ (zs : List Index). first ++ zs) (sym (outs-take ones k))
    ∙ ap (λ (n : ℕ). first ++ out_indices (take n ones)) (next k)

pub all-outs : (ones : List Served) (k : ℕ) (first now : List Index) → length ones ≤ k
    → now ≡ first ++ out_indices (take k ones) → now ≡ first ++ out_indices ones
all-outs ones k first now le so_far =
    so_far ∙ ap (λ (os : List Served). first ++ out_indices os) (take-end ones k le)

-- the messages of a consumer in memory
pub out-rows : (id : ConsumerId) (rows : List (Numbered ReadyRow))
    → map item_index (map (out_item id) rows) ≡ map numbered_index rows
out-rows id [] = refl
out-rows id (row ∷ rows) = ap (λ (zs : List Index). row.item.index ∷ zs) (out-rows id rows)
