-- Lemmas on the lines of bytes.
use Rattle.std.proofs.Common.{◌≡◌, ℕ, ◌<◌, ◌≤◌, ◌==◌, ◌&&◌, Bool, true, false, List, [], ◌∷◌, ◌++◌, Option, Some, None, length, refl, sym, ap, subst, ◌∙◌, inl, inr, arith}
use Rattle.std.proofs.lemmas.Bool.{cases_Bool}
use Rattle.std.proofs.lemmas.List.{length-append}
use Rattle.qq_ports.specs.declared.fault.TheConstants.{LINE_LIMIT}
use Rattle.qq_ports.specs.Lines.{without_return, onto_prefix, cut_at_feed, line_by_cut, first_line, begins_with_feed, onto_first, lines_of, HasNoFeed, IsLong, FirstLineLeads}

pub HasNoFeed-append : (xs ys : List ℕ) → HasNoFeed xs → HasNoFeed ys → HasNoFeed (xs ++ ys)
HasNoFeed-append [] ys p q = q
HasNoFeed-append (x ∷ xs) ys p q = (p.0, HasNoFeed-append xs ys p.1 q)

-- the line feed behind clean bytes is the first
pub cut-feed : (xs rest : List ℕ) → HasNoFeed xs → cut_at_feed (xs ++ 10 ∷ rest) ≡ Some (xs, rest)
cut-feed [] rest p = refl
cut-feed (x ∷ xs) rest p = rw p.0 (ap (onto_prefix x) (cut-feed xs rest p.1))

pub cut-clean : (xs : List ℕ) → HasNoFeed xs → cut_at_feed xs ≡ None
cut-clean [] p = refl
cut-clean (x ∷ xs) p = rw p.0 (ap (onto_prefix x) (cut-clean xs p.1))

-- a line that ends at a line feed
pub first_line-feed : (xs rest : List ℕ) → HasNoFeed xs
    → first_line (xs ++ 10 ∷ rest) ≡ Some (record { raw = xs; line = without_return xs; rest = rest })
first_line-feed [] rest p = refl
first_line-feed (x ∷ xs) rest p = ap (λ o. Some (line_by_cut (x ∷ xs ++ 10 ∷ rest) o)) (cut-feed (x ∷ xs) rest p)

-- a last line
pub first_line-last : (xs : List ℕ) → HasNoFeed xs → 0 < length xs
    → first_line xs ≡ Some (record { raw = xs; line = xs; rest = [] })
first_line-last [] p lt = absurd (omega arith)
first_line-last (x ∷ xs) p lt = ap (λ o. Some (line_by_cut (x ∷ xs) o)) (cut-clean (x ∷ xs) p)

-- a line that begins with too many clean bytes
is_long_by_cut : (xs rest : List ℕ) → Option (List ℕ × List ℕ) → Type 0
is_long_by_cut xs rest None = Unit {0}
is_long_by_cut xs rest (Some parts) = length xs ≤ length parts.0

onto_long : (x : ℕ) (xs rest : List ℕ) (o : Option (List ℕ × List ℕ)) → is_long_by_cut xs rest o
    → is_long_by_cut (x ∷ xs) rest (onto_prefix x o)
unfolding is_long_by_cut
onto_long x xs rest None p = tt
onto_long x xs rest (Some parts) p = omega arith

long_cut : (xs rest : List ℕ) → HasNoFeed xs → is_long_by_cut xs rest (cut_at_feed (xs ++ rest))
unfolding is_long_by_cut
long_cut [] rest p =
    elim (cut_at_feed rest) as (λ o. is_long_by_cut [] rest o) [ None ↦ tt | Some parts ↦ omega arith ]
long_cut (x ∷ xs) rest p = rw p.0 (onto_long x xs rest (cut_at_feed (xs ++ rest)) (long_cut xs rest p.1))

long_line : (xs rest : List ℕ) (o : Option (List ℕ × List ℕ)) → LINE_LIMIT < length xs → is_long_by_cut xs rest o
    → LINE_LIMIT < length (line_by_cut (xs ++ rest) o).raw
unfolding is_long_by_cut
long_line xs rest None lt p = omega (arith, length-append xs rest)
long_line xs rest (Some parts) lt p = omega arith

pub first_line-long : (xs rest : List ℕ) → HasNoFeed xs → LINE_LIMIT < length xs → IsLong (first_line (xs ++ rest))
first_line-long [] rest p lt = absurd (omega arith)
first_line-long (x ∷ xs) rest p lt =
    long_line (x ∷ xs) rest (cut_at_feed (x ∷ xs ++ rest)) lt (long_cut (x ∷ xs) rest p)

-- ---- the law of lines

-- the lines of bytes without a line feed
last_lines : List ℕ → List (List ℕ)
last_lines [] = []
last_lines (b ∷ bs) = (b ∷ bs) ∷ []

-- what the first cut says of the lines
Leads : List ℕ → Option (List ℕ × List ℕ) → Type 0
Leads bytes None = lines_of bytes ≡ last_lines bytes
Leads bytes (Some parts) = lines_of bytes ≡ without_return parts.0 ∷ lines_of parts.1

cut-at : (b : ℕ) (bs : List ℕ) → (b == 10) ≡ true → cut_at_feed (b ∷ bs) ≡ Some ([], bs)
cut-at b bs feed = rw feed refl

cut-past : (b : ℕ) (bs : List ℕ) → (b == 10) ≡ false → cut_at_feed (b ∷ bs) ≡ onto_prefix b (cut_at_feed bs)
cut-past b bs other = rw other refl

lines-at : (b : ℕ) (bs : List ℕ) → (b == 10) ≡ true → lines_of (b ∷ bs) ≡ [] ∷ lines_of bs
lines-at b bs feed = rw feed refl

lines-return : (b : ℕ) (bs : List ℕ) → (b == 10) ≡ false → ((b == 13) && begins_with_feed bs) ≡ true
    → lines_of (b ∷ bs) ≡ lines_of bs
lines-return b bs other return = rw (other, return) refl

lines-past : (b : ℕ) (bs : List ℕ) → (b == 10) ≡ false → ((b == 13) && begins_with_feed bs) ≡ false
    → lines_of (b ∷ bs) ≡ onto_first b (lines_of bs)
lines-past b bs other past = rw (other, past) refl

and-left : (s t : Bool) → (s && t) ≡ true → s ≡ true
and-left true t e = refl
and-left false t e = absurd cc

and-right : (s t : Bool) → (s && t) ≡ true → t ≡ true
and-right true t e = e
and-right false t e = absurd cc

not-left : (s t : Bool) → (s && t) ≡ false → t ≡ true → s ≡ false
not-left true t e u = absurd cc
not-left false t e u = refl

abbrev prefix_of : Option (List ℕ × List ℕ) → List ℕ
prefix_of None = []
prefix_of (Some parts) = parts.0

onto_prefix-cons : (b : ℕ) (o : Option (List ℕ × List ℕ)) (rest : List ℕ) → onto_prefix b o ≡ Some ([], rest) → ⊥
onto_prefix-cons b None rest e = cc
onto_prefix-cons b (Some parts) rest e = let h : b ∷ parts.0 ≡ [] = ap prefix_of e in cc

-- a cut that leaves nothing in front stands at a line feed
cut_begins : (bs rest : List ℕ) → cut_at_feed bs ≡ Some ([], rest) → begins_with_feed bs ≡ true
cut_begins [] rest e = absurd cc
cut_begins (b ∷ bs) rest e =
    elim (cases_Bool (b == 10)) [
      | inl feed ↦ feed
      | inr other ↦ absurd
          (onto_prefix-cons b (cut_at_feed bs) rest (sym (cut-past b bs other) ∙ e))
    ]

without-cons : (b : ℕ) (raw : List ℕ) → (raw ≡ [] → (b == 13) ≡ false)
    → without_return (b ∷ raw) ≡ b ∷ without_return raw
without-cons b [] h = rw (h refl) refl
without-cons b (r ∷ rs) h = refl

other_leads : (b : ℕ) (bs : List ℕ) (o : Option (List ℕ × List ℕ)) → (b == 10) ≡ false
    → ((b == 13) && begins_with_feed bs) ≡ false → cut_at_feed bs ≡ o → Leads bs o → Leads (b ∷ bs) (onto_prefix b o)
unfolding Leads last_lines
other_leads b [] None other past e leads = lines-past b [] other past
other_leads b (c ∷ cs) None other past e leads = lines-past b (c ∷ cs) other past ∙ ap (onto_first b) leads
other_leads b bs (Some parts) other past e leads =
    let alone = λ (none : parts.0 ≡ []). not-left (b == 13) (begins_with_feed bs) past
    (cut_begins bs parts.1 (e ∙ ap (λ (p : List ℕ). Some (p, parts.1)) none)) in
    lines-past b bs other past ∙ ap (onto_first b) leads
    ∙ ap (λ l. l ∷ lines_of parts.1) (sym (without-cons b parts.0 alone))

return_leads : (b : ℕ) (bs : List ℕ) → (b == 10) ≡ false → ((b == 13) && begins_with_feed bs) ≡ true
    → Leads (b ∷ bs) (onto_prefix b (cut_at_feed bs))
unfolding Leads
return_leads b [] other return = absurd (let h = and-right (b == 13) false return in cc)
return_leads b (c ∷ cs) other return =
    let feed : (c == 10) ≡ true = and-right (b == 13) (c == 10) return in
    let ends : without_return (b ∷ []) ≡ [] = rw (and-left (b == 13) (c == 10) return) refl in
    subst (λ o. Leads (b ∷ c ∷ cs) (onto_prefix b o)) (sym (cut-at c cs feed))
    (lines-return b (c ∷ cs) other return ∙ lines-at c cs feed ∙ ap (λ l. l ∷ lines_of cs) (sym ends))

lines_lead : (bytes : List ℕ) → Leads bytes (cut_at_feed bytes)
unfolding Leads last_lines
lines_lead [] = refl
lines_lead (b ∷ bs) =
    elim (cases_Bool (b == 10)) [
      | inl feed ↦ subst (Leads (b ∷ bs)) (sym (cut-at b bs feed)) (lines-at b bs feed)
      | inr other ↦ subst (Leads (b ∷ bs)) (sym (cut-past b bs other))
          (elim (cases_Bool ((b == 13) && begins_with_feed bs)) [
            | inl return ↦ return_leads b bs other return
            | inr past ↦ other_leads b bs (cut_at_feed bs) other past refl (lines_lead bs)
          ])
    ]

by_cut_leads : (b : ℕ) (bs : List ℕ) (o : Option (List ℕ × List ℕ)) → Leads (b ∷ bs) o
    → FirstLineLeads (b ∷ bs) (Some (line_by_cut (b ∷ bs) o))
unfolding Leads last_lines
by_cut_leads b bs None leads = leads
by_cut_leads b bs (Some parts) leads = leads

pub first_line_leads : (bytes : List ℕ) → FirstLineLeads bytes (first_line bytes)
first_line_leads [] = refl
first_line_leads (b ∷ bs) = by_cut_leads b bs (cut_at_feed (b ∷ bs)) (lines_lead (b ∷ bs))
