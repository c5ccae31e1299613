-- What leads back from changes, one change more or fewer.
use Rattle.std.proofs.Common.{◌≡◌, inl, inr, ℕ, zero, suc, ◌+◌, ◌-◌, ◌<◌, ◌≤◌, ◌&&◌, Bool, true, false, List, [], ◌∷◌, ◌++◌, get_or, length, take, drop, refl, sym, ap, subst, ◌∙◌, arith}
use Rattle.std.specs.Prelude.{Option, Some, None, nat_le, option_map, slice_get}
use Rattle.std.specs.Bool.{Decides}
use Rattle.std.specs.Global.{Vec}
use Rattle.std.proofs.lemmas.Bool.{cases_lt, false≢true, le-leb, leb-true, lt-leb}
use Rattle.std.proofs.lemmas.Option.{get_or_from_slice_get, none-some, slice_get_within}
use Rattle.std.proofs.lemmas.List.{append-nil, drop-append-le, drop_all, length-append, length-drop, length-take, length-take-le, take-append-drop, take-append-le, take_all, take_more}
use Rattle.qq_base.specs.declared.ids.Index.{Index}
use Rattle.qq_base.specs.declared.ids.NodeId.{NodeId}
use Rattle.qq_base.specs.declared.ids.QueueId.{QueueId}
use Rattle.qq_base.specs.declared.ids.Term.{Term}
use Rattle.qq_entry.specs.declared.command.Entry.{Entry}
use Rattle.qq_log.specs.Above.{last_above}
use Rattle.qq_log.specs.Log.{LogState, last_of}
use Rattle.qq_log.specs.Stable.{no_snapshot}
use Rattle.qq_log.specs.declared.op.Op.{Op}
use Rattle.qq_log.specs.declared.op.Op.TheVariants.{Change}
use Rattle.qq_raft_core.specs.Undone.{Before, Held, LeadsBack, before, begun, change_at, change_before, held_by, keeps_within, leads_back, log_before, term_before, undo_of, undone, vote_before}
use Rattle.qq_raft_core.specs.declared.raft.Raft.{Raft}
use Rattle.qq_raft_core.specs.declared.undo.Undo.{Undo}

pub and-left : (a b : Bool) → (a && b) ≡ true → a ≡ true
and-left true b is = refl
and-left false b is = absurd (false≢true is)

pub and-right : (a b : Bool) → (a && b) ≡ true → b ≡ true
and-right true b is = is
and-right false b is = absurd (false≢true is)

-- ---- the last ones first, and then those before

pub log-apart : (us vs : List Undo) (log : List Entry) → log_before (us ++ vs) log ≡ log_before us (log_before vs log)
log-apart [] vs log = refl
log-apart (u ∷ us) vs log = ap (λ (l : List Entry). take u.keep l ++ u.cut) (log-apart us vs log)

pub term-apart : (us vs : List Undo) (term : Term) → term_before (us ++ vs) term ≡ term_before us (term_before vs term)
term-apart [] vs term = refl
term-apart (u ∷ us) vs term = refl

pub vote-apart : (us vs : List Undo) (vote : Option NodeId)
    → vote_before (us ++ vs) vote ≡ vote_before us (vote_before vs vote)
vote-apart [] vs vote = refl
vote-apart (u ∷ us) vs vote = refl

pub undone-apart : (us vs : List Undo) (h : Held) → undone (us ++ vs) h ≡ undone us (undone vs h)
undone-apart us vs h =
    let n = length-append us vs in
    let op : h.op - length (us ++ vs) ≡ h.op - length vs - length us = omega (arith, n) in
    let term = term-apart us vs h.term in
    let vote = vote-apart us vs h.vote in
    let log = log-apart us vs h.log in
    λ i. record { op = op i; term = term i; vote = vote i; log = log i }

pub none-undone : (h : Held) → undone [] h ≡ h
none-undone h =
    let op : h.op - 0 ≡ h.op = omega arith in
    λ i. record { op = op i; term = h.term; vote = h.vote; log = h.log }

-- ---- one change more

-- what leads back from it
keeps-more : (us : List Undo) (u : Undo) (log : List Entry) → u.keep ≤ length log
    → keeps_within (us ++ u ∷ []) log ≡ keeps_within us (log_before (u ∷ []) log)
keeps-more [] u log le = ap (λ b. b && true) (le-leb u.keep (length log) le)
keeps-more (v ∷ us) u log le =
    ap (λ (l : List Entry). nat_le v.keep (length l) && keeps_within (us ++ u ∷ []) log) (log-apart us (u ∷ []) log)
    ∙ ap (λ b. nat_le v.keep (length (log_before us (log_before (u ∷ []) log))) && b) (keeps-more us u log le)

le-more : (n m : ℕ) → nat_le (n + 1) (m + 1) ≡ nat_le n m
le-more n m =
    elim (cases_lt m n) [
      | inl lt ↦ lt-leb (n + 1) (m + 1) (omega (arith, lt)) ∙ sym (lt-leb n m lt)
      | inr le ↦ le-leb (n + 1) (m + 1) (omega (arith, le)) ∙ sym (le-leb n m le)
    ]

-- the log before it
restored : (keep : ℕ) (old new : List Entry) → take keep new ≡ take keep old → take keep new ++ drop keep old ≡ old
restored keep old new kept = ap (λ (l : List Entry). l ++ drop keep old) kept ∙ take-append-drop keep old

still-there : (keep : ℕ) (old new : List Entry) → keep ≤ length old → take keep new ≡ take keep old → keep ≤ length new
still-there keep old new le kept =
    let n = length-take keep new in
    let m = length-take-le keep old le in
    let same = ap (λ (l : List Entry). length l) kept in
    omega (arith, n, m, same)

-- while the log is changed behind what is kept, all leads back to the same
pub noted_before : {L : Type 0} (log : L → LogState) (keep : ℕ) (old new : Raft L)
    → old.mark ≤ length old.undos.items → keep ≤ length (log old.log).entries
    → new.undos.items ≡ old.undos.items ++ undo_of log keep old ∷ [] → new.op ≡ old.op + 1 → new.mark ≡ old.mark
    → (log new.log).base ≡ (log old.log).base → take keep (log new.log).entries ≡ take keep (log old.log).entries
    → before log new ≡ before log old
noted_before log keep old new marked le noted op mark base kept =
    let u : Undo = undo_of log keep old in
    let us = old.undos.items in
    let es = (log new.log).entries in
    let was = (log old.log).entries in
    let there = still-there keep was es le kept in
    let back : undone (u ∷ []) (held_by log new) ≡ held_by log old =
    (let n : new.op - 1 ≡ old.op = omega (arith, op) in
    let l = restored keep was es kept in
    λ i. record { op = n i; term = old.term; vote = old.vote; log = l i }) in
    let held : undone (drop new.mark new.undos.items) (held_by log new) ≡ undone (drop old.mark us) (held_by log old) =
    ap (λ (n : ℕ). undone (drop n new.undos.items) (held_by log new)) mark
    ∙ ap (λ (l : List Undo). undone (drop old.mark l) (held_by log new)) noted
    ∙ ap (λ (l : List Undo). undone l (held_by log new)) (drop-append-le old.mark us (u ∷ []) marked)
    ∙ undone-apart (drop old.mark us) (u ∷ []) (held_by log new)
    ∙ ap (undone (drop old.mark us)) back in
    let undos : take new.mark new.undos.items ≡ take old.mark us =
    ap (λ (n : ℕ). take n new.undos.items) mark
    ∙ ap (λ (l : List Undo). take old.mark l) noted
    ∙ take-append-le old.mark us (u ∷ []) marked in
    let count = length-append us (u ∷ []) in
    let leads : leads_back new.op new.undos.items es ≡ leads_back old.op us was =
    ap (λ (l : List Undo). leads_back new.op l es) noted
    ∙ ap (λ (n : ℕ). nat_le n new.op && keeps_within (us ++ u ∷ []) es) count
    ∙ ap (λ (n : ℕ). nat_le (length us + 1) n && keeps_within (us ++ u ∷ []) es) op
    ∙ ap (λ b. nat_le (length us + 1) (old.op + 1) && b)
    (keeps-more us u es there ∙ ap (λ (l : List Entry). keeps_within us l) (restored keep was es kept))
    ∙ ap (λ b. b && keeps_within us was) (le-more (length us) old.op) in
    λ i. record { held = held i; base = base i; undos = undos i; count = mark i; leads = leads i }

-- nothing is noted
pub same-undos : {L : Type 0} (log : L → LogState) (old : Raft L) (undos : Vec Undo)
    → undos.items ≡ old.undos.items → before log (record old { undos = undos }) ≡ before log old
same-undos log old undos is =
    ap (λ (us : List Undo). record {
      held = undone (drop old.mark us) (held_by log old);
      base = (log old.log).base;
      undos = take old.mark us;
      count = old.mark;
      leads = leads_back old.op us (log old.log).entries;
    }) is

-- ---- the first of some undos

pub no-first : {A : Type 0} (xs : List A) → None ≡ slice_get xs 0 → xs ≡ []
no-first [] none = refl
no-first (x ∷ xs) none = absurd (none-some x none)

pub has-first : {A : Type 0} (xs : List A) (x : A) → Some x ≡ slice_get xs 0 → xs ≡ x ∷ drop 1 xs
has-first [] x is = absurd (none-some x (sym is))
has-first (y ∷ xs) x is = ap (λ z. z ∷ xs) (grind (arith, is))

-- ---- an entry before some changes

-- so many entries were kept, and others came after these
get-kept : {A : Type 0} (keep at : ℕ) (xs ys : List A) → at < keep → keep ≤ length xs
    → slice_get (take keep xs ++ ys) at ≡ slice_get xs at
get-kept zero at xs ys lt le = absurd (omega (arith, lt))
get-kept (suc keep) at [] ys lt le = absurd (omega (arith, le))
get-kept (suc keep) zero (x ∷ xs) ys lt le = refl
get-kept (suc keep) (suc at) (x ∷ xs) ys lt le = get-kept keep at xs ys (omega (arith, lt)) (omega (arith, le))

get-cut : {A : Type 0} (keep at : ℕ) (xs ys : List A) → keep ≤ at → keep ≤ length xs
    → slice_get (take keep xs ++ ys) at ≡ slice_get ys (at - keep)
get-cut zero at xs ys ge le = ap (λ (n : ℕ). slice_get ys n) (omega arith)
get-cut (suc keep) at [] ys ge le = absurd (omega (arith, le))
get-cut (suc keep) zero (x ∷ xs) ys ge le = absurd (omega (arith, ge))
get-cut (suc keep) (suc at) (x ∷ xs) ys ge le =
    let same : suc at - suc keep ≡ at - keep = omega arith in
    get-cut keep at xs ys (omega (arith, ge)) (omega (arith, le)) ∙ ap (λ (n : ℕ). slice_get ys n) (sym same)

first-within : (u : Undo) (us : List Undo) (log : List Entry) → keeps_within (u ∷ us) log ≡ true
    → u.keep ≤ length (log_before us log)
first-within u us log is = leb-true u.keep (length (log_before us log)) (and-left _ _ is)

pub rest-within : (u : Undo) (us : List Undo) (log : List Entry) → keeps_within (u ∷ us) log ≡ true
    → keeps_within us log ≡ true
rest-within u us log is = and-right _ _ is

pub before-kept : (u : Undo) (us : List Undo) (log : List Entry) (at : ℕ) → keeps_within (u ∷ us) log ≡ true → at < u.keep
    → slice_get (log_before (u ∷ us) log) at ≡ slice_get (log_before us log) at
before-kept u us log at is lt = get-kept u.keep at (log_before us log) u.cut lt (first-within u us log is)

pub before-cut : (u : Undo) (us : List Undo) (log : List Entry) (at : ℕ) → keeps_within (u ∷ us) log ≡ true → u.keep ≤ at
    → slice_get (log_before (u ∷ us) log) at ≡ slice_get u.cut (at - u.keep)
before-cut u us log at is ge = get-cut u.keep at (log_before us log) u.cut ge (first-within u us log is)

pub before-count : (u : Undo) (us : List Undo) (log : List Entry) → keeps_within (u ∷ us) log ≡ true
    → length (log_before (u ∷ us) log) ≡ u.keep + length u.cut
before-count u us log is =
    let n = length-append (take u.keep (log_before us log)) u.cut in
    let m = length-take-le u.keep (log_before us log) (first-within u us log is) in
    omega (arith, n, m)

pub none-count : (us : List Undo) (l : LogState) (count : ℕ) (r : Bool) → None ≡ slice_get us 0 → l.base ≡ no_snapshot
    → Decides r (last_of l ≡ count) → Decides r (length (log_before us l.entries) ≡ count)
none-count us l count r none whole dec =
    let last : last_of l ≡ length l.entries = known-last l whole in
    let same : length (log_before us l.entries) ≡ length l.entries =
    ap (λ (vs : List Undo). length (log_before vs l.entries)) (no-first us none) in
    (λ t. same ∙ sym last ∙ dec.0 t, λ e. dec.1 (last ∙ sym same ∙ e))
  where
    known-last : (m : LogState) → m.base ≡ no_snapshot → last_of m ≡ length m.entries
    known-last m is = let n : 0 + length m.entries ≡ length m.entries = omega arith in
        ap (λ b. last_above b.index.0 m.entries) is ∙ n

pub some-count : (us : List Undo) (u : Undo) (log : List Entry) → Some u ≡ slice_get us 0 → keeps_within us log ≡ true
    → length (log_before us log) ≡ u.keep + length u.cut
some-count us u log some within =
    let is = has-first us u some in
    ap (λ (vs : List Undo). length (log_before vs log)) is
    ∙ before-count u (drop 1 us) log (subst (λ (vs : List Undo). keeps_within vs log ≡ true) is within)

-- ---- lists that are compared item by item

pub same-more : {A : Type 0} (xs ys : List A) (n : ℕ) (x y : A) → slice_get xs n ≡ Some x → slice_get ys n ≡ Some y → x ≡ y
    → take n xs ≡ take n ys → take (n + 1) xs ≡ take (n + 1) ys
same-more xs ys n x y here there same so_far =
    take_more xs n x (slice_get_within xs n x here)
    ∙ ap (λ z. take n xs ++ z ∷ []) (get_or_from_slice_get xs n x x here ∙ same ∙ sym (get_or_from_slice_get ys n y y there))
    ∙ ap (λ l. l ++ get_or ys n y ∷ []) so_far
    ∙ sym (take_more ys n y (slice_get_within ys n y there))

pub same-all : {A : Type 0} (xs ys : List A) (n : ℕ) → length xs ≡ length ys → length ys ≤ n → take n xs ≡ take n ys → xs ≡ ys
same-all xs ys n count le same =
    sym (take_all n xs (omega (arith, count, le))) ∙ same ∙ take_all n ys le

pub differ-at : {A : Type 0} (xs ys : List A) (n : ℕ) (x y : A) → slice_get xs n ≡ Some x → slice_get ys n ≡ Some y
    → (x ≡ y → ⊥) → xs ≡ ys → ⊥
differ-at xs ys n x y here there other same =
    other (grind (arith, sym here ∙ ap (λ l. slice_get l n) same ∙ there))

-- ---- a call begins

pub begins : {L : Type 0} (log : L → LogState) (old new : Raft L) → new ≡ record old { mark = length old.undos.items }
    → before log new ≡ begun log old
begins log old new is =
    ap (before log) is
    ∙ ap (λ (us : List Undo). record (begun log old) { held = undone us (held_by log old); undos = take (length old.undos.items) old.undos.items })
    (drop_all (length old.undos.items) old.undos.items (omega arith))
    ∙ ap (λ (h : Held). record (begun log old) { held = h; undos = take (length old.undos.items) old.undos.items })
    (none-undone (held_by log old))
    ∙ ap (λ (us : List Undo). record (begun log old) { undos = us }) (take_all (length old.undos.items) old.undos.items (omega arith))

-- ---- fewer

pub keeps-later : (n : ℕ) (us : List Undo) (log : List Entry) → keeps_within us log ≡ true
    → keeps_within (drop n us) log ≡ true
keeps-later zero us log is = is
keeps-later (suc n) [] log is = is
keeps-later (suc n) (u ∷ us) log is = keeps-later n us log (rest-within u us log is)

pub leads-later : (n op : ℕ) (us : List Undo) (log : List Entry) → leads_back op us log ≡ true
    → leads_back op (drop n us) log ≡ true
leads-later n op us log is =
    let within = leb-true (length us) op (and-left (nat_le (length us) op) _ is) in
    let left = length-drop n us in
    ap (λ b. b && keeps_within (drop n us) log) (le-leb (length (drop n us)) op (omega (arith, within, left)))
    ∙ keeps-later n us log (and-right (nat_le (length us) op) _ is)

pub leads-within : (n op : ℕ) (us : List Undo) (log : List Entry) → leads_back op us log ≡ true
    → keeps_within (drop n us) log ≡ true
leads-within n op us log is = keeps-later n us log (and-right (nat_le (length us) op) _ is)

pub within-from : (n op : ℕ) (us vs ws : List Undo) (log : List Entry) → ws ≡ drop n vs → vs ≡ us
    → leads_back op us log ≡ true → keeps_within ws log ≡ true
within-from n op us vs ws log later same is =
    subst (λ (xs : List Undo). keeps_within xs log ≡ true) (sym (later ∙ ap (drop n) same)) (leads-within n op us log is)

pub get-later : {A : Type 0} (n at : ℕ) (xs : List A) → slice_get (drop n xs) at ≡ slice_get xs (n + at)
get-later zero at xs = ap (λ (m : ℕ). slice_get xs m) (omega arith)
get-later (suc n) at [] = refl
get-later (suc n) at (x ∷ xs) =
    let m : suc n + at ≡ suc (n + at) = omega arith in
    get-later n at xs ∙ sym (ap (λ (k : ℕ). slice_get (x ∷ xs) k) m)

-- ---- one change and those after it

drop-at : {A : Type 0} (n : ℕ) (xs : List A) (x : A) → Some x ≡ slice_get xs n → drop n xs ≡ x ∷ drop (suc n) xs
drop-at n [] x is = absurd (none-some x (sym is))
drop-at zero (y ∷ xs) x is = has-first (y ∷ xs) x is
drop-at (suc n) (y ∷ xs) x is = drop-at n xs x is

pub keep-within : (place op : ℕ) (us vs ws : List Undo) (u : Undo) (log : List Entry) → 0 < place → ws ≡ drop place vs
    → vs ≡ us → Some u ≡ slice_get us (place - 1) → leads_back op us log ≡ true → u.keep ≤ length (log_before ws log)
keep-within zero op us vs ws u log some later same is leads = absurd (omega (arith, some))
keep-within (suc p) op us vs ws u log some later same is leads =
    let at : suc p - 1 ≡ p = omega arith in
    let first = drop-at p us u (is ∙ ap (λ (n : ℕ). slice_get us n) at) in
    subst (λ (xs : List Undo). u.keep ≤ length (log_before xs log)) (sym (later ∙ ap (drop (suc p)) same))
    (first-within u (drop (suc p) us) log
    (subst (λ (xs : List Undo). keeps_within xs log ≡ true) first (leads-within p op us log leads)))

-- the change before those from a place on
pub change-known : {L : Type 0} (log : L → LogState) (r : Raft L) (place : ℕ) (vs ws : List Undo) (u : Undo)
    → 0 < place → ws ≡ drop place vs → vs ≡ r.undos.items → Some u ≡ slice_get r.undos.items (place - 1)
    → change_before log r place ≡ Some (change_at r.queue u (undone ws (held_by log r)))
change-known log r zero vs ws u some later same is = absurd (omega (arith, some))
change-known log r (suc p) vs ws u some later same is =
    let at : suc p - 1 ≡ p = omega arith in
    let us = r.undos.items in
    ap (option_map (λ (x : Undo). change_at r.queue x (undone (drop (suc p) us) (held_by log r))))
    (ap (λ (n : ℕ). slice_get us n) (sym at) ∙ sym is)
    ∙ ap (λ (xs : List Undo). Some (change_at r.queue u (undone xs (held_by log r)))) (sym (later ∙ ap (drop (suc p)) same))

-- an op with other words is another change
pub other-change : {L : Type 0} (log : L → LogState) (r : Raft L) (place : ℕ) (ws : List Undo) (u : Undo) (o : Op)
    (term : Term) (vote : Option NodeId) → term ≡ term_before ws r.term → vote ≡ vote_before ws r.vote
    → change_before log r place ≡ Some (change_at r.queue u (undone ws (held_by log r)))
    → ((es : List Entry) → o ≡ Change r.queue (r.op - length ws) term vote (record { 0 = u.keep }) es → ⊥)
    → change_before log r place ≡ Some o → ⊥
other-change log r place ws u o term vote term_is vote_is known other is =
    let h = undone ws (held_by log r) in
    let same : o ≡ change_at r.queue u h = grind (arith, sym is ∙ known) in
    let es = drop u.keep h.log in
    other es (same
    ∙ ap (λ (t : Term). Change r.queue (r.op - length ws) t h.vote (record { 0 = u.keep }) es) (sym term_is)
    ∙ ap (λ (v : Option NodeId). Change r.queue (r.op - length ws) term v (record { 0 = u.keep }) es) (sym vote_is))

-- and one with these words is that change where it has its entries
pub same-change : {L : Type 0} (log : L → LogState) (r : Raft L) (place : ℕ) (ws : List Undo) (u : Undo) (o : Op)
    (term : Term) (vote : Option NodeId) (es fs : List Entry) (b : Bool) → term ≡ term_before ws r.term → vote ≡ vote_before ws r.vote
    → change_before log r place ≡ Some (change_at r.queue u (undone ws (held_by log r)))
    → o ≡ Change r.queue (r.op - length ws) term vote (record { 0 = u.keep }) es → fs ≡ es
    → Decides b (drop u.keep (log_before ws (log r.log).entries) ≡ fs)
    → Decides b (change_before log r place ≡ Some o)
same-change log r place ws u o term vote es fs b term_is vote_is known is entries decides =
    let h = undone ws (held_by log r) in
    let same : o ≡ Change r.queue h.op h.term h.vote (record { 0 = u.keep }) es =
    is
    ∙ ap (λ (t : Term). Change r.queue (r.op - length ws) t vote (record { 0 = u.keep }) es) term_is
    ∙ ap (λ (v : Option NodeId). Change r.queue (r.op - length ws) h.term v (record { 0 = u.keep }) es) vote_is in (
      λ t. known ∙ ap (λ (xs : List Entry). Some (Change r.queue h.op h.term h.vote (record { 0 = u.keep }) xs))
          (decides.0 t ∙ entries) ∙ ap (λ (x : Op). Some x) (sym same),
      λ e. (let own : change_at r.queue u h ≡ Change r.queue h.op h.term h.vote (record { 0 = u.keep }) es =
          grind (arith, sym known ∙ e ∙ ap (λ (x : Op). Some x) same) in
          decides.1 (changed-entries r.queue h.op h.term h.vote (record { 0 = u.keep }) (drop u.keep h.log) es own
          ∙ sym entries)),
    )
  where
    changed-entries : (q : QueueId) (n : ℕ) (t : Term) (v : Option NodeId) (k : Index) (xs ys : List Entry)
        → Change q n t v k xs ≡ Change q n t v k ys → xs ≡ ys
    changed-entries q n t v k xs ys e = grind (arith, e)

-- ---- after a call

-- further undos lead back to what was held
pub record Led (us vs : List Undo) (h k : Held) : Type 0 where
  pub more : List Undo
  pub undos : vs ≡ us ++ more
  pub held : undone more k ≡ h
  pub op : k.op ≡ h.op + length more

pub led : {L : Type 0} (log : L → LogState) (old new : Raft L) → LeadsBack log old new
    → leads_back old.op old.undos.items (log old.log).entries ≡ true
    → Led old.undos.items new.undos.items (held_by log old) (held_by log new)
led log old new (inl same) leads =
    let held : held_by log new ≡ held_by log old = ap (λ (b : Before). b.held) same in
    let op = ap (λ (h : Held). h.op) held in
    record {
      more = [];
      undos = ap (λ (b : Before). b.undos) same ∙ sym (append-nil old.undos.items);
      held = none-undone (held_by log new) ∙ held;
      op = omega (arith, op);
    }
led log old new (inr back) leads =
    let us = old.undos.items in
    let vs = new.undos.items in
    let held = ap (λ (b : Before). b.held) back in
    let undos = ap (λ (b : Before). b.undos) back in
    let here : leads_back new.op vs (log new.log).entries ≡ true = ap (λ (b : Before). b.leads) back ∙ leads in
    let within = leb-true (length vs) new.op (and-left (nat_le (length vs) new.op) _ here) in
    let n = length-drop new.mark vs in
    let op = ap (λ (h : Held). h.op) held in
    record {
      more = drop new.mark vs;
      undos = sym (take-append-drop new.mark vs) ∙ ap (λ (l : List Undo). l ++ drop new.mark vs) undos;
      held = held;
      op = omega (arith, n, within, op);
    }

-- what is left of a server leads back too
pub still-leads : {L : Type 0} (log : L → LogState) (old new : Raft L) → LeadsBack log old new
    → leads_back new.op new.undos.items (log new.log).entries ≡ leads_back old.op old.undos.items (log old.log).entries
still-leads log old new (inl same) = ap (λ (b : Before). b.leads) same
still-leads log old new (inr back) = ap (λ (b : Before). b.leads) back

pub same-base : {L : Type 0} (log : L → LogState) (old new : Raft L) → LeadsBack log old new
    → (log new.log).base ≡ (log old.log).base
same-base log old new (inl same) = ap (λ (b : Before). b.base) same
same-base log old new (inr back) = ap (λ (b : Before). b.base) back
