-- What each change of the ready and the dead messages makes of their indices.
use Rattle.std.proofs.Common.{◌≡◌, ℕ, ◌+◌, ◌<◌, ◌⊎◌, Bool, true, false, not, List, [], ◌∷◌, ◌++◌, Option, Some, None, map, drop, refl, sym, ap, ◌∙◌, subst, inl, inr, arith}
use Rattle.std.specs.Prelude.{nat_lt, filter, find}
use Rattle.std.specs.List.{AllByRecursion}
use Rattle.std.specs.Option.{option_map}
use Rattle.std.proofs.lemmas.Bool.{cases_Bool, cond-true, cond-false, cond_both, ne_eqb, eqb-true}
use Rattle.std.proofs.lemmas.List.{map-append}
use Rattle.qq_base.specs.declared.ids.Index.{Index}
use Rattle.qq_entry.specs.declared.message.ReadyRow.{ReadyRow}
use Rattle.qq_entry.specs.declared.message.Reason.{Reason}
use Rattle.qq_ready.specs.declared.row.KeyedRow.{KeyedRow}
use Rattle.qq_ready.specs.Queue.{Queue, in_order, head, without_next, emptied, push_back, push_returned}
use Rattle.qq_dead.specs.declared.row.DeadRow.{DeadRow}
use Rattle.qq_dead.specs.Letters.{Letters, add, attach, give, give_by, next_offer, settled, settle, may_settle, has_number, AreNumbered, Rises}
use Rattle.qq_model.specs.declared.place.Key.TheVariants.{Front, Back}
use Rattle.qq_live.specs.Indices.{occurrences}
use Rattle.qq_ledger.specs.Ledger.{keyed_index, dead_index, ready_indices, dead_indices}
use Rattle.qq_ledger.proofs.Balance.{occurrences-append}

-- ---- the ready messages

ready-sum : (i : ℕ) (q : Queue)
    → occurrences i (ready_indices q) ≡ occurrences i (map keyed_index q.fronts) + occurrences i (map keyed_index q.backs)
ready-sum i q =
    ap (occurrences i) (map-append keyed_index q.fronts q.backs)
    ∙ occurrences-append i (map keyed_index q.fronts) (map keyed_index q.backs)

map-push : (i : ℕ) (rows : List KeyedRow) (one : KeyedRow)
    → occurrences i (map keyed_index (rows ++ one ∷ []))
    ≡ occurrences i (map keyed_index rows) + occurrences i (one.row.index ∷ [])
map-push i rows one =
    ap (occurrences i) (map-append keyed_index rows (one ∷ []))
    ∙ occurrences-append i (map keyed_index rows) (one.row.index ∷ [])

pub back-more : (row : ReadyRow) (q : Queue) (i : ℕ)
    → occurrences i (ready_indices (push_back row q))
    ≡ occurrences i (ready_indices q) + occurrences i (row.index ∷ [])
back-more row q i =
    let a = ready-sum i q in
    let b = ready-sum i (push_back row q) in
    let e = map-push i q.backs (record { key = Back (q.orders + 1); row = row }) in omega (arith, a, b, e)

pub front-more : (row : ReadyRow) (q : Queue) (i : ℕ)
    → occurrences i (ready_indices (push_returned row q))
    ≡ occurrences i (ready_indices q) + occurrences i (row.index ∷ [])
front-more row q i =
    let a = ready-sum i q in
    let b = ready-sum i (push_returned row q) in
    let e = map-push i q.fronts (record { key = Front (q.returns + 1); row = row }) in omega (arith, a, b, e)

first-less : (i : ℕ) (index : Index) (rest : List Index)
    → occurrences i (index ∷ rest) ≡ occurrences i rest + occurrences i (index ∷ [])
first-less i index rest = let a = occurrences-append i (index ∷ []) rest in omega (arith, a)

pub next-less : (row : ReadyRow) (q : Queue) → Some row ≡ option_map (λ (one : KeyedRow). one.row) (head (in_order q))
    → (i : ℕ) → occurrences i (ready_indices q)
    ≡ occurrences i (ready_indices (without_next q)) + occurrences i (row.index ∷ [])
next-less row q is i = by q.fronts q.backs refl refl
  where
    by : (fronts backs : List KeyedRow) → q.fronts ≡ fronts → q.backs ≡ backs
        → occurrences i (ready_indices q)
        ≡ occurrences i (ready_indices (without_next q)) + occurrences i (row.index ∷ [])
    by [] [] f b =
        let none : Some row ≡ None =
        is ∙ ap (λ (xs : List KeyedRow). option_map (λ (one : KeyedRow). one.row) (head (xs ++ q.backs))) f
        ∙ ap (λ (xs : List KeyedRow). option_map (λ (one : KeyedRow). one.row) (head xs)) b in
        absurd cc
    by [] (one ∷ backs) f b =
        let same : Some row ≡ Some one.row =
        is ∙ ap (λ (xs : List KeyedRow). option_map (λ (o : KeyedRow). o.row) (head (xs ++ q.backs))) f
        ∙ ap (λ (xs : List KeyedRow). option_map (λ (o : KeyedRow). o.row) (head xs)) b in
        let own : row ≡ one.row = cc in
        let old : ready_indices q ≡ map keyed_index (one ∷ backs) =
        ap (λ (xs : List KeyedRow). map keyed_index (xs ++ q.backs)) f ∙ ap (map keyed_index) b in
        let new : ready_indices (without_next q) ≡ map keyed_index backs =
        ap (λ (xs : List KeyedRow). ready_indices (without_next (record q { fronts = xs }))) f
        ∙ ap (λ (xs : List KeyedRow). map keyed_index (drop 1 xs)) b in
        ap (occurrences i) old ∙ first-less i one.row.index (map keyed_index backs)
        ∙ ap (λ (xs : List Index). occurrences i xs + occurrences i (one.row.index ∷ [])) (sym new)
        ∙ ap (λ (r : ReadyRow). occurrences i (ready_indices (without_next q)) + occurrences i (r.index ∷ [])) (sym own)
    by (one ∷ fronts) backs f b =
        let same : Some row ≡ Some one.row =
        is ∙ ap (λ (xs : List KeyedRow). option_map (λ (o : KeyedRow). o.row) (head (xs ++ q.backs))) f in
        let own : row ≡ one.row = cc in
        let old : ready_indices q ≡ one.row.index ∷ map keyed_index (fronts ++ q.backs) =
        ap (λ (xs : List KeyedRow). map keyed_index (xs ++ q.backs)) f in
        let new : ready_indices (without_next q) ≡ map keyed_index (fronts ++ q.backs) =
        ap (λ (xs : List KeyedRow). ready_indices (without_next (record q { fronts = xs }))) f in
        ap (occurrences i) old ∙ first-less i one.row.index (map keyed_index (fronts ++ q.backs))
        ∙ ap (λ (xs : List Index). occurrences i xs + occurrences i (one.row.index ∷ [])) (sym new)
        ∙ ap (λ (r : ReadyRow). occurrences i (ready_indices (without_next q)) + occurrences i (r.index ∷ [])) (sym own)

pub next-none : (q : Queue) → None ≡ option_map (λ (one : KeyedRow). one.row) (head (in_order q))
    → (i : ℕ) → occurrences i (ready_indices (without_next q)) ≡ occurrences i (ready_indices q)
next-none q is i = by q.fronts q.backs refl refl
  where
    by : (fronts backs : List KeyedRow) → q.fronts ≡ fronts → q.backs ≡ backs
        → occurrences i (ready_indices (without_next q)) ≡ occurrences i (ready_indices q)
    by [] [] f b =
        let old : ready_indices q ≡ [] =
        ap (λ (xs : List KeyedRow). map keyed_index (xs ++ q.backs)) f ∙ ap (map keyed_index) b in
        let new : ready_indices (without_next q) ≡ [] =
        ap (λ (xs : List KeyedRow). ready_indices (without_next (record q { fronts = xs }))) f
        ∙ ap (λ (xs : List KeyedRow). map keyed_index (drop 1 xs)) b in
        ap (occurrences i) (new ∙ sym old)
    by [] (one ∷ backs) f b =
        let none : None ≡ Some one.row =
        is ∙ ap (λ (xs : List KeyedRow). option_map (λ (o : KeyedRow). o.row) (head (xs ++ q.backs))) f
        ∙ ap (λ (xs : List KeyedRow). option_map (λ (o : KeyedRow). o.row) (head xs)) b in
        absurd cc
    by (one ∷ fronts) backs f b =
        let none : None ≡ Some one.row =
        is ∙ ap (λ (xs : List KeyedRow). option_map (λ (o : KeyedRow). o.row) (head (xs ++ q.backs))) f in
        absurd cc

pub all-less : (q : Queue) (i : ℕ)
    → occurrences i (ready_indices q) ≡ occurrences i (ready_indices (emptied q)) + occurrences i (ready_indices q)
all-less q i = let none : occurrences i (ready_indices (emptied q)) ≡ 0 = refl in omega (arith, none)

-- ---- the dead messages

pub dead-more : (row : ReadyRow) (reason : Reason) (d : Letters) (i : ℕ)
    → occurrences i (dead_indices (add row reason d))
    ≡ occurrences i (dead_indices d) + occurrences i (row.index ∷ [])
dead-more row reason d i =
    ap (occurrences i) (map-append dead_index d.rows (record { number = d.deads + 1; reason = reason; row = row } ∷ []))
    ∙ occurrences-append i (dead_indices d) (row.index ∷ [])

pub attach-same : (term : ℕ) (d : Letters) (i : ℕ)
    → occurrences i (dead_indices (attach term d)) ≡ occurrences i (dead_indices d)
attach-same term d i =
    cond_both (nat_lt d.attached term) (record d { attached = term; given = 0 }) d
    (λ (e : Letters). occurrences i (dead_indices e) ≡ occurrences i (dead_indices d)) (λ _. refl) (λ _. refl)

pub give-same : (d : Letters) (i : ℕ) → occurrences i (dead_indices (give d)) ≡ occurrences i (dead_indices d)
give-same d i = by (next_offer d)
  where
    by : (o : Option DeadRow) → occurrences i (dead_indices (give_by o d)) ≡ occurrences i (dead_indices d)
    by None = refl
    by (Some one) = refl

abbrev keeps : ℕ → DeadRow → Bool
keeps number one = not (has_number number one)

keeps-all : (number : ℕ) (rows : List DeadRow) → AllByRecursion (λ (one : DeadRow). has_number number one ≡ false) rows
    → filter (keeps number) rows ≡ rows
keeps-all number [] each = refl
keeps-all number (one ∷ rows) each =
    cond-true (keeps number one) (one ∷ filter (keeps number) rows) (filter (keeps number) rows) (ap not each.0)
    ∙ ap (λ (xs : List DeadRow). one ∷ xs) (keeps-all number rows each.1)

none-has : (number : ℕ) (rows : List DeadRow) → None ≡ find (has_number number) rows
    → AllByRecursion (λ (one : DeadRow). has_number number one ≡ false) rows
none-has number [] is = tt
none-has number (one ∷ rows) is = by (none-has number rows) (cases_Bool (has_number number one))
  where
    by : (None ≡ find (has_number number) rows
        → AllByRecursion (λ (o : DeadRow). has_number number o ≡ false) rows)
        → (has_number number one ≡ true) ⊎ (has_number number one ≡ false)
        → AllByRecursion (λ (o : DeadRow). has_number number o ≡ false) (one ∷ rows)
    by later (inl own) =
        let none : None ≡ Some one =
        is ∙ cond-true (has_number number one) (Some one) (find (has_number number) rows) own in
        absurd cc
    by later (inr other) = (
      other,
      later
          (is ∙ cond-false (has_number number one) (Some one) (find (has_number number) rows) other),
    )

others : (number : ℕ) (rows : List DeadRow) → AllByRecursion (λ (one : DeadRow). number < one.number) rows
    → AllByRecursion (λ (one : DeadRow). has_number number one ≡ false) rows
others number [] each = tt
others number (one ∷ rows) each =
    (ne_eqb one.number number (λ e. let l = each.0 in absurd (omega (arith, e, l))), others number rows each.1)

one-less : (number : ℕ) (one : DeadRow) (rows : List DeadRow) → Rises rows → Some one ≡ find (has_number number) rows
    → (i : ℕ) → occurrences i (map dead_index rows)
    ≡ occurrences i (map dead_index (filter (keeps number) rows)) + occurrences i (one.row.index ∷ [])
one-less number one [] rises is i = absurd cc
one-less number one (first ∷ rows) rises is i =
    by (λ found. one-less number one rows rises.1 found i) (cases_Bool (has_number number first))
  where
    by : (Some one ≡ find (has_number number) rows → occurrences i (map dead_index rows)
        ≡ occurrences i (map dead_index (filter (keeps number) rows)) + occurrences i (one.row.index ∷ []))
        → (has_number number first ≡ true) ⊎ (has_number number first ≡ false)
        → occurrences i (map dead_index (first ∷ rows))
        ≡ occurrences i (map dead_index (filter (keeps number) (first ∷ rows))) + occurrences i (one.row.index ∷ [])
    by later (inl own) =
        let same : Some one ≡ Some first =
        is ∙ cond-true (has_number number first) (Some first) (find (has_number number) rows) own in
        let own' : first ≡ one = cc in
        let at : first.number ≡ number = eqb-true first.number number own in
        let rest : filter (keeps number) (first ∷ rows) ≡ rows =
        cond-false (keeps number first) (first ∷ filter (keeps number) rows) (filter (keeps number) rows) (ap not own)
        ∙ keeps-all number rows
        (others number rows (subst (λ (n : ℕ). AllByRecursion (λ (o : DeadRow). n < o.number) rows) at rises.0)) in
        first-less i first.row.index (map dead_index rows)
        ∙ ap (λ (xs : List DeadRow). occurrences i (map dead_index xs) + occurrences i (first.row.index ∷ [])) (sym rest)
        ∙ ap (λ (o : DeadRow). occurrences i (map dead_index (filter (keeps number) (first ∷ rows)))
        + occurrences i (o.row.index ∷ [])) own'
    by later (inr other) =
        let rest = later
        (is ∙ cond-false (has_number number first) (Some first) (find (has_number number) rows) other) in
        let a = first-less i first.row.index (map dead_index rows) in
        let b = first-less i first.row.index (map dead_index (filter (keeps number) rows)) in
        let e : occurrences i (map dead_index (filter (keeps number) (first ∷ rows)))
        ≡ occurrences i (first.row.index ∷ map dead_index (filter (keeps number) rows)) =
        ap (λ (xs : List DeadRow). occurrences i (map dead_index xs))
        (cond-true (keeps number first) (first ∷ filter (keeps number) rows) (filter (keeps number) rows)
        (ap not other)) in
        omega (arith, rest, a, b, e)

map-some : (row : ReadyRow) (o : Option DeadRow) → Some row ≡ option_map (λ (one : DeadRow). one.row) o
    → (one : DeadRow) × (o ≡ Some one) × (one.row ≡ row)
map-some row None is = absurd cc
map-some row (Some one) is = (one, refl, cc)

map-none : (o : Option DeadRow) → None ≡ option_map (λ (one : DeadRow). one.row) o → o ≡ None
map-none None is = refl
map-none (Some one) is = absurd cc

pub settle-less : (term number : ℕ) (row : ReadyRow) (d : Letters) → AreNumbered d
    → Some row ≡ option_map (λ (one : DeadRow). one.row) (settled term number d) → (i : ℕ)
    → occurrences i (dead_indices d)
    ≡ occurrences i (dead_indices (settle term number d)) + occurrences i (row.index ∷ [])
settle-less term number row d are is i =
    by (map-some row (settled term number d) is) (cases_Bool (may_settle term number d))
  where
    by : (one : DeadRow) × (settled term number d ≡ Some one) × (one.row ≡ row)
        → (may_settle term number d ≡ true) ⊎ (may_settle term number d ≡ false)
        → occurrences i (dead_indices d)
        ≡ occurrences i (dead_indices (settle term number d)) + occurrences i (row.index ∷ [])
    by found (inl may) =
        let there : Some found.0 ≡ find (has_number number) d.rows =
        sym (sym (cond-true (may_settle term number d) (find (has_number number) d.rows) None may) ∙ found.1) in
        one-less number found.0 d.rows are.rising there i
        ∙ ap (λ (e : Letters). occurrences i (dead_indices e) + occurrences i (found.0.row.index ∷ []))
        (sym (cond-true (may_settle term number d)
        (record d { rows = filter (λ (o : DeadRow). not (has_number number o)) d.rows }) d may))
        ∙ ap (λ (r : ReadyRow). occurrences i (dead_indices (settle term number d)) + occurrences i (r.index ∷ []))
        found.2
    by found (inr none) =
        let empty : None ≡ Some found.0 =
        sym (cond-false (may_settle term number d) (find (has_number number) d.rows) None none) ∙ found.1 in
        absurd cc

pub settle-none : (term number : ℕ) (d : Letters)
    → None ≡ option_map (λ (one : DeadRow). one.row) (settled term number d) → (i : ℕ)
    → occurrences i (dead_indices (settle term number d)) ≡ occurrences i (dead_indices d)
settle-none term number d is i = by (cases_Bool (may_settle term number d))
  where
    left : Letters
    left = record d { rows = filter (λ (o : DeadRow). not (has_number number o)) d.rows }

    by : (may_settle term number d ≡ true) ⊎ (may_settle term number d ≡ false)
        → occurrences i (dead_indices (settle term number d)) ≡ occurrences i (dead_indices d)
    by (inl may) =
        ap (λ (e : Letters). occurrences i (dead_indices e)) (cond-true (may_settle term number d) left d may)
        ∙ ap (λ (rows : List DeadRow). occurrences i (map dead_index rows))
        (keeps-all number d.rows
        (none-has number d.rows
        (sym (map-none (settled term number d) is)
        ∙ cond-true (may_settle term number d) (find (has_number number) d.rows) None may)))
    by (inr none) =
        ap (λ (e : Letters). occurrences i (dead_indices e)) (cond-false (may_settle term number d) left d none)
