-- Each step of a seat keeps the rule of the marks, and what it tells.
use Rattle.std.proofs.Common.{◌≡◌, ◌≢◌, ◌≤◌, ℕ, zero, suc, max, true, List, [], ◌∷◌, ◌++◌, length, set, replicate, refl, sym, ap, ◌∙◌, subst, ⊎_elim, le_refl, arith}
use Rattle.std.specs.Prelude.{slice_index}
use Rattle.std.proofs.lemmas.Bool.{or_left, cond-true, cond_both}
use mathlib.Core.Option.{some, none, some-injective, some-ne-none}
use lib.ListN.{get_elem?}
use Rattle.atomic_table.proofs.Lists.{at_set, at_snoc}
use Rattle.atomic_table.specs.Table.{Me, step, keeps, Allows, Splits, Joins, opening}
use Rattle.qq_inbox.specs.declared.seat.SeatView.{SeatView}
use Rattle.qq_inbox.specs.declared.seat.TheConstants.{STOP}
use Rattle.qq_inbox.specs.Seats.{AtMost, greater, first_seat, spent_seat, raised_to, looked, reader, joined_seat, Marked, Raises, Looks, Checks}
use Rattle.qq_inbox.proofs.Numbers.{at_most_same, at_most_set, at_most_raised, at_most_both, at_most_at, at_most_greater, greater_first, greater_second, length-greater, set_same, zeros_at, set_within}
use Rattle.qq_inbox.proofs.Rights.{chosen, held, held_alone, held_changed, held_kept, held_beside, held_joined}

-- what every seat has seen, is at or below the words
abbrev AllSeen : List ℕ → List SeatView → Type 0
AllSeen words views = (seat : ℕ) (v : SeatView) → get_elem? views seat ≡ some v → AtMost v.seen words

seen_alone : (words : List ℕ) (v : SeatView) → AtMost v.seen words → (seat : ℕ) (u : SeatView)
    → get_elem? (v ∷ []) seat ≡ some u → AtMost u.seen words
seen_alone words v first zero u at = subst (λ (x : SeatView). AtMost x.seen words) (some-injective v u at) first
seen_alone words v first (suc seat) u at = absurd (some-ne-none u (sym at))

-- one view changes, and the words rise
seen_set : (before words : List ℕ) (views : List SeatView) (place : ℕ) (w : SeatView) → AtMost w.seen words
    → AllSeen before views → ((v : SeatView) → AtMost v.seen before → AtMost v.seen words)
    → AllSeen words (set views place w)
seen_set before words views place w mine all rise seat u at =
    ⊎_elim (λ (t : (seat ≡ place) × (w ≡ u)). subst (λ (x : SeatView). AtMost x.seen words) t.1 mine)
    (λ (t : (seat ≢ place) × (get_elem? views seat ≡ some u)). rise u (all seat u t.1))
    (at_set views place seat w u at)

seen_beside : (words : List ℕ) (views : List SeatView) (v : SeatView) → AtMost v.seen words → AllSeen words views
    → AllSeen words (views ++ v ∷ [])
seen_beside words views v mine all seat u at =
    ⊎_elim (λ old. all seat u old) (λ new. subst (λ (x : SeatView). AtMost x.seen words) new mine)
    (at_snoc views v u seat at)

-- ---- the steps

pub begins : (S : Type 0) (n : ℕ) → Marked {S = S} (opening (replicate n 0) [] (first_seat n))
begins S n = (
  (let e = zeros_at n STOP in omega arith),
  held_alone (λ (v : SeatView). v.raises) (λ (v : SeatView). v.raised) (first_seat n),
  seen_alone (replicate n 0) (first_seat n) (at_most_same (replicate n 0)),
)

pub raises : {S : Type 0} (slots id : ℕ) (me : Me S SeatView) (mark n : ℕ) → me.0.raises ≡ true
    → (mark ≡ STOP → n ≤ 1) → Allows Marked slots id me mark (λ w. max w n) (Raises (step slots mark n 0 none) me)
raises slots id me mark n right small s h len at fits =
    let v = me.0 in
    let all : v.raised ≡ s.words =
    held (λ (u : SeatView). u.raises) (λ (u : SeatView). u.raised) s.views id v s.words h.1 at right in
    let w = raised_to v mark n in
    let top = max (slice_index s.words mark) n in
    let same : max (slice_index v.raised mark) n ≡ top = ap (λ (l : List ℕ). max (slice_index l mark) n) all in (
      w,
      keeps,
      tt,
      (
        set_within s.words mark STOP top 1 h.0
            (λ (is : mark ≡ STOP).
            let a = small is in
            let b : slice_index s.words mark ≤ 1 = subst (λ k. slice_index s.words k ≤ 1) (sym is) h.0 in
            omega arith),
        held_changed (λ (u : SeatView). u.raises) (λ (u : SeatView). u.raised) s.views id v w s.words
            (set s.words mark top) h.1 at right (ap (λ (l : List ℕ). set l mark (max (slice_index l mark) n)) all),
        seen_set s.words (set s.words mark top) s.views id w
            (subst (λ m. AtMost (set v.seen mark m) (set s.words mark top)) (sym same)
            (at_most_both v.seen s.words mark top (h.2 id v at)))
            h.2 (λ u below. at_most_raised u.seen s.words mark top below (omega arith)),
      ),
      refl,
    )

pub looks : {S : Type 0} (slots id : ℕ) (me : Me S SeatView) (mark : ℕ)
    → Allows Marked slots id me mark (λ n. n) (Looks (step slots mark 0 0 none) me)
looks slots id me mark s h len at fits =
    let v = me.0 in
    let n = slice_index s.words mark in
    let w = looked v mark n in
    let rule : Marked record { words = s.words; homes = s.homes; views = set s.views id w } = (
      h.0,
      held_kept (λ (u : SeatView). u.raises) (λ (u : SeatView). u.raised) s.views id v w s.words h.1 at
          (λ own. (own, refl)),
      seen_set s.words s.words s.views id w (at_most_set v.seen s.words mark n (h.2 id v at) (le_refl n)) h.2
          (λ u below. below),
    ) in (
      w,
      keeps,
      tt,
      subst (λ (words : List ℕ). Marked record { words = words; homes = s.homes; views = set s.views id w })
          (sym (set_same s.words mark)) rule,
      (
        refl,
        at_most_at v.seen s.words mark (h.2 id v at),
        λ right. ap (λ (l : List ℕ). slice_index l mark)
            (sym (held (λ (u : SeatView). u.raises) (λ (u : SeatView). u.raised) s.views id v s.words h.1 at right)),
        λ (is : mark ≡ STOP). subst (λ k. slice_index s.words k ≤ 1) (sym is) h.0,
      ),
    )

pub checks : {S : Type 0} (slots id : ℕ) (me : Me S SeatView) (mark : ℕ)
    → Allows Marked slots id me mark (λ n. n) (Checks (step slots mark 0 0 none) me)
checks slots id me mark s h len at fits =
    let v = me.0 in
    let rule : Marked record { words = s.words; homes = s.homes; views = set s.views id v } = (
      h.0,
      held_kept (λ (u : SeatView). u.raises) (λ (u : SeatView). u.raised) s.views id v v s.words h.1 at
          (λ own. (own, refl)),
      seen_set s.words s.words s.views id v (h.2 id v at) h.2 (λ u below. below),
    ) in (
      v,
      keeps,
      tt,
      subst (λ (words : List ℕ). Marked record { words = words; homes = s.homes; views = set s.views id v })
          (sym (set_same s.words mark)) rule,
      (
        refl,
        λ right. subst (AtMost v.seen)
            (sym (held (λ (u : SeatView). u.raises) (λ (u : SeatView). u.raised) s.views id v s.words h.1 at right))
            (h.2 id v at),
      ),
    )

pub splits : (S : Type 0) (id : ℕ) (v : SeatView) → Splits (Marked {S = S}) id v v (reader v)
splits S id v s h at = (
  h.0,
  held_beside (λ (u : SeatView). u.raises) (λ (u : SeatView). u.raised) (set s.views id v) (reader v) s.words
      (held_kept (λ (u : SeatView). u.raises) (λ (u : SeatView). u.raised) s.views id v v s.words h.1 at
      (λ own. (own, refl))) refl,
  seen_beside s.words (set s.views id v) (reader v) (h.2 id v at)
      (seen_set s.words s.words s.views id v (h.2 id v at) h.2 (λ u below. below)),
)

pub joins : (S : Type 0) (id : ℕ) (v : SeatView) (other : ℕ) (u : SeatView)
    → Joins (Marked {S = S}) id v other u (joined_seat v u) spent_seat
joins S id v other u s h at apart at_other =
    let b = joined_seat v u in
    let was : get_elem? s.views other ≡ some u =
    ⊎_elim (λ (t : (other ≡ id) × (b ≡ u)). absurd (apart t.0))
    (λ (t : (other ≢ id) × (get_elem? s.views other ≡ some u)). t.1) (at_set s.views id other b u at_other) in (
      h.0,
      held_joined (λ (x : SeatView). x.raises) (λ (x : SeatView). x.raised) s.views id other v u b spent_seat s.words
          h.1 at apart at_other (chosen v.raises u.raises v.raised u.raised) refl,
      seen_set s.words s.words (set s.views id b) other spent_seat tt
          (seen_set s.words s.words s.views id b
          (at_most_greater v.seen u.seen s.words (h.2 id v at) (h.2 other u was)) h.2 (λ x below. below))
          (λ x below. below),
    )

-- ---- what a join tells

pub joined_lengths : (v u : SeatView) (n : ℕ) → length v.raised ≡ n → length v.seen ≡ n → length u.raised ≡ n
    → length u.seen ≡ n → (length (joined_seat v u).raised ≡ n) × (length (joined_seat v u).seen ≡ n)
joined_lengths v u n raised seen raised' seen' = (
  cond_both v.raises v.raised u.raised (λ (l : List ℕ). length l ≡ n) (λ _. raised) (λ _. raised'),
  length-greater v.seen u.seen (seen ∙ sym seen') ∙ seen,
)

-- what both seats have seen is at most what the raising one has raised
pub answers_below : (v u a w : SeatView) → a ≡ joined_seat v u → w ≡ a → (a.raises ≡ true → AtMost a.seen a.raised)
    → w.raises ≡ true → AtMost v.seen w.raised × AtMost u.seen w.raised
answers_below v u a w joined same check right =
    let may : a.raises ≡ true = ap (λ (x : SeatView). x.raises) (sym same) ∙ right in
    let below : AtMost (greater v.seen u.seen) a.raised =
    subst (λ (l : List ℕ). AtMost l a.raised) (ap (λ (x : SeatView). x.seen) joined) (check may) in
    let here : AtMost (greater v.seen u.seen) w.raised =
    subst (AtMost (greater v.seen u.seen)) (ap (λ (x : SeatView). x.raised) (sym same)) below in
    (greater_first v.seen u.seen w.raised here, greater_second v.seen u.seen w.raised here)

-- an answer of the other seat is at or below what the raising seat has raised
pub answer_below : (v u w : SeatView) (mark answer top : ℕ) → w ≡ joined_seat v u → v.raises ≡ true
    → (w.raises ≡ true → AtMost v.seen w.raised × AtMost u.seen w.raised) → slice_index u.seen mark ≡ answer
    → slice_index v.raised mark ≤ top → answer ≤ top
answer_below v u w mark answer top joined right answers is most =
    let may : w.raises ≡ true = ap (λ (x : SeatView). x.raises) joined ∙ or_left v.raises u.raises right in
    let raised : w.raised ≡ v.raised =
    ap (λ (x : SeatView). x.raised) joined ∙ cond-true v.raises v.raised u.raised right in
    let below = at_most_at u.seen w.raised mark (answers may).1 in
    let within : slice_index w.raised mark ≤ top = subst (λ (l : List ℕ). slice_index l mark ≤ top) (sym raised) most in
    omega arith
