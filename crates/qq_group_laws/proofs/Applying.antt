-- What applying entries makes of a server with its queue.
use Rattle.std.proofs.Common.{◌≡◌, ℕ, suc, ◌+◌, ◌≤◌, Bool, List, [], ◌∷◌, ◌++◌, length, take, drop, refl, sym, ap, subst, ◌∙◌, inl, inr, arith, append-nil, take-append-drop}
use Rattle.std.specs.List.{AllByRecursion}
use Rattle.std.proofs.Math.ListN.{drop_of_length-le}
use Rattle.std.proofs.Math.Seq.{take-append_seam}
use Rattle.std.proofs.lemmas.Bool.{cases_lt, cond_both}
use Rattle.std.proofs.lemmas.List.{take-append-le}
use Rattle.qq_base.specs.Fronts.{IsFront}
use Rattle.qq_base.proofs.Fronts.{front-take}
use Rattle.qq_base.proofs.Lists.{AllByRecursion-append, AllByRecursion-weaker}
use Rattle.qq_base.specs.declared.ids.Index.{Index}
use Rattle.qq_entry.specs.declared.command.Entry.{Entry}
use Rattle.qq_raft_msg.specs.Queue.{Applied}
use Rattle.qq_raft_protocol.specs.Facts.{In}
use Rattle.qq_raft_protocol.proofs.Lists.{In-left}
use Rattle.qq_raft.specs.Step.{ServerState, apply_all, apply_next, next_index, row_of, shown_row, shows}
use Rattle.qq_raft.specs.declared.row.AppliedRow.{AppliedRow}
use Rattle.qq_group_laws.specs.Audited.{index_behind, queue_after, rows_after}

pub In-right : {A : Type 0} (x : A) (xs ys : List A) → In x ys → In x (xs ++ ys)
In-right x [] ys here = here
In-right x (y ∷ xs) ys here = inr (In-right x xs ys here)

-- ---- all of some entries

pub all-queue : {P : Type 0} (step : P → Index → Entry → Applied P) (es : List Entry) (s : ServerState P)
    → (apply_all step es s).queue ≡ queue_after step s.queue s.applied es
unfolding apply_next
all-queue step [] s = refl
all-queue step (e ∷ es) s = all-queue step es (apply_next step e s)

pub all-raft : {P : Type 0} (step : P → Index → Entry → Applied P) (es : List Entry) (s : ServerState P)
    → (apply_all step es s).raft ≡ s.raft
unfolding apply_next
all-raft step [] s = refl
all-raft step (e ∷ es) s = all-raft step es (apply_next step e s)

pub all-applied : {P : Type 0} (step : P → Index → Entry → Applied P) (es : List Entry) (s : ServerState P)
    → (apply_all step es s).applied ≡ s.applied + length es
unfolding apply_next
all-applied step [] s = omega arith
all-applied step (e ∷ es) s =
    let rest : (apply_all step es (apply_next step e s)).applied ≡ s.applied + 1 + length es =
    all-applied step es (apply_next step e s) in
    omega (arith, rest)

shown-is : {P : Type 0} (shown : Bool) (index : Index) (e : Entry) (made : Applied P) (rest : List AppliedRow)
    → AllByRecursion (λ (row : AppliedRow). In row (row_of index e made.fresh made.answer made.effects ∷ rest))
    (shown_row shown index e made.fresh made.answer made.effects)
shown-is shown index e made rest =
    cond_both shown (row_of index e made.fresh made.answer made.effects ∷ []) []
    (λ (rows : List AppliedRow). AllByRecursion
    (λ (row : AppliedRow). In row (row_of index e made.fresh made.answer made.effects ∷ rest)) rows)
    (λ _. (inl refl, tt)) (λ _. tt)

-- the rows are those that it held, and those of these entries
pub all-rows : {P : Type 0} (step : P → Index → Entry → Applied P) (es : List Entry) (s : ServerState P)
    (all : List AppliedRow) → AllByRecursion (λ (row : AppliedRow). In row all) s.rows
    → ((row : AppliedRow) → In row (rows_after step s.queue s.applied es) → In row all)
    → AllByRecursion (λ (row : AppliedRow). In row all) (apply_all step es s).rows
unfolding apply_next
all-rows step [] s all held more = held
all-rows step (e ∷ es) s all held more =
    let made = step s.queue (next_index s) e in
    let rest = rows_after step made.state (s.applied + 1) es in
    all-rows step es (apply_next step e s) all
    (AllByRecursion-append (λ (row : AppliedRow). In row all) s.rows
    (shown_row (shows s.raft e) (next_index s) e made.fresh made.answer made.effects) held
    (AllByRecursion-weaker (λ (row : AppliedRow). In row
    (row_of (next_index s) e made.fresh made.answer made.effects ∷ rest)) (λ (row : AppliedRow). In row all) more
    (shown_row (shows s.raft e) (next_index s) e made.fresh made.answer made.effects)
    (shown-is (shows s.raft e) (next_index s) e made rest)))
    (λ row here. more row (inr here))

-- ---- entries behind others

pub queue-append : {P : Type 0} (step : P → Index → Entry → Applied P) (queue : P) (n : ℕ) (xs ys : List Entry)
    → queue_after step queue n (xs ++ ys)
    ≡ queue_after step (queue_after step queue n xs) (n + length xs) ys
queue-append step queue n [] ys =
    ap (λ (m : ℕ). queue_after step queue m ys) (omega arith)
queue-append step queue n (x ∷ xs) ys =
    let next = (step queue (index_behind n) x).state in
    let count : n + 1 + length xs ≡ n + suc (length xs) = omega arith in
    queue-append step next (n + 1) xs ys
    ∙ ap (λ (m : ℕ). queue_after step (queue_after step next (n + 1) xs) m ys) count

pub rows-append : {P : Type 0} (step : P → Index → Entry → Applied P) (queue : P) (n : ℕ) (xs ys : List Entry)
    → rows_after step queue n (xs ++ ys)
    ≡ rows_after step queue n xs ++ rows_after step (queue_after step queue n xs) (n + length xs) ys
rows-append step queue n [] ys =
    ap (λ (m : ℕ). rows_after step queue m ys) (omega arith)
rows-append step queue n (x ∷ xs) ys =
    let made = step queue (index_behind n) x in
    let count : n + 1 + length xs ≡ n + suc (length xs) = omega arith in
    ap (λ (rows : List AppliedRow). row_of (index_behind n) x made.fresh made.answer made.effects ∷ rows)
    (rows-append step made.state (n + 1) xs ys
    ∙ ap (λ (m : ℕ). rows_after step made.state (n + 1) xs
    ++ rows_after step (queue_after step made.state (n + 1) xs) m ys) count)

pub rows-front : {P : Type 0} (step : P → Index → Entry → Applied P) (queue : P) (n : ℕ) {xs all : List Entry}
    (row : AppliedRow) → IsFront xs all → In row (rows_after step queue n xs)
    → In row (rows_after step queue n all)
rows-front step queue n {xs} {all} row front here =
    subst (λ (es : List Entry). In row (rows_after step queue n es)) (sym front.is)
    (subst (λ (rows : List AppliedRow). In row rows) (sym (rows-append step queue n xs front.rest))
    (In-left row (rows_after step queue n xs) _ here))

-- ---- what wasn't applied behind what was

-- so many entries of the audit, and those of another front behind so many, begin it
pub on-front : (n : ℕ) (known audit : List Entry) → n ≤ length audit → IsFront known audit
    → IsFront (take n audit ++ drop n known) audit
on-front n known audit le front =
    elim (cases_lt (length known) n) [
      | inl less ↦ subst (λ (es : List Entry). IsFront (take n audit ++ es) audit)
          (sym (drop_of_length-le known {i = n} (omega (arith, less))))
          (subst (λ (es : List Entry). IsFront es audit) (sym (append-nil (take n audit))) (front-take n audit))
      | inr more ↦ subst (λ (es : List Entry). IsFront es audit)
          (sym (ap (λ (es : List Entry). es ++ drop n known)
          (ap (take n) front.is ∙ take-append-le n known front.rest (omega (arith, more)))
          ∙ take-append-drop n known)) front
    ]

pub take-front : {xs all : List Entry} (n : ℕ) → IsFront xs all → n ≡ length xs → take n all ≡ xs
take-front {xs} {all} n front is =
    ap (λ (m : ℕ). take m all) is ∙ ap (take (length xs)) front.is ∙ take-append_seam xs front.rest
