-- How rows are counted.
use Rattle.std.proofs.Common.{◌≡◌, ℕ, ◌+◌, List, ◌++◌, length, sym, ap, ◌∙◌, add_assoc}
use Rattle.std.proofs.lemmas.List.{length-append}
use Rattle.std.proofs.lemmas.List.Sums.{sum_by-append}
use Rattle.std.specs.Prelude.{cond, count_by}
use Rattle.qq_entry.specs.declared.audit.AuditRow.{AuditRow}
use Rattle.qq_cluster_model.specs.Confirmed.{is_confirmed_row}
use Rattle.qq_queue.specs.Tally.{count_rows}
use Rattle.qq_queue.specs.declared.tally.Tally.{Tally}

tally-is : (a b c d : ℕ) → a ≡ b → c ≡ d
    → (let t : Tally = record { rows = a; confirmed = c } in t)
    ≡ (let u : Tally = record { rows = b; confirmed = d } in u)
tally-is a b c d p q =
    ap (λ (n : ℕ). let t : Tally = record { rows = n; confirmed = c } in t) p
    ∙ ap (λ (n : ℕ). let t : Tally = record { rows = b; confirmed = n } in t) q

-- some rows, and then others
pub counted-both : (xs ys : List AuditRow) (t : Tally) → count_rows ys (count_rows xs t) ≡ count_rows (xs ++ ys) t
counted-both xs ys t =
    let rows : (t.rows + length xs) + length ys ≡ t.rows + length (xs ++ ys) =
    add_assoc t.rows (length xs) (length ys) ∙ ap (λ (n : ℕ). t.rows + n) (sym (length-append xs ys)) in
    let confirmed : (t.confirmed + count_by is_confirmed_row xs) + count_by is_confirmed_row ys
    ≡ t.confirmed + count_by is_confirmed_row (xs ++ ys) =
    add_assoc t.confirmed (count_by is_confirmed_row xs) (count_by is_confirmed_row ys)
    ∙ ap (λ (n : ℕ). t.confirmed + n) (sym (sum_by-append (λ row. cond (is_confirmed_row row) 1 0) xs ys)) in
    tally-is _ _ _ _ rows confirmed
