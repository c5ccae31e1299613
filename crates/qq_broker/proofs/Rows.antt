-- A run's rows, by the numbers of their queues.
use Rattle.std.proofs.Common.{◌≡◌, ◌<◌, ℕ, List, [], ◌∷◌, length, map, get_or, Some, refl, sym, ap, subst, ◌∙◌, arith}
use Rattle.std.specs.Prelude.{Contains}
use Rattle.std.proofs.lemmas.Bool.{cond-true, eq-eqb}
use Rattle.std.proofs.lemmas.List.{length-map}
use Rattle.std.proofs.lemmas.List.Elements.{Contains-get_or}
use Rattle.qq_route.specs.declared.queue_row.QueueRow.{QueueRow}
use Rattle.qq_route.specs.declared.setup.Setup.{Setup}
use Rattle.qq_cluster_run.specs.Serving.{Run, setup_in}
use Rattle.qq_cluster_run.specs.Setup.{first_place, name_by, place_of, row_at}
use Rattle.qq_cluster_run.proofs.QueueRows.{rows-are}
use Rattle.qq_broker.specs.Nodes.{MayRun}

-- the first queue has the first row's name
first-named : (rows : List QueueRow) (row : QueueRow) → 0 < length rows → row ≡ get_or rows 0 row
    → row.name ≡ name_by (row_at rows (first_place rows))
first-named [] row some is = absurd (omega (arith, some))
first-named (first ∷ rows) row some is =
    ap (λ (r : QueueRow). r.name) is
    ∙ sym (ap name_by (cond-true _ (Some first) (row_at rows (place_of first))
    (eq-eqb (place_of first) (place_of first) refl)))

-- where a line names a queue there is one
pub some-row : (s : Setup) (run : Run) (place : ℕ) → Contains (setup_in s run).places place → 0 < length s.queues
some-row s run place (k, lt, is) =
    let long : length (map place_of s.queues) ≡ length s.queues = length-map s.queues place_of in
    omega (arith, lt, long)

-- so a key that is copied from it is the first queue's name
pub key-first : (s : Setup) (rows : List QueueRow) (row : QueueRow) (key : List ℕ) → 0 < length s.queues
    → rows ≡ s.queues → row ≡ get_or rows 0 row → key ≡ row.name → (run : Run)
    → key ≡ (setup_in s run).name (setup_in s run).first
key-first s rows row key some are is same run =
    same ∙ first-named s.queues row some (subst (λ (l : List QueueRow). row ≡ get_or l 0 row) are is)

-- and each has its row's
pub row-named : (s : Setup) (i : ℕ) (row : QueueRow) → MayRun s → i < length s.queues → row ≡ get_or s.queues i row
    → name_by (row_at s.queues (place_of row)) ≡ row.name
row-named s i row runs lt is =
    ap name_by
    ((rows-are s runs).numbers row (subst (Contains s.queues) (sym is) (Contains-get_or s.queues i row lt)))
