-- Nodes are read one after the other.
use Rattle.std.proofs.Common.{◌≡◌, ◌∙◌, ◌+◌, ◌<◌, ◌≤◌, ℕ, Bool, List, [], ◌∷◌, ◌++◌, ap, append_assoc, arith, inl, inr, map, refl, subst, sym}
use Rattle.std.specs.List.{range_with_len}
use Rattle.std.proofs.lemmas.List.{append-nil, map-id}
use Rattle.std.proofs.lemmas.List.FromFn.{map-range_with_len_more}
use Rattle.qq_base.specs.Causes.{Rose}
use Rattle.qq_disk.specs.Facts.{DiskFacts}
use Rattle.qq_log.specs.declared.lane.Lane.{Lane}
use Rattle.qq_route.specs.declared.queue_row.QueueRow.{QueueRow}
use Rattle.qq_cluster_run.specs.Endings.{Ending}
use Rattle.qq_doctor.specs.Lanes.{Found}
use Rattle.qq_doctor.specs.Reading.{AreRead, IsRead, MayNotRead, StopsAtFirst}
use Rattle.qq_doctor.specs.Sorted.{AreSorted, of_node}

-- ---- the nodes so far

range-more : (n : ℕ) → range_with_len 1 (n + 1) ≡ range_with_len 1 n ++ (n + 1) ∷ []
range-more n =
    let here : 1 + n ≡ n + 1 = omega arith in
    sym (map-id (range_with_len 1 (n + 1))) ∙ map-range_with_len_more (λ (x : ℕ). x) 1 n (n + 1) here
    ∙ ap (λ (l : List ℕ). l ++ (n + 1) ∷ []) (map-id (range_with_len 1 n))

read-more : {D : Type 0} (is_given : ℕ → D → Bool) (facts : DiskFacts D) (rows : List QueueRow) (nodes : List ℕ)
    (found : List Found) (k : ℕ) (lanes : List Lane) → AreRead is_given facts rows nodes found
    → IsRead is_given facts rows k lanes
    → AreRead is_given facts rows (nodes ++ k ∷ []) (found ++ map (of_node k) lanes)
read-more is_given facts rows [] found k lanes none one = (
  lanes,
  (
    [],
    ap (λ (l : List Found). l ++ map (of_node k) lanes) none ∙ sym (append-nil (map (of_node k) lanes)),
    one,
    refl,
  ),
)
read-more is_given facts rows (j ∷ nodes) found k lanes (own, (rest, parts, first, more)) one = (
  own,
  (
    rest ++ map (of_node k) lanes,
    ap (λ (l : List Found). l ++ map (of_node k) lanes) parts
        ∙ append_assoc (map (of_node j) own) rest (map (of_node k) lanes),
    first,
    read-more is_given facts rows nodes rest k lanes more one,
  ),
)

-- so many nodes were read, and their lanes were added
pub record Reading {D : Type 0} (is_given : ℕ → D → Bool) (facts : DiskFacts D) (rows : List QueueRow) (before : ℕ)
    (old new : List (List Found)) : Type 0 where
  pub found : List Found
  pub read : AreRead is_given facts rows (range_with_len 1 before) found
  pub sorted : (count : ℕ) (more : List Found) → AreSorted count more old → AreSorted count (more ++ found) new

pub reading-begin : {D : Type 0} (is_given : ℕ → D → Bool) (facts : DiskFacts D) (rows : List QueueRow)
    (old : List (List Found)) → Reading is_given facts rows 0 old old
reading-begin is_given facts rows old = record {
  found = [];
  read = refl;
  sorted = λ count more so. subst (λ (l : List Found). AreSorted count l old) (sym (append-nil more)) so;
}

pub reading-more : {D : Type 0} (is_given : ℕ → D → Bool) (facts : DiskFacts D) (rows : List QueueRow) (before : ℕ)
    (old now next : List (List Found)) → Reading is_given facts rows before old now
    → (lanes : List Lane) × IsRead is_given facts rows (before + 1) lanes
    × ((count : ℕ) (more : List Found) → AreSorted count more now
    → AreSorted count (more ++ map (of_node (before + 1)) lanes) next)
    → Reading is_given facts rows (before + 1) old next
reading-more is_given facts rows before old now next so (lanes, one, adds) = record {
  found = so.found ++ map (of_node (before + 1)) lanes;
  read =
      subst (λ (nodes : List ℕ). AreRead is_given facts rows nodes (so.found ++ map (of_node (before + 1)) lanes))
      (sym (range-more before))
      (read-more is_given facts rows (range_with_len 1 before) so.found (before + 1) lanes so.read one);
  sorted = λ count more sorted.
      subst (λ (l : List Found). AreSorted count l next)
      (append_assoc more so.found (map (of_node (before + 1)) lanes))
      (adds count (more ++ so.found) (so.sorted count more sorted));
}

-- the same where the rows are a slice of these
pub reading-next : {D : Type 0} (is_given : ℕ → D → Bool) (facts : DiskFacts D) (rows shown : List QueueRow)
    (before : ℕ) (old now next : List (List Found)) → shown ≡ rows → Reading is_given facts rows before old now
    → (lanes : List Lane) × IsRead is_given facts shown (before + 1) lanes
    × ((count : ℕ) (more : List Found) → AreSorted count more now
    → AreSorted count (more ++ map (of_node (before + 1)) lanes) next)
    → Reading is_given facts rows (before + 1) old next
reading-next is_given facts rows shown before old now next same so (lanes, one, adds) =
    reading-more is_given facts rows before old now next so
    (lanes, subst (λ (r : List QueueRow). IsRead is_given facts r (before + 1) lanes) same one, adds)

-- all of them
pub reading-end : {D : Type 0} (is_given : ℕ → D → Bool) (facts : DiskFacts D) (rows : List QueueRow)
    (before nodes : ℕ) (old now : List (List Found)) → before ≡ nodes → Reading is_given facts rows before old now
    → (lanes : List Found) × AreRead is_given facts rows (range_with_len 1 nodes) lanes
    × ((count : ℕ) (more : List Found) → AreSorted count more old → AreSorted count (more ++ lanes) now)
reading-end is_given facts rows before nodes old now e so =
    (so.found, subst (λ (n : ℕ). AreRead is_given facts rows (range_with_len 1 n) so.found) e so.read, so.sorted)

-- ---- the first that isn't read

rose-wider : (first before after : ℕ) → first ≤ before → Rose before after → Rose first after
rose-wider first before after le (inl lt) = inl (omega (arith, le, lt))
rose-wider first before after le (inr end) = inr end

pub stops : {D : Type 0} (is_given : ℕ → D → Bool) (facts : DiskFacts D) (rows shown : List QueueRow)
    (nodes before : ℕ) (old now : List (List Found)) (first yard yard' : ℕ) (ending : Ending) → shown ≡ rows
    → before < nodes → Reading is_given facts rows before old now → first ≤ yard
    → MayNotRead is_given facts shown (before + 1) yard yard' ending
    → StopsAtFirst is_given facts rows nodes first yard' ending
stops is_given facts rows shown nodes before old now first yard yard' ending same within so le why = record {
  before = before;
  within = within;
  found = so.found;
  read = so.read;
  why = by (subst (λ (r : List QueueRow). MayNotRead is_given facts r (before + 1) yard yard' ending) same why);
}
  where
    by : MayNotRead is_given facts rows (before + 1) yard yard' ending
        → MayNotRead is_given facts rows (before + 1) first yard' ending
    by (inl memory) = inl memory
    by (inr (inl failed)) = inr (inl (rose-wider first yard yard' le failed.0, failed.1))
    by (inr (inr refused)) = inr (inr refused)
