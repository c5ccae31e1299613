-- What is said of queues, one after the other.
use Rattle.std.proofs.Common.{◌≡◌, ◌∙◌, ◌+◌, ◌<◌, ◌≤◌, ℕ, zero, suc, Bool, true, false, List, [], ◌∷◌, ◌++◌, ap, append_assoc, arith, length, refl, subst, sym, Some, take}
use Rattle.std.specs.Prelude.{◌||◌, get_or, min, slice_get}
use Rattle.std.specs.List.{list_any, range_with_len}
use Rattle.std.proofs.lemmas.List.{append-nil, length-map, take_all, take_more}
use Rattle.std.proofs.lemmas.Option.{slice_get_read}
use Rattle.std.proofs.lemmas.List.Folds.{list_any-append}
use Rattle.std.proofs.lemmas.List.FromFn.{length-range_with_len}
use Rattle.qq_defs.specs.Runnable.{AreQueuesAfter, IsQueueAfter, IsRunnable}
use Rattle.qq_route.specs.Members.{member, members}
use Rattle.qq_route.specs.Setup.{SetupState}
use Rattle.qq_route.specs.declared.queue_row.QueueRow.{QueueRow}
use Rattle.qq_cluster_run.specs.Setup.{place_of}
use Rattle.qq_doctor.specs.Lanes.{Found}
use Rattle.qq_doctor.specs.Report.{AddsLines, AreSaid, Says, is_difference, report_text, verdict_text}
use Rattle.qq_doctor.specs.Sorted.{of_queue}
use Rattle.qq_doctor.specs.Verdicts.{Means}
use Rattle.qq_doctor.specs.declared.report.Report.{Report}
use Rattle.qq_doctor.specs.declared.verdict.Verdict.{Verdict}

-- ---- a setup's queues

queue-after : (nodes before : ℕ) (rows : List QueueRow) → AreQueuesAfter nodes before rows → (at : ℕ) (row : QueueRow)
    → slice_get rows at ≡ Some row → IsQueueAfter nodes (before + at) row
queue-after nodes before [] after at row is = absurd cc
queue-after nodes before (first ∷ rows) after zero row is =
    let same : first ≡ row = cc in
    let here : before ≡ before + 0 = omega arith in
    subst (λ (n : ℕ). IsQueueAfter nodes n row) here (subst (λ (r : QueueRow). IsQueueAfter nodes before r) same after.0)
queue-after nodes before (first ∷ rows) after (suc at) row is =
    let here : before + 1 + at ≡ before + suc at = omega arith in
    subst (λ (n : ℕ). IsQueueAfter nodes n row) here (queue-after nodes (before + 1) rows after.1 at row is)

pub place-after : (s : SetupState) → IsRunnable s → (at : ℕ) (row : QueueRow) → slice_get s.queues at ≡ Some row
    → place_of row ≡ at + 1
place-after s runs at row is =
    let q = queue-after s.nodes 0 s.queues runs.queues_are at row is in
    omega (arith, q.number)

members-few : (nodes group before : ℕ) → length (members nodes group before) ≡ min group nodes
members-few nodes group before =
    length-map (range_with_len 0 (min group nodes)) (member nodes before)
    ∙ length-range_with_len 0 (min group nodes)

-- seven members at most
pub few-members : (s : SetupState) → IsRunnable s → (at : ℕ) (row : QueueRow) → slice_get s.queues at ≡ Some row
    → length row.members ≤ 7
few-members s runs at row is =
    let q = queue-after s.nodes 0 s.queues runs.queues_are at row is in
    let count = ap length q.members_are ∙ members-few s.nodes row.args.group (0 + at) in
    omega (arith, count, runs.few)

-- ---- lines

said-more : (rows : List QueueRow) (found : List Found) (verdicts : List Verdict) (row : QueueRow) (verdict : Verdict)
    → AreSaid rows found verdicts → Means (length row.members) (of_queue (place_of row) found) verdict
    → AreSaid (rows ++ row ∷ []) found (verdicts ++ verdict ∷ [])
said-more [] found [] row verdict said one = (one, tt)
said-more [] found (other ∷ verdicts) row verdict said one = absurd said
said-more (first ∷ rows) found [] row verdict said one = absurd said
said-more (first ∷ rows) found (other ∷ verdicts) row verdict said one =
    (said.0, said-more rows found verdicts row verdict said.1 one)

text-more : (rows : List QueueRow) (found : List Found) (verdicts : List Verdict) (row : QueueRow) (verdict : Verdict)
    → AreSaid rows found verdicts
    → report_text (rows ++ row ∷ []) (verdicts ++ verdict ∷ [])
    ≡ report_text rows verdicts ++ verdict_text row.name verdict
text-more [] found [] row verdict said = append-nil (verdict_text row.name verdict)
text-more [] found (other ∷ verdicts) row verdict said = absurd said
text-more (first ∷ rows) found [] row verdict said = absurd said
text-more (first ∷ rows) found (other ∷ verdicts) row verdict said =
    ap (λ (l : List ℕ). verdict_text first.name other ++ l) (text-more rows found verdicts row verdict said.1)
    ∙ sym (append_assoc (verdict_text first.name other) (report_text rows verdicts) (verdict_text row.name verdict))

or-none : (b : Bool) → (b || false) ≡ b
or-none true = refl
or-none false = refl

or-both : (a b c : Bool) → ((a || b) || (c || false)) ≡ (a || (b || (c || false)))
or-both true b c = refl
or-both false b c = refl

pub adds-begin : (found : List Found) (report : Report) → AddsLines [] found report report
adds-begin found report = record {
  verdicts = [];
  said = tt;
  text = sym (append-nil report.text.items);
  differs = sym (or-none report.differs);
}

pub adds-more : (rows : List QueueRow) (found : List Found) (row : QueueRow) (verdict : Verdict)
    (old now next : Report) → AddsLines rows found old now
    → Means (length row.members) (of_queue (place_of row) found) verdict
    → next.text.items ≡ now.text.items ++ verdict_text row.name verdict
    → next.differs ≡ (now.differs || is_difference verdict) → AddsLines (rows ++ row ∷ []) found old next
adds-more rows found row verdict old now next so one text differs = record {
  verdicts = so.verdicts ++ verdict ∷ [];
  said = said-more rows found so.verdicts row verdict so.said one;
  text =
      text ∙ ap (λ (l : List ℕ). l ++ verdict_text row.name verdict) so.text
      ∙ append_assoc old.text.items (report_text rows so.verdicts) (verdict_text row.name verdict)
      ∙ ap (λ (l : List ℕ). old.text.items ++ l) (sym (text-more rows found so.verdicts row verdict so.said));
  differs =
      differs ∙ ap (λ (b : Bool). b || is_difference verdict) so.differs
      ∙ by old.differs (list_any is_difference so.verdicts) (is_difference verdict)
      ∙ ap (λ (b : Bool). old.differs || b) (sym (list_any-append is_difference so.verdicts (verdict ∷ [])));
}
  where
    by : (a b c : Bool) → ((a || b) || c) ≡ (a || (b || (c || false)))
    by true b c = refl
    by false true c = refl
    by false false true = refl
    by false false false = refl

-- the lines of the first rows, and of one more
pub adds-next : (rows : List QueueRow) (found : List Found) (at : ℕ) (row : QueueRow) (verdict : Verdict)
    (old now next : Report) → at < length rows → row ≡ get_or rows at row → AddsLines (take at rows) found old now
    → Means (length row.members) (of_queue (place_of row) found) verdict
    → next.text.items ≡ now.text.items ++ verdict_text row.name verdict
    → next.differs ≡ (now.differs || is_difference verdict) → AddsLines (take (at + 1) rows) found old next
adds-next rows found at row verdict old now next within is so one text differs =
    subst (λ (l : List QueueRow). AddsLines l found old next)
    (ap (λ (r : QueueRow). take at rows ++ r ∷ []) is ∙ sym (take_more rows at row within))
    (adds-more (take at rows) found row verdict old now next so one text differs)

-- ---- in a loop over a setup's queues

pub row-there : (rows shown : List QueueRow) (at : ℕ) (row : QueueRow) → shown ≡ rows → at < length shown
    → row ≡ get_or shown at row → slice_get rows at ≡ Some row
row-there rows shown at row same within is =
    subst (λ (l : List QueueRow). slice_get l at ≡ Some row) same (slice_get_read shown (length shown) at row refl within is)

pub means-of : (lanes : List Found) (row : QueueRow) (at n : ℕ) (slice kept : List Found) (verdict : Verdict)
    → n ≡ length row.members → kept ≡ slice → kept ≡ of_queue (at + 1) lanes → place_of row ≡ at + 1
    → Means n slice verdict → Means (length row.members) (of_queue (place_of row) lanes) verdict
means-of lanes row at n slice kept verdict count shown sorted place means =
    subst (λ (m : ℕ). Means m (of_queue (place_of row) lanes) verdict) count
    (subst (λ (l : List Found). Means n l verdict)
    (sym shown ∙ sorted ∙ ap (λ (q : ℕ). of_queue q lanes) (sym place)) means)

pub adds-all : (rows shown : List QueueRow) (found : List Found) (at : ℕ) (old now : Report) → shown ≡ rows
    → length shown ≤ at → AddsLines (take at rows) found old now → AddsLines rows found old now
adds-all rows shown found at old now same end so =
    let past : length rows ≤ at = omega (arith, end, ap length same) in
    subst (λ (l : List QueueRow). AddsLines l found old now) (take_all at rows past) so

-- what is said, where nothing was said before
pub says-all : (rows : List QueueRow) (found : List Found) (old now : Report) → old.text.items ≡ []
    → old.differs ≡ false → AddsLines rows found old now → Says rows found now
says-all rows found old now empty agrees so = record {
  verdicts = so.verdicts;
  said = so.said;
  text = so.text ∙ ap (λ (l : List ℕ). l ++ report_text rows so.verdicts) empty;
  differs = so.differs ∙ ap (λ (b : Bool). b || list_any is_difference so.verdicts) agrees;
}
