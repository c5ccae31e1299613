-- The audits of a drill's queues go into its digest, and their rows are counted.
use Rattle.std.proofs.Common.{◌≡◌, ◌<◌, ◌≤◌, ◌+◌, ℕ, List, [], ◌∷◌, ◌++◌, drop, take, get_or, length, map, refl, sym, ap, subst, ◌∙◌, append_assoc, append-nil, arith}
use Rattle.std.specs.Prelude.{count_by, flat_map}
use Rattle.std.proofs.lemmas.List.{drop_all, drop_more, take_all, take_more}
use Rattle.std.proofs.lemmas.Grind.{flat_map-append}
use Rattle.qq_disk.specs.Facts.{DiskFacts}
use Rattle.sha2.specs.Hashers.{Holds256}
use Rattle.sha2.specs.Sha256.{sha256}
use Rattle.sha2.specs.declared.Sha256.{Sha256}
use Rattle.qq_entry.specs.declared.audit.AuditRow.{AuditRow}
use Rattle.qq_route.specs.declared.queue_row.QueueRow.{QueueRow}
use Rattle.qq_route.specs.declared.setup.Setup.{Setup}
use Rattle.qq_cluster_model.specs.Cluster.{Cluster, Setup as ClusterSetup}
use Rattle.qq_cluster_model.specs.Confirmed.{is_confirmed_row}
use Rattle.qq_cluster_model.specs.Queue.{audit_rows}
use Rattle.qq_cluster_model.specs.Texts.{audits_text}
use Rattle.qq_queue.specs.Tally.{count_rows, no_rows}
use Rattle.qq_queue.specs.declared.tally.Tally.{Tally}
use Rattle.qq_queue.proofs.Tallies.{counted-both}
use Rattle.qq_cluster_run.specs.Drilling.{Known, all_rows, drill_text, summary}
use Rattle.qq_cluster_run.specs.Serving.{Run, cluster_in, setup_in}
use Rattle.qq_cluster_run.specs.Setup.{place_of}
use Rattle.qq_cluster_run.proofs.Audits.{audits_by_rows, row_audit}
use Rattle.qq_cluster.specs.declared.nodes.Nodes.{Nodes}
use Rattle.qq_broker.specs.Lives.{Giving}
use Rattle.qq_broker.specs.Nodes.{Holds, MayRun}

-- ---- rows

-- those of a row's queue
abbrev pub row_rows : Cluster → QueueRow → List AuditRow
row_rows c row = audit_rows (c.queue (place_of row))

rows_by_rows : (c : Cluster) (rows : List QueueRow)
    → flat_map (row_rows c) rows ≡ flat_map (λ place. audit_rows (c.queue place)) (map place_of rows)
rows_by_rows c [] = refl
rows_by_rows c (row ∷ rows) = ap (λ (l : List AuditRow). row_rows c row ++ l) (rows_by_rows c rows)

tally-is : (a b c d : ℕ) → a ≡ b → c ≡ d
    → (let t : Tally = record { rows = a; confirmed = c } in t)
    ≡ (let u : Tally = record { rows = b; confirmed = d } in u)
tally-is a b c d p q =
    ap (λ (n : ℕ). let t : Tally = record { rows = n; confirmed = c } in t) p
    ∙ ap (λ (n : ℕ). let t : Tally = record { rows = b; confirmed = n } in t) q

none-counted : (t : Tally) → count_rows [] t ≡ t
none-counted t =
    let rows : t.rows + 0 ≡ t.rows = omega arith in
    let confirmed : t.confirmed + 0 ≡ t.confirmed = omega arith in
    tally-is (t.rows + 0) t.rows (t.confirmed + 0) t.confirmed rows confirmed

all-counted : (rows : List AuditRow) (t : Tally) → t ≡ count_rows rows no_rows
    → (t.rows ≡ length rows) × (t.confirmed ≡ count_by is_confirmed_row rows)
all-counted rows t is =
    let first : 0 + length rows ≡ length rows = omega arith in
    let second : 0 + count_by is_confirmed_row rows ≡ count_by is_confirmed_row rows = omega arith in
    (ap (λ (u : Tally). u.rows) is ∙ first, ap (λ (u : Tally). u.confirmed) is ∙ second)

-- the line of a drill
pub line-is : (number : ℕ) (S : ClusterSetup) (c : Cluster) (k : Known) (t : Tally) (delivered : ℕ) (digest : List ℕ)
    → t ≡ count_rows (all_rows S c) no_rows → delivered ≡ k.delivered → digest ≡ sha256 (k.text ++ audits_text S c)
    → summary number t.rows t.confirmed delivered digest ≡ drill_text number S c k
line-is number S c k t delivered digest counted same digested =
    let counts = all-counted (all_rows S c) t counted in
    ap (λ (n : ℕ). summary number n t.confirmed delivered digest) counts.0
    ∙ ap (λ (n : ℕ). summary number (length (all_rows S c)) n delivered digest) counts.1
    ∙ ap (λ (n : ℕ). summary number (length (all_rows S c)) (count_by is_confirmed_row (all_rows S c)) n digest) same
    ∙ ap
    (λ (l : List ℕ). summary number (length (all_rows S c)) (count_by is_confirmed_row (all_rows S c)) k.delivered l)
    digested

-- ---- a loop over the rows

more-of : (f : QueueRow → List ℕ) (rows : List QueueRow) (i : ℕ) (row : QueueRow) → i < length rows
    → row ≡ get_or rows i row → flat_map f (take (i + 1) rows) ≡ flat_map f (take i rows) ++ f row
more-of f rows i row lt is =
    ap (flat_map f) (take_more rows i row lt ∙ ap (λ (r : QueueRow). take i rows ++ r ∷ []) (sym is))
    ∙ flat_map-append f (take i rows) (row ∷ [])
    ∙ ap (λ (l : List ℕ). flat_map f (take i rows) ++ l) (append-nil (f row))

module _ {D : Type 0} (facts : DiskFacts D) (s : Setup) (held : Nodes D) where
  -- a digest has the audits of the first rows behind what it had
  abbrev pub Digests : (old now : Sha256) (rows : List QueueRow) (i : ℕ) → Type 0
  Digests old now rows i =
      (given : Giving D) (run : Run) (text : List ℕ) → Holds given facts s held run → Holds256 old text
      → Holds256 now (text ++ flat_map (row_audit (cluster_in s run)) (take i rows))

  -- and with the rows of the others a tally has them all
  abbrev pub Tallies : (old now : Tally) (rows : List QueueRow) (i : ℕ) → Type 0
  Tallies old now rows i =
      (given : Giving D) (run : Run) → Holds given facts s held run
      → count_rows (flat_map (row_rows (cluster_in s run)) (drop i rows)) now
      ≡ count_rows (flat_map (row_rows (cluster_in s run)) rows) old

  pub digests-start : (old : Sha256) (rows : List QueueRow) → Digests old old rows 0
  digests-start old rows = λ given run text h so. subst (Holds256 old) (sym (append-nil text)) so

  pub tallies-start : (old : Tally) (rows : List QueueRow) → Tallies old old rows 0
  tallies-start old rows = λ given run h. refl

  pub digests-more : (old mid now : Sha256) (rows : List QueueRow) (i : ℕ) (row : QueueRow) (piece : List ℕ)
      → i < length rows → row ≡ get_or rows i row → Digests old mid rows i
      → ((given : Giving D) (run : Run) → Holds given facts s held run → piece ≡ row_audit (cluster_in s run) row)
      → ((m : List ℕ) → Holds256 mid m → Holds256 now (m ++ piece)) → Digests old now rows (i + 1)
  digests-more old mid now rows i row piece lt is so adds grows = λ given run text h held'.
      (let f = row_audit (cluster_in s run) in
      subst (Holds256 now)
      (append_assoc text (flat_map f (take i rows)) piece
      ∙ ap (λ (l : List ℕ). text ++ (flat_map f (take i rows) ++ l)) (adds given run h)
      ∙ ap (λ (l : List ℕ). text ++ l) (sym (more-of f rows i row lt is)))
      (grows (text ++ flat_map f (take i rows)) (so given run text h held')))

  pub tallies-more : (old mid now : Tally) (rows : List QueueRow) (i : ℕ) (row : QueueRow) → i < length rows
      → row ≡ get_or rows i row → Tallies old mid rows i
      → ((given : Giving D) (run : Run) → Holds given facts s held run
      → now ≡ count_rows (row_rows (cluster_in s run) row) mid) → Tallies old now rows (i + 1)
  tallies-more old mid now rows i row lt is so adds = λ given run h.
      (let f = row_rows (cluster_in s run) in
      let rest : List AuditRow = flat_map f (drop (i + 1) rows) in
      ap (count_rows rest) (adds given run h) ∙ counted-both (f row) rest mid
      ∙ ap (λ (l : List QueueRow). count_rows (flat_map f l) mid)
      (sym (drop_more rows i row lt ∙ ap (λ (r : QueueRow). r ∷ drop (i + 1) rows) (sym is)))
      ∙ so given run h)

  pub digests-end : (old now : Sha256) (rows : List QueueRow) (i : ℕ) → MayRun s → rows ≡ s.queues → length rows ≤ i
      → Digests old now rows i → (given : Giving D) (run : Run) (text : List ℕ)
      → Holds given facts s held run → Holds256 old text
      → Holds256 now (text ++ audits_text (setup_in s run) (cluster_in s run))
  digests-end old now rows i may are le so given run text h was =
      subst (Holds256 now)
      (ap (λ (l : List QueueRow). text ++ flat_map (row_audit (cluster_in s run)) l) (take_all i rows le ∙ are)
      ∙ ap (λ (l : List ℕ). text ++ l) (audits_by_rows s run.logs (cluster_in s run) may)) (so given run text h was)

  pub tallies-end : (old now : Tally) (rows : List QueueRow) (i : ℕ) → rows ≡ s.queues → length rows ≤ i
      → Tallies old now rows i → (given : Giving D) (run : Run) → Holds given facts s held run
      → now ≡ count_rows (all_rows (setup_in s run) (cluster_in s run)) old
  tallies-end old now rows i are le so given run h =
      let f = row_rows (cluster_in s run) in
      sym (none-counted now)
      ∙ ap (λ (l : List QueueRow). count_rows (flat_map f l) now) (sym (drop_all i rows le))
      ∙ so given run h
      ∙ ap (λ (l : List QueueRow). count_rows (flat_map f l) old) are
      ∙ ap (λ (l : List AuditRow). count_rows l old) (rows_by_rows (cluster_in s run) s.queues)
