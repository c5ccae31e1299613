-- A step of a server that has applied what begins the audit.
use Rattle.std.proofs.Common.{◌≡◌, ℕ, ◌+◌, ◌≤◌, List, [], ◌++◌, length, take, drop, Option, Some, None, sym, ap, subst, ◌∙◌, arith, length-append}
use Rattle.std.specs.Prelude.{⊤}
use Rattle.std.specs.List.{AllByRecursion}
use Rattle.std.proofs.lemmas.List.{length-take-le, take-append-le}
use Rattle.qq_base.specs.Fronts.{IsFront}
use Rattle.qq_base.proofs.Fronts.{front-length}
use Rattle.qq_base.specs.declared.ids.Index.{Index}
use Rattle.qq_entry.specs.declared.command.Entry.{Entry}
use Rattle.qq_log.specs.Log.{LogState}
use Rattle.qq_raft_core.specs.Raft.{server_of}
use Rattle.qq_raft_msg.specs.Queue.{Applied}
use Rattle.qq_raft_protocol.specs.Facts.{In}
use Rattle.qq_raft_model.specs.State.{Server as Raft}
use Rattle.qq_raft.specs.Stands.{state_of}
use Rattle.qq_raft.specs.Step.{ServerState, apply_all, apply_committed, with_raft}
use Rattle.qq_raft.specs.declared.row.AppliedRow.{AppliedRow}
use Rattle.qq_raft.specs.declared.server.Server.{Server}
use Rattle.qq_group.specs.Follows.{HasShownBy, Shows, ShowsNothing}
use Rattle.qq_group_laws.specs.Audited.{AreOfAudit, IsAudited, IsAuditedBy, queue_after, rows_after}
use Rattle.qq_group_laws.proofs.Applying.{In-right, all-applied, all-queue, all-raft, all-rows, on-front, queue-append, rows-append, rows-front, take-front}

-- ---- a longer audit

same-take : (n : ℕ) {was now : List Entry} → n ≤ length was → IsFront was now → take n now ≡ take n was
same-take n {was} {now} le front = ap (take n) front.is ∙ take-append-le n was front.rest le

pub grown : {P Q L : Type 0} (stands : P → Q → Type 0) (step : P → Index → Entry → Applied P) (start : P)
    {was now : List Entry} (s : Server Q L) → IsFront was now → IsAudited stands step start was s
    → IsAudited stands step start now s
grown stands step start {was} {now} s front a =
    let le = a.applied in
    let longer = front-length front in
    record {
      applied = omega (arith, le, longer);
      queue = subst (λ (es : List Entry). stands (queue_after step start 0 es) s.machine)
          (sym (same-take s.applied le front)) a.queue;
      rows = a.rows;
    }

pub grown-by : {P Q L : Type 0} (stands : P → Q → Type 0) (step : P → Index → Entry → Applied P) (start : P)
    {was now : List Entry} (o : Option (Server Q L)) → IsFront was now → IsAuditedBy stands step start was o
    → IsAuditedBy stands step start now o
grown-by stands step start None front a = tt
grown-by stands step start (Some s) front a = grown stands step start s front a

-- ---- one step

-- what a server knows to be committed begins the audit
abbrev pub KnownBy : {Q L : Type 0} → (L → LogState) → List Entry → Option (Server Q L) → Type 0
KnownBy log audit None = ⊤
KnownBy log audit (Some s) = IsFront (take s.raft.commit (log s.raft.log).entries) audit

-- what a step of a server keeps, and shows
pub record Keeps {P Q L : Type 0} (stands : P → Q → Type 0) (step : P → Index → Entry → Applied P) (start : P)
    (audit : List Entry) (o : Option (Server Q L)) (rows : List AppliedRow) : Type 0 where
  pub audited : IsAuditedBy stands step start audit o
  pub rows_are : AreOfAudit step start audit rows

audited-by : {P Q L : Type 0} (stands : P → Q → Type 0) (step : P → Index → Entry → Applied P) (start : P)
    (log : L → LogState) (now : List Entry) (made : ServerState P) (new : Server Q L) (rows : List AppliedRow)
    → Shows stands log made new rows → made.applied ≤ length now
    → queue_after step start 0 (take made.applied now) ≡ made.queue → IsAudited stands step start now new
audited-by {P = P} stands step start log now made new rows s le is =
    let count : new.applied ≡ made.applied = s.applied in
    record {
      applied = omega (arith, count, le);
      queue = subst (λ (q : P). stands q new.machine)
          (sym (ap (λ (n : ℕ). queue_after step start 0 (take n now)) count ∙ is)) s.queue;
      rows = s.none;
    }

none-are : {P : Type 0} (step : P → Index → Entry → Applied P) (start : P) (now : List Entry)
    (rows : List AppliedRow) → rows ≡ [] → AreOfAudit step start now rows
none-are step start now rows none = subst (AreOfAudit step start now) (sym none) tt

-- nothing is applied
still : {P Q L : Type 0} (stands : P → Q → Type 0) (step : P → Index → Entry → Applied P) (start : P)
    (log : L → LogState) {was now : List Entry} (raft : Raft) (old new : Server Q L) (rows : List AppliedRow)
    → IsAudited stands step start was old → IsFront was now
    → Shows stands log (with_raft raft (state_of log (queue_after step start 0 (take old.applied was)) old)) new rows
    → Keeps stands step start now (Some new) rows
still stands step start log {was} {now} raft old new rows a front s =
    let queue = queue_after step start 0 (take old.applied was) in
    let le = a.applied in
    let longer = front-length front in
    record {
      audited = audited-by stands step start log now (with_raft raft (state_of log queue old)) new rows s
          (omega (arith, le, longer)) (ap (queue_after step start 0) (same-take old.applied le front));
      rows_are = none-are step start now rows (s.rows_are ∙ a.rows);
    }

-- what is committed is applied
applies : {P Q L : Type 0} (stands : P → Q → Type 0) (step : P → Index → Entry → Applied P) (start : P)
    (log : L → LogState) {was now : List Entry} (raft : Raft) (old new : Server Q L) (rows : List AppliedRow)
    → IsAudited stands step start was old → IsFront was now
    → IsFront (take new.raft.commit (log new.raft.log).entries) now
    → Shows stands log
    (apply_committed step (with_raft raft (state_of log (queue_after step start 0 (take old.applied was)) old))) new rows
    → Keeps stands step start now (Some new) rows
unfolding apply_committed
applies {P = P} stands step start log {was} {now} raft old new rows a front known_is s =
    let queue = queue_after step start 0 (take old.applied was) in
    let first : ServerState P = with_raft raft (state_of log queue old) in
    let n = old.applied in
    let known = take raft.commit raft.log in
    let es = drop n known in
    let made = apply_all step es first in
    let le : n ≤ length was = a.applied in
    let longer = front-length front in
    let within : n ≤ length now = omega (arith, le, longer) in
    let raft_is : server_of log new.raft ≡ record raft { out = [] } =
    s.raft ∙ ap (λ (r : Raft). record r { out = [] }) (all-raft step es first) in
    let known_now : IsFront known now =
    subst (λ (es : List Entry). IsFront es now) (ap (λ (r : Raft). take r.commit r.log) raft_is) known_is in
    let front_now = on-front n known now within known_now in
    let so_far : length (take n now) ≡ n = length-take-le n now within in
    let more = length-append (take n now) es in
    let applied_is : made.applied ≡ n + length es = all-applied step es first in
    let count : made.applied ≡ length (take n now ++ es) = omega (arith, applied_is, more, so_far) in
    let all_within = front-length front_now in
    let begun : queue_after step start 0 (take n now) ≡ queue =
    ap (queue_after step start 0) (same-take n le front) in
    let index : 0 + length (take n now) ≡ n = omega (arith, so_far) in
    let queue_is : queue_after step start 0 (take made.applied now) ≡ made.queue =
    ap (queue_after step start 0) (take-front made.applied front_now count)
    ∙ queue-append step start 0 (take n now) es
    ∙ ap (λ (m : ℕ). queue_after step (queue_after step start 0 (take n now)) m es) index
    ∙ ap (λ (q : P). queue_after step q n es) begun
    ∙ sym (all-queue step es first) in
    let rows_is : rows_after step start 0 (take n now ++ es)
    ≡ rows_after step start 0 (take n now) ++ rows_after step queue n es =
    rows-append step start 0 (take n now) es
    ∙ ap (λ (m : ℕ). rows_after step start 0 (take n now)
    ++ rows_after step (queue_after step start 0 (take n now)) m es) index
    ∙ ap (λ (q : P). rows_after step start 0 (take n now) ++ rows_after step q n es) begun in
    record {
      audited = audited-by stands step start log now made new rows s (omega (arith, count, all_within)) queue_is;
      rows_are = subst (AreOfAudit step start now) (sym s.rows_are)
          (all-rows step es first (rows_after step start 0 now)
          (subst (AllByRecursion (λ (row : AppliedRow). In row (rows_after step start 0 now))) (sym a.rows) tt)
          (λ row here. rows-front step start 0 row front_now
          (subst (λ (all : List AppliedRow). In row all) (sym rows_is)
          (In-right row (rows_after step start 0 (take n now)) (rows_after step queue n es) here))));
    }

-- ---- a step of a member

-- nothing is shown
pub nothing : {P Q L : Type 0} (stands : P → Q → Type 0) (step : P → Index → Entry → Applied P) (start : P)
    {was now : List Entry} (old new : Option (Server Q L)) (rows : List AppliedRow) → ShowsNothing old new rows
    → IsAuditedBy stands step start was old → IsFront was now → Keeps stands step start now new rows
nothing {Q = Q} {L = L} stands step start {was} {now} old new rows s a front = record {
  audited = subst (λ (o : Option (Server Q L)). IsAuditedBy stands step start now o) (sym s.0)
      (grown-by stands step start old front a);
  rows_are = none-are step start now rows s.1;
}

-- a step in which nothing is applied
pub shown-still : {P Q L : Type 0} (stands : P → Q → Type 0) (step : P → Index → Entry → Applied P) (start : P)
    (log : L → LogState) {was now : List Entry} (f : ServerState P → ServerState P) (raft : Raft → Raft)
    → ((s : ServerState P) → f s ≡ with_raft (raft s.raft) s) → (old new : Option (Server Q L))
    (rows : List AppliedRow) → IsAuditedBy stands step start was old → IsFront was now
    → HasShownBy stands log f old new rows → Keeps stands step start now new rows
shown-still stands step start log f raft is None new rows a front s = nothing stands step start None new rows s a front
shown-still stands step start log f raft is (Some old) None rows a front s = absurd s
shown-still {P = P} stands step start log {was} {now} f raft is (Some old) (Some new) rows a front s =
    let queue = queue_after step start 0 (take old.applied was) in
    still stands step start log (raft (server_of log old.raft)) old new rows a front
    (subst (λ (made : ServerState P). Shows stands log made new rows) (is (state_of log queue old)) (s queue a.queue))

-- one in which what is committed is applied
pub shown-applies : {P Q L : Type 0} (stands : P → Q → Type 0) (step : P → Index → Entry → Applied P) (start : P)
    (log : L → LogState) {was now : List Entry} (f : ServerState P → ServerState P) (raft : Raft → Raft)
    → ((s : ServerState P) → f s ≡ apply_committed step (with_raft (raft s.raft) s)) → (old new : Option (Server Q L))
    (rows : List AppliedRow) → IsAuditedBy stands step start was old → IsFront was now → KnownBy log now new
    → HasShownBy stands log f old new rows → Keeps stands step start now new rows
shown-applies stands step start log f raft is None new rows a front known s =
    nothing stands step start None new rows s a front
shown-applies stands step start log f raft is (Some old) None rows a front known s = absurd s
shown-applies {P = P} stands step start log {was} {now} f raft is (Some old) (Some new) rows a front known s =
    let queue = queue_after step start 0 (take old.applied was) in
    applies stands step start log (raft (server_of log old.raft)) old new rows a front known
    (subst (λ (made : ServerState P). Shows stands log made new rows) (is (state_of log queue old)) (s queue a.queue))
