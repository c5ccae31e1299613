-- Entries are applied one by one.
use Rattle.std.proofs.Common.{◌≡◌, ◌⊎◌, inl, inr, ℕ, zero, suc, ◌+◌, ◌<◌, ◌≤◌, Bool, List, [], ◌∷◌, ◌++◌, length, take, drop, Option, Some, None, refl, sym, ap, subst, ◌∙◌, arith}
use Rattle.std.specs.Prelude.{slice_get}
use Rattle.std.proofs.lemmas.List.{length-drop, length-take, take_all}
use Rattle.qq_base.specs.Causes.{SpentOnlyWhere}
use Rattle.qq_base.specs.declared.ids.Index.{Index}
use Rattle.qq_base.specs.declared.memory.Memory.{Memory}
use Rattle.qq_base.specs.declared.memory.Memory.TheVariants.{Want, Spent}
use Rattle.qq_entry.specs.declared.answer.Answer.{Answer}
use Rattle.qq_entry.specs.declared.audit.Effect.{Effect}
use Rattle.qq_entry.specs.declared.command.Entry.{Entry}
use Rattle.qq_log.specs.Log.{LogState}
use Rattle.qq_base.specs.declared.memory.TheConstants.{NUMBER_END}
use Rattle.qq_raft_core.proofs.Entries.{slice_get-none-past}
use Rattle.qq_raft_core.specs.Raft.{server_of, IsAtEnd, IsCaused as IsCausedRaft}
use Rattle.qq_raft_core.specs.declared.raft.Raft.{Raft}
use Rattle.qq_raft_msg.specs.Queue.{Applied, IsApplied}
use Rattle.qq_raft_model.specs.State.{Server as RaftState}
use Rattle.qq_raft.specs.Stands.{state_of, Does, IsCaused, IsNext, StandsFor}
use Rattle.qq_raft.specs.Step.{ServerState, shown_row, shows, apply_next, apply_all, apply_committed, unapplied, with_raft, PassesEnd}
use Rattle.qq_raft.specs.declared.row.AppliedRow.{AppliedRow}
use Rattle.qq_raft.specs.declared.server.Server.{Server}

-- ---- lists

-- the items from one place on, up to another
pub get-between : {A : Type 0} (xs : List A) (a c k : ℕ) (x : A) → slice_get xs (a + k) ≡ Some x → a + k < c
    → slice_get (drop a (take c xs)) k ≡ Some x
get-between [] a c k x there lt = absurd cc
get-between (y ∷ ys) a zero k x there lt = absurd (omega (arith, lt))
get-between (y ∷ ys) zero (suc c) zero x there lt = there
get-between (y ∷ ys) zero (suc c) (suc k) x there lt =
    let n : 0 + suc k ≡ suc (0 + k) = omega arith in
    get-between ys 0 c k x (subst (λ m. slice_get (y ∷ ys) m ≡ Some x) n there) (omega (arith, lt))
get-between (y ∷ ys) (suc a) (suc c) k x there lt =
    let n : suc a + k ≡ suc (a + k) = omega arith in
    get-between ys a c k x (subst (λ m. slice_get (y ∷ ys) m ≡ Some x) n there) (omega (arith, lt))

take-next : {A : Type 0} (xs : List A) (k : ℕ) (x : A) → slice_get xs k ≡ Some x → take (k + 1) xs ≡ take k xs ++ x ∷ []
take-next [] k x there = absurd cc
take-next (y ∷ ys) zero x there = ap (λ z. z ∷ []) (cc)
take-next (y ∷ ys) (suc k) x there =
    let n : suc k + 1 ≡ suc (k + 1) = omega arith in
    rw n (ap (λ zs. y ∷ zs) (take-next ys k x there))

-- ---- one entry more

apply-next-last : {P : Type 0} (step : P → Index → Entry → Applied P) (es : List Entry) (e : Entry) (s : ServerState P)
    → apply_all step (es ++ e ∷ []) s ≡ apply_next step e (apply_all step es s)
apply-next-last step [] e s = refl
apply-next-last step (x ∷ es) e s = apply-next-last step es e (apply_next step x s)

pub apply-more :
    {P : Type 0} (step : P → Index → Entry → Applied P) (es : List Entry) (k : ℕ) (e : Entry) (s : ServerState P)
    → slice_get es k ≡ Some e → apply_all step (take (k + 1) es) s ≡ apply_next step e (apply_all step (take k es) s)
apply-more step es k e s there =
    ap (λ xs. apply_all step xs s) (take-next es k e there) ∙ apply-next-last step (take k es) e s

raft-stays : {P : Type 0} (step : P → Index → Entry → Applied P) (e : Entry) (s : ServerState P)
    → (apply_next step e s).raft ≡ s.raft
unfolding apply_next
raft-stays step e s = refl

pub raft-kept : {P : Type 0} (step : P → Index → Entry → Applied P) (es : List Entry) (s : ServerState P)
    → (apply_all step es s).raft ≡ s.raft
raft-kept step [] s = refl
raft-kept step (e ∷ es) s = raft-kept step es (apply_next step e s) ∙ raft-stays step e s

-- ---- what a server stands for

stands-same : {P Q L : Type 0} {stands : P → Q → Type 0} {log : L → LogState} (s : ServerState P) (server : Server Q L)
    → StandsFor stands log s server → state_of log s.queue server ≡ s
stands-same s server f = rw (f.raft, f.applied, f.rows) refl

pub stands-first : {P Q L : Type 0} (stands : P → Q → Type 0) (log : L → LogState) (queue : P) (server : Server Q L)
    → stands queue server.machine → StandsFor stands log (state_of log queue server) server
stands-first stands log queue server f = record { raft = refl; queue = f; applied = refl; rows = refl }

pub stands-more :
    {P Q L : Type 0} (stands : P → Q → Type 0) (log : L → LogState) (step : P → Index → Entry → Applied P)
    (es : List Entry) (k : ℕ) (e : Entry) (s : ServerState P) (now new : Server Q L) → slice_get es k ≡ Some e
    → StandsFor stands log (apply_all step (take k es) s) now → Does stands log (apply_next step e) now new
    → StandsFor stands log (apply_all step (take (k + 1) es) s) new
stands-more stands log step es k e s now new there f more =
    let before = apply_all step (take k es) s in
    subst (λ t. StandsFor stands log t new)
    (ap (apply_next step e) (stands-same before now f) ∙ sym (apply-more step es k e s there))
    (more before.queue f.queue)

-- the first so many of the entries were applied
abbrev pub AppliesFirst : {P Q L : Type 0} → (P → Q → Type 0) → (L → LogState) → (P → Index → Entry → Applied P) → ℕ
    → Server Q L → Server Q L → Type 0
AppliesFirst stands log step n first now =
    (queue : _) → stands queue first.machine
    → StandsFor stands log (apply_all step (take n (unapplied (state_of log queue first))) (state_of log queue first)) now

-- what one entry makes of a server
pub applied-one :
    {P Q L : Type 0} (stands : P → Q → Type 0) (log : L → LogState) (step : P → Index → Entry → Applied P) (queue : P)
    (old new : Server Q L) (e : Entry)
    → server_of log new.raft ≡ server_of log old.raft → new.applied ≡ old.applied + 1
    → IsNext stands (step queue (record { 0 = old.applied + 1 }) e) (record { 0 = old.applied + 1 }) e
    (shows (server_of log old.raft) e) old.rows.items new.rows.items new.machine
    → StandsFor stands log (apply_next step e (state_of log queue old)) new
unfolding apply_next
applied-one stands log step queue old new e raft applied n =
    record { raft = raft; queue = n.queue; applied = applied; rows = n.rows }

pub next-of :
    {P Q : Type 0} (stands : P → Q → Type 0) (made : Applied P) (index : Index) (e : Entry) (shown : Bool)
    (old new : List AppliedRow) (answered : Bool × Answer × List Effect) (machine : Q)
    → IsApplied stands made answered machine
    → new ≡ old ++ shown_row shown index e answered.0 answered.1 answered.2
    → IsNext stands made index e shown old new machine
next-of stands made index e shown old new answered machine a rows =
    record {
      queue = a.next;
      rows =
          rows
          ∙ ap (λ fresh. old ++ shown_row shown index e fresh answered.1 answered.2) a.fresh
          ∙ ap (λ answer. old ++ shown_row shown index e made.fresh answer answered.2) a.answer
          ∙ ap (λ effects. old ++ shown_row shown index e made.fresh made.answer effects) a.effects;
    }

-- ---- what refuses an entry

pub spent-where : (e : Memory) (end : ℕ) (P Q : Type 0) → (P → Q) → SpentOnlyWhere e end P → SpentOnlyWhere e end Q
spent-where Want end P Q weaker s = tt
spent-where (Spent number) end P Q weaker s = (s.0, weaker s.1)

pub passes-at :
    {P : Type 0} (step : P → Index → Entry → Applied P) (passes : P → Index → Entry → Type 0) (es : List Entry) (k : ℕ)
    (e : Entry) (s : ServerState P) → slice_get es k ≡ Some e
    → passes (apply_all step (take k es) s).queue
    (record { 0 = (apply_all step (take k es) s).applied + 1 }) e
    → PassesEnd step passes es s
passes-at step passes [] k e s there past = absurd cc
passes-at step passes (x ∷ es) zero e s there past =
    let same : e ≡ x = cc in
    inl (subst (λ y. passes s.queue (record { 0 = s.applied + 1 }) y) same past)
passes-at step passes (x ∷ es) (suc k) e s there past =
    inr (passes-at step passes es k e (apply_next step x s) there past)

-- ---- how far

next-applied : {P : Type 0} (step : P → Index → Entry → Applied P) (e : Entry) (s : ServerState P)
    → (apply_next step e s).applied ≡ s.applied + 1
unfolding apply_next
next-applied step e s = refl

all-applied : {P : Type 0} (step : P → Index → Entry → Applied P) (es : List Entry) (s : ServerState P)
    → (apply_all step es s).applied ≡ s.applied + length es
all-applied step [] s = omega arith
all-applied step (e ∷ es) s = omega (arith, all-applied step es (apply_next step e s), next-applied step e s)

pub applied-within : {P : Type 0} (step : P → Index → Entry → Applied P) (s : ServerState P) → s.applied ≤ s.raft.commit
    → (apply_committed step s).applied ≤ (apply_committed step s).raft.commit
unfolding apply_committed
applied-within step s le =
    let n = all-applied step (unapplied s) s in
    let r = ap (λ (t : RaftState). t.commit) (raft-kept step (unapplied s) s) in
    let d = length-drop s.applied (take s.raft.commit s.raft.log) in
    let t = length-take s.raft.commit s.raft.log in
    omega (arith, le, n, r, d, t)

pub commit-kept : {P : Type 0} (step : P → Index → Entry → Applied P) (s : ServerState P)
    → (apply_committed step s).raft ≡ s.raft
unfolding apply_committed
commit-kept step s = raft-kept step (unapplied s) s

-- ---- a loop over the entries

-- the entry that was found is the one that is there
pub found-same : (es : List Entry) (k : ℕ) (found e : Entry) → slice_get es k ≡ Some found → slice_get es k ≡ Some e
    → (F : Entry → Type 0) → F found → F e
found-same es k found e is there F f =
    let same : Some found ≡ Some e = sym is ∙ there in
    let equal : found ≡ e = cc in
    subst F equal f

pub first-none :
    {P Q L : Type 0} (stands : P → Q → Type 0) (log : L → LogState) (step : P → Index → Entry → Applied P) (n : ℕ)
    (first : Server Q L) → n ≡ 0 → AppliesFirst stands log step n first first
first-none stands log step n first is = λ queue f.
    let s = state_of log queue first in
    subst (λ m. StandsFor stands log (apply_all step (take m (unapplied s)) s) first) (sym is)
    (stands-first stands log queue first f)

-- what one more entry makes of a server
abbrev pub AppliesNext : {P Q L : Type 0} → (P → Q → Type 0) → (L → LogState) → (P → Index → Entry → Applied P)
    → Server Q L → Server Q L → Type 0
AppliesNext stands log step now new =
    (e : Entry) → slice_get (server_of log now.raft).log now.applied ≡ Some e → Does stands log (apply_next step e) now new

pub first-more :
    {P Q L : Type 0} (stands : P → Q → Type 0) (log : L → LogState) (step : P → Index → Entry → Applied P) (n : ℕ)
    (first now new : Server Q L)
    → now.raft ≡ first.raft → now.applied ≡ first.applied + n → first.applied + n < first.raft.commit
    → first.applied + n < length (log first.raft.log).entries → AppliesFirst stands log step n first now
    → AppliesNext stands log step now new → AppliesFirst stands log step (n + 1) first new
first-more stands log step n first now new raft applied commit last so_far more = λ queue f.
    let s = state_of log queue first in
    let entries = (log first.raft.log).entries in
    by (slice_get entries (first.applied + n)) refl queue f
  where
    by : (o : Option Entry) → slice_get (log first.raft.log).entries (first.applied + n) ≡ o → (queue : _)
        → stands queue first.machine → StandsFor stands log
        (apply_all step (take (n + 1) (unapplied (state_of log queue first))) (state_of log queue first)) new
    by None past queue f = absurd (slice_get-none-past (log first.raft.log).entries (first.applied + n) past last)
    by (Some e) there queue f =
        let s = state_of log queue first in
        let between = get-between (log first.raft.log).entries first.applied first.raft.commit n e there commit in
        let here = ap (λ k. slice_get (log first.raft.log).entries k) applied ∙ there in
        let own = ap (λ r. slice_get (server_of log r).log now.applied) raft ∙ here in
        stands-more stands log step (unapplied s) n e s now new between (so_far queue f) (more e own)

pub first-all :
    {P Q L : Type 0} (stands : P → Q → Type 0) (log : L → LogState) (step : P → Index → Entry → Applied P) (n : ℕ)
    (first now : Server Q L)
    → length (drop first.applied (take first.raft.commit (log first.raft.log).entries)) ≤ n
    → AppliesFirst stands log step n first now → Does stands log (apply_committed step) first now
unfolding apply_committed
first-all stands log step n first now le so_far = λ queue f.
    let s = state_of log queue first in
    subst (λ es. StandsFor stands log (apply_all step es s) now) (take_all n (unapplied s) le) (so_far queue f)

pub first-cause :
    {P Q L : Type 0} (stands : P → Q → Type 0) (log : L → LogState) (step : P → Index → Entry → Applied P)
    (passes : P → Index → Entry → Type 0) (n end : ℕ) (first now : Server Q L) (m : Memory)
    → now.raft ≡ first.raft → now.applied ≡ first.applied + n → first.applied + n < first.raft.commit
    → first.applied + n < length (log first.raft.log).entries → AppliesFirst stands log step n first now
    → ((e : Entry) → slice_get (server_of log now.raft).log now.applied ≡ Some e → (queue : P)
    → stands queue now.machine → SpentOnlyWhere m end (passes queue (record { 0 = now.applied + 1 }) e))
    → (queue : P) → stands queue first.machine
    → SpentOnlyWhere m end (PassesEnd step passes (unapplied (state_of log queue first)) (state_of log queue first))
first-cause stands log step passes n end first now m raft applied commit last so_far cause = λ queue f.
    by (slice_get (log first.raft.log).entries (first.applied + n)) refl queue f
  where
    by : (o : Option Entry) → slice_get (log first.raft.log).entries (first.applied + n) ≡ o → (queue : _)
        → stands queue first.machine → SpentOnlyWhere m end
        (PassesEnd step passes (unapplied (state_of log queue first)) (state_of log queue first))
    by None past queue f = absurd (slice_get-none-past (log first.raft.log).entries (first.applied + n) past last)
    by (Some e) there queue f =
        let s = state_of log queue first in
        let before = apply_all step (take n (unapplied s)) s in
        let between = get-between (log first.raft.log).entries first.applied first.raft.commit n e there commit in
        let here = ap (λ k. slice_get (log first.raft.log).entries k) applied ∙ there in
        let own = ap (λ r. slice_get (server_of log r).log now.applied) raft ∙ here in
        let now_stands = so_far queue f in
        spent-where m end (passes before.queue (record { 0 = now.applied + 1 }) e)
        (PassesEnd step passes (unapplied s) s)
        (λ past. passes-at step passes (unapplied s) n e s between
        (subst (λ k. passes before.queue (record { 0 = k + 1 }) e) now_stands.applied past))
        (cause e own before.queue now_stands.queue)

-- ---- after a step of the Raft part

pub does-after :
    {P Q L : Type 0} (stands : P → Q → Type 0) (log : L → LogState) (step : P → Index → Entry → Applied P)
    (acts : RaftState → RaftState) (old : Server Q L) (raft : Raft L) (new : Server Q L)
    → server_of log raft ≡ acts (server_of log old.raft)
    → Does stands log (apply_committed step) (record old { raft = raft }) new
    → Does stands log (λ s. apply_committed step (with_raft (acts s.raft) s)) old new
does-after stands log step acts old raft new is more = λ queue f.
    subst (λ t. StandsFor stands log (apply_committed step (with_raft t (state_of log queue old))) new) is (more queue f)

pub cause-after :
    {P Q L : Type 0} (stands : P → Q → Type 0) (log : L → LogState) (step : P → Index → Entry → Applied P)
    (passes : P → Index → Entry → Type 0) (acts : RaftState → RaftState) (old : Server Q L) (raft : Raft L) (m : Memory)
    (queue : P) → server_of log raft ≡ acts (server_of log old.raft)
    → SpentOnlyWhere m NUMBER_END (PassesEnd step passes (unapplied (state_of log queue (record old { raft = raft })))
    (state_of log queue (record old { raft = raft })))
    → IsCaused step passes acts (state_of log queue old) m
cause-after stands log step passes acts old raft m queue is cause =
    let s = state_of log queue old in
    let after = with_raft (acts s.raft) s in
    spent-where m NUMBER_END (PassesEnd step passes (unapplied after) after)
    (IsAtEnd s.raft ⊎ PassesEnd step passes (unapplied after) after) (λ p. inr p)
    (subst (λ t. SpentOnlyWhere m NUMBER_END
    (PassesEnd step passes (unapplied (with_raft t s)) (with_raft t s))) is cause)

pub cause-before :
    {P : Type 0} (step : P → Index → Entry → Applied P) (passes : P → Index → Entry → Type 0)
    (acts : RaftState → RaftState) (s : ServerState P) (m : Memory) → IsCausedRaft s.raft m → IsCaused step passes acts s m
cause-before step passes acts s m cause =
    let after = with_raft (acts s.raft) s in
    spent-where m NUMBER_END (IsAtEnd s.raft) (IsAtEnd s.raft ⊎ PassesEnd step passes (unapplied after) after)
    (λ p. inl p) cause
