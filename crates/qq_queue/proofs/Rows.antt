-- The rows that a step of a member shows are those that the definition tells, and so are their effects.
use Rattle.std.proofs.Common.{◌≡◌, ◌⊎◌, ℕ, zero, suc, ◌+◌, ◌-◌, ◌≤◌, Bool, true, false, cond, ◌&&◌, List, [], ◌∷◌, ◌++◌, Option, Some, None, length, take, drop, map, refl, sym, ap, subst, ◌∙◌, inl, inr, arith, append_assoc, append-nil, length-drop, length-take}
use Rattle.std.specs.Prelude.{filter, nat_eq}
use Rattle.std.proofs.Math.ListN.{drop_of_length-le}
use Rattle.std.proofs.lemmas.Bool.{cases_lt}
use Rattle.std.proofs.lemmas.Grind.{flat_map-append}
use Rattle.std.proofs.lemmas.List.{map-append, length-take-le, take-append-le}
use Rattle.qq_base.specs.Fronts.{IsFront}
use Rattle.qq_base.specs.declared.ids.Index.{Index}
use Rattle.qq_entry.specs.declared.audit.AuditRow.{AuditRow}
use Rattle.qq_entry.specs.declared.audit.Effect.{Effect}
use Rattle.qq_entry.specs.declared.command.Entry.{Entry}
use Rattle.qq_entry.specs.declared.queue.QueueArgs.{QueueArgs}
use Rattle.qq_model.specs.Audit.{audit_of, next_index, next_step, state_after}
use Rattle.qq_model.specs.State.{State, empty_queue}
use Rattle.qq_raft_core.specs.Raft.{server_of}
use Rattle.qq_raft_model.specs.Server.{is_ready}
use Rattle.qq_raft_model.specs.State.{Server as Raft}
use Rattle.qq_raft_msg.specs.Queue.{Applied}
use Rattle.qq_queue.proofs.SerialSteps.{step_applied}
use Rattle.qq_raft.specs.Stands.{state_of}
use Rattle.qq_raft.specs.Step.{ServerState, apply_all, apply_committed, apply_next, shown_row, shows, with_raft}
use Rattle.qq_raft.specs.Step.{row_of as applied_row}
use Rattle.qq_raft.specs.declared.row.AppliedRow.{AppliedRow}
use Rattle.qq_group.specs.Follows.{Shows}
use Rattle.qq_group_laws.specs.Audited.{IsAudited, index_behind, queue_after}
use Rattle.qq_cluster_model.specs.Queue.{is_shown, effects_by, own_rows, own_effects, rows_by}
use Rattle.qq_session.specs.Shown.{effects_of_term}
use Rattle.qq_queue.specs.Members.{Member, audit_rows_of, effects_in, own_log, queue_stands, queue_step}

-- ---- what entries make of a queue

pub after-is : (s : State) (es : List Entry) → queue_after queue_step s s.applied es ≡ state_after s es
after-is s [] = refl
after-is s (e ∷ es) =
    let next : State = (next_step s e).state in
    let count : next.applied ≡ s.applied + 1 = step_applied s (next_index s) e in
    ap (λ (n : ℕ). queue_after queue_step next n es) (sym count) ∙ after-is next es

pub applied-after : (s : State) (es : List Entry) → (state_after s es).applied ≡ s.applied + length es
applied-after s [] = omega arith
applied-after s (e ∷ es) =
    let next : State = (next_step s e).state in
    let count : next.applied ≡ s.applied + 1 = step_applied s (next_index s) e in
    let rest : (state_after next es).applied ≡ next.applied + length es = applied-after next es in
    omega (arith, count, rest)

-- the audit behind the rows of the first entries
pub drop-audit : (n : ℕ) (s : State) (es : List Entry)
    → drop n (audit_of s es) ≡ audit_of (state_after s (take n es)) (drop n es)
drop-audit zero s es = refl
drop-audit (suc n) s [] = refl
drop-audit (suc n) s (e ∷ es) = drop-audit n (next_step s e).state es

-- ---- the rows that a server shows of entries

pub all-raft : (step : State → Index → Entry → Applied State) (es : List Entry) (s : ServerState State)
    → (apply_all step es s).raft ≡ s.raft
unfolding apply_next
all-raft step [] s = refl
all-raft step (e ∷ es) s = all-raft step es (apply_next step e s)

pub all-applied : (step : State → Index → Entry → Applied State) (es : List Entry) (s : ServerState State)
    → (apply_all step es s).applied ≡ s.applied + length es
unfolding apply_next
all-applied step [] s = omega arith
all-applied step (e ∷ es) s =
    let rest : (apply_all step es (apply_next step e s)).applied ≡ s.applied + 1 + length es =
    all-applied step es (apply_next step e s) in
    omega (arith, rest)

shown_after : Raft → State → ℕ → List Entry → List AppliedRow
shown_after raft queue n [] = []
shown_after raft queue n (e ∷ es) =
    let made : Applied State = queue_step queue (index_behind n) e in
    shown_row (shows raft e) (index_behind n) e made.fresh made.answer made.effects
    ++ shown_after raft made.state (n + 1) es

all-shown : (es : List Entry) (t : ServerState State)
    → (apply_all queue_step es t).rows ≡ t.rows ++ shown_after t.raft t.queue t.applied es
unfolding apply_next shown_after
all-shown [] t = sym (append-nil t.rows)
all-shown (e ∷ es) t =
    let made : Applied State = queue_step t.queue (index_behind t.applied) e in
    all-shown es (apply_next queue_step e t)
    ∙ append_assoc t.rows
    (shown_row (shows t.raft e) (index_behind t.applied) e made.fresh made.answer made.effects)
    (shown_after t.raft made.state (t.applied + 1) es)

row-shown : (b : Bool) (raft : Raft) (row : AppliedRow) (rest : List AuditRow) → is_shown raft row.row ≡ b
    → map (λ (r : AppliedRow). r.row) (cond b (row ∷ []) []) ++ filter (is_shown raft) rest
    ≡ filter (is_shown raft) (row.row ∷ rest)
row-shown true raft row rest is = rw is refl
row-shown false raft row rest is = rw is refl

shown-rows : (raft : Raft) (s : State) (es : List Entry)
    → audit_rows_of (shown_after raft s s.applied es) ≡ filter (is_shown raft) (audit_of s es)
unfolding shown_after
shown-rows raft s [] = refl
shown-rows raft s (e ∷ es) =
    let made : Applied State = queue_step s (next_index s) e in
    let row : AppliedRow = applied_row (next_index s) e made.fresh made.answer made.effects in
    let next : State = (next_step s e).state in
    let count : next.applied ≡ s.applied + 1 = step_applied s (next_index s) e in
    map-append (λ (r : AppliedRow). r.row)
    (shown_row (shows raft e) (next_index s) e made.fresh made.answer made.effects)
    (shown_after raft next (s.applied + 1) es)
    ∙ ap (λ (n : ℕ). map (λ (r : AppliedRow). r.row) (cond (shows raft e) (row ∷ []) [])
    ++ audit_rows_of (shown_after raft next n es)) (sym count)
    ∙ ap (λ (l : List AuditRow). map (λ (r : AppliedRow). r.row) (cond (shows raft e) (row ∷ []) []) ++ l)
    (shown-rows raft next es)
    ∙ row-shown (shows raft e) raft row (audit_of next es) refl

shown-effects : (raft : Raft) (b : Bool) → is_ready raft ≡ b → (s : State) (es : List Entry)
    → effects_in (shown_after raft s s.applied es) ≡ cond b (effects_of_term raft.term s es) []
unfolding shown_after
shown-effects raft true is s [] = refl
shown-effects raft false is s [] = refl
shown-effects raft b is s (e ∷ es) =
    let made : Applied State = queue_step s (next_index s) e in
    let row : AppliedRow = applied_row (next_index s) e made.fresh made.answer made.effects in
    let next : State = (next_step s e).state in
    let count : next.applied ≡ s.applied + 1 = step_applied s (next_index s) e in
    flat_map-append (λ (r : AppliedRow). r.effects)
    (shown_row (shows raft e) (next_index s) e made.fresh made.answer made.effects)
    (shown_after raft next (s.applied + 1) es)
    ∙ ap (λ (n : ℕ). effects_in (cond (shows raft e) (row ∷ []) []) ++ effects_in (shown_after raft next n es)) (sym count)
    ∙ ap (λ (l : List Effect). effects_in (cond (shows raft e) (row ∷ []) []) ++ l) (shown-effects raft b is next es)
    ∙ by b (nat_eq e.term.0 raft.term.0) is row (effects_of_term raft.term next es)
  where
    by : (ready own : Bool) → is_ready raft ≡ ready → (row : AppliedRow) (rest : List Effect)
        → effects_in (cond (is_ready raft && own) (row ∷ []) []) ++ cond ready rest []
        ≡ cond ready (cond own row.effects [] ++ rest) []
    by true true is row rest = rw is (ap (λ (l : List Effect). l ++ rest) (append-nil row.effects))
    by true false is row rest = rw is refl
    by false own is row rest = rw is refl

-- ---- a step

-- so many entries of an audit begin what is known of a later one, or nothing is known behind so many
known-behind : (n : ℕ) {audit now : List Entry} (known : List Entry) → n ≤ length audit → IsFront audit now
    → IsFront known now → (drop n known ≡ []) ⊎ (take n audit ≡ take n known)
known-behind n {audit} {now} known le grows front =
    elim (cases_lt (length known) n) [
      | inl less ↦ inl (drop_of_length-le known {i = n} (omega (arith, less)))
      | inr more ↦ inr (sym (ap (take n) grows.is ∙ take-append-le n audit grows.rest le)
          ∙ ap (take n) front.is ∙ take-append-le n known front.rest (omega (arith, more)))
    ]

same-behind : {B : Type 0} (f : State → List Entry → List B) → ((s : State) → f s [] ≡ []) → (start : State) (n : ℕ)
    (audit known : List Entry) → (drop n known ≡ []) ⊎ (take n audit ≡ take n known)
    → f (state_after start (take n audit)) (drop n known) ≡ f (state_after start (take n known)) (drop n known)
same-behind f none start n audit known (inl empty) =
    ap (f (state_after start (take n audit))) empty ∙ none (state_after start (take n audit))
    ∙ sym (ap (f (state_after start (take n known))) empty ∙ none (state_after start (take n known)))
same-behind f none start n audit known (inr same) =
    ap (λ (l : List Entry). f (state_after start l) (drop n known)) same

abbrev pub at_rest : Raft → Raft
at_rest raft = record raft { out = [] }

-- a step of a member in which what is committed is applied, to a queue of this state
abbrev pub ShowsStep : State → Member → Member → Raft → List AppliedRow → Type 0
ShowsStep queue old new raft rows =
    Shows queue_stands own_log (apply_committed queue_step (with_raft raft (state_of own_log queue old))) new rows

pub raft-is : (queue : State) (old new : Member) (raft : Raft) (rows : List AppliedRow)
    → ShowsStep queue old new raft rows → server_of own_log new.raft ≡ at_rest raft
unfolding apply_committed
raft-is queue old new raft rows shows =
    shows.raft
    ∙ ap at_rest (all-raft queue_step (drop old.applied (take raft.commit raft.log))
    (with_raft raft (state_of own_log queue old)))

-- a server that has applied what it knew to be committed makes a step, and applies what it knows then
pub record Applies (args : QueueArgs) (audit now : List Entry) (old new : Member) (raft : Raft)
    (rows : List AppliedRow) : Type 0 where
  pub audited : IsAudited queue_stands queue_step (empty_queue args) audit old
  pub current : old.applied ≡ old.raft.commit
  pub grows : IsFront audit now
  pub known : IsFront (take raft.commit raft.log) now
  pub shows : ShowsStep (queue_after queue_step (empty_queue args) 0 (take old.applied audit)) old new raft rows

begun : QueueArgs → List Entry → Member → State
begun args audit old = state_after (empty_queue args) (take old.applied audit)

begun-applied : (args : QueueArgs) (audit : List Entry) (old : Member) → old.applied ≤ length audit
    → (begun args audit old).applied ≡ old.applied
unfolding begun
begun-applied args audit old le =
    let count : (state_after (empty_queue args) (take old.applied audit)).applied ≡ 0 + length (take old.applied audit) =
    applied-after (empty_queue args) (take old.applied audit) in
    let long : length (take old.applied audit) ≡ old.applied = length-take-le old.applied audit le in
    omega (arith, count, long)

rows-shown : (args : QueueArgs) (audit now : List Entry) (old new : Member) (raft : Raft) (rows : List AppliedRow)
    → Applies args audit now old new raft rows
    → rows ≡ shown_after raft (begun args audit old) (begun args audit old).applied
    (drop old.applied (take raft.commit raft.log))
unfolding apply_committed begun
rows-shown args audit now old new raft rows a =
    let start : State = empty_queue args in
    let n : ℕ = old.applied in
    let es : List Entry = drop n (take raft.commit raft.log) in
    let queue : State = queue_after queue_step start 0 (take n audit) in
    let first : ServerState State = with_raft raft (state_of own_log queue old) in
    a.shows.rows_are ∙ all-shown es first
    ∙ ap (λ (l : List AppliedRow). l ++ shown_after raft queue n es) a.audited.rows
    ∙ ap (λ (q : State). shown_after raft q n es) (after-is start (take n audit))
    ∙ ap (λ (k : ℕ). shown_after raft (begun args audit old) k es)
    (sym (begun-applied args audit old a.audited.applied))

rows-told : (args : QueueArgs) (audit now : List Entry) (old new : Member) (raft : Raft) (rows : List AppliedRow)
    → Applies args audit now old new raft rows
    → audit_rows_of rows ≡ own_rows args (server_of own_log old.raft) (at_rest raft)
unfolding begun
rows-told args audit now old new raft rows a =
    let start : State = empty_queue args in
    let n : ℕ = old.applied in
    let known : List Entry = take raft.commit raft.log in
    ap audit_rows_of (rows-shown args audit now old new raft rows a)
    ∙ shown-rows raft (begun args audit old) (drop n known)
    ∙ ap (filter (is_shown raft)) (same-behind audit_of (λ s. refl) start n audit known
    (known-behind n known a.audited.applied a.grows a.known)
    ∙ sym (drop-audit n start known))
    ∙ ap (λ (k : ℕ). filter (is_shown raft) (drop k (audit_of start known))) a.current

effects-told : (args : QueueArgs) (audit now : List Entry) (old new : Member) (raft : Raft) (rows : List AppliedRow)
    → Applies args audit now old new raft rows
    → effects_in rows ≡ own_effects args (server_of own_log old.raft) (at_rest raft)
unfolding begun
effects-told args audit now old new raft rows a =
    let start : State = empty_queue args in
    let n : ℕ = old.applied in
    let known : List Entry = take raft.commit raft.log in
    let told : ℕ → List Effect = λ k.
    effects_of_term raft.term (state_after start (take k known)) (drop k known) in
    ap effects_in (rows-shown args audit now old new raft rows a)
    ∙ shown-effects raft (is_ready raft) refl (begun args audit old) (drop n known)
    ∙ ap (λ (l : List Effect). cond (is_ready raft) l [])
    (same-behind (effects_of_term raft.term) (λ s. refl) start n audit known
    (known-behind n known a.audited.applied a.grows a.known)
    ∙ ap told a.current)

-- what was applied is what is known to be committed
pub applied-all : (args : QueueArgs) (audit now : List Entry) (old new : Member) (raft : Raft) (rows : List AppliedRow)
    → Applies args audit now old new raft rows → old.applied ≤ raft.commit → raft.commit ≤ length raft.log
    → new.applied ≡ new.raft.commit
unfolding apply_committed
applied-all args audit now old new raft rows a rises within =
    let queue : State = queue_after queue_step (empty_queue args) 0 (take old.applied audit) in
    let first : ServerState State = with_raft raft (state_of own_log queue old) in
    let known : List Entry = take raft.commit raft.log in
    let es : List Entry = drop old.applied known in
    let is : new.applied ≡ (apply_all queue_step es first).applied = a.shows.applied in
    let count : (apply_all queue_step es first).applied ≡ old.applied + length es = all-applied queue_step es first in
    let long : length known ≡ raft.commit = length-take-le raft.commit raft.log within in
    let rest : length es ≡ length known - old.applied = length-drop old.applied known in
    let same : new.raft.commit ≡ raft.commit = ap (λ (r : Raft). r.commit) (raft-is queue old new raft rows a.shows) in
    omega (arith, is, count, long, rest, same, rises)

-- the rows and the effects of a step
pub record HasTold (args : QueueArgs) (o p : Option Raft) (rows : List AppliedRow) : Type 0 where
  pub rows_are : audit_rows_of rows ≡ rows_by args o p
  pub effects_are : effects_in rows ≡ effects_by args o p

pub applies-told : (args : QueueArgs) (audit now : List Entry) (old new : Member) (raft : Raft) (rows : List AppliedRow)
    → Applies args audit now old new raft rows
    → HasTold args (Some (server_of own_log old.raft)) (Some (server_of own_log new.raft)) rows
applies-told args audit now old new raft rows a =
    subst (λ (t : Raft). HasTold args (Some (server_of own_log old.raft)) (Some t) rows)
    (sym (raft-is (queue_after queue_step (empty_queue args) 0 (take old.applied audit)) old new raft rows a.shows))
    (record {
      rows_are = rows-told args audit now old new raft rows a;
      effects_are = effects-told args audit now old new raft rows a;
    })

-- ---- a server that stays tells nothing

abbrev no-effects : List Effect
no-effects = []

pub audit-length : (s : State) (es : List Entry) → length (audit_of s es) ≡ length es
audit-length s [] = refl
audit-length s (e ∷ es) =
    let rest : length (audit_of (next_step s e).state es) ≡ length es = audit-length (next_step s e).state es in
    ap suc rest

none-past : {A : Type 0} (n : ℕ) (xs : List A) → length xs ≤ n → drop n xs ≡ []
none-past n xs le = drop_of_length-le xs {i = n} le

-- nothing is behind the first ones of a list
take-most : {A : Type 0} (n : ℕ) (xs : List A) → length (take n xs) ≤ n
take-most n xs = let long = length-take n xs in omega (arith, long)

own-none : (args : QueueArgs) (s : Raft) → own_rows args s s ≡ []
own-none args s =
    let known : List Entry = take s.commit s.log in
    let long : length (audit_of (empty_queue args) known) ≡ length known = audit-length (empty_queue args) known in
    let most : length known ≤ s.commit = take-most s.commit s.log in
    ap (filter (is_shown s)) (none-past s.commit (audit_of (empty_queue args) known) (omega (arith, long, most)))

effects-none : (args : QueueArgs) (s : Raft) → own_effects args s s ≡ []
effects-none args s =
    let known : List Entry = take s.commit s.log in
    let at : State = state_after (empty_queue args) (take s.commit known) in
    ap (λ (l : List Entry). cond (is_ready s) (effects_of_term s.term at l) [])
    (none-past s.commit known (take-most s.commit s.log)) ∙ same-both (is_ready s)
  where
    same-both : (b : Bool) → cond b no-effects no-effects ≡ no-effects
    same-both true = refl
    same-both false = refl

pub none-told : (args : QueueArgs) (o : Option Raft) (rows : List AppliedRow) → rows ≡ [] → HasTold args o o rows
none-told args None rows none = record {
  rows_are = ap (λ (l : List AppliedRow). audit_rows_of l) none;
  effects_are = ap (λ (l : List AppliedRow). effects_in l) none;
}
none-told args (Some s) rows none = record {
  rows_are = ap (λ (l : List AppliedRow). audit_rows_of l) none ∙ sym (own-none args s);
  effects_are = ap (λ (l : List AppliedRow). effects_in l) none ∙ sym (effects-none args s);
}
