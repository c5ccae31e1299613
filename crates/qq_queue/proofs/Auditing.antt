-- The rows of entries that a machine applies one after the other.
use Rattle.std.proofs.Common.{◌≡◌, ℕ, ◌+◌, ◌<◌, Bool, true, false, ◌&&◌, List, [], ◌∷◌, ◌++◌, length, take, drop, refl, sym, ap, subst, ◌∙◌, append_assoc, take-append-drop}
use Rattle.std.specs.Prelude.{get_or}
use Rattle.std.specs.List.{flat_map}
use Rattle.std.proofs.lemmas.List.{drop_more, take_more}
use Rattle.qq_base.specs.Causes.{SpentOnlyWhere}
use Rattle.qq_base.specs.declared.memory.Memory.{Memory}
use Rattle.qq_base.specs.declared.memory.Memory.TheVariants.{Want, Spent}
use Rattle.qq_entry.specs.declared.audit.AuditRow.{AuditRow}
use Rattle.qq_entry.specs.declared.command.Entry.{Entry}
use Rattle.qq_laws.proofs.Runs.{after-append}
use Rattle.qq_model.specs.Audit.{audit_of, next_index, next_step, row_of, state_after, stays_within}
use Rattle.qq_model.specs.State.{State, empty_queue, is_within_ends}
use Rattle.qq_entry.specs.declared.queue.QueueArgs.{QueueArgs}
use Rattle.qq_queue.specs.declared.machine_queue.MachineQueue.{MachineQueue}
use Rattle.qq_cluster_model.specs.Queue.{audit_rows}
use Rattle.qq_queue.specs.ClusterQueue.{OfItsQueue}
use Rattle.qq_queue.specs.Members.{queue_applied, queue_stands}
use Rattle.qq_queue.specs.declared.cluster_queue.ClusterQueue.{ClusterQueue}
use Rattle.qq_queue.proofs.Rows.{audit-length}

pub new-applied : (args : QueueArgs) (machine : MachineQueue) → queue_stands (empty_queue args) machine
    → queue_applied machine ≡ 0
new-applied args machine it = sym (ap (λ (t : State). t.applied) it.holds.stands.rest)

-- one more entry was applied
pub state-next : (s : State) (es : List Entry) (i : ℕ) (e : Entry) → i < length es → e ≡ get_or es i e
    → state_after s (take (i + 1) es) ≡ (next_step (state_after s (take i es)) e).state
state-next s es i e lt is =
    ap (state_after s) (take_more es i e lt ∙ ap (λ (x : Entry). take i es ++ x ∷ []) (sym is))
    ∙ after-append s (take i es) (e ∷ [])

drop-next : (es : List Entry) (i : ℕ) (e : Entry) → i < length es → e ≡ get_or es i e
    → drop i es ≡ e ∷ drop (i + 1) es
drop-next es i e lt is = drop_more es i e lt ∙ ap (λ (x : Entry). x ∷ drop (i + 1) es) (sym is)

-- its row stands first of those that are left
pub row-next : (s : State) (es : List Entry) (i : ℕ) (e : Entry) (row : AuditRow) → i < length es → e ≡ get_or es i e
    → row ≡ row_of (next_index (state_after s (take i es))) e (next_step (state_after s (take i es)) e)
    → row ∷ audit_of (state_after s (take (i + 1) es)) (drop (i + 1) es)
    ≡ audit_of (state_after s (take i es)) (drop i es)
row-next s es i e row lt at is =
    let t : State = state_after s (take i es) in
    ap (λ (u : State). row ∷ audit_of u (drop (i + 1) es)) (state-next s es i e lt at)
    ∙ ap (λ (r : AuditRow). r ∷ audit_of (next_step t e).state (drop (i + 1) es)) is
    ∙ ap (audit_of t) (sym (drop-next es i e lt at))

-- its row was added, and those of the others are left
pub rows-next : (text : AuditRow → List ℕ) (s : State) (es : List Entry) (i : ℕ) (e : Entry) (row : AuditRow)
    (out next all : List ℕ) → i < length es → e ≡ get_or es i e
    → row ≡ row_of (next_index (state_after s (take i es))) e (next_step (state_after s (take i es)) e)
    → next ≡ out ++ text row
    → out ++ flat_map text (audit_of (state_after s (take i es)) (drop i es)) ≡ all
    → next ++ flat_map text (audit_of (state_after s (take (i + 1) es)) (drop (i + 1) es)) ≡ all
rows-next text s es i e row out next all lt at is added said =
    let rest : List AuditRow = audit_of (state_after s (take (i + 1) es)) (drop (i + 1) es) in
    ap (λ (l : List ℕ). l ++ flat_map text rest) added
    ∙ append_assoc out (text row) (flat_map text rest)
    ∙ ap (λ (l : List AuditRow). out ++ flat_map text l) (row-next s es i e row lt at is)
    ∙ said

not-within : (s : State) (xs ys : List Entry) (e : Entry)
    → is_within_ends (next_step (state_after s xs) e).state ≡ false → stays_within s (xs ++ e ∷ ys) ≡ false
not-within s [] ys e is = ap (λ (b : Bool). b && stays_within (next_step s e).state ys) is
not-within s (x ∷ xs) ys e is =
    both (is_within_ends (next_step s x).state) (not-within (next_step s x).state xs ys e is)
  where
    both : (a : Bool) {b : Bool} → b ≡ false → (a && b) ≡ false
    both true is = is
    both false is = refl

-- what takes the next one past an end takes them all there
pub spent-at : (s : State) (es : List Entry) (i : ℕ) (e : Entry) (end : ℕ) (fault : Memory) → i < length es
    → e ≡ get_or es i e
    → SpentOnlyWhere fault end (is_within_ends (next_step (state_after s (take i es)) e).state ≡ false)
    → SpentOnlyWhere fault end (stays_within s es ≡ false)
spent-at s es i e end Want lt at because = tt
spent-at s es i e end (Spent number) lt at because = (
  because.0,
  ap (stays_within s) (sym (take-append-drop i es) ∙ ap (λ (l : List Entry). take i es ++ l) (drop-next es i e lt at))
      ∙ not-within s (take i es) (drop (i + 1) es) e because.1,
)

pub spent-want : (fault : Memory) (end : ℕ) (P : Type 0) → fault ≡ Want → SpentOnlyWhere fault end P
spent-want fault end P is = subst (λ (e : Memory). SpentOnlyWhere e end P) (sym is) tt

-- the rows of a queue's audit are those of the group's entries
pub rows-are : (d : ClusterQueue) (entries : List Entry) → entries ≡ d.group.audit.items
    → OfItsQueue d (λ q. audit_rows q ≡ audit_of (empty_queue d.args) entries)
rows-are d entries same = λ sessions q st.
    ap (λ (args : QueueArgs). audit_of (empty_queue args) q.group.audit) st.args
    ∙ ap (audit_of (empty_queue d.args)) (st.group.represents.audit ∙ sym same)

-- the head of an audit, and then its rows
pub audit-shown : (text : AuditRow → List ℕ) (head_of : ℕ → List ℕ) (whole : List AuditRow → List ℕ)
    → ((rows : List AuditRow) → whole rows ≡ head_of (length rows) ++ flat_map text rows)
    → (d : ClusterQueue) (entries : List Entry) (before head after : List ℕ) (count : ℕ)
    → entries ≡ d.group.audit.items → count ≡ length entries → head ≡ before ++ head_of count
    → after ≡ head ++ flat_map text (audit_of (empty_queue d.args) entries)
    → OfItsQueue d (λ q. after ≡ before ++ whole (audit_rows q))
audit-shown text head_of whole parts d entries before head after count same counted begun added = λ sessions q st.
    let rows : List AuditRow = audit_of (empty_queue d.args) entries in
    let are : audit_rows q ≡ rows = rows-are d entries same sessions q st in
    let parted : head_of count ++ flat_map text rows ≡ whole (audit_rows q) =
    ap (λ (k : ℕ). head_of k ++ flat_map text rows) (counted ∙ sym (audit-length (empty_queue d.args) entries))
    ∙ sym (parts rows) ∙ ap whole (sym are) in
    added
    ∙ ap (λ (l : List ℕ). l ++ flat_map text rows) begun
    ∙ append_assoc before (head_of count) (flat_map text rows)
    ∙ ap (λ (l : List ℕ). before ++ l) parted
