-- Why a call gives up.
use Rattle.std.proofs.Common.{◌≡◌, ℕ, ◌<◌, true, false, List, [], ◌∷◌, ◌++◌, length, Option, refl, sym, ap, ◌∙◌, arith, inl, inr}
use Rattle.std.proofs.lemmas.Bool.{false≢true}
use Rattle.qq_base.specs.declared.ids.Index.{Index}
use Rattle.qq_base.specs.declared.ids.NodeId.{NodeId}
use Rattle.qq_base.specs.declared.memory.Memory.{Memory as Cause}
use Rattle.qq_base.specs.declared.memory.Memory.TheVariants.{Want, Spent}
use Rattle.qq_base.specs.declared.memory.TheConstants.{NUMBER_END}
use Rattle.qq_entry.specs.declared.command.Entry.{Entry}
use Rattle.qq_raft_core.specs.Raft.{IsAtEnd, IsCaused as IsCausedRaft}
use Rattle.qq_raft_msg.specs.Queue.{Applied}
use Rattle.qq_raft_model.specs.Server.{is_ready}
use Rattle.qq_raft_model.specs.State.{Server as Raft}
use Rattle.qq_raft.specs.declared.fault.SubmitFault.{SubmitFault}
use Rattle.qq_raft.specs.declared.fault.SubmitFault.TheVariants.{NotLeader, Memory}
use Rattle.qq_raft.specs.Stands.{IsCaused, IsRefused}
use Rattle.qq_raft.specs.Step.{PassesEnd, ServerState, apply_all, apply_next, next_index, unapplied, with_raft}

-- ---- numbers of the Raft part

below-end : {n end : ℕ} → n < end → n ≡ end → ⊥
below-end less is = omega (arith, less, is)

none-ends : (s : Raft) → s.op < NUMBER_END → s.term.0 < NUMBER_END → length s.log < NUMBER_END → IsAtEnd s → ⊥
none-ends s op term log (inl ends) = below-end op ends
none-ends s op term log (inr (inl ends)) = below-end term ends
none-ends s op term log (inr (inr ends)) = below-end log ends

pub wants-memory : (s : Raft) (e : Cause) → s.op < NUMBER_END → s.term.0 < NUMBER_END → length s.log < NUMBER_END
    → IsCausedRaft s e → e ≡ Want
wants-memory s Want op term log cause = refl
wants-memory s (Spent number) op term log (is, ends) = absurd (none-ends s op term log ends)

-- ---- commands

pub names-leader : (s : Raft) (fault : SubmitFault) → is_ready s ≡ false → IsRefused s fault
    → fault ≡ NotLeader s.leader
names-leader s (NotLeader hint) none (unready, is) = ap (λ (h : Option NodeId). NotLeader h) is
names-leader s (Memory e) none (ready, cause) = absurd (false≢true (sym none ∙ ready))

pub refuses-memory : (s : Raft) (fault : SubmitFault) → is_ready s ≡ true → s.op < NUMBER_END
    → s.term.0 < NUMBER_END → length s.log < NUMBER_END → IsRefused s fault → fault ≡ Memory Want
refuses-memory s (NotLeader hint) ready op term log (unready, is) = absurd (false≢true (sym unready ∙ ready))
refuses-memory s (Memory e) ready op term log (is, cause) =
    ap (λ (c : Cause). Memory c) (wants-memory s e op term log cause)

-- ---- entries of the queue

-- the first of the entries that would pass an end, and what stands around it
pub found-past : {P : Type 0} (step : P → Index → Entry → Applied P) (passes : P → Index → Entry → Type 0)
    (entries : List Entry) (s : ServerState P) → PassesEnd step passes entries s
    → (before : List Entry) × (e : Entry) × (behind : List Entry) × (entries ≡ before ++ e ∷ behind)
    × passes (apply_all step before s).queue (next_index (apply_all step before s)) e
found-past step passes [] s past = absurd past
found-past step passes (e ∷ entries) s (inl here) = ([], e, entries, refl, here)
found-past step passes (e ∷ entries) s (inr later) =
    let at = found-past step passes entries (apply_next step e s) later in
    (e ∷ at.0, at.1, at.2, ap (λ (es : List Entry). e ∷ es) at.3, at.4)

pub comes-past : {P : Type 0} (step : P → Index → Entry → Applied P) (passes : P → Index → Entry → Type 0)
    (before : List Entry) (e : Entry) (behind : List Entry) (s : ServerState P)
    → passes (apply_all step before s).queue (next_index (apply_all step before s)) e
    → PassesEnd step passes (before ++ e ∷ behind) s
comes-past step passes [] e behind s past = inl past
comes-past step passes (b ∷ before) e behind s past =
    inr (comes-past step passes before e behind (apply_next step b s) past)

never-past : {P : Type 0} (step : P → Index → Entry → Applied P) (passes : P → Index → Entry → Type 0)
    (entries : List Entry) (s : ServerState P)
    → ((queue : P) (index : Index) (e : Entry) → passes queue index e → ⊥) → PassesEnd step passes entries s → ⊥
never-past step passes entries s never past =
    let at = found-past step passes entries s past in
    never (apply_all step at.0 s).queue (next_index (apply_all step at.0 s)) at.1 at.4

pub applies-want : {P : Type 0} (step : P → Index → Entry → Applied P) (passes : P → Index → Entry → Type 0)
    (acts : Raft → Raft) (s : ServerState P) (e : Cause) → s.raft.op < NUMBER_END → s.raft.term.0 < NUMBER_END
    → length s.raft.log < NUMBER_END → ((queue : P) (index : Index) (x : Entry) → passes queue index x → ⊥)
    → IsCaused step passes acts s e → e ≡ Want
applies-want step passes acts s Want op term log never cause = refl
applies-want step passes acts s (Spent number) op term log never (is, inl ends) =
    absurd (none-ends s.raft op term log ends)
applies-want step passes acts s (Spent number) op term log never (is, inr past) =
    let after = with_raft (acts s.raft) s in
    absurd (never-past step passes (unapplied after) after never past)
