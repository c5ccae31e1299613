-- Ops that come to a state: changes that do nothing, and one that has it all.
use Rattle.std.proofs.Common.{◌≡◌, ◌+◌, ℕ, zero, suc, true, eqb, List, [], ◌∷◌, ◌++◌, Option, Some, None, refl, sym, ap, ◌∙◌, arith}
use Rattle.std.specs.List.{AllByRecursion}
use Rattle.std.proofs.lemmas.Bool.{cond-true, eq-eqb}
use Rattle.qq_base.proofs.Lists.{AllByRecursion-append}
use Rattle.qq_base.specs.declared.ids.NodeId.{NodeId}
use Rattle.qq_base.specs.declared.ids.QueueId.{QueueId}
use Rattle.qq_base.specs.declared.ids.Term.{Term}
use Rattle.qq_entry.specs.declared.command.Entry.{Entry}
use Rattle.qq_log.specs.Stable.{Stable, act, apply_op, change, known_entries, may_keep, new_state, stable, then_apply}
use Rattle.qq_log.specs.declared.op.Op.{Op}
use Rattle.qq_log.specs.declared.op.Op.TheVariants.{Change}
use Rattle.qq_raft_model.specs.Handing.{plain_state}
use Rattle.qq_raft_model.proofs.Handing.{stable-more}
use Rattle.qq_cluster_laws.specs.Waiting.{IsChangeOf}
use Rattle.qq_opening.specs.Opened.{IsOfOpsState}
use Rattle.qq_opening.specs.Opening.{told_of}

abbrev pub no_term : Term
no_term = record { 0 = 0 }

-- a change that cuts nothing and adds these to a log without entries
changed : (id : QueueId) (op : ℕ) (term : Term) (vote : Option NodeId) (entries : List Entry)
    → apply_op (plain_state op no_term None []) (Change id (op + 1) term vote (record { 0 = 0 }) entries)
    ≡ Some (plain_state (op + 1) term vote entries)
unfolding apply_op change
changed id op term vote entries =
    let next : Stable = plain_state (op + 1) no_term None [] in
    let o : Op = Change id (op + 1) term vote (record { 0 = 0 }) entries in
    let keeps : may_keep next 0 ≡ true = refl in
    cond-true (eqb (op + 1) (op + 1)) (act next o) None (eq-eqb (op + 1) (op + 1) refl)
    ∙ cond-true (may_keep next 0) (Some (change next term vote 0 entries)) None keeps

-- ---- changes that do nothing

abbrev pub idle : QueueId → ℕ → Op
idle id n = Change id n no_term None (record { 0 = 0 }) []

abbrev pub idles : QueueId → ℕ → List Op
idles id zero = []
idles id (suc n) = idles id n ++ idle id (n + 1) ∷ []

idles-come : (id : QueueId) (n : ℕ) → stable (idles id n) ≡ Some (plain_state n no_term None [])
idles-come id zero = refl
idles-come id (suc n) =
    stable-more (idles id n) (idle id (n + 1))
    ∙ ap (λ (o : Option Stable). then_apply o (idle id (n + 1))) (idles-come id n)
    ∙ changed id n no_term None []
    ∙ ap (λ (m : ℕ). Some (plain_state m no_term None [])) (let e : n + 1 ≡ suc n = omega arith in e)

idles-own : (id : QueueId) (n : ℕ) → AllByRecursion (IsChangeOf id) (idles id n)
idles-own id zero = tt
idles-own id (suc n) =
    AllByRecursion-append (IsChangeOf id) (idles id n) (idle id (n + 1) ∷ []) (idles-own id n) (refl, tt)

-- ---- and one that has it all

abbrev pub ops_of : QueueId → ℕ → Term → Option NodeId → List Entry → List Op
ops_of id zero term vote entries = []
ops_of id (suc n) term vote entries = idles id n ++ Change id (n + 1) term vote (record { 0 = 0 }) entries ∷ []

ops-come : (id : QueueId) (n : ℕ) (term : Term) (vote : Option NodeId) (entries : List Entry)
    → (n ≡ 0 → plain_state n term vote entries ≡ new_state)
    → stable (ops_of id n term vote entries) ≡ Some (plain_state n term vote entries)
ops-come id zero term vote entries unused = ap (λ (s : Stable). Some s) (sym (unused refl))
ops-come id (suc n) term vote entries unused =
    stable-more (idles id n) (Change id (n + 1) term vote (record { 0 = 0 }) entries)
    ∙ ap (λ (o : Option Stable). then_apply o (Change id (n + 1) term vote (record { 0 = 0 }) entries))
    (idles-come id n)
    ∙ changed id n term vote entries
    ∙ ap (λ (m : ℕ). Some (plain_state m term vote entries)) (let e : n + 1 ≡ suc n = omega arith in e)

ops-own : (id : QueueId) (n : ℕ) (term : Term) (vote : Option NodeId) (entries : List Entry)
    → AllByRecursion (IsChangeOf id) (ops_of id n term vote entries)
ops-own id zero term vote entries = tt
ops-own id (suc n) term vote entries =
    AllByRecursion-append (IsChangeOf id) (idles id n) (Change id (n + 1) term vote (record { 0 = 0 }) entries ∷ [])
    (idles-own id n) (refl, tt)

-- ---- the ops of a state

abbrev pub state_ops : QueueId → Stable → List Op
state_ops id s = ops_of id s.op s.term s.vote (known_entries s.log)

-- a state that ops may come to is a plain one, as far as its lane tells
pub told-plain : (s : Stable) → IsOfOpsState s
    → told_of s ≡ plain_state s.op s.term s.vote (known_entries s.log)
told-plain s of_ops = λ i. record {
  op = s.op;
  term = s.term;
  vote = s.vote;
  base = of_ops.base i;
  snapshot = 0;
  log = of_ops.known i;
  segments = of_ops.segments i;
}

pub state-come : (id : QueueId) (s : Stable) → IsOfOpsState s → stable (state_ops id s) ≡ Some (told_of s)
state-come id s of_ops =
    ops-come id s.op s.term s.vote (known_entries s.log)
    (λ none. sym (told-plain s of_ops) ∙ of_ops.unused none)
    ∙ ap (λ (u : Stable). Some u) (sym (told-plain s of_ops))

pub state-own : (id : QueueId) (s : Stable) → AllByRecursion (IsChangeOf id) (state_ops id s)
state-own id s = ops-own id s.op s.term s.vote (known_entries s.log)
