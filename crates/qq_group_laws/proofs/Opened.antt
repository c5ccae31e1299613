-- What an opening gives, and why it is refused.
use Rattle.std.proofs.Common.{◌≡◌, ℕ, ◌<◌, ◌≤◌, Bool, true, false, not, cond, List, [], ◌∷◌, length, filter, Option, Some, None, refl, sym, ap, subst, ◌∙◌, inl, inr, arith}
use Rattle.std.specs.Prelude.{take, if◌then◌else◌}
use Rattle.std.proofs.lemmas.Bool.{cond_both, false≢true}
use Rattle.std.proofs.lemmas.List.Sums.{length-filter}
use Rattle.qq_base.specs.declared.ids.NodeId.{NodeId}
use Rattle.qq_base.specs.declared.ids.QueueId.{QueueId}
use Rattle.qq_base.specs.declared.memory.Memory.TheVariants.{Want}
use Rattle.qq_entry.specs.declared.command.Entry.{Entry}
use Rattle.qq_log.specs.Log.{LogState}
use Rattle.qq_log.specs.Stable.{Stable, stable}
use Rattle.qq_raft_protocol.specs.Facts.{In}
use Rattle.qq_raft_model.specs.Group.{Event, Group as GroupState, group_after, happens, may_restart, restart_by}
use Rattle.qq_raft_model.specs.Group.Event.{Restart}
use Rattle.qq_group.specs.Group.{Represents}
use Rattle.qq_group.specs.Opening.{AreFound, IsAllDown, IsOpeningCaused, OpensOver, Start, is_named, missing, restarts_by, restarts_of}
use Rattle.qq_group.specs.declared.group.Group.{Group}
use Rattle.qq_group.specs.declared.opening.GroupFault.{GroupFault}
use Rattle.qq_group.specs.declared.opening.GroupFault.TheVariants.{Memory, Short}

-- ---- restarts leave all but the seats

record Stays (g h : GroupState) : Type 0 where
  queue : h.queue ≡ g.queue
  nodes : h.nodes ≡ g.nodes
  bag : h.bag ≡ g.bag
  audit : h.audit ≡ g.audit

same : (g : GroupState) → Stays g g
same g = record { queue = refl; nodes = refl; bag = refl; audit = refl }

followed : (g h i : GroupState) → Stays g h → Stays h i → Stays g i
followed g h i first second = record {
  queue = second.queue ∙ first.queue;
  nodes = second.nodes ∙ first.nodes;
  bag = second.bag ∙ first.bag;
  audit = second.audit ∙ first.audit;
}

stays-by : (k op : ℕ) (o : Option Stable) (g : GroupState) → Stays g (restart_by k op o g)
stays-by k op None g = same g
stays-by k op (Some state) g = record { queue = refl; nodes = refl; bag = refl; audit = refl }

stays-if : (b : Bool) (k op : ℕ) (o : Option Stable) (g : GroupState)
    → Stays g (if b then restart_by k op o g else g)
stays-if true k op o g = stays-by k op o g
stays-if false k op o g = same g

stays-restarted : (k op : ℕ) (g : GroupState) → Stays g (happens (Restart k op) g)
stays-restarted k op g = stays-if (may_restart k op g) k op (stable (take op (g.seat k).ops)) g

stays-start : {Q L : Type 0} (log : L → LogState) (k : ℕ) (o : Option (Q × L)) (events : List Event) (g : GroupState)
    → ((h : GroupState) → Stays h (group_after h events)) → Stays g (group_after g (restarts_by log k o events))
stays-start log k None events g rest = rest g
stays-start log k (Some s) events g rest =
    let h = happens (Restart k (log s.1).op) g in
    followed g h (group_after h events) (stays-restarted k (log s.1).op g) (rest h)

stays-started : {Q L : Type 0} (log : L → LogState) (starts : List (Start Q L)) (g : GroupState)
    → Stays g (group_after g (restarts_of log starts))
stays-started log [] g = same g
stays-started log (s ∷ starts) g =
    stays-start log s.0.0 s.1 (restarts_of log starts) g (λ h. stays-started log starts h)

pub opened : {Q L : Type 0} (log : L → LogState) (queue : QueueId) (nodes : List NodeId) (audit : List Entry)
    (starts : List (Start Q L)) (group : Group Q L)
    → (g : GroupState) × IsAllDown queue nodes audit g × AreFound log g starts
    → OpensOver log queue nodes audit starts group
    → (g : GroupState) × Represents log g group × (g.queue ≡ queue) × (g.nodes ≡ nodes) × (g.bag ≡ [])
    × (g.audit ≡ audit)
opened log queue nodes audit starts group (g, down, found) opens =
    let stays = stays-started log starts g in (
      group_after g (restarts_of log starts),
      opens g down found,
      stays.queue ∙ down.queue_is,
      stays.nodes ∙ down.nodes_is,
      stays.bag ∙ down.bag,
      stays.audit ∙ down.audit_is,
    )

-- ---- members that aren't named

none-less : 0 < 0 → ⊥
none-less less = omega (arith, less)

some-passes : (p : NodeId → Bool) (nodes : List NodeId) (node : NodeId) → In node nodes → p node ≡ true
    → 0 < length (filter p nodes)
some-passes p [] node here passes = absurd here
some-passes p (n ∷ nodes) node (inl is) passes =
    subst (λ (b : Bool). 0 < length (cond b (n ∷ filter p nodes) (filter p nodes))) (sym (ap p (sym is) ∙ passes))
    (omega arith)
some-passes p (n ∷ nodes) node (inr here) passes =
    cond_both (p n) (n ∷ filter p nodes) (filter p nodes) (λ (ns : List NodeId). 0 < length ns) (λ _. omega arith)
    (λ _. some-passes p nodes node here passes)

one-of : (p : NodeId → Bool) (n : NodeId) (nodes : List NodeId)
    → (0 < length (filter p nodes) → (node : NodeId) × In node nodes × (p node ≡ true)) → (b : Bool) → p n ≡ b
    → 0 < length (cond b (n ∷ filter p nodes) (filter p nodes))
    → (node : NodeId) × In node (n ∷ nodes) × (p node ≡ true)
one-of p n nodes rest true is some = (n, inl refl, is)
one-of p n nodes rest false is some = let found = rest some in (found.0, inr found.1, found.2)

one-passes : (p : NodeId → Bool) (nodes : List NodeId) → 0 < length (filter p nodes)
    → (node : NodeId) × In node nodes × (p node ≡ true)
one-passes p [] some = absurd (none-less some)
one-passes p (n ∷ nodes) some = one-of p n nodes (λ more. one-passes p nodes more) (p n) refl some

from-not : (b : Bool) → not b ≡ true → b ≡ false
from-not true is = absurd (false≢true is)
from-not false is = refl

abbrev unnamed : {Q L : Type 0} → List (Start Q L) → NodeId → Bool
unnamed starts node = not (is_named node starts)

unnamed-counts : {Q L : Type 0} (nodes : List NodeId) (starts : List (Start Q L)) (node : NodeId) → In node nodes
    → is_named node starts ≡ false → 0 < missing nodes starts
unnamed-counts nodes starts node here is =
    subst (λ (n : ℕ). 0 < n) (length-filter (unnamed starts) nodes)
    (some-passes (unnamed starts) nodes node here (ap not is))

unnamed-there : {Q L : Type 0} (nodes : List NodeId) (starts : List (Start Q L)) → 0 < missing nodes starts
    → (node : NodeId) × In node nodes × (is_named node starts ≡ false)
unnamed-there nodes starts some =
    let found = one-passes (unnamed starts) nodes
    (subst (λ (n : ℕ). 0 < n) (sym (length-filter (unnamed starts) nodes)) some) in
    (found.0, found.1, from-not (is_named found.0 starts) found.2)

pub short-caused : {Q L : Type 0} (nodes : List NodeId) (starts : List (Start Q L)) (members : ℕ)
    → IsOpeningCaused nodes starts (Short members)
    → (0 < members) × (members ≤ 255) × ((node : NodeId) × In node nodes × (is_named node starts ≡ false))
short-caused nodes starts members cause = (
  subst (λ (n : ℕ). 0 < n) (sym cause.1) (omega (arith, cause.0)),
  subst (λ (n : ℕ). n ≤ 255) (sym cause.1) (omega arith),
  unnamed-there nodes starts cause.0,
)

pub unnamed-caused : {Q L : Type 0} (nodes : List NodeId) (starts : List (Start Q L)) (node : NodeId)
    (fault : GroupFault) → In node nodes → is_named node starts ≡ false → IsOpeningCaused nodes starts fault
    → (members : ℕ) × (fault ≡ Short members)
unnamed-caused nodes starts node (Short members) here is cause = (members, refl)
unnamed-caused nodes starts node (Memory e) here is cause =
    absurd (none-less (subst (λ (n : ℕ). 0 < n) cause.0 (unnamed-counts nodes starts node here is)))

pub named-caused : {Q L : Type 0} (nodes : List NodeId) (starts : List (Start Q L)) (fault : GroupFault)
    → ((node : NodeId) → In node nodes → is_named node starts ≡ true) → IsOpeningCaused nodes starts fault
    → fault ≡ Memory Want
named-caused nodes starts (Short members) named cause =
    let found = unnamed-there nodes starts cause.0 in
    absurd (false≢true (sym found.2 ∙ named found.0 found.1))
named-caused nodes starts (Memory e) named cause = ap Memory cause.1
