-- Nodes are opened again.
use Rattle.qq_cluster_model.specs.Outcome.{Outcome}
use Rattle.std.proofs.Common.{◌≡◌, ◌⊎◌, ◌≢◌, ◌<◌, ◌≤◌, ◌+◌, ℕ, zero, suc, Bool, true, false, ◌||◌, List, [], ◌∷◌, length, refl, sym, ap, ◌∙◌, subst, inl, inr, arith}
use Rattle.std.specs.List.{list_any, range_with_len}
use Rattle.std.proofs.lemmas.Bool.{cases_eq, false≢true, or_left, or_right, true≢false}
use Rattle.std.proofs.lemmas.List.Folds.{list_any-append}
use Rattle.qq_base.specs.declared.memory.Memory.{Memory}
use Rattle.qq_disk.specs.Facts.{DiskFacts}
use Rattle.qq_cluster_model.specs.Cluster.{Cluster, ClusterEvent, Setup, cluster_after}
use Rattle.qq_cluster_model.specs.Rules.{ForEach, IsFound, IsNothing, IsOpening, IsRestart, if_so}
use Rattle.qq_cluster_laws.specs.Serves.{fails_at, is_failure_at}
use Rattle.qq_cluster_laws.proofs.Reached.{after-both}
use Rattle.qq_raft_protocol.specs.Facts.{In}
use Rattle.qq_cluster.specs.Nodes.{GaveUp, Served, Stands}
use Rattle.qq_cluster.specs.declared.nodes.Nodes.{Nodes as Held}
use Rattle.qq_cluster.proofs.Stands.{gave_up-first, gave_up-second, serves-means, served-then}
use Rattle.qq_opening.specs.Restarting.{IsReopening, IsRestartedTo, Refuses, all_nodes}
use Rattle.qq_opening.specs.declared.restarting.RestartFault.{RestartFault}
use Rattle.qq_opening.specs.declared.restarting.RestartFault.TheVariants.{Memory as OfMemory}
use Rattle.qq_opening.proofs.Opened.{Opens, total-opens}
use Rattle.qq_opening.proofs.RefusedEach.{gave-spent, refuses-memory}
use Rattle.qq_opening.proofs.RestartRules.{fails-first, has-failed, up-kept}

abbrev pub Restarts : Setup → Cluster → List ClusterEvent → Type 0
Restarts setup = ForEach setup.nodes (IsRestart setup)

-- ---- whether some node is up

any-at : (up : ℕ → Bool) (a n k : ℕ) → a ≤ k → k < a + n → up k ≡ true → list_any up (range_with_len a n) ≡ true
any-at up a zero k low high is = absurd (omega (arith, low, high))
any-at up a (suc n) k low high is =
    by (up a) refl (λ other. any-at up (a + 1) n k (omega (arith, low, other)) (omega (arith, high)) is)
  where
    rest : Bool
    rest = list_any up (range_with_len (a + 1) n)

    by : (b : Bool) → up a ≡ b → ((a ≢ k) → rest ≡ true) → (up a || rest) ≡ true
    by true here next = ap (λ (b : Bool). b || rest) here
    by false here next =
        ap (λ (b : Bool). b || rest) here
        ∙ elim (cases_eq a k) [
          | inl same ↦ absurd (false≢true (sym here ∙ ap up same ∙ is))
          | inr other ↦ next other
        ]

any-none : (up : ℕ → Bool) (a n : ℕ) → ((k : ℕ) → a ≤ k → k < a + n → up k ≡ false)
    → list_any up (range_with_len a n) ≡ false
any-none up a zero each = refl
any-none up a (suc n) each =
    ap (λ (b : Bool). b || list_any up (range_with_len (a + 1) n)) (each a (omega arith) (omega arith))
    ∙ any-none up (a + 1) n (λ k low high. each k (omega (arith, low)) (omega (arith, high)))

-- none of the first so many nodes is up
abbrev pub NoneTo : {D : Type 0} → DiskFacts D → Held D → ℕ → Type 0
NoneTo facts held at =
    (setup : Setup) (c : Cluster) → Stands facts setup held c → (k : ℕ) → 0 < k → k ≤ at → c.up k ≡ false

module _ {D : Type 0} {facts : DiskFacts D} where
  pub one-up : (held : Held D) (at node : ℕ) (setup : Setup) (c : Cluster) → Stands facts setup held c
      → at < length held.nodes.items → node ≡ at + 1 → c.up node ≡ true → true ≡ list_any c.up setup.nodes
  one-up held at node setup c st lt is up =
      sym (ap (list_any c.up) st.set_up.nodes
      ∙ any-at c.up 1 (length held.nodes.items) node (omega (arith, is)) (omega (arith, is, lt)) up)

  pub none-more : (held : Held D) (at node : ℕ) (up : Bool) → NoneTo facts held at → up ≡ false
      → ((setup : Setup) (c : Cluster) → Stands facts setup held c → node ≡ at + 1)
      → ((setup : Setup) (c : Cluster) → Stands facts setup held c → up ≡ c.up node) → NoneTo facts held (at + 1)
  none-more held at node up none down is own setup c st k low high = elim (cases_eq k (at + 1)) [
    | inl last ↦ ap c.up (last ∙ sym (is setup c st)) ∙ sym (own setup c st) ∙ down
    | inr other ↦ none setup c st k low (omega (arith, high, other))
  ]

  pub none-up : (held : Held D) (at : ℕ) (setup : Setup) (c : Cluster) → length held.nodes.items ≤ at
      → NoneTo facts held at → Stands facts setup held c → false ≡ list_any c.up setup.nodes
  none-up held at setup c le none st =
      sym (ap (list_any c.up) st.set_up.nodes
      ∙ any-none c.up 1 (length held.nodes.items) (λ k low high. none setup c st k (omega (arith, low))
      (omega (arith, high, le))))

-- ---- where none is up, each disk has failed

-- a node that is up stays so while nodes are restarted
still-up : (setup : Setup) (k : ℕ) (list : List ℕ) (c : Cluster) (events : List ClusterEvent)
    → ForEach list (IsRestart setup) c events → c.up k ≡ true → (cluster_after c events).up k ≡ true
still-up setup k [] c events none up = ap (λ (l : List ClusterEvent). (cluster_after c l).up k) none ∙ up
still-up setup k (j ∷ list) c events t up =
    ap (λ (l : List ClusterEvent). (cluster_after c l).up k) t.is
    ∙ ap (λ (d : Cluster). d.up k) (after-both c t.early t.late)
    ∙ still-up setup k list (cluster_after c t.early) t.late t.second (elim (cases_eq k j) [
      | inl same ↦ own same (c.up j) (ap c.up (sym same) ∙ up) t.first
      | inr other ↦ up-kept setup k j c t.early t.first other ∙ up
    ])
  where
    own : k ≡ j → (b : Bool) → b ≡ true → if_so b IsNothing (IsFound setup j) c t.early
        → (cluster_after c t.early).up k ≡ true
    own same true is none = ap (λ (l : List ClusterEvent). (cluster_after c l).up k) none ∙ up
    own same false is found = absurd (false≢true is)

pub down-failed : (setup : Setup) (k : ℕ) (list : List ℕ) (c : Cluster) (events : List ClusterEvent)
    → ForEach list (IsRestart setup) c events → In k list → c.up k ≡ false → (cluster_after c events).up k ≡ false
    → fails_at k events ≡ true
down-failed setup k [] c events none there down still = absurd there
down-failed setup k (j ∷ list) c events t there down still =
    ap (fails_at k) t.is
    ∙ list_any-append (is_failure_at k) t.early t.late
    ∙ by
    (λ rest other. down-failed setup k list (cluster_after c t.early) t.late t.second rest
    (up-kept setup k j c t.early t.first other ∙ down) moved)
    (cases_eq k j)
  where
    moved : (cluster_after (cluster_after c t.early) t.late).up k ≡ false
    moved =
        ap (λ (d : Cluster). d.up k) (sym (after-both c t.early t.late))
        ∙ ap (λ (l : List ClusterEvent). (cluster_after c l).up k) (sym t.is) ∙ still

    own : k ≡ j → (b : Bool) → (cluster_after c t.early).up k ≡ b → fails_at k t.early ≡ true
    own same true is =
        absurd (false≢true (sym moved ∙ still-up setup k list (cluster_after c t.early) t.late t.second is))
    own same false is =
        has-failed setup k c t.early (subst (λ (i : ℕ). IsRestart setup i c t.early) (sym same) t.first) down is

    later : In k (j ∷ list) → (k ≢ j) → In k list
    later (inl same) other = absurd (other same)
    later (inr rest) other = rest

    by : (In k list → (k ≢ j) → fails_at k t.late ≡ true) → (k ≡ j) ⊎ (k ≢ j)
        → (fails_at k t.early || fails_at k t.late) ≡ true
    by next (inl same) =
        or_left (fails_at k t.early) (fails_at k t.late) (own same ((cluster_after c t.early).up k) refl)
    by next (inr other) =
        or_right (fails_at k t.early) (fails_at k t.late) (next (later there other) other)

any-down : (up : ℕ → Bool) (list : List ℕ) (k : ℕ) → list_any up list ≡ false → In k list → up k ≡ false
any-down up [] k none there = absurd there
any-down up (j ∷ list) k none there = by (λ so rest. any-down up list k so rest) (up j) refl none there
  where
    by : (list_any up list ≡ false → In k list → up k ≡ false) → (b : Bool) → up j ≡ b
        → (b || list_any up list) ≡ false → In k (j ∷ list) → up k ≡ false
    by next true is so here = absurd (true≢false so)
    by next false is so (inl same) = ap up same ∙ is
    by next false is so (inr rest) = next so rest

pub none-recovered : (setup : Setup) (c : Cluster) (events : List ClusterEvent) → IsReopening false setup c events
    → (k : ℕ) → In k setup.nodes → c.up k ≡ false → fails_at k events ≡ true
none-recovered setup c events so k there down =
    ap (fails_at k) so.is
    ∙ fails-first k so.early so.late
    (down-failed setup k setup.nodes c so.early so.first.restarted there down
    (any-down (cluster_after c so.early).up setup.nodes k so.first.up there))

-- what opening nodes again allows, an opening does
pub reopening-opens : (some : Bool) (setup : Setup) (c : Cluster) (events : List ClusterEvent)
    → IsReopening some setup c events → IsOpening setup c events
reopening-opens some setup c events so =
    record { early = so.early; late = so.late; is = so.is; first = so.first.restarted; second = so.second }

-- ---- the call

module _ {D : Type 0} {facts : DiskFacts D} where
  restarted-to : {old mid : Held D} {before middle : Outcome} (some : Bool)
      → Served facts Restarts old mid before middle
      → ((setup : Setup) (c : Cluster) → Stands facts setup mid c → some ≡ list_any c.up setup.nodes)
      → Served facts (IsRestartedTo some) old mid before middle
  restarted-to some served up = record {
    serves = λ setup c r st. (let s = served.serves setup c r st in
        serves-means s (record {
          restarted = s.did.means;
          up = sym (up setup (cluster_after c s.did.events) s.did.stands);
        }));
  }

  pub reopens : {old mid new : Held D} {before middle later : Outcome} (some : Bool)
      → Served facts Restarts old mid before middle
      → ((setup : Setup) (c : Cluster) → Stands facts setup mid c → some ≡ list_any c.up setup.nodes)
      → Served facts Opens mid new middle later → Served facts (IsReopening some) old new before later
  reopens some first up second =
      served-then {First = IsRestartedTo some} {Second = Opens} (restarted-to some first up) second

  pub reopens-gave_up : {old mid new : Held D} {before middle : Outcome} {memory : Memory}
      → Served facts Restarts old mid before middle → GaveUp facts Opens mid new memory
      → Refuses facts all_nodes IsOpening old new before (OfMemory memory)
  reopens-gave_up first given = refuses-memory (gave_up-second {First = Restarts} {Second = Opens} first given)

  -- a node isn't restarted
  pub reopens-refuses : {old new : Held D} {before : Outcome} {fault : RestartFault}
      → Refuses facts all_nodes Restarts old new before fault → Refuses facts all_nodes IsOpening old new before fault
  reopens-refuses refuses = record {
    gives_up = refuses.gives_up;
    logs = refuses.logs;
    refused = refuses.refused;
    spent = λ number is. (gave_up-first {First = Restarts} {Second = Opens} total-opens
        (gave-spent number refuses is)).spent number refl;
    never = refuses.never;
  }
