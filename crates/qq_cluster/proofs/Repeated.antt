-- A rule so many times.
use Rattle.std.proofs.Common.{◌≡◌, ◌<◌, ◌≤◌, ◌+◌, ◌-◌, ℕ, suc, List, [], ◌++◌, refl, sym, subst, arith, append-nil}
use Rattle.qq_base.specs.declared.memory.Memory.{Memory}
use Rattle.qq_disk.specs.Facts.{DiskFacts}
use Rattle.qq_cluster_model.specs.Cluster.{Cluster, ClusterEvent, Setup, cluster_after}
use Rattle.qq_cluster_model.specs.Outcome.{Outcome}
use Rattle.qq_cluster_model.specs.Rules.{Then, Times}
use Rattle.qq_cluster_laws.specs.Serves.{Leads}
use Rattle.qq_cluster_laws.proofs.Serves.{leads-more}
use Rattle.qq_cluster.specs.Nodes.{GaveUp, Served, Stands}
use Rattle.qq_cluster.specs.declared.nodes.Nodes.{Nodes as Held}
use Rattle.qq_cluster.proofs.Stands.{gave_up-first, gave_up-leads, gave_up-weaker, served-both, served-nothing, served-weaker}
use Rattle.qq_cluster.proofs.Total.{Total, total-times}

-- what the times that are left allow, all of them do
abbrev pub TimesIn : ℕ → ℕ → (Cluster → List ClusterEvent → Type 0) → Setup → Cluster → List ClusterEvent → Type 0
TimesIn done count Each setup c = Leads (Times (count - done) Each) (Times count Each) c

left-of : (done count : ℕ) → done < count → count - done ≡ suc (count - (done + 1))
left-of done count lt = omega (arith, lt)

module _ {D : Type 0} {facts : DiskFacts D} (Each : Cluster → List ClusterEvent → Type 0) where
  pub times-start : (count : ℕ) (held : Held D) (outcome : Outcome)
      → Served facts (TimesIn 0 count Each) held held outcome outcome
  times-start count held outcome =
      served-nothing held outcome
      (λ setup c r st late allowed. subst (λ (n : ℕ). Times n Each c late)
      (let e : count - 0 ≡ count = omega arith in e) allowed)

  pub times-more : (done count : ℕ) {old mid new : Held D} {before middle later : Outcome} → done < count
      → Served facts (TimesIn done count Each) old mid before middle → Served facts (λ setup. Each) mid new middle later
      → Served facts (TimesIn (done + 1) count Each) old new before later
  times-more done count lt first second =
      served-both first second
      (λ setup c events others one other. leads-more (Times (count - done) Each) (Times (count - (done + 1)) Each)
      (Times count Each) c events others one
      (λ late allowed. subst (λ (n : ℕ). Times n Each (cluster_after c events) (others ++ late))
      (sym (left-of done count lt))
      (record { early = others; late = late; is = refl; first = other; second = allowed })))

  -- all of them
  pub times-end : (done count : ℕ) {old new : Held D} {before later : Outcome} → count ≤ done
      → Served facts (TimesIn done count Each) old new before later
      → Served facts (λ setup. Times count Each) old new before later
  times-end done count le served =
      served-weaker served
      (λ setup c events r st allowed. subst (Times count Each c) (append-nil events)
      (allowed [] (subst (λ (n : ℕ). Times n Each (cluster_after c events) [])
      (let e : 0 ≡ count - done = omega (arith, le) in e) refl)))

  -- in one of them
  pub times-gave_up : (done count : ℕ) {old mid new : Held D} {before middle : Outcome} {memory : Memory}
      → Total Each → done < count → Served facts (TimesIn done count Each) old mid before middle
      → GaveUp facts (λ setup. Each) mid new memory → GaveUp facts (λ setup. Times count Each) old new memory
  times-gave_up done count total lt first second =
      gave_up-leads {Rest = λ setup. Times (count - done) Each} {Whole = λ setup. Times count Each} first
      (gave_up-weaker {First = λ setup. Then Each (Times (count - (done + 1)) Each)}
      {Whole = λ setup. Times (count - done) Each}
      (λ setup c events r st allowed. subst (λ (n : ℕ). Times n Each c events) (sym (left-of done count lt)) allowed)
      (gave_up-first {First = λ setup. Each} {Second = λ setup. Times (count - (done + 1)) Each}
      (λ setup. total-times (count - (done + 1)) Each total) second))

  -- as often as a cluster says
  pub times-by : (count : ℕ) (often : Cluster → ℕ) {old new : Held D} {before later : Outcome}
      → ((setup : Setup) (c : Cluster) → Stands facts setup old c → count ≡ often c)
      → Served facts (λ setup. Times count Each) old new before later
      → Served facts (λ setup c. Times (often c) Each c) old new before later
  times-by count often is served =
      served-weaker served (λ setup c events r st allowed. subst (λ (n : ℕ). Times n Each c events) (is setup c st) allowed)

  pub times-by_gave_up : (count : ℕ) (often : Cluster → ℕ) {old new : Held D} {memory : Memory}
      → ((setup : Setup) (c : Cluster) → Stands facts setup old c → count ≡ often c)
      → GaveUp facts (λ setup. Times count Each) old new memory
      → GaveUp facts (λ setup c. Times (often c) Each c) old new memory
  times-by_gave_up count often is given =
      gave_up-weaker
      (λ setup c events r st allowed. subst (λ (n : ℕ). Times n Each c events) (is setup c st) allowed) given
