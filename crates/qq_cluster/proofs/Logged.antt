-- A call of a node's log, as one of the node.
use Rattle.std.proofs.Common.{◌≡◌, ◌≢◌, ◌⊎◌, ◌<◌, ℕ, Bool, true, false, List, ◌++◌, Some, None, drop, get_or, length, take, refl, sym, ap, ◌∙◌, subst, inl, inr}
use Rattle.std.proofs.Math.Seq.{take-append_seam}
use Rattle.std.specs.Prelude.{Result, Ok, Err, IfOk, IfErr, IsTrue, slice_get, slice_set}
use Rattle.std.specs.List.{range_with_len}
use Rattle.std.proofs.lemmas.Option.{slice_get-get_or}
use Rattle.qq_base.specs.Causes.{Rose}
use Rattle.qq_base.specs.declared.memory.Memory.{Memory}
use Rattle.qq_disk.specs.Disk.{now}
use Rattle.qq_disk.specs.Facts.{DiskFacts}
use Rattle.qq_cluster_model.specs.Cluster.{Setup}
use Rattle.qq_log.specs.declared.op.Op.{Op}
use Rattle.qq_lots.specs.Lots.{Lot, Parts, give_batch, keep_all}
use Rattle.qq_node_log.specs.Batches.{IsLongIn, IsLongOn}
use Rattle.qq_node_log.specs.Log.{IsLater, disk_in}
use Rattle.qq_node_log.specs.Steps.{CallKeeps, KeepsDisk, MayAppend, MaySync, RunsOn}
use Rattle.qq_node_log.specs.Syncing.{FailsByCount, IsLastIn, IsLastOn, SyncsIn}
use Rattle.qq_node_log.specs.declared.node_log.NodeLog.{NodeLog}
use Rattle.qq_node_log.specs.declared.syncing.SyncOutcome.{SyncOutcome}
use Rattle.qq_node_log.specs.declared.syncing.SyncOutcome.TheVariants.{Whole}
use Rattle.qq_cluster.specs.Logs.{Appends, AppendsInPart, ChangesLog, MayAppendAt, MaySyncAt, NodeTurns, Syncs, SyncsInPart}
use Rattle.qq_cluster.specs.Nodes.{EachHasLog, HaveLogs}
use Rattle.qq_cluster.specs.declared.node.Node.{Node}
use Rattle.qq_cluster.proofs.OneQueue.{set-get, set-long}

some-log : {A : Type 0} (x y : A) → Some x ≡ Some y → x ≡ y
some-log x y e = cc

module _ {D : Type 0} {facts : DiskFacts D} where
  pub own-append : (ops : List Op) (x : Node D) (log : NodeLog D) → MayAppendAt facts ops x → x.log ≡ Some log
      → MayAppend facts ops log
  own-append ops x log may is = subst (MayAppend facts ops) (some-log may.own log (sym may.is ∙ is)) may.may

  pub own-sync : (x : Node D) (log : NodeLog D) → MaySyncAt facts x → x.log ≡ Some log → MaySync facts log
  own-sync x log may is = subst (MaySync facts) (some-log may.own log (sym may.is ∙ is)) may.may

  pub no-append : (ops : List Op) (x : Node D) → MayAppendAt facts ops x → x.log ≡ None → ⊥
  no-append ops x may is = absurd (let e : Some may.own ≡ None = sym may.is ∙ is in cc)

  pub no-sync : (x : Node D) → MaySyncAt facts x → x.log ≡ None → ⊥
  no-sync x may is = absurd (let e : Some may.own ≡ None = sym may.is ∙ is in cc)

module _ {D : Type 0} {facts : DiskFacts D} where
  abbrev changed : {parts : Lot → Parts → Parts} (x : Node D) (before behind : NodeLog D) → x.log ≡ Some before
      → KeepsDisk facts before behind → IsLater facts (disk_in before) (disk_in behind)
      → CallKeeps facts parts before behind → ChangesLog facts parts x (record x { log = Some behind })
  changed x before behind was same later moments = record {
    before = before;
    behind = behind;
    was = was;
    is = refl;
    same = same;
    later = later;
    moments = moments;
  }

  pub appended : (ops : List Op) (x : Node D) (before behind : NodeLog D) (result : Result Bool Memory)
      → x.log ≡ Some before → KeepsDisk facts before behind → IsLater facts (disk_in before) (disk_in behind)
      → CallKeeps facts (λ (lot : Lot). give_batch lot ops) before behind
      → IfOk result (λ (more : Bool). more ≡ true → RunsOn facts (λ (lot : Lot). give_batch lot ops) before behind)
      → IfOk result (λ (more : Bool). more ≡ false → Rose (facts.faults (disk_in before))
      (facts.faults (disk_in behind)))
      → IfOk result (λ (more : Bool). Appends facts ops more x (record x { log = Some behind }))
  appended ops x before behind (Ok more) was same later moments runs failed = record {
    change = changed x before behind was same later moments;
    runs = runs;
    failed = failed;
  }
  appended ops x before behind (Err memory) was same later moments runs failed = tt

  pub appended-spent : (ops : List Op) (x : Node D) (before behind : NodeLog D) (result : Result Bool Memory)
      → x.log ≡ Some before → KeepsDisk facts before behind → IsLater facts (disk_in before) (disk_in behind)
      → CallKeeps facts (λ (lot : Lot). give_batch lot ops) before behind → IfErr result (IsLongIn before ops)
      → (IsTrue (facts.tells (disk_in before))
      → IfErr result (λ (memory : Memory). IsLongOn memory ops (now (facts.past (disk_in before)))))
      → IfErr result (λ (memory : Memory). AppendsInPart facts ops memory x (record x { log = Some behind }))
  appended-spent ops x before behind (Ok more) was same later moments long shown = tt
  appended-spent ops x before behind (Err memory) was same later moments long shown = record {
    change = changed x before behind was same later moments;
    long = long;
    shown = shown;
  }

  pub synced : (x : Node D) (before behind : NodeLog D) (result : Result SyncOutcome Memory) → x.log ≡ Some before
      → KeepsDisk facts before behind → IsLater facts (disk_in before) (disk_in behind)
      → CallKeeps facts (λ (lot : Lot) (parts : Parts). parts) before behind
      → IfOk result (λ (outcome : SyncOutcome). outcome ≡ Whole → RunsOn facts (λ (lot : Lot). keep_all) before behind)
      → IfOk result (λ (outcome : SyncOutcome). SyncsIn facts outcome before behind)
      → IfOk result (FailsByCount (facts.faults (disk_in before)) (facts.faults (disk_in behind)))
      → IfOk result (λ (outcome : SyncOutcome). Syncs facts outcome x (record x { log = Some behind }))
  synced x before behind (Ok outcome) was same later moments runs come failed = record {
    change = changed x before behind was same later moments;
    runs = runs;
    come = come;
    failed = failed;
  }
  synced x before behind (Err memory) was same later moments runs come failed = tt

  pub synced-spent : (x : Node D) (before behind : NodeLog D) (result : Result SyncOutcome Memory) → x.log ≡ Some before
      → KeepsDisk facts before behind → IsLater facts (disk_in before) (disk_in behind)
      → CallKeeps facts (λ (lot : Lot) (parts : Parts). parts) before behind → IfErr result (IsLastIn before)
      → (IsTrue (facts.tells (disk_in before))
      → IfErr result (λ (memory : Memory). IsLastOn memory (now (facts.past (disk_in before)))))
      → IfErr result (λ (memory : Memory). SyncsInPart facts memory x (record x { log = Some behind }))
  synced-spent x before behind (Ok outcome) was same later moments last shown = tt
  synced-spent x before behind (Err memory) was same later moments last shown = record {
    change = changed x before behind was same later moments;
    last = last;
    shown = shown;
  }

-- ---- each node has its log

-- where one node has another one
pub each-with : {D : Type 0} (olds news : List (Node D)) (at : ℕ) (y : Node D) (behind : NodeLog D)
    → news ≡ slice_set olds at y → y.log ≡ Some behind → EachHasLog olds → EachHasLog news
each-with {D} olds news at y behind is own each i z there =
    by (set-get olds at i y z (ap (λ (l : List (Node D)). slice_get l i) (sym is) ∙ there))
  where
    by : ((i ≡ at) × (z ≡ y)) ⊎ ((i ≢ at) × (slice_get olds i ≡ Some z))
        → (log : NodeLog D) × (z.log ≡ Some log)
    by (inl same) = (behind, ap (λ (n : Node D). n.log) same.1 ∙ own)
    by (inr other) = each i z other.1

pub logs-with : {D : Type 0} (setup : Setup) (olds news : List (Node D)) (at : ℕ) (y : Node D) (behind : NodeLog D)
    → news ≡ slice_set olds at y → y.log ≡ Some behind → HaveLogs setup olds → HaveLogs setup news
logs-with setup olds news at y behind is own logs = record {
  nodes_are = logs.nodes_are ∙ ap (range_with_len 1) (sym (ap length is ∙ set-long olds at y));
  each = each-with olds news at y behind is own logs.each;
}

-- ---- the node at an index

pub node-turns : {D : Type 0} (P : Node D → Node D → Type 0) (at : ℕ) (nodes : List (Node D)) (x new : Node D)
    → at < length nodes → P (get_or nodes at x) new → NodeTurns P at nodes (slice_set nodes at new)
node-turns P at nodes x new lt turns = record {
  old = get_or nodes at x;
  new = new;
  here = slice_get-get_or nodes at x lt;
  is = refl;
  turns = turns;
}

take-whole : {A : Type 0} (n : ℕ) (xs ys : List A) → length xs ≡ n → take n (xs ++ ys) ≡ xs
take-whole n xs ys e = subst (λ (m : ℕ). take m (xs ++ ys) ≡ xs) e (take-append_seam xs ys)

-- a vector's nodes are those of its slice
pub turns-back : {D : Type 0} (P : Node D → Node D → Type 0) (at : ℕ) (items nodes news : List (Node D)) (count : ℕ)
    → nodes ≡ items → length nodes ≡ count → NodeTurns P at nodes news
    → NodeTurns P at items (take count (news ++ drop (length news) items))
turns-back P at items nodes news count is many turn = record {
  old = turn.old;
  new = turn.new;
  here = subst (λ (l : List (Node _)). slice_get l at ≡ Some turn.old) is turn.here;
  is = take-whole count news (drop (length news) items) (ap length turn.is ∙ set-long nodes at turn.new ∙ many)
      ∙ turn.is ∙ ap (λ (l : List (Node _)). slice_set l at turn.new) is;
  turns = turn.turns;
}
