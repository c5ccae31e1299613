-- Files of the chain that are passed, the last one first.
use Rattle.std.proofs.Common.{◌≡◌, ◌≤◌, ◌<◌, ◌-◌, ◌+◌, ℕ, zero, suc, List, [], ◌∷◌, ◌++◌, length, map, take, drop, get_or, Ok, refl, sym, ap, subst, ◌∙◌, arith}
use Rattle.std.proofs.lemmas.List.{length-map, take_more}
use Rattle.std.specs.List.{AllByRecursion, fold}
use Rattle.qq_base.specs.declared.ids.QueueId.{QueueId}
use Rattle.qq_wal_chain.specs.Lanes.{Lanes}
use Rattle.qq_wal.specs.Ranges.{AllRanges}
use Rattle.qq_recover.specs.declared.fault.RecoverFault.{RecoverFault}
use Rattle.qq_recover.specs.declared.file.ChainFile.{ChainFile}
use Rattle.qq_recover.specs.Answer.{Answer, ◌>>=◌, Fails}
use Rattle.qq_recover.specs.Ends.{End, end_of_file}
use Rattle.qq_recover.specs.Replay.{replay_files, replay_records}
use Rattle.qq_recover.proofs.Counted.{fails-then}
use Rattle.qq_recover.proofs.Tables.{replay-last}

pub as-many : (files : List ChainFile) (chain : List End) → map end_of_file files ≡ chain → length files ≡ length chain
as-many files chain are = sym (length-map files end_of_file) ∙ ap length are

ends-by : (files : List ChainFile) (k : ℕ) (d : ChainFile) (e : End) → k < length files
    → end_of_file (get_or files k d) ≡ get_or (map end_of_file files) k e
ends-by [] k d e less = absurd (omega arith)
ends-by (file ∷ files) zero d e less = refl
ends-by (file ∷ files) (suc k) d e less = ends-by files k d e (omega arith)

pub ends-at : (files : List ChainFile) (chain : List End) (k : ℕ) (d : ChainFile) (e : End)
    → map end_of_file files ≡ chain → k < length chain → end_of_file (get_or files k d) ≡ get_or chain k e
ends-at files chain k d e are less =
    ends-by files k d e (omega (arith, as-many files chain are))
    ∙ ap (λ (l : List End). get_or l k e) are

pub get-any : (chain : List End) (k : ℕ) (d e : End) → k < length chain → get_or chain k d ≡ get_or chain k e
get-any [] k d e less = absurd (omega arith)
get-any (x ∷ chain) zero d e less = refl
get-any (x ∷ chain) (suc k) d e less = get-any chain k d e (omega arith)

pub stands-at : (P : ChainFile → Type 0) (files : List ChainFile) (k : ℕ) (d : ChainFile) → AllByRecursion P files
    → k < length files → P (get_or files k d)
stands-at P [] k d all less = absurd (omega arith)
stands-at P (file ∷ files) zero d all less = all.0
stands-at P (file ∷ files) (suc k) d all less = stands-at P files k d all.1 (omega arith)

module _ (queues : List QueueId) (files : List ChainFile) (left : ℕ) (d : ChainFile) (some : 0 < left)
    (within : left ≤ length files) (lanes : Lanes) (all : Answer Lanes)
    (so : replay_files queues (take left files) lanes ≡ all) where
  abbrev file : ChainFile
  file = get_or files (left - 1) d

  split : (replay_records queues file.number file.records lanes >>= replay_files queues (take (left - 1) files)) ≡ all
  split =
      let next : left ≡ left - 1 + 1 = omega (arith, some) in
      sym (replay-last queues (take (left - 1) files) file lanes)
      ∙ ap (λ (l : List ChainFile). replay_files queues l lanes)
      (sym (ap (λ (k : ℕ). take k files) next ∙ take_more files (left - 1) d (omega (arith, some, within))))
      ∙ so

  pub passed-on : (new : Lanes) → replay_records queues file.number file.records lanes ≡ Ok new
      → replay_files queues (take (left - 1) files) new ≡ all
  passed-on new is =
      sym (ap (λ (o : Answer Lanes). o >>= replay_files queues (take (left - 1) files)) is) ∙ split

  pub passed-refused : (e : RecoverFault) → Fails e (replay_records queues file.number file.records lanes)
      → Fails e all
  passed-refused e fails =
      subst (λ (o : Answer Lanes). Fails e o) split
      (fails-then e (replay_records queues file.number file.records lanes)
      (replay_files queues (take (left - 1) files)) fails)
