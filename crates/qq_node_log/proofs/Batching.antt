-- Batches one after the other.
use Rattle.std.proofs.Common.{◌≡◌, ◌≤◌, ◌<◌, ◌+◌, ◌⊎◌, ℕ, zero, suc, Bool, true, false, List, [], ◌∷◌, ◌++◌, length, take, drop, refl, sym, ap, ◌∙◌, subst, arith, take-append-drop, length-append, inl, inr}
use Rattle.std.proofs.lemmas.Bool.{false≢true, lt-ltb}
use Rattle.std.proofs.lemmas.List.Elements.{All-head}
use Rattle.std.proofs.lemmas.List.{take-map, drop-drop, drop-map, length-drop}
use Rattle.std.specs.Global.{Vec}
use Rattle.std.specs.Prelude.{IsTrue, nat_lt}
use Rattle.qq_base.specs.declared.ids.QueueId.{QueueId}
use Rattle.qq_base.specs.declared.memory.Memory.{Memory as MemoryFault}
use Rattle.qq_base.specs.declared.memory.Memory.TheVariants.{Want, Spent}
use Rattle.qq_disk.specs.Disk.{Disk, now}
use Rattle.qq_disk.specs.Facts.{DiskFacts}
use Rattle.qq_disk.specs.Moments.{Adds}
use Rattle.qq_disk.proofs.Moments.{adds-none, adds-then}
use Rattle.qq_disk.proofs.Stored.{still_tells}
use Rattle.qq_log.specs.declared.op.Op.{Op}
use Rattle.qq_lots.specs.Kept.{IsTied, KeepsPromised, LacksRest}
use Rattle.qq_lots.specs.Lots.{Lot, Parts, give_batch, ids_of}
use Rattle.qq_lots.proofs.Writes.{batch-keeps, batch-lacks, lacks-first, lacks-none}
use Rattle.qq_wal.specs.Batch.{AllFitBatch, FitsBatch, IsBatch, encodings}
use Rattle.qq_wal.specs.declared.batch.TheConstants.{BATCH_BYTES, BATCH_OPS}
use Rattle.qq_wal.specs.declared.fault.WalFault.{WalFault}
use Rattle.qq_wal.specs.declared.fault.WalFault.TheVariants.{Disk as DiskFailed, Stopped, TooLarge, Memory}
use Rattle.qq_wal.specs.declared.wal.Wal.{Wal}
use Rattle.qq_wal.specs.Fault.{IsAppendCaused}
use Rattle.qq_wal.specs.Running.{StaysGiving, HoldsAlso}
use Rattle.qq_wal.specs.Wal.{Appends, StaysAppending}
use Rattle.qq_wal_chain.specs.Laws.{op_records}
use Rattle.qq_wal_record.specs.declared.record.LogRecord.{LogRecord}
use Rattle.qq_wal_record.specs.declared.record.LogRecord.TheVariants.{Op as OpRecord}
use Rattle.qq_wal_record.specs.Encoding.{record_encoding}
use Rattle.qq_wal_record.specs.Record.{payload_length}
use Rattle.qq_node_log.specs.Batches.{AppendsFirst, AppendsSome, HoldsWritten, IsBatchOf, IsLong, IsLongWith, IsWriteCaused, StaysWriting}

-- ---- one batch

-- where nothing was taken, nothing waited
none-waits : (lengths : (file : ℕ) (r : LogRecord) → length (record_encoding file r) ≡ 25 + payload_length r) (n : ℕ)
    (waiting : List LogRecord) → AllFitBatch waiting
    → ((0 ≡ length waiting) ⊎ ((0 ≡ BATCH_OPS) ⊎ (BATCH_BYTES < length (encodings n (take 1 waiting)))))
    → waiting ≡ []
none-waits lengths n [] fit most = refl
none-waits lengths n (r ∷ rs) fit (inl none) = absurd (omega (arith, none))
none-waits lengths n (r ∷ rs) fit (inr (inl none)) = absurd (omega (arith, none))
none-waits lengths n (r ∷ rs) fit (inr (inr long)) =
    let first = All-head FitsBatch r rs fit in
    absurd (omega (arith, long, first.1, lengths n r, length-append (record_encoding n r) []))

batch-is : (lengths : (file : ℕ) (r : LogRecord) → length (record_encoding file r) ≡ 25 + payload_length r)
    (n count : ℕ) (waiting : List LogRecord) → AllFitBatch waiting → IsBatch n count waiting
    → IsBatchOf (nat_lt 0 count) waiting count
batch-is lengths n zero waiting fit batch = none-waits lengths n waiting fit batch.most
batch-is lengths n (suc count) waiting fit batch =
    subst (λ (b : Bool). IsBatchOf b waiting (suc count)) (sym (lt-ltb 0 (suc count) (omega arith)))
    (omega (arith, batch.within, length-drop (suc count) waiting))

pub appends-some : {D : Type 0} (facts : DiskFacts D)
    (lengths : (file : ℕ) (r : LogRecord) → length (record_encoding file r) ≡ 25 + payload_length r) (count : ℕ)
    (old new : Wal D) → AllFitBatch old.waiting.items → Appends count old new → new.header.file ≡ old.header.file
    → (IsTrue (facts.tells old.disk)
    → AppendsFirst old.queues.items count old.waiting.items (facts.past old.disk) (facts.past new.disk))
    → AppendsSome facts (nat_lt 0 count) old new
appends-some facts lengths count old new fit a file appended = record {
  count = count;
  batch = batch-is lengths old.header.file count old.waiting.items fit a.batch;
  waiting = a.waiting;
  size = a.size;
  file = file;
  appended = appended;
  going = a.going;
}

-- a batch was taken, so less waits
pub less-waits : {D : Type 0} (facts : DiskFacts D) (more : Bool) (old new : Wal D) → more ≡ true
    → AppendsSome facts more old new → length new.waiting.items < length old.waiting.items
less-waits facts more old new is s =
    omega (
      arith,
      subst (λ (b : Bool). IsBatchOf b old.waiting.items s.count) is s.batch,
      ap length s.waiting,
    )

none-left : (k : ℕ) → drop {A = LogRecord} k [] ≡ []
none-left zero = refl
none-left (suc k) = refl

none-taken : (k : ℕ) → take {A = LogRecord} k [] ≡ []
none-taken zero = refl
none-taken (suc k) = refl

-- nothing was taken, so nothing waits
pub nothing-waits : {D : Type 0} (facts : DiskFacts D) (more : Bool) (old new : Wal D)
    → more ≡ false → AppendsSome facts more old new → new.waiting.items ≡ []
nothing-waits facts more old new is s =
    s.waiting ∙ ap (drop s.count) (subst (λ (b : Bool). IsBatchOf b old.waiting.items s.count) is s.batch)
    ∙ none-left s.count

-- ---- batch after batch

-- so many of what waited are appended: until now each moment kept the promise of all, and the disk lacks the others
abbrev pub Lacks : List QueueId → ℕ → List LogRecord → List Disk → List Disk → Type 0
Lacks queues count waiting old new =
    (ops : List Op) → op_records ops ≡ waiting → (lot : Lot) (parts : Parts) → queues ≡ ids_of lot
    → IsTied lot parts (now old)
    → Adds (KeepsPromised lot (give_batch lot ops parts)) old new
    × LacksRest lot (give_batch lot ops parts) (drop count ops) (now new)

lacks-all : (queues : List QueueId) (waiting : List LogRecord) (past : List Disk) → Lacks queues 0 waiting past past
lacks-all queues waiting past ops is lot parts same tied = (
  adds-none (KeepsPromised lot (give_batch lot ops parts)) past,
  lacks-first lot parts ops (now past) tied,
)

-- the next ops are of what waits next
next-records : (ops : List Op) (count more : ℕ) (waiting : List LogRecord) → op_records ops ≡ waiting
    → op_records (take more (drop count ops)) ≡ take more (drop count waiting)
next-records ops count more waiting is =
    sym (take-map OpRecord more (drop count ops))
    ∙ ap (take more) (sym (drop-map OpRecord count ops) ∙ ap (drop count) is)

-- and with them less is left
lacks-next : (queues : List QueueId) (count more : ℕ) (waiting : List LogRecord) (old mid new : List Disk)
    → Lacks queues count waiting old mid → AppendsFirst queues more (drop count waiting) mid new
    → Lacks queues (count + more) waiting old new
lacks-next queues count more waiting old mid new lacks appends ops is lot parts same tied =
    let next : Parts = give_batch lot ops parts in
    let rest : List Op = drop count ops in
    let before : Adds (KeepsPromised lot next) old mid × LacksRest lot next rest (now mid) =
    lacks ops is lot parts same tied in
    let whole : LacksRest lot next (take more rest ++ drop more rest) (now mid) =
    subst (λ (l : List Op). LacksRest lot next l (now mid)) (sym (take-append-drop more rest)) before.1 in
    let given : StaysGiving (ids_of lot) (take more rest) mid new
    × HoldsAlso (ids_of lot) (take more rest) (now mid) (now new) =
    subst (λ (ids : List QueueId). StaysGiving ids (take more rest) mid new
    × HoldsAlso ids (take more rest) (now mid) (now new)) same
    (appends (take more rest) (next-records ops count more waiting is)) in (
      adds-then (KeepsPromised lot next) old mid new before.0
          (batch-keeps lot next (take more rest) (drop more rest) mid new whole given.0).0,
      subst (λ (l : List Op). LacksRest lot next l (now new)) (drop-drop more count ops)
          (batch-lacks lot next (take more rest) (drop more rest) mid new whole given.0 given.1),
    )

-- some of what waits is appended, and then it fails
some-next : (queues : List QueueId) (count : ℕ) (waiting : List LogRecord) (old mid new : List Disk)
    → Lacks queues count waiting old mid → StaysAppending queues (drop count waiting) mid new
    → StaysWriting queues waiting old new
some-next queues count waiting old mid new lacks stays ops is lot parts same tied =
    let next : Parts = give_batch lot ops parts in
    let rest : List Op = drop count ops in
    let more : ℕ = stays.count in
    let before : Adds (KeepsPromised lot next) old mid × LacksRest lot next rest (now mid) =
    lacks ops is lot parts same tied in
    adds-then (KeepsPromised lot next) old mid new before.0
    (batch-keeps lot next (take more rest) (drop more rest) mid new
    (subst (λ (l : List Op). LacksRest lot next l (now mid)) (sym (take-append-drop more rest)) before.1)
    (subst (λ (ids : List QueueId). StaysGiving ids (take more rest) mid new) same
    (stays.stays (take more rest) (next-records ops count more waiting is)))).0

-- ---- as a loop goes on

-- so many of what waited are appended, and the others wait
pub record Begun {D : Type 0} (facts : DiskFacts D) (old new : Wal D) : Type 0 where
  pub count : ℕ
  pub waiting : new.waiting.items ≡ drop count old.waiting.items
  pub size : new.size ≡ old.size + length (encodings old.header.file (take count old.waiting.items))
  pub file : new.header.file ≡ old.header.file
  pub lacks : IsTrue (facts.tells old.disk)
      → Lacks old.queues.items count old.waiting.items (facts.past old.disk) (facts.past new.disk)

pub begun-none : {D : Type 0} (facts : DiskFacts D) (w : Wal D) → Begun facts w w
begun-none facts w = record {
  count = 0;
  waiting = refl;
  size = omega arith;
  file = refl;
  lacks = λ told. lacks-all w.queues.items w.waiting.items (facts.past w.disk);
}

-- the bytes of some records and of those that follow
encodings-next : (file count more : ℕ) (rs : List LogRecord)
    → length (encodings file (take (count + more) rs))
    ≡ length (encodings file (take count rs)) + length (encodings file (take more (drop count rs)))
encodings-next file zero more rs =
    let same : length (encodings file (take (0 + more) rs)) ≡ length (encodings file (take more (drop 0 rs))) =
    ap (λ (n : ℕ). length (encodings file (take n rs))) (let e : 0 + more ≡ more = omega arith in e) in
    omega (arith, same)
encodings-next file (suc count) more [] =
    let all : length (encodings file (take (suc count + more) [])) ≡ 0 =
    ap (λ (rs : List LogRecord). length (encodings file rs)) (none-taken (suc count + more)) in
    let later : length (encodings file (take more (drop (suc count) []))) ≡ 0 =
    ap (λ (rs : List LogRecord). length (encodings file rs)) (none-taken more) in
    omega (arith, all, later)
encodings-next file (suc count) more (r ∷ rs) =
    let all : length (encodings file (take (suc count + more) (r ∷ rs)))
    ≡ length (record_encoding file r ++ encodings file (take (count + more) rs)) =
    ap (λ (n : ℕ). length (encodings file (take n (r ∷ rs))))
    (let e : suc count + more ≡ suc (count + more) = omega arith in e) in
    let here = length-append (record_encoding file r) (encodings file (take (count + more) rs)) in
    let first : length (encodings file (take (suc count) (r ∷ rs)))
    ≡ length (record_encoding file r) + length (encodings file (take count rs)) =
    length-append (record_encoding file r) (encodings file (take count rs)) in
    let later : length (encodings file (take (count + more) rs))
    ≡ length (encodings file (take count rs)) + length (encodings file (take more (drop (suc count) (r ∷ rs)))) =
    encodings-next file count more rs in
    omega (arith, all, here, first, later)

-- one batch more
pub begun-more : {D : Type 0} (facts : DiskFacts D) (more : Bool) (old mid new : Wal D)
    → mid.queues ≡ old.queues → facts.tells mid.disk ≡ facts.tells old.disk → Begun facts old mid
    → AppendsSome facts more mid new → Begun facts old new
begun-more facts more old mid new queues told b s = record {
  count = b.count + s.count;
  waiting = s.waiting ∙ ap (drop s.count) b.waiting ∙ drop-drop s.count b.count old.waiting.items;
  size = let before = b.size in
      let more = s.size
      ∙ ap (λ (n : ℕ). mid.size + length (encodings n (take s.count mid.waiting.items))) b.file
      ∙ ap (λ (rs : List LogRecord). mid.size + length (encodings old.header.file (take s.count rs))) b.waiting in
      let bytes = encodings-next old.header.file b.count s.count old.waiting.items in
      omega (arith, before, more, bytes);
  file = s.file ∙ b.file;
  lacks = λ tell. lacks-next old.queues.items b.count s.count old.waiting.items
      (facts.past old.disk) (facts.past mid.disk) (facts.past new.disk) (b.lacks tell)
      (subst (λ (ids : List QueueId). AppendsFirst ids s.count (drop b.count old.waiting.items) (facts.past mid.disk)
      (facts.past new.disk)) (ap (λ (q : Vec QueueId). q.items) queues)
      (subst (λ (rs : List LogRecord). AppendsFirst mid.queues.items s.count rs
      (facts.past mid.disk) (facts.past new.disk)) b.waiting (s.appended (still_tells told tell))));
}

no-records : (ops : List Op) → op_records ops ≡ [] → ops ≡ []
no-records [] none = refl
no-records (op ∷ ops) none = absurd cc

-- nothing waits any more
pub begun-all : {D : Type 0} (facts : DiskFacts D) (old new : Wal D) → Begun facts old new
    → new.waiting.items ≡ [] → IsTrue (facts.tells old.disk)
    → HoldsWritten old.queues.items old.waiting.items (facts.past old.disk) (facts.past new.disk)
begun-all facts old new b none tell ops is lot parts same tied =
    lacks-none lot (give_batch lot ops parts) (now (facts.past new.disk))
    (subst (λ (l : List Op). LacksRest lot (give_batch lot ops parts) l (now (facts.past new.disk)))
    (no-records (drop b.count ops)
    (sym (drop-map OpRecord b.count ops) ∙ ap (drop b.count) is ∙ sym b.waiting ∙ none))
    (b.lacks tell ops is lot parts same tied).1)

-- each moment has kept the promise
pub begun-stays : {D : Type 0} (facts : DiskFacts D) (old new : Wal D) → Begun facts old new
    → IsTrue (facts.tells old.disk) → StaysWriting old.queues.items old.waiting.items
    (facts.past old.disk) (facts.past new.disk)
begun-stays facts old new b tell ops is lot parts same tied = (b.lacks tell ops is lot parts same tied).0

-- also where it fails at a later batch
pub begun-some : {D : Type 0} (facts : DiskFacts D) (old mid new : Wal D)
    → mid.queues ≡ old.queues → Begun facts old mid → IsTrue (facts.tells old.disk)
    → StaysAppending mid.queues.items mid.waiting.items (facts.past mid.disk) (facts.past new.disk)
    → StaysWriting old.queues.items old.waiting.items (facts.past old.disk) (facts.past new.disk)
begun-some facts old mid new queues b tell stays =
    some-next old.queues.items b.count old.waiting.items (facts.past old.disk) (facts.past mid.disk)
    (facts.past new.disk) (b.lacks tell)
    (subst (λ (ids : List QueueId). StaysAppending ids (drop b.count old.waiting.items) (facts.past mid.disk)
    (facts.past new.disk)) (ap (λ (q : Vec QueueId). q.items) queues)
    (subst (λ (rs : List LogRecord). StaysAppending mid.queues.items rs
    (facts.past mid.disk) (facts.past new.disk)) b.waiting stays))

-- ---- why it gave up

pub write-caused : {D : Type 0} (faults : D → ℕ) (stopped : Bool) (old new : Wal D) (fault : WalFault)
    → stopped ≡ false → IsAppendCaused stopped old.size (faults old.disk) (faults new.disk) fault
    → IsWriteCaused faults old new fault
write-caused faults stopped old new DiskFailed going cause = cause
write-caused faults stopped old new Stopped going cause = false≢true (sym going ∙ cause)
write-caused faults stopped old new TooLarge going cause = cause
write-caused faults stopped old new (Memory Want) going cause = tt
write-caused faults stopped old new (Memory (Spent number)) going cause =
    let is : number ≡ old.size = cause.0 in
    record {
      count = 0;
      is = omega (arith, is);
      long = let more = cause.1 in omega (arith, is, more);
    }

-- after some batches it is with what they were of
begun-long : {D : Type 0} (facts : DiskFacts D) (old mid : Wal D) → Begun facts old mid → (memory : MemoryFault)
    → IsLong mid mid.waiting.items memory → IsLong old old.waiting.items memory
begun-long facts old mid b Want long = tt
begun-long facts old mid b (Spent number) long =
    let rest = subst (λ (rs : List LogRecord). IsLongWith number mid.size mid.header.file rs) b.waiting long in
    let here = subst (λ (file : ℕ). IsLongWith number mid.size file (drop b.count old.waiting.items)) b.file rest in
    let bytes = encodings-next old.header.file b.count here.count old.waiting.items in
    record {
      count = b.count + here.count;
      is = let is = here.is in let size = b.size in omega (arith, is, size, bytes);
      long = here.long;
    }

pub later-caused : {D : Type 0} (facts : DiskFacts D) (old mid new : Wal D) (fault : WalFault) → Begun facts old mid
    → facts.faults old.disk ≤ facts.faults mid.disk → IsWriteCaused facts.faults mid new fault
    → IsWriteCaused facts.faults old new fault
later-caused facts old mid new DiskFailed b more (inl less) = inl (omega (arith, less, more))
later-caused facts old mid new DiskFailed b more (inr end) = inr end
later-caused facts old mid new Stopped b more cause = cause
later-caused facts old mid new TooLarge b more cause = cause
later-caused facts old mid new (Memory m) b more cause = begun-long facts old mid b m cause
