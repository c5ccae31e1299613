-- What recovery gives, in the words of a log's parts.
use Rattle.std.proofs.Common.{◌≡◌, ◌+◌, ◌||◌, ℕ, Bool, true, List, [], ◌∷◌, Option, Some, None, eqb, map, option_map, refl, sym, ap, ◌∙◌, subst, take, length, arith, unwrap_or}
use Rattle.std.specs.Global.{Vec}
use Rattle.std.specs.Prelude.{Ok, IfSome, IsTrue}
use Rattle.std.specs.List.{AllByRecursion}
use Rattle.std.proofs.lemmas.Bool.{eq-eqb, or_right}
use Rattle.std.proofs.lemmas.List.{length-map}
use Rattle.qq_base.proofs.Lists.{AllByRecursion-weaker}
use Rattle.qq_base.specs.Fronts.{IsFront}
use Rattle.qq_base.specs.declared.ids.QueueId.{QueueId}
use Rattle.qq_base.specs.declared.memory.Memory.{Memory}
use Rattle.qq_disk.specs.Crash.{Remains}
use Rattle.qq_disk.specs.declared.image.Image.{Image}
use Rattle.qq_disk.specs.Disk.{Disk, now}
use Rattle.qq_disk.specs.Facts.{DiskFacts}
use Rattle.qq_disk.specs.Image.{image_of}
use Rattle.qq_disk.proofs.Named.{named}
use Rattle.qq_log.specs.Carries.{carry_or_new, is_listed}
use Rattle.qq_log.specs.declared.lane.Carry.{Carry}
use Rattle.qq_log.specs.declared.lane.Lane.{Lane}
use Rattle.qq_log.specs.declared.op.Op.{Op}
use Rattle.qq_log.specs.Lane.{IsLaneOf}
use Rattle.qq_log.specs.Stable.{Stable, carry_of, new_state}
use Rattle.qq_log.specs.declared.head.SnapshotHead.{SnapshotHead}
use Rattle.qq_lots.specs.Kept.{KeepsPromised}
use Rattle.qq_lots.specs.Left.{AllBetween, IsBetween, ops_found, state_in}
use Rattle.qq_lots.specs.Lots.{Lot, Parts, find_each, ids_of, new_part}
use Rattle.qq_lots.proofs.Each.{all-both}
use Rattle.qq_lots.proofs.Finds.{found-tied, settled-at}
use Rattle.qq_lots.proofs.Writes.{crashed-keeps, new-promised as no-promise, stays-keeps}
use Rattle.qq_ports.specs.Yard.{IsAfterCrash, IsNew}
use Rattle.qq_recover.specs.declared.fault.RecoverFault.{RecoverFault}
use Rattle.qq_recover.specs.declared.fault.RecoverFault.TheVariants.{Memory as OfMemory}
use Rattle.qq_recover.specs.declared.recovered.Recovered.{Recovered}
use Rattle.qq_recover.specs.Reading.{lanes_read, shown}
use Rattle.qq_recover.specs.Recovered.{IsLaneFor, IsNewLog, IsNoRefusal, KnowsLanes, lanes_left, wal_of}
use Rattle.qq_recover.specs.Recovery.{SettlesLanes}
use Rattle.qq_recover.specs.State.{IsWithinEnds}
use Rattle.qq_recover.proofs.Promised.{opened-may}
use Rattle.qq_wal.specs.declared.numbers.Numbers.{Numbers}
use Rattle.qq_wal.specs.declared.wal.Wal.{Wal}
use Rattle.qq_wal.specs.Running.{top, MayRecover, Stays}
use Rattle.qq_wal.specs.Wal.{IsSound, carries_ahead}
use Rattle.qq_wal.proofs.Agreeing.{or-new}
use Rattle.qq_wal_chain.specs.Lanes.{Lanes, IsStateOf, of_queue}
use Rattle.qq_wal_chain.specs.Laws.{KeepsPromise}
use Rattle.qq_wal_chain.proofs.Promised.{empty-keeps}
use Rattle.qq_node_log.specs.Ends.{IsCarryOf, carry_end, end_of, ends, lane_end}
use Rattle.qq_node_log.specs.Found.{AllEnd, AreLanes, FailsKeeping, HasFound, MeetsPremise, Settles}
use Rattle.qq_node_log.specs.Log.{IsRunning}

-- ---- what was found goes on

-- ops that a state is what they come to end where it does
pub between-ends : (lot : Lot) (parts : Parts) (lanes : Lanes) → AllBetween lot parts lanes → AllEnd lot parts lanes
between-ends lot parts lanes between =
    AllByRecursion-weaker (λ (place : ℕ). IsBetween (parts place) (state_in lanes (lot.id place)))
    (λ (place : ℕ). ends (take (ops_found lot lanes place) (parts place).ops) ≡ Some (end_of (state_in lanes (lot.id place))))
    (λ place is. ap (option_map end_of) is.is) lot.places between

-- a lane tells where its state ends
pub lane-ends : (id : QueueId) (lanes : Lanes) (lane : Option Lane) → IsLaneFor id (lanes id.0) lane
    → lane_end lane ≡ end_of (state_in lanes id)
lane-ends id lanes lane is = by (lanes id.0) lane is
  where
    by : (o : Option Stable) (lane : Option Lane) → IsLaneFor id o lane → lane_end lane ≡ end_of (unwrap_or o new_state)
    by None None is = refl
    by (Some s) (Some lane) is =
        let own : IsLaneOf s lane = is.1.state in
        let base : lane.base.index.0 ≡ s.base.index.0 = ap (λ (h : SnapshotHead). h.index.0) own.base in
        let many : lane.base.index.0 + length lane.entries ≡ s.base.index.0 + length s.log =
        omega (arith, base, ap length own.entries, length-map lane.entries Some) in
        λ i. record { op = own.op i; base = base i; last = many i }
    by None (Some lane) is = absurd is
    by (Some s) None is = absurd is

-- the queues of a lot are listed
all-listed : (lot : Lot) → AllByRecursion (λ (place : ℕ). is_listed (ids_of lot) (lot.id place) ≡ true) lot.places
all-listed lot = by lot.places (λ id found. found)
  where
    by : (places : List ℕ)
        → ((id : QueueId) → is_listed (map lot.id places) id ≡ true → is_listed (ids_of lot) id ≡ true)
        → AllByRecursion (λ (place : ℕ). is_listed (ids_of lot) (lot.id place) ≡ true) places
    by [] more = tt
    by (place ∷ places) more = (
      more (lot.id place) (ap (λ (b : Bool). b || is_listed (map lot.id places) (lot.id place))
          (eq-eqb (lot.id place).0 (lot.id place).0 refl)),
      by places (λ id found. more id
          (or_right (eqb (lot.id place).0 id.0) (is_listed (map lot.id places) id) found)),
    )

pub goes-on : {D : Type 0} (facts : DiskFacts D) (queues : List QueueId) (log_bytes : ℕ) (r : Recovered D)
    → IsSound facts (wal_of r) → KnowsLanes queues r → IsNewLog queues log_bytes r
    → (lot : Lot) (parts : Parts) → queues ≡ ids_of lot → AllEnd lot parts (lanes_left r)
    → IsRunning facts lot (find_each (ops_found lot (lanes_left r)) parts) (wal_of r)
goes-on facts queues log_bytes r sound knows new lot parts same end = record {
  sound = sound;
  queues_are = new.above.queues_are ∙ same;
  waiting = new.above.begun.waiting;
  going = new.above.begun.going;
  newest = ap (λ (n : Numbers). n.log) new.above.begun.numbers;
  carries = all-both (λ (place : ℕ). is_listed (ids_of lot) (lot.id place) ≡ true)
      (λ (place : ℕ). ends (take (ops_found lot (lanes_left r) place) (parts place).ops)
      ≡ Some (end_of (state_in (lanes_left r) (lot.id place))))
      (λ (place : ℕ). IsCarryOf (lot.id place) (carries_ahead (wal_of r))
      (find_each (ops_found lot (lanes_left r)) parts place).ops)
      (λ place listed is. is ∙ ap (λ (c : Carry). Some (carry_end c)) (sym (known place listed))) lot.places (all-listed lot) end;
}
  where
    known : (place : ℕ) → is_listed (ids_of lot) (lot.id place) ≡ true
        → carry_or_new (carries_ahead (wal_of r) (lot.id place).0) (lot.id place)
        ≡ carry_of (lot.id place) (state_in (lanes_left r) (lot.id place))
    known place listed =
        ap (λ (o : Option Carry). carry_or_new o (lot.id place))
        (knows.ahead (lot.id place) (subst (λ (ids : List QueueId). is_listed ids (lot.id place) ≡ true) (sym same) listed))
        ∙ or-new (lot.id place) (lanes_left r (lot.id place).0)

-- ---- over a disk that tells its contents

pub settles-lot : (queues : List QueueId) (lanes : Lanes) (old new : List Disk) → Stays queues old new
    → ((noticed given : List Op) → KeepsPromise queues top noticed given (now old)
    → SettlesLanes queues noticed given lanes (now new))
    → (lot : Lot) (parts : Parts) → queues ≡ ids_of lot → KeepsPromised lot parts (now old)
    → Settles lot parts lanes old new
settles-lot queues lanes old new stays settles lot parts same p =
    let settled : SettlesLanes (ids_of lot) p.noticed p.given lanes (now new) =
    subst (λ (ids : List QueueId). SettlesLanes ids p.noticed p.given lanes (now new)) same
    (settles p.noticed p.given
    (subst (λ (ids : List QueueId). KeepsPromise ids top p.noticed p.given (now old)) (sym same) p.promise)) in
    record {
      between = settled-at lot parts p.noticed p.given lanes (now new) p.each settled;
      stays = (stays-keeps lot parts old new p (subst (λ (ids : List QueueId). Stays ids old new) same stays)).0;
      tied = found-tied lot parts p.noticed p.given lanes (now new) p.each settled;
    }

front-none : (ops : List Op) → IsFront ops [] → ops ≡ []
front-none [] f = refl
front-none (op ∷ ops) f = absurd (cc f.is)

-- on a new disk nothing is found
pub new-none : (queues : List QueueId) (lanes : Lanes) (old : List Disk) (d : Disk)
    → ((noticed given : List Op) → KeepsPromise queues top noticed given (now old)
    → SettlesLanes queues noticed given lanes d) → IsNew old → (id : ℕ) → lanes id ≡ None
new-none queues lanes old d settles fresh id =
    let keeps : KeepsPromise queues top [] [] (now old) =
    subst (λ (past : List Disk). KeepsPromise queues top [] [] (now past)) (sym fresh) (empty-keeps queues top) in
    let settled : SettlesLanes queues [] [] lanes d = settles [] [] keeps in
    subst (λ (ops : List Op). IsStateOf (of_queue id ops) (lanes id)) (front-none settled.ops settled.front)
    (settled.each id)

pub fails-keeping : (queues : List QueueId) (old new : List Disk) (fault : RecoverFault) → Stays queues old new
    → ((noticed given : List Op) → KeepsPromise queues top noticed given (now old) → IsNoRefusal fault)
    → FailsKeeping queues old new fault
fails-keeping queues old new fault stays never lot parts same p = (
  never p.noticed p.given
      (subst (λ (ids : List QueueId). KeepsPromise ids top p.noticed p.given (now old)) (sym same) p.promise),
  stays-keeps lot parts old new p (subst (λ (ids : List QueueId). Stays ids old new) same stays),
)

-- and where only memory was wanting, after recovery
pub wants-keeping : {D : Type 0} (past : D → List Disk) (queues : List QueueId) (old : List Disk) (memory : Memory)
    (disk : D) (r : Recovered D) → disk ≡ (wal_of r).disk → Stays queues old (past (wal_of r).disk)
    → FailsKeeping queues old (past disk) (OfMemory memory)
wants-keeping past queues old memory disk r same stays =
    fails-keeping queues old (past disk) (OfMemory memory)
    (subst (λ (ds : List Disk). Stays queues old ds) (ap past (sym same)) stays) (λ noticed given keeps. tt)

-- ---- both

pub has-found : {D : Type 0} (facts : DiskFacts D) (queues : List QueueId) (log_bytes : ℕ) (disk : D) (r : Recovered D)
    (w : Wal D) (taken : Vec (Option Lane)) → w ≡ wal_of r
    → AreLanes queues (lanes_left r) taken.items
    → AllByRecursion (λ (lane : Option Lane). IfSome lane IsWithinEnds) taken.items
    → IsSound facts (wal_of r) → KnowsLanes queues r → IsNewLog queues log_bytes r
    → (IsTrue (facts.tells disk) → lanes_read queues (shown (now (facts.past disk))) ≡ Ok (lanes_left r))
    → (IsTrue (facts.tells disk) → Stays queues (facts.past disk) (facts.past (wal_of r).disk))
    → (IsTrue (facts.tells disk) → (noticed given : List Op) → KeepsPromise queues top noticed given
    (now (facts.past disk))
    → SettlesLanes queues noticed given (lanes_left r) (now (facts.past (wal_of r).disk)))
    → HasFound facts queues log_bytes disk (record { wal = w; lanes = taken })
has-found facts queues log_bytes disk r w taken same lanes within sound knows new read stays settles =
    subst (λ (v : Wal _). HasFound facts queues log_bytes disk (record { wal = v; lanes = taken })) (sym same) (record {
      lanes = lanes_left r;
      each = lanes;
      within = within;
      limit = new.above.begun.limit;
      goes_on = goes-on facts queues log_bytes r sound knows new;
      read = read;
      settles = λ told. settles-lot queues (lanes_left r) (facts.past disk) (facts.past (wal_of r).disk)
          (stays told) (settles told);
      new = λ told. new-none queues (lanes_left r) (facts.past disk) (now (facts.past (wal_of r).disk)) (settles told);
    })

-- ---- crashes

-- a disk that was crashed may be recovered
pub crashed-whole : (queues : List QueueId) (image : Image) (old new : List Disk) → IsAfterCrash image old new
    → MayRecover queues (now new)
crashed-whole queues image old new after =
    subst (MayRecover queues) (sym after.left.left)
    (opened-may queues (image_of image after.left.newest (now old)))

-- and so may a new one
pub new-whole : (queues : List QueueId) (past : List Disk) → IsNew past → MayRecover queues (now past)
new-whole queues past fresh =
    subst (λ (p : List Disk). MayRecover queues (now p)) (sym fresh) (opened-may queues (λ file. None))

-- which has promised nothing
pub new-promised : (lot : Lot) (past : List Disk) → IsNew past → KeepsPromised lot (λ place. new_part) (now past)
new-promised lot past fresh =
    no-promise lot (now past)
    (subst (λ (p : List Disk). KeepsPromise (ids_of lot) top [] [] (now p)) (sym fresh) (empty-keeps (ids_of lot) top))

pub crashed-promised : (lot : Lot) (parts : Parts) (image : Image) (old new : List Disk)
    → KeepsPromised lot parts (now old) → IsAfterCrash image old new → MeetsPremise lot image (now old)
    → KeepsPromised lot parts (now new)
crashed-promised lot parts image old new p after honest =
    let remains : Remains = image_of image after.left.newest (now old) in
    subst (KeepsPromised lot parts) (sym after.left.left)
    (crashed-keeps lot parts (now old) remains p (named image after.left.newest (now old))
    (honest after.left.newest after.left.is_newest))
