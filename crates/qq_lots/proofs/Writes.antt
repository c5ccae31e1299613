-- What appends, syncs, new files and crashes make of a log's parts.
use Rattle.std.proofs.Common.{◌≡◌, ◌≤◌, ℕ, List, [], ◌++◌, length, refl, sym, ap, ◌∙◌, subst, arith, append_assoc, append-nil, length-append}
use Rattle.std.proofs.lemmas.List.{length-take-le, take-append-le, take_all}
use Rattle.std.proofs.lemmas.List.Elements.{filter-append}
use Rattle.std.specs.Prelude.{nat_eq}
use Rattle.std.specs.List.{AllByRecursion}
use Rattle.qq_base.specs.Fronts.{IsFront}
use Rattle.qq_base.proofs.Fronts.{front-more, front-refl, front-trans}
use Rattle.qq_base.proofs.Lists.{AllByRecursion-weaker}
use Rattle.qq_disk.specs.Crash.{Remains, IsImage, reopen}
use Rattle.qq_disk.specs.Disk.{Disk, now}
use Rattle.qq_disk.specs.Moments.{Adds}
use Rattle.qq_disk.proofs.Moments.{adds-now, adds-weaker}
use Rattle.qq_log.specs.declared.op.Op.{Op}
use Rattle.qq_log.specs.Op.{queue}
use Rattle.qq_wal.specs.Running.{top, HoldsAlso, MayNotice, StaysGiving, StillHolds, Stays}
use Rattle.qq_wal_chain.specs.Laws.{HoldsOps, IsHonestImage, KeepsPromise, op_records}
use Rattle.qq_wal_chain.proofs.Gives.{promise-weaker}
use Rattle.qq_wal_chain.proofs.Promised.{crash-keeps}
use Rattle.qq_lots.specs.Kept.{IsPromised, AllPromised, KeepsPromised, IsWritten, IsTied, IsLeft, AllLeft, LacksRest}
use Rattle.qq_lots.specs.Lots.{Lot, Part, Parts, give, give_batch, ids_of, keep, keep_all, new_part, ops_at}
use Rattle.qq_lots.proofs.Each.{all-both, of-each}

-- ---- parts that have become longer

-- a part of which more was given, and no more is synced
abbrev pub Grows : Part → Part → Type 0
Grows p later = IsFront p.ops later.ops × (later.synced ≤ p.synced)

-- a promise of a part is one of more of it
pub promised-later : (lot : Lot) (parts later : Parts) (d : Disk) → ((place : ℕ) → Grows (parts place) (later place))
    → KeepsPromised lot parts d → KeepsPromised lot later d
promised-later lot parts later d grows p = record {
  noticed = p.noticed;
  given = p.given;
  each = AllByRecursion-weaker
      (λ (place : ℕ). IsPromised (parts place) (ops_at lot place p.noticed) (ops_at lot place p.given))
      (λ (place : ℕ). IsPromised (later place) (ops_at lot place p.noticed) (ops_at lot place p.given))
      (λ place is. record {
        front = front-trans is.front (grows place).0;
        covers = omega (arith, (grows place).1, is.covers);
      }) lot.places p.each;
  promise = p.promise;
}

-- the same of parts that are equal
pub tied-same : (lot : Lot) (parts later : Parts) (d : Disk)
    → AllByRecursion (λ (place : ℕ). later place ≡ parts place) lot.places
    → IsTied lot parts d → IsTied lot later d
tied-same lot parts later d same t = record {
  noticed = t.noticed;
  given = t.given;
  each = all-both (λ (place : ℕ). later place ≡ parts place)
      (λ (place : ℕ). IsWritten (parts place) (ops_at lot place t.noticed) (ops_at lot place t.given))
      (λ (place : ℕ). IsWritten (later place) (ops_at lot place t.noticed) (ops_at lot place t.given))
      (λ place is own. subst (λ (p : Part). IsWritten p (ops_at lot place t.noticed) (ops_at lot place t.given))
      (sym is) own) lot.places same t.each;
  holds = t.holds;
  promise = t.promise;
}

pub lacks-same : (lot : Lot) (parts later : Parts) (rest : List Op) (d : Disk)
    → AllByRecursion (λ (place : ℕ). later place ≡ parts place) lot.places
    → LacksRest lot parts rest d → LacksRest lot later rest d
lacks-same lot parts later rest d same l = record {
  noticed = l.noticed;
  given = l.given;
  each = all-both (λ (place : ℕ). later place ≡ parts place)
      (λ (place : ℕ). IsLeft (parts place) (ops_at lot place l.noticed) (ops_at lot place l.given)
      (ops_at lot place rest))
      (λ (place : ℕ). IsLeft (later place) (ops_at lot place l.noticed) (ops_at lot place l.given)
      (ops_at lot place rest))
      (λ place is own. subst (λ (p : Part). IsLeft p (ops_at lot place l.noticed) (ops_at lot place l.given)
      (ops_at lot place rest)) (sym is) own) lot.places same l.each;
  holds = l.holds;
  promise = l.promise;
}

-- ---- a log without ops

pub new-promised : (lot : Lot) (d : Disk) → KeepsPromise (ids_of lot) top [] [] d
    → KeepsPromised lot (λ place. new_part) d
new-promised lot d keeps = record {
  noticed = [];
  given = [];
  each = of-each (λ (place : ℕ). IsPromised new_part (ops_at lot place []) (ops_at lot place []))
      (λ place. record { front = front-refl []; covers = omega arith }) lot.places;
  promise = keeps;
}

pub new-tied : (lot : Lot) (d : Disk) → HoldsOps (ids_of lot) top [] d → KeepsPromise (ids_of lot) top [] [] d
    → IsTied lot (λ place. new_part) d
new-tied lot d holds keeps = record {
  noticed = [];
  given = [];
  each = of-each (λ (place : ℕ). IsWritten new_part (ops_at lot place []) (ops_at lot place []))
      (λ place. record { written = refl; synced = refl; within = omega arith }) lot.places;
  holds = holds;
  promise = keeps;
}

-- ---- a log that goes on keeps what it promised

written-promised : (p : Part) (noticed given : List Op) → IsWritten p noticed given → IsPromised p noticed given
written-promised p noticed given is = record {
  front = subst (λ (l : List Op). IsFront l p.ops) (sym is.written) (front-refl p.ops);
  covers = omega (arith, ap length is.synced, length-take-le p.synced p.ops is.within);
}

pub tied-promised : (lot : Lot) (parts : Parts) (d : Disk) → IsTied lot parts d → KeepsPromised lot parts d
tied-promised lot parts d t = record {
  noticed = t.noticed;
  given = t.given;
  each = AllByRecursion-weaker
      (λ (place : ℕ). IsWritten (parts place) (ops_at lot place t.noticed) (ops_at lot place t.given))
      (λ (place : ℕ). IsPromised (parts place) (ops_at lot place t.noticed) (ops_at lot place t.given))
      (λ place is. written-promised (parts place) (ops_at lot place t.noticed) (ops_at lot place t.given) is)
      lot.places t.each;
  promise = t.promise;
}

-- ---- appends

-- a queue's ops of a list and of one more
pub ops_at-both : (lot : Lot) (place : ℕ) (a b : List Op)
    → ops_at lot place (a ++ b) ≡ ops_at lot place a ++ ops_at lot place b
ops_at-both lot place a b = filter-append (λ (op : Op). nat_eq (queue op).0 (lot.id place).0) a b

left-first : (lot : Lot) (place : ℕ) (p : Part) (noticed given rest : List Op)
    → IsWritten p (ops_at lot place noticed) (ops_at lot place given)
    → IsLeft (give (ops_at lot place rest) p) (ops_at lot place noticed) (ops_at lot place given)
    (ops_at lot place rest)
left-first lot place p noticed given rest is = record {
  all = ap (λ (l : List Op). l ++ ops_at lot place rest) is.written;
  synced = is.synced ∙ sym (take-append-le p.synced p.ops (ops_at lot place rest) is.within);
  within = omega (arith, ap length is.written, is.within);
}

-- before the first batch of a write the log lacks all of it
pub lacks-first : (lot : Lot) (parts : Parts) (rest : List Op) (d : Disk) → IsTied lot parts d
    → LacksRest lot (give_batch lot rest parts) rest d
lacks-first lot parts rest d t = record {
  noticed = t.noticed;
  given = t.given;
  each = AllByRecursion-weaker
      (λ (place : ℕ). IsWritten (parts place) (ops_at lot place t.noticed) (ops_at lot place t.given))
      (λ (place : ℕ). IsLeft (give (ops_at lot place rest) (parts place)) (ops_at lot place t.noticed)
      (ops_at lot place t.given) (ops_at lot place rest))
      (λ place is. left-first lot place (parts place) t.noticed t.given rest is) lot.places t.each;
  holds = t.holds;
  promise = t.promise;
}

-- a batch is given, and the rest is left
left-batch : (lot : Lot) (place : ℕ) (p : Part) (noticed given batch rest : List Op)
    → IsLeft p (ops_at lot place noticed) (ops_at lot place given) (ops_at lot place (batch ++ rest))
    → IsLeft p (ops_at lot place noticed) (ops_at lot place (given ++ batch)) (ops_at lot place rest)
left-batch lot place p noticed given batch rest is = record {
  all = ap (λ (l : List Op). l ++ ops_at lot place rest) (ops_at-both lot place given batch)
      ∙ append_assoc (ops_at lot place given) (ops_at lot place batch) (ops_at lot place rest)
      ∙ ap (λ (l : List Op). ops_at lot place given ++ l) (sym (ops_at-both lot place batch rest)) ∙ is.all;
  synced = is.synced;
  within = omega (
    arith,
    is.within,
    ap length (ops_at-both lot place given batch),
    length-append (ops_at lot place given) (ops_at lot place batch),
  );
}

all-batch : (lot : Lot) (parts : Parts) (noticed given batch rest : List Op)
    → AllLeft lot parts noticed given (batch ++ rest) → AllLeft lot parts noticed (given ++ batch) rest
all-batch lot parts noticed given batch rest each =
    AllByRecursion-weaker
    (λ (place : ℕ). IsLeft (parts place) (ops_at lot place noticed) (ops_at lot place given)
    (ops_at lot place (batch ++ rest)))
    (λ (place : ℕ). IsLeft (parts place) (ops_at lot place noticed) (ops_at lot place (given ++ batch))
    (ops_at lot place rest))
    (λ place is. left-batch lot place (parts place) noticed given batch rest is) lot.places each

left-promised : (p : Part) (noticed given rest : List Op) → IsLeft p noticed given rest → IsPromised p noticed given
left-promised p noticed given rest is = record {
  front = record { rest = rest; is = sym is.all };
  covers = omega (
    arith,
    is.within,
    ap length is.synced,
    ap length is.all,
    length-append given rest,
    length-take-le p.synced p.ops (omega (arith, is.within, ap length is.all, length-append given rest)),
  );
}

all-promised : (lot : Lot) (parts : Parts) (noticed given rest : List Op) → AllLeft lot parts noticed given rest
    → AllPromised lot parts noticed given
all-promised lot parts noticed given rest each =
    AllByRecursion-weaker
    (λ (place : ℕ). IsLeft (parts place) (ops_at lot place noticed) (ops_at lot place given)
    (ops_at lot place rest))
    (λ (place : ℕ). IsPromised (parts place) (ops_at lot place noticed) (ops_at lot place given))
    (λ place is. left-promised (parts place) (ops_at lot place noticed) (ops_at lot place given)
    (ops_at lot place rest) is) lot.places each

-- at each moment since the disk keeps what was promised, where it does so of one list of ops
promised-each : (lot : Lot) (parts : Parts) (noticed given : List Op) (old new : List Disk)
    → AllPromised lot parts noticed given → Adds (KeepsPromise (ids_of lot) top noticed given) old new
    → Adds (KeepsPromised lot parts) old new
promised-each lot parts noticed given old new each adds =
    adds-weaker (KeepsPromise (ids_of lot) top noticed given) (KeepsPromised lot parts) old new
    (λ d keeps. record { noticed = noticed; given = given; each = each; promise = keeps }) adds

-- what was promised of each moment since and of the one before is promised now
pub promised-now : (lot : Lot) (parts : Parts) (old new : List Disk) → KeepsPromised lot parts (now old)
    → Adds (KeepsPromised lot parts) old new → KeepsPromised lot parts (now new)
promised-now lot parts old new p adds = adds-now (KeepsPromised lot parts) old new adds p

-- at each moment of a batch the log keeps what it promised, with this batch among what was given
pub batch-keeps : (lot : Lot) (parts : Parts) (batch rest : List Op) (old new : List Disk)
    → LacksRest lot parts (batch ++ rest) (now old) → StaysGiving (ids_of lot) batch old new
    → Adds (KeepsPromised lot parts) old new × KeepsPromised lot parts (now new)
batch-keeps lot parts batch rest old new l stays =
    let each : AllPromised lot parts l.noticed (l.given ++ batch) =
    all-promised lot parts l.noticed (l.given ++ batch) rest
    (all-batch lot parts l.noticed l.given batch rest l.each) in
    let adds : Adds (KeepsPromised lot parts) old new =
    promised-each lot parts l.noticed (l.given ++ batch) old new each (stays l.noticed l.given l.promise l.holds) in
    let before : KeepsPromised lot parts (now old) = record {
      noticed = l.noticed;
      given = l.given;
      each = all-promised lot parts l.noticed l.given (batch ++ rest) l.each;
      promise = l.promise;
    } in
    (adds, promised-now lot parts old new before adds)

-- and then it lacks the rest alone
pub batch-lacks : (lot : Lot) (parts : Parts) (batch rest : List Op) (old new : List Disk)
    → LacksRest lot parts (batch ++ rest) (now old) → StaysGiving (ids_of lot) batch old new
    → HoldsAlso (ids_of lot) batch (now old) (now new) → LacksRest lot parts rest (now new)
batch-lacks lot parts batch rest old new l stays also = record {
  noticed = l.noticed;
  given = l.given ++ batch;
  each = all-batch lot parts l.noticed l.given batch rest l.each;
  holds = also l.given l.holds;
  promise = adds-now (KeepsPromise (ids_of lot) top l.noticed (l.given ++ batch)) old new
      (stays l.noticed l.given l.promise l.holds)
      (promise-weaker (ids_of lot) top l.noticed l.noticed l.given (l.given ++ batch) (now old)
      (front-refl l.noticed) (front-more l.given batch) l.promise);
}

written-none : (p : Part) (noticed given : List Op) → IsLeft p noticed given [] → IsWritten p noticed given
written-none p noticed given is =
    let all : given ≡ p.ops = sym (append-nil given) ∙ is.all in
    record { written = all; synced = is.synced; within = omega (arith, is.within, ap length all) }

-- once nothing is left all is written
pub lacks-none : (lot : Lot) (parts : Parts) (d : Disk) → LacksRest lot parts [] d → IsTied lot parts d
lacks-none lot parts d l = record {
  noticed = l.noticed;
  given = l.given;
  each = AllByRecursion-weaker
      (λ (place : ℕ). IsLeft (parts place) (ops_at lot place l.noticed) (ops_at lot place l.given) [])
      (λ (place : ℕ). IsWritten (parts place) (ops_at lot place l.noticed) (ops_at lot place l.given))
      (λ place is. written-none (parts place) (ops_at lot place l.noticed) (ops_at lot place l.given) is)
      lot.places l.each;
  holds = l.holds;
  promise = l.promise;
}

-- a write of one batch
lacks-batch : (lot : Lot) (parts : Parts) (batch : List Op) (d : Disk) → IsTied lot parts d
    → LacksRest lot (give_batch lot batch parts) (batch ++ []) d
lacks-batch lot parts batch d t =
    subst (λ (l : List Op). LacksRest lot (give_batch lot batch parts) l d) (sym (append-nil batch))
    (lacks-first lot parts batch d t)

-- one append by itself
pub append-keeps : (lot : Lot) (parts : Parts) (batch : List Op) (old new : List Disk) → IsTied lot parts (now old)
    → StaysGiving (ids_of lot) batch old new
    → Adds (KeepsPromised lot (give_batch lot batch parts)) old new
    × KeepsPromised lot (give_batch lot batch parts) (now new)
append-keeps lot parts batch old new t stays =
    batch-keeps lot (give_batch lot batch parts) batch [] old new (lacks-batch lot parts batch (now old) t) stays

pub append-tied : (lot : Lot) (parts : Parts) (batch : List Op) (old new : List Disk) → IsTied lot parts (now old)
    → StaysGiving (ids_of lot) batch old new → HoldsAlso (ids_of lot) batch (now old) (now new)
    → IsTied lot (give_batch lot batch parts) (now new)
append-tied lot parts batch old new t stays also =
    lacks-none lot (give_batch lot batch parts) (now new)
    (batch-lacks lot (give_batch lot batch parts) batch [] old new (lacks-batch lot parts batch (now old) t) stays also)

-- ---- syncs and new files

-- what leaves each promise as it is
pub stays-keeps : (lot : Lot) (parts : Parts) (old new : List Disk) → KeepsPromised lot parts (now old)
    → Stays (ids_of lot) old new → Adds (KeepsPromised lot parts) old new × KeepsPromised lot parts (now new)
stays-keeps lot parts old new p stays =
    let adds : Adds (KeepsPromised lot parts) old new =
    promised-each lot parts p.noticed p.given old new p.each
    (stays (op_records p.noticed) (op_records p.given) p.promise) in
    (adds, promised-now lot parts old new p adds)

-- a new file changes nothing of what was written and synced
pub rolled-tied : (lot : Lot) (parts : Parts) (old new : List Disk) → IsTied lot parts (now old)
    → Stays (ids_of lot) old new → StillHolds (ids_of lot) (now old) (now new) → IsTied lot parts (now new)
rolled-tied lot parts old new t stays still = record {
  noticed = t.noticed;
  given = t.given;
  each = t.each;
  holds = still t.given t.holds;
  promise = adds-now (KeepsPromise (ids_of lot) top t.noticed t.given) old new
      (stays (op_records t.noticed) (op_records t.given) t.promise) t.promise;
}

synced-part : (p : Part) (noticed given : List Op) → IsWritten p noticed given → IsWritten (keep p) given given
synced-part p noticed given is = record {
  written = is.written;
  synced = is.written ∙ sym (take_all (length p.ops) p.ops (omega arith));
  within = omega arith;
}

-- once a sync is done all that was given is synced
pub synced-tied : (lot : Lot) (parts : Parts) (d e : Disk) → IsTied lot parts d → MayNotice (ids_of lot) d e
    → StillHolds (ids_of lot) d e → IsTied lot (keep_all parts) e
synced-tied lot parts d e t may still = record {
  noticed = t.given;
  given = t.given;
  each = AllByRecursion-weaker
      (λ (place : ℕ). IsWritten (parts place) (ops_at lot place t.noticed) (ops_at lot place t.given))
      (λ (place : ℕ). IsWritten (keep (parts place)) (ops_at lot place t.given) (ops_at lot place t.given))
      (λ place is. synced-part (parts place) (ops_at lot place t.noticed) (ops_at lot place t.given) is)
      lot.places t.each;
  holds = still t.given t.holds;
  promise = may t.noticed t.given t.promise t.holds;
}

-- ---- crashes

-- the disk that a crash leaves keeps what was promised
pub crashed-keeps : (lot : Lot) (parts : Parts) (d : Disk) (image : Remains) → KeepsPromised lot parts d
    → IsImage d image → IsHonestImage (ids_of lot) d image → KeepsPromised lot parts (reopen image)
crashed-keeps lot parts d image p is_image honest = record {
  noticed = p.noticed;
  given = p.given;
  each = p.each;
  promise = crash-keeps (ids_of lot) top p.noticed p.given d image p.promise is_image honest;
}
