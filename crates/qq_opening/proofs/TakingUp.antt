-- The members on a node go on with what was found of each, one after the other.
use Rattle.std.proofs.Common.{◌≡◌, ◌≢◌, ◌<◌, ◌+◌, ℕ, zero, suc, List, [], ◌∷◌, ◌++◌, Option, Some, get_or, length, take, drop, refl, sym, ap, ◌∙◌, subst, inl, inr, arith, append_assoc, length-append}
use Rattle.std.proofs.Math.Seq.{take-append_seam}
use Rattle.std.specs.Prelude.{All, IfSome, slice_get, slice_set}
use Rattle.std.specs.List.{AllByRecursion}
use Rattle.std.proofs.lemmas.List.Elements.{All-from_recursion, recursion_from_All}
use Rattle.std.proofs.lemmas.Option.{slice_get-get_or}
use Rattle.qq_base.specs.declared.ids.QueueId.{QueueId}
use Rattle.qq_log.specs.declared.lane.Lane.{Lane}
use Rattle.qq_recover.specs.State.{IsWithinEnds}
use Rattle.qq_group.specs.declared.restart.RestartFault.{RestartFault}
use Rattle.qq_group.specs.declared.restart.RestartFault.TheVariants.{Lost}
use Rattle.qq_queue.specs.Members.{AreSound}
use Rattle.qq_queue.specs.declared.cluster_queue.ClusterQueue.{ClusterQueue}
use Rattle.qq_node_log.specs.Found.{AreDistinct}
use Rattle.qq_opening.specs.declared.taking.Handed.{Handed}
use Rattle.qq_opening.specs.Taking.{AllChange, ChangesAt, IsLostAmong, IsTakeCaused, IsTakeCausedAt, MayTakeAt, MayTakeEach, TakesUp, TakesUpOne, index_of, pair_index, pairs}
use Rattle.qq_opening.proofs.Changing.{all-then, set-get, set-long}
use Rattle.qq_cluster.proofs.Walks.{drop-at}

-- ---- the queue at an index

module _ (k : ℕ) (queues : List ClusterQueue) (id : QueueId) (d : ClusterQueue) (may : MayTakeAt k queues id) where
  own-queue : slice_get queues (index_of id) ≡ Some (get_or queues (index_of id) d)
  own-queue = slice_get-get_or queues (index_of id) d may.place

  pub taken-at : (handed : Handed) (lane : Option Lane) (new : ClusterQueue)
      → TakesUp k handed lane (get_or queues (index_of id) d) new
      → ChangesAt (TakesUpOne k handed (id, lane)) (index_of id) queues (slice_set queues (index_of id) new)
  taken-at handed lane new takes = record {
    old = get_or queues (index_of id) d;
    new = new;
    here = own-queue;
    is = refl;
    does = takes;
  }

  pub caused-at : (handed : Handed) (lane : Option Lane) (fault : RestartFault)
      → IsTakeCaused k handed lane (get_or queues (index_of id) d) fault
      → IsTakeCausedAt k handed lane (index_of id) queues fault
  caused-at handed lane fault caused = (get_or queues (index_of id) d, own-queue, caused)

-- ---- pairs

pairs-none : (ids : List QueueId) → pairs ids [] ≡ []
pairs-none [] = refl
pairs-none (id ∷ ids) = refl

pairs-split : (ids more : List QueueId) (id : QueueId) (front behind : List (Option Lane)) (lane : Option Lane)
    → drop (length front) ids ≡ id ∷ more
    → pairs ids (front ++ lane ∷ behind) ≡ pairs ids front ++ (id, lane) ∷ pairs more behind
pairs-split [] more id [] behind lane is = absurd (let e : [] ≡ id ∷ more = is in cc)
pairs-split [] more id (first ∷ front) behind lane is = absurd (let e : [] ≡ id ∷ more = is in cc)
pairs-split (own ∷ ids) more id [] behind lane is =
    let e : own ∷ ids ≡ id ∷ more = is in
    let first : own ≡ id = cc in
    let rest : ids ≡ more = cc in
    λ i. (first i, lane) ∷ pairs (rest i) behind
pairs-split (own ∷ ids) more id (first ∷ front) behind lane is =
    ap (λ (l : List (QueueId × Option Lane)). (own, first) ∷ l) (pairs-split ids more id front behind lane is)

pairs-more : (ids more : List QueueId) (id : QueueId) (front : List (Option Lane)) (lane : Option Lane)
    → drop (length front) ids ≡ id ∷ more → pairs ids (front ++ lane ∷ []) ≡ pairs ids front ++ (id, lane) ∷ []
pairs-more ids more id front lane is =
    pairs-split ids more id front [] lane is
    ∙ ap (λ (l : List (QueueId × Option Lane)). pairs ids front ++ (id, lane) ∷ l) (pairs-none more)

-- ---- what stays of the queues

set-all : {A : Type 0} (P : A → Type 0) (xs : List A) (at : ℕ) (x : A) → P x → AllByRecursion P xs
    → AllByRecursion P (slice_set xs at x)
set-all P [] zero x here each = tt
set-all P [] (suc at) x here each = tt
set-all P (y ∷ ys) zero x here each = (here, each.1)
set-all P (y ∷ ys) (suc at) x here each = (each.0, set-all P ys at x here each.1)

module _ (k : ℕ) (handed : Handed) (id : QueueId) (lane : Option Lane) (olds news : List ClusterQueue) (some : 0 < id.0)
    (changes : ChangesAt (TakesUpOne k handed (id, lane)) (index_of id) olds news) where
  sound-still : All (λ (d : ClusterQueue). AreSound d.group) olds → All (λ (d : ClusterQueue). AreSound d.group) news
  sound-still sound =
      subst (All (λ (d : ClusterQueue). AreSound d.group)) (sym changes.is)
      (All-from_recursion (λ (d : ClusterQueue). AreSound d.group) (slice_set olds (index_of id) changes.new)
      (set-all (λ (d : ClusterQueue). AreSound d.group) olds (index_of id) changes.new changes.does.sound
      (recursion_from_All (λ (d : ClusterQueue). AreSound d.group) olds sound)))

  -- another queue is as it was
  other-was : (other : QueueId) (d : ClusterQueue) → 0 < other.0 → other.0 ≢ id.0
      → slice_get news (index_of other) ≡ Some d → slice_get olds (index_of other) ≡ Some d
  other-was other d low apart here =
      elim (set-get olds (index_of id) (index_of other) changes.new d
      (ap (λ (l : List ClusterQueue). slice_get l (index_of other)) (sym changes.is) ∙ here)) [
        | inl same ↦ absurd (apart (let e = same.0 in omega (arith, e, low, some)))
        | inr rest ↦ rest.1
      ]

  may-still : (other : QueueId) → other.0 ≢ id.0 → MayTakeAt k olds other → MayTakeAt k news other
  may-still other apart may = record {
    some = may.some;
    place = (let lt = may.place in let long = ap length changes.is ∙ set-long olds (index_of id) changes.new in
        omega (arith, lt, long));
    member = λ d here. may.member d (other-was other d may.some apart here);
    down = λ d here. may.down d (other-was other d may.some apart here);
  }

  each-still : (ids : List QueueId) → AllByRecursion (λ (other : QueueId). other.0 ≢ id.0) ids → MayTakeEach k olds ids
      → MayTakeEach k news ids
  each-still [] apart may = tt
  each-still (other ∷ ids) apart may = (may-still other apart.0 may.0, each-still ids apart.1 may.1)

-- ---- the loop

-- so many have gone on, and these lanes are left
pub record HasTakenUp (k : ℕ) (handed : Handed) (ids : List QueueId) (all : List (Option Lane))
    (olds : List ClusterQueue) (at : ℕ) (rest : List (Option Lane)) (now : List ClusterQueue) : Type 0 where
  pub front : List (Option Lane)
  pub are : all ≡ front ++ rest
  pub count : length front ≡ at
  pub changed : AllChange pair_index (TakesUpOne k handed) (pairs ids front) olds now
  pub sound : All (λ (d : ClusterQueue). AreSound d.group) now
  pub may : MayTakeEach k now (drop at ids)
  pub apart : AreDistinct (drop at ids)
  pub ends : AllByRecursion (λ (lane : Option Lane). IfSome lane IsWithinEnds) rest

module _ (k : ℕ) (handed : Handed) (ids : List QueueId) (all : List (Option Lane)) (olds : List ClusterQueue) where
  pub taken-none : (rest : List (Option Lane)) → rest ≡ all → All (λ (d : ClusterQueue). AreSound d.group) olds
      → MayTakeEach k olds ids → AreDistinct ids → AllByRecursion (λ (lane : Option Lane). IfSome lane IsWithinEnds) all
      → HasTakenUp k handed ids all olds 0 rest olds
  taken-none rest is sound may apart ends = record {
    front = [];
    are = sym is;
    count = refl;
    changed = subst (λ (l : List (QueueId × Option Lane)). AllChange pair_index (TakesUpOne k handed) l olds olds)
        (sym (pairs-none ids)) refl;
    sound = sound;
    may = may;
    apart = apart;
    ends = subst (AllByRecursion (λ (lane : Option Lane). IfSome lane IsWithinEnds)) (sym is) ends;
  }

  module _ (at : ℕ) (rest more : List (Option Lane)) (lane : Option Lane) (now : List ClusterQueue)
      (is : rest ≡ lane ∷ more) (long : length all ≡ length ids)
      (t : HasTakenUp k handed ids all olds at rest now) where
    place-left : at < length ids
    place-left =
        let whole = ap length (t.are ∙ ap (λ (l : List (Option Lane)). t.front ++ l) is)
        ∙ length-append t.front (lane ∷ more) in
        let count = t.count in
        let some : length (lane ∷ more) ≡ suc (length more) = refl in
        omega (arith, whole, long, count, some)

    module _ (d : QueueId) where
      -- the next queue
      abbrev id : QueueId
      id = get_or ids at d

      left-are : drop at ids ≡ id ∷ drop (at + 1) ids
      left-are = drop-at ids at d place-left

      next-may : MayTakeAt k now id
      next-may = (subst (MayTakeEach k now) left-are t.may).0

      behind-are : drop (length t.front) ids ≡ id ∷ drop (at + 1) ids
      behind-are = ap (λ (n : ℕ). drop n ids) t.count ∙ left-are

      pub taken-more : (new : List ClusterQueue) → ChangesAt (TakesUpOne k handed (id, lane)) (index_of id) now new
          → HasTakenUp k handed ids all olds (at + 1) more new
      taken-more new changes = record {
        front = t.front ++ lane ∷ [];
        are = t.are ∙ ap (λ (l : List (Option Lane)). t.front ++ l) is ∙ sym (append_assoc t.front (lane ∷ []) more);
        count = length-append t.front (lane ∷ []) ∙ ap (λ (n : ℕ). n + 1) t.count;
        changed = subst (λ (l : List (QueueId × Option Lane)). AllChange pair_index (TakesUpOne k handed) l olds new)
            (sym (pairs-more ids (drop (at + 1) ids) id t.front lane behind-are))
            (all-then pair_index (TakesUpOne k handed) (pairs ids t.front) (id, lane) olds now new t.changed changes);
        sound = sound-still k handed id lane now new next-may.some changes t.sound;
        may = each-still k handed id lane now new next-may.some changes (drop (at + 1) ids)
            (subst AreDistinct left-are t.apart).0 (subst (MayTakeEach k now) left-are t.may).1;
        apart = (subst AreDistinct left-are t.apart).1;
        ends = (subst (AllByRecursion (λ (l : Option Lane). IfSome l IsWithinEnds)) is t.ends).1;
      }

      next-lost : (noticed found : ℕ) → IsTakeCausedAt k handed lane (index_of id) now (Lost noticed found)
          → IsLostAmong k handed (pairs ids all) olds id noticed found
      next-lost noticed found caused = record {
        before = pairs ids t.front;
        lane = lane;
        behind = pairs (drop (at + 1) ids) more;
        are = ap (pairs ids) (t.are ∙ ap (λ (l : List (Option Lane)). t.front ++ l) is)
            ∙ pairs-split ids (drop (at + 1) ids) id t.front more lane behind-are;
        mids = now;
        changed = t.changed;
        own = caused.0;
        here = caused.1;
        lost = caused.2;
      }

      -- it may not go on
      pub lost-among : (fault : RestartFault) (noticed found n m : ℕ) → fault ≡ Lost noticed found → n ≡ noticed
          → m ≡ found → IsTakeCausedAt k handed lane (index_of id) now fault
          → IsLostAmong k handed (pairs ids all) olds id n m
      lost-among fault noticed found n m lost first second caused =
          subst (λ (x : ℕ). IsLostAmong k handed (pairs ids all) olds id x m) (sym first)
          (subst (λ (x : ℕ). IsLostAmong k handed (pairs ids all) olds id noticed x) (sym second)
          (next-lost noticed found
          (subst (λ (f : RestartFault). IsTakeCausedAt k handed lane (index_of id) now f) lost caused)))

-- ---- the slice of a vector

take-whole : {A : Type 0} (n : ℕ) (xs ys : List A) → length xs ≡ n → take n (xs ++ ys) ≡ xs
take-whole n xs ys e = subst (λ (m : ℕ). take m (xs ++ ys) ≡ xs) e (take-append_seam xs ys)

-- a vector's queues are those of its slice
pub changes-back : {Q : Type 0} (P : Q → Q → Type 0) (at : ℕ) (items queues news : List Q) (count : ℕ)
    → queues ≡ items → length queues ≡ count → ChangesAt P at queues news
    → ChangesAt P at items (take count (news ++ drop (length news) items))
changes-back P at items queues news count is many changes = record {
  old = changes.old;
  new = changes.new;
  here = subst (λ (l : List _). slice_get l at ≡ Some changes.old) is changes.here;
  is = take-whole count news (drop (length news) items) (ap length changes.is ∙ set-long queues at changes.new ∙ many)
      ∙ changes.is ∙ ap (λ (l : List _). slice_set l at changes.new) is;
  does = changes.does;
}
