-- The lanes of queues are taken, one after the other.
use Rattle.std.proofs.Common.{◌≡◌, ◌≢◌, ◌≤◌, ◌<◌, ◌+◌, ℕ, List, [], ◌∷◌, ◌++◌, Option, None, length, take, drop, get_or, sym, ap, ◌∙◌, subst}
use Rattle.std.specs.Prelude.{IfSome}
use Rattle.std.specs.List.{AllByRecursion, AllZip}
use Rattle.qq_base.proofs.Lists.{AllByRecursion-append}
use Rattle.std.proofs.lemmas.List.{drop_more, take_all, take_more}
use Rattle.qq_base.specs.declared.ids.QueueId.{QueueId}
use Rattle.qq_wal_chain.specs.Image.{put}
use Rattle.qq_wal_chain.specs.Lanes.{Lanes}
use Rattle.qq_wal_chain.proofs.Walk.{put-other}
use Rattle.qq_log.specs.declared.lane.Lane.{Lane}
use Rattle.qq_log.specs.Stable.{Stable}
use Rattle.qq_recover.specs.Recovered.{IsLaneFor}
use Rattle.qq_recover.specs.State.{IsWithinEnds}
use Rattle.qq_lots.proofs.Each.{all-both}
use Rattle.qq_node_log.specs.Found.{AreDistinct, AreLanes}

-- these queues' lanes are as they were at first
abbrev pub AreLeft : Lanes → Lanes → List QueueId → Type 0
AreLeft first left queues = AllByRecursion (λ (id : QueueId). left id.0 ≡ first id.0) queues

next-queue : (queues : List QueueId) (at : ℕ) (id d : QueueId) → at < length queues → id ≡ get_or queues at d
    → drop at queues ≡ id ∷ drop (at + 1) queues
next-queue queues at id d lt is =
    drop_more queues at d lt ∙ ap (λ (q : QueueId). q ∷ drop (at + 1) queues) (sym is)

pub apart-later : (queues : List QueueId) (at : ℕ) → at < length queues → AreDistinct (drop at queues)
    → AreDistinct (drop (at + 1) queues)
apart-later queues at lt apart =
    let none : QueueId = record { 0 = 0 } in
    (subst AreDistinct (drop_more queues at none lt) apart).1

-- once a queue's lane is taken, those after it are as they were
pub left-later : (first left next : Lanes) (queues : List QueueId) (at : ℕ) (id d : QueueId) → at < length queues
    → id ≡ get_or queues at d → next ≡ put left id.0 None → AreDistinct (drop at queues)
    → AreLeft first left (drop at queues) → AreLeft first next (drop (at + 1) queues)
left-later first left next queues at id d lt is taken apart same =
    all-both (λ (other : QueueId). other.0 ≢ id.0) (λ (other : QueueId). left other.0 ≡ first other.0)
    (λ (other : QueueId). next other.0 ≡ first other.0)
    (λ other away there. ap (λ (lanes : Lanes). lanes other.0) taken
    ∙ put-other left id.0 other.0 None (λ equal. away (sym equal)) ∙ there) (drop (at + 1) queues)
    (subst AreDistinct (next-queue queues at id d lt is) apart).0
    (subst (AreLeft first left) (next-queue queues at id d lt is) same).1

zip-push : {A B : Type 0} (R : A → B → Type 0) (xs : List A) (ys : List B) (x : A) (y : B) → AllZip R xs ys → R x y
    → AllZip R (xs ++ x ∷ []) (ys ++ y ∷ [])
zip-push R [] [] x y all here = (here, tt)
zip-push R [] (b ∷ ys) x y all here = absurd all
zip-push R (a ∷ xs) [] x y all here = absurd all
zip-push R (a ∷ xs) (b ∷ ys) x y all here = (all.0, zip-push R xs ys x y all.1 here)

-- and its lane stands after those before it
pub taken-later : (first left : Lanes) (queues : List QueueId) (found later : List (Option Lane)) (at : ℕ)
    (id d : QueueId) (lane : Option Lane) → at < length queues → id ≡ get_or queues at d
    → later ≡ found ++ lane ∷ [] → AreLeft first left (drop at queues) → IsLaneFor id (left id.0) lane
    → AreLanes (take at queues) first found → AreLanes (take (at + 1) queues) first later
taken-later first left queues found later at id d lane lt is more same here all =
    let R : QueueId → Option Lane → Type 0 = λ (q : QueueId) (l : Option Lane). IsLaneFor q (first q.0) l in
    let lanes : AllZip R (take at queues ++ id ∷ []) (found ++ lane ∷ []) =
    zip-push R (take at queues) found id lane all
    (subst (λ (state : Option Stable). IsLaneFor id state lane)
    (subst (AreLeft first left) (next-queue queues at id d lt is) same).0 here) in
    let front : take at queues ++ id ∷ [] ≡ take (at + 1) queues =
    ap (λ (q : QueueId). take at queues ++ q ∷ []) is ∙ sym (take_more queues at d lt) in
    subst (λ (ids : List QueueId). AllZip R ids later) front
    (subst (AllZip R (take at queues ++ id ∷ [])) (sym more) lanes)

pub taken-all : (first : Lanes) (queues : List QueueId) (found : List (Option Lane)) (at : ℕ) → length queues ≤ at
    → AreLanes (take at queues) first found → AreLanes queues first found
taken-all first queues found at end all =
    subst (λ (ids : List QueueId). AreLanes ids first found) (take_all at queues end) all

-- each is within its ends
pub within-later : (found later : List (Option Lane)) (lane : Option Lane) → later ≡ found ++ lane ∷ []
    → AllByRecursion (λ (l : Option Lane). IfSome l IsWithinEnds) found → IfSome lane IsWithinEnds
    → AllByRecursion (λ (l : Option Lane). IfSome l IsWithinEnds) later
within-later found later lane more all here =
    subst (AllByRecursion (λ (l : Option Lane). IfSome l IsWithinEnds)) (sym more)
    (AllByRecursion-append (λ (l : Option Lane). IfSome l IsWithinEnds) found (lane ∷ []) all (here, tt))
