-- Queues are made, one for each row.
use Rattle.std.proofs.Common.{◌≡◌, ◌⊎◌, ◌<◌, ◌+◌, ℕ, zero, suc, List, [], ◌∷◌, ◌++◌, None, Some, get_or, length, take, refl, sym, ap, ◌∙◌, subst, inl, inr, arith, length-append}
use Rattle.std.specs.Prelude.{IfOk, Ok, Result, slice_get}
use Rattle.std.proofs.lemmas.List.{take_more}
use Rattle.std.proofs.lemmas.Option.{slice_get_within}
use Rattle.qq_base.specs.declared.ids.NodeId.{NodeId}
use Rattle.qq_entry.specs.declared.queue.QueueArgs.{QueueArgs}
use Rattle.qq_group.specs.Group.{IsReached, server_at}
use Rattle.qq_log.specs.declared.op.Op.{Op}
use Rattle.qq_raft_model.specs.Group.{new_group}
use Rattle.qq_route.specs.declared.queue_row.QueueRow.{QueueRow}
use Rattle.qq_queue.specs.Agreeing.{BeginsWith}
use Rattle.qq_queue.specs.ClusterQueue.{Opens}
use Rattle.qq_queue.specs.Members.{AreSound}
use Rattle.qq_queue.specs.declared.cluster_queue.ClusterQueue.{ClusterQueue}
use Rattle.qq_cluster.specs.Setting.{AreQueuesFor, IsQueueFor}

-- what is said of a result, where it is this one
pub of-ok : {A E : Type 0} (P : A → Type 0) (r : Result A E) (x : A) → r ≡ Ok x → IfOk r P → P x
of-ok {A} {E} P r x is ok = subst (λ (s : Result A E). IfOk s P) is ok

-- an item of a list with one more
pub get-last : {A : Type 0} (xs : List A) (x y : A) (at : ℕ) → slice_get (xs ++ x ∷ []) at ≡ Some y
    → (slice_get xs at ≡ Some y) ⊎ ((at ≡ length xs) × (y ≡ x))
get-last [] x y zero is = inr (refl, (let e : y ≡ x = cc in e))
get-last [] x y (suc at) is = absurd cc
get-last (z ∷ xs) x y zero is = inl is
get-last (z ∷ xs) x y (suc at) is =
    elim (get-last xs x y at is) [
      | inl there ↦ inl there
      | inr last ↦ inr (ap suc last.0, last.1)
    ]

-- as many, with one more
one-more : {A B : Type 0} (xs : List A) (ys : List B) (x : A) (y : B) → length xs ≡ length ys
    → length (xs ++ x ∷ []) ≡ length (ys ++ y ∷ [])
one-more xs ys x y same =
    length-append xs (x ∷ []) ∙ (let e : length xs + 1 ≡ length ys + 1 = omega (arith, same) in e)
    ∙ sym (length-append ys (y ∷ []))

-- what holds of the items of two lists at the same index, with one more
pairs-more : {A B : Type 0} (P : ℕ → A → B → Type 0) (xs : List A) (ys : List B) (x : A) (y : B) → length ys ≡ length xs
    → ((at : ℕ) (a : A) (b : B) → slice_get xs at ≡ Some a → slice_get ys at ≡ Some b → P at a b)
    → P (length xs) x y
    → (at : ℕ) (a : A) (b : B) → slice_get (xs ++ x ∷ []) at ≡ Some a → slice_get (ys ++ y ∷ []) at ≡ Some b → P at a b
pairs-more {A} {B} P xs ys x y many each own at a b first second =
    by (get-last xs x a at first) (get-last ys y b at second)
  where
    by : ((slice_get xs at ≡ Some a) ⊎ ((at ≡ length xs) × (a ≡ x)))
        → ((slice_get ys at ≡ Some b) ⊎ ((at ≡ length ys) × (b ≡ y))) → P at a b
    by (inl here) (inl there) = each at a b here there
    by (inl here) (inr last) =
        let lt = slice_get_within xs at a here in let is = last.0 in absurd (omega (arith, lt, is, many))
    by (inr last) (inl there) =
        let lt = slice_get_within ys at b there in let is = last.0 in absurd (omega (arith, lt, is, many))
    by (inr last) (inr other) =
        subst (λ (i : ℕ). P i a b) (sym last.0)
        (subst (λ (c : A). P (length xs) c b) (sym last.1) (subst (λ (c : B). P (length xs) x c) (sym other.1) own))

-- ---- queues

-- a queue has the arguments with which it begins
own-args : (args : QueueArgs) (nodes : List NodeId) (d : ClusterQueue) → IsReached (new_group args.queue nodes)
    → Opens args nodes d → d.args ≡ args
own-args args nodes d reached opens =
    sym (opens (new_group args.queue nodes) reached
    (record { queue_is = refl; nodes_is = refl; seats = λ k. refl; bag = refl; audit_is = refl })).args

pub queue-made : (row : QueueRow) (args : QueueArgs) (name : List ℕ) (nodes : List NodeId)
    (d : ClusterQueue) → args ≡ row.args → name ≡ row.name → nodes ≡ row.members
    → IsReached (new_group row.args.queue row.members) → AreSound d.group → Opens args nodes d
    → d.name ≡ name → d.group.nodes.items ≡ nodes
    → ((k : ℕ) → server_at k d.group ≡ None) → ((logs : ℕ → List Op) → BeginsWith logs d) → IsQueueFor row d
queue-made row args name nodes d args_is name_is nodes_is reached sound opens named own_nodes down begins =
    let opens_row : Opens row.args row.members d =
    subst (λ (a : QueueArgs). Opens a row.members d) args_is
    (subst (λ (l : List NodeId). Opens args l d) nodes_is opens) in
    record {
      sound = sound;
      opens = opens_row;
      args_is = own-args row.args row.members d reached opens_row;
      nodes_is = own_nodes ∙ nodes_is;
      name_is = named ∙ name_is;
      down = down;
      begins = begins;
    }

pub queues-none : AreQueuesFor [] []
queues-none = record { count = refl; each = λ at row d here there. absurd (none at row here) }
  where
    none : (at : ℕ) (row : QueueRow) → slice_get [] at ≡ Some row → ⊥
    none at row is = absurd cc

pub queues-more : (rows : List QueueRow) (at : ℕ) (row : QueueRow) (queues all : List ClusterQueue) (d : ClusterQueue)
    → slice_get rows at ≡ Some row → AreQueuesFor (take at rows) queues → IsQueueFor row d
    → all ≡ queues ++ d ∷ [] → AreQueuesFor (take (at + 1) rows) all
queues-more rows at row queues all d here are own is =
    subst (AreQueuesFor (take (at + 1) rows)) (sym is)
    (subst (λ (l : List QueueRow). AreQueuesFor l (queues ++ d ∷ [])) (sym taken) (record {
      count = one-more queues (take at rows) d row are.count;
      each = pairs-more (λ (i : ℕ) r q. IsQueueFor r q) (take at rows) queues row d are.count are.each own;
    }))
  where
    long : {A : Type 0} (xs : List A) (i : ℕ) → i < length xs → length (take i xs) ≡ i
    long [] i lt = absurd (omega (arith, lt))
    long (x ∷ xs) zero lt = refl
    long (x ∷ xs) (suc i) lt = ap suc (long xs i (omega (arith, lt)))

    at-row : (xs : List QueueRow) (i : ℕ) → slice_get xs i ≡ Some row → get_or xs i row ≡ row
    at-row [] i is = absurd cc
    at-row (x ∷ xs) zero is = let e : x ≡ row = cc in e
    at-row (x ∷ xs) (suc i) is = at-row xs i is

    taken : take (at + 1) rows ≡ take at rows ++ row ∷ []
    taken =
        take_more rows at row (slice_get_within rows at row here)
        ∙ ap (λ (r : QueueRow). take at rows ++ r ∷ []) (at-row rows at here)
