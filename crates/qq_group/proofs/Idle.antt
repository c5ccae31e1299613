-- When a group is idle.
use Rattle.std.proofs.Common.{◌≡◌, ℕ, zero, suc, ◌≤◌, Bool, true, false, leb, eqb, List, [], ◌∷◌, length, Option, Some, None, refl, sym, ap, subst, ◌∙◌, arith}
use Rattle.std.specs.Prelude.{◌&&◌, slice_get}
use Rattle.std.specs.List.{list_all}
use Rattle.std.proofs.lemmas.Bool.{and_from, eqb-true, false≢true, le-leb, leb-true}
use Rattle.std.proofs.lemmas.Option.{none-some}
use Rattle.qq_log.specs.Log.{LogState}
use Rattle.qq_log.specs.declared.op.Op.{Op}
use Rattle.qq_raft_core.specs.Raft.{server_of}
use Rattle.qq_raft_msg.specs.declared.rpc.Rpc.{Rpc}
use Rattle.qq_raft_model.specs.State.{Server as Raft}
use Rattle.qq_raft.specs.declared.server.Server.{Server}
use Rattle.qq_raft_model.specs.Group.{Group as GroupState}
use Rattle.qq_raft_model.specs.Promises.{IsUp}
use Rattle.qq_group.specs.Group.{IsReached, IsSeat, IsSeatBy, Represents}
use Rattle.qq_group.specs.Reads.{has_settled, is_idle, IsIdle}
use Rattle.qq_group.specs.declared.group.Group.{Group}
use Rattle.qq_group.specs.declared.seat.Seat.{Seat}
use Rattle.qq_group.proofs.Taking.{CountLaw, handed-count}

and-first : (a b : Bool) → (a && b) ≡ true → a ≡ true
and-first true b is = refl
and-first false b is = absurd (false≢true is)

and-second : (a b : Bool) → (a && b) ≡ true → b ≡ true
and-second true b is = is
and-second false b is = absurd (false≢true is)

each-true : {A : Type 0} (f : A → Bool) (xs : List A) (k : ℕ) (x : A) → list_all f xs ≡ true
    → slice_get xs k ≡ Some x → f x ≡ true
each-true f [] k x all is = absurd (none-some x is)
each-true f (y ∷ xs) zero x all is = ap f (sym (some-is y x is)) ∙ and-first (f y) (list_all f xs) all
  where
    some-is : {B : Type 0} (a b : B) → Some a ≡ Some b → a ≡ b
    some-is a b e = grind (arith, e)
each-true f (y ∷ xs) (suc k) x all is = each-true f xs k x (and-second (f y) (list_all f xs) all) is

all-true : {A : Type 0} (f : A → Bool) (xs : List A)
    → ((k : ℕ) (x : A) → slice_get xs k ≡ Some x → f x ≡ true) → list_all f xs ≡ true
all-true f [] each = refl
all-true f (x ∷ xs) each =
    and_from (f x) (list_all f xs) (each zero x refl) (all-true f xs (λ k y is. each (suc k) y is))

no-ops : (ops : List Op) → length ops ≤ 0 → ops ≡ []
no-ops [] le = refl
no-ops (op ∷ ops) le = absurd (omega (arith, le))

no-messages : (bag : List Rpc) → eqb (length bag) 0 ≡ true → bag ≡ []
no-messages [] is = refl
no-messages (rpc ∷ bag) is = absurd (omega (arith, eqb-true (length (rpc ∷ bag)) 0 is))

-- ---- a member

settled-by : {Q L : Type 0} (log : L → LogState) → CountLaw → (g : GroupState) (k : ℕ) (s : Raft) (seat : Seat Q L)
    (o : Option (Server Q L)) → IsReached g → IsUp g k s → IsSeatBy log (g.seat k) seat o
    → has_settled log seat o ≡ true → (s.ops ≡ []) × (length (g.seat k).ops ≤ (g.seat k).noticed)
settled-by log law g k s seat None reached up is settled = absurd (none-some s (sym is.0 ∙ up))
settled-by log law g k s seat (Some t) reached up is settled =
    let view = server_of log t.raft in
    let same : view ≡ s = some-is view s (sym is.0 ∙ up) in
    let op : view.op ≤ seat.handed = leb-true view.op seat.handed (and-first (leb view.op seat.handed) _ settled) in
    let told : seat.handed ≤ seat.noticed =
    leb-true seat.handed seat.noticed (and-second (leb view.op seat.handed) _ settled) in
    let count = handed-count law g k s reached up in
    let number : view.op ≡ s.op = ap (λ (r : Raft). r.op) same in (
      no-ops s.ops (omega (arith, op, count, number, is.1.handed)),
      omega (arith, told, is.1.handed, is.1.noticed),
    )
  where
    some-is : (a b : Raft) → Some a ≡ Some b → a ≡ b
    some-is a b e = grind (arith, e)

settled-at : {Q L : Type 0} (log : L → LogState) → CountLaw → (g : GroupState) (k : ℕ) (s : Raft)
    (seats : List (Seat Q L)) (o : Option (Seat Q L)) → slice_get seats k ≡ o → IsReached g → IsUp g k s
    → IsSeat log (g.seat k) o → list_all (λ (seat : Seat Q L). has_settled log seat seat.server) seats ≡ true
    → (s.ops ≡ []) × (length (g.seat k).ops ≤ (g.seat k).noticed)
settled-at log law g k s seats None there reached up is all = absurd (none-some s (sym is ∙ up))
settled-at {Q = Q} {L = L} log law g k s seats (Some seat) there reached up is all =
    settled-by log law g k s seat seat.server reached up is
    (each-true (λ (x : Seat Q L). has_settled log x x.server) seats k seat all there)

open-by : {Q L : Type 0} (log : L → LogState) → CountLaw → (g : GroupState) (k : ℕ) (seat : Seat Q L)
    (o : Option (Server Q L)) → IsReached g → IsIdle g → IsSeatBy log (g.seat k) seat o
    → has_settled log seat o ≡ true
open-by log law g k seat None reached idle is = refl
open-by log law g k seat (Some t) reached idle is =
    let view = server_of log t.raft in
    let settled = idle.settled k view is.0 in
    let count = handed-count law g k view reached is.0 in
    let none : length view.ops ≡ 0 = ap length settled.0 in
    and_from (leb view.op seat.handed) (leb seat.handed seat.noticed)
    (le-leb view.op seat.handed (omega (arith, count, none, is.1.handed)))
    (le-leb seat.handed seat.noticed (omega (arith, settled.1, is.1.handed, is.1.noticed)))

-- ---- a group

pub is-idle : {Q L : Type 0} (log : L → LogState) → CountLaw → (g : GroupState) (group : Group Q L) → IsReached g
    → Represents log g group → is_idle log group ≡ true → IsIdle g
is-idle log law g group reached r is = record {
  bag = r.bag ∙ no-messages group.bag (and-first (eqb (length group.bag) 0) _ is);
  settled = λ k s up.
      settled-at log law g k s group.seats.items (slice_get group.seats.items k) refl reached up (r.seats k)
      (and-second (eqb (length group.bag) 0) _ is);
}

pub idle-is : {Q L : Type 0} (log : L → LogState) → CountLaw → (g : GroupState) (group : Group Q L) → IsReached g
    → Represents log g group → IsIdle g → is_idle log group ≡ true
idle-is {Q = Q} {L = L} log law g group reached r idle =
    and_from (eqb (length group.bag) 0) _ (ap (λ (bag : List Rpc). eqb (length bag) 0) (sym r.bag ∙ idle.bag))
    (all-true (λ (seat : Seat Q L). has_settled log seat seat.server) group.seats.items
    (λ k seat there.
    open-by log law g k seat seat.server reached idle (subst (IsSeat log (g.seat k)) there (r.seats k))))
