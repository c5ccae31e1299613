-- Ops that are given back.
use Rattle.std.proofs.Common.{◌≡◌, ◌⊎◌, ℕ, ◌<◌, Bool, true, false, List, length, Option, Some, None, refl, sym, ap, subst, ◌∙◌, inl, inr}
use Rattle.std.specs.Prelude.{◌&&◌, if◌then◌else◌, is_some, IfSome, slice_get, slice_set}
use Rattle.std.proofs.lemmas.Bool.{cases_eq, false≢true}
use Rattle.qq_log.specs.Log.{LogState}
use Rattle.qq_log.specs.Writable.{MayWrite}
use Rattle.qq_log.specs.declared.op.Op.{Op}
use Rattle.qq_raft_core.specs.Raft.{server_of}
use Rattle.qq_raft_core.specs.declared.raft.Raft.{Raft}
use Rattle.qq_raft.specs.declared.server.Server.{Server}
use Rattle.qq_group.specs.Follows.{KeepsQueue}
use Rattle.qq_group.specs.Group.{IsReturned, server_at, server_by}
use Rattle.qq_group.specs.Handing.{given_back, has_returned, next_by, returned_at, with_returned, IsHandedOutAt, KeepsReturned, Refills}
use Rattle.qq_group.specs.Step.{ChangesSeat}
use Rattle.qq_group.specs.declared.group.Group.{Group}
use Rattle.qq_group.specs.declared.seat.Seat.{Seat}
use Rattle.qq_group.proofs.Seats.{set-other, set-own}
use Rattle.qq_group.proofs.Stepped.{changed-other, changed-own}

pub refills : {Q L : Type 0} (k : ℕ) (returned after : Option Op) (seat : Seat Q L) (old new : Group Q L)
    → k < length old.seats.items → slice_get old.seats.items k ≡ Some seat → after ≡ returned
    → new.seats.items ≡ slice_set old.seats.items k (record seat { returned = after }) → new.queue ≡ old.queue
    → new.nodes ≡ old.nodes → new.bag ≡ old.bag → new.audit ≡ old.audit → Refills k returned old new
refills {Q = Q} {L = L} k returned after seat old new lt there is set queue nodes bag audit = record {
  seat = ap (λ (l : List (Seat Q L)). slice_get l k) set
      ∙ set-own old.seats.items k (record seat { returned = after }) lt
      ∙ ap (λ (r : Option Op). Some (record seat { returned = r })) is
      ∙ sym (ap (with_returned returned) there);
  only = record {
    others = λ q other.
        ap (λ (l : List (Seat Q L)). slice_get l q) set
        ∙ set-other old.seats.items k q (record seat { returned = after }) other;
    queue = queue;
    nodes = nodes;
    bag = bag;
    audit = audit;
  };
}

pub may-write : (returned : Option Op) → IsReturned returned → IfSome returned MayWrite
may-write None is = tt
may-write (Some op) is = is

pub may-return : (ok : Bool) (returned : Option Op) → IsReturned returned → IsReturned (if ok then None else returned)
may-return true returned is = tt
may-return false returned is = is

pub returned-there : {Q L : Type 0} (o : Option (Seat Q L)) (seat : Seat Q L) → o ≡ Some seat
    → is_some seat.server ≡ true → is_some seat.returned ≡ true → has_returned o ≡ true
returned-there {Q = Q} {L = L} o seat there up some =
    ap (λ (p : Option (Seat Q L)). has_returned p) there
    ∙ ap (λ b. b && is_some seat.returned) up
    ∙ ap (λ b. true && b) some

pub given : {Q L : Type 0} (takes : Bool) (op : Op) (seat : Option (Seat Q L)) → takes ≡ true
    → with_returned (Some op) seat ≡ given_back takes op seat
given true op seat is = refl
given false op seat is = absurd (false≢true is)

-- ---- what leaves it there

pub changes-returned : {Q L : Type 0} (k : ℕ) (was now : Seat Q L) (old new : Group Q L) → ChangesSeat k was now old new
    → now.returned ≡ was.returned → KeepsReturned old new
changes-returned {Q = Q} {L = L} k was now old new c same = λ q. by q (cases_eq q k)
  where
    by : (q : ℕ) → (q ≡ k) ⊎ (q ≡ k → ⊥)
        → returned_at (slice_get new.seats.items q) ≡ returned_at (slice_get old.seats.items q)
    by q (inl is) =
        subst (λ (j : ℕ). returned_at (slice_get new.seats.items j) ≡ returned_at (slice_get old.seats.items j))
        (sym is) (ap returned_at (changed-own k was now old new c) ∙ same ∙ sym (ap returned_at c.there))
    by q (inr other) = ap returned_at (changed-other k q was now old new c other)

-- ---- and what takes it

pub none-returned : {Q L : Type 0} (seat : Option (Seat Q L)) → returned_at (with_returned None seat) ≡ None
none-returned None = refl
none-returned (Some seat) = refl

pub any-some : (result : Option Op) → IfSome result (λ _. ◌≡◌ {A = Option Op} None None)
any-some None = tt
any-some (Some op) = refl

left-by : {Q L : Type 0} (log : L → LogState) (returned : Option Op) (o : Option (Server Q L))
    → (is_some o && is_some returned) ≡ false → IfSome (next_by log None o) (λ _. returned ≡ None)
left-by log returned None is = tt
left-by log (Some op) (Some s) is = absurd (false≢true (sym is))
left-by log None (Some s) is = any-some (slice_get (server_of log s.raft).ops 0)

-- where the next op is the server's own, none was given back
pub left-none : {Q L : Type 0} (log : L → LogState) (seat : Option (Seat Q L)) → has_returned seat ≡ false
    → IfSome (next_by log None (server_by seat)) (λ _. returned_at seat ≡ None)
left-none log None is = tt
left-none log (Some seat) is = left-by log seat.returned seat.server is

pub left-after : (result next : Option Op) (old new : Option Op) → result ≡ next → new ≡ old
    → IfSome next (λ _. old ≡ None) → IfSome result (λ _. new ≡ None)
left-after None next old new is same left = tt
left-after (Some op) next old new is same left =
    same ∙ subst (λ (o : Option Op). IfSome o (λ _. old ≡ None)) (sym is) left

-- ---- the queues of those that hand ops out

pub keeps-same : {Q L : Type 0} (o : Option (Server Q L)) → KeepsQueue o o
keeps-same None = refl
keeps-same (Some s) = refl

pub keeps-down : {Q L : Type 0} (k : ℕ) (old new : Group Q L) → new ≡ old → server_at k old ≡ None
    → KeepsQueue (server_at k old) (server_at k new)
keeps-down {Q = Q} {L = L} k old new same down =
    subst (λ (o : Option (Server Q L)). KeepsQueue o (server_at k new)) (sym down)
    (ap (λ (x : Group Q L). server_at k x) same ∙ down)

keeps-up : {Q L : Type 0} (k : ℕ) (s t : Server Q L) (old new : Group Q L) → server_at k old ≡ Some s
    → server_at k new ≡ Some t → t ≡ record s { raft = t.raft } → KeepsQueue (server_at k old) (server_at k new)
keeps-up {Q = Q} {L = L} k s t old new was now same =
    subst (λ (o : Option (Server Q L)). KeepsQueue o (server_at k new)) (sym was)
    (subst (λ (o : Option (Server Q L)). KeepsQueue (Some s) o) (sym now) same)

keeps-at : {Q L : Type 0} (s : Server Q L) (r : Raft L) (t : Server Q L) → t ≡ record s { raft = r } → t ≡ record s { raft = t.raft }
keeps-at {Q = Q} {L = L} s r t is = is ∙ ap (λ (x : Server Q L). record s { raft = x.raft }) (sym is)

pub handed-queue : {Q L : Type 0} (n k : ℕ) (old new : Group Q L) → IsHandedOutAt n k old new
    → KeepsQueue (server_at k old) (server_at k new)
handed-queue {Q = Q} {L = L} n k old new d =
    keeps-up k d.out.was d.out.now old new (ap server_by d.changes.there ∙ d.out.up)
    (ap server_by (changed-own k d.seat d.now old new d.changes) ∙ ap (λ (x : Seat Q L). x.server) d.out.seat)
    (keeps-at d.out.was (record d.out.was.raft { ops = d.out.now.raft.ops }) d.out.now d.out.same)

refilled-server : {Q L : Type 0} (returned : Option Op) (seat : Option (Seat Q L))
    → server_by (with_returned returned seat) ≡ server_by seat
refilled-server returned None = refl
refilled-server returned (Some seat) = refl

pub refilled-queue : {Q L : Type 0} (k : ℕ) (returned : Option Op) (old new : Group Q L) → Refills k returned old new
    → KeepsQueue (server_at k old) (server_at k new)
refilled-queue {Q = Q} {L = L} k returned old new r =
    subst (λ (o : Option (Server Q L)). KeepsQueue (server_at k old) o)
    (sym (ap server_by r.seat ∙ refilled-server returned (slice_get old.seats.items k))) (keeps-same (server_at k old))
