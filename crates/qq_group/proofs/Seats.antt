-- What a change of one seat leaves of the others.
use Rattle.std.proofs.Common.{◌≡◌, ◌⊎◌, ℕ, zero, suc, ◌<◌, ◌^◌, Bool, true, false, List, [], ◌∷◌, get_or, length, Option, Some, None, refl, ap, ◌∙◌, sym, subst, arith, inl, inr}
use Rattle.std.specs.Prelude.{All, is_some, IfNone, IfSome, slice_get, slice_set}
use Rattle.std.proofs.lemmas.Bool.{cases_eq, false≢true, ltb-false, ltb-true}
use Rattle.std.proofs.lemmas.List.{length-set}
use Rattle.std.proofs.lemmas.Option.{slice_get_cases, slice_get_past, slice_get_read}
use Rattle.std.proofs.Math.Dec.{ltb}
use Rattle.qq_base.specs.declared.ids.NodeId.{NodeId}
use Rattle.qq_log.specs.Log.{LogState}
use Rattle.qq_raft_core.specs.Ends.{IsSendable}
use Rattle.qq_raft_msg.specs.Rpc.{IsNode}
use Rattle.qq_group.specs.Group.{server_by, IsServed, IsReturned, HasReturned, IsLeft, HasLeft, IsSound}
use Rattle.qq_group.specs.declared.group.Group.{Group}
use Rattle.qq_group.specs.declared.seat.Seat.{Seat}

-- the seat itself
pub set-own : {A : Type 0} (xs : List A) (k : ℕ) (x : A) → k < length xs → slice_get (slice_set xs k x) k ≡ Some x
set-own [] k x lt = absurd (omega (arith, lt))
set-own (y ∷ xs) zero x lt = refl
set-own (y ∷ xs) (suc k) x lt = set-own xs k x (omega (arith, lt))

-- another one
pub set-other : {A : Type 0} (xs : List A) (k i : ℕ) (x : A) → (i ≡ k → ⊥)
    → slice_get (slice_set xs k x) i ≡ slice_get xs i
set-other [] k i x other = refl
set-other (y ∷ xs) zero zero x other = absurd (other refl)
set-other (y ∷ xs) zero (suc i) x other = refl
set-other (y ∷ xs) (suc k) zero x other = refl
set-other (y ∷ xs) (suc k) (suc i) x other = set-other xs k i x (λ e. other (ap suc e))

by-place : {A : Type 0} (P : ℕ → Option A → Type 0) (xs : List A) (k i : ℕ) (x : A) → k < length xs
    → P k (Some x) → P i (slice_get xs i) → (i ≡ k) ⊎ (i ≡ k → ⊥) → P i (slice_get (slice_set xs k x) i)
by-place P xs k i x lt own was (inl same) =
    subst (λ (j : ℕ). P j (slice_get (slice_set xs k x) j)) (sym same)
    (subst (P k) (sym (set-own xs k x lt)) own)
by-place P xs k i x lt own was (inr other) = subst (P i) (sym (set-other xs k i x other)) was

-- what holds of the seat that changed, and of all before, holds of all
pub set-each : {A : Type 0} (P : ℕ → Option A → Type 0) (xs : List A) (k : ℕ) (x : A) → k < length xs
    → P k (Some x) → ((i : ℕ) → P i (slice_get xs i)) → (i : ℕ) → P i (slice_get (slice_set xs k x) i)
set-each P xs k x lt own was i = by-place P xs k i x lt own (was i) (cases_eq i k)

-- a soundness of seats is kept where one changes
pub served-put : {P Q L : Type 0} (stands : P → Q → Type 0) (log : L → LogState) (index_of : Q → ℕ)
    (xs : List (Seat Q L)) (k : ℕ) (x : Seat Q L) → k < length xs → IsServed stands log index_of x.server
    → ((i : ℕ) → IsServed stands log index_of (server_by (slice_get xs i))) → (i : ℕ)
    → IsServed stands log index_of (server_by (slice_get (slice_set xs k x) i))
served-put stands log index_of xs k x lt own was =
    set-each (λ i o. IsServed stands log index_of (server_by o)) xs k x lt own was

pub returned-put : {Q L : Type 0} (xs : List (Seat Q L)) (k : ℕ) (x : Seat Q L) → k < length xs
    → IsReturned x.returned → ((i : ℕ) → HasReturned (slice_get xs i)) → (i : ℕ)
    → HasReturned (slice_get (slice_set xs k x) i)
returned-put xs k x lt own was = set-each (λ i o. HasReturned o) xs k x lt own was

pub left-put : {Q L : Type 0} (log : L → LogState) (xs : List (Seat Q L)) (k : ℕ) (x : Seat Q L) → k < length xs
    → IsLeft log x.left → ((i : ℕ) → HasLeft log (slice_get xs i)) → (i : ℕ)
    → HasLeft log (slice_get (slice_set xs k x) i)
left-put log xs k x lt own was = set-each (λ i o. HasLeft log o) xs k x lt own was

pub left-at : {Q L : Type 0} (log : L → LogState) (xs : List (Seat Q L)) (k : ℕ) (x : Seat Q L) → slice_get xs k ≡ Some x
    → ((i : ℕ) → HasLeft log (slice_get xs i)) → IsLeft log x.left
left-at log xs k x is was = subst (HasLeft log) is (was k)

-- and so is a group's
pub sound-put : {P Q L : Type 0} (stands : P → Q → Type 0) (log : L → LogState) (index_of : Q → ℕ) (k : ℕ)
    (x : Seat Q L) (old new : Group Q L) → k < length old.seats.items → IsServed stands log index_of x.server
    → IsReturned x.returned → IsLeft log x.left → new.seats.items ≡ slice_set old.seats.items k x
    → All IsSendable new.bag → new.nodes ≡ old.nodes → IsSound stands log index_of old
    → IsSound stands log index_of new
sound-put {Q = Q} {L = L} stands log index_of k x old new lt served returned left seats bag nodes sound = record {
  servers = subst (λ (l : List (Seat Q L)). (i : ℕ) → IsServed stands log index_of (server_by (slice_get l i))) (sym seats)
      (served-put stands log index_of old.seats.items k x lt served sound.servers);
  returned = subst (λ (l : List (Seat Q L)). (i : ℕ) → HasReturned (slice_get l i)) (sym seats)
      (returned-put old.seats.items k x lt returned sound.returned);
  left = subst (λ (l : List (Seat Q L)). (i : ℕ) → HasLeft log (slice_get l i)) (sym seats)
      (left-put log old.seats.items k x lt left sound.left);
  bag = bag;
  nodes = subst (λ (v : List NodeId). All IsNode v) (sym (ap (λ v. v.items) nodes)) sound.nodes;
  count = subst (λ (v : List NodeId). length v < 2 ^ 32) (sym (ap (λ v. v.items) nodes)) sound.count;
  seats = ap (λ (l : List (Seat Q L)). length l) seats ∙ length-set old.seats.items k x ∙ sound.seats;
}

-- an op that a seat was given back
pub returned-at : {Q L : Type 0} (xs : List (Seat Q L)) (k : ℕ) (x : Seat Q L) → slice_get xs k ≡ Some x
    → ((i : ℕ) → HasReturned (slice_get xs i)) → IsReturned x.returned
returned-at xs k x is was = subst HasReturned is (was k)

-- a look-up past the end
pub none-past : {A B : Type 0} (r : Option B) (xs ys : List A) (k : ℕ) → is_some r ≡ ltb k (length ys) → ys ≡ xs
    → IfNone r (slice_get xs k ≡ None)
none-past (Some x) xs ys k there same = tt
none-past None xs ys k there same =
    slice_get_past xs k (ltb-false k (length xs) (sym (there ∙ ap (λ l. ltb k (length l)) same)))

pub some-read : {A B : Type 0} (r : Option B) (f : B → A) (xs ys : List A) (k : ℕ) → is_some r ≡ ltb k (length ys) → ys ≡ xs
    → IfSome r (λ b. f b ≡ get_or ys k (f b)) → IfSome r (λ b. slice_get xs k ≡ Some (f b))
some-read None f xs ys k there same is = tt
some-read (Some b) f xs ys k there same is =
    ap (λ l. slice_get l k) (sym same)
    ∙ slice_get_read ys (length ys) k (f b) refl (ltb-true k (length ys) (sym there)) is

-- what is true of a seat alone says that it is there
pub there-of : {A : Type 0} (xs : List A) (k : ℕ) (f : Option A → Bool) → f None ≡ false
    → f (slice_get xs k) ≡ true → k < length xs
there-of xs k f none is =
    elim (slice_get_cases xs k).1 [
      | inl found ↦ found.1
      | inr beyond ↦ absurd (false≢true (sym none ∙ ap f (sym beyond.1) ∙ is))
    ]
