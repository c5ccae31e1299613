-- The inbox: what was offered is what was taken and then what it holds, in order.
use Rattle.std.specs.Prelude.{◌≡◌, ◌≢◌, ◌+◌, ◌≤◌, ℕ, Bool, true, false, cond, ◌||◌, List, [], ◌∷◌, ◌++◌, length}
use mathlib.Core.List.{IsPrefix}
use Rattle.qq_base.specs.declared.ids.QueueId.{QueueId}
use Rattle.qq_log.specs.declared.op.Op.{Op}
use Rattle.qq_log.specs.Carries.{Carries, GoesOn, add_ops}
use Rattle.qq_log.specs.Op.{queue}
use Rattle.qq_log.specs.Writable.{MayWrite}
use Rattle.qq_inbox.specs.declared.pass.PassView.{PassView}
use Rattle.qq_inbox.specs.Rights.{Owned}

-- ---- which op may come next

-- An op may come after these, where the log stood at these carries of these queues before them: it goes on where its
-- queue stands now, and the log writes it.
abbrev pub MayCome : List QueueId → Carries → List Op → Op → Type 0
MayCome queues carries ops op = GoesOn queues (add_ops carries ops) op × MayWrite op

-- each op may come after those before it
abbrev pub InOrder : List QueueId → Carries → List Op → Type 0
InOrder queues carries ops =
    (front : List Op) (op : Op) (back : List Op) → ops ≡ front ++ op ∷ back → MayCome queues carries front op

-- none of these is an op of the queue
abbrev pub NoneOf : ℕ → List Op → Type 0
NoneOf id [] = Unit {0}
NoneOf id (op ∷ ops) = ((queue op).0 ≢ id) × NoneOf id ops

-- ---- what a pass knows

abbrev pub pass_view : Bool → Bool → List Op → List Op → PassView
pass_view offers takes offered taken =
    record { offers = offers; takes = takes; offered = offered; taken = taken }

-- that of a new inbox's pass
abbrev pub first_view : PassView
first_view = pass_view true true [] []

-- that of a pass that was joined to another
abbrev pub spent_view : PassView
spent_view = pass_view false false [] []

abbrev pub with_offered : PassView → Op → PassView
with_offered v op = pass_view v.offers v.takes (v.offered ++ op ∷ []) v.taken

abbrev pub with_taken : PassView → Op → PassView
with_taken v op = pass_view v.offers v.takes v.offered (v.taken ++ op ∷ [])

-- a split leaves a pass the right to offer
abbrev pub left_view : PassView → PassView
left_view v = pass_view v.offers false v.offered []

-- and gives the new pass the right to take
abbrev pub given_view : PassView → PassView
given_view v = pass_view false v.takes [] v.taken

-- each right, with what belongs to it, from the one that has it
abbrev pub joined_view : PassView → PassView → PassView
joined_view v w =
    pass_view (v.offers || w.offers) (v.takes || w.takes) (cond v.offers v.offered w.offered)
    (cond v.takes v.taken w.taken)

-- ---- the rule

-- What was offered is what was taken and then what the inbox holds, and each op came in order, from where the log
-- stood. One pass at most may offer, and knows what was offered; one at most may take, and knows what was taken.
abbrev pub HandedOver : List QueueId → Carries → List Op → List PassView → Type 0
HandedOver queues carries items views =
    (offered : List Op) × (taken : List Op) × (offered ≡ taken ++ items) × InOrder queues carries offered
    × Owned (λ (v : PassView). v.offers) (λ (v : PassView). v.offered) offered views
    × Owned (λ (v : PassView). v.takes) (λ (v : PassView). v.taken) taken views

-- what a pass can tell of the ops that the inbox holds
abbrev pub Tells : PassView → List Op → Type 0
Tells v items =
    (v.offers ≡ true → (before : List Op) × (v.offered ≡ before ++ items))
    × (v.offers ≡ true → v.takes ≡ true → v.offered ≡ v.taken ++ items)

-- ---- what a call tells

-- the inbox held as many ops as it may, as far as the pass can tell
abbrev pub IsFull : ℕ → PassView → Type 0
IsFull capacity v =
    (capacity ≤ length v.offered) × (v.takes ≡ true → length v.offered ≡ length v.taken + capacity)

-- the inbox held no op, as far as the pass can tell
abbrev pub IsEmpty : PassView → Type 0
IsEmpty v = v.offers ≡ true → v.taken ≡ v.offered

-- what was taken begins what was offered, where the pass knows both
abbrev pub Begins : PassView → Type 0
Begins v = v.offers ≡ true → v.takes ≡ true → IsPrefix v.taken v.offered
