-- What a message that is taken, copied or delivered makes of the states that a group stands for.
use Rattle.std.proofs.Common.{◌≡◌, ℕ, zero, suc, ◌+◌, ◌≤◌, Bool, true, false, List, [], ◌∷◌, ◌++◌, length, take, drop, Option, Some, None, refl, sym, ap, subst, ◌∙◌, append-nil, arith}
use Rattle.std.specs.Prelude.{All, IsSomeAnd, if◌then◌else◌, slice_get}
use Rattle.std.proofs.lemmas.List.{length-drop, take_all}
use Rattle.std.proofs.lemmas.List.Elements.{All-append, All-drop, All-get_or, All-take}
use Rattle.std.proofs.Math.ListN.{drop_of_length-le}
use Rattle.std.proofs.lemmas.Option.{none-some, get_or_from_slice_get, slice_get_within}
use Rattle.qq_base.specs.Fronts.{IsFront}
use Rattle.qq_log.specs.Log.{LogState}
use Rattle.qq_raft_msg.specs.Bag.{at_place, without}
use Rattle.qq_raft_msg.specs.Rpc.{envelope}
use Rattle.qq_raft_msg.specs.declared.rpc.Rpc.{Rpc}
use Rattle.qq_raft_model.specs.Server.{Input}
use Rattle.qq_raft.specs.declared.server.Server.{Server}
use Rattle.qq_raft_model.specs.Group.{Group as GroupState, Seat as SeatState, deliver_by, feed, happens}
use Rattle.qq_raft_model.specs.Group.Event.{Deliver, Lose, Crash}
use Rattle.qq_group.specs.Events.{OneOf, copies, crash_on, delivers, delivery, loses, refuses, takes, takes_at, with_copy, AddsDelivery}
use Rattle.qq_group.specs.Follows.{AddsNothing, Feeds, Follows, Makes}
use Rattle.qq_group.specs.Group.{IsReached, IsSeat, IsSeatBy, Represents, server_at, server_by}
use Rattle.qq_group.specs.declared.group.Group.{Group}
use Rattle.qq_group.specs.declared.seat.Seat.{Seat}
use Rattle.qq_group.proofs.Reached.{AuditLaw, audit-front, reached-next}

-- another bag
pub with-bag : {Q L : Type 0} (log : L → LogState) (g : GroupState) (bag : List Rpc) (old new : Group Q L)
    → Represents log g old → new ≡ record old { bag = new.bag } → bag ≡ new.bag
    → Represents log (record g { bag = bag }) new
with-bag {Q = Q} {L = L} log g bag old new r same is = record {
  queue = r.queue ∙ sym (ap (λ (x : Group Q L). x.queue) same);
  nodes = r.nodes ∙ sym (ap (λ (x : Group Q L). x.nodes.items) same);
  bag = is;
  audit = r.audit ∙ sym (ap (λ (x : Group Q L). x.audit.items) same);
  seats = λ k. subst (λ (x : Group Q L). IsSeat log (g.seat k) (slice_get x.seats.items k)) (sym same) (r.seats k);
}

next-is : (n : ℕ) → suc n ≡ n + 1
next-is n = omega arith

-- what is left where a message is taken
pub lost-makes : {Q L : Type 0} (log : L → LogState) (place : ℕ) (old new : Group Q L)
    → new ≡ record old { bag = without place old.bag } → Makes log (loses place) old new
lost-makes {Q = Q} {L = L} log zero old new is = λ g r. subst (Represents log g) (sym is) r
lost-makes {Q = Q} {L = L} log (suc at) old new is = λ g r.
    with-bag log g (take at g.bag ++ drop (at + 1) g.bag) old new r
    (is ∙ ap (λ (bag : List Rpc). record old { bag = bag }) (sym (ap (λ (x : Group Q L). x.bag) is)))
    (ap (λ (bag : List Rpc). take at bag ++ drop (at + 1) bag) r.bag
    ∙ ap (λ (n : ℕ). take at old.bag ++ drop n old.bag) (sym (next-is at)) ∙ sym (ap (λ (x : Group Q L). x.bag) is))

-- ---- the message at a place

pub drop-here : {A : Type 0} (xs : List A) (i : ℕ) (x : A) → slice_get xs i ≡ Some x
    → drop i xs ≡ x ∷ drop (suc i) xs
drop-here [] i x is = absurd (none-some x is)
drop-here (y ∷ xs) zero x is = ap (λ z. z ∷ xs) (grind (arith, is))
drop-here (y ∷ xs) (suc i) x is = drop-here xs i x is

pub drop-past : {A : Type 0} (xs : List A) (i : ℕ) → slice_get xs i ≡ None → drop i xs ≡ []
drop-past [] zero is = refl
drop-past [] (suc i) is = refl
drop-past (y ∷ xs) zero is = absurd (none-some y (sym is))
drop-past (y ∷ xs) (suc i) is = drop-past xs i is

-- ---- copies

pub copied-makes : {Q L : Type 0} (log : L → LogState) (place : ℕ) (rpc : Rpc) (old new : Group Q L)
    → at_place place old.bag ≡ Some rpc → new ≡ record old { bag = new.bag } → new.bag ≡ old.bag ++ rpc ∷ []
    → Makes log (copies place) old new
copied-makes log zero rpc old new here same is = absurd (none-some rpc here)
copied-makes log (suc at) rpc old new here same is = λ g r.
    with-bag log g (g.bag ++ take 1 (drop at g.bag)) old new r same
    (ap (λ (bag : List Rpc). bag ++ take 1 (drop at bag)) r.bag
    ∙ ap (λ (rest : List Rpc). old.bag ++ take 1 rest) (drop-here old.bag at rpc here) ∙ sym is)

pub nothing-copied : {Q L : Type 0} (log : L → LogState) (place : ℕ) (old new : Group Q L)
    → at_place place old.bag ≡ None → new ≡ old → Makes log (copies place) old new
nothing-copied log zero old new none same = λ g r. subst (Represents log g) (sym same) r
nothing-copied {Q = Q} {L = L} log (suc at) old new none same = λ g r.
    subst (Represents log (record g { bag = g.bag ++ take 1 (drop at g.bag) })) (sym same)
    (with-bag log g (g.bag ++ take 1 (drop at g.bag)) old old r refl
    (ap (λ (bag : List Rpc). bag ++ take 1 (drop at bag)) r.bag
    ∙ ap (λ (rest : List Rpc). old.bag ++ take 1 rest) (drop-past old.bag at none) ∙ append-nil old.bag))

copied-by : {Q L : Type 0} (log : L → LogState) (place : ℕ) (o : Option Rpc) (old new : Group Q L)
    → at_place place old.bag ≡ o → new ≡ record old { bag = new.bag }
    → IsSomeAnd o (λ rpc. new.bag ≡ old.bag ++ rpc ∷ []) → Makes log (copies place) old new
copied-by log place None old new here same is = absurd is
copied-by log place (Some rpc) old new here same is = copied-makes log place rpc old new here same is

pub copied : {Q L : Type 0} (log : L → LogState) (place : ℕ) (old new : Group Q L)
    → new ≡ record old { bag = new.bag }
    → IsSomeAnd (at_place place old.bag) (λ rpc. new.bag ≡ old.bag ++ rpc ∷ []) → Makes log (copies place) old new
copied log place old new same is = copied-by log place (at_place place old.bag) old new refl same is

-- ---- what holds of each message

pub all-without : (P : Rpc → Type 0) (place : ℕ) (bag : List Rpc) → All P bag → All P (without place bag)
all-without P zero bag all = all
all-without P (suc at) bag all = All-append P (take at bag) (drop (suc at) bag) (All-take P at bag all) (All-drop P (suc at) bag all)

pub all-at : (P : Rpc → Type 0) (place : ℕ) (bag : List Rpc) (rpc : Rpc) → at_place place bag ≡ Some rpc → All P bag
    → P rpc
all-at P zero bag rpc is all = absurd (none-some rpc is)
all-at P (suc at) bag rpc is all =
    subst P (get_or_from_slice_get bag at rpc rpc is) (All-get_or P bag at rpc (slice_get_within bag at rpc is) all)

drop-nil : {A : Type 0} (xs : List A) (i : ℕ) → drop i xs ≡ [] → length xs ≤ i
drop-nil xs i none = omega (arith, ap length none, length-drop i xs)

pub without-none : (place : ℕ) (bag : List Rpc) → at_place place bag ≡ None → without place bag ≡ bag
without-none zero bag none = refl
without-none (suc at) bag none =
    let nothing : drop at bag ≡ [] = drop-past bag at none in
    let long : length bag ≤ at = drop-nil bag at nothing in
    ap (λ (l : List Rpc). l ++ drop (suc at) bag) (take_all at bag long)
    ∙ ap (λ (l : List Rpc). bag ++ l) (drop_of_length-le bag {i = suc at} (omega (arith, long))) ∙ append-nil bag

-- ---- deliveries

takes-by : {Q L : Type 0} (log : L → LogState) (state : SeatState) (rpc : Rpc) (seat : Seat Q L)
    (o : Option (Server Q L)) → IsSeatBy log state seat o → takes state.server rpc ≡ takes_at log rpc o
takes-by log state rpc seat None is = ap (λ s. takes s rpc) is.0
takes-by log state rpc seat (Some s) is = ap (λ x. takes x rpc) is.0

takes-seat : {Q L : Type 0} (log : L → LogState) (state : SeatState) (rpc : Rpc) (o : Option (Seat Q L))
    → IsSeat log state o → takes state.server rpc ≡ takes_at log rpc (server_by o)
takes-seat log state rpc None is = ap (λ s. takes s rpc) is
takes-seat log state rpc (Some seat) is = takes-by log state rpc seat seat.server is

deliver-is : (g : GroupState) (at : ℕ) (rpc : Rpc) → slice_get g.bag at ≡ Some rpc
    → happens (Deliver at) g
    ≡ feed (envelope rpc).to.0 (Input.Receive rpc) (record g { bag = take at g.bag ++ drop (suc at) g.bag })
deliver-is g at rpc here = ap (λ rest. deliver_by (take at g.bag) rest g) (drop-here g.bag at rpc here)

delivered-by : {Q L : Type 0} (log : L → LogState) → AuditLaw → (at : ℕ) (rpc : Rpc) (old mid new : Group Q L)
    (g : GroupState) (b : Bool) → IsReached g → Represents log g old → slice_get g.bag at ≡ Some rpc
    → mid ≡ record old { bag = without (suc at) old.bag }
    → OneOf b (Feeds log (envelope rpc).to.0 (Input.Receive rpc) mid new) (new ≡ mid)
    → Represents log (if b then happens (Deliver at) g else happens (Lose at) g) new
delivered-by {Q = Q} {L = L} log law at rpc old mid new g true reached r here is feeds =
    let k = (envelope rpc).to.0 in
    let h = record g { bag = take at g.bag ++ drop (suc at) g.bag } in
    let same : happens (Deliver at) g ≡ feed k (Input.Receive rpc) h = deliver-is g at rpc here in
    let bag_is : h.bag ≡ mid.bag =
    ap (λ (bag : List Rpc). take at bag ++ drop (suc at) bag) r.bag ∙ sym (ap (λ (x : Group Q L). x.bag) is) in
    let mids = with-bag log g h.bag old mid r
    (is ∙ ap (λ (bag : List Rpc). record old { bag = bag }) (sym (ap (λ (x : Group Q L). x.bag) is))) bag_is in
    subst (λ x. Represents log x new) (sym same)
    (feeds h mids (subst IsReached same (reached-next g (Deliver at) reached))
    (subst (λ (x : GroupState). IsFront g.audit x.audit) same (audit-front law g (Deliver at ∷ []) reached)))
delivered-by log law at rpc old mid new g false reached r here is same =
    subst (λ x. Represents log (happens (Lose at) g) x) (sym same) (lost-makes log (suc at) old mid is g r)

-- a message that was taken reaches its receiver, or is lost
pub delivered : {Q L : Type 0} (log : L → LogState) → AuditLaw → (place : ℕ) (rpc : Rpc) (old mid new : Group Q L)
    → at_place place old.bag ≡ Some rpc → mid ≡ record old { bag = without place old.bag }
    → OneOf (takes_at log rpc (server_at (envelope rpc).to.0 mid))
    (Feeds log (envelope rpc).to.0 (Input.Receive rpc) mid new) (new ≡ mid)
    → Follows log (delivers place) old new
delivered log law zero rpc old mid new here is feeds = absurd (none-some rpc here)
delivered {Q = Q} {L = L} log law (suc at) rpc old mid new here is feeds = λ g reached r.
    let k = (envelope rpc).to.0 in
    let there : slice_get g.bag at ≡ Some rpc = ap (λ bag. slice_get bag at) r.bag ∙ here in
    let same : takes (g.seat k).server rpc ≡ takes_at log rpc (server_at k mid) =
    takes-seat log (g.seat k) rpc (slice_get old.seats.items k) (r.seats k)
    ∙ sym (ap (λ (x : Group Q L). takes_at log rpc (server_at k x)) is) in
    subst (λ o. Represents log (delivery at o g) new) (sym there)
    (subst (λ b. Represents log (if b then happens (Deliver at) g else happens (Lose at) g) new) (sym same)
    (delivered-by log law at rpc old mid new g (takes_at log rpc (server_at k mid)) reached r there is feeds))

-- there is no message
pub undelivered : {Q L : Type 0} (log : L → LogState) (place : ℕ) (old new : Group Q L)
    → at_place place old.bag ≡ None → new ≡ record old { bag = without place old.bag }
    → Follows log (delivers place) old new
undelivered log zero old new none is = λ g reached r. subst (Represents log g) (sym is) r
undelivered log (suc at) old new none is = λ g reached r.
    let there : slice_get g.bag at ≡ None = ap (λ bag. slice_get bag at) r.bag ∙ none in
    subst (λ o. Represents log (delivery at o g) new) (sym there)
    (subst (Represents log g) (sym (is ∙ ap (λ bag. record old { bag = bag }) (without-none (suc at) old.bag none))) r)

-- its receiver crashes on it
pub refused : {Q L : Type 0} (log : L → LogState) (place : ℕ) (rpc : Rpc) (old mid new : Group Q L)
    → at_place place old.bag ≡ Some rpc → mid ≡ record old { bag = without place old.bag }
    → Makes log (happens (Crash (envelope rpc).to.0)) mid new → Makes log (refuses place) old new
refused log place rpc old mid new here is crashes = λ g r.
    subst (λ o. Represents log (crash_on o (loses place g)) new) (sym (ap (at_place place) r.bag ∙ here))
    (crashes (loses place g) (lost-makes log place old mid is g r))

-- ---- what is left in the bag, and what the audit gains

pub adds-delivered : {Q L : Type 0} (log : L → LogState) (place : ℕ) (rpc : Rpc) (old mid new : Group Q L)
    → at_place place old.bag ≡ Some rpc → mid ≡ record old { bag = without place old.bag }
    → AddsDelivery log (Some rpc) mid.bag mid new
    → AddsDelivery log (at_place place old.bag) (without place old.bag) old new
adds-delivered {Q = Q} {L = L} log place rpc old mid new here is made =
    subst (λ (o : Option Rpc). AddsDelivery log o (without place old.bag) old new) (sym here)
    (subst (λ (m : Group Q L). AddsDelivery log (Some rpc) m.bag m new) is made)

pub adds-refused : {Q L : Type 0} (place : ℕ) (old mid new : Group Q L)
    → mid ≡ record old { bag = without place old.bag } → AddsNothing mid.bag mid.audit.items new
    → AddsNothing (without place old.bag) old.audit.items new
adds-refused {Q = Q} {L = L} place old mid new is made =
    subst (λ (m : Group Q L). AddsNothing m.bag m.audit.items new) is made

pub copy-added : (o : Option Rpc) (bag new : List Rpc) → IsSomeAnd o (λ rpc. new ≡ bag ++ rpc ∷ [])
    → new ≡ with_copy o bag
copy-added None bag new is = absurd is
copy-added (Some rpc) bag new is = is
