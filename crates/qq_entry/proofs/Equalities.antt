-- The tests say exactly when two entries are the same.
use Rattle.std.proofs.Common.{◌≡◌, ◌<◌, ℕ, zero, suc, Bool, true, false, eqb, List, [], ◌∷◌, Option, Some, None, drop, length, get_or, refl, sym, ap, subst, ◌∙◌, arith}
use Rattle.std.specs.Prelude.{◌&&◌, ◌||◌}
use Rattle.std.specs.Bool.{beq, Decides}
use Rattle.std.specs.Cmp.Lexicographic.{pointwise, pointwise_decides}
use Rattle.std.proofs.lemmas.Bool.{and_parts, and_from, eqb-true, eq-eqb, false≢true}
use Rattle.qq_base.specs.Ids.{same_session}
use Rattle.qq_base.specs.declared.ids.QueueId.{QueueId}
use Rattle.qq_base.specs.declared.ids.SessionId.{SessionId}
use Rattle.qq_entry.specs.declared.message.Reason.{Reason}
use Rattle.qq_entry.specs.declared.message.Reason.TheVariants.{Rejected, Expired, MaxLen, DeliveryLimit}
use Rattle.qq_entry.specs.declared.message.Death.{Death}
use Rattle.qq_entry.specs.declared.message.Content.{Content}
use Rattle.qq_entry.specs.declared.message.Message.{Message}
use Rattle.qq_entry.specs.declared.message.Origin.{Origin}
use Rattle.qq_entry.specs.declared.command.Stamp.{Stamp}
use Rattle.qq_entry.specs.declared.command.Mode.{Mode}
use Rattle.qq_entry.specs.declared.command.Mode.TheVariants.{Prefetch, Link}
use Rattle.qq_entry.specs.declared.command.DeadDone.{DeadDone}
use Rattle.qq_entry.specs.declared.command.Command.{Command}
use Rattle.qq_entry.specs.declared.command.Command.TheVariants.{Noop, Enqueue, Get, Subscribe, Cancel, Credit, Settle, Return, Discard, Purge, Down, DeadAttach, DeadSettle}
use Rattle.qq_entry.specs.declared.command.Entry.{Entry}
use Rattle.qq_entry.specs.Same.{same_queue, reason_rank, same_death, same_content, same_contents, same_message, same_origin, same_stamp, same_mode, same_done, same_ids, same_publish, same_consumer, same_credit, same_inner, same_command, same_entry}

-- a test that holds of equals alone, and of each value and itself
Tests : {A : Type 0} → (A → A → Bool) → Type 0
Tests {A} same = (a b : A) → Decides (same a b) (a ≡ b)

tests : {A : Type 0} (same : A → A → Bool) → ((a b : A) → same a b ≡ true → a ≡ b) → ((a : A) → same a a ≡ true)
    → (a b : A) → Decides (same a b) (a ≡ b)
tests same alone self a b = (alone a b, λ e. subst (λ x. same a x ≡ true) e (self a))

number_self : (n : ℕ) → eqb n n ≡ true
number_self n = eq-eqb n n refl

numbers : (a b : ℕ) → Decides (eqb a b) (a ≡ b)
numbers = tests eqb (λ a b e. eqb-true a b e) number_self

bytes : (a b : List ℕ) → Decides (pointwise eqb a b) (a ≡ b)
bytes = pointwise_decides numbers

flag_same : (a b : Bool) → beq a b ≡ true → a ≡ b
flag_same true true e = refl
flag_same true false e = absurd cc
flag_same false true e = absurd cc
flag_same false false e = refl

flag_self : (a : Bool) → beq a a ≡ true
flag_self true = refl
flag_self false = refl

-- ---- messages

queue_same : (a b : QueueId) → same_queue a b ≡ true → a ≡ b
queue_same a b e = let n : a.0 ≡ b.0 = eqb-true _ _ e in λ i. record { 0 = n i }

queues : (a b : List QueueId) → Decides (pointwise same_queue a b) (a ≡ b)
queues = pointwise_decides (tests same_queue queue_same (λ a. number_self a.0))

reason_same : (a b : Reason) → reason_rank a ≡ reason_rank b → a ≡ b
reason_same Rejected Rejected e = refl
reason_same Expired Expired e = refl
reason_same MaxLen MaxLen e = refl
reason_same DeliveryLimit DeliveryLimit e = refl
reason_same _ _ e = absurd (omega (arith, e))

death_same : (a b : Death) → same_death a b ≡ true → a ≡ b
death_same a b e =
    let p = and_parts _ _ e in
    let queue : a.queue ≡ b.queue = queue_same a.queue b.queue p.0 in
    let reason : a.reason ≡ b.reason = reason_same a.reason b.reason (eqb-true _ _ p.1) in
    λ i. record { queue = queue i; reason = reason i }

death_self : (a : Death) → same_death a a ≡ true
death_self a = and_from _ _ (number_self a.queue.0) (number_self (reason_rank a.reason))

deaths : (a b : List Death) → Decides (pointwise same_death a b) (a ≡ b)
deaths = pointwise_decides (tests same_death death_same death_self)

content_same : (a b : Content) → same_content a b ≡ true → a ≡ b
content_same a b e =
    let outer = and_parts _ _ e in
    let inner = and_parts _ _ outer.0 in
    let body : a.body ≡ b.body = (bytes a.body b.body).0 inner.0 in
    let key : a.key ≡ b.key = (bytes a.key b.key).0 inner.1 in
    let died : a.deaths ≡ b.deaths = (deaths a.deaths b.deaths).0 outer.1 in
    λ i. record { body = body i; key = key i; deaths = died i }

content_self : (a : Content) → same_content a a ≡ true
content_self a =
    and_from _ _ (and_from _ _ ((bytes a.body a.body).1 refl) ((bytes a.key a.key).1 refl))
    ((deaths a.deaths a.deaths).1 refl)

contents_same : (a b : Option Content) → same_contents a b ≡ true → a ≡ b
contents_same None None e = refl
contents_same None (Some b) e = absurd (false≢true e)
contents_same (Some a) None e = absurd (false≢true e)
contents_same (Some a) (Some b) e = ap (λ (c : Content). Some c) (content_same a b e)

contents_self : (a : Option Content) → same_contents a a ≡ true
contents_self None = refl
contents_self (Some a) = content_self a

message_same : (a b : Message) → same_message a b ≡ true → a ≡ b
message_same a b e =
    let p = and_parts _ _ e in
    let size : a.size ≡ b.size = eqb-true _ _ p.0 in
    let content : a.content ≡ b.content = contents_same a.content b.content p.1 in
    λ i. record { size = size i; content = content i }

message_self : (a : Message) → same_message a a ≡ true
message_self a = and_from _ _ (number_self a.size) (contents_self a.content)

origin_same : (a b : Option Origin) → same_origin a b ≡ true → a ≡ b
origin_same None None e = refl
origin_same None (Some b) e = absurd (false≢true e)
origin_same (Some a) None e = absurd (false≢true e)
origin_same (Some a) (Some b) e =
    let p = and_parts _ _ e in
    let source : a.source ≡ b.source = queue_same a.source b.source p.0 in
    let number : a.number ≡ b.number = eqb-true _ _ p.1 in
    λ i. Some (record { source = source i; number = number i })

origin_self : (a : Option Origin) → same_origin a a ≡ true
origin_self None = refl
origin_self (Some a) = and_from _ _ (number_self a.source.0) (number_self a.number)

-- ---- commands

session_same : (a b : SessionId) → same_session a b ≡ true → a ≡ b
session_same a b e =
    let outer = and_parts _ _ e in
    let inner = and_parts _ _ outer.0 in
    let class : a.class ≡ b.class = eqb-true _ _ inner.0 in
    let owner : a.owner ≡ b.owner = eqb-true _ _ inner.1 in
    let number : a.number ≡ b.number = eqb-true _ _ outer.1 in
    λ i. record { class = class i; owner = owner i; number = number i }

session_self : (a : SessionId) → same_session a a ≡ true
session_self a = and_from _ _ (and_from _ _ (number_self a.class) (number_self a.owner)) (number_self a.number)

stamp_same : (a b : Stamp) → same_stamp a b ≡ true → a ≡ b
stamp_same a b e =
    let outer = and_parts _ _ e in
    let inner = and_parts _ _ outer.0 in
    let session : a.session ≡ b.session = session_same a.session b.session inner.0 in
    let seq : a.seq ≡ b.seq = eqb-true _ _ inner.1 in
    let done : a.done ≡ b.done = eqb-true _ _ outer.1 in
    λ i. record { session = session i; seq = seq i; done = done i }

stamp_self : (a : Stamp) → same_stamp a a ≡ true
stamp_self a = and_from _ _ (and_from _ _ (session_self a.session) (number_self a.seq)) (number_self a.done)

mode_same : (a b : Mode) → same_mode a b ≡ true → a ≡ b
mode_same (Prefetch a) (Prefetch b) e = ap (λ (n : ℕ). Prefetch n) (eqb-true a b e)
mode_same (Prefetch a) Link e = absurd (false≢true e)
mode_same Link (Prefetch b) e = absurd (false≢true e)
mode_same Link Link e = refl

mode_self : (a : Mode) → same_mode a a ≡ true
mode_self (Prefetch a) = number_self a
mode_self Link = refl

done_same : (a b : DeadDone) → same_done a b ≡ true → a ≡ b
done_same a b e =
    let p = and_parts _ _ e in
    let number : a.number ≡ b.number = eqb-true _ _ p.0 in
    let targets : a.targets ≡ b.targets = (queues a.targets b.targets).0 p.1 in
    λ i. record { number = number i; targets = targets i }

done_self : (a : DeadDone) → same_done a a ≡ true
done_self a = and_from _ _ (number_self a.number) ((queues a.targets a.targets).1 refl)

dones : (a b : List DeadDone) → Decides (pointwise same_done a b) (a ≡ b)
dones = pointwise_decides (tests same_done done_same done_self)

-- a command about deliveries
ids_same : (make : Stamp → ℕ → List ℕ → Command) (a b : Stamp) (tag tag' : ℕ) (ids ids' : List ℕ)
    → same_ids a tag ids b tag' ids' ≡ true → make a tag ids ≡ make b tag' ids'
ids_same make a b tag tag' ids ids' e =
    let outer = and_parts _ _ e in
    let inner = and_parts _ _ outer.0 in
    let by : a ≡ b = stamp_same a b inner.0 in
    let number : tag ≡ tag' = eqb-true _ _ inner.1 in
    let list : ids ≡ ids' = (bytes ids ids').0 outer.1 in
    λ i. make (by i) (number i) (list i)

ids_self : (a : Stamp) (tag : ℕ) (ids : List ℕ) → same_ids a tag ids a tag ids ≡ true
ids_self a tag ids = and_from _ _ (and_from _ _ (stamp_self a) (number_self tag)) ((bytes ids ids).1 refl)

-- one of the tests decides
by-publish : (x : Bool) → (x || false || false || false || false) ≡ x
by-publish true = refl
by-publish false = refl

by-consumer : (x : Bool) → (false || x || false || false || false) ≡ x
by-consumer true = refl
by-consumer false = refl

by-credit : (x : Bool) → (false || false || x || false || false) ≡ x
by-credit true = refl
by-credit false = refl

by-settlement : (x : Bool) → (false || false || false || x || false) ≡ x
by-settlement true = refl
by-settlement false = refl

by-inner : (x : Bool) → (false || false || false || false || x) ≡ x
by-inner true = refl
by-inner false = refl

command_same : (a b : Command) → same_command a b ≡ true → a ≡ b
command_same (Enqueue a from m) (Enqueue b from' n) e =
    let outer = and_parts _ _ (sym (by-publish (same_publish (Enqueue a from m) (Enqueue b from' n))) ∙ e) in
    let inner = and_parts _ _ outer.0 in
    let by : a ≡ b = stamp_same a b inner.0 in
    let origin : from ≡ from' = origin_same from from' inner.1 in
    let message : m ≡ n = message_same m n outer.1 in
    λ i. Enqueue (by i) (origin i) (message i)
command_same (Get a) (Get b) e = ap (λ (s : Stamp). Get s) (stamp_same a b (sym (by-publish (same_stamp a b)) ∙ e))
command_same (Purge a) (Purge b) e = ap (λ (s : Stamp). Purge s) (stamp_same a b (sym (by-publish (same_stamp a b)) ∙ e))
command_same (Subscribe a tag mode) (Subscribe b tag' mode') e =
    let outer = and_parts _ _ (sym (by-consumer (same_consumer (Subscribe a tag mode) (Subscribe b tag' mode'))) ∙ e) in
    let inner = and_parts _ _ outer.0 in
    let by : a ≡ b = stamp_same a b inner.0 in
    let number : tag ≡ tag' = eqb-true _ _ inner.1 in
    let how : mode ≡ mode' = mode_same mode mode' outer.1 in
    λ i. Subscribe (by i) (number i) (how i)
command_same (Cancel a tag) (Cancel b tag') e =
    let p = and_parts _ _ (sym (by-consumer (same_consumer (Cancel a tag) (Cancel b tag'))) ∙ e) in
    let by : a ≡ b = stamp_same a b p.0 in
    let number : tag ≡ tag' = eqb-true _ _ p.1 in
    λ i. Cancel (by i) (number i)
command_same (Credit a tag count credit drain) (Credit b tag' count' credit' drain') e =
    let p4 = and_parts _ _
    (sym (by-credit (same_credit (Credit a tag count credit drain) (Credit b tag' count' credit' drain'))) ∙ e) in
    let p3 = and_parts _ _ p4.0 in
    let p2 = and_parts _ _ p3.0 in
    let p1 = and_parts _ _ p2.0 in
    let by : a ≡ b = stamp_same a b p1.0 in
    let number : tag ≡ tag' = eqb-true _ _ p1.1 in
    let had : count ≡ count' = eqb-true _ _ p2.1 in
    let given : credit ≡ credit' = eqb-true _ _ p3.1 in
    let drains : drain ≡ drain' = flag_same _ _ p4.1 in
    λ i. Credit (by i) (number i) (had i) (given i) (drains i)
command_same (Settle a tag ids) (Settle b tag' ids') e =
    ids_same (λ s n l. Settle s n l) a b tag tag' ids ids' (sym (by-settlement (same_ids a tag ids b tag' ids')) ∙ e)
command_same (Return a tag ids) (Return b tag' ids') e =
    ids_same (λ s n l. Return s n l) a b tag tag' ids ids' (sym (by-settlement (same_ids a tag ids b tag' ids')) ∙ e)
command_same (Discard a tag ids) (Discard b tag' ids') e =
    ids_same (λ s n l. Discard s n l) a b tag tag' ids ids' (sym (by-settlement (same_ids a tag ids b tag' ids')) ∙ e)
command_same (Noop a) (Noop b) e = ap (λ (n : ℕ). Noop n) (eqb-true a b (sym (by-inner (eqb a b)) ∙ e))
command_same (Down a) (Down b) e = ap (λ (s : SessionId). Down s) (session_same a b (sym (by-inner (same_session a b)) ∙ e))
command_same (DeadAttach a) (DeadAttach b) e =
    let n : a.0 ≡ b.0 = eqb-true _ _ (sym (by-inner (eqb a.0 b.0)) ∙ e) in λ i. DeadAttach (record { 0 = n i })
command_same (DeadSettle a done) (DeadSettle b done') e =
    let p = and_parts _ _ (sym (by-inner (same_inner (DeadSettle a done) (DeadSettle b done'))) ∙ e) in
    let n : a.0 ≡ b.0 = eqb-true _ _ p.0 in
    let list : done ≡ done' = (dones done done').0 p.1 in
    λ i. DeadSettle (record { 0 = n i }) (list i)
command_same _ _ e = absurd (false≢true e)

command_self : (a : Command) → same_command a a ≡ true
command_self (Enqueue a from m) =
    by-publish (same_publish (Enqueue a from m) (Enqueue a from m))
    ∙ (and_from _ _ (and_from _ _ (stamp_self a) (origin_self from)) (message_self m))
command_self (Get a) = by-publish (same_stamp a a) ∙ stamp_self a
command_self (Purge a) = by-publish (same_stamp a a) ∙ stamp_self a
command_self (Subscribe a tag mode) =
    by-consumer (same_consumer (Subscribe a tag mode) (Subscribe a tag mode))
    ∙ (and_from _ _ (and_from _ _ (stamp_self a) (number_self tag)) (mode_self mode))
command_self (Cancel a tag) =
    by-consumer (same_consumer (Cancel a tag) (Cancel a tag)) ∙ (and_from _ _ (stamp_self a) (number_self tag))
command_self (Credit a tag count credit drain) =
    by-credit (same_credit (Credit a tag count credit drain) (Credit a tag count credit drain))
    ∙ (and_from _ _
    (and_from _ _ (and_from _ _ (and_from _ _ (stamp_self a) (number_self tag)) (number_self count)) (number_self credit))
    (flag_self drain))
command_self (Settle a tag ids) = by-settlement (same_ids a tag ids a tag ids) ∙ ids_self a tag ids
command_self (Return a tag ids) = by-settlement (same_ids a tag ids a tag ids) ∙ ids_self a tag ids
command_self (Discard a tag ids) = by-settlement (same_ids a tag ids a tag ids) ∙ ids_self a tag ids
command_self (Noop a) = by-inner (eqb a a) ∙ number_self a
command_self (Down a) = by-inner (same_session a a) ∙ session_self a
command_self (DeadAttach a) = by-inner (eqb a.0 a.0) ∙ number_self a.0
command_self (DeadSettle a done) =
    by-inner (same_inner (DeadSettle a done) (DeadSettle a done))
    ∙ and_from _ _ (number_self a.0) ((dones done done).1 refl)

entry_same : (a b : Entry) → same_entry a b ≡ true → a ≡ b
entry_same a b e =
    let outer = and_parts _ _ e in
    let inner = and_parts _ _ outer.0 in
    let term : a.term.0 ≡ b.term.0 = eqb-true _ _ inner.0 in
    let time : a.time ≡ b.time = eqb-true _ _ inner.1 in
    let command : a.command ≡ b.command = command_same a.command b.command outer.1 in
    λ i. record { term = record { 0 = term i }; time = time i; command = command i }

entry_self : (a : Entry) → same_entry a a ≡ true
entry_self a = and_from _ _ (and_from _ _ (number_self a.term.0) (number_self a.time)) (command_self a.command)

pub entry_decides : (r : Bool) (a b : Entry) → r ≡ same_entry a b → Decides r (a ≡ b)
entry_decides r a b is =
    subst (λ (t : Bool). Decides t (a ≡ b)) (sym is) (tests same_entry entry_same entry_self a b)

pub entries_decide : (a b : List Entry) → Decides (pointwise same_entry a b) (a ≡ b)
entries_decide = pointwise_decides (tests same_entry entry_same entry_self)

pub lists_decide : (r : Bool) (a b : List Entry) → r ≡ pointwise same_entry a b → Decides r (a ≡ b)
lists_decide r a b is = subst (λ (t : Bool). Decides t (a ≡ b)) (sym is) (entries_decide a b)

-- ---- lists, item by item

pub other-lengths : {A : Type 0} (same : A → A → Bool) (xs ys : List A) → (length xs ≡ length ys → ⊥)
    → pointwise same xs ys ≡ false
other-lengths same [] [] other = absurd (other refl)
other-lengths same [] (y ∷ ys) other = refl
other-lengths same (x ∷ xs) [] other = refl
other-lengths same (x ∷ xs) (y ∷ ys) other = by (same x y) (other-lengths same xs ys (λ e. other (ap suc e)))
  where
    by : (b : Bool) → pointwise same xs ys ≡ false → (b && pointwise same xs ys) ≡ false
    by true e = e
    by false e = refl

-- at one place the items differ
pub other-item : {A : Type 0} (same : A → A → Bool) (xs ys : List A) (at : ℕ) (x y : A) → at < length xs
    → at < length ys → x ≡ get_or xs at x → y ≡ get_or ys at y → same x y ≡ false
    → false ≡ pointwise same (drop at xs) (drop at ys)
other-item same [] ys at x y lt lt' here here' other = absurd (omega (arith, lt))
other-item same (z ∷ xs) [] at x y lt lt' here here' other = absurd (omega (arith, lt'))
other-item same (z ∷ xs) (w ∷ ys) zero x y lt lt' here here' other =
    ap (λ (b : Bool). b && pointwise same xs ys) (sym other ∙ ap (λ k. same k y) here ∙ ap (same z) here')
other-item same (z ∷ xs) (w ∷ ys) (suc at) x y lt lt' here here' other =
    other-item same xs ys at x y (omega (arith, lt)) (omega (arith, lt')) here here' other
