-- What the laws need of order, and of what a seat has seen.
use Rattle.std.proofs.Common.{◌≡◌, ◌+◌, ◌<◌, ◌≤◌, ◌&&◌, ℕ, zero, suc, max, eqb, true, List, [], ◌∷◌, ◌++◌, length, set, Option, Some, refl, sym, ap, ◌∙◌, append_assoc, arith}
use Rattle.std.specs.Prelude.{nat_le, slice_index}
use Rattle.std.proofs.lemmas.Bool.{and_parts, cond-false, cond-true, eq-eqb, eqb-true, false≢true, ne_eqb}
use Rattle.std.proofs.lemmas.List.Sums.{fold-append}
use Rattle.qq_base.specs.declared.ids.QueueId.{QueueId}
use Rattle.qq_log.specs.Carries.{Carries, add_op, add_ops, carry_before, carry_behind, carry_or_new, follows_carry}
use Rattle.qq_log.specs.declared.lane.Carry.{Carry}
use Rattle.qq_log.specs.declared.op.Op.{Op}
use Rattle.qq_log.specs.declared.op.Op.TheVariants.{Change, SnapshotMade, SegmentMade}
use Rattle.qq_log.specs.Op.{queue, number}
use Rattle.qq_log.specs.Writable.{IsChange}
use Rattle.qq_inbox.specs.declared.seat.SeatView.{SeatView}
use Rattle.qq_inbox.specs.HandOver.{NoneOf, InOrder}
use Rattle.qq_inbox.specs.Seats.{AtMost, greater, raised_to, joined_seat}
use Rattle.qq_inbox.proofs.Numbers.{at_most_same, at_most_raised, at_most_at, greater_first, greater_second}

-- an op's number is the one after its queue's carry
follows-number : (c : Carry) (op : Op) → follows_carry c op ≡ true → number op ≡ c.op + 1
follows-number c (Change id op term vote keep entries) follows =
    eqb-true op (c.op + 1)
    (and_parts (eqb op (c.op + 1)) (nat_le c.base.index.0 keep.0 && nat_le keep.0 c.last.0) follows).0
follows-number c (SnapshotMade id op head file) follows = absurd (false≢true follows)
follows-number c (SegmentMade id op file first last) follows = absurd (false≢true follows)

-- and then its carry has it
behind-number : (c : Carry) (op : Op) → IsChange op → (carry_behind c op).op ≡ number op
behind-number c (Change id op term vote keep entries) is = refl
behind-number c (SnapshotMade id op head file) is = absurd is
behind-number c (SegmentMade id op file first last) is = absurd is

-- ops of other queues leave a queue's carry
others : (id : ℕ) (ops : List Op) (carries : Carries) → NoneOf id ops → add_ops carries ops id ≡ carries id
others id [] carries apart = refl
others id (op ∷ ops) carries apart =
    others id ops (add_op carries op) apart.1
    ∙ cond-false (eqb (queue op).0 id) (Some (carry_behind (carry_before carries op) op)) (carries id)
    (ne_eqb (queue op).0 id apart.0)

-- after an op its queue's carry has it
here : (carries : Carries) (ops : List Op) (op : Op)
    → add_ops carries (ops ++ op ∷ []) (queue op).0
    ≡ Some (carry_behind (carry_before (add_ops carries ops) op) op)
here carries ops op =
    ap (λ (c : Carries). c (queue op).0) (fold-append add_op carries ops (op ∷ []))
    ∙ cond-true (eqb (queue op).0 (queue op).0) (Some (carry_behind (carry_before (add_ops carries ops) op) op))
    (add_ops carries ops (queue op).0) (eq-eqb (queue op).0 (queue op).0 refl)

pub next_number : (queues : List QueueId) (carries : Carries) (front between back : List Op) (first second : Op)
    → InOrder queues carries (front ++ first ∷ (between ++ second ∷ back)) → (queue second).0 ≡ (queue first).0
    → NoneOf (queue first).0 between → number second ≡ number first + 1
next_number queues carries front between back first second order same apart =
    let id : ℕ = (queue first).0 in
    let before : List Op = (front ++ first ∷ []) ++ between in
    let cut : front ++ first ∷ (between ++ second ∷ back) ≡ before ++ second ∷ back =
    sym (append_assoc front (first ∷ []) (between ++ second ∷ back))
    ∙ sym (append_assoc (front ++ first ∷ []) between (second ∷ back)) in
    let carry : Carry = carry_behind (carry_before (add_ops carries front) first) first in
    let last : add_ops carries before (queue second).0 ≡ Some carry =
    ap (add_ops carries before) same
    ∙ ap (λ (c : Carries). c id) (fold-append add_op carries (front ++ first ∷ []) between)
    ∙ others id between (add_ops carries (front ++ first ∷ [])) apart ∙ here carries front first in
    let known : carry_before (add_ops carries before) second ≡ carry =
    ap (λ (o : Option Carry). carry_or_new o (queue second)) last in
    let after : number second ≡ (carry_before (add_ops carries before) second).op + 1 =
    follows-number (carry_before (add_ops carries before) second) second (order before second back cut).0.follows in
    let own : carry.op ≡ number first =
    behind-number (carry_before (add_ops carries front) first) first
    (order front first (between ++ second ∷ back) refl).1.gather.change in
    omega (arith, after, ap (λ (c : Carry). c.op) known, own)

-- a queue's first op goes on where the log stood
pub first_number : (queues : List QueueId) (carries : Carries) (front back : List Op) (op : Op)
    → InOrder queues carries (front ++ op ∷ back) → NoneOf (queue op).0 front
    → number op ≡ (carry_before carries op).op + 1
first_number queues carries front back op order apart =
    let known : carry_before (add_ops carries front) op ≡ carry_before carries op =
    ap (λ (o : Option Carry). carry_or_new o (queue op)) (others (queue op).0 front carries apart) in
    let after : number op ≡ (carry_before (add_ops carries front) op).op + 1 =
    follows-number (carry_before (add_ops carries front) op) op (order front op back refl).0.follows in
    omega (arith, after, ap (λ (c : Carry). c.op) known)

-- a number that is set, at its place
set_at : (xs : List ℕ) (k n : ℕ) → k < length xs → slice_index (set xs k n) k ≡ n
set_at [] k n within = absurd (omega arith)
set_at (x ∷ xs) zero n within = refl
set_at (x ∷ xs) (suc k) n within = set_at xs k n (omega arith)

pub raise_keeps : (v : SeatView) (mark n : ℕ) → AtMost v.seen v.raised → AtMost v.seen (raised_to v mark n).seen
raise_keeps v mark n below =
    let top = max (slice_index v.raised mark) n in
    let seen = at_most_at v.seen v.raised mark below in
    at_most_raised v.seen v.seen mark top (at_most_same v.seen) (omega arith)

pub raise_shows : (v : SeatView) (mark n : ℕ) → mark < length v.seen
    → n ≤ slice_index (raised_to v mark n).seen mark
raise_shows v mark n within =
    let top = max (slice_index v.raised mark) n in
    let is = set_at v.seen mark top within in
    omega arith

pub joins_keep : (xs ys : List ℕ) → AtMost xs (greater xs ys) × AtMost ys (greater xs ys)
joins_keep xs ys = (
  greater_first xs ys (greater xs ys) (at_most_same (greater xs ys)),
  greater_second xs ys (greater xs ys) (at_most_same (greater xs ys)),
)

-- a joined seat has seen what the other was answered
pub joined_told : (v u w : SeatView) (mark answer : ℕ) → w ≡ joined_seat v u → slice_index u.seen mark ≡ answer
    → answer ≤ slice_index w.seen mark
joined_told v u w mark answer joined is =
    let below = at_most_at u.seen (greater v.seen u.seen) mark (joins_keep v.seen u.seen).1 in
    let same : slice_index w.seen mark ≡ slice_index (greater v.seen u.seen) mark =
    ap (λ (x : SeatView). slice_index x.seen mark) joined in
    omega arith
