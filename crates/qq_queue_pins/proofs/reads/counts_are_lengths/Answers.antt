use Rattle.std.proofs.Common.{◌≡◌, length}
use Rattle.qq_base.proofs.Lists.{AllByRecursion-in}
use Rattle.qq_parts.specs.Reduced.{Item}
use Rattle.qq_model.proofs.Soundness.{in_contains}
use Rattle.qq_model.specs.Changes.{message_of}
use Rattle.qq_model.specs.Choice.{out_count}
use Rattle.qq_parts.specs.Parts.{Served, items_of}
use Rattle.qq_queue_pins.proofs.reads.counts_are_lengths.Goals as goal

pub returns-clause-next : goal.returns-clause-next
returns-clause-next c = λ m s stands whole. (c.parts_tell_the_queue.ensures m s stands whole).next

pub returns-clause-ready : goal.returns-clause-ready
returns-clause-ready c = λ m s stands whole. (c.parts_tell_the_queue.ensures m s stands whole).ready

pub returns-clause-bytes : goal.returns-clause-bytes
returns-clause-bytes c = λ m s stands whole. (c.parts_tell_the_queue.ensures m s stands whole).bytes

pub returns-clause-live : goal.returns-clause-live
returns-clause-live c = λ m s stands whole. (c.parts_tell_the_queue.ensures m s stands whole).live

pub returns-clause-dead : goal.returns-clause-dead
returns-clause-dead c = λ m s stands whole. (c.parts_tell_the_queue.ensures m s stands whole).dead

pub returns-clause-out : goal.returns-clause-out
returns-clause-out c = λ m s one stands whole there.
    AllByRecursion-in (λ (other : Served). out_count other.consumer.id s.rows ≡ length other.out) one m.served
    (c.parts_tell_the_queue.ensures m s stands whole).out (in_contains m.served one there)

pub returns-clause-message : goal.returns-clause-message
returns-clause-message c = λ m s x stands whole there.
    AllByRecursion-in (λ (y : Item). message_of s.rows s.messages y.row ≡ y.message) x (items_of m)
    (c.parts_tell_the_queue.ensures m s stands whole).message (in_contains (items_of m) x there)
