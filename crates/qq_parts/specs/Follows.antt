-- What follows on each command in the parts of a queue: deliveries, the limits, and dead letters for the worker.
use Rattle.std.specs.Prelude.{◌≡◌, ◌⊎◌, ℕ, List, [], ◌∷◌, ◌++◌, length, Option, Some, None, Bool, ◌&&◌, nat_lt, if◌then◌else◌}
use Rattle.qq_entry.specs.declared.audit.Effect.TheVariants.{Deliver, Offer}
use Rattle.qq_entry.specs.declared.message.Reason.TheVariants as reason
use Rattle.qq_model.specs.declared.TheConstants.{MOST_GIVEN}
use Rattle.qq_model.specs.declared.place.Place.{Place}
use Rattle.qq_model.specs.declared.place.Place.TheVariants.{Dead}
use Rattle.qq_model.specs.Choice.{least_by}
use Rattle.qq_model.specs.Changes.{while_next}
use Rattle.qq_rules.specs.Decisions.{over}
use Rattle.qq_parts.specs.Reduced.{Item}
use Rattle.qq_parts.specs.Parts.{Served, Parts}
use Rattle.qq_parts.specs.Reads.{ready_items, size_of}
use Rattle.qq_parts.specs.Changes.{Taken, take_first}
use Rattle.qq_parts.specs.Outs.{hand_over, delivery_to}
use Rattle.qq_parts.specs.Turns.{may_serve, active_one}
use Rattle.qq_parts.specs.Letters.{first_above, given_of}
use Rattle.qq_parts.specs.Work.{Work, with_parts}
use Rattle.qq_parts.specs.Ends.{parts_die}

-- Checkouts -------------------------------------------------------------------------------------------

-- the turn of a consumer that may be served
abbrev pub servable_turn : Served → Option ℕ
servable_turn one = if may_serve one then Some one.consumer.turn else None

-- of all consumers that may be served the one of least turn
abbrev pub longest_one : List Served → Option Served
longest_one ones = least_by nat_lt servable_turn ones

-- the next consumer, of a queue with a single active consumer or of another
abbrev pub next_one : Bool → List Served → Option Served
next_one single_active ones = if single_active then active_one ones else longest_one ones

-- a message that was taken out goes to a consumer
abbrev pub parts_deliver : Taken → Served → Work → Work
parts_deliver taken one t =
    record {
      parts = hand_over taken.item one.consumer taken.left;
      effects = t.effects ++ Deliver one.consumer.id (delivery_to one.consumer taken.item) ∷ [];
    }

abbrev pub parts_deliver_by : Option Taken → Option Served → Work → Option Work
parts_deliver_by None one t = None
parts_deliver_by (Some taken) None t = None
parts_deliver_by (Some taken) (Some one) t = Some (parts_deliver taken one t)

-- the first ready message to the next consumer, where there are both
unfoldable pub parts_check_out : Work → Option Work
parts_check_out t =
    parts_deliver_by (take_first t.parts) (next_one t.parts.rest.args.single_active t.parts.served) t

-- while there is a choice, a message is delivered
unfoldable pub parts_check_out_all : Work → Work
parts_check_out_all t = while_next (length (ready_items t.parts)) parts_check_out t

-- Limits ----------------------------------------------------------------------------------------------

-- whether messages at the front have to die
abbrev pub is_over : Parts → Bool
is_over m = over m.rest.args (length (ready_items m)) (size_of (ready_items m))

abbrev pub parts_drop_by : Option Taken → Work → Option Work
parts_drop_by None t = None
parts_drop_by (Some taken) t = Some (parts_die reason.MaxLen taken.item (with_parts taken.left t))

-- the message at the front dies where the queue has grown past its limit
unfoldable pub parts_drop_head : Work → Option Work
parts_drop_head t = if is_over t.parts then parts_drop_by (take_first t.parts) t else None

-- while the queue has grown past its limit, the message at the front dies
unfoldable pub parts_keep_limits : Work → Work
parts_keep_limits t = while_next (length (ready_items t.parts)) parts_drop_head t

-- Dead giving -----------------------------------------------------------------------------------------

-- the worker was given the dead messages up to this number
abbrev pub given_up_to : ℕ → Parts → Parts
given_up_to number m = record m { rest = record (m.rest) { given = number } }

-- a dead message is offered to the worker
abbrev pub parts_offer_at : Place → Item → Work → Option Work
parts_offer_at (Dead number reason) x t =
    Some (record {
      parts = given_up_to number t.parts;
      effects = t.effects ++ Offer number reason x.message ∷ [];
    })
parts_offer_at _ x t = None

abbrev pub parts_offer_by : Option Item → Work → Option Work
parts_offer_by None t = None
parts_offer_by (Some x) t = parts_offer_at x.row.place x t

-- whether a worker is attached that has fewer dead letters under way than it may have
abbrev pub may_give : Parts → Bool
may_give m = nat_lt 0 m.rest.attached && nat_lt (given_of m.rest.given m.dead) MOST_GIVEN

-- the next dead message for the worker
unfoldable pub parts_give_dead : Work → Option Work
parts_give_dead t =
    if may_give t.parts then parts_offer_by (first_above t.parts.rest.given t.parts.dead) t else None

-- while there is one, a dead message is offered
unfoldable pub parts_give_all_dead : Work → Work
parts_give_all_dead t = while_next (length t.parts.dead) parts_give_dead t

-- nothing is ready, or nobody may be served
abbrev pub IsServed : Parts → Type 0
IsServed m = (take_first m ≡ None) ⊎ (next_one m.rest.args.single_active m.served ≡ None)
