-- Messages die, go back and end in the parts of a queue.
use Rattle.std.specs.Prelude.{ℕ, List, ◌++◌, Option, Some, None, fold}
use Rattle.qq_base.specs.declared.ids.ConsumerId.{ConsumerId}
use Rattle.qq_entry.specs.declared.message.Reason.{Reason}
use Rattle.qq_entry.specs.declared.message.Reason.TheVariants as reason
use Rattle.qq_model.specs.declared.consumer.Outcome.{Outcome}
use Rattle.qq_model.specs.declared.consumer.Outcome.TheVariants.{Settled, Returned, Discarded}
use Rattle.qq_parts.specs.Reduced.{Item}
use Rattle.qq_parts.specs.Changes.{Taken, bury, dead_letter, give_back, back_letter}
use Rattle.qq_parts.specs.Outs.{take_out}
use Rattle.qq_parts.specs.Work.{Work, with_parts}

-- a message that was taken out dies
abbrev pub parts_die : Reason → Item → Work → Work
parts_die reason x t =
    record {
      parts = bury t.parts.rest.args.strategy reason x t.parts;
      effects = t.effects ++ dead_letter t.parts.rest.args.strategy reason x;
    }

-- it goes back, or dies where that was more often than the delivery limit allows
abbrev pub parts_return : Item → Work → Work
parts_return x t = record { parts = give_back x t.parts; effects = t.effects ++ back_letter x t.parts }

-- it was settled, returned or discarded
abbrev pub parts_end : Outcome → Item → Work → Work
parts_end Settled x t = t
parts_end Returned x t = parts_return x t
parts_end Discarded x t = parts_die reason.Rejected x t

abbrev pub parts_end_by : Outcome → Option Taken → Work → Work
parts_end_by outcome None t = t
parts_end_by outcome (Some taken) t = parts_end outcome taken.item (with_parts taken.left t)

-- each id that is with the consumer ends, in the given order
abbrev pub parts_end_deliveries : Outcome → ConsumerId → List ℕ → Work → Work
parts_end_deliveries outcome consumer ids t =
    fold (λ (now : Work) (id : ℕ). parts_end_by outcome (take_out consumer id now.parts) now) t ids
