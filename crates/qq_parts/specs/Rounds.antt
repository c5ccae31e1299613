-- The checkouts after a command, in the parts of a queue.
use Rattle.std.specs.Prelude.{◌≡◌, ◌+◌, false, List, [], ◌∷◌, ◌++◌, Option, Some, None, length}
use Rattle.qq_entry.specs.declared.audit.Effect.{Effect}
use Rattle.qq_entry.specs.declared.audit.Effect.TheVariants.{Deliver}
use Rattle.qq_model.specs.Changes.{Progress, while_next}
use Rattle.qq_parts.specs.Parts.{Served, Parts, Stands, IsWhole}
use Rattle.qq_parts.specs.Reads.{ready_items}
use Rattle.qq_parts.specs.Changes.{Taken, take_first}
use Rattle.qq_parts.specs.Outs.{serve_one, hand_over, delivery_to}
use Rattle.qq_parts.specs.Turns.{AreWaiting, behind}

-- the parts, the consumers that wait by turn, and the effects so far
pub record Serving : Type 0 where
  pub parts : Parts
  pub waiting : List Served
  pub effects : List Effect

-- the first message to the first that waits
abbrev pub serve_first : Taken → Served → List Served → Serving → Serving
serve_first taken one ones t =
    record {
      parts = hand_over taken.item one.consumer taken.left;
      waiting = behind (serve_one (taken.left.rest.turns + 1) taken.item one) ones;
      effects = t.effects ++ Deliver one.consumer.id (delivery_to one.consumer taken.item) ∷ [];
    }

abbrev pub round_by : Option Taken → List Served → Serving → Option Serving
round_by None waiting t = None
round_by (Some taken) [] t = None
round_by (Some taken) (one ∷ ones) t = Some (serve_first taken one ones t)

abbrev pub round : Serving → Option Serving
round t = round_by (take_first t.parts) t.waiting t

-- as many rounds as there are ready messages, at most
abbrev pub serve_all : Serving → Serving
serve_all t = while_next (length (ready_items t.parts)) round t

-- the parts stand for a step under way of a queue without a single active consumer
pub record IsServing (t : Serving) (p : Progress) : Type 0 where
  pub stands : Stands t.parts p.state
  pub whole : IsWhole t.parts
  pub waiting : AreWaiting t.parts t.waiting
  pub effects : p.effects ≡ t.effects
  pub shared : p.state.args.single_active ≡ false
