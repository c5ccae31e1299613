-- What a machine does of a command at once, where the queue goes one by one.
use Rattle.std.specs.Prelude.{ℕ, List, [], ◌∷◌, Option, map, fold, find, if◌then◌else◌}
use Rattle.std.specs.Option.{option_map_or}
use Rattle.qq_base.specs.declared.ids.SessionId.{SessionId}
use Rattle.qq_base.specs.declared.ids.ConsumerId.{ConsumerId}
use Rattle.qq_base.specs.Ids.{same_consumer}
use Rattle.qq_entry.specs.declared.answer.Answer.TheVariants.{Done}
use Rattle.qq_model.specs.declared.consumer.Outcome.{Outcome}
use Rattle.qq_model.specs.Commands.{is_of_session}
use Rattle.qq_parts.specs.Reduced.{Item}
use Rattle.qq_parts.specs.Parts.{Served, Parts}
use Rattle.qq_parts.specs.Outs.{Cut, cut_id}
use Rattle.qq_parts.specs.Turns.{credit_of_one}
use Rattle.qq_parts.specs.Consumers.{keep_ones, needed_one}
use Rattle.qq_parts.specs.Work.{Work, Answered, say, with_parts}
use Rattle.qq_parts.specs.Ends.{parts_return, parts_end}
use Rattle.qq_parts.specs.Commands.{parts_begin_to_wait}

-- Settle, Return, Discard -----------------------------------------------------------------------------

-- messages that were taken out, and the others
pub record Cuts : Type 0 where
  pub items : List Item
  pub rest : List Item

abbrev pub first_cut : Item → Cuts → Cuts
first_cut x cuts = record { items = x ∷ cuts.items; rest = cuts.rest }

-- those of the ids that are out are taken out, in the given order
abbrev pub cut_ids : List ℕ → List Item → Cuts
cut_ids [] out = record { items = []; rest = out }
cut_ids (id ∷ ids) out =
    option_map_or (λ (cut : Cut). first_cut cut.item (cut_ids ids cut.rest)) (cut_id id out) (cut_ids ids out)

-- the consumer of an id without those of the ids that are out
abbrev pub without_ids : ConsumerId → List ℕ → Served → Served
without_ids id ids one =
    if same_consumer one.consumer.id id then record { consumer = one.consumer; out = (cut_ids ids one.out).rest }
    else one

abbrev pub cut_all : ConsumerId → List ℕ → List Served → List Served
cut_all id ids ones = map (without_ids id ids) ones

-- messages that were taken out end, one after the other
abbrev pub parts_end_items : Outcome → List Item → Work → Work
parts_end_items outcome xs t = fold (λ (now : Work) (x : Item). parts_end outcome x now) t xs

-- all ids are cut, the consumer leaves or begins to wait, and then what was cut ends
abbrev pub finish_at_once : Outcome → ConsumerId → List ℕ → Served → Work → Answered
finish_at_once outcome id ids one t =
    let cut : Parts = record (t.parts) { served = cut_all id ids t.parts.served } in
    let left = parts_begin_to_wait (credit_of_one one) id (keep_ones needed_one cut) in
    say Done (parts_end_items outcome (cut_ids ids one.out).items (with_parts left t))

-- Down ------------------------------------------------------------------------------------------------

-- the longest joined consumer of a session
abbrev pub first_of_session : SessionId → List Served → Option Served
first_of_session session ones = find (λ (one : Served). is_of_session session one.consumer) ones

abbrev pub without_first : SessionId → List Served → List Served
without_first session [] = []
without_first session (one ∷ ones) =
    if is_of_session session one.consumer then ones else one ∷ without_first session ones

-- it leaves, and what was out with it goes back
abbrev pub return_first_of : SessionId → Served → Work → Work
return_first_of session one t =
    fold (λ (now : Work) (x : Item). parts_return x now)
    (with_parts (record (t.parts) { served = without_first session t.parts.served }) t) one.out
