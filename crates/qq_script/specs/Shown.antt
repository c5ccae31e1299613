-- The text of what is shown of a queue.
use Rattle.std.specs.Prelude.{ℕ, List, [], ◌++◌, Bool, Some, codes}
use Rattle.std.specs.Fmt.{decimal}
use Rattle.qq_base.specs.Ids.{client}
use Rattle.qq_base.specs.declared.ids.ConsumerId.{ConsumerId}
use Rattle.qq_entry.specs.declared.answer.Delivery.{Delivery}
use Rattle.qq_session.specs.declared.shown.Shown.{Shown}
use Rattle.qq_session.specs.declared.shown.Shown.TheVariants.{Answered, Delivered, NoLeader, WindowFull, HasEnded, NotTaken, Attached, IsBusy, Taken, Dropped}
use Rattle.qq_taker.specs.declared.taker.Verdict.{Verdict}
use Rattle.qq_taker.specs.declared.taker.Verdict.TheVariants.{Settle, Return, Discard, Keep}
use Rattle.qq_script.specs.Text.{line_prefix, answer_text, delivery_text, mark_text}

-- a line is about session 1 and the first queue, or says whom it is about
abbrev pub prefix_as : Bool → List ℕ → ℕ → List ℕ
prefix_as first name session = line_prefix first (Some (client session)) name

abbrev pub verdict_text : Verdict → List ℕ
verdict_text Settle = codes "settle"
verdict_text Return = codes "return"
verdict_text Discard = codes "discard"
verdict_text Keep = codes "keep"

-- what is shown of a delivery that was offered to its consumer's taker, before the verdict
abbrev pub taken_words : ConsumerId → Delivery → List ℕ
taken_words consumer delivery =
    codes "taken " ++ decimal consumer.tag ++ codes " " ++ decimal delivery.id ++ codes " "
    ++ mark_text delivery.arrival delivery.count ++ codes " "

-- the text of what is shown of a queue of this name, the first one or not; that a taker is given to a consumer has none
abbrev pub shown_text : Bool → List ℕ → Shown → List ℕ
shown_text first name (Answered row) = answer_text first row.entry.command name row.answer
shown_text first name (Delivered consumer delivery) = delivery_text first name consumer delivery
shown_text first name (NoLeader session) =
    prefix_as first name session ++ codes "no leader " ++ name ++ codes "\n"
shown_text first name (WindowFull session) = prefix_as first name session ++ codes "window full\n"
shown_text first name (HasEnded session) = prefix_as first name session ++ codes "ended\n"
shown_text first name (NotTaken session id) =
    prefix_as first name session ++ codes "not taken " ++ decimal id ++ codes "\n"
shown_text first name (Attached session number) = []
shown_text first name (IsBusy session number) =
    prefix_as first name session ++ codes "busy " ++ decimal number ++ codes "\n"
shown_text first name (Taken number consumer delivery verdict) =
    line_prefix first (Some consumer.session) name ++ codes "taken " ++ decimal consumer.tag ++ codes " "
    ++ decimal delivery.id ++ codes " " ++ mark_text delivery.arrival delivery.count ++ codes " "
    ++ verdict_text verdict ++ codes "\n"
shown_text first name (Dropped session number) =
    prefix_as first name session ++ codes "dropped " ++ decimal number ++ codes "\n"
