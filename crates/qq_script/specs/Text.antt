-- The text of answers and deliveries.
use Rattle.std.specs.Prelude.{ℕ, List, [], ◌∷◌, ◌++◌, Bool, true, ◌==◌, ◌&&◌, Option, Some, None, unwrap_or, codes, if◌then◌else◌}
use Rattle.std.specs.Fmt.{decimal}
use Rattle.qq_base.specs.declared.ids.ConsumerId.{ConsumerId}
use Rattle.qq_base.specs.declared.ids.SessionId.{SessionId}
use Rattle.qq_entry.specs.declared.message.Content.{Content}
use Rattle.qq_entry.specs.declared.command.Command.{Command}
use Rattle.qq_entry.specs.Command.{seq_of, session, tag}
use Rattle.qq_entry.specs.declared.answer.Full.{Full}
use Rattle.qq_entry.specs.declared.answer.Full.TheVariants.{Length, ByteLength, Live}
use Rattle.qq_entry.specs.declared.answer.Cause.{Cause}
use Rattle.qq_entry.specs.declared.answer.Cause.TheVariants.{SingleActive, NumberSpent, ConsumersFull, NoConsumer, WrongMode}
use Rattle.qq_entry.specs.declared.answer.Answer.{Answer}
use Rattle.qq_entry.specs.declared.answer.Delivery.{Delivery}
use Rattle.qq_entry.specs.declared.answer.Answer.TheVariants as answers

-- the tag that a command names, and 0 of one that names none
abbrev pub tag_of : Command → ℕ
tag_of command = unwrap_or (tag command) 0

-- a client by its number, a dead-letter worker with d, a dead letter sent at most once with o
abbrev pub session_text : SessionId → List ℕ
session_text session =
    if session.class == 1 then decimal session.number
    else (if session.class == 2 then codes "d" else codes "o") ++ decimal session.owner
    ++ codes "." ++ decimal session.number

-- an arrival, and how often the message was returned, where it was
abbrev pub mark_text : ℕ → ℕ → List ℕ
mark_text arrival count =
    if count == 0 then decimal arrival
    else decimal arrival ++ codes "/" ++ decimal count

abbrev pub full_text : Full → List ℕ
full_text Length = codes "length"
full_text ByteLength = codes "bytes"
full_text Live = codes "live"

abbrev pub cause_text : Cause → List ℕ
cause_text SingleActive = codes "single-active"
cause_text NumberSpent = codes "number-spent"
cause_text ConsumersFull = codes "consumers-full"
cause_text NoConsumer = codes "no-consumer"
cause_text WrongMode = codes "wrong-mode"

-- an answer without a message's body
abbrev pub answer_words : ℕ → ℕ → Answer → List ℕ
answer_words seq tag answers.Lead = codes "lead"
answer_words seq tag answers.Confirmed = codes "confirmed " ++ decimal seq
answer_words seq tag (answers.Rejected full) =
    codes "rejected " ++ decimal seq ++ codes " " ++ full_text full
answer_words seq tag (answers.Got delivery) =
    codes "message " ++ mark_text delivery.arrival delivery.count
answer_words seq tag answers.Empty = codes "empty"
answer_words seq tag answers.Subscribed = codes "subscribed " ++ decimal tag
answer_words seq tag (answers.Refused cause) = codes "refused " ++ cause_text cause
answer_words seq tag answers.Done = codes "done"
answer_words seq tag (answers.Credited drained) = codes "credited " ++ decimal drained
answer_words seq tag (answers.Purged count) = codes "purged " ++ decimal count
answer_words seq tag answers.Down = codes "down"
answer_words seq tag answers.Attached = codes "attached"
answer_words seq tag answers.Stale = codes "stale"
answer_words seq tag (answers.DeadSettled count) = codes "dead-settled " ++ decimal count
answer_words seq tag (answers.Gap next) = codes "gap " ++ decimal next
answer_words seq tag answers.Forgotten = codes "forgotten " ++ decimal seq
answer_words seq tag answers.Ended = codes "ended"
answer_words seq tag answers.WindowFull = codes "window full"
answer_words seq tag answers.SessionsFull = codes "sessions full"

-- the body of a message that has its content
abbrev pub content_body : Option Content → List ℕ
content_body None = []
content_body (Some content) = content.body

-- what follows the words of an answer: a blank and the body where a message is shown
abbrev pub shown_body : Answer → List ℕ
shown_body (answers.Got delivery) = 32 ∷ content_body delivery.message.content
shown_body _ = []

-- Whom an answer concerns: nothing for session 1 and the first queue, else the session and the queue.
abbrev pub is_first_client : Option SessionId → Bool
is_first_client None = true
is_first_client (Some session) = (session.class == 1) && (session.number == 1)

abbrev pub client_text : Option SessionId → List ℕ
client_text None = []
client_text (Some session) = session_text session

abbrev pub line_prefix : Bool → Option SessionId → List ℕ → List ℕ
line_prefix first session queue =
    if first && is_first_client session then []
    else client_text session ++ codes " " ++ queue ++ codes ": "

-- the printed line of an answer
abbrev pub answer_text : Bool → Command → List ℕ → Answer → List ℕ
answer_text first command queue answer =
    line_prefix first (session command) queue
    ++ answer_words (seq_of command) (tag_of command) answer
    ++ shown_body answer ++ 10 ∷ []

-- ---- deliveries

-- the consumer's tag, the delivery's number and the message's, without its body
abbrev pub delivery_words : ConsumerId → Delivery → List ℕ
delivery_words consumer delivery =
    codes "deliver " ++ decimal consumer.tag ++ codes " " ++ decimal delivery.id ++ codes " "
    ++ mark_text delivery.arrival delivery.count

-- the printed line of a delivery
abbrev pub delivery_text : Bool → List ℕ → ConsumerId → Delivery → List ℕ
delivery_text first queue consumer delivery =
    line_prefix first (Some consumer.session) queue ++ delivery_words consumer delivery
    ++ 32 ∷ content_body delivery.message.content ++ 10 ∷ []
