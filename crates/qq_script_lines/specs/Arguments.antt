-- What the words behind a line's first one say. Of each line all words are looked at for one kind of fault before the
-- next: their number, the numbers among them, what they name, and last a body's length.
use Rattle.std.specs.Prelude.{ℕ, ◌-◌, ◌^◌, nat_lt, List, [], ◌∷◌, length, codes, Option, Some, None, Result, Ok, Err, if◌then◌else◌}
use Rattle.std.specs.Str.{bytes_eq}
use Rattle.qq_base.specs.declared.ids.NodeId.{NodeId}
use Rattle.qq_base.specs.declared.ids.QueueId.{QueueId}
use Rattle.qq_base.specs.declared.ids.SessionId.{SessionId}
use Rattle.qq_entry.specs.declared.limits.TheConstants.{KEY_LIMIT}
use Rattle.qq_route.specs.declared.queue_row.QueueRow.{QueueRow}
use Rattle.qq_route.specs.declared.setup.Setup.{Setup}
use Rattle.qq_script_lines.specs.declared.fault.ScriptFault.{ScriptFault}
use Rattle.qq_script_lines.specs.declared.fault.ScriptFault.TheVariants.{Words, Number, NoSuch}
use Rattle.qq_script_lines.specs.declared.line.Nodes.{Nodes}
use Rattle.qq_script_lines.specs.declared.line.Nodes.TheVariants.{One, All}
use Rattle.qq_script_lines.specs.declared.line.ScriptLine.{ScriptLine}
use Rattle.qq_script_lines.specs.declared.line.ScriptLine.TheVariants as lines
use Rattle.qq_script_lines.specs.Words.{◌>>=◌, or_fault, text_of, behind_four}
use Rattle.qq_script_lines.specs.Numbers.{is_number, number_in, place_of, session_of, tag_of}
use Rattle.qq_script_lines.specs.Names.{row_of, node_of, is_member}
use Rattle.qq_script_lines.specs.Bodies.{body_of, limited}
use Rattle.qq_script_lines.specs.Images.{image_of}

-- a queue that is named
abbrev pub queue_of : Setup → List ℕ → Result QueueId ScriptFault
queue_of s word = or_fault NoSuch (row_of s word) >>= λ row. Ok row.args.queue

-- the first queue
abbrev pub first_queue : List QueueRow → Result QueueId ScriptFault
first_queue [] = Err NoSuch
first_queue (row ∷ rows) = Ok row.args.queue

-- ---- words of several lines

-- no word
unfoldable pub no_word : List (List ℕ) → Result (Unit {0}) ScriptFault
no_word [] = Ok tt
no_word _ = Err Words

-- S
unfoldable pub one_session : List (List ℕ) → Result SessionId ScriptFault
one_session (session ∷ []) = or_fault Number (session_of session)
one_session _ = Err Words

-- Q
unfoldable pub one_queue : Setup → List (List ℕ) → Result QueueId ScriptFault
one_queue s (queue ∷ []) = queue_of s queue
one_queue s _ = Err Words

-- N
unfoldable pub one_node : Setup → List (List ℕ) → Result NodeId ScriptFault
one_node s (node ∷ []) = node_of s node
one_node s _ = Err Words

-- N, or `all`
abbrev pub nodes_of : Setup → List ℕ → Result Nodes ScriptFault
nodes_of s word = if bytes_eq word (codes "all") then Ok All else node_of s word >>= λ node. Ok (One node)

unfoldable pub some_nodes : Setup → List (List ℕ) → Result Nodes ScriptFault
some_nodes s (node ∷ []) = nodes_of s node
some_nodes s _ = Err Words

-- N Q, where the node is a member of the queue's group
abbrev pub served_at : NodeId → QueueRow → Result QueueId ScriptFault
served_at node row = if is_member node row then Ok row.args.queue else Err NoSuch

abbrev pub queue_at : Setup → NodeId → List ℕ → Result QueueId ScriptFault
queue_at s node word = or_fault NoSuch (row_of s word) >>= served_at node

unfoldable pub one_member : Setup → List (List ℕ) → Result (NodeId × QueueId) ScriptFault
one_member s (node ∷ queue ∷ []) = node_of s node >>= λ by. queue_at s by queue >>= λ at. Ok (by, at)
one_member s _ = Err Words

-- Q K, a queue and a place among the messages of its servers
unfoldable pub one_message : Setup → List (List ℕ) → Result (QueueId × ℕ) ScriptFault
one_message s (queue ∷ place ∷ []) =
    or_fault Number (place_of place) >>= λ at. queue_of s queue >>= λ of. Ok (of, at)
one_message s _ = Err Words

-- ---- words of one line

-- the number of a taker: any number is one, and whether it is there only the broker knows
abbrev pub is_written : List ℕ → Result (Unit {0}) ScriptFault
is_written word = if is_number word then Ok tt else Err Number

unfoldable pub consumer_of : List ℕ → List ℕ → Result (SessionId × ℕ) ScriptFault
consumer_of session tag =
    or_fault Number (session_of session) >>= λ by. or_fault Number (tag_of tag) >>= λ to. Ok (by, to)

unfoldable pub attach_to : Setup → SessionId → ℕ → List ℕ → List ℕ → Result ScriptLine ScriptFault
attach_to s by to queue taker =
    is_written taker >>= λ _. queue_of s queue >>= λ at.
    or_fault NoSuch (number_in 1 (2 ^ 32 - 1) taker) >>= λ number. Ok (lines.Attach by at to number)

-- S Q T K
unfoldable pub attach : Setup → List (List ℕ) → Result ScriptLine ScriptFault
attach s (session ∷ queue ∷ tag ∷ taker ∷ []) =
    consumer_of session tag >>= λ p. attach_to s p.0 p.1 queue taker
attach s _ = Err Words

-- N IMAGE
unfoldable pub crash : Setup → List (List ℕ) → Result ScriptLine ScriptFault
crash s [] = Err Words
crash s (node ∷ image) = image_of image >>= λ of. nodes_of s node >>= λ nodes. Ok (lines.Crash nodes of)

-- a routing key isn't too long
abbrev pub key_of : List ℕ → Option (List ℕ)
key_of word = if nat_lt KEY_LIMIT (length word) then None else Some (text_of word)

-- the body is the rest of the line, behind `send` and three words
abbrev pub send_to : List ℕ → SessionId → List ℕ → List ℕ → Result ScriptLine ScriptFault
send_to line by exchange key = limited (body_of (behind_four line)) >>= λ body. Ok (lines.Send by exchange key body)

-- S X K BODY
unfoldable pub send : List ℕ → List (List ℕ) → Result ScriptLine ScriptFault
send line (session ∷ exchange ∷ key ∷ first ∷ more) =
    or_fault Words (key_of key) >>= λ short. or_fault Number (session_of session) >>= λ by.
    send_to line by (text_of exchange) short
send line _ = Err Words

-- BODY, to the first queue
abbrev pub publish : Setup → List ℕ → Result ScriptLine ScriptFault
publish s text = first_queue s.queues >>= λ at. limited (body_of text) >>= λ body. Ok (lines.Publish body)
