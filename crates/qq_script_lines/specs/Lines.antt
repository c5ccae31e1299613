-- The lines of a script.
use Rattle.std.specs.Prelude.{◌≡◌, ℕ, List, [], ◌∷◌, Bool, true, false, ◌&&◌, ◌||◌, nat_lt, length, take, drop, codes, Option, Some, None, Result, Ok, Err, if◌then◌else◌}
use Rattle.std.specs.Str.{bytes_eq, is_utf8}
use Rattle.qq_base.specs.declared.memory.Memory.TheVariants.{Want}
use Rattle.qq_route.specs.declared.setup.Setup.{Setup}
use Rattle.qq_script_lines.specs.declared.fault.ScriptFault.{ScriptFault}
use Rattle.qq_script_lines.specs.declared.fault.ScriptFault.TheVariants.{TooLong, Unknown, Words, Session, Memory}
use Rattle.qq_script_lines.specs.declared.line.Place.{Place}
use Rattle.qq_script_lines.specs.declared.line.TheConstants.{LINE_LIMIT}
use Rattle.qq_script_lines.specs.declared.line.ScriptLine.{ScriptLine}
use Rattle.qq_script_lines.specs.declared.line.ScriptLine.TheVariants as lines
use Rattle.qq_script_lines.specs.Words.{◌>>=◌, make, words_of}
use Rattle.qq_script_lines.specs.Numbers.{is_empty}
use Rattle.qq_script_lines.specs.Bodies.{begins_with}
use Rattle.qq_script_lines.specs.Arguments.{no_word, one_session, one_queue, one_node, some_nodes, one_member, one_message, attach, crash, send, publish}
use Rattle.qq_script_lines.specs.Commands.{client_line}

-- an empty line, or a comment: a semicolon and any text
abbrev pub is_nothing : List ℕ → Bool
is_nothing line = is_empty line || (begins_with 59 line && is_utf8 line)

-- what stands behind `publish` and a blank, which may be any bytes
abbrev pub publish_text : List ℕ → Option (List ℕ)
publish_text line = if bytes_eq (take 8 line) (codes "publish ") then Some (drop 8 line) else None

-- ---- lines by their first word, and the words behind it

-- a line about nodes, None where the word is of no such line
unfoldable pub node_line : Setup → List ℕ → List (List ℕ) → Result (Option ScriptLine) ScriptFault
node_line s word words =
    if bytes_eq word (codes "write") then make (λ node. Some (lines.Write node)) (one_node s words)
    else if bytes_eq word (codes "sync") then make (λ node. Some (lines.Sync node)) (one_node s words)
    else if bytes_eq word (codes "notice") then make (λ p. Some (lines.Notice p.0 p.1)) (one_member s words)
    else if bytes_eq word (codes "tick") then make (λ p. Some (lines.Tick p.0 p.1)) (one_member s words)
    else if bytes_eq word (codes "deliver") then make (λ p. Some (lines.Deliver p.0 p.1)) (one_message s words)
    else if bytes_eq word (codes "lose") then make (λ p. Some (lines.Lose p.0 p.1)) (one_message s words)
    else if bytes_eq word (codes "copy") then make (λ p. Some (lines.Copy p.0 p.1)) (one_message s words)
    else if bytes_eq word (codes "restart") then make (λ of. Some (lines.Restart of)) (some_nodes s words)
    else if bytes_eq word (codes "show") then make (λ at. Some (lines.Show at)) (one_queue s words)
    else Ok None

-- a line about a whole session or the pace, or one about nodes
unfoldable pub plain_line : Setup → List ℕ → List (List ℕ) → Result (Option ScriptLine) ScriptFault
plain_line s word words =
    if bytes_eq word (codes "end") then make (λ by. Some (lines.End by)) (one_session words)
    else if bytes_eq word (codes "resend") then make (λ by. Some (lines.Resend by)) (one_session words)
    else if bytes_eq word (codes "mute") then make (λ by. Some (lines.Mute by true)) (one_session words)
    else if bytes_eq word (codes "unmute") then make (λ by. Some (lines.Mute by false)) (one_session words)
    else if bytes_eq word (codes "manual") then make (λ _. Some (lines.Pace false)) (no_word words)
    else if bytes_eq word (codes "auto") then make (λ _. Some (lines.Pace true)) (no_word words)
    else if bytes_eq word (codes "pump") then make (λ _. Some lines.Pump) (no_word words)
    else node_line s word words

-- a plain line, where it is one, or a client's at a queue
abbrev pub or_client : Setup → List ℕ → List (List ℕ) → Option ScriptLine → Result ScriptLine ScriptFault
or_client s word words (Some said) = Ok said
or_client s word words None = client_line s word words

abbrev pub plain_or_client : Setup → List ℕ → List (List ℕ) → Result ScriptLine ScriptFault
plain_or_client s word words = plain_line s word words >>= or_client s word words

-- What a whole line says. Without a blank `publish` has no body.
unfoldable pub read : Setup → List ℕ → List ℕ → List (List ℕ) → Result ScriptLine ScriptFault
read s line word words =
    if bytes_eq word (codes "publish") then Err Words
    else if bytes_eq word (codes "send") then send line words
    else if bytes_eq word (codes "crash") then crash s words
    else if bytes_eq word (codes "attach") then attach s words
    else plain_or_client s word words

-- ---- lines where they stand

-- the lines that a client's section may have: its messages and commands, its end, and what it sends again
abbrev pub is_client : ScriptLine → Bool
is_client (lines.Publish body) = true
is_client (lines.Send by exchange key body) = true
is_client (lines.Client by at command) = true
is_client (lines.End by) = true
is_client (lines.Resend by) = true
is_client _ = false

-- Whether this line may stand there: a client's section has its own lines alone. Bodies stand in such lines, so none of
-- them is looked at before the place.
abbrev pub may_stand : Option ℕ → ScriptLine → Bool
may_stand None said = true
may_stand (Some section) said = is_client said

abbrev pub in_place : Place → ScriptLine → Result ScriptLine ScriptFault
in_place place said = if may_stand place.section said then Ok said else Err Session

abbrev pub read_words : Setup → Place → List ℕ → List (List ℕ) → Result ScriptLine ScriptFault
read_words s place line [] = Err Unknown
read_words s place line (word ∷ words) = read s line word words >>= in_place place

-- a line where it is UTF-8
abbrev pub text_in : List ℕ → Option (List ℕ)
text_in line = if is_utf8 line then Some line else None

abbrev pub read_text : Setup → Place → Option (List ℕ) → Result ScriptLine ScriptFault
read_text s place None = Err Unknown
read_text s place (Some text) = read_words s place text (words_of text)

abbrev pub read_bytes : Setup → Place → List ℕ → Option (List ℕ) → Result ScriptLine ScriptFault
read_bytes s place line (Some text) = publish s text
read_bytes s place line None = read_text s place (text_in line)

-- What a line says. A message's body may be any bytes, and all else is text.
abbrev pub parse_line : Setup → Place → List ℕ → Result ScriptLine ScriptFault
parse_line s place line =
    if nat_lt LINE_LIMIT (length line) then Err TooLong
    else if is_nothing line then Ok lines.Nothing
    else read_bytes s place line (publish_text line)

-- why a line isn't read
abbrev pub HasScriptCause : {A : Type 0} → ScriptFault → Result A ScriptFault → Type 0
HasScriptCause (Memory memory) read = memory ≡ Want
HasScriptCause fault read = read ≡ Err fault

-- a fault of the line itself, and no want of memory
abbrev pub IsOfLine : ScriptFault → Type 0
IsOfLine (Memory memory) = ⊥
IsOfLine _ = Unit {0}
