-- A client's commands at a queue. The words behind a command's name begin with its session and its queue.
use Rattle.std.specs.Prelude.{ℕ, ◌-◌, ◌^◌, List, [], ◌∷◌, Bool, true, false, codes, Option, Some, None, Result, Ok, Err, if◌then◌else◌}
use Rattle.std.specs.Str.{bytes_eq}
use Rattle.qq_base.specs.declared.ids.QueueId.{QueueId}
use Rattle.qq_base.specs.declared.ids.SessionId.{SessionId}
use Rattle.qq_base.specs.Ids.{client}
use Rattle.qq_entry.specs.declared.command.Mode.TheVariants.{Prefetch, Link}
use Rattle.qq_entry.specs.declared.command.Unstamped.{Unstamped}
use Rattle.qq_entry.specs.declared.command.Unstamped.TheVariants as commands
use Rattle.qq_route.specs.declared.setup.Setup.{Setup}
use Rattle.qq_script_lines.specs.declared.fault.ScriptFault.{ScriptFault}
use Rattle.qq_script_lines.specs.declared.fault.ScriptFault.TheVariants.{Unknown, Words, Number}
use Rattle.qq_script_lines.specs.declared.line.ScriptLine.{ScriptLine}
use Rattle.qq_script_lines.specs.declared.line.ScriptLine.TheVariants as lines
use Rattle.qq_script_lines.specs.Words.{◌>>=◌, make, or_fault}
use Rattle.qq_script_lines.specs.Numbers.{number_in, session_of, tag_of, ids_of}
use Rattle.qq_script_lines.specs.Arguments.{queue_of, first_queue}

-- ---- words of several commands

-- S Q
unfoldable pub bare : List (List ℕ) → Result (Unit {0}) ScriptFault
bare (session ∷ queue ∷ []) = Ok tt
bare _ = Err Words

-- nothing, or S Q
unfoldable pub bare_or_none : List (List ℕ) → Result (Unit {0}) ScriptFault
bare_or_none [] = Ok tt
bare_or_none words = bare words

-- S Q T
unfoldable pub one_tag : List (List ℕ) → Result ℕ ScriptFault
one_tag (session ∷ queue ∷ tag ∷ []) = or_fault Number (tag_of tag)
one_tag _ = Err Words

-- S Q T IDS
unfoldable pub deliveries : List (List ℕ) → Result (ℕ × List ℕ) ScriptFault
deliveries (session ∷ queue ∷ tag ∷ ids ∷ []) =
    or_fault Number (tag_of tag) >>= λ by. or_fault Number (ids_of ids) >>= λ list. Ok (by, list)
deliveries _ = Err Words

-- ---- words of one command

-- S Q T P
unfoldable pub subscribe : List (List ℕ) → Result Unstamped ScriptFault
subscribe (session ∷ queue ∷ tag ∷ prefetch ∷ []) =
    or_fault Number (tag_of tag) >>= λ by. or_fault Number (number_in 0 (2 ^ 16 - 1) prefetch) >>= λ most.
    Ok (commands.Subscribe by (Prefetch most))
subscribe _ = Err Words

-- the last word of `credit`: whether credit that no message meets is used up
abbrev pub is_drain : List ℕ → Option Bool
is_drain word =
    if bytes_eq word (codes "drain") then Some true else if bytes_eq word (codes "keep") then Some false else None

abbrev pub amount_of : List ℕ → Option ℕ
amount_of word = number_in 0 (2 ^ 32 - 1) word

-- S Q T COUNT CREDIT and `drain` or `keep`
unfoldable pub credit : List (List ℕ) → Result Unstamped ScriptFault
credit (session ∷ queue ∷ tag ∷ count ∷ more ∷ how ∷ []) =
    or_fault Words (is_drain how) >>= λ drain. or_fault Number (tag_of tag) >>= λ by.
    or_fault Number (amount_of count) >>= λ had. or_fault Number (amount_of more) >>= λ given.
    Ok (commands.Credit by had given drain)
credit _ = Err Words

-- ---- commands

-- A command without ids: its name, the words behind it, and what they ask for.
unfoldable pub plain_command : List ℕ → List (List ℕ) → Result Unstamped ScriptFault
plain_command name words =
    if bytes_eq name (codes "get") then make (λ _. commands.Get) (bare_or_none words)
    else if bytes_eq name (codes "subscribe") then subscribe words
    else if bytes_eq name (codes "link") then make (λ tag. commands.Subscribe tag Link) (one_tag words)
    else if bytes_eq name (codes "credit") then credit words
    else if bytes_eq name (codes "cancel") then make commands.Cancel (one_tag words)
    else if bytes_eq name (codes "purge") then make (λ _. commands.Purge) (bare words)
    else Err Unknown

-- Each command of a client at a queue.
unfoldable pub command_of : List ℕ → List (List ℕ) → Result Unstamped ScriptFault
command_of name words =
    if bytes_eq name (codes "settle") then make (λ p. commands.Settle p.0 p.1) (deliveries words)
    else if bytes_eq name (codes "return") then make (λ p. commands.Return p.0 p.1) (deliveries words)
    else if bytes_eq name (codes "discard") then make (λ p. commands.Discard p.0 p.1) (deliveries words)
    else plain_command name words

-- the session and the queue: session 1 and the first queue, where they aren't said
unfoldable pub client_at : Setup → List (List ℕ) → Result (SessionId × QueueId) ScriptFault
client_at s [] = first_queue s.queues >>= λ at. Ok (client 1, at)
client_at s (session ∷ queue ∷ words) =
    or_fault Number (session_of session) >>= λ by. queue_of s queue >>= λ at. Ok (by, at)
client_at s _ = Err Words

-- a client's line at a queue
unfoldable pub client_line : Setup → List ℕ → List (List ℕ) → Result ScriptLine ScriptFault
client_line s name words =
    command_of name words >>= λ command. client_at s words >>= λ p. Ok (lines.Client p.0 p.1 command)
