-- The text of audits.
use Rattle.std.specs.Prelude.{ℕ, List, [], ◌∷◌, ◌++◌, Bool, true, false, length, map, flat_map, codes, if◌then◌else◌}
use Rattle.std.specs.Fmt.{decimal}
use Rattle.qq_entry.specs.declared.command.Stamp.{Stamp}
use Rattle.qq_entry.specs.declared.command.DeadDone.{DeadDone}
use Rattle.qq_entry.specs.declared.command.Command.{Command}
use Rattle.qq_entry.specs.declared.command.Command.TheVariants.{Noop, Enqueue, Get, Subscribe, Cancel, Credit, Settle, Return, Discard, Purge, Down, DeadAttach, DeadSettle}
use Rattle.qq_entry.specs.declared.answer.Answer.{Answer}
use Rattle.qq_entry.specs.declared.audit.AuditRow.{AuditRow}
use Rattle.qq_entry.specs.Answer.{comes_from_gate}
use Rattle.qq_entry.specs.Command.{seq_of}
use Rattle.qq_script.specs.Text.{tag_of, session_text, answer_words}

-- numbers with commas between them
abbrev pub comma_before : List ℕ → List ℕ
comma_before [] = []
comma_before (n ∷ ns) = codes "," ++ decimal n ++ comma_before ns

abbrev pub numbers_text : List ℕ → List ℕ
numbers_text [] = []
numbers_text (n ∷ ns) = decimal n ++ comma_before ns

abbrev pub stamp_text : Stamp → List ℕ
stamp_text stamp = codes " " ++ session_text stamp.session ++ codes " " ++ decimal stamp.seq

-- a word, a stamp, a tag and ids
abbrev pub ids_text : List ℕ → Stamp → ℕ → List ℕ → List ℕ
ids_text word stamp tag ids =
    word ++ stamp_text stamp ++ codes " " ++ decimal tag ++ codes " " ++ numbers_text ids

abbrev pub command_text : Command → List ℕ
command_text (Noop version) = codes "noop " ++ decimal version
command_text (Enqueue stamp origin message) =
    codes "enqueue" ++ stamp_text stamp ++ codes " " ++ decimal message.size
command_text (Get stamp) = codes "get" ++ stamp_text stamp
command_text (Subscribe stamp tag mode) =
    codes "subscribe" ++ stamp_text stamp ++ codes " " ++ decimal tag
command_text (Cancel stamp tag) = codes "cancel" ++ stamp_text stamp ++ codes " " ++ decimal tag
command_text (Credit stamp tag count credit drain) =
    codes "credit" ++ stamp_text stamp ++ codes " " ++ decimal tag
command_text (Settle stamp tag ids) = ids_text (codes "settle") stamp tag ids
command_text (Return stamp tag ids) = ids_text (codes "return") stamp tag ids
command_text (Discard stamp tag ids) = ids_text (codes "discard") stamp tag ids
command_text (Purge stamp) = codes "purge" ++ stamp_text stamp
command_text (Down session) = codes "down " ++ session_text session
command_text (DeadAttach term) = codes "dead-attach " ++ decimal term.0
command_text (DeadSettle term done) =
    codes "dead-settle " ++ decimal term.0 ++ codes " "
    ++ numbers_text (map (λ (d : DeadDone). d.number) done)

-- a command without the ids that it names, and those ids: both are its text
abbrev pub command_head : Command → List ℕ
command_head (Settle stamp tag ids) =
    codes "settle" ++ stamp_text stamp ++ codes " " ++ decimal tag ++ codes " "
command_head (Return stamp tag ids) =
    codes "return" ++ stamp_text stamp ++ codes " " ++ decimal tag ++ codes " "
command_head (Discard stamp tag ids) =
    codes "discard" ++ stamp_text stamp ++ codes " " ++ decimal tag ++ codes " "
command_head (DeadSettle term done) = codes "dead-settle " ++ decimal term.0 ++ codes " "
command_head command = command_text command

abbrev pub command_ids : Command → List ℕ
command_ids (Settle stamp tag ids) = numbers_text ids
command_ids (Return stamp tag ids) = numbers_text ids
command_ids (Discard stamp tag ids) = numbers_text ids
command_ids (DeadSettle term done) = numbers_text (map (λ (d : DeadDone). d.number) done)
command_ids _ = []

-- a kept answer was given again
abbrev pub again_text : Bool → Answer → List ℕ
again_text true answer = []
again_text false answer = if comes_from_gate answer then [] else codes " again"

abbrev pub row_text : AuditRow → List ℕ
row_text row =
    decimal row.index.0 ++ codes " " ++ decimal row.entry.term.0 ++ codes " "
    ++ command_text row.entry.command ++ codes " "
    ++ answer_words (seq_of row.entry.command) (tag_of row.entry.command) row.answer
    ++ again_text row.fresh row.answer ++ codes "\n"

-- the first line of an audit: the queue, the index at which it starts, and how many rows it has
abbrev pub audit_head_text : List ℕ → ℕ → ℕ → List ℕ
audit_head_text queue start count =
    codes "audit " ++ queue ++ codes " " ++ decimal start ++ codes " " ++ decimal count
    ++ codes "\n"

abbrev pub audit_text : List ℕ → ℕ → List AuditRow → List ℕ
audit_text queue start rows = audit_head_text queue start (length rows) ++ flat_map row_text rows
