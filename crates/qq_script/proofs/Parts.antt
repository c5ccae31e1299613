-- What a row is put together from.
use Rattle.std.proofs.Common.{rules, ◌≡◌, ◌++◌, ◌∷◌, [], List, ℕ, codes, sym, append_assoc, append-nil}
use Rattle.std.specs.Fmt.{decimal}
use Rattle.qq_entry.specs.declared.command.Command.{Command}
use Rattle.qq_entry.specs.declared.command.Command.TheVariants.{Noop, Enqueue, Get, Subscribe, Cancel, Credit, Settle, Return, Discard, Purge, Down, DeadAttach, DeadSettle}
use Rattle.qq_entry.specs.declared.audit.AuditRow.{AuditRow}
use Rattle.qq_entry.specs.Command.{seq_of}
use Rattle.qq_script.specs.Text.{answer_words, tag_of}
use Rattle.qq_script.specs.Audit.{command_text, command_head, command_ids, again_text, row_text}

pub command_parts : (c : Command) → command_text c ≡ command_head c ++ command_ids c
command_parts (Settle stamp tag ids) = search rules
command_parts (Return stamp tag ids) = search rules
command_parts (Discard stamp tag ids) = search rules
command_parts (DeadSettle term done) = search rules
command_parts (Noop version) = sym (append-nil _)
command_parts (Enqueue stamp origin message) = sym (append-nil _)
command_parts (Get stamp) = sym (append-nil _)
command_parts (Subscribe stamp tag mode) = sym (append-nil _)
command_parts (Cancel stamp tag) = sym (append-nil _)
command_parts (Credit stamp tag count credit drain) = sym (append-nil _)
command_parts (Purge stamp) = sym (append-nil _)
command_parts (Down session) = sym (append-nil _)
command_parts (DeadAttach term) = sym (append-nil _)

regroup : (a b c d e f s n : List ℕ)
    → (a ++ s ++ b ++ s ++ c) ++ d ++ (s ++ e ++ f) ++ n ≡ a ++ s ++ b ++ s ++ (c ++ d) ++ s ++ e ++ f ++ n
regroup a b c d e f s n = search (rules, append_assoc)

pub row_parts : (row : AuditRow) (start ids end : List ℕ)
    → start ≡ decimal row.index.0 ++ codes " " ++ decimal row.entry.term.0 ++ codes " " ++ command_head row.entry.command
    → ids ≡ command_ids row.entry.command
    → end ≡ codes " " ++ answer_words (seq_of row.entry.command) (tag_of row.entry.command) row.answer
    ++ again_text row.fresh row.answer
    → start ++ ids ++ end ++ 10 ∷ [] ≡ row_text row
row_parts row start ids end s i e =
    rw (s, i, e, command_parts row.entry.command) (regroup (decimal row.index.0) (decimal row.entry.term.0)
    (command_head row.entry.command) (command_ids row.entry.command)
    (answer_words (seq_of row.entry.command) (tag_of row.entry.command) row.answer)
    (again_text row.fresh row.answer) (codes " ") (codes "\n"))
