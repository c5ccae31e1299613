use Rattle.std.proofs.Common.{List, ℕ, ap, sym, ◌∙◌, ◌++◌, drop}
use Rattle.std.proofs.lemmas.List.{take-append-drop}
use Rattle.qq_disk_pins.proofs.bytes.what_is_read_stands_there.Goals as goal

pub returns-clause-header : goal.returns-clause-header
returns-clause-header c = λ bytes h is.
    sym (take-append-drop 38 bytes) ∙ ap (λ (front : List ℕ). front ++ drop 38 bytes) is.front

pub returns-clause-numbers : goal.returns-clause-numbers
returns-clause-numbers c = λ bytes h is. is.range

pub returns-clause-record : goal.returns-clause-record
returns-clause-record c = λ file bytes x is. (
  sym (take-append-drop x.1 bytes) ∙ ap (λ (front : List ℕ). front ++ drop x.1 bytes) is.front,
  is.len,
  is.writable,
)
