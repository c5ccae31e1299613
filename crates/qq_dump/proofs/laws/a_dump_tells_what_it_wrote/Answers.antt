use Rattle.std.proofs.Common.{◌∙◌, ◌++◌, ℕ, List, take, drop, ap, sym, append_assoc, take-append-drop}
use Rattle.qq_dump.specs.Files.{dump_text}
use Rattle.qq_dump.proofs.laws.a_dump_tells_what_it_wrote.Goals as goal

pub returns-clause-sink : goal.returns-clause-sink
returns-clause-sink g c = λ files old new (n, within, grown).
    let text = dump_text files in (
      drop n text,
      ap (λ (l : List ℕ). old ++ l) (sym (take-append-drop n text)) ∙ sym (append_assoc old (take n text) (drop n text))
          ∙ ap (λ (l : List ℕ). l ++ drop n text) (sym grown),
    )
