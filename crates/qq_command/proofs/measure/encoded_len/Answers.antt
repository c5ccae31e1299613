use Rattle.std.proofs.Common.{ℕ, ◌+◌, sym, ap, ◌∙◌}
use Rattle.qq_command.specs.Lengths.{fields_length}
use Rattle.qq_command.proofs.FieldLengths.{entry_len}
use Rattle.qq_command.proofs.measure.encoded_len.Goals as goal

pub returns-clause-len : goal.returns-clause-len
returns-clause-len c =
    ap (λ (k : ℕ). 21 + k) (c.fields_len.ensures.len ∙ ap fields_length c.get.ensures)
    ∙ sym (entry_len c.args.entry.now)
