use Rattle.qq_script_lines.proofs.Writings.{decimal_text}
use Rattle.qq_script_lines.proofs.laws.numbers_are_decimal_texts.Goals as goal

pub returns : goal.returns
returns c = decimal_text
