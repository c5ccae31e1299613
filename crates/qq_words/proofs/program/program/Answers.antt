use Rattle.std.proofs.Common.{◌≡◌, ◌∙◌, ap}
use Rattle.clap.specs.Words.{App, with_subcommand}
use Rattle.qq_words.specs.Program.{drill, dump, program, script, top}
use Rattle.qq_words.proofs.program.program.Goals as goal

with-three : (t one two three : App) → t ≡ top → one ≡ with_subcommand t script.top
    → two ≡ with_subcommand one dump.top → three ≡ with_subcommand two drill.top → three ≡ program
with-three t one two three t_is first second third =
    third
    ∙ ap (λ (x : App). with_subcommand x drill.top)
    (second ∙ ap (λ (x : App). with_subcommand x dump.top) (first ∙ ap (λ (x : App). with_subcommand x script.top) t_is))

pub returns : goal.returns
returns c =
    with-three _ _ _ _ c.top.ensures c.in_ok-program.ensures c.in_ok-program-2.ensures c.in_ok-program-3.ensures
