use Rattle.std.proofs.Common.{◌≡◌, ◌++◌, List, ℕ, drop, map}
use Rattle.std.specs.Option.{option_map}
use Rattle.qq_script_lines.specs.Numbers.{all_ids}
use Rattle.qq_script_lines.proofs.numbers.all_ids.Given as goal

-- the ids so far, and those of the rest
abbrev pub invariant-loop-word : goal.invariant-loop-word
invariant-loop-word l =
    option_map (λ (rest : List ℕ). l.ids ++ rest) (all_ids (map (λ w. w.now) (drop l.word-index l.words)))
    ≡ all_ids (map (λ w. w.now) l.words)
