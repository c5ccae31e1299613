use Rattle.std.proofs.Common.{[], ◌∷◌}
use Rattle.qq_digests.proofs.rounds.add_state.Goals as goal

pub returns : goal.returns
returns c = λ j lt. (λ i.
    c.add32.ensures j lt i ∷ c.add32-2.ensures j lt i ∷ c.add32-3.ensures j lt i ∷ c.add32-4.ensures j lt i
    ∷ c.add32-5.ensures j lt i ∷ c.add32-6.ensures j lt i ∷ c.add32-7.ensures j lt i ∷ c.add32-8.ensures j lt i ∷ [])
