-- The least index of a message that a kept answer names.
use Rattle.std.specs.Prelude.{ℕ, List, Option, Some, None, fold, nat_lt, if◌then◌else◌}
use Rattle.qq_entry.specs.declared.answer.Answer.{Answer}
use Rattle.qq_entry.specs.declared.answer.Answer.TheVariants.{Got}
use Rattle.qq_model.specs.declared.session.OpenSession.{OpenSession}
use Rattle.qq_model.specs.State.{Sessions}

-- the index of the message that was got
abbrev pub got_index : Answer → Option ℕ
got_index (Got delivery) = Some delivery.index.0
got_index _ = None

abbrev pub lesser_index : Option ℕ → Option ℕ → Option ℕ
lesser_index low None = low
lesser_index None (Some index) = Some index
lesser_index (Some low) (Some index) = Some (if nat_lt index low then index else low)

abbrev pub low_with : Option ℕ → Answer → Option ℕ
low_with low answer = lesser_index low (got_index answer)

abbrev pub low_of : Option ℕ → List Answer → Option ℕ
low_of low answers = fold low_with low answers

abbrev pub low_of_session : Option ℕ → OpenSession → Option ℕ
low_of_session low one = low_of low one.kept

abbrev pub kept_low : Sessions → Option ℕ
kept_low s = fold low_of_session None s.opened
