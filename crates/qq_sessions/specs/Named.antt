-- The messages that kept answers name, by their indices.
use Rattle.std.specs.Prelude.{◌≡◌, ℕ, true, is_some, List, [], ◌∷◌, ◌++◌, Option, Some, None}
use Rattle.qq_base.specs.declared.ids.Index.{Index}
use Rattle.qq_entry.specs.declared.answer.Answer.{Answer}
use Rattle.qq_entry.specs.declared.answer.Answer.TheVariants.{Got}
use Rattle.qq_model.specs.declared.session.OpenSession.{OpenSession}
use Rattle.qq_live.specs.Indices.{LiveState, occurrences, HasRoomFor}
use Rattle.qq_sessions.specs.Opened.{OpenedState}

-- the index of the message that was got
abbrev pub got_indices : Answer → List Index
got_indices (Got delivery) = delivery.index ∷ []
got_indices _ = []

abbrev pub index_list : Option Index → List Index
index_list None = []
index_list (Some index) = index ∷ []

abbrev pub answers_indices : List Answer → List Index
answers_indices [] = []
answers_indices (answer ∷ rest) = got_indices answer ++ answers_indices rest

-- each index as often as kept answers name it
abbrev pub kept_indices : List OpenSession → List Index
kept_indices [] = []
kept_indices (one ∷ rest) = answers_indices one.kept ++ kept_indices rest

abbrev pub HoldsKept : List Index → List OpenSession → Type 0
HoldsKept indices ones = (i : ℕ) → occurrences i indices ≡ occurrences i (kept_indices ones)

-- what kept answers name is held, and there is room for the answer that is sure to be kept
pub record AreNamed (opened : OpenedState) (named : LiveState) : Type 0 where
  pub held : HoldsKept named.indices opened.rows
  pub room : is_some opened.room ≡ true → HasRoomFor 1 named
