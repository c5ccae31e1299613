-- A binding key goes along a routing key up to its first hash.
use Rattle.std.specs.Prelude.{List, [], ◌∷◌, if◌then◌else◌}
use Rattle.qq_route.specs.declared.topic.Stop.{Stop}
use Rattle.qq_route.specs.declared.topic.Stop.TheVariants.{Fails, Ends, Comes}
use Rattle.qq_route.specs.Topic.{Word, is_hash, takes_word}
use Rattle.qq_route.specs.Words.{left}

-- It fails at a word, ends with the key, or comes to a hash: what is behind the hash, and the key's rest.
pub data Reach : Type 0 where
  fails : Reach
  ends : Reach
  comes : List Word → List Word → Reach

abbrev pub reach_of : Stop → Reach
reach_of Fails = fails
reach_of Ends = ends
reach_of (Comes pattern key) = comes (left pattern) (left key)

abbrev pub walk : List Word → List Word → Reach
walk [] [] = ends
walk [] (w ∷ ws) = fails
walk (p ∷ ps) [] = if is_hash p then comes ps [] else fails
walk (p ∷ ps) (w ∷ ws) = if is_hash p then comes ps (w ∷ ws) else (if takes_word p w then walk ps ws else fails)
