-- Eight messages side by side: a vector has one word of each, and lane j of some vectors is what message j
-- has of them.
use Rattle.std.specs.Prelude.{ℕ, ◌*◌, List, [], ◌∷◌, ◌++◌, take, drop, map, slice_index, slice_index_or}
use Rattle.std.specs.Borrow.{Bor}

-- lane j of vector i
abbrev pub lane_at : List (List ℕ) → ℕ → ℕ → ℕ
lane_at vectors i j = slice_index (slice_index_or vectors i []) j

-- the hash value of message j
abbrev pub lane : ℕ → List (List ℕ) → List ℕ
lane j v =
    lane_at v 0 j ∷ lane_at v 1 j ∷ lane_at v 2 j ∷ lane_at v 3 j
    ∷ lane_at v 4 j ∷ lane_at v 5 j ∷ lane_at v 6 j ∷ lane_at v 7 j ∷ []

-- the words of message j
abbrev pub words_of : ℕ → List (List ℕ) → List ℕ
words_of j vectors = map (λ v. slice_index v j) vectors

-- the messages, each with a prefix before it
abbrev pub with_prefix : List ℕ → List (Bor (List ℕ)) → List (List ℕ)
with_prefix prefix messages = map (λ m. prefix ++ m.now) messages

-- the bytes of message j, where each message has so many
abbrev pub bytes_of : ℕ → ℕ → List ℕ → List ℕ
bytes_of size j bytes = take size (drop (j * size) bytes)
