-- Chains that are read, in a small format: a header is a file's number, the one before it and that one's good length,
-- and a record is one number that isn't 0.
use Rattle.std.proofs.Common.{◌≡◌, ℕ, zero, suc, List, [], ◌∷◌, ◌++◌, Option, Some, None, refl}
use Rattle.qq_wal_chain.specs.Format.{Format}
use Rattle.qq_wal_chain.specs.Records.{records}
use Rattle.qq_wal_chain.specs.Chain.{Logs, reading}

record Head : Type 0 where
  number : ℕ
  previous : ℕ
  good : ℕ

abbrev head_at : List ℕ → Option Head
head_at (n ∷ p ∷ g ∷ rest) = Some (record { number = n; previous = p; good = g })
head_at _ = None

abbrev one_at : ℕ → List ℕ → Option ℕ
one_at n [] = None
one_at n (zero ∷ rest) = None
one_at n (suc b ∷ rest) = Some (suc b)

abbrev small : Format
small = record {
  Record = ℕ;
  Header = Head;
  World = List ℕ;
  encode = λ n r. r ∷ [];
  read = one_at;
  header_size = 3;
  encode_header = λ h. h.number ∷ h.previous ∷ h.good ∷ [];
  read_header = head_at;
  number = λ h. h.number;
  previous = λ h. h.previous;
  good = λ h. h.good;
  Fits = λ n r. Unit {0};
  HeaderFits = λ h. Unit {0};
  start = [];
  step = λ r world. Some (world ++ r ∷ []);
}

-- files 1 and 2
abbrev logs : List ℕ → Option (List ℕ) → Logs
logs one two (suc zero) = Some one
logs one two (suc (suc zero)) = two
logs one two _ = None

abbrev first : List ℕ
first = 1 ∷ 0 ∷ 0 ∷ 5 ∷ 6 ∷ 0 ∷ 7 ∷ []

-- reading ends where no record stands, whatever follows
one-file : reading small 3 (logs first None)
    ≡ record { file = 1; good = 5; found = Some (record { files = 1 ∷ []; world = 5 ∷ 6 ∷ [] }) }
unfolding records
one-file = refl

-- a newest file without a whole header counts as absent
torn-header : reading small 3 (logs first (Some (2 ∷ 1 ∷ [])))
    ≡ record { file = 1; good = 5; found = Some (record { files = 1 ∷ []; world = 5 ∷ 6 ∷ [] }) }
unfolding records
torn-header = refl

two-files : reading small 3 (logs first (Some (2 ∷ 1 ∷ 5 ∷ 8 ∷ [])))
    ≡ record { file = 2; good = 4; found = Some (record { files = 2 ∷ 1 ∷ []; world = 5 ∷ 6 ∷ 8 ∷ [] }) }
unfolding records
two-files = refl

-- the good length isn't where the older file's records end
wrong-length : (reading small 3 (logs first (Some (2 ∷ 1 ∷ 6 ∷ 8 ∷ [])))).found ≡ None
unfolding records
wrong-length = refl

-- the header has another number, or names its own file
wrong-number : (reading small 3 (logs first (Some (3 ∷ 1 ∷ 5 ∷ 8 ∷ [])))).found ≡ None
unfolding records
wrong-number = refl

own-previous : (reading small 3 (logs first (Some (2 ∷ 2 ∷ 5 ∷ 8 ∷ [])))).found ≡ None
unfolding records
own-previous = refl

-- an older file is damaged before its good length
damaged : (reading small 3 (logs (1 ∷ 0 ∷ 0 ∷ 5 ∷ 0 ∷ []) (Some (2 ∷ 1 ∷ 5 ∷ 8 ∷ [])))).found ≡ None
unfolding records
damaged = refl
