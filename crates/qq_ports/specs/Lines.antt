-- The lines of bytes. A line ends at a line feed, and a carriage return before it is dropped. The last
-- line may lack its line feed.
use Rattle.std.specs.Prelude.{◌≡◌, ◌≤◌, ◌<◌, ◌+◌, ℕ, List, [], ◌∷◌, ◌++◌, Bool, true, false, ◌==◌, ◌&&◌, Option, Some, None, length, take, drop, if◌then◌else◌}
use Rattle.std.specs.Io.KnownBytes.{Consumes, prepend_known}
use Rattle.qq_ports.specs.declared.fault.TheConstants.{LINE_LIMIT}
use Rattle.qq_ports.specs.declared.fault.LineFault.{LineFault}
use Rattle.qq_base.specs.declared.memory.Memory.TheVariants.{Want}
use Rattle.qq_ports.specs.declared.fault.LineFault.TheVariants.{Failed, TooLong, Memory}

-- the first line: the bytes before its line feed, the line itself, and the bytes behind it
pub record FirstLine : Type 0 where
  pub raw : List ℕ
  pub line : List ℕ
  pub rest : List ℕ

-- without the one carriage return at its end
abbrev pub without_return : List ℕ → List ℕ
without_return [] = []
without_return (b ∷ []) = if b == 13 then [] else b ∷ []
without_return (b ∷ c ∷ bs) = b ∷ without_return (c ∷ bs)

-- the bytes before the first line feed and those behind it
abbrev pub onto_prefix : ℕ → Option (List ℕ × List ℕ) → Option (List ℕ × List ℕ)
onto_prefix b None = None
onto_prefix b (Some parts) = Some (b ∷ parts.0, parts.1)

abbrev pub cut_at_feed : List ℕ → Option (List ℕ × List ℕ)
cut_at_feed [] = None
cut_at_feed (b ∷ bs) = if b == 10 then Some ([], bs) else onto_prefix b (cut_at_feed bs)

abbrev pub line_by_cut : List ℕ → Option (List ℕ × List ℕ) → FirstLine
line_by_cut bytes None = record { raw = bytes; line = bytes; rest = [] }
line_by_cut bytes (Some parts) = record { raw = parts.0; line = without_return parts.0; rest = parts.1 }

-- the first line of bytes, if there is any
abbrev pub first_line : List ℕ → Option FirstLine
first_line [] = None
first_line (b ∷ bs) = Some (line_by_cut (b ∷ bs) (cut_at_feed (b ∷ bs)))

-- all lines of bytes
abbrev pub begins_with_feed : List ℕ → Bool
begins_with_feed [] = false
begins_with_feed (b ∷ bs) = b == 10

abbrev pub onto_first : ℕ → List (List ℕ) → List (List ℕ)
onto_first b [] = (b ∷ []) ∷ []
onto_first b (line ∷ lines) = (b ∷ line) ∷ lines

abbrev pub lines_of : List ℕ → List (List ℕ)
lines_of [] = []
lines_of (b ∷ bs) =
    if b == 10 then [] ∷ lines_of bs
    else if (b == 13) && begins_with_feed bs then lines_of bs
    else onto_first b (lines_of bs)

-- the bytes ahead of a reader: those that it has read and not handed out, and what the source has left
abbrev pub ahead : List ℕ → Option (List ℕ) → Option (List ℕ)
ahead pending left = prepend_known pending left

-- known bytes begin with this line, which isn't too long, and lose it with its ending
pub record IsFirst (bytes line rest : List ℕ) : Type 0 where
  pub raw : List ℕ
  pub is : first_line bytes ≡ Some (record { raw = raw; line = line; rest = rest })
  pub fits : length raw ≤ LINE_LIMIT

abbrev pub TakesLine : Option (List ℕ) → Option (List ℕ) → List ℕ → Type 0
TakesLine None new line = Unit {0}
TakesLine (Some bytes) None line = ⊥
TakesLine (Some bytes) (Some rest) line = IsFirst bytes line rest

-- the first line of known bytes is longer than a line may be
abbrev pub IsLong : Option FirstLine → Type 0
IsLong None = ⊥
IsLong (Some first) = LINE_LIMIT < length first.raw

abbrev pub BeginsTooLong : Option (List ℕ) → Type 0
BeginsTooLong None = Unit {0}
BeginsTooLong (Some bytes) = IsLong (first_line bytes)

-- no line feed stands in bytes
abbrev pub HasNoFeed : List ℕ → Type 0
HasNoFeed [] = Unit {0}
HasNoFeed (b ∷ bs) = ((b == 10) ≡ false) × HasNoFeed bs

-- known bytes lose some at their front
abbrev pub LosesSome : Option (List ℕ) → Option (List ℕ) → Type 0
LosesSome bytes rest = (read : List ℕ) × Consumes bytes rest read

-- known bytes begin with a piece of a line, and lose it
abbrev pub LosesPiece : Option (List ℕ) → Option (List ℕ) → Type 0
LosesPiece bytes rest = (piece : List ℕ) × HasNoFeed piece × Consumes bytes rest piece

-- why there is no next line: these bytes were ahead, and the source has `rest` left
abbrev pub HasLineCause : LineFault → Option (List ℕ) → Option (List ℕ) → Type 0 → Type 0
HasLineCause Failed bytes rest rose = rose × LosesPiece bytes rest
HasLineCause (TooLong length) bytes rest rose = (length ≡ LINE_LIMIT + 1) × BeginsTooLong bytes
HasLineCause (Memory memory) bytes rest rose = memory ≡ Want

-- why a line is given up without a fault of the source, where these bytes were ahead
abbrev pub IsGivenUp : LineFault → List ℕ → Type 0
IsGivenUp fault bytes = HasLineCause fault (Some bytes) None ⊥

-- a piece of what was read is added to a line: up to the line feed, whose place is found, or all of it
abbrev pub TakesToFeed : Option ℕ → List ℕ → List ℕ → List ℕ → Type 0
TakesToFeed None pending line longer = HasNoFeed pending × (longer ≡ line ++ pending)
TakesToFeed (Some place) pending line longer =
    (place < length pending) × HasNoFeed (take place pending)
    × (pending ≡ take place pending ++ 10 ∷ drop (place + 1) pending)
    × (longer ≡ line ++ take place pending)

-- a piece moves from what was read to a line: up to the line feed, which is passed over, or all of it
abbrev pub TakesPiece : Bool → List ℕ → List ℕ → List ℕ → List ℕ → Type 0
TakesPiece true old new line longer =
    (piece : List ℕ) × HasNoFeed piece × (old ≡ piece ++ 10 ∷ new) × (longer ≡ line ++ piece)
TakesPiece false old new line longer = HasNoFeed old × (new ≡ []) × (longer ≡ line ++ old)

-- the law of lines: the first line, and then those of what is behind it
abbrev pub FirstLineLeads : List ℕ → Option FirstLine → Type 0
FirstLineLeads bytes None = lines_of bytes ≡ []
FirstLineLeads bytes (Some first) = lines_of bytes ≡ first.line ∷ lines_of first.rest
