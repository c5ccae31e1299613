-- What the files of a log are made of, and what their records come to. All that is said of a chain of files is
-- said of any such format.
use Rattle.std.specs.Prelude.{◌≡◌, ◌≤◌, ◌<◌, ℕ, List, ◌++◌, length, take, drop, Option, Some}

-- records and headers, which file numbers mark, those that fit into a file, and a value to which each record adds:
-- a step that is None says that the record doesn't fit there
pub record Format : Type 1 where
  pub Record : Type 0
  pub Header : Type 0
  pub World : Type 0
  pub encode : ℕ → Record → List ℕ
  pub read : ℕ → List ℕ → Option Record
  pub header_size : ℕ
  pub encode_header : Header → List ℕ
  pub read_header : List ℕ → Option Header
  pub number : Header → ℕ
  pub previous : Header → ℕ
  pub good : Header → ℕ
  pub Fits : ℕ → Record → Type 0
  pub HeaderFits : Header → Type 0
  pub start : World
  pub step : Record → World → Option World

-- what is asked of the encodings: what was written is read again whatever follows it, and what is read is what
-- was written there
pub record IsFormat (F : Format) : Type 0 where
  pub again : (n : ℕ) (r : F.Record) (rest : List ℕ) → F.Fits n r → F.read n (F.encode n r ++ rest) ≡ Some r
  pub exact : (n : ℕ) (bytes : List ℕ) (r : F.Record) → F.read n bytes ≡ Some r
      → bytes ≡ F.encode n r ++ drop (length (F.encode n r)) bytes
  pub fits : (n : ℕ) (bytes : List ℕ) (r : F.Record) → F.read n bytes ≡ Some r → F.Fits n r
  pub some : (n : ℕ) (r : F.Record) → 0 < length (F.encode n r)
  pub header_again : (h : F.Header) (rest : List ℕ) → F.HeaderFits h
      → F.read_header (F.encode_header h ++ rest) ≡ Some h
  pub header_length : (h : F.Header) → F.HeaderFits h → length (F.encode_header h) ≡ F.header_size
  pub header_whole : (bytes : List ℕ) (h : F.Header) → F.read_header bytes ≡ Some h → F.header_size ≤ length bytes
  pub header_local : (bytes rest : List ℕ) → F.header_size ≤ length bytes
      → F.read_header (take F.header_size bytes ++ rest) ≡ F.read_header bytes
