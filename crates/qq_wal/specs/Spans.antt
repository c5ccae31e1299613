-- Runs of entries, each in a log file.
use Rattle.std.specs.Prelude.{ℕ, ◌+◌, List, [], ◌∷◌, map, min, false, Option, Some, None, option_to_list, nat_eq, nat_le, if◌then◌else◌}
use Rattle.std.specs.List.{flat_map}
use Rattle.qq_log.specs.declared.head.Span.{Span}

-- the first and the last of some indices, None where there are none
abbrev pub Range : Type 0
Range = Option (ℕ × ℕ)

-- those of them that a cut behind an index leaves
abbrev pub range_to : ℕ → Range → Range
range_to keep None = None
range_to keep (Some r) = if nat_le r.0 keep then Some (r.0, min r.1 keep) else None

abbrev pub first_or : ℕ → Range → ℕ
first_or index None = index
first_or index (Some r) = r.0

-- with so many more behind an index
abbrev pub range_behind : ℕ → ℕ → Range → Range
range_behind keep count r = if nat_eq count 0 then r else Some (first_or (keep + 1) r, keep + count)

-- ---- runs

-- where a cut leaves entries, each cut being told by the least index that was kept
abbrev pub span_to : Option ℕ → Span → Option Span
span_to None s = Some s
span_to (Some keep) s =
    if nat_le s.first.0 keep then Some (record s { last = record { 0 = min s.last.0 keep } }) else None

abbrev pub spans_to : Option ℕ → List Span → List Span
spans_to cut spans = flat_map (λ (s : Span). option_to_list (span_to cut s)) spans

-- the entries of a run, where it is that of a log file and a cut leaves any
abbrev pub range_in : Option Span → Range
range_in None = None
range_in (Some s) = Some (s.first.0, s.last.0)

abbrev pub range_at : Option ℕ → ℕ → Option Span → Range
range_at cut file None = None
range_at cut file (Some s) = if nat_eq s.file file then range_in (span_to cut s) else None

-- the files of runs
abbrev pub files_in : List Span → List ℕ
files_in spans = map (λ (s : Span). s.file) spans

-- the entries of a range that lie in a log file
abbrev pub span_of : ℕ → Range → List Span
span_of file None = []
span_of file (Some r) =
    record { file = file; segment = false; first = record { 0 = r.0 }; last = record { 0 = r.1 } } ∷ []

-- the least index that was kept, with a cut more
abbrev pub least_kept : Option ℕ → ℕ → ℕ
least_kept None keep = keep
least_kept (Some cut) keep = min cut keep

-- the first and the last entry that lies in a log file, None where none does
abbrev pub find_file : ℕ → List Span → Range
find_file file [] = None
find_file file (s ∷ spans) = if nat_eq s.file file then Some (s.first.0, s.last.0) else find_file file spans
