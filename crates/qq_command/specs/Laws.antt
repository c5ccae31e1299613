-- What holds of all entries and their encodings.
use Rattle.std.specs.Prelude.{◌+◌, ◌≤◌, length}
use Rattle.qq_entry.specs.declared.limits.TheConstants.{LENGTH_LIMIT}
use Rattle.qq_entry.specs.declared.command.Entry.{Entry}
use Rattle.qq_entry.specs.Range.{IsInRange}
use Rattle.qq_command.specs.declared.lengths.TheConstants.{HEAD_LEN}
use Rattle.qq_command.specs.Encoding.{encoding}

-- an encoding is no longer than its limit
abbrev pub HasShortEncoding : Entry → Type 0
HasShortEncoding e = IsInRange e → length (encoding e) ≤ HEAD_LEN + LENGTH_LIMIT
