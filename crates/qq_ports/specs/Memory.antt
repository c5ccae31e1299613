-- What a source in memory has left, what a sink in memory was given, and which of their calls fail.
use Rattle.std.specs.Prelude.{◌≡◌, ◌-◌, ◌||◌, ℕ, Bool, true, false, List, Option, Some, Result, Ok, Err, length, take, drop, nat_eq, nat_lt, if◌then◌else◌}
use Rattle.std.specs.List.{list_any}
use Rattle.qq_ports.specs.declared.source.Failed.{Failed}
use Rattle.qq_ports.specs.declared.memory.MemSource.{MemSource}
use Rattle.qq_ports.specs.declared.memory.MemSink.{MemSink}
use Rattle.qq_base.specs.Causes.{raise}

abbrev pub left_of : MemSource → Option (List ℕ)
left_of source = Some (drop source.at source.bytes.items)

abbrev pub written_of : MemSink → Option (List ℕ)
written_of sink = Some (take sink.length sink.bytes.items)

-- ---- which calls fail

-- the next call after so many has a number that is listed
abbrev pub is_listed : ℕ → List ℕ → Bool
is_listed calls fails = list_any (λ n. nat_eq n (raise calls)) fails

-- the next read fails: its number is listed
abbrev pub read_fails : MemSource → Bool
read_fails source = is_listed source.calls source.fails.items

-- the next write fails: its number is listed, or the sink has no room for so many bytes
abbrev pub write_fails : MemSink → ℕ → Bool
write_fails sink count =
    is_listed sink.calls sink.fails.items || nat_lt (length sink.bytes.items - sink.length) count

abbrev pub is_failed : {T : Type 0} → Result T Failed → Bool
is_failed (Ok value) = false
is_failed (Err failed) = true

-- a call was counted, and it failed, which is counted too, exactly where it was to fail
pub record Counts {T : Type 0} (fails : Bool) (calls calls' faults faults' : ℕ) (result : Result T Failed) : Type 0
  where
    pub counted : calls' ≡ raise calls
    pub failed : is_failed result ≡ fails
    pub faults_rise : faults' ≡ (if fails then raise faults else faults)
