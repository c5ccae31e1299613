-- Which calls fail.
use Rattle.std.specs.Prelude.{ℕ, zero, suc, Bool, true, false, ◌||◌, [], Option, Some, None, Result, Ok, Err, nat_eq, ◌≡◌, if◌then◌else◌}
use Rattle.std.specs.List.{list_any}
use Rattle.qq_base.specs.Causes.{raise}
use Rattle.qq_disk.specs.declared.fault.DiskFault.{DiskFault}
use Rattle.qq_disk.specs.declared.fault.DiskFault.TheVariants.{Failed, Memory as OfMemory}
use Rattle.qq_mem_disk.specs.declared.counter.Counter.{Counter}

abbrev pub is_blown : Option ℕ → Bool
is_blown (Some zero) = true
is_blown _ = false

abbrev pub burn : Option ℕ → Option ℕ
burn None = None
burn (Some zero) = Some zero
burn (Some (suc k)) = Some k

-- the next call fails: the fuse is blown, or its number is listed
abbrev pub will_fail : Counter → Bool
will_fail c = is_blown c.fuse || list_any (λ n. nat_eq n (raise c.calls)) c.fails.items

-- after the next call
abbrev pub count_call : Counter → Counter
count_call c =
    record c { calls = raise c.calls; faults = if will_fail c then raise c.faults else c.faults; fuse = burn c.fuse }

abbrev pub is_failed : {T : Type 0} → Result T DiskFault → Bool
is_failed (Ok value) = false
is_failed (Err Failed) = true
is_failed (Err (OfMemory memory)) = false

-- the call was counted, and failed exactly where it was to fail
pub record Counts {T : Type 0} (old new : Counter) (result : Result T DiskFault) : Type 0 where
  pub counted : new ≡ count_call old
  pub failed : is_failed result ≡ will_fail old

-- no calls so far, and none is to fail
pub record IsFresh (c : Counter) : Type 0 where
  pub calls : c.calls ≡ 0
  pub faults : c.faults ≡ 0
  pub fails : c.fails.items ≡ []
  pub fuse : c.fuse ≡ None
