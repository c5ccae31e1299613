-- The body of a message in a line.
use Rattle.std.specs.Prelude.{ℕ, ◌==◌, ◌&&◌, nat_le, nat_lt, List, [], ◌∷◌, Bool, false, length, replicate, Result, Ok, Err, if◌then◌else◌}
use Rattle.std.specs.List.{list_all}
use Rattle.qq_entry.specs.declared.limits.TheConstants.{BODY_LIMIT}
use Rattle.qq_script_lines.specs.declared.fault.ScriptFault.{ScriptFault}
use Rattle.qq_script_lines.specs.declared.fault.ScriptFault.TheVariants.{Body}
use Rattle.qq_script_lines.specs.Numbers.{is_digit, value_of}

-- one to seven digits
abbrev pub is_count : List ℕ → Bool
is_count digits = nat_lt 0 (length digits) && nat_le (length digits) 7 && list_all is_digit digits

abbrev pub begins_with : ℕ → List ℕ → Bool
begins_with b [] = false
begins_with b (c ∷ cs) = c == b

-- Behind an equals sign a count alone stands for so many letters x. Of two equals signs at the front one is dropped.
abbrev pub escaped_body : List ℕ → List ℕ → List ℕ
escaped_body whole rest =
    if is_count rest then replicate (value_of rest) 120 else if begins_with 61 rest then rest else whole

-- the body that the rest of a line gives
abbrev pub body_of : List ℕ → List ℕ
body_of [] = []
body_of (b ∷ bs) = if b == 61 then escaped_body (b ∷ bs) bs else b ∷ bs

-- a body that isn't too long
abbrev pub limited : List ℕ → Result (List ℕ) ScriptFault
limited body = if nat_le (length body) BODY_LIMIT then Ok body else Err (Body (length body))
