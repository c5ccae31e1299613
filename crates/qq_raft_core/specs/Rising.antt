-- Terms of a log that don't fall.
use Rattle.std.specs.Prelude.{ℕ, Bool, List, [], ◌∷◌, nat_le, ◌&&◌}
use Rattle.qq_entry.specs.declared.command.Entry.{Entry}

-- from a term on no term falls, and none is after another one
abbrev pub rises : ℕ → ℕ → List Entry → Bool
rises first end [] = nat_le first end
rises first end (e ∷ es) = nat_le first e.term.0 && rises e.term.0 end es
