-- How a run ends: the exit status, and what is printed last.
use Rattle.std.specs.Prelude.{ℕ, ◌+◌, List, [], ◌++◌, Option, Some, None, codes}
use Rattle.std.specs.Fmt.{decimal}
use Rattle.qq_script_lines.specs.declared.fault.ScriptFault.{ScriptFault}
use Rattle.qq_script_lines.specs.declared.fault.ScriptFault.TheVariants.{Words, Number, NoSuch, TooLong, Session}
use Rattle.qq_cluster_run.specs.declared.status.TheConstants.{USAGE, REFUSED, READ_FAULT, WRITE_FAULT, YARD_FAULT, DAMAGED, LOST, LIMIT, NO_MEMORY, SPENT}
use Rattle.qq_cluster_run.specs.declared.ending.TheConstants.{LINES_LIMIT}

pub record Ending : Type 0 where
  pub status : ℕ
  pub text : List ℕ

-- ---- parts of a closing line

abbrev pub number_text : Option ℕ → List ℕ
number_text None = []
number_text (Some number) = decimal number

abbrev pub name_text : Option (List ℕ) → List ℕ
name_text None = []
name_text (Some name) = name

-- ---- the closing lines

abbrev pub usage : Ending
usage = record { status = USAGE; text = codes "usage: qq script|run|drill N|dump\n" }

-- why a line isn't served
abbrev pub fault_text : ScriptFault → List ℕ
fault_text Words = codes "words"
fault_text Number = codes "number"
fault_text NoSuch = codes "no-such"
fault_text TooLong = codes "too-long"
fault_text Session = codes "session"
fault_text _ = codes "unknown"

abbrev pub refusal : ℕ → ScriptFault → Ending
refusal line fault = record {
  status = REFUSED;
  text = codes "line " ++ decimal line ++ codes ": " ++ fault_text fault ++ codes "\n";
}

abbrev pub read_fault : Ending
read_fault = record { status = READ_FAULT; text = codes "read fault\n" }

-- nothing can be written to a sink that has failed
abbrev pub write_fault : Ending
write_fault = record { status = WRITE_FAULT; text = [] }

abbrev pub yard_fault : Ending
yard_fault = record { status = YARD_FAULT; text = codes "yard fault\n" }

-- the first place of a node's log file at which it breaks the rules, or a log file of another version
abbrev pub damaged : (node file place : ℕ) → Ending
damaged node file place = record {
  status = DAMAGED;
  text =
      codes "damaged node " ++ decimal node ++ codes " log " ++ decimal file ++ codes " place " ++ decimal place
      ++ codes "\n";
}

abbrev pub other_version : (node file byte : ℕ) → Ending
other_version node file byte = record {
  status = DAMAGED;
  text =
      codes "version node " ++ decimal node ++ codes " log " ++ decimal file ++ codes " byte " ++ decimal byte
      ++ codes "\n";
}

-- a queue's ops on a node aren't those that its member was noticed of
abbrev pub lost : ℕ → List ℕ → (noticed found : ℕ) → Ending
lost node name noticed found = record {
  status = LOST;
  text =
      codes "lost node " ++ decimal node ++ codes " " ++ name ++ codes " noticed " ++ decimal noticed
      ++ codes " found " ++ decimal found ++ codes "\n";
}

-- a body, or the number of lines, passes its limit
abbrev pub limit_body : ℕ → Ending
limit_body size = record { status = LIMIT; text = codes "limit body " ++ decimal size ++ codes "\n" }

abbrev pub limit_lines : Ending
limit_lines = record { status = LIMIT; text = codes "limit lines " ++ decimal (LINES_LIMIT + 1) ++ codes "\n" }

abbrev pub no_memory : Ending
no_memory = record { status = NO_MEMORY; text = codes "memory\n" }

abbrev pub spent : ℕ → Ending
spent number = record { status = SPENT; text = codes "spent " ++ decimal number ++ codes "\n" }
