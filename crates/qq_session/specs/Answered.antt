-- Each command of a session is carried out once, and a repeat has its first answer (Ongaro's dissertation,
-- section 6.3).
use Rattle.std.specs.Prelude.{◌≡◌, ◌⊎◌, ℕ, ◌+◌, List, ◌∷◌, ◌++◌, true, false, Some, slice_get, filter_map, Contains}
use Rattle.qq_base.specs.declared.ids.SessionId.{SessionId}
use Rattle.qq_entry.specs.declared.command.Stamp.{Stamp}
use Rattle.qq_entry.specs.declared.answer.Answer.{Answer}
use Rattle.qq_entry.specs.declared.audit.AuditRow.{AuditRow}
use Rattle.qq_entry.specs.Answer.{comes_from_gate}
use Rattle.qq_entry.specs.Command.{stamp}
use Rattle.qq_laws.specs.Numbers.{fresh_number}

-- the command of this number was carried out in one of the rows, with this answer
pub record WasAnswered (session : SessionId) (rows : List AuditRow) (seq : ℕ) (answer : Answer) : Type 0 where
  pub first : AuditRow
  pub is_in : Contains rows first
  pub number : fresh_number session first ≡ Some seq
  pub answer_is : first.answer ≡ answer

-- The commands of the session that were carried out have the numbers 1, 2, 3 and so on. A row of its command that
-- wasn't has an answer of the gate, or the answer that its number has in a row before it.
pub record IsAnswered (session : SessionId) (rows : List AuditRow) : Type 0 where
  pub numbers : (k n : ℕ) → slice_get (filter_map (fresh_number session) rows) k ≡ Some n → n ≡ k + 1
  pub repeats :
      (before after : List AuditRow) (row : AuditRow) (given : Stamp) → rows ≡ before ++ row ∷ after
      → stamp row.entry.command ≡ Some given → given.session ≡ session → row.fresh ≡ false
      → (comes_from_gate row.answer ≡ true) ⊎ WasAnswered session before given.seq row.answer
