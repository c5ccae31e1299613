use Rattle.std.proofs.Common.{◌-◌, ℕ, leb, List, [], ◌∷◌, refl, ap}
use Rattle.std.proofs.lemmas.Bool.{cond-true, cond-false}
use Rattle.qq_command.specs.Encoding.{encoding, payload, fields}
use Rattle.qq_entry.specs.declared.command.Entry.{Entry}
use Rattle.qq_raft_model.specs.declared.limits.TheConstants.{BATCH_BYTES}
use Rattle.qq_raft_model.specs.Leading.{weight}
use Rattle.qq_raft_model.proofs.examples.a_message_holds_256_entries_or_a_mebibyte.Goals as goal

pub returns-clause-first : goal.returns-clause-first
returns-clause-first c = λ e. refl

pub returns-clause-count : goal.returns-clause-count
unfolding encoding payload fields
returns-clause-count c = refl

pub returns-clause-full : goal.returns-clause-full
returns-clause-full c = λ e is.
    ap (λ (t : List Entry). e ∷ t)
    (cond-true (leb (weight e) (BATCH_BYTES - weight e)) (e ∷ []) []
    (ap (λ (n : ℕ). leb n (BATCH_BYTES - n)) is))

pub returns-clause-over : goal.returns-clause-over
returns-clause-over c = λ e is.
    ap (λ (t : List Entry). e ∷ t)
    (cond-false (leb (weight e) (BATCH_BYTES - weight e)) (e ∷ []) []
    (ap (λ (n : ℕ). leb n (BATCH_BYTES - n)) is))
