use Rattle.std.proofs.Common.{◌≡◌, true, drop}
use Rattle.std.specs.Prelude.{slice_get}
use Rattle.qq_raft_core.specs.Undone.{keeps_within, log_before}
use Rattle.qq_raft_core.proofs.undo.entry_before.Given as goal

-- the entry is the one before the changes that are left
abbrev pub invariant-undos : goal.invariant-undos
invariant-undos g l =
    let es = (g.L.LogView.log l.log).entries in
    record {
      same : slice_get (log_before (drop l.place l.undos) es) l.at ≡ slice_get (log_before l.undos es) l.at;
      within : keeps_within (drop l.place l.undos) es ≡ true;
    }
