use Rattle.std.proofs.Common.{◌∙◌, sym, rules}
use Rattle.qq_dir_disk.proofs.Searches.{absent, present, named}
use Rattle.qq_dir_disk.proofs.handles.Handles.take.Goals as goal

pub returns-in_err-place-clause-handle : goal.returns-in_err-place-clause-handle
returns-in_err-place-clause-handle g c =
    c.from_residual.ensures ∙ sym (absent c.args.name c.args.self.now.files.items (sym c.in_err-place.ensures.place))

pub returns-clause-handle : goal.returns-clause-handle
returns-clause-handle g c =
    sym (present c.args.name c.args.self.now.files.items c.in_ok-place.place c.remove.result
    (sym c.in_ok-place.ensures.place) (search rules) c.remove.ensures.value)

pub returns-clause-name : goal.returns-clause-name
returns-clause-name g c =
    named c.args.name c.args.self.now.files.items c.in_ok-place.place c.remove.result (sym c.in_ok-place.ensures.place)
    c.remove.ensures.value
