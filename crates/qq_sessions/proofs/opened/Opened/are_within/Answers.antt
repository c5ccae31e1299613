use Rattle.std.proofs.Common.{◌+◌, Bool, ◌&&◌, drop, sym, ap, ◌∙◌}
use Rattle.std.specs.List.{list_all}
use Rattle.std.proofs.lemmas.Bool.{and_left, lt-leb, le-leb}
use Rattle.qq_model.specs.State.{is_session_within}
use Rattle.qq_sessions.specs.Row.{open_of}
use Rattle.qq_sessions.proofs.Places.{drop-at}
use Rattle.qq_sessions.proofs.opened.Opened.are_within.Goals as goal

pub returns-then-row-gt-NUMBER_END : goal.returns-then-row-gt-NUMBER_END
returns-then-row-gt-NUMBER_END c =
    let rows = c.args.self.now.rows in
    sym (ap (list_all is_session_within) (drop-at rows c.rows.place (open_of c.row.result.now) c.row.ensures)
    ∙ and_left _ _ (lt-leb _ _ c.if-row-gt-NUMBER_END.true))
    ∙ c.rows.invariant

pub rows-preserved : goal.rows-preserved
rows-preserved c =
    let rows = c.args.self.now.rows in
    sym (ap (list_all is_session_within) (drop-at rows c.rows.place (open_of c.row.result.now) c.row.ensures)
    ∙ ap (λ (t : Bool). t && list_all is_session_within (drop (c.rows.place + 1) rows))
    (le-leb _ _ c.if-row-gt-NUMBER_END.false))
    ∙ c.rows.invariant
