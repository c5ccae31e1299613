use Rattle.std.proofs.Common.{◌≡◌, Option, Some, None, List, refl, sym, ap, ◌∙◌}
use Rattle.std.specs.Prelude.{slice_get}
use Rattle.std.specs.Option.{option_map}
use Rattle.std.specs.Map.{values_of}
use Rattle.std.proofs.lemmas.Option.{slice_get-map}
use Rattle.qq_sessions.specs.Row.{open_of}
use Rattle.qq_sessions.specs.Opened.{OpenedState, Entry}
use Rattle.qq_sessions.proofs.opened.Opened.row_at.Goals as goal

pub returns-in-Some : goal.returns-in-Some
returns-in-Some c =
    let es : List Entry = c.self.inside.rows.entries in
    ap (option_map (λ (e : Entry). open_of e.1)) c.in-Some.ensures.entry
    ∙ sym (slice_get-map open_of (values_of es) c.args.place
    ∙ ap (option_map open_of) (slice_get-map (λ (e : Entry). e.1) es c.args.place)
    ∙ option_map-map (slice_get es c.args.place))
    ∙ ap (λ (o : OpenedState). slice_get o.rows c.args.place) c.self.view_is
  where
    option_map-map : (o : Option Entry)
        → option_map open_of (option_map (λ (e : Entry). e.1) o) ≡ option_map (λ (e : Entry). open_of e.1) o
    option_map-map None = refl
    option_map-map (Some e) = refl
