use Rattle.std.proofs.Common.{◌≡◌, Option, Some, None, List, refl, sym, ap, ◌∙◌}
use Rattle.std.specs.Prelude.{slice_get}
use Rattle.std.specs.Option.{option_map}
use Rattle.std.specs.Map.{values_of}
use Rattle.std.proofs.lemmas.Option.{slice_get-map}
use Rattle.qq_consumer.specs.Joined.{JoinedState, Entry, seat_one}
use Rattle.qq_consumer.proofs.joined.Joined.row_at.Goals as goal

pub returns-in-Some : goal.returns-in-Some
returns-in-Some c =
    let es : List Entry = c.self.inside.rows.entries in
    ap (option_map (λ (e : Entry). seat_one e.1)) c.in-Some.ensures.entry
    ∙ sym (slice_get-map seat_one (values_of es) c.args.place
    ∙ ap (option_map seat_one) (slice_get-map (λ (e : Entry). e.1) es c.args.place)
    ∙ option_map-map (slice_get es c.args.place))
    ∙ ap (λ (j : JoinedState). slice_get j.served c.args.place) c.self.view_is
  where
    option_map-map : (o : Option Entry)
        → option_map seat_one (option_map (λ (e : Entry). e.1) o) ≡ option_map (λ (e : Entry). seat_one e.1) o
    option_map-map None = refl
    option_map-map (Some e) = refl
