-- Where no number of the parts of a queue has passed its end.
use Rattle.std.specs.Prelude.{◌≡◌, ◌⊎◌, ◌+◌, true, Bool, ◌&&◌, nat_le}
use Rattle.std.specs.List.{list_all}
use Rattle.qq_base.specs.declared.memory.TheConstants.{NUMBER_END}
use Rattle.qq_model.specs.State.{is_consumer_within, is_session_within}
use Rattle.qq_laws.specs.Far.{are_far}
use Rattle.qq_parts.specs.Parts.{Served, Parts}

abbrev pub is_one_within : Served → Bool
is_one_within one = is_consumer_within one.consumer

-- all numbers but for how often messages were returned
abbrev pub are_within : Parts → Bool
are_within m =
    nat_le m.rest.applied NUMBER_END && nat_le m.rest.arrivals NUMBER_END
    && nat_le m.rest.orders NUMBER_END && nat_le m.rest.returns NUMBER_END
    && nat_le m.rest.deads NUMBER_END && nat_le m.rest.turns NUMBER_END
    && list_all is_one_within m.served && list_all is_session_within m.rest.sessions.opened

-- a message was returned at most once for each place that was given
abbrev pub are_places_few : Parts → Bool
are_places_few m = nat_le (m.rest.orders + m.rest.returns) NUMBER_END

-- all are far from their ends, or none has passed its own
abbrev pub AreTold : Parts → Type 0
AreTold m = (are_far m.rest ≡ true) ⊎ ((are_within m ≡ true) × (are_places_few m ≡ true))
