-- The sessions of clients, and when two ids name the same thing.
use Rattle.std.specs.Prelude.{ℕ, Bool, nat_eq, ◌&&◌}
use Rattle.qq_base.specs.declared.ids.TheConstants.{CLIENT}
use Rattle.qq_base.specs.declared.ids.SessionId.{SessionId}
use Rattle.qq_base.specs.declared.ids.ConsumerId.{ConsumerId}

-- the client's session with this number
abbrev pub client : ℕ → SessionId
client number = record { class = CLIENT; owner = 0; number = number }

abbrev pub same_session : SessionId → SessionId → Bool
same_session a b = nat_eq a.class b.class && nat_eq a.owner b.owner && nat_eq a.number b.number

abbrev pub same_consumer : ConsumerId → ConsumerId → Bool
same_consumer a b = same_session a.session b.session && nat_eq a.tag b.tag
