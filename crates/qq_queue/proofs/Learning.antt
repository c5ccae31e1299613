-- Consumers that the clients know.
use Rattle.std.proofs.Common.{◌≡◌, Bool, true, false, cond, List, refl}
use Rattle.qq_base.specs.declared.ids.SessionId.{SessionId}
use Rattle.qq_entry.specs.declared.command.Unstamped.{Unstamped}
use Rattle.qq_entry.specs.declared.command.Unstamped.TheVariants.{Subscribe}
use Rattle.qq_consuming.specs.Consumers.{know_by}
use Rattle.qq_consuming.specs.Consuming.{Received}
use Rattle.qq_queue.specs.Sessions.{subscribes}

-- from any other command on they know none
pub none-learned : (room : Bool) (session : SessionId) (body : Unstamped) (all : List Received)
    → subscribes body ≡ false → all ≡ cond room (know_by session body all) all
none-learned false session body all not = refl
none-learned true session (Subscribe tag mode) all not = absurd (let f : true ≡ false = not in cc)
none-learned true session _ all not = refl
