-- What becomes of the first delivery that waits for its taker's verdict.
use Rattle.std.specs.Prelude.{◌<◌, ℕ, Bool, ◌&&◌, nat_lt, List, [], ◌∷◌, Option, Some, None}
use Rattle.qq_cluster_model.specs.Taking.{command_for}
use Rattle.qq_entry.specs.declared.command.Unstamped.{Unstamped}
use Rattle.qq_session.specs.declared.shown.Shown.{Shown}
use Rattle.qq_session.specs.declared.shown.Shown.TheVariants.{Delivered, Taken}
use Rattle.qq_taker.specs.declared.handed.Handed.{Handed}
use Rattle.qq_taker.specs.declared.taker.Verdict.{Verdict}
use Rattle.qq_queue.specs.Range.{MayStamp}
use Rattle.qq_queue.specs.declared.claim.Claim.{Claim}

-- what is shown of it with a verdict; where its consumer has no taker it is handed out
abbrev pub judged_as : Option ℕ → Handed → Verdict → Shown
judged_as None h verdict = Delivered h.consumer h.delivery
judged_as (Some number) h verdict = Taken number h.consumer h.delivery verdict

-- the command that a verdict is, and the session that gives it
abbrev pub claim_by : Handed → Option Unstamped → Option Claim
claim_by h None = None
claim_by h (Some body) = Some (record { session = h.consumer.session.number; body = body })

abbrev pub claim_of : Verdict → Handed → Option Claim
claim_of verdict h = claim_by h (command_for verdict h)

-- of the first one that waits, where one does
abbrev pub claim_first : Verdict → List Handed → Option Claim
claim_first verdict [] = None
claim_first verdict (h ∷ more) = claim_of verdict h

-- a client's session, its consumers and their deliveries are numbered from 1
abbrev pub may_claim : Handed → Bool
may_claim h = nat_lt 0 h.consumer.session.number && nat_lt 0 h.consumer.tag && nat_lt 0 h.delivery.id

-- a client's session may give it
abbrev pub MayClaim : Claim → Type 0
MayClaim claim = (0 < claim.session) × MayStamp claim.body
