use Rattle.qq_laws.proofs.ClosingLemmas.{closes_session, stays_closed, tells_ended}
use Rattle.qq_laws.proofs.closing.sessions_end_for_good.Goals as goal

pub returns : goal.returns
returns c = record { closed = closes_session; stays = stays_closed; told = tells_ended }
