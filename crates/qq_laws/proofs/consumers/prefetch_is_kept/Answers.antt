use Rattle.qq_laws.proofs.PrefetchRuns.{fills_prefetch}
use Rattle.qq_laws.proofs.consumers.prefetch_is_kept.Goals as goal

pub returns : goal.returns
returns c = fills_prefetch
