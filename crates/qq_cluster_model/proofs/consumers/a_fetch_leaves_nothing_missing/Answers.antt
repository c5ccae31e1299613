use Rattle.qq_cluster_model.proofs.Fetched.{fetch-leaves}
use Rattle.qq_cluster_model.proofs.consumers.a_fetch_leaves_nothing_missing.Goals as goal

pub returns : goal.returns
returns c = fetch-leaves c.what_is_out_is_fetched.ensures
