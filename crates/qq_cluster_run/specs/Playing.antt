-- What the code keeps of a drill.
use Rattle.std.specs.Prelude.{◌≡◌, ◌<◌}
use Rattle.sha2.specs.Hashers.{Holds256}
use Rattle.qq_cluster_run.specs.Drilling.{Known}
use Rattle.qq_cluster_run.specs.declared.playing.Play.{Play}

-- it is this that is known
pub record Knows (play : Play) (k : Known) : Type 0 where
  pub drill : play.drill ≡ k.drill
  pub digest : Holds256 play.digest k.text
  pub delivered : play.delivered ≡ k.delivered
  pub some : 0 < k.drill.nodes
