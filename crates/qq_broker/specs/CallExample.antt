-- A worked call over one node with two queues.
use Rattle.std.specs.Prelude.{List, [], ◌∷◌, false, codes}
use Rattle.qq_base.specs.Ids.{client}
use Rattle.qq_entry.specs.declared.command.Mode.TheVariants.{Prefetch}
use Rattle.qq_entry.specs.declared.command.Unstamped.{Unstamped}
use Rattle.qq_entry.specs.declared.command.Unstamped.TheVariants.{Subscribe}
use Rattle.qq_script_lines.specs.declared.line.ScriptLine.{ScriptLine}
use Rattle.qq_script_lines.specs.declared.line.ScriptLine.TheVariants.{Client, Pace, Send}
use Rattle.qq_cluster_model.specs.Cluster.{Cluster, ClusterEvent, Setup, cluster_after, new_cluster}
use Rattle.qq_cluster_model.specs.Example.{at_queue, name_of, setup_of}
use Rattle.qq_cluster_model.specs.Lines.{publish_with}
use Rattle.qq_cluster_model.specs.Serving.{all_given, give, pump, run}

abbrev pub two_queues : Setup
two_queues = setup_of 1 2

-- session 1 has a consumer at the first queue, and its message to the second one waits for a pump
abbrev pub lines_before : List ScriptLine
lines_before =
    Client (client 1) (at_queue 1) (Subscribe 1 (Prefetch 2)) ∷ Pace false ∷ Send (client 1) [] (name_of 2) (codes "b")
    ∷ []

abbrev pub before_the_call : Cluster
before_the_call =
    cluster_after (new_cluster two_queues) (run two_queues all_given lines_before (new_cluster two_queues))

-- it publishes to the first queue
abbrev pub called_with : Unstamped
called_with = publish_with (name_of 1) (codes "a")

abbrev pub as_it_is_given : List ClusterEvent
as_it_is_given = give 1 called_with 1 before_the_call

abbrev pub in_the_pump : List ClusterEvent
in_the_pump = pump two_queues (cluster_after before_the_call as_it_is_given)
