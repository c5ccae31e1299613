use Rattle.std.proofs.Common.{◌≡◌, drop}
use Rattle.qq_cluster.specs.Telling.{tell_all}
use Rattle.qq_cluster.proofs.told.Told.tell_all.Given as goal

-- what is left from here on tells what all told at first
abbrev pub invariant-list : goal.invariant-list
invariant-list g l =
    tell_all l.first l.queue.0 l.name (drop l.shown-index l.list) l.self
    ≡ tell_all l.first l.queue.0 l.name l.list l.fn.self
