use Rattle.qq_cluster_pins.proofs.Times.{keeps-synced, no_crash}
use Rattle.qq_cluster_pins.proofs.moments.each_moment_keeps_what_was_synced.Goals as goal

pub returns-clause-traced : goal.returns-clause-traced
returns-clause-traced c = λ setup d k events old new none traced.
    keeps-synced c.whatever_is_left_lies_between.ensures.words setup d k events old new
    (c.a_trace_tells_of_the_disk.ensures.moments setup d k events old new (no_crash k events none) traced)

pub returns-clause-broken : goal.returns-clause-broken
returns-clause-broken c = λ setup d k events old new none broken.
    keeps-synced c.whatever_is_left_lies_between.ensures.words setup d k events old new
    (c.a_trace_tells_of_the_disk.ensures.broken_moments setup d k events old new (no_crash k events none) broken)

pub returns-clause-linked : goal.returns-clause-linked
returns-clause-linked c = λ setup d k events old new none traced.
    c.a_trace_tells_of_the_disk.ensures.linked setup d k events old new (no_crash k events none) traced
