use Rattle.std.proofs.Common.{List, ap, sym, filter, ◌∙◌}
use Rattle.qq_log.specs.declared.head.Span.{Span}
use Rattle.qq_disk_pins.proofs.InOrder.{lane-end, none-handed, one-handed}
use Rattle.qq_disk_pins.proofs.lanes.a_lane_tells_its_state.Goals as goal

pub returns-clause-none : goal.returns-clause-none
returns-clause-none c = none-handed

pub returns-clause-some : goal.returns-clause-some
returns-clause-some c = one-handed

pub returns-clause-state : goal.returns-clause-state
returns-clause-state c = λ state lane is. (
  is.state.op,
  is.state.term,
  is.state.vote,
  is.state.base,
  is.state.entries,
  sym is.state.segments ∙ ap (λ (l : List Span). filter (λ span. span.segment) l) is.places,
  is.shadow,
  is.places,
)

pub returns-clause-log : goal.returns-clause-log
returns-clause-log c = lane-end
