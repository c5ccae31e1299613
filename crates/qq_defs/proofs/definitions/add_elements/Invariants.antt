use Rattle.std.proofs.Common.{◌≡◌, drop}
use Rattle.serde_json.specs.View.{items_view}
use Rattle.qq_defs.specs.Draft.{state_of}
use Rattle.qq_defs.specs.Definitions.{elements}
use Rattle.qq_defs.proofs.definitions.add_elements.Given as goal

-- the rest gives now what all gave at first
abbrev pub invariant-loop-index : goal.invariant-loop-index
invariant-loop-index l =
    elements l.nodes l.section l.index (items_view (drop l.index l.list)) (state_of l.draft) ≡ elements l.nodes
    l.section 0 (items_view l.list) (state_of l.initial.draft)
