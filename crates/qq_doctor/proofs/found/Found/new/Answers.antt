use Rattle.std.proofs.Common.{List, [], subst, sym}
use Rattle.qq_doctor.specs.Lanes.{Found}
use Rattle.qq_doctor.specs.Sorted.{AreSorted}
use Rattle.qq_doctor.proofs.Sorting.{sorted-empty}
use Rattle.qq_doctor.proofs.found.Found.new.Goals as goal

pub rows-init : goal.rows-init
rows-init c = subst (λ (l : List (List Found)). AreSorted 0 [] l) (sym c.new-rows.ensures.items) sorted-empty
