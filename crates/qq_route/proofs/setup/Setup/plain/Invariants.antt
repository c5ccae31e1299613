use Rattle.std.proofs.Common.{◌≡◌, fold}
use Rattle.qq_route.specs.Routes.{new_table}
use Rattle.qq_route.specs.View.{table_of}
use Rattle.qq_route.specs.Setup.{declare, plain_rows}
use Rattle.qq_route.proofs.setup.Setup.plain.Given as goal

abbrev pub invariant-loop-before : goal.invariant-loop-before
invariant-loop-before l = record {
  rows : l.rows ≡ plain_rows l.nodes l.group l.before;
  table : table_of l.routes ≡ fold declare new_table (plain_rows l.nodes l.group l.before);
}
