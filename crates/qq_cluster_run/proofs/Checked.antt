-- What tests of a drill's lines have found.
use Rattle.std.proofs.Common.{◌<◌, ◌≤◌, ℕ, suc, Bool, List, [], ◌∷◌, map, inl, inr, sym, ap, ◌∙◌, arith}
use Rattle.std.specs.Prelude.{Contains, IsTrue, nat_eq, ◌||◌}
use Rattle.std.specs.List.{list_any, range_with_len}
use Rattle.std.proofs.lemmas.Bool.{cases_Bool, eqb-true, false≢true}
use Rattle.qq_base.specs.declared.ids.NodeId.{NodeId}
use Rattle.qq_route.specs.declared.queue_row.QueueRow.{QueueRow}
use Rattle.qq_cluster_run.specs.Setup.{place_of}
use Rattle.qq_cluster_run.proofs.Said.{member-in, range-has}

pub place-there : (rows : List QueueRow) (place : ℕ) → IsTrue (list_any (λ row. nat_eq (place_of row) place) rows)
    → Contains (map place_of rows) place
place-there [] place is = absurd (false≢true is)
place-there (row ∷ rows) place is = elim (cases_Bool (nat_eq (place_of row) place)) [
  | inl same ↦ (0, omega arith, eqb-true (place_of row) place same)
  | inr other ↦
      let rest : Contains (map place_of rows) place =
      place-there rows place (sym (ap (λ (b : Bool). b || list_any (λ row. nat_eq (place_of row) place) rows) other) ∙ is) in
      (suc rest.0, omega (arith, rest.1), rest.2)
]

pub node-there : (nodes node : ℕ) → 0 < node → node ≤ nodes → Contains (range_with_len 1 nodes) node
node-there nodes node some most = range-has 1 nodes node some (omega (arith, most))

pub member-there : (node : NodeId) (nodes : List NodeId) → IsTrue (list_any (λ own. nat_eq own.0 node.0) nodes)
    → Contains nodes node
member-there node nodes is = member-in node nodes is
