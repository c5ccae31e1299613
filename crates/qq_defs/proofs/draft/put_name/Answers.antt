use Rattle.std.proofs.Common.{◌≡◌, ℕ, List, arith}
use Rattle.std.specs.BTreeMap.{get_by_text}
use Rattle.std.proofs.lemmas.Map.Text.{text_keys}
use Rattle.qq_defs.specs.Draft.{Names, put_name}
use Rattle.qq_defs.proofs.draft.put_name.Goals as goal

pub returns-clause-ok : goal.returns-clause-ok
returns-clause-ok c =
    let old : Names = get_by_text c.args.names.now in
    let new : Names = get_by_text c.insert.new.self in
    let is : (other : List ℕ) → new other ≡ put_name old c.args.name.now c.args.queue other = λ other. grind
    (arith, text_keys) in
    λ i other. is other i
