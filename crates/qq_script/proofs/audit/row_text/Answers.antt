use Rattle.std.proofs.Common.{rules, ◌≡◌, ◌++◌, List, ℕ, OnOk, subst}
use Rattle.qq_script.proofs.Parts.{row_parts}
use Rattle.qq_script.proofs.audit.row_text.Goals as goal

pub returns-clause-ok : goal.returns-clause-ok
returns-clause-ok c =
    let whole = row_parts c.args.row.now c.text.result.now c.deref.result.now c.text-2.result.now (search rules) (search rules) (search rules) in
    subst (λ (text : List ℕ). OnOk c.push_line.result (c.push_line.new.out.items ≡ c.args.out.now.items ++ text)) whole c.push_line.ensures.ok
