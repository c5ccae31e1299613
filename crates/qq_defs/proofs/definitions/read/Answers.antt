use Rattle.std.proofs.Common.{◌≡◌, ◌∙◌, sym, ap, true, false}
use Rattle.serde_json.specs.Errors.{IsMemory}
use Rattle.serde_json.specs.View.{view}
use Rattle.qq_defs.specs.Definitions.{read_setup}
use Rattle.qq_defs.proofs.Documents.{found, absent}
use Rattle.qq_defs.proofs.definitions.read.Goals as goal

pub returns-in-Ok : goal.returns-in-Ok
returns-in-Ok c =
    rw (found c.args.bytes.now (view c.in-Ok.document) c.in-Ok.ensures.ok.0 c.in-Ok.ensures.ok.1)
    c.read_document.ensures

pub returns-else-is_memory : goal.returns-else-is_memory
returns-else-is_memory c =
    let other : IsMemory c.in-Err.fault → ⊥ = λ m. let both : true ≡ false = sym (c.is_memory.ensures.1 m)
    ∙ c.if-is_memory.false in cc in
    ap (read_setup c.args.ignore_policies c.args.nodes c.args.log_bytes)
    (absent c.args.bytes.now (c.in-Err.ensures.err other))
