use Rattle.std.proofs.Common.{List, ap, arith, subst, sym}
use Rattle.qq_disk.specs.declared.name.FileKind.TheVariants.{Log as OfLog}
use Rattle.qq_disk.specs.declared.name.FileName.{FileName}
use Rattle.qq_disk.specs.Disk.{IsListing, now}
use Rattle.qq_wal.specs.Numbers.{greatest_number}
use Rattle.qq_recover.proofs.Outcomes.{spent-told}
use Rattle.qq_recover.proofs.Starts.{listed-within}
use Rattle.qq_recover.proofs.inspection.inspect.Goals as goal

pub returns-in-Ok-clause-end : goal.returns-in-Ok-clause-end
returns-in-Ok-clause-end g c = λ told number end listed.
    absurd (omega (
      arith,
      end,
      listed-within (now (g.D.NodeDisk.facts.past c.args.disk.now)) c.in_ok-names.names.items
          (c.in_ok-names.ensures.ok told) number listed,
      ap (λ (l : List FileName). greatest_number OfLog l) c.as_slice-in-Ok.ensures.value,
      c.in_ok-lanes_of_log-in-Ok.ensures.end,
    ))

pub returns-in_err-lanes_of_log-in-Ok-clause-spent : goal.returns-in_err-lanes_of_log-in-Ok-clause-spent
returns-in_err-lanes_of_log-in-Ok-clause-spent g c = λ told.
    let d = now (g.D.NodeDisk.facts.past c.args.disk.now) in
    spent-told c.from_residual-in_err-lanes_of_log-in-Ok.result c.in_err-lanes_of_log-in-Ok.field-0.0 d
    c.as_slice-in-Ok.result.now _ c.from_residual-in_err-lanes_of_log-in-Ok.ensures.1
    (subst (λ (l : List FileName). IsListing d l) (sym c.as_slice-in-Ok.ensures.value) (c.in_ok-names.ensures.ok told))
    c.in_err-lanes_of_log-in-Ok.ensures.cause
