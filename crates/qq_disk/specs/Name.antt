-- Names of files, and their order.
use Rattle.std.specs.Prelude.{ℕ, Bool}
use Rattle.std.specs.declared.cmp.Ordering.{Ordering}
use Rattle.std.specs.Ordering.{nat_cmp, is_eq, on, then_cmp}
use Rattle.qq_disk.specs.declared.name.FileKind.{FileKind}
use Rattle.qq_disk.specs.declared.name.FileKind.TheVariants.{Log, Segment, Snapshot}
use Rattle.qq_disk.specs.declared.name.FileName.{FileName}

abbrev pub rank : FileKind → ℕ
rank Log = 0
rank Segment = 1
rank Snapshot = 2

-- the order of names: the kind, then the number
abbrev pub name_cmp : FileName → FileName → Ordering
name_cmp = then_cmp (on (λ n. rank n.kind) nat_cmp) (on (λ n. n.number) nat_cmp)

abbrev pub same_name : FileName → FileName → Bool
same_name a b = is_eq (name_cmp a b)
