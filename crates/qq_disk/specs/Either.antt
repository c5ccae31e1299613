-- A disk that is one of two.
use Rattle.qq_disk.specs.declared.either_disk.EitherDisk.{EitherDisk}
use Rattle.qq_disk.specs.declared.either_disk.EitherDisk.TheVariants.{First, Second}
use Rattle.qq_disk.specs.Facts.{DiskFacts}

-- what is said of the one that it is
abbrev pub choose : {A B C : Type 0} → (A → C) → (B → C) → EitherDisk A B → C
choose first second (First disk) = first disk
choose first second (Second disk) = second disk

abbrev pub either_facts : {A B : Type 0} → DiskFacts A → DiskFacts B → DiskFacts (EitherDisk A B)
either_facts first second = record {
  tells = choose first.tells second.tells;
  past = choose first.past second.past;
  faults = choose first.faults second.faults;
}
