-- What is read of a disk.
use Rattle.std.proofs.Common.{Bool, refl, sym, subst, ◌∙◌, IsTrue}
use Rattle.qq_disk.specs.Facts.{DiskFacts}
use Rattle.qq_recover.specs.ReadOnly.{OnlyReads}

module _ {D : Type 0} (facts : DiskFacts D) where
  pub reads-none : (disk : D) → OnlyReads facts disk disk
  reads-none disk = record { told = refl; same = λ told. refl }

  pub reads-then : (old mid new : D) → OnlyReads facts old mid → OnlyReads facts mid new → OnlyReads facts old new
  reads-then old mid new a b = record {
    told = b.told ∙ a.told;
    same = λ told. b.same (subst (λ (t : Bool). IsTrue t) (sym a.told) told) ∙ a.same told;
  }

  -- a disk that told still tells
  pub still : (old new : D) → OnlyReads facts old new → IsTrue (facts.tells old) → IsTrue (facts.tells new)
  still old new a told = subst (λ (t : Bool). IsTrue t) (sym a.told) told
