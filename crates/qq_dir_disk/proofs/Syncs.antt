-- What a sync of an open file leaves open.
use Rattle.std.proofs.Common.{◌≡◌, Bool, true, List, sym, subst, inr}
use Rattle.qq_disk.specs.declared.name.FileName.{FileName}
use Rattle.qq_dir_disk.specs.declared.handles.Handle.{Handle}
use Rattle.qq_dir_disk.specs.Handles.{without, HasSynced, KeepsOpen}

pub has-synced : {F : Type 0} (is_synced : F → Bool) (name : FileName) (old mid new last : List (Handle F))
    (handle : Handle F) → handle.name ≡ name → is_synced handle.file ≡ true → mid ≡ without name old
    → KeepsOpen handle mid new → last ≡ new → HasSynced is_synced name old last
has-synced {F = F} is_synced name old mid new last handle named synced taken keeps same = inr (
  handle,
  named,
  synced,
  subst (λ (l : List (Handle F)). KeepsOpen handle (without name old) l) (sym same)
      (subst (λ (l : List (Handle F)). KeepsOpen handle l new) taken keeps),
)
