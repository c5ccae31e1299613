-- The roots that a yard of folders has locked.
use Rattle.std.proofs.Common.{◌≡◌, ◌++◌, ◌∷◌, [], ℕ, true, false, List, ap, ◌∙◌}
use Rattle.std.specs.Str.{bytes_eq}
use Rattle.std.proofs.lemmas.Bool.{or_left, or_right}
use Rattle.std.proofs.lemmas.List.Folds.{list_any-append}
use Rattle.std.proofs.lemmas.Slice.Eq.{bytes_eq-Decides}
use Rattle.qq_dir_disk.specs.declared.root.LockedRoot.{LockedRoot}
use Rattle.qq_ports.specs.FolderYard.{has_root}

-- one more is locked
pub has-root_more : {F : Type 0} (path : List ℕ) (roots all : List (LockedRoot F)) (root : LockedRoot F)
    → root.path.bytes.items ≡ path → all ≡ roots ++ root ∷ [] → has_root path all ≡ true
has-root_more {F = F} path roots all root same more =
    ap (has_root path) more
    ∙ list_any-append (λ (r : LockedRoot F). bytes_eq r.path.bytes.items path) roots (root ∷ [])
    ∙ or_right (has_root path roots) (has_root path (root ∷ []))
    (or_left (bytes_eq root.path.bytes.items path) false ((bytes_eq-Decides root.path.bytes.items path).1 same))
