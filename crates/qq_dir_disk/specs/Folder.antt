-- The path of a folder.
use Rattle.std.specs.Prelude.{ℕ, List, [], codes}
use Rattle.qq_dir_disk.specs.declared.folder.Folder.{Folder}

abbrev path_or_here : List ℕ → List ℕ
path_or_here [] = codes "."
path_or_here path = path

-- no text is the folder that the process is in
abbrev pub folder_path : Folder → List ℕ
folder_path folder = path_or_here folder.path.bytes.items
