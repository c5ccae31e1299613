-- Where entries lie, file by file.
use Rattle.std.proofs.Common.{◌≡◌, ◌≤◌, ◌<◌, ◌-◌, ℕ, suc, List, length, drop, get_or, sym, ap, ◌∙◌, arith, drop-cons}
use Rattle.std.specs.List.{fold}
use Rattle.qq_wal.specs.Ranges.{AllRanges}
use Rattle.qq_recover.specs.declared.file.ChainFile.{ChainFile}
use Rattle.qq_recover.specs.Entries.{find_files, find_record}

pub find-more : (files : List ChainFile) (left : ℕ) (d : ChainFile) (old now new : AllRanges) → 0 < left
    → left ≤ length files → now ≡ find_files (drop left files) old
    → new ≡ fold (find_record (get_or files (left - 1) d).number) now (get_or files (left - 1) d).records
    → new ≡ find_files (drop (left - 1) files) old
find-more files left d old now new some within before more =
    let file : ChainFile = get_or files (left - 1) d in
    let next : left ≡ suc (left - 1) = omega (arith, some) in
    more
    ∙ ap (λ (all : AllRanges). fold (find_record file.number) all file.records)
    (before ∙ ap (λ (k : ℕ). find_files (drop k files) old) next)
    ∙ ap (λ (l : List ChainFile). find_files l old)
    (sym (drop-cons files (left - 1) d (omega (arith, some, within))))
