-- What a read puts into a buffer.
use Rattle.std.proofs.Common.{◌≡◌, ◌≤◌, ℕ, List, length, take, drop, ap, ◌∙◌, arith}
use Rattle.std.proofs.lemmas.List.{take-append-le, take-take, length-drop, length-take-le}
use Rattle.std.proofs.lemmas.Slice.{drop-append-drop}
use Rattle.qq_disk.specs.Disk.{IsRead}

within : (bytes : List ℕ) (place count : ℕ) (old new : List ℕ) → IsRead bytes place count old new
    → count ≤ length (drop place bytes)
within bytes place count old new read = omega (arith, read.as_many, length-drop place bytes)

pub front_read : (bytes : List ℕ) (place count : ℕ) (old new : List ℕ) → IsRead bytes place count old new
    → take count new ≡ take count (drop place bytes)
front_read bytes place count old new read =
    let fits = within bytes place count old new read in
    let piece = take count (drop place bytes) in
    let long : length piece ≡ count = length-take-le count (drop place bytes) fits in
    ap (take count) read.buffer ∙ take-append-le count piece (drop count old) (omega (arith, long))
    ∙ take-take count count (drop place bytes) (omega arith)

pub rest_stays : (bytes : List ℕ) (place count : ℕ) (old new : List ℕ) → IsRead bytes place count old new
    → drop count new ≡ drop count old
rest_stays bytes place count old new read =
    let fits = within bytes place count old new read in
    let piece = take count (drop place bytes) in
    ap (drop count) read.buffer
    ∙ drop-append-drop count old piece count (omega arith) (length-take-le count (drop place bytes) fits)
