use Rattle.std.proofs.Common.{◌≡◌, drop}
use Rattle.qq_ports.specs.Shelf.{file_of}
use Rattle.qq_ports.proofs.mem_shelf.find.Given as goal

-- the rows that are left have the file that all have
abbrev pub invariant-loop-key : goal.invariant-loop-key
invariant-loop-key l =
    file_of (λ key. key.bytes.items) (λ bytes. bytes.items) (drop l.key-index l.files) l.name
    ≡ file_of (λ key. key.bytes.items) (λ bytes. bytes.items) l.files l.name
