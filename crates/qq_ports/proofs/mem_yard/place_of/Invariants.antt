use Rattle.std.proofs.Common.{◌≡◌, ◌+◌, drop}
use Rattle.qq_ports.specs.MemYard.{place_of}
use Rattle.qq_ports.proofs.mem_yard.place_of.Given as goal

-- the rows that were passed and the place in those that are left come to the place in all
abbrev pub invariant-loop-place : goal.invariant-loop-place
invariant-loop-place l = l.place + place_of l.root l.node (drop l.place l.disks) ≡ place_of l.root l.node l.disks
