use Rattle.std.proofs.Common.{◌≤◌, ◌+◌, ◌-◌, vec_len}
use Rattle.std.specs.Io.KnownBytes.{Consumes}
use Rattle.qq_ports.specs.declared.fault.TheConstants.{LINE_LIMIT}
use Rattle.qq_ports.specs.Lines.{ahead, HasNoFeed}
use Rattle.qq_ports.proofs.lines.chunk_line.Given as goal

-- what was read so far has no line feed, isn't too long, and is what is no longer ahead
abbrev pub invariant-pieces : goal.invariant-pieces
invariant-pieces g l = record {
  clean : HasNoFeed l.raw.items;
  short : vec_len l.raw ≤ LINE_LIMIT;
  read :
      Consumes (ahead l.fn.lines (g.I.Source.left l.fn.input)) (ahead l.lines (g.I.Source.left l.input)) l.raw.items;
  later : g.I.Source.faults l.fn.input ≤ g.I.Source.faults l.input;
}

abbrev pub decreases-pieces : goal.decreases-pieces
decreases-pieces g l = LINE_LIMIT + 1 - vec_len l.raw
