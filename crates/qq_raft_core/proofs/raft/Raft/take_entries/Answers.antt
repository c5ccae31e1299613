use Rattle.std.proofs.Common.{List, length, drop, ap, arith}
use Rattle.std.proofs.lemmas.List.{length-drop}
use Rattle.qq_entry.specs.declared.command.Entry.{Entry}
use Rattle.qq_raft_core.proofs.Entries.{agreed-within, agreed-there}
use Rattle.qq_raft_core.proofs.raft.Raft.take_entries.Goals as goal

pub write-requires-clause-there : goal.write-requires-clause-there
write-requires-clause-there g c =
    let log = (g.L.LogView.log c.args.self.now.log).entries in
    let le = agreed-there c.as_slice.result.now (drop c.args.m.prev_index.0 log) in
    let n = length-drop c.args.m.prev_index.0 log in
    let there = c.requires.there in
    omega (arith, c.agreed-count.ensures, le, n, there)

pub write-requires-clause-within : goal.write-requires-clause-within
write-requires-clause-within g c =
    let log = (g.L.LogView.log c.args.self.now.log).entries in
    let le = agreed-within c.as_slice.result.now (drop c.args.m.prev_index.0 log) in
    let n = ap (λ (es : List Entry). length es) c.as_slice.ensures in
    omega (arith, c.agreed-count.ensures, le, n)
