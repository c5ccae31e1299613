use Rattle.std.proofs.Common.{ℕ, ◌++◌, ◌∷◌, [], drop, take, ap, ◌∙◌, arith}
use Rattle.qq_entry.specs.declared.command.Entry.{Entry}
use Rattle.qq_raft_core.proofs.Copies.{copied-none, copied-more}
use Rattle.qq_raft_core.proofs.raft.copy_behind.Goals as goal

pub entries-init : goal.entries-init
entries-init g c = record {
  copied = c.new-copied.ensures.items
      ∙ copied-none c.args.first (g.L.LogView.log c.args.log.now).entries;
  behind = omega arith;
  before = c.requires.order;
}

pub entries-preserved : goal.entries-preserved
entries-preserved g c =
    let log = g.L.LogView.log c.args.log.now in
    record {
      copied = c.in_ok-push.ensures.items
          ∙ ap (λ (e : Entry). c.entries.copied.items ++ e ∷ []) c.in_ok-copy.ensures.ok
          ∙ copied-more log c.entries.copied.items c.args.first c.entries.index c.in-Some.entry.now c.requires.whole
          c.in-Some.ensures.some c.entries.invariant.behind c.entries.invariant.copied;
      behind = omega (arith, c.entries.invariant.behind);
      before = omega (arith, c.entries-test.true);
    }

pub returns-clause-ok : goal.returns-clause-ok
returns-clause-ok g c =
    c.entries.invariant.copied
    ∙ ap (λ (n : ℕ). drop c.args.first (take n (g.L.LogView.log c.args.log.now).entries))
    (omega (arith, c.entries.invariant.before, c.entries-test.false))
