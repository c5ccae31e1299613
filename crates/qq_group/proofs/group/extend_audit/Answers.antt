use Rattle.std.proofs.Common.{◌++◌, ◌∷◌, [], sym, ap, ◌∙◌, inl, inr, arith}
use Rattle.qq_entry.specs.declared.command.Entry.{Entry}
use Rattle.qq_group.proofs.Audits.{extended-none, extended-more, extended-past, extended-end}
use Rattle.qq_group.proofs.group.extend_audit.Goals as goal

pub entries-init : goal.entries-init
entries-init g c =
    record {
      audit = sym (extended-none c.args.audit.now.items (g.L.LogView.log c.args.log.now).entries c.len-index.result
          (omega (arith, c.len-index.ensures)));
      behind = omega (arith, c.len-index.ensures);
      before = inr (omega (arith, c.len-index.ensures));
    }

pub entries-preserved : goal.entries-preserved
entries-preserved g c =
    let log = g.L.LogView.log c.args.log.now in
    let here = c.in-Some.ensures.some in
    record {
      audit = c.in_ok-push.ensures.items
          ∙ ap (λ (e : Entry). c.entries.audit.items ++ e ∷ []) c.in_ok-copy.ensures.ok
          ∙ extended-more log c.args.audit.now.items c.entries.audit.items c.entries.index c.in-Some.entry.now
          c.requires.whole here c.entries.invariant.behind c.entries.invariant.audit;
      behind = omega (arith, c.entries.invariant.behind);
      before = inl (omega (arith, c.entries-test.true));
    }

pub returns-in_default-clause-ok : goal.returns-in_default-clause-ok
returns-in_default-clause-ok g c =
    c.entries.invariant.audit
    ∙ extended-past (g.L.LogView.log c.args.log.now) c.args.audit.now.items c.entries.index c.args.end c.requires.whole
    c.in_default.ensures.none (omega (arith, c.entries-test.true))

pub returns-clause-ok : goal.returns-clause-ok
returns-clause-ok g c =
    c.entries.invariant.audit
    ∙ extended-end c.args.audit.now.items (g.L.LogView.log c.args.log.now).entries c.entries.index c.args.end
    c.entries.invariant.behind (omega (arith, c.entries-test.false)) c.entries.invariant.before
