use Rattle.std.proofs.Common.{ℕ, drop, sym, ap, ◌∙◌}
use Rattle.qq_model.specs.Gate.{raise_mark}
use Rattle.qq_sessions.specs.Row.{open_of}
use Rattle.qq_sessions.proofs.Holders.{holds-absent, holds-done, holds-unnamed}
use Rattle.qq_sessions.proofs.open_sessions.let_go_done.Goals as goal

pub returns-then-len-eq0-clause-held : goal.returns-then-len-eq0-clause-held
returns-then-len-eq0-clause-held c =
    holds-unnamed c.args.stamp.now.session c.args.stamp.now c.args.opened.now.rows c.args.named.now.indices
    c.requires.held (sym c.len.ensures ∙ c.if-len-eq0.true)

pub returns-in-None-clause-held : goal.returns-in-None-clause-held
returns-in-None-clause-held c =
    holds-absent c.args.stamp.now.session (raise_mark c.args.stamp.now) c.args.opened.now.rows c.args.named.now.indices
    c.requires.held (sym c.in-None.ensures.one)

pub returns-in-Some-clause-held : goal.returns-in-Some-clause-held
returns-in-Some-clause-held c =
    holds-done c.args.stamp.now.session (raise_mark c.args.stamp.now) c.args.opened.now.rows (open_of c.in-Some.row.now)
    c.done_count.result c.args.named.now.indices c.let_go_first.new.named.indices c.requires.held
    c.in-Some.ensures.apart (sym c.in-Some.ensures.one)
    (ap (λ (n : ℕ). drop n c.in-Some.row.now.kept.items) (sym c.done_count.ensures)) c.let_go_first.ensures.named
