use Rattle.std.proofs.Common.{List, filter, sym, subst}
use Rattle.qq_base.specs.Ids.{same_session}
use Rattle.qq_model.specs.declared.session.OpenSession.{OpenSession}
use Rattle.qq_live.specs.Indices.{Removes}
use Rattle.qq_sessions.specs.Row.{open_of}
use Rattle.qq_sessions.specs.Named.{kept_indices}
use Rattle.qq_sessions.proofs.Holders.{none-of, one-of, removes-nobody}
use Rattle.qq_sessions.proofs.open_sessions.let_go_session.Goals as goal

pub returns-in-None-clause-named : goal.returns-in-None-clause-named
returns-in-None-clause-named c =
    removes-nobody (filter (λ one. same_session one.session c.args.session) c.args.opened.now.rows)
    c.args.named.now.indices (none-of c.args.session c.args.opened.now.rows (sym c.in-None.ensures.one))

pub returns-in-Some-clause-named : goal.returns-in-Some-clause-named
returns-in-Some-clause-named c =
    subst (λ (ones : List OpenSession). Removes (kept_indices ones) c.args.named.now.indices
    c.let_go_all.new.named.indices)
    (sym (one-of c.args.session c.args.opened.now.rows (open_of c.in-Some.row.now) c.in-Some.ensures.apart
    (sym c.in-Some.ensures.one))) c.let_go_all.ensures.named
