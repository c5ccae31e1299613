use Rattle.std.proofs.Common.{List, refl, sym, ap, ◌∙◌, subst}
use Rattle.qq_base.specs.declared.ids.Index.{Index}
use Rattle.qq_model.specs.Gate.{add_answer}
use Rattle.qq_live.specs.Indices.{Adds}
use Rattle.qq_sessions.specs.Row.{open_of}
use Rattle.qq_sessions.specs.Named.{index_list}
use Rattle.qq_sessions.proofs.Holders.{holds-absent, holds-added, holds-plain}
use Rattle.qq_sessions.proofs.open_sessions.hold_answer.Goals as goal

pub returns-in-None : goal.returns-in-None
returns-in-None c =
    holds-plain c.args.session c.args.answer.now c.args.opened.now.rows c.args.named.now.indices
    (sym c.got_index.ensures ∙ ap index_list c.in-None.is) c.requires.held

pub returns-in-None-session_of : goal.returns-in-None-session_of
returns-in-None-session_of c =
    holds-absent c.args.session (add_answer c.args.answer.now) c.args.opened.now.rows c.args.named.now.indices
    c.requires.held (sym c.in-None-session_of.ensures.one)

pub returns-in-Some-session_of : goal.returns-in-Some-session_of
returns-in-Some-session_of c =
    holds-added c.args.session (add_answer c.args.answer.now) c.args.opened.now.rows
    (open_of c.in-Some-session_of.field-0.now) c.args.answer.now c.args.named.now.indices c.add.new.self.indices
    c.requires.held c.in-Some-session_of.ensures.apart (sym c.in-Some-session_of.ensures.one) refl
    (subst (λ (xs : List Index). Adds xs c.args.named.now.indices c.add.new.self.indices)
    (sym (ap index_list c.in-Some.is) ∙ c.got_index.ensures) c.add.ensures.indices)
