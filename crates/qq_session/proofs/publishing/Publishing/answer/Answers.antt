use Rattle.std.proofs.Common.{◌≡◌, List, refl, sym, ap, subst, ◌∙◌}
use Rattle.std.proofs.lemmas.Bool.{cond_both}
use Rattle.qq_session.specs.Publishing.{OpenCommand, Numbers, closes, without}
use Rattle.qq_session.specs.Numbering.{IsNumbering}
use Rattle.qq_session.proofs.NumberingLemmas.{absent-without, numbering-without}
use Rattle.qq_session.proofs.publishing.Publishing.answer.Goals as goal

pub invariant_of-self : goal.invariant_of-self
invariant_of-self c =
    let n : Numbers = record {
      session = c.self.inside.session;
      queue = c.self.inside.queue;
      next = c.self.inside.next;
      opened = c.self.inside.opened.items;
    } in
    subst (λ (es : List OpenCommand). IsNumbering (record n { opened = es })) (sym c.close.ensures)
    (numbering-without n c.args.seq c.self.invariant)

pub returns-else-open-clause-after : goal.returns-else-open-clause-after
returns-else-open-clause-after c =
    let n : Numbers = c.args.self.now in
    let same = absent-without c.args.seq n.opened (sym c.is_open-open.ensures ∙ c.if-open.false) in
    cond_both (closes c.args.given.now) (record n { opened = without c.args.seq n.opened }) n
    (λ (m : Numbers). n ≡ m) (λ _. ap (λ (es : List OpenCommand). let m : Numbers = record n { opened = es } in m) (sym same))
    (λ _. refl)
