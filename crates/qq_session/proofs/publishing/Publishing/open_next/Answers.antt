use Rattle.std.proofs.Common.{◌+◌, ◌<◌, List, length, sym, subst}
use Rattle.qq_base.specs.declared.memory.TheConstants.{NUMBER_END}
use Rattle.qq_model.specs.declared.TheConstants.{WINDOW}
use Rattle.qq_session.specs.Publishing.{OpenCommand, Numbers}
use Rattle.qq_session.specs.Numbering.{HasNumber, IsNumbering}
use Rattle.qq_session.proofs.NumberingLemmas.{numbering-handed}
use Rattle.qq_session.proofs.publishing.Publishing.open_next.Goals as goal

pub invariant_of-self-2 : goal.invariant_of-self-2
invariant_of-self-2 c =
    let n : Numbers = record {
      session = c.self.inside.session;
      queue = c.self.inside.queue;
      next = c.self.inside.next;
      opened = c.self.inside.opened.items;
    } in
    subst (λ (es : List OpenCommand). IsNumbering (record n { next = n.next + 1; opened = es }))
    (sym c.in_ok-push_back.ensures.items)
    (numbering-handed n c.args.command c.self.invariant
    (subst (λ (m : Numbers). m.next < NUMBER_END) (sym c.self.view_is) c.requires.within)
    (subst (λ (m : Numbers). length m.opened < WINDOW) (sym c.self.view_is) c.requires.room)
    (subst (λ (m : Numbers). HasNumber m.session m.next c.args.command) (sym c.self.view_is) c.requires.number))
