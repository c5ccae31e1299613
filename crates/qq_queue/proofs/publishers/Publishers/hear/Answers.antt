use Rattle.std.proofs.Common.{ℕ, Option, sym, ap, ◌∙◌}
use Rattle.qq_base.specs.Ids.{client}
use Rattle.qq_session.specs.Publishing.{answer, new_numbers}
use Rattle.qq_session.specs.Clients.{hear_by}
use Rattle.qq_queue.specs.Sessions.{clients_of, numbers_of, standings}
use Rattle.qq_queue.proofs.Hearing.{absent-hears, heard-by, muted-deaf}
use Rattle.qq_queue.proofs.Known.{written-known}
use Rattle.qq_queue.proofs.publishers.Publishers.hear.Goals as goal
use Rattle.qq_entry.specs.Command.{seq_of}

pub returns-then-muted : goal.returns-then-muted
returns-then-muted c =
    sym (muted-deaf (standings c.args.sessions.now) (numbers_of c.args.self.now) c.in-Some.session c.args.row.now
    (sym c.is_muted-muted.ensures ∙ c.if-muted.true))
    ∙ ap (λ (o : Option ℕ). hear_by o c.args.row.now
    (clients_of (standings c.args.sessions.now) (numbers_of c.args.self.now))) c.in-Some.ensures

pub returns-in_default-get_mut : goal.returns-in_default-get_mut
returns-in_default-get_mut c =
    absent-hears (standings c.args.sessions.now) c.self.inside.queue c.in-Some.session c.self.inside.rows
    c.get_mut.follows.lender-at-none (numbers_of c.args.self.now) c.args.row.now
    (sym c.is_muted-muted.ensures ∙ c.if-muted.false) c.in_default-get_mut.ensures.value
    (ap numbers_of c.self.view_is) c.get_mut.follows.holds-at-none
    ∙ ap (λ (o : Option ℕ). hear_by o c.args.row.now
    (clients_of (standings c.args.sessions.now) (numbers_of c.args.self.now))) c.in-Some.ensures

pub returns : goal.returns
returns c =
    heard-by (standings c.args.sessions.now) (numbers_of c.args.self.now) _ c.in-Some.session c.args.row.now
    (sym c.is_muted-muted.ensures ∙ c.if-muted.false)
    (written-known (λ k. new_numbers (client k) c.self.inside.queue) c.in-Some.session c.self.inside.rows
    (c.get_mut.follows.lender c.take_answer.new.self) c.in-Some-get_mut.publisher.now c.take_answer.new.self
    (numbers_of c.args.self.now) (answer (seq_of c.args.row.now.entry.command) c.args.row.now.answer)
    c.in-Some-get_mut.ensures.value
    (ap numbers_of c.self.view_is) (c.get_mut.follows.holds c.take_answer.new.self) c.take_answer.ensures)
    ∙ ap (λ (o : Option ℕ). hear_by o c.args.row.now
    (clients_of (standings c.args.sessions.now) (numbers_of c.args.self.now))) c.in-Some.ensures
