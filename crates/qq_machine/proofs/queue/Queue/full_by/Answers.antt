use Rattle.std.proofs.Common.{ℕ, length, ap, sym, ◌∙◌}
use Rattle.qq_parts.specs.Reads.{ready_items, size_of}
use Rattle.qq_rules.specs.Decisions.{refuses}
use Rattle.qq_ready.specs.Queue.{ReadyState, in_order, bytes_of}
use Rattle.qq_machine.specs.Views.{parts_of}
use Rattle.qq_machine.proofs.Ready.{ready_count, ready_bytes}
use Rattle.qq_machine.proofs.queue.Queue.full_by.Goals as goal

pub returns-clause-ok : goal.returns-clause-ok
returns-clause-ok c =
    let args = c.args.args.now in
    let m = parts_of args c.args.self.now in
    c.refuses.ensures.value
    ∙ ap (λ (n : ℕ). refuses args n c.bytes.result c.in_ok-live.live)
    (c.count.ensures ∙ ap (λ (r : ReadyState). length (in_order r.queue)) c.store-ready.ensures
    ∙ sym (ready_count args c.args.self.now))
    ∙ ap (λ (n : ℕ). refuses args (length (ready_items m)) n c.in_ok-live.live)
    (c.bytes.ensures ∙ ap (λ (r : ReadyState). bytes_of (in_order r.queue)) c.store-ready.ensures
    ∙ sym (ready_bytes args c.args.self.now))
    ∙ ap (λ (n : ℕ). refuses args (length (ready_items m)) (size_of (ready_items m)) n) (c.in_ok-live.ensures.ok args)
