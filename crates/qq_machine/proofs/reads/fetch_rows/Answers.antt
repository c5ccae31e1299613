use Rattle.std.proofs.Common.{◌+◌, List, ◌++◌, drop, ap, sym, ◌∙◌}
use Rattle.std.proofs.lemmas.List.{append_assoc}
use Rattle.qq_entry.specs.declared.answer.Delivery.{Delivery}
use Rattle.qq_machine.specs.Reads.{fetched_rows}
use Rattle.qq_machine.proofs.Reading.{fetch-first}
use Rattle.qq_machine.proofs.reads.fetch_rows.Goals as goal

pub out-preserved : goal.out-preserved
out-preserved c =
    ap (λ (ds : List Delivery). ds ++ fetched_rows c.args.from (drop (c.out.place + 1) c.args.out.now.items))
    c.in_ok-push_delivery.ensures.ok
    ∙ append_assoc c.out.found.items _ _
    ∙ ap (λ (ds : List Delivery). c.out.found.items ++ ds)
    (fetch-first c.args.from c.args.out.now.items c.out.place c.in-Some.one.now (sym c.in-Some.ensures))
    ∙ c.out.invariant
