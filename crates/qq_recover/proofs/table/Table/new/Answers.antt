use Rattle.std.proofs.Common.{◌∙◌, ◌<◌, ◌||◌, ℕ, List, suc, drop, length, is_some, ap, sym, arith, add-one, drop-cons, nat_cmp}
use Rattle.std.specs.BTreeMap.{get}
use Rattle.qq_base.specs.declared.ids.QueueId.{QueueId}
use Rattle.qq_log.specs.Carries.{is_listed}
use Rattle.qq_recover.proofs.Tables.{listed-more, empty-more}
use Rattle.qq_recover.proofs.table.Table.new.Goals as goal

pub loop-i-preserved : goal.loop-i-preserved
loop-i-preserved c =
    let within : c.loop-i.i < length c.args.queues.now = omega arith in
    record {
      lists = λ id.
          ap (λ (k : ℕ). is_some (get nat_cmp c.add_row.new.rows id.0) || is_listed (drop k c.args.queues.now) id)
          (add-one c.loop-i.i)
          ∙ listed-more (get nat_cmp c.loop-i.rows) (get nat_cmp c.add_row.new.rows) _
          (drop (suc c.loop-i.i) c.args.queues.now) id c.in_ok-add_row.ensures.ok
          ∙ ap (λ (l : List QueueId). is_some (get nat_cmp c.loop-i.rows id.0) || is_listed l id)
          (sym (drop-cons c.args.queues.now c.loop-i.i _ within))
          ∙ c.loop-i.invariant.lists id;
      empty = λ k.
          empty-more (get nat_cmp c.loop-i.rows) (get nat_cmp c.add_row.new.rows) _ k c.in_ok-add_row.ensures.ok
          (c.loop-i.invariant.empty k);
    }
