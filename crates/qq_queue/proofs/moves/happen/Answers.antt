use Rattle.qq_model.specs.State.{empty_queue}
use Rattle.qq_queue.proofs.Members.{HasLaws, happened}
use Rattle.qq_queue.proofs.moves.happen.Goals as goal

pub returns-clause-ok : goal.returns-clause-ok
returns-clause-ok c = λ args g it.
    let laws : HasLaws = record {
      servers = λ args. c.each_row_is_of_the_audit.ensures.servers (empty_queue args);
      known = c.what_is_committed_stays_in_the_audit.ensures.known;
      grows = c.what_is_committed_stays_in_the_audit.ensures.grows;
      commit = c.what_a_group_committed_stays.ensures.commit;
      received = c.what_is_applied_is_committed.ensures.rises;
      noticed = c.what_is_applied_is_committed.ensures.notice;
      fit = c.a_message_always_fits.ensures;
      reached = c.events_reach_groups.ensures.later;
    } in
    let left = happened laws args g c.args.event c.args.group.now c.step.new.self c.in_ok-shown.shown.rows.items
    c.requires.sound it c.in_ok-shown.ensures.ok c.in_ok-shown.ensures.rows c.step.ensures.others c.step.ensures.returned in
    (left.group, left.down)

pub returns-clause-tells : goal.returns-clause-tells
returns-clause-tells c = λ args g it.
    let laws : HasLaws = record {
      servers = λ args. c.each_row_is_of_the_audit.ensures.servers (empty_queue args);
      known = c.what_is_committed_stays_in_the_audit.ensures.known;
      grows = c.what_is_committed_stays_in_the_audit.ensures.grows;
      commit = c.what_a_group_committed_stays.ensures.commit;
      received = c.what_is_applied_is_committed.ensures.rises;
      noticed = c.what_is_applied_is_committed.ensures.notice;
      fit = c.a_message_always_fits.ensures;
      reached = c.events_reach_groups.ensures.later;
    } in
    (happened laws args g c.args.event c.args.group.now c.step.new.self c.in_ok-shown.shown.rows.items
    c.requires.sound it c.in_ok-shown.ensures.ok c.in_ok-shown.ensures.rows c.step.ensures.others c.step.ensures.returned).told
