use Rattle.qq_session.proofs.AnsweredLemmas.{is_answered}
use Rattle.qq_session.proofs.laws.commands_are_answered_once.Goals as goal

pub returns : goal.returns
returns c = is_answered (record {
  let_in = c.commands_are_fresh_where_let_in.ensures;
  counts = c.commands_count_by_one.ensures;
  turns_away = c.commands_turned_away_change_nothing.ensures;
  as_first = c.repeats_have_the_first_answer.ensures;
  sound = c.queues_are_sound.ensures;
})
