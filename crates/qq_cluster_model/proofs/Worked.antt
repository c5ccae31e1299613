-- What the worked scripts print.
use Rattle.std.proofs.Common.{◌≡◌, List, [], ◌∷◌, ◌++◌, refl, inl, inr}
use Rattle.std.specs.Fmt.{digits}
use Rattle.std.specs.Prelude.{codes}
use Rattle.qq_base.specs.Fronts.{put}
use Rattle.qq_command.specs.Encoding.{body, content, death, deaths, encoding, fields, key, origin, payload, session, stamp}
use Rattle.qq_log.specs.Stable.{apply_op, change as change_log}
use Rattle.qq_model.specs.Commands.{act, enqueue, get}
use Rattle.qq_model.specs.Gate.{gate, admit, keep_answer, turn_away}
use Rattle.qq_model.specs.Serving.{check_out, check_out_all, drain_after, drop_head, keep_limits, give_dead, give_all_dead}
use Rattle.qq_model.specs.Step.{carry_out, step}
use Rattle.qq_raft_model.specs.Leading.{send, add_entry, stand, lead, lead_if_elected, advance}
use Rattle.qq_raft_model.specs.Server.{refuse, give_vote, receive_vote, receive_voted, take_entries, refuse_entries, receive_append, take_ack, step_back, receive_appended, accept, receive, tick, submit, notice}
use Rattle.qq_raft_model.specs.State.{change, enter, say_all}
use Rattle.qq_base.specs.declared.ids.NodeId.{NodeId}
use Rattle.qq_base.specs.declared.ids.QueueId.{QueueId}
use Rattle.qq_entry.specs.declared.command.Unstamped.TheVariants as bodies
use Rattle.qq_raft_model.specs.Group.{new_group}
use Rattle.qq_raft_model.specs.Promises.{IsOpened}
use Rattle.qq_cluster_model.specs.Cluster.{At, Fails, NodeWrites, cluster_after, new_cluster}
use Rattle.qq_cluster_model.specs.Lines.{IsLine, IsRun, IsScript}
use Rattle.qq_cluster_model.specs.Queue.{Submits}
use Rattle.qq_cluster_model.proofs.Serving.{opening-served}
use Rattle.qq_cluster_model.specs.Example.{at_the_fault, cut, cut_behind, first_given, kept_by_followers, muted, opened, output, output_of, publish_a, publish_and_get, replaced, setup_of, with_a_fault}
use Rattle.qq_cluster_model.specs.Rules.{IsPumped, most_rounds}
use Rattle.qq_cluster_model.specs.Serving.{all_given, all_synced, line}

pub publish-printed : output_of (setup_of 1 1) all_given publish_and_get
    ≡ codes "confirmed 1\nmessage 1 a\nempty\naudit q1 0 4\n1 1 noop 1 lead\n"
    ++ codes "2 1 enqueue 1 1 1 confirmed 1\n3 1 get 1 2 message 1\n4 1 get 1 3 empty\n"
unfolding digits put most_rounds line step carry_out act gate admit keep_answer turn_away enqueue get check_out check_out_all drain_after drop_head keep_limits give_dead give_all_dead apply_op change_log send add_entry stand lead lead_if_elected advance refuse give_vote receive_vote receive_voted take_entries refuse_entries receive_append take_ack step_back receive_appended accept receive tick submit notice change enter say_all encoding payload fields session stamp origin body key death deaths content
publish-printed = refl

pub kept-printed : output_of (setup_of 3 1) all_given kept_by_followers
    ≡ codes "confirmed 1\nmessage 1 b\naudit q1 0 5\n1 1 noop 1 lead\n"
    ++ codes "2 1 enqueue 1 1 1 confirmed 1\n3 2 noop 1 lead\n"
    ++ codes "4 2 enqueue 1 1 1 confirmed 1 again\n5 2 get 1 2 message 1\n"
unfolding digits put most_rounds line step carry_out act gate admit keep_answer turn_away enqueue get check_out check_out_all drain_after drop_head keep_limits give_dead give_all_dead apply_op change_log send add_entry stand lead lead_if_elected advance refuse give_vote receive_vote receive_voted take_entries refuse_entries receive_append take_ack step_back receive_appended accept receive tick submit notice change enter say_all encoding payload fields session stamp origin body key death deaths content
kept-printed = refl

pub replaced-printed : output_of (setup_of 3 1) all_given replaced
    ≡ codes "confirmed 1\nq1 1 follower term 2 last 3 commit 3\n"
    ++ codes "q1 2 leader term 2 last 3 commit 3\nq1 3 follower term 2 last 3 commit 3\n"
    ++ codes "audit q1 0 3\n1 1 noop 1 lead\n2 2 noop 1 lead\n"
    ++ codes "3 2 enqueue 1 1 1 confirmed 1\n"
unfolding digits put most_rounds line step carry_out act gate admit keep_answer turn_away enqueue get check_out check_out_all drain_after drop_head keep_limits give_dead give_all_dead apply_op change_log send add_entry stand lead lead_if_elected advance refuse give_vote receive_vote receive_voted take_entries refuse_entries receive_append take_ack step_back receive_appended accept receive tick submit notice change enter say_all encoding payload fields session stamp origin body key death deaths content
replaced-printed = refl

pub muted-printed : output_of (setup_of 1 1) all_given muted
    ≡ codes "confirmed 1\naudit q1 0 4\n1 1 noop 1 lead\n2 1 enqueue 1 1 1 confirmed 1\n"
    ++ codes "3 1 enqueue 1 1 1 confirmed 1 again\n4 1 enqueue 1 1 1 confirmed 1 again\n"
unfolding digits put most_rounds line step carry_out act gate admit keep_answer turn_away enqueue get check_out check_out_all drain_after drop_head keep_limits give_dead give_all_dead apply_op change_log send add_entry stand lead lead_if_elected advance refuse give_vote receive_vote receive_voted take_entries refuse_entries receive_append take_ack step_back receive_appended accept receive tick submit notice change enter say_all encoding payload fields session stamp origin body key death deaths content
muted-printed = refl

pub lost-printed : output_of (setup_of 1 2) all_synced (cut_behind (cut 20))
    ≡ codes "confirmed 1\n1 q2: confirmed 1\naudit q1 0 3\n1 1 noop 1 lead\n2 2 noop 1 lead\n"
    ++ codes "3 2 enqueue 1 1 2 confirmed 1\naudit q2 0 3\n1 1 noop 1 lead\n2 2 noop 1 lead\n"
    ++ codes "3 2 enqueue 1 1 2 confirmed 1\n"
unfolding digits put most_rounds line step carry_out act gate admit keep_answer turn_away enqueue get check_out check_out_all drain_after drop_head keep_limits give_dead give_all_dead apply_op change_log send add_entry stand lead lead_if_elected advance refuse give_vote receive_vote receive_voted take_entries refuse_entries receive_append take_ack step_back receive_appended accept receive tick submit notice change enter say_all encoding payload fields session stamp origin body key death deaths content
lost-printed = refl

pub first-kept-printed : output_of (setup_of 1 2) first_given (cut_behind (cut 108))
    ≡ codes "confirmed 1\n1 q2: confirmed 1\naudit q1 0 4\n1 1 noop 1 lead\n"
    ++ codes "2 1 enqueue 1 1 2 confirmed 1\n3 2 noop 1 lead\n"
    ++ codes "4 2 enqueue 1 1 2 confirmed 1 again\naudit q2 0 3\n1 1 noop 1 lead\n"
    ++ codes "2 2 noop 1 lead\n3 2 enqueue 1 1 2 confirmed 1\n"
unfolding digits put most_rounds line step carry_out act gate admit keep_answer turn_away enqueue get check_out check_out_all drain_after drop_head keep_limits give_dead give_all_dead apply_op change_log send add_entry stand lead lead_if_elected advance refuse give_vote receive_vote receive_voted take_entries refuse_entries receive_append take_ack step_back receive_appended accept receive tick submit notice change enter say_all encoding payload fields session stamp origin body key death deaths content
first-kept-printed = refl

pub fault-printed : output (setup_of 1 1) (opened (setup_of 1 1) ++ at_the_fault)
    ≡ codes "node 1 stopped\nno leader q1\naudit q1 0 1\n1 1 noop 1 lead\n"
unfolding digits put most_rounds line step carry_out act gate admit keep_answer turn_away enqueue get check_out check_out_all drain_after drop_head keep_limits give_dead give_all_dead apply_op change_log send add_entry stand lead lead_if_elected advance refuse give_vote receive_vote receive_voted take_entries refuse_entries receive_append take_ack step_back receive_appended accept receive tick submit notice change enter say_all encoding payload fields session stamp origin body key death deaths content
fault-printed = refl

-- the round in which the sync fails
faulty-pump : IsPumped (setup_of 1 1)
    (cluster_after (cluster_after (new_cluster (setup_of 1 1)) (opened (setup_of 1 1))) (publish_a ∷ []))
    (NodeWrites 1 ∷ Fails 1 ∷ [])
unfolding digits put most_rounds line step carry_out act gate admit keep_answer turn_away enqueue get check_out check_out_all drain_after drop_head keep_limits give_dead give_all_dead apply_op change_log send add_entry stand lead lead_if_elected advance refuse give_vote receive_vote receive_voted take_entries refuse_entries receive_append take_ack step_back receive_appended accept receive tick submit notice change enter say_all encoding payload fields session stamp origin body key death deaths content
faulty-pump = record {
  early = NodeWrites 1 ∷ Fails 1 ∷ [];
  late = [];
  is = refl;
  first = record {
    early = NodeWrites 1 ∷ Fails 1 ∷ [];
    late = [];
    is = refl;
    first = record {
      early = NodeWrites 1 ∷ Fails 1 ∷ [];
      late = [];
      is = refl;
      first = record {
        early = NodeWrites 1 ∷ [];
        late = Fails 1 ∷ [];
        is = refl;
        first = inl refl;
        second = record {
          early = Fails 1 ∷ [];
          late = [];
          is = refl;
          first = inr (inl refl);
          second = record { early = []; late = []; is = refl; first = refl; second = refl };
        };
      };
      second = refl;
    };
    second = record { early = []; late = []; is = refl; first = refl; second = refl };
  };
  second = refl;
}

faulty-script : IsScript (setup_of 1 1) with_a_fault
    (cluster_after (new_cluster (setup_of 1 1)) (opened (setup_of 1 1))) at_the_fault
unfolding digits put most_rounds line step carry_out act gate admit keep_answer turn_away enqueue get check_out check_out_all drain_after drop_head keep_limits give_dead give_all_dead apply_op change_log send add_entry stand lead lead_if_elected advance refuse give_vote receive_vote receive_voted take_entries refuse_entries receive_append take_ack step_back receive_appended accept receive tick submit notice change enter say_all encoding payload fields session stamp origin body key death deaths content IsLine
faulty-script = record {
  early = publish_a ∷ NodeWrites 1 ∷ Fails 1 ∷ [];
  late = At 1 (Submits 1 bodies.Get) ∷ [];
  is = refl;
  first = record {
    early = publish_a ∷ [];
    late = NodeWrites 1 ∷ Fails 1 ∷ [];
    is = refl;
    first = record { early = publish_a ∷ []; late = []; is = refl; first = refl; second = refl };
    second = faulty-pump;
  };
  second = record {
    early = At 1 (Submits 1 bodies.Get) ∷ [];
    late = [];
    is = refl;
    first = record { early = At 1 (Submits 1 bodies.Get) ∷ []; late = []; is = refl; first = refl; second = refl };
    second = refl;
  };
}

-- a script may ask for the fault at the sync: each line allows its events
pub faulty-run : ((queue : QueueId) (nodes : List NodeId) → IsOpened (new_group queue nodes) [])
    → IsRun (setup_of 1 1) with_a_fault (new_cluster (setup_of 1 1)) (opened (setup_of 1 1) ++ at_the_fault)
faulty-run new = record {
  early = opened (setup_of 1 1);
  late = at_the_fault;
  is = refl;
  first = opening-served (setup_of 1 1)
      (λ place. record { distinct = ((λ m here same. here), tt); whole = []; opened = new (record { 0 = place }) _ });
  second = faulty-script;
}
