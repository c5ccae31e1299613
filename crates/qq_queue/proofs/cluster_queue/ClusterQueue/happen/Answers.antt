use Rattle.std.proofs.Common.{ap, ◌-◌}
use Rattle.std.proofs.lemmas.Result.{on_ok_weaker}
use Rattle.qq_cluster_model.specs.Queue.{Copies, Loses, Ticks}
use Rattle.qq_queue.specs.Events.{event_of}
use Rattle.qq_queue.specs.Sessions.{standings}
use Rattle.qq_queue.proofs.Meeting.{meets-always, meets-becomes}
use Rattle.qq_queue.proofs.cluster_queue.ClusterQueue.happen.Goals as goal

pub returns-in-Submit-clause-ok : goal.returns-in-Submit-clause-ok
returns-in-Submit-clause-ok c =
    on_ok_weaker c.submit.result
    (λ does. meets-always c.args.event _ (standings c.args.sessions.now) c.args.self.now c.submit.new.self
    c.args.shown.now.items c.submit.new.shown.items (ap event_of c.in-Submit.is) does) c.submit.ensures.ok

pub returns-in-TellEnded-clause-ok : goal.returns-in-TellEnded-clause-ok
returns-in-TellEnded-clause-ok c =
    on_ok_weaker c.tell_ended.result
    (λ does. meets-always c.args.event _ (standings c.args.sessions.now) c.args.self.now c.tell_ended.new.self
    c.args.shown.now.items c.tell_ended.new.shown.items (ap event_of c.in-TellEnded.is) does) c.tell_ended.ensures.ok

pub returns-in-TellNotTaken-clause-ok : goal.returns-in-TellNotTaken-clause-ok
returns-in-TellNotTaken-clause-ok c =
    on_ok_weaker c.tell_not_taken.result
    (λ does. meets-always c.args.event _ (standings c.args.sessions.now) c.args.self.now c.tell_not_taken.new.self
    c.args.shown.now.items c.tell_not_taken.new.shown.items (ap event_of c.in-TellNotTaken.is) does) c.tell_not_taken.ensures.ok

pub returns-in-Attach-clause-ok : goal.returns-in-Attach-clause-ok
returns-in-Attach-clause-ok c =
    on_ok_weaker c.attach.result
    (λ does. meets-always c.args.event _ (standings c.args.sessions.now) c.args.self.now c.attach.new.self
    c.args.shown.now.items c.attach.new.shown.items (ap event_of c.in-Attach.is) does) c.attach.ensures.ok

pub returns-in-Judge-clause-ok : goal.returns-in-Judge-clause-ok
returns-in-Judge-clause-ok c =
    on_ok_weaker c.judge.result
    (λ does. meets-always c.args.event _ (standings c.args.sessions.now) c.args.self.now c.judge.new.self
    c.args.shown.now.items c.judge.new.shown.items (ap event_of c.in-Judge.is) does) c.judge.ensures.ok

pub returns-in-Resend-clause-ok : goal.returns-in-Resend-clause-ok
returns-in-Resend-clause-ok c =
    on_ok_weaker c.resend.result
    (λ does. meets-always c.args.event _ (standings c.args.sessions.now) c.args.self.now c.resend.new.self
    c.args.shown.now.items c.resend.new.shown.items (ap event_of c.in-Resend.is) does) c.resend.ensures.ok

pub returns-in-Down-clause-ok : goal.returns-in-Down-clause-ok
returns-in-Down-clause-ok c =
    on_ok_weaker c.down.result
    (λ does. meets-always c.args.event _ (standings c.args.sessions.now) c.args.self.now c.down.new.self
    c.args.shown.now.items c.down.new.shown.items (ap event_of c.in-Down.is) does) c.down.ensures.ok

pub returns-in-Tick-clause-ok : goal.returns-in-Tick-clause-ok
returns-in-Tick-clause-ok c =
    on_ok_weaker c.tick.result
    (λ becomes. meets-becomes c.args.event (Ticks c.in-Tick.node.0) (standings c.args.sessions.now) c.args.self.now
    c.tick.new.self c.args.shown.now.items (ap event_of c.in-Tick.is) becomes) c.tick.ensures.ok

pub returns-in-Copy-clause-ok : goal.returns-in-Copy-clause-ok
returns-in-Copy-clause-ok c =
    on_ok_weaker c.copy.result
    (λ becomes. meets-becomes c.args.event (Copies (c.in-Copy.place - 1)) (standings c.args.sessions.now) c.args.self.now
    c.copy.new.self c.args.shown.now.items (ap event_of c.in-Copy.is) becomes) c.copy.ensures.ok

pub returns-in-Lose-clause-ok : goal.returns-in-Lose-clause-ok
returns-in-Lose-clause-ok c =
    meets-becomes c.args.event (Loses (c.in-Lose.place - 1)) (standings c.args.sessions.now) c.args.self.now
    c.lose.new.self c.args.shown.now.items (ap event_of c.in-Lose.is) c.lose.ensures.ok
