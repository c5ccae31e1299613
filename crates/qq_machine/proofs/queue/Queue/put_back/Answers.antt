use Rattle.std.proofs.Common.{ℕ, Option, ap, ◌∙◌}
use Rattle.qq_parts.specs.Changes.{put_back}
use Rattle.qq_consumer.specs.Roster.{item_at}
use Rattle.qq_machine.specs.Views.{parts_of}
use Rattle.qq_machine.proofs.queue.Queue.put_back.Goals as goal

pub returns-in_ok-push_back-in-None-clause-ok : goal.returns-in_ok-push_back-in-None-clause-ok
returns-in_ok-push_back-in-None-clause-ok c place args =
    ap (λ (l : Option ℕ). put_back l (item_at place c.args.row) (parts_of args c.args.self.now)) c.in-None.is
    ∙ c.in_ok-push_back-in-None.ensures.ok place args

pub returns-in_ok-push_front-in-Some-clause-ok : goal.returns-in_ok-push_front-in-Some-clause-ok
returns-in_ok-push_front-in-Some-clause-ok c place args =
    ap (λ (l : Option ℕ). put_back l (item_at place c.args.row) (parts_of args c.args.self.now)) c.in-Some.is
    ∙ c.in_ok-push_front-in-Some.ensures.ok place args
