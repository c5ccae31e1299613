use Rattle.std.proofs.Common.{sym, ◌∙◌}
use Rattle.qq_raft_core.specs.Raft.{server_of}
use Rattle.qq_raft_core.proofs.Commits.{found, passed}
use Rattle.qq_raft_core.proofs.raft.Raft.commit_up_to.Goals as goal

pub returns-then-may_commit : goal.returns-then-may_commit
returns-then-may_commit g c =
    sym (found (server_of g.L.LogView.log c.args.self.now) c.args.start c.search.i c.search-test.true
    (sym c.may_commit.ensures ∙ c.if-may_commit.true))
    ∙ c.search.invariant

pub search-preserved : goal.search-preserved
search-preserved g c =
    sym (passed (server_of g.L.LogView.log c.args.self.now) c.args.start c.search.i c.search-test.true
    (sym c.may_commit.ensures ∙ c.if-may_commit.false))
    ∙ c.search.invariant
