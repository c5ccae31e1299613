-- Every input of a server is moves.
use Rattle.std.proofs.Common.{◌≡◌, ℕ, ltb, List, inl, inr}
use Rattle.std.proofs.lemmas.Bool.{cond_both, cases_Bool}
use Rattle.qq_raft_protocol.specs.World.{World}
use Rattle.qq_raft_msg.specs.Rpc.{envelope}
use Rattle.qq_raft_msg.specs.declared.rpc.InstallMsg.{InstallMsg}
use Rattle.qq_raft_msg.specs.declared.rpc.InstalledMsg.{InstalledMsg}
use Rattle.qq_raft_msg.specs.declared.rpc.Rpc.{Rpc}
use Rattle.qq_raft_msg.specs.declared.rpc.Rpc.TheVariants.{Vote, Voted, Append, Appended, Install, Installed}
use Rattle.qq_raft_model.specs.State.{Server, is_leader, enter}
use Rattle.qq_raft_model.specs.Server.{Input, installed, refuse, accept, receive}
use Rattle.qq_raft_model.specs.Server.Input.{Tick, Receive, Submit, Add, Flush, Notice}
use Rattle.qq_raft_model.specs.Refines.{IsOnItsWay, IsGroup, IsReached, MayCome, Refines, RefinesBy, Stands}
use Rattle.qq_raft_model.proofs.Adding.{add-refines, flush-refines, leader_tick-refines, submit-refines}
use Rattle.qq_raft_model.proofs.Appends.{append-refines}
use Rattle.qq_raft_model.proofs.Counting.{appended-refines}
use Rattle.qq_raft_model.proofs.Leading.{notice-refines}
use Rattle.qq_raft_model.proofs.Leads.{voted-refines}
use Rattle.qq_raft_model.proofs.Refining.{refines-refl, refines-enter, refines-say}
use Rattle.qq_raft_model.proofs.Standing.{tick-refines}
use Rattle.qq_raft_model.proofs.Votes.{vote-refines}

pub install-refines : {members : List ℕ} {w : World} {k : ℕ} {s : Server} (m : InstallMsg) → Stands w k s
    → Refines members w k (receive (Install m) s)
unfolding receive accept refuse
install-refines {members} {w} {k} {s} m st =
    cond_both (ltb m.term.0 s.term.0) (refuse (Install m) s) (enter m.term s) (Refines members w k)
    (λ _. refines-say (installed m.from s.commit s) st (record { from = st.node; says = tt }))
    (λ _. refines-enter m.term st)

pub installed-refines : {members : List ℕ} {w : World} {k : ℕ} {s : Server} (m : InstalledMsg) → Stands w k s
    → Refines members w k (receive (Installed m) s)
unfolding receive accept refuse
installed-refines {members} {w} {k} {s} m st =
    cond_both (ltb m.term.0 s.term.0) s (enter m.term s) (Refines members w k)
    (λ _. refines-refl st) (λ _. refines-enter m.term st)

receive-refines : {members : List ℕ} {w : World} {k : ℕ} {s : Server} (rpc : Rpc)
    → IsReached members w → IsGroup members k s.peers → Stands w k s → (envelope rpc).to.0 ≡ k
    → IsOnItsWay w rpc → Refines members w k (receive rpc s)
receive-refines (Vote m) reached group st to way = vote-refines m st way
receive-refines (Voted m) reached group st to way = voted-refines m reached group st to way
receive-refines (Append m) reached group st to way = append-refines m reached st way
receive-refines (Appended m) reached group st to way = appended-refines m reached group st way
receive-refines (Install m) reached group st to way = install-refines m st
receive-refines (Installed m) reached group st to way = installed-refines m st

pub step-refines : {members : List ℕ} {w : World} {k : ℕ} {s : Server} (input : Input)
    → IsReached members w → IsGroup members k s.peers → Stands w k s → MayCome w k s input
    → RefinesBy members w k s input
step-refines {s = s} Tick reached group st may = elim (cases_Bool (is_leader s.role)) [
  | inl leads ↦ leader_tick-refines reached st leads
  | inr other ↦ tick-refines st other
]
step-refines (Receive rpc) reached group st may =
    receive-refines rpc reached group st may.0 may.1
step-refines (Submit time command) reached group st may = submit-refines time command reached st
step-refines (Add time command) reached group st may = add-refines time command st
step-refines Flush reached group st may = flush-refines reached st
step-refines (Notice op) reached group st may = notice-refines op reached group st may
