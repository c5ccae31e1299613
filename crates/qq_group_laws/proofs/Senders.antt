-- Who sent the entries that are on their way.
use Rattle.std.proofs.Common.{◌≡◌, ℕ, List, Some, sym, ap, ◌∙◌}
use Rattle.qq_raft_protocol.specs.World.{Lane, World}
use Rattle.qq_raft_protocol.proofs.Kept.{LeaderKept}
use Rattle.qq_raft_protocol.proofs.Shades.{Shaded}
use Rattle.qq_raft_msg.specs.declared.rpc.AppendMsg.{AppendMsg}
use Rattle.qq_raft_msg.specs.declared.rpc.Rpc.TheVariants.{Append}
use Rattle.qq_raft_msg.specs.declared.state.Role.TheVariants.{Leader}
use Rattle.qq_raft_model.specs.Refines.{IsOnItsWay, IsReached, Sends, Stands, There, role_of}
use Rattle.qq_raft_model.specs.State.{Server}
use Rattle.qq_raft_model.proofs.Reached.{shaded-there}

same-some : (a b : ℕ) → Some a ≡ Some b → a ≡ b
same-some a b is = cc

-- the sender leads the term
leads-term : {members : List ℕ} {w : World} (m : AppendMsg) (k : Shaded members w) → IsOnItsWay w (Append m)
    → k.lead m.term.0 ≡ Some m.from.0
leads-term {w = w} m k way =
    let said : There w.sents (Sends m) = way.said.says in
    let sent = k.kept.sent said.item said.here in
    sym (ap k.lead said.is.term) ∙ sent.lead ∙ ap (λ (i : ℕ). Some i) said.is.from

pub one-sender : (members : List ℕ) (w : World) (first second : AppendMsg) → IsReached members w
    → IsOnItsWay w (Append first) → IsOnItsWay w (Append second) → first.term.0 ≡ second.term.0
    → first.from.0 ≡ second.from.0
one-sender members w first second reached way other same =
    let k : Shaded members w = shaded-there members w reached in
    same-some first.from.0 second.from.0
    (sym (leads-term first k way) ∙ ap k.lead same ∙ leads-term second k other)

pub leader-sends : (members : List ℕ) (w : World) (i : ℕ) (s : Server) (m : AppendMsg) → IsReached members w
    → Stands w i s → s.role ≡ Leader → IsOnItsWay w (Append m) → m.term.0 ≡ s.term.0 → m.from.0 ≡ i
leader-sends members w i s m reached stands is way same =
    let k : Shaded members w = shaded-there members w reached in
    let led : LeaderKept k.lead k.hist i (w.member i) = k.kept.leader i (stands.role ∙ ap role_of is) in
    let term : m.term.0 ≡ (w.member i).mine.term = same ∙ sym (ap (λ (l : Lane). l.term) stands.lane) in
    same-some m.from.0 i (sym (leads-term m k way) ∙ ap k.lead term ∙ led.leads)
