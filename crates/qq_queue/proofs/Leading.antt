-- What the leader's machine counts is what the definition counts.
use Rattle.std.proofs.Common.{◌≡◌, ℕ, ◌+◌, ◌-◌, ◌^◌, Bool, true, cond, length, Option, Some, None, refl, sym, ap, ◌∙◌}
use Rattle.std.specs.Prelude.{count_by, is_none, min, not}
use Rattle.std.specs.Option.{option_map}
use Rattle.std.proofs.lemmas.List.Folds.{fold-map}
use Rattle.qq_base.specs.declared.ids.NodeId.{NodeId}
use Rattle.qq_entry.specs.declared.queue.QueueArgs.{QueueArgs}
use Rattle.qq_machine.specs.Reads.{is_current}
use Rattle.qq_model.specs.State.{State}
use Rattle.qq_model.specs.declared.consumer.Consumer.{Consumer}
use Rattle.qq_parts.specs.Parts.{Parts, consumer_at}
use Rattle.qq_parts.specs.Reads.{ready_items}
use Rattle.qq_raft_core.specs.Raft.{server_of}
use Rattle.qq_raft_model.specs.State.{Server as Raft}
use Rattle.qq_queue.specs.StandsFor.{StandsFor}
use Rattle.qq_queue.specs.declared.machine_queue.MachineQueue.{MachineQueue}
use Rattle.qq_group.specs.Group.{server_at}
use Rattle.qq_group.specs.Reads.{leader_of, machine_of}
use Rattle.qq_cluster_model.specs.Counts.{counts, counts_by, counts_of}
use Rattle.qq_cluster_model.specs.Delivering.{applied_by}
use Rattle.qq_cluster_model.specs.Queue.{Queue, leader, server_of as server_in}
use Rattle.qq_queue.specs.ClusterQueue.{Stands}
use Rattle.qq_queue.specs.Members.{Member, number_of, own_log}
use Rattle.qq_queue.specs.Sessions.{Standings}
use Rattle.qq_queue.specs.declared.cluster_queue.ClusterQueue.{ClusterQueue}
use Rattle.qq_queue.proofs.Asking.{AreCommitted, AreKnown, HasMachine, PartsRead, machine-of, machine-stands}
use Rattle.qq_queue.proofs.Members.{raft_of, seat-is}
use Rattle.qq_queue.proofs.Offering.{leader-is}

-- what a machine counts
abbrev counted_in : Parts → ℕ × ℕ
counted_in m = (length (ready_items m), min (count_by is_current m.served) (2 ^ 32 - 1))

abbrev is_current_by : Consumer → Bool
is_current_by c = not c.cancelled

parts-count : PartsRead → (m : Parts) (s : State) → StandsFor s m → counted_in m ≡ counts_of s
parts-count reads m s stands =
    let consumers : count_by is_current_by s.consumers ≡ count_by is_current m.served =
    ap (λ (x : State). count_by is_current_by x.consumers) stands.holds.stands.rest
    ∙ fold-map (λ (n : ℕ) (c : Consumer). n + cond (is_current_by c) 1 0) consumer_at 0 m.served in
    ap (λ (n : ℕ). let counts : ℕ × ℕ = (n, min (count_by is_current m.served) (2 ^ 32 - 1)) in counts)
    (sym (reads m s stands.holds.stands stands.holds.whole).ready)
    ∙ ap (λ (n : ℕ). counts_with s n) (sym consumers)
  where
    counts_with : State → ℕ → ℕ × ℕ
    counts_with t n = ((counts_of t).0, min n (2 ^ 32 - 1))

pub counts-none : (sessions : Standings) (d : ClusterQueue) (q : Queue) → Stands sessions d q
    → true ≡ is_none (leader_of own_log d.group) → None ≡ counts q
counts-none sessions d q st nobody = by (leader_of own_log d.group) refl nobody
  where
    by : (o : Option NodeId) → leader_of own_log d.group ≡ o → true ≡ is_none o → None ≡ counts q
    by None is none' =
        sym (ap (λ (k : Option ℕ). option_map (counts_by q.args) (server_in k q.group))
        (leader-is q.group d.group st.group.represents ∙ ap number_of is))
    by (Some node) is none' = absurd (let e : true ≡ is_none (Some node) = none' in cc)

-- of the member on this node
counts-of : AreKnown → AreCommitted → PartsRead → (sessions : Standings) (d : ClusterQueue) (q : Queue) (node : NodeId)
    (s : Member) → Stands sessions d q → leader_of own_log d.group ≡ Some node → server_at node.0 d.group ≡ Some s
    → Some (counted_in s.machine.machine) ≡ counts q
counts-of known committed reads sessions d q node s st leads up =
    let server : Raft = server_of own_log s.raft in
    let stands : StandsFor (applied_by d.args server) s.machine.machine =
    machine-stands known committed d.args q.group d.group node.0 s st.group up in
    let lead : leader q.group ≡ Some node.0 =
    leader-is q.group d.group st.group.represents ∙ ap number_of leads in
    let seat : (q.group.seat node.0).server ≡ Some server =
    seat-is q.group d.group node.0 st.group.represents ∙ ap raft_of up in
    ap (λ (p : ℕ × ℕ). let o : Option (ℕ × ℕ) = Some p in o)
    (parts-count reads s.machine.machine (applied_by d.args server) stands)
    ∙ ap (λ (args : QueueArgs). let o : Option (ℕ × ℕ) = Some (counts_by args server) in o) (sym st.args)
    ∙ ap (option_map (counts_by q.args)) (sym (ap (λ (o : Option ℕ). server_in o q.group) lead ∙ seat))

pub counts-are : AreKnown → AreCommitted → PartsRead → (sessions : Standings) (d : ClusterQueue) (q : Queue)
    (m : MachineQueue) (parts : Parts) (found : ℕ × ℕ) → Stands sessions d q
    → Some m ≡ machine_of (leader_of own_log d.group) d.group → parts ≡ m.machine
    → found.0 ≡ length (ready_items parts) → found.1 ≡ min (count_by is_current parts.served) (2 ^ 32 - 1)
    → Some found ≡ counts q
counts-are known committed reads sessions d q m parts found st there own ready consumers =
    by (leader_of own_log d.group) refl there
  where
    pair : found ≡ counted_in m.machine
    pair =
        ap (λ (n : ℕ). let p : ℕ × ℕ = (n, found.1) in p) ready
        ∙ ap (λ (n : ℕ). let p : ℕ × ℕ = (length (ready_items parts), n) in p) consumers
        ∙ ap counted_in own

    by : (o : Option NodeId) → leader_of own_log d.group ≡ o → Some m ≡ machine_of o d.group → Some found ≡ counts q
    by None leads is = absurd (let e : ◌≡◌ {A = Option MachineQueue} (Some m) None = is in cc)
    by (Some node) leads is =
        let h : HasMachine (server_at node.0 d.group) m = machine-of (server_at node.0 d.group) m is in
        ap (λ (p : ℕ × ℕ). let o : Option (ℕ × ℕ) = Some p in o) pair
        ∙ ap (λ (x : MachineQueue). let o : Option (ℕ × ℕ) = Some (counted_in x.machine) in o) (sym h.own)
        ∙ counts-of known committed reads sessions d q node h.member st leads h.up
