-- What stands at its end where a queue refuses a call for a number.
use Rattle.std.proofs.Common.{◌≡◌, ◌^◌, ℕ, List, [], ◌∷◌, ◌++◌, Option, Some, None, refl, sym, ap, subst, ◌∙◌, inl, inr}
use Rattle.qq_base.specs.declared.ids.NodeId.{NodeId}
use Rattle.qq_base.specs.declared.memory.Memory.TheVariants.{Spent, Want}
use Rattle.qq_entry.specs.declared.command.Command.{Command}
use Rattle.qq_entry.specs.declared.command.Unstamped.{Unstamped}
use Rattle.qq_entry.specs.declared.queue.QueueArgs.{QueueArgs}
use Rattle.qq_raft_model.specs.Group.{Group, group_after}
use Rattle.qq_group.specs.Reads.{leader_of}
use Rattle.qq_group.specs.declared.event.Event.{Event}
use Rattle.qq_group.specs.declared.event.Event.TheVariants as events
use Rattle.qq_session.specs.Clients.{Clients}
use Rattle.qq_session.specs.Publishing.{Numbers, next_command, open_commands}
use Rattle.qq_cluster_model.specs.Queue.{Queue, leader, submits}
use Rattle.qq_queue.specs.ClusterQueue.{HasRefused, IsOfferCaused, IsResendCaused, IsSubmitCaused, Stands}
use Rattle.qq_queue.specs.Members.{IsGroupOf, IsStepCaused, IsTellingCaused, Members, number_of, own_log}
use Rattle.qq_queue.specs.Sessions.{Standings, numbers_of}
use Rattle.qq_queue.specs.declared.cluster_queue.ClusterQueue.{ClusterQueue}
use Rattle.qq_queue.proofs.MemberEnds.{GroupEnds, step-ends}
use Rattle.qq_queue.proofs.Offering.{leader-is}

-- ---- what is asked

-- the next number of a client's session is at its end; or a number of the group is, or its bag is full, once the
-- first of a session's open commands were given again
pub data QueueEnds (n : ℕ) (q : Queue) : Type 0 where
  OfClient : n ≡ 2 ^ 63 → (session : ℕ) → (q.clients session).numbers.next ≡ 2 ^ 63 → QueueEnds n q
  OfGroup : (session : ℕ) (given rest : List Command) → open_commands (q.clients session).numbers ≡ given ++ rest
      → GroupEnds n q.args (group_after q.group (submits (leader q.group) given)) → QueueEnds n q

pub no-want : {P : Type 0} (number : ℕ) → Spent number ≡ Want → P
no-want number is = absurd cc

module _ (sessions : Standings) (d : ClusterQueue) (q : Queue) (st : Stands sessions d q) (n : ℕ) where
  numbers-are : (session : ℕ) → (q.clients session).numbers ≡ numbers_of d.publishers session
  numbers-are session = ap (λ (c : Clients). (c session).numbers) st.clients

  group-of : IsGroupOf q.args q.group d.group
  group-of = subst (λ (a : QueueArgs). IsGroupOf a q.group d.group) (sym st.args) st.group

  -- nothing was given before
  now-ends : GroupEnds n q.args q.group → QueueEnds n q
  now-ends ends = OfGroup 0 [] (open_commands (q.clients 0).numbers) refl ends

  pub steps-end : (event : Event) → IsStepCaused event d.group (Spent n) → QueueEnds n q
  steps-end event cause = now-ends (step-ends q.args q.group d.group group-of n event cause)

  pub tells-end : (event : Event) → IsTellingCaused event d.group (Spent n) → QueueEnds n q
  tells-end event (inl want) = no-want n want
  tells-end event (inr cause) = steps-end event cause

  offered : (o : Option NodeId) (command : Command) (g : Group) (group : Members) → IsGroupOf q.args g group
      → IsOfferCaused o command group (Spent n) → GroupEnds n q.args g
  offered None command g group it cause = no-want n cause
  offered (Some node) command g group it cause =
      step-ends q.args g group it n (events.Submit node 0 command) cause

  pub offer-ends : (command : Command) → IsOfferCaused (leader_of own_log d.group) command d.group (Spent n)
      → QueueEnds n q
  offer-ends command cause = now-ends (offered (leader_of own_log d.group) command q.group d.group group-of cause)

  pub submit-ends : (session : ℕ) (body : Unstamped) → IsSubmitCaused session body d (Spent n) → QueueEnds n q
  submit-ends session body (inl (is, (few, end))) =
      OfClient is session (ap (λ (m : Numbers). m.next) (numbers-are session) ∙ end)
  submit-ends session body (inr offer) = offer-ends (next_command body (numbers_of d.publishers session)) offer

  given-again : (session : ℕ) → HasRefused (open_commands (numbers_of d.publishers session)) d (Spent n)
      → QueueEnds n q
  given-again session refused =
      let moves = submits (number_of (leader_of own_log d.group)) refused.before in
      OfGroup session refused.before (refused.command ∷ refused.behind)
      (ap open_commands (numbers-are session) ∙ refused.is)
      (subst (λ (o : Option ℕ). GroupEnds n q.args (group_after q.group (submits o refused.before)))
      (sym (leader-is q.group d.group st.group.represents))
      (offered (leader_of own_log d.group) refused.command (group_after q.group moves) refused.group
      (refused.made q.args q.group group-of).0 refused.cause))

  pub resend-ends : (session : ℕ) → IsResendCaused session d (Spent n) → QueueEnds n q
  resend-ends session (inl want) = no-want n want
  resend-ends session (inr refused) = given-again session refused
