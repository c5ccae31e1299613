-- What a call answers is true of its queue's audit, a command is given to a ready leader, and a call is a line.
use Rattle.std.proofs.Common.{◌≡◌, ℕ, Bool, true, false, List, [], ◌∷◌, ◌++◌, Option, None, Some, refl, sym, ap, subst, ◌∙◌}
use Rattle.std.specs.Prelude.{Contains, Err, filter, filter_map, if◌then◌else◌}
use Rattle.std.specs.List.{AllByRecursion, cons_option}
use Rattle.std.proofs.lemmas.Bool.{eqb-true, false≢true}
use Rattle.qq_base.specs.declared.ids.QueueId.{QueueId}
use Rattle.qq_base.specs.declared.ids.SessionId.{SessionId}
use Rattle.qq_base.proofs.Lists.{AllByRecursion-in}
use Rattle.qq_entry.specs.Command.{stamp}
use Rattle.qq_entry.specs.declared.answer.Answer.TheVariants.{Confirmed}
use Rattle.qq_entry.specs.declared.audit.AuditRow.{AuditRow}
use Rattle.qq_entry.specs.declared.audit.Effect.TheVariants.{Deliver}
use Rattle.qq_entry.specs.declared.command.Stamp.{Stamp}
use Rattle.qq_entry.specs.declared.command.Unstamped.{Unstamped}
use Rattle.qq_model.specs.Audit.{effects_of}
use Rattle.qq_model.specs.State.{empty_queue}
use Rattle.qq_model.proofs.Soundness.{in_contains}
use Rattle.qq_script_lines.specs.declared.line.ScriptLine.TheVariants.{Client}
use Rattle.qq_session.specs.Clients.{may_hand}
use Rattle.qq_session.specs.ExactlyOne.{ExactlyOne}
use Rattle.qq_session.specs.Printed.{IsConfirmedPublish}
use Rattle.qq_session.specs.declared.shown.Shown.{Shown}
use Rattle.qq_session.specs.declared.shown.Shown.TheVariants.{Answered, Attached, Delivered, Dropped, HasEnded, IsBusy, NoLeader, NotTaken, Taken, WindowFull}
use Rattle.qq_taker.specs.declared.handed.Handed.{Handed}
use Rattle.qq_taker.specs.declared.heard.Heard.{Heard}
use Rattle.qq_taker.specs.declared.heard.Refusal.TheVariants as refusals
use Rattle.qq_taker.specs.declared.heard.What.{What}
use Rattle.qq_taker.specs.declared.heard.What.TheVariants.{Answer, Delivery, Refused}
use Rattle.qq_cluster_model.specs.Cluster.{At, Cluster, ClusterEvent, Of, Printed, Setup, all_prints, cluster_after, new_cluster}
use Rattle.qq_cluster_model.specs.ClusterLaws.{HasGroups, IsTrueOf, PrintsWhatIsTrue}
use Rattle.qq_cluster_model.specs.Lines.{IsLine}
use Rattle.qq_cluster_model.specs.Outcome.{all_heard, delivery_in, delivery_told}
use Rattle.qq_cluster_model.specs.Queue.{Queue, Submits, TellsEnded, audit_rows, has_leader}
use Rattle.qq_cluster_model.specs.Rules.{Is, IsClaimed, IsGiven, IsNothing, IsPump, if_so, is_ended, not_taken}
use Rattle.qq_cluster_model.proofs.Outcomes.{prints-both}
use Rattle.qq_cluster_run.specs.Serving.{after_all}
use Rattle.qq_broker.specs.Calling.{Answers, IsCall, claimed_by, handed_to, heard_after, is_heard_at, outcome_at, outcome_heard, row_told}
use Rattle.qq_broker.specs.declared.calling.Called.{Called}

-- ---- what is heard is true

-- of a cluster
abbrev IsTrueAt : Cluster → ℕ → What → Type 0
IsTrueAt c place (Answer row) = IsTrueOf c (Of place (Answered row))
IsTrueAt c place (Delivery h) = IsTrueOf c (Of place (Delivered h.consumer h.delivery))
IsTrueAt c place (Refused session why) = Unit {0}

abbrev IsTrueHeard : Cluster → Heard → Type 0
IsTrueHeard c h = IsTrueAt c h.queue.0 h.what

shown-heard : (c : Cluster) (place : ℕ) (shown : Shown) (rest : List Printed) → IsTrueOf c (Of place shown)
    → AllByRecursion (IsTrueHeard c) (all_heard rest)
    → AllByRecursion (IsTrueHeard c) (all_heard (Of place shown ∷ rest))
shown-heard c place (Answered row) rest so more = (so, more)
shown-heard c place (Delivered consumer delivery) rest so more = (so, more)
shown-heard c place (NoLeader session) rest so more = (tt, more)
shown-heard c place (WindowFull session) rest so more = (tt, more)
shown-heard c place (HasEnded session) rest so more = (tt, more)
shown-heard c place (NotTaken session id) rest so more = (tt, more)
shown-heard c place (Attached session number) rest so more = more
shown-heard c place (IsBusy session number) rest so more = more
shown-heard c place (Taken number consumer delivery verdict) rest so more = more
shown-heard c place (Dropped session number) rest so more = more

heard-true : (c : Cluster) (printed : List Printed) → AllByRecursion (IsTrueOf c) printed
    → AllByRecursion (IsTrueHeard c) (all_heard printed)
heard-true c [] so = tt
heard-true c (Of place shown ∷ rest) so = shown-heard c place shown rest so.0 (heard-true c rest so.1)
heard-true c (_ ∷ rest) so = heard-true c rest so.1

-- ---- what a queue showed of it

-- an item of a filtered list goes before others, or doesn't
AllFirst : {A : Type 0} (P : A → Type 0) (x : A) (xs : List A) (b : Bool) → (b ≡ true → P x) → AllByRecursion P xs
    → AllByRecursion P (if b then x ∷ xs else xs)
AllFirst P x xs true here rest = (here refl, rest)
AllFirst P x xs false here rest = rest

-- what a queue showed is true of it
own-true : (c : Cluster) (place : ℕ) (list : List Heard) → AllByRecursion (IsTrueHeard c) list
    → AllByRecursion (λ (h : Heard). IsTrueAt c place h.what) (filter (is_heard_at place) list)
own-true c place [] so = tt
own-true c place (h ∷ rest) so =
    AllFirst (λ (g : Heard). IsTrueAt c place g.what) h (filter (is_heard_at place) rest) (is_heard_at place h)
    (λ is. subst (λ (n : ℕ). IsTrueAt c n h.what) (eqb-true h.queue.0 place is) so.0)
    (own-true c place rest so.1)

row-first : (c : Cluster) (place : ℕ) (what : What) (rows : List AuditRow) → IsTrueAt c place what
    → AllByRecursion (λ (row : AuditRow). IsTrueOf c (Of place (Answered row))) rows
    → AllByRecursion (λ (row : AuditRow). IsTrueOf c (Of place (Answered row))) (cons_option (row_told what) rows)
row-first c place (Answer row) rows so more = (so, more)
row-first c place (Delivery handed) rows so more = more
row-first c place (Refused session why) rows so more = more

rows-true : (c : Cluster) (place : ℕ) (list : List Heard)
    → AllByRecursion (λ (h : Heard). IsTrueAt c place h.what) list
    → AllByRecursion (λ (row : AuditRow). IsTrueOf c (Of place (Answered row)))
    (filter_map (λ (h : Heard). row_told h.what) list)
rows-true c place [] so = tt
rows-true c place (h ∷ rest) so = row-first c place h.what _ so.0 (rows-true c place rest so.1)

handed-first : (c : Cluster) (place : ℕ) (what : What) (list : List Handed) → IsTrueAt c place what
    → AllByRecursion (λ (h : Handed). IsTrueOf c (Of place (Delivered h.consumer h.delivery))) list
    → AllByRecursion (λ (h : Handed). IsTrueOf c (Of place (Delivered h.consumer h.delivery)))
    (cons_option (delivery_told what) list)
handed-first c place (Answer row) list so more = more
handed-first c place (Delivery handed) list so more = (so, more)
handed-first c place (Refused session why) list so more = more

handed-true : (c : Cluster) (place : ℕ) (list : List Heard)
    → AllByRecursion (λ (h : Heard). IsTrueAt c place h.what) list
    → AllByRecursion (λ (h : Handed). IsTrueOf c (Of place (Delivered h.consumer h.delivery)))
    (filter_map delivery_in list)
handed-true c place [] so = tt
handed-true c place (h ∷ rest) so = handed-first c place h.what _ so.0 (handed-true c place rest so.1)

-- ---- of a call

abbrev pub PrintsTrue : Type 0
PrintsTrue = (setup : Setup) (events : List ClusterEvent) → HasGroups setup → PrintsWhatIsTrue setup events

-- what holds of all of a list holds of what it ends with
all-last : {A : Type 0} (P : A → Type 0) (xs ys : List A) → AllByRecursion P (xs ++ ys) → AllByRecursion P ys
all-last P [] ys so = so
all-last P (x ∷ xs) ys so = all-last P xs ys so.1

module _ (law : PrintsTrue) (setup : Setup) (events early late : List ClusterEvent) (place : ℕ) (called : Called)
    (groups : HasGroups setup) (so : Answers setup (after_all setup events) place early late called) where
  abbrev c : Cluster
  c = after_all setup events

  abbrev then' : Cluster
  then' = after_all setup (events ++ (early ++ late))

  -- what the pump has printed
  last-true : AllByRecursion (IsTrueOf then') (all_prints setup (cluster_after c early) late)
  last-true =
      all-last (IsTrueOf then') (all_prints setup c early) (all_prints setup (cluster_after c early) late)
      (subst (AllByRecursion (IsTrueOf then')) (prints-both setup c early late)
      (all-last (IsTrueOf then') (all_prints setup (new_cluster setup) events) (all_prints setup c (early ++ late))
      (subst (AllByRecursion (IsTrueOf then')) (prints-both setup (new_cluster setup) events (early ++ late))
      (law setup (events ++ (early ++ late)) groups))))

  own : AllByRecursion (λ (h : Heard). IsTrueAt then' place h.what)
      (filter (is_heard_at place) (heard_after setup (cluster_after c early) late))
  own =
      own-true then' place (heard_after setup (cluster_after c early) late)
      (heard-true then' (all_prints setup (cluster_after c early) late) last-true)

  row-true : (row : AuditRow) → Contains called.rows.items row → IsTrueOf then' (Of place (Answered row))
  row-true row there =
      AllByRecursion-in (λ (r : AuditRow). IsTrueOf then' (Of place (Answered r))) row called.rows.items
      (subst (AllByRecursion (λ (r : AuditRow). IsTrueOf then' (Of place (Answered r)))) (sym so.rows)
      (rows-true then' place (filter (is_heard_at place) (heard_after setup (cluster_after c early) late)) own))
      (in_contains called.rows.items row there)

  pub row-audited : (row : AuditRow) → Contains called.rows.items row
      → Contains (audit_rows (then'.queue place)) row
  row-audited row there = (row-true row there).0.is_in

  pub row-once : (row : AuditRow) (by : Stamp) → Contains called.rows.items row → stamp row.entry.command ≡ Some by
      → row.answer ≡ Confirmed → ExactlyOne (IsConfirmedPublish by.session by.seq) (audit_rows (then'.queue place))
  row-once row by there is answer = (row-true row there).1 by is answer

  pub handed-made : (handed : Handed) → Contains called.effects.items handed
      → Contains (effects_of (empty_queue (then'.queue place).args) (then'.queue place).group.audit)
      (Deliver handed.consumer handed.delivery)
  handed-made handed there =
      (AllByRecursion-in (λ (h : Handed). IsTrueOf then' (Of place (Delivered h.consumer h.delivery))) handed
      called.effects.items
      (subst (AllByRecursion (λ (h : Handed). IsTrueOf then' (Of place (Delivered h.consumer h.delivery))))
      (sym so.effects)
      (handed-true then' place (filter (is_heard_at place) (heard_after setup (cluster_after c early) late)) own))
      (in_contains called.effects.items handed there)).2

-- ---- whether a command is given

-- what is heard where a command may be handed out, and a leader is ready
submits-heard : (setup : Setup) (c : Cluster) (session place : ℕ) (body : Unstamped)
    → outcome_heard (heard_after setup c (At place (Submits session body) ∷ [])) ≡ handed_to (c.queue place) session
submits-heard setup c session place body = by may (has_leader q) refl refl
  where
    q : Queue
    q = c.queue place

    may : Bool
    may = may_hand (q.clients session).numbers

    by : (m l : Bool) → may_hand ((c.queue place).clients session).numbers ≡ m → has_leader (c.queue place) ≡ l
        → outcome_heard (heard_after setup c (At place (Submits session body) ∷ [])) ≡ handed_to (c.queue place) session
    by true true one two = rw (one, two) refl
    by true false one two = rw (one, two) refl
    by false l one two = rw one refl

claimed-heard : (setup : Setup) (c : Cluster) (session place : ℕ) (body : Unstamped) (o : Option ℕ)
    (events : List ClusterEvent) → IsClaimed o session body place c events
    → outcome_heard (heard_after setup c events) ≡ claimed_by o (c.queue place) session
claimed-heard setup c session place body None events is =
    subst (λ (l : List ClusterEvent). outcome_heard (heard_after setup c l) ≡ handed_to (c.queue place) session)
    (sym is) (submits-heard setup c session place body)
claimed-heard setup c session place body (Some id) events is =
    ap (λ (l : List ClusterEvent). outcome_heard (heard_after setup c l)) is

given-heard : (setup : Setup) (c : Cluster) (session place : ℕ) (body : Unstamped) (events : List ClusterEvent)
    → IsGiven session body place c events
    → outcome_heard (heard_after setup c events) ≡ outcome_at (c.queue place) session body
given-heard setup c session place body events = by (is_ended session (c.queue place))
  where
    by : (b : Bool)
        → if_so b (Is (At place (TellsEnded session)))
        (IsClaimed (not_taken session body (c.queue place)) session body place) c events
        → outcome_heard (heard_after setup c events)
        ≡ (if b then Err refusals.Ended
        else claimed_by (not_taken session body (c.queue place)) (c.queue place) session)
    by true is = ap (λ (l : List ClusterEvent). outcome_heard (heard_after setup c l)) is
    by false so = claimed-heard setup c session place body (not_taken session body (c.queue place)) events so

pub outcome-given : (setup : Setup) (c : Cluster) (session place : ℕ) (body : Unstamped)
    (early late : List ClusterEvent) (called : Called) → IsGiven session body place c early
    → Answers setup c place early late called → called.outcome ≡ outcome_at (c.queue place) session body
outcome-given setup c session place body early late called given' so =
    so.outcome ∙ given-heard setup c session place body early given'

-- ---- a call as a line

-- a command that is given leaves the pace as it is
given-auto : (setup : Setup) (c : Cluster) (session place : ℕ) (body : Unstamped) (events : List ClusterEvent)
    → IsGiven session body place c events → (cluster_after c events).auto ≡ c.auto
given-auto setup c session place body events = by (is_ended session (c.queue place))
  where
    claimed : (o : Option ℕ) → IsClaimed o session body place c events → (cluster_after c events).auto ≡ c.auto
    claimed None is = ap (λ (l : List ClusterEvent). (cluster_after c l).auto) is
    claimed (Some id) is = ap (λ (l : List ClusterEvent). (cluster_after c l).auto) is

    by : (b : Bool)
        → if_so b (Is (At place (TellsEnded session)))
        (IsClaimed (not_taken session body (c.queue place)) session body place) c events
        → (cluster_after c events).auto ≡ c.auto
    by true is = ap (λ (l : List ClusterEvent). (cluster_after c l).auto) is
    by false so = claimed (not_taken session body (c.queue place)) so

pumped-if : (b : Bool) (setup : Setup) (c : Cluster) (events : List ClusterEvent) → b ≡ true → IsPump setup c events
    → if_so b (IsPump setup) IsNothing c events
pumped-if true setup c events is so = so
pumped-if false setup c events is so = absurd (false≢true is)

-- what a call allows the line of its command does, where a pump follows each line
pub call-line : (setup : Setup) (c : Cluster) (session : SessionId) (queue : QueueId) (body : Unstamped)
    (more : List ClusterEvent) → IsCall setup session.number body queue.0 c more → c.auto ≡ true
    → IsLine setup (Client session queue body) c more
unfolding IsLine
call-line setup c session queue body more so auto = record {
  early = so.early;
  late = so.late;
  is = so.is;
  first = so.first;
  second = pumped-if (cluster_after c so.early).auto setup (cluster_after c so.early) so.late
      (given-auto setup c session.number queue.0 body so.early so.first ∙ auto) so.second;
}
