-- Events at which nothing is handed out, and verdicts, after which fewer deliveries wait.
use Rattle.std.proofs.Common.{◌≡◌, ◌≢◌, ◌⊎◌, ◌≤◌, ℕ, zero, suc, Bool, true, false, cond, List, [], ◌∷◌, Option, Some, None, length, refl, sym, ap, ◌∙◌, subst, inl, inr, arith}
use Rattle.std.specs.Prelude.{nat_eq}
use Rattle.std.specs.List.{AllByRecursion}
use Rattle.std.proofs.lemmas.Bool.{cases_eq, cond_both}
use Rattle.qq_entry.specs.declared.command.Unstamped.{Unstamped}
use Rattle.qq_taker.specs.declared.handed.Handed.{Handed}
use Rattle.qq_taker.specs.declared.seats.Seat.{Seat}
use Rattle.qq_cluster_model.specs.Cluster.{Cluster, ClusterEvent, Sets, Alike, At, NodeWrites, NodeSyncs, Fails, Crashes, FindsEach, Shows, SaysDown, SaysNoSuch, SaysUnroutable, SaysBusy, SaysEnded, cluster_after, cluster_happens, part_of, MutesEach, EndsEach}
use Rattle.qq_cluster_model.specs.ClusterLaws.{NothingWaits}
use Rattle.qq_cluster_model.specs.Queue.{Queue, Event, Mutes, Ends, Submits, TellsEnded, TellsNotTaken, Judges, Writes, Syncs, Stops, Finds, after}
use Rattle.qq_cluster_model.specs.Rules.{Rule, IsNothing, Is, if_so, Times, is_ended, IsGiven, IsClaimed, IsCommanded, IsJudgedWhere, IsNextJudged, not_taken}
use Rattle.qq_cluster_model.specs.Taking.{command_for, has_taker, unjudged, waiting_of}
use Rattle.qq_cluster_model.proofs.Handing.{HandsNothing, untold-same}
use Rattle.qq_cluster_model.proofs.Outcomes.{cluster-append}
use Rattle.qq_cluster_model.proofs.Takerless.{at-other, queue-at}

-- ---- events at which nothing is handed out

abbrev pub IsQuiet : ClusterEvent → Type 0
IsQuiet (At place event) = HandsNothing event
IsQuiet _ = Unit {0}

quiet-part : (place : ℕ) (event : ClusterEvent) → IsQuiet event → (q : Queue)
    → (after q (part_of place event)).untold ≡ q.untold
quiet-part place (At own event) quiet q =
    cond_both (nat_eq own place) (event ∷ []) [] (λ (events : List Event). (after q events).untold ≡ q.untold)
    (λ _. untold-same q event quiet) (λ _. refl)
quiet-part place (Alike (MutesEach session muted)) quiet q = untold-same q (Mutes session muted) tt
quiet-part place (Alike (EndsEach session)) quiet q = untold-same q (Ends session) tt
quiet-part place (NodeWrites k) quiet q = untold-same q (Writes k) tt
quiet-part place (NodeSyncs k) quiet q = untold-same q (Syncs k) tt
quiet-part place (Fails k) quiet q = untold-same q (Stops k) tt
quiet-part place (Crashes k image) quiet q = untold-same q (Stops k) tt
quiet-part place (FindsEach k ops) quiet q = untold-same q (Finds k (ops place)) tt
quiet-part place (Sets auto) quiet q = refl
quiet-part place (Shows own) quiet q = refl
quiet-part place (SaysDown k) quiet q = refl
quiet-part place SaysNoSuch quiet q = refl
quiet-part place SaysUnroutable quiet q = refl
quiet-part place SaysBusy quiet q = refl
quiet-part place SaysEnded quiet q = refl

pub quiet-all : (c : Cluster) (events : List ClusterEvent) → AllByRecursion IsQuiet events → (place : ℕ)
    → ((cluster_after c events).queue place).untold ≡ (c.queue place).untold
quiet-all c [] quiet place = refl
quiet-all c (event ∷ events) quiet place =
    quiet-all (cluster_happens c event) events quiet.1 place ∙ quiet-part place event quiet.0 (c.queue place)

-- a rule allows no others
abbrev pub Quiet : Rule → Type 0
Quiet Allows = (c : Cluster) (events : List ClusterEvent) → Allows c events → AllByRecursion IsQuiet events

pub quiet-is : (event : ClusterEvent) → IsQuiet event → Quiet (Is event)
quiet-is event quiet c events is = subst (AllByRecursion IsQuiet) (sym is) (quiet, tt)

pub quiet-nothing : Quiet IsNothing
quiet-nothing c events is = subst (AllByRecursion IsQuiet) (sym is) tt

pub quiet-if : (test : Cluster → Bool) (First Second : Rule) → Quiet First → Quiet Second
    → Quiet (λ c events. if_so (test c) First Second c events)
quiet-if test First Second first second c events allowed = by (test c) allowed
  where
    by : (b : Bool) → if_so b First Second c events → AllByRecursion IsQuiet events
    by true allowed' = first c events allowed'
    by false allowed' = second c events allowed'

quiet-claimed : (o : Option ℕ) (session : ℕ) (body : Unstamped) (place : ℕ) → Quiet (IsClaimed o session body place)
quiet-claimed None session body place = quiet-is (At place (Submits session body)) tt
quiet-claimed (Some id) session body place = quiet-is (At place (TellsNotTaken session id)) tt

pub quiet-given : (session : ℕ) (body : Unstamped) (place : ℕ) → Quiet (IsGiven session body place)
quiet-given session body place c events allowed = by (is_ended session (c.queue place)) allowed
  where
    own : Rule
    own = IsClaimed (not_taken session body (c.queue place)) session body place

    by : (b : Bool) → if_so b (Is (At place (TellsEnded session))) own c events → AllByRecursion IsQuiet events
    by true allowed' = quiet-is (At place (TellsEnded session)) tt c events allowed'
    by false allowed' =
        quiet-claimed (not_taken session body (c.queue place)) session body place c events allowed'

quiet-commanded : (o : Option Unstamped) (session place : ℕ) → Quiet (IsCommanded o session place)
quiet-commanded None session place = quiet-nothing
quiet-commanded (Some body) session place = quiet-given session body place

-- ---- verdicts

waiting-few : (seats : List Seat) (hs : List Handed) → length (waiting_of seats hs) ≤ length hs
waiting-few seats [] = omega arith
waiting-few seats (h ∷ more) = by (has_taker seats h) (waiting-few seats more)
  where
    one-more : (n m : ℕ) → n ≤ m → n ≤ suc m
    one-more n m le = omega arith

    by : (b : Bool) → length (waiting_of seats more) ≤ length more
        → length (cond b (h ∷ more) (waiting_of seats more)) ≤ length (h ∷ more)
    by true few = omega arith
    by false few = one-more (length (waiting_of seats more)) (length more) few

none-left : (hs : List Handed) → length hs ≤ 0 → hs ≡ []
none-left [] few = refl
none-left (h ∷ more) few = absurd (too-few (length more) few)
  where
    too-few : (n : ℕ) → suc n ≤ 0 → ⊥
    too-few n le = omega arith

-- deliveries wait at this queue alone, and no more than so many
pub record WaitAt (place n : ℕ) (c : Cluster) : Type 0 where
  pub few : length (c.queue place).untold ≤ n
  pub others : (other : ℕ) → place ≢ other → (c.queue other).untold ≡ []

pub elsewhere : (place : ℕ) (event : Event) (c : Cluster) (other : ℕ) → place ≢ other
    → (cluster_happens c (At place event)).queue other ≡ c.queue other
elsewhere place event c other differs = ap (after (c.queue other)) (at-other other place event differs)

waits-quiet : (place n : ℕ) (c : Cluster) (events : List ClusterEvent) → AllByRecursion IsQuiet events
    → WaitAt place n c → WaitAt place n (cluster_after c events)
waits-quiet place n c events quiet w = record {
  few = subst (λ (hs : List Handed). length hs ≤ n) (sym (quiet-all c events quiet place)) w.few;
  others = λ other differs. quiet-all c events quiet other ∙ w.others other differs;
}

judged-fewer : (place n : ℕ) (c : Cluster) (events : List ClusterEvent) → WaitAt place (suc n) c
    → IsNextJudged place c events → WaitAt place n (cluster_after c events)
judged-fewer place n c events w allowed = by (c.queue place).untold refl allowed
  where
    less : (seats : List Seat) (h : Handed) (more : List Handed) → length (h ∷ more) ≤ suc n
        → length (waiting_of seats more) ≤ n
    less seats h more few = of (length (waiting_of seats more)) (length more) (waiting-few seats more) few
      where
        of : (a b : ℕ) → a ≤ b → suc b ≤ suc n → a ≤ n
        of a b below most = omega arith

    by : (waits : List Handed) → (c.queue place).untold ≡ waits → IsJudgedWhere place waits c events
        → WaitAt place n (cluster_after c events)
    by [] is nothing = subst (λ (es : List ClusterEvent). WaitAt place n (cluster_after c es)) (sym nothing) (record {
      few = subst (λ (hs : List Handed). length hs ≤ n) (sym is) (omega arith);
      others = w.others;
    })
    by (h ∷ more) is judges =
        let verdict = judges.verdict in
        let d : Cluster = cluster_happens c (At place (Judges verdict)) in
        let first : WaitAt place n d = record {
          few = subst (λ (hs : List Handed). length hs ≤ n)
              (sym (ap (λ (q : Queue). q.untold) (queue-at c place (Judges verdict))
              ∙ ap (unjudged (c.queue place).seats) is))
              (less (c.queue place).seats h more (subst (λ (hs : List Handed). length hs ≤ suc n) is w.few));
          others = λ other differs.
              ap (λ (q : Queue). q.untold) (elsewhere place (Judges verdict) c other differs) ∙ w.others other differs;
        } in
        let early : WaitAt place n (cluster_after c judges.is.early) =
        subst (λ (es : List ClusterEvent). WaitAt place n (cluster_after c es)) (sym judges.is.first) first in
        subst (λ (es : List ClusterEvent). WaitAt place n (cluster_after c es)) (sym judges.is.is)
        (subst (WaitAt place n) (sym (cluster-append c judges.is.early judges.is.late))
        (waits-quiet place n (cluster_after c judges.is.early) judges.is.late
        (quiet-commanded (command_for verdict h) h.consumer.session.number place (cluster_after c judges.is.early)
        judges.is.late judges.is.second) early))

pub told-all : (place n : ℕ) (c : Cluster) (events : List ClusterEvent) → WaitAt place n c
    → Times n (IsNextJudged place) c events → NothingWaits (cluster_after c events)
told-all place zero c events w is =
    subst (λ (es : List ClusterEvent). NothingWaits (cluster_after c es)) (sym is)
    (λ other. at other (cases_eq place other))
  where
    at : (other : ℕ) → ((place ≡ other) ⊎ (place ≢ other)) → (c.queue other).untold ≡ []
    at other (inl same) =
        subst (λ (i : ℕ). (c.queue i).untold ≡ []) same (none-left (c.queue place).untold w.few)
    at other (inr differs) = w.others other differs
told-all place (suc n) c events w is =
    subst (λ (es : List ClusterEvent). NothingWaits (cluster_after c es)) (sym is.is)
    (subst NothingWaits (sym (cluster-append c is.early is.late))
    (told-all place n (cluster_after c is.early) is.late (judged-fewer place n c is.early w is.first) is.second))
