-- A broker is called: what is heard of a command that is given, and of the pump after it.
use Rattle.std.proofs.Common.{◌≡◌, ◌+◌, ℕ, List, [], ◌∷◌, ◌++◌, Option, Some, refl, sym, ap, subst, ◌∙◌, append_assoc, append-nil}
use Rattle.std.specs.Prelude.{filter, filter_map, not}
use Rattle.std.specs.Option.{option_map}
use Rattle.std.proofs.lemmas.List.Elements.{filter-append, filter_map-append}
use Rattle.qq_base.specs.declared.ids.QueueId.{QueueId}
use Rattle.qq_base.specs.declared.ids.SessionId.{SessionId}
use Rattle.qq_base.specs.declared.memory.Memory.{Memory}
use Rattle.qq_base.specs.declared.memory.Memory.TheVariants.{Want, Spent}
use Rattle.qq_disk.specs.Facts.{DiskFacts}
use Rattle.qq_entry.specs.declared.audit.AuditRow.{AuditRow}
use Rattle.qq_entry.specs.declared.command.Unstamped.{Unstamped}
use Rattle.qq_route.specs.declared.setup.Setup.{Setup}
use Rattle.qq_taker.specs.Takers.{Takers, hear_on, take_heard}
use Rattle.qq_taker.specs.declared.handed.Handed.{Handed}
use Rattle.qq_taker.specs.declared.heard.Heard.{Heard}
use Rattle.qq_cluster_model.specs.Cluster.{Cluster, ClusterEvent, Setup as ClusterSetup, all_prints, cluster_after, new_cluster}
use Rattle.qq_cluster_model.specs.Outcome.{Outcome, all_heard, delivery_in, takers_after}
use Rattle.qq_cluster_model.specs.Rules.{IsGiven, IsPump, is_idle, most_rounds}
use Rattle.qq_cluster_model.proofs.Outcomes.{cluster-append, takers-both}
use Rattle.qq_cluster_laws.specs.Serves.{Serves}
use Rattle.qq_cluster_run.specs.Serving.{Run, cluster_in, setup_in}
use Rattle.qq_cluster.specs.Nodes.{GaveUp, Served, Stands, seen}
use Rattle.qq_cluster.specs.declared.nodes.Nodes.{Nodes}
use Rattle.qq_cluster.proofs.Joined.{Joined, served-join}
use Rattle.qq_cluster.proofs.Outcomes.{outcome_after}
use Rattle.qq_cluster.proofs.Stands.{gave_up-first, gave_up-second}
use Rattle.qq_cluster.proofs.Total.{total-pumps}
use Rattle.qq_broker.specs.Broker.{Runs}
use Rattle.qq_broker.specs.Calling.{HasCalled, HearsCall, IsCall, IsCallGivenUp, Sorts, StopsCall, handed_heard, heard_after, is_heard_at, outcome_heard, others_heard, row_told, rows_heard}
use Rattle.qq_broker.specs.Lives.{Giving}
use Rattle.qq_broker.specs.Nodes.{Holds, Meets}
use Rattle.qq_broker.specs.Serving.{run_after}
use Rattle.qq_broker.specs.declared.broker.Broker.{Broker}
use Rattle.qq_broker.specs.declared.calling.Called.{Called}
use Rattle.qq_broker.proofs.Failing.{call-once}
use Rattle.qq_broker.proofs.GoingOn.{became-served, ends-spent, had-so, holds-more, reached}
use Rattle.qq_broker.proofs.Stepped.{runs-on}

-- ---- what is heard goes where it belongs

abbrev row_of : Heard → Option AuditRow
row_of h = row_told h.what

rows-both : (place : ℕ) (xs ys : List Heard)
    → rows_heard place (xs ++ ys) ≡ rows_heard place xs ++ rows_heard place ys
rows-both place xs ys =
    ap (filter_map row_of) (filter-append (is_heard_at place) xs ys)
    ∙ filter_map-append row_of (filter (is_heard_at place) xs) (filter (is_heard_at place) ys)

handed-both : (place : ℕ) (xs ys : List Heard)
    → handed_heard place (xs ++ ys) ≡ handed_heard place xs ++ handed_heard place ys
handed-both place xs ys =
    ap (filter_map delivery_in) (filter-append (is_heard_at place) xs ys)
    ∙ filter_map-append delivery_in (filter (is_heard_at place) xs) (filter (is_heard_at place) ys)

others-both : (place : ℕ) (xs ys : List Heard)
    → others_heard place (xs ++ ys) ≡ others_heard place xs ++ others_heard place ys
others-both place xs ys = filter-append (λ (h : Heard). not (is_heard_at place h)) xs ys

-- a list to which one item's part was added, and the rest is to be
put-next : {A : Type 0} (now next here rest all : List A) → next ≡ now ++ here → now ++ (here ++ rest) ≡ all
    → next ++ rest ≡ all
put-next now next here rest all is before =
    ap (λ (l : List _). l ++ rest) is ∙ append_assoc now here rest ∙ before

-- with the rest all of it is added
pub record Sorting (place : ℕ) (all rest : List Heard) (first now : Called) : Type 0 where
  pub rows : now.rows.items ++ rows_heard place rest ≡ first.rows.items ++ rows_heard place all
  pub effects : now.effects.items ++ handed_heard place rest ≡ first.effects.items ++ handed_heard place all
  pub others : now.others.items ++ others_heard place rest ≡ first.others.items ++ others_heard place all
  pub outcome : now.outcome ≡ first.outcome
  pub pumped : now.pumped ≡ first.pumped

pub sorts-begin : (place : ℕ) (all rest : List Heard) (first : Called) → rest ≡ all
    → Sorting place all rest first first
sorts-begin place all rest first is =
    subst (λ (l : List Heard). Sorting place all l first first) (sym is)
    (record { rows = refl; effects = refl; others = refl; outcome = refl; pumped = refl })

pub sorts-more : (place : ℕ) (all rest left : List Heard) (h : Heard) (first now next : Called) → rest ≡ h ∷ left
    → Sorting place all rest first now → Sorts place (h ∷ []) now next → Sorting place all left first next
sorts-more place all rest left h first now next is so one = record {
  rows = put-next now.rows.items next.rows.items (rows_heard place (h ∷ [])) (rows_heard place left)
      (first.rows.items ++ rows_heard place all) one.rows
      (ap (λ (l : List AuditRow). now.rows.items ++ l)
      (sym (rows-both place (h ∷ []) left) ∙ ap (rows_heard place) (sym is)) ∙ so.rows);
  effects = put-next now.effects.items next.effects.items (handed_heard place (h ∷ [])) (handed_heard place left)
      (first.effects.items ++ handed_heard place all) one.effects
      (ap (λ (l : List Handed). now.effects.items ++ l)
      (sym (handed-both place (h ∷ []) left) ∙ ap (handed_heard place) (sym is)) ∙ so.effects);
  others = put-next now.others.items next.others.items (others_heard place (h ∷ [])) (others_heard place left)
      (first.others.items ++ others_heard place all) one.others
      (ap (λ (l : List Heard). now.others.items ++ l)
      (sym (others-both place (h ∷ []) left) ∙ ap (others_heard place) (sym is)) ∙ so.others);
  outcome = one.outcome ∙ so.outcome;
  pumped = one.pumped ∙ so.pumped;
}

pub sorts-end : (place : ℕ) (all rest : List Heard) (first now : Called) → rest ≡ []
    → Sorting place all rest first now → Sorts place all first now
sorts-end place all rest first now none so =
    let done : Sorting place all [] first now =
    subst (λ (l : List Heard). Sorting place all l first now) none so in
    record {
      rows = sym (append-nil now.rows.items) ∙ done.rows;
      effects = sym (append-nil now.effects.items) ∙ done.effects;
      others = sym (append-nil now.others.items) ∙ done.others;
      outcome = done.outcome;
      pumped = done.pumped;
    }

-- ---- a law of clusters: who listens hears what is told

abbrev pub HearsTold : Type 0
HearsTold =
    (setup : ClusterSetup) (c : Cluster) (events : List ClusterEvent) (all : Takers) (before : List Heard)
    → all.heard ≡ Some before
    → (takers_after setup c events all).heard ≡ Some (before ++ all_heard (all_prints setup c events))

abbrev pub HoldsAlike : Type 0
HoldsAlike =
    (setup : ClusterSetup) (c : Cluster) (events : List ClusterEvent) (all : Takers) (before : Option (List Heard))
    → (takers_after setup c events (hear_on before all)).held ≡ (takers_after setup c events all).held

-- what was heard is taken out where somebody listens
take-on : (all : Takers) (list : List Heard) → all.heard ≡ Some list → take_heard all ≡ hear_on (Some []) all
take-on all list is =
    ap (λ (o : Option (List Heard)). hear_on (option_map (λ (l : List Heard). []) o) all) is

-- ---- takers in a call

-- Of two calls one after the other, each of which somebody listens to: what is heard, and what takers see.
pub record Listened (setup : ClusterSetup) (c : Cluster) (early late : List ClusterEvent) (before later : Takers)
    (asked list : List Heard) : Type 0 where
  pub asked_is : asked ≡ heard_after setup c early
  pub list_is : list ≡ heard_after setup (cluster_after c early) late
  pub held : later.held ≡ (takers_after setup c (early ++ late) before).held

pub listened : HearsTold → HoldsAlike → (setup : ClusterSetup) (c : Cluster) (early late : List ClusterEvent)
    (before first told between last later : Takers) (asked list : List Heard) → first ≡ hear_on (Some []) before
    → told ≡ takers_after setup c early first → ((all : List Heard) → told.heard ≡ Some all → asked ≡ all)
    → between ≡ take_heard told → last ≡ takers_after setup (cluster_after c early) late between
    → ((all : List Heard) → last.heard ≡ Some all → list ≡ all) → later ≡ take_heard last
    → Listened setup c early late before later asked list
listened hears alike setup c early late before first told between last later asked list start is asks taken on lists left =
    let d : Cluster = cluster_after c early in
    let one : told.heard ≡ Some (heard_after setup c early) =
    ap (λ (t : Takers). t.heard) is ∙ hears setup c early first [] (ap (λ (t : Takers). t.heard) start) in
    let anew : between ≡ hear_on (Some []) told = taken ∙ take-on told (heard_after setup c early) one in
    let two : last.heard ≡ Some (heard_after setup d late) =
    ap (λ (t : Takers). t.heard) on ∙ hears setup d late between [] (ap (λ (t : Takers). t.heard) anew) in
    record {
      asked_is = asks (heard_after setup c early) one;
      list_is = lists (heard_after setup d late) two;
      held = ap (λ (t : Takers). t.held) left ∙ ap (λ (t : Takers). t.held) on
          ∙ ap (λ (t : Takers). (takers_after setup d late t).held) anew
          ∙ alike setup d late told (Some [])
          ∙ ap (λ (t : Takers). (takers_after setup d late t).held) (is ∙ ap (takers_after setup c early) start)
          ∙ ap (λ (t : Takers). t.held) (sym (takers-both setup c early late (hear_on (Some []) before)))
          ∙ alike setup c (early ++ late) before (Some []);
    }

-- ---- a call that is given up

module _ {D : Type 0} (facts : DiskFacts D) (session : ℕ) (body : Unstamped) (place : ℕ) where
  abbrev Gives : ClusterSetup → Cluster → List ClusterEvent → Type 0
  Gives setup = IsGiven session body place

  pub stops-first : (old new : Nodes D) (memory : Memory) → GaveUp facts Gives old new memory
      → StopsCall facts session body place old memory
  stops-first old new Want so = tt
  stops-first old new (Spent number) so =
      (gave_up-first {First = Gives} {Second = IsPump} (λ setup. total-pumps most_rounds setup) so).spent number refl

  pub stops-second : (old mid new : Nodes D) (before middle : Outcome) (memory : Memory)
      → Served facts Gives old mid before middle → GaveUp facts IsPump mid new memory
      → StopsCall facts session body place old memory
  stops-second old mid new before middle Want first so = tt
  stops-second old mid new before middle (Spent number) first so =
      (gave_up-second {First = Gives} {Second = IsPump} first so).spent number refl

  pub stops-want : (old : Nodes D) (memory : Memory) → memory ≡ Want
      → StopsCall facts session body place old memory
  stops-want old memory is = subst (StopsCall facts session body place old) (sym is) tt

-- ---- a broker's call

module _ {D : Type 0} (given : Giving D) (facts : DiskFacts D) (run : Run) where
  pub call-given-up : (s : Setup) (session : ℕ) (body : Unstamped) (place : ℕ) (old : Nodes D) (memory : Memory)
      → Holds given facts s old run → StopsCall facts session body place old memory
      → IsCallGivenUp (Meets given facts 0 0) (setup_in s run) run.events session body place memory
  call-given-up s session body place old Want h so = tt
  call-given-up s session body place old (Spent number) h so =
      let setup : ClusterSetup = setup_in s run in
      ends-spent given facts s run (IsCall setup session body place) (IsCall setup session body place) old 0 0
      number h (λ c events allowed. allowed)
      (λ k events allowed. call-once k setup session body place (cluster_in s run) events allowed)
      (so setup (cluster_in s run) (reached given facts s run) h.stands)

  -- nodes stand for the run after a call
  holds-called : (s : Setup) (session : ℕ) (body : Unstamped) (place : ℕ) (old new : Nodes D)
      (early late : List ClusterEvent) (before later : Outcome) → Holds given facts s old run
      → IsCall (setup_in s run) session body place (cluster_in s run) (early ++ late)
      → Serves (setup_in s run) (cluster_in s run) (λ events. events ≡ early ++ late)
      (Stands facts (setup_in s run) new) (seen facts old) (seen facts new) before later
      → Holds given facts s new (run_after run (run.events ++ (early ++ late)))
  holds-called s session body place old new early late before later h allowed sv =
      let setup : ClusterSetup = setup_in s run in
      let c : Cluster = cluster_in s run in
      subst (λ (l : List ClusterEvent). Holds given facts s new (run_after run (run.events ++ l))) sv.did.means
      (holds-more given facts s run old new sv.did.events (run.lines + 1) h sv.did.stands
      (λ k there mid last was is restarted b. became-served given facts setup run.events
      (λ (events : List ClusterEvent). events ≡ early ++ late) (Stands facts setup new) old new before later sv k
      there (call-once k setup session body place c sv.did.events
      (subst (IsCall setup session body place c) (sym sv.did.means) allowed)) mid last was is restarted b))

  pub has-called : HearsTold → HoldsAlike → (old new : Broker D) (session : SessionId) (queue : QueueId)
      (body : Unstamped) (before after : Takers) (first later : Outcome) (called : Called)
      → Runs given facts old run → new.setup ≡ old.setup → new.room ≡ old.room
      → first.takers ≡ hear_on (Some []) before → after ≡ hear_on before.heard later.takers
      → HearsCall facts session.number body queue.0 old.nodes new.nodes first later called
      → HasCalled given facts old new run session queue body before after called
  has-called hears alike old new session queue body before after first later called so same room start back call =
      let s : Setup = old.setup in
      let setup : ClusterSetup = setup_in s run in
      let c : Cluster = cluster_in s run in
      let j : Joined facts (λ (own : ClusterSetup). IsGiven session.number body queue.0) IsPump old.nodes new.nodes
      first call.gives.told call.between call.pumps.told setup c =
      served-join call.gives.served call.pumps.served setup c (reached given facts s run) so.holds.stands in
      let allowed : IsCall setup session.number body queue.0 c (j.early ++ j.late) =
      record { early = j.early; late = j.late; is = refl; first = j.first; second = j.second } in
      let holds = holds-called s session.number body queue.0 old.nodes new.nodes j.early j.late first
      (outcome_after setup c (j.early ++ j.late) first) so.holds allowed j.serves in
      let heard = listened hears alike setup c j.early j.late before first.takers call.gives.told.takers
      call.between.takers call.pumps.told.takers later.takers call.asked call.list start j.sees call.gives.heard
      (ap (λ (o : Outcome). o.takers) call.gives.taken) j.then_sees call.pumps.heard
      (ap (λ (o : Outcome). o.takers) call.pumps.taken) in
      let next : Run = run_after run (run.events ++ (j.early ++ j.late)) in
      let last : cluster_in s next ≡ cluster_after (cluster_after c j.early) j.late =
      cluster-append (new_cluster setup) run.events (j.early ++ j.late) ∙ cluster-append c j.early j.late in
      record {
        more = j.early ++ j.late;
        allowed = allowed;
        disks = had-so given facts s new.nodes next holds;
        runs = runs-on given facts run old new next so same room holds;
        answers = record {
          outcome = call.outcome ∙ ap outcome_heard heard.asked_is;
          rows = call.rows ∙ ap (rows_heard queue.0) heard.list_is;
          effects = call.effects ∙ ap (handed_heard queue.0) heard.list_is;
          others = call.others ∙ ap (others_heard queue.0) heard.list_is;
          idle = call.idle setup (cluster_in s next) (reached given facts s next) holds.stands
              ∙ ap (is_idle setup) last;
        };
        held = ap (λ (t : Takers). t.held) back ∙ heard.held;
        heard = ap (λ (t : Takers). t.heard) back;
      }
