-- Members that start one after another.
use Rattle.std.proofs.Common.{◌≡◌, ℕ, ◌≤◌, List, [], ◌∷◌, length, take, Option, Some, None, refl, sym, ap, subst, ◌∙◌}
use Rattle.std.specs.List.{AllByRecursion}
use Rattle.std.specs.Prelude.{slice_get}
use Rattle.std.proofs.lemmas.Bool.{cond_both}
use Rattle.qq_base.proofs.Puts.{put-other}
use Rattle.qq_base.specs.declared.ids.NodeId.{NodeId}
use Rattle.qq_log.specs.Log.{LogState}
use Rattle.qq_log.specs.Stable.{Stable, stable}
use Rattle.qq_raft_model.specs.Group.{Event, Group as GroupState, Seat as SeatState, group_after, happens, may_restart, restart_by}
use Rattle.qq_raft_model.specs.Group.Event.{Restart}
use Rattle.qq_group.specs.Follows.{OthersStay}
use Rattle.qq_group.specs.Group.{IsSound, Represents, server_at, server_by}
use Rattle.qq_group.specs.Opening.{AreApart, AreFound, HasStartedBy, HaveStarted, IsFoundBy, IsFresh, IsStart, IsUnnamed, AreDown, Start, Starts, restarts_by, restarts_of}
use Rattle.qq_group.specs.Restarts.{IsFound, is_known}
use Rattle.qq_group.specs.declared.group.Group.{Group}
use Rattle.qq_group.specs.declared.seat.Seat.{Seat}

-- ---- a restart leaves the seats of the others

by-seat : (k op q : ℕ) (o : Option Stable) (g : GroupState) → (q ≡ k → ⊥) → (restart_by k op o g).seat q ≡ g.seat q
by-seat k op q None g other = refl
by-seat k op q (Some state) g other = put-other k _ g.seat q other

restart-seat : (k op q : ℕ) (g : GroupState) → (q ≡ k → ⊥) → (happens (Restart k op) g).seat q ≡ g.seat q
restart-seat k op q g other =
    cond_both (may_restart k op g) (restart_by k op _ g) g (λ (h : GroupState). h.seat q ≡ g.seat q)
    (λ _. by-seat k op q _ g other) (λ _. refl)

found-still : (g h : GroupState) (q : ℕ) (l : LogState) → h.seat q ≡ g.seat q → IsFound g q l → IsFound h q l
found-still g h q l same f = record {
  noticed = subst (λ (s : SeatState). s.noticed ≤ l.op) (sym same) f.noticed;
  handed = subst (λ (s : SeatState). l.op ≤ length s.ops) (sym same) f.handed;
  is = ap (λ (s : SeatState). stable (take l.op s.ops)) same ∙ f.is;
}

pub by-still : {Q L : Type 0} (log : L → LogState) (g h : GroupState) (q : ℕ) (o : Option (Q × L)) → h.seat q ≡ g.seat q
    → IsFoundBy log g q o → IsFoundBy log h q o
by-still log g h q None same f = tt
by-still log g h q (Some s) same f = found-still g h q (log s.1) same f

after-seat : {Q L : Type 0} (log : L → LogState) (k q : ℕ) (o : Option (Q × L)) (g : GroupState) → (q ≡ k → ⊥)
    → (group_after g (restarts_by log k o [])).seat q ≡ g.seat q
after-seat log k q None g other = refl
after-seat log k q (Some s) g other = restart-seat k (log s.1).op q g other

-- what is to be found of the others still is
pub found-rest : {Q L : Type 0} (log : L → LogState) (k : ℕ) (o : Option (Q × L)) (g : GroupState)
    (starts : List (Start Q L)) → AllByRecursion (λ (t : Start Q L). t.0.0 ≡ k → ⊥) starts → AreFound log g starts
    → AreFound log (group_after g (restarts_by log k o [])) starts
found-rest log k o g [] apart found = tt
found-rest log k o g (t ∷ starts) apart found = (
  by-still log g (group_after g (restarts_by log k o [])) t.0.0 t.1 (after-seat log k t.0.0 o g apart.0) found.0,
  found-rest log k o g starts apart.1 found.1,
)

one-then : {Q L : Type 0} (log : L → LogState) (k : ℕ) (o : Option (Q × L)) (events : List Event) (g : GroupState)
    → group_after (group_after g (restarts_by log k o [])) events ≡ group_after g (restarts_by log k o events)
one-then log k None events g = refl
one-then log k (Some s) events g = refl

-- ---- so far

-- the rest leads from here to where all lead from the first
pub record Leads {Q L : Type 0} (log : L → LogState) (starts rest : List (Start Q L)) (now : Group Q L)
    (g : GroupState) : Type 0 where
  pub state : GroupState
  pub stands : Represents log state now
  pub found : AreFound log state rest
  pub same : group_after state (restarts_of log rest) ≡ group_after g (restarts_of log starts)

abbrev pub LeadsOn : {Q L : Type 0} → (L → LogState) → List (Start Q L) → List (Start Q L) → Group Q L → Group Q L → Type 0
LeadsOn log starts rest first now =
    (g : GroupState) → Represents log g first → AreFound log g starts → Leads log starts rest now g

pub leads-first : {Q L : Type 0} (log : L → LogState) (starts : List (Start Q L)) (first : Group Q L)
    → LeadsOn log starts starts first first
leads-first log starts first = λ g r found. record { state = g; stands = r; found = found; same = refl }

pub leads-next : {Q L : Type 0} (log : L → LogState) (starts rest : List (Start Q L)) (s : Start Q L)
    (first now next : Group Q L) → LeadsOn log starts (s ∷ rest) first now → AreApart (s ∷ rest)
    → ((g : GroupState) → Represents log g now → IsFoundBy log g s.0.0 s.1
    → Represents log (group_after g (restarts_by log s.0.0 s.1 [])) next)
    → LeadsOn log starts rest first next
leads-next log starts rest s first now next leads apart one = λ g r found.
    let l = leads g r found in
    record {
      state = group_after l.state (restarts_by log s.0.0 s.1 []);
      stands = one l.state l.stands l.found.0;
      found = found-rest log s.0.0 s.1 l.state rest apart.0 l.found.1;
      same = one-then log s.0.0 s.1 (restarts_of log rest) l.state ∙ l.same;
    }

pub leads-last : {Q L : Type 0} (log : L → LogState) (starts : List (Start Q L)) (first now : Group Q L)
    → LeadsOn log starts [] first now → Starts log starts first now
leads-last log starts first now leads = λ g r found.
    let l = leads g r found in
    subst (λ (h : GroupState). Represents log h now) l.same l.stands

-- ---- who is still down

pub fresh-still : {Q L : Type 0} (k q : ℕ) (old new : Group Q L) → OthersStay k old new → (q ≡ k → ⊥)
    → IsFresh old q → IsFresh new q
fresh-still k q old new stay other f = (
  ap server_by (stay q other) ∙ f.0,
  ap is_known (stay q other) ∙ f.1,
)

pub fresh-rest : {Q L : Type 0} (k : ℕ) (old new : Group Q L) (starts : List (Start Q L)) → OthersStay k old new
    → AllByRecursion (λ (t : Start Q L). t.0.0 ≡ k → ⊥) starts
    → AllByRecursion (λ (t : Start Q L). IsFresh old t.0.0) starts
    → AllByRecursion (λ (t : Start Q L). IsFresh new t.0.0) starts
fresh-rest k old new [] stay apart fresh = tt
fresh-rest k old new (t ∷ starts) stay apart fresh =
    (fresh-still k t.0.0 old new stay apart.0 fresh.0, fresh-rest k old new starts stay apart.1 fresh.1)

pub all-fresh : {Q L : Type 0} (group : Group Q L) (starts : List (Start Q L)) → ((k : ℕ) → IsFresh group k)
    → AllByRecursion (λ (t : Start Q L). IsFresh group t.0.0) starts
all-fresh group [] fresh = tt
all-fresh group (t ∷ starts) fresh = (fresh t.0.0, all-fresh group starts fresh)

-- ---- who has started

-- in whichever group the rest have started and no other member has changed, all have
abbrev pub StartedOn : {P Q L : Type 0} → (P → Q → Type 0) → List (Start Q L) → List (Start Q L) → Group Q L → Type 0
StartedOn {Q = Q} {L = L} stands starts rest now =
    (end : Group Q L) → ((q : ℕ) → IsUnnamed rest q → slice_get end.seats.items q ≡ slice_get now.seats.items q)
    → HaveStarted stands rest end → HaveStarted stands starts end

pub started-first : {P Q L : Type 0} (stands : P → Q → Type 0) (starts : List (Start Q L)) (first : Group Q L)
    → StartedOn stands starts starts first
started-first stands starts first = λ end stay all. all

pub started-next : {P Q L : Type 0} (stands : P → Q → Type 0) (starts rest : List (Start Q L)) (s : Start Q L)
    (now next : Group Q L) → StartedOn stands starts (s ∷ rest) now → AreApart (s ∷ rest)
    → OthersStay s.0.0 now next → HasStartedBy stands s.1 (server_at s.0.0 next) → StartedOn stands starts rest next
started-next {Q = Q} {L = L} stands starts rest s now next on apart others here = λ end stay all.
    on end (λ q unnamed. stay q unnamed.1 ∙ others q (λ eq. unnamed.0 (sym eq))) (
      subst (λ (o : Option (Seat Q L)). HasStartedBy stands s.1 (server_by o)) (sym (stay s.0.0 apart.0)) here,
      all,
    )

pub started-last : {P Q L : Type 0} (stands : P → Q → Type 0) (starts : List (Start Q L)) (now : Group Q L)
    → StartedOn stands starts [] now → HaveStarted stands starts now
started-last stands starts now on = on now (λ q unnamed. refl) tt

-- those that aren't named are as they were
abbrev pub StaysOn : {Q L : Type 0} → List (Start Q L) → List (Start Q L) → Group Q L → Group Q L → Type 0
StaysOn {Q = Q} {L = L} starts rest first now =
    (end : Group Q L) → ((q : ℕ) → IsUnnamed rest q → slice_get end.seats.items q ≡ slice_get now.seats.items q)
    → (q : ℕ) → IsUnnamed starts q → slice_get end.seats.items q ≡ slice_get first.seats.items q

pub stays-first : {Q L : Type 0} (starts : List (Start Q L)) (first : Group Q L) → StaysOn starts starts first first
stays-first starts first = λ end stay. stay

pub stays-next : {Q L : Type 0} (starts rest : List (Start Q L)) (s : Start Q L) (first now next : Group Q L)
    → StaysOn starts (s ∷ rest) first now → OthersStay s.0.0 now next → StaysOn starts rest first next
stays-next starts rest s first now next on others = λ end stay.
    on end (λ q unnamed. stay q unnamed.1 ∙ others q (λ eq. unnamed.0 (sym eq)))

pub stays-last : {Q L : Type 0} (starts : List (Start Q L)) (first now : Group Q L) → StaysOn starts [] first now
    → ((k : ℕ) → IsFresh first k) → AreDown starts now
stays-last starts first now on fresh = λ k unnamed.
    ap server_by (on now (λ q none. refl) k unnamed) ∙ (fresh k).0

-- ---- what each starts with

pub starts-still : {P Q L : Type 0} (stands : P → Q → Type 0) (log : L → LogState) (index_of : Q → ℕ)
    (old new : Group Q L) (starts : List (Start Q L)) → new.nodes ≡ old.nodes
    → AllByRecursion (IsStart stands log index_of old.nodes.items) starts
    → AllByRecursion (IsStart stands log index_of new.nodes.items) starts
starts-still stands log index_of old new starts same each =
    subst (λ (nodes : List NodeId). AllByRecursion (IsStart stands log index_of nodes) starts)
    (ap (λ v. v.items) (sym same)) each

-- ---- all of it

-- some have started, and the rest is still down
pub record UnderWay {P Q L : Type 0} (stands : P → Q → Type 0) (log : L → LogState) (index_of : Q → ℕ)
    (starts rest : List (Start Q L)) (first now : Group Q L) : Type 0 where
  pub nodes : now.nodes ≡ first.nodes
  pub audit : now.audit ≡ first.audit
  pub sound : IsSound stands log index_of now
  pub each : AllByRecursion (IsStart stands log index_of now.nodes.items) rest
  pub apart : AreApart rest
  pub fresh : AllByRecursion (λ (s : Start Q L). IsFresh now s.0.0) rest
  pub leads : LeadsOn log starts rest first now
  pub started : StartedOn stands starts rest now
  pub stays : StaysOn starts rest first now

pub begun : {P Q L : Type 0} (stands : P → Q → Type 0) (log : L → LogState) (index_of : Q → ℕ)
    (starts rest : List (Start Q L)) (first : Group Q L) → rest ≡ starts → IsSound stands log index_of first
    → AllByRecursion (IsStart stands log index_of first.nodes.items) starts → AreApart starts
    → ((k : ℕ) → IsFresh first k) → UnderWay stands log index_of starts rest first first
begun {Q = Q} {L = L} stands log index_of starts rest first is sound each apart fresh =
    subst (λ (xs : List (Start Q L)). UnderWay stands log index_of starts xs first first) (sym is)
    (record {
      nodes = refl;
      audit = refl;
      sound = sound;
      each = each;
      apart = apart;
      fresh = all-fresh first starts fresh;
      leads = leads-first log starts first;
      started = started-first stands starts first;
      stays = stays-first starts first;
    })

pub next-starts : {P Q L : Type 0} (stands : P → Q → Type 0) (log : L → LogState) (index_of : Q → ℕ)
    (starts rest more : List (Start Q L)) (s : Start Q L) (first now : Group Q L) → rest ≡ s ∷ more
    → UnderWay stands log index_of starts rest first now
    → IsStart stands log index_of now.nodes.items s × IsFresh now s.0.0
next-starts {Q = Q} {L = L} stands log index_of starts rest more s first now is u =
    let w : UnderWay stands log index_of starts (s ∷ more) first now =
    subst (λ (xs : List (Start Q L)). UnderWay stands log index_of starts xs first now) is u in
    (w.each.0, w.fresh.0)

pub goes-on : {P Q L : Type 0} (stands : P → Q → Type 0) (log : L → LogState) (index_of : Q → ℕ)
    (starts rest more : List (Start Q L)) (s : Start Q L) (first now new : Group Q L) → rest ≡ s ∷ more
    → UnderWay stands log index_of starts rest first now → IsSound stands log index_of new
    → ((g : GroupState) → Represents log g now → IsFoundBy log g s.0.0 s.1
    → Represents log (group_after g (restarts_by log s.0.0 s.1 [])) new)
    → HasStartedBy stands s.1 (server_at s.0.0 new) → OthersStay s.0.0 now new → new.nodes ≡ now.nodes
    → new.audit ≡ now.audit → UnderWay stands log index_of starts more first new
goes-on {Q = Q} {L = L} stands log index_of starts rest more s first now new is u sound one here others nodes audit =
    let w : UnderWay stands log index_of starts (s ∷ more) first now =
    subst (λ (xs : List (Start Q L)). UnderWay stands log index_of starts xs first now) is u in
    record {
      nodes = nodes ∙ w.nodes;
      audit = audit ∙ w.audit;
      sound = sound;
      each = starts-still stands log index_of now new more nodes w.each.1;
      apart = w.apart.1;
      fresh = fresh-rest s.0.0 now new more others w.apart.0 w.fresh.1;
      leads = leads-next log starts more s first now new w.leads w.apart one;
      started = started-next stands starts more s now new w.started w.apart others here;
      stays = stays-next starts more s first now new w.stays others;
    }

nil-of : {A : Type 0} (xs : List A) → length xs ≡ 0 → xs ≡ []
nil-of [] is = refl
nil-of (x ∷ xs) is = absurd cc

pub all-started : {P Q L : Type 0} (stands : P → Q → Type 0) (log : L → LogState) (index_of : Q → ℕ)
    (starts rest : List (Start Q L)) (first now : Group Q L) → length rest ≡ 0
    → UnderWay stands log index_of starts rest first now → UnderWay stands log index_of starts [] first now
all-started {Q = Q} {L = L} stands log index_of starts rest first now none u =
    subst (λ (xs : List (Start Q L)). UnderWay stands log index_of starts xs first now) (nil-of rest none) u
