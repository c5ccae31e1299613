-- What holds of all that events make of a group that was opened, and which groups are.
use Rattle.std.proofs.Common.{◌≡◌, ◌⊎◌, ℕ, ◌≤◌, List, [], ◌∷◌, ◌++◌, take, None, refl, sym, ap, subst, ◌∙◌, arith, inl, inr}
use Rattle.std.proofs.lemmas.List.{append_cancel_left, nil_from_length}
use Rattle.qq_base.specs.Fronts.{IsFront}
use Rattle.qq_base.proofs.Fronts.{front-length, front-nil, front-refl, front-take, front-trans}
use Rattle.qq_base.specs.declared.ids.NodeId.{NodeId}
use Rattle.qq_base.specs.declared.ids.QueueId.{QueueId}
use Rattle.qq_base.specs.declared.ids.Term.{Term}
use Rattle.qq_entry.specs.declared.command.Command.{Command}
use Rattle.qq_entry.specs.declared.command.Entry.{Entry}
use Rattle.qq_log.specs.declared.op.Op.{Op}
use Rattle.qq_log.specs.Stable.{stable}
use Rattle.qq_raft_protocol.specs.Facts.{add, In}
use Rattle.qq_raft_protocol.specs.Moves.{run}
use Rattle.qq_raft_protocol.specs.Safe.{IsSupported}
use Rattle.qq_raft_protocol.specs.World.{Lane, World, start_world}
use Rattle.qq_raft_protocol.proofs.Appended.{audit-comes, lane-comes}
use Rattle.qq_raft_protocol.proofs.Fewer.{supported-fewer}
use Rattle.qq_raft_protocol.proofs.Kept.{not_empty}
use Rattle.qq_raft_protocol.proofs.Shades.{shaded-audit, shaded-start}
use Rattle.qq_raft_model.specs.Handing.{lane_in, plain_state}
use Rattle.qq_raft_model.specs.Refines.{IsNoop}
use Rattle.qq_raft_model.specs.State.{Server}
use Rattle.qq_raft_model.specs.Group.{Event, Group, group_after, new_group}
use Rattle.qq_raft_model.specs.Group.Event.{Add, Submit}
use Rattle.qq_raft_model.specs.Promises.{AreDistinct, Gives, IsDown, IsLeft, IsOpened, IsPlain, IsSubmitted, IsUp, WasLeft, members_of, whole_audit}
use Rattle.qq_raft_model.proofs.Feeding.{longer-first, longer-second, longer-whole, same_some}
use Rattle.qq_raft_model.proofs.Happening.{group-follows}
use Rattle.qq_raft_model.proofs.Opened.{members_in, opened-start, opened-tied, was-left}
use Rattle.qq_raft_model.proofs.Promises.{left-lane, supported}
use Rattle.qq_raft_model.proofs.Sources.{appended-source}
use Rattle.qq_raft_model.proofs.Tied.{Follows}

-- the world that a group is opened in
abbrev pub opening : Group → List Entry → World
opening g whole = start_world (members_in g) whole

pub follows-opened : (g : Group) (whole : List Entry) (events : List Event) → AreDistinct g.nodes → IsOpened g whole
    → Follows g.nodes (IsSubmitted g events) (opening g whole) g (group_after g events)
follows-opened g whole events distinct o =
    group-follows events (opening g whole) g distinct (opened-tied g whole o)

-- ---- the audit

-- the audit of the start, and that of the group, begin the world's
whole-begins : (g : Group) (whole : List Entry) (events : List Event) (distinct : AreDistinct g.nodes)
    (o : IsOpened g whole)
    → IsFront whole (run (opening g whole) (follows-opened g whole events distinct o).moves).audit
whole-begins g whole events distinct o =
    let f = follows-opened g whole events distinct o in
    shaded-audit f.moves (opening g whole) (shaded-start (opened-start o)) f.allowed

all-begins : (g : Group) (whole : List Entry) (events : List Event) (distinct : AreDistinct g.nodes)
    (o : IsOpened g whole) → IsFront (whole_audit whole (group_after g events))
    (run (opening g whole) (follows-opened g whole events distinct o).moves).audit
all-begins g whole events distinct o =
    longer-whole (whole-begins g whole events distinct o) (follows-opened g whole events distinct o).tied.audit

pub start-begins : (g : Group) (whole : List Entry) (events : List Event) → AreDistinct g.nodes → IsOpened g whole
    → IsFront whole (whole_audit whole (group_after g events))
start-begins g whole events distinct o =
    longer-first (whole-begins g whole events distinct o) (follows-opened g whole events distinct o).tied.audit

pub audit-begins : (g : Group) (whole : List Entry) (events : List Event) → AreDistinct g.nodes → IsOpened g whole
    → IsFront (group_after g events).audit (whole_audit whole (group_after g events))
audit-begins g whole events distinct o =
    longer-second (whole-begins g whole events distinct o) (follows-opened g whole events distinct o).tied.audit

pub supported-opened : (g : Group) (whole : List Entry) (events : List Event) → AreDistinct g.nodes → IsOpened g whole
    → IsSupported (members_of g.nodes) (IsLeft (group_after g events)) (whole_audit whole (group_after g events))
supported-opened g whole events distinct o =
    let f = follows-opened g whole events distinct o in
    supported (run (opening g whole) f.moves) (group_after g events) f.tied (all-begins g whole events distinct o)

-- ---- where entries come from

pub row-comes : (g : Group) (whole : List Entry) (events : List Event) (a : List Entry) (e : Entry)
    → AreDistinct g.nodes → IsOpened g whole → IsFront (add a e) (whole_audit whole (group_after g events))
    → WasLeft g a e ⊎ (IsNoop e ⊎ IsSubmitted g events a e)
row-comes g whole events a e distinct o front =
    let f = follows-opened g whole events distinct o in
    elim (audit-comes (members_of g.nodes) (members_in g) whole f.moves a e (opened-start o) f.allowed
    (front-trans front (all-begins g whole events distinct o))) [
      | inl there ↦ inl (was-left o there)
      | inr x ↦ inr (appended-source (IsSubmitted g events) (opening g whole) f.moves a e f.sourced x)
    ]

pub lane-row-comes : (g : Group) (whole : List Entry) (events : List Event) (k : ℕ) (lane : Lane) (a : List Entry)
    (e : Entry) → AreDistinct g.nodes → IsOpened g whole → IsLeft (group_after g events) k lane
    → IsFront (add a e) lane.log → WasLeft g a e ⊎ (IsNoop e ⊎ IsSubmitted g events a e)
lane-row-comes g whole events k lane a e distinct o here front =
    let f = follows-opened g whole events distinct o in
    elim (lane-comes (members_of g.nodes) (members_in g) whole f.moves k lane a e (opened-start o) f.allowed
    (left-lane k lane f.tied here) front) [
      | inl there ↦ inl (was-left o there)
      | inr x ↦ inr (appended-source (IsSubmitted g events) (opening g whole) f.moves a e f.sourced x)
    ]

-- one event gives one entry, at one place
same_gives : (k i time other : ℕ) (command third : Command) (event : Event) → Gives k time command event
    → Gives i other third event → (k ≡ i) × (time ≡ other) × (command ≡ third)
same_gives k i time other command third event (inl a) (inl b) =
    let same : Submit k time command ≡ Submit i other third = sym a ∙ b in (cc, cc, cc)
same_gives k i time other command third event (inr a) (inr b) =
    let same : Add k time command ≡ Add i other third = sym a ∙ b in (cc, cc, cc)
same_gives k i time other command third event (inl a) (inr b) =
    absurd (let same : Submit k time command ≡ Add i other third = sym a ∙ b in cc)
same_gives k i time other command third event (inr a) (inl b) =
    absurd (let same : Add k time command ≡ Submit i other third = sym a ∙ b in cc)

same_first : (x y : Event) (xs ys : List Event) → x ∷ xs ≡ y ∷ ys → x ≡ y
same_first x y xs ys e = cc

same_entry : (e f : Entry) → e.term ≡ f.term → e.time ≡ f.time → e.command ≡ f.command → e ≡ f
same_entry e f term time command =
    ap (λ (x : Term). record { term = x; time = e.time; command = e.command }) term
    ∙ ap (λ (x : ℕ). record { term = f.term; time = x; command = e.command }) time
    ∙ ap (λ (x : Command). record { term = f.term; time = f.time; command = x }) command

pub once : (g : Group) (events : List Event) (a b : List Entry) (e f : Entry) (x : IsSubmitted g events a e)
    (y : IsSubmitted g events b f) → x.first ≡ y.first → (a ≡ b) × (e ≡ f)
once g events a b e f x y same =
    let lists : x.first ++ x.event ∷ x.rest ≡ x.first ++ y.event ∷ y.rest =
    sym x.is ∙ y.is ∙ ap (λ (l : List Event). l ++ y.event ∷ y.rest) (sym same) in
    let event : x.event ≡ y.event =
    same_first x.event y.event x.rest y.rest
    (append_cancel_left x.first (x.event ∷ x.rest) (y.event ∷ y.rest) lists) in
    let parts = same_gives x.node y.node e.time f.time e.command f.command y.event
    (subst (Gives x.node e.time e.command) event x.gives) y.gives in
    let there : IsUp (group_after g x.first) x.node y.server =
    subst (λ (k : ℕ). IsUp (group_after g x.first) k y.server) (sym parts.0)
    (subst (λ (l : List Event). IsUp (group_after g l) y.node y.server) (sym same) y.up) in
    let server : x.server ≡ y.server = same_some x.server y.server (sym x.up ∙ there) in (
      sym x.log ∙ ap (λ (s : Server). s.log) server ∙ y.log,
      same_entry e f (x.term ∙ ap (λ (s : Server). s.term) server ∙ sym y.term) parts.1 parts.2,
    )

-- ---- groups that are opened

-- a log that was handed no op leaves no entry
new-left : (queue : QueueId) (nodes : List NodeId) (k : ℕ) (l : Lane) → IsLeft (new_group queue nodes) k l
    → l.log ≡ []
new-left queue nodes k l x =
    let handed : x.upto ≤ 0 = x.handed in
    let nothing : List Op = [] in
    let none_left : take x.upto nothing ≡ [] =
    nil_from_length (take x.upto nothing) (omega (arith, front-length (front-take x.upto nothing))) in
    let state : x.state ≡ plain_state 0 (record { 0 = 0 }) None [] =
    same_some x.state (plain_state 0 (record { 0 = 0 }) None []) (sym x.is ∙ ap stable none_left) in
    ap (λ (y : Lane). y.log) (x.lane_is ∙ ap lane_in state)

pub new-opened : (queue : QueueId) (nodes : List NodeId) → IsOpened (new_group queue nodes) []
new-opened queue nodes =
    let none_in : (k : ℕ) (l : Lane) → IsLeft (new_group queue nodes) k l → (a : List Entry) (e : Entry)
    → IsFront (add a e) l.log → ⊥ =
    λ k l here a e front. not_empty a l.log e front (new-left queue nodes k l here) in
    record {
      down = record {
        down = λ k. refl;
        bag = refl;
        noticed = λ k. omega arith;
        plain = λ k n late within.
            let start : 0 ≡ n = omega (arith, within) in
            subst (λ (i : ℕ). IsPlain i (take i [])) start (record {
              term = record { 0 = 0 };
              vote = None;
              log = [];
              is = refl;
            });
        others = λ k away. refl;
      };
      supported = record {
        logs_match = λ p q l m here there a b e f first. absurd (none_in p l here a e first);
        carried = λ x front a e is.
            absurd (not_empty a [] e (subst (λ (z : List Entry). IsFront z []) is front) refl);
        elected = λ q l here e inside. absurd (subst (In e) (new-left queue nodes q l here) inside);
        terms_rise = λ q l here a e front. absurd (none_in q l here a e front);
      };
      audit = front-nil [];
    }

pub again-opened : (g r : Group) (whole : List Entry) (events : List Event) → AreDistinct g.nodes → IsOpened g whole
    → r.nodes ≡ g.nodes → IsDown r → IsFront r.audit (whole_audit whole (group_after g events))
    → ((k : ℕ) (l : Lane) → IsLeft r k l → IsLeft (group_after g events) k l)
    → IsOpened r (whole_audit whole (group_after g events))
again-opened g r whole events distinct o nodes down front fewer = record {
  down = down;
  supported =
      subst (λ (ns : List NodeId). IsSupported (members_of ns) (IsLeft r) (whole_audit whole (group_after g events)))
      (sym nodes)
      (supported-fewer fewer (front-refl (whole_audit whole (group_after g events)))
      (supported-opened g whole events distinct o));
  audit = front;
}
