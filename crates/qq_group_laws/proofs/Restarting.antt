-- What a restart finds, and what it tells of a log that is lost.
use Rattle.std.proofs.Common.{◌≡◌, ℕ, true, Option, Some, None, refl, sym, ap, subst, ◌∙◌}
use Rattle.std.specs.Prelude.{slice_get}
use Rattle.std.proofs.lemmas.Bool.{false≢true}
use Rattle.qq_log.specs.Log.{LogState}
use Rattle.qq_raft_core.specs.declared.lanes.Lanes.{Lanes}
use Rattle.qq_raft_protocol.specs.World.{Lane}
use Rattle.qq_raft_model.proofs.Handing.{known-all}
use Rattle.qq_raft_model.specs.Handing.{lane_in, plain_state}
use Rattle.qq_raft.specs.declared.server.Server.{Server}
use Rattle.qq_raft_model.specs.Group.{Group as GroupState, Seat as SeatState, happens}
use Rattle.qq_raft_model.specs.Group.Event.{Restart}
use Rattle.qq_raft_model.specs.Promises.{IsLeft}
use Rattle.qq_group.specs.Group.{IsSeat, IsSeatBy, KnowsLeft, Represents}
use Rattle.qq_group.specs.Restarts.{Finds, IsFound, Restarts, is_known, noticed_at}
use Rattle.qq_group.specs.declared.group.Group.{Group}
use Rattle.qq_group.specs.declared.seat.Seat.{Seat}

-- ---- what is known

left-noticed : {Q L : Type 0} (log : L → LogState) (state : SeatState) (seat : Seat Q L) (o : Option (Lanes L))
    → KnowsLeft log state seat o → state.noticed ≡ seat.noticed
left-noticed {Q = Q} {L = L} log state seat None knows = elim knows [ ]
left-noticed log state seat (Some lanes) knows = knows.noticed

has-told : {Q L : Type 0} (log : L → LogState) (state : SeatState) (seat : Seat Q L) (o : Option (Server Q L))
    → IsSeatBy log state seat o → seat.known ≡ true → state.noticed ≡ seat.noticed
has-told log state seat None is known = left-noticed log state seat seat.left (is.1 known)
has-told log state seat (Some s) is known = is.1.noticed

pub noticed-told : {Q L : Type 0} (log : L → LogState) (state : SeatState) (o : Option (Seat Q L))
    → IsSeat log state o → is_known o ≡ true → noticed_at o ≡ state.noticed
noticed-told log state None is known = absurd (false≢true known)
noticed-told log state (Some seat) is known = sym (has-told log state seat seat.server is known)

pub known-seat : {Q L : Type 0} (o : Option (Seat Q L)) → is_known o ≡ true
    → (seat : Seat Q L) × (o ≡ Some seat) × (seat.known ≡ true)
known-seat None known = absurd (false≢true known)
known-seat (Some seat) known = (seat, refl, known)

is-known : {Q L : Type 0} (o : Option (Seat Q L)) (seat : Seat Q L) → o ≡ Some seat → seat.known ≡ true
    → is_known o ≡ true
is-known {Q = Q} {L = L} o seat there known = ap (λ (p : Option (Seat Q L)). is_known p) there ∙ known

-- ---- logs that are found

pub found : {Q L : Type 0} (log : L → LogState) (g : GroupState) (k : ℕ) (l : LogState) (old : Group Q L)
    (seat : Seat Q L) → Represents log g old → Finds log k l old → slice_get old.seats.items k ≡ Some seat
    → seat.known ≡ true → IsFound g k l
found log g k l old seat stands finds there known =
    finds g stands (is-known (slice_get old.seats.items k) seat there known)

pub left : (g : GroupState) (k : ℕ) (l : LogState) → IsFound g k l
    → (lane : Lane) × IsLeft g k lane × (lane.op ≡ l.op) × (lane.term ≡ l.term.0) × (lane.log ≡ l.entries)
left g k l is = (
  lane_in (plain_state l.op l.term l.vote l.entries),
  record {
    upto = l.op;
    noticed = is.noticed;
    handed = is.handed;
    state = plain_state l.op l.term l.vote l.entries;
    is = is.is;
    lane_is = refl;
  },
  refl,
  refl,
  known-all l.entries,
)

pub restarts : {Q L : Type 0} (log : L → LogState) (g : GroupState) (k : ℕ) (l : LogState) (old new : Group Q L)
    (seat : Seat Q L) → Represents log g old → Restarts log k l old new → slice_get old.seats.items k ≡ Some seat
    → seat.known ≡ true → Represents log (happens (Restart k l.op) g) new
restarts log g k l old new seat stands makes there known =
    makes g stands (λ unknown.
    absurd (false≢true (sym unknown ∙ is-known (slice_get old.seats.items k) seat there known)))

-- ---- what was noticed

pub has-noticed : {Q L : Type 0} (log : L → LogState) (state : SeatState) (o : Option (Seat Q L)) (seat : Seat Q L)
    (s : Server Q L) → IsSeat log state o → o ≡ Some seat → seat.server ≡ Some s
    → (seat.noticed ≡ s.raft.noticed) × (state.noticed ≡ s.raft.noticed)
has-noticed {Q = Q} {L = L} log state o seat s is there up =
    let here : IsSeatBy log state seat seat.server =
    subst (λ (p : Option (Seat Q L)). IsSeat log state p) there is in
    let has : IsSeatBy log state seat (Some s) =
    subst (λ (p : Option (Server Q L)). IsSeatBy log state seat p) up here in
    (has.2, has.1.noticed ∙ has.2)
