-- What a notice and a crash make of the states that a group stands for.
use Rattle.std.proofs.Common.{◌≡◌, ◌⊎◌, ℕ, ◌-◌, ◌≤◌, Bool, true, false, cond, leb, length, Option, Some, None, refl, sym, ap, subst, arith, inl, inr}
use Rattle.std.specs.Prelude.{is_some, if◌then◌else◌, slice_get}
use Rattle.std.proofs.lemmas.Bool.{false≢true, le-leb, ltb-false}
use Rattle.qq_base.specs.Fronts.{put}
use Rattle.qq_base.proofs.Puts.{put-each}
use Rattle.qq_log.specs.Log.{LogState}
use Rattle.qq_log.specs.declared.op.Op.{Op}
use Rattle.qq_raft_model.specs.Server.{Input}
use Rattle.qq_raft.specs.declared.server.Server.{Server}
use Rattle.qq_raft_model.specs.Group.{Group as GroupState, Seat as SeatState, feed, feed_by, happens}
use Rattle.qq_raft_model.specs.Group.Event.{Crash, Notice}
use Rattle.qq_group.specs.Events.{lacks_by, lacks_op, notices}
use Rattle.qq_group.specs.Follows.{Follows, Makes, OthersStay}
use Rattle.qq_raft_core.specs.declared.lanes.Lanes.{Lanes}
use Rattle.qq_group.specs.Group.{IsSeat, IsSeatBy, KnowsLeft, Represents, server_at, server_by}
use Rattle.qq_group.specs.Handing.{held}
use Rattle.qq_group.specs.declared.group.Group.{Group}
use Rattle.qq_group.specs.declared.seat.Seat.{Seat}

-- ---- notices

-- the input changes nothing, or the op was handed
cond-fed : (b : Bool) (fed g : GroupState) → (b ≡ true) ⊎ (fed ≡ g) → fed ≡ cond b fed g
cond-fed true fed g h = refl
cond-fed false fed g (inl is) = absurd (false≢true is)
cond-fed false fed g (inr same) = same

held-by : (o : Option Op) (n : ℕ) → (if is_some o then n - 1 else n) ≤ n
held-by None n = omega arith
held-by (Some op) n = omega arith

fed-by : {Q L : Type 0} (log : L → LogState) (g : GroupState) (k op : ℕ) (seat : Seat Q L) (o : Option (Server Q L))
    → IsSeatBy log (g.seat k) seat o → lacks_by op (Some (record seat { server = o })) ≡ false
    → (leb op (length (g.seat k).ops) ≡ true) ⊎ (feed k (Input.Notice op) g ≡ g)
fed-by log g k op seat None is lacks = inr (ap (λ s. feed_by k (Input.Notice op) s g) is.0)
fed-by log g k op seat (Some s) is lacks =
    let within = held-by seat.returned seat.handed in
    inl (le-leb op (length (g.seat k).ops) (omega (arith, ltb-false (held seat) op lacks, within, is.1.handed)))

fed-seat : {Q L : Type 0} (log : L → LogState) (g : GroupState) (k op : ℕ) (o : Option (Seat Q L))
    → IsSeat log (g.seat k) o → lacks_by op o ≡ false
    → (leb op (length (g.seat k).ops) ≡ true) ⊎ (feed k (Input.Notice op) g ≡ g)
fed-seat log g k op None is lacks = inr (ap (λ s. feed_by k (Input.Notice op) s g) is)
fed-seat log g k op (Some seat) is lacks = fed-by log g k op seat seat.server is lacks

pub notice-fed : {Q L : Type 0} (log : L → LogState) (g : GroupState) (k op : ℕ) (group : Group Q L)
    → Represents log g group → lacks_op k op group ≡ false → feed k (Input.Notice op) g ≡ happens (Notice k op) g
notice-fed log g k op group r lacks =
    cond-fed (leb op (length (g.seat k).ops)) (feed k (Input.Notice op) g) g
    (fed-seat log g k op (slice_get group.seats.items k) (r.seats k) lacks)

pub notice-lacks : {Q L : Type 0} (log : L → LogState) (k op : ℕ) (lacks : Bool) (old new : Group Q L)
    → lacks ≡ true → new ≡ old → Follows log (notices k op lacks) old new
notice-lacks log k op lacks old new is same = λ g reached r.
    subst (λ b. Represents log (notices k op b g) new) (sym is) (subst (Represents log g) (sym same) r)

-- ---- crashes

crashed-by : {Q L : Type 0} (log : L → LogState) (state : SeatState) (seat : Seat Q L)
    → IsSeatBy log state seat None → IsSeatBy log (record state { server = None }) seat None
crashed-by {Q = Q} {L = L} log state seat is = (refl, λ known. by seat.left (is.1 known))
  where
    by : (o : Option (Lanes L)) → KnowsLeft log state seat o → KnowsLeft log (record state { server = None }) seat o
    by None knows = elim knows [ ]
    by (Some lanes) knows =
        record { noticed = knows.noticed; handed = knows.handed; leads = knows.leads }

crashed-seat : {Q L : Type 0} (log : L → LogState) (state : SeatState) (o : Option (Seat Q L)) → IsSeat log state o
    → server_by o ≡ None → IsSeat log (record state { server = None }) o
crashed-seat log state None is down = refl
crashed-seat log state (Some seat) is down =
    subst (IsSeatBy log (record state { server = None }) seat) (sym down)
    (crashed-by log state seat (subst (IsSeatBy log state seat) down is))

-- a member that is down crashes as it is
pub down-crashes : {Q L : Type 0} (log : L → LogState) (k : ℕ) (old new : Group Q L) → new ≡ old
    → server_at k old ≡ None → Makes log (happens (Crash k)) old new
down-crashes {Q = Q} {L = L} log k old new same down = λ g r.
    let state : SeatState = record { server = None; ops = (g.seat k).ops; noticed = (g.seat k).noticed } in
    subst (Represents log (record g { seat = put k state g.seat })) (sym same)
    (record {
      queue = r.queue;
      nodes = r.nodes;
      bag = r.bag;
      audit = r.audit;
      seats = put-each (λ i x. IsSeat log x (slice_get old.seats.items i)) k state g.seat
          (crashed-seat log (g.seat k) (slice_get old.seats.items k) (r.seats k) down) (λ i other. r.seats i);
    })

pub same-others : {Q L : Type 0} (k : ℕ) (old new : Group Q L) → new ≡ old → OthersStay k old new
same-others k old new same = λ q other. ap (λ x. slice_get x.seats.items q) same
