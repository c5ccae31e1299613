-- A group that is opened over logs: its members' disks are a start of the protocol.
use Rattle.std.proofs.Common.{◌≡◌, ◌⊎◌, ℕ, zero, suc, ◌+◌, ◌≤◌, ◌<◌, Bool, true, false, cond, List, [], ◌∷◌, ◌++◌, length, take, Option, Some, None, refl, sym, ap, subst, ◌∙◌, append-nil, arith, inl, inr}
use Rattle.std.specs.Prelude.{nat_le, option_map, if◌then◌else◌}
use Rattle.std.proofs.lemmas.Bool.{cases_eq, cases_lt, leb-true, le-leb, true≢false}
use Rattle.std.proofs.lemmas.List.{nil_from_length, take_all}
use Rattle.qq_base.proofs.Fronts.{front-length, front-refl, front-take}
use Rattle.qq_entry.specs.declared.command.Entry.{Entry}
use Rattle.qq_log.specs.declared.op.Op.{Op}
use Rattle.qq_log.specs.Stable.{Stable, stable}
use Rattle.qq_raft_protocol.specs.Facts.{In}
use Rattle.qq_raft_protocol.specs.Starts.{IsStart, WasThere}
use Rattle.qq_raft_protocol.specs.World.{Lane, Member, lanes, no_lane, start_world}
use Rattle.qq_raft_protocol.proofs.Fewer.{supported-fewer}
use Rattle.qq_raft_model.specs.Handing.{lane_in, plain_state}
use Rattle.qq_raft_model.specs.Refines.{number}
use Rattle.qq_raft_model.specs.State.{Server}
use Rattle.qq_raft_model.proofs.Handing.{known-all}
use Rattle.qq_raft_model.specs.Group.{Group, Seat}
use Rattle.qq_raft_model.specs.Promises.{IsDown, IsLeft, IsOpened, IsPlain, WasLeft, members_of}
use Rattle.qq_raft_model.proofs.Happening.{none_some}
use Rattle.qq_raft_model.proofs.Tied.{HasLane, Tied, pending}

-- ---- the members

abbrev lane_from : Option Stable → Lane
lane_from None = no_lane
lane_from (Some state) = lane_in state

-- what a log may be left with that lost one of its ops up to a number
abbrev older_by : List Op → ℕ → ℕ → List Lane
older_by ops noticed zero = []
older_by ops noticed (suc n) =
    if nat_le noticed n then lane_from (stable (take n ops)) ∷ older_by ops noticed n else older_by ops noticed n

abbrev member_of : Seat → Member
member_of seat = record {
  mine = lane_from (stable seat.ops);
  older = older_by seat.ops seat.noticed (length seat.ops);
  noticed = seat.noticed;
}

abbrev pub members_in : Group → ℕ → Member
members_in g k = member_of (g.seat k)

-- a lane, and how many ops came to it
record AtOp (ops : List Op) (noticed below : ℕ) (l : Lane) : Type 0 where
  upto : ℕ
  late : noticed ≤ upto
  under : upto < below
  is : l ≡ lane_from (stable (take upto ops))

abbrev at-later : {ops : List Op} {noticed n : ℕ} {l : Lane} → AtOp ops noticed n l → AtOp ops noticed (n + 1) l
at-later {n = n} x =
    let lt : x.upto < n = x.under in
    record { upto = x.upto; late = x.late; under = omega (arith, lt); is = x.is }

older-at_by : (ops : List Op) (noticed n : ℕ) (l : Lane) (b : Bool) → nat_le noticed n ≡ b
    → (In l (older_by ops noticed n) → AtOp ops noticed n l)
    → In l (cond b (lane_from (stable (take n ops)) ∷ older_by ops noticed n) (older_by ops noticed n))
    → AtOp ops noticed (n + 1) l
older-at_by ops noticed n l true e rest here = elim here [
  | inl same ↦ record { upto = n; late = leb-true noticed n e; under = omega arith; is = same }
  | inr later ↦ at-later (rest later)
]
older-at_by ops noticed n l false e rest here = at-later (rest here)

older-at : (ops : List Op) (noticed n : ℕ) (l : Lane) → In l (older_by ops noticed n) → AtOp ops noticed n l
older-at ops noticed zero l here = absurd here
older-at ops noticed (suc n) l here =
    let one : n + 1 ≡ suc n = omega arith in
    subst (λ (m : ℕ). AtOp ops noticed m l) one
    (older-at_by ops noticed n l (nat_le noticed n) refl (older-at ops noticed n l) here)

lane-at : (seat : Seat) (l : Lane) → seat.noticed ≤ length seat.ops → In l (lanes (member_of seat))
    → AtOp seat.ops seat.noticed (length seat.ops + 1) l
lane-at seat l late here = elim here [
  | inl mine ↦
      record {
        upto = length seat.ops;
        late = late;
        under = omega arith;
        is =
            mine
            ∙ ap (λ (ops : List Op). lane_from (stable ops))
            (sym (take_all (length seat.ops) seat.ops (omega arith)));
      }
  | inr older ↦ at-later (older-at seat.ops seat.noticed (length seat.ops) l older)
]

older-there_by : (ops : List Op) (noticed n i : ℕ) (b : Bool) → nat_le noticed n ≡ b → noticed ≤ i
    → (i ≡ n) ⊎ In (lane_from (stable (take i ops))) (older_by ops noticed n)
    → In (lane_from (stable (take i ops)))
    (cond b (lane_from (stable (take n ops)) ∷ older_by ops noticed n) (older_by ops noticed n))
older-there_by ops noticed n i true e late (inl same) =
    inl (ap (λ (j : ℕ). lane_from (stable (take j ops))) same)
older-there_by ops noticed n i true e late (inr later) = inr later
older-there_by ops noticed n i false e late (inl same) =
    absurd (true≢false (sym (le-leb noticed n (omega (arith, late, same))) ∙ e))
older-there_by ops noticed n i false e late (inr later) = later

older-there : (ops : List Op) (noticed n i : ℕ) → noticed ≤ i → i < n
    → In (lane_from (stable (take i ops))) (older_by ops noticed n)
older-there ops noticed zero i late under = absurd (omega (arith, under))
older-there ops noticed (suc n) i late under =
    older-there_by ops noticed n i (nat_le noticed n) refl late (elim (cases_eq i n) [
      | inl same ↦ inl same
      | inr other ↦ inr (older-there ops noticed n i late (omega (arith, under, other)))
    ])

lane-there : (seat : Seat) (i : ℕ) → seat.noticed ≤ i → i ≤ length seat.ops
    → In (lane_from (stable (take i seat.ops))) (lanes (member_of seat))
lane-there seat i late within = elim (cases_lt i (length seat.ops)) [
  | inl lt ↦ inr (older-there seat.ops seat.noticed (length seat.ops) i late lt)
  | inr le ↦ inl (ap (λ (ops : List Op). lane_from (stable ops)) (take_all i seat.ops le))
]

-- ---- what a lane of them is

lane-op : {n : ℕ} {ops : List Op} → IsPlain n ops → (lane_from (stable ops)).op ≡ n
lane-op p = ap (λ (o : Option Stable). (lane_from o).op) p.is

plain-at : {g : Group} (k : ℕ) (l : Lane) (d : IsDown g)
    → (x : AtOp (g.seat k).ops (g.seat k).noticed (length (g.seat k).ops + 1) l)
    → IsPlain x.upto (take x.upto (g.seat k).ops)
plain-at {g = g} k l d x =
    let lt : x.upto < length (g.seat k).ops + 1 = x.under in
    d.plain k x.upto x.late (omega (arith, lt))

at-left : {g : Group} (k : ℕ) (l : Lane) → IsDown g
    → AtOp (g.seat k).ops (g.seat k).noticed (length (g.seat k).ops + 1) l → IsLeft g k l
at-left {g = g} k l d x =
    let p = plain-at k l d x in
    let lt : x.upto < length (g.seat k).ops + 1 = x.under in
    record {
      upto = x.upto;
      noticed = x.late;
      handed = omega (arith, lt);
      state = plain_state x.upto p.term p.vote p.log;
      is = p.is;
      lane_is = x.is ∙ ap lane_from p.is;
    }

pub lane-left : {g : Group} (k : ℕ) (l : Lane) → IsDown g → In l (lanes (members_in g k)) → IsLeft g k l
lane-left {g = g} k l d here = at-left k l d (lane-at (g.seat k) l (d.noticed k) here)

-- ops that aren't there leave no entry
no-log : (n : ℕ) (ops : List Op) → ops ≡ [] → (lane_from (stable (take n ops))).log ≡ []
no-log n ops none_left =
    ap (λ (l : List Op). (lane_from (stable l)).log)
    (nil_from_length (take n ops) (omega (arith, front-length (front-take n ops), ap length none_left)))

-- ---- the start

pub opened-start : {g : Group} {whole : List Entry} → IsOpened g whole
    → IsStart (members_of g.nodes) (members_in g) whole
opened-start {g} {whole} o =
    let d = o.down in
    record {
      noticed = λ q l here.
          let x = lane-at (g.seat q) l (d.noticed q) here in
          let late : (g.seat q).noticed ≤ x.upto = x.late in
          let op : l.op ≡ x.upto = ap (λ (y : Lane). y.op) x.is ∙ lane-op (plain-at q l d x) in
          omega (arith, late, op);
      older = λ q l here.
          let x = older-at (g.seat q).ops (g.seat q).noticed (length (g.seat q).ops) l here in
          let lt : x.upto < length (g.seat q).ops = x.under in
          let at = at-later x in
          let op : l.op ≡ x.upto = ap (λ (y : Lane). y.op) x.is ∙ lane-op (plain-at q l d at) in
          let all : IsPlain (length (g.seat q).ops) (take (length (g.seat q).ops) (g.seat q).ops) =
          d.plain q (length (g.seat q).ops) (d.noticed q) (omega arith) in
          let own : (lane_from (stable (g.seat q).ops)).op ≡ length (g.seat q).ops =
          ap (λ (ops : List Op). (lane_from (stable ops)).op)
          (sym (take_all (length (g.seat q).ops) (g.seat q).ops (omega arith))) ∙ lane-op all in
          omega (arith, op, lt, own);
      others = λ q away l here.
          let x = lane-at (g.seat q) l (d.noticed q) here in
          ap (λ (y : Lane). y.log) x.is ∙ no-log x.upto (g.seat q).ops (d.others q away);
      supported = supported-fewer (λ q l here. lane-left q l d here) (front-refl whole) o.supported;
    }

nothing-pending : (o : Option Server) → o ≡ None → pending o ≡ []
nothing-pending None e = refl
nothing-pending (Some s) e = absurd (none_some s (sym e))

has-lane : (g : Group) (k n : ℕ) → IsDown g → (g.seat k).noticed ≤ n → n ≤ length (g.seat k).ops
    → HasLane (members_in g k) n (take n (g.seat k).ops)
has-lane g k n d late within =
    let p = d.plain k n late within in
    let with_log : List Entry → Lane =
    λ (log : List Entry). record { op = n; term = p.term.0; vote = option_map number p.vote; log = log } in
    let is : lane_from (stable (take n (g.seat k).ops)) ≡ with_log p.log =
    ap lane_from p.is ∙ ap with_log (known-all p.log) in
    record {
      term = p.term;
      vote = p.vote;
      log = p.log;
      is = p.is;
      here =
          subst (λ (l : Lane). In l (lanes (members_in g k))) is (lane-there (g.seat k) n late within);
    }

pub opened-tied : (g : Group) (whole : List Entry) → IsOpened g whole
    → Tied g.nodes g (start_world (members_in g) whole)
opened-tied g whole o =
    let d = o.down in
    record {
      reached = record {
        member = members_in g;
        audit = whole;
        start = opened-start o;
        moves = [];
        allowed = tt;
        is = refl;
      };
      nodes_are = refl;
      seats = λ k.
          let ops = (g.seat k).ops in
          let all : ops ++ pending (g.seat k).server ≡ ops =
          ap (λ (l : List Op). ops ++ l) (nothing-pending (g.seat k).server (d.down k)) ∙ append-nil ops in
          record {
            up = λ s e. absurd (none_some s (sym (d.down k) ∙ e));
            lanes = λ n late within.
                subst (λ (l : List Op). HasLane (members_in g k) n (take n l)) (sym all)
                (has-lane g k n d late (omega (arith, within, ap length all)));
          };
      bag = λ r here. absurd (subst (In r) d.bag here);
      audit = o.audit;
    }

-- where an entry of the start comes from
pub was-left : {g : Group} {whole : List Entry} {a : List Entry} {e : Entry} → IsOpened g whole
    → WasThere (members_of g.nodes) (members_in g) a e → WasLeft g a e
was-left o x = record {
  node = x.node;
  member = x.inside;
  lane = x.lane;
  left = lane-left x.node x.lane o.down x.here;
  front = x.front;
}
