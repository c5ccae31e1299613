-- When the logs of a group that is down support an audit, each log being noticed as far as it goes.
use Rattle.std.proofs.Common.{◌≡◌, ℕ, ◌+◌, Bool, true, false, cond, List, [], ◌∷◌, length, take, Option, Some, None, refl, sym, ap, subst, ◌∙◌, arith}
use Rattle.std.specs.Prelude.{fold, option_map}
use Rattle.std.proofs.lemmas.Bool.{eqb-true}
use Rattle.std.proofs.lemmas.List.{take_all}
use Rattle.qq_base.specs.Fronts.{IsFront}
use Rattle.qq_base.specs.declared.ids.NodeId.{NodeId}
use Rattle.qq_base.specs.declared.ids.Term.{Term}
use Rattle.qq_base.proofs.Fronts.{front-nil, front-refl}
use Rattle.qq_entry.specs.declared.command.Entry.{Entry}
use Rattle.qq_log.specs.declared.op.Op.{Op}
use Rattle.qq_log.specs.declared.op.Op.TheVariants.{Change, SnapshotMade, SegmentMade}
use Rattle.qq_log.specs.Op.{number as op_number}
use Rattle.qq_log.specs.Stable.{Stable, new_state, follows, may_keep, may_rebase, has_range, change, rebase, add_segment, act, apply_op, then_apply, apply_ops, stable}
use Rattle.qq_raft_protocol.specs.Facts.{In}
use Rattle.qq_raft_protocol.specs.World.{Lane}
use Rattle.qq_raft_protocol.proofs.Fewer.{supported-fewer}
use Rattle.qq_raft_model.specs.Group.{Group as GroupState}
use Rattle.qq_raft_model.specs.Handing.{lane_in, plain_state}
use Rattle.qq_raft_model.specs.Promises.{IsDown, IsLeft, IsOpened, IsPlain, members_of}
use Rattle.qq_raft_model.specs.Refines.{number}
use Rattle.qq_raft_model.proofs.Handing.{known-all}
use Rattle.qq_agree.specs.Support.{HaveAll, SupportAudit}

-- ---- the number of a state's last op is the count of its ops

-- what a test lets through
chosen : (b : Bool) (x u : Stable) → cond b (Some x) None ≡ Some u → u.op ≡ x.op
chosen true x u is = let same : x ≡ u = cc in ap (λ (t : Stable). t.op) (sym same)
chosen false x u is = absurd cc

act-op : (s u : Stable) (op : Op) → act s op ≡ Some u → u.op ≡ s.op
unfolding change rebase add_segment
act-op s u (Change queue op term vote keep entries) is =
    chosen (may_keep s keep.0) (change s term vote keep.0 entries) u is
act-op s u (SnapshotMade queue op head file) is = chosen (may_rebase s head) (rebase s head file) u is
act-op s u (SegmentMade queue op file first last) is =
    chosen (has_range s first.0 last.0) (add_segment s file first last) u is

apply_op-count : (s u : Stable) (op : Op) → apply_op s op ≡ Some u → u.op ≡ s.op + 1
unfolding apply_op
apply_op-count s u op is = by (follows s (op_number op)) refl is
  where
    by : (b : Bool) → follows s (op_number op) ≡ b
        → cond b (act (record s { op = op_number op }) op) None ≡ Some u → u.op ≡ s.op + 1
    by true next made = act-op (record s { op = op_number op }) u op made ∙ eqb-true (op_number op) (s.op + 1) next
    by false next made = absurd cc

apply_ops-none : (ops : List Op) → fold then_apply None ops ≡ None
apply_ops-none [] = refl
apply_ops-none (op ∷ ops) = apply_ops-none ops

apply_ops-count : (ops : List Op) (s u : Stable) → apply_ops s ops ≡ Some u → u.op ≡ s.op + length ops
apply_ops-count [] s u is = let same : s ≡ u = cc in omega (arith, ap (λ (t : Stable). t.op) same)
apply_ops-count (op ∷ ops) s u is =
    by (apply_op s op) refl (λ t rest. apply_ops-count ops t u rest) is
  where
    by : (o : Option Stable) → apply_op s op ≡ o
        → ((t : Stable) → apply_ops t ops ≡ Some u → u.op ≡ t.op + length ops)
        → fold then_apply o ops ≡ Some u → u.op ≡ s.op + length (op ∷ ops)
    by None first count rest = absurd (cc (sym (apply_ops-none ops) ∙ rest))
    by (Some t) first count rest = omega (arith, count t rest, apply_op-count s t op first)

pub ops-count : (ops : List Op) (s : Stable) → stable ops ≡ Some s → s.op ≡ length ops
ops-count ops s is = omega (arith, apply_ops-count ops new_state s is)

-- ---- the one lane of a log

-- what a member's ops come to, and the lane of that
pub record IsLog (ops : List Op) (lane : Lane) : Type 0 where
  pub term : Term
  pub vote : Option NodeId
  pub log : List Entry
  pub is : stable ops ≡ Some (plain_state (length ops) term vote log)
  pub lane_is : lane ≡ record { op = length ops; term = term.0; vote = option_map number vote; log = log }

plain-lane : (op : ℕ) (term : Term) (vote : Option NodeId) (log : List Entry)
    → lane_in (plain_state op term vote log)
    ≡ record { op = op; term = term.0; vote = option_map number vote; log = log }
plain-lane op term vote log =
    ap (λ (es : List Entry). let l : Lane =
    record { op = op; term = term.0; vote = option_map number vote; log = es } in l) (known-all log)

pub log-of : (ops : List Op) (op : ℕ) (term : Term) (vote : Option NodeId) (log : List Entry)
    → stable ops ≡ Some (plain_state op term vote log)
    → IsLog ops (record { op = op; term = term.0; vote = option_map number vote; log = log })
log-of ops op term vote log is =
    let count : op ≡ length ops = ops-count ops (plain_state op term vote log) is in
    record {
      term = term;
      vote = vote;
      log = log;
      is = is ∙ ap (λ (n : ℕ). Some (plain_state n term vote log)) count;
      lane_is = ap (λ (n : ℕ). let l : Lane =
          record { op = n; term = term.0; vote = option_map number vote; log = log } in l) count;
    }

pub no-log : (ops : List Op) → ops ≡ []
    → IsLog ops (record { op = 0; term = 0; vote = None; log = [] })
no-log ops none =
    log-of ops 0 (record { 0 = 0 }) None [] (ap stable none)

left-lane : (g : GroupState) (k : ℕ) (lane l : Lane) → (g.seat k).noticed ≡ length (g.seat k).ops
    → IsLog (g.seat k).ops lane → IsLeft g k l → l ≡ lane
left-lane g k lane l noticed log left =
    let ops : List Op = (g.seat k).ops in
    let upto : left.upto ≡ length ops = omega (arith, noticed, left.noticed, left.handed) in
    let all : take left.upto ops ≡ ops = take_all left.upto ops (omega (arith, upto)) in
    let both : Some left.state ≡ Some (plain_state (length ops) log.term log.vote log.log) =
    sym left.is ∙ (ap stable all ∙ log.is) in
    let same : left.state ≡ plain_state (length ops) log.term log.vote log.log = cc both in
    left.lane_is ∙ (ap lane_in same ∙ (plain-lane (length ops) log.term log.vote log.log ∙ sym log.lane_is))

lane-left : (g : GroupState) (k : ℕ) (lane : Lane) → (g.seat k).noticed ≡ length (g.seat k).ops
    → IsLog (g.seat k).ops lane → IsLeft g k lane
lane-left g k lane noticed log =
    let ops : List Op = (g.seat k).ops in
    record {
      upto = length ops;
      noticed = omega (arith, noticed);
      handed = omega arith;
      state = plain_state (length ops) log.term log.vote log.log;
      is = ap stable (take_all (length ops) ops (omega arith)) ∙ log.is;
      lane_is = log.lane_is ∙ sym (plain-lane (length ops) log.term log.vote log.log);
    }

-- ---- of all members

-- all members are down, and each log is noticed as far as it goes, and is the lane of its node
pub record AreLogs (g : GroupState) (lane : ℕ → Lane) : Type 0 where
  pub down : (k : ℕ) → (g.seat k).server ≡ None
  pub bag : g.bag ≡ []
  pub audit : g.audit ≡ []
  pub noticed : (k : ℕ) → (g.seat k).noticed ≡ length (g.seat k).ops
  pub each : (k : ℕ) → IsLog (g.seat k).ops (lane k)
  pub others : (k : ℕ) → (In k (members_of g.nodes) → ⊥) → (g.seat k).ops ≡ []

plain-log : (ops : List Op) (n : ℕ) (lane : Lane) → n ≡ length ops → IsLog ops lane → IsPlain n (take n ops)
plain-log ops n lane same log = record {
  term = log.term;
  vote = log.vote;
  log = log.log;
  is = ap stable (take_all n ops (omega (arith, same)))
      ∙ (log.is ∙ ap (λ (m : ℕ). Some (plain_state m log.term log.vote log.log)) (sym same));
}

all-down : (g : GroupState) (lane : ℕ → Lane) → AreLogs g lane → IsDown g
all-down g lane logs = record {
  down = logs.down;
  bag = logs.bag;
  noticed = λ k. omega (arith, logs.noticed k);
  plain = λ k n late within. (let all = logs.noticed k in
      plain-log (g.seat k).ops n (lane k) (omega (arith, all, late, within)) (logs.each k));
  others = logs.others;
}

pub have-all : (g : GroupState) (lane : ℕ → Lane) → AreLogs g lane → HaveAll g.nodes lane
have-all g lane logs k away =
    let none : (g.seat k).ops ≡ [] = logs.others k away in
    let log = logs.each k in
    let both : Some new_state ≡ Some (plain_state (length (g.seat k).ops) log.term log.vote log.log) =
    sym (ap stable none) ∙ log.is in
    let same : plain_state (length (g.seat k).ops) log.term log.vote log.log ≡ new_state = cc both in
    ap (λ (l : Lane). l.log) log.lane_is ∙ (sym (known-all log.log) ∙ ap (λ (s : Stable). (lane_in s).log) same)

pub agree-opened : (g : GroupState) (lane : ℕ → Lane) → AreLogs g lane → SupportAudit g.nodes lane → IsOpened g []
agree-opened g lane logs support = record {
  down = all-down g lane logs;
  supported = supported-fewer (λ q l left. left-lane g q (lane q) l (logs.noticed q) (logs.each q) left) (front-refl [])
      support;
  audit = subst (λ (x : List Entry). IsFront x []) (sym logs.audit) (front-refl []);
}

pub opened-agree : (g : GroupState) (lane : ℕ → Lane) (whole : List Entry) → AreLogs g lane → IsOpened g whole
    → SupportAudit g.nodes lane
opened-agree g lane whole logs opened =
    supported-fewer (λ q l is. subst (IsLeft g q) (sym is) (lane-left g q (lane q) (logs.noticed q) (logs.each q)))
    (front-nil whole) opened.supported
