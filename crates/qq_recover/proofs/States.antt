-- A queue's state with a record more.
use Rattle.std.proofs.Common.{◌≡◌, ◌≤◌, ◌<◌, ◌^◌, ◌+◌, ◌-◌, ℕ, zero, suc, Bool, true, false, cond, eqb, leb, ◌&&◌, List, [], ◌∷◌, ◌++◌, length, take, Option, Some, None, refl, sym, ap, subst, ◌∙◌, arith}
use Rattle.std.specs.Prelude.{map, replicate, unwrap_or, All, IfSome}
use Rattle.std.specs.List.{AllByRecursion}
use Rattle.qq_base.proofs.Lists.{AllByRecursion-append}
use Rattle.std.specs.List.{list_all}
use Rattle.std.proofs.lemmas.Bool.{and_parts, and_from, eqb-true, eq-eqb, leb-true, le-leb, lt-leb}
use Rattle.std.proofs.lemmas.List.Elements.{All-from_recursion, recursion_from_All}
use Rattle.std.proofs.lemmas.List.{map-append, take-map, length-map, length-append, length-take}
use Rattle.qq_base.specs.declared.ids.Index.{Index}
use Rattle.qq_base.specs.declared.ids.NodeId.{NodeId}
use Rattle.qq_base.specs.declared.ids.QueueId.{QueueId}
use Rattle.qq_base.specs.declared.ids.Term.{Term}
use Rattle.qq_base.specs.declared.memory.TheConstants.{NUMBER_END}
use Rattle.qq_entry.specs.declared.command.Entry.{Entry}
use Rattle.qq_entry.specs.Range.{IsWritable as IsEntry}
use Rattle.qq_log.specs.declared.head.SnapshotHead.{SnapshotHead}
use Rattle.qq_log.specs.declared.lane.Carry.{Carry}
use Rattle.qq_log.specs.declared.lane.Lane.{Lane}
use Rattle.qq_log.specs.declared.op.Op.TheVariants.{Change}
use Rattle.qq_log.specs.declared.head.Span.{Span}
use Rattle.qq_log.specs.Stable.{Stable, new_state, last_index, act, apply_op, change, carry_of, take_carry, state_of, restates}
use Rattle.qq_log.specs.Writable.{IsHeadWithinEnds, IsVote, IsSegment, IsWritableCarry}
use Rattle.qq_wal_chain.specs.Lanes.{is_within_end, is_head_within_ends, is_op_within_ends, is_carry_within_ends, is_plain}
use Rattle.qq_recover.specs.State.{known_state, IsCarried, IsSoundEntry, IsWithinEnds, state_with_op, state_with_carry}

-- ---- entries

some-to : (entries : List Entry) → AllByRecursion IsSoundEntry entries
    → AllByRecursion (λ (o : Option Entry). IfSome o IsSoundEntry) (map Some entries)
some-to [] each = tt
some-to (e ∷ entries) each = (each.0, some-to entries each.1)

pub some-from : (entries : List Entry) → AllByRecursion (λ (o : Option Entry). IfSome o IsSoundEntry) (map Some entries)
    → AllByRecursion IsSoundEntry entries
some-from [] each = tt
some-from (e ∷ entries) each = (each.0, some-from entries each.1)

first-sound : (count : ℕ) (entries : List Entry) → AllByRecursion IsSoundEntry entries
    → AllByRecursion IsSoundEntry (take count entries)
first-sound zero entries each = tt
first-sound (suc count) [] each = tt
first-sound (suc count) (e ∷ entries) each = (each.0, first-sound count entries each.1)

new-sound : (entries : List Entry) → AllByRecursion IsEntry entries
    → list_all (λ (e : Entry). is_within_end e.term.0) entries ≡ true → AllByRecursion IsSoundEntry entries
new-sound [] each within = tt
new-sound (e ∷ entries) each within =
    let both = and_parts (is_within_end e.term.0) (list_all (λ (e : Entry). is_within_end e.term.0) entries) within in
    (record { entry = each.0; term = leb-true e.term.0 NUMBER_END both.0 }, new-sound entries each.1 both.1)

both-said : (entries : List Entry) → AllByRecursion IsSoundEntry entries
    → AllByRecursion (λ (e : Entry). IsEntry e × (e.term.0 ≤ NUMBER_END)) entries
both-said [] each = tt
both-said (e ∷ entries) each = ((each.0.entry, each.0.term), both-said entries each.1)

pub sound-entries : (entries : List Entry) → All IsSoundEntry entries
    → All (λ (e : Entry). IsEntry e × (e.term.0 ≤ NUMBER_END)) entries
sound-entries entries each =
    All-from_recursion (λ (e : Entry). IsEntry e × (e.term.0 ≤ NUMBER_END)) entries
    (both-said entries (recursion_from_All IsSoundEntry entries each))

abbrev pub carry_with : QueueId → ℕ → Term → Option NodeId → SnapshotHead → ℕ → List Span → ℕ → Carry
carry_with queue op term vote base snapshot segments last =
    record {
      queue = queue;
      op = op;
      term = term;
      vote = vote;
      base = base;
      snapshot = snapshot;
      segments = segments;
      last = record { 0 = last };
    }

module _ (own_op : ℕ) (own_term : Term) (own_vote : Option NodeId) (base : SnapshotHead) (snapshot : ℕ)
    (log : List Entry) (carried : IsCarried (known_state own_op own_term own_vote base snapshot log)) (queue : QueueId)
    (op : ℕ) (term : Term) (vote : Option NodeId) (keep : Index) (entries : List Entry) (next : op ≡ own_op + 1)
    (within : is_op_within_ends (Change queue op term vote keep entries) ≡ true) where
  abbrev old : Stable
  old = known_state own_op own_term own_vote base snapshot log

  at_zero : base.index.0 ≡ 0
  at_zero = eqb-true base.index.0 0 (and_parts (eqb base.index.0 0) true (carried.plain queue)).0

  follows_so : eqb op (own_op + 1) ≡ true
  follows_so = eq-eqb op (own_op + 1) next

  pub change-fits : keep.0 ≤ length log
      → state_with_op (Some old) (Change queue op term vote keep entries)
      ≡ Some (known_state op term vote base snapshot (take keep.0 log ++ entries))
  unfolding apply_op change
  change-fits h =
      let low : leb base.index.0 keep.0 ≡ true = le-leb base.index.0 keep.0 (omega (arith, at_zero)) in
      let high : leb keep.0 (base.index.0 + length (map Some log)) ≡ true =
      le-leb keep.0 (base.index.0 + length (map Some log)) (omega (arith, length-map {A = Entry} {B = Option Entry})) in
      let kept : keep.0 - base.index.0 ≡ keep.0 = omega (arith, at_zero) in
      rw (within, follows_so, low, high, kept, take-map Some keep.0 log, sym (map-append Some (take keep.0 log) entries)) refl

  pub change-short : length log < keep.0
      → state_with_op (Some old) (Change queue op term vote keep entries) ≡ None
  unfolding apply_op change
  change-short h =
      let low : leb base.index.0 keep.0 ≡ true = le-leb base.index.0 keep.0 (omega (arith, at_zero)) in
      let high : leb keep.0 (base.index.0 + length (map Some log)) ≡ false =
      lt-leb keep.0 (base.index.0 + length (map Some log)) (omega (arith, length-map {A = Entry} {B = Option Entry}, at_zero)) in
      rw (within, follows_so, low, high) refl

  -- its carry may be written again
  pub change-carried : IsVote vote → All IsEntry entries → keep.0 ≤ length log
      → IsCarried (known_state op term vote base snapshot (take keep.0 log ++ entries))
  change-carried v each h =
      record {
        vote = v;
        within = within_so;
        plain = λ id. and_from (eqb base.index.0 0) true (eq-eqb base.index.0 0 at_zero) refl;
        entries = some-to (take keep.0 log ++ entries)
            (AllByRecursion-append IsSoundEntry (take keep.0 log) entries
            (first-sound keep.0 log (some-from log carried.entries))
            (new-sound entries (recursion_from_All IsEntry entries each)
            (and_parts (is_within_end op && is_within_end term.0 && is_within_end (keep.0 + length entries))
            (list_all (λ (e : Entry). is_within_end e.term.0) entries) within).1));
      }
    where
      new_last : ℕ
      new_last = base.index.0 + length (map Some (take keep.0 log ++ entries))

      inner : (is_within_end op && is_within_end term.0 && is_within_end (keep.0 + length entries)) ≡ true
      inner =
          (and_parts (is_within_end op && is_within_end term.0 && is_within_end (keep.0 + length entries))
          (list_all (λ (e : Entry). is_within_end e.term.0) entries) within).0

      first : (is_within_end op && is_within_end term.0) ≡ true
      first = (and_parts (is_within_end op && is_within_end term.0) (is_within_end (keep.0 + length entries)) inner).0

      count : is_within_end (keep.0 + length entries) ≡ true
      count = (and_parts (is_within_end op && is_within_end term.0) (is_within_end (keep.0 + length entries)) inner).1

      last_so : is_within_end new_last ≡ true
      last_so =
          le-leb new_last NUMBER_END
          (omega (
            arith,
            at_zero,
            leb-true (keep.0 + length entries) NUMBER_END count,
            length-map {A = Entry} {B = Option Entry},
            length-append (take keep.0 log) entries,
            length-take keep.0 log,
          ))

      within_so : (id : QueueId)
          → is_carry_within_ends (carry_of id (known_state op term vote base snapshot (take keep.0 log ++ entries))) ≡ true
      within_so id =
          let o4 = and_parts (is_within_end own_op && is_within_end own_term.0 && is_head_within_ends base && is_within_end snapshot)
          (is_within_end (base.index.0 + length (map Some log))) (carried.within id) in
          let o3 = and_parts (is_within_end own_op && is_within_end own_term.0 && is_head_within_ends base) (is_within_end snapshot) o4.0 in
          let o2 = and_parts (is_within_end own_op && is_within_end own_term.0) (is_head_within_ends base) o3.0 in
          and_from (is_within_end op && is_within_end term.0 && is_head_within_ends base && is_within_end snapshot) (is_within_end new_last)
          (and_from (is_within_end op && is_within_end term.0 && is_head_within_ends base) (is_within_end snapshot)
          (and_from (is_within_end op && is_within_end term.0) (is_head_within_ends base) first o2.1) o3.1) last_so

-- an op that isn't the next one doesn't fit
pub change-apart : (s : Stable) (queue : QueueId) (op : ℕ) (term : Term) (vote : Option NodeId) (keep : Index)
    (entries : List Entry) → is_op_within_ends (Change queue op term vote keep entries) ≡ true
    → eqb op (s.op + 1) ≡ false → state_with_op (Some s) (Change queue op term vote keep entries) ≡ None
unfolding apply_op
change-apart s queue op term vote keep entries within apart =
    ap (λ (t : Bool). cond (t && true) (apply_op s (Change queue op term vote keep entries)) None) within
    ∙ ap (λ (t : Bool). cond t (act (record s { op = op }) (Change queue op term vote keep entries)) None) apart

pub change-outside : (state : Option Stable) (queue : QueueId) (op : ℕ) (term : Term) (vote : Option NodeId)
    (keep : Index) (entries : List Entry) → is_op_within_ends (Change queue op term vote keep entries) ≡ false
    → state_with_op state (Change queue op term vote keep entries) ≡ None
change-outside state queue op term vote keep entries outside =
    ap (λ (t : Bool). cond (t && true) (apply_op (unwrap_or state new_state) (Change queue op term vote keep entries))
    None) outside

-- ---- what a state keeps

module _ (op : ℕ) (term : Term) (vote : Option NodeId) (base : SnapshotHead) (snapshot : ℕ) (entries : List Entry)
    (carried : IsCarried (known_state op term vote base snapshot entries)) where
  pub base-zero : base.index.0 ≡ 0
  base-zero = eqb-true base.index.0 0 (and_parts (eqb base.index.0 0) true (carried.plain (record { 0 = 0 }))).0

  pub last-is : length entries ≡ base.index.0 + length (map Some entries)
  last-is = omega (arith, base-zero, length-map {A = Entry} {B = Option Entry})

  pub op-within : op ≤ NUMBER_END
  op-within =
      let o4 = and_parts (is_within_end op && is_within_end term.0 && is_head_within_ends base && is_within_end snapshot)
      (is_within_end (base.index.0 + length (map Some entries))) (carried.within (record { 0 = 0 })) in
      let o3 = and_parts (is_within_end op && is_within_end term.0 && is_head_within_ends base) (is_within_end snapshot) o4.0 in
      let o2 = and_parts (is_within_end op && is_within_end term.0) (is_head_within_ends base) o3.0 in
      leb-true op NUMBER_END (and_parts (is_within_end op) (is_within_end term.0) o2.0).0

  pub carry-is : (queue : QueueId) (segments : List Span) (last : ℕ) → segments ≡ [] → last ≡ length entries
      → carry_with queue op term vote base snapshot segments last
      ≡ carry_of queue (known_state op term vote base snapshot entries)
  carry-is queue segments last none long = λ i.
      carry_with queue op term vote base snapshot (none i) ((long ∙ last-is) i)

  -- its lane is within all ends
  pub lane-within : (lane : Lane) → lane.op ≡ op → lane.term ≡ term → lane.vote ≡ vote → lane.base ≡ base
      → lane.entries ≡ entries → IsWithinEnds lane
  lane-within lane same_op same_term same_vote same_base same_entries =
      let o4 = and_parts (is_within_end op && is_within_end term.0 && is_head_within_ends base && is_within_end snapshot)
      (is_within_end (base.index.0 + length (map Some entries))) (carried.within (record { 0 = 0 })) in
      let o3 = and_parts (is_within_end op && is_within_end term.0 && is_head_within_ends base) (is_within_end snapshot) o4.0 in
      let o2 = and_parts (is_within_end op && is_within_end term.0) (is_head_within_ends base) o3.0 in
      let o1 = and_parts (is_within_end op) (is_within_end term.0) o2.0 in
      let b2 = and_parts (is_within_end base.index.0 && is_within_end base.term.0) (is_within_end base.through.0) o2.1 in
      let b1 = and_parts (is_within_end base.index.0) (is_within_end base.term.0) b2.0 in
      record {
        op = subst (λ (n : ℕ). n ≤ NUMBER_END) (sym same_op) (leb-true op NUMBER_END o1.0);
        term = subst (λ (t : Term). t.0 ≤ NUMBER_END) (sym same_term) (leb-true term.0 NUMBER_END o1.1);
        vote = subst (λ (v : Option NodeId). IsVote v) (sym same_vote) carried.vote;
        base = subst (λ (b : SnapshotHead). IsHeadWithinEnds b) (sym same_base) (
          leb-true base.index.0 NUMBER_END b1.0,
          leb-true base.term.0 NUMBER_END b1.1,
          leb-true base.through.0 NUMBER_END b2.1,
        );
        last = subst (λ (b : SnapshotHead). b.index.0 + length lane.entries ≤ NUMBER_END) (sym same_base)
            (subst (λ (es : List Entry). base.index.0 + length es ≤ NUMBER_END) (sym same_entries)
            (omega (
              arith,
              leb-true (base.index.0 + length (map Some entries)) NUMBER_END o4.1,
              length-map {A = Entry} {B = Option Entry},
            )));
        entries = subst (λ (es : List Entry). All IsSoundEntry es) (sym same_entries)
            (All-from_recursion IsSoundEntry entries (some-from entries carried.entries));
      }

-- its carry may be written
module _ (s : Stable) (queue : QueueId) (short : queue.0 < 2 ^ 32) (carried : IsCarried s) (none : s.segments ≡ []) where
  pub carry-writable : IsWritableCarry (carry_of queue s)
  carry-writable =
      let within = carried.within queue in
      let o4 = and_parts (is_within_end s.op && is_within_end s.term.0 && is_head_within_ends s.base && is_within_end s.snapshot)
      (is_within_end (last_index s)) within in
      let o3 = and_parts (is_within_end s.op && is_within_end s.term.0 && is_head_within_ends s.base) (is_within_end s.snapshot) o4.0 in
      let o2 = and_parts (is_within_end s.op && is_within_end s.term.0) (is_head_within_ends s.base) o3.0 in
      let o1 = and_parts (is_within_end s.op) (is_within_end s.term.0) o2.0 in
      let b2 = and_parts (is_within_end s.base.index.0 && is_within_end s.base.term.0) (is_within_end s.base.through.0) o2.1 in
      let b1 = and_parts (is_within_end s.base.index.0) (is_within_end s.base.term.0) b2.0 in
      record {
        queue = short;
        op = long s.op o1.0;
        term = long s.term.0 o1.1;
        vote = carried.vote;
        base = (long s.base.index.0 b1.0, long s.base.term.0 b1.1, long s.base.through.0 b2.1);
        snapshot = long s.snapshot o3.1;
        segments = subst (λ (spans : List Span). All IsSegment spans) (sym none) (All-from_recursion IsSegment [] tt);
        last = long (last_index s) o4.1;
        payload = omega (arith, ap length none);
      }
    where
      long : (n : ℕ) → is_within_end n ≡ true → n < 2 ^ 64
      long n e = omega (arith, leb-true n NUMBER_END e)

-- ---- a carry

chosen : {A : Type 0} (w p l : Bool) (x y : A) → (w && p) ≡ true → l ≡ true → cond (w && p && l) x y ≡ x
chosen true true true x y e f = refl
chosen true false l x y e f = absurd cc
chosen false p l x y e f = absurd cc
chosen w p false x y e f = absurd cc

no-items : {A : Type 0} (xs : List A) → eqb (length xs) 0 ≡ true → xs ≡ []
no-items [] e = refl
no-items (x ∷ xs) e = absurd (omega (arith, eqb-true (length (x ∷ xs)) 0 e))

module _ (c : Carry) (may : (is_carry_within_ends c && is_plain c) ≡ true) where
  plain : is_plain c ≡ true
  plain = (and_parts (is_carry_within_ends c) (is_plain c) may).1

  within : is_carry_within_ends c ≡ true
  within = (and_parts (is_carry_within_ends c) (is_plain c) may).0

  parts : (eqb c.base.index.0 0 ≡ true) × (eqb (length c.segments) 0 ≡ true)
  parts = and_parts (eqb c.base.index.0 0) (eqb (length c.segments) 0) plain

  pub first-fits : c.last.0 ≡ 0
      → state_with_carry None c ≡ Some (known_state c.op c.term c.vote c.base c.snapshot [])
  unfolding take_carry
  first-fits empty =
      let zero : c.base.index.0 ≡ 0 = eqb-true c.base.index.0 0 parts.0 in
      let low : leb c.base.index.0 c.last.0 ≡ true = le-leb c.base.index.0 c.last.0 (omega (arith, zero)) in
      let none : c.last.0 - c.base.index.0 ≡ 0 = omega (arith, empty) in
      chosen (is_carry_within_ends c) (is_plain c) (eqb c.last.0 0) (take_carry None c) None may
      (eq-eqb c.last.0 0 empty)
      ∙ ap (λ (t : Bool). cond t (Some (state_of c)) None) low
      ∙ (λ i. Some (record {
        op = c.op;
        term = c.term;
        vote = c.vote;
        base = c.base;
        snapshot = c.snapshot;
        log = replicate (none i) None;
        segments = no-items c.segments parts.1 i;
      }))

  pub first-refused : eqb c.last.0 0 ≡ false → state_with_carry None c ≡ None
  first-refused more =
      unchosen (is_carry_within_ends c) (is_plain c) (eqb c.last.0 0) (take_carry None c) None more
    where
      unchosen : {A : Type 0} (w p l : Bool) (x y : A) → l ≡ false → cond (w && p && l) x y ≡ y
      unchosen true true true x y e = absurd cc
      unchosen true true false x y e = refl
      unchosen true false l x y e = refl
      unchosen false p l x y e = refl

  pub later-fits : (s : Stable) → state_with_carry (Some s) c ≡ cond (restates c s) (Some s) None
  unfolding take_carry
  later-fits s = chosen (is_carry_within_ends c) (is_plain c) true (take_carry (Some s) c) None may refl

  pub first-carried : IsWritableCarry c → c.last.0 ≡ 0
      → IsCarried (known_state c.op c.term c.vote c.base c.snapshot [])
  first-carried writable empty =
      let zero : c.base.index.0 ≡ 0 = eqb-true c.base.index.0 0 parts.0 in
      let o4 = and_parts (is_within_end c.op && is_within_end c.term.0 && is_head_within_ends c.base && is_within_end c.snapshot)
      (is_within_end c.last.0) within in
      record {
        vote = writable.vote;
        within = λ id. and_from (is_within_end c.op && is_within_end c.term.0 && is_head_within_ends c.base && is_within_end c.snapshot)
            (is_within_end (c.base.index.0 + 0)) o4.0 (le-leb (c.base.index.0 + 0) NUMBER_END (omega (arith, zero)));
        plain = λ id. and_from (eqb c.base.index.0 0) true parts.0 refl;
        entries = tt;
      }

pub new-carried : IsCarried new_state
new-carried = record { vote = tt; within = λ id. refl; plain = λ id. refl; entries = tt }
