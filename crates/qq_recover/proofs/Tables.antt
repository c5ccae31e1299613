-- Rows of queues, as lanes.
use Rattle.std.proofs.Common.{◌≡◌, ℕ, Bool, true, false, cond, eqb, ◌&&◌, ◌||◌, List, [], ◌∷◌, ◌++◌, Ok, Err, Option, Some, None, option_map, is_some, refl, sym, ap, ◌∙◌, is_eq, nat_cmp, arith}
use Rattle.std.specs.Prelude.{unwrap_or}
use Rattle.std.proofs.lemmas.Bool.Decides.{nat_tests}
use Rattle.qq_base.specs.declared.ids.QueueId.{QueueId}
use Rattle.qq_log.specs.Carries.{is_listed}
use Rattle.qq_log.specs.declared.lane.Carry.{Carry}
use Rattle.qq_log.specs.declared.op.Op.{Op}
use Rattle.qq_log.specs.Op.{queue}
use Rattle.qq_log.specs.Stable.{Stable, new_state, apply_op, take_carry}
use Rattle.qq_wal_record.specs.declared.record.LogRecord.TheVariants.{Op as OpRecord, Carry as CarryRecord}
use Rattle.qq_wal_chain.specs.Image.{put}
use Rattle.qq_wal_chain.specs.Lanes.{Lanes, is_op_within_ends, is_carry_within_ends, is_change, is_plain, has_entries, put_lane, add_record}
use Rattle.qq_disk.specs.Image.{log_of}
use Rattle.qq_recover.specs.declared.fault.RecoverFault.TheVariants.{Damaged}
use Rattle.qq_recover.specs.declared.file.ChainFile.{ChainFile}
use Rattle.qq_recover.specs.Answer.{Answer, ◌>>=◌, or_refuse}
use Rattle.qq_recover.specs.Placed.{Placed}
use Rattle.qq_recover.specs.Replay.{replay_records, replay_files}
use Rattle.qq_recover.specs.State.{state_with_op, state_with_carry}
use Rattle.qq_recover.specs.Table.{Rows, set_row, state_in, Fit}

pub same_number : (n m : ℕ) → is_eq (nat_cmp n m) ≡ eqb n m
same_number n m = grind (arith, nat_tests)

abbrev pub lanes_in : Rows → Lanes
lanes_in rows = λ id. state_in (rows id)

pub lanes-set : (rows : Rows) (id : ℕ) (state : Option Stable)
    → lanes_in (set_row rows id (Some state)) ≡ put (lanes_in rows) id state
lanes-set rows id state = λ i k. (by (eqb id k) (is_eq (nat_cmp id k)) (same_number id k) (rows k)) i
  where
    by : (same t : Bool) → t ≡ same → (row : Option (Option Stable))
        → state_in (cond t (Some state) row) ≡ cond same state (state_in row)
    by true true e row = refl
    by false false e row = refl
    by true false e row = absurd cc
    by false true e row = absurd cc

pub listed-set : (rows : Rows) (id k : ℕ) (state : Option Stable) → is_some (rows id) ≡ true
    → is_some (set_row rows id (Some state) k) ≡ is_some (rows k)
listed-set rows id k state here = by (is_eq (nat_cmp id k)) refl
  where
    by : (t : Bool) → is_eq (nat_cmp id k) ≡ t → is_some (cond t (Some state) (rows k)) ≡ is_some (rows k)
    by true e = sym (ap (λ (n : ℕ). is_some (rows n)) (sym (grind (arith, nat_tests, e))) ∙ here)
    by false e = refl

-- ---- a record more

module _ (queues : List QueueId) (rows : Rows) (id : QueueId) (listed : is_some (rows id.0) ≡ is_listed queues id) where
  -- a queue that isn't listed takes no record
  pub unlisted : rows id.0 ≡ None → is_listed queues id ≡ false
  unlisted none = sym listed ∙ ap is_some none

  pub is-listed : (row : Option Stable) → rows id.0 ≡ Some row → is_listed queues id ≡ true
  is-listed row here = sym listed ∙ ap is_some here

-- what a lane and all lanes get
abbrev pub put_state : Lanes → ℕ → Option Stable → Option Lanes
put_state lanes id given = option_map (λ s. put lanes id (Some s)) given

pub op-unlisted : (queues : List QueueId) (op : Op) (lanes : Lanes) → is_listed queues (queue op) ≡ false
    → add_record queues (OpRecord op) lanes ≡ None
op-unlisted queues op lanes e =
    ap (λ (t : Bool). cond (t && is_op_within_ends op && is_change op) (put_lane lanes (queue op)
    (apply_op (unwrap_or (lanes (queue op).0) new_state) op)) None) e

pub op-added : (queues : List QueueId) (op : Op) (lanes : Lanes) (row : Option Stable)
    → is_listed queues (queue op) ≡ true → lanes (queue op).0 ≡ row
    → add_record queues (OpRecord op) lanes ≡ put_state lanes (queue op).0 (state_with_op row op)
op-added queues op lanes row listed here =
    ap (λ (t : Bool). cond (t && is_op_within_ends op && is_change op) (put_lane lanes (queue op)
    (apply_op (unwrap_or (lanes (queue op).0) new_state) op)) None) listed
    ∙ ap (λ (o : Option Stable). cond (is_op_within_ends op && is_change op) (put_lane lanes (queue op)
    (apply_op (unwrap_or o new_state) op)) None) here
    ∙ by (is_op_within_ends op && is_change op)
  where
    by : (t : Bool) → cond t (put_lane lanes (queue op) (apply_op (unwrap_or row new_state) op)) None
        ≡ put_state lanes (queue op).0 (cond t (apply_op (unwrap_or row new_state) op) None)
    by true = refl
    by false = refl

pub carry-unlisted : (queues : List QueueId) (c : Carry) (lanes : Lanes) → is_listed queues c.queue ≡ false
    → add_record queues (CarryRecord c) lanes ≡ None
carry-unlisted queues c lanes e =
    ap (λ (t : Bool). cond (t && is_carry_within_ends c && is_plain c && has_entries (lanes c.queue.0) c)
    (put_lane lanes c.queue (take_carry (lanes c.queue.0) c)) None) e

pub carry-added : (queues : List QueueId) (c : Carry) (lanes : Lanes) (row : Option Stable)
    → is_listed queues c.queue ≡ true → lanes c.queue.0 ≡ row
    → add_record queues (CarryRecord c) lanes ≡ put_state lanes c.queue.0 (state_with_carry row c)
carry-added queues c lanes row listed here =
    ap (λ (t : Bool). cond (t && is_carry_within_ends c && is_plain c && has_entries (lanes c.queue.0) c)
    (put_lane lanes c.queue (take_carry (lanes c.queue.0) c)) None) listed
    ∙ ap (λ (o : Option Stable). cond (is_carry_within_ends c && is_plain c && has_entries o c)
    (put_lane lanes c.queue (take_carry o c)) None) here
    ∙ by (is_carry_within_ends c && is_plain c && has_entries row c)
  where
    by : (t : Bool) → cond t (put_lane lanes c.queue (take_carry row c)) None
        ≡ put_state lanes c.queue.0 (cond t (take_carry row c) None)
    by true = refl
    by false = refl

-- ---- a row for each queue

pub listed-more : (rows new : Rows) (q : QueueId) (queues : List QueueId) (id : QueueId)
    → new ≡ set_row rows q.0 (Some None)
    → (is_some (new id.0) || is_listed queues id) ≡ (is_some (rows id.0) || is_listed (q ∷ queues) id)
listed-more rows new q queues id e =
    ap (λ (rows : Rows). is_some (rows id.0) || is_listed queues id) e
    ∙ by (is_eq (nat_cmp q.0 id.0)) (eqb q.0 id.0) (same_number q.0 id.0) (rows id.0)
  where
    by : (t same : Bool) → t ≡ same → (row : Option (Option Stable))
        → (is_some (cond t (Some None) row) || is_listed queues id) ≡ (is_some row || (same || is_listed queues id))
    by true true e None = refl
    by true true e (Some row) = refl
    by false false e None = refl
    by false false e (Some row) = refl
    by true false e row = absurd cc
    by false true e row = absurd cc

pub empty-more : (rows new : Rows) (q : ℕ) (k : ℕ) → new ≡ set_row rows q (Some None) → state_in (rows k) ≡ None
    → state_in (new k) ≡ None
empty-more rows new q k e empty =
    ap (λ (rows : Rows). state_in (rows k)) e ∙ by (is_eq (nat_cmp q k))
  where
    by : (t : Bool) → state_in (cond t (Some None) (rows k)) ≡ None
    by true = refl
    by false = empty

-- ---- records that are replayed

pub fit-of : (t : Bool) (given : Option Lanes) (new : Lanes) → t ≡ true → Fit t given new → given ≡ Some new
fit-of true given new e h = h
fit-of false given new e h = absurd cc

pub replay-one : (queues : List QueueId) (n : ℕ) (r : Placed) (rs : List Placed) (lanes new : Lanes)
    → add_record queues r.entry lanes ≡ Some new
    → replay_records queues n (r ∷ rs) lanes ≡ replay_records queues n rs new
replay-one queues n r rs lanes new e =
    ap (λ (o : Option Lanes). or_refuse (Damaged (log_of n) r.place) o >>= replay_records queues n rs) e

pub replay-last : (queues : List QueueId) (files : List ChainFile) (file : ChainFile) (lanes : Lanes)
    → replay_files queues (files ++ file ∷ []) lanes
    ≡ (replay_records queues file.number file.records lanes >>= replay_files queues files)
replay-last queues [] file lanes = by (replay_records queues file.number file.records lanes)
  where
    by : (o : Answer Lanes) → o ≡ (o >>= replay_files queues [])
    by (Ok lanes) = refl
    by (Err e) = refl
replay-last queues (newer ∷ files) file lanes =
    ap (λ (o : Answer Lanes). o >>= replay_records queues newer.number newer.records)
    (replay-last queues files file lanes)
    ∙ by (replay_records queues file.number file.records lanes)
  where
    by : (o : Answer Lanes)
        → ((o >>= replay_files queues files) >>= replay_records queues newer.number newer.records)
        ≡ (o >>= replay_files queues (newer ∷ files))
    by (Ok lanes) = refl
    by (Err e) = refl
