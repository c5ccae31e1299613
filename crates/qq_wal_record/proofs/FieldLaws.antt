-- Fields and their encodings.
use Rattle.std.proofs.Common.{◌≡◌, ℕ, zero, suc, ◌^◌, ◌<◌, ◌≤◌, Bool, true, false, cond, ltb, eqb, ◌++◌, length, Option, Some, None, Result, Ok, Err, refl, sym, ap, subst, arith, inl, inr}
use Rattle.std.specs.Prelude.{All, IfSome}
use Rattle.std.specs.Int.{w8, w64}
use Rattle.std.proofs.lemmas.Bool.{cases_Bool, ltb-false, le-ltb, eqb-true}
use Rattle.qq_base.specs.declared.ids.NodeId.{NodeId}
use Rattle.qq_entry.specs.Range.{IsWritable as IsEntry}
use Rattle.qq_command.specs.declared.refusal.Refusal.{Refusal}
use Rattle.qq_fields.specs.Writing.{u8, u64}
use Rattle.qq_log.specs.declared.limits.TheConstants.{NODE_LIMIT}
use Rattle.qq_log.specs.Writable.{IsVote, IsHead, IsSegment}
use Rattle.qq_wal_record.specs.declared.record.NoRecord.TheVariants.{Field}
use Rattle.qq_command.specs.Encoding.{entries}
use Rattle.qq_wal_record.specs.Encoding.{vote_number, vote, head, segment, segments}
use Rattle.qq_wal_record.specs.Reading.{as_field, number_at, vote_of, vote_at, head_at, segment_at, entries_at, segments_at}
use Rattle.qq_fields.proofs.Laws.{list-reads, Takes, Takes-then, Holds, Reads, here, then_ok, where_false, in_turn}
use Rattle.qq_command.specs.Reading as commands
use Rattle.qq_command.proofs.EntriesLaws as laws
use Rattle.qq_wal_record.proofs.Numbers.{u8-reads, u64-reads}

-- ---- votes

vote_is : (n : ℕ) → vote_number (vote_of n) ≡ n
vote_is n = by (eqb n 0) refl
  where
    by : (b : Bool) → eqb n 0 ≡ b → vote_number (cond b None (Some (record { 0 = n }))) ≡ n
    by true none = sym (eqb-true n 0 none)
    by false some = refl

vote_fits : (n : ℕ) → n ≤ NODE_LIMIT → IsVote (vote_of n)
vote_fits n small = by (eqb n 0) refl
  where
    some_of : (m : ℕ) → eqb m 0 ≡ false → 1 ≤ m
    some_of zero e = absurd cc
    some_of (suc m) e = omega arith

    by : (b : Bool) → eqb n 0 ≡ b
        → IfSome {T = NodeId} (cond b None (Some (record { 0 = n }))) (λ node. (1 ≤ node.0) × (node.0 ≤ NODE_LIMIT))
    by true none = tt
    by false some = (some_of n some, small)

vote_again : (by : Option NodeId) → IsVote by → (vote_of (vote_number by) ≡ by) × (vote_number by ≤ NODE_LIMIT)
vote_again None f = (refl, omega arith)
vote_again (Some node) f = (rw (some_of node.0 f.0) refl, f.1)
  where
    some_of : (m : ℕ) → 1 ≤ m → eqb m 0 ≡ false
    some_of m le = elim (cases_Bool (eqb m 0)) [
      | inl same ↦ let none : m ≡ 0 = eqb-true m 0 same in absurd (omega arith)
      | inr other ↦ other
    ]

pub vote-reads : Reads vote_at vote IsVote
unfolding vote_at
vote-reads = record {
  takes = λ bytes fits.
      then_ok (number_at w8 bytes) _ (u8-reads.takes bytes fits) (λ n p.
      where_false (ltb NODE_LIMIT n.0) _ Field (λ small.
      here _ (
        subst (λ (k : ℕ). Takes bytes (u8 k) n.1) (sym (vote_is n.0)) p.0,
        vote_fits n.0
            (ltb-false _ _ small),
      )));
  again = λ by bytes rest e f.
      let back = vote_again by f in
      in_turn _ (number_at w8 bytes) _ (u8-reads.again (vote_number by) bytes rest e (omega (arith, back.1)))
      (rw (le-ltb NODE_LIMIT (vote_number by) back.1, back.0) refl);
}

-- ---- snapshots and segments

pub head-reads : Reads head_at head IsHead
unfolding head_at head
head-reads = record {
  takes = λ bytes fits.
      then_ok (number_at w64 bytes) _ (u64-reads.takes bytes fits) (λ index p.
      then_ok (number_at w64 index.1) _ (u64-reads.takes index.1 p.0.rest_fits) (λ term q.
      then_ok (number_at w64 term.1) _ (u64-reads.takes term.1 q.0.rest_fits) (λ through r.
      here _ (Takes-then (Takes-then p.0 q.0) r.0, (p.1, q.1, r.1)))));
  again = λ h bytes rest e f.
      let split : bytes ≡ u64 h.index.0 ++ (u64 h.term.0 ++ (u64 h.through.0 ++ rest)) = e in
      in_turn _ (number_at w64 bytes) _ (u64-reads.again h.index.0 bytes _ split f.0)
      (in_turn _ (number_at w64 _) _ (u64-reads.again h.term.0 _ _ refl f.1)
      (in_turn _ (number_at w64 _) _ (u64-reads.again h.through.0 _ rest refl f.2) refl));
}

pub segment-reads : Reads segment_at segment IsSegment
unfolding segment_at segment
segment-reads = record {
  takes = λ bytes fits.
      then_ok (number_at w64 bytes) _ (u64-reads.takes bytes fits) (λ file p.
      then_ok (number_at w64 file.1) _ (u64-reads.takes file.1 p.0.rest_fits) (λ first q.
      then_ok (number_at w64 first.1) _ (u64-reads.takes first.1 q.0.rest_fits) (λ last r.
      here _ (Takes-then (Takes-then p.0 q.0) r.0, (refl, p.1, q.1, r.1)))));
  again = λ s bytes rest e f.
      let split : bytes ≡ u64 s.file ++ (u64 s.first.0 ++ (u64 s.last.0 ++ rest)) = e in
      in_turn _ (number_at w64 bytes) _ (u64-reads.again s.file bytes _ split f.1)
      (in_turn _ (number_at w64 _) _ (u64-reads.again s.first.0 _ _ refl f.2)
      (in_turn _ (number_at w64 _) _ (u64-reads.again s.last.0 _ rest refl f.3)
      (ap (λ (b : Bool). Ok (record { file = s.file; segment = b; first = s.first; last = s.last }, rest))
      (sym f.0))));
}

pub segments-reads : Reads segments_at segments (λ spans. All IsSegment spans × (length spans < 2 ^ 32))
unfolding segments_at segments
segments-reads = list-reads Field segment-reads

-- ---- entries

-- what holds of a value holds whatever the refusals are called
as_field-holds : {A : Type 0} {P : A → Type 0} (r : Result A Refusal) → Holds r P → Holds (as_field r) P
as_field-holds (Ok x) h = here x h.value
as_field-holds (Err e) h = record { value = tt }

pub entries-reads : Reads entries_at entries (λ es. All IsEntry es × (length es < 2 ^ 32))
unfolding entries_at
entries-reads = record {
  takes = λ bytes fits. as_field-holds (commands.entries_at bytes) (laws.entries-reads.takes bytes fits);
  again = λ es bytes rest e f. ap as_field (laws.entries-reads.again es bytes rest e f);
}
