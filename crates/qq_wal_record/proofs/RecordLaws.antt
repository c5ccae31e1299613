-- Records and their encodings.
use Rattle.std.proofs.Common.{◌≡◌, ℕ, ◌+◌, ◌^◌, ◌<◌, ◌≤◌, Bool, true, false, cond, ltb, eqb, List, [], ◌++◌, length, take, drop, Result, Ok, Err, refl, sym, ap, subst, ◌∙◌, append_assoc, arith, lit<}
use Rattle.std.specs.Prelude.{All, IfOk}
use Rattle.std.specs.Int.{w8, w32, w64}
use Rattle.std.specs.Cmp.Lexicographic.{bytes_decides}
use Rattle.std.proofs.lemmas.Bool.{ltb-false, le-ltb, eqb-true}
use Rattle.std.proofs.lemmas.List.{append-nil, nil_from_length, take-append-drop, take_at, drop_at, length-append, length-take}
use Rattle.qq_base.specs.Fields.{AreBytes}
use Rattle.qq_base.proofs.Numbers.{AreBytes-take}
use Rattle.qq_base.specs.declared.ids.QueueId.{QueueId}
use Rattle.qq_fields.specs.Writing.{u8, u32, u64}
use Rattle.qq_log.specs.declared.lane.Carry.{Carry as QueueCarry}
use Rattle.qq_log.specs.declared.op.Op.TheVariants.{Change, SnapshotMade, SegmentMade}
use Rattle.qq_log.specs.Writable.{IsLong, IsQueue, IsVote, IsHead, IsSegment, HasFields}
use Rattle.qq_wal_record.specs.declared.record.LogRecord.{LogRecord}
use Rattle.qq_wal_record.specs.declared.record.LogRecord.TheVariants.{Op, Carry}
use Rattle.qq_wal_record.specs.declared.record.NoRecord.{NoRecord}
use Rattle.qq_wal_record.specs.declared.record.NoRecord.TheVariants.{Short, Mark, Kind, Field}
use Rattle.qq_command.specs.Encoding.{entries}
use Rattle.qq_wal_record.specs.Encoding.{vote, head, segment, segments, change_payload, carry_payload, payload, inside, body, record_mark, record_encoding}
use Rattle.qq_wal_record.specs.Mark.{same_bytes}
use Rattle.qq_wal_record.specs.Reading.{memory_of, Gives, Taken, number_at, vote_at, head_at, segment_at, entries_at, segments_at, change_at, snapshot_made_at, segment_made_at, carry_at, payload_at, whole_payload_at, is_too_long, inside_at, marked_at, record_at, IsRecordAt}
use Rattle.qq_wal_record.specs.Record.{kind, queue, number, IsWritable}
use Rattle.qq_fields.proofs.Laws.{found, none_begins, Takes, Takes-then, Holds, Holds-map, here, known, then_ok, then_known, where_true, where_false, in_turn}
use Rattle.qq_wal_record.proofs.Numbers.{u8-reads, u32-reads, u64-reads}
use Rattle.qq_wal_record.proofs.FieldLaws.{vote-reads, head-reads, segment-reads, segments-reads, entries-reads}
use Rattle.qq_wal_record.proofs.Lengths.{entries_count, payload_len, payload_fits, inside_len, body_len, record_len, record_mark_len}

-- ---- payloads

-- a carry's fields
abbrev HasCarryFields : QueueCarry → Type 0
HasCarryFields c =
    IsQueue c.queue × IsLong c.op × IsLong c.term.0 × IsVote c.vote × IsHead c.base × IsLong c.snapshot × All
    IsSegment c.segments × IsLong c.last.0

abbrev HasRecordFields : LogRecord → Type 0
HasRecordFields (Op op) = HasFields op
HasRecordFields (Carry c) = HasCarryFields c

-- what is read of a payload, for a kind, a queue and an op's number
record Brings (k : ℕ) (q : QueueId) (n : ℕ) (bytes : List ℕ) (x : LogRecord × List ℕ) : Type 0 where
  takes : Takes bytes (payload x.0) x.1
  fields : HasRecordFields x.0
  kind_is : kind x.0 ≡ k
  queue_is : queue x.0 ≡ q
  number_is : number x.0 ≡ n

change_takes : (q : QueueId) (n : ℕ) → IsQueue q → IsLong n → (bytes : List ℕ) → AreBytes bytes
    → Holds (change_at q n bytes) (Brings 1 q n bytes)
unfolding change_at change_payload
change_takes q n qf nf bytes fits =
    then_ok (number_at w64 bytes) _ (u64-reads.takes bytes fits) (λ term p.
    then_ok (vote_at term.1) _ (vote-reads.takes term.1 p.0.rest_fits) (λ by v.
    then_ok (number_at w64 by.1) _ (u64-reads.takes by.1 v.0.rest_fits) (λ keep k.
    then_ok (entries_at keep.1) _ (entries-reads.takes keep.1 k.0.rest_fits) (λ es e.
    here _ (record {
      takes = Takes-then (Takes-then (Takes-then p.0 v.0) k.0) e.0;
      fields = (qf, nf, p.1, v.1, k.1, e.1.0);
      kind_is = refl;
      queue_is = refl;
      number_is = refl;
    })))))

snapshot_takes : (q : QueueId) (n : ℕ) → IsQueue q → IsLong n → (bytes : List ℕ) → AreBytes bytes
    → Holds (snapshot_made_at q n bytes) (Brings 2 q n bytes)
unfolding snapshot_made_at
snapshot_takes q n qf nf bytes fits =
    then_ok (head_at bytes) _ (head-reads.takes bytes fits) (λ h p.
    then_ok (number_at w64 h.1) _ (u64-reads.takes h.1 p.0.rest_fits) (λ file f.
    here _ (record {
      takes = Takes-then p.0 f.0;
      fields = (qf, nf, p.1, f.1);
      kind_is = refl;
      queue_is = refl;
      number_is = refl;
    })))

segment_takes : (q : QueueId) (n : ℕ) → IsQueue q → IsLong n → (bytes : List ℕ) → AreBytes bytes
    → Holds (segment_made_at q n bytes) (Brings 3 q n bytes)
unfolding segment_made_at segment
segment_takes q n qf nf bytes fits =
    then_ok (segment_at bytes) _ (segment-reads.takes bytes fits) (λ s p.
    here _ (record {
      takes = p.0;
      fields = (qf, nf, p.1.1, p.1.2, p.1.3);
      kind_is = refl;
      queue_is = refl;
      number_is = refl;
    }))

carry_takes : (q : QueueId) (n : ℕ) → IsQueue q → IsLong n → (bytes : List ℕ) → AreBytes bytes
    → Holds (carry_at q n bytes) (Brings 4 q n bytes)
unfolding carry_at carry_payload
carry_takes q n qf nf bytes fits =
    then_ok (number_at w64 bytes) _ (u64-reads.takes bytes fits) (λ term p.
    then_ok (vote_at term.1) _ (vote-reads.takes term.1 p.0.rest_fits) (λ by v.
    then_ok (head_at by.1) _ (head-reads.takes by.1 v.0.rest_fits) (λ h b.
    then_ok (number_at w64 h.1) _ (u64-reads.takes h.1 b.0.rest_fits) (λ snapshot s.
    then_ok (segments_at snapshot.1) _ (segments-reads.takes snapshot.1 s.0.rest_fits) (λ spans g.
    then_ok (number_at w64 spans.1) _ (u64-reads.takes spans.1 g.0.rest_fits) (λ last l.
    here _ (record {
      takes = Takes-then (Takes-then (Takes-then (Takes-then (Takes-then p.0 v.0) b.0) s.0) g.0) l.0;
      fields = (qf, nf, p.1, v.1, b.1, s.1, g.1.0, l.1);
      kind_is = refl;
      queue_is = refl;
      number_is = refl;
    })))))))

payload_takes : (k : ℕ) (q : QueueId) (n : ℕ) → IsQueue q → IsLong n → (bytes : List ℕ) → AreBytes bytes
    → Holds (payload_at k q n bytes) (Brings k q n bytes)
unfolding payload_at
payload_takes k q n qf nf bytes fits = by (eqb k 1) refl (eqb k 2) refl (eqb k 3) refl (eqb k 4) refl
  where
    of : (m : ℕ) (r : Taken LogRecord) → eqb k m ≡ true → Holds r (Brings m q n bytes) → Holds r (Brings k q n bytes)
    of m r is h = subst (λ (i : ℕ). Holds r (Brings i q n bytes)) (sym (eqb-true k m is)) h

    by : (a : Bool) → eqb k 1 ≡ a → (b : Bool) → eqb k 2 ≡ b → (c : Bool) → eqb k 3 ≡ c → (d : Bool) → eqb k 4 ≡ d
        → Holds (cond a (change_at q n bytes)
        (cond b (snapshot_made_at q n bytes)
        (cond c (segment_made_at q n bytes) (cond d (carry_at q n bytes) (Err Kind))))) (Brings k q n bytes)
    by true e b f c g d h = of 1 (change_at q n bytes) e (change_takes q n qf nf bytes fits)
    by false e true f c g d h = of 2 (snapshot_made_at q n bytes) f (snapshot_takes q n qf nf bytes fits)
    by false e false f true g d h = of 3 (segment_made_at q n bytes) g (segment_takes q n qf nf bytes fits)
    by false e false f false g true h = of 4 (carry_at q n bytes) h (carry_takes q n qf nf bytes fits)
    by false e false f false g false h = record { value = tt }

regroup : (a b c d rest : List ℕ) → (((a ++ b) ++ c) ++ d) ++ rest ≡ a ++ (b ++ (c ++ (d ++ rest)))
regroup a b c d rest =
    append_assoc ((a ++ b) ++ c) d rest ∙ append_assoc (a ++ b) c (d ++ rest) ∙ append_assoc a b (c ++ (d ++ rest))

payload_again : (r : LogRecord) (bytes rest : List ℕ) → bytes ≡ payload r ++ rest → IsWritable r
    → payload_at (kind r) (queue r) (number r) bytes ≡ Ok (r, rest)
unfolding payload_at change_at snapshot_made_at segment_made_at carry_at change_payload carry_payload segment
payload_again (Op (Change q n term by keep es)) bytes rest e w =
    let f = w.fields in
    let count : length es < 2 ^ 32 = omega (arith, w.payload, entries_count es) in
    let split : bytes ≡ u64 term.0 ++ (vote by ++ (u64 keep.0 ++ (entries es ++ rest))) = e in
    in_turn _ (number_at w64 bytes) _ (u64-reads.again term.0 bytes _ split f.2)
    (in_turn _ (vote_at _) _ (vote-reads.again by _ _ refl f.3)
    (in_turn _ (number_at w64 _) _ (u64-reads.again keep.0 _ _ refl f.4)
    (in_turn _ (entries_at _) _ (entries-reads.again es _ rest refl (f.5, count)) refl)))
payload_again (Op (SnapshotMade q n h file)) bytes rest e w =
    let f = w.fields in
    let split : bytes ≡ head h ++ (u64 file ++ rest) = e ∙ append_assoc (head h) (u64 file) rest in
    in_turn _ (head_at bytes) _ (head-reads.again h bytes _ split f.2)
    (in_turn _ (number_at w64 _) _ (u64-reads.again file _ rest refl f.3) refl)
payload_again (Op (SegmentMade q n file first last)) bytes rest e w =
    let f = w.fields in
    in_turn _ (segment_at bytes) _
    (segment-reads.again (record { file = file; segment = true; first = first; last = last }) bytes rest e
    (refl, f.2, f.3, f.4)) refl
payload_again (Carry c) bytes rest e w =
    let count : length c.segments < 2 ^ 32 = omega (arith, w.payload) in
    let tail : List ℕ = u64 c.last.0 ++ rest in
    let split : bytes ≡ u64 c.term.0 ++
    (vote c.vote ++ (head c.base ++ (u64 c.snapshot ++ (segments c.segments ++ tail)))) = e
    ∙ ap (λ (t : List ℕ). u64 c.term.0 ++ (vote c.vote ++ t))
    (regroup (head c.base) (u64 c.snapshot) (segments c.segments) (u64 c.last.0) rest) in
    in_turn _ (number_at w64 bytes) _ (u64-reads.again c.term.0 bytes _ split w.term)
    (in_turn _ (vote_at _) _ (vote-reads.again c.vote _ _ refl w.vote)
    (in_turn _ (head_at _) _ (head-reads.again c.base _ _ refl w.base)
    (in_turn _ (number_at w64 _) _ (u64-reads.again c.snapshot _ _ refl w.snapshot)
    (in_turn _ (segments_at _) _ (segments-reads.again c.segments _ tail refl (w.segments, count))
    (in_turn _ (number_at w64 _) _ (u64-reads.again c.last.0 _ rest refl w.last) refl)))))

-- ---- records

-- a payload and nothing else
record IsPayload (k : ℕ) (q : QueueId) (n : ℕ) (bytes : List ℕ) (r : LogRecord) : Type 0 where
  whole : bytes ≡ payload r
  fields : HasRecordFields r
  kind_is : kind r ≡ k
  queue_is : queue r ≡ q
  number_is : number r ≡ n

whole_takes : (k : ℕ) (q : QueueId) (n : ℕ) → IsQueue q → IsLong n → (bytes : List ℕ) → AreBytes bytes
    → Holds (whole_payload_at k q n bytes) (IsPayload k q n bytes)
unfolding whole_payload_at
whole_takes k q n qf nf bytes fits =
    then_ok (payload_at k q n bytes) _ (payload_takes k q n qf nf bytes fits) (λ x p.
    where_true (eqb (length x.1) 0) (Ok x.0) Field (λ ended.
    let nothing : x.1 ≡ [] = nil_from_length x.1 (eqb-true _ _ ended) in
    here x.0 (record {
      whole = p.takes.parts ∙ ap (λ (t : List ℕ). payload x.0 ++ t) nothing
          ∙ append-nil (payload x.0);
      fields = p.fields;
      kind_is = p.kind_is;
      queue_is = p.queue_is;
      number_is = p.number_is;
    })))

-- what is read behind a payload's length
record IsInside (len : ℕ) (k : ℕ) (tail : List ℕ) (r : LogRecord) : Type 0 where
  parts : tail ≡ inside r ++ drop (13 + len) tail
  long : length (payload r) ≡ len
  fields : HasRecordFields r
  kind_is : kind r ≡ k

inside_parts : (len k q n : ℕ) (tail after : List ℕ) (r : LogRecord) → tail ≡ ((u8 k ++ u32 q) ++ u64 n) ++ after
    → 13 + len ≤ length tail → IsPayload k (record { 0 = q }) n (take len after) r → IsInside len k tail r
unfolding inside
inside_parts len k q n tail after r parts there p =
    let count : length tail ≡ 13 + length after = omega (arith, ap length parts) in
    let long : length (payload r) ≡ len = omega (arith, ap length p.whole, length-take len after) in
    let behind = drop len after in
    let split : after ≡ payload r ++ behind = sym (take-append-drop len after)
    ∙ ap (λ (t : List ℕ). t ++ behind) p.whole in
    let named : tail ≡ inside r ++ behind =
    parts ∙ ap (λ (t : List ℕ). ((u8 k ++ u32 q) ++ u64 n) ++ t) split
    ∙ ap (λ (i : ℕ). ((u8 i ++ u32 q) ++ u64 n) ++ (payload r ++ behind)) (sym p.kind_is)
    ∙ ap (λ (i : QueueId). ((u8 (kind r) ++ u32 i.0) ++ u64 n) ++ (payload r ++ behind)) (sym p.queue_is)
    ∙ ap (λ (i : ℕ). ((u8 (kind r) ++ u32 (queue r).0) ++ u64 i) ++ (payload r ++ behind)) (sym p.number_is) in
    let rest : drop (13 + len) tail ≡ behind = ap (drop (13 + len)) named
    ∙ drop_at (inside r) behind (13 + len) (inside_len r ∙ ap (λ (i : ℕ). 13 + i) long) in
    record {
      parts = named ∙ ap (λ (t : List ℕ). inside r ++ t) (sym rest);
      long = long;
      fields = p.fields;
      kind_is = p.kind_is;
    }

inside_takes : (len : ℕ) (tail : List ℕ) (k : ℕ × List ℕ) → AreBytes tail → 13 + len ≤ length tail
    → number_at w8 tail ≡ Ok k → Holds (inside_at len (u32 len ++ tail)) (IsInside len k.0 tail)
unfolding inside_at
inside_takes len tail k fits there e =
    let p = known (number_at w8 tail) k (u8-reads.takes tail fits) e in
    rw e (then_ok (number_at w32 k.1) _ (u32-reads.takes k.1 p.0.rest_fits) (λ q o.
    then_ok (number_at w64 q.1) _ (u64-reads.takes q.1 o.0.rest_fits) (λ n t.
    let all : Takes tail ((u8 k.0 ++ u32 q.0) ++ u64 n.0) n.1 = Takes-then (Takes-then p.0 o.0) t.0 in
    let after : drop 17 (u32 len ++ tail) ≡ n.1 = ap (drop 13) all.parts in
    let read = whole_takes k.0 (record { 0 = q.0 }) n.0 o.1 t.1 (take len n.1)
    (AreBytes-take len n.1 all.rest_fits) in
    subst (λ (b : List ℕ). Holds (whole_payload_at k.0 (record { 0 = q.0 }) n.0 (take len b))
    (IsInside len k.0 tail)) (sym after)
    (Holds-map (whole_payload_at k.0 (record { 0 = q.0 }) n.0 (take len n.1)) read
    (λ r w. inside_parts len k.0 q.0 n.0 tail n.1 r all.parts there w)))))

writable_of : (r : LogRecord) (len : ℕ) → length (payload r) ≡ len → is_too_long (kind r) len ≡ false → len < 2 ^ 32
    → HasRecordFields r → IsWritable r
writable_of (Op (Change q n term by keep es)) len long small fits f =
    record { fields = f; payload = omega (arith, payload_len (Op (Change q n term by keep es)), ltb-false _ _ small) }
writable_of (Op (SnapshotMade q n h file)) len long small fits f = record { fields = f; payload = omega arith }
writable_of (Op (SegmentMade q n file first last)) len long small fits f =
    record { fields = f; payload = omega arith }
writable_of (Carry c) len long small fits f = record {
  queue = f.0;
  op = f.1;
  term = f.2;
  vote = f.3;
  base = f.4;
  snapshot = f.5;
  segments = f.6;
  last = f.7;
  payload = omega (arith, payload_len (Carry c));
}

-- a record's bytes, where its mark is right
at_front : (file len : ℕ) (bytes tail : List ℕ) (r : LogRecord) (k : ℕ) → bytes ≡ u32 len ++ tail
    → IsInside len k tail r → record_mark file (take (17 + len) bytes) ≡ take 8 (drop (17 + len) bytes)
    → (take (17 + len + 8) bytes ≡ record_encoding file r) × (17 + len + 8 ≡ length (record_encoding file r))
unfolding body record_encoding
at_front file len bytes tail r k is p marked =
    let behind = drop (13 + len) tail in
    let whole : bytes ≡ body r ++ behind = is ∙ ap (λ (t : List ℕ). u32 len ++ t) p.parts
    ∙ ap (λ (i : ℕ). (u32 i ++ inside r) ++ behind) (sym p.long) in
    let long : length (body r) ≡ 17 + len = body_len r ∙ ap (λ (i : ℕ). 17 + i) p.long in
    let front : take (17 + len) bytes ≡ body r = ap (take (17 + len)) whole
    ∙ take_at (body r) behind (17 + len) long in
    let rest : drop (17 + len) bytes ≡ behind = ap (drop (17 + len)) whole
    ∙ drop_at (body r) behind (17 + len) long in
    let mark : record_mark file (body r) ≡ take 8 behind = ap (record_mark file) (sym front) ∙ marked
    ∙ ap (take 8) rest in
    let all : bytes ≡ record_encoding file r ++ drop 8 behind =
    whole ∙ ap (λ (t : List ℕ). body r ++ t)
    (sym (take-append-drop 8 behind) ∙ ap (λ (t : List ℕ). t ++ drop 8 behind) (sym mark))
    ∙ sym (append_assoc (body r) (record_mark file (body r)) (drop 8 behind)) in
    let count : length (record_encoding file r) ≡ 17 + len + 8 = omega
    (arith, record_len file r, payload_len r, p.long) in
    (ap (take (17 + len + 8)) all ∙ take_at (record_encoding file r) (drop 8 behind) (17 + len + 8) count, sym count)

marked_takes : (file len : ℕ) (bytes tail : List ℕ) (k : ℕ × List ℕ) → bytes ≡ u32 len ++ tail
    → AreBytes tail → len < 2 ^ 32 → 17 + len + 8 ≤ length bytes → number_at w8 tail ≡ Ok k
    → is_too_long k.0 len ≡ false
    → Holds (marked_at file len bytes) (IsRecordAt file bytes)
unfolding marked_at
marked_takes file len bytes tail k is fits small there e short =
    where_true (same_bytes (record_mark file (take (17 + len) bytes)) (take 8 (drop (17 + len) bytes))) _ Mark
    (λ marked.
    let count : length bytes ≡ 4 + length tail = omega (arith, ap length is) in
    let read = subst (λ (b : List ℕ). Holds (inside_at len b) (IsInside len k.0 tail)) (sym is)
    (inside_takes len tail k fits (omega arith) e) in
    then_ok (inside_at len bytes) _ read (λ r p.
    let front = at_front file len bytes tail r k.0 is p ((bytes_decides _ _).0 marked) in
    here (r, 17 + len + 8) (record {
      writable = writable_of r len p.long
          (subst (λ (i : ℕ). is_too_long i len ≡ false) (sym p.kind_is) short) small p.fields;
      front = front.0;
      len = front.1;
    })))

pub record_takes : (file : ℕ) (bytes : List ℕ) → AreBytes bytes
    → Holds (record_at file bytes) (IsRecordAt file bytes)
unfolding record_at
record_takes file bytes fits =
    where_false (ltb (length bytes) 17) _ Short (λ headed.
    then_ok (number_at w32 bytes) _ (u32-reads.takes bytes fits) (λ len p.
    then_known (number_at w8 len.1) _ (λ k e.
    where_false (is_too_long k.0 len.0) _ Short (λ short.
    where_false (ltb (length bytes) (17 + len.0 + 8)) _ Short (λ there.
    marked_takes file len.0 bytes len.1 k p.0.parts p.0.rest_fits p.1 (ltb-false _ _ there) e short)))))

kind_fits : (r : LogRecord) → kind r < 2 ^ 8
kind_fits (Op (Change q n term by keep es)) = lit< tt
kind_fits (Op (SnapshotMade q n h file)) = lit< tt
kind_fits (Op (SegmentMade q n file first last)) = lit< tt
kind_fits (Carry c) = lit< tt

not_too_long : (r : LogRecord) → IsWritable r → is_too_long (kind r) (length (payload r)) ≡ false
not_too_long (Op (Change q n term by keep es)) w =
    le-ltb _ _ (omega (arith, w.payload, payload_len (Op (Change q n term by keep es))))
not_too_long (Op (SnapshotMade q n h file)) w = le-ltb _ _ (omega (arith, payload_len (Op (SnapshotMade q n h file))))
not_too_long (Op (SegmentMade q n file first last)) w =
    le-ltb _ _ (omega (arith, payload_len (Op (SegmentMade q n file first last))))
not_too_long (Carry c) w = refl

queue_fits : (r : LogRecord) → IsWritable r → IsQueue (queue r) × IsLong (number r)
queue_fits (Op (Change q n term by keep es)) w = (w.fields.0, w.fields.1)
queue_fits (Op (SnapshotMade q n h file)) w = (w.fields.0, w.fields.1)
queue_fits (Op (SegmentMade q n file first last)) w = (w.fields.0, w.fields.1)
queue_fits (Carry c) w = (w.queue, w.op)

-- the record's bytes, with what follows its payload
laid : LogRecord → List ℕ → List ℕ
laid r after =
    u32 (length (payload r)) ++ (u8 (kind r) ++ (u32 (queue r).0 ++ (u64 (number r) ++ (payload r ++ after))))

laid_body : (r : LogRecord) (after : List ℕ) → laid r after ≡ body r ++ after
unfolding laid body inside
laid_body r after = refl

inside_again : (r : LogRecord) (after : List ℕ) → IsWritable r
    → inside_at (length (payload r)) (laid r after) ≡ Ok r
unfolding inside_at laid whole_payload_at
inside_again r after w =
    let fits = queue_fits r w in
    in_turn _ (number_at w8 _) _ (u8-reads.again (kind r) _ _ refl (kind_fits r))
    (in_turn _ (number_at w32 _) _ (u32-reads.again (queue r).0 _ _ refl fits.0)
    (in_turn _ (number_at w64 _) _ (u64-reads.again (number r) _ _ refl fits.1)
    (rw (take_at (payload r) after (length (payload r)) refl)
    (in_turn _ (payload_at (kind r) (queue r) (number r) (payload r)) _
    (payload_again r (payload r) [] (sym (append-nil (payload r))) w) refl))))

marked_again : (file : ℕ) (r : LogRecord) (rest : List ℕ) → IsWritable r
    → marked_at file (length (payload r)) (laid r (record_mark file (body r) ++ rest)) ≡ Ok
    (r, 17 + length (payload r) + 8)
unfolding marked_at
marked_again file r rest w =
    let n = length (payload r) in
    let mark = record_mark file (body r) in
    let bytes = laid r (mark ++ rest) in
    let front : take (17 + n) bytes ≡ body r = ap (take (17 + n)) (laid_body r (mark ++ rest))
    ∙ take_at (body r) (mark ++ rest) (17 + n) (body_len r) in
    let back : drop (17 + n) bytes ≡ mark ++ rest = ap (drop (17 + n)) (laid_body r (mark ++ rest))
    ∙ drop_at (body r) (mark ++ rest) (17 + n) (body_len r) in
    let marks : take 8 (drop (17 + n) bytes) ≡ mark = ap (take 8) back
    ∙ take_at mark rest 8 (record_mark_len file (body r)) in
    let same : same_bytes (record_mark file (take (17 + n) bytes)) (take 8 (drop (17 + n) bytes)) ≡
    true = (bytes_decides _ _).1 (ap (record_mark file) front ∙ sym marks) in
    rw same (in_turn _ (inside_at n bytes) _ (inside_again r (mark ++ rest) w) refl)

pub record_again : (file : ℕ) (r : LogRecord) (bytes rest : List ℕ)
    → bytes ≡ record_encoding file r ++ rest → IsWritable r
    → record_at file bytes ≡ Ok (r, length (record_encoding file r))
unfolding record_at record_encoding laid
record_again file r bytes rest is w =
    let n = length (payload r) in
    let mark = record_mark file (body r) in
    let split : bytes ≡ laid r (mark ++ rest) = is ∙ append_assoc (body r) mark rest
    ∙ sym (laid_body r (mark ++ rest)) in
    let count : length (laid r (mark ++ rest)) ≡ 17 + n + 8 + length rest = omega
    (arith, length-append (payload r) (mark ++ rest), length-append mark rest, record_mark_len file (body r)) in
    let headed : ltb (length (laid r (mark ++ rest))) 17 ≡ false = le-ltb _ _ (omega arith) in
    let there : ltb (length (laid r (mark ++ rest))) (17 + n + 8) ≡ false = le-ltb _ _ (omega arith) in
    ap (record_at file) split ∙
    rw headed
    (in_turn _ (number_at w32 (laid r (mark ++ rest))) _ (u32-reads.again n _ _ refl (payload_fits r w))
    (in_turn _ (number_at w8 _) _ (u8-reads.again (kind r) _ _ refl (kind_fits r))
    (rw (not_too_long r w, there)
    (marked_again file r rest w ∙ ap (λ (k : ℕ). Ok (r, k)) (omega (arith, record_len file r, payload_len r))))))

pub is_found : (file : ℕ) (bytes : List ℕ) (r : Result (LogRecord × ℕ) NoRecord) → AreBytes bytes
    → Gives (λ x. x) r (record_at file bytes) → IfOk r (λ x. IsRecordAt file bytes x)
is_found file bytes r fits given = found memory_of r (record_at file bytes) (record_takes file bytes fits) given

pub record_alone : (file : ℕ) (bytes : List ℕ) (x : LogRecord × ℕ) → AreBytes bytes
    → record_at file bytes ≡ Ok x → IsRecordAt file bytes x
record_alone file bytes x fits e = known (record_at file bytes) x (record_takes file bytes fits) e

pub is_within : (file : ℕ) (bytes : List ℕ) (r : Result (LogRecord × ℕ) NoRecord)
    → IfOk r (λ x. IsRecordAt file bytes x) → IfOk r (λ x. x.1 ≤ length bytes)
is_within file bytes (Ok x) found = omega (arith, ap length found.front, found.len, length-take x.1 bytes)
is_within file bytes (Err e) found = tt

pub same_record : (file : ℕ) (a b : LogRecord) (x y : List ℕ) → IsWritable a → IsWritable b
    → record_encoding file a ++ x ≡ record_encoding file b ++ y → (a ≡ b) × (x ≡ y)
same_record file a b x y f g e =
    none_begins (record_at file) (record_encoding file) a b x y (record_again file a _ x refl f)
    (record_again file b _ y refl g) e

pub is_read : {read wanted : Result (LogRecord × ℕ) NoRecord} (r : Result (LogRecord × ℕ) NoRecord) → read ≡ wanted
    → Gives (λ x. x) r read → Gives (λ x. x) r wanted
is_read r e given = subst (λ (x : Result (LogRecord × ℕ) NoRecord). Gives (λ y. y) r x) e given
