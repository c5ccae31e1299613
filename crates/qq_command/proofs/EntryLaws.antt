-- Entries and their encodings.
use Rattle.std.proofs.Common.{◌≡◌, ℕ, ◌+◌, ◌^◌, ◌<◌, ◌≤◌, false, ltb, eqb, List, [], ◌++◌, length, take, drop, Result, Ok, Err, refl, sym, ap, subst, ◌∙◌, arith, lit<}
use Rattle.std.specs.Prelude.{IfOk}
use Rattle.std.specs.Int.{w8, w32, w64}
use Rattle.std.proofs.lemmas.Bool.{ltb-false, le-ltb, eqb-true}
use Rattle.std.proofs.lemmas.List.{append-nil, nil_from_length, take-append-drop, length-append, take_at, length-take}
use Rattle.qq_base.specs.Fields.{AreBytes}
use Rattle.qq_base.proofs.Numbers.{AreBytes-take}
use Rattle.qq_entry.specs.declared.limits.TheConstants.{LENGTH_LIMIT}
use Rattle.qq_command.specs.declared.lengths.TheConstants.{HEAD_LEN}
use Rattle.qq_command.specs.declared.refusal.Refusal.{Refusal}
use Rattle.qq_command.specs.declared.refusal.Refusal.TheVariants.{BadField, TooLarge, Short}
use Rattle.qq_entry.specs.declared.command.Command.{Command}
use Rattle.qq_entry.specs.declared.command.Command.TheVariants.{Noop, Enqueue, Get, Subscribe, Cancel, Credit, Settle, Return, Discard, Purge, Down, DeadAttach, DeadSettle}
use Rattle.qq_entry.specs.declared.command.Entry.{Entry}
use Rattle.qq_entry.specs.Range.{IsCommand, HasContent, IsWritable}
use Rattle.qq_fields.specs.Writing.{u8, u32, u64}
use Rattle.qq_command.specs.Encoding.{kind, fields, payload, encoding}
use Rattle.qq_command.specs.Reading.{memory_of, number_at, fields_at, payload_at, entry_at, IsEntryPrefix, Gives}
use Rattle.qq_fields.proofs.Laws.{Takes, Takes-then, Holds, here, found, none_begins, then_ok, where_true, where_false, in_turn}
use Rattle.qq_command.proofs.Numbers.{u8-reads, u32-reads, u64-reads}
use Rattle.qq_command.proofs.CommandLaws.{fields_take, fields_again}
use Rattle.qq_command.proofs.ShortEncodings.{payload_len}

-- bytes that are a time and a command, and nothing else
record IsPayload (bytes : List ℕ) (x : ℕ × Command) : Type 0 where
  whole : bytes ≡ u64 x.0 ++ u8 (kind x.1) ++ fields x.1
  time : x.0 < 2 ^ 64
  range : IsCommand x.1
  content : HasContent x.1

payload_takes : (bytes : List ℕ) → AreBytes bytes → Holds (payload_at bytes) (IsPayload bytes)
unfolding payload_at
payload_takes bytes fits =
    then_ok (number_at w64 bytes) _ (u64-reads.takes bytes fits) (λ t p.
    then_ok (number_at w8 t.1) _ (u8-reads.takes t.1 p.0.rest_fits) (λ k q.
    then_ok (fields_at k.0 k.1) _ (fields_take k.0 k.1 q.0.rest_fits) (λ c r.
    where_true (eqb (length c.1) 0) (Ok (t.0, c.0)) BadField (λ ended.
    let nothing : c.1 ≡ [] = nil_from_length c.1 (eqb-true _ _ ended) in
    let named : Takes t.1 (u8 (kind c.0)) k.1 = subst (λ (n : ℕ). Takes t.1 (u8 n) k.1) (sym r.3) q.0 in
    let all : Takes bytes (u64 t.0 ++ u8 (kind c.0) ++ fields c.0) c.1 = Takes-then (Takes-then p.0 named) r.0 in
    here (t.0, c.0) (record {
      whole = all.parts
          ∙ ap (λ (x : List ℕ). (u64 t.0 ++ u8 (kind c.0) ++ fields c.0) ++ x) nothing
          ∙ append-nil (u64 t.0 ++ u8 (kind c.0) ++ fields c.0);
      time = p.1;
      range = r.1;
      content = r.2;
    })))))

kind_fits : (c : Command) → kind c < 2 ^ 8
kind_fits (Noop version) = lit< tt
kind_fits (Enqueue s o m) = lit< tt
kind_fits (Get s) = lit< tt
kind_fits (Subscribe s tag m) = lit< tt
kind_fits (Cancel s tag) = lit< tt
kind_fits (Credit s tag n m d) = lit< tt
kind_fits (Settle s tag ns) = lit< tt
kind_fits (Return s tag ns) = lit< tt
kind_fits (Discard s tag ns) = lit< tt
kind_fits (Purge s) = lit< tt
kind_fits (Down s) = lit< tt
kind_fits (DeadAttach t) = lit< tt
kind_fits (DeadSettle t ds) = lit< tt

payload_again : (e : Entry) → IsWritable e → payload_at (payload e) ≡ Ok (e.time, e.command)
unfolding payload_at payload
payload_again e f =
    let split : payload e ≡ u64 e.time ++ (u8 (kind e.command) ++ (fields e.command ++ [])) = ap
    (λ (x : List ℕ). u64 e.time ++ (u8 (kind e.command) ++ x)) (sym (append-nil (fields e.command))) in
    in_turn _ (number_at w64 (payload e)) _ (u64-reads.again e.time (payload e) _ split f.range.time)
    (in_turn _ (number_at w8 _) _ (u8-reads.again (kind e.command) _ _ refl (kind_fits e.command))
    (in_turn _ (fields_at (kind e.command) _) _ (fields_again e.command _ [] refl f.range.command f.content) refl))

entry_prefix : (bytes rest : List ℕ) (e : Entry) (n : ℕ) → bytes ≡ (u64 e.term.0 ++ u32 n) ++ rest → n ≤ length rest
    → take n rest ≡ payload e → (take (HEAD_LEN + n) bytes ≡ encoding e) × (HEAD_LEN + n ≡ length (encoding e))
unfolding encoding
entry_prefix bytes rest e n parts long is =
    let len : length (payload e) ≡ n = ap length (sym is) ∙ omega (arith, length-take n rest) in
    let split : rest ≡ payload e ++ drop n rest = sym (take-append-drop n rest)
    ∙ ap (λ (t : List ℕ). t ++ drop n rest) is in
    let all : bytes ≡ encoding e ++ drop n rest = parts ∙ ap (λ (t : List ℕ). (u64 e.term.0 ++ u32 n) ++ t) split
    ∙ ap (λ (k : ℕ). (u64 e.term.0 ++ u32 k ++ payload e) ++ drop n rest) (sym len) in
    let whole : length (encoding e) ≡ HEAD_LEN + n = omega arith in
    (ap (take (HEAD_LEN + n)) all ∙ take_at (encoding e) (drop n rest) (HEAD_LEN + n) whole, sym whole)

pub entry_takes : (bytes : List ℕ) → AreBytes bytes → Holds (entry_at bytes) (IsEntryPrefix bytes)
unfolding entry_at payload
entry_takes bytes fits =
    where_false (ltb (length bytes) HEAD_LEN) _ Short (λ headed.
    then_ok (number_at w64 bytes) _ (u64-reads.takes bytes fits) (λ term p.
    then_ok (number_at w32 term.1) _ (u32-reads.takes term.1 p.0.rest_fits) (λ len q.
    where_false (ltb LENGTH_LIMIT len.0) _ TooLarge (λ small.
    where_false (ltb (length len.1) len.0) _ Short (λ there.
    then_ok (payload_at (take len.0 len.1)) _
    (payload_takes (take len.0 len.1) (AreBytes-take len.0 len.1 q.0.rest_fits)) (λ x r.
    let e : Entry = record { term = record { 0 = term.0 }; time = x.0; command = x.1 } in
    let prefix = entry_prefix bytes len.1 e len.0 (Takes-then p.0 q.0).parts (ltb-false _ _ there) r.whole in
    here (e, HEAD_LEN + len.0)
    (record {
      writable = record {
        range = record { term = p.1; time = r.time; command = r.range };
        content = r.content;
      };
      is = prefix.0;
      len = prefix.1;
    })))))))

pub entry_again : (e : Entry) (bytes rest : List ℕ) → bytes ≡ encoding e ++ rest → IsWritable e
    → entry_at bytes ≡ Ok (e, length (encoding e))
unfolding entry_at encoding
entry_again e bytes rest is f =
    let n = length (payload e) in
    let small : n ≤ LENGTH_LIMIT = payload_len e f.range in
    let split : bytes ≡ u64 e.term.0 ++ (u32 n ++ (payload e ++ rest)) = is in
    let headed : ltb (length bytes) HEAD_LEN ≡ false = le-ltb _ _ (omega (arith, ap length split)) in
    let there : ltb (length (payload e ++ rest)) n ≡ false = le-ltb _ _
    (omega (arith, length-append (payload e) rest)) in
    rw headed
    (in_turn _ (number_at w64 bytes) _ (u64-reads.again e.term.0 bytes _ split f.range.term)
    (in_turn _ (number_at w32 _) _ (u32-reads.again n _ _ refl (omega arith))
    (rw (le-ltb LENGTH_LIMIT n small, there, take_at (payload e) rest n refl)
    (in_turn _ (payload_at (payload e)) _ (payload_again e f)
    (ap (λ (k : ℕ). Ok (e, k)) (omega arith))))))

pub is_entry_prefix : (bytes : List ℕ) (r : Result (Entry × ℕ) Refusal) → AreBytes bytes
    → Gives (λ x. x) r (entry_at bytes) → IfOk r (λ x. IsEntryPrefix bytes x)
is_entry_prefix bytes r fits given = found memory_of r (entry_at bytes) (entry_takes bytes fits) given

pub is_within : (bytes : List ℕ) (r : Result (Entry × ℕ) Refusal) → IfOk r (λ x. IsEntryPrefix bytes x)
    → IfOk r (λ x. x.1 ≤ length bytes)
is_within bytes (Ok x) found = omega (arith, ap length found.is, found.len, length-take x.1 bytes)
is_within bytes (Err e) found = tt

pub same_entry : (a b : Entry) (x y : List ℕ) → IsWritable a → IsWritable b → encoding a ++ x ≡ encoding b ++ y
    → (a ≡ b) × (x ≡ y)
same_entry a b x y f g e =
    none_begins entry_at encoding a b x y (entry_again a _ x refl f) (entry_again b _ y refl g) e
