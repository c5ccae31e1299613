-- A file of the chain, from its header and its records.
use Rattle.std.proofs.Common.{◌≡◌, ◌<◌, ℕ, Bool, true, false, cond, eqb, not, List, Option, Some, None, Ok, Err, refl, sym, ap, ◌∙◌}
use Rattle.std.proofs.lemmas.Bool.{eqb-true, eq-eqb, ne_eqb}
use Rattle.qq_base.specs.declared.ids.QueueId.{QueueId}
use Rattle.qq_disk.specs.Image.{log_of}
use Rattle.qq_wal_record.specs.declared.header.Header.{Header}
use Rattle.qq_wal_record.specs.declared.record.LogRecord.{LogRecord}
use Rattle.qq_wal_record.specs.Reading.{header_at}
use Rattle.qq_wal_chain.specs.Format.{IsFormat}
use Rattle.qq_wal_chain.specs.Chain.{records_up_to}
use Rattle.qq_wal_chain.specs.Wal.{wal}
use Rattle.qq_recover.specs.declared.fault.RecoverFault.{RecoverFault}
use Rattle.qq_recover.specs.declared.fault.RecoverFault.TheVariants.{Disk, Memory, Damaged, Version}
use Rattle.qq_recover.specs.Answer.{Answer, ◌>>=◌, Fails}
use Rattle.qq_recover.specs.Files.{header_of, file_of, ends_at, file_at, good_end, is_short, counted_file}
use Rattle.qq_recover.proofs.Records.{counted, good-is}

-- a refusal of a first part is one of the whole
pub fails-then : {A B : Type 0} (e : RecoverFault) (first : Answer A) (more : A → Answer B) → Fails e first
    → Fails e (first >>= more)
fails-then Disk first more h = tt
fails-then (Memory m) first more h = tt
fails-then {A} {B} (Damaged file place) first more h = ap (λ (o : Answer A). o >>= more) h
fails-then {A} {B} (Version file byte) first more h = ap (λ (o : Answer A). o >>= more) h

module _ (queues : List QueueId) (laws : IsFormat (wal queues)) (n : ℕ) (some : 0 < n) (bytes : List ℕ) where
  pub refused : (good : Option ℕ) (e : RecoverFault) → Fails e (header_of n (header_at bytes))
      → Fails e (file_at queues n (good_end queues n good bytes) bytes)
  unfolding file_at
  refused good e h =
      fails-then e (header_of n (header_at bytes))
      (λ (h : Header). ends_at (good_end queues n good bytes) h
      (file_of queues n (records_up_to (wal queues) n (good_end queues n good bytes) bytes))) h

  -- where the header counts it is a matter of where the records end
  pub whole : (good : Option ℕ) (h : Header) → header_of n (header_at bytes) ≡ Ok h
      → file_at queues n (good_end queues n good bytes) bytes
      ≡ ends_at (good_end queues n good bytes) h (counted_file queues n good bytes)
  unfolding file_at
  whole good h e =
      ap (λ (o : Answer Header). o >>= λ h. ends_at (good_end queues n good bytes) h
      (file_of queues n (records_up_to (wal queues) n (good_end queues n good bytes) bytes))) e
      ∙ ap (λ (l : List LogRecord). ends_at (good_end queues n good bytes) h (file_of queues n l))
      (counted queues laws n good bytes some)

  abbrev end_in : Option ℕ → ℕ
  end_in good = (counted_file queues n good bytes).end

  pub ended : (good : Option ℕ) (h : Header) → is_short good (counted_file queues n good bytes).end ≡ false
      → ends_at (good_end queues n good bytes) h (counted_file queues n good bytes)
      ≡ Ok (h, counted_file queues n good bytes)
  ended good h fits =
      ap (λ (t : Bool). cond t (Ok (h, counted_file queues n good bytes)) (Err (Damaged (log_of n) (end_in good))))
      (by good fits)
    where
      not-not : (t : Bool) → not t ≡ false → t ≡ true
      not-not true e = refl
      not-not false e = absurd cc

      by : (good : Option ℕ) → is_short good (end_in good) ≡ false → eqb (end_in good) (good_end queues n good bytes) ≡ true
      by None fits = eq-eqb (end_in None) (good_end queues n None bytes) (sym (good-is queues laws n bytes some))
      by (Some good) fits =
          eq-eqb (end_in (Some good)) good
          (sym (eqb-true good (end_in (Some good)) (not-not (eqb good (end_in (Some good))) fits)))

  pub unended : (good : Option ℕ) (h : Header) → is_short good (counted_file queues n good bytes).end ≡ true
      → ends_at (good_end queues n good bytes) h (counted_file queues n good bytes)
      ≡ Err (Damaged (log_of n) (counted_file queues n good bytes).end)
  unended None h fits = absurd cc
  unended (Some good) h fits =
      ap (λ (t : Bool). cond t (Ok (h, counted_file queues n (Some good) bytes)) (Err (Damaged (log_of n) (end_in (Some good)))))
      (ne_eqb (end_in (Some good)) good
      (λ same. absurd (let e : true ≡ false = sym fits ∙ ap not (eq-eqb good (end_in (Some good)) (sym same)) in cc)))
