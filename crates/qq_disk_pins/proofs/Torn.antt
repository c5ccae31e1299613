-- A log file without a whole header is none of those that are read.
use Rattle.std.proofs.Common.{◌≡◌, ◌≢◌, ◌⊎◌, inl, inr, ℕ, zero, suc, Bool, true, false, cond, eqb, List, [], ◌∷◌, Option, Some, None, is_some, option_map, IsTrue, All, refl, sym, ap, ◌∙◌, subst}
use Rattle.std.specs.Prelude.{Result, Ok, Err}
use Rattle.std.specs.List.{AllByRecursion}
use Rattle.std.proofs.lemmas.Bool.{cond_both, eqb-false, false≢true, ne_eqb}
use Rattle.std.proofs.lemmas.List.Elements.{All-from_recursion, recursion_from_All}
use Rattle.qq_base.specs.declared.ids.QueueId.{QueueId}
use Rattle.qq_base.proofs.Lists.{AllByRecursion-weaker}
use Rattle.qq_disk.specs.Disk.{Disk, contents}
use Rattle.qq_disk.specs.Image.{log_of}
use Rattle.qq_wal_record.specs.declared.header.Header.{Header}
use Rattle.qq_wal_record.specs.declared.header.NoHeader.{NoHeader}
use Rattle.qq_wal_record.specs.declared.header.NoHeader.TheVariants.{Short, Magic, Mark}
use Rattle.qq_wal_record.specs.Reading.{header_at}
use Rattle.qq_wal_chain.specs.Chain.{Found, Logs, add_file, chain, counts, has_header, read_file, read_on, reading, records_up_to}
use Rattle.qq_wal_chain.specs.Format.{Format}
use Rattle.qq_wal_chain.specs.Image.{files_of, shown_logs}
use Rattle.qq_wal_chain.specs.Records.{replay}
use Rattle.qq_wal_chain.specs.Wal.{wal, whole_header}
use Rattle.qq_wal.specs.Running.{IsNoneOf, numbers_in, numbers_read, top}
use Rattle.qq_recover.specs.Recovery.{IsUnread}

-- ---- the chain

module _ (F : Format) where
  -- the file isn't one of those that were found
  abbrev Skips : ℕ → Option (Found F) → Type 0
  Skips m None = Unit {0}
  Skips m (Some found) = IsNoneOf found.files m

  skips-added : (m n : ℕ) (rs : List F.Record) (o : Option (Found F)) → Skips m o → eqb m n ≡ false
      → Skips m (add_file F n rs o)
  skips-added m n rs None skips apart = tt
  skips-added m n rs (Some found) skips apart = by (replay F rs (Some found.world))
    where
      by : (w : Option F.World)
          → Skips m (option_map (λ (world : F.World). record { files = n ∷ found.files; world = world }) w)
      by None = tt
      by (Some w) = (apart, skips)

  skips-counted : (m n : ℕ) (rs : List F.Record) (o : Option (Found F)) (t : Bool) → Skips m o → eqb m n ≡ false
      → Skips m (cond t (add_file F n rs o) None)
  skips-counted m n rs o true skips apart = skips-added m n rs o skips apart
  skips-counted m n rs o false skips apart = tt

  skips-on : (older : ℕ → ℕ → Option (Found F)) (m n good : ℕ) (bytes : List ℕ) (o : Option F.Header)
      → ((p g : ℕ) → Skips m (older p g)) → (is_some o ≡ true → eqb m n ≡ false)
      → Skips m (read_on F older n good bytes o)
  skips-on older m n good bytes None each apart = tt
  skips-on older m n good bytes (Some h) each apart =
      skips-counted m n (records_up_to F n good bytes) (older (F.previous h) (F.good h)) (counts F n good bytes h)
      (each (F.previous h) (F.good h)) (apart refl)

  skips-file : (older : ℕ → ℕ → Option (Found F)) (m n good : ℕ) (o : Option (List ℕ))
      → ((p g : ℕ) → Skips m (older p g)) → (has_header F o ≡ true → eqb m n ≡ false)
      → Skips m (read_file F older n good o)
  skips-file older m n good None each apart = tt
  skips-file older m n good (Some bytes) each apart = skips-on older m n good bytes (F.read_header bytes) each apart

  chain-skips : (b : ℕ) (L : Logs) (m : ℕ) → has_header F (L m) ≡ false → (n good : ℕ) → Skips m (chain F b L n good)
  chain-skips zero L m torn n good = tt
  chain-skips (suc b) L m torn n good =
      cond_both (eqb n (suc b)) (read_file F (chain F b L) n good (L n)) (chain F b L n good) (Skips m)
      (λ _. skips-file (chain F b L) m n good (L n) (λ p g. chain-skips b L m torn p g)
      (λ headed. ne_eqb m n (λ same. false≢true (sym torn ∙ ap (λ (k : ℕ). has_header F (L k)) same ∙ headed))))
      (λ _. chain-skips b L m torn n good)

none-found : (queues : List QueueId) (m : ℕ) (o : Option (Found (wal queues))) → Skips (wal queues) m o
    → IsNoneOf (numbers_in queues o) m
none-found queues m None skips = tt
none-found queues m (Some found) skips = skips

-- ---- the disk

pub none-apart : (numbers : List ℕ) (m : ℕ) → IsNoneOf numbers m → All (λ (k : ℕ). k ≢ m) numbers
none-apart numbers m none =
    All-from_recursion (λ (k : ℕ). k ≢ m) numbers
    (AllByRecursion-weaker (λ (k : ℕ). eqb m k ≡ false) (λ (k : ℕ). k ≢ m)
    (λ k apart same. eqb-false m k apart (sym same)) numbers none)

pub apart-none : (numbers : List ℕ) (m : ℕ) → All (λ (k : ℕ). k ≢ m) numbers → IsNoneOf numbers m
apart-none numbers m apart =
    AllByRecursion-weaker (λ (k : ℕ). k ≢ m) (λ (k : ℕ). eqb m k ≡ false)
    (λ k other. ne_eqb m k (λ same. other (sym same))) numbers (recursion_from_All (λ (k : ℕ). k ≢ m) numbers apart)

no-header : (read : Result Header NoHeader)
    → (read ≡ Err Short) ⊎ ((read ≡ Err Magic) ⊎ (read ≡ Err Mark)) → is_some (whole_header read) ≡ false
no-header read (inl short) = ap (λ (r : Result Header NoHeader). is_some (whole_header r)) short
no-header read (inr (inl magic)) = ap (λ (r : Result Header NoHeader). is_some (whole_header r)) magic
no-header read (inr (inr mark)) = ap (λ (r : Result Header NoHeader). is_some (whole_header r)) mark

pub torn-unread : (queues : List QueueId) (d : Disk) (n : ℕ) (bytes : List ℕ) → contents d (log_of n) ≡ Some bytes
    → (header_at bytes ≡ Err Short) ⊎ ((header_at bytes ≡ Err Magic) ⊎ (header_at bytes ≡ Err Mark))
    → IsUnread queues d (log_of n)
torn-unread queues d n bytes here torn =
    let logs : Logs = shown_logs (files_of d) in
    let headless : has_header (wal queues) (logs n) ≡ false =
    ap (λ (o : Option (List ℕ)). has_header (wal queues) o) here ∙ no-header (header_at bytes) torn in
    record {
      kind = refl;
      listed = subst (λ (o : Option (List ℕ)). IsTrue (is_some o)) (sym here) refl;
      outside = none-found queues n (reading (wal queues) top logs).found
          (chain-skips (wal queues) top logs n headless (reading (wal queues) top logs).file
          (reading (wal queues) top logs).good);
    }
