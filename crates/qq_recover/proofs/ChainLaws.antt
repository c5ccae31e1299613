-- The files of the chain, and what they come to, are what the chain is.
use Rattle.std.proofs.Common.{◌≡◌, ◌≤◌, ◌<◌, ◌+◌, ℕ, zero, suc, Bool, true, false, cond, eqb, ltb, ◌&&◌, List, [], ◌∷◌, length, Option, Some, None, Result, Ok, Err, refl, sym, ap, subst, ◌∙◌, arith, inl, inr, ◌⊎◌}
use Rattle.std.proofs.lemmas.Bool.{cases_eq, cases_lt, eq-eqb, ne_eqb}
use Rattle.qq_base.specs.declared.ids.QueueId.{QueueId}
use Rattle.qq_wal_record.specs.declared.header.Header.{Header}
use Rattle.qq_wal_record.specs.declared.header.NoHeader.{NoHeader}
use Rattle.qq_wal_record.specs.declared.header.NoHeader.TheVariants.{Short, Magic, Mark, Version}
use Rattle.qq_wal_record.specs.declared.record.LogRecord.{LogRecord}
use Rattle.qq_wal_record.specs.Encoding.{record_encoding}
use Rattle.qq_wal_record.specs.Reading.{header_at}
use Rattle.qq_wal_chain.specs.Records.{end_of, replay}
use Rattle.qq_wal_chain.specs.Chain.{Logs, Found, records_up_to, add_file, read_on, read_file, chain, newest, good_length, reading}
use Rattle.qq_wal_chain.specs.Promise.{found_world}
use Rattle.qq_wal_chain.specs.Lanes.{Lanes, add_record}
use Rattle.qq_wal_chain.specs.Wal.{wal, whole_header, no_lanes}
use Rattle.qq_recover.specs.declared.file.ChainFile.{ChainFile}
use Rattle.qq_recover.specs.Answer.{Answer, ◌>>=◌, or_refuse, answered}
use Rattle.qq_recover.specs.Placed.{Placed, placed}
use Rattle.qq_recover.specs.Files.{header_of, file_of, ends_at, file_at, chain_file, chain_files}
use Rattle.qq_recover.specs.Replay.{replay_records, replay_files}
use Rattle.qq_disk.specs.Image.{log_of}
use Rattle.qq_wal_chain.specs.Format.{IsFormat}
use Rattle.qq_wal_chain.proofs.Replays.{replay-none}
use Rattle.qq_wal_chain.proofs.Running.{world-added}
use Rattle.qq_recover.specs.declared.fault.RecoverFault.TheVariants.{Damaged}
use Rattle.qq_wal.specs.Running.{top}
use Rattle.qq_recover.specs.Reading.{lanes_read}

-- a file, and those behind it
abbrev with_older : (ℕ → ℕ → Answer (List ChainFile)) → Header × ChainFile → Answer (List ChainFile)
with_older older file = older file.0.previous file.0.good >>= λ files. Ok (file.1 ∷ files)

module _ (queues : List QueueId) (laws : IsFormat (wal queues)) where
  -- ---- records

  -- with their places they come to what they come to without
  pub replayed : (n place : ℕ) (rs : List LogRecord) (lanes : Lanes)
      → answered (replay_records queues n (placed n place rs) lanes) ≡ replay (wal queues) rs (Some lanes)
  replayed n place [] lanes = refl
  replayed n place (r ∷ rs) lanes = by (add_record queues r lanes)
      (λ next. replayed n (place + length (record_encoding n r)) rs next)
    where
      later : List Placed
      later = placed n (place + length (record_encoding n r)) rs

      by : (o : Option Lanes)
          → ((next : Lanes) → answered (replay_records queues n later next) ≡ replay (wal queues) rs (Some next))
          → answered (or_refuse (Damaged (log_of n) place) o >>= replay_records queues n later)
          ≡ replay (wal queues) rs o
      by None later = sym (replay-none (wal queues) rs)
      by (Some next) later = later next

  -- ---- the chain

  -- what files come to
  abbrev lanes_after : Answer (List ChainFile) → Option Lanes
  lanes_after files = answered (files >>= λ fs. replay_files queues fs no_lanes)

  -- a file more
  more-replayed : (n : ℕ) (rs : List LogRecord) (older : Answer (List ChainFile)) (found : Option (Found (wal queues)))
      → lanes_after older ≡ found_world (wal queues) found
      → lanes_after (older >>= λ files. Ok (file_of queues n rs ∷ files))
      ≡ found_world (wal queues) (add_file (wal queues) n rs found)
  more-replayed n rs (Err e) None h = refl
  more-replayed n rs (Err e) (Some found) h = absurd cc
  more-replayed n rs (Ok files) found h = by (replay_files queues files no_lanes) found h
    where
      by : (o : Answer Lanes) (found : Option (Found (wal queues)))
          → answered o ≡ found_world (wal queues) found
          → answered (o >>= replay_records queues n (placed n 38 rs))
          ≡ found_world (wal queues) (add_file (wal queues) n rs found)
      by (Err e) None h = refl
      by (Err e) (Some found) h = absurd cc
      by (Ok lanes) None h = absurd cc
      by (Ok lanes) (Some found) h =
          replayed n 38 rs lanes
          ∙ ap (λ (w : Option Lanes). replay (wal queues) rs w) h
          ∙ sym (world-added (wal queues) laws n rs found)

  module _ (n good : ℕ) (bytes : List ℕ) (older : ℕ → ℕ → Answer (List ChainFile))
      (chain_back : ℕ → ℕ → Option (Found (wal queues)))
      (same : (p g : ℕ) → lanes_after (older p g) ≡ found_world (wal queues) (chain_back p g)) where
    abbrev rs : List LogRecord
    rs = records_up_to (wal queues) n good bytes

    abbrev end : ℕ
    end = end_of (wal queues) n rs

    on-header : (h : Header) (number back : Bool)
        → lanes_after ((cond (number && back) (Ok h) (Err (Damaged (log_of n) 0)) >>= λ h. ends_at good h (file_of queues n rs))
        >>= with_older older)
        ≡ found_world (wal queues) (cond (number && (back && eqb end good)) (add_file (wal queues) n rs (chain_back h.previous h.good)) None)
    on-header h false back = refl
    on-header h true false = refl
    on-header h true true = by (eqb end good)
      where
        by : (t : Bool)
            → lanes_after (cond {A = Answer (Header × ChainFile)} t (Ok (h, file_of queues n rs)) (Err (Damaged (log_of n) end))
            >>= with_older older)
            ≡ found_world (wal queues) (cond t (add_file (wal queues) n rs (chain_back h.previous h.good)) None)
        by false = refl
        by true = more-replayed n rs (older h.previous h.good) (chain_back h.previous h.good) (same h.previous h.good)

    on-read : (o : Result Header NoHeader) → 0 < n
        → lanes_after ((header_of n o >>= λ h. ends_at good h (file_of queues n rs))
        >>= with_older older)
        ≡ found_world (wal queues) (read_on (wal queues) chain_back n good bytes (whole_header o))
    unfolding header_of
    on-read (Ok h) p = on-header h (eqb h.file n) (ltb h.previous n)
    on-read (Err Short) p = refl
    on-read (Err Magic) p = refl
    on-read (Err Mark) p = refl
    on-read (Err (Version byte)) p =
        sym (ap (λ (t : Bool). found_world (wal queues) (cond (t && (ltb 0 n && eqb end good)) (add_file (wal queues) n rs (chain_back 0 0)) None))
        (ne_eqb 0 n (λ e. absurd (omega arith))))

  same-file : (n good : ℕ) (o : Option (List ℕ)) (older : ℕ → ℕ → Answer (List ChainFile))
      (chain_back : ℕ → ℕ → Option (Found (wal queues))) → 0 < n
      → ((p g : ℕ) → lanes_after (older p g) ≡ found_world (wal queues) (chain_back p g))
      → lanes_after (chain_file queues older n good o) ≡ found_world (wal queues) (read_file (wal queues) chain_back n good o)
  unfolding file_at
  same-file n good None older chain_back p same = refl
  same-file n good (Some bytes) older chain_back p same = on-read n good bytes older chain_back same (header_at bytes) p

  -- the files of the chain come to what the chain comes to
  pub same-chain : (b : ℕ) (logs : Logs) (n good : ℕ)
      → lanes_after (chain_files queues b logs n good) ≡ found_world (wal queues) (chain (wal queues) b logs n good)
  same-chain zero logs n good = refl
  same-chain (suc b) logs n good = by (cases_eq n (suc b)) (same-chain b logs n good)
      (λ p. same-file n good (logs n) (chain_files queues b logs) (chain (wal queues) b logs) p
      (λ p g. same-chain b logs p g))
    where
      by : (n ≡ suc b) ⊎ (n ≡ suc b → ⊥)
          → lanes_after (chain_files queues b logs n good) ≡ found_world (wal queues) (chain (wal queues) b logs n good)
          → (0 < n → lanes_after (chain_file queues (chain_files queues b logs) n good (logs n))
          ≡ found_world (wal queues) (read_file (wal queues) (chain (wal queues) b logs) n good (logs n)))
          → lanes_after (cond (eqb n (suc b)) (chain_file queues (chain_files queues b logs) n good (logs n)) (chain_files queues b logs n good))
          ≡ found_world (wal queues) (cond (eqb n (suc b)) (read_file (wal queues) (chain (wal queues) b logs) n good (logs n)) (chain (wal queues) b logs n good))
      by (inl same) below here =
          subst (λ (t : Bool).
          lanes_after (cond t (chain_file queues (chain_files queues b logs) n good (logs n)) (chain_files queues b logs n good))
          ≡ found_world (wal queues) (cond t (read_file (wal queues) (chain (wal queues) b logs) n good (logs n)) (chain (wal queues) b logs n good)))
          (sym (eq-eqb n (suc b) same)) (here (omega arith))
      by (inr apart) below here =
          subst (λ (t : Bool).
          lanes_after (cond t (chain_file queues (chain_files queues b logs) n good (logs n)) (chain_files queues b logs n good))
          ≡ found_world (wal queues) (cond t (read_file (wal queues) (chain (wal queues) b logs) n good (logs n)) (chain (wal queues) b logs n good)))
          (sym (ne_eqb n (suc b) apart)) below

  -- the lanes that are read are those of the reading
  pub lanes-are : (logs : Logs) → answered (lanes_read queues logs) ≡ found_world (wal queues) ((reading (wal queues) top logs).found)
  unfolding lanes_read
  lanes-are logs = same-chain top logs (newest (wal queues) top logs) (good_length (wal queues) (newest (wal queues) top logs) (logs (newest (wal queues) top logs)))

module _ (queues : List QueueId) where
  -- ---- the way back

  abbrev none : Answer (List ChainFile)
  none = Ok []

  pub files-none : (b : ℕ) (logs : Logs) (good : ℕ) → chain_files queues b logs 0 good ≡ none
  files-none zero logs good = refl
  files-none (suc b) logs good =
      ap (λ (t : Bool). cond t (chain_file queues (chain_files queues b logs) 0 good (logs 0)) (chain_files queues b logs 0 good))
      (ne_eqb 0 (suc b) (λ e. absurd (omega arith))) ∙ files-none b logs good

  pub files-at : (b : ℕ) (logs : Logs) (m good : ℕ) → suc m ≤ b
      → chain_files queues b logs (suc m) good ≡ chain_file queues (chain_files queues m logs) (suc m) good (logs (suc m))
  files-at zero logs m good h = absurd (omega arith)
  files-at (suc b) logs m good h = by (cases_eq m b) (files-at b logs m good)
    where
      by : (m ≡ b) ⊎ (m ≡ b → ⊥)
          → (suc m ≤ b → chain_files queues b logs (suc m) good ≡ chain_file queues (chain_files queues m logs) (suc m) good (logs (suc m)))
          → cond (eqb (suc m) (suc b)) (chain_file queues (chain_files queues b logs) (suc m) good (logs (suc m))) (chain_files queues b logs (suc m) good)
          ≡ chain_file queues (chain_files queues m logs) (suc m) good (logs (suc m))
      by (inl same) below =
          ap (λ (t : Bool). cond t (chain_file queues (chain_files queues b logs) (suc m) good (logs (suc m))) (chain_files queues b logs (suc m) good))
          (eq-eqb (suc m) (suc b) (omega arith))
          ∙ ap (λ (k : ℕ). chain_file queues (chain_files queues k logs) (suc m) good (logs (suc m))) (sym same)
      by (inr apart) below =
          ap (λ (t : Bool). cond t (chain_file queues (chain_files queues b logs) (suc m) good (logs (suc m))) (chain_files queues b logs (suc m) good))
          (ne_eqb (suc m) (suc b) (λ e. apart (omega arith)))
          ∙ below (under (cases_lt m b))
        where
          under : (m < b) ⊎ (b ≤ m) → suc m ≤ b
          under (inl less) = less
          under (inr most) = absurd (apart (omega arith))

  pub files-bound : (b c : ℕ) (logs : Logs) (n good : ℕ) → n ≤ b → n ≤ c
      → chain_files queues b logs n good ≡ chain_files queues c logs n good
  files-bound b c logs zero good hb hc = files-none b logs good ∙ sym (files-none c logs good)
  files-bound b c logs (suc m) good hb hc = files-at b logs m good hb ∙ sym (files-at c logs m good hc)
