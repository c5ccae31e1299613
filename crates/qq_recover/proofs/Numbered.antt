-- The files that are read are those of the chain.
use Rattle.std.proofs.Common.{◌≡◌, ◌≤◌, ◌<◌, ℕ, zero, suc, Bool, true, false, cond, eqb, ltb, ◌&&◌, List, [], ◌∷◌, map, Option, Some, None, option_map, Result, Ok, Err, refl, sym, ap, subst, ◌∙◌, arith, inl, inr, ◌⊎◌}
use Rattle.std.proofs.lemmas.Bool.{cases_eq, eq-eqb, ne_eqb}
use Rattle.qq_base.specs.declared.ids.QueueId.{QueueId}
use Rattle.qq_disk.specs.Image.{log_of}
use Rattle.qq_wal_record.specs.declared.header.Header.{Header}
use Rattle.qq_wal_record.specs.declared.header.NoHeader.{NoHeader}
use Rattle.qq_wal_record.specs.declared.header.NoHeader.TheVariants.{Short, Magic, Mark, Version}
use Rattle.qq_wal_record.specs.declared.record.LogRecord.{LogRecord}
use Rattle.qq_wal_record.specs.Reading.{header_at}
use Rattle.qq_wal_chain.specs.Chain.{Logs, Found, records_up_to, add_file, read_on, read_file, chain, newest, good_length, reading}
use Rattle.qq_wal_chain.specs.Format.{IsFormat}
use Rattle.qq_wal_chain.specs.Lanes.{Lanes}
use Rattle.qq_wal_chain.specs.Promise.{found_world}
use Rattle.qq_wal_chain.specs.Records.{end_of, replay}
use Rattle.qq_wal_chain.specs.Wal.{wal, whole_header}
use Rattle.qq_wal.specs.Running.{numbers_in, top}
use Rattle.qq_recover.specs.declared.fault.RecoverFault.TheVariants.{Damaged}
use Rattle.qq_recover.specs.declared.file.ChainFile.{ChainFile}
use Rattle.qq_recover.specs.Answer.{Answer, ◌>>=◌, Gives, answered}
use Rattle.qq_recover.specs.Clearing.{numbers_of_ends}
use Rattle.std.specs.Prelude.{IfOk}
use Rattle.std.specs.Global.{Vec}
use Rattle.qq_recover.specs.declared.log.Log.{Log}
use Rattle.qq_recover.specs.Table.{lanes_of}
use Rattle.qq_recover.specs.Ends.{End, end_of_file}
use Rattle.qq_recover.specs.Files.{header_of, file_of, ends_at, file_at, chain_file, chain_files}
use Rattle.qq_recover.specs.Reading.{files_read, lanes_read, newest_file}
use Rattle.qq_recover.proofs.ChainLaws.{lanes-are}

abbrev numbers : List ChainFile → List ℕ
numbers files = numbers_of_ends (map end_of_file files)

-- a file, and those behind it
abbrev with_older : (ℕ → ℕ → Answer (List ChainFile)) → Header × ChainFile → Answer (List ChainFile)
with_older older file = older file.0.previous file.0.good >>= λ files. Ok (file.1 ∷ files)

module _ (queues : List QueueId) where
  -- where both are there, the files have the numbers that were found
  abbrev Numbered : Answer (List ChainFile) → Option (Found (wal queues)) → Type 0
  Numbered (Err e) found = Unit {0}
  Numbered (Ok files) None = Unit {0}
  Numbered (Ok files) (Some found) = found.files ≡ numbers files

  more-numbered : (n : ℕ) (rs : List LogRecord) (older : Answer (List ChainFile)) (found : Option (Found (wal queues)))
      → Numbered older found
      → Numbered (older >>= λ files. Ok (file_of queues n rs ∷ files)) (add_file (wal queues) n rs found)
  more-numbered n rs (Err e) found h = tt
  more-numbered n rs (Ok files) None h = tt
  more-numbered n rs (Ok files) (Some found) h = by (replay (wal queues) rs (Some found.world))
    where
      made : Lanes → Found (wal queues)
      made world = record { files = n ∷ found.files; world = world }

      by : (o : Option Lanes) → Numbered (Ok (file_of queues n rs ∷ files)) (option_map made o)
      by None = tt
      by (Some world) = ap (λ (l : List ℕ). n ∷ l) h

  module _ (n good : ℕ) (bytes : List ℕ) (older : ℕ → ℕ → Answer (List ChainFile))
      (chain_back : ℕ → ℕ → Option (Found (wal queues)))
      (same : (p g : ℕ) → Numbered (older p g) (chain_back p g)) where
    abbrev rs : List LogRecord
    rs = records_up_to (wal queues) n good bytes

    abbrev end : ℕ
    end = end_of (wal queues) n rs

    on-header : (h : Header) (number back : Bool)
        → Numbered ((cond (number && back) (Ok h) (Err (Damaged (log_of n) 0)) >>= λ h. ends_at good h (file_of queues n rs))
        >>= with_older older)
        (cond (number && (back && eqb end good)) (add_file (wal queues) n rs (chain_back h.previous h.good)) None)
    on-header h false back = tt
    on-header h true false = tt
    on-header h true true = by (eqb end good)
      where
        by : (t : Bool)
            → Numbered (cond {A = Answer (Header × ChainFile)} t (Ok (h, file_of queues n rs)) (Err (Damaged (log_of n) end))
            >>= with_older older)
            (cond t (add_file (wal queues) n rs (chain_back h.previous h.good)) None)
        by false = tt
        by true = more-numbered n rs (older h.previous h.good) (chain_back h.previous h.good) (same h.previous h.good)

    on-read : (o : Result Header NoHeader)
        → Numbered ((header_of n o >>= λ h. ends_at good h (file_of queues n rs)) >>= with_older older)
        (read_on (wal queues) chain_back n good bytes (whole_header o))
    unfolding header_of
    on-read (Ok h) = on-header h (eqb h.file n) (ltb h.previous n)
    on-read (Err Short) = tt
    on-read (Err Magic) = tt
    on-read (Err Mark) = tt
    on-read (Err (Version byte)) = tt

  same-file : (n good : ℕ) (o : Option (List ℕ)) (older : ℕ → ℕ → Answer (List ChainFile))
      (chain_back : ℕ → ℕ → Option (Found (wal queues))) → ((p g : ℕ) → Numbered (older p g) (chain_back p g))
      → Numbered (chain_file queues older n good o) (read_file (wal queues) chain_back n good o)
  unfolding file_at
  same-file n good None older chain_back same = refl
  same-file n good (Some bytes) older chain_back same = on-read n good bytes older chain_back same (header_at bytes)

  numbered-chain : (b : ℕ) (logs : Logs) (n good : ℕ)
      → Numbered (chain_files queues b logs n good) (chain (wal queues) b logs n good)
  numbered-chain zero logs n good = refl
  numbered-chain (suc b) logs n good =
      by (eqb n (suc b)) (numbered-chain b logs n good)
      (same-file n good (logs n) (chain_files queues b logs) (chain (wal queues) b logs)
      (λ p g. numbered-chain b logs p g))
    where
      by : (t : Bool) → Numbered (chain_files queues b logs n good) (chain (wal queues) b logs n good)
          → Numbered (chain_file queues (chain_files queues b logs) n good (logs n))
          (read_file (wal queues) (chain (wal queues) b logs) n good (logs n))
          → Numbered (cond t (chain_file queues (chain_files queues b logs) n good (logs n)) (chain_files queues b logs n good))
          (cond t (read_file (wal queues) (chain (wal queues) b logs) n good (logs n)) (chain (wal queues) b logs n good))
      by true below here = here
      by false below here = below

  -- so where the lanes are read, the files are those that were found
  pub numbers-are : IsFormat (wal queues) → (logs : Logs) (files : List ChainFile) (lanes : Lanes)
      → files_read queues logs ≡ Ok files → lanes_read queues logs ≡ Ok lanes
      → numbers_in queues ((reading (wal queues) top logs).found) ≡ numbers files
  numbers-are laws logs files lanes are read =
      let n : ℕ = newest (wal queues) top logs in
      by ((reading (wal queues) top logs).found) (sym (lanes-are queues laws logs) ∙ ap answered read)
      (subst (λ (o : Answer (List ChainFile)). Numbered o ((reading (wal queues) top logs).found)) are
      (numbered-chain top logs n (good_length (wal queues) n (logs n))))
    where
      by : (o : Option (Found (wal queues))) → found_world (wal queues) o ≡ Some lanes → Numbered (Ok files) o
          → numbers_in queues o ≡ numbers files
      by None found h = absurd cc
      by (Some f) found h = h

  pub numbered-of : IsFormat (wal queues) → (logs : Logs) (n : ℕ) (files : List ChainFile) (chain : Vec End)
      (r : Answer Log) → n ≡ newest_file queues logs
      → chain_files queues top logs n (good_length (wal queues) n (logs n)) ≡ Ok files
      → map end_of_file files ≡ chain.items → Gives (λ (log : Log). lanes_of log.table) r (lanes_read queues logs)
      → IfOk r (λ log. log.chain ≡ chain)
      → IfOk r (λ log. numbers_in queues ((reading (wal queues) top logs).found) ≡ numbers_of_ends log.chain.items)
  numbered-of laws logs n files chain (Err e) is found are read made = tt
  numbered-of laws logs n files chain (Ok log) is found are read made =
      numbers-are laws logs files (lanes_of log.table)
      (subst (λ (k : ℕ). chain_files queues top logs k (good_length (wal queues) k (logs k)) ≡ Ok files) is found) read
      ∙ ap numbers_of_ends (are ∙ sym (ap (λ (v : Vec End). v.items) made))
