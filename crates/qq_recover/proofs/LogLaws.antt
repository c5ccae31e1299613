-- The newest file and how far it is good.
use Rattle.std.proofs.Common.{◌≡◌, ◌≤◌, ◌<◌, ℕ, zero, suc, Bool, true, false, cond, eqb, List, [], ◌∷◌, map, Option, Some, None, Ok, Err, refl, sym, ap, subst, ◌∙◌, arith}
use Rattle.std.proofs.lemmas.Bool.{eqb-true}
use Rattle.std.specs.Prelude.{IfOk}
use Rattle.qq_base.specs.declared.ids.QueueId.{QueueId}
use Rattle.qq_disk.specs.Image.{log_of}
use Rattle.qq_wal_record.specs.declared.header.Header.{Header}
use Rattle.qq_wal_record.specs.Reading.{header_at}
use Rattle.qq_wal_chain.specs.Chain.{Logs, has_header, records_up_to, good_length}
use Rattle.qq_wal_chain.specs.Wal.{wal}
use Rattle.qq_wal_chain.proofs.Walk.{newest-has, newest-within}
use Rattle.qq_recover.specs.declared.fault.RecoverFault.TheVariants.{Damaged}
use Rattle.qq_recover.specs.declared.file.ChainFile.{ChainFile}
use Rattle.qq_recover.specs.declared.log.Log.{Log}
use Rattle.qq_wal_chain.specs.Wal.{no_lanes}
use Rattle.qq_recover.specs.declared.fault.RecoverFault.{RecoverFault}
use Rattle.qq_recover.specs.Answer.{Answer, ◌>>=◌, Fails}
use Rattle.qq_recover.specs.Replay.{replay_files}
use Rattle.qq_recover.specs.Files.{header_of, file_of, ends_at, file_at, chain_file, chain_files}
use Rattle.qq_recover.specs.Log.{good_of, IsNewest}
use Rattle.qq_wal.specs.Ranges.{AllRanges, ranges_in, ranges_of}
use Rattle.qq_wal.specs.Running.{top}
use Rattle.qq_recover.specs.Ends.{end_of_file}
use Rattle.qq_recover.specs.Entries.{find_files, ranges_read}
use Rattle.qq_recover.specs.Reading.{newest_file, lanes_read}
use Rattle.qq_recover.proofs.Counted.{fails-then}
use Rattle.qq_recover.proofs.ChainLaws.{files-none, files-at}

abbrev nothing : Answer (List ChainFile)
nothing = Ok []

module _ (queues : List QueueId) where
  pub file-end : (n good : ℕ) (bytes : List ℕ) (h : Header) (file : ChainFile) → file_at queues n good bytes ≡ Ok (h, file)
      → file.end ≡ good
  unfolding file_at
  file-end n good bytes h file e = by (header_of n (header_at bytes)) e
    where
      counted : ChainFile
      counted = file_of queues n (records_up_to (wal queues) n good bytes)

      ended : (read : Header) (t : Bool) → eqb counted.end good ≡ t
          → cond {A = Answer (Header × ChainFile)} t (Ok (read, counted)) (Err (Damaged (log_of n) counted.end)) ≡ Ok (h, file) → file.end ≡ good
      ended read true same e =
          let both : (read, counted) ≡ (h, file) = cc in
          let here : counted ≡ file = ap (λ (p : Header × ChainFile). p.1) both in
          sym (ap (λ (file : ChainFile). file.end) here) ∙ eqb-true counted.end good same
      ended read false same e = absurd cc

      by : (o : Answer Header) → (o >>= λ h. ends_at good h counted) ≡ Ok (h, file) → file.end ≡ good
      by (Err refusal) e = absurd cc
      by (Ok read) e = ended read (eqb counted.end good) refl e

  -- the first of the files is the newest
  first-good : (b : ℕ) (logs : Logs) (m good : ℕ) (bytes : List ℕ) (files : List ChainFile) → suc m ≤ b
      → logs (suc m) ≡ Some bytes → chain_files queues b logs (suc m) good ≡ Ok files
      → good_of (map end_of_file files) ≡ good
  first-good b logs m good bytes files h here e =
      read (file_at queues (suc m) good bytes) refl
      (sym (files-at queues b logs m good h
      ∙ ap (λ (o : Option (List ℕ)). chain_file queues (chain_files queues m logs) (suc m) good o) here) ∙ e)
    where
      read : (o : Answer (Header × ChainFile)) → file_at queues (suc m) good bytes ≡ o
          → (o >>= λ file. (chain_files queues m logs file.0.previous file.0.good >>= λ files. Ok (file.1 ∷ files)))
          ≡ Ok files → good_of (map end_of_file files) ≡ good
      read (Err refusal) is e = absurd cc
      read (Ok file) is e = older (chain_files queues m logs file.0.previous file.0.good) e
        where
          older : (o : Answer (List ChainFile)) → (o >>= λ files. Ok (file.1 ∷ files)) ≡ Ok files → good_of (map end_of_file files) ≡ good
          older (Err refusal) e = absurd cc
          older (Ok rest) e =
              let same : file.1 ∷ rest ≡ files = cc in
              sym (ap (λ (fs : List ChainFile). good_of (map end_of_file fs)) same) ∙ file-end (suc m) good bytes file.0 file.1 is

  pub is-newest : (logs : Logs) (files : List ChainFile)
      → chain_files queues top logs (newest_file queues logs)
      (good_length (wal queues) (newest_file queues logs) (logs (newest_file queues logs))) ≡ Ok files
      → IsNewest queues logs (newest_file queues logs) (good_of (map end_of_file files))
  is-newest logs files e = record {
    file_is = refl;
    good_is =
        by (newest_file queues logs) (newest-within (wal queues) top logs) (newest-has (wal queues) top logs) e;
  }
    where
      by : (n : ℕ) → n ≤ top → (0 < n → has_header (wal queues) (logs n) ≡ true)
          → chain_files queues top logs n (good_length (wal queues) n (logs n)) ≡ Ok files
          → good_of (map end_of_file files) ≡ good_length (wal queues) n (logs n)
      by zero within has e = none (logs 0) (sym (files-none queues top logs (good_length (wal queues) 0 (logs 0))) ∙ e)
        where
          none : (o : Option (List ℕ)) → nothing ≡ Ok files
              → good_of (map end_of_file files) ≡ good_length (wal queues) 0 o
          none None e = let same : [] ≡ files = cc in sym (ap (λ (fs : List ChainFile). good_of (map end_of_file fs)) same)
          none (Some bytes) e = let same : [] ≡ files = cc in sym (ap (λ (fs : List ChainFile). good_of (map end_of_file fs)) same)
      by (suc m) within has e = some (logs (suc m)) refl (has (omega arith))
        where
          some : (o : Option (List ℕ)) → logs (suc m) ≡ o → has_header (wal queues) o ≡ true
              → good_of (map end_of_file files) ≡ good_length (wal queues) (suc m) (logs (suc m))
          some None here whole = absurd cc
          some (Some bytes) here whole =
              first-good top logs m (good_length (wal queues) (suc m) (logs (suc m))) bytes files within here e

  -- ---- the lanes

  abbrev newest_files : Logs → ℕ → Answer (List ChainFile)
  newest_files logs n = chain_files queues top logs n (good_length (wal queues) n (logs n))

  pub lanes-refused : (logs : Logs) (n : ℕ) (e : RecoverFault) → n ≡ newest_file queues logs
      → Fails e (newest_files logs n) → Fails e (lanes_read queues logs)
  unfolding lanes_read
  lanes-refused logs n e is bad =
      fails-then e (newest_files logs (newest_file queues logs)) (λ (files : List ChainFile). replay_files queues files no_lanes)
      (subst (λ (n : ℕ). Fails e (newest_files logs n)) is bad)

  pub lanes-replayed : (logs : Logs) (n : ℕ) (files : List ChainFile) → n ≡ newest_file queues logs
      → newest_files logs n ≡ Ok files → lanes_read queues logs ≡ replay_files queues files no_lanes
  unfolding lanes_read
  lanes-replayed logs n files is read =
      ap (λ (o : Answer (List ChainFile)). o >>= λ files. replay_files queues files no_lanes)
      (ap (newest_files logs) (sym is) ∙ read)

  pub ranges-found : (logs : Logs) (n : ℕ) (files : List ChainFile) → n ≡ newest_file queues logs
      → newest_files logs n ≡ Ok files → ranges_read queues logs ≡ Ok (find_files files (ranges_of queues))
  ranges-found logs n files is read =
      ap (λ (o : Answer (List ChainFile)). o >>= λ files. Ok (find_files files (ranges_of queues)))
      (ap (newest_files logs) (sym is) ∙ read)

  pub newest-read : (logs : Logs) (n : ℕ) (files : List ChainFile) → n ≡ newest_file queues logs
      → newest_files logs n ≡ Ok files → IsNewest queues logs n (good_of (map end_of_file files))
  newest-read logs n files is read =
      subst (λ (n : ℕ). IsNewest queues logs n (good_of (map end_of_file files))) (sym is)
      (is-newest logs files (ap (newest_files logs) (sym is) ∙ read))

pub ranges-kept : (read : Answer AllRanges) (all : AllRanges) (r : Answer Log) → read ≡ Ok all
    → IfOk r (λ log. ranges_in log.ranges ≡ all) → IfOk r (λ log. read ≡ Ok (ranges_in log.ranges))
ranges-kept read all (Ok log) is same = is ∙ ap (λ (all : AllRanges). Ok all) (sym same)
ranges-kept read all (Err e) is same = tt

pub newest-of : (queues : List QueueId) (logs : Logs) (file good : ℕ) (r : Answer Log) → IsNewest queues logs file good
    → IfOk r (λ log. log.file ≡ file) → IfOk r (λ log. log.good ≡ good)
    → IfOk r (λ log. IsNewest queues logs log.file log.good)
newest-of queues logs file good (Ok log) newest f g = record {
  file_is = f ∙ newest.file_is;
  good_is = g ∙ newest.good_is;
}
newest-of queues logs file good (Err e) newest f g = tt
