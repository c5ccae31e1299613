-- The way back, file by file.
use Rattle.std.proofs.Common.{◌≡◌, ◌≤◌, ◌<◌, ℕ, zero, suc, Bool, true, false, cond, eqb, ltb, ◌&&◌, List, [], ◌∷◌, ◌++◌, Option, Some, None, Result, Ok, Err, refl, sym, ap, ◌∙◌, arith, append_assoc, append-nil}
use Rattle.std.proofs.lemmas.Bool.{ltb-true}
use Rattle.qq_base.specs.declared.ids.QueueId.{QueueId}
use Rattle.qq_wal_record.specs.declared.header.Header.{Header}
use Rattle.qq_wal_record.specs.declared.header.NoHeader.{NoHeader}
use Rattle.qq_wal_record.specs.declared.header.NoHeader.TheVariants.{Short, Magic, Mark, Version}
use Rattle.qq_wal_record.specs.Reading.{header_at}
use Rattle.qq_wal_chain.specs.Chain.{Logs, records_up_to, good_length}
use Rattle.qq_wal_chain.specs.Wal.{wal}
use Rattle.qq_disk.specs.Image.{log_of}
use Rattle.qq_recover.specs.declared.fault.RecoverFault.{RecoverFault}
use Rattle.qq_recover.specs.declared.fault.RecoverFault.TheVariants.{Disk, Memory, Damaged, Version as OtherVersion}
use Rattle.qq_recover.specs.declared.file.ChainFile.{ChainFile}
use Rattle.qq_recover.specs.Answer.{Answer, ◌>>=◌, Fails}
use Rattle.qq_recover.specs.Files.{header_of, file_of, ends_at, file_at, good_end, chain_file, chain_files}
use Rattle.qq_wal.specs.Running.{top}
use Rattle.qq_recover.proofs.ChainLaws.{files-none, files-at, files-bound}

-- files, and then those that are answered
abbrev pub after : List ChainFile → Answer (List ChainFile) → Answer (List ChainFile)
after files (Ok more) = Ok (files ++ more)
after files (Err e) = Err e

pub after-none : (all : Answer (List ChainFile)) → after [] all ≡ all
after-none (Ok files) = refl
after-none (Err e) = refl

pub after-one : (files : List ChainFile) (file : ChainFile) (more : Answer (List ChainFile))
    → after files (more >>= λ fs. Ok (file ∷ fs)) ≡ after (files ++ file ∷ []) more
after-one files file (Ok more) = ap (λ (fs : List ChainFile). Ok fs) (sym (append_assoc files (file ∷ []) more))
after-one files file (Err e) = refl

-- where it isn't said how many bytes of file n are good
abbrev pub good_in : List QueueId → Logs → ℕ → Option ℕ → ℕ
good_in queues logs n None = good_length (wal queues) n (logs n)
good_in queues logs n (Some good) = good

module _ (queues : List QueueId) where
  pub good-here : (logs : Logs) (n : ℕ) (good : Option ℕ) (bytes : List ℕ) → logs n ≡ Some bytes
      → good_in queues logs n good ≡ good_end queues n good bytes
  good-here logs n None bytes here = ap (λ (o : Option (List ℕ)). good_length (wal queues) n o) here
  good-here logs n (Some good) bytes here = refl

  -- a header that counts names an older file
  header-back : (n : ℕ) (o : Result Header NoHeader) (h : Header) → header_of n o ≡ Ok h → h.previous < n
  unfolding header_of
  header-back n (Ok read) h e = by (eqb read.file n) (ltb read.previous n) refl e
    where
      by : (number back : Bool) → ltb read.previous n ≡ back
          → cond (number && back) (Ok read) (Err (Damaged (log_of n) 0)) ≡ Ok h → h.previous < n
      by true true less e = let same : read ≡ h = cc in omega (arith, ltb-true read.previous n less, ap (λ (h : Header). h.previous) same)
      by true false less e = absurd cc
      by false back less e = absurd cc
  header-back n (Err Short) h e = absurd cc
  header-back n (Err Magic) h e = absurd cc
  header-back n (Err Mark) h e = absurd cc
  header-back n (Err (Version byte)) h e = absurd cc

  pub file-back : (n good : ℕ) (bytes : List ℕ) (h : Header) (file : ChainFile)
      → file_at queues n good bytes ≡ Ok (h, file) → h.previous < n
  unfolding file_at
  file-back n good bytes h file e = by (header_of n (header_at bytes)) refl e
    where
      counted : ChainFile
      counted = file_of queues n (records_up_to (wal queues) n good bytes)

      ended : (read : Header) (t : Bool) → cond {A = Answer (Header × ChainFile)} t (Ok (read, counted)) (Err (Damaged (log_of n) counted.end)) ≡ Ok (h, file)
          → read ≡ h
      ended read true e =
          let both : (read, counted) ≡ (h, file) = cc in ap (λ (p : Header × ChainFile). p.0) both
      ended read false e = absurd cc

      by : (o : Answer Header) → header_of n (header_at bytes) ≡ o → (o >>= λ h. ends_at good h counted) ≡ Ok (h, file)
          → h.previous < n
      by (Err refusal) is e = absurd cc
      by (Ok read) is e =
          let same : read ≡ h = ended read (eqb counted.end good) e in
          header-back n (header_at bytes) h (is ∙ ap (λ (h : Header). Ok h) same)

  pub file-number : (n good : ℕ) (bytes : List ℕ) (h : Header) (file : ChainFile)
      → file_at queues n good bytes ≡ Ok (h, file) → file.number ≡ n
  unfolding file_at
  file-number n good bytes h file e = by (header_of n (header_at bytes)) e
    where
      counted : ChainFile
      counted = file_of queues n (records_up_to (wal queues) n good bytes)

      ended : (read : Header) (t : Bool) → cond {A = Answer (Header × ChainFile)} t (Ok (read, counted)) (Err (Damaged (log_of n) counted.end)) ≡ Ok (h, file)
          → file.number ≡ n
      ended read true e =
          let both : (read, counted) ≡ (h, file) = cc in sym (ap (λ (p : Header × ChainFile). p.1.number) both)
      ended read false e = absurd cc

      by : (o : Answer Header) → (o >>= λ h. ends_at good h counted) ≡ Ok (h, file) → file.number ≡ n
      by (Err refusal) e = absurd cc
      by (Ok read) e = ended read (eqb counted.end good) e

  -- ---- one file of the way

  module _ (logs : Logs) (n good : ℕ) (some : 0 < n) (within : n ≤ top) where
    pub at-absent : logs n ≡ None → chain_files queues top logs n good ≡ Ok []
    at-absent here = by n some within here
      where
        by : (n : ℕ) → 0 < n → n ≤ top → logs n ≡ None → chain_files queues top logs n good ≡ Ok []
        by zero some within here = absurd (omega arith)
        by (suc m) some within here =
            files-at queues top logs m good within
            ∙ ap (λ (o : Option (List ℕ)). chain_file queues (chain_files queues m logs) (suc m) good o) here

    pub at-refused : (bytes : List ℕ) (e : RecoverFault) → logs n ≡ Some bytes → file_at queues n good bytes ≡ Err e
        → chain_files queues top logs n good ≡ Err e
    at-refused bytes e here bad = by n some within here bad
      where
        by : (n : ℕ) → 0 < n → n ≤ top → logs n ≡ Some bytes → file_at queues n good bytes ≡ Err e
            → chain_files queues top logs n good ≡ Err e
        by zero some within here bad = absurd (omega arith)
        by (suc m) some within here bad =
            files-at queues top logs m good within
            ∙ ap (λ (o : Option (List ℕ)). chain_file queues (chain_files queues m logs) (suc m) good o) here
            ∙ ap (λ (o : Answer (Header × ChainFile)). o >>= λ file. (chain_files queues m logs file.0.previous file.0.good
            >>= λ files. Ok (file.1 ∷ files))) bad

    pub at-file : (bytes : List ℕ) (h : Header) (file : ChainFile) → logs n ≡ Some bytes
        → file_at queues n good bytes ≡ Ok (h, file)
        → chain_files queues top logs n good
        ≡ (chain_files queues top logs h.previous h.good >>= λ files. Ok (file ∷ files))
    at-file bytes h file here read = by n some within here read (file-back n good bytes h file read)
      where
        by : (n : ℕ) → 0 < n → n ≤ top → logs n ≡ Some bytes → file_at queues n good bytes ≡ Ok (h, file)
            → h.previous < n
            → chain_files queues top logs n good
            ≡ (chain_files queues top logs h.previous h.good >>= λ files. Ok (file ∷ files))
        by zero some within here read back = absurd (omega arith)
        by (suc m) some within here read back =
            files-at queues top logs m good within
            ∙ ap (λ (o : Option (List ℕ)). chain_file queues (chain_files queues m logs) (suc m) good o) here
            ∙ ap (λ (o : Answer (Header × ChainFile)). o >>= λ file. (chain_files queues m logs file.0.previous file.0.good
            >>= λ files. Ok (file.1 ∷ files))) read
            ∙ ap (λ (o : Answer (List ChainFile)). o >>= λ files. Ok (file ∷ files))
            (files-bound queues m top logs h.previous h.good (omega arith) (omega arith))

  -- ---- what was found so far, and what is found from here on

  abbrev rest : Logs → ℕ → Option ℕ → Answer (List ChainFile)
  rest logs n good = chain_files queues top logs n (good_in queues logs n good)

  module _ (logs : Logs) (files : List ChainFile) (all : Answer (List ChainFile)) where
    pub way-over : (n : ℕ) (good : Option ℕ) → n ≡ 0 → after files (rest logs n good) ≡ all → all ≡ Ok files
    way-over n good over so =
        sym so ∙ ap (λ (n : ℕ). after files (rest logs n good)) over ∙ ap (λ (o : Answer (List ChainFile)). after files o) (files-none queues top logs (good_in queues logs 0 good))
        ∙ ap (λ (fs : List ChainFile). Ok fs) (append-nil files)

    module _ (n : ℕ) (good : Option ℕ) (some : 0 < n) (within : n ≤ top) (so : after files (rest logs n good) ≡ all)
      where
        pub way-ends : logs n ≡ None → all ≡ Ok files
        way-ends here =
            sym so
            ∙ ap (λ (o : Answer (List ChainFile)). after files o)
            (at-absent logs n (good_in queues logs n good) some within here)
            ∙ ap (λ (fs : List ChainFile). Ok fs) (append-nil files)

        here-at : (bytes : List ℕ) (o : Answer (Header × ChainFile)) → logs n ≡ Some bytes
            → file_at queues n (good_end queues n good bytes) bytes ≡ o
            → file_at queues n (good_in queues logs n good) bytes ≡ o
        here-at bytes o here read =
            ap (λ (k : ℕ). file_at queues n k bytes) (good-here logs n good bytes here) ∙ read

        way-refused-by : (bytes : List ℕ) (e : RecoverFault) → logs n ≡ Some bytes
            → file_at queues n (good_end queues n good bytes) bytes ≡ Err e → all ≡ Err e
        way-refused-by bytes e here bad =
            sym so
            ∙ ap (λ (o : Answer (List ChainFile)). after files o)
            (at-refused logs n (good_in queues logs n good) some within bytes e here (here-at bytes (Err e) here bad))

        pub way-refused : (bytes : List ℕ) (e : RecoverFault) → logs n ≡ Some bytes
            → Fails e (file_at queues n (good_end queues n good bytes) bytes) → Fails e all
        way-refused bytes Disk here bad = tt
        way-refused bytes (Memory m) here bad = tt
        way-refused bytes (Damaged file place) here bad = way-refused-by bytes (Damaged file place) here bad
        way-refused bytes (OtherVersion file byte) here bad = way-refused-by bytes (OtherVersion file byte) here bad

        pub way-on : (bytes : List ℕ) (h : Header) (file : ChainFile) → logs n ≡ Some bytes
            → file_at queues n (good_end queues n good bytes) bytes ≡ Ok (h, file)
            → after (files ++ file ∷ []) (rest logs h.previous (Some h.good)) ≡ all
        way-on bytes h file here read =
            sym (after-one files file (rest logs h.previous (Some h.good)))
            ∙ ap (λ (o : Answer (List ChainFile)). after files o)
            (sym (at-file logs n (good_in queues logs n good) some within bytes h file here
            (here-at bytes (Ok (h, file)) here read)))
            ∙ so
