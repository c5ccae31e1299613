-- The way back, of which the files' ends are remembered.
use Rattle.std.proofs.Common.{◌≡◌, ◌≤◌, ◌<◌, ℕ, List, [], ◌∷◌, ◌++◌, map, Option, Some, None, Ok, refl, sym, ap, ◌∙◌}
use Rattle.std.proofs.lemmas.List.{map-append}
use Rattle.qq_base.specs.declared.ids.QueueId.{QueueId}
use Rattle.qq_wal_record.specs.declared.header.Header.{Header}
use Rattle.qq_wal_chain.specs.Chain.{Logs, good_length}
use Rattle.qq_wal_chain.specs.Wal.{wal}
use Rattle.qq_wal.specs.Running.{top}
use Rattle.qq_recover.specs.declared.fault.RecoverFault.{RecoverFault}
use Rattle.qq_recover.specs.declared.file.ChainFile.{ChainFile}
use Rattle.qq_recover.specs.Answer.{Answer, ◌>>=◌, Fails}
use Rattle.qq_recover.specs.Ends.{End, chain_ends, end_of_file}
use Rattle.qq_recover.specs.Files.{chain_files, file_at, good_end}
use Rattle.qq_recover.proofs.Counted.{fails-then}
use Rattle.qq_recover.proofs.Way.{after, after-none, file-number, good_in, way-ends, way-on, way-over, way-refused}

module _ (queues : List QueueId) (logs : Logs) (newest : ℕ) where
  abbrev all : Answer (List ChainFile)
  all = chain_files queues top logs newest (good_length (wal queues) newest (logs newest))

  abbrev ends_of : Answer (List ChainFile) → Answer (List End)
  ends_of files = files >>= λ files. Ok (map end_of_file files)

  -- the files that were found so far, and those that are found from file n on, are all
  pub record OnTheWay (ends : List End) (n : ℕ) (good : Option ℕ) : Type 0 where
    pub files : List ChainFile
    pub are : map end_of_file files ≡ ends
    pub so : after files (chain_files queues top logs n (good_in queues logs n good)) ≡ all

  pub way-begins : (ends : List End) → ends ≡ [] → OnTheWay ends newest None
  way-begins ends none = record { files = []; are = sym none; so = after-none all }

  found : (ends : List End) (n : ℕ) (good : Option ℕ) (w : OnTheWay ends n good) → all ≡ Ok w.files
      → ends_of all ≡ Ok ends
  found ends n good w is = ap ends_of is ∙ ap (λ (l : List End). Ok l) w.are

  pub ends-over : (ends : List End) (n : ℕ) (good : Option ℕ) → OnTheWay ends n good → n ≡ 0
      → ends_of all ≡ Ok ends
  ends-over ends n good w over = found ends n good w (way-over queues logs w.files all n good over w.so)

  module _ (ends : List End) (n : ℕ) (good : Option ℕ) (some : 0 < n) (within : n ≤ top) (w : OnTheWay ends n good)
    where
      pub ends-absent : logs n ≡ None → ends_of all ≡ Ok ends
      ends-absent here = found ends n good w (way-ends queues logs w.files all n good some within w.so here)

      pub ends-refuse : (bytes : List ℕ) (e : RecoverFault) → logs n ≡ Some bytes
          → Fails e (file_at queues n (good_end queues n good bytes) bytes) → Fails e (ends_of all)
      ends-refuse bytes e here fails =
          fails-then e all (λ (files : List ChainFile). Ok (map end_of_file files))
          (way-refused queues logs w.files all n good some within w.so bytes e here fails)

      pub ends-on : (bytes : List ℕ) (h : Header) (file : ChainFile) (more : List End) → logs n ≡ Some bytes
          → file_at queues n (good_end queues n good bytes) bytes ≡ Ok (h, file)
          → more ≡ ends ++ record { number = n; end = file.end } ∷ [] → OnTheWay more h.previous (Some h.good)
      ends-on bytes h file more here read is = record {
        files = w.files ++ file ∷ [];
        are = map-append end_of_file w.files (file ∷ [])
            ∙ ap (λ (l : List End). l ++ end_of_file file ∷ []) w.are
            ∙ ap (λ (m : ℕ). ends ++ made m file.end ∷ [])
            (file-number queues n (good_end queues n good bytes) bytes h file read)
            ∙ sym is;
        so = way-on queues logs w.files all n good some within w.so bytes h file here read;
      }
        where
          made : ℕ → ℕ → End
          made number end = record { number = number; end = end }
