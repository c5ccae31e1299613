-- Files of the chain that are read once more.
use Rattle.std.proofs.Common.{◌≡◌, ℕ, zero, suc, Bool, cond, eqb, List, [], ◌∷◌, map, Option, Some, None, Ok, Err, refl, sym, ap, subst, ◌∙◌, inl, inr, ◌⊎◌, unwrap_or}
use Rattle.std.proofs.lemmas.Bool.{cases_eq, eq-eqb, ne_eqb}
use Rattle.std.specs.List.{AllByRecursion}
use Rattle.qq_base.specs.declared.ids.QueueId.{QueueId}
use Rattle.qq_wal_record.specs.declared.header.Header.{Header}
use Rattle.qq_wal_chain.specs.Chain.{Logs}
use Rattle.qq_recover.specs.declared.fault.RecoverFault.{RecoverFault}
use Rattle.qq_recover.specs.declared.fault.RecoverFault.TheVariants.{Disk, Memory, Damaged, Version}
use Rattle.qq_recover.specs.declared.file.ChainFile.{ChainFile}
use Rattle.qq_recover.specs.Answer.{Answer, ◌>>=◌, Fails, Gives}
use Rattle.qq_recover.specs.Ends.{End, IsReadAgain, end_of_file}
use Rattle.qq_recover.specs.Files.{chain_file, chain_files, file_at}
use Rattle.qq_recover.proofs.LogLaws.{file-end}
use Rattle.qq_recover.proofs.Way.{file-number}

-- what was read is no refusal
pub fails-ok : {A B : Type 0} (e : RecoverFault) (x : A) (read : Answer B) → Fails e (Ok x) → Fails e read
fails-ok Disk x read h = tt
fails-ok (Memory m) x read h = tt
fails-ok (Damaged file place) x read h = absurd cc
fails-ok (Version file byte) x read h = absurd cc

pub same-ok : (file read : ChainFile) → Gives {X = ChainFile} (λ f. f) (Ok read) (Ok file) → file ≡ read
same-ok file read e = cc

-- ---- where the files end

pub record EndsAre (all : Answer (List ChainFile)) (ends : List End) : Type 0 where
  pub files : List ChainFile
  pub is : all ≡ Ok files
  pub are : map end_of_file files ≡ ends

pub ends-are : (all : Answer (List ChainFile)) (ends : List End)
    → (all >>= λ files. Ok (map end_of_file files)) ≡ Ok ends → EndsAre all ends
ends-are (Ok files) ends e = record { files = files; is = refl; are = cc }
ends-are (Err refusal) ends e = absurd cc

refused-by : (e : RecoverFault) (all : Answer (List ChainFile))
    → (all >>= λ files. Ok (map end_of_file files)) ≡ Err e → all ≡ Err e
refused-by e (Ok files) h = absurd cc
refused-by e (Err other) h = let same : other ≡ e = cc in ap (λ (e : RecoverFault). Err e) same

pub ends-refused : (e : RecoverFault) (all : Answer (List ChainFile))
    → Fails e (all >>= λ files. Ok (map end_of_file files)) → Fails e all
ends-refused Disk all h = tt
ends-refused (Memory m) all h = tt
ends-refused (Damaged file place) all h = refused-by (Damaged file place) all h
ends-refused (Version file byte) all h = refused-by (Version file byte) all h

-- ---- by where it ends, each file of the chain is read again

module _ (queues : List QueueId) (logs : Logs) where
  abbrev All : List ChainFile → Type 0
  All files = AllByRecursion (IsReadAgain queues logs) files

  one : (n good : ℕ) (bytes : List ℕ) (h : Header) (file : ChainFile) → logs n ≡ Some bytes
      → file_at queues n good bytes ≡ Ok (h, file) → IsReadAgain queues logs file
  one n good bytes h file here at =
      let number = file-number queues n good bytes h file at in
      let end = file-end queues n good bytes h file at in
      record {
        bytes = bytes;
        here = ap logs number ∙ here;
        header = h;
        read = ap (λ (m : ℕ). file_at queues m file.end bytes) number
            ∙ ap (λ (g : ℕ). file_at queues n g bytes) end ∙ at;
      }

  pub again : (b n good : ℕ) (files : List ChainFile) → chain_files queues b logs n good ≡ Ok files → All files
  again zero n good files e = let same : [] ≡ files = cc in subst All same tt
  again (suc b) n good files e = by (cases_eq n (suc b)) (again b) e
    where
      older : (bytes : List ℕ) (h : Header) (file : ChainFile) → logs n ≡ Some bytes
          → file_at queues n good bytes ≡ Ok (h, file)
          → ((n good : ℕ) (files : List ChainFile) → chain_files queues b logs n good ≡ Ok files → All files)
          → (o : Answer (List ChainFile)) → chain_files queues b logs h.previous h.good ≡ o
          → (o >>= λ files. Ok (file ∷ files)) ≡ Ok files → All files
      older bytes h file here at later (Err refusal) is e = absurd cc
      older bytes h file here at later (Ok rest) is e =
          let same : file ∷ rest ≡ files = cc in
          subst All same (one n good bytes h file here at, later h.previous h.good rest is)

      read : (bytes : List ℕ) → logs n ≡ Some bytes
          → ((n good : ℕ) (files : List ChainFile) → chain_files queues b logs n good ≡ Ok files → All files)
          → (o : Answer (Header × ChainFile)) → file_at queues n good bytes ≡ o
          → (o >>= λ file. (chain_files queues b logs file.0.previous file.0.good >>= λ files. Ok (file.1 ∷ files)))
          ≡ Ok files → All files
      read bytes here later (Err refusal) at e = absurd cc
      read bytes here later (Ok file) at e =
          older bytes file.0 file.1 here at later (chain_files queues b logs file.0.previous file.0.good) refl e

      found : ((n good : ℕ) (files : List ChainFile) → chain_files queues b logs n good ≡ Ok files → All files)
          → (o : Option (List ℕ)) → logs n ≡ o → chain_file queues (chain_files queues b logs) n good o ≡ Ok files
          → All files
      found later None here e = let same : [] ≡ files = cc in subst All same tt
      found later (Some bytes) here e = read bytes here later (file_at queues n good bytes) refl e

      at : Bool → Answer (List ChainFile)
      at t = cond t (chain_file queues (chain_files queues b logs) n good (logs n)) (chain_files queues b logs n good)

      by : (n ≡ suc b) ⊎ (n ≡ suc b → ⊥)
          → ((n good : ℕ) (files : List ChainFile) → chain_files queues b logs n good ≡ Ok files → All files)
          → at (eqb n (suc b)) ≡ Ok files → All files
      by (inl same) later e = found later (logs n) refl (sym (ap at (eq-eqb n (suc b) same)) ∙ e)
      by (inr apart) later e = later n good files (sym (ap at (ne_eqb n (suc b) apart)) ∙ e)

  -- what stands at the file's number is read as the file
  pub read-again : (file : ChainFile) (end : End) (bytes : List ℕ) → (r : IsReadAgain queues logs file)
      → end_of_file file ≡ end → bytes ≡ unwrap_or (logs end.number) []
      → file_at queues end.number end.end bytes ≡ Ok (r.header, file)
  read-again file end bytes r same is =
      let here : bytes ≡ r.bytes =
      is ∙ ap (λ (e : End). unwrap_or (logs e.number) []) (sym same)
      ∙ ap (λ (o : Option (List ℕ)). unwrap_or o []) r.here in
      ap (λ (bs : List ℕ). file_at queues end.number end.end bs) here
      ∙ ap (λ (e : End). file_at queues e.number e.end r.bytes) (sym same) ∙ r.read

  pub same-again : (file read : ChainFile) (end : End) (bytes : List ℕ) (h : Header)
      → (r : IsReadAgain queues logs file) → end_of_file file ≡ end → bytes ≡ unwrap_or (logs end.number) []
      → file_at queues end.number end.end bytes ≡ Ok (h, read) → file ≡ read
  same-again file read end bytes h r same is at =
      let both : Ok (r.header, file) ≡ Ok (h, read) = sym (read-again file end bytes r same is) ∙ at in
      let pair : (r.header, file) ≡ (h, read) = cc (both) in ap (λ (p : Header × ChainFile). p.1) pair

  pub fails-again : (file : ChainFile) (end : End) (bytes : List ℕ) (e : RecoverFault)
      → (r : IsReadAgain queues logs file) → end_of_file file ≡ end → bytes ≡ unwrap_or (logs end.number) []
      → Fails e (file_at queues end.number end.end bytes) → (x : ChainFile) → Fails e (Ok x)
  fails-again file end bytes e r same is fails x =
      fails-ok e (r.header, file) (Ok x)
      (subst (λ (o : Answer (Header × ChainFile)). Fails e o) (read-again file end bytes r same is) fails)
