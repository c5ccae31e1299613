-- What a sink was given of the texts of log files, one after the other.
use Rattle.std.proofs.Common.{◌≡◌, ◌<◌, ◌+◌, ◌++◌, ℕ, Bool, List, [], ◌∷◌, Option, length, take, drop, get_or, refl, sym, ap, subst, ◌∙◌, arith, append_assoc, append-nil, length-append, take-append-drop, IsTrue}
use Rattle.std.proofs.lemmas.List.{take_more, take-append-le}
use Rattle.std.proofs.Math.Seq.{take-append-add}
use Rattle.std.specs.Io.KnownBytes.{Appends}
use Rattle.std.proofs.KnownBytes.{Appends-trans, Appends-nil}
use Rattle.qq_base.proofs.Fronts.{front-behind, front-more, front-nil, front-trans}
use Rattle.qq_disk.specs.declared.fault.DiskFault.{DiskFault}
use Rattle.qq_disk.specs.declared.fault.DiskFault.TheVariants.{Failed, Memory}
use Rattle.qq_disk.specs.Disk.{Disk as State, content}
use Rattle.qq_disk.specs.Image.{log_of}
use Rattle.qq_ports.specs.Faults.{AppendsPrefix}
use Rattle.qq_dump.specs.declared.fault.DumpFault.{DumpFault}
use Rattle.qq_dump.specs.declared.fault.DumpFault.TheVariants.{Disk, Sink, NoMemory}
use Rattle.qq_dump.specs.Fault.{fault_of}
use Rattle.qq_dump.specs.Files.{LogFile, dump_text, log_text}
use Rattle.qq_dump.specs.Listed.{file_of, files_of}
use Rattle.qq_dump.specs.Text.{file_text}
use Rattle.qq_dump.specs.Written.{WritesFirst, WritesWhole}

-- a text was written whole, and a first part of the next one, which is a first part of both and any others
first_part : (a b c : Option (List ℕ)) (text next rest all : List ℕ) → Appends a b text → AppendsPrefix b c next
    → all ≡ text ++ (next ++ rest) → AppendsPrefix a c all
first_part a b c text next rest all whole (n, within, grown) is = (
  length text + n,
  omega (arith, within, ap length is, length-append text (next ++ rest), length-append next rest),
  subst (λ (l : List ℕ). Appends a c l)
      (sym (ap (take (length text + n)) is ∙ take-append-add text (next ++ rest) n
      ∙ ap (λ (l : List ℕ). text ++ l) (take-append-le n next rest within)))
      (Appends-trans a b c text (take n next) whole grown),
)

-- nothing was written where nothing but the sink failed, or before it was asked
pub nothing : (a : Option (List ℕ)) (files : List LogFile) → WritesWhole a a files
nothing a files = ([], front-nil files, Appends-nil a)

pub unread : (fault : DiskFault) (e : DumpFault) (a : Option (List ℕ)) (files : List LogFile) → e ≡ fault_of fault
    → WritesFirst e a a files
unread Failed e a files is = subst (λ (e : DumpFault). WritesFirst e a a files) (sym is) (nothing a files)
unread (Memory m) e a files is = subst (λ (e : DumpFault). WritesFirst e a a files) (sym is) (nothing a files)

module _ (told : Bool) (d : State) where
  -- the texts of these files, which are those of the numbers where the disk tells them
  pub record Wrote (numbers : List ℕ) (old new : Option (List ℕ)) : Type 0 where
    pub files : List LogFile
    pub are : IsTrue told → files ≡ files_of d numbers
    pub written : Appends old new (dump_text files)

  pub begins : (a : Option (List ℕ)) → Wrote [] a a
  begins a = record { files = []; are = λ told. refl; written = Appends-nil a }

  texts : (files more : List LogFile) → dump_text (files ++ more) ≡ dump_text files ++ dump_text more
  texts [] more = refl
  texts (file ∷ files) more =
      ap (λ (l : List ℕ). log_text file ++ l) (texts files more)
      ∙ sym (append_assoc (log_text file) (dump_text files) (dump_text more))

  files-append : (numbers more : List ℕ) → files_of d (numbers ++ more) ≡ files_of d numbers ++ files_of d more
  files-append [] more = refl
  files-append (n ∷ numbers) more = ap (λ (l : List LogFile). file_of d n ∷ l) (files-append numbers more)

  -- the file of a number, whose bytes are those that the disk tells
  abbrev pub HasBytes : ℕ → List ℕ → Type 0
  HasBytes number bytes = IsTrue told → bytes ≡ content d (log_of number)

  one : (number : ℕ) (bytes : List ℕ) → HasBytes number bytes → IsTrue told
      → record { number = number; bytes = bytes } ∷ [] ≡ files_of d (number ∷ [])
  one number bytes has told = ap (λ (bs : List ℕ). record { number = number; bytes = bs } ∷ []) (has told)

  one-text : (number : ℕ) (bytes : List ℕ)
      → dump_text (record { number = number; bytes = bytes } ∷ []) ≡ file_text number bytes
  one-text number bytes = append-nil (file_text number bytes)

  module _ (numbers : List ℕ) (number : ℕ) (a b c : Option (List ℕ)) (so : Wrote numbers a b) (bytes : List ℕ)
      (has : HasBytes number bytes) where
    abbrev more : List LogFile
    more = record { number = number; bytes = bytes } ∷ []

    are-more : IsTrue told → so.files ++ more ≡ files_of d (numbers ++ number ∷ [])
    are-more told =
        ap (λ (l : List LogFile). l ++ more) (so.are told)
        ∙ ap (λ (l : List LogFile). files_of d numbers ++ l) (one number bytes has told)
        ∙ sym (files-append numbers (number ∷ []))

    text-more : dump_text (so.files ++ more) ≡ dump_text so.files ++ file_text number bytes
    text-more = texts so.files more ∙ ap (λ (l : List ℕ). dump_text so.files ++ l) (one-text number bytes)

    -- a file's text more
    pub goes-on : Appends b c (file_text number bytes) → Wrote (numbers ++ number ∷ []) a c
    goes-on grown = record {
      files = so.files ++ more;
      are = are-more;
      written = subst (λ (l : List ℕ). Appends a c l) (sym text-more)
          (Appends-trans a b c (dump_text so.files) (file_text number bytes) so.written grown);
    }

    -- what was written of the next file was written of all
    pub stops : (rest : List ℕ) (fault : DumpFault) → WritesFirst fault b c more → (files : List LogFile)
        × (IsTrue told → files ≡ files_of d ((numbers ++ number ∷ []) ++ rest)) × WritesFirst fault a c files
    stops rest fault part = (
      all,
      λ told. ap (λ (l : List LogFile). l ++ files_of d rest) (are-more told)
          ∙ sym (files-append (numbers ++ number ∷ []) rest),
      by fault part,
    )
      where
        all : List LogFile
        all = (so.files ++ more) ++ files_of d rest

        text-is : dump_text all ≡ dump_text so.files ++ (dump_text more ++ dump_text (files_of d rest))
        text-is =
            texts (so.files ++ more) (files_of d rest)
            ∙ ap (λ (l : List ℕ). l ++ dump_text (files_of d rest)) (texts so.files more)
            ∙ append_assoc (dump_text so.files) (dump_text more) (dump_text (files_of d rest))

        whole : WritesWhole b c more → WritesWhole a c all
        whole (front, is, grown) = (
          so.files ++ front,
          front-trans (front-behind so.files front more is) (front-more (so.files ++ more) (files_of d rest)),
          subst (Appends a c) (sym (texts so.files front))
              (Appends-trans a b c (dump_text so.files) (dump_text front) so.written grown),
        )

        by : (fault : DumpFault) → WritesFirst fault b c more → WritesFirst fault a c all
        by Disk part = whole part
        by Sink part =
            first_part a b c (dump_text so.files) (dump_text more) (dump_text (files_of d rest)) (dump_text all)
            so.written part text-is
        by NoMemory part = whole part

-- ---- the numbers of a list, one after the other

-- those up to the next one, and the others
pub split : (numbers : List ℕ) (i : ℕ) → i < length numbers
    → (take i numbers ++ get_or numbers i 0 ∷ []) ++ drop (i + 1) numbers ≡ numbers
split numbers i less =
    ap (λ (l : List ℕ). l ++ drop (i + 1) numbers) (sym (take_more numbers i 0 less))
    ∙ take-append-drop (i + 1) numbers
