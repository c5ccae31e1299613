-- What is told of lines that are refused, and that nothing has happened but what served those before them.
use Rattle.std.proofs.Common.{◌≡◌, ◌⊎◌, ℕ, ◌+◌, Err, List, ◌∷◌, ◌++◌, length, inl, inr, arith}
use Rattle.std.specs.Prelude.{Contains, codes}
use Rattle.std.specs.Fmt.{decimal}
use Rattle.qq_base.specs.declared.ids.QueueId.{QueueId}
use Rattle.qq_base.specs.declared.ids.SessionId.{SessionId}
use Rattle.qq_route.specs.declared.setup.Setup.{Setup}
use Rattle.qq_script_lines.specs.declared.fault.ScriptFault.{ScriptFault}
use Rattle.qq_script_lines.specs.declared.fault.ScriptFault.TheVariants.{NoSuch}
use Rattle.qq_script_lines.specs.declared.line.ScriptLine.TheVariants.{Attach}
use Rattle.qq_words.specs.declared.options.Options.{Options}
use Rattle.qq_cluster_run.specs.Endings.{fault_text}
use Rattle.qq_cluster_run.specs.Inputs.{Input, inputs_of}
use Rattle.qq_cluster_run.specs.Reading.{Asks, read_input, says}
use Rattle.qq_cluster_run.specs.Runs.{IsSetup}
use Rattle.qq_cluster_run.specs.Serving.{Behind, setup_behind, text_behind, audits_behind}
use Rattle.qq_cluster_run.specs.Statuses.{Account, Had, HasEnded, Over, IsCourse, Prints, IsFaulty, IsRefused, Told, Done, Refused, ReadFault, WriteFault, YardFault, Damaged, Lost, Limited, NoMemory, Spent}
use Rattle.qq_cluster_run.specs.Troubles.{TakerIsGone}
use Rattle.qq_cluster_run.proofs.Statuses.{told}

-- a taker that is to be given isn't there
abbrev IsMissing : (s : Account) (setup : Setup) (left : List Input) → Behind (Had s) setup (inputs_of s.bytes) left
    → Input → Type 0
IsMissing s setup left b input =
    (by : SessionId) × ((at : QueueId) × ((tag : ℕ) × ((number : ℕ)
    × (says setup (length b.read) input ≡ Asks (Attach by at tag number))
    × Contains s.troubles (TakerIsGone (setup_behind b) b.events number))))

abbrev IsRefusedBy : Options → Account → Type 0
IsRefusedBy options s =
    (setup : Setup) × IsSetup options setup × ((left : List Input)
    × ((b : Behind (Had s) setup (inputs_of s.bytes) left) × ((input : Input)
    × ((more : List Input) × (left ≡ input ∷ more)) × ((fault : ScriptFault)
    × ((read_input setup (length b.read + 1) input ≡ Err fault)
    ⊎ ((fault ≡ NoSuch) × IsMissing s setup left b input))
    × (s.new ≡ s.old ++ (text_behind b ++ (codes "line " ++ decimal (length b.read + 1) ++ codes ": "
    ++ fault_text fault ++ codes "\n")))))))

pub refused-told : (options : Options) (s : Account) → HasEnded 4 options s → IsRefusedBy options s
refused-told options s ended = by (told 4 options s ended)
  where
    of : (so : IsRefused options s) → IsFaulty so.over so.input so.fault → IsRefusedBy options s
    of so faulty = (
      so.over.setup,
      so.over.is_setup,
      (
        so.over.served.left,
        (
          so.over.served.behind,
          (so.input, so.is_next, (so.fault, why faulty, so.prints)),
        ),
      ),
    )
      where
        why : IsFaulty so.over so.input so.fault
            → (read_input so.over.setup (length so.over.served.behind.read + 1) so.input ≡ Err so.fault)
            ⊎ ((so.fault ≡ NoSuch)
            × IsMissing s so.over.setup so.over.served.left so.over.served.behind so.input)
        why (inl reads) = inl reads
        why (inr (is, missing)) =
            inr (is, (missing.by, (missing.at, (missing.tag, (missing.number, missing.asks, missing.met)))))

    by : Told 4 options s → IsRefusedBy options s
    by (Refused is so) = of so so.faulty
    by (Done is so) = absurd (omega (arith, is))
    by (ReadFault is so) = absurd (omega (arith, is))
    by (WriteFault is rose so) = absurd (omega (arith, is))
    by (YardFault is so) = absurd (omega (arith, is))
    by (Damaged is so) = absurd (omega (arith, is))
    by (Lost is so) = absurd (omega (arith, is))
    by (Limited is so) = absurd (omega (arith, is))
    by (NoMemory is so) = absurd (omega (arith, is))
    by (Spent is so) = absurd (omega (arith, is))

-- ---- nothing more has happened

abbrev HasCourse : Options → Account → Type 0
HasCourse options s =
    (setup : Setup) × IsSetup options setup × ((left : List Input)
    × ((b : Behind (Had s) setup (inputs_of s.bytes) left) × Contains s.courses (setup_behind b, b.events)
    × ((said : List ℕ) × (s.new ≡ s.old ++ (text_behind b ++ said)))))

course-of : (options : Options) (s : Account) (over : Over options s) → IsCourse over → (said : List ℕ)
    → Prints over said → HasCourse options s
course-of options s over course said prints =
    (over.setup, over.is_setup, (over.served.left, (over.served.behind, course, (said, prints))))

-- 0, 4, 5 or 11
abbrev IsWhole : ℕ → Type 0
IsWhole n = (n ≡ 0) ⊎ ((n ≡ 4) ⊎ ((n ≡ 5) ⊎ (n ≡ 11)))

not-whole : (n k : ℕ) → n ≡ k → IsWhole n → (k ≡ 0 → ⊥) → (k ≡ 4 → ⊥) → (k ≡ 5 → ⊥) → (k ≡ 11 → ⊥) → ⊥
not-whole n k is (inl e) a b c d = a (omega (arith, is, e))
not-whole n k is (inr (inl e)) a b c d = b (omega (arith, is, e))
not-whole n k is (inr (inr (inl e))) a b c d = c (omega (arith, is, e))
not-whole n k is (inr (inr (inr e))) a b c d = d (omega (arith, is, e))

pub course-told : (n : ℕ) (options : Options) (s : Account) → HasEnded n options s → IsWhole n → HasCourse options s
course-told n options s ended whole = by (told n options s ended)
  where
    none : (k : ℕ) → n ≡ k → (k ≡ 0 → ⊥) → (k ≡ 4 → ⊥) → (k ≡ 5 → ⊥) → (k ≡ 11 → ⊥) → HasCourse options s
    none k is a b c d = absurd (not-whole n k is whole a b c d)

    by : Told n options s → HasCourse options s
    by (Done is so) = course-of options s so.over so.course (audits_behind so.over.served.behind) so.prints
    by (Refused is so) = course-of options s so.over so.course _ so.prints
    by (ReadFault is so) = course-of options s so.over so.course _ so.prints
    by (Limited is so) = course-of options s so.over so.course so.text so.prints
    by (WriteFault is rose so) =
        none 6 is (λ e. omega (arith, e)) (λ e. omega (arith, e)) (λ e. omega (arith, e)) (λ e. omega (arith, e))
    by (YardFault is so) =
        none 7 is (λ e. omega (arith, e)) (λ e. omega (arith, e)) (λ e. omega (arith, e)) (λ e. omega (arith, e))
    by (Damaged is so) =
        none 8 is (λ e. omega (arith, e)) (λ e. omega (arith, e)) (λ e. omega (arith, e)) (λ e. omega (arith, e))
    by (Lost is so) =
        none 9 is (λ e. omega (arith, e)) (λ e. omega (arith, e)) (λ e. omega (arith, e)) (λ e. omega (arith, e))
    by (NoMemory is so) =
        none 12 is (λ e. omega (arith, e)) (λ e. omega (arith, e)) (λ e. omega (arith, e)) (λ e. omega (arith, e))
    by (Spent is so) =
        none 20 is (λ e. omega (arith, e)) (λ e. omega (arith, e)) (λ e. omega (arith, e)) (λ e. omega (arith, e))
