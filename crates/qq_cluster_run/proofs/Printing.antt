-- What runs print, and which statuses are left where all lines are served.
use Rattle.std.proofs.Common.{◌≡◌, ◌⊎◌, ℕ, ◌+◌, zero, suc, false, List, [], ◌∷◌, ◌++◌, length, Option, Some, None, Err, inl, inr, refl, sym, ap, subst, ◌∙◌, append-nil, zero-add, arith}
use Rattle.std.specs.Prelude.{Contains}
use Rattle.std.specs.List.{AllByRecursion, range_with_len}
use Rattle.std.proofs.lemmas.Bool.{cases_lt}
use Rattle.qq_script_lines.specs.declared.fault.ScriptFault.{ScriptFault}
use Rattle.qq_script_lines.specs.declared.fault.ScriptFault.TheVariants as faults
use Rattle.qq_log.specs.Stable.{Stable}
use Rattle.qq_route.specs.declared.setup.Setup.{Setup}
use Rattle.qq_words.specs.declared.options.Options.{Options}
use Rattle.qq_script_lines.specs.declared.line.ScriptLine.{ScriptLine}
use Rattle.qq_cluster_model.specs.Cluster.{Setup as ClusterSetup, ClusterEvent, new_cluster}
use Rattle.qq_cluster_model.specs.ClusterLaws.{LeavesNoChoice, has_failure, findings, verdicts}
use Rattle.qq_cluster_model.specs.Lines.{IsRun}
use Rattle.qq_cluster_run.specs.declared.ending.TheConstants.{LINES_LIMIT}
use Rattle.qq_cluster_run.specs.Endings.{limit_lines}
use Rattle.qq_cluster_run.specs.Inputs.{Input, inputs_of}
use Rattle.qq_cluster_run.specs.Reading.{Asks, Ends, read_input, says_by, says, AskFor}
use Rattle.qq_cluster_run.specs.Serving.{AnyDisks, Behind, IsReadOf, setup_behind, text_behind, audits_behind}
use Rattle.qq_cluster_run.specs.Setup.{Logs, cluster_over, cluster_setup}
use Rattle.qq_cluster_run.specs.Troubles.{Trouble, YardFails, DiskFails, TakerIsGone}
use Rattle.qq_cluster_run.specs.Runs.{IsSetup}
use Rattle.qq_cluster_run.specs.Statuses.{Account, Met, Had, HasEnded, Over, run_over, IsNext, IsFaulty, IsRefused, IsYardFault, NoDisk, AtCrash, MeetsDamage, DamagedAtOpening, DamagedAtRestart, HasLost, LostAtOpening, LostAtRestart, IsSpent, SpentAtOpening, SpentAtLine, PassesLimit, Told, Done, Refused, ReadFault, WriteFault, YardFault, Damaged, Lost, Limited, NoMemory, Spent}
use Rattle.qq_cluster_run.specs.Printing.{HasNoFault}
use Rattle.qq_cluster_run.proofs.Says.{says_within, says_past}
use Rattle.qq_cluster_run.proofs.Statuses.{told}

-- ---- two runs over the same lines

-- where the logs held the same, no call of a disk failed and restarts found the same, they went alike
abbrev GoAlike : {s : Setup} {all : List Input} → Behind AnyDisks s all [] → Behind AnyDisks s all [] → Type 0
GoAlike b c =
    b.logs ≡ c.logs → has_failure b.events ≡ false → has_failure c.events ≡ false → findings b.events ≡ findings c.events
    → verdicts b.events ≡ verdicts c.events → b.events ≡ c.events

pub asked-once : (s : Setup) (before : ℕ) (inputs : List Input) (lines others : List ScriptLine) → AskFor s before inputs lines
    → AskFor s before inputs others → lines ≡ others
asked-once s before [] [] [] asked also = refl
asked-once s before [] [] (other ∷ others) asked also = absurd also
asked-once s before [] (line ∷ lines) others asked also = absurd asked
asked-once s before (input ∷ inputs) [] others asked also = absurd asked
asked-once s before (input ∷ inputs) (line ∷ lines) [] asked also = absurd also
asked-once s before (input ∷ inputs) (line ∷ lines) (other ∷ others) (is, asked) (also_is, also) =
    let heads : Asks line ≡ Asks other = sym is ∙ also_is in
    let head : line ≡ other = cc in
    let tail : lines ≡ others = asked-once s (before + 1) inputs lines others asked also in
    ap (λ (l : ScriptLine). l ∷ lines) head ∙ ap (λ (ls : List ScriptLine). other ∷ ls) tail

abbrev pub Settles : Type 0
Settles = (setup : ClusterSetup) (lines : List ScriptLine) → LeavesNoChoice (IsRun setup lines) (new_cluster setup)

pub go_alike : Settles → (s : Setup) (all : List Input) (b c : Behind AnyDisks s all []) → GoAlike b c
go_alike settle s all b c logs fine also same judged =
    let whole : all ≡ b.read = b.is ∙ append-nil b.read in
    let other : all ≡ c.read = c.is ∙ append-nil c.read in
    let lines : c.lines ≡ b.lines = asked-once s 0 all c.lines b.lines
    (subst (λ (inputs : List Input). AskFor s 0 inputs c.lines) (sym other) c.asked)
    (subst (λ (inputs : List Input). AskFor s 0 inputs b.lines) (sym whole) b.asked) in
    settle (cluster_over s b.logs) b.lines b.events c.events b.allowed
    (subst (λ (ls : List ScriptLine). IsRun (cluster_over s b.logs) ls (new_cluster (cluster_over s b.logs)) c.events)
    lines
    (subst (λ (logs : Logs). IsRun (cluster_over s logs) c.lines (new_cluster (cluster_over s logs)) c.events)
    (sym logs) c.allowed)) fine also same judged

-- ---- a line that asks for something doesn't end the script

-- a taker was to be given that isn't there
abbrev IsMissing : Account → Type 0
IsMissing s =
    (setup : ClusterSetup)
    × ((events : List ClusterEvent) × ((number : ℕ) × Contains s.troubles (TakerIsGone setup events number)))

-- all is served, a taker that is to be given isn't there, the disk or its files stop the run, there is no memory, or a
-- number stands at its end
abbrev IsServedStatus : Account → ℕ → Type 0
IsServedStatus s n =
    (n ≡ 0) ⊎ (((n ≡ 4) × IsMissing s) ⊎ ((n ≡ 7) ⊎ ((n ≡ 8) ⊎ ((n ≡ 9) ⊎ ((n ≡ 12) ⊎ (n ≡ 20))))))

record AsksFor (s : Setup) (lines : ℕ) (input : Input) : Type 0 where
  line : ScriptLine
  is : says s lines input ≡ Asks line

asks-at : (s : Setup) (before : ℕ) (read : List Input) (input : Input) (more : List Input) (lines : List ScriptLine)
    → AskFor s before (read ++ input ∷ more) lines → AsksFor s (before + length read) input
asks-at s before [] input more [] asked = absurd asked
asks-at s before [] input more (line ∷ lines) asked =
    let here : before ≡ before + 0 = omega arith in
    let asks : AsksFor s before input = record { line = line; is = asked.0 } in
    subst (λ (n : ℕ). AsksFor s n input) here asks
asks-at s before (first ∷ read) input more [] asked = absurd asked
asks-at s before (first ∷ read) input more (line ∷ lines) asked =
    let there : (before + 1) + length read ≡ before + suc (length read) = omega arith in
    subst (λ (n : ℕ). AsksFor s n input) there (asks-at s (before + 1) read input more lines asked.1)

next-asks : (options : Options) (s : Account) → HasNoFault options s → (over : Over options s) (input : Input)
    → IsNext over input → AsksFor over.setup (run_over over).lines input
next-asks options s fine over input (more, is) =
    let b = over.served.behind in
    let all = fine.asks over.setup over.is_setup in
    let parts : inputs_of s.bytes ≡ b.read ++ input ∷ more = b.is ∙ ap (λ (l : List Input). b.read ++ l) is in
    subst (λ (n : ℕ). AsksFor over.setup n input) (zero-add (length b.read))
    (asks-at over.setup 0 b.read input more all.0
    (subst (λ (inputs : List Input). AskFor over.setup 0 inputs all.0) parts all.1))

says-fault : (s : Setup) (lines : ℕ) (input : Input) (fault : ScriptFault) → read_input s (lines + 1) input ≡ Err fault
    → AsksFor s lines input → ⊥
says-fault s lines input fault reads asks = elim (cases_lt lines LINES_LIMIT) [
  | inl lt ↦ by fault (sym (ap (says_by (lines + 1)) reads) ∙ sym (says_within s lines input lt) ∙ asks.is)
  | inr le ↦ let e : Ends limit_lines ≡ Asks asks.line = sym (says_past s lines input le) ∙ asks.is in absurd cc
]
  where
    by : (f : ScriptFault) → says_by (lines + 1) (Err f) ≡ Asks asks.line → ⊥
    by (faults.Body size) is = absurd cc
    by faults.Unknown is = absurd cc
    by faults.Words is = absurd cc
    by faults.Number is = absurd cc
    by faults.NoSuch is = absurd cc
    by faults.TooLong is = absurd cc
    by faults.Session is = absurd cc
    by (faults.Memory memory) is = absurd cc

passes-none : (s : Setup) (lines : ℕ) (input : Input) (text : List ℕ) → PassesLimit s lines input text
    → AsksFor s lines input → ⊥
passes-none s lines input text (inl (le, is)) asks =
    let e : Ends limit_lines ≡ Asks asks.line = sym (says_past s lines input le) ∙ asks.is in absurd cc
passes-none s lines input text (inr (size, reads, is)) asks = says-fault s lines input (faults.Body size) reads asks

-- a line that asks for something is refused for want of a taker alone
refused-missing : (options : Options) (s : Account) → HasNoFault options s → (so : IsRefused options s) → IsMissing s
refused-missing options s fine so = by so.faulty
  where
    by : IsFaulty so.over so.input so.fault → IsMissing s
    by (inl reads) =
        absurd (says-fault so.over.setup (run_over so.over).lines so.input so.fault reads
        (next-asks options s fine so.over so.input so.is_next))
    by (inr (is, missing)) = (_, (_, (missing.number, missing.met)))

pub served_status : (n : ℕ) (options : Options) (s : Account) → HasEnded n options s → HasNoFault options s
    → IsServedStatus s n
unfolding refused-missing
served_status n options s ended fine = by (told n options s ended)
  where
    by : Told n options s → IsServedStatus s n
    by (Done is served) = inl is
    by (Refused is so) = inr (inl (is, refused-missing options s fine so))
    by (ReadFault is so) = absurd (fine.read so.rose)
    by (WriteFault is rose so) = absurd (fine.written rose)
    by (YardFault is so) = inr (inr (inl is))
    by (Damaged is so) = inr (inr (inr (inl is)))
    by (Lost is so) = inr (inr (inr (inr (inl is))))
    by (Limited is so) =
        absurd (passes-none so.over.setup (run_over so.over).lines so.input so.text so.passes
        (next-asks options s fine so.over so.input so.is_next))
    by (NoMemory is so) = inr (inr (inr (inr (inr (inl is)))))
    by (Spent is so) = inr (inr (inr (inr (inr (inr is)))))

-- ---- no trouble

-- a list without items has none
has-none : (xs : List Trouble) (x : Trouble) → xs ≡ [] → Contains xs x → ⊥
has-none xs x none (at, lt, is) =
    let empty : length xs ≡ 0 = ap length none in absurd (omega (arith, empty, lt))

abbrev IsFineStatus : ℕ → Type 0
IsFineStatus n = (n ≡ 0) ⊎ (n ≡ 12)

no-yard : (options : Options) (s : Account) → s.troubles ≡ [] → IsYardFault options s → ⊥
no-yard options s none (NoDisk setup is_setup logs (inl yard) alone) = has-none s.troubles YardFails none yard
no-yard options s none (NoDisk setup is_setup logs (inr (some, disks)) alone) =
    has-none s.troubles (DiskFails 1) none (first-of setup.nodes some disks)
  where
    first-of : (n : ℕ) → (range_with_len 1 n ≡ [] → ⊥)
        → AllByRecursion (λ (k : ℕ). Met s (DiskFails k)) (range_with_len 1 n) → Met s (DiskFails 1)
    first-of zero some each = absurd (some refl)
    first-of (suc n) some each = each.0
no-yard options s none (AtCrash yard over nodes image asks prints) = has-none s.troubles YardFails none yard

no-damage : (options : Options) (s : Account) → s.troubles ≡ [] → MeetsDamage options s → ⊥
no-damage options s none (DamagedAtOpening setup is_setup logs ending so alone) = has-none s.troubles _ none so.broken
no-damage options s none (DamagedAtRestart over nodes ending so asks prints) = has-none s.troubles _ none so.broken

no-lost : (options : Options) (s : Account) → s.troubles ≡ [] → HasLost options s → ⊥
no-lost options s none (LostAtOpening setup is_setup ending so alone) =
    met (so.lanes so.node.0) so.found (so.read so.node so.member so.there)
  where
    met : (lane : Option Stable) → lane ≡ Some so.lane → IsReadOf (Met s) (cluster_setup setup) so.node.0 so.place lane → ⊥
    met None is read = absurd cc
    met (Some lane) is read = has-none s.troubles _ none read
no-lost options s none (LostAtRestart over nodes ending so asks prints) = has-none s.troubles _ none so.found

no-spent : (options : Options) (s : Account) → s.troubles ≡ [] → IsSpent options s → ⊥
no-spent options s none (SpentAtOpening setup is_setup logs ending so alone) = has-none s.troubles _ none so.stands
no-spent options s none (SpentAtLine over line ending so asks prints) = has-none s.troubles _ none so.stands

pub fine_status : (n : ℕ) (options : Options) (s : Account) → HasEnded n options s → HasNoFault options s
    → s.troubles ≡ [] → IsFineStatus n
fine_status n options s ended fine none = by (told n options s ended)
  where
    by : Told n options s → IsFineStatus n
    by (Done is served) = inl is
    by (Refused is so) =
        let missing : IsMissing s = refused-missing options s fine so in
        absurd (has-none s.troubles (TakerIsGone missing.0 missing.1.0 missing.1.1.0) none missing.1.1.1)
    by (ReadFault is so) = absurd (fine.read so.rose)
    by (WriteFault is rose so) = absurd (fine.written rose)
    by (YardFault is so) = absurd (no-yard options s none so)
    by (Damaged is so) = absurd (no-damage options s none so)
    by (Lost is so) = absurd (no-lost options s none so)
    by (Limited is so) =
        absurd (passes-none so.over.setup (run_over so.over).lines so.input so.text so.passes
        (next-asks options s fine so.over so.input so.is_next))
    by (NoMemory is so) = inr is
    by (Spent is so) = absurd (no-spent options s none so)

-- ---- a script that ends with 0

-- it printed the text of all its lines and the audits
abbrev PrintsAll : Options → Account → Type 0
PrintsAll options s =
    (setup : Setup) × IsSetup options setup
    × ((b : Behind (Had s) setup (inputs_of s.bytes) []) × (s.rest ≡ [])
    × Contains s.histories (setup_behind b, b.events) × Contains s.courses (setup_behind b, b.events)
    × (s.new ≡ s.old ++ (text_behind b ++ audits_behind b)))

-- what is left is nothing
record AllServed (options : Options) (s : Account) (setup : Setup) (left : List Input)
    (b : Behind (Had s) setup (inputs_of s.bytes) left) : Type 0 where
  behind : Behind (Had s) setup (inputs_of s.bytes) []
  setup_is : setup_behind behind ≡ setup_behind b
  events : behind.events ≡ b.events
  text : text_behind b ++ audits_behind b ≡ text_behind behind ++ audits_behind behind

all-served : (options : Options) (s : Account) (setup : Setup) (left : List Input)
    (b : Behind (Had s) setup (inputs_of s.bytes) left) → left ≡ [] → AllServed options s setup left b
all-served options s setup left b none = record {
  behind = record {
    read = b.read;
    is = b.is ∙ ap (λ (l : List Input). b.read ++ l) none;
    lines = b.lines;
    asked = b.asked;
    logs = b.logs;
    begins = b.begins;
    events = b.events;
    allowed = b.allowed;
    opened = b.opened;
    disks = b.disks;
  };
  setup_is = refl;
  events = refl;
  text = refl;
}

-- nothing has happened but what served all lines
all-course : (options : Options) (s : Account) (setup : Setup) (left : List Input)
    (b : Behind (Had s) setup (inputs_of s.bytes) left) → (all : AllServed options s setup left b)
    → Contains s.courses (setup_behind b, b.events) → Contains s.courses (setup_behind all.behind, all.behind.events)
all-course options s setup left b all course =
    subst (λ (es : List ClusterEvent). Contains s.courses (setup_behind all.behind, es)) (sym all.events)
    (subst (λ (c : ClusterSetup). Contains s.courses (c, b.events)) (sym all.setup_is) course)

pub prints_all : (options : Options) (s : Account) → HasEnded 0 options s → PrintsAll options s
prints_all options s ended = by (told 0 options s ended)
  where
    by : Told 0 options s → PrintsAll options s
    by (Done is so) =
        let all = all-served options s so.over.setup so.over.served.left so.over.served.behind so.all in (
          so.over.setup,
          so.over.is_setup,
          (
            all.behind,
            so.read,
            all.behind.disks,
            all-course options s so.over.setup so.over.served.left
                so.over.served.behind all so.course,
            so.prints ∙ ap (λ (l : List ℕ). s.old ++ l) all.text,
          ),
        )
    by (Refused is so) = absurd (omega (arith, is))
    by (ReadFault is so) = absurd (omega (arith, is))
    by (WriteFault is rose so) = absurd (omega (arith, is))
    by (YardFault is so) = absurd (omega (arith, is))
    by (Damaged is so) = absurd (omega (arith, is))
    by (Lost is so) = absurd (omega (arith, is))
    by (Limited is so) = absurd (omega (arith, is))
    by (NoMemory is so) = absurd (omega (arith, is))
    by (Spent is so) = absurd (omega (arith, is))
