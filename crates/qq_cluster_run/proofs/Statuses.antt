-- What an exit status tells of a run.
use Rattle.std.proofs.Common.{◌≡◌, ◌⊎◌, ℕ, ◌+◌, take, Result, Ok, Err, List, ◌++◌, inl, inr, refl, sym, ap, subst, ◌∙◌, codes, arith}
use Rattle.std.proofs.lemmas.Bool.{cases_lt}
use Rattle.qq_script_lines.specs.declared.fault.ScriptFault.{ScriptFault}
use Rattle.qq_script_lines.specs.declared.fault.ScriptFault.TheVariants as faults
use Rattle.qq_script_lines.specs.declared.line.ScriptLine.{ScriptLine}
use Rattle.qq_script_lines.specs.declared.line.ScriptLine.TheVariants.{Attach, Crash, Restart}
use Rattle.qq_ports.specs.Streams.{ShelfState}
use Rattle.qq_route.specs.declared.setup.Setup.{Setup}
use Rattle.qq_words.specs.declared.options.Options.{Options}
use Rattle.qq_cluster_run.specs.declared.ending.TheConstants.{LINES_LIMIT}
use Rattle.qq_cluster_run.specs.declared.stop.Stop.{Stop}
use Rattle.qq_cluster_run.specs.declared.stop.Stop.TheVariants as stops
use Rattle.qq_cluster_run.specs.Endings.{Ending, usage, refusal, limit_body, limit_lines, no_memory}
use Rattle.qq_cluster_run.specs.Inputs.{Input}
use Rattle.qq_cluster_run.specs.Reading.{Asks, Ends, read_input, says_by, says}
use Rattle.qq_cluster_run.specs.Serving.{StopsAt, MayStop, EndsRun}
use Rattle.qq_cluster_run.specs.Runs.{HasStopped, IsRefusal, ending_of, IsSetup, MayNotOpen, Closes, HasRun}
use Rattle.qq_cluster_run.proofs.Says.{says_within, says_past}
use Rattle.qq_cluster_run.proofs.Feeds.{all-served}
use Rattle.qq_cluster_run.specs.Troubles.{Damage, AtPlace, OfVersion, damage_ending}
use Rattle.qq_cluster_run.specs.Statuses.{Account, first_streams, last_streams, HasEnded, HasEndedAtWords, Over, run_over, setup_over, Prints, IsNext, Met, Claimed, IsCourse, PrintsAlone, CutWithin, CutAtClosing, CutAtOpening, CutBeforeSetup, NoDisk, AtCrash, DamagedAtOpening, DamagedAtRestart, LostAtOpening, LostAtRestart, PassesLimit, NoneAtOpening, NoneWithin, SpentAtOpening, SpentAtLine, Told, Done, Refused, ReadFault, WriteFault, YardFault, Damaged, Lost, Limited, NoMemory, Spent}

-- ---- before a line is read

alone : (s : Account) (text other : List ℕ) → text ≡ other → s.rest ≡ s.bytes → s.new ≡ s.old ++ text → PrintsAlone s other
alone s text other same rest grown = (rest, grown ∙ ap (λ (l : List ℕ). s.old ++ l) same)

damage_status : (node : ℕ) (damage : Damage) → (damage_ending node damage).status ≡ 8
damage_status node (AtPlace file place) = refl
damage_status node (OfVersion file byte) = refl

-- there is no memory
none_told : (n : ℕ) (options : Options) (s : Account) (ending : Ending) → ending ≡ no_memory → n ≡ ending.status
    → s.rest ≡ s.bytes → s.new ≡ s.old ++ ending.text → Told n options s
none_told n options s ending e is rest grown =
    NoMemory (is ∙ ap (λ (e : Ending). e.status) e)
    (NoneAtOpening (alone s ending.text (codes "memory\n") (ap (λ (e : Ending). e.text) e) rest grown))

unopened_told : (n : ℕ) (options : Options) (s : Account) (setup : Setup) → IsSetup options setup → (ending : Ending)
    → MayNotOpen (Met s) setup ending → n ≡ ending.status → s.rest ≡ s.bytes → s.new ≡ s.old ++ ending.text
    → Told n options s
unopened_told n options s setup is_setup ending (inr (logs, inl e)) is rest grown =
    none_told n options s ending e is rest grown
unopened_told n options s setup is_setup ending (inr (logs, inr (inl (cause, e)))) is rest grown =
    YardFault (is ∙ ap (λ (e : Ending). e.status) e)
    (NoDisk setup is_setup logs cause
    (alone s ending.text (codes "yard fault\n") (ap (λ (e : Ending). e.text) e) rest grown))
unopened_told n options s setup is_setup ending (inr (logs, inr (inr (inl so)))) is rest grown =
    Damaged (is ∙ ap (λ (e : Ending). e.status) so.is ∙ damage_status so.at.node so.damage)
    (DamagedAtOpening setup is_setup logs ending so (rest, grown))
unopened_told n options s setup is_setup ending (inl so) is rest grown =
    Lost (is ∙ ap (λ (e : Ending). e.status) so.is) (LostAtOpening setup is_setup ending so (rest, grown))
unopened_told n options s setup is_setup ending (inr (logs, inr (inr (inr so)))) is rest grown =
    Spent (is ∙ ap (λ (e : Ending). e.status) so.is) (SpentAtOpening setup is_setup logs ending so (rest, grown))

-- ---- a line ends the run

-- by what it says
data IsSaid (setup : Setup) (lines : ℕ) (input : Input) (ending : Ending) : Type 0 where
  Refuses : (fault : ScriptFault) → read_input setup (lines + 1) input ≡ Err fault → ending ≡ refusal (lines + 1) fault
      → IsSaid setup lines input ending
  Passes : PassesLimit setup lines input ending.text → ending.status ≡ 11 → IsSaid setup lines input ending

said_by : (setup : Setup) (lines : ℕ) (input : Input) (ending : Ending) (read : Result ScriptLine ScriptFault)
    → read_input setup (lines + 1) input ≡ read → says_by (lines + 1) read ≡ Ends ending → IsSaid setup lines input ending
said_by setup lines input ending (Ok line) reads is = absurd cc
said_by setup lines input ending (Err (faults.Body size)) reads is =
    let same : limit_body size ≡ ending = cc in
    Passes (inr (size, reads, ap (λ (e : Ending). e.text) (sym same))) (ap (λ (e : Ending). e.status) (sym same))
said_by setup lines input ending (Err faults.Unknown) reads is =
    let same : refusal (lines + 1) faults.Unknown ≡ ending = cc in Refuses faults.Unknown reads (sym same)
said_by setup lines input ending (Err faults.Words) reads is =
    let same : refusal (lines + 1) faults.Words ≡ ending = cc in Refuses faults.Words reads (sym same)
said_by setup lines input ending (Err faults.Number) reads is =
    let same : refusal (lines + 1) faults.Number ≡ ending = cc in Refuses faults.Number reads (sym same)
said_by setup lines input ending (Err faults.NoSuch) reads is =
    let same : refusal (lines + 1) faults.NoSuch ≡ ending = cc in Refuses faults.NoSuch reads (sym same)
said_by setup lines input ending (Err faults.TooLong) reads is =
    let same : refusal (lines + 1) faults.TooLong ≡ ending = cc in Refuses faults.TooLong reads (sym same)
said_by setup lines input ending (Err faults.Session) reads is =
    let same : refusal (lines + 1) faults.Session ≡ ending = cc in Refuses faults.Session reads (sym same)
said_by setup lines input ending (Err (faults.Memory memory)) reads is =
    let same : refusal (lines + 1) (faults.Memory memory) ≡ ending = cc in
    Refuses (faults.Memory memory) reads (sym same)

of_said : (setup : Setup) (lines : ℕ) (input : Input) (ending : Ending) → says setup lines input ≡ Ends ending
    → IsSaid setup lines input ending
of_said setup lines input ending is = elim (cases_lt lines LINES_LIMIT) [
  | inl lt ↦ said_by setup lines input ending (read_input setup (lines + 1) input) refl
      (sym (says_within setup lines input lt) ∙ is)
  | inr le ↦
      let past : Ends limit_lines ≡ Ends ending = sym (says_past setup lines input le) ∙ is in
      let same : limit_lines ≡ ending = cc in
      Passes (inl (le, ap (λ (e : Ending). e.text) (sym same))) (ap (λ (e : Ending). e.status) (sym same))
]

said_told : (n : ℕ) (options : Options) (s : Account) (over : Over options s) (input : Input) (ending : Ending)
    → IsNext over input → n ≡ ending.status → Prints over ending.text → (IsRefusal ending → IsCourse over)
    → IsSaid over.setup (run_over over).lines input ending → Told n options s
said_told n options s over input ending next is grown course (Refuses fault reads same) =
    Refused (is ∙ ap (λ (e : Ending). e.status) same)
    (record {
      over = over;
      input = input;
      is_next = next;
      fault = fault;
      faulty = inl reads;
      course = course (inl (ap (λ (e : Ending). e.status) same));
      prints = subst (Prints over) (ap (λ (e : Ending). e.text) same) grown;
    })
said_told n options s over input ending next is grown course (Passes passes eleven) =
    Limited (is ∙ eleven)
    (record {
      over = over;
      input = input;
      is_next = next;
      text = ending.text;
      passes = passes;
      course = course (inr eleven);
      prints = grown;
    })

-- by what it asks for
stops_told : (n : ℕ) (options : Options) (s : Account) (over : Over options s) (input : Input) (line : ScriptLine)
    (ending : Ending) → IsNext over input → says over.setup (run_over over).lines input ≡ Asks line → n ≡ ending.status
    → Prints over ending.text → (IsRefusal ending → IsCourse over)
    → StopsAt (Met s) (setup_over over) (run_over over).events ((run_over over).lines + 1) line ending
    → Told n options s
stops_told n options s over input (Attach by at tag taker) ending next asks is grown course (gone, same) =
    Refused (is ∙ ap (λ (e : Ending). e.status) same)
    (record {
      over = over;
      input = input;
      is_next = next;
      fault = faults.NoSuch;
      faulty = inr (refl, record { by = by; at = at; tag = tag; number = taker; asks = asks; met = gone });
      course = course (inl (ap (λ (e : Ending). e.status) same));
      prints = subst (Prints over) (ap (λ (e : Ending). e.text) same) grown;
    })
stops_told n options s over input (Crash nodes image) ending next asks is grown course (rose, same) =
    YardFault (is ∙ ap (λ (e : Ending). e.status) same)
    (AtCrash rose over nodes image (input, next, asks) (subst (Prints over) (ap (λ (e : Ending). e.text) same) grown))
stops_told n options s over input (Restart nodes) ending next asks is grown course (inl so) =
    Damaged (is ∙ ap (λ (e : Ending). e.status) so.is ∙ damage_status so.at.node so.damage)
    (DamagedAtRestart over nodes ending so (input, next, asks) grown)
stops_told n options s over input (Restart nodes) ending next asks is grown course (inr so) =
    Lost (is ∙ ap (λ (e : Ending). e.status) so.is) (LostAtRestart over nodes ending so (input, next, asks) grown)
stops_told n options s over input _ ending next asks is grown course stops = absurd stops

may_stop_told : (n : ℕ) (options : Options) (s : Account) (over : Over options s) (input : Input) (line : ScriptLine)
    (ending : Ending) → IsNext over input → says over.setup (run_over over).lines input ≡ Asks line → n ≡ ending.status
    → Prints over ending.text → (IsRefusal ending → IsCourse over)
    → MayStop (Met s) (setup_over over) (run_over over).events ((run_over over).lines + 1) line ending
    → Told n options s
may_stop_told n options s over input line ending next asks is grown course (inl so) =
    Spent (is ∙ ap (λ (e : Ending). e.status) so.is) (SpentAtLine over line ending so (input, next, asks) grown)
may_stop_told n options s over input line ending next asks is grown course (inr stops) =
    stops_told n options s over input line ending next asks is grown course stops

ends_told : (n : ℕ) (options : Options) (s : Account) (over : Over options s) (input : Input) (ending : Ending)
    → IsNext over input → n ≡ ending.status → Prints over ending.text → (IsRefusal ending → IsCourse over)
    → EndsRun (Met s) over.setup (run_over over) input ending → Told n options s
ends_told n options s over input ending next is grown course (inl says') =
    said_told n options s over input ending next is grown course
    (of_said over.setup (run_over over).lines input ending says')
ends_told n options s over input ending next is grown course (inr stops) =
    may_stop_told n options s over input stops.line ending next stops.asks is grown course stops.stops

-- ---- a run that stopped

stopped_told : (n : ℕ) (options : Options) (s : Account) (setup : Setup) → IsSetup options setup → (stop : Stop)
    → n ≡ (ending_of stop).status
    → HasStopped stop setup (first_streams s) (last_streams s) (Met s) (Claimed s) (ending_of stop).text
    → Told n options s
stopped_told n options s setup is_setup (stops.Ended ending) is (may, ends) =
    let over : Over options s = record { setup = setup; is_setup = is_setup; served = ends.served } in
    ends_told n options s over ends.next.input ending (ends.next.more, ends.next.is) is ends.written
    ends.finally ends.next.ends
stopped_told n options s setup is_setup stops.ReadFault is (rose, answers) =
    ReadFault is
    (record {
      rose = rose;
      over = record { setup = setup; is_setup = is_setup; served = answers.served };
      piece = answers.is_piece;
      all = λ read is. all-served s.bytes s.rest read answers.served.piece answers.served.behind.read
          answers.served.left answers.served.behind.is answers.served.unread answers.is_piece answers.served.ends is;
      course = answers.finally;
      prints = answers.written;
    })
stopped_told n options s setup is_setup stops.WriteFault is (rose, breaks) =
    WriteFault is rose (CutWithin setup is_setup breaks)
stopped_told n options s setup is_setup stops.NoMemory is breaks =
    NoMemory is (NoneWithin setup is_setup breaks)

closes_told : (n : ℕ) (options : Options) (s : Account) (setup : Setup) → IsSetup options setup → (stop : Stop)
    → Closes n (ending_of stop) (first_streams s).sink (last_streams s).sink
    (λ more. HasStopped stop setup (first_streams s) (last_streams s) (Met s) (Claimed s) more)
    → Told n options s
closes_told n options s setup is_setup stop (inl (is, stands)) = stopped_told n options s setup is_setup stop is stands
closes_told n options s setup is_setup stop (inr (is, rose, (count, stands))) =
    WriteFault is rose (CutAtClosing setup is_setup stop count stands)

unopened_closes : (n : ℕ) (options : Options) (s : Account) (setup : Setup) → IsSetup options setup → (ending : Ending)
    → MayNotOpen (Met s) setup ending → s.rest ≡ s.bytes
    → Closes n ending (first_streams s).sink (last_streams s).sink (λ more. s.new ≡ s.old ++ more) → Told n options s
unopened_closes n options s setup is_setup ending may rest (inl (is, grown)) =
    unopened_told n options s setup is_setup ending may is rest grown
unopened_closes n options s setup is_setup ending may rest (inr (is, rose, (count, grown))) =
    WriteFault is rose (CutAtOpening setup is_setup ending may count (rest, grown))

none_closes : (n : ℕ) (options : Options) (s : Account) (ending : Ending) → ending ≡ no_memory → s.rest ≡ s.bytes
    → Closes n ending (first_streams s).sink (last_streams s).sink (λ more. s.new ≡ s.old ++ more) → Told n options s
none_closes n options s ending e rest (inl (is, grown)) = none_told n options s ending e is rest grown
none_closes n options s ending e rest (inr (is, rose, (count, grown))) =
    WriteFault is rose
    (CutBeforeSetup count (rest, grown ∙ ap (λ (e : Ending). s.old ++ take count e.text) e))

-- ---- any run

over_told : (n : ℕ) (options : Options) (s : Account) (setup : Setup) → IsSetup options setup
    → HasRun n setup (first_streams s) (last_streams s) (Met s) (Claimed s) → Told n options s
over_told n options s setup is_setup (inl unopened) =
    unopened_closes n options s setup is_setup unopened.ending unopened.may unopened.keeps unopened.closes
over_told n options s setup is_setup (inr (inl done)) =
    Done done.status_is
    (record {
      over = record { setup = setup; is_setup = is_setup; served = done.over.served };
      all = done.over.all;
      read = done.ended;
      course = done.over.finally;
      prints = done.over.written;
    })
over_told n options s setup is_setup (inr (inr stopped)) =
    closes_told n options s setup is_setup stopped.stop stopped.closes

pub told : (n : ℕ) (options : Options) (s : Account) → HasEnded n options s → Told n options s
told n options s (inl unopened) =
    none_closes n options s unopened.ending unopened.may unopened.keeps unopened.closes
told n options s (inr over) = over_told n options s over.setup over.is_setup over.ends

-- ---- words that are no command

pub words_usage : (first last : ShelfState) (s : Account) → HasEndedAtWords 2 first last s
    → (s.rest ≡ s.bytes) × (s.new ≡ s.old ++ usage.text)
words_usage first last s unopened = by unopened.may unopened.closes
  where
    by : (unopened.ending ≡ usage) ⊎ (unopened.ending ≡ no_memory)
        → Closes 2 unopened.ending (first_streams s).sink (last_streams s).sink (λ more. s.new ≡ s.old ++ more)
        → (s.rest ≡ s.bytes) × (s.new ≡ s.old ++ usage.text)
    by (inl e) (inl (is, grown)) = (unopened.keeps, grown ∙ ap (λ (e : Ending). s.old ++ e.text) e)
    by (inr e) (inl (is, grown)) =
        let same : 2 ≡ 12 = is ∙ ap (λ (e : Ending). e.status) e in absurd (omega (arith, same))
    by may (inr (is, rose, part)) = absurd (omega (arith, is))
