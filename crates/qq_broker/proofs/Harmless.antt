-- So its status is neither that of a damage nor that of a loss.
use Rattle.std.proofs.Common.{◌≡◌, ◌⊎◌, ◌+◌, ℕ, List, [], ◌∷◌, Result, Ok, Err, Option, Some, refl, sym, ap, subst, ◌∙◌, inl, inr, arith}
use Rattle.std.specs.Prelude.{IfSome, IsTrue}
use Rattle.std.proofs.lemmas.Bool.{cases_lt}
use Rattle.qq_base.proofs.Lists.{In-append_left}
use Rattle.qq_defs.specs.Runnable.{IsRunnable}
use Rattle.qq_disk.specs.declared.image.Image.{Image}
use Rattle.qq_disk.specs.Facts.{DiskFacts}
use Rattle.qq_ports.specs.Streams.{Streams, Writes}
use Rattle.qq_raft_protocol.specs.Facts.{In}
use Rattle.qq_script_lines.specs.declared.fault.ScriptFault.{ScriptFault}
use Rattle.qq_script_lines.specs.declared.fault.ScriptFault.TheVariants as faults_of
use Rattle.qq_script_lines.specs.declared.line.Nodes.{Nodes}
use Rattle.qq_script_lines.specs.declared.line.ScriptLine.{ScriptLine}
use Rattle.qq_script_lines.specs.declared.line.ScriptLine.TheVariants as lines
use Rattle.qq_route.specs.declared.setup.Setup.{Setup}
use Rattle.qq_route.specs.Setup.{state_of}
use Rattle.qq_wal_chain.specs.Image.{HasNoJunk}
use Rattle.qq_cluster_run.specs.declared.ending.TheConstants.{LINES_LIMIT}
use Rattle.qq_cluster_run.specs.declared.stop.Stop.{Stop}
use Rattle.qq_cluster_run.specs.declared.stop.Stop.TheVariants as stops
use Rattle.qq_cluster_run.specs.Endings.{Ending, limit_body, limit_lines, refusal}
use Rattle.qq_cluster_run.specs.Inputs.{Input, inputs_of}
use Rattle.qq_cluster_run.specs.Reading.{AskFor, Asks, Ends, read_input, says, says_by}
use Rattle.qq_cluster_run.specs.Runs.{Closes, EndsBy, HasRun, HasStopped, MayNotOpen, ending_of}
use Rattle.qq_cluster_run.specs.Serving.{Behind, Claims, EndsRun, MayStop, StopsAt, run_behind, setup_behind}
use Rattle.qq_cluster_run.specs.Troubles.{Trouble}
use Rattle.qq_cluster_run.proofs.Says.{says_past, says_within}
use Rattle.qq_broker.specs.Lives.{Giving}
use Rattle.qq_broker.specs.Takers.{RunClaims, RunHad, RunMeets}
use Rattle.qq_taker.specs.Takers.{Takers}
use Rattle.qq_broker.proofs.Keeping.{AreNew}
use Rattle.qq_broker.proofs.Unharmed.{Known, loses-nothing, opens-supported, opens-whole, stays-whole}

-- ---- statuses

abbrev pub IsHarm : ℕ → Type 0
IsHarm status = (status ≡ 8) ⊎ (status ≡ 9)

other-harm : (status other : ℕ) → status ≡ other → (other ≡ 8 → ⊥) → (other ≡ 9 → ⊥) → IsHarm status → ⊥
other-harm status other is eight nine (inl same) = eight (sym is ∙ same)
other-harm status other is eight nine (inr same) = nine (sym is ∙ same)

refused-by : (number : ℕ) (ending : Ending) (read : Result ScriptLine ScriptFault) → says_by number read ≡ Ends ending
    → (ending.status ≡ 4) ⊎ (ending.status ≡ 11)
refused-by number ending (Ok line) is = absurd cc
refused-by number ending (Err (faults_of.Body size)) is =
    let same : limit_body size ≡ ending = cc in inr (ap (λ (e : Ending). e.status) (sym same))
refused-by number ending (Err faults_of.Unknown) is =
    let same : refusal number faults_of.Unknown ≡ ending = cc in inl (ap (λ (e : Ending). e.status) (sym same))
refused-by number ending (Err faults_of.Words) is =
    let same : refusal number faults_of.Words ≡ ending = cc in inl (ap (λ (e : Ending). e.status) (sym same))
refused-by number ending (Err faults_of.Number) is =
    let same : refusal number faults_of.Number ≡ ending = cc in inl (ap (λ (e : Ending). e.status) (sym same))
refused-by number ending (Err faults_of.NoSuch) is =
    let same : refusal number faults_of.NoSuch ≡ ending = cc in inl (ap (λ (e : Ending). e.status) (sym same))
refused-by number ending (Err faults_of.TooLong) is =
    let same : refusal number faults_of.TooLong ≡ ending = cc in inl (ap (λ (e : Ending). e.status) (sym same))
refused-by number ending (Err faults_of.Session) is =
    let same : refusal number faults_of.Session ≡ ending = cc in inl (ap (λ (e : Ending). e.status) (sym same))
refused-by number ending (Err (faults_of.Memory memory)) is =
    let same : refusal number (faults_of.Memory memory) ≡ ending = cc in inl (ap (λ (e : Ending). e.status) (sym same))

-- a line that ends the run by what it says is refused, or passes a limit
pub said-status : (s : Setup) (before : ℕ) (input : Input) (ending : Ending) → says s before input ≡ Ends ending
    → (ending.status ≡ 4) ⊎ (ending.status ≡ 11)
said-status s before input ending is = elim (cases_lt before LINES_LIMIT) [
  | inl less ↦
      refused-by (before + 1) ending (read_input s (before + 1) input) (sym (says_within s before input less) ∙ is)
  | inr least ↦
      let past : Ends limit_lines ≡ Ends ending = sym (says_past s before input least) ∙ is in
      let same : limit_lines ≡ ending = cc in
      inr (ap (λ (e : Ending). e.status) (sym same))
]

-- what a line asks for is asked by one of the inputs
asked-by : (P : Type 0) (s : Setup) (line : ScriptLine) (before : ℕ) (read : List Input) (script : List ScriptLine)
    → AskFor s before read script → In line script
    → ((number : ℕ) (input : Input) → In input read → says s number input ≡ Asks line → P) → P
asked-by P s line before [] [] asked there so = absurd there
asked-by P s line before [] (first ∷ script) asked there so = absurd asked
asked-by P s line before (input ∷ read) [] asked there so = absurd there
asked-by P s line before (input ∷ read) (first ∷ script) asked (inl same) so =
    so before input (inl refl) (asked.0 ∙ ap Asks (sym same))
asked-by P s line before (input ∷ read) (first ∷ script) asked (inr there) so =
    asked-by P s line (before + 1) read script asked.1 there (λ number other here is. so number other (inr here) is)

module _ (law : Known) {D : Type 0} (given : Giving D) (facts : DiskFacts D) (first last : Takers) (before after : ℕ)
    (s : Setup) (runs : IsRunnable (state_of s)) (all_new : (k : ℕ) → AreNew given facts k)
    (shows : (disk : D) → IsTrue (facts.tells disk)) where
  abbrev Met : Trouble → Type 0
  Met trouble = RunMeets given facts first before after trouble

  abbrev pub Claimed : Claims
  Claimed = RunClaims given facts first last

  not-opened : (ending : Ending) → MayNotOpen Met s ending → IsHarm ending.status → ⊥
  not-opened ending (inl so) harm =
      opens-supported law given facts first before after s runs all_new shows ending so
  not-opened ending (inr (logs, inl is)) harm =
      other-harm ending.status 12 (ap (λ (e : Ending). e.status) is) (λ e. absurd (omega (arith, e)))
      (λ e. absurd (omega (arith, e))) harm
  not-opened ending (inr (logs, inr (inl (cause, is)))) harm =
      other-harm ending.status 7 (ap (λ (e : Ending). e.status) is) (λ e. absurd (omega (arith, e)))
      (λ e. absurd (omega (arith, e))) harm
  not-opened ending (inr (logs, inr (inr (inl so)))) harm =
      opens-whole law given facts first before after s runs all_new shows logs ending so
  not-opened ending (inr (logs, inr (inr (inr so)))) harm =
      other-harm ending.status 20 (ap (λ (e : Ending). e.status) so.is) (λ e. absurd (omega (arith, e)))
      (λ e. absurd (omega (arith, e))) harm

  module _ (all left : List Input) (b : Behind (RunHad given facts first) s all left)
      (clean : (nodes : Nodes) (image : Image) → In (lines.Crash nodes image) b.lines → HasNoJunk image) where
    not-stopped : (number : ℕ) (line : ScriptLine) (ending : Ending)
        → StopsAt Met (setup_behind b) b.events number line ending → IsHarm ending.status → ⊥
    not-stopped number (lines.Attach by at tag taker) ending (met, is) harm =
        other-harm ending.status 4 (ap (λ (e : Ending). e.status) is) (λ e. absurd (omega (arith, e)))
        (λ e. absurd (omega (arith, e))) harm
    not-stopped number (lines.Crash nodes image) ending (met, is) harm =
        other-harm ending.status 7 (ap (λ (e : Ending). e.status) is) (λ e. absurd (omega (arith, e)))
        (λ e. absurd (omega (arith, e))) harm
    not-stopped number (lines.Restart nodes) ending (inl so) harm =
        stays-whole law given facts first before after s runs all_new shows all left b clean _ ending so
    not-stopped number (lines.Restart nodes) ending (inr so) harm =
        loses-nothing law given facts first before after s runs all_new shows all left b clean _ ending so
    not-stopped number _ ending so harm = absurd so

    may-not-stop : (number : ℕ) (line : ScriptLine) (ending : Ending)
        → MayStop Met (setup_behind b) b.events number line ending → IsHarm ending.status → ⊥
    may-not-stop number line ending (inl so) harm =
        other-harm ending.status 20 (ap (λ (e : Ending). e.status) so.is) (λ e. absurd (omega (arith, e)))
        (λ e. absurd (omega (arith, e))) harm
    may-not-stop number line ending (inr so) harm = not-stopped number line ending so harm

    not-ended : (input : Input) (ending : Ending) → EndsRun Met s (run_behind b) input ending → IsHarm ending.status → ⊥
    not-ended input ending (inl is) harm = by (said-status s (run_behind b).lines input ending is)
      where
        by : (ending.status ≡ 4) ⊎ (ending.status ≡ 11) → ⊥
        by (inl four) =
            other-harm ending.status 4 four (λ e. absurd (omega (arith, e))) (λ e. absurd (omega (arith, e))) harm
        by (inr eleven) =
            other-harm ending.status 11 eleven (λ e. absurd (omega (arith, e))) (λ e. absurd (omega (arith, e))) harm
    not-ended input ending (inr so) harm = may-not-stop ((run_behind b).lines + 1) so.line ending so.stops harm

  -- ---- the whole run

  module _ (begun ended : Streams) (bytes : List ℕ) (known : begun.source.left ≡ Some bytes)
      (clean : (number : ℕ) (input : Input) (nodes : Nodes) (image : Image) → In input (inputs_of bytes)
      → says s number input ≡ Asks (lines.Crash nodes image) → HasNoJunk image) where
    clean-behind : (left : List Input) (b : Behind (RunHad given facts first) s (inputs_of bytes) left) (nodes : Nodes)
        (image : Image) → In (lines.Crash nodes image) b.lines → HasNoJunk image
    clean-behind left b nodes image there =
        asked-by (HasNoJunk image) s (lines.Crash nodes image) 0 b.read b.lines b.asked there
        (λ number input here is. clean number input nodes image
        (subst (In input) (sym b.is) (In-append_left input b.read left here)) is)

    stopped : (stop : Stop) (more : List ℕ)
        → HasStopped stop s begun ended Met Claimed more
        → IsHarm (ending_of stop).status → ⊥
    stopped (stops.Ended ending) more (may, so) harm =
        let ends : EndsBy Met Claimed ending s bytes begun ended more =
        subst (λ (l : Option (List ℕ)). IfSome l (λ bs. EndsBy Met Claimed ending s bs begun ended more)) known so in
        not-ended (inputs_of bytes) ends.served.left ends.served.behind
        (clean-behind ends.served.left ends.served.behind) ends.next.input ending ends.next.ends harm
    stopped stops.ReadFault more so harm =
        other-harm 5 5 refl (λ e. absurd (omega (arith, e))) (λ e. absurd (omega (arith, e))) harm
    stopped stops.WriteFault more so harm =
        other-harm 6 6 refl (λ e. absurd (omega (arith, e))) (λ e. absurd (omega (arith, e))) harm
    stopped stops.NoMemory more so harm =
        other-harm 12 12 refl (λ e. absurd (omega (arith, e))) (λ e. absurd (omega (arith, e))) harm

    closes : (status : ℕ) (ending : Ending) (Stands : List ℕ → Type 0) → Closes status ending begun.sink ended.sink Stands
        → (Stands ending.text → IsHarm ending.status → ⊥) → IsHarm status → ⊥
    closes status ending Stands (inl (is, stands)) harmless harm = harmless stands (subst IsHarm is harm)
    closes status ending Stands (inr (is, rose, part)) harmless harm =
        other-harm status 6 is (λ e. absurd (omega (arith, e))) (λ e. absurd (omega (arith, e))) harm

    pub no-harm : (status : ℕ)
        → HasRun status s begun ended Met Claimed → IsHarm status → ⊥
    no-harm status (inl so) harm =
        closes status so.ending (Writes begun.sink ended.sink) so.closes (λ stands. not-opened so.ending so.may) harm
    no-harm status (inr (inl so)) harm =
        other-harm status 0 so.status_is (λ e. absurd (omega (arith, e))) (λ e. absurd (omega (arith, e))) harm
    no-harm status (inr (inr so)) harm =
        closes status (ending_of so.stop)
        (λ more. HasStopped so.stop s begun ended Met Claimed more)
        so.closes
        (λ stands. stopped so.stop (ending_of so.stop).text stands) harm
