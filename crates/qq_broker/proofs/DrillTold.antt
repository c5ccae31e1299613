-- What the status of a drill tells.
use Rattle.std.proofs.Common.{◌≡◌, ◌⊎◌, ◌++◌, ℕ, List, [], ◌∷◌, refl, ap, subst, ◌∙◌, inl, inr, arith}
use Rattle.std.specs.Prelude.{codes}
use Rattle.std.specs.Io.KnownBytes.{Appends, Keeps}
use Rattle.std.specs.List.{AllByRecursion}
use Rattle.qq_base.specs.Causes.{Rose}
use Rattle.qq_disk.specs.Facts.{DiskFacts}
use Rattle.qq_log.specs.Stable.{Stable}
use Rattle.qq_ports.specs.Streams.{SinkFails, Streams, Writes}
use Rattle.qq_script_lines.specs.declared.line.ScriptLine.{ScriptLine}
use Rattle.qq_script_lines.specs.declared.line.ScriptLine.TheVariants.{Attach, Crash, Restart}
use Rattle.qq_route.specs.Setup.{state_of}
use Rattle.qq_route.specs.declared.setup.Setup.{Setup}
use Rattle.qq_cluster_model.specs.Cluster.{Cluster, ClusterEvent, Setup as ClusterSetup}
use Rattle.qq_cluster_run.specs.Drilling.{drill_setup, drill_text, parts}
use Rattle.qq_cluster_run.specs.Drills.{DrillEnds, Drilled, HasDrilled, HasSummary, StopsNext, cluster_drilled, setup_drilled}
use Rattle.qq_cluster_run.specs.Endings.{Ending, lost, no_memory, spent, yard_fault}
use Rattle.qq_cluster_run.specs.Runs.{Closes, MayNotOpen}
use Rattle.qq_cluster_run.specs.Serving.{EndsDamaged, EndsLost, EndsSpent, EndsUnsupported, Histories, IsAtEnd, IsReadOf, StopsAt}
use Rattle.qq_cluster_run.specs.Setup.{cluster_over, cluster_setup}
use Rattle.qq_cluster_run.specs.Troubles.{Damage, AtPlace, OfVersion, DiskFails, FilesBreak, NumberEnds, QueueIsFound, TakerIsGone, Trouble, YardFails, damage_ending}
use Rattle.qq_broker.specs.Lives.{Giving, IsGiven}
use Rattle.qq_broker.specs.Nodes.{Had, HasNumber, HoldsQueue, IsBroken, Meets}

-- ---- why it ends so

data Cause (met : Trouble → Type 0) (ending : Ending) : Type 0 where
  Starves : ending ≡ no_memory → Cause met ending
  YardBreaks : met YardFails ⊎ ((k : ℕ) × met (DiskFails k)) → ending ≡ yard_fault → Cause met ending
  LogBreaks : (setup : ClusterSetup) (events : List ClusterEvent) (node : ℕ) (damage : Damage)
      → met (FilesBreak setup events node damage) → ending ≡ damage_ending node damage → Cause met ending
  QueueBreaks : (setup : ClusterSetup) (events : List ClusterEvent) (node place : ℕ) (lane : Stable) (noticed : ℕ)
      → met (QueueIsFound setup events node place lane) → ending ≡ lost node (setup.name place) noticed lane.op
      → Cause met ending
  NumberStands : (setup : ClusterSetup) (events : List ClusterEvent) (number : ℕ)
      → met (NumberEnds setup events number) → IsAtEnd number → ending ≡ spent number → Cause met ending

of-spent : (met : Trouble → Type 0) (setup : ClusterSetup) (Allows : Cluster → List ClusterEvent → Type 0)
    (events : List ClusterEvent) (ending : Ending) → EndsSpent met setup Allows events ending → Cause met ending
of-spent met setup Allows events ending so =
    NumberStands setup (events ++ so.early) so.number so.stands so.past so.is

of-damaged : (met : Trouble → Type 0) (setup : ClusterSetup) (nodes : List ℕ) (events : List ClusterEvent)
    (ending : Ending) → EndsDamaged met setup nodes events ending → Cause met ending
of-damaged met setup nodes events ending so =
    LogBreaks setup (events ++ so.at.early) so.at.node so.damage so.broken so.is

of-lost : (met : Trouble → Type 0) (setup : ClusterSetup) (nodes : List ℕ) (events : List ClusterEvent)
    (ending : Ending) → EndsLost met setup nodes events ending → Cause met ending
of-lost met setup nodes events ending so =
    QueueBreaks setup (events ++ so.at.early) so.at.node so.place so.lane _ so.found so.is

of-unsupported : (met : Trouble → Type 0) (s : Setup) (ending : Ending) → EndsUnsupported met s ending
    → Cause met ending
of-unsupported met s ending so =
    QueueBreaks (cluster_setup s) [] so.node.0 so.place so.lane 0
    (subst (IsReadOf met (cluster_setup s) so.node.0 so.place) so.found (so.read so.node so.member so.there)) so.is

-- one of some nodes
some-disk : (met : Trouble → Type 0) (nodes : List ℕ) → (nodes ≡ [] → ⊥) → AllByRecursion (λ k. met (DiskFails k)) nodes
    → (k : ℕ) × met (DiskFails k)
some-disk met [] some all = absurd (some refl)
some-disk met (k ∷ nodes) some (first, rest) = (k, first)

of-unopened : (met : Trouble → Type 0) (s : Setup) (ending : Ending) → MayNotOpen met s ending → Cause met ending
of-unopened met s ending (inl so) = of-unsupported met s ending so
of-unopened met s ending (inr (logs, inl none)) = Starves none
of-unopened met s ending (inr (logs, inr (inl (inl yard, is)))) = YardBreaks (inl yard) is
of-unopened met s ending (inr (logs, inr (inl (inr (some, all), is)))) =
    YardBreaks (inr (some-disk met (cluster_over s logs).nodes some all)) is
of-unopened met s ending (inr (logs, inr (inr (inl so)))) =
    of-damaged met (cluster_over s logs) (cluster_over s logs).nodes [] ending so
of-unopened met s ending (inr (logs, inr (inr (inr so)))) = of-spent met (cluster_over s logs) _ [] ending so

-- where no taker is missed
abbrev HasTakers : (Trouble → Type 0) → Type 0
HasTakers met =
    (setup : ClusterSetup) (events : List ClusterEvent) (number : ℕ) → met (TakerIsGone setup events number) → ⊥

of-line : (met : Trouble → Type 0) → HasTakers met → (setup : ClusterSetup) (events : List ClusterEvent) (number : ℕ)
    (line : ScriptLine) (ending : Ending) → StopsAt met setup events number line ending → Cause met ending
of-line met takers setup events number (Attach by at tag taker) ending (gone, is) =
    absurd (takers setup events taker gone)
of-line met takers setup events number (Crash nodes image) ending (yard, is) = YardBreaks (inl yard) is
of-line met takers setup events number (Restart nodes) ending (inl so) = of-damaged met setup _ events ending so
of-line met takers setup events number (Restart nodes) ending (inr so) = of-lost met setup _ events ending so
of-line met takers setup events number _ ending so = absurd so

of-stop : (met : Trouble → Type 0) → HasTakers met → (setup : ClusterSetup) (events : List ClusterEvent)
    (left : List ScriptLine) (ending : Ending) → StopsNext met setup events left ending → Cause met ending
of-stop met takers setup events [] ending none = Starves none
of-stop met takers setup events (line ∷ left) ending (inl none) = Starves none
of-stop met takers setup events (line ∷ left) ending (inr (number, inl so)) =
    of-spent met setup _ events ending so
of-stop met takers setup events (line ∷ left) ending (inr (number, inr so)) =
    of-line met takers setup events number line ending so

-- ---- how it has ended

data Ended (met : Trouble → Type 0) (had : Histories) (status number nodes : ℕ) (before later : Streams) : Type 0 where
  Whole : status ≡ 0 → (s : Setup) → state_of s ≡ drill_setup nodes
      → (whole : Drilled had s number (parts s.nodes))
      → Writes before.sink later.sink (drill_text number (setup_drilled whole) (cluster_drilled whole) whole.known)
      → Ended met had status number nodes before later
  Cut : status ≡ 6 → SinkFails before.sink later.sink → Ended met had status number nodes before later
  Shut : (ending : Ending) → status ≡ ending.status → Cause met ending → Writes before.sink later.sink ending.text
      → Ended met had status number nodes before later

closed : (met : Trouble → Type 0) (had : Histories) (status number nodes : ℕ) (before later : Streams) (ending : Ending)
    → Cause met ending → Closes status ending before.sink later.sink (Writes before.sink later.sink)
    → Ended met had status number nodes before later
closed met had status number nodes before later ending cause (inl (is, written)) = Shut ending is cause written
closed met had status number nodes before later ending cause (inr (is, fails, part)) = Cut is fails

summed : (met : Trouble → Type 0) (had : Histories) (status number nodes : ℕ) (before later : Streams) (s : Setup)
    → state_of s ≡ drill_setup nodes → (whole : Drilled had s number (parts s.nodes))
    → HasSummary status (drill_text number (setup_drilled whole) (cluster_drilled whole) whole.known)
    before.sink later.sink
    → Ended met had status number nodes before later
summed met had status number nodes before later s is whole (inl (done, written)) = Whole done s is whole written
summed met had status number nodes before later s is whole (inr (inl (cut, fails, part))) = Cut cut fails
summed met had status number nodes before later s is whole (inr (inr closes)) =
    closed met had status number nodes before later no_memory (Starves refl) closes

over : (met : Trouble → Type 0) (had : Histories) → HasTakers met → (status number nodes : ℕ) (before later : Streams)
    (s : Setup) → state_of s ≡ drill_setup nodes → HasDrilled status number s before later met had
    → Ended met had status number nodes before later
over met had takers status number nodes before later s is (inl so) =
    closed met had status number nodes before later so.ending (of-unopened met s so.ending so.may) so.closes
over met had takers status number nodes before later s is (inr (inl so)) =
    summed met had status number nodes before later s is so.whole so.told
over met had takers status number nodes before later s is (inr (inr so)) =
    closed met had status number nodes before later so.ending
    (of-stop met takers (setup_drilled so.front) _ so.stops.left so.ending so.stops.may) so.closes

has-ended : (met : Trouble → Type 0) (had : Histories) → HasTakers met → (status number nodes : ℕ)
    (before later : Streams) → DrillEnds status number nodes before later met had
    → Ended met had status number nodes before later
has-ended met had takers status number nodes before later (inl so) =
    closed met had status number nodes before later so.ending (Starves so.may) so.closes
has-ended met had takers status number nodes before later (inr so) =
    over met had takers status number nodes before later so.setup so.is_setup so.ends

pub drill-unread : (met : Trouble → Type 0) (had : Histories) (status number nodes : ℕ) (before later : Streams)
    → DrillEnds status number nodes before later met had → Keeps before.source.left later.source.left
drill-unread met had status number nodes before later (inl so) = so.keeps
drill-unread met had status number nodes before later (inr so) = by so.ends
  where
    by : HasDrilled status number so.setup before later met had → Keeps before.source.left later.source.left
    by (inl un) = un.keeps
    by (inr (inl done)) = done.keeps
    by (inr (inr broken)) = broken.keeps

-- ---- the status of each cause

pub damage-status : (node : ℕ) (damage : Damage) → (damage_ending node damage).status ≡ 8
damage-status node (AtPlace file place) = refl
damage-status node (OfVersion file byte) = refl

-- which of the causes has which
data Status (met : Trouble → Type 0) (status : ℕ) (text : List ℕ) : Type 0 where
  At12 : status ≡ 12 → text ≡ codes "memory\n" → Status met status text
  At7 : status ≡ 7 → met YardFails ⊎ ((k : ℕ) × met (DiskFails k)) → text ≡ codes "yard fault\n"
      → Status met status text
  At8 : status ≡ 8 → (setup : ClusterSetup) (events : List ClusterEvent) (node : ℕ) (damage : Damage)
      → met (FilesBreak setup events node damage) → text ≡ (damage_ending node damage).text → Status met status text
  At9 : status ≡ 9 → (setup : ClusterSetup) (events : List ClusterEvent) (node place : ℕ) (lane : Stable) (noticed : ℕ)
      → met (QueueIsFound setup events node place lane) → text ≡ (lost node (setup.name place) noticed lane.op).text
      → Status met status text
  At20 : status ≡ 20 → (setup : ClusterSetup) (events : List ClusterEvent) (number : ℕ)
      → met (NumberEnds setup events number) → IsAtEnd number → text ≡ (spent number).text → Status met status text

the-status : (met : Trouble → Type 0) (status : ℕ) (ending : Ending) → status ≡ ending.status → Cause met ending
    → Status met status ending.text
the-status met status ending is (Starves same) =
    At12 (is ∙ ap (λ (e : Ending). e.status) same) (ap (λ (e : Ending). e.text) same)
the-status met status ending is (YardBreaks so same) =
    At7 (is ∙ ap (λ (e : Ending). e.status) same) so (ap (λ (e : Ending). e.text) same)
the-status met status ending is (LogBreaks setup events node damage so same) =
    At8 (is ∙ ap (λ (e : Ending). e.status) same ∙ damage-status node damage) setup events node damage so
    (ap (λ (e : Ending). e.text) same)
the-status met status ending is (QueueBreaks setup events node place lane noticed so same) =
    At9 (is ∙ ap (λ (e : Ending). e.status) same) setup events node place lane noticed so
    (ap (λ (e : Ending). e.text) same)
the-status met status ending is (NumberStands setup events number so end same) =
    At20 (is ∙ ap (λ (e : Ending). e.status) same) setup events number so end (ap (λ (e : Ending). e.text) same)

-- ---- over the disks of a yard

module _ {D : Type 0} (given : Giving D) (facts : DiskFacts D) (number nodes : ℕ) (before later : Streams)
    (yard yard' : ℕ) where
  abbrev Met : Trouble → Type 0
  Met = Meets given facts yard yard'

  abbrev Ends : ℕ → Type 0
  Ends status = DrillEnds status number nodes before later Met (Had given facts)

  so-ended : (status : ℕ) → Ends status → Ended Met (Had given facts) status number nodes before later
  so-ended status so =
      has-ended Met (Had given facts) (λ setup events taker gone. gone) status number nodes before later so

  abbrev Wrote : List ℕ → Type 0
  Wrote text = Appends before.sink.written later.sink.written text

  pub drill-statuses : (status : ℕ) → Ends status
      → (status ≡ 0)
      ⊎ ((status ≡ 6) ⊎ ((status ≡ 7) ⊎ ((status ≡ 8) ⊎ ((status ≡ 9) ⊎ ((status ≡ 12) ⊎ (status ≡ 20))))))
  drill-statuses status so = by (so-ended status so)
    where
      which : (text : List ℕ) → Status Met status text
          → (status ≡ 0)
          ⊎ ((status ≡ 6) ⊎ ((status ≡ 7) ⊎ ((status ≡ 8) ⊎ ((status ≡ 9) ⊎ ((status ≡ 12) ⊎ (status ≡ 20))))))
      which text (At12 is same) = inr (inr (inr (inr (inr (inl is)))))
      which text (At7 is cause same) = inr (inr (inl is))
      which text (At8 is setup events node damage cause same) = inr (inr (inr (inl is)))
      which text (At9 is setup events node place lane noticed cause same) = inr (inr (inr (inr (inl is))))
      which text (At20 is setup events most cause end same) = inr (inr (inr (inr (inr (inr is)))))

      by : Ended Met (Had given facts) status number nodes before later → (status ≡ 0)
          ⊎ ((status ≡ 6) ⊎ ((status ≡ 7) ⊎ ((status ≡ 8) ⊎ ((status ≡ 9) ⊎ ((status ≡ 12) ⊎ (status ≡ 20))))))
      by (Whole is s setup whole written) = inl is
      by (Cut is fails) = inr (inl is)
      by (Shut ending is cause written) = which ending.text (the-status Met status ending is cause)

  -- what a closing line of another status than 0 and 6 says
  shut : (status : ℕ) → (status ≡ 0 → ⊥) → (status ≡ 6 → ⊥) → Ends status
      → (text : List ℕ) × Status Met status text × Wrote text
  shut status zero six so = by (so-ended status so)
    where
      by : Ended Met (Had given facts) status number nodes before later
          → (text : List ℕ) × Status Met status text × Wrote text
      by (Whole is s setup whole written) = absurd (zero is)
      by (Cut is fails) = absurd (six is)
      by (Shut ending is cause written) = (ending.text, the-status Met status ending is cause, written)

  pub drill-done : Ends 0
      → (s : Setup) × (state_of s ≡ drill_setup nodes)
      × ((whole : Drilled (Had given facts) s number (parts s.nodes))
      × Wrote (drill_text number (setup_drilled whole) (cluster_drilled whole) whole.known))
  drill-done so = by (so-ended 0 so)
    where
      none : (text : List ℕ) → Status Met 0 text → ⊥
      none text (At12 is same) = absurd (omega (arith, is))
      none text (At7 is cause same) = absurd (omega (arith, is))
      none text (At8 is setup events node damage cause same) = absurd (omega (arith, is))
      none text (At9 is setup events node place lane noticed cause same) = absurd (omega (arith, is))
      none text (At20 is setup events most cause end same) = absurd (omega (arith, is))

      by : Ended Met (Had given facts) 0 number nodes before later → (s : Setup) × (state_of s ≡ drill_setup nodes)
          × ((whole : Drilled (Had given facts) s number (parts s.nodes))
          × Wrote (drill_text number (setup_drilled whole) (cluster_drilled whole) whole.known))
      by (Whole is s setup whole written) = (s, setup, (whole, written))
      by (Cut is fails) = absurd (omega (arith, is))
      by (Shut ending is cause written) = absurd (none ending.text (the-status Met 0 ending is cause))

  pub drill-cut : Ends 6 → Rose before.sink.faults later.sink.faults
  drill-cut so = by (so-ended 6 so)
    where
      none : (text : List ℕ) → Status Met 6 text → ⊥
      none text (At12 is same) = absurd (omega (arith, is))
      none text (At7 is cause same) = absurd (omega (arith, is))
      none text (At8 is setup events node damage cause same) = absurd (omega (arith, is))
      none text (At9 is setup events node place lane noticed cause same) = absurd (omega (arith, is))
      none text (At20 is setup events most cause end same) = absurd (omega (arith, is))

      by : Ended Met (Had given facts) 6 number nodes before later → Rose before.sink.faults later.sink.faults
      by (Whole is s setup whole written) = absurd (omega (arith, is))
      by (Cut is fails) = fails
      by (Shut ending is cause written) = absurd (none ending.text (the-status Met 6 ending is cause))

  pub drill-failed : Ends 7
      → (Rose yard yard' ⊎ ((node : ℕ) × ((disk : D) × IsGiven given facts node disk
      × ((last : D) × Rose (facts.faults disk) (facts.faults last)))))
      × Wrote (codes "yard fault\n")
  drill-failed so = by (shut 7 (λ is. omega (arith, is)) (λ is. omega (arith, is)) so)
    where
      which : Met YardFails ⊎ ((k : ℕ) × Met (DiskFails k))
          → Rose yard yard' ⊎ ((node : ℕ) × ((disk : D) × IsGiven given facts node disk
          × ((last : D) × Rose (facts.faults disk) (facts.faults last))))
      which (inl rose) = inl rose
      which (inr (k, failed)) = inr (k, (failed.first, failed.given_is, (failed.last, failed.rose)))

      by : (text : List ℕ) × Status Met 7 text × Wrote text
          → (Rose yard yard' ⊎ ((node : ℕ) × ((disk : D) × IsGiven given facts node disk
          × ((last : D) × Rose (facts.faults disk) (facts.faults last)))))
          × Wrote (codes "yard fault\n")
      by (text, At7 is cause same, wrote) = (which cause, subst Wrote same wrote)
      by (text, At12 is same, wrote) = absurd (omega (arith, is))
      by (text, At8 is setup events node damage cause same, wrote) = absurd (omega (arith, is))
      by (text, At9 is setup events node place lane noticed cause same, wrote) = absurd (omega (arith, is))
      by (text, At20 is setup events most cause end same, wrote) = absurd (omega (arith, is))

  pub drill-broken : Ends 8
      → (setup : ClusterSetup) × ((events : List ClusterEvent) × ((node : ℕ) × ((damage : Damage)
      × IsBroken given facts setup events node damage × Wrote (damage_ending node damage).text)))
  drill-broken so = by (shut 8 (λ is. omega (arith, is)) (λ is. omega (arith, is)) so)
    where
      by : (text : List ℕ) × Status Met 8 text × Wrote text
          → (setup : ClusterSetup) × ((events : List ClusterEvent) × ((node : ℕ) × ((damage : Damage)
          × IsBroken given facts setup events node damage × Wrote (damage_ending node damage).text)))
      by (text, At8 is setup events node damage cause same, wrote) =
          (setup, (events, (node, (damage, cause, subst Wrote same wrote))))
      by (text, At12 is same, wrote) = absurd (omega (arith, is))
      by (text, At7 is cause same, wrote) = absurd (omega (arith, is))
      by (text, At9 is setup events node place lane noticed cause same, wrote) = absurd (omega (arith, is))
      by (text, At20 is setup events most cause end same, wrote) = absurd (omega (arith, is))

  pub drill-lost : Ends 9
      → (setup : ClusterSetup) × ((events : List ClusterEvent) × ((node : ℕ) × ((place : ℕ) × ((lane : Stable)
      × ((noticed : ℕ) × HoldsQueue given facts setup events node place lane
      × Wrote (lost node (setup.name place) noticed lane.op).text)))))
  drill-lost so = by (shut 9 (λ is. omega (arith, is)) (λ is. omega (arith, is)) so)
    where
      by : (text : List ℕ) × Status Met 9 text × Wrote text
          → (setup : ClusterSetup) × ((events : List ClusterEvent) × ((node : ℕ) × ((place : ℕ) × ((lane : Stable)
          × ((noticed : ℕ) × HoldsQueue given facts setup events node place lane
          × Wrote (lost node (setup.name place) noticed lane.op).text)))))
      by (text, At9 is setup events node place lane noticed cause same, wrote) =
          (setup, (events, (node, (place, (lane, (noticed, cause, subst Wrote same wrote))))))
      by (text, At12 is same, wrote) = absurd (omega (arith, is))
      by (text, At7 is cause same, wrote) = absurd (omega (arith, is))
      by (text, At8 is setup events node damage cause same, wrote) = absurd (omega (arith, is))
      by (text, At20 is setup events most cause end same, wrote) = absurd (omega (arith, is))

  pub drill-starved : Ends 12 → Wrote (codes "memory\n")
  drill-starved so = by (shut 12 (λ is. omega (arith, is)) (λ is. omega (arith, is)) so)
    where
      by : (text : List ℕ) × Status Met 12 text × Wrote text → Wrote (codes "memory\n")
      by (text, At12 is same, wrote) = subst Wrote same wrote
      by (text, At7 is cause same, wrote) = absurd (omega (arith, is))
      by (text, At8 is setup events node damage cause same, wrote) = absurd (omega (arith, is))
      by (text, At9 is setup events node place lane noticed cause same, wrote) = absurd (omega (arith, is))
      by (text, At20 is setup events most cause end same, wrote) = absurd (omega (arith, is))

  pub drill-spent : Ends 20
      → (setup : ClusterSetup) × ((events : List ClusterEvent) × ((most : ℕ)
      × HasNumber given facts setup events most × IsAtEnd most × Wrote (spent most).text))
  drill-spent so = by (shut 20 (λ is. omega (arith, is)) (λ is. omega (arith, is)) so)
    where
      by : (text : List ℕ) × Status Met 20 text × Wrote text
          → (setup : ClusterSetup) × ((events : List ClusterEvent) × ((most : ℕ)
          × HasNumber given facts setup events most × IsAtEnd most × Wrote (spent most).text))
      by (text, At20 is setup events most cause end same, wrote) =
          (setup, (events, (most, cause, end, subst Wrote same wrote)))
      by (text, At12 is same, wrote) = absurd (omega (arith, is))
      by (text, At7 is cause same, wrote) = absurd (omega (arith, is))
      by (text, At8 is setup events node damage cause same, wrote) = absurd (omega (arith, is))
      by (text, At9 is setup events node place lane noticed cause same, wrote) = absurd (omega (arith, is))
