-- What the statuses of a fault tell.
use Rattle.std.proofs.Common.{◌≡◌, ◌⊎◌, ◌≤◌, ◌^◌, ℕ, true, false, Option, Some, None, List, [], ◌∷◌, ◌++◌, length, inl, inr, refl, sym, ap, subst, ◌∙◌, append_assoc, codes, arith}
use Rattle.std.specs.Prelude.{Contains}
use Rattle.std.specs.Fmt.{decimal, digits}
use Rattle.std.specs.List.{list_all, range_with_len}
use Rattle.std.proofs.lemmas.Bool.{and_from}
use Rattle.qq_base.proofs.Lists.{AllByRecursion-in}
use Rattle.qq_base.specs.declared.ids.NodeId.{NodeId}
use Rattle.qq_model.proofs.Soundness.{Contains-in, in_contains}
use Rattle.qq_route.specs.declared.setup.Setup.{Setup}
use Rattle.qq_route.specs.Setup.{SetupState, plain_rows}
use Rattle.qq_log.specs.declared.op.Op.{Op}
use Rattle.qq_log.specs.Stable.{Stable, stable}
use Rattle.qq_raft_protocol.specs.Facts.{In}
use Rattle.qq_script_lines.specs.declared.line.ScriptLine.{ScriptLine}
use Rattle.qq_words.specs.declared.options.Options.{Options}
use Rattle.qq_cluster_model.specs.Cluster.{Setup as ClusterSetup, ClusterEvent, members}
use Rattle.qq_cluster_model.specs.Laws.{IsBegun}
use Rattle.qq_cluster_model.specs.Rules.{ForEach, IsRestart}
use Rattle.qq_cluster_run.specs.Endings.{Ending, lost}
use Rattle.qq_cluster_run.specs.Inputs.{Input, inputs_of}
use Rattle.qq_cluster_run.specs.Reading.{Asks, says}
use Rattle.qq_cluster_run.specs.Runs.{IsSetup}
use Rattle.qq_cluster_run.specs.Serving.{Behind, EndsDamaged, EndsUnsupported, IsReadOf, MayTakeUp, RestartsTo, after_all, run_behind, setup_behind, state_read, text_behind}
use Rattle.qq_cluster_run.specs.Setup.{Logs, cluster_over, cluster_setup, is_change_of}
use Rattle.qq_cluster_run.specs.Statuses.{Account, Met, Had, HasEnded, Over, NextAsks, IsYardFault, NoDisk, AtCrash, MeetsDamage, DamagedAtOpening, DamagedAtRestart, HasLost, LostAtOpening, LostAtRestart, IsSpent, SpentAtOpening, SpentAtLine, Told, Done, Refused, ReadFault, WriteFault, YardFault, Damaged, Lost, Limited, NoMemory, Spent}
use Rattle.qq_cluster_run.specs.Troubles.{Damage, damage_ending, YardFails, DiskFails, FilesBreak, QueueIsFound, NumberEnds}
use Rattle.qq_cluster_run.proofs.Exports.{plain-of}
use Rattle.qq_cluster_run.proofs.Statuses.{told}
use Rattle.qq_cluster_run.proofs.Worked.{publish, said, asks-publish}

-- ---- which fault a status is of

record IsFault (n : ℕ) (options : Options) (s : Account) : Type 0 where
  yard : n ≡ 7 → IsYardFault options s
  damaged : n ≡ 8 → MeetsDamage options s
  lost : n ≡ 9 → HasLost options s
  spent : n ≡ 20 → IsSpent options s

none : (n k : ℕ) (options : Options) (s : Account) → n ≡ k → (k ≤ 6) ⊎ ((10 ≤ k) × (k ≤ 12)) → IsFault n options s
none n k options s is (inl low) = record {
  yard = λ e. absurd (omega (arith, is, e, low));
  damaged = λ e. absurd (omega (arith, is, e, low));
  lost = λ e. absurd (omega (arith, is, e, low));
  spent = λ e. absurd (omega (arith, is, e, low));
}
none n k options s is (inr (low, high)) = record {
  yard = λ e. absurd (omega (arith, is, e, low));
  damaged = λ e. absurd (omega (arith, is, e, low));
  lost = λ e. absurd (omega (arith, is, e, low));
  spent = λ e. absurd (omega (arith, is, e, high));
}

is-fault : (n : ℕ) (options : Options) (s : Account) → Told n options s → IsFault n options s
is-fault n options s (Done is so) = none n 0 options s is (inl (omega arith))
is-fault n options s (Refused is so) = none n 4 options s is (inl (omega arith))
is-fault n options s (ReadFault is so) = none n 5 options s is (inl (omega arith))
is-fault n options s (WriteFault is rose so) = none n 6 options s is (inl (omega arith))
is-fault n options s (Limited is so) = none n 11 options s is (inr (omega arith, omega arith))
is-fault n options s (NoMemory is so) = none n 12 options s is (inr (omega arith, omega arith))
is-fault n options s (YardFault is so) = record {
  yard = λ e. so;
  damaged = λ e. absurd (omega (arith, is, e));
  lost = λ e. absurd (omega (arith, is, e));
  spent = λ e. absurd (omega (arith, is, e));
}
is-fault n options s (Damaged is so) = record {
  yard = λ e. absurd (omega (arith, is, e));
  damaged = λ e. so;
  lost = λ e. absurd (omega (arith, is, e));
  spent = λ e. absurd (omega (arith, is, e));
}
is-fault n options s (Lost is so) = record {
  yard = λ e. absurd (omega (arith, is, e));
  damaged = λ e. absurd (omega (arith, is, e));
  lost = λ e. so;
  spent = λ e. absurd (omega (arith, is, e));
}
is-fault n options s (Spent is so) = record {
  yard = λ e. absurd (omega (arith, is, e));
  damaged = λ e. absurd (omega (arith, is, e));
  lost = λ e. absurd (omega (arith, is, e));
  spent = λ e. so;
}

-- ---- what is told of each

abbrev YardTold : Options → Account → Type 0
YardTold options s =
    (Contains s.troubles YardFails × ((said : List ℕ) × (s.new ≡ s.old ++ (said ++ codes "yard fault\n"))))
    ⊎ ((setup : Setup) × IsSetup options setup
    × ((k : ℕ) → Contains (range_with_len 1 setup.nodes) k → Contains s.troubles (DiskFails k)) × (s.rest ≡ s.bytes)
    × (s.new ≡ s.old ++ codes "yard fault\n"))

pub yard-told : (options : Options) (s : Account) → HasEnded 7 options s → YardTold options s
yard-told options s ended = by ((is-fault 7 options s (told 7 options s ended)).yard refl)
  where
    by : IsYardFault options s → YardTold options s
    by (NoDisk setup is_setup logs (inl yard) (rest, grown)) = inl (yard, ([], grown))
    by (NoDisk setup is_setup logs (inr (some, disks)) (rest, grown)) =
        inr (
          setup,
          is_setup,
          (λ k there. AllByRecursion-in (λ (j : ℕ). Met s (DiskFails j)) k (range_with_len 1 setup.nodes) disks
              (in_contains (range_with_len 1 setup.nodes) k there)),
          rest,
          grown,
        )
    by (AtCrash yard over nodes image asks grown) = inl (yard, (text_behind over.served.behind, grown))

abbrev DamageTold : Account → Type 0
DamageTold s =
    (setup : ClusterSetup) × ((events : List ClusterEvent) × ((node : ℕ) × ((damage : Damage)
    × Contains s.troubles (FilesBreak setup events node damage)
    × ((said : List ℕ) × (s.new ≡ s.old ++ (said ++ (damage_ending node damage).text))))))

damage-of : (s : Account) (setup : ClusterSetup) (nodes : List ℕ) (events : List ClusterEvent) (ending : Ending)
    → EndsDamaged (Met s) setup nodes events ending → (said : List ℕ) → s.new ≡ s.old ++ (said ++ ending.text)
    → DamageTold s
damage-of s setup nodes events ending so said grown = (
  setup,
  (
    events ++ so.at.early,
    (
      so.at.node,
      (
        so.damage,
        so.broken,
        (said, grown ∙ ap (λ (e : Ending). s.old ++ (said ++ e.text)) so.is),
      ),
    ),
  ),
)

pub damage-told : (options : Options) (s : Account) → HasEnded 8 options s → DamageTold s
damage-told options s ended = by ((is-fault 8 options s (told 8 options s ended)).damaged refl)
  where
    by : MeetsDamage options s → DamageTold s
    by (DamagedAtOpening setup is_setup logs ending so (rest, grown)) = damage-of s _ _ [] ending so [] grown
    by (DamagedAtRestart over nodes ending so asks grown) =
        damage-of s _ _ (run_behind over.served.behind).events ending so (text_behind over.served.behind) grown

abbrev SpentTold : Account → Type 0
SpentTold s =
    (setup : ClusterSetup) × ((events : List ClusterEvent) × ((number : ℕ) × ((number ≡ 4294967295) ⊎ (2 ^ 63 ≤ number))
    × Contains s.troubles (NumberEnds setup events number)
    × ((said : List ℕ) × (s.new ≡ s.old ++ (said ++ (codes "spent " ++ decimal number ++ codes "\n"))))))

pub spent-told : (options : Options) (s : Account) → HasEnded 20 options s → SpentTold s
spent-told options s ended = by ((is-fault 20 options s (told 20 options s ended)).spent refl)
  where
    by : IsSpent options s → SpentTold s
    by (SpentAtOpening setup is_setup logs ending so (rest, grown)) = (
      _,
      (
        so.early,
        (so.number, so.past, so.stands, ([], grown ∙ ap (λ (e : Ending). s.old ++ e.text) so.is)),
      ),
    )
    by (SpentAtLine over line ending so asks grown) = (
      _,
      (
        (run_behind over.served.behind).events ++ so.early,
        (
          so.number,
          so.past,
          so.stands,
          (
            text_behind over.served.behind,
            grown ∙ ap (λ (e : Ending). s.old ++ (text_behind over.served.behind ++ e.text)) so.is,
          ),
        ),
      ),
    )

-- ---- a queue that is lost

abbrev LostTold : Options → Account → Type 0
LostTold options s =
    (setup : Setup) × IsSetup options setup × (((place : ℕ) × Contains (cluster_setup setup).places place
    × ((first : List ℕ) × ((rest : List ℕ) × ((cluster_setup setup).nodes ≡ first ++ rest)
    × ((lanes : ℕ → Option Stable)
    × ((n : NodeId) → Contains (members (cluster_setup setup) place) n → Contains first n.0
    → ((lane : Stable) × (lanes n.0 ≡ Some lane)
    × Contains s.troubles (QueueIsFound (cluster_setup setup) [] n.0 place lane))
    ⊎ ((lanes n.0 ≡ None) × Contains s.troubles (DiskFails n.0)))
    × ((logs : Logs)
    → ((k : ℕ) (op : Op) → Contains (logs place k) op → is_change_of (record { 0 = place }) op ≡ true)
    → ((n : NodeId) → Contains (members (cluster_setup setup) place) n → Contains first n.0
    → stable (logs place n.0) ≡ Some (state_read (lanes n.0)))
    → IsBegun ((cluster_over setup logs).group place) → ⊥)
    × ((node : NodeId) × Contains (members (cluster_setup setup) place) node × Contains first node.0
    × ((lane : Stable) × (lanes node.0 ≡ Some lane) × (s.rest ≡ s.bytes)
    × (s.new ≡ s.old ++ (codes "lost node " ++ decimal node.0 ++ codes " " ++ (cluster_setup setup).name place
    ++ codes " noticed 0 found " ++ decimal lane.op ++ codes "\n"))))))))
    ⊎ ((left : List Input)
    × ((b : Behind (Had s) setup (inputs_of s.bytes) left) × ((early : List ClusterEvent)
    × ((node : ℕ) × ((place : ℕ) × Contains (setup_behind b).places place × ((lane : Stable)
    × Contains s.troubles (QueueIsFound (setup_behind b) (b.events ++ early) node place lane)
    × ((after_all (setup_behind b) (b.events ++ early)).up node ≡ false)
    × (MayTakeUp node ((after_all (setup_behind b) (b.events ++ early)).queue place) lane → ⊥)
    × (s.new ≡ s.old ++ (text_behind b ++ (codes "lost node " ++ decimal node ++ codes " "
    ++ (setup_behind b).name place ++ codes " noticed "
    ++ decimal (((after_all (setup_behind b) (b.events ++ early)).queue place).group.seat node).noticed
    ++ codes " found " ++ decimal lane.op ++ codes "\n"))))))))))

zero-noticed : (front : List ℕ)
    → front ++ codes " noticed " ++ decimal 0 ++ codes " found " ≡ front ++ codes " noticed 0 found "
unfolding digits
zero-noticed front =
    append_assoc (front ++ codes " noticed ") (decimal 0) (codes " found ")
    ∙ append_assoc front (codes " noticed ") (decimal 0 ++ codes " found ")

-- changes of this queue alone
all-changes : (place : ℕ) (ops : List Op) → ((op : Op) → In op ops → is_change_of (record { 0 = place }) op ≡ true)
    → list_all (is_change_of (record { 0 = place })) ops ≡ true
all-changes place [] each = refl
all-changes place (op ∷ ops) each =
    and_from (is_change_of (record { 0 = place }) op) (list_all (is_change_of (record { 0 = place })) ops)
    (each op (inl refl)) (all-changes place ops (λ x there. each x (inr there)))

pub lost-told : (options : Options) (s : Account) → HasEnded 9 options s → LostTold options s
lost-told options s ended = by ((is-fault 9 options s (told 9 options s ended)).lost refl)
  where
    read-so : (setup : Setup) (place k : ℕ) (lane : Option Stable) → IsReadOf (Met s) (cluster_setup setup) k place lane
        → ((l : Stable) × (lane ≡ Some l) × Contains s.troubles (QueueIsFound (cluster_setup setup) [] k place l))
        ⊎ ((lane ≡ None) × Contains s.troubles (DiskFails k))
    read-so setup place k None failed = inr (refl, failed)
    read-so setup place k (Some lane) found = inl (lane, refl, found)

    by : HasLost options s → LostTold options s
    by (LostAtOpening setup is_setup ending so (rest, grown)) = (
      setup,
      is_setup,
      inl (
        so.place,
        so.among,
        (
          so.first,
          (
            so.rest,
            so.are,
            (
              so.lanes,
              (λ n member there. read-so setup so.place n.0 (so.lanes n.0) (so.read n member there)),
              (λ logs own hold. so.refused logs
                  (λ k. all-changes so.place (logs so.place k)
                  (λ op there. own k op (Contains-in op (logs so.place k) there))) hold),
              (
                so.node,
                so.member,
                so.there,
                (
                  so.lane,
                  so.found,
                  rest,
                  grown ∙ ap (λ (e : Ending). s.old ++ e.text) so.is
                      ∙ ap (λ (l : List ℕ). s.old ++ (l ++ decimal so.lane.op ++ codes "\n"))
                      (zero-noticed (codes "lost node " ++ decimal so.node.0 ++ codes " "
                      ++ (cluster_setup setup).name so.place)),
                ),
              ),
            ),
          ),
        ),
      ),
    )
    by (LostAtRestart over nodes ending so asks grown) = (
      over.setup,
      over.is_setup,
      inr (
        over.served.left,
        (
          over.served.behind,
          (
            so.at.early,
            (
              so.at.node,
              (
                so.place,
                so.among,
                (
                  so.lane,
                  so.found,
                  so.at.down,
                  so.refused,
                  grown ∙ ap (λ (e : Ending). s.old ++ (text_behind over.served.behind ++ e.text)) so.is,
                ),
              ),
            ),
          ),
        ),
      ),
    )

-- ---- a script of one line that asks for none

splits-alone : (read : List Input) (input : Input) (more : List Input) → publish ∷ [] ≡ read ++ input ∷ more
    → (read ≡ []) × (input ≡ publish)
splits-alone [] input more is = (refl, let same : publish ≡ input = cc in sym same)
splits-alone (r ∷ []) input more is = absurd cc
splits-alone (r ∷ q ∷ read) input more is = absurd cc

asks-that : (options : Options) (s : Account) → options.definitions ≡ None → options.queues ≡ 1 → s.bytes ≡ codes "publish a\n"
    → (over : Over options s) (line : ScriptLine) → NextAsks over line → said ≡ line
asks-that options s plain one bytes over line (input, (more, is), asks) =
    let b = over.served.behind in
    let parts : publish ∷ [] ≡ b.read ++ input ∷ more =
    sym (ap inputs_of bytes) ∙ b.is ∙ ap (λ (l : List Input). b.read ++ l) is in
    let split = splits-alone b.read input more parts in
    let rows : over.setup.queues ≡ plain_rows options.nodes options.group 1 =
    ap (λ (v : SetupState). v.queues) (plain-of options over.setup plain over.is_setup) ∙ ap (plain_rows options.nodes options.group) one in
    let same : Asks said ≡ Asks line =
    sym (asks-publish over.setup options.nodes options.group rows)
    ∙ sym (ap (λ (r : List Input). says over.setup (length r) publish) split.0)
    ∙ sym (ap (says over.setup (length b.read)) split.1) ∙ asks in
    cc

asks-nothing : (options : Options) (s : Account) → s.bytes ≡ [] → (over : Over options s) (line : ScriptLine)
    → NextAsks over line → ⊥
asks-nothing options s bytes over line (input, (more, is), asks) =
    let b = over.served.behind in
    none-left b.read (sym (ap inputs_of bytes) ∙ b.is ∙ ap (λ (l : List Input). b.read ++ l) is)
  where
    none-left : (read : List Input) → [] ≡ read ++ input ∷ more → ⊥
    none-left [] e = absurd cc
    none-left (x ∷ read) e = absurd cc

pub yard-unopened : (options : Options) (s : Account) → HasEnded 7 options s → options.definitions ≡ None
    → options.queues ≡ 1 → s.bytes ≡ codes "publish a\n" → (s.rest ≡ s.bytes) × (s.new ≡ s.old ++ codes "yard fault\n")
yard-unopened options s ended plain one bytes = by ((is-fault 7 options s (told 7 options s ended)).yard refl)
  where
    by : IsYardFault options s → (s.rest ≡ s.bytes) × (s.new ≡ s.old ++ codes "yard fault\n")
    by (NoDisk setup is_setup logs rose alone) = alone
    by (AtCrash rose over nodes image asks grown) =
        absurd (let e = asks-that options s plain one bytes over _ asks in cc)

abbrev DamagedFirst : Account → Type 0
DamagedFirst s =
    (s.rest ≡ s.bytes) × ((setup : ClusterSetup) × ((damage : Damage)
    × Contains s.troubles (FilesBreak setup [] 1 damage) × (s.new ≡ s.old ++ (damage_ending 1 damage).text)))

-- of one node nothing happens before it is recovered
record IsFirstNode (setup : ClusterSetup) (nodes : List ℕ) (at : RestartsTo setup nodes []) : Type 0 where
  node : at.node ≡ 1
  early : at.early ≡ []

first-node : (setup : ClusterSetup) (nodes : List ℕ) → nodes ≡ 1 ∷ [] → (at : RestartsTo setup nodes [])
    → IsFirstNode setup nodes at
first-node setup nodes one at = by at.before (sym one ∙ at.are) at.restarted
  where
    by : (before : List ℕ) → 1 ∷ [] ≡ before ++ at.node ∷ at.later
        → ForEach before (IsRestart setup) (after_all setup []) at.early → IsFirstNode setup nodes at
    by [] are none = record { node = let same : 1 ≡ at.node = cc in sym same; early = none }
    by (k ∷ []) are rest = absurd cc
    by (k ∷ j ∷ before) are rest = absurd cc

pub damage-unopened : (options : Options) (s : Account) → HasEnded 8 options s → options.definitions ≡ None
    → options.nodes ≡ 1 → options.queues ≡ 1 → s.bytes ≡ codes "publish a\n" → DamagedFirst s
damage-unopened options s ended plain nodes one bytes = by ((is-fault 8 options s (told 8 options s ended)).damaged refl)
  where
    told-by : (setup : ClusterSetup) (nodes : List ℕ) (ending : Ending) → nodes ≡ 1 ∷ []
        → EndsDamaged (Met s) setup nodes [] ending → (s.rest ≡ s.bytes) × (s.new ≡ s.old ++ ending.text)
        → DamagedFirst s
    told-by setup nodes ending are so (rest, grown) =
        let first = first-node setup nodes are so.at in (
          rest,
          (
            setup,
            (
              so.damage,
              subst (λ (events : List ClusterEvent). Contains s.troubles (FilesBreak setup events 1 so.damage)) first.early
                  (subst (λ (k : ℕ). Contains s.troubles (FilesBreak setup so.at.early k so.damage)) first.node so.broken),
              grown ∙ ap (λ (e : Ending). s.old ++ e.text) so.is
                  ∙ ap (λ (k : ℕ). s.old ++ (damage_ending k so.damage).text) first.node,
            ),
          ),
        )

    by : MeetsDamage options s → DamagedFirst s
    by (DamagedAtOpening setup is_setup logs ending so alone) =
        told-by (cluster_over setup logs) _ ending
        (ap (range_with_len 1) (ap (λ (v : SetupState). v.nodes) (plain-of options setup plain is_setup) ∙ nodes)) so alone
    by (DamagedAtRestart over nodes ending so asks grown) =
        absurd (let e = asks-that options s plain one bytes over _ asks in cc)

abbrev LostFirst : Account → Type 0
LostFirst s =
    (s.rest ≡ s.bytes) × ((setup : ClusterSetup) × ((node : ℕ) × ((place : ℕ) × ((lane : Stable)
    × Contains s.troubles (QueueIsFound setup [] node place lane)
    × (s.new ≡ s.old ++ (lost node (setup.name place) 0 lane.op).text)))))

pub lost-unopened : (options : Options) (s : Account) → HasEnded 9 options s → options.definitions ≡ None
    → options.queues ≡ 1 → s.bytes ≡ codes "publish a\n" → LostFirst s
lost-unopened options s ended plain one bytes = by ((is-fault 9 options s (told 9 options s ended)).lost refl)
  where
    read : (setup : Setup) {ending : Ending} (so : EndsUnsupported (Met s) setup ending) (lane : Option Stable)
        → lane ≡ Some so.lane → IsReadOf (Met s) (cluster_setup setup) so.node.0 so.place lane
        → s.new ≡ s.old ++ (lost so.node.0 ((cluster_setup setup).name so.place) 0 so.lane.op).text
        → (c : ClusterSetup) × ((node : ℕ) × ((place : ℕ) × ((lane : Stable)
        × Contains s.troubles (QueueIsFound c [] node place lane)
        × (s.new ≡ s.old ++ (lost node (c.name place) 0 lane.op).text))))
    read setup so None is failed grown = absurd cc
    read setup so (Some lane) is found grown =
        let same : lane ≡ so.lane = cc in (
          cluster_setup setup,
          (
            so.node.0,
            (
              so.place,
              (
                so.lane,
                subst (λ (l : Stable). Contains s.troubles (QueueIsFound (cluster_setup setup) [] so.node.0 so.place l)) same
                    found,
                grown,
              ),
            ),
          ),
        )

    by : HasLost options s → LostFirst s
    by (LostAtOpening setup is_setup ending so (rest, grown)) =
        (rest, read setup so (so.lanes so.node.0) so.found (so.read so.node so.member so.there) (grown ∙ ap (λ (e : Ending). s.old ++ e.text) so.is))
    by (LostAtRestart over nodes ending so asks grown) =
        absurd (let e = asks-that options s plain one bytes over _ asks in cc)

pub spent-unopened : (options : Options) (s : Account) → HasEnded 20 options s → s.bytes ≡ []
    → (s.rest ≡ []) × ((number : ℕ) × ((number ≡ 4294967295) ⊎ (2 ^ 63 ≤ number))
    × (s.new ≡ s.old ++ (codes "spent " ++ decimal number ++ codes "\n")))
spent-unopened options s ended bytes = by ((is-fault 20 options s (told 20 options s ended)).spent refl)
  where
    by : IsSpent options s
        → (s.rest ≡ []) × ((number : ℕ) × ((number ≡ 4294967295) ⊎ (2 ^ 63 ≤ number))
        × (s.new ≡ s.old ++ (codes "spent " ++ decimal number ++ codes "\n")))
    by (SpentAtOpening setup is_setup logs ending so (rest, grown)) =
        (rest ∙ bytes, (so.number, so.past, grown ∙ ap (λ (e : Ending). s.old ++ e.text) so.is))
    by (SpentAtLine over line ending so asks grown) = absurd (asks-nothing options s bytes over line asks)
