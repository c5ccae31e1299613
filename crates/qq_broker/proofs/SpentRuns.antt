-- Where a run ends for a number, it has met that number at its end, and has printed it.
use Rattle.std.proofs.Common.{◌≡◌, ◌⊎◌, ◌+◌, ◌++◌, ℕ, List, [], Option, Some, ap, subst, ◌∙◌, inl, inr, arith}
use Rattle.std.specs.Prelude.{IfSome}
use Rattle.qq_ports.specs.Streams.{Streams, Writes}
use Rattle.qq_script_lines.specs.declared.line.ScriptLine.{ScriptLine}
use Rattle.qq_script_lines.specs.declared.line.ScriptLine.TheVariants.{Attach, Crash, Restart}
use Rattle.qq_route.specs.declared.setup.Setup.{Setup}
use Rattle.qq_cluster_model.specs.Cluster.{Cluster, ClusterEvent}
use Rattle.qq_cluster_run.specs.declared.stop.Stop.{Stop}
use Rattle.qq_cluster_run.specs.declared.stop.Stop.TheVariants as stops
use Rattle.qq_cluster_run.specs.Endings.{Ending, spent}
use Rattle.qq_cluster_run.specs.Inputs.{Input}
use Rattle.qq_cluster_run.specs.Runs.{Closes, EndsBy, HasRun, HasStopped, MayNotOpen, ending_of}
use Rattle.qq_cluster_run.specs.Serving.{Claims, EndsRun, EndsSpent, IsAtEnd, MayStop, Run, StopsAt, run_behind, setup_in, text_behind}
use Rattle.qq_cluster_run.specs.Setup.{Logs, cluster_over}
use Rattle.qq_cluster_run.specs.Troubles.{NumberEnds, Trouble}
use Rattle.qq_broker.proofs.DrillTold.{damage-status}
use Rattle.qq_broker.proofs.Harmless.{said-status}

module _ (met : Trouble → Type 0) (claims : Claims) (s : Setup) where
  -- the number that an ending tells was met
  pub record IsMet (ending : Ending) : Type 0 where
    pub logs : Logs
    pub events : List ClusterEvent
    pub number : ℕ
    pub past : IsAtEnd number
    pub stands : met (NumberEnds (cluster_over s logs) events number)
    pub is : ending ≡ spent number

  of-spent : (logs : Logs) (Allows : Cluster → List ClusterEvent → Type 0) (events : List ClusterEvent)
      (ending : Ending) → EndsSpent met (cluster_over s logs) Allows events ending → IsMet ending
  of-spent logs Allows events ending so =
      record {
        logs = logs;
        events = events ++ so.early;
        number = so.number;
        past = so.past;
        stands = so.stands;
        is = so.is;
      }

  -- an ending of another status
  apart : (ending : Ending) (status : ℕ) → 20 ≡ ending.status → ending.status ≡ status → (20 ≡ status → ⊥)
      → IsMet ending
  apart ending status is same other = absurd (other (is ∙ same))

  unopened : (ending : Ending) → MayNotOpen met s ending → 20 ≡ ending.status → IsMet ending
  unopened ending (inl so) is =
      apart ending 9 is (ap (λ (e : Ending). e.status) so.is) (λ e. absurd (omega (arith, e)))
  unopened ending (inr (logs, inl none)) is =
      apart ending 12 is (ap (λ (e : Ending). e.status) none) (λ e. absurd (omega (arith, e)))
  unopened ending (inr (logs, inr (inl (cause, yard)))) is =
      apart ending 7 is (ap (λ (e : Ending). e.status) yard) (λ e. absurd (omega (arith, e)))
  unopened ending (inr (logs, inr (inr (inl so)))) is =
      apart ending 8 is (ap (λ (e : Ending). e.status) so.is ∙ damage-status so.at.node so.damage)
      (λ e. absurd (omega (arith, e)))
  unopened ending (inr (logs, inr (inr (inr so)))) is = of-spent logs _ [] ending so

  at-line : (run : Run) (number : ℕ) (line : ScriptLine) (ending : Ending)
      → StopsAt met (setup_in s run) run.events number line ending → 20 ≡ ending.status → IsMet ending
  at-line run number (Attach by at tag taker) ending (gone, same) is =
      apart ending 4 is (ap (λ (e : Ending). e.status) same) (λ e. absurd (omega (arith, e)))
  at-line run number (Crash nodes image) ending (yard, same) is =
      apart ending 7 is (ap (λ (e : Ending). e.status) same) (λ e. absurd (omega (arith, e)))
  at-line run number (Restart nodes) ending (inl so) is =
      apart ending 8 is (ap (λ (e : Ending). e.status) so.is ∙ damage-status so.at.node so.damage)
      (λ e. absurd (omega (arith, e)))
  at-line run number (Restart nodes) ending (inr so) is =
      apart ending 9 is (ap (λ (e : Ending). e.status) so.is) (λ e. absurd (omega (arith, e)))
  at-line run number _ ending so is = absurd so

  may-stop : (run : Run) (number : ℕ) (line : ScriptLine) (ending : Ending)
      → MayStop met (setup_in s run) run.events number line ending → 20 ≡ ending.status → IsMet ending
  may-stop run number line ending (inl so) is = of-spent run.logs _ run.events ending so
  may-stop run number line ending (inr so) is = at-line run number line ending so is

  said : (ending : Ending) → (ending.status ≡ 4) ⊎ (ending.status ≡ 11) → 20 ≡ ending.status → IsMet ending
  said ending (inl four) is = apart ending 4 is four (λ e. absurd (omega (arith, e)))
  said ending (inr eleven) is = apart ending 11 is eleven (λ e. absurd (omega (arith, e)))

  ends : (run : Run) (input : Input) (ending : Ending) → EndsRun met s run input ending → 20 ≡ ending.status
      → IsMet ending
  ends run input ending (inl says) is = said ending (said-status s run.lines input ending says) is
  ends run input ending (inr so) is = may-stop run (run.lines + 1) so.line ending so.stops is

  -- ---- the whole run

  module _ (begun ended : Streams) (bytes : List ℕ) (known : begun.source.left ≡ Some bytes) where
    -- and it was printed last
    pub record HasPrinted : Type 0 where
      pub ending : Ending
      pub met_is : IsMet ending
      pub text : List ℕ
      pub written : Writes begun.sink ended.sink (text ++ ending.text)

    stopped : (stop : Stop) → HasStopped stop s begun ended met claims (ending_of stop).text
        → 20 ≡ (ending_of stop).status → HasPrinted
    stopped (stops.Ended ending) (may, so) is =
        let over : EndsBy met claims ending s bytes begun ended ending.text =
        subst (λ (l : Option (List ℕ)). IfSome l (λ bs. EndsBy met claims ending s bs begun ended ending.text)) known
        so in
        record {
          ending = ending;
          met_is = ends (run_behind over.served.behind) over.next.input ending over.next.ends is;
          text = text_behind over.served.behind;
          written = over.written;
        }
    stopped stops.ReadFault so is = absurd (let e : 20 ≡ 5 = is in omega (arith, e))
    stopped stops.WriteFault so is = absurd (let e : 20 ≡ 6 = is in omega (arith, e))
    stopped stops.NoMemory so is = absurd (let e : 20 ≡ 12 = is in omega (arith, e))

    closes : (ending : Ending) (Stands : List ℕ → Type 0) → Closes 20 ending begun.sink ended.sink Stands
        → (Stands ending.text → 20 ≡ ending.status → HasPrinted) → HasPrinted
    closes ending Stands (inl (is, stands)) printed = printed stands is
    closes ending Stands (inr (is, rose, part)) printed = absurd (let e : 20 ≡ 6 = is in omega (arith, e))

    printed : HasRun 20 s begun ended met claims → HasPrinted
    printed (inl so) =
        closes so.ending (Writes begun.sink ended.sink) so.closes
        (λ stands is. record {
          ending = so.ending;
          met_is = unopened so.ending so.may is;
          text = [];
          written = stands;
        })
    printed (inr (inl so)) = absurd (let e : 20 ≡ 0 = so.status_is in omega (arith, e))
    printed (inr (inr so)) =
        closes (ending_of so.stop) (λ more. HasStopped so.stop s begun ended met claims more) so.closes
        (λ stands is. stopped so.stop stands is)

    pub spent-run : HasRun 20 s begun ended met claims
        → (logs : Logs) × ((events : List ClusterEvent) × ((number : ℕ) × IsAtEnd number
        × met (NumberEnds (cluster_over s logs) events number)
        × ((text : List ℕ) × Writes begun.sink ended.sink (text ++ (spent number).text))))
    spent-run so =
        let p : HasPrinted = printed so in (
          p.met_is.logs,
          (
            p.met_is.events,
            (
              p.met_is.number,
              p.met_is.past,
              p.met_is.stands,
              (
                p.text,
                subst (λ (e : Ending). Writes begun.sink ended.sink (p.text ++ e.text)) p.met_is.is p.written,
              ),
            ),
          ),
        )
