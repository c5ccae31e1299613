-- How a run closes.
use Rattle.std.proofs.Common.{ℕ, ◌≤◌, inl, inr, List, [], ◌++◌, take, subst, append-nil, arith}
use Rattle.std.proofs.lemmas.Bool.{cases_lt}
use Rattle.std.proofs.lemmas.Option.{IfSome_then}
use Rattle.qq_base.specs.Causes.{Rose}
use Rattle.qq_base.proofs.Lists.{AllByRecursion-weaker}
use Rattle.qq_ports.specs.Streams.{SinkFails, SinkState, SourceState, Streams, Writes}
use Rattle.qq_route.specs.declared.setup.Setup.{Setup}
use Rattle.qq_cluster_run.specs.declared.stop.Stop.{Stop}
use Rattle.qq_cluster_run.specs.declared.stop.Stop.TheVariants as stops
use Rattle.qq_cluster_run.specs.Endings.{Ending}
use Rattle.qq_cluster_run.specs.Serving.{Claims, Histories, run_behind}
use Rattle.qq_cluster_run.specs.Runs.{EndsBy, HasAnswers, BreaksOff, IsCut, HasStopped, MayNotOpen, Closes}
use Rattle.qq_cluster_run.specs.Setup.{cluster_over}
use Rattle.qq_cluster_run.specs.Troubles.{Trouble, YardFails, DiskFails}
use Rattle.qq_cluster_run.proofs.Ahead.{both}
use Rattle.qq_cluster_run.proofs.Answering.{IsEarlier, damaged_earlier, met_earlier, spent_earlier, unsupported_earlier}

abbrev pub at : SourceState → SinkState → Streams
at source sink = record { source = source; sink = sink }

Rose_later : (a b c : ℕ) → a ≤ b → b ≤ c → Rose a b → Rose a c
Rose_later a b c ab bc (inl lt) = inl (omega arith)
Rose_later a b c ab bc (inr end) = elim (cases_lt b c) [ inl lt ↦ inl (omega arith) | inr le ↦ inr (omega arith) ]

pub Rose_earlier : (a b c : ℕ) → a ≤ b → Rose b c → Rose a c
Rose_earlier a b c ab (inl lt) = inl (omega arith)
Rose_earlier a b c ab (inr end) = inr end

-- ---- between other states of the sink

-- what was written between two states was written between two others, and then another text
abbrev pub WritesAlso : (a b c d : SinkState) (more other : List ℕ) → Type 0
WritesAlso a b c d more other = (text : List ℕ) → Writes a b (text ++ more) → Writes c d (text ++ other)

ends_also : (met : Trouble → Type 0) (claims : Claims) (ending : Ending) (s : Setup) (bytes : List ℕ)
    (x y : SourceState) (a b c d : SinkState) (more other : List ℕ) → WritesAlso a b c d more other
    → EndsBy met claims ending s bytes (at x a) (at y b) more
    → EndsBy met claims ending s bytes (at x c) (at y d) other
ends_also met claims ending s bytes x y a b c d more other f so =
    record { served = so.served; next = so.next; finally = so.finally; written = f _ so.written }

answers_also : (claims : Claims) (s : Setup) (bytes : List ℕ) (x y : SourceState) (a b c d : SinkState)
    (more other : List ℕ) → WritesAlso a b c d more other → HasAnswers claims s bytes (at x a) (at y b) more
    → HasAnswers claims s bytes (at x c) (at y d) other
answers_also claims s bytes x y a b c d more other f so =
    record { served = so.served; is_piece = so.is_piece; finally = so.finally; written = f _ so.written }

breaks_also : (had : Histories) (s : Setup) (bytes : List ℕ) (x y : SourceState) (a b c d : SinkState)
    (more other : List ℕ) → WritesAlso a b c d more other → BreaksOff had s bytes (at x a) (at y b) more
    → BreaksOff had s bytes (at x c) (at y d) other
breaks_also had s bytes x y a b c d more other f so = record {
  served = so.served;
  text = so.text;
  is = so.is;
  said = so.said;
  unsaid = so.unsaid;
  parts = so.parts;
  written = f so.said so.written;
}

cut_also : (claims : Claims) (s : Setup) (bytes : List ℕ) (x y : SourceState) (a b c d : SinkState)
    (more other : List ℕ) → WritesAlso a b c d more other → IsCut claims s bytes (at x a) (at y b) more
    → IsCut claims s bytes (at x c) (at y d) other
unfolding breaks_also
cut_also claims s bytes x y a b c d more other f so = record {
  breaks = breaks_also claims.during s bytes x y a b c d more other f so.breaks;
  finally = so.finally;
}

pub stopped_also : (stop : Stop) (s : Setup) (x y : SourceState) (a b c d : SinkState) (met : Trouble → Type 0)
    (claims : Claims) (more other : List ℕ) → (SinkFails a b → SinkFails c d) → WritesAlso a b c d more other
    → HasStopped stop s (at x a) (at y b) met claims more → HasStopped stop s (at x c) (at y d) met claims other
stopped_also (stops.Ended ending) s x y a b c d met claims more other fails f so =
    (so.0, IfSome_then x.left so.1 (λ bytes h. ends_also met claims ending s bytes x y a b c d more other f h))
stopped_also stops.ReadFault s x y a b c d met claims more other fails f so =
    (so.0, IfSome_then x.left so.1 (λ bytes h. answers_also claims s bytes x y a b c d more other f h))
stopped_also stops.WriteFault s x y a b c d met claims more other fails f so =
    (fails so.0, IfSome_then x.left so.1 (λ bytes h. cut_also claims s bytes x y a b c d more other f h))
stopped_also stops.NoMemory s x y a b c d met claims more other fails f so =
    IfSome_then x.left so (λ bytes h. breaks_also claims.during s bytes x y a b c d more other f h)

-- ---- the closing line

then-writes : (a b c : SinkState) (more : List ℕ) → Writes b c more → WritesAlso a b a c [] more
then-writes a b c more grown text so = both a b c text more (subst (Writes a b) (append-nil text) so) grown

-- a run that stopped, and whose closing line was written, whole or in part
pub stop_closes : (stop : Stop) (status : ℕ) (ending : Ending) (s : Setup) (x y : SourceState) (a b c : SinkState)
    (met : Trouble → Type 0) (claims : Claims) → a.faults ≤ b.faults → b.faults ≤ c.faults
    → HasStopped stop s (at x a) (at y b) met claims [] → Closes status ending b c (Writes b c)
    → Closes status ending a c (λ more. HasStopped stop s (at x a) (at y c) met claims more)
stop_closes stop status ending s x y a b c met claims before after so (inl (is, grown)) =
    inl (
      is,
      stopped_also stop s x y a b a c met claims [] ending.text (Rose_later a.faults b.faults c.faults before after)
          (then-writes a b c ending.text grown) so,
    )
stop_closes stop status ending s x y a b c met claims before after so (inr (is, rose, part)) =
    inr (
      is,
      Rose_earlier a.faults b.faults c.faults before rose,
      (
        part.0,
        stopped_also stop s x y a b a c met claims [] (take part.0 ending.text)
            (Rose_later a.faults b.faults c.faults before after) (then-writes a b c (take part.0 ending.text) part.1) so,
      ),
    )

-- ---- what a run has met

ends_earlier : (met met' : Trouble → Type 0) (claims : Claims) → IsEarlier met met' → (ending : Ending) (s : Setup)
    (bytes : List ℕ) (before later : Streams) (more : List ℕ) → EndsBy met claims ending s bytes before later more
    → EndsBy met' claims ending s bytes before later more
ends_earlier met met' claims f ending s bytes before later more so = record {
  served = so.served;
  next = record {
    input = so.next.input;
    more = so.next.more;
    is = so.next.is;
    ends = met_earlier met met' f s (run_behind so.served.behind) so.next.input ending so.next.ends;
  };
  finally = so.finally;
  written = so.written;
}

-- since an earlier time
pub stopped_earlier : (met met' : Trouble → Type 0) (claims : Claims) → IsEarlier met met' → (stop : Stop) (s : Setup)
    (before later : Streams) (more : List ℕ) → HasStopped stop s before later met claims more
    → HasStopped stop s before later met' claims more
stopped_earlier met met' claims f (stops.Ended ending) s before later more so = (
  record {
    read = so.0.read;
    behind = so.0.behind;
    input = so.0.input;
    ends = met_earlier met met' f s (run_behind so.0.behind) so.0.input ending so.0.ends;
    finally = so.0.finally;
  },
  IfSome_then before.source.left so.1
      (λ bytes h. ends_earlier met met' claims f ending s bytes before later more h),
)
stopped_earlier met met' claims f stops.ReadFault s before later more so = so
stopped_earlier met met' claims f stops.WriteFault s before later more so = so
stopped_earlier met met' claims f stops.NoMemory s before later more so = so

pub unopened_earlier : (met met' : Trouble → Type 0) → IsEarlier met met' → (s : Setup) (ending : Ending)
    → MayNotOpen met s ending → MayNotOpen met' s ending
unopened_earlier met met' f s ending (inl lost) = inl (unsupported_earlier met met' f s ending lost)
unopened_earlier met met' f s ending (inr (logs, inl none)) = inr (logs, inl none)
unopened_earlier met met' f s ending (inr (logs, inr (inl (inl yard, is)))) =
    inr (logs, inr (inl (inl (f YardFails yard), is)))
unopened_earlier met met' f s ending (inr (logs, inr (inl (inr (some, disks), is)))) =
    inr (
      logs,
      inr (inl (
        inr (
          some,
          AllByRecursion-weaker (λ (k : ℕ). met (DiskFails k)) (λ (k : ℕ). met' (DiskFails k)) (λ k so. f (DiskFails k) so)
              (cluster_over s logs).nodes disks,
        ),
        is,
      )),
    )
unopened_earlier met met' f s ending (inr (logs, inr (inr (inl damaged)))) =
    inr (
      logs,
      inr (inr (inl (damaged_earlier met met' f (cluster_over s logs) (cluster_over s logs).nodes [] ending damaged))),
    )
unopened_earlier met met' f s ending (inr (logs, inr (inr (inr spent)))) =
    inr (logs, inr (inr (inr (spent_earlier met met' f (cluster_over s logs) _ [] ending spent))))
