-- How a run begins.
use Rattle.std.proofs.Common.{◌≡◌, ℕ, ◌≤◌, List, Option, Some, None, inl, inr, refl, subst}
use Rattle.std.proofs.lemmas.Option.{IfSome_then}
use Rattle.std.specs.Io.KnownBytes.{Appends, Keeps}
use Rattle.qq_ports.specs.Streams.{SinkFails, SinkState, SourceState, Writes}
use Rattle.qq_route.specs.declared.setup.Setup.{Setup}
use Rattle.qq_cluster_run.specs.Definitions.{made_text}
use Rattle.qq_cluster_run.specs.Endings.{Ending}
use Rattle.qq_cluster_run.specs.Serving.{Claims}
use Rattle.qq_cluster_run.specs.Runs.{Closes, HasRun, HasStopped, IsBehindMade, IsDoneOver, IsUnopened, ending_of}
use Rattle.qq_cluster_run.specs.Troubles.{Trouble}
use Rattle.qq_cluster_run.proofs.Closings.{Rose_earlier, at, stopped_also}

-- ---- the sink's faults since an earlier time

pub closes_since : (status : ℕ) (ending : Ending) (a b c d : SinkState) (Stands Stands' : List ℕ → Type 0)
    → (SinkFails a b → SinkFails c d) → ((more : List ℕ) → Stands more → Stands' more)
    → Closes status ending a b Stands → Closes status ending c d Stands'
closes_since status ending a b c d Stands Stands' f g (inl (is, so)) = inl (is, g ending.text so)
closes_since status ending a b c d Stands Stands' f g (inr (is, rose, (count, so))) =
    inr (is, f rose, (count, g _ so))

-- the sink with this count
abbrev with_faults : (faults : ℕ) → SinkState → SinkState
with_faults faults sink = record { written = sink.written; faults = faults }

done_since : (claims : Claims) (s : Setup) (bytes : List ℕ) (x y : SourceState) (a b : SinkState) (fewer : ℕ)
    → IsDoneOver claims s bytes (at x a) (at y b) → IsDoneOver claims s bytes (at x (with_faults fewer a)) (at y b)
done_since claims s bytes x y a b fewer so =
    record { served = so.served; all = so.all; finally = so.finally; written = so.written }

run_since : (status : ℕ) (s : Setup) (x y : SourceState) (a b : SinkState) (fewer : ℕ) (met : Trouble → Type 0)
    (claims : Claims) → fewer ≤ a.faults → HasRun status s (at x a) (at y b) met claims
    → HasRun status s (at x (with_faults fewer a)) (at y b) met claims
run_since status s x y a b fewer met claims le (inl unopened) = inl (record {
  ending = unopened.ending;
  may = unopened.may;
  keeps = unopened.keeps;
  closes = closes_since status unopened.ending a b (with_faults fewer a) b (Writes a b) (Writes a b)
      (Rose_earlier fewer a.faults b.faults le) (λ more so. so) unopened.closes;
})
run_since status s x y a b fewer met claims le (inr (inl done)) = inr (inl (record {
  status_is = done.status_is;
  ended = done.ended;
  over = IfSome_then x.left done.over (λ bytes so. done_since claims s bytes x y a b fewer so);
}))
run_since status s x y a b fewer met claims le (inr (inr stopped)) = inr (inr (record {
  stop = stopped.stop;
  closes = closes_since status (ending_of stopped.stop) a b (with_faults fewer a) b
      (λ more. HasStopped stopped.stop s (at x a) (at y b) met claims more)
      (λ more. HasStopped stopped.stop s (at x (with_faults fewer a)) (at y b) met claims more)
      (Rose_earlier fewer a.faults b.faults le)
      (λ more so. stopped_also stopped.stop s x y a b (with_faults fewer a) b met claims more more
      (Rose_earlier fewer a.faults b.faults le) (λ text written. written) so) stopped.closes;
}))

-- ---- the first line

pub behind-made : (status : ℕ) (s : Setup) (x y : SourceState) (a b c : SinkState) (met : Trouble → Type 0)
    (claims : Claims) → a.faults ≤ b.faults → Writes a b (made_text s.made)
    → HasRun status s (at x b) (at y c) met claims → IsBehindMade status s (at x a) (at y c) met claims
behind-made status s x y a b c met claims le made ends = record {
  mid = b.written;
  made = made;
  ends = run_since status s x y b c a.faults met claims le ends;
}

-- ---- nothing was read

pub keeps-all : (a : Option (List ℕ)) → Keeps a a
keeps-all None = tt
keeps-all (Some bytes) = refl

-- and nothing was written but a closing line, after the sink was in `b`
pub closed-at-once : (status : ℕ) (ending : Ending) (x : SourceState) (a b c : SinkState) (May : Ending → Type 0)
    → a.faults ≤ b.faults → b.written ≡ a.written → May ending → Closes status ending b c (Writes b c)
    → IsUnopened status (at x a) (at x c) May
closed-at-once status ending x a b c May le same may closes = record {
  ending = ending;
  may = may;
  keeps = keeps-all x.left;
  closes = closes_since status ending b c a c (Writes b c) (Writes a c) (Rose_earlier a.faults b.faults c.faults le)
      (λ more so. subst (λ (o : Option (List ℕ)). Appends o c.written more) same so) closes;
}
