-- What a dump has done.
use Rattle.std.proofs.Common.{◌≡◌, ◌⊎◌, ◌≤◌, ℕ, List, ◌++◌, inl, inr, refl, ap, subst, ◌∙◌, arith}
use Rattle.std.specs.Prelude.{IsTrue}
use Rattle.std.specs.Io.KnownBytes.{Keeps}
use Rattle.qq_base.specs.Causes.{Rose}
use Rattle.qq_base.specs.declared.ids.NodeId.{NodeId}
use Rattle.qq_disk.specs.Disk.{now}
use Rattle.qq_disk.specs.Facts.{DiskFacts}
use Rattle.qq_dump.specs.Files.{LogFile, dump_text, log_files}
use Rattle.qq_dump.specs.Written.{WritesWhole}
use Rattle.qq_ports.specs.declared.yard_fault.YardFault.{YardFault}
use Rattle.qq_ports.specs.declared.yard_fault.YardFault.TheVariants.{Failed, Memory as OfMemory}
use Rattle.qq_ports.specs.Yard.{IsYardCaused}
use Rattle.qq_ports.specs.Streams.{SinkState, Streams, Writes}
use Rattle.qq_cluster_run.specs.Endings.{Ending, no_memory, yard_fault}
use Rattle.qq_cluster_run.specs.Runs.{Closes}
use Rattle.qq_cluster_run.proofs.Ahead.{both}
use Rattle.qq_cluster_run.proofs.Beginnings.{closes_since}
use Rattle.qq_cluster_run.proofs.Closings.{Rose_earlier}
use Rattle.qq_broker.specs.Dumping.{DumpEnds, HasDumped, IsDumpEnding}
use Rattle.qq_broker.specs.Lives.{Giving, IsGiven}
use Rattle.qq_broker.specs.Serving.{IsYardEnding, yard_ending}

-- ---- a disk's text is written

pub cut-short : (status : ℕ) (ending : Ending) (disk : Type 0) (files : List LogFile) (a b c : SinkState)
    → a.faults ≤ b.faults → WritesWhole a.written b.written files → IsDumpEnding disk ending
    → Closes status ending b c (Writes b c) → HasDumped status disk files a c
cut-short status ending disk files a b c le (front, is_front, written) may closes =
    inr (inr (record {
      front = front;
      is_front = is_front;
      ending = ending;
      may = may;
      closes = closes_since status ending b c a c (Writes b c) (λ more. Writes a c (dump_text front ++ more))
          (Rose_earlier a.faults b.faults c.faults le)
          (λ more so. both a b c (dump_text front) more written so) closes;
    }))

-- ---- the yard gives no disk

pub yard-ended : (before after : ℕ) (fault : YardFault) → IsYardCaused before after fault
    → IsYardEnding before after (yard_ending fault)
yard-ended before after Failed rose = inl (rose, refl)
yard-ended before after (OfMemory m) is = inr refl

-- ---- what a dump tells

closed : (status : ℕ) (ending : Ending) (a b : SinkState) (Stands : List ℕ → Type 0)
    → (ending ≡ yard_fault) ⊎ (ending ≡ no_memory) → Closes status ending a b Stands
    → (status ≡ 6) ⊎ ((status ≡ 7) ⊎ (status ≡ 12))
closed status ending a b Stands (inl yard) (inl (is, so)) = inr (inl (is ∙ ap (λ (e : Ending). e.status) yard))
closed status ending a b Stands (inr none) (inl (is, so)) = inr (inr (is ∙ ap (λ (e : Ending). e.status) none))
closed status ending a b Stands may (inr (is, rose, part)) = inl is

which : (fault : Type 0) (ending : Ending) → (fault × (ending ≡ yard_fault)) ⊎ (ending ≡ no_memory)
    → (ending ≡ yard_fault) ⊎ (ending ≡ no_memory)
which fault ending (inl yard) = inl yard.1
which fault ending (inr none) = inr none

zero-no : (status : ℕ) → status ≡ 0 → (status ≡ 6) ⊎ ((status ≡ 7) ⊎ (status ≡ 12)) → ⊥
zero-no status is (inl e) = absurd (omega (arith, is, e))
zero-no status is (inr (inl e)) = absurd (omega (arith, is, e))
zero-no status is (inr (inr e)) = absurd (omega (arith, is, e))

-- a closing line with status 7 tells of a fault
seven : (fault : Type 0) (ending : Ending) (a b : SinkState) (Stands : List ℕ → Type 0)
    → (fault × (ending ≡ yard_fault)) ⊎ (ending ≡ no_memory) → Closes 7 ending a b Stands → fault
seven fault ending a b Stands (inl yard) closes = yard.0
seven fault ending a b Stands (inr none) (inl (is, so)) =
    let same : 7 ≡ 12 = is ∙ ap (λ (e : Ending). e.status) none in absurd (omega (arith, same))
seven fault ending a b Stands (inr none) (inr (is, rose, part)) = let same : 7 ≡ 6 = is in absurd (omega (arith, same))

module _ {D : Type 0} (given : Giving D) (facts : DiskFacts D) (node : NodeId) (before later : Streams)
    (yard yard' : ℕ) where
  abbrev Ends : ℕ → Type 0
  Ends status =
      DumpEnds given facts status node before later yard yard'

  pub dump-status : (status : ℕ) → Ends status
      → (status ≡ 0) ⊎ ((status ≡ 6) ⊎ ((status ≡ 7) ⊎ (status ≡ 12)))
  dump-status status (inl un) =
      inr (closed status un.ending before.sink later.sink (Writes before.sink later.sink)
      (which (Rose yard yard') un.ending un.may) un.closes)
  dump-status status (inr so) = by so.has
    where
      disk : Type 0
      disk = Rose (facts.faults so.first) (facts.faults so.last)

      by : HasDumped status disk so.files before.sink later.sink
          → (status ≡ 0) ⊎ ((status ≡ 6) ⊎ ((status ≡ 7) ⊎ (status ≡ 12)))
      by (inl (is, grown)) = inl is
      by (inr (inl cut)) = inr (inl cut.0)
      by (inr (inr cut)) =
          inr (closed status cut.ending before.sink later.sink
          (λ more. Writes before.sink later.sink (dump_text cut.front ++ more))
          (which disk cut.ending cut.may) cut.closes)

  pub dump-done : Ends 0
      → (disk : D) × IsGiven given facts node.0 disk × Keeps before.source.left later.source.left
      × (IsTrue (facts.tells disk) → Writes before.sink later.sink (dump_text (log_files (now (facts.past disk)))))
  dump-done (inl un) =
      absurd (zero-no 0 refl (closed 0 un.ending before.sink later.sink (Writes before.sink later.sink)
      (which (Rose yard yard') un.ending un.may) un.closes))
  dump-done (inr so) = by so.has
    where
      disk : Type 0
      disk = Rose (facts.faults so.first) (facts.faults so.last)

      by : HasDumped 0 disk so.files before.sink later.sink
          → (d : D) × IsGiven given facts node.0 d × Keeps before.source.left later.source.left
          × (IsTrue (facts.tells d) → Writes before.sink later.sink (dump_text (log_files (now (facts.past d)))))
      by (inl (is, grown)) = (
        so.first,
        so.given_is,
        so.keeps,
        λ tell. subst (λ (files : List LogFile). Writes before.sink later.sink (dump_text files)) (so.shown tell) grown,
      )
      by (inr (inl cut)) = let same : 0 ≡ 6 = cut.0 in absurd (omega (arith, same))
      by (inr (inr cut)) =
          absurd (zero-no 0 refl (closed 0 cut.ending before.sink later.sink
          (λ more. Writes before.sink later.sink (dump_text cut.front ++ more))
          (which disk cut.ending cut.may) cut.closes))

  pub dump-failed : Ends 7
      → Rose yard yard'
      ⊎ ((disk : D) × IsGiven given facts node.0 disk × ((last : D) × Rose (facts.faults disk) (facts.faults last)))
  dump-failed (inl un) =
      inl (seven (Rose yard yard') un.ending before.sink later.sink (Writes before.sink later.sink) un.may un.closes)
  dump-failed (inr so) = by so.has
    where
      disk : Type 0
      disk = Rose (facts.faults so.first) (facts.faults so.last)

      by : HasDumped 7 disk so.files before.sink later.sink
          → Rose yard yard'
          ⊎ ((d : D) × IsGiven given facts node.0 d × ((last : D) × Rose (facts.faults d) (facts.faults last)))
      by (inl (is, grown)) = let same : 7 ≡ 0 = is in absurd (omega (arith, same))
      by (inr (inl cut)) = let same : 7 ≡ 6 = cut.0 in absurd (omega (arith, same))
      by (inr (inr cut)) =
          inr (
            so.first,
            so.given_is,
            (
              so.last,
              seven disk cut.ending before.sink later.sink
                  (λ more. Writes before.sink later.sink (dump_text cut.front ++ more)) cut.may
                  cut.closes,
            ),
          )
