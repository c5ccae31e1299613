-- The setup of a script, by its words and by the export that they name.
use Rattle.std.proofs.Common.{◌≡◌, ◌⊎◌, List, Option, Some, None, ℕ, ◌++◌, ◌∙◌, ap, append_assoc, inl, inr, subst}
use Rattle.qq_route.specs.declared.setup.Setup.{Setup}
use Rattle.qq_route.specs.Setup.{plain_setup, state_of}
use Rattle.qq_ports.specs.Shelf.{Gives}
use Rattle.qq_ports.specs.Streams.{ShelfState}
use Rattle.qq_defs.specs.declared.fault.DefsFault.{DefsFault}
use Rattle.qq_defs.specs.declared.fault.DefsFault.TheVariants as faults
use Rattle.qq_defs.specs.Reading.{Fails}
use Rattle.qq_words.specs.declared.options.Options.{Options}
use Rattle.qq_cluster_run.specs.Definitions.{IsMadeBy, MayNotRead, read_export, refused_export}
use Rattle.qq_cluster_run.specs.Endings.{Ending, no_memory}
use Rattle.qq_cluster_run.specs.Runs.{IsSetup}

-- without an export
pub plain-of : (options : Options) (s : Setup) → options.definitions ≡ None → IsSetup options s
    → state_of s ≡ plain_setup options.nodes options.group options.queues options.log_bytes
plain-of options s plain is =
    subst (λ (name : Option (List ℕ)). IsMadeBy name None options (state_of s)) plain is

-- a refused export ends the run by its fault, unless there was no memory
pub refused : (name : List ℕ) (first last : ShelfState) (options : Options) (bytes : List ℕ) (fault : DefsFault)
    (ending : Ending) → Gives first.files name bytes → Fails fault (read_export options bytes) → ending ≡ refused_export fault
    → (ending ≡ no_memory) ⊎ MayNotRead (Some name) first last options ending
refused name first last options bytes (faults.Memory memory) ending gives fails is = inl is
refused name first last options bytes faults.Json ending gives fails is =
    inr (inr (record { bytes = bytes; gives = gives; fault = faults.Json; reads = fails; is = is }))
refused name first last options bytes faults.NotObject ending gives fails is =
    inr (inr (record { bytes = bytes; gives = gives; fault = faults.NotObject; reads = fails; is = is }))
refused name first last options bytes (faults.Missing path) ending gives fails is =
    inr (inr (record { bytes = bytes; gives = gives; fault = faults.Missing path; reads = fails; is = is }))
refused name first last options bytes (faults.BadArgument argument) ending gives fails is =
    inr (inr (record { bytes = bytes; gives = gives; fault = faults.BadArgument argument; reads = fails; is = is }))
refused name first last options bytes (faults.Unsupported other) ending gives fails is =
    inr (inr (record { bytes = bytes; gives = gives; fault = faults.Unsupported other; reads = fails; is = is }))
refused name first last options bytes faults.Policies ending gives fails is =
    inr (inr (record { bytes = bytes; gives = gives; fault = faults.Policies; reads = fails; is = is }))
refused name first last options bytes (faults.UnknownTarget target) ending gives fails is =
    inr (inr (record { bytes = bytes; gives = gives; fault = faults.UnknownTarget target; reads = fails; is = is }))
refused name first last options bytes (faults.Limit count) ending gives fails is =
    inr (inr (record { bytes = bytes; gives = gives; fault = faults.Limit count; reads = fails; is = is }))

-- ---- the first line

pub two-parts : (a b c x y : List ℕ) → b ≡ a ++ x → c ≡ b ++ y → c ≡ a ++ (x ++ y)
two-parts a b c x y first second = second ∙ ap (λ (l : List ℕ). l ++ y) first ∙ append_assoc a x y

pub three-parts : (a b c d x y z : List ℕ) → b ≡ a ++ x → c ≡ b ++ y → d ≡ c ++ z → d ≡ a ++ (x ++ (y ++ z))
three-parts a b c d x y z first second third =
    two-parts a b d x (y ++ z) first (two-parts b c d y z second third)
