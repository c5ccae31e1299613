-- Words that `clap` refuses.
use Rattle.std.proofs.Common.{◌≡◌, ◌∙◌, ap, inl, inr, refl, subst, true, List, [], ◌∷◌, Option, None}
use Rattle.clap.specs.Words.{App, HasKind, Kinds, Row, Text, fault_of, is_simple_and_free, kind_of}
use Rattle.clap.specs.declared.error.Error.{Error}
use Rattle.clap.specs.declared.error.kind.ErrorKind.TheVariants as kinds
use Rattle.qq_words.specs.Words.{unless}
use Rattle.qq_doctor.specs.Words.{parsed, program}

has_some : (all : Kinds) (found : Option (Text × List Row)) (e : Error) → HasKind all e
    → (kind_of e ≡ kinds.OutOfMemory → ⊥) → None ≡ unless all found
has_some [] found e (inl is) other = absurd (other is)
has_some [] found e (inr among) other = absurd among
has_some (k ∷ ks) found e has other = refl

is_free : is_simple_and_free program ≡ true
is_free = refl

-- `clap` has refused them, and not for want of memory
pub refused : (app : App) (words : List Text) (e : Error) → app ≡ program
    → (is_simple_and_free app ≡ true → HasKind (fault_of app words) e)
    → (kind_of e ≡ kinds.OutOfMemory → ⊥) → None ≡ parsed words
refused app words e is has other =
    has_some (fault_of program words) _ e
    (subst (λ (a : App). HasKind (fault_of a words) e) is (has (ap is_simple_and_free is ∙ is_free))) other
