-- What a queue shows, one list after the other.
use Rattle.std.proofs.Common.{◌≡◌, List, [], ◌++◌, ap, sym, append_assoc, append-nil, ◌∙◌}
use Rattle.qq_base.specs.Fronts.{IsFront}
use Rattle.qq_session.specs.declared.shown.Shown.{Shown}

-- what the code shows is what the definition does
pub shows-of : (shown real before after : List Shown) → real ≡ shown → after ≡ before ++ shown
    → after ≡ before ++ real
shows-of shown real before after is said = said ∙ ap (λ (l : List Shown). before ++ l) (sym is)

-- nothing is shown
pub shows-nothing : (real before : List Shown) → real ≡ [] → before ≡ before ++ real
shows-nothing real before is = sym (ap (λ (l : List Shown). before ++ l) is ∙ append-nil before)

-- more is shown, and then more
pub shows-both : (first rest before mid after : List Shown) → mid ≡ before ++ first → after ≡ mid ++ rest
    → after ≡ before ++ (first ++ rest)
shows-both first rest before mid after one two =
    two ∙ ap (λ (l : List Shown). l ++ rest) one ∙ append_assoc before first rest

pub shown-front : (shown before after : List Shown) → after ≡ before ++ shown → IsFront before after
shown-front shown before after is = record { rest = shown; is = is }
