-- Moments in a row: a call after a call, a weaker fact, and from a fact of each moment to one of whatever a crash leaves.
use Rattle.std.proofs.Common.{◌≡◌, List, [], ◌∷◌, ◌++◌, refl, sym, ap, subst, ◌∙◌, append_assoc}
use Rattle.std.specs.List.{AllByRecursion}
use Rattle.qq_disk.specs.Disk.{Disk, now}
use Rattle.qq_disk.specs.Moments.{Adds}
use Rattle.qq_disk.specs.Crash.{Remains, Leaves, LeavesOnly}

both_parts : (P : Disk → Type 0) (ds es : List Disk) → AllByRecursion P ds → AllByRecursion P es
    → AllByRecursion P (ds ++ es)
both_parts P [] es p q = q
both_parts P (d ∷ ds) es p q = (p.0, both_parts P ds es p.1 q)

weaker : (P Q : Disk → Type 0) → ((d : Disk) → P d → Q d) → (ds : List Disk) → AllByRecursion P ds
    → AllByRecursion Q ds
weaker P Q h [] p = tt
weaker P Q h (d ∷ ds) p = (h d p.0, weaker P Q h ds p.1)

-- no moment more
pub adds-none : (P : Disk → Type 0) (old : List Disk) → Adds P old old
adds-none P old = record { more = []; is = refl; each = tt }

-- the same moments
pub adds-same : (P : Disk → Type 0) (old new : List Disk) → new ≡ old → Adds P old new
adds-same P old new same = record { more = []; is = same; each = tt }

-- one moment more
pub adds-one : (P : Disk → Type 0) (d : Disk) (old : List Disk) → P d → Adds P old (d ∷ old)
adds-one P d old p = record { more = d ∷ []; is = refl; each = (p, tt) }

-- one call, and then another
pub adds-then : (P : Disk → Type 0) (old mid new : List Disk) → Adds P old mid → Adds P mid new
    → Adds P old new
adds-then P old mid new a b = record {
  more = b.more ++ a.more;
  is = b.is ∙ ap (λ (ds : List Disk). b.more ++ ds) a.is ∙ sym (append_assoc b.more a.more old);
  each = both_parts P b.more a.more b.each a.each;
}

-- a weaker fact
pub adds-weaker : (P Q : Disk → Type 0) (old new : List Disk) → ((d : Disk) → P d → Q d) → Adds P old new
    → Adds Q old new
adds-weaker P Q old new h a = record { more = a.more; is = a.is; each = weaker P Q h a.more a.each }

-- one call, and then another whose own fact is stronger
pub adds-step : (P Q : Disk → Type 0) (old mid new : List Disk) → Adds P old mid → Adds Q mid new
    → ((d : Disk) → Q d → P d) → Adds P old new
adds-step P Q old mid new a b h = adds-then P old mid new a (adds-weaker Q P mid new h b)

-- from a fact of each moment to one of whatever a crash leaves
pub adds-leaves : (P : Disk → Type 0) (Q : Remains → Type 0) (old new : List Disk)
    → ((d : Disk) → P d → Leaves Q d) → Adds P old new → LeavesOnly Q old new
adds-leaves P Q old new h a = adds-weaker P (Leaves Q) old new h a

-- what holds at each moment holds now
pub adds-now : (P : Disk → Type 0) (old new : List Disk) → Adds P old new → P (now old) → P (now new)
adds-now P old new a here = subst (λ (ds : List Disk). P (now ds)) (sym a.is) (newest a.more a.each)
  where
    newest : (more : List Disk) → AllByRecursion P more → P (now (more ++ old))
    newest [] each = here
    newest (d ∷ more) each = each.0
