-- The names that are listed are those of the files that are there.
use Rattle.std.proofs.Common.{◌≡◌, ◌++◌, Bool, true, false, not, cond, List, [], ◌∷◌, Option, Some, None, is_some, filter, refl, sym, ap, ◌∙◌, rules, BTreeMap, Less}
use Rattle.std.specs.Cmp.{IsTotalOrder, IsEquivalence, eq_by_cmp_equiv}
use Rattle.std.specs.Cmp.Rules.{comparing}
use Rattle.std.specs.Ordering.{eq_by_cmp}
use Rattle.std.specs.List.{AllByRecursion}
use Rattle.std.specs.List.Sorted.{IsStrictlySortedBy}
use Rattle.std.specs.BTreeMap.{IsOrdered}
use Rattle.std.specs.Map.{keys_of, lookup}
use Rattle.std.proofs.lemmas.Map.Keys.{IsDistinct-from_sorted}
use Rattle.std.proofs.lemmas.Map.Entries.{lookup-filter-values, option_filter}
use Rattle.std.proofs.lemmas.Map.Views.{Contains-keys_from_lookup, IsSome-lookup_from_Contains}
use Rattle.qq_disk.specs.declared.name.FileName.{FileName}
use Rattle.qq_disk.specs.Disk.{FileState, file_content, IsListing}
use Rattle.qq_disk.specs.Name.{name_cmp}
use Rattle.qq_disk.proofs.Names.{same_name-true}
use Rattle.qq_mem_disk.specs.Files.{disk_of}
use Rattle.qq_mem_disk.specs.Listing.{listed_names}

pub name_total : IsTotalOrder name_cmp
name_total = search (comparing, rules)

name_laws : IsEquivalence (eq_by_cmp name_cmp)
name_laws = eq_by_cmp_equiv name_total

is_shown : (f : FileState) (removed : Bool)
    → is_some (cond (not removed) (Some f) None) ≡ is_some (cond removed None (Some (f.kept ++ f.pending)))
is_shown f true = refl
is_shown f false = refl

is_there : (o : Option FileState) → is_some (option_filter (λ f. not f.removed) o) ≡ is_some (file_content o)
is_there None = refl
is_there (Some f) = is_shown f f.removed

-- what is before all is before those that are kept
before_kept : (name : FileName) (p : FileName × FileState → Bool) (entries : List (FileName × FileState))
    → AllByRecursion (λ other. name_cmp name other ≡ Less) (keys_of entries)
    → AllByRecursion (λ other. name_cmp name other ≡ Less) (keys_of (filter p entries))
before_kept name p [] all = tt
before_kept name p (e ∷ entries) all = kept (before_kept name p entries all.1) (p e)
  where
    kept : AllByRecursion (λ other. name_cmp name other ≡ Less) (keys_of (filter p entries)) → (b : Bool)
        → AllByRecursion (λ other. name_cmp name other ≡ Less)
        (keys_of (cond b (e ∷ filter p entries) (filter p entries)))
    kept rest true = (all.0, rest)
    kept rest false = rest

sorted_kept : (p : FileName × FileState → Bool) (entries : List (FileName × FileState))
    → IsStrictlySortedBy name_cmp (keys_of entries) → IsStrictlySortedBy name_cmp (keys_of (filter p entries))
unfolding IsStrictlySortedBy
sorted_kept p [] sorted = tt
sorted_kept p (e ∷ entries) sorted = kept (sorted_kept p entries sorted.1) (p e)
  where
    kept : IsStrictlySortedBy name_cmp (keys_of (filter p entries)) → (b : Bool)
        → IsStrictlySortedBy name_cmp (keys_of (cond b (e ∷ filter p entries) (filter p entries)))
    kept rest true = (before_kept e.0 p entries sorted.0, rest)
    kept rest false = rest

-- the list of a map's files
pub listing : (files : BTreeMap FileName FileState) → IsOrdered name_cmp files
    → IsListing (disk_of files) (listed_names files.entries)
listing files ordered = record {
  listed = λ file.
      let found : lookup (eq_by_cmp name_cmp file) (filter (λ e. not e.1.removed) files.entries) ≡ option_filter
      (λ f. not f.removed) (lookup (eq_by_cmp name_cmp file) files.entries) =
      lookup-filter-values name_laws (λ (f : FileState). not f.removed) file files.entries
      (IsDistinct-from_sorted name_cmp (keys_of files.entries) ordered) in
      let same : is_some (lookup (eq_by_cmp name_cmp file) (filter (λ e. not e.1.removed) files.entries)) ≡ is_some
      (file_content (disk_of files file)) = ap is_some found ∙ is_there (disk_of files file) in (
        λ contains. sym same ∙ IsSome-lookup_from_Contains name_laws file
            (filter (λ e. not e.1.removed) files.entries) contains,
        λ here. Contains-keys_from_lookup same_name-true file (filter (λ e. not e.1.removed) files.entries)
            (same ∙ here),
      );
  rising = sorted_kept (λ e. not e.1.removed) files.entries ordered;
}
