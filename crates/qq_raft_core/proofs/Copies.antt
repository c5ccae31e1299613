-- Copies of a part of a log.
use Rattle.std.proofs.Common.{◌≡◌, ℕ, ◌+◌, ◌≤◌, ◌<◌, List, [], ◌∷◌, ◌++◌, length, take, drop, Some, sym, ap, ◌∙◌, arith}
use Rattle.std.specs.Prelude.{slice_get}
use Rattle.std.proofs.lemmas.List.{take_more, length-take, drop-append-le}
use Rattle.std.proofs.lemmas.Option.{slice_get_within, get_or_from_slice_get}
use Rattle.std.proofs.Math.ListN.{drop_of_length-le}
use Rattle.qq_entry.specs.declared.command.Entry.{Entry}
use Rattle.qq_log.specs.Log.{LogState, entry_at}
use Rattle.qq_log.specs.Stable.{no_snapshot}
use Rattle.qq_raft_core.proofs.Entries.{entry-known}

pub copied-none : (first : ℕ) (log : List Entry) → [] ≡ drop first (take first log)
copied-none first log = sym (drop_of_length-le (take first log) (omega (arith, length-take first log)))

-- one entry more
pub copied-more : (l : LogState) (now : List Entry) (first i : ℕ) (e : Entry) → l.base ≡ no_snapshot
    → entry_at l (i + 1) ≡ Some e → first ≤ i → now ≡ drop first (take i l.entries)
    → now ++ e ∷ [] ≡ drop first (take (i + 1) l.entries)
copied-more l now first i e whole here le is =
    let log = l.entries in
    let at : slice_get log i ≡ Some e = sym (entry-known l i whole) ∙ here in
    let within : i < length log = slice_get_within log i e at in
    let next : take (i + 1) log ≡ take i log ++ e ∷ [] =
    take_more log i e within
    ∙ ap (λ (x : Entry). take i log ++ x ∷ []) (get_or_from_slice_get log i e e at) in
    ap (λ (x : List Entry). x ++ e ∷ []) is
    ∙ sym (ap (drop first) next
    ∙ drop-append-le first (take i log) (e ∷ []) (omega (arith, length-take i log, le, within)))
