-- An audit that is extended by what is known to be committed.
use Rattle.std.proofs.Common.{◌≡◌, ◌⊎◌, ℕ, ◌+◌, ◌≤◌, ◌<◌, List, [], ◌∷◌, ◌++◌, length, take, drop, Some, None, sym, ap, ◌∙◌, append-nil, append_assoc, arith, inl, inr}
use Rattle.std.specs.Prelude.{slice_get}
use Rattle.std.proofs.lemmas.List.{take_all, take_more, length-take, drop-append-le}
use Rattle.std.proofs.lemmas.Option.{slice_get_within, get_or_from_slice_get, slice_get_cases, none-some}
use Rattle.std.proofs.Math.ListN.{drop_of_length-le}
use Rattle.qq_base.specs.Fronts.{IsFront}
use Rattle.qq_entry.specs.declared.command.Entry.{Entry}
use Rattle.qq_log.specs.Log.{LogState, entry_at}
use Rattle.qq_log.specs.Stable.{no_snapshot}
use Rattle.qq_raft_core.proofs.Entries.{entry-known}
use Rattle.qq_group.specs.Step.{extended}

-- as many entries as the audit has add nothing
pub extended-none : (audit log : List Entry) (n : ℕ) → n ≤ length audit → extended audit (take n log) ≡ audit
extended-none audit log n le =
    ap (λ (l : List Entry). audit ++ l) (drop_of_length-le (take n log) (omega (arith, length-take n log, le)))
    ∙ append-nil audit

-- one entry more
pub extended-more : (l : LogState) (audit now : List Entry) (i : ℕ) (e : Entry) → l.base ≡ no_snapshot
    → entry_at l (i + 1) ≡ Some e → length audit ≤ i → now ≡ extended audit (take i l.entries)
    → now ++ e ∷ [] ≡ extended audit (take (i + 1) l.entries)
extended-more l audit now i e whole here le is =
    let log = l.entries in
    let at : slice_get log i ≡ Some e = sym (entry-known l i whole) ∙ here in
    let within : i < length log = slice_get_within log i e at in
    let len = length-take i log in
    let next : take (i + 1) log ≡ take i log ++ e ∷ [] =
    take_more log i e within
    ∙ ap (λ (x : Entry). take i log ++ x ∷ []) (get_or_from_slice_get log i e e at) in
    let behind : drop (length audit) (take (i + 1) log) ≡ drop (length audit) (take i log) ++ e ∷ [] =
    ap (drop (length audit)) next
    ∙ drop-append-le (length audit) (take i log) (e ∷ []) (omega (arith, len, le, within)) in
    ap (λ (x : List Entry). x ++ e ∷ []) is ∙ append_assoc audit (drop (length audit) (take i log)) (e ∷ [])
    ∙ sym (ap (λ (x : List Entry). audit ++ x) behind)

past : (log : List Entry) (i : ℕ) → slice_get log i ≡ None → length log ≤ i
past log i is =
    elim (slice_get_cases log i).1 [
      | inl found ↦ absurd (none-some found.0 (sym is ∙ found.2))
      | inr beyond ↦ beyond.0
    ]

-- the log has no entry more
pub extended-past : (l : LogState) (audit : List Entry) (i end : ℕ) → l.base ≡ no_snapshot
    → entry_at l (i + 1) ≡ None → i ≤ end → extended audit (take i l.entries) ≡ extended audit (take end l.entries)
extended-past l audit i end whole here le =
    let log = l.entries in
    let all : length log ≤ i = past log i (sym (entry-known l i whole) ∙ here) in
    ap (extended audit) (take_all i log all ∙ sym (take_all end log (omega (arith, all, le))))

-- where a walk up to an end has come to its end, or never went
pub extended-end : (audit log : List Entry) (i end : ℕ) → length audit ≤ i → end ≤ i
    → (i ≤ end) ⊎ (i ≤ length audit) → extended audit (take i log) ≡ extended audit (take end log)
extended-end audit log i end behind last (inl le) =
    ap (λ (n : ℕ). extended audit (take n log)) (omega (arith, last, le))
extended-end audit log i end behind last (inr le) =
    extended-none audit log i le ∙ sym (extended-none audit log end (omega (arith, last, le)))

-- an audit only grows
pub extended_front : (audit log now : List Entry) → now ≡ extended audit log → IsFront audit now
extended_front audit log now is = record { rest = drop (length audit) log; is = is }
