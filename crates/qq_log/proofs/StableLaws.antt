-- What ops come to: a log all of whose entries are known, and segments that have entries of it.
use Rattle.std.proofs.Common.{◌≡◌, ℕ, zero, suc, ◌+◌, ◌-◌, ◌<◌, ◌≤◌, Bool, true, false, cond, List, [], ◌∷◌, ◌++◌, length, take, drop, Option, Some, None, refl, sym, ap, subst, ◌∙◌, arith, inl, inr}
use Rattle.std.specs.Prelude.{IsTrue, IfSome, map, option_map, option_to_list, slice_get}
use Rattle.std.specs.List.{AllByRecursion}
use Rattle.std.proofs.lemmas.Bool.{and_parts, and_from, ltb-true, leb-true, lt-ltb, le-leb, cond_both, cases_eq, eq-eqb, ne_eqb, lt-leb}
use Rattle.std.proofs.lemmas.List.{length-append, length-take, length-map}
use Rattle.std.proofs.lemmas.List.Concat.{flat_map-cons}
use Rattle.qq_base.proofs.Lists.{AllByRecursion-append, AllByRecursion-weaker, fold-keeps}
use Rattle.qq_base.specs.declared.ids.Term.{Term}
use Rattle.qq_entry.specs.declared.command.Entry.{Entry}
use Rattle.qq_log.specs.declared.head.SnapshotHead.{SnapshotHead}
use Rattle.qq_log.specs.declared.head.Span.{Span}
use Rattle.qq_log.specs.declared.op.Op.{Op}
use Rattle.qq_log.specs.declared.op.Op.TheVariants.{Change, SnapshotMade, SegmentMade}
use Rattle.qq_log.specs.Above.{last_above}
use Rattle.qq_log.specs.Log.{LogState, term_at, is_term, entries_behind}
use Rattle.qq_log.specs.Op.{number}
use Rattle.qq_log.specs.Stable.{Stable, new_state, last_index, follows, may_keep, may_rebase, has_range, cut_span, reaches_above, segments_between, change, terms, has_term, tail_behind, rebase, add_segment, act, apply_op, then_apply, stable, known_entries, IsOfLog}

-- ---- known entries

IsThere : Option Entry → Type 0
IsThere None = ⊥
IsThere (Some e) = Unit {0}

all_known : (log : List (Option Entry)) → AllByRecursion IsThere log → log ≡ map Some (known_entries log)
unfolding IsThere
all_known [] there = refl
all_known (None ∷ log) there = absurd there.0
all_known (Some e ∷ log) there =
    ap (λ (rest : List (Option Entry)). Some e ∷ rest) (all_known log there.1)
    ∙ ap (map Some) (sym (flat_map-cons option_to_list (Some e) log))

made_known : (es : List Entry) → AllByRecursion IsThere (map Some es)
unfolding IsThere
made_known [] = tt
made_known (e ∷ es) = (tt, made_known es)

take_all : {A : Type 0} (P : A → Type 0) (n : ℕ) (xs : List A) → AllByRecursion P xs → AllByRecursion P (take n xs)
take_all P zero [] all = tt
take_all P (suc n) [] all = tt
take_all P zero (x ∷ xs) all = tt
take_all P (suc n) (x ∷ xs) all = (all.0, take_all P n xs all.1)

drop_all : {A : Type 0} (P : A → Type 0) (n : ℕ) (xs : List A) → AllByRecursion P xs → AllByRecursion P (drop n xs)
drop_all P zero [] all = tt
drop_all P (suc n) [] all = tt
drop_all P zero (x ∷ xs) all = all
drop_all P (suc n) (x ∷ xs) all = drop_all P n xs all.1

-- ---- segments

IsWithin : ℕ → ℕ → Span → Type 0
IsWithin base last span = IsTrue (reaches_above base span) × (span.last.0 ≤ last)

between_all : (base last : ℕ) (spans : List Span)
    → AllByRecursion (IsWithin base last) (segments_between base last spans)
unfolding IsWithin
between_all base last [] = tt
between_all base last (s ∷ spans) =
    let rest = between_all base last spans in
    cond_both (reaches_above base (cut_span last s)) (cut_span last s ∷ segments_between base last spans)
    (segments_between base last spans) (AllByRecursion (IsWithin base last))
    (λ e. ((e, omega arith), rest)) (λ _. rest)

within_of_log : (s : Stable) (last : ℕ) (spans : List Span) → last ≤ last_index s
    → AllByRecursion (IsWithin s.base.index.0 last) spans → AllByRecursion (IsOfLog s) spans
unfolding IsWithin
within_of_log s last spans le all =
    AllByRecursion-weaker (IsWithin s.base.index.0 last) (IsOfLog s) (λ span w. (w.0, omega (arith, w.1))) spans all

-- ---- what each op keeps

record Tells (s : Stable) : Type 0 where
  entries : AllByRecursion IsThere s.log
  segments : AllByRecursion (IsOfLog s) s.segments

change_tells : (s : Stable) (op : Op) → Tells s → IfSome (act s op) Tells
unfolding change rebase add_segment tail_behind
change_tells s (Change q n term by keep es) t = when (may_keep s keep.0) refl
  where
    when : (b : Bool) → may_keep s keep.0 ≡ b
        → IfSome {T = Stable} (cond b (Some (change s term by keep.0 es)) None) Tells
    when false e = tt
    when true e =
        let parts = and_parts _ _ e in
        let low : s.base.index.0 ≤ keep.0 = leb-true _ _ parts.0 in
        let high : keep.0 ≤ s.base.index.0 + length s.log = leb-true _ _ parts.1 in
        let kept = take (keep.0 - s.base.index.0) s.log in
        let long : length (kept ++ map Some es) ≡ (keep.0 - s.base.index.0) + length es = omega
        (arith, length-append kept (map Some es), length-take (keep.0 - s.base.index.0) s.log, length-map es Some)
        in
        record {
          entries =
              AllByRecursion-append IsThere kept (map Some es)
              (take_all IsThere (keep.0 - s.base.index.0) s.log t.entries) (made_known es);
          segments =
              within_of_log (change s term by keep.0 es) keep.0 _ (omega (arith, long))
              (between_all s.base.index.0 keep.0 s.segments);
        }
change_tells s (SnapshotMade q n head file) t =
    let log = tail_behind s.base head s.log in
    let test = has_term head.term (drop (head.index.0 - s.base.index.0) (terms s.base.term s.log)) in
    cond_both (may_rebase s head) (Some (rebase s head file)) None (λ r. IfSome {T = Stable} r Tells) (λ _. record {
      entries =
          cond_both test (drop (head.index.0 - s.base.index.0) s.log) [] (AllByRecursion IsThere)
          (λ _. drop_all IsThere (head.index.0 - s.base.index.0) s.log t.entries) (λ _. tt);
      segments =
          within_of_log (rebase s head file) (last_above head.index.0 log) _ (omega arith)
          (between_all head.index.0 (last_above head.index.0 log) s.segments);
    }) (λ _. tt)
change_tells s (SegmentMade q n file first last) t = when (has_range s first.0 last.0) refl
  where
    when : (b : Bool) → has_range s first.0 last.0 ≡ b
        → IfSome {T = Stable} (cond b (Some (add_segment s file first last)) None) Tells
    when false e = tt
    when true e =
        let span : Span = record { file = file; segment = true; first = first; last = last } in
        let outer = and_parts _ _ e in
        let inner = and_parts _ _ outer.0 in
        let low : s.base.index.0 < first.0 = ltb-true _ _ inner.0 in
        let some : first.0 ≤ last.0 = leb-true _ _ inner.1 in
        let reaches : reaches_above s.base.index.0 span ≡ true = and_from _ _ (lt-ltb _ _ (omega arith))
        (le-leb _ _ some) in
        record {
          entries = t.entries;
          segments =
              AllByRecursion-append (IsOfLog s) s.segments (span ∷ []) t.segments
              ((reaches, leb-true _ _ outer.1), tt);
        }

apply_tells : (o : Option Stable) (op : Op) → IfSome o Tells → IfSome (then_apply o op) Tells
unfolding apply_op
apply_tells None op t = tt
apply_tells (Some s) op t =
    cond_both (follows s (number op)) (act (record s { op = number op }) op) None (λ r. IfSome {T = Stable} r Tells)
    (λ _. change_tells (record s { op = number op }) op (record { entries = t.entries; segments = t.segments }))
    (λ _. tt)

told : (ops : List Op) → IfSome (stable ops) Tells
told ops =
    fold-keeps (λ (o : Option Stable). IfSome o Tells) then_apply apply_tells ops (Some new_state)
    (record { entries = tt; segments = tt })

of_some : {A : Type 0} (P : A → Type 0) (o : Option A) (x : A) → IfSome o P → o ≡ Some x → P x
of_some {A = A} P o x holds e = subst (λ (r : Option A). IfSome r P) e holds

pub ops_know : (ops : List Op) (s : Stable) → stable ops ≡ Some s → s.log ≡ map Some (known_entries s.log)
ops_know ops s e = all_known s.log (of_some Tells (stable ops) s (told ops) e).entries

pub ops_name : (ops : List Op) (s : Stable) → stable ops ≡ Some s → AllByRecursion (IsOfLog s) s.segments
ops_name ops s e = (of_some Tells (stable ops) s (told ops) e).segments

-- ---- tails

drop_map : (n : ℕ) (es : List Entry) → map Some (drop n es) ≡ drop n (map Some es)
drop_map zero [] = refl
drop_map (suc n) [] = refl
drop_map zero (e ∷ es) = refl
drop_map (suc n) (e ∷ es) = drop_map n es

term_behind : (t : Term) (n : ℕ) (es : List Entry)
    → has_term t (drop n (map (option_map (λ e. e.term)) (map Some es))) ≡ is_term t
    (option_map (λ e. e.term) (slice_get es n))
term_behind t zero [] = refl
term_behind t (suc n) [] = refl
term_behind t zero (e ∷ es) = refl
term_behind t (suc n) (e ∷ es) = term_behind t n es

same_test : (l : LogState) (t : Term) (index : ℕ) → l.base.index.0 ≤ index
    → has_term t (drop (index - l.base.index.0) (terms l.base.term (map Some l.entries))) ≡ is_term t
    (term_at l index)
same_test l t index le =
    let base = l.base.index.0 in
    elim (cases_eq index base) [
      | inl same ↦ let none : index - base ≡ 0 = omega arith in rw (none, eq-eqb _ _ same) refl
      | inr other ↦
          let n = index - base - 1 in
          let some : index - base ≡ suc n = omega arith in
          let right : is_term t (term_at l index) ≡ is_term t
          (option_map (λ e. e.term) (slice_get l.entries n)) = rw (
            ne_eqb _ _ other,
            lt-leb index base
                (omega arith),
          ) refl in
          ap (λ (k : ℕ). has_term t (drop k (terms l.base.term (map Some l.entries)))) some
          ∙ term_behind t n l.entries ∙ sym right
    ]

choose_map : (b : Bool) (es : List Entry) → map Some (cond b es []) ≡ cond b (map Some es) []
choose_map true es = refl
choose_map false es = refl

pub same_tail : (l : LogState) (head : SnapshotHead) → l.base.index.0 ≤ head.index.0
    → map Some (entries_behind l head) ≡ tail_behind l.base head (map Some l.entries)
unfolding tail_behind
same_tail l head le =
    let n = head.index.0 - l.base.index.0 in
    choose_map (is_term head.term (term_at l head.index.0)) (drop n l.entries)
    ∙ ap (λ (es : List (Option Entry)). cond (is_term head.term (term_at l head.index.0)) es [])
    (drop_map n l.entries)
    ∙ ap (λ (b : Bool). cond b (drop n (map Some l.entries)) []) (sym (same_test l head.term head.index.0 le))
