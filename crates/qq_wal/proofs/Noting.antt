-- Between which places marks have notices.
use Rattle.std.proofs.Common.{◌≡◌, ℕ, zero, suc, ◌-◌, ◌<◌, ◌≤◌, ◌++◌, List, [], ◌∷◌, Option, None, take, drop, map, min, length, refl, sym, ap, ◌∙◌, subst, arith}
use Rattle.std.specs.Prelude.{option_map, option_to_list, unwrap_or}
use Rattle.std.proofs.lemmas.List.{drop-drop, map-append, take-append-drop}
use Rattle.qq_base.specs.declared.ids.QueueId.{QueueId}
use Rattle.qq_log.specs.declared.lane.Carry.{Carry}
use Rattle.qq_wal.specs.declared.marks.Mark.{Mark}
use Rattle.qq_wal.specs.declared.notices.Notice.{Notice}
use Rattle.qq_wal.specs.Notices.{change_at, new_mark, notices_in, sync_mark, AreNotedWithin, AreQuiet}

-- ---- parts of marks without notices

quiet-take : (k : ℕ) (marks : List Mark) → AreQuiet marks → AreQuiet (take k marks)
quiet-take zero marks quiet = tt
quiet-take (suc k) [] quiet = tt
quiet-take (suc k) (m ∷ marks) quiet = (quiet.0, quiet-take k marks quiet.1)

quiet-drop : (k : ℕ) (marks : List Mark) → AreQuiet marks → AreQuiet (drop k marks)
quiet-drop zero marks quiet = quiet
quiet-drop (suc k) [] quiet = tt
quiet-drop (suc k) (m ∷ marks) quiet = quiet-drop k marks quiet.1

take-less : (k n : ℕ) (marks : List Mark) → k ≤ n → take k (take n marks) ≡ take k marks
take-less zero n marks le = refl
take-less (suc k) zero marks le = absurd (omega (arith, le))
take-less (suc k) (suc n) [] le = refl
take-less (suc k) (suc n) (m ∷ marks) le = ap (λ (ms : List Mark). m ∷ ms) (take-less k n marks (omega (arith, le)))

drop-more : (k n : ℕ) (marks : List Mark) → n ≤ k → drop (k - n) (drop n marks) ≡ drop k marks
drop-more k n marks le = drop-drop (k - n) n marks ∙ ap (λ (i : ℕ). drop i marks) (omega (arith, le))

-- some marks between two places have changed
pub noted-within : (first end from to low high : ℕ) (old new : List Mark) → AreNotedWithin first end old
    → take from new ≡ take from old → drop to new ≡ drop to old
    → low ≤ first → low ≤ from → end ≤ high → to ≤ high → AreNotedWithin low high new
noted-within first end from to low high old new within before behind a b c d =
    let front : take low new ≡ take low (take first old) =
    sym (take-less low from new b) ∙ ap (take low) before ∙ take-less low from old b ∙ sym (take-less low first old a) in
    let back : drop high new ≡ drop (high - end) (drop end old) =
    sym (drop-more high to new d) ∙ ap (drop (high - to)) behind ∙ drop-more high to old d
    ∙ sym (drop-more high end old c) in (
      subst AreQuiet (sym front) (quiet-take low (take first old) within.0),
      subst AreQuiet (sym back) (quiet-drop (high - end) (drop end old) within.1),
    )

-- what is changed at a place
pub change-before : (f : Mark → Mark) (i : ℕ) (marks : List Mark) → take i (change_at f i marks) ≡ take i marks
change-before f zero marks = refl
change-before f (suc i) [] = refl
change-before f (suc i) (m ∷ marks) = ap (λ (ms : List Mark). m ∷ ms) (change-before f i marks)

pub change-behind : (f : Mark → Mark) (i n : ℕ) (marks : List Mark) → i < n
    → drop n (change_at f i marks) ≡ drop n marks
change-behind f i zero marks lt = absurd (omega (arith, lt))
change-behind f i (suc n) [] lt = refl
change-behind f zero (suc n) (m ∷ marks) lt = refl
change-behind f (suc i) (suc n) (m ∷ marks) lt = change-behind f i n marks (omega (arith, lt))

-- ---- their notices

quiet-none : (marks : List Mark) → AreQuiet marks → notices_in marks ≡ []
quiet-none [] quiet = refl
quiet-none (m ∷ marks) quiet =
    ap (λ (o : Option Notice). option_to_list o ++ notices_in marks) quiet.0 ∙ quiet-none marks quiet.1

pub notices-between : (first end : ℕ) (marks : List Mark) → AreNotedWithin first end marks
    → notices_in marks ≡ notices_in (drop first (take end marks))
notices-between zero zero [] within = refl
notices-between zero (suc end) [] within = refl
notices-between (suc first) zero [] within = refl
notices-between (suc first) (suc end) [] within = refl
notices-between zero zero (m ∷ marks) within = quiet-none (m ∷ marks) within.1
notices-between (suc first) zero (m ∷ marks) within = quiet-none (m ∷ marks) within.1
notices-between zero (suc end) (m ∷ marks) within =
    ap (λ (ns : List Notice). option_to_list m.notice ++ ns) (notices-between zero end marks (tt, within.1))
notices-between (suc first) (suc end) (m ∷ marks) within =
    ap (λ (o : Option Notice). option_to_list o ++ notices_in marks) within.0.0
    ∙ notices-between first end marks (within.0.1, within.1)

-- ---- a sync

quiet-same : (m : Mark) → m.notice ≡ None → sync_mark m ≡ m
quiet-same m none =
    ap (λ (o : Option Notice). let s : Mark = record m {
      notice = None;
      synced = unwrap_or (option_map (λ (n : Notice). n.op) o) m.synced;
    } in s) none ∙ ap (λ (o : Option Notice). let s : Mark = record m { notice = o } in s) (sym none)

quiet-synced : (marks : List Mark) → AreQuiet marks → map sync_mark marks ≡ marks
quiet-synced [] quiet = refl
quiet-synced (m ∷ marks) quiet =
    ap (λ (x : Mark). x ∷ map sync_mark marks) (quiet-same m quiet.0)
    ∙ ap (λ (ms : List Mark). m ∷ ms) (quiet-synced marks quiet.1)

quiet-past : (end place : ℕ) (marks : List Mark) → AreQuiet (drop end marks) → min end (length marks) ≤ place
    → AreQuiet (drop place marks)
quiet-past zero place marks quiet le = quiet-drop place marks quiet
quiet-past (suc end) zero [] quiet le = tt
quiet-past (suc end) zero (m ∷ marks) quiet le = absurd (omega (arith, le))
quiet-past (suc end) (suc place) [] quiet le = tt
quiet-past (suc end) (suc place) (m ∷ marks) quiet le = quiet-past end place marks quiet (omega (arith, le))

-- the marks before a place are changed, and none behind it has a notice
pub synced-past : (first end place : ℕ) (old new : List Mark) → AreNotedWithin first end old
    → min end (length old) ≤ place → take place new ≡ map sync_mark (take place old) → drop place new ≡ drop place old
    → new ≡ map sync_mark old
synced-past first end place old new within le front rest =
    sym (take-append-drop place new) ∙ ap (λ (ms : List Mark). ms ++ drop place new) front
    ∙ ap (λ (ms : List Mark). map sync_mark (take place old) ++ ms)
    (rest ∙ sym (quiet-synced (drop place old) (quiet-past end place old within.1 le)))
    ∙ sym (map-append sync_mark (take place old) (drop place old))
    ∙ ap (map sync_mark) (take-append-drop place old)

synced-quiet : (marks : List Mark) → AreQuiet (map sync_mark marks)
synced-quiet [] = tt
synced-quiet (m ∷ marks) = (refl, synced-quiet marks)

begun-quiet : (carries : List Carry) (queues : List QueueId) → AreQuiet (map (new_mark carries) queues)
begun-quiet carries [] = tt
begun-quiet carries (id ∷ queues) = (refl, begun-quiet carries queues)

-- nothing is noted between any two places
nothing-within : (first end : ℕ) (marks : List Mark) → AreQuiet marks → AreNotedWithin first end marks
nothing-within first end marks quiet = (quiet-take first marks quiet, quiet-drop end marks quiet)

-- no mark before a place has a notice
pub synced-front : (first end : ℕ) (marks : List Mark) → AreNotedWithin first end marks
    → take first marks ≡ map sync_mark (take first marks)
synced-front first end marks within = sym (quiet-synced (take first marks) within.0)

pub synced-within : (first end : ℕ) (old new : List Mark) → new ≡ map sync_mark old → AreNotedWithin first end new
synced-within first end old new is =
    subst (AreNotedWithin first end) (sym is) (nothing-within first end (map sync_mark old) (synced-quiet old))

pub begun-within : (first end : ℕ) (carries : List Carry) (queues : List QueueId) (new : List Mark)
    → new ≡ map (new_mark carries) queues → AreNotedWithin first end new
begun-within first end carries queues new is =
    subst (AreNotedWithin first end) (sym is)
    (nothing-within first end (map (new_mark carries) queues) (begun-quiet carries queues))
