-- One step of a walk along a log, or along two.
use Rattle.std.proofs.Common.{◌≡◌, ◌⊎◌, ℕ, zero, suc, ◌+◌, ◌<◌, ◌≤◌, ◌&&◌, Bool, true, false, List, [], ◌∷◌, length, drop, Option, Some, None, refl, sym, ap, ◌∙◌, arith, inl, inr}
use Rattle.std.specs.Prelude.{nat_le, slice_get, if◌then◌else◌}
use Rattle.std.proofs.lemmas.Bool.{le-leb, le-ltb, lt-leb, lt-ltb}
use Rattle.std.proofs.lemmas.List.{drop_more}
use Rattle.std.proofs.lemmas.Option.{get_or_from_slice_get, slice_get_within}
use Rattle.qq_base.specs.declared.ids.NodeId.{NodeId}
use Rattle.qq_entry.specs.declared.command.Entry.{Entry}
use Rattle.qq_entry.specs.Same.{same_entry}
use Rattle.qq_raft_protocol.specs.World.{Lane}
use Rattle.qq_agree.specs.Tests.{apart, common, has_election, have_elections, rises, terms_rise}

drop-some : (log : List Entry) (k : ℕ) (e : Entry) → slice_get log k ≡ Some e → drop k log ≡ e ∷ drop (k + 1) log
drop-some log k e there =
    drop_more log k e (slice_get_within log k e there)
    ∙ ap (λ (x : Entry). x ∷ drop (k + 1) log) (get_or_from_slice_get log k e e there)

drop-none : (log : List Entry) (k : ℕ) → slice_get log k ≡ None → drop k log ≡ []
drop-none [] zero past = refl
drop-none [] (suc k) past = refl
drop-none (x ∷ log) zero past = absurd cc
drop-none (x ∷ log) (suc k) past = drop-none log k past

-- ---- terms along a log

pub rises-more : (log : List Entry) (k from upto : ℕ) (e : Entry) → slice_get log k ≡ Some e → from ≤ e.term.0
    → e.term.0 ≤ upto → rises from upto (drop k log) ≡ rises 0 upto log
    → rises e.term.0 upto (drop (k + 1) log) ≡ rises 0 upto log
rises-more log k from upto e there ge le rest =
    let step : rises from upto (e ∷ drop (k + 1) log) ≡ rises e.term.0 upto (drop (k + 1) log) =
    rw (le-leb from e.term.0 ge, le-leb e.term.0 upto le) refl in
    sym step ∙ (sym (ap (rises from upto) (drop-some log k e there)) ∙ rest)

falls-by : (from upto t : ℕ) (b : Bool) → (t < from) ⊎ ((from ≤ t) × (upto < t))
    → (nat_le from t && (nat_le t upto && b)) ≡ false
falls-by from upto t b (inl lt) = rw (lt-leb from t lt) refl
falls-by from upto t b (inr (ge, lt)) = rw (le-leb from t ge, lt-leb t upto lt) refl

pub rises-no_more : (l : Lane) (k from own : ℕ) (e : Entry) → own ≡ l.term → slice_get l.log k ≡ Some e
    → (e.term.0 < from) ⊎ ((from ≤ e.term.0) × (own < e.term.0)) → rises from own (drop k l.log) ≡ rises 0 own l.log
    → false ≡ terms_rise l
rises-no_more l k from own e same there ends rest =
    sym (falls-by from own e.term.0 (rises e.term.0 own (drop (k + 1) l.log)) ends)
    ∙ (sym (ap (rises from own) (drop-some l.log k e there)) ∙ (rest ∙ ap (λ n. rises 0 n l.log) same))

pub rises-all : (l : Lane) (k from own : ℕ) → own ≡ l.term → drop k l.log ≡ []
    → rises from own (drop k l.log) ≡ rises 0 own l.log → true ≡ terms_rise l
rises-all l k from own same past rest =
    sym (ap (rises from own) past) ∙ (rest ∙ ap (λ n. rises 0 n l.log) same)

-- ---- what two logs begin with

pub common-more : (x y : List Entry) (k : ℕ) (e f : Entry) → slice_get x k ≡ Some e → slice_get y k ≡ Some f
    → same_entry e f ≡ true → k + common (drop k x) (drop k y) ≡ common x y
    → k + 1 + common (drop (k + 1) x) (drop (k + 1) y) ≡ common x y
common-more x y k e f here there same rest =
    let step : common (drop k x) (drop k y) ≡ suc (common (drop (k + 1) x) (drop (k + 1) y)) =
    rw (drop-some x k e here, drop-some y k f there, same) refl in
    omega (arith, step, rest)

pub common-differs : (x y : List Entry) (k : ℕ) (e f : Entry) → slice_get x k ≡ Some e → slice_get y k ≡ Some f
    → same_entry e f ≡ false → k + common (drop k x) (drop k y) ≡ common x y → k ≡ common x y
common-differs x y k e f here there other rest =
    let step : common (drop k x) (drop k y) ≡ 0 =
    rw (drop-some x k e here, drop-some y k f there, other) refl in
    omega (arith, step, rest)

common-none : (x : List Entry) → common x [] ≡ 0
common-none [] = refl
common-none (e ∷ x) = refl

pub common-ended : (x y : List Entry) (k : ℕ) → slice_get y k ≡ None
    → k + common (drop k x) (drop k y) ≡ common x y → k ≡ common x y
common-ended x y k past rest =
    let step : common (drop k x) (drop k y) ≡ 0 = rw (drop-none y k past) (common-none (drop k x)) in
    omega (arith, step, rest)

pub common-within : (x y : List Entry) → (common x y ≤ length x) × (common x y ≤ length y)
common-within [] y = (omega arith, omega arith)
common-within (e ∷ x) [] = (omega arith, omega arith)
common-within (e ∷ x) (f ∷ y) = by (same_entry e f) (common-within x y)
  where
    by : (b : Bool) → (common x y ≤ length x) × (common x y ≤ length y)
        → ((if b then suc (common x y) else 0) ≤ length (e ∷ x))
        × ((if b then suc (common x y) else 0) ≤ length (f ∷ y))
    by true le = (omega (arith, le.0), omega (arith, le.1))
    by false le = (omega arith, omega arith)

-- ---- terms along two logs

apart-none : (n : ℕ) (xs : List Entry) → apart n xs [] ≡ true
apart-none zero xs = refl
apart-none (suc n) [] = refl
apart-none (suc n) (x ∷ xs) = refl

apart-nothing : (n : ℕ) (ys : List Entry) → apart n [] ys ≡ true
apart-nothing zero ys = refl
apart-nothing (suc n) ys = refl

pub apart-ended : (x y : List Entry) (n i j : ℕ) (r : Bool) → slice_get x i ≡ None
    → apart n (drop i x) (drop j y) ≡ r → true ≡ r
apart-ended x y n i j r past rest =
    sym (ap (λ z. apart n z (drop j y)) (drop-none x i past) ∙ apart-nothing n (drop j y)) ∙ rest

pub apart-ended_other : (x y : List Entry) (n i j : ℕ) (r : Bool) → slice_get y j ≡ None
    → apart n (drop i x) (drop j y) ≡ r → true ≡ r
apart-ended_other x y n i j r past rest =
    sym (ap (apart n (drop i x)) (drop-none y j past) ∙ apart-none n (drop i x)) ∙ rest

-- the next two entries
step : (x y : List Entry) (n i j : ℕ) (e f : Entry) → slice_get x i ≡ Some e → slice_get y j ≡ Some f
    → apart n (drop i x) (drop j y) ≡ apart n (e ∷ drop (i + 1) x) (f ∷ drop (j + 1) y)
step x y n i j e f here there =
    ap (λ z. apart n z (drop j y)) (drop-some x i e here)
    ∙ ap (apart n (e ∷ drop (i + 1) x)) (drop-some y j f there)

pub apart-same : (x y : List Entry) (n i j : ℕ) (e f : Entry) (r : Bool) → slice_get x i ≡ Some e
    → slice_get y j ≡ Some f → f.term.0 ≤ e.term.0 → e.term.0 ≤ f.term.0 → 0 < n
    → apart n (drop i x) (drop j y) ≡ r → false ≡ r
apart-same x y zero i j e f r here there ge le some rest = absurd (omega arith)
apart-same x y (suc n) i j e f r here there ge le some rest =
    let one : apart (suc n) (e ∷ drop (i + 1) x) (f ∷ drop (j + 1) y) ≡ false =
    rw (le-ltb e.term.0 f.term.0 ge, le-ltb f.term.0 e.term.0 le) refl in
    sym (step x y (suc n) i j e f here there ∙ one) ∙ rest

pub apart-own : (x y : List Entry) (n m i j : ℕ) (e f : Entry) (r : Bool) → slice_get x i ≡ Some e
    → slice_get y j ≡ Some f → e.term.0 < f.term.0 → n ≡ suc m → apart n (drop i x) (drop j y) ≡ r
    → apart m (drop (i + 1) x) (drop j y) ≡ r
apart-own x y n m i j e f r here there lt next rest =
    let one : apart (suc m) (e ∷ drop (i + 1) x) (f ∷ drop (j + 1) y)
    ≡ apart m (drop (i + 1) x) (f ∷ drop (j + 1) y) = rw (lt-ltb e.term.0 f.term.0 lt) refl in
    ap (apart m (drop (i + 1) x)) (drop-some y j f there)
    ∙ (sym (step x y (suc m) i j e f here there ∙ one) ∙ (ap (λ k. apart k (drop i x) (drop j y)) (sym next) ∙ rest))

pub apart-other : (x y : List Entry) (n m i j : ℕ) (e f : Entry) (r : Bool) → slice_get x i ≡ Some e
    → slice_get y j ≡ Some f → f.term.0 < e.term.0 → n ≡ suc m → apart n (drop i x) (drop j y) ≡ r
    → apart m (drop i x) (drop (j + 1) y) ≡ r
apart-other x y n m i j e f r here there lt next rest =
    let one : apart (suc m) (e ∷ drop (i + 1) x) (f ∷ drop (j + 1) y)
    ≡ apart m (e ∷ drop (i + 1) x) (drop (j + 1) y) =
    rw (le-ltb e.term.0 f.term.0 (omega (arith, lt)), lt-ltb f.term.0 e.term.0 lt) refl in
    ap (λ z. apart m z (drop (j + 1) y)) (drop-some x i e here)
    ∙ (sym (step x y (suc m) i j e f here there ∙ one) ∙ (ap (λ k. apart k (drop i x) (drop j y)) (sym next) ∙ rest))

-- ---- elections of a log's terms

elections-step : (nodes : List NodeId) (lane : ℕ → Lane) (log : List Entry) (k : ℕ) (e : Entry)
    → slice_get log k ≡ Some e → have_elections nodes lane (drop k log)
    ≡ (has_election nodes lane e.term.0 && have_elections nodes lane (drop (k + 1) log))
elections-step nodes lane log k e there = ap (have_elections nodes lane) (drop-some log k e there)

pub no-election : (nodes : List NodeId) (lane : ℕ → Lane) (log : List Entry) (k : ℕ) (e : Entry)
    → slice_get log k ≡ Some e → has_election nodes lane e.term.0 ≡ false
    → have_elections nodes lane (drop k log) ≡ have_elections nodes lane log → false ≡ have_elections nodes lane log
no-election nodes lane log k e there none rest =
    sym (elections-step nodes lane log k e there
    ∙ ap (λ b. b && have_elections nodes lane (drop (k + 1) log)) none) ∙ rest

pub elections-more : (nodes : List NodeId) (lane : ℕ → Lane) (log : List Entry) (k : ℕ) (e : Entry)
    → slice_get log k ≡ Some e → have_elections nodes lane (drop k log) ≡ have_elections nodes lane log
    → has_election nodes lane e.term.0 ≡ true
    → have_elections nodes lane (drop (k + 1) log) ≡ have_elections nodes lane log
elections-more nodes lane log k e there rest is =
    sym (elections-step nodes lane log k e there
    ∙ ap (λ b. b && have_elections nodes lane (drop (k + 1) log)) is) ∙ rest

-- the term that was looked at last has its election
pub next-last : (nodes : List NodeId) (lane : ℕ → Lane) (t u : ℕ) (o : Option ℕ) → has_election nodes lane t ≡ true
    → o ≡ Some t → o ≡ Some u → has_election nodes lane u ≡ true
next-last nodes lane t u o is own other =
    let same : t ≡ u = cc (sym own ∙ other) in
    ap (has_election nodes lane) (sym same) ∙ is
