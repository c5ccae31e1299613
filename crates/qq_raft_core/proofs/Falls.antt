-- Terms that don't fall.
use Rattle.std.proofs.Common.{◌≡◌, ℕ, zero, suc, ◌+◌, ◌<◌, ◌≤◌, ◌&&◌, Bool, true, false, List, [], ◌∷◌, ◌++◌, take, drop, refl, sym, ap, subst, ◌∙◌, arith}
use Rattle.std.specs.Prelude.{Some, nat_le, slice_get}
use Rattle.std.proofs.lemmas.Bool.{le-leb, leb-true, lt-leb, ne_eqb}
use Rattle.qq_entry.specs.declared.command.Entry.{Entry}
use Rattle.qq_raft_protocol.specs.Moves.{last_term}
use Rattle.qq_raft_model.specs.Leading.{commit_within, may_commit}
use Rattle.qq_raft_model.specs.State.{Server, term_at}
use Rattle.qq_raft_core.specs.Rising.{rises}
use Rattle.qq_raft_core.proofs.Entries.{drop-some}
use Rattle.qq_raft_core.proofs.Undoing.{and-left, and-right}

-- the term of the last entry, or a first one
abbrev last_from : ℕ → List Entry → ℕ
last_from first [] = first
last_from first (e ∷ es) = last_from e.term.0 es

last-is : (e : Entry) (es : List Entry) → last_term (e ∷ es) ≡ last_from e.term.0 es
last-is e [] = refl
last-is e (f ∷ es) = last-is f es

last-known : (es : List Entry) → last_term es ≡ last_from 0 es
last-known [] = refl
last-known (e ∷ es) = last-is e es

first-fits : (first : ℕ) (e : Entry) (end : ℕ) (es : List Entry) → rises first end (e ∷ es) ≡ true
    → (first ≤ e.term.0) × (rises e.term.0 end es ≡ true)
first-fits first e end es is =
    let first_is = and-left (nat_le first e.term.0) (rises e.term.0 end es) is in
    (leb-true first e.term.0 first_is, and-right (nat_le first e.term.0) (rises e.term.0 end es) is)

rises-first : (first : ℕ) (e : Entry) (end : ℕ) (es : List Entry) → first ≤ e.term.0 → rises e.term.0 end es ≡ true
    → rises first end (e ∷ es) ≡ true
rises-first first e end es le is = ap (λ b. b && rises e.term.0 end es) (le-leb first e.term.0 le) ∙ is

-- the first entries
rises-front : (first end k : ℕ) (es : List Entry) → rises first end es ≡ true
    → rises first (last_from first (take k es)) (take k es) ≡ true
rises-front first end zero es is = le-leb first first (omega arith)
rises-front first end (suc k) [] is = le-leb first first (omega arith)
rises-front first end (suc k) (e ∷ es) is =
    let f = first-fits first e end es is in
    rises-first first e (last_from e.term.0 (take k es)) (take k es) f.0 (rises-front e.term.0 end k es f.1)

rises-lower : (first next end : ℕ) (es : List Entry) → first ≤ next → rises next end es ≡ true
    → rises first end es ≡ true
rises-lower first next end [] le is =
    let last = leb-true next end is in
    le-leb first end (omega (arith, le, last))
rises-lower first next end (e ∷ es) le is =
    let f = first-fits next e end es is in
    let more = f.0 in
    rises-first first e end es (omega (arith, le, more)) f.1

rises-more : (first next end : ℕ) (xs ys : List Entry) → rises first next xs ≡ true → rises next end ys ≡ true
    → rises first end (xs ++ ys) ≡ true
rises-more first next end [] ys is more = rises-lower first next end ys (leb-true first next is) more
rises-more first next end (x ∷ xs) ys is more =
    let f = first-fits first x next xs is in
    rises-first first x end (xs ++ ys) f.0 (rises-more x.term.0 next end xs ys f.1 more)

-- entries behind the first ones
pub rises_behind : (term end last keep : ℕ) (log es : List Entry) (r : Bool) → rises 0 end log ≡ true
    → term ≡ term_at log keep → r ≡ rises term last es → r ≡ true → rises 0 last (take keep log ++ es) ≡ true
rises_behind term end last keep log es r is at known t =
    let front = take keep log in
    rises-more 0 term last front es
    (subst (λ (n : ℕ). rises 0 n front ≡ true) (sym (at ∙ last-known front)) (rises-front 0 end keep log is))
    (sym known ∙ t)

-- ---- what is at or below an index

least : (first end k : ℕ) (es : List Entry) → rises first end es ≡ true → first ≤ last_from first (take k es)
least first end zero es is = omega arith
least first end (suc k) [] is = omega arith
least first end (suc k) (e ∷ es) is =
    let f = first-fits first e end es is in
    let more = least e.term.0 end k es f.1 in
    let le = f.0 in
    omega (arith, le, more)

order : (first end i j : ℕ) (es : List Entry) → rises first end es ≡ true → i ≤ j
    → last_from first (take i es) ≤ last_from first (take j es)
order first end zero j es is le = least first end j es is
order first end (suc i) zero es is le = absurd (omega (arith, le))
order first end (suc i) (suc j) [] is le = omega arith
order first end (suc i) (suc j) (e ∷ es) is le =
    order e.term.0 end i j es (first-fits first e end es is).1 (omega (arith, le))

terms-order : (end i j : ℕ) (es : List Entry) → rises 0 end es ≡ true → i ≤ j → term_at es i ≤ term_at es j
terms-order end i j es is le =
    let below = last-known (take i es) in
    let above = last-known (take j es) in
    let more = order 0 end i j es is le in
    omega (arith, below, above, more)

none-there : (s : Server) (index : ℕ) → term_at s.log index < s.term.0 → may_commit s index ≡ false
none-there s index lt =
    let other : (term_at s.log index ≡ s.term.0) → ⊥ = λ e. omega (arith, lt, e) in
    rw (ne_eqb (term_at s.log index) s.term.0 other) refl

-- where the entry at an index is of an earlier term, none up to it may be committed
pub none-earlier : (s : Server) (start n : ℕ) → rises 0 s.term.0 s.log ≡ true
    → term_at s.log (s.commit + start) < s.term.0 → n ≤ start → s.commit ≡ commit_within s n
none-earlier s start zero is lt le = refl
none-earlier s start (suc n) is lt le =
    let more = terms-order s.term.0 (s.commit + suc n) (s.commit + start) s.log is (omega (arith, le)) in
    let none = none-there s (s.commit + suc n) (omega (arith, lt, more)) in
    none-earlier s start n is lt (omega (arith, le)) ∙ rw none refl

-- ---- one entry more is looked at

pub falls-here : (term end place : ℕ) (e : Entry) (es : List Entry) → Some e ≡ slice_get es place → e.term.0 < term
    → rises term end (drop place es) ≡ false
falls-here term end place e es is lt =
    ap (rises term end) (drop-some es place e (sym is))
    ∙ ap (λ b. b && rises e.term.0 end (drop (place + 1) es)) (lt-leb term e.term.0 lt)

pub goes-on : (term end place : ℕ) (e : Entry) (es : List Entry) → Some e ≡ slice_get es place → term ≤ e.term.0
    → rises term end (drop place es) ≡ rises e.term.0 end (drop (place + 1) es)
goes-on term end place e es is le =
    ap (rises term end) (drop-some es place e (sym is))
    ∙ ap (λ b. b && rises e.term.0 end (drop (place + 1) es)) (le-leb term e.term.0 le)
