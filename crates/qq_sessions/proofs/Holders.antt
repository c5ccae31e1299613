-- How often kept answers name an index, and what is held of it while answers come and go.
use Rattle.std.proofs.Common.{◌≡◌, ℕ, zero, suc, ◌+◌, ◌-◌, ◌≤◌, ◌⊎◌, Bool, true, false, not, List, [], ◌∷◌, ◌++◌, Option, Some, None, take, drop, length, refl, sym, ap, ◌∙◌, subst, inl, inr, arith, if◌then◌else◌}
use Rattle.std.specs.Prelude.{filter, slice_get, is_some}
use Rattle.std.specs.List.{AllByRecursion}
use Rattle.std.proofs.lemmas.Bool.{false≢true, cases_Bool, cond-true, cond-false, or_parts}
use Rattle.std.proofs.lemmas.List.{append_assoc, append-nil, take-append-drop}
use Rattle.std.proofs.lemmas.List.Elements.{filter-append}
use Rattle.std.proofs.lemmas.List.Sums.{sum_by-append}
use Rattle.qq_base.specs.declared.ids.Index.{Index}
use Rattle.qq_base.specs.declared.ids.SessionId.{SessionId}
use Rattle.qq_base.specs.Ids.{same_session}
use Rattle.qq_entry.specs.declared.answer.Answer.{Answer}
use Rattle.qq_entry.specs.declared.command.Stamp.{Stamp}
use Rattle.qq_model.specs.declared.session.OpenSession.{OpenSession}
use Rattle.qq_model.specs.Gate.{session_of, is_open, change_session, next_mark, raise_mark, add_answer, new_session}
use Rattle.qq_model.proofs.SessionLemmas.{same_session-true}
use Rattle.qq_live.specs.Indices.{is_index, occurrences, Adds, Removes}
use Rattle.qq_sessions.specs.Opened.{AreApart}
use Rattle.qq_sessions.specs.Named.{got_indices, answers_indices, kept_indices, HoldsKept}
use Rattle.qq_sessions.proofs.Places.{take-at}

-- ---- indices one after the other

pub occurrences-append : (i : ℕ) (xs ys : List Index)
    → occurrences i (xs ++ ys) ≡ occurrences i xs + occurrences i ys
occurrences-append i xs ys = sum_by-append (λ (index : Index). if is_index i index then 1 else 0) xs ys

pub answers-append : (xs ys : List Answer)
    → answers_indices (xs ++ ys) ≡ answers_indices xs ++ answers_indices ys
answers-append [] ys = refl
answers-append (x ∷ xs) ys =
    ap (λ (zs : List Index). got_indices x ++ zs) (answers-append xs ys)
    ∙ sym (append_assoc (got_indices x) (answers_indices xs) (answers_indices ys))

pub kept-append : (xs ys : List OpenSession) → kept_indices (xs ++ ys) ≡ kept_indices xs ++ kept_indices ys
kept-append [] ys = refl
kept-append (x ∷ xs) ys =
    ap (λ (zs : List Index). answers_indices x.kept ++ zs) (kept-append xs ys)
    ∙ sym (append_assoc (answers_indices x.kept) (kept_indices xs) (kept_indices ys))

-- one answer more
pub answers-take : (kept : List Answer) (place : ℕ) (answer : Answer) → slice_get kept place ≡ Some answer
    → answers_indices (take (place + 1) kept) ≡ answers_indices (take place kept) ++ got_indices answer
answers-take kept place answer at =
    ap answers_indices (take-at kept place answer at)
    ∙ answers-append (take place kept) (answer ∷ [])
    ∙ ap (λ (zs : List Index). answers_indices (take place kept) ++ zs) (append-nil (got_indices answer))

-- one session more of those that pass
pub kept-take : (p : OpenSession → Bool) (ones : List OpenSession) (place : ℕ) (one : OpenSession)
    → slice_get ones place ≡ Some one
    → kept_indices (filter p (take (place + 1) ones))
    ≡ kept_indices (filter p (take place ones)) ++ kept_indices (filter p (one ∷ []))
kept-take p ones place one at =
    ap (λ (os : List OpenSession). kept_indices (filter p os)) (take-at ones place one at)
    ∙ ap kept_indices (filter-append p (take place ones) (one ∷ []))
    ∙ kept-append (filter p (take place ones)) (filter p (one ∷ []))

pub all-take : (ones : List OpenSession) (place : ℕ) (one : OpenSession) → slice_get ones place ≡ Some one
    → kept_indices (take (place + 1) ones) ≡ kept_indices (take place ones) ++ answers_indices one.kept
all-take ones place one at =
    ap kept_indices (take-at ones place one at)
    ∙ kept-append (take place ones) (one ∷ [])
    ∙ ap (λ (zs : List Index). kept_indices (take place ones) ++ zs) (append-nil (answers_indices one.kept))

-- what was pushed behind others
pub pushed : (first now after so_far more all : List Index) → now ≡ first ++ so_far → after ≡ now ++ more
    → all ≡ so_far ++ more → after ≡ first ++ all
pushed first now after so_far more all is made same =
    made ∙ ap (λ (zs : List Index). zs ++ more) is ∙ append_assoc first so_far more
    ∙ ap (λ (zs : List Index). first ++ zs) (sym same)

-- ---- what is let go

pub removes-none : (indices : List Index) → Removes [] indices indices
removes-none indices i = let z : occurrences i [] ≡ 0 = refl in omega (arith, z)

pub adds-none : (indices : List Index) → Adds [] indices indices
adds-none indices i = let z : occurrences i [] ≡ 0 = refl in omega (arith, z)

pub removes-then : (first more all old now new : List Index) → all ≡ first ++ more → Removes first old now
    → Removes more now new → Removes all old new
removes-then first more all old now new same a b i =
    let x = a i in
    let y = b i in
    let z = ap (occurrences i) same ∙ occurrences-append i first more in omega (arith, x, y, z)

-- all of a list
pub take-end : {A : Type 0} (xs : List A) (n : ℕ) → length xs ≤ n → take n xs ≡ xs
take-end [] zero le = refl
take-end [] (suc n) le = refl
take-end (x ∷ xs) zero le = absurd (omega (arith, le))
take-end {A = A} (x ∷ xs) (suc n) le = ap (λ (zs : List A). x ∷ zs) (take-end xs n (omega (arith, le)))

-- all answers of one session
pub removes-one : (one : OpenSession) (n : ℕ) (old new : List Index) → length one.kept ≤ n
    → Removes (answers_indices (take n one.kept)) old new → Removes (kept_indices (one ∷ [])) old new
removes-one one n old new le gone =
    subst (λ (zs : List Index). Removes zs old new)
    (ap answers_indices (take-end one.kept n le) ∙ sym (append-nil (answers_indices one.kept))) gone

-- nobody goes
pub removes-nobody : (ones : List OpenSession) (xs : List Index) → ones ≡ [] → Removes (kept_indices ones) xs xs
removes-nobody ones xs none =
    subst (λ (os : List OpenSession). Removes (kept_indices os) xs xs) (sym none) (removes-none xs)

-- ---- one session changes

absent-same : (session : SessionId) (f : OpenSession → OpenSession) (ones : List OpenSession)
    → session_of session ones ≡ None → change_session session f ones ≡ ones
absent-same session f [] none = refl
absent-same session f (one ∷ ones) none =
    elim (cases_Bool (same_session one.session session)) [
      | inl here ↦
          let is : Some one ≡ None =
          sym (cond-true (same_session one.session session) (Some one) (session_of session ones) here) ∙ none in
          absurd cc
      | inr other ↦
          ap (λ (o : OpenSession). o ∷ change_session session f ones)
          (cond-false (same_session one.session session) (f one) one other)
          ∙ ap (λ (os : List OpenSession). one ∷ os) (absent-same session f ones
          (sym (cond-false (same_session one.session session) (Some one) (session_of session ones) other) ∙ none))
    ]

closed-absent : (session : SessionId) (ones : List OpenSession) → is_open session ones ≡ false
    → session_of session ones ≡ None
closed-absent session [] closed = refl
closed-absent session (one ∷ ones) closed =
    let parts = or_parts (same_session one.session session) (is_open session ones) closed in
    cond-false (same_session one.session session) (Some one) (session_of session ones) parts.0
    ∙ closed-absent session ones parts.1

-- no later session has the id of one
later-absent : (session : SessionId) (one : OpenSession) (ones : List OpenSession) → AreApart (one ∷ ones)
    → same_session one.session session ≡ true → session_of session ones ≡ None
later-absent session one ones apart here =
    closed-absent session ones
    (ap (λ (id : SessionId). is_open id ones) (sym (same_session-true one.session session here)) ∙ apart.0)

change-found : (session : SessionId) (f : OpenSession → OpenSession) (ones : List OpenSession) (one : OpenSession)
    → AreApart ones → session_of session ones ≡ Some one → (i : ℕ)
    → occurrences i (kept_indices (change_session session f ones)) + occurrences i (answers_indices one.kept)
    ≡ occurrences i (kept_indices ones) + occurrences i (answers_indices (f one).kept)
change-found session f [] one apart found i = absurd cc
change-found session f (o ∷ ones) one apart found i =
    elim (cases_Bool (same_session o.session session)) [
      | inl here ↦
          let is : Some o ≡ Some one =
          sym (cond-true (same_session o.session session) (Some o) (session_of session ones) here) ∙ found in
          let same : o ≡ one = cc in
          let new : change_session session f (o ∷ ones) ≡ f one ∷ ones =
          ap (λ (x : OpenSession). x ∷ change_session session f ones)
          (cond-true (same_session o.session session) (f o) o here ∙ ap f same)
          ∙ ap (λ (os : List OpenSession). f one ∷ os)
          (absent-same session f ones (later-absent session o ones apart here)) in
          let a = ap (λ (os : List OpenSession). occurrences i (kept_indices os)) new
          ∙ occurrences-append i (answers_indices (f one).kept) (kept_indices ones) in
          let b = ap (λ (x : OpenSession). occurrences i (kept_indices (x ∷ ones))) same
          ∙ occurrences-append i (answers_indices one.kept) (kept_indices ones) in
          omega (arith, a, b)
      | inr other ↦
          let rest =
          change-found session f ones one apart.1
          (sym (cond-false (same_session o.session session) (Some o) (session_of session ones) other) ∙ found) i in
          let new : change_session session f (o ∷ ones) ≡ o ∷ change_session session f ones =
          ap (λ (x : OpenSession). x ∷ change_session session f ones)
          (cond-false (same_session o.session session) (f o) o other) in
          let a = ap (λ (os : List OpenSession). occurrences i (kept_indices os)) new
          ∙ occurrences-append i (answers_indices o.kept) (kept_indices (change_session session f ones)) in
          let b = occurrences-append i (answers_indices o.kept) (kept_indices ones) in
          omega (arith, rest, a, b)
    ]

-- two changes that leave the same answers
kept-like : (session : SessionId) (f g : OpenSession → OpenSession) (ones : List OpenSession)
    → ((one : OpenSession) → (f one).kept ≡ (g one).kept)
    → kept_indices (change_session session f ones) ≡ kept_indices (change_session session g ones)
kept-like session f g [] same = refl
kept-like session f g (o ∷ ones) same =
    ap (λ (zs : List Index). zs ++ kept_indices (change_session session f ones)) (by (same_session o.session session))
    ∙ ap (λ (zs : List Index). answers_indices (if same_session o.session session then g o else o).kept ++ zs)
    (kept-like session f g ones same)
  where
    by : (b : Bool) → answers_indices (if b then f o else o).kept ≡ answers_indices (if b then g o else o).kept
    by true = ap answers_indices (same o)
    by false = refl

kept-same : (session : SessionId) (f : OpenSession → OpenSession) (ones : List OpenSession)
    → ((one : OpenSession) → answers_indices (f one).kept ≡ answers_indices one.kept)
    → kept_indices (change_session session f ones) ≡ kept_indices ones
kept-same session f [] same = refl
kept-same session f (o ∷ ones) same =
    ap (λ (zs : List Index). zs ++ kept_indices (change_session session f ones)) (by (same_session o.session session))
    ∙ ap (λ (zs : List Index). answers_indices o.kept ++ zs) (kept-same session f ones same)
  where
    by : (b : Bool) → answers_indices (if b then f o else o).kept ≡ answers_indices o.kept
    by true = same o
    by false = refl

-- ---- sessions go

kept-parts : (p : OpenSession → Bool) (ones : List OpenSession) (i : ℕ)
    → occurrences i (kept_indices (filter (λ (x : OpenSession). not (p x)) ones))
    + occurrences i (kept_indices (filter p ones))
    ≡ occurrences i (kept_indices ones)
kept-parts p [] i = refl
kept-parts p (o ∷ ones) i = by (cases_Bool (p o)) (kept-parts p ones i)
  where
    stays : List OpenSession
    stays = filter (λ (x : OpenSession). not (p x)) ones

    goes : List OpenSession
    goes = filter p ones

    by : (p o ≡ true) ⊎ (p o ≡ false)
        → occurrences i (kept_indices stays) + occurrences i (kept_indices goes) ≡ occurrences i (kept_indices ones)
        → occurrences i (kept_indices (filter (λ (x : OpenSession). not (p x)) (o ∷ ones)))
        + occurrences i (kept_indices (filter p (o ∷ ones)))
        ≡ occurrences i (kept_indices (o ∷ ones))
    by (inl is) rest =
        let a = ap (λ (os : List OpenSession). occurrences i (kept_indices os))
        (cond-false (not (p o)) (o ∷ stays) stays (ap not is)) in
        let b = ap (λ (os : List OpenSession). occurrences i (kept_indices os)) (cond-true (p o) (o ∷ goes) goes is)
        ∙ occurrences-append i (answers_indices o.kept) (kept_indices goes) in
        let s = occurrences-append i (answers_indices o.kept) (kept_indices ones) in
        omega (arith, rest, a, b, s)
    by (inr is) rest =
        let a = ap (λ (os : List OpenSession). occurrences i (kept_indices os))
        (cond-true (not (p o)) (o ∷ stays) stays (ap not is))
        ∙ occurrences-append i (answers_indices o.kept) (kept_indices stays) in
        let b = ap (λ (os : List OpenSession). occurrences i (kept_indices os)) (cond-false (p o) (o ∷ goes) goes is) in
        let s = occurrences-append i (answers_indices o.kept) (kept_indices ones) in
        omega (arith, rest, a, b, s)

abbrev is_of : SessionId → OpenSession → Bool
is_of session one = same_session one.session session

pub none-of : (session : SessionId) (ones : List OpenSession) → session_of session ones ≡ None
    → filter (λ (one : OpenSession). same_session one.session session) ones ≡ []
none-of session [] none = refl
none-of session (o ∷ ones) none =
    elim (cases_Bool (same_session o.session session)) [
      | inl here ↦
          let is : Some o ≡ None =
          sym (cond-true (same_session o.session session) (Some o) (session_of session ones) here) ∙ none in
          absurd cc
      | inr other ↦
          cond-false (is_of session o) (o ∷ filter (is_of session) ones) (filter (is_of session) ones) other
          ∙ none-of session ones
          (sym (cond-false (same_session o.session session) (Some o) (session_of session ones) other) ∙ none)
    ]

pub one-of : (session : SessionId) (ones : List OpenSession) (one : OpenSession) → AreApart ones
    → session_of session ones ≡ Some one
    → filter (λ (one : OpenSession). same_session one.session session) ones ≡ one ∷ []
one-of session [] one apart found = absurd cc
one-of session (o ∷ ones) one apart found =
    elim (cases_Bool (same_session o.session session)) [
      | inl here ↦
          let is : Some o ≡ Some one =
          sym (cond-true (same_session o.session session) (Some o) (session_of session ones) here) ∙ found in
          let same : o ≡ one = cc in
          cond-true (is_of session o) (o ∷ filter (is_of session) ones) (filter (is_of session) ones) here
          ∙ ap (λ (os : List OpenSession). o ∷ os) (none-of session ones (later-absent session o ones apart here))
          ∙ ap (λ (x : OpenSession). x ∷ []) same
      | inr other ↦
          cond-false (is_of session o) (o ∷ filter (is_of session) ones) (filter (is_of session) ones) other
          ∙ one-of session ones one apart.1
          (sym (cond-false (same_session o.session session) (Some o) (session_of session ones) other) ∙ found)
    ]

pub none-earlier : (p : OpenSession → Bool) (ones : List OpenSession)
    → AllByRecursion (λ (one : OpenSession). p one ≡ false) ones → filter p ones ≡ []
none-earlier p [] none = refl
none-earlier p (o ∷ ones) none =
    cond-false (p o) (o ∷ filter p ones) (filter p ones) none.0 ∙ none-earlier p ones none.1

-- ---- what is held

pub holds-absent : (session : SessionId) (f : OpenSession → OpenSession) (ones : List OpenSession) (xs : List Index)
    → HoldsKept xs ones → session_of session ones ≡ None → HoldsKept xs (change_session session f ones)
holds-absent session f ones xs held none =
    subst (HoldsKept xs) (sym (absent-same session f ones none)) held

pub holds-like : (session : SessionId) (f g : OpenSession → OpenSession) (ones : List OpenSession) (xs : List Index)
    → ((one : OpenSession) → (f one).kept ≡ (g one).kept) → HoldsKept xs (change_session session g ones)
    → HoldsKept xs (change_session session f ones)
holds-like session f g ones xs same held i =
    held i ∙ ap (occurrences i) (sym (kept-like session f g ones same))

pub holds-same : (session : SessionId) (f : OpenSession → OpenSession) (ones : List OpenSession) (xs : List Index)
    → ((one : OpenSession) → answers_indices (f one).kept ≡ answers_indices one.kept) → HoldsKept xs ones
    → HoldsKept xs (change_session session f ones)
holds-same session f ones xs same held i =
    held i ∙ ap (occurrences i) (sym (kept-same session f ones same))

-- the first answers of a session are forgotten
pub holds-done : (session : SessionId) (f : OpenSession → OpenSession) (ones : List OpenSession) (one : OpenSession)
    (n : ℕ) (old new : List Index) → HoldsKept old ones → AreApart ones → session_of session ones ≡ Some one
    → (f one).kept ≡ drop n one.kept → Removes (answers_indices (take n one.kept)) old new
    → HoldsKept new (change_session session f ones)
holds-done session f ones one n old new held apart found rest gone i =
    let h = held i in
    let g = gone i in
    let c = change-found session f ones one apart found i in
    let d = ap (λ (kept : List Answer). occurrences i (answers_indices kept)) rest in
    let s = ap (λ (kept : List Answer). occurrences i (answers_indices kept)) (sym (take-append-drop n one.kept))
    ∙ ap (occurrences i) (answers-append (take n one.kept) (drop n one.kept))
    ∙ occurrences-append i (answers_indices (take n one.kept)) (answers_indices (drop n one.kept)) in
    omega (arith, h, g, c, d, s)

drops-few : (n : ℕ) (kept : List Answer) (i : ℕ)
    → occurrences i (answers_indices (drop n kept)) ≤ occurrences i (answers_indices kept)
drops-few n kept i =
    let s = ap (λ (k : List Answer). occurrences i (answers_indices k)) (sym (take-append-drop n kept))
    ∙ ap (occurrences i) (answers-append (take n kept) (drop n kept))
    ∙ occurrences-append i (answers_indices (take n kept)) (answers_indices (drop n kept)) in
    omega (arith, s)

kept-few : (session : SessionId) (stamp : Stamp) (ones : List OpenSession) (i : ℕ)
    → occurrences i (kept_indices (change_session session (raise_mark stamp) ones)) ≤ occurrences i (kept_indices ones)
kept-few session stamp [] i = omega arith
kept-few session stamp (o ∷ ones) i =
    let rest = kept-few session stamp ones i in
    let first = by (same_session o.session session) in
    let a = occurrences-append i (answers_indices (if same_session o.session session then raise_mark stamp o else o).kept)
    (kept_indices (change_session session (raise_mark stamp) ones)) in
    let b = occurrences-append i (answers_indices o.kept) (kept_indices ones) in
    omega (arith, rest, first, a, b)
  where
    by : (b : Bool) → occurrences i (answers_indices (if b then raise_mark stamp o else o).kept)
        ≤ occurrences i (answers_indices o.kept)
    by true = drops-few (next_mark stamp o - o.mark) o.kept i
    by false = omega arith

none-in : (i : ℕ) (xs : List Index) → length xs ≡ 0 → occurrences i xs ≡ 0
none-in i [] none = refl
none-in i (x ∷ xs) none = absurd (omega (arith, none))

-- where no answer names a message, none is let go
pub holds-unnamed : (session : SessionId) (stamp : Stamp) (ones : List OpenSession) (xs : List Index)
    → HoldsKept xs ones → length xs ≡ 0 → HoldsKept xs (change_session session (raise_mark stamp) ones)
holds-unnamed session stamp ones xs held none i =
    let h = held i in
    let few = kept-few session stamp ones i in
    let z = none-in i xs none in omega (arith, h, few, z)

-- an answer that names no message
pub holds-plain : (session : SessionId) (answer : Answer) (ones : List OpenSession) (xs : List Index)
    → got_indices answer ≡ [] → HoldsKept xs ones → HoldsKept xs (change_session session (add_answer answer) ones)
holds-plain session answer ones xs none held =
    holds-same session (add_answer answer) ones xs
    (λ one. answers-append one.kept (answer ∷ [])
    ∙ ap (λ (zs : List Index). answers_indices one.kept ++ (zs ++ [])) none
    ∙ append-nil (answers_indices one.kept)) held

-- a session keeps one more answer
pub holds-added : (session : SessionId) (f : OpenSession → OpenSession) (ones : List OpenSession) (one : OpenSession)
    (answer : Answer) (old new : List Index) → HoldsKept old ones → AreApart ones
    → session_of session ones ≡ Some one → (f one).kept ≡ one.kept ++ answer ∷ []
    → Adds (got_indices answer) old new → HoldsKept new (change_session session f ones)
holds-added session f ones one answer old new held apart found more come i =
    let h = held i in
    let g = come i in
    let c = change-found session f ones one apart found i in
    let d = ap (λ (kept : List Answer). occurrences i (answers_indices kept)) more
    ∙ ap (occurrences i) (answers-append one.kept (answer ∷ []))
    ∙ occurrences-append i (answers_indices one.kept) (answers_indices (answer ∷ [])) in
    let e = ap (occurrences i) (append-nil (got_indices answer)) in
    omega (arith, h, g, c, d, e)

-- sessions go
pub holds-filter : (p : OpenSession → Bool) (ones : List OpenSession) (old new : List Index) → HoldsKept old ones
    → Removes (kept_indices (filter p ones)) old new
    → HoldsKept new (filter (λ (x : OpenSession). not (p x)) ones)
holds-filter p ones old new held gone i =
    let h = held i in
    let g = gone i in
    let s = kept-parts p ones i in omega (arith, h, g, s)

-- a session is opened
pub holds-new : (stamp : Stamp) (ones : List OpenSession) (xs : List Index) → HoldsKept xs ones
    → HoldsKept xs (ones ++ new_session stamp ∷ [])
holds-new stamp ones xs held i =
    held i
    ∙ sym (ap (occurrences i) (kept-append ones (new_session stamp ∷ []) ∙ append-nil (kept_indices ones)))

-- what is held of the same
pub holds-still : (ones ones' : List OpenSession) (xs xs' : List Index) → ones' ≡ ones → xs' ≡ xs → HoldsKept xs ones
    → HoldsKept xs' ones'
holds-still ones ones' xs xs' same alike held i =
    ap (occurrences i) alike ∙ held i ∙ ap (λ (os : List OpenSession). occurrences i (kept_indices os)) (sym same)

-- no session, and nothing is held
pub holds-none : (ones : List OpenSession) (xs : List Index) → ones ≡ [] → xs ≡ [] → HoldsKept xs ones
holds-none ones xs none nothing i =
    ap (occurrences i) nothing ∙ ap (λ (os : List OpenSession). occurrences i (kept_indices os)) (sym none)

-- where there is room for no session
pub no-room : (room : Option SessionId) → room ≡ None → is_some room ≡ true → ⊥
no-room room none some = false≢true (sym (ap is_some none) ∙ some)
