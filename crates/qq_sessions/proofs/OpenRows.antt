-- The open sessions of rows under their ids: what is found, changed, removed and added.
use Rattle.std.proofs.Common.{◌≡◌, ◌<◌, ◌≤◌, Bool, true, false, not, cond, ◌&&◌, ◌||◌, ℕ, zero, suc, List, [], ◌∷◌, ◌++◌, Option, Some, None, take, refl, sym, ap, ◌∙◌, subst, inl, inr, arith, rules}
use Rattle.std.specs.Prelude.{filter, nat_eq, is_some, slice_get}
use Rattle.std.specs.List.{AllByRecursion, IsDistinct, list_any}
use Rattle.std.specs.Option.{option_map}
use Rattle.std.specs.Map.{keys_of, values_of, lookup, set_value, remove_entry}
use Rattle.indexmap.specs.IndexMap.{IndexMap, get, spare, with_value_at, set_value_at, IsUnique, WritesThrough}
use Rattle.indexmap.proofs.CallerLemmas.{keys-with_value_at, index_map_len-with_value_at, updates-with_value_at}
use Rattle.std.specs.Cmp.{nat_eq_equiv, IsEquivalence}
use Rattle.std.specs.Cmp.Rules.{comparing}
use Rattle.std.proofs.lemmas.Bool.{false≢true, cases_Bool, cond-true, cond-false, cond_both, not_from_true, not_from_false, or_parts, or_from, or_left}
use Rattle.qq_base.specs.declared.ids.SessionId.{SessionId}
use Rattle.qq_base.specs.Ids.{same_session}
use Rattle.qq_model.specs.declared.session.OpenSession.{OpenSession}
use Rattle.qq_model.specs.Gate.{session_of, is_open, change_session, is_giving_way}
use Rattle.qq_model.proofs.SessionLemmas.{same_session-true}
use Rattle.qq_sessions.specs.declared.row.SessionRow.{SessionRow}
use Rattle.qq_sessions.specs.Row.{open_of, slots}
use Rattle.qq_sessions.specs.Opened.{Entry, sessions_of, HasOwnId, HasRoomBy, HasRoom, AreHeld, AreApart}

-- ---- ids

pub same_session-symm : (a b : SessionId) → same_session a b ≡ same_session b a
same_session-symm a b =
    ap (λ (t : Bool). t && nat_eq a.owner b.owner && nat_eq a.number b.number) (nat_eq_equiv.symm a.class b.class)
    ∙ ap (λ (t : Bool). nat_eq b.class a.class && t && nat_eq a.number b.number) (nat_eq_equiv.symm a.owner b.owner)
    ∙ ap (λ (t : Bool). nat_eq b.class a.class && nat_eq b.owner a.owner && t) (nat_eq_equiv.symm a.number b.number)

-- the test of a row's id, as the definition and the map ask it
asked : (session : SessionId) (e : Entry) → HasOwnId e
    → same_session e.1.session session ≡ same_session session e.0
asked session e own =
    same_session-symm e.1.session session ∙ ap (same_session session) (sym own)

-- ---- what is found

pub session_of-lookup : (session : SessionId) (es : List Entry) → AllByRecursion HasOwnId es
    → option_map open_of (lookup (same_session session) es) ≡ session_of session (sessions_of es)
session_of-lookup session [] own = refl
session_of-lookup session (e ∷ es) own =
    elim (cases_Bool (same_session session e.0)) [
      | inl here ↦
          ap (option_map open_of) (cond-true (same_session session e.0) (Some e.1) (lookup (same_session session) es) here)
          ∙ sym (cond-true (same_session e.1.session session) (Some (open_of e.1)) (session_of session (sessions_of es))
          (asked session e own.0 ∙ here))
      | inr other ↦
          ap (option_map open_of) (cond-false (same_session session e.0) (Some e.1) (lookup (same_session session) es) other)
          ∙ session_of-lookup session es own.1
          ∙ sym (cond-false (same_session e.1.session session) (Some (open_of e.1)) (session_of session (sessions_of es))
          (asked session e own.0 ∙ other))
    ]

pub is_open-lookup : (session : SessionId) (es : List Entry) → AllByRecursion HasOwnId es
    → is_some (lookup (same_session session) es) ≡ is_open session (sessions_of es)
is_open-lookup session [] own = refl
is_open-lookup session (e ∷ es) own =
    elim (cases_Bool (same_session session e.0)) [
      | inl here ↦
          ap is_some (cond-true (same_session session e.0) (Some e.1) (lookup (same_session session) es) here)
          ∙ sym (or_left (same_session e.1.session session) (is_open session (sessions_of es))
          (asked session e own.0 ∙ here))
      | inr other ↦
          ap is_some (cond-false (same_session session e.0) (Some e.1) (lookup (same_session session) es) other)
          ∙ is_open-lookup session es own.1
          ∙ sym (ap (λ (t : Bool). t || is_open session (sessions_of es)) (asked session e own.0 ∙ other))
    ]

pub is_some-mapped : {A B : Type 0} (f : A → B) (o : Option A) → is_some o ≡ is_some (option_map f o)
is_some-mapped f None = refl
is_some-mapped f (Some a) = refl

-- ---- changes

-- where no row has the id, nothing changes
unchanged : (session : SessionId) (f : OpenSession → OpenSession) (es : List Entry) → AllByRecursion HasOwnId es
    → lookup (same_session session) es ≡ None → change_session session f (sessions_of es) ≡ sessions_of es
unchanged session f [] own none = refl
unchanged session f (e ∷ es) own none =
    elim (cases_Bool (same_session session e.0)) [
      | inl here ↦ absurd (some_none (sym (cond-true (same_session session e.0) (Some e.1)
          (lookup (same_session session) es) here) ∙ none))
      | inr other ↦
          ap (λ (one : OpenSession). one ∷ change_session session f (sessions_of es))
          (cond-false (same_session e.1.session session) (f (open_of e.1)) (open_of e.1) (asked session e own.0 ∙ other))
          ∙ ap (λ (ones : List OpenSession). open_of e.1 ∷ ones) (unchanged session f es own.1
          (sym (cond-false (same_session session e.0) (Some e.1) (lookup (same_session session) es) other) ∙ none))
    ]
  where
    some_none : {row : SessionRow} → Some row ≡ None → ⊥
    some_none e = absurd cc

-- no later row has the id of one
absent-later : (session : SessionId) (e : Entry) (es : List Entry) → IsDistinct same_session (keys_of (e ∷ es))
    → same_session session e.0 ≡ true → lookup (same_session session) es ≡ None
unfolding IsDistinct
absent-later session e es distinct here = by es distinct.0
  where
    by : (fs : List Entry) → AllByRecursion (λ k. same_session e.0 k ≡ false) (keys_of fs)
        → lookup (same_session session) fs ≡ None
    by [] apart = refl
    by (f ∷ fs) apart =
        cond-false (same_session session f.0) (Some f.1) (lookup (same_session session) fs)
        (ap (λ (id : SessionId). same_session id f.0) (same_session-true session e.0 here) ∙ apart.0)
        ∙ by fs apart.1

pub changed : (session : SessionId) (f : OpenSession → OpenSession) (es : List Entry) (row w : SessionRow)
    → AllByRecursion HasOwnId es → IsDistinct same_session (keys_of es) → lookup (same_session session) es ≡ Some row
    → open_of w ≡ f (open_of row)
    → sessions_of (set_value (same_session session) es w) ≡ change_session session f (sessions_of es)
unfolding IsDistinct
changed session f [] row w own distinct found made = absurd cc
changed session f (e ∷ es) row w own distinct found made =
    elim (cases_Bool (same_session session e.0)) [
      | inl here ↦
          let is : Some e.1 ≡ Some row =
          sym (cond-true (same_session session e.0) (Some e.1) (lookup (same_session session) es) here) ∙ found in
          let same : e.1 ≡ row = cc in
          ap sessions_of (cond-true (same_session session e.0) ((e.0, w) ∷ es) (e ∷ set_value (same_session session) es w) here)
          ∙ ap (λ (one : OpenSession). one ∷ sessions_of es) (made ∙ ap (λ (r : SessionRow). f (open_of r)) (sym same))
          ∙ sym (ap (λ (one : OpenSession). one ∷ change_session session f (sessions_of es))
          (cond-true (same_session e.1.session session) (f (open_of e.1)) (open_of e.1) (asked session e own.0 ∙ here))
          ∙ ap (λ (ones : List OpenSession). f (open_of e.1) ∷ ones)
          (unchanged session f es own.1 (absent-later session e es distinct here)))
      | inr other ↦
          ap sessions_of (cond-false (same_session session e.0) ((e.0, w) ∷ es) (e ∷ set_value (same_session session) es w) other)
          ∙ ap (λ (ones : List OpenSession). open_of e.1 ∷ ones)
          (changed session f es row w own.1 distinct.1
          (sym (cond-false (same_session session e.0) (Some e.1) (lookup (same_session session) es) other) ∙ found) made)
          ∙ sym (ap (λ (one : OpenSession). one ∷ change_session session f (sessions_of es))
          (cond-false (same_session e.1.session session) (f (open_of e.1)) (open_of e.1) (asked session e own.0 ∙ other)))
    ]

pub unchanged-absent : (session : SessionId) (f : OpenSession → OpenSession) (es : List Entry)
    → AllByRecursion HasOwnId es → lookup (same_session session) es ≡ None
    → sessions_of es ≡ change_session session f (sessions_of es)
unchanged-absent session f es own none = sym (unchanged session f es own none)

-- a written row keeps its id
pub own-set_value : (session : SessionId) (es : List Entry) (row w : SessionRow) → AllByRecursion HasOwnId es
    → lookup (same_session session) es ≡ Some row → w.session ≡ row.session
    → AllByRecursion HasOwnId (set_value (same_session session) es w)
own-set_value session [] row w own found same = tt
own-set_value session (e ∷ es) row w own found same =
    elim (cases_Bool (same_session session e.0)) [
      | inl here ↦
          let is : Some e.1 ≡ Some row =
          sym (cond-true (same_session session e.0) (Some e.1) (lookup (same_session session) es) here) ∙ found in
          let eq : e.1 ≡ row = cc in
          subst (AllByRecursion HasOwnId)
          (sym (cond-true (same_session session e.0) ((e.0, w) ∷ es) (e ∷ set_value (same_session session) es w) here))
          (own.0 ∙ ap (λ (r : SessionRow). r.session) eq ∙ sym same, own.1)
      | inr other ↦
          subst (AllByRecursion HasOwnId)
          (sym (cond-false (same_session session e.0) ((e.0, w) ∷ es) (e ∷ set_value (same_session session) es w) other)) (
            own.0,
            own-set_value session es row w own.1
                (sym (cond-false (same_session session e.0) (Some e.1) (lookup (same_session session) es) other) ∙ found) same,
          )
    ]

-- ---- a session goes

absent-stays : (session : SessionId) (es : List Entry) → AllByRecursion HasOwnId es
    → lookup (same_session session) es ≡ None
    → filter (λ (one : OpenSession). not (same_session one.session session)) (sessions_of es) ≡ sessions_of es
absent-stays session [] own none = refl
absent-stays session (e ∷ es) own none =
    elim (cases_Bool (same_session session e.0)) [
      | inl here ↦
          let is : Some e.1 ≡ None =
          sym (cond-true (same_session session e.0) (Some e.1) (lookup (same_session session) es) here) ∙ none in
          absurd cc
      | inr other ↦
          let goes : OpenSession → Bool = λ one. not (same_session one.session session) in
          cond-true (goes (open_of e.1)) (open_of e.1 ∷ filter goes (sessions_of es)) (filter goes (sessions_of es))
          (not_from_false (same_session e.1.session session) (asked session e own.0 ∙ other))
          ∙ ap (λ (ones : List OpenSession). open_of e.1 ∷ ones) (absent-stays session es own.1
          (sym (cond-false (same_session session e.0) (Some e.1) (lookup (same_session session) es) other) ∙ none))
    ]

pub removed : (session : SessionId) (es : List Entry) → AllByRecursion HasOwnId es
    → IsDistinct same_session (keys_of es)
    → sessions_of (remove_entry (same_session session) es)
    ≡ filter (λ (one : OpenSession). not (same_session one.session session)) (sessions_of es)
unfolding IsDistinct
removed session [] own distinct = refl
removed session (e ∷ es) own distinct =
    let goes : OpenSession → Bool = λ one. not (same_session one.session session) in
    elim (cases_Bool (same_session session e.0)) [
      | inl here ↦
          ap sessions_of (cond-true (same_session session e.0) es (e ∷ remove_entry (same_session session) es) here)
          ∙ sym (cond-false (goes (open_of e.1)) (open_of e.1 ∷ filter goes (sessions_of es)) (filter goes (sessions_of es))
          (not_from_true (same_session e.1.session session) (asked session e own.0 ∙ here))
          ∙ absent-stays session es own.1 (absent-later session e es distinct here))
      | inr other ↦
          ap sessions_of (cond-false (same_session session e.0) es (e ∷ remove_entry (same_session session) es) other)
          ∙ ap (λ (ones : List OpenSession). open_of e.1 ∷ ones) (removed session es own.1 distinct.1)
          ∙ sym (cond-true (goes (open_of e.1)) (open_of e.1 ∷ filter goes (sessions_of es)) (filter goes (sessions_of es))
          (not_from_false (same_session e.1.session session) (asked session e own.0 ∙ other)))
    ]

pub own-remove_entry : (session : SessionId) (es : List Entry) → AllByRecursion HasOwnId es
    → AllByRecursion HasOwnId (remove_entry (same_session session) es)
own-remove_entry session [] own = tt
own-remove_entry session (e ∷ es) own =
    cond_both (same_session session e.0) es (e ∷ remove_entry (same_session session) es) (AllByRecursion HasOwnId)
    (λ _. own.1) (λ _. (own.0, own-remove_entry session es own.1))

-- ---- a session is opened

pub filtered : (keeps : OpenSession → Bool) (es : List Entry)
    → sessions_of (filter (λ (e : Entry). keeps (open_of e.1)) es) ≡ filter keeps (sessions_of es)
filtered keeps [] = refl
filtered keeps (e ∷ es) = by (keeps (open_of e.1)) (filtered keeps es)
  where
    by : (b : Bool) → sessions_of (filter (λ (e : Entry). keeps (open_of e.1)) es) ≡ filter keeps (sessions_of es)
        → sessions_of (cond b (e ∷ filter (λ (e : Entry). keeps (open_of e.1)) es)
        (filter (λ (e : Entry). keeps (open_of e.1)) es))
        ≡ cond b (open_of e.1 ∷ filter keeps (sessions_of es)) (filter keeps (sessions_of es))
    by true rest = ap (λ (ones : List OpenSession). open_of e.1 ∷ ones) rest
    by false rest = rest

pub pushed : (es : List Entry) (e : Entry) → sessions_of (es ++ e ∷ []) ≡ sessions_of es ++ open_of e.1 ∷ []
pushed [] e = refl
pushed (x ∷ es) e = ap (λ (ones : List OpenSession). open_of x.1 ∷ ones) (pushed es e)

pub lookup-filter_none : (test : SessionId → Bool) (keeps : Entry → Bool) (es : List Entry) → lookup test es ≡ None
    → lookup test (filter keeps es) ≡ None
lookup-filter_none test keeps [] none = refl
lookup-filter_none test keeps (e ∷ es) none =
    elim (cases_Bool (test e.0)) [
      | inl here ↦
          let is : Some e.1 ≡ None = sym (cond-true (test e.0) (Some e.1) (lookup test es) here) ∙ none in absurd cc
      | inr other ↦
          let rest : lookup test (filter keeps es) ≡ None =
          lookup-filter_none test keeps es (sym (cond-false (test e.0) (Some e.1) (lookup test es) other) ∙ none) in
          cond_both (keeps e) (e ∷ filter keeps es) (filter keeps es) (λ (fs : List Entry). lookup test fs ≡ None)
          (λ _. cond-false (test e.0) (Some e.1) (lookup test (filter keeps es)) other ∙ rest) (λ _. rest)
    ]

pub absent-closed : (session : SessionId) (es : List Entry) → AllByRecursion HasOwnId es
    → is_open session (sessions_of es) ≡ false → lookup (same_session session) es ≡ None
absent-closed session es own closed =
    none (lookup (same_session session) es) (is_open-lookup session es own ∙ closed)
  where
    none : (found : Option SessionRow) → is_some found ≡ false → found ≡ None
    none None e = refl
    none (Some row) e = absurd (false≢true (sym e))

-- ---- room

-- a write that leaves a row no fewer slots leaves the room
pub room-written : (held : Option SessionId) (session : SessionId) (es fs : List Entry) (row w : SessionRow) (spare : ℕ)
    (at_hand : Bool)
    → ((q : SessionId) → lookup (same_session q) fs
    ≡ cond (same_session session q) (Some w) (lookup (same_session q) es))
    → lookup (same_session session) es ≡ Some row → slots row ≤ slots w → HasRoom held es spare at_hand
    → HasRoom held fs spare at_hand
room-written None session es fs row w spare at_hand wrote found more room = tt
room-written (Some s) session es fs row w spare at_hand wrote found more room =
    elim (cases_Bool (same_session session s)) [
      | inl same ↦
          let own : lookup (same_session s) es ≡ Some row =
          ap (λ (id : SessionId). lookup (same_session id) es) (sym (same_session-true session s same)) ∙ found in
          let had : 0 < slots row = subst (λ (o : Option SessionRow). HasRoomBy o spare at_hand) own room in
          let has : 0 < slots w = omega arith in
          subst (λ (o : Option SessionRow). HasRoomBy o spare at_hand)
          (sym (wrote s ∙ cond-true (same_session session s) (Some w) (lookup (same_session s) es) same)) has
      | inr other ↦
          subst (λ (o : Option SessionRow). HasRoomBy o spare at_hand)
          (sym (wrote s ∙ cond-false (same_session session s) (Some w) (lookup (same_session s) es) other)) room
    ]

-- ---- each id is there once

pub apart-distinct : (es : List Entry) → AllByRecursion HasOwnId es → IsDistinct same_session (keys_of es)
    → AreApart (sessions_of es)
unfolding IsDistinct
apart-distinct [] own distinct = tt
apart-distinct (e ∷ es) own distinct = (by es own.1 distinct.0, apart-distinct es own.1 distinct.1)
  where
    by : (fs : List Entry) → AllByRecursion HasOwnId fs → AllByRecursion (λ k. same_session e.0 k ≡ false) (keys_of fs)
        → is_open e.1.session (sessions_of fs) ≡ false
    by [] own' apart = refl
    by (f ∷ fs) own' apart =
        or_from (same_session f.1.session e.1.session) (is_open e.1.session (sessions_of fs))
        (asked e.1.session f own'.0 ∙ ap (λ (id : SessionId). same_session id f.0) (sym own.0) ∙ apart.0)
        (by fs own'.1 apart.1)

any-false : {A : Type 0} (p : A → Bool) (xs : List A) (i : ℕ) (x : A) → list_any p xs ≡ false
    → slice_get xs i ≡ Some x → p x ≡ false
any-false p [] i x none found = absurd cc
any-false p (y ∷ ys) zero x none found =
    let same : y ≡ x = cc in ap p (sym same) ∙ (or_parts (p y) (list_any p ys) none).0
any-false p (y ∷ ys) (suc i) x none found = any-false p ys i x (or_parts (p y) (list_any p ys) none).1 found

-- a session isn't open among those before it
pub apart-before : (ones : List OpenSession) (i : ℕ) (one : OpenSession) → AreApart ones → slice_get ones i ≡ Some one
    → is_open one.session (take i ones) ≡ false
apart-before [] i one apart found = absurd cc
apart-before (o ∷ ones) zero one apart found = refl
apart-before (o ∷ ones) (suc i) one apart found =
    or_from (same_session o.session one.session) (is_open one.session (take i ones))
    (same_session-symm o.session one.session
    ∙ any-false (λ (x : OpenSession). same_session x.session o.session) ones i one apart.0 found)
    (apart-before ones i one apart.1 found)

pub apart-middle : (ones : List OpenSession) (one : OpenSession) (more : List OpenSession) → AreApart (ones ++ one ∷ more)
    → is_open one.session ones ≡ false
apart-middle [] one more apart = refl
apart-middle (o ∷ ones) one more apart =
    or_from (same_session o.session one.session) (is_open one.session ones)
    (same_session-symm o.session one.session
    ∙ middle (λ (x : OpenSession). same_session x.session o.session) ones one more apart.0)
    (apart-middle ones one more apart.1)
  where
    middle : (p : OpenSession → Bool) (xs : List OpenSession) (x : OpenSession) (ys : List OpenSession)
        → list_any p (xs ++ x ∷ ys) ≡ false → p x ≡ false
    middle p [] x ys none = (or_parts (p x) (list_any p ys) none).0
    middle p (y ∷ xs) x ys none = middle p xs x ys (or_parts (p y) (list_any p (xs ++ x ∷ ys)) none).1

-- ---- a written row

-- the map after a write still holds what it held
pub written : (session : SessionId) (es fs : List Entry) (spare after : ℕ) (at_hand : Bool) (held : Option SessionId)
    (row w : SessionRow) → AreHeld es spare at_hand held → lookup (same_session session) es ≡ Some row
    → w.session ≡ row.session → slots row ≤ slots w → fs ≡ set_value (same_session session) es w
    → ((q : SessionId) → lookup (same_session q) fs ≡ cond (same_session session q) (Some w) (lookup (same_session q) es))
    → after ≡ spare → IsDistinct same_session (keys_of fs) → AreHeld fs after at_hand held
written session es fs spare after at_hand held row w are found same more is wrote left unique = record {
  unique = unique;
  ids = subst (AllByRecursion HasOwnId) (sym is) (own-set_value session es row w are.ids found same);
  room =
      subst (λ (n : ℕ). HasRoom held fs n at_hand) (sym left)
      (room-written held session es fs row w spare at_hand wrote found more are.room);
}

-- a row that is written as the same session leaves all sessions as they were
pub rewritten : (session : SessionId) (es : List Entry) (row w : SessionRow) → lookup (same_session session) es ≡ Some row
    → open_of w ≡ open_of row → sessions_of (set_value (same_session session) es w) ≡ sessions_of es
rewritten session [] row w found same = refl
rewritten session (e ∷ es) row w found same =
    elim (cases_Bool (same_session session e.0)) [
      | inl here ↦
          let is : Some e.1 ≡ Some row =
          sym (cond-true (same_session session e.0) (Some e.1) (lookup (same_session session) es) here) ∙ found in
          let own : e.1 ≡ row = cc in
          ap sessions_of (cond-true (same_session session e.0) ((e.0, w) ∷ es) (e ∷ set_value (same_session session) es w) here)
          ∙ ap (λ (one : OpenSession). one ∷ sessions_of es) (same ∙ ap open_of (sym own))
      | inr other ↦
          ap sessions_of (cond-false (same_session session e.0) ((e.0, w) ∷ es) (e ∷ set_value (same_session session) es w) other)
          ∙ ap (λ (ones : List OpenSession). open_of e.1 ∷ ones) (rewritten session es row w
          (sym (cond-false (same_session session e.0) (Some e.1) (lookup (same_session session) es) other) ∙ found) same)
    ]

-- room for a session that isn't open is a place in the map and a list at hand
pub room-closed : (held : Option SessionId) (session : SessionId) (es : List Entry) (spare : ℕ) (at_hand : Bool)
    → HasRoom held es spare at_hand → held ≡ Some session → lookup (same_session session) es ≡ None
    → (0 < spare) × (at_hand ≡ true)
room-closed held session es spare at_hand room is none =
    let own : HasRoom (Some session) es spare at_hand =
    subst (λ (h : Option SessionId). HasRoom h es spare at_hand) is room in
    subst (λ (o : Option SessionRow). HasRoomBy o spare at_hand) none own

pub room-open : (held : Option SessionId) (session : SessionId) (es : List Entry) (spare : ℕ) (at_hand : Bool)
    (row : SessionRow) → HasRoom held es spare at_hand → held ≡ Some session → lookup (same_session session) es ≡ Some row
    → 0 < slots row
room-open held session es spare at_hand row room is found =
    let own : HasRoom (Some session) es spare at_hand =
    subst (λ (h : Option SessionId). HasRoom h es spare at_hand) is room in
    subst (λ (o : Option SessionRow). HasRoomBy o spare at_hand) found own

-- where nobody gives way, all stay
pub none-goes : (session : SessionId) (es : List Entry)
    → AllByRecursion (λ (one : OpenSession). is_giving_way session one ≡ false) (sessions_of es)
    → es ≡ filter (λ (e : Entry). not (is_giving_way session (open_of e.1))) es
none-goes session [] none = refl
none-goes session (e ∷ es) none =
    let keeps : Entry → Bool = λ x. not (is_giving_way session (open_of x.1)) in
    ap (λ (fs : List Entry). e ∷ fs) (none-goes session es none.1)
    ∙ sym (cond-true (keeps e) (e ∷ filter keeps es) (filter keeps es)
    (not_from_false (is_giving_way session (open_of e.1)) none.0))

-- ---- a row is written through the map

module _ {S : Type 0} (session : SessionId) (m n : IndexMap SessionId SessionRow S) (at_hand : Bool)
    (held : Option SessionId) (are : AreHeld m.entries (spare m) at_hand held) where
  module _ (row w : SessionRow) (found : Some row ≡ get same_session m session)
      (wrote : WritesThrough same_session (same_session session) m w n) where
    pub write-held : w.session ≡ row.session → slots row ≤ slots w → AreHeld n.entries (spare n) at_hand held
    write-held same more =
        written session m.entries n.entries (spare m) (spare n) at_hand held row w are (sym found) same more wrote.0
        (wrote.3 (ap is_some (sym found))).0 wrote.6 wrote.4

    pub write-changes : (f : OpenSession → OpenSession) → open_of w ≡ f (open_of row)
        → sessions_of n.entries ≡ change_session session f (sessions_of m.entries)
    write-changes f made =
        ap sessions_of wrote.0 ∙ changed session f m.entries row w are.ids are.unique (sym found) made

    pub write-ids : w.session ≡ row.session → AllByRecursion HasOwnId n.entries
    write-ids same =
        subst (AllByRecursion HasOwnId) (sym wrote.0) (own-set_value session m.entries row w are.ids (sym found) same)

-- ---- a row is written at its place

same-laws : IsEquivalence same_session
same-laws = search (comparing, rules)

-- the id of a later row is another one
apart-at : (id : SessionId) (es : List Entry) (i : ℕ) (e : Entry)
    → AllByRecursion (λ k. same_session id k ≡ false) (keys_of es) → slice_get es i ≡ Some e
    → same_session id e.0 ≡ false
apart-at id [] i e each at = absurd cc
apart-at id (f ∷ es) zero e each at =
    let own : f ≡ e = cc in ap (λ (x : Entry). same_session id x.0) (sym own) ∙ each.0
apart-at id (f ∷ es) (suc i) e each at = apart-at id es i e each.1 at

set-at : (session : SessionId) (es : List Entry) (i : ℕ) (row w : SessionRow) → IsDistinct same_session (keys_of es)
    → slice_get es i ≡ Some (session, row) → set_value_at es i w ≡ set_value (same_session session) es w
unfolding IsDistinct
set-at session [] i row w distinct at = absurd cc
set-at session (e ∷ es) zero row w distinct at =
    let own : e ≡ (session, row) = cc in
    sym (cond-true (same_session session e.0) ((e.0, w) ∷ es) (e ∷ set_value (same_session session) es w)
    (ap (λ (x : Entry). same_session session x.0) own ∙ same-laws.refl session))
set-at session (e ∷ es) (suc i) row w distinct at =
    ap (λ (fs : List Entry). e ∷ fs) (set-at session es i row w distinct.1 at)
    ∙ sym (cond-false (same_session session e.0) ((e.0, w) ∷ es) (e ∷ set_value (same_session session) es w)
    (same_session-symm session e.0 ∙ apart-at e.0 es i (session, row) distinct.0 at))

-- what is written at the place of a session is written under its id
pub written-at : {S : Type 0} (session : SessionId) (m : IndexMap SessionId SessionRow S) (i : ℕ) (row w : SessionRow)
    → IsUnique same_session m → slice_get m.entries i ≡ Some (session, row)
    → WritesThrough same_session (same_session session) m w (with_value_at m i w)
written-at session m i row w unique at =
    let keys = keys-with_value_at m i w in (
      set-at session m.entries i row w unique at,
      keys,
      index_map_len-with_value_at m i w,
      (λ _. updates-with_value_at m i w same-laws unique session row at),
      subst (IsDistinct same_session) (sym keys) unique,
      refl,
      refl,
    )

-- a row that is written at its place
module _ {S : Type 0} (session : SessionId) (m : IndexMap SessionId SessionRow S) (i : ℕ) (old row w : SessionRow)
    (place : slice_get m.entries i ≡ Some (session, old)) (value : Some row ≡ slice_get (values_of m.entries) i) where
  own : row ≡ old
  own = by m.entries i place value
    where
      by : (es : List Entry) (j : ℕ) → slice_get es j ≡ Some (session, old) → Some row ≡ slice_get (values_of es) j
          → row ≡ old
      by [] j at is = absurd cc
      by (e ∷ es) zero at is =
          let here : e ≡ (session, old) = cc in
          let same : row ≡ e.1 = cc in same ∙ ap (λ (x : Entry). x.1) here
      by (e ∷ es) (suc j) at is = by es j at is

  pub at-found : Some old ≡ get same_session m session → Some row ≡ get same_session m session
  at-found there = ap (λ (r : SessionRow). Some r) own ∙ there

  pub at-written : IsUnique same_session m
      → WritesThrough same_session (same_session session) m w (with_value_at m i w)
  at-written unique = written-at session m i old w unique place

  module _ (there : Some old ≡ get same_session m session) (at_hand : Bool) (held : Option SessionId)
      (are : AreHeld m.entries (spare m) at_hand held) where
    pub place-held : w.session ≡ row.session → slots row ≤ slots w
        → AreHeld (set_value_at m.entries i w) (spare m) at_hand held
    place-held same more =
        write-held session m (with_value_at m i w) at_hand held are row w (at-found there) (at-written are.unique) same more

    pub place-changes : (f : OpenSession → OpenSession) → open_of w ≡ f (open_of row)
        → sessions_of (set_value_at m.entries i w) ≡ change_session session f (sessions_of m.entries)
    place-changes f made =
        write-changes session m (with_value_at m i w) at_hand held are row w (at-found there) (at-written are.unique) f made

    pub place-ids : w.session ≡ row.session → AllByRecursion HasOwnId (set_value_at m.entries i w)
    place-ids same =
        write-ids session m (with_value_at m i w) at_hand held are row w (at-found there) (at-written are.unique) same

-- a row that is written as the same session
module _ {S : Type 0} (session : SessionId) (m n : IndexMap SessionId SessionRow S) (row w : SessionRow) where
  pub write-same : Some row ≡ get same_session m session → WritesThrough same_session (same_session session) m w n
      → open_of w ≡ open_of row → sessions_of n.entries ≡ sessions_of m.entries
  write-same found wrote made = ap sessions_of wrote.0 ∙ rewritten session m.entries row w (sym found) made

  pub same-ids : AllByRecursion HasOwnId m.entries → Some row ≡ get same_session m session
      → WritesThrough same_session (same_session session) m w n → open_of w ≡ open_of row
      → AllByRecursion HasOwnId n.entries
  same-ids ids found wrote made =
      subst (AllByRecursion HasOwnId) (sym wrote.0)
      (own-set_value session m.entries row w ids (sym found) (ap (λ (one : OpenSession). one.session) made))

-- without room the ids are all that is held
pub ids-held : (es : List Entry) (spare : ℕ) (at_hand : Bool) → AllByRecursion HasOwnId es
    → IsDistinct same_session (keys_of es) → AreHeld es spare at_hand None
ids-held es spare at_hand own unique = record { ids = own; unique = unique; room = tt }
