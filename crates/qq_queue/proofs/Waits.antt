-- What waits for a verdict, and what is told at once.
use Rattle.std.proofs.Common.{◌≡◌, ◌<◌, ◌≤◌, ℕ, suc, Bool, true, false, cond, List, [], ◌∷◌, ◌++◌, length, map, Option, Some, None, refl, sym, ap, append_assoc, ◌∙◌, arith}
use Rattle.std.specs.Prelude.{IfNone, IfSome, find, not, option_to_list}
use Rattle.std.proofs.lemmas.Bool.{cond-true, cond-false}
use Rattle.qq_cluster_model.specs.Taking.{delivered, dropped_by, has_taker, told_of, told_then, waiting_of, waiting_then}
use Rattle.qq_session.specs.declared.shown.Shown.{Shown}
use Rattle.qq_session.specs.declared.shown.Shown.TheVariants.{Delivered, Dropped}
use Rattle.qq_taker.specs.Seats.{leaves, leaving, staying, without_first}
use Rattle.qq_taker.specs.declared.handed.Handed.{Handed}
use Rattle.qq_taker.specs.declared.seats.Leaving.{Leaving}
use Rattle.qq_taker.specs.declared.seats.Seat.{Seat}
use Rattle.qq_queue.specs.Waiting.{is_plain}

-- ---- takers that are dropped

-- the first one that loses its taker, and then the others
pub leaving-first : (whom : Leaving) (seats : List Seat) (seat : Seat) → Some seat ≡ find (leaves whom) seats
    → leaving whom seats ≡ seat ∷ leaving whom (without_first whom seats)
leaving-first whom [] seat found = absurd (let e : ◌≡◌ {A = Option Seat} (Some seat) None = found in cc)
leaving-first whom (x ∷ seats) seat found = by (leaves whom x) (leaving-first whom seats seat) refl found
  where
    by : (b : Bool)
        → (Some seat ≡ find (leaves whom) seats → leaving whom seats ≡ seat ∷ leaving whom (without_first whom seats))
        → leaves whom x ≡ b → Some seat ≡ cond b (Some x) (find (leaves whom) seats)
        → cond b (x ∷ leaving whom seats) (leaving whom seats)
        ≡ seat ∷ leaving whom (cond b seats (x ∷ without_first whom seats))
    by true rest is e = (let same : seat ≡ x = cc in ap (λ (s : Seat). s ∷ leaving whom seats) (sym same))
    by false rest is e =
        rest e
        ∙ ap (λ (l : List Seat). seat ∷ l)
        (sym (cond-false (leaves whom x) (x ∷ leaving whom (without_first whom seats))
        (leaving whom (without_first whom seats)) is))

pub staying-first : (whom : Leaving) (seats : List Seat) → staying whom (without_first whom seats) ≡ staying whom seats
staying-first whom [] = refl
staying-first whom (x ∷ seats) = by (leaves whom x) (staying-first whom seats) refl
  where
    by : (b : Bool) → staying whom (without_first whom seats) ≡ staying whom seats → leaves whom x ≡ b
        → staying whom (cond b seats (x ∷ without_first whom seats))
        ≡ cond (not b) (x ∷ staying whom seats) (staying whom seats)
    by true rest is = refl
    by false rest is =
        cond-true (not (leaves whom x)) (x ∷ staying whom (without_first whom seats))
        (staying whom (without_first whom seats)) (ap not is)
        ∙ ap (λ (l : List Seat). x ∷ l) rest

pub fewer : (whom : Leaving) (seats : List Seat) (seat : Seat) → Some seat ≡ find (leaves whom) seats
    → length (without_first whom seats) < length seats
fewer whom [] seat found = absurd (let e : ◌≡◌ {A = Option Seat} (Some seat) None = found in cc)
fewer whom (x ∷ seats) seat found = by (leaves whom x) (fewer whom seats seat) found
  where
    by : (b : Bool) → (Some seat ≡ find (leaves whom) seats → length (without_first whom seats) < length seats)
        → Some seat ≡ cond b (Some x) (find (leaves whom) seats)
        → length (cond b seats (x ∷ without_first whom seats)) < suc (length seats)
    by true rest e = omega arith
    by false rest e = let less = rest e in omega (arith, less)

pub none-leaves : (whom : Leaving) (seats : List Seat) → None ≡ find (leaves whom) seats
    → (leaving whom seats ≡ []) × (staying whom seats ≡ seats)
none-leaves whom [] found = (refl, refl)
none-leaves whom (x ∷ seats) found = by (leaves whom x) (none-leaves whom seats) found
  where
    by : (b : Bool)
        → (None ≡ find (leaves whom) seats → (leaving whom seats ≡ []) × (staying whom seats ≡ seats))
        → None ≡ cond b (Some x) (find (leaves whom) seats)
        → (cond b (x ∷ leaving whom seats) (leaving whom seats) ≡ [])
        × (cond (not b) (x ∷ staying whom seats) (staying whom seats) ≡ x ∷ seats)
    by true rest e = absurd (let n : ◌≡◌ {A = Option Seat} None (Some x) = e in cc)
    by false rest e = ((rest e).0, ap (λ (l : List Seat). x ∷ l) (rest e).1)

pub none-stays : (whom : Leaving) (seats : List Seat) → None ≡ find (leaves whom) seats
    → without_first whom seats ≡ seats
none-stays whom [] found = refl
none-stays whom (x ∷ seats) found = by (leaves whom x) (none-stays whom seats) found
  where
    by : (b : Bool) → (None ≡ find (leaves whom) seats → without_first whom seats ≡ seats)
        → None ≡ cond b (Some x) (find (leaves whom) seats) → cond b seats (x ∷ without_first whom seats) ≡ x ∷ seats
    by true rest e = absurd (let n : ◌≡◌ {A = Option Seat} None (Some x) = e in cc)
    by false rest e = ap (λ (l : List Seat). x ∷ l) (rest e)

-- one is dropped, and then the others
pub dropped-then : (whom : Leaving) (seats : List Seat) (seat : Seat) (old new : List Shown)
    → Some seat ≡ find (leaves whom) seats
    → new ≡ old ++ Dropped seat.consumer.session.number seat.number ∷ []
    → new ++ dropped_by (Some whom) (without_first whom seats) ≡ old ++ dropped_by (Some whom) seats
dropped-then whom seats seat old new found said =
    let rest : List Shown = dropped_by (Some whom) (without_first whom seats) in
    ap (λ (l : List Shown). l ++ rest) said
    ∙ append_assoc old (Dropped seat.consumer.session.number seat.number ∷ []) rest
    ∙ ap (λ (l : List Seat). old ++ map (λ (s : Seat). Dropped s.consumer.session.number s.number) l)
    (sym (leaving-first whom seats seat found))

-- ---- what is told

-- the first one's consumer has no taker
pub plain-first : (seats : List Seat) (h : Handed) (more : List Handed) → has_taker seats h ≡ false
    → (told_of seats (h ∷ more) ≡ h ∷ told_of seats more) × (waiting_of seats (h ∷ more) ≡ waiting_of seats more)
plain-first seats h more plain = (
  cond-false (has_taker seats h) [] (h ∷ told_of seats more) plain,
  cond-false (has_taker seats h) (h ∷ more) (waiting_of seats more) plain,
)

-- the first one's consumer has one
pub taker-first : (seats : List Seat) (h : Handed) (more : List Handed) → has_taker seats h ≡ true
    → (told_of seats (h ∷ more) ≡ []) × (waiting_of seats (h ∷ more) ≡ h ∷ more)
taker-first seats h more there = (
  cond-true (has_taker seats h) [] (h ∷ told_of seats more) there,
  cond-true (has_taker seats h) (h ∷ more) (waiting_of seats more) there,
)

pub delivered-then : (seats : List Seat) (h : Handed) (all more : List Handed) (old new : List Shown)
    → all ≡ h ∷ more → has_taker seats h ≡ false → new ≡ old ++ Delivered h.consumer h.delivery ∷ []
    → new ++ delivered (told_of seats more) ≡ old ++ delivered (told_of seats all)
delivered-then seats h all more old new is plain said =
    ap (λ (l : List Shown). l ++ delivered (told_of seats more)) said
    ∙ append_assoc old (Delivered h.consumer h.delivery ∷ []) (delivered (told_of seats more))
    ∙ ap (λ (l : List Handed). old ++ delivered l)
    (sym (ap (told_of seats) is ∙ (plain-first seats h more plain).0))

-- something waited already
pub behind-some : (seats : List Seat) (before more all : List Handed) (waited : ℕ) → 0 < waited
    → waited ≡ length before → all ≡ before ++ more
    → (all ≡ waiting_then before seats more) × (told_then before seats more ≡ [])
behind-some seats [] more all waited some is whole = absurd (omega (arith, some, is))
behind-some seats (h ∷ before) more all waited some is whole = (whole, refl)

-- nothing did
pub behind-none : (seats : List Seat) (before more all : List Handed) (waited : ℕ) → waited ≤ 0
    → waited ≡ length before → all ≡ before ++ more
    → (waiting_of seats all ≡ waiting_then before seats more) × (told_of seats all ≡ told_then before seats more)
behind-none seats [] more all waited none' is whole = (ap (waiting_of seats) whole, ap (told_of seats) whole)
behind-none seats (h ∷ before) more all waited none' is whole = absurd (omega (arith, none', is))

pub popped-fewer : (h : Handed) (all more : List Handed) → all ≡ h ∷ more → length more < length all
popped-fewer h all more is =
    let long : length all ≡ suc (length more) = ap (λ (l : List Handed). length l) is in omega arith

plain-of : (b : Bool) → not b ≡ true → b ≡ false
plain-of true e = absurd (let n : false ≡ true = e in cc)
plain-of false e = refl

-- the first one is taken out
pub plain-popped : (seats : List Seat) (all new : List Handed) (o : Option Handed) → is_plain seats all ≡ true
    → all ≡ option_to_list o ++ new → IfNone o (all ≡ [])
    → IfSome o (λ (h : Handed). (all ≡ h ∷ new) × (has_taker seats h ≡ false))
    × IfNone o ((new ≡ all) × (told_of seats all ≡ []) × (waiting_of seats all ≡ all))
plain-popped seats [] new o plain is none' = absurd (let n : false ≡ true = plain in cc)
plain-popped seats (x ∷ l) new None plain is none' =
    absurd (let n : ◌≡◌ {A = List Handed} (x ∷ l) [] = none' in cc)
plain-popped seats (x ∷ l) new (Some h) plain is none' =
    let same : x ≡ h = cc in
    ((is, ap (has_taker seats) (sym same) ∙ plain-of (has_taker seats x) plain), tt)

-- it stays
pub plain-kept : (seats : List Seat) (all : List Handed) → is_plain seats all ≡ false
    → (told_of seats all ≡ []) × (waiting_of seats all ≡ all)
plain-kept seats [] plain = (refl, refl)
plain-kept seats (h ∷ more) plain = taker-first seats h more (by (has_taker seats h) plain)
  where
    by : (b : Bool) → not b ≡ false → b ≡ true
    by true e = refl
    by false e = absurd (let n : true ≡ false = e in cc)
