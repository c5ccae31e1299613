-- What a journal leads back to, as it gains and loses its latest step, and as there is more memory.
use Rattle.std.proofs.Common.{◌≡◌, ℕ, zero, suc, ◌+◌, ◌<◌, ◌≤◌, List, [], ◌∷◌, ◌++◌, Some, length, get_or, slice_get, insert, remove, refl, sym, ap, ◌∙◌, subst, arith}
use Rattle.std.proofs.lemmas.List.Edits.{insert_end, length-insert, length-remove}
use Rattle.std.proofs.lemmas.Option.{slice_get_within, get_or_from_slice_get}
use Rattle.std.specs.VecDeque.{deque_capacity}
use Rattle.std.specs.declared.collections.VecDeque.{VecDeque}
use Rattle.std.proofs.Common.{Global}
use Rattle.qq_undo.specs.declared.step.Step.{Step}
use Rattle.qq_undo.specs.declared.step.Step.TheVariants.{Inserted, Removed, Cleared}
use Rattle.qq_undo.specs.Undo.{Held, HasMore, held, undo_step, undone, CanUndoStep, CanUndo}

-- Lists ------------------------------------------------------------------------------------------------

pub remove-insert : {T : Type 0} (xs : List T) (i : ℕ) (x : T) → i ≤ length xs → remove (insert xs i x) i ≡ xs
remove-insert [] zero x le = refl
remove-insert [] (suc i) x le = absurd (omega arith)
remove-insert (y ∷ xs) zero x le = refl
remove-insert (y ∷ xs) (suc i) x le = ap (λ zs. y ∷ zs) (remove-insert xs i x (omega arith))

pub insert-remove : {T : Type 0} (xs : List T) (i : ℕ) (x : T) → slice_get xs i ≡ Some x
    → insert (remove xs i) i x ≡ xs
insert-remove [] i x is = absurd cc
insert-remove (y ∷ xs) zero x is = let same : x ≡ y = cc in ap (λ z. z ∷ xs) same
insert-remove (y ∷ xs) (suc i) x is = ap (λ zs. y ∷ zs) (insert-remove xs i x is)

pub remove-last : {T : Type 0} (xs : List T) (x : T) → remove (xs ++ x ∷ []) (length xs) ≡ xs
remove-last xs x =
    ap (λ zs. remove zs (length xs)) (sym (insert_end xs x)) ∙ remove-insert xs (length xs) x (omega arith)

-- an item that is read and copied is the one that stands there
pub copied-item : {T : Type 0} (xs : List T) (i : ℕ) (taken read twin : T) → slice_get xs i ≡ Some taken
    → read ≡ get_or xs i read → twin ≡ read → slice_get xs i ≡ Some twin
copied-item xs i taken read twin there is same =
    there ∙ ap Some (sym (get_or_from_slice_get xs i taken read there) ∙ sym is ∙ sym same)

-- Journals ---------------------------------------------------------------------------------------------

pub undone-push : {T : Type 0} (steps : List (Step T)) (step : Step T) (now : Held T)
    → undone (steps ++ step ∷ []) now ≡ undone steps (undo_step step now)
undone-push [] step now = refl
undone-push (first ∷ steps) step now = ap (undo_step first) (undone-push steps step now)

pub can-push : {T : Type 0} (steps : List (Step T)) (step : Step T) (now : Held T)
    → CanUndo steps (undo_step step now) → CanUndoStep step now → CanUndo (steps ++ step ∷ []) now
can-push [] step now can here = (tt, here)
can-push (first ∷ steps) step now can here = (
  can-push steps step now can.0 here,
  subst (CanUndoStep first) (sym (undone-push steps step now)) can.1,
)

pub can-last : {T : Type 0} (steps : List (Step T)) (step : Step T) (now : Held T)
    → CanUndo (steps ++ step ∷ []) now → CanUndo steps (undo_step step now) × CanUndoStep step now
can-last [] step now can = (tt, can.1)
can-last (first ∷ steps) step now can =
    let rest = can-last steps step now can.0 in
    ((rest.0, subst (CanUndoStep first) (undone-push steps step now) can.1), rest.1)

more-step : {T : Type 0} (step : Step T) (old new : Held T) → HasMore old new
    → HasMore (undo_step step old) (undo_step step new)
more-step (Inserted place) old new more = record {
  items = ap (λ xs. remove xs place) more.items;
  capacity = more.capacity;
}
more-step (Removed place item) old new more = record {
  items = ap (λ xs. insert xs place item) more.items;
  capacity = more.capacity;
}
more-step (Cleared kept) old new more = record { items = refl; capacity = omega arith }

pub more-undone : {T : Type 0} (steps : List (Step T)) (old new : Held T) → HasMore old new
    → HasMore (undone steps old) (undone steps new)
more-undone [] old new more = more
more-undone (step ∷ steps) old new more =
    more-step step (undone steps old) (undone steps new) (more-undone steps old new more)

can-more-step : {T : Type 0} (step : Step T) (old new : Held T) → HasMore old new → CanUndoStep step old
    → CanUndoStep step new
can-more-step (Inserted place) old new more can = subst (λ (xs : List _). place < length xs) (sym more.items) can
can-more-step (Removed place item) old new more can =
    let same : length new.items ≡ length old.items = ap length more.items in
    let le : old.capacity ≤ new.capacity = more.capacity in
    (omega (arith, can.0), omega (arith, can.1))
can-more-step (Cleared kept) old new more can = tt

pub can-more : {T : Type 0} (steps : List (Step T)) (old new : Held T) → HasMore old new → CanUndo steps old
    → CanUndo steps new
can-more [] old new more can = tt
can-more (step ∷ steps) old new more can = (
  can-more steps old new more can.0,
  can-more-step step (undone steps old) (undone steps new) (more-undone steps old new more) can.1,
)

-- Changes ----------------------------------------------------------------------------------------------

-- a journal leads from new to what another led to from old
pub record Leads {T : Type 0} (steps : List (Step T)) (old : Held T) (steps' : List (Step T)) (new : Held T) : Type 0 where
  pub can : CanUndo steps' new
  pub base : (undone steps' new).items ≡ (undone steps old).items

-- nothing was changed, but there may be more memory
pub leads-stays : {T : Type 0} (steps : List (Step T)) (old new : Held T) → CanUndo steps old → HasMore old new
    → Leads steps old steps new
leads-stays steps old new can more = record {
  can = can-more steps old new more can;
  base = (more-undone steps old new more).items;
}

-- a step more, which leads back to the items before
pub leads-step : {T : Type 0} (steps : List (Step T)) (old : Held T) (step : Step T) (new : Held T)
    → CanUndo steps old → CanUndoStep step new → HasMore old (undo_step step new)
    → Leads steps old (steps ++ step ∷ []) new
leads-step steps old step new can here more =
    let back = leads-stays steps old (undo_step step new) can more in
    record {
      can = can-push steps step new back.can here;
      base = ap (λ (h : Held _). h.items) (undone-push steps step new) ∙ back.base;
    }

-- the latest step
pub step-last : {T : Type 0} (all steps : List (Step T)) (step : Step T) (now : Held T) → CanUndo all now
    → all ≡ steps ++ step ∷ [] → CanUndoStep step now
step-last all steps step now can is =
    (can-last steps step now (subst (λ (each : List (Step _)). CanUndo each now) is can)).1

-- and after it was undone
pub leads-last : {T : Type 0} (first all steps : List (Step T)) (step : Step T) (begun now after : Held T)
    → Leads first begun all now → all ≡ steps ++ step ∷ [] → HasMore (undo_step step now) after
    → Leads first begun steps after
leads-last first all steps step begun now after leads is more =
    let rest = can-last steps step now (subst (λ (each : List (Step _)). CanUndo each now) is leads.can) in
    let back = leads-stays steps (undo_step step now) after rest.0 more in
    record {
      can = back.can;
      base =
          back.base ∙ ap (λ (h : Held _). h.items) (sym (undone-push steps step now))
          ∙ ap (λ (each : List (Step _)). (undone each now).items) (sym is) ∙ leads.base;
    }

-- an item was put in
pub leads-insert : {T : Type 0} (steps later steps' : List (Step T)) (old new : List T) (a b place : ℕ) (item : T)
    → CanUndo steps (held old a) → place ≤ length old → new ≡ insert old place item → a ≤ b → later ≡ steps
    → steps' ≡ later ++ Inserted place ∷ [] → Leads steps (held old a) steps' (held new b)
leads-insert {T = T} steps later steps' old new a b place item can within is more same grows =
    let long : length new ≡ length old + 1 = ap length is ∙ length-insert old place item within in
    subst (λ (all : List (Step T)). Leads steps (held old a) all (held new b))
    (sym (grows ∙ ap (λ (all : List (Step T)). all ++ Inserted place ∷ []) same))
    (leads-step steps (held old a) (Inserted place) (held new b) can (omega arith)
    (record { items = ap (λ (xs : List T). remove xs place) is ∙ remove-insert old place item within; capacity = more }))

-- an item was taken out
pub leads-remove : {T : Type 0} (steps steps' : List (Step T)) (old new : List T) (a b place : ℕ) (item : T)
    → CanUndo steps (held old a) → slice_get old place ≡ Some item → length old ≤ a → new ≡ remove old place → b ≡ a
    → steps' ≡ steps ++ Removed place item ∷ [] → Leads steps (held old a) steps' (held new b)
leads-remove {T = T} steps steps' old new a b place item can there fits is same grows =
    let within : place < length old = slice_get_within old place item there in
    let long : length new + 1 ≡ length old = ap (λ (xs : List T). length xs + 1) is ∙ length-remove old place within in
    subst (λ (all : List (Step T)). Leads steps (held old a) all (held new b)) (sym grows)
    (leads-step steps (held old a) (Removed place item) (held new b) can (omega arith, omega arith) (record {
      items = ap (λ (xs : List T). insert xs place item) is ∙ insert-remove old place item there;
      capacity = omega arith;
    }))

-- nothing was put in or taken out
pub leads-kept : {T : Type 0} (steps later : List (Step T)) (old new : List T) (a b : ℕ)
    → CanUndo steps (held old a) → later ≡ steps → new ≡ old → a ≤ b → Leads steps (held old a) later (held new b)
leads-kept {T = T} steps later old new a b can same is more =
    subst (λ (all : List (Step T)). Leads steps (held old a) all (held new b)) (sym same)
    (leads-stays steps (held old a) (held new b) can (record { items = is; capacity = more }))

-- an item was put in behind all others
pub leads-push : {T : Type 0} (steps later steps' : List (Step T)) (old new : List T) (a b place : ℕ) (item : T)
    → CanUndo steps (held old a) → place ≡ length old → new ≡ old ++ item ∷ [] → a ≤ b → later ≡ steps
    → steps' ≡ later ++ Inserted place ∷ [] → Leads steps (held old a) steps' (held new b)
leads-push {T = T} steps later steps' old new a b place item can at is more same grows =
    leads-insert steps later steps' old new a b place item can (omega arith)
    (is ∙ sym (insert_end old item) ∙ ap (λ i. insert old i item) (sym at)) more same grows

-- all items were taken out
pub leads-clear : {T : Type 0} (steps later steps' : List (Step T)) (old kept : VecDeque T Global) (new : List T) (b : ℕ)
    → CanUndo steps (held old.items (deque_capacity old)) → later ≡ steps → steps' ≡ later ++ Cleared kept ∷ []
    → kept ≡ old → Leads steps (held old.items (deque_capacity old)) steps' (held new b)
leads-clear {T = T} steps later steps' old kept new b can same grows is =
    let begun = held old.items (deque_capacity old) in
    subst (λ (all : List (Step T)). Leads steps begun all (held new b))
    (sym (grows ∙ ap (λ (all : List (Step T)). all ++ Cleared kept ∷ []) same))
    (leads-step steps begun (Cleared kept) (held new b) can tt (record {
      items = ap (λ (d : VecDeque T Global). d.items) is;
      capacity = let same' : deque_capacity kept ≡ deque_capacity old = ap deque_capacity is in omega arith;
    }))
