-- Each step of a pass keeps the rule of the inbox, and what it tells.
use Rattle.std.proofs.Common.{◌≡◌, ◌⊎◌, ℕ, true, false, List, [], ◌∷◌, ◌++◌, length, set, sym, refl, ap, ◌∙◌, subst, inl, inr, ⊎_elim, append_assoc, append-nil, length-append, arith}
use Rattle.crossbeam_queue.specs.Fifo.{Pushes, Pops, Forks, Merges, Learns}
use Rattle.qq_base.specs.declared.ids.QueueId.{QueueId}
use Rattle.qq_log.specs.declared.op.Op.{Op}
use Rattle.qq_log.specs.Carries.{Carries}
use Rattle.qq_inbox.specs.declared.pass.PassView.{PassView}
use Rattle.qq_inbox.specs.HandOver.{MayCome, InOrder, pass_view, first_view, spent_view, with_offered, with_taken, left_view, given_view, joined_view, HandedOver, Tells, Begins}
use Rattle.qq_inbox.proofs.Rights.{chosen, held, held_alone, held_changed, held_kept, held_beside, held_moved, held_joined}

-- where a list with an item more is cut, the item behind the cut is the new one, or the cut is in the list
pub snoc_split : {A : Type 0} (xs : List A) (y : A) (front : List A) (x : A) (back : List A)
    → xs ++ y ∷ [] ≡ front ++ x ∷ back
    → ((xs ≡ front) × (y ≡ x)) ⊎ ((rest : List A) × (xs ≡ front ++ x ∷ rest))
snoc_split [] y [] x back e = let here : y ≡ x = cc in inl (refl, here)
snoc_split {A = A} [] y (f ∷ front) x back e =
    let tail : [] ≡ front ++ x ∷ back = cc in
    absurd (omega (arith, ap length tail, length-append front (x ∷ back)))
snoc_split (z ∷ xs) y [] x back e = let here : z ≡ x = cc in inr (xs, ap (λ h. h ∷ xs) here)
snoc_split {A = A} (z ∷ xs) y (f ∷ front) x back e =
    let head : z ≡ f = cc in
    let tail : xs ++ y ∷ [] ≡ front ++ x ∷ back = cc in
    ⊎_elim (λ t. inl ((λ i. head i ∷ t.0 i), t.1)) (λ t. inr (t.0, λ i. head i ∷ t.1 i))
    (snoc_split xs y front x back tail)

pub in_order_none : (queues : List QueueId) (carries : Carries) → InOrder queues carries []
in_order_none queues carries front op back e = absurd (omega (arith, ap length e, length-append front (op ∷ back)))

pub in_order_more : (queues : List QueueId) (carries : Carries) (ops : List Op) (op : Op)
    → InOrder queues carries ops → MayCome queues carries ops op → InOrder queues carries (ops ++ op ∷ [])
in_order_more queues carries ops op order may front x back e =
    ⊎_elim (λ t. subst (λ (p : List Op × Op). MayCome queues carries p.0 p.1) (λ i. (t.0 i, t.1 i)) may)
    (λ t. order front x t.0 t.1)
    (snoc_split ops op front x back e)

-- ---- the steps

pub begins : (queues : List QueueId) (carries : Carries) → HandedOver queues carries [] (first_view ∷ [])
begins queues carries = (
  [],
  [],
  refl,
  in_order_none queues carries,
  held_alone (λ (v : PassView). v.offers) (λ (v : PassView). v.offered) first_view,
  held_alone (λ (v : PassView). v.takes) (λ (v : PassView). v.taken) first_view,
)

pub offers : (queues : List QueueId) (carries : Carries) (n pass : ℕ) (v : PassView) (op : Op) → v.offers ≡ true
    → MayCome queues carries v.offered op
    → Pushes (HandedOver queues carries) n pass v op (λ w. w ≡ with_offered v op)
offers queues carries n pass v op right may items views room h at =
    let w = with_offered v op in
    let all : v.offered ≡ h.0 =
    held (λ (u : PassView). u.offers) (λ (u : PassView). u.offered) views pass v h.0 h.4 at right in (
      w,
      (
        h.0 ++ op ∷ [],
        h.1,
        ap (λ (l : List Op). l ++ op ∷ []) h.2 ∙ append_assoc h.1 items (op ∷ []),
        in_order_more queues carries h.0 op h.3 (subst (λ (l : List Op). MayCome queues carries l op) all may),
        held_changed (λ (u : PassView). u.offers) (λ (u : PassView). u.offered) views pass v w h.0 (h.0 ++ op ∷ []) h.4
            at right (ap (λ (l : List Op). l ++ op ∷ []) all),
        held_kept (λ (u : PassView). u.takes) (λ (u : PassView). u.taken) views pass v w h.1 h.5 at
            (λ own. (own, refl)),
      ),
      refl,
    )

pub takes : (queues : List QueueId) (carries : Carries) (pass : ℕ) (v : PassView) → v.takes ≡ true
    → Pops (HandedOver queues carries) pass v (λ op w. (w ≡ with_taken v op) × MayCome queues carries v.taken op)
takes queues carries pass v right op items views h at =
    let w = with_taken v op in
    let all : v.taken ≡ h.1 =
    held (λ (u : PassView). u.takes) (λ (u : PassView). u.taken) views pass v h.1 h.5 at right in (
      w,
      (
        h.0,
        h.1 ++ op ∷ [],
        h.2 ∙ sym (append_assoc h.1 (op ∷ []) items),
        h.3,
        held_kept (λ (u : PassView). u.offers) (λ (u : PassView). u.offered) views pass v w h.0 h.4 at
            (λ own. (own, refl)),
        held_changed (λ (u : PassView). u.takes) (λ (u : PassView). u.taken) views pass v w h.1 (h.1 ++ op ∷ []) h.5 at
            right (ap (λ (l : List Op). l ++ op ∷ []) all),
      ),
      (refl, subst (λ (l : List Op). MayCome queues carries l op) (sym all) (h.3 h.1 op items h.2)),
    )

pub splits : (queues : List QueueId) (carries : Carries) (pass : ℕ) (v : PassView)
    → Forks (HandedOver queues carries) pass v (left_view v) (given_view v)
splits queues carries pass v items views h at = (
  h.0,
  h.1,
  h.2,
  h.3,
  held_beside (λ (u : PassView). u.offers) (λ (u : PassView). u.offered) (set views pass (left_view v)) (given_view v)
      h.0
      (held_kept (λ (u : PassView). u.offers) (λ (u : PassView). u.offered) views pass v (left_view v) h.0 h.4 at
      (λ own. (own, refl))) refl,
  held_moved (λ (u : PassView). u.takes) (λ (u : PassView). u.taken) views pass v (left_view v) (given_view v) h.1 h.5
      at refl (λ own. (own, refl)),
)

pub joins : (queues : List QueueId) (carries : Carries) (pass : ℕ) (v : PassView) (other : ℕ) (u : PassView)
    → Merges (HandedOver queues carries) pass v other u (joined_view v u) spent_view
joins queues carries pass v other u items views h at apart at_other = (
  h.0,
  h.1,
  h.2,
  h.3,
  held_joined (λ (u : PassView). u.offers) (λ (u : PassView). u.offered) views pass other v u (joined_view v u)
      spent_view h.0 h.4 at apart at_other (chosen v.offers u.offers v.offered u.offered) refl,
  held_joined (λ (u : PassView). u.takes) (λ (u : PassView). u.taken) views pass other v u (joined_view v u) spent_view
      h.1 h.5 at apart at_other (chosen v.takes u.takes v.taken u.taken) refl,
)

-- ---- what is learned

pub tells : (queues : List QueueId) (carries : Carries) (pass : ℕ) (v : PassView)
    → Learns (HandedOver queues carries) pass v (Tells v)
tells queues carries pass v items views h at =
    let offered = held (λ (u : PassView). u.offers) (λ (u : PassView). u.offered) views pass v h.0 h.4 at in
    let taken = held (λ (u : PassView). u.takes) (λ (u : PassView). u.taken) views pass v h.1 h.5 at in (
      λ offers. (h.1, offered offers ∙ h.2),
      λ offers takes. offered offers ∙ (h.2 ∙ ap (λ (l : List Op). l ++ items) (sym (taken takes))),
    )

none_left : (items : List Op) → length items ≡ 0 → items ≡ []
none_left [] e = refl
none_left (x ∷ xs) e = absurd (omega arith)

-- ---- what a join tells of two threads

-- of as many, what was taken is what was offered
pub all_taken : (v u w : PassView) (offered taken : List Op) → w ≡ joined_view v u → v ≡ pass_view true false offered []
    → u ≡ pass_view false true [] taken → Begins w → length taken ≡ length offered → taken ≡ offered
all_taken v u w offered taken joined left right begins same =
    let is : w ≡ pass_view true true offered taken = joined ∙ (λ i. joined_view (left i) (right i)) in
    let told : Begins (pass_view true true offered taken) = subst Begins is begins in
    let rest = told refl refl in
    let none : rest.0 ≡ [] = none_left rest.0 (omega (arith, ap length rest.1, length-append taken rest.0)) in
    sym (append-nil taken) ∙ (ap (λ (l : List Op). taken ++ l) (sym none) ∙ rest.1)

-- and the joined pass knows all of it as offered and as taken
pub all_joined : (v u w : PassView) (offered taken : List Op) → w ≡ joined_view v u → v ≡ pass_view true false offered []
    → u ≡ pass_view false true [] taken → Begins w → length taken ≡ length offered
    → w ≡ pass_view true true offered offered
all_joined v u w offered taken joined left right begins same =
    let all = all_taken v u w offered taken joined left right begins same in
    joined ∙ ((λ i. joined_view (left i) (right i)) ∙ ap (pass_view true true offered) all)
