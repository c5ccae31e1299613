-- When a log is what its ops come to.
use Rattle.std.proofs.Common.{◌≡◌, ◌<◌, ◌≤◌, Bool, true, false, Option, Some, None, refl, sym, ap, subst, ◌∙◌, arith}
use Rattle.std.specs.Bool.{Decides}
use Rattle.std.proofs.lemmas.Bool.{false≢true}
use Rattle.qq_log.specs.Log.{LogState}
use Rattle.qq_log.specs.Stable.{Stable, known_entries}
use Rattle.qq_raft_core.specs.Undone.{Held, stable_of}
use Rattle.qq_raft_model.proofs.Handing.{known-all}
use Rattle.qq_group.specs.Restarts.{Holds, IsIntact, IsIntactAt}
use Rattle.qq_group.specs.declared.seat.Seat.{Seat}

pub same-state : (a b : Held) → stable_of a ≡ stable_of b → a ≡ b
same-state a b is =
    let op : a.op ≡ b.op = ap (λ (s : Stable). s.op) is in
    let term : a.term ≡ b.term = ap (λ (s : Stable). s.term) is in
    let vote : a.vote ≡ b.vote = ap (λ (s : Stable). s.vote) is in
    let entries : a.log ≡ b.log =
    sym (known-all a.log) ∙ ap (λ (s : Stable). known_entries s.log) is ∙ known-all b.log in
    λ i. record { op = op i; term = term i; vote = vote i; log = entries i }

pub not-noticed : {Q L : Type 0} (log : L → LogState) (seat : Seat Q L) (l : LogState) → l.op < seat.noticed
    → Decides false (IsIntact log seat l)
not-noticed log seat l lt =
    (λ t. absurd (false≢true t), λ i. let le = i.0 in absurd (omega (arith, lt, le)))

pub not-handed : {Q L : Type 0} (log : L → LogState) (seat : Seat Q L) (l : LogState) → seat.handed < l.op
    → Decides false (IsIntact log seat l)
not-handed log seat l lt =
    (λ t. absurd (false≢true t), λ i. let le = i.1 in absurd (omega (arith, lt, le)))

pub by-left : {Q L : Type 0} (log : L → LogState) (seat : Seat Q L) (l : LogState) (r : Bool) → seat.noticed ≤ l.op
    → l.op ≤ seat.handed → Decides r (Holds log l seat.left) → Decides r (IsIntact log seat l)
by-left log seat l r noticed handed dec = (λ t. (noticed, handed, dec.0 t), λ i. dec.1 i.2)

-- a seat of which nothing is known
pub nothing-known : {Q L : Type 0} (log : L → LogState) (o : Option (Seat Q L)) (l : LogState) → o ≡ None
    → Decides true (IsIntactAt log o l)
nothing-known log o l none = (λ t. subst (λ (x : Option (Seat _ _)). IsIntactAt log x l) (sym none) tt, λ i. refl)

pub unknown-seat : {Q L : Type 0} (log : L → LogState) (o : Option (Seat Q L)) (seat : Seat Q L) (l : LogState)
    → o ≡ Some seat → seat.known ≡ false → Decides true (IsIntactAt log o l)
unknown-seat log o seat l is unknown = (
  λ t. subst (λ (x : Option (Seat _ _)). IsIntactAt log x l) (sym is)
      (λ known. absurd (false≢true (sym unknown ∙ known))),
  λ i. refl,
)

pub known-seat : {Q L : Type 0} (log : L → LogState) (o : Option (Seat Q L)) (seat : Seat Q L) (l : LogState) (r : Bool)
    → o ≡ Some seat → seat.known ≡ true → Decides r (IsIntact log seat l) → Decides r (IsIntactAt log o l)
known-seat log o seat l r is known dec =
    subst (λ (x : Option (Seat _ _)). Decides r (IsIntactAt log x l)) (sym is)
    (λ t. λ k. dec.0 t, λ i. dec.1 (i known))
