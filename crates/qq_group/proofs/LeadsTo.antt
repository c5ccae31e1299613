-- What the undos of a server lead back to, as its changes go on.
use Rattle.std.proofs.Common.{append_assoc, ◌≡◌, ◌⊎◌, inl, inr, ℕ, ◌+◌, ◌-◌, ◌<◌, ◌≤◌, List, [], ◌∷◌, ◌++◌, length, take, drop, Some, sym, ap, subst, ◌∙◌, arith}
use Rattle.std.proofs.lemmas.Bool.{cases_lt}
use Rattle.std.proofs.lemmas.List.{drop-append-le, drop-drop, drop_all, length-append, length-drop, length-take, take-append-le, take_all}
use Rattle.qq_log.specs.Stable.{Stable, stable}
use Rattle.qq_log.specs.declared.op.Op.{Op}
use Rattle.qq_raft_core.specs.Undone.{Held, held_after, stable_of, undone}
use Rattle.qq_raft_core.specs.declared.undo.Undo.{Undo}
use Rattle.qq_raft_core.proofs.Undoing.{Led, none-undone, undone-apart}
use Rattle.qq_raft_model.proofs.Handing.{comes-to}
use Rattle.qq_raft_model.specs.Handing.{Continues}
use Rattle.qq_raft_model.specs.State.{Server}
use Rattle.qq_group.specs.Group.{HasMade, LeadsTo}

-- after a call
pub leads-after : (noticed : ℕ) (ops : List Op) (us vs : List Undo) (h k : Held) → length ops ≤ h.op → Led us vs h k
    → LeadsTo noticed ops us h → LeadsTo noticed ops vs k
leads-after noticed ops us vs h k count led leads = λ n from to.
    let d = length led.more in
    let all : length vs ≡ length us + d = ap (λ (l : List Undo). length l) led.undos ∙ length-append us led.more in
    let op = led.op in
    let place : n + length vs - k.op ≡ n + length us - h.op = omega (arith, all, op) in
    let within : n + length us - h.op ≤ length us = omega (arith, to, count) in
    leads n from to
    ∙ ap (λ (x : Held). Some (stable_of x))
    (sym (
    ap (λ (m : ℕ). undone (drop m vs) k) place
    ∙ ap (λ (l : List Undo). undone (drop (n + length us - h.op) l) k) led.undos
    ∙ ap (λ (l : List Undo). undone l k) (drop-append-le (n + length us - h.op) us led.more within)
    ∙ undone-apart (drop (n + length us - h.op) us) led.more k
    ∙ ap (undone (drop (n + length us - h.op) us)) led.held))

-- nothing is undone after the last change
last-held : (us : List Undo) (h : Held) (n : ℕ) → n ≡ h.op → held_after n us h ≡ h
last-held us h n is =
    ap (λ (l : List Undo). undone l h) (drop_all (n + length us - h.op) us (omega (arith, is))) ∙ none-undone h

-- it has made one change more
pub leads-more : (noticed : ℕ) (ops : List Op) (op : Op) (us : List Undo) (h : Held) → h.op ≡ length ops + 1
    → stable (ops ++ op ∷ []) ≡ Some (stable_of h) → LeadsTo noticed ops us h → LeadsTo noticed (ops ++ op ∷ []) us h
leads-more noticed ops op us h count is leads = λ n from to. by n from to (cases_lt n (length ops + 1))
  where
    by : (n : ℕ) → noticed ≤ n → n ≤ length (ops ++ op ∷ []) → ((n < length ops + 1) ⊎ (length ops + 1 ≤ n))
        → stable (take n (ops ++ op ∷ [])) ≡ Some (stable_of (held_after n us h))
    by n from to (inl lt) = ap stable (take-append-le n ops (op ∷ []) (omega (arith, lt))) ∙ leads n from (omega (arith, lt))
    by n from to (inr ge) =
        let all = length-append ops (op ∷ []) in
        ap stable (take_all n (ops ++ op ∷ []) (omega (arith, all, ge)))
        ∙ is
        ∙ ap (λ (x : Held). Some (stable_of x)) (sym (last-held us h n (omega (arith, all, ge, to, count))))

-- more is noticed
pub leads-later : (noticed told : ℕ) (ops : List Op) (us : List Undo) (h : Held) → noticed ≤ told → LeadsTo noticed ops us h
    → LeadsTo told ops us h
leads-later noticed told ops us h le leads = λ n from to. leads n (omega (arith, from, le)) to

-- what led back from noticed changes is given up
pub leads-on : (told : ℕ) (ops : List Op) (us : List Undo) (h : Held) → length ops ≡ h.op
    → LeadsTo told ops us h → LeadsTo told ops (drop (length us - (h.op - told)) us) h
leads-on told ops us h count leads = λ n from to.
    let d = length us - (h.op - told) in
    let left = length-drop d us in
    let place : d + (n + length (drop d us) - h.op) ≡ n + length us - h.op = omega (arith, left, from, to, count) in
    leads n from to
    ∙ ap (λ (l : List Undo). Some (stable_of (undone l h)))
    (ap (λ (m : ℕ). drop m us) (sym place) ∙ sym (drop-drop (n + length (drop d us) - h.op) d us))

-- the ops that the log was handed are the first of them
pub leads-handed : (noticed : ℕ) (ops more : List Op) (us : List Undo) (h : Held) → LeadsTo noticed (ops ++ more) us h
    → LeadsTo noticed ops us h
leads-handed noticed ops more us h leads = λ n from to.
    let all = length-append ops more in
    sym (ap stable (take-append-le n ops more to)) ∙ leads n from (omega (arith, to, all))

-- it begins with what a log holds
pub leads-new : (ops : List Op) (h : Held) → h.op ≤ length ops → stable (take h.op ops) ≡ Some (stable_of h)
    → LeadsTo h.op (take h.op ops) [] h
leads-new ops h le is = λ n from to.
    let count = length-take h.op ops in
    let same : n ≡ h.op = omega (arith, from, to, count) in
    ap stable (take_all n (take h.op ops) (omega (arith, count, from)))
    ∙ is
    ∙ ap (λ (x : Held). Some (stable_of x)) (sym (last-held [] h n same))

-- ---- a step of a server

abbrev pub held_of : Server → Held
held_of s = record { op = s.op; term = s.term; vote = s.vote; log = s.log }

-- it makes one change at most
pub step-leads : (ops : List Op) (noticed : ℕ) (s t : Server) (us vs : List Undo) → Continues s t
    → HasMade (ops ++ s.ops) (held_of s) → Led us vs (held_of s) (held_of t)
    → LeadsTo noticed (ops ++ s.ops) us (held_of s)
    → LeadsTo noticed (ops ++ t.ops) vs (held_of t) × HasMade (ops ++ t.ops) (held_of t)
step-leads ops noticed s t us vs next made led leads =
    let count = made.count in
    let on = leads-after noticed (ops ++ s.ops) us vs (held_of s) (held_of t) (omega (arith, count)) led leads in
    let is = comes-to ops s t next made.is in
    elim next.hands [
      | inl r ↦
          (let op : t.op ≡ s.op = ap (λ (x : Stable). x.op) r.state in
          let n : length (ops ++ t.ops) ≡ length (ops ++ s.ops) = ap (λ (l : List Op). length (ops ++ l)) r.ops in (
            subst (λ (l : List Op). LeadsTo noticed (ops ++ l) vs (held_of t)) (sym r.ops) on,
            record { count = omega (arith, op, n, count); is = is },
          ))
      | inr c ↦
          (let list : ops ++ t.ops ≡ (ops ++ s.ops) ++ c.op ∷ [] =
          ap (λ (l : List Op). ops ++ l) c.ops ∙ sym (append_assoc ops s.ops (c.op ∷ [])) in
          let n : length (ops ++ t.ops) ≡ length (ops ++ s.ops) + 1 =
          ap (λ (l : List Op). length l) list ∙ length-append (ops ++ s.ops) (c.op ∷ []) in
          let op = c.next in (
            subst (λ (l : List Op). LeadsTo noticed l vs (held_of t)) (sym list)
                (leads-more noticed (ops ++ s.ops) c.op vs (held_of t) (omega (arith, op, count))
                (sym (ap stable list) ∙ is) on),
            record { count = omega (arith, op, n, count); is = is },
          ))
    ]
