-- A flush sends until each peer was sent the last entry.
use Rattle.std.proofs.Common.{◌≡◌, ℕ, zero, suc, ◌+◌, ◌-◌, ◌≤◌, ◌<◌, Bool, true, false, cond, ◌||◌, List, [], ◌∷◌, length, drop, refl, sym, ap, subst, ◌∙◌, arith, inl, inr}
use Rattle.std.specs.List.{list_any}
use Rattle.std.proofs.lemmas.Bool.{cond_both, cond-true, leb-false, leb-true}
use Rattle.std.proofs.lemmas.List.{length-drop}
use Rattle.qq_entry.specs.declared.command.Entry.{Entry}
use Rattle.qq_raft_protocol.specs.Facts.{In}
use Rattle.qq_raft_protocol.proofs.Lists.{In-map}
use Rattle.qq_raft_model.specs.declared.peer.Peer.{Peer}
use Rattle.qq_raft_model.specs.State.{Server, is_leader, last}
use Rattle.qq_raft_model.specs.Leading.{batch, flush, flush_within, lags, pass, send}

none-second : (a b : Bool) → (a || b) ≡ false → b ≡ false
none-second true b is = absurd cc
none-second false b is = is

none-first : (a b : Bool) → (a || b) ≡ false → a ≡ false
none-first true b is = absurd cc
none-first false b is = refl

none-of : {A : Type 0} (f : A → Bool) (xs : List A) (x : A) → list_any f xs ≡ false → In x xs → f x ≡ false
none-of f [] x none here = absurd here
none-of f (y ∷ ys) x none (inl same) = ap f same ∙ none-first (f y) (list_any f ys) none
none-of f (y ∷ ys) x none (inr later) = none-of f ys x (none-second (f y) (list_any f ys) none) later

-- a message has an entry, where one is left
batch-some : (es : List Entry) → 0 < length es → 0 < length (batch es)
batch-some [] lt = absurd (omega (arith, lt))
batch-some (e ∷ es) lt = omega arith

passes-on : (s : Server) (q : Peer) → 1 ≤ q.next → q.next ≤ last s → q.next < (pass s.log q).next
passes-on s q from le =
    let left = drop (q.next - 1) s.log in
    let some = batch-some left (omega (arith, from, le, length-drop (q.next - 1) s.log)) in
    omega (arith, some)

-- each round brings each peer nearer to the end
flushed : (n : ℕ) (s : Server) (p : Peer) → ((q : Peer) → In q s.peers → (1 ≤ q.next) × (last s < q.next + n))
    → In p (flush_within n s).peers → last s < p.next
unfolding send
flushed zero s p each here = let lt = (each p here).1 in omega (arith, lt)
flushed (suc n) s p each here =
    let picks = lags (last s) in
    let next = send picks s in
    cond_both (list_any picks s.peers) (flush_within n next) s (λ (t : Server). In p t.peers → last s < p.next)
    (λ _ own. flushed n next p (λ q there.
    let m = In-map (λ (x : Peer). cond (picks x) (pass s.log x) x) q s.peers there in
    let was = each m.item m.here in
    subst (λ (x : Peer). (1 ≤ x.next) × (last s < x.next + n)) (sym m.is)
    (cond_both (picks m.item) (pass s.log m.item) m.item (λ (x : Peer). (1 ≤ x.next) × (last s < x.next + n))
    (λ e.
    let le = leb-true m.item.next (last s) e in
    let on = passes-on s m.item was.0 le in
    (omega (arith, on), omega (arith, on, was.1)))
    (λ e.
    let lt = leb-false m.item.next (last s) e in
    (was.0, omega (arith, lt))))) own)
    (λ none own. leb-false p.next (last s) (none-of picks s.peers p none own)) here

pub all-flushed : (s : Server) (p : Peer) → is_leader s.role ≡ true → ((q : Peer) → In q s.peers → 1 ≤ q.next)
    → In p (flush s).peers → last s < p.next
unfolding flush
all-flushed s p leads each here =
    flushed (last s + 1) s p (λ q there. let le = each q there in (le, omega (arith, le)))
    (subst (λ (t : Server). In p t.peers) (cond-true (is_leader s.role) (flush_within (last s + 1) s) s leads) here)
