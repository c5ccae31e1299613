-- No command is given in a round.
use Rattle.std.proofs.Common.{◌≡◌, ℕ, zero, suc, Bool, true, false, cond, List, [], ◌∷◌, ◌++◌, length, refl, sym, ap, ◌∙◌, subst, append_assoc}
use Rattle.std.specs.Prelude.{replicate}
use Rattle.std.specs.List.{AllByRecursion}
use Rattle.qq_base.proofs.Lists.{AllByRecursion-append}
use Rattle.qq_raft_model.specs.Group.{Event as Move}
use Rattle.qq_raft_model.specs.Group.Event.{Take}
use Rattle.qq_cluster_model.specs.Laws.{all_moves}
use Rattle.qq_cluster_model.specs.Queue.{Queue, Event, Delivers, Notices, Syncs, Writes, after, happens, moves, waiting}
use Rattle.qq_cluster_model.specs.Rules.{waits_noticed}
use Rattle.qq_cluster_progress_laws.specs.Alone.{round_alone, turn, turn_where, turns}
use Rattle.qq_cluster_progress_laws.proofs.Earlier.{IsSilent}

-- ---- moves

moves-append : (q : Queue) (first second : List Event)
    → all_moves q (first ++ second) ≡ all_moves q first ++ all_moves (after q first) second
moves-append q [] second = refl
moves-append q (event ∷ first) second =
    ap (λ (l : List Move). moves q event ++ l) (moves-append (happens q event) first second)
    ∙ sym (append_assoc (moves q event) (all_moves (happens q event) first)
    (all_moves (after (happens q event) first) second))

all-both : {A : Type 0} (P : A → Type 0) (xs ys : List A) → AllByRecursion P (xs ++ ys)
    → AllByRecursion P xs × AllByRecursion P ys
all-both P [] ys all = (tt, all)
all-both P (x ∷ xs) ys all = (let both = all-both P xs ys all.1 in ((all.0, both.0), both.1))

abbrev pub AreSilent : Queue → List Event → Type 0
AreSilent q events = AllByRecursion IsSilent (all_moves q events)

pub silent-then : (q : Queue) (first second : List Event) → AreSilent q first → AreSilent (after q first) second
    → AreSilent q (first ++ second)
silent-then q first second a b =
    subst (AllByRecursion IsSilent) (sym (moves-append q first second))
    (AllByRecursion-append IsSilent (all_moves q first) (all_moves (after q first) second) a b)

silent-takes : (j n : ℕ) → AllByRecursion IsSilent (replicate n (Take j))
silent-takes j zero = tt
silent-takes j (suc n) = (tt, silent-takes j n)

silent-turn : (j : ℕ) (q : Queue) → AreSilent q (turn j q)
silent-turn j q =
    AllByRecursion-append IsSilent (moves q (Writes j)) _ (silent-takes j (waiting j q.group))
    (by (waits_noticed j (happens (happens q (Writes j)) (Syncs j))))
  where
    by : (b : Bool) → AreSilent (happens (happens q (Writes j)) (Syncs j)) (cond b (Notices j ∷ []) [])
    by true = (tt, tt)
    by false = tt

silent-where : (b : Bool) (j : ℕ) (q : Queue) → AreSilent q (turn_where b j q)
silent-where true j q = silent-turn j q
silent-where false j q = tt

silent-turns : (up : ℕ → Bool) (nodes : List ℕ) (q : Queue) → AreSilent q (turns up nodes q)
silent-turns up [] q = tt
silent-turns up (j ∷ nodes) q =
    silent-then q (turn_where (up j) j q) (turns up nodes (after q (turn_where (up j) j q))) (silent-where (up j) j q)
    (silent-turns up nodes (after q (turn_where (up j) j q)))

silent-delivers : (n : ℕ) (q : Queue) → AreSilent q (replicate n (Delivers 0))
silent-delivers zero q = tt
silent-delivers (suc n) q = (tt, silent-delivers n (happens q (Delivers 0)))

pub silent-round : (up : ℕ → Bool) (nodes : List ℕ) (q : Queue) → AreSilent q (round_alone up nodes q)
silent-round up nodes q =
    silent-then q (turns up nodes q) (replicate (length (after q (turns up nodes q)).group.bag) (Delivers 0))
    (silent-turns up nodes q) (silent-delivers (length (after q (turns up nodes q)).group.bag) (after q (turns up nodes q)))

pub silent-front : (q : Queue) (first second : List Event) → AreSilent q (first ++ second) → AreSilent q first
silent-front q [] second all = tt
silent-front q (event ∷ first) second all =
    let both = all-both IsSilent (moves q event) (all_moves (happens q event) (first ++ second)) all in
    AllByRecursion-append IsSilent (moves q event) (all_moves (happens q event) first) both.0
    (silent-front (happens q event) first second both.1)
