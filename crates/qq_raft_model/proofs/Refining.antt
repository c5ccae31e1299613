-- What a server does in parts, each of which is a list of moves.
use Rattle.std.proofs.Common.{◌≡◌, ◌⊎◌, ℕ, ◌≤◌, ltb, List, [], ◌∷◌, ◌++◌, length, take, Option, None, refl, sym, subst, ◌∙◌, arith, inl}
use Rattle.std.proofs.lemmas.Bool.{cond_both, ltb-true}
use Rattle.std.proofs.lemmas.List.{append-nil, take_all}
use Rattle.std.specs.Prelude.{option_map}
use Rattle.qq_base.specs.declared.ids.NodeId.{NodeId}
use Rattle.qq_base.specs.declared.ids.Term.{Term}
use Rattle.qq_entry.specs.declared.command.Entry.{Entry}
use Rattle.qq_raft_protocol.specs.Moves.{Move, MayWrite, AreAllowed, after, run}
use Rattle.qq_raft_protocol.specs.Moves.Move.{Write, Follow}
use Rattle.qq_raft_protocol.specs.World.{Lane, World}
use Rattle.qq_raft_msg.specs.declared.rpc.Rpc.{Rpc}
use Rattle.qq_raft_model.specs.State.{Server, last, change, follow, enter, say}
use Rattle.qq_raft_model.specs.Refines.{number, AreQuiet, IsSaid, Stands, OnlyMoves, Refines}
use Rattle.qq_raft_model.proofs.Later.{only-refl, only-trans}
use Rattle.qq_raft_model.proofs.Moving.{say-stands, write-only, write-stands, follow-only, follow-stands}

pub run-append : (w : World) (xs ys : List Move) → run w (xs ++ ys) ≡ run (run w xs) ys
run-append w [] ys = refl
run-append w (x ∷ xs) ys = run-append (after w x) xs ys

pub allowed-append : (members : List ℕ) (w : World) (xs ys : List Move) → AreAllowed members w xs
    → AreAllowed members (run w xs) ys → AreAllowed members w (xs ++ ys)
allowed-append members w [] ys first second = second
allowed-append members w (x ∷ xs) ys first second =
    (first.0, allowed-append members (after w x) xs ys first.1 second)

pub quiet-append : (xs ys : List Move) → AreQuiet xs → AreQuiet ys → AreQuiet (xs ++ ys)
quiet-append [] ys first second = second
quiet-append (x ∷ xs) ys first second = (first.0, quiet-append xs ys first.1 second)

pub refines-refl : {members : List ℕ} {w : World} {k : ℕ} {s : Server} → Stands w k s → Refines members w k s
refines-refl {w = w} {k = k} st = record { moves = []; allowed = tt; quiet = tt; stands = st; only = only-refl k w }

-- what leads on from the world that moves lead to
pub refines-also : {members : List ℕ} {w : World} {k : ℕ} {s t : Server} (first : Refines members w k s)
    → Refines members (run w first.moves) k t → Refines members w k t
refines-also {members = members} {w = w} {k = k} {t = t} first second =
    let same = run-append w first.moves second.moves in
    record {
      moves = first.moves ++ second.moves;
      allowed = allowed-append members w first.moves second.moves first.allowed second.allowed;
      quiet = quiet-append first.moves second.moves first.quiet second.quiet;
      stands = subst (λ x. Stands x k t) (sym same) second.stands;
      only = subst (OnlyMoves k w) (sym same) (only-trans first.only second.only);
    }

-- one thing after another
pub refines-then : {members : List ℕ} {w : World} {k : ℕ} {s t : Server} → Refines members w k s
    → ((v : World) → Stands v k s → OnlyMoves k w v → Refines members v k t) → Refines members w k t
refines-then {w = w} first next = refines-also first (next (run w first.moves) first.stands first.only)

pub refines-say : {members : List ℕ} {w : World} {k : ℕ} {s : Server} (r : Rpc) → Stands w k s → IsSaid w k s.op r
    → Refines members w k (say r s)
refines-say r st said = refines-refl (say-stands r st said)

-- ---- a change without entries

pub kept_log : (log : List Entry) → take (length log) log ++ [] ≡ log
kept_log log = append-nil (take (length log) log) ∙ take_all (length log) log (omega arith)

pub refines-change : {members : List ℕ} {w : World} {k : ℕ} {s : Server} (leader : Option NodeId) (term : Term)
    (vote : Option NodeId) → Stands w k s → s.term.0 ≤ term.0
    → (s.term.0 ≡ term.0 → (option_map number s.vote ≡ option_map number vote) ⊎ (option_map number s.vote ≡ None))
    → Refines members w k (follow leader (change term vote (last s) [] s))
refines-change {members} {w} {k} {s} leader term vote st le stays =
    let log = take (last s) s.log ++ [] in
    let may : MayWrite w (w.member k).mine term.0 (option_map number vote) log =
    subst (λ (l : Lane). MayWrite w l term.0 (option_map number vote) log) (sym st.lane)
    (record { term_rises = le; vote_stays = stays; log_is = inl (kept_log s.log) }) in
    record {
      moves = Write k term.0 (option_map number vote) log ∷ [];
      allowed = (may, tt);
      quiet = (tt, tt);
      stands = write-stands leader term vote (last s) [] st;
      only = write-only w k term.0 (option_map number vote) log;
    }

pub refines-enter : {members : List ℕ} {w : World} {k : ℕ} {s : Server} (term : Term) → Stands w k s
    → Refines members w k (enter term s)
unfolding enter
refines-enter {members} {w} {k} {s} term st =
    cond_both (ltb s.term.0 term.0) (follow None (change term None (last s) [] s)) s (Refines members w k)
    (λ e.
    let lt = ltb-true s.term.0 term.0 e in
    refines-change None term None st (omega (arith, lt)) (λ same. absurd (omega (arith, lt, same))))
    (λ _. refines-refl st)

pub refines-follow : {members : List ℕ} {w : World} {k : ℕ} {s : Server} (leader : Option NodeId) → Stands w k s
    → Refines members w k (follow leader s)
refines-follow {w = w} {k = k} leader st =
    record {
      moves = Follow k ∷ [];
      allowed = (tt, tt);
      quiet = (tt, tt);
      stands = follow-stands leader st;
      only = follow-only w k;
    }
