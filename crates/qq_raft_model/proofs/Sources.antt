-- What entries moves add: leaders' first ones, and those that are given from outside.
use Rattle.std.proofs.Common.{◌≡◌, ◌⊎◌, ℕ, true, List, [], ◌∷◌, ◌++◌, sym, subst, inl, inr}
use Rattle.qq_entry.specs.declared.command.Entry.{Entry}
use Rattle.qq_raft_protocol.specs.Moves.{Move, AreAllowed, after, run}
use Rattle.qq_raft_protocol.specs.Moves.Move.{Append}
use Rattle.qq_raft_protocol.specs.Starts.{IsAppended}
use Rattle.qq_raft_protocol.specs.World.{Lane, World}
use Rattle.qq_raft_model.specs.Refines.{entry_of, Adds, AreQuiet, IsNoop, IsQuiet, OnlyMoves, Refines, RefinesBy, Stands}
use Rattle.qq_raft_model.specs.Server.{Input, is_ready, step}
use Rattle.qq_raft_model.specs.Server.Input.{Tick, Receive, Submit, Add, Flush, Notice}
use Rattle.qq_raft_model.specs.State.{Server}

-- a move adds a leader's first entry, or one that is so after the log
abbrev pub IsSourced : (List Entry → Entry → Type 0) → World → Move → Type 0
IsSourced S w (Append k e) = IsNoop e ⊎ S (w.member k).mine.log e
IsSourced S w _ = Unit {0}

abbrev pub AreSourced : (List Entry → Entry → Type 0) → World → List Move → Type 0
AreSourced S w [] = Unit {0}
AreSourced S w (m ∷ ms) = IsSourced S w m × AreSourced S (after w m) ms

sourced-one : (S : List Entry → Entry → Type 0) (w : World) (m : Move) → IsQuiet m → IsSourced S w m
sourced-one S w (Append k e) quiet = inl quiet
sourced-one S w _ quiet = tt

pub sourced-quiet : (S : List Entry → Entry → Type 0) (w : World) (ms : List Move) → AreQuiet ms → AreSourced S w ms
sourced-quiet S w [] quiet = tt
sourced-quiet S w (m ∷ ms) quiet = (sourced-one S w m quiet.0, sourced-quiet S (after w m) ms quiet.1)

pub sourced-append : (S : List Entry → Entry → Type 0) (w : World) (xs ys : List Move) → AreSourced S w xs
    → AreSourced S (run w xs) ys → AreSourced S w (xs ++ ys)
sourced-append S w [] ys first second = second
sourced-append S w (x ∷ xs) ys first second = (first.0, sourced-append S (after w x) xs ys first.1 second)

weaker-one : (S R : List Entry → Entry → Type 0) (w : World) (m : Move)
    → ((a : List Entry) (e : Entry) → S a e → R a e) → IsSourced S w m → IsSourced R w m
weaker-one S R w (Append k e) f is =
    elim is [ inl first ↦ inl first | inr given ↦ inr (f (w.member k).mine.log e given) ]
weaker-one S R w _ f is = tt

pub sourced-weaker : (S R : List Entry → Entry → Type 0) (w : World) (ms : List Move)
    → ((a : List Entry) (e : Entry) → S a e → R a e) → AreSourced S w ms → AreSourced R w ms
sourced-weaker S R w [] f are = tt
sourced-weaker S R w (m ∷ ms) f are = (weaker-one S R w m f are.0, sourced-weaker S R (after w m) ms f are.1)

sourced-at : (S : List Entry → Entry → Type 0) (w : World) (first : List Move) (k : ℕ) (e : Entry) (rest : List Move)
    → AreSourced S w (first ++ Append k e ∷ rest) → IsNoop e ⊎ S ((run w first).member k).mine.log e
sourced-at S w [] k e rest are = are.0
sourced-at S w (m ∷ first) k e rest are = sourced-at S (after w m) first k e rest are.1

-- where an entry comes from that moves added
pub appended-source : (S : List Entry → Entry → Type 0) (w : World) (moves : List Move) (a : List Entry) (e : Entry)
    → AreSourced S w moves → IsAppended w moves a e → IsNoop e ⊎ S a e
appended-source S w moves a e are x =
    subst (λ (log : List Entry). IsNoop e ⊎ S log e) x.log
    (sourced-at S w x.first x.node e x.rest (subst (λ (ms : List Move). AreSourced S w ms) x.is are))

-- ---- a step

pub record StepsTo (members : List ℕ) (w : World) (k : ℕ) (S : List Entry → Entry → Type 0) (s : Server)
    : Type 0 where
  pub moves : List Move
  pub allowed : AreAllowed members w moves
  pub sourced : AreSourced S w moves
  pub stands : Stands (run w moves) k s
  pub only : OnlyMoves k w (run w moves)

-- the command that a ready leader is given
abbrev pub Takes : (List Entry → Entry → Type 0) → Server → Input → Type 0
Takes S s (Submit time command) = is_ready s ≡ true → S s.log (entry_of time command s)
Takes S s (Add time command) = is_ready s ≡ true → S s.log (entry_of time command s)
Takes S s _ = Unit {0}

quiet-steps : {members : List ℕ} {w : World} {k : ℕ} {s : Server} (S : List Entry → Entry → Type 0)
    → Refines members w k s → StepsTo members w k S s
quiet-steps {w = w} S r = record {
  moves = r.moves;
  allowed = r.allowed;
  sourced = sourced-quiet S w r.moves r.quiet;
  stands = r.stands;
  only = r.only;
}

adding-steps : {members : List ℕ} {w : World} {k : ℕ} {s t : Server} (S : List Entry → Entry → Type 0) (e : Entry)
    → Stands w k s → S s.log e → Adds members w k e t → StepsTo members w k S t
adding-steps {w = w} {k = k} S e st given x = record {
  moves = Append k e ∷ x.moves;
  allowed = x.allowed;
  sourced = (
    inr (subst (λ (l : Lane). S l.log e) (sym st.lane) given),
    sourced-quiet S (after w (Append k e)) x.moves x.quiet,
  );
  stands = x.stands;
  only = x.only;
}

pub steps-by : {members : List ℕ} {w : World} {k : ℕ} {s : Server} (S : List Entry → Entry → Type 0) (input : Input)
    → Stands w k s → Takes S s input → RefinesBy members w k s input → StepsTo members w k S (step s input)
steps-by S Tick st takes r = quiet-steps S r
steps-by S (Receive rpc) st takes r = quiet-steps S r
steps-by S (Notice op) st takes r = quiet-steps S r
steps-by S Flush st takes r = quiet-steps S r
steps-by S (Submit time command) st takes (inl r) = quiet-steps S r
steps-by {s = s} S (Submit time command) st takes (inr x) = adding-steps S (entry_of time command s) st (takes x.0) x.1
steps-by S (Add time command) st takes (inl r) = quiet-steps S r
steps-by {s = s} S (Add time command) st takes (inr x) = adding-steps S (entry_of time command s) st (takes x.0) x.1
