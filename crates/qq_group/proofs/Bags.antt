-- What is put into a bag, and what a server has left of it.
use Rattle.std.proofs.Common.{◌≡◌, ℕ, ◌+◌, ◌<◌, List, [], ◌∷◌, ◌++◌, length, drop, Some, sym, ap, subst, ◌∙◌, append_assoc, arith}
use Rattle.std.specs.Prelude.{All, slice_get}
use Rattle.std.proofs.lemmas.List.Elements.{All-push}
use Rattle.std.proofs.lemmas.Option.{none-some}
use Rattle.qq_base.specs.Causes.{SpentOnlyWhere}
use Rattle.qq_base.specs.Fronts.{IsFront}
use Rattle.qq_base.proofs.Fronts.{front-trans}
use Rattle.qq_base.specs.declared.memory.Memory.{Memory}
use Rattle.qq_base.specs.declared.memory.Memory.TheVariants.{Want, Spent}
use Rattle.qq_raft_msg.specs.declared.bag.TheConstants.{BAG_LIMIT}
use Rattle.qq_raft_msg.specs.declared.rpc.Rpc.{Rpc}
use Rattle.qq_raft.specs.declared.server.Server.{Server}

pub all-more : {A : Type 0} (P : A → Type 0) (old new : List A) (x : A) → new ≡ old ++ x ∷ [] → All P old → P x
    → All P new
all-more P old new x is all here = subst (All P) (sym is) (All-push P old x all here)

pub front-one : {A : Type 0} (first old new : List A) (x : A) → IsFront first old → new ≡ old ++ x ∷ []
    → IsFront first new
front-one first old new x front is = front-trans front (record { rest = x ∷ []; is = is })

first-is : {A : Type 0} (xs : List A) (x : A) → Some x ≡ slice_get xs 0 → xs ≡ x ∷ drop 1 xs
first-is [] x is = absurd (none-some x (sym is))
first-is (y ∷ xs) x is = ap (λ z. z ∷ xs) (grind (arith, is))

-- the first message goes from the server into the bag
pub moved : (bag now out left all : List Rpc) (rpc : Rpc) → now ≡ bag ++ rpc ∷ [] → Some rpc ≡ slice_get out 0
    → left ≡ drop 1 out → bag ++ out ≡ all → now ++ left ≡ all
moved bag now out left all rpc put first rest is =
    ap (λ (l : List Rpc). l ++ left) put ∙ append_assoc bag (rpc ∷ []) left
    ∙ ap (λ (l : List Rpc). bag ++ rpc ∷ l) rest ∙ ap (λ (l : List Rpc). bag ++ l) (sym (first-is out rpc first)) ∙ is

-- nothing but its messages has changed
pub out-again : {Q L : Type 0} (first old new : Server Q L)
    → old ≡ record first { raft = record first.raft { out = old.raft.out } }
    → new ≡ record old { raft = record old.raft { out = new.raft.out } }
    → new ≡ record first { raft = record first.raft { out = new.raft.out } }
out-again first old new was rest =
    rest ∙ ap (λ (s : Server _ _). record s { raft = record s.raft { out = new.raft.out } }) was

-- a bag is full while a message is left
pub full-with : (e : Memory) (bag out : List Rpc) (rpc : Rpc) (n : ℕ) → Some rpc ≡ slice_get out 0
    → length bag + length out ≡ n → SpentOnlyWhere e BAG_LIMIT (length bag ≡ BAG_LIMIT)
    → SpentOnlyWhere e BAG_LIMIT (BAG_LIMIT < n)
full-with Want bag out rpc n first count cause = tt
full-with (Spent number) bag out rpc n first count cause =
    (cause.0, omega (arith, cause.1, count, ap length (first-is out rpc first)))
