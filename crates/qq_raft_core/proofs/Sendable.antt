-- What a server sends has its numbers within their ends.
use Rattle.std.proofs.Common.{◌≡◌, ◌≤◌, ◌+◌, ◌-◌, ◌&&◌, ℕ, suc, zero, Bool, true, false, List, [], ◌∷◌, length, take, drop, refl, arith}
use Rattle.std.specs.Prelude.{All, min, nat_le}
use Rattle.std.specs.List.{AllByRecursion, list_all}
use Rattle.std.proofs.Math.Nat.{min-le_right}
use Rattle.std.proofs.lemmas.Bool.{cond_both, le-leb}
use Rattle.std.proofs.lemmas.List.{length-drop}
use Rattle.std.proofs.lemmas.List.Elements.{All-take, recursion_from_All}
use Rattle.qq_base.specs.declared.memory.TheConstants.{NUMBER_END}
use Rattle.qq_entry.specs.declared.command.Entry.{Entry}
use Rattle.qq_raft_msg.specs.declared.rpc.AppendMsg.{AppendMsg}
use Rattle.qq_raft_msg.specs.declared.rpc.AppendedMsg.{AppendedMsg}
use Rattle.qq_raft_msg.specs.declared.rpc.InstalledMsg.{InstalledMsg}
use Rattle.qq_raft_msg.specs.declared.rpc.VoteMsg.{VoteMsg}
use Rattle.qq_raft_msg.specs.declared.rpc.VotedMsg.{VotedMsg}
use Rattle.qq_raft_msg.specs.declared.rpc.Rpc.TheVariants.{Vote, Voted, Append, Appended, Installed}
use Rattle.qq_raft_protocol.specs.Moves.{last_term}
use Rattle.qq_raft_model.specs.declared.limits.TheConstants.{BATCH_BYTES, BATCH_ENTRIES}
use Rattle.qq_raft_model.specs.Leading.{batch, batch_from, fit, weight}
use Rattle.qq_raft_model.specs.State.{term_at}
use Rattle.qq_raft_core.specs.Ends.{HasEnds, has_term, is_within}
use Rattle.qq_raft_core.specs.Fits.{IsShort}
use Rattle.qq_raft_core.specs.Raft.{IsInLog}

pub min_end : (a b r n : ℕ) → r ≡ min a b → b ≤ n → r ≤ n
min_end a b r n is le = let less = min-le_right a b in omega (arith, is, less, le)

within : (n : ℕ) → n ≤ NUMBER_END → is_within n ≡ true
within n le = le-leb n NUMBER_END le

both : (a b : Bool) → a ≡ true → b ≡ true → (a && b) ≡ true
both true b p q = q
both false b p q = absurd cc

pub voted : (m : VotedMsg) → m.term.0 ≤ NUMBER_END → HasEnds (Voted m)
voted m term = record { term = within m.term.0 term; indices = refl; size = refl }

pub appended : (m : AppendedMsg) → m.term.0 ≤ NUMBER_END → m.index.0 ≤ NUMBER_END → HasEnds (Appended m)
appended m term index = record { term = within m.term.0 term; indices = within m.index.0 index; size = refl }

pub installed : (m : InstalledMsg) → m.term.0 ≤ NUMBER_END → m.index.0 ≤ NUMBER_END → HasEnds (Installed m)
installed m term index = record { term = within m.term.0 term; indices = within m.index.0 index; size = refl }

pub asked : (m : VoteMsg) → m.term.0 ≤ NUMBER_END → m.last_index.0 ≤ NUMBER_END → m.last_term.0 ≤ NUMBER_END
    → HasEnds (Vote m)
asked m term index last =
    record {
      term = within m.term.0 term;
      indices = both _ _ (within m.last_index.0 index) (within m.last_term.0 last);
      size = refl;
    }

each-term : (es : List Entry) → AllByRecursion IsInLog es → list_all has_term es ≡ true
each-term [] all = refl
each-term (e ∷ es) all =
    both (has_term e) (list_all has_term es) (within e.term.0 all.0.1) (each-term es all.1)

pub sent : (m : AppendMsg) → m.term.0 ≤ NUMBER_END → m.prev_index.0 ≤ NUMBER_END → m.prev_term.0 ≤ NUMBER_END
    → m.commit.0 ≤ NUMBER_END → m.prev_index.0 + length m.entries ≤ NUMBER_END → All IsInLog m.entries
    → IsShort m.entries → HasEnds (Append m)
sent m term index prev commit end all short =
    record {
      term = within m.term.0 term;
      indices = both _ _ (both _ _ (both _ _ (both _ _ (within m.prev_index.0 index) (within m.prev_term.0 prev))
          (within m.commit.0 commit)) (within _ end)) (each-term m.entries (recursion_from_All IsInLog m.entries all));
      size = le-leb _ _ short;
    }

-- ---- terms of a log

last-within : (es : List Entry) → AllByRecursion IsInLog es → last_term es ≤ NUMBER_END
last-within [] all = omega arith
last-within (e ∷ []) all = all.0.1
last-within (e ∷ f ∷ es) all = last-within (f ∷ es) all.1

pub term_within : (log : List Entry) (index : ℕ) → All IsInLog log → term_at log index ≤ NUMBER_END
term_within log index all =
    last-within (take index log) (recursion_from_All IsInLog (take index log) (All-take IsInLog index log all))

-- ---- the end of a batch

fit-le : (n room : ℕ) (es : List Entry) → length (fit n room es) ≤ length es
fit-le zero room es = omega arith
fit-le (suc n) room [] = omega arith
fit-le (suc n) room (e ∷ es) =
    cond_both (nat_le (weight e) room) (e ∷ fit n (room - weight e) es) [] (λ (l : List Entry). length l ≤ suc (length es))
    (λ _. let le = fit-le n (room - weight e) es in omega (arith, le)) (λ _. omega arith)

batch-le : (es : List Entry) → length (batch es) ≤ length es
batch-le [] = omega arith
batch-le (e ∷ es) = let le = fit-le (BATCH_ENTRIES - 1) (BATCH_BYTES - weight e) es in omega (arith, le)

pub batch_end : (next : ℕ) (log : List Entry) → length log ≤ NUMBER_END → next ≤ NUMBER_END + 1
    → next - 1 + length (batch_from next log) ≤ NUMBER_END
batch_end next log end le =
    let count = length-drop (next - 1) log in
    let less = batch-le (drop (next - 1) log) in
    omega (arith, count, less, end, le)
