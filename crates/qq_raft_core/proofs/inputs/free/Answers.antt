use Rattle.std.proofs.Common.{◌++◌, List, [], ◌∷◌, length, sym, ap, ◌∙◌, append_assoc, arith}
use Rattle.std.proofs.lemmas.List.{append-nil}
use Rattle.qq_raft_model.specs.declared.peer.Waiting.{Waiting}
use Rattle.qq_raft_model.specs.Server.{free}
use Rattle.qq_raft_core.proofs.Ranges.{all_rest}
use Rattle.qq_raft_core.proofs.Waits.{none-free, all-wait, freed, left}
use Rattle.qq_raft_core.specs.Raft.{IsWaiting}
use Rattle.qq_raft_core.proofs.inputs.free.Goals as goal

pub returns-then-not-is_free-clause-out : goal.returns-then-not-is_free-clause-out
returns-then-not-is_free-clause-out c =
    let f = sym c.is_free.ensures ∙ c.if-not-is_free.true in
    sym (append-nil c.free.out.items)
    ∙ ap (λ rs. c.free.out.items ++ rs) (sym (none-free c.args.op c.free.waiting.items f))
    ∙ c.free.invariant.out

pub returns-then-not-is_free-clause-waiting : goal.returns-then-not-is_free-clause-waiting
returns-then-not-is_free-clause-waiting c =
    let f = sym c.is_free.ensures ∙ c.if-not-is_free.true in
    sym (all-wait c.args.op c.free.waiting.items f) ∙ c.free.invariant.waiting

pub free-preserved : goal.free-preserved
free-preserved c =
    let ws = c.free.waiting.items in
    let rest = c.pop_front.new.self.items in
    let first = c.in-Some.first in
    let t = sym c.is_free.ensures ∙ c.if-not-is_free.false in
    let n = ap (λ (xs : List Waiting). length xs) c.in-Some.ensures.items in
    record {
      out =
          ap (λ rs. rs ++ free c.args.op rest) c.in_ok-push_rpc.ensures.ok
          ∙ append_assoc c.free.out.items (first.rpc ∷ []) (free c.args.op rest)
          ∙ ap (λ rs. c.free.out.items ++ rs) (sym (freed c.args.op ws rest first c.in-Some.ensures.items t))
          ∙ c.free.invariant.out;
      waiting = sym (left c.args.op ws rest first c.in-Some.ensures.items t) ∙ c.free.invariant.waiting;
      length = omega (arith, n, c.free.invariant.length);
      kept = all_rest IsWaiting ws rest c.in-Some.ensures.rest c.free.invariant.kept;
      freed = c.in_ok-push_rpc.ensures.out;
    }
