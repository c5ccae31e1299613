-- A message that a server takes has its numbers within their ends, and entries that may be written in one change.
use Rattle.std.proofs.Common.{◌≡◌, ◌≤◌, ℕ, true, List, [], ◌∷◌}
use Rattle.std.specs.List.{AllByRecursion, list_all}
use Rattle.std.proofs.lemmas.Bool.{and_parts, leb-true}
use Rattle.std.proofs.lemmas.List.Elements.{All-from_recursion, recursion_from_All}
use Rattle.qq_base.specs.declared.memory.TheConstants.{NUMBER_END}
use Rattle.qq_entry.specs.Range.{IsWritable as IsEntry}
use Rattle.qq_entry.specs.declared.command.Entry.{Entry}
use Rattle.qq_raft_msg.specs.Rpc.{IsWritable}
use Rattle.qq_raft_msg.specs.declared.rpc.Rpc.{Rpc}
use Rattle.qq_raft_msg.specs.declared.rpc.Rpc.TheVariants.{Vote, Voted, Append, Appended, Install, Installed}
use Rattle.qq_raft_model.specs.State.{Server}
use Rattle.qq_raft_core.specs.Ends.{is_within, has_term, has_indices, has_size}
use Rattle.qq_raft_core.specs.Fits.{fits, HasIndices, IsWithin}
use Rattle.qq_raft_core.specs.Raft.{IsInLog}

within : (n : ℕ) → is_within n ≡ true → n ≤ NUMBER_END
within n t = leb-true n NUMBER_END t

in-log : (es : List Entry) → AllByRecursion IsEntry es → list_all has_term es ≡ true → AllByRecursion IsInLog es
in-log [] all t = tt
in-log (e ∷ es) all t =
    let f = and_parts (has_term e) (list_all has_term es) t in
    ((all.0, within e.term.0 f.0), in-log es all.1 f.1)

indices : (rpc : Rpc) → IsWritable rpc → has_indices rpc ≡ true → has_size rpc ≡ true → HasIndices rpc
indices (Vote m) w t size = tt
indices (Voted m) w t size = tt
indices (Append m) w t size =
    let f = and_parts _ _ t in
    record {
      last = within _ (and_parts _ _ f.0).1;
      entries = All-from_recursion IsInLog m.entries
          (in-log m.entries (recursion_from_All IsEntry m.entries w.fields.3) f.1);
      short = leb-true _ _ size;
    }
indices (Appended m) w t size = within _ t
indices (Install m) w t size = tt
indices (Installed m) w t size = tt

pub fits-within : (s : Server) (rpc : Rpc) → IsWritable rpc → fits s rpc ≡ true → IsWithin rpc
unfolding fits
fits-within s rpc w t =
    let f = and_parts _ _ t in
    let g = and_parts _ _ f.0 in
    record {
      from = w.envelope.0;
      term = within _ (and_parts _ _ g.0).1;
      indices = indices rpc w g.1 f.1;
    }
