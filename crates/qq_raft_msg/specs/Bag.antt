-- A bag of messages, whose places are counted from 1.
use Rattle.std.specs.Prelude.{◌≡◌, ℕ, zero, suc, List, length, Option, None, slice_get, IsSome}
use Rattle.std.specs.List.{remove}
use Rattle.qq_base.specs.Causes.{SpentOnlyWhere}
use Rattle.qq_raft_msg.specs.declared.bag.TheConstants.{BAG_LIMIT}
use Rattle.qq_raft_msg.specs.declared.bag.CopyFault.{CopyFault}
use Rattle.qq_raft_msg.specs.declared.bag.CopyFault.TheVariants.{NoSuch, Memory}
use Rattle.qq_raft_msg.specs.declared.rpc.Rpc.{Rpc}

-- the message at a place
abbrev pub at_place : ℕ → List Rpc → Option Rpc
at_place zero bag = None
at_place (suc i) bag = slice_get bag i

-- the bag without the message at a place
abbrev pub without : ℕ → List Rpc → List Rpc
without zero bag = bag
without (suc i) bag = remove bag i

-- why a message wasn't doubled
abbrev pub HasCopyCause : ℕ → List Rpc → CopyFault → Type 0
HasCopyCause k bag NoSuch = at_place k bag ≡ None
HasCopyCause k bag (Memory e) = SpentOnlyWhere e BAG_LIMIT (IsSome (at_place k bag) × (length bag ≡ BAG_LIMIT))
