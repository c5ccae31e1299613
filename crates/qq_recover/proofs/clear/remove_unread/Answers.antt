use Rattle.std.proofs.Common.{◌<◌, ◌∙◌, suc, length, drop, ap, sym, subst, arith, add-one, drop-cons, slice_index_or, List, ℕ, Bool, IsTrue}
use Rattle.qq_base.specs.declared.ids.QueueId.{QueueId}
use Rattle.qq_disk.specs.declared.name.FileKind.TheVariants.{Log}
use Rattle.qq_disk.specs.declared.name.FileName.{FileName}
use Rattle.qq_disk.specs.Disk.{Disk, now}
use Rattle.qq_wal.specs.Running.{StillHolds}
use Rattle.qq_recover.specs.Clearing.{remove_unread}
use Rattle.qq_recover.proofs.Cleared.{among-at, among-within, clears-then}
use Rattle.qq_recover.proofs.clear.remove_unread.Goals as goal

pub remove_one-requires-clause-older : goal.remove_one-requires-clause-older
remove_one-requires-clause-older g c = λ kind.
    let inv = c.loop-name.invariant in
    let names = c.args.names.now in
    let within : c.loop-name.name-index < length names = omega arith in
    let first : FileName = record { kind = Log; number = 0 } in
    let name : FileName = slice_index_or names c.loop-name.name-index first in
    omega (
      arith,
      among-within names name kind (among-at names c.loop-name.name-index first within),
      c.requires.older,
      ap (λ w. w.header.file) inv.clears.same,
    )

pub returns-in-Err-clause-clears : goal.returns-in-Err-clause-clears
returns-in-Err-clause-clears g c =
    let inv = c.loop-name.invariant in
    let names = c.args.names.now in
    let within : c.loop-name.name-index < length names = omega arith in
    let first : FileName = record { kind = Log; number = 0 } in
    let name : FileName = slice_index_or names c.loop-name.name-index first in
    clears-then g.D.NodeDisk.facts names c.args.chain.now c.args.wal.now c.loop-name.wal c.remove_one.new.wal inv.clears
    (c.remove_one.ensures.clears names (among-at names c.loop-name.name-index first within))

pub loop-name-preserved : goal.loop-name-preserved
loop-name-preserved g c =
    let inv = c.loop-name.invariant in
    let names = c.args.names.now in
    let within : c.loop-name.name-index < length names = omega arith in
    let first : FileName = record { kind = Log; number = 0 } in
    let name : FileName = slice_index_or names c.loop-name.name-index first in
    let past = g.D.NodeDisk.facts.past in
    let chain = c.args.chain.now in
    record {
      clears = clears-then g.D.NodeDisk.facts names chain c.args.wal.now c.loop-name.wal c.remove_one.new.wal inv.clears
          (c.remove_one.ensures.clears names (among-at names c.loop-name.name-index first within));
      going = c.in_default.ensures.going;
      rest = λ told.
          ap (λ (k : ℕ). remove_unread chain (now (past c.remove_one.new.wal.disk)) (drop k names))
          (add-one c.loop-name.name-index)
          ∙ ap (λ (d : Disk). remove_unread chain d (drop (suc c.loop-name.name-index) names))
          (c.in_default.ensures.ok (subst (λ (t : Bool). IsTrue t) (sym inv.clears.told) told))
          ∙ ap (λ (l : List FileName). remove_unread chain (now (past c.loop-name.wal.disk)) l)
          (sym (drop-cons names c.loop-name.name-index first within))
          ∙ inv.rest told;
      holds = λ told given held.
          subst (λ (l : List QueueId). StillHolds l (now (past c.loop-name.wal.disk))
          (now (past c.remove_one.new.wal.disk))) (ap (λ w. w.queues.items) inv.clears.same)
          (c.in_default.ensures.holds (subst (λ (t : Bool). IsTrue t) (sym inv.clears.told) told)) given
          (inv.holds told given held);
    }
