use Rattle.std.proofs.Common.{length, sym, ap, ◌∙◌, arith}
use Rattle.qq_ports.specs.MemYard.{place_of}
use Rattle.qq_ports.proofs.Rows.{place-within, taken, is_none}
use Rattle.qq_ports.proofs.mem_yard.take.Goals as goal

pub returns-then-place-len-clause-first : goal.returns-then-place-len-clause-first
returns-then-place-len-clause-first c =
    let place = c.place_of-place.ensures ∙ ap (place_of c.args.root.now c.args.node) c.deref.ensures.value in
    let end = c.len.ensures ∙ sym c.deref.ensures.len ∙ ap length c.deref.ensures.value in
    (is_none c.args.root.now c.args.node c.args.disks.now.items (sym place ∙ c.if-place-len.true ∙ end)).first

pub returns-then-place-len-clause-rest : goal.returns-then-place-len-clause-rest
returns-then-place-len-clause-rest c =
    let place = c.place_of-place.ensures ∙ ap (place_of c.args.root.now c.args.node) c.deref.ensures.value in
    let end = c.len.ensures ∙ sym c.deref.ensures.len ∙ ap length c.deref.ensures.value in
    (is_none c.args.root.now c.args.node c.args.disks.now.items (sym place ∙ c.if-place-len.true ∙ end)).rest_is

pub remove-disk-requires : goal.remove-disk-requires
remove-disk-requires c =
    let within = place-within c.args.root.now c.args.node c.deref.result.now in
    grind (arith, within, c.place_of-place.ensures, c.deref.ensures.len, c.len.ensures, c.if-place-len.false)

pub returns-clause-first : goal.returns-clause-first
returns-clause-first c =
    let place = c.place_of-place.ensures ∙ ap (place_of c.args.root.now c.args.node) c.deref.ensures.value in
    let within = place-within c.args.root.now c.args.node c.args.disks.now.items in
    let end = c.len.ensures ∙ sym c.deref.ensures.len ∙ ap length c.deref.ensures.value in
    (taken c.args.root.now c.args.node c.args.disks.now.items c.place_of-place.result c.remove-disk.result place
    (grind (arith, within, place, end, c.if-place-len.false)) c.remove-disk.ensures.value).first

pub returns-clause-rest : goal.returns-clause-rest
returns-clause-rest c =
    let place = c.place_of-place.ensures ∙ ap (place_of c.args.root.now c.args.node) c.deref.ensures.value in
    let within = place-within c.args.root.now c.args.node c.args.disks.now.items in
    let end = c.len.ensures ∙ sym c.deref.ensures.len ∙ ap length c.deref.ensures.value in
    c.remove-disk.ensures.items
    ∙ (taken c.args.root.now c.args.node c.args.disks.now.items c.place_of-place.result c.remove-disk.result place
    (grind (arith, within, place, end, c.if-place-len.false)) c.remove-disk.ensures.value).rest_is
