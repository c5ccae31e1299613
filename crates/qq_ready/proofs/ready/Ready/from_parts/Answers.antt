use Rattle.std.proofs.Common.{◌+◌, ◌≤◌, ◌*◌, ◌^◌, List, length, refl, ap, ◌∙◌, subst}
use Rattle.qq_ready.specs.declared.row.KeyedRow.{KeyedRow}
use Rattle.qq_ready.specs.Queue.{bytes_of}
use Rattle.qq_ready.proofs.Keyed.{kept-parts, kept-same}
use Rattle.qq_ready.proofs.ready.Ready.from_parts.Goals as goal

pub invariant_of-result : goal.invariant_of-result
invariant_of-result c =
    let a = c.bytes_of.result in
    let b = c.bytes_of-2.result in
    let first : a ≤ length c.args.fronts.items * 2 ^ 32 =
    subst (λ (xs : List KeyedRow). a ≤ length xs * 2 ^ 32) c.as_slice.ensures.value c.bytes_of.ensures.fits in
    let second : b ≤ length c.args.backs.items * 2 ^ 32 =
    subst (λ (xs : List KeyedRow). b ≤ length xs * 2 ^ 32) c.as_slice-2.ensures.value c.bytes_of-2.ensures.fits in
    let kept =
    kept-parts c.args.fronts.items c.args.backs.items c.args.fronts.items c.args.backs.items c.args.orders
    c.args.returns a b c.requires.fronts c.requires.backs refl refl
    (c.bytes_of.ensures.sum ∙ ap bytes_of c.as_slice.ensures.value)
    (c.bytes_of-2.ensures.sum ∙ ap bytes_of c.as_slice-2.ensures.value) first second in (
      kept-same c.args.fronts.items c.args.backs.items c.from_vec.result.items c.from_vec-2.result.items c.args.orders
          c.args.returns (a + b) c.from_vec.ensures.items c.from_vec-2.ensures.items kept,
      kept-same c.args.fronts.items c.args.backs.items c.from_vec.result.base c.from_vec-2.result.base c.args.orders
          c.args.returns (a + b) c.from_vec.ensures.base c.from_vec-2.ensures.base kept,
    )
