use Rattle.std.proofs.Common.{◌-◌, ◌∙◌, arith, sym}
use Rattle.std.proofs.lemmas.List.{get_or_read}
use Rattle.qq_ports.proofs.Cuts.{without-return, without-other}
use Rattle.qq_ports.proofs.lines.without_return.Goals as goal

pub returns-then-index-ne13 : goal.returns-then-index-ne13
returns-then-index-ne13 c =
    let raw = c.args.raw.items in
    let read = get_or_read raw _ _ (omega (arith, c.args.raw.ok.0)) c.index.ensures 0 in
    without-other raw (c.len-length.result - 1) (omega (arith, c.args.raw.ok.0))
    (λ e. c.if-index-ne13.true (read ∙ e))

pub returns : goal.returns
returns c =
    let raw = c.args.raw.items in
    let read = get_or_read raw _ _ (omega (arith, c.args.raw.ok.0)) c.index.ensures 0 in
    c.truncate.ensures.items ∙ without-return raw (c.len-length.result - 1) (omega (arith, c.args.raw.ok.0))
    (sym read ∙ c.if-index-ne13.false)
