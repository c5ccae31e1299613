use Rattle.std.proofs.Common.{◌≡◌, ◌-◌, ◌<◌, ◌≤◌, length, slice_get, sym, ap, ◌∙◌, arith}
use Rattle.qq_ready.specs.Queue.{ReadyState, in_order}
use Rattle.qq_ready.proofs.Keyed.{get-left, get-right}
use Rattle.qq_ready.proofs.ready.Ready.row_at.Goals as goal

pub returns-then-place-len : goal.returns-then-place-len
returns-then-place-len c =
    let q = c.self.inside in
    let within : c.args.place < length q.fronts.items = omega (arith, c.len.ensures.len, c.if-place-len.true) in
    c.get.ensures ∙ sym (get-left q.fronts.items q.backs.items c.args.place within)
    ∙ ap (λ (s : ReadyState). slice_get (in_order s.queue) c.args.place) c.self.view_is

pub returns-else-place-len : goal.returns-else-place-len
returns-else-place-len c =
    let q = c.self.inside in
    let behind : length q.fronts.items ≤ c.args.place = omega (arith, c.len.ensures.len, c.if-place-len.false) in
    let same : c.args.place - c.len-else-place-len.result ≡ c.args.place - length q.fronts.items =
    ap (λ n. c.args.place - n) c.len-else-place-len.ensures.len in
    c.get-else-place-len.ensures ∙ ap (slice_get q.backs.items) same
    ∙ sym (get-right q.fronts.items q.backs.items c.args.place behind)
    ∙ ap (λ (s : ReadyState). slice_get (in_order s.queue) c.args.place) c.self.view_is
