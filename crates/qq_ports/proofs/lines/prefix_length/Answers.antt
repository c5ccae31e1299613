use Rattle.std.proofs.Common.{◌≡◌, ◌<◌, ◌+◌, ◌++◌, ◌∷◌, ap, length, take, drop, sym, subst, unwrap_or, ◌∙◌}
use Rattle.qq_ports.specs.Lines.{HasNoFeed}
use Rattle.qq_ports.proofs.Cuts.{prefix_len, place-prefix, prefix-clean, prefix-feed}
use Rattle.qq_ports.proofs.lines.prefix_length.Goals as goal

pub returns-clause-clean : goal.returns-clause-clean
returns-clause-clean c =
    let bytes = c.args.bytes.now in
    let is : c.unwrap_or.result ≡ prefix_len bytes = c.unwrap_or.ensures
    ∙ ap (λ o. unwrap_or o (length bytes)) c.feed_place.ensures ∙ place-prefix bytes in
    subst (λ n. HasNoFeed (take n bytes)) (sym is) (prefix-clean bytes)

pub returns-clause-feed : goal.returns-clause-feed
returns-clause-feed c =
    let bytes = c.args.bytes.now in
    let is : c.unwrap_or.result ≡ prefix_len bytes = c.unwrap_or.ensures
    ∙ ap (λ o. unwrap_or o (length bytes)) c.feed_place.ensures ∙ place-prefix bytes in
    subst (λ n. n < length bytes → bytes ≡ take n bytes ++ 10 ∷ drop (n + 1) bytes) (sym is) (prefix-feed bytes)
