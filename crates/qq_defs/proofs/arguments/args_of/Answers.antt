use Rattle.std.proofs.Common.{◌≡◌, min, false, Some, [], codes, rules}
use Rattle.std.specs.Option.{unwrap_or}
use Rattle.serde_json.specs.Data.{Data}
use Rattle.serde_json.specs.Find.{as_bool}
use Rattle.serde_json.specs.View.{view}
use Rattle.qq_entry.specs.declared.queue.TheConstants.{DELIVERY_LIMIT, LIVE_LIMIT}
use Rattle.qq_entry.specs.declared.queue.Overflow.TheVariants.{DropHead}
use Rattle.qq_entry.specs.declared.queue.Strategy.TheVariants.{AtMostOnce}
use Rattle.qq_defs.specs.declared.arguments.TheConstants.{GROUP}
use Rattle.qq_defs.specs.Arguments.{value, value_or, group_size, count, delivery_limit, short_text, overflow, strategy, strategy_with, args_of}
use Rattle.qq_defs.proofs.arguments.args_of.Goals as goal

pub returns-clause-ok : goal.returns-clause-ok
unfolding args_of
returns-clause-ok c =
    let d : Data = view c.args.arguments.now in
    let group : c.min.result ≡ min (value_or group_size (codes "x-quorum-initial-group-size") GROUP d)
    c.args.nodes = search rules in
    let length : c.and_then-3.result ≡ value count (codes "x-max-length") d = search rules in
    let bytes : c.and_then-4.result ≡ value count (codes "x-max-length-bytes") d = search rules in
    let full : c.unwrap_or-full.result ≡ value_or overflow (codes "x-overflow") DropHead d = search rules in
    let limit : c.unwrap_or.result ≡ value_or delivery_limit (codes "x-delivery-limit") (Some DELIVERY_LIMIT)
    d = search rules in
    let single : c.unwrap_or-2.result ≡ value_or as_bool (codes "x-single-active-consumer") false d = search rules in
    let exchange : c.in_ok-from_str.field-0 ≡ unwrap_or (value short_text (codes "x-dead-letter-exchange") d)
    [] = search rules in
    let key : c.in_ok-text_or_none.field-0 ≡ value short_text (codes "x-dead-letter-routing-key") d = search rules in
    let how : c.strategy_with.result ≡ strategy_with (value short_text (codes "x-dead-letter-exchange") d)
    (value_or strategy (codes "x-dead-letter-strategy") AtMostOnce d)
    (value_or overflow (codes "x-overflow") DropHead d) = search rules in
    λ i. record {
      queue = c.args.queue;
      group = group i;
      max_length = length i;
      max_bytes = bytes i;
      overflow = full
          i;
      delivery_limit = limit i;
      single_active = single i;
      strategy = how i;
      dead_exchange = exchange i;
      dead_key = key i;
      live = LIVE_LIMIT;
    }
