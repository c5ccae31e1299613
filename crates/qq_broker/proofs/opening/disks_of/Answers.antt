use Rattle.std.proofs.Common.{◌≡◌, ◌+◌, ℕ, ap, arith, length, true, ◌∙◌}
use Rattle.std.specs.Prelude.{option_map}
use Rattle.qq_cluster.specs.Setting.{IsWhole}
use Rattle.qq_broker.proofs.Beginning.{given-more, opened-whole, whole-more}
use Rattle.qq_broker.proofs.opening.disks_of.Goals as goal

pub nodes-preserved : goal.nodes-preserved
nodes-preserved g c =
    let so = c.nodes.invariant in
    let facts = g.Y.Disk.NodeDisk.facts in
    let later = c.disk.ensures.cause.later in
    let asked : g.Y.Yard.is_given (option_map (λ text. text.now) c.args.root) (length c.nodes.disks.items + 1) c.in-Ok.disk
    ≡ true =
    ap (λ (n : ℕ). g.Y.Yard.is_given (option_map (λ text. text.now) c.args.root) (n + 1) c.in-Ok.disk) so.count
    ∙ c.in-Ok.ensures.given in
    let more = whole-more (IsWhole facts) c.nodes.disks.items c.in-Ok.disk so.whole
    (opened-whole c.these_disks_may_be_recovered.ensures.opened facts c.in-Ok.disk c.in-Ok.ensures.opened)
    c.push.new.self.items c.in_default.ensures.items in
    record {
      count = more.1 ∙ ap (λ (n : ℕ). n + 1) so.count;
      given = given-more g.Y.Yard.is_given facts (λ text. text.now) c.args.root c.nodes.disks.items c.in-Ok.disk
          so.given asked c.in-Ok.ensures.opened c.in-Ok.ensures.empty c.push.new.self.items c.in_default.ensures.items;
      whole = more.0;
      later = omega (arith, so.later, later);
    }
