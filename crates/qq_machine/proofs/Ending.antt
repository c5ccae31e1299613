-- A message that is returned is counted once more, and then goes back or dies.
use Rattle.std.proofs.Common.{◌≡◌, Bool, true, false, List, [], ◌++◌, refl, ap, ◌∙◌, if◌then◌else◌}
use Rattle.std.proofs.lemmas.List.{append-nil}
use Rattle.qq_entry.specs.declared.audit.Effect.{Effect}
use Rattle.qq_entry.specs.declared.message.Reason.TheVariants.{DeliveryLimit}
use Rattle.qq_entry.specs.declared.message.Reason.{Reason}
use Rattle.qq_entry.specs.declared.queue.Strategy.{Strategy}
use Rattle.qq_entry.specs.declared.queue.Strategy.TheVariants.{AtLeastOnce}
use Rattle.qq_parts.specs.Reduced.{Item}
use Rattle.qq_parts.specs.Parts.{Parts}
use Rattle.qq_parts.specs.Changes.{bury, push_dead, dead_letter, put_back, recounted, is_spent}
use Rattle.qq_parts.specs.Work.{Work, with_parts}
use Rattle.qq_parts.specs.Ends.{parts_die, parts_return}
use Rattle.qq_machine.specs.Views.{return_counted}

pub return-is : (x : Item) (t : Work) → parts_return x t ≡ return_counted (recounted x) t
return-is x t = by (is_spent t.parts x)
  where
    by : (b : Bool) → record {
      parts =
          if b then bury t.parts.rest.args.strategy DeliveryLimit (recounted x) t.parts
          else put_back t.parts.rest.args.delivery_limit (recounted x) t.parts;
      effects =
          t.effects
          ++ (if b then dead_letter t.parts.rest.args.strategy DeliveryLimit (recounted x) else []);
    }
        ≡ (if b then parts_die DeliveryLimit (recounted x) t
        else with_parts (put_back t.parts.rest.args.delivery_limit (recounted x) t.parts) t)
    by true = refl
    by false =
        ap (λ (es : List Effect). record {
          parts = put_back t.parts.rest.args.delivery_limit (recounted x) t.parts;
          effects = es;
        }) (append-nil t.effects)

-- at least once it stays
pub dies-kept : (reason : Reason) (x : Item) (t : Work) (m : Parts) → t.parts.rest.args.strategy ≡ AtLeastOnce
    → push_dead reason x t.parts ≡ m → parts_die reason x t ≡ record { parts = m; effects = t.effects }
dies-kept reason x t m is put =
    ap (λ (s : Strategy). let w : Work = record {
      parts = bury s reason x t.parts;
      effects = t.effects ++ dead_letter s reason x;
    } in w) is
    ∙ ap (λ (es : List Effect). let w : Work = record { parts = push_dead reason x t.parts; effects = es } in w)
    (append-nil t.effects)
    ∙ ap (λ (k : Parts). let w : Work = record { parts = k; effects = t.effects } in w) put
