-- Deliveries are taken out of a table at once, and end behind it.
use Rattle.std.proofs.Common.{◌≡◌, ℕ, Bool, true, false, List, [], ◌∷◌, ◌++◌, Option, Some, None, map, nat_eq, refl, sym, ap, ◌∙◌, subst, if◌then◌else◌}
use Rattle.std.specs.List.{AllByRecursion}
use Rattle.std.specs.Option.{option_map, option_map_or}
use Rattle.qq_base.specs.declared.ids.ConsumerId.{ConsumerId}
use Rattle.qq_base.specs.Ids.{same_consumer}
use Rattle.qq_entry.specs.declared.answer.Answer.TheVariants as answer
use Rattle.qq_entry.specs.declared.message.ReadyRow.{ReadyRow}
use Rattle.qq_entry.specs.declared.message.Reason.{Reason}
use Rattle.qq_entry.specs.declared.message.Reason.TheVariants.{DeliveryLimit, Rejected}
use Rattle.qq_entry.specs.declared.queue.Strategy.{Strategy}
use Rattle.qq_entry.specs.declared.queue.Strategy.TheVariants.{Absent, AtMostOnce, AtLeastOnce}
use Rattle.qq_model.specs.declared.consumer.Outcome.{Outcome}
use Rattle.qq_model.specs.declared.consumer.Outcome.TheVariants.{Settled, Returned, Discarded}
use Rattle.qq_model.specs.declared.place.Place.{Place}
use Rattle.qq_parts.specs.Reduced.{Item}
use Rattle.qq_parts.specs.Parts.{Served, Parts, item_number, IsWhole}
use Rattle.qq_parts.specs.Consumers.{keep_ones, needed_one}
use Rattle.qq_parts.specs.Turns.{credit_of_one}
use Rattle.qq_parts.specs.Changes.{moved, bury, dead_letter, put_back, recounted, is_spent}
use Rattle.qq_parts.specs.Outs.{Cut, cut_id, behind_item}
use Rattle.qq_parts.specs.Work.{Work, say, with_parts}
use Rattle.qq_parts.specs.Commands.{one_of, parts_begin_to_wait, parts_finish}
use Rattle.qq_parts.specs.Ends.{parts_die, parts_return, parts_end}
use Rattle.qq_parts.specs.AtOnce.{Cuts, first_cut, cut_ids, without_ids, cut_all, parts_end_items}
use Rattle.qq_consumer.specs.declared.row.ConsumerRow.{ConsumerRow}
use Rattle.qq_consumer.specs.declared.rising.Numbered.{Numbered}
use Rattle.qq_consumer.specs.Roster.{item_at, row_of, out_item, served_of, with_out, cut_rest, put_rest, Roster, take_out, take_out_by, taken_rows, begin_to_wait, drop_finished}
use Rattle.qq_consumer.specs.Roster.{Cuts as TableCuts, first_cut as table_first, cut_ids as table_cut}
use Rattle.qq_machine.specs.Views.{end_rows, end_taken}
use Rattle.qq_machine.proofs.Ending.{return-is}
use Rattle.qq_machine.proofs.Delivering.{with_roster}
use Rattle.qq_machine.proofs.Changing.{roster_in, begins}
use Rattle.qq_parts.proofs.AtOnce.{finishes_at_once}

-- Where a message was isn't looked at ------------------------------------------------------------------

die-place : (place : Place) (reason : Reason) (x : Item) (t : Work)
    → parts_die reason (moved place x) t ≡ parts_die reason x t
die-place place reason x t = by t.parts.rest.args.strategy
  where
    dies : Strategy → Item → Work
    dies s y = record { parts = bury s reason y t.parts; effects = t.effects ++ dead_letter s reason y }

    by : (s : Strategy) → dies s (moved place x) ≡ dies s x
    by Absent = refl
    by AtMostOnce = refl
    by AtLeastOnce = refl

put-place : (place : Place) (limit : Option ℕ) (x : Item) (m : Parts)
    → put_back limit (moved place x) m ≡ put_back limit x m
put-place place None x m = refl
put-place place (Some limit) x m = refl

pub return-place : (place : Place) (x : Item) (t : Work) → parts_return (moved place x) t ≡ parts_return x t
return-place place x t =
    return-is (moved place x) t ∙ by (is_spent t.parts x) ∙ sym (return-is x t)
  where
    by : (b : Bool)
        → (if b then parts_die DeliveryLimit (moved place (recounted x)) t
        else record t { parts = put_back t.parts.rest.args.delivery_limit (moved place (recounted x)) t.parts })
        ≡ (if b then parts_die DeliveryLimit (recounted x) t
        else record t { parts = put_back t.parts.rest.args.delivery_limit (recounted x) t.parts })
    by true = die-place place DeliveryLimit (recounted x) t
    by false =
        ap (λ (m : Parts). record t { parts = m })
        (put-place place t.parts.rest.args.delivery_limit (recounted x) t.parts)

end-place : (place : Place) (outcome : Outcome) (x : Item) (t : Work)
    → parts_end outcome (moved place x) t ≡ parts_end outcome x t
end-place place Settled x t = refl
end-place place Returned x t = return-place place x t
end-place place Discarded x t = die-place place Rejected x t

-- Messages in memory ----------------------------------------------------------------------------------

abbrev pub IsSized : Item → Type 0
IsSized x = x.row.size ≡ x.message.size

row-back : (place : Place) (x : Item) → IsSized x → item_at place (row_of x) ≡ moved place x
row-back place x sized =
    ap (λ (n : ℕ). let y : Item = record {
      row =
          record {
            index = x.row.index;
            arrival = x.row.arrival;
            count = x.row.count;
            size = n;
            place = place;
          };
      message = x.message;
    } in y) (sym sized)

-- as they end in memory they end in the parts
pub end-rows : (place : Place) (outcome : Outcome) (xs : List Item) (t : Work) → AllByRecursion IsSized xs
    → parts_end_items outcome xs t ≡ end_rows outcome place (map row_of xs) t
end-rows place outcome [] t sized = refl
end-rows place outcome (x ∷ xs) t sized =
    ap (parts_end_items outcome xs)
    (sym (ap (λ (y : Item). parts_end outcome y t) (row-back place x sized.0) ∙ end-place place outcome x t))
    ∙ end-rows place outcome xs (parts_end outcome (item_at place (row_of x)) t) sized.1

out-sized : (id : ConsumerId) (rows : List (Numbered ReadyRow)) → AllByRecursion IsSized (map (out_item id) rows)
out-sized id [] = tt
out-sized id (one ∷ rows) = (refl, out-sized id rows)

pub served-sized : (row : ConsumerRow) (one : Served) → Some (served_of row) ≡ Some one
    → AllByRecursion IsSized one.out
served-sized row one is =
    let same : served_of row ≡ one = cc in
    subst (λ (k : Served). AllByRecursion IsSized k.out) same (out-sized row.consumer.id row.out.items)

-- The table cuts as the parts do ----------------------------------------------------------------------

abbrev AreAlike : Cuts → TableCuts → Type 0
AreAlike a b = (a.items ≡ b.items) × (a.rest ≡ b.rest)

abbrev ours : List ℕ → List Item → Option Cut → Cuts
ours ids out o = option_map_or (λ (cut : Cut). first_cut cut.item (cut_ids ids cut.rest)) o (cut_ids ids out)

abbrev theirs : List ℕ → List Item → Option Cut → TableCuts
theirs ids out o =
    option_map_or (λ (cut : Cut). table_first cut.item (table_cut ids cut.rest)) o (table_cut ids out)

-- both cuts take out the same, and leave the same
pub cuts-alike : (ids : List ℕ) (out : List Item) → AreAlike (cut_ids ids out) (table_cut ids out)
cuts-alike [] out = (refl, refl)
cuts-alike (id ∷ ids) out = by (cuts-alike ids) (cut_id id out)
  where
    by : ((rest : List Item) → AreAlike (cut_ids ids rest) (table_cut ids rest)) → (o : Option Cut)
        → AreAlike (ours ids out o) (theirs ids out o)
    by later None = later out
    by later (Some cut) =
        (ap (λ (xs : List Item). cut.item ∷ xs) (later cut.rest).0, (later cut.rest).1)

rest-alike : (id : ConsumerId) (ids : List ℕ) (one : Served)
    → with_out id (cut_rest ids) one ≡ without_ids id ids one
rest-alike id ids one = by (same_consumer one.consumer.id id)
  where
    by : (b : Bool)
        → (if b then record { consumer = one.consumer; out = (table_cut ids one.out).rest } else one)
        ≡ (if b then record { consumer = one.consumer; out = (cut_ids ids one.out).rest } else one)
    by true =
        ap (λ (xs : List Item). let k : Served = record { consumer = one.consumer; out = xs } in k)
        (sym (cuts-alike ids one.out).1)
    by false = refl

pub all-alike : (id : ConsumerId) (ids : List ℕ) (ones : List Served) → put_rest id ids ones ≡ cut_all id ids ones
all-alike id ids [] = refl
all-alike id ids (one ∷ ones) =
    ap (λ (k : Served). k ∷ put_rest id ids ones) (rest-alike id ids one)
    ∙ ap (λ (ks : List Served). without_ids id ids one ∷ ks) (all-alike id ids ones)

each-rest : (P : Item → Type 0) (id : ℕ) (out : List Item) (cut : Cut) → AllByRecursion P out
    → cut_id id out ≡ Some cut → P cut.item × AllByRecursion P cut.rest
each-rest P id [] cut each is = absurd cc
each-rest P id (x ∷ xs) cut each is = by (nat_eq (item_number x) id) (each-rest P id xs) (cut_id id xs) refl is
  where
    by : (b : Bool)
        → ((c : Cut) → AllByRecursion P xs → cut_id id xs ≡ Some c → P c.item × AllByRecursion P c.rest)
        → (o : Option Cut) → cut_id id xs ≡ o
        → (if b then Some (record { item = x; rest = xs }) else option_map (behind_item x) o) ≡ Some cut
        → P cut.item × AllByRecursion P cut.rest
    by true later o found is =
        let same : record { item = x; rest = xs } ≡ cut = cc in
        subst (λ (c : Cut). P c.item × AllByRecursion P c.rest) same (each.0, each.1)
    by false later None found is = absurd cc
    by false later (Some c) found is =
        let same : behind_item x c ≡ cut = cc in
        let rest = later c each.1 found in
        subst (λ (k : Cut). P k.item × AllByRecursion P k.rest) same (rest.0, (each.0, rest.1))

each-cut : (P : Item → Type 0) (ids : List ℕ) (out : List Item) → AllByRecursion P out
    → AllByRecursion P (cut_ids ids out).items
each-cut P [] out each = tt
each-cut P (id ∷ ids) out each = by (each-cut P ids) (cut_id id out) refl
  where
    by : ((rest : List Item) → AllByRecursion P rest → AllByRecursion P (cut_ids ids rest).items) → (o : Option Cut)
        → cut_id id out ≡ o → AllByRecursion P (ours ids out o).items
    by later None found = later out each
    by later (Some cut) found =
        let both = each-rest P id out cut each found in
        (both.0, later cut.rest both.1)

-- what a Settle, a Return or a Discard does at once
pub finishes : (outcome : Outcome) (id : ConsumerId) (ids : List ℕ) (one : Served) (row : ConsumerRow) (t : Work)
    (r : Roster) (rows : Option (List ReadyRow)) (place : Place) (new : Work)
    → IsWhole t.parts → one_of id t.parts.served ≡ Some one → Some (served_of row) ≡ Some one
    → r ≡ take_out id ids (roster_in t) → rows ≡ option_map (taken_rows ids) (one_of id t.parts.served)
    → end_taken outcome place rows (with_roster r t) ≡ new
    → parts_finish outcome id ids t ≡ record { work = new; answer = answer.Done }
finishes outcome id ids one row t r rows place new whole found is_row made taken ended =
    let cut : Parts = record (t.parts) { served = cut_all id ids t.parts.served } in
    let before : ℕ = credit_of_one one in
    let left : r ≡ begin_to_wait before id
    (drop_finished (record (roster_in t) { served = cut_all id ids t.parts.served })) =
    made ∙ ap (λ (o : Option Served). take_out_by o id ids (roster_in t)) found
    ∙ ap (λ (ones : List Served). begin_to_wait before id
    (drop_finished (record (roster_in t) { served = ones }))) (all-alike id ids t.parts.served) in
    let parts : with_parts (parts_begin_to_wait before id (keep_ones needed_one cut)) t ≡ with_roster r t =
    begins before id (with_parts (keep_ones needed_one cut) t)
    ∙ ap (λ (q : Roster). with_roster q t) (sym left) in
    let same : map row_of (cut_ids ids one.out).items ≡ taken_rows ids one =
    ap (map row_of) (cuts-alike ids one.out).0 in
    let all : rows ≡ Some (taken_rows ids one) = taken ∙ ap (option_map (taken_rows ids)) found in
    finishes_at_once outcome id ids one t whole found
    ∙ ap (say answer.Done)
    (ap (parts_end_items outcome (cut_ids ids one.out).items) parts
    ∙ end-rows place outcome (cut_ids ids one.out).items (with_roster r t)
    (each-cut IsSized ids one.out (served-sized row one is_row))
    ∙ ap (λ (xs : List ReadyRow). end_rows outcome place xs (with_roster r t)) same
    ∙ sym (ap (λ (o : Option (List ReadyRow)). end_taken outcome place o (with_roster r t)) all) ∙ ended)
