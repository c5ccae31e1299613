-- What a machine does at once comes to what the queue does one by one.
use Rattle.std.proofs.Common.{◌≡◌, ℕ, ◌+◌, ◌⊎◌, Bool, true, false, not, ◌&&◌, List, [], ◌∷◌, ◌++◌, Option, Some, None, map, nat_lt, refl, sym, ap, ◌∙◌, subst, inl, inr, if◌then◌else◌}
use Rattle.std.specs.Prelude.{filter, nat_eq}
use Rattle.std.specs.List.{AllByRecursion}
use Rattle.std.specs.Option.{option_map, option_map_or}
use Rattle.std.proofs.lemmas.Bool.{cases_Bool, cond-true, cond-false}
use Rattle.std.proofs.lemmas.List.Sums.{fold-append}
use Rattle.qq_base.proofs.Lists.{In-append_right, AllByRecursion-in}
use Rattle.qq_base.specs.declared.ids.SessionId.{SessionId}
use Rattle.qq_base.specs.declared.ids.ConsumerId.{ConsumerId}
use Rattle.qq_base.specs.Ids.{same_consumer}
use Rattle.qq_entry.specs.declared.message.Reason.{Reason}
use Rattle.qq_entry.specs.declared.message.Reason.TheVariants as reason
use Rattle.qq_entry.specs.declared.queue.Strategy.{Strategy}
use Rattle.qq_entry.specs.declared.queue.Strategy.TheVariants.{Absent, AtMostOnce, AtLeastOnce}
use Rattle.qq_entry.specs.declared.answer.Answer.TheVariants.{Done}
use Rattle.qq_model.specs.declared.consumer.Consumer.{Consumer}
use Rattle.qq_model.specs.declared.consumer.Outcome.{Outcome}
use Rattle.qq_model.specs.declared.consumer.Outcome.TheVariants.{Settled, Returned, Discarded}
use Rattle.qq_model.specs.Commands.{is_of_session}
use Rattle.qq_model.proofs.OneConsumer.{same_consumer-refl, same_consumer-true}
use Rattle.qq_parts.specs.Reduced.{Item}
use Rattle.qq_parts.specs.Parts.{Served, Parts, outs, AreTwo, AreApart, IsWhole}
use Rattle.qq_parts.specs.Changes.{Taken, bury, dead_letter, put_back, recounted, is_spent, give_back, back_letter}
use Rattle.qq_parts.specs.Outs.{Cut, CutOut, cut_id, out_of, behind_one, cut_out, taken_of, take_out}
use Rattle.qq_parts.specs.Turns.{credit_of_one}
use Rattle.qq_parts.specs.Consumers.{change_one, keep_ones, needed_one, stays_one}
use Rattle.qq_parts.specs.Work.{Work, say, with_parts}
use Rattle.qq_parts.specs.Ends.{parts_end, parts_end_by, parts_end_deliveries}
use Rattle.qq_parts.specs.Commands.{one_of, parts_take_turn, parts_begin_to_wait, parts_leave_or_wait, parts_finish_by, parts_finish, session_outs, parts_return_session}
use Rattle.qq_parts.specs.AtOnce.{Cuts, first_cut, cut_ids, cut_all, parts_end_items, finish_at_once, first_of_session, without_first, return_first_of}

-- Other consumers and turns ---------------------------------------------------------------------------

abbrev roster : List Served → ℕ → Parts → Parts
roster ones turns m = record m { rest = record (m.rest) { turns = turns }; served = ones }

abbrev with_roster : List Served → ℕ → Work → Work
with_roster ones turns t = record { parts = roster ones turns t.parts; effects = t.effects }

bury-roster : (strategy : Strategy) (reason : Reason) (x : Item) (m : Parts) (ones : List Served) (turns : ℕ)
    → bury strategy reason x (roster ones turns m) ≡ roster ones turns (bury strategy reason x m)
bury-roster Absent reason x m ones turns = refl
bury-roster AtMostOnce reason x m ones turns = refl
bury-roster AtLeastOnce reason x m ones turns = refl

put-roster : (limit : Option ℕ) (x : Item) (m : Parts) (ones : List Served) (turns : ℕ)
    → put_back limit x (roster ones turns m) ≡ roster ones turns (put_back limit x m)
put-roster None x m ones turns = refl
put-roster (Some limit) x m ones turns = refl

back-roster : (x : Item) (m : Parts) (ones : List Served) (turns : ℕ)
    → give_back x (roster ones turns m) ≡ roster ones turns (give_back x m)
back-roster x m ones turns = by (is_spent m x)
  where
    by : (b : Bool)
        → (if b then bury m.rest.args.strategy reason.DeliveryLimit (recounted x) (roster ones turns m)
        else put_back m.rest.args.delivery_limit (recounted x) (roster ones turns m))
        ≡ roster ones turns (if b then bury m.rest.args.strategy reason.DeliveryLimit (recounted x) m
        else put_back m.rest.args.delivery_limit (recounted x) m)
    by true = bury-roster m.rest.args.strategy reason.DeliveryLimit (recounted x) m ones turns
    by false = put-roster m.rest.args.delivery_limit (recounted x) m ones turns

-- the end of a message looks at none of them
end-roster : (outcome : Outcome) (x : Item) (t : Work) (ones : List Served) (turns : ℕ)
    → parts_end outcome x (with_roster ones turns t) ≡ with_roster ones turns (parts_end outcome x t)
end-roster Settled x t ones turns = refl
end-roster Returned x t ones turns =
    ap (λ (m : Parts). record { parts = m; effects = t.effects ++ back_letter x t.parts })
    (back-roster x t.parts ones turns)
end-roster Discarded x t ones turns =
    ap (λ (m : Parts). record {
      parts = m;
      effects = t.effects ++ dead_letter t.parts.rest.args.strategy reason.Rejected x;
    })
    (bury-roster t.parts.rest.args.strategy reason.Rejected x t.parts ones turns)

items-roster : (outcome : Outcome) (xs : List Item) (t : Work) (ones : List Served) (turns : ℕ)
    → parts_end_items outcome xs (with_roster ones turns t) ≡ with_roster ones turns (parts_end_items outcome xs t)
items-roster outcome [] t ones turns = refl
items-roster outcome (x ∷ xs) t ones turns =
    ap (parts_end_items outcome xs) (end-roster outcome x t ones turns)
    ∙ items-roster outcome xs (parts_end outcome x t) ones turns

-- The ids of a command --------------------------------------------------------------------------------

apart-out : (c : Consumer) (out other : List Item) (before after : List Served)
    → AreApart (before ++ record { consumer = c; out = out } ∷ after)
    → AreApart (before ++ record { consumer = c; out = other } ∷ after)
apart-out c out other [] after apart = apart
apart-out c out other (first ∷ before) after apart =
    (each before apart.0, apart-out c out other before after apart.1)
  where
    each : (list : List Served)
        → AllByRecursion (AreTwo first) (list ++ record { consumer = c; out = out } ∷ after)
        → AllByRecursion (AreTwo first) (list ++ record { consumer = c; out = other } ∷ after)
    each [] two = two
    each (one ∷ list) two = (two.0, each list two.1)

-- the delivery of an id is looked up in its consumer's own list
cut-own : (c : Consumer) (id : ℕ) (out : List Item) (before after : List Served) (o : Option Cut)
    → AreApart (before ++ record { consumer = c; out = out } ∷ after) → cut_id id out ≡ o
    → cut_out c.id id (before ++ record { consumer = c; out = out } ∷ after)
    ≡ option_map (λ (cut : Cut). record {
      item = cut.item;
      served = before ++ record { consumer = c; out = cut.rest } ∷ after;
    }) o
cut-own c id out [] after o apart found =
    let one : Served = record { consumer = c; out = out } in
    cond-true (same_consumer c.id c.id) (option_map (out_of one after) (cut_id id out))
    (option_map (behind_one one) (cut_out c.id id after)) (same_consumer-refl c.id)
    ∙ ap (option_map (out_of one after)) found ∙ by o
  where
    by : (o : Option Cut) → option_map (out_of (record { consumer = c; out = out }) after) o
        ≡ option_map (λ (cut : Cut). record {
          item = cut.item;
          served = record { consumer = c; out = cut.rest } ∷ after;
        }) o
    by None = refl
    by (Some cut) = refl
cut-own c id out (first ∷ before) after o apart found =
    let one : Served = record { consumer = c; out = out } in
    let two : AreTwo first one =
    AllByRecursion-in (AreTwo first) one (before ++ one ∷ after) apart.0
    (In-append_right one before (one ∷ after) (inl refl)) in
    cond-false (same_consumer first.consumer.id c.id)
    (option_map (out_of first (before ++ one ∷ after)) (cut_id id first.out))
    (option_map (behind_one first) (cut_out c.id id (before ++ one ∷ after))) two.0
    ∙ ap (option_map (behind_one first)) (cut-own c id out before after o apart.1 found) ∙ by o
  where
    by : (o : Option Cut)
        → option_map (behind_one first) (option_map (λ (cut : Cut). record {
          item = cut.item;
          served = before ++ record { consumer = c; out = cut.rest } ∷ after;
        }) o)
        ≡ option_map (λ (cut : Cut). record {
          item = cut.item;
          served = first ∷ (before ++ record { consumer = c; out = cut.rest } ∷ after);
        }) o
    by None = refl
    by (Some cut) = refl

-- the consumers with this out list
abbrev At : Consumer → List Item → List Served → List Served → Work → Work
At c out before after t =
    record {
      parts = record (t.parts) { served = before ++ record { consumer = c; out = out } ∷ after };
      effects = t.effects;
    }

-- the end of a message, with other consumers
end-at : (outcome : Outcome) (x : Item) (c : Consumer) (out : List Item) (before after : List Served) (t : Work)
    → parts_end outcome x (At c out before after t) ≡ At c out before after (parts_end outcome x t)
end-at outcome x c out before after t =
    let ones : List Served = before ++ record { consumer = c; out = out } ∷ after in
    end-roster outcome x t ones t.parts.rest.turns
    ∙ ap (λ n. with_roster ones n (parts_end outcome x t)) (sym (turns outcome))
  where
    turns : (o : Outcome) → (parts_end o x t).parts.rest.turns ≡ t.parts.rest.turns
    turns o = ap (λ (u : Work). u.parts.rest.turns) (end-roster o x t t.parts.served t.parts.rest.turns)

ends-split : (outcome : Outcome) (c : Consumer) (ids : List ℕ) (out : List Item) (before after : List Served) (t : Work)
    → AreApart (before ++ record { consumer = c; out = out } ∷ after)
    → parts_end_deliveries outcome c.id ids (At c out before after t)
    ≡ At c (cut_ids ids out).rest before after (parts_end_items outcome (cut_ids ids out).items t)
ends-split outcome c [] out before after t apart = refl
ends-split outcome c (id ∷ ids) out before after t apart =
    by (cut_id id out) refl (λ list u far. ends-split outcome c ids list before after u far)
  where
    m : Parts
    m = record (t.parts) { served = before ++ record { consumer = c; out = out } ∷ after }

    step : Option Taken → Work
    step o = parts_end_by outcome o (At c out before after t)

    cuts : Option Cut → Cuts
    cuts o = option_map_or (λ (cut : Cut). first_cut cut.item (cut_ids ids cut.rest)) o (cut_ids ids out)

    by : (o : Option Cut) → cut_id id out ≡ o
        → ((list : List Item) (u : Work) → AreApart (before ++ record { consumer = c; out = list } ∷ after)
        → parts_end_deliveries outcome c.id ids (At c list before after u)
        ≡ At c (cut_ids ids list).rest before after (parts_end_items outcome (cut_ids ids list).items u))
        → parts_end_deliveries outcome c.id ids (step (take_out c.id id m))
        ≡ At c (cuts (cut_id id out)).rest before after (parts_end_items outcome (cuts (cut_id id out)).items t)
    by None found rest =
        ap (λ (o : Option CutOut). parts_end_deliveries outcome c.id ids (step (option_map (taken_of m) o)))
        (cut-own c id out before after None apart found)
        ∙ rest out t apart
        ∙ ap (λ (o : Option Cut). At c (cuts o).rest before after (parts_end_items outcome (cuts o).items t))
        (sym found)
    by (Some cut) found rest =
        ap (λ (o : Option CutOut). parts_end_deliveries outcome c.id ids (step (option_map (taken_of m) o)))
        (cut-own c id out before after (Some cut) apart found)
        ∙ ap (parts_end_deliveries outcome c.id ids) (end-at outcome cut.item c cut.rest before after t)
        ∙ rest cut.rest (parts_end outcome cut.item t) (apart-out c out cut.rest before after apart)
        ∙ ap (λ (o : Option Cut). At c (cuts o).rest before after (parts_end_items outcome (cuts o).items t))
        (sym found)

-- where a consumer stands
record IsAt (id : ConsumerId) (one : Served) (ones : List Served) : Type 0 where
  before : List Served
  after : List Served
  is : ones ≡ before ++ one ∷ after
  own : one.consumer.id ≡ id

place : (id : ConsumerId) (one : Served) (ones : List Served) → one_of id ones ≡ Some one → IsAt id one ones
place id one [] found = absurd cc
place id one (first ∷ ones) found =
    by (cases_Bool (same_consumer first.consumer.id id)) (λ later. place id one ones later)
  where
    by : (same_consumer first.consumer.id id ≡ true) ⊎ (same_consumer first.consumer.id id ≡ false)
        → (one_of id ones ≡ Some one → IsAt id one ones) → IsAt id one (first ∷ ones)
    by (inl same) rest =
        let here : Some first ≡ Some one =
        sym (cond-true (same_consumer first.consumer.id id) (Some first) (one_of id ones) same) ∙ found in
        let itself : first ≡ one = cc in
        record {
          before = [];
          after = ones;
          is = ap (λ (k : Served). k ∷ ones) itself;
          own = ap (λ (k : Served). k.consumer.id) (sym itself) ∙ same_consumer-true first.consumer.id id same;
        }
    by (inr other) rest =
        let later = rest (sym (cond-false (same_consumer first.consumer.id id) (Some first) (one_of id ones) other)
        ∙ found) in
        record {
          before = first ∷ later.before;
          after = later.after;
          is = ap (λ (list : List Served). first ∷ list) later.is;
          own = later.own;
        }

-- all ids are cut in that consumer alone
cut-all_other : (id : ConsumerId) (ids : List ℕ) (ones : List Served)
    → AllByRecursion (λ (k : Served). same_consumer k.consumer.id id ≡ false) ones → cut_all id ids ones ≡ ones
cut-all_other id ids [] each = refl
cut-all_other id ids (one ∷ ones) each =
    ap (λ (k : Served). k ∷ cut_all id ids ones)
    (cond-false (same_consumer one.consumer.id id)
    (record { consumer = one.consumer; out = (cut_ids ids one.out).rest }) one each.0)
    ∙ ap (λ (list : List Served). one ∷ list) (cut-all_other id ids ones each.1)

cut-all_at : (c : Consumer) (out : List Item) (ids : List ℕ) (before after : List Served)
    → AreApart (before ++ record { consumer = c; out = out } ∷ after)
    → cut_all c.id ids (before ++ record { consumer = c; out = out } ∷ after)
    ≡ before ++ record { consumer = c; out = (cut_ids ids out).rest } ∷ after
cut-all_at c out ids [] after apart =
    let one : Served = record { consumer = c; out = out } in
    let new : Served = record { consumer = c; out = (cut_ids ids out).rest } in
    ap (λ (k : Served). k ∷ cut_all c.id ids after)
    (cond-true (same_consumer c.id c.id) new one (same_consumer-refl c.id))
    ∙ ap (λ (list : List Served). new ∷ list) (cut-all_other c.id ids after (each after apart.0))
  where
    each : (list : List Served) → AllByRecursion (AreTwo (record { consumer = c; out = out })) list
        → AllByRecursion (λ (k : Served). same_consumer k.consumer.id c.id ≡ false) list
    each [] two = tt
    each (k ∷ list) two = (two.0.1, each list two.1)
cut-all_at c out ids (first ∷ before) after apart =
    let one : Served = record { consumer = c; out = out } in
    let two : AreTwo first one =
    AllByRecursion-in (AreTwo first) one (before ++ one ∷ after) apart.0
    (In-append_right one before (one ∷ after) (inl refl)) in
    ap (λ (k : Served). k ∷ cut_all c.id ids (before ++ one ∷ after))
    (cond-false (same_consumer first.consumer.id c.id)
    (record { consumer = first.consumer; out = (cut_ids ids first.out).rest }) first two.0)
    ∙ ap (λ (list : List Served). first ∷ list) (cut-all_at c out ids before after apart.1)

-- Leaving and waiting ---------------------------------------------------------------------------------

abbrev ones_after : Bool → Option Served → List Served → ℕ → List Served
ones_after false o ones turns = ones
ones_after true None ones turns = ones
ones_after true (Some one) ones turns = map (change_one (record (one.consumer) { turn = turns + 1 })) ones

abbrev turns_after : Bool → Option Served → ℕ → ℕ
turns_after false o turns = turns
turns_after true None turns = turns
turns_after true (Some one) turns = turns + 1

takes-by : (b : Bool) (o : Option Served) (ones : List Served) (turns : ℕ) (m : Parts)
    → (if b then parts_take_turn o (roster ones turns m) else roster ones turns m)
    ≡ roster (ones_after b o ones turns) (turns_after b o turns) m
takes-by false o ones turns m = refl
takes-by true None ones turns m = refl
takes-by true (Some one) ones turns m = refl

-- whether the consumer of an id draws a turn
abbrev draws_turn : ℕ → ConsumerId → List Served → Bool
draws_turn before id ones = nat_eq before 0 && nat_lt 0 (option_map_or credit_of_one (one_of id ones) 0)

waits-by : (before : ℕ) (id : ConsumerId) (ones : List Served) (turns : ℕ) (m : Parts)
    → parts_begin_to_wait before id (keep_ones needed_one (roster ones turns m))
    ≡ roster
    (ones_after (draws_turn before id (filter needed_one ones)) (one_of id (filter needed_one ones))
    (filter needed_one ones) turns)
    (turns_after (draws_turn before id (filter needed_one ones)) (one_of id (filter needed_one ones)) turns) m
waits-by before id ones turns m =
    let stay : List Served = filter needed_one ones in
    takes-by (draws_turn before id stay) (one_of id stay) stay turns m

turns-same : (outcome : Outcome) (xs : List Item) (t : Work)
    → (parts_end_items outcome xs t).parts.rest.turns ≡ t.parts.rest.turns
turns-same outcome xs t =
    ap (λ (u : Work). u.parts.rest.turns) (items-roster outcome xs t t.parts.served t.parts.rest.turns)

pub finishes_at_once : (outcome : Outcome) (id : ConsumerId) (ids : List ℕ) (one : Served) (t : Work)
    → IsWhole t.parts → one_of id t.parts.served ≡ Some one
    → parts_finish outcome id ids t ≡ finish_at_once outcome id ids one t
unfolding parts_finish
finishes_at_once outcome id ids one t whole found =
    let at = place id one t.parts.served found in
    let c : Consumer = one.consumer in
    let n : ℕ = t.parts.rest.turns in
    let before : ℕ = credit_of_one one in
    let items : List Item = (cut_ids ids one.out).items in
    let ones : List Served = at.before ++ record { consumer = c; out = (cut_ids ids one.out).rest } ∷ at.after in
    let stay : List Served = filter needed_one ones in
    let all : List Served = ones_after (draws_turn before id stay) (one_of id stay) stay n in
    let last : ℕ = turns_after (draws_turn before id stay) (one_of id stay) n in
    let u : Work = parts_end_items outcome items t in
    let apart : AreApart (at.before ++ one ∷ at.after) = subst AreApart at.is whole.apart in
    let ends : parts_end_deliveries outcome id ids t ≡ At c (cut_ids ids one.out).rest at.before at.after u =
    ap (λ (i : ConsumerId). parts_end_deliveries outcome i ids t) (sym at.own)
    ∙ ap (λ (list : List Served). parts_end_deliveries outcome c.id ids (record {
      parts = record (t.parts) { served = list };
      effects = t.effects;
    })) at.is
    ∙ ends-split outcome c ids one.out at.before at.after t apart in
    let left : parts_begin_to_wait before id (keep_ones needed_one (record (u.parts) { served = ones }))
    ≡ roster all last u.parts =
    ap (λ k. parts_begin_to_wait before id (keep_ones needed_one (roster ones k u.parts)))
    (turns-same outcome items t)
    ∙ waits-by before id ones n u.parts in
    let cuts : cut_all id ids t.parts.served ≡ ones =
    ap (λ (i : ConsumerId). cut_all i ids t.parts.served) (sym at.own) ∙ ap (cut_all c.id ids) at.is
    ∙ cut-all_at c one.out ids at.before at.after apart in
    let right : parts_begin_to_wait before id
    (keep_ones needed_one (record (t.parts) { served = cut_all id ids t.parts.served })) ≡ roster all last t.parts =
    ap (λ (list : List Served). parts_begin_to_wait before id
    (keep_ones needed_one (record (t.parts) { served = list }))) cuts
    ∙ waits-by before id ones n t.parts in
    ap (λ (o : Option Served). parts_finish_by o outcome id ids t) found
    ∙ ap (λ k. say Done (parts_leave_or_wait id k (parts_end_deliveries outcome id ids t)))
    (ap (λ (o : Option Served). option_map_or credit_of_one o 0) found)
    ∙ ap (λ (v : Work). say Done (parts_leave_or_wait id before v)) ends
    ∙ ap (λ (m : Parts). say Done (record { parts = m; effects = u.effects })) left
    ∙ ap (say Done) (sym (items-roster outcome items t all last))
    ∙ ap (λ (m : Parts). say Done (parts_end_items outcome items (with_parts m t))) (sym right)

-- Down ------------------------------------------------------------------------------------------------

abbrev with_ones : List Served → Work → Work
with_ones ones t = record { parts = record (t.parts) { served = ones }; effects = t.effects }

items-ones : (xs : List Item) (t : Work) (ones : List Served)
    → parts_end_items Returned xs (with_ones ones t) ≡ with_ones ones (parts_end_items Returned xs t)
items-ones xs t ones =
    items-roster Returned xs t ones t.parts.rest.turns
    ∙ ap (λ n. with_roster ones n (parts_end_items Returned xs t)) (sym (turns-same Returned xs t))

abbrev of_session : SessionId → Served → Bool
of_session session one = is_of_session session one.consumer

record SplitsOff (session : SessionId) (one : Served) (ones : List Served) : Type 0 where
  items : session_outs session ones ≡ one.out ++ session_outs session (without_first session ones)
  stay : filter (stays_one session) ones ≡ filter (stays_one session) (without_first session ones)

splits-off : (session : SessionId) (one : Served) (ones : List Served) → first_of_session session ones ≡ Some one
    → SplitsOff session one ones
splits-off session one [] found = absurd cc
splits-off session one (first ∷ ones) found =
    by (cases_Bool (of_session session first)) (λ later. splits-off session one ones later)
  where
    by : (of_session session first ≡ true) ⊎ (of_session session first ≡ false)
        → (first_of_session session ones ≡ Some one → SplitsOff session one ones)
        → SplitsOff session one (first ∷ ones)
    by (inl mine) rest =
        let here : Some first ≡ Some one =
        sym (cond-true (of_session session first) (Some first) (first_of_session session ones) mine) ∙ found in
        let itself : first ≡ one = cc in
        let without : without_first session (first ∷ ones) ≡ ones =
        cond-true (of_session session first) ones (first ∷ without_first session ones) mine in
        record {
          items =
              ap outs (cond-true (of_session session first) (first ∷ filter (of_session session) ones)
              (filter (of_session session) ones) mine)
              ∙ ap (λ (k : Served). k.out ++ session_outs session ones) itself
              ∙ ap (λ (list : List Served). one.out ++ session_outs session list) (sym without);
          stay =
              cond-false (not (of_session session first)) (first ∷ filter (stays_one session) ones)
              (filter (stays_one session) ones) (ap not mine)
              ∙ ap (filter (stays_one session)) (sym without);
        }
    by (inr other) rest =
        let later = rest (sym (cond-false (of_session session first) (Some first) (first_of_session session ones) other)
        ∙ found) in
        let left : List Served = without_first session ones in
        let without : without_first session (first ∷ ones) ≡ first ∷ left =
        cond-false (of_session session first) ones (first ∷ left) other in
        record {
          items =
              ap outs (cond-false (of_session session first) (first ∷ filter (of_session session) ones)
              (filter (of_session session) ones) other)
              ∙ later.items
              ∙ ap (λ (list : List Served). one.out ++ outs list)
              (sym (cond-false (of_session session first) (first ∷ filter (of_session session) left)
              (filter (of_session session) left) other))
              ∙ ap (λ (list : List Served). one.out ++ session_outs session list) (sym without);
          stay =
              cond-true (not (of_session session first)) (first ∷ filter (stays_one session) ones)
              (filter (stays_one session) ones) (ap not other)
              ∙ ap (λ (list : List Served). first ∷ list) later.stay
              ∙ sym (cond-true (not (of_session session first)) (first ∷ filter (stays_one session) left)
              (filter (stays_one session) left) (ap not other))
              ∙ ap (filter (stays_one session)) (sym without);
        }

pub goes_first : (session : SessionId) (one : Served) (t : Work) → first_of_session session t.parts.served ≡ Some one
    → parts_return_session session t ≡ parts_return_session session (return_first_of session one t)
goes_first session one t found =
    let left : List Served = without_first session t.parts.served in
    let rest : List Item = session_outs session left in
    let v : Work = parts_end_items Returned one.out t in
    let off = splits-off session one t.parts.served found in
    ap (λ (list : List Served). parts_end_items Returned (session_outs session t.parts.served) (with_ones list t))
    off.stay
    ∙ ap (λ (xs : List Item). parts_end_items Returned xs (with_ones (filter (stays_one session) left) t)) off.items
    ∙ fold-append (λ (now : Work) (x : Item). parts_end Returned x now) (with_ones (filter (stays_one session) left) t)
    one.out rest
    ∙ ap (parts_end_items Returned rest) (items-ones one.out t (filter (stays_one session) left))
    ∙ ap (parts_return_session session) (sym (items-ones one.out t left))

-- where no consumer is one of the session, nothing happens
none-first : (session : SessionId) (ones : List Served) → first_of_session session ones ≡ None
    → (session_outs session ones ≡ []) × (filter (stays_one session) ones ≡ ones)
none-first session [] none = (refl, refl)
none-first session (first ∷ ones) none =
    by (cases_Bool (of_session session first)) (λ later. none-first session ones later)
  where
    by : (of_session session first ≡ true) ⊎ (of_session session first ≡ false)
        → (first_of_session session ones ≡ None
        → (session_outs session ones ≡ []) × (filter (stays_one session) ones ≡ ones))
        → (session_outs session (first ∷ ones) ≡ []) × (filter (stays_one session) (first ∷ ones) ≡ first ∷ ones)
    by (inl mine) rest =
        let clash : Some first ≡ None =
        sym (cond-true (of_session session first) (Some first) (first_of_session session ones) mine) ∙ none in
        absurd cc
    by (inr other) rest =
        let later = rest (sym (cond-false (of_session session first) (Some first) (first_of_session session ones) other)
        ∙ none) in (
          ap outs (cond-false (of_session session first) (first ∷ filter (of_session session) ones)
              (filter (of_session session) ones) other)
              ∙ later.0,
          cond-true (not (of_session session first)) (first ∷ filter (stays_one session) ones)
              (filter (stays_one session) ones) (ap not other)
              ∙ ap (λ (list : List Served). first ∷ list) later.1,
        )

pub nobody_goes : (session : SessionId) (t : Work) → first_of_session session t.parts.served ≡ None
    → parts_return_session session t ≡ t
nobody_goes session t found =
    let none = none-first session t.parts.served found in
    ap (λ (xs : List Item). parts_end_items Returned xs (with_ones (filter (stays_one session) t.parts.served) t)) none.0
    ∙ ap (λ (list : List Served). with_ones list t) none.1
