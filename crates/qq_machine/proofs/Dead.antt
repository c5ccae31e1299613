-- The dead letters of a queue are those of its parts.
use Rattle.std.proofs.Common.{◌≡◌, ℕ, ◌+◌, ◌<◌, Bool, true, false, not, ◌&&◌, List, [], ◌∷◌, ◌++◌, Option, Some, None, map, nat_eq, nat_lt, refl, sym, ap, ◌∙◌, subst, inl, inr, arith, if◌then◌else◌}
use Rattle.std.specs.Prelude.{nat_le, find, filter, is_some}
use Rattle.std.specs.List.{AllByRecursion}
use Rattle.std.specs.Option.{option_map}
use Rattle.std.proofs.lemmas.Bool.{cases_Bool, cond-true, cond-false, ne_eqb, eqb-true, eq-eqb}
use Rattle.qq_entry.specs.declared.audit.Effect.{Effect}
use Rattle.qq_entry.specs.declared.audit.Effect.TheVariants.{Offer}
use Rattle.qq_entry.specs.declared.message.Message.{Message}
use Rattle.qq_entry.specs.declared.queue.QueueArgs.{QueueArgs}
use Rattle.qq_model.specs.declared.TheConstants.{MOST_GIVEN}
use Rattle.qq_parts.specs.Reduced.{Item}
use Rattle.qq_parts.specs.Parts.{Parts, item_number}
use Rattle.qq_parts.specs.Outs.{Cut, cut_id, behind_item}
use Rattle.qq_parts.specs.Letters.{first_above, dead_of, take_dead}
use Rattle.qq_parts.specs.Commands.{DeadSettled, take_given, parts_settle_dead_by}
use Rattle.qq_entry.specs.declared.message.ReadyRow.{ReadyRow}
use Rattle.qq_parts.specs.Work.{Work}
use Rattle.qq_parts.specs.Follows.{may_give, parts_offer_by, parts_give_dead}
use Rattle.qq_dead.specs.declared.row.DeadRow.{DeadRow}
use Rattle.qq_dead.specs.Letters.{Letters, Rises, has_number, next_dead, next_offer, give, give_by, settled, settle, may_settle}
use Rattle.qq_dead.specs.Letters.{may_give as may_offer}
use Rattle.qq_machine.specs.Views.{dead_item, work_of, parts_of}
use Rattle.qq_machine.specs.declared.queue.Queue.{Queue}
use Rattle.qq_machine.specs.declared.queue.Draft.{Draft}
use Rattle.qq_machine.proofs.Lists.{find-over, count-over}

-- other dead letters
abbrev pub with_letters : Letters → Work → Work
with_letters d t =
    record t {
      parts =
          record (t.parts) {
            rest = record (t.parts.rest) { deads = d.deads; given = d.given; attached = d.attached };
            dead = map dead_item d.rows;
          };
    }

abbrev offer_of : DeadRow → Message → Effect
offer_of one message = Offer one.number one.reason message

may-is : (args : QueueArgs) (old : Queue) → may_give (parts_of args old) ≡ may_offer old.dead.store.letters
may-is args old =
    let d : Letters = old.dead.store.letters in
    ap (λ n. nat_lt 0 d.attached && nat_lt n MOST_GIVEN)
    (count-over (λ (x : Item). nat_le (item_number x) d.given) dead_item d.rows)

above-is : (d : Letters) → first_above d.given (map dead_item d.rows) ≡ option_map dead_item (next_dead d.given d.rows)
above-is d = find-over (λ (x : Item). nat_lt d.given (item_number x)) dead_item d.rows

offered-by : (b : Bool) (o : Option DeadRow) (t : Work)
    → (if b then parts_offer_by (option_map dead_item o) t else None)
    ≡ parts_offer_by (option_map dead_item (if b then o else None)) t
offered-by true o t = refl
offered-by false o t = refl

-- what is offered next is what the list offers next
pub offer-is : (args : QueueArgs) (old : Draft)
    → parts_give_dead (work_of args old)
    ≡ parts_offer_by (option_map dead_item (next_offer old.queue.dead.store.letters)) (work_of args old)
unfolding parts_give_dead
offer-is args old =
    let d : Letters = old.queue.dead.store.letters in
    let t : Work = work_of args old in
    ap (λ (b : Bool). if b then parts_offer_by (first_above d.given t.parts.dead) t else None) (may-is args old.queue)
    ∙ ap (λ (o : Option Item). if may_offer d then parts_offer_by o t else None) (above-is d)
    ∙ offered-by (may_offer d) (next_dead d.given d.rows) t

pub nothing-offered : (args : QueueArgs) (old : Draft) → next_offer old.queue.dead.store.letters ≡ None
    → parts_give_dead (work_of args old) ≡ None
nothing-offered args old none =
    offer-is args old ∙ ap (λ (o : Option DeadRow). parts_offer_by (option_map dead_item o) (work_of args old)) none

-- and it is given
pub offered : (args : QueueArgs) (old : Draft) (one : DeadRow) (d : Letters) (message : Message)
    → next_offer old.queue.dead.store.letters ≡ Some one → d ≡ give old.queue.dead.store.letters
    → message ≡ one.row.message
    → parts_give_dead (work_of args old)
    ≡ Some (record (with_letters d (work_of args old)) { effects = old.effects.items ++ offer_of one message ∷ [] })
offered args old one d message some gave same =
    let t : Work = work_of args old in
    let given : d ≡ record (old.queue.dead.store.letters) { given = one.number } =
    gave ∙ ap (λ (o : Option DeadRow). give_by o old.queue.dead.store.letters) some in
    offer-is args old ∙ ap (λ (o : Option DeadRow). parts_offer_by (option_map dead_item o) t) some
    ∙ ap (λ (k : Letters). Some (record (with_letters k t) {
      effects = old.effects.items ++ offer_of one one.row.message ∷ [];
    })) (sym given)
    ∙ ap (λ (m : Message). Some (record (with_letters d t) {
      effects = old.effects.items ++ offer_of one m ∷ [];
    })) (sym same)

-- A settled one is taken out --------------------------------------------------------------------------

filter-above : (number : ℕ) (rows : List DeadRow) → AllByRecursion (λ (one : DeadRow). number < one.number) rows
    → filter (λ (one : DeadRow). not (has_number number one)) rows ≡ rows
filter-above number [] each = refl
filter-above number (one ∷ rows) each =
    let stays : DeadRow → Bool = λ other. not (has_number number other) in
    cond-true (stays one) (one ∷ filter stays rows) (filter stays rows)
    (ap not (ne_eqb one.number number (λ e. absurd (omega (arith, each.0, e)))))
    ∙ ap (λ (xs : List DeadRow). one ∷ xs) (filter-above number rows each.1)

abbrev cut_row : ℕ → List DeadRow → DeadRow → Cut
cut_row number rows one =
    record {
      item = dead_item one;
      rest = map dead_item (filter (λ (other : DeadRow). not (has_number number other)) rows);
    }

-- the item of a number in the parts
pub cut-is : (number : ℕ) (rows : List DeadRow) → Rises rows
    → cut_id number (map dead_item rows) ≡ option_map (cut_row number rows) (find (has_number number) rows)
cut-is number [] rising = refl
cut-is number (one ∷ rows) rising = elim (cases_Bool (nat_eq one.number number)) [
  | inl same ↦
      let stays : DeadRow → Bool = λ other. not (has_number number other) in
      let equal : one.number ≡ number = eqb-true one.number number same in
      let rest : filter stays (one ∷ rows) ≡ rows =
      cond-false (stays one) (one ∷ filter stays rows) (filter stays rows) (ap not same)
      ∙ filter-above number rows
      (subst (λ (n : ℕ). AllByRecursion (λ (other : DeadRow). n < other.number) rows) equal rising.0) in
      cond-true (nat_eq one.number number) (Some (record { item = dead_item one; rest = map dead_item rows }))
      (option_map (behind_item (dead_item one)) (cut_id number (map dead_item rows))) same
      ∙ ap (λ (xs : List DeadRow). let o : Option Cut = Some (record {
        item = dead_item one;
        rest = map dead_item xs;
      }) in o) (sym rest)
      ∙ sym (ap (option_map (cut_row number (one ∷ rows)))
      (cond-true (has_number number one) (Some one) (find (has_number number) rows) same))
  | inr differ ↦
      let stays : DeadRow → Bool = λ other. not (has_number number other) in
      let rest : filter stays (one ∷ rows) ≡ one ∷ filter stays rows =
      cond-true (stays one) (one ∷ filter stays rows) (filter stays rows) (ap not differ) in
      cond-false (nat_eq one.number number) (Some (record { item = dead_item one; rest = map dead_item rows }))
      (option_map (behind_item (dead_item one)) (cut_id number (map dead_item rows))) differ
      ∙ ap (option_map (behind_item (dead_item one))) (cut-is number rows rising.1)
      ∙ behind (find (has_number number) rows) (filter stays (one ∷ rows)) rest
      ∙ sym (ap (option_map (cut_row number (one ∷ rows)))
      (cond-false (has_number number one) (Some one) (find (has_number number) rows) differ))
]
  where
    behind : (o : Option DeadRow) (all : List DeadRow)
        → all ≡ one ∷ filter (λ (other : DeadRow). not (has_number number other)) rows
        → option_map (behind_item (dead_item one)) (option_map (cut_row number rows) o)
        ≡ option_map (λ (found : DeadRow). let c : Cut = record {
          item = dead_item found;
          rest = map dead_item all;
        } in c) o
    behind None all is = refl
    behind (Some found) all is =
        ap (λ (xs : List DeadRow). let o : Option Cut = Some (record {
          item = dead_item found;
          rest = map dead_item xs;
        }) in o) (sym is)

none-stays : (number : ℕ) (rows : List DeadRow) → find (has_number number) rows ≡ None
    → filter (λ (one : DeadRow). not (has_number number one)) rows ≡ rows
none-stays number [] none = refl
none-stays number (one ∷ rows) none = elim (cases_Bool (has_number number one)) [
  | inl same ↦
      absurd (some-none one (sym (cond-true (has_number number one) (Some one) (find (has_number number) rows) same)
      ∙ none))
  | inr differ ↦
      let stays : DeadRow → Bool = λ other. not (has_number number other) in
      cond-true (stays one) (one ∷ filter stays rows) (filter stays rows) (ap not differ)
      ∙ ap (λ (xs : List DeadRow). one ∷ xs)
      (none-stays number rows
      (sym (cond-false (has_number number one) (Some one) (find (has_number number) rows) differ) ∙ none))
]
  where
    some-none : (k : DeadRow) → Some k ≡ None → ⊥
    some-none k is = absurd cc

-- a dead letter is settled, or its number isn't one that was given
pub settles-one : (args : QueueArgs) (old : Draft) (term number count : ℕ) (o : Option ReadyRow) (d : Letters)
    → term ≡ old.queue.dead.store.letters.attached → Rises old.queue.dead.store.letters.rows
    → o ≡ option_map (λ (one : DeadRow). one.row) (settled term number old.queue.dead.store.letters)
    → d ≡ settle term number old.queue.dead.store.letters
    → parts_settle_dead_by (take_given number (parts_of args old.queue))
    (record { work = work_of args old; count = count })
    ≡ record { work = with_letters d (work_of args old); count = if is_some o then count + 1 else count }
settles-one args old term number count o d attached rising value made =
    by (nat_le number l.given) (find (has_number number) l.rows) refl
    (value ∙ ap (λ (b : Bool). option_map (λ (one : DeadRow). one.row)
    (if b && nat_le number l.given then find (has_number number) l.rows else None)) given)
    (made ∙ ap (λ (b : Bool). if b && nat_le number l.given then
    record l { rows = filter (λ (one : DeadRow). not (has_number number one)) l.rows } else l) given)
  where
    l : Letters
    l = old.queue.dead.store.letters

    given : nat_eq term l.attached ≡ true
    given = eq-eqb term l.attached attached

    m : Parts
    m = parts_of args old.queue

    start : DeadSettled
    start = record { work = work_of args old; count = count }

    made_of : Letters → Option ReadyRow → DeadSettled
    made_of k r = record { work = with_letters k (work_of args old); count = if is_some r then count + 1 else count }

    ends : (k : Letters) (r : Option ReadyRow) → d ≡ k → o ≡ r → made_of k r ≡ made_of d o
    ends k r is same =
        ap (λ (x : Letters). made_of x r) (sym is) ∙ ap (λ (x : Option ReadyRow). made_of d x) (sym same)

    by : (b : Bool) (f : Option DeadRow) → find (has_number number) l.rows ≡ f
        → o ≡ option_map (λ (one : DeadRow). one.row) (if b then f else None)
        → d ≡ (if b then record l { rows = filter (λ (one : DeadRow). not (has_number number one)) l.rows } else l)
        → parts_settle_dead_by (if b then take_dead number m else None) start ≡ made_of d o
    by false f found value made = ends l None made value
    by true None found value made =
        ap (λ (c : Option Cut). parts_settle_dead_by (option_map (dead_of m) c) start)
        (cut-is number l.rows rising ∙ ap (option_map (cut_row number l.rows)) found)
        ∙ ends l None
        (made ∙ ap (λ (xs : List DeadRow). record l { rows = xs }) (none-stays number l.rows found)) value
    by true (Some one) found value made =
        ap (λ (c : Option Cut). parts_settle_dead_by (option_map (dead_of m) c) start)
        (cut-is number l.rows rising ∙ ap (option_map (cut_row number l.rows)) found)
        ∙ ends (record l { rows = filter (λ (other : DeadRow). not (has_number number other)) l.rows })
        (Some one.row) made value

pub attached_stays : (term number : ℕ) (d k : Letters) → k ≡ settle term number d → k.attached ≡ d.attached
attached_stays term number d k made =
    ap (λ (x : Letters). x.attached) made ∙ by (may_settle term number d)
  where
    by : (b : Bool) → (let x : Letters = if b then
        record d { rows = filter (λ (one : DeadRow). not (has_number number one)) d.rows }
        else d in x.attached) ≡ d.attached
    by true = refl
    by false = refl
