-- Whether a number has passed its end, in the parts and in the queue that they stand for.
use Rattle.std.proofs.Common.{◌≡◌, ℕ, zero, suc, ◌+◌, ◌<◌, ◌≤◌, Bool, true, false, ◌&&◌, List, [], ◌∷◌, map, drop, length, refl, sym, ap, ◌∙◌, subst, arith, inl, inr}
use Rattle.std.specs.Prelude.{nat_le, slice_get}
use Rattle.std.specs.List.{AllByRecursion, list_all}
use Rattle.std.specs.Option.{option_map_or}
use Rattle.std.proofs.lemmas.Bool.{false≢true, and_from, le-leb, leb-true}
use Rattle.qq_base.specs.declared.memory.TheConstants.{NUMBER_END}
use Rattle.qq_base.specs.declared.ids.Index.{Index}
use Rattle.qq_base.specs.declared.memory.Memory.{Memory}
use Rattle.qq_base.specs.declared.memory.Memory.TheVariants.{Want, Spent}
use Rattle.qq_base.specs.Causes.{SpentOnlyWhere}
use Rattle.qq_entry.specs.declared.answer.Answer.{Answer}
use Rattle.qq_entry.specs.declared.audit.Effect.{Effect}
use Rattle.qq_entry.specs.declared.command.Entry.{Entry}
use Rattle.qq_entry.specs.declared.queue.QueueArgs.{QueueArgs}
use Rattle.qq_entry.specs.Range.{IsInRange}
use Rattle.qq_model.specs.declared.place.Row.{Row}
use Rattle.qq_model.specs.State.{State, empty_queue, is_row_within, is_consumer_within, is_session_within, is_within_ends}
use Rattle.qq_model.specs.Audit.{next_step}
use Rattle.qq_laws.specs.Far.{IsReached, are_far}
use Rattle.qq_laws.proofs.Drawn.{IsCounted, IsDrawn, drawn_after}
use Rattle.qq_laws.proofs.Within.{is_within, next-reached}
use Rattle.qq_model.specs.Sound.{IsSound}
use Rattle.qq_parts.specs.Parts.{Served, Parts, Stands, IsWhole, consumer_at}
use Rattle.qq_parts.specs.Step.{PartsStep, parts_step, StepsFor}
use Rattle.qq_parts.proofs.Stepping.{steps}
use Rattle.qq_machine.specs.declared.queue.Queue.{Queue}
use Rattle.qq_machine.specs.Views.{parts_of}
use Rattle.qq_machine.specs.Within.{is_one_within, are_within, AreTold}

-- the rest says now what all said at first
pub all-more : {A : Type 0} (p : A → Bool) (xs : List A) (i : ℕ) → i < length xs
    → list_all p (drop i xs) ≡ (option_map_or p (slice_get xs i) true && list_all p (drop (i + 1) xs))
all-more p [] i lt = absurd (omega (arith, lt))
all-more p (x ∷ xs) zero lt = refl
all-more p (x ∷ xs) (suc i) lt =
    let more : suc i + 1 ≡ suc (i + 1) = omega arith in
    all-more p xs i (omega (arith, lt))
    ∙ ap (λ (k : ℕ). option_map_or p (slice_get xs i) true && list_all p (drop k (x ∷ xs))) (sym more)

consumers-are : (ones : List Served) → list_all is_consumer_within (map consumer_at ones) ≡ list_all is_one_within ones
consumers-are [] = refl
consumers-are (one ∷ ones) =
    ap (λ (b : Bool). is_one_within one && b) (consumers-are ones)

rows-within : (given : ℕ) (rows : List Row) → given ≤ NUMBER_END → AllByRecursion (IsCounted given) rows
    → list_all is_row_within rows ≡ true
rows-within given [] le each = refl
rows-within given (row ∷ rows) le each =
    let it = each.0 in
    and_from (is_row_within row) (list_all is_row_within rows) (le-leb row.count NUMBER_END (omega (arith, le, it)))
    (rows-within given rows le each.1)

-- with the rows among the numbers
without : (a r c d : Bool) → (a && c && d) ≡ false → (a && r && c && d) ≡ false
without true true c d is = is
without true false c d is = refl
without false r c d is = refl

with_all : (a r c d : Bool) → (a && c && d) ≡ true → r ≡ true → (a && r && c && d) ≡ true
with_all true true c d is rows = is
with_all true false c d is rows = absurd (false≢true rows)
with_all false r c d is rows = absurd (false≢true is)

-- the counters
abbrev six : State → Bool
six s =
    nat_le s.applied NUMBER_END && nat_le s.arrivals NUMBER_END
    && nat_le s.orders NUMBER_END && nat_le s.returns NUMBER_END
    && nat_le s.deads NUMBER_END && nat_le s.turns NUMBER_END

state-is : (m : Parts) (s : State) → Stands m s
    → is_within_ends s
    ≡ (six m.rest && list_all is_row_within s.rows && list_all is_one_within m.served
    && list_all is_session_within m.rest.sessions.opened)
state-is m s stands =
    ap is_within_ends stands.rest
    ∙ ap (λ (b : Bool). six m.rest && list_all is_row_within s.rows && b
    && list_all is_session_within m.rest.sessions.opened) (consumers-are m.served)

-- a number of the parts is one of the queue
pub passed : (m : Parts) (s : State) → Stands m s → are_within m ≡ false → is_within_ends s ≡ false
passed m s stands is =
    state-is m s stands
    ∙ without (six m.rest) (list_all is_row_within s.rows) (list_all is_one_within m.served)
    (list_all is_session_within m.rest.sessions.opened) is

-- and the counters tell of all that the parts don't have
pub told : (m : Parts) (s : State) → Stands m s → IsReached s → AreTold m → is_within_ends s ≡ true
told m s stands reached (inl far) = is_within s reached (ap are_far stands.rest ∙ far)
told m s stands reached (inr within) =
    let start : State = empty_queue reached.args in
    let drawn : IsDrawn s =
    subst IsDrawn (sym reached.is)
    (drawn_after start reached.entries (record { rows = tt; ids = λ one here. absurd here })) in
    let given : s.orders + s.returns ≡ m.rest.orders + m.rest.returns =
    ap (λ (t : State). t.orders + t.returns) stands.rest in
    let few : m.rest.orders + m.rest.returns ≤ NUMBER_END =
    leb-true (m.rest.orders + m.rest.returns) NUMBER_END within.1 in
    state-is m s stands
    ∙ with_all (six m.rest) (list_all is_row_within s.rows) (list_all is_one_within m.served)
    (list_all is_session_within m.rest.sessions.opened) within.0
    (rows-within (s.orders + s.returns) s.rows (omega (arith, given, few)) drawn.rows)

-- The next step ---------------------------------------------------------------------------------------

pub next-stands : (m : Parts) (s : State) (index : Index) (entry : Entry) → index.0 ≡ m.rest.applied + 1 → IsSound s
    → Stands m s → IsWhole m → IsInRange entry → StepsFor (parts_step m index entry) (next_step s entry)
next-stands m s index entry next sound stands whole range =
    subst (λ (made : PartsStep). StepsFor made (next_step s entry))
    (ap (λ (n : ℕ). let i : Index = record { 0 = n } in parts_step m i entry) (sym next))
    (steps m s entry sound stands whole range)

pub told-next : (args : QueueArgs) (m : Parts) (s : State) (entry : Entry) (q : Queue) (made : PartsStep) (fresh : Bool)
    (answer : Answer) (effects : List Effect) → IsReached s → IsInRange entry → StepsFor made (next_step s entry)
    → made ≡ record { parts = parts_of args q; fresh = fresh; answer = answer; effects = effects }
    → AreTold (parts_of args q) → is_within_ends (next_step s entry).state ≡ true
told-next args m s entry q made fresh answer effects reached range steps is tells =
    told (parts_of args q) (next_step s entry).state
    (subst (λ (k : Parts). Stands k (next_step s entry).state) (ap (λ (p : PartsStep). p.parts) is) steps.holds.stands)
    (next-reached s entry reached range) tells

-- a weaker cause
pub spent_where : (e : Memory) (P Q : Type 0) → (P → Q) → SpentOnlyWhere e NUMBER_END P → SpentOnlyWhere e NUMBER_END Q
spent_where Want P Q weaker cause = tt
spent_where (Spent number) P Q weaker cause = (cause.0, weaker cause.1)
