-- The ids of a consumer's deliveries count by one over whole runs.
use Rattle.std.proofs.Common.{◌≡◌, ℕ, zero, suc, ◌+◌, List, [], ◌∷◌, ◌++◌, Some, map, length, refl, sym, ap, ◌∙◌, subst, arith}
use Rattle.std.specs.Prelude.{slice_get}
use Rattle.qq_base.specs.declared.ids.ConsumerId.{ConsumerId}
use Rattle.qq_entry.specs.declared.queue.QueueArgs.{QueueArgs}
use Rattle.qq_entry.specs.declared.command.Entry.{Entry}
use Rattle.qq_entry.specs.declared.answer.Delivery.{Delivery}
use Rattle.qq_model.specs.State.{State, empty_queue}
use Rattle.qq_model.specs.Gate.{IsNumbered}
use Rattle.qq_model.specs.Commands.{delivery_id}
use Rattle.qq_model.specs.Step.{Step}
use Rattle.qq_model.specs.Audit.{next_step, audit_of, effects_of, entries_of, deliveries}
use Rattle.qq_laws.specs.Ids.{CountByOne}
use Rattle.qq_model.proofs.Ids.{ids-append, ids_of}
use Rattle.qq_model.proofs.OneConsumer.Who.{Never}
use Rattle.qq_model.proofs.Indices.{Counts}
use Rattle.qq_model.proofs.IdSteps.{Known, next-knows}
use Rattle.qq_model.proofs.Drawn.{Drawn-none}

counts-append : (n : ℕ) (xs ys : List ℕ) → Counts n xs → Counts (n + length xs) ys → Counts n (xs ++ ys)
counts-append n [] ys first second =
    let none : n + zero ≡ n = omega arith in subst (λ (k : ℕ). Counts k ys) none second
counts-append n (x ∷ xs) ys first second =
    let more : n + suc (length xs) ≡ n + 1 + length xs = omega arith in
    (first.0, counts-append (n + 1) xs ys first.1 (subst (λ (k : ℕ). Counts k ys) more second))

run-counts : (id : ConsumerId) (before : ℕ) (s : State) (entries : List Entry) → IsNumbered id.session
    → Known id before s → Counts before (ids_of id (effects_of s entries))
run-counts id before s [] numbered known = tt
run-counts id before s (entry ∷ entries) numbered known =
    let made : Step = next_step s entry in
    let now = next-knows id before s entry numbered known in
    let rest = run-counts id (before + length (ids_of id made.effects)) made.state entries numbered now.known in
    subst (Counts before) (sym (ids-append id made.effects (effects_of made.state entries)))
    (counts-append before (ids_of id made.effects) (ids_of id (effects_of made.state entries)) now.ids rest)

-- numbers that count on are read by their places
counts-read : (n : ℕ) (all : List Delivery) → Counts n (map (λ (d : Delivery). d.id) all)
    → (k : ℕ) (delivery : Delivery) → slice_get all k ≡ Some delivery → delivery.id ≡ n + k + 1
counts-read n [] counted k delivery found = absurd cc
counts-read n (first ∷ all) counted zero delivery found =
    let same : first ≡ delivery = cc in ap (λ (d : Delivery). d.id) (sym same) ∙ counted.0 ∙ omega arith
counts-read n (first ∷ all) counted (suc k) delivery found =
    counts-read (n + 1) all counted.1 k delivery found ∙ omega arith

entries-audit : (s : State) (entries : List Entry) → entries_of (audit_of s entries) ≡ entries
entries-audit s [] = refl
entries-audit s (entry ∷ entries) =
    ap (λ (es : List Entry). entry ∷ es) (entries-audit (next_step s entry).state entries)

pub ids_count : (args : QueueArgs) (entries : List Entry) (consumer : ConsumerId) → IsNumbered consumer.session
    → CountByOne (deliveries (empty_queue args) (audit_of (empty_queue args) entries) consumer)
ids_count args entries consumer numbered =
    let s : State = empty_queue args in
    let counted = run-counts consumer 0 s entries numbered
    (record { guarded = tt; who = Never refl refl; drawn = Drawn-none (delivery_id consumer) 0 }) in
    let here : Counts 0 (ids_of consumer (effects_of s (entries_of (audit_of s entries)))) =
    subst (λ (es : List Entry). Counts 0 (ids_of consumer (effects_of s es))) (sym (entries-audit s entries))
    counted in
    λ k delivery found. counts-read 0 (deliveries s (audit_of s entries) consumer) here k delivery found ∙ omega arith
