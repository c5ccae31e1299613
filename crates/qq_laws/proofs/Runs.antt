-- What entries leave of the rows of a queue.
use Rattle.std.proofs.Common.{◌≡◌, ℕ, zero, suc, ◌+◌, ◌<◌, ◌≤◌, true, false, cond, List, [], ◌∷◌, ◌++◌, Option, Some, None, length, refl, sym, ap, ◌∙◌, subst, inl, inr, arith, append_assoc}
use Rattle.std.specs.Prelude.{slice_index_or, All, AllPairs}
use Rattle.std.specs.List.{AllZip, cons_option, AllByRecursion}
use Rattle.std.proofs.lemmas.Bool.{false≢true}
use Rattle.std.proofs.lemmas.List.{append-nil}
use Rattle.std.proofs.lemmas.List.Elements.{All-cons, All-from_recursion, All-nil}
use Rattle.std.proofs.lemmas.List.Kept.{AllPairs-cons}
use Rattle.std.proofs.lemmas.List.Sums.{sum_by-cons}
use Rattle.qq_base.specs.declared.ids.Index.{Index}
use Rattle.qq_entry.specs.declared.queue.QueueArgs.{QueueArgs}
use Rattle.qq_entry.specs.declared.message.Message.{Message}
use Rattle.qq_entry.specs.declared.command.Command.{Command}
use Rattle.qq_entry.specs.declared.command.Entry.{Entry}
use Rattle.qq_model.specs.declared.place.Key.TheVariants.{Back}
use Rattle.qq_model.specs.declared.place.GoneReason.{GoneReason}
use Rattle.qq_model.specs.declared.place.Place.{Place}
use Rattle.qq_model.specs.declared.place.Place.TheVariants.{Ready, Gone}
use Rattle.qq_model.specs.declared.place.Row.{Row}
use Rattle.qq_model.specs.State.{State, empty_queue}
use Rattle.qq_model.specs.Limits.{is_live, is_ready, is_dead, ready_count, dead_count, is_with_consumer}
use Rattle.qq_model.specs.Step.{Step}
use Rattle.qq_model.specs.Audit.{next_index, next_step, row_of, audit_of, state_after}
use Rattle.qq_base.proofs.Lists.{In}
use Rattle.qq_model.proofs.Lists.{AllZip-split, AllZip-weaker, AllZip-trans, AllZip-second, slice_get-append}
use Rattle.qq_model.specs.Reasons.{Follows, may_move}
use Rattle.qq_laws.specs.Published.{Publish, new_message, publish_of, confirmed_publishes, EffectShows}
use Rattle.qq_laws.specs.Rows.{is_gone, held_count, gone_count, AddsUp, IsInOrder, Lasts, LastsIn, StepsRows, new_rows, IsGoneForAReason}
use Rattle.qq_laws.proofs.Since.{publishes_of}
use Rattle.qq_laws.proofs.Steps.{Sound, new_publishes, next_stepped}
use Rattle.qq_model.proofs.Indices.{Counts, Rises, arrivals_of, indices}

pub empty-sound : (args : QueueArgs) → Sound (empty_queue args)
empty-sound args =
    record { orderly = record { rising = tt; counted = tt; arrivals = refl; messages = refl }; below = tt }

pub after-sound : (s : State) (entries : List Entry) → Sound s → Sound (state_after s entries)
after-sound s [] sound = sound
after-sound s (entry ∷ entries) sound = after-sound (next_step s entry).state entries
    (next_stepped s entry sound).sound

-- the counts of the kinds of places add up to the number of rows
kinds : (rows : List Row) → ready_count rows + held_count rows + dead_count rows + gone_count rows ≡ length rows
kinds [] = refl
kinds (row ∷ rows) =
    let ready = sum_by-cons (λ (one : Row). cond (is_ready one.place) 1 0) row rows in
    let out = sum_by-cons (λ (one : Row). cond (is_with_consumer one.place) 1 0) row rows in
    let dead = sum_by-cons (λ (one : Row). cond (is_dead one.place) 1 0) row rows in
    let gone = sum_by-cons (λ (one : Row). cond (is_gone one.place) 1 0) row rows in
    let rest = kinds rows in
    let here : cond (is_ready row.place) 1 0 + cond (is_with_consumer row.place) 1 0 + cond (is_dead row.place) 1 0
    + cond (is_gone row.place) 1 0 ≡ 1 =
    one row.place in
    omega arith
  where
    one : (place : Place) → cond (is_ready place) 1 0 + cond (is_with_consumer place) 1 0 + cond (is_dead place) 1 0
        + cond (is_gone place) 1 0 ≡ 1
    one (Ready key) = refl
    one _ = refl

pub adds_up : (args : QueueArgs) (entries : List Entry) → AddsUp (state_after (empty_queue args) entries)
adds_up args entries =
    let sound = after-sound (empty_queue args) entries (empty-sound args) in
    record { rows = sound.orderly.arrivals; places = kinds _ ∙ sound.orderly.arrivals }

-- Rows in order

all_of_indices : (P : ℕ → Type 0) (rows : List Row) → AllByRecursion P (indices rows)
    → All (λ (row : Row). P row.index.0) rows
all_of_indices P [] each = All-nil (λ (row : Row). P row.index.0)
all_of_indices P (row ∷ rows) each =
    All-cons (λ (one : Row). P one.index.0) row rows each.0 (all_of_indices P rows each.1)

pairs_of_rising : (rows : List Row) → Rises (indices rows) → AllPairs (λ (a b : Row). a.index.0 < b.index.0) rows
pairs_of_rising [] rising = λ i j d lt within. absurd (omega arith)
pairs_of_rising (row ∷ rows) rising =
    AllPairs-cons (λ (a b : Row). a.index.0 < b.index.0) row rows
    (all_of_indices (λ n. row.index.0 < n) rows rising.0)
    (pairs_of_rising rows rising.1)

counted_at : (n : ℕ) (rows : List Row) → Counts n (arrivals_of rows) → (k : ℕ) (d : Row) → k < length rows
    → (slice_index_or rows k d).arrival ≡ n + k + 1
counted_at n [] counted k d within = absurd (omega arith)
counted_at n (row ∷ rows) counted zero d within = counted.0 ∙ omega arith
counted_at n (row ∷ rows) counted (suc k) d within = counted_at (n + 1) rows counted.1 k d (omega arith) ∙ omega arith

pub in_order : (args : QueueArgs) (entries : List Entry) → IsInOrder (state_after (empty_queue args) entries)
in_order args entries =
    let s = state_after (empty_queue args) entries in
    let sound = after-sound (empty_queue args) entries (empty-sound args) in
    record {
      rising = pairs_of_rising s.rows sound.orderly.rising;
      below = all_of_indices (λ n. n ≤ s.applied) s.rows sound.below;
      counted = λ k d within. counted_at 0 s.rows sound.orderly.counted k d within ∙ omega arith;
      arrivals = sound.orderly.arrivals;
      messages = sound.orderly.messages;
    }

-- Rows that last

pub lasts_if_follows : (args : QueueArgs) (command : Command) (old new : Row) → Follows args command old new
    → Lasts old new
lasts_if_follows args command old new (inl same) =
    record {
      index = ap (λ (row : Row). row.index) same;
      arrival = ap (λ (row : Row). row.arrival) same;
      size = ap (λ (row : Row). row.size) same;
      gone = λ _. same;
    }
lasts_if_follows args command old new (inr moves) =
    record {
      index = moves.index;
      arrival = moves.arrival;
      size = moves.size;
      gone = λ gone. absurd (false≢true (sym gone ∙ moves.live));
    }

lasts-trans : (x y z : Row) → Lasts x y → Lasts y z → Lasts x z
lasts-trans x y z first second = record {
  index = second.index ∙ first.index;
  arrival = second.arrival ∙ first.arrival;
  size = second.size ∙ first.size;
  gone =
      λ gone. let same : y ≡ x =
      first.gone gone in let gone' : is_live y.place ≡ false = ap (λ (row : Row). is_live row.place) same ∙ gone in
      second.gone gone' ∙ same;
}

lasts-same : (rows : List Row) → AllZip Lasts rows rows
lasts-same [] = tt
lasts-same (row ∷ rows) = (record { index = refl; arrival = refl; size = refl; gone = λ _. refl }, lasts-same rows)

pub lasts_in-trans : (xs ys zs : List Row) → LastsIn xs ys → LastsIn ys zs → LastsIn xs zs
lasts_in-trans xs ys zs first second =
    let moved : AllZip Lasts (first.0 ++ first.1) second.0 =
    subst (λ (rows : List Row). AllZip Lasts rows second.0) first.2 second.3 in
    let split = AllZip-split Lasts first.0 first.1 second.0 moved in (
      split.0,
      split.1 ++ second.1,
      second.2 ∙ ap (λ w. w ++ second.1) split.2 ∙ append_assoc split.0 split.1 second.1,
      AllZip-trans Lasts lasts-trans xs first.0 split.0 first.3 split.3,
    )

pub step-lasts : (s : State) (entry : Entry) (made : Step) → StepsRows s entry made → LastsIn s.rows made.state.rows
step-lasts s entry made steps =
    AllZip-split Lasts s.rows (new_rows s (next_index s) (new_message made.fresh made.answer entry.command))
    made.state.rows
    (AllZip-weaker (Follows s.args entry.command) Lasts (lasts_if_follows s.args entry.command) _ made.state.rows
    steps.rows)

pub after-lasts : (s : State) (entries : List Entry) → Sound s → LastsIn s.rows (state_after s entries).rows
after-lasts s [] sound = (s.rows, [], sym (append-nil s.rows), lasts-same s.rows)
after-lasts s (entry ∷ entries) sound =
    let stepped = next_stepped s entry sound in
    lasts_in-trans s.rows (next_step s entry).state.rows _ (step-lasts s entry (next_step s entry) stepped.rows)
    (after-lasts (next_step s entry).state entries stepped.sound)

-- What is kept is what the audit confirmed

confirmed_publishes-cons : (index : Index) (o : Option Message) (rest : List Publish)
    → cons_option (publish_of index o) rest ≡ new_publishes index o ++ rest
confirmed_publishes-cons index None rest = refl
confirmed_publishes-cons index (Some message) rest = refl

pub after-publishes : (s : State) (entries : List Entry) → Sound s
    → publishes_of (state_after s entries) ≡ publishes_of s ++ confirmed_publishes (audit_of s entries)
after-publishes s [] sound = sym (append-nil (publishes_of s))
after-publishes s (entry ∷ entries) sound =
    let made = next_step s entry in
    let stepped = next_stepped s entry sound in
    let o = new_message made.fresh made.answer entry.command in
    let rest = confirmed_publishes (audit_of made.state entries) in
    after-publishes made.state entries stepped.sound ∙ ap (λ all. all ++ rest) stepped.kept
    ∙ append_assoc (publishes_of s) (new_publishes (next_index s) o) rest
    ∙ ap (λ all. publishes_of s ++ all) (sym (confirmed_publishes-cons (next_index s) o rest))

pub after-append : (s : State) (xs ys : List Entry) → state_after s (xs ++ ys) ≡ state_after (state_after s xs) ys
after-append s [] ys = refl
after-append s (x ∷ xs) ys = after-append (next_step s x).state xs ys

pub audit-append : (s : State) (xs ys : List Entry)
    → audit_of s (xs ++ ys) ≡ audit_of s xs ++ audit_of (state_after s xs) ys
audit-append s [] ys = refl
audit-append s (x ∷ xs) ys =
    ap (λ rows. row_of (next_index s) x (next_step s x) ∷ rows) (audit-append (next_step s x).state xs ys)

pub sound_at : (args : QueueArgs) (entries : List Entry) → Sound (state_after (empty_queue args) entries)
sound_at args entries = after-sound (empty_queue args) entries (empty-sound args)

pub publishes_at : (args : QueueArgs) (entries : List Entry)
    → publishes_of (state_after (empty_queue args) entries) ≡ confirmed_publishes
    (audit_of (empty_queue args) entries)
publishes_at args entries = after-publishes (empty_queue args) entries (empty-sound args)

pub effects_show : (args : QueueArgs) (entries : List Entry) (entry : Entry)
    → All (EffectShows (confirmed_publishes (audit_of (empty_queue args) (entries ++ entry ∷ []))))
    (next_step (state_after (empty_queue args) entries) entry).effects
effects_show args entries entry =
    let s = state_after (empty_queue args) entries in
    let made = next_step s entry in
    let same : publishes_of made.state ≡ confirmed_publishes (audit_of (empty_queue args) (entries ++ entry ∷ [])) =
    ap publishes_of (sym (after-append (empty_queue args) entries (entry ∷ [])))
    ∙ publishes_at args (entries ++ entry ∷ []) in
    subst (λ (all : List Publish). All (EffectShows all) made.effects) same
    (All-from_recursion (EffectShows (publishes_of made.state)) made.effects
    (next_stepped s entry (sound_at args entries)).shown)

pub gone_for_a_reason : (s : State) (entry : Entry) → Sound s → IsGoneForAReason s entry
gone_for_a_reason s entry sound k row reason found gone =
    let made = next_step s entry in
    let o = new_message made.fresh made.answer entry.command in
    let steps = (next_stepped s entry sound).rows in
    let old =
    AllZip-second (Follows s.args entry.command) (s.rows ++ new_rows s (next_index s) o) made.state.rows k row
    steps.rows found in
    elim (old.2) [
      | inl same ↦ elim (slice_get-append s.rows (new_rows s (next_index s) o) k old.0 old.1) [
        | inl before ↦ inl (before ∙ ap (λ (one : Row). Some one) (sym same))
        | inr new ↦
            absurd (new_live s (next_index s) o old.0 reason new (ap (λ (one : Row). one.place) (sym same) ∙ gone))
      ]
      | inr moves ↦ inr (subst (λ (place : Place). may_move s.args entry.command place ≡ true) gone moves.place)
    ]
  where
    new_live : (s : State) (index : Index) (o : Option Message) (one : Row) (reason : GoneReason)
        → In one (new_rows s index o) → one.place ≡ Gone reason → ⊥
    new_live s index None one reason here gone = here
    new_live s index (Some message) one reason (inl is) gone =
        let ready : Ready (Back (s.orders + 1)) ≡ Gone reason = ap (λ (row : Row). row.place) (sym is) ∙ gone in cc
    new_live s index (Some message) one reason (inr later) gone = later
