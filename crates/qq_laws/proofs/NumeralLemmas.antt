-- What laws in numerals need beside computing.
use Rattle.std.proofs.Common.{◌≡◌, ◌≤◌, ◌<◌, ◌+◌, ◌-◌, ℕ, zero, suc, true, false, ◌&&◌, ◌||◌, List, [], Option, None, inl, inr, refl, sym, ap, ◌∙◌, arith, leb}
use Rattle.std.specs.Prelude.{max, min, nat_eq, nat_lt, nat_le, if◌then◌else◌}
use Rattle.std.proofs.Math.Dec.{eqb}
use Rattle.std.proofs.Math.Nat.{le_trans, le-max_left, max-le, max-eq_left, min-le_left, min-le_right}
use Rattle.std.specs.Option.{option_map_or}
use Rattle.std.proofs.Math.Bool.{and-false}
use Rattle.std.proofs.Padding.{cond_same}
use Rattle.std.proofs.lemmas.Bool.{cond-true, cond-false, le-leb}
use Rattle.std.proofs.lemmas.Bool.Decides.{leb_tells, eqb_tells}
use Rattle.qq_entry.specs.declared.queue.Overflow.{Overflow}
use Rattle.qq_entry.specs.declared.queue.Overflow.TheVariants.{RejectPublish}
use Rattle.qq_model.specs.Changes.{Progress, while_next}
use Rattle.qq_model.specs.Choice.{next_message}
use Rattle.qq_model.specs.declared.session.Gate.{Gate}
use Rattle.qq_model.specs.declared.session.Gate.TheVariants.{Fresh, Forgotten, Gap, WindowFull}
use Rattle.qq_model.specs.declared.session.OpenSession.{OpenSession}
use Rattle.qq_model.specs.Gate.{gate, repeat_by, kept_answer, turn_away, is_ended, change_session, raise_mark}
use Rattle.qq_model.specs.State.{Sessions}
use Rattle.qq_entry.specs.declared.command.Stamp.{Stamp}
use Rattle.qq_laws.specs.Numerals.{client, alone, by_client}
use Rattle.qq_model.specs.Limits.{has_passed, is_drop_head, is_over_limit, ready_count, ready_bytes}
use Rattle.qq_model.specs.Serving.{drop_head, drop_head_by, keep_limits}

none-stays : {A : Type 0} (n : ℕ) (next : A → Option A) (a : A) → next a ≡ None → while_next n next a ≡ a
none-stays zero next a none = refl
none-stays (suc n) next a none = ap (λ (m : Option _). option_map_or (while_next n next) m a) none

not_over : (p : Progress) → is_over_limit p.state.args p.state.rows ≡ false → keep_limits p ≡ p
unfolding keep_limits drop_head
not_over p is =
    none-stays (ready_count p.state.rows) drop_head p
    (cond-false (is_over_limit p.state.args p.state.rows) (drop_head_by (next_message p.state.rows) p) None is)

pub unlimited-stays : (p : Progress) → p.state.args.max_length ≡ None → p.state.args.max_bytes ≡ None
    → keep_limits p ≡ p
unlimited-stays p length bytes =
    let s = p.state in
    let drops = is_drop_head s.args.overflow in
    not_over p
    (ap (λ (m : Option ℕ). drops && (has_passed m (ready_count s.rows) || has_passed s.args.max_bytes (ready_bytes s.rows))) length
    ∙ ap (λ (m : Option ℕ). drops && (false || has_passed m (ready_bytes s.rows))) bytes
    ∙ and-false drops)

pub rejecting-stays : (p : Progress) → p.state.args.overflow ≡ RejectPublish → keep_limits p ≡ p
rejecting-stays p is =
    let s = p.state in
    not_over p
    (ap (λ (o : Overflow). is_drop_head o && (has_passed s.args.max_length (ready_count s.rows) || has_passed s.args.max_bytes (ready_bytes s.rows))) is)

-- The gate of one open session -------------------------------------------------------------------------

-- what the gate says where the low mark comes to m
after_mark : (next seq m : ℕ) → Gate → Gate
after_mark next seq m again =
    if nat_le seq m then Forgotten
    else if nat_lt seq next then again
    else if nat_lt next seq then Gap next
    else if nat_eq (next - 1 - m) 256 then WindowFull
    else Fresh

repeated : (mark next seq : ℕ) → Gate
repeated mark next seq =
    repeat_by (kept_answer seq (record { session = client 1; next = next; mark = mark; kept = []; tag = 0 }))

gate-at : (mark next seq done m : ℕ) → max mark (min done (next - 1)) ≡ m
    → gate (alone mark next) (by_client seq done) ≡ after_mark next seq m (repeated mark next seq)
unfolding gate after_mark repeated
gate-at mark next seq done m is = ap (λ (k : ℕ). after_mark next seq k (repeated mark next seq)) is

above : (a b : ℕ) → b < a → leb a b ≡ false
above a b more = elim (leb_tells a b) [
  | inl is ↦ absurd (omega arith)
  | inr is ↦ is.0
]

other : (a b : ℕ) → a < b → eqb a b ≡ false
other a b less = elim (eqb_tells a b) [
  | inl same ↦ absurd (omega arith)
  | inr is ↦ is.0
]

pub forgotten_by : (mark next seq done : ℕ) → seq ≤ mark
    → gate (alone mark next) (by_client seq done) ≡ Forgotten
unfolding after_mark
forgotten_by mark next seq done low =
    let m = max mark (min done (next - 1)) in
    gate-at mark next seq done m refl
    ∙ cond-true (leb seq m) Forgotten _ (le-leb seq m (le_trans low (le-max_left mark (min done (next - 1)))))

pub gap_by : (mark next seq done : ℕ) → mark < next → next < seq
    → gate (alone mark next) (by_client seq done) ≡ Gap next
unfolding after_mark
gap_by mark next seq done within more =
    let m = max mark (min done (next - 1)) in
    let least : m ≤ next - 1 = max-le (omega arith) (min-le_right done (next - 1)) in
    gate-at mark next seq done m refl
    ∙ cond-false (leb seq m) Forgotten _ (above seq m (omega arith))
    ∙ cond-false (leb (suc seq) next) (repeated mark next seq) _ (above (suc seq) next (omega arith))
    ∙ cond-true (leb (suc next) seq) (Gap next) _ (le-leb (suc next) seq more)

-- the next number of a session, whose mark its stamp doesn't raise
next_by : (mark more next done : ℕ) → next ≡ mark + more + 1 → done ≤ mark
    → gate (alone mark next) (by_client next done) ≡ (if nat_eq more 256 then WindowFull else Fresh)
unfolding after_mark
next_by mark more next done is low =
    let min-low : min done (next - 1) ≤ mark = le_trans (min-le_left done (next - 1)) low in
    let rest : next - 1 - mark ≡ more = omega arith in
    gate-at mark next next done mark (max-eq_left min-low)
    ∙ cond-false (leb next mark) Forgotten _ (above next mark (omega arith))
    ∙ cond-false (leb (suc next) next) (repeated mark next next) _ (above (suc next) next (omega arith))
    ∙ cond-false (leb (suc next) next) (Gap next) _ (above (suc next) next (omega arith))
    ∙ ap (λ (k : ℕ). if nat_eq k 256 then WindowFull else Fresh) rest

pub full_by : (mark done : ℕ) → done ≤ mark
    → gate (alone mark (mark + 257)) (by_client (mark + 257) done) ≡ WindowFull
full_by mark done low = next_by mark 256 (mark + 257) done (omega arith) low

pub fresh_by : (mark more done : ℕ) → more < 256 → done ≤ mark
    → gate (alone mark (mark + more + 1)) (by_client (mark + more + 1) done) ≡ Fresh
fresh_by mark more done few low =
    next_by mark more (mark + more + 1) done refl low
    ∙ cond-false (nat_eq more 256) WindowFull Fresh (other more 256 few)

-- Turning away -----------------------------------------------------------------------------------------

pub ended-stays : (s : Sessions) (stamp : Stamp) → is_ended s stamp.session ≡ true → turn_away s stamp ≡ s
unfolding turn_away
ended-stays s stamp is = cond-true (is_ended s stamp.session) s _ is

pub unknown-stays : (s : Sessions) (stamp : Stamp) → s.opened ≡ [] → turn_away s stamp ≡ s
unfolding turn_away
unknown-stays s stamp none =
    cond_same (is_ended s stamp.session) s _ s refl
    (ap (λ (opened : List OpenSession). record s { opened = change_session stamp.session (raise_mark stamp) opened })
    none
    ∙ ap (λ (opened : List OpenSession). record s { opened = opened }) (sym none))
