-- A message that a command can't move stays as it is.
use Rattle.std.proofs.Common.{◌≡◌, ℕ, ◌<◌, true, false, List, [], ◌∷◌, map, sym, ap, ◌∙◌, subst, inl, inr}
use Rattle.std.specs.Prelude.{nat_eq}
use Rattle.std.proofs.lemmas.Bool.{false≢true, cases_Bool, cond-false, eqb-true}
use Rattle.qq_base.specs.declared.ids.Index.{Index}
use Rattle.qq_base.specs.declared.ids.ConsumerId.{ConsumerId}
use Rattle.qq_entry.specs.declared.command.Command.{Command}
use Rattle.qq_model.specs.declared.place.GoneReason.TheVariants as gone
use Rattle.qq_model.specs.declared.place.GoneReason.{GoneReason}
use Rattle.qq_model.specs.declared.place.Place.TheVariants.{Out, Dead, Gone}
use Rattle.qq_model.specs.declared.place.Row.{Row}
use Rattle.qq_model.specs.State.{State}
use Rattle.qq_model.specs.Limits.{is_ready}
use Rattle.qq_model.specs.Changes.{Progress, put_row}
use Rattle.qq_model.specs.Commands.{purge_row}
use Rattle.qq_model.specs.Reasons.{ends_delivery}
use Rattle.qq_model.specs.Step.{carry_out}
use Rattle.qq_base.proofs.Lists.{In, In-append_left, In-map}
use Rattle.qq_model.proofs.Choices.{next_message-in}
use Rattle.qq_model.proofs.Indices.{unique}
use Rattle.qq_model.proofs.InOrder.{Ordered, Ordered-acts, Ordered-brings, Ordered-delivers, Ordered-serves, carry_out-from}
use Rattle.qq_model.proofs.SingleChanges.{Acts, Because, KeepsDeliveries, KeepsRows, Serves}
use Rattle.qq_model.proofs.SingleChanges.Because.{IsGot, IsSettled, IsDiscarded, GoesBack, PassesLimit, IsDropped, IsDeadLettered}

-- a message that isn't ready, and that the command has no reason to move
pub record IsSpared (command : Command) (x : Row) : Type 0 where
  pub ready : is_ready x.place ≡ false
  pub spared : (p : Progress) (new : Row) → Because p command x new → ⊥

-- the rows are in order, and it is one of them
abbrev pub Has : Row → ℕ → Progress → Type 0
Has x last p = Ordered last p.state × In x p.state.rows

pub In-put_other : (x new : Row) (rows : List Row) → In x rows → (x.index.0 ≡ new.index.0 → ⊥)
    → In x (put_row new rows)
In-put_other x new [] here differ = here
In-put_other x new (row ∷ rows) (inl same) differ = elim (cases_Bool (nat_eq row.index.0 new.index.0)) [
  | inl is ↦ absurd (differ (ap (λ (r : Row). r.index.0) same ∙ eqb-true row.index.0 new.index.0 is))
  | inr other ↦ inl (same ∙ sym (cond-false (nat_eq row.index.0 new.index.0) new row other))
]
In-put_other x new (row ∷ rows) (inr later) differ = inr (In-put_other x new rows later differ)

Has-rows : (command : Command) (x : Row) (last : ℕ) → IsSpared command x → KeepsRows command (Has x last)
Has-rows command x last spared = record {
  row = λ p q old new has here moves out why turns. (
    (Ordered-serves last command).rows.row p q old new has.0 here moves out why turns,
    subst (In x) (sym turns.rows) (In-put_other x new p.state.rows has.1
        (λ e. let same : x ≡ old =
        unique x old p.state.rows has.0.rising has.1 here (e ∙ ap (λ (i : Index). i.0) moves.index) in
        spared.spared p new (subst (λ (r : Row). Because p command r new) (sym same) why))),
  );
}

pub Has-acts : (command : Command) (x : Row) (last : ℕ) → IsSpared command x → Acts command (Has x last)
Has-acts command x last spared =
    let ordered = Ordered-acts last command in record {
      rows = Has-rows command x last spared;
      purge = λ p has purges. (
        ordered.purge p has.0 purges,
        subst (λ (r : Row). In r (map purge_row p.state.rows))
            (cond-false (is_ready x.place) (record x { place = Gone gone.Purged }) x spared.ready)
            (In-map purge_row x p.state.rows has.1),
      );
      attach = λ p term has least greater. (ordered.attach p term has.0 least greater, has.1);
      join = λ p id mode has above own. (ordered.join p id mode has.0 above own, has.1);
      cancel = λ p id consumer has found. (ordered.cancel p id consumer has.0 found, has.1);
      finish = λ p has. (ordered.finish p has.0, has.1);
      credit = λ p id consumer credit has found. (ordered.credit p id consumer credit has.0 found, has.1);
      turn = λ p id consumer has found. (ordered.turn p id consumer has.0 found, has.1);
      leave = λ p session has is same none. (ordered.leave p session has.0 is same none, has.1);
    }

pub Has-delivers : (x : Row) (last : ℕ) → is_ready x.place ≡ false → KeepsDeliveries (Has x last)
Has-delivers x last ready p row consumer has found next =
    let some = next_message-in p.state.rows row found in (
      Ordered-delivers last p row consumer has.0 found next,
      In-put_other x _ p.state.rows has.1
          (λ e. let same : x ≡ row = unique x row p.state.rows has.0.rising has.1 some.0 e in
          false≢true (sym ready ∙ ap (λ (r : Row). is_ready r.place) same ∙ some.1)),
    )

pub Has-serves : (command : Command) (x : Row) (last : ℕ) → IsSpared command x → Serves command (Has x last)
Has-serves command x last spared =
    let ordered = Ordered-serves last command in record {
      rows = Has-rows command x last spared;
      offer = λ p number cause row has here is next may few.
          (ordered.offer p number cause row has.0 here is next may few, has.1);
      drain = λ p id consumer has found. (ordered.drain p id consumer has.0 found, has.1);
    }

-- what is gone is spared by all
pub gone-spared : (command : Command) (x : Row) (cause : GoneReason) → x.place ≡ Gone cause → IsSpared command x
gone-spared command x cause is = record { ready = ap is_ready is; spared = λ p new why. by p new why }
  where
    out : (consumer : ConsumerId) (id : ℕ) → x.place ≡ Out consumer id → ⊥
    out consumer id at = let e : Gone cause ≡ Out consumer id = sym is ∙ at in cc

    first : (p : Progress) → is_ready x.place ≡ true → ⊥
    first p ready = false≢true (sym (ap is_ready is) ∙ ready)

    by : (p : Progress) (new : Row) → Because p command x new → ⊥
    by p new (IsGot gets found made) = first p (next_message-in p.state.rows x found).1
    by p new (IsSettled consumer id at ends settles made) = out consumer id at
    by p new (IsDiscarded consumer id place at ends discards death made) = out consumer id at
    by p new (GoesBack consumer id key at ends back within made) = out consumer id at
    by p new (PassesLimit consumer id place at ends back passed death made) = out consumer id at
    by p new (IsDropped place found passed death made) = first p (next_message-in p.state.rows x found).1
    by p new (IsDeadLettered number cause' at settles given made) =
        let e : Gone cause ≡ Dead number cause' = sym is ∙ at in cc

-- what is out is spared by a command that doesn't end its delivery
pub out-spared : (command : Command) (x : Row) (consumer : ConsumerId) (id : ℕ) → x.place ≡ Out consumer id
    → ends_delivery command consumer id ≡ false → IsSpared command x
out-spared command x consumer id is goes = record { ready = ap is_ready is; spared = λ p new why. by p new why }
  where
    out : (other : ConsumerId) (number : ℕ) → x.place ≡ Out other number → ends_delivery command other number ≡ true
        → ⊥
    out other number at ends =
        let e : Out consumer id ≡ Out other number = sym is ∙ at in
        let who : other ≡ consumer = cc in
        let which : number ≡ id = cc in
        false≢true (sym goes ∙ ap (ends_delivery command consumer) (sym which)
        ∙ ap (λ (c : ConsumerId). ends_delivery command c number) (sym who) ∙ ends)

    first : (p : Progress) → is_ready x.place ≡ true → ⊥
    first p ready = false≢true (sym (ap is_ready is) ∙ ready)

    by : (p : Progress) (new : Row) → Because p command x new → ⊥
    by p new (IsGot gets found made) = first p (next_message-in p.state.rows x found).1
    by p new (IsSettled other number at ends settles made) = out other number at ends
    by p new (IsDiscarded other number place at ends discards death made) = out other number at ends
    by p new (GoesBack other number key at ends back within made) = out other number at ends
    by p new (PassesLimit other number place at ends back passed death made) = out other number at ends
    by p new (IsDropped place found passed death made) = first p (next_message-in p.state.rows x found).1
    by p new (IsDeadLettered number cause at settles given made) =
        let e : Out consumer id ≡ Dead number cause = sym is ∙ at in cc

pub carry_out-spares : (s : State) (index : Index) (command : Command) (x : Row) (last : ℕ) → last < index.0
    → IsSpared command x → Ordered last s → In x s.rows → In x (carry_out index command s).progress.state.rows
carry_out-spares s index command x last less spared ordered here =
    (carry_out-from {I = Has x last} {J = Has x index.0} index command s
    (record {
      stays = λ p has. ((Ordered-brings last index less).stays p has.0, has.1);
      arrives = λ p message has found. (
        (Ordered-brings last index less).arrives p message has.0 found,
        In-append_left x p.state.rows _ has.1,
      );
    })
    (Has-acts command x index.0 spared) (Has-delivers x index.0 spared.ready) (Has-serves command x index.0 spared)
    (ordered, here)).1
