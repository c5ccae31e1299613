-- The numbers of places, and of the dead, are drawn once.
use Rattle.std.proofs.Common.{◌≡◌, ℕ, ◌+◌, ◌≤◌, List, Option, Some, None, refl, sym, ap, ◌∙◌, subst, inl, inr, arith}
use Rattle.std.proofs.lemmas.Bool.{cases_Bool, cond-true, cond-false}
use Rattle.std.proofs.lemmas.Option.{none-some}
use Rattle.qq_base.specs.declared.ids.Index.{Index}
use Rattle.qq_entry.specs.declared.command.Command.{Command}
use Rattle.qq_model.specs.declared.place.Key.TheVariants.{Front, Back}
use Rattle.qq_model.specs.declared.place.GoneReason.TheVariants as gone
use Rattle.qq_model.specs.declared.place.Place.{Place}
use Rattle.qq_model.specs.declared.place.Place.TheVariants.{Ready, Out, Dead, Gone}
use Rattle.qq_model.specs.declared.place.Row.{Row}
use Rattle.qq_model.specs.State.{State}
use Rattle.qq_model.specs.Limits.{is_ready}
use Rattle.qq_model.specs.Changes.{Progress, put_row}
use Rattle.qq_model.specs.Commands.{purge_row, append_message}
use Rattle.qq_model.specs.Sound.{front_number, back_number, death_number}
use Rattle.qq_model.proofs.ActKeeps.{KeepsArrivals}
use Rattle.qq_model.proofs.Drawn.{Drawn, Drawn-append, Drawn-map, Drawn-put, Drawn-put_none}
use Rattle.qq_model.proofs.SingleChanges.{Acts, Draws, KeepsDeliveries, KeepsRows, Serves, Turns}
use Rattle.qq_entry.specs.declared.message.Message.{Message}

pub record Numbered (s : State) : Type 0 where
  pub fronts : Drawn front_number s.returns s.rows
  pub backs : Drawn back_number s.orders s.rows
  pub deads : Drawn death_number s.deads s.rows
  pub given : s.given ≤ s.deads

-- a row is put where it has no number, or the next one
keep : (number : Place → Option ℕ) (last last' : ℕ) (rows rows' : List Row) (new : Row) → Drawn number last rows
    → rows' ≡ put_row new rows → last' ≡ last → number new.place ≡ None → Drawn number last' rows'
keep number last last' rows rows' new was is same none =
    subst (λ (n : ℕ). Drawn number n rows') (sym same)
    (subst (Drawn number last) (sym is) (Drawn-put_none number last rows new was none))

draw : (number : Place → Option ℕ) (last last' n : ℕ) (rows rows' : List Row) (new : Row) → Drawn number last rows
    → rows' ≡ put_row new rows → last' ≡ last + 1 → n ≡ last + 1 → number new.place ≡ Some n
    → Drawn number last' rows'
draw number last last' n rows rows' new was is more next some =
    subst (Drawn number last') (sym is)
    (Drawn-put number last last' rows new was (omega (arith, more))
    (λ m e. let same : m ≡ n = cc (sym e ∙ some) in (omega (arith, same, next), omega (arith, same, next, more))))

Numbered-rows : (command : Command) → KeepsRows command (λ p. Numbered p.state)
Numbered-rows command =
    record { row = λ p q old new it here moves out why turns. by p q new it turns new.place refl turns.draws }
  where
    by : (p q : Progress) (new : Row) → Numbered p.state → Turns p q new → (place : Place) → new.place ≡ place
        → Draws p.state q.state place → Numbered q.state
    by p q new it turns (Ready (Back n)) is draws = record {
      fronts =
          keep front_number p.state.returns q.state.returns _ _ new it.fronts turns.rows draws.2 (ap front_number is);
      backs = draw back_number p.state.orders q.state.orders n _ _ new it.backs turns.rows draws.1 draws.0
          (ap back_number is);
      deads = keep death_number p.state.deads q.state.deads _ _ new it.deads turns.rows draws.3 (ap death_number is);
      given = omega (arith, it.given, turns.given, draws.3);
    }
    by p q new it turns (Ready (Front n)) is draws = record {
      fronts = draw front_number p.state.returns q.state.returns n _ _ new it.fronts turns.rows draws.2 draws.0
          (ap front_number is);
      backs = keep back_number p.state.orders q.state.orders _ _ new it.backs turns.rows draws.1 (ap back_number is);
      deads = keep death_number p.state.deads q.state.deads _ _ new it.deads turns.rows draws.3 (ap death_number is);
      given = omega (arith, it.given, turns.given, draws.3);
    }
    by p q new it turns (Out consumer id) is draws = absurd draws
    by p q new it turns (Dead n cause) is draws = record {
      fronts =
          keep front_number p.state.returns q.state.returns _ _ new it.fronts turns.rows draws.2 (ap front_number is);
      backs = keep back_number p.state.orders q.state.orders _ _ new it.backs turns.rows draws.1 (ap back_number is);
      deads = draw death_number p.state.deads q.state.deads n _ _ new it.deads turns.rows draws.3 draws.0
          (ap death_number is);
      given = omega (arith, it.given, turns.given, draws.3);
    }
    by p q new it turns (Gone cause) is draws = record {
      fronts =
          keep front_number p.state.returns q.state.returns _ _ new it.fronts turns.rows draws.1 (ap front_number is);
      backs = keep back_number p.state.orders q.state.orders _ _ new it.backs turns.rows draws.0 (ap back_number is);
      deads = keep death_number p.state.deads q.state.deads _ _ new it.deads turns.rows draws.2 (ap death_number is);
      given = omega (arith, it.given, turns.given, draws.2);
    }

-- rows as a purge leaves them
pub purged-index : (row : Row) → (purge_row row).index ≡ row.index
purged-index row = elim (cases_Bool (is_ready row.place)) [
  | inl ready ↦
      ap (λ (r : Row). r.index) (cond-true (is_ready row.place) (record row { place = Gone gone.Purged }) row ready)
  | inr other ↦
      ap (λ (r : Row). r.index) (cond-false (is_ready row.place) (record row { place = Gone gone.Purged }) row other)
]

pub purged-number : (number : Place → Option ℕ) → number (Gone gone.Purged) ≡ None → (row : Row) (n : ℕ)
    → number (purge_row row).place ≡ Some n → number row.place ≡ Some n
purged-number number none row n e = elim (cases_Bool (is_ready row.place)) [
  | inl ready ↦
      absurd (none-some n (sym (ap (λ (r : Row). number r.place)
      (cond-true (is_ready row.place) (record row { place = Gone gone.Purged }) row ready) ∙ none) ∙ e))
  | inr other ↦
      sym (ap (λ (r : Row). number r.place)
      (cond-false (is_ready row.place) (record row { place = Gone gone.Purged }) row other)) ∙ e
]

Numbered-same : (s t : State) → Numbered s → t.rows ≡ s.rows → t.returns ≡ s.returns → t.orders ≡ s.orders
    → t.deads ≡ s.deads → t.given ≤ t.deads → Numbered t
Numbered-same s t it rows returns orders deads given = record {
  fronts = subst (λ (n : ℕ). Drawn front_number n t.rows) (sym returns)
      (subst (Drawn front_number s.returns) (sym rows) it.fronts);
  backs = subst (λ (n : ℕ). Drawn back_number n t.rows) (sym orders)
      (subst (Drawn back_number s.orders) (sym rows) it.backs);
  deads = subst (λ (n : ℕ). Drawn death_number n t.rows) (sym deads)
      (subst (Drawn death_number s.deads) (sym rows) it.deads);
  given = given;
}

pub Numbered-acts : (command : Command) → Acts command (λ p. Numbered p.state)
Numbered-acts command = record {
  rows = Numbered-rows command;
  purge = λ p it purges. record {
    fronts = Drawn-map front_number _ p.state.rows purge_row it.fronts purged-index (purged-number front_number refl);
    backs = Drawn-map back_number _ p.state.rows purge_row it.backs purged-index (purged-number back_number refl);
    deads = Drawn-map death_number _ p.state.rows purge_row it.deads purged-index (purged-number death_number refl);
    given = it.given;
  };
  attach = λ p term it least greater. Numbered-same p.state _ it refl refl refl refl (omega arith);
  join = λ p id mode it above own. Numbered-same p.state _ it refl refl refl refl it.given;
  cancel = λ p id consumer it found. Numbered-same p.state _ it refl refl refl refl it.given;
  finish = λ p it. Numbered-same p.state _ it refl refl refl refl it.given;
  credit = λ p id consumer credit it found. Numbered-same p.state _ it refl refl refl refl it.given;
  turn = λ p id consumer it found. Numbered-same p.state _ it refl refl refl refl it.given;
  leave = λ p session it is same none. Numbered-same p.state _ it refl refl refl refl it.given;
}

pub Numbered-delivers : KeepsDeliveries (λ p. Numbered p.state)
Numbered-delivers p row consumer it found next =
    let new : Row = record row { place = Out consumer.id consumer.next_id } in record {
      fronts = Drawn-put_none front_number _ p.state.rows new it.fronts refl;
      backs = Drawn-put_none back_number _ p.state.rows new it.backs refl;
      deads = Drawn-put_none death_number _ p.state.rows new it.deads refl;
      given = it.given;
    }

pub Numbered-serves : (command : Command) → Serves command (λ p. Numbered p.state)
Numbered-serves command = record {
  rows = Numbered-rows command;
  offer = λ p number cause row it here is next may few.
      Numbered-same p.state _ it refl refl refl refl (it.deads.drawn row number here (ap death_number is)).1;
  drain = λ p id consumer it found. Numbered-same p.state _ it refl refl refl refl it.given;
}

pub Numbered-appends : (index : Index) (p : Progress) (message : Message) → Numbered p.state
    → Numbered (append_message p.state index message)
Numbered-appends index p message it =
    let row : Row = record {
      index = index;
      arrival = p.state.arrivals + 1;
      count = 0;
      size = message.size;
      place = Ready (Back (p.state.orders + 1));
    } in record {
      fronts = Drawn-append front_number _ _ p.state.rows row it.fronts (omega arith) (λ n e. absurd (none-some n e));
      backs =
          Drawn-append back_number p.state.orders (p.state.orders + 1) p.state.rows row it.backs (omega arith)
          (λ n e. let same : n ≡ p.state.orders + 1 = cc (sym e) in (same, omega (arith, same)));
      deads = Drawn-append death_number _ _ p.state.rows row it.deads (omega arith) (λ n e. absurd (none-some n e));
      given = it.given;
    }

pub Numbered-arrives : (index : Index) (command : Command) → KeepsArrivals index command (λ p. Numbered p.state)
Numbered-arrives index command p stamp message it is found = Numbered-appends index p message it
