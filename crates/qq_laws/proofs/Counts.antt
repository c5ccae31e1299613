-- A link consumer's credit and count are bounded by what a command can give.
use Rattle.std.proofs.Common.{◌≡◌, ℕ, ◌+◌, ◌<◌, ◌≤◌, ◌^◌, Bool, true, List, [], ◌∷◌, Option, Some, None, refl, sym, subst, inl, inr, arith}
use Rattle.std.specs.List.{AllByRecursion}
use Rattle.qq_base.specs.declared.ids.Index.{Index}
use Rattle.qq_base.proofs.Lists.{In-append_cases}
use Rattle.qq_entry.specs.Command.{stamp}
use Rattle.qq_entry.specs.Range.{IsCommand, IsInRange}
use Rattle.qq_entry.specs.declared.command.Command.{Command}
use Rattle.qq_entry.specs.declared.command.Command.TheVariants.{Credit}
use Rattle.qq_entry.specs.declared.command.Entry.{Entry}
use Rattle.qq_entry.specs.declared.command.Mode.{Mode}
use Rattle.qq_entry.specs.declared.command.Mode.TheVariants.{Prefetch, Link}
use Rattle.qq_entry.specs.declared.command.Stamp.{Stamp}
use Rattle.qq_model.specs.declared.consumer.Consumer.{Consumer}
use Rattle.qq_model.specs.declared.place.Row.{Row}
use Rattle.qq_model.specs.declared.session.Gate.{Gate}
use Rattle.qq_model.specs.declared.session.Gate.TheVariants.{Fresh}
use Rattle.qq_model.specs.Audit.{next_index, next_step, state_after}
use Rattle.qq_model.specs.Changes.{is_needed}
use Rattle.qq_model.specs.Choice.{may_be_served}
use Rattle.qq_model.specs.Gate.{admit, gate}
use Rattle.qq_model.specs.Serving.{serve}
use Rattle.qq_model.specs.State.{State}
use Rattle.qq_model.specs.Step.{carry_out, go_through, step_by, step}
use Rattle.qq_model.proofs.CarryOut.{follow_on-keeps}
use Rattle.qq_model.proofs.Holders.{In-filtered}
use Rattle.qq_model.proofs.Ids.{consumer-found}
use Rattle.qq_laws.proofs.ActConsumers.{KeepsConsumers, act-consumers}
use Rattle.qq_laws.proofs.EachConsumer.{EachOf, each-delivers, each-put, each-serves}
use Rattle.qq_laws.proofs.LinkCreditLemmas.{has-credit, serve-link, serve-prefetch}

-- credit that is left, and what was delivered by it
abbrev pub HasCredit : Consumer → Type 0
HasCredit one = one.credit + one.count ≤ 2 ^ 33

served : (rows : List Row) (turn : ℕ) (one : Consumer) → HasCredit one → may_be_served rows one ≡ true
    → HasCredit (serve turn one)
served rows turn one it may = by one.mode refl
  where
    by : (mode : Mode) → one.mode ≡ mode → HasCredit (serve turn one)
    by (Prefetch prefetch) is = subst HasCredit (sym (serve-prefetch turn one prefetch is)) it
    by Link is =
        let some = has-credit rows one may is in
        subst HasCredit (sym (serve-link turn one is)) (omega (arith, some, it))

drained : (one : Consumer) → HasCredit one → HasCredit (record one { credit = 0; count = one.count + one.credit })
drained one it = omega (arith, it)

-- a credit in range
total-few : (command : Command) (given : Stamp) (tag count credit : ℕ) (wanted : Bool) (total : ℕ) → IsCommand command
    → command ≡ Credit given tag count credit wanted → total ≡ count + credit → total ≤ 2 ^ 33
total-few command given tag count credit wanted total range is sum =
    let known : IsCommand (Credit given tag count credit wanted) = subst IsCommand is range in
    let first : count < 2 ^ 32 = known.1 in
    let second : credit < 2 ^ 32 = known.2 in
    omega (arith, first, second, sum)

acts : (command : Command) → IsCommand command → KeepsConsumers command (EachOf HasCredit)
acts command range = record {
  join = λ consumers id mode turn each is one here. elim (In-append_cases one consumers _ here) [
    | inl old ↦ each one old
    | inr new ↦ elim new [
      | inl same ↦ subst HasCredit (sym same) (omega arith)
      | inr no' ↦ absurd no'
    ]
  ];
  cancel = λ consumers id one each found is.
      each-put HasCredit consumers _ each (each one (consumer-found id consumers one found));
  credit = λ consumers id one total each found link is.
      let few : total ≤ 2 ^ 33 = total-few command is.0 is.1 is.2 is.3 is.4 total range is.5 is.7 in
      let before : one.credit + one.count ≤ 2 ^ 33 = each one (consumer-found id consumers one found) in
      each-put HasCredit consumers _ each (omega (arith, few, before));
  turn = λ consumers one turn each here. each-put HasCredit consumers _ each (each one here);
  needed = λ rows consumers each one here. each one (In-filtered (is_needed rows) one consumers here);
  leave = λ consumers session each is one here. each one (In-filtered _ one consumers here);
}

carried : (index : Index) (command : Command) (s : State) → IsCommand command → EachOf HasCredit s.consumers
    → EachOf HasCredit (carry_out index command s).progress.state.consumers
unfolding carry_out
carried index command s range each =
    follow_on-keeps {I = λ p. EachOf HasCredit p.state.consumers} command (each-delivers HasCredit served)
    (each-serves HasCredit command drained) _
    (act-consumers (EachOf HasCredit) index command (acts command range) (record { state = s; effects = [] }) each)

next-credit : (s : State) (entry : Entry) → IsInRange entry → EachOf HasCredit s.consumers
    → EachOf HasCredit (next_step s entry).state.consumers
unfolding step
next-credit s entry range each = by (stamp entry.command)
  where
    index : Index
    index = next_index s

    passes : (g : Gate) (given : Stamp) → EachOf HasCredit (go_through g index given entry.command s).state.consumers
    passes Fresh given =
        carried index entry.command (record s { sessions = admit s.sessions given }) range.command each
    passes _ given = each

    by : (o : Option Stamp) → EachOf HasCredit (step_by o index entry.command s).state.consumers
    by None = carried index entry.command s range.command each
    by (Some given) = passes (gate s.sessions given) given

pub credit_after : (s : State) (entries : List Entry) → AllByRecursion IsInRange entries → EachOf HasCredit s.consumers
    → EachOf HasCredit (state_after s entries).consumers
credit_after s [] range each = each
credit_after s (entry ∷ entries) range each =
    credit_after (next_step s entry).state entries range.1 (next-credit s entry range.0 each)
