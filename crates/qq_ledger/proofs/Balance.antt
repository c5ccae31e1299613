-- What a ledger says once a message has come or left.
use Rattle.std.proofs.Common.{◌≡◌, ℕ, ◌+◌, List, [], ◌++◌, ap, ◌∙◌, arith, if◌then◌else◌}
use Rattle.std.proofs.lemmas.List.Sums.{sum_by-append}
use Rattle.qq_base.specs.declared.ids.Index.{Index}
use Rattle.qq_live.specs.Indices.{is_index, occurrences}
use Rattle.qq_ledger.specs.Ledger.{Balances}

pub occurrences-append : (i : ℕ) (xs ys : List Index)
    → occurrences i (xs ++ ys) ≡ occurrences i xs + occurrences i ys
occurrences-append i xs ys = sum_by-append (λ (index : Index). if is_index i index then 1 else 0) xs ys

pub balance-none : {base now came gone : List Index} → now ≡ base → came ≡ [] → gone ≡ []
    → Balances base now came gone
balance-none {came = came} {gone = gone} same none none' =
    record {
      counts = λ i.
          let a = ap (occurrences i) same in
          let b : occurrences i came ≡ 0 = ap (occurrences i) none in
          let e : occurrences i gone ≡ 0 = ap (occurrences i) none' in omega (arith, a, b, e);
    }

pub balance-same : {base base' now after came gone came' gone' : List Index} → Balances base now came gone
    → base' ≡ base → ((i : ℕ) → occurrences i after ≡ occurrences i now) → came' ≡ came → gone' ≡ gone
    → Balances base' after came' gone'
balance-same balance still same c g =
    record {
      counts = λ i.
          let z = ap (occurrences i) still in
          let a = balance.counts i in
          let b = same i in
          let d = ap (occurrences i) c in
          let e = ap (occurrences i) g in omega (arith, a, b, d, e, z);
    }

-- some have come
pub balance-more : {base base' now after came gone came' gone' : List Index} (more : List Index)
    → Balances base now came gone → base' ≡ base → ((i : ℕ) → occurrences i after ≡ occurrences i now + occurrences i more)
    → came' ≡ came ++ more → gone' ≡ gone → Balances base' after came' gone'
balance-more {came = came} more balance still comes c g =
    record {
      counts = λ i.
          let z = ap (occurrences i) still in
          let a = balance.counts i in
          let b = comes i in
          let d = ap (occurrences i) c ∙ occurrences-append i came more in
          let e = ap (occurrences i) g in omega (arith, a, b, d, e, z);
    }

-- some have left
pub balance-less : {base base' now after came gone came' gone' : List Index} (less : List Index)
    → Balances base now came gone → base' ≡ base → ((i : ℕ) → occurrences i now ≡ occurrences i after + occurrences i less)
    → came' ≡ came → gone' ≡ gone ++ less → Balances base' after came' gone'
balance-less {gone = gone} less balance still leaves c g =
    record {
      counts = λ i.
          let z = ap (occurrences i) still in
          let a = balance.counts i in
          let b = leaves i in
          let d = ap (occurrences i) c in
          let e = ap (occurrences i) g ∙ occurrences-append i gone less in omega (arith, a, b, d, e, z);
    }
