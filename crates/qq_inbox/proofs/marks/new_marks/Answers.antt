use Rattle.std.proofs.Common.{◌≡◌, List, ℕ, [], replicate, sym, subst, rules}
use Rattle.atomic_table.specs.Table.{opening}
use Rattle.qq_inbox.specs.Seats.{Marked, first_seat}
use Rattle.qq_inbox.proofs.Seatings.{begins}
use Rattle.qq_inbox.proofs.marks.new_marks.Goals as goal

pub of_words-requires : goal.of_words-requires
of_words-requires c =
    let zero : c.as_slice.result.now ≡ replicate c.in-Some.count 0 = search rules in
    subst (λ (words : List ℕ). Marked {S = Unit {0}} (opening words [] (first_seat c.in-Some.count))) (sym zero)
    (begins (Unit {0}) c.in-Some.count)
