use Rattle.std.proofs.Common.{◌≡◌, ℕ, List, true, false, sym, ap, ◌∙◌, insert}
use Rattle.std.specs.Result.{is_ok}
use Rattle.std.proofs.lemmas.Bool.{cond-true}
use Rattle.qq_sessions.specs.Rising.{place_of, is_at, number_key}
use Rattle.qq_sessions.proofs.Rising.{put-there, put-absent, set-same}
use Rattle.qq_sessions.proofs.ended.put.Goals as goal

pub returns-then-is_at : goal.returns-then-is_at
returns-then-is_at c =
    let xs : List ℕ = c.args.numbers.now.items in
    let place : ℕ = c.place_of-place.result in
    let is : place ≡ place_of number_key c.args.number xs =
    c.place_of-place.ensures.place ∙ ap (place_of number_key c.args.number) c.as_slice.ensures.value in
    let there : is_at number_key c.args.number place xs ≡ true =
    ap (is_at number_key c.args.number place) (sym c.as_slice-2.ensures.value) ∙ sym c.is_at.ensures
    ∙ c.if-is_at.true in
    sym (set-same c.args.number place xs there) ∙ put-there number_key c.args.number xs place c.requires.rising is there

pub returns : goal.returns
returns c =
    let xs : List ℕ = c.args.numbers.now.items in
    let place : ℕ = c.place_of-place.result in
    let is : place ≡ place_of number_key c.args.number xs =
    c.place_of-place.ensures.place ∙ ap (place_of number_key c.args.number) c.as_slice.ensures.value in
    let absent : is_at number_key c.args.number place xs ≡ false =
    ap (is_at number_key c.args.number place) (sym c.as_slice-2.ensures.value) ∙ sym c.is_at.ensures
    ∙ c.if-is_at.false in
    c.insert.ensures.items
    ∙ cond-true (is_ok c.insert.result) (insert xs place c.args.number) xs (ap is_ok c.unwrap.ensures)
    ∙ put-absent number_key c.args.number xs place c.requires.rising is absent
