use Rattle.std.proofs.Common.{◌≡◌, ℕ, List, true, false, sym, ap, ◌∙◌, insert}
use Rattle.std.specs.Result.{is_ok}
use Rattle.std.proofs.lemmas.Bool.{cond-true}
use Rattle.qq_model.specs.declared.session.Worker.{Worker}
use Rattle.qq_sessions.specs.Rising.{place_of, is_at, owner_key}
use Rattle.qq_sessions.proofs.Rising.{put-there, put-absent}
use Rattle.qq_sessions.proofs.workers.put.Goals as goal

pub returns-then-is_at : goal.returns-then-is_at
returns-then-is_at c =
    let xs : List Worker = c.args.workers.now.items in
    let place : ℕ = c.place_of-place.result in
    let is : place ≡ place_of owner_key c.args.worker.owner xs =
    c.place_of-place.ensures.place ∙ ap (place_of owner_key c.args.worker.owner) c.as_slice.ensures.value in
    let there : is_at owner_key c.args.worker.owner place xs ≡ true =
    ap (is_at owner_key c.args.worker.owner place) (sym c.as_slice-2.ensures.value) ∙ sym c.is_at.ensures
    ∙ c.if-is_at.true in
    put-there owner_key c.args.worker xs place c.requires.rising is there

pub returns : goal.returns
returns c =
    let xs : List Worker = c.args.workers.now.items in
    let place : ℕ = c.place_of-place.result in
    let is : place ≡ place_of owner_key c.args.worker.owner xs =
    c.place_of-place.ensures.place ∙ ap (place_of owner_key c.args.worker.owner) c.as_slice.ensures.value in
    let absent : is_at owner_key c.args.worker.owner place xs ≡ false =
    ap (is_at owner_key c.args.worker.owner place) (sym c.as_slice-2.ensures.value) ∙ sym c.is_at.ensures
    ∙ c.if-is_at.false in
    c.insert.ensures.items
    ∙ cond-true (is_ok c.insert.result) (insert xs place c.args.worker) xs (ap is_ok c.unwrap.ensures)
    ∙ put-absent owner_key c.args.worker xs place c.requires.rising is absent
