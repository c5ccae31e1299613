use Rattle.std.proofs.Common.{◌≡◌, ℕ, ◌+◌, List, take, length, min, ap, ◌∙◌, subst, arith}
use Rattle.std.proofs.lemmas.List.{take_min}
use Rattle.qq_entry.specs.declared.answer.Answer.{Answer}
use Rattle.qq_live.specs.Indices.{Removes}
use Rattle.qq_sessions.specs.Named.{got_indices, answers_indices}
use Rattle.qq_sessions.proofs.Holders.{answers-take, removes-then}
use Rattle.qq_sessions.proofs.answers.let_go_first.Goals as goal

pub answers-preserved : goal.answers-preserved
answers-preserved c =
    let kept : List Answer = c.args.kept.now.items in (
      removes-then (answers_indices (take c.answers.place kept)) (got_indices c.answer_at.result.now)
          (answers_indices (take (c.answers.place + 1) kept)) c.args.named.now.indices c.answers.named.indices
          c.let_go.new.named.indices (answers-take kept c.answers.place c.answer_at.result.now c.answer_at.ensures)
          c.answers.invariant.0 c.let_go.ensures.named,
      λ room. c.let_go.ensures.room (c.answers.invariant.1 room),
    )

pub returns-clause-named : goal.returns-clause-named
returns-clause-named c =
    let kept : List Answer = c.args.kept.now.items in
    let most : c.answers.place ≡ c.min-most.result = omega (arith, c.answers-test.false, c.answers.auto.place-end) in
    let least : c.min-most.result ≡ min c.args.count (length kept) =
    c.min-most.ensures ∙ ap (min c.args.count) (c.len.ensures ∙ c.args.kept.now.ok.0) in
    subst (λ (xs : List Answer). Removes (answers_indices xs) c.args.named.now.indices c.answers.named.indices)
    (ap (λ (n : ℕ). take n kept) (most ∙ least) ∙ take_min c.args.count kept) c.answers.invariant.0
