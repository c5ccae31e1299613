-- A session claims what was shown of a consumer's deliveries.
use Rattle.std.proofs.Common.{◌≡◌, ℕ, Bool, true, false, cond, not, List, [], ◌∷◌, ◌++◌, Option, Some, None, refl, sym, ap, ◌∙◌, subst, inl, inr}
use Rattle.std.specs.Prelude.{Contains, find, nat_eq}
use Rattle.std.specs.List.{list_any}
use Rattle.std.proofs.lemmas.Bool.{eq-eqb, eqb-true, false≢true, or_cases, or_left, or_right}
use Rattle.std.proofs.lemmas.List.Elements.{All-cons, All-nil}
use Rattle.qq_base.proofs.Lists.{In}
use Rattle.qq_base.specs.Ids.{client}
use Rattle.qq_base.specs.declared.ids.ConsumerId.{ConsumerId}
use Rattle.qq_consuming.specs.Arrivals.{Deed}
use Rattle.qq_consuming.specs.Consumers.{claimed, consumer_at, not_taken_by}
use Rattle.qq_consuming.specs.Consuming.{ids_of, was_handed_out}
use Rattle.qq_consuming.proofs.HistoryLaws.{claimed as handed-claimed}
use Rattle.qq_entry.specs.declared.answer.Delivery.{Delivery}
use Rattle.qq_entry.specs.declared.command.Unstamped.{Unstamped}
use Rattle.qq_entry.specs.declared.queue.QueueArgs.{QueueArgs}
use Rattle.qq_model.proofs.Soundness.{Contains-in, in_contains}
use Rattle.qq_raft_model.specs.Group.{Group}
use Rattle.qq_cluster_model.specs.Laws.{AreClaimed, deliveries_shown, deliveries_waiting, queue_after}
use Rattle.qq_cluster_model.specs.Queue.{Queue, Event, all_said, begin, consumer_of}
use Rattle.qq_cluster_model.specs.Rules.{not_taken}
use Rattle.qq_cluster_model.proofs.Consumed.{after-at, all-at, all_deeds}

any-in : (n : ℕ) (xs : List ℕ) → list_any (nat_eq n) xs ≡ true → In n xs
any-in n [] any = absurd (false≢true any)
any-in n (x ∷ xs) any = elim (or_cases (nat_eq n x) (list_any (nat_eq n) xs) any) [
  | inl here ↦ inl (eqb-true n x here)
  | inr later ↦ inr (any-in n xs later)
]

in-any : (n : ℕ) (xs : List ℕ) → In n xs → list_any (nat_eq n) xs ≡ true
in-any n [] here = absurd here
in-any n (x ∷ xs) (inl same) = or_left (nat_eq n x) (list_any (nat_eq n) xs) (eq-eqb n x same)
in-any n (x ∷ xs) (inr later) = or_right (nat_eq n x) (list_any (nat_eq n) xs) (in-any n xs later)

-- the first id that fails a test for what was shown
find-claims : (shown : List ℕ) (test : ℕ → Bool) → ((n : ℕ) → test n ≡ list_any (nat_eq n) shown) → (ids : List ℕ)
    → AreClaimed ids shown (find (λ (n : ℕ). not (test n)) ids)
find-claims shown test is [] = All-nil (Contains shown)
find-claims shown test is (n ∷ ids) = by (test n) refl (find-claims shown test is ids)
  where
    push : Contains shown n → (o : Option ℕ) → AreClaimed ids shown o → AreClaimed (n ∷ ids) shown o
    push here None all = All-cons (Contains shown) n ids here all
    push here (Some id) (before, behind, same, all, not') =
        (n ∷ before, behind, ap (λ (l : List ℕ). n ∷ l) same, All-cons (Contains shown) n before here all, not')

    by : (b : Bool) → test n ≡ b → AreClaimed ids shown (find (λ (m : ℕ). not (test m)) ids)
        → AreClaimed (n ∷ ids) shown (cond (not b) (Some n) (find (λ (m : ℕ). not (test m)) ids))
    by true passes rest =
        push (Contains-in n shown (any-in n shown (sym (is n) ∙ passes))) (find (λ (m : ℕ). not (test m)) ids) rest
    by false fails rest = (
      [],
      ids,
      refl,
      All-nil (Contains shown),
      λ there. absurd (false≢true (sym fails ∙ is n ∙ in-any n shown (in_contains shown n there))),
    )

pub claims-shown : (args : QueueArgs) (group : Group) (events : List Event) (session tag : ℕ) (body : Unstamped)
    (ids : List ℕ) → claimed body ≡ Some (tag, ids)
    → AreClaimed ids (ids_of (deliveries_shown (consumer_of session tag) (all_said (begin args group) events)
    ++ deliveries_waiting (consumer_of session tag) (queue_after args group events).untold))
    (not_taken session body (queue_after args group events))
claims-shown args group events session tag body ids is =
    let id : ConsumerId = consumer_of session tag in
    let q : Queue = queue_after args group events in
    let deeds : List Deed = all_deeds id (begin args group) events in
    let out : List Delivery =
    deliveries_shown id (all_said (begin args group) events) ++ deliveries_waiting id q.untold in
    let shown : List ℕ = ids_of out in
    subst (λ (o : Option (ℕ × List ℕ)). AreClaimed ids shown (not_taken_by (client session) o q.consumers)) (sym is)
    (find-claims shown (λ (n : ℕ). was_handed_out n (consumer_at id q.consumers))
    (λ n. ap (was_handed_out n) (after-at id (begin args group) events) ∙ handed-claimed id deeds n
    ∙ ap (λ (ds : List Delivery). list_any (nat_eq n) (ids_of ds)) (sym (all-at id args group events))) ids)
