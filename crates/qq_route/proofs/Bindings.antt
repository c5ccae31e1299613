-- One more binding, in the index and among those that are taken.
use Rattle.std.proofs.Common.{◌≡◌, ℕ, Bool, true, false, cond, List, [], ◌∷◌, ◌++◌, map, filter, refl, sym, ap, ◌∙◌}
use Rattle.std.proofs.lemmas.List.{map-append, append-nil}
use Rattle.std.proofs.lemmas.List.Elements.{filter-append}
use Rattle.std.specs.Str.{bytes_eq}
use Rattle.qq_base.specs.declared.ids.QueueId.{QueueId}
use Rattle.qq_route.specs.declared.exchange.Binding.{Binding}
use Rattle.qq_route.specs.declared.exchange.ExchangeKind.{ExchangeKind}
use Rattle.qq_route.specs.declared.exchange.ExchangeKind.TheVariants.{Fanout}
use Rattle.qq_route.specs.Index.{IsIndex, bound_under, with_queue}
use Rattle.qq_route.specs.Routes.{takes}

abbrev pub queue_of : Binding → QueueId
queue_of b = b.queue

bound_under-append : (key : List ℕ) (xs ys : List Binding)
    → bound_under key (xs ++ ys) ≡ bound_under key xs ++ bound_under key ys
bound_under-append key xs ys =
    ap (map queue_of) (filter-append (λ (b : Binding). bytes_eq key b.key) xs ys)
    ∙ map-append queue_of (filter (λ (b : Binding). bytes_eq key b.key) xs)
    (filter (λ (b : Binding). bytes_eq key b.key) ys)

pub one_more : (index new : List ℕ → List QueueId) (bindings : List Binding) (b : Binding) → IsIndex index bindings
    → ((key : List ℕ) → new key ≡ with_queue index b.key b.queue key) → IsIndex new (bindings ++ b ∷ [])
one_more index new bindings b is more key =
    more key ∙ ap (λ queues. cond (bytes_eq key b.key) (queues ++ b.queue ∷ []) queues) (is key)
    ∙ by (bytes_eq key b.key) ∙ sym (bound_under-append key bindings (b ∷ []))
  where
    by : (t : Bool)
        → cond t (bound_under key bindings ++ b.queue ∷ []) (bound_under key bindings) ≡ bound_under key bindings ++
        map queue_of (cond t (b ∷ []) [])
    by true = refl
    by false = sym (append-nil (bound_under key bindings))

fanout_takes : (key : List ℕ) (bindings : List Binding)
    → bindings ≡ filter (λ (b : Binding). takes Fanout b.key key) bindings
fanout_takes key [] = refl
fanout_takes key (b ∷ bindings) = ap (λ bs. b ∷ bs) (fanout_takes key bindings)

pub all_taken : (kind : ExchangeKind) (key : List ℕ) (bindings : List Binding) → kind ≡ Fanout
    → map queue_of bindings ≡ map queue_of (filter (λ (b : Binding). takes kind b.key key) bindings)
all_taken kind key bindings e =
    ap (map queue_of) (fanout_takes key bindings)
    ∙ ap (λ k. map queue_of (filter (λ (b : Binding). takes k b.key key) bindings)) (sym e)
