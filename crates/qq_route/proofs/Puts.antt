-- An exchange that is put under its name.
use Rattle.std.proofs.Common.{◌≡◌, ℕ, Bool, true, false, cond, List, Option, Some, None, is_some, refl, sym, ap, ◌∙◌, if◌then◌else◌}
use Rattle.std.specs.Str.{bytes_eq}
use Rattle.std.proofs.lemmas.Slice.Eq.{bytes_eq-Decides}
use Rattle.qq_route.specs.declared.exchange.ExchangeKind.{ExchangeKind}
use Rattle.qq_route.specs.declared.exchange.Binding.{Binding}
use Rattle.qq_route.specs.Routes.{Exchanges, ExchangeState, put, put_binding, with_binding, bind_at, add_at, new_exchange}

module _ (old new : Exchanges) (name : List ℕ) where
  pub added : (kind : ExchangeKind) → old name ≡ None
      → ((other : List ℕ) → new other ≡ put old name (new_exchange kind) other)
      → new ≡ add_at old name kind
  added kind none is =
      let whole : new ≡ put old name (new_exchange kind) = λ i other. is other i in
      whole ∙ ap (λ (o : Option ExchangeState). if is_some o then old else put old name (new_exchange kind))
      (sym none)

  pub bound : (e w : ExchangeState) (b : Binding) → old name ≡ Some e → w ≡ with_binding e b
      → ((other : List ℕ) → new other ≡ put old name w other)
      → new ≡ bind_at old name b
  bound e w b some more is =
      let whole : new ≡ put old name w = λ i other. is other i in
      whole ∙ ap (put old name) more ∙ ap (put_binding old name b) (sym some)

  pub unchanged : (e w : ExchangeState) → old name ≡ Some e → w ≡ e
      → ((other : List ℕ) → new other ≡ put old name w other) → new ≡ old
  unchanged e w some same is =
      λ i other. (is other ∙ ap (λ v. put old name v other) same ∙ by other (bytes_eq name other) refl) i
    where
      by : (other : List ℕ) (t : Bool) → bytes_eq name other ≡ t → cond t (Some e) (old other) ≡ old other
      by other true h = sym some ∙ ap old ((bytes_eq-Decides name other).0 h)
      by other false h = refl
