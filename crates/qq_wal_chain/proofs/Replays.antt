-- What records come to.
use Rattle.std.proofs.Common.{◌≡◌, List, [], ◌∷◌, ◌++◌, Option, Some, None, refl, sym, ap, subst, ◌∙◌}
use Rattle.qq_base.specs.Fronts.{IsFront}
use Rattle.qq_wal_chain.specs.Format.{Format}
use Rattle.qq_wal_chain.specs.Records.{replay, step_on, Restate}

module _ (F : Format) where
  -- a value, where there is one
  pub record IsSome (o : Option F.World) : Type 0 where
    pub world : F.World
    pub is : o ≡ Some world

  pub replay-none : (rs : List F.Record) → replay F rs None ≡ None
  replay-none [] = refl
  replay-none (r ∷ rs) = replay-none rs

  pub replay-append : (a b : List F.Record) (o : Option F.World) → replay F (a ++ b) o ≡ replay F b (replay F a o)
  replay-append [] b o = refl
  replay-append (r ∷ a) b o = replay-append a b (step_on F r o)

  -- what comes to a value, does so as far as any place
  pub replay-front : (a b : List F.Record) (o : Option F.World) → IsSome (replay F (a ++ b) o) → IsSome (replay F a o)
  replay-front a b o s = by (replay F a o) refl
    where
      by : (m : Option F.World) → replay F a o ≡ m → IsSome (replay F a o)
      by None e = absurd-none (sym s.is ∙ replay-append a b o ∙ ap (λ (m : Option F.World). replay F b m) e
          ∙ replay-none b)
        where
          absurd-none : Some s.world ≡ None → IsSome (replay F a o)
          absurd-none h = absurd cc
      by (Some w) e = record { world = w; is = e }

  pub restated : (world : F.World) (rs : List F.Record) → Restate F world rs → replay F rs (Some world) ≡ Some world
  restated world [] h = refl
  restated world (r ∷ rs) h =
      ap (λ (o : Option F.World). replay F rs o) h.0 ∙ restated world rs h.1

  pub restate-front : (world : F.World) (a all : List F.Record) → IsFront a all → Restate F world all
      → Restate F world a
  restate-front world a all f h = by a f.rest (lift f.is h)
    where
      lift : all ≡ a ++ f.rest → Restate F world all → Restate F world (a ++ f.rest)
      lift e h = subst (λ (rs : List F.Record). Restate F world rs) e h

      by : (a rest : List F.Record) → Restate F world (a ++ rest) → Restate F world a
      by [] rest h = tt
      by (r ∷ a) rest h = (h.0, by a rest h.1)
