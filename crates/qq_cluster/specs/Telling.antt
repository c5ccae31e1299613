-- What comes of what a queue shows: a text grows by it, takers see what is for them, and who listens hears the rest.
use Rattle.std.specs.Prelude.{◌≡◌, ℕ, List, [], ◌∷◌, ◌++◌, Bool}
use Rattle.std.specs.List.{flat_map}
use Rattle.qq_cluster_model.specs.Outcome.{Outcome, hear_some, heard_by, sees_all, turns}
use Rattle.qq_cluster_model.specs.Queue.{Event, Queue, happens, said}
use Rattle.qq_queue.specs.ClusterQueue.{Stands as IsQueue}
use Rattle.qq_queue.specs.Sessions.{Standings}
use Rattle.qq_queue.specs.declared.cluster_queue.ClusterQueue.{ClusterQueue}
use Rattle.qq_script.specs.Shown.{shown_text}
use Rattle.qq_session.specs.declared.shown.Shown.{Shown}
use Rattle.qq_session.specs.declared.shown.Shown.TheVariants.{Taken}
use Rattle.qq_taker.specs.Takers.{Takers}

-- ---- one after the other

-- what becomes of takers; one that has given its verdict was asked for it before that is shown
abbrev pub turns_then : Shown → Takers → Takers
turns_then (Taken number consumer delivery verdict) all = all
turns_then shown all = turns shown all

-- what a queue shows is told, where its taker was asked already
abbrev pub tell : Bool → (place : ℕ) → List ℕ → Shown → Outcome → Outcome
tell first place name shown o =
    record {
      text = o.text ++ shown_text first name shown;
      takers = hear_some (heard_by place shown) (turns_then shown o.takers);
    }

abbrev pub tell_all : Bool → (place : ℕ) → List ℕ → List Shown → Outcome → Outcome
tell_all first place name [] o = o
tell_all first place name (shown ∷ more) o = tell_all first place name more (tell first place name shown o)

-- ---- what a call does

-- what is shown comes out of a queue, the cluster's first one or not: a text has grown by that, and the takers have seen it
pub record Shows (first : Bool) (d : ClusterQueue) (shown : List Shown) (before after : Outcome) : Type 0 where
  pub text : after.text ≡ before.text ++ flat_map (shown_text first d.name) shown
  pub takers : after.takers ≡ sees_all d.args.queue.0 shown before.takers

-- whichever queue it stood for, it stands for what an event makes of that, and what that shows has come out of it
abbrev pub Does : Bool → Event → Standings → ClusterQueue → ClusterQueue → Outcome → Outcome → Type 0
Does first event sessions old new before after =
    (q : Queue) → IsQueue sessions old q
    → IsQueue sessions new (happens q event) × Shows first old (said q event) before after
