-- What comes of events outside of a cluster: the text that they print, what takers see, and what who listens hears.
use Rattle.std.specs.Prelude.{ℕ, List, [], ◌∷◌, Option, Some, None, filter_map}
use Rattle.qq_session.specs.declared.shown.Shown.{Shown}
use Rattle.qq_session.specs.declared.shown.Shown.TheVariants.{Answered, Attached, Delivered, Dropped, HasEnded, NoLeader, NotTaken, Taken, WindowFull}
use Rattle.qq_taker.specs.Takers.{Takers, drop_at, give, hear, judge}
use Rattle.qq_taker.specs.declared.handed.Handed.{Handed}
use Rattle.qq_taker.specs.declared.heard.Heard.{Heard}
use Rattle.qq_taker.specs.declared.heard.Refusal.{Refusal}
use Rattle.qq_taker.specs.declared.heard.Refusal.TheVariants as refusals
use Rattle.qq_taker.specs.declared.heard.What.{What}
use Rattle.qq_taker.specs.declared.heard.What.TheVariants.{Answer, Delivery, Refused}
use Rattle.qq_cluster_model.specs.Cluster.{Cluster, ClusterEvent, Printed, Of, Setup, all_prints}

-- a text so far, and the takers of a run
pub record Outcome : Type 0 where
  pub text : List ℕ
  pub takers : Takers

-- ---- what is heard

-- a session's command wasn't given to a leader
abbrev pub refused_at : (place session : ℕ) → Refusal → Heard
refused_at place session why = record { queue = record { 0 = place }; what = Refused session why }

-- who listens hears answers, deliveries to consumers without a taker, and that commands weren't given
abbrev pub heard_by : (place : ℕ) → Shown → Option Heard
heard_by place (Answered row) = Some (record { queue = record { 0 = place }; what = Answer row })
heard_by place (Delivered consumer delivery) =
    Some (record {
      queue = record { 0 = place };
      what = Delivery (record { consumer = consumer; delivery = delivery });
    })
heard_by place (NoLeader session) = Some (refused_at place session refusals.NoLeader)
heard_by place (WindowFull session) = Some (refused_at place session refusals.WindowFull)
heard_by place (HasEnded session) = Some (refused_at place session refusals.Ended)
heard_by place (NotTaken session id) = Some (refused_at place session (refusals.NotTaken id))
heard_by place _ = None

abbrev pub heard_in : Printed → Option Heard
heard_in (Of place shown) = heard_by place shown
heard_in _ = None

-- of all that is printed
abbrev pub all_heard : List Printed → List Heard
all_heard printed = filter_map heard_in printed

abbrev pub delivery_told : What → Option Handed
delivery_told (Delivery handed) = Some handed
delivery_told _ = None

abbrev pub delivery_in : Heard → Option Handed
delivery_in h = delivery_told h.what

-- the deliveries among it
abbrev pub deliveries_among : List Heard → List Handed
deliveries_among list = filter_map delivery_in list

-- ---- what takers see

-- a taker is given to a consumer, sees a delivery, and is dropped
abbrev pub turns : Shown → Takers → Takers
turns (Attached session number) all = give number all
turns (Taken number consumer delivery verdict) all = judge number delivery verdict all
turns (Dropped session number) all = drop_at number all
turns _ all = all

abbrev pub hear_some : Option Heard → Takers → Takers
hear_some None all = all
hear_some (Some h) all = hear h all

-- takers see what is for them, and who listens hears the rest
abbrev pub sees : (place : ℕ) → Shown → Takers → Takers
sees place shown all = hear_some (heard_by place shown) (turns shown all)

abbrev pub sees_all : (place : ℕ) → List Shown → Takers → Takers
sees_all place [] all = all
sees_all place (shown ∷ more) all = sees_all place more (sees place shown all)

abbrev pub sees_printed : Printed → Takers → Takers
sees_printed (Of place shown) all = sees place shown all
sees_printed _ all = all

abbrev pub sees_prints : List Printed → Takers → Takers
sees_prints [] all = all
sees_prints (printed ∷ more) all = sees_prints more (sees_printed printed all)

-- the takers after events, in the order of what these show
abbrev pub takers_after : Setup → Cluster → List ClusterEvent → Takers → Takers
takers_after setup c events all = sees_prints (all_prints setup c events) all
