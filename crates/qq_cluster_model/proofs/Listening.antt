-- Who listens hears what is told, and takers see the same whoever listens.
use Rattle.std.proofs.Common.{◌≡◌, List, [], ◌∷◌, ◌++◌, Option, Some, None, refl, sym, ap, ◌∙◌, append_assoc, append-nil}
use Rattle.std.specs.List.{cons_option}
use Rattle.std.specs.Option.{option_map}
use Rattle.qq_session.specs.declared.shown.Shown.TheVariants.{Answered, Delivered, NoLeader, WindowFull, HasEnded, NotTaken, Attached, IsBusy, Taken, Dropped}
use Rattle.qq_taker.specs.Takers.{Gone, Held, Takers, change_held, hand, hear_on, look}
use Rattle.qq_taker.specs.declared.heard.Heard.{Heard}
use Rattle.qq_cluster_model.specs.Cluster.{Cluster, ClusterEvent, Setup, Printed, Of, Stopped, IsDown, NoSuch, Unroutable, Busy, Ended, State, all_prints}
use Rattle.qq_cluster_model.specs.Outcome.{all_heard, heard_in, sees_printed, sees_prints, takers_after}

-- what more is heard at what is printed
abbrev heard_more : Option Heard → List Heard → List Heard
heard_more o list = list ++ cons_option o []

heard-none : (o : Option (List Heard)) → o ≡ option_map (heard_more None) o
heard-none None = refl
heard-none (Some list) = ap (λ (l : List Heard). Some l) (sym (append-nil list))

heard-one : (x : Printed) (all : Takers)
    → (sees_printed x all).heard ≡ option_map (heard_more (heard_in x)) all.heard
heard-one (Of place (Answered row)) all = refl
heard-one (Of place (Delivered consumer delivery)) all = refl
heard-one (Of place (NoLeader session)) all = refl
heard-one (Of place (WindowFull session)) all = refl
heard-one (Of place (HasEnded session)) all = refl
heard-one (Of place (NotTaken session id)) all = refl
heard-one (Of place (Attached session number)) all = heard-none all.heard
heard-one (Of place (IsBusy session number)) all = heard-none all.heard
heard-one (Of place (Taken number consumer delivery verdict)) all = heard-none all.heard
heard-one (Of place (Dropped session number)) all = heard-none all.heard
heard-one (Stopped k) all = heard-none all.heard
heard-one (IsDown k) all = heard-none all.heard
heard-one NoSuch all = heard-none all.heard
heard-one Unroutable all = heard-none all.heard
heard-one Busy all = heard-none all.heard
heard-one Ended all = heard-none all.heard
heard-one (State place k server) all = heard-none all.heard

join : (o : Option Heard) (rest : List Heard) → cons_option o [] ++ rest ≡ cons_option o rest
join None rest = refl
join (Some h) rest = refl

heard-all : (xs : List Printed) (all : Takers) (before : List Heard) → all.heard ≡ Some before
    → (sees_prints xs all).heard ≡ Some (before ++ all_heard xs)
heard-all [] all before is = is ∙ ap (λ (l : List Heard). Some l) (sym (append-nil before))
heard-all (x ∷ xs) all before is =
    let here : List Heard = cons_option (heard_in x) [] in
    heard-all xs (sees_printed x all) (before ++ here)
    (heard-one x all ∙ ap (option_map (heard_more (heard_in x))) is)
    ∙ ap (λ (l : List Heard). Some l) (append_assoc before here (all_heard xs)
    ∙ ap (λ (l : List Heard). before ++ l) (join (heard_in x) (all_heard xs)))

heard-nobody : (xs : List Printed) (all : Takers) → all.heard ≡ None → (sees_prints xs all).heard ≡ None
heard-nobody [] all is = is
heard-nobody (x ∷ xs) all is =
    heard-nobody xs (sees_printed x all) (heard-one x all ∙ ap (option_map (heard_more (heard_in x))) is)

pub listeners-hear : (setup : Setup) (c : Cluster) (events : List ClusterEvent) (all : Takers) (before : List Heard)
    → all.heard ≡ Some before
    → (takers_after setup c events all).heard ≡ Some (before ++ all_heard (all_prints setup c events))
listeners-hear setup c events all before is = heard-all (all_prints setup c events) all before is

pub nobody-hears : (setup : Setup) (c : Cluster) (events : List ClusterEvent) (all : Takers) → all.heard ≡ None
    → (takers_after setup c events all).heard ≡ None
nobody-hears setup c events all is = heard-nobody (all_prints setup c events) all is

-- ---- whoever listens

held-one : (x : Printed) (a b : Takers) → a.held ≡ b.held → (sees_printed x a).held ≡ (sees_printed x b).held
held-one (Of place (Answered row)) a b is = is
held-one (Of place (Delivered consumer delivery)) a b is = is
held-one (Of place (NoLeader session)) a b is = is
held-one (Of place (WindowFull session)) a b is = is
held-one (Of place (HasEnded session)) a b is = is
held-one (Of place (NotTaken session id)) a b is = is
held-one (Of place (Attached session number)) a b is = ap (change_held number hand) is
held-one (Of place (IsBusy session number)) a b is = is
held-one (Of place (Taken number consumer delivery verdict)) a b is =
    ap (change_held number (look delivery verdict)) is
held-one (Of place (Dropped session number)) a b is = ap (change_held number (λ (held : Held). Gone)) is
held-one (Stopped k) a b is = is
held-one (IsDown k) a b is = is
held-one NoSuch a b is = is
held-one Unroutable a b is = is
held-one Busy a b is = is
held-one Ended a b is = is
held-one (State place k server) a b is = is

held-all : (xs : List Printed) (a b : Takers) → a.held ≡ b.held → (sees_prints xs a).held ≡ (sees_prints xs b).held
held-all [] a b is = is
held-all (x ∷ xs) a b is = held-all xs (sees_printed x a) (sees_printed x b) (held-one x a b is)

pub same-held : (setup : Setup) (c : Cluster) (events : List ClusterEvent) (all : Takers)
    (before : Option (List Heard))
    → (takers_after setup c events (hear_on before all)).held ≡ (takers_after setup c events all).held
same-held setup c events all before = held-all (all_prints setup c events) (hear_on before all) all refl
