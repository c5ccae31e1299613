-- The text of what a cluster prints.
use Rattle.std.specs.Prelude.{ℕ, List, ◌++◌, Bool, Option, Some, None, length, codes, nat_eq}
use Rattle.std.specs.Fmt.{decimal}
use Rattle.std.specs.List.{flat_map}
use Rattle.qq_raft_model.specs.State.{Server}
use Rattle.qq_raft_msg.specs.declared.state.Role.{Role}
use Rattle.qq_raft_msg.specs.declared.state.Role.TheVariants.{Follower, Candidate, Leader}
use Rattle.qq_script.specs.Audit.{audit_text}
use Rattle.qq_script.specs.Shown.{shown_text}
use Rattle.qq_session.specs.declared.shown.Shown.{Shown}
use Rattle.qq_cluster_model.specs.Queue.{audit_rows}
use Rattle.qq_cluster_model.specs.Cluster.{Setup, Cluster, ClusterEvent, Printed, Of, Stopped, IsDown, NoSuch, Unroutable, Busy, Ended, State, all_prints}

abbrev pub is_first : Setup → ℕ → Bool
is_first setup place = nat_eq place setup.first

-- the text of what a queue shows
abbrev pub shown_text_at : Setup → ℕ → Shown → List ℕ
shown_text_at setup place shown = shown_text (is_first setup place) (setup.name place) shown

abbrev pub role_text : Role → List ℕ
role_text Follower = codes "follower"
role_text Candidate = codes "candidate"
role_text Leader = codes "leader"

-- a node that is down says no more
abbrev pub state_text : Option Server → List ℕ
state_text None = codes "down"
state_text (Some s) =
    role_text s.role ++ codes " term " ++ decimal s.term.0 ++ codes " last " ++ decimal (length s.log)
    ++ codes " commit " ++ decimal s.commit

-- the line of a queue's server on a node
abbrev pub state_line : List ℕ → ℕ → Option Server → List ℕ
state_line name k server =
    name ++ codes " " ++ decimal k ++ codes " " ++ state_text server ++ codes "\n"

abbrev pub printed_text : Setup → Printed → List ℕ
printed_text setup (Of place shown) = shown_text_at setup place shown
printed_text setup (Stopped k) = codes "node " ++ decimal k ++ codes " stopped\n"
printed_text setup (IsDown k) = codes "down " ++ decimal k ++ codes "\n"
printed_text setup NoSuch = codes "no such\n"
printed_text setup Unroutable = codes "unroutable\n"
printed_text setup Busy = codes "busy\n"
printed_text setup Ended = codes "ended\n"
printed_text setup (State place k server) = state_line (setup.name place) k server

abbrev pub text_of : Setup → Cluster → List ClusterEvent → List ℕ
text_of setup c events = flat_map (printed_text setup) (all_prints setup c events)

-- the audits of all queues, in order
abbrev pub audits_text : Setup → Cluster → List ℕ
audits_text setup c = flat_map (λ place. audit_text (setup.name place) 0 (audit_rows (c.queue place))) setup.places
