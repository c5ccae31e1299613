-- What an event at one member leaves of a queue.
use Rattle.std.proofs.Common.{◌≡◌, ◌≢◌, ℕ, List, [], ◌++◌, Option, Some, None, refl, ap, ◌∙◌}
use Rattle.qq_base.proofs.Puts.{put-same, put-other}
use Rattle.qq_entry.specs.declared.audit.AuditRow.{AuditRow}
use Rattle.qq_raft_msg.specs.declared.rpc.Rpc.{Rpc}
use Rattle.qq_raft_model.specs.Group.{Group, Seat, after_step, feed, feed_by}
use Rattle.qq_raft_model.specs.Server.{Input, step}
use Rattle.qq_raft_model.specs.State.{Server}
use Rattle.qq_cluster_model.specs.Queue.{Queue, Event, acts, effects_at, effects_by, effects_told, group_then, happens, own_effects, own_rows, rows_at, rows_by, rows_told, stepping, synced_after}
use Rattle.qq_session.specs.Clients.{hear_all}

-- an event gives one member an input, once these messages are left
pub record Feeds (q : Queue) (event : Event) (j : ℕ) (input : Input) (rest : List Rpc) : Type 0 where
  pub steps : stepping q event ≡ Some j
  pub is : group_then q event ≡ feed j input (record q.group { bag = rest })
  pub synced : synced_after q event ≡ q.synced
  pub acts : acts event q.clients ≡ q.clients

-- the member is down
pub record FeedsNobody (q r : Queue) (rest : List Rpc) : Type 0 where
  pub seat : r.group.seat ≡ q.group.seat
  pub bag : r.group.bag ≡ rest
  pub clients : r.clients ≡ q.clients
  pub synced : r.synced ≡ q.synced
  pub args : r.args ≡ q.args

-- what it is after the input
abbrev pub fed : Seat → Server → Seat
fed seat u = record { server = Some (record u { out = [] }); ops = seat.ops; noticed = u.noticed }

-- the member's server was the first, and what it makes of the input is the second
pub record FeedsOne (q r : Queue) (j : ℕ) (s u : Server) (rest : List Rpc) : Type 0 where
  pub seat : r.group.seat j ≡ fed (q.group.seat j) u
  pub others : (i : ℕ) → i ≢ j → r.group.seat i ≡ q.group.seat i
  pub bag : r.group.bag ≡ rest ++ u.out
  pub clients : r.clients ≡ hear_all (own_rows q.args s (record u { out = [] })) q.clients
  pub synced : r.synced ≡ q.synced
  pub args : r.args ≡ q.args

pub rows-told : (q : Queue) (event : Event) (j : ℕ) (input : Input) (rest : List Rpc) (s : Server)
    → Feeds q event j input rest → (q.group.seat j).server ≡ Some s
    → rows_told q event ≡ own_rows q.args s (record (step s input) { out = [] })
rows-told q event j input rest s feeds up =
    let u = step s input in
    let here : Group = record q.group { bag = rest } in
    ap (λ (o : Option ℕ). rows_at o q.args q.group (group_then q event)) feeds.steps
    ∙ ap (λ (g : Group). rows_by q.args (q.group.seat j).server (g.seat j).server)
    (feeds.is ∙ ap (λ (o : Option Server). feed_by j input o here) up)
    ∙ ap (λ (seat : Seat). rows_by q.args (q.group.seat j).server seat.server)
    (put-same j (fed (q.group.seat j) u) q.group.seat)
    ∙ ap (λ (o : Option Server). rows_by q.args o (Some (record u { out = [] }))) up

pub effects-told : (q : Queue) (event : Event) (j : ℕ) (input : Input) (rest : List Rpc) (s : Server)
    → Feeds q event j input rest → (q.group.seat j).server ≡ Some s
    → effects_told q event ≡ own_effects q.args s (record (step s input) { out = [] })
effects-told q event j input rest s feeds up =
    let u = step s input in
    let here : Group = record q.group { bag = rest } in
    ap (λ (o : Option ℕ). effects_at o q.args q.group (group_then q event)) feeds.steps
    ∙ ap (λ (g : Group). effects_by q.args (q.group.seat j).server (g.seat j).server)
    (feeds.is ∙ ap (λ (o : Option Server). feed_by j input o here) up)
    ∙ ap (λ (seat : Seat). effects_by q.args (q.group.seat j).server seat.server)
    (put-same j (fed (q.group.seat j) u) q.group.seat)
    ∙ ap (λ (o : Option Server). effects_by q.args o (Some (record u { out = [] }))) up

pub effects-nobody : (q : Queue) (event : Event) (j : ℕ) (input : Input) (rest : List Rpc) → Feeds q event j input rest
    → (q.group.seat j).server ≡ None → effects_told q event ≡ []
effects-nobody q event j input rest feeds down =
    ap (λ (o : Option ℕ). effects_at o q.args q.group (group_then q event)) feeds.steps
    ∙ ap (λ (o : Option Server). effects_by q.args o ((group_then q event).seat j).server) down

pub feeds-one : (q : Queue) (event : Event) (j : ℕ) (input : Input) (rest : List Rpc) (s : Server)
    → Feeds q event j input rest → (q.group.seat j).server ≡ Some s
    → FeedsOne q (happens q event) j s (step s input) rest
feeds-one q event j input rest s feeds up =
    let u = step s input in
    let here : Group = record q.group { bag = rest } in
    let is : group_then q event ≡ after_step j u here =
    feeds.is ∙ ap (λ (o : Option Server). feed_by j input o here) up in
    record {
      seat = ap (λ (g : Group). g.seat j) is ∙ put-same j (fed (q.group.seat j) u) q.group.seat;
      others = λ i other.
          ap (λ (g : Group). g.seat i) is ∙ put-other j (fed (q.group.seat j) u) q.group.seat i other;
      bag = ap (λ (g : Group). g.bag) is;
      clients = ap (λ (rows : List AuditRow). hear_all rows (acts event q.clients)) (rows-told q event j input rest s feeds up)
          ∙ ap (hear_all (own_rows q.args s (record u { out = [] }))) feeds.acts;
      synced = feeds.synced;
      args = refl;
    }

pub feeds-nobody : (q : Queue) (event : Event) (j : ℕ) (input : Input) (rest : List Rpc) → Feeds q event j input rest
    → (q.group.seat j).server ≡ None → FeedsNobody q (happens q event) rest
feeds-nobody q event j input rest feeds down =
    let here : Group = record q.group { bag = rest } in
    let is : group_then q event ≡ here =
    feeds.is ∙ ap (λ (o : Option Server). feed_by j input o here) down in
    record {
      seat = ap (λ (g : Group). g.seat) is;
      bag = ap (λ (g : Group). g.bag) is;
      clients = ap (λ (rows : List AuditRow). hear_all rows (acts event q.clients))
          (ap (λ (o : Option ℕ). rows_at o q.args q.group (group_then q event)) feeds.steps
          ∙ ap (λ (o : Option Server). rows_by q.args o ((group_then q event).seat j).server) down)
          ∙ feeds.acts;
      synced = feeds.synced;
      args = refl;
    }
