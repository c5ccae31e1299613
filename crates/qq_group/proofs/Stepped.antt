-- What each piece of a step makes of the states that a group stands for.
use Rattle.std.proofs.Common.{◌≡◌, ℕ, ◌<◌, ◌≤◌, Bool, true, List, [], ◌++◌, length, Option, Some, None, refl, sym, ap, subst, ◌∙◌, arith}
use Rattle.std.specs.Prelude.{is_some, slice_get}
use Rattle.std.proofs.lemmas.Option.{slice_get_within}
use Rattle.qq_base.specs.Fronts.{IsFront, put}
use Rattle.qq_base.proofs.Puts.{put-each, put-same}
use Rattle.qq_entry.specs.declared.command.Entry.{Entry}
use Rattle.qq_log.specs.Log.{LogState}
use Rattle.qq_log.specs.Stable.{no_snapshot}
use Rattle.qq_log.specs.declared.op.Op.{Op}
use Rattle.qq_raft_core.specs.Raft.{server_of}
use Rattle.qq_raft_core.specs.Undone.{Held, held_by, leads_back, unnoticed}
use Rattle.qq_raft_core.specs.declared.undo.Undo.{Undo}
use Rattle.qq_raft_core.proofs.Undoing.{led, same-base, still-leads}
use Rattle.qq_raft_model.proofs.Handing.{continues-step}
use Rattle.qq_raft_model.specs.Handing.{Continues}
use Rattle.qq_raft_msg.specs.declared.rpc.Rpc.{Rpc}
use Rattle.qq_raft_model.specs.Server.{Input as Event, step as step_raft}
use Rattle.qq_raft_model.specs.State.{Server as Raft}
use Rattle.qq_base.specs.declared.ids.Index.{Index}
use Rattle.qq_raft_msg.specs.Queue.{Applied}
use Rattle.qq_raft.specs.Stands.{state_of}
use Rattle.qq_raft.specs.Step.{ServerState}
use Rattle.qq_raft.specs.declared.row.AppliedRow.{AppliedRow}
use Rattle.qq_raft.specs.declared.server.Server.{Server}
use Rattle.qq_raft_model.specs.Group.{Group as GroupState, Seat as SeatState, after_step, feed, feed_by, happens}
use Rattle.qq_raft_model.specs.Group.Event.{Crash}
use Rattle.qq_group.specs.Follows.{AddsStep, Feeds, HasShown, HasShownBy, Makes, OthersStay}
use Rattle.qq_group.specs.Group.{HasMade, HasState, IsLeft, IsReached, IsSeat, IsSeatBy, IsServed, IsSound, LeadsTo, Represents, server_at, server_by}
use Rattle.qq_group.specs.Step.{ChangesSeat, IsDropped, IsDroppedAt, IsFed, extended, known_by, seated}
use Rattle.qq_group.specs.Input.{acts, input_of}
use Rattle.qq_group.specs.declared.group.Group.{Group}
use Rattle.qq_group.specs.declared.input.Input.{Input}
use Rattle.qq_group.specs.declared.seat.Seat.{Seat}
use Rattle.qq_group.proofs.Inputs.{does-step}
use Rattle.qq_group.proofs.LeadsTo.{held_of, leads-after, leads-handed, leads-later, leads-on, step-leads}
use Rattle.qq_raft_model.proofs.Noticed.{noticed-rises}
use Rattle.qq_group.proofs.Reached.{KnownLaw, extended-is, known-front}
use Rattle.qq_group.proofs.Seats.{set-other, set-own, there-of}

-- ---- seats

pub changed-own : {Q L : Type 0} (k : ℕ) (was now : Seat Q L) (old new : Group Q L) → ChangesSeat k was now old new
    → slice_get new.seats.items k ≡ Some now
changed-own k was now old new c =
    ap (λ (l : List (Seat _ _)). slice_get l k) c.seats
    ∙ set-own old.seats.items k now (slice_get_within old.seats.items k was c.there)

pub changed-other : {Q L : Type 0} (k i : ℕ) (was now : Seat Q L) (old new : Group Q L)
    → ChangesSeat k was now old new → (i ≡ k → ⊥) → slice_get new.seats.items i ≡ slice_get old.seats.items i
changed-other k i was now old new c other =
    ap (λ (l : List (Seat _ _)). slice_get l i) c.seats ∙ set-other old.seats.items k i now other

pub same-some : {A : Type 0} (x y : A) → Some x ≡ Some y → x ≡ y
same-some x y e = grind (arith, e)

pub down-by : {Q L : Type 0} (log : L → LogState) (state : SeatState) (o : Option (Seat Q L)) → IsSeat log state o
    → server_by o ≡ None → state.server ≡ None
down-by log state None is down = is
down-by log state (Some seat) is down = (subst (IsSeatBy log state seat) down is).0

-- a member that is down is so in each state that the group stands for
pub is-down : {Q L : Type 0} (log : L → LogState) (g : GroupState) (k : ℕ) (group : Group Q L)
    → Represents log g group → server_at k group ≡ None → (g.seat k).server ≡ None
is-down log g k group r down = down-by log (g.seat k) (slice_get group.seats.items k) (r.seats k) down

-- and one that is up
pub is-up : {Q L : Type 0} (log : L → LogState) (g : GroupState) (k : ℕ) (seat : Seat Q L) (s : Server Q L)
    (group : Group Q L) → Represents log g group → slice_get group.seats.items k ≡ Some seat → seat.server ≡ Some s
    → IsSeatBy log (g.seat k) seat (Some s)
is-up log g k seat s group r there up =
    subst (IsSeatBy log (g.seat k) seat) up (subst (IsSeat log (g.seat k)) there (r.seats k))

-- one seat changes, and what is on its way and the audit
pub represents-with : {Q L : Type 0} (log : L → LogState) (g : GroupState) (k : ℕ) (state : SeatState)
    (was now : Seat Q L) (bag : List Rpc) (audit : List Entry) (old new : Group Q L) → g.queue ≡ old.queue
    → g.nodes ≡ old.nodes.items
    → ((i : ℕ) → (i ≡ k → ⊥) → IsSeat log (g.seat i) (slice_get old.seats.items i)) → ChangesSeat k was now old new
    → IsSeatBy log state now now.server → bag ≡ new.bag → audit ≡ new.audit.items
    → Represents log (record g { seat = put k state g.seat; bag = bag; audit = audit }) new
represents-with log g k state was now bag audit old new queue nodes others c own bag_is audit_is = record {
  queue = queue ∙ sym c.queue;
  nodes = nodes ∙ ap (λ v. v.items) (sym c.nodes);
  bag = bag_is;
  audit = audit_is;
  seats = put-each (λ i x. IsSeat log x (slice_get new.seats.items i)) k state g.seat
      (subst (IsSeat log state) (sym (changed-own k was now old new c)) own)
      (λ i other. subst (IsSeat log (g.seat i)) (sym (changed-other k i was now old new c other)) (others i other));
}

pub represents-put : {Q L : Type 0} (log : L → LogState) (g : GroupState) (k : ℕ) (state : SeatState)
    (was now : Seat Q L) (bag : List Rpc) (audit : List Entry) (old new : Group Q L) → Represents log g old
    → ChangesSeat k was now old new → IsSeatBy log state now now.server → bag ≡ new.bag → audit ≡ new.audit.items
    → Represents log (record g { seat = put k state g.seat; bag = bag; audit = audit }) new
represents-put log g k state was now bag audit old new r c own bag_is audit_is =
    represents-with log g k state was now bag audit old new r.queue r.nodes (λ i other. r.seats i) c own bag_is audit_is

-- ---- a server makes a step

fed-is : (k : ℕ) (input : Event) (s t : Raft) (g : GroupState) → (g.seat k).server ≡ Some s → t ≡ step_raft s input
    → feed k input g ≡ after_step k t g
fed-is k input s t g up is = ap (λ o. feed_by k input o g) up ∙ ap (λ u. after_step k u g) (sym is)

after-audit : KnownLaw → (k : ℕ) (t : Raft) (g : GroupState) (audit : List Entry) → audit ≡ g.audit
    → IsReached (after_step k t g) → IsFront g.audit (after_step k t g).audit
    → (after_step k t g).audit ≡ extended audit (known_by t)
after-audit law k t g audit is reached grows =
    extended-is g.audit (known_by t) (after_step k t g).audit grows
    (known-front law (after_step k t g) k (record t { out = [] }) reached (ap (λ x. x.server) (put-same k _ g.seat)))
    ∙ ap (λ a. extended a (known_by t)) (sym is)

-- what a member's machine stands for
pub has-state : {P Q L : Type 0} (stands : P → Q → Type 0) (log : L → LogState) (index_of : Q → ℕ) (k : ℕ)
    (seat : Seat Q L) (group : Group Q L) → IsSound stands log index_of group
    → slice_get group.seats.items k ≡ Some seat → (s : Server Q L) → seat.server ≡ Some s → HasState stands s.machine
has-state stands log index_of k seat group sound there s up =
    (subst (IsServed stands log index_of) up
    (subst (λ o. IsServed stands log index_of (server_by o)) there (sound.servers k))).state

-- and its undos lead back
abbrev pub CanLead : {Q L : Type 0} → (L → LogState) → Server Q L → Type 0
CanLead log s = leads_back s.raft.op s.raft.undos.items (log s.raft.log).entries ≡ true

pub can-lead : {P Q L : Type 0} (stands : P → Q → Type 0) (log : L → LogState) (index_of : Q → ℕ) (k : ℕ)
    (seat : Seat Q L) (group : Group Q L) → IsSound stands log index_of group
    → slice_get group.seats.items k ≡ Some seat → (s : Server Q L) → seat.server ≡ Some s → CanLead log s
can-lead stands log index_of k seat group sound there s up =
    (subst (IsServed stands log index_of) up
    (subst (λ o. IsServed stands log index_of (server_by o)) there (sound.servers k))).sound.raft.undos

-- what it leaves leads back too
pub left-dropped : {Q L : Type 0} (log : L → LogState) (old new : Seat Q L) → (d : IsDropped log old new)
    → CanLead log d.was → (log d.was.raft.log).base ≡ no_snapshot → IsLeft log new.left
left-dropped {Q = Q} {L = L} log old new d leads whole =
    let lanes = d.leaves.lanes in
    let last = d.last.raft in
    let op = ap (λ (h : Held). h.op) d.leaves.newest_is in
    let entries = ap (λ (h : Held). h.log) d.leaves.newest_is in
    subst (IsLeft log) (sym (ap (λ (x : Seat Q L). x.left) d.leaves.seat)) (
      ap (λ (l : L). (log l).base) d.leaves.log_is ∙ same-base log d.was.raft last d.back ∙ whole,
      ap (λ (n : ℕ). leads_back n lanes.undos.items (log lanes.log).entries) op
          ∙ ap (λ (us : List Undo). leads_back last.op us (log lanes.log).entries) d.leaves.undos
          ∙ ap (λ (es : List Entry). leads_back last.op last.undos.items es) entries
          ∙ still-leads log d.was.raft last d.back
          ∙ leads,
    )

-- the step is the definition's
pub stepped : {P Q L : Type 0} (stands : P → Q → Type 0) (step : P → Index → Entry → Applied P) (log : L → LogState)
    → KnownLaw → (k : ℕ) (input : Input) (seat now : Seat Q L) (rows : List AppliedRow) (old new : Group Q L)
    → ChangesSeat k seat now old new → ((s : Server Q L) → seat.server ≡ Some s → HasState stands s.machine)
    → ((s : Server Q L) → seat.server ≡ Some s → CanLead log s)
    → IsFed stands log (acts step input) seat now old.bag new.bag old.audit.items new.audit.items rows
    → Feeds log k (input_of input) old new
stepped stands step log law k input seat now rows old new c has leads fed = λ g r reached grows.
    let s = fed.was in
    let t = fed.stepped.made in
    let settles = fed.stepped.settles in
    let view = server_of log t.raft in
    let made = does-step stands step log input s t (has s fed.up) fed.stepped.does in
    let up = is-up log g k seat s old r c.there fed.up in
    let event = input_of input in
    let same : feed k event g ≡ after_step k view g = fed-is k event (server_of log s.raft) view g up.0 made in
    let state : SeatState = record { server = Some (record view { out = [] }); ops = (g.seat k).ops; noticed = view.noticed } in
    let told : view.noticed ≡ (step_raft (server_of log s.raft) event).noticed = ap (λ (x : Raft). x.noticed) made in
    let rises = noticed-rises (server_of log s.raft) event in
    let le : (g.seat k).noticed ≤ view.noticed = omega (arith, up.1.noticed, up.2, rises, told) in
    let ops = (g.seat k).ops in
    let on = step-leads ops (g.seat k).noticed (server_of log s.raft) view s.raft.undos.items t.raft.undos.items
    (subst (Continues (server_of log s.raft)) (sym made) (continues-step (server_of log s.raft) event)) up.3
    (led log s.raft t.raft fed.stepped.back (leads s fed.up)) up.1.leads in
    let left = unnoticed t.raft in
    let given = leads-on view.noticed (ops ++ view.ops) t.raft.undos.items (held_of view) (sym on.1.count)
    (leads-later (g.seat k).noticed view.noticed (ops ++ view.ops) t.raft.undos.items (held_of view) le on.0) in
    let now_ops : fed.now.raft.ops.items ≡ view.ops = ap (λ (x : Raft). x.ops) settles.raft in
    let now_held : held_by log fed.now.raft ≡ held_of view = ap held_of settles.raft in
    let own : IsSeatBy log state (seated (server_of log fed.now.raft).noticed fed.now seat) (Some fed.now) = (
      ap Some (sym settles.raft),
      record {
        noticed = sym (ap (λ (x : Raft). x.noticed) settles.raft);
        handed = up.1.handed;
        leads = subst (LeadsTo view.noticed (ops ++ fed.now.raft.ops.items) fed.now.raft.undos.items) (sym now_held)
            (subst (λ (us : List Undo). LeadsTo view.noticed (ops ++ fed.now.raft.ops.items) us (held_of view))
            (sym settles.undos)
            (subst (λ (l : List Op). LeadsTo view.noticed (ops ++ l) left (held_of view)) (sym now_ops) given));
      },
      refl,
      subst (HasMade (ops ++ fed.now.raft.ops.items)) (sym now_held)
          (subst (λ (l : List Op). HasMade (ops ++ l) (held_of view)) (sym now_ops) on.1),
    ) in
    subst (λ h. Represents log h new) (sym same)
    (represents-put log g k state seat now (g.bag ++ view.out) (after_step k view g).audit old new r c
    (subst (λ (x : Seat _ _). IsSeatBy log state x x.server) (sym fed.seat) own)
    (ap (λ l. l ++ view.out) r.bag ∙ sym settles.bag_is)
    (after-audit law k view g old.audit.items (sym r.audit) (subst IsReached same reached)
    (subst (λ h. IsFront g.audit h.audit) same grows) ∙ sym settles.audit_is))

-- a member whose server is gone has crashed
pub dropped-crashes : {Q L : Type 0} (log : L → LogState) (k : ℕ) (old new : Group Q L)
    → (d : IsDroppedAt log k old new) → CanLead log d.dropped.was → Makes log (happens (Crash k)) old new
dropped-crashes log k old new d leads = λ g r.
    let state : SeatState = record { server = None; ops = (g.seat k).ops; noticed = (g.seat k).noticed } in
    let s = d.dropped.was in
    let last = d.dropped.last in
    let lanes = d.dropped.leaves.lanes in
    let ops = (g.seat k).ops in
    let up = is-up log g k d.seat s old r d.changes.there d.dropped.up in
    let count = up.3.count in
    let on = leads-handed (g.seat k).noticed ops s.raft.ops.items last.raft.undos.items (held_by log last.raft)
    (leads-after (g.seat k).noticed (ops ++ s.raft.ops.items) s.raft.undos.items last.raft.undos.items
    (held_by log s.raft) (held_by log last.raft) (omega (arith, count)) (led log s.raft last.raft d.dropped.back leads)
    up.1.leads) in
    let own : IsSeatBy log state (record d.seat { server = None; left = Some lanes }) None = (
      refl,
      λ _. record {
        noticed = up.1.noticed;
        handed = up.1.handed;
        leads = subst (LeadsTo (g.seat k).noticed ops lanes.undos.items) (sym d.dropped.leaves.newest_is)
            (subst (λ (us : List Undo). LeadsTo (g.seat k).noticed ops us (held_by log last.raft))
            (sym d.dropped.leaves.undos) on);
      },
    ) in
    represents-put log g k state d.seat d.now g.bag g.audit old new r d.changes
    (subst (λ (x : Seat _ _). IsSeatBy log state x x.server) (sym d.dropped.leaves.seat) own) (r.bag ∙ sym d.bag)
    (r.audit ∙ sym d.audit)

-- ---- where a member is down

pub down-feeds : {Q L : Type 0} (log : L → LogState) (k : ℕ) (input : Event) (old new : Group Q L) → new ≡ old
    → server_at k old ≡ None → Feeds log k input old new
down-feeds log k input old new same down = λ g r reached grows.
    subst (λ h. Represents log h new) (sym (ap (λ o. feed_by k input o g) (is-down log g k old r down)))
    (subst (λ n. Represents log g n) (sym same) r)

-- ---- the rest of what a step says

-- a member that is up has a seat
pub up_within : {Q L : Type 0} (k : ℕ) (group : Group Q L) (r : Bool) → r ≡ is_some (server_at k group) → r ≡ true
    → k < length group.seats.items
up_within k group r is up =
    there-of group.seats.items k (λ (o : Option (Seat _ _)). is_some (server_by o)) refl (sym is ∙ up)

pub changed-others : {Q L : Type 0} (k : ℕ) (was now : Seat Q L) (old new : Group Q L) → ChangesSeat k was now old new
    → OthersStay k old new
changed-others k was now old new c = λ q other. changed-other k q was now old new c other

-- the server shows the rows of its step
pub shown : {P Q L : Type 0} (stands : P → Q → Type 0) (log : L → LogState) (f : ServerState P → ServerState P)
    (k : ℕ) (seat now : Seat Q L) (rows : List AppliedRow) (old new : Group Q L) → ChangesSeat k seat now old new
    → IsFed stands log f seat now old.bag new.bag old.audit.items new.audit.items rows
    → HasShownBy stands log f (server_at k old) (server_at k new) rows
shown {Q = Q} {L = L} stands log f k seat now rows old new c fed =
    let s = fed.was in
    let settles = fed.stepped.settles in
    let does = fed.stepped.does in
    let before : server_at k old ≡ Some s = ap server_by c.there ∙ fed.up in
    let here : server_at k new ≡ Some fed.now =
    ap server_by (changed-own k seat now old new c) ∙ ap (λ (x : Seat Q L). x.server) fed.seat in
    subst (λ (o : Option (Server Q L)). HasShownBy stands log f o (server_at k new) rows) (sym before)
    (subst (λ (o : Option (Server Q L)). HasShown stands log f s o rows) (sym here)
    (λ queue stood.
    record {
      raft = settles.raft ∙ ap (λ (r : Raft). record r { out = [] }) (does queue stood).raft;
      queue = subst (stands (f (state_of log queue s)).queue) (sym settles.machine) (does queue stood).queue;
      applied = settles.applied ∙ (does queue stood).applied;
      rows_are = settles.rows_are ∙ (does queue stood).rows;
      none = settles.none;
    }))

-- what it sends and knows is put behind what was there
pub adds-step : {P Q L : Type 0} (stands : P → Q → Type 0) (step : P → Index → Entry → Applied P) (log : L → LogState)
    (k : ℕ) (input : Input) (seat now : Seat Q L) (rows : List AppliedRow) (old new : Group Q L)
    → ChangesSeat k seat now old new → ((s : Server Q L) → seat.server ≡ Some s → HasState stands s.machine)
    → IsFed stands log (acts step input) seat now old.bag new.bag old.audit.items new.audit.items rows
    → AddsStep log (input_of input) old.bag old.audit.items (server_at k old) new
adds-step {Q = Q} {L = L} stands step log k input seat now rows old new c has fed =
    let s = fed.was in
    let t = fed.stepped.made in
    let settles = fed.stepped.settles in
    let made = does-step stands step log input s t (has s fed.up) fed.stepped.does in
    subst (λ (o : Option (Server Q L)). AddsStep log (input_of input) old.bag old.audit.items o new)
    (sym (ap server_by c.there ∙ fed.up))
    (record {
      bag_is = settles.bag_is ∙ ap (λ (r : Raft). old.bag ++ r.out) made;
      audit_is = settles.audit_is ∙ ap (λ (r : Raft). extended old.audit.items (known_by r)) made;
    })
