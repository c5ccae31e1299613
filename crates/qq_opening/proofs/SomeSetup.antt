-- There is a setup with logs.
use Rattle.std.proofs.Common.{◌≡◌, ◌+◌, ◌-◌, ℕ, zero, suc, List, [], Option, Some, None, length, refl, sym, ap, ◌∙◌, subst, inl, inr, arith}
use Rattle.std.specs.Prelude.{slice_get}
use Rattle.std.specs.List.{AllByRecursion}
use Rattle.qq_base.specs.declared.ids.NodeId.{NodeId}
use Rattle.qq_base.specs.declared.ids.QueueId.{QueueId}
use Rattle.qq_entry.specs.declared.queue.QueueArgs.{QueueArgs}
use Rattle.qq_raft_model.specs.Group.{Group, new_group}
use Rattle.qq_raft_model.specs.Promises.{AreDistinct}
use Rattle.qq_raft_protocol.specs.Facts.{In}
use Rattle.qq_raft_protocol.proofs.Lists.{In-cases}
use Rattle.qq_route.specs.declared.queue_row.QueueRow.{QueueRow}
use Rattle.qq_cluster_model.specs.Cluster.{Setup, members}
use Rattle.qq_cluster_model.specs.Laws.{IsBegun}
use Rattle.qq_cluster_laws.specs.Waiting.{HasOwnGroups, IsChangeOf}
use Rattle.qq_cluster.specs.Setting.{IsSetupOver}
use Rattle.qq_opening.specs.Opening.{AreLogsOf, IsSetupWith, Logs, seat_over}
use Rattle.qq_opening.proofs.Agreed.{item-of}
use Rattle.qq_opening.proofs.ReadLogs.{row-next, row_at}
use Rattle.qq_opening.proofs.RowsOf.{row-members, row-place}
use Rattle.qq_opening.proofs.Untouched.{range-below}

abbrev pub members_by : Option QueueRow → List NodeId
members_by None = []
members_by (Some row) = row.members

abbrev pub group_with : Setup → List QueueRow → Logs → ℕ → Group
group_with s rows logs place =
    record {
      queue = (s.args place).queue;
      nodes = members_by (row_at rows place);
      seat = λ k. seat_over (logs place k);
      bag = [];
      audit = [];
    }

abbrev pub setup_with : Setup → List QueueRow → Logs → Setup
setup_with s rows logs = record s { group = group_with s rows logs }

module _ (s : Setup) (rows : List QueueRow) (count : ℕ) (set : IsSetupOver s rows count) (logs : Logs)
    (own : AreLogsOf rows logs)
    (may : (queue : QueueId) (nodes : List NodeId) → AreDistinct nodes → IsBegun (new_group queue nodes)) where
  members-at : (i : ℕ) (row : QueueRow) → slice_get rows i ≡ Some row
      → members_by (row_at rows (i + 1)) ≡ row.members
  members-at i row here = ap members_by (row-next rows i ∙ here)

  -- each place has its row
  place-row : (place : ℕ) → In place s.places
      → (i : ℕ) × (row : QueueRow) × (place ≡ i + 1) × (slice_get rows i ≡ Some row)
  place-row place here =
      let bounds = range-below 1 (length rows) place (subst (In place) set.set_up.places here) in
      let low = bounds.0 in
      let high = bounds.1 in
      let row = item-of rows (place - 1) (omega (arith, low, high)) in
      (place - 1, row.0, omega (arith, low), row.1)

  here-place : (i : ℕ) (row : QueueRow) → slice_get rows i ≡ Some row → In (i + 1) s.places
  here-place = row-place rows s set.set_up.places set.set_up.ids set.each

  none-away : (place k : ℕ) → (In place s.places → ⊥) → logs place k ≡ []
  none-away place k away =
      own.others place k
      (λ i row e here member. away (subst (λ (p : ℕ). In p s.places) (sym e) (here-place i row here)))

  no-row : (place : ℕ) → (In place s.places → ⊥) → members_by (row_at rows place) ≡ []
  no-row zero away = refl
  no-row (suc i) away = by (slice_get rows i) refl
    where
      by : (o : Option QueueRow) → slice_get rows i ≡ o → members_by o ≡ []
      by None is = refl
      by (Some row) is =
          absurd (away (subst (λ (p : ℕ). In p s.places) (let e : i + 1 ≡ suc i = omega arith in e)
          (here-place i row is)))

  own-groups : HasOwnGroups (setup_with s rows logs)
  own-groups place = record { queue = refl; ops = λ k. changes k }
    where
      changes : (k : ℕ) → AllByRecursion (IsChangeOf (s.args place).queue) (logs place k)
      changes k = elim (In-cases place s.places) [
        | inl here ↦ (let row = place-row place here in
            subst (λ (p : ℕ). AllByRecursion (IsChangeOf (s.args p).queue) (logs p k)) (sym row.2)
            (subst (λ (a : QueueArgs). AllByRecursion (IsChangeOf a.queue) (logs (row.0 + 1) k))
            (set.each row.0 row.1 row.3).args_is (own.own row.0 k row.1 row.3)))
        | inr away ↦ subst (AllByRecursion (IsChangeOf (s.args place).queue)) (sym (none-away place k away)) tt
      ]

  begun-away : (place : ℕ) → (In place s.places → ⊥) → IsBegun (group_with s rows logs place)
  begun-away place away =
      subst IsBegun (sym same) (may (s.args place).queue [] tt)
    where
      nodes : members_by (row_at rows place) ≡ []
      nodes = no-row place away

      same : group_with s rows logs place ≡ new_group (s.args place).queue []
      same = λ j. record {
        queue = (s.args place).queue;
        nodes = nodes j;
        seat = λ k. seat_over (none-away place k away j);
        bag = [];
        audit = [];
      }

  pub is-setup_with : IsSetupWith (setup_with s rows logs) rows count logs
  is-setup_with = record {
    places = set.set_up.places;
    nodes = set.set_up.nodes;
    first = set.set_up.first;
    ids = set.set_up.ids;
    among = λ place here. (let row = place-row place here in
        subst (AllByRecursion (λ (n : NodeId). In n.0 s.nodes))
        (ap (members s) row.2 ∙ row-members rows s set.set_up.places set.set_up.ids set.each row.0 row.1 row.3
        ∙ sym (ap (λ (p : ℕ). members_by (row_at rows p)) row.2 ∙ members-at row.0 row.1 row.3))
        (set.set_up.among place here));
    own = own-groups;
    each = λ i row here. record {
      name_is = (set.each i row here).name_is;
      args_is = (set.each i row here).args_is;
      down = record {
        queue_is = ap (λ (a : QueueArgs). a.queue) (sym (set.each i row here).args_is);
        nodes_is = members-at i row here;
        seats = λ k. refl;
        bag = refl;
        audit_is = refl;
      };
    };
    seats = λ place k. refl;
    others = begun-away;
  }
