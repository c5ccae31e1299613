-- What the sessions of all queues are to the clients of one.
use Rattle.std.proofs.Common.{◌≡◌, ◌⊎◌, ℕ, Bool, true, false, [], refl, sym, ap, ◌∙◌, inl, inr}
use Rattle.std.specs.Prelude.{nat_eq}
use Rattle.std.proofs.Math.Path.{fun_ext}
use Rattle.std.proofs.lemmas.Bool.{cases_Bool, eqb-true}
use Rattle.qq_base.specs.Fronts.{put}
use Rattle.qq_session.specs.Publishing.{Numbers}
use Rattle.qq_session.specs.Clients.{Client}
use Rattle.qq_cluster_model.specs.Queue.{Queue, Ends, Mutes, acts, happens, said}
use Rattle.qq_queue.specs.ClusterQueue.{Stands}
use Rattle.qq_queue.specs.Sessions.{Standings, clients_of, numbers_of, set_ended, set_muted}
use Rattle.qq_queue.proofs.Happening.{tells-nothing, waits-nothing}
use Rattle.qq_queue.specs.declared.cluster_queue.ClusterQueue.{ClusterQueue}
use Rattle.qq_queue.specs.declared.sessions.Standing.{Standing}

client_as : Numbers → Standing → Client
client_as numbers standing = record { numbers = numbers; muted = standing.muted; ended = standing.ended }

put-standing : (sessions : Standings) (session : ℕ) (s : Standing) (f : ℕ → Numbers)
    → put session (client_as (f session) s) (clients_of sessions f) ≡ clients_of (put session s sessions) f
unfolding put client_as
put-standing sessions session s f = fun_ext (λ k. by k (cases_Bool (nat_eq k session)))
  where
    by : (k : ℕ) → (nat_eq k session ≡ true) ⊎ (nat_eq k session ≡ false)
        → put session (client_as (f session) s) (clients_of sessions f) k ≡ clients_of (put session s sessions) f k
    by k (inl here) = rw here (ap (λ (j : ℕ). client_as (f j) s) (sym (eqb-true k session here)))
    by k (inr other) = rw other refl

pub mutes : (sessions : Standings) (session : ℕ) (muted : Bool) (d : ClusterQueue) (q : Queue) → Stands sessions d q
    → Stands (put session (set_muted muted (sessions session)) sessions) d (happens q (Mutes session muted))
    × (said q (Mutes session muted) ≡ [])
unfolding client_as
mutes sessions session muted d q st = (
  record {
    args = st.args;
    clients = ap (acts (Mutes session muted)) st.clients
        ∙ put-standing sessions session (set_muted muted (sessions session)) (numbers_of d.publishers);
    consumers = st.consumers;
    seats = st.seats;
    untold = waits-nothing q.untold q.seats ∙ st.untold;
    group = st.group;
    synced = st.synced;
  },
  tells-nothing q.untold q.seats,
)

pub ends : (sessions : Standings) (session : ℕ) (d : ClusterQueue) (q : Queue) → Stands sessions d q
    → Stands (put session (set_ended (sessions session)) sessions) d (happens q (Ends session))
    × (said q (Ends session) ≡ [])
unfolding client_as
ends sessions session d q st = (
  record {
    args = st.args;
    clients = ap (acts (Ends session)) st.clients
        ∙ put-standing sessions session (set_ended (sessions session)) (numbers_of d.publishers);
    consumers = st.consumers;
    seats = st.seats;
    untold = waits-nothing q.untold q.seats ∙ st.untold;
    group = st.group;
    synced = st.synced;
  },
  tells-nothing q.untold q.seats,
)
