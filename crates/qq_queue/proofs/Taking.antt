-- The ops that leave a member are those that wait, in order.
use Rattle.std.proofs.Common.{◌≡◌, ◌⊎◌, ◌<◌, ◌+◌, ℕ, zero, suc, Bool, false, ◌&&◌, List, [], ◌∷◌, ◌++◌, length, Option, Some, None, refl, sym, ap, subst, ◌∙◌, inl, inr, arith, append_assoc, append-nil}
use Rattle.std.specs.Prelude.{All, IfSome, is_some, replicate, slice_get}
use Rattle.std.proofs.lemmas.Option.{none-some}
use Rattle.std.proofs.lemmas.Bool.{cases_eq}
use Rattle.std.proofs.lemmas.List.{length-append}
use Rattle.qq_base.specs.Fronts.{IsFront, put}
use Rattle.qq_base.proofs.Fronts.{front-more}
use Rattle.qq_base.proofs.Puts.{put-same}
use Rattle.qq_entry.specs.declared.command.Entry.{Entry}
use Rattle.qq_entry.specs.declared.queue.QueueArgs.{QueueArgs}
use Rattle.qq_log.specs.Log.{LogState}
use Rattle.qq_log.specs.Writable.{MayWrite}
use Rattle.qq_log.specs.declared.op.Op.{Op}
use Rattle.qq_model.specs.State.{empty_queue}
use Rattle.qq_raft_core.specs.Raft.{server_of}
use Rattle.qq_raft_model.specs.Group.{Event as Move, Group as GroupState, Seat as SeatState, group_after, happens, take_by, take_op}
use Rattle.qq_raft_model.specs.Group.Event.{Take}
use Rattle.qq_raft_model.specs.State.{Server as Raft}
use Rattle.qq_queue.specs.declared.machine_queue.MachineQueue.{MachineQueue}
use Rattle.qq_group.specs.Follows.{Follows, KeepsQueue, OthersStay}
use Rattle.qq_group.specs.Group.{IsReached, Represents, server_at, server_by}
use Rattle.qq_group.specs.Handing.{KeepsReturned, hands, has_returned, next_at, next_by, returned_at}
use Rattle.qq_group.specs.declared.seat.Seat.{Seat}
use Rattle.qq_group_laws.specs.Audited.{AreAudited}
use Rattle.qq_cluster_model.specs.Queue.{Queue, Writes, waiting, waiting_by}
use Rattle.qq_queue.specs.ClusterQueue.{Becomes, IsSameQueue, OfItsQueue, waiting_ops}
use Rattle.qq_queue.specs.Handing.{HandsOp, TakesOp}
use Rattle.qq_queue.specs.Members.{AreSound, IsCurrent, IsGroupOf, Member, Members, StayDown, own_log, queue_stands, queue_step}
use Rattle.qq_queue.specs.Sessions.{clients_of, numbers_of}
use Rattle.qq_queue.specs.declared.cluster_queue.ClusterQueue.{ClusterQueue}
use Rattle.qq_queue.proofs.Happening.{keeps-takers, stands-then, tells-nothing, waits-nothing}
use Rattle.qq_queue.proofs.Members.{Follow, Reaches, group-then, one-current, one-down, raft_of, seat-is}

-- ---- one op

some-same : {A : Type 0} (x y : A) → Some x ≡ Some y → x ≡ y
some-same x y e = cc

pub if-some : {A : Type 0} (P : Type 0) (o : Option A) (x : A) → o ≡ Some x → IfSome o (λ (y : A). P) → P
if-some {A = A} P o x is fact = subst (λ (p : Option A). IfSome p (λ (y : A). P)) is fact

-- the first item, and those behind it
first-is : {A : Type 0} (xs : List A) (x : A) → slice_get xs 0 ≡ Some x → (rest : List A) × (xs ≡ x ∷ rest)
first-is [] x is = absurd (let e : None ≡ Some x = is in cc)
first-is (y ∷ ys) x is = (ys, ap (λ z. z ∷ ys) (some-same y x is))

none-first : {A : Type 0} (xs : List A) → slice_get xs 0 ≡ None → xs ≡ []
none-first [] is = refl
none-first (x ∷ xs) is = absurd (let e : Some x ≡ None = is in cc)

-- what is known of the seat whose member hands out its next op
record Hands (k : ℕ) (g : GroupState) (old : Members) (s : Member) : Type 0 where
  pub up : server_at k old ≡ Some s
  pub server : (g.seat k).server ≡ Some (server_of own_log s.raft)
  pub kept : has_returned (slice_get old.seats.items k) ≡ false
  pub next_is : next_at own_log (slice_get old.seats.items k) ≡ slice_get (server_of own_log s.raft).ops 0

hands-by : (k : ℕ) (args : QueueArgs) (g : GroupState) (old : Members) → IsGroupOf args g old
    → (o : Option (Seat MachineQueue LogState)) → slice_get old.seats.items k ≡ o
    → (server_at k old ≡ None) ⊎ ((s : Member) × Hands k g old s)
hands-by k args g old it None there = inl (ap server_by there)
hands-by k args g old it (Some seat) there = by seat.server refl
  where
    by : (o : Option Member) → seat.server ≡ o → (server_at k old ≡ None) ⊎ ((s : Member) × Hands k g old s)
    by None down = inl (ap server_by there ∙ down)
    by (Some s) up =
        let here : server_at k old ≡ Some s = ap server_by there ∙ up in
        let kept : seat.returned ≡ None = sym (ap returned_at there) ∙ (it.current k s here).kept in
        inr (
          s,
          record {
            up = here;
            server = seat-is g old k it.represents ∙ ap raft_of here;
            kept = ap has_returned there
                ∙ ap (λ (o : Option Member). is_some o && is_some seat.returned) up ∙ ap (λ (o : Option Op). is_some o) kept;
            next_is = ap (next_at own_log) there
                ∙ ap (λ (o : Option Op). next_by own_log o seat.server) kept
                ∙ ap (next_by own_log None) up;
          },
        )

hands-at : (k : ℕ) (args : QueueArgs) (g : GroupState) (old : Members) → IsGroupOf args g old
    → (server_at k old ≡ None) ⊎ ((s : Member) × Hands k g old s)
hands-at k args g old it = hands-by k args g old it (slice_get old.seats.items k) refl

-- a member that is down has nothing that waits
down-waits : (k : ℕ) (args : QueueArgs) (g : GroupState) (old : Members) → IsGroupOf args g old
    → server_at k old ≡ None → waiting k g ≡ 0
down-waits k args g old it down = ap waiting_by (seat-is g old k it.represents ∙ ap raft_of down)

-- where no op is handed out, none waited
pub takes-none : (k : ℕ) (old new : Members) (ops : List Op) → None ≡ next_at own_log (slice_get old.seats.items k)
    → TakesOp k old new ops ops
takes-none k old new ops none args g it some = by (hands-at k args g old it)
  where
    by : (server_at k old ≡ None) ⊎ ((s : Member) × Hands k g old s) → HandsOp k args g old new ops ops
    by (inl down) = let zero' = down-waits k args g old it down in absurd (omega (arith, zero', some))
    by (inr (s, h)) =
        let empty : (server_of own_log s.raft).ops ≡ [] =
        none-first (server_of own_log s.raft).ops (sym h.next_is ∙ sym none) in
        let zero' : waiting k g ≡ 0 = ap waiting_by h.server ∙ ap length empty in
        absurd (omega (arith, zero', some))

-- a server without its first op
abbrev less : Raft → List Op → Raft
less raft rest = record raft { ops = rest }

abbrev seat_then : ℕ → GroupState → Raft → Op → List Op → SeatState
seat_then k g raft op rest =
    record { server = Some (less raft rest); ops = (g.seat k).ops ++ op ∷ []; noticed = (g.seat k).noticed }

take-is : (k : ℕ) (g : GroupState) (raft : Raft) (op : Op) (rest : List Op) → (g.seat k).server ≡ Some raft
    → raft.ops ≡ op ∷ rest → happens (Take k) g ≡ record g { seat = put k (seat_then k g raft op rest) g.seat }
take-is k g raft op rest up is =
    ap (λ (o : Option Raft). take_op k o g) up ∙ ap (λ (l : List Op). take_by k raft l g) is

seat-then : (k : ℕ) (g : GroupState) (raft : Raft) (op : Op) (rest : List Op) → (g.seat k).server ≡ Some raft
    → raft.ops ≡ op ∷ rest → (happens (Take k) g).seat k ≡ seat_then k g raft op rest
seat-then k g raft op rest up is =
    ap (λ (h : GroupState). h.seat k) (take-is k g raft op rest up is) ∙ put-same k (seat_then k g raft op rest) g.seat

-- its member goes on as it was
member-then : (o p : Option Member) (s : Member) (rest : List Op) → o ≡ Some s → KeepsQueue o p
    → raft_of p ≡ Some (less (server_of own_log s.raft) rest) → s.applied ≡ s.raft.commit → Reaches o p
member-then None p s rest up keeps' is current = absurd (none-some s up)
member-then (Some t) None s rest up keeps' is current = absurd keeps'
member-then (Some t) (Some u) s rest up keeps' is current = record {
  applied = λ w new.
      let same : u ≡ w = some-same u w new in
      let first : t ≡ s = some-same t s up in
      let commit : u.raft.commit ≡ s.raft.commit =
      ap (λ (r : Raft). r.commit)
      (some-same (server_of own_log u.raft) (less (server_of own_log s.raft) rest) is) in
      subst (λ (x : Member). x.applied ≡ x.raft.commit) same
      (ap (λ (x : Member). x.applied) keeps' ∙ ap (λ (x : Member). x.applied) first ∙ current ∙ sym commit);
  down = λ none. absurd (none-some t (sym none));
}

-- what the law of the audit says of an op that is handed out
abbrev pub StaysAudited : Type 0
StaysAudited =
    (args : QueueArgs) (k : ℕ) (old new : Members) → KeepsQueue (server_at k old) (server_at k new)
    → OthersStay k old new → new.audit ≡ old.audit → AreAudited queue_stands queue_step (empty_queue args) old
    → AreAudited queue_stands queue_step (empty_queue args) new

-- each member has what it was given back as before
returned-stay : (k : ℕ) (old new : Members) → OthersStay k old new → returned_at (slice_get new.seats.items k) ≡ None
    → returned_at (slice_get old.seats.items k) ≡ None → KeepsReturned old new
returned-stay k old new others left kept q = by (cases_eq q k)
  where
    by : ((q ≡ k) ⊎ (q ≡ k → ⊥)) → returned_at (slice_get new.seats.items q) ≡ returned_at (slice_get old.seats.items q)
    by (inl same) =
        ap (λ (j : ℕ). returned_at (slice_get new.seats.items j)) same ∙ left ∙ sym kept
        ∙ sym (ap (λ (j : ℕ). returned_at (slice_get old.seats.items j)) same)
    by (inr other) = ap returned_at (others q other)

-- an op that is handed out
pub takes-some : ((g : GroupState) (moves : List Move) → IsReached g → IsReached (group_after g moves)) → StaysAudited
    → (k : ℕ) (old new : Members) (op : Op) (ops : List Op) → Some op ≡ next_at own_log (slice_get old.seats.items k)
    → Follows own_log (hands k (has_returned (slice_get old.seats.items k))) old new
    → KeepsQueue (server_at k old) (server_at k new) → OthersStay k old new → new.audit ≡ old.audit
    → returned_at (slice_get new.seats.items k) ≡ None → TakesOp k old new ops (ops ++ op ∷ [])
takes-some reached audited k old new op ops next follows keeps' others audit left args g it some =
    by (hands-at k args g old it)
  where
    by : (server_at k old ≡ None) ⊎ ((s : Member) × Hands k g old s) → HandsOp k args g old new ops (ops ++ op ∷ [])
    by (inl down) = let zero' = down-waits k args g old it down in absurd (omega (arith, zero', some))
    by (inr (s, h)) =
        let raft : Raft = server_of own_log s.raft in
        let first = first-is raft.ops op (sym h.next_is ∙ sym next) in
        let seat : (happens (Take k) g).seat k ≡ seat_then k g raft op first.0 =
        seat-then k g raft op first.0 h.server first.1 in
        let represents : Represents own_log (happens (Take k) g) new =
        subst (λ (b : Bool). Represents own_log (hands k b g) new) h.kept (follows g it.reached it.represents) in
        let there : raft_of (server_at k new) ≡ Some (less raft first.0) =
        sym (seat-is (happens (Take k) g) new k represents) ∙ ap (λ (x : SeatState). x.server) seat in
        let current : IsCurrent k s old = it.current k s h.up in
        let reach : Reaches (server_at k old) (server_at k new) =
        member-then (server_at k old) (server_at k new) s first.0 h.up keeps' there current.applied in
        let follow : Follow args g (happens (Take k) g) old new = record {
          was = it;
          reached = reached g (Take k ∷ []) it.reached;
          represents = represents;
          audited = audited args k old new keeps' others audit it.audited;
          grows = subst (λ (l : List Entry). IsFront old.audit.items l) (ap (λ v. v.items) (sym audit))
              (subst (IsFront old.audit.items) (append-nil old.audit.items) (front-more old.audit.items []));
          returned = returned-stay k old new others left current.kept;
        } in
        record {
          op = op;
          later_is = refl;
          was = ap waiting_ops h.server ∙ first.1
              ∙ ap (λ (l : List Op). op ∷ l) (sym (ap (λ (x : SeatState). waiting_ops x.server) seat));
          group = group-then args g (happens (Take k) g) old new follow
              (one-current args g (happens (Take k) g) old new k follow others reach);
          down = one-down k old new others reach;
        }

-- ---- all of them

-- so many of a member's ops went behind these
pub record HandsMany (k taken : ℕ) (args : QueueArgs) (g : GroupState) (old new : Members) (before later : List Op)
    : Type 0 where
  pub given : List Op
  pub long : length given ≡ taken
  pub later_is : later ≡ before ++ given
  pub was : waiting_ops (g.seat k).server
      ≡ given ++ waiting_ops ((group_after g (replicate taken (Take k))).seat k).server
  pub group : IsGroupOf args (group_after g (replicate taken (Take k))) new
  pub down : StayDown old new

pub record Handing (k count taken : ℕ) (old new : ClusterQueue) (before later : List Op) : Type 0 where
  pub sound : AreSound new.group
  pub same : IsSameQueue old new
  pub only : new ≡ record old { group = new.group }
  pub may : All MayWrite before → All MayWrite later
  pub made : (args : QueueArgs) (g : GroupState) → IsGroupOf args g old.group → count ≡ waiting k g
      → HandsMany k taken args g old.group new.group before later

pub handing-none : (k count : ℕ) (d : ClusterQueue) (ops : List Op) → AreSound d.group → Handing k count 0 d d ops ops
handing-none k count d ops sound = record {
  sound = sound;
  same = record { name_is = refl; args_is = refl; nodes_is = refl };
  only = refl;
  may = λ all. all;
  made = λ args g it all. record {
    given = [];
    long = refl;
    later_is = sym (append-nil ops);
    was = refl;
    group = it;
    down = λ q none. none;
  };
}

waits-by : (o : Option Raft) → waiting_by o ≡ length (waiting_ops o)
waits-by None = refl
waits-by (Some s) = refl

takes-more : (k taken : ℕ) (g : GroupState)
    → group_after g (replicate (taken + 1) (Take k)) ≡ happens (Take k) (group_after g (replicate taken (Take k)))
takes-more k taken g =
    ap (λ (n : ℕ). group_after g (replicate n (Take k))) (let e : taken + 1 ≡ suc taken = omega arith in e) ∙ by taken g
  where
    by : (n : ℕ) (h : GroupState)
        → group_after h (replicate (suc n) (Take k)) ≡ happens (Take k) (group_after h (replicate n (Take k)))
    by zero h = refl
    by (suc n) h = by n (happens (Take k) h)

-- one more
pub handing-more : (k count taken : ℕ) (old mid new : ClusterQueue) (before middle later : List Op) → taken < count
    → Handing k count taken old mid before middle → AreSound new.group → IsSameQueue mid new
    → new ≡ record mid { group = new.group } → (All MayWrite middle → All MayWrite later)
    → TakesOp k mid.group new.group middle later → Handing k count (taken + 1) old new before later
handing-more k count taken old mid new before middle later lt h sound same only may takes = record {
  sound = sound;
  same = record {
    name_is = same.name_is ∙ h.same.name_is;
    args_is = same.args_is ∙ h.same.args_is;
    nodes_is = same.nodes_is ∙ h.same.nodes_is;
  };
  only = only ∙ ap (λ (d : ClusterQueue). record d { group = new.group }) h.only;
  may = λ all. may (h.may all);
  made = λ args g it all.
      let many = h.made args g it all in
      let here : GroupState = group_after g (replicate taken (Take k)) in
      let left : waiting k g ≡ taken + waiting k here =
      waits-by (g.seat k).server ∙ ap length many.was
      ∙ length-append many.given (waiting_ops (here.seat k).server)
      ∙ ap (λ (n : ℕ). n + length (waiting_ops (here.seat k).server)) many.long
      ∙ ap (λ (n : ℕ). taken + n) (sym (waits-by (here.seat k).server)) in
      let one = takes args here many.group (omega (arith, left, all, lt)) in
      let after : group_after g (replicate (taken + 1) (Take k)) ≡ happens (Take k) here = takes-more k taken g in
      record {
        given = many.given ++ one.op ∷ [];
        long = length-append many.given (one.op ∷ []) ∙ ap (λ (n : ℕ). n + 1) many.long;
        later_is = one.later_is ∙ ap (λ (l : List Op). l ++ one.op ∷ []) many.later_is
            ∙ append_assoc before many.given (one.op ∷ []);
        was = many.was ∙ ap (λ (l : List Op). many.given ++ l) one.was
            ∙ sym (append_assoc many.given (one.op ∷ []) (waiting_ops ((happens (Take k) here).seat k).server))
            ∙ ap (λ (x : GroupState). (many.given ++ one.op ∷ []) ++ waiting_ops (x.seat k).server) (sym after);
        group = subst (λ (x : GroupState). IsGroupOf args x new.group) (sym after) one.group;
        down = λ q none. one.down q (many.down q none);
      };
}

rest-none : {A : Type 0} (given rest all : List A) → all ≡ given ++ rest → length all ≡ length given → given ≡ all
rest-none {A = A} given [] all is long = sym (is ∙ append-nil given)
rest-none given (x ∷ rest) all is long =
    let more = ap length is ∙ length-append given (x ∷ rest) in absurd (omega (arith, more, long))

module _ (k count taken : ℕ) (old new : ClusterQueue) (before later : List Op) (h : Handing k count taken old new before later)
    (all : OfItsQueue old (λ (q : Queue). count ≡ waiting k q.group)) (le : taken ≡ count) where
  -- all of them were handed out
  pub handing-takes : OfItsQueue old (λ (q : Queue). later ≡ before ++ waiting_ops (q.group.seat k).server)
  handing-takes sessions q st =
      let many = h.made old.args q.group st.group (all sessions q st) in
      many.later_is
      ∙ ap (λ (l : List Op). before ++ l)
      (rest-none many.given (waiting_ops ((group_after q.group (replicate taken (Take k))).seat k).server)
      (waiting_ops (q.group.seat k).server) many.was
      (sym (waits-by (q.group.seat k).server) ∙ sym (all sessions q st) ∙ sym le ∙ sym many.long))

  pub handing-becomes : Becomes (Writes k) old new
  handing-becomes sessions q st =
      let many = h.made old.args q.group st.group (all sessions q st) in (
        stands-then sessions old new q (Writes k) st (
          subst (λ (n : ℕ). IsGroupOf old.args (group_after q.group (replicate n (Take k))) new.group)
              (le ∙ all sessions q st) many.group,
          many.down,
        ) h.same.args_is
            (st.clients ∙ ap (λ (d : ClusterQueue). clients_of sessions (numbers_of d.publishers)) (sym h.only))
            (st.consumers ∙ ap (λ (d : ClusterQueue). d.consumers) (sym h.only))
            (keeps-takers sessions old new q (Writes k) st
            (record { seats = refl; untold = waits-nothing q.untold q.seats })
            (ap (λ (d : ClusterQueue). d.seats) h.only) (ap (λ (d : ClusterQueue). d.untold) h.only))
            (ap (λ (d : ClusterQueue). d.synced) h.only) refl,
        tells-nothing q.untold q.seats,
      )
