-- What an op that is handed out makes of the states that a group stands for.
use Rattle.std.proofs.Common.{◌≡◌, ◌⊎◌, ℕ, zero, suc, ◌+◌, ◌<◌, ◌≤◌, List, [], ◌∷◌, ◌++◌, Bool, true, false, leb, length, take, drop, Option, Some, None, refl, sym, ap, subst, ◌∙◌, append_assoc, length-append, arith, inl, inr}
use Rattle.std.specs.Prelude.{◌&&◌, is_ok, is_some, slice_get, OnErr, OnOk, Result, Ok, Err}
use Rattle.std.proofs.lemmas.Bool.{cases_eq, false≢true, le-leb}
use Rattle.std.proofs.lemmas.List.{append-nil, length-take, take-append-drop}
use Rattle.std.proofs.lemmas.Option.{none-some}
use Rattle.qq_base.specs.declared.memory.TheConstants.{NUMBER_END}
use Rattle.qq_base.proofs.Puts.{put-other, put-same}
use Rattle.qq_entry.specs.declared.command.Entry.{Entry}
use Rattle.qq_log.specs.Log.{LogState}
use Rattle.qq_log.specs.declared.op.Op.{Op}
use Rattle.qq_raft_core.specs.Raft.{server_of}
use Rattle.qq_raft_core.specs.Undone.{held_by}
use Rattle.qq_raft_core.specs.declared.lanes.Lanes.{Lanes}
use Rattle.qq_raft_core.specs.declared.raft.Raft.{Raft as RaftCode}
use Rattle.qq_raft_core.specs.declared.undo.Undo.{Undo}
use Rattle.qq_raft_model.specs.State.{Server as Raft}
use Rattle.qq_raft.specs.declared.server.Server.{Server}
use Rattle.qq_raft_model.specs.Group.{Event, Group as GroupState, Seat as SeatState, group_after, happens, take_by, take_op}
use Rattle.qq_raft_model.specs.Group.Event.{Take}
use Rattle.qq_raft_model.specs.Promises.{AreDistinct, IsOpened, IsUp}
use Rattle.qq_group.specs.Follows.{Follows, Makes, OthersStay}
use Rattle.qq_group.specs.Group.{HasMade, IsReached, IsSeat, IsSeatBy, IsServed, IsSound, KnowsLeft, LeadsTo, Represents, server_at, server_by}
use Rattle.qq_group.specs.Handing.{count_by, hands, waiting_at, waiting_by, has_returned, next_at, next_by, returned_at, takes, with_returned, IsHandedOutAt, Refills}
use Rattle.qq_group.specs.declared.group.Group.{Group}
use Rattle.qq_group.specs.declared.seat.Seat.{Seat}
use Rattle.qq_group.proofs.Seats.{there-of}
use Rattle.qq_group.proofs.Stepped.{changed-other, changed-own, is-up}

-- `a_log_was_handed_the_changes_of_its_server` of `qq_raft_model`
abbrev pub CountLaw : Type 0
CountLaw =
    (g : GroupState) (whole : List Entry) (events : List Event) (k : ℕ) (s : Raft) → AreDistinct g.nodes
    → IsOpened g whole → IsUp (group_after g events) k s
    → s.op ≡ length ((group_after g events).seat k).ops + length s.ops

pub handed-count : CountLaw → (g : GroupState) (k : ℕ) (s : Raft) → IsReached g → IsUp g k s
    → s.op ≡ length (g.seat k).ops + length s.ops
handed-count law g k s r up =
    subst (λ (h : GroupState). s.op ≡ length (h.seat k).ops + length s.ops) (sym r.is)
    (law r.start r.whole r.events k s r.distinct r.opened (subst (λ (h : GroupState). IsUp h k s) r.is up))

-- ---- so many ops leave a server

-- one member's seat after that; all else is as it was
record IsTaken (k n : ℕ) (s : Raft) (g h : GroupState) : Type 0 where
  seat : h.seat k
      ≡ record {
        server = Some (record s { ops = drop n s.ops });
        ops = (g.seat k).ops ++ take n s.ops;
        noticed = (g.seat k).noticed;
      }
  others : (q : ℕ) → (q ≡ k → ⊥) → h.seat q ≡ g.seat q
  queue : h.queue ≡ g.queue
  nodes : h.nodes ≡ g.nodes
  bag : h.bag ≡ g.bag
  audit : h.audit ≡ g.audit

none-taken : (k : ℕ) (s : Raft) (g : GroupState) → (g.seat k).server ≡ Some s → IsTaken k 0 s g g
none-taken k s g up = record {
  seat = (let none = append-nil (g.seat k).ops in λ i. record { server = up i; ops = sym none i; noticed = (g.seat k).noticed });
  others = λ q other. refl;
  queue = refl;
  nodes = refl;
  bag = refl;
  audit = refl;
}

split-at : {A : Type 0} (n : ℕ) (xs : List A) → n < length xs
    → (x : A) × (drop n xs ≡ x ∷ drop (suc n) xs) × (take (suc n) xs ≡ take n xs ++ x ∷ [])
split-at n [] lt = absurd (omega (arith, lt))
split-at zero (x ∷ xs) lt = (x, refl, refl)
split-at (suc n) (x ∷ xs) lt =
    let rest = split-at n xs (omega (arith, lt)) in
    (rest.0, rest.1, ap (λ l. x ∷ l) rest.2)

one-taken : (k : ℕ) (t : Raft) (h : GroupState) (op : Op) (rest : List Op) → (h.seat k).server ≡ Some t
    → t.ops ≡ op ∷ rest → happens (Take k) h ≡ take_by k t (op ∷ rest) h
one-taken k t h op rest up is = ap (λ o. take_op k o h) up ∙ ap (λ ops. take_by k t ops h) is

more-taken : (k n : ℕ) (s : Raft) (g h : GroupState) → n < length s.ops → IsTaken k n s g h
    → IsTaken k (suc n) s g (happens (Take k) h)
more-taken k n s g h lt t =
    let at = split-at n s.ops lt in
    let op = at.0 in
    let server = ap (λ (x : SeatState). x.server) t.seat in
    let same = one-taken k (record s { ops = drop n s.ops }) h op (drop (suc n) s.ops) server at.1 in
    let state : SeatState = record {
      server = Some (record s { ops = drop (suc n) s.ops });
      ops = (h.seat k).ops ++ op ∷ [];
      noticed = (h.seat k).noticed;
    } in
    let ops : (h.seat k).ops ++ op ∷ [] ≡ (g.seat k).ops ++ take (suc n) s.ops =
    ap (λ (x : SeatState). x.ops ++ op ∷ []) t.seat
    ∙ append_assoc (g.seat k).ops (take n s.ops) (op ∷ [])
    ∙ ap (λ (l : List Op). (g.seat k).ops ++ l) (sym at.2) in
    let noticed = ap (λ (x : SeatState). x.noticed) t.seat in
    subst (IsTaken k (suc n) s g) (sym same)
    (record {
      seat = put-same k state h.seat
          ∙ (λ i. record { server = Some (record s { ops = drop (suc n) s.ops }); ops = ops i; noticed = noticed i });
      others = λ q other. put-other k state h.seat q other ∙ t.others q other;
      queue = t.queue;
      nodes = t.nodes;
      bag = t.bag;
      audit = t.audit;
    })

all-taken : (k n : ℕ) (s : Raft) (g : GroupState) → (g.seat k).server ≡ Some s → n ≤ length s.ops
    → IsTaken k n s g (takes k n g)
all-taken k zero s g up le = none-taken k s g up
all-taken k (suc n) s g up le =
    more-taken k n s g (takes k n g) (omega (arith, le)) (all-taken k n s g up (omega (arith, le)))

-- they are handed to its log
pub handed-out : {Q L : Type 0} (log : L → LogState) (n k : ℕ) (old new : Group Q L) → (d : IsHandedOutAt n k old new)
    → d.out.was.raft.op ≤ NUMBER_END → Makes log (takes k n) old new
handed-out {Q = Q} {L = L} log n k old new d within = λ g r.
    let s = d.out.was in
    let now = d.out.now in
    let view = server_of log s.raft in
    let ops = (g.seat k).ops in
    let up = is-up log g k d.seat s old r d.changes.there d.out.up in
    let t = all-taken k n view g up.0 d.out.there in
    let there = d.out.there in
    let raft : now.raft ≡ record s.raft { ops = now.raft.ops } = ap (λ (x : Server Q L). x.raft) d.out.same in
    let server : Some (record view { ops = drop n view.ops }) ≡ Some (server_of log now.raft) =
    ap (λ (l : List Op). Some (record view { ops = l })) (sym d.out.rest)
    ∙ sym (ap (λ (x : RaftCode L). Some (server_of log x)) raft) in
    let undos : now.raft.undos.items ≡ s.raft.undos.items = ap (λ (x : RaftCode L). x.undos.items) raft in
    let held : held_by log now.raft ≡ held_by log s.raft = ap (held_by log) raft in
    let all : (ops ++ take n view.ops) ++ now.raft.ops.items ≡ ops ++ view.ops =
    append_assoc ops (take n view.ops) now.raft.ops.items
    ∙ ap (λ (l : List Op). ops ++ (take n view.ops ++ l)) d.out.rest
    ∙ ap (λ (l : List Op). ops ++ l) (take-append-drop n view.ops) in
    let count = length-append ops (take n view.ops) in
    let first = length-take n view.ops in
    let whole = length-append ops view.ops in
    let made = up.3.count in
    let state : SeatState = record {
      server = Some (record view { ops = drop n view.ops });
      ops = ops ++ take n view.ops;
      noticed = (g.seat k).noticed;
    } in
    let seat : Seat Q L = record d.seat {
      server = Some now;
      handed = d.now.handed;
      returned = d.now.returned;
    } in
    let own : IsSeatBy log state seat (Some now) = (
      server,
      record {
        noticed = up.1.noticed;
        handed = elim d.out.count [
          | inl more ↦ omega (arith, count, first, there, up.1.handed, whole, made, within, more)
          | inr none ↦ omega (arith, count, first, there, up.1.handed, none.0, none.1)
        ];
        leads = subst (LeadsTo (g.seat k).noticed ((ops ++ take n view.ops) ++ now.raft.ops.items) now.raft.undos.items)
            (sym held)
            (subst (λ (us : List Undo). LeadsTo (g.seat k).noticed ((ops ++ take n view.ops) ++ now.raft.ops.items) us
            (held_by log s.raft)) (sym undos)
            (subst (λ (l : List Op). LeadsTo (g.seat k).noticed l s.raft.undos.items (held_by log s.raft)) (sym all)
            up.1.leads));
      },
      up.2 ∙ sym (ap (λ (x : RaftCode L). x.noticed) raft),
      subst (HasMade ((ops ++ take n view.ops) ++ now.raft.ops.items)) (sym held)
          (subst (λ (l : List Op). HasMade l (held_by log s.raft)) (sym all) up.3),
    ) in
    record {
      queue = t.queue ∙ r.queue ∙ sym d.changes.queue;
      nodes = t.nodes ∙ r.nodes ∙ ap (λ v. v.items) (sym d.changes.nodes);
      bag = t.bag ∙ r.bag ∙ sym d.bag;
      audit = t.audit ∙ r.audit ∙ ap (λ a. a.items) (sym d.audit);
      seats = λ i. each g r t own i (cases_eq i k);
    }
  where
    each : (g : GroupState) → Represents log g old → IsTaken k n (server_of log d.out.was.raft) g (takes k n g)
        → IsSeatBy log (record {
          server = Some (record (server_of log d.out.was.raft) { ops = drop n d.out.was.raft.ops.items });
          ops = (g.seat k).ops ++ take n d.out.was.raft.ops.items;
          noticed = (g.seat k).noticed;
        }) (record d.seat {
          server = Some d.out.now;
          handed = d.now.handed;
          returned = d.now.returned;
        }) (Some d.out.now)
        → (i : ℕ) → (i ≡ k) ⊎ (i ≡ k → ⊥) → IsSeat log ((takes k n g).seat i) (slice_get new.seats.items i)
    each g r t own i (inl same) =
        subst (λ (j : ℕ). IsSeat log ((takes k n g).seat j) (slice_get new.seats.items j)) (sym same)
        (subst (IsSeat log ((takes k n g).seat k)) (sym (changed-own k d.seat d.now old new d.changes))
        (subst (λ (x : Seat Q L). IsSeatBy log ((takes k n g).seat k) x x.server) (sym d.out.seat)
        (subst (λ (x : SeatState). IsSeatBy log x (record d.seat {
          server = Some d.out.now;
          handed = d.now.handed;
          returned = d.now.returned;
        }) (Some d.out.now)) (sym t.seat) own)))
    each g r t own i (inr other) =
        subst (IsSeat log ((takes k n g).seat i)) (sym (changed-other k i d.seat d.now old new d.changes other))
        (subst (λ (x : SeatState). IsSeat log x (slice_get old.seats.items i)) (sym (t.others i other)) (r.seats i))

pub makes-follows : {Q L : Type 0} (log : L → LogState) (f : GroupState → GroupState) (old new : Group Q L)
    → Makes log f old new → Follows log f old new
makes-follows log f old new makes = λ g reached r. makes g r

-- of a server without ops none leaves
empty-taken : (k : ℕ) (s : Raft) (g : GroupState) → (g.seat k).server ≡ Some s → s.ops ≡ [] → happens (Take k) g ≡ g
empty-taken k s g up is = ap (λ o. take_op k o g) up ∙ ap (λ ops. take_by k s ops g) is

no-ops : (ops : List Op) → None ≡ slice_get ops 0 → ops ≡ []
no-ops [] is = refl
no-ops (x ∷ ops) is = absurd (none-some x is)

none-by : {Q L : Type 0} (log : L → LogState) (g : GroupState) (k : ℕ) (seat : Seat Q L) (o : Option (Server Q L))
    → IsSeatBy log (g.seat k) seat o → None ≡ next_by log None o → happens (Take k) g ≡ g
none-by log g k seat None is none = ap (λ o. take_op k o g) is.0
none-by log g k seat (Some s) is none = empty-taken k (server_of log s.raft) g is.0 (no-ops s.raft.ops.items none)

none-at : {Q L : Type 0} (log : L → LogState) (g : GroupState) (k : ℕ) (o : Option (Seat Q L))
    → IsSeat log (g.seat k) o → None ≡ next_by log None (server_by o) → happens (Take k) g ≡ g
none-at log g k None is none = ap (λ o. take_op k o g) is
none-at log g k (Some seat) is none = none-by log g k seat seat.server is none

-- there is none
pub none-handed : {Q L : Type 0} (log : L → LogState) (k : ℕ) (old new : Group Q L) → new ≡ old
    → None ≡ next_by log None (server_at k old) → Follows log (happens (Take k)) old new
none-handed log k old new same none = λ g reached r.
    subst (λ h. Represents log h new) (sym (none-at log g k (slice_get old.seats.items k) (r.seats k) none))
    (subst (Represents log g) (sym same) r)

pub handed-others : {Q L : Type 0} (n k : ℕ) (old new : Group Q L) → IsHandedOutAt n k old new → OthersStay k old new
handed-others n k old new d = λ q other. changed-other k q d.seat d.now old new d.changes other

-- the seat of one member stands for the same, and the others stay
again : {Q L : Type 0} (log : L → LogState) (g : GroupState) (k : ℕ) (old new : Group Q L) → Represents log g old
    → IsSeat log (g.seat k) (slice_get new.seats.items k)
    → ((i : ℕ) → (i ≡ k → ⊥) → slice_get new.seats.items i ≡ slice_get old.seats.items i) → new.queue ≡ old.queue
    → new.nodes ≡ old.nodes → new.bag ≡ old.bag → new.audit ≡ old.audit → Represents log g new
again log g k old new r own others queue nodes bag audit = record {
  queue = r.queue ∙ sym queue;
  nodes = r.nodes ∙ ap (λ v. v.items) (sym nodes);
  bag = r.bag ∙ sym bag;
  audit = r.audit ∙ ap (λ a. a.items) (sym audit);
  seats = λ i. by i (cases_eq i k);
}
  where
    by : (i : ℕ) → (i ≡ k) ⊎ (i ≡ k → ⊥) → IsSeat log (g.seat i) (slice_get new.seats.items i)
    by i (inl same) =
        subst (λ (j : ℕ). IsSeat log (g.seat j) (slice_get new.seats.items j)) (sym same) own
    by i (inr other) = subst (IsSeat log (g.seat i)) (sym (others i other)) (r.seats i)

pub none-of : {A : Type 0} (o : Option A) → is_some o ≡ false → o ≡ None
none-of None is = refl
none-of (Some x) is = absurd (false≢true (sym is))

-- of a server that is up no number is past its end
pub sound-op : {P Q L : Type 0} (stands : P → Q → Type 0) (log : L → LogState) (index_of : Q → ℕ) (k : ℕ)
    (group : Group Q L) → IsSound stands log index_of group → (seat : Seat Q L) (s : Server Q L)
    → slice_get group.seats.items k ≡ Some seat → seat.server ≡ Some s → s.raft.op ≤ NUMBER_END
sound-op stands log index_of k group sound seat s there up =
    (subst (IsServed stands log index_of) up
    (subst (λ o. IsServed stands log index_of (server_by o)) there (sound.servers k))).sound.raft.op

-- the next op is handed to the log
pub next-follows : {Q L : Type 0} (log : L → LogState) (k : ℕ) (old new : Group Q L) → (d : IsHandedOutAt 1 k old new)
    → d.out.was.raft.op ≤ NUMBER_END → Follows log (happens (Take k)) old new
next-follows log k old new d within = makes-follows log (takes k 1) old new (handed-out log 1 k old new d within)

empty-next : {Q L : Type 0} (log : L → LogState) (o : Option (Server Q L)) → count_by o ≡ 0 → None ≡ next_by log None o
empty-next log None is = refl
empty-next log (Some s) is = by s.raft.ops.items is
  where
    by : (ops : List Op) → length ops ≡ 0 → None ≡ slice_get ops 0
    by [] is = refl
    by (op ∷ ops) is = absurd (omega (arith, is))

-- there is none
pub none-waits : {Q L : Type 0} (log : L → LogState) (k : ℕ) (old : Group Q L) → count_by (server_at k old) ≡ 0
    → None ≡ next_by log None (server_at k old)
none-waits log k old is = empty-next log (server_at k old) is

pub waits-there : {Q L : Type 0} (k : ℕ) (group : Group Q L) → 0 < count_by (server_at k group)
    → k < length group.seats.items
waits-there k group lt =
    there-of group.seats.items k (λ (o : Option (Seat _ _)). leb 1 (count_by (server_by o))) refl
    (le-leb 1 (count_by (server_at k group)) (omega (arith, lt)))

none-by-server : {Q L : Type 0} (returned : Option Op) (o : Option (Server Q L)) → o ≡ None → [] ≡ waiting_by returned o
none-by-server returned None is = refl
none-by-server returned (Some s) is = absurd (none-some s (sym is))

-- nothing waits of a member that is down
pub none-waiting : {Q L : Type 0} (o : Option (Seat Q L)) → server_by o ≡ None → [] ≡ waiting_at o
none-waiting None is = refl
none-waiting (Some seat) is = none-by-server seat.returned seat.server is

pub down-takes : {Q L : Type 0} (log : L → LogState) (k : ℕ) (old : Group Q L) → server_at k old ≡ None
    → Follows log (takes k (count_by (server_at k old))) old old
down-takes log k old down = λ g reached r.
    subst (λ o. Represents log (takes k (count_by o) g) old) (sym down) r

pub at-ok : {T E : Type 0} (r : Result T E) (P : Bool → Type 0) → P (is_ok r) → OnOk r (P true)
at-ok (Ok x) P is = is
at-ok (Err e) P is = tt

pub at-err : {T E : Type 0} (r : Result T E) (P : Bool → Type 0) → P (is_ok r) → OnErr r (P false)
at-err (Ok x) P is = tt
at-err (Err e) P is = is

-- two changes of what waits are one
pub ops-again : {Q L : Type 0} (s r t : Server Q L) → t ≡ record r { raft = record r.raft { ops = t.raft.ops } }
    → r ≡ record s { raft = record s.raft { ops = r.raft.ops } }
    → t ≡ record s { raft = record s.raft { ops = t.raft.ops } }
ops-again {Q = Q} {L = L} s r t is was =
    is ∙ ap (λ (x : Server Q L). record x { raft = record x.raft { ops = t.raft.ops } }) was

-- ---- what was given back

seat-by : {Q L : Type 0} (log : L → LogState) (state : SeatState) (seat : Seat Q L) (returned : Option Op)
    (o : Option (Server Q L)) → IsSeatBy log state seat o → IsSeatBy log state (record seat { returned = returned }) o
seat-by {Q = Q} {L = L} log state seat returned None is = (is.0, λ known. by seat.left (is.1 known))
  where
    by : (o : Option (Lanes L)) → KnowsLeft log state seat o
        → KnowsLeft log state (record seat { returned = returned }) o
    by None knows = elim knows [ ]
    by (Some lanes) knows =
        record { noticed = knows.noticed; handed = knows.handed; leads = knows.leads }
seat-by log state seat returned (Some s) is =
    (is.0, record { noticed = is.1.noticed; handed = is.1.handed; leads = is.1.leads }, is.2, is.3)

seat-with : {Q L : Type 0} (log : L → LogState) (state : SeatState) (returned : Option Op) (o : Option (Seat Q L))
    → IsSeat log state o → IsSeat log state (with_returned returned o)
seat-with log state returned None is = is
seat-with log state returned (Some seat) is = seat-by log state seat returned seat.server is

-- it is the code's alone
pub refilled : {Q L : Type 0} (log : L → LogState) (k : ℕ) (returned : Option Op) (old new : Group Q L)
    → Refills k returned old new → Makes log (λ g. g) old new
refilled log k returned old new made = λ g r.
    again log g k old new r
    (subst (IsSeat log (g.seat k)) (sym made.seat)
    (seat-with log (g.seat k) returned (slice_get old.seats.items k) (r.seats k)))
    made.only.others made.only.queue made.only.nodes made.only.bag made.only.audit

-- an op that was given back is handed out again
pub again-handed : {Q L : Type 0} (log : L → LogState) (k : ℕ) (has : Bool) (returned : Option Op)
    (old new : Group Q L) → has ≡ true → Refills k returned old new → Follows log (hands k has) old new
again-handed log k has returned old new is made = λ g reached r.
    subst (λ b. Represents log (hands k b g) new) (sym is) (refilled log k returned old new made g r)

pub first-handed : {Q L : Type 0} (log : L → LogState) (k : ℕ) (has : Bool) (old new : Group Q L) → has ≡ false
    → Follows log (happens (Take k)) old new → Follows log (hands k has) old new
first-handed log k has old new is follows = λ g reached r.
    subst (λ b. Represents log (hands k b g) new) (sym is) (follows g reached r)

next-returned : {Q L : Type 0} (log : L → LogState) (returned : Option Op) (o : Option (Server Q L))
    → (is_some o && is_some returned) ≡ true → returned ≡ next_by log returned o
next-returned log None None is = absurd (false≢true is)
next-returned log None (Some s) is = absurd (false≢true is)
next-returned log (Some op) None is = absurd (false≢true is)
next-returned log (Some op) (Some s) is = refl

-- it is the next one
pub returned-next : {Q L : Type 0} (log : L → LogState) (seat : Option (Seat Q L)) → has_returned seat ≡ true
    → returned_at seat ≡ next_at log seat
returned-next log None is = absurd (false≢true is)
returned-next log (Some seat) is = next-returned log seat.returned seat.server is

next-own : {Q L : Type 0} (log : L → LogState) (returned : Option Op) (o : Option (Server Q L))
    → (is_some o && is_some returned) ≡ false → next_by log None o ≡ next_by log returned o
next-own log None o is = refl
next-own log (Some op) None is = refl
next-own log (Some op) (Some s) is = absurd (false≢true (sym is))

-- there is none that was given back
pub server-next : {Q L : Type 0} (log : L → LogState) (seat : Option (Seat Q L)) → has_returned seat ≡ false
    → next_by log None (server_by seat) ≡ next_at log seat
server-next log None is = refl
server-next log (Some seat) is = next-own log seat.returned seat.server is
