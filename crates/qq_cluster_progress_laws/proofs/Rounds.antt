-- The nodes' turns in a round, one after the other.
use Rattle.std.proofs.Common.{◌≡◌, ◌≢◌, ◌⊎◌, ℕ, Bool, true, false, List, [], ◌∷◌, ◌++◌, length, map, Some, None, refl, sym, ap, ◌∙◌, subst, inl, inr, append_assoc}
use Rattle.std.specs.Prelude.{Contains}
use Rattle.std.proofs.lemmas.Bool.{cases_eq, cond-true}
use Rattle.std.proofs.lemmas.List.Elements.{Contains-append_left, Contains-append_right}
use Rattle.qq_base.specs.declared.ids.NodeId.{NodeId}
use Rattle.qq_log.specs.declared.op.Op.{Op}
use Rattle.qq_raft_protocol.specs.Facts.{In}
use Rattle.qq_raft_model.specs.Group.{Group, Seat}
use Rattle.qq_raft_model.specs.Server.{notice}
use Rattle.qq_raft_model.specs.State.{Server}
use Rattle.qq_cluster_model.specs.Queue.{Queue, Event, after, all_said, own_effects, own_rows}
use Rattle.qq_cluster_model.proofs.Groups.{after-append}
use Rattle.qq_session.specs.Clients.{Clients, hear_all, printed}
use Rattle.qq_session.specs.declared.shown.Shown.{Shown}
use Rattle.qq_session.specs.declared.shown.Shown.TheVariants.{Answered}
use Rattle.qq_entry.specs.declared.queue.QueueArgs.{QueueArgs}
use Rattle.qq_cluster_progress_laws.specs.Soon.{AreOnce}
use Rattle.qq_cluster_progress_laws.specs.Alone.{turn, turn_where, turns}
use Rattle.qq_cluster_progress_laws.proofs.Exchange.{same_some}
use Rattle.qq_cluster_progress_laws.proofs.Feeding.{fed}
use Rattle.qq_cluster_progress_laws.proofs.Sound.{AreHanded, IsSound, sound-all}
use Rattle.qq_cluster_progress_laws.proofs.Turns.{HasNone, IsEven, Rests, Tells, answers_at, rests-quiet, turn-quiet, turn-rests, turn-shows, turn-tells}
use Rattle.qq_cluster_progress_laws.proofs.Following.{AllQuiet, IsQuiet, quiet-after, quiet-append, said-append}

-- ---- one after the other

turns-after : (up : ℕ → Bool) (j : ℕ) (nodes : List ℕ) (q : Queue)
    → after q (turns up (j ∷ nodes) q)
    ≡ after (after q (turn_where (up j) j q)) (turns up nodes (after q (turn_where (up j) j q)))
turns-after up j nodes q =
    after-append q (turn_where (up j) j q) (turns up nodes (after q (turn_where (up j) j q)))

turns-say : (up : ℕ → Bool) (j : ℕ) (nodes : List ℕ) (q : Queue)
    → all_said q (turns up (j ∷ nodes) q)
    ≡ all_said q (turn_where (up j) j q)
    ++ all_said (after q (turn_where (up j) j q)) (turns up nodes (after q (turn_where (up j) j q)))
turns-say up j nodes q =
    said-append q (turn_where (up j) j q) (turns up nodes (after q (turn_where (up j) j q)))

-- ---- nothing to do

abbrev pub IsSettled : ℕ → Queue → Type 0
IsSettled j q = IsEven j q × HasNone j q

pub rests-refl : (q : Queue) → Rests q q
rests-refl q = record { group = refl; clients = refl; args = refl; synced = λ i. refl }

pub rests-then : (q r s : Queue) → Rests q r → Rests r s → Rests q s
rests-then q r s a b = record {
  group = b.group ∙ a.group;
  clients = b.clients ∙ a.clients;
  args = b.args ∙ a.args;
  synced = λ i. b.synced i ∙ a.synced i;
}

even-rests : (q r : Queue) (j : ℕ) → Rests q r → IsEven j q → IsEven j r
even-rests q r j rests even = record {
  synced = rests.synced j ∙ even.synced ∙ ap (λ (g : Group). length (g.seat j).ops) (sym rests.group);
  noticed = ap (λ (g : Group). (g.seat j).noticed) rests.group ∙ even.noticed
      ∙ ap (λ (g : Group). length (g.seat j).ops) (sym rests.group);
}

none-rests : (q r : Queue) (j : ℕ) → Rests q r → HasNone j q → HasNone j r
none-rests q r j rests none s up = none s (ap (λ (g : Group). (g.seat j).server) (sym rests.group) ∙ up)

pub settled-rests : (q r : Queue) (j : ℕ) → Rests q r → IsSettled j q → IsSettled j r
settled-rests q r j rests settled = (even-rests q r j rests settled.0, none-rests q r j rests settled.1)

where-rests : (b : Bool) (j : ℕ) (q : Queue) → (b ≡ true → IsSettled j q) → Rests q (after q (turn_where b j q))
where-rests true j q settled = let s = settled refl in turn-rests j q s.0 s.1
where-rests false j q settled = rests-refl q

pub turns-rest : (up : ℕ → Bool) (nodes : List ℕ) (q : Queue)
    → ((j : ℕ) → In j nodes → up j ≡ true → IsSettled j q) → Rests q (after q (turns up nodes q))
turns-rest up [] q each = rests-refl q
turns-rest up (j ∷ nodes) q each =
    let next : Queue = after q (turn_where (up j) j q) in
    let first : Rests q next = where-rests (up j) j q (each j (inl refl)) in
    subst (Rests q) (sym (turns-after up j nodes q))
    (rests-then q next (after next (turns up nodes next)) first
    (turns-rest up nodes next (λ i here node_up. settled-rests q next i first (each i (inr here) node_up))))

where-quiet : (b : Bool) (j : ℕ) (q : Queue) → (b ≡ true → IsSettled j q) → IsQuiet q → AllQuiet q (turn_where b j q)
where-quiet true j q settled quiet = let s = settled refl in rests-quiet j q s.0 s.1 quiet
where-quiet false j q settled quiet = tt

-- and nothing is handed out
pub turns-quiet : (up : ℕ → Bool) (nodes : List ℕ) (q : Queue)
    → ((j : ℕ) → In j nodes → up j ≡ true → IsSettled j q) → IsQuiet q → AllQuiet q (turns up nodes q)
turns-quiet up [] q each quiet = tt
turns-quiet up (j ∷ nodes) q each quiet =
    let events : List Event = turn_where (up j) j q in
    let next : Queue = after q events in
    let first : Rests q next = where-rests (up j) j q (each j (inl refl)) in
    let one = where-quiet (up j) j q (each j (inl refl)) quiet in
    quiet-append q events (turns up nodes next) one
    (turns-quiet up nodes next (λ i here node_up. settled-rests q next i first (each i (inr here) node_up))
    (quiet-after q events quiet one))

-- some nodes' turns, and then those of others
pub turns-append : (up : ℕ → Bool) (first second : List ℕ) (q : Queue)
    → turns up (first ++ second) q ≡ turns up first q ++ turns up second (after q (turns up first q))
turns-append up [] second q = refl
turns-append up (j ∷ first) second q =
    let events : List Event = turn_where (up j) j q in
    let next : Queue = after q events in
    ap (λ (l : List Event). events ++ l) (turns-append up first second next)
    ∙ sym (append_assoc events (turns up first next) (turns up second (after next (turns up first next))))
    ∙ ap (λ (r : Queue). (events ++ turns up first next) ++ turns up second r)
    (sym (after-append q events (turns up first next)))

-- ---- one member has something to do

tells-before : (q r s : Queue) (k : ℕ) (t : Server) → Rests q r → Tells r s k t → Tells q s k t
tells-before q r s k t rests tells = record {
  seat = tells.seat ∙ ap (λ (g : Group). fed (record { server = None; ops = (g.seat k).ops ++ t.ops; noticed = 0 })
      (notice t.op (record t { ops = [] }))) rests.group;
  others = λ i other. tells.others i other ∙ ap (λ (g : Group). g.seat i) rests.group;
  bag = tells.bag ∙ ap (λ (g : Group). g.bag ++ (notice t.op (record t { ops = [] })).out) rests.group;
  clients = subst (λ (args : QueueArgs). s.clients ≡ hear_all (own_rows args (record t { ops = [] })
      (record (notice t.op (record t { ops = [] })) { out = [] })) q.clients) rests.args
      (subst (λ (clients : Clients). s.clients ≡ hear_all (own_rows r.args (record t { ops = [] })
      (record (notice t.op (record t { ops = [] })) { out = [] })) clients) rests.clients tells.clients);
  args = tells.args ∙ rests.args;
  synced = λ i other. tells.synced i other ∙ rests.synced i;
  even = tells.even;
}

tells-after : (q r s : Queue) (k : ℕ) (t : Server) → Tells q r k t → Rests r s → Tells q s k t
tells-after q r s k t tells rests = record {
  seat = ap (λ (g : Group). g.seat k) rests.group ∙ tells.seat;
  others = λ i other. ap (λ (g : Group). g.seat i) rests.group ∙ tells.others i other;
  bag = ap (λ (g : Group). g.bag) rests.group ∙ tells.bag;
  clients = rests.clients ∙ tells.clients;
  args = rests.args ∙ tells.args;
  synced = λ i other. rests.synced i ∙ tells.synced i other;
  even = even-rests r s k rests tells.even;
}

-- what a turn of another member leaves
settled-tells : (q r : Queue) (k j : ℕ) (t : Server) → j ≢ k → Tells q r k t → IsSettled j q → IsSettled j r
settled-tells q r k j t other tells settled = (
  record {
    synced = tells.synced j other ∙ settled.0.synced ∙ ap (λ (s : Seat). length s.ops) (sym (tells.others j other));
    noticed = ap (λ (s : Seat). s.noticed) (tells.others j other) ∙ settled.0.noticed
        ∙ ap (λ (s : Seat). length s.ops) (sym (tells.others j other));
  },
  λ s up. settled.1 s (ap (λ (x : Seat). x.server) (sym (tells.others j other)) ∙ up),
)

answers-rest : (q r : Queue) (s : Server) → Rests q r → answers_at r s ≡ answers_at q s
answers-rest q r s rests =
    ap (λ (args : QueueArgs). map Answered (printed (own_rows args (record s { ops = [] })
    (record (notice s.op (record s { ops = [] })) { out = [] })) r.clients)) rests.args
    ∙ ap (λ (clients : Clients). map Answered (printed (own_rows q.args (record s { ops = [] })
    (record (notice s.op (record s { ops = [] })) { out = [] })) clients)) rests.clients

-- its turn comes, and the other members have nothing to do
pub record OneTells (up : ℕ → Bool) (nodes : List ℕ) (q : Queue) (k : ℕ) (s : Server) : Type 0 where
  pub tells : Tells q (after q (turns up nodes q)) k s
  pub shows : (x : Shown) → Contains (answers_at q s) x → Contains (all_said q (turns up nodes q)) x

module _ (handed : AreHanded) (members : List NodeId) (up : ℕ → Bool) (k : ℕ) (s : Server) (op : Op) (ops : List Op)
    (some : s.ops ≡ op ∷ ops) (node_up : up k ≡ true) where
  -- where it is done then, or its turn doesn't come again
  abbrev IsLast : List ℕ → Type 0
  IsLast nodes = ((notice s.op (record s { ops = [] })).ops ≡ []) ⊎ (In k nodes → ⊥)

  own-turn : (nodes : List ℕ) (q : Queue) → IsSound members q → (q.group.seat k).server ≡ Some s → IsEven k q
      → ((j : ℕ) → In j nodes → j ≢ k → up j ≡ true → IsSettled j q) → IsLast nodes → OneTells up (k ∷ nodes) q k s
  own-turn nodes q sound here even each once =
      let next : Queue = after q (turn_where (up k) k q) in
      let is : turn_where (up k) k q ≡ turn k q = cond-true (up k) (turn k q) [] node_up in
      let tells : Tells q next k s =
      subst (λ (es : List Event). Tells q (after q es) k s) (sym is)
      (turn-tells handed members q sound k s here even op ops some) in
      let own : In k nodes → IsSettled k next =
      λ there. (
        tells.even,
        λ t is. (
            let same : Some (record (notice s.op (record s { ops = [] })) { out = [] }) ≡ Some t =
            ap (λ (x : Seat). x.server) (sym tells.seat) ∙ is in
            ap (λ (x : Server). x.ops) (sym (same_some (record (notice s.op (record s { ops = [] })) { out = [] }) t same))
            ∙ elim once [ inl left ↦ left | inr gone ↦ absurd (gone there) ]),
      ) in
      let rests : Rests next (after next (turns up nodes next)) =
      turns-rest up nodes next (λ j there j_up. elim (cases_eq j k) [
        | inl same ↦ subst (λ (n : ℕ). IsSettled n next) (sym same)
            (own (subst (λ (n : ℕ). In n nodes) same there))
        | inr other ↦ settled-tells q next k j s other tells (each j there other j_up)
      ]) in
      record {
        tells = subst (λ (r : Queue). Tells q r k s) (sym (turns-after up k nodes q))
            (tells-after q next (after next (turns up nodes next)) k s tells rests);
        shows = λ x shown. subst (λ (l : List Shown). Contains l x) (sym (turns-say up k nodes q))
            (Contains-append_left (all_said q (turn_where (up k) k q)) (all_said next (turns up nodes next)) x
            (subst (λ (es : List Event). Contains (all_said q es) x) (sym is)
            (turn-shows handed members q sound k s here even op ops some x shown)));
      }

  pub one-tells : (nodes : List ℕ) (q : Queue) → IsSound members q → (q.group.seat k).server ≡ Some s → IsEven k q
      → ((j : ℕ) → In j nodes → j ≢ k → up j ≡ true → IsSettled j q) → In k nodes
      → ((notice s.op (record s { ops = [] })).ops ≡ []) ⊎ AreOnce nodes → OneTells up nodes q k s
  one-tells [] q sound here even each there once = absurd there
  one-tells (j ∷ nodes) q sound here even each there once =
      by (cases_eq j k) (λ r safe up_there evens settled later. one-tells nodes r safe up_there evens settled later rest)
    where
      rest : ((notice s.op (record s { ops = [] })).ops ≡ []) ⊎ AreOnce nodes
      rest = elim once [ inl left ↦ inl left | inr each ↦ inr each.1 ]

      last : j ≡ k → IsLast nodes
      last same = elim once [
        | inl left ↦ inl left
        | inr each ↦ inr (λ there. each.0 (subst (λ (n : ℕ). In n nodes) (sym same) there))
      ]

      by : ((j ≡ k) ⊎ (j ≢ k))
          → ((r : Queue) → IsSound members r → (r.group.seat k).server ≡ Some s → IsEven k r
          → ((i : ℕ) → In i nodes → i ≢ k → up i ≡ true → IsSettled i r) → In k nodes → OneTells up nodes r k s)
          → OneTells up (j ∷ nodes) q k s
      by (inl same) more =
          subst (λ (n : ℕ). OneTells up (n ∷ nodes) q k s) (sym same)
          (own-turn nodes q sound here even (λ i later. each i (inr later)) (last same))
      by (inr other) go =
          let events : List Event = turn_where (up j) j q in
          let next : Queue = after q events in
          let rests : Rests q next = where-rests (up j) j q (λ j_up. each j (inl refl) other j_up) in
          let later : In k nodes = elim there [ inl own ↦ absurd (other (sym own)) | inr more ↦ more ] in
          let more : OneTells up nodes next k s =
          go next (sound-all members q events sound)
          (ap (λ (g : Group). (g.seat k).server) rests.group ∙ here) (even-rests q next k rests even)
          (λ i there' differs i_up. settled-rests q next i rests (each i (inr there') differs i_up)) later in
          record {
            tells = subst (λ (r : Queue). Tells q r k s) (sym (turns-after up j nodes q))
                (tells-before q next (after next (turns up nodes next)) k s rests more.tells);
            shows = λ x shown. subst (λ (l : List Shown). Contains l x) (sym (turns-say up j nodes q))
                (Contains-append_right (all_said q events) (all_said next (turns up nodes next)) x
                (more.shows x (subst (λ (l : List Shown). Contains l x) (sym (answers-rest q next s rests)) shown)));
          }

  -- where nothing is handed out then
  pub tells-quiet : (nodes : List ℕ) (q : Queue) → IsSound members q → (q.group.seat k).server ≡ Some s → IsEven k q
      → ((j : ℕ) → In j nodes → j ≢ k → up j ≡ true → IsSettled j q)
      → (notice s.op (record s { ops = [] })).ops ≡ [] → IsQuiet q
      → own_effects q.args (record s { ops = [] }) (record (notice s.op (record s { ops = [] })) { out = [] }) ≡ []
      → AllQuiet q (turns up nodes q)
  tells-quiet [] q sound here even each done quiet none = tt
  tells-quiet (j ∷ nodes) q sound here even each done quiet none =
      by (cases_eq j k) (λ r safe up_there evens settled waits same. tells-quiet nodes r safe up_there evens settled done
      waits same)
    where
      told : Server
      told = record (notice s.op (record s { ops = [] })) { out = [] }

      own : AllQuiet q (turns up (k ∷ nodes) q)
      own =
          let events : List Event = turn_where (up k) k q in
          let next : Queue = after q events in
          let is : events ≡ turn k q = cond-true (up k) (turn k q) [] node_up in
          let tells : Tells q next k s =
          subst (λ (es : List Event). Tells q (after q es) k s) (sym is)
          (turn-tells handed members q sound k s here even op ops some) in
          let first : AllQuiet q events =
          subst (AllQuiet q) (sym is) (turn-quiet handed members q sound k s here even op ops some quiet none) in
          let settled : IsSettled k next = (
            tells.even,
            λ t at. ap (λ (x : Server). x.ops) (sym (same_some told t (ap (λ (x : Seat). x.server) (sym tells.seat) ∙ at)))
                ∙ done,
          ) in
          quiet-append q events (turns up nodes next) first
          (turns-quiet up nodes next (λ i there i_up. elim (cases_eq i k) [
            | inl same ↦ subst (λ (n : ℕ). IsSettled n next) (sym same) settled
            | inr other ↦ (let i_there : In i (j ∷ nodes) = inr there in
                settled-tells q next k i s other tells (each i i_there other i_up))
          ]) (quiet-after q events quiet first))

      by : ((j ≡ k) ⊎ (j ≢ k))
          → ((r : Queue) → IsSound members r → (r.group.seat k).server ≡ Some s → IsEven k r
          → ((i : ℕ) → In i nodes → i ≢ k → up i ≡ true → IsSettled i r) → IsQuiet r
          → own_effects r.args (record s { ops = [] }) told ≡ [] → AllQuiet r (turns up nodes r))
          → AllQuiet q (turns up (j ∷ nodes) q)
      by (inl same) more = subst (λ (n : ℕ). AllQuiet q (turns up (n ∷ nodes) q)) (sym same) own
      by (inr other) go =
          let events : List Event = turn_where (up j) j q in
          let next : Queue = after q events in
          let rests : Rests q next = where-rests (up j) j q (λ j_up. each j (inl refl) other j_up) in
          let one = where-quiet (up j) j q (λ j_up. each j (inl refl) other j_up) quiet in
          quiet-append q events (turns up nodes next) one
          (go next (sound-all members q events sound) (ap (λ (g : Group). (g.seat k).server) rests.group ∙ here)
          (even-rests q next k rests even)
          (λ i there differs i_up. settled-rests q next i rests (each i (inr there) differs i_up))
          (quiet-after q events quiet one)
          (ap (λ (args : QueueArgs). own_effects args (record s { ops = [] }) told) rests.args ∙ none))
