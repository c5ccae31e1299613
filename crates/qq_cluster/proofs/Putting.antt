-- Nodes get their disks and give them up, one after the other.
use Rattle.std.proofs.Common.{◌≡◌, ◌≢◌, ◌⊎◌, ◌<◌, ◌≤◌, ◌+◌, ◌-◌, ℕ, List, [], ◌∷◌, ◌++◌, Option, Some, None, get_or, length, refl, sym, ap, ◌∙◌, subst, inl, inr, arith, append_assoc, append-nil, length-append}
use Rattle.std.specs.Prelude.{slice_get}
use Rattle.std.proofs.lemmas.Bool.{cases_eq}
use Rattle.std.proofs.lemmas.Option.{slice_get_cases, slice_get_within}
use Rattle.qq_node_log.specs.Log.{disk_in}
use Rattle.qq_node_log.specs.declared.node_log.NodeLog.{NodeLog}
use Rattle.qq_node_log.specs.declared.node_log.NodeLog.TheVariants.{Closed}
use Rattle.qq_route.specs.declared.queue_row.QueueRow.{QueueRow}
use Rattle.qq_cluster.specs.Disks.{AreBareNodes, GetDisks, GetsDisk, GiveDisks, GivesDisk, IsBareNode}
use Rattle.qq_cluster.specs.Logs.{NodeTurns}
use Rattle.qq_cluster.specs.Nodes.{EachHasLog}
use Rattle.qq_cluster.specs.Setting.{AreNodesFor, IsNewNode}
use Rattle.qq_cluster.specs.declared.node.Node.{Node}
use Rattle.qq_cluster.proofs.Built.{get-last}
use Rattle.qq_cluster.proofs.Items.{is-empty}
use Rattle.qq_cluster.proofs.OneQueue.{set-get, set-long}
use Rattle.qq_cluster.proofs.Turned.{set-other}

some-is : {A : Type 0} (x y : A) → Some x ≡ Some y → x ≡ y
some-is x y e = cc

get-middle : {A : Type 0} (xs : List A) (x : A) (ys : List A) → slice_get (xs ++ x ∷ ys) (length xs) ≡ Some x
get-middle [] x ys = refl
get-middle (z ∷ xs) x ys = get-middle xs x ys

one-longer : {A : Type 0} (xs all : List A) (x : A) → all ≡ xs ++ x ∷ [] → length all ≡ length xs + 1
one-longer xs all x is = ap length is ∙ length-append xs (x ∷ [])

-- ---- a disk for each node, from the end

-- the last nodes have their disks, the first ones are as they were, and these are the disks of those
pub record PutTo {D : Type 0} (put : ℕ) (all : List D) (olds news : List (Node D)) (rest : List D) : Type 0 where
  pub behind : List D
  pub is : all ≡ rest ++ behind
  pub left : length rest + put ≡ length olds
  pub count : length news ≡ length olds
  pub each : (at : ℕ) (disk : D) (old new : Node D) → length rest ≤ at → slice_get all at ≡ Some disk
      → slice_get olds at ≡ Some old → slice_get news at ≡ Some new → GetsDisk disk old new
  pub others : (at : ℕ) → at < length rest → slice_get news at ≡ slice_get olds at

pub put-none : {D : Type 0} (all : List D) (olds : List (Node D)) → length all ≡ length olds → PutTo 0 all olds olds all
put-none all olds many = record {
  behind = [];
  is = sym (append-nil all);
  left = (let e : length all + 0 ≡ length olds = omega (arith, many) in e);
  count = refl;
  each = λ at disk old new le here there then'.
      (let within = slice_get_within all at disk here in absurd (omega (arith, le, within)));
  others = λ at lt. refl;
}

pub put-next : {D : Type 0} (put : ℕ) (all : List D) (olds news later : List (Node D)) (rest fewer : List D) (disk : D)
    → PutTo put all olds news rest → rest ≡ fewer ++ disk ∷ []
    → NodeTurns (GetsDisk disk) (length olds - 1 - put) news later → PutTo (put + 1) all olds later fewer
put-next {D} put all olds news later rest fewer disk to popped turn = record {
  behind = disk ∷ to.behind;
  is = all-is;
  left = (let e : length fewer + (put + 1) ≡ length olds = omega (arith, left, longer) in e);
  count = ap length turn.is ∙ set-long news (length olds - 1 - put) turn.new ∙ to.count;
  each = each;
  others = λ at lt. ap (λ (l : List (Node D)). slice_get l at) turn.is
      ∙ set-other news (length olds - 1 - put) at turn.new (λ e. absurd (omega (arith, e, index, lt)))
      ∙ to.others at (omega (arith, lt, longer));
}
  where
    longer : length rest ≡ length fewer + 1
    longer = one-longer fewer rest disk popped

    left : length rest + put ≡ length olds
    left = to.left

    index : length olds - 1 - put ≡ length fewer
    index = omega (arith, left, longer)

    all-is : all ≡ fewer ++ disk ∷ to.behind
    all-is = to.is ∙ ap (λ (l : List D). l ++ to.behind) popped ∙ append_assoc fewer (disk ∷ []) to.behind

    own-disk : (d : D) → slice_get all (length fewer) ≡ Some d → d ≡ disk
    own-disk d here =
        some-is d disk (sym here ∙ ap (λ (l : List D). slice_get l (length fewer)) all-is
        ∙ get-middle fewer disk to.behind)

    own-node : (old new : Node D) → slice_get olds (length fewer) ≡ Some old
        → slice_get later (length fewer) ≡ Some new → GetsDisk disk old new
    own-node old new here there =
        by (set-get news (length olds - 1 - put) (length fewer) turn.new new
        (ap (λ (l : List (Node D)). slice_get l (length fewer)) (sym turn.is) ∙ there))
      where
        was : turn.old ≡ old
        was =
            some-is turn.old old (sym turn.here ∙ ap (slice_get news) index
            ∙ to.others (length fewer) (omega (arith, longer)) ∙ here)

        by : ((length fewer ≡ length olds - 1 - put) × (new ≡ turn.new))
            ⊎ ((length fewer ≢ length olds - 1 - put) × (slice_get news (length fewer) ≡ Some new))
            → GetsDisk disk old new
        by (inl own) =
            own.1 ∙ turn.turns ∙ ap (λ (n : Node D). record n { log = Some (Closed disk) }) was
        by (inr other) = absurd (other.0 (sym index))

    each : (at : ℕ) (d : D) (old new : Node D) → length fewer ≤ at → slice_get all at ≡ Some d
        → slice_get olds at ≡ Some old → slice_get later at ≡ Some new → GetsDisk d old new
    each at d old new le here was now' = elim (cases_eq at (length fewer)) [
      | inl own ↦
          let first : slice_get all (length fewer) ≡ Some d = ap (slice_get all) (sym own) ∙ here in
          subst (λ (e : D). GetsDisk e old new) (sym (own-disk d first))
          (own-node old new (ap (slice_get olds) (sym own) ∙ was) (ap (slice_get later) (sym own) ∙ now'))
      | inr other ↦
          to.each at d old new (omega (arith, le, other, longer)) here was
          (sym (ap (λ (l : List (Node D)). slice_get l at) turn.is
          ∙ set-other news (length olds - 1 - put) at turn.new (λ e. other (omega (arith, e, index)))) ∙ now')
    ]

pub put-all : {D : Type 0} (put : ℕ) (all : List D) (olds news : List (Node D)) (rest : List D)
    → length all ≡ length olds → length olds ≤ put → PutTo put all olds news rest → GetDisks all olds news × (rest ≡ [])
put-all put all olds news rest many over to =
    let left = to.left in (
      record {
        many = many;
        count = to.count;
        each = λ at disk old new here was now'. to.each at disk old new (omega (arith, left, over)) here was now';
      },
      is-empty rest (omega (arith, left, over)),
    )

-- as long as some node lacks its disk there is one
pub put-some : {D : Type 0} {P : Type 0} (put : ℕ) (all : List D) (olds news : List (Node D)) (rest : List D)
    → put < length olds → PutTo put all olds news rest → length rest ≡ 0 → P
put-some put all olds news rest lt to none = let left = to.left in absurd (omega (arith, lt, left, none))

-- ---- new nodes

pub bare-none : {D : Type 0} (rows : List QueueRow) → AreBareNodes {D = D} rows 0 []
bare-none {D} rows = record { many = refl; each = λ at node here. absurd (none at node here) }
  where
    none : (at : ℕ) (node : Node D) → slice_get [] at ≡ Some node → ⊥
    none at node is = absurd cc

pub bare-more : {D : Type 0} (rows : List QueueRow) (count : ℕ) (nodes all : List (Node D)) (node : Node D)
    → AreBareNodes rows count nodes → IsBareNode rows (count + 1) node → all ≡ nodes ++ node ∷ []
    → AreBareNodes rows (count + 1) all
bare-more {D} rows count nodes all node are own more =
    subst (AreBareNodes rows (count + 1)) (sym more) (record {
      many = length-append nodes (node ∷ []) ∙ ap (λ (n : ℕ). n + 1) are.many;
      each = λ at n here. by at n (get-last nodes node n at here);
    })
  where
    by : (at : ℕ) (n : Node D) → (slice_get nodes at ≡ Some n) ⊎ ((at ≡ length nodes) × (n ≡ node))
        → IsBareNode rows (at + 1) n
    by at n (inl there) = are.each at n there
    by at n (inr last) =
        subst (IsBareNode rows (at + 1)) (sym last.1)
        (subst (λ (k : ℕ). IsBareNode rows (k + 1) node) (sym (last.0 ∙ are.many)) own)

-- bare nodes that got disks are new nodes over them
pub bare-new : {D : Type 0} (rows : List QueueRow) (disks : List D) (count : ℕ) (olds news : List (Node D))
    → AreBareNodes rows count olds → GetDisks disks olds news → AreNodesFor rows disks news
bare-new {D} rows disks count olds news are get = record {
  count = get.count ∙ sym get.many;
  each = λ at disk node here there. each at disk node here there (slice_get_cases olds at).1;
}
  where
    each : (at : ℕ) (disk : D) (node : Node D) → slice_get disks at ≡ Some disk → slice_get news at ≡ Some node
        → ((x : Node D) × (at < length olds) × (slice_get olds at ≡ Some x) × (get_or olds at x ≡ x))
        ⊎ ((length olds ≤ at) × (slice_get olds at ≡ None)) → IsNewNode rows (at + 1) disk node
    each at disk node here there (inl (old, lt, was, same)) =
        let bare = are.each at old was in
        subst (IsNewNode rows (at + 1) disk) (sym (get.each at disk old node here was there)) (record {
          id_is = bare.id_is;
          up_is = bare.up_is;
          empty_is = bare.empty_is;
          queues_are = bare.queues_are;
          log_is = refl;
        })
    each at disk node here there (inr (past_end, none)) =
        let lt = slice_get_within disks at disk here in
        let many = get.many in absurd (omega (arith, lt, many, past_end))

-- ---- a disk of each node, in order

-- the first nodes have given their disks up
pub record TakenTo {D : Type 0} (at : ℕ) (olds news : List (Node D)) (disks : List D) : Type 0 where
  pub many : length disks ≡ at
  pub count : length news ≡ length olds
  pub each : (i : ℕ) (disk : D) (old new : Node D) → slice_get disks i ≡ Some disk → slice_get olds i ≡ Some old
      → slice_get news i ≡ Some new → GivesDisk old new disk
  pub others : (i : ℕ) → at ≤ i → slice_get news i ≡ slice_get olds i

pub taken-none : {D : Type 0} (olds : List (Node D)) (disks : List D) → disks ≡ [] → TakenTo 0 olds olds disks
taken-none {D} olds disks empty =
    subst (TakenTo 0 olds olds) (sym empty) (record {
      many = refl;
      count = refl;
      each = λ i disk old new here. absurd (none i disk here);
      others = λ i le. refl;
    })
  where
    none : (i : ℕ) (disk : D) → slice_get [] i ≡ Some disk → ⊥
    none i disk is = absurd cc

-- the node at the next index has its log
pub taken-log : {D : Type 0} (at : ℕ) (olds news : List (Node D)) (disks : List D) → TakenTo at olds news disks
    → EachHasLog olds → (node : Node D) → slice_get news at ≡ Some node → (own : NodeLog D) × (node.log ≡ Some own)
taken-log at olds news disks to each node here = each at node (sym (to.others at (omega arith)) ∙ here)

pub taken-next : {D : Type 0} (at : ℕ) (olds news later : List (Node D)) (disks all : List D) (disk : D)
    → TakenTo at olds news disks → NodeTurns (λ (old new : Node D). GivesDisk old new disk) at news later
    → all ≡ disks ++ disk ∷ [] → TakenTo (at + 1) olds later all
taken-next {D} at olds news later disks all disk to turn more =
    subst (TakenTo (at + 1) olds later) (sym more) (record {
      many = length-append disks (disk ∷ []) ∙ ap (λ (n : ℕ). n + 1) to.many;
      count = ap length turn.is ∙ set-long news at turn.new ∙ to.count;
      each = λ i d old new here was now'. by i d old new was now' (get-last disks disk d i here);
      others = λ i le. ap (λ (l : List (Node D)). slice_get l i) turn.is
          ∙ set-other news at i turn.new (λ e. absurd (omega (arith, e, le))) ∙ to.others i (omega (arith, le));
    })
  where
    own-node : (old new : Node D) → slice_get olds at ≡ Some old → slice_get later at ≡ Some new
        → GivesDisk old new disk
    own-node old new was there =
        at-own (set-get news at at turn.new new (ap (λ (l : List (Node D)). slice_get l at) (sym turn.is) ∙ there))
      where
        same : turn.old ≡ old
        same = some-is turn.old old (sym turn.here ∙ to.others at (omega arith) ∙ was)

        at-own : ((at ≡ at) × (new ≡ turn.new)) ⊎ ((at ≢ at) × (slice_get news at ≡ Some new))
            → GivesDisk old new disk
        at-own (inl own) =
            subst (λ (x : Node D). GivesDisk x new disk) same
            (subst (λ (y : Node D). GivesDisk turn.old y disk) (sym own.1) turn.turns)
        at-own (inr other) = absurd (other.0 refl)

    by : (i : ℕ) (d : D) (old new : Node D) → slice_get olds i ≡ Some old → slice_get later i ≡ Some new
        → (slice_get disks i ≡ Some d) ⊎ ((i ≡ length disks) × (d ≡ disk)) → GivesDisk old new d
    by i d old new was now' (inl there) =
        let lt = slice_get_within disks i d there in
        let many = to.many in
        to.each i d old new there was
        (sym (ap (λ (l : List (Node D)). slice_get l i) turn.is
        ∙ set-other news at i turn.new (λ e. absurd (omega (arith, e, lt, many)))) ∙ now')
    by i d old new was now' (inr last) =
        let index : i ≡ at = last.0 ∙ to.many in
        subst (GivesDisk old new) (sym last.1)
        (own-node old new (ap (slice_get olds) (sym index) ∙ was) (ap (slice_get later) (sym index) ∙ now'))

pub taken-all : {D : Type 0} (at : ℕ) (olds news : List (Node D)) (disks : List D) → at ≡ length olds
    → TakenTo at olds news disks → GiveDisks olds news disks
taken-all at olds news disks all to = record { many = to.many ∙ all; count = to.count; each = to.each }

-- ---- a node

pub gives-disk : {D : Type 0} (old : Node D) (rest : Option (NodeLog D)) (log : NodeLog D) (disk : D) → rest ≡ None
    → old.log ≡ Some log → disk ≡ disk_in log → GivesDisk old (record old { log = rest }) disk
gives-disk {D} old rest log disk none here is = record {
  own = log;
  was = here;
  is = ap (λ (l : Option (NodeLog D)). record old { log = l }) none;
  disk_is = is;
}
