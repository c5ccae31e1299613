-- The least index that a queue still needs, and what is held of it.
use Rattle.std.proofs.Common.{◌≡◌, ℕ, ◌+◌, ◌-◌, List, [], ◌∷◌, ◌++◌, Option, Some, None, map, refl, sym, ap, ◌∙◌, arith}
use Rattle.std.specs.Prelude.{fold, min, ◌^◌}
use Rattle.std.specs.Option.{option_map_or}
use Rattle.std.proofs.lemmas.List.{map-append}
use Rattle.qq_base.specs.declared.ids.Index.{Index}
use Rattle.qq_entry.specs.declared.queue.QueueArgs.{QueueArgs}
use Rattle.qq_entry.specs.declared.answer.Answer.{Answer}
use Rattle.qq_entry.specs.declared.answer.Answer.TheVariants.{Got}
use Rattle.qq_model.specs.declared.session.OpenSession.{OpenSession}
use Rattle.qq_model.specs.State.{Sessions}
use Rattle.qq_sessions.specs.KeptLow.{got_index, lesser_index, low_of, low_of_session, kept_low}
use Rattle.qq_sessions.proofs.Lows.{lesser-two, none-lesser, least-append}
use Rattle.qq_ready.specs.declared.row.KeyedRow.{KeyedRow}
use Rattle.qq_dead.specs.declared.row.DeadRow.{DeadRow}
use Rattle.qq_parts.specs.Parts.{Parts, items_of, outs}
use Rattle.qq_parts.specs.Step.{new_parts}
use Rattle.qq_live.specs.Indices.{occurrences, least, Adds, Removes}
use Rattle.qq_live.proofs.Sums.{least-same}
use Rattle.qq_ledger.specs.Low.{got_indices, answers_indices, kept_indices, item_index, parts_low}
use Rattle.qq_ledger.specs.Ledger.{keyed_index, dead_index, ready_indices, out_indices, dead_indices, Balances}
use Rattle.qq_ledger.proofs.Balance.{occurrences-append}
use Rattle.qq_machine.specs.declared.queue.Queue.{Queue}
use Rattle.qq_machine.specs.Views.{keyed_item, dead_item, parts_of, Content, content_of}
use Rattle.qq_machine.specs.Least.{indices_in, HoldsAll, least_index}

-- ---- what came is held, and what left is let go

indices-sum : (i : ℕ) (k : Content) → occurrences i (indices_in k)
    ≡ occurrences i (ready_indices k.ready)
    + (occurrences i (out_indices k.roster.served) + occurrences i (dead_indices k.letters))
indices-sum i k =
    occurrences-append i (ready_indices k.ready) (out_indices k.roster.served ++ dead_indices k.letters)
    ∙ ap (λ (n : ℕ). occurrences i (ready_indices k.ready) + n)
    (occurrences-append i (out_indices k.roster.served) (dead_indices k.letters))

pub told : (base now : Content) (cr cc cd gr gc gd l0 l1 l2 l3 l4 l5 l6 : List Index) → HoldsAll l0 base
    → Adds cr l0 l1 → Adds cc l1 l2 → Adds cd l2 l3 → Removes gr l3 l4 → Removes gc l4 l5 → Removes gd l5 l6
    → Balances (ready_indices base.ready) (ready_indices now.ready) cr gr
    → Balances (out_indices base.roster.served) (out_indices now.roster.served) cc gc
    → Balances (dead_indices base.letters) (dead_indices now.letters) cd gd → HoldsAll l6 now
told base now cr cc cd gr gc gd l0 l1 l2 l3 l4 l5 l6 holds a1 a2 a3 r1 r2 r3 br bc bd i =
    let h = holds i in
    let x1 = a1 i in
    let x2 = a2 i in
    let x3 = a3 i in
    let y1 = r1 i in
    let y2 = r2 i in
    let y3 = r3 i in
    let z1 = br.counts i in
    let z2 = bc.counts i in
    let z3 = bd.counts i in
    let sb = indices-sum i base in
    let sn = indices-sum i now in
    omega (arith, h, x1, x2, x3, y1, y2, y3, z1, z2, z3, sb, sn)

-- ---- of the parts

map-keyed : (rows : List KeyedRow) → map item_index (map keyed_item rows) ≡ map keyed_index rows
map-keyed [] = refl
map-keyed (row ∷ rows) = ap (λ (xs : List Index). row.row.index ∷ xs) (map-keyed rows)

map-dead : (rows : List DeadRow) → map item_index (map dead_item rows) ≡ map dead_index rows
map-dead [] = refl
map-dead (row ∷ rows) = ap (λ (xs : List Index). row.row.index ∷ xs) (map-dead rows)

pub indices-are : (args : QueueArgs) (q : Queue)
    → map item_index (items_of (parts_of args q)) ≡ indices_in (content_of q)
indices-are args q =
    let fronts = map keyed_item q.ready.store.queue.fronts in
    let backs = map keyed_item q.ready.store.queue.backs in
    let out = outs q.consumers.roster.served in
    let dead = map dead_item q.dead.store.letters.rows in
    map-append item_index (fronts ++ backs) (out ++ dead)
    ∙ ap (λ (xs : List Index). xs ++ map item_index (out ++ dead))
    (map-append item_index fronts backs
    ∙ ap (λ (xs : List Index). xs ++ map item_index backs) (map-keyed q.ready.store.queue.fronts)
    ∙ ap (λ (xs : List Index). map keyed_index q.ready.store.queue.fronts ++ xs) (map-keyed q.ready.store.queue.backs)
    ∙ sym (map-append keyed_index q.ready.store.queue.fronts q.ready.store.queue.backs))
    ∙ ap (λ (xs : List Index). ready_indices q.ready.store.queue ++ xs)
    (map-append item_index out dead
    ∙ ap (λ (xs : List Index). map item_index out ++ xs) (map-dead q.dead.store.letters.rows))

-- ---- kept answers

got-is : (answer : Answer) → got_index answer ≡ least (got_indices answer)
got-is (Got delivery) = refl
got-is _ = refl

answers-low : (answers : List Answer) (low : Option ℕ)
    → low_of low answers ≡ lesser_index low (least (answers_indices answers))
answers-low [] low = refl
answers-low (answer ∷ answers) low =
    answers-low answers (lesser_index low (got_index answer))
    ∙ lesser-two low (got_index answer) (least (answers_indices answers))
    ∙ ap (λ (o : Option ℕ). lesser_index low (lesser_index o (least (answers_indices answers)))) (got-is answer)
    ∙ ap (lesser_index low) (sym (least-append (got_indices answer) (answers_indices answers)))

sessions-low : (ones : List OpenSession) (low : Option ℕ)
    → fold low_of_session low ones ≡ lesser_index low (least (kept_indices ones))
sessions-low [] low = refl
sessions-low (one ∷ ones) low =
    sessions-low ones (low_of low one.kept)
    ∙ ap (λ (o : Option ℕ). lesser_index o (least (kept_indices ones))) (answers-low one.kept low)
    ∙ lesser-two low (least (answers_indices one.kept)) (least (kept_indices ones))
    ∙ ap (lesser_index low) (sym (least-append (answers_indices one.kept) (kept_indices ones)))

pub kept-is : (s : Sessions) → kept_low s ≡ least (kept_indices s.opened)
kept-is s = sessions-low s.opened None ∙ none-lesser (least (kept_indices s.opened))

-- ---- the least index

index-is : (a b : Option ℕ) (applied : ℕ)
    → least_index a b applied ≡ option_map_or (λ (index : ℕ). index) (lesser_index a b) (applied + 1)
index-is None None applied = refl
index-is (Some a) None applied = refl
index-is None (Some b) applied = refl
index-is (Some a) (Some b) applied = refl

pub low-is : (args : QueueArgs) (q : Queue) (live : List Index) (a b : Option ℕ) (n : ℕ) → HoldsAll live (content_of q)
    → a ≡ least live → b ≡ kept_low q.sessions.known → n ≡ min (least_index a b q.applied) (2 ^ 64 - 1)
    → n ≡ min (parts_low (parts_of args q)) (2 ^ 64 - 1)
low-is args q live a b n holds first second is =
    let items = map item_index (items_of (parts_of args q)) in
    let kept = kept_indices q.sessions.known.opened in
    let same : least_index a b q.applied ≡ parts_low (parts_of args q) =
    index-is a b q.applied
    ∙ ap (λ (o : Option ℕ). option_map_or (λ (index : ℕ). index) o (q.applied + 1))
    (ap (λ (o : Option ℕ). lesser_index o b)
    (first ∙ least-same live (indices_in (content_of q)) holds ∙ ap least (sym (indices-are args q)))
    ∙ ap (lesser_index (least items)) (second ∙ kept-is q.sessions.known)
    ∙ sym (least-append items kept)) in
    is ∙ ap (λ (k : ℕ). min k (2 ^ 64 - 1)) same

-- what was gathered of all parts is held
pub gathered : (k : Content) (live a0 a1 a2 a3 : List Index) → a0 ≡ [] → a1 ≡ a0 ++ ready_indices k.ready
    → a2 ≡ a1 ++ out_indices k.roster.served → a3 ≡ a2 ++ dead_indices k.letters
    → ((i : ℕ) → occurrences i live ≡ occurrences i a3) → HoldsAll live k
gathered k live a0 a1 a2 a3 none ready out dead holds i =
    let h = holds i in
    let z : occurrences i a0 ≡ 0 = ap (occurrences i) none in
    let r = ap (occurrences i) ready ∙ occurrences-append i a0 (ready_indices k.ready) in
    let o = ap (occurrences i) out ∙ occurrences-append i a1 (out_indices k.roster.served) in
    let d = ap (occurrences i) dead ∙ occurrences-append i a2 (dead_indices k.letters) in
    let s = indices-sum i k in
    omega (arith, h, z, r, o, d, s)

-- as many are held of the same
pub holds-on : (xs ys : List Index) (k l : Content) → HoldsAll xs k → ys ≡ xs → l ≡ k → HoldsAll ys l
holds-on xs ys k l holds same is i =
    ap (occurrences i) same ∙ holds i ∙ ap (λ (c : Content). occurrences i (indices_in c)) (sym is)

-- a new queue has no messages
pub new-holds : (args : QueueArgs) (q : Queue) (live : List Index) → live ≡ [] → parts_of args q ≡ new_parts args
    → HoldsAll live (content_of q)
new-holds args q live none same i =
    ap (occurrences i) none
    ∙ ap (λ (m : Parts). occurrences i (map item_index (items_of m))) (sym same)
    ∙ ap (occurrences i) (indices-are args q)

-- a copy has the same messages
pub copy-holds : (args : QueueArgs) (q r : Queue) (xs ys : List Index) → HoldsAll xs (content_of q) → ys ≡ xs
    → parts_of args r ≡ parts_of args q → HoldsAll ys (content_of r)
copy-holds args q r xs ys holds same is i =
    ap (occurrences i) same ∙ holds i
    ∙ ap (occurrences i) (sym (indices-are args q))
    ∙ ap (λ (m : Parts). occurrences i (map item_index (items_of m))) (sym is)
    ∙ ap (occurrences i) (indices-are args r)
