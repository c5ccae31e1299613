-- Marks tell the ops that were appended since the last sync.
use Rattle.std.proofs.Common.{◌≡◌, ℕ, Bool, true, false, cond, eqb, List, [], ◌∷◌, ◌++◌, map, Option, Some, None, refl, sym, ap, subst, ◌∙◌, append-nil, append_assoc, option_map, option_to_list}
use Rattle.std.specs.List.{fold, last_or}
use Rattle.std.proofs.lemmas.List.{map-append}
use Rattle.std.proofs.lemmas.List.Elements.{filter-append}
use Rattle.std.proofs.lemmas.List.Sums.{fold-append}
use Rattle.qq_base.specs.declared.ids.QueueId.{QueueId}
use Rattle.qq_log.specs.declared.lane.Carry.{Carry}
use Rattle.qq_log.specs.declared.op.Op.{Op}
use Rattle.qq_log.specs.Op.{queue, number}
use Rattle.qq_wal_chain.specs.Laws.{op_records}
use Rattle.qq_wal_chain.specs.Lanes.{of_queue}
use Rattle.qq_wal.specs.declared.notices.Notice.{Notice}
use Rattle.qq_wal.specs.declared.marks.Mark.{Mark}
use Rattle.qq_wal.proofs.Follows.{noted}
use Rattle.qq_wal.specs.Notices.{op_term, last_index, first_index, lesser_index, least_index, notice_of, notices_of, first_of, note_op, note_mark, note_all, note_record, Tell, notices_in, sync_mark, new_mark}

last-more : (o : Option Op) (ops : List Op) (op : Op) → last_or o (ops ++ op ∷ []) ≡ Some op
last-more o [] op = refl
last-more o (x ∷ ops) op = last-more (Some x) ops op

least-more : (ops : List Op) (op : Op)
    → least_index (ops ++ op ∷ []) ≡ lesser_index (least_index ops) (first_index op)
least-more ops op =
    ap (λ (l : List ℕ). fold lesser_index 0 l) (map-append first_index ops (op ∷ []))
    ∙ fold-append lesser_index 0 (map first_index ops) (first_index op ∷ [])

made : QueueId → ℕ → Op → Notice
made id least op = record {
  queue = id;
  term = record { 0 = op_term op };
  first = record { 0 = least };
  last = record { 0 = last_index op };
  op = number op;
}

-- there is a last op
first-by : (id : QueueId) (least : ℕ) (x : Op) (ops : List Op)
    → first_of (option_map (made id least) (last_or (Some x) ops)) ≡ least
unfolding made
first-by id least x [] = refl
first-by id least x (y ∷ ops) = first-by id least y ops

first-is : (id : QueueId) (ops : List Op) → first_of (notice_of id ops) ≡ least_index ops
unfolding made
first-is id [] = refl
first-is id (x ∷ ops) = first-by id (least_index (x ∷ ops)) x ops

notice-more : (id : QueueId) (ops : List Op) (op : Op)
    → note_op id (notice_of id ops) op ≡ notice_of id (ops ++ op ∷ [])
unfolding made
notice-more id ops op =
    ap (λ (n : ℕ). Some (made id (lesser_index n (first_index op)) op)) (first-is id ops)
    ∙ ap (λ (n : ℕ). Some (made id n op)) (sym (least-more ops op))
    ∙ ap (λ (o : Option Op). option_map (made id (least_index (ops ++ op ∷ []))) o) (sym (last-more None ops op))

one : (id : QueueId) (m : Mark) (ops : List Op) (op : Op) → m.queue ≡ id → m.notice ≡ notice_of id (of_queue id.0 ops)
    → ((note_mark op m).queue ≡ id) × ((note_mark op m).notice ≡ notice_of id (of_queue id.0 (ops ++ op ∷ [])))
one id m ops op here told = by (eqb (queue op).0 m.queue.0) refl
  where
    part : List Op
    part = of_queue id.0 ops

    test : (t : Bool) → eqb (queue op).0 m.queue.0 ≡ t
        → of_queue id.0 (ops ++ op ∷ []) ≡ of_queue id.0 ops ++ cond t (op ∷ []) []
    test t e =
        filter-append (λ (o : Op). eqb (queue o).0 id.0) ops (op ∷ [])
        ∙ ap (λ (t : Bool). of_queue id.0 ops ++ cond t (op ∷ []) [])
        (ap (λ (q : QueueId). eqb (queue op).0 q.0) (sym here) ∙ e)

    by : (t : Bool) → eqb (queue op).0 m.queue.0 ≡ t
        → ((cond t (noted op m) m).queue ≡ id)
        × ((cond t (noted op m) m).notice
        ≡ notice_of id (of_queue id.0 (ops ++ op ∷ [])))
    by true e = (
      here,
      ap (λ (q : QueueId). note_op q m.notice op) here ∙ ap (λ (n : Option Notice). note_op id n op) told
          ∙ notice-more id (of_queue id.0 ops) op
          ∙ ap (λ (l : List Op). notice_of id l) (sym (test true e)),
    )
    by false e = (
      here,
      told
          ∙ ap (λ (l : List Op). notice_of id l) (sym (test false e ∙ append-nil (of_queue id.0 ops))),
    )

tell-op : (queues : List QueueId) (marks : List Mark) (ops : List Op) (op : Op) → Tell queues marks ops
    → Tell queues (note_all marks op) (ops ++ op ∷ [])
tell-op [] [] ops op told = tt
tell-op [] (m ∷ marks) ops op told = told
tell-op (q ∷ queues) [] ops op told = told
tell-op (q ∷ queues) (m ∷ marks) ops op told =
    let first = one q m ops op told.0 told.1 in
    (first.0, first.1, tell-op queues marks ops op told.2)

-- a batch more
pub tell-more : (batch : List Op) (queues : List QueueId) (marks : List Mark) (ops : List Op) → Tell queues marks ops
    → Tell queues (fold note_record marks (op_records batch)) (ops ++ batch)
tell-more [] queues marks ops told =
    subst (λ (l : List Op). Tell queues marks l) (sym (append-nil ops)) told
tell-more (op ∷ batch) queues marks ops told =
    subst (λ (l : List Op). Tell queues (fold note_record (note_all marks op) (op_records batch)) l)
    (append_assoc ops (op ∷ []) batch)
    (tell-more batch queues (note_all marks op) (ops ++ op ∷ []) (tell-op queues marks ops op told))

-- the notices are those of the ops
pub tell-notices : (queues : List QueueId) (marks : List Mark) (ops : List Op) → Tell queues marks ops
    → notices_in marks ≡ notices_of queues ops
tell-notices [] [] ops told = refl
tell-notices [] (m ∷ marks) ops told = absurd told
tell-notices (q ∷ queues) [] ops told = absurd told
tell-notices (q ∷ queues) (m ∷ marks) ops told =
    ap (λ (n : Option Notice). option_to_list n ++ notices_in marks) told.1
    ∙ ap (λ (l : List Notice). option_to_list (notice_of q (of_queue q.0 ops)) ++ l) (tell-notices queues marks ops told.2)

-- behind a sync nothing is left to tell
pub tell-none : (queues : List QueueId) (marks : List Mark) (ops : List Op) → Tell queues marks ops
    → Tell queues (map sync_mark marks) []
tell-none [] [] ops told = tt
tell-none [] (m ∷ marks) ops told = told
tell-none (q ∷ queues) [] ops told = told
tell-none (q ∷ queues) (m ∷ marks) ops told = (told.0, refl, tell-none queues marks ops told.2)

pub tell-first : (carries : List Carry) (queues : List QueueId) → Tell queues (map (new_mark carries) queues) []
tell-first carries [] = tt
tell-first carries (q ∷ queues) = (refl, refl, tell-first carries queues)
