-- What the clients hear of a row.
use Rattle.std.proofs.Common.{◌≡◌, ℕ, Bool, true, false, cond, List, [], ◌∷◌, ◌++◌, map, Some, None, refl, sym, ap, ◌∙◌, append_assoc, append-nil}
use Rattle.std.specs.Prelude.{nat_eq}
use Rattle.std.proofs.lemmas.Bool.{cond-true, cond-false}
use Rattle.indexmap.specs.IndexMap.{IndexMap, get}
use Rattle.qq_base.specs.Fronts.{put}
use Rattle.qq_base.specs.Ids.{client}
use Rattle.qq_base.specs.declared.ids.ConsumerId.{ConsumerId}
use Rattle.qq_base.specs.declared.ids.QueueId.{QueueId}
use Rattle.qq_base.specs.declared.ids.SessionId.{SessionId}
use Rattle.qq_consuming.specs.Consumers.{come, taken}
use Rattle.qq_consuming.specs.Consuming.{Received}
use Rattle.qq_entry.specs.declared.answer.Delivery.{Delivery}
use Rattle.qq_entry.specs.declared.audit.AuditRow.{AuditRow}
use Rattle.qq_entry.specs.declared.audit.Effect.{Effect}
use Rattle.qq_entry.specs.declared.audit.Effect.TheVariants.{Deliver, DeadOnce, Offer}
use Rattle.qq_session.specs.Publishing.{Numbers, answer, closes, new_numbers}
use Rattle.qq_session.specs.Clients.{Client, Clients, hear_all, hear_by, is_printed, printed, take_answer}
use Rattle.qq_session.specs.declared.shown.Shown.{Shown}
use Rattle.qq_session.specs.declared.shown.Shown.TheVariants.{Answered}
use Rattle.qq_session.specs.Shown.{is_delivered_to}
use Rattle.qq_taker.specs.declared.handed.Handed.{Handed}
use Rattle.qq_taker.specs.declared.seats.Seat.{Seat}
use Rattle.qq_cluster_model.specs.Delivering.{come_all, comes, hand_all, hands}
use Rattle.qq_cluster_model.specs.Taking.{answers, dropped_by, leaving_at, seated, seated_by}
use Rattle.qq_queue.specs.Waiting.{handed_to}
use Rattle.qq_queue.specs.Sessions.{Standings, clients_of}
use Rattle.qq_queue.proofs.Known.{absent-at, at, put-itself}
use Rattle.qq_queue.proofs.Offering.{put-numbers}
use Rattle.qq_entry.specs.Command.{seq_of}

-- ---- one row

-- an answer means nothing to a new session
pub new-deaf : (session : SessionId) (queue : QueueId) (row : AuditRow)
    → answer (seq_of row.entry.command) row.answer (new_numbers session queue) ≡ new_numbers session queue
new-deaf session queue row = by (closes row.answer) refl
  where
    by : (b : Bool) → closes row.answer ≡ b
        → answer (seq_of row.entry.command) row.answer (new_numbers session queue) ≡ new_numbers session queue
    by true is = rw is refl
    by false is = rw is refl

-- a session that is muted hears nothing
pub muted-deaf : (sessions : Standings) (numbers : ℕ → Numbers) (session : ℕ) (row : AuditRow)
    → (sessions session).muted ≡ true
    → hear_by (Some session) row (clients_of sessions numbers) ≡ clients_of sessions numbers
muted-deaf sessions numbers session row muted =
    let clients : Clients = clients_of sessions numbers in
    let c : Client = clients session in
    put-itself session (take_answer row c) clients
    (cond-true (sessions session).muted c
    (record c { numbers = answer (seq_of row.entry.command) row.answer c.numbers }) muted)

-- another one takes the answer
pub heard-by : (sessions : Standings) (numbers next : ℕ → Numbers) (session : ℕ) (row : AuditRow)
    → (sessions session).muted ≡ false
    → next ≡ put session (answer (seq_of row.entry.command) row.answer (numbers session)) numbers
    → clients_of sessions next ≡ hear_by (Some session) row (clients_of sessions numbers)
heard-by sessions numbers next session row loud is =
    let clients : Clients = clients_of sessions numbers in
    let c : Client = clients session in
    let n : Numbers = answer (seq_of row.entry.command) row.answer (numbers session) in
    ap (clients_of sessions) is ∙ sym (put-numbers sessions session n numbers)
    ∙ ap (λ (x : Client). put session x clients)
    (sym (cond-false (sessions session).muted c (record c { numbers = n }) loud))

-- one that isn't known has no open number
pub absent-hears : {S : Type 0} (sessions : Standings) (queue : QueueId) (session : ℕ) (m n : IndexMap ℕ Numbers S)
    (numbers : ℕ → Numbers) (row : AuditRow) → (sessions session).muted ≡ false → None ≡ get nat_eq m session
    → at (λ k. new_numbers (client k) queue) m.entries ≡ numbers → n ≡ m
    → clients_of sessions (at (λ k. new_numbers (client k) queue) n.entries)
    ≡ hear_by (Some session) row (clients_of sessions numbers)
absent-hears {S} sessions queue session m n numbers row loud none view same =
    let new : ℕ → Numbers = λ k. new_numbers (client k) queue in
    let own : numbers session ≡ new session = absent-at new session m numbers none view in
    let taken : ℕ → Numbers → Numbers = λ k x. answer (seq_of row.entry.command) row.answer x in
    let deaf : answer (seq_of row.entry.command) row.answer (numbers session) ≡ numbers session =
    ap (taken 0) own ∙ new-deaf (client session) queue row ∙ sym own in
    heard-by sessions numbers (at new n.entries) session row loud
    (ap (λ (x : IndexMap ℕ Numbers S). at new x.entries) same ∙ view
    ∙ sym (put-itself session (answer (seq_of row.entry.command) row.answer (numbers session)) numbers deaf))

-- ---- rows one after the other

-- one row, and then the others
pub printed-then : (row : AuditRow) (rows : List AuditRow) (clients next : Clients) → next ≡ hear_all (row ∷ []) clients
    → printed (row ∷ rows) clients ≡ printed (row ∷ []) clients ++ printed rows next
printed-then row rows clients next is =
    let own : List AuditRow = cond (is_printed clients row) (row ∷ []) [] in
    ap (λ (all : Clients). own ++ printed rows all) (sym is)
    ∙ ap (λ (l : List AuditRow). l ++ printed rows next) (sym (append-nil own))

pub seated-append : (first rest : List AuditRow) (seats : List Seat)
    → seated seats (first ++ rest) ≡ seated (seated seats first) rest
seated-append [] rest seats = refl
seated-append (row ∷ first) rest seats = seated-append first rest (seated_by (leaving_at row) seats)

pub answers-append : (first rest : List AuditRow) (seats : List Seat)
    → answers seats (first ++ rest) ≡ answers seats first ++ answers (seated seats first) rest
answers-append [] rest seats = refl
answers-append (row ∷ first) rest seats =
    let next : List Seat = seated_by (leaving_at row) seats in
    ap (λ (l : List Shown). Answered row ∷ dropped_by (leaving_at row) seats ++ l) (answers-append first rest next)
    ∙ ap (λ (l : List Shown). Answered row ∷ l)
    (sym (append_assoc (dropped_by (leaving_at row) seats) (answers next first) (answers (seated next first) rest)))

-- ---- effects one after the other

-- what comes, and what is handed out, doesn't depend on the sessions' numbers
come-same : (sessions : Standings) (m n : ℕ → Numbers) (effects : List Effect) (all : List Received)
    → come_all (clients_of sessions m) effects all ≡ come_all (clients_of sessions n) effects all
come-same sessions m n [] all = refl
come-same sessions m n (Deliver consumer delivery ∷ effects) all =
    come-same sessions m n effects (comes (clients_of sessions m) (Deliver consumer delivery) all)
come-same sessions m n (DeadOnce reason letter ∷ effects) all = come-same sessions m n effects all
come-same sessions m n (Offer number reason letter ∷ effects) all = come-same sessions m n effects all

pub hand-same : (sessions : Standings) (m n : ℕ → Numbers) (effects : List Effect) (all : List Received)
    → hand_all (clients_of sessions m) effects all ≡ hand_all (clients_of sessions n) effects all
hand-same sessions m n [] all = refl
hand-same sessions m n (Deliver consumer delivery ∷ effects) all =
    ap (λ (l : List Handed). hands (clients_of sessions m) (Deliver consumer delivery) all ++ l)
    (hand-same sessions m n effects (comes (clients_of sessions m) (Deliver consumer delivery) all))
hand-same sessions m n (DeadOnce reason letter ∷ effects) all = hand-same sessions m n effects all
hand-same sessions m n (Offer number reason letter ∷ effects) all = hand-same sessions m n effects all

pub came-then : (sessions : Standings) (m n : ℕ → Numbers) (effects : List Effect) (old new : List Received)
    → new ≡ come_all (clients_of sessions m) effects old → new ≡ come_all (clients_of sessions n) effects old
came-then sessions m n effects old new is = is ∙ come-same sessions m n effects old

-- some effects, and then the others
pub come-append : (clients : Clients) (first rest : List Effect) (all : List Received)
    → come_all clients (first ++ rest) all ≡ come_all clients rest (come_all clients first all)
come-append clients [] rest all = refl
come-append clients (effect ∷ first) rest all = come-append clients first rest (comes clients effect all)

pub hand-append : (clients : Clients) (first rest : List Effect) (all : List Received)
    → hand_all clients (first ++ rest) all
    ≡ hand_all clients first all ++ hand_all clients rest (come_all clients first all)
hand-append clients [] rest all = refl
hand-append clients (effect ∷ first) rest all =
    ap (λ (l : List Handed). hands clients effect all ++ l) (hand-append clients first rest (comes clients effect all))
    ∙ sym (append_assoc (hands clients effect all) (hand_all clients first (comes clients effect all))
    (hand_all clients rest (come_all clients first (comes clients effect all))))

-- a delivery to a session that gets it
pub comes-here : (sessions : Standings) (consumer : ConsumerId) (delivery : Delivery) (here : Bool)
    → ((numbers : ℕ → Numbers) → here ≡ is_delivered_to (clients_of sessions numbers) consumer.session)
    → here ≡ true → (numbers : ℕ → Numbers) (all : List Received)
    → comes (clients_of sessions numbers) (Deliver consumer delivery) all ≡ come consumer delivery all
comes-here sessions consumer delivery here is own numbers all =
    cond-true (is_delivered_to (clients_of sessions numbers) consumer.session) (come consumer delivery all) all
    (sym (is numbers) ∙ own)

pub hands-here : (sessions : Standings) (consumer : ConsumerId) (delivery : Delivery) (here : Bool)
    → ((numbers : ℕ → Numbers) → here ≡ is_delivered_to (clients_of sessions numbers) consumer.session)
    → here ≡ true → (numbers : ℕ → Numbers) (all : List Received)
    → hands (clients_of sessions numbers) (Deliver consumer delivery) all
    ≡ map (handed_to consumer) (taken consumer delivery all)
hands-here sessions consumer delivery here is own numbers all =
    cond-true (is_delivered_to (clients_of sessions numbers) consumer.session)
    (map (handed_to consumer) (taken consumer delivery all)) [] (sym (is numbers) ∙ own)

-- and to another
pub comes-away : (sessions : Standings) (consumer : ConsumerId) (delivery : Delivery) (here : Bool)
    → ((numbers : ℕ → Numbers) → here ≡ is_delivered_to (clients_of sessions numbers) consumer.session)
    → here ≡ false → (numbers : ℕ → Numbers) (all : List Received)
    → comes (clients_of sessions numbers) (Deliver consumer delivery) all ≡ all
comes-away sessions consumer delivery here is away numbers all =
    cond-false (is_delivered_to (clients_of sessions numbers) consumer.session) (come consumer delivery all) all
    (sym (is numbers) ∙ away)

pub hands-away : (sessions : Standings) (consumer : ConsumerId) (delivery : Delivery) (here : Bool)
    → ((numbers : ℕ → Numbers) → here ≡ is_delivered_to (clients_of sessions numbers) consumer.session)
    → here ≡ false → (numbers : ℕ → Numbers) (all : List Received)
    → hands (clients_of sessions numbers) (Deliver consumer delivery) all ≡ []
hands-away sessions consumer delivery here is away numbers all =
    cond-false (is_delivered_to (clients_of sessions numbers) consumer.session)
    (map (handed_to consumer) (taken consumer delivery all)) [] (sym (is numbers) ∙ away)
