-- Setups may be run: those of exports, and those of queues without arguments.
use Rattle.std.proofs.Common.{◌≡◌, ◌<◌, ◌≤◌, ◌+◌, ◌-◌, ◌^◌, ◌++◌, ◌&&◌, ◌||◌, ◌∙◌, ℕ, zero, suc, Bool, true, false, List, [], ◌∷◌, Option, Some, None, Result, Ok, Err, length, map, refl, sym, ap, subst, inl, inr, arith, if◌then◌else◌}
use Rattle.std.specs.Prelude.{All, IfOk, codes, fold, is_some, min, nat_le, nat_lt, option_map}
use Rattle.std.specs.Fmt.{decimal}
use Rattle.std.specs.List.{range_with_len}
use Rattle.std.specs.Ordering.{nat_cmp}
use Rattle.std.specs.Str.{bytes_eq}
use Rattle.std.proofs.Math.Nat.{min-eq_left, min-le_left, min-le_right}
use Rattle.std.proofs.lemmas.Bool.{and_parts, cases_lt, cond_both, leb-true, ltb-false}
use Rattle.std.proofs.lemmas.Fmt.{length-decimal-le}
use Rattle.std.proofs.lemmas.List.Elements.{All-nil, All-weaker}
use Rattle.std.proofs.lemmas.Map.Views.{All-insert_key}
use Rattle.std.proofs.lemmas.Result.{IfOk-at_ok}
use Rattle.serde_json.specs.Data.{Data, Items, Members, no_items, item}
use Rattle.serde_json.specs.Find.{as_object, get}
use Rattle.qq_base.specs.declared.ids.QueueId.{QueueId}
use Rattle.qq_entry.specs.declared.limits.TheConstants.{KEY_LIMIT}
use Rattle.qq_entry.specs.declared.queue.QueueArgs.{QueueArgs}
use Rattle.qq_route.specs.declared.exchange.Binding.{Binding}
use Rattle.qq_route.specs.declared.exchange.ExchangeKind.{ExchangeKind}
use Rattle.qq_route.specs.Routes.{ExchangeState, Table, add_exchange, bind, is_bindable, new_table, same_kind}
use Rattle.qq_route.specs.declared.queue_row.QueueRow.{QueueRow}
use Rattle.qq_route.specs.Members.{member, members}
use Rattle.qq_route.specs.Setup.{SetupState, declare as declare_row, plain_row, plain_rows, plain_setup}
use Rattle.qq_defs.specs.declared.definitions.TheConstants.{QUEUES_LIMIT}
use Rattle.qq_defs.specs.declared.fault.DefsFault.{DefsFault}
use Rattle.qq_defs.specs.declared.fault.DefsFault.TheVariants.{Unsupported}
use Rattle.qq_defs.specs.declared.fields.Place.{Place}
use Rattle.qq_defs.specs.declared.fields.Section.{Section}
use Rattle.qq_defs.specs.declared.fields.Section.TheVariants.{Queues, Exchanges, Bindings}
use Rattle.qq_defs.specs.Arguments.{args_of, check_arguments, queue_args}
use Rattle.qq_defs.specs.Definitions.{as_setup, check_policies, definitions, document, elements, first_state, is_there, list_of, object_defs, place, read_setup, with_section, within_limit}
use Rattle.qq_defs.specs.Draft.{DraftState, Names, before, count_other, declare, more, next_queue, skip}
use Rattle.qq_defs.specs.Elements.{add_or_find, bind_queue, element_at, is_name, is_quorum, keyed_binding, kind_of, named_binding, named_exchange, named_queue, own_binding, own_by, own_element, own_exchange, own_queue, quorum_queue}
use Rattle.qq_defs.specs.Reading.{◌>>=◌, flag_at, object_at, required, text_at, vhost_at}
use Rattle.qq_defs.specs.Runnable.{AreQueuesAfter, IsNumber, IsQueueAfter, IsRunnable}

-- ---- lists of queues

-- one more at the end
one-more : (nodes before : ℕ) (rows : List QueueRow) (row : QueueRow) → AreQueuesAfter nodes before rows
    → IsQueueAfter nodes (before + length rows) row → AreQueuesAfter nodes before (rows ++ row ∷ [])
one-more nodes before [] row are is =
    let same : before + 0 ≡ before = omega arith in
    (subst (λ (n : ℕ). IsQueueAfter nodes n row) same is, tt)
one-more nodes before (first ∷ rows) row are is =
    let same : before + suc (length rows) ≡ before + 1 + length rows = omega arith in
    (are.0, one-more nodes (before + 1) rows row are.1 (subst (λ (n : ℕ). IsQueueAfter nodes n row) same is))

longer : (rows : List QueueRow) (row : QueueRow) → length (rows ++ row ∷ []) ≡ length rows + 1
longer [] row = refl
longer (first ∷ rows) row =
    let same : suc (length rows + 1) ≡ suc (length rows) + 1 = omega arith in ap suc (longer rows row) ∙ same

-- ---- setups without arguments

-- a size that is cut to the number of nodes gives the same members
least-twice : (group nodes : ℕ) → min (min group nodes) nodes ≡ min group nodes
least-twice group nodes = min-eq_left (min-le_right group nodes)

plain-queue : (nodes group before : ℕ) → before + 1 < 2 ^ 32 → IsQueueAfter nodes before (plain_row nodes group before)
plain-queue nodes group before few = record {
  number = refl;
  members_are = ap (λ (n : ℕ). map (member nodes before) (range_with_len 0 n)) (sym (least-twice group nodes));
  named =
      let short : length (decimal (before + 1)) ≤ 10 =
      length-decimal-le 10 (before + 1) (omega arith) (omega (arith, few)) (omega (arith, few)) in
      omega (arith, short);
}

plain-queues : (nodes group a n : ℕ) → a + n < 2 ^ 32
    → AreQueuesAfter nodes a (map (plain_row nodes group) (range_with_len a n))
plain-queues nodes group a zero few = tt
plain-queues nodes group a (suc n) few =
    (plain-queue nodes group a (omega (arith, few)), plain-queues nodes group (a + 1) n (omega (arith, few)))

plain-length : (nodes group a n : ℕ) → length (map (plain_row nodes group) (range_with_len a n)) ≡ n
plain-length nodes group a zero = refl
plain-length nodes group a (suc n) = ap suc (plain-length nodes group (a + 1) n)

plain-routed : (nodes group a n count : ℕ) (t : Table) → a + n ≤ count → All (IsNumber count) t.queues
    → All (IsNumber count) (fold declare_row t (map (plain_row nodes group) (range_with_len a n))).queues
plain-routed nodes group a zero count t most are = are
plain-routed nodes group a (suc n) count t most are =
    plain-routed nodes group (a + 1) n count (declare_row t (plain_row nodes group a)) (omega (arith, most))
    (All-insert_key nat_cmp (a + 1) (IsNumber count) t.queues are (omega arith, omega (arith, most)))

pub plain-runnable : (nodes group count log_bytes : ℕ) → 0 < nodes → nodes ≤ 7 → count < 2 ^ 32
    → IsRunnable (plain_setup nodes group count log_bytes)
plain-runnable nodes group count log_bytes some few within =
    let long : length (plain_rows nodes group count) ≡ count = plain-length nodes group 0 count in
    record {
      some = some;
      few = few;
      within = omega (arith, long, within);
      queues_are = plain-queues nodes group 0 count (omega (arith, within));
      routed = plain-routed nodes group 0 count (length (plain_rows nodes group count)) new_table (omega (arith, long))
          (All-nil (IsNumber (length (plain_rows nodes group count))));
    }

-- ---- exports

if-next : {A B : Type 0} (P : B → Type 0) (r : Result A DefsFault) (f : A → Result B DefsFault)
    → ((x : A) → r ≡ Ok x → IfOk (f x) P) → IfOk (r >>= f) P
if-next P (Ok x) f then' = then' x refl
if-next P (Err fault) f then' = tt

-- what was read so far, as long as it isn't too much
record IsSoFar (nodes : ℕ) (s : DraftState) : Type 0 where
  count : length s.rows ≡ s.made.queues
  queues_are : AreQueuesAfter nodes 0 s.rows
  routed : All (IsNumber (length s.rows)) s.table.queues

abbrev MayGoOn : ℕ → DraftState → Type 0
MayGoOn nodes s = s.made.queues ≤ QUEUES_LIMIT → IsSoFar nodes s

abbrev GoesOn : ℕ → Result DraftState DefsFault → Type 0
GoesOn nodes read = IfOk read (MayGoOn nodes)

-- the numbers of the queues are as they were
goes-on : (nodes : ℕ) (s t : DraftState) → MayGoOn nodes s → t.rows ≡ s.rows → t.made.queues ≡ s.made.queues
    → t.table.queues ≡ s.table.queues → MayGoOn nodes t
goes-on nodes s t so rows made table few =
    let was = so (omega (arith, made, few)) in
    record {
      count = ap length rows ∙ was.count ∙ sym made;
      queues_are = subst (AreQueuesAfter nodes 0) (sym rows) was.queues_are;
      routed =
          subst (λ (l : List QueueRow). All (IsNumber (length l)) t.table.queues) (sym rows)
          (subst (All (IsNumber (length s.rows))) (sym table) was.routed);
    }

declared : (nodes : ℕ) (name : List ℕ) (args : QueueArgs) (s : DraftState) → length name ≤ KEY_LIMIT
    → args.queue ≡ next_queue s → MayGoOn nodes s → MayGoOn nodes (declare nodes name args s)
unfolding declare
declared nodes name args s short own so few =
    let m = s.made.queues in
    let fewer : m + 1 ≤ 1024 = elim (cases_lt m 1024) [
      | inl lt ↦ omega (arith, lt)
      | inr ge ↦ absurd (omega (arith, few, ge))
    ] in
    let was = so (omega (arith, fewer)) in
    let first : before s ≡ m = min-eq_left (omega (arith, fewer)) in
    let more_is : more m ≡ m + 1 = min-eq_left (omega (arith, fewer)) in
    let row : QueueRow = record { name = name; args = args; members = members nodes args.group (before s) } in
    let long : length (s.rows ++ row ∷ []) ≡ length s.rows + 1 = longer s.rows row in
    let numbered : args.queue.0 ≡ length s.rows + 1 = ap (λ (q : QueueId). q.0) own ∙ ap (λ (n : ℕ). n + 1) (first ∙ sym was.count) in
    record {
      count = long ∙ ap (λ (n : ℕ). n + 1) was.count ∙ sym more_is;
      queues_are = one-more nodes 0 s.rows row was.queues_are
          (record {
            number = omega (arith, numbered);
            members_are =
                let here : before s ≡ 0 + length s.rows = omega (arith, first, was.count) in
                ap (λ (n : ℕ). members nodes args.group n) here;
            named = short;
          });
      routed =
          All-insert_key nat_cmp args.queue.0 (IsNumber (length (s.rows ++ row ∷ []))) s.table.queues
          (All-weaker (IsNumber (length s.rows)) (IsNumber (length (s.rows ++ row ∷ [])))
          (λ n is. (is.0, omega (arith, is.1, long))) s.table.queues was.routed)
          (omega (arith, numbered), omega (arith, numbered, long));
    }

args-own : (nodes : ℕ) (queue : QueueId) (d : Data) → IfOk (queue_args nodes queue d) (λ args. args.queue ≡ queue)
unfolding queue_args args_of
args-own nodes queue d = by (as_object d) refl
  where
    by : (o : Option Members) → as_object d ≡ o → IfOk (queue_args nodes queue d) (λ args. args.queue ≡ queue)
    by None is = rw is tt
    by (Some fields) is = rw is (if-next _ (check_arguments fields) _ (λ x fine. refl))

quorum-goes : (nodes : ℕ) (name : List ℕ) (durable auto : Bool) (d : Data) (s : DraftState) → MayGoOn nodes s
    → GoesOn nodes (quorum_queue nodes name durable auto d s)
unfolding quorum_queue
quorum-goes nodes name durable auto d s so =
    cond_both (is_name name) _ _ (GoesOn nodes)
    (λ named.
    cond_both durable _ _ (GoesOn nodes)
    (λ lasts.
    cond_both auto _ _ (GoesOn nodes) (λ goes. tt)
    (λ stays.
    if-next (MayGoOn nodes) (queue_args nodes (next_queue s) d) _
    (λ args is.
    declared nodes name args s (leb-true (length name) KEY_LIMIT (and_parts _ _ named).1)
    (IfOk-at_ok (λ (args : QueueArgs). args.queue ≡ next_queue s) is (args-own nodes (next_queue s) d)) so)))
    (λ ends. tt))
    (λ unnamed. tt)

named-goes : (nodes : ℕ) (name : List ℕ) (durable auto : Bool) (d : Data) (s : DraftState) → MayGoOn nodes s
    → GoesOn nodes (named_queue nodes name durable auto d s)
unfolding named_queue skip
named-goes nodes name durable auto d s so =
    cond_both (is_some (s.names name)) _ _ (GoesOn nodes) (λ there. tt)
    (λ new.
    if-next (MayGoOn nodes) (is_quorum d) _
    (λ quorum is.
    cond_both quorum _ _ (GoesOn nodes) (λ own. quorum-goes nodes name durable auto d s so)
    (λ other. goes-on nodes s (skip name s) so refl refl refl)))

queue-goes : (nodes : ℕ) (at : Place) (d : Data) (s : DraftState) → MayGoOn nodes s
    → GoesOn nodes (own_queue nodes at d s)
unfolding own_queue
queue-goes nodes at d s so =
    if-next (MayGoOn nodes) (text_at at (codes "name") d) _ (λ name is.
    if-next (MayGoOn nodes) (flag_at at (codes "durable") d) _ (λ durable is1.
    if-next (MayGoOn nodes) (flag_at at (codes "auto_delete") d) _ (λ auto is2.
    if-next (MayGoOn nodes) (object_at at (codes "arguments") d) _ (λ arguments is3.
    named-goes nodes name durable auto arguments s so))))

found-goes : (nodes : ℕ) (name : List ℕ) (kind : ExchangeKind) (o : Option ExchangeKind) (s : DraftState)
    → MayGoOn nodes s → GoesOn nodes (add_or_find name kind o s)
found-goes nodes name kind None s so = goes-on nodes s _ so refl refl refl
found-goes nodes name kind (Some there) s so =
    cond_both (same_kind there kind) _ _ (GoesOn nodes) (λ same. so) (λ other. tt)

exchange-goes : (nodes : ℕ) (at : Place) (d : Data) (s : DraftState) → MayGoOn nodes s
    → GoesOn nodes (own_exchange at d s)
unfolding own_exchange named_exchange
exchange-goes nodes at d s so =
    if-next (MayGoOn nodes) (text_at at (codes "name") d) _ (λ name is.
    if-next (MayGoOn nodes) (text_at at (codes "type") d) _ (λ type is1.
    if-next (MayGoOn nodes) (required (Unsupported type) (kind_of type)) _ (λ kind is2.
    cond_both (is_name name) _ _ (GoesOn nodes)
    (λ named.
    found-goes nodes name kind (option_map (λ (e : ExchangeState). e.kind) (s.table.exchanges name)) s so)
    (λ unnamed. tt))))

bound-queues : (t : Table) (source : List ℕ) (b : Binding) → (bind t source b).queues ≡ t.queues
bound-queues t [] b = refl
bound-queues t (c ∷ cs) b = refl

bind-goes : (nodes : ℕ) (source destination key : List ℕ) (o : Option (Option QueueId)) (s : DraftState)
    → MayGoOn nodes s → GoesOn nodes (bind_queue source destination key o s)
bind-goes nodes source destination key None s so =
    cond_both (is_bindable s.table source) _ _ (GoesOn nodes) (λ there. tt) (λ isnt. tt)
bind-goes nodes source destination key (Some None) s so = goes-on nodes s _ so refl refl refl
bind-goes nodes source destination key (Some (Some queue)) s so =
    cond_both (is_bindable s.table source) _ _ (GoesOn nodes)
    (λ there. goes-on nodes s _ so refl refl (bound-queues s.table source (record { queue = queue; key = key })))
    (λ isnt. tt)

keyed-goes : (nodes : ℕ) (at : Place) (type source destination : List ℕ) (d : Data) (s : DraftState) → MayGoOn nodes s
    → GoesOn nodes (keyed_binding at type source destination d s)
unfolding keyed_binding named_binding
keyed-goes nodes at type source destination d s so =
    if-next (MayGoOn nodes) (text_at at (codes "routing_key") d) _ (λ key is.
    cond_both (bytes_eq type (codes "queue")) _ _ (GoesOn nodes)
    (λ queue. bind-goes nodes source destination key (s.names destination) s so) (λ other. tt))

binding-goes : (nodes : ℕ) (at : Place) (d : Data) (s : DraftState) → MayGoOn nodes s
    → GoesOn nodes (own_binding at d s)
unfolding own_binding
binding-goes nodes at d s so =
    if-next (MayGoOn nodes) (text_at at (codes "source") d) _ (λ source is.
    if-next (MayGoOn nodes) (text_at at (codes "destination") d) _ (λ destination is1.
    if-next (MayGoOn nodes) (text_at at (codes "destination_type") d) _ (λ type is2.
    keyed-goes nodes at type source destination d s so)))

own-goes : (section : Section) (nodes : ℕ) (at : Place) (d : Data) (s : DraftState) → MayGoOn nodes s
    → GoesOn nodes (own_by section nodes at d s)
own-goes Queues nodes at d s so = queue-goes nodes at d s so
own-goes Exchanges nodes at d s so = exchange-goes nodes at d s so
own-goes Bindings nodes at d s so = binding-goes nodes at d s so

element-goes : (nodes : ℕ) (at : Place) (d : Data) (s : DraftState) → MayGoOn nodes s
    → GoesOn nodes (element_at nodes at d s)
unfolding element_at own_element
element-goes nodes at d s so =
    if-next (MayGoOn nodes) (vhost_at at d) _ (λ vhost is.
    cond_both (bytes_eq vhost (codes "/")) _ _ (GoesOn nodes)
    (λ own. own-goes at.section nodes at d s so) (λ other. goes-on nodes s (count_other s) so refl refl refl))

elements-go : (nodes : ℕ) (section : Section) (n : ℕ) (ds : Items) (s : DraftState) → MayGoOn nodes s
    → GoesOn nodes (elements nodes section n ds s)
elements-go nodes section n no_items s so = so
elements-go nodes section n (item d ds) s so =
    if-next (MayGoOn nodes) (element_at nodes (place section n) d s) _ (λ t is.
    elements-go nodes section (n + 1) ds t
    (IfOk-at_ok (MayGoOn nodes) is (element-goes nodes (place section n) d s so)))

section-goes : (nodes : ℕ) (section : Section) (d : Data) (s : DraftState) → MayGoOn nodes s
    → GoesOn nodes (with_section nodes section d s)
unfolding with_section
section-goes nodes section d s so =
    if-next (MayGoOn nodes) (list_of section d) _ (λ list is. elements-go nodes section 0 list s so)

-- no more than there may be
abbrev IsRead : ℕ → DraftState → Type 0
IsRead nodes s = (s.made.queues ≤ QUEUES_LIMIT) × IsSoFar nodes s

abbrev Reads : ℕ → Result DraftState DefsFault → Type 0
Reads nodes read = IfOk read (IsRead nodes)

limit-goes : (nodes : ℕ) (s : DraftState) → MayGoOn nodes s → IfOk (within_limit s) (IsRead nodes)
unfolding within_limit
limit-goes nodes s so =
    cond_both (nat_lt QUEUES_LIMIT s.made.queues) _ _ (Reads nodes) (λ many. tt)
    (λ few. let most = ltb-false QUEUES_LIMIT s.made.queues few in (most, so most))

first-goes : (nodes : ℕ) → MayGoOn nodes first_state
first-goes nodes few = record { count = refl; queues_are = tt; routed = All-nil (IsNumber 0) }

object-read : (ignore : Bool) (nodes : ℕ) (d : Data) → IfOk (object_defs ignore nodes d) (IsRead nodes)
unfolding object_defs
object-read ignore nodes d =
    if-next (IsRead nodes) (check_policies ignore d) _ (λ fine is.
    if-next (IsRead nodes) (with_section nodes Queues d first_state) _ (λ a is-a.
    let so = IfOk-at_ok (MayGoOn nodes) is-a (section-goes nodes Queues d first_state (first-goes nodes)) in
    if-next (IsRead nodes) (with_section nodes Exchanges d a) _ (λ b is-b.
    let so-b = IfOk-at_ok (MayGoOn nodes) is-b (section-goes nodes Exchanges d a so) in
    if-next (IsRead nodes) (with_section nodes Bindings d b) _ (λ c is-c.
    limit-goes nodes c (IfOk-at_ok (MayGoOn nodes) is-c (section-goes nodes Bindings d b so-b))))))

read-runs : (nodes log_bytes : ℕ) (r : Result DraftState DefsFault) (s : SetupState) → 0 < nodes → nodes ≤ 7
    → IfOk r (IsRead nodes) → as_setup nodes log_bytes r ≡ Ok s → IsRunnable s
read-runs nodes log_bytes (Err fault) s some few so is = absurd cc
read-runs nodes log_bytes (Ok draft) s some few (least, so) is =
    let own : SetupState = record {
      nodes = nodes;
      queues = draft.rows;
      table = draft.table;
      log_bytes = log_bytes;
      made = Some draft.made;
    } in
    let same : own ≡ s = cc in
    subst IsRunnable same
    (record {
      some = some;
      few = few;
      within = omega (arith, so.count, least);
      queues_are = so.queues_are;
      routed = so.routed;
    })

defined-read : (ignore : Bool) (nodes : ℕ) (d : Data) → IfOk (definitions ignore nodes d) (IsRead nodes)
unfolding definitions
defined-read ignore nodes d =
    cond_both (is_there (as_object d)) _ _ (Reads nodes) (λ there. object-read ignore nodes d)
    (λ isnt. tt)

document-runs : (ignore : Bool) (nodes log_bytes : ℕ) (o : Option Data) (s : SetupState) → 0 < nodes → nodes ≤ 7
    → read_setup ignore nodes log_bytes o ≡ Ok s → IsRunnable s
document-runs ignore nodes log_bytes None s some few is = absurd cc
document-runs ignore nodes log_bytes (Some d) s some few is =
    read-runs nodes log_bytes (definitions ignore nodes d) s some few (defined-read ignore nodes d) is

pub read-runnable : (ignore : Bool) (nodes log_bytes : ℕ) (bytes : List ℕ) (s : SetupState) → 0 < nodes → nodes ≤ 7
    → read_setup ignore nodes log_bytes (document bytes) ≡ Ok s → IsRunnable s
read-runnable ignore nodes log_bytes bytes s some few is =
    document-runs ignore nodes log_bytes (document bytes) s some few is
