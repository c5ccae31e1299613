-- What a line that is read says: it names queues and nodes of the setup and clients' sessions, and its command is in range.
use Rattle.std.proofs.Common.{◌≡◌, ◌≤◌, ◌<◌, ◌^◌, ◌+◌, ◌-◌, ℕ, zero, suc, Bool, true, false, cond, List, [], ◌∷◌, Option, Some, None, Result, Ok, Err, length, map, refl, sym, ap, subst, ◌∙◌, ◌||◌, ◌==◌, inl, inr, arith}
use Rattle.std.specs.Prelude.{nat_le, nat_lt, slice_get, Contains, codes, IfOk, IfSome}
use Rattle.std.specs.List.{AllByRecursion, find, list_any, range_with_len, slice_split}
use Rattle.std.specs.Option.{option_map, option_and_then}
use Rattle.std.specs.Str.{bytes_eq}
use Rattle.std.proofs.lemmas.Bool.{and_parts, cases_Bool, cases_lt, eqb-true, false≢true, leb-true, ltb-false, cond_both}
use Rattle.std.proofs.lemmas.List.Elements.{All-from_recursion}
use Rattle.std.proofs.lemmas.List.Splits.{length-slice_split}
use Rattle.std.proofs.lemmas.Result.{IfOk-weaker}
use Rattle.qq_base.proofs.Lists.{In, In-map, find-in}
use Rattle.qq_base.specs.Ids.{client}
use Rattle.qq_base.specs.declared.ids.NodeId.{NodeId}
use Rattle.qq_base.specs.declared.ids.QueueId.{QueueId}
use Rattle.qq_base.specs.declared.ids.SessionId.{SessionId}
use Rattle.qq_entry.specs.declared.limits.TheConstants.{BODY_LIMIT, KEY_LIMIT, IDS_LIMIT}
use Rattle.qq_entry.specs.Range.{IsPositive, AreIds}
use Rattle.qq_route.specs.declared.queue_row.QueueRow.{QueueRow}
use Rattle.qq_route.specs.declared.setup.Setup.{Setup}
use Rattle.qq_script_lines.specs.declared.fault.ScriptFault.{ScriptFault}
use Rattle.qq_script_lines.specs.declared.fault.ScriptFault.TheVariants.{NoSuch, Number, Words, TooLong, Session, Body}
use Rattle.qq_script_lines.specs.declared.line.TheConstants.{LINE_LIMIT}
use Rattle.qq_script_lines.specs.declared.line.Place.{Place}
use Rattle.qq_script_lines.specs.declared.line.ScriptLine.{ScriptLine}
use Rattle.qq_script_lines.specs.declared.line.ScriptLine.TheVariants as lines
use Rattle.qq_script_lines.specs.Bodies.{limited, body_of}
use Rattle.qq_script_lines.specs.Arguments.{attach, attach_to, consumer_of, is_written, publish, one_message, queue_of, first_queue, no_word, one_session, one_queue, one_node, nodes_of, some_nodes, served_at, queue_at, one_member, crash, key_of, send}
use Rattle.qq_script_lines.specs.Commands.{bare, bare_or_none, one_tag, deliveries, subscribe, is_drain, amount_of, credit, plain_command, command_of, client_at, client_line}
use Rattle.qq_script_lines.specs.Images.{image_of}
use Rattle.qq_script_lines.specs.Lines.{is_nothing, publish_text, node_line, plain_line, or_client, read, may_stand, in_place, read_words, text_in, read_text, read_bytes, parse_line}
use Rattle.qq_script_lines.specs.Names.{named, numbered, behind_hash, first_of, row_of, row_at as row_by, node_by, node_of, is_member}
use Rattle.qq_script_lines.specs.Numbers.{is_number, number_in, number_of, session_of, tag_of, place_of as place_of_message, id_of, with_first, all_ids, is_comma, ids_of, within, is_within}
use Rattle.qq_script_lines.specs.Words.{◌>>=◌, make, or_fault, text_of, behind_four, words_of}
use Rattle.qq_cluster_run.specs.Named.{AreNodes, AreRows, IsBody, IsClient, IsNamed}
use Rattle.qq_cluster_run.specs.Reading.{at_line, read_line}
use Rattle.qq_cluster_run.specs.Setup.{Logs, cluster_over, first_place, members_by, name_by, place_of, row_at}

-- ---- one step after another

-- what is true of the first step leads to what is true of the next
ok_then : {A B : Type 0} (Q : A → Type 0) (P : B → Type 0) (r : Result A ScriptFault)
    (f : A → Result B ScriptFault) → IfOk r Q → ((x : A) → Q x → IfOk (f x) P) → IfOk (r >>= f) P
ok_then Q P (Ok x) f says then = then x says
ok_then Q P (Err e) f says then = tt

-- it is true of the next step whatever the first one gives
ok_next : {A B : Type 0} (P : B → Type 0) (r : Result A ScriptFault) (f : A → Result B ScriptFault)
    → ((x : A) → IfOk (f x) P) → IfOk (r >>= f) P
ok_next P (Ok x) f then = then x
ok_next P (Err e) f then = tt

ok_made : {A B : Type 0} (P : B → Type 0) (f : A → B) (r : Result A ScriptFault) → IfOk r (λ x. P (f x))
    → IfOk (make f r) P
ok_made P f (Ok x) says = says
ok_made P f (Err e) says = tt

any_made : {A B : Type 0} (P : B → Type 0) (f : A → B) (r : Result A ScriptFault) → ((x : A) → P (f x))
    → IfOk (make f r) P
any_made P f (Ok x) says = says x
any_made P f (Err e) says = tt

some_ok : {A : Type 0} (P : A → Type 0) (fault : ScriptFault) (o : Option A) → IfSome o P → IfOk (or_fault fault o) P
some_ok P fault None says = tt
some_ok P fault (Some x) says = says

-- the first row of a table, or the others
either : {A : Type 0} (P : A → Type 0) (b : Bool) (here later : Result A ScriptFault) → IfOk here P
    → IfOk later P → IfOk (cond b here later) P
either P true here later first rest = first
either P false here later first rest = rest

if_some : {A : Type 0} (P : A → Type 0) (o : Option A) → ((x : A) → o ≡ Some x → P x) → IfSome o P
if_some P None holds = tt
if_some P (Some x) holds = holds x refl

some_mapped : {A B : Type 0} (P : B → Type 0) (f : A → B) (o : Option A) → IfSome o (λ x. P (f x))
    → IfSome (option_map f o) P
some_mapped P f None says = tt
some_mapped P f (Some x) says = says

some_weaker : {A : Type 0} (P Q : A → Type 0) (o : Option A) → ((x : A) → P x → Q x) → IfSome o P → IfSome o Q
some_weaker P Q None weaker says = tt
some_weaker P Q (Some x) weaker says = weaker x says

-- ---- numbers

abbrev IsAmong : ℕ → ℕ → ℕ → Type 0
IsAmong first last n = (first ≤ n) × (n ≤ last)

in-range : (first last : ℕ) (o : Option ℕ) → IfSome (within first last o) (IsAmong first last)
in-range first last None = tt
in-range first last (Some n) =
    cond_both (is_within first last n) (Some n) None (λ o. IfSome o (IsAmong first last))
    (λ passes.
    let parts = and_parts (nat_le first n) (nat_le n last) passes in
    (leb-true first n parts.0, leb-true n last parts.1))
    (λ fails. tt)

positive-in : (bits : ℕ) (word : List ℕ) → IfSome (number_in 1 (2 ^ bits - 1) word) (IsPositive bits)
positive-in bits word =
    some_weaker (IsAmong 1 (2 ^ bits - 1)) (IsPositive bits) (number_in 1 (2 ^ bits - 1) word)
    (λ n among. (omega (arith, among.0), omega (arith, among.0, among.1)))
    (in-range 1 (2 ^ bits - 1) (number_of word))

below-in : (bits : ℕ) (word : List ℕ) → 0 < 2 ^ bits
    → IfOk (or_fault Number (number_in 0 (2 ^ bits - 1) word)) (λ n. n < 2 ^ bits)
below-in bits word some =
    some_ok (λ (n : ℕ). n < 2 ^ bits) Number (number_in 0 (2 ^ bits - 1) word)
    (some_weaker (IsAmong 0 (2 ^ bits - 1)) (λ (n : ℕ). n < 2 ^ bits) (number_in 0 (2 ^ bits - 1) word)
    (λ n among. omega (arith, some, among.1)) (in-range 0 (2 ^ bits - 1) (number_of word)))

session-said : (word : List ℕ) → IfOk (or_fault Number (session_of word)) IsClient
session-said word =
    some_ok IsClient Number (session_of word)
    (some_mapped IsClient client (number_in 1 (2 ^ 32 - 1) word)
    (some_weaker (IsPositive 32) (λ (n : ℕ). IsClient (client n)) (number_in 1 (2 ^ 32 - 1) word)
    (λ n positive. (refl, positive)) (positive-in 32 word)))

tag-said : (word : List ℕ) → IfOk (or_fault Number (tag_of word)) (IsPositive 32)
tag-said word = some_ok (IsPositive 32) Number (tag_of word) (positive-in 32 word)

-- as many ids as words, each from 1
record AreAll (words : List (List ℕ)) (ids : List ℕ) : Type 0 where
  count : length ids ≡ length words
  each : AllByRecursion (IsPositive 64) ids

with_first-said : (word : List ℕ) (words : List (List ℕ)) (o : Option ℕ) (rest : Option (List ℕ))
    → IfSome o (IsPositive 64) → IfSome rest (AreAll words) → IfSome (with_first o rest) (AreAll (word ∷ words))
with_first-said word words (Some id) (Some ids) first others =
    record { count = ap suc others.count; each = (first, others.each) }
with_first-said word words (Some id) None first others = tt
with_first-said word words None rest first others = tt

all-said : (words : List (List ℕ)) → IfSome (all_ids words) (AreAll words)
all-said [] = record { count = refl; each = tt }
all-said (word ∷ words) =
    with_first-said word words (id_of word) (all_ids words) (positive-in 64 word) (all-said words)

ids-said : (word : List ℕ) → IfOk (or_fault Number (ids_of word)) AreIds
ids-said word =
    some_ok AreIds Number (ids_of word)
    (cond_both (nat_le (length parts) IDS_LIMIT) (all_ids parts) None (λ o. IfSome o AreIds)
    (λ few. some_weaker (AreAll parts) AreIds (all_ids parts)
    (λ ids all. (
      omega (arith, all.count, length-slice_split is_comma word),
      omega (arith, all.count, leb-true (length parts) IDS_LIMIT few),
      All-from_recursion (IsPositive 64) ids all.each,
    )) (all-said parts))
    (λ many. tt))
  where
    parts : List (List ℕ)
    parts = slice_split is_comma word

-- ---- queues

abbrev pub IsPlaceOf : List QueueRow → ℕ → Type 0
IsPlaceOf rows place = Contains (map place_of rows) place

is-in : {A : Type 0} (x : A) (xs : List A) → In x xs → Contains xs x
is-in x [] here = absurd here
is-in x (y ∷ ys) (inl same) = (0, omega arith, sym same)
is-in x (y ∷ ys) (inr later) =
    let rest : Contains ys x = is-in x ys later in (suc rest.0, omega (arith, rest.1), rest.2)

row-placed : (rows : List QueueRow) (row : QueueRow) → In row rows → IsPlaceOf rows (place_of row)
row-placed rows row here = is-in (place_of row) (map place_of rows) (In-map place_of row rows here)

slice-in : {A : Type 0} (xs : List A) (k : ℕ) (x : A) → slice_get xs k ≡ Some x → In x xs
slice-in [] k x is = absurd cc
slice-in (y ∷ ys) zero x is = let same : y ≡ x = cc in inl (sym same)
slice-in (y ∷ ys) (suc k) x is = inr (slice-in ys k x is)

row-at : (rows : List QueueRow) (o : Option ℕ) (row : QueueRow) → row_by rows o ≡ Some row → In row rows
row-at rows None row is = absurd cc
row-at rows (Some n) row is = slice-in rows (n - 1) row is

first_of-said : (P : QueueRow → Type 0) (a b : Option QueueRow) → IfSome a P → IfSome b P → IfSome (first_of a b) P
first_of-said P (Some row) b first second = first
first_of-said P None b first second = second

abbrev IsThere : Setup → QueueRow → Type 0
IsThere s row = In row s.queues

row-said : (s : Setup) (word : List ℕ) → IfOk (or_fault NoSuch (row_of s word)) (IsThere s)
row-said s word =
    some_ok (IsThere s) NoSuch (row_of s word)
    (first_of-said (IsThere s) (find (named word) s.queues) (numbered s.queues word)
    (if_some (IsThere s) (find (named word) s.queues) (λ row is. (find-in (named word) s.queues row is).0))
    (if_some (IsThere s) (numbered s.queues word)
    (λ row is. row-at s.queues (option_and_then (number_in 1 (length s.queues)) (behind_hash word)) row is)))

abbrev IsAt : Setup → QueueId → Type 0
IsAt s at = IsPlaceOf s.queues at.0

queue-said : (s : Setup) (word : List ℕ) → IfOk (queue_of s word) (IsAt s)
queue-said s word =
    ok_then (IsThere s) (IsAt s) (or_fault NoSuch (row_of s word)) (λ (row : QueueRow). Ok row.args.queue)
    (row-said s word) (row-placed s.queues)

-- the first queue's name and number are those of its place
abbrev IsFirst : List QueueRow → QueueId → Type 0
IsFirst rows at =
    Contains (map place_of rows) (first_place rows)
    × (length (name_by (row_at rows (first_place rows))) ≤ KEY_LIMIT) × IsPlaceOf rows at.0

first-said : (rows : List QueueRow) → AreRows rows → IfOk (first_queue rows) (IsFirst rows)
first-said [] are = tt
first-said (row ∷ rows) are =
    let here : IsPlaceOf (row ∷ rows) (place_of row) = row-placed (row ∷ rows) row (inl refl) in
    let found : row_at (row ∷ rows) (place_of row) ≡ Some row = are.numbers row (is-in row (row ∷ rows) (inl refl)) in
    (here, subst (λ (o : Option QueueRow). length (name_by o) ≤ KEY_LIMIT) (sym found) are.first, here)

-- ---- nodes

pub range-has : (a n k : ℕ) → a ≤ k → k < a + n → Contains (range_with_len a n) k
range-has a zero k least most = absurd (omega (arith, least, most))
range-has a (suc n) k least most = elim (cases_lt a k) [
  | inl less ↦
      let rest : Contains (range_with_len (a + 1) n) k =
      range-has (a + 1) n k (omega (arith, less)) (omega (arith, most)) in
      (suc rest.0, omega (arith, rest.1), rest.2)
  | inr not-less ↦ let same : a ≡ k = omega (arith, least, not-less) in (0, omega arith, same)
]

abbrev IsNodeOf : Setup → NodeId → Type 0
IsNodeOf s node = Contains (range_with_len 1 s.nodes) node.0

node-said : (s : Setup) (word : List ℕ) → IfOk (node_of s word) (IsNodeOf s)
node-said s word =
    either (IsNodeOf s) (is_number word) _ _
    (some_ok (IsNodeOf s) NoSuch (option_map node_by (number_in 1 s.nodes word))
    (some_mapped (IsNodeOf s) node_by (number_in 1 s.nodes word)
    (some_weaker (IsAmong 1 s.nodes) (λ (n : ℕ). IsNodeOf s (node_by n)) (number_in 1 s.nodes word)
    (λ n among. range-has 1 s.nodes n among.0 (omega (arith, among.1)))
    (in-range 1 s.nodes (number_of word))))) tt

nodes-said : (s : Setup) (logs : Logs) (word : List ℕ) → IfOk (nodes_of s word) (AreNodes (cluster_over s logs))
nodes-said s logs word =
    either (AreNodes (cluster_over s logs)) (bytes_eq word (codes "all")) _ _ tt
    (ok_then (IsNodeOf s) (AreNodes (cluster_over s logs)) (node_of s word) _ (node-said s word) (λ node is. is))

pub member-in : (node : NodeId) (nodes : List NodeId) → list_any (λ (m : NodeId). m.0 == node.0) nodes ≡ true
    → Contains nodes node
member-in node [] is = absurd (false≢true is)
member-in node (m ∷ nodes) is = elim (cases_Bool (m.0 == node.0)) [
  | inl same ↦ (0, omega arith, ap (λ (n : ℕ). let id : NodeId = record { 0 = n } in id) (eqb-true m.0 node.0 same))
  | inr other ↦
      let rest : Contains nodes node =
      member-in node nodes (sym (ap (λ (b : Bool). b || list_any (λ (m : NodeId). m.0 == node.0) nodes) other) ∙ is) in
      (suc rest.0, omega (arith, rest.1), rest.2)
]

-- a queue of which a node is a member
abbrev IsMemberIn : Setup → NodeId → QueueId → Type 0
IsMemberIn s node at = IsAt s at × Contains (members_by (row_at s.queues at.0)) node

member-said : (s : Setup) (node : NodeId) (word : List ℕ) → AreRows s.queues
    → IfOk (queue_at s node word) (IsMemberIn s node)
member-said s node word are =
    ok_then (IsThere s) (IsMemberIn s node) (or_fault NoSuch (row_of s word)) (served_at node) (row-said s word)
    (λ row here.
    cond_both (is_member node row) (Ok row.args.queue) (Err NoSuch)
    (λ (r : Result QueueId ScriptFault). IfOk r (IsMemberIn s node))
    (λ is. (
      row-placed s.queues row here,
      subst (λ (o : Option QueueRow). Contains (members_by o) node) (sym (are.numbers row (is-in row s.queues here)))
          (member-in node row.members is),
    ))
    (λ isnt. tt))

-- ---- commands

-- a session from 1, and a queue that is there
abbrev IsClientAt : Setup → SessionId × QueueId → Type 0
IsClientAt s p = IsAt s p.1 × IsClient p.0

client-at-said : (s : Setup) (words : List (List ℕ)) → AreRows s.queues → IfOk (client_at s words) (IsClientAt s)
unfolding client_at
client-at-said s [] are =
    ok_then (IsFirst s.queues) (IsClientAt s) (first_queue s.queues) _ (first-said s.queues are)
    (λ at here. (here.2, (refl, (omega arith, omega arith))))
client-at-said s (session ∷ queue ∷ words) are =
    ok_then IsClient (IsClientAt s) (or_fault Number (session_of session)) _ (session-said session)
    (λ by positive. ok_then (IsAt s) (IsClientAt s) (queue_of s queue) _ (queue-said s queue)
    (λ at here. (here, positive)))
client-at-said s (session ∷ []) are = tt

one-tag-said : (words : List (List ℕ)) → IfOk (one_tag words) (IsPositive 32)
unfolding one_tag
one-tag-said (session ∷ queue ∷ tag ∷ []) = tag-said tag
one-tag-said _ = tt

abbrev AreDelivered : ℕ × List ℕ → Type 0
AreDelivered p = IsPositive 32 p.0 × AreIds p.1

deliveries-said : (words : List (List ℕ)) → IfOk (deliveries words) AreDelivered
unfolding deliveries
deliveries-said (session ∷ queue ∷ tag ∷ ids ∷ []) =
    ok_then (IsPositive 32) AreDelivered (or_fault Number (tag_of tag)) _ (tag-said tag)
    (λ by positive. ok_then AreIds AreDelivered (or_fault Number (ids_of ids)) _ (ids-said ids)
    (λ list are. (positive, are)))
deliveries-said _ = tt

subscribe-said : (words : List (List ℕ)) → IfOk (subscribe words) IsBody
unfolding subscribe
subscribe-said (session ∷ queue ∷ tag ∷ prefetch ∷ []) =
    ok_then (IsPositive 32) IsBody (or_fault Number (tag_of tag)) _ (tag-said tag)
    (λ by positive. ok_then (λ (n : ℕ). n < 2 ^ 16) IsBody (or_fault Number (number_in 0 (2 ^ 16 - 1) prefetch)) _
    (below-in 16 prefetch (omega arith)) (λ most small. (positive, small)))
subscribe-said _ = tt

credit-said : (words : List (List ℕ)) → IfOk (credit words) IsBody
unfolding credit
credit-said (session ∷ queue ∷ tag ∷ count ∷ more ∷ how ∷ []) =
    ok_next IsBody (or_fault Words (is_drain how)) _
    (λ drain. ok_then (IsPositive 32) IsBody (or_fault Number (tag_of tag)) _ (tag-said tag)
    (λ by positive. ok_then (λ (n : ℕ). n < 2 ^ 32) IsBody (or_fault Number (amount_of count)) _
    (below-in 32 count (omega arith))
    (λ had small. ok_then (λ (n : ℕ). n < 2 ^ 32) IsBody (or_fault Number (amount_of more)) _
    (below-in 32 more (omega arith)) (λ given few. (positive, small, few)))))
credit-said _ = tt

plain-command-said : (name : List ℕ) (words : List (List ℕ)) → IfOk (plain_command name words) IsBody
unfolding plain_command
plain-command-said name words =
    either IsBody (bytes_eq name (codes "get")) _ _ (any_made IsBody _ (bare_or_none words) (λ none. tt))
    (either IsBody (bytes_eq name (codes "subscribe")) _ _ (subscribe-said words)
    (either IsBody (bytes_eq name (codes "link")) _ _
    (ok_made IsBody _ (one_tag words)
    (IfOk-weaker (one_tag words) (IsPositive 32) _ (λ tag positive. (positive, tt)) (one-tag-said words)))
    (either IsBody (bytes_eq name (codes "credit")) _ _ (credit-said words)
    (either IsBody (bytes_eq name (codes "cancel")) _ _ (ok_made IsBody _ (one_tag words) (one-tag-said words))
    (either IsBody (bytes_eq name (codes "purge")) _ _ (any_made IsBody _ (bare words) (λ none. tt)) tt)))))

command-said : (name : List ℕ) (words : List (List ℕ)) → IfOk (command_of name words) IsBody
unfolding command_of
command-said name words =
    either IsBody (bytes_eq name (codes "settle")) _ _ (ok_made IsBody _ (deliveries words) (deliveries-said words))
    (either IsBody (bytes_eq name (codes "return")) _ _ (ok_made IsBody _ (deliveries words) (deliveries-said words))
    (either IsBody (bytes_eq name (codes "discard")) _ _ (ok_made IsBody _ (deliveries words) (deliveries-said words))
    (plain-command-said name words)))

-- ---- lines

abbrev Names : Setup → Logs → ScriptLine → Type 0
Names s logs said = IsNamed (cluster_over s logs) said

abbrev NamesIf : Setup → Logs → Option ScriptLine → Type 0
NamesIf s logs o = IfSome o (Names s logs)

one-session-said : (words : List (List ℕ)) → IfOk (one_session words) IsClient
unfolding one_session
one-session-said (session ∷ []) = session-said session
one-session-said _ = tt

one-queue-said : (s : Setup) (words : List (List ℕ)) → IfOk (one_queue s words) (IsAt s)
unfolding one_queue
one-queue-said s (queue ∷ []) = queue-said s queue
one-queue-said s _ = tt

one-node-said : (s : Setup) (words : List (List ℕ)) → IfOk (one_node s words) (IsNodeOf s)
unfolding one_node
one-node-said s (node ∷ []) = node-said s node
one-node-said s _ = tt

some-nodes-said : (s : Setup) (logs : Logs) (words : List (List ℕ))
    → IfOk (some_nodes s words) (AreNodes (cluster_over s logs))
unfolding some_nodes
some-nodes-said s logs (node ∷ []) = nodes-said s logs node
some-nodes-said s logs _ = tt

abbrev IsMemberAt : Setup → NodeId × QueueId → Type 0
IsMemberAt s p = IsNodeOf s p.0 × IsAt s p.1 × Contains (members_by (row_at s.queues p.1.0)) p.0

one-member-said : (s : Setup) (words : List (List ℕ)) → AreRows s.queues → IfOk (one_member s words) (IsMemberAt s)
unfolding one_member
one-member-said s (node ∷ queue ∷ []) are =
    ok_then (IsNodeOf s) (IsMemberAt s) (node_of s node) _ (node-said s node)
    (λ by is. ok_then (IsMemberIn s by) (IsMemberAt s) (queue_at s by queue) _ (member-said s by queue are)
    (λ at here. (is, here.0, here.1)))
one-member-said s _ are = tt

abbrev IsMessageAt : Setup → QueueId × ℕ → Type 0
IsMessageAt s p = IsAt s p.0

one-message-said : (s : Setup) (words : List (List ℕ)) → IfOk (one_message s words) (IsMessageAt s)
unfolding one_message
one-message-said s (queue ∷ place ∷ []) =
    ok_next (IsMessageAt s) (or_fault Number (place_of_message place)) _
    (λ at. ok_then (IsAt s) (IsMessageAt s) (queue_of s queue) _ (queue-said s queue) (λ of here. here))
one-message-said s _ = tt

text-short : (word : List ℕ) → length (text_of word) ≤ length word
text-short word =
    cond_both (bytes_eq word (codes "-")) [] word (λ (text : List ℕ). length text ≤ length word) (λ is. omega arith)
    (λ other. omega arith)

abbrev IsKey : List ℕ → Type 0
IsKey key = length key ≤ KEY_LIMIT

key-said : (word : List ℕ) → IfOk (or_fault Words (key_of word)) IsKey
key-said word =
    some_ok IsKey Words (key_of word)
    (cond_both (nat_lt KEY_LIMIT (length word)) None (Some (text_of word)) (λ o. IfSome o IsKey) (λ past. tt)
    (λ within'. omega (arith, text-short word, ltb-false KEY_LIMIT (length word) within')))

abbrev IsFit : List ℕ → Type 0
IsFit body = length body ≤ BODY_LIMIT

body-said : (body : List ℕ) → IfOk (limited body) IsFit
body-said body =
    cond_both (nat_le (length body) BODY_LIMIT) (Ok body) (Err (Body (length body))) (λ r. IfOk r IsFit)
    (λ within'. leb-true (length body) BODY_LIMIT within') (λ past. tt)

send-said : (s : Setup) (logs : Logs) (line : List ℕ) (words : List (List ℕ)) → IfOk (send line words) (Names s logs)
unfolding send
send-said s logs line (session ∷ exchange ∷ key ∷ first ∷ more) =
    ok_then IsKey (Names s logs) (or_fault Words (key_of key)) _ (key-said key)
    (λ short is. ok_then IsClient (Names s logs) (or_fault Number (session_of session)) _ (session-said session)
    (λ by client'. ok_then IsFit (Names s logs) (limited (body_of (behind_four line))) _
    (body-said (body_of (behind_four line))) (λ body fits. (client', (is, fits)))))
send-said s logs line _ = tt

publish-said : (s : Setup) (logs : Logs) (text : List ℕ) → AreRows s.queues → IfOk (publish s text) (Names s logs)
publish-said s logs text are =
    ok_then (IsFirst s.queues) (Names s logs) (first_queue s.queues) _ (first-said s.queues are)
    (λ at here. ok_then IsFit (Names s logs) (limited (body_of text)) _ (body-said (body_of text))
    (λ body fits. (here.0, (here.1, fits))))

crash-said : (s : Setup) (logs : Logs) (words : List (List ℕ)) → IfOk (crash s words) (Names s logs)
unfolding crash
crash-said s logs [] = tt
crash-said s logs (node ∷ image) =
    ok_next (Names s logs) (image_of image) _
    (λ of. ok_then (AreNodes (cluster_over s logs)) (Names s logs) (nodes_of s node) _ (nodes-said s logs node)
    (λ nodes are. are))

abbrev IsConsumer : SessionId × ℕ → Type 0
IsConsumer p = IsClient p.0 × IsPositive 32 p.1

consumer-said : (session tag : List ℕ) → IfOk (consumer_of session tag) IsConsumer
unfolding consumer_of
consumer-said session tag =
    ok_then IsClient IsConsumer (or_fault Number (session_of session)) _ (session-said session)
    (λ by client'. ok_then (IsPositive 32) IsConsumer (or_fault Number (tag_of tag)) _ (tag-said tag)
    (λ to positive. (client', positive)))

attach-to-said : (s : Setup) (logs : Logs) (p : SessionId × ℕ) (queue taker : List ℕ) → IsConsumer p
    → IfOk (attach_to s p.0 p.1 queue taker) (Names s logs)
unfolding attach_to
attach-to-said s logs p queue taker of =
    ok_next (Names s logs) (is_written taker) _
    (λ none. ok_then (IsAt s) (Names s logs) (queue_of s queue) _ (queue-said s queue)
    (λ at here. ok_then (IsPositive 32) (Names s logs) (or_fault NoSuch (number_in 1 (2 ^ 32 - 1) taker)) _
    (some_ok (IsPositive 32) NoSuch (number_in 1 (2 ^ 32 - 1) taker) (positive-in 32 taker))
    (λ number positive. (of.0, here, of.1, positive))))

attach-said : (s : Setup) (logs : Logs) (words : List (List ℕ)) → IfOk (attach s words) (Names s logs)
unfolding attach
attach-said s logs (session ∷ queue ∷ tag ∷ taker ∷ []) =
    ok_then IsConsumer (Names s logs) (consumer_of session tag) _ (consumer-said session tag)
    (λ p of. attach-to-said s logs p queue taker of)
attach-said s logs _ = tt

node-line-said : (s : Setup) (logs : Logs) (word : List ℕ) (words : List (List ℕ)) → AreRows s.queues
    → IfOk (node_line s word words) (NamesIf s logs)
unfolding node_line
node-line-said s logs word words are =
    either (NamesIf s logs) (bytes_eq word (codes "write")) _ _ (ok_made (NamesIf s logs) _ (one_node s words) node)
    (either (NamesIf s logs) (bytes_eq word (codes "sync")) _ _ (ok_made (NamesIf s logs) _ (one_node s words) node)
    (either (NamesIf s logs) (bytes_eq word (codes "notice")) _ _ (ok_made (NamesIf s logs) _ (one_member s words) member)
    (either (NamesIf s logs) (bytes_eq word (codes "tick")) _ _ (ok_made (NamesIf s logs) _ (one_member s words) member)
    (either (NamesIf s logs) (bytes_eq word (codes "deliver")) _ _
    (ok_made (NamesIf s logs) _ (one_message s words) message)
    (either (NamesIf s logs) (bytes_eq word (codes "lose")) _ _
    (ok_made (NamesIf s logs) _ (one_message s words) message)
    (either (NamesIf s logs) (bytes_eq word (codes "copy")) _ _
    (ok_made (NamesIf s logs) _ (one_message s words) message)
    (either (NamesIf s logs) (bytes_eq word (codes "restart")) _ _
    (ok_made (NamesIf s logs) _ (some_nodes s words) (some-nodes-said s logs words))
    (either (NamesIf s logs) (bytes_eq word (codes "show")) _ _
    (ok_made (NamesIf s logs) _ (one_queue s words) (one-queue-said s words)) tt))))))))
  where
    node : IfOk (one_node s words) (IsNodeOf s)
    node = one-node-said s words

    member : IfOk (one_member s words) (IsMemberAt s)
    member = one-member-said s words are

    message : IfOk (one_message s words) (IsMessageAt s)
    message = one-message-said s words

plain-line-said : (s : Setup) (logs : Logs) (word : List ℕ) (words : List (List ℕ)) → AreRows s.queues
    → IfOk (plain_line s word words) (NamesIf s logs)
unfolding plain_line
plain-line-said s logs word words are =
    either (NamesIf s logs) (bytes_eq word (codes "end")) _ _ (ok_made (NamesIf s logs) _ (one_session words) session)
    (either (NamesIf s logs) (bytes_eq word (codes "resend")) _ _
    (ok_made (NamesIf s logs) _ (one_session words) session)
    (either (NamesIf s logs) (bytes_eq word (codes "mute")) _ _
    (ok_made (NamesIf s logs) _ (one_session words) session)
    (either (NamesIf s logs) (bytes_eq word (codes "unmute")) _ _
    (ok_made (NamesIf s logs) _ (one_session words) session)
    (either (NamesIf s logs) (bytes_eq word (codes "manual")) _ _
    (any_made (NamesIf s logs) _ (no_word words) (λ none. tt))
    (either (NamesIf s logs) (bytes_eq word (codes "auto")) _ _ (any_made (NamesIf s logs) _ (no_word words) (λ none. tt))
    (either (NamesIf s logs) (bytes_eq word (codes "pump")) _ _ (any_made (NamesIf s logs) _ (no_word words) (λ none. tt))
    (node-line-said s logs word words are)))))))
  where
    session : IfOk (one_session words) IsClient
    session = one-session-said words

client-line-said : (s : Setup) (logs : Logs) (word : List ℕ) (words : List (List ℕ)) → AreRows s.queues
    → IfOk (client_line s word words) (Names s logs)
unfolding client_line
client-line-said s logs word words are =
    ok_then IsBody (Names s logs) (command_of word words) _ (command-said word words)
    (λ body is. ok_then (IsClientAt s) (Names s logs) (client_at s words) _ (client-at-said s words are)
    (λ p at. (at.1, at.0, is)))

or-client-said : (s : Setup) (logs : Logs) (word : List ℕ) (words : List (List ℕ)) (o : Option ScriptLine)
    → AreRows s.queues → NamesIf s logs o → IfOk (or_client s word words o) (Names s logs)
or-client-said s logs word words (Some said) are says = says
or-client-said s logs word words None are says = client-line-said s logs word words are

read-said : (s : Setup) (logs : Logs) (line word : List ℕ) (words : List (List ℕ)) → AreRows s.queues
    → IfOk (read s line word words) (Names s logs)
unfolding read
read-said s logs line word words are =
    either (Names s logs) (bytes_eq word (codes "publish")) _ _ tt
    (either (Names s logs) (bytes_eq word (codes "send")) _ _ (send-said s logs line words)
    (either (Names s logs) (bytes_eq word (codes "crash")) _ _ (crash-said s logs words)
    (either (Names s logs) (bytes_eq word (codes "attach")) _ _ (attach-said s logs words)
    (ok_then (NamesIf s logs) (Names s logs) (plain_line s word words) _ (plain-line-said s logs word words are)
    (λ o says. or-client-said s logs word words o are says)))))

read-words-said : (s : Setup) (logs : Logs) (place : Place) (line : List ℕ) (words : List (List ℕ)) → AreRows s.queues
    → IfOk (read_words s place line words) (Names s logs)
read-words-said s logs place line [] are = tt
read-words-said s logs place line (word ∷ words) are =
    ok_then (Names s logs) (Names s logs) (read s line word words) (in_place place)
    (read-said s logs line word words are)
    (λ said says. either (Names s logs) (may_stand place.section said) (Ok said) (Err Session) says tt)

read-text-said : (s : Setup) (logs : Logs) (place : Place) (o : Option (List ℕ)) → AreRows s.queues
    → IfOk (read_text s place o) (Names s logs)
read-text-said s logs place None are = tt
read-text-said s logs place (Some text) are = read-words-said s logs place text (words_of text) are

read-bytes-said : (s : Setup) (logs : Logs) (place : Place) (line : List ℕ) (o : Option (List ℕ)) → AreRows s.queues
    → IfOk (read_bytes s place line o) (Names s logs)
read-bytes-said s logs place line (Some text) are = publish-said s logs text are
read-bytes-said s logs place line None are = read-text-said s logs place (text_in line) are

parse-said : (s : Setup) (logs : Logs) (place : Place) (line : List ℕ) → AreRows s.queues
    → IfOk (parse_line s place line) (Names s logs)
parse-said s logs place line are =
    either (Names s logs) (nat_lt LINE_LIMIT (length line)) (Err TooLong) _ tt
    (either (Names s logs) (is_nothing line) (Ok lines.Nothing) _ tt
    (read-bytes-said s logs place line (publish_text line) are))

pub read-named : (s : Setup) (logs : Logs) (number : ℕ) (line : List ℕ) (said : ScriptLine) → AreRows s.queues
    → read_line s number line ≡ Ok said → IsNamed (cluster_over s logs) said
read-named s logs number line said are is =
    subst (λ (r : Result ScriptLine ScriptFault). IfOk r (Names s logs)) is
    (parse-said s logs (at_line number) line are)
