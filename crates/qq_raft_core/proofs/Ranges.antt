-- What a server holds and hands out is in range.
use Rattle.std.proofs.Common.{◌≡◌, ◌<◌, ◌≤◌, ◌+◌, ◌-◌, ◌^◌, ℕ, suc, zero, Bool, true, false, List, [], ◌∷◌, ◌++◌, length, take, drop, get_or, Option, Some, ◌⊎◌, inl, inr, sym, ap, subst, ◌∙◌, arith}
use Rattle.std.specs.Prelude.{All, IfSome, nat_le, slice_get, if◌then◌else◌}
use Rattle.std.specs.List.{flat_map, AllByRecursion}
use Rattle.std.proofs.lemmas.Bool.{cases_lt, le-leb, lt-leb}
use Rattle.std.proofs.lemmas.List.{length-append, length-take-le}
use Rattle.std.proofs.lemmas.List.Concat.{flat_map-cons}
use Rattle.std.proofs.lemmas.List.Elements.{All-append, All-drop, All-get_or, All-from_recursion, All-nil, All-push, All-take, All-weaker, recursion_from_All}
use Rattle.qq_base.specs.declared.ids.NodeId.{NodeId}
use Rattle.qq_base.specs.declared.ids.QueueId.{QueueId}
use Rattle.qq_base.specs.declared.ids.Term.{Term}
use Rattle.qq_base.specs.declared.memory.TheConstants.{NUMBER_END}
use Rattle.qq_command.specs.Encoding.{encoding}
use Rattle.qq_command.specs.Laws.{HasShortEncoding}
use Rattle.qq_entry.specs.Range.{HasContent, IsCommand, IsWritable as IsEntry}
use Rattle.qq_entry.specs.declared.command.Command.{Command}
use Rattle.qq_entry.specs.declared.command.Entry.{Entry}
use Rattle.qq_log.specs.declared.op.Op.TheVariants.{Change}
use Rattle.qq_log.specs.Writable.{IsQueue, IsVote, MayWrite}
use Rattle.qq_raft_model.specs.declared.limits.TheConstants.{BATCH_BYTES, BATCH_ENTRIES}
use Rattle.qq_raft_model.specs.Leading.{weight, fit, batch, batch_from}
use Rattle.qq_raft_core.specs.Fits.{IsShort}
use Rattle.qq_raft_core.specs.Raft.{IsInLog}

-- ---- lists

pub all_none : {A : Type 0} (P : A → Type 0) (xs : List A) → xs ≡ [] → All P xs
all_none P xs is = subst (All P) (sym is) (All-nil P)

pub all_more : {A : Type 0} (P : A → Type 0) (old new : List A) (x : A) → new ≡ old ++ x ∷ [] → All P old → P x
    → All P new
all_more P old new x is all here = subst (All P) (sym is) (All-push P old x all here)

pub all_rest : {A : Type 0} (P : A → Type 0) (old new : List A) → new ≡ drop 1 old → All P old → All P new
all_rest P old new is all = subst (All P) (sym is) (All-drop P 1 old all)

recursion-at : {A : Type 0} (P : A → Type 0) (xs : List A) (k : ℕ) (x : A) → slice_get xs k ≡ Some x
    → AllByRecursion P xs → P x
recursion-at P [] k x there all = absurd cc
recursion-at P (y ∷ ys) zero x there all = let same : y ≡ x = cc in subst P same all.0
recursion-at P (y ∷ ys) (suc k) x there all = recursion-at P ys k x there all.1

pub all_at : {A : Type 0} (P : A → Type 0) (xs : List A) (k : ℕ) (x : A) → slice_get xs k ≡ Some x → All P xs → P x
all_at P xs k x there all = recursion-at P xs k x there (recursion_from_All P xs all)

pub all_front : {A : Type 0} (P : A → Type 0) (xs : List A) (r : Option A) → r ≡ slice_get xs 0 → All P xs → IfSome r P
all_front P [] r is all = subst (λ o. IfSome o P) (sym is) tt
all_front P (x ∷ xs) r is all = subst (λ o. IfSome o P) (sym is) (recursion_from_All P (x ∷ xs) all).0

pub all_index : {A : Type 0} (P : A → Type 0) (xs : List A) (i : ℕ) (x : A) → x ≡ get_or xs i x → i < length xs
    → All P xs → P x
all_index P xs i x is lt all = subst P (sym is) (All-get_or P xs i x lt all)

-- ---- entries

pub entry_in_log : (term : Term) (time : ℕ) (command : Command) → term.0 ≤ NUMBER_END → time < 2 ^ 64
    → IsCommand command → HasContent command → IsInLog (record { term = term; time = time; command = command })
entry_in_log term time command le lt is content = (
  record {
    range = record { term = omega (arith, le); time = lt; command = is };
    content = content;
  },
  le,
)

pub with_bytes : (es : List Entry) → All IsInLog es → All IsEntry es
with_bytes es all = All-weaker IsInLog IsEntry (λ e f. f.0) es all

-- the entries up to an index, and others
pub replaced : (keep : ℕ) (log es new : List Entry) → new ≡ take keep log ++ es → All IsInLog log → All IsInLog es
    → All IsInLog new
replaced keep log es new is kept added =
    subst (All IsInLog) (sym is) (All-append IsInLog (take keep log) es (All-take IsInLog keep log kept) added)

-- ---- one message

fit-each : (P : Entry → Type 0) (n room : ℕ) (es : List Entry) → AllByRecursion P es
    → AllByRecursion P (fit n room es)
fit-each P zero room es all = tt
fit-each P (suc n) room [] all = tt
fit-each P (suc n) room (e ∷ es) all = by (nat_le (weight e) room) (fit-each P n (room - weight e) es all.1)
  where
    by : (b : Bool) → AllByRecursion P (fit n (room - weight e) es)
        → AllByRecursion P (if b then e ∷ fit n (room - weight e) es else [])
    by true others = (all.0, others)
    by false others = tt

batch-each : (P : Entry → Type 0) (es : List Entry) → AllByRecursion P es → AllByRecursion P (batch es)
batch-each P [] all = tt
batch-each P (e ∷ es) all = (all.0, fit-each P (BATCH_ENTRIES - 1) (BATCH_BYTES - weight e) es all.1)

pub batch_all : (P : Entry → Type 0) (next : ℕ) (log : List Entry) → All P log → All P (batch_from next log)
batch_all P next log all =
    All-from_recursion P (batch_from next log)
    (batch-each P (drop (next - 1) log) (recursion_from_All P (drop (next - 1) log) (All-drop P (next - 1) log all)))

fit-count : (n room : ℕ) (es : List Entry) → length (fit n room es) ≤ n
fit-count zero room es = omega arith
fit-count (suc n) room [] = omega arith
fit-count (suc n) room (e ∷ es) = by (nat_le (weight e) room) (fit-count n (room - weight e) es)
  where
    by : (b : Bool) → length (fit n (room - weight e) es) ≤ n
        → length (if b then e ∷ fit n (room - weight e) es else []) ≤ suc n
    by true le = omega (arith, le)
    by false le = omega arith

pub batch_count : (es : List Entry) → length (batch es) ≤ 256
batch_count [] = omega arith
batch_count (e ∷ es) = let le = fit-count (BATCH_ENTRIES - 1) (BATCH_BYTES - weight e) es in omega (arith, le)

size_more : (e : Entry) (es : List Entry)
    → length (flat_map encoding (e ∷ es)) ≡ length (encoding e) + length (flat_map encoding es)
size_more e es = ap length (flat_map-cons encoding e es) ∙ length-append (encoding e) (flat_map encoding es)

fit-size : (n room : ℕ) (es : List Entry) → length (flat_map encoding (fit n room es)) ≤ room
fit-size zero room es = omega arith
fit-size (suc n) room [] = omega arith
fit-size (suc n) room (e ∷ es) = by (cases_lt room (weight e)) (fit-size n (room - weight e) es)
  where
    by : ((room < weight e) ⊎ (weight e ≤ room)) → length (flat_map encoding (fit n (room - weight e) es)) ≤ room - weight e
        → length (flat_map encoding (if nat_le (weight e) room then e ∷ fit n (room - weight e) es else [])) ≤ room
    by (inl lt) le = rw (lt-leb _ _ lt) (omega arith)
    by (inr fits) le =
        let n' = size_more e (fit n (room - weight e) es) in
        rw (le-leb _ _ fits) (omega (arith, n', fits, le))

-- an entry's encoding is no longer than its limit
abbrev pub AreShort : Type 0
AreShort = (e : Entry) → HasShortEncoding e

pub batch_short : AreShort → (es : List Entry) → All IsEntry es → IsShort (batch es)
batch_short short [] all = omega arith
batch_short short (e ∷ es) all =
    let first = short e ((recursion_from_All IsEntry (e ∷ es) all).0.range) in
    let others = fit-size (BATCH_ENTRIES - 1) (BATCH_BYTES - weight e) es in
    let n = size_more e (fit (BATCH_ENTRIES - 1) (BATCH_BYTES - weight e) es) in
    omega (arith, first, others, n)

-- ---- one change

pub one_short : AreShort → (e : Entry) (es : List Entry) → es ≡ e ∷ [] → IsInLog e → IsShort es
one_short short e es is here =
    let le = short e here.0.range in
    let n = size_more e [] in
    subst IsShort (sym is) (omega (arith, le, n))

pub one_all : (e : Entry) (es : List Entry) → es ≡ e ∷ [] → IsInLog e → All IsInLog es
one_all e es is here = all_more IsInLog [] es e is (All-nil IsInLog) here

pub none_short : (es : List Entry) → es ≡ [] → IsShort es
none_short es is = subst IsShort (sym is) (omega arith)

pub front_short : (k : ℕ) (es : List Entry) → length (flat_map encoding (take k es)) ≤ length (flat_map encoding es)
front_short zero es = omega arith
front_short (suc k) [] = omega arith
front_short (suc k) (e ∷ es) =
    let le = front_short k es in
    let n = size_more e es in
    let m = size_more e (take k es) in
    omega (arith, le, n, m)

rest_short : (k : ℕ) (es : List Entry) → length (flat_map encoding (drop k es)) ≤ length (flat_map encoding es)
rest_short zero es = omega arith
rest_short (suc k) [] = omega arith
rest_short (suc k) (e ∷ es) =
    let le = rest_short k es in
    let n = size_more e es in
    omega (arith, le, n)

pub behind_short : (k : ℕ) (es rest : List Entry) → rest ≡ drop k es → IsShort es → IsShort rest
behind_short k es rest is short =
    let le = rest_short k es in
    subst IsShort (sym is) (omega (arith, le, short))

pub behind_all : (k : ℕ) (es rest : List Entry) → rest ≡ drop k es → All IsInLog es → All IsInLog rest
behind_all k es rest is all = subst (All IsInLog) (sym is) (All-drop IsInLog k es all)

-- so many more than are kept have an index
pub change_end : (keep : ℕ) (log es new : List Entry) → new ≡ take keep log ++ es → keep ≤ length log
    → length new ≤ NUMBER_END → keep + length es ≤ NUMBER_END
change_end keep log es new is le end =
    let n = ap (λ (xs : List Entry). length xs) is ∙ length-append (take keep log) es in
    let k = length-take-le keep log le in
    omega (arith, n, k, end)

pub change_may :
    (queue : QueueId) (op : ℕ) (term : Term) (vote : Option NodeId) (keep : ℕ) (es : List Entry)
    → IsQueue queue → op ≤ NUMBER_END → term.0 ≤ NUMBER_END → IsVote vote → keep + length es ≤ NUMBER_END
    → All IsInLog es → IsShort es → MayWrite (Change queue op term vote (record { 0 = keep }) es)
change_may queue op term vote keep es q o t v k all short =
    record {
      gather = record {
        fields = (q, omega (arith, o), omega (arith, t), v, omega (arith, k), with_bytes es all);
        ends = (o, t, k, All-weaker IsInLog (λ (e : Entry). e.term.0 ≤ NUMBER_END) (λ e f. f.1) es all);
        change = tt;
      };
      short = omega (arith, short);
    }
