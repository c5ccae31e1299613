-- Keys that rise, and the bytes of messages, as a queue gains and loses one.
use Rattle.std.proofs.Common.{◌≡◌, ℕ, zero, suc, ◌+◌, ◌-◌, ◌*◌, ◌^◌, ◌<◌, ◌≤◌, List, [], ◌∷◌, ◌++◌, length, slice_get, refl, sym, ap, ◌∙◌, subst, arith}
use Rattle.std.specs.List.{AllByRecursion}
use Rattle.std.proofs.lemmas.List.Sums.{sum_by-append, sum_by-cons}
use Rattle.qq_base.proofs.Lists.{AllByRecursion-append, AllByRecursion-weaker}
use Rattle.qq_model.specs.declared.place.Key.{Key}
use Rattle.qq_model.specs.declared.place.Key.TheVariants.{Front, Back}
use Rattle.qq_ready.specs.declared.row.KeyedRow.{KeyedRow}
use Rattle.qq_ready.specs.Queue.{bytes_of, number, Rises, IsKey, AreKeyed, IsInOrder, CountsBytes, queue_of}

pub bytes-push : (rows : List KeyedRow) (one : KeyedRow)
    → bytes_of (rows ++ one ∷ []) ≡ bytes_of rows + one.row.message.size
bytes-push rows one =
    let zero : 0 + one.row.message.size ≡ one.row.message.size = omega arith in
    sum_by-append (λ (other : KeyedRow). other.row.message.size) rows (one ∷ []) ∙ ap (λ n. bytes_of rows + n) zero

pub bytes-cons : (one : KeyedRow) (rows : List KeyedRow) → bytes_of (one ∷ rows) ≡ one.row.message.size + bytes_of rows
bytes-cons one rows = sum_by-cons (λ (other : KeyedRow). other.row.message.size) one rows

rises-push : (rows : List KeyedRow) (one : KeyedRow) (last : ℕ) → Rises rows
    → AllByRecursion (λ (other : KeyedRow). number other.key ≤ last) rows → last < number one.key
    → Rises (rows ++ one ∷ [])
rises-push [] one last rising below above = (tt, tt)
rises-push (first ∷ rows) one last rising below above =
    let less : number first.key < number one.key = omega (arith, below.0) in (
      AllByRecursion-append (λ (other : KeyedRow). number first.key < number other.key) rows (one ∷ []) rising.0
          (less, tt),
      rises-push rows one last rising.1 below.1 above,
    )

pub keyed-push : (class : ℕ → Key) (last : ℕ) (rows : List KeyedRow) (one : KeyedRow)
    → number (class (last + 1)) ≡ last + 1 → AreKeyed class last rows → one.key ≡ class (last + 1)
    → AreKeyed class (last + 1) (rows ++ one ∷ [])
keyed-push class last rows one counts keyed is =
    let its : number one.key ≡ last + 1 = ap number is ∙ counts in
    record {
      rising =
          rises-push rows one last keyed.rising
          (AllByRecursion-weaker (IsKey class last) (λ (other : KeyedRow). number other.key ≤ last)
          (λ other key. key.drawn) rows keyed.each) (omega arith);
      each =
          AllByRecursion-append (IsKey class (last + 1)) rows (one ∷ [])
          (AllByRecursion-weaker (IsKey class last) (IsKey class (last + 1))
          (λ other key. record { key = key.key; first = key.first; drawn = omega (arith, key.drawn) }) rows keyed.each)
          (record { key = is ∙ ap class (sym its); first = omega arith; drawn = omega arith }, tt);
    }

pub keyed-pop : (class : ℕ → Key) (last : ℕ) (one : KeyedRow) (rows : List KeyedRow)
    → AreKeyed class last (one ∷ rows) → AreKeyed class last rows
keyed-pop class last one rows keyed = record { rising = keyed.rising.1; each = keyed.each.1 }

pub keyed-none : (class : ℕ → Key) (last : ℕ) → AreKeyed class last []
keyed-none class last = record { rising = tt; each = tt }

-- as many as were drawn are there at most
long-from : (class : ℕ → Key) (last n : ℕ) (rows : List KeyedRow) → Rises rows → AllByRecursion (IsKey class last) rows
    → AllByRecursion (λ (other : KeyedRow). n < number other.key) rows → n ≤ last → length rows + n ≤ last
long-from class last n [] rising each above le = omega arith
long-from class last n (one ∷ rows) rising each above le =
    let rest = long-from class last (number one.key) rows rising.1 each.1 rising.0 each.0.drawn in
    let more : n < number one.key = above.0 in
    omega arith

pub keyed-long : (class : ℕ → Key) (last : ℕ) (rows : List KeyedRow) → AreKeyed class last rows → length rows ≤ last
keyed-long class last rows keyed =
    let le : 0 ≤ last = omega arith in
    let long =
    long-from class last 0 rows keyed.rising keyed.each
    (AllByRecursion-weaker (IsKey class last) (λ (other : KeyedRow). 0 < number other.key) (λ other key. key.first)
    rows keyed.each) le in
    omega arith

-- what a queue keeps as it gains a message
pub kept-back : (fronts backs after : List KeyedRow) (orders returns bytes n : ℕ) (one : KeyedRow)
    → IsInOrder (queue_of fronts backs orders returns) × CountsBytes bytes (queue_of fronts backs orders returns)
    → one.key ≡ Back (orders + 1) → n ≡ one.row.message.size → n < 2 ^ 32 → after ≡ backs ++ one ∷ []
    → IsInOrder (queue_of fronts after (orders + 1) returns)
    × CountsBytes (bytes + n) (queue_of fronts after (orders + 1) returns)
kept-back fronts backs after orders returns bytes n one kept is size small grows =
    let more : bytes_of after ≡ bytes_of backs + n =
    ap bytes_of grows ∙ bytes-push backs one ∙ ap (λ k. bytes_of backs + k) (sym size) in (
      record {
        fronts = kept.0.fronts;
        backs =
            subst (AreKeyed Back (orders + 1)) (sym grows) (keyed-push Back orders backs one refl kept.0.backs is);
      },
      record {
        sum =
            let sum : bytes ≡ bytes_of fronts + bytes_of backs = kept.1.sum in
            let all : bytes + n ≡ bytes_of fronts + (bytes_of backs + n) = omega arith in
            all ∙ sym (ap (λ k. bytes_of fronts + k) more);
        fits = let fits : bytes ≤ (orders + returns) * 2 ^ 32 = kept.1.fits in omega arith;
      },
    )

pub kept-front : (fronts backs after : List KeyedRow) (orders returns bytes n : ℕ) (one : KeyedRow)
    → IsInOrder (queue_of fronts backs orders returns) × CountsBytes bytes (queue_of fronts backs orders returns)
    → one.key ≡ Front (returns + 1) → n ≡ one.row.message.size → n < 2 ^ 32 → after ≡ fronts ++ one ∷ []
    → IsInOrder (queue_of after backs orders (returns + 1))
    × CountsBytes (bytes + n) (queue_of after backs orders (returns + 1))
kept-front fronts backs after orders returns bytes n one kept is size small grows =
    let more : bytes_of after ≡ bytes_of fronts + n =
    ap bytes_of grows ∙ bytes-push fronts one ∙ ap (λ k. bytes_of fronts + k) (sym size) in (
      record {
        fronts =
            subst (AreKeyed Front (returns + 1)) (sym grows) (keyed-push Front returns fronts one refl kept.0.fronts is);
        backs = kept.0.backs;
      },
      record {
        sum =
            let sum : bytes ≡ bytes_of fronts + bytes_of backs = kept.1.sum in
            let all : bytes + n ≡ (bytes_of fronts + n) + bytes_of backs = omega arith in
            all ∙ sym (ap (λ k. k + bytes_of backs) more);
        fits = let fits : bytes ≤ (orders + returns) * 2 ^ 32 = kept.1.fits in omega arith;
      },
    )

-- a queue of given parts
pub kept-parts : (fronts backs fronts' backs' : List KeyedRow) (orders returns a b : ℕ)
    → AreKeyed Front returns fronts → AreKeyed Back orders backs → fronts' ≡ fronts → backs' ≡ backs
    → a ≡ bytes_of fronts → b ≡ bytes_of backs → a ≤ length fronts * 2 ^ 32 → b ≤ length backs * 2 ^ 32
    → IsInOrder (queue_of fronts' backs' orders returns)
    × CountsBytes (a + b) (queue_of fronts' backs' orders returns)
kept-parts fronts backs fronts' backs' orders returns a b first second same same' sum sum' fits fits' =
    let few : length fronts ≤ returns = keyed-long Front returns fronts first in
    let few' : length backs ≤ orders = keyed-long Back orders backs second in (
      record {
        fronts = subst (AreKeyed Front returns) (sym same) first;
        backs = subst (AreKeyed Back orders) (sym same') second;
      },
      record {
        sum =
            ap (λ n. n + b) (sum ∙ ap bytes_of (sym same)) ∙ ap (λ n. bytes_of fronts' + n) (sum' ∙ ap bytes_of
            (sym same'));
        fits = omega arith;
      },
    )

-- what a queue keeps is of its parts alone
abbrev pub IsKept : List KeyedRow → List KeyedRow → ℕ → ℕ → ℕ → Type 0
IsKept fronts backs orders returns bytes =
    IsInOrder (queue_of fronts backs orders returns) × CountsBytes bytes (queue_of fronts backs orders returns)

pub kept-same : (fronts backs fronts' backs' : List KeyedRow) (orders returns bytes : ℕ) → fronts' ≡ fronts
    → backs' ≡ backs → IsKept fronts backs orders returns bytes → IsKept fronts' backs' orders returns bytes
kept-same fronts backs fronts' backs' orders returns bytes same same' kept =
    subst (λ (rows : List KeyedRow). IsKept rows backs' orders returns bytes) (sym same)
    (subst (λ (rows : List KeyedRow). IsKept fronts rows orders returns bytes) (sym same') kept)

-- a message by its place
pub get-left : (xs ys : List KeyedRow) (i : ℕ) → i < length xs → slice_get (xs ++ ys) i ≡ slice_get xs i
get-left [] ys i lt = absurd (omega arith)
get-left (x ∷ xs) ys zero lt = refl
get-left (x ∷ xs) ys (suc i) lt = get-left xs ys i (omega arith)

pub get-right : (xs ys : List KeyedRow) (i : ℕ) → length xs ≤ i → slice_get (xs ++ ys) i ≡ slice_get ys (i - length xs)
get-right [] ys i le = let same : i ≡ i - 0 = omega arith in ap (slice_get ys) same
get-right (x ∷ xs) ys zero le = absurd (omega arith)
get-right (x ∷ xs) ys (suc i) le =
    let same : i - length xs ≡ suc i - suc (length xs) = omega arith in
    get-right xs ys i (omega arith) ∙ ap (slice_get ys) same
