-- A name in a folder is read as the one file that has it.
use Rattle.std.proofs.Common.{◌≡◌, ◌≢◌, nat_eq, eqb, ◌<◌, ◌≤◌, ℕ, zero, suc, ◌+◌, ◌-◌, ◌*◌, ◌/◌, ◌%◌, ◌^◌, Bool, true, false, ◌&&◌, cond, ltb, leb, List, [], ◌∷◌, ◌++◌, length, take, drop, Option, Some, None, IfSome, IfNone, refl, sym, ap, subst, ◌∙◌, arith}
use Rattle.std.proofs.lemmas.Bool.{ltb-true, lt-ltb, leb-true, le-leb, eqb-true}
use Rattle.std.proofs.lemmas.List.{length-append, append_assoc, append-nil, length-drop, length-take-le, take-append-drop, take_at}
use Rattle.std.specs.Cmp.Lexicographic.{pointwise}
use Rattle.std.proofs.Math.Seq.{drop-append_seam}
use Rattle.qq_disk.specs.declared.name.FileKind.{FileKind}
use Rattle.qq_disk.specs.declared.name.FileKind.TheVariants.{Log, Segment, Snapshot}
use Rattle.qq_disk.specs.declared.name.FileName.{FileName}
use Rattle.qq_dir_disk.specs.Name.{digits, ending, file_text, add_digit, add_digits, kind_named, name_from, file_named}

length-digits : (width number : ℕ) → length (digits width number) ≡ width
unfolding digits
length-digits zero number = refl
length-digits (suc width) number =
    let front : length (digits width (number / 10)) ≡ width = length-digits width (number / 10) in
    omega (arith, length-append (digits width (number / 10)) ((48 + number % 10) ∷ []), front)

-- what is known of a digit that was added
record Adds (number byte more : ℕ) : Type 0 where
  low : 48 ≤ byte
  high : byte ≤ 57
  is : number * 10 + (byte - 48) ≡ more
  fits : more < 2 ^ 64

added : (number byte more : ℕ) → add_digit number byte ≡ Some more → Adds number byte more
added number byte more = by (leb 48 byte) (leb byte 57) (ltb (number * 10 + (byte - 48)) (2 ^ 64)) refl refl refl
  where
    by : (low high fits : Bool) → leb 48 byte ≡ low → leb byte 57 ≡ high
        → ltb (number * 10 + (byte - 48)) (2 ^ 64) ≡ fits
        → cond ((low && high) && fits) (Some (number * 10 + (byte - 48))) None ≡ Some more → Adds number byte more
    by true true true l h f e =
        let same : number * 10 + (byte - 48) ≡ more = cc in
        record {
          low = leb-true 48 byte l;
          high = leb-true byte 57 h;
          is = same;
          fits = subst (λ (n : ℕ). n < 2 ^ 64) same (ltb-true _ _ f);
        }
    by true true false l h f e = absurd cc
    by true false fits l h f e = absurd cc
    by false high fits l h f e = absurd cc

-- one digit more
longer : (width number byte more : ℕ) → Adds number byte more
    → digits (suc width) more ≡ digits width number ++ byte ∷ []
unfolding digits
longer width number byte more adds =
    let tens : more / 10 ≡ number = omega (arith, adds.low, adds.high, adds.is) in
    let ones : 48 + more % 10 ≡ byte = omega (arith, adds.low, adds.high, adds.is) in
    rw (tens, ones) refl

none_more : (bytes : List ℕ) (more : ℕ) → add_digits None bytes ≡ Some more → ⊥
none_more bytes more e = absurd cc

-- what is read is spelled so
read_digits : (width number : ℕ) (bytes : List ℕ) (more : ℕ) → add_digits (Some number) bytes ≡ Some more
    → digits (length bytes + width) more ≡ digits width number ++ bytes
read_digits width number [] more e =
    let same : number ≡ more = cc in
    let width_is : 0 + width ≡ width = omega arith in
    rw (same, width_is) (sym (append-nil (digits width more)))
read_digits width number (byte ∷ bytes) more e =
    by (add_digit number byte) refl e (λ next. read_digits (suc width) next bytes more)
  where
    by : (next : Option ℕ) → add_digit number byte ≡ next → add_digits next bytes ≡ Some more
        → ((next : ℕ) → add_digits (Some next) bytes ≡ Some more
        → digits (length bytes + suc width) more ≡ digits (suc width) next ++ bytes)
        → digits (suc (length bytes) + width) more ≡ digits width number ++ byte ∷ bytes
    by None is e rest = absurd (none_more bytes more e)
    by (Some next) is e rest =
        let one : digits (suc width) next ≡ digits width number ++ byte ∷ [] =
        longer width number byte next (added number byte next is) in
        let width_is : suc (length bytes) + width ≡ length bytes + suc width = omega arith in
        rw (width_is, rest next e, one) (append_assoc (digits width number) (byte ∷ []) bytes)

read_all : (bytes : List ℕ) (number : ℕ) → add_digits (Some 0) bytes ≡ Some number
    → digits (length bytes) number ≡ bytes
unfolding digits
read_all bytes number e =
    let width : length bytes + 0 ≡ length bytes = omega arith in
    subst (λ (w : ℕ). digits w number ≡ bytes) width (read_digits 0 0 bytes number e)

add_more : (first : Option ℕ) (front back : List ℕ)
    → add_digits first (front ++ back) ≡ add_digits (add_digits first front) back
add_more None front back = refl
add_more (Some number) [] back = refl
add_more (Some number) (byte ∷ front) back = add_more (add_digit number byte) front back

-- a digit of a number in range is added
adds_digit : (number : ℕ) → number < 2 ^ 64 → add_digit (number / 10) (48 + number % 10) ≡ Some number
adds_digit number fits =
    let low : leb 48 (48 + number % 10) ≡ true = le-leb _ _ (omega arith) in
    let high : leb (48 + number % 10) 57 ≡ true = le-leb _ _ (omega arith) in
    let is : number / 10 * 10 + (48 + number % 10 - 48) ≡ number = omega arith in
    rw (low, high, is, lt-ltb _ _ fits) refl

-- what is spelled is read so
spelled_digits : (width number : ℕ) → number < 10 ^ width → number < 2 ^ 64
    → add_digits (Some 0) (digits width number) ≡ Some number
unfolding digits
spelled_digits zero number few fits = ap Some (omega arith)
spelled_digits (suc width) number few fits =
    let front : add_digits (Some 0) (digits width (number / 10)) ≡ Some (number / 10) =
    spelled_digits width (number / 10) (omega arith) (omega arith) in
    let last : add_digits (add_digit (number / 10) (48 + number % 10)) [] ≡ Some number =
    ap (λ (o : Option ℕ). add_digits o []) (adds_digit number fits) in
    rw (add_more (Some 0) (digits width (number / 10)) ((48 + number % 10) ∷ []), front) last

same_bytes : (xs ys : List ℕ) → pointwise nat_eq xs ys ≡ true → xs ≡ ys
same_bytes [] [] e = refl
same_bytes [] (y ∷ ys) e = absurd cc
same_bytes (x ∷ xs) [] e = absurd cc
same_bytes (x ∷ xs) (y ∷ ys) e = by (eqb x y) refl e (same_bytes xs ys)
  where
    by : (b : Bool) → eqb x y ≡ b → (b && pointwise nat_eq xs ys) ≡ true
        → (pointwise nat_eq xs ys ≡ true → xs ≡ ys) → x ∷ xs ≡ y ∷ ys
    by true is e rest = rw (eqb-true x y is, rest e) refl
    by false is e rest = absurd cc

-- the ending that was read
read_kind : (bytes : List ℕ) (kind : FileKind) → kind_named bytes ≡ Some kind → ending kind ≡ bytes
read_kind bytes kind = by (has Log) (has Segment) (has Snapshot) refl refl refl
  where
    has : FileKind → Bool
    has other = pointwise nat_eq bytes (ending other)

    by : (log segment snapshot : Bool) → pointwise nat_eq bytes (ending Log) ≡ log
        → pointwise nat_eq bytes (ending Segment) ≡ segment → pointwise nat_eq bytes (ending Snapshot) ≡ snapshot
        → cond log (Some Log) (cond segment (Some Segment) (cond snapshot (Some Snapshot) None)) ≡ Some kind →
        ending kind ≡ bytes
    by true segment snapshot l s n e = let is : Log ≡ kind = cc in rw (← is) (sym (same_bytes bytes (ending Log) l))
    by false true snapshot l s n e =
        let is : Segment ≡ kind = cc in rw (← is) (sym (same_bytes bytes (ending Segment) s))
    by false false true l s n e =
        let is : Snapshot ≡ kind = cc in rw (← is) (sym (same_bytes bytes (ending Snapshot) n))
    by false false false l s n e = absurd cc

spelled_kind : (kind : FileKind) → kind_named (ending kind) ≡ Some kind
spelled_kind Log = refl
spelled_kind Segment = refl
spelled_kind Snapshot = refl

long_ending : (kind : FileKind) → 0 < length (ending kind)
long_ending Log = omega arith
long_ending Segment = omega arith
long_ending Snapshot = omega arith

-- a text that is read as a file is its name
read_file : (text : List ℕ) (file : FileName) → file_named text ≡ Some file → file_text file ≡ text
read_file text file = by (kind_named (drop 20 text)) (add_digits (Some 0) (take 20 text)) refl refl
  where
    by : (kind : Option FileKind) (number : Option ℕ) → kind_named (drop 20 text) ≡ kind
        → add_digits (Some 0) (take 20 text) ≡ number → name_from kind number ≡ Some file → file_text file ≡ text
    by None number k n e = absurd cc
    by (Some kind) None k n e = absurd cc
    by (Some kind) (Some number) k n e =
        let is : record { kind = kind; number = number } ≡ file = cc in
        let back : ending kind ≡ drop 20 text = read_kind (drop 20 text) kind k in
        let long : 20 ≤ length text =
        omega (arith, long_ending kind, ap (length {A = ℕ}) back, length-drop 20 text) in
        let front : digits (length (take 20 text)) number ≡ take 20 text = read_all (take 20 text) number n in
        let digits_are : digits 20 number ≡ take 20 text =
        subst (λ (w : ℕ). digits w number ≡ take 20 text) (length-take-le 20 text long) front in
        rw (← is, digits_are, back) (take-append-drop 20 text)

-- and a file's name is read as the file
spelled_file : (file : FileName) → file.number < 2 ^ 64 → file_named (file_text file) ≡ Some file
spelled_file file fits =
    let width : length (digits 20 file.number) ≡ 20 = length-digits 20 file.number in
    let front : take 20 (file_text file) ≡ digits 20 file.number =
    take_at (digits 20 file.number) (ending file.kind) 20 width in
    let seam : drop (length (digits 20 file.number)) (file_text file) ≡ ending file.kind =
    drop-append_seam (digits 20 file.number) (ending file.kind) in
    let back : drop 20 (file_text file) ≡ ending file.kind =
    subst (λ (w : ℕ). drop w (file_text file) ≡ ending file.kind) width seam in
    rw (front, back, spelled_kind file.kind, spelled_digits 20 file.number (omega arith) fits) refl

none_is_some : (text : List ℕ) (file : FileName) → None ≡ file_named text → file_named text ≡ Some file → ⊥
none_is_some text file a b = absurd (let e : None ≡ Some file = a ∙ b in cc)

pub read_some : (text : List ℕ) (found : Option FileName) → found ≡ file_named text
    → IfSome found (λ file. file_text file ≡ text)
read_some text None e = tt
read_some text (Some file) e = read_file text file (sym e)

pub read_none : (text : List ℕ) (found : Option FileName) → found ≡ file_named text
    → IfNone found ((file : FileName) → file.number < 2 ^ 64 → file_text file ≢ text)
read_none text (Some file) e = tt
read_none text None e = λ file fits same.
    none_is_some text file e (subst (λ (t : List ℕ). file_named t ≡ Some file) same (spelled_file file fits))
