-- Arguments and their spellings.
use Rattle.std.proofs.Common.{◌≡◌, ℕ, zero, suc, ◌+◌, ◌*◌, ◌/◌, ◌%◌, ◌^◌, ◌<◌, ◌≤◌, Bool, true, false, cond, eqb, ltb, List, [], ◌∷◌, ◌++◌, length, Option, Some, None, Result, Ok, Err, refl, sym, ap, subst, ◌∙◌, append_assoc, arith, lit<}
use Rattle.std.specs.Prelude.{IfErr, ◌&&◌, nat_le}
use Rattle.std.specs.Int.{Width, w8, w16, w32, w64}
use Rattle.std.specs.Str.{IsUtf8, is_utf8}
use Rattle.std.proofs.lemmas.Str.{is_utf8-from_IsUtf8, IsUtf8-from_is_utf8}
use Rattle.std.proofs.lemmas.List.{length-append}
use Rattle.std.proofs.lemmas.Bool.{and_parts, leb-true}
use Rattle.std.proofs.Math.Nat.{pow-suc}
use Rattle.std.proofs.Math.Pow.{pow_mono}
use Rattle.qq_base.specs.Fields as base
use Rattle.qq_base.specs.Fields.{AreBytes}
use Rattle.qq_fields.specs.Reading as fields
use Rattle.qq_fields.specs.Reading.{◌>>=◌, number_of}
use Rattle.qq_fields.specs.Writing.{u8, u32}
use Rattle.qq_fields.proofs.Laws.{Takes, Takes-then, Holds, Holds-map, Reads, here, then_ok, where_true, in_turn, u8-reads, u16-reads, u32-reads, u64-reads, bytes-takes, bytes-again}
use Rattle.qq_amqp_wire.specs.declared.fault.WireFault.{WireFault}
use Rattle.qq_amqp_wire.specs.declared.fault.WireFault.TheVariants.{BadField}
use Rattle.qq_amqp_wire.specs.Arguments.{HasLength, HaveLengths, long_len, long_lens, Domain, Octet, Short, Long, LongLong, ShortStr, LongStr, IsOf, short_str, long_str, bytes_of, nothing, Bools, bits_of, byte_of, Argument, Given, Reserved, Bits, Parts, Values, ArePartsInRange, AreInRange, text_of, values_of, parts_of, number_at, bytes_at, short_str_at, long_str_at, value_at, OfValues, at_bits, at_values, made_at, Of}

-- ---- values

short_str-reads : Reads short_str_at short_str (λ s. (length s < 2 ^ 8) × IsUtf8 s)
unfolding short_str_at short_str fields.checked
short_str-reads = record {
  takes = λ bytes fits.
      then_ok (number_at w8 bytes) _ ((u8-reads BadField).takes bytes fits) (λ n p.
      then_ok (bytes_at n.0 n.1) _ (bytes-takes BadField n.0 n.1 p.0.rest_fits) (λ x q.
      where_true (is_utf8 x.0) (Ok x) BadField (λ t.
      here x (
        Takes-then (subst (λ (k : ℕ). Takes bytes (u8 k) n.1) (sym q.1) p.0) q.0,
        (subst (λ (k : ℕ). k < 2 ^ 8) (sym q.1) p.1, IsUtf8-from_is_utf8 x.0 t),
      ))));
  again = λ s bytes rest e f.
      let split : bytes ≡ u8 (length s) ++ (s ++ rest) = e in
      in_turn _ (number_at w8 bytes) _ ((u8-reads BadField).again (length s) bytes _ split f.0)
      (in_turn _ (bytes_at (length s) _) _ (bytes-again BadField (length s) s _ rest refl refl)
      (rw (is_utf8-from_IsUtf8 s f.1) refl));
}

long_str-reads : Reads long_str_at long_str (λ s. length s < 2 ^ 32)
unfolding long_str_at long_str
long_str-reads = record {
  takes = λ bytes fits.
      then_ok (number_at w32 bytes) _ ((u32-reads BadField).takes bytes fits) (λ n p.
      Holds-map (bytes_at n.0 n.1) (bytes-takes BadField n.0 n.1 p.0.rest_fits) (λ x q. (
        Takes-then (subst (λ (k : ℕ). Takes bytes (u32 k) n.1) (sym q.1) p.0) q.0,
        subst (λ (k : ℕ). k < 2 ^ 32) (sym q.1) p.1,
      )));
  again = λ s bytes rest e f.
      let split : bytes ≡ u32 (length s) ++ (s ++ rest) = e in
      in_turn _ (number_at w32 bytes) _ ((u32-reads BadField).again (length s) bytes _ split f)
      (bytes-again BadField (length s) s _ rest refl refl);
}

pub value-reads : (d : Domain) → Reads (value_at d) (bytes_of d) (IsOf d)
value-reads Octet = u8-reads BadField
value-reads Short = u16-reads BadField
value-reads Long = u32-reads BadField
value-reads LongLong = u64-reads BadField
value-reads ShortStr = short_str-reads
value-reads LongStr = long_str-reads

-- ---- arguments

-- what is made of arguments that are a prefix
pub record Tells {A : Type 0} (arguments : List Argument) (make : OfValues A arguments) (bytes : List ℕ)
    (x : A × List ℕ) : Type 0 where
  pub parts : Parts arguments
  pub range : ArePartsInRange arguments parts
  pub takes : Takes bytes (text_of arguments parts) x.1
  pub is : at_values arguments make (values_of arguments parts) ≡ x.0

pub made_takes : {A : Type 0} (arguments : List Argument) (make : OfValues A arguments) (bytes : List ℕ)
    → AreBytes bytes → Holds (made_at arguments make bytes) (Tells arguments make bytes)
made_takes [] make bytes fits =
    here (make, bytes) (record {
      parts = tt;
      range = tt;
      takes = record { parts = refl; rest_fits = fits };
      is = refl;
    })
made_takes (Given d ∷ arguments) make bytes fits =
    then_ok (value_at d bytes) _ ((value-reads d).takes bytes fits) (λ x p.
    Holds-map (made_at arguments (make x.0) x.1) (made_takes arguments (make x.0) x.1 p.0.rest_fits) (λ y q. record {
      parts = (x.0, q.parts);
      range = (p.1, q.range);
      takes = Takes-then p.0 q.takes;
      is = q.is;
    }))
made_takes (Reserved d ∷ arguments) make bytes fits =
    then_ok (value_at d bytes) _ ((value-reads d).takes bytes fits) (λ x p.
    Holds-map (made_at arguments make x.1) (made_takes arguments make x.1 p.0.rest_fits) (λ y q. record {
      parts = (x.0, q.parts);
      range = (p.1, q.range);
      takes = Takes-then p.0 q.takes;
      is = q.is;
    }))
made_takes (Bits n ∷ arguments) make bytes fits =
    then_ok (number_at w8 bytes) _ ((u8-reads BadField).takes bytes fits) (λ x p.
    Holds-map (made_at arguments (at_bits n make (bits_of n x.0)) x.1)
    (made_takes arguments (at_bits n make (bits_of n x.0)) x.1 p.0.rest_fits) (λ y q. record {
      parts = (x.0, q.parts);
      range = (p.1, q.range);
      takes = Takes-then p.0 q.takes;
      is = q.is;
    }))

pub made_again : {A : Type 0} (arguments : List Argument) (make : OfValues A arguments) (parts : Parts arguments)
    (bytes rest : List ℕ) → bytes ≡ text_of arguments parts ++ rest → ArePartsInRange arguments parts
    → made_at arguments make bytes ≡ Ok (at_values arguments make (values_of arguments parts), rest)
made_again [] make parts bytes rest e f = ap (λ (t : List ℕ). Ok (make, t)) e
made_again (Given d ∷ arguments) make parts bytes rest e f =
    let split : bytes ≡ bytes_of d parts.0 ++ (text_of arguments parts.1 ++ rest) =
    e ∙ append_assoc (bytes_of d parts.0) (text_of arguments parts.1) rest in
    in_turn (λ x. made_at arguments (make x.0) x.1) (value_at d bytes) _
    ((value-reads d).again parts.0 bytes _ split f.0) (made_again arguments (make parts.0) parts.1 _ rest refl f.1)
made_again (Reserved d ∷ arguments) make parts bytes rest e f =
    let split : bytes ≡ bytes_of d parts.0 ++ (text_of arguments parts.1 ++ rest) =
    e ∙ append_assoc (bytes_of d parts.0) (text_of arguments parts.1) rest in
    in_turn (λ x. made_at arguments make x.1) (value_at d bytes) _
    ((value-reads d).again parts.0 bytes _ split f.0) (made_again arguments make parts.1 _ rest refl f.1)
made_again (Bits n ∷ arguments) make parts bytes rest e f =
    let split : bytes ≡ u8 parts.0 ++ (text_of arguments parts.1 ++ rest) =
    e ∙ append_assoc (u8 parts.0) (text_of arguments parts.1) rest in
    in_turn (λ x. made_at arguments (at_bits n make (bits_of n x.0)) x.1) (number_at w8 bytes) _
    ((u8-reads BadField).again parts.0 bytes _ split f.0)
    (made_again arguments (at_bits n make (bits_of n parts.0)) parts.1 _ rest refl f.1)

-- ---- faults

-- no other fault than that of a field
pub record MayBadField {A : Type 0} (r : Result A WireFault) : Type 0 where
  pub value : IfErr r (λ e. e ≡ BadField)

pub bad_then : {A B : Type 0} (r : Result A WireFault) (f : A → Result B WireFault) → MayBadField r
    → ((x : A) → MayBadField (f x)) → MayBadField (r >>= f)
bad_then (Ok x) f p q = q x
bad_then (Err e) f p q = record { value = p.value }

bad_if : {A : Type 0} (b : Bool) (x y : Result A WireFault) → MayBadField x → MayBadField y → MayBadField (cond b x y)
bad_if true x y p q = p
bad_if false x y p q = q

fine : {A : Type 0} (x : A) → MayBadField (Ok x)
fine x = record { value = tt }

pub number_bad : (w : Width) (bytes : List ℕ) → MayBadField (number_at w bytes)
unfolding fields.number_at
number_bad w bytes = by (base.number_at w bytes)
  where
    by : (o : Option (ℕ × ℕ)) → MayBadField (number_of BadField bytes o)
    by None = record { value = refl }
    by (Some x) = record { value = tt }

bytes_bad : (n : ℕ) (bytes : List ℕ) → MayBadField (bytes_at n bytes)
unfolding fields.bytes_at
bytes_bad n bytes = bad_if (ltb (length bytes) n) _ _ (record { value = refl }) (record { value = tt })

value_bad : (d : Domain) (bytes : List ℕ) → MayBadField (value_at d bytes)
unfolding short_str_at long_str_at fields.checked
value_bad Octet bytes = number_bad w8 bytes
value_bad Short bytes = number_bad w16 bytes
value_bad Long bytes = number_bad w32 bytes
value_bad LongLong bytes = number_bad w64 bytes
value_bad ShortStr bytes =
    bad_then (number_at w8 bytes) _ (number_bad w8 bytes) (λ n.
    bad_then (bytes_at n.0 n.1) _ (bytes_bad n.0 n.1) (λ x.
    bad_if (is_utf8 x.0) (Ok x) (Err BadField) (fine x) (record { value = refl })))
value_bad LongStr bytes = bad_then (number_at w32 bytes) _ (number_bad w32 bytes) (λ n. bytes_bad n.0 n.1)

pub made_bad : {A : Type 0} (arguments : List Argument) (make : OfValues A arguments) (bytes : List ℕ)
    → MayBadField (made_at arguments make bytes)
made_bad [] make bytes = fine (make, bytes)
made_bad (Given d ∷ arguments) make bytes =
    bad_then (value_at d bytes) (λ x. made_at arguments (make x.0) x.1) (value_bad d bytes)
    (λ x. made_bad arguments (make x.0) x.1)
made_bad (Reserved d ∷ arguments) make bytes =
    bad_then (value_at d bytes) (λ x. made_at arguments make x.1) (value_bad d bytes)
    (λ x. made_bad arguments make x.1)
made_bad (Bits n ∷ arguments) make bytes =
    bad_then (number_at w8 bytes) (λ x. made_at arguments (at_bits n make (bits_of n x.0)) x.1) (number_bad w8 bytes)
    (λ x. made_bad arguments (at_bits n make (bits_of n x.0)) x.1)

-- ---- what is written

low_bit : (b : Bool) (rest : ℕ) → eqb ((cond b 1 0 + 2 * rest) % 2) 1 ≡ b
low_bit true rest = let e : (1 + 2 * rest) % 2 ≡ 1 = omega arith in rw e refl
low_bit false rest = let e : (0 + 2 * rest) % 2 ≡ 0 = omega arith in rw e refl

high_bits : (b : Bool) (rest : ℕ) → (cond b 1 0 + 2 * rest) / 2 ≡ rest
high_bits true rest = omega arith
high_bits false rest = omega arith

-- the bits of the byte that has them
bits_again : (n : ℕ) (bits : Bools n) → bits_of n (byte_of n bits) ≡ bits
bits_again zero bits = refl
bits_again (suc n) bits =
    let first = low_bit bits.0 (byte_of n bits.1) in
    let others : bits_of n ((cond bits.0 1 0 + 2 * byte_of n bits.1) / 2) ≡ bits.1 =
    ap (bits_of n) (high_bits bits.0 (byte_of n bits.1)) ∙ bits_again n bits.1 in
    ap (λ (b : Bool). (b, bits_of n ((cond bits.0 1 0 + 2 * byte_of n bits.1) / 2))) first
    ∙ ap (λ (t : Bools n). (bits.0, t)) others

byte_limit : (n : ℕ) (bits : Bools n) → byte_of n bits < 2 ^ n
byte_limit zero bits = omega arith
byte_limit (suc n) bits =
    subst (λ (k : ℕ). byte_of (suc n) bits < k) (sym (pow-suc 2 n))
    (by bits.0 (byte_of n bits.1) (2 ^ n) (byte_limit n bits.1))
  where
    by : (b : Bool) (k limit : ℕ) → k < limit → cond b 1 0 + 2 * k < limit * 2
    by true k limit lt = omega arith
    by false k limit lt = omega arith

-- bits that fit a byte
abbrev pub have_bytes : List Argument → Bool
have_bytes [] = true
have_bytes (Given d ∷ arguments) = have_bytes arguments
have_bytes (Reserved d ∷ arguments) = have_bytes arguments
have_bytes (Bits n ∷ arguments) = nat_le n 8 && have_bytes arguments

pub told_again : (arguments : List Argument) (values : Values arguments)
    → values_of arguments (parts_of arguments values) ≡ values
told_again [] values = refl
told_again (Given d ∷ arguments) values =
    ap (λ (t : Values arguments). (values.0, t)) (told_again arguments values.1)
told_again (Reserved d ∷ arguments) values = told_again arguments values
told_again (Bits n ∷ arguments) values =
    ap (λ (b : Bools n). (b, values_of arguments (parts_of arguments values.1))) (bits_again n values.0)
    ∙ ap (λ (t : Values arguments). (values.0, t)) (told_again arguments values.1)

nothing_fits : (d : Domain) → IsOf d (nothing d)
nothing_fits Octet = lit< tt
nothing_fits Short = lit< tt
nothing_fits Long = lit< tt
nothing_fits LongLong = lit< tt
nothing_fits ShortStr = (lit< tt, ([], (refl, refl)))
nothing_fits LongStr = lit< tt

pub parts_fit : (arguments : List Argument) (values : Values arguments) → have_bytes arguments ≡ true
    → AreInRange arguments values → ArePartsInRange arguments (parts_of arguments values)
parts_fit [] values bytes range = tt
parts_fit (Given d ∷ arguments) values bytes range = (range.0, parts_fit arguments values.1 bytes range.1)
parts_fit (Reserved d ∷ arguments) values bytes range = (nothing_fits d, parts_fit arguments values bytes range)
parts_fit (Bits n ∷ arguments) values bytes range =
    let both = and_parts (nat_le n 8) (have_bytes arguments) bytes in
    let within : n ≤ 8 = leb-true n 8 both.0 in
    let limit : 2 ^ n ≤ 2 ^ 8 = pow_mono within in
    let below : byte_of n values.0 < 2 ^ n = byte_limit n values.0 in
    (omega arith, parts_fit arguments values.1 both.1 range)

-- ---- how long it is

-- the most bytes that arguments have beside those of long strings
abbrev pub most_of : List Argument → ℕ
most_of [] = 0
most_of (a ∷ arguments) = 264 + most_of arguments

value_len : (d : Domain) (x : Of d) → HasLength d x → length (bytes_of d x) ≤ long_len d x + 264
unfolding short_str long_str
value_len Octet n fits = omega arith
value_len Short n fits = omega arith
value_len Long n fits = omega arith
value_len LongLong n fits = omega arith
value_len ShortStr bytes fits = omega (arith, length-append (u8 (length bytes)) bytes)
value_len LongStr bytes fits = omega (arith, length-append (u32 (length bytes)) bytes)

nothing_len : (d : Domain) → length (bytes_of d (nothing d)) ≤ 264
unfolding short_str long_str
nothing_len Octet = omega arith
nothing_len Short = omega arith
nothing_len Long = omega arith
nothing_len LongLong = omega arith
nothing_len ShortStr = omega arith
nothing_len LongStr = omega arith

pub text_len : (arguments : List Argument) (values : Values arguments) → HaveLengths arguments values
    → length (text_of arguments (parts_of arguments values)) ≤ long_lens arguments values + most_of arguments
text_len [] values fits = omega arith
text_len (Given d ∷ arguments) values fits =
    omega (
      arith,
      length-append (bytes_of d values.0) (text_of arguments (parts_of arguments values.1)),
      value_len d values.0 fits.0,
      text_len arguments values.1 fits.1,
    )
text_len (Reserved d ∷ arguments) values fits =
    omega (
      arith,
      length-append (bytes_of d (nothing d)) (text_of arguments (parts_of arguments values)),
      nothing_len d,
      text_len arguments values fits,
    )
text_len (Bits n ∷ arguments) values fits =
    omega (arith, text_len arguments values.1 fits)
