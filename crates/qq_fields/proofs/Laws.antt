-- What it is for a reader and an encoding to be of each other, and how this is shown step by step.
use Rattle.std.proofs.Common.{◌≡◌, ℕ, zero, suc, ◌+◌, ◌^◌, ◌<◌, ◌≤◌, Bool, true, false, cond, ltb, List, [], ◌∷◌, ◌++◌, length, take, drop, Option, Some, None, Result, Ok, Err, refl, sym, ap, subst, ◌∙◌, append_assoc, arith, lit<, All}
use Rattle.std.specs.Prelude.{IfOk, nat_lt, ◌==◌}
use Rattle.std.specs.List.{flat_map, AllByRecursion}
use Rattle.std.specs.Int.{Width, w8, w16, w32, w64, byte_len, to_be_bytes}
use Rattle.std.proofs.lemmas.Bool.{ltb-true, ltb-false, le-ltb}
use Rattle.std.proofs.lemmas.List.{take_at, drop_at, take-append-drop, length-append, length-take, get_or-drop}
use Rattle.std.proofs.lemmas.List.Concat.{flat_map-cons}
use Rattle.std.proofs.lemmas.List.Elements.{recursion_from_All, All-from_recursion}
use Rattle.qq_base.specs.Fields as base
use Rattle.qq_base.specs.Fields.{AreBytes, ReadsBack}
use Rattle.qq_base.proofs.Numbers.{back8, back16, back32, back64}
use Rattle.qq_base.specs.declared.memory.Memory.{Memory}
use Rattle.qq_fields.specs.Reading.{◌>>=◌, Gives, Field, number_of, number_at, bytes_at, checked, flag_at, many, list_at}
use Rattle.qq_fields.specs.Writing.{u8, u32, flag, list}

-- what a reader took: a prefix, and the rest
pub record Takes (bytes text rest : List ℕ) : Type 0 where
  pub parts : bytes ≡ text ++ rest
  pub rest_fits : AreBytes rest

pub Takes-then : {a x b y c : List ℕ} → Takes a x b → Takes b y c → Takes a (x ++ y) c
Takes-then {x = x} {y = y} {c = c} p q =
    record {
      parts = p.parts ∙ ap (λ (t : List ℕ). x ++ t) q.parts
          ∙ sym (append_assoc x y c);
      rest_fits = q.rest_fits;
    }

-- what holds of the value, if there is one
pub record Holds {E A : Type 0} (r : Result A E) (P : A → Type 0) : Type 0 where
  pub value : IfOk r P

pub known : {E A : Type 0} {P : A → Type 0} (r : Result A E) (x : A) → Holds r P → r ≡ Ok x → P x
known {P = P} (Ok y) x h e = subst P (cc) h.value
known (Err d) x h e = absurd cc

-- what is read is in range and has this encoding, and what is in range and has it is read again
pub record Reads {E A : Type 0} (read : List ℕ → Field E A) (write : A → List ℕ) (Fits : A → Type 0) : Type 0 where
  pub takes : (bytes : List ℕ) → AreBytes bytes → Holds (read bytes) (λ x. Takes bytes (write x.0) x.1 × Fits x.0)
  pub again : (x : A) (bytes rest : List ℕ) → bytes ≡ write x ++ rest → Fits x → read bytes ≡ Ok (x, rest)

-- ---- steps

pub here : {E A : Type 0} {Q : A → Type 0} (x : A) → Q x → Holds {E = E} (Ok x) Q
here x q = record { value = q }

pub then_ok : {E A B : Type 0} {P : A → Type 0} {Q : B → Type 0} (r : Result A E) (f : A → Result B E)
    → Holds r P → ((x : A) → P x → Holds (f x) Q) → Holds (r >>= f) Q
then_ok (Ok x) f p q = q x p.value
then_ok (Err e) f p q = record { value = tt }

pub then_known : {E A B : Type 0} {Q : B → Type 0} (r : Result A E) (f : A → Result B E)
    → ((x : A) → r ≡ Ok x → Holds (f x) Q) → Holds (r >>= f) Q
then_known (Ok x) f q = q x refl
then_known (Err e) f q = record { value = tt }

pub Holds-map : {E A : Type 0} {P Q : A → Type 0} (r : Result A E) → Holds r P → ((x : A) → P x → Q x) → Holds r Q
Holds-map (Ok x) p q = here x (q x p.value)
Holds-map (Err e) p q = record { value = tt }

pub where_true : {E A : Type 0} {Q : A → Type 0} (b : Bool) (r : Result A E) (e : E) → (b ≡ true → Holds r Q)
    → Holds (cond b r (Err e)) Q
where_true true r e q = q refl
where_true false r e q = record { value = tt }

pub where_false : {E A : Type 0} {Q : A → Type 0} (b : Bool) (r : Result A E) (e : E) → (b ≡ false → Holds r Q)
    → Holds (cond b (Err e) r) Q
where_false true r e q = record { value = tt }
where_false false r e q = q refl

pub in_turn : {E A B : Type 0} {y : Result B E} (f : A → Result B E) (r : Result A E) (x : A) → r ≡ Ok x → f x ≡ y
    → (r >>= f) ≡ y
in_turn f r x e h = rw e h

pub Reads-fits : {E A : Type 0} {read : List ℕ → Field E A} {write : A → List ℕ} {F G : A → Type 0} → Reads read write F
    → ((x : A) → F x → G x) → ((x : A) → G x → F x) → Reads read write G
Reads-fits {E} {A} {read} {write} {F} {G} r there back = record {
  takes = λ bytes fits. as_fits bytes (read bytes) (r.takes bytes fits);
  again = λ x bytes rest e g. r.again x bytes rest e (back x g);
}
  where
    as_fits : (bytes : List ℕ) (result : Field E A) → Holds result (λ x. Takes bytes (write x.0) x.1 × F x.0)
        → Holds result (λ x. Takes bytes (write x.0) x.1 × G x.0)
    as_fits bytes (Ok x) h = here x (h.value.0, there x.0 h.value.1)
    as_fits bytes (Err e) h = record { value = tt }

pub checked-reads : {E A : Type 0} {read : List ℕ → Field E A} {write : A → List ℕ} {F : A → Type 0} (d : E)
    (passes : A → Bool) → Reads read write F
    → Reads (λ bytes. checked d passes (read bytes)) write (λ x. F x × (passes x ≡ true))
unfolding checked
checked-reads {E} {A} {read} {write} {F} d passes r = record {
  takes =
      λ bytes fits. then_ok (read bytes) (λ x. cond (passes x.0) (Ok x) (Err d)) (r.takes bytes fits)
      (λ x p. where_true (passes x.0) (Ok x) d (λ t. here x (p.0, (p.1, t))));
  again =
      λ x bytes rest e f. in_turn (λ x. cond (passes x.0) (Ok x) (Err d)) (read bytes) (x, rest)
      (r.again x bytes rest e f.0) (rw f.1 refl);
}

-- ---- numbers

pub AreBytes-drop : (n : ℕ) (bytes : List ℕ) → AreBytes bytes → AreBytes (drop n bytes)
AreBytes-drop n bytes h i = rw get_or-drop (h (n + i))

-- a number of so many bytes
number-reads : {E : Type 0} (short : E) (w : Width) (limit : ℕ) → ((n : ℕ) → length (to_be_bytes w n) ≡ byte_len w)
    → ReadsBack w limit → Reads (number_at short w) (to_be_bytes w) (λ n. n < limit)
unfolding number_at
number-reads {E} short w limit len back = record {
  takes = λ bytes fits. by bytes fits (base.number_at w bytes) refl;
  again =
      λ n bytes rest e lt. rw e
      (rw (back.again n rest lt)
      (ap (λ (t : List ℕ). Ok (n, t)) (drop_at (to_be_bytes w n) rest (byte_len w) (len n))));
}
  where
    by : (bytes : List ℕ) → AreBytes bytes → (o : Option (ℕ × ℕ)) → base.number_at w bytes ≡ o
        → Holds (number_of short bytes o) (λ x. Takes bytes (to_be_bytes w x.0) x.1 × (x.0 < limit))
    by bytes fits None e = record { value = tt }
    by bytes fits (Some x) e =
        let known = back.alone bytes x.0 x.1 fits e in
        here (x.0, drop x.1 bytes) (record { parts = known.0; rest_fits = AreBytes-drop x.1 bytes fits }, known.1)

pub u8-reads : {E : Type 0} (short : E) → Reads (number_at short w8) (to_be_bytes w8) (λ n. n < 2 ^ 8)
u8-reads short = number-reads short w8 (2 ^ 8) (λ n. refl) back8

pub u16-reads : {E : Type 0} (short : E) → Reads (number_at short w16) (to_be_bytes w16) (λ n. n < 2 ^ 16)
u16-reads short = number-reads short w16 (2 ^ 16) (λ n. refl) back16

pub u32-reads : {E : Type 0} (short : E) → Reads (number_at short w32) (to_be_bytes w32) (λ n. n < 2 ^ 32)
u32-reads short = number-reads short w32 (2 ^ 32) (λ n. refl) back32

pub u64-reads : {E : Type 0} (short : E) → Reads (number_at short w64) (to_be_bytes w64) (λ n. n < 2 ^ 64)
u64-reads short = number-reads short w64 (2 ^ 64) (λ n. refl) back64

-- ---- flags

flag_is : (n : ℕ) → n < 2 → u8 n ≡ flag (n == 1)
flag_is zero lt = refl
flag_is (suc zero) lt = refl
flag_is (suc (suc n)) lt = absurd (omega arith)

flag_again : {E : Type 0} (short other : E) (b : Bool) (bytes rest : List ℕ) → bytes ≡ flag b ++ rest
    → flag_at short other bytes ≡ Ok (b, rest)
unfolding flag_at
flag_again short other false bytes rest e =
    in_turn _ (checked other (λ n. nat_lt n 2) (number_at short w8 bytes)) _
    ((checked-reads other (λ n. nat_lt n 2) (u8-reads short)).again 0 bytes rest e (lit< tt, refl)) refl
flag_again short other true bytes rest e =
    in_turn _ (checked other (λ n. nat_lt n 2) (number_at short w8 bytes)) _
    ((checked-reads other (λ n. nat_lt n 2) (u8-reads short)).again 1 bytes rest e (lit< tt, refl)) refl

pub flag-reads : {E : Type 0} (short other : E) → Reads (flag_at short other) flag (λ b. Unit {0})
unfolding flag_at
flag-reads short other = record {
  takes =
      λ bytes fits. then_ok (checked other (λ n. nat_lt n 2) (number_at short w8 bytes)) _
      ((checked-reads other (λ n. nat_lt n 2) (u8-reads short)).takes bytes fits) (λ n p.
      here _ (subst (λ (t : List ℕ). Takes bytes t n.1) (flag_is n.0 (ltb-true _ _ p.1.1)) p.0, tt));
  again = λ b bytes rest e f. flag_again short other b bytes rest e;
}

-- ---- so many bytes, and so many values

pub bytes-takes : {E : Type 0} (short : E) (n : ℕ) (bytes : List ℕ) → AreBytes bytes
    → Holds (bytes_at short n bytes) (λ x. Takes bytes x.0 x.1 × (length x.0 ≡ n))
unfolding bytes_at
bytes-takes short n bytes fits =
    where_false (ltb (length bytes) n) (Ok (take n bytes, drop n bytes)) short (λ f.
    let long : n ≤ length bytes = ltb-false _ _ f in
    here (take n bytes, drop n bytes) (
      record { parts = sym (take-append-drop n bytes); rest_fits = AreBytes-drop n bytes fits },
      omega (arith, length-take n bytes),
    ))

pub bytes-again : {E : Type 0} (short : E) (n : ℕ) (text bytes rest : List ℕ) → bytes ≡ text ++ rest
    → length text ≡ n → bytes_at short n bytes ≡ Ok (text, rest)
unfolding bytes_at
bytes-again short n text bytes rest e len =
    let long : ltb (length (text ++ rest)) n ≡ false = le-ltb _ _ (omega (arith, length-append text rest)) in
    rw e (rw (long, take_at text rest n len, drop_at text rest n len) refl)

pub many-takes : {E A : Type 0} {read : List ℕ → Field E A} {write : A → List ℕ} {F : A → Type 0} → Reads read write F
    → (n : ℕ) (bytes : List ℕ) → AreBytes bytes
    → Holds (many read n bytes) (λ x. Takes bytes (flat_map write x.0) x.1 × (length x.0 ≡ n) × AllByRecursion F x.0)
unfolding many
many-takes r zero bytes fits = here ([], bytes) (record { parts = refl; rest_fits = fits }, refl, tt)
many-takes {E} {A} {read} {write} {F} r (suc n) bytes fits =
    then_ok (read bytes) (λ first. many read n first.1 >>= λ others. Ok (first.0 ∷ others.0, others.1))
    (r.takes bytes fits) (λ first p.
    then_ok (many read n first.1) (λ others. Ok (first.0 ∷ others.0, others.1))
    (many-takes r n first.1 p.0.rest_fits) (λ others q.
    here (first.0 ∷ others.0, others.1) (rw flat_map-cons (Takes-then p.0 q.0), ap suc q.1, (p.1, q.2))))

pub many-again : {E A : Type 0} {read : List ℕ → Field E A} {write : A → List ℕ} {F : A → Type 0} → Reads read write F
    → (xs : List A) (bytes rest : List ℕ) → bytes ≡ flat_map write xs ++ rest → AllByRecursion F xs
    → many read (length xs) bytes ≡ Ok (xs, rest)
unfolding many
many-again r [] bytes rest e f = ap (λ (t : List ℕ). Ok ([], t)) e
many-again {E} {A} {read} {write} {F} r (x ∷ xs) bytes rest e f =
    let split : bytes ≡ write x ++ (flat_map write xs ++ rest) = e
    ∙ ap (λ (t : List ℕ). t ++ rest) (flat_map-cons write x xs) ∙ append_assoc (write x) (flat_map write xs) rest in
    in_turn (λ first. many read (length xs) first.1 >>= λ others. Ok (first.0 ∷ others.0, others.1)) (read bytes)
    (x, flat_map write xs ++ rest) (r.again x bytes (flat_map write xs ++ rest) split f.0)
    (in_turn (λ others. Ok (x ∷ others.0, others.1)) (many read (length xs) (flat_map write xs ++ rest)) (xs, rest)
    (many-again r xs (flat_map write xs ++ rest) rest refl f.1) refl)

pub list-reads : {E A : Type 0} {read : List ℕ → Field E A} {write : A → List ℕ} {F : A → Type 0} (short : E)
    → Reads read write F → Reads (list_at short read) (list write) (λ xs. All F xs × (length xs < 2 ^ 32))
unfolding list_at list
list-reads {E} {A} {read} {write} {F} short r = record {
  takes = λ bytes fits.
      then_ok (number_at short w32 bytes) _ ((u32-reads short).takes bytes fits) (λ n p.
      Holds-map (many read n.0 n.1) (many-takes r n.0 n.1 p.0.rest_fits) (λ x q. (
        Takes-then (subst (λ (k : ℕ). Takes bytes (u32 k) n.1) (sym q.1) p.0) q.0,
        (All-from_recursion F x.0 q.2, subst (λ (k : ℕ). k < 2 ^ 32) (sym q.1) p.1),
      )));
  again = λ xs bytes rest e f.
      let split : bytes ≡ u32 (length xs) ++ (flat_map write xs ++ rest) = e in
      in_turn _ (number_at short w32 bytes) _ ((u32-reads short).again (length xs) bytes _ split f.1)
      (many-again r xs _ rest refl (recursion_from_All F xs f.0));
}

-- ---- whole encodings

-- what holds of what is read, holds of what a call answered
pub found : {E A : Type 0} {P : A → Type 0} (memory : E → Option Memory) (answered read : Result A E) → Holds read P
    → Gives memory (λ x. x) answered read → IfOk answered P
found memory (Ok x) read h given = known read x h given
found memory (Err e) read h given = tt

abbrev read_as : {E A : Type 0} → A → Result A E
read_as x = Ok x

same_value : {E A : Type 0} (x y : A) → read_as {E = E} x ≡ read_as y → x ≡ y
same_value x y e = cc

-- where an encoding is read again whatever follows it, none begins another
pub none_begins : {E A : Type 0} (read : List ℕ → Result (A × ℕ) E) (write : A → List ℕ) (a b : A) (x y : List ℕ)
    → read (write a ++ x) ≡ Ok (a, length (write a)) → read (write b ++ y) ≡ Ok (b, length (write b))
    → write a ++ x ≡ write b ++ y → (a ≡ b) × (x ≡ y)
none_begins {E} {A} read write a b x y first second e =
    let same : a ≡ b = ap (λ (p : A × ℕ). p.0)
    (same_value {E = E} (a, length (write a)) (b, length (write b)) (sym first ∙ (ap read e ∙ second))) in
    let from : write a ++ x ≡ write a ++ y = e ∙ ap (λ (c : A). write c ++ y) (sym same) in (
      same,
      sym (drop_at (write a) x (length (write a)) refl) ∙ ap (drop (length (write a))) from
          ∙ drop_at (write a) y (length (write a)) refl,
    )
