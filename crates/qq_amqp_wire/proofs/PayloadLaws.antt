-- Payloads and their spellings, and which fault a payload is that spells nothing.
use Rattle.std.proofs.Common.{◌≡◌, ℕ, ◌^◌, ◌<◌, Bool, true, false, cond, eqb, List, [], ◌∷◌, ◌++◌, Option, Some, None, Result, Ok, Err, refl, sym, ap, subst, ◌∙◌, append-nil}
use Rattle.std.specs.Prelude.{IfErr, IsSome}
use Rattle.std.specs.Int.{w16, w64}
use Rattle.std.proofs.lemmas.Bool.{eqb-true, eqb-false}
use Rattle.qq_base.specs.Fields.{AreBytes}
use Rattle.qq_fields.specs.Reading.{◌>>=◌, required}
use Rattle.qq_fields.specs.Writing.{u16}
use Rattle.qq_fields.proofs.Laws.{Takes, Holds, Holds-map, known, here, then_ok, in_turn, u16-reads, u64-reads}
use Rattle.qq_amqp_wire.specs.Arguments.{Field, text_of, at_values, number_at}
use Rattle.qq_amqp_wire.specs.Frames.{whole, method_in, header_in, payload_in, is_kind}
use Rattle.qq_amqp_wire.specs.Grammar.{SpellsMethod, SpellsHeader, SpellsPayload, NamesNoMethod, SpellsNothing, HasPayloadFault}
use Rattle.qq_amqp_wire.specs.Rows.{Row, row_at, row_of, made_by, arguments_at}
use Rattle.qq_amqp_wire.specs.Writing.{kind_of, channel_of}
use Rattle.qq_amqp_wire.specs.declared.fault.WireFault.{WireFault}
use Rattle.qq_amqp_wire.specs.declared.fault.WireFault.TheVariants.{BadProtocol, BadType, TooLong, BadEnd, BadMethod, BadField, Memory}
use Rattle.qq_amqp_wire.specs.declared.frame.Frame.{Frame}
use Rattle.qq_amqp_wire.specs.declared.frame.Frame.TheVariants.{Protocol, Method as MethodFrame, Header, Body, Heartbeat}
use Rattle.qq_amqp_wire.specs.declared.kinds.TheConstants as kinds
use Rattle.qq_amqp_wire.specs.declared.method.Method.{Method}
use Rattle.qq_amqp_wire.proofs.ArgumentLaws.{Tells, made_takes, made_again, MayBadField, bad_then, number_bad, made_bad}
use Rattle.qq_amqp_wire.proofs.RowLaws.{has_row, is_row}

-- ---- methods

-- what is read of a method's numbers and its arguments
record Named (class number : ℕ) (bytes : List ℕ) (x : Method × List ℕ) : Type 0 where
  row : Row
  found : row_at class number ≡ Some row
  tells : Tells row.arguments row.make bytes x

required_row : (class number : ℕ) (bytes : List ℕ) → AreBytes bytes → (o : Option Row) → row_at class number ≡ o
    → Holds (required (BadMethod class number) o >>= λ row. made_by row bytes) (Named class number bytes)
required_row class number bytes fits None e = record { value = tt }
required_row class number bytes fits (Some row) e =
    Holds-map (made_by row bytes) (made_takes row.arguments row.make bytes fits)
    (λ x t. record { row = row; found = e; tells = t })

arguments_take : (class number : ℕ) (bytes : List ℕ) → AreBytes bytes
    → Holds (arguments_at class number bytes) (Named class number bytes)
unfolding arguments_at
arguments_take class number bytes fits =
    required_row class number bytes fits (row_at class number) refl

-- a value whose bytes are all
all_takes : {A : Type 0} (P : A × List ℕ → Type 0) (x : A × List ℕ) → P x → Holds (whole x) (λ y. P (y, []))
all_takes P (x, []) p = here x p
all_takes P (x, b ∷ bytes) p = record { value = tt }

-- a method with its numbers, by the row that they have
spelled : (class number : ℕ) (payload first second : List ℕ) (m : Method) → Takes payload (u16 class) first
    → Takes first (u16 number) second → Named class number second (m, []) → SpellsMethod m payload
spelled class number payload first second m p q n =
    let row = is_row class number n.row n.found in
    let parts : second ≡ text_of n.row.arguments n.tells.parts = n.tells.takes.parts ∙ append-nil _ in
    let is : payload ≡ u16 n.row.class ++ (u16 n.row.number ++ text_of n.row.arguments n.tells.parts) =
    p.parts ∙ ap (λ (t : List ℕ). u16 class ++ t) (q.parts ∙ ap (λ (t : List ℕ). u16 number ++ t) parts)
    ∙ ap (λ (k : ℕ). u16 k ++ (u16 number ++ text_of n.row.arguments n.tells.parts)) (sym row.makes.class_is)
    ∙ ap (λ (k : ℕ). u16 n.row.class ++ (u16 k ++ text_of n.row.arguments n.tells.parts)) row.number_is in
    subst (λ (k : Method). SpellsMethod k payload) n.tells.is
    (row.makes.spells n.tells.parts n.tells.range payload is)

pub method_takes : (payload : List ℕ) → AreBytes payload → Holds (method_in payload) (λ m. SpellsMethod m payload)
unfolding method_in
method_takes payload fits =
    then_ok (number_at w16 payload) _ ((u16-reads BadField).takes payload fits) (λ class p.
    then_ok (number_at w16 class.1) _ ((u16-reads BadField).takes class.1 p.0.rest_fits) (λ number q.
    then_ok (arguments_at class.0 number.0 number.1) _
    (arguments_take class.0 number.0 number.1 q.0.rest_fits) (λ x n.
    Holds-map (whole x) (all_takes (Named class.0 number.0 number.1) x n)
    (λ m r. spelled class.0 number.0 payload class.1 number.1 m p.0 q.0 r))))

pub method_again : (m : Method) (payload : List ℕ) → SpellsMethod m payload → method_in payload ≡ Ok m
unfolding method_in arguments_at
method_again m payload s =
    let row = has_row m in
    let text = text_of (row_of m).arguments s.parts in
    let made : made_by (row_of m) text ≡ Ok (m, []) =
    made_again (row_of m).arguments (row_of m).make s.parts text [] (sym (append-nil text)) s.range
    ∙ ap (λ (x : Method). Ok (x, [])) (ap (at_values (row_of m).arguments (row_of m).make) s.values ∙ row.made) in
    in_turn _ (number_at w16 payload) _
    ((u16-reads BadField).again (row_of m).class payload (u16 (row_of m).number ++ text) s.is row.numbers.0)
    (in_turn _ (number_at w16 _) _ ((u16-reads BadField).again (row_of m).number _ text refl row.numbers.1)
    (in_turn _ (arguments_at (row_of m).class (row_of m).number text) (m, [])
    (rw row.found made) refl))

-- ---- payloads

header_takes : (channel : ℕ) (payload : List ℕ) → AreBytes payload
    → Holds (header_in channel payload)
    (λ f. SpellsPayload f payload × (kind_of f ≡ kinds.HEADER) × (channel_of f ≡ channel))
unfolding header_in
header_takes channel payload fits =
    then_ok (number_at w16 payload) _ ((u16-reads BadField).takes payload fits) (λ class p.
    then_ok (number_at w16 class.1) _ ((u16-reads BadField).takes class.1 p.0.rest_fits) (λ weight q.
    then_ok (number_at w64 weight.1) _ ((u64-reads BadField).takes weight.1 q.0.rest_fits) (λ size r.
    here (Header channel class.0 size.0 size.1) (
      record {
        weight = weight.0;
        range = (p.1, q.1, r.1);
        is = p.0.parts ∙ ap (λ (t : List ℕ). u16 class.0 ++ t)
            (q.0.parts ∙ ap (λ (t : List ℕ). u16 weight.0 ++ t) r.0.parts);
      },
      refl,
      refl,
    ))))

header_again : (channel class size : ℕ) (properties payload : List ℕ) → SpellsHeader class size properties payload
    → header_in channel payload ≡ Ok (Header channel class size properties)
unfolding header_in
header_again channel class size properties payload s =
    in_turn _ (number_at w16 payload) _ ((u16-reads BadField).again class payload _ s.is s.range.0)
    (in_turn _ (number_at w16 _) _ ((u16-reads BadField).again s.weight _ _ refl s.range.1)
    (in_turn _ (number_at w64 _) _ ((u64-reads BadField).again size _ properties refl s.range.2) refl))

holds_cond : {A : Type 0} {Q : A → Type 0} (b : Bool) (x y : Result A WireFault) → (b ≡ true → Holds x Q)
    → (b ≡ false → Holds y Q) → Holds (cond b x y) Q
holds_cond true x y p q = p refl
holds_cond false x y p q = q refl

-- the one type that is left
heartbeat_left : (kind : ℕ) → is_kind kind ≡ true → eqb kind kinds.METHOD ≡ false → eqb kind kinds.HEADER ≡ false
    → eqb kind kinds.BODY ≡ false → kind ≡ kinds.HEARTBEAT
heartbeat_left kind known e1 e2 e3 =
    let last : eqb kind kinds.HEARTBEAT ≡ true = rw (e1, e2, e3) at known in
    eqb-true kind kinds.HEARTBEAT last

-- what is read of a payload
abbrev Brings : ℕ → ℕ → List ℕ → Frame → Type 0
Brings kind channel payload f = SpellsPayload f payload × (kind_of f ≡ kind) × (channel_of f ≡ channel)

pub payload_takes : (kind channel : ℕ) (payload : List ℕ) → AreBytes payload → is_kind kind ≡ true
    → Holds (payload_in kind channel payload)
    (λ f. SpellsPayload f payload × (kind_of f ≡ kind) × (channel_of f ≡ channel))
unfolding payload_in
payload_takes kind channel payload fits known =
    holds_cond (eqb kind kinds.METHOD) _ _
    (λ is. then_ok {Q = Brings kind channel payload} (method_in payload) (λ m. Ok (MethodFrame channel m))
    (method_takes payload fits)
    (λ m s. here (MethodFrame channel m) (s, sym (eqb-true kind kinds.METHOD is), refl)))
    (λ no_method. holds_cond (eqb kind kinds.HEADER) _ _
    (λ is. Holds-map {Q = Brings kind channel payload} (header_in channel payload) (header_takes channel payload fits)
    (λ f s. (s.0, s.1 ∙ sym (eqb-true kind kinds.HEADER is), s.2)))
    (λ no_header. holds_cond (eqb kind kinds.BODY) _ _
    (λ is. here (Body channel payload) (refl, sym (eqb-true kind kinds.BODY is), refl))
    (λ no_body. empty payload (heartbeat_left kind known no_method no_header no_body))))
  where
    empty : (bytes : List ℕ) → kind ≡ kinds.HEARTBEAT
        → Holds (whole (Heartbeat channel, bytes)) (Brings kind channel bytes)
    empty [] is = here (Heartbeat channel) (refl, sym is, refl)
    empty (b ∷ bytes) is = record { value = tt }

pub payload_again : (f : Frame) (payload : List ℕ) → SpellsPayload f payload
    → payload_in (kind_of f) (channel_of f) payload ≡ Ok f
unfolding payload_in
payload_again Protocol payload s = absurd s
payload_again (MethodFrame channel m) payload s =
    in_turn (λ k. Ok (MethodFrame channel k)) (method_in payload) m (method_again m payload s) refl
payload_again (Header channel class size properties) payload s = header_again channel class size properties payload s
payload_again (Body channel bytes) payload s = ap (λ (t : List ℕ). Ok (Body channel t)) s
payload_again (Heartbeat channel) payload s = ap (λ (t : List ℕ). whole (Heartbeat channel, t)) s

-- ---- faults

-- what holds of the fault, if there is one
record Fails {A : Type 0} (r : Result A WireFault) (P : WireFault → Type 0) : Type 0 where
  value : IfErr r P

failed : {A : Type 0} {P : WireFault → Type 0} (r : Result A WireFault) (e : WireFault) → Fails r P → r ≡ Err e → P e
failed (Ok x) e f is = absurd cc
failed {P = P} (Err d) e f is = subst P (cc) f.value

fails_then : {A B : Type 0} {P : WireFault → Type 0} (r : Result A WireFault) (f : A → Result B WireFault)
    → Fails r P → ((x : A) → Fails (f x) P) → Fails (r >>= f) P
fails_then (Ok x) f p q = q x
fails_then (Err e) f p q = record { value = p.value }

fails_cond : {A : Type 0} {P : WireFault → Type 0} (b : Bool) (x y : Result A WireFault) → (b ≡ true → Fails x P)
    → (b ≡ false → Fails y P) → Fails (cond b x y) P
fails_cond true x y p q = p refl
fails_cond false x y p q = q refl

bad_fails : {A : Type 0} {P : WireFault → Type 0} (r : Result A WireFault) → MayBadField r → P BadField → Fails r P
bad_fails (Ok x) may p = record { value = tt }
bad_fails {P = P} (Err e) may p = record { value = subst P (sym may.value) p }

-- a method has the numbers of a payload
abbrev HasNumbers : List ℕ → Type 0
HasNumbers payload =
    (class number : ℕ) (rest : List ℕ) → class < 2 ^ 16 → number < 2 ^ 16
    → payload ≡ u16 class ++ (u16 number ++ rest) → IsSome (row_at class number)

data MethodFault (payload : List ℕ) : WireFault → Type 0 where
  IsBadField : HasNumbers payload → MethodFault payload BadField
  IsBadMethod : (class number : ℕ) → NamesNoMethod kinds.METHOD class number payload
      → MethodFault payload (BadMethod class number)

whole_bad : {A : Type 0} (x : A × List ℕ) → MayBadField (whole x)
whole_bad (x, []) = record { value = tt }
whole_bad (x, b ∷ bytes) = record { value = refl }

-- no numbers are there
no_class : (payload : List ℕ) (e : WireFault) → number_at w16 payload ≡ Err e → HasNumbers payload
no_class payload e is class number rest lt lt' split =
    absurd (not_both (number_at w16 payload) _ e ((u16-reads BadField).again class payload _ split lt) is)
  where
    not_both : (r : Field ℕ) (x : ℕ × List ℕ) (d : WireFault) → r ≡ Ok x → r ≡ Err d → ⊥
    not_both r x d a b = cc

same_pair : (x y : ℕ × List ℕ) (r : Field ℕ) → r ≡ Ok x → r ≡ Ok y → (x.0 ≡ y.0) × (x.1 ≡ y.1)
same_pair x y r a b = let e : x ≡ y = cc in (ap (λ (p : ℕ × List ℕ). p.0) e, ap (λ (p : ℕ × List ℕ). p.1) e)

no_number : (payload : List ℕ) (x : ℕ × List ℕ) (e : WireFault) → number_at w16 payload ≡ Ok x
    → number_at w16 x.1 ≡ Err e → HasNumbers payload
no_number payload x e first is class number rest lt lt' split =
    let same = same_pair _ x (number_at w16 payload) ((u16-reads BadField).again class payload _ split lt) first in
    absurd (not_both (number_at w16 x.1) _ e ((u16-reads BadField).again number x.1 rest (sym same.1) lt') is)
  where
    not_both : (r : Field ℕ) (y : ℕ × List ℕ) (d : WireFault) → r ≡ Ok y → r ≡ Err d → ⊥
    not_both r y d a b = cc

is_named : (payload : List ℕ) (x y : ℕ × List ℕ) → number_at w16 payload ≡ Ok x → number_at w16 x.1 ≡ Ok y
    → IsSome (row_at x.0 y.0) → HasNumbers payload
is_named payload x y first second some class number rest lt lt' split =
    let a = same_pair _ x (number_at w16 payload) ((u16-reads BadField).again class payload _ split lt) first in
    let b = same_pair _ y (number_at w16 x.1) ((u16-reads BadField).again number x.1 rest (sym a.1) lt') second in
    subst (λ (k : ℕ). IsSome (row_at k number)) (sym a.0) (subst (λ (k : ℕ). IsSome (row_at x.0 k)) (sym b.0) some)

method_fails : (payload : List ℕ) → AreBytes payload → Fails (method_in payload) (MethodFault payload)
unfolding method_in arguments_at
method_fails payload fits = by (number_at w16 payload) refl
  where
    as_bad : (e : WireFault) → MayBadField {A = ℕ × List ℕ} (Err e) → HasNumbers payload → MethodFault payload e
    as_bad e may numbers = subst (MethodFault payload) (sym may.value) (IsBadField numbers)

    row_by : (x y : ℕ × List ℕ) → number_at w16 payload ≡ Ok x → number_at w16 x.1 ≡ Ok y → (o : Option Row)
        → row_at x.0 y.0 ≡ o
        → Fails ((required (BadMethod x.0 y.0) o >>= λ row. made_by row y.1) >>= λ z. whole z) (MethodFault payload)
    row_by x y first second None unknown =
        let p = known (number_at w16 payload) x ((u16-reads BadField).takes payload fits) first in
        let q = known (number_at w16 x.1) y ((u16-reads BadField).takes x.1 p.0.rest_fits) second in record {
          value = IsBadMethod x.0 y.0 (record {
            method = refl;
            rest = y.1;
            range = (p.1, q.1);
            is = p.0.parts ∙ ap (λ (t : List ℕ). u16 x.0 ++ t) q.0.parts;
            unknown = unknown;
          });
        }
    row_by x y first second (Some row) found =
        bad_fails (made_by row y.1 >>= λ z. whole z)
        (bad_then (made_by row y.1) (λ z. whole z) (made_bad row.arguments row.make y.1) (λ z. whole_bad z))
        (IsBadField (is_named payload x y first second (subst IsSome (sym found) refl)))

    number_by : (x : ℕ × List ℕ) → number_at w16 payload ≡ Ok x → (r : Field ℕ) → number_at w16 x.1 ≡ r
        → Fails (r >>= λ y. arguments_at x.0 y.0 y.1 >>= λ z. whole z) (MethodFault payload)
    number_by x first (Err e) is =
        record { value = as_bad e (subst MayBadField is (number_bad w16 x.1)) (no_number payload x e first is) }
    number_by x first (Ok y) is = row_by x y first is (row_at x.0 y.0) refl

    by : (r : Field ℕ) → number_at w16 payload ≡ r
        → Fails (r >>= λ x. number_at w16 x.1 >>= λ y. arguments_at x.0 y.0 y.1 >>= λ z. whole z) (MethodFault payload)
    by (Err e) is =
        record { value = as_bad e (subst MayBadField is (number_bad w16 payload)) (no_class payload e is) }
    by (Ok x) is = number_by x is (number_at w16 x.1) refl

-- no frame of the type and channel has a payload that isn't read
spells_none : (kind channel : ℕ) (payload : List ℕ) (e : WireFault) → payload_in kind channel payload ≡ Err e
    → (f : Frame) → kind_of f ≡ kind → channel_of f ≡ channel → SpellsPayload f payload → ⊥
spells_none kind channel payload e fails f k c s =
    let again : payload_in kind channel payload ≡ Ok f =
    ap (λ (n : ℕ). payload_in n channel payload) (sym k) ∙ ap (λ (n : ℕ). payload_in (kind_of f) n payload) (sym c)
    ∙ payload_again f payload s in
    not_both (payload_in kind channel payload) f e again fails
  where
    not_both : (r : Result Frame WireFault) (x : Frame) (d : WireFault) → r ≡ Ok x → r ≡ Err d → ⊥
    not_both r x d a b = cc

-- what may be wrong with a payload, but that some frame has it
data PayloadFault (kind : ℕ) (payload : List ℕ) : WireFault → Type 0 where
  IsBad : (kind ≡ kinds.METHOD → HasNumbers payload) → PayloadFault kind payload BadField
  IsUnknown : (class number : ℕ) → NamesNoMethod kind class number payload
      → PayloadFault kind payload (BadMethod class number)

of_method : (kind : ℕ) (payload : List ℕ) (e : WireFault) → kind ≡ kinds.METHOD → MethodFault payload e
    → PayloadFault kind payload e
of_method kind payload e is f = subst (λ (k : ℕ). PayloadFault k payload e) (sym is) (by e f)
  where
    by : (d : WireFault) → MethodFault payload d → PayloadFault kinds.METHOD payload d
    by _ (IsBadField numbers) = IsBad (λ _. numbers)
    by _ (IsBadMethod class number names) = IsUnknown class number names

header_bad : (channel : ℕ) (payload : List ℕ) → MayBadField (header_in channel payload)
unfolding header_in
header_bad channel payload =
    bad_then (number_at w16 payload) _ (number_bad w16 payload) (λ class.
    bad_then (number_at w16 class.1) _ (number_bad w16 class.1) (λ weight.
    bad_then (number_at w64 weight.1) _ (number_bad w64 weight.1) (λ size. record { value = tt })))

no_method_bad : (kind : ℕ) (payload : List ℕ) → eqb kind kinds.METHOD ≡ false → PayloadFault kind payload BadField
no_method_bad kind payload other = IsBad (λ is. absurd (eqb-false kind kinds.METHOD other is))

payload_fails : (kind channel : ℕ) (payload : List ℕ) → AreBytes payload
    → Fails (payload_in kind channel payload) (PayloadFault kind payload)
unfolding payload_in
payload_fails kind channel payload fits =
    fails_cond (eqb kind kinds.METHOD) _ _
    (λ is. fails_then (method_in payload) (λ m. Ok (MethodFrame channel m))
    (lifted (method_in payload) (eqb-true kind kinds.METHOD is) (method_fails payload fits))
    (λ m. record { value = tt }))
    (λ other. fails_cond (eqb kind kinds.HEADER) _ _
    (λ _. bad_fails (header_in channel payload) (header_bad channel payload) (no_method_bad kind payload other))
    (λ _. fails_cond (eqb kind kinds.BODY) _ _
    (λ _. record { value = tt })
    (λ _. bad_fails (whole (Heartbeat channel, payload)) (whole_bad (Heartbeat channel, payload))
    (no_method_bad kind payload other))))
  where
    lifted : (r : Result Method WireFault) → kind ≡ kinds.METHOD → Fails r (MethodFault payload)
        → Fails r (PayloadFault kind payload)
    lifted (Ok m) is f = record { value = tt }
    lifted (Err e) is f = record { value = of_method kind payload e is f.value }

-- the fault of a payload is where the grammar has it
pub payload_fault : (kind channel : ℕ) (payload : List ℕ) (e : WireFault) → AreBytes payload
    → payload_in kind channel payload ≡ Err e → HasPayloadFault kind channel payload e
payload_fault kind channel payload e fits is =
    by e (failed (payload_in kind channel payload) e (payload_fails kind channel payload fits) is)
    (spells_none kind channel payload e is)
  where
    by : (d : WireFault) → PayloadFault kind payload d
        → ((f : Frame) → kind_of f ≡ kind → channel_of f ≡ channel → SpellsPayload f payload → ⊥)
        → HasPayloadFault kind channel payload d
    by _ (IsBad numbers) none = record {
      nothing = none;
      named = λ class number rest method lt lt' split. numbers method class number rest lt lt' split;
    }
    by _ (IsUnknown class number names) none = names

none_some : {A : Type 0} (o : Option A) → IsSome o → o ≡ None → ⊥
none_some None some none = cc
none_some (Some x) some none = cc

then_err : {A B : Type 0} (r : Result A WireFault) (f : A → Result B WireFault) (e : WireFault) → r ≡ Err e
    → (r >>= f) ≡ Err e
then_err r f e is = rw is refl

unknown_method : (kind channel class number : ℕ) (payload : List ℕ) → NamesNoMethod kind class number payload
    → payload_in kinds.METHOD channel payload ≡ Err (BadMethod class number)
unfolding payload_in method_in arguments_at
unknown_method kind channel class number payload f =
    then_err (method_in payload) (λ m. Ok (MethodFrame channel m)) (BadMethod class number)
    (in_turn _ (number_at w16 payload) _ ((u16-reads BadField).again class payload _ f.is f.range.0)
    (in_turn _ (number_at w16 _) _ ((u16-reads BadField).again number _ f.rest refl f.range.1)
    (rw f.unknown refl)))

bad_field : (kind channel : ℕ) (payload : List ℕ) (d : WireFault) → SpellsNothing kind channel payload
    → PayloadFault kind payload d → d ≡ BadField
bad_field kind channel payload _ s (IsBad numbers) = refl
bad_field kind channel payload _ s (IsUnknown class number names) =
    absurd (none_some (row_at class number)
    (s.named class number names.rest names.method names.range.0 names.range.1 names.is) names.unknown)

-- the fault that the grammar has is the payload's
pub payload_fault_again : (kind channel : ℕ) (payload : List ℕ) (e : WireFault) → AreBytes payload
    → is_kind kind ≡ true → HasPayloadFault kind channel payload e → payload_in kind channel payload ≡ Err e
payload_fault_again kind channel payload BadProtocol fits is f = absurd f
payload_fault_again kind channel payload BadType fits is f = absurd f
payload_fault_again kind channel payload TooLong fits is f = absurd f
payload_fault_again kind channel payload BadEnd fits is f = absurd f
payload_fault_again kind channel payload (BadMethod class number) fits is f =
    ap (λ (k : ℕ). payload_in k channel payload) f.method ∙ unknown_method kind channel class number payload f
payload_fault_again kind channel payload BadField fits is f =
    by (payload_in kind channel payload) refl
  where
    by : (r : Result Frame WireFault) → payload_in kind channel payload ≡ r → r ≡ Err BadField
    by (Ok x) read =
        let found = known (payload_in kind channel payload) x (payload_takes kind channel payload fits is) read in
        absurd (f.nothing x found.1 found.2 found.0)
    by (Err d) read =
        ap (λ (e : WireFault). Err e)
        (bad_field kind channel payload d f
        (failed (payload_in kind channel payload) d (payload_fails kind channel payload fits) read))
payload_fault_again kind channel payload Memory fits is f = absurd f
