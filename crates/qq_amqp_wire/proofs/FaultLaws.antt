-- What is found at the front of bytes: a frame in its spelling, or a fault where the grammar has it.
use Rattle.std.proofs.Common.{◌≡◌, ℕ, suc, ◌+◌, ◌-◌, ◌^◌, ◌<◌, ◌≤◌, Bool, true, false, cond, eqb, ltb, List, ◌∷◌, ◌++◌, length, take, drop, get_or, Some, None, Result, Ok, Err, refl, sym, ap, subst, ◌∙◌, arith}
use Rattle.std.proofs.lemmas.Bool.{ltb-true, ltb-false, lt-ltb, le-ltb, eqb-true, eqb-false, ne_eqb}
use Rattle.std.proofs.lemmas.List.{drop_at, take-append-drop, length-append, length-take-le}
use Rattle.std.proofs.Math.Seq.{drop-cons, get_or-append_seam, take-append_seam}
use Rattle.qq_base.specs.Fields.{AreBytes}
use Rattle.qq_base.proofs.Numbers.{AreBytes-take}
use Rattle.qq_fields.specs.Reading as fields
use Rattle.qq_fields.specs.Reading.{◌>>=◌}
use Rattle.qq_fields.specs.Writing.{u8, u16, u32}
use Rattle.qq_fields.proofs.Laws.{known, AreBytes-drop}
use Rattle.qq_amqp_wire.specs.Frames.{payload_in, is_kind, has_bad_kind, head_at, Found, frame_of, frame_by, frame_at}
use Rattle.qq_amqp_wire.specs.Grammar.{IsShort, HasNoKind, IsTooLong, HasNoEnd, HasBadPayload, HasFrameFault, HasFault, IsRead}
use Rattle.qq_amqp_wire.specs.Writing.{kind_of, channel_of, framed}
use Rattle.qq_amqp_wire.specs.declared.fault.WireFault.{WireFault}
use Rattle.qq_amqp_wire.specs.declared.fault.WireFault.TheVariants.{BadProtocol, BadType, TooLong, BadEnd, BadMethod, BadField, Memory}
use Rattle.qq_amqp_wire.specs.declared.frame.Frame.{Frame}
use Rattle.qq_amqp_wire.specs.declared.head.Head.{Head}
use Rattle.qq_amqp_wire.specs.declared.kinds.TheConstants as kinds
use Rattle.qq_amqp_wire.proofs.FrameLaws.{HasHead, head_takes, head_again, no_kind, kind_known, kind_good, framed_len, framed_then, whole_again}
use Rattle.qq_amqp_wire.proofs.PayloadLaws.{payload_takes, payload_fault, payload_fault_again}

-- what a reader found, in the grammar's words
abbrev pub Outcome : Bool → ℕ → List ℕ → Found → Type 0
Outcome begun max bytes (Ok None) = Unit {0}
Outcome begun max bytes (Ok (Some x)) = IsRead begun max bytes x.0 (drop x.1 bytes)
Outcome begun max bytes (Err e) = HasFault begun max bytes e

pub record Finds (begun : Bool) (max : ℕ) (bytes : List ℕ) (r : Found) : Type 0 where
  pub value : Outcome begun max bytes r

pub finds_cond : (begun : Bool) (max : ℕ) (bytes : List ℕ) (b : Bool) (x y : Found) → (b ≡ true → Finds begun max bytes x)
    → (b ≡ false → Finds begun max bytes y) → Finds begun max bytes (cond b x y)
finds_cond begun max bytes true x y p q = p refl
finds_cond begun max bytes false x y p q = q refl

frame_fault : (max : ℕ) (bytes : List ℕ) (e : WireFault) → HasBadPayload max bytes e → HasFrameFault max bytes e
frame_fault max bytes BadProtocol b = absurd b.fails
frame_fault max bytes BadType b = absurd b.fails
frame_fault max bytes TooLong b = absurd b.fails
frame_fault max bytes BadEnd b = absurd b.fails
frame_fault max bytes (BadMethod class number) b = b
frame_fault max bytes BadField b = b
frame_fault max bytes Memory b = absurd b.fails

-- ---- what is found is there

-- the payload of a head, the byte after it, and the bytes after that
record HasPayload (head : Head) (bytes rest : List ℕ) (last : ℕ) : Type 0 where
  is : bytes
      ≡ u8 head.kind ++ (u16 head.channel ++ (u32 (length (take head.size rest))
      ++ (take head.size rest ++ last ∷ drop (suc head.size) rest)))
  len : length (take head.size rest) ≡ head.size

payload_there : (bytes : List ℕ) (head : Head) (rest : List ℕ) → HasHead bytes (head, rest) → head.size + 1 ≤ length rest
    → HasPayload head bytes rest (get_or rest head.size 0)
payload_there bytes head rest h le =
    let len : length (take head.size rest) ≡ head.size = length-take-le head.size rest (omega arith) in
    let lt : head.size < length rest = omega arith in
    let split : rest ≡ take head.size rest ++ get_or rest head.size 0 ∷ drop (suc head.size) rest =
    sym (take-append-drop head.size rest) ∙ ap (λ (t : List ℕ). take head.size rest ++ t) (drop-cons rest head.size 0 lt)
    in record {
      is = h.is
          ∙ ap (λ (t : List ℕ). u8 head.kind ++ (u16 head.channel ++ (u32 head.size ++ t))) split
          ∙ ap (λ (n : ℕ). u8 head.kind ++ (u16 head.channel ++ (u32 n
          ++ (take head.size rest ++ get_or rest head.size 0 ∷ drop (suc head.size) rest)))) (sym len);
      len = len;
    }

payload_short : (max : ℕ) (bytes rest : List ℕ) (head : Head) → HasHead bytes (head, rest)
    → ltb (max - 8) head.size ≡ false → length (take head.size rest) ≡ head.size → IsShort max (take head.size rest)
payload_short max bytes rest head h within len = record {
  within = rw len (ltb-false _ _ within);
  fits = rw len (h.range.2);
}

-- a frame up to its end
whole_finds : (max : ℕ) (bytes : List ℕ) (head : Head) (rest : List ℕ) → HasHead bytes (head, rest)
    → is_kind head.kind ≡ true → IsShort max (take head.size rest) → length (take head.size rest) ≡ head.size
    → bytes ≡ framed head.kind head.channel (take head.size rest) ++ drop (suc head.size) rest
    → Finds true max bytes (payload_in head.kind head.channel (take head.size rest) >>= λ f. Ok (Some (f, head.size + 8)))
whole_finds max bytes head rest h kind short len is =
    by (payload_in head.kind head.channel (take head.size rest)) refl
  where
    fits : AreBytes (take head.size rest)
    fits = AreBytes-take head.size rest h.rest_fits

    by : (r : Result Frame WireFault) → payload_in head.kind head.channel (take head.size rest) ≡ r
        → Finds true max bytes (r >>= λ f. Ok (Some (f, head.size + 8)))
    by (Ok f) read =
        let brings = known (payload_in head.kind head.channel (take head.size rest)) f
        (payload_takes head.kind head.channel (take head.size rest) fits kind) read in
        let text : framed head.kind head.channel (take head.size rest)
        ≡ framed (kind_of f) (channel_of f) (take head.size rest) =
        ap (λ (k : ℕ). framed k head.channel (take head.size rest)) (sym brings.1)
        ∙ ap (λ (c : ℕ). framed (kind_of f) c (take head.size rest)) (sym brings.2) in
        let size : length (framed head.kind head.channel (take head.size rest)) ≡ head.size + 8 =
        framed_len head.kind head.channel (take head.size rest) ∙ ap (λ (n : ℕ). n + 8) len in
        let left : drop (head.size + 8) bytes ≡ drop (suc head.size) rest = ap (drop (head.size + 8)) is
        ∙ drop_at (framed head.kind head.channel (take head.size rest)) (drop (suc head.size) rest) (head.size + 8) size
        in record {
          value = record {
            text = framed head.kind head.channel (take head.size rest);
            spells = record {
              payload = take head.size rest;
              spells = brings.0;
              short = short;
              channel = subst (λ (c : ℕ). c < 2 ^ 16) (sym brings.2) h.range.1;
              is = text;
            };
            is = is ∙ ap (λ (t : List ℕ). framed head.kind head.channel (take head.size rest) ++ t) (sym left);
          };
        }
    by (Err e) read = record {
      value = frame_fault max bytes e (record {
        kind = head.kind;
        channel = head.channel;
        payload = take head.size rest;
        rest = drop (suc head.size) rest;
        known = kind;
        range = (h.range.0, h.range.1);
        short = short;
        is = is;
        fails = payload_fault head.kind head.channel (take head.size rest) e fits read;
      });
    }

frame_of_finds : (max : ℕ) (bytes : List ℕ) (head : Head) (rest : List ℕ) → HasHead bytes (head, rest)
    → is_kind head.kind ≡ true → Finds true max bytes (frame_of max head rest)
unfolding frame_of
frame_of_finds max bytes head rest h kind =
    finds_cond true max bytes (ltb (max - 8) head.size) _ _ (λ long. record {
      value = record {
        kind = head.kind;
        channel = head.channel;
        size = head.size;
        rest = rest;
        known = kind;
        range = h.range;
        is = h.is;
        long = ltb-true _ _ long;
      };
    })
    (λ within. finds_cond true max bytes (ltb (length rest) (head.size + 1)) _ _ (λ _. record { value = tt })
    (λ long. let le : head.size + 1 ≤ length rest = ltb-false _ _ long in
    let there = payload_there bytes head rest h le in
    let short = payload_short max bytes rest head h within there.len in
    finds_cond true max bytes (eqb (get_or rest head.size 0) kinds.END) _ _
    (λ ends. let last : get_or rest head.size 0 ≡ kinds.END = eqb-true _ _ ends in
    whole_finds max bytes head rest h kind short there.len
    (there.is ∙ ap (λ (b : ℕ). u8 head.kind ++ (u16 head.channel ++ (u32 (length (take head.size rest))
    ++ (take head.size rest ++ b ∷ drop (suc head.size) rest)))) last
    ∙ sym (framed_then head.kind head.channel (take head.size rest) (drop (suc head.size) rest))))
    (λ other. record {
      value = record {
        kind = head.kind;
        channel = head.channel;
        payload = take head.size rest;
        last = get_or rest head.size 0;
        rest = drop (suc head.size) rest;
        known = kind;
        range = (h.range.0, h.range.1);
        short = short;
        is = there.is;
        other = eqb-false _ _ other;
      };
    })))

pub frame_finds : (max : ℕ) (bytes : List ℕ) → AreBytes bytes → Finds true max bytes (frame_at max bytes)
unfolding frame_at
frame_finds max bytes fits =
    finds_cond true max bytes (has_bad_kind bytes) (Err BadType) (frame_by max (head_at bytes))
    (λ bad. record { value = no_kind bytes bad }) (λ good. by good (head_at bytes) refl)
  where
    by : has_bad_kind bytes ≡ false → (r : fields.Field (Unit {0}) Head) → head_at bytes ≡ r
        → Finds true max bytes (frame_by max r)
    by good (Err e) read = record { value = tt }
    by good (Ok x) read =
        let h = known (head_at bytes) x (head_takes bytes fits) read in
        frame_of_finds max bytes x.0 x.1 h (kind_known x.0.kind bytes _ h.range.0 h.is good)

-- ---- a fault that is there is found

no_kind_again : (max : ℕ) (bytes : List ℕ) → HasNoKind bytes → frame_at max bytes ≡ Err BadType
unfolding frame_at
no_kind_again max bytes f =
    let bad : has_bad_kind bytes ≡ true = ap has_bad_kind f.is ∙ ap (λ (b : Bool). cond b false true) f.unknown in
    rw bad refl

too_long_again : (max : ℕ) (bytes : List ℕ) → IsTooLong max bytes → frame_at max bytes ≡ Err TooLong
unfolding frame_at frame_of
too_long_again max bytes f =
    let long : ltb (max - 8) f.size ≡ true = lt-ltb _ _ f.long in
    rw (
      kind_good f.kind bytes _ f.range.0 f.is f.known,
      head_again f.kind f.channel f.size bytes f.rest f.is f.range.0 f.range.1 f.range.2,
      long,
    ) refl

no_end_again : (max : ℕ) (bytes : List ℕ) → HasNoEnd max bytes → frame_at max bytes ≡ Err BadEnd
unfolding frame_at frame_of
no_end_again max bytes f =
    let within : ltb (max - 8) (length f.payload) ≡ false = le-ltb _ _ f.short.within in
    let there : ltb (length (f.payload ++ f.last ∷ f.rest)) (length f.payload + 1) ≡ false = le-ltb _ _
    (omega (arith, length-append f.payload (f.last ∷ f.rest))) in
    let last : get_or (f.payload ++ f.last ∷ f.rest) (length f.payload) 0 ≡ f.last =
    get_or-append_seam f.payload f.last f.rest 0 in
    let other : eqb f.last kinds.END ≡ false = ne_eqb f.last kinds.END f.other in
    rw (
      kind_good f.kind bytes _ f.range.0 f.is f.known,
      head_again f.kind f.channel (length f.payload) bytes (f.payload ++ f.last ∷ f.rest) f.is f.range.0 f.range.1
          f.short.fits,
      within,
      there,
      last,
      other,
    ) refl

-- the bytes of a frame's payload
payload_bytes : (kind channel : ℕ) (payload rest bytes : List ℕ) → AreBytes bytes
    → bytes ≡ framed kind channel payload ++ rest → AreBytes payload
payload_bytes kind channel payload rest bytes fits is i =
    let split = is ∙ framed_then kind channel payload rest in
    let seven : drop 7 bytes ≡ payload ++ kinds.END ∷ rest = ap (drop 7) split in
    let front : take (length payload) (drop 7 bytes) ≡ payload =
    ap (take (length payload)) seven ∙ take-append_seam payload (kinds.END ∷ rest) in
    subst AreBytes front (AreBytes-take (length payload) (drop 7 bytes) (AreBytes-drop 7 bytes fits)) i

bad_payload_again : (max : ℕ) (bytes : List ℕ) (e : WireFault) → AreBytes bytes → HasBadPayload max bytes e
    → frame_at max bytes ≡ Err e
bad_payload_again max bytes e fits f =
    whole_again max f.kind f.channel f.payload f.rest bytes f.known f.range.0 f.range.1 f.short f.is
    ∙ rw (payload_fault_again f.kind f.channel f.payload e
    (payload_bytes f.kind f.channel f.payload f.rest bytes fits f.is) f.known f.fails) refl

pub frame_fault_again : (max : ℕ) (bytes : List ℕ) (e : WireFault) → AreBytes bytes → HasFrameFault max bytes e
    → frame_at max bytes ≡ Err e
frame_fault_again max bytes BadProtocol fits f = absurd f
frame_fault_again max bytes BadType fits f = no_kind_again max bytes f
frame_fault_again max bytes TooLong fits f = too_long_again max bytes f
frame_fault_again max bytes BadEnd fits f = no_end_again max bytes f
frame_fault_again max bytes (BadMethod class number) fits f =
    bad_payload_again max bytes (BadMethod class number) fits f
frame_fault_again max bytes BadField fits f = bad_payload_again max bytes BadField fits f
frame_fault_again max bytes Memory fits f = absurd f
