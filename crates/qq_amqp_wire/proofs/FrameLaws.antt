-- Frames and their spellings, and where faults stand.
use Rattle.std.proofs.Common.{◌≡◌, ℕ, ◌+◌, ◌-◌, ◌%◌, ◌^◌, ◌<◌, Bool, true, false, cond, ltb, List, [], ◌∷◌, ◌++◌, length, get_or, Some, Ok, refl, sym, ap, ◌∙◌, append_assoc, arith, lit<}
use Rattle.std.specs.Int.{w8, w16, w32}
use Rattle.std.proofs.lemmas.Bool.{le-ltb}
use Rattle.std.proofs.lemmas.List.{length-append}
use Rattle.std.proofs.Math.Nat.{mod-eq_of_lt}
use Rattle.std.proofs.Math.Seq.{get_or-append_seam, take-append_seam}
use Rattle.qq_base.specs.Fields.{AreBytes}
use Rattle.qq_fields.specs.Reading as fields
use Rattle.qq_fields.specs.Reading.{◌>>=◌}
use Rattle.qq_fields.specs.Writing.{u8, u16, u32}
use Rattle.qq_fields.proofs.Laws.{Holds, known, here, then_ok, in_turn, u8-reads, u16-reads, u32-reads}
use Rattle.qq_amqp_wire.specs.Frames.{payload_in, is_kind, has_bad_kind, head_at, frame_of, frame_at}
use Rattle.qq_amqp_wire.specs.Grammar.{SpellsPayload, IsShort, SpellsFrame, HasNoKind}
use Rattle.qq_amqp_wire.specs.Writing.{kind_of, channel_of, framed}
use Rattle.qq_amqp_wire.specs.declared.frame.Frame.{Frame}
use Rattle.qq_amqp_wire.specs.declared.frame.Frame.TheVariants.{Protocol, Method as MethodFrame, Header, Body, Heartbeat}
use Rattle.qq_amqp_wire.specs.declared.head.Head.{Head}
use Rattle.qq_amqp_wire.specs.declared.kinds.TheConstants as kinds
use Rattle.qq_amqp_wire.proofs.PayloadLaws.{payload_again}

-- ---- heads

-- a head in range, and the bytes after it
pub record HasHead (bytes : List ℕ) (x : Head × List ℕ) : Type 0 where
  pub is : bytes ≡ u8 x.0.kind ++ (u16 x.0.channel ++ (u32 x.0.size ++ x.1))
  pub range : (x.0.kind < 2 ^ 8) × (x.0.channel < 2 ^ 16) × (x.0.size < 2 ^ 32)
  pub rest_fits : AreBytes x.1

pub head_takes : (bytes : List ℕ) → AreBytes bytes → Holds (head_at bytes) (HasHead bytes)
unfolding head_at
head_takes bytes fits =
    then_ok (fields.number_at tt w8 bytes) _ ((u8-reads tt).takes bytes fits) (λ kind p.
    then_ok (fields.number_at tt w16 kind.1) _ ((u16-reads tt).takes kind.1 p.0.rest_fits) (λ channel q.
    then_ok (fields.number_at tt w32 channel.1) _ ((u32-reads tt).takes channel.1 q.0.rest_fits) (λ size r.
    here (record { kind = kind.0; channel = channel.0; size = size.0 }, size.1) (record {
      is = p.0.parts ∙ ap (λ (t : List ℕ). u8 kind.0 ++ t)
          (q.0.parts ∙ ap (λ (t : List ℕ). u16 channel.0 ++ t) r.0.parts);
      range = (p.1, q.1, r.1);
      rest_fits = r.0.rest_fits;
    }))))

pub head_again : (kind channel size : ℕ) (bytes rest : List ℕ) → bytes ≡ u8 kind ++ (u16 channel ++ (u32 size ++ rest))
    → kind < 2 ^ 8 → channel < 2 ^ 16 → size < 2 ^ 32
    → head_at bytes ≡ Ok (record { kind = kind; channel = channel; size = size }, rest)
unfolding head_at
head_again kind channel size bytes rest e k c n =
    in_turn _ (fields.number_at tt w8 bytes) _ ((u8-reads tt).again kind bytes _ e k)
    (in_turn _ (fields.number_at tt w16 _) _ ((u16-reads tt).again channel _ _ refl c)
    (in_turn _ (fields.number_at tt w32 _) _ ((u32-reads tt).again size _ rest refl n) refl))

not_known : (b : Bool) → cond b false true ≡ true → b ≡ false
not_known true e = absurd (cc)
not_known false e = refl

is_known : (b : Bool) → cond b false true ≡ false → b ≡ true
is_known true e = refl
is_known false e = absurd (cc)

pub no_kind : (bytes : List ℕ) → has_bad_kind bytes ≡ true → HasNoKind bytes
no_kind [] e = absurd (cc)
no_kind (kind ∷ bytes) e = record { kind = kind; rest = bytes; is = refl; unknown = not_known (is_kind kind) e }

-- the type of a head is one, where the first byte is
pub kind_known : (kind : ℕ) (bytes rest : List ℕ) → kind < 2 ^ 8 → bytes ≡ u8 kind ++ rest → has_bad_kind bytes ≡ false
    → is_kind kind ≡ true
kind_known kind bytes rest lt e good =
    let first : has_bad_kind (u8 kind ++ rest) ≡ false = sym (ap has_bad_kind e) ∙ good in
    ap is_kind (sym (mod-eq_of_lt lt)) ∙ is_known (is_kind (kind % 256)) first

pub kind_good : (kind : ℕ) (bytes rest : List ℕ) → kind < 2 ^ 8 → bytes ≡ u8 kind ++ rest → is_kind kind ≡ true
    → has_bad_kind bytes ≡ false
kind_good kind bytes rest lt e is =
    ap has_bad_kind e ∙ ap (λ (b : Bool). cond b false true) (ap is_kind (mod-eq_of_lt lt) ∙ is)

-- ---- a whole frame

pub framed_len : (kind channel : ℕ) (payload : List ℕ) → length (framed kind channel payload) ≡ length payload + 8
unfolding framed
framed_len kind channel payload = omega (arith, length-append payload (kinds.END ∷ []))

pub framed_then : (kind channel : ℕ) (payload rest : List ℕ) → framed kind channel payload ++ rest
    ≡ u8 kind ++ (u16 channel ++ (u32 (length payload) ++ (payload ++ kinds.END ∷ rest)))
unfolding framed
framed_then kind channel payload rest =
    let last : (payload ++ kinds.END ∷ []) ++ rest ≡ payload ++ kinds.END ∷ rest =
    append_assoc payload (kinds.END ∷ []) rest in
    ap (λ (t : List ℕ). u8 kind ++ (u16 channel ++ (u32 (length payload) ++ t))) last

-- what is left of a frame whose head is read
frame_rest : (max kind channel : ℕ) (payload rest : List ℕ) → IsShort max payload
    → frame_of max (record { kind = kind; channel = channel; size = length payload }) (payload ++ kinds.END ∷ rest)
    ≡ (payload_in kind channel payload >>= λ f. Ok (Some (f, length payload + 8)))
unfolding frame_of
frame_rest max kind channel payload rest short =
    let within : ltb (max - 8) (length payload) ≡ false = le-ltb _ _ short.within in
    let there : ltb (length (payload ++ kinds.END ∷ rest)) (length payload + 1) ≡ false = le-ltb _ _
    (omega (arith, length-append payload (kinds.END ∷ rest))) in
    let last : get_or (payload ++ kinds.END ∷ rest) (length payload) 0 ≡ kinds.END =
    get_or-append_seam payload kinds.END rest 0 in
    rw (within, there, last, take-append_seam payload (kinds.END ∷ rest)) refl

pub whole_again : (max kind channel : ℕ) (payload rest bytes : List ℕ) → is_kind kind ≡ true → kind < 2 ^ 8
    → channel < 2 ^ 16 → IsShort max payload → bytes ≡ framed kind channel payload ++ rest
    → frame_at max bytes ≡ (payload_in kind channel payload >>= λ f. Ok (Some (f, length payload + 8)))
unfolding frame_at
whole_again max kind channel payload rest bytes known k c short e =
    let split : bytes ≡ u8 kind ++ (u16 channel ++ (u32 (length payload) ++ (payload ++ kinds.END ∷ rest))) =
    e ∙ framed_then kind channel payload rest in
    rw (
      kind_good kind bytes _ k split known,
      head_again kind channel (length payload) bytes (payload ++ kinds.END ∷ rest) split k c short.fits,
    )
    (frame_rest max kind channel payload rest short)

kind_in_range : (f : Frame) (payload : List ℕ) → SpellsPayload f payload → (is_kind (kind_of f) ≡ true) × (kind_of f < 2 ^ 8)
kind_in_range Protocol payload s = absurd s
kind_in_range (MethodFrame channel m) payload s = (refl, lit< tt)
kind_in_range (Header channel class size properties) payload s = (refl, lit< tt)
kind_in_range (Body channel bytes) payload s = (refl, lit< tt)
kind_in_range (Heartbeat channel) payload s = (refl, lit< tt)

pub frame_again : (max : ℕ) (f : Frame) (text bytes rest : List ℕ) → SpellsFrame max f text → bytes ≡ text ++ rest
    → frame_at max bytes ≡ Ok (Some (f, length text))
frame_again max f text bytes rest s e =
    let kind = kind_in_range f s.payload s.spells in
    let split : bytes ≡ framed (kind_of f) (channel_of f) s.payload ++ rest =
    e ∙ ap (λ (t : List ℕ). t ++ rest) s.is in
    let len : length s.payload + 8 ≡ length text = sym (ap length s.is ∙ framed_len (kind_of f) (channel_of f) s.payload)
    in
    whole_again max (kind_of f) (channel_of f) s.payload rest bytes kind.0 kind.1 s.channel s.short split
    ∙ in_turn (λ (g : Frame). Ok (Some (g, length s.payload + 8))) (payload_in (kind_of f) (channel_of f) s.payload) f
    (payload_again f s.payload s.spells) (ap (λ (n : ℕ). Ok (Some (f, n))) len)
