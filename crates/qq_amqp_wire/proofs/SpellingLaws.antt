-- What is written is a spelling, and spellings of one frame are alike.
use Rattle.std.proofs.Common.{arith, ◌≡◌, ◌≢◌, ℕ, ◌-◌, ◌≤◌, List, [], ◌∷◌, ◌++◌, length, Some, Ok, refl, sym, ap, ◌∙◌, lit<, ◌<◌, ◌^◌}
use Rattle.qq_fields.specs.Writing.{u16}
use Rattle.std.proofs.lemmas.Bool.{leb-true}
use Rattle.qq_amqp_wire.specs.Alike.{AreAlike, PayloadsAlike, FramesAlike}
use Rattle.qq_amqp_wire.specs.Arguments.{Argument, Given, Reserved, Bits, Bools, Of, Parts, Values, text_of, values_of, parts_of}
use Rattle.qq_amqp_wire.specs.Frames.{found_at}
use Rattle.qq_amqp_wire.specs.Grammar.{Spells, SpellsMethod, SpellsPayload, SpellsFrame}
use Rattle.qq_amqp_wire.specs.Rows.{row_of, values_in}
use Rattle.qq_amqp_wire.specs.Writing.{kind_of, channel_of, begun_at, framed, method_bytes, header_bytes, payload_of, written, HasFields, MayWrite, IsWritable}
use Rattle.qq_amqp_wire.specs.declared.frame.Frame.{Frame}
use Rattle.qq_amqp_wire.specs.declared.frame.Frame.TheVariants.{Protocol, Method as MethodFrame, Header, Body, Heartbeat}
use Rattle.qq_amqp_wire.specs.declared.method.Method.{Method}
use Rattle.qq_amqp_wire.proofs.ArgumentLaws.{most_of, text_len, told_again, parts_fit}
use Rattle.qq_amqp_wire.proofs.ProtocolLaws.{text_again}
use Rattle.qq_amqp_wire.proofs.RowLaws.{has_row}

-- ---- what is written is a spelling

payload_spells : (f : Frame) → f ≢ Protocol → HasFields f → SpellsPayload f (payload_of f)
unfolding method_bytes header_bytes
payload_spells Protocol other fields = absurd (other refl)
payload_spells (MethodFrame channel m) other fields = record {
  parts = parts_of (row_of m).arguments (values_in m);
  range = parts_fit (row_of m).arguments (values_in m) (has_row m).bytes fields.range;
  values = told_again (row_of m).arguments (values_in m);
  is = refl;
}
payload_spells (Header channel class size properties) other fields = record {
  weight = 0;
  range = (fields.0, lit< tt, fields.1);
  is = refl;
}
payload_spells (Body channel bytes) other fields = refl
payload_spells (Heartbeat channel) other fields = refl

written_is : (f : Frame) → f ≢ Protocol → written f ≡ framed (kind_of f) (channel_of f) (payload_of f)
unfolding written
written_is Protocol other = absurd (other refl)
written_is (MethodFrame channel m) other = refl
written_is (Header channel class size properties) other = refl
written_is (Body channel bytes) other = refl
written_is (Heartbeat channel) other = refl

pub written_spells : (max : ℕ) (f : Frame) → f ≢ Protocol → IsWritable f → length (payload_of f) ≤ max - 8
    → SpellsFrame max f (written f)
written_spells max f other writable within = record {
  payload = payload_of f;
  spells = payload_spells f other writable.fields;
  short = record { within = within; fits = writable.size };
  channel = writable.channel;
  is = written_is f other;
}

-- what is written stands where its frame may
pub written_stands : (max : ℕ) (f : Frame) → IsWritable f → length (payload_of f) ≤ max - 8
    → Spells (begun_at f) max f (written f)
unfolding written
written_stands max Protocol writable within = (refl, refl)
written_stands max (MethodFrame channel m) writable within =
    written_spells max (MethodFrame channel m) (λ e. cc) writable within
written_stands max (Header channel class size properties) writable within =
    written_spells max (Header channel class size properties) (λ e. cc) writable within
written_stands max (Body channel bytes) writable within =
    written_spells max (Body channel bytes) (λ e. cc) writable within
written_stands max (Heartbeat channel) writable within =
    written_spells max (Heartbeat channel) (λ e. cc) writable within

pub written_again : (max : ℕ) (f : Frame) (rest : List ℕ) → IsWritable f → length (payload_of f) ≤ max - 8
    → found_at (begun_at f) max (written f ++ rest) ≡ Ok (Some (f, length (written f)))
written_again max f rest writable within =
    text_again (begun_at f) max f (written f) (written f ++ rest) rest (written_stands max f writable within) refl

-- what is written has the parts of a spelling, with nothing in what is reserved
pub written_cleared : (m : Method) (payload : List ℕ) (s : SpellsMethod m payload)
    → method_bytes m ≡ u16 (row_of m).class ++ (u16 (row_of m).number
    ++ text_of (row_of m).arguments (parts_of (row_of m).arguments (values_of (row_of m).arguments s.parts)))
unfolding method_bytes
written_cleared m payload s =
    ap (λ (v : Values (row_of m).arguments). u16 (row_of m).class ++ (u16 (row_of m).number
    ++ text_of (row_of m).arguments (parts_of (row_of m).arguments v))) (sym s.values)

-- ---- spellings of one frame are alike

alike : (arguments : List Argument) (p q : Parts arguments) → values_of arguments p ≡ values_of arguments q
    → AreAlike arguments p q
alike [] p q e = tt
alike (Given d ∷ arguments) p q e =
    (ap (λ (v : Of d × Values arguments). v.0) e, alike arguments p.1 q.1 (ap (λ (v : Of d × Values arguments). v.1) e))
alike (Reserved d ∷ arguments) p q e = alike arguments p.1 q.1 e
alike (Bits n ∷ arguments) p q e = (
  ap (λ (v : Bools n × Values arguments). v.0) e,
  alike arguments p.1 q.1 (ap (λ (v : Bools n × Values arguments). v.1) e),
)

payloads_alike : (f : Frame) (a b : List ℕ) → SpellsPayload f a → SpellsPayload f b → PayloadsAlike f a b
payloads_alike Protocol a b s t = absurd s
payloads_alike (MethodFrame channel m) a b s t = record {
  first = s.parts;
  second = t.parts;
  a_is = s.is;
  b_is = t.is;
  alike = alike (row_of m).arguments s.parts t.parts (s.values ∙ sym t.values);
}
payloads_alike (Header channel class size properties) a b s t =
    record { first = s.weight; second = t.weight; a_is = s.is; b_is = t.is }
payloads_alike (Body channel bytes) a b s t = s ∙ sym t
payloads_alike (Heartbeat channel) a b s t = s ∙ sym t

pub frames_alike : (max : ℕ) (f : Frame) (a b : List ℕ) → SpellsFrame max f a → SpellsFrame max f b
    → FramesAlike f a b
frames_alike max f a b s t = record {
  first = s.payload;
  second = t.payload;
  a_is = s.is;
  b_is = t.is;
  alike = payloads_alike f s.payload t.payload s.spells t.spells;
}

-- ---- how long it is

pub payload_short : (f : Frame) → MayWrite f → length (payload_of f) < 2 ^ 32
unfolding method_bytes header_bytes
payload_short Protocol may = omega arith
payload_short (MethodFrame channel m) may =
    let few : most_of (row_of m).arguments ≤ 4096 = leb-true (most_of (row_of m).arguments) 4096 (has_row m).few in
    let text = text_len (row_of m).arguments (values_in m) may.room.fit.0 in
    let all = may.room.fit.1 in
    omega arith
payload_short (Header channel class size properties) may =
    let room : length properties < 2 ^ 31 = may.room in
    omega arith
payload_short (Body channel bytes) may = may.room
payload_short (Heartbeat channel) may = omega arith
