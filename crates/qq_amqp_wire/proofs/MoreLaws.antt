-- What stands at the front of bytes stands there whatever follows.
use Rattle.std.proofs.Common.{◌≡◌, ℕ, Bool, true, false, List, ◌∷◌, ◌++◌, length, sym, ap, ◌∙◌, append_assoc, arith}
use Rattle.std.proofs.lemmas.List.{length-append}
use Rattle.std.proofs.Math.ListN.{get_or-append}
use Rattle.qq_fields.specs.Writing.{u8, u16, u32}
use Rattle.qq_amqp_wire.specs.Grammar.{HasOtherProtocol, HasBadPayload, HasFrameFault, HasFault, IsRead}
use Rattle.qq_amqp_wire.specs.Writing.{framed}
use Rattle.qq_amqp_wire.specs.declared.fault.WireFault.{WireFault}
use Rattle.qq_amqp_wire.specs.declared.fault.WireFault.TheVariants.{BadProtocol, BadType, TooLong, BadEnd, BadMethod, BadField, Memory}
use Rattle.qq_amqp_wire.specs.declared.frame.Frame.{Frame}

pub read_more : (begun : Bool) (max : ℕ) (bytes : List ℕ) (f : Frame) (rest more : List ℕ)
    → IsRead begun max bytes f rest → IsRead begun max (bytes ++ more) f (rest ++ more)
read_more begun max bytes f rest more r = record {
  text = r.text;
  spells = r.spells;
  is = ap (λ (t : List ℕ). t ++ more) r.is ∙ append_assoc r.text rest more;
}

other_more : (bytes more : List ℕ) → HasOtherProtocol bytes → HasOtherProtocol (bytes ++ more)
other_more bytes more f = record {
  place = f.place;
  early = f.early;
  there = omega (arith, f.there, length-append bytes more);
  differs = λ same. f.differs (sym (get_or-append bytes more 0 f.place f.there) ∙ same);
}

head_more : (kind channel size : ℕ) (bytes rest more : List ℕ)
    → bytes ≡ u8 kind ++ (u16 channel ++ (u32 size ++ rest))
    → bytes ++ more ≡ u8 kind ++ (u16 channel ++ (u32 size ++ (rest ++ more)))
head_more kind channel size bytes rest more e = ap (λ (t : List ℕ). t ++ more) e

bad_more : (max : ℕ) (bytes more : List ℕ) (e : WireFault) → HasBadPayload max bytes e
    → HasBadPayload max (bytes ++ more) e
bad_more max bytes more e f = record {
  kind = f.kind;
  channel = f.channel;
  payload = f.payload;
  rest = f.rest ++ more;
  known = f.known;
  range = f.range;
  short = f.short;
  is = ap (λ (t : List ℕ). t ++ more) f.is ∙ append_assoc (framed f.kind f.channel f.payload) f.rest more;
  fails = f.fails;
}

frame_fault_more : (max : ℕ) (bytes more : List ℕ) (e : WireFault) → HasFrameFault max bytes e
    → HasFrameFault max (bytes ++ more) e
frame_fault_more max bytes more BadProtocol f = absurd f
frame_fault_more max bytes more BadType f = record {
  kind = f.kind;
  rest = f.rest ++ more;
  is = ap (λ (t : List ℕ). t ++ more) f.is;
  unknown = f.unknown;
}
frame_fault_more max bytes more TooLong f = record {
  kind = f.kind;
  channel = f.channel;
  size = f.size;
  rest = f.rest ++ more;
  known = f.known;
  range = f.range;
  is = head_more f.kind f.channel f.size bytes f.rest more f.is;
  long = f.long;
}
frame_fault_more max bytes more BadEnd f = record {
  kind = f.kind;
  channel = f.channel;
  payload = f.payload;
  last = f.last;
  rest = f.rest ++ more;
  known = f.known;
  range = f.range;
  short = f.short;
  is = head_more f.kind f.channel (length f.payload) bytes (f.payload ++ f.last ∷ f.rest) more f.is
      ∙ ap (λ (t : List ℕ). u8 f.kind ++ (u16 f.channel ++ (u32 (length f.payload) ++ t)))
      (append_assoc f.payload (f.last ∷ f.rest) more);
  other = f.other;
}
frame_fault_more max bytes more (BadMethod class number) f = bad_more max bytes more (BadMethod class number) f
frame_fault_more max bytes more BadField f = bad_more max bytes more BadField f
frame_fault_more max bytes more Memory f = absurd f

pub fault_more : (begun : Bool) (max : ℕ) (bytes more : List ℕ) (e : WireFault) → HasFault begun max bytes e
    → HasFault begun max (bytes ++ more) e
fault_more false max bytes more BadProtocol f = other_more bytes more f
fault_more false max bytes more BadType f = absurd f
fault_more false max bytes more TooLong f = absurd f
fault_more false max bytes more BadEnd f = absurd f
fault_more false max bytes more (BadMethod class number) f = absurd f
fault_more false max bytes more BadField f = absurd f
fault_more false max bytes more Memory f = absurd f
fault_more true max bytes more e f = frame_fault_more max bytes more e f
