-- However the bytes come, the frames that are handed out are those of the grammar.
use Rattle.std.proofs.Common.{◌≡◌, ◌≢◌, ℕ, Bool, true, List, [], ◌∷◌, ◌++◌, length, drop, Option, Some, None, Result, Ok, Err, refl, sym, ap, subst, ◌∙◌, append_assoc, append-nil}
use Rattle.std.proofs.lemmas.List.{take_at, drop_at}
use Rattle.qq_base.proofs.Fronts.{front-refl, front-nil, longer_front, front-same}
use Rattle.qq_base.proofs.Numbers.{AreBytes-take}
use Rattle.qq_base.specs.Fields.{AreBytes}
use Rattle.qq_base.specs.Fronts.{IsFront}
use Rattle.qq_fields.proofs.Laws.{AreBytes-drop}
use Rattle.qq_amqp_wire.specs.Calls.{Call, Feeds, Asks, bytes_of, left_of, handed, frames_of, Splits, begun_by, IsLeftBy, AreSplit, IsDrained}
use Rattle.qq_amqp_wire.specs.Frames.{Found, found_at}
use Rattle.qq_amqp_wire.specs.Grammar.{IsRead}
use Rattle.qq_amqp_wire.specs.Handing.{StopsAt}
use Rattle.qq_amqp_wire.specs.Input.{Input, Step, fed_by, fed, next_by, step_by, next}
use Rattle.qq_amqp_wire.specs.declared.fault.WireFault.{WireFault}
use Rattle.qq_amqp_wire.specs.declared.fault.WireFault.TheVariants.{BadProtocol, BadType, TooLong, BadEnd, BadMethod, BadField, Memory}
use Rattle.qq_amqp_wire.specs.declared.frame.Frame.{Frame}
use Rattle.qq_amqp_wire.proofs.MoreLaws.{read_more, fault_more}
use Rattle.qq_amqp_wire.proofs.ProtocolLaws.{found_again, fault_again}
use Rattle.qq_amqp_wire.proofs.ReaderLaws.{IsStep, StaysStopped, IsWaiting, HandsOne, StopsNow, step_of}

-- ---- bytes

bytes_front : (xs ys : List ℕ) → AreBytes (xs ++ ys) → AreBytes xs
bytes_front xs ys fits =
    subst AreBytes (take_at xs ys (length xs) refl) (AreBytes-take (length xs) (xs ++ ys) fits)

bytes_back : (xs ys : List ℕ) → AreBytes (xs ++ ys) → AreBytes ys
bytes_back xs ys fits = subst AreBytes (drop_at xs ys (length xs) refl) (AreBytes-drop (length xs) (xs ++ ys) fits)

-- ---- what was handed out is a split

begun_true : (frames : List Frame) → begun_by true frames ≡ true
begun_true [] = refl
begun_true (f ∷ frames) = refl

-- what a stopped reader does
record StaysAs (calls : List Call) (input : Input) : Type 0 where
  frames : frames_of calls input ≡ []
  left : left_of calls input ≡ input

stays : (calls : List Call) (input : Input) (e : WireFault) → input.fault ≡ Some e → StaysAs calls input
unfolding frames_of left_of fed next
stays [] input e is = record { frames = refl; left = refl }
stays (Feeds piece ∷ calls) input e is =
    let same : fed piece input ≡ input = ap (λ (o : Option WireFault). fed_by o piece input) is in
    let rest = stays calls input e is in record {
      frames = ap (frames_of calls) same ∙ rest.frames;
      left = ap (left_of calls) same ∙ rest.left;
    }
stays (Asks ∷ calls) input e is =
    let same : next input ≡ (Err e, input) = ap (λ (o : Option WireFault). next_by o input) is in
    let rest = stays calls input e is in record {
      frames = ap (λ (s : Step). handed s.0 (frames_of calls s.1)) same ∙ rest.frames;
      left = ap (λ (s : Step). left_of calls s.1) same ∙ rest.left;
    }

fed_sound : (piece : List ℕ) (input : Input) → input.fault ≡ None
    → fed piece input ≡ record input { unread = input.unread ++ piece }
unfolding fed
fed_sound piece input sound = ap (λ (o : Option WireFault). fed_by o piece input) sound

splits_at : (b c : Bool) (m n : ℕ) (xs ys : List ℕ) (frames : List Frame) (rest : List ℕ) → b ≡ c → m ≡ n → xs ≡ ys
    → Splits b m xs frames rest → Splits c n ys frames rest
splits_at b c m n xs ys frames rest begun max bytes s =
    subst (λ (t : List ℕ). Splits c n t frames rest) bytes
    (subst (λ (k : ℕ). Splits c k xs frames rest) max
    (subst (λ (a : Bool). Splits a m xs frames rest) begun s))

-- the piece is unread
after_feed : (piece more : List ℕ) (input : Input) (frames : List Frame) (last : Input) → input.fault ≡ None
    → AreSplit (fed piece input) ((fed piece input).unread ++ more) frames last
    → AreSplit input (input.unread ++ (piece ++ more)) frames last
after_feed piece more input frames last sound s =
    let same = fed_sound piece input sound in
    let begun : (fed piece input).begun ≡ input.begun = ap (λ (i : Input). i.begun) same in
    let max : (fed piece input).max ≡ input.max = ap (λ (i : Input). i.max) same in
    let unread : (fed piece input).unread ++ more ≡ input.unread ++ (piece ++ more) =
    ap (λ (i : Input). i.unread ++ more) same ∙ append_assoc input.unread piece more in record {
      rest = s.rest;
      split = splits_at _ _ _ _ _ _ frames s.rest begun max unread s.split;
      begun = s.begun ∙ ap (λ (b : Bool). begun_by b frames) begun;
      max = s.max ∙ max;
      left = s.left;
    }

-- a step and what comes after it
after_step : (calls : List Call) (input : Input) (more : List ℕ) (s : Step) → AreBytes (input.unread ++ more)
    → input.fault ≡ None → IsStep input s
    → ((next : Input) → AreBytes (next.unread ++ more) → next.fault ≡ None
    → AreSplit next (next.unread ++ more) (frames_of calls next) (left_of calls next))
    → AreSplit input (input.unread ++ more) (handed s.0 (frames_of calls s.1)) (left_of calls s.1)
after_step calls input more _ fits sound (StaysStopped e stopped) later = absurd (cc (sound, stopped))
after_step calls input more _ fits sound (IsWaiting _ partial) later = later input fits sound
after_step calls input more _ fits sound (HandsOne f rest _ read) later =
    let unread : input.unread ++ more ≡ read.text ++ (rest ++ more) =
    ap (λ (t : List ℕ). t ++ more) read.is ∙ append_assoc read.text rest more in
    let next : Input = record input { begun = true; unread = rest } in
    let s = later next (bytes_back read.text (rest ++ more) (subst AreBytes unread fits)) sound in
    record {
      rest = s.rest;
      split = (rest ++ more, (read_more input.begun input.max input.unread f rest more read, s.split));
      begun = s.begun ∙ begun_true (frames_of calls next);
      max = s.max;
      left = s.left;
    }
after_step calls input more _ fits sound (StopsNow e _ fault) later =
    let next : Input = record input { unread = []; fault = Some e } in
    let stay = stays calls next e refl in
    let none : AreSplit input (input.unread ++ more) [] next = record {
      rest = input.unread ++ more;
      split = refl;
      begun = refl;
      max = refl;
      left = fault_more input.begun input.max input.unread more e fault;
    } in
    subst (λ (fs : List Frame). AreSplit input (input.unread ++ more) fs (left_of calls next)) (sym stay.frames)
    (subst (AreSplit input (input.unread ++ more) []) (sym stay.left) none)

pub are_split : (calls : List Call) (input : Input) → AreBytes (input.unread ++ bytes_of calls) → input.fault ≡ None
    → AreSplit input (input.unread ++ bytes_of calls) (frames_of calls input) (left_of calls input)
unfolding frames_of left_of
are_split [] input fits sound = record {
  rest = input.unread;
  split = append-nil input.unread;
  begun = refl;
  max = refl;
  left = subst (λ (o : Option WireFault). IsLeftBy o input input.unread) (sym sound) refl;
}
are_split (Feeds piece ∷ calls) input fits sound =
    let same = fed_sound piece input sound in
    let unread : (fed piece input).unread ++ bytes_of calls ≡ input.unread ++ (piece ++ bytes_of calls) =
    ap (λ (i : Input). i.unread ++ bytes_of calls) same ∙ append_assoc input.unread piece (bytes_of calls) in
    after_feed piece (bytes_of calls) input (frames_of calls (fed piece input)) (left_of calls (fed piece input)) sound
    (are_split calls (fed piece input) (subst AreBytes (sym unread) fits)
    (ap (λ (i : Input). i.fault) same ∙ sound))
are_split (Asks ∷ calls) input fits sound =
    after_step calls input (bytes_of calls) (next input) fits sound
    (step_of input (bytes_front input.unread (bytes_of calls) fits))
    (λ later bytes none. are_split calls later bytes none)

-- ---- no other frames are one

same_found : (r : Found) (f g : Frame) (m n : ℕ) → r ≡ Ok (Some (f, m)) → r ≡ Ok (Some (g, n)) → (f ≡ g) × (m ≡ n)
same_found r f g m n a b =
    let e : (f, m) ≡ (g, n) = cc in
    (ap (λ (p : Frame × ℕ). p.0) e, ap (λ (p : Frame × ℕ). p.1) e)

-- two frames at the front of the same bytes are one
pub same_read : (begun : Bool) (max : ℕ) (bytes : List ℕ) (f g : Frame) (rest more : List ℕ)
    → IsRead begun max bytes f rest → IsRead begun max bytes g more → (f ≡ g) × (rest ≡ more)
same_read begun max bytes f g rest more p q =
    let a = found_again begun max bytes f rest p in
    let b = found_again begun max bytes g more q in
    let same = same_found (found_at begun max bytes) f g a.taken b.taken a.found b.found in
    (same.0, sym a.left ∙ ap (λ (n : ℕ). drop n bytes) same.1 ∙ b.left)

-- a split whose rest has no whole frame at its front goes as far as any other
pub longest : (begun : Bool) (max : ℕ) (bytes : List ℕ) (frames others : List Frame) (rest more : List ℕ)
    → Splits begun max bytes frames rest → Splits begun max bytes others more
    → ((f : Frame) (later : List ℕ) → IsRead (begun_by begun frames) max rest f later → ⊥) → IsFront others frames
longest begun max bytes frames [] rest more p q none = front-nil frames
longest begun max bytes [] (g ∷ others) rest more p q none =
    absurd (none g q.0 (subst (λ (t : List ℕ). IsRead begun max t g q.0) p q.1.0))
longest begun max bytes (f ∷ frames) (g ∷ others) rest more p q none =
    let same = same_read begun max bytes f g p.0 q.0 p.1.0 q.1.0 in
    longer_front g f (sym same.0)
    (longest true max p.0 frames others rest more p.1.1
    (subst (λ (t : List ℕ). Splits true max t others more) (sym same.1) q.1.1)
    (λ h later read. none h later (subst (λ (b : Bool). IsRead b max rest h later) (begun_true frames) read)))

-- nothing is left at the front of which a frame stands
none_left : (last : Input) (rest : List ℕ) → AreBytes rest → IsLeftBy last.fault last rest
    → ((f : Frame) → (next last).0 ≡ Ok (Some f) → ⊥) → (f : Frame) (later : List ℕ)
    → IsRead last.begun last.max rest f later → ⊥
unfolding next
none_left last rest fits left drained f later read = by last.fault refl left
  where
    not_both : (r : Found) (x : Frame × ℕ) (e : WireFault) → r ≡ Ok (Some x) → r ≡ Err e → ⊥
    not_both r x e a b = cc

    again : found_at last.begun last.max rest ≡ Ok (Some (f, (found_again last.begun last.max rest f later read).taken))
    again = (found_again last.begun last.max rest f later read).found

    by : (o : Option WireFault) → last.fault ≡ o → IsLeftBy o last rest → ⊥
    by None sound is =
        drained f (ap (λ (o : Option WireFault). (next_by o last).0) sound
        ∙ ap (λ (t : List ℕ). (step_by (found_at last.begun last.max t) last).0) (sym is)
        ∙ ap (λ (r : Found). (step_by r last).0) again)
    by (Some e) stopped is =
        not_both (found_at last.begun last.max rest) _ e again (fault_again last.begun last.max rest e fits is)

splits_bytes : (begun : Bool) (max : ℕ) (bytes : List ℕ) (frames : List Frame) (rest : List ℕ) → AreBytes bytes
    → Splits begun max bytes frames rest → AreBytes rest
splits_bytes begun max bytes [] rest fits s = subst AreBytes s fits
splits_bytes begun max bytes (f ∷ frames) rest fits s =
    splits_bytes true max s.0 frames rest (bytes_back s.1.0.text s.0 (subst AreBytes s.1.0.is fits)) s.1.1

-- where nothing more is handed out, the frames are those of the grammar, and no others
pub only_these : (calls : List Call) (input : Input) → AreBytes (input.unread ++ bytes_of calls) → input.fault ≡ None
    → IsDrained calls input → (others : List Frame) (more : List ℕ)
    → Splits input.begun input.max (input.unread ++ bytes_of calls) others more
    → IsFront others (frames_of calls input)
only_these calls input fits sound drained others more q =
    let s = are_split calls input fits sound in
    longest input.begun input.max (input.unread ++ bytes_of calls) (frames_of calls input) others s.rest more s.split q
    (λ f later read.
    none_left (left_of calls input) s.rest
    (splits_bytes input.begun input.max (input.unread ++ bytes_of calls) (frames_of calls input) s.rest fits s.split)
    s.left drained f later
    (subst (λ (m : ℕ). IsRead (left_of calls input).begun m s.rest f later) (sym s.max)
    (subst (λ (b : Bool). IsRead b input.max s.rest f later) (sym s.begun) read)))

splits_more : (begun : Bool) (max : ℕ) (bytes more : List ℕ) (frames : List Frame) (rest : List ℕ)
    → Splits begun max bytes frames rest → Splits begun max (bytes ++ more) frames (rest ++ more)
splits_more begun max bytes more [] rest s = ap (λ (t : List ℕ). t ++ more) s
splits_more begun max bytes more (f ∷ frames) rest s = (
  s.0 ++ more,
  (read_more begun max bytes f s.0 more s.1.0, splits_more true max s.0 more frames rest s.1.1),
)

-- frames that were handed out are a front of those that more bytes give, however either was cut
pub come_in_order : (early late : List Call) (input : Input) → AreBytes (input.unread ++ bytes_of late)
    → input.fault ≡ None → IsFront (bytes_of early) (bytes_of late) → IsDrained late input
    → IsFront (frames_of early input) (frames_of late input)
come_in_order early late input fits sound front drained =
    let bytes : input.unread ++ bytes_of late ≡ (input.unread ++ bytes_of early) ++ front.rest =
    ap (λ (t : List ℕ). input.unread ++ t) front.is ∙ sym (append_assoc input.unread (bytes_of early) front.rest) in
    let s = are_split early input
    (bytes_front (input.unread ++ bytes_of early) front.rest (subst AreBytes bytes fits)) sound in
    only_these late input fits sound drained (frames_of early input) (s.rest ++ front.rest)
    (subst (λ (t : List ℕ). Splits input.begun input.max t (frames_of early input) (s.rest ++ front.rest)) (sym bytes)
    (splits_more input.begun input.max (input.unread ++ bytes_of early) front.rest (frames_of early input) s.rest s.split))

-- ---- however the bytes are cut

-- what a reader answers, by what stands at the front
abbrev answer : Found → Result (Option Frame) WireFault
answer (Ok None) = Ok None
answer (Ok (Some x)) = Ok (Some x.0)
answer (Err e) = Err e

step_answer : (r : Found) (input : Input) → (step_by r input).0 ≡ answer r
step_answer (Ok None) input = refl
step_answer (Ok (Some x)) input = refl
step_answer (Err e) input = refl

answer_is : (last : Input) (rest : List ℕ) → AreBytes rest → IsLeftBy last.fault last rest
    → (next last).0 ≡ answer (found_at last.begun last.max rest)
unfolding next
answer_is last rest fits left = by last.fault refl left
  where
    by : (o : Option WireFault) → last.fault ≡ o → IsLeftBy o last rest
        → (next_by last.fault last).0 ≡ answer (found_at last.begun last.max rest)
    by None sound is =
        ap (λ (o : Option WireFault). (next_by o last).0) sound
        ∙ step_answer (found_at last.begun last.max last.unread) last
        ∙ ap (λ (t : List ℕ). answer (found_at last.begun last.max t)) (sym is)
    by (Some e) stopped is =
        ap (λ (o : Option WireFault). (next_by o last).0) stopped
        ∙ ap answer (sym (fault_again last.begun last.max rest e fits is))

same_rest : (begun : Bool) (max : ℕ) (bytes : List ℕ) (frames : List Frame) (rest more : List ℕ)
    → Splits begun max bytes frames rest → Splits begun max bytes frames more → rest ≡ more
same_rest begun max bytes [] rest more p q = sym p ∙ q
same_rest begun max bytes (f ∷ frames) rest more p q =
    let same = same_read begun max bytes f f p.0 q.0 p.1.0 q.1.0 in
    same_rest true max p.0 frames rest more p.1.1
    (subst (λ (t : List ℕ). Splits true max t frames more) (sym same.1) q.1.1)

pub cut_alike : (a b : List Call) (input : Input) → AreBytes (input.unread ++ bytes_of a) → input.fault ≡ None
    → bytes_of a ≡ bytes_of b → IsDrained a input → IsDrained b input
    → (frames_of a input ≡ frames_of b input) × ((next (left_of a input)).0 ≡ (next (left_of b input)).0)
cut_alike a b input fits sound bytes first second =
    let all : input.unread ++ bytes_of a ≡ input.unread ++ bytes_of b = ap (λ (t : List ℕ). input.unread ++ t) bytes in
    let fits' = subst AreBytes all fits in
    let there : IsFront (bytes_of a) (bytes_of b) = subst (IsFront (bytes_of a)) bytes (front-refl (bytes_of a)) in
    let back : IsFront (bytes_of b) (bytes_of a) = subst (IsFront (bytes_of b)) (sym bytes) (front-refl (bytes_of b)) in
    let frames : frames_of a input ≡ frames_of b input = sym
    (front-same (come_in_order a b input fits' sound there second) (come_in_order b a input fits sound back first)) in
    let s = are_split a input fits sound in
    let t = are_split b input fits' sound in
    let t_split : Splits input.begun input.max (input.unread ++ bytes_of a) (frames_of a input) t.rest =
    subst (λ (fs : List Frame). Splits input.begun input.max (input.unread ++ bytes_of a) fs t.rest) (sym frames)
    (subst (λ (l : List ℕ). Splits input.begun input.max l (frames_of b input) t.rest) (sym all) t.split) in
    let rest : s.rest ≡ t.rest = same_rest input.begun input.max (input.unread ++ bytes_of a) (frames_of a input) s.rest
    t.rest s.split t_split in
    let begun : (left_of a input).begun ≡ (left_of b input).begun =
    s.begun ∙ ap (begun_by input.begun) frames ∙ sym t.begun in
    let max : (left_of a input).max ≡ (left_of b input).max = s.max ∙ sym t.max in (
      frames,
      answer_is (left_of a input) s.rest
          (splits_bytes input.begun input.max (input.unread ++ bytes_of a) (frames_of a input) s.rest fits s.split)
          s.left
          ∙ ap (λ (l : List ℕ). answer (found_at (left_of a input).begun (left_of a input).max l)) rest
          ∙ ap (λ (c : Bool). answer (found_at c (left_of a input).max t.rest)) begun
          ∙ ap (λ (m : ℕ). answer (found_at (left_of b input).begun m t.rest)) max
          ∙ sym (answer_is (left_of b input) t.rest
          (splits_bytes input.begun input.max (input.unread ++ bytes_of b) (frames_of b input) t.rest fits' t.split)
          t.left),
    )

-- ---- after a fault

stopped : (old new : Input) (e : WireFault) → e ≢ Memory → StopsAt old new e → new.fault ≡ Some e
stopped old new BadProtocol other s = s.later
stopped old new BadType other s = s.later
stopped old new TooLong other s = s.later
stopped old new BadEnd other s = s.later
stopped old new (BadMethod class number) other s = s.later
stopped old new BadField other s = s.later
stopped old new Memory other s = absurd (other refl)

pub from_then_on : (old new : Input) (e : WireFault) (max : ℕ) (calls : List Call) → e ≢ Memory → StopsAt old new e
    → (frames_of calls (record new { max = max }) ≡ [])
    × ((next (left_of calls (record new { max = max }))).0 ≡ Err e)
unfolding next
from_then_on old new e max calls other s =
    let input : Input = record new { max = max } in
    let is : input.fault ≡ Some e = stopped old new e other s in
    let stay = stays calls input e is in
    (stay.frames, ap (λ (i : Input). (next i).0) stay.left ∙ ap (λ (o : Option WireFault). (next_by o input).0) is)
