-- What stands before the first frame, and with it what stands at the front of bytes.
use Rattle.std.proofs.Common.{◌≡◌, ◌≢◌, ℕ, suc, ◌+◌, ◌<◌, ◌≤◌, Bool, true, false, eqb, ltb, List, [], ◌∷◌, ◌++◌, length, take, drop, get_or, Some, None, Ok, Err, refl, sym, ap, subst, ◌∙◌, arith, inl, inr}
use Rattle.std.specs.Cmp.Lexicographic.{same_text, other_text}
use Rattle.std.proofs.lemmas.Bool.{cases_Bool, ltb-false, le-ltb, eqb-true, eqb-false}
use Rattle.std.proofs.lemmas.List.{take_at, drop_at, take-append-drop, length-append, take_all, get_or-take}
use Rattle.std.proofs.Math.Seq.{take-nil}
use Rattle.qq_base.specs.Fields.{AreBytes}
use Rattle.qq_amqp_wire.specs.Frames.{agree, Found, protocol_at, found_at}
use Rattle.qq_amqp_wire.specs.Grammar.{Spells, HasOtherProtocol, HasFault, IsRead, IsPartial}
use Rattle.qq_amqp_wire.specs.declared.fault.WireFault.{WireFault}
use Rattle.qq_amqp_wire.specs.declared.fault.WireFault.TheVariants.{BadProtocol, BadType, TooLong, BadEnd, BadMethod, BadField, Memory}
use Rattle.qq_amqp_wire.specs.declared.frame.Frame.{Frame}
use Rattle.qq_amqp_wire.specs.declared.frame.Frame.TheVariants.{Protocol}
use Rattle.qq_amqp_wire.specs.declared.kinds.TheConstants as kinds
use Rattle.qq_amqp_wire.proofs.FrameLaws.{frame_again}
use Rattle.qq_amqp_wire.proofs.FaultLaws.{Finds, finds_cond, frame_finds, frame_fault_again}

-- ---- where two lists differ

record Differ (xs ys : List ℕ) : Type 0 where
  place : ℕ
  first : place < length xs
  second : place < length ys
  differs : get_or xs place 0 ≢ get_or ys place 0

differ : (xs ys : List ℕ) → take (length ys) xs ≢ take (length xs) ys → Differ xs ys
differ [] ys other = absurd (other (take-nil (length ys)))
differ (x ∷ xs) [] other = absurd (other refl)
differ (x ∷ xs) (y ∷ ys) other =
    elim (cases_Bool (eqb x y)) [
      | inl same ↦
          let e : x ≡ y = eqb-true x y same in
          let later = differ xs ys (λ (t : take (length ys) xs ≡ take (length xs) ys).
          other (ap (λ (k : ℕ). k ∷ take (length ys) xs) e ∙ ap (λ (l : List ℕ). y ∷ l) t)) in record {
            place = suc later.place;
            first = omega (arith, later.first);
            second = omega (arith, later.second);
            differs = later.differs;
          }
      | inr differs ↦ record {
        place = 0;
        first = omega arith;
        second = omega arith;
        differs = eqb-false x y differs;
      }
    ]

agree_true : (bytes : List ℕ) → agree bytes kinds.PROTOCOL ≡ true → take 8 bytes ≡ take (length bytes) kinds.PROTOCOL
agree_true bytes e = same_text (take 8 bytes) (take (length bytes) kinds.PROTOCOL) (sym e)

agree_false : (bytes : List ℕ) → agree bytes kinds.PROTOCOL ≡ false → HasOtherProtocol bytes
agree_false bytes e =
    let d = differ bytes kinds.PROTOCOL (other_text (take 8 bytes) (take (length bytes) kinds.PROTOCOL) (sym e)) in
    record { place = d.place; early = d.second; there = d.first; differs = d.differs }

-- ---- what is found is there, and the other way round

protocol_finds : (max : ℕ) (bytes : List ℕ) → Finds false max bytes (protocol_at bytes)
unfolding protocol_at
protocol_finds max bytes =
    finds_cond false max bytes (agree bytes kinds.PROTOCOL) _ _
    (λ agrees. finds_cond false max bytes (ltb (length bytes) 8) _ _ (λ _. record { value = tt })
    (λ long. let le : 8 ≤ length bytes = ltb-false _ _ long in
    let all : take (length bytes) kinds.PROTOCOL ≡ kinds.PROTOCOL = take_all (length bytes) kinds.PROTOCOL le in
    record {
      value = record {
        text = kinds.PROTOCOL;
        spells = (refl, refl);
        is = sym (take-append-drop 8 bytes)
            ∙ ap (λ (t : List ℕ). t ++ drop 8 bytes) (agree_true bytes agrees ∙ all);
      };
    }))
    (λ other. record { value = agree_false bytes other })

protocol_again : (bytes rest : List ℕ) → bytes ≡ kinds.PROTOCOL ++ rest → protocol_at bytes ≡ Ok (Some (Protocol, 8))
unfolding protocol_at
protocol_again bytes rest e =
    let len : length bytes ≡ 8 + length rest = ap length e ∙ length-append kinds.PROTOCOL rest in
    let first : take 8 bytes ≡ kinds.PROTOCOL = ap (take 8) e ∙ take_at kinds.PROTOCOL rest 8 refl in
    let second : take (length bytes) kinds.PROTOCOL ≡ kinds.PROTOCOL = take_all (length bytes) kinds.PROTOCOL
    (omega arith) in
    let agrees : agree bytes kinds.PROTOCOL ≡ true = rw (first, second) refl in
    let long : ltb (length bytes) 8 ≡ false = le-ltb _ _ (omega arith) in
    rw (agrees, long) refl

-- a place that differs is one where the lists don't agree
protocol_fault_again : (bytes : List ℕ) → HasOtherProtocol bytes → protocol_at bytes ≡ Err BadProtocol
unfolding protocol_at
protocol_fault_again bytes f =
    elim (cases_Bool (agree bytes kinds.PROTOCOL)) [
      | inl agrees ↦
          let same : get_or (take 8 bytes) f.place 0 ≡ get_or (take (length bytes) kinds.PROTOCOL) f.place 0 =
          ap (λ (l : List ℕ). get_or l f.place 0) (agree_true bytes agrees) in
          absurd (f.differs (sym (get_or-take 8 bytes f.place 0 f.early) ∙ same
          ∙ get_or-take (length bytes) kinds.PROTOCOL f.place 0 f.there))
      | inr other ↦ rw other refl
    ]

-- ---- what stands at the front of bytes

pub finds : (begun : Bool) (max : ℕ) (bytes : List ℕ) → AreBytes bytes → Finds begun max bytes (found_at begun max bytes)
unfolding found_at
finds false max bytes fits = protocol_finds max bytes
finds true max bytes fits = frame_finds max bytes fits

-- what is there is found, and how many bytes it takes
pub record IsFound (begun : Bool) (max : ℕ) (bytes : List ℕ) (frame : Frame) (rest : List ℕ) : Type 0 where
  pub taken : ℕ
  pub found : found_at begun max bytes ≡ Ok (Some (frame, taken))
  pub left : drop taken bytes ≡ rest

pub found_again : (begun : Bool) (max : ℕ) (bytes : List ℕ) (f : Frame) (rest : List ℕ)
    → IsRead begun max bytes f rest → IsFound begun max bytes f rest
unfolding found_at
found_again false max bytes f rest r =
    let is : bytes ≡ kinds.PROTOCOL ++ rest = r.is ∙ ap (λ (t : List ℕ). t ++ rest) r.spells.1 in record {
      taken = 8;
      found = protocol_again bytes rest is ∙ ap (λ (g : Frame). Ok (Some (g, 8))) (sym r.spells.0);
      left = ap (drop 8) is ∙ drop_at kinds.PROTOCOL rest 8 refl;
    }
found_again true max bytes f rest r = record {
  taken = length r.text;
  found = frame_again max f r.text bytes rest r.spells r.is;
  left = ap (drop (length r.text)) r.is ∙ drop_at r.text rest (length r.text) refl;
}

-- a spelling is found, whatever follows it
pub text_again : (begun : Bool) (max : ℕ) (f : Frame) (text bytes rest : List ℕ) → Spells begun max f text
    → bytes ≡ text ++ rest → found_at begun max bytes ≡ Ok (Some (f, length text))
unfolding found_at
text_again false max f text bytes rest s e =
    let is : bytes ≡ kinds.PROTOCOL ++ rest = e ∙ ap (λ (t : List ℕ). t ++ rest) s.1 in
    protocol_again bytes rest is ∙ ap (λ (g : Frame). Ok (Some (g, 8))) (sym s.0)
    ∙ ap (λ (t : List ℕ). Ok (Some (f, length t))) (sym s.1)
text_again true max f text bytes rest s e = frame_again max f text bytes rest s e

pub fault_again : (begun : Bool) (max : ℕ) (bytes : List ℕ) (e : WireFault) → AreBytes bytes
    → HasFault begun max bytes e → found_at begun max bytes ≡ Err e
unfolding found_at
fault_again false max bytes BadProtocol fits f = protocol_fault_again bytes f
fault_again false max bytes BadType fits f = absurd f
fault_again false max bytes TooLong fits f = absurd f
fault_again false max bytes BadEnd fits f = absurd f
fault_again false max bytes (BadMethod class number) fits f = absurd f
fault_again false max bytes BadField fits f = absurd f
fault_again false max bytes Memory fits f = absurd f
fault_again true max bytes e fits f = frame_fault_again max bytes e fits f

one_error : (r : Found) (d e : WireFault) → r ≡ Err d → r ≡ Err e → d ≡ e
one_error r d e a b = cc

pub same_fault : (begun : Bool) (max : ℕ) (bytes : List ℕ) (d e : WireFault) → AreBytes bytes
    → HasFault begun max bytes d → HasFault begun max bytes e → d ≡ e
same_fault begun max bytes d e fits f g =
    one_error (found_at begun max bytes) d e (fault_again begun max bytes d fits f)
    (fault_again begun max bytes e fits g)

no_error : (r : Found) (x : Frame × ℕ) (e : WireFault) → r ≡ Ok (Some x) → r ≡ Err e → ⊥
no_error r x e a b = cc

pub frame_or_fault : (begun : Bool) (max : ℕ) (bytes : List ℕ) (f : Frame) (rest : List ℕ) (e : WireFault)
    → AreBytes bytes → IsRead begun max bytes f rest → HasFault begun max bytes e → ⊥
frame_or_fault begun max bytes f rest e fits read fault =
    let again = found_again begun max bytes f rest read in
    no_error (found_at begun max bytes) (f, again.taken) e again.found (fault_again begun max bytes e fits fault)

-- ---- exactly there

pub frame_there : (begun : Bool) (max : ℕ) (bytes : List ℕ) (f : Frame) (rest : List ℕ) → IsRead begun max bytes f rest
    → (n : ℕ) × ((found_at begun max bytes ≡ Ok (Some (f, n))) × (drop n bytes ≡ rest))
frame_there begun max bytes f rest read =
    let again = found_again begun max bytes f rest read in
    (again.taken, (again.found, again.left))

read_of : (begun : Bool) (max : ℕ) (bytes : List ℕ) (r : Found) (x : Frame × ℕ) → Finds begun max bytes r
    → r ≡ Ok (Some x) → IsRead begun max bytes x.0 (drop x.1 bytes)
read_of begun max bytes r x f is =
    let there : Finds begun max bytes (Ok (Some x)) = subst (Finds begun max bytes) is f in
    there.value

pub frame_alone : (begun : Bool) (max : ℕ) (bytes : List ℕ) (f : Frame) (n : ℕ) → AreBytes bytes
    → found_at begun max bytes ≡ Ok (Some (f, n)) → IsRead begun max bytes f (drop n bytes)
frame_alone begun max bytes f n fits is =
    read_of begun max bytes (found_at begun max bytes) (f, n) (finds begun max bytes fits) is

pub fault_alone : (begun : Bool) (max : ℕ) (bytes : List ℕ) (e : WireFault) → AreBytes bytes
    → found_at begun max bytes ≡ Err e → HasFault begun max bytes e
fault_alone begun max bytes e fits is =
    let there : Finds begun max bytes (Err e) = subst (Finds begun max bytes) is (finds begun max bytes fits) in
    there.value

pub none_there : (begun : Bool) (max : ℕ) (bytes : List ℕ) → AreBytes bytes → IsPartial begun max bytes
    → found_at begun max bytes ≡ Ok None
none_there begun max bytes fits p = by (found_at begun max bytes) refl
  where
    by : (r : Found) → found_at begun max bytes ≡ r → r ≡ Ok None
    by (Ok None) is = refl
    by (Ok (Some x)) is = absurd (p.none x.0 (drop x.1 bytes) (frame_alone begun max bytes x.0 x.1 fits is))
    by (Err e) is = absurd (p.sound e (fault_alone begun max bytes e fits is))

pub none_alone : (begun : Bool) (max : ℕ) (bytes : List ℕ) → AreBytes bytes → found_at begun max bytes ≡ Ok None
    → IsPartial begun max bytes
none_alone begun max bytes fits is = record {
  none = λ f rest read. none_some (found_at begun max bytes) _ is (found_again begun max bytes f rest read).found;
  sound = λ e fault. none_error (found_at begun max bytes) e is (fault_again begun max bytes e fits fault);
}
  where
    none_some : (r : Found) (x : Frame × ℕ) → r ≡ Ok None → r ≡ Ok (Some x) → ⊥
    none_some r x a b = cc

    none_error : (r : Found) (e : WireFault) → r ≡ Ok None → r ≡ Err e → ⊥
    none_error r e a b = cc
