-- A reader's step, in the words of the grammar.
use Rattle.std.proofs.Common.{◌≡◌, ℕ, true, List, [], drop, Option, Some, None, Result, Ok, Err, refl, sym, ap, subst, ◌∙◌}
use Rattle.std.specs.Prelude.{IfOk, IfErr, IfSome, IfNone}
use Rattle.qq_base.specs.Fields.{AreBytes}
use Rattle.qq_fields.specs.Reading.{Gives}
use Rattle.qq_amqp_wire.specs.Arguments.{memory_of}
use Rattle.qq_amqp_wire.specs.Frames.{Found, found_at}
use Rattle.qq_amqp_wire.specs.Grammar.{HasFault, IsRead, IsPartial}
use Rattle.qq_amqp_wire.specs.Handing.{HandsOut, Waits, IsDue, Stops, StopsAt}
use Rattle.qq_amqp_wire.specs.Input.{Input, Step, step_by, next_by, next, left_by}
use Rattle.qq_amqp_wire.specs.declared.fault.WireFault.{WireFault}
use Rattle.qq_amqp_wire.specs.declared.fault.WireFault.TheVariants.{BadProtocol, BadType, TooLong, BadEnd, BadMethod, BadField, Memory}
use Rattle.qq_amqp_wire.specs.declared.frame.Frame.{Frame}
use Rattle.qq_amqp_wire.proofs.FaultLaws.{Finds}
use Rattle.qq_amqp_wire.proofs.ProtocolLaws.{finds, found_again, fault_again}

-- what a step may be
pub data IsStep (old : Input) : Step → Type 0 where
  StaysStopped : (e : WireFault) → old.fault ≡ Some e → IsStep old (Err e, old)
  IsWaiting : old.fault ≡ None → IsPartial old.begun old.max old.unread → IsStep old (Ok None, old)
  HandsOne : (f : Frame) (rest : List ℕ) → old.fault ≡ None → IsRead old.begun old.max old.unread f rest
      → IsStep old (Ok (Some f), record old { begun = true; unread = rest })
  StopsNow : (e : WireFault) → old.fault ≡ None → HasFault old.begun old.max old.unread e
      → IsStep old (Err e, record old { unread = []; fault = Some e })

none_found : (r : Found) (x : Frame × ℕ) → r ≡ Ok None → r ≡ Ok (Some x) → ⊥
none_found r x a b = cc

no_fault : (r : Found) (e : WireFault) → r ≡ Ok None → r ≡ Err e → ⊥
no_fault r e a b = cc

pub step_of : (old : Input) → AreBytes old.unread → IsStep old (next old)
unfolding next
step_of old fits = by_fault old.fault refl
  where
    by_found : old.fault ≡ None → (r : Found) → found_at old.begun old.max old.unread ≡ r
        → Finds old.begun old.max old.unread r → IsStep old (step_by r old)
    by_found sound (Ok None) e f = IsWaiting sound (record {
      none = λ g rest read.
          let again = found_again old.begun old.max old.unread g rest read in
          none_found (found_at old.begun old.max old.unread) (g, again.taken) e again.found;
      sound = λ d fault.
          no_fault (found_at old.begun old.max old.unread) d e
          (fault_again old.begun old.max old.unread d fits fault);
    })
    by_found sound (Ok (Some x)) e f = HandsOne x.0 (drop x.1 old.unread) sound f.value
    by_found sound (Err e) is f = StopsNow e sound f.value

    by_fault : (o : Option WireFault) → old.fault ≡ o → IsStep old (next_by o old)
    by_fault None e =
        by_found e (found_at old.begun old.max old.unread) refl (finds old.begun old.max old.unread fits)
    by_fault (Some e) is = StaysStopped e is

-- ---- clauses

frame_by : (old new : Input) (f : Frame) (s : Step) → IsStep old s → s.0 ≡ Ok (Some f) → new ≡ s.1 → HandsOut old new f
frame_by old new f _ (StaysStopped e stopped) is left = absurd (cc is)
frame_by old new f _ (IsWaiting sound partial) is left = absurd (cc is)
frame_by old new f _ (HandsOne g rest sound read) is left =
    let same : g ≡ f = cc is in
    let unread : new.unread ≡ rest = ap (λ (i : Input). i.unread) left in record {
      sound = sound;
      read = subst (λ (k : Frame). IsRead old.begun old.max old.unread k new.unread) same
          (subst (λ (r : List ℕ). IsRead old.begun old.max old.unread g r) (sym unread) read);
      is = left ∙ ap (λ (r : List ℕ). record old { begun = true; unread = r }) (sym unread);
    }
frame_by old new f _ (StopsNow e sound fault) is left = absurd (cc is)

waits_by : (old new : Input) (s : Step) → IsStep old s → s.0 ≡ Ok None → new ≡ s.1 → Waits old new
waits_by old new _ (StaysStopped e stopped) is left = absurd (cc is)
waits_by old new _ (IsWaiting sound partial) is left = record { sound = sound; partial = partial; is = left }
waits_by old new _ (HandsOne g rest sound read) is left = absurd (cc is)
waits_by old new _ (StopsNow e sound fault) is left = absurd (cc is)

stops_by : (old new : Input) (e : WireFault) (s : Step) → IsStep old s → s.0 ≡ Err e → new ≡ s.1 → Stops old new e
stops_by old new e _ (StaysStopped d stopped) is left =
    let same : d ≡ e = cc is in record {
      due = subst (λ (o : Option WireFault). IsDue o old e) (sym stopped) same;
      later = ap (λ (i : Input). i.fault) left ∙ stopped ∙ ap (λ (k : WireFault). Some k) same;
    }
stops_by old new e _ (IsWaiting sound partial) is left = absurd (cc is)
stops_by old new e _ (HandsOne g rest sound read) is left = absurd (cc is)
stops_by old new e _ (StopsNow d sound fault) is left =
    let same : d ≡ e = cc is in record {
      due = subst (λ (o : Option WireFault). IsDue o old e) (sym sound)
          (subst (HasFault old.begun old.max old.unread) same fault);
      later = ap (λ (i : Input). i.fault) left ∙ ap (λ (k : WireFault). Some k) same;
    }

pub hands_out : (old new : Input) (r : Result (Option Frame) WireFault) → AreBytes old.unread
    → Gives memory_of (λ x. x) r (next old).0 → new ≡ left_by r old → IfOk r (λ o. IfSome o (HandsOut old new))
hands_out old new (Ok None) fits given left = tt
hands_out old new (Ok (Some f)) fits given left = frame_by old new f (next old) (step_of old fits) given left
hands_out old new (Err e) fits given left = tt

pub waits : (old new : Input) (r : Result (Option Frame) WireFault) → AreBytes old.unread
    → Gives memory_of (λ x. x) r (next old).0 → new ≡ left_by r old → IfOk r (λ o. IfNone o (Waits old new))
waits old new (Ok None) fits given left = waits_by old new (next old) (step_of old fits) given left
waits old new (Ok (Some f)) fits given left = tt
waits old new (Err e) fits given left = tt

pub stops : (old new : Input) (r : Result (Option Frame) WireFault) → AreBytes old.unread
    → Gives memory_of (λ x. x) r (next old).0 → new ≡ left_by r old → IfErr r (StopsAt old new)
stops old new (Ok o) fits given left = tt
stops old new (Err BadProtocol) fits given left =
    stops_by old new BadProtocol (next old) (step_of old fits) given left
stops old new (Err BadType) fits given left = stops_by old new BadType (next old) (step_of old fits) given left
stops old new (Err TooLong) fits given left = stops_by old new TooLong (next old) (step_of old fits) given left
stops old new (Err BadEnd) fits given left = stops_by old new BadEnd (next old) (step_of old fits) given left
stops old new (Err (BadMethod class number)) fits given left =
    stops_by old new (BadMethod class number) (next old) (step_of old fits) given left
stops old new (Err BadField) fits given left = stops_by old new BadField (next old) (step_of old fits) given left
stops old new (Err Memory) fits given left = left

-- a frame or a fault that stands at the front is the answer

next_frame_is : (old : Input) (f : Frame) (rest : List ℕ) → old.fault ≡ None
    → IsRead old.begun old.max old.unread f rest → (next old).0 ≡ Ok (Some f)
unfolding next
next_frame_is old f rest sound read =
    let again = found_again old.begun old.max old.unread f rest read in
    ap (λ (o : Option WireFault). (next_by o old).0) sound ∙ ap (λ (r : Found). (step_by r old).0) again.found

next_fault_is : (old : Input) (e : WireFault) → AreBytes old.unread → old.fault ≡ None
    → HasFault old.begun old.max old.unread e → (next old).0 ≡ Err e
unfolding next
next_fault_is old e fits sound fault =
    ap (λ (o : Option WireFault). (next_by o old).0) sound
    ∙ ap (λ (r : Found). (step_by r old).0) (fault_again old.begun old.max old.unread e fits fault)

pub whole_is : (old : Input) (r : Result (Option Frame) WireFault) → Gives memory_of (λ x. x) r (next old).0
    → (f : Frame) (rest : List ℕ) → old.fault ≡ None → IsRead old.begun old.max old.unread f rest
    → Gives memory_of (λ x. x) r (Ok (Some f))
whole_is old r given f rest sound read =
    subst (Gives memory_of (λ x. x) r) (next_frame_is old f rest sound read) given

pub fault_is : (old : Input) (r : Result (Option Frame) WireFault) → AreBytes old.unread
    → Gives memory_of (λ x. x) r (next old).0 → (e : WireFault) → old.fault ≡ None
    → HasFault old.begun old.max old.unread e → Gives memory_of (λ x. x) r (Err e)
fault_is old r fits given e sound fault =
    subst (Gives memory_of (λ x. x) r) (next_fault_is old e fits sound fault) given

pub stopped_is : (old : Input) (r : Result (Option Frame) WireFault) → Gives memory_of (λ x. x) r (next old).0
    → (e : WireFault) → old.fault ≡ Some e → Gives memory_of (λ x. x) r (Err e)
unfolding next
stopped_is old r given e stopped =
    subst (Gives memory_of (λ x. x) r) (ap (λ (o : Option WireFault). (next_by o old).0) stopped) given
