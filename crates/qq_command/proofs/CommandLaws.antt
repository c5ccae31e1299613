-- Each kind of command and its fields.
use Rattle.std.proofs.Common.{◌≡◌, ℕ, ◌<◌, ◌≤◌, cond, eqb, List, ◌++◌, Ok, refl, sym, subst, ◌∙◌, append_assoc, arith, inl, inr}
use Rattle.std.specs.Prelude.{nat_le, ◌==◌}
use Rattle.std.specs.Int.{w8, w32, w64}
use Rattle.std.proofs.lemmas.Bool.{cases_Bool, ltb-true, lt-ltb, eqb-true}
use Rattle.std.proofs.lemmas.Bool.Decides.{nat_tests}
use Rattle.qq_base.specs.declared.ids.TheConstants.{DEAD_LETTER}
use Rattle.qq_base.specs.Fields.{AreBytes}
use Rattle.qq_command.specs.declared.kinds.TheConstants as kinds
use Rattle.qq_entry.specs.declared.limits.TheConstants.{MACHINE_VERSION, TERM_LIMIT}
use Rattle.qq_entry.specs.declared.command.Command.{Command}
use Rattle.qq_entry.specs.declared.command.Command.TheVariants.{Noop, Enqueue, Get, Subscribe, Cancel, Credit, Settle, Return, Discard, Purge, Down, DeadAttach, DeadSettle}
use Rattle.qq_entry.specs.Range.{IsSession, AreIds, IsOfConsumer, IsCommand, HasContent}
use Rattle.qq_command.specs.declared.refusal.Refusal.TheVariants.{BadField}
use Rattle.qq_fields.specs.Writing.{u8, u32, u64, flag}
use Rattle.qq_command.specs.Encoding.{kind, session, stamp, origin, content, mode, ids, dead_dones, consumer, fields}
use Rattle.qq_command.specs.Reading.{Field, number_at, checked, flag_at, session_at, is_counted, stamp_at, counted_at, origin_at, message_at, mode_at, ids_at, dead_dones_at, consumer_at, verdict_at, noop_at, enqueue_at, get_at, subscribe_at, cancel_at, credit_at, settle_at, return_at, discard_at, purge_at, down_at, dead_attach_at, dead_settle_at, fields_at}
use Rattle.qq_fields.proofs.Laws.{Takes, Takes-then, Holds, Reads, here, then_ok, in_turn, Reads-fits, checked-reads}
use Rattle.qq_command.proofs.Numbers.{flag-reads, u8-reads, u32-reads, u64-reads}
use Rattle.qq_command.proofs.FieldLaws.{session-reads, stamp-reads, counted-reads, origin-reads, message-reads, mode-reads, ids-reads, dead_dones-reads, consumer-reads}

-- a command of this kind whose fields are a prefix
abbrev pub Brings : ℕ → List ℕ → Command × List ℕ → Type 0
Brings k bytes x = Takes bytes (fields x.0) x.1 × IsCommand x.0 × HasContent x.0 × (kind x.0 ≡ k)

-- ---- what is read

version-reads :
    Reads (λ bytes. checked (λ n. n == MACHINE_VERSION) (number_at w8 bytes)) u8 (λ n. n ≡ MACHINE_VERSION)
version-reads =
    Reads-fits (checked-reads BadField (λ n. n == MACHINE_VERSION) u8-reads) (λ n p. eqb-true n MACHINE_VERSION p.1)
    (λ n p. (omega arith, grind (arith, nat_tests)))

term-reads : Reads (λ bytes. checked (λ n. nat_le n TERM_LIMIT) (number_at w64 bytes)) u64 (λ n. n ≤ TERM_LIMIT)
term-reads =
    Reads-fits (checked-reads BadField (λ n. nat_le n TERM_LIMIT) u64-reads) (λ n p. grind (arith, nat_tests))
    (λ n p. (omega arith, grind (arith, nat_tests)))

down_session-reads :
    Reads (λ bytes. checked is_counted (session_at bytes)) session (λ s. IsSession s × (s.class < DEAD_LETTER))
down_session-reads =
    Reads-fits (checked-reads BadField is_counted session-reads) (λ s p. (p.0, ltb-true _ _ p.1))
    (λ s p. (p.0, lt-ltb _ _ p.1))

verdict-reads : Reads verdict_at (λ x. consumer x.0 x.1 ++ ids x.2) (λ x. IsOfConsumer x.0 x.1 × AreIds x.2)
unfolding verdict_at
verdict-reads = record {
  takes = λ bytes fits.
      then_ok (consumer_at bytes) _ (consumer-reads.takes bytes fits) (λ x p.
      then_ok (ids_at x.1) _ (ids-reads.takes x.1 p.0.rest_fits) (λ ns q.
      here _ (Takes-then p.0 q.0, (p.1, q.1))));
  again = λ x bytes rest e f.
      let split : bytes ≡ consumer x.0 x.1 ++ (ids x.2 ++ rest) = e
      ∙ append_assoc (consumer x.0 x.1) (ids x.2) rest in
      in_turn _ (consumer_at bytes) _ (consumer-reads.again (x.0, x.1) bytes _ split f.0)
      (in_turn _ (ids_at _) _ (ids-reads.again x.2 _ rest refl f.1) refl);
}

noop_takes : (bytes : List ℕ) → AreBytes bytes → Holds (noop_at bytes) (Brings kinds.NOOP bytes)
unfolding noop_at fields
noop_takes bytes fits =
    then_ok (checked (λ n. n == MACHINE_VERSION) (number_at w8 bytes)) _ (version-reads.takes bytes fits)
    (λ x p. here _ (p.0, p.1, tt, refl))

enqueue_takes : (bytes : List ℕ) → AreBytes bytes → Holds (enqueue_at bytes) (Brings kinds.ENQUEUE bytes)
unfolding enqueue_at fields
enqueue_takes bytes fits =
    then_ok (stamp_at bytes) _ (stamp-reads.takes bytes fits) (λ s p.
    then_ok (origin_at s.1) _ (origin-reads.takes s.1 p.0.rest_fits) (λ o q.
    then_ok (message_at o.1) _ (message-reads.takes o.1 q.0.rest_fits) (λ m r.
    here _ (Takes-then (Takes-then p.0 q.0) r.0, (p.1, q.1, r.1.0), r.1.1, refl))))

get_takes : (bytes : List ℕ) → AreBytes bytes → Holds (get_at bytes) (Brings kinds.GET bytes)
unfolding get_at fields
get_takes bytes fits =
    then_ok (counted_at bytes) _ (counted-reads.takes bytes fits) (λ x p. here _ (p.0, p.1, tt, refl))

subscribe_takes : (bytes : List ℕ) → AreBytes bytes → Holds (subscribe_at bytes) (Brings kinds.SUBSCRIBE bytes)
unfolding subscribe_at fields
subscribe_takes bytes fits =
    then_ok (consumer_at bytes) _ (consumer-reads.takes bytes fits) (λ x p.
    then_ok (mode_at x.1) _ (mode-reads.takes x.1 p.0.rest_fits) (λ m q.
    here _ (Takes-then p.0 q.0, (p.1, q.1), tt, refl)))

cancel_takes : (bytes : List ℕ) → AreBytes bytes → Holds (cancel_at bytes) (Brings kinds.CANCEL bytes)
unfolding cancel_at fields
cancel_takes bytes fits =
    then_ok (consumer_at bytes) _ (consumer-reads.takes bytes fits) (λ x p. here _ (p.0, p.1, tt, refl))

credit_takes : (bytes : List ℕ) → AreBytes bytes → Holds (credit_at bytes) (Brings kinds.CREDIT bytes)
unfolding credit_at fields
credit_takes bytes fits =
    then_ok (consumer_at bytes) _ (consumer-reads.takes bytes fits) (λ x p.
    then_ok (number_at w32 x.1) _ (u32-reads.takes x.1 p.0.rest_fits) (λ n q.
    then_ok (number_at w32 n.1) _ (u32-reads.takes n.1 q.0.rest_fits) (λ m r.
    then_ok (flag_at m.1) _ (flag-reads.takes m.1 r.0.rest_fits) (λ d t.
    here _ (Takes-then (Takes-then (Takes-then p.0 q.0) r.0) t.0, (p.1, q.1, r.1), tt, refl)))))

settle_takes : (bytes : List ℕ) → AreBytes bytes → Holds (settle_at bytes) (Brings kinds.SETTLE bytes)
unfolding settle_at fields
settle_takes bytes fits =
    then_ok (verdict_at bytes) _ (verdict-reads.takes bytes fits) (λ x p. here _ (p.0, p.1, tt, refl))

return_takes : (bytes : List ℕ) → AreBytes bytes → Holds (return_at bytes) (Brings kinds.RETURN bytes)
unfolding return_at fields
return_takes bytes fits =
    then_ok (verdict_at bytes) _ (verdict-reads.takes bytes fits) (λ x p. here _ (p.0, p.1, tt, refl))

discard_takes : (bytes : List ℕ) → AreBytes bytes → Holds (discard_at bytes) (Brings kinds.DISCARD bytes)
unfolding discard_at fields
discard_takes bytes fits =
    then_ok (verdict_at bytes) _ (verdict-reads.takes bytes fits) (λ x p. here _ (p.0, p.1, tt, refl))

purge_takes : (bytes : List ℕ) → AreBytes bytes → Holds (purge_at bytes) (Brings kinds.PURGE bytes)
unfolding purge_at fields
purge_takes bytes fits =
    then_ok (counted_at bytes) _ (counted-reads.takes bytes fits) (λ x p. here _ (p.0, p.1, tt, refl))

down_takes : (bytes : List ℕ) → AreBytes bytes → Holds (down_at bytes) (Brings kinds.DOWN bytes)
unfolding down_at fields
down_takes bytes fits =
    then_ok (checked is_counted (session_at bytes)) _ (down_session-reads.takes bytes fits)
    (λ x p. here _ (p.0, p.1, tt, refl))

dead_attach_takes : (bytes : List ℕ) → AreBytes bytes → Holds (dead_attach_at bytes) (Brings kinds.DEAD_ATTACH bytes)
unfolding dead_attach_at fields
dead_attach_takes bytes fits =
    then_ok (checked (λ n. nat_le n TERM_LIMIT) (number_at w64 bytes)) _ (term-reads.takes bytes fits)
    (λ x p. here _ (p.0, p.1, tt, refl))

dead_settle_takes : (bytes : List ℕ) → AreBytes bytes → Holds (dead_settle_at bytes) (Brings kinds.DEAD_SETTLE bytes)
unfolding dead_settle_at fields
dead_settle_takes bytes fits =
    then_ok (number_at w64 bytes) _ (u64-reads.takes bytes fits) (λ t p.
    then_ok (dead_dones_at t.1) _ (dead_dones-reads.takes t.1 p.0.rest_fits) (λ ds q.
    here _ (Takes-then p.0 q.0, (p.1, q.1), tt, refl)))

-- one step of the choice by kind
of_kind : (n k : ℕ) (bytes : List ℕ) (read others : Field Command) → Holds read (Brings k bytes)
    → Holds others (Brings n bytes) → Holds (cond (eqb n k) read others) (Brings n bytes)
of_kind n k bytes read others p q = elim (cases_Bool (eqb n k)) [
  | inl is ↦ rw is (subst (λ (j : ℕ). Holds read (Brings j bytes)) (sym (eqb-true n k is)) p)
  | inr is ↦ rw is q
]

pub fields_take : (n : ℕ) (bytes : List ℕ) → AreBytes bytes → Holds (fields_at n bytes) (Brings n bytes)
unfolding fields_at
fields_take n bytes fits =
    of_kind n kinds.NOOP bytes (noop_at bytes) _ (noop_takes bytes fits)
    (of_kind n kinds.ENQUEUE bytes (enqueue_at bytes) _ (enqueue_takes bytes fits)
    (of_kind n kinds.GET bytes (get_at bytes) _ (get_takes bytes fits)
    (of_kind n kinds.SUBSCRIBE bytes (subscribe_at bytes) _ (subscribe_takes bytes fits)
    (of_kind n kinds.CANCEL bytes (cancel_at bytes) _ (cancel_takes bytes fits)
    (of_kind n kinds.CREDIT bytes (credit_at bytes) _ (credit_takes bytes fits)
    (of_kind n kinds.SETTLE bytes (settle_at bytes) _ (settle_takes bytes fits)
    (of_kind n kinds.RETURN bytes (return_at bytes) _ (return_takes bytes fits)
    (of_kind n kinds.DISCARD bytes (discard_at bytes) _ (discard_takes bytes fits)
    (of_kind n kinds.PURGE bytes (purge_at bytes) _ (purge_takes bytes fits)
    (of_kind n kinds.DOWN bytes (down_at bytes) _ (down_takes bytes fits)
    (of_kind n kinds.DEAD_ATTACH bytes (dead_attach_at bytes) _ (dead_attach_takes bytes fits)
    (of_kind n kinds.DEAD_SETTLE bytes (dead_settle_at bytes) _ (dead_settle_takes bytes fits)
    (record { value = tt })))))))))))))

-- ---- what was written

pub fields_again : (c : Command) (bytes rest : List ℕ) → bytes ≡ fields c ++ rest → IsCommand c → HasContent c
    → fields_at (kind c) bytes ≡ Ok (c, rest)
unfolding fields_at fields noop_at enqueue_at get_at subscribe_at cancel_at credit_at settle_at return_at discard_at
    purge_at down_at dead_attach_at dead_settle_at
fields_again (Noop version) bytes rest e f h =
    in_turn _ (checked (λ n. n == MACHINE_VERSION) (number_at w8 bytes)) _
    (version-reads.again version bytes rest e f) refl
fields_again (Enqueue s o m) bytes rest e f h =
    let split : bytes ≡ stamp s ++ (origin o ++ (content m.content ++ rest)) = e ∙ simp append_assoc in
    in_turn _ (stamp_at bytes) _ (stamp-reads.again s bytes _ split f.0)
    (in_turn _ (origin_at _) _ (origin-reads.again o _ _ refl f.1)
    (in_turn _ (message_at _) _ (message-reads.again m _ rest refl (f.2, h)) refl))
fields_again (Get s) bytes rest e f h = in_turn _ (counted_at bytes) _ (counted-reads.again s bytes rest e f) refl
fields_again (Subscribe s tag m) bytes rest e f h =
    let split : bytes ≡ consumer s tag ++ (mode m ++ rest) = e ∙ append_assoc (consumer s tag) (mode m) rest in
    in_turn _ (consumer_at bytes) _ (consumer-reads.again (s, tag) bytes _ split f.0)
    (in_turn _ (mode_at _) _ (mode-reads.again m _ rest refl f.1) refl)
fields_again (Cancel s tag) bytes rest e f h =
    in_turn _ (consumer_at bytes) _ (consumer-reads.again (s, tag) bytes rest e f) refl
fields_again (Credit s tag count credit drain) bytes rest e f h =
    let split : bytes ≡ consumer s tag ++ (u32 count ++ (u32 credit ++ (flag drain ++ rest))) = e
    ∙ simp append_assoc in
    in_turn _ (consumer_at bytes) _ (consumer-reads.again (s, tag) bytes _ split f.0)
    (in_turn _ (number_at w32 _) _ (u32-reads.again count _ _ refl f.1)
    (in_turn _ (number_at w32 _) _ (u32-reads.again credit _ _ refl f.2)
    (in_turn _ (flag_at _) _ (flag-reads.again drain _ rest refl tt) refl)))
fields_again (Settle s tag ns) bytes rest e f h =
    in_turn _ (verdict_at bytes) _ (verdict-reads.again (s, tag, ns) bytes rest e f) refl
fields_again (Return s tag ns) bytes rest e f h =
    in_turn _ (verdict_at bytes) _ (verdict-reads.again (s, tag, ns) bytes rest e f) refl
fields_again (Discard s tag ns) bytes rest e f h =
    in_turn _ (verdict_at bytes) _ (verdict-reads.again (s, tag, ns) bytes rest e f) refl
fields_again (Purge s) bytes rest e f h = in_turn _ (counted_at bytes) _ (counted-reads.again s bytes rest e f) refl
fields_again (Down s) bytes rest e f h =
    in_turn _ (checked is_counted (session_at bytes)) _ (down_session-reads.again s bytes rest e f) refl
fields_again (DeadAttach term) bytes rest e f h =
    in_turn _ (checked (λ n. nat_le n TERM_LIMIT) (number_at w64 bytes)) _ (term-reads.again term.0 bytes rest e f)
    refl
fields_again (DeadSettle term ds) bytes rest e f h =
    let split : bytes ≡ u64 term.0 ++ (dead_dones ds ++ rest) = e in
    in_turn _ (number_at w64 bytes) _ (u64-reads.again term.0 bytes _ split f.0)
    (in_turn _ (dead_dones_at _) _ (dead_dones-reads.again ds _ rest refl f.1) refl)
