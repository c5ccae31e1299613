-- Each field and its encoding.
use Rattle.std.proofs.Common.{◌≡◌, ℕ, zero, suc, ◌^◌, ◌<◌, ◌≤◌, Bool, true, false, cond, ltb, leb, eqb, List, ◌++◌, length, Option, Some, None, Ok, Err, refl, sym, ap, subst, ◌∙◌, append_assoc, arith, All, lit<}
use Rattle.std.specs.Prelude.{IfSome, ◌&&◌}
use Rattle.std.specs.List.{flat_map}
use Rattle.std.specs.Str.{IsUtf8, is_utf8}
use Rattle.std.specs.Int.{w8, w16, w32, w64}
use Rattle.std.proofs.lemmas.Bool.{ltb-true, ltb-false, lt-ltb, le-ltb, eqb-true}
use Rattle.std.proofs.lemmas.Bool.Decides.{nat_tests}
use Rattle.std.proofs.lemmas.List.Elements.{All-from_recursion, recursion_from_All}
use Rattle.std.proofs.lemmas.Str.{is_utf8-from_IsUtf8, IsUtf8-from_is_utf8}
use Rattle.qq_base.specs.declared.ids.SessionId.{SessionId}
use Rattle.qq_entry.specs.declared.limits.TheConstants.{BODY_LIMIT, KEY_LIMIT, DEATHS_LIMIT, IDS_LIMIT, DEAD_DONE_LIMIT, TARGETS_LIMIT}
use Rattle.qq_command.specs.declared.refusal.Refusal.TheVariants.{BadField, TooLarge}
use Rattle.qq_entry.specs.declared.message.Reason.{Reason}
use Rattle.qq_entry.specs.declared.message.Reason.TheVariants.{Rejected, Expired, MaxLen, DeliveryLimit}
use Rattle.qq_entry.specs.declared.message.Content.{Content}
use Rattle.qq_entry.specs.declared.message.Message.{Message}
use Rattle.qq_entry.specs.declared.message.Origin.{Origin}
use Rattle.qq_entry.specs.declared.command.Stamp.{Stamp}
use Rattle.qq_entry.specs.declared.command.Mode.{Mode}
use Rattle.qq_entry.specs.declared.command.Mode.TheVariants.{Prefetch, Link}
use Rattle.qq_entry.specs.Range.{IsPositive, IsSession, IsStamp, IsCounted, IsQueue, IsDeath, IsContent, IsOrigin, IsMode, AreIds, IsDeadDone, AreDeadDones, IsOfConsumer, IsWhole}
use Rattle.qq_fields.specs.Writing.{u8, u16, u32, u64, flag}
use Rattle.qq_command.specs.Encoding.{reason_number, session, stamp, queue, origin, body, key, death, deaths, content, mode, ids, dead_done, dead_dones, consumer}
use Rattle.qq_fields.specs.Reading as fields
use Rattle.qq_fields.specs.Reading.{◌>>=◌, many, required}
use Rattle.qq_command.specs.Reading.{number_at, bytes_at, checked, positive_at, flag_at, has_owner, session_at, has_seq, is_counted, stamp_at, counted_at, queue_at, origin_at, body_at, key_at, reason_of, death_at, deaths_at, message_at, mode_at, ids_at, dead_done_at, dead_dones_at, consumer_at}
use Rattle.qq_fields.proofs.Laws.{Takes, Takes-then, Holds, Holds-map, Reads, here, then_ok, where_true, where_false, in_turn, Reads-fits, checked-reads, bytes-takes, bytes-again, many-takes, many-again}
use Rattle.qq_command.proofs.Numbers.{flag-reads, u8-reads, u16-reads, u32-reads, u64-reads, positive32-reads, positive64-reads}

-- ---- sessions

session_parts :
    Reads (λ bytes. number_at w8 bytes >>= λ class. number_at w32 class.1 >>= λ owner. positive_at w64 owner.1
    >>= λ number. Ok (record { class = class.0; owner = owner.0; number = number.0 }, number.1)) session
    (λ s. (s.class < 2 ^ 8) × (s.owner < 2 ^ 32) × IsPositive 64 s.number)
unfolding session
session_parts = record {
  takes = λ bytes fits.
      then_ok (number_at w8 bytes) _ (u8-reads.takes bytes fits) (λ class p.
      then_ok (number_at w32 class.1) _ (u32-reads.takes class.1 p.0.rest_fits) (λ owner q.
      then_ok (positive_at w64 owner.1) _ (positive64-reads.takes owner.1 q.0.rest_fits) (λ number r.
      here _ (Takes-then (Takes-then p.0 q.0) r.0, (p.1, q.1, r.1)))));
  again = λ s bytes rest e f.
      let split : bytes ≡ u8 s.class ++ (u32 s.owner ++ (u64 s.number ++ rest)) = e in
      in_turn _ (number_at w8 bytes) _ (u8-reads.again s.class bytes _ split f.0)
      (in_turn _ (number_at w32 _) _ (u32-reads.again s.owner _ _ refl f.1)
      (in_turn _ (positive_at w64 _) _ (positive64-reads.again s.number _ rest refl f.2) refl));
}

is_session : (s : SessionId)
    → ((s.class < 2 ^ 8) × (s.owner < 2 ^ 32) × IsPositive 64 s.number) × (has_owner s ≡ true) → IsSession s
is_session s p =
    record {
      class = grind (arith, nat_tests);
      client = grind (arith, nat_tests);
      owned = grind (arith, nat_tests);
      owner = p.0.1;
      number = p.0.2;
    }

owns : (s : SessionId) → IsSession s → has_owner s ≡ true
owns s p = grind (arith, nat_tests)

pub session-reads : Reads session_at session IsSession
unfolding session_at
session-reads =
    Reads-fits (checked-reads BadField has_owner session_parts) is_session
    (λ s p. ((omega arith, p.owner, p.number), owns s p))

-- ---- stamps

stamp_parts :
    Reads (λ bytes. session_at bytes >>= λ x. number_at w64 x.1 >>= λ seq. number_at w64 seq.1 >>= λ done. Ok
    (record { session = x.0; seq = seq.0; done = done.0 }, done.1)) stamp
    (λ s. IsSession s.session × (s.seq < 2 ^ 64) × (s.done < 2 ^ 64))
unfolding stamp
stamp_parts = record {
  takes = λ bytes fits.
      then_ok (session_at bytes) _ (session-reads.takes bytes fits) (λ x p.
      then_ok (number_at w64 x.1) _ (u64-reads.takes x.1 p.0.rest_fits) (λ seq q.
      then_ok (number_at w64 seq.1) _ (u64-reads.takes seq.1 q.0.rest_fits) (λ done r.
      here _ (Takes-then (Takes-then p.0 q.0) r.0, (p.1, q.1, r.1)))));
  again = λ s bytes rest e f.
      let split : bytes ≡ session s.session ++ (u64 s.seq ++ (u64 s.done ++ rest)) = e ∙ simp append_assoc in
      in_turn _ (session_at bytes) _ (session-reads.again s.session bytes _ split f.0)
      (in_turn _ (number_at w64 _) _ (u64-reads.again s.seq _ _ refl f.1)
      (in_turn _ (number_at w64 _) _ (u64-reads.again s.done _ rest refl f.2) refl));
}

is_stamp : (s : Stamp) → (IsSession s.session × (s.seq < 2 ^ 64) × (s.done < 2 ^ 64)) × (has_seq s ≡ true) → IsStamp s
is_stamp s p =
    record {
      session = p.0.0;
      counted = grind (arith, nat_tests);
      uncounted = grind (arith, nat_tests);
      seq = p.0.1;
      done = p.0.2;
    }

counts : (s : Stamp) → IsStamp s → has_seq s ≡ true
counts s p = let c = p.session.class in grind (arith, nat_tests)

pub stamp-reads : Reads stamp_at stamp IsStamp
unfolding stamp_at
stamp-reads =
    Reads-fits (checked-reads BadField has_seq stamp_parts) is_stamp (λ s p. ((p.session, p.seq, p.done), counts s p))

pub counted-reads : Reads counted_at stamp IsCounted
unfolding counted_at
counted-reads =
    Reads-fits (checked-reads BadField (λ s. is_counted s.session) stamp-reads) (λ s p. (p.0, ltb-true _ _ p.1))
    (λ s p. (p.0, lt-ltb _ _ p.1))

-- ---- queues and origins

pub queue-reads : Reads queue_at queue IsQueue
unfolding queue_at
queue-reads = record {
  takes = λ bytes fits. then_ok (positive_at w32 bytes) _ (positive32-reads.takes bytes fits) (λ n p. here _ p);
  again = λ q bytes rest e f. in_turn _ (positive_at w32 bytes) _ (positive32-reads.again q.0 bytes rest e f) refl;
}

origin_then : (bytes : List ℕ) (b : Bool) (rest : List ℕ) → Takes bytes (flag b) rest
    → Holds {A = Option Origin × List ℕ}
    (cond b (queue_at rest >>= λ source. positive_at w64 source.1 >>= λ number. Ok
    (Some (record { source = source.0; number = number.0 }), number.1)) (Ok (None, rest)))
    (λ x. Takes bytes (origin x.0) x.1 × IfSome x.0 IsOrigin)
unfolding origin
origin_then bytes false rest p = here (None, rest) (p, tt)
origin_then bytes true rest p =
    then_ok (queue_at rest) _ (queue-reads.takes rest p.rest_fits) (λ source q.
    then_ok (positive_at w64 source.1) _ (positive64-reads.takes source.1 q.0.rest_fits) (λ number r.
    here _ (Takes-then (Takes-then p q.0) r.0, (q.1, r.1))))

origin_again : (o : Option Origin) (bytes rest : List ℕ) → bytes ≡ origin o ++ rest → IfSome o IsOrigin
    → origin_at bytes ≡ Ok (o, rest)
unfolding origin_at origin
origin_again None bytes rest e f = in_turn _ (flag_at bytes) _ (flag-reads.again false bytes rest e tt) refl
origin_again (Some o) bytes rest e f =
    let split : bytes ≡ flag true ++ (queue o.source ++ (u64 o.number ++ rest)) = e in
    in_turn _ (flag_at bytes) _ (flag-reads.again true bytes _ split tt)
    (in_turn _ (queue_at _) _ (queue-reads.again o.source _ _ refl f.0)
    (in_turn _ (positive_at w64 _) _ (positive64-reads.again o.number _ rest refl f.1) refl))

pub origin-reads : Reads origin_at origin (λ o. IfSome o IsOrigin)
unfolding origin_at
origin-reads = record {
  takes =
      λ bytes fits. then_ok (flag_at bytes) _ (flag-reads.takes bytes fits) (λ x p. origin_then bytes x.0 x.1 p.0);
  again = origin_again;
}

-- ---- bodies and keys

pub body-reads : Reads body_at body (λ b. length b ≤ BODY_LIMIT)
unfolding body_at body
body-reads = record {
  takes = λ bytes fits.
      then_ok (number_at w32 bytes) _ (u32-reads.takes bytes fits) (λ n p.
      where_false (ltb BODY_LIMIT n.0) _ TooLarge (λ small.
      Holds-map (bytes_at n.0 n.1) (bytes-takes BadField n.0 n.1 p.0.rest_fits) (λ x q.
      (Takes-then (subst (λ (k : ℕ). Takes bytes (u32 k) n.1) (sym q.1) p.0) q.0, rw q.1 (ltb-false _ _ small)))));
  again = λ b bytes rest e f.
      let split : bytes ≡ u32 (length b) ++ (b ++ rest) = e in
      in_turn _ (number_at w32 bytes) _ (u32-reads.again (length b) bytes _ split (omega arith))
      (rw (le-ltb BODY_LIMIT (length b) f) (bytes-again BadField (length b) b _ rest refl refl));
}

pub key-reads : Reads key_at key (λ k. (length k ≤ KEY_LIMIT) × IsUtf8 k)
unfolding key_at key fields.checked
key-reads = record {
  takes = λ bytes fits.
      then_ok (number_at w8 bytes) _ (u8-reads.takes bytes fits) (λ n p.
      then_ok (bytes_at n.0 n.1) _ (bytes-takes BadField n.0 n.1 p.0.rest_fits) (λ x q.
      where_true (is_utf8 x.0) (Ok x) BadField (λ t.
      here x (
        Takes-then (subst (λ (k : ℕ). Takes bytes (u8 k) n.1) (sym q.1) p.0) q.0,
        (let len = q.1 in omega (arith, p.1), IsUtf8-from_is_utf8 x.0 t),
      ))));
  again = λ k bytes rest e f.
      let split : bytes ≡ u8 (length k) ++ (k ++ rest) = e in
      in_turn _ (number_at w8 bytes) _ (u8-reads.again (length k) bytes _ split (omega (arith, f.0)))
      (in_turn _ (bytes_at (length k) _) _ (bytes-again BadField (length k) k _ rest refl refl)
      (rw (is_utf8-from_IsUtf8 k f.1) refl));
}

-- ---- deaths

no_reason : (n : ℕ) → 4 < n → reason_of n ≡ None
no_reason n lt = grind (arith, nat_tests)

reason_known : (n : ℕ) → Holds (required BadField (reason_of n)) (λ r. n ≡ reason_number r)
reason_known zero = record { value = tt }
reason_known (suc zero) = here Rejected refl
reason_known (suc (suc zero)) = here Expired refl
reason_known (suc (suc (suc zero))) = here MaxLen refl
reason_known (suc (suc (suc (suc zero)))) = here DeliveryLimit refl
reason_known (suc (suc (suc (suc (suc n))))) =
    rw (no_reason (suc (suc (suc (suc (suc n))))) (omega arith)) (record { value = tt })

reason_fits : (r : Reason) → reason_number r < 2 ^ 8
reason_fits Rejected = lit< tt
reason_fits Expired = lit< tt
reason_fits MaxLen = lit< tt
reason_fits DeliveryLimit = lit< tt

reason_again : (r : Reason) → required BadField (reason_of (reason_number r)) ≡ Ok r
reason_again Rejected = refl
reason_again Expired = refl
reason_again MaxLen = refl
reason_again DeliveryLimit = refl

death-reads : Reads death_at death IsDeath
unfolding death_at death
death-reads = record {
  takes = λ bytes fits.
      then_ok (queue_at bytes) _ (queue-reads.takes bytes fits) (λ q p.
      then_ok (number_at w8 q.1) _ (u8-reads.takes q.1 p.0.rest_fits) (λ n r.
      then_ok (required BadField (reason_of n.0)) _ (reason_known n.0) (λ reason is.
      here _ (Takes-then p.0 (subst (λ (k : ℕ). Takes q.1 (u8 k) n.1) is r.0), p.1))));
  again = λ d bytes rest e f.
      let split : bytes ≡ queue d.queue ++ (u8 (reason_number d.reason) ++ rest) = e in
      in_turn _ (queue_at bytes) _ (queue-reads.again d.queue bytes _ split f)
      (in_turn _ (number_at w8 _) _ (u8-reads.again (reason_number d.reason) _ rest refl (reason_fits d.reason))
      (in_turn _ (required BadField (reason_of (reason_number d.reason))) d.reason (reason_again d.reason) refl));
}

deaths-reads : Reads deaths_at deaths (λ ds. (length ds ≤ DEATHS_LIMIT) × All IsDeath ds)
unfolding deaths_at deaths
deaths-reads = record {
  takes = λ bytes fits.
      then_ok (number_at w16 bytes) _ (u16-reads.takes bytes fits) (λ n p.
      where_false (ltb DEATHS_LIMIT n.0) _ TooLarge (λ small.
      Holds-map (many death_at n.0 n.1) (many-takes death-reads n.0 n.1 p.0.rest_fits) (λ x q. (
        Takes-then (subst (λ (k : ℕ). Takes bytes (u16 k) n.1) (sym q.1) p.0) q.0,
        (rw q.1 (ltb-false _ _ small), All-from_recursion IsDeath x.0 q.2),
      ))));
  again = λ ds bytes rest e f.
      let split : bytes ≡ u16 (length ds) ++ (flat_map death ds ++ rest) = e in
      in_turn _ (number_at w16 bytes) _ (u16-reads.again (length ds) bytes _ split (omega (arith, f.0)))
      (rw (le-ltb DEATHS_LIMIT (length ds) f.0)
      (many-again death-reads ds _ rest refl (recursion_from_All IsDeath ds f.1)));
}

-- ---- messages

-- a message that has its content, in range
abbrev pub IsMessage : Message → Type 0
IsMessage m = IfSome m.content IsContent × IsWhole m

message_again : (size : ℕ) (o : Option Content) (bytes rest : List ℕ) → bytes ≡ content o ++ rest
    → IsMessage (record { size = size; content = o })
    → message_at bytes ≡ Ok (record { size = size; content = o }, rest)
unfolding message_at content
message_again size None bytes rest e f = absurd f.1
message_again size (Some c) bytes rest e f =
    let split : bytes ≡ body c.body ++ (key c.key ++ (deaths c.deaths ++ rest)) = e ∙ simp append_assoc in
    in_turn _ (body_at bytes) _ (body-reads.again c.body bytes _ split f.0.body)
    (in_turn _ (key_at _) _ (key-reads.again c.key _ _ refl (f.0.key, f.0.text))
    (in_turn _ (deaths_at _) _ (deaths-reads.again c.deaths _ rest refl (f.0.deaths, f.0.each))
    (ap (λ (k : ℕ). Ok (record { size = k; content = Some c }, rest)) (sym f.1))))

pub message-reads : Reads message_at (λ m. content m.content) IsMessage
unfolding message_at content
message-reads = record {
  takes = λ bytes fits.
      then_ok (body_at bytes) _ (body-reads.takes bytes fits) (λ b p.
      then_ok (key_at b.1) _ (key-reads.takes b.1 p.0.rest_fits) (λ k q.
      then_ok (deaths_at k.1) _ (deaths-reads.takes k.1 q.0.rest_fits) (λ ds r.
      here _ (
        Takes-then (Takes-then p.0 q.0) r.0,
        (record { body = p.1; key = q.1.0; text = q.1.1; deaths = r.1.0; each = r.1.1 }, refl),
      ))));
  again = λ m bytes rest e f. message_again m.size m.content bytes rest e f;
}

-- ---- modes

mode_then : (bytes : List ℕ) (is_link : Bool) (rest : List ℕ) → Takes bytes (flag is_link) rest
    → Holds {A = Mode × List ℕ}
    (number_at w16 rest >>= λ count. cond is_link (cond (eqb count.0 0) (Ok (Link, count.1)) (Err BadField))
    (Ok (Prefetch count.0, count.1))) (λ x. Takes bytes (mode x.0) x.1 × IsMode x.0)
unfolding mode
mode_then bytes false rest p =
    then_ok (number_at w16 rest) _ (u16-reads.takes rest p.rest_fits) (λ n q. here _ (Takes-then p q.0, q.1))
mode_then bytes true rest p =
    then_ok (number_at w16 rest) _ (u16-reads.takes rest p.rest_fits) (λ n q.
    where_true (eqb n.0 0) _ BadField
    (λ is. here _ (Takes-then p (subst (λ (k : ℕ). Takes rest (u16 k) n.1) (eqb-true n.0 0 is) q.0), tt)))

mode_again : (m : Mode) (bytes rest : List ℕ) → bytes ≡ mode m ++ rest → IsMode m → mode_at bytes ≡ Ok (m, rest)
unfolding mode_at mode
mode_again (Prefetch n) bytes rest e f =
    let split : bytes ≡ flag false ++ (u16 n ++ rest) = e in
    in_turn _ (flag_at bytes) _ (flag-reads.again false bytes _ split tt)
    (in_turn _ (number_at w16 _) _ (u16-reads.again n _ rest refl f) refl)
mode_again Link bytes rest e f =
    let split : bytes ≡ flag true ++ (u16 0 ++ rest) = e in
    in_turn _ (flag_at bytes) _ (flag-reads.again true bytes _ split tt)
    (in_turn _ (number_at w16 _) _ (u16-reads.again 0 _ rest refl (lit< tt)) refl)

pub mode-reads : Reads mode_at mode IsMode
unfolding mode_at
mode-reads = record {
  takes = λ bytes fits. then_ok (flag_at bytes) _ (flag-reads.takes bytes fits) (λ x p. mode_then bytes x.0 x.1 p.0);
  again = mode_again;
}

-- ---- ids

pub ids-reads : Reads ids_at ids AreIds
unfolding ids_at ids
ids-reads = record {
  takes = λ bytes fits.
      then_ok (number_at w32 bytes) _ (u32-reads.takes bytes fits) (λ n p.
      where_false (ltb IDS_LIMIT n.0) _ TooLarge (λ small.
      where_false (eqb n.0 0) _ BadField (λ some.
      Holds-map (many (positive_at w64) n.0 n.1) (many-takes positive64-reads n.0 n.1 p.0.rest_fits) (λ x q. (
        Takes-then (subst (λ (k : ℕ). Takes bytes (u32 k) n.1) (sym q.1) p.0) q.0,
        (
          rw q.1 (positive_from n.0 some),
          rw q.1 (ltb-false _ _ small),
          All-from_recursion (IsPositive 64) x.0
              q.2,
        ),
      )))));
  again = λ ns bytes rest e f.
      let split : bytes ≡ u32 (length ns) ++ (flat_map u64 ns ++ rest) = e in
      in_turn _ (number_at w32 bytes) _ (u32-reads.again (length ns) bytes _ split (omega (arith, f.1)))
      (rw (le-ltb IDS_LIMIT (length ns) f.1, not_none (length ns) f.0)
      (many-again positive64-reads ns _ rest refl (recursion_from_All (IsPositive 64) ns f.2)));
}
  where
    positive_from : (n : ℕ) → eqb n 0 ≡ false → 0 < n
    positive_from n e = grind (arith, nat_tests)

    not_none : (n : ℕ) → 0 < n → eqb n 0 ≡ false
    not_none n lt = grind (arith, nat_tests)

-- ---- dead letters that are settled

few_targets : Reads (λ bytes. checked (λ n. leb n TARGETS_LIMIT) (number_at w16 bytes)) u16 (λ n. n ≤ TARGETS_LIMIT)
few_targets =
    Reads-fits (checked-reads BadField (λ n. leb n TARGETS_LIMIT) u16-reads) (λ n p. grind (arith, nat_tests))
    (λ n p. (omega arith, grind (arith, nat_tests)))

dead_done-reads : Reads dead_done_at dead_done IsDeadDone
unfolding dead_done_at dead_done
dead_done-reads = record {
  takes = λ bytes fits.
      then_ok (positive_at w64 bytes) _ (positive64-reads.takes bytes fits) (λ d p.
      then_ok (checked (λ n. leb n TARGETS_LIMIT) (number_at w16 d.1)) _ (few_targets.takes d.1 p.0.rest_fits) (λ n q.
      then_ok (many queue_at n.0 n.1) _ (many-takes queue-reads n.0 n.1 q.0.rest_fits) (λ x r.
      here _ (
        Takes-then (Takes-then p.0 (subst (λ (k : ℕ). Takes d.1 (u16 k) n.1) (sym r.1) q.0)) r.0,
        record { number = p.1; targets = rw r.1 q.1; each = All-from_recursion IsQueue x.0 r.2 },
      ))));
  again = λ d bytes rest e f.
      let split : bytes ≡ u64 d.number ++ (u16 (length d.targets) ++ (flat_map queue d.targets ++ rest)) = e in
      in_turn _ (positive_at w64 bytes) _ (positive64-reads.again d.number bytes _ split f.number)
      (in_turn _ (checked (λ n. leb n TARGETS_LIMIT) (number_at w16 _)) _
      (few_targets.again (length d.targets) _ _ refl f.targets)
      (in_turn _ (many queue_at (length d.targets) _) _
      (many-again queue-reads d.targets _ rest refl (recursion_from_All IsQueue d.targets f.each)) refl));
}

some_dones :
    Reads (λ bytes. checked (λ n. ltb 0 n && leb n DEAD_DONE_LIMIT) (number_at w16 bytes)) u16
    (λ n. (0 < n) × (n ≤ DEAD_DONE_LIMIT))
some_dones =
    Reads-fits (checked-reads BadField (λ n. ltb 0 n && leb n DEAD_DONE_LIMIT) u16-reads)
    (λ n p. (grind (arith, nat_tests), grind (arith, nat_tests))) (λ n p. (omega arith, grind (arith, nat_tests)))

pub dead_dones-reads : Reads dead_dones_at dead_dones AreDeadDones
unfolding dead_dones_at dead_dones
dead_dones-reads = record {
  takes = λ bytes fits.
      then_ok (checked (λ n. ltb 0 n && leb n DEAD_DONE_LIMIT) (number_at w16 bytes)) _
      (some_dones.takes bytes fits) (λ n p.
      Holds-map (many dead_done_at n.0 n.1) (many-takes dead_done-reads n.0 n.1 p.0.rest_fits) (λ x q. (
        Takes-then (subst (λ (k : ℕ). Takes bytes (u16 k) n.1) (sym q.1) p.0) q.0,
        (rw q.1 p.1.0, rw q.1 p.1.1, All-from_recursion IsDeadDone x.0 q.2),
      )));
  again = λ ds bytes rest e f.
      let split : bytes ≡ u16 (length ds) ++ (flat_map dead_done ds ++ rest) = e in
      in_turn _ (checked (λ n. ltb 0 n && leb n DEAD_DONE_LIMIT) (number_at w16 bytes)) _
      (some_dones.again (length ds) bytes _ split (f.0, f.1))
      (many-again dead_done-reads ds _ rest refl (recursion_from_All IsDeadDone ds f.2));
}

-- ---- a stamp and a tag

pub consumer-reads : Reads consumer_at (λ x. consumer x.0 x.1) (λ x. IsOfConsumer x.0 x.1)
unfolding consumer_at consumer
consumer-reads = record {
  takes = λ bytes fits.
      then_ok (counted_at bytes) _ (counted-reads.takes bytes fits) (λ s p.
      then_ok (positive_at w32 s.1) _ (positive32-reads.takes s.1 p.0.rest_fits) (λ tag q.
      here _ (Takes-then p.0 q.0, (p.1, q.1))));
  again = λ x bytes rest e f.
      let split : bytes ≡ stamp x.0 ++ (u32 x.1 ++ rest) = e ∙ append_assoc (stamp x.0) (u32 x.1) rest in
      in_turn _ (counted_at bytes) _ (counted-reads.again x.0 bytes _ split f.0)
      (in_turn _ (positive_at w32 _) _ (positive32-reads.again x.1 _ rest refl f.1) refl);
}
