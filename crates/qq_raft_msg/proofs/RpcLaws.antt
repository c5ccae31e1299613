-- Messages and their encodings.
use Rattle.std.proofs.Common.{◌≡◌, ℕ, zero, suc, ◌-◌, ◌^◌, ◌<◌, ◌≤◌, true, List, ◌++◌, length, take, Result, Ok, Err, refl, sym, ap, subst, ◌∙◌, append_assoc, arith, lit<}
use Rattle.std.specs.Prelude.{IfOk}
use Rattle.std.specs.Int.{w64}
use Rattle.std.proofs.lemmas.List.{take_at, length-append, length-take}
use Rattle.qq_base.specs.Fields.{AreBytes}
use Rattle.qq_command.specs.declared.refusal.Refusal.{Refusal}
use Rattle.qq_fields.specs.Writing.{u8, u64, flag}
use Rattle.qq_command.specs.Reading.{Gives, memory_of, entries_at}
use Rattle.qq_raft_msg.specs.declared.envelope.Envelope.{Envelope}
use Rattle.qq_raft_msg.specs.declared.rpc.Rpc.{Rpc}
use Rattle.qq_raft_msg.specs.declared.rpc.Rpc.TheVariants.{Vote, Voted, Append, Appended, Install, Installed}
use Rattle.qq_command.specs.Encoding.{entries}
use Rattle.qq_raft_msg.specs.Encoding.{way, shadow, fields, encoding}
use Rattle.qq_raft_msg.specs.Reading.{number_at, is_kind, kind_at, flag_at, envelope_at, shadow_at, vote_at, voted_at, append_at, appended_at, install_at, installed_at, fields_at, rpc_at, message_at, IsRpcPrefix}
use Rattle.qq_raft_msg.specs.Rpc.{kind, envelope, IsEnvelope, HasFields, IsWritable}
use Rattle.qq_fields.proofs.Laws.{found, none_begins, Takes, Takes-then, Holds, Holds-map, Reads, here, known, then_ok, in_turn}
use Rattle.qq_raft_msg.proofs.Numbers.{u64-reads, flag-reads}
use Rattle.qq_raft_msg.proofs.FieldLaws.{kind_takes, kind_again, envelope-reads, shadow-reads}
use Rattle.qq_command.proofs.EntriesLaws.{entries-reads}

-- ---- what follows an envelope

-- what is read of a message of a kind, with an envelope
record Brings (k : ℕ) (e : Envelope) (bytes : List ℕ) (x : Rpc × List ℕ) : Type 0 where
  takes : Takes bytes (fields x.0) x.1
  range : HasFields x.0
  kind_is : kind x.0 ≡ k
  envelope_is : envelope x.0 ≡ e

vote_takes : (e : Envelope) (bytes : List ℕ) → AreBytes bytes → Holds (vote_at e bytes) (Brings 1 e bytes)
unfolding vote_at fields
vote_takes e bytes fits =
    then_ok (number_at w64 bytes) _ (u64-reads.takes bytes fits) (λ index p.
    then_ok (number_at w64 index.1) _ (u64-reads.takes index.1 p.0.rest_fits) (λ term q.
    here _ (record {
      takes = Takes-then p.0 q.0;
      range = (p.1, q.1);
      kind_is = refl;
      envelope_is = refl;
    })))

voted_takes : (e : Envelope) (bytes : List ℕ) → AreBytes bytes → Holds (voted_at e bytes) (Brings 2 e bytes)
unfolding voted_at fields
voted_takes e bytes fits =
    then_ok (flag_at bytes) _ (flag-reads.takes bytes fits) (λ granted p.
    here _ (record {
      takes = p.0;
      range = tt;
      kind_is = refl;
      envelope_is = refl;
    }))

append_takes : (e : Envelope) (bytes : List ℕ) → AreBytes bytes
    → Holds (append_at e bytes) (Brings 3 e bytes)
unfolding append_at fields
append_takes e bytes fits =
    then_ok (number_at w64 bytes) _ (u64-reads.takes bytes fits) (λ index p.
    then_ok (number_at w64 index.1) _ (u64-reads.takes index.1 p.0.rest_fits) (λ term q.
    then_ok (number_at w64 term.1) _ (u64-reads.takes term.1 q.0.rest_fits) (λ commit r.
    then_ok (entries_at commit.1) _ (entries-reads.takes commit.1 r.0.rest_fits) (λ es s.
    here _ (record {
      takes = Takes-then (Takes-then (Takes-then p.0 q.0) r.0) s.0;
      range = (p.1, q.1, r.1, s.1.0, s.1.1);
      kind_is = refl;
      envelope_is = refl;
    })))))

appended_takes : (e : Envelope) (bytes : List ℕ) → AreBytes bytes → Holds (appended_at e bytes) (Brings 4 e bytes)
unfolding appended_at fields
appended_takes e bytes fits =
    then_ok (flag_at bytes) _ (flag-reads.takes bytes fits) (λ ok p.
    then_ok (number_at w64 ok.1) _ (u64-reads.takes ok.1 p.0.rest_fits) (λ index q.
    here _ (record {
      takes = Takes-then p.0 q.0;
      range = q.1;
      kind_is = refl;
      envelope_is = refl;
    })))

install_takes : (e : Envelope) (bytes : List ℕ) → AreBytes bytes → Holds (install_at e bytes) (Brings 5 e bytes)
unfolding install_at fields
install_takes e bytes fits =
    then_ok (number_at w64 bytes) _ (u64-reads.takes bytes fits) (λ index p.
    then_ok (number_at w64 index.1) _ (u64-reads.takes index.1 p.0.rest_fits) (λ term q.
    then_ok (number_at w64 term.1) _ (u64-reads.takes term.1 q.0.rest_fits) (λ through r.
    then_ok (shadow_at through.1) _ (shadow-reads.takes through.1 r.0.rest_fits) (λ bytes s.
    here _ (record {
      takes = Takes-then (Takes-then (Takes-then p.0 q.0) r.0) s.0;
      range = (p.1, q.1, r.1, s.1);
      kind_is = refl;
      envelope_is = refl;
    })))))

installed_takes : (e : Envelope) (bytes : List ℕ) → AreBytes bytes → Holds (installed_at e bytes) (Brings 6 e bytes)
unfolding installed_at fields
installed_takes e bytes fits =
    then_ok (number_at w64 bytes) _ (u64-reads.takes bytes fits) (λ index p.
    here _ (record {
      takes = p.0;
      range = p.1;
      kind_is = refl;
      envelope_is = refl;
    }))

fields_take : (k : ℕ) (e : Envelope) (bytes : List ℕ) → AreBytes bytes → 0 < k → k ≤ 6
    → Holds (fields_at k e bytes) (Brings k e bytes)
unfolding fields_at
fields_take zero e bytes fits low high = absurd (omega (arith, low))
fields_take (suc zero) e bytes fits low high = vote_takes e bytes fits
fields_take (suc (suc zero)) e bytes fits low high = voted_takes e bytes fits
fields_take (suc (suc (suc zero))) e bytes fits low high = append_takes e bytes fits
fields_take (suc (suc (suc (suc zero)))) e bytes fits low high = appended_takes e bytes fits
fields_take (suc (suc (suc (suc (suc zero))))) e bytes fits low high = install_takes e bytes fits
fields_take (suc (suc (suc (suc (suc (suc zero)))))) e bytes fits low high = installed_takes e bytes fits
fields_take (suc (suc (suc (suc (suc (suc (suc k))))))) e bytes fits low high = absurd (omega (arith, high))

fields_again : (r : Rpc) (bytes rest : List ℕ) → bytes ≡ fields r ++ rest → HasFields r
    → fields_at (kind r) (envelope r) bytes ≡ Ok (r, rest)
unfolding fields_at vote_at voted_at append_at appended_at install_at installed_at fields
fields_again (Vote m) bytes rest e f =
    let split : bytes ≡ u64 m.last_index.0 ++ (u64 m.last_term.0 ++ rest) = e in
    in_turn _ (number_at w64 bytes) _ (u64-reads.again m.last_index.0 bytes _ split f.0)
    (in_turn _ (number_at w64 _) _ (u64-reads.again m.last_term.0 _ rest refl f.1) refl)
fields_again (Voted m) bytes rest e f =
    in_turn _ (flag_at bytes) _ (flag-reads.again m.granted bytes rest e tt) refl
fields_again (Append m) bytes rest e f =
    let split : bytes ≡ u64 m.prev_index.0 ++ (u64 m.prev_term.0 ++ (u64 m.commit.0 ++ (entries m.entries ++ rest))) =
    e in
    in_turn _ (number_at w64 bytes) _ (u64-reads.again m.prev_index.0 bytes _ split f.0)
    (in_turn _ (number_at w64 _) _ (u64-reads.again m.prev_term.0 _ _ refl f.1)
    (in_turn _ (number_at w64 _) _ (u64-reads.again m.commit.0 _ _ refl f.2)
    (in_turn _ (entries_at _) _ (entries-reads.again m.entries _ rest refl (f.3, f.4)) refl)))
fields_again (Appended m) bytes rest e f =
    let split : bytes ≡ flag m.ok ++ (u64 m.index.0 ++ rest) = e ∙ append_assoc (flag m.ok) (u64 m.index.0) rest in
    in_turn _ (flag_at bytes) _ (flag-reads.again m.ok bytes _ split tt)
    (in_turn _ (number_at w64 _) _ (u64-reads.again m.index.0 _ rest refl f) refl)
fields_again (Install m) bytes rest e f =
    let split : bytes ≡ u64 m.index.0 ++ (u64 m.last_term.0 ++ (u64 m.through.0 ++ (shadow m.shadow ++ rest))) = e in
    in_turn _ (number_at w64 bytes) _ (u64-reads.again m.index.0 bytes _ split f.0)
    (in_turn _ (number_at w64 _) _ (u64-reads.again m.last_term.0 _ _ refl f.1)
    (in_turn _ (number_at w64 _) _ (u64-reads.again m.through.0 _ _ refl f.2)
    (in_turn _ (shadow_at _) _ (shadow-reads.again m.shadow _ rest refl f.3) refl)))
fields_again (Installed m) bytes rest e f =
    in_turn _ (number_at w64 bytes) _ (u64-reads.again m.index.0 bytes rest e f) refl

-- ---- messages

kind_fits : (r : Rpc) → kind r < 2 ^ 8
kind_fits (Vote m) = lit< tt
kind_fits (Voted m) = lit< tt
kind_fits (Append m) = lit< tt
kind_fits (Appended m) = lit< tt
kind_fits (Install m) = lit< tt
kind_fits (Installed m) = lit< tt

kind_passes : (r : Rpc) → is_kind (kind r) ≡ true
kind_passes (Vote m) = refl
kind_passes (Voted m) = refl
kind_passes (Append m) = refl
kind_passes (Appended m) = refl
kind_passes (Install m) = refl
kind_passes (Installed m) = refl

-- a message's parts stand one behind the other
whole : (k : ℕ) (e : Envelope) (bytes first second : List ℕ) (x : Rpc × List ℕ) → Takes bytes (u8 k) first
    → Takes first (way e) second → Brings k e second x → Takes bytes (encoding x.0) x.1
unfolding encoding
whole k e bytes first second x p q b =
    let named : Takes bytes (u8 (kind x.0)) first = subst (λ (n : ℕ). Takes bytes (u8 n) first) (sym b.kind_is) p in
    let sent : Takes first (way (envelope x.0)) second = subst (λ (v : Envelope). Takes first (way v) second)
    (sym b.envelope_is) q in
    Takes-then (Takes-then named sent) b.takes

rpc-reads : Reads rpc_at encoding IsWritable
unfolding rpc_at encoding
rpc-reads = record {
  takes = λ bytes fits.
      then_ok (kind_at bytes) _ (kind_takes bytes fits) (λ k p.
      then_ok (envelope_at k.1) _ (envelope-reads.takes k.1 p.0.rest_fits) (λ e q.
      Holds-map (fields_at k.0 e.0 e.1) (fields_take k.0 e.0 e.1 q.0.rest_fits p.1 p.2) (λ x b. (
        whole k.0 e.0 bytes k.1 e.1 x p.0 q.0 b,
        record {
          envelope = subst IsEnvelope (sym b.envelope_is) q.1;
          fields = b.range;
        },
      ))));
  again = λ r bytes rest e w.
      let split : bytes ≡ u8 (kind r) ++ (way (envelope r) ++ (fields r ++ rest)) =
      e ∙ append_assoc (u8 (kind r) ++ way (envelope r)) (fields r) rest
      ∙ append_assoc (u8 (kind r)) (way (envelope r)) (fields r ++ rest) in
      in_turn _ (kind_at bytes) _ (kind_again (kind r) bytes _ split (kind_fits r) (kind_passes r))
      (in_turn _ (envelope_at _) _ (envelope-reads.again (envelope r) _ _ refl w.envelope)
      (fields_again r _ rest refl w.fields));
}

prefix_of : (bytes rest : List ℕ) (r : Rpc) → Takes bytes (encoding r) rest → IsWritable r
    → IsRpcPrefix bytes (r, length bytes - length rest)
prefix_of bytes rest r t w =
    let len : length bytes - length rest ≡ length (encoding r) = omega
    (arith, ap length t.parts, length-append (encoding r) rest) in
    record {
      writable = w;
      is = ap (λ (b : List ℕ). take (length bytes - length rest) b) t.parts
          ∙ take_at (encoding r) rest (length bytes - length rest) (sym len);
      len = len;
    }

message_takes : (bytes : List ℕ) → AreBytes bytes → Holds (message_at bytes) (IsRpcPrefix bytes)
unfolding message_at
message_takes bytes fits =
    then_ok (rpc_at bytes) _ (rpc-reads.takes bytes fits) (λ x p.
    here (x.0, length bytes - length x.1) (prefix_of bytes x.1 x.0 p.0 p.1))

pub message_again : (r : Rpc) (bytes rest : List ℕ) → bytes ≡ encoding r ++ rest → IsWritable r
    → message_at bytes ≡ Ok (r, length (encoding r))
unfolding message_at
message_again r bytes rest e w =
    let count : length bytes - length rest ≡ length (encoding r) = omega
    (arith, ap length e, length-append (encoding r) rest) in
    in_turn _ (rpc_at bytes) _ (rpc-reads.again r bytes rest e w) (ap (λ (k : ℕ). Ok (r, k)) count)

pub message_alone : (bytes : List ℕ) (x : Rpc × ℕ) → AreBytes bytes → message_at bytes ≡ Ok x
    → IsRpcPrefix bytes x
message_alone bytes x fits e = known (message_at bytes) x (message_takes bytes fits) e

pub is_found : (bytes : List ℕ) (r : Result (Rpc × ℕ) Refusal) → AreBytes bytes
    → Gives (λ x. x) r (message_at bytes) → IfOk r (λ x. IsRpcPrefix bytes x)
is_found bytes r fits given = found memory_of r (message_at bytes) (message_takes bytes fits) given

pub is_within : (bytes : List ℕ) (r : Result (Rpc × ℕ) Refusal) → IfOk r (λ x. IsRpcPrefix bytes x)
    → IfOk r (λ x. x.1 ≤ length bytes)
is_within bytes (Ok x) found = omega (arith, ap length found.is, found.len, length-take x.1 bytes)
is_within bytes (Err e) found = tt

pub same_message : (a b : Rpc) (x y : List ℕ) → IsWritable a → IsWritable b
    → encoding a ++ x ≡ encoding b ++ y → (a ≡ b) × (x ≡ y)
same_message a b x y f g e =
    none_begins message_at encoding a b x y (message_again a _ x refl f) (message_again b _ y refl g) e
