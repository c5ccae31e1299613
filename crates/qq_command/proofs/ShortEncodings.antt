-- How long the encoding of an entry in range is at most.
use Rattle.std.proofs.Common.{◌≡◌, ℕ, ◌+◌, ◌*◌, ◌≤◌, true, false, List, [], ◌∷◌, length, Option, Some, None, refl, arith, mul-suc, All}
use Rattle.std.specs.Prelude.{IfSome}
use Rattle.std.specs.List.{flat_map, AllByRecursion}
use Rattle.std.proofs.Math.Nat.{mul-le-mul_left}
use Rattle.std.proofs.lemmas.List.{length-append}
use Rattle.std.proofs.lemmas.List.Concat.{flat_map-cons}
use Rattle.std.proofs.lemmas.List.Elements.{recursion_from_All}
use Rattle.qq_entry.specs.declared.limits.TheConstants.{LENGTH_LIMIT, DEATHS_LIMIT, IDS_LIMIT, DEAD_DONE_LIMIT, TARGETS_LIMIT}
use Rattle.qq_command.specs.declared.lengths.TheConstants.{HEAD_LEN}
use Rattle.qq_entry.specs.declared.message.Death.{Death}
use Rattle.qq_entry.specs.declared.message.Content.{Content}
use Rattle.qq_entry.specs.declared.message.Origin.{Origin}
use Rattle.qq_entry.specs.declared.command.Stamp.{Stamp}
use Rattle.qq_entry.specs.declared.command.Mode.{Mode}
use Rattle.qq_entry.specs.declared.command.Mode.TheVariants.{Prefetch, Link}
use Rattle.qq_entry.specs.declared.command.DeadDone.{DeadDone}
use Rattle.qq_entry.specs.declared.command.Command.{Command}
use Rattle.qq_entry.specs.declared.command.Command.TheVariants.{Noop, Enqueue, Get, Subscribe, Cancel, Credit, Settle, Return, Discard, Purge, Down, DeadAttach, DeadSettle}
use Rattle.qq_entry.specs.declared.command.Entry.{Entry}
use Rattle.qq_entry.specs.Range.{IsPositive, IsQueue, IsDeath, IsContent, AreIds, IsDeadDone, AreDeadDones, IsCommand, IsInRange}
use Rattle.qq_fields.specs.Writing.{u64}
use Rattle.qq_command.specs.Encoding.{session, stamp, queue, origin, body, key, death, deaths, content, mode, ids, dead_done, dead_dones, consumer, fields, payload, encoding}

-- the encodings of values, each of which has at most so many bytes
each_within : {A : Type 0} (write : A → List ℕ) (F : A → Type 0) (most : ℕ)
    → ((x : A) → F x → length (write x) ≤ most) → (xs : List A) → AllByRecursion F xs
    → length (flat_map write xs) ≤ most * length xs
each_within write F most within [] f = omega arith
each_within write F most within (x ∷ xs) f =
    let first = within x f.0 in
    let others = each_within write F most within xs f.1 in
    rw (flat_map-cons, length-append, mul-suc) (omega arith)

many_within : {A : Type 0} (write : A → List ℕ) (F : A → Type 0) (most limit : ℕ)
    → ((x : A) → F x → length (write x) ≤ most) → (xs : List A) → All F xs → length xs ≤ limit
    → length (flat_map write xs) ≤ most * limit
many_within write F most limit within xs f le =
    let each = each_within write F most within xs (recursion_from_All F xs f) in
    let more : most * length xs ≤ most * limit = mul-le-mul_left most le in
    omega arith

stamp_len : (s : Stamp) → length (stamp s) ≡ 29
unfolding stamp session
stamp_len s = refl

consumer_len : (s : Stamp) (tag : ℕ) → length (consumer s tag) ≡ 33
unfolding consumer stamp session
consumer_len s tag = refl

origin_len : (o : Option Origin) → length (origin o) ≤ 13
unfolding origin
origin_len None = omega arith
origin_len (Some o) = omega arith

death_len : (d : Death) → IsDeath d → length (death d) ≤ 5
unfolding death
death_len d f = omega arith

content_len : (o : Option Content) → IfSome o IsContent → length (content o) ≤ 70923
unfolding content body key deaths
content_len None f = omega arith
content_len (Some c) f =
    let ds = many_within death IsDeath 5 DEATHS_LIMIT death_len c.deaths f.each f.deaths in
    rw (length-append, length-append) (omega (arith, f.body, f.key))

ids_len : (ns : List ℕ) → AreIds ns → length (ids ns) ≤ 32772
unfolding ids
ids_len ns f =
    let each = many_within u64 (IsPositive 64) 8 IDS_LIMIT (λ n p. omega arith) ns f.2 f.1 in
    omega arith

dead_done_len : (d : DeadDone) → IsDeadDone d → length (dead_done d) ≤ 4106
unfolding dead_done
dead_done_len d f =
    let each = many_within queue IsQueue 4 TARGETS_LIMIT (λ n p. omega arith) d.targets f.each f.targets in
    omega arith

dead_dones_len : (ds : List DeadDone) → AreDeadDones ds → length (dead_dones ds) ≤ 131394
unfolding dead_dones
dead_dones_len ds f =
    let each = many_within dead_done IsDeadDone 4106 DEAD_DONE_LIMIT dead_done_len ds f.2 f.1 in
    omega arith

mode_len : (m : Mode) → length (mode m) ≡ 3
unfolding mode
mode_len (Prefetch n) = refl
mode_len Link = refl

fields_len : (c : Command) → IsCommand c → length (fields c) ≤ 131402
unfolding fields session
fields_len (Noop version) f = omega arith
fields_len (Enqueue s o m) f =
    rw (length-append, length-append) (omega (arith, stamp_len s, origin_len o, content_len m.content f.2))
fields_len (Get s) f = omega (arith, stamp_len s)
fields_len (Subscribe s tag m) f = rw length-append (omega (arith, consumer_len s tag, mode_len m))
fields_len (Cancel s tag) f = omega (arith, consumer_len s tag)
fields_len (Credit s tag count credit true) f =
    rw (length-append, length-append, length-append) (omega (arith, consumer_len s tag))
fields_len (Credit s tag count credit false) f =
    rw (length-append, length-append, length-append) (omega (arith, consumer_len s tag))
fields_len (Settle s tag ns) f = rw length-append (omega (arith, consumer_len s tag, ids_len ns f.1))
fields_len (Return s tag ns) f = rw length-append (omega (arith, consumer_len s tag, ids_len ns f.1))
fields_len (Discard s tag ns) f = rw length-append (omega (arith, consumer_len s tag, ids_len ns f.1))
fields_len (Purge s) f = omega (arith, stamp_len s)
fields_len (Down s) f = omega arith
fields_len (DeadAttach term) f = omega arith
fields_len (DeadSettle term ds) f = omega (arith, dead_dones_len ds f.1)

-- the length stays within its limit
pub payload_len : (e : Entry) → IsInRange e → length (payload e) ≤ LENGTH_LIMIT
unfolding payload
payload_len e f = omega (arith, fields_len e.command f.command)

pub encoding_len : (e : Entry) → IsInRange e → length (encoding e) ≤ HEAD_LEN + LENGTH_LIMIT
unfolding encoding
encoding_len e f = omega (arith, payload_len e f)
