-- The lengths of the parts of an entry are those of its encoding.
use Rattle.std.proofs.Common.{◌≡◌, ◌+◌, ◌*◌, ℕ, Bool, true, false, List, [], ◌∷◌, ◌++◌, length, Option, Some, None, refl, ap, arith, mul-suc}
use Rattle.std.specs.List.{flat_map, fold}
use Rattle.std.proofs.lemmas.List.{length-append}
use Rattle.std.proofs.lemmas.List.Concat.{flat_map-cons}
use Rattle.qq_base.specs.declared.ids.SessionId.{SessionId}
use Rattle.qq_entry.specs.declared.message.Content.{Content}
use Rattle.qq_entry.specs.declared.message.Death.{Death}
use Rattle.qq_entry.specs.declared.message.Origin.{Origin}
use Rattle.qq_entry.specs.declared.command.Command.{Command}
use Rattle.qq_entry.specs.declared.command.Command.TheVariants.{Noop, Enqueue, Get, Subscribe, Cancel, Credit, Settle, Return, Discard, Purge, Down, DeadAttach, DeadSettle}
use Rattle.qq_entry.specs.declared.command.DeadDone.{DeadDone}
use Rattle.qq_entry.specs.declared.command.Entry.{Entry}
use Rattle.qq_entry.specs.declared.command.Mode.{Mode}
use Rattle.qq_entry.specs.declared.command.Mode.TheVariants.{Prefetch, Link}
use Rattle.qq_entry.specs.declared.command.Stamp.{Stamp}
use Rattle.qq_fields.specs.Writing.{u32, u64, flag}
use Rattle.qq_command.specs.Encoding.{session, stamp, consumer, queue, origin, mode, body, key, death, deaths, content, dead_done, dead_dones, ids, fields, payload, encoding}
use Rattle.qq_command.specs.Lengths.{origin_length, content_length, ids_length, add_dead_done, dead_dones_length, fields_length, entry_length}

-- all of one length
each_len : {A : Type 0} (write : A → List ℕ) (long : ℕ) → ((x : A) → length (write x) ≡ long) → (xs : List A)
    → length (flat_map write xs) ≡ long * length xs
each_len write long same [] = omega arith
each_len write long same (x ∷ xs) =
    let first = same x in
    let others = each_len write long same xs in
    rw (flat_map-cons, length-append, mul-suc) (omega arith)

death_len : (d : Death) → length (death d) ≡ 5
unfolding death
death_len d = refl

deaths_len : (ds : List Death) → length (deaths ds) ≡ 2 + 5 * length ds
unfolding deaths
deaths_len ds = omega (arith, each_len death 5 death_len ds)

body_len : (bytes : List ℕ) → length (body bytes) ≡ 4 + length bytes
unfolding body
body_len bytes = omega arith

key_len : (bytes : List ℕ) → length (key bytes) ≡ 1 + length bytes
unfolding key
key_len bytes = omega arith

content_some : (c : Content) → content (Some c) ≡ (body c.body ++ key c.key) ++ deaths c.deaths
unfolding content
content_some c = refl

content_none : content None ≡ []
unfolding content
content_none = refl

content_len : (o : Option Content) → length (content o) ≡ content_length o
content_len None = ap length content_none
content_len (Some c) =
    omega (
      arith,
      ap length (content_some c),
      length-append (body c.body ++ key c.key) (deaths c.deaths),
      length-append (body c.body) (key c.key),
      body_len c.body,
      key_len c.key,
      deaths_len c.deaths,
    )

origin_len : (o : Option Origin) → length (origin o) ≡ origin_length o
unfolding origin
origin_len None = refl
origin_len (Some o) = refl

ids_len : (ns : List ℕ) → length (ids ns) ≡ ids_length ns
unfolding ids
ids_len ns = omega (arith, each_len u64 8 (λ n. refl) ns)

done_len : (d : DeadDone) → length (dead_done d) ≡ 10 + 4 * length d.targets
unfolding dead_done
done_len d = omega (arith, each_len queue 4 (λ q. refl) d.targets)

dones_from : (n : ℕ) (ds : List DeadDone) → fold add_dead_done n ds ≡ n + length (flat_map dead_done ds)
dones_from n [] = omega arith
dones_from n (d ∷ ds) =
    let later = dones_from (n + (10 + 4 * length d.targets)) ds in
    let first = done_len d in
    rw (flat_map-cons, length-append) (omega (arith, later, first))

dones_len : (ds : List DeadDone) → length (dead_dones ds) ≡ dead_dones_length ds
unfolding dead_dones
dones_len ds = omega (arith, dones_from 2 ds)

stamp_len : (s : Stamp) → length (stamp s) ≡ 29
unfolding stamp session
stamp_len s = refl

consumer_len : (s : Stamp) (tag : ℕ) → length (consumer s tag) ≡ 33
unfolding consumer stamp session
consumer_len s tag = refl

mode_len : (m : Mode) → length (mode m) ≡ 3
unfolding mode
mode_len (Prefetch count) = refl
mode_len Link = refl

verdict_len : (s : Stamp) (tag : ℕ) (ns : List ℕ) → length (consumer s tag ++ ids ns) ≡ 33 + ids_length ns
verdict_len s tag ns = omega (arith, length-append (consumer s tag) (ids ns), consumer_len s tag, ids_len ns)

session_len : (s : SessionId) → length (session s) ≡ 13
unfolding session
session_len s = refl

credit_len : (s : Stamp) (tag count credit : ℕ) (drain : Bool)
    → length (consumer s tag ++ u32 count ++ u32 credit ++ flag drain) ≡ 42
unfolding consumer stamp session
credit_len s tag count credit true = refl
credit_len s tag count credit false = refl

enqueue_len : (s : Stamp) (o : Option Origin) (c : Option Content)
    → length (stamp s ++ origin o ++ content c) ≡ 29 + origin_length o + content_length c
enqueue_len s o c =
    omega (
      arith,
      length-append (stamp s ++ origin o) (content c),
      length-append (stamp s) (origin o),
      stamp_len s,
      origin_len o,
      content_len c,
    )

subscribe_len : (s : Stamp) (tag : ℕ) (m : Mode) → length (consumer s tag ++ mode m) ≡ 36
subscribe_len s tag m = omega (arith, length-append (consumer s tag) (mode m), consumer_len s tag, mode_len m)

settle_len : (term : ℕ) (ds : List DeadDone) → length (u64 term ++ dead_dones ds) ≡ 8 + dead_dones_length ds
settle_len term ds = omega (arith, length-append (u64 term) (dead_dones ds), dones_len ds)

pub fields_len : (c : Command) → length (fields c) ≡ fields_length c
unfolding fields
fields_len (Noop version) = refl
fields_len (Enqueue s o message) =
    enqueue_len s o message.content
fields_len (Get s) = stamp_len s
fields_len (Subscribe s tag m) = subscribe_len s tag m
fields_len (Cancel s tag) = consumer_len s tag
fields_len (Credit s tag count credit drain) = credit_len s tag count credit drain
fields_len (Settle s tag ns) = verdict_len s tag ns
fields_len (Return s tag ns) = verdict_len s tag ns
fields_len (Discard s tag ns) = verdict_len s tag ns
fields_len (Purge s) = stamp_len s
fields_len (Down s) = session_len s
fields_len (DeadAttach term) = refl
fields_len (DeadSettle term done) = settle_len term.0 done

-- an entry's
pub entry_len : (e : Entry) → length (encoding e) ≡ entry_length e
unfolding encoding payload
entry_len e = omega (arith, fields_len e.command)
