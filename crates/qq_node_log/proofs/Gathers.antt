-- Ops are gathered, one after the other.
use Rattle.std.proofs.Common.{◌≡◌, false, List, [], ◌∷◌, ◌++◌, refl, sym, ap, ◌∙◌, subst, append_assoc, append-nil}
use Rattle.std.specs.Prelude.{All, fold}
use Rattle.std.proofs.lemmas.Bool.{false≢true, le-leb}
use Rattle.std.proofs.lemmas.List.Elements.{All-head, All-tail}
use Rattle.qq_base.specs.declared.ids.QueueId.{QueueId}
use Rattle.qq_disk.specs.Facts.{DiskFacts}
use Rattle.qq_log.specs.Carries.{Carries, GoesOn, add_op}
use Rattle.qq_log.specs.declared.limits.TheConstants.{RECORD_LIMIT}
use Rattle.qq_log.specs.declared.op.Op.{Op}
use Rattle.qq_log.specs.Writable.{MayWrite, record_length}
use Rattle.qq_wal.specs.Batch.{is_short}
use Rattle.qq_wal.specs.declared.wal.Wal.{Wal}
use Rattle.qq_wal.specs.Wal.{IsSound, carries_ahead}
use Rattle.qq_wal_chain.specs.Laws.{op_records}
use Rattle.qq_wal_record.specs.declared.record.LogRecord.{LogRecord}
use Rattle.qq_node_log.specs.Giving.{AllGoOn}

-- an op that may be written is never refused as too large
pub never-large : (op : Op) → MayWrite op → is_short op ≡ false → ⊥
never-large op may large = false≢true (sym large ∙ le-leb (record_length op) RECORD_LIMIT may.short)

-- With the rest all ops are gathered, and the rest goes on.
pub record Gathered {D : Type 0} (facts : DiskFacts D) (ops rest : List Op) (old wal : Wal D) : Type 0 where
  pub sound : IsSound facts wal
  pub going : wal.stopped ≡ false
  pub may : All MayWrite rest
  pub goes_on : AllGoOn wal.queues.items (carries_ahead wal) rest
  pub waiting : wal.waiting.items ++ op_records rest ≡ old.waiting.items ++ op_records ops
  pub ahead : fold add_op (carries_ahead wal) rest ≡ fold add_op (carries_ahead old) ops
  pub same : wal ≡ record old { waiting = wal.waiting }

pub gathered-none : {D : Type 0} (facts : DiskFacts D) (ops rest : List Op) (wal : Wal D)
    → rest ≡ ops → IsSound facts wal → wal.stopped ≡ false → All MayWrite ops
    → AllGoOn wal.queues.items (carries_ahead wal) ops → Gathered facts ops rest wal wal
gathered-none facts ops rest wal is sound going may goes =
    subst (λ (l : List Op). Gathered facts ops l wal wal) (sym is)
    (record { sound = sound; going = going; may = may; goes_on = goes; waiting = refl; ahead = refl; same = refl })

pub next-op : {D : Type 0} (facts : DiskFacts D) (ops rest later : List Op) (op : Op) (old wal : Wal D)
    → rest ≡ op ∷ later → Gathered facts ops rest old wal → MayWrite op × GoesOn wal.queues.items (carries_ahead wal) op
next-op facts ops rest later op old wal is g =
    let h : Gathered facts ops (op ∷ later) old wal =
    subst (λ (l : List Op). Gathered facts ops l old wal) is g in
    (All-head MayWrite op later h.may, h.goes_on.0)

-- one more
pub gathered-more : {D : Type 0} (facts : DiskFacts D) (ops rest later : List Op) (op : Op) (old wal next : Wal D)
    → rest ≡ op ∷ later → Gathered facts ops rest old wal → IsSound facts next
    → next.waiting.items ≡ wal.waiting.items ++ op_records (op ∷ [])
    → carries_ahead next ≡ add_op (carries_ahead wal) op → next ≡ record wal { waiting = next.waiting }
    → Gathered facts ops later old next
gathered-more {D} facts ops rest later op old wal next is g sound waits ahead same =
    let h : Gathered facts ops (op ∷ later) old wal =
    subst (λ (l : List Op). Gathered facts ops l old wal) is g in
    let queues : next.queues.items ≡ wal.queues.items = ap (λ (w : Wal D). w.queues.items) same in
    record {
      sound = sound;
      going = ap (λ (w : Wal D). w.stopped) same ∙ h.going;
      may = All-tail MayWrite op later h.may;
      goes_on = subst (λ (ids : List QueueId). AllGoOn ids (carries_ahead next) later) (sym queues)
          (subst (λ (c : Carries). AllGoOn wal.queues.items c later) (sym ahead) h.goes_on.1);
      waiting = ap (λ (l : List LogRecord). l ++ op_records later) waits
          ∙ append_assoc wal.waiting.items (op_records (op ∷ [])) (op_records later) ∙ h.waiting;
      ahead = ap (λ (c : Carries). fold add_op c later) ahead ∙ h.ahead;
      same = same ∙ ap (λ (w : Wal D). record w { waiting = next.waiting }) h.same;
    }

-- all of them
pub gathered-all : {D : Type 0} (facts : DiskFacts D) (ops rest : List Op) (old wal : Wal D)
    → rest ≡ [] → Gathered facts ops rest old wal → Gathered facts ops [] old wal
gathered-all facts ops rest old wal is g = subst (λ (l : List Op). Gathered facts ops l old wal) is g

pub waits-all : {D : Type 0} (facts : DiskFacts D) (ops : List Op) (old wal : Wal D)
    → Gathered facts ops [] old wal → wal.waiting.items ≡ old.waiting.items ++ op_records ops
waits-all facts ops old wal g = sym (append-nil wal.waiting.items) ∙ g.waiting
