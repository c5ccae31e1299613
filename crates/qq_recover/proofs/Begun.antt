-- What a log that was begun knows of each queue.
use Rattle.std.proofs.Common.{◌≡◌, ◌+◌, ◌||◌, ℕ, Bool, true, false, cond, eqb, List, [], ◌∷◌, map, Option, Some, None, refl, sym, ap, subst, ◌∙◌, option_map}
use Rattle.std.proofs.lemmas.Bool.{eqb-true}
use Rattle.std.specs.Global.{Vec}
use Rattle.qq_base.specs.declared.ids.QueueId.{QueueId}
use Rattle.qq_disk.specs.declared.name.FileKind.TheVariants.{Log as OfLog}
use Rattle.qq_disk.specs.declared.name.FileName.{FileName}
use Rattle.qq_log.specs.Carries.{is_listed}
use Rattle.qq_log.specs.declared.lane.Carry.{Carry}
use Rattle.qq_log.specs.Stable.{Stable, carry_of}
use Rattle.qq_wal_record.specs.declared.header.Header.{Header}
use Rattle.qq_wal_record.specs.declared.record.LogRecord.{LogRecord}
use Rattle.qq_wal_chain.specs.Lanes.{Lanes}
use Rattle.qq_wal.specs.declared.marks.Mark.{Mark}
use Rattle.qq_wal.specs.declared.wal.Wal.{Wal}
use Rattle.qq_wal.specs.Marks.{Agree, add_records, carries_of, carry_for, known}
use Rattle.qq_wal.specs.Notices.{carried_op, new_mark, synced_in}
use Rattle.qq_wal.specs.Numbers.{first_numbers, greatest_number}
use Rattle.qq_wal.specs.Ranges.{AllRanges, begin_files}
use Rattle.qq_wal.specs.Wal.{IsBegun, first_length}
use Rattle.qq_wal.proofs.Agreeing.{agree-known, begun-agree, begun-queues}
use Rattle.qq_recover.specs.declared.recovered.Recovered.{Recovered}
use Rattle.qq_recover.specs.declared.table.Table.{Table}
use Rattle.qq_recover.specs.Recovered.{IsBegunAbove, KnowsLanes, last_op, lanes_left, wal_of}
use Rattle.qq_recover.specs.Table.{lanes_of}

carried-last : (id : QueueId) (o : Option Stable) → carried_op (option_map (carry_of id) o) ≡ last_op o
carried-last id None = refl
carried-last id (Some s) = refl

-- each queue counts as synced up to its lane's op
synced-last : (lanes : Lanes) (carries : List Carry) (ids : List QueueId) (id : QueueId)
    → Agree lanes (map (new_mark carries) ids) → is_listed ids id ≡ true
    → synced_in (map (new_mark carries) ids) id ≡ last_op (lanes id.0)
synced-last lanes carries [] id agree listed = absurd cc
synced-last lanes carries (q ∷ ids) id agree listed = by (eqb q.0 id.0) refl listed
    (synced-last lanes carries ids id agree.1)
  where
    by : (t : Bool) → eqb q.0 id.0 ≡ t → (t || is_listed ids id) ≡ true
        → (is_listed ids id ≡ true → synced_in (map (new_mark carries) ids) id ≡ last_op (lanes id.0))
        → cond t (carried_op (carry_for carries q)) (synced_in (map (new_mark carries) ids) id)
        ≡ last_op (lanes id.0)
    by true e listed later =
        ap carried_op agree.0 ∙ carried-last q (lanes q.0) ∙ ap (λ (n : ℕ). last_op (lanes n)) (eqb-true q.0 id.0 e)
    by false e listed later = later listed

module _ {D : Type 0} (queues : List QueueId) (names : List FileName) (log_bytes : ℕ) (ranges : AllRanges) where
  pub begun-above : (vec : Vec QueueId) (header : Header) (carries : List Carry) (w : Wal D) (table : Table)
      → vec.items ≡ queues → carries ≡ carries_of queues (lanes_of table)
      → header.file ≡ greatest_number OfLog names + 1 → IsBegun vec header carries names ranges log_bytes w
      → IsBegunAbove queues names ranges log_bytes (record { wal = w; table = table })
  begun-above vec header carries w table same are number b = record {
    queues_are = ap (λ (v : Vec QueueId). v.items) b.queues_are ∙ same;
    file = ap (λ (h : Header). h.file) b.header_is ∙ number;
    begun = record {
      queues_are = refl;
      header_is = refl;
      waiting = b.waiting;
      marks = b.marks ∙ ap (λ (l : List Carry). map (new_mark l) vec.items) are
          ∙ ap (λ (v : Vec QueueId). map (new_mark (carries_of queues (lanes_of table))) v.items) (sym b.queues_are);
      ranges_are = b.ranges_are
          ∙ ap (λ (h : Header). begin_files h.file vec.items ranges) (sym b.header_is)
          ∙ ap (λ (v : Vec QueueId). begin_files w.header.file v.items ranges) (sym b.queues_are);
      size = b.size ∙ ap (λ (h : Header). first_length h w.marks) (sym b.header_is);
      first = b.first;
      numbers = b.numbers ∙ ap (λ (h : Header). first_numbers h names) (sym b.header_is);
      limit = b.limit;
      clean = b.clean;
      going = b.going;
    };
  }

  pub begun-knows : (r : Recovered D) → IsBegunAbove queues names ranges log_bytes r → KnowsLanes queues r
  begun-knows r above =
      let lanes : Lanes = lanes_left r in
      let carries : List Carry = carries_of queues lanes in
      let made : (wal_of r).marks ≡ map (new_mark carries) queues =
      above.begun.marks ∙ ap (λ (l : List QueueId). map (new_mark carries) l) above.queues_are in
      let agree : Agree lanes (map (new_mark carries) queues) = begun-agree lanes queues in
      record {
        ahead = λ id listed.
            ap (λ (l : List LogRecord). add_records (known (wal_of r).marks) l id.0) above.begun.waiting
            ∙ ap (λ (l : List Mark). known l id.0) made
            ∙ agree-known lanes (map (new_mark carries) queues) id agree
            (subst (λ (l : List QueueId). is_listed l id ≡ true) (sym (begun-queues carries queues)) listed);
        synced = λ id listed.
            ap (λ (l : List Mark). synced_in l id) made ∙ synced-last lanes carries queues id agree listed;
      }
