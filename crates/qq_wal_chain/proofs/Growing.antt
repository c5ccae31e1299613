-- A log that grows by a batch, and is synced.
use Rattle.std.proofs.Common.{◌≡◌, ◌≤◌, ◌<◌, ℕ, List, [], ◌++◌, length, Option, Some, sym, ap, subst, ◌∙◌, arith, inl, inr, ◌⊎◌, append_assoc, append-nil}
use Rattle.std.proofs.lemmas.Bool.{cases_lt}
use Rattle.std.proofs.lemmas.List.{append_cancel_left}
use Rattle.std.specs.List.{AllByRecursion}
use Rattle.qq_base.proofs.Lists.{AllByRecursion-append}
use Rattle.qq_disk.specs.Disk.{FileState, whole, file_content}
use Rattle.qq_base.specs.Fronts.{IsFront}
use Rattle.qq_wal_chain.specs.Format.{Format, IsFormat}
use Rattle.qq_wal_chain.specs.Records.{encode_all, file_records, replay}
use Rattle.qq_wal_chain.specs.Chain.{Found, Reading, reading}
use Rattle.qq_wal_chain.specs.Image.{Files, put, shown_logs}
use Rattle.qq_wal_chain.specs.Promise.{Recovers, found_world, Keeps, log_file, IsLog}
use Rattle.qq_base.proofs.Fronts.{front-refl, front-more, front-trans, front-behind, front-shorter, front-same}
use Rattle.qq_wal_chain.proofs.Runs.{encode-append, written-again, records-nil}
use Rattle.qq_wal_chain.proofs.Replays.{replay-append, replay-front, IsSome}
use Rattle.qq_wal_chain.proofs.Images.{shown-image}
use Rattle.qq_wal_chain.proofs.Running.{file_bytes, file-records, file-front, log-reads, log_reading, log-put, world-added}
use Rattle.qq_wal_chain.proofs.Keeping.{Follows, recovers-weaker, log-keeps, follows-of}

-- two fronts of one list: the one is a front of the other, or goes on behind it
record Beyond {A : Type 0} (a b all : List A) : Type 0 where
  more : List A
  is : b ≡ a ++ more
  front : IsFront (a ++ more) all

which-front : {A : Type 0} (a b all : List A) → IsFront a all → IsFront b all → IsFront b a ⊎ Beyond a b all
which-front {A} a b all f g = by (cases_lt (length a) (length b))
  where
    by : (length a < length b) ⊎ (length b ≤ length a) → IsFront b a ⊎ Beyond a b all
    by (inl less) =
        let h : IsFront a b = front-shorter f g (omega arith) in
        inr (record {
          more = h.rest;
          is = h.is;
          front =
              record { rest = g.rest; is = g.is ∙ ap (λ (l : List A). l ++ g.rest) h.is };
        })
    by (inr most) = inl (front-shorter g f most)

module _ (F : Format) where
  -- a batch more, whose ops were given: what was promised of the records before goes on
  pub grow-follows : (noticed given batch : List F.Record) (before : F.World) (kept all : List F.Record)
      → IsFront kept all → Follows F noticed given before kept all
      → replay F given (Some F.start) ≡ replay F all (Some before)
      → IsSome F (replay F (given ++ batch) (Some F.start))
      → Follows F noticed (given ++ batch) before kept (all ++ batch)
  grow-follows noticed given batch before kept all within follows same some = record { each = each }
    where
      each : (rs : List F.Record) → IsFront kept rs → IsFront rs (all ++ batch)
          → Recovers F noticed (given ++ batch) (replay F rs (Some before))
      each rs held front = by (which-front all rs (all ++ batch) (front-more all batch) front)
        where
          by : IsFront rs all ⊎ Beyond all rs (all ++ batch)
              → Recovers F noticed (given ++ batch) (replay F rs (Some before))
          by (inl f) =
              recovers-weaker F noticed given noticed (given ++ batch) (replay F rs (Some before)) (front-refl noticed)
              (front-more given batch) (follows.each rs held f)
          by (inr beyond) =
              let whole = follows.each all within (front-refl all) in
              let rest : List F.Record = beyond.front.rest in
              let split : all ++ batch ≡ all ++ (beyond.more ++ rest) = beyond.front.is
              ∙ append_assoc all beyond.more rest in
              let cut : batch ≡ beyond.more ++ rest = append_cancel_left all batch (beyond.more ++ rest) split in
              let value : replay F rs (Some before) ≡ replay F (given ++ beyond.more) (Some F.start) =
              ap (λ (l : List F.Record). replay F l (Some before)) beyond.is
              ∙ replay-append F all beyond.more (Some before)
              ∙ ap (λ (o : Option F.World). replay F beyond.more o) (sym same)
              ∙ sym (replay-append F given beyond.more (Some F.start)) in
              let longer : IsSome F (replay F ((given ++ beyond.more) ++ rest) (Some F.start)) =
              subst (λ (l : List F.Record). IsSome F (replay F l (Some F.start)))
              (ap (λ (l : List F.Record). given ++ l) cut ∙ sym (append_assoc given beyond.more rest)) some in
              let here = replay-front F (given ++ beyond.more) rest (Some F.start) longer in
              record {
                ops = given ++ beyond.more;
                held = front-trans whole.held (front-trans whole.front (front-more given beyond.more));
                front = front-behind given beyond.more batch (record { rest = rest; is = cut });
                world = here.world;
                is = value ∙ here.is;
                value = here.is;
              }

module _ (F : Format) (laws : IsFormat F) (b n : ℕ) (h : F.Header) (before : Found F) (kept pending : List F.Record)
    (files : Files) (log : IsLog F b n h before kept (encode_all F n pending) files)
    (fit : AllByRecursion (F.Fits n) pending) where
  pub all-records : file_records F n (file_bytes F laws n h kept ++ encode_all F n pending) ≡ kept ++ pending
  all-records =
      file-records F laws n h kept (encode_all F n pending) log.header_fits log.fit
      ∙ ap (λ (l : List F.Record). kept ++ l) (written-again F laws n pending fit)

  -- what the disk shows
  pub log-shows-world : found_world F ((reading F b (shown_logs files)).found)
      ≡ replay F (kept ++ pending) (Some before.world)
  log-shows-world =
      ap (λ (r : Reading F). found_world F r.found)
      (log-reads F laws b n h before kept (encode_all F n pending) files log (shown_logs files)
      (shown-image F laws files) ∙ ap (λ (o : Option FileState). log_reading F laws n before (file_content o))
      log.is)
      ∙ world-added F laws n (file_records F n (file_bytes F laws n h kept ++ encode_all F n pending)) before
      ∙ ap (λ (l : List F.Record). replay F l (Some before.world)) all-records

  follows-all : (noticed given : List F.Record) → Keeps F b noticed given files
      → Follows F noticed given before.world kept (kept ++ pending)
  follows-all noticed given keeps =
      subst (λ (l : List F.Record). Follows F noticed given before.world kept l) all-records
      (follows-of F laws b n h before kept (encode_all F n pending) files log noticed given keeps)

  -- as a batch is appended, a part of its bytes may stand there
  pub grow-keeps : (noticed given batch : List F.Record) (bytes : List ℕ) → Keeps F b noticed given files
      → replay F given (Some F.start) ≡ replay F (kept ++ pending) (Some before.world)
      → IsSome F (replay F (given ++ batch) (Some F.start)) → AllByRecursion (F.Fits n) batch
      → IsFront bytes (encode_all F n batch)
      → Keeps F b noticed (given ++ batch) (put files n
      (Some (log_file (file_bytes F laws n h kept) (encode_all F n pending ++ bytes))))
  grow-keeps noticed given batch bytes keeps same some fits cut =
      let first : List ℕ = encode_all F n pending in
      let both : IsFront (file_bytes F laws n h kept ++ (first ++ bytes))
      (file_bytes F laws n h kept ++ encode_all F n (pending ++ batch)) =
      front-behind (file_bytes F laws n h kept) (first ++ bytes) (encode_all F n (pending ++ batch))
      (subst (λ (bs : List ℕ). IsFront (first ++ bytes) bs) (sym (encode-append F n pending batch))
      (front-behind first bytes (encode_all F n batch) cut)) in
      let records_all : file_records F n (file_bytes F laws n h kept ++ encode_all F n (pending ++ batch)) ≡
      (kept ++ pending) ++ batch = file-records F laws n h kept (encode_all F n (pending ++ batch)) log.header_fits
      log.fit ∙ ap (λ (l : List F.Record). kept ++ l)
      (written-again F laws n (pending ++ batch) (AllByRecursion-append (F.Fits n) pending batch fit fits))
      ∙ sym (append_assoc kept pending batch) in
      let within = subst (λ (l : List F.Record). IsFront
      (file_records F n (file_bytes F laws n h kept ++ (first ++ bytes))) l) records_all
      (file-front F laws n (file_bytes F laws n h kept ++ (first ++ bytes))
      (file_bytes F laws n h kept ++ encode_all F n (pending ++ batch)) both) in
      log-keeps F laws b n h before kept (first ++ bytes)
      (put files n (Some (log_file (file_bytes F laws n h kept) (first ++ bytes))))
      (log-put F laws b n h before kept first files log kept (first ++ bytes) log.fit) noticed (given ++ batch)
      ((kept ++ pending) ++ batch) within
      (grow-follows F noticed given batch before.world kept (kept ++ pending) (front-more kept pending)
      (follows-all noticed given keeps) same some)

  pub grow-log : (batch : List F.Record)
      → IsLog F b n h before kept (encode_all F n (pending ++ batch))
      (put files n (Some (log_file (file_bytes F laws n h kept) (encode_all F n pending ++ encode_all F n batch))))
  grow-log batch =
      subst (λ (bs : List ℕ). IsLog F b n h before kept bs
      (put files n (Some (log_file (file_bytes F laws n h kept) (encode_all F n pending ++ encode_all F n batch)))))
      (sym (encode-append F n pending batch)) (log-put F laws b n h before kept (encode_all F n pending) files log
      kept (encode_all F n pending ++ encode_all F n batch) log.fit)

  all-bytes : file_bytes F laws n h (kept ++ pending) ≡ file_bytes F laws n h kept ++ encode_all F n pending
  all-bytes =
      ap (λ (bs : List ℕ). F.encode_header h ++ bs) (encode-append F n kept pending)
      ∙ sym (append_assoc (F.encode_header h) (encode_all F n kept) (encode_all F n pending))

  all-fit : AllByRecursion (F.Fits n) (kept ++ pending)
  all-fit = AllByRecursion-append (F.Fits n) kept pending log.fit fit

  -- once it is synced, all is kept
  pub sync-log : IsLog F b n h before (kept ++ pending) []
      (put files n (Some (whole (file_bytes F laws n h kept ++ encode_all F n pending))))
  sync-log =
      subst (λ (bs : List ℕ). IsLog F b n h before (kept ++ pending) [] (put files n (Some (whole bs)))) all-bytes
      (log-put F laws b n h before kept (encode_all F n pending) files log (kept ++ pending) [] all-fit)

  -- and all that was given can be noticed
  pub sync-notices : (noticed given : List F.Record) → Keeps F b noticed given files
      → replay F given (Some F.start) ≡ replay F (kept ++ pending) (Some before.world)
      → Keeps F b given given (put files n (Some (whole (file_bytes F laws n h kept ++ encode_all F n pending))))
  sync-notices noticed given keeps same =
      log-keeps F laws b n h before (kept ++ pending) []
      (put files n (Some (whole (file_bytes F laws n h kept ++ encode_all F n pending)))) sync-log given given
      (kept ++ pending) within (record { each = each })
    where
      within : IsFront (file_records F n (file_bytes F laws n h (kept ++ pending) ++ [])) (kept ++ pending)
      within =
          subst (λ (l : List F.Record). IsFront l (kept ++ pending))
          (sym (file-records F laws n h (kept ++ pending) [] log.header_fits all-fit
          ∙ ap (λ (l : List F.Record). (kept ++ pending) ++ l) (records-nil F laws n)
          ∙ append-nil (kept ++ pending))) (front-refl (kept ++ pending))

      each : (rs : List F.Record) → IsFront (kept ++ pending) rs → IsFront rs (kept ++ pending)
          → Recovers F given given (replay F rs (Some before.world))
      each rs held front =
          let here = (follows-all noticed given keeps).each (kept ++ pending) (front-more kept pending)
          (front-refl (kept ++ pending)) in
          record {
            ops = given;
            held = front-refl given;
            front = front-refl given;
            world = here.world;
            is =
                ap (λ (l : List F.Record). replay F l (Some before.world))
                (front-same held front)
                ∙ here.is;
            value = same ∙ here.is;
          }
