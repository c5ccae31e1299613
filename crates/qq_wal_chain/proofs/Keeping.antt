-- What a log that is written to keeps, in each image.
use Rattle.std.proofs.Common.{◌≡◌, ℕ, List, [], ◌++◌, length, Option, Some, refl, sym, ap, subst, ◌∙◌, arith, append_assoc, append-nil, length-append}
use Rattle.std.proofs.lemmas.List.{append_cancel_left}
use Rattle.std.specs.List.{AllByRecursion}
use Rattle.qq_disk.specs.Disk.{FileState, whole}
use Rattle.qq_base.specs.Fronts.{IsFront}
use Rattle.qq_wal_chain.specs.Format.{Format, IsFormat}
use Rattle.qq_wal_chain.specs.Records.{encode_all, records, file_records, end_of, replay}
use Rattle.qq_wal_chain.specs.Chain.{Found, Reading, add_file, reading}
use Rattle.qq_wal_chain.specs.Image.{Files, put, MayLeaveLog, shown_logs}
use Rattle.qq_wal_chain.specs.Promise.{Recovers, found_world, IgnoresRemoved, Keeps, IsSteady, log_file, IsLog}
use Rattle.qq_base.proofs.Fronts.{front-trans, all-front}
use Rattle.qq_wal_chain.proofs.Runs.{stand, encode-append, written-again, records-nil}
use Rattle.qq_wal_chain.proofs.Honest.{cut-honest}
use Rattle.qq_wal_chain.proofs.Walk.{put-at}
use Rattle.qq_wal_chain.proofs.Images.{image-put, shown-image, whole-log-left}
use Rattle.qq_wal_chain.proofs.Running.{file_bytes, file-records, log-shown, log-reads, log_reading, log-here, world-added}

module _ (F : Format) where
  pub recovers-weaker : (noticed given held more : List F.Record) (found : Option F.World) → IsFront held noticed
      → IsFront given more → Recovers F noticed given found → Recovers F held more found
  recovers-weaker noticed given held more found f g r = record {
    ops = r.ops;
    held = front-trans f r.held;
    front = front-trans r.front g;
    world = r.world;
    is = r.is;
    value = r.value;
  }

  -- less noticed and more given is promised too
  pub keeps-weaker : (b : ℕ) (noticed given held more : List F.Record) (files : Files) → IsFront held noticed
      → IsFront given more → Keeps F b noticed given files → Keeps F b held more files
  keeps-weaker b noticed given held more files f g keeps = record {
    recovers = λ L image. recovers-weaker noticed given held more (found_world F ((reading F b L).found)) f g
        (keeps.recovers L image);
    alike = keeps.alike;
  }

  -- records from the kept ones on, as far as any place, come to what some of the given ops come to
  pub record Follows (noticed given : List F.Record) (before : F.World) (kept all : List F.Record) : Type 0 where
    pub each : (rs : List F.Record) → IsFront kept rs → IsFront rs all
        → Recovers F noticed given (replay F rs (Some before))

module _ (F : Format) (laws : IsFormat F) (b n : ℕ) (h : F.Header) (before : Found F) (kept : List F.Record)
    (pending : List ℕ) (files : Files) (log : IsLog F b n h before kept pending files) where
  -- it reads as its own file says, which isn't removed
  pub log-ignores : IgnoresRemoved F b files
  log-ignores L K one other same =
      log-reads F laws b n h before kept pending files log L one
      ∙ ap (λ (o : Option (List ℕ)). log_reading F laws n before o)
      (same n (log-here F laws b n h before kept pending files log))
      ∙ sym (log-reads F laws b n h before kept pending files log K other)

  -- each image recovers, where the records do
  pub log-keeps : (noticed given all : List F.Record)
      → IsFront (file_records F n (file_bytes F laws n h kept ++ pending)) all
      → Follows F noticed given before.world kept all → Keeps F b noticed given files
  log-keeps noticed given all within follows = record {
    recovers = λ L image.
        let s = log-shown F laws b n h before kept pending files log L image in
        let reads : reading F b L ≡ log_reading F laws n before (Some s.bytes) =
        log-reads F laws b n h before kept pending files log L image
        ∙ ap (λ (o : Option (List ℕ)). log_reading F laws n before o) s.is in
        subst (λ (w : Option F.World). Recovers F noticed given w)
        (sym (ap (λ (r : Reading F). found_world F r.found) reads
        ∙ world-added F laws n (file_records F n s.bytes) before))
        (follows.each (file_records F n s.bytes) s.held
        (front-trans s.front within));
    alike = log-ignores;
  }

  -- and the records do, where each image recovers: a crash may cut anywhere
  pub follows-of : (noticed given : List F.Record) → Keeps F b noticed given files
      → Follows F noticed given before.world kept (file_records F n (file_bytes F laws n h kept ++ pending))
  follows-of noticed given keeps = record { each = each }
    where
      each : (rs : List F.Record) → IsFront kept rs
          → IsFront rs (file_records F n (file_bytes F laws n h kept ++ pending))
          → Recovers F noticed given (replay F rs (Some before.world))
      each rs held front =
          let behind : List F.Record = records F n pending in
          let both : kept ++ behind ≡ kept ++ (held.rest ++ front.rest) =
          sym (file-records F laws n h kept pending log.header_fits log.fit) ∙ front.is
          ∙ ap (λ (l : List F.Record). l ++ front.rest) held.is ∙ append_assoc kept held.rest front.rest in
          let split : behind ≡ held.rest ++ front.rest =
          append_cancel_left kept behind (held.rest ++ front.rest) both in
          let s = stand F laws n pending in
          let fit : AllByRecursion (F.Fits n) held.rest =
          all-front (F.Fits n) held.rest front.rest
          (subst (λ (l : List F.Record). AllByRecursion (F.Fits n) l) split s.fit) in
          let tail : List ℕ = encode_all F n held.rest in
          let cut : IsFront tail pending = record {
            rest = encode_all F n front.rest ++ s.rest;
            is = s.is ∙ ap (λ (l : List F.Record). encode_all F n l ++ s.rest) split
                ∙ ap (λ (bs : List ℕ). bs ++ s.rest) (encode-append F n held.rest front.rest)
                ∙ append_assoc tail (encode_all F n front.rest) s.rest;
          } in
          let x : Option (List ℕ) = Some (file_bytes F laws n h kept ++ tail) in
          let f : FileState = log_file (file_bytes F laws n h kept) pending in
          let left : MayLeaveLog F n (Some f) x = (
            record
                { tail = tail; is = refl; fits = omega (arith, ap length cut.is, length-append tail cut.rest) },
            cut-honest F laws n f tail cut,
          ) in
          let image = image-put F files n (shown_logs files) x (shown-image F laws files)
          (subst (λ (o : Option FileState). MayLeaveLog F n o x) (sym log.is) left) in
          let reads = log-reads F laws b n h before kept pending files log (put (shown_logs files) n x) image
          ∙ ap (λ (o : Option (List ℕ)). log_reading F laws n before o) (put-at (shown_logs files) n x) in
          let rs_read : file_records F n (file_bytes F laws n h kept ++ tail) ≡ rs =
          file-records F laws n h kept tail log.header_fits log.fit
          ∙ ap (λ (l : List F.Record). kept ++ l) (written-again F laws n held.rest fit) ∙ sym held.is in
          let world : found_world F ((reading F b (put (shown_logs files) n x)).found) ≡ replay F rs
          (Some before.world)
          = ap (λ (r : Reading F). found_world F r.found) reads
          ∙ world-added F laws n (file_records F n (file_bytes F laws n h kept ++ tail)) before
          ∙ ap (λ (l : List F.Record). replay F l (Some before.world)) rs_read in
          subst (λ (w : Option F.World). Recovers F noticed given w) world
          (keeps.recovers (put (shown_logs files) n x) image)

  -- with nothing pending each image reads the same
  pub log-steady : pending ≡ []
      → IsSteady F b (record { file = n; good = end_of F n kept; found = add_file F n kept (Some before) }) files
  log-steady none L image =
      let here : MayLeaveLog F n (Some (whole (file_bytes F laws n h kept))) (L n) =
      subst (λ (o : Option FileState). MayLeaveLog F n o (L n))
      (log.is ∙ ap (λ (bs : List ℕ). Some (log_file (file_bytes F laws n h kept) bs)) none) (image n) in
      let left = whole-log-left F n (file_bytes F laws n h kept) (L n) here in
      let rs : file_records F n (file_bytes F laws n h kept) ≡ kept =
      ap (λ (bs : List ℕ). file_records F n bs) (sym (append-nil (file_bytes F laws n h kept)))
      ∙ file-records F laws n h kept [] log.header_fits log.fit
      ∙ ap (λ (l : List F.Record). kept ++ l) (records-nil F laws n) ∙ append-nil kept in
      log-reads F laws b n h before kept pending files log L image
      ∙ ap (λ (o : Option (List ℕ)). log_reading F laws n before o) left
      ∙ ap (λ (l : List F.Record). made (end_of F n l) (add_file F n l (Some before))) rs
    where
      made : ℕ → Option (Found F) → Reading F
      made good found = record { file = n; good = good; found = found }
