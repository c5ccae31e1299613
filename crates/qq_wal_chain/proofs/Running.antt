-- A log that is written to: what its newest file shows in each image, and what the log keeps.
use Rattle.std.proofs.Common.{◌≡◌, ◌≤◌, ◌<◌, ℕ, Bool, false, cond, List, ◌∷◌, ◌++◌, length, drop, Option, Some, None, refl, sym, ap, subst, ◌∙◌, arith, inl, inr, append_assoc, drop_at, option_map, is_some}
use Rattle.std.proofs.lemmas.Bool.{ne_eqb}
use Rattle.std.proofs.lemmas.List.{drop-take}
use Rattle.std.specs.List.{AllByRecursion}
use Rattle.qq_disk.specs.Disk.{FileState}
use Rattle.qq_base.specs.Fronts.{IsFront}
use Rattle.qq_wal_chain.specs.Format.{Format, IsFormat}
use Rattle.qq_wal_chain.specs.Records.{encode_all, records, file_records, end_of, replay}
use Rattle.qq_wal_chain.specs.Chain.{Logs, Found, Reading, has_header, newest, records_up_to, add_file, chain, good_length, read_chain, reading}
use Rattle.qq_wal_chain.specs.Image.{Files, put, MayLeaveLog, IsLogImage, is_removed}
use Rattle.qq_wal_chain.specs.Promise.{found_world, log_file, IsLog}
use Rattle.qq_base.proofs.Fronts.{front-drop}
use Rattle.qq_wal_chain.proofs.Runs.{any-written, any-size, any-front}
use Rattle.qq_wal_chain.proofs.Honest.{trusted-front}
use Rattle.qq_wal_chain.proofs.Walk.{newest-is, chain-same, chain-onto, counts-from, put-at, put-other}
use Rattle.qq_wal_chain.proofs.Images.{image-back, all-left}

module _ (F : Format) (laws : IsFormat F) where
  -- ---- one file

  -- a file with a header and records, and anything behind
  abbrev pub file_bytes : ℕ → F.Header → List F.Record → List ℕ
  file_bytes n h rs = F.encode_header h ++ encode_all F n rs

  pub file-records : (n : ℕ) (h : F.Header) (rs : List F.Record) (tail : List ℕ) → F.HeaderFits h
      → AllByRecursion (F.Fits n) rs → file_records F n (file_bytes n h rs ++ tail) ≡ rs ++ records F n tail
  file-records n h rs tail fits fit =
      ap (λ (bs : List ℕ). records F n (drop F.header_size bs))
      (append_assoc (F.encode_header h) (encode_all F n rs) tail)
      ∙ ap (λ (bs : List ℕ). records F n bs) (drop_at (F.encode_header h) (encode_all F n rs ++ tail) F.header_size
      (laws.header_length h fits))
      ∙ any-written F laws n rs tail fit

  pub file-header : (n : ℕ) (h : F.Header) (rs : List F.Record) (tail : List ℕ) → F.HeaderFits h
      → F.read_header (file_bytes n h rs ++ tail) ≡ Some h
  file-header n h rs tail fits =
      ap (λ (bs : List ℕ). F.read_header bs) (append_assoc (F.encode_header h) (encode_all F n rs) tail)
      ∙ laws.header_again h (encode_all F n rs ++ tail) fits

  pub file-front : (n : ℕ) (bytes all : List ℕ) → IsFront bytes all
      → IsFront (file_records F n bytes) (file_records F n all)
  file-front n bytes all f =
      any-front F laws n (drop F.header_size bytes) (drop F.header_size all) (front-drop F.header_size bytes all f)

  -- the records of the bytes that count are all the records
  pub good-records : (n : ℕ) (bytes : List ℕ)
      → records_up_to F n (end_of F n (file_records F n bytes)) bytes ≡ file_records F n bytes
  good-records n bytes =
      ap (λ (bs : List ℕ). records F n bs) (drop-take F.header_size (length (encode_all F n (file_records F n bytes)))
      bytes)
      ∙ any-size F laws n (drop F.header_size bytes)

  -- what a file shows whose header and first records are kept, and which then has some bytes more
  pub record Shows (n : ℕ) (h : F.Header) (kept : List F.Record) (all : List ℕ) (o : Option (List ℕ)) : Type 0 where
    pub bytes : List ℕ
    pub is : o ≡ Some bytes
    pub header : F.read_header bytes ≡ Some h
    pub held : IsFront kept (file_records F n bytes)
    pub front : IsFront (file_records F n bytes) (file_records F n all)

  pub log-shows : (n : ℕ) (h : F.Header) (kept : List F.Record) (pending : List ℕ) (o : Option (List ℕ))
      → F.HeaderFits h → AllByRecursion (F.Fits n) kept
      → MayLeaveLog F n (Some (log_file (file_bytes n h kept) pending)) o
      → Shows n h kept (file_bytes n h kept ++ pending) o
  log-shows n h kept pending None fits fit (inl e) = absurd cc
  log-shows n h kept pending None fits fit (inr e) = absurd cc
  log-shows n h kept pending (Some bytes) fits fit (torn, honest) = record {
    bytes = bytes;
    is = refl;
    header = ap (λ (bs : List ℕ). F.read_header bs) torn.is ∙ file-header n h kept torn.tail fits;
    held = subst (λ (bs : List ℕ). IsFront kept (file_records F n bs)) (sym torn.is)
        (record { rest = records F n torn.tail; is = file-records n h kept torn.tail fits fit });
    front = trusted-front F laws n (log_file (file_bytes n h kept) pending) bytes torn.tail torn.is honest;
  }

  -- ---- the newest file

  -- a reading whose newest file is n
  pub reading-at : (b n : ℕ) (L : Logs) (bytes : List ℕ) (h : F.Header) → 0 < n → n ≤ b → L n ≡ Some bytes
      → F.read_header bytes ≡ Some h → F.number h ≡ n → F.previous h < n
      → ((m : ℕ) → n < m → m ≤ b → has_header F (L m) ≡ false)
      → reading F b L ≡ record {
        file = n;
        good = end_of F n (file_records F n bytes);
        found = add_file F n (file_records F n bytes) (chain F b L (F.previous h) (F.good h));
      }
  reading-at b n L bytes h p hb here head number back above =
      let good : ℕ = end_of F n (file_records F n bytes) in
      let is : newest F b L ≡ n = newest-is F b L n hb p
      (ap (λ (o : Option (List ℕ)). has_header F o) here ∙ ap is_some head) above in
      let same = good-records n bytes in
      let counted = counts-from F n good bytes h number back (ap (λ (rs : List F.Record). end_of F n rs) same) in
      let found = chain-onto F b L n good bytes h p hb here head counted in
      ap (λ (k : ℕ). read_chain F b L k) is
      ∙ ap (λ (o : Option (List ℕ)). made (good_length F n o) (chain F b L n (good_length F n o))) here
      ∙ ap (λ (none : Bool). made (cond none 0 good) (chain F b L n (cond none 0 good)))
      (ne_eqb n 0 (λ e. absurd (omega arith)))
      ∙ ap (λ (f : Option (Found F)). made good f)
      (found ∙ ap (λ (rs : List F.Record). add_file F n rs (chain F b L (F.previous h) (F.good h))) same)
    where
      made : ℕ → Option (Found F) → Reading F
      made good found = record { file = n; good = good; found = found }

  -- ---- a log that is written to

  -- a reading of it depends on its newest file alone
  abbrev pub log_reading : ℕ → Found F → Option (List ℕ) → Reading F
  log_reading n before None = record { file = n; good = 0; found = None }
  log_reading n before (Some bytes) = record {
    file = n;
    good = end_of F n (file_records F n bytes);
    found = add_file F n (file_records F n bytes) (Some before);
  }

  module _ (b n : ℕ) (h : F.Header) (before : Found F) (kept : List F.Record) (pending : List ℕ) (files : Files)
      (log : IsLog F b n h before kept pending files) where
    log-left : (L : Logs) → IsLogImage F files L
        → MayLeaveLog F n (Some (log_file (file_bytes n h kept) pending)) (L n)
    log-left L image = subst (λ (o : Option FileState). MayLeaveLog F n o (L n)) log.is (image n)

    pub log-shown : (L : Logs) → IsLogImage F files L → Shows n h kept (file_bytes n h kept ++ pending) (L n)
    log-shown L image = log-shows n h kept pending (L n) log.header_fits log.fit (log-left L image)

    pub log-reads : (L : Logs) → IsLogImage F files L → reading F b L ≡ log_reading n before (L n)
    log-reads L image =
        let s = log-shown L image in
        reading-at b n L s.bytes h (omega (arith, log.back)) log.within s.is s.header log.number log.back
        (log.above L image)
        ∙ ap (λ (f : Option (Found F)). made (end_of F n (file_records F n s.bytes))
        (add_file F n (file_records F n s.bytes) f)) (log.older L image)
        ∙ ap (λ (o : Option (List ℕ)). log_reading n before o) (sym s.is)
      where
        made : ℕ → Option (Found F) → Reading F
        made good found = record { file = n; good = good; found = found }

    pub log-here : is_removed (files n) ≡ false
    log-here = ap is_removed log.is

    -- another file in place of the newest one, with the same header: it has grown, or was synced
    pub log-put : (more : List F.Record) (others : List ℕ) → AllByRecursion (F.Fits n) more
        → IsLog F b n h before more others (put files n (Some (log_file (file_bytes n h more) others)))
    log-put more others fit = record {
      is = put-at files n (Some (log_file (file_bytes n h more) others));
      header_fits = log.header_fits;
      fit = fit;
      number = log.number;
      back = log.back;
      within = log.within;
      older = λ L image. chain-same F b L (put L n x) (F.previous h) (F.good h)
          (λ m less. sym (put-other L n m x (λ e. absurd (omega (arith, log.back)))))
          ∙ log.older (put L n x) (back L image);
      above = λ L image m less most. ap (λ (o : Option (List ℕ)). has_header F o)
          (sym (put-other L n m x (λ e. absurd (omega arith)))) ∙ log.above (put L n x) (back L image) m less most;
    }
      where
        x : Option (List ℕ)
        x = Some (file_bytes n h kept ++ pending)

        back : (L : Logs) → IsLogImage F (put files n (Some (log_file (file_bytes n h more) others))) L
            → IsLogImage F files (put L n x)
        back L image =
            image-back F files n (Some (log_file (file_bytes n h more) others)) L x image
            (subst (λ (o : Option FileState). MayLeaveLog F n o x) (sym log.is)
            (all-left F laws n (log_file (file_bytes n h kept) pending)))

  pub world-added : (n : ℕ) (rs : List F.Record) (before : Found F)
      → found_world F (add_file F n rs (Some before)) ≡ replay F rs (Some before.world)
  world-added n rs before = by (replay F rs (Some before.world))
    where
      made : F.World → Found F
      made world = record { files = n ∷ before.files; world = world }

      by : (w : Option F.World) → found_world F (option_map made w) ≡ w
      by None = refl
      by (Some w) = refl
