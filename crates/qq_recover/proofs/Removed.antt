-- What recovery has removed, and when.
use Rattle.std.proofs.Common.{◌≡◌, ◌<◌, ◌≤◌, ℕ, zero, suc, Bool, true, false, cond, List, [], ◌∷◌, ◌++◌, length, Option, Some, None, option_map, refl, sym, ap, subst, ◌∙◌, inl, inr, ◌⊎◌, arith, append-nil, IsTrue, is_some, slice_index_or}
use Rattle.std.specs.Prelude.{Contains}
use Rattle.qq_base.specs.declared.ids.QueueId.{QueueId}
use Rattle.qq_disk.specs.Crash.{IsImage, MayLeave, Remains}
use Rattle.qq_disk.specs.declared.name.FileName.{FileName}
use Rattle.qq_disk.specs.declared.name.FileKind.TheVariants.{Log}
use Rattle.qq_disk.specs.Disk.{Disk, FileState, IsListed, IsListing, contents, file_content, keep, mark_removed, now, sync, whole}
use Rattle.qq_disk.specs.Facts.{DiskFacts}
use Rattle.qq_disk.specs.Image.{log_of}
use Rattle.qq_disk.specs.Moments.{Adds}
use Rattle.qq_disk.specs.Name.{same_name}
use Rattle.qq_disk.proofs.Moments.{adds-now, adds-weaker}
use Rattle.qq_disk.proofs.Stored.{whole_left}
use Rattle.qq_disk.proofs.Names.{same_name-refl, same_name-true, set-at, set-other}
use Rattle.qq_wal_record.specs.declared.header.Header.{Header}
use Rattle.qq_wal_record.specs.declared.record.LogRecord.{LogRecord}
use Rattle.qq_wal_chain.specs.Image.{files_of}
use Rattle.qq_wal_chain.specs.Promise.{kept_records, pending_records, sync_all, log_file}
use Rattle.qq_wal_chain.specs.Records.{encode_all}
use Rattle.qq_wal_chain.specs.Wal.{wal, Ours, encode_header}
use Rattle.qq_wal.specs.Running.{IsNoneOf, IsSynced, IsWrittenTo, KeepsOthers, StaysBeside, numbers_read}
use Rattle.std.specs.Global.{Vec}
use Rattle.qq_log.specs.declared.lane.Carry.{Carry}
use Rattle.qq_wal.specs.declared.fault.WalFault.{WalFault}
use Rattle.qq_wal.specs.declared.fault.WalFault.TheVariants as wal_fault
use Rattle.qq_wal.specs.declared.wal.Wal.{Wal}
use Rattle.qq_wal.specs.Fault.{IsCaused as IsWalCaused}
use Rattle.qq_wal.specs.Ranges.{AllRanges}
use Rattle.qq_wal.specs.Wal.{IsBegun, IsSound}
use Rattle.qq_recover.specs.Clearing.{BeginsAndClears, Clears, LacksOf, is_unread, numbers_of_ends}
use Rattle.qq_recover.specs.Ends.{End}
use Rattle.qq_recover.specs.Recovery.{BeginsOne, IsAllSynced, IsUnread, LacksUnread, RemovesUnread, StaysSyncing}
use Rattle.qq_recover.proofs.Cleared.{has-none, is-unread, none-of, unread-log}
use Rattle.qq_recover.proofs.Frames.{begins-one, begun-shows, kept-again}
use Rattle.qq_recover.proofs.Settled.{contents-sync_all}

-- ---- all is synced

abbrev IsKeptAt : Disk → FileName → Type 0
IsKeptAt d file = d file ≡ option_map keep (d file)

sync-kept : (d : Disk) (name file : FileName) → IsKeptAt d file ⊎ (same_name name file ≡ true)
    → IsKeptAt (sync d name) file
sync-kept d name file here = by (same_name name file) refl here
  where
    at : (t : Bool) → same_name name file ≡ t → sync d name file ≡ cond t (option_map keep (d name)) (d file)
    at t is = ap (λ (t : Bool). cond t (option_map keep (d name)) (d file)) is

    by : (t : Bool) → same_name name file ≡ t → IsKeptAt d file ⊎ (same_name name file ≡ true)
        → IsKeptAt (sync d name) file
    by true is here =
        at true is ∙ sym (ap (λ (o : Option FileState). option_map keep o) (at true is) ∙ kept-again (d name))
    by false is (inl kept) =
        at false is ∙ kept ∙ sym (ap (λ (o : Option FileState). option_map keep o) (at false is))
    by false is (inr same) = absurd (let e : false ≡ true = sym is ∙ same in cc)

stays-kept : (names : List FileName) (d : Disk) (file : FileName) → IsKeptAt d file → IsKeptAt (sync_all d names) file
stays-kept [] d file kept = kept
stays-kept (name ∷ names) d file kept = stays-kept names (sync d name) file (sync-kept d name file (inl kept))

kept-at : (names : List FileName) (d : Disk) (file : FileName) (k : ℕ) → k < length names
    → slice_index_or names k file ≡ file → IsKeptAt (sync_all d names) file
kept-at [] d file k less is = absurd (omega arith)
kept-at (name ∷ names) d file zero less is =
    stays-kept names (sync d name) file
    (sync-kept d name file
    (inr (subst (λ (f : FileName). same_name f file ≡ true) (sym is) (same_name-refl file))))
kept-at (name ∷ names) d file (suc k) less is = kept-at names (sync d name) file k (omega arith) is

-- a log of which nothing waits has its file synced
pub own-kept : (queues : List QueueId) (h : Header) (d : Disk) → IsWrittenTo queues h d → IsSynced queues h d
    → d (log_of h.file) ≡ option_map keep (d (log_of h.file))
own-kept queues h d written clean =
    let bytes : List ℕ =
    encode_header (Ours h) ++ encode_all (wal queues) h.file (kept_records (wal queues) h.file (files_of d)) in
    let is : d (log_of h.file) ≡ Some (log_file bytes []) =
    written.log.is
    ∙ ap (λ (l : List LogRecord). Some (log_file bytes (encode_all (wal queues) h.file l))) clean in
    is ∙ ap (λ (bs : List ℕ). Some (whole bs)) (sym (append-nil bytes))
    ∙ sym (ap (λ (o : Option FileState). option_map keep o) is)

-- so once a file is begun, and others go behind it
pub cleared-behind : {D : Type 0} (facts : DiskFacts D) (names named : List FileName) (chain ended : List End) (old : D)
    (w new : Wal D) (queues : Vec QueueId) (h : Header)
    (carries : List Carry) (listed : List FileName) (ranges : AllRanges) (log_bytes : ℕ) → named ≡ names
    → ended ≡ chain → IsSound facts w → IsBegun queues h carries listed ranges log_bytes w
    → Clears facts named ended w new → facts.tells w.disk ≡ facts.tells old
    → StaysBeside (log_of h.file) (facts.past old) (facts.past w.disk) → IsTrue (facts.tells old)
    → BeginsAndClears names chain (log_of h.file) (facts.past old) (facts.past new.disk)
cleared-behind facts names named chain ended old w new queues h carries listed ranges log_bytes is are sound
    begun clears same beside told =
    let there : IsTrue (facts.tells w.disk) = subst (λ (t : Bool). IsTrue t) (sym same) told in
    let d = now (facts.past w.disk) in
    record {
      begun = facts.past w.disk;
      beside = beside;
      synced = subst (λ (h : Header). d (log_of h.file) ≡ option_map keep (d (log_of h.file))) begun.header_is
          (own-kept w.queues.items w.header d (sound.on_disk there begun.going).log
          (sound.synced there begun.going begun.clean));
      each = subst (λ (l : List FileName). Adds (LacksOf l chain d) (facts.past w.disk) (facts.past new.disk)) is
          (subst (λ (l : List End). Adds (LacksOf named l d) (facts.past w.disk) (facts.past new.disk)) are
          (clears.each there));
    }

-- the cause of a later part is one of the whole
pub caused-earlier : (a b c : ℕ) (e : WalFault) → a ≤ b → IsWalCaused false b c e → IsWalCaused false a c e
caused-earlier a b c wal_fault.Disk le (inl less) = inl (omega (arith, le, less))
caused-earlier a b c wal_fault.Disk le (inr end) = inr end
caused-earlier a b c wal_fault.Stopped le cause = cause
caused-earlier a b c wal_fault.TooLarge le cause = cause
caused-earlier a b c (wal_fault.Memory m) le cause = cause

-- ---- what was removed

module _ (queues : List QueueId) (old mid new : List Disk) (names : List FileName) (chain : List End)
    (listing : IsListing (now old) names) (numbers : numbers_read queues (now old) ≡ numbers_of_ends chain) where
  unread-of : (file : FileName) → Contains names file → is_unread chain file ≡ true → IsUnread queues (now old) file
  unread-of file has unread =
      let log = unread-log chain file unread in
      record {
        kind = log.kind;
        listed = (listing.listed file).0 has;
        outside = subst (λ (l : List ℕ). IsNoneOf l file.number) (sym numbers) (none-of chain file.number log.none);
      }

  pub unread-is : (file : FileName) → IsUnread queues (now old) file
      → Contains names file × (is_unread chain file ≡ true)
  unread-is file u = (
    (listing.listed file).1 u.listed,
    is-unread chain file u.kind
        (has-none chain file.number (subst (λ (l : List ℕ). IsNoneOf l file.number) numbers u.outside)),
  )

  pub removes-unread : (number : ℕ) → ((m : ℕ) → IsListed (now old) (log_of m) → m < number)
      → StaysSyncing old mid → now mid ≡ sync_all (now old) names
      → BeginsAndClears names chain (log_of number) mid new → RemovesUnread queues old new
  removes-unread number above only synced b = record {
    begun = b.begun;
    begins = begins-one old mid b.begun number above only b.beside;
    synced = λ file listed. by file listed (same_name (log_of number) file) refl;
    each = adds-weaker (LacksOf names chain (now b.begun)) (LacksUnread queues (now old) (now b.begun)) b.begun new
        (λ e lacks file. each e file (lacks file)) b.each;
  }
    where
      beside : KeepsOthers (log_of number) (now mid) (now b.begun)
      beside = adds-now (KeepsOthers (log_of number) (now mid)) mid b.begun b.beside (λ other apart. refl)

      by : (file : FileName) → IsListed (now b.begun) file → (t : Bool) → same_name (log_of number) file ≡ t
          → IsKeptAt (now b.begun) file
      by file listed true is =
          subst (λ (f : FileName). IsKeptAt (now b.begun) f) (same_name-true (log_of number) file is) b.synced
      by file listed false is =
          let same : now b.begun file ≡ sync_all (now old) names file =
          beside file is ∙ ap (λ (d : Disk). d file) synced in
          same ∙ kept file same listed ∙ sym (ap (λ (o : Option FileState). option_map keep o) same)
        where
          kept : (file : FileName) → now b.begun file ≡ sync_all (now old) names file → IsListed (now b.begun) file
              → IsKeptAt (sync_all (now old) names) file
          kept file same listed =
              let there : IsListed (sync_all (now old) names) file =
              subst (λ (o : Option FileState). IsTrue (is_some (file_content o))) same listed in
              let has = (listing.listed file).1 (still-there file there) in
              kept-at names (now old) file has.0 has.1 has.2
            where
              still-there : (file : FileName) → IsListed (sync_all (now old) names) file → IsListed (now old) file
              still-there file there =
                  subst (λ (o : Option (List ℕ)). IsTrue (is_some o))
                  (contents-sync_all names (now old) file) there

      each : (e : Disk) (file : FileName)
          → (e file ≡ now b.begun file)
          ⊎ (Contains names file × (is_unread chain file ≡ true) × (e file ≡ option_map mark_removed (now b.begun file)))
          → (e file ≡ now b.begun file)
          ⊎ (IsUnread queues (now old) file × (e file ≡ option_map mark_removed (now b.begun file)))
      each e file (inl same) = inl same
      each e file (inr gone) = inr (unread-of file gone.0 gone.1, gone.2)

-- what recovery leaves beside the new file, where it was begun
pub others-begun : (queues : List QueueId) (old mid new : List Disk) (names : List FileName) (chain : List End)
    → IsListing (now old) names → numbers_read queues (now old) ≡ numbers_of_ends chain → (number : ℕ)
    → ((m : ℕ) → IsListed (now old) (log_of m) → m < number) → StaysSyncing old mid
    → now mid ≡ sync_all (now old) names
    → StaysBeside (log_of number) mid new ⊎ BeginsAndClears names chain (log_of number) mid new
    → BeginsOne old new ⊎ RemovesUnread queues old new
others-begun queues old mid new names chain listing numbers number above only synced (inl beside) =
    inl (begins-one old mid new number above only beside)
others-begun queues old mid new names chain listing numbers number above only synced (inr b) =
    inr (removes-unread queues old mid new names chain listing numbers number above only synced b)

-- ---- as the laws say it

-- a file that is there and was synced is whole in each image
pub synced-left : (d : Disk) (i : Remains) (file : FileName) → IsImage d i → d file ≡ option_map keep (d file)
    → IsListed d file → i file ≡ contents d file
synced-left d i file image kept listed = by (d file) refl
  where
    there : (f : FileState) → d file ≡ Some f → (t : Bool) → f.removed ≡ t → i file ≡ contents d file
    there f is true gone =
        absurd (let e : false ≡ true =
        sym (ap (λ (t : Bool). is_some (cond t None (Some (f.kept ++ f.pending)))) gone)
        ∙ ap (λ (o : Option FileState). is_some (file_content o)) (sym is) ∙ listed in cc)
    there f is false here =
        let bytes : List ℕ = f.kept ++ f.pending in
        let synced : d file ≡ Some (whole bytes) =
        kept ∙ ap (λ (o : Option FileState). option_map keep o) is
        ∙ ap (λ (t : Bool). Some (cond t f (whole bytes))) here in
        whole_left bytes (i file) (subst (λ (o : Option FileState). MayLeave o (i file)) synced (image file))
        ∙ sym (ap (λ (t : Bool). cond t None (Some bytes)) here) ∙ ap file_content (sym is)

    by : (o : Option FileState) → d file ≡ o → i file ≡ contents d file
    by None is =
        absurd (let e : false ≡ true = ap (λ (o : Option FileState). is_some (file_content o)) (sym is) ∙ listed in cc)
    by (Some f) is = there f is f.removed refl

pub left-settled : (queues : List QueueId) (old new : List Disk) (r : RemovesUnread queues old new) (i : Remains)
    (file : FileName) → IsImage (now r.begun) i → IsListed (now r.begun) file
    → i file ≡ contents (now r.begun) file
left-settled queues old new r i file image listed =
    synced-left (now r.begun) i file image (r.synced file listed) listed

-- what is there but for the new file shows what it showed, or it isn't read
pub removed-shows : (queues : List QueueId) (old new : List Disk) (r : RemovesUnread queues old new) (file : FileName)
    → same_name (log_of r.begins.number) file ≡ false
    → (contents (now new) file ≡ contents (now old) file) ⊎ IsUnread queues (now old) file
removed-shows queues old new r file apart =
    by (adds-now (LacksUnread queues (now old) (now r.begun)) r.begun new r.each (λ file. inl refl) file)
  where
    by : (now new file ≡ now r.begun file)
        ⊎ (IsUnread queues (now old) file × (now new file ≡ option_map mark_removed (now r.begun file)))
        → (contents (now new) file ≡ contents (now old) file) ⊎ IsUnread queues (now old) file
    by (inl same) = inl (ap file_content same ∙ begun-shows old r.begun r.begins file apart)
    by (inr gone) = inr gone.0

pub removed-parts : (queues : List QueueId) (old new : List Disk) → RemovesUnread queues old new
    → (number : ℕ) × ((m : ℕ) → IsListed (now old) (log_of m) → m < number)
    × ((file : FileName) → same_name (log_of number) file ≡ false
    → (contents (now new) file ≡ contents (now old) file)
    ⊎ ((file.kind ≡ Log) × IsNoneOf (numbers_read queues (now old)) file.number))
removed-parts queues old new r = (
  r.begins.number,
  r.begins.above,
  λ file apart. by file (removed-shows queues old new r file apart),
)
  where
    by : (file : FileName) → (contents (now new) file ≡ contents (now old) file) ⊎ IsUnread queues (now old) file
        → (contents (now new) file ≡ contents (now old) file)
        ⊎ ((file.kind ≡ Log) × IsNoneOf (numbers_read queues (now old)) file.number)
    by file (inl same) = inl same
    by file (inr u) = inr (u.kind, u.outside)
