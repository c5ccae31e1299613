-- All listed files are synced: from then on each image reads as the disk does.
use Rattle.std.proofs.Common.{◌≡◌, ◌<◌, ℕ, zero, suc, Bool, true, false, List, [], ◌∷◌, ◌++◌, append-nil, length, Option, Some, None, refl, sym, ap, subst, ◌∙◌, arith, inl, inr, ◌⊎◌, option_map, is_some, IsTrue, cond, slice_index_or}
use Rattle.qq_base.proofs.Lists.{In}
use Rattle.qq_disk.specs.declared.name.FileName.{FileName}
use Rattle.qq_disk.specs.Name.{same_name}
use Rattle.qq_disk.specs.Disk.{Disk, FileState, sync, keep, whole, file_content, IsListing, IsListed, contents}
use Rattle.qq_disk.specs.Image.{log_of}
use Rattle.qq_disk.proofs.Names.{same_name-refl, same_name-true, set-at, set-other}
use Rattle.qq_base.specs.Fronts.{IsFront}
use Rattle.qq_wal_chain.specs.Format.{Format, IsFormat}
use Rattle.qq_wal_chain.specs.Chain.{reading}
use Rattle.qq_wal_chain.specs.Image.{files_of, shown_logs}
use Rattle.qq_wal_chain.specs.Promise.{IsSettled, IsSteady, Holds, Promises, sync_all}
use Rattle.qq_base.proofs.Fronts.{front-refl}
use Rattle.qq_wal_chain.proofs.Images.{shown-image}
use Rattle.qq_wal_chain.proofs.Beginning.{steady-keeps}
use Rattle.qq_wal_chain.proofs.Recovery.{IsSettledAt, settled-keep, settled-free, settled-steady}
use Rattle.qq_wal_chain.proofs.Calls.{sync-any}

In-from_index : {A : Type 0} (xs : List A) (x : A) (k : ℕ) → k < length xs
    → slice_index_or xs k x ≡ x → In x xs
In-from_index [] x k h e = absurd (omega arith)
In-from_index (y ∷ ys) x zero h e = inl (sym e)
In-from_index (y ∷ ys) x (suc k) h e = inr (In-from_index ys x k (omega arith) e)

-- a sync changes nothing that is shown
shown-keep : (o : Option FileState) → file_content (option_map keep o) ≡ file_content o
shown-keep None = refl
shown-keep (Some f) = by f.removed refl
  where
    by : (t : Bool) → f.removed ≡ t → file_content (Some (cond t f (whole (f.kept ++ f.pending)))) ≡ file_content
        (Some f)
    by true e = refl
    by false e =
        ap (λ (bs : List ℕ). Some bs) (append-nil (f.kept ++ f.pending))
        ∙ sym (ap (λ (t : Bool). cond t None (Some (f.kept ++ f.pending))) e)

pub shown-sync-by : (d : Disk) (name other : FileName) (t : Bool) → same_name name other ≡ t
    → file_content (cond t (option_map keep (d name)) (d other)) ≡ file_content (d other)
shown-sync-by d name other true e =
    shown-keep (d name) ∙ ap (λ (name : FileName). file_content (d name)) (same_name-true name other e)
shown-sync-by d name other false e = refl

pub shown-sync : (d : Disk) (name : FileName) → shown_logs (files_of (sync d name)) ≡ shown_logs (files_of d)
shown-sync d name = λ i n. shown-sync-by d name (log_of n) (same_name name (log_of n)) refl i

pub shown-sync_all : (names : List FileName) (d : Disk)
    → shown_logs (files_of (sync_all d names)) ≡ shown_logs (files_of d)
shown-sync_all [] d = refl
shown-sync_all (name ∷ names) d = shown-sync_all names (sync d name) ∙ shown-sync d name

module _ (F : Format) (laws : IsFormat F) where
  -- one file among those that are synced
  settles : (n : ℕ) (names : List FileName) (d : Disk)
      → In (log_of n) names ⊎ IsSettledAt F laws n (d (log_of n))
      → IsSettledAt F laws n (sync_all d names (log_of n))
  settles n [] d (inl here) = absurd here
  settles n [] d (inr settled) = settled
  settles n (name ∷ names) d h = settles n names (sync d name) (by (same_name name (log_of n)) refl h)
    where
      by : (t : Bool) → same_name name (log_of n) ≡ t
          → In (log_of n) (name ∷ names) ⊎ IsSettledAt F laws n (d (log_of n))
          → In (log_of n) names ⊎ IsSettledAt F laws n (sync d name (log_of n))
      by true e h =
          inr (subst (λ (o : Option FileState). IsSettledAt F laws n o)
          (sym (subst (λ (name : FileName). sync d name (log_of n) ≡ option_map keep (d (log_of n)))
          (sym (same_name-true name (log_of n) e)) (set-at d (log_of n) (option_map keep (d (log_of n))))))
          (settled-keep F laws n (d (log_of n))))
      by false e (inl (inl here)) =
          absurd (cc (sym e ∙ subst (λ (name : FileName). same_name name (log_of n) ≡ true) here
          (same_name-refl (log_of n))))
      by false e (inl (inr later)) = inl later
      by false e (inr settled) =
          inr (subst (λ (o : Option FileState). IsSettledAt F laws n o)
          (sym (set-other d name (log_of n) (option_map keep (d name)) e)) settled)

  pub all-settled : (d : Disk) (names : List FileName) → IsListing d names → IsSettled F (files_of (sync_all d names))
  all-settled d names listing n = by (contents d (log_of n)) refl
    where
      by : (o : Option (List ℕ)) → contents d (log_of n) ≡ o → IsSettledAt F laws n (sync_all d names (log_of n))
      by None e = settles n names d (inr (settled-free F laws n (d (log_of n)) e))
      by (Some bytes) e =
          let here : IsListed d (log_of n) = subst (λ (o : Option (List ℕ)). IsTrue (is_some o)) (sym e) refl in
          let c = (listing.listed (log_of n)).1 here in
          settles n names d (inl (In-from_index names (log_of n) c.0 c.1 c.2))

  -- what was promised, stays so as they are synced
  pub sync_all-keeps : (b : ℕ) (noticed given : List F.Record) (names : List FileName) (d : Disk)
      → Promises F b noticed given d → Promises F b noticed given (sync_all d names)
  sync_all-keeps b noticed given [] d keeps = keeps
  sync_all-keeps b noticed given (name ∷ names) d keeps =
      sync_all-keeps b noticed given names (sync d name) (sync-any F laws b noticed given d name keeps)

  pub sync_all-steady : (b : ℕ) (noticed given : List F.Record) (d : Disk) (names : List FileName)
      → IsListing d names → Promises F b noticed given d
      → IsSteady F b (reading F b (shown_logs (files_of (sync_all d names)))) (files_of (sync_all d names))
  sync_all-steady b noticed given d names listing keeps =
      settled-steady F laws b noticed given (files_of (sync_all d names))
      (sync_all-keeps b noticed given names d keeps)
      (all-settled d names listing)

  -- what each image reads, some of the given ops come to: from then on they count, and no others
  pub record Settled (b : ℕ) (noticed given : List F.Record) (d : Disk) : Type 0 where
    pub ops : List F.Record
    pub held : IsFront noticed ops
    pub front : IsFront ops given
    pub holds : Holds F b ops d
    pub promise : Promises F b ops ops d

  pub steady-settled : (b : ℕ) (noticed given : List F.Record) (d : Disk)
      → IsSteady F b (reading F b (shown_logs (files_of d))) (files_of d) → Promises F b noticed given d
      → Settled b noticed given d
  steady-settled b noticed given d steady keeps =
      let r = keeps.recovers (shown_logs (files_of d)) (shown-image F laws (files_of d)) in
      record {
        ops = r.ops;
        held = r.held;
        front = r.front;
        holds = r.value ∙ sym r.is;
        promise = steady-keeps F b (reading F b (shown_logs (files_of d))) r.ops r.ops (files_of d) steady (record {
          ops = r.ops;
          held = front-refl r.ops;
          front = front-refl r.ops;
          world = r.world;
          is = r.is;
          value = r.value;
        });
      }
