-- Files are moved one by one from a disk before a crash to the disk after it.
use Rattle.std.proofs.Common.{◌≡◌, ℕ, Bool, true, false, cond, List, Option, Some, None, option_map, is_some, refl, sym, ap, ◌∙◌}
use Rattle.qq_disk.specs.declared.name.FileName.{FileName}
use Rattle.qq_disk.specs.declared.image.Image.{Image}
use Rattle.qq_disk.specs.Disk.{Disk, FileState, whole}
use Rattle.qq_disk.specs.Name.{same_name}
use Rattle.qq_disk.specs.Crash.{reopen}
use Rattle.qq_disk.specs.Image.{IsNewestLog, image_of, is_file, remainder}
use Rattle.qq_disk.proofs.Names.{same_name-true}
use Rattle.qq_mem_disk.specs.Crashed.{put_remainder, IsCrash}

module _ (image : Image) (newest : Option FileName) where
  -- what will stand under a name: what is left of the file that is still to move, and else what was moved
  abbrev pub coming : FileName → Option FileState → Option FileState → Option FileState
  coming file None moved = moved
  coming file (Some f) moved = option_map whole (remainder image (is_file newest file) (Some f))

  -- so far some files were moved, and the rest is as it was
  pub record Moves (first rest after : Disk) : Type 0 where
    pub all : (file : FileName)
        → coming file (rest file) (after file) ≡ reopen (image_of image newest first) file
    pub apart : (file : FileName) → is_some (rest file) ≡ true → after file ≡ None

  pub none_moved : (first after : Disk) → ((file : FileName) → after file ≡ None) → Moves first first after
  none_moved first after empty =
      record {
        all = λ file. ap (coming file (first file)) (empty file)
            ∙ comes file (first file);
        apart = λ file h. empty file;
      }
    where
      comes : (file : FileName) (o : Option FileState)
          → coming file o None ≡ option_map whole (remainder image (is_file newest file) o)
      comes file None = refl
      comes file (Some f) = refl

  module _ (first rest after next new : Disk) (name : FileName) (f : FileState) (so_far : Moves first rest after)
      (here : rest name ≡ Some f)
      (taken : (file : FileName) → next file ≡ cond (same_name name file) None (rest file))
      (left : new ≡ put_remainder after name (remainder image (is_file newest name) (Some f))) where
    gone : after name ≡ None
    gone = so_far.apart name (ap is_some here)

    -- what was left of the file stands under its name
    at_name : (o : Option (List ℕ)) (file : FileName) → same_name name file ≡ true
        → put_remainder after name o file ≡ option_map whole o
    at_name None file e = ap after (sym (same_name-true name file e)) ∙ gone
    at_name (Some bytes) file e = ap (λ (b : Bool). cond b (Some (whole bytes)) (after file)) e

    at_other : (o : Option (List ℕ)) (file : FileName) → same_name name file ≡ false
        → put_remainder after name o file ≡ after file
    at_other None file e = refl
    at_other (Some bytes) file e = ap (λ (b : Bool). cond b (Some (whole bytes)) (after file)) e

    next_at : (file : FileName) (same : Bool) → same_name name file ≡ same
        → next file ≡ cond same None (rest file)
    next_at file same e = taken file ∙ ap (λ (b : Bool). cond b None (rest file)) e

    all_moved : (file : FileName) (same : Bool) → same_name name file ≡ same
        → coming file (next file) (new file) ≡ reopen (image_of image newest first) file
    all_moved file true e =
        ap (λ (o : Option FileState). coming file o (new file)) (next_at file true e)
        ∙ ap (λ (d : Disk). d file) left
        ∙ at_name (remainder image (is_file newest name) (Some f)) file e
        ∙ ap (λ (o : Option FileState). coming name o (after name)) (sym here)
        ∙ so_far.all name
        ∙ ap (reopen (image_of image newest first)) (same_name-true name file e)
    all_moved file false e =
        ap (λ (o : Option FileState). coming file o (new file)) (next_at file false e)
        ∙ ap (λ (d : Disk). coming file (rest file) (d file)) left
        ∙ ap (coming file (rest file)) (at_other (remainder image (is_file newest name) (Some f)) file e)
        ∙ so_far.all file

    still_apart : (file : FileName) (same : Bool) → same_name name file ≡ same → is_some (next file) ≡ true
        → new file ≡ None
    still_apart file true e h = absurd (cc (h, ap is_some (next_at file true e)))
    still_apart file false e h =
        ap (λ (d : Disk). d file) left ∙ at_other (remainder image (is_file newest name) (Some f)) file e
        ∙ so_far.apart file (ap is_some (sym (next_at file false e)) ∙ h)

    pub one_moved : Moves first next new
    one_moved =
        record {
          all = λ file. all_moved file (same_name name file) refl;
          apart = λ file h. still_apart file
              (same_name name file) refl h;
        }

  pub crash_of : (first rest after : Disk) → IsNewestLog first image.removed_back newest
      → Moves first rest after → ((file : FileName) → rest file ≡ None) → IsCrash image first after
  crash_of first rest after is_newest moves empty = record {
    newest = newest;
    is_newest = is_newest;
    left =
        λ i file. (ap (λ (o : Option FileState). coming file o (after file)) (sym (empty file)) ∙ moves.all file) i;
  }
