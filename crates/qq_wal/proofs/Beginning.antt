-- Queues that go on in a new file, one after the other.
use Rattle.std.proofs.Common.{◌≡◌, ◌<◌, ◌+◌, ℕ, List, length, take, get_or, sym, ap, ◌∙◌}
use Rattle.std.proofs.lemmas.List.Sums.{fold_more}
use Rattle.qq_base.specs.declared.ids.QueueId.{QueueId}
use Rattle.qq_wal.specs.Ranges.{AllRanges, begin_files, begin_queue, no_queues}

pub begin-more : (file : ℕ) (all : AllRanges) (queues : List QueueId) (i : ℕ) (d : QueueId) (rows new : AllRanges)
    → i < length queues → new ≡ begin_queue file all rows (get_or queues i d)
    → rows ≡ begin_files file (take i queues) all → new ≡ begin_files file (take (i + 1) queues) all
begin-more file all queues i d rows new within more before =
    more ∙ ap (λ (rows : AllRanges). begin_queue file all rows (get_or queues i d)) before
    ∙ sym (fold_more (begin_queue file all) no_queues queues i d within)
