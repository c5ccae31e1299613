use Rattle.std.proofs.Common.{◌≡◌, ◌++◌, ℕ, List, length, take, ap, subst, sym, ◌∙◌, arith}
use Rattle.std.specs.List.{sum}
use Rattle.std.proofs.lemmas.List.Elements.{All-take, recursion_from_All}
use Rattle.qq_base.specs.Fields.{AreBytes}
use Rattle.qq_wal_record.proofs.Marks.{bodies_len}
use Rattle.qq_wal.specs.Batch.{FitsBatch, encodings}
use Rattle.qq_wal.proofs.Bodies.{each_fits}
use Rattle.qq_wal.proofs.batch.put_batch.Goals as goal

pub write_marked-requires : goal.write_marked-requires
write_marked-requires c =
    let rs = take c.in_ok-count.count c.args.waiting.now.items in
    let same : sum c.as_slice-lengths.result.now ≡ length c.as_slice-bodies.result.now =
    ap sum (c.as_slice-lengths.ensures.value ∙ c.in_ok-count.ensures.lengths) ∙ bodies_len rs
    ∙ ap length (sym (c.as_slice-bodies.ensures.value ∙ c.in_ok-count.ensures.bytes)) in
    omega arith

pub returns : goal.returns
returns c =
    let waiting = c.args.waiting.now.items in
    let rs = take c.in_ok-count.count waiting in
    let written = c.as_slice-bytes.ensures.value
    ∙ c.in_ok-write_marked.ensures.ok rs (c.as_slice-bodies.ensures.value ∙ c.in_ok-count.ensures.bytes)
    (c.as_slice-lengths.ensures.value ∙ c.in_ok-count.ensures.lengths)
    ∙ ap (λ (l : List ℕ). l ++ encodings c.args.file rs) c.clear-3.ensures.items in
    record {
      batch = c.in_ok-count.ensures.batch c.args.file;
      ok = written;
      fits = each_fits c.args.file rs (subst AreBytes written c.are_bytes.ensures)
          (recursion_from_All FitsBatch rs (All-take FitsBatch c.in_ok-count.count waiting c.requires));
      want = tt;
    }
