use Rattle.std.proofs.Common.{ltb, leb}
use Rattle.std.proofs.lemmas.Bool.{and_parts, leb-true, ltb-true}
use Rattle.qq_disk_pins.proofs.bytes.a_segment_has_an_entry_of_its_log.Goals as goal

pub returns : goal.returns
returns c = λ state segment is.
    let parts = and_parts (ltb state.base.index.0 segment.last.0) (leb segment.first.0 segment.last.0) is.0 in (
      ltb-true state.base.index.0 segment.last.0 parts.0,
      leb-true segment.first.0 segment.last.0 parts.1,
      is.1,
    )
