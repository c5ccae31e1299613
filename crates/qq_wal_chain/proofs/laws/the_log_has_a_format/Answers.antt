use Rattle.std.proofs.Common.{arith}
use Rattle.qq_wal_chain.proofs.Codec.{IsCodec, is_format}
use Rattle.qq_wal_chain.proofs.laws.the_log_has_a_format.Goals as goal

pub returns : goal.returns
returns c =
    let codec : IsCodec = record {
      again = c.records_read_back.ensures.again;
      exact = c.records_read_back.ensures.alone;
      some = λ n r. omega (arith, c.encodings_have_lengths.ensures.records n r);
      header_again = c.headers_read_back.ensures.again;
      header_length = c.encodings_have_lengths.ensures.headers;
    } in
    is_format codec
