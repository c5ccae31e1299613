use Rattle.std.proofs.Common.{◌≡◌, ◌+◌, ◌%◌, arith, refl}
use Rattle.qq_digests.proofs.Bytes.{word_of}
use Rattle.qq_digests.proofs.rounds.next_word.Goals as goal

pub returns : goal.returns
returns c =
    let p = c.args.place in
    let words = c.args.words.now in
    let at : p % 16 ≡ p = omega arith in
    record {
      value = λ j lt.
          rw (
            at,
            word_of words j ((p + 14) % 16),
            word_of words j ((p + 9) % 16),
            word_of words j ((p + 1) % 16),
            word_of words j p,
            c.add32-word-3.ensures j lt,
            c.add32-word-2.ensures j lt,
            c.add32-word.ensures j lt,
            c.small_sigma1.ensures j lt,
            c.small_sigma0.ensures j lt,
          ) refl;
      window = refl;
    }
