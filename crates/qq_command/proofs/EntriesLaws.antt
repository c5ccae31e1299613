-- Entries one behind the other and their encodings.
use Rattle.std.proofs.Common.{ℕ, ◌^◌, ◌<◌, List, ◌++◌, length, drop, Ok, sym, ap, ◌∙◌, refl}
use Rattle.std.specs.Prelude.{All}
use Rattle.std.proofs.lemmas.List.{drop_at, take-append-drop}
use Rattle.qq_entry.specs.Range.{IsWritable}
use Rattle.qq_command.specs.declared.refusal.Refusal.TheVariants.{Short}
use Rattle.qq_command.specs.Encoding.{encoding, entries}
use Rattle.qq_command.specs.Reading.{entry_at, entry_field_at, entries_at}
use Rattle.qq_fields.proofs.Laws.{Reads, here, then_ok, in_turn, AreBytes-drop, list-reads}
use Rattle.qq_command.proofs.EntryLaws.{entry_takes, entry_again}

entry-reads : Reads entry_field_at encoding IsWritable
unfolding entry_field_at
entry-reads = record {
  takes = λ bytes fits.
      then_ok (entry_at bytes) _ (entry_takes bytes fits) (λ x f.
      here (x.0, drop x.1 bytes) (
        record {
          parts = sym (take-append-drop x.1 bytes)
              ∙ ap (λ (t : List ℕ). t ++ drop x.1 bytes) f.is;
          rest_fits = AreBytes-drop x.1 bytes fits;
        },
        f.writable,
      ));
  again = λ e bytes rest is f.
      in_turn _ (entry_at bytes) _ (entry_again e bytes rest is f)
      (ap (λ (t : List ℕ). Ok (e, t))
      (ap (drop (length (encoding e))) is ∙ drop_at (encoding e) rest (length (encoding e)) refl));
}

pub entries-reads : Reads entries_at entries (λ es. All IsWritable es × (length es < 2 ^ 32))
unfolding entries_at entries
entries-reads = list-reads Short entry-reads
