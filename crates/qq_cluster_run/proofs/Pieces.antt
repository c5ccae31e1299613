-- What a sink has of a text that is written piece by piece.
use Rattle.std.proofs.Common.{◌≡◌, ℕ, List, [], ◌++◌, Some, take, drop, refl, sym, ap, subst, ◌∙◌, append_assoc, append-nil, length, take-append-drop, suc, ◌+◌, ◌<◌, ◌≤◌, get_or, flat_map, add-one}
use Rattle.std.proofs.lemmas.List.{drop_all}
use Rattle.std.proofs.Math.Seq.{drop-cons}
use Rattle.std.proofs.KnownBytes.{Appends-trans, Appends-nil}
use Rattle.qq_ports.specs.Streams.{SinkState, Writes, WritesPart}
use Rattle.qq_entry.specs.declared.audit.AuditRow.{AuditRow}
use Rattle.qq_script.specs.Audit.{row_text}
use Rattle.qq_cluster_run.specs.Pieces.{HasPrefix, HasSomePrefix, IsNextRow}

-- nothing was written yet
pub nothing : (a : SinkState) (text : List ℕ) → HasPrefix a a text text
nothing a text = record { prefix = []; is = refl; written = Appends-nil a.written }

-- a piece that was prepared was written
pub one_more : (a b c : SinkState) (text piece rest : List ℕ) → HasPrefix a b text (piece ++ rest)
    → Writes b c piece → HasPrefix a c text rest
one_more a b c text piece rest so grown = record {
  prefix = so.prefix ++ piece;
  is = so.is ∙ sym (append_assoc so.prefix piece rest);
  written = Appends-trans a.written b.written c.written so.prefix piece so.written grown;
}

pub some_from : (a b : SinkState) (text : List ℕ) → WritesPart a b text → HasSomePrefix a b text
some_from a b text (n, le, grown) = (
  drop n text,
  record { prefix = take n text; is = sym (take-append-drop n text); written = grown },
)

-- a part was written of what stood before the rest
pub join : (a b c : SinkState) (text piece left rest : List ℕ) → HasPrefix a b text (piece ++ rest)
    → HasPrefix b c piece left → HasPrefix a c text (left ++ rest)
join a b c text piece left rest so part = record {
  prefix = so.prefix ++ part.prefix;
  is =
      so.is ∙ ap (λ l. so.prefix ++ (l ++ rest)) part.is
      ∙ ap (λ l. so.prefix ++ l) (append_assoc part.prefix left rest)
      ∙ sym (append_assoc so.prefix part.prefix (left ++ rest));
  written = Appends-trans a.written b.written c.written so.prefix part.prefix so.written part.written;
}

-- a prefix of the next piece is a prefix of the whole
pub some_next : (a b c : SinkState) (text piece rest : List ℕ) → HasPrefix a b text (piece ++ rest)
    → HasSomePrefix b c piece → HasSomePrefix a c text
some_next a b c text piece rest so (left, part) = (left ++ rest, join a b c text piece left rest so part)

-- ---- the items of a list, one after the other

-- the texts of the items from one on
flat_map-drop : {A : Type 0} (f : A → List ℕ) (items : List A) (i : ℕ) (item : A) → i < length items
    → item ≡ get_or items i item → flat_map f (drop i items) ≡ f item ++ flat_map f (drop (i + 1) items)
flat_map-drop f items i item lt is =
    ap (flat_map f) (drop-cons items i item lt) ∙ ap (λ r. f r ++ flat_map f (drop (suc i) items)) (sym is)
    ∙ ap (λ (n : ℕ). f item ++ flat_map f (drop n items)) (sym (add-one i))

-- the next item moves from what is left to the text
pub next_item : {A : Type 0} (f : A → List ℕ) (a b : SinkState) (text said : List ℕ) (items : List A) (i : ℕ)
    (item : A) → i < length items → item ≡ get_or items i item
    → HasPrefix a b text (said ++ flat_map f (drop i items))
    → HasPrefix a b text ((said ++ f item) ++ flat_map f (drop (i + 1) items))
next_item f a b text said items i item lt is so =
    subst (λ l. HasPrefix a b text l)
    (ap (λ l. said ++ l) (flat_map-drop f items i item lt is)
    ∙ sym (append_assoc said (f item) (flat_map f (drop (i + 1) items)))) so

-- behind the last item nothing is left
pub last_item : {A : Type 0} (f : A → List ℕ) (a b : SinkState) (text said : List ℕ) (items : List A) (i : ℕ)
    → length items ≤ i → HasPrefix a b text (said ++ flat_map f (drop i items)) → HasPrefix a b text said
last_item f a b text said items i le so =
    subst (λ l. HasPrefix a b text l)
    (ap (λ l. said ++ flat_map f l) (drop_all i items le) ∙ append-nil said) so

-- all was written
pub whole : (a b c : SinkState) (text said : List ℕ) → HasPrefix a b text said → Writes b c said → Writes a c text
whole a b c text said so grown =
    subst (Writes a c) (sym so.is) (Appends-trans a.written b.written c.written so.prefix said so.written grown)

-- of the rest a prefix
pub some_rest : (a b c : SinkState) (text said : List ℕ) → HasPrefix a b text said → WritesPart b c said
    → HasSomePrefix a c text
some_rest a b c text said so (n, le, grown) = (
  drop n said,
  record {
    prefix = so.prefix ++ take n said;
    is = so.is ∙ ap (λ l. so.prefix ++ l) (sym (take-append-drop n said))
        ∙ sym (append_assoc so.prefix (take n said) (drop n said));
    written = Appends-trans a.written b.written c.written so.prefix (take n said) so.written grown;
  },
)

-- ---- rows that are handed out one after another

-- the next row moves from what is left to the text
pub next_row : (a b : SinkState) (text said : List ℕ) (old new : List AuditRow) (row : AuditRow)
    → IsNextRow old (Some row) new → HasPrefix a b text (said ++ flat_map row_text old)
    → HasPrefix a b text ((said ++ row_text row) ++ flat_map row_text new)
next_row a b text said old new row is so =
    subst (λ l. HasPrefix a b text l)
    (ap (λ (rows : List AuditRow). said ++ flat_map row_text rows) is
    ∙ sym (append_assoc said (row_text row) (flat_map row_text new))) so
