-- What a reader of lines reads, piece by piece.
use Rattle.std.proofs.Common.{◌≡◌, ℕ, ◌+◌, ◌<◌, ◌≤◌, Bool, true, false, List, [], ◌∷◌, ◌++◌, Option, Some, None, length, take, drop, refl, sym, ap, subst, ◌∙◌, append_assoc, append-nil, arith}
use Rattle.std.proofs.lemmas.List.{length-append, length-take-le, take-append-drop}
use Rattle.std.specs.Io.KnownBytes.{Consumes, Keeps, IsAtEnd, prepend_known}
use Rattle.std.proofs.KnownBytes.{Consumes-kept}
use Rattle.qq_ports.specs.declared.fault.TheConstants.{LINE_LIMIT}
use Rattle.qq_ports.specs.declared.fault.LineFault.{LineFault}
use Rattle.qq_ports.specs.declared.fault.LineFault.TheVariants.{Failed, TooLong, Memory}
use Rattle.qq_ports.specs.Lines.{without_return, first_line, HasNoFeed, IsLong, IsGivenUp, BeginsTooLong, LosesSome, LosesPiece, HasLineCause, TakesPiece, TakesLine}
use Rattle.qq_ports.proofs.LineLemmas.{HasNoFeed-append, first_line-feed, first_line-last, first_line-long}

-- a line whose next piece doesn't fit has too many bytes, whatever follows
pub too_long : (line pending : List ℕ) (n : ℕ) → n ≤ length pending → LINE_LIMIT < length line + n
    → HasNoFeed (take n pending) → HasNoFeed line → (rest : List ℕ)
    → IsGivenUp (TooLong (LINE_LIMIT + 1)) (line ++ (pending ++ rest))
too_long line pending n within long piece clean rest =
    let taken = length-take-le n pending within in
    let begins = first_line-long (line ++ take n pending) (drop n pending ++ rest)
    (HasNoFeed-append line (take n pending) clean piece)
    (omega (arith, length-append line (take n pending), long, taken)) in
    let same : (line ++ take n pending) ++ (drop n pending ++ rest) ≡ line ++ (pending ++ rest) =
    append_assoc line (take n pending) (drop n pending ++ rest)
    ∙ ap (λ l. line ++ l) (sym (append_assoc (take n pending) (drop n pending) rest)
    ∙ ap (λ l. l ++ rest) (take-append-drop n pending)) in
    (refl, subst (λ l. IsLong (first_line l)) same begins)

known_up : (e : LineFault) (a left rest : Option (List ℕ)) (line pending : List ℕ) (rose : Type 0)
    → Consumes a (prepend_known pending left) line
    → ((more : List ℕ) → IsGivenUp e (line ++ (pending ++ more))) → HasLineCause e a rest rose
known_up Failed a left rest line pending rose read up = absurd (up []).0
known_up (TooLong length) None left rest line pending rose read up = ((up []).0, tt)
known_up (TooLong length) (Some x) None rest line pending rose read up = absurd read
known_up (TooLong length) (Some x) (Some y) rest line pending rose read up =
    ((up y).0, subst (λ l. BeginsTooLong (Some l)) (sym read) (up y).1)
known_up (Memory memory) a left rest line pending rose read up = up []

-- and so has the line ahead: `a` was ahead first, `b` before the last read
pub given_up : (e : LineFault) (a b left rest : Option (List ℕ)) (line pending : List ℕ) (rose : Type 0)
    → Consumes a b line → Keeps b (prepend_known pending left)
    → ((more : List ℕ) → IsGivenUp e (line ++ (pending ++ more))) → HasLineCause e a rest rose
given_up e a b left rest line pending rose read same up =
    known_up e a left rest line pending rose (Consumes-kept a b (prepend_known pending left) line read same) up

-- what was read of a line before the source failed
pub loses_piece : (a b rest : Option (List ℕ)) (line : List ℕ) → Consumes a b line → Keeps b rest → HasNoFeed line
    → LosesPiece a rest
loses_piece a b rest line read same clean = (line, clean, Consumes-kept a b rest line read same)

-- a line that ends at its line feed
fed : (a left : Option (List ℕ)) (line pending piece rest : List ℕ) → Consumes a (prepend_known pending left) line
    → pending ≡ piece ++ 10 ∷ rest → HasNoFeed (line ++ piece)
    → length (line ++ piece) ≤ LINE_LIMIT → TakesLine a (prepend_known rest left) (without_return (line ++ piece))
fed None left line pending piece rest read is clean fits = tt
fed (Some x) None line pending piece rest read is clean fits = absurd read
fed (Some x) (Some y) line pending piece rest read is clean fits =
    let same : x ≡ (line ++ piece) ++ 10 ∷ (rest ++ y) =
    read ∙ ap (λ l. line ++ (l ++ y)) is ∙ ap (λ l. line ++ l) (append_assoc piece (10 ∷ rest) y)
    ∙ sym (append_assoc line piece (10 ∷ rest ++ y)) in
    record {
      raw = line ++ piece;
      is = ap first_line same
          ∙ first_line-feed (line ++ piece) (rest ++ y) clean;
      fits = fits;
    }

pub takes_fed : (a b left : Option (List ℕ)) (found : Bool) (old new line longer : List ℕ) → found ≡ true
    → TakesPiece found old new line longer → Consumes a b line → Keeps b (prepend_known old left)
    → HasNoFeed line → length longer ≤ LINE_LIMIT → TakesLine a (prepend_known new left) (without_return longer)
takes_fed a b left true old new line longer is piece read same clean fits =
    let whole : line ++ piece.0 ≡ longer = sym piece.3 in
    subst (λ l. TakesLine a (prepend_known new left) (without_return l)) whole
    (fed a left line old piece.0 new (Consumes-kept a b (prepend_known old left) line read same) piece.2
    (HasNoFeed-append line piece.0 clean piece.1) (subst (λ l. length l ≤ LINE_LIMIT) (sym whole) fits))
takes_fed a b left false old new line longer is piece read same clean fits = absurd cc

-- all that was read goes to the line
consumes_all : (a left : Option (List ℕ)) (line old : List ℕ) → Consumes a (prepend_known old left) line
    → Consumes a (prepend_known [] left) (line ++ old)
consumes_all None left line old read = tt
consumes_all (Some x) None line old read = absurd read
consumes_all (Some x) (Some y) line old read = read ∙ sym (append_assoc line old y)

pub takes_more : (a b left : Option (List ℕ)) (found : Bool) (old new line longer : List ℕ) → found ≡ false
    → TakesPiece found old new line longer → Consumes a b line → Keeps b (prepend_known old left)
    → HasNoFeed line → HasNoFeed longer × Consumes a (prepend_known new left) longer
takes_more a b left true old new line longer is piece read same clean = absurd cc
takes_more a b left false old new line longer is piece read same clean =
    let whole : line ++ old ≡ longer = sym piece.2 in (
      subst HasNoFeed whole (HasNoFeed-append line old clean piece.0),
      subst (λ l. Consumes a (prepend_known l left) longer) (sym piece.1)
          (subst (λ l. Consumes a (prepend_known [] left) l) whole
          (consumes_all a left line old (Consumes-kept a b (prepend_known old left) line read same))),
    )

last : (a b : Option (List ℕ)) (line : List ℕ) → Consumes a b line → IsAtEnd b → HasNoFeed line
    → length line ≤ LINE_LIMIT → 0 < length line → TakesLine a b line
last None b line read end clean fits some = tt
last (Some x) None line read end clean fits some = absurd read
last (Some x) (Some y) line read end clean fits some =
    let same : x ≡ line = read ∙ ap (λ l. line ++ l) end ∙ append-nil line in
    record {
      raw = line;
      is = ap first_line same ∙ first_line-last line clean some
          ∙ ap (λ l. Some (record { raw = line; line = line; rest = l })) (sym end);
      fits = fits;
    }

-- the last line, which has no line feed: `b` was ahead before the last read, and `d` behind it
pub takes_last : (a b d : Option (List ℕ)) (line : List ℕ) → Consumes a b line → Keeps b d → IsAtEnd d
    → HasNoFeed line → length line ≤ LINE_LIMIT → 0 < length line → TakesLine a d line
takes_last a b d line read same end clean fits some =
    last a d line (Consumes-kept a b d line read same) end clean fits some

-- ---- what the source has left

loses : (a left : Option (List ℕ)) (line old : List ℕ) → Consumes a (prepend_known old left) line
    → LosesSome a left
loses None left line old read = (line, tt)
loses (Some x) None line old read = absurd read
loses (Some x) (Some y) line old read = (line ++ old, read ∙ sym (append_assoc line old y))

-- what went to a line and what is pending was read
pub loses_pending : (a b left : Option (List ℕ)) (line old : List ℕ) → Consumes a b line
    → Keeps b (prepend_known old left) → LosesSome a left
loses_pending a b left line old read same =
    loses a left line old (Consumes-kept a b (prepend_known old left) line read same)

-- before the first read nothing is pending
pub loses_none : (left : Option (List ℕ)) → LosesSome (prepend_known [] left) left
loses_none None = ([], tt)
loses_none (Some x) = ([], refl)
