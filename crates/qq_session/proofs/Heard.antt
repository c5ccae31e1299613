-- A session's numbers are what it has made of them.
use Rattle.std.proofs.Common.{◌≡◌, ℕ, Bool, true, false, cond, List, [], ◌∷◌, ◌++◌, Option, Some, None, map, refl, sym, ap, ◌∙◌}
use Rattle.std.specs.Prelude.{filter, nat_eq}
use Rattle.std.proofs.lemmas.Bool.{false≢true, cond-true, cond-false, eq-eqb, ne_eqb}
use Rattle.qq_entry.specs.declared.audit.AuditRow.{AuditRow}
use Rattle.qq_session.specs.Arriving.{Deed, after_deed}
use Rattle.qq_session.specs.Publishing.{Numbers, answer}
use Rattle.qq_session.specs.Deeds.{take_of, is_sent_by, takes_of, after_deeds}
use Rattle.qq_session.specs.Clients.{Client, Clients, sender, take_answer, hear_by, hear, hear_all}
use Rattle.qq_base.proofs.Puts.{put-each}
use Rattle.qq_entry.specs.Command.{seq_of}

pub deeds-append : (first second : List Deed) (n : Numbers)
    → after_deeds (first ++ second) n ≡ after_deeds second (after_deeds first n)
deeds-append [] second n = refl
deeds-append (deed ∷ first) second n = deeds-append first second (after_deed deed n)

-- what a row makes of each session
pub record Heard (row : AuditRow) (own : Option ℕ) (session : ℕ) (old new : Client) : Type 0 where
  pub muted_is : new.muted ≡ old.muted
  pub lost : old.muted ≡ true → new.numbers ≡ old.numbers
  pub taken : old.muted ≡ false → new.numbers
      ≡ cond (is_sent_by session own) (answer (seq_of row.entry.command) row.answer old.numbers) old.numbers

pub heard : (row : AuditRow) (clients : Clients) (session : ℕ)
    → Heard row (sender row) session (clients session) (hear row clients session)
heard row clients session = by (sender row)
  where
    new : (own : ℕ) (b : Bool) → (clients own).muted ≡ b → Heard row (Some own) own (clients own)
        (cond b (clients own) (record (clients own) {
          numbers = answer (seq_of row.entry.command) row.answer (clients own).numbers;
        }))
    new own true is = record {
      muted_is = refl;
      lost = λ _. refl;
      taken = λ not'. absurd (false≢true (sym not' ∙ is));
    }
    new own false is = record {
      muted_is = refl;
      lost = λ muted. absurd (false≢true (sym is ∙ muted));
      taken = λ _. sym (cond-true (nat_eq own own)
          (answer (seq_of row.entry.command) row.answer (clients own).numbers) (clients own).numbers
          (eq-eqb own own refl));
    }

    by : (o : Option ℕ) → Heard row o session (clients session) (hear_by o row clients session)
    by None = record { muted_is = refl; lost = λ _. refl; taken = λ _. refl }
    by (Some own) =
        put-each (λ (i : ℕ) (c : Client). Heard row (Some own) i (clients i) c) own
        (take_answer row (clients own)) clients (new own (clients own).muted refl)
        (λ i other. record {
          muted_is = refl;
          lost = λ _. refl;
          taken = λ _. sym (cond-false (nat_eq own i)
              (answer (seq_of row.entry.command) row.answer (clients i).numbers) (clients i).numbers
              (ne_eqb own i (λ same. other (sym same))));
        }) session

all-lost : (rows : List AuditRow) (clients : Clients) (session : ℕ) → (clients session).muted ≡ true
    → (hear_all rows clients session).numbers ≡ (clients session).numbers
all-lost [] clients session muted = refl
all-lost (row ∷ rows) clients session muted =
    let one = heard row clients session in
    all-lost rows (hear row clients) session (one.muted_is ∙ muted) ∙ one.lost muted

abbrev is_of : ℕ → AuditRow → Bool
is_of session row = is_sent_by session (sender row)

all-taken : (rows : List AuditRow) (clients : Clients) (session : ℕ) → (clients session).muted ≡ false
    → (hear_all rows clients session).numbers
    ≡ after_deeds (map take_of (filter (is_of session) rows)) (clients session).numbers
all-taken [] clients session heard' = refl
all-taken (row ∷ rows) clients session heard' =
    let one = heard row clients session in
    all-taken rows (hear row clients) session (one.muted_is ∙ heard')
    ∙ ap (after_deeds (map take_of (filter (is_of session) rows))) (one.taken heard')
    ∙ by (is_of session row)
  where
    by : (b : Bool)
        → after_deeds (map take_of (filter (is_of session) rows))
        (cond b (answer (seq_of row.entry.command) row.answer (clients session).numbers) (clients session).numbers)
        ≡ after_deeds (map take_of (cond b (row ∷ filter (is_of session) rows) (filter (is_of session) rows)))
        (clients session).numbers
    by true = refl
    by false = refl

pub heard-numbers : (rows : List AuditRow) (clients : Clients) (session : ℕ)
    → (hear_all rows clients session).numbers
    ≡ after_deeds (takes_of session clients rows) (clients session).numbers
heard-numbers rows clients session = by (clients session).muted refl
  where
    by : (b : Bool) → (clients session).muted ≡ b → (hear_all rows clients session).numbers
        ≡ after_deeds (cond b [] (map take_of (filter (is_of session) rows))) (clients session).numbers
    by true muted = all-lost rows clients session muted
    by false heard' = all-taken rows clients session heard'
