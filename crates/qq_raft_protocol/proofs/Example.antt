-- A group of three may elect a leader and commit an entry.
use Rattle.std.proofs.Common.{◌≡◌, ℕ, [], ◌∷◌, refl, sym, ap, subst, ◌∙◌, arith, inl, inr}
use Rattle.std.specs.Prelude.{nat_le}
use Rattle.std.proofs.lemmas.Bool.{false≢true}
use Rattle.qq_base.specs.Fronts.{IsFront, put}
use Rattle.qq_base.proofs.Fronts.{front-length}
use Rattle.qq_entry.specs.declared.command.Entry.{Entry}
use Rattle.qq_raft_protocol.specs.World.{new_world}
use Rattle.qq_raft_protocol.specs.Facts.{Most}
use Rattle.qq_raft_protocol.specs.Moves.{run, AreAllowed}
use Rattle.qq_raft_protocol.specs.Example.{three, first_sent, election, replication}

two_of_three : (P : ℕ → Type 0) → P 1 → P 2 → Most three P
two_of_three P first second = record {
  counts = λ q. nat_le q 2;
  majority = omega arith;
  each = λ q here passes. elim here [
    | inl one ↦ subst P (sym one) first
    | inr others ↦ elim others [
      | inl two ↦ subst P (sym two) second
      | inr last ↦ elim last [
        | inl three ↦ absurd (false≢true (ap (λ n. nat_le n 2) (sym three) ∙ passes))
        | inr nobody ↦ absurd nobody
      ]
    ]
  ];
}

pub election-allowed : AreAllowed three new_world election
unfolding put
election-allowed = (
  tt,
  (
    (omega arith, omega arith),
    (
      record { term_rises = omega arith; vote_stays = λ e. inr refl; log_is = inl refl },
      (
        record {
          asked = inl refl;
          may_leave = omega arith;
          term_is = refl;
          vote_is = refl;
          current = inr (refl, omega arith);
        },
        (
          (omega arith, omega arith),
          (
            (
              refl,
              two_of_three _ (record {
                grant = record { from = 1; to = 1; term = 1; op = 1; log = [] };
                said = inr (inl refl);
                from = refl;
                to = refl;
                term = refl;
                durable = omega arith;
              }) (record {
                grant = record { from = 2; to = 1; term = 1; op = 1; log = [] };
                said = inl refl;
                from = refl;
                to = refl;
                term = refl;
                durable = omega arith;
              }),
            ),
            tt,
          ),
        ),
      ),
    ),
  ),
)

no_front : (e : Entry) → IsFront (e ∷ []) [] → ⊥
no_front e p = let le = front-length p in omega (arith, le)

pub replication-allowed : (e : Entry) → e.term.0 ≡ 1 → AreAllowed three (run new_world election) (replication e)
unfolding put
replication-allowed e own = (
  (refl, own),
  (
    (refl, record { rest = []; is = refl }, record { rest = []; is = refl }),
    (
      record {
        term_rises = omega arith;
        vote_stays = λ e. inl refl;
        log_is =
            inr (record { sent = first_sent e; said = inl refl; term_is = refl; log_is = refl; differs = no_front e });
      },
      (
        record { said = inl refl; term_is = refl; front = record { rest = []; is = refl } },
        (
          (omega arith, omega arith),
          (
            (omega arith, omega arith),
            (
              (
                refl,
                record { rest = []; is = refl },
                own,
                two_of_three _ (record {
                  acked = record {
                    ack = record { from = 1; term = 1; upto = 1; op = 2 };
                    said = inr (inl refl);
                    from = refl;
                    term = sym own;
                    reaches = omega arith;
                  };
                  durable = omega arith;
                }) (record {
                  acked = record {
                    ack = record { from = 2; term = 1; upto = 1; op = 2 };
                    said = inl refl;
                    from = refl;
                    term = sym own;
                    reaches = omega arith;
                  };
                  durable = omega arith;
                }),
              ),
              tt,
            ),
          ),
        ),
      ),
    ),
  ),
)

pub replication-commits : (e : Entry) → (run (run new_world election) (replication e)).audit ≡ e ∷ []
unfolding put
replication-commits e = refl
