-- A replaced disk of three: what its node may not do, and which term is too low for it.
use Rattle.std.proofs.Common.{◌≡◌, ◌⊎◌, ℕ, ◌≤◌, Bool, true, false, cond, List, [], ◌∷◌, refl, sym, ap, subst, ◌∙◌, arith, inl, inr}
use Rattle.std.specs.Prelude.{nat_eq, nat_le, ◌||◌}
use Rattle.std.proofs.lemmas.Bool.{false≢true, eqb-true}
use Rattle.qq_base.specs.Fronts.{IsFront, put}
use Rattle.qq_base.proofs.Fronts.{front-compare, front-length, front-refl}
use Rattle.qq_entry.specs.declared.command.Entry.{Entry}
use Rattle.qq_raft_protocol.specs.World.{Lane, no_lane, opened, start_world}
use Rattle.qq_raft_protocol.specs.Example.{three}
use Rattle.qq_raft_protocol.specs.Facts.{add, In, Within, Most}
use Rattle.qq_raft_protocol.specs.Moves.{run, AreAllowed}
use Rattle.qq_raft_protocol.specs.Safe.{IsElected, IsSupported, HasVoted}
use Rattle.qq_raft_protocol.proofs.Kept.{not_empty}
use Rattle.qq_raft_protocol.proofs.Logs.{add-same, front-of_add}
use Rattle.qq_raft_protocol.proofs.Majorities.{shared}
use Rattle.qq_raft_away_laws.specs.Away.{assumed_lane, read_lane, AreBelow, IsBeside}
use Rattle.qq_raft_away_laws.specs.Replaced.{is_third, elected_lane, old_lane, old_disks, new_disks, third_sent, at_once, at_once_election, at_once_commit}
use Rattle.qq_raft_away_laws.proofs.Assumed.{assumed-start, lanes-start, read_here}

-- ---- two of three

first_last : (P : ℕ → Type 0) → P 1 → P 3 → Most three P
first_last P first last = record {
  counts = λ q. nat_eq q 1 || nat_eq q 3;
  majority = omega arith;
  each = λ q here passes. elim here [
    | inl one ↦ subst P (sym one) first
    | inr others ↦ elim others [
      | inl two ↦ absurd (false≢true (ap (λ n. nat_eq n 1 || nat_eq n 3) (sym two) ∙ passes))
      | inr rest ↦ elim rest [ inl three ↦ subst P (sym three) last | inr nobody ↦ absurd nobody ]
    ]
  ];
}

last_two : (P : ℕ → Type 0) → P 2 → P 3 → Most three P
last_two P second last = record {
  counts = λ q. nat_le 2 q;
  majority = omega arith;
  each = λ q here passes. elim here [
    | inl one ↦ absurd (false≢true (ap (λ n. nat_le 2 n) (sym one) ∙ passes))
    | inr others ↦ elim others [
      | inl two ↦ subst P (sym two) second
      | inr rest ↦ elim rest [ inl three ↦ subst P (sym three) last | inr nobody ↦ absurd nobody ]
    ]
  ];
}

-- ---- the lanes before

lane_by : (e : Entry) (b : Bool) → (cond b (elected_lane e) no_lane ≡ elected_lane e)
    ⊎ (cond b (elected_lane e) no_lane ≡ no_lane)
lane_by e true = inl refl
lane_by e false = inr refl

old_cases : (e : Entry) (q : ℕ) (l : Lane) → l ≡ old_lane e q → (l ≡ elected_lane e) ⊎ (l ≡ no_lane)
old_cases e q l here = elim (lane_by e (nat_eq q 1 || nat_eq q 3)) [
  | inl old ↦ inl (here ∙ old)
  | inr nothing ↦ inr (here ∙ nothing)
]

no_entry : (l : Lane) (a : List Entry) (x : Entry) → l ≡ no_lane → IsFront (add a x) l.log → ⊥
no_entry l a x is front = not_empty a l.log x front (ap (λ (m : Lane). m.log) is)

the_entry : (l : Lane) (e : Entry) (a : List Entry) (x : Entry) → l ≡ elected_lane e → IsFront (add a x) l.log
    → (a ≡ []) × (x ≡ e)
the_entry l e a x is front =
    elim (front-of_add (add a x) [] e (subst (λ (m : Lane). IsFront (add a x) m.log) is front)) [
      | inl before ↦ absurd (not_empty a [] x before refl)
      | inr whole ↦ add-same a [] x e whole
    ]

old-logs : (e : Entry) (p q : ℕ) (l m : Lane) → l ≡ old_lane e p → m ≡ old_lane e q → (a b : List Entry)
    (x y : Entry) → IsFront (add a x) l.log → IsFront (add b y) m.log
    → IsFront (add a x) (add b y) ⊎ IsFront (add b y) (add a x)
old-logs e p q l m here there a b x y first second = elim (old_cases e p l here) [
  | inr nothing ↦ absurd (no_entry l a x nothing first)
  | inl own ↦ elim (old_cases e q m there) [
    | inr nothing ↦ absurd (no_entry m b y nothing second)
    | inl other ↦ front-compare (subst (λ (z : Lane). IsFront (add a x) z.log) own first)
        (subst (λ (z : Lane). IsFront (add b y) z.log) other second)
  ]
]

entry_in : (e : Entry) (q : ℕ) (l : Lane) (x : Entry) → l ≡ old_lane e q → In x l.log → x ≡ e
entry_in e q l x here inside = elim (old_cases e q l here) [
  | inr nothing ↦ absurd (subst (λ (z : Lane). In x z.log) nothing inside)
  | inl own ↦ elim (subst (λ (z : Lane). In x z.log) own inside) [ inl same ↦ same | inr nobody ↦ absurd nobody ]
]

has_entry : (e : Entry) (l : Lane) → l ≡ elected_lane e → IsFront (e ∷ []) l.log
has_entry e l is = subst (λ (z : Lane). IsFront (e ∷ []) z.log) (sym is) (front-refl (e ∷ []))

has_vote : (e : Entry) (l : Lane) → l ≡ elected_lane e → HasVoted 1 1 l
has_vote e l is = subst (HasVoted 1 1) (sym is) (inr (refl, refl))

pub old-supported : (e : Entry) → e.term.0 ≡ 1 → IsSupported three (λ q l. l ≡ old_lane e q) (e ∷ [])
old-supported e own = record {
  logs_match = λ p q l m here there a b x y first second same. old-logs e p q l m here there a b x y first second;
  carried = λ x front a f is. record {
    before = [];
    entry = e;
    front = front;
    majority = first_last (λ q. (l : Lane) → l ≡ old_lane e q → IsFront (e ∷ []) l.log) (has_entry e) (has_entry e);
    later = λ q l here b f inside lt. elim (old_cases e q l here) [
      | inr nothing ↦ absurd (no_entry l b f nothing inside)
      | inl old ↦
          let level : f.term.0 ≡ e.term.0 = ap (λ (y : Entry). y.term.0) (the_entry l e b f old inside).1 in
          absurd (omega (arith, lt, level))
    ];
  };
  elected = λ q l here x inside.
      let term : 1 ≡ x.term.0 = sym own ∙ ap (λ (y : Entry). y.term.0) (sym (entry_in e q l x here inside)) in
      subst (IsElected three (λ q l. l ≡ old_lane e q)) term (record {
        node = 1;
        own = λ m there. subst (λ (z : Lane). 1 ≤ z.term) (sym there) (omega arith);
        majority = first_last (λ q. (m : Lane) → m ≡ old_lane e q → HasVoted 1 1 m) (has_vote e) (has_vote e);
      });
  terms_rise = λ q l here a x front. elim (old_cases e q l here) [
    | inr nothing ↦ absurd (no_entry l a x nothing front)
    | inl old ↦
        let is = the_entry l e a x old front in
        let level : x.term.0 ≡ 1 = ap (λ (y : Entry). y.term.0) is.1 ∙ own in
        let term : l.term ≡ 1 = ap (λ (z : Lane). z.term) old in
        (subst (Within x.term.0) (sym is.0) (λ y nobody. absurd nobody), omega (arith, level, term))
  ];
}

others_by : (e : Entry) (q : ℕ) (a b : Bool) → nat_eq q 1 ≡ a → nat_eq q 3 ≡ b → (In q three → ⊥)
    → (cond (a || b) (elected_lane e) no_lane).log ≡ []
others_by e q true b first last out = absurd (out (inl (eqb-true q 1 first)))
others_by e q false true first last out = absurd (out (inr (inr (inl (eqb-true q 3 last)))))
others_by e q false false first last out = refl

old_others : (e : Entry) (q : ℕ) → (In q three → ⊥) → (old_lane e q).log ≡ []
old_others e q out = others_by e q (nat_eq q 1) (nat_eq q 3) refl refl out

old_below : (e : Entry) → e.term.0 ≡ 1 → AreBelow is_third (λ p. 2) (old_lane e)
old_below e own p q is here x inside =
    let level : x.term.0 ≡ e.term.0 = ap (λ (y : Entry). y.term.0) (entry_in e q (old_lane e q) x refl inside) in
    omega (arith, level, own)

pub replaced-beside : (e : Entry) → e.term.0 ≡ 1 → IsBeside three is_third (new_disks e) (old_disks e) (e ∷ [])
replaced-beside e own = record {
  start =
      assumed-start three is_third (λ p. 2) (old_lane e) (e ∷ []) (old_others e) (old_below e own)
      (old-supported e own);
  before = lanes-start three (old_lane e) (e ∷ []) (old_others e) (old-supported e own);
  others = λ q here. ap opened (sym (read_here is_third (λ p. 2) (old_lane e) q here));
}

-- ---- node 3 takes part at once

no_front : (f : Entry) → IsFront (f ∷ []) [] → ⊥
no_front f p = let le = front-length p in omega (arith, le)

-- its entry is committed by both
at_once-commits : (e f : Entry) → f.term.0 ≡ 3
    → AreAllowed three (run (start_world (new_disks e) []) at_once_election) (at_once_commit f)
unfolding put
at_once-commits e f own = (
  (refl, own),
  (
    (refl, record { rest = []; is = refl }, record { rest = []; is = refl }),
    (
      record {
        term_rises = omega arith;
        vote_stays = λ e. inl refl;
        log_is =
            inr (record { sent = third_sent f; said = inl refl; term_is = refl; log_is = refl; differs = no_front f });
      },
      (
        record { said = inl refl; term_is = refl; front = record { rest = []; is = refl } },
        (
          (omega arith, omega arith),
          (
            (omega arith, omega arith),
            (
              (
                refl,
                record { rest = []; is = refl },
                own,
                last_two _ (record {
                  acked = record {
                    ack = record { from = 2; term = 3; upto = 1; op = 4 };
                    said = inr (inl refl);
                    from = refl;
                    term = sym own;
                    reaches = omega arith;
                  };
                  durable = omega arith;
                }) (record {
                  acked = record {
                    ack = record { from = 3; term = 3; upto = 1; op = 3 };
                    said = inl refl;
                    from = refl;
                    term = sym own;
                    reaches = omega arith;
                  };
                  durable = omega arith;
                }),
              ),
              tt,
            ),
          ),
        ),
      ),
    ),
  ),
)

pub at_once-allowed : (e f : Entry) → f.term.0 ≡ 3 → AreAllowed three (start_world (new_disks e) []) (at_once f)
unfolding put
at_once-allowed e f own = (
  tt,
  (
    tt,
    (
      tt,
      (
        (omega arith, omega arith),
        (
          record { term_rises = omega arith; vote_stays = λ e. absurd (omega (arith, e)); log_is = inl refl },
          (
            record {
              asked = inl refl;
              may_leave = omega arith;
              term_is = refl;
              vote_is = refl;
              current = inr (refl, omega arith);
            },
            (
              (omega arith, omega arith),
              (
                (
                  refl,
                  last_two _ (record {
                    grant = record { from = 2; to = 2; term = 3; op = 3; log = [] };
                    said = inr (inl refl);
                    from = refl;
                    to = refl;
                    term = refl;
                    durable = omega arith;
                  }) (record {
                    grant = record { from = 3; to = 2; term = 3; op = 2; log = [] };
                    said = inl refl;
                    from = refl;
                    to = refl;
                    term = refl;
                    durable = omega arith;
                  }),
                ),
                at_once-commits e f own,
              ),
            ),
          ),
        ),
      ),
    ),
  ),
)

pub at_once-loses : (e f : Entry) → (run (start_world (new_disks e) []) (at_once f)).audit ≡ f ∷ []
unfolding put
at_once-loses e f = refl

-- ---- which term is too low

abbrev low_lane : Entry → ℕ → Lane
low_lane e = read_lane is_third (λ p. 1) (old_lane e)

not_below : (c : ℕ) → HasVoted 1 c no_lane → ⊥
not_below c voted = elim voted [
  | inl later ↦ omega (arith, later)
  | inr same ↦ let level : 0 ≡ 1 = same.0 in omega (arith, level)
]

no_vote : (c : ℕ) → HasVoted 1 c (assumed_lane 1) → ⊥
no_vote c voted = elim voted [
  | inl later ↦ omega (arith, later)
  | inr same ↦ absurd cc
]

pub low-refused : (e : Entry) → e.term.0 ≡ 1
    → IsSupported three (λ q l. l ≡ read_lane is_third (λ p. 1) (old_lane e) q) [] → ⊥
low-refused e own s =
    let c = s.elected 1 (elected_lane e) refl e (inl refl) in
    let q = shared c.majority (last_two (λ q. (q ≡ 2) ⊎ (q ≡ 3)) (inl refl) (inr refl)) in
    let voted = q.first (low_lane e q.who) refl in
    let at_one : HasVoted 1 c.node (low_lane e q.who) =
    subst (λ t. HasVoted t c.node (low_lane e q.who)) own voted in
    elim q.second [
      | inl second ↦ not_below c.node (subst (λ i. HasVoted 1 c.node (low_lane e i)) second at_one)
      | inr last ↦ no_vote c.node (subst (λ i. HasVoted 1 c.node (low_lane e i)) last at_one)
    ]
