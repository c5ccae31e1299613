-- Lanes that were not read may be assumed.
use Rattle.std.proofs.Common.{◌≡◌, ◌⊎◌, ℕ, ◌≤◌, ◌<◌, Bool, true, false, cond, List, [], refl, sym, ap, subst, ◌∙◌, arith, inl, inr}
use Rattle.std.proofs.lemmas.Bool.{false≢true}
use Rattle.qq_base.specs.Fronts.{IsFront}
use Rattle.qq_entry.specs.declared.command.Entry.{Entry}
use Rattle.qq_raft_protocol.specs.World.{Lane, lanes, opened}
use Rattle.qq_raft_protocol.specs.Facts.{In}
use Rattle.qq_raft_protocol.specs.Safe.{IsSupported}
use Rattle.qq_raft_protocol.specs.Starts.{IsStart}
use Rattle.qq_raft_protocol.proofs.Fewer.{supported-fewer}
use Rattle.qq_raft_protocol.proofs.Kept.{not_empty}
use Rattle.qq_raft_protocol.proofs.Majorities.{Most-map}
use Rattle.qq_base.proofs.Fronts.{front-refl}
use Rattle.qq_raft_away_laws.specs.Away.{assumed_lane, read_lane, AreBelow}

read_by : (c b : Bool) (x y : Lane) → c ≡ b
    → ((c ≡ true) × (cond b x y ≡ x)) ⊎ ((c ≡ false) × (cond b x y ≡ y))
read_by c true x y is = inl (is, refl)
read_by c false x y is = inr (is, refl)

-- a lane is assumed, or was read
abbrev IsEither : (ℕ → Bool) → (ℕ → ℕ) → (ℕ → Lane) → ℕ → Lane → Type 0
IsEither away t lane q l =
    ((away q ≡ true) × (l ≡ assumed_lane (t q))) ⊎ ((away q ≡ false) × (l ≡ lane q))

pub read_cases : (away : ℕ → Bool) (t : ℕ → ℕ) (lane : ℕ → Lane) (q : ℕ)
    → IsEither away t lane q (read_lane away t lane q)
read_cases away t lane q = read_by (away q) (away q) (assumed_lane (t q)) (lane q) refl

pub read_here : (away : ℕ → Bool) (t : ℕ → ℕ) (lane : ℕ → Lane) (q : ℕ) → away q ≡ false
    → read_lane away t lane q ≡ lane q
read_here away t lane q here = elim (read_cases away t lane q) [
  | inl new ↦ absurd (false≢true (sym here ∙ new.0))
  | inr own ↦ own.1
]

lane_cases : (away : ℕ → Bool) (t : ℕ → ℕ) (lane : ℕ → Lane) (q : ℕ) (l : Lane) → l ≡ read_lane away t lane q
    → IsEither away t lane q l
lane_cases away t lane q l here = subst (IsEither away t lane q) (sym here) (read_cases away t lane q)

no_log : (t : ℕ) (l : Lane) → l ≡ assumed_lane t → l.log ≡ []
no_log t l is = ap (λ (x : Lane). x.log) is

at_term : (t : ℕ) (l : Lane) → l ≡ assumed_lane t → l.term ≡ t
at_term t l is = ap (λ (x : Lane). x.term) is

pub assumed-supports : (members : List ℕ) (away : ℕ → Bool) (t : ℕ → ℕ) (lane : ℕ → Lane) (audit : List Entry)
    → AreBelow away t lane → IsSupported members (λ q l. l ≡ lane q) audit
    → IsSupported members (λ q l. l ≡ read_lane away t lane q) []
assumed-supports members away t lane audit below s =
    record {
      logs_match = λ p q l m here there a b e f first second same.
          elim (lane_cases away t lane p l here) [
            | inl new ↦ absurd (not_empty a l.log e first (no_log (t p) l new.1))
            | inr own ↦ elim (lane_cases away t lane q m there) [
              | inl new ↦ absurd (not_empty b m.log f second (no_log (t q) m new.1))
              | inr other ↦ s.logs_match p q l m own.1 other.1 a b e f first second same
            ]
          ];
      carried = λ x front a e is. absurd (not_empty a [] e (subst (λ z. IsFront z []) is front) refl);
      elected = λ q l here e inside.
          elim (lane_cases away t lane q l here) [
            | inl new ↦ absurd (subst (In e) (no_log (t q) l new.1) inside)
            | inr own ↦
                let c = s.elected q l own.1 e inside in
                let lt : (p : ℕ) → away p ≡ true → e.term.0 < t p =
                λ p is. below p q is own.0 e (subst (λ (x : Lane). In e x.log) own.1 inside) in
                record {
                  node = c.node;
                  own = λ m there. elim (lane_cases away t lane c.node m there) [
                    | inl new ↦ let level = at_term (t c.node) m new.1 in omega (arith, lt c.node new.0, level)
                    | inr other ↦ c.own m other.1
                  ];
                  majority = Most-map (λ p voted m there. elim (lane_cases away t lane p m there) [
                    | inl new ↦ let level = at_term (t p) m new.1 in inl (omega (arith, lt p new.0, level))
                    | inr other ↦ voted m other.1
                  ]) c.majority;
                }
          ];
      terms_rise = λ q l here a e front.
          elim (lane_cases away t lane q l here) [
            | inl new ↦ absurd (not_empty a l.log e front (no_log (t q) l new.1))
            | inr own ↦ s.terms_rise q l own.1 a e front
          ];
    }

-- ---- a group begins with these

opened_lane : (lane l : Lane) → In l (lanes (opened lane)) → l ≡ lane
opened_lane lane l here = elim here [ inl same ↦ same | inr before ↦ absurd before ]

-- lanes that support an audit are a start
pub lanes-start : (members : List ℕ) (lane : ℕ → Lane) (audit : List Entry)
    → ((q : ℕ) → (In q members → ⊥) → (lane q).log ≡ []) → IsSupported members (λ q l. l ≡ lane q) audit
    → IsStart members (λ q. opened (lane q)) audit
lanes-start members lane audit others s = record {
  noticed = λ q l here. subst (λ (x : Lane). (lane q).op ≤ x.op) (sym (opened_lane (lane q) l here)) (omega arith);
  older = λ q l here. absurd here;
  others = λ q out l here. subst (λ (x : Lane). x.log ≡ []) (sym (opened_lane (lane q) l here)) (others q out);
  supported = supported-fewer (λ q l here. opened_lane (lane q) l here) (front-refl audit) s;
}

pub read_log : (away : ℕ → Bool) (t : ℕ → ℕ) (lane : ℕ → Lane) (q : ℕ) → (lane q).log ≡ []
    → (read_lane away t lane q).log ≡ []
read_log away t lane q nothing = elim (read_cases away t lane q) [
  | inl new ↦ ap (λ (x : Lane). x.log) new.1
  | inr own ↦ subst (λ (x : Lane). x.log ≡ []) (sym own.1) nothing
]

pub assumed-start : (members : List ℕ) (away : ℕ → Bool) (t : ℕ → ℕ) (lane : ℕ → Lane) (audit : List Entry)
    → ((q : ℕ) → (In q members → ⊥) → (lane q).log ≡ []) → AreBelow away t lane
    → IsSupported members (λ q l. l ≡ lane q) audit
    → IsStart members (λ q. opened (read_lane away t lane q)) []
assumed-start members away t lane audit others below s =
    lanes-start members (read_lane away t lane) []
    (λ q out. read_log away t lane q (others q out)) (assumed-supports members away t lane audit below s)
