-- Whether the logs of all members support an audit.
use Rattle.std.proofs.Common.{◌≡◌, ℕ, ◌≤◌, Bool, ◌&&◌, List, [], ◌∷◌, refl, sym, ap, subst, ◌∙◌, inl, inr}
use Rattle.std.specs.Bool.{Decides}
use Rattle.std.proofs.lemmas.Bool.Decides.{Decides-and, Decides-at, Decides-like}
use Rattle.qq_base.specs.Fronts.{IsFront}
use Rattle.qq_base.specs.declared.ids.NodeId.{NodeId}
use Rattle.qq_entry.specs.declared.command.Entry.{Entry}
use Rattle.qq_raft_protocol.specs.World.{Lane}
use Rattle.qq_raft_protocol.specs.Facts.{add, In, Within}
use Rattle.qq_raft_protocol.proofs.Kept.{not_empty}
use Rattle.qq_raft_protocol.proofs.Lists.{In-cases, In-map}
use Rattle.qq_agree.specs.Support.{HasElection, HaveAll, LogsMatch, SupportAudit, TermsRise, number, numbers}
use Rattle.qq_agree.specs.Tests.{all_have_elections, all_match, all_rise, have_elections, logs_match, matches_each, support_audit, terms_rise}
use Rattle.qq_agree.proofs.Elections.{have_elections-decides}
use Rattle.qq_agree.proofs.Matches.{logs_match-decides, match-self, match-swap}
use Rattle.qq_agree.proofs.Rises.{Rise, rise-log, terms_rise-decides}
use Rattle.qq_agree.proofs.Tests.{Decides-then, list_all-decides}

-- ---- of all members

abbrev AllRise : List NodeId → (ℕ → Lane) → Type 0
AllRise nodes lane = (n : NodeId) → In n nodes → TermsRise (lane n.0)

abbrev AllMatch : List NodeId → (ℕ → Lane) → Type 0
AllMatch nodes lane = (n m : NodeId) → In n nodes → In m nodes → LogsMatch (lane n.0).log (lane m.0).log

abbrev AllHaveElections : List NodeId → (ℕ → Lane) → Type 0
AllHaveElections nodes lane =
    (n : NodeId) → In n nodes → (e : Entry) → In e (lane n.0).log → HasElection nodes lane e.term.0

all_rise-decides : (nodes : List NodeId) (lane : ℕ → Lane) → Decides (all_rise lane nodes) (AllRise nodes lane)
all_rise-decides nodes lane =
    list_all-decides (λ (n : NodeId). terms_rise (lane n.0)) (λ (n : NodeId). TermsRise (lane n.0)) nodes
    (λ n here. terms_rise-decides (lane n.0))

rise-all : (nodes : List NodeId) (lane : ℕ → Lane) → AllRise nodes lane → (n : NodeId) → In n nodes
    → Rise (lane n.0).log
rise-all nodes lane all n here = rise-log (lane n.0) ((terms_rise-decides (lane n.0)).1 (all n here))

all_match-more : (n : NodeId) (nodes : List NodeId) (lane : ℕ → Lane)
    → ((m : NodeId) → In m nodes → LogsMatch (lane n.0).log (lane m.0).log) → AllMatch nodes lane
    → AllMatch (n ∷ nodes) lane
all_match-more n nodes lane first rest p q (inl here) (inl there) =
    subst (λ (x : NodeId). LogsMatch (lane p.0).log (lane x.0).log) (here ∙ sym there) (match-self (lane p.0).log)
all_match-more n nodes lane first rest p q (inl here) (inr there) =
    subst (λ (x : NodeId). LogsMatch (lane x.0).log (lane q.0).log) (sym here) (first q there)
all_match-more n nodes lane first rest p q (inr here) (inl there) =
    subst (λ (x : NodeId). LogsMatch (lane p.0).log (lane x.0).log) (sym there)
    (match-swap (lane n.0).log (lane p.0).log (first p here))
all_match-more n nodes lane first rest p q (inr here) (inr there) = rest p q here there

all_match-decides : (nodes : List NodeId) (lane : ℕ → Lane) → ((n : NodeId) → In n nodes → Rise (lane n.0).log)
    → Decides (all_match lane nodes) (AllMatch nodes lane)
all_match-decides [] lane rise = (λ pass p q here there. absurd here, λ h. refl)
all_match-decides (n ∷ nodes) lane rise =
    Decides-like (all_match lane (n ∷ nodes)) (λ h. all_match-more n nodes lane h.0 h.1)
    (λ all. (λ m here. all n m (inl refl) (inr here), λ p q here there. all p q (inr here) (inr there)))
    (Decides-and (matches_each lane (lane n.0).log nodes) (all_match lane nodes)
    (list_all-decides (λ (m : NodeId). logs_match (lane n.0).log (lane m.0).log)
    (λ (m : NodeId). LogsMatch (lane n.0).log (lane m.0).log) nodes
    (λ m here. logs_match-decides (lane n.0).log (lane m.0).log (rise n (inl refl)) (rise m (inr here))))
    (all_match-decides nodes lane (λ m here. rise m (inr here))))

all_have_elections-decides : (nodes : List NodeId) (lane : ℕ → Lane)
    → Decides (all_have_elections lane nodes nodes) (AllHaveElections nodes lane)
all_have_elections-decides nodes lane =
    list_all-decides (λ (n : NodeId). have_elections nodes lane (lane n.0).log)
    (λ (n : NodeId). (e : Entry) → In e (lane n.0).log → HasElection nodes lane e.term.0) nodes
    (λ n here. have_elections-decides nodes lane (lane n.0).log)

-- ---- and of nobody else

-- what holds of each member's lane, holds of each that has an entry
of-members : (P : Lane → Type 0) (nodes : List NodeId) (lane : ℕ → Lane) → ((n : NodeId) → In n nodes → P (lane n.0))
    → (k : ℕ) → In k (numbers nodes) → P (lane k)
of-members P nodes lane each k here =
    let m = In-map number k nodes here in
    subst (λ (i : ℕ). P (lane i)) (sym m.is) (each m.item m.here)

no-entry : {A : Type 0} (nodes : List NodeId) (lane : ℕ → Lane) → HaveAll nodes lane → (k : ℕ)
    → (In k (numbers nodes) → ⊥) → (a : List Entry) (e : Entry) → IsFront (add a e) (lane k).log → A
no-entry nodes lane have k away a e front = absurd (not_empty a (lane k).log e front (have k away))

rise-of : (nodes : List NodeId) (lane : ℕ → Lane) → HaveAll nodes lane → AllRise nodes lane → (k : ℕ)
    → TermsRise (lane k)
rise-of nodes lane have all k a e front =
    elim (In-cases k (numbers nodes)) [
      | inl here ↦ of-members TermsRise nodes lane all k here a e front
      | inr away ↦ no-entry nodes lane have k away a e front
    ]

match-of : (nodes : List NodeId) (lane : ℕ → Lane) → HaveAll nodes lane → AllMatch nodes lane → (p q : ℕ)
    → LogsMatch (lane p).log (lane q).log
match-of nodes lane have all p q a b e f front back same =
    elim (In-cases p (numbers nodes)) [
      | inl here ↦ elim (In-cases q (numbers nodes)) [
        | inl there ↦
            of-members (λ (l : Lane). LogsMatch l.log (lane q).log) nodes lane
            (λ n own. of-members (λ (l : Lane). LogsMatch (lane n.0).log l.log) nodes lane
            (λ m other. all n m own other) q there)
            p here a b e f front back same
        | inr away ↦ no-entry nodes lane have q away b f back
      ]
      | inr away ↦ no-entry nodes lane have p away a e front
    ]

election-of : (nodes : List NodeId) (lane : ℕ → Lane) → HaveAll nodes lane → AllHaveElections nodes lane → (k : ℕ)
    → (e : Entry) → In e (lane k).log → HasElection nodes lane e.term.0
election-of nodes lane have all k e inside =
    elim (In-cases k (numbers nodes)) [
      | inl here ↦
          of-members (λ (l : Lane). (f : Entry) → In f l.log → HasElection nodes lane f.term.0) nodes lane all k here
          e inside
      | inr away ↦ absurd (subst (In e) (have k away) inside)
    ]

-- ---- an audit without entries

no-front : {A : Type 0} (x a : List Entry) (e : Entry) → IsFront x [] → x ≡ add a e → A
no-front x a e front is = absurd (not_empty a [] e (subst (λ (z : List Entry). IsFront z []) is front) refl)

supported : (nodes : List NodeId) (lane : ℕ → Lane) → HaveAll nodes lane
    → AllRise nodes lane × (AllMatch nodes lane × AllHaveElections nodes lane) → SupportAudit nodes lane
supported nodes lane have all = record {
  logs_match = λ p q l m here there a b e f front back same.
      match-of nodes lane have all.1.0 p q a b e f
      (subst (λ (x : Lane). IsFront (add a e) x.log) here front)
      (subst (λ (x : Lane). IsFront (add b f) x.log) there back) same;
  carried = λ x front a e is. no-front x a e front is;
  elected = λ q l here e inside.
      election-of nodes lane have all.1.1 q e (subst (λ (x : Lane). In e x.log) here inside);
  terms_rise = λ q l here a e front.
      subst (λ (x : Lane). Within e.term.0 a × (e.term.0 ≤ x.term)) (sym here)
      (rise-of nodes lane have all.0 q a e (subst (λ (x : Lane). IsFront (add a e) x.log) here front));
}

consists : (nodes : List NodeId) (lane : ℕ → Lane) → SupportAudit nodes lane
    → AllRise nodes lane × (AllMatch nodes lane × AllHaveElections nodes lane)
consists nodes lane s = (
  λ n here. s.terms_rise n.0 (lane n.0) refl,
  (
    λ n m here there. s.logs_match n.0 m.0 (lane n.0) (lane m.0) refl refl,
    λ n here. s.elected n.0 (lane n.0) refl,
  ),
)

pub support_audit-decides : (nodes : List NodeId) (lane : ℕ → Lane) → HaveAll nodes lane
    → Decides (support_audit nodes lane) (SupportAudit nodes lane)
support_audit-decides nodes lane have =
    Decides-like (support_audit nodes lane) (supported nodes lane have) (consists nodes lane)
    (Decides-then (all_rise lane nodes) (all_match lane nodes && all_have_elections lane nodes nodes)
    (all_rise-decides nodes lane)
    (λ all. Decides-and (all_match lane nodes) (all_have_elections lane nodes nodes)
    (all_match-decides nodes lane (rise-all nodes lane all)) (all_have_elections-decides nodes lane)))

pub audit-known : (nodes : List NodeId) (lane : ℕ → Lane) (r a b d : Bool) → a ≡ all_rise lane nodes
    → b ≡ all_match lane nodes → d ≡ all_have_elections lane nodes nodes → r ≡ (a && (b && d)) → HaveAll nodes lane
    → Decides r (SupportAudit nodes lane)
audit-known nodes lane r a b d first second third is have =
    Decides-at r (support_audit nodes lane)
    (is ∙ (ap (λ x. x && (b && d)) first
    ∙ (ap (λ x. all_rise lane nodes && (x && d)) second
    ∙ ap (λ x. all_rise lane nodes && (all_match lane nodes && x)) third)))
    (support_audit-decides nodes lane have)
