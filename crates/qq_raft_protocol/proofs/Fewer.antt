-- Lanes that are fewer support what all support, and disks that are left are a start.
use Rattle.std.proofs.Common.{◌≡◌, ℕ, ◌≤◌, List, [], refl, sym, ap, subst, arith, inl, inr}
use Rattle.qq_base.specs.Fronts.{IsFront}
use Rattle.qq_base.proofs.Fronts.{front-refl, front-trans}
use Rattle.qq_entry.specs.declared.command.Entry.{Entry}
use Rattle.qq_raft_protocol.specs.World.{Lane, World, lanes, no_lane, new_member, opened}
use Rattle.qq_raft_protocol.specs.Facts.{In}
use Rattle.qq_raft_protocol.specs.Safe.{IsSafe, IsSupported}
use Rattle.qq_raft_protocol.specs.Starts.{IsStart}
use Rattle.qq_raft_protocol.proofs.Kept.{not_empty}
use Rattle.qq_raft_protocol.proofs.Majorities.{Most-map}

pub supported-fewer : {members : List ℕ} {more fewer : ℕ → Lane → Type 0} {first audit : List Entry}
    → ((q : ℕ) (l : Lane) → fewer q l → more q l) → IsFront first audit → IsSupported members more audit
    → IsSupported members fewer first
supported-fewer f front s =
    record {
      logs_match = λ p q l m here there. s.logs_match p q l m (f p l here) (f q m there);
      carried = λ x inside a e is.
          let c = s.carried x (front-trans inside front) a e is in
          record {
            before = c.before;
            entry = c.entry;
            front = c.front;
            majority = Most-map (λ q has l here. has l (f q l here)) c.majority;
            later = λ q l here. c.later q l (f q l here);
          };
      elected = λ q l here e inside.
          let c = s.elected q l (f q l here) e inside in
          record {
            node = c.node;
            own = λ m there. c.own m (f c.node m there);
            majority = Most-map (λ q voted m there. voted m (f q m there)) c.majority;
          };
      terms_rise = λ q l here. s.terms_rise q l (f q l here);
    }

pub fewer-support : (members : List ℕ) (fewer more : ℕ → List Lane) (first audit : List Entry)
    → ((q : ℕ) (l : Lane) → In l (fewer q) → In l (more q)) → IsFront first audit
    → IsSupported members (λ q l. In l (more q)) audit → IsSupported members (λ q l. In l (fewer q)) first
fewer-support members fewer more first audit f front s = supported-fewer f front s

-- the one lane of an opened disk
opened_lane : (lane l : Lane) → In l (lanes (opened lane)) → l ≡ lane
opened_lane lane l here = elim here [ inl same ↦ same | inr before ↦ absurd before ]

new_log : (l : Lane) → In l (lanes new_member) → l.log ≡ []
new_log l here = ap (λ (x : Lane). x.log) (opened_lane no_lane l here)

pub new-start : (members : List ℕ) → IsStart members (λ q. new_member) []
new-start members = record {
  noticed = λ q l here. omega arith;
  older = λ q l here. absurd here;
  others = λ q away l here. new_log l here;
  supported = record {
    logs_match = λ p q l m here there a b e f first. absurd (not_empty a l.log e first (new_log l here));
    carried = λ x front a e is. absurd (not_empty a [] e (subst (λ (z : List Entry). IsFront z []) is front) refl);
    elected = λ q l here e inside. absurd (subst (In e) (new_log l here) inside);
    terms_rise = λ q l here a e front. absurd (not_empty a l.log e front (new_log l here));
  };
}

pub left-start : (members : List ℕ) (w : World) (lane : ℕ → Lane) → IsSafe members w
    → ((q : ℕ) → In (lane q) (lanes (w.member q))) → ((q : ℕ) → (In q members → ⊥) → (lane q).log ≡ [])
    → IsStart members (λ q. opened (lane q)) w.audit
left-start members w lane safe left others = record {
  noticed = λ q l here. subst (λ (x : Lane). (lane q).op ≤ x.op) (sym (opened_lane (lane q) l here)) (omega arith);
  older = λ q l here. absurd here;
  others = λ q away l here. subst (λ (x : Lane). x.log ≡ []) (sym (opened_lane (lane q) l here)) (others q away);
  supported =
      supported-fewer
      (λ q l here. subst (λ (x : Lane). In x (lanes (w.member q))) (sym (opened_lane (lane q) l here)) (left q))
      (front-refl w.audit) safe.supported;
}
