-- What a server writes of what was sent: nothing, where it has all of it; else its log becomes what was sent.
use Rattle.std.proofs.Common.{◌≡◌, suc, ◌+◌, true, cond, ◌&&◌, eqb, leb, List, [], ◌∷◌, ◌++◌, length, take, drop, refl, sym, ap, ◌∙◌, append_assoc, arith, inl, inr}
use Rattle.std.proofs.lemmas.Bool.{or_cases, and_parts, eqb-true, leb-true, eq-eqb}
use Rattle.std.proofs.lemmas.List.{append-nil, append_cancel_left, nil_from_length, length-take-le, take-append-drop, drop_all}
use Rattle.std.proofs.Math.Seq.{take-append-add}
use Rattle.qq_base.specs.Fronts.{IsFront}
use Rattle.qq_entry.specs.declared.command.Entry.{Entry}
use Rattle.qq_raft_protocol.specs.World.{Sent}
use Rattle.qq_raft_msg.specs.declared.rpc.AppendMsg.{AppendMsg}
use Rattle.qq_raft_model.specs.State.{term_at}
use Rattle.qq_raft_model.specs.Server.{is_match, agreed, has_agreed}
use Rattle.qq_raft_model.specs.Refines.{Sends}
use Rattle.qq_raft_model.proofs.Matches.{Match, agreed-same, front-matches, take-front}

module _ (m : AppendMsg) (x : Sent) (own : List Entry) (s : Sends m x) (match : Match own x.front)
    (matches : is_match m own ≡ true) where
  before_same : take m.prev_index.0 own ≡ s.before
  before_same =
      elim (or_cases (eqb m.prev_index.0 0)
      (leb m.prev_index.0 (length own) && eqb (term_at own m.prev_index.0) m.prev_term.0) matches) [
        | inl start ↦
            let zero : m.prev_index.0 ≡ 0 = eqb-true m.prev_index.0 0 start in
            let nothing : s.before ≡ [] = nil_from_length s.before (s.prev_index ∙ zero) in
            ap (λ i. take i own) zero ∙ sym nothing
        | inr both ↦
            let parts = and_parts (leb m.prev_index.0 (length own)) (eqb (term_at own m.prev_index.0) m.prev_term.0)
            both in
            let le = leb-true m.prev_index.0 (length own) parts.0 in
            let term = eqb-true (term_at own m.prev_index.0) m.prev_term.0 parts.1 in
            front-matches own x.front (take m.prev_index.0 own) s.before match (take-front m.prev_index.0 own)
            (record { rest = m.entries; is = s.front }) (length-take-le m.prev_index.0 own le ∙ sym s.prev_index)
            (term ∙ sym s.prev_term)
      ]

  pub own_is : own ≡ s.before ++ drop m.prev_index.0 own
  own_is =
      sym (take-append-drop m.prev_index.0 own) ∙ ap (λ t. t ++ drop m.prev_index.0 own) before_same

  agree : take (has_agreed m own) (drop m.prev_index.0 own) ≡ take (has_agreed m own) m.entries
  agree = agreed-same own x.front s.before m.entries (drop m.prev_index.0 own) match own_is s.front

  -- all is there
  pub all_there : drop (has_agreed m own) m.entries ≡ [] → IsFront x.front own
  all_there nothing =
      let behind = drop m.prev_index.0 own in
      let rest = drop (has_agreed m own) behind in
      let entries : take (has_agreed m own) behind ≡ m.entries =
      agree ∙ sym (append-nil (take (has_agreed m own) m.entries))
      ∙ ap (λ t. take (has_agreed m own) m.entries ++ t) (sym nothing)
      ∙ take-append-drop (has_agreed m own) m.entries in
      let split : behind ≡ m.entries ++ rest =
      sym (take-append-drop (has_agreed m own) behind) ∙ ap (λ t. t ++ rest) entries in
      record {
        rest = rest;
        is =
            own_is ∙ ap (λ t. s.before ++ t) split ∙ sym (append_assoc s.before m.entries rest)
            ∙ ap (λ t. t ++ rest) (sym s.front);
      }

  -- the log becomes what was sent
  pub becomes : (missing : List Entry) → drop (has_agreed m own) m.entries ≡ missing
      → take (m.prev_index.0 + has_agreed m own) own ++ missing ≡ x.front
  becomes missing is =
      let count = has_agreed m own in
      let behind = drop m.prev_index.0 own in
      ap (λ o. take (m.prev_index.0 + count) o ++ missing) own_is
      ∙ ap (λ i. take (i + count) (s.before ++ behind) ++ missing) (sym s.prev_index)
      ∙ ap (λ t. t ++ missing) (take-append-add s.before behind count)
      ∙ append_assoc s.before (take count behind) missing
      ∙ ap (λ t. s.before ++ (t ++ missing)) agree
      ∙ ap (λ t. s.before ++ (take count m.entries ++ t)) (sym is)
      ∙ ap (λ t. s.before ++ t) (take-append-drop count m.entries)
      ∙ sym s.front

agreed-all : (es rest : List Entry) → agreed es (es ++ rest) ≡ length es
agreed-all [] rest = refl
agreed-all (e ∷ es) rest =
    ap (λ b. cond b (suc (agreed es (es ++ rest))) 0) (eq-eqb e.term.0 e.term.0 refl)
    ∙ ap suc (agreed-all es rest)

no_entry : (e : Entry) (es : List Entry) → e ∷ es ≡ [] → ⊥
no_entry e es is = absurd cc

-- where something is missing, what was sent is no front of the log
pub differs : (m : AppendMsg) (x : Sent) (own : List Entry) (s : Sends m x) → own ≡ s.before ++ drop m.prev_index.0 own
    → (e : Entry) (es : List Entry) → drop (has_agreed m own) m.entries ≡ e ∷ es → IsFront x.front own → ⊥
differs m x own s own_is e es missing p =
    let behind = drop m.prev_index.0 own in
    let whole : s.before ++ behind ≡ s.before ++ (m.entries ++ p.rest) =
    sym own_is ∙ p.is ∙ ap (λ t. t ++ p.rest) s.front ∙ append_assoc s.before m.entries p.rest in
    let split : behind ≡ m.entries ++ p.rest = append_cancel_left s.before behind (m.entries ++ p.rest) whole in
    let count : has_agreed m own ≡ length m.entries =
    ap (agreed m.entries) split ∙ agreed-all m.entries p.rest in
    no_entry e es (sym missing ∙ drop_all (has_agreed m own) m.entries (omega (arith, count)))
