-- What was sent matches every log.
use Rattle.std.proofs.Common.{◌≡◌, ◌⊎◌, ℕ, suc, eqb, List, [], ◌∷◌, ◌++◌, length, take, drop, refl, sym, ap, subst, ◌∙◌, append_assoc, arith, inl, inr}
use Rattle.std.proofs.lemmas.Bool.{cond_both, eqb-true}
use Rattle.std.proofs.lemmas.List.{length-append, nil_from_length, take-append-drop}
use Rattle.qq_base.specs.Fronts.{IsFront}
use Rattle.qq_base.proofs.Fronts.{either-same}
use Rattle.qq_entry.specs.declared.command.Entry.{Entry}
use Rattle.qq_raft_protocol.specs.Facts.{add, In}
use Rattle.qq_raft_protocol.specs.Moves.{last_term}
use Rattle.qq_raft_protocol.specs.World.{Sent, World}
use Rattle.qq_raft_protocol.proofs.Logs.{last_of, last_term-add}
use Rattle.qq_raft_protocol.proofs.Shades.{shaded-sent}
use Rattle.qq_raft_model.specs.Refines.{IsReached}
use Rattle.qq_raft_model.specs.Server.{agreed}
use Rattle.qq_raft_model.proofs.Reached.{shaded-there}

-- ---- log matching

-- where entries of one term stand in two logs, one log begins the other up to them
abbrev pub Match : List Entry → List Entry → Type 0
Match own log =
    (a b : List Entry) (e f : Entry) → IsFront (add a e) own → IsFront (add b f) log → e.term.0 ≡ f.term.0
    → IsFront (add a e) (add b f) ⊎ IsFront (add b f) (add a e)

pub sent-matches : {members : List ℕ} {w : World} (k : ℕ) (x : Sent) → IsReached members w
    → In x w.sents → Match (w.member k).mine.log x.front
sent-matches {members} {w} k x reached said =
    shaded-sent (shaded-there members w reached) k (w.member k).mine x (inl refl) said

-- ---- entries of one term at one index are the same

same_ends : (p : List Entry) (e f : Entry) → p ++ e ∷ [] ≡ p ++ f ∷ [] → e ≡ f
same_ends [] e f is = cc
same_ends (x ∷ p) e f is =
    let rest : p ++ e ∷ [] ≡ p ++ f ∷ [] = cc in
    same_ends p e f rest

pub same_entry : (own log : List Entry) (p xs ys : List Entry) (e f : Entry) → Match own log → own ≡ p ++ e ∷ xs
    → log ≡ p ++ f ∷ ys → e.term.0 ≡ f.term.0 → e ≡ f
same_entry own log p xs ys e f match in_own in_log same =
    let first : IsFront (add p e) own = record { rest = xs; is = in_own ∙ sym (append_assoc p (e ∷ []) xs) } in
    let second : IsFront (add p f) log = record { rest = ys; is = in_log ∙ sym (append_assoc p (f ∷ []) ys) } in
    same_ends p e f (either-same (match p p e f first second same)
    (omega (arith, length-append p (e ∷ []), length-append p (f ∷ []))))

-- entries whose terms agree are the same
pub agreed-same : (own log : List Entry) (p ys xs : List Entry) → Match own log → own ≡ p ++ xs → log ≡ p ++ ys
    → take (agreed ys xs) xs ≡ take (agreed ys xs) ys
agreed-same own log p [] xs match in_own in_log = refl
agreed-same own log p (y ∷ ys) [] match in_own in_log = refl
agreed-same own log p (y ∷ ys) (x ∷ xs) match in_own in_log =
    cond_both (eqb y.term.0 x.term.0) (suc (agreed ys xs)) 0 (λ n. take n (x ∷ xs) ≡ take n (y ∷ ys))
    (λ e.
    let same : x ≡ y = same_entry own log p xs ys x y match in_own in_log (sym (eqb-true y.term.0 x.term.0 e)) in
    let rest =
    agreed-same own log (p ++ x ∷ []) ys xs match (in_own ∙ sym (append_assoc p (x ∷ []) xs))
    (in_log ∙ ap (λ z. p ++ z ∷ ys) (sym same) ∙ sym (append_assoc p (x ∷ []) ys)) in
    ap (λ t. x ∷ t) rest ∙ ap (λ z. z ∷ take (agreed ys xs) ys) same)
    (λ _. refl)

-- ---- the entry before the new ones

-- two fronts that are as long and end in entries of one term
pub front-matches : (own log a b : List Entry) → Match own log → IsFront a own → IsFront b log
    → length a ≡ length b → last_term a ≡ last_term b → a ≡ b
front-matches own log a b match p q long same =
    elim (last_of a) [
      | inl nothing ↦
          nothing ∙ sym (nil_from_length b (omega (arith, long, ap length nothing)))
      | inr l ↦ elim (last_of b) [
        | inl nothing ↦
            nil_from_length a (omega (arith, long, ap length nothing)) ∙ sym nothing
        | inr m ↦
            let term : l.entry.term.0 ≡ m.entry.term.0 =
            sym (ap last_term l.is ∙ last_term-add l.before l.entry) ∙ same ∙ ap last_term m.is
            ∙ last_term-add m.before m.entry in
            let first = subst (λ x. IsFront x own) l.is p in
            let second = subst (λ x. IsFront x log) m.is q in
            either-same
            (subst (λ x. IsFront x b ⊎ IsFront b x) (sym l.is)
            (subst (λ x. IsFront (add l.before l.entry) x ⊎ IsFront x (add l.before l.entry)) (sym m.is)
            (match l.before m.before l.entry m.entry first second term))) long
      ]
    ]

pub take-front : (n : ℕ) (log : List Entry) → IsFront (take n log) log
take-front n log = record { rest = drop n log; is = sym (take-append-drop n log) }
