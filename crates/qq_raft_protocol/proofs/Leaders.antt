-- What a leader knows of its term, and that its log is only extended.
use Rattle.std.proofs.Common.{◌≡◌, ℕ, ◌≤◌, List, [], ◌∷◌, ◌++◌, length, None, refl, sym, ap, subst, ◌∙◌, arith, inl}
use Rattle.qq_base.specs.Fronts.{IsFront}
use Rattle.qq_base.proofs.Fronts.{front-nil, front-refl}
use Rattle.qq_base.proofs.Puts.{put-each}
use Rattle.qq_entry.specs.declared.command.Entry.{Entry}
use Rattle.qq_raft_protocol.specs.World.{Ack, World}
use Rattle.qq_raft_protocol.specs.World.Role.{Candidate, Leader}
use Rattle.qq_raft_protocol.specs.Facts.{add, In, Most, Point, Elects}
use Rattle.qq_raft_protocol.specs.Moves.{Allowed, after}
use Rattle.qq_raft_protocol.specs.Moves.Move.{Lead, Append}
use Rattle.qq_raft_protocol.proofs.Elections.{is_free}
use Rattle.qq_raft_protocol.proofs.Kept.{Kept, not_empty}

-- no acknowledgement of its term passes a leader's log
pub leader-acks : {members : List ℕ} {w : World} (q : ℕ) (x : Ack) → Kept members w → w.role q ≡ Leader
    → In x w.acks → x.term ≡ (w.member q).mine.term → x.upto ≤ length (w.member q).mine.log
leader-acks {w = w} q x k is said same =
    let upto : x.upto ≤ length (w.hist x.term) = (k.ack x.from x said refl).upto in
    let log : length (w.hist x.term) ≡ length (w.member q).mine.log =
    ap (λ (t : ℕ). length (w.hist t)) same ∙ ap length (k.leader q is).log in
    omega (arith, upto, log)

-- a candidate with a majority has no entry of its term yet
pub candidate-first : {members : List ℕ} {w : World} (q : ℕ) → Kept members w → w.role q ≡ Candidate
    → Most members (Elects w (w.member q).mine.term q) → (a : List Entry) (e : Entry)
    → IsFront (add a e) (w.member q).mine.log → e.term.0 ≡ (w.member q).mine.term → ⊥
candidate-first {w = w} q k is most a e p same =
    let t = (w.member q).mine.term in
    let free : w.lead t ≡ None = is_free q t (w.lead t) refl k most (k.candidate q is).other in
    let point : Point w a e = k.good q (w.member q).mine (inl refl) a e p in
    not_empty a (w.hist e.term.0) e point (ap w.hist same ∙ k.unled t free)

-- ---- leaders' logs

pub lead-extends : {members : List ℕ} {w : World} (i : ℕ) → Kept members w → Allowed members w (Lead i) → (t : ℕ)
    → IsFront (w.hist t) ((after w (Lead i)).hist t)
lead-extends {w = w} i k may t =
    let mine = (w.member i).mine in
    let free : w.lead mine.term ≡ None =
    is_free i mine.term (w.lead mine.term) refl k may.1 (k.candidate i may.0).other in
    put-each (λ j h. IsFront (w.hist j) h) mine.term mine.log w.hist
    (subst (λ x. IsFront x mine.log) (sym (k.unled mine.term free)) (front-nil mine.log))
    (λ j other. front-refl (w.hist j)) t

pub append-extends : {members : List ℕ} {w : World} (i : ℕ) (e : Entry) → Kept members w
    → Allowed members w (Append i e) → (t : ℕ) → IsFront (w.hist t) ((after w (Append i e)).hist t)
append-extends {w = w} i e k may t =
    let mine = (w.member i).mine in
    put-each (λ j h. IsFront (w.hist j) h) mine.term (add mine.log e) w.hist
    (record { rest = e ∷ []; is = ap (λ (x : List Entry). x ++ e ∷ []) (sym (k.leader i may.0).log) })
    (λ j other. front-refl (w.hist j)) t
