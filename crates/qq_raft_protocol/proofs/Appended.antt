-- Where an entry of a log comes from.
use Rattle.std.proofs.Common.{◌≡◌, ◌⊎◌, ℕ, List, [], ◌∷◌, refl, sym, ap, subst, ◌∙◌, inl, inr}
use Rattle.qq_base.specs.Fronts.{IsFront}
use Rattle.qq_base.proofs.Fronts.{front-trans}
use Rattle.qq_base.proofs.Puts.{put-each}
use Rattle.qq_entry.specs.declared.command.Entry.{Entry}
use Rattle.qq_raft_protocol.specs.World.{Lane, Member, World, lanes, start_world}
use Rattle.qq_raft_protocol.specs.Facts.{add, In, Point}
use Rattle.qq_raft_protocol.specs.Moves.{Move, after, Allowed, run, AreAllowed}
use Rattle.qq_raft_protocol.specs.Moves.Move.{Write, Stand, Vote, Lead, Append, Send, Reply, Learn, Commit, Notice, Restart, Follow}
use Rattle.qq_raft_protocol.specs.Starts.{IsStart, WasThere, IsAppended}
use Rattle.qq_raft_protocol.proofs.Kept.{Kept, not_empty}
use Rattle.qq_raft_protocol.proofs.Logs.{front-of_add, add-same}
use Rattle.qq_raft_protocol.proofs.Shades.{Shaded, shade, next, shaded-run, shaded-start}
use Rattle.qq_raft_protocol.proofs.Starts.{point_place}

append-back : {members : List ℕ} {w : World} (i : ℕ) (new : Entry) → Kept members w
    → Allowed members w (Append i new) → (a : List Entry) (e : Entry) → Point (after w (Append i new)) a e
    → Point w a e ⊎ ((a ≡ (w.member i).mine.log) × (e ≡ new))
append-back {w = w} i new k may a e p =
    let mine = (w.member i).mine in
    put-each (λ j h. j ≡ e.term.0 → IsFront (add a e) h → Point w a e ⊎ ((a ≡ mine.log) × (e ≡ new))) mine.term
    (add mine.log new) w.hist
    (λ same q. elim (front-of_add (add a e) mine.log new q) [
      | inl before ↦ inl (k.good i mine (inl refl) a e before)
      | inr whole ↦ inr (add-same a mine.log e new whole)
    ])
    (λ j other same q. inl (subst (λ (n : ℕ). IsFront (add a e) (w.hist n)) same q)) e.term.0 refl p

lead-back : {members : List ℕ} {w : World} (i : ℕ) → Kept members w → (a : List Entry) (e : Entry)
    → Point (after w (Lead i)) a e → Point w a e
lead-back {w = w} i k a e p =
    let mine = (w.member i).mine in
    put-each (λ j h. j ≡ e.term.0 → IsFront (add a e) h → Point w a e) mine.term mine.log w.hist
    (λ same q. k.good i mine (inl refl) a e q)
    (λ j other same q. subst (λ (n : ℕ). IsFront (add a e) (w.hist n)) same q) e.term.0 refl p

-- an entry of a term's log stood there before a move, or the move added it
point-back : {members : List ℕ} {w : World} (m : Move) (s : Shaded members w) → Allowed members w m
    → (moves : List Move) (a : List Entry) (e : Entry) → Point (after (shade s) m) a e
    → Point (shade s) a e ⊎ IsAppended w (m ∷ moves) a e
point-back (Append i new) s may moves a e p =
    elim (append-back i new s.kept may a e p) [
      | inl before ↦ inl before
      | inr is ↦ inr (record {
        first = [];
        node = i;
        rest = moves;
        is = ap (λ (x : Entry). Append i x ∷ moves) (sym is.1);
        leads = may.0;
        term = ap (λ (x : Entry). x.term.0) is.1 ∙ may.1;
        log = sym is.0;
      })
    ]
point-back (Lead i) s may moves a e p = inl (lead-back i s.kept a e p)
point-back (Write i term vote log) s may moves a e p = inl p
point-back (Stand i) s may moves a e p = inl p
point-back (Vote i ask) s may moves a e p = inl p
point-back (Send i front done) s may moves a e p = inl p
point-back (Reply i sent) s may moves a e p = inl p
point-back (Learn i sent x) s may moves a e p = inl p
point-back (Commit i before entry) s may moves a e p = inl p
point-back (Notice i op) s may moves a e p = inl p
point-back (Restart i lane) s may moves a e p = inl p
point-back (Follow i) s may moves a e p = inl p

point-run : {members : List ℕ} (moves : List Move) (w : World) (s : Shaded members w)
    (may : AreAllowed members w moves) (a : List Entry) (e : Entry) → Point (shade (shaded-run moves w s may)) a e
    → Point (shade s) a e ⊎ IsAppended w moves a e
point-run [] w s may a e p = inl p
point-run (m ∷ moves) w s may a e p =
    elim (point-run moves (after w m) (next m s may.0) may.1 a e p) [
      | inl here ↦ point-back m s may.0 moves a e here
      | inr x ↦ inr (record {
        first = m ∷ x.first;
        node = x.node;
        rest = x.rest;
        is = ap (λ (z : List Move). m ∷ z) x.is;
        leads = x.leads;
        term = x.term;
        log = x.log;
      })
    ]

comes-from : {members : List ℕ} {member : ℕ → Member} {audit : List Entry} (moves : List Move)
    (st : IsStart members member audit) (may : AreAllowed members (start_world member audit) moves) (a : List Entry)
    (e : Entry) → Point (shade (shaded-run moves (start_world member audit) (shaded-start st) may)) a e
    → WasThere members member a e ⊎ IsAppended (start_world member audit) moves a e
comes-from {member = member} {audit = audit} moves st may a e p =
    elim (point-run moves (start_world member audit) (shaded-start st) may a e p) [
      | inl there ↦ inl (point_place a e st there)
      | inr x ↦ inr x
    ]

pub lane-comes : (members : List ℕ) (member : ℕ → Member) (audit : List Entry) (moves : List Move) (q : ℕ)
    (lane : Lane) (a : List Entry) (e : Entry) → IsStart members member audit
    → AreAllowed members (start_world member audit) moves
    → In lane (lanes ((run (start_world member audit) moves).member q)) → IsFront (add a e) lane.log
    → WasThere members member a e ⊎ IsAppended (start_world member audit) moves a e
lane-comes members member audit moves q lane a e st may here front =
    let s = shaded-run moves (start_world member audit) (shaded-start st) may in
    comes-from moves st may a e (s.kept.good q lane here a e front)

pub audit-comes : (members : List ℕ) (member : ℕ → Member) (audit : List Entry) (moves : List Move)
    (a : List Entry) (e : Entry) → IsStart members member audit
    → AreAllowed members (start_world member audit) moves
    → IsFront (add a e) (run (start_world member audit) moves).audit
    → WasThere members member a e ⊎ IsAppended (start_world member audit) moves a e
audit-comes members member audit moves a e st may front =
    let v = run (start_world member audit) moves in
    let s = shaded-run moves (start_world member audit) (shaded-start st) may in
    elim s.kept.audit [
      | inl nothing ↦ absurd (not_empty a v.audit e front nothing)
      | inr c ↦
          comes-from moves st may a e
          (s.kept.hist_good c.entry.term.0 a e (front-trans front (front-trans c.front c.point)))
    ]
