-- A server acknowledges what was sent, and learns that entries are committed.
use Rattle.std.proofs.Common.{◌≡◌, ℕ, Bool, true, false, cond, ltb, List, length, refl, ap, ◌∙◌, arith, inl, inr}
use Rattle.qq_base.proofs.Puts.{put-same, put-other}
use Rattle.qq_entry.specs.declared.command.Entry.{Entry}
use Rattle.qq_raft_protocol.specs.Moves.{after, longer}
use Rattle.qq_raft_protocol.specs.Moves.Move.{Reply, Learn}
use Rattle.qq_raft_protocol.specs.World.{Sent, World}
use Rattle.qq_raft_model.specs.State.{Server}
use Rattle.qq_raft_model.specs.Server.{learn}
use Rattle.qq_raft_model.specs.Refines.{Stands, OnlyMoves}
use Rattle.qq_raft_model.proofs.Later.{there-later, said-later, way-later, elects-later, matched-later, stands-later}

pub reply-only : (w : World) (k : ℕ) (x : Sent) → OnlyMoves k w (after w (Reply k x))
reply-only w k x = record {
  later = record {
    asks = λ y here. here;
    grants = λ y here. here;
    acks = λ y here. inr here;
    sents = λ y here. here;
    noticed = λ q. omega arith;
  };
  lanes = λ l here le. here;
  member = λ q other. refl;
  role = λ q other. refl;
  done = λ q other. refl;
}

pub reply-stands : {w : World} {k : ℕ} {s : Server} (x : Sent) → Stands w k s → Stands (after w (Reply k x)) k s
reply-stands {w = w} {k = k} x st = stands-later (reply-only w k x).later refl refl refl st

pub learn-only : (w : World) (k : ℕ) (x : Sent) (z : List Entry) → OnlyMoves k w (after w (Learn k x z))
learn-only w k x z = record {
  later = record {
    asks = λ y here. here;
    grants = λ y here. here;
    acks = λ y here. here;
    sents = λ y here. here;
    noticed = λ q. omega arith;
  };
  lanes = λ l here le. here;
  member = λ q other. refl;
  role = λ q other. refl;
  done = λ q other. put-other k (longer (w.done k) z) w.done q other;
}

cond_length : (b : Bool) (x y : List Entry) → length (cond b y x) ≡ cond b (length y) (length x)
cond_length true x y = refl
cond_length false x y = refl

-- the longer of two lists is as long as the greater of their lengths
pub longer-length : (x y : List Entry) (i j : ℕ) → length x ≡ i → length y ≡ j → length (longer x y) ≡ cond (ltb i j) j i
longer-length x y i j first second =
    cond_length (ltb (length x) (length y)) x y
    ∙ ap (λ n. cond (ltb n (length y)) (length y) n) first
    ∙ ap (λ n. cond (ltb i n) n i) second

pub learn-stands : {w : World} {k : ℕ} {s : Server} (x : Sent) (z : List Entry) (index : ℕ) → Stands w k s
    → length z ≡ index → Stands (after w (Learn k x z)) k (learn index s)
learn-stands {w = w} {k = k} {s = s} x z index st long =
    let g = (learn-only w k x z).later in
    record {
      node = st.node;
      lane = st.lane;
      noticed = st.noticed;
      role = st.role;
      commit =
          ap length (put-same k (longer (w.done k) z) w.done)
          ∙ longer-length (w.done k) z s.commit index st.commit long;
      own_vote = λ is. there-later g.grants (st.own_vote is);
      votes = λ is p here granted. elects-later g (st.votes is p here granted);
      matches = λ is p here. elim (st.matches is p here) [ inl zero ↦ inl zero | inr y ↦ inr (matched-later g y) ];
      within = st.within;
      itself = st.itself;
      waiting = λ y here. said-later g (st.waiting y here);
      out = λ r here. way-later g (st.out r here);
    }
