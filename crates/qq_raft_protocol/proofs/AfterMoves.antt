-- The invariant holds after each move, the audit and the leaders' logs only grow, and a term's leader stays.
use Rattle.std.proofs.Common.{◌≡◌, ℕ, List, Some}
use Rattle.qq_base.specs.Fronts.{IsFront}
use Rattle.qq_base.proofs.Fronts.{front-refl}
use Rattle.qq_raft_protocol.specs.World.{World}
use Rattle.qq_raft_protocol.specs.Facts.{add}
use Rattle.qq_raft_protocol.specs.Moves.{Move, after, Allowed}
use Rattle.qq_raft_protocol.specs.Moves.Move.{Write, Stand, Vote, Lead, Append, Send, Reply, Learn, Commit, Notice, Restart, Follow}
use Rattle.qq_raft_protocol.proofs.Dones.{kept-follow, kept-send, kept-learn, kept-commit, audit-learned, learn-settled, commit-settled}
use Rattle.qq_raft_protocol.proofs.Elections.{kept-stand, kept-lead, lead-stays}
use Rattle.qq_raft_protocol.proofs.Kept.{Kept}
use Rattle.qq_raft_protocol.proofs.Leaders.{lead-extends, append-extends}
use Rattle.qq_raft_protocol.proofs.Leads.{kept-append}
use Rattle.qq_raft_protocol.proofs.Restarts.{kept-notice, kept-restart}
use Rattle.qq_raft_protocol.proofs.Votes.{kept-vote, kept-reply}
use Rattle.qq_raft_protocol.proofs.Writes.{kept-write}

pub kept-after : {members : List ℕ} {w : World} (m : Move) → Kept members w → Allowed members w m
    → Kept members (after w m)
kept-after (Write i term vote log) k may = kept-write i term vote log k may
kept-after (Stand i) k may = kept-stand i k
kept-after (Vote i ask) k may = kept-vote i ask k may
kept-after (Lead i) k may = kept-lead i k may
kept-after (Append i entry) k may = kept-append i entry k may
kept-after (Send i front done) k may = kept-send i front done k may
kept-after (Reply i sent) k may = kept-reply i sent k may
kept-after (Learn i sent done) k may = kept-learn i sent done k may
kept-after (Commit i before entry) k may = kept-commit i before entry k may
kept-after (Notice i op) k may = kept-notice i op k may
kept-after (Restart i lane) k may = kept-restart i lane k may
kept-after (Follow i) k may = kept-follow i k

-- ---- what stays

pub audit-after : {members : List ℕ} {w : World} (m : Move) → Kept members w → Allowed members w m
    → IsFront w.audit (after w m).audit
audit-after {w = w} (Learn i sent x) k may = audit-learned i x k (learn-settled i sent x k may)
audit-after {w = w} (Commit i a e) k may = audit-learned i (add a e) k (commit-settled i a e k may)
audit-after {w = w} (Write i term vote log) k may = front-refl w.audit
audit-after {w = w} (Stand i) k may = front-refl w.audit
audit-after {w = w} (Vote i ask) k may = front-refl w.audit
audit-after {w = w} (Lead i) k may = front-refl w.audit
audit-after {w = w} (Append i entry) k may = front-refl w.audit
audit-after {w = w} (Send i front done) k may = front-refl w.audit
audit-after {w = w} (Reply i sent) k may = front-refl w.audit
audit-after {w = w} (Notice i op) k may = front-refl w.audit
audit-after {w = w} (Restart i lane) k may = front-refl w.audit
audit-after {w = w} (Follow i) k may = front-refl w.audit

pub lead-after : {members : List ℕ} {w : World} (m : Move) → Kept members w → Allowed members w m → (t c : ℕ)
    → w.lead t ≡ Some c → (after w m).lead t ≡ Some c
lead-after (Lead i) k may t c lead = lead-stays i k may t c lead
lead-after _ k may t c lead = lead

pub hist-after : {members : List ℕ} {w : World} (m : Move) → Kept members w → Allowed members w m → (t : ℕ)
    → IsFront (w.hist t) ((after w m).hist t)
hist-after (Lead i) k may t = lead-extends i k may t
hist-after (Append i e) k may t = append-extends i e k may t
hist-after {w = w} (Write i term vote log) k may t = front-refl (w.hist t)
hist-after {w = w} (Stand i) k may t = front-refl (w.hist t)
hist-after {w = w} (Vote i ask) k may t = front-refl (w.hist t)
hist-after {w = w} (Send i front done) k may t = front-refl (w.hist t)
hist-after {w = w} (Reply i sent) k may t = front-refl (w.hist t)
hist-after {w = w} (Learn i sent done) k may t = front-refl (w.hist t)
hist-after {w = w} (Commit i before entry) k may t = front-refl (w.hist t)
hist-after {w = w} (Notice i op) k may t = front-refl (w.hist t)
hist-after {w = w} (Restart i lane) k may t = front-refl (w.hist t)
hist-after {w = w} (Follow i) k may t = front-refl (w.hist t)
