-- What may happen in a group. A server's step is one move or a few.
use Rattle.std.specs.Prelude.{◌≡◌, ◌⊎◌, ◌<◌, ◌≤◌, ◌+◌, ℕ, Bool, List, [], ◌∷◌, length, filter, Option, Some, None, nat_lt, nat_le, nat_eq, not, ◌||◌, if◌then◌else◌}
use Rattle.qq_base.specs.Fronts.{IsFront, put}
use Rattle.qq_entry.specs.declared.command.Entry.{Entry}
use Rattle.qq_raft_protocol.specs.World.{Lane, Member, Ask, Sent, World, lanes}
use Rattle.qq_raft_protocol.specs.World.Role.{Follower, Candidate, Leader}
use Rattle.qq_raft_protocol.specs.Facts.{add, In, Most, Committed, Elects}

pub data Move : Type 0 where
  -- a server takes up a term, a vote or a leader's log, and follows
  Write : (k term : ℕ) (vote : Option ℕ) (log : List Entry) → Move
  -- it stands for election in the next term
  Stand : (k : ℕ) → Move
  -- it gives the vote that it has written to a candidate that asked
  Vote : (k : ℕ) (ask : Ask) → Move
  -- a candidate with a majority leads
  Lead : (k : ℕ) → Move
  -- a leader adds an entry
  Append : (k : ℕ) (entry : Entry) → Move
  -- a leader sends a front of its log, and tells up to where it knows it to be committed
  Send : (k : ℕ) (front done : List Entry) → Move
  -- a server that has what was sent says so
  Reply : (k : ℕ) (sent : Sent) → Move
  -- it learns from what was sent that entries are committed
  Learn : (k : ℕ) (sent : Sent) (done : List Entry) → Move
  -- a leader counts that a majority has an entry
  Commit : (k : ℕ) (before : List Entry) (entry : Entry) → Move
  -- a server notices that its changes up to a number are durable
  Notice : (k op : ℕ) → Move
  -- a server that crashed restarts with a lane that its disk may hold
  Restart : (k : ℕ) (lane : Lane) → Move
  -- a server follows
  Follow : (k : ℕ) → Move

-- ---- what a move makes of the world

-- the longer of two lists
abbrev pub longer : List Entry → List Entry → List Entry
longer x y = if nat_lt (length x) (length y) then y else x

-- a change is handed to the disk
abbrev pub push : Member → Lane → Member
push m lane = record { mine = lane; older = m.mine ∷ m.older; noticed = m.noticed }

-- what a member's next change leaves
abbrev pub next_lane : Member → ℕ → Option ℕ → List Entry → Lane
next_lane m term vote log = record { op = m.mine.op + 1; term = term; vote = vote; log = log }

-- a member knows this list to be committed, where it is longer than what it knew
abbrev pub learn : World → ℕ → List Entry → World
learn w k x = record w { done = put k (longer (w.done k) x) w.done; audit = longer w.audit x }

-- a member can't say any more what wasn't durable
abbrev pub stays : ℕ → ℕ → ℕ → ℕ → Bool
stays k noticed from op = not (nat_eq from k) || nat_le op noticed

abbrev pub after : World → Move → World
after w (Write k term vote log) =
    let m = w.member k in
    record w {
      member = put k (push m (next_lane m term vote log)) w.member;
      role = put k Follower w.role;
    }
after w (Stand k) =
    let m = w.member k in
    let lane = next_lane m (m.mine.term + 1) (Some k) m.mine.log in
    record w {
      member = put k (push m lane) w.member;
      role = put k Candidate w.role;
      asks = record { from = k; term = lane.term; op = lane.op; log = lane.log } ∷ w.asks;
      grants = record { from = k; to = k; term = lane.term; op = lane.op; log = lane.log } ∷ w.grants;
    }
after w (Vote k ask) =
    let mine = (w.member k).mine in
    record w {
      grants = record { from = k; to = ask.from; term = ask.term; op = mine.op; log = ask.log } ∷ w.grants;
    }
after w (Lead k) =
    let mine = (w.member k).mine in
    record w {
      hist = put mine.term mine.log w.hist;
      lead = put mine.term (Some k) w.lead;
      role = put k Leader w.role;
    }
after w (Append k e) =
    let m = w.member k in
    let lane = next_lane m m.mine.term m.mine.vote (add m.mine.log e) in
    record w {
      hist = put lane.term lane.log w.hist;
      member = put k (push m lane) w.member;
      acks = record { from = k; term = lane.term; upto = length lane.log; op = lane.op } ∷ w.acks;
    }
after w (Send k front done) =
    record w {
      sents = record { from = k; term = (w.member k).mine.term; front = front; done = done } ∷ w.sents;
    }
after w (Reply k sent) =
    let mine = (w.member k).mine in
    record w {
      acks = record { from = k; term = sent.term; upto = length sent.front; op = mine.op } ∷ w.acks;
    }
after w (Learn k sent x) = learn w k x
after w (Commit k a e) = learn w k (add a e)
after w (Notice k op) =
    let m = w.member k in
    let older = filter (λ l. nat_le op l.op) m.older in
    record w { member = put k (record { mine = m.mine; older = older; noticed = op }) w.member }
after w (Restart k lane) =
    let noticed = (w.member k).noticed in
    record w {
      member = put k (record { mine = lane; older = []; noticed = lane.op }) w.member;
      role = put k Follower w.role;
      done = put k [] w.done;
      asks = filter (λ x. stays k noticed x.from x.op) w.asks;
      grants = filter (λ x. stays k noticed x.from x.op) w.grants;
      acks = filter (λ x. stays k noticed x.from x.op) w.acks;
    }
after w (Follow k) = record w { role = put k Follower w.role }

-- ---- when a move is Raft's

-- the term of the last entry, 0 where there is none
abbrev pub last_term : List Entry → ℕ
last_term [] = 0
last_term (e ∷ []) = e.term.0
last_term (e ∷ f ∷ es) = last_term (f ∷ es)

-- a log is as up to date as another (Ongaro's dissertation, section 3.6.1)
abbrev pub IsCurrent : List Entry → List Entry → Type 0
IsCurrent own log =
    (last_term own < last_term log) ⊎ ((last_term own ≡ last_term log) × (length own ≤ length log))

-- a log that a leader of this term sent, and that isn't the front of the own one
pub record Replaces (w : World) (own : Lane) (term : ℕ) (log : List Entry) : Type 0 where
  pub sent : Sent
  pub said : In sent w.sents
  pub term_is : sent.term ≡ term
  pub log_is : sent.front ≡ log
  pub differs : IsFront log own.log → ⊥

-- terms only rise, a vote isn't taken back within a term, and a log is only changed for that of the term's leader
pub record MayWrite (w : World) (own : Lane) (term : ℕ) (vote : Option ℕ) (log : List Entry) : Type 0 where
  pub term_rises : own.term ≤ term
  pub vote_stays : own.term ≡ term → (own.vote ≡ vote) ⊎ (own.vote ≡ None)
  pub log_is : (log ≡ own.log) ⊎ Replaces w own term log

-- a server has voted so in its term, for a candidate whose log is as up to date as its own
pub record MayVote (w : World) (own : Lane) (ask : Ask) : Type 0 where
  pub asked : In ask w.asks
  pub may_leave : ask.op ≤ (w.member ask.from).noticed
  pub term_is : own.term ≡ ask.term
  pub vote_is : own.vote ≡ Some ask.from
  pub current : IsCurrent own.log ask.log

-- what was sent in this term is a front of the own log
pub record HasSent (w : World) (own : Lane) (sent : Sent) : Type 0 where
  pub said : In sent w.sents
  pub term_is : sent.term ≡ own.term
  pub front : IsFront sent.front own.log

abbrev pub Allowed : List ℕ → World → Move → Type 0
Allowed members w (Write k term vote log) = MayWrite w (w.member k).mine term vote log
Allowed members w (Stand k) = Unit {0}
Allowed members w (Vote k ask) = MayVote w (w.member k).mine ask
Allowed members w (Lead k) =
    (w.role k ≡ Candidate) × Most members (Elects w (w.member k).mine.term k)
Allowed members w (Append k e) = (w.role k ≡ Leader) × (e.term.0 ≡ (w.member k).mine.term)
Allowed members w (Send k front done) =
    (w.role k ≡ Leader) × IsFront front (w.member k).mine.log × IsFront done (w.done k)
Allowed members w (Reply k sent) = HasSent w (w.member k).mine sent
Allowed members w (Learn k sent x) = HasSent w (w.member k).mine sent × IsFront x sent.front × IsFront x sent.done
Allowed members w (Commit k a e) =
    (w.role k ≡ Leader) × IsFront (add a e) (w.member k).mine.log × (e.term.0 ≡ (w.member k).mine.term) ×
    Committed members w a e
Allowed members w (Notice k op) = ((w.member k).noticed ≤ op) × (op ≤ (w.member k).mine.op)
Allowed members w (Restart k lane) = In lane (lanes (w.member k))
Allowed members w (Follow k) = Unit {0}

-- ---- lists of moves

abbrev pub run : World → List Move → World
run w [] = w
run w (m ∷ ms) = run (after w m) ms

abbrev pub AreAllowed : List ℕ → World → List Move → Type 0
AreAllowed members w [] = Unit {0}
AreAllowed members w (m ∷ ms) = Allowed members w m × AreAllowed members (after w m) ms
