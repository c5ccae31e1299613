-- A Raft group whose servers hand changes to a disk and learn later that they are durable (Ongaro's dissertation,
-- chapter 3; the Ra library's internals, write-ahead log).
--
-- The world has what the protocol is about: what each server holds, what each disk may still hold, and every message
-- that was ever made. Messages are never taken out, so that loss, repeat, reordering and delay are no moves of the
-- protocol. Members are numbers.
use Rattle.std.specs.Prelude.{ℕ, List, [], ◌∷◌, Option, None}
use Rattle.qq_entry.specs.declared.command.Entry.{Entry}

-- what one change leaves on a server's disk: the change's number, and the server's term, vote and log
pub record Lane : Type 0 where
  pub op : ℕ
  pub term : ℕ
  pub vote : Option ℕ
  pub log : List Entry

pub data Role : Type 0 where
  Follower : Role
  Candidate : Role
  Leader : Role

pub record Member : Type 0 where
  pub mine : Lane  -- what the server works on: its newest lane
  pub older : List Lane  -- what its disk may hold in place of it
  pub noticed : ℕ  -- the change up to which the server knows its disk to be durable

-- each lane that a crash may leave
abbrev pub lanes : Member → List Lane
lanes m = m.mine ∷ m.older

-- A message may leave once its sender has noticed the change that it speaks of, whose number is `op`.

-- a candidate asks for votes
pub record Ask : Type 0 where
  pub from : ℕ
  pub term : ℕ
  pub op : ℕ
  pub log : List Entry

-- a vote for a candidate, with the log that the candidate had when it asked; a candidate votes for itself too
pub record Grant : Type 0 where
  pub from : ℕ
  pub to : ℕ
  pub term : ℕ
  pub op : ℕ
  pub log : List Entry

-- a server has the first `upto` entries of a term's leader; a leader has its own entries too
pub record Ack : Type 0 where
  pub from : ℕ
  pub term : ℕ
  pub upto : ℕ
  pub op : ℕ

-- what a leader sent: the front of its log up to the message's last entry, and what it knew to be committed
pub record Sent : Type 0 where
  pub from : ℕ
  pub term : ℕ
  pub front : List Entry
  pub done : List Entry

pub record World : Type 0 where
  pub hist : ℕ → List Entry  -- the longest log that the leader of a term has had
  pub lead : ℕ → Option ℕ  -- the leader of a term
  pub member : ℕ → Member
  pub role : ℕ → Role
  pub done : ℕ → List Entry  -- the entries that a server knows to be committed
  pub asks : List Ask
  pub grants : List Grant
  pub acks : List Ack
  pub sents : List Sent
  pub audit : List Entry  -- the longest list of entries that a server has known to be committed

-- ---- the start

abbrev pub no_lane : Lane
no_lane = record { op = 0; term = 0; vote = None; log = [] }

abbrev pub new_member : Member
new_member = record { mine = no_lane; older = []; noticed = 0 }

-- a member with this lane, which is durable
abbrev pub opened : Lane → Member
opened lane = record { mine = lane; older = []; noticed = lane.op }

-- a group over these disks, which has committed this audit: all follow, and nothing was said
abbrev pub start_world : (ℕ → Member) → List Entry → World
start_world member audit =
    record {
      hist = λ t. [];
      lead = λ t. None;
      member = member;
      role = λ q. Role.Follower;
      done = λ q. [];
      asks = [];
      grants = [];
      acks = [];
      sents = [];
      audit = audit;
    }

-- new disks
abbrev pub new_world : World
new_world = start_world (λ q. new_member) []
