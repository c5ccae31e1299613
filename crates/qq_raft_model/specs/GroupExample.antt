-- Worked groups: five servers as in figure 8 of the Raft paper (Ongaro and Ousterhout, "In Search of an
-- Understandable Consensus Algorithm"), and three with a copied and an old message.
use Rattle.std.specs.Prelude.{ℕ, List, [], ◌∷◌, map, Option, Some, None}
use Rattle.qq_base.specs.declared.ids.NodeId.{NodeId}
use Rattle.qq_entry.specs.declared.command.Command.TheVariants.{Noop}
use Rattle.qq_entry.specs.declared.command.Entry.{Entry}
use Rattle.qq_raft_model.specs.State.{Server}
use Rattle.qq_raft_model.specs.Group.{Event, Group, group_after, new_group}
use Rattle.qq_raft_model.specs.Group.Event.{Tick, Submit, Deliver, Lose, Copy, Take, Notice, Crash, Restart}

abbrev pub node : ℕ → NodeId
node n = record { 0 = n }

abbrev pub group_of : List ℕ → Group
group_of nodes = new_group (record { 0 = 1 }) (map node nodes)

-- the terms of entries
abbrev pub terms : List Entry → List ℕ
terms log = map (λ e. e.term.0) log

abbrev pub terms_by : Option Server → List ℕ
terms_by None = []
terms_by (Some s) = terms s.log

-- those of a server's log
abbrev pub log_terms : ℕ → Group → List ℕ
log_terms k g = terms_by (g.seat k).server

-- ---- figure 8

-- before it: server 1 leads term 1, and all five have its first entry
abbrev pub one_entry : List Event
one_entry =
    Restart 1 0 ∷ Restart 2 0 ∷ Restart 3 0 ∷ Restart 4 0 ∷ Restart 5 0 ∷ Tick 1 ∷ Take 1 ∷ Notice 1 1
    ∷ Deliver 0 ∷ Take 2 ∷ Notice 2 1 ∷ Deliver 3 ∷ Deliver 0 ∷ Take 3 ∷ Notice 3 1 ∷ Deliver 2 ∷ Deliver 2
    ∷ Take 2 ∷ Notice 2 2 ∷ Deliver 2 ∷ Take 3 ∷ Notice 3 2 ∷ Deliver 2 ∷ Take 4 ∷ Notice 4 1 ∷ Deliver 2
    ∷ Take 5 ∷ Notice 5 1 ∷ Take 1 ∷ Notice 1 2 ∷ Lose 0 ∷ Lose 0 ∷ Lose 0 ∷ Lose 0 ∷ Lose 0 ∷ Lose 0 ∷ []

-- (a) it leads term 2, and server 2 has its second entry too
abbrev pub second_term : List Event
second_term =
    Crash 1 ∷ Restart 1 2 ∷ Tick 1 ∷ Take 1 ∷ Notice 1 3 ∷ Deliver 0 ∷ Take 2 ∷ Notice 2 3 ∷ Deliver 3
    ∷ Deliver 0 ∷ Take 3 ∷ Notice 3 3 ∷ Deliver 2 ∷ Take 1 ∷ Notice 1 4 ∷ Deliver 2 ∷ Take 2 ∷ Notice 2 4
    ∷ Lose 0 ∷ Lose 0 ∷ Lose 0 ∷ Lose 0 ∷ Lose 0 ∷ Lose 0 ∷ []

-- (b) it crashes, and server 5 leads term 3, elected by 3, 4 and itself, with another entry
abbrev pub third_term : List Event
third_term =
    Crash 1 ∷ Tick 5 ∷ Take 5 ∷ Notice 5 2 ∷ Lose 0 ∷ Lose 0 ∷ Lose 0 ∷ Lose 0 ∷ Tick 5 ∷ Take 5 ∷ Notice 5 3
    ∷ Deliver 2 ∷ Take 3 ∷ Notice 3 4 ∷ Deliver 3 ∷ Deliver 2 ∷ Take 4 ∷ Notice 4 2 ∷ Deliver 2 ∷ Take 5
    ∷ Notice 5 4 ∷ Lose 0 ∷ Lose 0 ∷ Lose 0 ∷ Lose 0 ∷ Lose 0 ∷ Lose 0 ∷ []

-- (c) that crashes; server 1 restarts, leads term 4, and brings the entry of term 2 to server 3, a majority
abbrev pub fourth_term : List Event
fourth_term =
    Crash 5 ∷ Restart 1 4 ∷ Tick 1 ∷ Take 1 ∷ Notice 1 5 ∷ Lose 0 ∷ Lose 0 ∷ Lose 0 ∷ Lose 0 ∷ Tick 1 ∷ Take 1
    ∷ Notice 1 6 ∷ Deliver 0 ∷ Take 2 ∷ Notice 2 5 ∷ Deliver 3 ∷ Deliver 0 ∷ Take 3 ∷ Notice 3 5 ∷ Deliver 2
    ∷ Take 1 ∷ Notice 1 7 ∷ Deliver 3 ∷ Deliver 5 ∷ Lose 0 ∷ Lose 0 ∷ Lose 0 ∷ Lose 0 ∷ Lose 0 ∷ Deliver 0
    ∷ Take 3 ∷ Notice 3 6 ∷ Deliver 0 ∷ []

-- (d) it crashes; server 5 leads term 5, elected by 2, 4 and itself, and brings its entries to server 2
abbrev pub replaced : List Event
replaced =
    Crash 1 ∷ Restart 5 4 ∷ Tick 5 ∷ Take 5 ∷ Notice 5 5 ∷ Lose 0 ∷ Lose 0 ∷ Lose 0 ∷ Lose 0 ∷ Tick 5 ∷ Take 5
    ∷ Notice 5 6 ∷ Deliver 1 ∷ Take 2 ∷ Notice 2 6 ∷ Deliver 3 ∷ Deliver 2 ∷ Take 4 ∷ Notice 4 3 ∷ Deliver 2
    ∷ Deliver 3 ∷ Deliver 5 ∷ Deliver 5 ∷ Take 2 ∷ Notice 2 7 ∷ Lose 0 ∷ Lose 0 ∷ Lose 0 ∷ Lose 0 ∷ Lose 0
    ∷ Lose 0 ∷ []

-- (e) or server 1 brings its entry of term 4 to server 2, a majority, before it crashes
abbrev pub committed : List Event
committed =
    Tick 1 ∷ Deliver 0 ∷ Take 2 ∷ Notice 2 6 ∷ Deliver 3 ∷ Lose 0 ∷ Lose 0 ∷ Lose 0 ∷ []

-- ---- messages that come again

-- of three servers, 1 leads and commits two entries with 2; a request for a vote and an append to 2 were copied
abbrev pub two_entries : List Event
two_entries =
    Restart 1 0 ∷ Restart 2 0 ∷ Restart 3 0 ∷ Tick 1 ∷ Take 1 ∷ Notice 1 1 ∷ Copy 0 ∷ Deliver 0 ∷ Take 2
    ∷ Notice 2 1 ∷ Deliver 2 ∷ Copy 2 ∷ Deliver 2 ∷ Take 2 ∷ Notice 2 2 ∷ Take 1 ∷ Notice 1 2 ∷ Deliver 4
    ∷ Submit 1 0 (Noop 1) ∷ Deliver 2 ∷ Deliver 3 ∷ Take 2 ∷ Notice 2 3 ∷ Take 1 ∷ Notice 1 3 ∷ Deliver 4 ∷ []

-- the copies reach server 2, and its answers server 1
abbrev pub copies : List Event
copies =
    Deliver 1 ∷ Deliver 1 ∷ Deliver 2 ∷ Deliver 2 ∷ []

-- ---- groups

abbrev pub three : Group
three = group_of (1 ∷ 2 ∷ 3 ∷ [])

abbrev pub after_one : Group
after_one = group_after (group_of (1 ∷ 2 ∷ 3 ∷ 4 ∷ 5 ∷ [])) one_entry

abbrev pub after_a : Group
after_a = group_after after_one second_term

abbrev pub after_b : Group
after_b = group_after after_a third_term

abbrev pub after_c : Group
after_c = group_after after_b fourth_term
