use Rattle.std.proofs.Common.{◌≡◌, length}
use Rattle.std.specs.List.{list_all}
use Rattle.qq_wal_chain.specs.Lanes.{is_within_end}
use Rattle.qq_recover.proofs.state.are_terms_within_end.Given as goal

abbrev pub invariant-entries : goal.invariant-entries
invariant-entries l =
    list_all (λ e. is_within_end e.term.0) l.rest ≡ list_all (λ e. is_within_end e.term.0) l.entries

abbrev pub decreases-entries : goal.decreases-entries
decreases-entries l = length l.rest
