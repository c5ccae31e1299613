-- Who was away may take part once the others have committed.
use Rattle.std.proofs.Common.{◌≡◌, ℕ, Bool, true, false, List, [], ◌∷◌, refl, sym, ap, subst, ◌∙◌}
use Rattle.qq_base.specs.Fronts.{IsFront}
use Rattle.qq_base.proofs.Fronts.{front-trans}
use Rattle.qq_entry.specs.declared.command.Entry.{Entry}
use Rattle.qq_raft_protocol.specs.World.{Member, Role, World, start_world}
use Rattle.qq_raft_protocol.specs.World.Role.{Leader}
use Rattle.qq_raft_protocol.specs.Facts.{add}
use Rattle.qq_raft_protocol.specs.Moves.{Move, after, run, AreAllowed}
use Rattle.qq_raft_protocol.specs.Moves.Move.{Commit}
use Rattle.qq_raft_protocol.proofs.Runs.{safe-run, audit-stays}
use Rattle.qq_raft_protocol.proofs.Shades.{shaded-audit, shaded-run, shaded-start, next}
use Rattle.qq_raft_away_laws.specs.Away.{AreStill, IsBeside, IsReady}
use Rattle.qq_raft_away_laws.proofs.Commits.{ready-after, commit-after, commit-known}
use Rattle.qq_raft_away_laws.proofs.Still.{Follows, allowed-after, still-run}

follower_leads : Role.Follower ≡ Leader → ⊥
follower_leads e = absurd cc

leads_by : (c b : Bool) (r : Role) → c ≡ b → (c ≡ true → r ≡ Role.Follower) → r ≡ Leader → c ≡ false
leads_by c true r is quiet leads = absurd (follower_leads (sym (quiet is) ∙ leads))
leads_by c false r is quiet leads = is

-- who leads isn't away
leads_here : {away : ℕ → Bool} {audit : List Entry} {w v : World} (q : ℕ) → Follows away audit w v
    → w.role q ≡ Leader → away q ≡ false
leads_here {away = away} {w = w} q b leads = leads_by (away q) (away q) (w.role q) refl (b.quiet.roles q) leads

-- a ready leader is ready in the other world too
ready-there : {away : ℕ → Bool} {audit : List Entry} {w v : World} (q : ℕ) (a : List Entry) (e : Entry)
    → Follows away audit w v → IsReady w q a e → IsReady v q a e
ready-there q a e b r =
    let here = leads_here q b r.leads in
    subst (λ (x : World). IsReady x q a e) (sym b.differs.rest) (record {
      leads = r.leads;
      own = r.own ∙ ap (λ (m : Member). m.mine.term) (sym (b.differs.others q here));
      done = r.done;
    })

pub begin-ready : (members : List ℕ) (away : ℕ → Bool) (one two : ℕ → Member) (audit : List Entry)
    (first second : List Move) (q : ℕ) (a : List Entry) (e : Entry) → IsBeside members away one two audit
    → AreStill away first → AreAllowed members (start_world one []) first
    → IsReady (run (start_world one []) first) q a e → AreAllowed members (run (start_world one []) first) second
    → IsFront audit (run (run (start_world one []) first) second).audit
begin-ready members away one two audit first second q a e x still may r later =
    let c = still-run members away one two audit first x.others still may in
    let after_audit : IsFront audit (add a e) =
    ready-after members two audit first q a e x.before c.allowed (ready-there q a e c.follows r) in
    let known : IsFront (add a e) (run (start_world one []) first).audit =
    front-trans r.done ((safe-run members one [] first x.start may).done q).0 in
    front-trans after_audit (front-trans known (audit-stays members one [] first second x.start may later))

pub begin-commit : (members : List ℕ) (away : ℕ → Bool) (one two : ℕ → Member) (audit : List Entry)
    (first second : List Move) (i : ℕ) (a : List Entry) (e : Entry) → IsBeside members away one two audit
    → AreStill away first → AreAllowed members (start_world one []) first
    → AreAllowed members (run (start_world one []) first) (Commit i a e ∷ second)
    → IsFront audit (run (run (start_world one []) first) (Commit i a e ∷ second)).audit
begin-commit members away one two audit first second i a e x still may later =
    let w = run (start_world one []) first in
    let c = still-run members away one two audit first x.others still may in
    let there = allowed-after members (Commit i a e) c.follows (leads_here i c.follows later.0.0) later.0 in
    let after_audit : IsFront audit (add a e) =
    commit-after members two audit first i a e x.before c.allowed there in
    let s = shaded-run first (start_world one []) (shaded-start x.start) may in
    front-trans after_audit
    (front-trans (commit-known i a e s later.0)
    (shaded-audit second (after w (Commit i a e)) (next (Commit i a e) s later.0) later.1))
