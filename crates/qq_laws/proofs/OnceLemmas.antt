-- A number of a session that was carried out is never let in again.
use Rattle.std.proofs.Common.{◌≡◌, ℕ, ◌+◌, true, false, List, Option, Some, refl, sym, ap, ◌∙◌, subst}
use Rattle.std.proofs.lemmas.Bool.{false≢true}
use Rattle.qq_base.specs.declared.ids.SessionId.{SessionId}
use Rattle.qq_entry.specs.declared.queue.QueueArgs.{QueueArgs}
use Rattle.qq_entry.specs.declared.command.Stamp.{Stamp}
use Rattle.qq_entry.specs.declared.command.Entry.{Entry}
use Rattle.qq_model.specs.declared.session.Gate.{Gate}
use Rattle.qq_model.specs.declared.session.Gate.TheVariants.{Fresh}
use Rattle.qq_model.specs.State.{State, Sessions, empty_queue}
use Rattle.qq_model.specs.Gate.{is_dead_letter, gate, admit, IsNumbered}
use Rattle.qq_entry.specs.Command.{stamp}
use Rattle.qq_model.specs.Step.{go_through, step_by, step}
use Rattle.qq_model.specs.Audit.{next_index, next_step, state_after}
use Rattle.qq_laws.specs.Once.{is_fresh, is_let_in, IsCarriedOutOnce}
use Rattle.qq_laws.proofs.FreshNumbers.{admit-used, used-stale}
use Rattle.qq_model.proofs.Later.{Guarded, Used}
use Rattle.qq_model.proofs.LaterSteps.{admit-later, after-later, done-later, next-later}
use Rattle.qq_laws.proofs.TurnAway.{fresh_if_let_in}
use Rattle.qq_model.proofs.Current.{numbered-plain}

is_fresh-Fresh : (g : Gate) → is_fresh g ≡ true → g ≡ Fresh
is_fresh-Fresh Fresh is = refl
is_fresh-Fresh _ is = absurd (false≢true is)

-- an entry that counts as fresh was let in
pub fresh-gate : (s : State) (entry : Entry) (given : Stamp) → stamp entry.command ≡ Some given
    → (next_step s entry).fresh ≡ true → gate s.sessions given ≡ Fresh
fresh-gate s entry stamp is fresh =
    is_fresh-Fresh (gate s.sessions stamp) (sym (fresh_if_let_in s entry ∙ ap (is_let_in s.sessions) is) ∙ fresh)

pub fresh-used : (s : State) (entry : Entry) (given : Stamp) → IsNumbered given.session → Guarded s.sessions
    → stamp entry.command ≡ Some given → gate s.sessions given ≡ Fresh
    → Used (next_step s entry).state.sessions given.session (given.seq + 1) 0
unfolding step
fresh-used s entry stamp numbered guarded is fresh =
    let session : SessionId = stamp.session in
    let x : Sessions = admit s.sessions stamp in
    let done = done-later session s x stamp (next_index s) entry.command numbered in
    let used =
    done.used (stamp.seq + 1) 0 ((admit-later session s.sessions stamp fresh).guarded guarded)
    (admit-used s.sessions stamp (numbered-plain session numbered) fresh) in
    let at : Gate → Type 0 =
    λ g. Used (go_through g (next_index s) stamp entry.command s).state.sessions session (stamp.seq + 1) 0 in
    let by : Option Stamp → Type 0 =
    λ o. Used (step_by o (next_index s) entry.command s).state.sessions session (stamp.seq + 1) 0 in
    subst by (sym is) (subst at (sym fresh) used)

pub guarded_at : (session : SessionId) (args : QueueArgs) (entries : List Entry) → IsNumbered session
    → Guarded (state_after (empty_queue args) entries).sessions
guarded_at session args entries numbered = (after-later session (empty_queue args) entries numbered).guarded tt

pub carried_out_once : (args : QueueArgs) (before : List Entry)
    → IsCarriedOutOnce (state_after (empty_queue args) before)
carried_out_once args before first second stamp between kind is repeats fresh =
    let s : State = state_after (empty_queue args) before in
    let session : SessionId = stamp.session in
    let t : State = (next_step s first).state in
    let u : State = state_after t between in
    let guarded = guarded_at session args before kind in
    let used_then : Used t.sessions session (stamp.seq + 1) 0 =
    fresh-used s first stamp kind guarded is (fresh-gate s first stamp is fresh) in
    let still : Used u.sessions session (stamp.seq + 1) 0 =
    (after-later session t between kind).used (stamp.seq + 1) 0 ((next-later session s first kind).guarded guarded)
    used_then in
    let again : Stamp = repeats.again in
    let used : Used u.sessions again.session (again.seq + 1) 0 =
    subst (λ (n : ℕ). Used u.sessions again.session (n + 1) 0) (sym repeats.number)
    (subst (λ (i : SessionId). Used u.sessions i (stamp.seq + 1) 0) (sym repeats.session) still) in
    let plain : is_dead_letter again.session ≡ false =
    ap is_dead_letter repeats.session ∙ numbered-plain session kind in
    fresh_if_let_in u second ∙ ap (is_let_in u.sessions) repeats.is ∙ used-stale u.sessions again 0 plain used
