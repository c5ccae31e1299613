-- What an input makes of a server.
use Rattle.std.proofs.Common.{◌≡◌, ℕ, false, List, [], ◌∷◌, refl, sym, subst, ◌∙◌}
use Rattle.std.proofs.lemmas.Bool.{cond-false}
use Rattle.qq_base.specs.declared.ids.Index.{Index}
use Rattle.qq_entry.specs.declared.command.Command.{Command}
use Rattle.qq_entry.specs.declared.command.Entry.{Entry}
use Rattle.qq_log.specs.Log.{LogState}
use Rattle.qq_raft_core.specs.Raft.{server_of}
use Rattle.qq_raft_msg.specs.Queue.{Applied}
use Rattle.qq_raft_model.specs.Server.{is_ready, receive as receive_raft, notice as notice_raft, step as step_raft, submit as submit_raft, add as add_raft}
use Rattle.qq_raft.specs.Stands.{Does, StandsFor, state_of}
use Rattle.qq_raft.specs.Step.{ServerState, apply_all, apply_committed, add, apply_next, submit, unapplied, with_raft}
use Rattle.qq_raft.specs.declared.server.Server.{Server}
use Rattle.qq_group.specs.Group.{HasState}
use Rattle.qq_group.specs.Input.{acts, input_of}
use Rattle.qq_group.specs.declared.input.Input.{Input}
use Rattle.qq_group.specs.declared.input.Input.TheVariants.{Tick, Receive, Submit, Add, Flush, Notice}

-- a command that isn't taken changes nothing
pub refused-does : {P Q L : Type 0} (stands : P → Q → Type 0) (log : L → LogState) (time : ℕ) (command : Command)
    (old new : Server Q L) → new ≡ old → is_ready (server_of log old.raft) ≡ false
    → Does stands log (submit time command) old new
unfolding submit_raft
refused-does stands log time command old new same unready = λ queue here.
    subst (λ s. StandsFor stands log (submit time command (state_of log queue old)) s) (sym same)
    (record {
      raft = sym (cond-false (is_ready (server_of log old.raft)) _ (server_of log old.raft) unready);
      queue = here;
      applied = refl;
      rows = refl;
    })

pub refused-adds : {P Q L : Type 0} (stands : P → Q → Type 0) (log : L → LogState) (time : ℕ) (command : Command)
    (old new : Server Q L) → new ≡ old → is_ready (server_of log old.raft) ≡ false
    → Does stands log (add time command) old new
unfolding add_raft
refused-adds stands log time command old new same unready = λ queue here.
    subst (λ s. StandsFor stands log (add time command (state_of log queue old)) s) (sym same)
    (record {
      raft = sym (cond-false (is_ready (server_of log old.raft)) _ (server_of log old.raft) unready);
      queue = here;
      applied = refl;
      rows = refl;
    })

-- ---- applying leaves the Raft part

applied-raft : {P : Type 0} (step : P → Index → Entry → Applied P) (es : List Entry) (s : ServerState P)
    → (apply_all step es s).raft ≡ s.raft
unfolding apply_next
applied-raft step [] s = refl
applied-raft step (e ∷ es) s = applied-raft step es (apply_next step e s)

committed-raft : {P : Type 0} (step : P → Index → Entry → Applied P) (s : ServerState P)
    → (apply_committed step s).raft ≡ s.raft
unfolding apply_committed
committed-raft step s = applied-raft step (unapplied s) s

acts-raft : {P : Type 0} (step : P → Index → Entry → Applied P) (input : Input) (s : ServerState P)
    → (acts step input s).raft ≡ step_raft s.raft (input_of input)
acts-raft step Tick s = refl
acts-raft step (Receive rpc) s = committed-raft step (with_raft (receive_raft rpc s.raft) s)
acts-raft step (Submit time command) s = refl
acts-raft step (Add time command) s = refl
acts-raft step Flush s = refl
acts-raft step (Notice op) s = committed-raft step (with_raft (notice_raft op s.raft) s)

-- its Raft part makes the definition's step
pub does-step : {P Q L : Type 0} (stands : P → Q → Type 0) (step : P → Index → Entry → Applied P)
    (log : L → LogState) (input : Input) (s t : Server Q L) → HasState stands s.machine
    → Does stands log (acts step input) s t → server_of log t.raft ≡ step_raft (server_of log s.raft) (input_of input)
does-step stands step log input s t state does =
    (does state.0 state.1).raft ∙ acts-raft step input (state_of log state.0 s)
