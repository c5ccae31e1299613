-- The entries before a command's own are of other numbers.
use Rattle.std.proofs.Common.{◌≡◌, ◌≢◌, ◌⊎◌, ℕ, ◌<◌, List, [], ◌∷◌, ◌++◌, length, Some, None, refl, sym, ap, ◌∙◌, subst, inl, inr, arith, append_assoc, length-append}
use Rattle.std.specs.List.{AllByRecursion}
use Rattle.qq_base.specs.Fronts.{IsFront}
use Rattle.qq_base.proofs.Fronts.{front-length, front-trans}
use Rattle.qq_base.specs.Ids.{client}
use Rattle.qq_entry.specs.Command.{stamp}
use Rattle.qq_entry.specs.declared.command.Command.{Command}
use Rattle.qq_entry.specs.declared.command.Entry.{Entry}
use Rattle.qq_entry.specs.declared.command.Stamp.{Stamp}
use Rattle.qq_raft_protocol.specs.Facts.{add}
use Rattle.qq_raft_model.specs.Group.{Event as Move, Group, group_after}
use Rattle.qq_raft_model.specs.Group.Event.{Submit, Add}
use Rattle.qq_raft_model.specs.Promises.{AreDistinct, IsOpened, IsSubmitted, IsUp, WasLeft, whole_audit}
use Rattle.qq_raft_model.specs.Refines.{IsNoop}
use Rattle.qq_raft_model.specs.State.{Server}
use Rattle.qq_cluster_progress_laws.specs.Soon.{IsNewTo}
use Rattle.qq_cluster_progress_laws.proofs.Exchange.{same_some}
use Rattle.qq_cluster_progress_laws.proofs.Numbers.{BringsBelow}
use Rattle.qq_cluster_progress_laws.proofs.Printing.{IsOther}

-- what the law of groups says
abbrev pub WereSubmitted : Type 0
WereSubmitted =
    (g : Group) (whole : List Entry) (made : List Move) (a : List Entry) (e : Entry) → AreDistinct g.nodes
    → IsOpened g whole → IsFront (add a e) (whole_audit whole (group_after g made))
    → WasLeft g a e ⊎ (IsNoop e ⊎ IsSubmitted g made a e)

-- no command is given
abbrev pub IsSilent : Move → Type 0
IsSilent (Submit k time command) = ⊥
IsSilent (Add k time command) = ⊥
IsSilent _ = Unit {0}

-- ---- where an event stands

-- an event of the list is one of those before a certain one, that one itself, or one of those behind it
where-stands : (P Q : Move → Type 0) (before : List Move) (mid : Move) (behind first : List Move) (event : Move)
    (rest : List Move) → first ++ event ∷ rest ≡ before ++ mid ∷ behind → AllByRecursion P before
    → AllByRecursion Q behind → P event ⊎ (((first ≡ before) × (event ≡ mid)) ⊎ Q event)
where-stands P Q [] mid behind [] event rest is early late =
    (let same : event ≡ mid = cc in inr (inl (refl, same)))
where-stands P Q [] mid behind (f ∷ first) event rest is early late =
    (let tails : first ++ event ∷ rest ≡ behind = cc in inr (inr (in-late first behind tails late)))
  where
    in-late : (xs ys : List Move) → xs ++ event ∷ rest ≡ ys → AllByRecursion Q ys → Q event
    in-late [] ys same all = (subst (AllByRecursion Q) (sym same) all).0
    in-late (x ∷ xs) [] same all = absurd (let e : x ∷ (xs ++ event ∷ rest) ≡ [] = same in cc)
    in-late (x ∷ xs) (y ∷ ys) same all = (let tails : xs ++ event ∷ rest ≡ ys = cc in in-late xs ys tails all.1)
where-stands P Q (b ∷ before) mid behind [] event rest is early late =
    (let same : b ≡ event = cc in inl (subst P same early.0))
where-stands P Q (b ∷ before) mid behind (f ∷ first) event rest is early late =
    let head : f ≡ b = cc in
    let tails : first ++ event ∷ rest ≡ before ++ mid ∷ behind = cc in
    elim (where-stands P Q before mid behind first event rest tails early.1 late) [
      | inl there ↦ inl there
      | inr (inl here) ↦ inr (inl (
        ap (λ (m : Move). m ∷ first) head ∙ ap (λ (l : List Move). b ∷ l) here.0,
        here.1,
      ))
      | inr (inr there) ↦ inr (inr there)
    ]

-- ---- an entry of the log before it

module _ (submitted : WereSubmitted) (g : Group) (whole : List Entry) (distinct : AreDistinct g.nodes)
    (opened : IsOpened g whole) (session seq : ℕ) (new : IsNewTo session g) (before behind : List Move) (k : ℕ)
    (command : Command) (s : Server) (early : AllByRecursion (BringsBelow session seq) before)
    (late : AllByRecursion IsSilent behind) (up : IsUp (group_after g before) k s) where
  abbrev made : List Move
  made = before ++ Submit k 0 command ∷ behind

  given-by : (a : List Entry) (e : Entry) (by : Stamp) → stamp e.command ≡ Some by → by.session ≡ client session
      → length a < length s.log → IsSubmitted g made a e → by.seq ≢ seq
  given-by a e by is own short x = elim x.gives [
    | inl gives ↦ at (Submit x.node e.time e.command) gives (λ below. other (below by is own)) (λ silent. absurd silent)
    | inr gives ↦ at (Add x.node e.time e.command) gives (λ below. absurd below) (λ silent. absurd silent)
  ]
    where
      other : by.seq < seq → by.seq ≢ seq
      other lt same = omega (arith, lt, same)

      -- the event that gave the command itself
      itself : (event : Move) → event ≡ x.event → event ≡ Submit k 0 command → x.first ≡ before → by.seq ≢ seq
      itself event same mid first = elim x.gives [
        | inl gives ↦
            let both : Submit x.node e.time e.command ≡ Submit k 0 command = sym gives ∙ sym same ∙ mid in
            let node : x.node ≡ k = cc in
            let who : x.server ≡ s =
            same_some x.server s
            (sym (subst (λ (n : ℕ). IsUp (group_after g before) n x.server) node
            (subst (λ (l : List Move). IsUp (group_after g l) x.node x.server) first x.up)) ∙ up) in
            let long = ap length (sym x.log ∙ ap (λ (t : Server). t.log) who) in
            absurd (omega (arith, long, short))
        | inr gives ↦ absurd (let both : Add x.node e.time e.command ≡ Submit k 0 command = sym gives ∙ sym same ∙ mid in cc)
      ]

      at : (event : Move) → x.event ≡ event → (BringsBelow session seq event → by.seq ≢ seq)
          → (IsSilent event → by.seq ≢ seq) → by.seq ≢ seq
      at event same below silent =
          elim (where-stands (BringsBelow session seq) IsSilent before (Submit k 0 command) behind x.first event x.rest
          (ap (λ (m : Move). x.first ++ m ∷ x.rest) (sym same) ∙ sym x.is) early late) [
            | inl there ↦ below there
            | inr (inl here) ↦ itself event (sym same) here.1 here.0
            | inr (inr there) ↦ silent there
          ]

  -- it has another number
  is-other : (a : List Entry) (e : Entry) → IsFront (add a e) (whole_audit whole (group_after g made))
      → length a < length s.log → IsOther session seq e
  is-other a e front short by is own = elim (submitted g whole made a e distinct opened front) [
    | inl left ↦ absurd (new a e left by is own)
    | inr (inl noop) ↦ absurd (none noop)
    | inr (inr x) ↦ given-by a e by is own short x
  ]
    where
      none : IsNoop e → ⊥
      none noop =
          absurd (let none' : None ≡ Some by = sym (ap (λ (x : Entry). stamp x.command) noop) ∙ is in cc)

  -- and so has each
  pub all-other : IsFront s.log (whole_audit whole (group_after g made)) → AllByRecursion (IsOther session seq) s.log
  all-other front = all-fronts [] s.log (λ a e there. is-other a e (front-trans there front)
      (let long = front-length there in let more = length-append a (e ∷ []) in omega (arith, long, more)))
    where
      all-fronts : (done xs : List Entry)
          → ((a : List Entry) (e : Entry) → IsFront (a ++ e ∷ []) (done ++ xs) → IsOther session seq e)
          → AllByRecursion (IsOther session seq) xs
      all-fronts done [] each = tt
      all-fronts done (x ∷ xs) each = (
        each done x (record { rest = xs; is = sym (append_assoc done (x ∷ []) xs) }),
        all-fronts (done ++ x ∷ []) xs (λ a e there.
            each a e (subst (IsFront (a ++ e ∷ [])) (append_assoc done (x ∷ []) xs) there)),
      )
