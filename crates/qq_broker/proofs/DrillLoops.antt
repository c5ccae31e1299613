-- Loops over a drill's lines and parts.
use Rattle.std.proofs.Common.{◌≡◌, ◌<◌, ◌+◌, ℕ, List, [], ◌∷◌, ◌++◌, drop, get_or, length, take, sym, ap, subst, ◌∙◌, append_assoc, append-nil}
use Rattle.std.proofs.lemmas.List.{drop_more, take-append-drop}
use Rattle.qq_disk.specs.Facts.{DiskFacts}
use Rattle.qq_script_lines.specs.declared.line.ScriptLine.{ScriptLine}
use Rattle.qq_route.specs.declared.setup.Setup.{Setup}
use Rattle.qq_cluster_model.specs.Outcome.{Outcome}
use Rattle.qq_cluster_run.specs.Drilling.{Known, know}
use Rattle.qq_cluster_run.specs.Serving.{Run, cluster_in, setup_in}
use Rattle.qq_cluster_run.specs.declared.drilling.Part.{Part}
use Rattle.qq_cluster_run.specs.declared.playing.Play.{Play}
use Rattle.qq_cluster.specs.declared.nodes.Nodes.{Nodes}
use Rattle.qq_broker.specs.Drilling.{LinesServed, PartsDone, Plays, run_with}
use Rattle.qq_broker.specs.Lives.{Giving}
use Rattle.qq_broker.proofs.Drilled.{lines-more, lines-none, parts-more, parts-none}

-- the first of these lines were served, and the rest is left
pub record LinesOn {D : Type 0} (given : Giving D) (facts : DiskFacts D) (s : Setup) (run : Run)
    (all rest : List ScriptLine) (k : Known) (held : Nodes D) (told : Outcome) (play : Play) : Type 0
  where
    pub done : List ScriptLine
    pub are : all ≡ done ++ rest
    pub so : LinesServed given facts s run done k held told play

-- whatever they began with
abbrev pub LinesGo : {D : Type 0} → DiskFacts D → Setup → (all rest : List ScriptLine)
    → (old : Nodes D) (before : Outcome) (first : Play) (held : Nodes D) (told : Outcome) (play : Play) → Type 0
LinesGo {D} facts s all rest old before first held told play =
    (given : Giving D) (run : Run) (k : Known) → Plays given facts s run old before first k
    → LinesOn given facts s run all rest k held told play

abbrev pub PartsGo : {D : Type 0} → DiskFacts D → Setup → (done : List Part)
    → (old : Nodes D) (before : Outcome) (first : Play) (held : Nodes D) (told : Outcome) (play : Play) → Type 0
PartsGo {D} facts s done old before first held told play =
    (given : Giving D) (run : Run) (k : Known) → Plays given facts s run old before first k
    → PartsDone given facts s run done k held told play

-- the parts before an index, the one at it, and those behind it
pub parts-split : (parts : List Part) (i : ℕ) (d : Part) → i < length parts
    → parts ≡ take i parts ++ get_or parts i d ∷ drop (i + 1) parts
parts-split parts i d lt =
    sym (take-append-drop i parts) ∙ ap (λ (l : List Part). take i parts ++ l) (drop_more parts i d lt)

module _ {D : Type 0} (facts : DiskFacts D) (s : Setup) where
  pub lines-begin : (all rest : List ScriptLine) (held : Nodes D) (told : Outcome) (play : Play) → rest ≡ all
      → LinesGo facts s all rest held told play held told play
  lines-begin all rest held told play same = λ given run k so.
      record { done = []; are = sym same; so = lines-none given facts s run k held told play so }

  pub lines-go : (all rest left : List ScriptLine) (line : ScriptLine) (old mid new : Nodes D)
      (before told later : Outcome) (first play next : Play) → rest ≡ line ∷ left
      → LinesGo facts s all rest old before first mid told play
      → ((given : Giving D) (run : Run) (k : Known) → Plays given facts s run mid told play k
      → LinesServed given facts s run (line ∷ []) k new later next)
      → LinesGo facts s all left old before first new later next
  lines-go all rest left line old mid new before told later first play next is go one = λ given run k so.
      (let on = go given run k so in
      record {
        done = on.done ++ line ∷ [];
        are = on.are ∙ ap (λ (l : List ScriptLine). on.done ++ l) is ∙ sym (append_assoc on.done (line ∷ []) left);
        so = lines-more given facts s run on.done line k mid new told later play next on.so
            (one given (run_with run on.so.more) (know (setup_in s run) (cluster_in s run) on.so.more k) on.so.plays);
      })

  pub lines-end : (all rest : List ScriptLine) (old held : Nodes D) (before told : Outcome) (first play : Play)
      → rest ≡ [] → LinesGo facts s all rest old before first held told play → (given : Giving D) (run : Run)
      (k : Known) → Plays given facts s run old before first k → LinesServed given facts s run all k held told play
  lines-end all rest old held before told first play none go given run k so =
      let on = go given run k so in
      subst (λ (l : List ScriptLine). LinesServed given facts s run l k held told play)
      (sym (on.are ∙ ap (λ (l : List ScriptLine). on.done ++ l) none ∙ append-nil on.done)) on.so

  pub parts-begin : (held : Nodes D) (told : Outcome) (play : Play)
      → PartsGo facts s [] held told play held told play
  parts-begin held told play = λ given run k so. parts-none given facts s run k held told play so

  pub parts-go : (done more : List Part) (part : Part) (old mid new : Nodes D) (before told later : Outcome)
      (first play next : Play) → more ≡ done ++ part ∷ []
      → PartsGo facts s done old before first mid told play
      → ((given : Giving D) (run : Run) (k : Known) → Plays given facts s run mid told play k
      → PartsDone given facts s run (part ∷ []) k new later next) → PartsGo facts s more old before first new later next
  parts-go done more part old mid new before told later first play next is go one = λ given run k so.
      (let on = go given run k so in
      subst (λ (l : List Part). PartsDone given facts s run l k new later next) (sym is)
      (parts-more given facts s run done part k mid new told later play next on
      (one given (run_with run on.more) on.later on.plays)))
