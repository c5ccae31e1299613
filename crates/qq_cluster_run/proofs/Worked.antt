-- What worked scripts over one queue print.
use Rattle.std.proofs.Common.{None, ◌≡◌, ◌≤◌, ℕ, ◌+◌, List, [], ◌∷◌, ◌++◌, length, Option, Some, Ok, Err, inl, inr, false, refl, sym, ap, subst, ◌∙◌, append-nil, append_assoc, codes, arith}
use Rattle.std.specs.Fmt.{decimal, digits}
use Rattle.std.specs.Char.{encode_utf8}
use Rattle.std.specs.Str.{chars, is_utf8}
use Rattle.qq_base.specs.Fronts.{IsFront, put}
use Rattle.qq_command.specs.Encoding.{body, content, death, deaths, encoding, fields, key, origin, payload, session, stamp}
use Rattle.qq_log.specs.Stable.{apply_op, change as change_log}
use Rattle.qq_model.specs.Commands.{act, enqueue, get}
use Rattle.qq_model.specs.Gate.{gate, admit, keep_answer, turn_away}
use Rattle.qq_model.specs.Serving.{check_out, check_out_all, drain_after, drop_head, keep_limits, give_dead, give_all_dead}
use Rattle.qq_model.specs.Step.{carry_out, step}
use Rattle.qq_raft_model.specs.Leading.{send, add_entry, stand, lead, lead_if_elected, advance}
use Rattle.qq_raft_model.specs.Server.{refuse, give_vote, receive_vote, receive_voted, take_entries, refuse_entries, receive_append, take_ack, step_back, receive_appended, accept, receive, tick, submit, notice}
use Rattle.qq_raft_model.specs.State.{change, enter, say_all}
use Rattle.qq_ports.specs.Lines.{HasNoFeed, lines_of, onto_first}
use Rattle.qq_route.specs.declared.queue_row.QueueRow.{QueueRow}
use Rattle.qq_route.specs.declared.setup.Setup.{Setup}
use Rattle.qq_route.specs.Setup.{SetupState, plain_rows, plain_setup, state_of}
use Rattle.qq_defs.specs.Runnable.{IsRunnable}
use Rattle.qq_words.specs.declared.options.Options.{Options}
use Rattle.qq_script_lines.specs.declared.fault.ScriptFault.{ScriptFault}
use Rattle.qq_script_lines.specs.declared.fault.ScriptFault.TheVariants.{Words, Body}
use Rattle.qq_script_lines.specs.declared.line.ScriptLine.{ScriptLine}
use Rattle.qq_script_lines.specs.declared.line.ScriptLine.TheVariants.{Attach, Publish}
use Rattle.qq_script_lines.specs.Lines.{read}
use Rattle.qq_cluster_model.specs.Cluster.{Setup as ClusterSetup, ClusterEvent, new_cluster, cluster_after}
use Rattle.qq_cluster_model.specs.ClusterLaws.{HasGroups, IsServedBy, has_failure, findings, verdicts}
use Rattle.qq_cluster_model.specs.Lines.{IsRun}
use Rattle.qq_cluster_model.specs.Rules.{most_rounds}
use Rattle.qq_cluster_model.specs.Serving.{all_given, line, run}
use Rattle.qq_cluster_model.specs.Texts.{text_of, audits_text}
use Rattle.qq_cluster_run.specs.Endings.{fault_text, refusal}
use Rattle.qq_cluster_run.specs.Inputs.{Input, raw_lines_of, input_of, inputs_by, inputs_of, feed_count}
use Rattle.qq_cluster_run.specs.Reading.{Asks, Ends, read_line, read_input, says_by, says, AskFor}
use Rattle.qq_cluster_run.specs.Serving.{Histories, Behind, text_behind, audits_behind, Served, IsText}
use Rattle.qq_cluster_run.specs.Setup.{Logs, cluster_of, cluster_over, cluster_setup, new_logs}
use Rattle.qq_cluster_run.specs.Printing.{IsQuiet}
use Rattle.qq_cluster_run.specs.Runs.{BreaksOff, IsSetup}
use Rattle.qq_cluster_run.specs.Statuses.{Had, Account, first_streams, last_streams, run_over, IsFaulty, IsServed, IsRefused, TakerIsMissing, IsReadFault, PassesLimit, IsLimited}
use Rattle.qq_defs.proofs.Runnable.{plain-runnable}
use Rattle.qq_cluster_run.proofs.Exports.{plain-of}
use Rattle.qq_cluster_run.proofs.Says.{asks_for, says_within}
use Rattle.qq_cluster_run.proofs.Printing.{Settles, asked-once}

-- ---- one queue

-- one node with one queue, over new logs
abbrev of_one : ClusterSetup
of_one = cluster_of (plain_setup 1 1 1 0) new_logs

-- a setup of that
abbrev pub IsOne : Setup → Type 0
IsOne s = (log_bytes : ℕ) × (state_of s ≡ plain_setup 1 1 1 log_bytes)

one_of : (options : Options) (setup : Setup) → IsSetup options setup → options.definitions ≡ None → options.nodes ≡ 1
    → options.group ≡ 3 → options.queues ≡ 1 → IsOne setup
one_of options setup is plain nodes group one = (
  options.log_bytes,
  plain-of options setup plain is ∙ ap (λ (n : ℕ). plain_setup n options.group options.queues options.log_bytes) nodes
      ∙ ap (λ (n : ℕ). plain_setup 1 n options.queues options.log_bytes) group
      ∙ ap (λ (n : ℕ). plain_setup 1 3 n options.log_bytes) one,
)

rows-of : (s : Setup) → IsOne s → s.queues ≡ plain_rows 1 1 1
rows-of s (log_bytes, is) = ap (λ (v : SetupState). v.queues) is

over-new : (s : Setup) → IsOne s → cluster_over s new_logs ≡ of_one
over-new s (log_bytes, is) = ap (λ (v : SetupState). cluster_of v new_logs) is

over-one : (s : Setup) (logs : Logs) → IsOne s → logs ≡ new_logs → cluster_over s logs ≡ of_one
over-one s logs one new = ap (λ (l : Logs). cluster_over s l) new ∙ over-new s one

-- ---- the lines

abbrev pub publish : Input
publish = Some (codes "publish a")

abbrev pub said : ScriptLine
said = Publish (codes "a")

abbrev with_rows : Setup → List QueueRow → Setup
with_rows s rows =
    record { nodes = s.nodes; queues = rows; routes = s.routes; log_bytes = s.log_bytes; made = s.made }

reads-publish : (s : Setup) (nodes group : ℕ) → s.queues ≡ plain_rows nodes group 1
    → read_line s 1 (codes "publish a") ≡ Ok said
unfolding is_utf8 chars encode_utf8 digits read
reads-publish s nodes group rows =
    subst (λ (r : List QueueRow). read_line (with_rows s r) 1 (codes "publish a") ≡ Ok said) (sym rows) refl

pub asks-publish : (s : Setup) (nodes group : ℕ) → s.queues ≡ plain_rows nodes group 1 → says s 0 publish ≡ Asks said
asks-publish s nodes group rows = asks_for s 0 (codes "publish a") said (omega arith) (reads-publish s nodes group rows)

reads-bare : (s : Setup) → read_line s 2 (codes "publish") ≡ Err Words
unfolding is_utf8 chars encode_utf8 digits read
reads-bare s = refl

reads-long : (s : Setup) → s.queues ≡ plain_rows 1 1 1 → read_line s 2 (codes "publish =65537") ≡ Err (Body 65537)
unfolding is_utf8 chars encode_utf8 digits read
reads-long s rows =
    subst (λ (r : List QueueRow). read_line (with_rows s r) 2 (codes "publish =65537") ≡ Err (Body 65537)) (sym rows)
    refl

-- ---- the events

-- over new logs, where restarts find all that the logs were given
abbrev events_of : List ScriptLine → List ClusterEvent
events_of lines = run of_one all_given lines (new_cluster of_one)

none-found : findings (events_of []) ≡ (λ (place : ℕ). 0) ∷ []
unfolding digits put most_rounds line step carry_out act gate admit keep_answer turn_away enqueue get check_out check_out_all drain_after drop_head keep_limits give_dead give_all_dead apply_op change_log send add_entry stand lead lead_if_elected advance refuse give_vote receive_vote receive_voted take_entries refuse_entries receive_append take_ack step_back receive_appended accept receive tick submit notice change enter say_all
none-found = refl

one-found : findings (events_of (said ∷ [])) ≡ (λ (place : ℕ). 0) ∷ []
unfolding digits put most_rounds line step carry_out act gate admit keep_answer turn_away enqueue get check_out check_out_all drain_after drop_head keep_limits give_dead give_all_dead apply_op change_log send add_entry stand lead lead_if_elected advance refuse give_vote receive_vote receive_voted take_entries refuse_entries receive_append take_ack step_back receive_appended accept receive tick submit notice change enter say_all
one-found = refl

none-unasked : verdicts (events_of []) ≡ []
unfolding digits put most_rounds line step carry_out act gate admit keep_answer turn_away enqueue get check_out check_out_all drain_after drop_head keep_limits give_dead give_all_dead apply_op change_log send add_entry stand lead lead_if_elected advance refuse give_vote receive_vote receive_voted take_entries refuse_entries receive_append take_ack step_back receive_appended accept receive tick submit notice change enter say_all
none-unasked = refl

one-unasked : verdicts (events_of (said ∷ [])) ≡ []
unfolding digits put most_rounds line step carry_out act gate admit keep_answer turn_away enqueue get check_out check_out_all drain_after drop_head keep_limits give_dead give_all_dead apply_op change_log send add_entry stand lead lead_if_elected advance refuse give_vote receive_vote receive_voted take_entries refuse_entries receive_append take_ack step_back receive_appended accept receive tick submit notice change enter say_all
one-unasked = refl

-- ---- the text

none-text : text_of of_one (new_cluster of_one) (events_of []) ≡ []
unfolding digits put most_rounds line step carry_out act gate admit keep_answer turn_away enqueue get check_out check_out_all drain_after drop_head keep_limits give_dead give_all_dead apply_op change_log send add_entry stand lead lead_if_elected advance refuse give_vote receive_vote receive_voted take_entries refuse_entries receive_append take_ack step_back receive_appended accept receive tick submit notice change enter say_all
none-text = refl

worked-text : text_of of_one (new_cluster of_one) (events_of (said ∷ [])) ≡ codes "confirmed 1\n"
unfolding digits put most_rounds line step carry_out act gate admit keep_answer turn_away enqueue get check_out check_out_all drain_after drop_head keep_limits give_dead give_all_dead apply_op change_log send add_entry stand lead lead_if_elected advance refuse give_vote receive_vote receive_voted take_entries refuse_entries receive_append take_ack step_back receive_appended accept receive tick submit notice change enter say_all encoding payload fields session stamp origin body key death deaths content
worked-text = refl

worked-audits : audits_text of_one (cluster_after (new_cluster of_one) (events_of (said ∷ [])))
    ≡ codes "audit q1 0 2\n1 1 noop 1 lead\n" ++ codes "2 1 enqueue 1 1 1 confirmed 1\n"
unfolding digits put most_rounds line step carry_out act gate admit keep_answer turn_away enqueue get check_out check_out_all drain_after drop_head keep_limits give_dead give_all_dead apply_op change_log send add_entry stand lead lead_if_elected advance refuse give_vote receive_vote receive_voted take_entries refuse_entries receive_append take_ack step_back receive_appended accept receive tick submit notice change enter say_all encoding payload fields session stamp origin body key death deaths content
worked-audits = refl

-- ---- what was served

-- the laws of clusters that are used here
pub record Knows : Type 0 where
  pub settle : (setup : ClusterSetup) (lines : List ScriptLine) (events others : List ClusterEvent)
      → IsRun setup lines (new_cluster setup) events → IsRun setup lines (new_cluster setup) others
      → has_failure events ≡ false → has_failure others ≡ false → findings events ≡ findings others
      → verdicts events ≡ verdicts others → events ≡ others
  pub served : (setup : ClusterSetup) (lines : List ScriptLine) → HasGroups setup
      → IsServedBy setup lines (run setup all_given lines (new_cluster setup))
  pub begins : (s : Setup) → IsRunnable (state_of s) → HasGroups (cluster_setup s)

abbrev pub knows :
    Settles → ((setup : ClusterSetup) (lines : List ScriptLine) → HasGroups setup
    → IsServedBy setup lines (run setup all_given lines (new_cluster setup)))
    → ((s : Setup) → IsRunnable (state_of s) → HasGroups (cluster_setup s)) → Knows
knows settle served begins = record { settle = settle; served = served; begins = begins }

groups-one : Knows → (s : Setup) → IsOne s → HasGroups of_one
groups-one law s (log_bytes, is) =
    subst HasGroups (over-new s (log_bytes, is))
    (law.begins s (subst IsRunnable (sym is) (plain-runnable 1 1 1 log_bytes (omega arith) (omega arith) (omega arith))))

-- these lines ask for this, and the run was quiet
events-are : Knows → (had : Histories) (s : Setup) → IsOne s → (all left : List Input) (b : Behind had s all left)
    → IsQuiet b → (lines : List ScriptLine) → b.lines ≡ lines → findings (events_of lines) ≡ (λ (place : ℕ). 0) ∷ []
    → verdicts (events_of lines) ≡ [] → b.events ≡ events_of lines
events-are law had s one all left b quiet lines are found unasked =
    let served = law.served of_one lines (groups-one law s one) in
    let allowed : IsRun of_one lines (new_cluster of_one) b.events =
    subst (λ (c : ClusterSetup). IsRun c lines (new_cluster c) b.events) (over-one s b.logs one quiet.new)
    (subst (λ (l : List ScriptLine). IsRun (cluster_over s b.logs) l (new_cluster (cluster_over s b.logs)) b.events) are
    b.allowed) in
    law.settle of_one lines b.events (events_of lines) allowed served.is quiet.fine served.fine
    (quiet.found ∙ sym found) (quiet.unasked ∙ sym unasked)

lines-none : (had : Histories) (s : Setup) (all left : List Input) (b : Behind had s all left) → b.read ≡ []
    → b.lines ≡ []
lines-none had s all left b read =
    asked-once s 0 [] b.lines [] (subst (λ (r : List Input). AskFor s 0 r b.lines) read b.asked) tt

lines-one : (had : Histories) (s : Setup) → IsOne s → (all left : List Input) (b : Behind had s all left)
    → b.read ≡ publish ∷ [] → b.lines ≡ said ∷ []
lines-one had s one all left b read =
    asked-once s 0 (publish ∷ []) b.lines (said ∷ [])
    (subst (λ (r : List Input). AskFor s 0 r b.lines) read b.asked) (asks-publish s 1 1 (rows-of s one), tt)

text-of : (had : Histories) (s : Setup) → IsOne s → (all left : List Input) (b : Behind had s all left)
    → b.logs ≡ new_logs → (events : List ClusterEvent) → b.events ≡ events
    → text_behind b ≡ text_of of_one (new_cluster of_one) events
text-of had s one all left b new events is =
    ap (λ (c : ClusterSetup). text_of c (new_cluster c) b.events) (over-one s b.logs one new)
    ∙ ap (λ (es : List ClusterEvent). text_of of_one (new_cluster of_one) es) is

audits-of : (had : Histories) (s : Setup) → IsOne s → (all left : List Input) (b : Behind had s all left)
    → b.logs ≡ new_logs → (events : List ClusterEvent) → b.events ≡ events
    → audits_behind b ≡ audits_text of_one (cluster_after (new_cluster of_one) events)
audits-of had s one all left b new events is =
    ap (λ (c : ClusterSetup). audits_text c (cluster_after (new_cluster c) b.events)) (over-one s b.logs one new)
    ∙ ap (λ (es : List ClusterEvent). audits_text of_one (cluster_after (new_cluster of_one) es)) is

events-one : Knows → (had : Histories) (s : Setup) → IsOne s → (all left : List Input) (b : Behind had s all left)
    → IsQuiet b → b.read ≡ publish ∷ [] → b.events ≡ events_of (said ∷ [])
events-one law had s one all left b quiet read =
    events-are law had s one all left b quiet (said ∷ []) (lines-one had s one all left b read) one-found one-unasked

text-one : Knows → (had : Histories) (s : Setup) → IsOne s → (all left : List Input) (b : Behind had s all left)
    → IsQuiet b → b.read ≡ publish ∷ [] → text_behind b ≡ codes "confirmed 1\n"
text-one law had s one all left b quiet read =
    text-of had s one all left b quiet.new (events_of (said ∷ [])) (events-one law had s one all left b quiet read)
    ∙ worked-text

audits-one : Knows → (had : Histories) (s : Setup) → IsOne s → (all left : List Input) (b : Behind had s all left)
    → IsQuiet b → b.read ≡ publish ∷ []
    → audits_behind b ≡ codes "audit q1 0 2\n1 1 noop 1 lead\n" ++ codes "2 1 enqueue 1 1 1 confirmed 1\n"
audits-one law had s one all left b quiet read =
    audits-of had s one all left b quiet.new (events_of (said ∷ [])) (events-one law had s one all left b quiet read)
    ∙ worked-audits

text-none : Knows → (had : Histories) (s : Setup) → IsOne s → (all left : List Input) (b : Behind had s all left)
    → IsQuiet b → b.read ≡ [] → text_behind b ≡ []
text-none law had s one all left b quiet read =
    text-of had s one all left b quiet.new (events_of [])
    (events-are law had s one all left b quiet [] (lines-none had s all left b read) none-found none-unasked)
    ∙ none-text

-- ---- all lines were served

abbrev whole : List ℕ
whole = codes "confirmed 1\naudit q1 0 2\n1 1 noop 1 lead\n" ++ codes "2 1 enqueue 1 1 1 confirmed 1\n"

both-one : Knows → (had : Histories) (s : Setup) → IsOne s → (all left : List Input) (b : Behind had s all left)
    → IsQuiet b → b.read ≡ publish ∷ [] → text_behind b ++ audits_behind b ≡ whole
both-one law had s rows all left b quiet read =
    ap (λ (l : List ℕ). l ++ audits_behind b) (text-one law had s rows all left b quiet read)
    ∙ ap (λ (l : List ℕ). codes "confirmed 1\n" ++ l) (audits-one law had s rows all left b quiet read)

read-all : (had : Histories) (s : Setup) (bytes : List ℕ) (left : List Input) (b : Behind had s (inputs_of bytes) left) → left ≡ []
    → bytes ≡ codes "publish a\n" → b.read ≡ publish ∷ []
read-all had s bytes left b none is =
    sym (b.is ∙ ap (λ (l : List Input). b.read ++ l) none ∙ append-nil b.read) ∙ ap inputs_of is

pub served-prints : Knows → (options : Options) (s : Account) (done : IsServed options s)
    → options.definitions ≡ None → options.nodes ≡ 1 → options.group ≡ 3 → options.queues ≡ 1 → s.bytes ≡ codes "publish a\n" → IsQuiet done.over.served.behind → s.new ≡ s.old ++ whole
served-prints law options s done plain nodes group one bytes quiet =
    let over = done.over in
    let rows = one_of options over.setup over.is_setup plain nodes group one in
    let read = read-all (Had s) over.setup s.bytes over.served.left over.served.behind done.all bytes in
    done.prints ∙ ap (λ (l : List ℕ). s.old ++ l)
    (both-one law (Had s) over.setup rows (inputs_of s.bytes) over.served.left over.served.behind quiet read)

-- ---- the second line ends the script

data Splits (first second : Input) (read : List Input) (input : Input) : Type 0 where
  AtFirst : read ≡ [] → input ≡ first → Splits first second read input
  AtSecond : read ≡ first ∷ [] → input ≡ second → Splits first second read input

splits : (first second : Input) (read : List Input) (input : Input) (more : List Input)
    → first ∷ second ∷ [] ≡ read ++ input ∷ more → Splits first second read input
splits first second [] input more is = AtFirst refl cc
splits first second (r ∷ []) input more is =
    let same : first ≡ r = cc in
    AtSecond (ap (λ (i : Input). i ∷ []) (sym same)) cc
splits first second (r ∷ q ∷ read) input more is =
    let none : [] ≡ read ++ input ∷ more = cc in
    absurd (by read none)
  where
    by : (front : List Input) → [] ≡ front ++ input ∷ more → ⊥
    by [] e = absurd cc
    by (x ∷ front) e = absurd cc

split-of : (had : Histories) (s : Setup) (bytes : List ℕ) (left : List Input) (b : Behind had s (inputs_of bytes) left) (input : Input)
    (more : List Input) (second : Input) → left ≡ input ∷ more → inputs_of bytes ≡ publish ∷ second ∷ []
    → Splits publish second b.read input
split-of had s bytes left b input more second is all =
    splits publish second b.read input more (sym all ∙ b.is ∙ ap (λ (l : List Input). b.read ++ l) is)

no-fault : (s : Setup) (input : Input) (fault : ScriptFault) → s.queues ≡ plain_rows 1 1 1 → input ≡ publish
    → read_input s 1 input ≡ Err fault → ⊥
no-fault s input fault rows is reads =
    let e : Ok said ≡ Err fault =
    sym (reads-publish s 1 1 rows) ∙ sym (ap (read_input s 1) is) ∙ reads in absurd cc

refused-text : (fault : ScriptFault) (lines : ℕ) → fault ≡ Words → lines ≡ 1
    → codes "line " ++ decimal (lines + 1) ++ codes ": " ++ fault_text fault ++ codes "\n" ≡ codes "line 2: words\n"
unfolding digits
refused-text fault lines words one =
    ap (λ (f : ScriptFault). codes "line " ++ decimal (lines + 1) ++ codes ": " ++ fault_text f ++ codes "\n") words
    ∙ ap (λ (n : ℕ). codes "line " ++ decimal (n + 1) ++ codes ": " ++ codes "words" ++ codes "\n") one

-- neither line is to give a taker
no-missing : (options : Options) (s : Account) (so : IsRefused options s) → IsOne so.over.setup
    → Splits publish (Some (codes "publish")) so.over.served.behind.read so.input → TakerIsMissing so.over so.input → ⊥
no-missing options s so rows (AtFirst read is) missing =
    let e : Asks said ≡ Asks (Attach missing.by missing.at missing.tag missing.number) =
    sym (asks-publish so.over.setup 1 1 (rows-of so.over.setup rows)) ∙ sym (ap (says so.over.setup 0) is)
    ∙ ap (λ (r : List Input). says so.over.setup (length r) so.input) (sym read) ∙ missing.asks in
    absurd cc
no-missing options s so rows (AtSecond read is) missing =
    let e : Ends (refusal 2 Words) ≡ Asks (Attach missing.by missing.at missing.tag missing.number) =
    sym (says_within so.over.setup 1 (Some (codes "publish")) (omega arith) ∙ ap (says_by 2) (reads-bare so.over.setup))
    ∙ sym (ap (says so.over.setup 1) is)
    ∙ ap (λ (r : List Input). says so.over.setup (length r) so.input) (sym read) ∙ missing.asks in
    absurd cc

refused-reads : (options : Options) (s : Account) (so : IsRefused options s) → IsOne so.over.setup
    → Splits publish (Some (codes "publish")) so.over.served.behind.read so.input
    → read_input so.over.setup (length so.over.served.behind.read + 1) so.input ≡ Err so.fault
refused-reads options s so rows at = by so.faulty
  where
    by : IsFaulty so.over so.input so.fault
        → read_input so.over.setup (length so.over.served.behind.read + 1) so.input ≡ Err so.fault
    by (inl reads) = reads
    by (inr (is, missing)) = absurd (no-missing options s so rows at missing)

refused-by : Knows → (options : Options) (s : Account) (so : IsRefused options s)
    → IsOne so.over.setup → IsQuiet so.over.served.behind
    → Splits publish (Some (codes "publish")) so.over.served.behind.read so.input
    → s.new ≡ s.old ++ codes "confirmed 1\nline 2: words\n"
refused-by law options s so rows quiet (AtFirst read is) =
    let reads : read_input so.over.setup 1 so.input ≡ Err so.fault =
    sym (ap (λ (r : List Input). read_input so.over.setup (length r + 1) so.input) read)
    ∙ refused-reads options s so rows (AtFirst read is) in
    absurd (no-fault so.over.setup so.input so.fault (rows-of so.over.setup rows) is reads)
refused-by law options s so rows quiet (AtSecond read is) =
    let lines : length so.over.served.behind.read ≡ 1 = ap length read in
    let reads : Err so.fault ≡ Err Words =
    sym (refused-reads options s so rows (AtSecond read is)) ∙ ap (λ (n : ℕ). read_input so.over.setup (n + 1) so.input) lines
    ∙ ap (read_input so.over.setup 2) is ∙ reads-bare so.over.setup in
    let words : so.fault ≡ Words = cc in
    so.prints ∙ ap (λ (l : List ℕ). s.old ++ l)
    (ap (λ (l : List ℕ). l ++ (codes "line " ++ decimal (length so.over.served.behind.read + 1) ++ codes ": "
    ++ fault_text so.fault ++ codes "\n"))
    (text-one law (Had s) so.over.setup rows (inputs_of s.bytes) so.over.served.left so.over.served.behind quiet read)
    ∙ ap (λ (l : List ℕ). codes "confirmed 1\n" ++ l)
    (refused-text so.fault (length so.over.served.behind.read) words lines))

pub refused-prints : Knows → (options : Options) (s : Account) (so : IsRefused options s)
    → options.definitions ≡ None → options.nodes ≡ 1 → options.group ≡ 3 → options.queues ≡ 1 → s.bytes ≡ codes "publish a\npublish\n" → IsQuiet so.over.served.behind
    → s.new ≡ s.old ++ codes "confirmed 1\nline 2: words\n"
refused-prints law options s so plain nodes group one bytes quiet =
    refused-by law options s so (one_of options so.over.setup so.over.is_setup plain nodes group one) quiet
    (split-of (Had s) so.over.setup s.bytes so.over.served.left so.over.served.behind so.input so.is_next.0
    (Some (codes "publish")) so.is_next.1 (ap inputs_of bytes))

limited-by : Knows → (options : Options) (s : Account) (so : IsLimited options s)
    → IsOne so.over.setup → IsQuiet so.over.served.behind
    → Splits publish (Some (codes "publish =65537")) so.over.served.behind.read so.input
    → PassesLimit so.over.setup (run_over so.over).lines so.input so.text
    → s.new ≡ s.old ++ codes "confirmed 1\nlimit body 65537\n"
unfolding digits
limited-by law options s so rows quiet (AtFirst read is) (inl (le, text)) =
    let lines : length so.over.served.behind.read ≡ 0 = ap length read in
    absurd (omega (arith, lines, le))
limited-by law options s so rows quiet (AtFirst read is) (inr (size, reads, text)) =
    let again : read_input so.over.setup 1 so.input ≡ Err (Body size) =
    sym (ap (λ (r : List Input). read_input so.over.setup (length r + 1) so.input) read) ∙ reads in
    absurd (no-fault so.over.setup so.input (Body size) (rows-of so.over.setup rows) is again)
limited-by law options s so rows quiet (AtSecond read is) (inl (le, text)) =
    let lines : length so.over.served.behind.read ≡ 1 = ap length read in
    absurd (omega (arith, lines, le))
limited-by law options s so rows quiet (AtSecond read is) (inr (size, reads, text)) =
    let lines : length so.over.served.behind.read ≡ 1 = ap length read in
    let again : Err (Body size) ≡ Err (Body 65537) =
    sym reads ∙ ap (λ (n : ℕ). read_input so.over.setup (n + 1) so.input) lines
    ∙ ap (read_input so.over.setup 2) is ∙ reads-long so.over.setup (rows-of so.over.setup rows) in
    let body : Body size ≡ Body 65537 = cc in
    let sized : size ≡ 65537 = cc in
    so.prints ∙ ap (λ (l : List ℕ). s.old ++ l)
    (ap (λ (l : List ℕ). l ++ so.text)
    (text-one law (Had s) so.over.setup rows (inputs_of s.bytes) so.over.served.left so.over.served.behind quiet read)
    ∙ ap (λ (l : List ℕ). codes "confirmed 1\n" ++ l)
    (text ∙ ap (λ (n : ℕ). codes "limit body " ++ decimal n ++ codes "\n") sized))

pub limited-prints : Knows → (options : Options) (s : Account) (so : IsLimited options s)
    → options.definitions ≡ None → options.nodes ≡ 1 → options.group ≡ 3 → options.queues ≡ 1 → s.bytes ≡ codes "publish a\npublish =65537\n" → IsQuiet so.over.served.behind
    → s.new ≡ s.old ++ codes "confirmed 1\nlimit body 65537\n"
limited-prints law options s so plain nodes group one bytes quiet =
    limited-by law options s so (one_of options so.over.setup so.over.is_setup plain nodes group one) quiet
    (split-of (Had s) so.over.setup s.bytes so.over.served.left so.over.served.behind so.input so.is_next.0
    (Some (codes "publish =65537")) so.is_next.1 (ap inputs_of bytes)) so.passes

-- ---- the source fails in the second line

-- at most one line
data IsPiece (inputs : List Input) : Type 0 where
  IsNone : inputs ≡ [] → IsPiece inputs
  IsSingle : (input : Input) → inputs ≡ input ∷ [] → IsPiece inputs

data IsRaw (raws : List (List ℕ)) : Type 0 where
  NoRaw : raws ≡ [] → IsRaw raws
  OneRaw : (raw : List ℕ) → raws ≡ raw ∷ [] → IsRaw raws

raw-onto : (b : ℕ) (raws : List (List ℕ)) → IsRaw raws → IsRaw (onto_first b raws)
raw-onto b raws (NoRaw is) = OneRaw (b ∷ []) (ap (onto_first b) is)
raw-onto b raws (OneRaw raw is) = OneRaw (b ∷ raw) (ap (onto_first b) is)

raw-piece : (piece : List ℕ) → HasNoFeed piece → IsRaw (raw_lines_of piece)
raw-piece [] none = NoRaw refl
raw-piece (b ∷ bs) (other, none) = rw other (raw-onto b (raw_lines_of bs) (raw-piece bs none))

by-raw : (raws lines : List (List ℕ)) → IsRaw raws → IsPiece (inputs_by raws lines)
by-raw raws lines (NoRaw is) = IsNone (ap (λ (r : List (List ℕ)). inputs_by r lines) is)
by-raw raws [] (OneRaw raw is) = IsNone (ap (λ (r : List (List ℕ)). inputs_by r []) is)
by-raw raws (line ∷ lines) (OneRaw raw is) =
    IsSingle (input_of raw line) (ap (λ (r : List (List ℕ)). inputs_by r (line ∷ lines)) is)

piece-inputs : (piece : List ℕ) → HasNoFeed piece → IsPiece (inputs_of piece)
piece-inputs piece none = by-raw (raw_lines_of piece) (lines_of piece) (raw-piece piece none)

-- the second line asks for nothing
asked-first : (s : Setup) (before : ℕ) (input : Input) (inputs : List Input) (line : ScriptLine) (lines : List ScriptLine)
    → AskFor s before (input ∷ inputs) (line ∷ lines) → says s before input ≡ Asks line
asked-first s before input inputs line lines (is, rest) = is

asked-rest : (s : Setup) (before : ℕ) (input : Input) (inputs : List Input) (line : ScriptLine) (lines : List ScriptLine)
    → AskFor s before (input ∷ inputs) (line ∷ lines) → AskFor s (before + 1) inputs lines
asked-rest s before input inputs line lines (is, rest) = rest

not-second : (s : Setup) (lines : List ScriptLine) → AskFor s 1 (Some (codes "publish") ∷ []) lines → ⊥
not-second s [] asked = absurd asked
not-second s (other ∷ more) asked =
    let e : Ends (refusal 2 Words) ≡ Asks other =
    sym (says_within s 1 (Some (codes "publish")) (omega arith) ∙ ap (says_by 2) (reads-bare s))
    ∙ asked-first s 1 (Some (codes "publish")) [] other more asked in
    absurd cc

not-both : (s : Setup) (read : List Input) (lines : List ScriptLine) → read ≡ publish ∷ Some (codes "publish") ∷ []
    → AskFor s 0 read lines → ⊥
not-both s read [] is asked = absurd (subst (λ (r : List Input). AskFor s 0 r []) is asked)
not-both s read (line ∷ lines) is asked =
    not-second s lines
    (asked-rest s 0 publish (Some (codes "publish") ∷ []) line lines
    (subst (λ (r : List Input). AskFor s 0 r (line ∷ lines)) is asked))

read-first : (read : List Input) (input : Input) → publish ∷ Some (codes "publish") ∷ [] ≡ read ++ input ∷ []
    → Splits publish (Some (codes "publish")) read input → read ≡ publish ∷ []
read-first read input is (AtSecond first second) = first
read-first read input is (AtFirst none first) =
    let short : publish ∷ Some (codes "publish") ∷ [] ≡ input ∷ [] =
    is ∙ ap (λ (r : List Input). r ++ input ∷ []) none in
    absurd cc

fault-read : (had : Histories) (s : Setup) (all left : List Input) (b : Behind had s all left)
    → all ≡ publish ∷ Some (codes "publish") ∷ [] → IsPiece left → b.read ≡ publish ∷ []
fault-read had s all left b is (IsNone none) =
    let whole_read : b.read ≡ publish ∷ Some (codes "publish") ∷ [] =
    sym (b.is ∙ ap (λ (l : List Input). b.read ++ l) none ∙ append-nil b.read) ∙ is in
    absurd (not-both s b.read b.lines whole_read b.asked)
fault-read had s all left b is (IsSingle input one) =
    let parts : publish ∷ Some (codes "publish") ∷ [] ≡ b.read ++ input ∷ [] =
    sym is ∙ b.is ∙ ap (λ (l : List Input). b.read ++ l) one in
    read-first b.read input parts (splits publish (Some (codes "publish")) b.read input [] parts)

pub fault-prints : Knows → (options : Options) (s : Account) (so : IsReadFault options s)
    → options.definitions ≡ None → options.nodes ≡ 1 → options.group ≡ 3 → options.queues ≡ 1 → s.bytes ≡ codes "publish a\npublish" → s.rest ≡ [] → IsQuiet so.over.served.behind
    → s.new ≡ s.old ++ codes "confirmed 1\nread fault\n"
fault-prints law options s so plain nodes group one bytes rest quiet =
    let served = so.over.served in
    let rows = one_of options so.over.setup so.over.is_setup plain nodes group one in
    let unread : served.left ≡ inputs_of served.piece =
    served.unread ∙ ap (λ (l : List ℕ). inputs_of (served.piece ++ l)) rest
    ∙ ap inputs_of (append-nil served.piece) in
    let few : IsPiece served.left = subst IsPiece (sym unread) (piece-inputs served.piece so.piece) in
    let read : served.behind.read ≡ publish ∷ [] =
    fault-read (Had s) so.over.setup (inputs_of s.bytes) served.left served.behind (ap inputs_of bytes) few in
    so.prints ∙ ap (λ (l : List ℕ). s.old ++ l)
    (ap (λ (l : List ℕ). l ++ codes "read fault\n")
    (text-one law (Had s) so.over.setup rows (inputs_of s.bytes) served.left served.behind quiet read))

-- ---- a run breaks off

front-of : (text said unsaid : List ℕ) → text ≡ said ++ unsaid → IsFront text whole → IsFront said whole
front-of text said unsaid parts front = record {
  rest = unsaid ++ front.rest;
  is = front.is ∙ ap (λ (l : List ℕ). l ++ front.rest) parts ∙ append_assoc said unsaid front.rest;
}

-- the first lines of one line
data Reads (read left : List Input) : Type 0 where
  ReadNone : read ≡ [] → (input : Input) (more : List Input) → left ≡ input ∷ more → Reads read left
  ReadOne : read ≡ publish ∷ [] → Reads read left

reads-of : (read left : List Input) → publish ∷ [] ≡ read ++ left → Reads read left
reads-of [] left is = ReadNone refl publish [] (sym is)
reads-of (r ∷ []) left is =
    let same : publish ≡ r = cc in ReadOne (ap (λ (i : Input). i ∷ []) (sym same))
reads-of (r ∷ q ∷ read) left is = absurd cc

text-front : Knows → (had : Histories) (s : Setup) → IsOne s → (bytes : List ℕ) (rest : Option (List ℕ))
    → (served : Served had s bytes rest) → IsQuiet served.behind → (text : List ℕ) → IsText served text
    → Reads served.behind.read served.left → IsFront text whole
text-front law had s rows bytes rest served quiet text (inl is) (ReadNone read input more left) =
    record {
      rest = whole;
      is = sym (ap (λ (l : List ℕ). l ++ whole)
          (is ∙ text-none law had s rows (inputs_of bytes) served.left served.behind quiet read));
    }
text-front law had s rows bytes rest served quiet text (inl is) (ReadOne read) =
    record {
      rest = codes "audit q1 0 2\n1 1 noop 1 lead\n" ++ codes "2 1 enqueue 1 1 1 confirmed 1\n";
      is = sym (ap (λ (l : List ℕ). l
          ++ (codes "audit q1 0 2\n1 1 noop 1 lead\n" ++ codes "2 1 enqueue 1 1 1 confirmed 1\n"))
          (is ∙ text-one law had s rows (inputs_of bytes) served.left served.behind quiet read));
    }
text-front law had s rows bytes rest served quiet text (inr (none, is)) (ReadNone read input more left) =
    let e : [] ≡ input ∷ more = sym none ∙ left in absurd cc
text-front law had s rows bytes rest served quiet text (inr (none, is)) (ReadOne read) =
    let same : text ≡ whole =
    is ∙ both-one law had s rows (inputs_of bytes) served.left served.behind quiet read in
    record { rest = []; is = sym same ∙ sym (append-nil text) }

-- the source fails behind the first line, which was read whole

reads-one : (read left : List Input) → Reads read left → 1 ≤ length read → read ≡ publish ∷ []
reads-one read left (ReadNone none input more is) some =
    let empty : length read ≡ 0 = ap length none in absurd (omega (arith, empty, some))
reads-one read left (ReadOne is) some = is

pub whole-fault-prints : Knows → (options : Options) (s : Account) (so : IsReadFault options s)
    → options.definitions ≡ None → options.nodes ≡ 1 → options.group ≡ 3 → options.queues ≡ 1 → s.bytes ≡ codes "publish a\n" → s.rest ≡ [] → IsQuiet so.over.served.behind
    → s.new ≡ s.old ++ codes "confirmed 1\nread fault\n"
whole-fault-prints law options s so plain nodes group one bytes rest quiet =
    let served = so.over.served in
    let rows = one_of options so.over.setup so.over.is_setup plain nodes group one in
    let read : s.bytes ≡ s.bytes ++ s.rest =
    sym (append-nil s.bytes) ∙ ap (λ (l : List ℕ). s.bytes ++ l) (sym rest) in
    let feeds : feed_count s.bytes ≡ 1 = ap feed_count bytes in
    let some : 1 ≤ length served.behind.read = subst (λ (n : ℕ). n ≤ length served.behind.read) feeds (so.all s.bytes read) in
    let parts : publish ∷ [] ≡ served.behind.read ++ served.left = sym (ap inputs_of bytes) ∙ served.behind.is in
    so.prints ∙ ap (λ (l : List ℕ). s.old ++ l)
    (ap (λ (l : List ℕ). l ++ codes "read fault\n")
    (text-one law (Had s) so.over.setup rows (inputs_of s.bytes) served.left served.behind quiet
    (reads-one served.behind.read served.left (reads-of served.behind.read served.left parts) some)))

pub cut-prints : Knows → (options : Options) (s : Account) (setup : Setup) → IsSetup options setup
    → (more : List ℕ) (so : BreaksOff (Had s) setup s.bytes (first_streams s) (last_streams s) more)
    → options.definitions ≡ None → options.nodes ≡ 1 → options.group ≡ 3 → options.queues ≡ 1
    → s.bytes ≡ codes "publish a\n" → IsQuiet so.served.behind
    → (said : List ℕ) × (s.new ≡ s.old ++ (said ++ more)) × IsFront said whole
cut-prints law options s setup is more so plain nodes group one bytes quiet =
    let rows = one_of options setup is plain nodes group one in
    let parts : publish ∷ [] ≡ so.served.behind.read ++ so.served.left =
    sym (ap inputs_of bytes) ∙ so.served.behind.is in (
      so.said,
      so.written,
      front-of so.text so.said so.unsaid so.parts
          (text-front law (Had s) setup rows s.bytes (Some s.rest) so.served quiet so.text so.is
          (reads-of so.served.behind.read so.served.left parts)),
    )
