use Rattle.std.proofs.Common.{◌∙◌, ◌≡◌, List, ap, refl, IsTrue}
use Rattle.std.proofs.lemmas.Result.{on_ok_weaker, IfErr-weaker}
use Rattle.std.specs.Io.KnownBytes.{Appends}
use Rattle.qq_disk.specs.Disk.{now}
use Rattle.qq_dump.specs.declared.fault.DumpFault.{DumpFault}
use Rattle.qq_dump.specs.Files.{AreShown, LogFile, dump_text, log_files}
use Rattle.qq_dump.specs.Listed.{files_of, log_numbers}
use Rattle.qq_dump.specs.Written.{WritesFirst}
use Rattle.qq_dump.proofs.Listed.{all-shown}
use Rattle.qq_dump.proofs.Written.{nothing, unread}
use Rattle.qq_dump.proofs.logs.dump.Goals as goal

pub returns-in-Err-clause-err : goal.returns-in-Err-clause-err
returns-in-Err-clause-err g c =
    let files = log_files (now (g.D.NodeDisk.facts.past c.args.disk.now)) in
    (files, λ told. refl, unread c.in-Err.fault c.from.result (g.O.Sink.written c.args.output.now) files c.from.ensures)

pub returns-in-Err-log_numbers-clause-err : goal.returns-in-Err-log_numbers-clause-err
returns-in-Err-log_numbers-clause-err g c =
    let files = log_files (now (g.D.NodeDisk.facts.past c.args.disk.now)) in
    (files, λ told. refl, nothing (g.O.Sink.written c.args.output.now) files)

pub returns-clause-ok : goal.returns-clause-ok
returns-clause-ok g c =
    let disk = g.D.NodeDisk in
    let sink = g.O.Sink in
    on_ok_weaker c.dump_logs.result
    (all-shown disk.facts c.args.disk.now c.names.new.self c.in-Ok.names.items c.as_slice-2.result.now
    c.names.ensures.told c.names.ensures.same c.in-Ok.ensures.ok
    (c.as_slice-2.ensures.value ∙ c.in-Ok-log_numbers.ensures.ok ∙ ap log_numbers c.as_slice.ensures.value)
    c.dump_logs.ensures.range
    (λ (files : List LogFile). Appends (sink.written c.args.output.now) (sink.written c.dump_logs.new.output)
    (dump_text files)))
    c.dump_logs.ensures.ok

pub returns-clause-err : goal.returns-clause-err
returns-clause-err g c =
    let disk = g.D.NodeDisk in
    let sink = g.O.Sink in
    let First : DumpFault → List LogFile → Type 0 =
    λ fault files. WritesFirst fault (sink.written c.args.output.now) (sink.written c.dump_logs.new.output) files in
    IfErr-weaker c.dump_logs.result
    (λ fault. (files : List LogFile)
    × (IsTrue (disk.facts.tells c.names.new.self) → files ≡ files_of (now (disk.facts.past c.names.new.self))
    c.as_slice-2.result.now)
    × First fault files)
    (λ fault. (files : List LogFile) × AreShown disk.facts c.args.disk.now files × First fault files)
    (λ fault. all-shown disk.facts c.args.disk.now c.names.new.self c.in-Ok.names.items c.as_slice-2.result.now
    c.names.ensures.told c.names.ensures.same c.in-Ok.ensures.ok
    (c.as_slice-2.ensures.value ∙ c.in-Ok-log_numbers.ensures.ok ∙ ap log_numbers c.as_slice.ensures.value)
    c.dump_logs.ensures.range (First fault))
    c.dump_logs.ensures.err
