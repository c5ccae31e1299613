use Rattle.std.proofs.Common.{◌≡◌, Some, None, cond, rules}
use Rattle.qq_disk.specs.declared.name.FileName.{FileName}
use Rattle.qq_disk.specs.Name.{same_name}
use Rattle.qq_disk.specs.Image.{is_file, remainder}
use Rattle.qq_mem_disk.specs.Files.{disk_of}
use Rattle.qq_mem_disk.specs.Crashed.{put_remainder}
use Rattle.qq_mem_disk.proofs.Moved.{one_moved}
use Rattle.qq_mem_disk.proofs.crash.crash_files.Goals as goal

pub loop-name-preserved : goal.loop-name-preserved
loop-name-preserved c =
    let rest = disk_of c.loop-name.rest in
    let next = disk_of c.pop_first.new.self in
    let here : rest c.in-Some.name ≡ Some c.in-Some.file = search rules in
    let taken : (file : FileName) → next file ≡ cond (same_name c.in-Some.name file) None (rest file) = search rules
    in
    let left : disk_of c.put_remainder.new.after ≡ put_remainder (disk_of c.loop-name.after) c.in-Some.name
    (remainder c.args.image.now (is_file c.newest_log-newest.result c.in-Some.name)
    (Some c.in-Some.file)) = search rules in
    one_moved c.args.image.now c.newest_log-newest.result (disk_of c.args.files) rest (disk_of c.loop-name.after)
    next (disk_of c.put_remainder.new.after) c.in-Some.name c.in-Some.file c.loop-name.invariant here taken left
