use Rattle.std.proofs.Common.{◌≡◌, true, rules}
use Rattle.qq_dir_disk.proofs.Syncs.{has-synced}
use Rattle.qq_dir_disk.proofs.dir_disk.DirDisk.flush.Goals as goal

pub returns-clause-synced : goal.returns-clause-synced
returns-clause-synced g c =
    let handle = c.in-Some.handle in
    let named : handle.name ≡ c.args.name = search rules in
    let synced : g.R.File.DiskFile.is_synced handle.file ≡ true = search rules in
    let same : c.sync_folder.new.self.handles.files.items ≡ c.keep_open.new.self.handles.files.items = search rules in
    has-synced g.R.File.DiskFile.is_synced c.args.name c.args.self.now.handles.files.items
    c.open.new.self.handles.files.items c.keep_open.new.self.handles.files.items
    c.sync_folder.new.self.handles.files.items handle named synced c.in_ok-handle.ensures.handles
    c.keep_open.ensures.handles same
