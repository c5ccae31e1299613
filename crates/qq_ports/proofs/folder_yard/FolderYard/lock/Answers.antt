use Rattle.std.proofs.Common.{◌≡◌, ◌++◌, ◌∷◌, [], rules}
use Rattle.qq_ports.proofs.Roots.{has-root_more}
use Rattle.qq_ports.proofs.folder_yard.FolderYard.lock.Goals as goal

pub returns-in-Ok-Some-clause-locked : goal.returns-in-Ok-Some-clause-locked
returns-in-Ok-Some-clause-locked g c =
    let root = c.in-Ok-Some.root in
    let same : root.path.bytes.items ≡ c.args.path.now = search rules in
    let more : c.push_reserved.new.self.items ≡ c.args.self.now.roots.items ++ root ∷ [] = search rules in
    has-root_more c.args.path.now c.args.self.now.roots.items c.push_reserved.new.self.items root same more
