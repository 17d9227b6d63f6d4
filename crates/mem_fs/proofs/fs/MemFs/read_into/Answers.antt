use Rattle.std.proofs.Common.{sym, ap, ◌∙◌, ◌++◌, ◌-◌, take, drop, length}
use Rattle.std.specs.Prelude.{Some, None}
use Rattle.mem_fs.specs.FileSystem.{bytes_in}
use Rattle.mem_fs.proofs.Looks.{looked, no_bytes, no_length}
use Rattle.mem_fs.proofs.fs.MemFs.read_into.Goals as goal

pub returns-in-Some-clause-bytes : goal.returns-in-Some-clause-bytes
returns-in-Some-clause-bytes c = c.read_into.ensures.bytes ∙ ap (λ o. c.args.into.now.bytes ++ take c.args.most (drop c.args.at (bytes_in o)))
    (sym (looked c.self.inside.nodes c.self.inside.next c.args.self.now c.args.ino (Some _) c.self.view_is c.in-Some.ensures))

pub returns-in-Some-clause-spare : goal.returns-in-Some-clause-spare
returns-in-Some-clause-spare c = c.read_into.ensures.spare ∙ ap (λ o. c.args.into.now.spare - length (take c.args.most (drop c.args.at (bytes_in o))))
    (sym (looked c.self.inside.nodes c.self.inside.next c.args.self.now c.args.ino (Some _) c.self.view_is c.in-Some.ensures))

pub returns-in-None-clause-bytes : goal.returns-in-None-clause-bytes
returns-in-None-clause-bytes c = no_bytes c.args.into.now.bytes c.args.most c.args.at ∙ ap (λ o. c.args.into.now.bytes ++ take c.args.most (drop c.args.at (bytes_in o)))
    (sym (looked c.self.inside.nodes c.self.inside.next c.args.self.now c.args.ino None c.self.view_is c.in-None.ensures))

pub returns-in-None-clause-spare : goal.returns-in-None-clause-spare
returns-in-None-clause-spare c = no_length c.args.into.now.spare c.args.most c.args.at ∙ ap (λ o. c.args.into.now.spare - length (take c.args.most (drop c.args.at (bytes_in o))))
    (sym (looked c.self.inside.nodes c.self.inside.next c.args.self.now c.args.ino None c.self.view_is c.in-None.ensures))
