use Rattle.std.proofs.Common.{ap, ◌∙◌}
use Rattle.mem_fs.specs.FileSystem.{FileSystem, without}
use Rattle.mem_fs.proofs.Looks.{seen-forgotten}
use Rattle.mem_fs.proofs.KeptLaws.{kept-forgotten}
use Rattle.mem_fs.proofs.Calls.{unnamed_of, bare_by_names}
use Rattle.mem_fs.proofs.fs.MemFs.forget.Goals as goal

pub take_names-requires : goal.take_names-requires
take_names-requires c = unnamed_of c.self.inside.nodes c.self.inside.next c.args.self.now c.args.ino c.self.view_is c.self.invariant c.requires.unnamed

pub invariant_of-self : goal.invariant_of-self
invariant_of-self c = kept-forgotten c.take_names.new.nodes _ c.self.inside.next c.args.ino (c.take_names.ensures.kept c.self.inside.next c.self.invariant)
    (bare_by_names c.take_names.new.nodes c.args.ino c.take_names.ensures.names) c.take_names.ensures.unnamed c.remove.ensures.removed

pub returns : goal.returns
returns c = seen-forgotten c.take_names.new.nodes _ c.self.inside.next c.args.ino c.args.self.now
    (c.take_names.ensures.rest c.self.inside.next ∙ ap (λ (x : FileSystem). without x c.args.ino) c.self.view_is) c.remove.ensures.removed
