use Rattle.std.proofs.Common.{ap, sym, subst, ◌∙◌}
use Rattle.std.specs.FinMap.{get}
use Rattle.vfs_tree.specs.Limits.{IsCaller}
use Rattle.vfs_core.specs.Kernel.{IsKept, Kernel}
use Rattle.vfs_core.proofs.KernLaws.{kept-begin, kept-room}
use Rattle.vfs_core.proofs.RoomLaws.{rooms-back, rooms-begin, rooms-idle}
use Rattle.vfs_core.proofs.kern.Kern.begin.Goals as goal

pub invariant_of-self-in-Ok-try_insert : goal.invariant_of-self-in-Ok-try_insert
invariant_of-self-in-Ok-try_insert c =
    let idle = ap (λ (k : Kernel). get k.pending c.args.caller) c.self.view_is ∙ c.requires.idle in
    let caller = subst (λ (k : Kernel). IsCaller k.limits c.args.caller) (sym c.self.view_is) c.requires.caller in (
      kept-begin _ _ _ _ _ _ c.args.caller c.args.call c.self.invariant.0 c.widen.ensures.kept c.in-Ok.ensures.wider c.in-Ok-try_insert.ensures.ok idle caller,
      rooms-begin _ _ _ _ c.args.caller c.args.call c.self.invariant.1 idle c.make_room.ensures.others c.in-Ok-make_room.ensures.room c.in-Ok-try_insert.ensures.ok,
    )

pub returns-in-Ok-try_insert-clause-legal : goal.returns-in-Ok-try_insert-clause-legal
returns-in-Ok-try_insert-clause-legal c = (invariant_of-self-in-Ok-try_insert c).0.legal

pub invariant_of-self : goal.invariant_of-self
invariant_of-self c = (kept-room _ _ _ _ _ c.self.invariant.0 c.widen.ensures.kept c.widen.ensures.never_less, c.self.invariant.1)

pub invariant_of-self-in-Err-make_room : goal.invariant_of-self-in-Err-make_room
invariant_of-self-in-Err-make_room c =
    let idle = ap (λ (k : Kernel). get k.pending c.args.caller) c.self.view_is ∙ c.requires.idle in
    (kept-room _ _ _ _ _ c.self.invariant.0 c.widen.ensures.kept c.widen.ensures.never_less, rooms-idle _ _ _ c.args.caller c.self.invariant.1 idle c.make_room.ensures.others)

pub invariant_of-self-in-Err-try_insert : goal.invariant_of-self-in-Err-try_insert
invariant_of-self-in-Err-try_insert c =
    let idle = ap (λ (k : Kernel). get k.pending c.args.caller) c.self.view_is ∙ c.requires.idle in
    let same = c.in-Err-try_insert.ensures.err in (
      subst (λ p. IsKept c.self.inside.limits c.self.inside.world c.widen.new.self p) (sym same) (kept-room _ _ _ _ _ c.self.invariant.0 c.widen.ensures.kept c.widen.ensures.never_less),
      rooms-back _ _ _ _ _ c.args.caller c.self.invariant.1 idle c.make_room.ensures.others c.take_room.ensures.others same,
    )
