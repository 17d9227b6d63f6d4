-- A union that is made.
use Rattle.std.proofs.Common.{◌≡◌, Bool, false, ◌==◌, ap, sym}
use Rattle.std.specs.Prelude.{Ok}
use Rattle.std.specs.List.{list_any}
use Rattle.vfs_tree.specs.Place.{Seen}
use Rattle.vfs_tree.specs.Layers.{depth, stores}
use Rattle.vfs_tree.specs.Steps.{refuse_if}
use Rattle.vfs_tree.specs.Views.{facts_of}
use Rattle.vfs_tree.specs.declared.errno.Errno.{Errno}
use Rattle.vfs_tree.specs.declared.errno.Errno.TheVariants as errno
use Rattle.vfs_tree.specs.declared.mount.MountKind.TheVariants as kind
use Rattle.vfs_tree.specs.declared.walk.Found.{Found}
use Rattle.vfs_tree.specs.declared.walk.NodeId.{NodeId}
use Rattle.vfs_tree.specs.declared.walk.Step.TheVariants.{Go}
use Rattle.vfs_tree.specs.declared.world.World.{World}
use Rattle.call_model.specs.Checks.{Doing, dir_at}
use Rattle.call_model.specs.MountRows.{check_mounts, most_depth, mount_union, upper_of, with_mount}
use Rattle.call_model.specs.declared.reply.Reply.TheVariants as reply
use Rattle.plain_checks.specs.Coming.{Answers}
use Rattle.plain_checks.specs.declared.answer.Answer.{Answer}
use Rattle.plain_checks.proofs.Binding.{goes_answer}

-- a check that doesn't hold
passed : (b : Bool) (e : Errno) → b ≡ false → let step : Doing (Unit {0}) = refuse_if b e in step ≡ Go tt
passed b e is = ap (λ x. refuse_if x e) is

pub union_made : (w new : World) (a b : Found) (up on : Seen) (upper : NodeId) (answer : Answer) → dir_at w a ≡ Go up → dir_at w b ≡ Go on → upper_of up ≡ Go upper
    → list_any (λ s. s == upper.store) (stores (facts_of w) on) ≡ false → (depth (facts_of w) on == most_depth) ≡ false → check_mounts w ≡ Go tt
    → new ≡ with_mount w (kind.Union upper.store upper.ino on) on → answer.reply ≡ reply.Done → Answers (mount_union w a b) w new (Ok answer)
union_made w new a b up on upper answer first second third apart low room made done =
    goes_answer (dir_at w a) _ up w new (Ok answer) first
    (goes_answer (dir_at w b) _ on w new (Ok answer) second
    (goes_answer (upper_of up) _ upper w new (Ok answer) third
    (goes_answer (refuse_if (list_any (λ s. s == upper.store) (stores (facts_of w) on)) errno.EINVAL) _ tt w new (Ok answer) (passed _ errno.EINVAL apart)
    (goes_answer (refuse_if (depth (facts_of w) on == most_depth) errno.ELOOP) _ tt w new (Ok answer) (passed _ errno.ELOOP low)
    (goes_answer (check_mounts w) _ tt w new (Ok answer) room
    (λ i. Go (sym made i, sym done i)))))))
