-- Callers that are leaving a mount: their call is a forced unmount by a lawful path.
use Rattle.std.specs.Prelude.{ℕ, ◌≡◌, Option, Some, None, IfSome}
use Rattle.std.specs.FinMap.{get}
use Rattle.vfs_tree.specs.declared.walk.Step.TheVariants.{Go}
use Rattle.vfs_tree.specs.declared.walk.Leaf.TheVariants as leaf
use Rattle.vfs_tree.specs.declared.world.World.{World}
use Rattle.call_model.specs.Rows.{way, check_way}
use Rattle.call_model.specs.declared.call.Call.{Call}
use Rattle.call_model.specs.declared.call.Call.TheVariants as call

-- a forced unmount by a lawful path
abbrev pub IsLeaver : Option Call → Type 0
IsLeaver (Some (call.UmountForce p)) = check_way (way leaf.Mount p) ≡ Go tt
IsLeaver (Some _) = ⊥
IsLeaver None = ⊥

-- where the caller is leaving a mount, this is the call by which it does
abbrev pub IsLeaving : World → ℕ → Option Call → Type 0
IsLeaving w c o = IfSome (get w.leaving c) (λ m. IsLeaver o)
