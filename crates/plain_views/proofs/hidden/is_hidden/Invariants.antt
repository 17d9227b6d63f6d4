use Rattle.std.proofs.Common.{◌≡◌, drop}
use Rattle.std.specs.List.{list_any}
use Rattle.std.specs.Prelude.{is_some}
use Rattle.vfs_tree.specs.Nodes.{entry_at}
use Rattle.plain_views.proofs.hidden.is_hidden.Given as goal

-- the directories that are left answer for all
abbrev pub invariant-loop-dir : goal.invariant-loop-dir
invariant-loop-dir l =
    list_any (λ dir. is_some (entry_at l.world dir.store dir.ino l.name)) l.above ≡ list_any (λ dir. is_some (entry_at l.world dir.store dir.ino l.name)) (drop l.dir-index l.above)
