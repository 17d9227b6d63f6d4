-- What one component of a walk leads to, and where a walk along components stops.
use Rattle.std.specs.Prelude.{List}
use Rattle.vfs_tree.specs.Place.{Seen}
use Rattle.vfs_tree.specs.Facts.{Facts}
use Rattle.vfs_tree.specs.Steps.{◌>>=◌}
use Rattle.vfs_tree.specs.Walk.{Walked, Jump, along}
use Rattle.vfs_tree.specs.declared.walk.Component.{Component}
use Rattle.vfs_tree.specs.declared.walk.Found.{Found}
use Rattle.vfs_tree.specs.declared.walk.Leaf.{Leaf}
use Rattle.vfs_tree.specs.declared.walk.Step.TheVariants.{Go, Refuse, Wants}
use Rattle.vfs_paths.specs.declared.turn.Turn.{Turn}
use Rattle.vfs_paths.specs.declared.turn.Turn.TheVariants as turn
use Rattle.vfs_paths.specs.declared.along.Halt.{Halt}
use Rattle.vfs_paths.specs.declared.along.Halt.TheVariants as halt

-- what the walk comes to after a component, with the rest
abbrev pub turned : Facts → Leaf → Jump → List Component → Turn → Walked Found
turned f leaf jump rest (turn.On d) = along f leaf jump rest d
turned f leaf jump rest (turn.Link text d) = jump text rest d
turned f leaf jump rest (turn.End x) = x

-- the walk goes on where a place was reached
abbrev pub on_to : Walked Seen → Turn
on_to (Go p) = turn.On p
on_to (Refuse e) = turn.End (Refuse e)
on_to (Wants x) = turn.End (Wants x)

-- what the walk comes to from where it stopped, with the rest
abbrev pub halted : Jump → List Component → Halt → Walked Found
halted jump rest (halt.End x) = x
halted jump rest (halt.Link text d) = jump text rest d

-- the walk along the components, where the place was reached
abbrev pub onward : Facts → Leaf → Jump → List Component → Walked Seen → Walked Found
onward f leaf jump rest from = from >>= along f leaf jump rest
