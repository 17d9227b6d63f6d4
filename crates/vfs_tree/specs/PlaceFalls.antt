-- A lower place is nested less.
use Rattle.std.specs.Prelude.{◌≤◌, max}
use Rattle.std.proofs.Common.{arith}
use Rattle.vfs_tree.specs.Place.{nesting}
use Rattle.vfs_tree.specs.PlaceView.{seen}
use Rattle.vfs_tree.specs.declared.place.View.{View}
use Rattle.vfs_tree.specs.declared.place.View.TheVariants as view
use Rattle.vfs_tree.specs.declared.place.Place.TheDeep.{deep-View}

-- the places in a variant are nested less than it
pub nesting_falls : (v : View) → max (deep-View v) 0 ≤ nesting (seen v)
nesting_falls (view.Mem m i) = omega arith
nesting_falls (view.Null m lower) = omega arith
nesting_falls (view.UnionUp m i) = omega arith
nesting_falls (view.UnionLow m u n lower) = omega arith
