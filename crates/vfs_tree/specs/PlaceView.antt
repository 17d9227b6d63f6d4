-- What contracts see of a `Place`.
use Rattle.vfs_tree.specs.Place.{Seen, Mem, Null, UnionUp, UnionLow}
use Rattle.vfs_tree.specs.declared.place.View.{View}
use Rattle.vfs_tree.specs.declared.place.View.TheVariants as view

-- the place of its variants
abbrev pub seen : View → Seen
seen (view.Mem m i) = Mem m i
seen (view.Null m lower) = Null m lower.value
seen (view.UnionUp m i) = UnionUp m i
seen (view.UnionLow m u n lower) = UnionLow m u n lower.value
