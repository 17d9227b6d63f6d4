-- How walks begin and go on at links.
use Rattle.std.proofs.Common.{◌≡◌, ℕ, suc, Bool, List, ◌++◌, sym, ap, ◌∙◌}
use Rattle.vfs_tree.specs.Place.{Seen}
use Rattle.vfs_tree.specs.Facts.{Facts}
use Rattle.vfs_tree.specs.Paths.{Path}
use Rattle.vfs_tree.specs.Walk.{Walked, Jump, along, begin, jump_within, jump_along, spliced, walk_path}
use Rattle.vfs_tree.specs.declared.walk.Component.{Component}
use Rattle.vfs_tree.specs.declared.walk.Leaf.{Leaf}
use Rattle.vfs_tree.specs.declared.walk.Step.TheVariants.{Go}
use Rattle.vfs_paths.specs.Turns.{halted, onward}
use Rattle.vfs_paths.specs.declared.along.Halt.{Halt}
use Rattle.vfs_paths.specs.declared.along.Halt.TheVariants as halt

-- a walk that begun goes along its components
pub begun : (f : Facts) (l : Leaf) (links : ℕ) (from start : Walked Seen) (path : Path) (absolute : Bool) (rest : List Component) → links ≡ 32
    → absolute ≡ path.absolute → rest ≡ path.parts → start ≡ begin f l (record { absolute = absolute; parts = rest }) from
    → onward f l (jump_within links f l) rest start ≡ walk_path f l from path
begun f l links from start path absolute rest most a r begins =
    (λ i. onward f l (jump_within (most i) f l) rest (begins i))
    ∙ (λ i. onward f l (jump_within 32 f l) (r i) (begin f l (record { absolute = a i; parts = r i }) from))

-- a link's components stand before the rest
pub jumped : (f : Facts) (l : Leaf) (k : ℕ) (rest more : List Component) (d : Seen) (path : Path) (absolute : Bool) (from : Walked Seen)
    → absolute ≡ path.absolute → more ≡ path.parts ++ rest → from ≡ begin f l (record { absolute = absolute; parts = more }) (Go d)
    → onward f l (jump_within k f l) more from ≡ jump_along f l (jump_within k f l) (spliced path rest) d
jumped f l k rest more d path absolute from a m begins =
    ap (onward f l (jump_within k f l) more) begins
    ∙ (λ i. onward f l (jump_within k f l) (m i) (begin f l (record { absolute = a i; parts = m i }) (Go d)))

-- at a link, which takes one of those that may be followed
pub link_followed : (f : Facts) (l : Leaf) (k j : ℕ) (h : Halt) (text : List ℕ) (rest before : List Component) (d start : Seen) → k ≡ suc j
    → h ≡ halt.Link text d → ((jump : Jump) → halted jump rest h ≡ along f l jump before start)
    → jump_within (suc j) f l text rest d ≡ along f l (jump_within k f l) before start
link_followed f l k j h text rest before d start more is goes =
    ap (λ k. jump_within k f l text rest d) (sym more) ∙ ap (halted (jump_within k f l) rest) (sym is) ∙ goes (jump_within k f l)
