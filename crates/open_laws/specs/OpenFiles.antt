-- Open files by the nodes on which they rest.
use Rattle.std.specs.Prelude.{ℕ, ◌≡◌, false, IfSome}
use Rattle.std.specs.FinMap.{get}
use Rattle.vfs_tree.specs.Layers.{base, same_node}
use Rattle.vfs_tree.specs.Views.{facts_of}
use Rattle.vfs_tree.specs.declared.world.World.{World}

-- where two descriptors are open and not dead, their files rest on two nodes
abbrev pub RestApart : World → ℕ × ℕ → ℕ × ℕ → Type 0
RestApart w j k = IfSome (get w.opens j) (λ a. IfSome (get w.opens k) (λ b.
    a.dead ≡ false → b.dead ≡ false → same_node (base (facts_of w) a.place) (base (facts_of w) b.place) ≡ false))
