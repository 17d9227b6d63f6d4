-- Callers that are revoking a file: their walk finds a regular file that rests on a node.
use Rattle.std.specs.Prelude.{ℕ, ◌≡◌, true, List, Option}
use Rattle.vfs_tree.specs.Place.{Seen}
use Rattle.vfs_tree.specs.Layers.{base, same_node, is_file}
use Rattle.vfs_tree.specs.Views.{facts_of}
use Rattle.vfs_tree.specs.declared.walk.Found.TheVariants as found
use Rattle.vfs_tree.specs.declared.walk.Leaf.TheVariants as leaf
use Rattle.vfs_tree.specs.declared.walk.NodeId.{NodeId}
use Rattle.vfs_tree.specs.declared.walk.Step.TheVariants.{Go}
use Rattle.vfs_tree.specs.declared.world.World.{World}
use Rattle.call_model.specs.Refs.{first_live, open_references}
use Rattle.call_model.specs.Rows.{way, check_way, found_at}
use Rattle.call_model.specs.declared.entry.Ref.{Ref}

-- the first live open file that rests on a node
abbrev pub first_open_on : World → NodeId → Option Ref
first_open_on w node = let f = facts_of w in first_live w (λ r. same_node (base f r.place) node) (open_references w)

-- the path is lawful, and the caller's walk along it finds a regular file that rests on that node
pub record IsRevoking (w : World) (c : ℕ) (text : List ℕ) (id : NodeId) : Type 0 where
  pub path : check_way (way leaf.Follow text) ≡ Go tt
  pub place : Seen
  pub found : found_at w c (way leaf.Follow text) ≡ found.At place
  pub file : is_file (facts_of w) place ≡ true
  pub node : base (facts_of w) place ≡ id
