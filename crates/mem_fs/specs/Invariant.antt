-- What holds of the nodes between calls.
use Rattle.std.specs.Prelude.{ℕ, ◌≡◌, ◌<◌, IsSome, is_some}
use Rattle.std.specs.FinMap.{get}
use Rattle.vfs_tree.specs.Counts.{times}
use Rattle.mem_fs.specs.Inodes.{Inodes, nodes_of, links_of, own_name}
use Rattle.mem_fs.specs.FileSystem.{seen}
use Rattle.mem_fs.specs.Named.{AreNamed}

-- what holds of every memory file system
pub record IsKept (m : Inodes) (next : ℕ) : Type 0 where
  -- the numbers of the nodes are below the next one
  pub below : (i : ℕ) → IsSome (get m i) → i < next
  -- each node keeps how many names give it; no name gives a number that has no node
  pub counts : (i : ℕ) → links_of (get m i) ≡ times (nodes_of m) i
  -- a directory keeps the name that its parent has for it
  pub named : AreNamed m

-- nodes that contracts see alike, with the same counts
pub record IsLike (m n : Inodes) : Type 0 where
  pub there : (i : ℕ) → is_some (get n i) ≡ is_some (get m i)
  pub seen : (next : ℕ) → seen n next ≡ seen m next
  pub links : (i : ℕ) → links_of (get n i) ≡ links_of (get m i)
  pub names : (i : ℕ) → own_name (get n i) ≡ own_name (get m i)
