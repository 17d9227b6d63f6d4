use Rattle.std.proofs.Common.{◌≡◌, ℕ}
use Rattle.std.specs.FinMap.{get}
use Rattle.mem_fs.specs.Inodes.{links_of, name_count}
use Rattle.mem_fs.specs.FileSystem.{seen, without}
use Rattle.mem_fs.specs.Invariant.{IsKept}
use Rattle.mem_fs.proofs.nodes.take_names.Given as goal

-- the nodes are those at the start, but for names of the directory
abbrev pub invariant-loop-name : goal.invariant-loop-name
invariant-loop-name l = record {
  kept : (next : ℕ) → IsKept l.fn.nodes next → IsKept l.nodes next;
  unnamed : links_of (get l.nodes l.dir) ≡ 0;
  rest : (next : ℕ) → without (seen l.nodes next) l.dir ≡ without (seen l.fn.nodes next) l.dir;
}

-- how many names are left
abbrev pub decreases-loop-name : goal.decreases-loop-name
decreases-loop-name l = name_count (get l.nodes l.dir)
