use Rattle.std.proofs.Common.{ap, ◌∙◌, refl, false}
use Rattle.std.specs.Prelude.{Some, None}
use Rattle.std.specs.FinMap.{insert, get, get-empty}
use Rattle.vfs_tree.specs.Name.{name_cmp}
use Rattle.vfs_tree.specs.Nodes.{Names, is_given}
use Rattle.vfs_tree.specs.Start.{empty_dir}
use Rattle.vfs_tree.specs.declared.node.Node.TheVariants.{Dir}
use Rattle.mem_fs.specs.declared.inode.Content.TheVariants as held
use Rattle.mem_fs.specs.declared.inode.Inode.{Inode}
use Rattle.mem_fs.specs.Contents.{reads_of, reserved_of}
use Rattle.mem_fs.specs.Inodes.{Inodes}
use Rattle.mem_fs.proofs.KeptLaws.{kept-first}
use Rattle.mem_fs.proofs.Calls.{first_nodes, first_kept}
use Rattle.mem_fs.proofs.fs.MemFs.new.Goals as goal

pub invariant_of-result : goal.invariant_of-result
invariant_of-result c =
    let x : Inode = record { links = 0; content = held.Dir 1 false None c.new.result } in
    kept-first x c.insert.new.self refl (λ n. ap (λ (m : Names). is_given (get m n)) c.new.ensures.names ∙ ap is_given (get-empty name_cmp n)) refl
    (c.in_ok-insert.ensures.ok ∙ ap (λ (m : Inodes). insert m 1 x) c.new-nodes.ensures)

pub returns-clause-store : goal.returns-clause-store
returns-clause-store c =
    let x : Inode = record { links = 0; content = held.Dir 1 false None c.new.result } in
    let nodes = first_nodes x c.insert.new.self (empty_dir 1) (ap (Dir 1 false) c.new.ensures.names) (c.in_ok-insert.ensures.ok ∙ ap (λ (m : Inodes). insert m 1 x) c.new-nodes.ensures) in
    λ i. record { nodes = nodes i; next = 2 }

pub returns-clause-reads : goal.returns-clause-reads
returns-clause-reads c =
    let x : Inode = record { links = 0; content = held.Dir 1 false None c.new.result } in
    first_kept reads_of x c.insert.new.self (Some 0) (ap Some c.new.ensures.reads) (c.in_ok-insert.ensures.ok ∙ ap (λ (m : Inodes). insert m 1 x) c.new-nodes.ensures)

pub returns-clause-reserved : goal.returns-clause-reserved
returns-clause-reserved c =
    let x : Inode = record { links = 0; content = held.Dir 1 false None c.new.result } in
    first_kept reserved_of x c.insert.new.self None refl (c.in_ok-insert.ensures.ok ∙ ap (λ (m : Inodes). insert m 1 x) c.new-nodes.ensures)
