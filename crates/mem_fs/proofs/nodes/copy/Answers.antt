use Rattle.std.proofs.Common.{◌∙◌, ap}
use Rattle.std.specs.Prelude.{Some}
use Rattle.std.specs.FinMap.{empty}
use Rattle.std.specs.List.{filter_map}
use Rattle.finite_maps.proofs.EntryLaws.{put_all}
use Rattle.mem_fs.specs.declared.inode.Inode.{Inode}
use Rattle.mem_fs.specs.Inodes.{kept_entry, node_of}
use Rattle.mem_fs.proofs.Copies.{copied}
use Rattle.mem_fs.proofs.nodes.copy.Goals as goal

pub loop-number-init : goal.loop-number-init
loop-number-init c =
    (tt, tt, rw c.new-copy.ensures (ap (λ es. put_all empty (filter_map (kept_entry (λ (x : Inode). Some (node_of x))) es)) (c.into_iter-number-iterator.ensures.into_iter_gives ∙ c.iter-number-items.ensures) ∙ copied node_of c.args.nodes.now))
