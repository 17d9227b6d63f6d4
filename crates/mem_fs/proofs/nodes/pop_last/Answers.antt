use Rattle.mem_fs.proofs.Looks.{left_same, left_count}
use Rattle.mem_fs.proofs.Calls.{on_some, on_none}
use Rattle.mem_fs.proofs.nodes.pop_last.Goals as goal

pub returns-in-Some-clause-fewer : goal.returns-in-Some-clause-fewer
returns-in-Some-clause-fewer c = on_some c.pop_last.result c.pop_last.ensures.last (λ pair last. left_count c.args.nodes.now _ _ _ _ pair c.in-Some.ensures.value (c.get_mut.follows.holds _) last)

pub returns-in-Some-clause-unchanged : goal.returns-in-Some-clause-unchanged
returns-in-Some-clause-unchanged c = on_none c.pop_last.result c.pop_last.ensures.unchanged
    (λ same. left_same c.args.nodes.now _ _ _ _ c.in-Some.ensures.value (c.get_mut.follows.holds _) (λ i. record { links = c.in-Some.inode.now.links; content = same i }))
