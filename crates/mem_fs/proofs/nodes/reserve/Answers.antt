use Rattle.mem_fs.proofs.Looks.{left_same}
use Rattle.mem_fs.proofs.Calls.{on_err}
use Rattle.mem_fs.proofs.nodes.reserve.Goals as goal

pub returns-in-Some-clause-err : goal.returns-in-Some-clause-err
returns-in-Some-clause-err c =
    on_err c.reserve.result c.reserve.ensures.err
    (λ e. left_same c.args.nodes.now _ _ _ _ c.in-Some.ensures.value (c.get_mut.follows.holds _) (λ i. record { links = c.in-Some.inode.now.links; content = e i }))
