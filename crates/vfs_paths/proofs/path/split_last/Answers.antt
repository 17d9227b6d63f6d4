use Rattle.std.proofs.Common.{◌≡◌, length, arith}
use Rattle.vfs_paths.proofs.Ends.{front_of, last_of, no_front, no_last}
use Rattle.vfs_paths.proofs.path.split_last.Goals as goal

pub returns-in-Some-clause-front : goal.returns-in-Some-clause-front
returns-in-Some-clause-front c = front_of _ _ _ c.in-Some.ensures.items

pub returns-in-Some-clause-last : goal.returns-in-Some-clause-last
returns-in-Some-clause-last c = last_of _ _ _ _ c.in-Some.ensures.items c.name_in.ensures

pub returns-in-None-clause-front : goal.returns-in-None-clause-front
returns-in-None-clause-front c =
    let left = c.pop.new.self in
    let empty : length left.items ≡ 0 = omega (arith, left.ok.0, c.in-None.ensures.cases.1) in
    no_front _ _ c.in-None.ensures.items empty

pub returns-in-None-clause-last : goal.returns-in-None-clause-last
returns-in-None-clause-last c =
    let left = c.pop.new.self in
    let empty : length left.items ≡ 0 = omega (arith, left.ok.0, c.in-None.ensures.cases.1) in
    no_last _ _ c.in-None.ensures.items empty
