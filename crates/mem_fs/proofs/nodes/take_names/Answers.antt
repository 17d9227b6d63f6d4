use Rattle.std.proofs.Common.{arith, refl, ap, sym, subst, ◌∙◌}
use Rattle.mem_fs.specs.Inodes.{Inodes}
use Rattle.mem_fs.specs.FileSystem.{seen, without}
use Rattle.mem_fs.specs.Invariant.{IsKept}
use Rattle.mem_fs.proofs.KeptLaws.{kept-lost, unnamed-lost, count-lost}
use Rattle.mem_fs.proofs.Looks.{rest-lost}
use Rattle.mem_fs.proofs.nodes.take_names.Goals as goal

pub loop-name-init : goal.loop-name-init
loop-name-init c = record { kept = λ next kept. kept; unnamed = c.requires; rest = λ next. refl }

pub loop-name-smaller : goal.loop-name-smaller
loop-name-smaller c =
    let same = count-lost c.pop_last.new.nodes c.lose.new.nodes c.args.dir c.in-Some.entry c.lose.ensures in
    omega (arith, same, c.in-Some.ensures.fewer)

pub loop-name-preserved : goal.loop-name-preserved
loop-name-preserved c =
    let m = c.loop-name.nodes in
    let n = c.pop_last.new.nodes in
    let d = c.args.dir in
    let name = c.in-Some._name in
    let e = c.in-Some.entry in
    record {
      kept = λ next kept. kept-lost m n _ next d name e (c.loop-name.invariant.kept next kept) c.in-Some.ensures.some c.in-Some.ensures.cleared c.lose.ensures;
      unnamed = unnamed-lost m n _ d name e c.loop-name.invariant.unnamed c.in-Some.ensures.cleared c.lose.ensures;
      rest = λ next. rest-lost m n _ next d name e c.in-Some.ensures.cleared c.lose.ensures ∙ c.loop-name.invariant.rest next;
    }

pub returns-clause-kept : goal.returns-clause-kept
returns-clause-kept c = λ next kept. subst (λ (x : Inodes). IsKept x next) (sym c.in_default.ensures.unchanged) (c.loop-name.invariant.kept next kept)

pub returns-clause-rest : goal.returns-clause-rest
returns-clause-rest c = λ next. ap (λ (x : Inodes). without (seen x next) c.args.dir) c.in_default.ensures.unchanged ∙ c.loop-name.invariant.rest next
