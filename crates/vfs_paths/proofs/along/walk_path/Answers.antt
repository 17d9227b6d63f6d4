use Rattle.vfs_paths.proofs.Outcomes.{answers}
use Rattle.vfs_paths.proofs.WalkLaws.{begun}
use Rattle.vfs_paths.proofs.along.walk_path.Goals as goal

pub returns : goal.returns
returns g c =
    answers c.go_on.result _ _ (begun _ _ _ _ _ _ _ _ c.most_links.ensures c.is_absolute-absolute.ensures c.of-rest.ensures c.in_ok-start.ensures) c.go_on.ensures
