use Rattle.std.proofs.Common.{◌≡◌, ◌++◌, reverse, vec_len}
use Rattle.vfs_paths.proofs.rest.Rest.put_before.Given as goal

-- the components that are not put yet, and the rest
abbrev pub invariant-loop-component : goal.invariant-loop-component
invariant-loop-component l = l.parts.items ++ reverse l.self-inside.components.items ≡ l.fn.path.parts ++ l.fn.self

abbrev pub decreases-loop-component : goal.decreases-loop-component
decreases-loop-component l = vec_len l.parts
