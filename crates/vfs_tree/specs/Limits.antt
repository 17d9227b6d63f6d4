-- Which limits are lawful.
use Rattle.std.specs.Prelude.{ℕ, ◌+◌, ◌*◌, ◌≤◌}
use Rattle.vfs_tree.specs.declared.limits.Limits.{Limits}

-- the number of places at which a run holds vnodes: its open files, callers and mounts
abbrev pub holders : Limits → ℕ
holders limits = limits.files + 6 * limits.callers + 3 * limits.mounts

-- 1 to 16 callers, 1 to 256 open descriptors, 1 to 16 mounts, and nine vnodes a holder up to 4,096
pub record IsLawful (limits : Limits) : Type 0 where
  pub some_caller : 1 ≤ limits.callers
  pub few_callers : limits.callers ≤ 16
  pub some_file : 1 ≤ limits.files
  pub few_files : limits.files ≤ 256
  pub some_mount : 1 ≤ limits.mounts
  pub few_mounts : limits.mounts ≤ 16
  pub enough_vnodes : 9 * holders limits ≤ limits.vnodes
  pub few_vnodes : limits.vnodes ≤ 4096

-- a caller's number: callers are numbered from 1
pub record IsCaller (limits : Limits) (caller : ℕ) : Type 0 where
  pub first : 1 ≤ caller
  pub last : caller ≤ limits.callers
