-- More steps up than the way to the root has find no more of a lower part.
use Rattle.std.proofs.Common.{◌≡◌, ℕ, zero, suc, ◌<◌, Bool, true, false, ◌||◌, ◌==◌, refl, ap, arith, eq-eqb}
use Rattle.vfs_tree.specs.Child.{Lookup, only_dir, below_named, low_case, low_within}
use Rattle.vfs_tree.specs.Facts.{Facts}
use Rattle.vfs_tree.specs.Layers.{is_opaque, parent_ino}
use Rattle.vfs_tree.specs.Place.{Seen}
use Rattle.vfs_tree.specs.Sound.{climb}
use Rattle.vfs_tree.specs.declared.walk.Child.{Child}
use Rattle.call_laws.proofs.NamedLaws.{no_way}
use Rattle.call_laws.proofs.SoundParts.{or_second}

module _ (f : Facts) (look : Lookup) (s top : ℕ) (lower : Seen) where
  -- where the way up ends, nothing above is asked
  ends_there : (over under : ℕ → Child) (u : ℕ) (a b : Bool) → b ≡ true → low_case f look s lower over u a b ≡ low_case f look s lower under u a b
  ends_there over under u true b e = refl
  ends_there over under u false true e = refl
  ends_there over under u false false e = no_way e

  goes_up : (over under : ℕ → Child) (u : ℕ) → over (parent_ino f s u) ≡ under (parent_ino f s u) → (a b : Bool) → low_case f look s lower over u a b ≡ low_case f look s lower under u a b
  goes_up over under u e true b = refl
  goes_up over under u e false true = refl
  goes_up over under u e false false = ap (λ (c : Child). only_dir f (below_named look c (f.name_of s u))) e

  -- more steps than the way has find no more
  pub low_more : (j k u : ℕ) → climb j (f.dir s) u ≡ 1 → j < k → low_within k f look s top lower u ≡ low_within (suc k) f look s top lower u
  low_more j zero u e less = absurd (omega (arith, less))
  low_more zero (suc k) u e less =
      ends_there (low_within k f look s top lower) (low_within (suc k) f look s top lower) u (u == top) (is_opaque f s u || (u == 1)) (or_second (is_opaque f s u) (u == 1) (eq-eqb u 1 e))
  low_more (suc j) (suc k) u e less =
      goes_up (low_within k f look s top lower) (low_within (suc k) f look s top lower) u (low_more j k (parent_ino f s u) e (omega (arith, less))) (u == top) (is_opaque f s u || (u == 1))
