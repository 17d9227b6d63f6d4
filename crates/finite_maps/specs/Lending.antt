-- What becomes of a map whose value was lent.
use Rattle.std.specs.Prelude.{◌≡◌, ℕ, Option, IsSome}
use Rattle.std.specs.Ordering.{nat_cmp}
use Rattle.std.specs.FinMap as fin
use Rattle.std.specs.Borrow.{LendsSo, MutBor, Fml, RattleType}
use Rattle.finite_maps.specs.Keys.{pair_cmp}
use Rattle.finite_maps.specs.contracts.number_map.NumberMap.{the_row}
use Rattle.finite_maps.specs.contracts.pair_map.PairMap as pairs

-- the map ends with what was last written at the key, and is unchanged where it has no such key
abbrev pub LendsAt : (V : RattleType) → MutBor (fin.FinMap nat_cmp V.Denot) → ℕ → Option (MutBor V.Denot) → Fml
LendsAt V m key r = LendsSo (the_row V) V m r (λ n w. IsSome (fin.get m.now key) → n ≡ fin.insert m.now key w) (λ n. n ≡ m.now)

-- the same at a pair
abbrev pub LendsAtPair : (V : RattleType) → MutBor (fin.FinMap pair_cmp V.Denot) → ℕ × ℕ → Option (MutBor V.Denot) → Fml
LendsAtPair V m key r = LendsSo (pairs.the_row V) V m r (λ n w. IsSome (fin.get m.now key) → n ≡ fin.insert m.now key w) (λ n. n ≡ m.now)
