-- What a look-up answers.
use Rattle.std.specs.Prelude.{Option, None, Some}
use Rattle.op_vector.specs.declared.data.Vid.{Vid}
use Rattle.name_cache.specs.declared.cache.Cached.{Cached}
use Rattle.name_cache.specs.declared.cache.Cached.TheVariants.{Hit, Absent, Miss}

-- the answer by what is said of the directory and the name
abbrev pub answer : Option (Option Vid) → Cached
answer None = Miss
answer (Some None) = Absent
answer (Some (Some vid)) = Hit vid
