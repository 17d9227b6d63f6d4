-- What contracts see of a file.
use Rattle.std.specs.Prelude.{ℕ, List, ◌≡◌, ◌+◌, ◌-◌, ◌<◌, ◌≤◌, ◌++◌, length, take, replicate}
use Rattle.mem_file.specs.declared.page.TheConstants.{PAGE}

-- the bytes, and how many bytes have room
pub record Contents : Type 0 where
  pub bytes : List ℕ
  pub reserved : ℕ

-- pages that begin with a file's bytes, go on in zeros, and have the room that was reserved, with no page beyond it
pub record IsFilled (pages : List ℕ) (len reserved : ℕ) : Type 0 where
  pub within : len ≤ reserved
  pub room : reserved ≤ length pages
  pub few : length pages < reserved + PAGE
  pub small : reserved ≤ 1048576
  pub filled : pages ≡ take len pages ++ replicate (length pages - len) 0
