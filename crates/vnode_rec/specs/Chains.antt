-- The chains in which vnodes are looked up: which one a vnode is in, and how the slots of a chain are linked.
use Rattle.std.specs.Prelude.{ℕ, ◌≡◌, ◌<◌, ◌+◌, ◌*◌, ◌%◌, ◌==◌, List, [], ◌∷◌, length, Option, Some, None}
use Rattle.op_vector.specs.declared.data.VData.{VData}
use Rattle.op_vector.specs.declared.data.VData.TheVariants.{Empty, Mem, Null, Union}
use Rattle.free_list.specs.Queue.{member}
use Rattle.free_list.specs.Links.{at, Path, Apart}

-- a hash with one byte more
abbrev pub mixed : ℕ → ℕ → ℕ
mixed hash byte = (hash * 31 + byte) % 4294967296

-- a hash with more bytes
abbrev pub mixed_all : ℕ → List ℕ → ℕ
mixed_all hash [] = hash
mixed_all hash (byte ∷ bytes) = mixed_all (mixed hash byte) bytes

-- the hash that data begins with, by two numbers of a vnode
abbrev pub seed_of : VData → ℕ
seed_of Empty = 0
seed_of (Mem mount ino) = mount * 65599 + ino
seed_of (Null mount lower) = mount * 65599 + lower.slot
seed_of (Union mount ino upper lower count) = mount * 65599 + ino

-- the bytes of a name, none where there is no name
abbrev pub name_bytes : Option (List ℕ) → List ℕ
name_bytes None = []
name_bytes (Some name) = name

-- the chain of an identity among so many chains
abbrev pub chain_of : VData × Option (List ℕ) → ℕ → ℕ
chain_of id chains = mixed_all (seed_of id.0) (name_bytes id.1) % chains

-- the links to the next, the chain of each slot or the number of chains where it is in none, and how many slots and chains there are
pub record Links : Type 0 where
  pub next : List ℕ
  pub place : List ℕ
  pub slots : ℕ
  pub chains : ℕ

-- the slots of a chain: the links lead along them and back to the chain's end
pub record IsChain (next : List ℕ) (prev : List ℕ) (place : List ℕ) (slots : ℕ) (chain : ℕ) : Type 0 where
  pub queue : List ℕ
  pub path : Path (at next) (at prev) (slots + chain) queue (slots + chain)
  pub apart : Apart slots queue
  pub has : (s : ℕ) → s < slots → member s queue ≡ (at place s == chain)

-- each slot is linked into the chain that is its place
pub record AreChained (next : List ℕ) (prev : List ℕ) (place : List ℕ) (slots : ℕ) (chains : ℕ) : Type 0 where
  pub next_len : length next ≡ slots + chains
  pub prev_len : length prev ≡ slots + chains
  pub place_len : length place ≡ slots
  pub each : (chain : ℕ) → chain < chains → IsChain next prev place slots chain
