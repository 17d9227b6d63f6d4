-- The words after the program's name.
use Rattle.std.specs.Prelude.{ℕ, ◌≤◌, ◌^◌, Bool, true, false, not, ◌&&◌, nat_lt, cond, List, [], ◌∷◌, codes, decimal, option_map, Option, Some, None}
use Rattle.std.specs.Str.{bytes_eq}
use Rattle.std.specs.Str.Parse.{digits_value}
use Rattle.vfs_cli.specs.declared.words.Command.{Command}
use Rattle.vfs_cli.specs.declared.words.Command.TheVariants.{Run, Gen, Show}
use Rattle.vfs_cli.specs.declared.words.Turns.TheVariants.{Scattered, InOrder, Together}

-- the number of 64 bits that the word spells: each number has one spelling, without a leading zero
unfoldable pub seed_at : List ℕ → Option ℕ
seed_at word = cond (bytes_eq (decimal (digits_value 10 word)) word && nat_lt (digits_value 10 word) (2 ^ 64)) (Some (digits_value 10 word)) None

-- the number, where a script of the generator may have so many calls
abbrev pub few_calls : Option ℕ → Option ℕ
few_calls (Some n) = cond (not (nat_lt n 8) && nat_lt n 4097) (Some n) None
few_calls None = None

-- a command that makes its script, by its first word
abbrev pub making : List ℕ → Option ℕ → Option ℕ → Option Command
making word (Some seed) (Some calls) =
    cond (bytes_eq word (codes "gen")) (Some (Gen seed calls)) (cond (bytes_eq word (codes "show")) (Some (Show seed calls)) None)
making word (Some seed) None = None
making word None calls = None

-- `run`, `run --order`, `run --seed N`, `gen --seed N --calls K` or `show --seed N --calls K`
abbrev pub command_of : List (List ℕ) → Option Command
command_of (word ∷ []) = cond (bytes_eq word (codes "run")) (Some (Run Together)) None
command_of (word ∷ order ∷ []) = cond (bytes_eq word (codes "run") && bytes_eq order (codes "--order")) (Some (Run InOrder)) None
command_of (word ∷ seed ∷ number ∷ []) = cond (bytes_eq word (codes "run") && bytes_eq seed (codes "--seed")) (option_map (λ n. Run (Scattered n)) (seed_at number)) None
command_of (word ∷ seed ∷ number ∷ calls ∷ count ∷ []) =
    cond (bytes_eq seed (codes "--seed") && bytes_eq calls (codes "--calls")) (making word (seed_at number) (few_calls (seed_at count))) None
command_of words = None

-- a command, unless each caller has a thread in it
abbrev pub alone : Option Command → Option Command
alone (Some (Run Together)) = None
alone (Some (Run (Scattered seed))) = Some (Run (Scattered seed))
alone (Some (Run InOrder)) = Some (Run InOrder)
alone (Some (Gen seed calls)) = Some (Gen seed calls)
alone (Some (Show seed calls)) = Some (Show seed calls)
alone None = None

-- the same, but for `run` alone
abbrev pub serial_command_of : List (List ℕ) → Option Command
serial_command_of words = alone (command_of words)

-- whether a command reads a script
abbrev pub reads : Command → Bool
reads (Run turns) = true
reads (Gen seed calls) = false
reads (Show seed calls) = false

-- a script that is made has 8 to 4,096 calls
abbrev pub HasFew : Command → Type 0
HasFew (Run turns) = Unit {0}
HasFew (Gen seed calls) = (8 ≤ calls) × (calls ≤ 4096)
HasFew (Show seed calls) = (8 ≤ calls) × (calls ≤ 4096)
