-- The scattering of numbers, and whose turn it is.
use Rattle.std.specs.Prelude.{ℕ, ◌+◌, ◌*◌, ◌/◌, ◌%◌, ◌^◌, bit_xor}

-- the sum of two words of 64 bits
abbrev pub sum_64 : ℕ → ℕ → ℕ
sum_64 a b = (a + b) % 2 ^ 64

-- the product of two words of 64 bits
abbrev pub product_64 : ℕ → ℕ → ℕ
product_64 a b = (a * b) % 2 ^ 64

-- the word with its high bits folded down by so many places
abbrev pub folded : ℕ → ℕ → ℕ
folded z places = bit_xor z (z / 2 ^ places)

-- the word number k that is scattered from the seed, as in SplitMix64
unfoldable pub mix : ℕ → ℕ → ℕ
mix seed k = folded (product_64 (folded (product_64 (folded (sum_64 seed (product_64 (sum_64 k 1) 0x9E3779B97F4A7C15)) 30) 0xBF58476D1CE4E5B9) 27) 0x94D049BB133111EB) 31

-- the place below n that the turn falls on
abbrev pub pick : ℕ → ℕ → ℕ → ℕ
pick seed turn n = mix seed turn % n
