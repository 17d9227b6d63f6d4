-- Edits of a file's bytes.
use Rattle.std.specs.Prelude.{ℕ, ◌+◌, ◌-◌, List, [], ◌∷◌, ◌++◌, length, take, drop, replicate}

-- the bytes at a length: what is behind it is cut off, and what is missing is zeros
abbrev pub resize_bytes : List ℕ → ℕ → List ℕ
resize_bytes old len = take len old ++ replicate (len - length old) 0

-- the bytes with a piece put at an offset: a gap before it is zeros, and an empty piece changes nothing
abbrev pub write_bytes : List ℕ → ℕ → List ℕ → List ℕ
write_bytes old offset [] = old
write_bytes old offset (b ∷ bytes) = resize_bytes old offset ++ (b ∷ bytes) ++ drop (offset + length (b ∷ bytes)) old
