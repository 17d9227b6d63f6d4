-- What contracts see of a lock and of its passes.
use Rattle.std.specs.Prelude.{◌≡◌, ℕ, Bool, cond, nat_eq, nat_lt, length, List, [], ◌∷◌, ◌++◌, Option, Some, None, is_some}
use Rattle.atomic_table.specs.Seated.{TableId}

-- a lock: what tells it from every other one, the fixed data of the value that it was made with, and how many numbers there are
pub record Lock (F : Type 0) : Type 0 where
  pub table : TableId
  pub fixed : F
  pub numbers : ℕ

-- a pass: the lock that it comes from and that lock's fixed data, the list that it has seen, its numbers with what it knows of their parts, and the value that was handed out to it, if it holds the turn
pub record Known (T E F Q : Type 0) : Type 0 where
  pub table : TableId
  pub fixed : Option F
  pub seen : List E
  pub parts : List (ℕ × Q)
  pub held : Option T

-- the list begins with what had been seen
abbrev pub StartsWith : {E : Type 0} → List E → List E → Type 0
StartsWith {E} xs seen = (more : List E) × (xs ≡ seen ++ more)

-- the longer of two lists
abbrev pub longer : {E : Type 0} → List E → List E → List E
longer a b = cond (nat_lt (length a) (length b)) b a

-- the part that stands beside a number, if it stands there
abbrev pub part_in : {Q : Type 0} → ℕ → List (ℕ × Q) → Option Q
part_in n [] = None
part_in n (e ∷ es) = cond (nat_eq n e.0) (Some e.1) (part_in n es)

-- whether a number stands there
abbrev pub is_in : {Q : Type 0} → ℕ → List (ℕ × Q) → Bool
is_in n parts = is_some (part_in n parts)

module _ {T E F Q : Type 0} where
  -- the pass comes from this lock
  abbrev pub ComesFrom : Lock F → Known T E F Q → Type 0
  ComesFrom l p = (p.table ≡ l.table) × (p.fixed ≡ Some l.fixed)

  -- what the pass knows of the part of a number, or None if it doesn't have that number
  abbrev pub known_part : ℕ → Known T E F Q → Option Q
  known_part n p = part_in n p.parts

  -- whether the pass has a number
  abbrev pub has_number : ℕ → Known T E F Q → Bool
  has_number n p = is_in n p.parts
