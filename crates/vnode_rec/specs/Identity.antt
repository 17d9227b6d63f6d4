-- By what a vnode is found.
use Rattle.std.specs.Prelude.{ℕ, ◌==◌, ◌&&◌, Bool, true, false, List, [], ◌∷◌, Option, Some, None}
use Rattle.std.specs.Option.{is_some}
use Rattle.op_vector.specs.declared.data.Vid.{Vid}
use Rattle.op_vector.specs.declared.data.VData.{VData}
use Rattle.op_vector.specs.declared.data.VData.TheVariants.{Empty, Mem, Null, Union}

-- a lower vnode counts where the vnode has a name
abbrev pub lower_if : Bool → Option Vid → Option Vid
lower_if true lower = lower
lower_if false lower = None

-- the data by which a vnode is found: of a union neither the upper vnode nor the count of changes, and the lower vnode only of a vnode with a name
abbrev pub found_by : VData → Bool → VData
found_by Empty is_named = Empty
found_by (Mem mount ino) is_named = Mem mount ino
found_by (Null mount lower) is_named = Null mount lower
found_by (Union mount ino upper lower at) is_named = Union mount ino None (lower_if is_named lower) 0

-- what makes a vnode the one that it is: the data by which it is found, and its name
abbrev pub identity : VData → Option (List ℕ) → VData × Option (List ℕ)
identity vd name = (found_by vd (is_some name), name)

-- whether two numbers of vnodes are one
abbrev pub same_vid : Vid → Vid → Bool
same_vid a b = (a.slot == b.slot) && (a.generation == b.generation)

-- whether two lower vnodes are one, or there is none
abbrev pub same_lower : Option Vid → Option Vid → Bool
same_lower None None = true
same_lower None (Some b) = false
same_lower (Some a) None = false
same_lower (Some a) (Some b) = same_vid a b

-- whether vnodes are found by one data
abbrev pub same_found : VData → VData → Bool
same_found Empty Empty = true
same_found Empty (Mem mount ino) = false
same_found Empty (Null mount lower) = false
same_found Empty (Union mount ino upper lower at) = false
same_found (Mem mount ino) Empty = false
same_found (Mem mount ino) (Mem m i) = (mount == m) && (ino == i)
same_found (Mem mount ino) (Null m l) = false
same_found (Mem mount ino) (Union m i u l a) = false
same_found (Null mount lower) Empty = false
same_found (Null mount lower) (Mem m i) = false
same_found (Null mount lower) (Null m l) = (mount == m) && same_vid lower l
same_found (Null mount lower) (Union m i u l a) = false
same_found (Union mount ino upper lower at) Empty = false
same_found (Union mount ino upper lower at) (Mem m i) = false
same_found (Union mount ino upper lower at) (Null m l) = false
same_found (Union mount ino upper lower at) (Union m i u l a) = (mount == m) && ((ino == i) && same_lower lower l)

-- whether two names are one, or there is none
abbrev pub same_bytes : List ℕ → List ℕ → Bool
same_bytes [] [] = true
same_bytes [] (y ∷ ys) = false
same_bytes (x ∷ xs) [] = false
same_bytes (x ∷ xs) (y ∷ ys) = (x == y) && same_bytes xs ys

abbrev pub same_name : Option (List ℕ) → Option (List ℕ) → Bool
same_name None None = true
same_name None (Some b) = false
same_name (Some a) None = false
same_name (Some a) (Some b) = same_bytes a b

-- whether two identities are one
abbrev pub same_identity : VData × Option (List ℕ) → VData × Option (List ℕ) → Bool
same_identity a b = same_found a.0 b.0 && same_name a.1 b.1
