-- Steps, one after the other.
use Rattle.std.specs.Prelude.{Bool, true, false}
use Rattle.vfs_tree.specs.declared.errno.Errno.{Errno}
pub use Rattle.vfs_tree.specs.declared.walk.Step.{Step}
pub use Rattle.vfs_tree.specs.declared.walk.Step.TheVariants.{Go, Refuse, Wants}

-- a step, and then one that takes what it found; a refusal or a need ends them
infixl 10 ◌>>=◌
abbrev pub ◌>>=◌ : {A B W : Type 0} → Step A W → (A → Step B W) → Step B W
Go a >>= f = f a
Refuse e >>= f = Refuse e
Wants x >>= f = Wants x

-- a step, and then another
infixl 10 ◌>>◌
abbrev pub ◌>>◌ : {A B W : Type 0} → Step A W → Step B W → Step B W
p >> q = p >>= (λ _. q)

-- the refusal where the check holds
abbrev pub refuse_if : {W : Type 0} → Bool → Errno → Step (Unit {0}) W
refuse_if true e = Refuse e
refuse_if false e = Go tt
