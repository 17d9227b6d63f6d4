-- Paths are the same whatever a walk along them may need.
use Rattle.std.proofs.Common.{◌≡◌, ℕ, Bool, true, false, List, ap}
use Rattle.vfs_tree.specs.Steps.{◌>>◌, refuse_if}
use Rattle.vfs_tree.specs.Paths.{Path, parse, is_empty, is_too_long, has_zero}
use Rattle.vfs_tree.specs.declared.errno.Errno.{Errno}
use Rattle.vfs_tree.specs.declared.errno.Errno.TheVariants as errno
use Rattle.vfs_tree.specs.declared.walk.Need.{Need}
use Rattle.call_model.specs.declared.entry.Inner.{Inner}
use Rattle.vfs_tree.specs.declared.walk.Step.{Step}
use Rattle.vfs_tree.specs.declared.walk.Step.TheVariants.{Go, Refuse, Wants}

abbrev going : Step Path Need → Path → Step Path Inner
going (Go p) x = Go p
going (Refuse e) x = Go x
going (Wants n) x = Go x

abbrev refusing : Step Path Need → Errno → Step Path Inner
refusing (Go p) e = Refuse e
refusing (Refuse x) e = Refuse x
refusing (Wants n) e = Refuse e

-- what a text is refused for
abbrev pub checked : {W : Type 0} → Bool → Bool → Bool → Path → Step Path W
checked a b c x = refuse_if a errno.ENOENT >> (refuse_if b errno.EINVAL >> (refuse_if c errno.ENAMETOOLONG >> Go x))

goes_on : (a b c : Bool) (x p : Path) → checked {W = Need} a b c x ≡ Go p → checked {W = Inner} a b c x ≡ Go p
goes_on true b c x p e = absurd cc
goes_on false true c x p e = absurd cc
goes_on false false true x p e = absurd cc
goes_on false false false x p e = ap (λ s. going s x) e

refused_so : (a b c : Bool) (x : Path) (e : Errno) → checked {W = Need} a b c x ≡ Refuse e → checked {W = Inner} a b c x ≡ Refuse e
refused_so true b c x e h = ap (λ s. refusing s e) h
refused_so false true c x e h = ap (λ s. refusing s e) h
refused_so false false true x e h = ap (λ s. refusing s e) h
refused_so false false false x e h = absurd cc

-- a path is checked
pub path_goes : (text : List ℕ) (p : Path) → parse {W = Need} text ≡ Go p → (parse {W = Inner} text >> Go (tt {0})) ≡ Go (tt {0})
path_goes text p h = ap (λ s. s >> Go (tt {0})) (goes_on (is_empty text) (has_zero text) (is_too_long text) _ p h)

-- and what is none is refused
pub path_refused : (text : List ℕ) (e : Errno) → parse {W = Need} text ≡ Refuse e → (parse {W = Inner} text >> Go (tt {0})) ≡ Refuse e
path_refused text e h = ap (λ s. s >> Go (tt {0})) (refused_so (is_empty text) (has_zero text) (is_too_long text) _ e h)
