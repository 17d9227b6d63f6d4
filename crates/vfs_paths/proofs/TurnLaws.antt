-- What one component of a walk leads to.
use Rattle.std.proofs.Common.{◌≡◌, ℕ, true, false, List, [], ◌∷◌, refl, sym, ap, ◌∙◌}
use Rattle.std.specs.Prelude.{None}
use Rattle.vfs_tree.specs.Place.{Seen}
use Rattle.vfs_tree.specs.Facts.{Facts}
use Rattle.vfs_tree.specs.Layers.{target_of}
use Rattle.vfs_tree.specs.Steps.{◌>>=◌, ◌>>◌}
use Rattle.vfs_tree.specs.Child.{child_of}
use Rattle.vfs_tree.specs.Walk.{Walked, Jump, along, is_last, absent, followed, check_dir, pass_child}
use Rattle.vfs_tree.specs.declared.errno.Errno.TheVariants as errno
use Rattle.vfs_tree.specs.declared.walk.Child.{Child}
use Rattle.vfs_tree.specs.declared.walk.Component.{Component}
use Rattle.vfs_tree.specs.declared.walk.Component.TheVariants as component
use Rattle.vfs_tree.specs.declared.walk.Found.TheVariants as found
use Rattle.vfs_tree.specs.declared.walk.Leaf.{Leaf}
use Rattle.vfs_tree.specs.declared.walk.Leaf.TheVariants as leaf
use Rattle.vfs_tree.specs.declared.walk.Step.TheVariants.{Go, Refuse, Wants}
use Rattle.vfs_paths.specs.Turns.{turned, on_to}

-- going on where a place was reached
pub turned_on : (f : Facts) (l : Leaf) (jump : Jump) (rest : List Component) (s : Walked Seen) → turned f l jump rest (on_to s) ≡ s >>= along f l jump rest
turned_on f l jump rest (Go p) = refl
turned_on f l jump rest (Refuse e) = refl
turned_on f l jump rest (Wants x) = refl

pub absent_last : (rest : List Component) (d : Seen) (n : List ℕ) → is_last rest ≡ true → absent leaf.Create rest d n ≡ Go (found.In d n None)
absent_last [] d n h = refl
absent_last (c ∷ rest) d n h = cc

pub absent_within : (rest : List Component) (d : Seen) (n : List ℕ) → is_last rest ≡ false → absent leaf.Create rest d n ≡ Refuse errno.ENOENT
absent_within [] d n h = cc
absent_within (c ∷ rest) d n h = refl

pub kept_last : (f : Facts) (rest : List Component) (p : Seen) → is_last rest ≡ true → followed f leaf.NoFollow rest p ≡ None
kept_last f [] p h = refl
kept_last f (c ∷ rest) p h = cc

pub followed_within : (f : Facts) (rest : List Component) (p : Seen) → is_last rest ≡ false → followed f leaf.NoFollow rest p ≡ target_of f p
followed_within f [] p h = cc
followed_within f (c ∷ rest) p h = refl

-- a name in a directory that was checked
pub name_passed : (f : Facts) (l : Leaf) (jump : Jump) (rest : List Component) (d : Seen) (n : List ℕ) (x : Child) (c : Component) → check_dir f d ≡ Go tt
    → x ≡ child_of f d n → c ≡ component.Name n
    → pass_child f l (λ text. jump text rest d) rest (along f l jump rest) d n x ≡ along f l jump (c ∷ rest) d
name_passed f l jump rest d n x c checked there is =
    ap (pass_child f l (λ text. jump text rest d) rest (along f l jump rest) d n) there
    ∙ sym
    (ap (λ c. along f l jump (c ∷ rest) d) is
    ∙ ap (λ s. s >> pass_child f l (λ text. jump text rest d) rest (along f l jump rest) d n (child_of f d n)) checked)
