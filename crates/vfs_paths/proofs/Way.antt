-- The lower part of a directory is what its way leads to.
use Rattle.std.proofs.Common.{◌≡◌, ℕ, zero, suc, ◌==◌, Bool, true, false, List, [], ◌∷◌, refl, sym, ap, ◌∙◌, eq-eqb, arith}
use Rattle.std.specs.Prelude.{◌||◌, Option, Some, None}
use Rattle.std.proofs.lemmas.Bool.Decides.{nat_tests}
use Rattle.vfs_tree.specs.Place.{Seen}
use Rattle.vfs_tree.specs.Facts.{Facts}
use Rattle.vfs_tree.specs.Layers.{is_opaque, parent_ino}
use Rattle.vfs_tree.specs.Child.{Lookup, only_dir, below_named, low_case, low_within}
use Rattle.vfs_tree.specs.declared.walk.Child.{Child}
use Rattle.vfs_tree.specs.declared.walk.Child.TheVariants as child
use Rattle.vfs_paths.specs.Way.{Names, way_case, way_within, down, by_way}

-- below nothing there is nothing
pub absent_down : (f : Facts) (look : Lookup) (ns : Names) → down f look child.Absent ns ≡ child.Absent
absent_down f look [] = refl
absent_down f look (n ∷ ns) = absent_down f look ns

named_is : (f : Facts) (look : Lookup) (lower : Seen) (low : Child) (up : Names → Option Names) (below : Names) (name : Option (List ℕ))
    → ((n : List ℕ) → by_way f look lower (up (n ∷ below)) ≡ down f look low (n ∷ below))
    → by_way f look lower (way_case up below name false false) ≡ down f look (only_dir f (below_named look low name)) below
named_is f look lower low up below (Some n) h = h n
named_is f look lower low up below None h = sym (absent_down f look below)

case_is : (f : Facts) (look : Lookup) (s : ℕ) (lower : Seen) (low : ℕ → Child) (up : Names → Option Names) (below : Names) (u : ℕ) (a b : Bool)
    → ((n : List ℕ) → by_way f look lower (up (n ∷ below)) ≡ down f look (low (parent_ino f s u)) (n ∷ below))
    → by_way f look lower (way_case up below (f.name_of s u) a b) ≡ down f look (low_case f look s lower low u a b) below
case_is f look s lower low up below u true b h = refl
case_is f look s lower low up below u false true h = sym (absent_down f look below)
case_is f look s lower low up below u false false h = named_is f look lower (low (parent_ino f s u)) up below (f.name_of s u) h

pub way_is : (k : ℕ) (f : Facts) (look : Lookup) (s upper : ℕ) (lower : Seen) (u : ℕ) (below : Names)
    → by_way f look lower (way_within k f s upper u below) ≡ down f look (low_within k f look s upper lower u) below
way_is zero f look s upper lower u below = sym (absent_down f look below)
way_is (suc k) f look s upper lower u below =
    case_is f look s lower (low_within k f look s upper lower) (way_within k f s upper (parent_ino f s u)) below u (u == upper)
    (is_opaque f s u || (u == 1)) (λ n. way_is k f look s upper lower (parent_ino f s u) (n ∷ below))

-- the lower part, from the way that was found
pub low_by_way : (k : ℕ) (f : Facts) (look : Lookup) (s upper : ℕ) (lower : Seen) (u : ℕ) (way : Option Names) → way ≡ way_within k f s upper u []
    → by_way f look lower way ≡ low_within k f look s upper lower u
low_by_way k f look s upper lower u way found = ap (by_way f look lower) found ∙ way_is k f look s upper lower u []

-- ---- one directory of the way

from_here : (k j : ℕ) (f : Facts) (s upper u : ℕ) (below : Names) (name : Option (List ℕ)) (a b : Bool) → k ≡ suc j → f.name_of s u ≡ name → (u == upper) ≡ a
    → (is_opaque f s u || (u == 1)) ≡ b → way_within k f s upper u below ≡ way_case (way_within j f s upper (parent_ino f s u)) below name a b
from_here k j f s upper u below name a b more named here over =
    ap (λ k. way_within k f s upper u below) more ∙ (λ i. way_case (way_within j f s upper (parent_ino f s u)) below (named i) (here i) (over i))

differs : (u v : ℕ) → (u ≡ v → ⊥) → (u == v) ≡ false
differs u v h = grind (arith, nat_tests)

-- the upper layer is reached
pub way_here : (k j : ℕ) (f : Facts) (s upper u : ℕ) (below : Names) → k ≡ suc j → u ≡ upper → way_within k f s upper u below ≡ Some below
way_here k j f s upper u below more here = from_here k j f s upper u below (f.name_of s u) true (is_opaque f s u || (u == 1)) more refl (eq-eqb u upper here) refl

-- the way leads elsewhere
pub way_over : (k j : ℕ) (f : Facts) (s upper u : ℕ) (below : Names) → k ≡ suc j → (u ≡ upper → ⊥) → (is_opaque f s u || (u == 1)) ≡ true
    → way_within k f s upper u below ≡ None
way_over k j f s upper u below more elsewhere over = from_here k j f s upper u below (f.name_of s u) false true more refl (differs u upper elsewhere) over

-- a directory without a name
pub way_unnamed : (k j : ℕ) (f : Facts) (s upper u : ℕ) (below : Names) → k ≡ suc j → (u ≡ upper → ⊥) → (is_opaque f s u || (u == 1)) ≡ false
    → f.name_of s u ≡ None → way_within k f s upper u below ≡ None
way_unnamed k j f s upper u below more elsewhere on unnamed = from_here k j f s upper u below None false false more unnamed (differs u upper elsewhere) on

-- one directory further up
pub way_more : (k j : ℕ) (f : Facts) (s upper u up : ℕ) (below longer : Names) (n : List ℕ) (w : Option Names) → k ≡ suc j → (u ≡ upper → ⊥)
    → (is_opaque f s u || (u == 1)) ≡ false → f.name_of s u ≡ Some n → up ≡ parent_ino f s u → longer ≡ n ∷ below
    → way_within k f s upper u below ≡ w → way_within j f s upper up longer ≡ w
way_more k j f s upper u up below longer n w more elsewhere on named above all is =
    (λ i. way_within j f s upper (above i) (all i)) ∙ sym (from_here k j f s upper u below (Some n) false false more named (differs u upper elsewhere) on) ∙ is

-- no step is left
pub way_end : (k : ℕ) (f : Facts) (s upper u : ℕ) (below : Names) → k ≡ 0 → way_within k f s upper u below ≡ None
way_end k f s upper u below none = ap (λ k. way_within k f s upper u below) none
