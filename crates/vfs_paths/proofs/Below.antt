-- What is below a place, through its layers.
use Rattle.std.proofs.Common.{◌≡◌, ℕ, suc, true, List, sym, ap, ◌∙◌}
use Rattle.std.specs.Prelude.{Some, option_map, if◌then◌else◌}
use Rattle.vfs_tree.specs.Place.{Seen, Null}
use Rattle.vfs_tree.specs.Facts.{Facts}
use Rattle.vfs_tree.specs.Layers.{kind_in, is_linked}
use Rattle.vfs_tree.specs.Child.{Lookup, child_null, child_within, low_by, low_within, steps}
use Rattle.vfs_tree.specs.declared.mount.Mount.{Mount}
use Rattle.vfs_tree.specs.declared.mount.MountKind.TheVariants as kind
use Rattle.vfs_tree.specs.declared.walk.Child.{Child}
use Rattle.vfs_tree.specs.declared.walk.Child.TheVariants as child

-- what a directory has, through one mount more
pub child_more : (f : Facts) (k j : ℕ) (d e : Seen) (n : List ℕ) → k ≡ suc j → e ≡ d → child_within (suc j) f e n ≡ child_within k f d n
child_more f k j d e n more at = λ i. child_within (sym more i) f (at i) n

-- what a null mount shows
pub null_shown : (f : Facts) (k j m : ℕ) (d p q : Seen) (n : List ℕ) (below : Child) → k ≡ suc j → Null m p ≡ d → q ≡ p → below ≡ child_within j f q n
    → child_null m below ≡ child_within k f d n
null_shown f k j m d p q n below more at same there =
    ap (child_null m) (there ∙ ap (λ p. child_within j f p n) same) ∙ child_more f k j d (Null m p) n more at

-- a union's directory that is linked
pub low_union : (f : Facts) (look : Lookup) (m u s upper : ℕ) (lower : Seen) (t : Mount) → Some t ≡ f.mount m → t.kind ≡ kind.Union s upper lower
    → is_linked f s u ≡ true → low_within steps f look s upper lower u ≡ low_by f look u (kind_in f m)
low_union f look m u s upper lower t there shows linked =
    sym
    (ap (λ o. low_by f look u (option_map (λ t. t.kind) o)) (sym there) ∙ ap (λ k. low_by f look u (Some k)) shows
    ∙ ap (λ b. if b then low_within steps f look s upper lower u else child.Absent) linked)
