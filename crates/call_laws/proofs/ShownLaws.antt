-- What a directory has at a name is what it shows there.
use Rattle.std.proofs.Common.{◌≡◌, ℕ, zero, suc, Bool, true, false, cond, ◌==◌, ◌||◌, List, refl, ap, sym, subst}
use Rattle.std.specs.Prelude.{Option, Some, None}
use Rattle.vfs_tree.specs.Child.{Lookup, child_null, child_below, child_low, child_union, only_dir, below_named, low_case, low_within, low_by, upper_entry, child_within, child_of, steps}
use Rattle.vfs_tree.specs.Facts.{Facts}
use Rattle.vfs_tree.specs.Layers.{kind_in, is_dir, is_linked, is_opaque, parent_ino}
use Rattle.vfs_tree.specs.Place.{Seen, Mem, Null, UnionUp, UnionLow, mount_of}
use Rattle.vfs_tree.specs.declared.mount.MountKind.{MountKind}
use Rattle.vfs_tree.specs.declared.mount.MountKind.TheVariants as kind
use Rattle.vfs_tree.specs.declared.node.NameEntry.{NameEntry}
use Rattle.vfs_tree.specs.declared.node.NameEntry.TheVariants.{Ino, White}
use Rattle.vfs_tree.specs.declared.walk.Child.{Child}
use Rattle.vfs_tree.specs.declared.walk.Child.TheVariants as child
use Rattle.vfs_tree.specs.Shown.{shown_low, shown_union, shown_within, shown_child}

-- the second is the first, unless that is a need
abbrev pub Agree : Child → Child → Type 0
Agree (child.At p) b = b ≡ child.At p
Agree child.Absent b = b ≡ child.Absent
Agree (child.Need x) b = Unit {0}

abbrev pub AgreeAt : Lookup → Lookup → Type 0
AgreeAt look show = (d : Seen) (n : List ℕ) → Agree (look d n) (show d n)

agree-itself : (a : Child) → Agree a a
agree-itself (child.At p) = refl
agree-itself child.Absent = refl
agree-itself (child.Need x) = tt

agree-null : (m : ℕ) (a b : Child) → Agree a b → Agree (child_null m a) (child_null m b)
agree-null m (child.At p) b e = ap (child_null m) e
agree-null m child.Absent b e = ap (child_null m) e
agree-null m (child.Need x) b e = tt

pub agree-below : (look show : Lookup) → AgreeAt look show → (a b : Child) → Agree a b → (n : List ℕ) → Agree (child_below look a n) (child_below show b n)
agree-below look show h (child.At d) b e n = subst (λ x. Agree (look d n) (child_below show x n)) (sym e) (h d n)
agree-below look show h child.Absent b e n = ap (λ x. child_below show x n) e
agree-below look show h (child.Need x) b e n = tt

-- ---- the lower part

agree-only_dir : (f : Facts) (a b : Child) → Agree a b → Agree (only_dir f a) (only_dir f b)
agree-only_dir f (child.At q) b e = subst (λ x. Agree (only_dir f (child.At q)) (only_dir f x)) (sym e) (agree-itself (only_dir f (child.At q)))
agree-only_dir f child.Absent b e = ap (only_dir f) e
agree-only_dir f (child.Need x) b e = tt

agree-named : (look show : Lookup) → AgreeAt look show → (a b : Child) → Agree a b → (o : Option (List ℕ)) → Agree (below_named look a o) (below_named show b o)
agree-named look show h a b e (Some n) = agree-below look show h a b e n
agree-named look show h a b e None = refl

agree-low_case : (f : Facts) (look show : Lookup) → AgreeAt look show → (s : ℕ) (lower : Seen) (up over : ℕ → Child) → ((u : ℕ) → Agree (up u) (over u)) → (u : ℕ) (top ends : Bool)
    → Agree (low_case f look s lower up u top ends) (low_case f show s lower over u top ends)
agree-low_case f look show h s lower up over g u true ends = refl
agree-low_case f look show h s lower up over g u false true = refl
agree-low_case f look show h s lower up over g u false false =
    let p = parent_ino f s u in
    agree-only_dir f (below_named look (up p) (f.name_of s u)) (below_named show (over p) (f.name_of s u)) (agree-named look show h (up p) (over p) (g p) (f.name_of s u))

agree-low_within : (k : ℕ) (f : Facts) (look show : Lookup) → AgreeAt look show → (s upper : ℕ) (lower : Seen) (u : ℕ)
    → Agree (low_within k f look s upper lower u) (low_within k f show s upper lower u)
agree-low_within zero f look show h s upper lower u = refl
agree-low_within (suc k) f look show h s upper lower u =
    agree-low_case f look show h s lower (low_within k f look s upper lower) (low_within k f show s upper lower) (agree-low_within k f look show h s upper lower) u (u == upper) (is_opaque f s u || (u == 1))

agree-if : (b : Bool) (x y : Child) → Agree x y → Agree (cond b x child.Absent) (cond b y child.Absent)
agree-if true x y h = h
agree-if false x y h = refl

pub agree-low_by : (f : Facts) (look show : Lookup) → AgreeAt look show → (u : ℕ) (k : Option MountKind) → Agree (low_by f look u k) (low_by f show u k)
agree-low_by f look show h u (Some (kind.Union s upper lower)) =
    agree-if (is_linked f s u) (low_within steps f look s upper lower u) (low_within steps f show s upper lower u) (agree-low_within steps f look show h s upper lower u)
agree-low_by f look show h u (Some kind.Mem) = refl
agree-low_by f look show h u (Some (kind.Null layer)) = refl
agree-low_by f look show h u None = refl

-- ---- what a directory has

agree-lower : (f : Facts) (m u : ℕ) (n : List ℕ) (a b : Child) → Agree a b → Agree (child_low f m u n a) (shown_low f m u n b)
agree-lower f m u n (child.At q) b e =
    subst (λ x. Agree (child_low f m u n (child.At q)) (shown_low f m u n x)) (sym e)
    (elim (is_dir f q) as (λ d. Agree (cond d (child.Need (record { mount = m; dir = u; name = n })) (child.At (UnionLow m u n q))) (cond d (child.At q) (child.At (UnionLow m u n q)))) [
      | true ↦ tt
      | false ↦ refl
    ])
agree-lower f m u n child.Absent b e = ap (shown_low f m u n) e
agree-lower f m u n (child.Need x) b e = tt

agree-union : (f : Facts) (m u : ℕ) (n : List ℕ) (e : Option NameEntry) (below shows : List ℕ → Child) → Agree (below n) (shows n)
    → Agree (child_union f m u n e below) (shown_union f m u n e shows)
agree-union f m u n (Some (Ino i)) below shows h = refl
agree-union f m u n (Some White) below shows h = refl
agree-union f m u n None below shows h = agree-lower f m u n (below n) (shows n) h

pub agree-within : (k : ℕ) (f : Facts) (d : Seen) (n : List ℕ) → Agree (child_within k f d n) (shown_within k f d n)
agree-within zero f d n = refl
agree-within (suc k) f (Mem m i) n = agree-itself (child_within (suc k) f (Mem m i) n)
agree-within (suc k) f (Null m p) n = agree-null m (child_within k f p n) (shown_within k f p n) (agree-within k f p n)
agree-within (suc k) f (UnionUp m u) n =
    let look = child_within k f in
    let show = shown_within k f in
    let low = low_by f look u (kind_in f m) in
    let under = low_by f show u (kind_in f m) in
    agree-union f m u n (upper_entry f (kind_in f m) u n) (child_below look low) (child_below show under)
    (agree-below look show (agree-within k f) low under (agree-low_by f look show (agree-within k f) u (kind_in f m)) n)
agree-within (suc k) f (UnionLow m u a p) n = refl

-- what stands at a name of a directory is shown there
pub shown_there : (f : Facts) (d : Seen) (n : List ℕ) (p : Seen) → child_of f d n ≡ child.At p → shown_child f d n ≡ child.At p
shown_there f d n p e = subst (λ x. Agree x (shown_child f d n)) e (agree-within (suc (mount_of d)) f d n)

-- and where nothing stands, nothing is shown
pub shown_absent : (f : Facts) (d : Seen) (n : List ℕ) → child_of f d n ≡ child.Absent → shown_child f d n ≡ child.Absent
shown_absent f d n e = subst (λ x. Agree x (shown_child f d n)) e (agree-within (suc (mount_of d)) f d n)
