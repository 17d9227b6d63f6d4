-- Through more mounts a directory has what it had, and maybe something where it had nothing.
use Rattle.std.proofs.Common.{◌≡◌, ℕ, zero, suc, ◌≤◌, Bool, true, false, cond, ◌==◌, ◌||◌, List, refl, ap, sym, subst, arith}
use Rattle.std.specs.Prelude.{Option, Some, None}
use Rattle.vfs_tree.specs.Child.{Lookup, child_null, child_below, child_low, child_union, only_dir, below_named, low_case, low_within, low_by, upper_entry, child_within, steps}
use Rattle.vfs_tree.specs.Facts.{Facts}
use Rattle.vfs_tree.specs.Layers.{kind_in, is_linked, is_opaque, parent_ino}
use Rattle.vfs_tree.specs.Place.{Seen, Mem, Null, UnionUp, UnionLow}
use Rattle.vfs_tree.specs.declared.mount.MountKind.{MountKind}
use Rattle.vfs_tree.specs.declared.mount.MountKind.TheVariants as kind
use Rattle.vfs_tree.specs.declared.node.NameEntry.{NameEntry}
use Rattle.vfs_tree.specs.declared.node.NameEntry.TheVariants.{Ino, White}
use Rattle.vfs_tree.specs.declared.walk.Child.{Child}
use Rattle.vfs_tree.specs.declared.walk.Child.TheVariants as child

-- the second is the first, unless that is absent
abbrev pub Grows : Child → Child → Type 0
Grows (child.At p) b = b ≡ child.At p
Grows child.Absent b = Unit {0}
Grows (child.Need x) b = b ≡ child.Need x

grows-itself : (a : Child) → Grows a a
grows-itself (child.At p) = refl
grows-itself child.Absent = tt
grows-itself (child.Need x) = refl

grows-null : (m : ℕ) (a b : Child) → Grows a b → Grows (child_null m a) (child_null m b)
grows-null m (child.At p) b e = ap (child_null m) e
grows-null m child.Absent b e = tt
grows-null m (child.Need x) b e = ap (child_null m) e

grows-if : (b : Bool) (x y : Child) → Grows x y → Grows (cond b x child.Absent) (cond b y child.Absent)
grows-if true x y h = h
grows-if false x y h = tt

module _ (f : Facts) (look more : Lookup) (h : (d : Seen) (n : List ℕ) → Grows (look d n) (more d n)) where
  pub grows-below : (a b : Child) → Grows a b → (n : List ℕ) → Grows (child_below look a n) (child_below more b n)
  grows-below (child.At d) b e n = subst (λ x. Grows (look d n) (child_below more x n)) (sym e) (h d n)
  grows-below child.Absent b e n = tt
  grows-below (child.Need x) b e n = ap (λ c. child_below more c n) e

  -- ---- the lower part

  grows-only_dir : (a b : Child) → Grows a b → Grows (only_dir f a) (only_dir f b)
  grows-only_dir (child.At q) b e = subst (λ x. Grows (only_dir f (child.At q)) (only_dir f x)) (sym e) (grows-itself (only_dir f (child.At q)))
  grows-only_dir child.Absent b e = tt
  grows-only_dir (child.Need x) b e = ap (only_dir f) e

  grows-named : (a b : Child) → Grows a b → (o : Option (List ℕ)) → Grows (below_named look a o) (below_named more b o)
  grows-named a b e (Some n) = grows-below a b e n
  grows-named a b e None = tt

  grows-low_case : (s : ℕ) (lower : Seen) (up over : ℕ → Child) → ((u : ℕ) → Grows (up u) (over u)) → (u : ℕ) (top ends : Bool)
      → Grows (low_case f look s lower up u top ends) (low_case f more s lower over u top ends)
  grows-low_case s lower up over g u true ends = refl
  grows-low_case s lower up over g u false true = tt
  grows-low_case s lower up over g u false false =
      let p = parent_ino f s u in
      grows-only_dir (below_named look (up p) (f.name_of s u)) (below_named more (over p) (f.name_of s u)) (grows-named (up p) (over p) (g p) (f.name_of s u))

  grows-low_within : (k s top : ℕ) (lower : Seen) (u : ℕ) → Grows (low_within k f look s top lower u) (low_within k f more s top lower u)
  grows-low_within zero s top lower u = tt
  grows-low_within (suc k) s top lower u =
      grows-low_case s lower (low_within k f look s top lower) (low_within k f more s top lower) (grows-low_within k s top lower) u (u == top) (is_opaque f s u || (u == 1))

  pub grows-low_by : (u : ℕ) (o : Option MountKind) → Grows (low_by f look u o) (low_by f more u o)
  grows-low_by u (Some (kind.Union s top lower)) =
      grows-if (is_linked f s u) (low_within steps f look s top lower u) (low_within steps f more s top lower u) (grows-low_within steps s top lower u)
  grows-low_by u (Some kind.Mem) = tt
  grows-low_by u (Some (kind.Null layer)) = tt
  grows-low_by u None = tt

-- ---- what a directory has

module _ (f : Facts) where
  grows-lower : (m u : ℕ) (n : List ℕ) (a b : Child) → Grows a b → Grows (child_low f m u n a) (child_low f m u n b)
  grows-lower m u n (child.At q) b e = subst (λ x. Grows (child_low f m u n (child.At q)) (child_low f m u n x)) (sym e) (grows-itself (child_low f m u n (child.At q)))
  grows-lower m u n child.Absent b e = tt
  grows-lower m u n (child.Need x) b e = ap (child_low f m u n) e

  grows-union : (m u : ℕ) (n : List ℕ) (e : Option NameEntry) (below more : List ℕ → Child) → Grows (below n) (more n) → Grows (child_union f m u n e below) (child_union f m u n e more)
  grows-union m u n (Some (Ino i)) below more h = refl
  grows-union m u n (Some White) below more h = tt
  grows-union m u n None below more h = grows-lower m u n (below n) (more n) h

  pub grows-within : (k j : ℕ) → k ≤ j → (d : Seen) (n : List ℕ) → Grows (child_within k f d n) (child_within j f d n)
  grows-within zero j le d n = tt
  grows-within (suc k) zero le d n = absurd (omega (arith, le))
  grows-within (suc k) (suc j) le (Mem m i) n = grows-itself (child_within (suc k) f (Mem m i) n)
  grows-within (suc k) (suc j) le (Null m p) n = grows-null m (child_within k f p n) (child_within j f p n) (grows-within k j (omega (arith, le)) p n)
  grows-within (suc k) (suc j) le (UnionUp m u) n =
      let look = child_within k f in
      let more = child_within j f in
      let o = kind_in f m in
      let h : (d : Seen) (n : List ℕ) → Grows (look d n) (more d n) = grows-within k j (omega (arith, le)) in
      grows-union m u n (upper_entry f o u n) (child_below look (low_by f look u o)) (child_below more (low_by f more u o))
      (grows-below f look more h (low_by f look u o) (low_by f more u o) (grows-low_by f look more h u o) n)
  grows-within (suc k) (suc j) le (UnionLow m u a p) n = tt
