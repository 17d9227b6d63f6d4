-- The lower part of a union's directory in two views that agree on what it reads.
use Rattle.std.proofs.Common.{◌≡◌, ℕ, zero, suc, Bool, true, false, cond, ◌||◌, ◌==◌, List, refl, ap, ◌∙◌}
use Rattle.std.specs.Prelude.{Option, Some, None}
use Rattle.vfs_tree.specs.Child.{Lookup, child_below, only_dir, below_named, low_case, low_within, low_by, steps}
use Rattle.vfs_tree.specs.Facts.{Facts}
use Rattle.vfs_tree.specs.Layers.{is_dir, is_linked, linked_by, is_opaque, opaque_by, parent_ino, parent_by}
use Rattle.vfs_tree.specs.Place.{Seen, UnionLow}
use Rattle.vfs_tree.specs.Shown.{shown_low}
use Rattle.vfs_tree.specs.declared.mount.MountKind.TheVariants as kind
use Rattle.vfs_tree.specs.declared.view.DirFacts.{DirFacts}
use Rattle.vfs_tree.specs.declared.walk.Child.{Child}
use Rattle.vfs_tree.specs.declared.walk.Child.TheVariants as child
use Rattle.call_laws.proofs.SoundParts.{or_none}

-- what stands there has the property
abbrev pub Stands : (Seen → Type 0) → Child → Type 0
Stands P (child.At q) = P q
Stands P child.Absent = Unit {0}
Stands P (child.Need x) = Unit {0}

pub stands_more : (P Q : Seen → Type 0) → ((q : Seen) → P q → Q q) → (c : Child) → Stands P c → Stands Q c
stands_more P Q f (child.At q) h = f q h
stands_more P Q f child.Absent h = tt
stands_more P Q f (child.Need x) h = tt

pub stands_if : (P : Seen → Type 0) (b : Bool) (x y : Child) → Stands P x → Stands P y → Stands P (cond b x y)
stands_if P true x y p q = p
stands_if P false x y p q = q

module _ (f g : Facts) (s : ℕ) (U : ℕ → Type 0) (P : Seen → Type 0)
    (dirs : (u : ℕ) → U u → g.dir s u ≡ f.dir s u) (names : (u : ℕ) → U u → (u == 1) ≡ false → g.name_of s u ≡ f.name_of s u)
    (up : (u : ℕ) → U u → (u == 1) ≡ false → U (parent_ino f s u))
    (kinds : (q : Seen) → P q → is_dir g q ≡ is_dir f q)
    (a b : Lookup) (agree : (d : Seen) (n : List ℕ) → P d → b d n ≡ a d n) (closed : (d : Seen) (n : List ℕ) → P d → Stands P (a d n)) where
  pub same_below : (c : Child) → Stands P c → (n : List ℕ) → child_below b c n ≡ child_below a c n
  same_below (child.At d) h n = agree d n h
  same_below child.Absent h n = refl
  same_below (child.Need x) h n = refl

  pub stands_below : (c : Child) → Stands P c → (n : List ℕ) → Stands P (child_below a c n)
  stands_below (child.At d) h n = closed d n h
  stands_below child.Absent h n = tt
  stands_below (child.Need x) h n = tt

  same_only : (c : Child) → Stands P c → only_dir g c ≡ only_dir f c
  same_only (child.At q) h = ap (λ x. cond x (child.At q) child.Absent) (kinds q h)
  same_only child.Absent h = refl
  same_only (child.Need x) h = refl

  stands_only : (c : Child) → Stands P c → Stands P (only_dir f c)
  stands_only (child.At q) h = stands_if P (is_dir f q) (child.At q) child.Absent h tt
  stands_only child.Absent h = tt
  stands_only (child.Need x) h = tt

  same_named : (c : Child) → Stands P c → (o : Option (List ℕ)) → below_named b c o ≡ below_named a c o
  same_named c h (Some n) = same_below c h n
  same_named c h None = refl

  stands_named : (c : Child) → Stands P c → (o : Option (List ℕ)) → Stands P (below_named a c o)
  stands_named c h (Some n) = stands_below c h n
  stands_named c h None = tt

  -- both, of what stands there
  abbrev pub Alike : Child → Child → Type 0
  Alike x y = (x ≡ y) × Stands P y

  alike_case : (lower : Seen) → P lower → (over under : ℕ → Child) → ((u : ℕ) → U u → Alike (over u) (under u)) → (u : ℕ) → U u → (top ends : Bool) → (ends ≡ false → (u == 1) ≡ false)
      → Alike (low_case g b s lower over u top ends) (low_case f a s lower under u top ends)
  alike_case lower l over under h u is true ends more = (refl, l)
  alike_case lower l over under h u is false true more = (refl, tt)
  alike_case lower l over under h u is false false more =
      let p = parent_ino f s u in
      let n = f.name_of s u in
      let other = more refl in
      let x = h p (up u is other) in
      let c = below_named a (under p) n in
      let stands : Stands P c = stands_named (under p) x.1 n in
      let parent : parent_ino g s u ≡ p = ap (parent_by u) (dirs u is) in (
        ap (λ q. only_dir g (below_named b (over q) (g.name_of s u))) parent
            ∙ ap (λ (y : Child). only_dir g (below_named b y (g.name_of s u))) x.0
            ∙ ap (λ (o : Option (List ℕ)). only_dir g (below_named b (under p) o)) (names u is other)
            ∙ ap (only_dir g) (same_named (under p) x.1 n)
            ∙ same_only c stands,
        stands_only c stands,
      )

  -- the lower part is the same
  pub alike_low : (k top : ℕ) (lower : Seen) → P lower → (u : ℕ) → U u → Alike (low_within k g b s top lower u) (low_within k f a s top lower u)
  alike_low zero top lower l u is = (refl, tt)
  alike_low (suc k) top lower l u is =
      let over = low_within k g b s top lower in
      let under = low_within k f a s top lower in
      let x = alike_case lower l over under (λ v h. alike_low k top lower l v h) u is (u == top) (is_opaque f s u || (u == 1)) (λ e. (or_none (is_opaque f s u) (u == 1) e).1) in
      (ap (λ (d : Option DirFacts). low_case g b s lower over u (u == top) (opaque_by d || (u == 1))) (dirs u is) ∙ x.0, x.1)

  -- what the lower layer alone has is shown the same
  pub same_shown_low : (m u : ℕ) (n : List ℕ) (c : Child) → Stands P c → shown_low g m u n c ≡ shown_low f m u n c
  same_shown_low m u n (child.At q) h = ap (λ x. cond x (child.At q) (child.At (UnionLow m u n q))) (kinds q h)
  same_shown_low m u n child.Absent h = refl
  same_shown_low m u n (child.Need x) h = refl

  -- what a directory has below it, by whether it is linked
  pub alike_lower : (top : ℕ) (lower : Seen) → P lower → (u : ℕ) → g.dir s u ≡ f.dir s u → (is_linked f s u ≡ true → U u)
      → Alike (low_by g b u (Some (kind.Union s top lower))) (low_by f a u (Some (kind.Union s top lower)))
  alike_lower top lower l u dir live =
      let x = by (is_linked f s u) refl in
      (ap (λ (d : Option DirFacts). cond (linked_by d) (low_within steps g b s top lower u) child.Absent) dir ∙ x.0, x.1)
    where
      by : (x : Bool) → is_linked f s u ≡ x → Alike (cond x (low_within steps g b s top lower u) child.Absent) (cond x (low_within steps f a s top lower u) child.Absent)
      by true e = alike_low steps top lower l u (live e)
      by false e = (refl, tt)

  -- and what that has at a name
  pub alike_below : (over under : Child) → Alike over under → (n : List ℕ) → Alike (child_below b over n) (child_below a under n)
  alike_below over under x n = (ap (λ (c : Child). child_below b c n) x.0 ∙ same_below under x.1 n, stands_below under x.1 n)
