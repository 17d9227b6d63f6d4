-- Induction over the mounts through which a directory has what it has at a name: a property of places, and one of needs,
-- hold of all that is found below a place with the property, where each form of place keeps them (`ChildKeeps`).
use Rattle.std.proofs.Common.{◌≡◌, ℕ, zero, suc, Bool, true, false, cond, ◌==◌, ◌||◌, List, refl, ap, ◌∙◌, subst}
use Rattle.std.specs.Prelude.{Option, Some, None}
use Rattle.vfs_tree.specs.Child.{Lookup, child_mem, child_null, child_below, child_low, child_union, only_dir, below_named, low_case, low_within, low_by, low, upper_entry, child_within, child_of, steps}
use Rattle.vfs_tree.specs.Facts.{Facts}
use Rattle.vfs_tree.specs.Layers.{kind_in, store_by, is_dir, is_linked, is_opaque, parent_ino}
use Rattle.vfs_tree.specs.Place.{Seen, Mem, Null, UnionUp, UnionLow, mount_of}
use Rattle.vfs_tree.specs.Steps.{◌>>=◌}
use Rattle.vfs_tree.specs.Views.{facts_of}
use Rattle.vfs_tree.specs.Visible.{Listed, listed_below, visible_within, visible, has_visible}
use Rattle.vfs_tree.specs.declared.mount.MountKind.{MountKind}
use Rattle.vfs_tree.specs.declared.mount.MountKind.TheVariants as kind
use Rattle.vfs_tree.specs.declared.node.NameEntry.{NameEntry}
use Rattle.vfs_tree.specs.declared.node.NameEntry.TheVariants.{Ino, White}
use Rattle.vfs_tree.specs.declared.walk.Child.{Child}
use Rattle.vfs_tree.specs.declared.walk.Child.TheVariants as child
use Rattle.vfs_tree.specs.declared.walk.Need.{Need}
use Rattle.vfs_tree.specs.declared.walk.Step.{Step}
use Rattle.vfs_tree.specs.declared.walk.Step.TheVariants.{Go, Refuse, Wants}
use Rattle.vfs_tree.specs.declared.world.World.{World}
use Rattle.call_laws.specs.Needing.{IsFree}

-- what holds of everything
abbrev pub Anything : {A : Type 0} → A → Type 0
Anything a = Unit {0}

-- what is found has the one property, and what is needed the other
abbrev pub Comes : {A : Type 0} → (Need → Type 0) → (A → Type 0) → Step A Need → Type 0
Comes N P (Go a) = P a
Comes N P (Refuse e) = Unit {0}
Comes N P (Wants x) = N x

pub comes_on : {A B : Type 0} (N : Need → Type 0) (P : A → Type 0) (Q : B → Type 0) (m : Step A Need) (k : A → Step B Need) → Comes N P m → ((a : A) → P a → Comes N Q (k a)) → Comes N Q (m >>= k)
comes_on N P Q (Go a) k h more = more a h
comes_on N P Q (Refuse e) k h more = tt
comes_on N P Q (Wants x) k h more = h

-- the same of a child
abbrev pub ChildComes : (Need → Type 0) → (Seen → Type 0) → Child → Type 0
ChildComes N P (child.At p) = P p
ChildComes N P child.Absent = Unit {0}
ChildComes N P (child.Need x) = N x

-- a place in the mount
abbrev pub Lies : (Seen → Type 0) → ℕ → Seen → Type 0
Lies P l p = P p × (mount_of p ≡ l)

-- what the lower part of a union's directory has at a name, where the upper layer has nothing
pub record LowerHas (f : Facts) (k m u : ℕ) (n : List ℕ) (q : Seen) : Type 0 where
  pub store : ℕ
  pub top : ℕ
  pub lower : Seen
  pub union : kind_in f m ≡ Some (kind.Union store top lower)
  pub free : f.entry store u n ≡ None
  pub linked : is_linked f store u ≡ true
  pub at : child_below (child_within k f) (low_by f (child_within k f) u (Some (kind.Union store top lower))) n ≡ child.At q
  pub inside : mount_of q ≡ mount_of lower

-- the place of its shadow directory or copy is free
pub has_free : {f : Facts} {k m u : ℕ} {n : List ℕ} {q : Seen} → LowerHas f k m u n q → IsFree f m u n
has_free {f = f} {k = k} {m = m} {u = u} {n = n} {q = q} h = record {
  linked = ap (λ o. is_linked f (store_by o) u) h.union ∙ h.linked;
  free = ap (λ o. f.entry (store_by o) u n) h.union ∙ h.free;
}

-- the steps of the induction
pub record ChildKeeps (f : Facts) (N : Need → Type 0) (P : Seen → Type 0) : Type 0 where
  -- what a directory of a memory file system has
  pub mem : (m i j : ℕ) (n : List ℕ) → P (Mem m i) → f.entry m i n ≡ Some (Ino j) → P (Mem m j)
  -- what a null mount is over, and what is seen through it
  pub under : (m : ℕ) (p : Seen) → P (Null m p) → P p
  pub over : (m : ℕ) (p q : Seen) → P (Null m p) → mount_of q ≡ mount_of p → P q → P (Null m q)
  -- the lower layer of a union, and what the union has of each layer
  pub lower : (m u s top : ℕ) (lower : Seen) → P (UnionUp m u) → kind_in f m ≡ Some (kind.Union s top lower) → P lower
  pub upper : (m u i s top : ℕ) (lower : Seen) (n : List ℕ) → P (UnionUp m u) → kind_in f m ≡ Some (kind.Union s top lower) → f.entry s u n ≡ Some (Ino i) → P (UnionUp m i)
  pub alone : (k m u : ℕ) (n : List ℕ) (q : Seen) → P (UnionUp m u) → LowerHas f k m u n q → P q → is_dir f q ≡ false → P (UnionLow m u n q)
  pub need : (k m u : ℕ) (n : List ℕ) (q : Seen) → P (UnionUp m u) → LowerHas f k m u n q → P q → is_dir f q ≡ true → N (record { mount = m; dir = u; name = n })

-- where nothing is said of places
pub needs_keep : (f : Facts) (N : Need → Type 0) → ((k m u : ℕ) (n : List ℕ) (q : Seen) → LowerHas f k m u n q → is_dir f q ≡ true → N (record { mount = m; dir = u; name = n })) → ChildKeeps f N Anything
needs_keep f N need = record {
  mem = λ m i j n h at. tt;
  under = λ m p h. tt;
  over = λ m p q h same g. tt;
  lower = λ m u s top lower h is. tt;
  upper = λ m u i s top lower n h is at. tt;
  alone = λ k m u n q h has g plain. tt;
  need = λ k m u n q h has g dir. need k m u n q has dir;
}

linked_by : (look : Lookup) (a : Child) (n : List ℕ) (q : Seen) (b : Bool) → child_below look (cond b a child.Absent) n ≡ child.At q → b ≡ true
linked_by look a n q true at = refl
linked_by look a n q false at = absurd (let clash : child.Absent ≡ child.At q = at in cc)

module _ (f : Facts) (N : Need → Type 0) (P : Seen → Type 0) (keeps : ChildKeeps f N P) where
  -- what is found lies in the mount
  abbrev pub In : ℕ → Child → Type 0
  In l c = ChildComes N (Lies P l) c

  abbrev pub LooksSo : Lookup → Type 0
  LooksSo look = (d : Seen) (n : List ℕ) → P d → In (mount_of d) (look d n)

  in-if : (l : ℕ) (b : Bool) (x y : Child) → In l x → In l y → In l (cond b x y)
  in-if l true x y h g = h
  in-if l false x y h g = g

  in-mem : (m i : ℕ) (n : List ℕ) (e : Option NameEntry) → f.entry m i n ≡ e → P (Mem m i) → In m (child_mem m e)
  in-mem m i n (Some (Ino j)) at h = (keeps.mem m i j n h at, refl)
  in-mem m i n (Some White) at h = tt
  in-mem m i n None at h = tt

  in-null : (m : ℕ) (p : Seen) (a : Child) → P (Null m p) → In (mount_of p) a → In m (child_null m a)
  in-null m p (child.At q) h a = (keeps.over m p q h a.1 a.0, refl)
  in-null m p child.Absent h a = tt
  in-null m p (child.Need x) h a = a

  -- ---- the lower part

  module _ (look : Lookup) (so : LooksSo look) where
    in-below : (l : ℕ) (a : Child) → In l a → (n : List ℕ) → In l (child_below look a n)
    in-below l (child.At d) h n = subst (λ x. In x (look d n)) h.1 (so d n h.0)
    in-below l child.Absent h n = tt
    in-below l (child.Need x) h n = h

    in-only_dir : (l : ℕ) (a : Child) → In l a → In l (only_dir f a)
    in-only_dir l (child.At q) h = in-if l (is_dir f q) (child.At q) child.Absent h tt
    in-only_dir l child.Absent h = tt
    in-only_dir l (child.Need x) h = h

    in-named : (l : ℕ) (a : Child) → In l a → (o : Option (List ℕ)) → In l (below_named look a o)
    in-named l a h (Some n) = in-below l a h n
    in-named l a h None = tt

    module _ (s : ℕ) (lower : Seen) (h : P lower) where
      in-low_case : (up : ℕ → Child) → ((u : ℕ) → In (mount_of lower) (up u)) → (u : ℕ) (top ends : Bool) → In (mount_of lower) (low_case f look s lower up u top ends)
      in-low_case up g u true ends = (h, refl)
      in-low_case up g u false true = tt
      in-low_case up g u false false =
          let p = parent_ino f s u in
          in-only_dir (mount_of lower) (below_named look (up p) (f.name_of s u)) (in-named (mount_of lower) (up p) (g p) (f.name_of s u))

      in-low_within : (j top u : ℕ) → In (mount_of lower) (low_within j f look s top lower u)
      in-low_within zero top u = tt
      in-low_within (suc j) top u = in-low_case (low_within j f look s top lower) (in-low_within j top) u (u == top) (is_opaque f s u || (u == 1))

      pub in-low_union : (u top : ℕ) → In (mount_of lower) (low_by f look u (Some (kind.Union s top lower)))
      in-low_union u top = in-if (mount_of lower) (is_linked f s u) (low_within steps f look s top lower u) child.Absent (in-low_within steps top u) tt

    so-low_by : (m u : ℕ) (o : Option MountKind) → kind_in f m ≡ o → P (UnionUp m u) → ChildComes N P (low_by f look u o)
    so-low_by m u (Some (kind.Union s top lower)) is h = by (low_by f look u (Some (kind.Union s top lower))) (in-low_union s lower (keeps.lower m u s top lower h is) u top)
      where
        by : (c : Child) → In (mount_of lower) c → ChildComes N P c
        by (child.At p) g = g.0
        by child.Absent g = tt
        by (child.Need x) g = g
    so-low_by m u (Some kind.Mem) is h = tt
    so-low_by m u (Some (kind.Null layer)) is h = tt
    so-low_by m u None is h = tt

  -- ---- what a directory has

  module _ (k : ℕ) (so : LooksSo (child_within k f)) (m u : ℕ) (h : P (UnionUp m u)) (n : List ℕ) where
    in-lower : (a : Child) → ((q : Seen) → a ≡ child.At q → P q × LowerHas f k m u n q) → ((x : Need) → a ≡ child.Need x → N x) → In m (child_low f m u n a)
    in-lower (child.At q) has needs = by (is_dir f q) refl
      where
        by : (b : Bool) → is_dir f q ≡ b → In m (cond b (child.Need (record { mount = m; dir = u; name = n })) (child.At (UnionLow m u n q)))
        by true dir = let g = has q refl in keeps.need k m u n q h g.1 g.0 dir
        by false plain = let g = has q refl in (keeps.alone k m u n q h g.1 g.0 plain, refl)
    in-lower child.Absent has needs = tt
    in-lower (child.Need x) has needs = needs x refl

    module _ (s top : ℕ) (lower : Seen) (is : kind_in f m ≡ Some (kind.Union s top lower)) where
      abbrev look : Lookup
      look = child_within k f

      abbrev part : Child
      part = child_below look (low_by f look u (Some (kind.Union s top lower))) n

      part_in : In (mount_of lower) part
      part_in = in-below look so (mount_of lower) (low_by f look u (Some (kind.Union s top lower))) (in-low_union look so s lower (keeps.lower m u s top lower h is) u top) n

      has : f.entry s u n ≡ None → (q : Seen) → part ≡ child.At q → P q × LowerHas f k m u n q
      has none q at =
          let g : Lies P (mount_of lower) q = subst (In (mount_of lower)) at part_in in (
            g.0,
            record {
              store = s;
              top = top;
              lower = lower;
              union = is;
              free = none;
              linked = linked_by look (low_within steps f look s top lower u) n q (is_linked f s u) at;
              at = at;
              inside = g.1;
            },
          )

      in-entry : (e : Option NameEntry) → f.entry s u n ≡ e → In m (child_union f m u n e (child_below look (low_by f look u (Some (kind.Union s top lower)))))
      in-entry (Some (Ino i)) at = (keeps.upper m u i s top lower n h is at, refl)
      in-entry (Some White) at = tt
      in-entry None at = in-lower part (has at) (λ x needs. subst (In (mount_of lower)) needs part_in)

    in-union : (o : Option MountKind) → kind_in f m ≡ o → In m (child_union f m u n (upper_entry f o u n) (child_below (child_within k f) (low_by f (child_within k f) u o)))
    in-union (Some (kind.Union s top lower)) is = in-entry s top lower is (f.entry s u n) refl
    in-union (Some kind.Mem) is = tt
    in-union (Some (kind.Null layer)) is = tt
    in-union None is = tt

  pub in-within : (k : ℕ) → LooksSo (child_within k f)
  in-within zero d n h = tt
  in-within (suc k) (Mem m i) n h = in-mem m i n (f.entry m i n) refl h
  in-within (suc k) (Null m p) n h = in-null m p (child_within k f p n) h (in-within k p n (keeps.under m p h))
  in-within (suc k) (UnionUp m u) n h = in-union k (in-within k) m u h n (kind_in f m) refl
  in-within (suc k) (UnionLow m u a p) n h = tt

  -- what a directory has at a name
  pub in-child : (d : Seen) (n : List ℕ) → P d → In (mount_of d) (child_of f d n)
  in-child d n h = in-within (suc (mount_of d)) d n h

  pub so-child : (d : Seen) (n : List ℕ) → P d → ChildComes N P (child_of f d n)
  so-child d n h = by (child_of f d n) (in-child d n h)
    where
      by : (c : Child) → In (mount_of d) c → ChildComes N P c
      by (child.At p) g = g.0
      by child.Absent g = tt
      by (child.Need x) g = g

  -- what the lower part of a union's directory is
  pub so-low : (m u : ℕ) → P (UnionUp m u) → ChildComes N P (low f m u)
  so-low m u h = so-low_by (child_within m f) (in-within m) m u (kind_in f m) refl h

-- ---- listings

module _ (w : World) (N : Need → Type 0) (P : Seen → Type 0) (keeps : ChildKeeps (facts_of w) N P) where
  so-listed : (list : Seen → Listed) → ((d : Seen) → P d → Comes N Anything (list d)) → (a : Child) → ChildComes N P a → Comes N Anything (listed_below list a)
  so-listed list g (child.At d) h = g d h
  so-listed list g child.Absent h = tt
  so-listed list g (child.Need x) h = h

  so-visible_within : (k : ℕ) (d : Seen) → P d → Comes N Anything (visible_within k w d)
  so-visible_within zero d h = tt
  so-visible_within (suc k) (Mem m i) h = tt
  so-visible_within (suc k) (Null m p) h = so-visible_within k p (keeps.under m p h)
  so-visible_within (suc k) (UnionUp m u) h =
      comes_on N Anything Anything (listed_below (visible_within k w) (low (facts_of w) m u)) _
      (so-listed (visible_within k w) (so-visible_within k) (low (facts_of w) m u) (so-low (facts_of w) N P keeps m u h)) (λ _ _. tt)
  so-visible_within (suc k) (UnionLow m u n p) h = tt

  -- what a listing needs
  pub so-visible : (d : Seen) → P d → Comes N Anything (visible w d)
  so-visible d h = so-visible_within (suc (mount_of d)) d h

  pub so-has_visible : (d : Seen) → P d → Comes N Anything (has_visible w d)
  so-has_visible d h = comes_on N Anything Anything (visible w d) _ (so-visible d h) (λ _ _. tt)
