-- What is sound stays sound where what it rests on stays.
use Rattle.std.proofs.Common.{◌≡◌, ℕ, Bool, true, false, not, ◌&&◌, ◌||◌, refl, ap, sym, ◌∙◌}
use Rattle.std.specs.Prelude.{Option, Some, None, IsSome, IfSome, is_some, option_map}
use Rattle.vfs_tree.specs.Facts.{Facts}
use Rattle.vfs_tree.specs.Layers.{kind_in, base, kind_of, is_dir_kind, store_by}
use Rattle.vfs_tree.specs.Place.{Seen, Mem, Null, UnionUp, UnionLow}
use Rattle.vfs_tree.specs.declared.mount.Mount.{Mount}
use Rattle.vfs_tree.specs.declared.mount.MountKind.{MountKind}
use Rattle.vfs_tree.specs.declared.mount.MountKind.TheVariants as kind
use Rattle.vfs_tree.specs.declared.node.Kind.{Kind}
use Rattle.vfs_tree.specs.declared.walk.NodeId.{NodeId}
use Rattle.vfs_tree.specs.Sound.{is_mem, is_null, is_union, names_mounts, AreFiles, IsSoundPlace, IsSoundDir, EachLayer, EachPlace}

-- ---- truth values

pub first_of : (a b : Bool) → (a && b) ≡ true → a ≡ true
first_of true b e = refl
first_of false b e = cc

pub second_of : (a b : Bool) → (a && b) ≡ true → b ≡ true
second_of true b e = e
second_of false b e = cc

pub both_of : (a b : Bool) → a ≡ true → b ≡ true → (a && b) ≡ true
both_of a b p q = ap (λ x. x && b) p ∙ q

pub or_first : (a b : Bool) → a ≡ true → (a || b) ≡ true
or_first a b p = ap (λ x. x || b) p

pub or_second : (a b : Bool) → b ≡ true → (a || b) ≡ true
or_second true b p = refl
or_second false b p = p

-- neither of the two
pub or_none : (a b : Bool) → (a || b) ≡ false → (a ≡ false) × (b ≡ false)
or_none true b e = absurd (let clash : true ≡ false = e in cc)
or_none false b e = (refl, e)

pub not_so : (a : Bool) → (a ≡ true → ⊥) → a ≡ false
not_so true h = absurd (h refl)
not_so false h = refl

pub is_so : (b : Bool) → not b ≡ false → b ≡ true
is_so true e = refl
is_so false e = cc

-- what follows from a thing that isn't so isn't so
pub not_then : (a b : Bool) → (a ≡ true → b ≡ true) → not b ≡ true → not a ≡ true
not_then true true g e = e
not_then true false g e = absurd (let clash : false ≡ true = g refl in cc)
not_then false b g e = refl

-- ---- options

pub if_each : {A : Type 0} (P Q : A → Type 0) → ((a : A) → P a → Q a) → (o : Option A) → IfSome o P → IfSome o Q
if_each P Q f (Some a) h = f a h
if_each P Q f None h = tt

pub if_both : {A : Type 0} (P Q R : A → Type 0) → ((a : A) → P a → Q a → R a) → (o : Option A) → IfSome o P → IfSome o Q → IfSome o R
if_both P Q R f (Some a) p q = f a p q
if_both P Q R f None p q = tt

-- what is changed
pub mapped : {A : Type 0} (g : A → A) (P Q : A → Type 0) → ((a : A) → P a → Q (g a)) → (o : Option A) → IfSome o P → IfSome (option_map g o) Q
mapped g P Q h (Some a) p = h a p
mapped g P Q h None p = tt

abbrev pub number_or : Option ℕ → ℕ
number_or (Some n) = n
number_or None = 0

-- ---- mounts

abbrev pub kind_or : Option MountKind → MountKind
kind_or (Some k) = k
kind_or None = kind.Mem

-- a mount of a kind is there
pub mem_there : (o : Option MountKind) → is_mem o ≡ true → IsSome o
mem_there (Some k) h = refl
mem_there None h = absurd (let clash : false ≡ true = h in cc)

pub null_there : (o : Option MountKind) → is_null o ≡ true → IsSome o
null_there (Some k) h = refl
null_there None h = absurd (let clash : false ≡ true = h in cc)

pub union_there : (o : Option MountKind) → is_union o ≡ true → IsSome o
union_there (Some k) h = refl
union_there None h = absurd (let clash : false ≡ true = h in cc)

pub mount_there : (o : Option Mount) → IsSome (option_map (λ (t : Mount). t.kind) o) → IsSome o
mount_there (Some t) h = refl
mount_there None h = absurd (let clash : false ≡ true = h in cc)

pub each_layer : (P Q : Seen → Type 0) → ((p : Seen) → P p → Q p) → (k : MountKind) → EachLayer P k → EachLayer Q k
each_layer P Q f kind.Mem h = tt
each_layer P Q f (kind.Null layer) h = f layer h
each_layer P Q f (kind.Union s u lower) h = (f _ h.0, f lower h.1)

pub each_place : (P Q : Seen → Type 0) → ((p : Seen) → P p → Q p) → (t : Mount) → EachPlace P t → EachPlace Q t
each_place P Q f t h = (if_each P Q f t.on h.0, each_layer P Q f t.kind h.1)

-- ---- places

-- mounts and nodes that are there stay what they are
pub record Stays (f g : Facts) : Type 0 where
  pub kinds : (m : ℕ) (k : MountKind) → kind_in f m ≡ Some k → kind_in g m ≡ Some k
  pub nodes : (s i : ℕ) (k : Kind) → f.kind s i ≡ Some k → g.kind s i ≡ Some k

kept_kind : (test : Option MountKind → Bool) → test None ≡ false → (o r : Option MountKind) → ((k : MountKind) → o ≡ Some k → r ≡ Some k) → test o ≡ true → r ≡ o
kept_kind test none (Some k) r stay h = stay k refl
kept_kind test none None r stay h = absurd (let clash : false ≡ true = sym none ∙ h in cc)

kept_node : (o r : Option Kind) → ((k : Kind) → o ≡ Some k → r ≡ Some k) → IsSome o → r ≡ o
kept_node (Some k) r stay h = stay k refl
kept_node None r stay h = absurd (let clash : false ≡ true = h in cc)

module _ (f g : Facts) (stays : Stays f g) where
  same_kind : (test : Option MountKind → Bool) → test None ≡ false → (m : ℕ) → test (kind_in f m) ≡ true → kind_in g m ≡ kind_in f m
  same_kind test none m h = kept_kind test none (kind_in f m) (kind_in g m) (stays.kinds m) h

  same_base : (p : Seen) → names_mounts f p ≡ true → base g p ≡ base f p
  same_base (Mem m i) h = refl
  same_base (Null m p) h = same_base p (second_of (is_null (kind_in f m)) (names_mounts f p) h)
  same_base (UnionUp m i) h = let at : Option MountKind → NodeId = λ o. record { store = store_by o; ino = i } in ap at (same_kind is_union refl m h)
  same_base (UnionLow m u n p) h = same_base p (second_of (is_union (kind_in f m)) (names_mounts f p) h)

  same_names : (p : Seen) → names_mounts f p ≡ true → names_mounts g p ≡ true
  same_names (Mem m i) h = ap is_mem (same_kind is_mem refl m h) ∙ h
  same_names (Null m p) h =
      let own = first_of (is_null (kind_in f m)) (names_mounts f p) h in
      both_of (is_null (kind_in g m)) (names_mounts g p) (ap is_null (same_kind is_null refl m own) ∙ own) (same_names p (second_of (is_null (kind_in f m)) (names_mounts f p) h))
  same_names (UnionUp m i) h = ap is_union (same_kind is_union refl m h) ∙ h
  same_names (UnionLow m u n p) h =
      let own = first_of (is_union (kind_in f m)) (names_mounts f p) h in
      both_of (is_union (kind_in g m)) (names_mounts g p) (ap is_union (same_kind is_union refl m own) ∙ own) (same_names p (second_of (is_union (kind_in f m)) (names_mounts f p) h))

  pub same_kind_of : (p : Seen) → names_mounts f p ≡ true → IsSome (kind_of f p) → kind_of g p ≡ kind_of f p
  same_kind_of p h there =
      ap (λ (b : NodeId). g.kind b.store b.ino) (same_base p h)
      ∙ kept_node (kind_of f p) (g.kind (base f p).store (base f p).ino) (stays.nodes (base f p).store (base f p).ino) there

  same_files : (p : Seen) → names_mounts f p ≡ true → IsSome (kind_of f p) → AreFiles f p → AreFiles g p
  same_files (Mem m i) h there files = tt
  same_files (Null m p) h there files = same_files p (second_of (is_null (kind_in f m)) (names_mounts f p) h) there files
  same_files (UnionUp m i) h there files = tt
  same_files (UnionLow m u n p) h there files =
      let own = second_of (is_union (kind_in f m)) (names_mounts f p) h in
      (ap is_dir_kind (same_kind_of p own there) ∙ files.0, same_files p own there files.1)

  -- a sound place stays sound
  pub stays_place : (p : Seen) → IsSoundPlace f p → IsSoundPlace g p
  stays_place p h = record {
    mounts = same_names p h.mounts;
    base = ap is_some (same_kind_of p h.mounts h.base) ∙ h.base;
    files = same_files p h.mounts h.base h.files;
  }

  -- and one of a directory that of a directory
  pub stays_dir : (p : Seen) → IsSoundDir f p → IsSoundDir g p
  stays_dir p h = record {
    place = stays_place p h.place;
    dir = ap is_dir_kind (same_kind_of p h.place.mounts h.place.base) ∙ h.dir;
  }
