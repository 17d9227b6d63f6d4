-- Where a walk or a listing waits for a shadow directory, its union shows a directory at the name.
use Rattle.std.proofs.Common.{◌≡◌, ℕ, ◌≤◌, ◌<◌, inl, inr, true, false, cond, List, refl, ap, sym, ◌∙◌, subst, arith}
use Rattle.std.proofs.lemmas.Bool.{cases_order}
use Rattle.std.specs.Prelude.{Option, Some, None}
use Rattle.vfs_tree.specs.Child.{child_below, low_by, low, upper_entry, child_within}
use Rattle.vfs_tree.specs.Facts.{Facts}
use Rattle.vfs_tree.specs.Layers.{kind_in, is_dir, is_cut}
use Rattle.vfs_tree.specs.Place.{Seen, UnionUp, UnionLow, mount_of}
use Rattle.vfs_tree.specs.Shown.{shown_low, shown_union, shown_within, shown_child}
use Rattle.vfs_tree.specs.Views.{facts_of}
use Rattle.vfs_tree.specs.Visible.{visible, has_visible}
use Rattle.vfs_tree.specs.declared.mount.MountKind.{MountKind}
use Rattle.vfs_tree.specs.declared.mount.MountKind.TheVariants as kind
use Rattle.vfs_tree.specs.declared.node.NameEntry.{NameEntry}
use Rattle.vfs_tree.specs.declared.walk.Child.{Child}
use Rattle.vfs_tree.specs.declared.walk.Child.TheVariants as child
use Rattle.vfs_tree.specs.declared.walk.Found.{Found}
use Rattle.vfs_tree.specs.declared.walk.Need.{Need}
use Rattle.vfs_tree.specs.declared.walk.Step.{Step}
use Rattle.vfs_tree.specs.declared.world.World.{World}
use Rattle.call_laws.proofs.ChildInduction.{Anything, Comes, ChildComes, ChildKeeps, needs_keep, so-child, so-low, so-visible, so-has_visible}
use Rattle.call_laws.proofs.FoundLaws.{IsGoodView}
use Rattle.call_laws.proofs.ShownLaws.{Agree, agree-below, agree-low_by, agree-within}
use Rattle.call_laws.proofs.WalkInduction.{FoundNeeds, needs_found}
use Rattle.layer_laws.proofs.GrowLaws.{Grows, grows-below, grows-low_by, grows-within}
use Rattle.layer_laws.proofs.LowerLaws.{Stands, stands_more, alike_lower, alike_below}
use Rattle.layer_laws.proofs.NestLaws.{Within, Under, under_more, lower_nests, child_from, child_nests}
use Rattle.call_model.specs.Rows.{Way, found_at}

-- a directory stands there
abbrev pub DirAt : Facts → Child → Type 0
DirAt f (child.At q) = is_dir f q ≡ true
DirAt f child.Absent = ⊥
DirAt f (child.Need x) = ⊥

-- a union that isn't cut shows a directory at the name
abbrev pub DirShown : Facts → ℕ → ℕ → List ℕ → Type 0
DirShown f m u n = IsGoodView f → is_cut f m ≡ false → DirAt f (shown_child f (UnionUp m u) n)

abbrev pub WantNeed : Facts → Need → Type 0
WantNeed f x = DirShown f x.mount x.dir x.name

-- ---- the lower part shows it, whatever number of mounts is passed

abbrev Always : ℕ → Type 0
Always u = Unit {0}

module _ (f : Facts) (m s top u : ℕ) (lower : Seen) (is : kind_in f m ≡ Some (kind.Union s top lower)) where
  abbrev union_kind : Option MountKind
  union_kind = Some (kind.Union s top lower)

  -- what the lower part has at a name, through so many mounts
  abbrev part : ℕ → List ℕ → Child
  part k n = child_below (child_within k f) (low_by f (child_within k f) u union_kind) n

  part_more : (k : ℕ) → k ≤ m → (n : List ℕ) → Grows (part k n) (part m n)
  part_more k le n =
      let look = child_within k f in
      let more = child_within m f in
      let h : (d : Seen) (n : List ℕ) → Grows (look d n) (more d n) = grows-within f k m le in
      grows-below f look more h (low_by f look u union_kind) (low_by f more u union_kind) (grows-low_by f look more h u union_kind) n

  module _ (view : IsGoodView f) (cut : is_cut f m ≡ false) where
    closed : (d : Seen) (n : List ℕ) → Under f m d → Stands (Under f m) (child_within m f d n)
    closed d n h = stands_more (Within f (mount_of d)) (Under f m) (under_more f (mount_of d) m h.1) (child_within m f d n) (child_nests f view m d n h.0)

    agree : (k : ℕ) → m ≤ k → (d : Seen) (n : List ℕ) → Under f m d → child_within k f d n ≡ child_within m f d n
    agree k le d n h = let less : mount_of d < m = h.1 in child_from f view k d n h.0 (omega (arith, less, le)) ∙ sym (child_from f view m d n h.0 h.1)

    part_fewer : (k : ℕ) → m ≤ k → (n : List ℕ) → part k n ≡ part m n
    part_fewer k le n =
        let look = child_within m f in
        let more = child_within k f in
        (alike_below f f s Always (Under f m) (λ u h. refl) (λ u h e. refl) (λ u h e. tt) (λ q h. refl) look more (agree k le) closed
        (low_by f more u union_kind) (low_by f look u union_kind)
        (alike_lower f f s Always (Under f m) (λ u h. refl) (λ u h e. refl) (λ u h e. tt) (λ q h. refl) look more (agree k le) closed top lower (lower_nests f view m s top lower is cut) u refl (λ e. tt)) n).0

    part_there : (k : ℕ) (n : List ℕ) (q : Seen) → part k n ≡ child.At q → part m n ≡ child.At q
    part_there k n q e =
        elim (cases_order k m) as (λ _. part m n ≡ child.At q) [
          | inl same ↦ ap (λ (k : ℕ). part k n) (sym same) ∙ e
          | inr r ↦ elim r as (λ _. part m n ≡ child.At q) [
            | inl less ↦ subst (λ c. Grows c (part m n)) e (part_more k (omega (arith, less)) n)
            | inr more ↦ sym (part_fewer k (omega (arith, more)) n) ∙ e
          ]
        ]

    part_shown : (n : List ℕ) (q : Seen) → part m n ≡ child.At q → child_below (shown_within m f) (low_by f (shown_within m f) u union_kind) n ≡ child.At q
    part_shown n q e =
        let look = child_within m f in
        let show = shown_within m f in
        subst (λ c. Agree c (child_below show (low_by f show u union_kind) n)) e
        (agree-below look show (agree-within m f) (low_by f look u union_kind) (low_by f show u union_kind) (agree-low_by f look show (agree-within m f) u union_kind) n)

  low_dir : (n : List ℕ) (q : Seen) (c : Child) → c ≡ child.At q → is_dir f q ≡ true → DirAt f (shown_low f m u n c)
  low_dir n q c at dir =
      subst (λ c. DirAt f (shown_low f m u n c)) (sym at)
      (subst (λ b. DirAt f (cond b (child.At q) (child.At (UnionLow m u n q)))) (sym dir) dir)

  union_dir : (n : List ℕ) (q : Seen) (over : List ℕ → Child) (e : Option NameEntry) → e ≡ None → over n ≡ child.At q → is_dir f q ≡ true → DirAt f (shown_union f m u n e over)
  union_dir n q over (Some x) none at dir = absurd (let clash : Some x ≡ None = none in cc)
  union_dir n q over None none at dir = low_dir n q (over n) at dir

  -- a directory that the lower part has where the upper layer has nothing
  pub dir_shown : (k : ℕ) (n : List ℕ) (q : Seen) → f.entry s u n ≡ None → part k n ≡ child.At q → is_dir f q ≡ true → DirShown f m u n
  dir_shown k n q none at dir view cut =
      subst (λ (o : Option MountKind). DirAt f (shown_union f m u n (upper_entry f o u n) (child_below (shown_within m f) (low_by f (shown_within m f) u o)))) (sym is)
      (union_dir n q (child_below (shown_within m f) (low_by f (shown_within m f) u union_kind)) (f.entry s u n) none (part_shown view cut n q (part_there view cut k n q at)) dir)

-- ---- lookups, paths and listings

abbrev pub WantChild : Facts → Child → Type 0
WantChild f c = ChildComes (WantNeed f) Anything c

abbrev pub Wanted : {A : Type 0} → Facts → Step A Need → Type 0
Wanted f m = Comes (WantNeed f) Anything m

-- what is found, where it is a need
abbrev pub WantFound : Facts → Found → Type 0
WantFound f x = FoundNeeds (WantNeed f) x

want_keeps : (f : Facts) → ChildKeeps f (WantNeed f) Anything
want_keeps f = needs_keep f (WantNeed f) (λ k m u n q has dir. dir_shown f m has.store has.top u has.lower has.union k n q has.free has.at dir)

pub want-low : (f : Facts) (m u : ℕ) → WantChild f (low f m u)
want-low f m u = so-low f (WantNeed f) Anything (want_keeps f) m u tt

-- what a path of a call finds
pub want-found : (w : World) (c : ℕ) (o : Option Way) → WantFound (facts_of w) (found_at w c o)
want-found w c o = needs_found w (WantNeed (facts_of w)) (λ d n. so-child (facts_of w) (WantNeed (facts_of w)) Anything (want_keeps (facts_of w)) d n tt) c o

pub want-visible : (w : World) (d : Seen) → Wanted (facts_of w) (visible w d)
want-visible w d = so-visible w (WantNeed (facts_of w)) Anything (want_keeps (facts_of w)) d tt

pub want-has_visible : (w : World) (d : Seen) → Wanted (facts_of w) (has_visible w d)
want-has_visible w d = so-has_visible w (WantNeed (facts_of w)) Anything (want_keeps (facts_of w)) d tt
