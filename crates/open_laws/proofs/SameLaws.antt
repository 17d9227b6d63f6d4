-- What is shown and listed in a world rests on its stores and the kinds of its mounts alone.
use Rattle.std.proofs.Common.{◌≡◌, ℕ, zero, suc, cond, List, [], ◌∷◌, refl, ap, ◌∙◌}
use Rattle.std.specs.Prelude.{Option, Some, None, option_map}
use Rattle.vfs_tree.specs.Child.{Lookup, child_null, child_below, child_low, child_union, low_by, low, upper_entry, child_within}
use Rattle.vfs_tree.specs.Facts.{Facts}
use Rattle.vfs_tree.specs.Layers.{kind_in, store_by, base, is_dir, is_dir_kind}
use Rattle.vfs_tree.specs.Mounts.{Mounts, Leaving}
use Rattle.vfs_tree.specs.Nodes.{node_at}
use Rattle.vfs_tree.specs.Place.{Seen, Mem, Null, UnionUp, UnionLow, mount_of}
use Rattle.vfs_tree.specs.Shown.{shown_low, shown_union, shown_within, shown_child, shown_along, shown_node, shown_at, shown}
use Rattle.vfs_tree.specs.Steps.{◌>>=◌}
use Rattle.vfs_tree.specs.Views.{facts_of}
use Rattle.vfs_tree.specs.Visible.{Listed, merged, names_at, listed_below, visible_within, visible}
use Rattle.vfs_tree.specs.declared.mount.MountKind.{MountKind}
use Rattle.vfs_tree.specs.declared.mount.MountKind.TheVariants as kind
use Rattle.vfs_tree.specs.declared.node.NameEntry.{NameEntry}
use Rattle.vfs_tree.specs.declared.node.NameEntry.TheVariants.{Ino, White}
use Rattle.vfs_tree.specs.declared.walk.Child.{Child}
use Rattle.vfs_tree.specs.declared.walk.Child.TheVariants as child
use Rattle.vfs_tree.specs.declared.walk.NodeId.{NodeId}
use Rattle.vfs_tree.specs.declared.walk.Step.TheVariants.{Go}
use Rattle.vfs_tree.specs.declared.world.World.{World}
use Rattle.layer_laws.proofs.LowerLaws.{Stands, alike_lower}

-- a world with other mounts, and with others who are leaving them
abbrev pub other : World → Mounts → Leaving → World
other w mounts leaving = record w { mounts = mounts; leaving = leaving }

abbrev Always : ℕ → Type 0
Always u = Unit {0}

abbrev Anywhere : Seen → Type 0
Anywhere p = Unit {0}

all_stand : (c : Child) → Stands Anywhere c
all_stand (child.At q) = tt
all_stand child.Absent = tt
all_stand (child.Need x) = tt

module _ (w : World) (mounts : Mounts) (leaving : Leaving) (same : (m : ℕ) → kind_in (facts_of (other w mounts leaving)) m ≡ kind_in (facts_of w) m) where
  abbrev v : World
  v = other w mounts leaving

  abbrev f : Facts
  f = facts_of w

  abbrev g : Facts
  g = facts_of v

  same_base : (p : Seen) → base g p ≡ base f p
  same_base (Mem m i) = refl
  same_base (Null m p) = same_base p
  same_base (UnionUp m i) = let at : Option MountKind → NodeId = λ o. record { store = store_by o; ino = i } in ap at (same m)
  same_base (UnionLow m u n p) = same_base p

  pub same_dir : (p : Seen) → is_dir g p ≡ is_dir f p
  same_dir p = ap (λ (b : NodeId). is_dir_kind (f.kind b.store b.ino)) (same_base p)

  -- ---- lower parts

  module _ (a b : Lookup) (agree : (d : Seen) (n : List ℕ) → b d n ≡ a d n) where
    same_part : (u : ℕ) (o : Option MountKind) → low_by g b u o ≡ low_by f a u o
    same_part u (Some (kind.Union s top lower)) =
        (alike_lower f g s Always Anywhere (λ u h. refl) (λ u h e. refl) (λ u h e. tt) (λ q h. same_dir q) a b (λ d n h. agree d n) (λ d n h. all_stand (a d n)) top lower tt u refl (λ e. tt)).0
    same_part u (Some kind.Mem) = refl
    same_part u (Some (kind.Null layer)) = refl
    same_part u None = refl

    same_below : (c : Child) (n : List ℕ) → child_below b c n ≡ child_below a c n
    same_below (child.At d) n = agree d n
    same_below child.Absent n = refl
    same_below (child.Need x) n = refl

    same_beside : (m u : ℕ) (n : List ℕ) → child_below b (low_by g b u (kind_in g m)) n ≡ child_below a (low_by f a u (kind_in f m)) n
    same_beside m u n =
        ap (λ (o : Option MountKind). child_below b (low_by g b u o) n) (same m) ∙ ap (λ (c : Child). child_below b c n) (same_part u (kind_in f m)) ∙ same_below (low_by f a u (kind_in f m)) n

  same_entry : (o : Option MountKind) (u : ℕ) (n : List ℕ) → upper_entry g o u n ≡ upper_entry f o u n
  same_entry (Some (kind.Union s top lower)) u n = refl
  same_entry (Some kind.Mem) u n = refl
  same_entry (Some (kind.Null layer)) u n = refl
  same_entry None u n = refl

  same_upper : (m u : ℕ) (n : List ℕ) → upper_entry g (kind_in g m) u n ≡ upper_entry f (kind_in f m) u n
  same_upper m u n = ap (λ (o : Option MountKind). upper_entry g o u n) (same m) ∙ same_entry (kind_in f m) u n

  -- ---- what is shown

  same_shown_low : (m u : ℕ) (n : List ℕ) (c : Child) → shown_low g m u n c ≡ shown_low f m u n c
  same_shown_low m u n (child.At q) = ap (λ x. cond x (child.At q) (child.At (UnionLow m u n q))) (same_dir q)
  same_shown_low m u n child.Absent = refl
  same_shown_low m u n (child.Need x) = refl

  same_union : (m u : ℕ) (n : List ℕ) (e : Option NameEntry) (over under : List ℕ → Child) → over n ≡ under n → shown_union g m u n e over ≡ shown_union f m u n e under
  same_union m u n (Some (Ino i)) over under is = refl
  same_union m u n (Some White) over under is = refl
  same_union m u n None over under is = ap (shown_low g m u n) is ∙ same_shown_low m u n (under n)

  same_within : (k : ℕ) (d : Seen) (n : List ℕ) → shown_within k g d n ≡ shown_within k f d n
  same_within zero d n = refl
  same_within (suc k) (Mem m i) n = refl
  same_within (suc k) (Null m p) n = ap (child_null m) (same_within k p n)
  same_within (suc k) (UnionUp m u) n =
      let over : List ℕ → Child = child_below (shown_within k g) (low_by g (shown_within k g) u (kind_in g m)) in
      let under : List ℕ → Child = child_below (shown_within k f) (low_by f (shown_within k f) u (kind_in f m)) in
      ap (λ (e : Option NameEntry). shown_union g m u n e over) (same_upper m u n)
      ∙ same_union m u n (upper_entry f (kind_in f m) u n) over under (same_beside (shown_within k f) (shown_within k g) (same_within k) m u n)
  same_within (suc k) (UnionLow m u a p) n = refl

  pub same_child : (d : Seen) (n : List ℕ) → shown_child g d n ≡ shown_child f d n
  same_child d n = same_within (suc (mount_of d)) d n

  same_along : (ns : List (List ℕ)) (c : Child) → shown_along g c ns ≡ shown_along f c ns
  same_along [] c = refl
  same_along (n ∷ ns) c =
      ap (λ (c : Child). shown_along g c ns) (same_below (shown_child f) (shown_child g) same_child c n) ∙ same_along ns (child_below (shown_child f) c n)

  same_at : (c : Child) → shown_at v c ≡ shown_at w c
  same_at (child.At p) = ap (λ (b : NodeId). option_map shown_node (node_at w b.store b.ino)) (same_base p)
  same_at child.Absent = refl
  same_at (child.Need x) = refl

  pub same_tree : (p : Seen) (ns : List (List ℕ)) → shown v p ns ≡ shown w p ns
  same_tree p ns = ap (shown_at v) (same_along ns (child.At p)) ∙ same_at (shown_along f (child.At p) ns)

  -- ---- what is found

  same_child_low : (m u : ℕ) (n : List ℕ) (c : Child) → child_low g m u n c ≡ child_low f m u n c
  same_child_low m u n (child.At q) = ap (λ x. cond x (child.Need (record { mount = m; dir = u; name = n })) (child.At (UnionLow m u n q))) (same_dir q)
  same_child_low m u n child.Absent = refl
  same_child_low m u n (child.Need x) = refl

  same_child_union : (m u : ℕ) (n : List ℕ) (e : Option NameEntry) (over under : List ℕ → Child) → over n ≡ under n → child_union g m u n e over ≡ child_union f m u n e under
  same_child_union m u n (Some (Ino i)) over under is = refl
  same_child_union m u n (Some White) over under is = refl
  same_child_union m u n None over under is = ap (child_low g m u n) is ∙ same_child_low m u n (under n)

  same_found : (k : ℕ) (d : Seen) (n : List ℕ) → child_within k g d n ≡ child_within k f d n
  same_found zero d n = refl
  same_found (suc k) (Mem m i) n = refl
  same_found (suc k) (Null m p) n = ap (child_null m) (same_found k p n)
  same_found (suc k) (UnionUp m u) n =
      let over : List ℕ → Child = child_below (child_within k g) (low_by g (child_within k g) u (kind_in g m)) in
      let under : List ℕ → Child = child_below (child_within k f) (low_by f (child_within k f) u (kind_in f m)) in
      ap (λ (e : Option NameEntry). child_union g m u n e over) (same_upper m u n)
      ∙ same_child_union m u n (upper_entry f (kind_in f m) u n) over under (same_beside (child_within k f) (child_within k g) (same_found k) m u n)
  same_found (suc k) (UnionLow m u a p) n = refl

  pub same_low : (m u : ℕ) → low g m u ≡ low f m u
  same_low m u = ap (low_by g (child_within m g) u) (same m) ∙ same_part (child_within m f) (child_within m g) (same_found m) u (kind_in f m)

  -- ---- what is listed

  same_listed : (a b : Seen → Listed) → ((d : Seen) → b d ≡ a d) → (c : Child) → listed_below b c ≡ listed_below a c
  same_listed a b agree (child.At d) = agree d
  same_listed a b agree child.Absent = refl
  same_listed a b agree (child.Need x) = refl

  same_names : (k : ℕ) (d : Seen) → visible_within k v d ≡ visible_within k w d
  same_names zero d = refl
  same_names (suc k) (Mem m i) = refl
  same_names (suc k) (Null m p) = same_names k p
  same_names (suc k) (UnionUp m u) =
      let list : ℕ → Listed → Listed = λ s below. below >>= (λ (lower : List (List ℕ)). Go (merged (names_at w s u) lower)) in
      ap (λ (o : Option MountKind). list (store_by o) (listed_below (visible_within k v) (low g m u))) (same m)
      ∙ ap (λ (c : Child). list (store_by (kind_in f m)) (listed_below (visible_within k v) c)) (same_low m u)
      ∙ ap (list (store_by (kind_in f m))) (same_listed (visible_within k w) (visible_within k v) (same_names k) (low f m u))
  same_names (suc k) (UnionLow m u n p) = refl

  pub same_visible : (d : Seen) → visible v d ≡ visible w d
  same_visible d = same_names (suc (mount_of d)) d
