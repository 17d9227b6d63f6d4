-- What is made in the upper layer of a union, and what shows nothing.
use Rattle.std.proofs.Common.{◌≡◌, ℕ, zero, suc, Bool, true, false, cond, ◌==◌, List, refl, ap, sym, ◌∙◌, eqb-true}
use Rattle.std.specs.Prelude.{Option, Some, None, option_map, option_and_then}
use Rattle.std.specs.FinMap.{get}
use Rattle.vfs_tree.specs.Child.{child_mem, child_null, child_below, low_within, low_by, upper_entry, steps}
use Rattle.vfs_tree.specs.Edits.{made}
use Rattle.vfs_tree.specs.Facts.{Facts}
use Rattle.vfs_tree.specs.Layers.{kind_in, store_by, is_dir, is_dir_kind, is_linked, linked_by}
use Rattle.vfs_tree.specs.Nodes.{entry_in, node_at}
use Rattle.vfs_tree.specs.Place.{Seen, Mem, Null, UnionUp, UnionLow}
use Rattle.vfs_tree.specs.Shown.{Shown, shown_low, shown_union, shown_within, shown_child, shown_along, shown_node, shown_at, shown}
use Rattle.vfs_tree.specs.Shown as seen
use Rattle.vfs_tree.specs.Views.{kind_of_node, facts_in, dir_in, facts_of}
use Rattle.vfs_tree.specs.declared.mount.MountKind.{MountKind}
use Rattle.vfs_tree.specs.declared.mount.MountKind.TheVariants as kind
use Rattle.vfs_tree.specs.declared.node.NameEntry.{NameEntry}
use Rattle.vfs_tree.specs.declared.node.Node.{Node}
use Rattle.vfs_tree.specs.declared.node.Node.TheVariants.{Dir, File, Link}
use Rattle.vfs_tree.specs.declared.node.Store.{Store}
use Rattle.vfs_tree.specs.declared.walk.Child.{Child}
use Rattle.vfs_tree.specs.declared.walk.Child.TheVariants as child
use Rattle.vfs_tree.specs.declared.world.World.{World}
use Rattle.call_laws.proofs.FoundLaws.{IsGood, good_layers}
use Rattle.call_laws.proofs.MadeLaws.{node_new}
use Rattle.call_laws.proofs.NamedLaws.{no_way}
use Rattle.call_laws.proofs.PlaceLaws.{good_view}
use Rattle.call_laws.proofs.Whole.{IsWhole}
use Rattle.layer_laws.proofs.AvoidLaws.{mem_kind}
use Rattle.layer_laws.proofs.UpperLaws.{IsMade, world_made, below, parts, store_new, linked_other, other_by}

-- ---- what is no directory shows nothing

no_entry : (k : List ℕ) (o : Option Node) → is_dir_kind (option_map kind_of_node o) ≡ false → entry_in k o ≡ None
no_entry k (Some (Dir parent opaque names)) e = no_way (sym e)
no_entry k (Some (File bytes)) e = refl
no_entry k (Some (Link target)) e = refl
no_entry k None e = refl

no_facts : (t : Store) (d : ℕ) (o : Option Node) → is_dir_kind (option_map kind_of_node o) ≡ false → linked_by (option_and_then (facts_in t d) o) ≡ false
no_facts t d (Some (Dir parent opaque names)) e = no_way (sym e)
no_facts t d (Some (File bytes)) e = refl
no_facts t d (Some (Link target)) e = refl
no_facts t d None e = refl

no_link : (d : ℕ) (o : Option Store) → is_dir_kind (option_map kind_of_node (option_and_then (λ (t : Store). get t.nodes d) o)) ≡ false → linked_by (option_and_then (λ (t : Store). dir_in t d) o) ≡ false
no_link d (Some t) e = no_facts t d (get t.nodes d) e
no_link d None e = refl

-- a union's upper node that is no directory, by the union's kind
file_shows_none : (w : World) (k m r : ℕ) (n : List ℕ) (s top : ℕ) (lower : Seen) → kind_in (facts_of w) m ≡ Some (kind.Union s top lower) → is_dir_kind ((facts_of w).kind s r) ≡ false
    → shown_within (suc k) (facts_of w) (UnionUp m r) n ≡ child.Absent
file_shows_none w k m r n s top lower is plain =
    let f = facts_of w in
    let look = shown_within k f in
    ap (λ (o : Option MountKind). shown_union f m r n (upper_entry f o r n) (child_below look (low_by f look r o))) is
    ∙ ap (λ (e : Option NameEntry). shown_union f m r n e (child_below look (low_by f look r (Some (kind.Union s top lower))))) (no_entry n (node_at w s r) plain)
    ∙ ap (λ (b : Bool). shown_low f m r n (child_below look (cond b (low_within steps f look s top lower r) child.Absent) n)) (no_link r (get w.stores s) plain)

plain_case : (w : World) (k m r : ℕ) (n : List ℕ) (o : Option MountKind) → kind_in (facts_of w) m ≡ o → is_dir_kind ((facts_of w).kind (store_by o) r) ≡ false → shown_within (suc k) (facts_of w) (UnionUp m r) n ≡ child.Absent
plain_case w k m r n (Some (kind.Union s top lower)) is plain = file_shows_none w k m r n s top lower is plain
plain_case w k m r n (Some kind.Mem) is plain = ap (λ (o : Option MountKind). shown_union (facts_of w) m r n (upper_entry (facts_of w) o r n) (child_below (shown_within k (facts_of w)) (low_by (facts_of w) (shown_within k (facts_of w)) r o))) is
plain_case w k m r n (Some (kind.Null layer)) is plain = ap (λ (o : Option MountKind). shown_union (facts_of w) m r n (upper_entry (facts_of w) o r n) (child_below (shown_within k (facts_of w)) (low_by (facts_of w) (shown_within k (facts_of w)) r o))) is
plain_case w k m r n None is plain = ap (λ (o : Option MountKind). shown_union (facts_of w) m r n (upper_entry (facts_of w) o r n) (child_below (shown_within k (facts_of w)) (low_by (facts_of w) (shown_within k (facts_of w)) r o))) is

pub plain_shows : (w : World) (k : ℕ) (p : Seen) (n : List ℕ) → is_dir (facts_of w) p ≡ false → shown_within k (facts_of w) p n ≡ child.Absent
plain_shows w zero p n e = refl
plain_shows w (suc k) (Mem m i) n e = ap (child_mem m) (no_entry n (node_at w m i) e)
plain_shows w (suc k) (Null m p) n e = ap (child_null m) (plain_shows w k p n e)
plain_shows w (suc k) (UnionUp m r) n e = plain_case w k m r n (kind_in (facts_of w) m) refl e
plain_shows w (suc k) (UnionLow m r a p) n e = refl

abbrev pub dir_child : Facts → Child → Bool
dir_child f (child.At p) = is_dir f p
dir_child f child.Absent = false
dir_child f (child.Need y) = false

pub dir_shown : (o : Option Node) → is_dir_kind (option_map kind_of_node o) ≡ true → option_map shown_node o ≡ Some seen.Dir
dir_shown (Some (Dir parent opaque names)) e = refl
dir_shown (Some (File bytes)) e = no_way e
dir_shown (Some (Link target)) e = no_way e
dir_shown None e = no_way e

-- ---- what is made

module _ (w : World) (h : IsWhole w) (m s top : ℕ) (lower : Seen) (u : ℕ) (n : List ℕ) (t : Store) (node : Node) (x : IsMade w m s top lower u n t node) (hv : IsWhole (world_made w s u n t node)) where
  abbrev v : World
  v = world_made w s u n t node

  abbrev f : Facts
  f = facts_of w

  abbrev g : Facts
  g = facts_of v

  abbrev i : ℕ
  i = t.next

  abbrev new : Store
  new = made t u n node

  abbrev union_kind : Option MountKind
  union_kind = Some (kind.Union s top lower)

  pub linked_u : is_linked f s u ≡ true
  linked_u = ap (λ (o : Option Store). linked_by (option_and_then (λ (t : Store). dir_in t u) o)) x.store ∙ x.linked

  pub other_u : u ≡ i → ⊥
  other_u = linked_other w h m s top lower u n t node x hv u linked_u

  pub node_made : node_at v s i ≡ Some node
  node_made =
      let d = parts w h m s top lower u n t node x hv in
      ap (option_and_then (λ (t : Store). get t.nodes i)) (store_new w h m s top lower u n t node x hv)
      ∙ node_new t u n node d.parent d.opaque d.names (below w h m s top lower u n t node x hv) d.at

  pub made_at : shown_at v (child.At (UnionUp m i)) ≡ Some (shown_node node)
  made_at = ap (λ (o : Option MountKind). option_map shown_node (node_at v (store_by o) i)) x.union ∙ ap (option_map shown_node) node_made

  -- the upper layer's own directory, which is there
  pub good_top : IsGood f (Mem s top)
  good_top = (good_layers f (good_view w h.sound h.lasts) m (kind.Union s top lower) x.union x.uncut).0

  pub other_top : (i == top) ≡ false
  other_top = by (i == top) refl
    where
      by : (b : Bool) → (i == top) ≡ b → b ≡ false
      by false e = refl
      by true e = absurd (other_by w h m s top lower u n t node x hv top good_top.sound.base (sym (eqb-true i top e)))

  pub other_root : (i == 1) ≡ false
  other_root = by (i == 1) refl
    where
      by : (b : Bool) → (i == 1) ≡ b → b ≡ false
      by false e = refl
      by true e = absurd (other_by w h m s top lower u n t node x hv 1 (h.lasts.roots s (mem_kind (kind_in f s) good_top.sound.mounts)) (sym (eqb-true i 1 e)))
