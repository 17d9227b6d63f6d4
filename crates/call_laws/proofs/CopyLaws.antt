-- A copy of a file in the upper layer of a union keeps sound worlds lasting.
use Rattle.std.proofs.Common.{◌≡◌, ℕ, true, false, cond, ◌&&◌, ◌==◌, List, [], refl, ap, sym, ◌∙◌, subst, eqb-true}
use Rattle.std.specs.Prelude.{Option, Some, None, IsSome, IfSome, is_some}
use Rattle.std.specs.Str.{bytes_eq}
use Rattle.std.specs.FinMap.{get}
use Rattle.finite_maps.proofs.EntryLaws.{pair_total}
use Rattle.vfs_tree.specs.Child.{child_of, child_below, low}
use Rattle.vfs_tree.specs.Edits.{made}
use Rattle.vfs_tree.specs.Facts.{Facts}
use Rattle.vfs_tree.specs.Layers.{same_place, kind_in, store_by, kind_of, is_dir_kind, is_dir}
use Rattle.vfs_tree.specs.Nodes.{is_given, next_of}
use Rattle.vfs_tree.specs.Place.{Seen, Mem, Null, UnionUp, UnionLow, mount_of}
use Rattle.vfs_tree.specs.Sound.{is_null, is_union, names_mounts, AreFiles, IsSoundPlace}
use Rattle.vfs_tree.specs.Views.{kind_of_node, facts_of}
use Rattle.vfs_tree.specs.declared.node.Node.{Node}
use Rattle.vfs_tree.specs.declared.node.Node.TheVariants.{Dir, File, Link}
use Rattle.vfs_tree.specs.declared.walk.Child.{Child}
use Rattle.vfs_tree.specs.declared.walk.Child.TheVariants as child
use Rattle.vfs_tree.specs.declared.world.World.{World}
use Rattle.call_model.specs.Checks.{upper_store, node_of}
use Rattle.call_model.specs.Effects.{made_above, turned, turned_open, turned_opens, copy_of, copied_from, copied_child, copied_up}
use Rattle.call_laws.specs.Lasting.{IsOver}
use Rattle.call_laws.specs.Needing.{IsFree}
use Rattle.call_laws.proofs.FlagLaws.{get_each}
use Rattle.call_laws.proofs.MadeLaws.{IsFresh}
use Rattle.call_laws.proofs.NameLaws.{new_kind, mounts_stay}
use Rattle.call_laws.proofs.SoundParts.{first_of, second_of, both_of, mapped}
use Rattle.call_laws.proofs.Whole.{IsWhole}
use Rattle.call_laws.proofs.WholeLaws.{HasRoom, whole-made}

-- ---- what turns to the copy

module _ (g : Facts) (m u : ℕ) (n : List ℕ) (q : Seen) (i : ℕ) (there : IsSome (g.kind (store_by (kind_in g m)) i)) (file : is_dir_kind (g.kind (store_by (kind_in g m)) i) ≡ false) where
  abbrev from : Seen
  from = UnionLow m u n q

  abbrev to : Seen
  to = UnionUp m i

  -- by whether the place is the file itself
  by_place : (P : Seen → Type 0) (l v : ℕ) (a : List ℕ) (p : Seen) → (m ≡ l → P to) → P (UnionLow l v a (turned from to p)) → P (turned from to (UnionLow l v a p))
  by_place P l v a p here else =
      elim (same_place from (UnionLow l v a p)) as (λ b. same_place from (UnionLow l v a p) ≡ b → P (cond b to (UnionLow l v a (turned from to p)))) [
        | true ↦ λ is. here (eqb-true m l (first_of (m == l) ((u == v) && (bytes_eq n a && same_place q p)) is))
        | false ↦ λ is. else
      ] refl

  turned_names : (p : Seen) → names_mounts g p ≡ true → names_mounts g (turned from to p) ≡ true
  turned_names (Mem l j) h = h
  turned_names (Null l p) h =
      both_of (is_null (kind_in g l)) (names_mounts g (turned from to p)) (first_of (is_null (kind_in g l)) (names_mounts g p) h) (turned_names p (second_of (is_null (kind_in g l)) (names_mounts g p) h))
  turned_names (UnionUp l j) h = h
  turned_names (UnionLow l v a p) h =
      let own = first_of (is_union (kind_in g l)) (names_mounts g p) h in
      by_place (λ x. names_mounts g x ≡ true) l v a p (λ e. ap (λ x. is_union (kind_in g x)) e ∙ own)
      (both_of (is_union (kind_in g l)) (names_mounts g (turned from to p)) own (turned_names p (second_of (is_union (kind_in g l)) (names_mounts g p) h)))

  turned_base : (p : Seen) → IsSome (kind_of g p) → IsSome (kind_of g (turned from to p))
  turned_base (Mem l j) h = h
  turned_base (Null l p) h = turned_base p h
  turned_base (UnionUp l j) h = h
  turned_base (UnionLow l v a p) h = by_place (λ x. IsSome (kind_of g x)) l v a p (λ e. there) (turned_base p h)

  turned_plain : (p : Seen) → is_dir g p ≡ false → is_dir g (turned from to p) ≡ false
  turned_plain (Mem l j) h = h
  turned_plain (Null l p) h = turned_plain p h
  turned_plain (UnionUp l j) h = h
  turned_plain (UnionLow l v a p) h = by_place (λ x. is_dir g x ≡ false) l v a p (λ e. file) (turned_plain p h)

  turned_files : (p : Seen) → AreFiles g p → AreFiles g (turned from to p)
  turned_files (Mem l j) h = h
  turned_files (Null l p) h = turned_files p h
  turned_files (UnionUp l j) h = h
  turned_files (UnionLow l v a p) h = by_place (AreFiles g) l v a p (λ e. tt) (turned_plain p h.0, turned_files p h.1)

  turned_sound : (p : Seen) → IsSoundPlace g p → IsSoundPlace g (turned from to p)
  turned_sound p h = record { mounts = turned_names p h.mounts; base = turned_base p h.base; files = turned_files p h.files }

  turned_mount : (p : Seen) → mount_of (turned from to p) ≡ mount_of p
  turned_mount (Mem l j) = refl
  turned_mount (Null l p) = refl
  turned_mount (UnionUp l j) = refl
  turned_mount (UnionLow l v a p) = by_place (λ x. mount_of x ≡ l) l v a p (λ e. e) refl

  turned_over : (p : Seen) → IsOver g p → IsOver g (turned from to p)
  turned_over (Mem l j) h = tt
  turned_over (Null l p) h = (h.0 ∙ ap Some (sym (turned_mount p)), turned_over p h.1)
  turned_over (UnionUp l j) h = tt
  turned_over (UnionLow l v a p) h = by_place (IsOver g) l v a p (λ e. tt) (h.0 ∙ ap Some (sym (turned_mount p)), turned_over p h.1)

-- each open file that stands on the file turns to the copy
whole-turned : (v : World) (m u : ℕ) (n : List ℕ) (q : Seen) (i : ℕ) → IsWhole v → IsSome ((facts_of v).kind (store_by (kind_in (facts_of v) m)) i) → is_dir_kind ((facts_of v).kind (store_by (kind_in (facts_of v) m)) i) ≡ false
    → IsWhole (turned_opens (UnionLow m u n q) (UnionUp m i) v)
whole-turned v m u n q i h there file =
    let g = facts_of v in
    let from : Seen = UnionLow m u n q in
    let to : Seen = UnionUp m i in
    record {
      sound = record {
        view = h.sound.view;
        opens = λ k. subst (λ x. IfSome x (λ o. o.dead ≡ false → IsSoundPlace g o.place)) (sym (get_each pair_total (turned_open from to) v.opens k))
            (mapped (turned_open from to) (λ o. o.dead ≡ false → IsSoundPlace g o.place) (λ o. o.dead ≡ false → IsSoundPlace g o.place) (λ o s e. turned_sound g m u n q i there file o.place (s e)) (get v.opens k) (h.sound.opens k));
        cwds = h.sound.cwds;
        apart = h.sound.apart;
      };
      lasts = record {
        numbered = h.lasts.numbered;
        mounts = h.lasts.mounts;
        roots = h.lasts.roots;
        parents = h.lasts.parents;
        first = h.lasts.first;
        uncut = h.lasts.uncut;
        overs = h.lasts.overs;
        opens = λ k. subst (λ x. IfSome x (λ o. o.dead ≡ false → IsOver g o.place)) (sym (get_each pair_total (turned_open from to) v.opens k))
            (mapped (turned_open from to) (λ o. o.dead ≡ false → IsOver g o.place) (λ o. o.dead ≡ false → IsOver g o.place) (λ o s e. turned_over g m u n q i there file o.place (s e)) (get v.opens k) (h.lasts.opens k));
        cwds = h.lasts.cwds;
        left = h.lasts.left;
        counted = record { mounts = h.lasts.counted.mounts; stores = h.lasts.counted.stores; most = h.lasts.counted.most; inodes = h.lasts.counted.inodes };
      };
    }

-- ---- the copy

fresh_copy : (u : ℕ) (o : Option Node) → IsFresh u (copy_of o)
fresh_copy u (Some (File bytes)) = tt
fresh_copy u (Some (Link target)) = tt
fresh_copy u (Some (Dir parent opaque names)) = tt
fresh_copy u None = tt

plain_copy : (o : Option Node) → is_dir_kind (Some (kind_of_node (copy_of o))) ≡ false
plain_copy (Some (File bytes)) = refl
plain_copy (Some (Link target)) = refl
plain_copy (Some (Dir parent opaque names)) = refl
plain_copy None = refl

module _ (w : World) (h : IsWhole w) (m u : ℕ) (n : List ℕ) (room : HasRoom w (upper_store w m)) (free : IsFree (facts_of w) m u n) where
  abbrev s : ℕ
  s = upper_store w m

  -- a node is made in the upper layer
  pub whole-above : (node : Node) → IsFresh u node → IsWhole (made_above w m u n node)
  whole-above node fresh = whole-made w s u n node h room free.linked (ap is_given free.free) fresh

  module _ (q : Seen) where
    abbrev node : Node
    node = copy_of (node_of w q)

    abbrev v : World
    v = made_above w m u n node

    same_kind : kind_in (facts_of v) m ≡ kind_in (facts_of w) m
    same_kind = mounts_stay (λ t. made t u n node) w s m (get w.stores s)

    kind_new : (facts_of v).kind (store_by (kind_in (facts_of v) m)) (next_of (get w.stores s)) ≡ Some (kind_of_node node)
    kind_new =
        ap (λ k. (facts_of v).kind (store_by k) (next_of (get w.stores s))) same_kind
        ∙ new_kind w s u n node h free.linked (ap is_given free.free) (fresh_copy u (node_of w q)) (get w.stores s) refl

    whole-from : IsWhole (copied_from w m u n q)
    whole-from =
        whole-turned v m u n q (next_of (get w.stores s)) (whole-above node (fresh_copy u (node_of w q))) (ap is_some kind_new) (ap is_dir_kind kind_new ∙ plain_copy (node_of w q))

  whole-child : (c : Child) → IsWhole (copied_child w m u n c)
  whole-child (child.At q) = whole-from q
  whole-child child.Absent = whole-above (File []) tt
  whole-child (child.Need x) = whole-above (File []) tt

  -- a copy is made where the upper layer has nothing
  pub whole-copy : IsWhole (copied_up w m u n)
  whole-copy = whole-child (child_below (child_of (facts_of w)) (low (facts_of w) m u) n)
