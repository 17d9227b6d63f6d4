-- Inner entries leave the nodes that are there, but the directories in which they make names.
use Rattle.std.proofs.Common.{◌≡◌, ℕ, suc, ◌+◌, ◌<◌, false, ◌==◌, List, [], refl, ap, sym, ◌∙◌, subst, arith, eq-eqb}
use Rattle.std.specs.Prelude.{Option, Some, None, IsSome, IfSome, is_some, option_map, option_and_then}
use Rattle.std.specs.List.{list_any}
use Rattle.std.specs.Cmp.{nat_cmp_total}
use Rattle.std.specs.FinMap.{get, insert}
use Rattle.std.proofs.lemmas.Map.Lookups.{exact_unsigned}
use Rattle.finite_maps.proofs.EntryLaws.{by_key}
use Rattle.vfs_tree.specs.Child.{child_of, child_below, low}
use Rattle.vfs_tree.specs.Edits.{made, with_names, with_store, new_dir}
use Rattle.vfs_tree.specs.Facts.{Facts}
use Rattle.vfs_tree.specs.Layers.{kind_in, store_by, base, is_dir, is_dir_kind, kind_of, same_node, stores_within}
use Rattle.vfs_tree.specs.Mounts.{cut_with}
use Rattle.vfs_tree.specs.Nodes.{Names, node_at, AreBelow, IsNumbered}
use Rattle.vfs_tree.specs.Place.{Seen, Mem, Null, UnionUp, UnionLow}
use Rattle.vfs_tree.specs.Sound.{IsSound}
use Rattle.vfs_tree.specs.Views.{kind_of_node, facts_of}
use Rattle.vfs_tree.specs.declared.mount.Mount.{Mount}
use Rattle.vfs_tree.specs.declared.mount.MountKind.{MountKind}
use Rattle.vfs_tree.specs.declared.mount.MountKind.TheVariants as kind
use Rattle.vfs_tree.specs.declared.node.NameEntry.TheVariants.{Ino}
use Rattle.vfs_tree.specs.declared.node.Node.{Node}
use Rattle.vfs_tree.specs.declared.node.Node.TheVariants.{Dir, File, Link}
use Rattle.vfs_tree.specs.declared.node.Store.{Store}
use Rattle.vfs_tree.specs.declared.walk.Child.{Child}
use Rattle.vfs_tree.specs.declared.walk.Child.TheVariants as child
use Rattle.vfs_tree.specs.declared.walk.NodeId.{NodeId}
use Rattle.vfs_tree.specs.declared.world.World.{World}
use Rattle.call_model.specs.Checks.{upper_store, node_of}
use Rattle.call_model.specs.Effects.{copy_of, copied_child, doomed_place, effect, made_above}
use Rattle.call_model.specs.Refs.{place_of}
use Rattle.call_model.specs.declared.entry.Inner.{Inner}
use Rattle.call_model.specs.declared.entry.Inner.TheVariants.{Shadow, CopyUp, Detach, Doom}
use Rattle.call_laws.specs.Lasting.{IsLasting}
use Rattle.call_laws.proofs.DropLaws.{at_node}
use Rattle.call_laws.proofs.FlagLaws.{get_each}
use Rattle.call_laws.proofs.NameLaws.{mounts_stay}
use Rattle.call_laws.proofs.NamedLaws.{no_way}
use Rattle.call_laws.proofs.SoundParts.{both_of, if_each}
use Rattle.layer_laws.specs.Apart.{IsApart}
use Rattle.need_laws.specs.Changed.{IsInLayer, named_in}
use Rattle.need_laws.proofs.WriteLaws.{other_store}

-- a place rests on its node where mounts have the kinds that they had
kinds_base : (f g : Facts) → ((m : ℕ) → kind_in g m ≡ kind_in f m) → (p : Seen) → base g p ≡ base f p
kinds_base f g same (Mem m i) = refl
kinds_base f g same (Null m p) = kinds_base f g same p
kinds_base f g same (UnionUp m i) = let at : Option MountKind → NodeId = λ o. record { store = store_by o; ino = i } in ap at (same m)
kinds_base f g same (UnionLow m u n p) = kinds_base f g same p

-- ---- a node that is made

-- a node is another one than the directory in which a name is made, or has no names
abbrev IsSpared : NodeId → Node → NodeId → Type 0
IsSpared b x d = b.store ≡ d.store → b.ino ≡ d.ino → (g : Names → Names) → with_names g x ≡ x

abbrev node_or : Node → Option Node → Node
node_or x (Some y) = y
node_or x None = x

store_left : (t : Store) (u : ℕ) (n : List ℕ) (node : Node) → AreBelow t.nodes t.next → (i : ℕ) (x : Node) → (i ≡ u → (g : Names → Names) → with_names g x ≡ x) → get t.nodes i ≡ Some x → get (made t u n node).nodes i ≡ Some x
store_left t u n node below i x spared at =
    let grown : Store = record { nodes = insert t.nodes t.next node; next = t.next + 1 } in
    let named : Names → Names = λ names. insert names n (Ino t.next) in
    let there : get grown.nodes i ≡ Some x =
    by_key nat_cmp_total exact_unsigned t.nodes t.next node i (λ o. o ≡ Some x) (λ same. let less : i < t.next = below i (ap is_some at) in absurd (omega (arith, less, same))) at in
    at_node (with_names named) grown u i (λ o. o ≡ Some x)
    (λ y same got. let one : y ≡ x = ap (node_or y) (sym got ∙ there) in ap (λ z. Some (with_names named z)) one ∙ ap Some (spared same named)) there

module _ (w : World) (numbered : IsNumbered w) where
  node_left : (s u : ℕ) (n : List ℕ) (node : Node) (o : Option Store) → get w.stores s ≡ o → (b : NodeId) (x : Node) → IsSpared b x (record { store = s; ino = u }) → node_at w b.store b.ino ≡ Some x
      → node_at (with_store (λ t. made t u n node) w s o) b.store b.ino ≡ Some x
  node_left s u n node (Some t) at b x spared there =
      by_key nat_cmp_total exact_unsigned w.stores s (made t u n node) b.store (λ o. option_and_then (λ (t : Store). get t.nodes b.ino) o ≡ Some x)
      (λ same.
      store_left t u n node (subst (λ o. IfSome o (λ t. AreBelow t.nodes t.next)) at (numbered s)) b.ino x (spared same)
      (sym (ap (option_and_then (λ (t : Store). get t.nodes b.ino)) (ap (get w.stores) same ∙ at)) ∙ there)) there
  node_left s u n node None at b x spared there = there

  module _ (q : Seen) (x : Node) (there : node_of w q ≡ Some x) where
    abbrev b : NodeId
    b = base (facts_of w) q

    made_left : (m u : ℕ) (n : List ℕ) (node : Node) → IsSpared b x (record { store = upper_store w m; ino = u }) → node_of (made_above w m u n node) q ≡ Some x
    made_left m u n node spared =
        let s : ℕ = upper_store w m in
        let v : World = made_above w m u n node in
        ap (λ (b : NodeId). node_at v b.store b.ino) (kinds_base (facts_of w) (facts_of v) (λ k. mounts_stay (λ t. made t u n node) w s k (get w.stores s)) q)
        ∙ node_left s u n node (get w.stores s) refl b x spared there

    copied_left : (m u : ℕ) (n : List ℕ) (c : Child) → IsSpared b x (record { store = upper_store w m; ino = u }) → node_of (copied_child w m u n c) q ≡ Some x
    copied_left m u n (child.At p) spared = made_left m u n (copy_of (node_of w p)) spared
    copied_left m u n child.Absent spared = made_left m u n (File []) spared
    copied_left m u n (child.Need y) spared = made_left m u n (File []) spared

    cut_kind : (m : ℕ) (o : Option Mount) → option_map (λ (t : Mount). t.kind) (option_map (cut_with w.mounts m) o) ≡ option_map (λ (t : Mount). t.kind) o
    cut_kind m (Some t) = refl
    cut_kind m None = refl

    detached_left : (c m : ℕ) → node_of (effect w c (Detach m)) q ≡ Some x
    detached_left c m =
        let v : World = effect w c (Detach m) in
        ap (λ (b : NodeId). node_at v b.store b.ino)
        (kinds_base (facts_of w) (facts_of v) (λ k. ap (option_map (λ (t : Mount). t.kind)) (get_each nat_cmp_total (cut_with w.mounts m) w.mounts k) ∙ cut_kind m (get w.mounts k)) q)
        ∙ there

    doomed_left : (o : Option Seen) → node_of (doomed_place w o) q ≡ Some x
    doomed_left (Some p) = there
    doomed_left None = there

    inner_left : (c : ℕ) (i : Inner) → IfSome (named_in w i) (IsSpared b x) → node_of (effect w c i) q ≡ Some x
    inner_left c (Shadow m u n) spared = made_left m u n (new_dir u false) spared
    inner_left c (CopyUp m u n) spared = copied_left m u n (child_below (child_of (facts_of w)) (low (facts_of w) m u) n) spared
    inner_left c (Detach m) spared = detached_left c m
    inner_left c (Doom at) spared = doomed_left (place_of w at)

  each_left : (c : ℕ) (i : Inner) (q : Seen) (o : Option Node) → node_of w q ≡ o → IsSome (option_map kind_of_node o) → ((x : Node) → o ≡ Some x → IfSome (named_in w i) (IsSpared (base (facts_of w) q) x)) → node_of (effect w c i) q ≡ o
  each_left c i q (Some x) at known spared = inner_left q x at c i (spared x refl)
  each_left c i q None at known spared = no_way known

pub others_left : (w : World) (c : ℕ) (x : Inner) (q : Seen) → IsLasting w → IsSome (kind_of (facts_of w) q) → IfSome (named_in w x) (λ d. same_node (base (facts_of w) q) d ≡ false) → node_of (effect w c x) q ≡ node_of w q
others_left w c x q lasts known other =
    let b : NodeId = base (facts_of w) q in
    each_left w lasts.numbered c x q (node_of w q) refl known (λ y _.
    if_each (λ (d : NodeId). same_node b d ≡ false) (IsSpared b y)
    (λ d away store ino. no_way (sym away ∙ both_of (b.store == d.store) (b.ino == d.ino) (eq-eqb b.store d.store store) (eq-eqb b.ino d.ino ino))) (named_in w x) other)

-- what is no directory has no names
spared_file : (o : Option NodeId) (b : NodeId) (r : Option Node) → is_dir_kind (option_map kind_of_node r) ≡ false → (x : Node) → r ≡ Some x → IfSome o (IsSpared b x)
spared_file (Some d) b r plain (Dir parent opaque names) is = no_way (sym plain ∙ ap (λ r. is_dir_kind (option_map kind_of_node r)) is)
spared_file (Some d) b r plain (File bytes) is = λ store ino g. refl
spared_file (Some d) b r plain (Link target) is = λ store ino g. refl
spared_file None b r plain x is = tt

pub files_left : (w : World) (c : ℕ) (x : Inner) (q : Seen) → IsLasting w → IsSome (kind_of (facts_of w) q) → is_dir (facts_of w) q ≡ false → node_of (effect w c x) q ≡ node_of w q
files_left w c x q lasts known plain =
    each_left w lasts.numbered c x q (node_of w q) refl known (spared_file (named_in w x) (base (facts_of w) q) (node_of w q) plain)

-- ---- the lower layer of the union

module _ (w : World) (sound : IsSound w) (apart : IsApart w) (m s top : ℕ) (lower q : Seen) (union : kind_in (facts_of w) m ≡ Some (kind.Union s top lower)) (seen : IsInLayer (facts_of w) lower q) where
  abbrev at : NodeId
  at = base (facts_of w) q

  other : (at.store == s) ≡ false
  other = other_store w sound s q seen.names seen.over (ap (λ n. list_any (λ t. t == s) (stores_within (suc n) (facts_of w) n)) seen.mount ∙ apart m s top lower union)

  store_as : (edit : Store → Store) (r : ℕ) (o : Option Store) → r ≡ s → get (with_store edit w r o).stores at.store ≡ get w.stores at.store
  store_as edit r (Some t) is =
      by_key nat_cmp_total exact_unsigned w.stores r (edit t) at.store (λ o. o ≡ get w.stores at.store) (λ same. no_way (sym other ∙ eq-eqb at.store s (same ∙ is))) refl
  store_as edit r None is = refl

  layer_left : (u : ℕ) (n : List ℕ) (node : Node) → node_of (made_above w m u n node) q ≡ node_of w q
  layer_left u n node =
      let r : ℕ = upper_store w m in
      let v : World = made_above w m u n node in
      ap (λ (b : NodeId). node_at v b.store b.ino) (kinds_base (facts_of w) (facts_of v) (λ k. mounts_stay (λ t. made t u n node) w r k (get w.stores r)) q)
      ∙ ap (option_and_then (λ (t : Store). get t.nodes at.ino)) (store_as (λ t. made t u n node) r (get w.stores r) (ap store_by union))

  layer_copied : (u : ℕ) (n : List ℕ) (c : Child) → node_of (copied_child w m u n c) q ≡ node_of w q
  layer_copied u n (child.At p) = layer_left u n (copy_of (node_of w p))
  layer_copied u n child.Absent = layer_left u n (File [])
  layer_copied u n (child.Need y) = layer_left u n (File [])

pub shadow_left : (w : World) (c m s top u : ℕ) (lower q : Seen) (n : List ℕ) → IsSound w → IsApart w → kind_in (facts_of w) m ≡ Some (kind.Union s top lower) → IsInLayer (facts_of w) lower q
    → node_of (effect w c (Shadow m u n)) q ≡ node_of w q
shadow_left w c m s top u lower q n sound apart union seen = layer_left w sound apart m s top lower q union seen u n (new_dir u false)

pub copy_left : (w : World) (c m s top u : ℕ) (lower q : Seen) (n : List ℕ) → IsSound w → IsApart w → kind_in (facts_of w) m ≡ Some (kind.Union s top lower) → IsInLayer (facts_of w) lower q
    → node_of (effect w c (CopyUp m u n)) q ≡ node_of w q
copy_left w c m s top u lower q n sound apart union seen = layer_copied w sound apart m s top lower q union seen u n (child_below (child_of (facts_of w)) (low (facts_of w) m u) n)
