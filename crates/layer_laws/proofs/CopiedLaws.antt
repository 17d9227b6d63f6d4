-- What a copy takes: where a union has a file of its lower layer alone, the lower part has it at the name.
use Rattle.std.proofs.Common.{◌≡◌, ℕ, suc, Bool, true, false, cond, List, refl, ap, sym, ◌∙◌, subst}
use Rattle.std.specs.Prelude.{Option, Some, None, IsSome, is_some, option_map, option_and_then}
use Rattle.std.specs.FinMap.{get}
use Rattle.vfs_tree.specs.Child.{child_below, child_low, child_union, child_within, child_of, low, upper_entry}
use Rattle.vfs_tree.specs.Facts.{Facts}
use Rattle.vfs_tree.specs.Layers.{kind_in, store_by, is_cut, is_dir, kind_of, is_linked, linked_by}
use Rattle.vfs_tree.specs.Place.{Seen, UnionUp, UnionLow}
use Rattle.vfs_tree.specs.Sound.{is_union}
use Rattle.vfs_tree.specs.Views.{kind_of_node, facts_in, dir_in, facts_of}
use Rattle.vfs_tree.specs.declared.mount.MountKind.{MountKind}
use Rattle.vfs_tree.specs.declared.mount.MountKind.TheVariants as kind
use Rattle.vfs_tree.specs.declared.node.NameEntry.{NameEntry}
use Rattle.vfs_tree.specs.declared.node.Node.{Node}
use Rattle.vfs_tree.specs.declared.node.Store.{Store}
use Rattle.vfs_tree.specs.declared.walk.Child.{Child}
use Rattle.vfs_tree.specs.declared.walk.Child.TheVariants as child
use Rattle.vfs_tree.specs.declared.world.World.{World}
use Rattle.call_laws.specs.Needing.{IsFree}
use Rattle.call_laws.proofs.FoundLaws.{IsGood, GoodChild, ReadyChild, good-child, ready-within}
use Rattle.call_laws.proofs.NamedLaws.{no_way}
use Rattle.call_laws.proofs.PlaceLaws.{good_view}
use Rattle.call_laws.proofs.Whole.{IsWhole}
use Rattle.layer_laws.proofs.LowerLaws.{Stands}
use Rattle.layer_laws.proofs.NestLaws.{Under, child_from, nests-lower, child_looking, child_nests}

pub record HasStore (o : Option Store) : Type 0 where
  pub store : Store
  pub at : o ≡ Some store

pub there_store : (u : ℕ) (o : Option Store) → linked_by (option_and_then (λ (t : Store). dir_in t u) o) ≡ true → HasStore o
there_store u (Some t) e = record { store = t; at = refl }
there_store u None e = no_way e

node_there : (t : Store) (u : ℕ) (o : Option Node) → linked_by (option_and_then (facts_in t u) o) ≡ true → IsSome (option_map kind_of_node o)
node_there t u (Some y) e = refl
node_there t u None e = no_way e

dir_there : (u : ℕ) (o : Option Store) → linked_by (option_and_then (λ (t : Store). dir_in t u) o) ≡ true → IsSome (option_map kind_of_node (option_and_then (λ (t : Store). get t.nodes u) o))
dir_there u (Some t) e = node_there t u (get t.nodes u) e
dir_there u None e = no_way e

module _ (w : World) (h : IsWhole w) (m s top : ℕ) (lower : Seen) (is : kind_in (facts_of w) m ≡ Some (kind.Union s top lower)) (cut : is_cut (facts_of w) m ≡ false)
    (u : ℕ) (n : List ℕ) (q : Seen) (there : child_of (facts_of w) (UnionUp m u) n ≡ child.At (UnionLow m u n q)) where
  abbrev f : Facts
  f = facts_of w

  pub free : IsFree f m u n
  free = subst (ReadyChild f) there (ready-within (suc m) f (UnionUp m u) n)

  pub store_is : store_by (kind_in f m) ≡ s
  store_is = ap store_by is

  pub linked_in : is_linked f s u ≡ true
  linked_in = subst (λ r. is_linked f r u ≡ true) store_is free.linked

  pub free_in : f.entry s u n ≡ None
  free_in = subst (λ r. f.entry r u n ≡ None) store_is free.free

  pub stored : HasStore (get w.stores s)
  stored = there_store u (get w.stores s) linked_in

  abbrev t : Store
  t = stored.store

  good_dir : IsGood f (UnionUp m u)
  good_dir = record {
    sound = record { mounts = ap is_union is; base = ap (λ (o : Option MountKind). is_some (f.kind (store_by o) u)) is ∙ dir_there u (get w.stores s) linked_in; files = tt };
    uncut = cut;
    over = tt;
    ready = tt;
  }

  pub known : IsSome (kind_of f q)
  known =
      let c : GoodChild f (good_view w h.sound h.lasts) m (child.At (UnionLow m u n q)) = subst (GoodChild f (good_view w h.sound h.lasts) m) there (good-child f (good_view w h.sound h.lasts) (UnionUp m u) n good_dir) in
      c.0.sound.base

  -- ---- what the lower layer has there

  abbrev below : Child
  below = child_below (child_within m f) (low f m u) n

  below_low : child_low f m u n below ≡ child.At (UnionLow m u n q)
  below_low =
      sym (ap (λ (e : Option NameEntry). child_union f m u n e (child_below (child_within m f) (low f m u))) (ap (λ (o : Option MountKind). upper_entry f o u n) is ∙ free_in)) ∙ there

  abbrev under : Child → Seen
  under (child.At (UnionLow a b k p)) = p
  under (child.At p) = p
  under child.Absent = q
  under (child.Need y) = q

  record IsCopied (c : Child) : Type 0 where
    pub at : c ≡ child.At q
    pub plain : is_dir f q ≡ false

  copied : (c : Child) → child_low f m u n c ≡ child.At (UnionLow m u n q) → IsCopied c
  copied (child.At p) e = by (is_dir f p) refl e
    where
      by : (b : Bool) → is_dir f p ≡ b → cond b (child.Need (record { mount = m; dir = u; name = n })) (child.At (UnionLow m u n p)) ≡ child.At (UnionLow m u n q) → IsCopied (child.At p)
      by true d e = absurd (let clash : child.Need (record { mount = m; dir = u; name = n }) ≡ child.At (UnionLow m u n q) = e in cc)
      by false d e = let same : p ≡ q = ap under e in record { at = ap child.At same; plain = ap (is_dir f) (sym same) ∙ d }
  copied child.Absent e = absurd (let clash : child.Absent ≡ child.At (UnionLow m u n q) = e in cc)
  copied (child.Need y) e = absurd (let clash : child.Need y ≡ child.At (UnionLow m u n q) = e in cc)

  is_copied : IsCopied below
  is_copied = copied below below_low

  same_below : (c : Child) → Stands (Under f m) c → child_below (child_of f) c n ≡ child_below (child_within m f) c n
  same_below (child.At d) a = sym (child_from f (good_view w h.sound h.lasts) m d n a.0 a.1)
  same_below child.Absent a = refl
  same_below (child.Need y) a = refl

  pub copied_is : child_below (child_of f) (low f m u) n ≡ child.At q
  copied_is =
      let view = good_view w h.sound h.lasts in
      same_below (low f m u) (nests-lower f view (λ k. child_within k f) (child_union f) (child_looking f) (child_within m f) (child_nests f view m) m u cut (kind_in f m) refl) ∙ is_copied.at

  pub plain : is_dir f q ≡ false
  plain = is_copied.plain
