-- Edits through a union leave what its lower layer shows.
use Rattle.std.proofs.Common.{◌≡◌, ℕ, Bool, true, false, List, [], refl, ap, sym, ◌∙◌}
use Rattle.std.specs.Prelude.{Some}
use Rattle.std.specs.FinMap.{get}
use Rattle.vfs_tree.specs.Child.{child_of, child_below, low}
use Rattle.vfs_tree.specs.Edits.{made, with_store, new_dir}
use Rattle.vfs_tree.specs.Facts.{Facts}
use Rattle.vfs_tree.specs.Layers.{kind_in, store_by, base, is_cut}
use Rattle.vfs_tree.specs.Place.{Seen, Mem, Null, UnionUp, UnionLow, bare}
use Rattle.vfs_tree.specs.Shown.{shown}
use Rattle.vfs_tree.specs.Sound.{IsSound}
use Rattle.vfs_tree.specs.Steps.{◌>>◌, refuse_if}
use Rattle.vfs_tree.specs.Views.{facts_of}
use Rattle.vfs_tree.specs.declared.errno.Errno.{Errno}
use Rattle.vfs_tree.specs.declared.errno.Errno.TheVariants as errno
use Rattle.vfs_tree.specs.declared.mount.MountKind.TheVariants as kind
use Rattle.vfs_tree.specs.declared.node.Node.{Node}
use Rattle.vfs_tree.specs.declared.node.Node.TheVariants.{File}
use Rattle.vfs_tree.specs.declared.node.Store.{Store}
use Rattle.vfs_tree.specs.declared.walk.Child.{Child}
use Rattle.vfs_tree.specs.declared.walk.Child.TheVariants as child
use Rattle.vfs_tree.specs.declared.walk.NodeId.{NodeId}
use Rattle.vfs_tree.specs.declared.walk.Step.TheVariants.{Go, Refuse, Wants}
use Rattle.vfs_tree.specs.declared.world.World.{World}
use Rattle.call_model.specs.Checks.{is_full, upper_store, node_of, edit_at, copied_place, copied}
use Rattle.call_model.specs.Effects.{copy_of, copied_child, made_above, effect}
use Rattle.call_model.specs.declared.entry.Inner.{Inner}
use Rattle.call_model.specs.declared.entry.Inner.TheVariants.{Shadow, CopyUp}
use Rattle.call_laws.specs.Lasting.{IsLasting}
use Rattle.call_laws.proofs.Whole.{IsWhole}
use Rattle.layer_laws.specs.Apart.{IsApart}
use Rattle.layer_laws.proofs.AvoidLaws.{Avoids, lower_avoids, edit_hidden}

-- a place that is seen through null mounts rests on the node of what it shows
bare_base : (f : Facts) (p : Seen) → base f p ≡ base f (bare p)
bare_base f (Mem m i) = refl
bare_base f (Null m p) = bare_base f p
bare_base f (UnionUp m i) = refl
bare_base f (UnionLow m u n p) = refl

module _ (w : World) (sound : IsSound w) (lasts : IsLasting w) (apart : IsApart w) (m s top : ℕ) (lower : Seen) (is : kind_in (facts_of w) m ≡ Some (kind.Union s top lower)) (cut : is_cut (facts_of w) m ≡ false)
    (ns : List (List ℕ)) where
  whole : IsWhole w
  whole = record { sound = sound; lasts = lasts }

  avoids : Avoids (facts_of w) s lower
  avoids = lower_avoids w whole s m s top lower is cut (apart m s top lower is)

  store_hidden : (edit : Store → Store) (r : ℕ) → r ≡ s → shown (with_store edit w r (get w.stores r)) lower ns ≡ shown w lower ns
  store_hidden edit r same = ap (λ (r : ℕ). shown (with_store edit w r (get w.stores r)) lower ns) same ∙ edit_hidden w whole s edit lower avoids ns

  upper_is : upper_store w m ≡ s
  upper_is = ap store_by is

  pub hidden_edit : (p : Seen) (i : ℕ) (edit : Store → ℕ → Store) → bare p ≡ UnionUp m i → shown (edit_at w p edit) lower ns ≡ shown w lower ns
  hidden_edit p i edit in_union =
      let b : NodeId = base (facts_of w) p in
      store_hidden (λ t. edit t b.ino) b.store
      (ap (λ (b : NodeId). b.store) (bare_base (facts_of w) p ∙ ap (base (facts_of w)) in_union) ∙ upper_is)

  hidden_made : (u : ℕ) (n : List ℕ) (node : Node) → shown (made_above w m u n node) lower ns ≡ shown w lower ns
  hidden_made u n node = store_hidden (λ t. made t u n node) (upper_store w m) upper_is

  pub hidden_shadow : (c u : ℕ) (n : List ℕ) → shown (effect w c (Shadow m u n)) lower ns ≡ shown w lower ns
  hidden_shadow c u n = hidden_made u n (new_dir u false)

  hidden_copied : (u : ℕ) (n : List ℕ) (c : Child) → shown (copied_child w m u n c) lower ns ≡ shown w lower ns
  hidden_copied u n (child.At q) = hidden_made u n (copy_of (node_of w q))
  hidden_copied u n child.Absent = hidden_made u n (File [])
  hidden_copied u n (child.Need x) = hidden_made u n (File [])

  pub hidden_copy : (c u : ℕ) (n : List ℕ) → shown (effect w c (CopyUp m u n)) lower ns ≡ shown w lower ns
  hidden_copy c u n = hidden_copied u n (child_below (child_of (facts_of w)) (low (facts_of w) m u) n)

pub edit_leaves : (w : World) (m s top i : ℕ) (lower p : Seen) (edit : Store → ℕ → Store) (ns : List (List ℕ)) → IsSound w → IsLasting w → IsApart w → kind_in (facts_of w) m ≡ Some (kind.Union s top lower)
    → is_cut (facts_of w) m ≡ false → bare p ≡ UnionUp m i → shown (edit_at w p edit) lower ns ≡ shown w lower ns
edit_leaves w m s top i lower p edit ns sound lasts apart is cut in_union = hidden_edit w sound lasts apart m s top lower is cut ns p i edit in_union

pub shadow_leaves : (w : World) (c m s top u : ℕ) (lower : Seen) (n : List ℕ) (ns : List (List ℕ)) → IsSound w → IsLasting w → IsApart w → kind_in (facts_of w) m ≡ Some (kind.Union s top lower)
    → is_cut (facts_of w) m ≡ false → shown (effect w c (Shadow m u n)) lower ns ≡ shown w lower ns
shadow_leaves w c m s top u lower n ns sound lasts apart is cut = hidden_shadow w sound lasts apart m s top lower is cut ns c u n

pub copy_leaves : (w : World) (c m s top u : ℕ) (lower : Seen) (n : List ℕ) (ns : List (List ℕ)) → IsSound w → IsLasting w → IsApart w → kind_in (facts_of w) m ≡ Some (kind.Union s top lower)
    → is_cut (facts_of w) m ≡ false → shown (effect w c (CopyUp m u n)) lower ns ≡ shown w lower ns
copy_leaves w c m s top u lower n ns sound lasts apart is cut = hidden_copy w sound lasts apart m s top lower is cut ns c u n

-- ---- places of the lower layer alone

never_gone : (x : Inner) (b : Bool) (e : Errno) → (refuse_if b e >> Wants x) ≡ Go (tt {0}) → ⊥
never_gone x true e is = absurd (let clash : Refuse e ≡ Go (tt {0}) = is in cc)
never_gone x false e is = absurd (let clash : Wants x ≡ Go (tt {0}) = is in cc)

-- no call goes on to edit one
pub lower_uncopied : (w : World) (m u : ℕ) (n : List ℕ) (p q : Seen) → bare p ≡ UnionLow m u n q → copied w p ≡ Go tt → ⊥
lower_uncopied w m u n p q in_lower is = never_gone (CopyUp m u n) (is_full w (upper_store w m)) errno.ENOSPC (sym (ap (copied_place w) in_lower) ∙ is)
