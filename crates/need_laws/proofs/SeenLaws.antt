-- What calls need leaves what is shown of their union through null mounts.
use Rattle.std.proofs.Common.{◌≡◌, ℕ, false, List, [], refl, ap, sym, ◌∙◌, subst}
use Rattle.std.specs.Prelude.{Option, Some, None, IsSome, is_some, option_map}
use Rattle.std.specs.FinMap.{get}
use Rattle.vfs_tree.specs.Child.{child_of, child_below, low}
use Rattle.vfs_tree.specs.Edits.{made, with_store, new_dir}
use Rattle.vfs_tree.specs.Facts.{Facts}
use Rattle.vfs_tree.specs.Layers.{kind_in, store_by, base, is_cut, cut_by}
use Rattle.vfs_tree.specs.Place.{Seen, Mem, Null, UnionUp, UnionLow, bare}
use Rattle.vfs_tree.specs.Shown.{shown}
use Rattle.vfs_tree.specs.Sound.{IsSound, IsSoundPlace}
use Rattle.vfs_tree.specs.Views.{facts_of}
use Rattle.vfs_tree.specs.declared.mount.Mount.{Mount}
use Rattle.vfs_tree.specs.declared.node.Node.{Node}
use Rattle.vfs_tree.specs.declared.node.Node.TheVariants.{File}
use Rattle.vfs_tree.specs.declared.node.Store.{Store}
use Rattle.vfs_tree.specs.declared.walk.Child.{Child}
use Rattle.vfs_tree.specs.declared.walk.Child.TheVariants as child
use Rattle.vfs_tree.specs.declared.walk.NodeId.{NodeId}
use Rattle.vfs_tree.specs.declared.walk.Step.TheVariants.{Wants}
use Rattle.vfs_tree.specs.declared.world.World.{World}
use Rattle.call_model.specs.Checks.{upper_store, node_of}
use Rattle.call_model.specs.Effects.{copy_of, copied_child, made_above, effect}
use Rattle.call_model.specs.Rows.{row}
use Rattle.call_model.specs.declared.call.Call.{Call}
use Rattle.call_model.specs.declared.entry.Inner.TheVariants.{Shadow, CopyUp}
use Rattle.call_laws.specs.Lasting.{lower_mount, IsLasting, IsOver, IsUncut}
use Rattle.call_laws.proofs.NeededLaws.{sound_needed, lasting_needed}
use Rattle.layer_laws.specs.Apart.{IsApart}
use Rattle.layer_laws.proofs.NullLaws.{null_place}
use Rattle.layer_laws.proofs.UnionLaws.{shadow_dir, copy_dir}
use Rattle.need_laws.specs.Lacking.{LacksDir, LacksFile}
use Rattle.need_laws.proofs.NeededShown.{lacks_dir, lacks_file}
use Rattle.need_laws.proofs.WriteLaws.{bare_base}

-- ---- the same mounts

module _ (f g : Facts) (same : (m : ℕ) → g.mount m ≡ f.mount m) where
  uncut_same : (p : Seen) → IsUncut f p → IsUncut g p
  uncut_same (Mem m i) h = ap cut_by (same m) ∙ h
  uncut_same (Null m p) h = (ap cut_by (same m) ∙ h.0, uncut_same p h.1)
  uncut_same (UnionUp m i) h = ap cut_by (same m) ∙ h
  uncut_same (UnionLow m u n p) h = (ap cut_by (same m) ∙ h.0, uncut_same p h.1)

  over_same : (p : Seen) → IsOver f p → IsOver g p
  over_same (Mem m i) h = tt
  over_same (Null m p) h = (ap (λ (o : Option Mount). lower_mount (option_map (λ (t : Mount). t.kind) o)) (same m) ∙ h.0, over_same p h.1)
  over_same (UnionUp m i) h = tt
  over_same (UnionLow m u n p) h = (ap (λ (o : Option Mount). lower_mount (option_map (λ (t : Mount). t.kind) o)) (same m) ∙ h.0, over_same p h.1)

bare_uncut : (f : Facts) (p : Seen) → IsUncut f p → IsUncut f (bare p)
bare_uncut f (Mem m i) h = h
bare_uncut f (Null m p) h = bare_uncut f p h.1
bare_uncut f (UnionUp m i) h = h
bare_uncut f (UnionLow m u n p) h = h

-- ---- through null mounts

-- what is seen through null mounts is shown as it is
bare_shown : (w : World) → IsSound w → IsLasting w → (p : Seen) → IsUncut (facts_of w) p → IsOver (facts_of w) p → (ns : List (List ℕ)) → shown w p ns ≡ shown w (bare p) ns
bare_shown w sound lasts (Mem m i) cut over ns = refl
bare_shown w sound lasts (Null m p) cut over ns = null_place w m p ns sound lasts cut over ∙ bare_shown w sound lasts p cut.1 over.1 ns
bare_shown w sound lasts (UnionUp m i) cut over ns = refl
bare_shown w sound lasts (UnionLow m u n p) cut over ns = refl

-- where it is shown as before, it is so through them
seen_same : (w v : World) → IsSound w → IsLasting w → IsSound v → IsLasting v → v.mounts ≡ w.mounts → (p q : Seen) → IsUncut (facts_of w) p → IsOver (facts_of w) p → bare p ≡ q → (ns : List (List ℕ))
    → shown v q ns ≡ shown w q ns → shown v p ns ≡ shown w p ns
seen_same w v sw lw sv lv mounts p q cut over is ns e =
    let same : (m : ℕ) → get v.mounts m ≡ get w.mounts m = λ m. ap (λ t. get t m) mounts in
    bare_shown v sv lv p (uncut_same (facts_of w) (facts_of v) same p cut) (over_same (facts_of w) (facts_of v) same p over) ns
    ∙ ap (λ (d : Seen). shown v d ns) is ∙ e ∙ sym (ap (λ (d : Seen). shown w d ns) is)
    ∙ sym (bare_shown w sw lw p cut over ns)

-- ---- the mounts of what is needed

store_mounts : (edit : Store → Store) (w : World) (s : ℕ) (o : Option Store) → (with_store edit w s o).mounts ≡ w.mounts
store_mounts edit w s (Some t) = refl
store_mounts edit w s None = refl

made_mounts : (w : World) (m u : ℕ) (n : List ℕ) (node : Node) → (made_above w m u n node).mounts ≡ w.mounts
made_mounts w m u n node = store_mounts (λ t. made t u n node) w (upper_store w m) (get w.stores (upper_store w m))

copied_mounts : (w : World) (m u : ℕ) (n : List ℕ) (c : Child) → (copied_child w m u n c).mounts ≡ w.mounts
copied_mounts w m u n (child.At q) = made_mounts w m u n (copy_of (node_of w q))
copied_mounts w m u n child.Absent = made_mounts w m u n (File [])
copied_mounts w m u n (child.Need x) = made_mounts w m u n (File [])

-- ---- what is shown

-- the node of the upper layer is there
upper_there : (w : World) (m r s : ℕ) (p : Seen) → IsSoundPlace (facts_of w) p → bare p ≡ UnionUp m r → store_by (kind_in (facts_of w) m) ≡ s → IsSome ((facts_of w).kind s r)
upper_there w m r s p sound up is =
    let f = facts_of w in
    let at : base f p ≡ record { store = store_by (kind_in f m); ino = r } = sym (bare_base f p) ∙ ap (base f) up in
    sym (ap is_some (ap (λ (b : NodeId). f.kind b.store b.ino) at ∙ ap (λ t. f.kind t r) is)) ∙ sound.base

pub shadow_seen : (w : World) (c m u r : ℕ) (call : Call) (n : List ℕ) (p : Seen) (ns : List (List ℕ)) → IsSound w → IsLasting w → IsApart w → row w c call ≡ Wants (Shadow m u n)
    → IsSoundPlace (facts_of w) p → IsUncut (facts_of w) p → IsOver (facts_of w) p → bare p ≡ UnionUp m r → shown (effect w c (Shadow m u n)) p ns ≡ shown w p ns
shadow_seen w c m u r call n p ns sound lasts apart needs place cut over up =
    let a : LacksDir w m u n = lacks_dir w c m u call n sound lasts needs in
    let uncut : is_cut (facts_of w) m ≡ false = subst (IsUncut (facts_of w)) up (bare_uncut (facts_of w) p cut) in
    let there : IsSome ((facts_of w).kind a.store r) = upper_there w m r a.store p place up (ap store_by a.union) in
    seen_same w (effect w c (Shadow m u n)) sound lasts (sound_needed w c call (Shadow m u n) needs sound lasts) (lasting_needed w c call (Shadow m u n) needs sound lasts)
    (made_mounts w m u n (new_dir u false)) p (UnionUp m r) cut over up ns
    (shadow_dir w c m a.store a.top u r a.lower n ns sound lasts apart a.union uncut a.free a.room (a.shows uncut) there)

pub copy_seen : (w : World) (c m u r : ℕ) (call : Call) (n : List ℕ) (p : Seen) (ns : List (List ℕ)) → IsSound w → IsLasting w → IsApart w → row w c call ≡ Wants (CopyUp m u n)
    → IsSoundPlace (facts_of w) p → IsUncut (facts_of w) p → IsOver (facts_of w) p → bare p ≡ UnionUp m r → shown (effect w c (CopyUp m u n)) p ns ≡ shown w p ns
copy_seen w c m u r call n p ns sound lasts apart needs place cut over up =
    let a : LacksFile w m u n = lacks_file w c m u call n sound lasts needs in
    let there : IsSome ((facts_of w).kind a.store r) = upper_there w m r a.store p place up (ap store_by a.union) in
    seen_same w (effect w c (CopyUp m u n)) sound lasts (sound_needed w c call (CopyUp m u n) needs sound lasts) (lasting_needed w c call (CopyUp m u n) needs sound lasts)
    (copied_mounts w m u n (child_below (child_of (facts_of w)) (low (facts_of w) m u) n)) p (UnionUp m r) cut over up ns
    (copy_dir w c m a.store a.top u r a.lower a.file n ns sound lasts apart a.union a.uncut a.room a.there there)
