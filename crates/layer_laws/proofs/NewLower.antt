-- The lower part of a directory that is made in a union's upper layer.
use Rattle.std.proofs.Common.{◌≡◌, ℕ, suc, ◌≤◌, ◌<◌, Bool, true, false, cond, ◌||◌, ◌==◌, List, ap, sym, ◌∙◌, subst, arith}
use Rattle.std.specs.Prelude.{Option, Some, is_some, option_and_then}
use Rattle.std.specs.FinMap.{get}
use Rattle.vfs_tree.specs.Child.{child_below, only_dir, below_named, low_case, low_within, low_by, steps}
use Rattle.vfs_tree.specs.Edits.{new_dir}
use Rattle.vfs_tree.specs.Facts.{Facts}
use Rattle.vfs_tree.specs.Layers.{is_linked, linked_by, is_opaque, opaque_by, parent_by}
use Rattle.vfs_tree.specs.Place.{Seen, UnionUp}
use Rattle.vfs_tree.specs.Shown.{shown_low, shown_union, shown_within, shown_child}
use Rattle.vfs_tree.specs.Sound.{climb, LeadsUp}
use Rattle.vfs_tree.specs.Views.{dir_in, facts_of}
use Rattle.vfs_tree.specs.declared.mount.MountKind.{MountKind}
use Rattle.vfs_tree.specs.declared.mount.MountKind.TheVariants as kind
use Rattle.vfs_tree.specs.declared.node.NameEntry.{NameEntry}
use Rattle.vfs_tree.specs.declared.node.Store.{Store}
use Rattle.vfs_tree.specs.declared.view.DirFacts.{DirFacts}
use Rattle.vfs_tree.specs.declared.walk.Child.{Child}
use Rattle.vfs_tree.specs.declared.walk.Child.TheVariants as child
use Rattle.vfs_tree.specs.declared.world.World.{World}
use Rattle.call_laws.proofs.MadeLaws.{linked_dir}
use Rattle.call_laws.proofs.WayLaws.{ShortWay, short_way}
use Rattle.call_laws.proofs.Whole.{IsWhole}
use Rattle.call_laws.proofs.WholeLaws.{well_store}
use Rattle.layer_laws.proofs.UpperLaws.{IsMade, world_made, same_lower, upper_shown, entry_is, same_steps, beside}
use Rattle.layer_laws.proofs.WayLaws.{low_more}
use Rattle.layer_laws.proofs.TwinLaws.{linked_u, other_u, other_top, other_root}

-- one step fewer than there are
record Fewer : Type 0 where
  pub fewer : ℕ
  pub are : steps ≡ suc fewer
  pub enough : 4294967294 ≤ fewer

few : Fewer
unfolding steps
few = record { fewer = 4294967294; are = omega arith; enough = omega arith }

module _ (w : World) (h : IsWhole w) (m s top : ℕ) (lower : Seen) (u : ℕ) (n : List ℕ) (t : Store) (x : IsMade w m s top lower u n t (new_dir u false)) (hv : IsWhole (world_made w s u n t (new_dir u false)))
    (room : t.next < 4294967295) where
  abbrev f : Facts
  f = facts_of w

  abbrev g : Facts
  g = facts_of (world_made w s u n t (new_dir u false))

  abbrev i : ℕ
  i = t.next

  abbrev union_kind : Option MountKind
  union_kind = Some (kind.Union s top lower)

  -- what the lower part of its parent has at its name
  abbrev pub lower_child : Child
  lower_child = child_below (shown_within m f) (low_by f (shown_within m f) u union_kind) n

  -- and what the union showed there came from it
  pub shown_before : shown_low f m u n lower_child ≡ shown_child f (UnionUp m u) n
  shown_before =
      sym (upper_shown w h m s top lower u n t (new_dir u false) x hv u n
      ∙ ap (λ (e : Option NameEntry). shown_union f m u n e (child_below (shown_within m f) (low_by f (shown_within m f) u union_kind))) (entry_is w h m s top lower u n t (new_dir u false) x hv u n ∙ x.free))

  module _ (dir_new : (facts_of (world_made w s u n t (new_dir u false))).dir s t.next ≡ Some (record { parent = u; opaque = false; linked = true })) (name_new : (facts_of (world_made w s u n t (new_dir u false))).name_of s t.next ≡ Some n) where
    abbrev fewer : ℕ
    fewer = few.fewer

    other : u ≡ i → ⊥
    other = other_u w h m s top lower u n t (new_dir u false) x hv

    linked_before : is_linked f s u ≡ true
    linked_before = linked_u w h m s top lower u n t (new_dir u false) x hv

    dir_same : f.dir s ≡ dir_in t
    dir_same = let at : Option Store → ℕ → Option DirFacts = λ o d. option_and_then (λ (t : Store). dir_in t d) o in ap at x.store

    way : ShortWay t u
    way =
        short_way t (well_store w h s t x.store) u (ap is_some (linked_dir t u (get t.nodes u) x.linked))
        (subst (λ (dir : ℕ → Option DirFacts). LeadsUp dir u) dir_same ((h.sound.view.names s).lead u linked_before))

    -- fewer steps up are enough
    all_steps : low_within fewer f (shown_within m f) s top lower u ≡ low_by f (shown_within m f) u union_kind
    all_steps =
        let less : suc way.steps ≤ t.next = way.less in
        let enough : 4294967294 ≤ fewer = few.enough in
        low_more f (shown_within m f) s top lower way.steps fewer u (subst (λ (dir : ℕ → Option DirFacts). climb way.steps dir u ≡ 1) (sym dir_same) way.root) (omega (arith, less, room, enough))
        ∙ ap (λ k. low_within k f (shown_within m f) s top lower u) (sym few.are)
        ∙ sym (ap (λ (b : Bool). cond b (low_within steps f (shown_within m f) s top lower u) child.Absent) linked_before)

    above_it : child_below (shown_within m g) (low_within fewer g (shown_within m g) s top lower u) n ≡ lower_child
    above_it =
        let a = same_steps w h m s top lower u n t (new_dir u false) x hv fewer u linked_before in
        let l = same_lower w h m s top lower u n t (new_dir u false) x hv u other in
        (beside w h m s top lower u n t (new_dir u false) x hv (low_within fewer g (shown_within m g) s top lower u) (low_by f (shown_within m f) u union_kind) (a.0 ∙ all_steps, l.1) n).0

    low_steps : low_within (suc fewer) g (shown_within m g) s top lower i ≡ only_dir g lower_child
    low_steps =
        let look = shown_within m g in
        let up = low_within fewer g look s top lower in
        ap (λ (b : Bool). low_case g look s lower up i b (is_opaque g s i || (i == 1))) (other_top w h m s top lower u n t (new_dir u false) x hv)
        ∙ ap (λ (o : Option DirFacts). low_case g look s lower up i false (opaque_by o || (i == 1))) dir_new
        ∙ ap (λ (b : Bool). low_case g look s lower up i false b) (other_root w h m s top lower u n t (new_dir u false) x hv)
        ∙ ap (λ (o : Option DirFacts). only_dir g (below_named look (up (parent_by i o)) (g.name_of s i))) dir_new
        ∙ ap (λ (o : Option (List ℕ)). only_dir g (below_named look (up u) o)) name_new
        ∙ ap (only_dir g) above_it

    -- the lower part of the new directory is what the lower part of its parent has at the name, where that is a directory
    pub low_new : low_by g (shown_within m g) i union_kind ≡ only_dir g lower_child
    low_new =
        ap (λ (o : Option DirFacts). cond (linked_by o) (low_within steps g (shown_within m g) s top lower i) child.Absent) dir_new
        ∙ ap (λ k. low_within k g (shown_within m g) s top lower i) few.are
        ∙ low_steps
