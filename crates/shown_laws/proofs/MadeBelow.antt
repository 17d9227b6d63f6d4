-- A directory that is made in a union's upper layer, where nothing is shown, has nothing of the lower layer below it.
use Rattle.std.proofs.Common.{◌≡◌, ℕ, ◌<◌, Bool, true, false, cond, List, refl, ap, ◌∙◌}
use Rattle.std.specs.Prelude.{Option, Some, None}
use Rattle.vfs_tree.specs.Child.{child_below, only_dir, low_by}
use Rattle.vfs_tree.specs.Edits.{new_dir}
use Rattle.vfs_tree.specs.Facts.{Facts}
use Rattle.vfs_tree.specs.Layers.{is_dir}
use Rattle.vfs_tree.specs.Place.{Seen, UnionUp, UnionLow}
use Rattle.vfs_tree.specs.Shown.{shown_low, shown_union, shown_within, shown_child}
use Rattle.vfs_tree.specs.Views.{facts_of}
use Rattle.vfs_tree.specs.declared.mount.MountKind.{MountKind}
use Rattle.vfs_tree.specs.declared.mount.MountKind.TheVariants as kind
use Rattle.vfs_tree.specs.declared.node.NameEntry.{NameEntry}
use Rattle.vfs_tree.specs.declared.node.Store.{Store}
use Rattle.vfs_tree.specs.declared.walk.Child.{Child}
use Rattle.vfs_tree.specs.declared.walk.Child.TheVariants as child
use Rattle.vfs_tree.specs.declared.world.World.{World}
use Rattle.call_laws.proofs.Whole.{IsWhole}
use Rattle.layer_laws.proofs.NewLower as news
use Rattle.layer_laws.proofs.UpperLaws.{IsMade, world_made, upper_then}

-- nothing stands there, though something may be needed first
abbrev NotAt : Child → Type 0
NotAt (child.At q) = ⊥
NotAt child.Absent = Unit {0}
NotAt (child.Need y) = Unit {0}

not_shown : (f : Facts) (m u : ℕ) (n : List ℕ) (c : Child) → shown_low f m u n c ≡ child.Absent → NotAt c
not_shown f m u n (child.At q) e = by (is_dir f q) e
  where
    by : (b : Bool) → cond b (child.At q) (child.At (UnionLow m u n q)) ≡ child.Absent → ⊥
    by true e = let clash : child.At q ≡ child.Absent = e in cc
    by false e = let clash : child.At (UnionLow m u n q) ≡ child.Absent = e in cc
not_shown f m u n child.Absent e = tt
not_shown f m u n (child.Need y) e = tt

shows_nothing : (g : Facts) (m i : ℕ) (k : List ℕ) (look : Seen → List ℕ → Child) (c : Child) → NotAt c → shown_low g m i k (child_below look (only_dir g c) k) ≡ child.Absent
shows_nothing g m i k look (child.At q) x = absurd x
shows_nothing g m i k look child.Absent x = refl
shows_nothing g m i k look (child.Need y) x = refl

module _ (w : World) (h : IsWhole w) (m s top : ℕ) (lower : Seen) (u : ℕ) (n : List ℕ) (t : Store) (x : IsMade w m s top lower u n t (new_dir u false)) (hv : IsWhole (world_made w s u n t (new_dir u false)))
    (room : t.next < 4294967295) (nothing : shown_child (facts_of w) (UnionUp m u) n ≡ child.Absent)
    (dir_new : (facts_of (world_made w s u n t (new_dir u false))).dir s t.next ≡ Some (record { parent = u; opaque = false; linked = true }))
    (name_new : (facts_of (world_made w s u n t (new_dir u false))).name_of s t.next ≡ Some n)
    (entry_none : (k : List ℕ) → (facts_of (world_made w s u n t (new_dir u false))).entry s t.next k ≡ None) where
  abbrev f : Facts
  f = facts_of w

  abbrev g : Facts
  g = facts_of (world_made w s u n t (new_dir u false))

  abbrev i : ℕ
  i = t.next

  abbrev union_kind : Option MountKind
  union_kind = Some (kind.Union s top lower)

  -- what the lower part of its parent has at its name
  abbrev lower_child : Child
  lower_child = news.lower_child w h m s top lower u n t x hv room

  none_lower : NotAt lower_child
  none_lower = not_shown f m u n lower_child (news.shown_before w h m s top lower u n t x hv room ∙ nothing)

  -- it shows nothing at any name
  pub nothing_below : (k : List ℕ) → shown_child g (UnionUp m i) k ≡ child.Absent
  nothing_below k =
      upper_then w h m s top lower u n t (new_dir u false) x hv i k
      ∙ ap (λ (e : Option NameEntry). shown_union g m i k e (child_below (shown_within m g) (low_by g (shown_within m g) i union_kind))) (entry_none k)
      ∙ ap (λ (c : Child). shown_low g m i k (child_below (shown_within m g) c k)) (news.low_new w h m s top lower u n t x hv room dir_new name_new)
      ∙ shows_nothing g m i k (shown_within m g) lower_child none_lower
