-- A shadow directory that is needed is one of a union that shows a directory at the name.
use Rattle.std.proofs.Common.{◌≡◌, ℕ, true, false, List, refl}
use Rattle.std.specs.Prelude.{Some}
use Rattle.vfs_tree.specs.Child.{low}
use Rattle.vfs_tree.specs.Facts.{Facts}
use Rattle.vfs_tree.specs.Layers.{kind_in, is_cut, is_dir}
use Rattle.vfs_tree.specs.Place.{Seen, UnionUp}
use Rattle.vfs_tree.specs.Shown.{shown_child}
use Rattle.vfs_tree.specs.Views.{facts_of}
use Rattle.vfs_tree.specs.Visible.{visible, has_visible}
use Rattle.vfs_tree.specs.declared.mount.MountKind.TheVariants as kind
use Rattle.vfs_tree.specs.declared.walk.Child.{Child}
use Rattle.vfs_tree.specs.declared.walk.Child.TheVariants as child
use Rattle.vfs_tree.specs.declared.walk.Need.{Need}
use Rattle.vfs_tree.specs.declared.world.World.{World}
use Rattle.call_laws.specs.Needing.{IsFree}
use Rattle.call_laws.proofs.ChildInduction.{Anything, Comes, ChildComes, ChildKeeps, has_free, needs_keep, so-low, so-visible, so-has_visible}
use Rattle.call_laws.proofs.FoundLaws.{IsGoodView}
use Rattle.layer_laws.proofs.WantLaws.{DirAt, dir_shown}

-- a directory that a union shows at a name
pub record ShowsDir (f : Facts) (m u : ℕ) (n : List ℕ) : Type 0 where
  pub place : Seen
  pub at : shown_child f (UnionUp m u) n ≡ child.At place
  pub dir : is_dir f place ≡ true

-- a union that has nothing at the name in its upper layer, and shows a directory there, where it isn't cut
pub record ShadowAt (f : Facts) (m u : ℕ) (n : List ℕ) : Type 0 where
  pub store : ℕ
  pub top : ℕ
  pub lower : Seen
  pub union : kind_in f m ≡ Some (kind.Union store top lower)
  pub free : IsFree f m u n
  pub shows : is_cut f m ≡ false → ShowsDir f m u n

abbrev pub ShadowNeed : Facts → Need → Type 0
ShadowNeed f x = ShadowAt f x.mount x.dir x.name

shows_dir : (f : Facts) (m u : ℕ) (n : List ℕ) (c : Child) → shown_child f (UnionUp m u) n ≡ c → DirAt f c → ShowsDir f m u n
shows_dir f m u n (child.At q) at dir = record { place = q; at = at; dir = dir }
shows_dir f m u n child.Absent at dir = absurd dir
shows_dir f m u n (child.Need x) at dir = absurd dir

module _ (f : Facts) (view : IsGoodView f) where
  pub need_keeps : ChildKeeps f (ShadowNeed f) Anything
  need_keeps = needs_keep f (ShadowNeed f) (λ k m u n q has dir.
      record {
        store = has.store;
        top = has.top;
        lower = has.lower;
        union = has.union;
        free = has_free has;
        shows = λ cut. shows_dir f m u n (shown_child f (UnionUp m u) n) refl (dir_shown f m has.store has.top u has.lower has.union k n q has.free has.at dir view cut);
      })

  -- what the lower part of a union's directory needs
  pub need-low : (m u : ℕ) → ChildComes (ShadowNeed f) Anything (low f m u)
  need-low m u = so-low f (ShadowNeed f) Anything need_keeps m u tt

-- what a listing needs
pub need-visible : (w : World) → IsGoodView (facts_of w) → (d : Seen) → Comes (ShadowNeed (facts_of w)) Anything (visible w d)
need-visible w view d = so-visible w (ShadowNeed (facts_of w)) Anything (need_keeps (facts_of w) view) d tt

pub need-has_visible : (w : World) → IsGoodView (facts_of w) → (d : Seen) → Comes (ShadowNeed (facts_of w)) Anything (has_visible w d)
need-has_visible w view d = so-has_visible w (ShadowNeed (facts_of w)) Anything (need_keeps (facts_of w) view) d tt
