-- What a walk or a listing needs: a shadow directory in a linked directory of the upper layer that has nothing at the name.
use Rattle.std.proofs.Common.{◌≡◌, ℕ, subst}
use Rattle.std.specs.Prelude.{Option}
use Rattle.vfs_tree.specs.Child.{low}
use Rattle.vfs_tree.specs.Facts.{Facts}
use Rattle.vfs_tree.specs.Place.{Seen}
use Rattle.vfs_tree.specs.Views.{facts_of}
use Rattle.vfs_tree.specs.Visible.{visible, has_visible}
use Rattle.vfs_tree.specs.declared.walk.Child.{Child}
use Rattle.vfs_tree.specs.declared.walk.Found.{Found}
use Rattle.vfs_tree.specs.declared.walk.Found.TheVariants as found
use Rattle.vfs_tree.specs.declared.walk.Need.{Need}
use Rattle.vfs_tree.specs.declared.walk.Step.{Step}
use Rattle.vfs_tree.specs.declared.world.World.{World}
use Rattle.call_model.specs.Rows.{Way, found_at}
use Rattle.call_laws.specs.Needing.{IsFree}
use Rattle.call_laws.proofs.ChildInduction.{Anything, Comes, ChildComes, ChildKeeps, has_free, needs_keep, so-child, so-low, so-visible, so-has_visible}
use Rattle.call_laws.proofs.WalkInduction.{FoundNeeds, needs_found}

-- the shadow directory that is needed has its place free
abbrev pub FreeNeed : Facts → Need → Type 0
FreeNeed f x = IsFree f x.mount x.dir x.name

abbrev pub FreeChild : Facts → Child → Type 0
FreeChild f c = ChildComes (FreeNeed f) Anything c

abbrev pub Free : {A : Type 0} → Facts → Step A Need → Type 0
Free f m = Comes (FreeNeed f) Anything m

-- what is found, where it is a need
abbrev pub FreeFound : Facts → Found → Type 0
FreeFound f x = FoundNeeds (FreeNeed f) x

free_keeps : (f : Facts) → ChildKeeps f (FreeNeed f) Anything
free_keeps f = needs_keep f (FreeNeed f) (λ k m u n q has dir. has_free has)

pub free-low : (f : Facts) (m u : ℕ) → FreeChild f (low f m u)
free-low f m u = so-low f (FreeNeed f) Anything (free_keeps f) m u tt

-- what a path of a call finds
pub free-found : (w : World) (c : ℕ) (o : Option Way) → FreeFound (facts_of w) (found_at w c o)
free-found w c o = needs_found w (FreeNeed (facts_of w)) (λ d n. so-child (facts_of w) (FreeNeed (facts_of w)) Anything (free_keeps (facts_of w)) d n tt) c o

pub free-visible : (w : World) (d : Seen) → Free (facts_of w) (visible w d)
free-visible w d = so-visible w (FreeNeed (facts_of w)) Anything (free_keeps (facts_of w)) d tt

pub free-has_visible : (w : World) (d : Seen) → Free (facts_of w) (has_visible w d)
free-has_visible w d = so-has_visible w (FreeNeed (facts_of w)) Anything (free_keeps (facts_of w)) d tt

pub free-walk_need : (w : World) (c : ℕ) (o : Option Way) (x : Need) → found_at w c o ≡ found.Need x → FreeNeed (facts_of w) x
free-walk_need w c o x e = subst (FreeFound (facts_of w)) e (free-found w c o)
