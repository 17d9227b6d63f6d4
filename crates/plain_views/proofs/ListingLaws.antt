-- What a union's directory shows, with its lower part.
use Rattle.std.proofs.Common.{◌≡◌, ℕ, suc, Bool, ◌||◌, List, [], ◌∷◌, ◌++◌, ap, sym, ◌∙◌}
use Rattle.vfs_tree.specs.Place.{Seen, Null, UnionUp}
use Rattle.vfs_tree.specs.Layers.{kind_in, store_by}
use Rattle.vfs_tree.specs.Child.{low}
use Rattle.vfs_tree.specs.Steps.{◌>>=◌}
use Rattle.vfs_tree.specs.Views.{facts_of}
use Rattle.vfs_tree.specs.Visible.{Listed, listed_below, visible_within, merged, names_at, given_names}
use Rattle.vfs_tree.specs.declared.walk.Child.{Child}
use Rattle.vfs_tree.specs.declared.walk.Child.TheVariants as child
use Rattle.vfs_tree.specs.declared.walk.Need.{Need}
use Rattle.vfs_tree.specs.declared.walk.NodeId.{NodeId}
use Rattle.vfs_tree.specs.declared.walk.Step.{Step}
use Rattle.vfs_tree.specs.declared.walk.Step.TheVariants.{Go}
use Rattle.vfs_tree.specs.declared.world.World.{World}
use Rattle.plain_views.specs.Hidden.{any_unhidden, any_listed_under}
use Rattle.plain_views.proofs.HiddenLaws.{over-listed}

-- the upper names added to those of a lower part
abbrev over : World → ℕ → ℕ → List (List ℕ) → Listed
over w m u lower = Go (merged (names_at w (store_by (kind_in (facts_of w) m)) u) lower)

-- ---- whether there is a name that the directories above don't hide

pub shows_below : (w : World) (k m u s : ℕ) (above read more : List NodeId) (found shows : Bool) (below : Child) (place : Seen) (r : Step Bool Need) → below ≡ low (facts_of w) m u → below ≡ child.At place → s ≡ store_by (kind_in (facts_of w) m)
    → read ≡ above → shows ≡ (found || any_unhidden w read (given_names (names_at w s u))) → more ≡ above ++ record { store = s; ino = u } ∷ [] → r ≡ any_listed_under w more shows (visible_within k w place)
    → r ≡ any_listed_under w above found (visible_within (suc k) w (UnionUp m u))
shows_below w k m u s above read more found shows below place r is there at same upper pushed shown =
    let list : Seen → Listed = visible_within k w in
    let given : List NodeId → Bool = λ dirs. found || any_unhidden w dirs (given_names (names_at w s u)) in
    shown
    ∙ (λ i. any_listed_under w (pushed i) ((upper ∙ ap given same) i) (list place))
    ∙ over-listed w above (record { store = s; ino = u }) found (list place)
    ∙ ap (λ x. any_listed_under w above found (list place >>= (λ names. Go (merged (names_at w x u) names)))) at
    ∙ ap (λ c. any_listed_under w above found (listed_below list c >>= over w m u)) (sym there ∙ is)

-- ---- with the mounts that are left counted

pub at_union : (w : World) (k steps m u : ℕ) (d : Seen) (r : Listed) → steps ≡ suc k → UnionUp m u ≡ d → r ≡ visible_within (suc k) w (UnionUp m u) → r ≡ visible_within steps w d
at_union w k steps m u d r more at is = is ∙ (λ i. visible_within (sym more i) w (at i))

module _ (w : World) (above : List NodeId) (found : Bool) where
  pub shows_at : (k steps : ℕ) (p d : Seen) (r : Step Bool Need) → steps ≡ suc k → p ≡ d → r ≡ any_listed_under w above found (visible_within (suc k) w p) → r ≡ any_listed_under w above found (visible_within steps w d)
  shows_at k steps p d r more at is = is ∙ (λ i. any_listed_under w above found (visible_within (sym more i) w (at i)))

  pub shows_null : (k steps m : ℕ) (p q d : Seen) (r : Step Bool Need) → steps ≡ suc k → Null m p ≡ d → q ≡ p → r ≡ any_listed_under w above found (visible_within k w q) → r ≡ any_listed_under w above found (visible_within steps w d)
  shows_null k steps m p q d r more at below is = shows_at k steps (Null m p) d r more at (is ∙ ap (λ x. any_listed_under w above found (visible_within k w x)) below)
