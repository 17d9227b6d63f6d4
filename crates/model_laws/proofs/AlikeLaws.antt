-- Views that show the same are the same.
use Rattle.std.proofs.Common.{◌≡◌, ℕ, List, refl, ap, ◌∙◌}
use Rattle.std.specs.Prelude.{Option, Some, None}
use Rattle.std.specs.FinMap.{get}
use Rattle.vfs_tree.specs.Facts.{Facts}
use Rattle.vfs_tree.specs.Place.{Seen}
use Rattle.vfs_tree.specs.Views.{facts_of}
use Rattle.vfs_tree.specs.Walk.{Walked, in_cwd, find}
use Rattle.vfs_tree.specs.declared.open.Cwd.{Cwd}
use Rattle.vfs_tree.specs.declared.walk.Leaf.{Leaf}
use Rattle.vfs_tree.specs.declared.world.World.{World}
use Rattle.call_model.specs.Rows.{Way, found_at}
use Rattle.model_laws.specs.Alike.{ShowsSame}

-- what shows the same is the same
pub same_view : (f g : Facts) → ShowsSame f g → f ≡ g
same_view f g h = λ k. record {
  entry = λ s d n. h.entry s d n k;
  kind = λ s i. h.kind s i k;
  dir = λ s i. h.dir s i k;
  name_of = λ s i. h.name_of s i k;
  target = λ s i. h.target s i k;
  covering = λ p. h.covering p k;
  mount = λ m. h.mount m k;
}

pub same_walk : (f g : Facts) → ShowsSame f g → (leaf : Leaf) (from : Walked Seen) (text : List ℕ) → find f leaf from text ≡ find g leaf from text
same_walk f g h leaf from text = ap (λ (x : Facts). find x leaf from text) (same_view f g h)

pub same_found : (v w : World) (c : ℕ) → ShowsSame (facts_of v) (facts_of w) → get v.cwds c ≡ get w.cwds c → (o : Option Way) → found_at v c o ≡ found_at w c o
same_found v w c h here (Some way) =
    ap (λ (f : Facts). find f way.leaf (in_cwd f (get v.cwds c)) way.text) (same_view (facts_of v) (facts_of w) h)
    ∙ ap (λ (o : Option Cwd). find (facts_of w) way.leaf (in_cwd (facts_of w) o) way.text) here
same_found v w c h here None = refl
