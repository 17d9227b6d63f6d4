-- A caller's current directory is set to a sound place.
use Rattle.std.proofs.Common.{◌≡◌, ℕ, true, false, not, List}
use Rattle.vfs_tree.specs.Facts.{Facts}
use Rattle.vfs_tree.specs.Layers.{is_dir}
use Rattle.vfs_tree.specs.Place.{Seen}
use Rattle.vfs_tree.specs.Sound.{IsSound}
use Rattle.vfs_tree.specs.Views.{facts_of}
use Rattle.vfs_tree.specs.declared.walk.Found.{Found}
use Rattle.vfs_tree.specs.declared.walk.Found.TheVariants as found
use Rattle.vfs_tree.specs.declared.walk.Leaf.TheVariants as leaf
use Rattle.vfs_tree.specs.declared.world.World.{World}
use Rattle.call_model.specs.Checks.{place_at, dir_at}
use Rattle.call_model.specs.Legal.{after}
use Rattle.call_model.specs.NameRows as names
use Rattle.call_model.specs.Rows.{way, found_at}
use Rattle.call_model.specs.declared.call.Call.TheVariants as call
use Rattle.call_model.specs.declared.entry.Entry.TheVariants as entry
use Rattle.call_model.specs.declared.reply.Reply.{Reply}
use Rattle.call_laws.specs.Lasting.{IsLasting}
use Rattle.call_laws.proofs.NeedLaws.{FreeFound, free-found}
use Rattle.call_laws.proofs.Parts.{Keeps, MakesNode, found_so, refused, then, unless, keeps-shadow}
use Rattle.call_laws.proofs.PlaceLaws.{well_at}
use Rattle.call_laws.proofs.SoundLaws.{sound-cwd}
use Rattle.call_laws.proofs.SoundRows.{Leaves, sound-by}
use Rattle.call_laws.proofs.WalkLaws.{IsEnd, FoundWell}
use Rattle.call_laws.proofs.SoundParts.{is_so}

-- a directory at which a walk ends
pub record IsEndDir (f : Facts) (p : Seen) : Type 0 where
  pub end : IsEnd f p
  pub dir : is_dir f p ≡ true

pub well-place_at : (w : World) (a : Found) → FreeFound (facts_of w) a → FoundWell (facts_of w) a → Keeps (IsEnd (facts_of w)) (MakesNode w) (place_at w a)
well-place_at w (found.At p) free g = found_so g
well-place_at w (found.Need x) free g = keeps-shadow w x free
well-place_at w _ free g = refused

pub well-dir_at : (w : World) (a : Found) → FreeFound (facts_of w) a → FoundWell (facts_of w) a → Keeps (IsEndDir (facts_of w)) (MakesNode w) (dir_at w a)
well-dir_at w a free g =
    then (place_at w a) (well-place_at w a free g) (λ p end.
    unless (not (is_dir (facts_of w) p)) _ (λ e. found_so (record { end = end; dir = is_so (is_dir (facts_of w) p) e })))

module _ (w : World) (h : IsSound w) (lasts : IsLasting w) where
  good-chdir : (c : ℕ) (a : Found) → FreeFound (facts_of w) a → FoundWell (facts_of w) a → Keeps Leaves (MakesNode w) (names.chdir w c a)
  good-chdir c a free g =
      then (dir_at w a) (well-dir_at w a free g) (λ d x. found_so (sound-cwd w c (record { place = d; dead = false }) h x.end.good.sound))

  -- chdir leaves a sound world
  pub sound-chdir : (c : ℕ) (text : List ℕ) (r : Reply) → IsSound (after w (entry.Call c (call.Chdir text) r))
  sound-chdir c text r = sound-by w c (call.Chdir text) r h (good-chdir c (found_at w c (way leaf.Follow text)) (free-found w c (way leaf.Follow text)) (well_at w h lasts c (way leaf.Follow text)))
