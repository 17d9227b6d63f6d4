-- What calls change in stores.
use Rattle.std.specs.Prelude.{ℕ, ◌≡◌, ◌⊎◌, true, false, Option, Some, None, option_map}
use Rattle.std.specs.FinMap.{get}
use Rattle.vfs_tree.specs.Facts.{Facts}
use Rattle.vfs_tree.specs.Layers.{base}
use Rattle.vfs_tree.specs.Place.{Seen, mount_of}
use Rattle.vfs_tree.specs.Sound.{names_mounts}
use Rattle.vfs_tree.specs.Views.{facts_of}
use Rattle.vfs_tree.specs.declared.walk.Found.{Found}
use Rattle.vfs_tree.specs.declared.walk.Found.TheVariants as found
use Rattle.vfs_tree.specs.declared.walk.NodeId.{NodeId}
use Rattle.vfs_tree.specs.declared.world.World.{World}
use Rattle.call_model.specs.Checks.{upper_store}
use Rattle.call_model.specs.Rows.{first_found, second_found}
use Rattle.call_model.specs.declared.call.Call.{Call}
use Rattle.call_model.specs.declared.call.Call.TheVariants as call
use Rattle.call_model.specs.declared.entry.Inner.{Inner}
use Rattle.call_model.specs.declared.entry.Inner.TheVariants.{Shadow, CopyUp, Detach, Doom}
use Rattle.call_laws.specs.Lasting.{IsOver}
use Rattle.need_laws.specs.Above.{is_lower_file}

-- ---- what a call changes

-- what a path finds: a place, or the directory in which it finds a name
abbrev pub place_found : Found → Option Seen
place_found (found.At p) = Some p
place_found (found.In d n o) = Some d
place_found _ = None

-- what a descriptor stands for
abbrev pub place_opened : World → ℕ → ℕ → Option Seen
place_opened w c d = option_map (λ o. o.place) (get w.opens (c, d))

-- the file or directory that a call changes, where it changes one. All calls that aren't listed change none.
abbrev pub changed_place : World → ℕ → Call → Option Seen
changed_place w c (call.Write d bytes) = place_opened w c d
changed_place w c (call.Pwrite d at bytes) = place_opened w c d
changed_place w c (call.Ftruncate d n) = place_opened w c d
changed_place w c (call.Truncate p n) = place_found (first_found w c (call.Truncate p n))
changed_place w c (call.Open p f) = place_found (first_found w c (call.Open p f))
changed_place w c (call.Mkdir p) = place_found (first_found w c (call.Mkdir p))
changed_place w c (call.Rmdir p) = place_found (first_found w c (call.Rmdir p))
changed_place w c (call.Unlink p) = place_found (first_found w c (call.Unlink p))
changed_place w c (call.Rename a b) = place_found (first_found w c (call.Rename a b))
changed_place w c (call.Link a b) = place_found (second_found w c (call.Link a b))
changed_place w c (call.Symlink t p) = place_found (first_found w c (call.Symlink t p))
changed_place w c (call.Undelete p) = place_found (first_found w c (call.Undelete p))
changed_place w c _ = None

-- the store of the node on which that place rests, which is no file of a lower layer alone
pub record IsChangedAbove (w : World) (o : Option Seen) (s : ℕ) : Type 0 where
  pub place : Seen
  pub is : o ≡ Some place
  pub above : is_lower_file place ≡ false
  pub store : (base (facts_of w) place).store ≡ s

-- a store is as it was, or so; or it is a new one, and no other is changed
abbrev pub ChangesAbove : World → World → Option Seen → ℕ → Type 0
ChangesAbove old new o s = (get new.stores s ≡ get old.stores s) ⊎ (IsChangedAbove old o s ⊎ ((o ≡ None) × (get old.stores s ≡ None)))

-- ---- places of a layer

-- a place in the mount of a layer, through mounts that are there, cut or not
pub record IsInLayer (f : Facts) (layer p : Seen) : Type 0 where
  pub mount : mount_of p ≡ mount_of layer
  pub names : names_mounts f p ≡ true
  pub over : IsOver f p

-- ---- what an inner entry changes

-- the directory in which an inner entry makes a name, where it makes one
abbrev pub named_in : World → Inner → Option NodeId
named_in w (Shadow m u n) = Some (record { store = upper_store w m; ino = u })
named_in w (CopyUp m u n) = Some (record { store = upper_store w m; ino = u })
named_in w (Detach m) = None
named_in w (Doom at) = None
