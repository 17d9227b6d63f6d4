-- The edits of calls and of needed entries that make nodes tell what they do.
use Rattle.std.proofs.Common.{◌≡◌, ℕ, Bool, true, false, not, ◌&&◌, List, [], ◌∷◌, refl, ap, sym, ◌∙◌, subst}
use Rattle.std.specs.Prelude.{Option, Some, None, nat_lt, option_and_then}
use Rattle.std.specs.FinMap.{get, len}
use Rattle.vfs_tree.specs.Bytes.{resize_bytes}
use Rattle.vfs_tree.specs.Child.{child_of, child_below, low}
use Rattle.vfs_tree.specs.Edits.{new_dir}
use Rattle.vfs_tree.specs.Layers.{base, is_dir}
use Rattle.vfs_tree.specs.Nodes.{is_given, next_of}
use Rattle.vfs_tree.specs.Place.{Seen}
use Rattle.vfs_tree.specs.Sound.{IsSound}
use Rattle.vfs_tree.specs.Views.{target_in, facts_of}
use Rattle.vfs_tree.specs.declared.node.NameEntry.TheVariants.{Ino}
use Rattle.vfs_tree.specs.declared.node.Node.{Node}
use Rattle.vfs_tree.specs.declared.node.Node.TheVariants.{Dir, File, Link}
use Rattle.vfs_tree.specs.declared.walk.Child.{Child}
use Rattle.vfs_tree.specs.declared.walk.Child.TheVariants as child
use Rattle.vfs_tree.specs.declared.walk.Found.{Found}
use Rattle.vfs_tree.specs.declared.walk.Found.TheVariants as found
use Rattle.vfs_tree.specs.declared.walk.NodeId.{NodeId}
use Rattle.vfs_tree.specs.declared.walk.Step.TheVariants.{Wants}
use Rattle.vfs_tree.specs.declared.world.World.{World}
use Rattle.call_model.specs.Apply.{Finished, apply}
use Rattle.call_model.specs.Checks.{upper_store, node_of, has_white, make_at, free_target, is_full}
use Rattle.call_model.specs.DataRows as data_rows
use Rattle.call_model.specs.Effects.{copy_of, copied_child, made_above}
use Rattle.call_model.specs.NameEdits.{Edit, SetName, edited_by, copy_as, copy_edit, make_edits, mkdir_edits, open_edits, symlink_edits}
use Rattle.call_model.specs.NameRows as rows
use Rattle.call_model.specs.Rows.{first_found, first_way, row}
use Rattle.call_model.specs.declared.call.Call.{Call}
use Rattle.call_model.specs.declared.call.Call.TheVariants as call
use Rattle.call_model.specs.declared.call.Flags.{Flags}
use Rattle.call_model.specs.declared.entry.Entry.TheVariants as entry
use Rattle.call_model.specs.declared.entry.Inner.TheVariants.{Shadow, CopyUp}
use Rattle.call_model.specs.declared.reply.Reply.TheVariants as reply
use Rattle.call_laws.specs.Lasting.{IsLasting}
use Rattle.call_laws.specs.Needing.{IsFree}
use Rattle.call_laws.proofs.GivenLaws.{given_target}
use Rattle.call_laws.proofs.MadeLaws.{IsFresh}
use Rattle.call_laws.proofs.MountParts.{FreeInner}
use Rattle.call_laws.proofs.NameLaws.{view_of}
use Rattle.call_laws.proofs.Parts.{Keeps, found_so, refused, needed, then, unless}
use Rattle.call_laws.proofs.PlaceLaws.{well_at}
use Rattle.call_laws.proofs.RowLaws.{row_free}
use Rattle.call_laws.proofs.SoundRows.{LeavesSo, AnyNeed}
use Rattle.call_laws.proofs.WalkLaws.{IsTarget, FoundWell}
use Rattle.call_laws.proofs.Whole.{IsWhole}
use Rattle.model_laws.proofs.Leaving.{past}
use Rattle.edit_laws.specs.Telling.{Tells}
use Rattle.edit_laws.proofs.ByteViews.{bytes_view}
use Rattle.edit_laws.proofs.Answering.{found_free, Shows, told}
use Rattle.edit_laws.proofs.MadeViews.{new_edit, made_world}

-- ---- a node at a name of a directory

abbrev made_by : World → Seen → List ℕ → Node → List Edit
made_by w d n node = let b = base (facts_of w) d in let i = next_of (get w.stores b.store) in new_edit b.store i node ∷ SetName b.store b.ino n (Ino i) ∷ []

make_shows : (w : World) → IsWhole w → (d : Seen) (n : List ℕ) (node : Node) → IsTarget (facts_of w) d n None → IsFresh (base (facts_of w) d).ino node → Keeps (λ v. Shows w (made_by w d n node) v) AnyNeed (make_at w d n node)
make_shows w h d n node t fresh =
    let b : NodeId = base (facts_of w) d in
    unless (is_full w b.store) _ (λ _. found_so (made_world w h b.store b.ino n node t.linked (given_target (facts_of w) (view_of w h) d n None t) fresh))

target_of_free : (w : World) (a : Found) (d : Seen) (n : List ℕ) → FoundWell (facts_of w) a → a ≡ found.In d n None → IsTarget (facts_of w) d n None
target_of_free w a d n well is = subst (FoundWell (facts_of w)) is well

-- ---- mkdir, symlink and open

pub mkdir_shows : (w : World) (a : Found) → IsWhole w → FoundWell (facts_of w) a → Keeps (LeavesSo (Shows w (mkdir_edits w a))) AnyNeed (rows.mkdir w a)
mkdir_shows w a h well =
    then (free_target w a) (found_free w a) (λ t is.
    let node = new_dir (base (facts_of w) t.dir).ino (has_white w t.dir t.name) in
    then (make_at w t.dir t.name node) (make_shows w h t.dir t.name node (target_of_free w a t.dir t.name well is) (refl, refl)) (λ new v.
    found_so (v ∙ ap (λ x. edited_by (facts_of w) (mkdir_edits w x)) (sym is))))

pub symlink_shows : (w : World) (text : List ℕ) (a : Found) → IsWhole w → FoundWell (facts_of w) a → Keeps (LeavesSo (Shows w (symlink_edits w text a))) AnyNeed (rows.symlink w text a)
symlink_shows w text a h well =
    past (rows.check_text text) (λ _.
    then (free_target w a) (found_free w a) (λ t is.
    then (make_at w t.dir t.name (Link text)) (make_shows w h t.dir t.name (Link text) (target_of_free w a t.dir t.name well is) tt) (λ new v.
    found_so (v ∙ ap (λ x. edited_by (facts_of w) (symlink_edits w text x)) (sym is)))))

cut_shows : (b : Bool) (w : World) (p : Seen) → facts_of (data_rows.cut_to b w p) ≡ facts_of w
cut_shows true w p = let b = base (facts_of w) p in bytes_view w b.store b.ino (λ old. resize_bytes old 0)
cut_shows false w p = refl

there_shows : (w : World) (c fd : ℕ) (f : Flags) (p : Seen) → Keeps (LeavesSo (Shows w [])) AnyNeed (data_rows.open_there w c fd f p)
there_shows w c fd f p =
    unless (is_dir (facts_of w) p && data_rows.writes f.access) _ (λ _.
    unless (not (is_dir (facts_of w) p) && f.dir) _ (λ _.
    past (data_rows.copied_for (data_rows.writes f.access) w p) (λ _. found_so (cut_shows f.cut w p))))

open_made_shows : (w : World) (c fd : ℕ) (f : Flags) (d : Seen) (n : List ℕ) → IsWhole w → IsTarget (facts_of w) d n None → Keeps (LeavesSo (Shows w (open_edits w (found.In d n None)))) AnyNeed (data_rows.open_made w c fd f d n)
open_made_shows w c fd f d n h t = then (make_at w d n (File [])) (make_shows w h d n (File []) t tt) (λ new v. found_so v)

open_shows : (w : World) (c fd : ℕ) (f : Flags) (a : Found) → IsWhole w → FoundWell (facts_of w) a → Keeps (LeavesSo (Shows w (open_edits w a))) AnyNeed (data_rows.open_found w c fd f a)
open_shows w c fd f (found.At p) h well = there_shows w c fd f p
open_shows w c fd f (found.In d n None) h well = open_made_shows w c fd f d n h well
open_shows w c fd f (found.In d n (Some p)) h well = refused
open_shows w c fd f (found.Dot d) h well = refused
open_shows w c fd f (found.Mount m) h well = refused
open_shows w c fd f (found.Refused e) h well = refused
open_shows w c fd f (found.Need x) h well = unless (is_full w (upper_store w x.mount)) _ (λ _. needed tt)

pub open_file_shows : (w : World) (c : ℕ) (f : Flags) (a : Found) → IsWhole w → FoundWell (facts_of w) a → Keeps (LeavesSo (Shows w (open_edits w a))) AnyNeed (data_rows.open_file w c f a)
open_file_shows w c f a h well =
    unless (not (data_rows.are_flags f)) _ (λ _.
    past (data_rows.free_descriptor w c) (λ fd.
    unless (not (nat_lt (len w.opens) w.limits.files)) _ (λ _. open_shows w c fd f a h well)))

pub mkdir_tells : (w new : World) (c : ℕ) (text : List ℕ) → IsSound w → IsLasting w → apply w c (call.Mkdir text) ≡ Finished new reply.Done → Tells w (entry.Call c (call.Mkdir text) reply.Done)
mkdir_tells w new c text sound lasts is =
    let x = call.Mkdir text in
    told w new c x reply.Done refl (mkdir_shows w (first_found w c x) (record { sound = sound; lasts = lasts }) (well_at w sound lasts c (first_way x))) is

pub symlink_tells : (w new : World) (c : ℕ) (target text : List ℕ) → IsSound w → IsLasting w → apply w c (call.Symlink target text) ≡ Finished new reply.Done → Tells w (entry.Call c (call.Symlink target text) reply.Done)
symlink_tells w new c target text sound lasts is =
    let x = call.Symlink target text in
    told w new c x reply.Done refl (symlink_shows w target (first_found w c x) (record { sound = sound; lasts = lasts }) (well_at w sound lasts c (first_way x))) is

pub open_tells : (w new : World) (c d : ℕ) (text : List ℕ) (f : Flags) → IsSound w → IsLasting w → apply w c (call.Open text f) ≡ Finished new (reply.Fd d) → Tells w (entry.Call c (call.Open text f) (reply.Fd d))
open_tells w new c d text f sound lasts is =
    let x = call.Open text f in
    told w new c x (reply.Fd d) refl (open_file_shows w c f (first_found w c x) (record { sound = sound; lasts = lasts }) (well_at w sound lasts c (first_way x))) is

-- ---- shadow directories and copies

copy_same : (s i : ℕ) (o : Option Node) → new_edit s i (copy_of o) ≡ copy_as s i (option_and_then target_in o)
copy_same s i (Some (Dir parent opaque names)) = refl
copy_same s i (Some (File bytes)) = refl
copy_same s i (Some (Link target)) = refl
copy_same s i None = refl

fresh_copy : (u : ℕ) (o : Option Node) → IsFresh u (copy_of o)
fresh_copy u (Some (Dir parent opaque names)) = tt
fresh_copy u (Some (File bytes)) = tt
fresh_copy u (Some (Link target)) = tt
fresh_copy u None = tt

module _ (w : World) (h : IsWhole w) (m u : ℕ) (n : List ℕ) (free : IsFree (facts_of w) m u n) where
  abbrev s : ℕ
  s = upper_store w m

  abbrev at : NodeId
  at = record { store = s; ino = u }

  above_shows : (node : Node) → IsFresh u node → facts_of (made_above w m u n node) ≡ edited_by (facts_of w) (make_edits w at n (λ i. new_edit s i node))
  above_shows node fresh = made_world w h s u n node free.linked (ap is_given free.free) fresh

  shadow_shows : Tells w (entry.Inner 0 (Shadow m u n))
  shadow_shows = above_shows (new_dir u false) (refl, refl)

  child_shows : (c : Child) → facts_of (copied_child w m u n c) ≡ edited_by (facts_of w) (make_edits w at n (copy_edit w s c))
  child_shows (child.At q) =
      above_shows (copy_of (node_of w q)) (fresh_copy u (node_of w q))
      ∙ ap (λ e. edited_by (facts_of w) (e ∷ SetName s u n (Ino (next_of (get w.stores s))) ∷ [])) (copy_same s (next_of (get w.stores s)) (node_of w q))
  child_shows child.Absent = above_shows (File []) tt
  child_shows (child.Need x) = above_shows (File []) tt

  copy_shows : Tells w (entry.Inner 0 (CopyUp m u n))
  copy_shows = child_shows (child_below (child_of (facts_of w)) (low (facts_of w) m u) n)

pub shadow_tells : (w : World) (c m u : ℕ) (n : List ℕ) (call : Call) → IsSound w → IsLasting w → row w c call ≡ Wants (Shadow m u n) → Tells w (entry.Inner c (Shadow m u n))
shadow_tells w c m u n call sound lasts needs =
    shadow_shows w (record { sound = sound; lasts = lasts }) m u n (subst (λ o. Keeps (λ x. Unit {0}) (FreeInner w) o) needs (row_free w c call)).holds

pub copy_tells : (w : World) (c m u : ℕ) (n : List ℕ) (call : Call) → IsSound w → IsLasting w → row w c call ≡ Wants (CopyUp m u n) → Tells w (entry.Inner c (CopyUp m u n))
copy_tells w c m u n call sound lasts needs =
    let h : IsWhole w = record { sound = sound; lasts = lasts } in
    copy_shows w h m u n ((subst (λ o. Keeps (λ x. Unit {0}) (FreeInner w) o) needs (row_free w c call)).holds h)
