-- How many edits an entry makes, and those of histories one after the other.
use Rattle.std.proofs.Common.{◌≡◌, ℕ, ◌+◌, ◌≤◌, Bool, true, false, cond, List, [], ◌∷◌, ◌++◌, length, refl, ap, sym, ◌∙◌, arith}
use Rattle.std.specs.Prelude.{Option, Some, None}
use Rattle.std.specs.FinMap.{get}
use Rattle.vfs_tree.specs.Facts.{Facts}
use Rattle.vfs_tree.specs.Layers.{is_dir}
use Rattle.vfs_tree.specs.Place.{Seen}
use Rattle.vfs_tree.specs.Views.{facts_of}
use Rattle.vfs_tree.specs.declared.walk.Found.{Found}
use Rattle.vfs_tree.specs.declared.walk.Found.TheVariants as found
use Rattle.vfs_tree.specs.declared.world.World.{World}
use Rattle.call_model.specs.Legal.{after, replay}
use Rattle.call_model.specs.NameRows.{is_there}
use Rattle.call_model.specs.Rows.{first_found, second_found}
use Rattle.call_model.specs.declared.call.Call.{Call}
use Rattle.call_model.specs.declared.call.Call.TheVariants as call
use Rattle.call_model.specs.declared.entry.Entry.{Entry}
use Rattle.call_model.specs.declared.entry.Entry.TheVariants as entry
use Rattle.call_model.specs.declared.entry.Inner.{Inner}
use Rattle.call_model.specs.declared.entry.Inner.TheVariants as inner
use Rattle.call_model.specs.NameEdits.{Edit, edited, edited_by, clear_edits, remove_edits, move_edits, rename_edits, rename_found, open_edits, mkdir_edits, symlink_edits, link_edits, undelete_edits, mount_mem_edits, mount_null_edits, mount_union_edits, umount_edits, umount_force_edits, call_edits, inner_edits, is_fail, edits_of, edits}

abbrev Few : ℕ → List Edit → Type 0
Few n es = length es ≤ n

either_few : (n : ℕ) (b : Bool) (xs ys : List Edit) → Few n xs → Few n ys → Few n (cond b xs ys)
either_few n true xs ys p q = p
either_few n false xs ys p q = q

len_joined : (xs ys : List Edit) → length (xs ++ ys) ≡ length xs + length ys
len_joined [] ys = omega arith
len_joined (x ∷ xs) ys = let rest = len_joined xs ys in omega arith

few_clear : (w : World) (o : Option Seen) → Few 1 (clear_edits w o)
few_clear w (Some p) = either_few 1 (is_dir (facts_of w) p) _ [] (omega arith) (omega arith)
few_clear w None = omega arith

few_removed : (w : World) (a : Found) → Few 4 (remove_edits w a)
few_removed w (found.In d n o) = let last = few_clear w o in omega arith
few_removed w _ = omega arith

few_moved : (w : World) (p to : Seen) (new : List ℕ) → Few 1 (move_edits w p to new)
few_moved w p to new = either_few 1 (is_dir (facts_of w) p) _ [] (omega arith) (omega arith)

few_renamed : (w : World) (from : Seen) (old : List ℕ) (p to : Seen) (new : List ℕ) (q : Option Seen) → Few 4 (rename_edits w from old p to new q)
few_renamed w from old p to new q =
    let moves = few_moved w p to new in
    let last = few_clear w q in
    let all = len_joined (move_edits w p to new) (clear_edits w q) in
    either_few 4 (is_there p q) [] _ (omega arith) (omega arith)

few_found : (w : World) (a b : Found) → Few 4 (rename_found w a b)
few_found w (found.In from old (Some p)) (found.In to new q) = few_renamed w from old p to new q
few_found w _ _ = omega arith

few_open : (w : World) (a : Found) → Few 4 (open_edits w a)
few_open w (found.In d n None) = omega arith
few_open w _ = omega arith

few_mkdir : (w : World) (a : Found) → Few 4 (mkdir_edits w a)
few_mkdir w (found.In d n o) = omega arith
few_mkdir w _ = omega arith

few_symlink : (w : World) (text : List ℕ) (a : Found) → Few 4 (symlink_edits w text a)
few_symlink w text (found.In d n o) = omega arith
few_symlink w text _ = omega arith

few_link : (w : World) (a b : Found) → Few 4 (link_edits w a b)
few_link w (found.At p) (found.In d n o) = omega arith
few_link w _ _ = omega arith

few_undelete : (w : World) (a : Found) → Few 4 (undelete_edits w a)
few_undelete w (found.In d n o) = omega arith
few_undelete w _ = omega arith

few_mem : (w : World) (a : Found) → Few 4 (mount_mem_edits w a)
few_mem w (found.At on) = omega arith
few_mem w _ = omega arith

few_null : (w : World) (a b : Found) → Few 4 (mount_null_edits w a b)
few_null w (found.At layer) (found.At on) = omega arith
few_null w _ _ = omega arith

few_union : (w : World) (a b : Found) → Few 4 (mount_union_edits w a b)
few_union w (found.At up) (found.At on) = omega arith
few_union w _ _ = omega arith

few_umount : (a : Found) → Few 4 (umount_edits a)
few_umount (found.Mount m) = omega arith
few_umount _ = omega arith

few_force : (o : Option ℕ) → Few 4 (umount_force_edits o)
few_force (Some m) = omega arith
few_force None = omega arith

few_call : (w : World) (c : ℕ) (call : Call) (a b : Found) → Few 4 (call_edits w c call a b)
few_call w c (call.Mkdir p) a b = few_mkdir w a
few_call w c (call.Rmdir p) a b = few_removed w a
few_call w c (call.Open p f) a b = few_open w a
few_call w c (call.Unlink p) a b = few_removed w a
few_call w c (call.Rename p q) a b = few_found w a b
few_call w c (call.Link p q) a b = few_link w a b
few_call w c (call.Symlink t p) a b = few_symlink w t a
few_call w c (call.Undelete p) a b = few_undelete w a
few_call w c (call.MountMem p) a b = few_mem w a
few_call w c (call.MountNull t p) a b = few_null w a b
few_call w c (call.MountUnion u p) a b = few_union w a b
few_call w c (call.Umount p) a b = few_umount a
few_call w c (call.UmountForce p) a b = few_force (get w.leaving c)
few_call w c _ a b = omega arith

few_inner : (w : World) (x : Inner) → Few 4 (inner_edits w x)
few_inner w (inner.Shadow m u n) = omega arith
few_inner w (inner.CopyUp m u n) = omega arith
few_inner w (inner.Detach m) = omega arith
few_inner w (inner.Doom at) = omega arith

-- an entry makes at most four edits
pub few_edits : (w : World) (e : Entry) → length (edits_of w e) ≤ 4
few_edits w (entry.Call c call r) =
    either_few 4 (is_fail r) [] (call_edits w c call (first_found w c call) (second_found w c call)) (omega arith) (few_call w c call (first_found w c call) (second_found w c call))
few_edits w (entry.Inner c x) = few_inner w x

-- ---- histories

joined_thrice : {A : Type 0} (xs ys zs : List A) → (xs ++ ys) ++ zs ≡ xs ++ (ys ++ zs)
joined_thrice [] ys zs = refl
joined_thrice (x ∷ xs) ys zs = ap (λ (t : List _). x ∷ t) (joined_thrice xs ys zs)

-- the edits of two histories, one after the other
pub edits-joined : (w : World) (es fs : List Entry) → edits w (es ++ fs) ≡ edits w es ++ edits (replay w es) fs
edits-joined w [] fs = refl
edits-joined w (e ∷ es) fs =
    ap (λ (t : List Edit). edits_of w e ++ t) (edits-joined (after w e) es fs)
    ∙ sym (joined_thrice (edits_of w e) (edits (after w e) es) (edits (replay (after w e) es) fs))

-- what they do, one after the other
pub edited-joined : (f : Facts) (es fs : List Edit) → edited_by f (es ++ fs) ≡ edited_by (edited_by f es) fs
edited-joined f [] fs = refl
edited-joined f (e ∷ es) fs = edited-joined (edited f e) es fs
