-- The edits of names and mounts that the entries of a history make, and what they do to what walks read.
use Rattle.std.specs.Prelude.{ℕ, zero, suc, ◌+◌, Bool, true, false, ◌&&◌, ◌||◌, ◌==◌, if◌then◌else◌, List, [], ◌∷◌, ◌++◌, Option, Some, None, option_map, option_and_then}
use Rattle.std.specs.List.{list_any}
use Rattle.std.specs.Str.{bytes_eq}
use Rattle.std.specs.FinMap.{get}
use Rattle.vfs_tree.specs.Place.{Seen, Mem, Null}
use Rattle.vfs_tree.specs.Facts.{Facts}
use Rattle.vfs_tree.specs.Layers.{base, is_dir, is_opaque, target_of}
use Rattle.vfs_tree.specs.Carriers.{is_in_union}
use Rattle.vfs_tree.specs.Child.{child_of, child_below, low}
use Rattle.vfs_tree.specs.Mounts.{layers_at, is_on}
use Rattle.vfs_tree.specs.Nodes.{entry_at, next_of}
use Rattle.vfs_tree.specs.Views.{facts_of}
use Rattle.vfs_tree.specs.declared.mount.Mount.{Mount}
use Rattle.vfs_tree.specs.declared.mount.MountKind.{MountKind}
use Rattle.vfs_tree.specs.declared.mount.MountKind.TheVariants as mount
use Rattle.vfs_tree.specs.declared.node.Kind.{Kind}
use Rattle.vfs_tree.specs.declared.node.Kind.TheVariants as kind
use Rattle.vfs_tree.specs.declared.node.NameEntry.{NameEntry}
use Rattle.vfs_tree.specs.declared.node.NameEntry.TheVariants.{Ino, White}
use Rattle.vfs_tree.specs.declared.view.DirFacts.{DirFacts}
use Rattle.vfs_tree.specs.declared.walk.Child.{Child}
use Rattle.vfs_tree.specs.declared.walk.Child.TheVariants as child
use Rattle.vfs_tree.specs.declared.walk.Found.{Found}
use Rattle.vfs_tree.specs.declared.walk.Found.TheVariants as found
use Rattle.vfs_tree.specs.declared.walk.NodeId.{NodeId}
use Rattle.vfs_tree.specs.declared.world.World.{World}
use Rattle.call_model.specs.Checks.{upper_store, has_white}
use Rattle.call_model.specs.Legal.{after}
use Rattle.call_model.specs.NameRows.{is_there}
use Rattle.call_model.specs.Rows.{first_found, second_found}
use Rattle.call_model.specs.declared.call.Call.{Call}
use Rattle.call_model.specs.declared.call.Call.TheVariants as call
use Rattle.call_model.specs.declared.entry.Entry.{Entry}
use Rattle.call_model.specs.declared.entry.Entry.TheVariants as entry
use Rattle.call_model.specs.declared.entry.Inner.{Inner}
use Rattle.call_model.specs.declared.entry.Inner.TheVariants as inner
use Rattle.call_model.specs.declared.reply.Reply.{Reply}
use Rattle.call_model.specs.declared.reply.Reply.TheVariants as reply

-- an edit of names and mounts
pub data Edit : Type 0 where
  -- a directory has an entry at a name
  SetName : (store dir : ℕ) (name : List ℕ) (entry : NameEntry) → Edit
  -- it has none
  ClearName : (store dir : ℕ) (name : List ℕ) → Edit
  -- it has none at all
  ClearDir : (store dir : ℕ) → Edit
  -- a node is made, which no name gives yet
  NewDir : (store ino parent : ℕ) (opaque : Bool) → Edit
  NewFile : (store ino : ℕ) → Edit
  NewLink : (store ino : ℕ) (target : List ℕ) → Edit
  -- a directory has another parent
  Moved : (store ino parent : ℕ) (opaque : Bool) → Edit
  -- a mount is there
  AddMount : (mount : Mount) → Edit
  -- it is cut, and each that stands on it, and it covers nothing any more
  Detach : (number : ℕ) → Edit
  -- it is there no more
  DropMount : (number : ℕ) → Edit

-- ---- what an edit does to what walks read

abbrev pub is_node : NodeId → ℕ → ℕ → Bool
is_node a s i = (a.store == s) && (a.ino == i)

-- what is known of a directory, where it is one, is changed
abbrev pub with_dir : (DirFacts → DirFacts) → NodeId → Facts → Facts
with_dir g a f = record f { dir = λ s i. if is_node a s i then option_map g (f.dir s i) else f.dir s i }

-- the name that its parent has for a directory, where it is one
abbrev pub with_name_of : Option (List ℕ) → NodeId → Facts → Facts
with_name_of n a f = record f { name_of = λ s i. if is_node a s i then option_and_then (λ d. n) (f.dir s i) else f.name_of s i }

-- a name gives the node
abbrev pub linked_at : NodeId → List ℕ → Facts → Facts
linked_at a n f = with_name_of (Some n) a (with_dir (λ d. record d { linked = true }) a f)

-- no name gives the node: a directory has one at most
abbrev pub unlinked_at : NodeId → Facts → Facts
unlinked_at a f = with_name_of None a (with_dir (λ d. record d { linked = a.ino == 1 }) a f)

-- what an entry gave is given no more
abbrev pub unlinked_by : ℕ → Option NameEntry → Facts → Facts
unlinked_by s (Some (Ino i)) f = unlinked_at (record { store = s; ino = i }) f
unlinked_by s (Some White) f = f
unlinked_by s None f = f

-- what an entry gives is given
abbrev pub linked_by_entry : ℕ → List ℕ → Option NameEntry → Facts → Facts
linked_by_entry s n (Some (Ino i)) f = linked_at (record { store = s; ino = i }) n f
linked_by_entry s n (Some White) f = f
linked_by_entry s n None f = f

-- a directory has this at a name, and what it had there before is given no more
abbrev pub with_entry_at : NodeId → List ℕ → Option NameEntry → Facts → Facts
with_entry_at a n e f =
    let g : Facts = record f { entry = λ s d o. if is_node a s d && bytes_eq n o then e else f.entry s d o } in
    linked_by_entry a.store n e (unlinked_by a.store (f.entry a.store a.ino n) g)

-- a directory has nothing at any name
abbrev pub without_entries : NodeId → Facts → Facts
without_entries a f = record f { entry = λ s d n. if is_node a s d then None else f.entry s d n }

-- a node of a kind is there
abbrev pub with_kind : Kind → NodeId → Facts → Facts
with_kind k a f = record f { kind = λ s i. if is_node a s i then Some k else f.kind s i }

abbrev pub with_new_dir : NodeId → ℕ → Bool → Facts → Facts
with_new_dir a parent opaque f =
    let new : DirFacts = record { parent = parent; opaque = opaque; linked = a.ino == 1 } in
    record (with_kind kind.Dir a f) { dir = λ s i. if is_node a s i then Some new else f.dir s i }

abbrev pub with_new_link : NodeId → List ℕ → Facts → Facts
with_new_link a text f = record (with_kind kind.Link a f) { target = λ s i. if is_node a s i then Some text else f.target s i }

-- ---- mounts

-- a mount is there, and covers the directory that it is on
abbrev pub with_mount_at : Mount → Facts → Facts
with_mount_at t f = record f {
  mount = λ m. if m == t.number then Some t else f.mount m;
  covering = λ p. if is_on t.on p then Some t.number else f.covering p;
}

abbrev pub unless_by : ℕ → Option ℕ → Option ℕ
unless_by m (Some n) = if n == m then None else Some n
unless_by m None = None

-- a mount covers nothing
abbrev pub uncovered : ℕ → Facts → Facts
uncovered m f = record f { covering = λ p. unless_by m (f.covering p) }

abbrev pub stands_among : ℕ → Facts → ℕ → ℕ → Bool
stands_among zero f a b = false
stands_among (suc k) f a b = list_any (λ l. (l == b) || stands_among k f l b) (layers_at (f.mount a))

-- whether a mount is another, or stands on it
abbrev pub is_of_mount : Facts → ℕ → ℕ → Bool
is_of_mount f m a = (a == m) || stands_among (suc a) f a m

-- a mount is cut, and each that stands on it
abbrev pub with_cut : ℕ → Facts → Facts
with_cut m f = record f { mount = λ n. option_map (λ (t : Mount). record t { cut = t.cut || is_of_mount f m t.number }) (f.mount n) }

abbrev pub without_mount_at : ℕ → Facts → Facts
without_mount_at m f = record f { mount = λ n. if n == m then None else f.mount n }

-- ---- all of them

-- what walks read after an edit
abbrev pub edited : Facts → Edit → Facts
edited f (SetName s d n e) = with_entry_at (record { store = s; ino = d }) n (Some e) f
edited f (ClearName s d n) = with_entry_at (record { store = s; ino = d }) n None f
edited f (ClearDir s d) = without_entries (record { store = s; ino = d }) f
edited f (NewDir s i parent opaque) = with_new_dir (record { store = s; ino = i }) parent opaque f
edited f (NewFile s i) = with_kind kind.File (record { store = s; ino = i }) f
edited f (NewLink s i text) = with_new_link (record { store = s; ino = i }) text f
edited f (Moved s i parent opaque) = with_dir (λ d. record d { parent = parent; opaque = opaque }) (record { store = s; ino = i }) f
edited f (AddMount t) = with_mount_at t f
edited f (Detach m) = uncovered m (with_cut m f)
edited f (DropMount m) = uncovered m (without_mount_at m f)

-- and after some, one after the other
abbrev pub edited_by : Facts → List Edit → Facts
edited_by f [] = f
edited_by f (e ∷ es) = edited_by (edited f e) es

-- ---- the edits of an entry

-- the node on which a place rests
abbrev pub node_id : World → Seen → NodeId
node_id w d = base (facts_of w) d

-- what a directory has at a name
abbrev pub entry_of_dir : World → Seen → List ℕ → Option NameEntry
entry_of_dir w d n = let a = node_id w d in entry_at w a.store a.ino n

-- a name is set in a directory
abbrev pub set_edit : World → Seen → List ℕ → NameEntry → Edit
set_edit w d n e = let a = node_id w d in SetName a.store a.ino n e

-- a name is dropped: the entry goes, or becomes a whiteout where the directory is one of a union
abbrev pub drop_edit : World → Seen → List ℕ → Edit
drop_edit w d n = let a = node_id w d in if is_in_union d then SetName a.store a.ino n White else ClearName a.store a.ino n

-- a node is made in a store, and a name of a directory gives it
abbrev pub make_edits : World → NodeId → List ℕ → (ℕ → Edit) → List Edit
make_edits w a n new = let i = next_of (get w.stores a.store) in new i ∷ SetName a.store a.ino n (Ino i) ∷ []

abbrev pub make_dir_edits : World → Seen → List ℕ → List Edit
make_dir_edits w d n = let a = node_id w d in make_edits w a n (λ i. NewDir a.store i a.ino (has_white w d n))

abbrev pub make_file_edits : World → Seen → List ℕ → List Edit
make_file_edits w d n = let a = node_id w d in make_edits w a n (λ i. NewFile a.store i)

abbrev pub make_link_edits : World → List ℕ → Seen → List ℕ → List Edit
make_link_edits w text d n = let a = node_id w d in make_edits w a n (λ i. NewLink a.store i text)

-- a directory that is removed or replaced has no names
abbrev pub clear_edits : World → Option Seen → List Edit
clear_edits w (Some p) = if is_dir (facts_of w) p then (let a = node_id w p in ClearDir a.store a.ino ∷ []) else []
clear_edits w None = []

-- what is at a name is removed
abbrev pub remove_edits : World → Found → List Edit
remove_edits w (found.In d n o) = drop_edit w d n ∷ clear_edits w o
remove_edits w _ = []

-- a directory that is moved gets its new parent, and becomes opaque where the new one is a directory of a union or a
-- whiteout stood at the new name
abbrev pub move_edits : World → Seen → Seen → List ℕ → List Edit
move_edits w p to new =
    let a = node_id w p in
    if is_dir (facts_of w) p
    then Moved a.store a.ino (node_id w to).ino (is_opaque (facts_of w) a.store a.ino || (is_in_union to || has_white w to new)) ∷ []
    else []

-- the old name is dropped, the new one gives what it gave, and what the new one gave is replaced
abbrev pub rename_edits : World → Seen → List ℕ → Seen → Seen → List ℕ → Option Seen → List Edit
rename_edits w from old p to new q =
    if is_there p q then []
    else drop_edit w from old ∷ set_edit w to new (Ino (node_id w p).ino) ∷ (move_edits w p to new ++ clear_edits w q)

abbrev pub rename_found : World → Found → Found → List Edit
rename_found w (found.In from old (Some p)) (found.In to new q) = rename_edits w from old p to new q
rename_found w _ _ = []

-- a file is made where none is there
abbrev pub open_edits : World → Found → List Edit
open_edits w (found.In d n None) = make_file_edits w d n
open_edits w _ = []

abbrev pub mkdir_edits : World → Found → List Edit
mkdir_edits w (found.In d n o) = make_dir_edits w d n
mkdir_edits w _ = []

abbrev pub symlink_edits : World → List ℕ → Found → List Edit
symlink_edits w text (found.In d n o) = make_link_edits w text d n
symlink_edits w text _ = []

abbrev pub link_edits : World → Found → Found → List Edit
link_edits w (found.At p) (found.In d n o) = set_edit w d n (Ino (node_id w p).ino) ∷ []
link_edits w _ _ = []

abbrev pub undelete_edits : World → Found → List Edit
undelete_edits w (found.In d n o) = (let a = node_id w d in ClearName a.store a.ino n) ∷ []
undelete_edits w _ = []

-- a new mount on a directory
abbrev pub add_edit : World → MountKind → Seen → Edit
add_edit w kind on = AddMount (record { number = w.next_mount; kind = kind; on = Some on; cut = false })

-- a new memory file system has a root directory
abbrev pub mount_mem_edits : World → Found → List Edit
mount_mem_edits w (found.At on) = add_edit w mount.Mem on ∷ NewDir w.next_mount 1 1 false ∷ []
mount_mem_edits w _ = []

abbrev pub mount_null_edits : World → Found → Found → List Edit
mount_null_edits w (found.At layer) (found.At on) = add_edit w (mount.Null layer) on ∷ []
mount_null_edits w _ _ = []

abbrev pub mount_union_edits : World → Found → Found → List Edit
mount_union_edits w (found.At up) (found.At on) = (let a = node_id w up in add_edit w (mount.Union a.store a.ino on) on) ∷ []
mount_union_edits w _ _ = []

abbrev pub umount_edits : Found → List Edit
umount_edits (found.Mount m) = DropMount m ∷ []
umount_edits _ = []

-- a forced unmount ends with the mount that its caller is leaving
abbrev pub umount_force_edits : Option ℕ → List Edit
umount_force_edits (Some m) = DropMount m ∷ []
umount_force_edits None = []

-- the edits of a call that is done, by what its paths found. All calls that aren't listed have none.
abbrev pub call_edits : World → ℕ → Call → Found → Found → List Edit
call_edits w c (call.Mkdir p) a b = mkdir_edits w a
call_edits w c (call.Rmdir p) a b = remove_edits w a
call_edits w c (call.Open p f) a b = open_edits w a
call_edits w c (call.Unlink p) a b = remove_edits w a
call_edits w c (call.Rename p q) a b = rename_found w a b
call_edits w c (call.Link p q) a b = link_edits w a b
call_edits w c (call.Symlink t p) a b = symlink_edits w t a
call_edits w c (call.Undelete p) a b = undelete_edits w a
call_edits w c (call.MountMem p) a b = mount_mem_edits w a
call_edits w c (call.MountNull t p) a b = mount_null_edits w a b
call_edits w c (call.MountUnion u p) a b = mount_union_edits w a b
call_edits w c (call.Umount p) a b = umount_edits a
call_edits w c (call.UmountForce p) a b = umount_force_edits (get w.leaving c)
call_edits w c _ a b = []

-- a copy of a file, or of a link with its target
abbrev pub copy_as : ℕ → ℕ → Option (List ℕ) → Edit
copy_as s i (Some text) = NewLink s i text
copy_as s i None = NewFile s i

-- a copy of what the lower layer has
abbrev pub copy_edit : World → ℕ → Child → ℕ → Edit
copy_edit w s (child.At q) i = copy_as s i (target_of (facts_of w) q)
copy_edit w s child.Absent i = NewFile s i
copy_edit w s (child.Need x) i = NewFile s i

abbrev pub inner_edits : World → Inner → List Edit
inner_edits w (inner.Shadow m u n) = let s = upper_store w m in make_edits w (record { store = s; ino = u }) n (λ i. NewDir s i u false)
inner_edits w (inner.CopyUp m u n) =
    let s = upper_store w m in let f = facts_of w in
    make_edits w (record { store = s; ino = u }) n (copy_edit w s (child_below (child_of f) (low f m u) n))
inner_edits w (inner.Detach m) = Detach m ∷ []
inner_edits w (inner.Doom at) = []

-- whether a call failed
abbrev pub is_fail : Reply → Bool
is_fail (reply.Fail e) = true
is_fail _ = false

-- the edits of an entry in the world before it: a call that failed has none
abbrev pub edits_of : World → Entry → List Edit
edits_of w (entry.Call c call r) = if is_fail r then [] else call_edits w c call (first_found w c call) (second_found w c call)
edits_of w (entry.Inner c x) = inner_edits w x

-- the edits of the entries of a history from a world on, in their order
abbrev pub edits : World → List Entry → List Edit
edits w [] = []
edits w (e ∷ es) = edits_of w e ++ edits (after w e) es
