-- What look-ups of the nodes tell of what contracts see, and the edits of files.
use Rattle.std.proofs.Common.{◌≡◌, ℕ, ◌+◌, ◌-◌, Bool, true, false, cond, List, [], ◌∷◌, ◌++◌, length-append, length, take, drop, refl, ap, sym, ◌∙◌, arith}
use Rattle.std.specs.Prelude.{Option, Some, None, option_map, option_and_then, ◌^◌, min, max, ◌↔◌, IsSome, is_some}
use Rattle.std.specs.List.{filter_map}
use Rattle.std.specs.Ordering.{nat_cmp, eq_by_cmp, is_eq}
use Rattle.std.specs.FinMap.{FinMap, get, insert, remove, empty, entries, get-insert, get-remove, same_map}
use Rattle.std.specs.Cmp.{nat_cmp_total}
use Rattle.std.proofs.lemmas.Cmp.{tied_itself}
use Rattle.std.proofs.lemmas.Grind.{common_steps}
use Rattle.std.proofs.lemmas.Map.Lookups.{exact_unsigned}
use Rattle.finite_maps.proofs.EntryLaws.{entries-empty, insert_same}
use Rattle.mem_dir.specs.Directory.{white_name, white_names}
use Rattle.vfs_tree.specs.Name.{name_cmp}
use Rattle.vfs_tree.specs.Nodes.{entry_in}
use Rattle.vfs_tree.specs.StoreEdits.{entry_of}
use Rattle.vfs_tree.specs.Views.{kind_of_node}
use Rattle.vfs_tree.specs.declared.node.Kind.TheVariants as kind
use Rattle.vfs_tree.specs.Visible.{given_name, given_names, names_in}
use Rattle.vfs_tree.specs.Bytes.{resize_bytes, write_bytes}
use Rattle.vfs_tree.specs.FileEdits.{with_bytes}
use Rattle.vfs_tree.specs.declared.node.Node.{Node}
use Rattle.vfs_tree.specs.declared.node.NameEntry.{NameEntry}
use Rattle.mem_fs.specs.declared.inode.Content.{Content}
use Rattle.mem_fs.specs.declared.inode.Content.TheVariants as held
use Rattle.mem_fs.specs.declared.inode.Inode.{Inode}
use Rattle.mem_fs.specs.Contents.{shown, reads_of, reserved_of, name_of, cleared_in, counted_in, written_in, cut_in, reserved_to}
use Rattle.mem_fs.specs.Inodes.{Inodes, name_count, edited, kept, node_of, nodes_of, reads_at, reserved_at, with_content, cleared_at, given_lost}
use Rattle.mem_fs.specs.FileSystem.{FileSystem, seen, without}
use Rattle.vfs_tree.specs.Counts.{times}
use Rattle.mem_fs.specs.Named.{parent_in}
use Rattle.mem_fs.specs.Invariant.{IsKept}
use Rattle.mem_fs.proofs.Kept.{get-edited, get-kept, kept-edited, kept-same, kept-remove}
use Rattle.mem_fs.proofs.Seen.{get-nodes, nodes-edited, shows-write, shows-cut, entry_seen, seen-lost}
use Rattle.vfs_tree.proofs.CountLaws.{times_bytes}
use Rattle.mem_fs.proofs.KeptLaws.{kept-quiet}

-- a node
pub looked : (m : Inodes) (next : ℕ) (v : FileSystem) (i : ℕ) (o : Option Inode) → seen m next ≡ v → o ≡ get m i → get v.store.nodes i ≡ option_map node_of o
looked m next v i o is at = ap (λ (x : FileSystem). get x.store.nodes i) (sym is) ∙ get-nodes m i ∙ ap (option_map node_of) (sym at)

pub looked_reads : (m : Inodes) (next : ℕ) (v : FileSystem) (i : ℕ) (o : Option Inode) → seen m next ≡ v → o ≡ get m i → get v.reads i ≡ option_and_then (λ (x : Inode). reads_of x.content) o
looked_reads m next v i o is at =
    ap (λ (x : FileSystem). get x.reads i) (sym is) ∙ get-kept (λ (x : Inode). reads_of x.content) m i ∙ ap (option_and_then (λ (x : Inode). reads_of x.content)) (sym at)

pub looked_reserved : (m : Inodes) (next : ℕ) (v : FileSystem) (i : ℕ) (o : Option Inode) → seen m next ≡ v → o ≡ get m i → get v.reserved i ≡ option_and_then (λ (x : Inode). reserved_of x.content) o
looked_reserved m next v i o is at =
    ap (λ (x : FileSystem). get x.reserved i) (sym is) ∙ get-kept (λ (x : Inode). reserved_of x.content) m i ∙ ap (option_and_then (λ (x : Inode). reserved_of x.content)) (sym at)

-- a regular file alone has room
room_of : (c : Content) → IsSome (reserved_of c) ↔ (Some (kind_of_node (shown c)) ≡ Some kind.File)
room_of (held.Dir parent opaque name names) = (λ h. cc, λ h. cc)
room_of (held.File bytes) = (λ h. refl, λ h. refl)
room_of (held.Link target) = (λ h. cc, λ h. cc)

room_where : (o : Option Inode) → IsSome (option_and_then (λ (x : Inode). reserved_of x.content) o) ↔ (option_map kind_of_node (option_map node_of o) ≡ Some kind.File)
room_where (Some x) = room_of x.content
room_where None = (λ h. cc, λ h. cc)

pub room_seen : (m : Inodes) (next : ℕ) (v : FileSystem) (i : ℕ) → seen m next ≡ v → IsSome (get v.reserved i) ↔ (option_map kind_of_node (get v.store.nodes i) ≡ Some kind.File)
room_seen m next v i is = rw (looked_reserved m next v i (get m i) is refl, looked m next v i (get m i) is refl) (room_where (get m i))

-- nothing is read of nothing
pub no_bytes : (s : List ℕ) (most at : ℕ) → s ≡ s ++ take most (drop at [])
no_bytes s most at = grind (arith, common_steps)

pub no_length : (s most at : ℕ) → s ≡ s - length (take {A = ℕ} most (drop at []))
no_length s most at = grind (arith, common_steps)

pub no_given : given_names empty ≡ []
no_given = ap (filter_map given_name) (entries-empty name_cmp)

pub no_white : white_names empty ≡ []
no_white = ap (filter_map white_name) (entries-empty name_cmp)

-- ---- what was lent and left as it was

pub left_same : (m n : Inodes) (k : ℕ) (v w : Inode) → Some v ≡ get m k → (IsSome (get m k) → n ≡ insert m k w) → w ≡ v → n ≡ m
left_same m n k v w was put same =
    put (ap is_some (sym was)) ∙ insert_same nat_cmp_total exact_unsigned m k w (sym was ∙ ap Some (sym same))

-- a node of which a name was taken away
pub left_count : (m n : Inodes) (k : ℕ) (v w : Inode) (e : List ℕ × NameEntry) → Some v ≡ get m k → (IsSome (get m k) → n ≡ insert m k w) → entries (names_in (Some (node_of v))) ≡ entries (names_in (Some (node_of w))) ++ e ∷ []
    → name_count (get m k) ≡ name_count (get n k) + 1
left_count m n k v w e was put last =
    let more = ap length last ∙ length-append (entries (names_in (Some (node_of w)))) (e ∷ []) in
    let old : name_count (get m k) ≡ name_count (Some v) = ap name_count (sym was) in
    let new : name_count (get n k) ≡ name_count (Some w) = ap (λ (x : Inodes). name_count (get x k)) (put (ap is_some (sym was)))
    ∙ ap name_count (get-insert nat_cmp_total m k w k ∙ ap (λ r. cond (is_eq r) (Some w) (get m k)) (tied_itself nat_cmp_total k)) in
    omega (arith, more, old, new)

-- ---- a counted look-up

shown_counted : (c : Content) → shown (counted_in c) ≡ shown c
shown_counted (held.Dir parent opaque name names) = refl
shown_counted (held.File bytes) = refl
shown_counted (held.Link target) = refl

reads_counted : (c : Content) → reads_of (counted_in c) ≡ option_map (λ reads. min (reads + 1) (2 ^ 64 - 1)) (reads_of c)
reads_counted (held.Dir parent opaque name names) = refl
reads_counted (held.File bytes) = refl
reads_counted (held.Link target) = refl

reserved_counted : (c : Content) → reserved_of (counted_in c) ≡ reserved_of c
reserved_counted (held.Dir parent opaque name names) = refl
reserved_counted (held.File bytes) = refl
reserved_counted (held.Link target) = refl

name_counted : (c : Content) → name_of (counted_in c) ≡ name_of c
name_counted (held.Dir parent opaque name names) = refl
name_counted (held.File bytes) = refl
name_counted (held.Link target) = refl

-- an edit that the store does not show
pub unshown : (g : Content → Content) → ((c : Content) → shown (g c) ≡ shown c) → (m n : Inodes) (next k : ℕ) (v : FileSystem) → seen m next ≡ v → n ≡ edited (with_content g) m k → (seen n next).store ≡ v.store
unshown g u m n next k v is put =
    ap (λ (x : Inodes). (seen x next).store) put
    ∙ ap (λ (x : FinMap nat_cmp Node). record { nodes = x; next = next }) (kept-same (λ (x : Inode). Some (node_of x)) (with_content g) m k (λ x. ap Some (u x.content)))
    ∙ ap (λ (x : FileSystem). x.store) is

pub kept-unshown : (g : Content → Content) → ((c : Content) → shown (g c) ≡ shown c) → ((c : Content) → name_of (g c) ≡ name_of c) → (m n : Inodes) (next k : ℕ) → IsKept m next → n ≡ edited (with_content g) m k → IsKept n next
kept-unshown g u names m n next k kept put = kept-quiet g m n next k (λ name c. ap (λ x. entry_in name (Some x)) (u c)) (λ c. ap (λ x. parent_in (Some x)) (u c)) names
    (λ i. ap (λ x. times x i) (kept-same (λ (x : Inode). Some (node_of x)) (with_content g) m k (λ x. ap Some (u x.content)))) kept put

pub find_store : (m n : Inodes) (next k : ℕ) (v : FileSystem) → seen m next ≡ v → n ≡ edited (with_content counted_in) m k → (seen n next).store ≡ v.store
find_store = unshown counted_in shown_counted

pub find_kept : (m n : Inodes) (next k : ℕ) → IsKept m next → n ≡ edited (with_content counted_in) m k → IsKept n next
find_kept = kept-unshown counted_in shown_counted name_counted

pub find_reads : (m n : Inodes) (next k : ℕ) (v : FileSystem) → seen m next ≡ v → n ≡ edited (with_content counted_in) m k → reads_at n ≡ edited (λ reads. min (reads + 1) (2 ^ 64 - 1)) v.reads k
find_reads m n next k v is put =
    ap reads_at put ∙ kept-edited (λ (x : Inode). reads_of x.content) (with_content counted_in) (λ reads. min (reads + 1) (2 ^ 64 - 1)) m k (λ x. reads_counted x.content)
    ∙ ap (λ (x : FileSystem). edited (λ reads. min (reads + 1) (2 ^ 64 - 1)) x.reads k) is

pub find_reserved : (m n : Inodes) (next k : ℕ) (v : FileSystem) → seen m next ≡ v → n ≡ edited (with_content counted_in) m k → reserved_at n ≡ v.reserved
find_reserved m n next k v is put =
    ap reserved_at put ∙ kept-same (λ (x : Inode). reserved_of x.content) (with_content counted_in) m k (λ x. reserved_counted x.content) ∙ ap (λ (x : FileSystem). x.reserved) is

pub find_found : (m : Inodes) (next d : ℕ) (n : List ℕ) (v : FileSystem) → seen m next ≡ v → entry_in n (option_map node_of (get m d)) ≡ entry_of v.store d n
find_found m next d n v is = entry_seen m next d n ∙ ap (λ (x : FileSystem). entry_of x.store d n) is

-- ---- room in a file

shown_reserved : (len : ℕ) (c : Content) → shown (reserved_to len c) ≡ shown c
shown_reserved len (held.Dir parent opaque name names) = refl
shown_reserved len (held.File bytes) = refl
shown_reserved len (held.Link target) = refl

reads_reserved : (len : ℕ) (c : Content) → reads_of (reserved_to len c) ≡ reads_of c
reads_reserved len (held.Dir parent opaque name names) = refl
reads_reserved len (held.File bytes) = refl
reads_reserved len (held.Link target) = refl

room_reserved : (len : ℕ) (c : Content) → reserved_of (reserved_to len c) ≡ option_map (λ room. max room len) (reserved_of c)
room_reserved len (held.Dir parent opaque name names) = refl
room_reserved len (held.File bytes) = refl
room_reserved len (held.Link target) = refl

name_reserved : (len : ℕ) (c : Content) → name_of (reserved_to len c) ≡ name_of c
name_reserved len (held.Dir parent opaque name names) = refl
name_reserved len (held.File bytes) = refl
name_reserved len (held.Link target) = refl

pub room_store : (len : ℕ) (m n : Inodes) (next k : ℕ) (v : FileSystem) → seen m next ≡ v → n ≡ edited (with_content (reserved_to len)) m k → (seen n next).store ≡ v.store
room_store len = unshown (reserved_to len) (shown_reserved len)

pub room_kept : (len : ℕ) (m n : Inodes) (next k : ℕ) → IsKept m next → n ≡ edited (with_content (reserved_to len)) m k → IsKept n next
room_kept len = kept-unshown (reserved_to len) (shown_reserved len) (name_reserved len)

pub room_reads : (len : ℕ) (m n : Inodes) (next k : ℕ) (v : FileSystem) → seen m next ≡ v → n ≡ edited (with_content (reserved_to len)) m k → reads_at n ≡ v.reads
room_reads len m n next k v is put =
    ap reads_at put ∙ kept-same (λ (x : Inode). reads_of x.content) (with_content (reserved_to len)) m k (λ x. reads_reserved len x.content) ∙ ap (λ (x : FileSystem). x.reads) is

pub room_room : (len : ℕ) (m n : Inodes) (next k : ℕ) (v : FileSystem) → seen m next ≡ v → n ≡ edited (with_content (reserved_to len)) m k → reserved_at n ≡ edited (λ room. max room len) v.reserved k
room_room len m n next k v is put =
    ap reserved_at put ∙ kept-edited (λ (x : Inode). reserved_of x.content) (with_content (reserved_to len)) (λ room. max room len) m k (λ x. room_reserved len x.content)
    ∙ ap (λ (x : FileSystem). edited (λ room. max room len) x.reserved k) is

-- ---- bytes of a file

entry_written : (at : ℕ) (piece n : List ℕ) (c : Content) → entry_in n (Some (shown (written_in at piece c))) ≡ entry_in n (Some (shown c))
entry_written at piece n (held.Dir parent opaque name names) = refl
entry_written at piece n (held.File bytes) = refl
entry_written at piece n (held.Link target) = refl

entry_cut : (len : ℕ) (n : List ℕ) (c : Content) → entry_in n (Some (shown (cut_in len c))) ≡ entry_in n (Some (shown c))
entry_cut len n (held.Dir parent opaque name names) = refl
entry_cut len n (held.File bytes) = refl
entry_cut len n (held.Link target) = refl

parent_written : (at : ℕ) (piece : List ℕ) (c : Content) → parent_in (Some (shown (written_in at piece c))) ≡ parent_in (Some (shown c))
parent_written at piece (held.Dir parent opaque name names) = refl
parent_written at piece (held.File bytes) = refl
parent_written at piece (held.Link target) = refl

name_written : (at : ℕ) (piece : List ℕ) (c : Content) → name_of (written_in at piece c) ≡ name_of c
name_written at piece (held.Dir parent opaque name names) = refl
name_written at piece (held.File bytes) = refl
name_written at piece (held.Link target) = refl

parent_cut : (len : ℕ) (c : Content) → parent_in (Some (shown (cut_in len c))) ≡ parent_in (Some (shown c))
parent_cut len (held.Dir parent opaque name names) = refl
parent_cut len (held.File bytes) = refl
parent_cut len (held.Link target) = refl

name_cut : (len : ℕ) (c : Content) → name_of (cut_in len c) ≡ name_of c
name_cut len (held.Dir parent opaque name names) = refl
name_cut len (held.File bytes) = refl
name_cut len (held.Link target) = refl

pub kept-written : (at : ℕ) (piece : List ℕ) (m n : Inodes) (next k : ℕ) → IsKept m next → n ≡ edited (with_content (written_in at piece)) m k → IsKept n next
kept-written at piece m n next k = kept-quiet (written_in at piece) m n next k (entry_written at piece) (parent_written at piece) (name_written at piece)
    (λ i. ap (λ x. times x i) (nodes-edited (with_content (written_in at piece)) (with_bytes (λ old. write_bytes old at piece)) m k ((shows-write at piece).node)) ∙ times_bytes (λ old. write_bytes old at piece) (nodes_of m) k i)

pub kept-cut : (len : ℕ) (m n : Inodes) (next k : ℕ) → IsKept m next → n ≡ edited (with_content (cut_in len)) m k → IsKept n next
kept-cut len m n next k = kept-quiet (cut_in len) m n next k (entry_cut len) (parent_cut len) (name_cut len)
    (λ i. ap (λ x. times x i) (nodes-edited (with_content (cut_in len)) (with_bytes (λ old. resize_bytes old len)) m k ((shows-cut len).node)) ∙ times_bytes (λ old. resize_bytes old len) (nodes_of m) k i)

-- ---- a node that is forgotten

-- a change of a node that goes is not seen
remove_edited : (g : Inode → Inode) (m : Inodes) (k : ℕ) → remove (edited g m k) k ≡ remove m k
remove_edited g m k = same_map nat_cmp_total exact_unsigned _ _ (λ q.
    get-remove nat_cmp_total (edited g m k) k q ∙ ap (cond (eq_by_cmp nat_cmp q k) None) (get-edited g m k q) ∙ by_case (eq_by_cmp nat_cmp q k) (get m q) ∙ sym (get-remove nat_cmp_total m k q))
  where
    by_case : (b : Bool) (o : Option Inode) → cond b None (cond b (option_map g o) o) ≡ cond b None o
    by_case true o = refl
    by_case false o = refl

rest_seen : (m : Inodes) (next k : ℕ) → seen (remove m k) next ≡ without (seen m next) k
rest_seen m next k = λ i. record {
  store = record { nodes = kept-remove (λ (x : Inode). Some (node_of x)) m k i; next = next };
  reads = kept-remove (λ (x : Inode). reads_of x.content) m k i;
  reserved = kept-remove (λ (x : Inode). reserved_of x.content) m k i;
}

-- a name of it that is taken away is not seen either
pub rest-lost : (m n p : Inodes) (next k : ℕ) (name : List ℕ) (e : NameEntry) → n ≡ cleared_at m k name → p ≡ given_lost n e → without (seen p next) k ≡ without (seen m next) k
rest-lost m n p next k name e cleared is =
    ap (λ (x : Inodes). without (seen x next) k) is ∙ ap (λ (x : FileSystem). without x k) (seen-lost n next e)
    ∙ ap (λ (x : Inodes). without (seen x next) k) cleared ∙ sym (rest_seen (cleared_at m k name) next k)
    ∙ ap (λ (x : Inodes). seen x next) (remove_edited (with_content (cleared_in name)) m k) ∙ rest_seen m next k

pub seen-forgotten : (m n : Inodes) (next k : ℕ) (v : FileSystem) → without (seen m next) k ≡ without v k → n ≡ remove m k → seen n next ≡ without v k
seen-forgotten m n next k v is gone =
    ap (λ (x : Inodes). seen x next) gone ∙ rest_seen m next k ∙ is
