-- Room that edits leave.
use Rattle.std.proofs.Common.{◌≡◌, ℕ, ◌<◌, Bool, true, false, cond, List, refl, ap, sym, ◌∙◌, subst, arith}
use Rattle.std.specs.Prelude.{Option, Some, None, option_map, is_some, IfSome, option_and_then, ◌≤◌, if◌then◌else◌, ◌-◌}
use Rattle.std.specs.Ordering.{nat_cmp, eq_by_cmp}
use Rattle.std.specs.Cmp.{nat_cmp_total}
use Rattle.std.specs.FinMap.{get, insert, get-insert}
use Rattle.vfs_tree.specs.Nodes.{entry_in, is_given, is_dir_node}
use Rattle.vfs_tree.specs.declared.node.NameEntry.{NameEntry}
use Rattle.vfs_tree.specs.declared.node.NameEntry.TheVariants.{Ino, White}
use Rattle.mem_fs.specs.declared.inode.Content.{Content}
use Rattle.mem_fs.specs.declared.inode.Content.TheVariants as held
use Rattle.mem_fs.specs.declared.inode.Inode.{Inode}
use Rattle.mem_fs.specs.Contents.{shown, reserved_of, HasRoom, IsRoomy, HasRoomTo, put_in, cleared_in, made_ready, bared}
use Rattle.mem_fs.specs.Inodes.{Inodes, edited, kept, node_of, store_of, with_content, let_go, gained, put_at, given_gone, dropped_at}
use Rattle.mem_fs.specs.FileSystem.{FileSystem, seen, GivesBare}
use Rattle.mem_fs.specs.Rooms.{HasRoomAt, IsRoomyAt, HasRoomToAt}
use Rattle.mem_fs.specs.Invariant.{IsKept}
use Rattle.mem_fs.proofs.Kept.{same_number, get-edited, get-kept}
use Rattle.mem_fs.proofs.Seen.{get-nodes, entry_seen}

has_room : (n : List ℕ) (c : Content) → IsRoomy c → HasRoom n c
has_room n (held.Dir parent opaque name names) h = λ _. h
has_room n (held.File bytes) h = tt
has_room n (held.Link target) h = tt

pub has_room_at : (n : List ℕ) (o : Option Inode) → IsRoomyAt o → HasRoomAt n o
has_room_at n (Some x) h = has_room n x.content h
has_room_at n None h = tt

by_case : (g : Inode → Inode) → ((x : Inode) → IsRoomy x.content → IsRoomy (g x).content) → (b : Bool) (o : Option Inode) → IsRoomyAt o → IsRoomyAt (cond b (option_map g o) o)
by_case g e true (Some x) h = e x h
by_case g e true None h = tt
by_case g e false o h = h

pub roomy_edited : (g : Inode → Inode) → ((x : Inode) → IsRoomy x.content → IsRoomy (g x).content) → (m : Inodes) (k q : ℕ) → IsRoomyAt (get m q) → IsRoomyAt (get (edited g m k) q)
roomy_edited g e m k q h = subst IsRoomyAt (sym (get-edited g m k q)) (by_case g e (eq_by_cmp nat_cmp q k) (get m q) h)

roomy_bared : (c : Content) → IsRoomy c → IsRoomy (bared c)
roomy_bared (held.Dir parent opaque name names) h = h
roomy_bared (held.File bytes) h = tt
roomy_bared (held.Link target) h = tt

roomy_cleared : (n : List ℕ) (c : Content) → IsRoomy c → IsRoomy (cleared_in n c)
roomy_cleared n (held.Dir parent opaque name names) h = h
roomy_cleared n (held.File bytes) h = tt
roomy_cleared n (held.Link target) h = tt

roomy_ready : (c : Content) → IsRoomy (made_ready c)
roomy_ready (held.Dir parent opaque name names) = omega arith
roomy_ready (held.File bytes) = tt
roomy_ready (held.Link target) = tt

ready_case : (q k : ℕ) (b : Bool) (o : Option Inode) → b ≡ true → IsRoomyAt (cond b (option_map (with_content made_ready) o) o)
ready_case q k true (Some x) e = roomy_ready x.content
ready_case q k true None e = tt
ready_case q k false o e = absurd (let clash : false ≡ true = e in cc)

pub roomy_made : (m : Inodes) (d : ℕ) → eq_by_cmp nat_cmp d d ≡ true → IsRoomyAt (get (edited (with_content made_ready) m d) d)
roomy_made m d tied = subst IsRoomyAt (sym (get-edited (with_content made_ready) m d d)) (ready_case d d (eq_by_cmp nat_cmp d d) (get m d) tied)

pub roomy_kept : (m : Inodes) (d q : ℕ) → IsRoomyAt (get m q) → IsRoomyAt (get (edited (with_content made_ready) m d) q)
roomy_kept m d q = roomy_edited (with_content made_ready) (λ x _. roomy_ready x.content) m d q

pub roomy_gone : (m : Inodes) (g : Option NameEntry) (q : ℕ) → IsRoomyAt (get m q) → IsRoomyAt (get (given_gone m g) q)
roomy_gone m (Some (Ino i)) q h = roomy_edited let_go (λ x. roomy_bared x.content) m i q h
roomy_gone m (Some White) q h = h
roomy_gone m None q h = h

pub roomy_gained : (m : Inodes) (i q : ℕ) → IsRoomyAt (get m q) → IsRoomyAt (get (edited gained m i) q)
roomy_gained m i q h = roomy_edited gained (λ x h. h) m i q h

-- ---- a name that is put where it was

roomy_put : (n : List ℕ) (e : NameEntry) (c : Content) → is_some (entry_in n (Some (shown c))) ≡ true → IsRoomy c → IsRoomy (put_in n e c)
roomy_put n e (held.Dir parent opaque name names) there h = subst (λ b. 0 < (if b then names.spare else names.spare - 1)) (sym there) h
roomy_put n e (held.File bytes) there h = tt
roomy_put n e (held.Link target) there h = tt

put_case : (n : List ℕ) (e : NameEntry) (b : Bool) (o : Option Inode) → (b ≡ true → is_some (entry_in n (option_map node_of o)) ≡ true) → IsRoomyAt o → IsRoomyAt (cond b (option_map (with_content (put_in n e)) o) o)
put_case n e true (Some x) there h = roomy_put n e x.content (there refl) h
put_case n e true None there h = tt
put_case n e false o there h = h

roomy_white : (m : Inodes) (d q : ℕ) (n : List ℕ) → is_some (entry_in n (option_map node_of (get m d))) ≡ true → IsRoomyAt (get m q) → IsRoomyAt (get (put_at m d n White) q)
roomy_white m d q n there h = subst IsRoomyAt (sym (get-edited (with_content (put_in n White)) m d q))
    (put_case n White (eq_by_cmp nat_cmp q d) (get m q) (λ e. subst (λ k. is_some (entry_in n (option_map node_of (get m k))) ≡ true) (sym (same_number q d e)) there) h)

pub roomy_dropped : (w : Bool) (m : Inodes) (d q : ℕ) (n : List ℕ) → is_some (entry_in n (option_map node_of (get m d))) ≡ true → IsRoomyAt (get m q) → IsRoomyAt (get (dropped_at w m d n) q)
roomy_dropped true m d q n there h = roomy_white m d q n there h
roomy_dropped false m d q n there h = roomy_edited (with_content (cleared_in n)) (λ x. roomy_cleared n x.content) m d q h

given_some : (e : Option NameEntry) → is_given e ≡ true → is_some e ≡ true
given_some (Some (Ino i)) h = refl
given_some (Some White) h = refl
given_some None h = h

other : (m : Inodes) (j d : ℕ) (n : List ℕ) → is_given (entry_in n (option_map node_of (get m d))) ≡ true → is_given (entry_in n (option_map node_of (get m j))) ≡ false
    → (b : Bool) → eq_by_cmp nat_cmp d j ≡ b → entry_in n (option_map node_of (cond b (option_map let_go (get m d)) (get m d))) ≡ entry_in n (option_map node_of (get m d))
other m j d n given bare true e =
    let clash : is_given (entry_in n (option_map node_of (get m d))) ≡ false = ap (λ k. is_given (entry_in n (option_map node_of (get m k)))) (same_number d j e) ∙ bare in
    cc
other m j d n given bare false e = refl

-- a name that gives a node stays where a directory without such names is emptied
pub there_gone : (m : Inodes) (next : ℕ) (g : Option NameEntry) (d : ℕ) (n : List ℕ) → GivesBare (store_of m next) g → is_given (entry_in n (option_map node_of (get m d))) ≡ true
    → is_some (entry_in n (option_map node_of (get (given_gone m g) d))) ≡ true
there_gone m next (Some (Ino j)) d n bare given =
    ap is_some (ap (λ o. entry_in n (option_map node_of o)) (get-edited let_go m j d) ∙ other m j d n given (ap is_given (entry_seen m next j n) ∙ bare n) (eq_by_cmp nat_cmp d j) refl)
    ∙ given_some _ given
there_gone m next (Some White) d n bare given = given_some _ given
there_gone m next None d n bare given = given_some _ given

-- ---- a new node elsewhere

apart_at : (m : Inodes) (k : ℕ) (x : Inode) (d : ℕ) → d < k → (b : Bool) → eq_by_cmp nat_cmp d k ≡ b → cond b (Some x) (get m d) ≡ get m d
apart_at m k x d less true e = absurd (let same : d ≡ k = same_number d k e in omega (arith, same))
apart_at m k x d less false e = refl

pub get_other : (m : Inodes) (k : ℕ) (x : Inode) (d : ℕ) → d < k → get (insert m k x) d ≡ get m d
get_other m k x d less = get-insert nat_cmp_total m k x d ∙ apart_at m k x d less (eq_by_cmp nat_cmp d k) refl

dir_there : (o : Option Inode) → is_dir_node (option_map node_of o) ≡ true → is_some o ≡ true
dir_there (Some x) h = refl
dir_there None h = h

-- a directory has a number below the next one
pub dir_below : (m : Inodes) (next d : ℕ) (v : FileSystem) → seen m next ≡ v → IsKept m next → is_dir_node (get v.store.nodes d) ≡ true → d < next
dir_below m next d v is kept dir =
    kept.below d (dir_there (get m d) (ap is_dir_node (sym (get-nodes m d)) ∙ ap (λ (x : FileSystem). is_dir_node (get x.store.nodes d)) is ∙ dir))

-- ---- room in files

abbrev option_reserved : Option Inode → Option ℕ
option_reserved o = option_and_then (λ (x : Inode). reserved_of x.content) o

abbrev IfRoom : ℕ → Option ℕ → Type 0
IfRoom len room = IfSome room (λ r. len ≤ r)

to_case : (len : ℕ) (o : Option Inode) (room : Option ℕ) → room ≡ option_reserved o → IfRoom len room → HasRoomToAt len o
to_case len (Some x) room is h = in_content x.content (subst (IfRoom len) is h)
  where
    in_content : (c : Content) → IfRoom len (reserved_of c) → HasRoomTo len c
    in_content (held.Dir parent opaque name names) h = tt
    in_content (held.File bytes) h = h
    in_content (held.Link target) h = tt
to_case len None room is h = tt

pub has_room_to : (m : Inodes) (next i len : ℕ) (v : FileSystem) → seen m next ≡ v → IfSome (get v.reserved i) (λ r. len ≤ r) → HasRoomToAt len (get m i)
has_room_to m next i len v is h =
    to_case len (get m i) (get v.reserved i) (ap (λ (x : FileSystem). get x.reserved i) (sym is) ∙ get-kept (λ (x : Inode). reserved_of x.content) m i) h
