-- What contracts see of the nodes, after edits of the nodes.
use Rattle.std.proofs.Common.{◌≡◌, ℕ, Bool, true, false, cond, List, refl, ap, sym, ◌∙◌, arith}
use Rattle.std.specs.Prelude.{Option, Some, None, option_map, option_and_then, ◌+◌, ◌||◌, is_some}
use Rattle.std.specs.Ordering.{nat_cmp, eq_by_cmp}
use Rattle.std.specs.FinMap.{FinMap, get, insert, remove, empty}
use Rattle.vfs_tree.specs.Nodes.{is_white, entry_in}
use Rattle.vfs_tree.specs.Edits.{with_names, with_node, with_entry, made}
use Rattle.vfs_tree.specs.StoreEdits.{entry_of, set_entry, emptied, drop_entry, removed, moved, renamed_to, renamed}
use Rattle.vfs_tree.specs.Bytes.{resize_bytes, write_bytes}
use Rattle.vfs_tree.specs.FileEdits.{with_bytes}
use Rattle.vfs_tree.specs.declared.node.Node.{Node}
use Rattle.vfs_tree.specs.declared.node.NameEntry.{NameEntry}
use Rattle.vfs_tree.specs.declared.node.NameEntry.TheVariants.{Ino, White}
use Rattle.mem_fs.specs.declared.inode.Content.{Content}
use Rattle.mem_fs.specs.declared.inode.Content.TheVariants as held
use Rattle.mem_fs.specs.declared.inode.Inode.{Inode}
use Rattle.mem_fs.specs.Contents.{shown, reads_of, reserved_of, name_of, put_in, cleared_in, made_ready, bared, nameless, placed, written_in, cut_in}
use Rattle.mem_fs.specs.Inodes.{Inodes, with_value, edited, with_new, kept, node_of, nodes_of, store_of, links_of, own_name, with_content, let_go, lost, gained, put_at, given_lost, given_gone, dropped_at, given_to}
use Rattle.mem_fs.specs.FileSystem.{FileSystem, seen, with_store, with_edit}
use Rattle.vfs_tree.specs.Counts.{times}
use Rattle.mem_fs.specs.Named.{parent_in}
use Rattle.mem_fs.specs.Invariant.{IsKept, IsLike}
use Rattle.mem_fs.proofs.Kept.{get-edited, get-kept, kept-edited, kept-same, kept-insert}

-- ---- look-ups

some_of : (o : Option Inode) → option_and_then (λ (x : Inode). Some (node_of x)) o ≡ option_map node_of o
some_of (Some x) = refl
some_of None = refl

-- a node of the store
pub get-nodes : (m : Inodes) (q : ℕ) → get (nodes_of m) q ≡ option_map node_of (get m q)
get-nodes m q = get-kept (λ (x : Inode). Some (node_of x)) m q ∙ some_of (get m q)

-- ---- edits that only the store shows

as_node : (h : Node → Node) (m : FinMap nat_cmp Node) (k : ℕ) (o : Option Node) → with_value h m k o ≡ with_node h m k o
as_node h m k (Some x) = refl
as_node h m k None = refl

-- an edit of a node as contracts see it
pub record Shows (g : Inode → Inode) (h : Node → Node) : Type 0 where
  pub node : (x : Inode) → node_of (g x) ≡ h (node_of x)
  pub reads : (x : Inode) → reads_of (g x).content ≡ reads_of x.content
  pub reserved : (x : Inode) → reserved_of (g x).content ≡ reserved_of x.content

pub nodes-edited : (g : Inode → Inode) (h : Node → Node) (m : Inodes) (k : ℕ) → ((x : Inode) → node_of (g x) ≡ h (node_of x)) → nodes_of (edited g m k) ≡ with_node h (nodes_of m) k (get (nodes_of m) k)
nodes-edited g h m k e = kept-edited (λ (x : Inode). Some (node_of x)) g h m k (λ x. ap Some (e x)) ∙ as_node h (nodes_of m) k (get (nodes_of m) k)

build : (next : ℕ) (n p : FinMap nat_cmp Node) (r s t u : FinMap nat_cmp ℕ) → n ≡ p → r ≡ s → t ≡ u
    → ◌≡◌ {A = FileSystem} (record { store = record { nodes = n; next = next }; reads = r; reserved = t }) (record { store = record { nodes = p; next = next }; reads = s; reserved = u })
build next n p r s t u a b c = λ i. record { store = record { nodes = a i; next = next }; reads = b i; reserved = c i }

pub seen-edited : (g : Inode → Inode) (h : Node → Node) → Shows g h → (m : Inodes) (next k : ℕ) → seen (edited g m k) next ≡ with_edit h (seen m next) k
seen-edited g h s m next k = build next _ _ _ _ _ _ (nodes-edited g h m k s.node)
    (kept-same (λ (x : Inode). reads_of x.content) g m k s.reads) (kept-same (λ (x : Inode). reserved_of x.content) g m k s.reserved)

-- an edit of what a node holds
content_shows : (g : Content → Content) (h : Node → Node) → ((c : Content) → shown (g c) ≡ h (shown c)) → ((c : Content) → reads_of (g c) ≡ reads_of c) → ((c : Content) → reserved_of (g c) ≡ reserved_of c) → Shows (with_content g) h
content_shows g h n r s = record { node = λ x. n x.content; reads = λ x. r x.content; reserved = λ x. s x.content }

pub shows-put : (n : List ℕ) (e : NameEntry) → Shows (with_content (put_in n e)) (with_names (λ names. insert names n e))
shows-put n e = content_shows (put_in n e) (with_names (λ names. insert names n e)) node reads reserved
  where
    node : (c : Content) → shown (put_in n e c) ≡ with_names (λ names. insert names n e) (shown c)
    node (held.Dir parent opaque name names) = refl
    node (held.File bytes) = refl
    node (held.Link target) = refl

    reads : (c : Content) → reads_of (put_in n e c) ≡ reads_of c
    reads (held.Dir parent opaque name names) = refl
    reads (held.File bytes) = refl
    reads (held.Link target) = refl

    reserved : (c : Content) → reserved_of (put_in n e c) ≡ reserved_of c
    reserved (held.Dir parent opaque name names) = refl
    reserved (held.File bytes) = refl
    reserved (held.Link target) = refl

pub shows-clear : (n : List ℕ) → Shows (with_content (cleared_in n)) (with_names (λ names. remove names n))
shows-clear n = content_shows (cleared_in n) (with_names (λ names. remove names n)) node reads reserved
  where
    node : (c : Content) → shown (cleared_in n c) ≡ with_names (λ names. remove names n) (shown c)
    node (held.Dir parent opaque name names) = refl
    node (held.File bytes) = refl
    node (held.Link target) = refl

    reads : (c : Content) → reads_of (cleared_in n c) ≡ reads_of c
    reads (held.Dir parent opaque name names) = refl
    reads (held.File bytes) = refl
    reads (held.Link target) = refl

    reserved : (c : Content) → reserved_of (cleared_in n c) ≡ reserved_of c
    reserved (held.Dir parent opaque name names) = refl
    reserved (held.File bytes) = refl
    reserved (held.Link target) = refl

bared_node : (c : Content) → shown (bared c) ≡ with_names (λ names. empty) (shown c)
bared_node (held.Dir parent opaque name names) = refl
bared_node (held.File bytes) = refl
bared_node (held.Link target) = refl

bared_reads : (c : Content) → reads_of (bared c) ≡ reads_of c
bared_reads (held.Dir parent opaque name names) = refl
bared_reads (held.File bytes) = refl
bared_reads (held.Link target) = refl

bared_reserved : (c : Content) → reserved_of (bared c) ≡ reserved_of c
bared_reserved (held.Dir parent opaque name names) = refl
bared_reserved (held.File bytes) = refl
bared_reserved (held.Link target) = refl

pub shows-let_go : Shows let_go (with_names (λ names. empty))
shows-let_go = record { node = λ x. bared_node x.content; reads = λ x. bared_reads x.content; reserved = λ x. bared_reserved x.content }

pub shown_nameless : (c : Content) → shown (nameless c) ≡ shown c
shown_nameless (held.Dir parent opaque name names) = refl
shown_nameless (held.File bytes) = refl
shown_nameless (held.Link target) = refl

reads_nameless : (c : Content) → reads_of (nameless c) ≡ reads_of c
reads_nameless (held.Dir parent opaque name names) = refl
reads_nameless (held.File bytes) = refl
reads_nameless (held.Link target) = refl

reserved_nameless : (c : Content) → reserved_of (nameless c) ≡ reserved_of c
reserved_nameless (held.Dir parent opaque name names) = refl
reserved_nameless (held.File bytes) = refl
reserved_nameless (held.Link target) = refl

pub shows-place : (to : ℕ) (own : List ℕ) (hides : Bool) → Shows (with_content (placed to own hides)) (moved to hides)
shows-place to own hides = content_shows (placed to own hides) (moved to hides) node reads reserved
  where
    node : (c : Content) → shown (placed to own hides c) ≡ moved to hides (shown c)
    node (held.Dir parent opaque name names) = refl
    node (held.File bytes) = refl
    node (held.Link target) = refl

    reads : (c : Content) → reads_of (placed to own hides c) ≡ reads_of c
    reads (held.Dir parent opaque name names) = refl
    reads (held.File bytes) = refl
    reads (held.Link target) = refl

    reserved : (c : Content) → reserved_of (placed to own hides c) ≡ reserved_of c
    reserved (held.Dir parent opaque name names) = refl
    reserved (held.File bytes) = refl
    reserved (held.Link target) = refl

pub shows-write : (at : ℕ) (piece : List ℕ) → Shows (with_content (written_in at piece)) (with_bytes (λ old. write_bytes old at piece))
shows-write at piece = content_shows (written_in at piece) (with_bytes (λ old. write_bytes old at piece)) node reads reserved
  where
    node : (c : Content) → shown (written_in at piece c) ≡ with_bytes (λ old. write_bytes old at piece) (shown c)
    node (held.Dir parent opaque name names) = refl
    node (held.File bytes) = refl
    node (held.Link target) = refl

    reads : (c : Content) → reads_of (written_in at piece c) ≡ reads_of c
    reads (held.Dir parent opaque name names) = refl
    reads (held.File bytes) = refl
    reads (held.Link target) = refl

    reserved : (c : Content) → reserved_of (written_in at piece c) ≡ reserved_of c
    reserved (held.Dir parent opaque name names) = refl
    reserved (held.File bytes) = refl
    reserved (held.Link target) = refl

pub shows-cut : (len : ℕ) → Shows (with_content (cut_in len)) (with_bytes (λ old. resize_bytes old len))
shows-cut len = content_shows (cut_in len) (with_bytes (λ old. resize_bytes old len)) node reads reserved
  where
    node : (c : Content) → shown (cut_in len c) ≡ with_bytes (λ old. resize_bytes old len) (shown c)
    node (held.Dir parent opaque name names) = refl
    node (held.File bytes) = refl
    node (held.Link target) = refl

    reads : (c : Content) → reads_of (cut_in len c) ≡ reads_of c
    reads (held.Dir parent opaque name names) = refl
    reads (held.File bytes) = refl
    reads (held.Link target) = refl

    reserved : (c : Content) → reserved_of (cut_in len c) ≡ reserved_of c
    reserved (held.Dir parent opaque name names) = refl
    reserved (held.File bytes) = refl
    reserved (held.Link target) = refl

-- ---- edits that contracts do not see

shown_ready : (c : Content) → shown (made_ready c) ≡ shown c
shown_ready (held.Dir parent opaque name names) = refl
shown_ready (held.File bytes) = refl
shown_ready (held.Link target) = refl

reads_ready : (c : Content) → reads_of (made_ready c) ≡ reads_of c
reads_ready (held.Dir parent opaque name names) = refl
reads_ready (held.File bytes) = refl
reads_ready (held.Link target) = refl

reserved_ready : (c : Content) → reserved_of (made_ready c) ≡ reserved_of c
reserved_ready (held.Dir parent opaque name names) = refl
reserved_ready (held.File bytes) = refl
reserved_ready (held.Link target) = refl

name_ready : (c : Content) → name_of (made_ready c) ≡ name_of c
name_ready (held.Dir parent opaque name names) = refl
name_ready (held.File bytes) = refl
name_ready (held.Link target) = refl

seen_same : (g : Inode → Inode) (m : Inodes) (next k : ℕ) → ((x : Inode) → node_of (g x) ≡ node_of x) → ((x : Inode) → reads_of (g x).content ≡ reads_of x.content) → ((x : Inode) → reserved_of (g x).content ≡ reserved_of x.content)
    → seen (edited g m k) next ≡ seen m next
seen_same g m next k n r s = build next _ _ _ _ _ _ (kept-same (λ (x : Inode). Some (node_of x)) g m k (λ x. ap Some (n x)))
    (kept-same (λ (x : Inode). reads_of x.content) g m k r) (kept-same (λ (x : Inode). reserved_of x.content) g m k s)

-- nodes that lose a name are seen alike
pub seen-lost : (m : Inodes) (next : ℕ) (e : NameEntry) → seen (given_lost m e) next ≡ seen m next
seen-lost m next (Ino i) = seen_same lost m next i (λ x. shown_nameless x.content) (λ x. reads_nameless x.content) (λ x. reserved_nameless x.content)
seen-lost m next White = refl

-- what a function that an edit leaves says of each node
pub look_same : {B : Type 0} (f : Option Inode → B) (g : Inode → Inode) → ((x : Inode) → f (Some (g x)) ≡ f (Some x)) → (m : Inodes) (k q : ℕ) → f (get (edited g m k) q) ≡ f (get m q)
look_same f g e m k q = ap f (get-edited g m k q) ∙ by_case (eq_by_cmp nat_cmp q k) (get m q)
  where
    by_case : (b : Bool) (o : Option Inode) → f (cond b (option_map g o) o) ≡ f o
    by_case true (Some x) = e x
    by_case true None = refl
    by_case false o = refl

-- room made for a name
pub like_ready : (m : Inodes) (d : ℕ) → IsLike m (edited (with_content made_ready) m d)
like_ready m d = record {
  there = λ i. look_same is_some (with_content made_ready) (λ x. refl) m d i;
  seen = λ next. seen_same (with_content made_ready) m next d (λ x. shown_ready x.content) (λ x. reads_ready x.content) (λ x. reserved_ready x.content);
  links = λ i. look_same links_of (with_content made_ready) (λ x. refl) m d i;
  names = λ i. look_same own_name (with_content made_ready) (λ x. name_ready x.content) m d i;
}

pub like_same : (m n : Inodes) → n ≡ m → IsLike m n
like_same m n e = record {
  there = λ i. ap (λ (x : Inodes). is_some (get x i)) e;
  seen = λ next. ap (λ (x : Inodes). seen x next) e;
  links = λ i. ap (λ (x : Inodes). links_of (get x i)) e;
  names = λ i. ap (λ (x : Inodes). own_name (get x i)) e;
}

pub like_both : (m n p : Inodes) → IsLike m n → IsLike n p → IsLike m p
like_both m n p a b = record {
  there = λ i. b.there i ∙ a.there i;
  seen = λ next. b.seen next ∙ a.seen next;
  links = λ i. b.links i ∙ a.links i;
  names = λ i. b.names i ∙ a.names i;
}

-- ---- whole edits

-- what a directory has at a name
pub entry_seen : (m : Inodes) (next d : ℕ) (n : List ℕ) → entry_in n (option_map node_of (get m d)) ≡ entry_of (store_of m next) d n
entry_seen m next d n = ap (entry_in n) (sym (get-nodes m d))

seen-gone : (m : Inodes) (next : ℕ) (g : Option NameEntry) → seen (given_gone m g) next ≡ with_store (emptied (seen m next).store g) (seen m next)
seen-gone m next (Some (Ino i)) = seen-edited let_go (with_names (λ names. empty)) shows-let_go m next i
seen-gone m next (Some White) = refl
seen-gone m next None = refl

seen-dropped : (w : Bool) (m : Inodes) (next d : ℕ) (n : List ℕ) → seen (dropped_at w m d n) next ≡ with_store (drop_entry w (seen m next).store d n) (seen m next)
seen-dropped true m next d n = seen-edited _ _ (shows-put n White) m next d
seen-dropped false m next d n = seen-edited _ _ (shows-clear n) m next d

seen-given : (m : Inodes) (next d : ℕ) (n : List ℕ) (hides : Bool) (g : Option NameEntry) → seen (given_to m d n hides g) next ≡ with_store (renamed_to (seen m next).store d n hides g) (seen m next)
seen-given m next d n hides (Some (Ino i)) =
    seen-edited _ _ (shows-place d n hides) (put_at m d n (Ino i)) next i
    ∙ ap (λ (v : FileSystem). with_edit (moved d hides) v i) (seen-edited _ _ (shows-put n (Ino i)) m next d)
seen-given m next d n hides (Some White) = refl
seen-given m next d n hides None = refl

-- a name that is removed, after nodes that are seen alike
pub seen-removed : (m n p q : Inodes) (next : ℕ) (v : FileSystem) (g : Option NameEntry) (w white : Bool) (d : ℕ) (name : List ℕ) → seen m next ≡ v → IsLike m n
    → g ≡ entry_in name (option_map node_of (get n d)) → p ≡ given_gone n g → q ≡ dropped_at w p d name → w ≡ white
    → seen q next ≡ with_store (removed white v.store d name) v
seen-removed m n p q next v g w white d name is like given gone dropped same =
    let old : seen n next ≡ v = like.seen next ∙ is in
    let entry : g ≡ entry_of v.store d name = given ∙ entry_seen n next d name ∙ ap (λ (x : FileSystem). entry_of x.store d name) old in
    let left : seen p next ≡ with_store (emptied v.store g) v =
    ap (λ (x : Inodes). seen x next) gone ∙ seen-gone n next g ∙ ap (λ (x : FileSystem). with_store (emptied x.store g) x) old in
    ap (λ (x : Inodes). seen x next) dropped ∙ seen-dropped w p next d name ∙ ap (λ (x : FileSystem). with_store (drop_entry w x.store d name) x) left
    ∙ (λ i. with_store (drop_entry (same i) (emptied v.store (entry i)) d name) v)

-- a name that is renamed
pub seen-renamed : (m n p q r : Inodes) (next : ℕ) (v : FileSystem) (g target : Option NameEntry) (w white opaque hides : Bool) (from : ℕ) (old : List ℕ) (to : ℕ) (new : List ℕ) → seen m next ≡ v → IsLike m n
    → g ≡ entry_in old (option_map node_of (get n from)) → target ≡ entry_in new (option_map node_of (get n to)) → hides ≡ (opaque || is_white target)
    → p ≡ given_gone n target → q ≡ dropped_at w p from old → r ≡ given_to q to new hides g → w ≡ white
    → seen r next ≡ with_store (renamed white opaque v.store from old to new) v
seen-renamed m n p q r next v g target w white opaque hides from old to new is like given there hiding gone dropped moved_is same =
    let before : seen n next ≡ v = like.seen next ∙ is in
    let entry : g ≡ entry_of v.store from old = given ∙ entry_seen n next from old ∙ ap (λ (x : FileSystem). entry_of x.store from old) before in
    let other : target ≡ entry_of v.store to new = there ∙ entry_seen n next to new ∙ ap (λ (x : FileSystem). entry_of x.store to new) before in
    let hidden : hides ≡ (opaque || is_white (entry_of v.store to new)) = hiding ∙ ap (λ e. opaque || is_white e) other in
    let left : seen p next ≡ with_store (emptied v.store target) v =
    ap (λ (x : Inodes). seen x next) gone ∙ seen-gone n next target ∙ ap (λ (x : FileSystem). with_store (emptied x.store target) x) before in
    let then : seen q next ≡ with_store (drop_entry w (emptied v.store target) from old) v =
    ap (λ (x : Inodes). seen x next) dropped ∙ seen-dropped w p next from old ∙ ap (λ (x : FileSystem). with_store (drop_entry w x.store from old) x) left in
    ap (λ (x : Inodes). seen x next) moved_is ∙ seen-given q next to new hides g ∙ ap (λ (x : FileSystem). with_store (renamed_to x.store to new hides g) x) then
    ∙ (λ i. with_store (renamed_to (drop_entry (same i) (emptied v.store (other i)) from old) to new (hidden i) (entry i)) v)

-- a further name of a node
pub seen-linked : (m n p q : Inodes) (next : ℕ) (v : FileSystem) (i d : ℕ) (name : List ℕ) → seen m next ≡ v → IsLike m n → p ≡ edited gained n i → q ≡ put_at p d name (Ino i)
    → seen q next ≡ with_store (set_entry v.store d name (Ino i)) v
seen-linked m n p q next v i d name is like more put =
    ap (λ (x : Inodes). seen x next) put ∙ seen-edited _ _ (shows-put name (Ino i)) p next d
    ∙ ap (λ (x : FileSystem). with_store (set_entry x.store d name (Ino i)) x)
    (ap (λ (x : Inodes). seen x next) more ∙ seen_same gained n next i (λ x. refl) (λ x. refl) (λ x. refl) ∙ like.seen next ∙ is)

-- ---- a new node

none_there : (o : Option Inode) → (is_some o ≡ true → ⊥) → o ≡ None
none_there (Some x) h = absurd (h refl)
none_there None h = refl

pub none_next : (m : Inodes) (next : ℕ) → IsKept m next → get m next ≡ None
none_next m next kept = none_there (get m next) (λ some. let less = kept.below next some in omega (arith, less))

pub kept-like : (m n : Inodes) (next : ℕ) → IsLike m n → IsKept m next → IsKept n next
kept-like m n next like kept = record {
  below = λ i some. kept.below i (sym (like.there i) ∙ some);
  counts = λ i. like.links i ∙ kept.counts i ∙ ap (λ (x : FileSystem). times x.store.nodes i) (sym (like.seen next));
  named = record {
    once = λ d i p name at is.
        let was = kept.named.once d i p name (sym (ap parent_in (node i)) ∙ at) (sym (ap (entry_in name) (node d)) ∙ is) in
        (was.0, like.names i ∙ was.1);
    stands = λ i p name at is. ap (entry_in name) (node p) ∙ kept.named.stands i p name (sym (ap parent_in (node i)) ∙ at) (sym (like.names i) ∙ is);
  };
}
  where
    node : (i : ℕ) → option_map node_of (get n i) ≡ option_map node_of (get m i)
    node i = sym (get-nodes n i) ∙ ap (λ (x : FileSystem). get x.store.nodes i) (like.seen next) ∙ get-nodes m i

-- a node that is made under a name
pub nodes-made : (m n p q : Inodes) (next : ℕ) (v : FileSystem) (x : Inode) (node : Node) (d : ℕ) (name : List ℕ) → seen m next ≡ v → IsKept m next → IsLike m n → node_of x ≡ node → p ≡ insert n next x → q ≡ put_at p d name (Ino next)
    → store_of q (next + 1) ≡ made v.store d name node
nodes-made m n p q next v x node d name is kept like node_is new put =
    let none : get n next ≡ None = none_next n next (kept-like m n next like kept) in
    let added : nodes_of p ≡ insert v.store.nodes next node =
    ap nodes_of new ∙ kept-insert (λ (x : Inode). Some (node_of x)) n next x none
    ∙ (λ i. insert (like.seen next i).store.nodes next (node_is i)) ∙ ap (λ (x : FileSystem). insert x.store.nodes next node) is in
    let number : next ≡ v.store.next = ap (λ (x : FileSystem). x.store.next) is in
    let all : nodes_of q ≡ with_entry (insert v.store.nodes next node) d name (Ino next) =
    ap nodes_of put ∙ nodes-edited _ _ p d ((shows-put name (Ino next)).node) ∙ ap (λ (x : FinMap nat_cmp Node). with_entry x d name (Ino next)) added in
    ap (λ (x : FinMap nat_cmp Node). record { nodes = x; next = next + 1 }) all
    ∙ (λ i. record { nodes = with_entry (insert v.store.nodes (number i) node) d name (Ino (number i)); next = number i + 1 })

-- what else a new node is known by
pub kept-made : (f : Content → Option ℕ) (m n p q : Inodes) (next : ℕ) (x : Inode) (first : Option ℕ) (d : ℕ) (name : List ℕ) (old : FinMap nat_cmp ℕ) → IsKept m next → IsLike m n → f x.content ≡ first
    → ((c : Content) → f (put_in name (Ino next) c) ≡ f c) → p ≡ insert n next x → q ≡ put_at p d name (Ino next) → kept (λ (x : Inode). f x.content) n ≡ old
    → kept (λ (x : Inode). f x.content) q ≡ with_new first old next
kept-made f m n p q next x first d name old inv like is stays new put was =
    let none : get n next ≡ None = none_next n next (kept-like m n next like inv) in
    ap (kept (λ (x : Inode). f x.content)) put ∙ kept-same (λ (x : Inode). f x.content) (with_content (put_in name (Ino next))) p d (λ x. stays x.content)
    ∙ ap (kept (λ (x : Inode). f x.content)) new ∙ kept-insert (λ (x : Inode). f x.content) n next x none
    ∙ (λ i. with_new (is i) (was i) next)

pub reads_put : (n : List ℕ) (e : NameEntry) (c : Content) → reads_of (put_in n e c) ≡ reads_of c
reads_put n e (held.Dir parent opaque name names) = refl
reads_put n e (held.File bytes) = refl
reads_put n e (held.Link target) = refl

pub reserved_put : (n : List ℕ) (e : NameEntry) (c : Content) → reserved_of (put_in n e c) ≡ reserved_of c
reserved_put n e (held.Dir parent opaque name names) = refl
reserved_put n e (held.File bytes) = refl
reserved_put n e (held.Link target) = refl
