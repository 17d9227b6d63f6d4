-- What a caller's conditions say of the nodes.
use Rattle.std.proofs.Common.{◌≡◌, ℕ, Bool, true, false, List, zero, suc, refl, ap, sym, ◌∙◌, subst}
use Rattle.std.specs.Prelude.{Option, Some, None, option_map, option_and_then, IsSome, IfSome, IfNone, ◌<◌, ◌||◌, ◌==◌}
use Rattle.std.specs.Prelude.{Result, Ok, Err, OnOk, OnErr}
use Rattle.std.specs.Ordering.{nat_cmp, is_eq}
use Rattle.std.specs.Cmp.{nat_cmp_total}
use Rattle.std.proofs.lemmas.Cmp.{tied_itself}
use Rattle.std.proofs.lemmas.Map.Lookups.{exact_unsigned}
use Rattle.std.specs.FinMap.{get, insert, empty, get-empty, same_map}
use Rattle.vfs_tree.specs.Name.{name_cmp}
use Rattle.mem_fs.specs.declared.inode.NewNode.{NewNode}
use Rattle.mem_fs.specs.declared.inode.NewNode.TheVariants as new
use Rattle.mem_fs.specs.declared.inode.Content.{Content}
use Rattle.mem_fs.specs.NewNodes.{new_node, new_name}
use Rattle.mem_fs.specs.Contents.{made_ready}
use Rattle.mem_fs.proofs.Kept.{get-kept, kept-insert}
use Rattle.vfs_tree.specs.Nodes.{Names, entry_in, is_given, is_white, is_dir_node}
use Rattle.vfs_tree.specs.Visible.{names_in}
use Rattle.vfs_tree.specs.StoreEdits.{entry_of}
use Rattle.vfs_tree.specs.Views.{is_named_in, is_linked_in, facts_in, dir_in}
use Rattle.vfs_tree.specs.declared.node.Node.{Node}
use Rattle.vfs_tree.specs.declared.node.Node.TheVariants.{Dir, File, Link}
use Rattle.vfs_tree.specs.declared.node.NameEntry.{NameEntry}
use Rattle.vfs_tree.specs.declared.node.NameEntry.TheVariants.{Ino, White}
use Rattle.vfs_tree.specs.declared.node.Store.{Store}
use Rattle.mem_fs.specs.declared.inode.Inode.{Inode}
use Rattle.mem_fs.specs.Inodes.{Inodes, edited, with_new, with_content, kept, node_of, nodes_of, links_of, gained, given_gone, given_at, given_to, dropped_at, moved_to}
use Rattle.mem_fs.specs.Rooms.{HasRoomAt, IsRoomyAt}
use Rattle.mem_fs.proofs.Rooms.{has_room_at, roomy_gone, roomy_gained, roomy_dropped, roomy_made, roomy_kept, there_gone, get_other}
use Rattle.vfs_tree.specs.Counts.{times, above_zero}
use Rattle.mem_fs.specs.FileSystem.{FileSystem, seen, facts_by, GivesBare}
use Rattle.mem_fs.specs.Named.{parent_in}
use Rattle.mem_fs.specs.Invariant.{IsKept, IsLike}
use Rattle.mem_fs.proofs.Seen.{like_ready, like_same}
use Rattle.mem_fs.proofs.Looks.{looked, find_found}
use Rattle.vfs_tree.proofs.CountLaws.{named_times}
use Rattle.mem_fs.proofs.NameLaws.{IsBareAt, no_none, same_some}

no_clash : false ≡ true → ⊥
no_clash e = let clash : false ≡ true = e in cc

-- a node's count is that of the store
pub links_times : (m : Inodes) (next : ℕ) (v : FileSystem) (i : ℕ) → seen m next ≡ v → IsKept m next → is_named_in v.store i ≡ above_zero (links_of (get m i))
links_times m next v i is kept = named_times v.store i ∙ ap (λ (x : FileSystem). above_zero (times x.store.nodes i)) (sym is) ∙ ap above_zero (sym (kept.counts i))

pub dir_of : (m : Inodes) (next : ℕ) (v : FileSystem) (d : ℕ) → seen m next ≡ v → is_dir_node (get v.store.nodes d) ≡ true → is_dir_node (option_map node_of (get m d)) ≡ true
dir_of m next v d is dir = ap is_dir_node (sym (looked m next v d (get m d) is refl)) ∙ dir

-- what a name gives has no names that give a node
pub bare_of : (m : Inodes) (next : ℕ) (v : FileSystem) (d : ℕ) (n : List ℕ) (g : Option NameEntry) → seen m next ≡ v → g ≡ entry_in n (option_map node_of (get m d)) → GivesBare v.store (entry_of v.store d n) → IsBareAt m g
bare_of m next v d n g is given bare j known name =
    let there : entry_of v.store d n ≡ Some (Ino j) = sym (find_found m next d n v is) ∙ sym given ∙ known in
    let none : (n : List ℕ) → is_given (entry_of v.store j n) ≡ false = subst (GivesBare v.store) there bare in
    ap is_given (find_found m next j name v is) ∙ none name

-- the same of the store as it was
pub bare_store : (m : Inodes) (next : ℕ) (v : FileSystem) (d : ℕ) (n : List ℕ) (g : Option NameEntry) → seen m next ≡ v → g ≡ entry_in n (option_map node_of (get m d)) → GivesBare v.store (entry_of v.store d n) → GivesBare (seen m next).store g
bare_store m next v d n g is given bare =
    subst (GivesBare (seen m next).store) (sym (given ∙ find_found m next d n v is)) (subst (λ (x : FileSystem). GivesBare x.store (entry_of v.store d n)) (sym is) bare)

white_given : (e : Option NameEntry) → is_white e ≡ true → is_given e ≡ false
white_given (Some (Ino i)) h = absurd (no_clash h)
white_given (Some White) h = refl
white_given None h = refl

pub not_given : (m : Inodes) (next : ℕ) (v : FileSystem) (d : ℕ) (n : List ℕ) → seen m next ≡ v → is_given (entry_of v.store d n) ≡ false → is_given (entry_in n (option_map node_of (get m d))) ≡ false
not_given m next v d n is h = ap is_given (find_found m next d n v is) ∙ h

pub not_white : (m : Inodes) (next : ℕ) (v : FileSystem) (d : ℕ) (n : List ℕ) → seen m next ≡ v → is_white (entry_of v.store d n) ≡ true → is_given (entry_in n (option_map node_of (get m d))) ≡ false
not_white m next v d n is h = not_given m next v d n is (white_given _ h)

no_names : (l : ℕ) → above_zero l ≡ false → l ≡ 0
no_names zero h = refl
no_names (suc l) h = absurd (no_clash (sym h))

-- a node that no name gives
pub unnamed_of : (m : Inodes) (next : ℕ) (v : FileSystem) (i : ℕ) → seen m next ≡ v → IsKept m next → is_named_in v.store i ≡ false → links_of (get m i) ≡ 0
unnamed_of m next v i is kept none = no_names _ (sym (links_times m next v i is kept) ∙ none)

empty_entries : (o : Option Node) → names_in o ≡ empty → (n : List ℕ) → is_given (entry_in n o) ≡ false
empty_entries (Some (Dir parent opaque names)) none n = ap (λ (x : Names). is_given (get x n)) none ∙ ap is_given (get-empty name_cmp n)
empty_entries (Some (File bytes)) none n = refl
empty_entries (Some (Link target)) none n = refl
empty_entries None none n = refl

-- a node without names has none that give a node
pub bare_by_names : (m : Inodes) (i : ℕ) → names_in (option_map node_of (get m i)) ≡ empty → (n : List ℕ) → is_given (entry_in n (option_map node_of (get m i))) ≡ false
bare_by_names m i none n = empty_entries (option_map node_of (get m i)) none n

some_there : (o : Option Inode) → IsSome (option_map node_of o) → IsSome o
some_there (Some x) h = h
some_there None h = h

pub there_of : (m : Inodes) (next : ℕ) (v : FileSystem) (i : ℕ) → seen m next ≡ v → IsSome (get v.store.nodes i) → IsSome (get m i)
there_of m next v i is some = some_there (get m i) (subst IsSome (looked m next v i (get m i) is refl) some)

no_parent : (o : Option Node) → is_dir_node o ≡ false → parent_in o ≡ None
no_parent (Some (Dir parent opaque names)) h = absurd (no_clash (sym h))
no_parent (Some (File bytes)) h = refl
no_parent (Some (Link target)) h = refl
no_parent None h = refl

-- a node that is no directory
pub file_of : (m : Inodes) (next : ℕ) (v : FileSystem) (i : ℕ) → seen m next ≡ v → is_dir_node (get v.store.nodes i) ≡ false → parent_in (option_map node_of (get m i)) ≡ None
file_of m next v i is file = no_parent _ (ap is_dir_node (sym (looked m next v i (get m i) is refl)) ∙ file)

-- ---- room

pub room_copy : (copy : Option (List ℕ)) (n p : Inodes) (g : Option NameEntry) (d : ℕ) → IfSome copy (λ _. IsRoomyAt (get n d)) → p ≡ given_gone n g → IfSome copy (λ name. HasRoomAt name (get p d))
room_copy (Some name) n p g d h is = has_room_at name (get p d) (subst (λ (x : Inodes). IsRoomyAt (get x d)) (sym is) (roomy_gone n g d h))
room_copy None n p g d h is = tt

pub roomy_copy : (copy : Option (List ℕ)) (m n : Inodes) (d : ℕ) → ((q : ℕ) → IsRoomyAt (get m q) → IsRoomyAt (get n q)) → IfSome copy (λ _. IsRoomyAt (get m d)) → IfSome copy (λ _. IsRoomyAt (get n d))
roomy_copy (Some name) m n d keeps h = keeps d h
roomy_copy None m n d keeps h = tt

-- the new name of a renamed node
pub room_new : (n p q : Inodes) (next : ℕ) (target : Option NameEntry) (w : Bool) (from : ℕ) (old : List ℕ) (to : ℕ) (new : List ℕ) → GivesBare (seen n next).store target → is_given (entry_in old (option_map node_of (get n from))) ≡ true
    → IsRoomyAt (get n to) → p ≡ given_gone n target → q ≡ dropped_at w p from old → HasRoomAt new (get q to)
room_new n p q next target w from old to new bare given roomy gone dropped =
    has_room_at new (get q to) (subst (λ (x : Inodes). IsRoomyAt (get x to)) (sym (dropped ∙ ap (λ (x : Inodes). dropped_at w x from old) gone))
    (roomy_dropped w (given_gone n target) from to old (there_gone n next target from old bare given) (roomy_gone n target to roomy)))

-- a further name
pub room_linked : (n p : Inodes) (i d : ℕ) (name : List ℕ) → IsRoomyAt (get n d) → p ≡ edited gained n i → HasRoomAt name (get p d)
room_linked n p i d name roomy is = has_room_at name (get p d) (subst (λ (x : Inodes). IsRoomyAt (get x d)) (sym is) (roomy_gained n i d roomy))

-- the name of a new node
pub room_made : (n p : Inodes) (k d : ℕ) (x : Inode) (name : List ℕ) → IsRoomyAt (get n d) → d < k → p ≡ insert n k x → HasRoomAt name (get p d)
room_made n p k d x name roomy less is = has_room_at name (get p d) (subst IsRoomyAt (sym (ap (λ (y : Inodes). get y d) is ∙ get_other n k x d less)) roomy)

-- ---- what is to be known of a directory

facts_case : (t : Store) (i : ℕ) (b : Bool) (o : Option Node) → b ≡ is_linked_in t i → option_and_then (facts_in t i) o ≡ option_and_then (facts_by b) o
facts_case t i b (Some (Dir parent opaque names)) e = ap (λ x. Some (record { parent = parent; opaque = opaque; linked = x })) (sym e)
facts_case t i b (Some (File bytes)) e = refl
facts_case t i b (Some (Link target)) e = refl
facts_case t i b None e = refl

pub facts_of : (m : Inodes) (next : ℕ) (v : FileSystem) (i : ℕ) (b : Bool) (o : Option Inode) → seen m next ≡ v → IsKept m next → b ≡ ((i == 1) || above_zero (links_of (get m i))) → o ≡ get m i
    → dir_in v.store i ≡ option_and_then (λ (x : Inode). facts_by b (node_of x)) o
facts_of m next v i b o is kept linked at =
    facts_case v.store i b (get v.store.nodes i) (linked ∙ ap (λ c. (i == 1) || c) (sym (links_times m next v i is kept)))
    ∙ ap (option_and_then (facts_by b)) (looked m next v i o is at) ∙ inner o
  where
    inner : (o : Option Inode) → option_and_then (facts_by b) (option_map node_of o) ≡ option_and_then (λ (x : Inode). facts_by b (node_of x)) o
    inner (Some x) = refl
    inner None = refl

pub some_names : (l : ℕ) → (l ≡ 0 → ⊥) → true ≡ above_zero l
some_names zero h = absurd (h refl)
some_names (suc l) h = refl

-- ---- a new node

-- a new node has no names
pub new_bare : (parent : ℕ) (white : Bool) (x : NewNode) (n : List ℕ) → is_given (entry_in n (Some (new_node parent white x))) ≡ false
new_bare parent white new.Dir n = ap is_given (get-empty name_cmp n)
new_bare parent white new.File n = refl
new_bare parent white (new.Link target) n = refl
new_bare parent white new.Shadow n = ap is_given (get-empty name_cmp n)
new_bare parent white (new.Copy bytes) n = refl

-- a new directory keeps the name that it is made under
pub new_known : (parent : ℕ) (white : Bool) (n : List ℕ) (x : NewNode) (p : ℕ) → parent_in (Some (new_node parent white x)) ≡ Some p → (p ≡ parent) × (new_name n x ≡ Some n)
new_known parent white n new.Dir p at = (sym (same_some parent p at), refl)
new_known parent white n new.File p at = absurd (no_none p at)
new_known parent white n (new.Link target) p at = absurd (no_none p at)
new_known parent white n new.Shadow p at = (sym (same_some parent p at), refl)
new_known parent white n (new.Copy bytes) p at = absurd (no_none p at)

kept-none : {B : Type 0} (f : Inode → Option B) → kept f empty ≡ empty
kept-none f = same_map nat_cmp_total exact_unsigned _ _ (λ q. get-kept f empty q ∙ ap (option_and_then f) (get-empty nat_cmp q) ∙ sym (get-empty nat_cmp q))

-- a root without names, alone
pub first_nodes : (x : Inode) (m : Inodes) (node : Node) → node_of x ≡ node → m ≡ insert empty 1 x → nodes_of m ≡ insert empty 1 node
first_nodes x m node is put = ap nodes_of put ∙ kept-insert (λ (x : Inode). Some (node_of x)) empty 1 x (get-empty nat_cmp 1)
    ∙ (λ i. insert (kept-none (λ (x : Inode). Some (node_of x)) i) 1 (is i))

pub first_kept : (f : Content → Option ℕ) (x : Inode) (m : Inodes) (o : Option ℕ) → f x.content ≡ o → m ≡ insert empty 1 x → kept (λ (x : Inode). f x.content) m ≡ with_new o empty 1
first_kept f x m o is put = ap (kept (λ (x : Inode). f x.content)) put ∙ kept-insert (λ (x : Inode). f x.content) empty 1 x (get-empty nat_cmp 1)
    ∙ (λ i. with_new (is i) (kept-none (λ (x : Inode). f x.content) i) 1)

-- ---- results

-- what holds anyway holds of an error
pub even_err : {X E : Type 0} {P : Type 0} (r : Result X E) → P → OnErr r P
even_err (Ok x) p = tt
even_err (Err e) p = p

-- room that was made, or wasn't
pub made_like : {X E : Type 0} (m n : Inodes) (d : ℕ) (r : Result X E) → OnOk r (n ≡ edited (with_content made_ready) m d) → OnErr r (n ≡ m) → IsLike m n
made_like m n d (Ok x) ok err = subst (IsLike m) (sym ok) (like_ready m d)
made_like m n d (Err e) ok err = like_same m n err

pub made_keeps : {X E : Type 0} (m n : Inodes) (d : ℕ) (r : Result X E) → OnOk r (n ≡ edited (with_content made_ready) m d) → OnErr r (n ≡ m) → (q : ℕ) → IsRoomyAt (get m q) → IsRoomyAt (get n q)
made_keeps m n d (Ok x) ok err q h = subst (λ (x : Inodes). IsRoomyAt (get x q)) (sym ok) (roomy_kept m d q h)
made_keeps m n d (Err e) ok err q h = subst (λ (x : Inodes). IsRoomyAt (get x q)) (sym err) h

pub made_roomy : {X E : Type 0} (m n : Inodes) (d : ℕ) (r : Result X E) → OnOk r (n ≡ edited (with_content made_ready) m d) → OnOk r (IsRoomyAt (get n d))
made_roomy m n d (Ok x) ok = subst (λ (x : Inodes). IsRoomyAt (get x d)) (sym ok) (roomy_made m d (ap is_eq (tied_itself nat_cmp_total d)))
made_roomy m n d (Err e) ok = tt

-- what follows of a result either way, and of a good one
pub either : {X E : Type 0} {P Q Z : Type 0} (r : Result X E) → OnOk r P → OnErr r Q → (P → Z) → (Q → Z) → Z
either (Ok x) p q f g = f p
either (Err e) p q f g = g q

pub on_ok : {X E : Type 0} {P Z : Type 0} (r : Result X E) → OnOk r P → (P → Z) → OnOk r Z
on_ok (Ok x) p f = f p
on_ok (Err e) p f = tt

pub on_err : {X E : Type 0} {P Z : Type 0} (r : Result X E) → OnErr r P → (P → Z) → OnErr r Z
on_err (Ok x) p f = tt
on_err (Err e) p f = f p

-- what follows of an option either way
pub on_some : {X : Type 0} {P Q : X → Type 0} (r : Option X) → IfSome r P → ((x : X) → P x → Q x) → IfSome r Q
on_some (Some x) p f = f x p
on_some None p f = tt

pub on_none : {X P Q : Type 0} (r : Option X) → IfNone r P → (P → Q) → IfNone r Q
on_none (Some x) p f = tt
on_none None p f = f p

-- a name gives what an entry gave, and then a directory moves there
pub given_both : (m n r : Inodes) (d : ℕ) (name own new : List ℕ) (hides : Bool) (g : Option NameEntry) → name ≡ new → own ≡ new → n ≡ given_at m d name g → r ≡ moved_to n d own hides g → r ≡ given_to m d new hides g
given_both m n r d name own new hides g is_name is_own given moved =
    moved
    ∙ ap (λ x. moved_to x d own hides g) (given ∙ ap (λ x. given_at m d x g) is_name)
    ∙ ap (λ x. moved_to (given_at m d new g) d x hides g) is_own
