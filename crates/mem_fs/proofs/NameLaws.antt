-- The names that directories keep, after edits of the nodes.
use Rattle.std.proofs.Common.{◌≡◌, ℕ, Bool, true, false, cond, List, refl, ap, sym, ◌∙◌}
use Rattle.std.specs.Prelude.{Option, Some, None, option_map, is_some}
use Rattle.std.specs.Ordering.{nat_cmp, eq_by_cmp, is_eq}
use Rattle.std.specs.declared.cmp.Ordering.{Ordering}
use Rattle.std.specs.declared.cmp.Ordering.TheVariants.{Less, Equal, Greater}
use Rattle.std.specs.Cmp.{nat_cmp_total}
use Rattle.std.specs.Cmp.Lexicographic.{nat_list_cmp_total}
use Rattle.std.specs.FinMap.{get, insert, remove, empty, get-insert, get-remove, get-empty}
use Rattle.std.proofs.lemmas.Cmp.{tied_itself}
use Rattle.std.proofs.lemmas.Map.Lookups.{exact_bytes}
use Rattle.vfs_tree.specs.Name.{name_cmp}
use Rattle.vfs_tree.specs.Nodes.{entry_in, is_given, is_dir_node}
use Rattle.vfs_tree.specs.declared.node.Node.{Node}
use Rattle.vfs_tree.specs.declared.node.Node.TheVariants.{Dir, File, Link}
use Rattle.vfs_tree.specs.declared.node.NameEntry.{NameEntry}
use Rattle.vfs_tree.specs.declared.node.NameEntry.TheVariants.{Ino, White}
use Rattle.mem_fs.specs.declared.inode.Content.{Content}
use Rattle.mem_fs.specs.declared.inode.Content.TheVariants as held
use Rattle.mem_fs.specs.declared.inode.Inode.{Inode}
use Rattle.mem_fs.specs.Contents.{shown, name_of, put_in, cleared_in, placed, bared, nameless}
use Rattle.mem_fs.specs.Inodes.{Inodes, edited, node_of, own_name, with_content, let_go, lost, gained, put_at, cleared_at, given_lost, given_gone, dropped_at, given_to}
use Rattle.mem_fs.specs.Named.{parent_in, AreNamed}
use Rattle.mem_fs.proofs.Kept.{same_number, get-edited}
use Rattle.mem_fs.proofs.Seen.{look_same, shown_nameless}

abbrev pub entry : List ℕ → Option Inode → Option NameEntry
entry n o = entry_in n (option_map node_of o)

abbrev pub parent : Option Inode → Option ℕ
parent o = parent_in (option_map node_of o)

-- what an entry gives has no names that give a node
abbrev pub IsBareAt : Inodes → Option NameEntry → Type 0
IsBareAt m g = (j : ℕ) → g ≡ Some (Ino j) → (n : List ℕ) → is_given (entry n (get m j)) ≡ false

-- ---- plain facts

pub no_clash : false ≡ true → ⊥
no_clash e = let clash : false ≡ true = e in cc

pub no_none : {A : Type 0} (x : A) → None ≡ Some x → ⊥
no_none x e = let clash : None ≡ Some x = e in cc

pub same_some : {A : Type 0} (x y : A) → Some x ≡ Some y → x ≡ y
same_some x y e = cc

same_ino : (i j : ℕ) → Some (Ino i) ≡ Some (Ino j) → i ≡ j
same_ino i j e = cc

no_white : (i : ℕ) → Some White ≡ Some (Ino i) → ⊥
no_white i e = let clash : Some White ≡ Some (Ino i) = e in cc

not_both : (o : Option NameEntry) (i : ℕ) → is_given o ≡ false → o ≡ Some (Ino i) → ⊥
not_both o i miss is = no_clash (sym miss ∙ ap is_given is)

pub tied : (r : Ordering) → is_eq r ≡ true → r ≡ Equal
tied Less e = cc
tied Equal e = refl
tied Greater e = cc

itself : (k : ℕ) → eq_by_cmp nat_cmp k k ≡ true
itself k = ap is_eq (tied_itself nat_cmp_total k)

name_itself : (n : List ℕ) → eq_by_cmp name_cmp n n ≡ true
name_itself n = ap is_eq (tied_itself nat_list_cmp_total n)

apart_number : (q k : ℕ) → (q ≡ k → ⊥) → eq_by_cmp nat_cmp q k ≡ false
apart_number q k apart = by_case (eq_by_cmp nat_cmp q k) refl
  where
    by_case : (b : Bool) → eq_by_cmp nat_cmp q k ≡ b → eq_by_cmp nat_cmp q k ≡ false
    by_case true e = absurd (apart (same_number q k e))
    by_case false e = e

apart_name : (n p : List ℕ) → (n ≡ p → ⊥) → eq_by_cmp name_cmp n p ≡ false
apart_name n p apart = by_case (eq_by_cmp name_cmp n p) refl
  where
    by_case : (b : Bool) → eq_by_cmp name_cmp n p ≡ b → eq_by_cmp name_cmp n p ≡ false
    by_case true e = absurd (apart (exact_bytes n p (tied _ e)))
    by_case false e = e

number_by : {P : Type 0} (q k : ℕ) → (q ≡ k → P) → ((q ≡ k → ⊥) → P) → (b : Bool) → eq_by_cmp nat_cmp q k ≡ b → P
number_by q k hit miss true e = hit (same_number q k e)
number_by q k hit miss false e = miss (λ same. no_clash (sym e ∙ ap (eq_by_cmp nat_cmp q) (sym same) ∙ itself q))

-- whether two numbers are one
number_case : {P : Type 0} (q k : ℕ) → (q ≡ k → P) → ((q ≡ k → ⊥) → P) → P
number_case q k hit miss = number_by q k hit miss (eq_by_cmp nat_cmp q k) refl

name_by_test : {P : Type 0} (n p : List ℕ) → (n ≡ p → P) → ((n ≡ p → ⊥) → P) → (b : Bool) → eq_by_cmp name_cmp n p ≡ b → P
name_by_test n p hit miss true e = hit (exact_bytes n p (tied _ e))
name_by_test n p hit miss false e = miss (λ same. no_clash (sym e ∙ ap (eq_by_cmp name_cmp n) (sym same) ∙ name_itself n))

-- whether two names are one
name_case : {P : Type 0} (n p : List ℕ) → (n ≡ p → P) → ((n ≡ p → ⊥) → P) → P
name_case n p hit miss = name_by_test n p hit miss (eq_by_cmp name_cmp n p) refl

-- a name of a directory, or another
spot_case : {P : Type 0} (q d : ℕ) (x n : List ℕ) → (q ≡ d → x ≡ n → P) → ((q ≡ d → x ≡ n → ⊥) → P) → P
spot_case q d x n hit miss =
    number_case q d (λ same. name_case x n (hit same) (λ other. miss (λ _ e. other e))) (λ other. miss (λ e _. other e))

-- ---- one node

edit_here : (g : Inode → Inode) (m : Inodes) (k : ℕ) → get (edited g m k) k ≡ option_map g (get m k)
edit_here g m k = get-edited g m k k ∙ ap (λ b. cond b (option_map g (get m k)) (get m k)) (itself k)

edit_other : (g : Inode → Inode) (m : Inodes) (k q : ℕ) → (q ≡ k → ⊥) → get (edited g m k) q ≡ get m q
edit_other g m k q apart = get-edited g m k q ∙ ap (λ b. cond b (option_map g (get m q)) (get m q)) (apart_number q k apart)

insert_here : (m : Inodes) (k : ℕ) (x : Inode) → get (insert m k x) k ≡ Some x
insert_here m k x = get-insert nat_cmp_total m k x k ∙ ap (λ b. cond b (Some x) (get m k)) (itself k)

insert_other : (m : Inodes) (k q : ℕ) (x : Inode) → (q ≡ k → ⊥) → get (insert m k x) q ≡ get m q
insert_other m k q x apart = get-insert nat_cmp_total m k x q ∙ ap (λ b. cond b (Some x) (get m q)) (apart_number q k apart)

remove_here : (m : Inodes) (k : ℕ) → get (remove m k) k ≡ None
remove_here m k = get-remove nat_cmp_total m k k ∙ ap (λ b. cond b None (get m k)) (itself k)

remove_other : (m : Inodes) (k q : ℕ) → (q ≡ k → ⊥) → get (remove m k) q ≡ get m q
remove_other m k q apart = get-remove nat_cmp_total m k q ∙ ap (λ b. cond b None (get m q)) (apart_number q k apart)

-- a function of the nodes at a number that is another's
at_same : {B : Type 0} (f : Option Inode → B) (m n : Inodes) (q k : ℕ) → q ≡ k → f (get m k) ≡ f (get n k) → f (get m q) ≡ f (get n q)
at_same f m n q k same e = ap (λ j. f (get m j)) same ∙ e ∙ ap (λ j. f (get n j)) (sym same)

-- ---- what edits do to the names

put_content : (n : List ℕ) (e : NameEntry) (x : List ℕ) → (x ≡ n → ⊥) → (c : Content) → entry_in x (Some (shown (put_in n e c))) ≡ entry_in x (Some (shown c))
put_content n e x apart (held.Dir parent opaque own names) = get-insert nat_list_cmp_total names.names n e x ∙ ap (λ b. cond b (Some e) (get names.names x)) (apart_name x n apart)
put_content n e x apart (held.File bytes) = refl
put_content n e x apart (held.Link target) = refl

clear_content : (n : List ℕ) (x : List ℕ) → (x ≡ n → ⊥) → (c : Content) → entry_in x (Some (shown (cleared_in n c))) ≡ entry_in x (Some (shown c))
clear_content n x apart (held.Dir parent opaque own names) = get-remove nat_list_cmp_total names.names n x ∙ ap (λ b. cond b None (get names.names x)) (apart_name x n apart)
clear_content n x apart (held.File bytes) = refl
clear_content n x apart (held.Link target) = refl

in_option : (g : Content → Content) (x : List ℕ) → ((c : Content) → entry_in x (Some (shown (g c))) ≡ entry_in x (Some (shown c))) → (o : Option Inode) → entry x (option_map (with_content g) o) ≡ entry x o
in_option g x e (Some y) = e y.content
in_option g x e None = refl

name_other : (g : Content → Content) (n : List ℕ) → ((x : List ℕ) → (x ≡ n → ⊥) → (c : Content) → entry_in x (Some (shown (g c))) ≡ entry_in x (Some (shown c)))
    → (m : Inodes) (d q : ℕ) (x : List ℕ) → (q ≡ d → x ≡ n → ⊥) → entry x (get (edited (with_content g) m d) q) ≡ entry x (get m q)
name_other g n e m d q x apart = number_case q d
    (λ same. at_same (entry x) (edited (with_content g) m d) m q d same (ap (entry x) (edit_here (with_content g) m d) ∙ in_option g x (e x (apart same)) (get m d)))
    (λ other. ap (entry x) (edit_other (with_content g) m d q other))

put_other : (m : Inodes) (d : ℕ) (n : List ℕ) (e : NameEntry) (q : ℕ) (x : List ℕ) → (q ≡ d → x ≡ n → ⊥) → entry x (get (put_at m d n e) q) ≡ entry x (get m q)
put_other m d n e q x apart = name_other (put_in n e) n (put_content n e) m d q x apart

put_here : (m : Inodes) (d : ℕ) (n : List ℕ) (e : NameEntry) → is_dir_node (option_map node_of (get m d)) ≡ true → entry n (get (put_at m d n e) d) ≡ Some e
put_here m d n e dir = ap (entry n) (edit_here (with_content (put_in n e)) m d) ∙ by_case (get m d) dir
  where
    in_content : (c : Content) → is_dir_node (Some (shown c)) ≡ true → entry_in n (Some (shown (put_in n e c))) ≡ Some e
    in_content (held.Dir parent opaque own names) h = get-insert nat_list_cmp_total names.names n e n ∙ ap (λ b. cond b (Some e) (get names.names n)) (name_itself n)
    in_content (held.File bytes) h = absurd (no_clash h)
    in_content (held.Link target) h = absurd (no_clash h)

    by_case : (o : Option Inode) → is_dir_node (option_map node_of o) ≡ true → entry n (option_map (with_content (put_in n e)) o) ≡ Some e
    by_case (Some x) h = in_content x.content h
    by_case None h = absurd (no_clash h)

dropped_other : (w : Bool) (m : Inodes) (d : ℕ) (n : List ℕ) (q : ℕ) (x : List ℕ) → (q ≡ d → x ≡ n → ⊥) → entry x (get (dropped_at w m d n) q) ≡ entry x (get m q)
dropped_other true m d n q x apart = put_other m d n White q x apart
dropped_other false m d n q x apart = name_other (cleared_in n) n (clear_content n) m d q x apart

dropped_here : (w : Bool) (m : Inodes) (d : ℕ) (n : List ℕ) → is_given (entry n (get (dropped_at w m d n) d)) ≡ false
dropped_here true m d n = ap (λ o. is_given (entry n o)) (edit_here (with_content (put_in n White)) m d) ∙ by_case (get m d)
  where
    in_content : (c : Content) → is_given (entry_in n (Some (shown (put_in n White c)))) ≡ false
    in_content (held.Dir parent opaque own names) = ap is_given (get-insert nat_list_cmp_total names.names n White n ∙ ap (λ b. cond b (Some White) (get names.names n)) (name_itself n))
    in_content (held.File bytes) = refl
    in_content (held.Link target) = refl

    by_case : (o : Option Inode) → is_given (entry n (option_map (with_content (put_in n White)) o)) ≡ false
    by_case (Some x) = in_content x.content
    by_case None = refl
dropped_here false m d n = ap (λ o. is_given (entry n o)) (edit_here (with_content (cleared_in n)) m d) ∙ by_case (get m d)
  where
    in_content : (c : Content) → is_given (entry_in n (Some (shown (cleared_in n c)))) ≡ false
    in_content (held.Dir parent opaque own names) = ap is_given (get-remove nat_list_cmp_total names.names n n ∙ ap (λ b. cond b None (get names.names n)) (name_itself n))
    in_content (held.File bytes) = refl
    in_content (held.Link target) = refl

    by_case : (o : Option Inode) → is_given (entry n (option_map (with_content (cleared_in n)) o)) ≡ false
    by_case (Some x) = in_content x.content
    by_case None = refl

-- ---- what edits do to the parents and the names that directories keep

parent_put : (n : List ℕ) (e : NameEntry) (c : Content) → parent_in (Some (shown (put_in n e c))) ≡ parent_in (Some (shown c))
parent_put n e (held.Dir parent opaque name names) = refl
parent_put n e (held.File bytes) = refl
parent_put n e (held.Link target) = refl

parent_cleared : (n : List ℕ) (c : Content) → parent_in (Some (shown (cleared_in n c))) ≡ parent_in (Some (shown c))
parent_cleared n (held.Dir parent opaque name names) = refl
parent_cleared n (held.File bytes) = refl
parent_cleared n (held.Link target) = refl

parent_bared : (c : Content) → parent_in (Some (shown (bared c))) ≡ parent_in (Some (shown c))
parent_bared (held.Dir parent opaque name names) = refl
parent_bared (held.File bytes) = refl
parent_bared (held.Link target) = refl

name_put : (n : List ℕ) (e : NameEntry) (c : Content) → name_of (put_in n e c) ≡ name_of c
name_put n e (held.Dir parent opaque name names) = refl
name_put n e (held.File bytes) = refl
name_put n e (held.Link target) = refl

name_cleared : (n : List ℕ) (c : Content) → name_of (cleared_in n c) ≡ name_of c
name_cleared n (held.Dir parent opaque name names) = refl
name_cleared n (held.File bytes) = refl
name_cleared n (held.Link target) = refl

name_bared : (c : Content) → name_of (bared c) ≡ None
name_bared (held.Dir parent opaque name names) = refl
name_bared (held.File bytes) = refl
name_bared (held.Link target) = refl

parents_put : (m : Inodes) (d : ℕ) (n : List ℕ) (e : NameEntry) (q : ℕ) → parent (get (put_at m d n e) q) ≡ parent (get m q)
parents_put m d n e q = look_same parent (with_content (put_in n e)) (λ x. parent_put n e x.content) m d q

names_put : (m : Inodes) (d : ℕ) (n : List ℕ) (e : NameEntry) (q : ℕ) → own_name (get (put_at m d n e) q) ≡ own_name (get m q)
names_put m d n e q = look_same own_name (with_content (put_in n e)) (λ x. name_put n e x.content) m d q

parents_dropped : (w : Bool) (m : Inodes) (d : ℕ) (n : List ℕ) (q : ℕ) → parent (get (dropped_at w m d n) q) ≡ parent (get m q)
parents_dropped true m d n q = parents_put m d n White q
parents_dropped false m d n q = look_same parent (with_content (cleared_in n)) (λ x. parent_cleared n x.content) m d q

names_dropped : (w : Bool) (m : Inodes) (d : ℕ) (n : List ℕ) (q : ℕ) → own_name (get (dropped_at w m d n) q) ≡ own_name (get m q)
names_dropped true m d n q = names_put m d n White q
names_dropped false m d n q = look_same own_name (with_content (cleared_in n)) (λ x. name_cleared n x.content) m d q

parents_gone : (m : Inodes) (g : Option NameEntry) (q : ℕ) → parent (get (given_gone m g) q) ≡ parent (get m q)
parents_gone m (Some (Ino j)) q = look_same parent let_go (λ x. parent_bared x.content) m j q
parents_gone m (Some White) q = refl
parents_gone m None q = refl

-- whether an entry gives a node
given_case : {P : Type 0} (g : Option NameEntry) (i : ℕ) → (g ≡ Some (Ino i) → P) → ((g ≡ Some (Ino i) → ⊥) → P) → P
given_case (Some (Ino j)) i hit miss = number_case j i (λ same. hit (ap (λ k. Some (Ino k)) same)) (λ other. miss (λ e. other (same_ino j i e)))
given_case (Some White) i hit miss = miss (no_white i)
given_case None i hit miss = miss (no_none (Ino i))

gone_name : (o : Option Inode) → own_name (option_map let_go o) ≡ None
gone_name (Some x) = name_bared x.content
gone_name None = refl

own_gone : (m : Inodes) (g : Option NameEntry) (i : ℕ) → g ≡ Some (Ino i) → own_name (get (given_gone m g) i) ≡ None
own_gone m (Some (Ino j)) i e =
    let same : i ≡ j = sym (same_ino j i e) in
    ap (λ k. own_name (get (edited let_go m j) k)) same ∙ ap own_name (edit_here let_go m j) ∙ gone_name (get m j)
own_gone m (Some White) i e = absurd (no_white i e)
own_gone m None i e = absurd (no_none (Ino i) e)

own_other : (m : Inodes) (g : Option NameEntry) (i : ℕ) → (g ≡ Some (Ino i) → ⊥) → own_name (get (given_gone m g) i) ≡ own_name (get m i)
own_other m (Some (Ino j)) i apart = ap own_name (edit_other let_go m j i (λ same. apart (ap (λ k. Some (Ino k)) (sym same))))
own_other m (Some White) i apart = refl
own_other m None i apart = refl

gone_entry : (x : List ℕ) (o : Option Inode) → entry x (option_map let_go o) ≡ None
gone_entry x (Some y) = in_content y.content
  where
    in_content : (c : Content) → entry_in x (Some (shown (bared c))) ≡ None
    in_content (held.Dir parent opaque name names) = get-empty name_cmp x
    in_content (held.File bytes) = refl
    in_content (held.Link target) = refl
gone_entry x None = refl

gone_back : (m : Inodes) (g : Option NameEntry) (q i : ℕ) (x : List ℕ) → entry x (get (given_gone m g) q) ≡ Some (Ino i) → entry x (get m q) ≡ Some (Ino i)
gone_back m (Some (Ino j)) q i x is = number_case q j
    (λ same. absurd (no_none (Ino i) (sym (ap (λ k. entry x (get (edited let_go m j) k)) same ∙ ap (entry x) (edit_here let_go m j) ∙ gone_entry x (get m j)) ∙ is)))
    (λ other. sym (ap (entry x) (edit_other let_go m j q other)) ∙ is)
gone_back m (Some White) q i x is = is
gone_back m None q i x is = is

gone_keeps : (m : Inodes) (g : Option NameEntry) (q i : ℕ) (x : List ℕ) → IsBareAt m g → entry x (get m q) ≡ Some (Ino i) → entry x (get (given_gone m g) q) ≡ Some (Ino i)
gone_keeps m (Some (Ino j)) q i x bare is = number_case q j
    (λ same. absurd (not_both _ i (bare j refl x) (ap (λ k. entry x (get m k)) (sym same) ∙ is)))
    (λ other. ap (entry x) (edit_other let_go m j q other) ∙ is)
gone_keeps m (Some White) q i x bare is = is
gone_keeps m None q i x bare is = is

-- ---- what a lost name leaves

entry_nameless : (x : List ℕ) (c : Content) → entry_in x (Some (shown (nameless c))) ≡ entry_in x (Some (shown c))
entry_nameless x c = ap (λ y. entry_in x (Some y)) (shown_nameless c)

name_nameless : (c : Content) → name_of (nameless c) ≡ None
name_nameless (held.Dir parent opaque name names) = refl
name_nameless (held.File bytes) = refl
name_nameless (held.Link target) = refl

lost_entry : (m : Inodes) (e : NameEntry) (x : List ℕ) (q : ℕ) → entry x (get (given_lost m e) q) ≡ entry x (get m q)
lost_entry m (Ino j) x q = look_same (entry x) lost (λ y. entry_nameless x y.content) m j q
lost_entry m White x q = refl

parents_lost : (m : Inodes) (e : NameEntry) (q : ℕ) → parent (get (given_lost m e) q) ≡ parent (get m q)
parents_lost m (Ino j) q = look_same parent lost (λ y. ap (λ x. parent_in (Some x)) (shown_nameless y.content)) m j q
parents_lost m White q = refl

lost_name : (o : Option Inode) → own_name (option_map lost o) ≡ None
lost_name (Some x) = name_nameless x.content
lost_name None = refl

own_lost : (m : Inodes) (e : NameEntry) (i : ℕ) → Some e ≡ Some (Ino i) → own_name (get (given_lost m e) i) ≡ None
own_lost m (Ino j) i e =
    let same : i ≡ j = sym (same_ino j i e) in
    ap (λ k. own_name (get (edited lost m j) k)) same ∙ ap own_name (edit_here lost m j) ∙ lost_name (get m j)
own_lost m White i e = absurd (no_white i e)

own_unlost : (m : Inodes) (e : NameEntry) (i : ℕ) → (Some e ≡ Some (Ino i) → ⊥) → own_name (get (given_lost m e) i) ≡ own_name (get m i)
own_unlost m (Ino j) i apart = ap own_name (edit_other lost m j i (λ same. apart (ap (λ k. Some (Ino k)) (sym same))))
own_unlost m White i apart = refl

-- ---- whole edits

-- an edit that leaves what is given, the parents and the names that are kept
pub named_same : (m n : Inodes) → ((q i : ℕ) (x : List ℕ) → entry x (get n q) ≡ Some (Ino i) → entry x (get m q) ≡ Some (Ino i)) → ((q i : ℕ) (x : List ℕ) → entry x (get m q) ≡ Some (Ino i) → entry x (get n q) ≡ Some (Ino i))
    → ((q : ℕ) → parent (get n q) ≡ parent (get m q)) → ((q : ℕ) → own_name (get n q) ≡ own_name (get m q)) → AreNamed m → AreNamed n
named_same m n back keeps parents names named = record {
  once = λ d i p x at is. let old = named.once d i p x (sym (parents i) ∙ at) (back d i x is) in (old.0, names i ∙ old.1);
  stands = λ i p x at is. keeps p i x (named.stands i p x (sym (parents i) ∙ at) (sym (names i) ∙ is));
}

-- a name that is removed
pub named_removed : (m : Inodes) (g : Option NameEntry) (w : Bool) (d : ℕ) (name : List ℕ) → AreNamed m → g ≡ entry name (get m d) → IsBareAt m g → AreNamed (dropped_at w (given_gone m g) d name)
named_removed m g w d name named given bare = record {
  once = λ q i p x at is.
      let old = back q i x is in
      let was = named.once q i p x (sym (parents i) ∙ at) old.0 in
      let other : g ≡ Some (Ino i) → ⊥ = λ e.
      let first = named.once d i p name (sym (parents i) ∙ at) (sym given ∙ e) in
      old.1 (was.0 ∙ sym first.0) (same_some x name (sym was.1 ∙ first.1)) in
      (was.0, names_dropped w (given_gone m g) d name i ∙ own_other m g i other ∙ was.1);
  stands = λ i p x at is.
      given_case g i
      (λ e. absurd (no_none x (sym (own_gone m g i e) ∙ sym (names_dropped w (given_gone m g) d name i) ∙ is)))
      (λ other.
      let there = named.stands i p x (sym (parents i) ∙ at) (sym (own_other m g i other) ∙ sym (names_dropped w (given_gone m g) d name i) ∙ is) in
      dropped_other w (given_gone m g) d name p x (λ same_dir same_name. other (given ∙ (λ k. entry (sym same_name k) (get m (sym same_dir k))) ∙ there))
      ∙ gone_keeps m g p i x bare there);
}
  where
    parents : (i : ℕ) → parent (get (dropped_at w (given_gone m g) d name) i) ≡ parent (get m i)
    parents i = parents_dropped w (given_gone m g) d name i ∙ parents_gone m g i

    back : (q i : ℕ) (x : List ℕ) → entry x (get (dropped_at w (given_gone m g) d name) q) ≡ Some (Ino i) → (entry x (get m q) ≡ Some (Ino i)) × (q ≡ d → x ≡ name → ⊥)
    back q i x is = spot_case q d x name
        (λ same_dir same_name. absurd (not_both _ i (dropped_here w (given_gone m g) d name) ((λ k. entry (sym same_name k) (get (dropped_at w (given_gone m g) d name) (sym same_dir k))) ∙ is)))
        (λ apart. (gone_back m g q i x (sym (dropped_other w (given_gone m g) d name q x apart) ∙ is), apart))

-- a name of a directory that is to be dropped
pub named_lost : (m : Inodes) (e : NameEntry) (d : ℕ) (name : List ℕ) → AreNamed m → Some e ≡ entry name (get m d) → AreNamed (given_lost (cleared_at m d name) e)
named_lost m e d name named given = record {
  once = λ q i p x at is.
      let old = back q i x is in
      let was = named.once q i p x (sym (parents i) ∙ at) old.0 in
      let other : Some e ≡ Some (Ino i) → ⊥ = λ same.
      let first = named.once d i p name (sym (parents i) ∙ at) (sym given ∙ same) in
      old.1 (was.0 ∙ sym first.0) (same_some x name (sym was.1 ∙ first.1)) in
      (was.0, own_unlost (cleared_at m d name) e i other ∙ names_dropped false m d name i ∙ was.1);
  stands = λ i p x at is.
      given_case (Some e) i
      (λ same. absurd (no_none x (sym (own_lost (cleared_at m d name) e i same) ∙ is)))
      (λ other.
      let there = named.stands i p x (sym (parents i) ∙ at) (sym (own_unlost (cleared_at m d name) e i other ∙ names_dropped false m d name i) ∙ is) in
      lost_entry (cleared_at m d name) e x p ∙ dropped_other false m d name p x (λ same_dir same_name. other (given ∙ (λ k. entry (sym same_name k) (get m (sym same_dir k))) ∙ there)) ∙ there);
}
  where
    parents : (i : ℕ) → parent (get (given_lost (cleared_at m d name) e) i) ≡ parent (get m i)
    parents i = parents_lost (cleared_at m d name) e i ∙ parents_dropped false m d name i

    back : (q i : ℕ) (x : List ℕ) → entry x (get (given_lost (cleared_at m d name) e) q) ≡ Some (Ino i) → (entry x (get m q) ≡ Some (Ino i)) × (q ≡ d → x ≡ name → ⊥)
    back q i x is =
        let before : entry x (get (cleared_at m d name) q) ≡ Some (Ino i) = sym (lost_entry (cleared_at m d name) e x q) ∙ is in
        spot_case q d x name
        (λ same_dir same_name. absurd (not_both _ i (dropped_here false m d name) ((λ k. entry (sym same_name k) (get (cleared_at m d name) (sym same_dir k))) ∙ before)))
        (λ apart. (sym (dropped_other false m d name q x apart) ∙ before, apart))

-- a whiteout that goes
pub named_cleared : (m : Inodes) (d : ℕ) (name : List ℕ) → AreNamed m → is_given (entry name (get m d)) ≡ false → AreNamed (cleared_at m d name)
named_cleared m d name named white = named_same m (cleared_at m d name)
    (λ q i x is. spot_case q d x name
    (λ same_dir same_name. absurd (not_both _ i (dropped_here false m d name) ((λ k. entry (sym same_name k) (get (dropped_at false m d name) (sym same_dir k))) ∙ is)))
    (λ apart. sym (dropped_other false m d name q x apart) ∙ is))
    (λ q i x is. dropped_other false m d name q x (λ same_dir same_name. not_both _ i white ((λ k. entry (sym same_name k) (get m (sym same_dir k))) ∙ is)) ∙ is)
    (parents_dropped false m d name) (names_dropped false m d name) named

-- a further name of a node that is no directory
pub named_linked : (m : Inodes) (j d : ℕ) (name : List ℕ) → AreNamed m → parent (get m j) ≡ None → is_given (entry name (get m d)) ≡ false → is_dir_node (option_map node_of (get m d)) ≡ true → AreNamed (put_at m d name (Ino j))
named_linked m j d name named file new dir = record {
  once = λ q i p x at is.
      let was_at : parent (get m i) ≡ Some p = sym (parents_put m d name (Ino j) i) ∙ at in
      spot_case q d x name
      (λ same_dir same_name.
      let here : Some (Ino j) ≡ Some (Ino i) = sym (put_here m d name (Ino j) dir) ∙ (λ k. entry (sym same_name k) (get (put_at m d name (Ino j)) (sym same_dir k))) ∙ is in
      absurd (no_none p (sym file ∙ ap (λ k. parent (get m k)) (same_ino j i here) ∙ was_at)))
      (λ apart.
      let was = named.once q i p x was_at (sym (put_other m d name (Ino j) q x apart) ∙ is) in
      (was.0, names_put m d name (Ino j) i ∙ was.1));
  stands = λ i p x at is.
      let there = named.stands i p x (sym (parents_put m d name (Ino j) i) ∙ at) (sym (names_put m d name (Ino j) i) ∙ is) in
      put_other m d name (Ino j) p x (λ same_dir same_name. not_both _ i new ((λ k. entry (sym same_name k) (get m (sym same_dir k))) ∙ there)) ∙ there;
}

pub named_gained : (m : Inodes) (j : ℕ) → AreNamed m → AreNamed (edited gained m j)
named_gained m j = named_same m (edited gained m j)
    (λ q i x is. sym (look_same (entry x) gained (λ y. refl) m j q) ∙ is) (λ q i x is. look_same (entry x) gained (λ y. refl) m j q ∙ is)
    (look_same parent gained (λ y. refl) m j) (look_same own_name gained (λ y. refl) m j)

-- an edit of what a node holds that leaves names and parents
pub named_quiet : (g : Content → Content) (m : Inodes) (k : ℕ) → ((x : List ℕ) (c : Content) → entry_in x (Some (shown (g c))) ≡ entry_in x (Some (shown c))) → ((c : Content) → parent_in (Some (shown (g c))) ≡ parent_in (Some (shown c)))
    → ((c : Content) → name_of (g c) ≡ name_of c) → AreNamed m → AreNamed (edited (with_content g) m k)
named_quiet g m k entries parents names = named_same m (edited (with_content g) m k)
    (λ q i x is. sym (look_same (entry x) (with_content g) (λ y. entries x y.content) m k q) ∙ is) (λ q i x is. look_same (entry x) (with_content g) (λ y. entries x y.content) m k q ∙ is)
    (look_same parent (with_content g) (λ y. parents y.content) m k) (look_same own_name (with_content g) (λ y. names y.content) m k)

-- a new node
pub named_made : (m : Inodes) (k : ℕ) (y : Inode) (d : ℕ) (name : List ℕ) → AreNamed m → get m k ≡ None → ((q : ℕ) (x : List ℕ) → entry x (get m q) ≡ Some (Ino k) → ⊥) → ((x : List ℕ) → is_given (entry x (Some y)) ≡ false)
    → ((p : ℕ) → parent (Some y) ≡ Some p → (p ≡ d) × (own_name (Some y) ≡ Some name)) → (d ≡ k → ⊥) → is_given (entry name (get m d)) ≡ false → is_dir_node (option_map node_of (get m d)) ≡ true → AreNamed (put_at (insert m k y) d name (Ino k))
named_made m k y d name named none fresh bare known apart new dir = record {
  once = λ q i p x at is. number_case i k
      (λ same.
      let own = known p (sym (parent_new i same) ∙ at) in
      spot_case q d x name
      (λ same_dir same_name. (same_dir ∙ sym own.0, name_new i same ∙ own.1 ∙ ap Some (sym same_name)))
      (λ other. absurd (fresh q x (old_entry q i x other is ∙ ap (λ j. Some (Ino j)) same))))
      (λ differs.
      spot_case q d x name
      (λ same_dir same_name. absurd (differs (sym (same_ino k i (sym here ∙ (λ l. entry (sym same_name l) (get n (sym same_dir l))) ∙ is)))))
      (λ other.
      let was = named.once q i p x (sym (parent_old i differs) ∙ at) (old_entry q i x other is) in
      (was.0, name_old i differs ∙ was.1)));
  stands = λ i p x at is. number_case i k
      (λ same.
      let own = known p (sym (parent_new i same) ∙ at) in
      let same_name : x ≡ name = same_some x name (sym is ∙ name_new i same ∙ own.1) in
      (λ l. entry (same_name l) (get n (own.0 l))) ∙ here ∙ ap (λ j. Some (Ino j)) (sym same))
      (λ differs.
      let there = named.stands i p x (sym (parent_old i differs) ∙ at) (sym (name_old i differs) ∙ is) in
      put_other (insert m k y) d name (Ino k) p x (λ same_dir same_name. not_both _ i new ((λ l. entry (sym same_name l) (get m (sym same_dir l))) ∙ there))
      ∙ ap (entry x) (insert_other m k p y (λ same. no_none (Ino i) (sym (ap (λ j. entry x (get m j)) same ∙ ap (entry x) none) ∙ there))) ∙ there);
}
  where
    n : Inodes
    n = put_at (insert m k y) d name (Ino k)

    here : entry name (get n d) ≡ Some (Ino k)
    here = put_here (insert m k y) d name (Ino k) (ap (λ o. is_dir_node (option_map node_of o)) (insert_other m k d y apart) ∙ dir)

    parent_new : (i : ℕ) → i ≡ k → parent (get n i) ≡ parent (Some y)
    parent_new i same = parents_put (insert m k y) d name (Ino k) i ∙ ap (λ j. parent (get (insert m k y) j)) same ∙ ap parent (insert_here m k y)

    name_new : (i : ℕ) → i ≡ k → own_name (get n i) ≡ own_name (Some y)
    name_new i same = names_put (insert m k y) d name (Ino k) i ∙ ap (λ j. own_name (get (insert m k y) j)) same ∙ ap own_name (insert_here m k y)

    parent_old : (i : ℕ) → (i ≡ k → ⊥) → parent (get n i) ≡ parent (get m i)
    parent_old i differs = parents_put (insert m k y) d name (Ino k) i ∙ ap parent (insert_other m k i y differs)

    name_old : (i : ℕ) → (i ≡ k → ⊥) → own_name (get n i) ≡ own_name (get m i)
    name_old i differs = names_put (insert m k y) d name (Ino k) i ∙ ap own_name (insert_other m k i y differs)

    old_entry : (q i : ℕ) (x : List ℕ) → (q ≡ d → x ≡ name → ⊥) → entry x (get n q) ≡ Some (Ino i) → entry x (get m q) ≡ Some (Ino i)
    old_entry q i x other is =
        let before : entry x (get (insert m k y) q) ≡ Some (Ino i) = sym (put_other (insert m k y) d name (Ino k) q x other) ∙ is in
        number_case q k
        (λ same. absurd (not_both _ i (bare x) (sym (ap (λ j. entry x (get (insert m k y) j)) same ∙ ap (entry x) (insert_here m k y)) ∙ before)))
        (λ differs. sym (ap (entry x) (insert_other m k q y differs)) ∙ before)

-- a node without names that is forgotten
pub named_forgotten : (m : Inodes) (k : ℕ) → AreNamed m → ((x : List ℕ) → is_given (entry x (get m k)) ≡ false) → AreNamed (remove m k)
named_forgotten m k named bare = record {
  once = λ q i p x at is.
      let kept : i ≡ k → ⊥ = λ same. no_none p (sym (ap (λ j. parent (get (remove m k) j)) same ∙ ap parent (remove_here m k)) ∙ at) in
      let other : q ≡ k → ⊥ = λ same. no_none (Ino i) (sym (ap (λ j. entry x (get (remove m k) j)) same ∙ ap (entry x) (remove_here m k)) ∙ is) in
      let was = named.once q i p x (sym (ap parent (remove_other m k i kept)) ∙ at) (sym (ap (entry x) (remove_other m k q other)) ∙ is) in
      (was.0, ap own_name (remove_other m k i kept) ∙ was.1);
  stands = λ i p x at is.
      let kept : i ≡ k → ⊥ = λ same. no_none p (sym (ap (λ j. parent (get (remove m k) j)) same ∙ ap parent (remove_here m k)) ∙ at) in
      let there = named.stands i p x (sym (ap parent (remove_other m k i kept)) ∙ at) (sym (ap own_name (remove_other m k i kept)) ∙ is) in
      ap (entry x) (remove_other m k p (λ same. not_both _ i (bare x) (ap (λ j. entry x (get m j)) (sym same) ∙ there))) ∙ there;
}

-- no nodes
abbrev pub no_nodes : Inodes
no_nodes = empty

-- one node without names, which keeps none
pub named_first : (k : ℕ) (y : Inode) → ((x : List ℕ) → is_given (entry x (Some y)) ≡ false) → own_name (Some y) ≡ None → AreNamed (insert no_nodes k y)
named_first k y bare none = record {
  once = λ q i p x at is. absurd (nothing q i x is);
  stands = λ i p x at is. absurd (no_name i x is);
}
  where
    nothing : (q i : ℕ) (x : List ℕ) → entry x (get (insert no_nodes k y) q) ≡ Some (Ino i) → ⊥
    nothing q i x is = number_case q k
        (λ same. not_both _ i (bare x) (sym (ap (λ j. entry x (get (insert no_nodes k y) j)) same ∙ ap (entry x) (insert_here no_nodes k y)) ∙ is))
        (λ other. no_none (Ino i) (sym (ap (entry x) (insert_other no_nodes k q y other ∙ get-empty nat_cmp q)) ∙ is))

    no_name : (i : ℕ) (x : List ℕ) → own_name (get (insert no_nodes k y) i) ≡ Some x → ⊥
    no_name i x is = number_case i k
        (λ same. no_none x (sym (ap (λ j. own_name (get (insert no_nodes k y) j)) same ∙ ap own_name (insert_here no_nodes k y) ∙ none) ∙ is))
        (λ other. no_none x (sym (ap own_name (insert_other no_nodes k i y other ∙ get-empty nat_cmp i)) ∙ is))

-- ---- a name that is renamed

dir_by_parent : (o : Option Node) → is_dir_node o ≡ is_some (parent_in o)
dir_by_parent (Some (Dir parent opaque names)) = refl
dir_by_parent (Some (File bytes)) = refl
dir_by_parent (Some (Link target)) = refl
dir_by_parent None = refl

entry_place : (to : ℕ) (own : List ℕ) (hides : Bool) (x : List ℕ) (c : Content) → entry_in x (Some (shown (placed to own hides c))) ≡ entry_in x (Some (shown c))
entry_place to own hides x (held.Dir parent opaque name names) = refl
entry_place to own hides x (held.File bytes) = refl
entry_place to own hides x (held.Link target) = refl

-- what has a parent after it was placed was a directory before
placed_content : {P : Type 0} (to : ℕ) (own : List ℕ) (hides : Bool) (c : Content) (p : ℕ) → parent_in (Some (shown (placed to own hides c))) ≡ Some p
    → ((before : ℕ) → parent_in (Some (shown c)) ≡ Some before → p ≡ to → name_of (placed to own hides c) ≡ Some own → P) → P
placed_content to own hides (held.Dir parent opaque name names) p at then = then parent refl (sym (same_some to p at)) refl
placed_content to own hides (held.File bytes) p at then = absurd (no_none p at)
placed_content to own hides (held.Link target) p at then = absurd (no_none p at)

placed_case : {P : Type 0} (to : ℕ) (own : List ℕ) (hides : Bool) (o : Option Inode) (p : ℕ) → parent (option_map (with_content (placed to own hides)) o) ≡ Some p
    → ((before : ℕ) → parent o ≡ Some before → p ≡ to → own_name (option_map (with_content (placed to own hides)) o) ≡ Some own → P) → P
placed_case to own hides (Some y) p at then = placed_content to own hides y.content p at then
placed_case to own hides None p at then = absurd (no_none p at)

pub named_renamed : (m : Inodes) (k : ℕ) (target : Option NameEntry) (w hides : Bool) (from : ℕ) (old : List ℕ) (to : ℕ) (new : List ℕ) → AreNamed m → Some (Ino k) ≡ entry old (get m from) → target ≡ entry new (get m to)
    → (target ≡ Some (Ino k) → ⊥) → IsBareAt m target → is_dir_node (option_map node_of (get m to)) ≡ true → AreNamed (given_to (dropped_at w (given_gone m target) from old) to new hides (Some (Ino k)))
named_renamed m k target w hides from old to new named given there differ bare dir = record {
  once = λ q i p x at is. number_case i k
      (λ same. placed_case to new hides (get m3 k) p (sym (moved_parent i same) ∙ at) (λ before was_at to_is own.
      spot_case q to x new
      (λ same_dir same_name. (same_dir ∙ sym to_is, moved_name i same ∙ own ∙ ap Some (sym same_name)))
      (λ other.
      let here = back q i x other is in
      let first = named.once from k before old (sym (parents k) ∙ was_at) (sym given) in
      let second = named.once q k before x (sym (parents k) ∙ was_at) (here.0 ∙ ap (λ j. Some (Ino j)) same) in
      absurd (here.1 (second.0 ∙ sym first.0) (same_some x old (sym second.1 ∙ first.1))))))
      (λ differs.
      let was_at : parent (get m i) ≡ Some p = sym (parents i) ∙ sym (ap parent (edit_other (with_content (placed to new hides)) m3 k i differs)) ∙ at in
      spot_case q to x new
      (λ same_dir same_name. absurd (differs (sym (same_ino k i (sym put_is ∙ (λ l. entry (sym same_name l) (get m3 (sym same_dir l))) ∙ sym (placed_entry q x) ∙ is)))))
      (λ other.
      let here = back q i x other is in
      let was = named.once q i p x was_at here.0 in
      let spared : target ≡ Some (Ino i) → ⊥ = λ e.
      let first = named.once to i p new was_at (sym there ∙ e) in
      other (was.0 ∙ sym first.0) (same_some x new (sym was.1 ∙ first.1)) in
      (was.0, stays i differs ∙ own_other m target i spared ∙ was.1)));
  stands = λ i p x at is. number_case i k
      (λ same. placed_case to new hides (get m3 k) p (sym (moved_parent i same) ∙ at) (λ before was_at to_is own.
      let same_name : x ≡ new = same_some x new (sym is ∙ moved_name i same ∙ own) in
      placed_entry p x ∙ (λ l. entry (same_name l) (get m3 (to_is l))) ∙ put_is ∙ ap (λ j. Some (Ino j)) (sym same)))
      (λ differs. given_case target i
      (λ e. absurd (no_none x (sym (own_gone m target i e) ∙ sym (stays i differs) ∙ is)))
      (λ spared.
      let was_at : parent (get m i) ≡ Some p = sym (parents i) ∙ sym (ap parent (edit_other (with_content (placed to new hides)) m3 k i differs)) ∙ at in
      let stood = named.stands i p x was_at (sym (own_other m target i spared) ∙ sym (stays i differs) ∙ is) in
      placed_entry p x
      ∙ put_other m2 to new (Ino k) p x (λ same_dir same_name. spared (there ∙ (λ l. entry (sym same_name l) (get m (sym same_dir l))) ∙ stood))
      ∙ dropped_other w m1 from old p x (λ same_dir same_name. differs (sym (same_ino k i (given ∙ (λ l. entry (sym same_name l) (get m (sym same_dir l))) ∙ stood))))
      ∙ gone_keeps m target p i x bare stood));
}
  where
    m1 : Inodes
    m1 = given_gone m target

    m2 : Inodes
    m2 = dropped_at w m1 from old

    m3 : Inodes
    m3 = put_at m2 to new (Ino k)

    r : Inodes
    r = edited (with_content (placed to new hides)) m3 k

    parents : (i : ℕ) → parent (get m3 i) ≡ parent (get m i)
    parents i = parents_put m2 to new (Ino k) i ∙ parents_dropped w m1 from old i ∙ parents_gone m target i

    put_is : entry new (get m3 to) ≡ Some (Ino k)
    put_is = put_here m2 to new (Ino k)
        (dir_by_parent (option_map node_of (get m2 to)) ∙ ap is_some (parents_dropped w m1 from old to ∙ parents_gone m target to) ∙ sym (dir_by_parent (option_map node_of (get m to))) ∙ dir)

    placed_entry : (q : ℕ) (x : List ℕ) → entry x (get r q) ≡ entry x (get m3 q)
    placed_entry q x = look_same (entry x) (with_content (placed to new hides)) (λ y. entry_place to new hides x y.content) m3 k q

    moved_parent : (i : ℕ) → i ≡ k → parent (get r i) ≡ parent (option_map (with_content (placed to new hides)) (get m3 k))
    moved_parent i same = ap (λ j. parent (get r j)) same ∙ ap parent (edit_here (with_content (placed to new hides)) m3 k)

    moved_name : (i : ℕ) → i ≡ k → own_name (get r i) ≡ own_name (option_map (with_content (placed to new hides)) (get m3 k))
    moved_name i same = ap (λ j. own_name (get r j)) same ∙ ap own_name (edit_here (with_content (placed to new hides)) m3 k)

    stays : (i : ℕ) → (i ≡ k → ⊥) → own_name (get r i) ≡ own_name (get m1 i)
    stays i differs = ap own_name (edit_other (with_content (placed to new hides)) m3 k i differs) ∙ names_put m2 to new (Ino k) i ∙ names_dropped w m1 from old i

    back : (q i : ℕ) (x : List ℕ) → (q ≡ to → x ≡ new → ⊥) → entry x (get r q) ≡ Some (Ino i) → (entry x (get m q) ≡ Some (Ino i)) × (q ≡ from → x ≡ old → ⊥)
    back q i x other is =
        let before : entry x (get m2 q) ≡ Some (Ino i) = sym (put_other m2 to new (Ino k) q x other) ∙ sym (placed_entry q x) ∙ is in
        spot_case q from x old
        (λ same_dir same_name. absurd (not_both _ i (dropped_here w m1 from old) ((λ l. entry (sym same_name l) (get m2 (sym same_dir l))) ∙ before)))
        (λ apart. (gone_back m target q i x (sym (dropped_other w m1 from old q x apart) ∙ before), apart))
