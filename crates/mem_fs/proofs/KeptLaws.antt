-- Each edit of the nodes keeps what holds of them between calls.
use Rattle.std.proofs.Common.{◌≡◌, ℕ, ◌+◌, ◌-◌, ◌<◌, Bool, true, false, cond, List, refl, ap, sym, ◌∙◌, subst, arith}
use Rattle.std.specs.Prelude.{Option, Some, None, option_map, is_some, IsSome, length}
use Rattle.std.specs.declared.cmp.Ordering.{Ordering}
use Rattle.std.specs.declared.cmp.Ordering.TheVariants.{Less, Equal, Greater}
use Rattle.std.specs.Ordering.{nat_cmp, eq_by_cmp, is_eq}
use Rattle.std.proofs.lemmas.Map.Lookups.{exact_bytes, exact_unsigned}
use Rattle.std.specs.Cmp.{nat_cmp_total}
use Rattle.std.specs.Cmp.Lexicographic.{nat_list_cmp_total}
use Rattle.std.specs.FinMap.{get, insert, remove, empty, entries, get-insert, get-remove, get-empty}
use Rattle.std.proofs.lemmas.Cmp.{tied_itself}
use Rattle.vfs_tree.specs.Name.{name_cmp}
use Rattle.vfs_tree.specs.Nodes.{entry_in, is_given, is_dir_node}
use Rattle.vfs_tree.specs.Edits.{with_names}
use Rattle.vfs_tree.specs.Visible.{names_in}
use Rattle.vfs_tree.specs.declared.node.Node.{Node}
use Rattle.vfs_tree.specs.StoreEdits.{moved}
use Rattle.vfs_tree.specs.declared.node.NameEntry.{NameEntry}
use Rattle.vfs_tree.specs.declared.node.NameEntry.TheVariants.{Ino, White}
use Rattle.mem_fs.specs.declared.inode.Content.{Content}
use Rattle.mem_fs.specs.declared.inode.Content.TheVariants as held
use Rattle.mem_fs.specs.declared.inode.Inode.{Inode}
use Rattle.mem_fs.specs.Contents.{shown, name_of, put_in, cleared_in, placed, bared}
use Rattle.mem_fs.specs.Inodes.{Inodes, edited, kept, node_of, nodes_of, links_of, name_count, own_name, with_content, let_go, lost, gained, put_at, cleared_at, given_lost, given_gone, dropped_at, given_to}
use Rattle.vfs_tree.specs.Counts.{optional, weight, names_giving, times}
use Rattle.mem_fs.specs.Named.{parent_in}
use Rattle.mem_fs.specs.Invariant.{IsKept}
use Rattle.mem_fs.proofs.Kept.{same_number, get-edited, kept-same, kept-insert, kept-remove}
use Rattle.mem_fs.proofs.Seen.{get-nodes, look_same, nodes-edited, shows-put, shows-clear, shows-place, shows-let_go, shown_nameless}
use Rattle.mem_fs.proofs.NameLaws.{IsBareAt, no_nodes, named_removed, named_cleared, named_linked, named_gained, named_quiet, named_made, named_forgotten, named_lost, named_first, named_renamed}
use Rattle.vfs_tree.proofs.Totals.{total-zero}
use Rattle.vfs_tree.proofs.NameCountLaws.{weight_at}
use Rattle.vfs_tree.proofs.CountLaws.{times_put, times_cleared, times_emptied, times_moved, times_new, times_gone}

-- what a node has at a name
abbrev entry : List ℕ → Option Inode → Option NameEntry
entry n o = entry_in n (option_map node_of o)

tied : (r : Ordering) → is_eq r ≡ true → r ≡ Equal
tied Less e = cc
tied Equal e = refl
tied Greater e = cc

same_name : (m n : List ℕ) → eq_by_cmp name_cmp m n ≡ true → m ≡ n
same_name m n e = exact_bytes m n (tied _ e)

no_clash : false ≡ true → ⊥
no_clash e = let clash : false ≡ true = e in cc

-- ---- no node is lost

there_edited : (g : Inode → Inode) (m : Inodes) (k q : ℕ) → is_some (get (edited g m k) q) ≡ is_some (get m q)
there_edited g m k q = look_same is_some g (λ x. refl) m k q

there_gone : (m : Inodes) (g : Option NameEntry) (q : ℕ) → is_some (get (given_gone m g) q) ≡ is_some (get m q)
there_gone m (Some (Ino i)) q = there_edited let_go m i q
there_gone m (Some White) q = refl
there_gone m None q = refl

there_dropped : (w : Bool) (m : Inodes) (d : ℕ) (n : List ℕ) (q : ℕ) → is_some (get (dropped_at w m d n) q) ≡ is_some (get m q)
there_dropped true m d n q = there_edited _ m d q
there_dropped false m d n q = there_edited _ m d q

there_given : (m : Inodes) (d : ℕ) (n : List ℕ) (hides : Bool) (g : Option NameEntry) (q : ℕ) → is_some (get (given_to m d n hides g) q) ≡ is_some (get m q)
there_given m d n hides (Some (Ino i)) q = there_edited _ (put_at m d n (Ino i)) i q ∙ there_edited _ m d q
there_given m d n hides (Some White) q = refl
there_given m d n hides None q = refl

-- ---- counts of each node

links_edited : (g : Content → Content) (m : Inodes) (k q : ℕ) → links_of (get (edited (with_content g) m k) q) ≡ links_of (get m q)
links_edited g m k q = look_same links_of (with_content g) (λ x. refl) m k q

links_dropped : (w : Bool) (m : Inodes) (d : ℕ) (n : List ℕ) (q : ℕ) → links_of (get (dropped_at w m d n) q) ≡ links_of (get m q)
links_dropped true m d n q = links_edited _ m d q
links_dropped false m d n q = links_edited _ m d q

links_given : (m : Inodes) (d : ℕ) (n : List ℕ) (hides : Bool) (g : Option NameEntry) (q : ℕ) → links_of (get (given_to m d n hides g) q) ≡ links_of (get m q)
links_given m d n hides (Some (Ino i)) q = links_edited _ (put_at m d n (Ino i)) i q ∙ links_edited _ m d q
links_given m d n hides (Some White) q = refl
links_given m d n hides None q = refl

fewer : (g : Inode → Inode) → ((x : Inode) → (g x).links ≡ x.links - 1) → (o : Option Inode) (b : Bool) (w : ℕ) → w ≡ cond b 1 0 → links_of (cond b (option_map g o) o) ≡ links_of o - w
fewer g less (Some x) true w is = let one = less x in omega (arith, is, one)
fewer g less None true w is = omega (arith, is)
fewer g less o false w is = omega (arith, is)

links_gone : (m : Inodes) (g : Option NameEntry) (i : ℕ) → links_of (get (given_gone m g) i) ≡ links_of (get m i) - optional (weight i) g
links_gone m (Some (Ino j)) i = ap links_of (get-edited let_go m j i) ∙ fewer let_go (λ x. refl) (get m i) (eq_by_cmp nat_cmp i j) (weight i (Ino j)) (weight_at i j (eq_by_cmp nat_cmp i j) refl)
links_gone m (Some White) i = omega arith
links_gone m None i = omega arith

more : (o : Option Inode) (b : Bool) (w : ℕ) → w ≡ cond b 1 0 → (b ≡ true → IsSome o) → links_of (cond b (option_map gained o) o) ≡ links_of o + w
more (Some x) true w is there = omega (arith, is)
more None true w is there = absurd (no_clash (there refl))
more o false w is there = omega (arith, is)

links_gained : (m : Inodes) (j i : ℕ) → IsSome (get m j) → links_of (get (edited gained m j) i) ≡ links_of (get m i) + weight i (Ino j)
links_gained m j i there = ap links_of (get-edited gained m j i) ∙ more (get m i) (eq_by_cmp nat_cmp i j) (weight i (Ino j)) (weight_at i j (eq_by_cmp nat_cmp i j) refl)
    (λ e. subst (λ k. IsSome (get m k)) (sym (same_number i j e)) there)

-- ---- what nodes have at names

entry_edited : (g : Inode → Inode) (m : Inodes) (k q : ℕ) (n : List ℕ) → entry n (get (edited g m k) q) ≡ entry n (cond (eq_by_cmp nat_cmp q k) (option_map g (get m q)) (get m q))
entry_edited g m k q n = ap (entry n) (get-edited g m k q)

bared_entry : (n : List ℕ) (x : Inode) → entry n (Some (let_go x)) ≡ None
bared_entry n x = in_content x.content
  where
    in_content : (c : Content) → entry_in n (Some (shown (bared c))) ≡ None
    in_content (held.Dir parent opaque name names) = get-empty name_cmp n
    in_content (held.File bytes) = refl
    in_content (held.Link target) = refl

-- ---- what the entries of an edited store weigh

weightless : (i : ℕ) (e : Option NameEntry) → is_given e ≡ false → optional (weight i) e ≡ 0
weightless i (Some (Ino j)) h = absurd (no_clash (sym h))
weightless i (Some White) h = refl
weightless i None h = refl

weight_case : (i : ℕ) (n : List ℕ) (b : Bool) (o : Option Inode) → (b ≡ true → is_given (entry n o) ≡ false) → optional (weight i) (entry n (cond b (option_map let_go o) o)) ≡ optional (weight i) (entry n o)
weight_case i n true (Some x) h = ap (optional (weight i)) (bared_entry n x) ∙ sym (weightless i (entry n (Some x)) (h refl))
weight_case i n true None h = refl
weight_case i n false o h = refl

weight_gone : (m : Inodes) (g : Option NameEntry) (i q : ℕ) (n : List ℕ) → IsBareAt m g → optional (weight i) (entry n (get (given_gone m g) q)) ≡ optional (weight i) (entry n (get m q))
weight_gone m (Some (Ino j)) i q n bare =
    ap (optional (weight i)) (entry_edited let_go m j q n)
    ∙ weight_case i n (eq_by_cmp nat_cmp q j) (get m q) (λ e. ap (λ k. is_given (entry n (get m k))) (same_number q j e) ∙ bare j refl n)
weight_gone m (Some White) i q n bare = refl
weight_gone m None i q n bare = refl

times_given_gone : (m : Inodes) (g : Option NameEntry) (i : ℕ) → IsBareAt m g → times (nodes_of (given_gone m g)) i ≡ times (nodes_of m) i
times_given_gone m (Some (Ino j)) i bare =
    ap (λ x. times x i) (nodes-edited let_go (with_names (λ names. empty)) m j (shows-let_go.node))
    ∙ times_emptied (nodes_of m) j i (λ n. ap (λ o. is_given (entry_in n o)) (get-nodes m j) ∙ bare j refl n)
times_given_gone m (Some White) i bare = refl
times_given_gone m None i bare = refl

times_put_at : (m : Inodes) (d i : ℕ) (n : List ℕ) (e : NameEntry) → is_dir_node (option_map node_of (get m d)) ≡ true
    → times (nodes_of (put_at m d n e)) i + optional (weight i) (entry n (get m d)) ≡ times (nodes_of m) i + weight i e
times_put_at m d i n e dir =
    (λ k. times (nodes-edited (with_content (put_in n e)) (with_names (λ names. insert names n e)) m d ((shows-put n e).node) k) i + optional (weight i) (entry_in n (sym (get-nodes m d) k)))
    ∙ times_put (nodes_of m) d i n e (ap is_dir_node (get-nodes m d) ∙ dir)

times_cleared_at : (m : Inodes) (d i : ℕ) (n : List ℕ) → times (nodes_of (cleared_at m d n)) i + optional (weight i) (entry n (get m d)) ≡ times (nodes_of m) i
times_cleared_at m d i n =
    (λ k. times (nodes-edited (with_content (cleared_in n)) (with_names (λ names. remove names n)) m d ((shows-clear n).node) k) i + optional (weight i) (entry_in n (sym (get-nodes m d) k)))
    ∙ times_cleared (nodes_of m) d i n

times_dropped : (w : Bool) (m : Inodes) (d i : ℕ) (n : List ℕ) → is_dir_node (option_map node_of (get m d)) ≡ true
    → times (nodes_of (dropped_at w m d n)) i + optional (weight i) (entry n (get m d)) ≡ times (nodes_of m) i
times_dropped true m d i n dir = let sum = times_put_at m d i n White dir in omega (arith, sum)
times_dropped false m d i n dir = times_cleared_at m d i n

times_placed : (m : Inodes) (k i to : ℕ) (own : List ℕ) (hides : Bool) → times (nodes_of (edited (with_content (placed to own hides)) m k)) i ≡ times (nodes_of m) i
times_placed m k i to own hides =
    ap (λ x. times x i) (nodes-edited (with_content (placed to own hides)) (moved to hides) m k ((shows-place to own hides).node)) ∙ times_moved (nodes_of m) k i to hides

-- ---- directories stay directories

kind_bared : (x : Inode) → is_dir_node (option_map node_of (Some (let_go x))) ≡ is_dir_node (option_map node_of (Some x))
kind_bared x = in_content x.content
  where
    in_content : (c : Content) → is_dir_node (Some (shown (bared c))) ≡ is_dir_node (Some (shown c))
    in_content (held.Dir parent opaque name names) = refl
    in_content (held.File bytes) = refl
    in_content (held.Link target) = refl

kind_put : (n : List ℕ) (e : NameEntry) (c : Content) → is_dir_node (Some (shown (put_in n e c))) ≡ is_dir_node (Some (shown c))
kind_put n e (held.Dir parent opaque name names) = refl
kind_put n e (held.File bytes) = refl
kind_put n e (held.Link target) = refl

kind_cleared : (n : List ℕ) (c : Content) → is_dir_node (Some (shown (cleared_in n c))) ≡ is_dir_node (Some (shown c))
kind_cleared n (held.Dir parent opaque name names) = refl
kind_cleared n (held.File bytes) = refl
kind_cleared n (held.Link target) = refl

dir_gone : (m : Inodes) (g : Option NameEntry) (q : ℕ) → is_dir_node (option_map node_of (get (given_gone m g) q)) ≡ is_dir_node (option_map node_of (get m q))
dir_gone m (Some (Ino j)) q = look_same (λ o. is_dir_node (option_map node_of o)) let_go kind_bared m j q
dir_gone m (Some White) q = refl
dir_gone m None q = refl

dir_dropped : (w : Bool) (m : Inodes) (d : ℕ) (n : List ℕ) (q : ℕ) → is_dir_node (option_map node_of (get (dropped_at w m d n) q)) ≡ is_dir_node (option_map node_of (get m q))
dir_dropped true m d n q = look_same (λ o. is_dir_node (option_map node_of o)) (with_content (put_in n White)) (λ x. kind_put n White x.content) m d q
dir_dropped false m d n q = look_same (λ o. is_dir_node (option_map node_of o)) (with_content (cleared_in n)) (λ x. kind_cleared n x.content) m d q

-- ---- whole edits

below_as : (m n : Inodes) (next : ℕ) → ((q : ℕ) → is_some (get n q) ≡ is_some (get m q)) → ((i : ℕ) → IsSome (get m i) → i < next) → (i : ℕ) → IsSome (get n i) → i < next
below_as m n next same below i some = below i (sym (same i) ∙ some)

-- a name that is removed
pub kept-removed : (n p q : Inodes) (next : ℕ) (g : Option NameEntry) (w : Bool) (d : ℕ) (name : List ℕ) → IsKept n next → g ≡ entry name (get n d) → IsBareAt n g → is_dir_node (option_map node_of (get n d)) ≡ true
    → p ≡ given_gone n g → q ≡ dropped_at w p d name → IsKept q next
kept-removed n p q next g w d name kept given bare dir gone dropped =
    subst (λ x. IsKept x next) (sym (dropped ∙ ap (λ x. dropped_at w x d name) gone)) (record {
      below = below_as n _ next (λ i. there_dropped w (given_gone n g) d name i ∙ there_gone n g i) kept.below;
      counts = λ i.
          let fall = times_dropped w (given_gone n g) d i name (dir_gone n g d ∙ dir) in
          let stay = times_given_gone n g i bare in
          let weigh = weight_gone n g i d name bare in
          let known : optional (weight i) g ≡ optional (weight i) (entry name (get n d)) = ap (optional (weight i)) given in
          let links = links_dropped w (given_gone n g) d name i in
          let lose = links_gone n g i in
          let before = kept.counts i in
          omega (arith, fall, stay, weigh, known, links, lose, before);
      named = named_removed n g w d name kept.named given bare;
    })

-- a further name of a node
entry_gained : (m : Inodes) (j i : ℕ) (n : List ℕ) → entry n (get (edited gained m j) i) ≡ entry n (get m i)
entry_gained m j i n = look_same (entry n) gained (λ x. refl) m j i

times_gained : (m : Inodes) (j i : ℕ) → times (nodes_of (edited gained m j)) i ≡ times (nodes_of m) i
times_gained m j i = ap (λ x. times x i) (kept-same (λ (x : Inode). Some (node_of x)) gained m j (λ x. refl))

pub kept-linked : (n p q : Inodes) (next j d : ℕ) (name : List ℕ) → IsKept n next → IsSome (get n j) → parent_in (option_map node_of (get n j)) ≡ None → is_given (entry name (get n d)) ≡ false → is_dir_node (option_map node_of (get n d)) ≡ true
    → p ≡ edited gained n j → q ≡ put_at p d name (Ino j) → IsKept q next
kept-linked n p q next j d name kept there file new dir more put =
    subst (λ x. IsKept x next) (sym (put ∙ ap (λ x. put_at x d name (Ino j)) more)) (record {
      below = below_as n _ next (λ i. there_edited _ (edited gained n j) d i ∙ there_edited gained n j i) kept.below;
      counts = λ i.
          let rise = times_put_at (edited gained n j) d i name (Ino j) (look_same (λ o. is_dir_node (option_map node_of o)) gained (λ x. refl) n j d ∙ dir) in
          let stay = times_gained n j i in
          let none : optional (weight i) (entry name (get (edited gained n j) d)) ≡ 0 = weightless i _ (ap is_given (entry_gained n j d name) ∙ new) in
          let links = links_edited (put_in name (Ino j)) (edited gained n j) d i in
          let gain = links_gained n j i there in
          let before = kept.counts i in
          omega (arith, rise, stay, none, links, gain, before);
      named = named_linked (edited gained n j) j d name (named_gained n j kept.named) (look_same (λ o. parent_in (option_map node_of o)) gained (λ x. refl) n j j ∙ file)
          (ap is_given (entry_gained n j d name) ∙ new) (look_same (λ o. is_dir_node (option_map node_of o)) gained (λ x. refl) n j d ∙ dir);
    })

-- a whiteout that goes
pub kept-cleared : (m n : Inodes) (next d : ℕ) (name : List ℕ) → IsKept m next → is_given (entry name (get m d)) ≡ false → n ≡ cleared_at m d name → IsKept n next
kept-cleared m n next d name kept white is =
    subst (λ x. IsKept x next) (sym is) (record {
      below = below_as m _ next (λ i. there_edited _ m d i) kept.below;
      counts = λ i.
          let fall = times_cleared_at m d i name in
          let none = weightless i (entry name (get m d)) white in
          let links = links_edited (cleared_in name) m d i in
          let before = kept.counts i in
          omega (arith, fall, none, links, before);
      named = named_cleared m d name kept.named white;
    })

-- an edit of what contracts see of a node elsewhere than in names
pub kept-quiet : (g : Content → Content) (m n : Inodes) (next k : ℕ) → ((name : List ℕ) (c : Content) → entry_in name (Some (shown (g c))) ≡ entry_in name (Some (shown c)))
    → ((c : Content) → parent_in (Some (shown (g c))) ≡ parent_in (Some (shown c))) → ((c : Content) → name_of (g c) ≡ name_of c)
    → ((i : ℕ) → times (nodes_of (edited (with_content g) m k)) i ≡ times (nodes_of m) i) → IsKept m next → n ≡ edited (with_content g) m k → IsKept n next
kept-quiet g m n next k same parents names times_same kept is =
    subst (λ x. IsKept x next) (sym is) (record {
      below = below_as m _ next (λ i. there_edited _ m k i) kept.below;
      counts = λ i. links_edited g m k i ∙ kept.counts i ∙ sym (times_same i);
      named = named_quiet g m k same parents names kept.named;
    })

-- ---- a new node

fresh_links : (m : Inodes) (k i : ℕ) (x : Inode) → get m k ≡ None → x.links ≡ 1 → links_of (get (insert m k x) i) ≡ links_of (get m i) + weight i (Ino k)
fresh_links m k i x none one = ap links_of (get-insert nat_cmp_total m k x i) ∙ by_case (eq_by_cmp nat_cmp i k) refl
  where
    by_case : (b : Bool) → eq_by_cmp nat_cmp i k ≡ b → links_of (cond b (Some x) (get m i)) ≡ links_of (get m i) + weight i (Ino k)
    by_case true e =
        let w = weight_at i k true e in
        let zero : links_of (get m i) ≡ 0 = ap links_of (ap (get m) (same_number i k e) ∙ none) in
        omega (arith, w, zero, one)
    by_case false e = let w = weight_at i k false e in omega (arith, w)

fresh_below : (m : Inodes) (k next : ℕ) (x : Inode) → k < next → ((i : ℕ) → IsSome (get m i) → i < next) → (i : ℕ) → IsSome (get (insert m k x) i) → i < next
fresh_below m k next x less below i some = by_case (eq_by_cmp nat_cmp i k) refl (sym (ap is_some (get-insert nat_cmp_total m k x i)) ∙ some)
  where
    by_case : (b : Bool) → eq_by_cmp nat_cmp i k ≡ b → is_some (cond b (Some x) (get m i)) ≡ true → i < next
    by_case true e s = subst (λ k. k < next) (sym (same_number i k e)) less
    by_case false e s = below i s

fresh_times : (m : Inodes) (k i : ℕ) (x : Inode) → get m k ≡ None → ((n : List ℕ) → is_given (entry n (Some x)) ≡ false) → times (nodes_of (insert m k x)) i ≡ times (nodes_of m) i
fresh_times m k i x none bare =
    ap (λ y. times y i) (kept-insert (λ (x : Inode). Some (node_of x)) m k x none)
    ∙ times_new (nodes_of m) k i (node_of x) (get-nodes m k ∙ ap (option_map node_of) none) bare

fresh_other : (m : Inodes) (k d : ℕ) (x : Inode) → d < k → get (insert m k x) d ≡ get m d
fresh_other m k d x less = get-insert nat_cmp_total m k x d ∙ by_case (eq_by_cmp nat_cmp d k) refl
  where
    by_case : (b : Bool) → eq_by_cmp nat_cmp d k ≡ b → cond b (Some x) (get m d) ≡ get m d
    by_case true e = absurd (let same : d ≡ k = same_number d k e in omega (arith, same, less))
    by_case false e = refl

-- no name gives a number that has no node
fresh_entry : (n : Inodes) (next k : ℕ) → IsKept n next → get n k ≡ None → (d : ℕ) (name : List ℕ) → entry name (get n d) ≡ Some (Ino k) → ⊥
fresh_entry n next k kept none d name is =
    let fall = times_cleared_at n d k name in
    let one : optional (weight k) (entry name (get n d)) ≡ 1 = ap (optional (weight k)) is ∙ weight_at k k true (ap is_eq (tied_itself nat_cmp_total k)) in
    let zero : times (nodes_of n) k ≡ 0 = sym (kept.counts k) ∙ ap links_of none in
    omega (arith, fall, one, zero)

pub kept-made : (n p q : Inodes) (next : ℕ) (x : Inode) (d : ℕ) (name : List ℕ) → IsKept n next → get n next ≡ None → x.links ≡ 1 → ((name : List ℕ) → is_given (entry name (Some x)) ≡ false)
    → ((p : ℕ) → parent_in (option_map node_of (Some x)) ≡ Some p → (p ≡ d) × (own_name (Some x) ≡ Some name)) → d < next → is_given (entry name (get n d)) ≡ false → is_dir_node (option_map node_of (get n d)) ≡ true → p ≡ insert n next x → q ≡ put_at p d name (Ino next) → IsKept q (next + 1)
kept-made n p q next x d name kept none one bare known less new dir made put =
    let other : get (insert n next x) d ≡ get n d = fresh_other n next d x less in
    subst (λ y. IsKept y (next + 1)) (sym (put ∙ ap (λ y. put_at y d name (Ino next)) made)) (record {
      below = below_as (insert n next x) _ (next + 1) (λ i. there_edited _ (insert n next x) d i)
          (fresh_below n next (next + 1) x (omega arith) (λ i some. let h = kept.below i some in omega (arith, h)));
      counts = λ i.
          let rise = times_put_at (insert n next x) d i name (Ino next) (ap (λ o. is_dir_node (option_map node_of o)) other ∙ dir) in
          let stay = fresh_times n next i x none bare in
          let nothing : optional (weight i) (entry name (get (insert n next x) d)) ≡ 0 = weightless i _ (ap (λ o. is_given (entry name o)) other ∙ new) in
          let links = links_edited (put_in name (Ino next)) (insert n next x) d i in
          let gain = fresh_links n next i x none one in
          let before = kept.counts i in
          omega (arith, rise, stay, nothing, links, gain, before);
      named = named_made n next x d name kept.named none (fresh_entry n next next kept none) bare known (λ same. omega (arith, same, less)) new dir;
    })

-- ---- a name of a directory that is to be dropped

links_lost : (m : Inodes) (e : NameEntry) (i : ℕ) → links_of (get (given_lost m e) i) ≡ links_of (get m i) - weight i e
links_lost m (Ino j) i = ap links_of (get-edited lost m j i) ∙ fewer lost (λ x. refl) (get m i) (eq_by_cmp nat_cmp i j) (weight i (Ino j)) (weight_at i j (eq_by_cmp nat_cmp i j) refl)
links_lost m White i = omega arith

there_lost : (m : Inodes) (e : NameEntry) (q : ℕ) → is_some (get (given_lost m e) q) ≡ is_some (get m q)
there_lost m (Ino i) q = there_edited lost m i q
there_lost m White q = refl

nodes_lost : (m : Inodes) (e : NameEntry) → nodes_of (given_lost m e) ≡ nodes_of m
nodes_lost m (Ino i) = kept-same (λ (x : Inode). Some (node_of x)) lost m i (λ x. ap Some (shown_nameless x.content))
nodes_lost m White = refl

pub kept-lost : (m n p : Inodes) (next d : ℕ) (name : List ℕ) (e : NameEntry) → IsKept m next → entry name (get m d) ≡ Some e → n ≡ cleared_at m d name → p ≡ given_lost n e → IsKept p next
kept-lost m n p next d name e kept given cleared is =
    subst (λ x. IsKept x next) (sym (is ∙ ap (λ x. given_lost x e) cleared)) (record {
      below = below_as m _ next (λ i. there_lost (cleared_at m d name) e i ∙ there_edited _ m d i) kept.below;
      counts = λ i.
          let fall = times_cleared_at m d i name in
          let known : optional (weight i) (entry name (get m d)) ≡ weight i e = ap (optional (weight i)) given in
          let same : times (nodes_of (given_lost (cleared_at m d name) e)) i ≡ times (nodes_of (cleared_at m d name)) i = ap (λ x. times x i) (nodes_lost (cleared_at m d name) e) in
          let lose = links_lost (cleared_at m d name) e i in
          let links = links_edited (cleared_in name) m d i in
          let before = kept.counts i in
          omega (arith, fall, known, same, lose, links, before);
      named = named_lost m e d name kept.named (sym given);
    })

-- a node that no name gives stays so
pub unnamed-lost : (m n p : Inodes) (d : ℕ) (name : List ℕ) (e : NameEntry) → links_of (get m d) ≡ 0 → n ≡ cleared_at m d name → p ≡ given_lost n e → links_of (get p d) ≡ 0
unnamed-lost m n p d name e zero cleared is =
    let lose = links_lost n e d in
    let links : links_of (get n d) ≡ links_of (get m d) = ap (λ (x : Inodes). links_of (get x d)) cleared ∙ links_edited (cleared_in name) m d d in
    ap (λ (x : Inodes). links_of (get x d)) is ∙ omega (arith, lose, links, zero)

-- nodes that lose a name keep theirs
pub count-lost : (n p : Inodes) (d : ℕ) (e : NameEntry) → p ≡ given_lost n e → name_count (get p d) ≡ name_count (get n d)
count-lost n p d (Ino i) is =
    ap (λ (x : Inodes). name_count (get x d)) is
    ∙ look_same name_count lost (λ x. ap (λ (y : Node). length (entries (names_in (Some y)))) (shown_nameless x.content)) n i d
count-lost n p d White is = ap (λ (x : Inodes). name_count (get x d)) is

-- ---- a node that is forgotten

pub kept-forgotten : (m n : Inodes) (next k : ℕ) → IsKept m next → ((n : List ℕ) → is_given (entry n (get m k)) ≡ false) → links_of (get m k) ≡ 0 → n ≡ remove m k → IsKept n next
kept-forgotten m n next k kept bare zero is =
    subst (λ y. IsKept y next) (sym is) (record {
      below = λ i some. kept.below i (below_case i (eq_by_cmp nat_cmp i k) (sym (ap is_some (get-remove nat_cmp_total m k i)) ∙ some));
      counts = λ i.
          ap links_of (get-remove nat_cmp_total m k i) ∙ links_case i (eq_by_cmp nat_cmp i k) refl ∙ kept.counts i
          ∙ sym (ap (λ y. times y i) (kept-remove (λ (x : Inode). Some (node_of x)) m k)
          ∙ times_gone (nodes_of m) k i (λ n. ap (λ o. is_given (entry_in n o)) (get-nodes m k) ∙ bare n));
      named = named_forgotten m k kept.named bare;
    })
  where
    below_case : (i : ℕ) (b : Bool) → is_some (cond b None (get m i)) ≡ true → IsSome (get m i)
    below_case i true s = absurd (no_clash s)
    below_case i false s = s

    links_case : (i : ℕ) (b : Bool) → eq_by_cmp nat_cmp i k ≡ b → links_of (cond b None (get m i)) ≡ links_of (get m i)
    links_case i true e = sym (ap (λ j. links_of (get m j)) (same_number i k e) ∙ zero)
    links_case i false e = refl

-- ---- a name that is renamed

weight_other : (i : ℕ) (name n : List ℕ) (w : Bool) (m : Inodes) (d q : ℕ) → (q ≡ d → name ≡ n → ⊥) → optional (weight i) (entry name (get (dropped_at w m d n) q)) ≡ optional (weight i) (entry name (get m q))
weight_other i name n true m d q apart = ap (optional (weight i)) (entry_edited (with_content (put_in n White)) m d q name ∙ by_case (eq_by_cmp nat_cmp q d) refl (get m q))
  where
    in_name : (b : Bool) → eq_by_cmp name_cmp name n ≡ b → q ≡ d → (o : Option NameEntry) → cond b (Some White) o ≡ o
    in_name true e same o = absurd (apart same (same_name name n e))
    in_name false e same o = refl

    in_content : q ≡ d → (c : Content) → entry_in name (Some (shown (put_in n White c))) ≡ entry_in name (Some (shown c))
    in_content same (held.Dir parent opaque own names) = get-insert nat_list_cmp_total names.names n White name ∙ in_name (eq_by_cmp name_cmp name n) refl same (get names.names name)
    in_content same (held.File bytes) = refl
    in_content same (held.Link target) = refl

    by_case : (b : Bool) → eq_by_cmp nat_cmp q d ≡ b → (o : Option Inode) → entry name (cond b (option_map (with_content (put_in n White)) o) o) ≡ entry name o
    by_case true e (Some x) = in_content (same_number q d e) x.content
    by_case true e None = refl
    by_case false e o = refl
weight_other i name n false m d q apart = ap (optional (weight i)) (entry_edited (with_content (cleared_in n)) m d q name ∙ by_case (eq_by_cmp nat_cmp q d) refl (get m q))
  where
    in_name : (b : Bool) → eq_by_cmp name_cmp name n ≡ b → q ≡ d → (o : Option NameEntry) → cond b None o ≡ o
    in_name true e same o = absurd (apart same (same_name name n e))
    in_name false e same o = refl

    in_content : q ≡ d → (c : Content) → entry_in name (Some (shown (cleared_in n c))) ≡ entry_in name (Some (shown c))
    in_content same (held.Dir parent opaque own names) = get-remove nat_list_cmp_total names.names n name ∙ in_name (eq_by_cmp name_cmp name n) refl same (get names.names name)
    in_content same (held.File bytes) = refl
    in_content same (held.Link target) = refl

    by_case : (b : Bool) → eq_by_cmp nat_cmp q d ≡ b → (o : Option Inode) → entry name (cond b (option_map (with_content (cleared_in n)) o) o) ≡ entry name o
    by_case true e (Some x) = in_content (same_number q d e) x.content
    by_case true e None = refl
    by_case false e o = refl

pub kept-renamed : (n p q r : Inodes) (next : ℕ) (g target : Option NameEntry) (w hides : Bool) (from : ℕ) (old : List ℕ) (to : ℕ) (new : List ℕ) → IsKept n next → g ≡ entry old (get n from) → target ≡ entry new (get n to)
    → is_given g ≡ true → (target ≡ g → ⊥) → IsBareAt n target → is_dir_node (option_map node_of (get n from)) ≡ true → is_dir_node (option_map node_of (get n to)) ≡ true
    → p ≡ given_gone n target → q ≡ dropped_at w p from old → r ≡ given_to q to new hides g → IsKept r next
kept-renamed n p q r next None target w hides from old to new kept given there some apart bare from_dir to_dir gone dropped moved_is = absurd (no_clash some)
kept-renamed n p q r next (Some White) target w hides from old to new kept given there some apart bare from_dir to_dir gone dropped moved_is = absurd (no_clash some)
kept-renamed n p q r next (Some (Ino k)) target w hides from old to new kept given there some apart bare from_dir to_dir gone dropped moved_is =
    let m1 = given_gone n target in
    let m2 = dropped_at w (given_gone n target) from old in
    let m3 = put_at (dropped_at w (given_gone n target) from old) to new (Ino k) in
    let spot : to ≡ from → new ≡ old → ⊥ = λ same named. apart (there ∙ (λ i. entry (named i) (get n (same i))) ∙ sym given) in
    subst (λ x. IsKept x next) (sym (moved_is ∙ (λ i. given_to (dropped i) to new hides (Some (Ino k))) ∙ (λ i. given_to (dropped_at w (gone i) from old) to new hides (Some (Ino k))))) (record {
      below = below_as n _ next (λ i. there_given m2 to new hides (Some (Ino k)) i ∙ there_dropped w m1 from old i ∙ there_gone n target i) kept.below;
      counts = λ i.
          let stay = times_given_gone n target i bare in
          let fall = times_dropped w m1 from i old (dir_gone n target from ∙ from_dir) in
          let weigh = weight_gone n target i from old bare in
          let known : weight i (Ino k) ≡ optional (weight i) (entry old (get n from)) = ap (optional (weight i)) given in
          let rise = times_put_at m2 to i new (Ino k) (dir_dropped w m1 from old to ∙ dir_gone n target to ∙ to_dir) in
          let weigh_to : optional (weight i) (entry new (get m2 to)) ≡ optional (weight i) target =
          weight_other i new old w m1 from to spot ∙ weight_gone n target i to new bare ∙ ap (optional (weight i)) (sym there) in
          let place = times_placed m3 k i to new hides in
          let links = links_given m2 to new hides (Some (Ino k)) i in
          let same = links_dropped w m1 from old i in
          let lose = links_gone n target i in
          let before = kept.counts i in
          omega (arith, stay, fall, weigh, known, rise, weigh_to, place, links, same, lose, before);
      named = named_renamed n k target w hides from old to new kept.named given there apart bare to_dir;
    })

-- ---- the first node

-- a root without names, alone
pub kept-first : (x : Inode) (m : Inodes) → x.links ≡ 0 → ((n : List ℕ) → is_given (entry n (Some x)) ≡ false) → own_name (Some x) ≡ None → m ≡ insert empty 1 x → IsKept m 2
kept-first x m none bare own is =
    subst (λ y. IsKept y 2) (sym is) (record {
      below = λ i some. fresh_below no_nodes 1 2 x (omega arith) (λ i some. absurd (no_clash (sym (ap is_some (get-empty nat_cmp i)) ∙ some))) i some;
      counts = λ i. ap links_of (get-insert nat_cmp_total no_nodes 1 x i) ∙ links_case i (eq_by_cmp nat_cmp i 1)
          ∙ sym (fresh_times no_nodes 1 i x (get-empty nat_cmp 1) bare ∙ no_times i);
      named = named_first 1 x bare own;
    })
  where
    links_case : (i : ℕ) (b : Bool) → links_of (cond b (Some x) (get no_nodes i)) ≡ 0
    links_case i true = none
    links_case i false = ap links_of (get-empty nat_cmp i)

    no_times : (i : ℕ) → times (nodes_of no_nodes) i ≡ 0
    no_times i = total-zero nat_cmp_total (names_giving i) exact_unsigned (nodes_of no_nodes)
        (λ q. ap (optional (names_giving i)) (get-nodes no_nodes q ∙ ap (option_map node_of) (get-empty nat_cmp q)))
