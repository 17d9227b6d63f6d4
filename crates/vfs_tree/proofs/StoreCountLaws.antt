-- What is known of a store's names stays right at each edit.
use Rattle.std.proofs.Common.{◌≡◌, ℕ, zero, suc, nat_eq, ◌+◌, ◌≤◌, Bool, true, false, ◌&&◌, cond, not, List, [], ◌∷◌, map, OnOk, OnErr, Result, Ok, Err, refl, ap, sym, ◌∙◌, subst, arith}
use Rattle.std.specs.Prelude.{Option, Some, None, option_map, IsSome, is_some, ◌||◌}
use Rattle.std.specs.List.{list_any}
use Rattle.std.specs.Ordering.{nat_cmp, eq_by_cmp}
use Rattle.std.specs.Cmp.{nat_cmp_total}
use Rattle.std.specs.FinMap.{FinMap, get, insert, empty, values, get-empty, get-insert}
use Rattle.std.proofs.lemmas.Bool.Decides.{nat_tests}
use Rattle.finite_maps.proofs.EntryLaws.{entries-empty}
use Rattle.vfs_tree.specs.Bytes.{resize_bytes, write_bytes}
use Rattle.vfs_tree.specs.Counts.{total, optional, weight, names_giving, times, above_zero, gives_node, gives_some, gives_some_at}
use Rattle.vfs_tree.specs.Edits.{made, with_names, with_node}
use Rattle.vfs_tree.specs.FileEdits.{with_bytes, written, resized}
use Rattle.vfs_tree.specs.NameCounts.{known_of, unsure_if, replaced, lowered_for, first_named, AreRight, AreCounts}
use Rattle.vfs_tree.specs.Nodes.{AreBelow, entry_in, is_dir_node, is_given}
use Rattle.vfs_tree.specs.StoreEdits.{entry_of, set_entry, clear_entry, emptied, moved, with_node_at}
use Rattle.vfs_tree.specs.Start.{empty_store, empty_dir}
use Rattle.vfs_tree.specs.Undo.{refilled, taken_gives, place_gives}
use Rattle.vfs_tree.specs.Views.{is_named_in}
use Rattle.vfs_tree.specs.declared.name_counts.NameCounts.{NameCounts}
use Rattle.vfs_tree.specs.declared.node.NameEntry.{NameEntry}
use Rattle.vfs_tree.specs.declared.node.NameEntry.TheVariants.{Ino, White}
use Rattle.vfs_tree.specs.declared.node.Node.{Node}
use Rattle.vfs_tree.specs.declared.node.Node.TheVariants.{Dir, File, Link}
use Rattle.vfs_tree.specs.declared.node.Store.{Store}
use Rattle.vfs_tree.specs.declared.store_edits.Taken.{Taken}
use Rattle.vfs_tree.proofs.CountLaws.{named_times, times_changed, times_put, times_cleared, times_moved, times_bytes, emptied_sum}
use Rattle.vfs_tree.proofs.Totals.{total-insert}
use Rattle.vfs_tree.proofs.NameCountLaws.{sure_same, sure_lowered, sure_replaced, sure_first}
use Rattle.vfs_tree.proofs.NodeLaws.{same_number}

no_clash : false ≡ true → ⊥
no_clash e = let clash : false ≡ true = e in cc

-- ---- whether a node is named

pub is_above_zero : (n : ℕ) → not (nat_eq n 0) ≡ above_zero n
is_above_zero zero = refl
is_above_zero (suc n) = let no : nat_eq (suc n) 0 ≡ false = grind (arith, nat_tests) in ap not no

-- a count that is known tells it
known_tells : (c : NameCounts) (t : Store) (i n : ℕ) (b : Bool) → c.sure ≡ b → AreCounts c t → cond b (get c.known i) None ≡ Some n → is_named_in t i ≡ above_zero n
known_tells c t i n true sure right is = named_times t i ∙ ap above_zero (sym ((right sure).counts i n is))
known_tells c t i n false sure right is = absurd (let clash : None ≡ Some n = is in cc)

pub named_known : (c : NameCounts) (t u : Store) (i n : ℕ) → t ≡ u → AreCounts c t → known_of c i ≡ Some n → is_named_in u i ≡ above_zero n
named_known c t u i n same right is = ap (λ s. is_named_in s i) (sym same) ∙ known_tells c t i n c.sure refl right is

-- ---- counts of a store that is another one's

pub counts_same : (c : NameCounts) (t u : Store) → u ≡ t → AreCounts c t → AreCounts c u
counts_same c t u same right = subst (AreCounts c) (sym same) right

pub counts_unsure : (c : NameCounts) (t : Store) → c.sure ≡ false → AreCounts c t
counts_unsure c t is sure = absurd (no_clash (sym is ∙ sure))

-- a store with another node, whose names count for as much
counts_alike : (c : NameCounts) (t : Store) (f : Node → Node) (i : ℕ) → AreCounts c t → ((j : ℕ) → times (with_node f t.nodes i (get t.nodes i)) j ≡ times t.nodes j) → AreCounts c (with_node_at f t i)
counts_alike c t f i right same = sure_same c (times t.nodes) (times (with_node f t.nodes i (get t.nodes i))) t.next right same

pub counts_moved : (c : NameCounts) (t u : Store) (i to : ℕ) (hides : Bool) → u ≡ with_node_at (moved to hides) t i → AreCounts c t → AreCounts c u
counts_moved c t u i to hides is right = counts_same c _ u is (counts_alike c t (moved to hides) i right (λ j. times_moved t.nodes i j to hides))

counts_bytes : (c : NameCounts) (t u : Store) (f : List ℕ → List ℕ) (i : ℕ) → u ≡ with_node_at (with_bytes f) t i → AreCounts c t → AreCounts c u
counts_bytes c t u f i is right = counts_same c _ u is (counts_alike c t (with_bytes f) i right (λ j. times_bytes f t.nodes i j))

pub counts_bytes_or : {X E : Type 0} (r : Result X E) (c : NameCounts) (t u : Store) (f : List ℕ → List ℕ) (i : ℕ) → OnOk r (u ≡ with_node_at (with_bytes f) t i) → OnErr r (u ≡ t) → AreCounts c t → AreCounts c u
counts_bytes_or (Ok x) c t u f i is err right = counts_bytes c t u f i is right
counts_bytes_or (Err e) c t u f i is err right = counts_same c t u err right

-- ---- a name's entry

-- a node that is no directory has no names to change
no_dir_sum : (i : ℕ) (n : List ℕ) (e : NameEntry) (o : Option Node) → is_dir_node o ≡ false → optional (names_giving i) (option_map (with_names (λ names. insert names n e)) o) ≡ optional (names_giving i) o
no_dir_sum i n e (Some (Dir parent opaque names)) none = absurd (no_clash (sym none))
no_dir_sum i n e (Some (File bytes)) none = refl
no_dir_sum i n e (Some (Link target)) none = refl
no_dir_sum i n e None none = refl

put_case : (t : Store) (c : NameCounts) (dir : ℕ) (n : List ℕ) (e : NameEntry) (b : Bool) → is_dir_node (get t.nodes dir) ≡ b → AreCounts c t
    → AreCounts (cond b (replaced t.next c (entry_of t dir n) e) c) (set_entry t dir n e)
put_case t c dir n e true there right = sure_replaced c (times t.nodes) (times (set_entry t dir n e).nodes) t.next (entry_of t dir n) e right (λ j. times_put t.nodes dir j n e there)
put_case t c dir n e false there right = counts_alike c t (with_names (λ names. insert names n e)) dir right (λ j.
    let sum = times_changed (with_names (λ names. insert names n e)) t.nodes dir j in
    let same = no_dir_sum j n e (get t.nodes dir) there in
    omega (arith, sum, same))

pub counts_put : (t u : Store) (c d : NameCounts) (dir : ℕ) (n : List ℕ) (before : Option NameEntry) (e : NameEntry) (b : Bool) → b ≡ is_dir_node (get t.nodes dir) → before ≡ entry_of t dir n → u ≡ set_entry t dir n e
    → d ≡ cond b (replaced u.next c before e) c → AreCounts c t → AreCounts d u
counts_put t u c d dir n before e b there held is now right =
    let same : d ≡ cond b (replaced t.next c (entry_of t dir n) e) c = now ∙ (λ i. cond b (replaced ((is i).next) c (held i) e) c) in
    subst (λ x. AreCounts x u) (sym same) (counts_same _ _ u is (put_case t c dir n e b (sym there) right))

-- a name that has an entry is one of a directory
dir_of_entry : (n : List ℕ) (o : Option Node) → IsSome (entry_in n o) → is_dir_node o ≡ true
dir_of_entry n (Some (Dir parent opaque names)) some = refl
dir_of_entry n (Some (File bytes)) some = absurd (no_clash some)
dir_of_entry n (Some (Link target)) some = absurd (no_clash some)
dir_of_entry n None some = absurd (no_clash some)

pub counts_replaced : (t u v : Store) (c d : NameCounts) (dir : ℕ) (n : List ℕ) (before : Option NameEntry) (e : NameEntry) → t ≡ v → IsSome (entry_of v dir n) → before ≡ entry_of t dir n → u ≡ set_entry t dir n e
    → d ≡ replaced u.next c before e → AreCounts c t → AreCounts d u
counts_replaced t u v c d dir n before e same some held is now right =
    counts_put t u c d dir n before e true (sym (dir_of_entry n (get t.nodes dir) (subst (λ s. IsSome (entry_of s dir n)) (sym same) some))) held is now right

pub counts_cleared : (t u : Store) (c d : NameCounts) (dir : ℕ) (n : List ℕ) (before : Option NameEntry) → before ≡ entry_of t dir n → u ≡ clear_entry t dir n → d ≡ lowered_for c before → AreCounts c t → AreCounts d u
counts_cleared t u c d dir n before held is now right =
    let same : d ≡ lowered_for c (entry_of t dir n) = now ∙ ap (lowered_for c) held in
    subst (λ x. AreCounts x u) (sym same) (counts_same _ _ u is
    (sure_lowered c (times t.nodes) (times (clear_entry t dir n).nodes) t.next (entry_of t dir n) right (λ j. times_cleared t.nodes dir j n)))

-- ---- names that are taken out and given back

either_left : (a b : Bool) → (a || b) ≡ false → a ≡ false
either_left true b e = absurd (no_clash (sym e))
either_left false b e = refl

either_right : (a b : Bool) → (a || b) ≡ false → b ≡ false
either_right true b e = absurd (no_clash (sym e))
either_right false b e = e

no_weight : (i : ℕ) (xs : List NameEntry) → list_any gives_node xs ≡ false → total (weight i) xs ≡ 0
no_weight i [] none = refl
no_weight i (Ino j ∷ xs) none = absurd (no_clash (sym none))
no_weight i (White ∷ xs) none = let rest = no_weight i xs none in omega (arith, rest)

-- a node none of whose names gives one
none_given : (i : ℕ) (o : Option Node) → gives_some_at o ≡ false → optional (names_giving i) o ≡ 0
none_given i (Some (Dir parent opaque names)) none = no_weight i (values names) none
none_given i (Some (File bytes)) none = refl
none_given i (Some (Link target)) none = refl
none_given i None none = refl

-- a node that gets names which give none
none_refilled : (i : ℕ) (taken : Taken) (o : Option Node) → taken_gives (Some taken) ≡ false → optional (names_giving i) (option_map (with_names (λ _. taken.names)) o) ≤ optional (names_giving i) o
none_refilled i taken (Some (Dir parent opaque names)) none = let zero = no_weight i (values taken.names) none in omega (arith, zero)
none_refilled i taken (Some (File bytes)) none = omega arith
none_refilled i taken (Some (Link target)) none = omega arith
none_refilled i taken None none = omega arith

-- taking names out counts for no more, and giving those back that give no node too
fewer_emptied : (t : Store) (given : Option NameEntry) (j : ℕ) → times (emptied t given).nodes j ≤ times t.nodes j
fewer_emptied t (Some (Ino i)) j = let sum = times_changed (with_names (λ names. empty)) t.nodes i j in let none = emptied_sum j (get t.nodes i) in omega (arith, sum, none)
fewer_emptied t (Some White) j = omega arith
fewer_emptied t None j = omega arith

fewer_refilled : (t : Store) (taken : Option Taken) (j : ℕ) → taken_gives taken ≡ false → times (refilled t taken).nodes j ≤ times t.nodes j
fewer_refilled t (Some taken) j none = let sum = times_changed (with_names (λ _. taken.names)) t.nodes taken.ino j in let less = none_refilled j taken (get t.nodes taken.ino) none in omega (arith, sum, less)
fewer_refilled t None j none = omega arith

counts_bare_emptied : (c : NameCounts) (t u : Store) (given : Option NameEntry) (taken : Option Taken) → u ≡ emptied t given → refilled u taken ≡ t → taken_gives taken ≡ false → AreCounts c t → AreCounts c u
counts_bare_emptied c t u given taken is back none right =
    counts_same c _ u is (sure_same c (times t.nodes) (times (emptied t given).nodes) (emptied t given).next (subst (λ k. AreCounts c (record t { next = k })) (kept_next given) right) alike)
  where
    kept_next : (given : Option NameEntry) → t.next ≡ (emptied t given).next
    kept_next (Some (Ino i)) = refl
    kept_next (Some White) = refl
    kept_next None = refl

    alike : (j : ℕ) → times (emptied t given).nodes j ≡ times t.nodes j
    alike j =
        let less = fewer_emptied t given j in
        let more : times (refilled u taken).nodes j ≤ times u.nodes j = fewer_refilled u taken j none in
        let same : times (refilled u taken).nodes j ≡ times t.nodes j = ap (λ (s : Store). times s.nodes j) back in
        let now : times u.nodes j ≡ times (emptied t given).nodes j = ap (λ (s : Store). times s.nodes j) is in
        omega (arith, less, more, same, now)

-- a directory without names that give a node gets such names
same_refilled : (i : ℕ) (taken : Taken) (o : Option Node) → taken_gives (Some taken) ≡ false → gives_some_at o ≡ false → optional (names_giving i) (option_map (with_names (λ _. taken.names)) o) ≡ optional (names_giving i) o
same_refilled i taken o none bare = let less = none_refilled i taken o none in let zero = none_given i o bare in omega (arith, less, zero)

counts_bare_refilled : (c : NameCounts) (t u : Store) (taken : Option Taken) → u ≡ refilled t taken → (taken_gives taken || place_gives t taken) ≡ false → AreCounts c t → AreCounts c u
counts_bare_refilled c t u None is none right = counts_same c t u is right
counts_bare_refilled c t u (Some taken) is none right = counts_same c _ u is (counts_alike c t (with_names (λ _. taken.names)) taken.ino right (λ j.
    let sum = times_changed (with_names (λ _. taken.names)) t.nodes taken.ino j in
    let same = same_refilled j taken (get t.nodes taken.ino) (either_left _ _ none) (either_right (taken_gives (Some taken)) _ none) in
    omega (arith, sum, same)))

-- nothing is known any more where it isn't said to be bare
unless_unsure : (c d : NameCounts) (u : Store) (b : Bool) → d ≡ unsure_if b c → (b ≡ false → AreCounts c u) → AreCounts d u
unless_unsure c d u true is right sure = absurd (no_clash (sym (last c.sure) ∙ ap (λ (x : NameCounts). x.sure) (sym is) ∙ sure))
  where
    last : (s : Bool) → (s && false) ≡ false
    last true = refl
    last false = refl
unless_unsure c d u false is right sure = record { counts = λ i n at. before.counts i n (ap (λ (x : NameCounts). get x.known i) (sym is) ∙ at); beyond = before.beyond }
  where
    first : (s : Bool) → (s && true) ≡ true → s ≡ true
    first true e = refl
    first false e = e

    before : AreRight c (times u.nodes) u.next
    before = right refl (first c.sure (ap (λ (x : NameCounts). x.sure) (sym is) ∙ sure))

pub counts_emptied : (c d : NameCounts) (t u : Store) (given : Option NameEntry) (taken : Option Taken) (b : Bool) → u ≡ emptied t given → refilled u taken ≡ t → b ≡ taken_gives taken → d ≡ unsure_if b c → AreCounts c t → AreCounts d u
counts_emptied c d t u given taken b is back told now right = unless_unsure c d u b now (λ none. counts_bare_emptied c t u given taken is back (sym told ∙ none) right)

pub counts_refilled : (c d : NameCounts) (t u : Store) (taken : Option Taken) (b : Bool) → u ≡ refilled t taken → b ≡ (taken_gives taken || place_gives t taken) → d ≡ unsure_if b c → AreCounts c t → AreCounts d u
counts_refilled c d t u taken b is told now right = unless_unsure c d u b now (λ none. counts_bare_refilled c t u taken is (sym told ∙ none) right)

-- ---- a new node

-- a node that is there keeps its number
other_node : (m : FinMap nat_cmp Node) (k d : ℕ) (node : Node) → is_dir_node (get m d) ≡ true → (IsSome (get m k) → ⊥) → get (insert m k node) d ≡ get m d
other_node m k d node there none = get-insert nat_cmp_total m k node d ∙ by_test (eq_by_cmp nat_cmp d k) refl
  where
    some_dir : (o : Option Node) → is_dir_node o ≡ true → IsSome o
    some_dir (Some x) dir = refl
    some_dir None dir = absurd (no_clash dir)

    by_test : (b : Bool) → eq_by_cmp nat_cmp d k ≡ b → cond b (Some node) (get m d) ≡ get m d
    by_test true e = absurd (none (subst (λ q. IsSome (get m q)) (same_number d k e) (some_dir (get m d) there)))
    by_test false e = refl

times_made : (t : Store) (dir j : ℕ) (n : List ℕ) (node : Node) → AreBelow t.nodes t.next → gives_some node ≡ false → is_dir_node (get t.nodes dir) ≡ true
    → times (made t dir n node).nodes j + optional (weight j) (entry_of t dir n) ≡ times t.nodes j + weight j (Ino t.next)
times_made t dir j n node below bare there =
    let none : IsSome (get t.nodes t.next) → ⊥ = λ some. let less = below t.next some in omega (arith, less) in
    let same : get (insert t.nodes t.next node) dir ≡ get t.nodes dir = other_node t.nodes t.next dir node there none in
    let new : times (insert t.nodes t.next node) j + optional (names_giving j) (get t.nodes t.next) ≡ times t.nodes j + names_giving j node = total-insert nat_cmp_total (names_giving j) t.nodes t.next node in
    let before : optional (names_giving j) (get t.nodes t.next) ≡ 0 = nothing (get t.nodes t.next) none in
    let nothing_new : names_giving j node ≡ 0 = none_given j (Some node) bare in
    let put = times_put (insert t.nodes t.next node) dir j n (Ino t.next) (ap is_dir_node same ∙ there) in
    let entry : optional (weight j) (entry_in n (get (insert t.nodes t.next node) dir)) ≡ optional (weight j) (entry_of t dir n) = ap (λ o. optional (weight j) (entry_in n o)) same in
    omega (arith, new, before, nothing_new, put, entry)
  where
    nothing : (o : Option Node) → (IsSome o → ⊥) → optional (names_giving j) o ≡ 0
    nothing (Some x) h = absurd (h refl)
    nothing None h = refl

both_true : (a b : Bool) → (a && b) ≡ true → (a ≡ true) × (b ≡ true)
both_true true b e = (refl, e)
both_true false b e = absurd (no_clash e)

not_false : (b : Bool) → not b ≡ true → b ≡ false
not_false true e = absurd (no_clash e)
not_false false e = refl

pub counts_made : (t u : Store) (c d : NameCounts) (dir : ℕ) (n : List ℕ) (node : Node) (before : Option NameEntry) (ino : ℕ) (plain : Bool) → AreBelow t.nodes t.next → plain ≡ (not (gives_some node) && is_dir_node (get t.nodes dir))
    → before ≡ entry_of t dir n → u ≡ made t dir n node → ino ≡ t.next → (d.sure ≡ true → (plain ≡ true) × (d ≡ first_named c ino before)) → AreCounts c t → AreCounts d u
counts_made t u c d dir n node before ino plain below told held is number now right sure =
    let both = both_true (not (gives_some node)) (is_dir_node (get t.nodes dir)) (sym told ∙ (now sure).0) in
    let same : d ≡ first_named c t.next (entry_of t dir n) = (now sure).1 ∙ (λ i. first_named c (number i) (held i)) in
    let kept : AreCounts (first_named c t.next (entry_of t dir n)) (made t dir n node) =
    sure_first c (times t.nodes) (times (made t dir n node).nodes) t.next (entry_of t dir n) right (λ j. times_made t dir j n node below (not_false (gives_some node) both.0) both.1) in
    subst (λ x. AreCounts x u) (sym same) (counts_same _ _ u is kept) sure

-- ---- a store that has its root alone

first_sum : (j : ℕ) → times empty_store.nodes j ≡ 0
first_sum j =
    let sum : times (insert (empty {X = Node} {R = nat_cmp}) 1 (empty_dir 1)) j + optional (names_giving j) (get (empty {X = Node} {R = nat_cmp}) 1) ≡ times (empty {X = Node} {R = nat_cmp}) j + names_giving j (empty_dir 1) =
    total-insert nat_cmp_total (names_giving j) empty 1 (empty_dir 1) in
    let none : optional (names_giving j) (get (empty {X = Node} {R = nat_cmp}) 1) ≡ 0 = ap (optional (names_giving j)) (get-empty nat_cmp 1) in
    let nothing : times (empty {X = Node} {R = nat_cmp}) j ≡ 0 = no_nodes in
    let bare : names_giving j (empty_dir 1) ≡ 0 = emptied_sum j (Some (empty_dir 1)) in
    omega (arith, sum, none, nothing, bare)
  where
    no_nodes : times (empty {X = Node} {R = nat_cmp}) j ≡ 0
    no_nodes = ap (λ (es : List (ℕ × Node)). total (names_giving j) (map (λ e. e.1) es)) (entries-empty nat_cmp)

pub counts_first : (c : NameCounts) (t : Store) → c.known ≡ empty → t ≡ empty_store → AreCounts c t
counts_first c t none is = counts_same c empty_store t is (λ sure. record {
  counts = λ i n at. absurd (let clash : None ≡ Some n = sym (ap (λ (m : FinMap nat_cmp ℕ). get m i) none ∙ get-empty nat_cmp i) ∙ at in cc);
  beyond = λ i far. first_sum i;
})
