-- How small worlds compute: each map is written by the list of its entries.
use Rattle.std.proofs.Common.{◌≡◌, ℕ, suc, ◌-◌, Bool, true, false, cond, not, T, List, [], length, refl, ap, sym, ◌∙◌, subst, arith}
use Rattle.std.specs.Prelude.{None}
use Rattle.std.specs.declared.cmp.Ordering.{Ordering}
use Rattle.std.specs.Ordering.{nat_cmp, eq_by_cmp, is_eq}
use Rattle.std.specs.Cmp.{IsTotalOrder, nat_cmp_total, alike_right, eq_by_cmp_equiv}
use Rattle.std.proofs.lemmas.Map.Lookups.{CmpEqualImpliesEq, exact_unsigned, exact_bytes}
use Rattle.std.specs.Cmp.Lexicographic.{nat_list_cmp_total}
use Rattle.std.specs.FinMap.{get, insert, empty, entries, len, find, put, is_sorted, from_sorted, get-from_sorted, entries-from_sorted, entries-insert, len-entries, remove, get-remove, same_entries_map, same_map}
use Rattle.std.specs.FinMap.Entries.{is_sorted-put, is_sorted-where_key, find-where_key, where_key}
use Rattle.finite_maps.specs.Keys.{pair_cmp}
use Rattle.finite_maps.proofs.EntryLaws.{pair_total, pair_exact, entries-empty}
use Rattle.vfs_tree.specs.Child.{steps}
use Rattle.vfs_tree.specs.Name.{name_cmp}
use Rattle.vfs_tree.specs.Place.{Seen}
use Rattle.vfs_tree.specs.Views.{facts_of}
use Rattle.vfs_tree.specs.Walk.{Walked, find as find_path}
use Rattle.vfs_tree.specs.declared.errno.Errno.TheVariants as errno
use Rattle.vfs_tree.specs.declared.walk.Found.{Found}
use Rattle.vfs_tree.specs.declared.walk.Found.TheVariants as found
use Rattle.vfs_tree.specs.declared.walk.Leaf.{Leaf}
use Rattle.vfs_tree.specs.declared.world.World.{World}
use Rattle.call_model.specs.Apply.{Applied, apply, settle}
use Rattle.call_model.specs.Rows.{way, first_way, second_way, found_at, second_found, row_at}
use Rattle.call_model.specs.declared.call.Call.{Call}

-- ---- steps

-- the steps but for the first eight, which no walk in a small world takes
pub most : ℕ
unfolding steps
most = steps - 8

pub steps_are : steps ≡ suc (suc (suc (suc (suc (suc (suc (suc most)))))))
unfolding steps most
steps_are = omega arith

-- ---- maps

holds : (b : Bool) → b ≡ true → T b
holds b e = subst T (sym e) tt

swapped : {A : Type 0} (b : Bool) (x y : A) → cond b x y ≡ cond (not b) y x
swapped true x y = refl
swapped false x y = refl

module _ {K X : Type 0} (R : K → K → Ordering) where
  pub got : (es : List (K × X)) (q : K) → is_sorted R es ≡ true → get (from_sorted {R = R} es) q ≡ find R q es
  got es q h = get-from_sorted R es q (holds _ h)

  pub listed : (es : List (K × X)) → is_sorted R es ≡ true → entries (from_sorted {R = R} es) ≡ es
  listed es h = entries-from_sorted R es (holds _ h)

  pub counted : (es : List (K × X)) → is_sorted R es ≡ true → len (from_sorted {R = R} es) ≡ length es
  counted es h = len-entries (from_sorted {R = R} es) ∙ ap length (listed es h)

  pub none : empty {X = X} {R = R} ≡ from_sorted []
  none = same_entries_map _ _ (entries-empty R ∙ sym (entries-from_sorted R [] tt))

  pub put_in : IsTotalOrder R → (es : List (K × X)) (k : K) (v : X) → is_sorted R es ≡ true → insert (from_sorted {R = R} es) k v ≡ from_sorted (put R k v es)
  put_in o es k v h =
      same_entries_map _ _ (entries-insert o (from_sorted {R = R} es) k v ∙ ap (put R k v) (listed es h) ∙ sym (entries-from_sorted R (put R k v es) (is_sorted-put R o k v es (holds _ h))))

  -- the entries at other keys
  abbrev pub without : K → List (K × X) → List (K × X)
  without k es = where_key R (λ x. not (eq_by_cmp R k x)) es

  pub put_out : IsTotalOrder R → CmpEqualImpliesEq R → (es : List (K × X)) (k : K) → is_sorted R es ≡ true → remove (from_sorted {R = R} es) k ≡ from_sorted (without k es)
  put_out o same es k h =
      let p : K → Bool = λ x. not (eq_by_cmp R k x) in
      same_map o same _ _ (λ q. get-remove o (from_sorted es) k q ∙ ap (cond (eq_by_cmp R q k) None) (got es q h)
      ∙ ap (λ b. cond b None (find R q es)) ((eq_by_cmp_equiv o).symm q k)
      ∙ swapped (eq_by_cmp R k q) None (find R q es)
      ∙ sym (get-from_sorted R (without k es) q (is_sorted-where_key R p es (holds _ h))
      ∙ find-where_key R p q (λ x t. ap (λ r. not (is_eq r)) (sym (alike_right o q x k t))) es))

-- ---- by number, by name, and by caller and descriptor

pub got_number : {X : Type 0} (es : List (ℕ × X)) (q : ℕ) → is_sorted nat_cmp es ≡ true → get (from_sorted {R = nat_cmp} es) q ≡ find nat_cmp q es
got_number = got nat_cmp

pub got_name : {X : Type 0} (es : List (List ℕ × X)) (q : List ℕ) → is_sorted name_cmp es ≡ true → get (from_sorted {R = name_cmp} es) q ≡ find name_cmp q es
got_name = got name_cmp

pub got_pair : {X : Type 0} (es : List ((ℕ × ℕ) × X)) (q : ℕ × ℕ) → is_sorted pair_cmp es ≡ true → get (from_sorted {R = pair_cmp} es) q ≡ find pair_cmp q es
got_pair = got pair_cmp

pub listed_number : {X : Type 0} (es : List (ℕ × X)) → is_sorted nat_cmp es ≡ true → entries (from_sorted {R = nat_cmp} es) ≡ es
listed_number = listed nat_cmp

pub listed_name : {X : Type 0} (es : List (List ℕ × X)) → is_sorted name_cmp es ≡ true → entries (from_sorted {R = name_cmp} es) ≡ es
listed_name = listed name_cmp

pub listed_pair : {X : Type 0} (es : List ((ℕ × ℕ) × X)) → is_sorted pair_cmp es ≡ true → entries (from_sorted {R = pair_cmp} es) ≡ es
listed_pair = listed pair_cmp

pub counted_number : {X : Type 0} (es : List (ℕ × X)) → is_sorted nat_cmp es ≡ true → len (from_sorted {R = nat_cmp} es) ≡ length es
counted_number = counted nat_cmp

pub counted_pair : {X : Type 0} (es : List ((ℕ × ℕ) × X)) → is_sorted pair_cmp es ≡ true → len (from_sorted {R = pair_cmp} es) ≡ length es
counted_pair = counted pair_cmp

pub none_number : (X : Type 0) → empty {X = X} {R = nat_cmp} ≡ from_sorted []
none_number X = none nat_cmp

pub none_name : (X : Type 0) → empty {X = X} {R = name_cmp} ≡ from_sorted []
none_name X = none name_cmp

pub none_pair : (X : Type 0) → empty {X = X} {R = pair_cmp} ≡ from_sorted []
none_pair X = none pair_cmp

pub put_number : {X : Type 0} (es : List (ℕ × X)) (k : ℕ) (v : X) → is_sorted nat_cmp es ≡ true → insert (from_sorted {R = nat_cmp} es) k v ≡ from_sorted (put nat_cmp k v es)
put_number = put_in nat_cmp nat_cmp_total

pub put_name : {X : Type 0} (es : List (List ℕ × X)) (k : List ℕ) (v : X) → is_sorted name_cmp es ≡ true → insert (from_sorted {R = name_cmp} es) k v ≡ from_sorted (put name_cmp k v es)
put_name = put_in name_cmp nat_list_cmp_total

pub put_pair : {X : Type 0} (es : List ((ℕ × ℕ) × X)) (k : ℕ × ℕ) (v : X) → is_sorted pair_cmp es ≡ true → insert (from_sorted {R = pair_cmp} es) k v ≡ from_sorted (put pair_cmp k v es)
put_pair = put_in pair_cmp pair_total

pub out_number : {X : Type 0} (es : List (ℕ × X)) (k : ℕ) → is_sorted nat_cmp es ≡ true → remove (from_sorted {R = nat_cmp} es) k ≡ from_sorted (without nat_cmp k es)
out_number = put_out nat_cmp nat_cmp_total exact_unsigned

pub out_name : {X : Type 0} (es : List (List ℕ × X)) (k : List ℕ) → is_sorted name_cmp es ≡ true → remove (from_sorted {R = name_cmp} es) k ≡ from_sorted (without name_cmp k es)
out_name = put_out name_cmp nat_list_cmp_total exact_bytes

pub out_pair : {X : Type 0} (es : List ((ℕ × ℕ) × X)) (k : ℕ × ℕ) → is_sorted pair_cmp es ≡ true → remove (from_sorted {R = pair_cmp} es) k ≡ from_sorted (without pair_cmp k es)
out_pair = put_out pair_cmp pair_total pair_exact

pub ruleset rows = (none_number, none_name, none_pair, put_number, put_name, put_pair, out_number, out_name, out_pair, got_number, got_name, got_pair, listed_number, listed_name, listed_pair, counted_number, counted_pair, steps_are)

-- ---- calls by what their paths find

-- a call with one path
pub by_walk : (w : World) (c : ℕ) (call : Call) (leaf : Leaf) (text : List ℕ) (a : Found) (r : Applied)
    → first_way call ≡ way leaf text → second_way call ≡ None
    → ((from : Walked Seen) → find_path (facts_of w) leaf from text ≡ a)
    → settle w (row_at w c call a (found.Refused errno.EBADF)) ≡ r → apply w c call ≡ r
by_walk w c call leaf text a r one none there is =
    ap (λ x. settle w (row_at w c call x (second_found w c call))) (ap (found_at w c) one ∙ there _)
    ∙ ap (λ y. settle w (row_at w c call a (found_at w c y))) none ∙ is

-- a call with two
pub by_walks : (w : World) (c : ℕ) (call : Call) (leaf : Leaf) (text : List ℕ) (a : Found) (other : Leaf) (to : List ℕ) (b : Found) (r : Applied)
    → first_way call ≡ way leaf text → second_way call ≡ way other to
    → ((from : Walked Seen) → find_path (facts_of w) leaf from text ≡ a)
    → ((from : Walked Seen) → find_path (facts_of w) other from to ≡ b)
    → settle w (row_at w c call a b) ≡ r → apply w c call ≡ r
by_walks w c call leaf text a other to b r one two first second is =
    ap (λ x. settle w (row_at w c call x (second_found w c call))) (ap (found_at w c) one ∙ first _)
    ∙ ap (λ y. settle w (row_at w c call a y)) (ap (found_at w c) two ∙ second _) ∙ is
