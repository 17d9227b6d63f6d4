-- The counts of a store's names stay right.
use Rattle.std.proofs.Common.{◌≡◌, ℕ, ◌+◌, ◌-◌, ◌≤◌, ◌<◌, Bool, true, false, ◌&&◌, ◌==◌, cond, min, nat_lt, List, [], ◌∷◌, refl, ap, sym, ◌∙◌, subst, arith, eq-eqb}
use Rattle.std.proofs.lemmas.Bool.Decides.{nat_tests}
use Rattle.std.proofs.Math.Dec.{eqb→eq}
use Rattle.std.specs.Prelude.{Option, Some, None, option_map, IsSome, T}
use Rattle.std.specs.List.{list_any}
use Rattle.std.specs.Ordering.{nat_cmp, eq_by_cmp, is_eq}
use Rattle.std.specs.Cmp.{nat_cmp_total}
use Rattle.std.specs.FinMap.{FinMap, get, insert, empty, values, get-empty, get-insert}
use Rattle.std.proofs.lemmas.Cmp.{tied_itself}
use Rattle.vfs_tree.specs.Counts.{total, optional, weight, names_giving, times, gives_node, gives_some, gives_some_at}
use Rattle.vfs_tree.specs.NameCounts.{most_names, raised, raised_by, lowered, lowered_by, raised_for, lowered_for, replaced, first_named, AreRight, AreSure, AreCounts}
use Rattle.vfs_tree.specs.declared.name_counts.NameCounts.{NameCounts}
use Rattle.vfs_tree.specs.declared.node.NameEntry.{NameEntry}
use Rattle.vfs_tree.specs.declared.node.NameEntry.TheVariants.{Ino, White}
use Rattle.vfs_tree.proofs.NodeLaws.{same_number}

abbrev Known : Type 0
Known = FinMap nat_cmp ℕ

-- ---- tests

no_clash : false ≡ true → ⊥
no_clash e = let clash : false ≡ true = e in cc

both_left : (a b : Bool) → (a && b) ≡ true → a ≡ true
both_left true b e = refl
both_left false b e = e

both_right : (a b : Bool) → (a && b) ≡ true → b ≡ true
both_right true b e = e
both_right false b e = absurd (no_clash e)

less_of : (a b : ℕ) → nat_lt a b ≡ true → a < b
less_of a b h = grind (arith, nat_tests)

-- an entry's weight, by the test of maps
pub weight_at : (i j : ℕ) (b : Bool) → eq_by_cmp nat_cmp i j ≡ b → weight i (Ino j) ≡ cond b 1 0
weight_at i j true e = ap (λ b. cond b 1 0) (eq-eqb j i (sym (same_number i j e)))
weight_at i j false e = ap (λ b. cond b 1 0) (other (j == i) refl)
  where
    other : (b : Bool) → (j == i) ≡ b → (j == i) ≡ false
    other false is = is
    other true is = absurd (no_clash (sym e ∙ ap (λ k. is_eq (nat_cmp i k)) (eqb→eq j i (subst T (sym is) tt)) ∙ ap is_eq (tied_itself nat_cmp_total i)))

-- a number above another isn't given by what gives that
weight_above : (i j : ℕ) → i < j → weight j (Ino i) ≡ 0
weight_above i j less = ap (λ b. cond b 1 0) (apart (i == j) refl)
  where
    apart : (b : Bool) → (i == j) ≡ b → (i == j) ≡ false
    apart false is = is
    apart true is = absurd (let same : i ≡ j = eqb→eq i j (subst T (sym is) tt) in omega (arith, same, less))

-- ---- one count changes

-- what stands in a map of counts after one was put
abbrev AreOf : Known → (ℕ → ℕ) → Type 0
AreOf m f = (j n : ℕ) → get m j ≡ Some n → n ≡ f j

put_right : (m : Known) (f g : ℕ → ℕ) (i k : ℕ) → AreOf m f → k ≡ g i → ((j : ℕ) → eq_by_cmp nat_cmp j i ≡ false → g j ≡ f j) → AreOf (insert m i k) g
put_right m f g i k right here other j n is = by_test (eq_by_cmp nat_cmp j i) refl (sym (get-insert nat_cmp_total m i k j) ∙ is)
  where
    by_test : (b : Bool) → eq_by_cmp nat_cmp j i ≡ b → cond b (Some k) (get m j) ≡ Some n → n ≡ g j
    by_test true e s = let same : k ≡ n = cc in sym same ∙ here ∙ ap g (sym (same_number j i e))
    by_test false e s = right j n s ∙ sym (other j e)

raised_right : (c : NameCounts) (f g : ℕ → ℕ) (next i : ℕ) (o : Option ℕ) → get c.known i ≡ o → AreRight c f next → ((j : ℕ) → g j ≡ f j + weight j (Ino i)) → i < next
    → (raised_by o c i).sure ≡ true → AreRight (raised_by o c i) g next
raised_right c f g next i (Some k) at right more less sure = record {
  counts = put_right c.known f g i (min (k + 1) most_names) right.counts
      (let small : k < most_names = less_of k most_names (both_right c.sure _ sure) in let count : k ≡ f i = right.counts i k at in let sum : g i ≡ f i + weight i (Ino i) = more i in
      let one : weight i (Ino i) ≡ 1 = weight_at i i true (ap is_eq (tied_itself nat_cmp_total i)) in omega (arith, small, count, sum, one))
      (λ j e. let sum : g j ≡ f j + weight j (Ino i) = more j in let none : weight j (Ino i) ≡ 0 = weight_at j i false e in omega (arith, sum, none));
  beyond = λ j far. let sum : g j ≡ f j + weight j (Ino i) = more j in let before : f j ≡ 0 = right.beyond j far in let none : weight j (Ino i) ≡ 0 = weight_above i j (omega (arith, less, far)) in
      omega (arith, sum, before, none);
}
raised_right c f g next i None at right more less sure = record {
  counts = λ j n is. right.counts j n is ∙ sym (other j n is (eq_by_cmp nat_cmp j i) refl);
  beyond = λ j far. let sum : g j ≡ f j + weight j (Ino i) = more j in let before : f j ≡ 0 = right.beyond j far in let none : weight j (Ino i) ≡ 0 = weight_above i j (omega (arith, less, far)) in
      omega (arith, sum, before, none);
}
  where
    other : (j n : ℕ) → get c.known j ≡ Some n → (b : Bool) → eq_by_cmp nat_cmp j i ≡ b → g j ≡ f j
    other j n is true e = absurd (let clash : None ≡ Some n = sym at ∙ ap (get c.known) (sym (same_number j i e)) ∙ is in cc)
    other j n is false e = let sum : g j ≡ f j + weight j (Ino i) = more j in let none : weight j (Ino i) ≡ 0 = weight_at j i false e in omega (arith, sum, none)

lowered_right : (c : NameCounts) (f g : ℕ → ℕ) (next i : ℕ) (o : Option ℕ) → get c.known i ≡ o → AreRight c f next → ((j : ℕ) → g j + weight j (Ino i) ≡ f j) → AreRight (lowered_by o c i) g next
lowered_right c f g next i (Some k) at right more = record {
  counts = put_right c.known f g i (k - 1) right.counts
      (let count : k ≡ f i = right.counts i k at in let sum : g i + weight i (Ino i) ≡ f i = more i in
      let one : weight i (Ino i) ≡ 1 = weight_at i i true (ap is_eq (tied_itself nat_cmp_total i)) in omega (arith, count, sum, one))
      (λ j e. let sum : g j + weight j (Ino i) ≡ f j = more j in let none : weight j (Ino i) ≡ 0 = weight_at j i false e in omega (arith, sum, none));
  beyond = λ j far. let sum : g j + weight j (Ino i) ≡ f j = more j in let before : f j ≡ 0 = right.beyond j far in omega (arith, sum, before);
}
lowered_right c f g next i None at right more = record {
  counts = λ j n is. right.counts j n is ∙ sym (other j n is (eq_by_cmp nat_cmp j i) refl);
  beyond = λ j far. let sum : g j + weight j (Ino i) ≡ f j = more j in let before : f j ≡ 0 = right.beyond j far in omega (arith, sum, before);
}
  where
    other : (j n : ℕ) → get c.known j ≡ Some n → (b : Bool) → eq_by_cmp nat_cmp j i ≡ b → g j ≡ f j
    other j n is true e = absurd (let clash : None ≡ Some n = sym at ∙ ap (get c.known) (sym (same_number j i e)) ∙ is in cc)
    other j n is false e = let sum : g j + weight j (Ino i) ≡ f j = more j in let none : weight j (Ino i) ≡ 0 = weight_at j i false e in omega (arith, sum, none)

-- ---- an entry comes, and an entry goes

same_right : (c : NameCounts) (f g : ℕ → ℕ) (next : ℕ) → AreRight c f next → ((j : ℕ) → g j ≡ f j) → AreRight c g next
same_right c f g next right same = record { counts = λ j n is. right.counts j n is ∙ sym (same j); beyond = λ j far. same j ∙ right.beyond j far }

pub sure_same : (c : NameCounts) (f g : ℕ → ℕ) (next : ℕ) → AreSure c f next → ((j : ℕ) → g j ≡ f j) → AreSure c g next
sure_same c f g next right same sure = same_right c f g next (right sure) same

raised_sure : (c : NameCounts) (i : ℕ) (o : Option ℕ) → (raised_by o c i).sure ≡ true → c.sure ≡ true
raised_sure c i (Some k) sure = both_left c.sure _ sure
raised_sure c i None sure = sure

pub sure_raised : (c : NameCounts) (f g : ℕ → ℕ) (next : ℕ) (e : NameEntry) → AreSure c f next → ((j : ℕ) → g j ≡ f j + weight j e) → AreSure (raised_for next c e) g next
sure_raised c f g next (Ino i) right more sure =
    let d : NameCounts = record c { sure = c.sure && nat_lt i next } in
    let both : (c.sure && nat_lt i next) ≡ true = raised_sure d i (get c.known i) sure in
    let before : AreRight c f next = right (both_left c.sure _ both) in
    raised_right d f g next i (get c.known i) refl (record { counts = before.counts; beyond = before.beyond }) more (less_of i next (both_right c.sure _ both)) sure
sure_raised c f g next White right more sure = same_right c f g next (right sure) (λ j. let sum : g j ≡ f j + 0 = more j in omega (arith, sum))

lowered_sure : (c : NameCounts) (i : ℕ) (o : Option ℕ) → (lowered_by o c i).sure ≡ true → c.sure ≡ true
lowered_sure c i (Some k) sure = sure
lowered_sure c i None sure = sure

pub sure_lowered : (c : NameCounts) (f g : ℕ → ℕ) (next : ℕ) (e : Option NameEntry) → AreSure c f next → ((j : ℕ) → g j + optional (weight j) e ≡ f j) → AreSure (lowered_for c e) g next
sure_lowered c f g next (Some (Ino i)) right more sure = lowered_right c f g next i (get c.known i) refl (right (lowered_sure c i (get c.known i) sure)) more
sure_lowered c f g next (Some White) right more sure = same_right c f g next (right sure) (λ j. let sum : g j + 0 ≡ f j = more j in omega (arith, sum))
sure_lowered c f g next None right more sure = same_right c f g next (right sure) (λ j. let sum : g j + 0 ≡ f j = more j in omega (arith, sum))

-- a name that had one entry has another
pub sure_replaced : (c : NameCounts) (f g : ℕ → ℕ) (next : ℕ) (before : Option NameEntry) (e : NameEntry) → AreSure c f next → ((j : ℕ) → g j + optional (weight j) before ≡ f j + weight j e)
    → AreSure (replaced next c before e) g next
sure_replaced c f g next before e right sum =
    sure_lowered (raised_for next c e) (λ j. f j + weight j e) g next before (sure_raised c f (λ j. f j + weight j e) next e right (λ j. refl)) sum

-- a new node has its first name
first_right : (c : NameCounts) (f : ℕ → ℕ) (next : ℕ) → AreRight c f next → AreRight (record c { known = insert c.known next 1 }) (λ j. f j + weight j (Ino next)) (next + 1)
first_right c f next right = record {
  counts = put_right c.known f (λ j. f j + weight j (Ino next)) next 1 right.counts
      (let none : f next ≡ 0 = right.beyond next (omega arith) in let one : weight next (Ino next) ≡ 1 = weight_at next next true (ap is_eq (tied_itself nat_cmp_total next)) in omega (arith, none, one))
      (λ j e. let none : weight j (Ino next) ≡ 0 = weight_at j next false e in omega (arith, none));
  beyond = λ j far. let before : f j ≡ 0 = right.beyond j (omega (arith, far)) in let none : weight j (Ino next) ≡ 0 = weight_above next j (omega (arith, far)) in omega (arith, before, none);
}

first_sure : (c : NameCounts) (i : ℕ) (e : Option NameEntry) → (lowered_for c e).sure ≡ true → c.sure ≡ true
first_sure c i (Some (Ino j)) sure = lowered_sure c j (get c.known j) sure
first_sure c i (Some White) sure = sure
first_sure c i None sure = sure

pub sure_first : (c : NameCounts) (f g : ℕ → ℕ) (next : ℕ) (before : Option NameEntry) → AreSure c f next → ((j : ℕ) → g j + optional (weight j) before ≡ f j + weight j (Ino next))
    → AreSure (first_named c next before) g (next + 1)
sure_first c f g next before right sum =
    sure_lowered (record c { known = insert c.known next 1 }) (λ j. f j + weight j (Ino next)) g (next + 1) before (λ sure. first_right c f next (right sure)) sum
