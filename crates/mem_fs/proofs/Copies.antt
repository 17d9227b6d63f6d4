-- Copies of maps, value by value.
use Rattle.std.proofs.Common.{◌≡◌, ℕ, Bool, true, false, List, [], ◌∷◌, refl, ap, sym, subst}
use Rattle.std.specs.Prelude.{Some, ◌&&◌, T}
use Rattle.std.specs.List.{filter_map, AllByRecursion}
use Rattle.std.specs.List.Sorted.{IsStrictlySortedBy}
use Rattle.std.specs.Map.{keys_of}
use Rattle.std.specs.declared.cmp.Ordering.{Ordering}
use Rattle.std.specs.declared.cmp.Ordering.TheVariants.{Less, Equal, Greater}
use Rattle.std.specs.Ordering.{nat_cmp, is_lt}
use Rattle.std.specs.Cmp.{nat_cmp_total}
use Rattle.std.specs.FinMap.{FinMap, empty, entries, entries_sorted, is_sorted}
use Rattle.std.specs.FinMap.Entries.{below_all}
use Rattle.std.proofs.lemmas.Map.Lookups.{exact_unsigned}
use Rattle.finite_maps.proofs.EntryLaws.{put_all, put_all-empty}
use Rattle.mem_fs.specs.Inodes.{kept_entry, kept}

less_of : (r : Ordering) → T (is_lt r) → r ≡ Less
less_of Less h = refl
less_of Equal h = absurd h
less_of Greater h = absurd h

left : (b c : Bool) → T (b && c) → T b
left true c h = tt
left false c h = h

right : (b c : Bool) → T (b && c) → T c
right true c h = h
right false c h = absurd h

module _ {A : Type 0} where
  all_below : (x : ℕ) (es : List (ℕ × A)) → T (below_all nat_cmp x es) → AllByRecursion (λ y. nat_cmp x y ≡ Less) (keys_of es)
  all_below x [] h = tt
  all_below x (e ∷ es) h = (less_of _ (left _ _ h), all_below x es (right _ _ h))

  strictly : (es : List (ℕ × A)) → T (is_sorted nat_cmp es) → IsStrictlySortedBy nat_cmp (keys_of es)
  unfolding IsStrictlySortedBy
  strictly [] h = tt
  strictly (e ∷ es) h = (all_below e.0 es (left _ _ h), strictly es (right _ _ h))

module _ {A B : Type 0} (g : A → B) where
  keys_kept : (es : List (ℕ × A)) → keys_of (filter_map (kept_entry (λ x. Some (g x))) es) ≡ keys_of es
  keys_kept [] = refl
  keys_kept (e ∷ es) = ap (λ ks. e.0 ∷ ks) (keys_kept es)

  -- the values, each put in turn
  pub copied : (m : FinMap nat_cmp A) → put_all empty (filter_map (kept_entry (λ x. Some (g x))) (entries m)) ≡ kept (λ x. Some (g x)) m
  unfolding kept
  copied m = put_all-empty nat_cmp_total exact_unsigned (filter_map (kept_entry (λ x. Some (g x))) (entries m))
      (subst (IsStrictlySortedBy nat_cmp) (sym (keys_kept (entries m))) (strictly (entries m) (entries_sorted m)))
