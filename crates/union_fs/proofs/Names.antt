-- What a union shows, at names in byte order.
use Rattle.std.proofs.Common.{ℕ, ◌≡◌, ◌≤◌, List, [], ◌++◌, ◌<◌, ◌+◌, ◌-◌, get_or, length, drop, inl, inr, sym, subst, ◌∙◌, ap, arith}
use Rattle.std.proofs.lemmas.List.{get_or_default}
use Rattle.std.proofs.lemmas.Map.Keys.{Less-from_sorted, sorted_from_all_adjacent}
use Rattle.std.proofs.lemmas.Grind.{common_steps}
use Rattle.std.specs.declared.cmp.Ordering.TheVariants.{Less, Equal}
use Rattle.std.specs.Ordering.{is_eq}
use Rattle.std.specs.Cmp.Lexicographic.{nat_list_cmp_total, texts_ties, same_text}
use Rattle.std.specs.List.{Contains}
use Rattle.std.specs.List.Sorted.{IsStrictlySortedBy}
use Rattle.vfs_tree.specs.Name.{name_cmp}
use Rattle.union_fs.specs.Visible.{IsVisible}
use Rattle.union_fs.proofs.Orders.{In-contains, Contains-in, sorted_in, sorted_out}
use Rattle.union_fs.proofs.Shown.{Shows, visible, shown_only, shown_all, Sorted-visible}

same_name : (x y : List ℕ) → name_cmp x y ≡ Equal → x ≡ y
same_name x y e = same_text x y (sym (texts_ties x y ∙ ap is_eq e))

module _ (upper white lower : List (List ℕ)) (su : IsStrictlySortedBy name_cmp upper) (sw : IsStrictlySortedBy name_cmp white) (sl : IsStrictlySortedBy name_cmp lower) where
  from_shows : (name : List ℕ) → Shows name_cmp upper white lower name → IsVisible upper white lower name
  from_shows name (inl h) = inl (Contains-in name upper h)
  from_shows name (inr p) = inr (Contains-in name lower p.0, λ h. p.1 (In-contains name upper h), λ h. p.2 (In-contains name white h))

  to_shows : (name : List ℕ) → IsVisible upper white lower name → Shows name_cmp upper white lower name
  to_shows name (inl h) = inl (In-contains name upper h)
  to_shows name (inr p) = inr (In-contains name lower p.0, λ h. p.1 (Contains-in name upper h), λ h. p.2 (Contains-in name white h))

  -- the names are those that are visible
  pub shows_visible : (name : List ℕ) → (Contains (visible name_cmp upper white lower) name → IsVisible upper white lower name) × (IsVisible upper white lower name → Contains (visible name_cmp upper white lower) name)
  shows_visible name = (
    λ h. from_shows name (shown_only name_cmp nat_list_cmp_total same_name upper white lower (sorted_in name_cmp upper su) (sorted_in name_cmp white sw) (sorted_in name_cmp lower sl) name (In-contains name (visible name_cmp upper white lower) h)),
    λ h. Contains-in name (visible name_cmp upper white lower) (shown_all name_cmp nat_list_cmp_total same_name upper white lower (sorted_in name_cmp upper su) (sorted_in name_cmp white sw) (sorted_in name_cmp lower sl) name (to_shows name h)),
  )

  -- and they are in order
  pub in_order : IsStrictlySortedBy name_cmp (visible name_cmp upper white lower)
  in_order = sorted_out name_cmp (visible name_cmp upper white lower) (Sorted-visible name_cmp nat_list_cmp_total same_name upper white lower (sorted_in name_cmp upper su) (sorted_in name_cmp white sw) (sorted_in name_cmp lower sl))

-- once no lower name is left, what stands there and the rest of the upper names are the whole
pub whole_at_end : (upper white lower upper_left white_left names all : List (List ℕ)) (at : ℕ) → visible name_cmp upper white lower ≡ names ++ visible name_cmp upper_left white_left (drop at lower) → length lower ≤ at → all ≡ names ++ upper_left → all ≡ visible name_cmp upper white lower
whole_at_end upper white lower upper_left white_left names all at so_far past end =
    let none : drop at lower ≡ [] = grind (arith, common_steps) in
    end ∙ sym (so_far ∙ ap (λ rest. names ++ visible name_cmp upper_left white_left rest) none)

-- of a list in order, each name is below the next
pub below_next : (names : List (List ℕ)) (at : ℕ) (a b : List ℕ) → IsStrictlySortedBy name_cmp names → 1 ≤ at → at < length names → a ≡ get_or names (at - 1) a → b ≡ get_or names at b → name_cmp a b ≡ Less
below_next names at a b s first within is_a is_b =
    let before : at - 1 < length names = omega arith in
    let ea : a ≡ get_or names (at - 1) [] = is_a ∙ get_or_default names (at - 1) a [] before in
    let eb : b ≡ get_or names at [] = is_b ∙ get_or_default names at b [] within in
    let below : at - 1 < at = omega arith in
    subst (λ x. name_cmp x b ≡ Less) (sym ea) (subst (λ y. name_cmp (get_or names (at - 1) []) y ≡ Less) (sym eb) (Less-from_sorted name_cmp names (at - 1) at [] s below within))

-- a list whose names are each below the next is in order
pub in_order_from : (names : List (List ℕ)) → ((k : ℕ) → k + 1 < length names → name_cmp (get_or names k []) (get_or names (k + 1) []) ≡ Less) → IsStrictlySortedBy name_cmp names
in_order_from names each = sorted_from_all_adjacent nat_list_cmp_total names [] each
