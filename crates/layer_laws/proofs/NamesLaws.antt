-- Who is among the names that a directory gives, and among those of a union's upper directory and of its lower part.
use Rattle.std.proofs.Common.{◌≡◌, ℕ, zero, suc, ◌<◌, ◌⊎◌, inl, inr, Bool, true, false, cond, List, [], ◌∷◌, length, refl, ap, sym, ◌∙◌, arith}
use Rattle.std.specs.Prelude.{Option, Some, None, is_some}
use Rattle.std.specs.List.{AllByRecursion, Contains, fold, filter_map, cons_option, slice_index_or}
use Rattle.std.specs.Cmp.Lexicographic.{nat_list_cmp_total}
use Rattle.std.specs.Ordering.{eq_by_cmp}
use Rattle.std.specs.FinMap.{get, insert, entries, find, contains_key, get-entries, get-empty}
use Rattle.std.proofs.lemmas.Map.Lookups.{exact_bytes}
use Rattle.std.proofs.lemmas.Map.Views.{tells_apart}
use Rattle.finite_maps.proofs.EntryLaws.{get_at-insert, by_key}
use Rattle.vfs_tree.specs.Name.{name_cmp}
use Rattle.vfs_tree.specs.Nodes.{Names, entry_in, is_given}
use Rattle.vfs_tree.specs.Visible.{names_in, given_name, given_names, with_lower_name, merged}
use Rattle.vfs_tree.specs.declared.node.NameEntry.{NameEntry}
use Rattle.vfs_tree.specs.declared.node.NameEntry.TheVariants.{Ino, White}
use Rattle.vfs_tree.specs.declared.node.Node.{Node}
use Rattle.vfs_tree.specs.declared.node.Node.TheVariants.{Dir, File, Link}
use Rattle.call_laws.proofs.NamedLaws.{no_way}
use Rattle.call_laws.proofs.WeightLaws.{all_given}

pub names_are : (n : List ℕ) (o : Option Node) → entry_in n o ≡ get (names_in o) n
names_are n (Some (Dir parent opaque names)) = refl
names_are n (Some (File bytes)) = sym (get-empty {X = NameEntry} name_cmp n)
names_are n (Some (Link target)) = sym (get-empty {X = NameEntry} name_cmp n)
names_are n None = sym (get-empty {X = NameEntry} name_cmp n)

-- ---- elements of a list

pub none_in : (n : List ℕ) → Contains [] n → ⊥
none_in n h = let less : h.0 < 0 = h.1 in omega (arith, less)

head_in : (n k : List ℕ) (ks : List (List ℕ)) → n ≡ k → Contains (k ∷ ks) n
head_in n k ks e = (0, omega arith, sym e)

tail_in : (n k : List ℕ) (ks : List (List ℕ)) → Contains ks n → Contains (k ∷ ks) n
tail_in n k ks h = let less = h.1 in (suc h.0, omega (arith, less), h.2)

at_place : (n k : List ℕ) (ks : List (List ℕ)) (i : ℕ) → i < length (k ∷ ks) → slice_index_or (k ∷ ks) i n ≡ n → (n ≡ k) ⊎ Contains ks n
at_place n k ks zero less e = inl (sym e)
at_place n k ks (suc i) less e = inr (i, omega (arith, less), e)

in_cases : (n k : List ℕ) (ks : List (List ℕ)) → Contains (k ∷ ks) n → (n ≡ k) ⊎ Contains ks n
in_cases n k ks h = at_place n k ks h.0 h.1 h.2

-- ---- names that give an inode

module _ (names : Names) (n : List ℕ) where
  given_here : (e : List ℕ × NameEntry) (es : List (List ℕ × NameEntry)) → get names e.0 ≡ Some e.1 → (Contains (filter_map given_name es) n → is_given (get names n) ≡ true)
      → Contains (cons_option (given_name e) (filter_map given_name es)) n → is_given (get names n) ≡ true
  given_here (k, Ino i) es at more h =
      elim (in_cases n k (filter_map given_name es) h) as (λ _. is_given (get names n) ≡ true) [ inl e ↦ ap (λ (q : List ℕ). is_given (get names q)) e ∙ ap is_given at | inr r ↦ more r ]
  given_here (k, White) es at more h = more h

  given_among : (es : List (List ℕ × NameEntry)) → AllByRecursion (λ e. get names e.0 ≡ Some e.1) es → Contains (filter_map given_name es) n → is_given (get names n) ≡ true
  given_among [] all h = absurd (none_in n h)
  given_among (e ∷ es) all h = given_here e es all.0 (given_among es all.1) h

  -- a name of the list gives an inode
  pub given_from : Contains (given_names names) n → is_given (get names n) ≡ true
  given_from h = given_among (entries names) (all_given name_cmp nat_list_cmp_total names) h

found_first : (n k : List ℕ) (v : NameEntry) (ks : List (List ℕ)) → n ≡ k → is_given (Some v) ≡ true → Contains (cons_option (given_name (k, v)) ks) n
found_first n k (Ino i) ks e h = head_in n k ks e
found_first n k White ks e h = no_way h

found_later : (n k : List ℕ) (v : NameEntry) (ks : List (List ℕ)) → Contains ks n → Contains (cons_option (given_name (k, v)) ks) n
found_later n k (Ino i) ks h = tail_in n k ks h
found_later n k White ks h = h

found_among : (n : List ℕ) (es : List (List ℕ × NameEntry)) → is_given (find name_cmp n es) ≡ true → Contains (filter_map given_name es) n
found_among n [] h = no_way h
found_among n (x ∷ es) h =
    elim (eq_by_cmp name_cmp n x.0) as (λ b. eq_by_cmp name_cmp n x.0 ≡ b → is_given (cond b (Some x.1) (find name_cmp n es)) ≡ true → Contains (filter_map given_name (x ∷ es)) n) [
      | true ↦ λ same g. found_first n x.0 x.1 (filter_map given_name es) (tells_apart exact_bytes n x.0 same) g
      | false ↦ λ _ g. found_later n x.0 x.1 (filter_map given_name es) (found_among n es g)
    ] refl h

-- and a name that gives one is in it
pub given_to : (names : Names) (n : List ℕ) → is_given (get names n) ≡ true → Contains (given_names names) n
given_to names n h = found_among n (entries names) (sym (ap is_given (get-entries names n)) ∙ h)

-- ---- names of a union

module _ (upper : Names) (n : List ℕ) where
  -- what the upper directory has at a name stays
  upper_stays : (e : NameEntry) → get upper n ≡ Some e → (ns : List (List ℕ)) (acc : Names) → get acc n ≡ Some e → get (fold (with_lower_name upper) acc ns) n ≡ Some e
  upper_stays e up [] acc h = h
  upper_stays e up (k ∷ ns) acc h = upper_stays e up ns (with_lower_name upper acc k) (step (contains_key upper k) refl)
    where
      step : (b : Bool) → contains_key upper k ≡ b → get (cond b acc (insert acc k (Ino 0))) n ≡ Some e
      step true is = h
      step false is = by_key nat_list_cmp_total exact_bytes acc k (Ino 0) n (λ o. o ≡ Some e) (λ same. no_way (sym is ∙ ap (contains_key upper) (sym same) ∙ ap is_some up)) h

  -- where it has nothing, one name more
  one_from : (k : List ℕ) (acc : Names) (b : Bool) → is_given (get (cond b acc (insert acc k (Ino 0))) n) ≡ true → (is_given (get acc n) ≡ true) ⊎ (n ≡ k)
  one_from k acc true h = inl h
  one_from k acc false h =
      by_key nat_list_cmp_total exact_bytes acc k (Ino 0) n (λ o. is_given o ≡ true → (is_given (get acc n) ≡ true) ⊎ (n ≡ k)) (λ same _. inr same) (λ g. inl g) h

  one_more : (k : List ℕ) (acc : Names) (b : Bool) → is_given (get acc n) ≡ true → is_given (get (cond b acc (insert acc k (Ino 0))) n) ≡ true
  one_more k acc true h = h
  one_more k acc false h = by_key nat_list_cmp_total exact_bytes acc k (Ino 0) n (λ o. is_given o ≡ true) (λ same. refl) h

  one_itself : (k : List ℕ) (acc : Names) (b : Bool) → contains_key upper k ≡ b → get upper n ≡ None → n ≡ k → is_given (get (cond b acc (insert acc k (Ino 0))) n) ≡ true
  one_itself k acc true is none same = no_way (sym (ap (contains_key upper) (sym same) ∙ ap is_some none) ∙ is)
  one_itself k acc false is none same =
      ap (λ (q : List ℕ). is_given (get (insert acc k (Ino 0)) q)) same ∙ ap is_given (get_at-insert nat_list_cmp_total acc k (Ino 0))

  lower_from : (ns : List (List ℕ)) (acc : Names) → is_given (get (fold (with_lower_name upper) acc ns) n) ≡ true → (is_given (get acc n) ≡ true) ⊎ Contains ns n
  lower_from [] acc h = inl h
  lower_from (k ∷ ns) acc h =
      elim (lower_from ns (with_lower_name upper acc k) h) as (λ _. (is_given (get acc n) ≡ true) ⊎ Contains (k ∷ ns) n) [
        | inl g ↦ elim (one_from k acc (contains_key upper k) g) as (λ _. (is_given (get acc n) ≡ true) ⊎ Contains (k ∷ ns) n) [ inl x ↦ inl x | inr same ↦ inr (head_in n k ns same) ]
        | inr r ↦ inr (tail_in n k ns r)
      ]

  lower_stays : (ns : List (List ℕ)) (acc : Names) → is_given (get acc n) ≡ true → is_given (get (fold (with_lower_name upper) acc ns) n) ≡ true
  lower_stays [] acc h = h
  lower_stays (k ∷ ns) acc h = lower_stays ns (with_lower_name upper acc k) (one_more k acc (contains_key upper k) h)

  lower_to : get upper n ≡ None → (ns : List (List ℕ)) (acc : Names) → Contains ns n → is_given (get (fold (with_lower_name upper) acc ns) n) ≡ true
  lower_to none [] acc h = absurd (none_in n h)
  lower_to none (k ∷ ns) acc h =
      elim (in_cases n k ns h) as (λ _. is_given (get (fold (with_lower_name upper) acc (k ∷ ns)) n) ≡ true) [
        | inl same ↦ lower_stays ns (with_lower_name upper acc k) (one_itself k acc (contains_key upper k) refl none same)
        | inr r ↦ lower_to none ns (with_lower_name upper acc k) r
      ]

  -- an entry of the upper directory decides
  pub merged_upper : (e : NameEntry) → get upper n ≡ Some e → (lower : List (List ℕ)) → Contains (merged upper lower) n → is_given (Some e) ≡ true
  merged_upper e up lower h =
      sym (ap is_given (upper_stays e up lower upper up)) ∙ given_from (fold (with_lower_name upper) upper lower) n h

  pub upper_merged : (e : NameEntry) → get upper n ≡ Some e → (lower : List (List ℕ)) → is_given (Some e) ≡ true → Contains (merged upper lower) n
  upper_merged e up lower h = given_to (fold (with_lower_name upper) upper lower) n (ap is_given (upper_stays e up lower upper up) ∙ h)

  -- where it has none, the lower part does
  pub merged_lower : get upper n ≡ None → (lower : List (List ℕ)) → Contains (merged upper lower) n → Contains lower n
  merged_lower none lower h =
      elim (lower_from lower upper (given_from (fold (with_lower_name upper) upper lower) n h)) as (λ _. Contains lower n) [ inl g ↦ no_way (sym (ap is_given none) ∙ g) | inr r ↦ r ]

  pub lower_merged : get upper n ≡ None → (lower : List (List ℕ)) → Contains lower n → Contains (merged upper lower) n
  lower_merged none lower h = given_to (fold (with_lower_name upper) upper lower) n (lower_to none lower upper h)
