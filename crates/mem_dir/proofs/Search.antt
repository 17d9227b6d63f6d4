-- What a search over blocks and then in a block finds.
use Rattle.std.proofs.Common.{◌≡◌, ℕ, zero, suc, ◌+◌, ◌-◌, ◌<◌, ◌≤◌, Bool, true, false, List, [], ◌∷◌, ◌++◌, length, get_or, set, take, drop, refl, ap, sym, ◌∙◌, subst, inl, inr, arith, append_assoc, append-nil}
use Rattle.std.specs.Prelude.{⊤, Option, Some, None, IfSome, IfNone}
use Rattle.std.specs.List.{insert, remove, AllByRecursion}
use Rattle.std.specs.List.Sorted.{IsStrictlySortedBy}
use Rattle.std.specs.Map.{keys_of}
use Rattle.std.specs.Ordering.{is_lt, ordering_reverse}
use Rattle.std.specs.declared.cmp.Ordering.{Ordering}
use Rattle.std.specs.declared.cmp.Ordering.TheVariants.{Less, Equal, Greater}
use Rattle.std.specs.Cmp.{IsTotalOrder}
use Rattle.std.specs.Cmp.Lexicographic.{nat_list_cmp_total}
use Rattle.std.proofs.lemmas.Bool.{cases_lt}
use Rattle.std.proofs.lemmas.List.{drop_more, take_more, take-append-drop, drop_all, set_split, set-get_or, get_or_default, nil_from_length}
use Rattle.std.proofs.lemmas.List.Edits.{length-remove}
use Rattle.std.proofs.lemmas.List.Elements.{All-get_or}
use Rattle.std.proofs.lemmas.List.Concat.{flat_map-append}
use Rattle.std.proofs.lemmas.Map.Lookups.{exact_bytes}
use Rattle.vfs_tree.specs.Name.{name_cmp}
use Rattle.vfs_tree.specs.declared.node.NameEntry.{NameEntry}
use Rattle.vfs_tree.specs.declared.node.NameEntry.TheVariants.{White}
use Rattle.mem_dir.specs.Records.{Record, is_below, record_at, name_at, joined, first_at, IsRising, AreFilled, IsPlace}
use Rattle.std.specs.FinMap.{get, insert as put, remove as take_away, from_entries}
use Rattle.mem_dir.proofs.Middle.{AreBelow, AreAbove, above_more, rising_around, rising_insert, rising_remove, insert_middle, get_apart, get_middle, remove_middle, put_middle}

o : IsTotalOrder name_cmp
o = nat_list_cmp_total

pub less : (a b : List ℕ) → is_below a b ≡ true → name_cmp a b ≡ Less
less a b h = less_of (name_cmp a b) h
  where
    less_of : (r : Ordering) → is_lt r ≡ true → r ≡ Less
    less_of Less e = refl
    less_of Equal e = cc
    less_of Greater e = cc

-- names of which neither is below the other
pub same : (a b : List ℕ) → is_below a b ≡ false → is_below b a ≡ false → a ≡ b
same a b p q = exact_bytes a b (tied (name_cmp a b) (name_cmp b a) p q (o.antisymm a b))
  where
    tied : (r s : Ordering) → is_lt r ≡ false → is_lt s ≡ false → r ≡ ordering_reverse s → r ≡ Equal
    tied Less s p q e = cc
    tied Equal s p q e = refl
    tied Greater Less p q e = cc
    tied Greater Equal p q e = cc
    tied Greater Greater p q e = cc

-- what is below a name is below each that is above it
below_more : (n m : List ℕ) (es : List Record) → name_cmp n m ≡ Less → AreBelow es n → AreBelow es m
below_more n m [] h below = tt
below_more n m (e ∷ es) h below = (o.trans e.0 n m below.0 h, below_more n m es h below.1)

below_push : (n : List ℕ) (es : List Record) (e : Record) → AreBelow es n → name_cmp e.0 n ≡ Less → AreBelow (es ++ e ∷ []) n
below_push n [] e below h = (h, tt)
below_push n (x ∷ es) e below h = (below.0, below_push n es e below.1 h)

-- records around a place
pub split_at : (a b c : List Record) (j : ℕ) → j < length b → a ++ (b ++ c) ≡ (a ++ take j b) ++ record_at b j ∷ (drop (j + 1) b ++ c)
split_at a b c j lt =
    let parts : b ≡ take j b ++ record_at b j ∷ drop (j + 1) b = sym (take-append-drop j b) ∙ ap (λ x. take j b ++ x) (drop_more b j ([], White) lt) in
    ap (λ x. a ++ (x ++ c)) parts
    ∙ ap (λ x. a ++ x) (append_assoc (take j b) (record_at b j ∷ drop (j + 1) b) c)
    ∙ sym (append_assoc a (take j b) (record_at b j ∷ (drop (j + 1) b ++ c)))

-- the records before the place that a search in a block finds are below the name
pub below_place : (a b c : List Record) (n : List ℕ) (j : ℕ) → IsRising (a ++ (b ++ c)) → 0 < length b → j ≤ length b
    → (0 < length a → is_below n (name_at b 0) ≡ false)
    → (0 < j → is_below (name_at b (j - 1)) n ≡ true)
    → (j < length b → is_below (name_at b j) n ≡ false)
    → AreBelow (a ++ take j b) n
below_place [] b c n zero rising some within after below from = tt
below_place (x ∷ a) b c n zero rising some within after below from =
    let is : name_at b 0 ≡ n = same (name_at b 0) n (from some) (after (omega arith)) in
    let around = rising_around ((x ∷ a) ++ []) (drop (0 + 1) b ++ c) (record_at b 0) (subst IsRising (split_at (x ∷ a) b c 0 some) rising) in
    subst (AreBelow ((x ∷ a) ++ [])) is around.0
below_place a b c n (suc j) rising some within after below from =
    let lt : j < length b = omega arith in
    let at : name_cmp (name_at b j) n ≡ Less = less (name_at b j) n (subst (λ k. is_below (name_at b k) n ≡ true) {x = suc j - 1} (omega arith) (below (omega arith))) in
    let around = rising_around (a ++ take j b) (drop (j + 1) b ++ c) (record_at b j) (subst IsRising (split_at a b c j lt) rising) in
    let one : suc j ≡ j + 1 = omega arith in
    let front : a ++ take (suc j) b ≡ (a ++ take j b) ++ record_at b j ∷ [] =
    ap (λ k. a ++ take k b) one ∙ ap (λ x. a ++ x) (take_more b j ([], White) lt) ∙ sym (append_assoc a (take j b) (record_at b j ∷ [])) in
    subst (λ x. AreBelow x n) (sym front) (below_push n (a ++ take j b) (record_at b j) (below_more (name_at b j) n (a ++ take j b) at around.0) at)

-- the records begin above the name
abbrev pub StartsAbove : List Record → List ℕ → Type 0
StartsAbove [] n = ⊤
StartsAbove (c ∷ cs) n = is_below n c.0 ≡ true

-- the records from the place on, where the one there is above the name, are above it
pub above_place : (a b c : List Record) (n : List ℕ) (j : ℕ) → IsRising (a ++ (b ++ c)) → j ≤ length b
    → (j < length b → is_below n (name_at b j) ≡ true) → StartsAbove c n → AreAbove (drop j b ++ c) n
above_place a b c n j rising within here after = elim (cases_lt j (length b)) [
  | inl lt ↦
      let at : name_cmp n (name_at b j) ≡ Less = less n (name_at b j) (here lt) in
      let around = rising_around (a ++ take j b) (drop (j + 1) b ++ c) (record_at b j) (subst IsRising (split_at a b c j lt) rising) in
      subst (λ x. AreAbove (x ++ c) n) (sym (drop_more b j ([], White) lt)) (at, above_more (name_at b j) n (drop (j + 1) b ++ c) at around.1)
  | inr le ↦ subst (λ x. AreAbove (x ++ c) n) (sym (drop_all j b le)) (starts c rising after)
]
  where
    starts : (c : List Record) → IsRising (a ++ (b ++ c)) → StartsAbove c n → AreAbove c n
    starts [] rising after = tt
    starts (x ∷ c) rising after =
        let around = rising_around (a ++ b) c x (subst IsRising (sym (append_assoc a b (x ∷ c))) rising) in
        (less n x.0 after, above_more x.0 n c (less n x.0 after) around.1)

-- the blocks with the i-th replaced
pub joined-set : (bs : List (List Record)) (i : ℕ) (q : List Record) → i < length bs → joined (set bs i q) ≡ joined (take i bs) ++ (q ++ joined (drop (suc i) bs))
joined-set bs i q h = ap joined (set_split bs i q h) ∙ flat_map-append (λ (x : List Record). x) (take i bs) (q ∷ drop (suc i) bs)

-- the blocks, split at the i-th
pub joined_at : (bs : List (List Record)) (i : ℕ) (d : List Record) → i < length bs → joined bs ≡ joined (take i bs) ++ (get_or bs i d ++ joined (drop (suc i) bs))
joined_at bs i d h = ap joined (sym (set-get_or bs i d)) ∙ joined-set bs i (get_or bs i d) h

-- the blocks without the i-th
pub joined-remove : (bs : List (List Record)) (i : ℕ) → joined (remove bs i) ≡ joined (take i bs) ++ joined (drop (suc i) bs)
joined-remove bs i = flat_map-append (λ (x : List Record). x) (take i bs) (drop (suc i) bs)

-- before the first block stands nothing
pub front_some : (bs : List (List Record)) (i : ℕ) → 0 < length (joined (take i bs)) → 0 < i
front_some bs zero h = h
front_some bs (suc i) h = omega arith

-- the blocks behind the i-th begin with the first name of the next
pub next_starts : (bs : List (List Record)) (i : ℕ) (n : List ℕ) → AreFilled bs → (i + 1 < length bs → is_below n (first_at bs (i + 1)) ≡ true) → StartsAbove (joined (drop (suc i) bs)) n
next_starts bs i n filled to = elim (cases_lt (i + 1) (length bs)) [
  | inl lt ↦
      let one : suc i ≡ i + 1 = omega arith in
      subst (λ x. StartsAbove (joined x) n) (sym (ap (λ k. drop k bs) one ∙ drop_more bs (i + 1) [] lt))
      (begins (get_or bs (i + 1) []) (joined (drop (i + 1 + 1) bs)) (All-get_or (λ block. 0 < length block) bs (i + 1) [] lt filled) (to lt))
  | inr le ↦ subst (λ x. StartsAbove (joined x) n) (sym (drop_all (suc i) bs (omega arith))) tt
]
  where
    begins : (b c : List Record) → 0 < length b → is_below n (name_at b 0) ≡ true → StartsAbove (b ++ c) n
    begins [] c some at = absurd (omega arith)
    begins (e ∷ b) c some at = at

-- the only record of a block, taken away
pub remove_only : (b : List Record) (at : ℕ) → length b ≡ 1 → at < length b → remove b at ≡ []
remove_only b at one lt = nil_from_length (remove b at) (omega (arith, length-remove b at lt))

-- the two searches together find a place
pub place_found : (bs : List (List Record)) (i j : ℕ) (n : List ℕ) (b : List Record) → b ≡ get_or bs i b → i < length bs
    → (0 < i → is_below n (first_at bs i) ≡ false) → (i + 1 < length bs → is_below n (first_at bs (i + 1)) ≡ true)
    → j ≤ length b → (0 < j → is_below (name_at b (j - 1)) n ≡ true) → (j < length b → is_below (name_at b j) n ≡ false)
    → IsPlace bs i j n
place_found bs i j n b is lt from to within below at =
    let read : b ≡ get_or bs i [] = is ∙ get_or_default bs i b [] lt in
    record {
      in_list = lt;
      from = from;
      to = to;
      in_block = subst (λ x. j ≤ length x) read within;
      below = subst (λ x. 0 < j → is_below (name_at x (j - 1)) n ≡ true) read below;
      not_below = subst (λ x. j < length x → is_below (name_at x j) n ≡ false) read at;
    }

module _ (bs : List (List Record)) (i j : ℕ) (n : List ℕ) (rising : IsRising (joined bs)) (filled : AreFilled bs) (p : IsPlace bs i j n) where
  block : List Record
  block = get_or bs i []

  before : List Record
  before = joined (take i bs)

  behind : List Record
  behind = joined (drop (suc i) bs)

  whole : joined bs ≡ before ++ (block ++ behind)
  unfolding block before behind
  whole = joined_at bs i [] p.in_list

  ordered : IsRising (before ++ (block ++ behind))
  ordered = subst IsRising whole rising

  some : 0 < length block
  unfolding block
  some = All-get_or (λ block. 0 < length block) bs i [] p.in_list filled

  front : AreBelow (before ++ take j block) n
  unfolding block before behind
  front = below_place before block behind n j ordered some p.in_block (λ some_before. p.from (front_some bs i some_before)) p.below p.not_below

  module _ (none : j < length (get_or bs i []) → is_below n (name_at (get_or bs i []) j) ≡ true) where
    back : AreAbove (drop j block ++ behind) n
    unfolding block before behind
    back = above_place before block behind n j ordered p.in_block none (next_starts bs i n filled p.to)

    parts : joined bs ≡ (before ++ take j block) ++ (drop j block ++ behind)
    parts =
        whole
        ∙ ap (λ x. before ++ (x ++ behind)) (sym (take-append-drop j block))
        ∙ ap (λ x. before ++ x) (append_assoc (take j block) (drop j block) behind)
        ∙ sym (append_assoc before (take j block) (drop j block ++ behind))

    -- the name is not there
    pub get_absent : get (from_entries {R = name_cmp} (joined bs)) n ≡ None
    get_absent = ap (λ x. get (from_entries {R = name_cmp} x) n) parts ∙ get_apart (before ++ take j block) (drop j block ++ behind) n front back

    module _ (e : NameEntry) (now : List Record) (is : now ≡ joined (take i bs) ++ (insert (get_or bs i []) j (n, e) ++ joined (drop (suc i) bs))) where
      middle : now ≡ (before ++ take j block) ++ (n, e) ∷ (drop j block ++ behind)
      unfolding block before behind
      middle =
          is ∙ ap (λ x. joined (take i bs) ++ x) (append_assoc (take j (get_or bs i [])) ((n, e) ∷ drop j (get_or bs i [])) (joined (drop (suc i) bs)))
          ∙ sym (append_assoc (joined (take i bs)) (take j (get_or bs i [])) ((n, e) ∷ (drop j (get_or bs i []) ++ joined (drop (suc i) bs))))

      -- the records with the new one are in order
      pub rising_inserted : IsRising now
      rising_inserted = subst IsRising (sym middle) (rising_insert (before ++ take j block) (drop j block ++ behind) (n, e) (subst IsRising parts rising) front back)

      -- and are the map with the new entry
      pub map_inserted : from_entries {R = name_cmp} now ≡ put (from_entries (joined bs)) n e
      map_inserted =
          ap (from_entries {R = name_cmp}) middle
          ∙ insert_middle (before ++ take j block) (drop j block ++ behind) (n, e) front
          ∙ ap (λ x. put (from_entries {R = name_cmp} x) n e) (sym parts)

  module _ (lt : j < length (get_or bs i [])) (at : is_below n (name_at (get_or bs i []) j) ≡ false) where
    old : NameEntry
    old = (record_at (get_or bs i []) j).1

    is_name : name_at (get_or bs i []) j ≡ n
    is_name = same (name_at (get_or bs i []) j) n (p.not_below lt) at

    found : joined bs ≡ (before ++ take j block) ++ (n, old) ∷ (drop (suc j) block ++ behind)
    unfolding block before behind old
    found =
        let one : j + 1 ≡ suc j = omega arith in
        whole ∙ split_at before block behind j lt
        ∙ ap (λ k. (before ++ take j block) ++ (k, old) ∷ (drop (j + 1) block ++ behind)) is_name
        ∙ ap (λ k. (before ++ take j block) ++ (n, old) ∷ (drop k block ++ behind)) one

    above : AreAbove (drop (suc j) block ++ behind) n
    above = (rising_around (before ++ take j block) (drop (suc j) block ++ behind) (n, old) (subst IsRising found rising)).1

    -- the name gives the entry there
    pub get_present : get (from_entries {R = name_cmp} (joined bs)) n ≡ Some (record_at (get_or bs i []) j).1
    unfolding old
    get_present = ap (λ x. get (from_entries {R = name_cmp} x) n) found ∙ get_middle (before ++ take j block) (drop (suc j) block ++ behind) (n, old) front

    module _ (now : List Record) (is : now ≡ joined (take i bs) ++ (remove (get_or bs i []) j ++ joined (drop (suc i) bs))) where
      left : now ≡ (before ++ take j block) ++ (drop (suc j) block ++ behind)
      unfolding block before behind
      left =
          is ∙ ap (λ x. joined (take i bs) ++ x) (append_assoc (take j (get_or bs i [])) (drop (suc j) (get_or bs i [])) (joined (drop (suc i) bs)))
          ∙ sym (append_assoc (joined (take i bs)) (take j (get_or bs i [])) (drop (suc j) (get_or bs i []) ++ joined (drop (suc i) bs)))

      -- the records without that one are in order
      pub rising_removed : IsRising now
      rising_removed = subst IsRising (sym left) (rising_remove (before ++ take j block) (drop (suc j) block ++ behind) (n, old) (subst IsRising found rising))

      -- and are the map without the entry
      pub map_removed : from_entries {R = name_cmp} now ≡ take_away (from_entries (joined bs)) n
      map_removed =
          ap (from_entries {R = name_cmp}) left
          ∙ remove_middle (before ++ take j block) (drop (suc j) block ++ behind) (n, old) front above
          ∙ ap (λ x. take_away (from_entries {R = name_cmp} x) n) (sym found)

    module _ (e : NameEntry) (now : List Record) (is : now ≡ joined (take i bs) ++ (set (get_or bs i []) j (name_at (get_or bs i []) j, e) ++ joined (drop (suc i) bs))) where
      changed : now ≡ (before ++ take j block) ++ (n, e) ∷ (drop (suc j) block ++ behind)
      unfolding block before behind
      changed =
          let b = get_or bs i [] in
          is
          ∙ ap (λ k. joined (take i bs) ++ (set b j (k, e) ++ joined (drop (suc i) bs))) is_name
          ∙ ap (λ x. joined (take i bs) ++ (x ++ joined (drop (suc i) bs))) (set_split b j (n, e) lt)
          ∙ ap (λ x. joined (take i bs) ++ x) (append_assoc (take j b) ((n, e) ∷ drop (suc j) b) (joined (drop (suc i) bs)))
          ∙ sym (append_assoc (joined (take i bs)) (take j b) ((n, e) ∷ (drop (suc j) b ++ joined (drop (suc i) bs))))

      -- the records with that one changed are in order
      pub rising_put : IsRising now
      rising_put =
          let without = rising_remove (before ++ take j block) (drop (suc j) block ++ behind) (n, old) (subst IsRising found rising) in
          subst IsRising (sym changed) (rising_insert (before ++ take j block) (drop (suc j) block ++ behind) (n, e) without front above)

      -- and are the map with the entry changed
      pub map_put : from_entries {R = name_cmp} now ≡ put (from_entries (joined bs)) n e
      map_put =
          ap (from_entries {R = name_cmp}) changed
          ∙ put_middle (before ++ take j block) (drop (suc j) block ++ behind) (n, old) e front
          ∙ ap (λ x. put (from_entries {R = name_cmp} x) n e) (sym found)

-- without blocks no name is there
pub get_none : (bs : List (List Record)) (n : List ℕ) → length bs ≡ 0 → None ≡ get (from_entries {R = name_cmp} (joined bs)) n
get_none [] n none = sym (get_apart [] [] n tt tt)
get_none (b ∷ bs) n none = absurd (omega arith)

-- what the search in the block answers is what the name gives
pub answered : (bs : List (List Record)) (i j : ℕ) (n : List ℕ) → IsRising (joined bs) → AreFilled bs → IsPlace bs i j n → (b : List Record) → b ≡ get_or bs i b → (r : Option NameEntry)
    → IfSome r (λ e. (j < length b) × (is_below n (name_at b j) ≡ false) × (e ≡ (record_at b j).1))
    → IfNone r (j < length b → is_below n (name_at b j) ≡ true)
    → r ≡ get (from_entries {R = name_cmp} (joined bs)) n
answered bs i j n rising filled p b is (Some e) some none =
    let read : b ≡ get_or bs i [] = is ∙ get_or_default bs i b [] p.in_list in
    let lt = subst (λ x. j < length x) read some.0 in
    let at = subst (λ x. is_below n (name_at x j) ≡ false) read some.1 in
    ap Some (some.2 ∙ ap (λ x. (record_at x j).1) read) ∙ sym (get_present bs i j n rising filled p lt at)
answered bs i j n rising filled p b is None some none =
    let read : b ≡ get_or bs i [] = is ∙ get_or_default bs i b [] p.in_list in
    sym (get_absent bs i j n rising filled p (subst (λ x. j < length x → is_below n (name_at x j) ≡ true) read none))

-- the records of one more block
pub joined_more : (bs : List (List Record)) (i : ℕ) (b : List Record) → b ≡ get_or bs i b → i < length bs → joined (take i bs) ++ b ≡ joined (take (i + 1) bs)
joined_more bs i b is lt =
    ap (λ x. joined (take i bs) ++ x) (is ∙ sym (append-nil (get_or bs i b)))
    ∙ sym (ap joined (take_more bs i b lt) ∙ flat_map-append (λ (x : List Record). x) (take i bs) (get_or bs i b ∷ []))

-- the names of records in order are in order
pub strict : (es : List Record) → IsRising es → IsStrictlySortedBy name_cmp (keys_of es)
unfolding IsStrictlySortedBy
strict [] h = tt
strict (e ∷ es) h = (all_keys (λ n. name_cmp e.0 n ≡ Less) es h.0, strict es h.1)
  where
    all_keys : (P : List ℕ → Type 0) (es : List Record) → AllByRecursion (λ f. P f.0) es → AllByRecursion P (keys_of es)
    all_keys P [] h = tt
    all_keys P (e ∷ es) h = (h.0, all_keys P es h.1)
