-- The last record, and whether some record gives an inode.
use Rattle.std.proofs.Common.{◌≡◌, ℕ, suc, ◌+◌, ◌<◌, List, [], ◌∷◌, ◌++◌, length, get_or, set, take, drop, refl, ap, sym, ◌∙◌, ◌||◌, subst, append-nil, append_assoc, map, arith}
use Rattle.std.specs.List.{list_any}
use Rattle.std.specs.FinMap.{get, remove, from_entries, entries, values}
use Rattle.std.specs.Prelude.{Option, Some, None, IfSome, IfNone}
use Rattle.std.proofs.lemmas.List.{get_or_default, drop_all, take-set, nil_from_length}
use Rattle.std.proofs.lemmas.List.Folds.{list_any-append}
use Rattle.vfs_tree.specs.Counts.{gives_node}
use Rattle.vfs_tree.specs.Name.{name_cmp}
use Rattle.vfs_tree.specs.Nodes.{Names}
use Rattle.mem_dir.specs.Records.{Record, joined, gives_some, IsRising}
use Rattle.mem_dir.proofs.Middle.{rising_around, rising_remove, get_middle, remove_middle}
use Rattle.mem_dir.proofs.Search.{joined-set, joined_at}
use Rattle.mem_dir.proofs.Listing.{entries_rising}

-- some block has a record that gives an inode, or some record of them all does
pub gives_joined : (bs : List (List Record)) → list_any gives_some bs ≡ gives_some (joined bs)
gives_joined [] = refl
gives_joined (b ∷ bs) = ap (λ x. gives_some b || x) (gives_joined bs) ∙ sym (list_any-append (λ (r : Record). gives_node r.1) b (joined bs))

-- whether some record gives an inode is told by what the names give
pub gives_values : (es : List Record) → gives_some es ≡ list_any gives_node (map (λ e. e.1) es)
gives_values [] = refl
gives_values (e ∷ es) = ap (λ x. gives_node e.1 || x) (gives_values es)

-- the same of a map of records in order
pub gives_rising : (es : List Record) (m : Names) → IsRising es → from_entries es ≡ m → gives_some es ≡ list_any gives_node (values m)
gives_rising es m rising is = gives_values es ∙ ap (λ x. list_any gives_node (map (λ e. e.1) x)) (entries_rising es m rising is)

-- the blocks where the last record of the last block was taken away
pub joined_popped : (bs : List (List Record)) (i : ℕ) (b now : List Record) (r : Record) → i + 1 ≡ length bs → b ≡ get_or bs i b → b ≡ now ++ r ∷ [] → joined bs ≡ joined (set bs i now) ++ r ∷ []
joined_popped bs i b now r end is last =
    let lt : i < length bs = omega (arith, end) in
    let none : drop (suc i) bs ≡ [] = drop_all (suc i) bs (omega (arith, end)) in
    let read : get_or bs i [] ≡ now ++ r ∷ [] = sym (is ∙ get_or_default bs i b [] lt) ∙ last in
    joined_at bs i [] lt
    ∙ (λ k. joined (take i bs) ++ (read k ++ joined (none k)))
    ∙ ap (λ x. joined (take i bs) ++ x) (append-nil (now ++ r ∷ []))
    ∙ sym (append_assoc (joined (take i bs)) now (r ∷ []))
    ∙ ap (λ x. x ++ r ∷ []) (ap (λ x. joined (take i bs) ++ x) (sym (append-nil now)) ∙ (λ k. joined (take i bs) ++ (now ++ joined (sym none k))) ∙ sym (joined-set bs i now lt))

-- and where no other record stood in it
pub joined_shorter : (bs : List (List Record)) (i n : ℕ) (now : List Record) → i + 1 ≡ length bs → n ≡ i → length now ≡ 0 → joined (set bs i now) ≡ joined (take n (set bs i now))
joined_shorter bs i n now end same empty =
    let none : drop (suc i) bs ≡ [] = drop_all (suc i) bs (omega (arith, end)) in
    joined-set bs i now (omega (arith, end))
    ∙ (λ k. joined (take i bs) ++ (nil_from_length now empty k ++ joined (none k)))
    ∙ append-nil (joined (take i bs))
    ∙ ap joined (sym (take-set bs i now))
    ∙ ap (λ m. joined (take m (set bs i now))) (sym same)

module _ (es now : List Record) (r : Record) (rising : IsRising es) (is : es ≡ now ++ r ∷ []) where
  ordered : IsRising (now ++ r ∷ [])
  ordered = subst IsRising is rising

  -- the records before the last are in order
  pub rising_before : IsRising now
  rising_before = subst IsRising (append-nil now) (rising_remove now [] r ordered)

  -- the last name gives what its record says
  pub get_last : get (from_entries {R = name_cmp} es) r.0 ≡ Some r.1
  get_last = ap (λ x. get (from_entries {R = name_cmp} x) r.0) is ∙ get_middle now [] r (rising_around now [] r ordered).0

  -- the records before the last are the map without its name
  pub map_before : from_entries {R = name_cmp} now ≡ remove (from_entries es) r.0
  map_before =
      let around = rising_around now [] r ordered in
      ap (from_entries {R = name_cmp}) (sym (append-nil now)) ∙ remove_middle now [] r around.0 around.1 ∙ ap (λ x. remove (from_entries {R = name_cmp} x) r.0) (sym is)

  -- the entries of the map, the last of them apart
  pub entries_last : entries (from_entries {R = name_cmp} es) ≡ entries (from_entries {R = name_cmp} now) ++ r ∷ []
  entries_last = sym (entries_rising es _ rising refl) ∙ is ∙ ap (λ x. x ++ r ∷ []) (entries_rising now _ rising_before refl)

-- what is known of an option's value is known for another
pub if_more : {X : Type 0} {P Q : X → Type 0} (r : Option X) → IfSome r P → ((x : X) → P x → Q x) → IfSome r Q
if_more (Some x) p f = f x p
if_more None p f = tt

pub none_more : {X P Q : Type 0} (r : Option X) → IfNone r P → (P → Q) → IfNone r Q
none_more (Some x) p f = tt
none_more None p f = f p

pub rising_popped : (es now : List Record) (r : Option Record) → IsRising es → IfSome r (λ x. es ≡ now ++ x ∷ []) → IfNone r (now ≡ []) → IsRising now
rising_popped es now (Some x) rising is none = rising_before es now x rising is
rising_popped es now None rising is none = subst IsRising (sym none) tt
