-- Edits of a directory.
use Rattle.std.proofs.Common.{◌≡◌, ℕ, suc, ◌+◌, ◌<◌, ◌≤◌, Bool, true, false, List, [], ◌∷◌, ◌++◌, length, get_or, set, take, drop, ap, sym, ◌∙◌, subst, arith, length-set}
use Rattle.std.specs.Prelude.{IfSome, IfNone, Some, None, Option, is_some}
use Rattle.std.specs.FinMap.{get, from_entries}
use Rattle.vfs_tree.specs.Nodes.{Names}
use Rattle.std.proofs.lemmas.List.{get_or_default}
use Rattle.std.proofs.lemmas.List.Elements.{All-set}
use Rattle.vfs_tree.specs.declared.node.NameEntry.{NameEntry}
use Rattle.mem_dir.specs.Records.{Record, is_below, record_at, name_at, joined, IsRising, AreFilled, IsPlace}
use Rattle.mem_dir.proofs.Search.{joined-set, get_none, get_absent, get_present}

-- what the search in a block found, where it found the name
pub found_facts : (bs : List (List Record)) (i j : ℕ) (n : List ℕ) (b : List Record) → b ≡ get_or bs i b → i < length bs → (r : Option NameEntry)
    → IfSome r (λ e. (j < length b) × (is_below n (name_at b j) ≡ false) × (e ≡ (record_at b j).1)) → is_some r ≡ true
    → (j < length (get_or bs i [])) × (is_below n (name_at (get_or bs i []) j) ≡ false)
found_facts bs i j n b is lt (Some e) some hit =
    let read : b ≡ get_or bs i [] = is ∙ get_or_default bs i b [] lt in
    (subst (λ x. j < length x) read some.0, subst (λ x. is_below n (name_at x j) ≡ false) read some.1)
found_facts bs i j n b is lt None some hit = cc

-- and where it did not
pub absent_fact : (bs : List (List Record)) (i j : ℕ) (n : List ℕ) (b : List Record) → b ≡ get_or bs i b → i < length bs → (r : Option NameEntry)
    → IfNone r (j < length b → is_below n (name_at b j) ≡ true) → is_some r ≡ false
    → j < length (get_or bs i []) → is_below n (name_at (get_or bs i []) j) ≡ true
absent_fact bs i j n b is lt (Some e) none missed = cc
absent_fact bs i j n b is lt None none missed = subst (λ x. j < length x → is_below n (name_at x j) ≡ true) (is ∙ get_or_default bs i b [] lt) none

-- the blocks where the entry of a record was changed
pub joined_put : (bs : List (List Record)) (i j : ℕ) (e : NameEntry) (b now : List Record) → b ≡ get_or bs i b → i < length bs → now ≡ set b j (name_at b j, e)
    → joined (set bs i now) ≡ joined (take i bs) ++ (set (get_or bs i []) j (name_at (get_or bs i []) j, e) ++ joined (drop (suc i) bs))
joined_put bs i j e b now is lt put =
    joined-set bs i now lt
    ∙ ap (λ x. joined (take i bs) ++ (x ++ joined (drop (suc i) bs))) (put ∙ ap (λ x. set x j (name_at x j, e)) (is ∙ get_or_default bs i b [] lt))

pub filled_put : (bs : List (List Record)) (i j : ℕ) (e : NameEntry) (b now : List Record) → b ≡ get_or bs i b → i < length bs → j < length (get_or bs i []) → now ≡ set b j (name_at b j, e)
    → AreFilled bs → AreFilled (set bs i now)
filled_put bs i j e b now is lt within put filled =
    let long : length now ≡ length (get_or bs i []) = ap length put ∙ length-set b j (name_at b j, e) ∙ ap length (is ∙ get_or_default bs i b [] lt) in
    All-set (λ block. 0 < length block) bs i now (omega arith) filled

-- without blocks no name is there
pub empty_absent : (bs : List (List Record)) (len : ℕ) (m : Names) (n : List ℕ) → len ≡ length bs → len ≡ 0 → from_entries (joined bs) ≡ m → get m n ≡ None
empty_absent bs len m n is zero view = sym (get_none bs n (sym is ∙ zero) ∙ ap (λ x. get x n) view)

module _ (bs shown : List (List Record)) (i j : ℕ) (n : List ℕ) (rising : IsRising (joined bs)) (filled : AreFilled bs) (deref : shown ≡ bs) (found : IsPlace shown i j n) (b : List Record) (is : b ≡ get_or bs i b) (r : Option NameEntry) where
  pub place : IsPlace bs i j n
  place = subst (λ x. IsPlace x i j n) deref found

  -- a name that the search did not find is not there
  pub name_absent : (m : Names) → from_entries (joined bs) ≡ m → IfNone r (j < length b → is_below n (name_at b j) ≡ true) → is_some r ≡ false → get m n ≡ None
  name_absent m view none missed =
      sym (ap (λ x. get x n) view) ∙ get_absent bs i j n rising filled place (absent_fact bs i j n b is place.in_list r none missed)

  -- and one that it found is
  pub name_present : (m : Names) → from_entries (joined bs) ≡ m → IfSome r (λ e. (j < length b) × (is_below n (name_at b j) ≡ false) × (e ≡ (record_at b j).1)) → is_some r ≡ true → is_some (get m n) ≡ true
  name_present m view some hit =
      let facts = found_facts bs i j n b is place.in_list r some hit in
      ap is_some (sym (ap (λ x. get x n) view) ∙ get_present bs i j n rising filled place facts.0 facts.1)
