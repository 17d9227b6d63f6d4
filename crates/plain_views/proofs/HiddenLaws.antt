-- Whether a union's directory shows a name, from its upper names and from those of its lower part that they don't hide.
use Rattle.std.specs.declared.cmp.Ordering.TheVariants.{Less, Equal, Greater}
use Rattle.std.proofs.Common.{◌≡◌, ℕ, Bool, true, false, cond, not, ◌&&◌, ◌||◌, List, [], ◌∷◌, ◌++◌, refl, ap, sym, ◌∙◌}
use Rattle.std.specs.Prelude.{Option, Some, None, is_some}
use Rattle.std.specs.List.{fold, filter_map, list_any}
use Rattle.std.specs.Cmp.Lexicographic.{nat_list_cmp_total}
use Rattle.std.specs.FinMap.{get, insert, entries, put, contains_key, entries-insert, get-empty}
use Rattle.std.specs.FinMap.Entries.{by_order}
use Rattle.std.proofs.lemmas.List.Folds.{list_any-append}
use Rattle.std.proofs.lemmas.Map.Lookups.{exact_bytes}
use Rattle.vfs_tree.specs.Name.{name_cmp}
use Rattle.vfs_tree.specs.Nodes.{Names, entry_in, entry_at, node_at}
use Rattle.vfs_tree.specs.Steps.{◌>>=◌}
use Rattle.vfs_tree.specs.Visible.{Listed, names_in, names_at, given_name, given_names, with_lower_name, merged}
use Rattle.vfs_tree.specs.declared.node.Node.{Node}
use Rattle.vfs_tree.specs.declared.node.Node.TheVariants.{Dir, File, Link}
use Rattle.vfs_tree.specs.declared.node.NameEntry.{NameEntry}
use Rattle.vfs_tree.specs.declared.node.NameEntry.TheVariants.{Ino, White}
use Rattle.vfs_tree.specs.declared.walk.NodeId.{NodeId}
use Rattle.vfs_tree.specs.declared.walk.Step.TheVariants.{Go, Refuse, Wants}
use Rattle.vfs_tree.specs.declared.world.World.{World}
use Rattle.plain_views.specs.Hidden.{is_hidden, any_unhidden, any_listed_under}

-- ---- tests

twice : (a b : Bool) → (a || b) ≡ (a || (a || b))
twice true b = refl
twice false b = refl

past : (a b c : Bool) → (a || (b || c)) ≡ (b || (a || c))
past true true c = refl
past true false c = refl
past false true c = refl
past false false c = refl

regrouped : (a b c : Bool) → (a || (b || c)) ≡ (a || b || c)
regrouped true b c = refl
regrouped false b c = refl

or_false : (a : Bool) → (a || false) ≡ a
or_false true = refl
or_false false = refl

-- neither of two tests holds
neither : (a b : Bool) → (not a && not b) ≡ not (b || (a || false))
neither true true = refl
neither true false = refl
neither false true = refl
neither false false = refl

-- ---- the names that pass a test

module _ (P : List ℕ → Bool) where
  abbrev given : List (List ℕ × NameEntry) → Bool
  given es = list_any P (filter_map given_name es)

  -- a name in the place of another one
  at_name : (n : List ℕ) (e : NameEntry) (es : List (List ℕ × NameEntry)) → (P n || given es) ≡ (P n || given ((n, e) ∷ es))
  at_name n (Ino i) es = twice (P n) (given es)
  at_name n White es = refl

  -- a name before those of an entry
  before_name : (n k : List ℕ) (e : NameEntry) (es fs : List (List ℕ × NameEntry)) → given fs ≡ (P n || given es) → given ((k, e) ∷ fs) ≡ (P n || given ((k, e) ∷ es))
  before_name n k (Ino i) es fs h = ap (λ x. P k || x) h ∙ past (P k) (P n) (given es)
  before_name n k White es fs h = h

  given-put : (n : List ℕ) (es : List (List ℕ × NameEntry)) → given (put name_cmp n (Ino 0) es) ≡ (P n || given es)
  given-put n [] = refl
  given-put n (e ∷ es) =
      elim (name_cmp n e.0) as (λ o. name_cmp n e.0 ≡ o → given (by_order o ((n, Ino 0) ∷ e ∷ es) ((e.0, Ino 0) ∷ es) (e ∷ put name_cmp n (Ino 0) es)) ≡ (P n || given (e ∷ es))) [
        | Less ↦ λ _. refl
        | Equal ↦ λ same. at_name e.0 e.1 es ∙ ap (λ k. P k || given (e ∷ es)) (sym (exact_bytes n e.0 same))
        | Greater ↦ λ _. before_name n e.0 e.1 es (put name_cmp n (Ino 0) es) (given-put n es)
      ] refl

  given-insert : (names : Names) (n : List ℕ) → list_any P (given_names (insert names n (Ino 0))) ≡ (P n || list_any P (given_names names))
  given-insert names n = ap given (entries-insert nat_list_cmp_total names n (Ino 0)) ∙ given-put n (entries names)

  given_more : (upper names : Names) (n : List ℕ) → list_any P (given_names (with_lower_name upper names n)) ≡ ((not (contains_key upper n) && P n) || list_any P (given_names names))
  given_more upper names n = elim (contains_key upper n) as (λ b. list_any P (given_names (cond b names (insert names n (Ino 0)))) ≡ ((not b && P n) || list_any P (given_names names))) [ true ↦ refl | false ↦ given-insert names n ]

  given-fold : (upper : Names) (lower : List (List ℕ)) (names : Names)
      → list_any P (given_names (fold (with_lower_name upper) names lower)) ≡ (list_any P (given_names names) || list_any (λ n. not (contains_key upper n) && P n) lower)
  given-fold upper [] names = sym (or_false (list_any P (given_names names)))
  given-fold upper (n ∷ ns) names =
      let new = not (contains_key upper n) && P n in
      let others = list_any (λ k. not (contains_key upper k) && P k) ns in
      given-fold upper ns (with_lower_name upper names n) ∙ ap (λ x. x || others) (given_more upper names n)
      ∙ sym (regrouped new (list_any P (given_names names)) others) ∙ past new (list_any P (given_names names)) others

-- ---- under the directories above

entry_is : (n : List ℕ) (o : Option Node) → get (names_in o) n ≡ entry_in n o
entry_is n (Some (Dir parent opaque names)) = refl
entry_is n (Some (File bytes)) = get-empty {X = NameEntry} name_cmp n
entry_is n (Some (Link target)) = get-empty {X = NameEntry} name_cmp n
entry_is n None = get-empty {X = NameEntry} name_cmp n

module _ (w : World) (above : List NodeId) (dir : NodeId) where
  -- a name that the upper directory leaves, and none of those above hides, is hidden by none of them all
  left : (n : List ℕ) → (not (contains_key (names_at w dir.store dir.ino) n) && not (is_hidden w above n)) ≡ not (is_hidden w (above ++ dir ∷ []) n)
  left n =
      let test : NodeId → Bool = λ d. is_some (entry_at w d.store d.ino n) in
      ap (λ o. not (is_some o) && not (is_hidden w above n)) (entry_is n (node_at w dir.store dir.ino))
      ∙ neither (test dir) (is_hidden w above n) ∙ ap not (sym (list_any-append test above (dir ∷ [])))

  any-merged : (found : Bool) (lower : List (List ℕ))
      → (found || any_unhidden w above (merged (names_at w dir.store dir.ino) lower)) ≡ (found || any_unhidden w above (given_names (names_at w dir.store dir.ino)) || any_unhidden w (above ++ dir ∷ []) lower)
  any-merged found lower =
      let upper = names_at w dir.store dir.ino in
      ap (λ x. found || x) (given-fold (λ n. not (is_hidden w above n)) upper lower upper ∙ ap (λ x. any_unhidden w above (given_names upper) || x) (λ i. list_any (λ n. left n i) lower))
      ∙ regrouped found (any_unhidden w above (given_names upper)) (any_unhidden w (above ++ dir ∷ []) lower)

  -- what a union's directory lists of its lower part's names
  pub over-listed : (found : Bool) (lower : Listed)
      → any_listed_under w (above ++ dir ∷ []) (found || any_unhidden w above (given_names (names_at w dir.store dir.ino))) lower ≡ any_listed_under w above found (lower >>= (λ names. Go (merged (names_at w dir.store dir.ino) names)))
  over-listed found (Go names) = ap Go (sym (any-merged found names))
  over-listed found (Refuse e) = refl
  over-listed found (Wants x) = refl
