-- A mount that is cut stands on what it stood on.
use Rattle.std.proofs.Common.{◌≡◌, ℕ, zero, suc, ◌+◌, true, false, cond, List, [], ◌∷◌, refl, ap, sym, ◌∙◌}
use Rattle.std.specs.Prelude.{Some, ◌||◌, ◌==◌}
use Rattle.std.specs.List.{list_any}
use Rattle.std.specs.Ordering.{nat_cmp, eq_by_cmp}
use Rattle.std.specs.FinMap.{get, entries, find, get-entries}
use Rattle.vfs_tree.specs.Mounts.{Mounts, layers, layers_at, stands_within, cut_with}
use Rattle.vfs_tree.specs.declared.mount.Mount.{Mount}
use Rattle.plain_effects.specs.Entries.{changed_at}
use Rattle.plain_effects.proofs.EachLaws.{changed_to, more_changed}

-- the layers of those that are cut
found_layers : (f : Mount → Mount) → ((t : Mount) → layers (f t).kind ≡ layers t.kind) → (i : ℕ) (es : List (ℕ × Mount)) (q : ℕ) → layers_at (find nat_cmp q (changed_to i f es)) ≡ layers_at (find nat_cmp q es)
found_layers f same zero es q = refl
found_layers f same (suc i) [] q = refl
found_layers f same (suc i) (e ∷ es) q =
    elim (eq_by_cmp nat_cmp q e.0) as (λ b. layers_at (cond b (Some (f e.1)) (find nat_cmp q (changed_to i f es))) ≡ layers_at (cond b (Some e.1) (find nat_cmp q es))) [
      | true ↦ same e.1
      | false ↦ found_layers f same i es q
    ]

same_layers : (m n : Mounts) (k i : ℕ) → entries n ≡ changed_to i (cut_with m k) (entries m) → (q : ℕ) → layers_at (get n q) ≡ layers_at (get m q)
same_layers m n k i is q =
    ap layers_at (get-entries n q ∙ ap (find nat_cmp q) is) ∙ found_layers (cut_with m k) (λ t. refl) i (entries m) q ∙ ap layers_at (sym (get-entries m q))

same_stands : (m n : Mounts) → ((q : ℕ) → layers_at (get n q) ≡ layers_at (get m q)) → (k a b : ℕ) → stands_within k n a b ≡ stands_within k m a b
same_stands m n h zero a b = refl
same_stands m n h (suc k) a b = λ i. list_any (λ l. (l == b) || same_stands m n h k l b i) (h a i)

-- the mounts so far cut the same
same_cut : (m n : Mounts) (k i : ℕ) → entries n ≡ changed_to i (cut_with m k) (entries m) → cut_with n k ≡ cut_with m k
same_cut m n k i is = λ j t. record t { cut = t.cut || ((t.number == k) || same_stands m n (same_layers m n k i is) (suc t.number) t.number k j) }

-- one more is cut
pub more_cut : (m n o : Mounts) (k i : ℕ) → entries n ≡ changed_to i (cut_with m k) (entries m) → entries o ≡ changed_at i (cut_with n k) (entries n) → entries o ≡ changed_to (i + 1) (cut_with m k) (entries m)
more_cut m n o k i is next = more_changed i (cut_with m k) (entries m) (entries n) (entries o) is (next ∙ ap (λ f. changed_at i f (entries n)) (same_cut m n k i is))
