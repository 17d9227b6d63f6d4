-- What is kept of a world.
use Rattle.std.proofs.Common.{◌≡◌, ℕ, Bool, true, false, cond, List, [], ◌∷◌, map, refl, ap, sym, ◌∙◌, nat_cmp}
use Rattle.std.specs.Prelude.{Option, Some, None, option_map}
use Rattle.std.specs.Cmp.{nat_cmp_total}
use Rattle.std.specs.Ordering.{eq_by_cmp}
use Rattle.std.specs.FinMap.{FinMap, get, contains_key, retain_keys, entries, find, get-entries, get-from_entries, get-retain_keys, nat_cmp-IsAntisymmetric}
use Rattle.vfs_tree.specs.declared.node.Store.{Store}
use Rattle.vfs_tree.specs.declared.world.World.{World}
use Rattle.call_model.specs.Kept.{is_kept, kept_store, kept}
use Rattle.call_laws.proofs.WeightLaws.{equal}

-- each value changed by its key
find_at : {X : Type 0} (f : ℕ → X → X) (es : List (ℕ × X)) (q : ℕ) → find nat_cmp q (map (λ e. (e.0, f e.0 e.1)) es) ≡ option_map (f q) (find nat_cmp q es)
find_at f [] q = refl
find_at f (e ∷ es) q =
    elim (eq_by_cmp nat_cmp q e.0) as (λ b. eq_by_cmp nat_cmp q e.0 ≡ b → cond b (Some (f e.0 e.1)) (find nat_cmp q (map (λ d. (d.0, f d.0 d.1)) es)) ≡ option_map (f q) (cond b (Some e.1) (find nat_cmp q es))) [
      | true ↦ λ is. ap (λ k. Some (f k e.1)) (sym (nat_cmp-IsAntisymmetric q e.0 (equal (nat_cmp q e.0) is)))
      | false ↦ λ _. find_at f es q
    ] refl

retained : {X : Type 0} (m : FinMap nat_cmp X) (p : ℕ → Bool) (q : ℕ) → get (retain_keys m p) q ≡ cond (p q) (get m q) None
retained m p q = get-retain_keys m p q (λ x e. ap p (sym (nat_cmp-IsAntisymmetric q x e)))

option_cond : {X : Type 0} (f : X → X) (b : Bool) (o : Option X) → option_map f (cond b o None) ≡ cond b (option_map f o) None
option_cond f true o = refl
option_cond f false o = refl

-- a store is kept exactly where its mount is there
pub store_kept : (w : World) (s : ℕ) → get (kept w).stores s ≡ cond (contains_key w.mounts s) (option_map (kept_store w s) (get w.stores s)) None
store_kept w s =
    let there = retain_keys w.stores (contains_key w.mounts) in
    get-from_entries nat_cmp_total (map (λ e. (e.0, kept_store w e.0 e.1)) (entries there)) s
    ∙ find_at (kept_store w) (entries there) s
    ∙ ap (option_map (kept_store w s)) (sym (get-entries there s) ∙ retained w.stores (contains_key w.mounts) s)
    ∙ option_cond (kept_store w s) (contains_key w.mounts s) (get w.stores s)

-- a node of it exactly where it is linked, or something rests on it
pub node_kept : (w : World) (s : ℕ) (t : Store) (i : ℕ) → get (kept_store w s t).nodes i ≡ cond (is_kept w s t i) (get t.nodes i) None
node_kept w s t i = retained t.nodes (is_kept w s t) i
