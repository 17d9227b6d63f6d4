-- Dead flags that stay.
use Rattle.std.specs.declared.cmp.Ordering.{Ordering}
use Rattle.std.proofs.Common.{◌≡◌, ℕ, Bool, true, false, cond, List, [], ◌∷◌, map, refl, ap, sym, ◌∙◌, nat_cmp}
use Rattle.std.specs.Prelude.{Option, Some, None, option_map}
use Rattle.std.specs.Cmp.{IsTotalOrder, nat_cmp_total}
use Rattle.std.specs.Ordering.{eq_by_cmp}
use Rattle.std.specs.FinMap.{FinMap, get, insert, remove, entries, find, get-remove, get-entries, get-from_entries}
use Rattle.finite_maps.specs.Keys.{pair_cmp}
use Rattle.finite_maps.proofs.EntryLaws.{pair_total, pair_exact, by_key}
use Rattle.std.proofs.lemmas.Map.Lookups.{exact_unsigned}
use Rattle.vfs_tree.specs.declared.open.Cwd.{Cwd}
use Rattle.vfs_tree.specs.declared.open.Open.{Open}
use Rattle.vfs_tree.specs.declared.world.World.{World}
use Rattle.call_model.specs.Effects.{each}
use Rattle.call_laws.specs.Flags.{is_dead_open, is_dead_cwd, SetsNoFlag}

-- ---- each value changed

find_each : {K X : Type 0} (R : K → K → Ordering) (f : X → X) (es : List (K × X)) (q : K) → find R q (map (λ e. (e.0, f e.1)) es) ≡ option_map f (find R q es)
find_each R f [] q = refl
find_each R f (e ∷ es) q =
    elim (eq_by_cmp R q e.0) as (λ b. cond b (Some (f e.1)) (find R q (map (λ d. (d.0, f d.1)) es)) ≡ option_map f (cond b (Some e.1) (find R q es))) [ true ↦ refl | false ↦ find_each R f es q ]

-- what stands at a key where each value is changed
pub get_each : {K X : Type 0} {R : K → K → Ordering} → IsTotalOrder R → (f : X → X) (m : FinMap R X) (q : K) → get (each f m) q ≡ option_map f (get m q)
get_each {R = R} o f m q = get-from_entries o (map (λ e. (e.0, f e.1)) (entries m)) q ∙ find_each R f (entries m) q ∙ ap (option_map f) (sym (get-entries m q))

-- ---- worlds

pub no_flag : (w v : World) → v.opens ≡ w.opens → v.cwds ≡ w.cwds → SetsNoFlag w v
no_flag w v p q = record {
  opens = λ k e. ap (λ m. is_dead_open (get m k)) (sym p) ∙ e;
  cwds = λ c e. ap (λ m. is_dead_cwd (get m c)) (sym q) ∙ e;
}

pub no_flag-through : (u v w : World) → SetsNoFlag u v → SetsNoFlag v w → SetsNoFlag u w
no_flag-through u v w g h = record { opens = λ k e. g.opens k (h.opens k e); cwds = λ c e. g.cwds c (h.cwds c e) }

-- a descriptor's open file is set to one that is dead only where the old one was
pub no_flag-open : (m : FinMap pair_cmp Open) (at : ℕ × ℕ) (o : Open) → (o.dead ≡ true → is_dead_open (get m at) ≡ true) → (k : ℕ × ℕ)
    → is_dead_open (get (insert m at o) k) ≡ true → is_dead_open (get m k) ≡ true
no_flag-open m at o h k =
    by_key pair_total pair_exact m at o k (λ x. is_dead_open x ≡ true → is_dead_open (get m k) ≡ true) (λ same e. ap (λ q. is_dead_open (get m q)) same ∙ h e) (λ e. e)

pub no_flag-cwd : (m : FinMap nat_cmp Cwd) (at : ℕ) (d : Cwd) → d.dead ≡ false → (c : ℕ)
    → is_dead_cwd (get (insert m at d) c) ≡ true → is_dead_cwd (get m c) ≡ true
no_flag-cwd m at d alive c =
    by_key nat_cmp_total exact_unsigned m at d c (λ x. is_dead_cwd x ≡ true → is_dead_cwd (get m c) ≡ true) (λ same e. absurd (let clash : false ≡ true = sym alive ∙ e in cc)) (λ e. e)

gone_dead : (b : Bool) (x : Option Open) → is_dead_open (cond b None x) ≡ true → is_dead_open x ≡ true
gone_dead true x e = cc
gone_dead false x e = e

pub no_flag-close : (m : FinMap pair_cmp Open) (at k : ℕ × ℕ) → is_dead_open (get (remove m at) k) ≡ true → is_dead_open (get m k) ≡ true
no_flag-close m at k e = gone_dead (eq_by_cmp pair_cmp k at) (get m k) (sym (ap is_dead_open (get-remove pair_total m at k)) ∙ e)

each_dead : (f : Open → Open) → ((o : Open) → (f o).dead ≡ o.dead) → (x : Option Open) → is_dead_open (option_map f x) ≡ is_dead_open x
each_dead f same (Some o) = same o
each_dead f same None = refl

-- each open file is changed in something else
pub no_flag-each : (f : Open → Open) → ((o : Open) → (f o).dead ≡ o.dead) → (m : FinMap pair_cmp Open) (k : ℕ × ℕ) → is_dead_open (get (each f m) k) ≡ true → is_dead_open (get m k) ≡ true
no_flag-each f same m k e = sym (each_dead f same (get m k)) ∙ sym (ap is_dead_open (get_each pair_total f m k)) ∙ e
