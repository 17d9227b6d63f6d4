-- What a doom does to the open files and current directories, where the place is taken out meanwhile.
use Rattle.std.specs.declared.cmp.Ordering.{Ordering}
use Rattle.std.proofs.Common.{◌≡◌, ℕ, Bool, true, false, List, [], ◌∷◌, refl, ap, sym, ◌∙◌, eq-eqb}
use Rattle.std.specs.Prelude.{Option, Some, None, option_map, ◌&&◌, ◌||◌, ◌==◌}
use Rattle.std.specs.Ordering.{nat_cmp}
use Rattle.std.specs.Str.{bytes_eq}
use Rattle.std.specs.Cmp.{IsTotalOrder, nat_cmp_total}
use Rattle.std.specs.FinMap.{FinMap, get, insert}
use Rattle.std.proofs.lemmas.Map.Lookups.{CmpEqualImpliesEq, exact_unsigned}
use Rattle.finite_maps.specs.Keys.{pair_cmp}
use Rattle.finite_maps.proofs.EntryLaws.{get_at-insert, pair_total, pair_exact}
use Rattle.vfs_tree.specs.Place.{Seen, Mem, Null, UnionUp, UnionLow}
use Rattle.vfs_tree.specs.Layers.{same_place}
use Rattle.vfs_tree.specs.declared.open.Cwd.{Cwd}
use Rattle.vfs_tree.specs.declared.open.Open.{Open}
use Rattle.vfs_tree.specs.declared.world.World.{World}
use Rattle.call_model.specs.Effects.{each, doomed_open, doomed_cwd, doomed_place}
use Rattle.plain_effects.specs.Entries.{changed_key}
use Rattle.plain_effects.proofs.EachLaws.{get_each, given_back}

-- ---- a place is the same as itself

both : (a b : Bool) → a ≡ true → b ≡ true → (a && b) ≡ true
both true b p q = q
both false b p q = p

same_bytes : (n : List ℕ) → bytes_eq n n ≡ true
same_bytes [] = refl
same_bytes (b ∷ n) = both (b == b) (bytes_eq n n) (eq-eqb b b refl) (same_bytes n)

pub same_itself : (p : Seen) → same_place p p ≡ true
same_itself (Mem m i) = both (m == m) (i == i) (eq-eqb m m refl) (eq-eqb i i refl)
same_itself (Null m p) = both (m == m) (same_place p p) (eq-eqb m m refl) (same_itself p)
same_itself (UnionUp m i) = both (m == m) (i == i) (eq-eqb m m refl) (eq-eqb i i refl)
same_itself (UnionLow m u n p) = both (m == m) _ (eq-eqb m m refl) (both (u == u) _ (eq-eqb u u refl) (both (bytes_eq n n) (same_place p p) (same_bytes n) (same_itself p)))

-- ---- the value at a key is another meanwhile

module _ {K X P : Type 0} {R : K → K → Ordering} (o : IsTotalOrder R) (exact : CmpEqualImpliesEq R) (take : X → X) (give : P → X → X) (place : X → P) (f : P → X → X) (law : (v : X) → give (place v) (f (place v) (take v)) ≡ f (place v) v) where
  back_at : (m t d g : FinMap R X) (k : K) (p : P) (v : X) → Some v ≡ get m k → p ≡ place v → t ≡ insert m k (take v) → d ≡ each (f p) t → g ≡ changed_key (give p) d k (get d k) → g ≡ each (f p) m
  back_at m t d g k p v was of taken all given =
      let made : d ≡ each (f p) (insert m k (take v)) = all ∙ ap (each (f p)) taken in
      let there : get d k ≡ Some (f p (take v)) = ap (λ x. get x k) made ∙ get_each o (f p) (insert m k (take v)) k ∙ ap (option_map (f p)) (get_at-insert o m k (take v)) in
      let put : g ≡ insert d k (give p (f p (take v))) = given ∙ ap (changed_key (give p) d k) there in
      let value : give p (f p (take v)) ≡ f p v = ap (λ x. give x (f x (take v))) of ∙ law v ∙ ap (λ x. f x v) (sym of) in
      put ∙ ap (λ x. insert x k (give p (f p (take v)))) made ∙ given_back o exact (f p) m k v (take v) (give p (f p (take v))) was value

  by_cases : (m t d g : FinMap R X) (k : K) (p : P) (r : Option X) → r ≡ get m k → Some p ≡ option_map place r → t ≡ changed_key take m k r → d ≡ each (f p) t → g ≡ changed_key (give p) d k (get d k) → g ≡ each (f p) m
  by_cases m t d g k p (Some v) was of taken all given = let at : p ≡ place v = cc in back_at m t d g k p v was at taken all given
  by_cases m t d g k p None was of taken all given = absurd (cc)

  pub back : (m t d g : FinMap R X) (k : K) (p : P) → Some p ≡ option_map place (get m k) → t ≡ changed_key take m k (get m k) → d ≡ each (f p) t → g ≡ changed_key (give p) d k (get d k) → g ≡ each (f p) m
  back m t d g k p of taken all given = by_cases m t d g k p (get m k) refl of taken all given

-- ---- open files and current directories

dies : (a b : Bool) → b ≡ true → true ≡ (a || b)
dies true b e = refl
dies false b e = sym e

open_dies : (v : Open) → record (doomed_open v.place (record v { place = Mem 0 1 })) { place = v.place; dead = true } ≡ doomed_open v.place v
open_dies v = ap (λ (b : Bool). record v { dead = b }) (dies v.dead (same_place v.place v.place) (same_itself v.place))

cwd_dies : (v : Cwd) → record (doomed_cwd v.place (record v { place = Mem 0 1 })) { place = v.place; dead = true } ≡ doomed_cwd v.place v
cwd_dies v = ap (λ (b : Bool). record v { dead = b }) (dies v.dead (same_place v.place v.place) (same_itself v.place))

pub opens_back : (m t d g : FinMap pair_cmp Open) (k : ℕ × ℕ) (p : Seen) → Some p ≡ option_map (λ v. v.place) (get m k) → t ≡ changed_key (λ v. record v { place = Mem 0 1 }) m k (get m k)
    → d ≡ each (doomed_open p) t → g ≡ changed_key (λ v. record v { place = p; dead = true }) d k (get d k) → g ≡ each (doomed_open p) m
opens_back = back pair_total pair_exact (λ v. record v { place = Mem 0 1 }) (λ p v. record v { place = p; dead = true }) (λ v. v.place) doomed_open open_dies

pub cwds_back : (m t d g : FinMap nat_cmp Cwd) (k : ℕ) (p : Seen) → Some p ≡ option_map (λ v. v.place) (get m k) → t ≡ changed_key (λ v. record v { place = Mem 0 1 }) m k (get m k)
    → d ≡ each (doomed_cwd p) t → g ≡ changed_key (λ v. record v { place = p; dead = true }) d k (get d k) → g ≡ each (doomed_cwd p) m
cwds_back = back nat_cmp_total exact_unsigned (λ v. record v { place = Mem 0 1 }) (λ p v. record v { place = p; dead = true }) (λ v. v.place) doomed_cwd cwd_dies

-- both together
pub doomed_by : (w : World) (p : Seen) (r : Option Seen) (opens : FinMap pair_cmp Open) (cwds : FinMap nat_cmp Cwd) → Some p ≡ r → opens ≡ each (doomed_open p) w.opens → cwds ≡ each (doomed_cwd p) w.cwds
    → record w { opens = opens; cwds = cwds } ≡ doomed_place w r
doomed_by w p r opens cwds of a b =
    ap (λ (x : FinMap pair_cmp Open). record w { opens = x; cwds = cwds }) a ∙ ap (λ (x : FinMap nat_cmp Cwd). record w { opens = each (doomed_open p) w.opens; cwds = x }) b ∙ ap (doomed_place w) of
