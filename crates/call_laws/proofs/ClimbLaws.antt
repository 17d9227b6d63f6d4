-- Ways up from a directory that pass another one by.
use Rattle.std.proofs.Common.{◌≡◌, ℕ, zero, suc, ◌≤◌, ◌<◌, Bool, true, false, ◌==◌, refl, ap, sym, ◌∙◌, subst, arith, eqb-true, eq-eqb}
use Rattle.std.specs.Prelude.{Option, IsSome}
use Rattle.vfs_tree.specs.Carriers.{below_case, below_within}
use Rattle.vfs_tree.specs.Child.{steps}
use Rattle.vfs_tree.specs.Facts.{Facts}
use Rattle.vfs_tree.specs.Layers.{parent_by, parent_ino}
use Rattle.vfs_tree.specs.Sound.{climb, LeadsUp}
use Rattle.vfs_tree.specs.Views.{dir_in}
use Rattle.vfs_tree.specs.declared.node.Store.{Store}
use Rattle.vfs_tree.specs.declared.view.DirFacts.{DirFacts}
use Rattle.call_laws.proofs.MadeLaws.{kind_at}
use Rattle.call_laws.proofs.NamedLaws.{no_way}
use Rattle.call_laws.proofs.WayLaws.{not_one, ShortWay, short_way, fits_steps}
use Rattle.call_laws.proofs.WholeLaws.{IsWell}

abbrev pub Avoids : (ℕ → Option DirFacts) → ℕ → ℕ → ℕ → Type 0
Avoids dir x zero d = (d ≡ 1) × (d ≡ x → ⊥)
Avoids dir x (suc k) d = (d ≡ x → ⊥) × Avoids dir x k (parent_by d (dir d))

-- a way up to the root past a directory
pub record AvoidsUp (dir : ℕ → Option DirFacts) (x d : ℕ) : Type 0 where
  pub steps : ℕ
  pub way : Avoids dir x steps d

not_same : (a b : ℕ) → (a == b) ≡ false → a ≡ b → ⊥
not_same a b e is = no_way (sym e ∙ eq-eqb a b is)

avoid_step : (dir : ℕ → Option DirFacts) (x d : ℕ) → (d == x) ≡ false → AvoidsUp dir x (parent_by d (dir d)) → AvoidsUp dir x d
avoid_step dir x d other up = record { steps = suc up.steps; way = (not_same d x other, up.way) }

avoiding : (f : Facts) (s x k j i : ℕ) → climb k (f.dir s) i ≡ 1 → k < j → below_within j f s x i ≡ false → AvoidsUp (f.dir s) x i
avoiding f s x k zero i e less off = absurd (omega (arith, less))
avoiding f s x k (suc j) i e less off =
    elim (i == x) as (λ b. (i == x) ≡ b → below_case (below_within j f s x) (parent_ino f s i) b (i == 1) ≡ false → AvoidsUp (f.dir s) x i) [
      | true ↦ λ is off. no_way (sym off)
      | false ↦ λ other off. elim (i == 1) as (λ b. (i == 1) ≡ b → below_case (below_within j f s x) (parent_ino f s i) false b ≡ false → AvoidsUp (f.dir s) x i) [
        | true ↦ λ root off. record { steps = 0; way = (eqb-true i 1 root, not_same i x other) }
        | false ↦ λ low off. more k e less other low off (λ m e less. avoiding f s x m j (parent_by i (f.dir s i)) e less off)
      ] refl off
    ] refl off
  where
    more : (k : ℕ) → climb k (f.dir s) i ≡ 1 → k < suc j → (i == x) ≡ false → (i == 1) ≡ false → below_within j f s x (parent_ino f s i) ≡ false
        → ((m : ℕ) → climb m (f.dir s) (parent_by i (f.dir s i)) ≡ 1 → m < j → AvoidsUp (f.dir s) x (parent_by i (f.dir s i))) → AvoidsUp (f.dir s) x i
    more zero e less other low off up = absurd (not_one i low e)
    more (suc m) e less other low off up = avoid_step (f.dir s) x i other (up m e (omega (arith, less)))

-- from a linked directory that isn't below another one a way leads up past that one
pub avoids_up : (f : Facts) (s x i : ℕ) (t : Store) → f.dir s ≡ dir_in t → IsWell t → IsSome (kind_at t i) → LeadsUp (dir_in t) i → below_within steps f s x i ≡ false → AvoidsUp (dir_in t) x i
avoids_up f s x i t same h there up off =
    let l : ShortWay t i = short_way t h i there up in
    let few : suc l.steps ≤ t.next = l.less in
    let most : t.next ≤ 4294967295 = h.most in
    let less : l.steps < steps = fits_steps l.steps (omega (arith, few, most)) in
    subst (λ dir. AvoidsUp dir x i) same (avoiding f s x l.steps steps i (ap (λ dir. climb l.steps dir i) same ∙ l.root) less off)

-- the root isn't that directory
pub avoids_root : (dir : ℕ → Option DirFacts) (x k d : ℕ) → Avoids dir x k d → (x == 1) ≡ false
avoids_root dir x zero d a = other (x == 1) refl
  where
    other : (b : Bool) → (x == 1) ≡ b → b ≡ false
    other true e = absurd (a.1 (a.0 ∙ sym (eqb-true x 1 e)))
    other false e = refl
avoids_root dir x (suc k) d a = avoids_root dir x k (parent_by d (dir d)) a.1
