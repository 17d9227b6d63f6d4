-- A way up from a linked directory has fewer steps than are taken.
use Rattle.std.proofs.Common.{◌≡◌, ℕ, suc, ◌≤◌, ◌<◌, Bool, true, false, ◌==◌, refl, ap, sym, ◌∙◌, arith}
use Rattle.std.specs.Prelude.{Option, Some, None, IsSome, is_some, option_and_then}
use Rattle.std.specs.FinMap.{get}
use Rattle.vfs_tree.specs.Child.{steps}
use Rattle.vfs_tree.specs.Layers.{linked_by, is_linked, parent_ino}
use Rattle.vfs_tree.specs.Sound.{climb, LeadsUp, IsSound}
use Rattle.vfs_tree.specs.Views.{dir_in, facts_of}
use Rattle.vfs_tree.specs.declared.node.NameEntry.TheVariants.{Ino}
use Rattle.vfs_tree.specs.declared.node.Store.{Store}
use Rattle.vfs_tree.specs.declared.view.DirFacts.{DirFacts}
use Rattle.vfs_tree.specs.declared.world.World.{World}
use Rattle.call_laws.proofs.MadeLaws.{kind_at, linked_dir}
use Rattle.call_laws.proofs.NamedLaws.{no_way}
use Rattle.call_laws.proofs.WayLaws as ways
use Rattle.call_laws.proofs.Whole.{IsWhole}
use Rattle.call_laws.proofs.WholeLaws.{IsWell, well_store}
use Rattle.model_laws.specs.Named.{IsNamedAbove}
use Rattle.model_laws.proofs.LinkLaws.{linked_above}

-- a way up to the root with fewer steps than are taken
pub record IsShort (dir : ℕ → Option DirFacts) (i : ℕ) : Type 0 where
  pub count : ℕ
  pub root : climb count dir i ≡ 1
  pub less : count < steps

linked_there : (t : Store) (i : ℕ) → linked_by (dir_in t i) ≡ true → IsSome (kind_at t i)
linked_there t i h = ap is_some (linked_dir t i (get t.nodes i) h)

short_in : (w : World) → IsWhole w → (s i : ℕ) (o : Option Store) → get w.stores s ≡ o → LeadsUp (λ i. option_and_then (λ (t : Store). dir_in t i) o) i → linked_by (option_and_then (λ (t : Store). dir_in t i) o) ≡ true
    → IsShort (λ i. option_and_then (λ (t : Store). dir_in t i) o) i
short_in w h s i (Some t) at up linked =
    let well : IsWell t = well_store w h s t at in
    let x : ways.ShortWay t i = ways.short_way t well i (linked_there t i linked) up in
    let few : suc x.steps ≤ t.next = x.less in
    let most : t.next ≤ 4294967295 = well.most in
    record { count = x.steps; root = x.root; less = ways.fits_steps x.steps (omega (arith, few, most)) }
short_in w h s i None at up linked = no_way linked

pub short_way : (w : World) → IsWhole w → (s i : ℕ) → is_linked (facts_of w) s i ≡ true → IsShort ((facts_of w).dir s) i
short_way w h s i linked = short_in w h s i (get w.stores s) refl ((h.sound.view.names s).lead i linked) linked

-- the parent of a linked directory other than the root is linked
pub parent_linked : (w : World) (s i : ℕ) → IsSound w → is_linked (facts_of w) s i ≡ true → (i == 1) ≡ false → is_linked (facts_of w) s (parent_ino (facts_of w) s i) ≡ true
parent_linked w s i sound linked other = by (is_linked (facts_of w) s (parent_ino (facts_of w) s i)) refl
  where
    x : IsNamedAbove (facts_of w) s i
    x = linked_above w s i sound linked other

    by : (b : Bool) → is_linked (facts_of w) s (parent_ino (facts_of w) s i) ≡ b → b ≡ true
    by true e = refl
    by false e = absurd (let clash : None ≡ Some (Ino i) = sym ((sound.view.names s).removed (parent_ino (facts_of w) s i) x.name e) ∙ x.gives in cc)
