-- How inner entries change which callers are leaving a mount.
use Rattle.std.proofs.Common.{◌≡◌, ℕ, false, cond, ◌==◌, List, [], refl, ap, sym, ◌∙◌, nat_cmp}
use Rattle.std.specs.Prelude.{Option, Some, None, IsSome, is_some}
use Rattle.std.specs.Cmp.{nat_cmp_total, unsigned_ties}
use Rattle.std.specs.FinMap.{FinMap, get, insert, get-insert}
use Rattle.finite_maps.proofs.EntryLaws.{get_at-insert}
use Rattle.vfs_tree.specs.Child.{child_of, child_below, low}
use Rattle.vfs_tree.specs.Edits.{new_dir}
use Rattle.vfs_tree.specs.Place.{Seen}
use Rattle.vfs_tree.specs.Views.{facts_of}
use Rattle.vfs_tree.specs.declared.node.Node.TheVariants.{File}
use Rattle.vfs_tree.specs.declared.walk.Child.{Child}
use Rattle.vfs_tree.specs.declared.walk.Child.TheVariants as child
use Rattle.vfs_tree.specs.declared.world.World.{World}
use Rattle.call_model.specs.Checks.{node_of}
use Rattle.call_model.specs.Effects.{copy_of, copied_child, doomed_place, effect}
use Rattle.call_model.specs.Refs.{place_of}
use Rattle.call_model.specs.declared.entry.Inner.{Inner}
use Rattle.call_model.specs.declared.entry.Inner.TheVariants.{Shadow, CopyUp, Detach, Doom}
use Rattle.call_model.specs.declared.entry.Ref.{Ref}
use Rattle.call_laws.proofs.LiveLaws.{alone-made_above}

leaving_child : (w : World) (m u : ℕ) (n : List ℕ) (o : Child) → (copied_child w m u n o).leaving ≡ w.leaving
leaving_child w m u n (child.At q) = (alone-made_above w m u n (copy_of (node_of w q))).2
leaving_child w m u n child.Absent = (alone-made_above w m u n (File [])).2
leaving_child w m u n (child.Need x) = (alone-made_above w m u n (File [])).2

leaving_doomed : (w : World) (o : Option Seen) → (doomed_place w o).leaving ≡ w.leaving
leaving_doomed w (Some p) = refl
leaving_doomed w None = refl

-- a shadow directory changes nothing of which callers are leaving a mount
pub all_leaving-shadow : (w : World) (c m u : ℕ) (n : List ℕ) → (effect w c (Shadow m u n)).leaving ≡ w.leaving
all_leaving-shadow w c m u n = (alone-made_above w m u n (new_dir u false)).2

-- nor does a copy
pub all_leaving-copy_up : (w : World) (c m u : ℕ) (n : List ℕ) → (effect w c (CopyUp m u n)).leaving ≡ w.leaving
all_leaving-copy_up w c m u n = leaving_child w m u n (child_below (child_of (facts_of w)) (low (facts_of w) m u) n)

-- nor the doom of a reference
pub all_leaving-doom : (w : World) (c : ℕ) (at : Ref) → (effect w c (Doom at)).leaving ≡ w.leaving
all_leaving-doom w c at = leaving_doomed w (place_of w at)

-- so the caller leaves the mount that it left before, or none as before
pub leaving-shadow : (w : World) (c m u : ℕ) (n : List ℕ) → get (effect w c (Shadow m u n)).leaving c ≡ get w.leaving c
leaving-shadow w c m u n = ap (λ l. get l c) (all_leaving-shadow w c m u n)

pub leaving-copy_up : (w : World) (c m u : ℕ) (n : List ℕ) → get (effect w c (CopyUp m u n)).leaving c ≡ get w.leaving c
leaving-copy_up w c m u n = ap (λ l. get l c) (all_leaving-copy_up w c m u n)

pub leaving-doom : (w : World) (c : ℕ) (at : Ref) → get (effect w c (Doom at)).leaving c ≡ get w.leaving c
leaving-doom w c at = ap (λ l. get l c) (all_leaving-doom w c at)

pub others_entered : (m : FinMap nat_cmp ℕ) (c d k : ℕ) → (d == c) ≡ false → get (insert m c k) d ≡ get m d
others_entered m c d k apart = get-insert nat_cmp_total m c k d ∙ ap (λ b. cond b (Some k) (get m d)) (sym (unsigned_ties d c) ∙ apart)

-- an inner entry of a caller changes no other caller's leaving
pub leaving-inner : (w : World) (c : ℕ) (x : Inner) (d : ℕ) → (d == c) ≡ false → get (effect w c x).leaving d ≡ get w.leaving d
leaving-inner w c (Shadow m u n) d apart = ap (λ l. get l d) (all_leaving-shadow w c m u n)
leaving-inner w c (CopyUp m u n) d apart = ap (λ l. get l d) (all_leaving-copy_up w c m u n)
leaving-inner w c (Detach m) d apart = others_entered w.leaving c d m apart
leaving-inner w c (Doom at) d apart = ap (λ l. get l d) (all_leaving-doom w c at)

-- a caller that is leaving a mount is leaving one after an inner entry of its own
pub leaving_own : (w : World) (c : ℕ) (x : Inner) → IsSome (get w.leaving c) → IsSome (get (effect w c x).leaving c)
leaving_own w c (Shadow m u n) h = ap is_some (leaving-shadow w c m u n) ∙ h
leaving_own w c (CopyUp m u n) h = ap is_some (leaving-copy_up w c m u n) ∙ h
leaving_own w c (Detach m) h = ap is_some (get_at-insert nat_cmp_total w.leaving c m)
leaving_own w c (Doom at) h = ap is_some (leaving-doom w c at) ∙ h
