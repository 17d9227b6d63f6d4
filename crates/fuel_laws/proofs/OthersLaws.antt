-- What others do leaves what is open, and the mounts that are left. What dooms leave.
use Rattle.std.proofs.Common.{◌≡◌, ℕ, Bool, true, false, cond, ◌==◌, List, [], refl, ap, sym, ◌∙◌, subst}
use Rattle.std.specs.Prelude.{Option, Some, None, option_map}
use Rattle.std.specs.Cmp.{nat_cmp_total}
use Rattle.std.specs.FinMap.{get}
use Rattle.finite_maps.proofs.EntryLaws.{pair_total}
use Rattle.vfs_tree.specs.Child.{child_of, child_below, low}
use Rattle.vfs_tree.specs.Edits.{new_dir}
use Rattle.vfs_tree.specs.Nodes.{next_of}
use Rattle.vfs_tree.specs.Place.{Seen, UnionUp, UnionLow}
use Rattle.vfs_tree.specs.Views.{facts_of}
use Rattle.vfs_tree.specs.declared.node.Node.{Node}
use Rattle.vfs_tree.specs.declared.node.Node.TheVariants.{File}
use Rattle.vfs_tree.specs.declared.open.Cwd.{Cwd}
use Rattle.vfs_tree.specs.declared.open.Open.{Open}
use Rattle.vfs_tree.specs.declared.walk.Child.{Child}
use Rattle.vfs_tree.specs.declared.walk.Child.TheVariants as child
use Rattle.vfs_tree.specs.declared.walk.Step.TheVariants.{Go, Refuse, Wants}
use Rattle.vfs_tree.specs.declared.world.World.{World}
use Rattle.call_model.specs.Apply.{settle}
use Rattle.call_model.specs.Checks.{Outcome, upper_store, node_of}
use Rattle.call_model.specs.Effects.{made_above, turned_open, turned_opens, copy_of, copied_child, doomed_open, doomed_cwd, doomed_place, effect}
use Rattle.call_model.specs.Legal.{after, is_no_memory, world_after}
use Rattle.call_model.specs.Refs.{place_of}
use Rattle.call_model.specs.Rows.{row}
use Rattle.call_model.specs.declared.call.Call.{Call}
use Rattle.call_model.specs.declared.entry.Entry.TheVariants as entry
use Rattle.call_model.specs.declared.entry.Inner.TheVariants.{CopyUp, Detach, Doom, Shadow}
use Rattle.call_model.specs.declared.entry.Ref.{Ref}
use Rattle.call_model.specs.declared.reply.Reply.{Reply}
use Rattle.call_laws.specs.Fitting.{Fits}
use Rattle.call_laws.proofs.FlagLaws.{get_each}
use Rattle.call_laws.proofs.LiveLaws.{alone-made_above}
use Rattle.call_laws.proofs.RowLaws.{row_fits}
use Rattle.fuel_laws.specs.Staying.{StaysButPlace, StaysButDead, StaysButOffset, KeepsPlace}
use Rattle.fuel_laws.proofs.ApartLaws.{apart_call}

-- ---- calls

pub others_open : (w : World) (c d fd : ℕ) (call : Call) (r : Reply) → (d == c) ≡ false → get (after w (entry.Call c call r)).opens (d, fd) ≡ get w.opens (d, fd)
others_open w c d fd call r other = (apart_call c w call r).opens (d, fd) other

pub stays_open : (w : World) (c : ℕ) (call : Call) (r : Reply) (k : ℕ × ℕ) → StaysButOffset (get w.opens k) (get (after w (entry.Call c call r)).opens k)
stays_open w c call r k = (apart_call c w call r).stays k

leaving_row : (w : World) (c d : ℕ) (call : Call) (o : Outcome) → Fits w c call o → (d == c) ≡ false → get (world_after w (settle w o)).leaving d ≡ get w.leaving d
leaving_row w c d call (Go x) h other = h.others d other
leaving_row w c d call (Refuse e) h other = refl
leaving_row w c d call (Wants x) h other = refl

either : (b : Bool) (w new : World) (d : ℕ) → get new.leaving d ≡ get w.leaving d → get (cond b w new).leaving d ≡ get w.leaving d
either true w new d h = refl
either false w new d h = h

pub others_leaving : (w : World) (c d : ℕ) (call : Call) (r : Reply) → (d == c) ≡ false → get (after w (entry.Call c call r)).leaving d ≡ get w.leaving d
others_leaving w c d call r other =
    either (is_no_memory r) w (world_after w (settle w (row w c call))) d (leaving_row w c d call (row w c call) (row_fits w c call) other)

-- a call leaves the current directories of others
pub others_call : (w : World) (c d : ℕ) (call : Call) (r : Reply) → (d == c) ≡ false → get (after w (entry.Call c call r)).cwds d ≡ get w.cwds d
others_call w c d call r other = (apart_call c w call r).cwds d other

-- ---- inner entries

pub others_shadow : (w : World) (c m u : ℕ) (n : List ℕ) → (effect w c (Shadow m u n)).cwds ≡ w.cwds
others_shadow w c m u n = (alone-made_above w m u n (new_dir u false)).1

copied_as : (w : World) (m u : ℕ) (n : List ℕ) (o : Child) → (copied_child w m u n o).cwds ≡ w.cwds
copied_as w m u n (child.At q) = (alone-made_above w m u n (copy_of (node_of w q))).1
copied_as w m u n child.Absent = (alone-made_above w m u n (File [])).1
copied_as w m u n (child.Need x) = (alone-made_above w m u n (File [])).1

pub others_copy_up : (w : World) (c m u : ℕ) (n : List ℕ) → (effect w c (CopyUp m u n)).cwds ≡ w.cwds
others_copy_up w c m u n = copied_as w m u n (child_below (child_of (facts_of w)) (low (facts_of w) m u) n)

pub others_detach : (w : World) (c m : ℕ) → (effect w c (Detach m)).cwds ≡ w.cwds
others_detach w c m = refl

open_above : (w : World) (m u : ℕ) (n : List ℕ) (node : Node) → (made_above w m u n node).opens ≡ w.opens
open_above w m u n node = (alone-made_above w m u n node).0

pub open_shadow : (w : World) (c m u : ℕ) (n : List ℕ) → (effect w c (Shadow m u n)).opens ≡ w.opens
open_shadow w c m u n = open_above w m u n (new_dir u false)

-- what stands on the one place turns to the other
turned_at : (v w : World) (from to : Seen) (k : ℕ × ℕ) → v.opens ≡ w.opens → get (turned_opens from to v).opens k ≡ option_map (turned_open from to) (get w.opens k)
turned_at v w from to k same = get_each pair_total (turned_open from to) v.opens k ∙ ap (λ m. option_map (turned_open from to) (get m k)) same

stays_turned : (from to : Seen) (o : Option Open) → StaysButPlace o (option_map (turned_open from to) o)
stays_turned from to (Some x) = (refl, refl, refl)
stays_turned from to None = tt

stays_same : (o : Option Open) → StaysButPlace o o
stays_same (Some x) = (refl, refl, refl)
stays_same None = tt

copied_open : (w : World) (m u : ℕ) (n : List ℕ) (k : ℕ × ℕ) (x : Child) → StaysButPlace (get w.opens k) (get (copied_child w m u n x).opens k)
copied_open w m u n k (child.At q) =
    let from = UnionLow m u n q in
    let to = UnionUp m (next_of (get w.stores (upper_store w m))) in
    let v = made_above w m u n (copy_of (node_of w q)) in
    subst (StaysButPlace (get w.opens k)) (sym (turned_at v w from to k (open_above w m u n (copy_of (node_of w q))))) (stays_turned from to (get w.opens k))
copied_open w m u n k child.Absent = subst (StaysButPlace (get w.opens k)) (sym (ap (λ o. get o k) (open_above w m u n (File [])))) (stays_same (get w.opens k))
copied_open w m u n k (child.Need x) = subst (StaysButPlace (get w.opens k)) (sym (ap (λ o. get o k) (open_above w m u n (File [])))) (stays_same (get w.opens k))

pub open_copied : (w : World) (c m u : ℕ) (n : List ℕ) (k : ℕ × ℕ) → StaysButPlace (get w.opens k) (get (effect w c (CopyUp m u n)).opens k)
open_copied w c m u n k = copied_open w m u n k (child_below (child_of (facts_of w)) (low (facts_of w) m u) n)

pub open_turned : (w : World) (c m u : ℕ) (n : List ℕ) (q : Seen) (k : ℕ × ℕ) → child_below (child_of (facts_of w)) (low (facts_of w) m u) n ≡ child.At q
    → get (effect w c (CopyUp m u n)).opens k ≡ option_map (turned_open (UnionLow m u n q) (UnionUp m (next_of (get w.stores (upper_store w m))))) (get w.opens k)
open_turned w c m u n q k is =
    ap (λ x. get (copied_child w m u n x).opens k) is
    ∙ turned_at (made_above w m u n (copy_of (node_of w q))) w (UnionLow m u n q) (UnionUp m (next_of (get w.stores (upper_store w m)))) k (open_above w m u n (copy_of (node_of w q)))

stays_doomed : (p : Seen) (o : Option Open) → StaysButDead o (option_map (doomed_open p) o)
stays_doomed p (Some x) = (refl, refl, refl)
stays_doomed p None = tt

stays_alive : (o : Option Open) → StaysButDead o o
stays_alive (Some x) = (refl, refl, refl)
stays_alive None = tt

doomed_at : (w : World) (k : ℕ × ℕ) (o : Option Seen) → StaysButDead (get w.opens k) (get (doomed_place w o).opens k)
doomed_at w k (Some p) = subst (StaysButDead (get w.opens k)) (sym (get_each pair_total (doomed_open p) w.opens k)) (stays_doomed p (get w.opens k))
doomed_at w k None = stays_alive (get w.opens k)

pub open_doomed : (w : World) (c : ℕ) (at : Ref) (k : ℕ × ℕ) → StaysButDead (get w.opens k) (get (effect w c (Doom at)).opens k)
open_doomed w c at k = doomed_at w k (place_of w at)

pub open_doomed_at : (w : World) (c : ℕ) (at : Ref) (p : Seen) (k : ℕ × ℕ) → place_of w at ≡ Some p → get (effect w c (Doom at)).opens k ≡ option_map (doomed_open p) (get w.opens k)
open_doomed_at w c at p k is = ap (λ o. get (doomed_place w o).opens k) is ∙ get_each pair_total (doomed_open p) w.opens k

-- ---- current directories

keeps_doomed : (p : Seen) (o : Option Cwd) → KeepsPlace o (option_map (doomed_cwd p) o)
keeps_doomed p (Some x) = refl
keeps_doomed p None = tt

keeps_alive : (o : Option Cwd) → KeepsPlace o o
keeps_alive (Some x) = refl
keeps_alive None = tt

keeps_at : (w : World) (d : ℕ) (o : Option Seen) → KeepsPlace (get w.cwds d) (get (doomed_place w o).cwds d)
keeps_at w d (Some p) = subst (KeepsPlace (get w.cwds d)) (sym (get_each nat_cmp_total (doomed_cwd p) w.cwds d)) (keeps_doomed p (get w.cwds d))
keeps_at w d None = keeps_alive (get w.cwds d)

pub cwd_doomed : (w : World) (c d : ℕ) (at : Ref) → KeepsPlace (get w.cwds d) (get (effect w c (Doom at)).cwds d)
cwd_doomed w c d at = keeps_at w d (place_of w at)

pub cwd_doomed_at : (w : World) (c d : ℕ) (at : Ref) (p : Seen) → place_of w at ≡ Some p → get (effect w c (Doom at)).cwds d ≡ option_map (doomed_cwd p) (get w.cwds d)
cwd_doomed_at w c d at p is = ap (λ o. get (doomed_place w o).cwds d) is ∙ get_each nat_cmp_total (doomed_cwd p) w.cwds d

pub none_doomed : (w : World) (c : ℕ) (at : Ref) → place_of w at ≡ None → effect w c (Doom at) ≡ w
none_doomed w c at is = ap (doomed_place w) is
