-- An inner entry that a call may need uses up some of the work that is left.
use Rattle.std.proofs.Common.{◌≡◌, ℕ, zero, suc, ◌+◌, ◌-◌, ◌≤◌, ◌<◌, false, inl, inr, List, [], ◌∷◌, refl, ap, ◌∙◌, arith, nat_cmp}
use Rattle.std.specs.Prelude.{Option, Some, None}
use Rattle.std.specs.Cmp.{nat_cmp_total}
use Rattle.std.specs.FinMap.{get, insert, entries}
use Rattle.std.proofs.lemmas.Bool.Decides.{eqb_tells}
use Rattle.finite_maps.proofs.EntryLaws.{get_at-insert}
use Rattle.vfs_tree.specs.Child.{child_of, child_below, low}
use Rattle.vfs_tree.specs.Edits.{made, with_store, new_dir}
use Rattle.vfs_tree.specs.Nodes.{next_of}
use Rattle.vfs_tree.specs.Place.{Seen}
use Rattle.vfs_tree.specs.Views.{facts_of}
use Rattle.vfs_tree.specs.declared.limits.Limits.{Limits}
use Rattle.vfs_tree.specs.declared.node.Node.{Node}
use Rattle.vfs_tree.specs.declared.node.Node.TheVariants.{File}
use Rattle.vfs_tree.specs.declared.node.Store.{Store}
use Rattle.vfs_tree.specs.declared.walk.Child.{Child}
use Rattle.vfs_tree.specs.declared.walk.Child.TheVariants as child
use Rattle.vfs_tree.specs.declared.world.World.{World}
use Rattle.call_model.specs.Checks.{is_full_store, is_full, upper_store, node_of}
use Rattle.call_model.specs.Effects.{made_above, copy_of, copied_child, detached, doomed_place, effect}
use Rattle.call_model.specs.Refs.{place_of}
use Rattle.call_model.specs.declared.call.Call.{Call}
use Rattle.call_model.specs.declared.entry.Inner.{Inner}
use Rattle.call_model.specs.declared.entry.Inner.TheVariants.{Shadow, CopyUp, Detach, Doom}
use Rattle.call_laws.specs.Fitting.{MayNeed, TakesNumber}
use Rattle.call_laws.specs.Live.{total_left, room, stays, staying_of, work_left}
use Rattle.call_laws.proofs.LeavingLaws.{all_leaving-shadow, all_leaving-copy_up, all_leaving-doom, others_entered}
use Rattle.call_laws.proofs.LiveLaws.{live-shadow, live-copy_up, live-detach, live-doomed}
use Rattle.call_laws.proofs.WeightLaws.{weigh, weigh-replaced}

-- ---- inode numbers

-- how many numbers one store has left
abbrev left_in : Store → ℕ
left_in t = 4294967295 - t.next

total-weigh : (es : List (ℕ × Store)) → total_left es ≡ weigh left_in es
unfolding total_left
total-weigh [] = refl
total-weigh (e ∷ es) = ap (λ n. left_in e.1 + n) (total-weigh es)

one_taken : (most next : ℕ) → next < most → most - (next + 1) < most - next
one_taken most next lt = omega arith

-- a node that is made takes a number of a store that is there
room_made : (w : World) (s dir : ℕ) (n : List ℕ) (node : Node) (x : Option Store) → get w.stores s ≡ x → is_full_store x ≡ false → next_of x < 4294967295
    → room (with_store (λ t. made t dir n node) w s x) < room w
room_made w s dir n node None is full lt = cc
room_made w s dir n node (Some t) is full lt =
    let before = total-weigh (entries w.stores) in
    let after = total-weigh (entries (insert w.stores s (made t dir n node))) in
    let put = weigh-replaced nat_cmp nat_cmp_total left_in w.stores s t (made t dir n node) is in
    let taken = one_taken 4294967295 t.next lt in
    omega arith

room_above : (w : World) (m u : ℕ) (n : List ℕ) (node : Node) → is_full w (upper_store w m) ≡ false → next_of (get w.stores (upper_store w m)) < 4294967295 → room (made_above w m u n node) < room w
room_above w m u n node full lt = room_made w (upper_store w m) u n node (get w.stores (upper_store w m)) refl full lt

room_child : (w : World) (m u : ℕ) (n : List ℕ) (o : Child) → is_full w (upper_store w m) ≡ false → next_of (get w.stores (upper_store w m)) < 4294967295 → room (copied_child w m u n o) < room w
room_child w m u n (child.At q) full lt = room_above w m u n (copy_of (node_of w q)) full lt
room_child w m u n child.Absent full lt = room_above w m u n (File []) full lt
room_child w m u n (child.Need x) full lt = room_above w m u n (File []) full lt

room_doomed : (w : World) (o : Option Seen) → room (doomed_place w o) ≡ room w
room_doomed w (Some p) = refl
room_doomed w None = refl

-- ---- callers that aren't leaving a mount

-- the same callers are leaving, so as many aren't
staying_same : (v w : World) → v.leaving ≡ w.leaving → (n : ℕ) → staying_of v n ≡ staying_of w n
unfolding staying_of
staying_same v w same zero = refl
staying_same v w same (suc n) =
    let rest = staying_same v w same n in
    let here = ap (λ l. stays (get l (suc n))) same in
    omega arith

-- of the callers below the one that detaches a mount, as many aren't leaving one
staying_below : (w : World) (c m n : ℕ) → n < c → staying_of (detached w c m) n ≡ staying_of w n
unfolding staying_of
staying_below w c m zero lt = refl
staying_below w c m (suc n) lt =
    let rest : staying_of (detached w c m) n ≡ staying_of w n = staying_below w c m n (omega arith) in
    elim (eqb_tells (suc n) c) [
      | inl e ↦ let is = e.1 in absurd (omega arith)
      | inr e ↦ let here = ap stays (others_entered w.leaving c (suc n) m e.0) in omega arith
    ]

below : (k c : ℕ) → (k ≡ c → ⊥) → c ≤ k → c < k
below k c apart le = grind arith

-- with that caller among them, fewer aren't
staying_fewer : (w : World) (c m n : ℕ) → get w.leaving c ≡ None → 1 ≤ c → c ≤ n → staying_of (detached w c m) n < staying_of w n
unfolding staying_of
staying_fewer w c m zero none least most = absurd (omega arith)
staying_fewer w c m (suc n) none least most =
    elim (eqb_tells (suc n) c) [
      | inl e ↦
          let is = e.1 in
          let rest : staying_of (detached w c m) n ≡ staying_of w n = staying_below w c m n (omega arith) in
          let now : stays (get (insert w.leaving c m) (suc n)) ≡ 0 = ap (λ k. stays (get (insert w.leaving c m) k)) is ∙ ap stays (get_at-insert nat_cmp_total w.leaving c m) in
          let before : stays (get w.leaving (suc n)) ≡ 1 = ap (λ k. stays (get w.leaving k)) is ∙ ap stays none in
          omega arith
      | inr e ↦
          let other = e.1 in
          let under = below (suc n) c other most in
          let within : c ≤ n = omega arith in
          let rest : staying_of (detached w c m) n < staying_of w n = staying_fewer w c m n none least within in
          let here = ap stays (others_entered w.leaving c (suc n) m e.0) in
          omega arith
    ]

-- ---- all of it

-- an inner entry that a caller's call may need, and that finds a number for its node, leaves less work
pub work_fell : (limits : Limits) (w : World) (c : ℕ) (call : Call) (x : Inner) → 1 ≤ c → c ≤ limits.callers → MayNeed w c call x → TakesNumber w x → work_left limits (effect w c x) < work_left limits w
work_fell limits w c call (Shadow m u n) least most needs number =
    let less = room_above w m u n (new_dir u false) needs number in
    let alive = live-shadow w c m u n in
    let stay = staying_same (effect w c (Shadow m u n)) w (all_leaving-shadow w c m u n) limits.callers in
    omega arith
work_fell limits w c call (CopyUp m u n) least most needs number =
    let less = room_child w m u n (child_below (child_of (facts_of w)) (low (facts_of w) m u) n) needs number in
    let alive = live-copy_up w c m u n in
    let stay = staying_same (effect w c (CopyUp m u n)) w (all_leaving-copy_up w c m u n) limits.callers in
    omega arith
work_fell limits w c call (Detach m) least most needs number =
    let alive = live-detach w c m in
    let fewer = staying_fewer w c m limits.callers needs.0 least most in
    omega arith
work_fell limits w c call (Doom at) least most needs number =
    let same = room_doomed w (place_of w at) in
    let less = live-doomed w at needs.0 in
    let stay = staying_same (effect w c (Doom at)) w (all_leaving-doom w c at) limits.callers in
    omega arith
