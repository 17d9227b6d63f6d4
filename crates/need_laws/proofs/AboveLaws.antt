-- Every legal history leaves nothing open for writing that is of a lower layer alone.
use Rattle.std.proofs.Common.{◌≡◌, ℕ, true, false, List, [], refl, sym, subst}
use Rattle.std.specs.Prelude.{Option, Some, None, IfSome}
use Rattle.std.specs.FinMap.{get, get-empty}
use Rattle.finite_maps.specs.Keys.{pair_cmp}
use Rattle.finite_maps.proofs.EntryLaws.{pair_total}
use Rattle.vfs_tree.specs.Child.{child_of, child_below, low}
use Rattle.vfs_tree.specs.Edits.{made, with_store, new_dir}
use Rattle.vfs_tree.specs.Place.{Seen, Mem, Null, UnionUp, UnionLow}
use Rattle.vfs_tree.specs.Sound.{IsSound}
use Rattle.vfs_tree.specs.Start.{start_world}
use Rattle.vfs_tree.specs.Views.{facts_of}
use Rattle.vfs_tree.specs.declared.limits.Limits.{Limits}
use Rattle.vfs_tree.specs.declared.node.Node.{Node}
use Rattle.vfs_tree.specs.declared.node.Node.TheVariants.{File}
use Rattle.vfs_tree.specs.declared.node.Store.{Store}
use Rattle.vfs_tree.specs.declared.open.Open.{Open}
use Rattle.vfs_tree.specs.declared.walk.Child.{Child}
use Rattle.vfs_tree.specs.declared.walk.Child.TheVariants as child
use Rattle.vfs_tree.specs.declared.world.World.{World}
use Rattle.call_model.specs.Checks.{upper_store, node_of}
use Rattle.call_model.specs.Effects.{turned, turned_open, turned_opens, copy_of, copied_child, made_above, doomed_open, doomed_place, effect}
use Rattle.call_model.specs.Legal.{Pending, IsLegal, after, replay}
use Rattle.call_model.specs.Refs.{place_of}
use Rattle.call_model.specs.declared.call.Call.{Call}
use Rattle.call_model.specs.declared.entry.Entry.{Entry}
use Rattle.call_model.specs.declared.entry.Entry.TheVariants as entry
use Rattle.call_model.specs.declared.entry.Inner.{Inner}
use Rattle.call_model.specs.declared.entry.Inner.TheVariants.{Shadow, CopyUp, Detach, Doom}
use Rattle.call_model.specs.declared.reply.Reply.{Reply}
use Rattle.call_laws.specs.Lasting.{IsLasting}
use Rattle.call_laws.proofs.FlagLaws.{get_each}
use Rattle.call_laws.proofs.PlaceLaws.{lasting-start}
use Rattle.call_laws.proofs.SoundLaws.{sound-start}
use Rattle.call_laws.proofs.SoundParts.{mapped}
use Rattle.call_laws.proofs.WorldLaws.{kept-history}
use Rattle.need_laws.specs.Above.{is_lower_file, AreWrittenAbove}
use Rattle.need_laws.proofs.WriteLaws.{left-call}

-- what is so of an open file
abbrev Above : Open → Type 0
Above o = o.mode.write ≡ true → is_lower_file o.place ≡ false

pub above-start : (limits : Limits) → AreWrittenAbove (start_world limits)
above-start limits k = subst (λ o. IfSome o Above) (sym (get-empty {X = Open} pair_cmp k)) tt

pub above-call : (w : World) (c : ℕ) (call : Call) (r : Reply) → IsSound w → IsLasting w → AreWrittenAbove w → AreWrittenAbove (after w (entry.Call c call r))
above-call w c call r sound lasts above = (left-call w (record { sound = sound; lasts = lasts }) above c call r).opens

-- ---- inner entries

above-store : (f : Store → Store) (w : World) (s : ℕ) (o : Option Store) → AreWrittenAbove w → AreWrittenAbove (with_store f w s o)
above-store f w s (Some t) h = h
above-store f w s None h = h

above-made : (w : World) (m u : ℕ) (n : List ℕ) (node : Node) → AreWrittenAbove w → AreWrittenAbove (made_above w m u n node)
above-made w m u n node h = above-store (λ t. made t u n node) w (upper_store w m) (get w.stores (upper_store w m)) h

-- what turns to a copy is of the upper layer then
module _ (m u : ℕ) (n : List ℕ) (q : Seen) (i : ℕ) where
  abbrev from : Seen
  from = UnionLow m u n q

  abbrev to : Seen
  to = UnionUp m i

  turned_above : (p : Seen) → is_lower_file p ≡ false → is_lower_file (turned from to p) ≡ false
  turned_above (Mem l j) h = refl
  turned_above (Null l p) h = turned_above p h
  turned_above (UnionUp l j) h = refl
  turned_above (UnionLow l v a p) h = absurd (let clash : true ≡ false = h in cc)

  above-turned : (w : World) → AreWrittenAbove w → AreWrittenAbove (turned_opens from to w)
  above-turned w h k =
      subst (λ o. IfSome o Above) (sym (get_each pair_total (turned_open from to) w.opens k))
      (mapped (turned_open from to) Above Above (λ o high writes. turned_above o.place (high writes)) (get w.opens k) (h k))

above-copied : (w : World) (m u : ℕ) (n : List ℕ) (c : Child) → AreWrittenAbove w → AreWrittenAbove (copied_child w m u n c)
above-copied w m u n (child.At q) h = above-turned m u n q _ (made_above w m u n (copy_of (node_of w q))) (above-made w m u n (copy_of (node_of w q)) h)
above-copied w m u n child.Absent h = above-made w m u n (File []) h
above-copied w m u n (child.Need x) h = above-made w m u n (File []) h

above-doomed : (w : World) (o : Option Seen) → AreWrittenAbove w → AreWrittenAbove (doomed_place w o)
above-doomed w (Some p) h = λ k.
    subst (λ o. IfSome o Above) (sym (get_each pair_total (doomed_open p) w.opens k)) (mapped (doomed_open p) Above Above (λ o high. high) (get w.opens k) (h k))
above-doomed w None h = h

pub above-inner : (w : World) (c : ℕ) (x : Inner) → AreWrittenAbove w → AreWrittenAbove (effect w c x)
above-inner w c (Shadow m u n) h = above-made w m u n (new_dir u false) h
above-inner w c (CopyUp m u n) h = above-copied w m u n (child_below (child_of (facts_of w)) (low (facts_of w) m u) n) h
above-inner w c (Detach m) h = h
above-inner w c (Doom at) h = above-doomed w (place_of w at) h

-- ---- histories

pub above-history : (p : Pending) (w : World) (es : List Entry) → IsLegal p w es → IsSound w → IsLasting w → AreWrittenAbove w → AreWrittenAbove (replay w es)
above-history p w es legal sound lasts above =
    kept-history AreWrittenAbove (λ w h above c r x. above-call w c x r h.sound h.lasts above) (λ w h above c x i needs. above-inner w c i above) p [] w es legal (record { sound = sound; lasts = lasts }) above

pub above-from_start : (limits : Limits) (p : Pending) (es : List Entry) → IsLegal p (start_world limits) es → AreWrittenAbove (replay (start_world limits) es)
above-from_start limits p es legal = above-history p (start_world limits) es legal (sound-start limits) (lasting-start limits) (above-start limits)
