-- How inner entries change the number of live references.
use Rattle.std.proofs.Common.{◌≡◌, ℕ, ◌+◌, ◌≤◌, ◌<◌, Bool, true, false, ◌&&◌, ◌||◌, ◌==◌, List, [], refl, ap, sym, ◌∙◌, subst, arith, nat_cmp, eq-eqb, bytes_eq}
use Rattle.std.specs.Prelude.{Option, Some, None, IfSome, IsSome, option_map}
use Rattle.std.specs.Cmp.{nat_cmp_total}
use Rattle.std.specs.FinMap.{get}
use Rattle.std.proofs.lemmas.Slice.Eq.{bytes_eq-Decides}
use Rattle.finite_maps.specs.Keys.{pair_cmp}
use Rattle.finite_maps.proofs.EntryLaws.{pair_total}
use Rattle.vfs_tree.specs.Child.{child_of, child_below, low}
use Rattle.vfs_tree.specs.Edits.{made, new_dir}
use Rattle.vfs_tree.specs.Layers.{same_place}
use Rattle.vfs_tree.specs.Nodes.{next_of}
use Rattle.vfs_tree.specs.Place.{Seen, Mem, Null, UnionUp, UnionLow}
use Rattle.vfs_tree.specs.Views.{facts_of}
use Rattle.vfs_tree.specs.declared.node.Node.{Node}
use Rattle.vfs_tree.specs.declared.node.Node.TheVariants.{File}
use Rattle.vfs_tree.specs.declared.open.Cwd.{Cwd}
use Rattle.vfs_tree.specs.declared.open.Open.{Open}
use Rattle.vfs_tree.specs.declared.walk.Child.{Child}
use Rattle.vfs_tree.specs.declared.walk.Child.TheVariants as child
use Rattle.vfs_tree.specs.declared.world.World.{World}
use Rattle.call_model.specs.Checks.{upper_store, node_of}
use Rattle.call_model.specs.Effects.{each, made_above, turned_open, turned_opens, copy_of, copied_child, doomed_open, doomed_cwd, doomed_place, doomed, effect}
use Rattle.call_model.specs.Refs.{place_of}
use Rattle.call_model.specs.declared.entry.Inner.{Inner}
use Rattle.call_model.specs.declared.entry.Inner.TheVariants.{Shadow, CopyUp, Detach, Doom}
use Rattle.call_model.specs.declared.entry.Ref.{Ref}
use Rattle.call_model.specs.declared.entry.Ref.TheVariants.{Fd, Cwd as Here}
use Rattle.call_laws.specs.Fitting.{IsLive}
use Rattle.call_laws.specs.Live.{live}
use Rattle.call_laws.proofs.LiveCount.{one, open_one, cwd_one, live_opens, live_cwds, live-parts}
use Rattle.call_laws.proofs.NameParts.{Alone, alone-store, alone-live}
use Rattle.call_laws.proofs.WeightLaws.{weigh-le, weigh-each, weigh-lighter}

-- ---- places

both : (a b : Bool) → a ≡ true → b ≡ true → (a && b) ≡ true
both a b p q = ap (λ x. x && b) p ∙ q

-- a place is the same as itself
pub same_place-itself : (p : Seen) → same_place p p ≡ true
same_place-itself (Mem m i) = both (m == m) (i == i) (eq-eqb m m refl) (eq-eqb i i refl)
same_place-itself (Null m p) = both (m == m) (same_place p p) (eq-eqb m m refl) (same_place-itself p)
same_place-itself (UnionUp m i) = both (m == m) (i == i) (eq-eqb m m refl) (eq-eqb i i refl)
same_place-itself (UnionLow m u n p) =
    both (m == m) ((u == u) && (bytes_eq n n && same_place p p)) (eq-eqb m m refl)
    (both (u == u) (bytes_eq n n && same_place p p) (eq-eqb u u refl) (both (bytes_eq n n) (same_place p p) ((bytes_eq-Decides n n).1 refl) (same_place-itself p)))

-- ---- doomed references

fewer : (a b : Bool) → one (a || b) ≤ one a
fewer true b = omega arith
fewer false true = omega arith
fewer false false = omega arith

one_fewer : (a b : Bool) → a ≡ false → b ≡ true → one (a || b) < one a
one_fewer true b p q = cc
one_fewer false true p q = omega arith
one_fewer false false p q = cc

doomed_opens : (p : Seen) (w : World) → live_opens (each (doomed_open p) w.opens) ≤ live_opens w.opens
doomed_opens p w =
    let same = weigh-each pair_cmp pair_total open_one w.opens (doomed_open p) in
    let less = weigh-le (λ (o : Open). open_one (doomed_open p o)) open_one (λ o. fewer o.dead (same_place p o.place)) in
    subst (λ n. n ≤ live_opens w.opens) (sym same) (less _)

doomed_cwds : (p : Seen) (w : World) → live_cwds (each (doomed_cwd p) w.cwds) ≤ live_cwds w.cwds
doomed_cwds p w =
    let same = weigh-each nat_cmp nat_cmp_total cwd_one w.cwds (doomed_cwd p) in
    let less = weigh-le (λ (d : Cwd). cwd_one (doomed_cwd p d)) cwd_one (λ d. fewer d.dead (same_place p d.place)) in
    subst (λ n. n ≤ live_cwds w.cwds) (sym same) (less _)

doomed_open_less : (w : World) (k : ℕ × ℕ) (o : Open) → get w.opens k ≡ Some o → o.dead ≡ false → live_opens (each (doomed_open o.place) w.opens) < live_opens w.opens
doomed_open_less w k o is alive =
    let same = weigh-each pair_cmp pair_total open_one w.opens (doomed_open o.place) in
    let less = weigh-lighter pair_cmp pair_total (λ (x : Open). open_one (doomed_open o.place x)) w.opens open_one (λ x. fewer x.dead (same_place o.place x.place)) k o
    (one_fewer o.dead (same_place o.place o.place) alive (same_place-itself o.place)) is in
    subst (λ n. n < live_opens w.opens) (sym same) less

doomed_cwd_less : (w : World) (c : ℕ) (d : Cwd) → get w.cwds c ≡ Some d → d.dead ≡ false → live_cwds (each (doomed_cwd d.place) w.cwds) < live_cwds w.cwds
doomed_cwd_less w c d is alive =
    let same = weigh-each nat_cmp nat_cmp_total cwd_one w.cwds (doomed_cwd d.place) in
    let less = weigh-lighter nat_cmp nat_cmp_total (λ (x : Cwd). cwd_one (doomed_cwd d.place x)) w.cwds cwd_one (λ x. fewer x.dead (same_place d.place x.place)) c d
    (one_fewer d.dead (same_place d.place d.place) alive (same_place-itself d.place)) is in
    subst (λ n. n < live_cwds w.cwds) (sym same) less

live_after : (w : World) (p : Seen) → live (doomed_place w (Some p)) ≡ live_opens (each (doomed_open p) w.opens) + live_cwds (each (doomed_cwd p) w.cwds)
live_after w p = live-parts (doomed_place w (Some p))

doomed_fd : (w : World) (k : ℕ × ℕ) (x : Option Open) → get w.opens k ≡ x → IfSome x (λ o. o.dead ≡ false) → IsSome x → live (doomed_place w (option_map (λ o. o.place) x)) < live w
doomed_fd w k None is alive there = cc
doomed_fd w k (Some o) is alive there =
    let before = live-parts w in
    let after = live_after w o.place in
    let opens = doomed_open_less w k o is alive in
    let cwds = doomed_cwds o.place w in
    omega arith

doomed_here : (w : World) (c : ℕ) (x : Option Cwd) → get w.cwds c ≡ x → IfSome x (λ d. d.dead ≡ false) → IsSome x → live (doomed_place w (option_map (λ d. d.place) x)) < live w
doomed_here w c None is alive there = cc
doomed_here w c (Some d) is alive there =
    let before = live-parts w in
    let after = live_after w d.place in
    let opens = doomed_opens d.place w in
    let cwds = doomed_cwd_less w c d is alive in
    omega arith

-- to doom a live reference leaves fewer
pub live-doomed : (w : World) (at : Ref) → IsLive w at → live (doomed w at) < live w
live-doomed w (Fd c d) h = doomed_fd w (c, d) (get w.opens (c, d)) refl h.0 h.1
live-doomed w (Here c) h = doomed_here w c (get w.cwds c) refl h.0 h.1

doomed_most : (w : World) (o : Option Seen) → live (doomed_place w o) ≤ live w
doomed_most w None = omega arith
doomed_most w (Some p) =
    let before = live-parts w in
    let after = live_after w p in
    let opens = doomed_opens p w in
    let cwds = doomed_cwds p w in
    omega arith

-- ---- nodes in the upper layer

pub alone-made_above : (w : World) (m u : ℕ) (n : List ℕ) (node : Node) → Alone w (made_above w m u n node)
alone-made_above w m u n node = alone-store (λ t. made t u n node) w (upper_store w m) (get w.stores (upper_store w m))

live_turned : (from to : Seen) (w : World) → live (turned_opens from to w) ≡ live w
live_turned from to w =
    live-parts (turned_opens from to w)
    ∙ ap (λ n. n + live_cwds w.cwds) (weigh-each pair_cmp pair_total open_one w.opens (turned_open from to))
    ∙ sym (live-parts w)

live_made : (w : World) (m u : ℕ) (n : List ℕ) (node : Node) → live (made_above w m u n node) ≡ live w
live_made w m u n node = alone-live w (made_above w m u n node) (alone-made_above w m u n node)

live_child : (w : World) (m u : ℕ) (n : List ℕ) (o : Child) → live (copied_child w m u n o) ≡ live w
live_child w m u n (child.At q) =
    live_turned (UnionLow m u n q) (UnionUp m (next_of (get w.stores (upper_store w m)))) (made_above w m u n (copy_of (node_of w q)))
    ∙ live_made w m u n (copy_of (node_of w q))
live_child w m u n child.Absent = live_made w m u n (File [])
live_child w m u n (child.Need x) = live_made w m u n (File [])

-- a shadow directory leaves as many live references
pub live-shadow : (w : World) (c m u : ℕ) (n : List ℕ) → live (effect w c (Shadow m u n)) ≡ live w
live-shadow w c m u n = live_made w m u n (new_dir u false)

-- so does a copy
pub live-copy_up : (w : World) (c m u : ℕ) (n : List ℕ) → live (effect w c (CopyUp m u n)) ≡ live w
live-copy_up w c m u n = live_child w m u n (child_below (child_of (facts_of w)) (low (facts_of w) m u) n)

-- and so does a mount that is detached
pub live-detach : (w : World) (c m : ℕ) → live (effect w c (Detach m)) ≡ live w
live-detach w c m = refl

-- ---- all of them

-- an inner entry leaves no more live references
pub live-inner : (w : World) (c : ℕ) (x : Inner) → live (effect w c x) ≤ live w
live-inner w c (Shadow m u n) = let same = live-shadow w c m u n in omega arith
live-inner w c (CopyUp m u n) = let same = live-copy_up w c m u n in omega arith
live-inner w c (Detach m) = let same = live-detach w c m in omega arith
live-inner w c (Doom at) = doomed_most w (place_of w at)
