-- The callers and descriptors of what is open have numbers of at most 64 bits.
use Rattle.std.specs.declared.cmp.Ordering.{Ordering}
use Rattle.std.proofs.Common.{◌≡◌, ℕ, zero, suc, ◌<◌, ◌≤◌, Bool, true, false, cond, List, [], refl, ap, sym, ◌∙◌, subst, arith, nat_cmp}
use Rattle.std.specs.Prelude.{Option, Some, None, IsSome, is_some, option_map}
use Rattle.std.specs.Cmp.{IsTotalOrder, nat_cmp_total}
use Rattle.std.specs.FinMap.{FinMap, get, remove, get-empty, get-remove}
use Rattle.std.specs.Ordering.{eq_by_cmp}
use Rattle.std.proofs.lemmas.Map.Lookups.{exact_unsigned}
use Rattle.finite_maps.specs.Keys.{pair_cmp}
use Rattle.finite_maps.proofs.EntryLaws.{pair_total, pair_exact, by_key}
use Rattle.vfs_tree.specs.Child.{child_of, child_below, low}
use Rattle.vfs_tree.specs.Edits.{new_dir}
use Rattle.vfs_tree.specs.Nodes.{next_of}
use Rattle.vfs_tree.specs.Place.{Seen, UnionUp, UnionLow}
use Rattle.vfs_tree.specs.Start.{root_cwd, root_cwds, start_world}
use Rattle.vfs_tree.specs.Views.{facts_of}
use Rattle.vfs_tree.specs.declared.limits.Limits.{Limits}
use Rattle.vfs_tree.specs.declared.node.Node.TheVariants.{File}
use Rattle.vfs_tree.specs.declared.open.Cwd.{Cwd}
use Rattle.vfs_tree.specs.declared.open.Open.{Open}
use Rattle.vfs_tree.specs.declared.walk.Child.{Child}
use Rattle.vfs_tree.specs.declared.walk.Child.TheVariants as child
use Rattle.vfs_tree.specs.declared.world.World.{World}
use Rattle.call_model.specs.Checks.{upper_store, node_of}
use Rattle.call_model.specs.DataRows.{with_open}
use Rattle.call_model.specs.Effects.{each, made_above, turned_open, turned_opens, copy_of, copied_child, doomed_open, doomed_cwd, doomed_place, effect}
use Rattle.call_model.specs.NameRows.{with_cwd}
use Rattle.call_model.specs.Refs.{place_of}
use Rattle.call_model.specs.declared.entry.Inner.{Inner}
use Rattle.call_model.specs.declared.entry.Inner.TheVariants.{Shadow, CopyUp, Detach, Doom}
use Rattle.trace_text.specs.Bounded.{IsBounded}
use Rattle.call_laws.proofs.FlagLaws.{get_each}
use Rattle.call_laws.proofs.LiveLaws.{alone-made_above}
use Rattle.call_laws.proofs.NameParts.{Alone}
use Rattle.call_laws.proofs.NamedLaws.{no_way}
use Rattle.call_laws.proofs.Whole.{IsWhole}

-- what is open is that of callers, and at descriptors, with such numbers
pub record AreKeyed (w : World) : Type 0 where
  pub opens : (k : ℕ × ℕ) → IsSome (get w.opens k) → IsBounded k.0 × IsBounded k.1
  pub cwds : (c : ℕ) → IsSome (get w.cwds c) → IsBounded c

-- a number of at most 32 bits
pub few : (n : ℕ) → n ≤ 4294967295 → IsBounded n
few n h = omega (arith, h)

-- a mount that is there has such a number
pub mount_few : (w : World) → IsWhole w → (m : ℕ) → IsSome (get w.mounts m) → IsBounded m
mount_few w h m there =
    let less : m < w.next_mount = h.lasts.counted.mounts m there in
    let most : w.next_mount ≤ 4294967295 = h.lasts.counted.most in
    few m (omega (arith, less, most))

-- ---- maps

each_there : {K X : Type 0} {R : K → K → Ordering} → IsTotalOrder R → (f : X → X) (m : FinMap R X) (k : K) → IsSome (get (each f m) k) → IsSome (get m k)
each_there o f m k there = by (get m k) (subst (λ x. IsSome x) (get_each o f m k) there)
  where
    by : (x : Option _) → IsSome (option_map f x) → IsSome x
    by (Some x) h = refl
    by None h = no_way h

left_there : {X : Type 0} (b : Bool) (x : Option X) → IsSome (cond b None x) → IsSome x
left_there true x h = no_way h
left_there false x h = h

-- ---- worlds

pub keyed-alike : (w v : World) → AreKeyed w → v.opens ≡ w.opens → v.cwds ≡ w.cwds → AreKeyed v
keyed-alike w v h opens cwds = record {
  opens = λ k there. h.opens k (subst (λ m. IsSome (get m k)) opens there);
  cwds = λ c there. h.cwds c (subst (λ m. IsSome (get m c)) cwds there);
}

pub keyed-alone : (w v : World) → AreKeyed w → Alone w v → AreKeyed v
keyed-alone w v h same = keyed-alike w v h same.0 same.1

-- a descriptor is set
pub keyed-set : (w : World) (c d : ℕ) (o : Open) → AreKeyed w → IsBounded c → IsBounded d → AreKeyed (with_open w c d o)
keyed-set w c d o h caller at = record {
  opens = λ k there. by_key pair_total pair_exact w.opens (c, d) o k (λ x. IsSome x → IsBounded k.0 × IsBounded k.1)
      (λ is _. subst (λ (q : ℕ × ℕ). IsBounded q.0 × IsBounded q.1) (sym is) (caller, at)) (h.opens k) there;
  cwds = h.cwds;
}

-- a descriptor is closed
pub keyed-closed : (w : World) (k : ℕ × ℕ) → AreKeyed w → AreKeyed (record w { opens = remove w.opens k })
keyed-closed w k h = record {
  opens = λ q there. h.opens q (left_there (eq_by_cmp pair_cmp q k) (get w.opens q) (subst (λ x. IsSome x) (get-remove pair_total w.opens k q) there));
  cwds = h.cwds;
}

-- a current directory is set
pub keyed-cwd : (w : World) (c : ℕ) (p : Seen) → AreKeyed w → IsBounded c → AreKeyed (with_cwd w c p)
keyed-cwd w c p h caller = record {
  opens = h.opens;
  cwds = λ d there. by_key nat_cmp_total exact_unsigned w.cwds c (record { place = p; dead = false }) d (λ x. IsSome x → IsBounded d)
      (λ is _. subst (λ x. IsBounded x) (sym is) caller) (h.cwds d) there;
}

-- ---- inner entries

keyed-turned : (from to : Seen) (w : World) → AreKeyed w → AreKeyed (turned_opens from to w)
keyed-turned from to w h = record { opens = λ k there. h.opens k (each_there pair_total (turned_open from to) w.opens k there); cwds = h.cwds }

keyed-copied : (w : World) (m u : ℕ) (n : List ℕ) (x : Child) → AreKeyed w → AreKeyed (copied_child w m u n x)
keyed-copied w m u n (child.At q) h =
    let v : World = made_above w m u n (copy_of (node_of w q)) in
    keyed-turned (UnionLow m u n q) (UnionUp m (next_of (get w.stores (upper_store w m)))) v (keyed-alone w v h (alone-made_above w m u n (copy_of (node_of w q))))
keyed-copied w m u n child.Absent h = keyed-alone w (made_above w m u n (File [])) h (alone-made_above w m u n (File []))
keyed-copied w m u n (child.Need x) h = keyed-alone w (made_above w m u n (File [])) h (alone-made_above w m u n (File []))

keyed-doomed : (w : World) (o : Option Seen) → AreKeyed w → AreKeyed (doomed_place w o)
keyed-doomed w (Some p) h = record {
  opens = λ k there. h.opens k (each_there pair_total (doomed_open p) w.opens k there);
  cwds = λ c there. h.cwds c (each_there nat_cmp_total (doomed_cwd p) w.cwds c there);
}
keyed-doomed w None h = h

pub keyed-inner : (w : World) (c : ℕ) (x : Inner) → AreKeyed w → AreKeyed (effect w c x)
keyed-inner w c (Shadow m u n) h = keyed-alone w (made_above w m u n (new_dir u false)) h (alone-made_above w m u n (new_dir u false))
keyed-inner w c (CopyUp m u n) h = keyed-copied w m u n (child_below (child_of (facts_of w)) (low (facts_of w) m u) n) h
keyed-inner w c (Detach m) h = record { opens = h.opens; cwds = h.cwds }
keyed-inner w c (Doom at) h = keyed-doomed w (place_of w at) h

-- ---- the start

root_few : (n c : ℕ) → IsSome (get (root_cwds n) c) → c ≤ n
root_few zero c there = no_way (sym (ap is_some (get-empty {X = Cwd} nat_cmp c)) ∙ there)
root_few (suc n) c there =
    by_key nat_cmp_total exact_unsigned (root_cwds n) (suc n) root_cwd c (λ x. IsSome x → c ≤ suc n) (λ is _. omega (arith, is)) (λ t. let less : c ≤ n = root_few n c t in omega (arith, less)) there

pub keyed-start : (limits : Limits) → limits.callers ≤ 16 → AreKeyed (start_world limits)
keyed-start limits callers = record {
  opens = λ k there. no_way (sym (ap is_some (get-empty {X = Open} pair_cmp k)) ∙ there);
  cwds = λ c there. let less : c ≤ limits.callers = root_few limits.callers c there in few c (omega (arith, less, callers));
}
