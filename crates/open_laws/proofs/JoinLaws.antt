-- A copy joins no open files.
use Rattle.std.proofs.Common.{◌≡◌, ℕ, ◌<◌, ◌⊎◌, inl, inr, Bool, true, false, cond, ◌&&◌, ◌==◌, List, [], refl, ap, sym, ◌∙◌, subst, arith, eqb-true, eq-eqb}
use Rattle.std.specs.Prelude.{Option, Some, None, IsSome, IfSome, is_some, option_map, option_and_then}
use Rattle.std.specs.FinMap.{get}
use Rattle.std.specs.Str.{bytes_eq}
use Rattle.finite_maps.proofs.EntryLaws.{pair_total}
use Rattle.vfs_tree.specs.Child.{child_of, child_below, low}
use Rattle.vfs_tree.specs.Edits.{made}
use Rattle.vfs_tree.specs.Facts.{Facts}
use Rattle.vfs_tree.specs.Layers.{same_place, base, same_node, kind_in, store_by, kind_of}
use Rattle.vfs_tree.specs.Nodes.{next_of, AreBelow}
use Rattle.vfs_tree.specs.Place.{Seen, Mem, Null, UnionUp, UnionLow}
use Rattle.vfs_tree.specs.Sound.{IsSoundPlace, IsSound}
use Rattle.vfs_tree.specs.Views.{kind_of_node, facts_of}
use Rattle.vfs_tree.specs.declared.mount.MountKind.{MountKind}
use Rattle.vfs_tree.specs.declared.node.Node.{Node}
use Rattle.vfs_tree.specs.declared.node.Node.TheVariants.{File}
use Rattle.vfs_tree.specs.declared.node.Store.{Store}
use Rattle.vfs_tree.specs.declared.open.Open.{Open}
use Rattle.vfs_tree.specs.declared.walk.Child.{Child}
use Rattle.vfs_tree.specs.declared.walk.Child.TheVariants as child
use Rattle.vfs_tree.specs.declared.walk.NodeId.{NodeId}
use Rattle.vfs_tree.specs.declared.world.World.{World}
use Rattle.call_model.specs.Checks.{upper_store, node_of}
use Rattle.call_model.specs.Effects.{turned, turned_open, copy_of, copied_from, copied_child, made_above, effect}
use Rattle.call_model.specs.declared.entry.Inner.TheVariants.{CopyUp}
use Rattle.call_laws.specs.Lasting.{IsLasting}
use Rattle.call_laws.proofs.FlagLaws.{get_each}
use Rattle.call_laws.proofs.NamedLaws.{no_way}
use Rattle.call_laws.proofs.NameLaws.{mounts_stay}
use Rattle.call_laws.proofs.NameParts.{alone-store}
use Rattle.call_laws.proofs.SoundParts.{first_of, second_of, both_of, not_so}
use Rattle.open_laws.specs.OpenFiles.{RestApart}

-- ---- nodes

node_is : (a b : NodeId) → same_node a b ≡ true → a ≡ b
node_is a b h =
    let s : a.store ≡ b.store = eqb-true a.store b.store (first_of (a.store == b.store) (a.ino == b.ino) h) in
    let i : a.ino ≡ b.ino = eqb-true a.ino b.ino (second_of (a.store == b.store) (a.ino == b.ino) h) in
    let at : ℕ → ℕ → NodeId = λ x y. record { store = x; ino = y } in
    ap (λ x. at x a.ino) s ∙ ap (at b.store) i

node_itself : (a : NodeId) → same_node a a ≡ true
node_itself a = both_of (a.store == a.store) (a.ino == a.ino) (eq-eqb a.store a.store refl) (eq-eqb a.ino a.ino refl)

-- one place rests on one node
one_base : (f : Facts) (p q : Seen) → same_place p q ≡ true → base f p ≡ base f q
one_base f (Mem m i) (Mem n j) h =
    let at : ℕ → ℕ → NodeId = λ x y. record { store = x; ino = y } in
    ap (λ x. at x i) (eqb-true m n (first_of (m == n) (i == j) h)) ∙ ap (at n) (eqb-true i j (second_of (m == n) (i == j) h))
one_base f (Null m p) (Null n q) h = one_base f p q (second_of (m == n) (same_place p q) h)
one_base f (UnionUp m i) (UnionUp n j) h =
    let at : ℕ → ℕ → NodeId = λ x y. record { store = store_by (kind_in f x); ino = y } in
    ap (λ x. at x i) (eqb-true m n (first_of (m == n) (i == j) h)) ∙ ap (at n) (eqb-true i j (second_of (m == n) (i == j) h))
one_base f (UnionLow m u a p) (UnionLow n v b q) h =
    one_base f p q (second_of (bytes_eq a b) (same_place p q) (second_of (u == v) (bytes_eq a b && same_place p q) (second_of (m == n) ((u == v) && (bytes_eq a b && same_place p q)) h)))
one_base f _ _ h = no_way h

-- ---- a copy

module _ (w v : World) (kinds : (m : ℕ) → kind_in (facts_of v) m ≡ kind_in (facts_of w) m) where
  base_stays : (p : Seen) → base (facts_of v) p ≡ base (facts_of w) p
  base_stays (Mem m i) = refl
  base_stays (Null m p) = base_stays p
  base_stays (UnionUp m i) = let at : Option MountKind → NodeId = λ o. record { store = store_by o; ino = i } in ap at (kinds m)
  base_stays (UnionLow m u n p) = base_stays p

  module _ (from to : Seen) where
    -- what turns was one with what is copied, and what doesn't keeps its node
    abbrev Turned : Seen → Seen → Type 0
    Turned p q = ((base (facts_of v) q ≡ base (facts_of v) to) × (base (facts_of w) p ≡ base (facts_of w) from)) ⊎ (base (facts_of v) q ≡ base (facts_of w) p)

    turned_so : (p : Seen) → Turned p (turned from to p)
    turned_so (Mem m i) = inr refl
    turned_so (Null m p) = turned_so p
    turned_so (UnionUp m i) = inr (base_stays (UnionUp m i))
    turned_so (UnionLow m u n p) = by (turned_so p) (same_place from (UnionLow m u n p)) refl
      where
        by : Turned p (turned from to p) → (b : Bool) → same_place from (UnionLow m u n p) ≡ b → Turned (UnionLow m u n p) (cond b to (UnionLow m u n (turned from to p)))
        by rest true e = inl (refl, sym (one_base (facts_of w) from (UnionLow m u n p) e))
        by rest false e = rest

-- a number that no node has yet
none_next : (o : Option Store) → IfSome o (λ t. AreBelow t.nodes t.next) → IsSome (option_map kind_of_node (option_and_then (λ (t : Store). get t.nodes (next_of o)) o)) → ⊥
none_next (Some t) below there = by (get t.nodes t.next) (below t.next) there
  where
    by : (o : Option Node) → (IsSome o → t.next < t.next) → IsSome (option_map kind_of_node o) → ⊥
    by (Some x) less there = let clash = less refl in absurd (omega (arith, clash))
    by None less there = no_way there
none_next None below there = no_way there

module _ (w : World) (sound : IsSound w) (lasts : IsLasting w) (m u : ℕ) (n : List ℕ) (q : Seen) (j k : ℕ × ℕ) where
  abbrev copy : Node
  copy = copy_of (node_of w q)

  abbrev s : ℕ
  s = upper_store w m

  abbrev x : World
  x = made_above w m u n copy

  abbrev g : Facts
  g = facts_of x

  abbrev f : Facts
  f = facts_of w

  abbrev i : ℕ
  i = next_of (get w.stores s)

  abbrev from : Seen
  from = UnionLow m u n q

  abbrev to : Seen
  to = UnionUp m i

  kinds : (l : ℕ) → kind_in g l ≡ kind_in f l
  kinds l = mounts_stay (λ t. made t u n copy) w s l (get w.stores s)

  abbrev new_id : NodeId
  new_id = record { store = s; ino = i }

  to_base : base g to ≡ new_id
  to_base = base_stays w x kinds to

  -- what is there isn't the copy
  not_new : (p : Seen) → IsSome (kind_of f p) → base f p ≡ new_id → ⊥
  not_new p there is = none_next (get w.stores s) (lasts.numbered s) (ap (λ (b : NodeId). is_some (f.kind b.store b.ino)) (sym is) ∙ there)

  stay_apart : (a b : Open) → IsSome (kind_of f a.place) → IsSome (kind_of f b.place) → same_node (base f a.place) (base f b.place) ≡ false
      → same_node (base g (turned from to a.place)) (base g (turned from to b.place)) ≡ true → ⊥
  stay_apart a b there_a there_b apart same =
      let is = node_is (base g (turned from to a.place)) (base g (turned from to b.place)) same in
      elim (turned_so w x kinds from to a.place) as (λ _. ⊥) [
        | inl y ↦ elim (turned_so w x kinds from to b.place) as (λ _. ⊥) [
          | inl z ↦ no_way (sym apart ∙ ap (λ (c : NodeId). same_node c (base f b.place)) (y.1 ∙ sym z.1) ∙ node_itself (base f b.place))
          | inr z ↦ not_new b.place there_b (sym z ∙ sym is ∙ y.0 ∙ to_base)
        ]
        | inr y ↦ elim (turned_so w x kinds from to b.place) as (λ _. ⊥) [
          | inl z ↦ not_new a.place there_a (sym y ∙ is ∙ z.0 ∙ to_base)
          | inr z ↦ no_way (sym apart ∙ ap (λ (c : NodeId). same_node c (base f b.place)) (sym y ∙ is ∙ z) ∙ node_itself (base f b.place))
        ]
      ]

  abbrev Places : Option Open → Type 0
  Places o = IfSome o (λ o. o.dead ≡ false → IsSoundPlace f o.place)

  both_turned : (a b : Option Open) → Places a → Places b
      → IfSome a (λ a. IfSome b (λ b. a.dead ≡ false → b.dead ≡ false → same_node (base f a.place) (base f b.place) ≡ false))
      → IfSome (option_map (turned_open from to) a) (λ a. IfSome (option_map (turned_open from to) b) (λ b. a.dead ≡ false → b.dead ≡ false → same_node (base g a.place) (base g b.place) ≡ false))
  both_turned (Some a) (Some b) pa pb h = λ da db.
      not_so (same_node (base g (turned from to a.place)) (base g (turned from to b.place))) (λ same. stay_apart a b (pa da).base (pb db).base (h da db) same)
  both_turned (Some a) None pa pb h = tt
  both_turned None b pa pb h = tt

  copied_apart : RestApart w j k → RestApart (copied_from w m u n q) j k
  copied_apart h =
      subst (λ a. IfSome a (λ a. IfSome (get (copied_from w m u n q).opens k) (λ b. a.dead ≡ false → b.dead ≡ false → same_node (base g a.place) (base g b.place) ≡ false)))
      (sym (get_each pair_total (turned_open from to) x.opens j ∙ ap (λ m. option_map (turned_open from to) (get m j)) same_opens))
      (subst (λ b. IfSome (option_map (turned_open from to) (get w.opens j)) (λ a. IfSome b (λ b. a.dead ≡ false → b.dead ≡ false → same_node (base g a.place) (base g b.place) ≡ false)))
      (sym (get_each pair_total (turned_open from to) x.opens k ∙ ap (λ m. option_map (turned_open from to) (get m k)) same_opens))
      (both_turned (get w.opens j) (get w.opens k) (sound.opens j) (sound.opens k) h))
    where
      same_opens : x.opens ≡ w.opens
      same_opens = (alone-store (λ t. made t u n copy) w s (get w.stores s)).0

-- ---- any entry of that kind

same_open : (w v : World) (j k : ℕ × ℕ) → ((m : ℕ) → kind_in (facts_of v) m ≡ kind_in (facts_of w) m) → v.opens ≡ w.opens → RestApart w j k → RestApart v j k
same_open w v j k kinds opens h =
    subst (λ m. IfSome (get m j) (λ a. IfSome (get m k) (λ b. a.dead ≡ false → b.dead ≡ false → same_node (base (facts_of v) a.place) (base (facts_of v) b.place) ≡ false))) (sym opens)
    (by (get w.opens j) (get w.opens k) h)
  where
    by : (a b : Option Open) → IfSome a (λ a. IfSome b (λ b. a.dead ≡ false → b.dead ≡ false → same_node (base (facts_of w) a.place) (base (facts_of w) b.place) ≡ false))
        → IfSome a (λ a. IfSome b (λ b. a.dead ≡ false → b.dead ≡ false → same_node (base (facts_of v) a.place) (base (facts_of v) b.place) ≡ false))
    by (Some a) (Some b) h = λ da db.
        ap (λ (c : NodeId). same_node c (base (facts_of v) b.place)) (base_stays w v kinds a.place) ∙ ap (same_node (base (facts_of w) a.place)) (base_stays w v kinds b.place) ∙ h da db
    by (Some a) None h = tt
    by None b h = tt

made_open : (w : World) (m u : ℕ) (n : List ℕ) (node : Node) (j k : ℕ × ℕ) → RestApart w j k → RestApart (made_above w m u n node) j k
made_open w m u n node j k h =
    let s = upper_store w m in
    same_open w (made_above w m u n node) j k (λ l. mounts_stay (λ t. made t u n node) w s l (get w.stores s)) (alone-store (λ t. made t u n node) w s (get w.stores s)).0 h

child_open : (w : World) (m u : ℕ) (n : List ℕ) (j k : ℕ × ℕ) → IsSound w → IsLasting w → RestApart w j k → (c : Child) → RestApart (copied_child w m u n c) j k
child_open w m u n j k sound lasts h (child.At q) = copied_apart w sound lasts m u n q j k h
child_open w m u n j k sound lasts h child.Absent = made_open w m u n (File []) j k h
child_open w m u n j k sound lasts h (child.Need x) = made_open w m u n (File []) j k h

pub copy_joins_none : (w : World) (c m u : ℕ) (n : List ℕ) (j k : ℕ × ℕ) → IsSound w → IsLasting w → RestApart w j k → RestApart (effect w c (CopyUp m u n)) j k
copy_joins_none w c m u n j k sound lasts h = child_open w m u n j k sound lasts h (child_below (child_of (facts_of w)) (low (facts_of w) m u) n)
