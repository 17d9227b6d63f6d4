-- Mounts that go keep sound worlds lasting.
use Rattle.std.proofs.Common.{◌≡◌, ℕ, ◌<◌, Bool, true, false, cond, not, ◌&&◌, ◌||◌, ◌==◌, List, [], ◌∷◌, ◌++◌, map, refl, ap, sym, ◌∙◌, subst, nat_cmp, eqb-true, eq-eqb}
use Rattle.std.specs.Prelude.{Option, Some, None, IsSome, IfSome, is_some, option_map}
use Rattle.std.specs.List.{list_any, filter, fold}
use Rattle.std.specs.Cmp.{nat_cmp_total}
use Rattle.std.specs.Ordering.{eq_by_cmp, is_eq}
use Rattle.std.specs.FinMap.{FinMap, get, remove, entries, values, get-remove}
use Rattle.std.proofs.lemmas.Cmp.{tied_itself}
use Rattle.std.proofs.lemmas.Map.Lookups.{exact_unsigned}
use Rattle.finite_maps.specs.Keys.{pair_cmp}
use Rattle.vfs_tree.specs.Facts.{Facts}
use Rattle.vfs_tree.specs.Layers.{kind_in, store_by, base, kind_of, is_dir_kind, is_dir, is_cut, cut_by}
use Rattle.vfs_tree.specs.Mounts.{is_left, is_on, layers, is_of, stands_on, covers_in, is_on_in, is_open_in, is_cwd_in, is_mounted_in, has_references, is_covered}
use Rattle.vfs_tree.specs.Place.{Seen, Mem, Null, UnionUp, UnionLow, mount_of}
use Rattle.vfs_tree.specs.Sound.{is_mem, is_null, is_union, names_mounts, AreFiles, IsSoundPlace, IsSoundDir, EachLayer, EachPlace, IsBelow, covers_by, is_on_place, IsSound}
use Rattle.vfs_tree.specs.Views.{facts_of}
use Rattle.vfs_tree.specs.declared.mount.Mount.{Mount}
use Rattle.vfs_tree.specs.declared.mount.MountKind.{MountKind}
use Rattle.vfs_tree.specs.declared.mount.MountKind.TheVariants as kind
use Rattle.vfs_tree.specs.declared.open.Cwd.{Cwd}
use Rattle.vfs_tree.specs.declared.open.Open.{Open}
use Rattle.vfs_tree.specs.declared.walk.Found.{Found}
use Rattle.vfs_tree.specs.declared.walk.NodeId.{NodeId}
use Rattle.vfs_tree.specs.declared.world.World.{World}
use Rattle.call_model.specs.Checks.{mount_at}
use Rattle.call_model.specs.MountRows as rows
use Rattle.call_model.specs.Refs.{Reference, open_reference, cwd_reference, open_references, references, first_case, first_of_two, stands_first, first, first_in}
use Rattle.call_model.specs.declared.entry.Ref.{Ref}
use Rattle.call_laws.specs.Lasting.{lower_mount, IsOver, IsUncut, IsLasting}
use Rattle.call_laws.proofs.DetachLaws.{IsLayer, null_layer, lower_layer, upper_layer, is_layer, of_lower, left_cut}
use Rattle.call_laws.proofs.NamedLaws.{no_way, any_value, value_any}
use Rattle.call_laws.proofs.NeedLaws.{FreeFound}
use Rattle.call_laws.proofs.Parts.{Keeps, MakesNode, found_so, needed, weaker, then, unless, keeps-mount_at}
use Rattle.call_laws.proofs.SoundParts.{first_of, second_of, both_of, if_each, each_place, or_first, or_second, or_none, not_so, not_then, if_both, number_or, mem_there, null_there, union_there, mount_there}
use Rattle.call_laws.proofs.SoundRows.{LeavesSo, AnyNeed}
use Rattle.call_laws.proofs.Whole.{IsWhole}
use Rattle.call_laws.proofs.WeightLaws.{equal}

-- no mount that a place names is this one
abbrev pub NamesNot : ℕ → Seen → Type 0
NamesNot m (Mem n i) = n ≡ m → ⊥
NamesNot m (Null n p) = (n ≡ m → ⊥) × NamesNot m p
NamesNot m (UnionUp n i) = n ≡ m → ⊥
NamesNot m (UnionLow n u a p) = (n ≡ m → ⊥) × NamesNot m p

-- ---- places that don't name the mount

module _ (f g : Facts) (m : ℕ) (same : (n : ℕ) → (n ≡ m → ⊥) → kind_in g n ≡ kind_in f n) (nodes : (s i : ℕ) → g.kind s i ≡ f.kind s i) where
  free_names : (p : Seen) → NamesNot m p → names_mounts f p ≡ true → names_mounts g p ≡ true
  free_names (Mem n i) x h = ap is_mem (same n x) ∙ h
  free_names (Null n p) x h =
      both_of (is_null (kind_in g n)) (names_mounts g p) (ap is_null (same n x.0) ∙ first_of (is_null (kind_in f n)) (names_mounts f p) h) (free_names p x.1 (second_of (is_null (kind_in f n)) (names_mounts f p) h))
  free_names (UnionUp n i) x h = ap is_union (same n x) ∙ h
  free_names (UnionLow n u a p) x h =
      both_of (is_union (kind_in g n)) (names_mounts g p) (ap is_union (same n x.0) ∙ first_of (is_union (kind_in f n)) (names_mounts f p) h) (free_names p x.1 (second_of (is_union (kind_in f n)) (names_mounts f p) h))

  free_base : (p : Seen) → NamesNot m p → base g p ≡ base f p
  free_base (Mem n i) x = refl
  free_base (Null n p) x = free_base p x.1
  free_base (UnionUp n i) x = let at : Option MountKind → NodeId = λ o. record { store = store_by o; ino = i } in ap at (same n x)
  free_base (UnionLow n u a p) x = free_base p x.1

  pub free_kind : (p : Seen) → NamesNot m p → kind_of g p ≡ kind_of f p
  free_kind p x = ap (λ (b : NodeId). g.kind b.store b.ino) (free_base p x) ∙ nodes (base f p).store (base f p).ino

  free_files : (p : Seen) → NamesNot m p → AreFiles f p → AreFiles g p
  free_files (Mem n i) x h = tt
  free_files (Null n p) x h = free_files p x.1 h
  free_files (UnionUp n i) x h = tt
  free_files (UnionLow n u a p) x h = (ap is_dir_kind (free_kind p x.1) ∙ h.0, free_files p x.1 h.1)

  pub free_sound : (p : Seen) → NamesNot m p → IsSoundPlace f p → IsSoundPlace g p
  free_sound p x h = record { mounts = free_names p x h.mounts; base = ap is_some (free_kind p x) ∙ h.base; files = free_files p x h.files }

  pub free_dir : (p : Seen) → NamesNot m p → IsSoundDir f p → IsSoundDir g p
  free_dir p x h = record { place = free_sound p x h.place; dir = ap is_dir_kind (free_kind p x) ∙ h.dir }

  pub free_over : (p : Seen) → NamesNot m p → IsOver f p → IsOver g p
  free_over (Mem n i) x h = tt
  free_over (Null n p) x h = (ap lower_mount (same n x.0) ∙ h.0, free_over p x.1 h.1)
  free_over (UnionUp n i) x h = tt
  free_over (UnionLow n u a p) x h = (ap lower_mount (same n x.0) ∙ h.0, free_over p x.1 h.1)

free_uncut : (f g : Facts) → ((n : ℕ) → is_cut f n ≡ false → is_cut g n ≡ false) → (p : Seen) → IsUncut f p → IsUncut g p
free_uncut f g cuts (Mem n i) h = cuts n h
free_uncut f g cuts (Null n p) h = (cuts n h.0, free_uncut f g cuts p h.1)
free_uncut f g cuts (UnionUp n i) h = cuts n h
free_uncut f g cuts (UnionLow n u a p) h = (cuts n h.0, free_uncut f g cuts p h.1)

-- ---- a mount is removed

pub and_layers : (P Q R : Seen → Type 0) → ((p : Seen) → P p → Q p → R p) → (k : MountKind) → EachLayer P k → EachLayer Q k → EachLayer R k
and_layers P Q R f kind.Mem a b = tt
and_layers P Q R f (kind.Null layer) a b = f layer a b
and_layers P Q R f (kind.Union s u lower) a b = (f _ a.0 b.0, f lower a.1 b.1)

and_places : (P Q R : Seen → Type 0) → ((p : Seen) → P p → Q p → R p) → (t : Mount) → EachPlace P t → EachPlace Q t → EachPlace R t
and_places P Q R f t p q = (if_both P Q R f t.on p.0 q.0, and_layers P Q R f t.kind p.1 q.1)

-- the other mounts are as before
pub other_mount : (mounts : FinMap nat_cmp Mount) (m n : ℕ) → (n ≡ m → ⊥) → get (remove mounts m) n ≡ get mounts n
other_mount mounts m n ne = get-remove nat_cmp_total mounts m n ∙ (elim (eq_by_cmp nat_cmp n m) as (λ b. eq_by_cmp nat_cmp n m ≡ b → cond b None (get mounts n) ≡ get mounts n) [
  | true ↦ λ e. absurd (ne (exact_unsigned n m (equal _ e)))
  | false ↦ λ _. refl
] refl)

module _ (w : World) (h : IsWhole w) (m : ℕ) (leaving : FinMap nat_cmp ℕ) (other : m ≡ 0 → ⊥)
    (opens : (k : ℕ × ℕ) → IfSome (get w.opens k) (λ o. o.dead ≡ false → NamesNot m o.place)) (cwds : (c : ℕ) → IfSome (get w.cwds c) (λ d. d.dead ≡ false → NamesNot m d.place))
    (mounts : (n : ℕ) → IfSome (get w.mounts n) (λ t. t.cut ≡ false → EachPlace (NamesNot m) t))
    (still : (n : ℕ) → (n ≡ m → ⊥) → is_left w.leaving n ≡ true → is_left leaving n ≡ true)
    (fewer : (c : ℕ) (Q : ℕ → Type 0) → IfSome (get w.leaving c) Q → IfSome (get leaving c) Q) where
  abbrev v : World
  v = record w { mounts = remove w.mounts m; leaving = leaving }

  abbrev f : Facts
  f = facts_of w

  abbrev g : Facts
  g = facts_of v

  -- what stands at a number then, by cases
  at_mount : (n : ℕ) (P : Option Mount → Type 0) → P None → ((n ≡ m → ⊥) → P (get w.mounts n)) → P (get v.mounts n)
  at_mount n P gone there = subst P (sym (get-remove nat_cmp_total w.mounts m n))
      (elim (eq_by_cmp nat_cmp n m) as (λ b. eq_by_cmp nat_cmp n m ≡ b → P (cond b None (get w.mounts n))) [ true ↦ λ _. gone | false ↦ λ e. there (λ is. no_way (sym e ∙ same_key n m is)) ] refl)
    where
      same_key : (n m : ℕ) → n ≡ m → eq_by_cmp nat_cmp n m ≡ true
      same_key n m is = ap (λ x. eq_by_cmp nat_cmp x m) is ∙ ap is_eq (tied_itself nat_cmp_total m)

  same : (n : ℕ) → (n ≡ m → ⊥) → kind_in g n ≡ kind_in f n
  same n ne = ap (option_map (λ (t : Mount). t.kind)) (other_mount w.mounts m n ne)

  cuts : (n : ℕ) → is_cut f n ≡ false → is_cut g n ≡ false
  cuts n is = at_mount n (λ o. cut_by o ≡ false) refl (λ _. is)

  nodes : (s i : ℕ) → g.kind s i ≡ f.kind s i
  nodes s i = refl

  zero_other : 0 ≡ m → ⊥
  zero_other e = other (sym e)

  on_before : (p : Seen) (n : ℕ) → is_on_place v p n ≡ true → is_on_place w p n ≡ true
  on_before p n = at_mount n (λ o. covers_by leaving p o ≡ true → is_on_place w p n ≡ true) (λ x. no_way x) (λ ne. was n ne (get w.mounts n) (h.lasts.mounts n))
    where
      was : (n : ℕ) → (n ≡ m → ⊥) → (o : Option Mount) → IfSome o (λ t. t.number ≡ n) → covers_by leaving p o ≡ true → covers_by w.leaving p o ≡ true
      was n ne (Some t) is x =
          both_of (is_on t.on p) (not (is_left w.leaving t.number)) (first_of (is_on t.on p) (not (is_left leaving t.number)) x)
          (not_then (is_left w.leaving t.number) (is_left leaving t.number) (still t.number (λ e. ne (sym is ∙ e))) (second_of (is_on t.on p) (not (is_left leaving t.number)) x))
      was n ne None is x = x

  sound-gone : IsSound v
  sound-gone = record {
    view = record {
      names = h.sound.view.names;
      places = λ n. at_mount n (λ o. IfSome o (λ t. t.cut ≡ false → EachPlace (IsSoundDir g) t)) tt (λ _.
          if_both (λ t. t.cut ≡ false → EachPlace (NamesNot m) t) (λ t. t.cut ≡ false → EachPlace (IsSoundDir f) t) (λ t. t.cut ≡ false → EachPlace (IsSoundDir g) t)
          (λ t x y cut. and_places (NamesNot m) (IsSoundDir f) (IsSoundDir g) (free_dir f g m same nodes) t (x cut) (y cut)) (get w.mounts n) (mounts n) (h.sound.view.places n));
      root = same 0 zero_other ∙ h.sound.view.root;
      smaller = λ n. at_mount n (λ o. IfSome o (EachPlace (IsBelow n))) tt (λ _. h.sound.view.smaller n);
    };
    opens = λ k. if_both (λ o. o.dead ≡ false → NamesNot m o.place) (λ o. o.dead ≡ false → IsSoundPlace f o.place) (λ o. o.dead ≡ false → IsSoundPlace g o.place)
        (λ o x y e. free_sound f g m same nodes o.place (x e) (y e)) (get w.opens k) (opens k) (h.sound.opens k);
    cwds = λ c. if_both (λ o. o.dead ≡ false → NamesNot m o.place) (λ o. o.dead ≡ false → IsSoundPlace f o.place) (λ o. o.dead ≡ false → IsSoundPlace g o.place)
        (λ o x y e. free_sound f g m same nodes o.place (x e) (y e)) (get w.cwds c) (cwds c) (h.sound.cwds c);
    apart = λ p a b x y. h.sound.apart p a b (on_before p a x) (on_before p b y);
  }

  still_cut : (n : ℕ) → (n < w.next_mount) × IfSome (get w.mounts n) (λ t. t.cut ≡ true) → (n < w.next_mount) × IfSome (get v.mounts n) (λ t. t.cut ≡ true)
  still_cut n x = (x.0, at_mount n (λ o. IfSome o (λ t. t.cut ≡ true)) tt (λ _. x.1))

  lasting-gone : IsLasting v
  lasting-gone = record {
    numbered = h.lasts.numbered;
    mounts = λ n. at_mount n (λ o. IfSome o (λ t. t.number ≡ n)) tt (λ _. h.lasts.mounts n);
    roots = λ n. at_mount n (λ o. option_map (λ (t : Mount). t.kind) o ≡ Some kind.Mem → IsSome (g.kind n 1)) (λ e. absurd (let clash : None ≡ Some kind.Mem = e in cc)) (λ _ is. h.lasts.roots n is);
    parents = h.lasts.parents;
    first = cuts 0 h.lasts.first;
    uncut = λ n. at_mount n (λ o. IfSome o (λ t. t.cut ≡ false → EachPlace (IsUncut g) t)) tt (λ _.
        if_each (λ t. t.cut ≡ false → EachPlace (IsUncut f) t) (λ t. t.cut ≡ false → EachPlace (IsUncut g) t) (λ t x cut. each_place (IsUncut f) (IsUncut g) (free_uncut f g cuts) t (x cut)) (get w.mounts n) (h.lasts.uncut n));
    overs = λ n. at_mount n (λ o. IfSome o (λ t. t.cut ≡ false → EachPlace (IsOver g) t)) tt (λ _.
        if_both (λ t. t.cut ≡ false → EachPlace (NamesNot m) t) (λ t. t.cut ≡ false → EachPlace (IsOver f) t) (λ t. t.cut ≡ false → EachPlace (IsOver g) t)
        (λ t x y cut. and_places (NamesNot m) (IsOver f) (IsOver g) (free_over f g m same nodes) t (x cut) (y cut)) (get w.mounts n) (mounts n) (h.lasts.overs n));
    opens = λ k. if_both (λ o. o.dead ≡ false → NamesNot m o.place) (λ o. o.dead ≡ false → IsOver f o.place) (λ o. o.dead ≡ false → IsOver g o.place)
        (λ o x y e. free_over f g m same nodes o.place (x e) (y e)) (get w.opens k) (opens k) (h.lasts.opens k);
    cwds = λ c. if_both (λ d. d.dead ≡ false → NamesNot m d.place) (λ d. d.dead ≡ false → IsOver f d.place × (is_dir f d.place ≡ true)) (λ d. d.dead ≡ false → IsOver g d.place × (is_dir g d.place ≡ true))
        (λ d x y e. (free_over f g m same nodes d.place (x e) (y e).0, ap is_dir_kind (free_kind f g m same nodes d.place (x e)) ∙ (y e).1)) (get w.cwds c) (cwds c) (h.lasts.cwds c);
    left = λ c. if_each (λ n. (n < w.next_mount) × IfSome (get w.mounts n) (λ t. t.cut ≡ true)) (λ n. (n < w.next_mount) × IfSome (get v.mounts n) (λ t. t.cut ≡ true)) still_cut (get leaving c)
        (fewer c (λ n. (n < w.next_mount) × IfSome (get w.mounts n) (λ t. t.cut ≡ true)) (h.lasts.left c));
    counted = record {
      mounts = λ n. at_mount n (λ o. IsSome o → n < w.next_mount) (λ e. no_way e) (λ _. h.lasts.counted.mounts n);
      stores = h.lasts.counted.stores;
      most = h.lasts.counted.most;
      inodes = h.lasts.counted.inodes;
    };
  }

  pub whole-gone : IsWhole v
  whole-gone = record { sound = sound-gone; lasts = lasting-gone }

-- ---- unmount(2): nothing refers to the mount

module _ (w : World) (m : ℕ) (free : has_references w m ≡ false) where
  unopened : is_open_in w m ≡ false
  unopened = (or_none (is_open_in w m) (is_cwd_in w m || is_mounted_in w m) free).0

  unentered : is_cwd_in w m ≡ false
  unentered = (or_none (is_cwd_in w m) (is_mounted_in w m) (or_none (is_open_in w m) (is_cwd_in w m || is_mounted_in w m) free).1).0

  pub unmounted : is_mounted_in w m ≡ false
  unmounted = (or_none (is_cwd_in w m) (is_mounted_in w m) (or_none (is_open_in w m) (is_cwd_in w m || is_mounted_in w m) free).1).1

  -- no layer lies in it
  pub no_layer : (n : ℕ) (o : Option Mount) → get w.mounts n ≡ o → (l : ℕ) → IsLayer o l → l ≡ m → ⊥
  no_layer n (Some t) at l layer is =
      no_way (sym unmounted ∙ value_any nat_cmp (λ t. covers_in w.leaving (λ n. n == m) t || list_any (λ l. l == m) (layers t.kind)) w.mounts n t at
      (or_second (covers_in w.leaving (λ n. n == m) t) (list_any (λ l. l == m) (layers t.kind)) (layer (λ l. l == m) (eq-eqb l m is))))
  no_layer n None at l layer is = no_way (layer (λ l. true) refl)

  lower_apart : (n l : ℕ) → lower_mount (kind_in (facts_of w) n) ≡ Some l → l ≡ m → ⊥
  lower_apart n l e = no_layer n (get w.mounts n) refl l (is_layer (get w.mounts n) (kind_in (facts_of w) n) l refl e)

  pub names_not : (p : Seen) → IsOver (facts_of w) p → (mount_of p ≡ m → ⊥) → NamesNot m p
  names_not (Mem n i) over ne = ne
  names_not (Null n p) over ne = (ne, names_not p over.1 (lower_apart n (mount_of p) over.0))
  names_not (UnionUp n i) over ne = ne
  names_not (UnionLow n u a p) over ne = (ne, names_not p over.1 (lower_apart n (mount_of p) over.0))

  open_head : (k : ℕ × ℕ) (o : Open) → get w.opens k ≡ Some o → o.dead ≡ false → mount_of o.place ≡ m → ⊥
  open_head k o at alive is =
      no_way (sym unopened ∙ value_any pair_cmp (λ o. not o.dead && (mount_of o.place == m)) w.opens k o at (both_of (not o.dead) (mount_of o.place == m) (ap not alive) (eq-eqb (mount_of o.place) m is)))

  cwd_head : (c : ℕ) (d : Cwd) → get w.cwds c ≡ Some d → d.dead ≡ false → mount_of d.place ≡ m → ⊥
  cwd_head c d at alive is =
      no_way (sym unentered ∙ value_any nat_cmp (λ d. not d.dead && (mount_of d.place == m)) w.cwds c d at (both_of (not d.dead) (mount_of d.place == m) (ap not alive) (eq-eqb (mount_of d.place) m is)))

  module _ (h : IsWhole w) where
    on_head : (n : ℕ) (t : Mount) → get w.mounts n ≡ Some t → t.number ≡ n → t.cut ≡ false → (p : Seen) → t.on ≡ Some p → mount_of p ≡ m → ⊥
    on_head n t at number cut p on is =
        let stays : not (is_left w.leaving t.number) ≡ true = ap (λ x. not (is_left w.leaving x)) number ∙ ap not (left_cut w n t h at cut) in
        let lies : is_on_in (λ n. n == m) t.on ≡ true = ap (is_on_in (λ n. n == m)) on ∙ eq-eqb (mount_of p) m is in
        no_way (sym unmounted ∙ value_any nat_cmp (λ t. covers_in w.leaving (λ n. n == m) t || list_any (λ l. l == m) (layers t.kind)) w.mounts n t at
        (or_first (covers_in w.leaving (λ n. n == m) t) (list_any (λ l. l == m) (layers t.kind)) (both_of (is_on_in (λ n. n == m) t.on) (not (is_left w.leaving t.number)) lies stays)))

    opens_not : (k : ℕ × ℕ) (o : Option Open) → get w.opens k ≡ o → IfSome o (λ o. o.dead ≡ false → IsOver (facts_of w) o.place) → IfSome o (λ o. o.dead ≡ false → NamesNot m o.place)
    opens_not k (Some o) at over = λ alive. names_not o.place (over alive) (open_head k o at alive)
    opens_not k None at over = tt

    cwds_not : (c : ℕ) (o : Option Cwd) → get w.cwds c ≡ o → IfSome o (λ d. d.dead ≡ false → IsOver (facts_of w) d.place × (is_dir (facts_of w) d.place ≡ true)) → IfSome o (λ d. d.dead ≡ false → NamesNot m d.place)
    cwds_not c (Some d) at over = λ alive. names_not d.place (over alive).0 (cwd_head c d at alive)
    cwds_not c None at over = tt

    on_not : (n : ℕ) (t : Mount) → get w.mounts n ≡ Some t → t.number ≡ n → t.cut ≡ false → (o : Option Seen) → t.on ≡ o → IfSome o (IsOver (facts_of w)) → IfSome o (NamesNot m)
    on_not n t at number cut (Some p) on over = names_not p over (on_head n t at number cut p on)
    on_not n t at number cut None on over = tt

    layers_not : (n : ℕ) (k : MountKind) → kind_in (facts_of w) n ≡ Some k → EachLayer (IsOver (facts_of w)) k → EachLayer (NamesNot m) k
    layers_not n kind.Mem is over = tt
    layers_not n (kind.Null layer) is over = names_not layer over (no_layer n (get w.mounts n) refl (mount_of layer) (null_layer (get w.mounts n) layer is))
    layers_not n (kind.Union s u lower) is over = (
      no_layer n (get w.mounts n) refl s (upper_layer (get w.mounts n) s u lower is),
      names_not lower over.1 (no_layer n (get w.mounts n) refl (mount_of lower) (lower_layer (get w.mounts n) s u lower is)),
    )

    mounts_not : (n : ℕ) (o : Option Mount) → get w.mounts n ≡ o → IfSome o (λ t. t.number ≡ n) → IfSome o (λ t. t.cut ≡ false → EachPlace (IsOver (facts_of w)) t) → IfSome o (λ t. t.cut ≡ false → EachPlace (NamesNot m) t)
    mounts_not n (Some t) at number over = λ cut.
        (on_not n t at number cut t.on refl (over cut).0, layers_not n t.kind (ap (option_map (λ (t : Mount). t.kind)) at) (over cut).1)
    mounts_not n None at number over = tt

    pub whole-without : (m ≡ 0 → ⊥) → IsWhole (rows.without_mount w m)
    whole-without other =
        whole-gone w h m w.leaving other (λ k. opens_not k (get w.opens k) refl (h.lasts.opens k)) (λ c. cwds_not c (get w.cwds c) refl (h.lasts.cwds c))
        (λ n. mounts_not n (get w.mounts n) refl (h.lasts.mounts n) (h.lasts.overs n)) (λ n ne x. x) (λ c Q x. x)

not_zero : (m : ℕ) → (m == 0) ≡ false → m ≡ 0 → ⊥
not_zero m e is = no_way (sym e ∙ eq-eqb m 0 is)

pub whole-umount : (w : World) (a : Found) → FreeFound (facts_of w) a → IsWhole w → Keeps (LeavesSo IsWhole) (MakesNode w) (rows.umount w a)
whole-umount w a fa h =
    then (mount_at w a) (keeps-mount_at w a fa) (λ m _.
    unless (m == 0) _ (λ other. unless (has_references w m) _ (λ free. found_so (whole-without w m free h (not_zero m other)))))

-- ---- the end of a forced unmount: no live reference is in the mount, or in one that stands on it

fold_some : (f : Facts) (best : Reference) (rs : List Reference) → is_some (fold (first_of_two f) (Some best) rs) ≡ true
fold_some f best [] = refl
fold_some f best (r ∷ rs) = by (stands_first f r best) (λ x. fold_some f x rs)
  where
    by : (b : Bool) → ((x : Reference) → is_some (fold (first_of_two f) (Some x) rs) ≡ true) → is_some (fold (first_of_two f) (first_case best r b) rs) ≡ true
    by true h = h r
    by false h = h best

no_first : (f : Facts) (rs : List Reference) → is_some (first f rs) ≡ false → rs ≡ []
no_first f [] e = refl
no_first f (r ∷ rs) e = no_way (sym e ∙ fold_some f r rs)

map_none : {A B : Type 0} (g : A → B) (o : Option A) → option_map g o ≡ None → is_some o ≡ false
map_none g (Some x) e = absurd (let clash : true ≡ false = ap is_some e in cc)
map_none g None e = refl

filter_none : {A : Type 0} (test : A → Bool) (xs : List A) → filter test xs ≡ [] → list_any test xs ≡ false
filter_none test [] e = refl
filter_none test (x ∷ xs) e = by (test x) (filter_none test xs) e
  where
    by : (b : Bool) → (filter test xs ≡ [] → list_any test xs ≡ false) → cond b (x ∷ filter test xs) (filter test xs) ≡ [] → (b || list_any test xs) ≡ false
    by true f e = absurd cc
    by false f e = f e

any_joined : {A : Type 0} (test : A → Bool) (xs ys : List A) → list_any test (xs ++ ys) ≡ false → (list_any test xs ≡ false) × (list_any test ys ≡ false)
any_joined test [] ys e = (refl, e)
any_joined test (x ∷ xs) ys e =
    let both = or_none (test x) (list_any test (xs ++ ys)) e in
    let rest = any_joined test xs ys both.1 in
    (ap (λ b. b || list_any test xs) both.0 ∙ rest.0, rest.1)

any_alike : {K X : Type 0} (p : Reference → Bool) (q : X → Bool) (g : K × X → Reference) → ((e : K × X) → p (g e) ≡ q e.1) → (es : List (K × X)) → list_any p (map g es) ≡ list_any q (map (λ e. e.1) es)
any_alike p q g h [] = refl
any_alike p q g h (e ∷ es) = ap (λ b. b || list_any p (map g es)) (h e) ∙ ap (λ b. q e.1 || b) (any_alike p q g h es)

module _ (w : World) (m : ℕ) (none : first_in w m ≡ None) where
  abbrev among : Seen → Bool
  among p = is_of w.mounts m (mount_of p)

  no_refs : list_any (λ (r : Reference). not r.dead && among r.place) (references w) ≡ false
  no_refs =
      filter_none (λ (r : Reference). not r.dead && among r.place) (references w)
      (no_first (facts_of w) (filter (λ (r : Reference). not r.dead && among r.place) (references w))
      (map_none (λ (r : Reference). r.at) (first (facts_of w) (filter (λ (r : Reference). not r.dead && among r.place) (references w))) none))

  no_opens : list_any (λ (o : Open). not o.dead && among o.place) (values w.opens) ≡ false
  no_opens =
      sym (any_alike (λ (r : Reference). not r.dead && among r.place) (λ (o : Open). not o.dead && among o.place) open_reference (λ e. refl) (entries w.opens))
      ∙ (any_joined (λ (r : Reference). not r.dead && among r.place) (open_references w) (map cwd_reference (entries w.cwds)) no_refs).0

  no_cwds : list_any (λ (d : Cwd). not d.dead && among d.place) (values w.cwds) ≡ false
  no_cwds =
      sym (any_alike (λ (r : Reference). not r.dead && among r.place) (λ (d : Cwd). not d.dead && among d.place) cwd_reference (λ e. refl) (entries w.cwds))
      ∙ (any_joined (λ (r : Reference). not r.dead && among r.place) (open_references w) (map cwd_reference (entries w.cwds)) no_refs).1

  pub open_apart : (k : ℕ × ℕ) (o : Open) → get w.opens k ≡ Some o → o.dead ≡ false → among o.place ≡ false
  open_apart k o at alive = not_so (among o.place) (λ is.
      no_way (sym no_opens ∙ value_any pair_cmp (λ (o : Open). not o.dead && among o.place) w.opens k o at (both_of (not o.dead) (among o.place) (ap not alive) is)))

  pub cwd_apart : (c : ℕ) (d : Cwd) → get w.cwds c ≡ Some d → d.dead ≡ false → among d.place ≡ false
  cwd_apart c d at alive = not_so (among d.place) (λ is.
      no_way (sym no_cwds ∙ value_any nat_cmp (λ (d : Cwd). not d.dead && among d.place) w.cwds c d at (both_of (not d.dead) (among d.place) (ap not alive) is)))

  module _ (h : IsWhole w) (c : ℕ) (leaves : get w.leaving c ≡ Some m) where
    head_apart : (n : ℕ) → is_of w.mounts m n ≡ false → n ≡ m → ⊥
    head_apart n apart is = no_way (sym apart ∙ or_first (n == m) (stands_on w.mounts n m) (eq-eqb n m is))

    below_apart : (n l : ℕ) → lower_mount (kind_in (facts_of w) n) ≡ Some l → is_of w.mounts m n ≡ false → is_of w.mounts m l ≡ false
    below_apart n l e apart = not_so (is_of w.mounts m l) (λ is. no_way (sym apart ∙ of_lower w h m n l e is))

    among_not : (p : Seen) → IsOver (facts_of w) p → among p ≡ false → NamesNot m p
    among_not (Mem n i) over apart = head_apart n apart
    among_not (Null n p) over apart = (head_apart n apart, among_not p over.1 (below_apart n (mount_of p) over.0 apart))
    among_not (UnionUp n i) over apart = head_apart n apart
    among_not (UnionLow n u a p) over apart = (head_apart n apart, among_not p over.1 (below_apart n (mount_of p) over.0 apart))

    live_opens_not : (k : ℕ × ℕ) (o : Option Open) → get w.opens k ≡ o → IfSome o (λ o. o.dead ≡ false → IsOver (facts_of w) o.place) → IfSome o (λ o. o.dead ≡ false → NamesNot m o.place)
    live_opens_not k (Some o) at over = λ alive. among_not o.place (over alive) (open_apart k o at alive)
    live_opens_not k None at over = tt

    live_cwds_not : (c : ℕ) (o : Option Cwd) → get w.cwds c ≡ o → IfSome o (λ d. d.dead ≡ false → IsOver (facts_of w) d.place × (is_dir (facts_of w) d.place ≡ true)) → IfSome o (λ d. d.dead ≡ false → NamesNot m d.place)
    live_cwds_not c (Some d) at over = λ alive. among_not d.place (over alive).0 (cwd_apart c d at alive)
    live_cwds_not c None at over = tt

    -- the mount is cut, or gone already
    left_so : (m < w.next_mount) × IfSome (get w.mounts m) (λ t. t.cut ≡ true)
    left_so = subst (λ o. IfSome o (λ m. (m < w.next_mount) × IfSome (get w.mounts m) (λ t. t.cut ≡ true))) leaves (h.lasts.left c)

    cut_or_gone : (n : ℕ) (o : Option Mount) → get w.mounts m ≡ o → IfSome o (λ t. t.cut ≡ true) → is_cut (facts_of w) n ≡ false → IsSome (get w.mounts n) → n ≡ m → ⊥
    cut_or_gone n (Some t) at cut uncut there is = no_way (sym uncut ∙ ap (λ x. cut_by (get w.mounts x)) is ∙ ap cut_by at ∙ cut)
    cut_or_gone n None at cut uncut there is = no_way (sym (ap is_some at) ∙ ap (λ x. is_some (get w.mounts x)) (sym is) ∙ there)

    other_than : (n : ℕ) → is_cut (facts_of w) n ≡ false → IsSome (get w.mounts n) → n ≡ m → ⊥
    other_than n uncut there = cut_or_gone n (get w.mounts m) refl left_so.1 uncut there

    first_other : m ≡ 0 → ⊥
    first_other e = other_than 0 h.lasts.first (mount_there (get w.mounts 0) (ap is_some h.sound.view.root)) (sym e)

    named_not : (p : Seen) → names_mounts (facts_of w) p ≡ true → IsUncut (facts_of w) p → NamesNot m p
    named_not (Mem n i) x cut = other_than n cut (mount_there (get w.mounts n) (mem_there (kind_in (facts_of w) n) x))
    named_not (Null n p) x cut = (
      other_than n cut.0 (mount_there (get w.mounts n) (null_there (kind_in (facts_of w) n) (first_of (is_null (kind_in (facts_of w) n)) (names_mounts (facts_of w) p) x))),
      named_not p (second_of (is_null (kind_in (facts_of w) n)) (names_mounts (facts_of w) p) x) cut.1,
    )
    named_not (UnionUp n i) x cut = other_than n cut (mount_there (get w.mounts n) (union_there (kind_in (facts_of w) n) x))
    named_not (UnionLow n u a p) x cut = (
      other_than n cut.0 (mount_there (get w.mounts n) (union_there (kind_in (facts_of w) n) (first_of (is_union (kind_in (facts_of w) n)) (names_mounts (facts_of w) p) x))),
      named_not p (second_of (is_union (kind_in (facts_of w) n)) (names_mounts (facts_of w) p) x) cut.1,
    )

    uncut_not : (p : Seen) → IsSoundDir (facts_of w) p → IsUncut (facts_of w) p → NamesNot m p
    uncut_not p x cut = named_not p x.place.mounts cut

    cut_mounts_not : (n : ℕ) → IfSome (get w.mounts n) (λ t. t.cut ≡ false → EachPlace (NamesNot m) t)
    cut_mounts_not n =
        if_both (λ t. t.cut ≡ false → EachPlace (IsSoundDir (facts_of w)) t) (λ t. t.cut ≡ false → EachPlace (IsUncut (facts_of w)) t) (λ t. t.cut ≡ false → EachPlace (NamesNot m) t)
        (λ t x y cut. and_places (IsSoundDir (facts_of w)) (IsUncut (facts_of w)) (NamesNot m) uncut_not t (x cut) (y cut)) (get w.mounts n) (h.sound.view.places n) (h.lasts.uncut n)

    -- ---- who is leaving then

    abbrev leaving : FinMap nat_cmp ℕ
    leaving = remove w.leaving c

    left_gone : (P : ℕ → Type 0) (b : Bool) (o : Option ℕ) → IfSome o P → IfSome (cond b None o) P
    left_gone P true o x = tt
    left_gone P false o x = x

    fewer_left : (d : ℕ) (Q : ℕ → Type 0) → IfSome (get w.leaving d) Q → IfSome (get leaving d) Q
    fewer_left d Q x = subst (λ o. IfSome o Q) (sym (get-remove nat_cmp_total w.leaving c d)) (left_gone Q (eq_by_cmp nat_cmp d c) (get w.leaving d) x)

    still_there : (d v : ℕ) → get w.leaving d ≡ Some v → (v ≡ m → ⊥) → get leaving d ≡ Some v
    still_there d v at ne = get-remove nat_cmp_total w.leaving c d ∙ (elim (eq_by_cmp nat_cmp d c) as (λ b. eq_by_cmp nat_cmp d c ≡ b → cond b None (get w.leaving d) ≡ Some v) [
      | true ↦ λ e. absurd (ne (ap number_or (sym at ∙ ap (get w.leaving) (exact_unsigned d c (equal _ e)) ∙ leaves)))
      | false ↦ λ _. at
    ] refl)

    still_left : (n : ℕ) → (n ≡ m → ⊥) → is_left w.leaving n ≡ true → is_left leaving n ≡ true
    still_left n ne is =
        let x = any_value nat_cmp nat_cmp_total (λ k. k == n) w.leaving is in
        value_any nat_cmp (λ k. k == n) leaving x.key x.value (still_there x.key x.value x.at (λ e. ne (sym (eqb-true x.value n x.passes) ∙ e))) x.passes

    pub whole-left : IsWhole (rows.left w c m)
    whole-left =
        whole-gone w h m leaving first_other (λ k. live_opens_not k (get w.opens k) refl (h.lasts.opens k)) (λ d. live_cwds_not d (get w.cwds d) refl (h.lasts.cwds d)) cut_mounts_not still_left fewer_left

whole-doom_next : (w : World) → IsWhole w → (c m : ℕ) → get w.leaving c ≡ Some m → (o : Option Ref) → first_in w m ≡ o → Keeps (LeavesSo IsWhole) AnyNeed (rows.doom_next w c m o)
whole-doom_next w h c m leaves (Some at) is = needed tt
whole-doom_next w h c m leaves None is = found_so (whole-left w m is h c leaves)

whole-detach_first : (w : World) (a : Found) → FreeFound (facts_of w) a → Keeps (LeavesSo IsWhole) AnyNeed (rows.detach_first w a)
whole-detach_first w a fa =
    then (mount_at w a) (weaker (mount_at w a) (λ _ x. x) (λ _ _. tt) (keeps-mount_at w a fa)) (λ m _.
    unless (m == 0) _ (λ _. unless (is_covered w m) _ (λ _. needed tt)))

whole-umount_by : (w : World) → IsWhole w → (c : ℕ) (a : Found) → FreeFound (facts_of w) a → (o : Option ℕ) → get w.leaving c ≡ o → Keeps (LeavesSo IsWhole) AnyNeed (rows.umount_by w c a o)
whole-umount_by w h c a fa (Some m) is = whole-doom_next w h c m is (first_in w m) refl
whole-umount_by w h c a fa None is = whole-detach_first w a fa

pub whole-umount_force : (w : World) (c : ℕ) (a : Found) → FreeFound (facts_of w) a → IsWhole w → Keeps (LeavesSo IsWhole) AnyNeed (rows.umount_force w c a)
whole-umount_force w c a fa h = whole-umount_by w h c a fa (get w.leaving c) refl
