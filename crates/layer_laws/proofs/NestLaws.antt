-- What a directory has, and what it shows, don't depend on the number of mounts that are passed, where that is enough.
use Rattle.std.proofs.Common.{◌≡◌, ℕ, zero, suc, ◌≤◌, ◌<◌, false, List, refl, ap, sym, ◌∙◌, subst, arith}
use Rattle.std.specs.Prelude.{Option, Some, None}
use Rattle.vfs_tree.specs.Child.{Lookup, child_mem, child_null, child_below, child_low, child_union, low_by, upper_entry, child_within, child_of}
use Rattle.vfs_tree.specs.Facts.{Facts}
use Rattle.vfs_tree.specs.Layers.{kind_in, is_dir, is_cut}
use Rattle.vfs_tree.specs.Place.{Seen, Mem, Null, UnionUp, UnionLow, mount_of}
use Rattle.vfs_tree.specs.Shown.{shown_low, shown_union, shown_within, shown_child}
use Rattle.vfs_tree.specs.declared.mount.MountKind.{MountKind}
use Rattle.vfs_tree.specs.declared.mount.MountKind.TheVariants as kind
use Rattle.vfs_tree.specs.declared.node.NameEntry.{NameEntry}
use Rattle.vfs_tree.specs.declared.node.NameEntry.TheVariants.{Ino, White}
use Rattle.vfs_tree.specs.declared.walk.Child.{Child}
use Rattle.vfs_tree.specs.declared.walk.Child.TheVariants as child
use Rattle.call_laws.specs.Lasting.{lower_mount, IsOver, IsUncut}
use Rattle.call_laws.proofs.DetachLaws.{lower_less}
use Rattle.call_laws.proofs.FoundLaws.{IsGood, IsGoodView, good_layers}
use Rattle.layer_laws.proofs.LowerLaws.{Stands, stands_more, stands_if, alike_lower, alike_below}

-- what a place is seen over lies in a mount with a smaller number, and the union that it rests on isn't cut
abbrev pub Nests : Facts → Seen → Type 0
Nests f (Mem m i) = Unit {0}
Nests f (Null m p) = (mount_of p < m) × Nests f p
Nests f (UnionUp m i) = is_cut f m ≡ false
Nests f (UnionLow m u n p) = (mount_of p < m) × Nests f p

-- such a place in a mount with that number or a smaller one
abbrev pub Within : Facts → ℕ → Seen → Type 0
Within f l p = Nests f p × (mount_of p ≤ l)

-- such a place in a mount with a smaller number
abbrev pub Under : Facts → ℕ → Seen → Type 0
Under f m p = Nests f p × (mount_of p < m)

abbrev Always : ℕ → Type 0
Always u = Unit {0}

within_more : (f : Facts) (l m : ℕ) → l ≤ m → (q : Seen) → Within f l q → Within f m q
within_more f l m le q h = let less : mount_of q ≤ l = h.1 in (h.0, omega (arith, le, less))

pub under_more : (f : Facts) (l m : ℕ) → l < m → (q : Seen) → Within f l q → Under f m q
under_more f l m le q h = let less : mount_of q ≤ l = h.1 in (h.0, omega (arith, le, less))

module _ (f : Facts) (view : IsGoodView f) where
  lower_below : (m l : ℕ) (k : Option MountKind) → kind_in f m ≡ k → lower_mount k ≡ Some l → l < m
  lower_below m l k is e = lower_less m (f.mount m) l (view.sound.smaller m) (ap lower_mount is ∙ e)

  pub over_nests : (p : Seen) → IsUncut f p → IsOver f p → Nests f p
  over_nests (Mem m i) cut over = tt
  over_nests (Null m p) cut over = (lower_below m (mount_of p) (kind_in f m) refl over.0, over_nests p cut.1 over.1)
  over_nests (UnionUp m i) cut over = cut
  over_nests (UnionLow m u n p) cut over = (lower_below m (mount_of p) (kind_in f m) refl over.0, over_nests p cut.1 over.1)

  -- so does the lower layer of a union, and the layer of a null mount
  pub lower_nests : (m s top : ℕ) (lower : Seen) → kind_in f m ≡ Some (kind.Union s top lower) → is_cut f m ≡ false → Under f m lower
  lower_nests m s top lower is cut =
      let h : IsGood f lower = (good_layers f view m (kind.Union s top lower) is cut).1 in
      (over_nests lower h.uncut h.over, lower_below m (mount_of lower) (Some (kind.Union s top lower)) is refl)

  pub layer_nests : (m : ℕ) (layer : Seen) → kind_in f m ≡ Some (kind.Null layer) → is_cut f m ≡ false → Under f m layer
  layer_nests m layer is cut =
      let h : IsGood f layer = good_layers f view m (kind.Null layer) is cut in
      (over_nests layer h.uncut h.over, lower_below m (mount_of layer) (Some (kind.Null layer)) is refl)

-- ---- lookups through some mounts, by what a union has of an entry and of its lower part

abbrev pub Unions : Type 0
Unions = ℕ → ℕ → List ℕ → Option NameEntry → (List ℕ → Child) → Child

pub record IsLooking (f : Facts) (look : ℕ → Lookup) (union : Unions) : Type 0 where
  pub none : (d : Seen) (n : List ℕ) → look 0 d n ≡ child.Absent
  pub mem : (k m i : ℕ) (n : List ℕ) → look (suc k) (Mem m i) n ≡ child_mem m (f.entry m i n)
  pub null : (k m : ℕ) (p : Seen) (n : List ℕ) → look (suc k) (Null m p) n ≡ child_null m (look k p n)
  pub up : (k m u : ℕ) (n : List ℕ) → look (suc k) (UnionUp m u) n ≡ union m u n (upper_entry f (kind_in f m) u n) (child_below (look k) (low_by f (look k) u (kind_in f m)))
  pub low : (k m u : ℕ) (a : List ℕ) (p : Seen) (n : List ℕ) → look (suc k) (UnionLow m u a p) n ≡ child.Absent
  -- no more of the lower part is asked than what it has at the name
  pub alike : (m u : ℕ) (n : List ℕ) (e : Option NameEntry) (over under : List ℕ → Child) → over n ≡ under n → union m u n e over ≡ union m u n e under
  pub nests : (m u : ℕ) (n : List ℕ) → is_cut f m ≡ false → (e : Option NameEntry) (below : List ℕ → Child) → Stands (Under f m) (below n) → Stands (Within f m) (union m u n e below)

module _ (f : Facts) (view : IsGoodView f) (look : ℕ → Lookup) (union : Unions) (looking : IsLooking f look union) where
  -- ---- what is found nests

  nests-mem : (m : ℕ) (e : Option NameEntry) → Stands (Within f m) (child_mem m e)
  nests-mem m (Some (Ino j)) = (tt, omega arith)
  nests-mem m (Some White) = tt
  nests-mem m None = tt

  nests-null : (m l : ℕ) → l < m → (c : Child) → Stands (Within f l) c → Stands (Within f m) (child_null m c)
  nests-null m l less (child.At q) h = let le : mount_of q ≤ l = h.1 in ((omega (arith, le, less), h.0), omega arith)
  nests-null m l less child.Absent h = tt
  nests-null m l less (child.Need x) h = tt

  abbrev NestsAt : Lookup → Type 0
  NestsAt a = (d : Seen) (n : List ℕ) → Nests f d → Stands (Within f (mount_of d)) (a d n)

  closed_in : (a : Lookup) → NestsAt a → (l : ℕ) (d : Seen) (n : List ℕ) → Within f l d → Stands (Within f l) (a d n)
  closed_in a h l d n is = stands_more (Within f (mount_of d)) (Within f l) (within_more f (mount_of d) l is.1) (a d n) (h d n is.0)

  -- what the lower part has, by either of two lookups
  module _ (a b : Lookup) (l : ℕ) (agree : (d : Seen) (n : List ℕ) → Within f l d → b d n ≡ a d n) (nests : NestsAt a) (s top : ℕ) (lower : Seen) (inside : Within f l lower) where
    lower_same : (u : ℕ)
        → (low_by f b u (Some (kind.Union s top lower)) ≡ low_by f a u (Some (kind.Union s top lower))) × Stands (Within f l) (low_by f a u (Some (kind.Union s top lower)))
    lower_same u = alike_lower f f s Always (Within f l) (λ u h. refl) (λ u h e. refl) (λ u h e. tt) (λ q h. refl) a b agree (closed_in a nests l) top lower inside u refl (λ e. tt)

    below_same : (u : ℕ) (n : List ℕ)
        → (child_below b (low_by f b u (Some (kind.Union s top lower))) n ≡ child_below a (low_by f a u (Some (kind.Union s top lower))) n)
        × Stands (Within f l) (child_below a (low_by f a u (Some (kind.Union s top lower))) n)
    below_same u n =
        alike_below f f s Always (Within f l) (λ u h. refl) (λ u h e. refl) (λ u h e. tt) (λ q h. refl) a b agree (closed_in a nests l)
        (low_by f b u (Some (kind.Union s top lower))) (low_by f a u (Some (kind.Union s top lower))) (lower_same u) n

  pub nests-lower : (a : Lookup) → NestsAt a → (m u : ℕ) → is_cut f m ≡ false → (k : Option MountKind) → kind_in f m ≡ k → Stands (Under f m) (low_by f a u k)
  nests-lower a h m u cut (Some (kind.Union s top lower)) is =
      let l = lower_nests f view m s top lower is cut in
      stands_more (Within f (mount_of lower)) (Under f m) (under_more f (mount_of lower) m l.1) (low_by f a u (Some (kind.Union s top lower)))
      (lower_same a a (mount_of lower) (λ d n _. refl) h s top lower (l.0, omega arith) u).1
  nests-lower a h m u cut (Some kind.Mem) is = tt
  nests-lower a h m u cut (Some (kind.Null layer)) is = tt
  nests-lower a h m u cut None is = tt

  pub nests-below : (a : Lookup) → NestsAt a → (m u : ℕ) (n : List ℕ) → is_cut f m ≡ false → (k : Option MountKind) → kind_in f m ≡ k → Stands (Under f m) (child_below a (low_by f a u k) n)
  nests-below a h m u n cut (Some (kind.Union s top lower)) is =
      let l = lower_nests f view m s top lower is cut in
      stands_more (Within f (mount_of lower)) (Under f m) (under_more f (mount_of lower) m l.1) (child_below a (low_by f a u (Some (kind.Union s top lower))) n)
      (below_same a a (mount_of lower) (λ d n _. refl) h s top lower (l.0, omega arith) u n).1
  nests-below a h m u n cut (Some kind.Mem) is = tt
  nests-below a h m u n cut (Some (kind.Null layer)) is = tt
  nests-below a h m u n cut None is = tt

  pub nests-within : (k : ℕ) → NestsAt (look k)
  nests-within zero d n h = subst (Stands (Within f (mount_of d))) (sym (looking.none d n)) tt
  nests-within (suc k) (Mem m i) n h = subst (Stands (Within f m)) (sym (looking.mem k m i n)) (nests-mem m (f.entry m i n))
  nests-within (suc k) (Null m p) n h = subst (Stands (Within f m)) (sym (looking.null k m p n)) (nests-null m (mount_of p) h.0 (look k p n) (nests-within k p n h.1))
  nests-within (suc k) (UnionUp m u) n h =
      subst (Stands (Within f m)) (sym (looking.up k m u n))
      (looking.nests m u n h (upper_entry f (kind_in f m) u n) (child_below (look k) (low_by f (look k) u (kind_in f m))) (nests-below (look k) (nests-within k) m u n h (kind_in f m) refl))
  nests-within (suc k) (UnionLow m u a p) n h = subst (Stands (Within f m)) (sym (looking.low k m u a p n)) tt

  -- ---- through more mounts or fewer

  abbrev pub SameAt : ℕ → ℕ → Type 0
  SameAt k j = (d : Seen) (n : List ℕ) → Nests f d → mount_of d < k → mount_of d < j → look k d n ≡ look j d n

  below_both : (k j l : ℕ) → SameAt k j → l < k → l < j → (d : Seen) (n : List ℕ) → Within f l d → look k d n ≡ look j d n
  below_both k j l same x y d n h = let le : mount_of d ≤ l = h.1 in same d n h.0 (omega (arith, le, x)) (omega (arith, le, y))

  same-below : (k j : ℕ) → SameAt k j → (m u : ℕ) (n : List ℕ) → is_cut f m ≡ false → m < suc k → m < suc j → (o : Option MountKind) → kind_in f m ≡ o
      → child_below (look k) (low_by f (look k) u o) n ≡ child_below (look j) (low_by f (look j) u o) n
  same-below k j same m u n cut x y (Some (kind.Union s top lower)) is =
      let l = lower_nests f view m s top lower is cut in
      let less : mount_of lower < m = l.1 in
      (below_same (look j) (look k) (mount_of lower) (below_both k j (mount_of lower) same (omega (arith, less, x)) (omega (arith, less, y))) (nests-within j) s top lower (l.0, omega arith) u n).0
  same-below k j same m u n cut x y (Some kind.Mem) is = refl
  same-below k j same m u n cut x y (Some (kind.Null layer)) is = refl
  same-below k j same m u n cut x y None is = refl

  pub same-within : (k j : ℕ) → SameAt k j
  same-within zero j d n h x y = absurd (omega (arith, x))
  same-within (suc k) zero d n h x y = absurd (omega (arith, y))
  same-within (suc k) (suc j) (Mem m i) n h x y = looking.mem k m i n ∙ sym (looking.mem j m i n)
  same-within (suc k) (suc j) (Null m p) n h x y =
      let less : mount_of p < m = h.0 in
      looking.null k m p n ∙ ap (child_null m) (same-within k j p n h.1 (omega (arith, less, x)) (omega (arith, less, y))) ∙ sym (looking.null j m p n)
  same-within (suc k) (suc j) (UnionUp m u) n h x y =
      looking.up k m u n
      ∙ looking.alike m u n (upper_entry f (kind_in f m) u n) (child_below (look k) (low_by f (look k) u (kind_in f m))) (child_below (look j) (low_by f (look j) u (kind_in f m)))
      (same-below k j (same-within k j) m u n h x y (kind_in f m) refl)
      ∙ sym (looking.up j m u n)
  same-within (suc k) (suc j) (UnionLow m u a p) n h x y = looking.low k m u a p n ∙ sym (looking.low j m u a p n)

-- ---- what is shown

module _ (f : Facts) where
  nests-shown_low : (m u : ℕ) (n : List ℕ) (c : Child) → Stands (Under f m) c → Stands (Within f m) (shown_low f m u n c)
  nests-shown_low m u n (child.At q) h =
      let less : mount_of q < m = h.1 in
      stands_if (Within f m) (is_dir f q) (child.At q) (child.At (UnionLow m u n q)) (h.0, omega (arith, less)) ((less, h.0), omega arith)
  nests-shown_low m u n child.Absent h = tt
  nests-shown_low m u n (child.Need x) h = tt

  nests-shown : (m u : ℕ) (n : List ℕ) → is_cut f m ≡ false → (e : Option NameEntry) (below : List ℕ → Child) → Stands (Under f m) (below n) → Stands (Within f m) (shown_union f m u n e below)
  nests-shown m u n cut (Some (Ino i)) below h = (cut, omega arith)
  nests-shown m u n cut (Some White) below h = tt
  nests-shown m u n cut None below h = nests-shown_low m u n (below n) h

  alike-shown : (m u : ℕ) (n : List ℕ) (e : Option NameEntry) (over under : List ℕ → Child) → over n ≡ under n → shown_union f m u n e over ≡ shown_union f m u n e under
  alike-shown m u n (Some (Ino i)) over under h = refl
  alike-shown m u n (Some White) over under h = refl
  alike-shown m u n None over under h = ap (shown_low f m u n) h

  pub shown_looking : IsLooking f (λ k. shown_within k f) (shown_union f)
  shown_looking = record {
    none = λ d n. refl;
    mem = λ k m i n. refl;
    null = λ k m p n. refl;
    up = λ k m u n. refl;
    low = λ k m u a p n. refl;
    alike = alike-shown;
    nests = nests-shown;
  }

  -- ---- what is there

  nests-child_low : (m u : ℕ) (n : List ℕ) (c : Child) → Stands (Under f m) c → Stands (Within f m) (child_low f m u n c)
  nests-child_low m u n (child.At q) h =
      stands_if (Within f m) (is_dir f q) (child.Need (record { mount = m; dir = u; name = n })) (child.At (UnionLow m u n q)) tt ((h.1, h.0), omega arith)
  nests-child_low m u n child.Absent h = tt
  nests-child_low m u n (child.Need x) h = tt

  nests-child : (m u : ℕ) (n : List ℕ) → is_cut f m ≡ false → (e : Option NameEntry) (below : List ℕ → Child) → Stands (Under f m) (below n) → Stands (Within f m) (child_union f m u n e below)
  nests-child m u n cut (Some (Ino i)) below h = (cut, omega arith)
  nests-child m u n cut (Some White) below h = tt
  nests-child m u n cut None below h = nests-child_low m u n (below n) h

  alike-child : (m u : ℕ) (n : List ℕ) (e : Option NameEntry) (over under : List ℕ → Child) → over n ≡ under n → child_union f m u n e over ≡ child_union f m u n e under
  alike-child m u n (Some (Ino i)) over under h = refl
  alike-child m u n (Some White) over under h = refl
  alike-child m u n None over under h = ap (child_low f m u n) h

  pub child_looking : IsLooking f (λ k. child_within k f) (child_union f)
  child_looking = record {
    none = λ d n. refl;
    mem = λ k m i n. refl;
    null = λ k m p n. refl;
    up = λ k m u n. refl;
    low = λ k m u a p n. refl;
    alike = alike-child;
    nests = nests-child;
  }

module _ (f : Facts) (view : IsGoodView f) where
  -- what is shown at a place of a mount with a smaller number
  pub shown_from : (k : ℕ) (d : Seen) (n : List ℕ) → Nests f d → mount_of d < k → shown_within k f d n ≡ shown_child f d n
  shown_from k d n h x = same-within f view (λ k. shown_within k f) (shown_union f) (shown_looking f) k (suc (mount_of d)) d n h x (omega arith)

  pub shown_nests : (k : ℕ) (d : Seen) (n : List ℕ) → Nests f d → Stands (Within f (mount_of d)) (shown_within k f d n)
  shown_nests k d n h = nests-within f view (λ k. shown_within k f) (shown_union f) (shown_looking f) k d n h

  -- and what is there
  pub child_from : (k : ℕ) (d : Seen) (n : List ℕ) → Nests f d → mount_of d < k → child_within k f d n ≡ child_of f d n
  child_from k d n h x = same-within f view (λ k. child_within k f) (child_union f) (child_looking f) k (suc (mount_of d)) d n h x (omega arith)

  pub child_nests : (k : ℕ) (d : Seen) (n : List ℕ) → Nests f d → Stands (Within f (mount_of d)) (child_within k f d n)
  child_nests k d n h = nests-within f view (λ k. child_within k f) (child_union f) (child_looking f) k d n h
