-- The mounts of open files keep standing while mounts come and go.
use Rattle.std.proofs.Common.{◌≡◌, ℕ, zero, suc, ◌<◌, ◌⊎◌, inl, inr, Bool, true, false, cond, ◌||◌, ◌==◌, refl, ap, sym, ◌∙◌, subst, arith, nat_cmp, eqb-true}
use Rattle.std.specs.Prelude.{Option, Some, None, IsSome, IfSome, option_map}
use Rattle.std.specs.Cmp.{nat_cmp_total}
use Rattle.std.specs.Ordering.{eq_by_cmp}
use Rattle.std.specs.FinMap.{get, remove, get-remove}
use Rattle.std.proofs.lemmas.Map.Lookups.{exact_unsigned}
use Rattle.vfs_tree.specs.Facts.{Facts}
use Rattle.vfs_tree.specs.Layers.{kind_in, is_cut, cut_by}
use Rattle.vfs_tree.specs.Mounts.{Leaving, stands_within, stands_on, is_of}
use Rattle.vfs_tree.specs.Place.{Seen, Mem, Null, UnionUp, UnionLow, mount_of}
use Rattle.vfs_tree.specs.Sound.{is_null, is_union, names_mounts, EachLayer, EachPlace, IsBelow, IsSoundDir, IsSoundPlace}
use Rattle.vfs_tree.specs.Views.{facts_of}
use Rattle.vfs_tree.specs.declared.mount.Mount.{Mount}
use Rattle.vfs_tree.specs.declared.mount.MountKind.{MountKind}
use Rattle.vfs_tree.specs.declared.mount.MountKind.TheVariants as kind
use Rattle.vfs_tree.specs.declared.open.Cwd.{Cwd}
use Rattle.vfs_tree.specs.declared.open.Open.{Open}
use Rattle.vfs_tree.specs.declared.world.World.{World}
use Rattle.call_laws.specs.Lasting.{IsOver}
use Rattle.call_laws.proofs.DetachLaws.{IsLayer, null_layer, lower_layer, upper_layer, is_layer}
use Rattle.call_laws.proofs.NamedLaws.{no_way}
use Rattle.call_laws.proofs.PlaceLaws.{below_head}
use Rattle.call_laws.proofs.SoundParts.{Stays, stays_dir, first_of, or_first, mem_there, null_there, union_there, mount_there}
use Rattle.call_laws.proofs.UmountLaws.{NamesNot, free_dir, free_over, and_layers}
use Rattle.call_laws.proofs.WeightLaws.{equal}
use Rattle.call_laws.proofs.Whole.{IsWhole}
use Rattle.call_laws.proofs.WholeLaws.{over_stays}
use Rattle.model_laws.specs.Unmounted.{NoneIn}
use Rattle.need_laws.proofs.FindLaws.{split, one_layer, uncut_of}
use Rattle.open_laws.specs.Standing.{IsLayerDir, IsStanding, AreStanding, AllStand}
use Rattle.open_laws.proofs.FreedLaws.{under}

-- ---- a mount that isn't cut stands

module _ (w : World) (h : IsWhole w) where
  abbrev f : Facts
  f = facts_of w

  layers_stand : (o : Option Mount) → IfSome o (λ t. t.cut ≡ false → EachPlace (IsSoundDir f) t) → IfSome o (λ t. t.cut ≡ false → EachPlace (IsOver f) t) → cut_by o ≡ false
      → IfSome (option_map (λ (t : Mount). t.kind) o) (EachLayer (IsLayerDir f))
  layers_stand (Some t) dir over cut = and_layers (IsSoundDir f) (IsOver f) (IsLayerDir f) (λ p x y. (x, y)) t.kind (dir cut).1 (over cut).1
  layers_stand None dir over cut = tt

  pub uncut_stands : (a : ℕ) → is_cut f a ≡ false → IsStanding w a
  uncut_stands a cut n of = layers_stand (get w.mounts n) (h.sound.view.places n) (h.lasts.overs n) (uncut_of w h.lasts a n cut of)

  -- the mount of a sound place is there
  head_there : (p : Seen) → names_mounts f p ≡ true → IsSome (kind_in f (mount_of p))
  head_there (Mem m i) x = mem_there (kind_in f m) x
  head_there (Null m p) x = null_there (kind_in f m) (first_of (is_null (kind_in f m)) (names_mounts f p) x)
  head_there (UnionUp m i) x = union_there (kind_in f m) x
  head_there (UnionLow m u n p) x = union_there (kind_in f m) (first_of (is_union (kind_in f m)) (names_mounts f p) x)

  place_number : (p : Seen) → IsSoundPlace f p → mount_of p < w.next_mount
  place_number p sound = h.lasts.counted.mounts (mount_of p) (mount_there (get w.mounts (mount_of p)) (head_there p sound.mounts))

  pub open_number : (k : ℕ × ℕ) (o : Open) → get w.opens k ≡ Some o → o.dead ≡ false → mount_of o.place < w.next_mount
  open_number k o at alive = place_number o.place (subst (λ x. IfSome x (λ o. o.dead ≡ false → IsSoundPlace f o.place)) at (h.sound.opens k) alive)

  cwd_number : (c : ℕ) (d : Cwd) → get w.cwds c ≡ Some d → d.dead ≡ false → mount_of d.place < w.next_mount
  cwd_number c d at alive = place_number d.place (subst (λ x. IfSome x (λ d. d.dead ≡ false → IsSoundPlace f d.place)) at (h.sound.cwds c) alive)

-- ---- worlds with other mounts

-- what is there is as it was, or is new
abbrev pub Adds : World → World → Type 0
Adds w v = (m : ℕ) (k : MountKind) → m < w.next_mount → kind_in (facts_of v) m ≡ Some k → kind_in (facts_of w) m ≡ Some k

module _ (w v : World) (hw : IsWhole w) (hv : IsWhole v) (adds : Adds w v) where
  abbrev Old : ℕ → ℕ → Type 0
  Old a l = (l < w.next_mount) × IsLayer (get w.mounts a) l

  old_layers : (a : ℕ) → a < w.next_mount → (o : Option Mount) → get v.mounts a ≡ o → IfSome o (EachPlace (IsBelow a)) → IfSome o (λ t. EachLayer (λ p. Old a (mount_of p)) t.kind)
  old_layers a less (Some t) at below = by t.kind (adds a t.kind less (ap (option_map (λ (t : Mount). t.kind)) at)) below.1
    where
      by : (k : MountKind) → kind_in (facts_of w) a ≡ Some k → EachLayer (IsBelow a) k → EachLayer (λ p. Old a (mount_of p)) k
      by kind.Mem is x = tt
      by (kind.Null layer) is x = let low : mount_of layer < a = below_head a layer x in (omega (arith, low, less), null_layer (get w.mounts a) layer is)
      by (kind.Union s u lower) is x =
          let up : s < a = x.0 in
          let low : mount_of lower < a = below_head a lower x.1 in
          ((omega (arith, up, less), upper_layer (get w.mounts a) s u lower is), (omega (arith, low, less), lower_layer (get w.mounts a) s u lower is))
  old_layers a less None at below = tt

  -- what stands on a mount stood on it
  old_within : (k a n : ℕ) → a < w.next_mount → stands_within k v.mounts a n ≡ true → (n < w.next_mount) × (stands_within k w.mounts a n ≡ true)
  old_within zero a n less e = no_way e
  old_within (suc k) a n less e =
      one_layer (Old a) (λ l. (l == n) || stands_within k v.mounts l n)
      (λ l old is.
      let at : (n < w.next_mount) × (((l == n) || stands_within k w.mounts l n) ≡ true) =
      split (l == n) (stands_within k v.mounts l n) (λ same. (subst (λ x. x < w.next_mount) (eqb-true l n same) old.0, or_first (l == n) (stands_within k w.mounts l n) same))
      (λ further. let x = old_within k l n old.0 further in (x.0, ap (λ b. (l == n) || b) x.1 ∙ or_true (l == n))) is in
      (at.0, old.1 (λ x. (x == n) || stands_within k w.mounts x n) at.1))
      (get v.mounts a) (old_layers a less (get v.mounts a) refl (hv.sound.view.smaller a)) e
    where
      or_true : (b : Bool) → (b || true) ≡ true
      or_true true = refl
      or_true false = refl

  old_of : (a n : ℕ) → a < w.next_mount → is_of v.mounts n a ≡ true → (n < w.next_mount) × (is_of w.mounts n a ≡ true)
  old_of a n less =
      split (a == n) (stands_on v.mounts a n) (λ same. (subst (λ x. x < w.next_mount) (eqb-true a n same) less, or_first (a == n) (stands_on w.mounts a n) same))
      (λ e. let x = old_within (suc a) a n less e in (x.0, or_more (a == n) x.1))
    where
      or_more : (b : Bool) → stands_on w.mounts a n ≡ true → (b || stands_on w.mounts a n) ≡ true
      or_more true e = refl
      or_more false e = e

  -- a mount stands as it did
  pub stands_on_still : (a : ℕ) → a < w.next_mount → ((p : Seen) → is_of w.mounts (mount_of p) a ≡ true → IsLayerDir (facts_of w) p → IsLayerDir (facts_of v) p) → IsStanding w a → IsStanding v a
  stands_on_still a less give stands n of = by (kind_in (facts_of v) n) refl
    where
      there : (n < w.next_mount) × (is_of w.mounts n a ≡ true)
      there = old_of a n less of

      in_layers : (k : MountKind) → kind_in (facts_of w) n ≡ Some k → EachLayer (IsLayerDir (facts_of w)) k → EachLayer (IsLayerDir (facts_of v)) k
      in_layers kind.Mem is x = tt
      in_layers (kind.Null layer) is x = give layer (under w hw.sound a n (mount_of layer) (null_layer (get w.mounts n) layer is) there.1) x
      in_layers (kind.Union s u lower) is x = (
        give (Mem s u) (under w hw.sound a n s (upper_layer (get w.mounts n) s u lower is) there.1) x.0,
        give lower (under w hw.sound a n (mount_of lower) (lower_layer (get w.mounts n) s u lower is) there.1) x.1,
      )

      by : (o : Option MountKind) → kind_in (facts_of v) n ≡ o → IfSome o (EachLayer (IsLayerDir (facts_of v)))
      by (Some k) is = let was = adds n k there.0 is in in_layers k was (subst (λ o. IfSome o (EachLayer (IsLayerDir (facts_of w)))) was (stands n there.1))
      by None is = tt

-- ---- mounts and nodes that are there stay

-- an open file of the old world that isn't dead, in the mount
pub record HasOpen (w : World) (a : ℕ) : Type 0 where
  pub key : ℕ × ℕ
  pub file : Open
  pub at : get w.opens key ≡ Some file
  pub alive : file.dead ≡ false
  pub mount : mount_of file.place ≡ a

-- a current directory
pub record HasCwd (w : World) (a : ℕ) : Type 0 where
  pub caller : ℕ
  pub dir : Cwd
  pub at : get w.cwds caller ≡ Some dir
  pub alive : dir.dead ≡ false
  pub mount : mount_of dir.place ≡ a

-- the mount isn't cut, or something was open in it
abbrev pub IsHeld : World → World → ℕ → Type 0
IsHeld w v a = HasOpen w a ⊎ (is_cut (facts_of v) a ≡ false)

-- what is there stays; what is open lies in a mount in which something was open, or in one that isn't cut; what is a
-- current directory lies in such a mount, or in one in which some current directory was
pub record Grows (w v : World) : Type 0 where
  pub stays : Stays (facts_of w) (facts_of v)
  pub adds : Adds w v
  pub opens : (k : ℕ × ℕ) → IfSome (get v.opens k) (λ o. o.dead ≡ false → IsHeld w v (mount_of o.place))
  pub cwds : (c : ℕ) → IfSome (get v.cwds c) (λ d. d.dead ≡ false → HasCwd w (mount_of d.place) ⊎ IsHeld w v (mount_of d.place))

module _ (w v : World) (hw : IsWhole w) (hv : IsWhole v) (grows : Grows w v) where
  still : (a : ℕ) → a < w.next_mount → IsStanding w a → IsStanding v a
  still a less = stands_on_still w v hw hv grows.adds a less (λ p _ l. (stays_dir (facts_of w) (facts_of v) grows.stays p l.0, over_stays (facts_of w) (facts_of v) grows.stays.kinds p l.1))

  of_open : AreStanding w → (a : ℕ) → HasOpen w a → IsStanding v a
  of_open stands a x =
      still a (subst (λ y. y < w.next_mount) x.mount (open_number w hw x.key x.file x.at x.alive))
      (subst (IsStanding w) x.mount (subst (λ o. IfSome o (λ o. o.dead ≡ false → IsStanding w (mount_of o.place))) x.at (stands x.key) x.alive))

  of_cwd : AllStand w → (a : ℕ) → HasCwd w a → IsStanding v a
  of_cwd stands a x =
      still a (subst (λ y. y < w.next_mount) x.mount (cwd_number w hw x.caller x.dir x.at x.alive))
      (subst (IsStanding w) x.mount (subst (λ o. IfSome o (λ d. d.dead ≡ false → IsStanding w (mount_of d.place))) x.at (stands.cwds x.caller) x.alive))

  of_held : AreStanding w → (a : ℕ) → IsHeld w v a → IsStanding v a
  of_held stands a x = elim x as (λ _. IsStanding v a) [ inl old ↦ of_open stands a old | inr uncut ↦ uncut_stands v hv a uncut ]

  pub grown_stands : AreStanding w → AreStanding v
  grown_stands stands k = by (get v.opens k) (grows.opens k)
    where
      by : (o : Option Open) → IfSome o (λ o. o.dead ≡ false → IsHeld w v (mount_of o.place)) → IfSome o (λ o. o.dead ≡ false → IsStanding v (mount_of o.place))
      by (Some o) x = λ alive. of_held stands (mount_of o.place) (x alive)
      by None x = tt

  pub all_grown : AllStand w → AllStand v
  all_grown stands = record { opens = grown_stands stands.opens; cwds = λ c. by (get v.cwds c) (grows.cwds c) }
    where
      by : (o : Option Cwd) → IfSome o (λ d. d.dead ≡ false → HasCwd w (mount_of d.place) ⊎ IsHeld w v (mount_of d.place)) → IfSome o (λ d. d.dead ≡ false → IsStanding v (mount_of d.place))
      by (Some d) x = λ alive. elim (x alive) as (λ _. IsStanding v (mount_of d.place)) [ inl old ↦ of_cwd stands (mount_of d.place) old | inr held ↦ of_held stands.opens (mount_of d.place) held ]
      by None x = tt

-- ---- a mount goes

module _ (w : World) (m : ℕ) (leaving : Leaving) (hw : IsWhole w) (hv : IsWhole (record w { mounts = remove w.mounts m; leaving = leaving })) where
  abbrev u : World
  u = record w { mounts = remove w.mounts m; leaving = leaving }

  kind_left : (n : ℕ) → kind_in (facts_of u) n ≡ option_map (λ (t : Mount). t.kind) (cond (eq_by_cmp nat_cmp n m) None (get w.mounts n))
  kind_left n = ap (option_map (λ (t : Mount). t.kind)) (get-remove nat_cmp_total w.mounts m n)

  left_adds : Adds w u
  left_adds n k less is = by (eq_by_cmp nat_cmp n m) (sym (kind_left n) ∙ is)
    where
      by : (b : Bool) → option_map (λ (t : Mount). t.kind) (cond b None (get w.mounts n)) ≡ Some k → kind_in (facts_of w) n ≡ Some k
      by true e = absurd (let clash : None ≡ Some k = e in cc)
      by false e = e

  left_same : (n : ℕ) → (n ≡ m → ⊥) → kind_in (facts_of u) n ≡ kind_in (facts_of w) n
  left_same n ne = kind_left n ∙ by (eq_by_cmp nat_cmp n m) refl
    where
      by : (b : Bool) → eq_by_cmp nat_cmp n m ≡ b → option_map (λ (t : Mount). t.kind) (cond b None (get w.mounts n)) ≡ kind_in (facts_of w) n
      by true e = absurd (ne (exact_unsigned n m (equal _ e)))
      by false e = refl

  not_named : (a : ℕ) → is_of w.mounts m a ≡ false → (p : Seen) → IsOver (facts_of w) p → is_of w.mounts (mount_of p) a ≡ true → NamesNot m p
  not_named a free (Mem n i) over of = λ same. no_way (sym free ∙ subst (λ x. is_of w.mounts x a ≡ true) same of)
  not_named a free (Null n p) over of = (
    λ same. no_way (sym free ∙ subst (λ x. is_of w.mounts x a ≡ true) same of),
    not_named a free p over.1 (under w hw.sound a n (mount_of p) (is_layer (get w.mounts n) (kind_in (facts_of w) n) (mount_of p) refl over.0) of),
  )
  not_named a free (UnionUp n i) over of = λ same. no_way (sym free ∙ subst (λ x. is_of w.mounts x a ≡ true) same of)
  not_named a free (UnionLow n b c p) over of = (
    λ same. no_way (sym free ∙ subst (λ x. is_of w.mounts x a ≡ true) same of),
    not_named a free p over.1 (under w hw.sound a n (mount_of p) (is_layer (get w.mounts n) (kind_in (facts_of w) n) (mount_of p) refl over.0) of),
  )

  -- a mount that didn't stand on it
  apart_stands : (a : ℕ) → a < w.next_mount → is_of w.mounts m a ≡ false → IsStanding w a → IsStanding u a
  apart_stands a less none stands =
      stands_on_still w u hw hv left_adds a less
      (λ p of l.
      let not = not_named a none p l.1 of in
      (free_dir (facts_of w) (facts_of u) m left_same (λ s i. refl) p not l.0, free_over (facts_of w) (facts_of u) m left_same (λ s i. refl) p not l.1))
      stands

  pub left_stands : ((k : ℕ × ℕ) (o : Open) → get w.opens k ≡ Some o → o.dead ≡ false → is_of w.mounts m (mount_of o.place) ≡ false) → AreStanding w → AreStanding u
  left_stands none stands k = by (get w.opens k) refl (stands k)
    where
      by : (o : Option Open) → get w.opens k ≡ o → IfSome o (λ o. o.dead ≡ false → IsStanding w (mount_of o.place)) → IfSome o (λ o. o.dead ≡ false → IsStanding u (mount_of o.place))
      by (Some o) at x = λ alive. apart_stands (mount_of o.place) (open_number w hw k o at alive) (none k o at alive) (x alive)
      by None at x = tt

  pub all_left : NoneIn w u m → AllStand w → AllStand u
  all_left none stands = record { opens = left_stands none.opens stands.opens; cwds = λ c. by c (get w.cwds c) refl (stands.cwds c) }
    where
      by : (c : ℕ) (o : Option Cwd) → get w.cwds c ≡ o → IfSome o (λ d. d.dead ≡ false → IsStanding w (mount_of d.place)) → IfSome o (λ d. d.dead ≡ false → IsStanding u (mount_of d.place))
      by c (Some d) at x = λ alive. apart_stands (mount_of d.place) (cwd_number w hw c d at alive) (none.cwds c d at alive) (x alive)
      by c None at x = tt
