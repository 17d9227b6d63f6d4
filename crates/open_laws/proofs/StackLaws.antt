-- What a place stands on: it is less deep, and rests on the same node or is a directory.
use Rattle.std.proofs.Common.{◌≡◌, ℕ, zero, suc, ◌+◌, ◌<◌, ◌⊎◌, inl, inr, Bool, true, false, cond, ◌||◌, ◌==◌, List, refl, ap, sym, ◌∙◌, subst, arith, eq-eqb}
use Rattle.std.specs.Prelude.{Option, Some, None, IfSome, is_some, option_map}
use Rattle.std.specs.FinMap.{get, empty}
use Rattle.vfs_tree.specs.Child.{child_within, child_below, only_dir, below_named, low_case, low_within, low_by, low, steps}
use Rattle.vfs_tree.specs.Facts.{Facts}
use Rattle.vfs_tree.specs.Layers.{kind_in, store_by, base, is_dir, is_linked, is_opaque, is_dir_kind, parent_ino, depth, depth_within}
use Rattle.vfs_tree.specs.Mounts.{stands_on, is_of}
use Rattle.vfs_tree.specs.Place.{Seen, Mem, Null, UnionUp, UnionLow, mount_of}
use Rattle.vfs_tree.specs.Sound.{is_mem, is_null, is_union, names_mounts, EachLayer, EachPlace, IsBelow, IsSoundPlace}
use Rattle.vfs_tree.specs.Views.{facts_of}
use Rattle.vfs_tree.specs.declared.mount.Mount.{Mount}
use Rattle.vfs_tree.specs.declared.mount.MountKind.{MountKind}
use Rattle.vfs_tree.specs.declared.mount.MountKind.TheVariants as kind
use Rattle.vfs_tree.specs.declared.walk.Child.{Child}
use Rattle.vfs_tree.specs.declared.walk.Child.TheVariants as child
use Rattle.vfs_tree.specs.declared.walk.NodeId.{NodeId}
use Rattle.vfs_tree.specs.declared.world.World.{World}
use Rattle.call_model.specs.Effects.{each}
use Rattle.call_laws.specs.Lasting.{lower_mount, IsOver}
use Rattle.call_laws.proofs.DetachLaws.{IsLayer, is_layer, upper_layer, of_layer, stands_below}
use Rattle.call_laws.proofs.FoundLaws.{IsGood, IsGoodView, GoodChild, good-child, good_layers}
use Rattle.call_laws.proofs.NamedLaws.{no_way}
use Rattle.call_laws.proofs.PlaceLaws.{good_view}
use Rattle.call_laws.proofs.SoundParts.{Stays, stays_place, number_or, kind_or, second_of, or_first}
use Rattle.call_laws.proofs.Whole.{IsWhole}
use Rattle.call_laws.proofs.WholeLaws.{over_stays}
use Rattle.model_laws.proofs.FuelLaws.{depth_mem, depth_null, depth_union}
use Rattle.layer_laws.proofs.LowerLaws.{Stands, stands_if}
use Rattle.layer_laws.proofs.NestLaws.{child_from}
use Rattle.layer_laws.proofs.PartLaws.{good_nests}
use Rattle.open_laws.specs.Stacks.{StandsRightOn, StandsOn, Right, Further}
use Rattle.open_laws.specs.Standing.{IsLayerDir, IsStanding}
use Rattle.open_laws.proofs.FreedLaws.{freed, v, same_kinds, uncut_under, freed_whole}
use Rattle.open_laws.proofs.SameLaws.{same_dir, same_low}

-- ---- the lower part of a union's directory, in a union that isn't cut

module _ (f : Facts) (view : IsGoodView f) (m : ℕ) (lower : Seen) (good : IsGood f lower) (dir : is_dir f lower ≡ true) (less : mount_of lower < m) where
  -- in the mount of the lower layer
  abbrev Near : Seen → Type 0
  Near d = IsGood f d × (mount_of d ≡ mount_of lower)

  abbrev pub Part : Seen → Type 0
  Part d = Near d × (is_dir f d ≡ true)

  near_child : (l : ℕ) (c : Child) → l ≡ mount_of lower → GoodChild f view l c → Stands Near c
  near_child l (child.At d) same h = (h.0, h.1 ∙ same)
  near_child l child.Absent same h = tt
  near_child l (child.Need x) same h = tt

  near_look : (d : Seen) (n : List ℕ) → Near d → Stands Near (child_within m f d n)
  near_look d n h =
      subst (Stands Near) (sym (child_from f view m d n (good_nests f view d h.0) (subst (λ x. x < m) (sym h.1) less))) (near_child (mount_of d) _ h.1 (good-child f view d n h.0))

  near_below : (c : Child) → Stands Part c → (n : List ℕ) → Stands Near (child_below (child_within m f) c n)
  near_below (child.At d) h n = near_look d n h.0
  near_below child.Absent h n = tt
  near_below (child.Need x) h n = tt

  near_named : (c : Child) → Stands Part c → (o : Option (List ℕ)) → Stands Near (below_named (child_within m f) c o)
  near_named c h (Some n) = near_below c h n
  near_named c h None = tt

  part_dir : (c : Child) → Stands Near c → Stands Part (only_dir f c)
  part_dir (child.At d) h = by (is_dir f d) refl
    where
      by : (b : Bool) → is_dir f d ≡ b → Stands Part (cond b (child.At d) child.Absent)
      by true e = (h, e)
      by false e = tt
  part_dir child.Absent h = tt
  part_dir (child.Need x) h = tt

  module _ (s top : ℕ) where
    part_case : (up : ℕ → Child) → ((u : ℕ) → Stands Part (up u)) → (u : ℕ) (here ends : Bool) → Stands Part (low_case f (child_within m f) s lower up u here ends)
    part_case up h u true ends = ((good, refl), dir)
    part_case up h u false true = tt
    part_case up h u false false =
        let p = parent_ino f s u in part_dir (below_named (child_within m f) (up p) (f.name_of s u)) (near_named (up p) (h p) (f.name_of s u))

    part_within : (k u : ℕ) → Stands Part (low_within k f (child_within m f) s top lower u)
    part_within zero u = tt
    part_within (suc k) u = part_case (low_within k f (child_within m f) s top lower) (part_within k) u (u == top) (is_opaque f s u || (u == 1))

    pub low_part : kind_in f m ≡ Some (kind.Union s top lower) → (u : ℕ) → Stands Part (low f m u)
    low_part is u =
        subst (λ (o : Option MountKind). Stands Part (low_by f (child_within m f) u o)) (sym is)
        (stands_if Part (is_linked f s u) (low_within steps f (child_within m f) s top lower u) child.Absent (part_within steps u) tt)

-- ---- one step down

mem_kind : (k : Option MountKind) → is_mem k ≡ true → k ≡ Some kind.Mem
mem_kind (Some kind.Mem) h = refl
mem_kind (Some (kind.Null layer)) h = no_way h
mem_kind (Some (kind.Union s u lower)) h = no_way h
mem_kind None h = no_way h

at_place : (P : Seen → Type 0) (c : Child) (p : Seen) → c ≡ child.At p → Stands P c → P p
at_place P c p is h = of (subst (Stands P) is h)
  where
    of : Stands P (child.At p) → P p
    of x = x

-- a sound place, seen over the mounts of the lower layers
abbrev pub Fits : Facts → Seen → Type 0
Fits f p = IsSoundPlace f p × IsOver f p

module _ (w : World) (h : IsWhole w) where
  abbrev f : Facts
  f = facts_of w

  -- one place under another
  pub record IsUnder (q p : Seen) : Type 0 where
    pub fits : Fits f p
    pub stands : IsStanding w (mount_of p)
    pub less : depth f p < depth f q
    pub of : (n : ℕ) → is_of w.mounts n (mount_of p) ≡ true → is_of w.mounts n (mount_of q) ≡ true
    pub rests : (base f p ≡ base f q) ⊎ (is_dir f p ≡ true)

  smaller_layers : (m : ℕ) (k : MountKind) (o : Option Mount) → IfSome o (EachPlace (IsBelow m)) → option_map (λ (t : Mount). t.kind) o ≡ Some k → EachLayer (IsBelow m) k
  smaller_layers m k (Some t) x is = subst (EachLayer (IsBelow m)) (ap kind_or is) x.1
  smaller_layers m k None x is = absurd (let clash : None ≡ Some k = is in cc)

  same_depth : (p q : Seen) → mount_of p ≡ mount_of q → depth f p ≡ depth f q
  same_depth p q same = ap (λ m. depth_within (suc m) f m) same

  over_depth : (q l : Seen) (k : Option MountKind) → kind_in f (mount_of q) ≡ k → lower_mount k ≡ Some (mount_of l) → depth f l < depth f q
  over_depth q l (Some kind.Mem) is e = absurd (let clash : None ≡ Some (mount_of l) = e in cc)
  over_depth q l (Some (kind.Null layer)) is e =
      let more : depth f q ≡ 1 + depth f layer = depth_null w q layer h.sound is in
      let same : depth f layer ≡ depth f l = same_depth layer l (ap number_or e) in
      omega (arith, more, same)
  over_depth q l (Some (kind.Union s u lower)) is e =
      let more : depth f q ≡ 1 + depth f lower = depth_union w q lower s u h.sound is in
      let same : depth f lower ≡ depth f l = same_depth lower l (ap number_or e) in
      omega (arith, more, same)
  over_depth q l None is e = absurd (let clash : None ≡ Some (mount_of l) = e in cc)

  module _ (a l : ℕ) (layer : IsLayer (get w.mounts a) l) (less : l < a) where
    lifted : (n : ℕ) → is_of w.mounts n l ≡ true → is_of w.mounts n a ≡ true
    lifted n is = of_layer w.mounts n a l layer less is

    lowered : IsStanding w a → IsStanding w l
    lowered stands n is = stands n (lifted n is)

  -- what is seen in the lower layer
  over_under : (q l : Seen) → lower_mount (kind_in f (mount_of q)) ≡ Some (mount_of l) → IsStanding w (mount_of q) → Fits f l → (base f l ≡ base f q) ⊎ (is_dir f l ≡ true) → IsUnder q l
  over_under q l over stands fits rests =
      let layer : IsLayer (get w.mounts (mount_of q)) (mount_of l) = is_layer (get w.mounts (mount_of q)) (kind_in f (mount_of q)) (mount_of l) refl over in
      let below : mount_of l < mount_of q = stands_below w h (mount_of q) (mount_of l) over in
      record {
        fits = fits;
        stands = lowered (mount_of q) (mount_of l) layer below stands;
        less = over_depth q l (kind_in f (mount_of q)) refl over;
        of = lifted (mount_of q) (mount_of l) layer below;
        rests = rests;
      }

  itself : (m : ℕ) → is_of w.mounts m m ≡ true
  itself m = or_first (m == m) (stands_on w.mounts m m) (eq-eqb m m refl)

  module _ (m i s top : ℕ) (lower : Seen) (is : kind_in f m ≡ Some (kind.Union s top lower)) (stands : IsStanding w m) (fits : Fits f (UnionUp m i)) where
    layers : EachLayer (IsLayerDir f) (kind.Union s top lower)
    layers = subst (λ o. IfSome o (EachLayer (IsLayerDir f))) is (stands m (itself m))

    store_mem : kind_in f s ≡ Some kind.Mem
    store_mem = mem_kind (kind_in f s) layers.0.0.place.mounts

    below : s < m
    below = let x : EachLayer (IsBelow m) (kind.Union s top lower) = smaller_layers m (kind.Union s top lower) (get w.mounts m) (h.sound.view.smaller m) is in x.0

    node_under : IsUnder (UnionUp m i) (Mem s i)
    node_under =
        let layer : IsLayer (get w.mounts m) s = upper_layer (get w.mounts m) s top lower is in
        let none : depth f (Mem s i) ≡ 0 = depth_mem w (Mem s i) store_mem in
        let more : depth f (UnionUp m i) ≡ 1 + depth f lower = depth_union w (UnionUp m i) lower s top h.sound is in
        record {
          fits = (record { mounts = ap is_mem store_mem; base = sym (ap (λ o. is_some (f.kind (store_by o) i)) is) ∙ fits.0.base; files = tt }, tt);
          stands = lowered m s layer below stands;
          less = omega (arith, none, more);
          of = lifted m s layer below;
          rests = inl (sym (ap base_at is));
        }
      where
        base_at : Option MountKind → NodeId
        base_at o = record { store = store_by o; ino = i }

    -- ---- the lower part, in the world in which the mount isn't cut

    abbrev new : World
    new = v w h m stands

    abbrev g : Facts
    g = facts_of new

    same : (n : ℕ) → kind_in g n ≡ kind_in f n
    same = same_kinds w h m stands

    whole : IsWhole new
    whole = freed_whole w h m stands

    view : IsGoodView g
    view = good_view new whole.sound whole.lasts

    back : Stays g f
    back = record { kinds = λ n k e. sym (same n) ∙ e; nodes = λ s i k e. e }

    near : mount_of lower < m
    near = stands_below w h m (mount_of lower) (ap lower_mount is)

    dirs : (p : Seen) → is_dir g p ≡ is_dir f p
    dirs p = same_dir w (each (freed w h m stands) w.mounts) empty same p

    lower_good : IsGood g lower
    lower_good = (good_layers g view m (kind.Union s top lower) (same m ∙ is) (uncut_under w h m stands m (itself m))).1

    lower_dir : is_dir g lower ≡ true
    lower_dir = dirs lower ∙ layers.1.0.dir

    lower_part : Stands (Part g view m lower lower_good lower_dir near) (low g m i)
    lower_part = low_part g view m lower lower_good lower_dir near s top (same m ∙ is) i

    part_under : (p : Seen) → low f m i ≡ child.At p → IsUnder (UnionUp m i) p
    part_under p at =
        let part : Part g view m lower lower_good lower_dir near p =
        at_place (Part g view m lower lower_good lower_dir near) (low g m i) p (same_low w (each (freed w h m stands) w.mounts) empty same m i ∙ at) lower_part in
        over_under (UnionUp m i) p (ap lower_mount is ∙ ap Some (sym part.0.1)) stands (stays_place g f back p part.0.0.sound, over_stays g f back.kinds p part.0.0.over) (inr (sym (dirs p) ∙ part.1))

  union_under : (m i : ℕ) (p : Seen) (k : Option MountKind) → kind_in f m ≡ k → is_union k ≡ true → StandsRightOn f (UnionUp m i) p → Fits f (UnionUp m i) → IsStanding w m → IsUnder (UnionUp m i) p
  union_under m i p (Some (kind.Union s top lower)) is union (inl x) fits stands =
      subst (IsUnder (UnionUp m i)) (sym (ap (λ (o : Option MountKind). Mem (store_by o) i) is) ∙ x) (node_under m i s top lower is stands fits)
  union_under m i p (Some (kind.Union s top lower)) is union (inr x) fits stands = part_under m i s top lower is stands fits p x
  union_under m i p (Some kind.Mem) is union x fits stands = no_way union
  union_under m i p (Some (kind.Null layer)) is union x fits stands = no_way union
  union_under m i p None is union x fits stands = no_way union

  one_under : (q p : Seen) → StandsRightOn f q p → Fits f q → IsStanding w (mount_of q) → IsUnder q p
  one_under (Mem m i) p x fits stands = absurd x
  one_under (Null m l) p x fits stands =
      subst (IsUnder (Null m l)) x
      (over_under (Null m l) l fits.1.0 stands (record { mounts = second_of (is_null (kind_in f m)) (names_mounts f l) fits.0.mounts; base = fits.0.base; files = fits.0.files }, fits.1.1) (inl refl))
  one_under (UnionUp m i) p x fits stands = union_under m i p (kind_in f m) refl fits.0.mounts x fits stands
  one_under (UnionLow m u n l) p x fits stands =
      subst (IsUnder (UnionLow m u n l)) x
      (over_under (UnionLow m u n l) l fits.1.0 stands (record { mounts = second_of (is_union (kind_in f m)) (names_mounts f l) fits.0.mounts; base = fits.0.base; files = fits.0.files.1 }, fits.1.1) (inl refl))

  -- ---- all steps

  dir_at : (p q : Seen) → base f p ≡ base f q → is_dir f q ≡ true → is_dir f p ≡ true
  dir_at p q same dir = ap (λ (b : NodeId). is_dir_kind (f.kind b.store b.ino)) same ∙ dir

  rests_on : (q r p : Seen) → (base f r ≡ base f q) ⊎ (is_dir f r ≡ true) → (base f p ≡ base f r) ⊎ (is_dir f p ≡ true) → (base f p ≡ base f q) ⊎ (is_dir f p ≡ true)
  rests_on q r p x (inr dir) = inr dir
  rests_on q r p (inl a) (inl b) = inl (b ∙ a)
  rests_on q r p (inr dir) (inl b) = inr (dir_at p r b dir)

  joined : (q r p : Seen) → IsUnder q r → IsUnder r p → IsUnder q p
  joined q r p x y =
      let a : depth f r < depth f q = x.less in
      let b : depth f p < depth f r = y.less in
      record { fits = y.fits; stands = y.stands; less = omega (arith, a, b); of = λ n is. x.of n (y.of n is); rests = rests_on q r p x.rests y.rests }

  pub under : (q p : Seen) → StandsOn f q p → Fits f q → IsStanding w (mount_of q) → IsUnder q p
  under q p (Right x) fits stands = one_under q p x fits stands
  under q p (Further {r = r} x y) fits stands =
      let first : IsUnder q r = one_under q r x fits stands in joined q r p first (under r p y first.fits first.stands)
