-- A world in which a mount, and each that it stands on, isn't cut: it is sound and lasts where the mount stands.
use Rattle.std.proofs.Common.{◌≡◌, ℕ, zero, suc, ◌<◌, Bool, true, false, not, ◌&&◌, ◌||◌, ◌==◌, List, ◌∷◌, refl, ap, sym, ◌∙◌, subst, arith, nat_cmp, eqb-true, eq-eqb}
use Rattle.std.specs.Prelude.{Option, Some, None, IsSome, IfSome, is_some, option_map}
use Rattle.std.specs.List.{list_any}
use Rattle.std.specs.Cmp.{nat_cmp_total}
use Rattle.std.specs.FinMap.{get, empty, get-empty}
use Rattle.vfs_tree.specs.Facts.{Facts}
use Rattle.vfs_tree.specs.Layers.{kind_in, is_cut, cut_by, is_dir, stores_by, stores_within}
use Rattle.vfs_tree.specs.Mounts.{layers_at, stands_within, stands_on, is_of}
use Rattle.vfs_tree.specs.Place.{Seen, Mem, Null, UnionUp, UnionLow, mount_of}
use Rattle.vfs_tree.specs.Sound.{EachLayer, EachPlace, IsBelow, IsSoundPlace, IsSoundDir, IsSound, covers_by, is_on_place}
use Rattle.vfs_tree.specs.Views.{facts_of}
use Rattle.vfs_tree.specs.declared.mount.Mount.{Mount}
use Rattle.vfs_tree.specs.declared.mount.MountKind.{MountKind}
use Rattle.vfs_tree.specs.declared.mount.MountKind.TheVariants as kind
use Rattle.vfs_tree.specs.declared.world.World.{World}
use Rattle.call_model.specs.Effects.{each}
use Rattle.call_laws.specs.Lasting.{IsOver, IsUncut, IsLasting}
use Rattle.call_laws.proofs.DetachLaws.{any_more, IsLayer, null_layer, lower_layer, upper_layer, is_layer}
use Rattle.call_laws.proofs.FlagLaws.{get_each}
use Rattle.call_laws.proofs.NamedLaws.{no_way}
use Rattle.call_laws.proofs.SoundParts.{if_each, if_both, Stays, stays_place, stays_dir, or_first, or_second, is_so, each_layer}
use Rattle.call_laws.proofs.UmountLaws.{and_layers}
use Rattle.call_laws.proofs.Whole.{IsWhole}
use Rattle.call_laws.proofs.WholeLaws.{over_stays, uncut_stays, dir_stays}
use Rattle.fuel_laws.proofs.ListLaws.{stands_more}
use Rattle.layer_laws.specs.Apart.{IsApart}
use Rattle.open_laws.specs.Standing.{IsLayerDir, IsStanding}
use Rattle.open_laws.proofs.SameLaws.{other}

-- ---- standing on

module _ (w : World) (sound : IsSound w) where
  -- what stands on a mount stands on those in which its layers lie
  reach : (k b n l : ℕ) → IsLayer (get w.mounts n) l → stands_within k w.mounts b n ≡ true → stands_within (suc k) w.mounts b l ≡ true
  reach zero b n l layer h = no_way h
  reach (suc k) b n l layer h =
      any_more (λ x. (x == n) || stands_within k w.mounts x n) (λ x. (x == l) || stands_within (suc k) w.mounts x l) (λ x e. or_second (x == l) _ (by x (reach k x n l layer) (x == n) refl e)) (layers_at (get w.mounts b)) h
    where
      by : (x : ℕ) → (stands_within k w.mounts x n ≡ true → stands_within (suc k) w.mounts x l ≡ true) → (c : Bool) → (x == n) ≡ c → (c || stands_within k w.mounts x n) ≡ true → stands_within (suc k) w.mounts x l ≡ true
      by x further true is e =
          subst (λ y. stands_within (suc k) w.mounts y l ≡ true) (sym (eqb-true x n is))
          (layer (λ y. (y == l) || stands_within k w.mounts y l) (or_first (l == l) _ (eq-eqb l l refl)))
      by x further false is e = further e

  pub under : (a n l : ℕ) → IsLayer (get w.mounts n) l → is_of w.mounts n a ≡ true → is_of w.mounts l a ≡ true
  under a n l layer h = or_second (a == l) (stands_on w.mounts a l) (by (a == n) refl h)
    where
      by : (c : Bool) → (a == n) ≡ c → (c || stands_on w.mounts a n) ≡ true → stands_on w.mounts a l ≡ true
      by true is e =
          subst (λ y. stands_on w.mounts y l ≡ true) (sym (eqb-true a n is))
          (layer (λ y. (y == l) || stands_within n w.mounts y l) (or_first (l == l) _ (eq-eqb l l refl)))
      by false is e = sym (stands_more w sound (suc (suc a)) a l (omega arith)) ∙ reach (suc a) a n l layer e

-- ---- the world

module _ (w : World) (h : IsWhole w) (a : ℕ) (stands : IsStanding w a) where
  abbrev pub freed : Mount → Mount
  freed t = record t { on = None; cut = t.cut && not (is_of w.mounts t.number a) }

  abbrev pub v : World
  v = other w (each freed w.mounts) empty

  abbrev f : Facts
  f = facts_of w

  abbrev g : Facts
  g = facts_of v

  at_each : (n : ℕ) → get v.mounts n ≡ option_map freed (get w.mounts n)
  at_each n = get_each nat_cmp_total freed w.mounts n

  freed_kind : (o : Option Mount) → option_map (λ (t : Mount). t.kind) (option_map freed o) ≡ option_map (λ (t : Mount). t.kind) o
  freed_kind (Some t) = refl
  freed_kind None = refl

  pub same_kinds : (n : ℕ) → kind_in g n ≡ kind_in f n
  same_kinds n = ap (option_map (λ (t : Mount). t.kind)) (at_each n) ∙ freed_kind (get w.mounts n)

  pub stays : Stays f g
  stays = record { kinds = λ n k e. same_kinds n ∙ e; nodes = λ s i k e. e }

  -- ---- what isn't cut

  and_first : (b c : Bool) → b ≡ false → (b && c) ≡ false
  and_first false c e = refl
  and_first true c e = no_way (sym e)

  and_not : (b c : Bool) → c ≡ true → (b && not c) ≡ false
  and_not true true e = refl
  and_not false c e = refl
  and_not true false e = no_way e

  still : (n : ℕ) → is_cut f n ≡ false → is_cut g n ≡ false
  still n cut = ap cut_by (at_each n) ∙ by (get w.mounts n) cut
    where
      by : (o : Option Mount) → cut_by o ≡ false → cut_by (option_map freed o) ≡ false
      by (Some t) e = and_first t.cut (not (is_of w.mounts t.number a)) e
      by None e = refl

  pub uncut_under : (n : ℕ) → is_of w.mounts n a ≡ true → is_cut g n ≡ false
  uncut_under n is = ap cut_by (at_each n) ∙ by (get w.mounts n) (h.lasts.mounts n)
    where
      by : (o : Option Mount) → IfSome o (λ t. t.number ≡ n) → cut_by (option_map freed o) ≡ false
      by (Some t) number = and_not t.cut (is_of w.mounts t.number a) (ap (λ x. is_of w.mounts x a) number ∙ is)
      by None number = refl

  pub place_freed : (p : Seen) → IsOver f p → is_of w.mounts (mount_of p) a ≡ true → IsUncut g p
  place_freed (Mem n i) over is = uncut_under n is
  place_freed (Null n p) over is =
      (uncut_under n is, place_freed p over.1 (under w h.sound a n (mount_of p) (is_layer (get w.mounts n) (kind_in f n) (mount_of p) refl over.0) is))
  place_freed (UnionUp n i) over is = uncut_under n is
  place_freed (UnionLow n u b p) over is =
      (uncut_under n is, place_freed p over.1 (under w h.sound a n (mount_of p) (is_layer (get w.mounts n) (kind_in f n) (mount_of p) refl over.0) is))

  -- ---- layers

  abbrev Fit : Seen → Type 0
  Fit p = IsLayerDir g p × IsUncut g p

  layer_stays : (p : Seen) → IsLayerDir f p → IsLayerDir g p
  layer_stays p x = (stays_dir f g stays p x.0, over_stays f g stays.kinds p x.1)

  layers_under : (n : ℕ) (k : MountKind) → kind_in f n ≡ Some k → is_of w.mounts n a ≡ true → EachLayer (IsLayerDir f) k → EachLayer Fit k
  layers_under n kind.Mem is of x = tt
  layers_under n (kind.Null layer) is of x = (layer_stays layer x, place_freed layer x.1 (under w h.sound a n (mount_of layer) (null_layer (get w.mounts n) layer is) of))
  layers_under n (kind.Union s u lower) is of x = (
    (layer_stays (Mem s u) x.0, uncut_under s (under w h.sound a n s (upper_layer (get w.mounts n) s u lower is) of)),
    (layer_stays lower x.1, place_freed lower x.1.1 (under w h.sound a n (mount_of lower) (lower_layer (get w.mounts n) s u lower is) of)),
  )

  layers_fit : (n : ℕ) (o : Option Mount) → get w.mounts n ≡ o → IfSome o (λ t. t.number ≡ n) → IfSome o (λ t. t.cut ≡ false → EachPlace (IsSoundDir f) t)
      → IfSome o (λ t. t.cut ≡ false → EachPlace (IsOver f) t) → IfSome o (λ t. t.cut ≡ false → EachPlace (IsUncut f) t) → IfSome (option_map freed o) (λ t. t.cut ≡ false → EachLayer Fit t.kind)
  layers_fit n (Some t) at number dir over uncut = by t.cut refl
    where
      by : (b : Bool) → t.cut ≡ b → (b && not (is_of w.mounts t.number a)) ≡ false → EachLayer Fit t.kind
      by false is cut =
          and_layers (IsLayerDir f) (IsUncut f) Fit (λ p x y. (layer_stays p x, uncut_stays f g still p y)) t.kind
          (and_layers (IsSoundDir f) (IsOver f) (IsLayerDir f) (λ p x y. (x, y)) t.kind (dir is).1 (over is).1) (uncut is).1
      by true is cut =
          let of : is_of w.mounts n a ≡ true = sym (ap (λ x. is_of w.mounts x a) number) ∙ is_so (is_of w.mounts t.number a) cut in
          let k : kind_in f n ≡ Some t.kind = ap (option_map (λ (t : Mount). t.kind)) at in
          layers_under n t.kind k of (subst (λ o. IfSome o (EachLayer (IsLayerDir f))) k (stands n of))
  layers_fit n None at number dir over uncut = tt

  fit_at : (n : ℕ) → IfSome (get v.mounts n) (λ t. t.cut ≡ false → EachLayer Fit t.kind)
  fit_at n =
      subst (λ o. IfSome o (λ t. t.cut ≡ false → EachLayer Fit t.kind)) (sym (at_each n))
      (layers_fit n (get w.mounts n) refl (h.lasts.mounts n) (h.sound.view.places n) (h.lasts.overs n) (h.lasts.uncut n))

  -- no mount covers a place
  bare_at : (n : ℕ) → IfSome (get v.mounts n) (λ t. t.on ≡ None)
  bare_at n = subst (λ o. IfSome o (λ t. t.on ≡ None)) (sym (at_each n)) (by (get w.mounts n))
    where
      by : (o : Option Mount) → IfSome (option_map freed o) (λ t. t.on ≡ None)
      by (Some t) = refl
      by None = tt

  places_at : (P : Seen → Type 0) → ((p : Seen) → Fit p → P p) → (n : ℕ) → IfSome (get v.mounts n) (λ t. t.cut ≡ false → EachPlace P t)
  places_at P give n =
      if_both (λ t. t.on ≡ None) (λ t. t.cut ≡ false → EachLayer Fit t.kind) (λ t. t.cut ≡ false → EachPlace P t)
      (λ t on x cut. (subst (λ o. IfSome o P) (sym on) tt, each_layer Fit P give t.kind (x cut))) (get v.mounts n) (bare_at n) (fit_at n)

  -- ---- all of it

  uncovered : (p : Seen) (n : ℕ) → is_on_place v p n ≡ false
  uncovered p n = ap (covers_by v.leaving p) (at_each n) ∙ by (get w.mounts n)
    where
      by : (o : Option Mount) → covers_by v.leaving p (option_map freed o) ≡ false
      by (Some t) = refl
      by None = refl

  smaller_at : (n : ℕ) → IfSome (get v.mounts n) (EachPlace (IsBelow n))
  smaller_at n = subst (λ o. IfSome o (EachPlace (IsBelow n))) (sym (at_each n)) (by (get w.mounts n) (h.sound.view.smaller n))
    where
      by : (o : Option Mount) → IfSome o (EachPlace (IsBelow n)) → IfSome (option_map freed o) (EachPlace (IsBelow n))
      by (Some t) x = (tt, x.1)
      by None x = tt

  number_at : (n : ℕ) → IfSome (get v.mounts n) (λ t. t.number ≡ n)
  number_at n = subst (λ o. IfSome o (λ t. t.number ≡ n)) (sym (at_each n)) (by (get w.mounts n) (h.lasts.mounts n))
    where
      by : (o : Option Mount) → IfSome o (λ t. t.number ≡ n) → IfSome (option_map freed o) (λ t. t.number ≡ n)
      by (Some t) x = x
      by None x = tt

  there_at : (n : ℕ) → IsSome (get v.mounts n) → n < w.next_mount
  there_at n x = h.lasts.counted.mounts n (by (get w.mounts n) (ap is_some (sym (at_each n)) ∙ x))
    where
      by : (o : Option Mount) → IsSome (option_map freed o) → IsSome o
      by (Some t) x = refl
      by None x = no_way x

  freed_sound : IsSound v
  freed_sound = record {
    view = record {
      names = h.sound.view.names;
      places = places_at (IsSoundDir g) (λ p x. x.0.0);
      root = same_kinds 0 ∙ h.sound.view.root;
      smaller = smaller_at;
    };
    opens = λ k. if_each (λ o. o.dead ≡ false → IsSoundPlace f o.place) (λ o. o.dead ≡ false → IsSoundPlace g o.place) (λ o x alive. stays_place f g stays o.place (x alive)) (get w.opens k) (h.sound.opens k);
    cwds = λ c. if_each (λ d. d.dead ≡ false → IsSoundPlace f d.place) (λ d. d.dead ≡ false → IsSoundPlace g d.place) (λ d x alive. stays_place f g stays d.place (x alive)) (get w.cwds c) (h.sound.cwds c);
    apart = λ p m n e _. absurd (let clash : false ≡ true = sym (uncovered p m) ∙ e in cc);
  }

  freed_lasting : IsLasting v
  freed_lasting = record {
    numbered = h.lasts.numbered;
    mounts = number_at;
    roots = λ n is. h.lasts.roots n (sym (same_kinds n) ∙ is);
    parents = h.lasts.parents;
    first = still 0 h.lasts.first;
    uncut = places_at (IsUncut g) (λ p x. x.1);
    overs = places_at (IsOver g) (λ p x. x.0.1);
    opens = λ k. if_each (λ o. o.dead ≡ false → IsOver f o.place) (λ o. o.dead ≡ false → IsOver g o.place) (λ o x alive. over_stays f g stays.kinds o.place (x alive)) (get w.opens k) (h.lasts.opens k);
    cwds = λ c. if_both (λ d. d.dead ≡ false → IsSoundPlace f d.place) (λ d. d.dead ≡ false → IsOver f d.place × (is_dir f d.place ≡ true)) (λ d. d.dead ≡ false → IsOver g d.place × (is_dir g d.place ≡ true))
        (λ d p q alive. (over_stays f g stays.kinds d.place (q alive).0, dir_stays f g stays d.place (p alive) (q alive).1)) (get w.cwds c) (h.sound.cwds c) (h.lasts.cwds c);
    left = λ c. subst (λ o. IfSome o (λ m. (m < v.next_mount) × IfSome (get v.mounts m) (λ t. t.cut ≡ true))) (sym (get-empty {X = ℕ} nat_cmp c)) tt;
    counted = record { mounts = there_at; stores = h.lasts.counted.stores; most = h.lasts.counted.most; inodes = h.lasts.counted.inodes };
  }

  pub freed_whole : IsWhole v
  freed_whole = record { sound = freed_sound; lasts = freed_lasting }

  -- ---- layers stay apart

  same_rests : (k m : ℕ) → stores_within k g m ≡ stores_within k f m
  same_rests zero m = refl
  same_rests (suc k) m = ap (stores_by (stores_within k g) m) (same_kinds m) ∙ by (same_rests k) (kind_in f m)
    where
      by : ((l : ℕ) → stores_within k g l ≡ stores_within k f l) → (o : Option MountKind) → stores_by (stores_within k g) m o ≡ stores_by (stores_within k f) m o
      by below (Some kind.Mem) = refl
      by below (Some (kind.Null layer)) = below (mount_of layer)
      by below (Some (kind.Union s u lower)) = ap (λ (x : List ℕ). s ∷ x) (below (mount_of lower))
      by below None = refl

  pub freed_apart : IsApart w → IsApart v
  freed_apart apart m s u lower is =
      ap (list_any (λ t. t == s)) (same_rests (suc (mount_of lower)) (mount_of lower)) ∙ apart m s u lower (sym (same_kinds m) ∙ is)
