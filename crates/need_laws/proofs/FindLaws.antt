-- What paths find is in mounts that aren't cut.
use Rattle.std.proofs.Common.{◌≡◌, ℕ, zero, suc, Bool, true, false, ◌||◌, ◌==◌, List, refl, subst, eqb-true}
use Rattle.std.specs.Prelude.{Option, Some, None, IfSome}
use Rattle.std.specs.List.{list_any}
use Rattle.std.specs.FinMap.{get}
use Rattle.vfs_tree.specs.Facts.{Facts}
use Rattle.vfs_tree.specs.Layers.{is_cut, cut_by}
use Rattle.vfs_tree.specs.Mounts.{layers_at, stands_within, stands_on, is_of}
use Rattle.vfs_tree.specs.Place.{Seen, mount_of}
use Rattle.vfs_tree.specs.Sound.{IsSound, IsSoundDir, EachLayer, EachPlace}
use Rattle.vfs_tree.specs.Views.{facts_of}
use Rattle.vfs_tree.specs.declared.mount.Mount.{Mount}
use Rattle.vfs_tree.specs.declared.mount.MountKind.{MountKind}
use Rattle.vfs_tree.specs.declared.mount.MountKind.TheVariants as kind
use Rattle.vfs_tree.specs.declared.walk.Found.TheVariants as found
use Rattle.vfs_tree.specs.declared.world.World.{World}
use Rattle.call_model.specs.Rows.{Way, found_at}
use Rattle.call_laws.specs.Lasting.{IsUncut, IsLasting}
use Rattle.call_laws.proofs.FoundLaws.{IsGood, head_uncut}
use Rattle.call_laws.proofs.NamedLaws.{no_way}
use Rattle.call_laws.proofs.PlaceLaws.{well_at, good_child_at}
use Rattle.call_laws.proofs.SoundParts.{each_layer}
use Rattle.call_laws.proofs.WalkLaws.{IsTarget, IsEnd, FoundWell}
use Rattle.need_laws.specs.Finding.{IsWellPlaced}

pub split : {C : Type 0} (a b : Bool) → (a ≡ true → C) → (b ≡ true → C) → (a || b) ≡ true → C
split true b f g e = f refl
split false b f g e = g e

-- one of the mounts in which layers lie
pub one_layer : {C : Type 0} (Q : ℕ → Type 0) (test : ℕ → Bool) → ((l : ℕ) → Q l → test l ≡ true → C) → (o : Option Mount) → IfSome o (λ t. EachLayer (λ p. Q (mount_of p)) t.kind) → list_any test (layers_at o) ≡ true → C
one_layer {C = C} Q test give (Some t) each h = by t.kind each h
  where
    by : (k : MountKind) → EachLayer (λ p. Q (mount_of p)) k → list_any test (layers_at (Some (record t { kind = k }))) ≡ true → C
    by kind.Mem x h = no_way h
    by (kind.Null layer) x h = split (test (mount_of layer)) false (give (mount_of layer) x) (λ e. no_way e) h
    by (kind.Union s u lower) x h =
        split (test s) (test (mount_of lower) || false) (give s x.0) (λ e. split (test (mount_of lower)) false (give (mount_of lower) x.1) (λ e. no_way e) e) h
one_layer {C = C} Q test give None each h = no_way h

-- ---- what a mount that isn't cut stands on

module _ (w : World) (lasts : IsLasting w) where
  abbrev f : Facts
  f = facts_of w

  layers_uncut : (o : Option Mount) → IfSome o (λ t. t.cut ≡ false → EachPlace (IsUncut f) t) → cut_by o ≡ false → IfSome o (λ t. EachLayer (λ p. is_cut f (mount_of p) ≡ false) t.kind)
  layers_uncut (Some t) x cut = each_layer (IsUncut f) (λ p. is_cut f (mount_of p) ≡ false) (head_uncut f) t.kind (x cut).1
  layers_uncut None x cut = tt

  uncut_below : (k a n : ℕ) → is_cut f a ≡ false → stands_within k w.mounts a n ≡ true → is_cut f n ≡ false
  uncut_below zero a n cut e = no_way e
  uncut_below (suc k) a n cut e =
      one_layer (λ l. is_cut f l ≡ false) (λ l. (l == n) || stands_within k w.mounts l n)
      (λ l uncut is. split (l == n) (stands_within k w.mounts l n) (λ same. subst (λ x. is_cut f x ≡ false) (eqb-true l n same) uncut) (uncut_below k l n uncut) is)
      (get w.mounts a) (layers_uncut (get w.mounts a) (lasts.uncut a) cut) e

  pub uncut_of : (a n : ℕ) → is_cut f a ≡ false → is_of w.mounts n a ≡ true → is_cut f n ≡ false
  uncut_of a n cut = split (a == n) (stands_on w.mounts a n) (λ same. subst (λ x. is_cut f x ≡ false) (eqb-true a n same) cut) (uncut_below (suc a) a n cut)

-- ---- what is found

well_placed : (w : World) (p : Seen) → IsLasting w → IsGood (facts_of w) p → IsWellPlaced w p
well_placed w p lasts good = record {
  sound = good.sound;
  uncut = good.uncut;
  over = good.over;
  below = λ n. uncut_of w lasts (mount_of p) n (head_uncut (facts_of w) p good.uncut);
}

end_at : (w : World) (c : ℕ) (way : Option Way) (p : Seen) → IsSound w → IsLasting w → found_at w c way ≡ found.At p → IsEnd (facts_of w) p
end_at w c way p sound lasts is = subst (FoundWell (facts_of w)) is (well_at w sound lasts c way)

target_at : (w : World) (c : ℕ) (way : Option Way) (d : Seen) (n : List ℕ) (o : Option Seen) → IsSound w → IsLasting w → found_at w c way ≡ found.In d n o → IsTarget (facts_of w) d n o
target_at w c way d n o sound lasts is = subst (FoundWell (facts_of w)) is (well_at w sound lasts c way)

pub place_found : (w : World) (c : ℕ) (way : Option Way) (p : Seen) → IsSound w → IsLasting w → found_at w c way ≡ found.At p → IsWellPlaced w p
place_found w c way p sound lasts is = well_placed w p lasts (end_at w c way p sound lasts is).good

pub bare_found : (w : World) (c : ℕ) (way : Option Way) (p : Seen) → IsSound w → IsLasting w → found_at w c way ≡ found.At p → (facts_of w).covering p ≡ None
bare_found w c way p sound lasts is = (end_at w c way p sound lasts is).bare

pub parent_found : (w : World) (c : ℕ) (way : Option Way) (d : Seen) (n : List ℕ) (o : Option Seen) → IsSound w → IsLasting w → found_at w c way ≡ found.In d n o → IsWellPlaced w d
parent_found w c way d n o sound lasts is = well_placed w d lasts (target_at w c way d n o sound lasts is).good

pub dir_found : (w : World) (c : ℕ) (way : Option Way) (d : Seen) (n : List ℕ) (o : Option Seen) → IsSound w → IsLasting w → found_at w c way ≡ found.In d n o → IsSoundDir (facts_of w) d
dir_found w c way d n o sound lasts is = let t = target_at w c way d n o sound lasts is in record { place = t.good.sound; dir = t.dir }

pub child_found : (w : World) (c : ℕ) (way : Option Way) (d p : Seen) (n : List ℕ) → IsSound w → IsLasting w → found_at w c way ≡ found.In d n (Some p) → IsWellPlaced w p
child_found w c way d p n sound lasts is = well_placed w p lasts (good_child_at w sound lasts d p n (target_at w c way d n (Some p) sound lasts is))
