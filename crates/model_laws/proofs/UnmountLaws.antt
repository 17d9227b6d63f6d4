-- What is left when a mount goes.
use Rattle.std.proofs.Common.{◌≡◌, ℕ, Bool, true, false, cond, not, ◌&&◌, ◌||◌, ◌==◌, List, refl, ap, sym, ◌∙◌, subst, nat_cmp, eq-eqb}
use Rattle.std.specs.Prelude.{Option, Some, None, IsSome, IfSome, option_map}
use Rattle.std.specs.List.{list_any}
use Rattle.std.specs.Cmp.{nat_cmp_total}
use Rattle.std.specs.Ordering.{eq_by_cmp}
use Rattle.std.specs.FinMap.{FinMap, get, remove, get-remove}
use Rattle.vfs_tree.specs.Layers.{kind_in, store_by, base}
use Rattle.vfs_tree.specs.Mounts.{is_left, layers, covers_in, is_on_in, has_references, is_covered}
use Rattle.vfs_tree.specs.Nodes.{node_at}
use Rattle.vfs_tree.specs.Place.{Seen, Mem, Null, UnionUp, UnionLow, mount_of}
use Rattle.vfs_tree.specs.Sound.{is_null, is_union, names_mounts, IsSoundPlace, IsSoundDir, EachLayer, EachPlace, IsSound}
use Rattle.vfs_tree.specs.Views.{facts_of}
use Rattle.vfs_tree.specs.declared.mount.Mount.{Mount}
use Rattle.vfs_tree.specs.declared.mount.MountKind.{MountKind}
use Rattle.vfs_tree.specs.declared.mount.MountKind.TheVariants as kind
use Rattle.vfs_tree.specs.declared.open.Cwd.{Cwd}
use Rattle.vfs_tree.specs.declared.open.Open.{Open}
use Rattle.vfs_tree.specs.declared.walk.Found.{Found}
use Rattle.vfs_tree.specs.declared.walk.Found.TheVariants as found
use Rattle.vfs_tree.specs.declared.walk.NodeId.{NodeId}
use Rattle.vfs_tree.specs.declared.world.World.{World}
use Rattle.call_model.specs.Apply.{Finished, apply}
use Rattle.call_model.specs.Checks.{Outcome, is_full, upper_store, mount_at}
use Rattle.call_model.specs.Legal.{after}
use Rattle.call_model.specs.MountRows as rows
use Rattle.call_model.specs.Refs.{first_in}
use Rattle.call_model.specs.Rows.{first_found}
use Rattle.call_model.specs.declared.call.Call.TheVariants as call
use Rattle.call_model.specs.declared.entry.Entry.TheVariants as entry
use Rattle.call_model.specs.declared.entry.Ref.{Ref}
use Rattle.call_model.specs.declared.reply.Reply.{Reply}
use Rattle.call_model.specs.declared.reply.Reply.TheVariants as reply
use Rattle.call_laws.specs.Lasting.{IsLasting}
use Rattle.call_laws.proofs.NamedLaws.{no_way, value_any}
use Rattle.call_laws.proofs.Parts.{Keeps, found_so, refused, needed, weaker, then, unless}
use Rattle.call_laws.proofs.SoundParts.{second_of, both_of, if_each, each_place, or_none, not_so}
use Rattle.call_laws.proofs.SoundRows.{LeavesSo, AnyNeed}
use Rattle.call_laws.proofs.UmountLaws.{free_sound, other_mount, unmounted, names_not, open_apart, cwd_apart}
use Rattle.call_laws.proofs.WorldLaws.{sound_call}
use Rattle.model_laws.specs.Unmounted.{StaysWhole, AllStay, StaysThere, LayersStay, NoneIn}
use Rattle.model_laws.proofs.Leaving.{past, left-so, done-so}

-- ---- an unmount without force

-- mounts alone are others, and each mount that is there was of its kind
record Fewer (old new : World) : Type 0 where
  pub alone : new ≡ record old { mounts = new.mounts }
  pub kinds : (m : ℕ) (k : MountKind) → kind_in (facts_of new) m ≡ Some k → kind_in (facts_of old) m ≡ Some k

kind_before : (mounts : FinMap nat_cmp Mount) (m n : ℕ) (k : MountKind) → option_map (λ (t : Mount). t.kind) (get (remove mounts m) n) ≡ Some k → option_map (λ (t : Mount). t.kind) (get mounts n) ≡ Some k
kind_before mounts m n k h = by (eq_by_cmp nat_cmp n m) (sym (ap (option_map (λ (t : Mount). t.kind)) (get-remove nat_cmp_total mounts m n)) ∙ h)
  where
    by : (b : Bool) → option_map (λ (t : Mount). t.kind) (cond b None (get mounts n)) ≡ Some k → option_map (λ (t : Mount). t.kind) (get mounts n) ≡ Some k
    by true e = absurd (let clash : None ≡ Some k = e in cc)
    by false e = e

fewer_without : (w : World) (m : ℕ) → Fewer w (rows.without_mount w m)
fewer_without w m = record { alone = refl; kinds = kind_before w.mounts m }

fewer_itself : (w : World) → Fewer w w
fewer_itself w = record { alone = refl; kinds = λ m k e. e }

-- a mount that goes is the one that was found, and nothing refers to it
the_mount : (w : World) (a : Found) → Keeps (λ m. a ≡ found.Mount m) AnyNeed (mount_at w a)
the_mount w (found.Mount m) = found_so refl
the_mount w (found.At p) = refused
the_mount w (found.In d n c) = refused
the_mount w (found.Dot d) = refused
the_mount w (found.Refused e) = refused
the_mount w (found.Need x) = unless (is_full w (upper_store w x.mount)) _ (λ _. needed tt)

umounted : (P : World → Type 0) (w : World) (a : Found) → ((m : ℕ) → a ≡ found.Mount m → has_references w m ≡ false → P (rows.without_mount w m)) → Keeps (LeavesSo P) AnyNeed (rows.umount w a)
umounted P w a gone = then (mount_at w a) (the_mount w a) (λ m is. unless (m == 0) _ (λ _. unless (has_references w m) _ (λ free. found_so (gone m is free))))

after_umount : (P : World → Type 0) (w : World) (c : ℕ) (text : List ℕ) (r : Reply) → P w → ((m : ℕ) → first_found w c (call.Umount text) ≡ found.Mount m → has_references w m ≡ false → P (rows.without_mount w m))
    → P (after w (entry.Call c (call.Umount text) r))
after_umount P w c text r here gone = let x = call.Umount text in left-so P w c x r here (umounted P w (first_found w c x) gone)

fewer_after : (w : World) (c : ℕ) (text : List ℕ) (r : Reply) → Fewer w (after w (entry.Call c (call.Umount text) r))
fewer_after w c text r = after_umount (Fewer w) w c text r (fewer_itself w) (λ m _ _. fewer_without w m)

-- mounts alone are changed
pub mounts_alone : (w : World) (c : ℕ) (text : List ℕ) (r : Reply) → let new = after w (entry.Call c (call.Umount text) r) in new ≡ record w { mounts = new.mounts }
mounts_alone w c text r = (fewer_after w c text r).alone

-- the mounts for which the path doesn't stand are as they were
pub others_stay : (w : World) (c n : ℕ) (text : List ℕ) (r : Reply) → (first_found w c (call.Umount text) ≡ found.Mount n → ⊥)
    → get (after w (entry.Call c (call.Umount text) r)).mounts n ≡ get w.mounts n
others_stay w c n text r other =
    after_umount (λ v. get v.mounts n ≡ get w.mounts n) w c text r refl (λ m is _. other_mount w.mounts m n (λ same. other (is ∙ ap found.Mount (sym same))))

-- and those to which something refers
pub referred_stay : (w : World) (c n : ℕ) (text : List ℕ) (r : Reply) → has_references w n ≡ true
    → get (after w (entry.Call c (call.Umount text) r)).mounts n ≡ get w.mounts n
referred_stay w c n text r refers =
    after_umount (λ v. get v.mounts n ≡ get w.mounts n) w c text r refl
    (λ m _ free. other_mount w.mounts m n (λ same. no_way (sym free ∙ ap (has_references w) (sym same) ∙ refers)))

-- each mount that is there was there
pub mount_was : (w : World) (c : ℕ) (text : List ℕ) (r : Reply) (m : ℕ) → IfSome (get (after w (entry.Call c (call.Umount text) r)).mounts m) (λ t. get w.mounts m ≡ Some t)
mount_was w c text r m = after_umount (λ v. IfSome (get v.mounts m) (λ t. get w.mounts m ≡ Some t)) w c text r (itself (get w.mounts m)) (λ n _ _.
    subst (λ o. IfSome o (λ t. get w.mounts m ≡ Some t)) (sym (get-remove nat_cmp_total w.mounts n m)) (by (eq_by_cmp nat_cmp m n)))
  where
    itself : (o : Option Mount) → IfSome o (λ t. o ≡ Some t)
    itself (Some t) = refl
    itself None = tt

    by : (b : Bool) → IfSome (cond b None (get w.mounts m)) (λ t. get w.mounts m ≡ Some t)
    by true = tt
    by false = itself (get w.mounts m)

module _ (w v : World) (fewer : Fewer w v) where
  same_kind : (m : ℕ) (o : Option MountKind) → kind_in (facts_of v) m ≡ o → is_union o ≡ true → kind_in (facts_of w) m ≡ o
  same_kind m (Some k) is h = fewer.kinds m k is
  same_kind m None is h = no_way h

  same_base : (p : Seen) → names_mounts (facts_of v) p ≡ true → base (facts_of v) p ≡ base (facts_of w) p
  same_base (Mem m i) h = refl
  same_base (Null m p) h = same_base p (second_of (is_null (kind_in (facts_of v) m)) (names_mounts (facts_of v) p) h)
  same_base (UnionUp m i) h =
      let at : Option MountKind → NodeId = λ o. record { store = store_by o; ino = i } in ap at (sym (same_kind m (kind_in (facts_of v) m) refl h))
  same_base (UnionLow m u n p) h = same_base p (second_of (is_union (kind_in (facts_of v) m)) (names_mounts (facts_of v) p) h)

  stays : (p : Seen) → IsSoundPlace (facts_of v) p → StaysWhole w v p
  stays p h = record {
    sound = h;
    node = ap (λ (b : NodeId). node_at v b.store b.ino) (same_base p h.mounts)
        ∙ ap (λ (x : World). node_at x (base (facts_of w) p).store (base (facts_of w) p).ino) fewer.alone;
  }

  open_stays : (k : ℕ × ℕ) (o : Option Open) → get w.opens k ≡ o → IfSome o (λ o. o.dead ≡ false → IsSoundPlace (facts_of v) o.place)
      → IfSome o (λ o. o.dead ≡ false → (get v.opens k ≡ Some o) × StaysWhole w v o.place)
  open_stays k (Some o) at s = λ alive. (ap (λ (x : World). get x.opens k) fewer.alone ∙ at, stays o.place (s alive))
  open_stays k None at s = tt

  cwd_stays : (c : ℕ) (o : Option Cwd) → get w.cwds c ≡ o → IfSome o (λ d. d.dead ≡ false → IsSoundPlace (facts_of v) d.place)
      → IfSome o (λ d. d.dead ≡ false → (get v.cwds c ≡ Some d) × StaysWhole w v d.place)
  cwd_stays c (Some d) at s = λ alive. (ap (λ (x : World). get x.cwds c) fewer.alone ∙ at, stays d.place (s alive))
  cwd_stays c None at s = tt

  stay_in : IsSound v → AllStay w v
  stay_in h = record {
    opens = λ k. open_stays k (get w.opens k) refl (subst (λ o. IfSome o (λ o. o.dead ≡ false → IsSoundPlace (facts_of v) o.place)) (ap (λ (x : World). get x.opens k) fewer.alone) (h.opens k));
    cwds = λ c. cwd_stays c (get w.cwds c) refl (subst (λ o. IfSome o (λ d. d.dead ≡ false → IsSoundPlace (facts_of v) d.place)) (ap (λ (x : World). get x.cwds c) fewer.alone) (h.cwds c));
    mounts = λ m. if_each (λ t. t.cut ≡ false → EachPlace (IsSoundDir (facts_of v)) t) (λ t. t.cut ≡ false → EachPlace (StaysWhole w v) t)
        (λ t s uncut. each_place (IsSoundDir (facts_of v)) (StaysWhole w v) (λ p d. stays p d.place) t (s uncut)) (get v.mounts m) (h.view.places m);
  }

-- what is in use stays whole
pub all_stay : (w : World) (c : ℕ) (text : List ℕ) (r : Reply) → IsSound w → IsLasting w → AllStay w (after w (entry.Call c (call.Umount text) r))
all_stay w c text r sound lasts =
    let x = call.Umount text in stay_in w (after w (entry.Call c x r)) (fewer_after w c text r) (sound_call w c x r sound lasts)

-- ---- layers, those of cut mounts too

there_itself : (w : World) (p : Seen) → StaysThere w w p
there_itself w p sound over = record { sound = sound; node = refl }

each_itself : (P : Seen → Type 0) → ((p : Seen) → P p) → (k : MountKind) → EachLayer P k
each_itself P h kind.Mem = tt
each_itself P h (kind.Null layer) = h layer
each_itself P h (kind.Union s u lower) = (h (Mem s u), h lower)

if_all : {A : Type 0} (P : A → Type 0) → ((a : A) → P a) → (o : Option A) → IfSome o P
if_all P h (Some a) = h a
if_all P h None = tt

layers_itself : (w : World) → LayersStay w w
layers_itself w = record {
  layers = λ m. if_all (λ t. EachLayer (StaysThere w w) t.kind) (λ t. each_itself (StaysThere w w) (there_itself w) t.kind) (get w.mounts m);
  covered = λ m. if_all (λ t. is_left w.leaving t.number ≡ false → IfSome t.on (StaysThere w w)) (λ t _. if_all (StaysThere w w) (there_itself w) t.on) (get w.mounts m);
}

-- a mount goes to which nothing refers
module _ (w : World) (m : ℕ) (free : has_references w m ≡ false) where
  abbrev gone : World
  gone = rows.without_mount w m

  -- no mount covers a place of it, or has a layer in it
  apart : (n : ℕ) (t : Mount) → get w.mounts n ≡ Some t → (covers_in w.leaving (λ n. n == m) t ≡ false) × (list_any (λ l. l == m) (layers t.kind) ≡ false)
  apart n t at =
      let test : Mount → Bool = λ t. covers_in w.leaving (λ n. n == m) t || list_any (λ l. l == m) (layers t.kind) in
      or_none (covers_in w.leaving (λ n. n == m) t) (list_any (λ l. l == m) (layers t.kind)) (not_so (test t) (λ is. no_way (sym (unmounted w m free) ∙ value_any nat_cmp test w.mounts n t at is)))

  kind_still : (n : ℕ) → (n ≡ m → ⊥) → kind_in (facts_of gone) n ≡ kind_in (facts_of w) n
  kind_still n ne = ap (option_map (λ (t : Mount). t.kind)) (other_mount w.mounts m n ne)

  stays_there : (p : Seen) → (mount_of p ≡ m → ⊥) → StaysThere w gone p
  stays_there p ne sound over = stays w gone (fewer_without w m) p (free_sound (facts_of w) (facts_of gone) m kind_still (λ s i. refl) p (names_not w m free p over ne) sound)

  layers_there : (k : MountKind) → list_any (λ l. l == m) (layers k) ≡ false → EachLayer (StaysThere w gone) k
  layers_there kind.Mem h = tt
  layers_there (kind.Null layer) h = stays_there layer (λ is. no_way (sym (or_none (mount_of layer == m) false h).0 ∙ eq-eqb (mount_of layer) m is))
  layers_there (kind.Union s u lower) h =
      let both = or_none (s == m) ((mount_of lower == m) || false) h in (
        stays_there (Mem s u) (λ is. no_way (sym both.0 ∙ eq-eqb s m is)),
        stays_there lower (λ is. no_way (sym (or_none (mount_of lower == m) false both.1).0 ∙ eq-eqb (mount_of lower) m is)),
      )

  covered_there : (o : Option Seen) (left : Bool) → (is_on_in (λ n. n == m) o && not left) ≡ false → left ≡ false → IfSome o (StaysThere w gone)
  covered_there (Some p) left h none = stays_there p (λ is. no_way (sym h ∙ both_of (mount_of p == m) (not left) (eq-eqb (mount_of p) m is) (ap not none)))
  covered_there None left h none = tt

  at_mount : (n : ℕ) (P : Option Mount → Type 0) → P None → P (get w.mounts n) → P (get gone.mounts n)
  at_mount n P none there = subst P (sym (get-remove nat_cmp_total w.mounts m n)) (by (eq_by_cmp nat_cmp n m))
    where
      by : (b : Bool) → P (cond b None (get w.mounts n))
      by true = none
      by false = there

  mount_layers : (n : ℕ) (o : Option Mount) → get w.mounts n ≡ o → IfSome o (λ t. EachLayer (StaysThere w gone) t.kind)
  mount_layers n (Some t) at = layers_there t.kind (apart n t at).1
  mount_layers n None at = tt

  mount_covered : (n : ℕ) (o : Option Mount) → get w.mounts n ≡ o → IfSome o (λ t. is_left w.leaving t.number ≡ false → IfSome t.on (StaysThere w gone))
  mount_covered n (Some t) at = covered_there t.on (is_left w.leaving t.number) (apart n t at).0
  mount_covered n None at = tt

  layers_gone : LayersStay w gone
  layers_gone = record {
    layers = λ n. at_mount n (λ o. IfSome o (λ t. EachLayer (StaysThere w gone) t.kind)) tt (mount_layers n (get w.mounts n) refl);
    covered = λ n. at_mount n (λ o. IfSome o (λ t. is_left w.leaving t.number ≡ false → IfSome t.on (StaysThere w gone))) tt (mount_covered n (get w.mounts n) refl);
  }

-- layers that were there are there still, those of cut mounts too
pub layers_stay : (w : World) (c : ℕ) (text : List ℕ) (r : Reply) → LayersStay w (after w (entry.Call c (call.Umount text) r))
layers_stay w c text r = after_umount (LayersStay w) w c text r (layers_itself w) (λ m _ free. layers_gone w m free)

-- ---- a forced unmount

done_next : (w : World) (c m : ℕ) (o : Option Ref) → first_in w m ≡ o → Keeps (LeavesSo (λ v. NoneIn w v m)) AnyNeed (rows.doom_next w c m o)
done_next w c m (Some at) is = needed tt
done_next w c m None is = found_so (record { opens = open_apart w m is; cwds = cwd_apart w m is })

-- the caller is leaving a mount, in which no live reference is left
abbrev DoneBy : World → Option ℕ → World → Type 0
DoneBy w o new = IsSome o × IfSome o (NoneIn w new)

done_by : (w : World) (c : ℕ) (a : Found) (o : Option ℕ) → Keeps (LeavesSo (DoneBy w o)) AnyNeed (rows.umount_by w c a o)
done_by w c a (Some m) = weaken (rows.doom_next w c m (first_in w m)) (done_next w c m (first_in w m) refl)
  where
    weaken : (x : Outcome) → Keeps (LeavesSo (λ v. NoneIn w v m)) AnyNeed x → Keeps (LeavesSo (DoneBy w (Some m))) AnyNeed x
    weaken x h = weaker x (λ _ s. (refl, s)) (λ _ n. n) h
done_by w c a None = past (mount_at w a) (λ m. unless (m == 0) _ (λ _. unless (is_covered w m) _ (λ _. needed tt)))

done : (w new : World) (c : ℕ) (text : List ℕ) → apply w c (call.UmountForce text) ≡ Finished new reply.Done → DoneBy w (get w.leaving c) new
done w new c text is = done-so (DoneBy w (get w.leaving c)) w new c (call.UmountForce text) (done_by w c (first_found w c (call.UmountForce text)) (get w.leaving c)) is

-- its caller is leaving a mount
pub leaver_left : (w new : World) (c : ℕ) (text : List ℕ) → apply w c (call.UmountForce text) ≡ Finished new reply.Done → IsSome (get w.leaving c)
leaver_left w new c text is = (done w new c text is).0

-- in which no live reference is left, nor in those that stood on it
pub none_left : (w new : World) (c m : ℕ) (text : List ℕ) → apply w c (call.UmountForce text) ≡ Finished new reply.Done → get w.leaving c ≡ Some m → NoneIn w new m
none_left w new c m text is leaves = subst (λ o. IfSome o (NoneIn w new)) leaves (done w new c text is).1
