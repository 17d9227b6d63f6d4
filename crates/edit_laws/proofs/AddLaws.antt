-- The edits of new mounts tell what they do to names and mounts.
use Rattle.std.proofs.Common.{◌≡◌, ℕ, ◌<◌, Bool, true, false, cond, not, ◌&&◌, ◌==◌, List, [], ◌∷◌, refl, ap, sym, ◌∙◌, subst, nat_cmp, arith, eqb-true, eq-eqb}
use Rattle.std.specs.Prelude.{Option, Some, None, IfSome, is_some}
use Rattle.std.specs.List.{list_any}
use Rattle.std.specs.Cmp.{nat_cmp_total}
use Rattle.std.specs.FinMap.{get}
use Rattle.std.proofs.lemmas.Map.Lookups.{exact_unsigned}
use Rattle.finite_maps.proofs.EntryLaws.{by_key, get_at-insert}
use Rattle.vfs_tree.specs.Facts.{Facts}
use Rattle.vfs_tree.specs.Layers.{is_dir, same_place, depth, stores}
use Rattle.vfs_tree.specs.Mounts.{is_left, is_on}
use Rattle.vfs_tree.specs.Place.{Seen, Mem, Null, UnionUp, UnionLow}
use Rattle.vfs_tree.specs.Sound.{IsSound, covers_by, is_on_place}
use Rattle.vfs_tree.specs.Views.{facts_of}
use Rattle.vfs_tree.specs.declared.mount.Mount.{Mount}
use Rattle.vfs_tree.specs.declared.mount.MountKind.{MountKind}
use Rattle.vfs_tree.specs.declared.mount.MountKind.TheVariants as kind
use Rattle.vfs_tree.specs.declared.walk.Found.{Found}
use Rattle.vfs_tree.specs.declared.walk.Found.TheVariants as found
use Rattle.vfs_tree.specs.declared.walk.NodeId.{NodeId}
use Rattle.vfs_tree.specs.declared.world.World.{World}
use Rattle.call_model.specs.Apply.{Finished, apply}
use Rattle.call_model.specs.Checks.{is_full, upper_store, place_at, dir_at}
use Rattle.call_model.specs.Legal.{world_after}
use Rattle.call_model.specs.MountRows as rows
use Rattle.call_model.specs.NameEdits.{Edit, add_edit, edited_by, node_id, mount_null_edits, mount_union_edits, with_mount_at}
use Rattle.call_model.specs.Rows.{first_found, second_found, second_way}
use Rattle.call_model.specs.declared.call.Call.{Call}
use Rattle.call_model.specs.declared.call.Call.TheVariants as call
use Rattle.call_model.specs.declared.entry.Entry.TheVariants as entry
use Rattle.call_model.specs.declared.reply.Reply.TheVariants as reply
use Rattle.call_laws.specs.Lasting.{IsLasting}
use Rattle.call_laws.proofs.MountLaws.{no_cover}
use Rattle.call_laws.proofs.NamedLaws.{no_way, any_value}
use Rattle.call_laws.proofs.Parts.{Keeps, found_so, refused, needed, then, unless}
use Rattle.call_laws.proofs.PlaceLaws.{well_at}
use Rattle.call_laws.proofs.RevokeLaws.{same_seen}
use Rattle.call_laws.proofs.SoundParts.{both_of, not_so, number_or}
use Rattle.call_laws.proofs.SoundRows.{LeavesSo, AnyNeed}
use Rattle.call_laws.proofs.WalkLaws.{FoundWell, IsEnd}
use Rattle.call_laws.proofs.Whole.{IsWhole}
use Rattle.call_laws.proofs.WorldLaws.{whole-call}
use Rattle.model_laws.proofs.AlikeLaws.{same_view}
use Rattle.model_laws.proofs.Leaving.{past, done-so}
use Rattle.edit_laws.specs.Telling.{Tells}
use Rattle.edit_laws.proofs.CoverLaws.{AreApart, covering_on, covering_is, by_places}
use Rattle.edit_laws.proofs.FoldLaws.{apart_whole}

-- ---- a new mount

module _ (w : World) (before : IsWhole w) (k : MountKind) (on : Seen) (bare : (facts_of w).covering on ≡ None) (after : AreApart (rows.with_mount w k on)) where
  abbrev next : ℕ
  next = w.next_mount

  abbrev added : Mount
  added = record { number = next; kind = k; on = Some on; cut = false }

  abbrev v : World
  v = rows.with_mount w k on

  on_there : (p : Seen) (n : ℕ) (o : Option Mount) → get w.mounts n ≡ o → covers_by w.leaving p o ≡ true → is_some (get w.mounts n) ≡ true
  on_there p n (Some t) at x = ap is_some at
  on_there p n None at x = no_way x

  -- no mount of the old world has the number
  older : (p : Seen) (n : ℕ) → is_on_place w p n ≡ true → n ≡ next → ⊥
  older p n x is = let less : n < next = before.lasts.counted.mounts n (on_there p n (get w.mounts n) refl x) in absurd (omega (arith, less, is))

  unleft : is_left w.leaving next ≡ false
  unleft = not_so (is_left w.leaving next) (λ left.
      let x = any_value nat_cmp nat_cmp_total (λ k. k == next) w.leaving left in
      let of : (x.value < next) × IfSome (get w.mounts x.value) (λ t. t.cut ≡ true) = subst (λ o. IfSome o (λ m. (m < w.next_mount) × IfSome (get w.mounts m) (λ t. t.cut ≡ true))) x.at (before.lasts.left x.key) in
      let less : x.value < next = of.0 in
      let is : x.value ≡ next = eqb-true x.value next x.passes in
      absurd (omega (arith, less, is)))

  own_mount : get v.mounts next ≡ Some added
  own_mount = get_at-insert nat_cmp_total w.mounts next added

  other_mount : (n : ℕ) → (n ≡ next → ⊥) → get v.mounts n ≡ get w.mounts n
  other_mount n ne = by_key nat_cmp_total exact_unsigned w.mounts next added n (λ o. o ≡ get w.mounts n) (λ is. absurd (ne is)) refl

  own_on : (p : Seen) → is_on_place v p next ≡ (is_on (Some on) p && not (is_left w.leaving next))
  own_on p = ap (covers_by w.leaving p) own_mount

  other_on : (p : Seen) (n : ℕ) → (n ≡ next → ⊥) → is_on_place v p n ≡ is_on_place w p n
  other_on p n ne = ap (covers_by w.leaving p) (other_mount n ne)

  abbrev covers_then : Seen → Bool → Option ℕ
  covers_then p b = cond b (Some next) ((facts_of w).covering p)

  into : (p : Seen) (n : ℕ) (b : Bool) → is_on (Some on) p ≡ b → (e : Bool) → (n == next) ≡ e → is_on_place v p n ≡ true → covers_then p b ≡ Some n
  into p n true is true e x = ap Some (sym (eqb-true n next e))
  into p n false is true e x =
      no_way (sym (ap (λ b. b && not (is_left w.leaving next)) is) ∙ sym (own_on p) ∙ ap (is_on_place v p) (sym (eqb-true n next e)) ∙ x)
  into p n true is false e x =
      let ne = λ (at : n ≡ next). no_way {A = ⊥} (sym e ∙ eq-eqb n next at) in
      absurd (no_cover w p n (ap (facts_of w).covering (sym (same_seen on p is)) ∙ bare) (sym (other_on p n ne) ∙ x))
  into p n false is false e x =
      let ne = λ (at : n ≡ next). no_way {A = ⊥} (sym e ∙ eq-eqb n next at) in
      covering_is w (apart_whole w before) p n (sym (other_on p n ne) ∙ x)

  back : (p : Seen) (n : ℕ) (b : Bool) → is_on (Some on) p ≡ b → covers_then p b ≡ Some n → is_on_place v p n ≡ true
  back p n true is e =
      ap (is_on_place v p) (sym (ap number_or e)) ∙ own_on p ∙ both_of (is_on (Some on) p) (not (is_left w.leaving next)) is (ap not unleft)
  back p n false is e =
      let x = covering_on w (apart_whole w before) p n e in
      other_on p n (older p n x) ∙ x

  covered_then : (p : Seen) → (facts_of v).covering p ≡ covers_then p (is_on (Some on) p)
  covered_then p = by_places v after p (covers_then p (is_on (Some on) p)) (λ n x. into p n (is_on (Some on) p) refl (n == next) refl x) (λ n e. back p n (is_on (Some on) p) refl e)

  mount_then : (n : ℕ) (e : Bool) → (n == next) ≡ e → get v.mounts n ≡ cond e (Some added) (get w.mounts n)
  mount_then n true e = ap (get v.mounts) (eqb-true n next e) ∙ own_mount
  mount_then n false e = other_mount n (λ is. no_way (sym e ∙ eq-eqb n next is))

  -- what walks read then
  pub added_view : facts_of v ≡ with_mount_at added (facts_of w)
  added_view = same_view (facts_of v) (with_mount_at added (facts_of w)) (record {
    entry = λ s d n. refl;
    kind = λ s i. refl;
    dir = λ s i. refl;
    name_of = λ s i. refl;
    target = λ s i. refl;
    covering = covered_then;
    mount = λ n. mount_then n (n == next) refl;
  })

-- ---- the calls

found_place : (w : World) (a : Found) → Keeps (λ p. a ≡ found.At p) AnyNeed (place_at w a)
found_place w (found.At p) = found_so refl
found_place w (found.Need x) = unless (is_full w (upper_store w x.mount)) _ (λ _. needed tt)
found_place w _ = refused

pub found_dir : (w : World) (a : Found) → Keeps (λ p. a ≡ found.At p) AnyNeed (dir_at w a)
found_dir w a = then (place_at w a) (found_place w a) (λ p is. unless (not (is_dir (facts_of w) p)) _ (λ _. found_so is))

pub bare_end : (f : Facts) (a : Found) (p : Seen) → FoundWell f a → a ≡ found.At p → f.covering p ≡ None
bare_end f a p h is = let end : IsEnd f p = subst (FoundWell f) is h in end.bare

-- where the new world is whole, the edits tell what it shows
abbrev pub Adds : World → List Edit → World → Type 0
Adds w es v = IsWhole v → facts_of v ≡ edited_by (facts_of w) es

null_adds : (w : World) (a b : Found) → IsWhole w → FoundWell (facts_of w) b → Keeps (LeavesSo (Adds w (mount_null_edits w a b))) AnyNeed (rows.mount_null w a b)
null_adds w a b h well =
    then (dir_at w a) (found_dir w a) (λ layer from.
    then (dir_at w b) (found_dir w b) (λ on to.
    unless (same_place layer on) _ (λ _.
    unless (depth (facts_of w) layer == rows.most_depth) _ (λ _.
    past (rows.check_mounts w) (λ _. found_so (λ whole.
    added_view w h (kind.Null layer) on (bare_end (facts_of w) b on well to) (apart_whole _ whole)
    ∙ ap (λ x. edited_by (facts_of w) (mount_null_edits w x (found.At on))) (sym from)
    ∙ ap (λ x. edited_by (facts_of w) (mount_null_edits w a x)) (sym to)))))))

upper_node : (w : World) (p : Seen) → Keeps (λ x. node_id w p ≡ x) AnyNeed (rows.upper_of p)
upper_node w (Mem m i) = found_so refl
upper_node w (Null m p) = refused
upper_node w (UnionUp m i) = refused
upper_node w (UnionLow m u n p) = refused

union_adds : (w : World) (a b : Found) → IsWhole w → FoundWell (facts_of w) b → Keeps (LeavesSo (Adds w (mount_union_edits w a b))) AnyNeed (rows.mount_union w a b)
union_adds w a b h well =
    then (dir_at w a) (found_dir w a) (λ up from.
    then (dir_at w b) (found_dir w b) (λ on to.
    then (rows.upper_of up) (upper_node w up) (λ upper is.
    unless (list_any (λ s. s == upper.store) (stores (facts_of w) on)) _ (λ _.
    unless (depth (facts_of w) on == rows.most_depth) _ (λ _.
    past (rows.check_mounts w) (λ _. found_so (λ whole.
    added_view w h (kind.Union upper.store upper.ino on) on (bare_end (facts_of w) b on well to) (apart_whole _ whole)
    ∙ ap (λ (x : NodeId). edited_by (facts_of w) (add_edit w (kind.Union x.store x.ino on) on ∷ [])) (sym is)
    ∙ ap (λ x. edited_by (facts_of w) (mount_union_edits w x (found.At on))) (sym from)
    ∙ ap (λ x. edited_by (facts_of w) (mount_union_edits w a x)) (sym to))))))))

pub added_tells : (w new : World) (c : ℕ) (x : Call) (es : List Edit) → IsWhole w → apply w c x ≡ Finished new reply.Done → Adds w es new → facts_of (world_after w (apply w c x)) ≡ edited_by (facts_of w) es
added_tells w new c x es h is adds =
    ap (λ o. facts_of (world_after w o)) is ∙ adds (subst (λ o. IsWhole (world_after w o)) is (whole-call w c reply.Done h x))

pub null_tells : (w new : World) (c : ℕ) (target text : List ℕ) → IsSound w → IsLasting w → apply w c (call.MountNull target text) ≡ Finished new reply.Done → Tells w (entry.Call c (call.MountNull target text) reply.Done)
null_tells w new c target text sound lasts is =
    let x = call.MountNull target text in
    let a = first_found w c x in
    let b = second_found w c x in
    let h : IsWhole w = record { sound = sound; lasts = lasts } in
    let es = mount_null_edits w a b in
    added_tells w new c x es h is (done-so (Adds w es) w new c x (null_adds w a b h (well_at w sound lasts c (second_way x))) is)

pub union_tells : (w new : World) (c : ℕ) (upper text : List ℕ) → IsSound w → IsLasting w → apply w c (call.MountUnion upper text) ≡ Finished new reply.Done → Tells w (entry.Call c (call.MountUnion upper text) reply.Done)
union_tells w new c upper text sound lasts is =
    let x = call.MountUnion upper text in
    let a = first_found w c x in
    let b = second_found w c x in
    let h : IsWhole w = record { sound = sound; lasts = lasts } in
    let es = mount_union_edits w a b in
    added_tells w new c x es h is (done-so (Adds w es) w new c x (union_adds w a b h (well_at w sound lasts c (second_way x))) is)
