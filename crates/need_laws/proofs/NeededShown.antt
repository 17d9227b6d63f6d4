-- What calls need leaves what unions show.
use Rattle.std.proofs.Common.{◌≡◌, ◌==◌, ℕ, true, false, List, [], ◌∷◌, ◌++◌, refl, ap, sym, ◌∙◌, subst}
use Rattle.std.specs.Prelude.{Option, Some, None, IsSome}
use Rattle.std.specs.List.{list_any}
use Rattle.std.specs.FinMap.{get}
use Rattle.vfs_tree.specs.Child.{child_of, child_below, low}
use Rattle.vfs_tree.specs.Edits.{made, new_dir}
use Rattle.vfs_tree.specs.Layers.{kind_in, store_by, is_cut, root_of, stores}
use Rattle.vfs_tree.specs.Place.{Seen}
use Rattle.vfs_tree.specs.Shown.{shown_at, shown}
use Rattle.vfs_tree.specs.Sound.{is_union, IsSound}
use Rattle.vfs_tree.specs.Start.{start_world}
use Rattle.vfs_tree.specs.Views.{facts_of}
use Rattle.vfs_tree.specs.declared.limits.Limits.{Limits}
use Rattle.vfs_tree.specs.declared.mount.MountKind.{MountKind}
use Rattle.vfs_tree.specs.declared.mount.MountKind.TheVariants as kind
use Rattle.vfs_tree.specs.declared.node.Node.{Node}
use Rattle.vfs_tree.specs.declared.node.Node.TheVariants.{File}
use Rattle.vfs_tree.specs.declared.walk.Child.{Child}
use Rattle.vfs_tree.specs.declared.walk.Child.TheVariants as child
use Rattle.vfs_tree.specs.declared.walk.Step.TheVariants.{Wants}
use Rattle.vfs_tree.specs.declared.world.World.{World}
use Rattle.call_model.specs.Checks.{is_full, upper_store, node_of}
use Rattle.call_model.specs.Effects.{copy_of, copied_child, made_above, effect}
use Rattle.call_model.specs.Legal.{Pending, IsLegal, next_call, replay}
use Rattle.call_model.specs.Rows.{row}
use Rattle.call_model.specs.declared.call.Call.{Call}
use Rattle.call_model.specs.declared.entry.Entry.{Entry}
use Rattle.call_model.specs.declared.entry.Entry.TheVariants as entry
use Rattle.call_model.specs.declared.entry.Inner.{Inner}
use Rattle.call_model.specs.declared.entry.Inner.TheVariants.{Shadow, CopyUp}
use Rattle.call_laws.specs.Lasting.{IsLasting}
use Rattle.call_laws.specs.Prefixes.{pending_before}
use Rattle.call_laws.proofs.FoundLaws.{IsGood, good_root}
use Rattle.call_laws.proofs.NamedLaws.{no_way}
use Rattle.call_laws.proofs.PlaceLaws.{good_view}
use Rattle.call_laws.proofs.PrefixLaws.{legal-before, legal-after, replay-joined}
use Rattle.call_laws.proofs.Whole.{IsWhole}
use Rattle.call_laws.proofs.WorldLaws.{IsNext, next_is, sound_from_start, lasting_from_start}
use Rattle.layer_laws.specs.Apart.{IsApart}
use Rattle.layer_laws.proofs.ApartLaws.{apart_from_start}
use Rattle.layer_laws.proofs.AvoidLaws.{Avoids, avoids, edit_hidden}
use Rattle.layer_laws.proofs.TwinLaws.{dir_shown}
use Rattle.layer_laws.proofs.UnionLaws.{shadow_root, copy_root}
use Rattle.need_laws.specs.Lacking.{LacksDir, LacksFile}
use Rattle.need_laws.specs.Showing.{ShowsAsBefore}
use Rattle.need_laws.proofs.NeedRows.{CopyAt, row_need}
use Rattle.need_laws.proofs.ShadowLaws.{ShadowAt, ShowsDir}

-- what a union is made of
record IsUnion (o : Option MountKind) : Type 0 where
  pub store : ℕ
  pub top : ℕ
  pub lower : Seen
  pub is : o ≡ Some (kind.Union store top lower)

union_is : (o : Option MountKind) → is_union o ≡ true → IsUnion o
union_is (Some (kind.Union s top lower)) e = record { store = s; top = top; lower = lower; is = refl }
union_is (Some kind.Mem) e = no_way e
union_is (Some (kind.Null layer)) e = no_way e
union_is None e = no_way e

-- ---- what is lacking

pub lacks_dir : (w : World) (c m u : ℕ) (call : Call) (n : List ℕ) → IsSound w → IsLasting w → row w c call ≡ Wants (Shadow m u n) → LacksDir w m u n
lacks_dir w c m u call n sound lasts needs =
    let x = row_need w (record { sound = sound; lasts = lasts }) c call (Shadow m u n) needs in
    let a : ShadowAt (facts_of w) m u n = x.1 in
    record {
      store = a.store;
      top = a.top;
      lower = a.lower;
      union = a.union;
      free = a.free;
      room = subst (λ r. is_full w r ≡ false) (ap store_by a.union) x.0;
      shows = λ cut. let d : ShowsDir (facts_of w) m u n = a.shows cut in ap (shown_at w) d.at ∙ dir_shown (node_of w d.place) d.dir;
    }

pub lacks_file : (w : World) (c m u : ℕ) (call : Call) (n : List ℕ) → IsSound w → IsLasting w → row w c call ≡ Wants (CopyUp m u n) → LacksFile w m u n
lacks_file w c m u call n sound lasts needs =
    let x = row_need w (record { sound = sound; lasts = lasts }) c call (CopyUp m u n) needs in
    let a : CopyAt (facts_of w) m u n = x.1 in
    let k : IsUnion (kind_in (facts_of w) m) = union_is (kind_in (facts_of w) m) a.union in
    record {
      store = k.store;
      top = k.top;
      lower = k.lower;
      file = a.file;
      union = k.is;
      uncut = a.uncut;
      room = subst (λ r. is_full w r ≡ false) (ap store_by k.is) x.0;
      there = a.there;
    }

-- ---- what is shown

pub needed_shadow : (w : World) (c m u : ℕ) (call : Call) (n : List ℕ) → IsSound w → IsLasting w → IsApart w → row w c call ≡ Wants (Shadow m u n) → is_cut (facts_of w) m ≡ false → ShowsAsBefore w (effect w c (Shadow m u n)) m
needed_shadow w c m u call n sound lasts apart needs cut = λ ns.
    let a = lacks_dir w c m u call n sound lasts needs in shadow_root w c m a.store a.top u a.lower n ns sound lasts apart a.union cut a.free a.room (a.shows cut)

pub needed_copy : (w : World) (c m u : ℕ) (call : Call) (n : List ℕ) → IsSound w → IsLasting w → IsApart w → row w c call ≡ Wants (CopyUp m u n) → ShowsAsBefore w (effect w c (CopyUp m u n)) m
needed_copy w c m u call n sound lasts apart needs = λ ns.
    let a = lacks_file w c m u call n sound lasts needs in copy_root w c m a.store a.top u a.lower a.file n ns sound lasts apart a.union a.uncut a.room a.there

-- ---- other mounts

module _ (w : World) (sound : IsSound w) (lasts : IsLasting w) (m k : ℕ) (there : IsSome (get w.mounts k)) (cut : is_cut (facts_of w) k ≡ false)
    (none : list_any (λ t. t == upper_store w m) (stores (facts_of w) (root_of (facts_of w) k)) ≡ false) where
  h : IsWhole w
  h = record { sound = sound; lasts = lasts }

  hidden : Avoids (facts_of w) (upper_store w m) (root_of (facts_of w) k)
  hidden =
      let r : IsGood (facts_of w) (root_of (facts_of w) k) = good_root (facts_of w) (good_view w sound lasts) k there cut in
      avoids w h (upper_store w m) (root_of (facts_of w) k) r.sound.mounts r.uncut r.over none

  pub made_hidden : (u : ℕ) (n : List ℕ) (node : Node) (ns : List (List ℕ)) → shown (made_above w m u n node) (root_of (facts_of w) k) ns ≡ shown w (root_of (facts_of w) k) ns
  made_hidden u n node ns = edit_hidden w h (upper_store w m) (λ t. made t u n node) (root_of (facts_of w) k) hidden ns

  pub copied_hidden : (u : ℕ) (n : List ℕ) (c : Child) (ns : List (List ℕ)) → shown (copied_child w m u n c) (root_of (facts_of w) k) ns ≡ shown w (root_of (facts_of w) k) ns
  copied_hidden u n (child.At q) ns = made_hidden u n (copy_of (node_of w q)) ns
  copied_hidden u n child.Absent ns = made_hidden u n (File []) ns
  copied_hidden u n (child.Need x) ns = made_hidden u n (File []) ns

pub shadow_others : (w : World) (c m u k : ℕ) (n : List ℕ) → IsSound w → IsLasting w → IsSome (get w.mounts k) → is_cut (facts_of w) k ≡ false
    → list_any (λ t. t == upper_store w m) (stores (facts_of w) (root_of (facts_of w) k)) ≡ false → ShowsAsBefore w (effect w c (Shadow m u n)) k
shadow_others w c m u k n sound lasts there cut none = λ ns. made_hidden w sound lasts m k there cut none u n (new_dir u false) ns

pub copy_others : (w : World) (c m u k : ℕ) (n : List ℕ) → IsSound w → IsLasting w → IsSome (get w.mounts k) → is_cut (facts_of w) k ≡ false
    → list_any (λ t. t == upper_store w m) (stores (facts_of w) (root_of (facts_of w) k)) ≡ false → ShowsAsBefore w (effect w c (CopyUp m u n)) k
copy_others w c m u k n sound lasts there cut none = λ ns. copied_hidden w sound lasts m k there cut none u n (child_below (child_of (facts_of w)) (low (facts_of w) m u) n) ns

-- ---- histories

-- what an inner entry of a history is needed by
module _ (limits : Limits) (p : Pending) (es fs : List Entry) (c : ℕ) (x : Inner) (legal : IsLegal p (start_world limits) (es ++ entry.Inner c x ∷ fs)) where
  abbrev w : World
  w = replay (start_world limits) es

  legal_so : IsLegal (pending_before p (entry.Inner c x ∷ fs)) (start_world limits) es
  legal_so = legal-before p (start_world limits) es (entry.Inner c x ∷ fs) legal

  sound_so : IsSound w
  sound_so = sound_from_start limits (pending_before p (entry.Inner c x ∷ fs)) es legal_so

  lasts_so : IsLasting w
  lasts_so = lasting_from_start limits (pending_before p (entry.Inner c x ∷ fs)) es legal_so

  apart_so : IsApart w
  apart_so = apart_from_start limits (pending_before p (entry.Inner c x ∷ fs)) es legal_so

  next_so : IsNext w c x
  next_so = next_is w c (next_call p c fs) x (legal-after p (start_world limits) es (entry.Inner c x ∷ fs) legal).0

pub history_shadow : (limits : Limits) (p : Pending) (es fs : List Entry) (c m u : ℕ) (n : List ℕ) → IsLegal p (start_world limits) (es ++ entry.Inner c (Shadow m u n) ∷ fs)
    → is_cut (facts_of (replay (start_world limits) es)) m ≡ false
    → ShowsAsBefore (replay (start_world limits) es) (replay (start_world limits) (es ++ entry.Inner c (Shadow m u n) ∷ [])) m
history_shadow limits p es fs c m u n legal cut =
    let x : Inner = Shadow m u n in
    let w : World = replay (start_world limits) es in
    let next = next_so limits p es fs c x legal in
    subst (λ (v : World). ShowsAsBefore w v m) (sym (replay-joined (start_world limits) es (entry.Inner c x ∷ [])))
    (needed_shadow w c m u next.call n (sound_so limits p es fs c x legal) (lasts_so limits p es fs c x legal) (apart_so limits p es fs c x legal) next.needs cut)

pub history_copy : (limits : Limits) (p : Pending) (es fs : List Entry) (c m u : ℕ) (n : List ℕ) → IsLegal p (start_world limits) (es ++ entry.Inner c (CopyUp m u n) ∷ fs)
    → ShowsAsBefore (replay (start_world limits) es) (replay (start_world limits) (es ++ entry.Inner c (CopyUp m u n) ∷ [])) m
history_copy limits p es fs c m u n legal =
    let x : Inner = CopyUp m u n in
    let w : World = replay (start_world limits) es in
    let next = next_so limits p es fs c x legal in
    subst (λ (v : World). ShowsAsBefore w v m) (sym (replay-joined (start_world limits) es (entry.Inner c x ∷ [])))
    (needed_copy w c m u next.call n (sound_so limits p es fs c x legal) (lasts_so limits p es fs c x legal) (apart_so limits p es fs c x legal) next.needs)
