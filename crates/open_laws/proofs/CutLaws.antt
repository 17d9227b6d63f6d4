-- A shadow directory that a call needs in a union that is cut leaves what the union shows.
use Rattle.std.proofs.Common.{◌≡◌, ℕ, Bool, true, false, not, List, refl, ap, sym, ◌∙◌, subst}
use Rattle.std.specs.Prelude.{Option, Some, None}
use Rattle.std.specs.FinMap.{get, empty}
use Rattle.vfs_tree.specs.Edits.{made, with_store, new_dir}
use Rattle.vfs_tree.specs.Facts.{Facts}
use Rattle.vfs_tree.specs.Layers.{kind_in, store_by, root_of, root_by, is_cut, is_dir}
use Rattle.vfs_tree.specs.Mounts.{Mounts, Leaving}
use Rattle.vfs_tree.specs.Place.{Seen, mount_of}
use Rattle.vfs_tree.specs.Shown.{shown_at, shown}
use Rattle.vfs_tree.specs.Sound.{IsSound}
use Rattle.vfs_tree.specs.Views.{facts_of}
use Rattle.vfs_tree.specs.Visible.{Listed, visible}
use Rattle.vfs_tree.specs.declared.mount.MountKind.{MountKind}
use Rattle.vfs_tree.specs.declared.node.Store.{Store}
use Rattle.vfs_tree.specs.declared.open.Open.{Open}
use Rattle.vfs_tree.specs.declared.walk.Step.TheVariants.{Go, Refuse, Wants}
use Rattle.vfs_tree.specs.declared.world.World.{World}
use Rattle.call_model.specs.Checks.{Doing, is_full, upper_store, lifted, node_of}
use Rattle.call_model.specs.DataRows as rows
use Rattle.call_model.specs.Effects.{each, effect}
use Rattle.call_model.specs.Rows.{row}
use Rattle.call_model.specs.declared.call.Call.{Call}
use Rattle.call_model.specs.declared.call.Call.TheVariants as call
use Rattle.call_model.specs.declared.entry.Inner.{Inner}
use Rattle.call_model.specs.declared.entry.Inner.TheVariants.{Shadow, CopyUp, Detach, Doom}
use Rattle.call_model.specs.declared.reply.Reply.{Reply}
use Rattle.call_laws.specs.Lasting.{IsLasting}
use Rattle.call_laws.proofs.ChildInduction.{Anything, Comes, so-visible}
use Rattle.call_laws.proofs.FoundLaws.{IsGood, UncutNeed, dir_ready, good_keeps}
use Rattle.call_laws.proofs.Parts.{Keeps, Any, found_so, refused, needed, then, unless}
use Rattle.call_laws.proofs.PlaceLaws.{good_view}
use Rattle.call_laws.proofs.SoundParts.{is_so}
use Rattle.call_laws.proofs.Whole.{IsWhole}
use Rattle.layer_laws.specs.Apart.{IsApart}
use Rattle.layer_laws.specs.Listings.{IsCutListing}
use Rattle.layer_laws.proofs.TwinLaws.{dir_shown}
use Rattle.layer_laws.proofs.UncutRows.{shadow_uncut}
use Rattle.layer_laws.proofs.UnionLaws.{shadow_root}
use Rattle.need_laws.specs.Showing.{ShowsAsBefore}
use Rattle.need_laws.proofs.NeededShown.{lacks_dir, needed_shadow}
use Rattle.need_laws.proofs.ShadowLaws.{ShowsDir, ShadowAt, ShadowNeed, need-visible}
use Rattle.open_laws.specs.OpenDirs.{IsOpenDir}
use Rattle.open_laws.specs.Standing.{IsStanding, AreStanding}
use Rattle.open_laws.proofs.SameLaws.{other, same_tree, same_visible}
use Rattle.open_laws.proofs.FreedLaws.{freed, v, same_kinds, freed_whole, freed_apart}
use Rattle.open_laws.proofs.OpenLaws.{open_stands, open_dir, open_uncut, open_over}

-- ---- a listing that needs a shadow directory

-- an open directory whose listing needs it
pub record IsListed (w : World) (m u : ℕ) (n : List ℕ) : Type 0 where
  pub file : Open
  pub dir : IsOpenDir w file
  pub needs : visible w file.place ≡ Wants (record { mount = m; dir = u; name = n })

module _ (w : World) (c d : ℕ) where
  abbrev Listing : Inner → Type 0
  Listing (Shadow m u n) = IsListed w m u n
  Listing (CopyUp m u n) = Unit {0}
  Listing (Detach m) = Unit {0}
  Listing (Doom at) = Unit {0}

  opened_so : (o : Option Open) → get w.opens (c, d) ≡ o → Keeps (λ (x : Open). get w.opens (c, d) ≡ Some x) Listing (rows.opened o)
  opened_so (Some o) is = found_so is
  opened_so None is = refused

  lifted_so : (o : Open) → get w.opens (c, d) ≡ Some o → o.dead ≡ false → is_dir (facts_of w) o.place ≡ true → (x : Listed) → visible w o.place ≡ x → Keeps Any Listing (lifted w x)
  lifted_so o at alive dir (Go names) is = found_so tt
  lifted_so o at alive dir (Refuse e) is = refused
  lifted_so o at alive dir (Wants x) is =
      unless (is_full w (upper_store w x.mount)) _ (λ _. needed (record { file = o; dir = record { key = (c, d); at = at; alive = alive; dir = dir }; needs = is }))

  readdir_so : Keeps Any Listing (rows.readdir w c d)
  readdir_so =
      then (rows.descriptor w c d) (opened_so (get w.opens (c, d)) refl) (λ o at.
      unless o.dead _ (λ alive.
      unless (not (is_dir (facts_of w) o.place)) _ (λ dir.
      then (lifted w (visible w o.place)) (lifted_so o at alive (is_so (is_dir (facts_of w) o.place) dir) (visible w o.place) refl) (λ _ _. found_so tt))))

  listed : (m u : ℕ) (n : List ℕ) → row w c (call.Readdir d) ≡ Wants (Shadow m u n) → IsListed w m u n
  listed m u n wants = of (subst (λ (r : Doing (World × Reply)). Keeps Any Listing r) wants readdir_so)
    where
      of : Keeps {A = World × Reply} Any Listing (Wants (Shadow m u n)) → IsListed w m u n
      of x = x.holds

-- ---- in the world in which its mount isn't cut

-- a store is changed, and the mounts are others
edit_other : (w : World) (mounts : Mounts) (leaving : Leaving) (edit : Store → Store) (s : ℕ) (o : Option Store) → with_store edit (other w mounts leaving) s o ≡ other (with_store edit w s o) mounts leaving
edit_other w mounts leaving edit s (Some t) = refl
edit_other w mounts leaving edit s None = refl

edit_kinds : (w : World) (mounts : Mounts) (leaving : Leaving) (edit : Store → Store) (s : ℕ) (o : Option Store)
    → ((m : ℕ) → kind_in (facts_of (other w mounts leaving)) m ≡ kind_in (facts_of w) m)
    → (m : ℕ) → kind_in (facts_of (other (with_store edit w s o) mounts leaving)) m ≡ kind_in (facts_of (with_store edit w s o)) m
edit_kinds w mounts leaving edit s (Some t) same m = same m
edit_kinds w mounts leaving edit s None same m = same m

module _ (w : World) (h : IsWhole w) (apart : IsApart w) (c m u : ℕ) (n : List ℕ) (x : IsListed w m u n) (stands : IsStanding w (mount_of x.file.place)) (room : is_full w (upper_store w m) ≡ false) where
  abbrev a : ℕ
  a = mount_of x.file.place

  abbrev p : Seen
  p = x.file.place

  abbrev f : Facts
  f = facts_of w

  abbrev new : World
  new = v w h a stands

  abbrev g : Facts
  g = facts_of new

  same : (k : ℕ) → kind_in g k ≡ kind_in f k
  same = same_kinds w h a stands

  whole : IsWhole new
  whole = freed_whole w h a stands

  good : IsGood g p
  good =
      let dir = open_dir w h x.file x.dir stands in
      record {
        sound = dir.place;
        uncut = open_uncut w h x.file x.dir stands;
        over = open_over w h x.file x.dir stands;
        ready = dir_ready g p dir.place.files dir.dir;
      }

  needs : visible new p ≡ Wants (record { mount = m; dir = u; name = n })
  needs = same_visible w (each (freed w h a stands) w.mounts) empty same p ∙ x.needs

  asked : ShadowAt g m u n
  asked = of (subst (Comes (ShadowNeed g) Anything) needs (need-visible new (good_view new whole.sound whole.lasts) p))
    where
      of : Comes {A = List (List ℕ)} (ShadowNeed g) Anything (Wants (record { mount = m; dir = u; name = n })) → ShadowAt g m u n
      of y = y

  uncut : is_cut g m ≡ false
  uncut = of (subst (Comes (UncutNeed g) Anything) needs (so-visible new (UncutNeed g) (IsGood g) (good_keeps g (good_view new whole.sound whole.lasts)) p good))
    where
      of : Comes {A = List (List ℕ)} (UncutNeed g) Anything (Wants (record { mount = m; dir = u; name = n })) → is_cut g m ≡ false
      of y = y

  shows : ShowsDir g m u n
  shows = asked.shows uncut

  room_there : is_full new asked.store ≡ false
  room_there = subst (λ s. is_full w s ≡ false) (ap store_by (sym (same m) ∙ asked.union)) room

  freed_shown : (ns : List (List ℕ)) → shown (effect new c (Shadow m u n)) (root_of g m) ns ≡ shown new (root_of g m) ns
  freed_shown ns =
      shadow_root new c m asked.store asked.top u asked.lower n ns whole.sound whole.lasts (freed_apart w h a stands apart) asked.union uncut asked.free room_there
      (ap (shown_at new) shows.at ∙ dir_shown (node_of new shows.place) shows.dir)

  -- ---- and back

  abbrev edit : Store → Store
  edit t = made t u n (new_dir u false)

  abbrev s : ℕ
  s = upper_store w m

  same_effect : effect new c (Shadow m u n) ≡ other (effect w c (Shadow m u n)) (each (freed w h a stands) w.mounts) empty
  same_effect =
      ap (λ (o : Option MountKind). with_store edit new (store_by o) (get w.stores (store_by o))) (same m) ∙ edit_other w (each (freed w h a stands) w.mounts) empty edit s (get w.stores s)

  same_root : root_of g m ≡ root_of f m
  same_root = ap (root_by m) (same m)

  pub listed_shown : ShowsAsBefore w (effect w c (Shadow m u n)) m
  listed_shown = λ ns.
      sym (same_tree (effect w c (Shadow m u n)) (each (freed w h a stands) w.mounts) empty (edit_kinds w (each (freed w h a stands) w.mounts) empty edit s (get w.stores s) same) (root_of f m) ns)
      ∙ sym (ap (λ (z : World). shown z (root_of f m) ns) same_effect)
      ∙ subst (λ r. shown (effect new c (Shadow m u n)) r ns ≡ shown new r ns) same_root (freed_shown ns)
      ∙ same_tree w (each (freed w h a stands) w.mounts) empty same (root_of f m) ns

-- ---- all of it

cut_shown : (w : World) → IsWhole w → IsApart w → AreStanding w → (c m u : ℕ) (x : Call) (n : List ℕ) → row w c x ≡ Wants (Shadow m u n) → is_full w (upper_store w m) ≡ false → IsCutListing w c x
    → ShowsAsBefore w (effect w c (Shadow m u n)) m
cut_shown w h apart stands c m u (call.Readdir d) n wants room cut =
    let y = listed w c d m u n wants in
    listed_shown w h apart c m u n y (open_stands w y.file stands y.dir) room
cut_shown w h apart stands c m u _ n wants room cut = absurd cut

pub needed_shown : (w : World) (c m u : ℕ) (x : Call) (n : List ℕ) → IsSound w → IsLasting w → IsApart w → AreStanding w → row w c x ≡ Wants (Shadow m u n) → ShowsAsBefore w (effect w c (Shadow m u n)) m
needed_shown w c m u x n sound lasts apart stands wants = by (is_cut (facts_of w) m) refl
  where
    h : IsWhole w
    h = record { sound = sound; lasts = lasts }

    full : is_full w (upper_store w m) ≡ false
    full = let l = lacks_dir w c m u x n sound lasts wants in subst (λ k. is_full w k ≡ false) (sym (ap store_by l.union)) l.room

    by : (b : Bool) → is_cut (facts_of w) m ≡ b → ShowsAsBefore w (effect w c (Shadow m u n)) m
    by true cut = cut_shown w h apart stands c m u x n wants full (shadow_uncut w c x m u n sound lasts wants cut)
    by false cut = needed_shadow w c m u x n sound lasts apart wants cut
