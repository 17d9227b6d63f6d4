-- The edits of calls that drop names tell what they do.
use Rattle.std.proofs.Common.{◌≡◌, ℕ, ◌⊎◌, inl, inr, Bool, true, false, cond, not, ◌==◌, List, [], ◌∷◌, refl, ap, sym, ◌∙◌, subst, eqb-true}
use Rattle.std.specs.Prelude.{Option, Some, None, option_and_then}
use Rattle.std.specs.FinMap.{get, insert}
use Rattle.vfs_tree.specs.Carriers.{is_in_union, is_busy}
use Rattle.vfs_tree.specs.Edits.{with_store}
use Rattle.vfs_tree.specs.Layers.{base, is_dir, linked_by}
use Rattle.vfs_tree.specs.Nodes.{is_given, is_white}
use Rattle.vfs_tree.specs.Place.{Seen}
use Rattle.vfs_tree.specs.Sound.{IsSound}
use Rattle.vfs_tree.specs.Steps.{refuse_if}
use Rattle.vfs_tree.specs.StoreEdits.{entry_of, emptied, removed, clear_entry}
use Rattle.vfs_tree.specs.Views.{dir_in, facts_of}
use Rattle.vfs_tree.specs.Visible.{has_visible}
use Rattle.vfs_tree.specs.declared.errno.Errno.{Errno}
use Rattle.vfs_tree.specs.declared.errno.Errno.TheVariants as errno
use Rattle.vfs_tree.specs.declared.node.NameEntry.{NameEntry}
use Rattle.vfs_tree.specs.declared.node.NameEntry.TheVariants.{Ino, White}
use Rattle.vfs_tree.specs.declared.node.Store.{Store}
use Rattle.vfs_tree.specs.declared.walk.Found.{Found}
use Rattle.vfs_tree.specs.declared.walk.Found.TheVariants as found
use Rattle.vfs_tree.specs.declared.walk.Need.{Need}
use Rattle.vfs_tree.specs.declared.walk.NodeId.{NodeId}
use Rattle.vfs_tree.specs.declared.walk.Step.{Step}
use Rattle.vfs_tree.specs.declared.walk.Step.TheVariants.{Go, Refuse, Wants}
use Rattle.vfs_tree.specs.declared.world.World.{World}
use Rattle.call_model.specs.Apply.{Finished, apply}
use Rattle.call_model.specs.Checks.{is_full, upper_store, lifted, target_at, there, edit_at, has_white, drop_at}
use Rattle.call_model.specs.NameEdits.{Edit, SetName, ClearName, ClearDir, edited_by, clear_edits, remove_edits, undelete_edits}
use Rattle.call_model.specs.NameRows as rows
use Rattle.call_model.specs.Rows.{first_found, first_way}
use Rattle.call_model.specs.declared.call.Call.TheVariants as call
use Rattle.call_model.specs.declared.entry.Entry.TheVariants as entry
use Rattle.call_model.specs.declared.reply.Reply.TheVariants as reply
use Rattle.call_laws.specs.Lasting.{IsLasting}
use Rattle.call_laws.proofs.DropLaws.{NoDir, alike_emptied, white_ino}
use Rattle.call_laws.proofs.GivenLaws.{is_low, dir_upper, GivenAt, Gives, given_target, shows_none}
use Rattle.call_laws.proofs.MadeLaws.{linked_dir, no_dir, none_some}
use Rattle.call_laws.proofs.NameLaws.{entry_is, linked_in, view_of, good_in, file_in_store, seen_at}
use Rattle.call_laws.proofs.NamedLaws.{no_way}
use Rattle.call_laws.proofs.Parts.{Keeps, found_so, refused, needed, weaker, then, unless}
use Rattle.call_laws.proofs.PlaceLaws.{well_at}
use Rattle.call_laws.proofs.SoundParts.{is_so}
use Rattle.call_laws.proofs.SoundRows.{LeavesSo, AnyNeed}
use Rattle.call_laws.proofs.WalkLaws.{stands_at, IsTarget, FoundWell}
use Rattle.call_laws.proofs.Whole.{IsWhole}
use Rattle.call_laws.proofs.WholeLaws.{IsWell, well_store}
use Rattle.edit_laws.specs.Telling.{Tells}
use Rattle.edit_laws.proofs.Answering.{found_in, found_there, Shows, told}
use Rattle.edit_laws.proofs.NameViews.{IsOnly, dropped, drop_view, bared_by, empty_view}
use Rattle.edit_laws.proofs.Only.{IsBare, not_root, only_one, only_emptied, bared_file, set_bared}
use Rattle.edit_laws.proofs.StoreViews.{View, view_in, shown_after, bared, IsIn, edited_store}

-- ---- a store

-- what an entry gives has no names that give anything
abbrev pub AreBare : Store → Option NameEntry → Type 0
AreBare t e = (j : ℕ) → e ≡ Some (Ino j) → IsBare t j

pub only_of : (t : Store) (u : ℕ) (n : List ℕ) → IsWell t → linked_by (dir_in t u) ≡ true → AreBare t (entry_of t u n) → IsOnly t u n
only_of t u n well linked bare = only_one t well.names u n (λ j at dir. not_root t well.names u j n linked at (bare j at))

module _ (t : Store) (white : Bool) (u : ℕ) (n : List ℕ) (well : IsWell t) (linked : linked_by (dir_in t u) ≡ true) (bare : AreBare t (entry_of t u n)) where
  abbrev e0 : Option NameEntry
  e0 = entry_of t u n

  removed_half : view_in (removed white t u n) ≡ dropped white u n (bared_by e0 (view_in t))
  removed_half =
      drop_view (emptied t e0) white u n ((alike_emptied t e0).kinds u ∙ linked_dir t u (get t.nodes u) linked) (only_emptied t e0 u n (only_of t u n well linked bare))
      ∙ ap (dropped white u n) (empty_view t e0 bare)

  removed_plain : bared_by e0 (view_in t) ≡ view_in t → view_in (removed white t u n) ≡ dropped white u n (view_in t)
  removed_plain same = removed_half ∙ ap (dropped white u n) same

  apart : (j : ℕ) → e0 ≡ Some (Ino j) → (j == u) ≡ false
  apart j at = by (j == u) refl
    where
      by : (b : Bool) → (j == u) ≡ b → b ≡ false
      by true is = absurd (bare j at j n (ap (λ x. entry_of t x n) (eqb-true j u is) ∙ at))
      by false is = refl

  removed_dir : (j : ℕ) → e0 ≡ Some (Ino j) → view_in (removed white t u n) ≡ bared j (dropped white u n (view_in t))
  removed_dir j at =
      removed_half ∙ ap (λ e. dropped white u n (bared_by e (view_in t))) at ∙ dropped_bared white
    where
      dropped_bared : (b : Bool) → dropped b u n (bared j (view_in t)) ≡ bared j (dropped b u n (view_in t))
      dropped_bared true = set_bared j u n (Some White) (view_in t) (apart j at)
      dropped_bared false = set_bared j u n None (view_in t) (apart j at)

-- ---- what is cleared

-- a directory that stands at a name is cleared
pub record Clears (w : World) (s : ℕ) (e : Option NameEntry) (o : Option Seen) : Type 0 where
  pub ino : ℕ
  pub at : e ≡ Some (Ino ino)
  pub edits : clear_edits w o ≡ ClearDir s ino ∷ []

-- what is none has no names
pub record ClearsNone (w : World) (t : Store) (e : Option NameEntry) (o : Option Seen) : Type 0 where
  pub edits : clear_edits w o ≡ []
  pub same : bared_by e (view_in t) ≡ view_in t

ungiven : (t : Store) (e : Option NameEntry) → is_given e ≡ false → bared_by e (view_in t) ≡ view_in t
ungiven t (Some (Ino j)) h = no_way (sym h)
ungiven t (Some White) h = refl
ungiven t None h = refl

cleared_dir : (w : World) (q : Seen) (b : Bool) → is_dir (facts_of w) q ≡ b → clear_edits w (Some q) ≡ cond b (let a = base (facts_of w) q in ClearDir a.store a.ino ∷ []) []
cleared_dir w q b is = ap (λ x. cond x (let a = base (facts_of w) q in ClearDir a.store a.ino ∷ []) []) is

module _ (w : World) (h : IsWhole w) (d : Seen) (n : List ℕ) where
  abbrev b : NodeId
  b = base (facts_of w) d

  module _ (t : Store) (at : get w.stores b.store ≡ Some t) where
    abbrev e : Option NameEntry
    e = entry_of t b.ino n

    low_dir : (q : Seen) → IsTarget (facts_of w) d n (Some q) → is_low q ≡ true → (x : Bool) → is_dir (facts_of w) q ≡ x → x ≡ false
    low_dir q x low true is = no_way (sym (dir_upper (facts_of w) q (good_in w h d q n x).sound.files is) ∙ low)
    low_dir q x low false is = refl

    place_case : (q : Seen) → IsTarget (facts_of w) d n (Some q) → (l : Bool) → is_low q ≡ l → (x : Bool) → is_dir (facts_of w) q ≡ x → GivenAt (facts_of w) b n (stands_at (Some q)) → Clears w b.store e (Some q) ⊎ ClearsNone w t e (Some q)
    place_case q x true low y is g =
        let file : is_dir (facts_of w) q ≡ false = is ∙ low_dir q x low y is in
        inr (record { edits = cleared_dir w q false file; same = ungiven t e (ap is_given (sym (entry_is w b.store b.ino n t at)) ∙ g.1 low) })
    place_case q x false low true is g =
        let gives : Gives (facts_of w) b n q = g.0 low in
        inl (record {
          ino = (base (facts_of w) q).ino;
          at = sym (entry_is w b.store b.ino n t at) ∙ gives.at;
          edits = cleared_dir w q true is ∙ ap (λ s. ClearDir s (base (facts_of w) q).ino ∷ []) gives.store;
        })
    place_case q x false low false is g =
        let gives : Gives (facts_of w) b n q = g.0 low in
        let own : e ≡ Some (Ino (base (facts_of w) q).ino) = sym (entry_is w b.store b.ino n t at) ∙ gives.at in
        inr (record {
          edits = cleared_dir w q false is;
          same = ap (λ y. bared_by y (view_in t)) own ∙ bared_file t (base (facts_of w) q).ino (file_in_store w q b.store t at gives.store is);
        })

    pub clearing : (o : Option Seen) → IsTarget (facts_of w) d n o → Clears w b.store e o ⊎ ClearsNone w t e o
    clearing (Some q) x = place_case q x (is_low q) refl (is_dir (facts_of w) q) refl (given_target (facts_of w) (view_of w h) d n (Some q) x)
    clearing None x = inr (record { edits = refl; same = ungiven t e (ap is_given (sym (entry_is w b.store b.ino n t at)) ∙ given_target (facts_of w) (view_of w h) d n None x) })

    -- what stands at the name shows nothing
    pub bare_at : (o : Option Seen) → IsTarget (facts_of w) d n o → ((q : Seen) → o ≡ Some q → (is_dir (facts_of w) q ≡ false) ⊎ ((is_dir (facts_of w) q ≡ true) × (has_visible w q ≡ Go false))) → AreBare t e
    bare_at o x fits j own i m f =
        seen_at w h d n o x t at j own ⊥ (λ q is upper ino store.
        elim (fits q is) as (λ _. ⊥) [
          | inl file ↦ none_some (no_dir t j m (get t.nodes j) (subst (NoDir t) ino (file_in_store w q b.store t at store file))) f
          | inr dir ↦ shows_none w (view_of w h) q (good_in w h d q n (subst (IsTarget (facts_of w) d n) is x)) dir.0 dir.1 m i
              (ap (λ s. (facts_of w).entry s (base (facts_of w) q).ino m) store ∙ entry_is w b.store (base (facts_of w) q).ino m t at ∙ ap (λ y. entry_of t y m) ino ∙ f)
        ])

-- ---- a name of a world is dropped

pub drop_in : (white : Bool) (s x u : ℕ) (n : List ℕ) → s ≡ x → IsIn x (cond white (SetName s u n White) (ClearName s u n))
drop_in true s x u n is = is
drop_in false s x u n is = is

pub drop_after : (white : Bool) (s u : ℕ) (n : List ℕ) (v : View) → shown_after v (cond white (SetName s u n White) (ClearName s u n)) ≡ dropped white u n v
drop_after true s u n v = refl
drop_after false s u n v = refl

module _ (w : World) (h : IsWhole w) (d : Seen) (n : List ℕ) (o : Option Seen) (x : IsTarget (facts_of w) d n o)
    (fits : (q : Seen) → o ≡ Some q → (is_dir (facts_of w) q ≡ false) ⊎ ((is_dir (facts_of w) q ≡ true) × (has_visible w q ≡ Go false))) where
  abbrev bd : NodeId
  bd = base (facts_of w) d

  abbrev white : Bool
  white = is_in_union d

  abbrev drop_it : Edit
  drop_it = cond white (SetName bd.store bd.ino n White) (ClearName bd.store bd.ino n)

  in_store : (t : Store) → get w.stores bd.store ≡ Some t → facts_of (record w { stores = insert w.stores bd.store (removed white t bd.ino n) }) ≡ edited_by (facts_of w) (drop_it ∷ clear_edits w o)
  in_store t at =
      let well = well_store w h bd.store t at in
      let linked = linked_in w d n o t x at in
      let bare = bare_at w h d n t at o x fits in
      let new : Store = removed white t bd.ino n in
      let after = drop_after white bd.store bd.ino n (view_in t) in
      elim (clearing w h d n t at o x) as (λ _. facts_of (record w { stores = insert w.stores bd.store new }) ≡ edited_by (facts_of w) (drop_it ∷ clear_edits w o)) [
        | inl c ↦
            edited_store w bd.store t new (drop_it ∷ ClearDir bd.store c.ino ∷ []) at (drop_in white bd.store bd.store bd.ino n refl, (refl, tt))
            (removed_dir t white bd.ino n well linked bare c.ino c.at ∙ sym (ap (bared c.ino) after))
            ∙ ap (λ es. edited_by (facts_of w) (drop_it ∷ es)) (sym c.edits)
        | inr c ↦
            edited_store w bd.store t new (drop_it ∷ []) at (drop_in white bd.store bd.store bd.ino n refl, tt)
            (removed_plain t white bd.ino n well linked bare c.same ∙ sym after)
            ∙ ap (λ es. edited_by (facts_of w) (drop_it ∷ es)) (sym c.edits)
      ]

  by_store : (s : Option Store) → get w.stores bd.store ≡ s → facts_of (with_store (λ t. removed white t bd.ino n) w bd.store s) ≡ edited_by (facts_of w) (drop_it ∷ clear_edits w o)
  by_store (Some t) at = in_store t at
  by_store None at = no_way (sym (ap (λ s. linked_by (option_and_then (λ (t : Store). dir_in t bd.ino) s)) at) ∙ x.linked)

  drop_shows : Shows w (remove_edits w (found.In d n o)) (drop_at w d n)
  drop_shows = by_store (get w.stores bd.store) refl

-- ---- unlink, rmdir and undelete

target_in : (w : World) (a : Found) (d : Seen) (n : List ℕ) (o : Option Seen) → FoundWell (facts_of w) a → a ≡ found.In d n o → IsTarget (facts_of w) d n o
target_in w a d n o well is = subst (FoundWell (facts_of w)) is well

same_some : {A : Type 0} {x y : A} (o : Option A) → o ≡ Some x → o ≡ Some y → Some x ≡ Some y
same_some o p q = sym p ∙ q

abbrev place_or : Seen → Option Seen → Seen
place_or d (Some p) = p
place_or d None = d

pub unlink_shows : (w : World) (a : Found) → IsWhole w → FoundWell (facts_of w) a → Keeps (LeavesSo (Shows w (remove_edits w a))) AnyNeed (rows.unlink w a)
unlink_shows w a h well =
    then (target_at w errno.EPERM a) (found_in w errno.EPERM a) (λ t is.
    then (there t.child) (found_there t.child) (λ p has.
    unless (is_dir (facts_of w) p) _ (λ file.
    found_so (drop_shows w h t.dir t.name t.child (target_in w a t.dir t.name t.child well is) (λ q at. inl (ap (λ o. is_dir (facts_of w) (place_or p o)) (same_some t.child at has) ∙ file))
    ∙ ap (λ x. edited_by (facts_of w) (remove_edits w x)) (sym is)))))

shows_go : (w : World) (l : Step Bool Need) → Keeps (λ b. l ≡ Go b) AnyNeed (lifted w l)
shows_go w (Go b) = found_so refl
shows_go w (Refuse e) = refused
shows_go w (Wants x) = unless (is_full w (upper_store w x.mount)) _ (λ _. needed tt)

check_so : {P : Type 0} (b : Bool) (e : Errno) → (b ≡ false → P) → Keeps (λ _. P) AnyNeed (refuse_if b e)
check_so true e h = refused
check_so false e h = found_so (h refl)

pub empty_so : (w : World) (d : Seen) → Keeps (λ _. has_visible w d ≡ Go false) AnyNeed (rows.check_empty w d)
empty_so w d = then (lifted w (has_visible w d)) (shows_go w (has_visible w d)) (λ shows is. check_so shows errno.ENOTEMPTY (λ e. is ∙ ap Go e))

record IsEmptyDir (w : World) (o : Option Seen) : Type 0 where
  pub place : Seen
  pub at : o ≡ Some place
  pub dir : is_dir (facts_of w) place ≡ true
  pub empty : has_visible w place ≡ Go false

removed_so : (w : World) (o : Option Seen) → Keeps (λ _. IsEmptyDir w o) AnyNeed (rows.check_removed w o)
removed_so w o =
    then (there o) (found_there o) (λ d has.
    unless (not (is_dir (facts_of w) d)) _ (λ dir.
    unless (is_busy w d) _ (λ _.
    weaker (rows.check_empty w d) (λ _ e. record { place = d; at = has; dir = is_so (is_dir (facts_of w) d) dir; empty = e }) (λ x m. m) (empty_so w d))))

empty_at : (w : World) (o : Option Seen) → IsEmptyDir w o → (q : Seen) → o ≡ Some q → (is_dir (facts_of w) q ≡ true) × (has_visible w q ≡ Go false)
empty_at w o x q is = subst (λ p. (is_dir (facts_of w) p ≡ true) × (has_visible w p ≡ Go false)) (ap (place_or q) (same_some o x.at is)) (x.dir, x.empty)

pub rmdir_shows : (w : World) (a : Found) → IsWhole w → FoundWell (facts_of w) a → Keeps (LeavesSo (Shows w (remove_edits w a))) AnyNeed (rows.rmdir w a)
rmdir_shows w a h well =
    then (target_at w errno.EINVAL a) (found_in w errno.EINVAL a) (λ t is.
    then (rows.check_removed w t.child) (removed_so w t.child) (λ _ empty.
    found_so (drop_shows w h t.dir t.name t.child (target_in w a t.dir t.name t.child well is) (λ q at. inr (empty_at w t.child empty q at))
    ∙ ap (λ x. edited_by (facts_of w) (remove_edits w x)) (sym is))))

white_given : (o : Option NameEntry) (i : ℕ) → is_white o ≡ true → o ≡ Some (Ino i) → ⊥
white_given (Some (Ino j)) i h e = no_way h
white_given (Some White) i h e = white_ino e
white_given None i h e = no_way h

module _ (w : World) (d : Seen) (n : List ℕ) (o : Option Seen) (x : IsTarget (facts_of w) d n o) (white : has_white w d n ≡ true) where
  abbrev bw : NodeId
  bw = base (facts_of w) d

  clear_store : (s : Option Store) → get w.stores bw.store ≡ s → facts_of (with_store (λ t. clear_entry t bw.ino n) w bw.store s) ≡ edited_by (facts_of w) (ClearName bw.store bw.ino n ∷ [])
  clear_store (Some t) at =
      let own : is_white (entry_of t bw.ino n) ≡ true = ap is_white (sym (entry_is w bw.store bw.ino n t at)) ∙ white in
      edited_store w bw.store t (clear_entry t bw.ino n) (ClearName bw.store bw.ino n ∷ []) at (refl, tt)
      (drop_view t false bw.ino n (linked_dir t bw.ino (get t.nodes bw.ino) (linked_in w d n o t x at)) (λ j given. absurd (white_given (entry_of t bw.ino n) j own given)))
  clear_store None at = no_way (sym (ap (λ s. linked_by (option_and_then (λ (t : Store). dir_in t bw.ino) s)) at) ∙ x.linked)

  clear_shows : Shows w (undelete_edits w (found.In d n o)) (edit_at w d (λ s dir. clear_entry s dir n))
  clear_shows = clear_store (get w.stores bw.store) refl

pub undelete_shows : (w : World) (a : Found) → IsWhole w → FoundWell (facts_of w) a → Keeps (LeavesSo (Shows w (undelete_edits w a))) AnyNeed (rows.undelete w a)
undelete_shows w a h well =
    then (target_at w errno.EEXIST a) (found_in w errno.EEXIST a) (λ t is.
    unless (not (has_white w t.dir t.name)) _ (λ white.
    found_so (clear_shows w t.dir t.name t.child (target_in w a t.dir t.name t.child well is) (is_so (has_white w t.dir t.name) white)
    ∙ ap (λ x. edited_by (facts_of w) (undelete_edits w x)) (sym is))))

pub unlink_tells : (w new : World) (c : ℕ) (text : List ℕ) → IsSound w → IsLasting w → apply w c (call.Unlink text) ≡ Finished new reply.Done → Tells w (entry.Call c (call.Unlink text) reply.Done)
unlink_tells w new c text sound lasts is =
    let x = call.Unlink text in
    told w new c x reply.Done refl (unlink_shows w (first_found w c x) (record { sound = sound; lasts = lasts }) (well_at w sound lasts c (first_way x))) is

pub rmdir_tells : (w new : World) (c : ℕ) (text : List ℕ) → IsSound w → IsLasting w → apply w c (call.Rmdir text) ≡ Finished new reply.Done → Tells w (entry.Call c (call.Rmdir text) reply.Done)
rmdir_tells w new c text sound lasts is =
    let x = call.Rmdir text in
    told w new c x reply.Done refl (rmdir_shows w (first_found w c x) (record { sound = sound; lasts = lasts }) (well_at w sound lasts c (first_way x))) is

pub undelete_tells : (w new : World) (c : ℕ) (text : List ℕ) → IsSound w → IsLasting w → apply w c (call.Undelete text) ≡ Finished new reply.Done → Tells w (entry.Call c (call.Undelete text) reply.Done)
undelete_tells w new c text sound lasts is =
    let x = call.Undelete text in
    told w new c x reply.Done refl (undelete_shows w (first_found w c x) (record { sound = sound; lasts = lasts }) (well_at w sound lasts c (first_way x))) is
