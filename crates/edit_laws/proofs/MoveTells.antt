-- The edits of calls that move and link names tell what they do.
use Rattle.std.proofs.Common.{◌≡◌, ℕ, ◌⊎◌, inl, inr, Bool, true, false, cond, not, ◌||◌, ◌==◌, List, [], ◌∷◌, ◌++◌, refl, ap, sym, ◌∙◌, subst, eqb-true, eq-eqb}
use Rattle.std.specs.Prelude.{Option, Some, None, is_some, option_map, option_and_then}
use Rattle.std.specs.FinMap.{get, insert}
use Rattle.vfs_tree.specs.Carriers.{is_in_union, is_busy, is_below, below_within}
use Rattle.vfs_tree.specs.Child.{steps}
use Rattle.vfs_tree.specs.Edits.{with_store}
use Rattle.vfs_tree.specs.Facts.{Facts}
use Rattle.vfs_tree.specs.Layers.{base, is_dir, is_opaque, linked_by, opaque_by}
use Rattle.vfs_tree.specs.Nodes.{is_given, is_white}
use Rattle.vfs_tree.specs.Place.{Seen, mount_of}
use Rattle.vfs_tree.specs.Sound.{IsSound}
use Rattle.vfs_tree.specs.StoreEdits.{entry_of, with_node_at, set_entry, emptied, drop_entry, moved, renamed_to, renamed}
use Rattle.vfs_tree.specs.Views.{kind_of_node, is_linked_in, facts_in, dir_in, facts_of}
use Rattle.vfs_tree.specs.Visible.{has_visible}
use Rattle.vfs_tree.specs.declared.errno.Errno.TheVariants as errno
use Rattle.vfs_tree.specs.declared.node.Kind.TheVariants as kind
use Rattle.vfs_tree.specs.declared.node.NameEntry.{NameEntry}
use Rattle.vfs_tree.specs.declared.node.NameEntry.TheVariants.{Ino, White}
use Rattle.vfs_tree.specs.declared.node.Node.{Node}
use Rattle.vfs_tree.specs.declared.node.Node.TheVariants.{Dir, File, Link}
use Rattle.vfs_tree.specs.declared.node.Store.{Store}
use Rattle.vfs_tree.specs.declared.view.DirFacts.{DirFacts}
use Rattle.vfs_tree.specs.declared.walk.Found.{Found}
use Rattle.vfs_tree.specs.declared.walk.Found.TheVariants as found
use Rattle.vfs_tree.specs.declared.walk.NodeId.{NodeId}
use Rattle.vfs_tree.specs.declared.walk.Step.TheVariants.{Go}
use Rattle.vfs_tree.specs.declared.world.World.{World}
use Rattle.call_model.specs.Apply.{Finished, apply}
use Rattle.call_model.specs.Checks.{copied, place_at, target_at, there, free_target, edit_at, has_white}
use Rattle.call_model.specs.NameEdits.{Edit, SetName, ClearName, ClearDir, Moved, edited_by, node_id, set_edit, drop_edit, clear_edits, link_edits, move_edits, rename_found}
use Rattle.call_model.specs.NameRows as rows
use Rattle.call_model.specs.Rows.{first_found, second_found, first_way, second_way}
use Rattle.call_model.specs.declared.call.Call.TheVariants as call
use Rattle.call_model.specs.declared.entry.Entry.TheVariants as entry
use Rattle.call_model.specs.declared.reply.Reply.TheVariants as reply
use Rattle.call_model.specs.declared.target.Target.{Target}
use Rattle.call_laws.specs.Lasting.{IsLasting}
use Rattle.call_laws.proofs.ClimbLaws.{AvoidsUp, avoids_up, avoids_root}
use Rattle.call_laws.proofs.DropLaws.{NoDir, AreAlike, alike_through, alike_emptied, alike_drop}
use Rattle.call_laws.proofs.GivenLaws.{is_low, dir_upper, Gives, given_target, same_store}
use Rattle.call_laws.proofs.MadeLaws.{kind_at, linked_dir, inode_of}
use Rattle.call_laws.proofs.NameLaws.{view_of, linked_in, entry_is, file_in_store, end_at, eq_so, whole-copied}
use Rattle.call_laws.proofs.NamedLaws.{no_way}
use Rattle.call_laws.proofs.Parts.{Keeps, MakesNode, found_so, refused, weaker, then, unless, ready_at, ready_child}
use Rattle.call_laws.proofs.PlaceLaws.{well_at}
use Rattle.call_laws.proofs.RenameLaws as renames
use Rattle.call_laws.proofs.RenameLaws.{true_and}
use Rattle.call_laws.proofs.SoundRows.{LeavesSo, AnyNeed}
use Rattle.call_laws.proofs.WalkLaws.{IsTarget, FoundWell}
use Rattle.call_laws.proofs.Whole.{IsWhole}
use Rattle.call_laws.proofs.WholeLaws.{IsWell, well_store}
use Rattle.model_laws.proofs.Leaving.{any}
use Rattle.edit_laws.specs.Telling.{Tells}
use Rattle.edit_laws.proofs.Answering.{found_in, found_place, found_free, found_there, Shows, told}
use Rattle.edit_laws.proofs.DropTells.{AreBare, only_of, clearing, bare_at, drop_in, drop_after, empty_so}
use Rattle.edit_laws.proofs.NameViews.{IsOnly, hit_off, left, left_ino, dropped, drop_exact, drop_view, known_drop, bared_by, empty_view, set_view, moved_view}
use Rattle.edit_laws.proofs.Only.{only_one, less_emptied, only_emptied, known_emptied, set_bared}
use Rattle.edit_laws.proofs.StoreViews.{View, view_in, same_parts, shown_after, shown_by, hit, put_dir, unlink_by, link_by, put_entry, bared, set_entry_at, AreIn, edited_store}
use Rattle.edit_laws.proofs.Touched.{known, dir_known, NoName}

-- ---- link

-- what is copied, where a copy is needed
upper_so : (w : World) (p : Seen) → (IsWhole w → Keeps (λ _. is_low p ≡ false) (MakesNode w) (copied w p)) → IsWhole w → Keeps (λ _. is_low p ≡ false) AnyNeed (copied w p)
upper_so w p k h = weaker (copied w p) (λ _ e. e) (λ _ _. tt) (k h)

module _ (w : World) (h : IsWhole w) (p d : Seen) (n : List ℕ) (t : IsTarget (facts_of w) d n None) (file : is_dir (facts_of w) p ≡ false) (rests : (base (facts_of w) p).store ≡ (base (facts_of w) d).store) where
  abbrev b : NodeId
  b = base (facts_of w) d

  abbrev i : ℕ
  i = (base (facts_of w) p).ino

  link_store : (s : Option Store) → get w.stores b.store ≡ s → facts_of (with_store (λ t. set_entry t b.ino n (Ino i)) w b.store s) ≡ edited_by (facts_of w) (SetName b.store b.ino n (Ino i) ∷ [])
  link_store (Some s) at =
      let free : is_given (entry_of s b.ino n) ≡ false = ap is_given (sym (entry_is w b.store b.ino n s at)) ∙ given_target (facts_of w) (view_of w h) d n None t in
      let plain : NoDir s i = file_in_store w p b.store s at rests file in
      edited_store w b.store s (set_entry s b.ino n (Ino i)) (SetName b.store b.ino n (Ino i) ∷ []) at (refl, tt)
      (set_view s b.ino n i (linked_dir s b.ino (get s.nodes b.ino) (linked_in w d n None s t at))
      (λ j given. no_way (sym free ∙ ap is_given given)) (λ own. absurd (plain own)) (λ own. absurd (plain own)))
  link_store None at = no_way (sym (ap (λ s. linked_by (option_and_then (λ (t : Store). dir_in t b.ino) s)) at) ∙ t.linked)

  link_sets : Shows w (link_edits w (found.At p) (found.In d n None)) (edit_at w d (λ s dir. set_entry s dir n (Ino i)))
  link_sets = link_store (get w.stores b.store) refl

pub link_shows : (w : World) (a b : Found) → IsWhole w → FoundWell (facts_of w) a → FoundWell (facts_of w) b → Keeps (LeavesSo (Shows w (link_edits w a b))) AnyNeed (rows.link w a b)
link_shows w a b h wa wb =
    then (place_at w a) (found_place w a) (λ p from.
    unless (is_dir (facts_of w) p) _ (λ file.
    then (free_target w b) (found_free w b) (λ t to.
    unless (not (mount_of p == mount_of t.dir)) _ (λ same.
    let x : IsTarget (facts_of w) t.dir t.name None = subst (FoundWell (facts_of w)) to wb in
    let good = (end_at w a p (λ _. wa) h from).good in
    then (copied w p) (upper_so w p (λ _. whole-copied w p (ready_at w a p (λ _. wa) from)) h) (λ _ upper.
    found_so (link_sets w h p t.dir t.name x file
    (same_store (facts_of w) (view_of w h) p t.dir good x.good upper (dir_upper (facts_of w) t.dir x.good.sound.files x.dir) (eq_so (mount_of p) (mount_of t.dir) same))
    ∙ ap (λ y. edited_by (facts_of w) (link_edits w y (found.In t.dir t.name None))) (sym from)
    ∙ ap (λ y. edited_by (facts_of w) (link_edits w a y)) (sym to)))))))

pub link_tells : (w new : World) (c : ℕ) (from to : List ℕ) → IsSound w → IsLasting w → apply w c (call.Link from to) ≡ Finished new reply.Done → Tells w (entry.Call c (call.Link from to) reply.Done)
link_tells w new c from to sound lasts is =
    let x = call.Link from to in
    told w new c x reply.Done refl (link_shows w (first_found w c x) (second_found w c x) (record { sound = sound; lasts = lasts }) (well_at w sound lasts c (first_way x)) (well_at w sound lasts c (second_way x))) is

-- ---- rename, in a store

-- what isn't known isn't changed
no_unlink : (e : Option NameEntry) (v : View) (x : ℕ) → v.dir x ≡ None → (unlink_by e v).dir x ≡ None
no_unlink (Some (Ino j)) v x none = by (j == x) (v.dir x) none
  where
    by : (b : Bool) (o : Option DirFacts) → o ≡ None → cond b (option_map (λ (d : DirFacts). record d { linked = j == 1 }) o) o ≡ None
    by true o e = ap (option_map (λ (d : DirFacts). record d { linked = j == 1 })) e
    by false o e = e
no_unlink (Some White) v x none = none
no_unlink None v x none = none

no_link : (n : List ℕ) (e : Option NameEntry) (v : View) (x : ℕ) → v.dir x ≡ None → (link_by n e v).dir x ≡ None
no_link n (Some (Ino j)) v x none = by (j == x) (v.dir x) none
  where
    by : (b : Bool) (o : Option DirFacts) → o ≡ None → cond b (option_map (λ (d : DirFacts). record d { linked = true }) o) o ≡ None
    by true o e = ap (option_map (λ (d : DirFacts). record d { linked = true })) e
    by false o e = e
no_link n (Some White) v x none = none
no_link n None v x none = none

no_put : (g : DirFacts → DirFacts) (x : ℕ) (v : View) → v.dir x ≡ None → put_dir g x v ≡ v
no_put g x v none = same_parts (put_dir g x v) v (λ d m. refl) (λ i. refl) (λ i. by i (x == i) refl) (λ i. refl) (λ i. refl)
  where
    by : (i : ℕ) (b : Bool) → (x == i) ≡ b → cond b (option_map g (v.dir i)) (v.dir i) ≡ v.dir i
    by i true is = let own : v.dir i ≡ None = ap v.dir (sym (eqb-true x i is)) ∙ none in ap (option_map g) own ∙ sym own
    by i false is = refl

opaque_known : (a b : Bool) (o : Option Node) → opaque_by (known a o) ≡ opaque_by (known b o)
opaque_known a b (Some (Dir parent opaque names)) = refl
opaque_known a b (Some (File bytes)) = refl
opaque_known a b (Some (Link target)) = refl
opaque_known a b None = refl

-- nothing is known of what is no directory
file_known : (t : Store) (x : ℕ) → NoDir t x → dir_in t x ≡ None
file_known t x file = by (get t.nodes x) refl
  where
    by : (o : Option Node) → get t.nodes x ≡ o → dir_in t x ≡ None
    by (Some (Dir parent opaque names)) at = absurd (file (ap (option_map kind_of_node) at))
    by (Some (File bytes)) at = ap (option_and_then (facts_in t x)) at
    by (Some (Link target)) at = ap (option_and_then (facts_in t x)) at
    by None at = ap (option_and_then (facts_in t x)) at

-- the edit of a directory that is moved
abbrev pub go_to : ℕ → Bool → DirFacts → DirFacts
go_to to opaque d = record d { parent = to; opaque = opaque }

module _ (t : Store) (white opaque : Bool) (from : ℕ) (old : List ℕ) (to : ℕ) (n : List ℕ) (x : ℕ) (well : IsWell t) (at : entry_of t from old ≡ Some (Ino x))
    (linked_from : linked_by (dir_in t from) ≡ true) (linked_to : linked_by (dir_in t to) ≡ true) (other : kind_at t x ≡ Some kind.Dir → (x == 1) ≡ false) (bare : AreBare t (entry_of t to n)) where
  abbrev e0 : Option NameEntry
  e0 = entry_of t to n

  abbrev one : Store
  one = emptied t e0

  abbrev two : Store
  two = drop_entry white one from old

  abbrev hides : Bool
  hides = opaque || is_white e0

  abbrev four : Store
  four = with_node_at (moved to hides) (set_entry two to n (Ino x)) x

  alike_two : AreAlike t two
  alike_two = alike_through t one two (alike_emptied t e0) (alike_drop white one from old)

  only_old : IsOnly t from old
  only_old = only_one t well.names from old (λ j given dir. subst (λ y. kind_at t y ≡ Some kind.Dir → (y == 1) ≡ false) (ap inode_of (sym at ∙ given)) other dir)

  dir_from : kind_at one from ≡ Some kind.Dir
  dir_from = (alike_emptied t e0).kinds from ∙ linked_dir t from (get t.nodes from) linked_from

  view_two : view_in two ≡ dropped white from old (bared_by e0 (view_in t))
  view_two = drop_view one white from old dir_from (only_emptied t e0 from old only_old) ∙ ap (dropped white from old) (empty_view t e0 bare)

  -- the names that are left were there
  less_two : (d i : ℕ) (m : List ℕ) → entry_of two d m ≡ Some (Ino i) → (hit from old d m ≡ false) × (entry_of t d m ≡ Some (Ino i))
  less_two d i m e = by (hit from old d m) refl (sym (drop_exact white one from old dir_from d m) ∙ e)
    where
      by : (b : Bool) → hit from old d m ≡ b → cond b (left white) (entry_of one d m) ≡ Some (Ino i) → (hit from old d m ≡ false) × (entry_of t d m ≡ Some (Ino i))
      by true is f = left_ino white i f
      by false is f = (is, less_emptied t e0 d i m f)

  only_new : IsOnly two to n
  only_new j given dir d m e =
      only_of t to n well linked_to bare j (less_two to j n given).1 (sym (alike_two.kinds j) ∙ dir) d m (less_two d j m e).1

  fresh : kind_at two x ≡ Some kind.Dir → NoName two x
  fresh dir d m e =
      let l = less_two d x m e in
      let p = only_old x at (sym (alike_two.kinds x) ∙ dir) d m l.1 in
      hit_off from old d m l.0 p.0 p.1

  abbrev seen : Bool
  seen = opaque_by (known true (get two.nodes x)) || hides

  view_four : view_in four ≡ put_dir (go_to to seen) x (set_entry_at to n (Some (Ino x)) (view_in two))
  view_four = moved_view two to n x hides (alike_two.kinds to ∙ linked_dir t to (get t.nodes to) linked_to) only_new fresh

  seen_is : seen ≡ (opaque_by (dir_in t x) || hides)
  seen_is =
      ap (λ o. opaque_by o || hides) (known_drop white one from old x true ∙ known_emptied t e0 x true)
      ∙ ap (λ y. y || hides) (opaque_known true (is_linked_in t x) (get t.nodes x) ∙ ap opaque_by (sym (dir_known t x (get t.nodes x))))

  abbrev half : View → View
  half v = set_entry_at to n (Some (Ino x)) (dropped white from old v)

  view_all : view_in four ≡ put_dir (go_to to (opaque_by (dir_in t x) || hides)) x (half (bared_by e0 (view_in t)))
  view_all = view_four ∙ ap (λ y. put_dir (go_to to y) x (set_entry_at to n (Some (Ino x)) (view_in two))) seen_is ∙ ap (λ v. put_dir (go_to to (opaque_by (dir_in t x) || hides)) x (set_entry_at to n (Some (Ino x)) v)) view_two

  -- a directory is cleared after all or before
  off_from : (j : ℕ) → e0 ≡ Some (Ino j) → (j == from) ≡ false
  off_from j given = by (j == from) refl
    where
      by : (b : Bool) → (j == from) ≡ b → b ≡ false
      by true is = absurd (bare j given x old (ap (λ y. entry_of t y old) (eqb-true j from is) ∙ at))
      by false is = refl

  off_to : (j : ℕ) → e0 ≡ Some (Ino j) → (j == to) ≡ false
  off_to j given = by (j == to) refl
    where
      by : (b : Bool) → (j == to) ≡ b → b ≡ false
      by true is = absurd (bare j given j n (ap (λ y. entry_of t y n) (eqb-true j to is) ∙ given))
      by false is = refl

  half_bared : (j : ℕ) → e0 ≡ Some (Ino j) → half (bared j (view_in t)) ≡ bared j (half (view_in t))
  half_bared j given =
      ap (set_entry_at to n (Some (Ino x))) (drop_bared white)
      ∙ set_bared j to n (Some (Ino x)) (dropped white from old (view_in t)) (off_to j given)
    where
      drop_bared : (b : Bool) → dropped b from old (bared j (view_in t)) ≡ bared j (dropped b from old (view_in t))
      drop_bared true = set_bared j from old (Some White) (view_in t) (off_from j given)
      drop_bared false = set_bared j from old None (view_in t) (off_from j given)

  abbrev go : View → View
  go v = put_dir (go_to to (opaque_by (dir_in t x) || hides)) x v

  moved_plain : bared_by e0 (view_in t) ≡ view_in t → view_in four ≡ go (half (view_in t))
  moved_plain same = view_all ∙ ap (λ v. go (half v)) same

  moved_dir : (j : ℕ) → e0 ≡ Some (Ino j) → view_in four ≡ bared j (go (half (view_in t)))
  moved_dir j given = view_all ∙ ap (λ e. go (half (bared_by e (view_in t)))) given ∙ ap go (half_bared j given)

  -- a file has no parent
  go_file : NoDir t x → go (half (view_in t)) ≡ half (view_in t)
  go_file file =
      let none : dir_in t x ≡ None = file_known t x file in
      let w : View = dropped white from old (view_in t) in
      let first : w.dir x ≡ None = no_unlink (entry_of t from old) (put_entry from old (left white) (view_in t)) x none in
      no_put (go_to to (opaque_by (dir_in t x) || hides)) x (half (view_in t))
      (no_link n (Some (Ino x)) (unlink_by (w.entry to n) (put_entry to n (Some (Ino x)) w)) x (no_unlink (w.entry to n) (put_entry to n (Some (Ino x)) w) x first))

  renamed_is : renamed white opaque t from old to n ≡ four
  renamed_is = ap (renamed_to two to n hides) at

-- ---- rename, in a world

-- what is replaced is a directory exactly where what is moved is one, and shows no name then
abbrev Fits : World → Bool → Option Seen → Type 0
Fits w c o = (q : Seen) → o ≡ Some q → (is_dir (facts_of w) q ≡ c) × (c ≡ true → has_visible w q ≡ Go false)

fits_both : (w : World) (c : Bool) (o : Option Seen) → Fits w c o → (q : Seen) → o ≡ Some q → (is_dir (facts_of w) q ≡ false) ⊎ ((is_dir (facts_of w) q ≡ true) × (has_visible w q ≡ Go false))
fits_both w true o fits q is = inr ((fits q is).0, (fits q is).1 refl)
fits_both w false o fits q is = inl (fits q is).0

-- the edits where the two names don't stand for one place
abbrev rename_edits_apart : World → Seen → List ℕ → Seen → Seen → List ℕ → Option Seen → List Edit
rename_edits_apart w from old p to new q = drop_edit w from old ∷ set_edit w to new (Ino (node_id w p).ino) ∷ (move_edits w p to new ++ clear_edits w q)

module _ (w : World) (h : IsWhole w) (d source : Seen) (old : List ℕ) (new : Target) (x : IsTarget (facts_of w) d old (Some source)) (y : IsTarget (facts_of w) new.dir new.name new.child)
    (mounts : mount_of d ≡ mount_of new.dir) (upper : is_low source ≡ false) (off : is_dir (facts_of w) source ≡ true → is_below (facts_of w) new.dir source ≡ false) (fits : Fits w (is_dir (facts_of w) source) new.child) where
  abbrev f : Facts
  f = facts_of w

  abbrev bd : NodeId
  bd = base f d

  abbrev bn : NodeId
  bn = base f new.dir

  abbrev bs : NodeId
  bs = base f source

  abbrev white : Bool
  white = is_in_union d

  abbrev opaque : Bool
  opaque = is_in_union new.dir

  one_store : bd.store ≡ bn.store
  one_store = renames.one_store w h d source old new x y mounts upper

  gives : Gives f bd old source
  gives = renames.gives w h d source old new x y mounts upper

  abbrev drop_it : Edit
  drop_it = cond white (SetName bd.store bd.ino old White) (ClearName bd.store bd.ino old)

  abbrev set_it : Edit
  set_it = SetName bn.store bn.ino new.name (Ino bs.ino)

  module _ (t : Store) (e : get w.stores bd.store ≡ Some t) (well : IsWell t) where
    there_too : get w.stores bn.store ≡ Some t
    there_too = renames.there_too w h d source old new x y mounts upper t e well

    at_old : entry_of t bd.ino old ≡ Some (Ino bs.ino)
    at_old = renames.at_old w h d source old new x y mounts upper t e well

    from_linked : linked_by (dir_in t bd.ino) ≡ true
    from_linked = renames.from_linked w h d source old new x y mounts upper t e well

    to_linked : linked_by (dir_in t bn.ino) ≡ true
    to_linked = renames.to_linked w h d source old new x y mounts upper t e well

    same_dirs : f.dir bn.store ≡ dir_in t
    same_dirs = let dirs : Option Store → ℕ → Option DirFacts = λ o i. option_and_then (λ (t : Store). dir_in t i) o in ap dirs there_too

    way_up : is_below f new.dir source ≡ false → AvoidsUp (dir_in t) bs.ino bn.ino
    way_up below =
        avoids_up f bn.store bs.ino bn.ino t same_dirs well (ap is_some (linked_dir t bn.ino (get t.nodes bn.ino) to_linked)) (well.names.lead bn.ino to_linked)
        (true_and (bn.store == bs.store) (below_within steps f bn.store bs.ino bn.ino) (eq-eqb bn.store bs.store (sym one_store ∙ sym gives.store)) below)

    not_dir : is_dir f source ≡ false → NoDir t bs.ino
    not_dir file = file_in_store w source bd.store t e gives.store file

    other : kind_at t bs.ino ≡ Some kind.Dir → (bs.ino == 1) ≡ false
    other own = by (is_dir f source) refl
      where
        by : (c : Bool) → is_dir f source ≡ c → (bs.ino == 1) ≡ false
        by true dir = let up = way_up (off dir) in avoids_root (dir_in t) bs.ino up.steps bn.ino up.way
        by false file = absurd (not_dir file own)

    bare : AreBare t (entry_of t bn.ino new.name)
    bare = bare_at w h new.dir new.name t there_too new.child y (fits_both w (is_dir f source) new.child fits)

    abbrev after : Store
    after = renamed white opaque t bd.ino old bn.ino new.name

    abbrev at_new : Option NameEntry
    at_new = entry_of t bn.ino new.name

    abbrev moves : Bool
    moves = opaque_by (dir_in t bs.ino) || (opaque || is_white at_new)

    abbrev half_view : View
    half_view = set_entry_at bn.ino new.name (Some (Ino bs.ino)) (dropped white bd.ino old (view_in t))

    -- what the move edits are, and do
    moves_is : (is_opaque f bs.store bs.ino || (opaque || has_white w new.dir new.name)) ≡ moves
    moves_is =
        ap (λ o. opaque_by o || (opaque || has_white w new.dir new.name)) (ap (λ s. f.dir s bs.ino) gives.store ∙ ap (λ (o : Option Store). option_and_then (λ (t : Store). dir_in t bs.ino) o) e)
        ∙ ap (λ o. opaque_by (dir_in t bs.ino) || (opaque || is_white o)) (entry_is w bn.store bn.ino new.name t there_too)

    abbrev move_it : List Edit
    move_it = cond (is_dir f source) (Moved bd.store bs.ino bn.ino moves ∷ []) []

    move_edits_are : move_edits w source new.dir new.name ≡ move_it
    move_edits_are =
        ap (λ o. cond (is_dir f source) (Moved bs.store bs.ino bn.ino o ∷ []) []) moves_is
        ∙ ap (λ s. cond (is_dir f source) (Moved s bs.ino bn.ino moves ∷ []) []) gives.store

    move_in : (c : Bool) (more : List Edit) → AreIn bd.store more → AreIn bd.store (cond c (Moved bd.store bs.ino bn.ino moves ∷ []) [] ++ more)
    move_in true more are = (refl, are)
    move_in false more are = are

    move_after : (c : Bool) → is_dir f source ≡ c → (v : View) → v ≡ half_view → (more : List Edit) → shown_by v (cond c (Moved bd.store bs.ino bn.ino moves ∷ []) [] ++ more) ≡ shown_by (put_dir (go_to bn.ino moves) bs.ino half_view) more
    move_after true dir v same more = ap (λ x. shown_by (put_dir (go_to bn.ino moves) bs.ino x) more) same
    move_after false file v same more =
        ap (λ x. shown_by x more) (same ∙ sym (go_file t white opaque bd.ino old bn.ino new.name bs.ino well at_old from_linked to_linked other bare (not_dir file)))

    -- the view after the two edits of names
    named : shown_after (shown_after (view_in t) drop_it) set_it ≡ half_view
    named = ap (set_entry_at bn.ino new.name (Some (Ino bs.ino))) (drop_after white bd.store bd.ino old (view_in t))

    edits_in : (more : List Edit) → AreIn bd.store more → AreIn bd.store (drop_it ∷ set_it ∷ (move_it ++ more))
    edits_in more are = (drop_in white bd.store bd.store bd.ino old refl, (sym one_store, move_in (is_dir f source) more are))

    shown_all : (more : List Edit) → shown_by (view_in t) (drop_it ∷ set_it ∷ (move_it ++ more)) ≡ shown_by (put_dir (go_to bn.ino moves) bs.ino half_view) more
    shown_all more = move_after (is_dir f source) refl (shown_after (shown_after (view_in t) drop_it) set_it) named more

    abbrev goal : List Edit → Type 0
    goal es = facts_of (record w { stores = insert w.stores bd.store after }) ≡ edited_by f es

    is_four : view_in after ≡ view_in (with_node_at (moved bn.ino (opaque || is_white at_new)) (set_entry (drop_entry white (emptied t at_new) bd.ino old) bn.ino new.name (Ino bs.ino)) bs.ino)
    is_four = ap view_in (renamed_is t white opaque bd.ino old bn.ino new.name bs.ino well at_old from_linked to_linked other bare)

    in_store : goal (drop_it ∷ set_it ∷ (move_edits w source new.dir new.name ++ clear_edits w new.child))
    in_store = elim (clearing w h new.dir new.name t there_too new.child y) as (λ _. goal (drop_it ∷ set_it ∷ (move_edits w source new.dir new.name ++ clear_edits w new.child))) [
      | inl c ↦
          let more : List Edit = ClearDir bd.store c.ino ∷ [] in
          let cleared : clear_edits w new.child ≡ more = c.edits ∙ ap (λ s. ClearDir s c.ino ∷ []) (sym one_store) in
          edited_store w bd.store t after (drop_it ∷ set_it ∷ (move_it ++ more)) e (edits_in more (refl, tt))
          (is_four ∙ moved_dir t white opaque bd.ino old bn.ino new.name bs.ino well at_old from_linked to_linked other bare c.ino c.at ∙ sym (shown_all more))
          ∙ ap (λ es. edited_by f (drop_it ∷ set_it ∷ (es ++ more))) (sym move_edits_are)
          ∙ ap (λ es. edited_by f (drop_it ∷ set_it ∷ (move_edits w source new.dir new.name ++ es))) (sym cleared)
      | inr c ↦
          edited_store w bd.store t after (drop_it ∷ set_it ∷ (move_it ++ [])) e (edits_in [] tt)
          (is_four ∙ moved_plain t white opaque bd.ino old bn.ino new.name bs.ino well at_old from_linked to_linked other bare c.same ∙ sym (shown_all []))
          ∙ ap (λ es. edited_by f (drop_it ∷ set_it ∷ (es ++ []))) (sym move_edits_are)
          ∙ ap (λ es. edited_by f (drop_it ∷ set_it ∷ (move_edits w source new.dir new.name ++ es))) (sym c.edits)
    ]

  by_store : (s : Option Store) → get w.stores bd.store ≡ s → facts_of (with_store (λ t. renamed white opaque t bd.ino old bn.ino new.name) w bd.store s) ≡ edited_by f (drop_it ∷ set_it ∷ (move_edits w source new.dir new.name ++ clear_edits w new.child))
  by_store (Some t) e = in_store t e (well_store w h bd.store t e)
  by_store None e = no_way (sym (ap (λ s. linked_by (option_and_then (λ (t : Store). dir_in t bd.ino) s)) e) ∙ x.linked)

  renamed_shows : Shows w (drop_it ∷ set_it ∷ (move_edits w source new.dir new.name ++ clear_edits w new.child)) (rows.renamed_at w d old new)
  renamed_shows = by_store (get w.stores bd.store) refl

-- ---- the row

source_so : (c : Bool) (w : World) (source to : Seen) → Keeps (λ _. c ≡ true → is_below (facts_of w) to source ≡ false) AnyNeed (rows.check_source c w source to)
source_so true w source to =
    unless (is_busy w source) _ (λ _. unless (is_below (facts_of w) to source) _ (λ off. weaker (rows.check_lower w source) (λ _ _ _. off) (λ x m. m) (any (rows.check_lower w source))))
source_so false w source to = found_so (λ e. no_way e)

replaced_dir_so : (w : World) (d : Seen) → Keeps (λ _. has_visible w d ≡ Go false) AnyNeed (rows.check_replaced_dir w d)
replaced_dir_so w d =
    unless (is_busy w d) _ (λ _. then (rows.check_empty w d) (empty_so w d) (λ _ empty. weaker (rows.check_lower w d) (λ _ _. empty) (λ x m. m) (any (rows.check_lower w d))))

abbrev place_or : Seen → Option Seen → Seen
place_or d (Some p) = p
place_or d None = d

kinds_so : (a c : Bool) (w : World) (p : Seen) → is_dir (facts_of w) p ≡ c → Keeps (λ _. Fits w a (Some p)) AnyNeed (rows.check_kinds a c w p)
kinds_so true false w p is = refused
kinds_so false true w p is = refused
kinds_so true true w p is =
    weaker (rows.check_replaced_dir w p) (λ _ empty q same. let e = ap (place_or p) same in (ap (is_dir (facts_of w)) (sym e) ∙ is, λ _. ap (has_visible w) (sym e) ∙ empty)) (λ x m. m) (replaced_dir_so w p)
kinds_so false false w p is = found_so (λ q same. (ap (is_dir (facts_of w)) (sym (ap (place_or p) same)) ∙ is, λ e. no_way e))

replaced_so : (w : World) (c : Bool) (o : Option Seen) → Keeps (λ _. Fits w c o) AnyNeed (rows.check_replaced w c o)
replaced_so w c (Some p) = kinds_so c (is_dir (facts_of w) p) w p refl
replaced_so w c None = found_so (λ q same. absurd (let clash : None ≡ Some q = same in cc))

module _ (w : World) (h : IsWhole w) (source d : Seen) (old : List ℕ) (new : Target) (x : IsTarget (facts_of w) d old (Some source)) (y : IsTarget (facts_of w) new.dir new.name new.child) (mounts : mount_of d ≡ mount_of new.dir) where
  apart_shows : Keeps (LeavesSo (Shows w (rename_edits_apart w d old source new.dir new.name new.child))) AnyNeed (rows.rename_apart w source d old new)
  apart_shows =
      then (rows.check_source (is_dir (facts_of w) source) w source new.dir) (source_so (is_dir (facts_of w) source) w source new.dir) (λ _ off.
      then (rows.check_replaced w (is_dir (facts_of w) source) new.child) (replaced_so w (is_dir (facts_of w) source) new.child) (λ _ fits.
      then (copied w source) (upper_so w source (λ _. whole-copied w source (λ _. ready_child (facts_of w) d source old x)) h) (λ _ upper.
      found_so (renamed_shows w h d source old new x y mounts upper off fits))))

  case_shows : (c : Bool) → Keeps (LeavesSo (Shows w (cond c [] (rename_edits_apart w d old source new.dir new.name new.child)))) AnyNeed (rows.rename_case c w source d old new)
  case_shows true = found_so refl
  case_shows false = apart_shows

pub rename_shows : (w : World) (a b : Found) → IsWhole w → FoundWell (facts_of w) a → FoundWell (facts_of w) b → Keeps (LeavesSo (Shows w (rename_found w a b))) AnyNeed (rows.rename w a b)
rename_shows w a b h wa wb =
    then (target_at w errno.EINVAL a) (found_in w errno.EINVAL a) (λ old from.
    then (there old.child) (found_there old.child) (λ source has.
    then (target_at w errno.EINVAL b) (found_in w errno.EINVAL b) (λ new to.
    unless (not (mount_of old.dir == mount_of new.dir)) _ (λ mounts.
    let is : a ≡ found.In old.dir old.name (Some source) = from ∙ ap (found.In old.dir old.name) has in
    weaker (rows.rename_case (rows.is_there source new.child) w source old.dir old.name new)
    (λ r shows. shows ∙ ap (λ z. edited_by (facts_of w) (rename_found w z (found.In new.dir new.name new.child))) (sym is) ∙ ap (λ z. edited_by (facts_of w) (rename_found w a z)) (sym to)) (λ _ m. m)
    (case_shows w h source old.dir old.name new (subst (FoundWell (facts_of w)) is wa) (subst (FoundWell (facts_of w)) to wb) (eq_so (mount_of old.dir) (mount_of new.dir) mounts) (rows.is_there source new.child))))))

pub rename_tells : (w new : World) (c : ℕ) (from to : List ℕ) → IsSound w → IsLasting w → apply w c (call.Rename from to) ≡ Finished new reply.Done → Tells w (entry.Call c (call.Rename from to) reply.Done)
rename_tells w new c from to sound lasts is =
    let x = call.Rename from to in
    told w new c x reply.Done refl (rename_shows w (first_found w c x) (second_found w c x) (record { sound = sound; lasts = lasts }) (well_at w sound lasts c (first_way x)) (well_at w sound lasts c (second_way x))) is
