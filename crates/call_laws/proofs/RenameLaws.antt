-- A rename keeps sound worlds lasting.
use Rattle.std.proofs.Common.{◌≡◌, ℕ, Bool, true, false, not, ◌&&◌, ◌==◌, ◌||◌, List, refl, ap, sym, ◌∙◌, subst, eq-eqb}
use Rattle.std.specs.Prelude.{Option, Some, None, is_some, option_and_then}
use Rattle.std.specs.FinMap.{get}
use Rattle.vfs_tree.specs.Carriers.{is_in_union, is_busy, is_below, below_within}
use Rattle.vfs_tree.specs.Child.{steps}
use Rattle.vfs_tree.specs.Facts.{Facts}
use Rattle.vfs_tree.specs.Layers.{base, kind_of, is_dir, linked_by}
use Rattle.vfs_tree.specs.Nodes.{is_white}
use Rattle.vfs_tree.specs.Place.{Seen, mount_of}
use Rattle.vfs_tree.specs.StoreEdits.{entry_of, renamed}
use Rattle.vfs_tree.specs.Views.{dir_in, facts_of}
use Rattle.vfs_tree.specs.Visible.{has_visible}
use Rattle.vfs_tree.specs.declared.errno.Errno.TheVariants as errno
use Rattle.vfs_tree.specs.declared.node.NameEntry.TheVariants.{Ino}
use Rattle.vfs_tree.specs.declared.node.Store.{Store}
use Rattle.vfs_tree.specs.declared.view.DirFacts.{DirFacts}
use Rattle.vfs_tree.specs.declared.walk.Found.{Found}
use Rattle.vfs_tree.specs.declared.walk.NodeId.{NodeId}
use Rattle.vfs_tree.specs.declared.walk.Step.TheVariants.{Go}
use Rattle.vfs_tree.specs.declared.world.World.{World}
use Rattle.call_model.specs.Checks.{copied, target_at, there}
use Rattle.call_model.specs.NameRows as rows
use Rattle.call_model.specs.declared.target.Target.{Target}
use Rattle.call_laws.proofs.ClimbLaws.{AvoidsUp, avoids_up, avoids_root}
use Rattle.call_laws.proofs.DropLaws.{NoDir, renamed_file}
use Rattle.call_laws.proofs.GivenLaws.{is_low, dir_upper, Gives, given_target, same_store, shows_none}
use Rattle.call_laws.proofs.MadeLaws.{linked_dir}
use Rattle.call_laws.proofs.MoveLaws.{renamed_dir}
use Rattle.call_laws.proofs.NamedLaws.{no_way}
use Rattle.call_laws.proofs.NameLaws.{view_of, linked_in, good_in, entry_is, kind_in_store, kind_dir, file_in_store, seen_at, eq_so, whole-target_at, whole-copied, whole-check_empty}
use Rattle.call_laws.proofs.NameParts.{keeps-check_lower}
use Rattle.call_laws.proofs.NeedLaws.{FreeFound}
use Rattle.call_laws.proofs.Parts.{Keeps, MakesNode, Well, ready_child, found_so, refused, weaker, then, unless, keeps-there_at}
use Rattle.call_laws.proofs.SoundRows.{LeavesSo}
use Rattle.call_laws.proofs.WalkLaws.{IsTarget}
use Rattle.call_laws.proofs.Whole.{IsWhole}
use Rattle.call_laws.proofs.WholeLaws.{IsWell, IsKept, whole-store}

-- what is replaced is a directory exactly where what is moved is one, and shows no name then
abbrev Fits : World → Bool → Option Seen → Type 0
Fits w b o = (q : Seen) → o ≡ Some q → (is_dir (facts_of w) q ≡ b) × (b ≡ true → has_visible w q ≡ Go false)

pub true_and : (a b : Bool) → a ≡ true → (a && b) ≡ false → b ≡ false
true_and true b p q = q
true_and false b p q = no_way p

module _ (w : World) (h : IsWhole w) (d source : Seen) (old : List ℕ) (new : Target) (x : IsTarget (facts_of w) d old (Some source)) (y : IsTarget (facts_of w) new.dir new.name new.child)
    (mounts : mount_of d ≡ mount_of new.dir) (upper : is_low source ≡ false) where
  abbrev f : Facts
  f = facts_of w

  abbrev b : NodeId
  b = base f d

  abbrev bn : NodeId
  bn = base f new.dir

  abbrev bs : NodeId
  bs = base f source

  pub one_store : b.store ≡ bn.store
  one_store = same_store f (view_of w h) d new.dir x.good y.good (dir_upper f d x.good.sound.files x.dir) (dir_upper f new.dir y.good.sound.files y.dir) mounts

  pub gives : Gives f b old source
  gives = (given_target f (view_of w h) d old (Some source) x).0 upper

  module _ (t : Store) (e : get w.stores b.store ≡ Some t) (well : IsWell t) where
    pub there_too : get w.stores bn.store ≡ Some t
    there_too = ap (get w.stores) (sym one_store) ∙ e

    pub at_old : entry_of t b.ino old ≡ Some (Ino bs.ino)
    at_old = sym (entry_is w b.store b.ino old t e) ∙ gives.at

    pub from_linked : linked_by (dir_in t b.ino) ≡ true
    from_linked = linked_in w d old (Some source) t x e

    pub to_linked : linked_by (dir_in t bn.ino) ≡ true
    to_linked = linked_in w new.dir new.name new.child t y there_too

    abbrev hides : Bool
    hides = is_in_union new.dir || is_white (entry_of t bn.ino new.name)

    file_target : ((q : Seen) → new.child ≡ Some q → is_dir f q ≡ false) → (j : ℕ) → entry_of t bn.ino new.name ≡ Some (Ino j) → NoDir t j
    file_target files j at =
        seen_at w h new.dir new.name new.child y t there_too j at (NoDir t j) (λ q is _ ino store. subst (NoDir t) ino (file_in_store w q bn.store t there_too store (files q is)))

    kept_file : is_dir f source ≡ false → ((q : Seen) → new.child ≡ Some q → is_dir f q ≡ false) → IsKept t (renamed (is_in_union d) (is_in_union new.dir) t b.ino old bn.ino new.name)
    kept_file file files =
        renamed_file t (is_in_union d) hides b.ino old bn.ino new.name bs.ino well at_old (file_in_store w source b.store t e gives.store file) from_linked to_linked (file_target files) (is_in_union new.dir) refl

    dir_target : ((q : Seen) → new.child ≡ Some q → (is_dir f q ≡ true) × (has_visible w q ≡ Go false)) → (j : ℕ) → entry_of t bn.ino new.name ≡ Some (Ino j) → (i : ℕ) (m : List ℕ) → entry_of t j m ≡ Some (Ino i) → ⊥
    dir_target dirs j at i m g =
        seen_at w h new.dir new.name new.child y t there_too j at ⊥ (λ q is _ ino store.
        shows_none w (view_of w h) q (good_in w h new.dir q new.name (subst (IsTarget f new.dir new.name) is y)) (dirs q is).0 (dirs q is).1 m i
        (ap (λ s. f.entry s (base f q).ino m) store ∙ entry_is w bn.store (base f q).ino m t there_too ∙ ap (λ z. entry_of t z m) ino ∙ g))

    same_dirs : f.dir bn.store ≡ dir_in t
    same_dirs = let dirs : Option Store → ℕ → Option DirFacts = λ o i. option_and_then (λ (t : Store). dir_in t i) o in ap dirs there_too

    apart_stores : is_below f new.dir source ≡ false → below_within steps f bn.store bs.ino bn.ino ≡ false
    apart_stores off = true_and (bn.store == bs.store) (below_within steps f bn.store bs.ino bn.ino) (eq-eqb bn.store bs.store (sym one_store ∙ sym gives.store)) off

    way_up : is_below f new.dir source ≡ false → AvoidsUp (dir_in t) bs.ino bn.ino
    way_up off =
        avoids_up f bn.store bs.ino bn.ino t same_dirs well (ap is_some (linked_dir t bn.ino (get t.nodes bn.ino) to_linked)) (well.names.lead bn.ino to_linked) (apart_stores off)

    kept_dir : is_dir f source ≡ true → is_below f new.dir source ≡ false → ((q : Seen) → new.child ≡ Some q → (is_dir f q ≡ true) × (has_visible w q ≡ Go false))
        → IsKept t (renamed (is_in_union d) (is_in_union new.dir) t b.ino old bn.ino new.name)
    kept_dir dir off dirs =
        let up = way_up off in
        renamed_dir t (is_in_union d) hides b.ino old bn.ino new.name bs.ino well at_old (sym (kind_in_store w source b.store t e gives.store) ∙ kind_dir (kind_of f source) dir)
        (avoids_root (dir_in t) bs.ino up.steps bn.ino up.way) from_linked to_linked up (dir_target dirs) (is_in_union new.dir) refl

  kept_case : (c : Bool) → is_dir f source ≡ c → (c ≡ true → is_below f new.dir source ≡ false) → Fits w c new.child → (t : Store) → get w.stores b.store ≡ Some t → IsWell t
      → IsKept t (renamed (is_in_union d) (is_in_union new.dir) t b.ino old bn.ino new.name)
  kept_case true dir off fits t e well = kept_dir t e well dir (off refl) (λ q is. ((fits q is).0, (fits q is).1 refl))
  kept_case false file off fits t e well = kept_file t e well file (λ q is. (fits q is).0)

  whole-renamed : (is_dir f source ≡ true → is_below f new.dir source ≡ false) → Fits w (is_dir f source) new.child → IsWhole (rows.renamed_at w d old new)
  whole-renamed off fits =
      whole-store w h b.store (λ t. renamed (is_in_union d) (is_in_union new.dir) t b.ino old bn.ino new.name) (λ t e well. kept_case (is_dir f source) refl off fits t e well)

-- ---- the row

whole-check_source : (b : Bool) (w : World) (source to : Seen) → Keeps (λ _. b ≡ true → is_below (facts_of w) to source ≡ false) (MakesNode w) (rows.check_source b w source to)
whole-check_source true w source to =
    unless (is_busy w source) _ (λ _. unless (is_below (facts_of w) to source) _ (λ off. weaker (rows.check_lower w source) (λ _ _ _. off) (λ x m. m) (keeps-check_lower w source)))
whole-check_source false w source to = found_so (λ e. no_way e)

whole-check_replaced_dir : (w : World) (d : Seen) → Keeps (λ _. has_visible w d ≡ Go false) (MakesNode w) (rows.check_replaced_dir w d)
whole-check_replaced_dir w d =
    unless (is_busy w d) _ (λ _. then (rows.check_empty w d) (whole-check_empty w d) (λ _ empty. weaker (rows.check_lower w d) (λ _ _. empty) (λ x m. m) (keeps-check_lower w d)))

abbrev place_or : Seen → Option Seen → Seen
place_or d (Some p) = p
place_or d None = d

whole-check_kinds : (a b : Bool) (w : World) (p : Seen) → is_dir (facts_of w) p ≡ b → Keeps (λ _. Fits w a (Some p)) (MakesNode w) (rows.check_kinds a b w p)
whole-check_kinds true false w p is = refused
whole-check_kinds false true w p is = refused
whole-check_kinds true true w p is =
    weaker (rows.check_replaced_dir w p) (λ _ empty q same. let e = ap (place_or p) same in (ap (is_dir (facts_of w)) (sym e) ∙ is, λ _. ap (has_visible w) (sym e) ∙ empty)) (λ x m. m) (whole-check_replaced_dir w p)
whole-check_kinds false false w p is = found_so (λ q same. (ap (is_dir (facts_of w)) (sym (ap (place_or p) same)) ∙ is, λ e. no_way e))

whole-check_replaced : (w : World) (b : Bool) (o : Option Seen) → Keeps (λ _. Fits w b o) (MakesNode w) (rows.check_replaced w b o)
whole-check_replaced w b (Some p) = whole-check_kinds b (is_dir (facts_of w) p) w p refl
whole-check_replaced w b None = found_so (λ q same. absurd (let clash : None ≡ Some q = same in cc))

whole-rename_apart : (w : World) → IsWhole w → (source d : Seen) (old : List ℕ) (new : Target) → IsTarget (facts_of w) d old (Some source) → IsTarget (facts_of w) new.dir new.name new.child → mount_of d ≡ mount_of new.dir
    → Keeps (LeavesSo IsWhole) (MakesNode w) (rows.rename_apart w source d old new)
whole-rename_apart w h source d old new x y mounts =
    then (rows.check_source (is_dir (facts_of w) source) w source new.dir) (whole-check_source (is_dir (facts_of w) source) w source new.dir) (λ _ off.
    then (rows.check_replaced w (is_dir (facts_of w) source) new.child) (whole-check_replaced w (is_dir (facts_of w) source) new.child) (λ _ fits.
    then (copied w source) (whole-copied w source (λ _. ready_child (facts_of w) d source old x)) (λ _ upper.
    found_so (whole-renamed w h d source old new x y mounts upper off fits))))

whole-rename_case : (b : Bool) (w : World) → IsWhole w → (source d : Seen) (old : List ℕ) (new : Target) → IsTarget (facts_of w) d old (Some source) → IsTarget (facts_of w) new.dir new.name new.child → mount_of d ≡ mount_of new.dir
    → Keeps (LeavesSo IsWhole) (MakesNode w) (rows.rename_case b w source d old new)
whole-rename_case true w h source d old new x y mounts = found_so h
whole-rename_case false w h source d old new x y mounts = whole-rename_apart w h source d old new x y mounts

pub whole-rename : (w : World) (a b : Found) → FreeFound (facts_of w) a → FreeFound (facts_of w) b → Well w a → Well w b → IsWhole w → Keeps (LeavesSo IsWhole) (MakesNode w) (rows.rename w a b)
whole-rename w a b fa fb wa wb h =
    then (target_at w errno.EINVAL a) (whole-target_at w errno.EINVAL a fa wa h) (λ old x.
    then (there old.child) (keeps-there_at old.child) (λ source has.
    then (target_at w errno.EINVAL b) (whole-target_at w errno.EINVAL b fb wb h) (λ new y.
    unless (not (mount_of old.dir == mount_of new.dir)) _ (λ mounts.
    whole-rename_case (rows.is_there source new.child) w h source old.dir old.name new (subst (IsTarget (facts_of w) old.dir old.name) has x) y (eq_so (mount_of old.dir) (mount_of new.dir) mounts)))))
