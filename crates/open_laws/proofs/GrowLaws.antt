-- Calls and inner entries that take no mount away let the mounts of open files stand.
use Rattle.std.proofs.Common.{◌≡◌, ℕ, ◌<◌, ◌⊎◌, inl, inr, Bool, true, false, cond, not, ◌&&◌, ◌||◌, ◌==◌, List, [], refl, ap, sym, ◌∙◌, subst, arith, eqb-true}
use Rattle.std.specs.Prelude.{Option, Some, None, IsSome, IfSome, is_some, option_map, option_and_then, nat_lt}
use Rattle.std.specs.List.{list_any}
use Rattle.std.specs.Str.{bytes_eq}
use Rattle.std.specs.Cmp.{nat_cmp_total}
use Rattle.std.specs.Ordering.{nat_cmp, eq_by_cmp}
use Rattle.std.specs.FinMap.{FinMap, get, insert, remove, empty, len, get-remove}
use Rattle.std.proofs.lemmas.Map.Lookups.{exact_unsigned}
use Rattle.finite_maps.specs.Keys.{pair_cmp}
use Rattle.finite_maps.proofs.EntryLaws.{pair_total, pair_exact, by_key}
use Rattle.vfs_tree.specs.Carriers.{is_in_union}
use Rattle.vfs_tree.specs.Child.{child_of, child_below, low}
use Rattle.vfs_tree.specs.Edits.{with_names, with_node, made, with_store, new_dir}
use Rattle.vfs_tree.specs.Facts.{Facts}
use Rattle.vfs_tree.specs.FileEdits.{with_bytes, resized}
use Rattle.vfs_tree.specs.Layers.{kind_in, base, is_dir, is_cut, cut_by, same_place, depth, stores}
use Rattle.vfs_tree.specs.Mounts.{Mounts, cut_with}
use Rattle.vfs_tree.specs.Nodes.{Names, AreBelow, next_of, is_white}
use Rattle.vfs_tree.specs.Place.{Seen, Mem, Null, UnionUp, UnionLow, mount_of}
use Rattle.vfs_tree.specs.Start.{empty_store}
use Rattle.vfs_tree.specs.StoreEdits.{entry_of, with_node_at, set_entry, clear_entry, emptied, drop_entry, removed, moved, renamed_to, renamed}
use Rattle.vfs_tree.specs.Views.{kind_of_node, facts_of}
use Rattle.vfs_tree.specs.declared.errno.Errno.TheVariants as errno
use Rattle.vfs_tree.specs.declared.mount.Mount.{Mount}
use Rattle.vfs_tree.specs.declared.mount.MountKind.{MountKind}
use Rattle.vfs_tree.specs.declared.mount.MountKind.TheVariants as kind
use Rattle.vfs_tree.specs.declared.node.Kind.{Kind}
use Rattle.vfs_tree.specs.declared.node.NameEntry.{NameEntry}
use Rattle.vfs_tree.specs.declared.node.NameEntry.TheVariants.{Ino, White}
use Rattle.vfs_tree.specs.declared.node.Node.{Node}
use Rattle.vfs_tree.specs.declared.node.Node.TheVariants.{Dir, File, Link}
use Rattle.vfs_tree.specs.declared.node.Store.{Store}
use Rattle.vfs_tree.specs.declared.open.Cwd.{Cwd}
use Rattle.vfs_tree.specs.declared.open.Open.{Open}
use Rattle.vfs_tree.specs.declared.walk.Child.{Child}
use Rattle.vfs_tree.specs.declared.walk.Child.TheVariants as child
use Rattle.vfs_tree.specs.declared.walk.Found.{Found}
use Rattle.vfs_tree.specs.declared.walk.Found.TheVariants as found
use Rattle.vfs_tree.specs.declared.world.World.{World}
use Rattle.call_model.specs.Checks.{Outcome, is_full, upper_store, copied, place_at, target_at, there, dir_at, free_target, node_of, has_white, edit_at, make_at, drop_at}
use Rattle.call_model.specs.DataRows as rows
use Rattle.call_model.specs.Effects.{made_above, copy_of, turned, turned_open, copied_child, detached, doomed_open, doomed_cwd, doomed_place, effect}
use Rattle.call_model.specs.MountRows as mounts
use Rattle.call_model.specs.NameRows as names
use Rattle.call_model.specs.Refs.{place_of}
use Rattle.call_model.specs.declared.call.Flags.{Flags}
use Rattle.call_model.specs.declared.entry.Inner.{Inner}
use Rattle.call_model.specs.declared.entry.Inner.TheVariants.{Shadow, CopyUp, Detach, Doom}
use Rattle.call_model.specs.declared.target.Target.{Target}
use Rattle.call_laws.proofs.FlagLaws.{get_each}
use Rattle.call_laws.proofs.FoundLaws.{head_uncut}
use Rattle.call_laws.proofs.MadeLaws.{kind_at}
use Rattle.call_laws.proofs.Parts.{Keeps, found_so, refused, needed, then, unless}
use Rattle.call_laws.proofs.SoundParts.{first_of, or_none, mount_there}
use Rattle.call_laws.proofs.SoundRows.{AnyNeed, LeavesSo, IsSteady}
use Rattle.call_laws.proofs.WalkLaws.{FoundWell}
use Rattle.call_laws.proofs.Whole.{IsWhole}
use Rattle.model_laws.proofs.Leaving.{past}
use Rattle.fuel_laws.proofs.ApartLaws.{same-store}
use Rattle.open_laws.proofs.StandLaws.{HasCwd, IsHeld, Grows}

-- ---- stores

-- the nodes that are there stay what they are
abbrev KeepsNodes : Store → Store → Type 0
KeepsNodes t new = (d : ℕ) (k : Kind) → kind_at t d ≡ Some k → kind_at new d ≡ Some k

kept_at : (g : Node → Node) → ((n : Node) → kind_of_node (g n) ≡ kind_of_node n) → (t : Store) (i : ℕ) → KeepsNodes t (with_node_at g t i)
kept_at g same t i = by (get t.nodes i) refl
  where
    by : (o : Option Node) → get t.nodes i ≡ o → KeepsNodes t (record t { nodes = with_node g t.nodes i o })
    by (Some n) at d k e =
        by_key nat_cmp_total exact_unsigned t.nodes i (g n) d (λ o. option_map kind_of_node o ≡ Some k)
        (λ is. ap Some (same n) ∙ sym (ap (λ x. option_map kind_of_node (get t.nodes x)) is ∙ ap (option_map kind_of_node) at) ∙ e) e
    by None at d k e = e

same_names : (f : Names → Names) (n : Node) → kind_of_node (with_names f n) ≡ kind_of_node n
same_names f (Dir parent opaque names) = refl
same_names f (File bytes) = refl
same_names f (Link target) = refl

same_bytes : (f : List ℕ → List ℕ) (n : Node) → kind_of_node (with_bytes f n) ≡ kind_of_node n
same_bytes f (Dir parent opaque names) = refl
same_bytes f (File bytes) = refl
same_bytes f (Link target) = refl

same_moved : (parent : ℕ) (hides : Bool) (n : Node) → kind_of_node (moved parent hides n) ≡ kind_of_node n
same_moved parent hides (Dir old opaque names) = refl
same_moved parent hides (File bytes) = refl
same_moved parent hides (Link target) = refl

kept_names : (f : Names → Names) (t : Store) (i : ℕ) → KeepsNodes t (with_node_at (with_names f) t i)
kept_names f t i = kept_at (with_names f) (same_names f) t i

kept_emptied : (t : Store) (o : Option NameEntry) → KeepsNodes t (emptied t o)
kept_emptied t (Some (Ino i)) = kept_names (λ names. empty) t i
kept_emptied t (Some White) = λ d k e. e
kept_emptied t None = λ d k e. e

kept_drop : (white : Bool) (t : Store) (dir : ℕ) (n : List ℕ) → KeepsNodes t (drop_entry white t dir n)
kept_drop true t dir n = kept_names (λ names. insert names n White) t dir
kept_drop false t dir n = kept_names (λ names. remove names n) t dir

kept_removed : (white : Bool) (t : Store) (dir : ℕ) (n : List ℕ) → KeepsNodes t (removed white t dir n)
kept_removed white t dir n = λ d k e. kept_drop white (emptied t (entry_of t dir n)) dir n d k (kept_emptied t (entry_of t dir n) d k e)

kept_renamed_to : (t : Store) (dir : ℕ) (n : List ℕ) (hides : Bool) (o : Option NameEntry) → KeepsNodes t (renamed_to t dir n hides o)
kept_renamed_to t dir n hides (Some (Ino i)) =
    λ d k e. kept_at (moved dir hides) (same_moved dir hides) (set_entry t dir n (Ino i)) i d k (kept_names (λ names. insert names n (Ino i)) t dir d k e)
kept_renamed_to t dir n hides (Some White) = λ d k e. e
kept_renamed_to t dir n hides None = λ d k e. e

kept_renamed : (white opaque : Bool) (t : Store) (from : ℕ) (old : List ℕ) (to : ℕ) (new : List ℕ) → KeepsNodes t (renamed white opaque t from old to new)
kept_renamed white opaque t from old to new =
    let less : Store = emptied t (entry_of t to new) in
    λ d k e. kept_renamed_to (drop_entry white less from old) to new (opaque || is_white (entry_of t to new)) (entry_of t from old) d k (kept_drop white less from old d k (kept_emptied t (entry_of t to new) d k e))

node_there : (k : Kind) (o : Option Node) → option_map kind_of_node o ≡ Some k → IsSome o
node_there k (Some n) e = refl
node_there k None e = absurd (let clash : None ≡ Some k = e in cc)

kept_made : (t : Store) (dir : ℕ) (n : List ℕ) (node : Node) → AreBelow t.nodes t.next → KeepsNodes t (made t dir n node)
kept_made t dir n node below = λ d k e.
    kept_names (λ names. insert names n (Ino t.next)) (record t { nodes = insert t.nodes t.next node }) dir d k
    (by_key nat_cmp_total exact_unsigned t.nodes t.next node d (λ o. option_map kind_of_node o ≡ Some k)
    (λ is. let less : d < t.next = below d (node_there k (get t.nodes d) e) in absurd (omega (arith, less, is))) e)

-- ---- worlds

-- what is made lies in the mount of its directory
made_mount : (d : Seen) (i : ℕ) → mount_of (rows.place_in d i) ≡ mount_of d
made_mount (Mem m u) i = refl
made_mount (Null m p) i = refl
made_mount (UnionUp m u) i = refl
made_mount (UnionLow m u n p) i = refl

pub cut_same : (w v : World) → v.mounts ≡ w.mounts → (n : ℕ) → is_cut (facts_of w) n ≡ false → is_cut (facts_of v) n ≡ false
cut_same w v e n cut = ap (λ (x : Mounts). cut_by (get x n)) e ∙ cut

module _ (w : World) (h : IsWhole w) where
  abbrev f : Facts
  f = facts_of w

  abbrev Lies : World → Open → Type 0
  Lies v o = o.dead ≡ false → IsHeld w v (mount_of o.place)

  abbrev Sits : World → Cwd → Type 0
  Sits v d = d.dead ≡ false → HasCwd w (mount_of d.place) ⊎ IsHeld w v (mount_of d.place)

  own : (v : World) (k : ℕ × ℕ) (o : Option Open) → get w.opens k ≡ o → IfSome o (Lies v)
  own v k (Some o) at = λ alive. inl (record { key = k; file = o; at = at; alive = alive; mount = refl })
  own v k None at = tt

  own_cwd : (v : World) (c : ℕ) (o : Option Cwd) → get w.cwds c ≡ o → IfSome o (Sits v)
  own_cwd v c (Some d) at = λ alive. inl (record { caller = c; dir = d; at = at; alive = alive; mount = refl })
  own_cwd v c None at = tt

  pub grows-itself : Grows w w
  grows-itself = record { stays = record { kinds = λ m k e. e; nodes = λ s i k e. e }; adds = λ m k less e. e; opens = λ k. own w k (get w.opens k) refl; cwds = λ c. own_cwd w c (get w.cwds c) refl }

  abbrev node_kind : ℕ → Option Store → Option Kind
  node_kind i o = option_map kind_of_node (option_and_then (λ (t : Store). get t.nodes i) o)

  grows-store : (v : World) → Grows w v → (edit : Store → Store) (s : ℕ) (o : Option Store) → get v.stores s ≡ o → IfSome o (λ t. KeepsNodes t (edit t)) → Grows w (with_store edit v s o)
  grows-store v x edit s (Some t) at keeps = record {
    stays = record {
      kinds = x.stays.kinds;
      nodes = λ r i k e. by_key nat_cmp_total exact_unsigned v.stores s (edit t) r (λ o. node_kind i o ≡ Some k)
          (λ is. keeps i k (sym (ap (node_kind i) (ap (get v.stores) is ∙ at)) ∙ x.stays.nodes r i k e)) (x.stays.nodes r i k e);
    };
    adds = x.adds;
    opens = x.opens;
    cwds = x.cwds;
  }
  grows-store v x edit s None at keeps = x

  each_store : (edit : Store → Store) → ((t : Store) → KeepsNodes t (edit t)) → (o : Option Store) → IfSome o (λ t. KeepsNodes t (edit t))
  each_store edit keeps (Some t) = keeps t
  each_store edit keeps None = tt

  grows-edit : (p : Seen) (edit : Store → ℕ → Store) → ((t : Store) (i : ℕ) → KeepsNodes t (edit t i)) → Grows w (edit_at w p edit)
  grows-edit p edit keeps =
      let b = base f p in grows-store w grows-itself (λ t. edit t b.ino) b.store (get w.stores b.store) refl (each_store (λ t. edit t b.ino) (λ t. keeps t b.ino) (get w.stores b.store))

  below_store : (u : ℕ) (n : List ℕ) (node : Node) (o : Option Store) → IfSome o (λ t. AreBelow t.nodes t.next) → IfSome o (λ t. KeepsNodes t (made t u n node))
  below_store u n node (Some t) x = kept_made t u n node x
  below_store u n node None x = tt

  grows-new : (s u : ℕ) (n : List ℕ) (node : Node) → Grows w (with_store (λ t. made t u n node) w s (get w.stores s))
  grows-new s u n node = grows-store w grows-itself (λ t. made t u n node) s (get w.stores s) refl (below_store u n node (get w.stores s) (h.lasts.numbered s))

  grows-make : (d : Seen) (n : List ℕ) (node : Node) → Keeps (λ v. Grows w v × (v.mounts ≡ w.mounts)) AnyNeed (make_at w d n node)
  grows-make d n node =
      let b = base f d in
      unless (is_full w b.store) _ (λ _. found_so (grows-new b.store b.ino n node, (same-store (λ t. made t b.ino n node) w b.store (get w.stores b.store)).1))

  -- ---- what is open

  grows-open : (v : World) → Grows w v → (k : ℕ × ℕ) (o : Open) → Lies v o → Grows w (record v { opens = insert v.opens k o })
  grows-open v x k o lies = record { stays = x.stays; adds = x.adds; opens = λ j. by_key pair_total pair_exact v.opens k o j (λ y. IfSome y (Lies v)) (λ _. lies) (x.opens j); cwds = x.cwds }

  grows-cwd : (v : World) → Grows w v → (c : ℕ) (d : Cwd) → Sits v d → Grows w (record v { cwds = insert v.cwds c d })
  grows-cwd v x c d sits = record { stays = x.stays; adds = x.adds; opens = x.opens; cwds = λ j. by_key nat_cmp_total exact_unsigned v.cwds c d j (λ y. IfSome y (Sits v)) (λ _. sits) (x.cwds j) }

  gone : (P : Open → Type 0) (b : Bool) (o : Option Open) → IfSome o P → IfSome (cond b None o) P
  gone P true o x = tt
  gone P false o x = x

  pub steady-grows : IsSteady (Grows w)
  steady-grows = record {
    moved = λ v k o at x is. grows-open v x k (record o { offset = at }) (subst (λ y. IfSome y (Lies v)) is (x.opens k));
    closed = λ v k x. record {
      stays = x.stays;
      adds = x.adds;
      opens = λ j. subst (λ y. IfSome y (Lies v)) (sym (get-remove pair_total v.opens k j)) (gone (Lies v) (eq_by_cmp pair_cmp j k) (get v.opens j) (x.opens j));
      cwds = x.cwds;
    };
    entered = λ v c k o x is alive dir. grows-cwd v x c (record { place = o.place; dead = false }) (λ _. inr (subst (λ y. IfSome y (Lies v)) is (x.opens k) alive));
    written = λ v s i g x. grows-store v x (λ t. with_node_at (with_bytes g) t i) s (get v.stores s) refl (each_store (λ t. with_node_at (with_bytes g) t i) (λ t. kept_at (with_bytes g) (same_bytes g) t i) (get v.stores s));
  }

  -- ---- names

  abbrev pub Fit : Outcome → Type 0
  Fit o = Keeps (LeavesSo (Grows w)) AnyNeed o

  grows-drop : (d : Seen) (n : List ℕ) → Grows w (drop_at w d n)
  grows-drop d n = grows-edit d (λ t dir. removed (is_in_union d) t dir n) (λ t i. kept_removed (is_in_union d) t i n)

  pub fit-mkdir : (a : Found) → Fit (names.mkdir w a)
  fit-mkdir a = past (free_target w a) (λ t. then (names.made_dir w t) (grows-make t.dir t.name _) (λ new x. found_so x.0))

  pub fit-rmdir : (a : Found) → Fit (names.rmdir w a)
  fit-rmdir a = past (target_at w errno.EINVAL a) (λ t. past (names.check_removed w t.child) (λ _. found_so (grows-drop t.dir t.name)))

  pub fit-unlink : (a : Found) → Fit (names.unlink w a)
  fit-unlink a = past (target_at w errno.EPERM a) (λ t. past (there t.child) (λ p. unless (is_dir (facts_of w) p) _ (λ _. found_so (grows-drop t.dir t.name))))

  pub fit-link : (a b : Found) → Fit (names.link w a b)
  fit-link a b =
      past (place_at w a) (λ p.
      unless (is_dir (facts_of w) p) _ (λ _.
      past (free_target w b) (λ t.
      unless (not (mount_of p == mount_of t.dir)) _ (λ _.
      past (copied w p) (λ _.
      found_so (grows-edit t.dir (λ s dir. set_entry s dir t.name (Ino (base (facts_of w) p).ino)) (λ s i. kept_names (λ names. insert names t.name (Ino (base (facts_of w) p).ino)) s i)))))))

  pub fit-symlink : (text : List ℕ) (a : Found) → Fit (names.symlink w text a)
  fit-symlink text a = past (names.check_text text) (λ _. past (free_target w a) (λ t. then (names.made_link w text t) (grows-make t.dir t.name _) (λ new x. found_so x.0)))

  pub fit-undelete : (a : Found) → Fit (names.undelete w a)
  fit-undelete a =
      past (target_at w errno.EEXIST a) (λ t.
      unless (not (has_white w t.dir t.name)) _ (λ _. found_so (grows-edit t.dir (λ s dir. clear_entry s dir t.name) (λ s i. kept_names (λ names. remove names t.name) s i))))

  fit-rename_case : (b : Bool) (source d : Seen) (n : List ℕ) (new : Target) → Fit (names.rename_case b w source d n new)
  fit-rename_case true source d n new = found_so grows-itself
  fit-rename_case false source d n new =
      past (names.check_source (is_dir (facts_of w) source) w source new.dir) (λ _.
      past (names.check_replaced w (is_dir (facts_of w) source) new.child) (λ _.
      past (copied w source) (λ _.
      found_so (grows-edit d (λ t from. renamed (is_in_union d) (is_in_union new.dir) t from n (base (facts_of w) new.dir).ino new.name)
      (λ t from. kept_renamed (is_in_union d) (is_in_union new.dir) t from n (base (facts_of w) new.dir).ino new.name)))))

  pub fit-rename : (a b : Found) → Fit (names.rename w a b)
  fit-rename a b =
      past (target_at w errno.EINVAL a) (λ old.
      past (there old.child) (λ source.
      past (target_at w errno.EINVAL b) (λ new.
      unless (not (mount_of old.dir == mount_of new.dir)) _ (λ _. fit-rename_case (names.is_there source new.child) source old.dir old.name new))))

  -- the mount of what is found isn't cut
  uncut_at : (a : Found) → FoundWell f a → Keeps (λ p. is_cut f (mount_of p) ≡ false) AnyNeed (place_at w a)
  uncut_at (found.At p) well = found_so (head_uncut f p well.good.uncut)
  uncut_at (found.In d n x) well = refused
  uncut_at (found.Dot d) well = refused
  uncut_at (found.Mount m) well = refused
  uncut_at (found.Refused e) well = refused
  uncut_at (found.Need y) well = unless (is_full w (upper_store w y.mount)) _ (λ _. needed tt)

  uncut_dir : (a : Found) → FoundWell f a → Keeps (λ p. is_cut f (mount_of p) ≡ false) AnyNeed (dir_at w a)
  uncut_dir a well = then (place_at w a) (uncut_at a well) (λ p cut. unless (not (is_dir (facts_of w) p)) _ (λ _. found_so cut))

  pub fit-chdir : (c : ℕ) (a : Found) → FoundWell f a → Fit (names.chdir w c a)
  fit-chdir c a well = then (dir_at w a) (uncut_dir a well) (λ d cut. found_so (grows-cwd w grows-itself c (record { place = d; dead = false }) (λ _. inr (inr cut))))

  -- ---- open(2)

  grows-cut : (b : Bool) (p : Seen) → Grows w (rows.cut_to b w p) × ((rows.cut_to b w p).mounts ≡ w.mounts)
  grows-cut true p =
      let b = base f p in
      (grows-edit p (λ t i. resized t i 0) (λ t i. kept_at (with_bytes _) (same_bytes _) t i), (same-store (λ t. resized t b.ino 0) w b.store (get w.stores b.store)).1)
  grows-cut false p = (grows-itself, refl)

  fit-open_there : (c fd : ℕ) (x : Flags) (p : Seen) → is_cut f (mount_of p) ≡ false → Fit (rows.open_there w c fd x p)
  fit-open_there c fd x p cut =
      unless (is_dir (facts_of w) p && rows.writes x.access) _ (λ _.
      unless (not (is_dir (facts_of w) p) && x.dir) _ (λ _.
      past (rows.copied_for (rows.writes x.access) w p) (λ _.
      let y = grows-cut x.cut p in
      found_so (grows-open (rows.cut_to x.cut w p) y.0 (c, fd) (record { place = p; offset = 0; mode = rows.mode_of x; dead = false }) (λ _. inr (cut_same w (rows.cut_to x.cut w p) y.1 (mount_of p) cut))))))

  fit-open_made : (c fd : ℕ) (x : Flags) (d : Seen) (n : List ℕ) → is_cut f (mount_of d) ≡ false → Fit (rows.open_made w c fd x d n)
  fit-open_made c fd x d n cut =
      let p : Seen = rows.place_in d (next_of (get w.stores (base (facts_of w) d).store)) in
      then (make_at w d n (File [])) (grows-make d n (File [])) (λ new y.
      found_so (grows-open new y.0 (c, fd) (record { place = p; offset = 0; mode = rows.mode_of x; dead = false })
      (λ _. inr (cut_same w new y.1 (mount_of p) (subst (λ a. is_cut f a ≡ false) (sym (made_mount d (next_of (get w.stores (base (facts_of w) d).store)))) cut)))))

  fit-open_found : (c fd : ℕ) (x : Flags) (a : Found) → FoundWell f a → Fit (rows.open_found w c fd x a)
  fit-open_found c fd x (found.At p) well = fit-open_there c fd x p (head_uncut f p well.good.uncut)
  fit-open_found c fd x (found.In d n None) well = fit-open_made c fd x d n (head_uncut f d well.good.uncut)
  fit-open_found c fd x (found.In d n (Some p)) well = refused
  fit-open_found c fd x (found.Dot d) well = refused
  fit-open_found c fd x (found.Mount m) well = refused
  fit-open_found c fd x (found.Refused e) well = refused
  fit-open_found c fd x (found.Need y) well = unless (is_full w (upper_store w y.mount)) _ (λ _. needed tt)

  pub fit-open_file : (c : ℕ) (x : Flags) (a : Found) → FoundWell f a → Fit (rows.open_file w c x a)
  fit-open_file c x a well =
      unless (not (rows.are_flags x)) _ (λ _.
      past (rows.free_descriptor w c) (λ fd.
      unless (not (nat_lt (len w.opens) w.limits.files)) _ (λ _. fit-open_found c fd x a well)))

  -- ---- mounts

  grows-mount : (s : FinMap nat_cmp Store) → ((r i : ℕ) (k : Kind) → f.kind r i ≡ Some k → node_kind i (get s r) ≡ Some k) → (k : MountKind) (on : Seen) → Grows w (mounts.with_mount (record w { stores = s }) k on)
  grows-mount s nodes k on =
      let t : Mount = record { number = w.next_mount; kind = k; on = Some on; cut = false } in
      record {
        stays = record {
          kinds = λ m x is. by_key nat_cmp_total exact_unsigned w.mounts w.next_mount t m (λ o. option_map (λ (t : Mount). t.kind) o ≡ Some x)
              (λ same. let less : m < w.next_mount = h.lasts.counted.mounts m (mount_there (get w.mounts m) (ap is_some is)) in absurd (omega (arith, less, same))) is;
          nodes = nodes;
        };
        adds = λ m x less. by_key nat_cmp_total exact_unsigned w.mounts w.next_mount t m (λ o. option_map (λ (t : Mount). t.kind) o ≡ Some x → kind_in f m ≡ Some x) (λ same _. absurd (omega (arith, less, same))) (λ is. is);
        opens = λ j. own (mounts.with_mount (record w { stores = s }) k on) j (get w.opens j) refl;
        cwds = λ c. own_cwd (mounts.with_mount (record w { stores = s }) k on) c (get w.cwds c) refl;
      }

  store_there : (i : ℕ) (k : Kind) (o : Option Store) → node_kind i o ≡ Some k → IsSome o
  store_there i k (Some t) e = refl
  store_there i k None e = absurd (let clash : None ≡ Some k = e in cc)

  pub fit-mount_mem : (a : Found) → Fit (mounts.mount_mem w a)
  fit-mount_mem a =
      past (dir_at w a) (λ on.
      past (mounts.check_mounts w) (λ _.
      found_so (grows-mount (insert w.stores w.next_mount empty_store)
      (λ r i k e. by_key nat_cmp_total exact_unsigned w.stores w.next_mount empty_store r (λ o. node_kind i o ≡ Some k)
      (λ same. let less : r < w.next_mount = h.lasts.counted.stores r (store_there i k (get w.stores r) e) in absurd (omega (arith, less, same))) e) kind.Mem on)))

  pub fit-mount_null : (a b : Found) → Fit (mounts.mount_null w a b)
  fit-mount_null a b =
      past (dir_at w a) (λ layer.
      past (dir_at w b) (λ on.
      unless (same_place layer on) _ (λ _.
      unless (depth (facts_of w) layer == mounts.most_depth) _ (λ _.
      past (mounts.check_mounts w) (λ _. found_so (grows-mount w.stores (λ r i k e. e) (kind.Null layer) on))))))

  pub fit-mount_union : (a b : Found) → Fit (mounts.mount_union w a b)
  fit-mount_union a b =
      past (dir_at w a) (λ up.
      past (dir_at w b) (λ on.
      past (mounts.upper_of up) (λ upper.
      unless (list_any (λ s. s == upper.store) (stores (facts_of w) on)) _ (λ _.
      unless (depth (facts_of w) on == mounts.most_depth) _ (λ _.
      past (mounts.check_mounts w) (λ _. found_so (grows-mount w.stores (λ r i k e. e) (kind.Union upper.store upper.ino on) on)))))))

  -- ---- inner entries

  grows-above : (m u : ℕ) (n : List ℕ) (node : Node) → Grows w (made_above w m u n node) × ((made_above w m u n node).opens ≡ w.opens)
  grows-above m u n node = let s = upper_store w m in (grows-new s u n node, (same-store (λ t. made t u n node) w s (get w.stores s)).0)

  -- an open file turns to another place in its mount
  turned_mount : (m u i : ℕ) (n : List ℕ) (q p : Seen) → mount_of (turned (UnionLow m u n q) (UnionUp m i) p) ≡ mount_of p
  turned_mount m u i n q (Mem l j) = refl
  turned_mount m u i n q (Null l p) = refl
  turned_mount m u i n q (UnionUp l j) = refl
  turned_mount m u i n q (UnionLow l b k p) = by (same_place (UnionLow m u n q) (UnionLow l b k p)) refl
    where
      by : (c : Bool) → same_place (UnionLow m u n q) (UnionLow l b k p) ≡ c → mount_of (cond c (UnionUp m i) (UnionLow l b k (turned (UnionLow m u n q) (UnionUp m i) p))) ≡ l
      by true e = eqb-true m l (first_of (m == l) ((u == b) && (bytes_eq n k && same_place q p)) e)
      by false e = refl

  turned_lies : (v : World) (m u i : ℕ) (n : List ℕ) (q : Seen) (o : Option Open) → IfSome o (Lies v) → IfSome (option_map (turned_open (UnionLow m u n q) (UnionUp m i)) o) (Lies v)
  turned_lies v m u i n q (Some o) x = λ alive. subst (IsHeld w v) (sym (turned_mount m u i n q o.place)) (x alive)
  turned_lies v m u i n q None x = tt

  grows-copied : (m u : ℕ) (n : List ℕ) (c : Child) → Grows w (copied_child w m u n c)
  grows-copied m u n (child.At q) =
      let y = grows-above m u n (copy_of (node_of w q)) in
      let v : World = made_above w m u n (copy_of (node_of w q)) in
      let i = next_of (get w.stores (upper_store w m)) in
      record {
        stays = y.0.stays;
        adds = y.0.adds;
        opens = λ k. subst (λ o. IfSome o (Lies v)) (sym (get_each pair_total (turned_open (UnionLow m u n q) (UnionUp m i)) v.opens k)) (turned_lies v m u i n q (get v.opens k) (y.0.opens k));
        cwds = y.0.cwds;
      }
  grows-copied m u n child.Absent = (grows-above m u n (File [])).0
  grows-copied m u n (child.Need x) = (grows-above m u n (File [])).0

  cut_kind : (m : ℕ) (o : Option Mount) → option_map (λ (t : Mount). t.kind) (option_map (cut_with w.mounts m) o) ≡ option_map (λ (t : Mount). t.kind) o
  cut_kind m (Some t) = refl
  cut_kind m None = refl

  grows-detached : (c m : ℕ) → Grows w (detached w c m)
  grows-detached c m = record {
    stays = record { kinds = λ n k e. same n ∙ e; nodes = λ s i k e. e };
    adds = λ n k less e. sym (same n) ∙ e;
    opens = λ k. own (detached w c m) k (get w.opens k) refl;
    cwds = λ d. own_cwd (detached w c m) d (get w.cwds d) refl;
  }
    where
      same : (n : ℕ) → kind_in (facts_of (detached w c m)) n ≡ kind_in f n
      same n = ap (option_map (λ (t : Mount). t.kind)) (get_each nat_cmp_total (cut_with w.mounts m) w.mounts n) ∙ cut_kind m (get w.mounts n)

  doomed_lies : (p : Seen) (o : Option Open) → IfSome o (Lies w) → IfSome (option_map (doomed_open p) o) (Lies w)
  doomed_lies p (Some o) x = λ alive. x (or_none o.dead (same_place p o.place) alive).0
  doomed_lies p None x = tt

  doomed_sits : (p : Seen) (o : Option Cwd) → IfSome o (Sits w) → IfSome (option_map (doomed_cwd p) o) (Sits w)
  doomed_sits p (Some d) x = λ alive. x (or_none d.dead (same_place p d.place) alive).0
  doomed_sits p None x = tt

  grows-doomed : (o : Option Seen) → Grows w (doomed_place w o)
  grows-doomed (Some p) = record {
    stays = grows-itself.stays;
    adds = grows-itself.adds;
    opens = λ k. subst (λ o. IfSome o (Lies w)) (sym (get_each pair_total (doomed_open p) w.opens k)) (doomed_lies p (get w.opens k) (grows-itself.opens k));
    cwds = λ c. subst (λ o. IfSome o (Sits w)) (sym (get_each nat_cmp_total (doomed_cwd p) w.cwds c)) (doomed_sits p (get w.cwds c) (grows-itself.cwds c));
  }
  grows-doomed None = grows-itself

  pub grows-inner : (c : ℕ) (x : Inner) → Grows w (effect w c x)
  grows-inner c (Shadow m u n) = (grows-above m u n (new_dir u false)).0
  grows-inner c (CopyUp m u n) = grows-copied m u n (child_below (child_of (facts_of w)) (low (facts_of w) m u) n)
  grows-inner c (Detach m) = grows-detached c m
  grows-inner c (Doom at) = grows-doomed (place_of w at)
