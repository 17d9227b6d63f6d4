-- The world at the start is sound, and inner entries keep worlds sound.
use Rattle.std.specs.declared.cmp.Ordering.{Ordering}
use Rattle.std.specs.declared.cmp.Ordering.TheVariants.{Less, Equal, Greater}
use Rattle.std.proofs.Common.{◌≡◌, ℕ, zero, suc, Bool, true, false, cond, not, ◌&&◌, ◌||◌, ◌==◌, List, [], ◌∷◌, map, refl, ap, sym, ◌∙◌, subst, nat_cmp}
use Rattle.std.specs.Prelude.{Option, Some, None, IfSome, is_some, option_map, option_and_then}
use Rattle.std.specs.List.{list_any}
use Rattle.std.specs.Cmp.{IsTotalOrder, nat_cmp_total}
use Rattle.std.specs.Ordering.{eq_by_cmp, is_eq}
use Rattle.std.specs.FinMap.{FinMap, get, insert, remove, empty, entries, find, put, get-empty, get-entries, get-remove, entries-insert}
use Rattle.std.specs.FinMap.Entries.{by_order}
use Rattle.std.proofs.lemmas.Map.Lookups.{exact_unsigned}
use Rattle.finite_maps.specs.Keys.{pair_cmp}
use Rattle.finite_maps.proofs.EntryLaws.{pair_total, pair_exact, by_key, get_at-insert}
use Rattle.vfs_tree.specs.Facts.{Facts}
use Rattle.vfs_tree.specs.Layers.{kind_in, linked_by}
use Rattle.vfs_tree.specs.Mounts.{Leaving, is_left, is_on, covers, cut_with}
use Rattle.vfs_tree.specs.Name.{name_cmp}
use Rattle.vfs_tree.specs.Nodes.{node_at, entry_in, entry_at}
use Rattle.vfs_tree.specs.Place.{Seen, Mem}
use Rattle.vfs_tree.specs.Start.{empty_dir, empty_store, root_mount, root_cwd, root_cwds, start_world}
use Rattle.vfs_tree.specs.Views.{kind_of_node, facts_in, dir_in, facts_of}
use Rattle.vfs_tree.specs.declared.limits.Limits.{Limits}
use Rattle.vfs_tree.specs.declared.mount.Mount.{Mount}
use Rattle.vfs_tree.specs.declared.mount.MountKind.TheVariants as kind
use Rattle.vfs_tree.specs.declared.node.NameEntry.{NameEntry}
use Rattle.vfs_tree.specs.declared.node.NameEntry.TheVariants.{Ino}
use Rattle.vfs_tree.specs.declared.node.Store.{Store}
use Rattle.vfs_tree.specs.declared.open.Cwd.{Cwd}
use Rattle.vfs_tree.specs.declared.open.Open.{Open}
use Rattle.vfs_tree.specs.declared.world.World.{World}
use Rattle.call_model.specs.Effects.{each, detached, doomed_open, doomed_cwd, doomed_place, doomed}
use Rattle.call_model.specs.Refs.{place_of}
use Rattle.call_model.specs.declared.entry.Ref.{Ref}
use Rattle.vfs_tree.specs.Sound.{LeadsUp, AreSoundNames, is_mem, IsSoundPlace, IsSoundDir, EachPlace, IsBelow, IsSoundView, covers_by, is_on_place, IsSound}
use Rattle.call_laws.proofs.FlagLaws.{get_each}
use Rattle.call_laws.proofs.SoundParts.{first_of, second_of, both_of, if_each, each_place, Stays, stays_place, stays_dir, or_none, not_then, mapped}

-- ---- the world at the start

-- a map with one entry
pub only : {X : Type 0} (k : ℕ) (v : X) (q : ℕ) (P : Option X → Type 0) → (q ≡ k → P (Some v)) → P None → P (get (insert {R = nat_cmp} empty k v) q)
only {X = X} k v q P here none = by_key nat_cmp_total exact_unsigned empty k v q P here (subst P (sym (get-empty {X = X} nat_cmp q)) none)

module _ (limits : Limits) where
  abbrev w : World
  w = start_world limits

  abbrev f : Facts
  f = facts_of w

  no_entry : (s d : ℕ) (n : List ℕ) → entry_at w s d n ≡ None
  no_entry s d n =
      only 0 empty_store s (λ o. entry_in n (option_and_then (λ (t : Store). get t.nodes d) o) ≡ None)
      (λ _. only 1 (empty_dir 1) d (λ o. entry_in n o ≡ None) (λ _. get-empty {X = NameEntry} name_cmp n) refl) refl

  start_lead : (s i : ℕ) → linked_by (f.dir s i) ≡ true → LeadsUp (f.dir s) i
  start_lead s i =
      only 0 empty_store s (λ o. linked_by (option_and_then (λ t. dir_in t i) o) ≡ true → LeadsUp (f.dir s) i)
      (λ _. only 1 (empty_dir 1) i (λ o. linked_by (option_and_then (facts_in empty_store i) o) ≡ true → LeadsUp (f.dir s) i)
      (λ root _. record { steps = 0; root = root }) (λ e. absurd (let clash : false ≡ true = e in cc)))
      (λ e. absurd (let clash : false ≡ true = e in cc))

  start_names : (s : ℕ) → AreSoundNames (f.entry s) (f.kind s) (f.dir s) (f.name_of s)
  start_names s = record {
    lead = start_lead s;
    removed = λ d n _. no_entry s d n;
    given = λ d i n e. absurd (let clash : None ≡ Some (Ino i) = sym (no_entry s d n) ∙ e in cc);
    once = λ d i n e _ _. absurd (let clash : None ≡ Some (Ino i) = sym (no_entry s d n) ∙ e in cc);
  }

  start_root : kind_in f 0 ≡ Some kind.Mem
  start_root = ap (option_map (λ (t : Mount). t.kind)) (get_at-insert nat_cmp_total empty 0 root_mount)

  pub start_node : node_at w 0 1 ≡ Some (empty_dir 1)
  start_node =
      ap (option_and_then (λ (t : Store). get t.nodes 1)) (get_at-insert nat_cmp_total empty 0 empty_store)
      ∙ get_at-insert nat_cmp_total empty 1 (empty_dir 1)

  start_place : IsSoundPlace f (Mem 0 1)
  start_place = record {
    mounts = ap is_mem start_root;
    base = ap (λ o. is_some (option_map kind_of_node o)) start_node;
    files = tt;
  }

  pub each_root : (n c : ℕ) → IfSome (get (root_cwds n) c) (λ d. d ≡ root_cwd)
  each_root zero c = subst (λ o. IfSome o (λ d. d ≡ root_cwd)) (sym (get-empty {X = Cwd} nat_cmp c)) tt
  each_root (suc n) c = by_key nat_cmp_total exact_unsigned (root_cwds n) (suc n) root_cwd c (λ o. IfSome o (λ d. d ≡ root_cwd)) (λ _. refl) (each_root n c)

  start_view : IsSoundView f
  start_view = record {
    names = start_names;
    places = λ m. only 0 root_mount m (λ o. IfSome o (λ t. t.cut ≡ false → EachPlace (IsSoundDir f) t)) (λ _ _. (tt, tt)) tt;
    root = start_root;
    smaller = λ m. only 0 root_mount m (λ o. IfSome o (EachPlace (IsBelow m))) (λ _. (tt, tt)) tt;
  }

  uncovered : (p : Seen) (m : ℕ) → is_on_place w p m ≡ false
  uncovered p m = only 0 root_mount m (λ o. covers_by w.leaving p o ≡ false) (λ _. refl) refl

  pub sound-start : IsSound (start_world limits)
  sound-start = record {
    view = start_view;
    opens = λ k. subst (λ o. IfSome o (λ o. o.dead ≡ false → IsSoundPlace f o.place)) (sym (get-empty {X = Open} pair_cmp k)) tt;
    cwds = λ c. if_each (λ d. d ≡ root_cwd) (λ d. d.dead ≡ false → IsSoundPlace f d.place) (λ d e _. subst (λ x. IsSoundPlace f x.place) (sym e) start_place) (get (root_cwds limits.callers) c) (each_root limits.callers c);
    apart = λ p m n e _. absurd (let clash : false ≡ true = sym (uncovered p m) ∙ e in cc);
  }

-- ---- what is changed alike

each_some : {K X : Type 0} {R : K → K → Ordering} → IsTotalOrder R → (g : X → X) (m : FinMap R X) (k : K) (P Q : X → Type 0) → ((x : X) → P x → Q (g x)) → IfSome (get m k) P → IfSome (get (each g m) k) Q
each_some o g m k P Q h p = subst (λ r. IfSome r Q) (sym (get_each o g m k)) (mapped g P Q h (get m k) p)

-- ---- dooms

sound_doomed_place : (w : World) (o : Option Seen) → IsSound w → IsSound (doomed_place w o)
sound_doomed_place w (Some p) h = record {
  view = h.view;
  opens = λ k. each_some pair_total (doomed_open p) w.opens k (λ o. o.dead ≡ false → IsSoundPlace (facts_of w) o.place) (λ o. o.dead ≡ false → IsSoundPlace (facts_of w) o.place) (λ o s e. s (or_none o.dead _ e).0) (h.opens k);
  cwds = λ c. each_some nat_cmp_total (doomed_cwd p) w.cwds c (λ d. d.dead ≡ false → IsSoundPlace (facts_of w) d.place) (λ d. d.dead ≡ false → IsSoundPlace (facts_of w) d.place) (λ d s e. s (or_none d.dead _ e).0) (h.cwds c);
  apart = h.apart;
}
sound_doomed_place w None h = h

-- what is doomed leaves a sound world
pub sound-doom : (w : World) (at : Ref) → IsSound w → IsSound (doomed w at)
sound-doom w at h = sound_doomed_place w (place_of w at) h

-- ---- detachments

-- an entry more at a new key
any_put : {K X : Type 0} (R : K → K → Ordering) (test : X → Bool) (k : K) (v : X) (es : List (K × X)) → find R k es ≡ None → list_any test (map (λ e. e.1) es) ≡ true → list_any test (map (λ e. e.1) (put R k v es)) ≡ true
any_put R test k v [] none h = cc
any_put R test k v (e ∷ es) none h =
    elim (R k e.0) as (λ r. R k e.0 ≡ r → list_any test (map (λ e. e.1) (by_order r ((k, v) ∷ e ∷ es) ((e.0, v) ∷ es) (e ∷ put R k v es))) ≡ true) [
      | Less ↦ λ _. behind (test v) (list_any test (map (λ e. e.1) (e ∷ es))) h
      | Equal ↦ λ is. absurd (let clash : Some e.1 ≡ None = sym (ap (λ r. cond (is_eq r) (Some e.1) (find R k es)) is) ∙ none in cc)
      | Greater ↦ λ is. deeper (test e.1) (list_any test (map (λ e. e.1) es)) (list_any test (map (λ e. e.1) (put R k v es))) (λ t. any_put R test k v es (sym (ap (λ r. cond (is_eq r) (Some e.1) (find R k es)) is) ∙ none) t) h
    ] refl
  where
    behind : (a b : Bool) → b ≡ true → (a || b) ≡ true
    behind true b e = refl
    behind false b e = e

    deeper : (a b c : Bool) → (b ≡ true → c ≡ true) → (a || b) ≡ true → (a || c) ≡ true
    deeper true b c g e = refl
    deeper false b c g e = g e

left_still : (leaving : Leaving) (c m n : ℕ) → get leaving c ≡ None → is_left leaving n ≡ true → is_left (insert leaving c m) n ≡ true
left_still leaving c m n none h =
    ap (λ es. list_any (λ x. x == n) (map (λ e. e.1) es)) (entries-insert nat_cmp_total leaving c m)
    ∙ any_put nat_cmp (λ x. x == n) c m (entries leaving) (sym (get-entries leaving c) ∙ none) h

-- what covers a place after a mount is detached did before
covered_before : (leaving : Leaving) (c m : ℕ) (cut : Mount → Mount) → ((t : Mount) → (cut t).on ≡ t.on) → ((t : Mount) → (cut t).number ≡ t.number) → get leaving c ≡ None → (p : Seen) (o : Option Mount)
    → covers_by (insert leaving c m) p (option_map cut o) ≡ true → covers_by leaving p o ≡ true
covered_before leaving c m cut on number none p (Some t) e =
    let new = insert leaving c m in
    let same : covers new p t ≡ true = sym (ap (λ x. is_on x p && not (is_left new (cut t).number)) (on t) ∙ ap (λ x. is_on t.on p && not (is_left new x)) (number t)) ∙ e in
    both_of (is_on t.on p) (not (is_left leaving t.number)) (first_of (is_on t.on p) (not (is_left new t.number)) same)
    (not_then (is_left leaving t.number) (is_left new t.number) (left_still leaving c m t.number none) (second_of (is_on t.on p) (not (is_left new t.number)) same))
covered_before leaving c m cut on number none p None e = e

module _ (w : World) (c m : ℕ) (none : get w.leaving c ≡ None) (h : IsSound w) where
  abbrev new : World
  new = detached w c m

  cut_kind : (o : Option Mount) → option_map (λ (t : Mount). t.kind) (option_map (cut_with w.mounts m) o) ≡ option_map (λ (t : Mount). t.kind) o
  cut_kind (Some t) = refl
  cut_kind None = refl

  same_kinds : (n : ℕ) → kind_in (facts_of new) n ≡ kind_in (facts_of w) n
  same_kinds n = ap (option_map (λ (t : Mount). t.kind)) (get_each nat_cmp_total (cut_with w.mounts m) w.mounts n) ∙ cut_kind (get w.mounts n)

  stays : Stays (facts_of w) (facts_of new)
  stays = record { kinds = λ n k e. same_kinds n ∙ e; nodes = λ s i k e. e }

  detached_view : IsSoundView (facts_of new)
  detached_view = record {
    names = h.view.names;
    places = λ n. each_some nat_cmp_total (cut_with w.mounts m) w.mounts n (λ t. t.cut ≡ false → EachPlace (IsSoundDir (facts_of w)) t) (λ t. t.cut ≡ false → EachPlace (IsSoundDir (facts_of new)) t)
        (λ t s e. each_place (IsSoundDir (facts_of w)) (IsSoundDir (facts_of new)) (stays_dir (facts_of w) (facts_of new) stays) t (s (or_none t.cut _ e).0)) (h.view.places n);
    root = same_kinds 0 ∙ h.view.root;
    smaller = λ n. each_some nat_cmp_total (cut_with w.mounts m) w.mounts n (EachPlace (IsBelow n)) (EachPlace (IsBelow n)) (λ t s. s) (h.view.smaller n);
  }

  before : (p : Seen) (n : ℕ) → is_on_place new p n ≡ true → is_on_place w p n ≡ true
  before p n e =
      covered_before w.leaving c m (cut_with w.mounts m) (λ t. refl) (λ t. refl) none p (get w.mounts n)
      (sym (ap (covers_by new.leaving p) (get_each nat_cmp_total (cut_with w.mounts m) w.mounts n)) ∙ e)

  -- a detachment by a caller that is leaving no mount leaves a sound world
  pub sound-detach : IsSound (detached w c m)
  sound-detach = record {
    view = detached_view;
    opens = λ k. if_each (λ o. o.dead ≡ false → IsSoundPlace (facts_of w) o.place) (λ o. o.dead ≡ false → IsSoundPlace (facts_of new) o.place) (λ o s e. stays_place (facts_of w) (facts_of new) stays o.place (s e)) (get w.opens k) (h.opens k);
    cwds = λ d. if_each (λ o. o.dead ≡ false → IsSoundPlace (facts_of w) o.place) (λ o. o.dead ≡ false → IsSoundPlace (facts_of new) o.place) (λ o s e. stays_place (facts_of w) (facts_of new) stays o.place (s e)) (get w.cwds d) (h.cwds d);
    apart = λ p a b x y. h.apart p a b (before p a x) (before p b y);
  }

-- ---- calls that change what is open alone

-- a descriptor's open file is set to one at a sound place
pub sound-open : (w : World) (at : ℕ × ℕ) (o : Open) → IsSound w → (o.dead ≡ false → IsSoundPlace (facts_of w) o.place) → IsSound (record w { opens = insert w.opens at o })
sound-open w at o h place = record {
  view = h.view;
  opens = λ k. by_key pair_total pair_exact w.opens at o k (λ x. IfSome x (λ o. o.dead ≡ false → IsSoundPlace (facts_of w) o.place)) (λ _. place) (h.opens k);
  cwds = h.cwds;
  apart = h.apart;
}

gone_sound : (P : Open → Type 0) (b : Bool) (x : Option Open) → IfSome x P → IfSome (cond b None x) P
gone_sound P true x h = tt
gone_sound P false x h = h

-- a descriptor is closed
pub sound-closed : (w : World) (at : ℕ × ℕ) → IsSound w → IsSound (record w { opens = remove w.opens at })
sound-closed w at h = record {
  view = h.view;
  opens = λ k. subst (λ x. IfSome x (λ o. o.dead ≡ false → IsSoundPlace (facts_of w) o.place)) (sym (get-remove pair_total w.opens at k))
      (gone_sound (λ o. o.dead ≡ false → IsSoundPlace (facts_of w) o.place) (eq_by_cmp pair_cmp k at) (get w.opens k) (h.opens k));
  cwds = h.cwds;
  apart = h.apart;
}

-- a current directory is set to one at a sound place
pub sound-cwd : (w : World) (c : ℕ) (d : Cwd) → IsSound w → IsSoundPlace (facts_of w) d.place → IsSound (record w { cwds = insert w.cwds c d })
sound-cwd w c d h place = record {
  view = h.view;
  opens = h.opens;
  cwds = λ k. by_key nat_cmp_total exact_unsigned w.cwds c d k (λ x. IfSome x (λ d. d.dead ≡ false → IsSoundPlace (facts_of w) d.place)) (λ _ _. place) (h.cwds k);
  apart = h.apart;
}
