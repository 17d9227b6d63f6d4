-- What the names of a store have where a directory has something at a name, or shows nothing.
use Rattle.std.proofs.Common.{◌≡◌, ℕ, zero, suc, ◌<◌, Bool, true, false, cond, List, [], ◌∷◌, refl, ap, sym, ◌∙◌, subst, arith}
use Rattle.std.specs.Prelude.{Option, Some, None, IsSome, is_some}
use Rattle.std.specs.List.{fold, filter_map, cons_option}
use Rattle.std.specs.Cmp.Lexicographic.{nat_list_cmp_total}
use Rattle.std.specs.Ordering.{eq_by_cmp}
use Rattle.std.specs.FinMap.{get, insert, entries, find, contains_key, get-entries, get-empty}
use Rattle.std.proofs.lemmas.Map.Lookups.{exact_bytes}
use Rattle.finite_maps.proofs.EntryLaws.{by_key}
use Rattle.vfs_tree.specs.Child.{child_mem, child_null, child_below, child_low, child_union, low, low_by, upper_entry, child_within}
use Rattle.vfs_tree.specs.Facts.{Facts}
use Rattle.vfs_tree.specs.Layers.{kind_in, store_by, base, is_dir}
use Rattle.vfs_tree.specs.Name.{name_cmp}
use Rattle.vfs_tree.specs.Nodes.{Names, entry_in, is_given, node_at}
use Rattle.vfs_tree.specs.Place.{Seen, Mem, Null, UnionUp, UnionLow, mount_of}
use Rattle.vfs_tree.specs.Sound.{is_mem, is_null, is_union, names_mounts, AreFiles, IsSoundPlace}
use Rattle.vfs_tree.specs.Steps.{◌>>=◌}
use Rattle.vfs_tree.specs.Views.{facts_of}
use Rattle.vfs_tree.specs.Visible.{names_in, names_at, given_name, given_names, with_lower_name, merged, Listed, listed_below, visible_within, visible, is_some_name, any_listed, has_visible}
use Rattle.vfs_tree.specs.declared.mount.MountKind.{MountKind}
use Rattle.vfs_tree.specs.declared.mount.MountKind.TheVariants as kind
use Rattle.vfs_tree.specs.declared.node.NameEntry.{NameEntry}
use Rattle.vfs_tree.specs.declared.node.NameEntry.TheVariants.{Ino, White}
use Rattle.vfs_tree.specs.declared.node.Node.{Node}
use Rattle.vfs_tree.specs.declared.node.Node.TheVariants.{Dir, File, Link}
use Rattle.vfs_tree.specs.declared.walk.Child.{Child}
use Rattle.vfs_tree.specs.declared.walk.Child.TheVariants as child
use Rattle.vfs_tree.specs.declared.walk.Need.{Need}
use Rattle.vfs_tree.specs.declared.walk.NodeId.{NodeId}
use Rattle.vfs_tree.specs.declared.walk.Step.{Step}
use Rattle.vfs_tree.specs.declared.walk.Step.TheVariants.{Go, Refuse, Wants}
use Rattle.vfs_tree.specs.declared.world.World.{World}
use Rattle.call_model.specs.DataRows.{place_in}
use Rattle.call_laws.specs.Lasting.{lower_mount, IsOver}
use Rattle.call_laws.proofs.DetachLaws.{lower_less}
use Rattle.call_laws.proofs.FoundLaws.{IsGood, IsGoodView, under_null}
use Rattle.call_laws.proofs.NamedLaws.{no_way}
use Rattle.call_laws.proofs.SoundParts.{first_of, second_of, both_of, number_or}
use Rattle.call_laws.proofs.WalkLaws.{stands_at, IsTarget}

-- whether a place is of a file that a union has in its lower layer alone
abbrev pub is_low : Seen → Bool
is_low (Mem m i) = false
is_low (Null m p) = is_low p
is_low (UnionUp m i) = false
is_low (UnionLow m u n p) = true

-- a directory isn't
pub dir_upper : (f : Facts) (p : Seen) → AreFiles f p → is_dir f p ≡ true → is_low p ≡ false
dir_upper f (Mem m i) files dir = refl
dir_upper f (Null m p) files dir = dir_upper f p files dir
dir_upper f (UnionUp m i) files dir = refl
dir_upper f (UnionLow m u n p) files dir = no_way (sym files.0 ∙ dir)

-- ---- children

-- a name of a node's directory gives the node on which a place rests
pub record Gives (f : Facts) (b : NodeId) (n : List ℕ) (p : Seen) : Type 0 where
  pub at : f.entry b.store b.ino n ≡ Some (Ino (base f p).ino)
  pub store : (base f p).store ≡ b.store

-- what the upper directory has at the name, by what is seen there
abbrev pub GivenAt : Facts → NodeId → List ℕ → Child → Type 0
GivenAt f b n (child.At p) = (is_low p ≡ false → Gives f b n p) × (is_low p ≡ true → is_given (f.entry b.store b.ino n) ≡ false)
GivenAt f b n child.Absent = is_given (f.entry b.store b.ino n) ≡ false
GivenAt f b n (child.Need x) = Unit {0}

module _ (f : Facts) (view : IsGoodView f) where
  given_mem : (m i : ℕ) (n : List ℕ) (e : Option NameEntry) → f.entry m i n ≡ e → GivenAt f (record { store = m; ino = i }) n (child_mem m e)
  given_mem m i n (Some (Ino j)) is = (λ _. record { at = is; store = refl }, λ e. no_way e)
  given_mem m i n (Some White) is = ap is_given is
  given_mem m i n None is = ap is_given is

  given_null : (m : ℕ) (b : NodeId) (n : List ℕ) (c : Child) → GivenAt f b n c → GivenAt f b n (child_null m c)
  given_null m b n (child.At p) h = (λ e. record { at = (h.0 e).at; store = (h.0 e).store }, h.1)
  given_null m b n child.Absent h = h
  given_null m b n (child.Need x) h = tt

  given_low : (m u : ℕ) (n : List ℕ) (b : NodeId) (c : Child) → is_given (f.entry b.store b.ino n) ≡ false → GivenAt f b n (child_low f m u n c)
  given_low m u n b (child.At q) free = by (is_dir f q)
    where
      by : (x : Bool) → GivenAt f b n (cond x (child.Need (record { mount = m; dir = u; name = n })) (child.At (UnionLow m u n q)))
      by true = tt
      by false = (λ e. no_way (sym e), λ _. free)
  given_low m u n b child.Absent free = free
  given_low m u n b (child.Need x) free = tt

  given_entry : (m u : ℕ) (n : List ℕ) (s upper : ℕ) (lower : Seen) → kind_in f m ≡ Some (kind.Union s upper lower) → (below : List ℕ → Child) (e : Option NameEntry) → f.entry s u n ≡ e
      → GivenAt f (record { store = store_by (kind_in f m); ino = u }) n (child_union f m u n e below)
  given_entry m u n s upper lower is below (Some (Ino i)) at = (λ _. record { at = ap (λ k. f.entry (store_by k) u n) is ∙ at; store = refl }, λ e. no_way e)
  given_entry m u n s upper lower is below (Some White) at = ap is_given (ap (λ k. f.entry (store_by k) u n) is ∙ at)
  given_entry m u n s upper lower is below None at =
      given_low m u n (record { store = store_by (kind_in f m); ino = u }) (below n) (ap is_given (ap (λ k. f.entry (store_by k) u n) is ∙ at))

  given_up : (m u : ℕ) (n : List ℕ) (below : List ℕ → Child) (k : Option MountKind) → kind_in f m ≡ k → is_union k ≡ true
      → GivenAt f (record { store = store_by (kind_in f m); ino = u }) n (child_union f m u n (upper_entry f k u n) below)
  given_up m u n below (Some kind.Mem) is h = no_way h
  given_up m u n below (Some (kind.Null layer)) is h = no_way h
  given_up m u n below (Some (kind.Union s upper lower)) is h = given_entry m u n s upper lower is below (f.entry s u n) refl
  given_up m u n below None is h = no_way h

  pub lower_first : (m : ℕ) (p : Seen) → IsOver f (Null m p) → mount_of p < m
  lower_first m p over = lower_less m (f.mount m) (mount_of p) (view.sound.smaller m) over.0

  given-within : (k : ℕ) (d : Seen) (n : List ℕ) → mount_of d < k → IsGood f d → is_dir f d ≡ true → GivenAt f (base f d) n (child_within k f d n)
  given-within zero d n less h dir = absurd (omega (arith, less))
  given-within (suc k) (Mem m i) n less h dir = given_mem m i n (f.entry m i n) refl
  given-within (suc k) (Null m p) n less h dir =
      let first : mount_of p < m = lower_first m p h.over in
      given_null m (base f p) n (child_within k f p n) (given-within k p n (omega (arith, first, less)) (under_null f m p h) dir)
  given-within (suc k) (UnionUp m u) n less h dir =
      given_up m u n (child_below (child_within k f) (low_by f (child_within k f) u (kind_in f m))) (kind_in f m) refl h.sound.mounts
  given-within (suc k) (UnionLow m u a p) n less h dir = no_way (sym h.sound.files.0 ∙ dir)

  -- what stands at a name, and what the names of the store have there
  pub given_target : (d : Seen) (n : List ℕ) (o : Option Seen) → IsTarget f d n o → GivenAt f (base f d) n (stands_at o)
  given_target d n o t = subst (GivenAt f (base f d) n) t.child (given-within (suc (mount_of d)) d n (omega arith) t.good t.dir)

  -- ---- two directories of one mount rest on one store

  mem_null : (k : Option MountKind) → is_mem k ≡ true → is_null k ≡ true → ⊥
  mem_null (Some kind.Mem) p q = no_way q
  mem_null (Some (kind.Null layer)) p q = no_way p
  mem_null (Some (kind.Union s u l)) p q = no_way p
  mem_null None p q = no_way p

  mem_union : (k : Option MountKind) → is_mem k ≡ true → is_union k ≡ true → ⊥
  mem_union (Some kind.Mem) p q = no_way q
  mem_union (Some (kind.Null layer)) p q = no_way p
  mem_union (Some (kind.Union s u l)) p q = no_way p
  mem_union None p q = no_way p

  null_union : (k : Option MountKind) → is_null k ≡ true → is_union k ≡ true → ⊥
  null_union (Some kind.Mem) p q = no_way p
  null_union (Some (kind.Null layer)) p q = no_way q
  null_union (Some (kind.Union s u l)) p q = no_way p
  null_union None p q = no_way p

  moved_kind : (test : Option MountKind → Bool) (m n : ℕ) → m ≡ n → test (kind_in f n) ≡ true → test (kind_in f m) ≡ true
  moved_kind test m n e h = ap (λ x. test (kind_in f x)) e ∙ h

  number_in : (a b : Option ℕ) (x y : ℕ) → a ≡ b → a ≡ Some x → b ≡ Some y → x ≡ y
  number_in a b x y e p q = ap number_or (sym p ∙ e ∙ q)

  pub same_store : (p q : Seen) → IsGood f p → IsGood f q → is_low p ≡ false → is_low q ≡ false → mount_of p ≡ mount_of q → (base f p).store ≡ (base f q).store
  same_store (Mem m i) (Mem n j) h k lp lq e = e
  same_store (Mem m i) (Null n q) h k lp lq e = absurd (mem_null (kind_in f m) h.sound.mounts (moved_kind is_null m n e (first_of (is_null (kind_in f n)) (names_mounts f q) k.sound.mounts)))
  same_store (Mem m i) (UnionUp n j) h k lp lq e = absurd (mem_union (kind_in f m) h.sound.mounts (moved_kind is_union m n e k.sound.mounts))
  same_store (Null m p) (Mem n j) h k lp lq e = absurd (mem_null (kind_in f m) (moved_kind is_mem m n e k.sound.mounts) (first_of (is_null (kind_in f m)) (names_mounts f p) h.sound.mounts))
  same_store (Null m p) (Null n q) h k lp lq e =
      same_store p q (under_null f m p h) (under_null f n q k) lp lq (number_in (lower_mount (kind_in f m)) (lower_mount (kind_in f n)) (mount_of p) (mount_of q) (ap (λ x. lower_mount (kind_in f x)) e) h.over.0 k.over.0)
  same_store (Null m p) (UnionUp n j) h k lp lq e = absurd (null_union (kind_in f m) (first_of (is_null (kind_in f m)) (names_mounts f p) h.sound.mounts) (moved_kind is_union m n e k.sound.mounts))
  same_store (UnionUp m i) (Mem n j) h k lp lq e = absurd (mem_union (kind_in f m) (moved_kind is_mem m n e k.sound.mounts) h.sound.mounts)
  same_store (UnionUp m i) (Null n q) h k lp lq e = absurd (null_union (kind_in f m) (moved_kind is_null m n e (first_of (is_null (kind_in f n)) (names_mounts f q) k.sound.mounts)) h.sound.mounts)
  same_store (UnionUp m i) (UnionUp n j) h k lp lq e = ap (λ x. store_by (kind_in f x)) e
  same_store (UnionLow m u a p) q h k lp lq e = no_way (sym lp)
  same_store p (UnionLow n u a q) h k lp lq e = no_way (sym lq)

-- ---- the place of an inode that a directory's name gives

module _ (f g : Facts) (same : (m : ℕ) → kind_in g m ≡ kind_in f m) (i : ℕ) where
  same_names : (d : Seen) → names_mounts f d ≡ true → names_mounts g d ≡ true
  same_names (Mem m u) h = ap is_mem (same m) ∙ h
  same_names (Null m p) h = both_of (is_null (kind_in g m)) (names_mounts g p) (ap is_null (same m) ∙ first_of (is_null (kind_in f m)) (names_mounts f p) h) (same_names p (second_of (is_null (kind_in f m)) (names_mounts f p) h))
  same_names (UnionUp m u) h = ap is_union (same m) ∙ h
  same_names (UnionLow m u n p) h = both_of (is_union (kind_in g m)) (names_mounts g p) (ap is_union (same m) ∙ first_of (is_union (kind_in f m)) (names_mounts f p) h) (same_names p (second_of (is_union (kind_in f m)) (names_mounts f p) h))

  in_names : (d : Seen) → names_mounts f d ≡ true → names_mounts g (place_in d i) ≡ true
  in_names (Mem m u) h = ap is_mem (same m) ∙ h
  in_names (Null m p) h = both_of (is_null (kind_in g m)) (names_mounts g (place_in p i)) (ap is_null (same m) ∙ first_of (is_null (kind_in f m)) (names_mounts f p) h) (in_names p (second_of (is_null (kind_in f m)) (names_mounts f p) h))
  in_names (UnionUp m u) h = ap is_union (same m) ∙ h
  in_names (UnionLow m u n p) h = both_of (is_union (kind_in g m)) (names_mounts g p) (ap is_union (same m) ∙ first_of (is_union (kind_in f m)) (names_mounts f p) h) (same_names p (second_of (is_union (kind_in f m)) (names_mounts f p) h))

  in_base : (d : Seen) → is_low d ≡ false → base g (place_in d i) ≡ record { store = (base f d).store; ino = i }
  in_base (Mem m u) h = refl
  in_base (Null m p) h = in_base p h
  in_base (UnionUp m u) h = let at : ℕ → NodeId = λ s. record { store = s; ino = i } in ap (λ k. at (store_by k)) (same m)
  in_base (UnionLow m u n p) h = no_way (sym h)

  in_files : (d : Seen) → is_low d ≡ false → AreFiles g (place_in d i)
  in_files (Mem m u) h = tt
  in_files (Null m p) h = in_files p h
  in_files (UnionUp m u) h = tt
  in_files (UnionLow m u n p) h = no_way (sym h)

  in_mount : (d : Seen) → mount_of (place_in d i) ≡ mount_of d
  in_mount (Mem m u) = refl
  in_mount (Null m p) = refl
  in_mount (UnionUp m u) = refl
  in_mount (UnionLow m u n p) = refl

  pub in_over : (d : Seen) → is_low d ≡ false → IsOver f d → IsOver g (place_in d i)
  in_over (Mem m u) h over = tt
  in_over (Null m p) h over = (ap lower_mount (same m) ∙ over.0 ∙ ap Some (sym (in_mount p)), in_over p h over.1)
  in_over (UnionUp m u) h over = tt
  in_over (UnionLow m u n p) h over = no_way (sym h)

  -- it is sound where the inode has a node
  pub in_sound : (d : Seen) → is_low d ≡ false → names_mounts f d ≡ true → IsSome (g.kind (base f d).store i) → IsSoundPlace g (place_in d i)
  in_sound d upper names there = record {
    mounts = in_names d names;
    base = ap (λ (b : NodeId). is_some (g.kind b.store b.ino)) (in_base d upper) ∙ there;
    files = in_files d upper;
  }

-- ---- directories that show no name

some_name : {A : Type 0} (n : List ℕ) (ns : List (List ℕ)) → n ∷ ns ≡ [] → A
some_name n ns e = absurd (let clash : true ≡ false = ap is_some_name e in cc)

no_more : (o : Option (List ℕ)) (ns : List (List ℕ)) → cons_option o ns ≡ [] → ns ≡ []
no_more (Some n) ns e = some_name n ns e
no_more None ns e = e

-- no entry gives an inode
none_gives : (es : List (List ℕ × NameEntry)) (m : List ℕ) (i : ℕ) → filter_map given_name es ≡ [] → find name_cmp m es ≡ Some (Ino i) → ⊥
none_gives [] m i h e = absurd (let clash : None ≡ Some (Ino i) = e in cc)
none_gives (x ∷ es) m i h e =
    elim (eq_by_cmp name_cmp m x.0) as (λ b. cond b (Some x.1) (find name_cmp m es) ≡ Some (Ino i) → ⊥) [
      | true ↦ λ is. at_head x.0 x.1 is h
      | false ↦ λ is. none_gives es m i (no_more (given_name x) (filter_map given_name es) h) is
    ] e
  where
    at_head : (k : List ℕ) (v : NameEntry) → Some v ≡ Some (Ino i) → cons_option (given_name (k, v)) (filter_map given_name es) ≡ [] → ⊥
    at_head k (Ino j) is h = some_name k (filter_map given_name es) h
    at_head k White is h = absurd (let clash : Some White ≡ Some (Ino i) = is in cc)

no_names : (names : Names) (m : List ℕ) (i : ℕ) → given_names names ≡ [] → get names m ≡ Some (Ino i) → ⊥
no_names names m i h e = none_gives (entries names) m i h (sym (get-entries names m) ∙ e)

-- what the upper directory has stays among the merged names
upper_stays : (upper : Names) (m : List ℕ) (e : NameEntry) → get upper m ≡ Some e → (lower : List (List ℕ)) (acc : Names) → get acc m ≡ Some e → get (fold (with_lower_name upper) acc lower) m ≡ Some e
upper_stays upper m e up [] acc h = h
upper_stays upper m e up (n ∷ ns) acc h = upper_stays upper m e up ns (with_lower_name upper acc n) (step (contains_key upper n) refl)
  where
    step : (b : Bool) → contains_key upper n ≡ b → get (cond b acc (insert acc n (Ino 0))) m ≡ Some e
    step true is = h
    step false is = by_key nat_list_cmp_total exact_bytes acc n (Ino 0) m (λ o. o ≡ Some e) (λ same. no_way (sym is ∙ ap (contains_key upper) (sym same) ∙ ap is_some up)) h

no_merged : (upper : Names) (lower : List (List ℕ)) (m : List ℕ) (i : ℕ) → merged upper lower ≡ [] → get upper m ≡ Some (Ino i) → ⊥
no_merged upper lower m i h e = no_names (fold (with_lower_name upper) upper lower) m i h (upper_stays upper m (Ino i) e lower upper e)

names_are : (m : List ℕ) (o : Option Node) → entry_in m o ≡ get (names_in o) m
names_are m (Some (Dir parent opaque names)) = refl
names_are m (Some (File bytes)) = sym (get-empty {X = NameEntry} name_cmp m)
names_are m (Some (Link target)) = sym (get-empty {X = NameEntry} name_cmp m)
names_are m None = sym (get-empty {X = NameEntry} name_cmp m)

-- what a listing comes to
record ListedGo (l : Listed) (k : List (List ℕ) → Listed) (r : List (List ℕ)) : Type 0 where
  pub names : List (List ℕ)
  pub then : k names ≡ Go r

listed_go : (l : Listed) (k : List (List ℕ) → Listed) (r : List (List ℕ)) → (l >>= k) ≡ Go r → ListedGo l k r
listed_go (Go names) k r e = record { names = names; then = e }
listed_go (Refuse x) k r e = absurd cc
listed_go (Wants x) k r e = absurd cc

abbrev names_or : Listed → List (List ℕ)
names_or (Go names) = names
names_or (Refuse e) = []
names_or (Wants x) = []

abbrev shows_or : Step Bool Need → Bool
shows_or (Go b) = b
shows_or (Refuse e) = true
shows_or (Wants x) = true

no_list : (ns : List (List ℕ)) → is_some_name ns ≡ false → ns ≡ []
no_list [] e = refl
no_list (n ∷ ns) e = no_way (sym e)

listed_none : (l : Listed) → any_listed l ≡ Go false → l ≡ Go []
listed_none (Go names) e = ap Go (no_list names (ap shows_or e))
listed_none (Refuse x) e = absurd cc
listed_none (Wants x) e = absurd cc

module _ (w : World) (view : IsGoodView (facts_of w)) where
  abbrev f : Facts
  f = facts_of w

  hides : (k : ℕ) (d : Seen) → mount_of d < k → IsGood f d → is_dir f d ≡ true → visible_within k w d ≡ Go [] → (m : List ℕ) (i : ℕ) → f.entry (base f d).store (base f d).ino m ≡ Some (Ino i) → ⊥
  hides zero d less h dir e m i at = absurd (omega (arith, less))
  hides (suc k) (Mem s u) less h dir e m i at = no_names (names_at w s u) m i (ap names_or e) (sym (names_are m (node_at w s u)) ∙ at)
  hides (suc k) (Null s p) less h dir e m i at =
      let first : mount_of p < s = lower_first f view s p h.over in
      hides k p (omega (arith, first, less)) (under_null f s p h) dir e m i at
  hides (suc k) (UnionUp s u) less h dir e m i at =
      let upper = names_at w (store_by (kind_in f s)) u in
      let x = listed_go (listed_below (visible_within k w) (low f s u)) (λ lower. Go (merged upper lower)) [] e in
      no_merged upper x.names m i (ap names_or x.then) (sym (names_are m (node_at w (store_by (kind_in f s)) u)) ∙ at)
  hides (suc k) (UnionLow s u a p) less h dir e m i at = no_way (sym h.sound.files.0 ∙ dir)

  -- a directory that shows no name has none that gives anything
  pub shows_none : (d : Seen) → IsGood f d → is_dir f d ≡ true → has_visible w d ≡ Go false → (m : List ℕ) (i : ℕ) → f.entry (base f d).store (base f d).ino m ≡ Some (Ino i) → ⊥
  shows_none d h dir e m i at = hides (suc (mount_of d)) d (omega arith) h dir (listed_none (visible w d) e) m i at
