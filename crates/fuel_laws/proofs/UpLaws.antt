-- The steps that are taken up from a directory are enough: for its lower part, and for what it is below.
use Rattle.std.proofs.Common.{◌≡◌, ℕ, zero, suc, ◌≤◌, ◌<◌, Bool, true, false, cond, not, ◌&&◌, ◌||◌, ◌==◌, List, [], ◌∷◌, refl, ap, sym, ◌∙◌, subst, arith}
use Rattle.std.specs.Prelude.{Option, Some, None}
use Rattle.vfs_tree.specs.Carriers.{below_case, below_within, is_below}
use Rattle.vfs_tree.specs.Child.{Lookup, only_dir, below_named, child_within, child_of, low_case, low_within, low_by, low, steps}
use Rattle.vfs_tree.specs.Facts.{Facts}
use Rattle.vfs_tree.specs.Layers.{kind_in, is_linked, is_opaque, parent_ino, base, same_node}
use Rattle.vfs_tree.specs.Place.{Seen, Mem}
use Rattle.vfs_tree.specs.Shown.{shown_child, shown_along, shown_at, shown}
use Rattle.vfs_tree.specs.Sound.{climb, is_union, IsSound}
use Rattle.vfs_tree.specs.Views.{facts_of}
use Rattle.vfs_tree.specs.declared.mount.MountKind.{MountKind}
use Rattle.vfs_tree.specs.declared.mount.MountKind.TheVariants as kind
use Rattle.vfs_tree.specs.declared.walk.Child.{Child}
use Rattle.vfs_tree.specs.declared.walk.Child.TheVariants as child
use Rattle.vfs_tree.specs.declared.walk.Need.{Need}
use Rattle.vfs_tree.specs.declared.world.World.{World}
use Rattle.call_laws.specs.Lasting.{IsLasting}
use Rattle.call_laws.proofs.NamedLaws.{no_way}
use Rattle.call_laws.proofs.SoundParts.{or_none}
use Rattle.call_laws.proofs.WayLaws.{not_one}
use Rattle.call_laws.proofs.Whole.{IsWhole}
use Rattle.fuel_laws.specs.Layered.{IsLayered}
use Rattle.fuel_laws.specs.ShownUnder.{shown_under, shown_lower}
use Rattle.fuel_laws.proofs.LookLaws.{low_whole}
use Rattle.fuel_laws.proofs.WayLaws.{IsShort, short_way, parent_linked}

-- ---- lower parts

module _ (f : Facts) (look : Lookup) (s upper : ℕ) (lower : Seen) where
  abbrev within : ℕ → ℕ → Child
  within k u = low_within k f look s upper lower u

  abbrev ends : ℕ → Bool
  ends u = is_opaque f s u || (u == 1)

  abbrev case : (ℕ → Child) → ℕ → Bool → Bool → Child
  case up u top end = low_case f look s lower up u top end

  -- the parents of both find the same
  same_up : (a b : ℕ → Child) (u : ℕ) (top end : Bool) → (end ≡ false → a (parent_ino f s u) ≡ b (parent_ino f s u)) → case a u top end ≡ case b u top end
  same_up a b u true end e = refl
  same_up a b u false true e = refl
  same_up a b u false false e = ap (λ x. only_dir f (below_named look x (f.name_of s u))) (e refl)

  -- as much is found by more steps as by enough
  same_low : (c j k u : ℕ) → climb c (f.dir s) u ≡ 1 → c < j → c < k → within j u ≡ within k u
  same_low c zero k u up x y = absurd (omega (arith, x))
  same_low c (suc j) zero u up x y = absurd (omega (arith, y))
  same_low zero (suc j) (suc k) u up x y =
      same_up (within j) (within k) u (u == upper) (ends u) (λ e. absurd (not_one u (or_none (is_opaque f s u) (u == 1) e).1 up))
  same_low (suc c) (suc j) (suc k) u up x y =
      same_up (within j) (within k) u (u == upper) (ends u) (λ e. same_low c j k (parent_ino f s u) up (omega (arith, x)) (omega (arith, y)))

  -- the first step of enough
  first_low : (c k u : ℕ) → climb c (f.dir s) u ≡ 1 → c < k → within k u ≡ case (within k) u (u == upper) (ends u)
  first_low c zero u up x = absurd (omega (arith, x))
  first_low zero (suc k) u up x =
      same_up (within k) (within (suc k)) u (u == upper) (ends u) (λ e. absurd (not_one u (or_none (is_opaque f s u) (u == 1) e).1 up))
  first_low (suc c) (suc k) u up x =
      same_up (within k) (within (suc k)) u (u == upper) (ends u) (λ e. same_low c k (suc k) (parent_ino f s u) up (omega (arith, x)) (omega (arith, x)))

  abbrev part : ℕ → Child
  part u = low_by f look u (Some (kind.Union s upper lower))

  linked_part : (b : Bool) (u : ℕ) → is_linked f s u ≡ b → b ≡ true → within steps u ≡ part u
  linked_part true u is e = sym (ap (λ b. cond b (within steps u) child.Absent) is)
  linked_part false u is e = no_way e

-- what is below a linked directory, by what is below its parent
part_whole : (w : World) → IsWhole w → (look : Lookup) (s upper u : ℕ) (lower : Seen) → is_linked (facts_of w) s u ≡ true
    → low_by (facts_of w) look u (Some (kind.Union s upper lower))
    ≡ low_case (facts_of w) look s lower (λ v. low_by (facts_of w) look v (Some (kind.Union s upper lower))) u (u == upper) (is_opaque (facts_of w) s u || (u == 1))
part_whole w h look s upper u lower linked =
    let f = facts_of w in
    let way : IsShort (f.dir s) u = short_way w h s u linked in
    sym (linked_part f look s upper lower true u linked refl)
    ∙ first_low f look s upper lower way.count steps u way.root way.less
    ∙ same_up f look s upper lower (within f look s upper lower steps) (part f look s upper lower) u (u == upper) (is_opaque f s u || (u == 1))
    (λ e. linked_part f look s upper lower true (parent_ino f s u) (parent_linked w s u h.sound linked (or_none (is_opaque f s u) (u == 1) e).1) refl)

-- the same for the kind of a mount
by_kind : (f : Facts) (look : Lookup) (s upper u : ℕ) (lower : Seen) (k : Option MountKind) → k ≡ Some (kind.Union s upper lower)
    → low_by f look u (Some (kind.Union s upper lower)) ≡ low_case f look s lower (λ v. low_by f look v (Some (kind.Union s upper lower))) u (u == upper) (is_opaque f s u || (u == 1))
    → low_by f look u k ≡ low_case f look s lower (λ v. low_by f look v k) u (u == upper) (is_opaque f s u || (u == 1))
by_kind f look s upper u lower k is h =
    subst (λ x. low_by f look u x ≡ low_case f look s lower (λ v. low_by f look v x) u (u == upper) (is_opaque f s u || (u == 1))) (sym is) h

pub lower_linked : (w : World) → IsSound w → IsLasting w → IsLayered w → (m u s upper : ℕ) (lower : Seen) → kind_in (facts_of w) m ≡ Some (kind.Union s upper lower) → is_linked (facts_of w) s u ≡ true
    → low (facts_of w) m u ≡ low_case (facts_of w) (child_of (facts_of w)) s lower (low (facts_of w) m) u (u == upper) (is_opaque (facts_of w) s u || (u == 1))
lower_linked w sound lasts layered m u s upper lower is linked =
    let f = facts_of w in
    low_whole w sound layered m u
    ∙ by_kind f (child_of f) s upper u lower (kind_in f m) is (part_whole w (record { sound = sound; lasts = lasts }) (child_of f) s upper u lower linked)
    ∙ same_up f (child_of f) s upper lower (λ v. low_by f (child_of f) v (kind_in f m)) (low f m) u (u == upper) (is_opaque f s u || (u == 1)) (λ e. sym (low_whole w sound layered m (parent_ino f s u)))

pub lower_removed : (f : Facts) (m u s upper : ℕ) (lower : Seen) → kind_in f m ≡ Some (kind.Union s upper lower) → is_linked f s u ≡ false → low f m u ≡ child.Absent
lower_removed f m u s upper lower is removed = go (child_within m f)
  where
    go : (look : Lookup) → low_by f look u (kind_in f m) ≡ child.Absent
    go look = ap (low_by f look u) is ∙ ap (λ b. cond b (low_within steps f look s upper lower u) child.Absent) removed

pub lower_none : (f : Facts) (m u : ℕ) → is_union (kind_in f m) ≡ false → low f m u ≡ child.Absent
lower_none f m u other = by (child_within m f) (kind_in f m) other
  where
    by : (look : Lookup) (k : Option MountKind) → is_union k ≡ false → low_by f look u k ≡ child.Absent
    by look (Some kind.Mem) e = refl
    by look (Some (kind.Null layer)) e = refl
    by look (Some (kind.Union s upper lower)) e = no_way (sym e)
    by look None e = refl

-- nothing is below one where the way up ends
low_ends : (f : Facts) (look : Lookup) (s upper u : ℕ) (lower : Seen) (k : ℕ) → (u == upper) ≡ false → (is_opaque f s u || (u == 1)) ≡ true → low_within k f look s upper lower u ≡ child.Absent
low_ends f look s upper u lower zero top end = refl
low_ends f look s upper u lower (suc k) top end =
    let up = low_within k f look s upper lower in
    ap (λ b. low_case f look s lower up u b (is_opaque f s u || (u == 1))) top ∙ ap (λ b. low_case f look s lower up u false b) end

none_either : (b : Bool) → cond b child.Absent child.Absent ≡ child.Absent
none_either true = refl
none_either false = refl

pub part_ends : (f : Facts) (look : Lookup) (m u s upper : ℕ) (lower : Seen) → kind_in f m ≡ Some (kind.Union s upper lower) → (u == upper) ≡ false → (is_opaque f s u || (u == 1)) ≡ true → low_by f look u (kind_in f m) ≡ child.Absent
part_ends f look m u s upper lower is top end =
    ap (low_by f look u) is ∙ ap (λ a. cond (is_linked f s u) a child.Absent) (low_ends f look s upper u lower steps top end) ∙ none_either (is_linked f s u)

pub part_opaque : (f : Facts) (look : Lookup) (m u s upper : ℕ) (lower : Seen) → kind_in f m ≡ Some (kind.Union s upper lower) → (u == upper) ≡ false → is_opaque f s u ≡ true → low_by f look u (kind_in f m) ≡ child.Absent
part_opaque f look m u s upper lower is top opaque = part_ends f look m u s upper lower is top (ap (λ b. b || (u == 1)) opaque)

pub part_root : (f : Facts) (look : Lookup) (m s upper : ℕ) (lower : Seen) → kind_in f m ≡ Some (kind.Union s upper lower) → (1 == upper) ≡ false → low_by f look 1 (kind_in f m) ≡ child.Absent
part_root f look m s upper lower is top = part_ends f look m 1 s upper lower is top (or_true (is_opaque f s 1))
  where
    or_true : (b : Bool) → (b || true) ≡ true
    or_true true = refl
    or_true false = refl

-- ---- trees

pub shown_lower_whole : (w : World) → IsSound w → IsLasting w → (m u s upper : ℕ) (lower : Seen) → kind_in (facts_of w) m ≡ Some (kind.Union s upper lower) → is_linked (facts_of w) s u ≡ true
    → shown_lower (facts_of w) m u
    ≡ low_case (facts_of w) (shown_child (facts_of w)) s lower (shown_lower (facts_of w) m) u (u == upper) (is_opaque (facts_of w) s u || (u == 1))
shown_lower_whole w sound lasts m u s upper lower is linked =
    let f = facts_of w in by_kind f (shown_child f) s upper u lower (kind_in f m) is (part_whole w (record { sound = sound; lasts = lasts }) (shown_child f) s upper u lower linked)

along_absent : (f : Facts) (ns : List (List ℕ)) → shown_along f child.Absent ns ≡ child.Absent
along_absent f [] = refl
along_absent f (n ∷ ns) = along_absent f ns

along_need : (f : Facts) (x : Need) (ns : List (List ℕ)) → shown_along f (child.Need x) ns ≡ child.Need x
along_need f x [] = refl
along_need f x (n ∷ ns) = along_need f x ns

pub shown_below : (w : World) (d : Seen) (n : List ℕ) (ns : List (List ℕ)) → shown w d (n ∷ ns) ≡ shown_under w (shown_child (facts_of w) d n) ns
shown_below w d n ns = by (shown_child (facts_of w) d n)
  where
    by : (x : Child) → shown_at w (shown_along (facts_of w) x ns) ≡ shown_under w x ns
    by (child.At p) = refl
    by child.Absent = ap (shown_at w) (along_absent (facts_of w) ns)
    by (child.Need x) = ap (shown_at w) (along_need (facts_of w) x ns)

-- ---- below

module _ (f : Facts) (s top : ℕ) where
  same_above : (a b : ℕ → Bool) (p : ℕ) (here end : Bool) → (end ≡ false → a p ≡ b p) → below_case a p here end ≡ below_case b p here end
  same_above a b p true end e = refl
  same_above a b p false true e = refl
  same_above a b p false false e = e refl

  same_within : (c j k i : ℕ) → climb c (f.dir s) i ≡ 1 → c < j → c < k → below_within j f s top i ≡ below_within k f s top i
  same_within c zero k i up x y = absurd (omega (arith, x))
  same_within c (suc j) zero i up x y = absurd (omega (arith, y))
  same_within zero (suc j) (suc k) i up x y =
      same_above (below_within j f s top) (below_within k f s top) (parent_ino f s i) (i == top) (i == 1) (λ e. absurd (not_one i e up))
  same_within (suc c) (suc j) (suc k) i up x y =
      same_above (below_within j f s top) (below_within k f s top) (parent_ino f s i) (i == top) (i == 1) (λ e. same_within c j k (parent_ino f s i) up (omega (arith, x)) (omega (arith, y)))

  first_within : (c k i : ℕ) → climb c (f.dir s) i ≡ 1 → c < k → below_within k f s top i ≡ below_case (below_within k f s top) (parent_ino f s i) (i == top) (i == 1)
  first_within c zero i up x = absurd (omega (arith, x))
  first_within zero (suc k) i up x =
      same_above (below_within k f s top) (below_within (suc k) f s top) (parent_ino f s i) (i == top) (i == 1) (λ e. absurd (not_one i e up))
  first_within (suc c) (suc k) i up x =
      same_above (below_within k f s top) (below_within (suc k) f s top) (parent_ino f s i) (i == top) (i == 1) (λ e. same_within c k (suc k) (parent_ino f s i) up (omega (arith, x)) (omega (arith, x)))

in_words : (above : ℕ → Bool) (p : ℕ) (store here end : Bool) → (store && below_case above p here end) ≡ ((store && here) || (not end && (store && above p)))
in_words above p true true end = refl
in_words above p true false true = refl
in_words above p true false false = refl
in_words above p false here true = refl
in_words above p false here false = refl

pub below_whole : (w : World) → IsSound w → IsLasting w → (s i : ℕ) (top : Seen) → is_linked (facts_of w) s i ≡ true
    → is_below (facts_of w) (Mem s i) top
    ≡ (same_node (base (facts_of w) (Mem s i)) (base (facts_of w) top) || (not (i == 1) && is_below (facts_of w) (Mem s (parent_ino (facts_of w) s i)) top))
below_whole w sound lasts s i top linked =
    let f = facts_of w in
    let t = base f top in
    let way : IsShort (f.dir s) i = short_way w (record { sound = sound; lasts = lasts }) s i linked in
    ap (λ b. (s == t.store) && b) (first_within f s t.ino way.count steps i way.root way.less)
    ∙ in_words (below_within steps f s t.ino) (parent_ino f s i) (s == t.store) (i == t.ino) (i == 1)

-- ---- more steps

pub low_more : (w : World) → IsSound w → IsLasting w → (k : ℕ) (look : Lookup) (s upper u : ℕ) (lower : Seen) → is_linked (facts_of w) s u ≡ true → steps ≤ k
    → low_within k (facts_of w) look s upper lower u ≡ low_within steps (facts_of w) look s upper lower u
low_more w sound lasts k look s upper u lower linked most =
    let way : IsShort ((facts_of w).dir s) u = short_way w (record { sound = sound; lasts = lasts }) s u linked in
    let less : way.count < steps = way.less in
    same_low (facts_of w) look s upper lower way.count k steps u way.root (omega (arith, less, most)) less

pub below_more : (w : World) → IsSound w → IsLasting w → (k s top i : ℕ) → is_linked (facts_of w) s i ≡ true → steps ≤ k
    → below_within k (facts_of w) s top i ≡ below_within steps (facts_of w) s top i
below_more w sound lasts k s top i linked most =
    let way : IsShort ((facts_of w).dir s) i = short_way w (record { sound = sound; lasts = lasts }) s i linked in
    let less : way.count < steps = way.less in
    same_within (facts_of w) s top way.count k steps i way.root (omega (arith, less, most)) less
