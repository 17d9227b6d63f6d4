-- A revoke: what it dooms, and that its walk finds the same place after each doom.
use Rattle.std.proofs.Common.{◌≡◌, ℕ, ◌==◌, Bool, true, false, cond, not, T, nat_lt, List, [], ◌∷◌, length, map, filter, refl, sym, ap, subst, ◌∙◌, arith}
use Rattle.std.specs.Prelude.{◌&&◌, ◌||◌, if◌then◌else◌, Option, Some, None, option_map, IfSome, IsSome}
use Rattle.std.specs.List.{AllByRecursion, fold, slice_split, onto_first}
use Rattle.std.specs.FinMap.{FinMap, get, entries, find, is_sorted, entries_sorted, get-entries, get-from_entries}
use Rattle.std.specs.FinMap.Entries.{below_all}
use Rattle.std.specs.Cmp.{IsTotalOrder, nat_cmp_total}
use Rattle.std.specs.Ordering.{eq_by_cmp, is_eq, is_lt, ordering_reverse}
use Rattle.std.specs.declared.cmp.Ordering.{Ordering}
use Rattle.std.specs.declared.cmp.Ordering.TheVariants.{Less, Equal, Greater}
use Rattle.std.specs.Str.{bytes_eq}
use Rattle.std.proofs.lemmas.Bool.{and_parts, eqb-true, lt-ltb}
use Rattle.std.proofs.lemmas.Cmp.{tied_itself}
use Rattle.std.proofs.lemmas.Option.{same_Some, none-some}
use Rattle.std.proofs.lemmas.Slice.Eq.{bytes_eq-Decides}
use Rattle.finite_maps.proofs.EntryLaws.{pair_total}
use Rattle.vfs_tree.specs.Place.{Seen, Mem, Null, UnionUp, UnionLow, mount_of}
use Rattle.vfs_tree.specs.Facts.{Facts}
use Rattle.vfs_tree.specs.Layers.{base, same_node, same_place, is_dir, is_dir_kind, is_file, is_file_kind, is_cut, kind_of}
use Rattle.vfs_tree.specs.Path.{components, is_absolute}
use Rattle.vfs_tree.specs.Paths.{Path, component_of, has_zero, is_empty, is_too_long}
use Rattle.vfs_tree.specs.Steps.{◌>>=◌, ◌>>◌, refuse_if}
use Rattle.vfs_tree.specs.Views.{facts_of}
use Rattle.vfs_tree.specs.Walk.{Jump, Walked, along, entered, found_of, in_cwd, in_place, jump_within, walk, walk_from}
use Rattle.vfs_tree.specs.Walk as walks
use Rattle.vfs_tree.specs.declared.errno.Errno.{Errno}
use Rattle.vfs_tree.specs.declared.errno.Errno.TheVariants as errno
use Rattle.vfs_tree.specs.declared.node.Kind.{Kind}
use Rattle.vfs_tree.specs.declared.node.Kind.TheVariants as kind
use Rattle.vfs_tree.specs.declared.open.Cwd.{Cwd}
use Rattle.vfs_tree.specs.declared.open.Open.{Open}
use Rattle.vfs_tree.specs.declared.walk.Component.{Component}
use Rattle.vfs_tree.specs.declared.walk.Component.TheVariants.{Dot, DotDot, Name}
use Rattle.vfs_tree.specs.declared.walk.Found.{Found}
use Rattle.vfs_tree.specs.declared.walk.Found.TheVariants as found
use Rattle.vfs_tree.specs.declared.walk.Leaf.{Leaf}
use Rattle.vfs_tree.specs.declared.walk.Leaf.TheVariants as leaf
use Rattle.vfs_tree.specs.declared.walk.Need.{Need}
use Rattle.vfs_tree.specs.declared.walk.NodeId.{NodeId}
use Rattle.vfs_tree.specs.declared.walk.Step.{Step}
use Rattle.vfs_tree.specs.declared.walk.Step.TheVariants.{Go, Refuse, Wants}
use Rattle.vfs_tree.specs.declared.world.World.{World}
use Rattle.call_model.specs.Checks.{Doing, Outcome, is_full, upper_store}
use Rattle.call_model.specs.Effects.{doomed, doomed_cwd, doomed_place, each}
use Rattle.call_model.specs.MountRows.{revoke, revoke_next}
use Rattle.call_model.specs.Refs.{Reference, first, first_case, first_of_two, first_open, open_reference, open_references, place_of, stands_first}
use Rattle.call_model.specs.Rows.{check_way, found_at, row, way}
use Rattle.call_model.specs.declared.call.Call.TheVariants as call
use Rattle.call_model.specs.declared.entry.Inner.{Inner}
use Rattle.call_model.specs.declared.entry.Inner.TheVariants.{Shadow, Doom}
use Rattle.call_model.specs.declared.entry.Ref.{Ref}
use Rattle.call_model.specs.declared.entry.Ref.TheVariants.{Fd}
use Rattle.call_laws.specs.Fitting.{IsLive}
use Rattle.call_laws.specs.Revoking.{IsRevoking, first_open_on}

-- ---- one place, one node

pub same_seen : (p q : Seen) → same_place p q ≡ true → p ≡ q
same_seen (Mem m i) (Mem n j) e = let b = and_parts (m == n) (i == j) e in λ t. Mem (eqb-true m n b.0 t) (eqb-true i j b.1 t)
same_seen (Mem m i) (Null n q) e = absurd cc
same_seen (Mem m i) (UnionUp n j) e = absurd cc
same_seen (Mem m i) (UnionLow n v b q) e = absurd cc
same_seen (Null m p) (Mem n j) e = absurd cc
same_seen (Null m p) (Null n q) e =
    let b = and_parts (m == n) (same_place p q) e in
    let rest = same_seen p q b.1 in
    λ t. Null (eqb-true m n b.0 t) (rest t)
same_seen (Null m p) (UnionUp n j) e = absurd cc
same_seen (Null m p) (UnionLow n v b q) e = absurd cc
same_seen (UnionUp m i) (Mem n j) e = absurd cc
same_seen (UnionUp m i) (Null n q) e = absurd cc
same_seen (UnionUp m i) (UnionUp n j) e = let b = and_parts (m == n) (i == j) e in λ t. UnionUp (eqb-true m n b.0 t) (eqb-true i j b.1 t)
same_seen (UnionUp m i) (UnionLow n v b q) e = absurd cc
same_seen (UnionLow m u a p) (Mem n j) e = absurd cc
same_seen (UnionLow m u a p) (Null n q) e = absurd cc
same_seen (UnionLow m u a p) (UnionUp n j) e = absurd cc
same_seen (UnionLow m u a p) (UnionLow n v b q) e =
    let x = and_parts (m == n) ((u == v) && (bytes_eq a b && same_place p q)) e in
    let y = and_parts (u == v) (bytes_eq a b && same_place p q) x.1 in
    let z = and_parts (bytes_eq a b) (same_place p q) y.1 in
    let names = (bytes_eq-Decides a b).0 z.0 in
    let rest = same_seen p q z.1 in
    λ t. UnionLow (eqb-true m n x.0 t) (eqb-true u v y.0 t) (names t) (rest t)

node_same : (a b : NodeId) → same_node a b ≡ true → a ≡ b
node_same a b e =
    let p = and_parts (a.store == b.store) (a.ino == b.ino) e in
    λ t. record { store = eqb-true a.store b.store p.0 t; ino = eqb-true a.ino b.ino p.1 t }

file_no_dir : (k : Option Kind) → is_file_kind k ≡ true → is_dir_kind k ≡ false
file_no_dir (Some kind.File) e = refl
file_no_dir (Some kind.Dir) e = absurd cc
file_no_dir (Some kind.Link) e = absurd cc
file_no_dir None e = refl

-- where two places rest on one node and one is a file, the other is no directory
no_dir : (f : Facts) (p q : Seen) → is_file f q ≡ true → base f q ≡ base f p → is_dir f p ≡ false
no_dir f p q e same = file_no_dir (kind_of f p) (subst (λ b. is_file_kind (f.kind b.store b.ino) ≡ true) same e)

-- ---- the entries of a map, and a map with each value changed

both_at : (a b : Bool) → T (a && b) → T a × T b
both_at true b h = (tt, h)
both_at false b h = absurd h

is_less : (r : Ordering) → T (is_lt r) → r ≡ Less
is_less Less h = refl
is_less Equal h = absurd h
is_less Greater h = absurd h

module _ {K X : Type 0} {R : K → K → Ordering} (o : IsTotalOrder R) where
  abbrev IsFoundIn : List (K × X) → K × X → Type 0
  IsFoundIn es e = find R e.0 es ≡ Some e.1

  later : (k : K) (v : X) (es fs : List (K × X)) → T (below_all R k fs) → AllByRecursion (IsFoundIn es) fs → AllByRecursion (IsFoundIn ((k, v) ∷ es)) fs
  later k v es [] below h = tt
  later k v es (f ∷ fs) below h =
      let b = both_at (is_lt (R k f.0)) (below_all R k fs) below in
      let turned : R f.0 k ≡ Greater = o.antisymm f.0 k ∙ ap ordering_reverse (is_less (R k f.0) b.0) in
      (ap (λ r. cond (is_eq r) (Some v) (find R f.0 es)) turned ∙ h.0, later k v es fs b.1 h.1)

  all_found : (es : List (K × X)) → T (is_sorted R es) → AllByRecursion (IsFoundIn es) es
  all_found [] h = tt
  all_found (e ∷ es) h =
      let b = both_at (below_all R e.0 es) (is_sorted R es) h in
      (ap (λ r. cond (is_eq r) (Some e.1) (find R e.0 es)) (tied_itself o e.0), later e.0 e.1 es es b.0 (all_found es b.1))

  got : (m : FinMap R X) (es : List (K × X)) → AllByRecursion (IsFoundIn (entries m)) es → AllByRecursion (λ (e : K × X). get m e.0 ≡ Some e.1) es
  got m [] h = tt
  got m (e ∷ es) h = (get-entries m e.0 ∙ h.0, got m es h.1)

  -- each entry is what the map has at its key
  each_got : (m : FinMap R X) → AllByRecursion (λ (e : K × X). get m e.0 ≡ Some e.1) (entries m)
  each_got m = got m (entries m) (all_found (entries m) (entries_sorted m))

  find_each : (f : X → X) (es : List (K × X)) (q : K) → find R q (map (λ (e : K × X). (e.0, f e.1)) es) ≡ option_map f (find R q es)
  find_each f [] q = refl
  find_each f (e ∷ es) q =
      elim (eq_by_cmp R q e.0) as (λ b. cond b (Some (f e.1)) (find R q (map (λ (e : K × X). (e.0, f e.1)) es)) ≡ option_map f (cond b (Some e.1) (find R q es))) [
        | true ↦ refl
        | false ↦ find_each f es q
      ]

  get-each : (f : X → X) (m : FinMap R X) (q : K) → get (each f m) q ≡ option_map f (get m q)
  get-each f m q =
      get-from_entries o (map (λ (e : K × X). (e.0, f e.1)) (entries m)) q ∙ find_each f (entries m) q ∙ ap (option_map f) (sym (get-entries m q))

-- ---- the first of some references is one of them

one_kept : (f : Facts) (P : Reference → Type 0) (o : Option Reference) (r : Reference) → IfSome o P → P r → IfSome (first_of_two f o r) P
one_kept f P None r h g = g
one_kept f P (Some best) r h g = elim (stands_first f r best) as (λ b. IfSome (first_case best r b) P) [ true ↦ g | false ↦ h ]

kept : (f : Facts) (P : Reference → Type 0) (rs : List Reference) (o : Option Reference) → IfSome o P → AllByRecursion P rs → IfSome (fold (first_of_two f) o rs) P
kept f P [] o h all = h
kept f P (r ∷ rs) o h all = kept f P rs (first_of_two f o r) (one_kept f P o r h all.0) all.1

passed : (P : Reference → Type 0) (p : Reference → Bool) (rs : List Reference) → AllByRecursion P rs → AllByRecursion (λ r. P r × (p r ≡ true)) (filter p rs)
passed P p [] h = tt
passed P p (r ∷ rs) h =
    let rest = passed P p rs h.1 in
    elim (p r) as (λ b. p r ≡ b → AllByRecursion (λ r. P r × (p r ≡ true)) (cond b (r ∷ filter p rs) (filter p rs))) [
      | true ↦ λ e. ((h.0, e), rest)
      | false ↦ λ e. rest
    ] refl

named_first : (P : Reference → Type 0) (o : Option Reference) (at : Ref) → IfSome o P → option_map (λ (r : Reference). r.at) o ≡ Some at → (r : Reference) × P r × (r.at ≡ at)
named_first P None at h e = absurd (none-some at e)
named_first P (Some r) at h e = (r, h, same_Some r.at at e)

abbrev IsOpenOf : World → Reference → Type 0
IsOpenOf w r = (e : (ℕ × ℕ) × Open) × (get w.opens e.0 ≡ Some e.1) × (open_reference e ≡ r)

opens_all : (w : World) (es : List ((ℕ × ℕ) × Open)) → AllByRecursion (λ (e : (ℕ × ℕ) × Open). get w.opens e.0 ≡ Some e.1) es → AllByRecursion (IsOpenOf w) (map open_reference es)
opens_all w [] h = tt
opens_all w (e ∷ es) h = ((e, h.0, refl), opens_all w es h.1)

not_true : (b : Bool) → not b ≡ true → b ≡ false
not_true true e = absurd cc
not_true false e = refl

abbrev stays_open : World → NodeId → Reference → Bool
stays_open w node r = not r.dead && same_node (base (facts_of w) r.place) node

-- the first live open file that rests on a node is one of the open files, which is live and rests on the node
first_found : (w : World) (node : NodeId) (at : Ref) → first_open_on w node ≡ Some at
    → (e : (ℕ × ℕ) × Open) × (get w.opens e.0 ≡ Some e.1) × (Fd e.0.0 e.0.1 ≡ at) × (e.1.dead ≡ false) × (base (facts_of w) e.1.place ≡ node)
first_found w node at is =
    let all = passed (IsOpenOf w) (stays_open w node) (open_references w) (opens_all w (entries w.opens) (each_got pair_total w.opens)) in
    let f = facts_of w in
    let P : Reference → Type 0 = λ r. IsOpenOf w r × (stays_open w node r ≡ true) in
    let r = named_first P (first f (filter (stays_open w node) (open_references w))) at (kept f P (filter (stays_open w node) (open_references w)) None tt all) is in
    let e = r.1.0.0 in
    let same = r.1.0.2 in
    let tests = and_parts (not e.1.dead) (same_node (base f e.1.place) node) (subst (λ r. stays_open w node r ≡ true) (sym same) r.1.1) in
    (e, r.1.0.1, ap (λ r. r.at) same ∙ r.2, not_true e.1.dead tests.0, node_same (base f e.1.place) node tests.1)

pub open_there : (w : World) (node : NodeId) (at : Ref) → first_open_on w node ≡ Some at → (p : Seen) × (place_of w at ≡ Some p) × (base (facts_of w) p ≡ node)
open_there w node at is =
    let e = first_found w node at is in
    (e.0.1.place, subst (λ a. place_of w a ≡ Some e.0.1.place) e.2 (ap (option_map (λ (o : Open). o.place)) e.1), e.4)

pub live_open : (w : World) (node : NodeId) (at : Ref) → first_open_on w node ≡ Some at → IsLive w at
live_open w node at is =
    let e = first_found w node at is in
    subst (IsLive w) e.2 (subst (λ o. IfSome o (λ (o : Open). o.dead ≡ false) × IsSome o) (sym e.1) (e.3, refl))

-- ---- the row of a revoke

row_by : (w : World) (x : Doing (Unit {0})) (a : Found) (p : Seen) (node : NodeId) → x ≡ Go tt → a ≡ found.At p → is_file (facts_of w) p ≡ true → base (facts_of w) p ≡ node
    → (x >> Go (tt {0}) >> revoke w a) ≡ revoke_next w (first_open_on w node)
row_by w x a p node path is file rests =
    ap (λ (y : Doing (Unit {0})). y >> Go (tt {0}) >> revoke w a) path
    ∙ ap (revoke w) is
    ∙ ap (λ b. refuse_if {W = Inner} (not b) errno.EINVAL >> revoke_next w (first_open w p)) file
    ∙ ap (λ n. revoke_next w (first_open_on w n)) rests

pub revoking_row : (w : World) (c : ℕ) (text : List ℕ) (node : NodeId) → IsRevoking w c text node → row w c (call.Revoke text) ≡ revoke_next w (first_open_on w node)
revoking_row w c text node r = row_by w (check_way (way leaf.Follow text)) (found_at w c (way leaf.Follow text)) r.place node r.path r.found r.file r.node

-- ---- a revoke that dooms is one whose walk found a file

abbrev is_wants : {A W : Type 0} → Step A W → Bool
is_wants (Go a) = false
is_wants (Refuse e) = false
is_wants (Wants x) = true

abbrev is_doom : Outcome → Bool
is_doom (Go a) = false
is_doom (Refuse e) = false
is_doom (Wants (Doom at)) = true
is_doom (Wants _) = false

no_doom : (x : Outcome) (at : Ref) → is_doom x ≡ false → x ≡ Wants (Doom at) → ⊥
no_doom x at e is = let doom : is_doom x ≡ true = ap is_doom is in cc

doom_of : Ref → Outcome → Ref
doom_of d (Go a) = d
doom_of d (Refuse e) = d
doom_of d (Wants (Doom at)) = at
doom_of d (Wants _) = d

same_doom : (a b : Ref) → ◌≡◌ {A = Outcome} (Wants (Doom a)) (Wants (Doom b)) → a ≡ b
unfolding doom_of
same_doom a b e = ap (doom_of a) e

next_doom : (w : World) (o : Option Ref) (at : Ref) → revoke_next w o ≡ Wants (Doom at) → o ≡ Some at
next_doom w (Some a) at e = ap Some (same_doom a at e)
next_doom w None at e = absurd (no_doom (revoke_next w None) at refl e)

place_doom : (w : World) (p : Seen) (b : Bool) (at : Ref) → (refuse_if {W = Inner} (not b) errno.EINVAL >> revoke_next w (first_open w p)) ≡ Wants (Doom at)
    → (b ≡ true) × (first_open w p ≡ Some at)
place_doom w p true at e = (refl, next_doom w (first_open w p) at e)
place_doom w p false at e = absurd (no_doom (Refuse errno.EINVAL) at refl e)

need_doom : (w : World) (full : Bool) (x : Need) (at : Ref) → (refuse_if {W = Inner} full errno.ENOSPC >> Wants (Shadow x.mount x.dir x.name) >>= (λ p. refuse_if (not (is_file (facts_of w) p)) errno.EINVAL >> revoke_next w (first_open w p))) ≡ Wants (Doom at) → ⊥
need_doom w true x at e = no_doom (Refuse errno.ENOSPC) at refl e
need_doom w false x at e = no_doom (Wants (Shadow x.mount x.dir x.name)) at refl e

found_doom : (w : World) (a : Found) (at : Ref) → revoke w a ≡ Wants (Doom at) → (p : Seen) × (a ≡ found.At p) × (is_file (facts_of w) p ≡ true) × (first_open w p ≡ Some at)
found_doom w (found.At p) at e = let d = place_doom w p (is_file (facts_of w) p) at e in (p, refl, d.0, d.1)
found_doom w (found.Refused x) at e = absurd (no_doom (Refuse x) at refl e)
found_doom w (found.Need x) at e = absurd (need_doom w (is_full w (upper_store w x.mount)) x at e)
found_doom w (found.In d n c) at e = absurd (no_doom (Refuse errno.EINVAL) at refl e)
found_doom w (found.Dot d) at e = absurd (no_doom (Refuse errno.EINVAL) at refl e)
found_doom w (found.Mount m) at e = absurd (no_doom (Refuse errno.EINVAL) at refl e)

path_doom : (w : World) (x : Doing (Unit {0})) (a : Found) (at : Ref) → is_wants x ≡ false → (x >> Go (tt {0}) >> revoke w a) ≡ Wants (Doom at) → (x ≡ Go tt) × (revoke w a ≡ Wants (Doom at))
path_doom w (Go t) a at plain e = (refl, e)
path_doom w (Refuse x) a at plain e = absurd (no_doom (Refuse x) at refl e)
path_doom w (Wants x) a at plain e = absurd cc

-- a path is one or not, and needs nothing
three_checks : (a b c : Bool) (d e g : Errno) (path : Path)
    → is_wants (refuse_if {W = Inner} a d >> (refuse_if b e >> (refuse_if c g >> Go path)) >> Go (tt {0})) ≡ false
three_checks true b c d e g path = refl
three_checks false true c d e g path = refl
three_checks false false true d e g path = refl
three_checks false false false d e g path = refl

abbrev spelled : List ℕ → Path
spelled text = record { absolute = is_absolute text; parts = map component_of (components text) }

way_needs_nothing : (text : List ℕ) → is_wants (check_way (way leaf.Follow text)) ≡ false
way_needs_nothing text = three_checks (is_empty text) (has_zero text) (is_too_long text) errno.ENOENT errno.EINVAL errno.ENAMETOOLONG (spelled text)

pub revoking_first : (w : World) (c : ℕ) (text : List ℕ) (at : Ref) (p : Seen) → row w c (call.Revoke text) ≡ Wants (Doom at) → place_of w at ≡ Some p
    → IsRevoking w c text (base (facts_of w) p)
revoking_first w c text at p is there =
    let a = found_at w c (way leaf.Follow text) in
    let s = path_doom w (check_way (way leaf.Follow text)) a at (way_needs_nothing text) is in
    let d = found_doom w a at s.1 in
    let o = open_there w (base (facts_of w) d.0) at d.3 in
    let same : o.0 ≡ p = same_Some o.0 p (sym o.1 ∙ there) in
    record { path = s.0; place = d.0; found = d.1; file = d.2; node = sym o.2 ∙ ap (base (facts_of w)) same }

-- ---- the walk after a doom

abbrev is_at : Found → Bool
is_at (found.At p) = true
is_at _ = false

not_at : (x : Found) (q : Seen) → is_at x ≡ false → x ≡ found.At q → ⊥
not_at x q e is = let at : is_at x ≡ true = ap is_at is in cc

-- where the check of a directory refuses, nothing is found
none_passed : (b : Bool) (next : Walked (Unit {0})) (k : Walked Found) (q : Seen) → b ≡ false → found_of (refuse_if (not b) errno.ENOTDIR >> next >> k) ≡ found.At q → ⊥
none_passed true next k q plain e = cc
none_passed false next k q plain e = not_at (found.Refused errno.ENOTDIR) q refl e

none_entered : (b : Bool) (next : Walked (Unit {0})) (x : Walked Seen) (k : Seen → Walked Found) (q : Seen) → b ≡ false
    → found_of (refuse_if (not b) errno.ENOTDIR >> next >> x >>= k) ≡ found.At q → ⊥
none_entered true next x k q plain e = cc
none_entered false next x k q plain e = not_at (found.Refused errno.ENOTDIR) q refl e

-- the first component of a path is looked up in a directory
along_no_dir : (f : Facts) (l : Leaf) (jump : Jump) (c : Component) (rest : List Component) (d q : Seen) → is_dir f d ≡ false → found_of (along f l jump (c ∷ rest) d) ≡ found.At q → ⊥
along_no_dir f l jump Dot rest d q plain e = none_entered (is_dir f d) _ _ _ q plain e
along_no_dir f l jump DotDot rest d q plain e = none_entered (is_dir f d) _ _ _ q plain e
along_no_dir f l jump (Name n) rest d q plain e = none_passed (is_dir f d) _ _ q plain e

below_no_dir : (f : Facts) (l : Leaf) (jump : Jump) (c : Component) (rest : List Component) (d q : Seen) (cut : Bool) → is_dir f d ≡ false
    → found_of (refuse_if {W = Need} cut errno.EIO >> Go d >>= along f l jump (c ∷ rest)) ≡ found.At q → ⊥
below_no_dir f l jump c rest d q true plain e = not_at (found.Refused errno.EIO) q refl e
below_no_dir f l jump c rest d q false plain e = along_no_dir f l jump c rest d q plain e

walk_no_dir : (f : Facts) (c : Component) (rest : List Component) (d q : Seen) → is_dir f d ≡ false → found_of (in_place f d >>= walk_from f leaf.Follow (c ∷ rest)) ≡ found.At q → ⊥
walk_no_dir f c rest d q plain e = below_no_dir f leaf.Follow (jump_within 32 f leaf.Follow) c rest d q (is_cut f (mount_of d)) plain e

-- ---- a relative path has a first component

abbrev is_some_part : List ℕ → Bool
is_some_part part = nat_lt 0 (length part)

first_part : (x : ℕ) (parts : List (List ℕ)) → (c : Component) × (rest : List Component) × (map component_of (filter is_some_part (onto_first x parts)) ≡ c ∷ rest)
first_part x [] = (component_of (x ∷ []), [], refl)
first_part x (p ∷ ps) =
    let rest = filter is_some_part ps in
    let some : is_some_part (x ∷ p) ≡ true = lt-ltb 0 (length (x ∷ p)) (omega arith) in
    (component_of (x ∷ p), map component_of rest, ap (λ b. map component_of (cond b ((x ∷ p) ∷ rest) rest)) some)

parts_by : (x : ℕ) (parts : List (List ℕ)) (slash : Bool) → slash ≡ false
    → (c : Component) × (rest : List Component) × (map component_of (filter is_some_part (cond slash ([] ∷ parts) (onto_first x parts))) ≡ c ∷ rest)
parts_by x parts true relative = absurd cc
parts_by x parts false relative = first_part x parts

relative_parts : (text : List ℕ) → is_empty text ≡ false → is_absolute text ≡ false → (c : Component) × (rest : List Component) × (map component_of (components text) ≡ c ∷ rest)
relative_parts [] some relative = absurd cc
relative_parts (x ∷ xs) some relative = parts_by x (slice_split (λ b. b == 47) xs) (x == 47) relative

-- ---- a walk that begins elsewhere finds the same, where it found nothing from the place in which it began

by_checks : (a b c : Bool) (d e g : Errno) (path : Path) (k l : Path → Walked Found) (x : Found) → (a ≡ false → found_of (k path) ≡ x → found_of (l path) ≡ x)
    → found_of (refuse_if {W = Need} a d >> (refuse_if b e >> (refuse_if c g >> Go path)) >>= k) ≡ x
    → found_of (refuse_if {W = Need} a d >> (refuse_if b e >> (refuse_if c g >> Go path)) >>= l) ≡ x
by_checks true b c d e g path k l x goes h = h
by_checks false true c d e g path k l x goes h = h
by_checks false false true d e g path k l x goes h = h
by_checks false false false d e g path k l x goes h = goes refl h

by_start : (absolute : Bool) (root from to : Walked Seen) (k : Seen → Walked Found) (q : Seen) → (absolute ≡ false → found_of (from >>= k) ≡ found.At q → ⊥)
    → found_of ((if absolute then root else from) >>= k) ≡ found.At q → found_of ((if absolute then root else to) >>= k) ≡ found.At q
by_start true root from to k q never h = h
by_start false root from to k q never h = absurd (never refl h)

find_elsewhere : (f : Facts) (from to : Walked Seen) (text : List ℕ) (q : Seen) → ((c : Component) (rest : List Component) → found_of (from >>= walk_from f leaf.Follow (c ∷ rest)) ≡ found.At q → ⊥)
    → walks.find f leaf.Follow from text ≡ found.At q → walks.find f leaf.Follow to text ≡ found.At q
find_elsewhere f from to text q never h =
    let path = spelled text in
    by_checks (is_empty text) (has_zero text) (is_too_long text) errno.ENOENT errno.EINVAL errno.ENAMETOOLONG path (walk f leaf.Follow from) (walk f leaf.Follow to) (found.At q) (λ some.
    by_start (is_absolute text) (entered f leaf.Follow path.parts (Mem 0 1)) from to (walk_from f leaf.Follow path.parts) q (λ relative e.
    let n = relative_parts text some relative in
    never n.0 n.1 (subst (λ parts. found_of (from >>= walk_from f leaf.Follow parts) ≡ found.At q) n.2 e))) h

-- ---- the current directory after a doom

cwd_by : (f : Facts) (place q : Seen) (text : List ℕ) (dead same : Bool) → (same ≡ true → is_dir f place ≡ false)
    → walks.find f leaf.Follow (refuse_if dead errno.ENOTDIR >> in_place f place) text ≡ found.At q
    → walks.find f leaf.Follow (refuse_if (dead || same) errno.ENOTDIR >> in_place f place) text ≡ found.At q
cwd_by f place q text true same plain h = h
cwd_by f place q text false false plain h = h
cwd_by f place q text false true plain h = find_elsewhere f (in_place f place) (Refuse errno.ENOTDIR) text q (λ c rest. walk_no_dir f c rest place q (plain refl)) h

cwd_doomed : (f : Facts) (p q : Seen) (o : Option Cwd) (text : List ℕ) → is_dir f p ≡ false → walks.find f leaf.Follow (in_cwd f o) text ≡ found.At q
    → walks.find f leaf.Follow (in_cwd f (option_map (doomed_cwd p) o)) text ≡ found.At q
cwd_doomed f p q None text plain h = h
cwd_doomed f p q (Some cwd) text plain h =
    cwd_by f cwd.place q text cwd.dead (same_place p cwd.place) (λ same. subst (λ d. is_dir f d ≡ false) (same_seen p cwd.place same) plain) h

-- the walk finds the same place again
place_again : (w : World) (c : ℕ) (text : List ℕ) (p q : Seen) → is_dir (facts_of w) p ≡ false → found_at w c (way leaf.Follow text) ≡ found.At q
    → found_at (doomed_place w (Some p)) c (way leaf.Follow text) ≡ found.At q
place_again w c text p q plain h =
    let f = facts_of w in
    subst (λ o. walks.find f leaf.Follow (in_cwd f o) text ≡ found.At q) (sym (get-each nat_cmp_total (doomed_cwd p) w.cwds c)) (cwd_doomed f p q (get w.cwds c) text plain h)

revoking_on : (w : World) (c : ℕ) (text : List ℕ) (node : NodeId) (p : Seen) → IsRevoking w c text node → base (facts_of w) p ≡ node → IsRevoking (doomed_place w (Some p)) c text node
revoking_on w c text node p r rests =
    let plain = no_dir (facts_of w) p r.place r.file (r.node ∙ sym rests) in
    record { path = r.path; place = r.place; found = place_again w c text p r.place plain r.found; file = r.file; node = r.node }

pub revoking_start : (w : World) (c : ℕ) (text : List ℕ) (node : NodeId) (at : Ref) (p : Seen) → IsRevoking w c text node → place_of w at ≡ Some p → base (facts_of w) p ≡ node
    → IsRevoking (doomed w at) c text node
revoking_start w c text node at p r there rests = subst (λ o. IsRevoking (doomed_place w o) c text node) (sym there) (revoking_on w c text node p r rests)

pub revoking_next : (w : World) (c : ℕ) (text : List ℕ) (node : NodeId) (at : Ref) (p : Seen) → IsRevoking w c text node → first_open_on w node ≡ Some at → place_of w at ≡ Some p
    → IsRevoking (doomed w at) c text node
revoking_next w c text node at p r is there =
    let o = open_there w node at is in
    let same : o.0 ≡ p = same_Some o.0 p (sym o.1 ∙ there) in
    revoking_start w c text node at p r there (ap (base (facts_of w)) (sym same) ∙ o.2)
