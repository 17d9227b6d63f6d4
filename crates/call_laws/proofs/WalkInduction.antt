-- Induction over walks along paths. Properties of the places that walks come by, of where they end, of names, of mounts
-- and of needs hold of all that a path finds, where each step of a walk keeps them (`WalkKeeps`).
use Rattle.std.proofs.Common.{◌≡◌, ℕ, zero, suc, Bool, true, false, cond, not, ◌&&◌, ◌==◌, List, [], ◌∷◌, ◌++◌, map, length, filter, refl, sym, subst, arith}
use Rattle.std.specs.Prelude.{Option, Some, None, IfSome, nat_lt}
use Rattle.std.specs.FinMap.{get}
use Rattle.std.specs.List.{slice_split, onto_first}
use Rattle.vfs_tree.specs.Child.{child_of, steps}
use Rattle.vfs_tree.specs.Facts.{Facts}
use Rattle.vfs_tree.specs.Layers.{kind_in, base, is_dir, is_linked, is_root, is_cut, root_by, root_of}
use Rattle.vfs_tree.specs.Path.{components, is_absolute}
use Rattle.vfs_tree.specs.Paths.{Path, parse, component_of, is_empty, has_zero, is_too_long}
use Rattle.vfs_tree.specs.Place.{Seen, Mem, mount_of}
use Rattle.vfs_tree.specs.Steps.{◌>>=◌, ◌>>◌, refuse_if}
use Rattle.vfs_tree.specs.Views.{facts_of}
use Rattle.vfs_tree.specs.Walk.{Walked, Jump, enter_case, enter_within, is_mount, entered, above, check_dir, absent, followed, pass, pass_child, along, begin, spliced, jump_along, jump_within, walk_from, in_place, in_cwd, walk_path, but_last, last_name, named, parent_at, parent_found, mount_found, walk, found_of, find}
use Rattle.vfs_tree.specs.declared.errno.Errno.{Errno}
use Rattle.vfs_tree.specs.declared.errno.Errno.TheVariants as errno
use Rattle.vfs_tree.specs.declared.mount.MountKind.{MountKind}
use Rattle.vfs_tree.specs.declared.mount.MountKind.TheVariants as kind
use Rattle.vfs_tree.specs.declared.open.Cwd.{Cwd}
use Rattle.vfs_tree.specs.declared.walk.Child.{Child}
use Rattle.vfs_tree.specs.declared.walk.Child.TheVariants as child
use Rattle.vfs_tree.specs.declared.walk.Component.{Component}
use Rattle.vfs_tree.specs.declared.walk.Component.TheVariants.{Dot, DotDot, Name}
use Rattle.vfs_tree.specs.declared.walk.Found.{Found}
use Rattle.vfs_tree.specs.declared.walk.Found.TheVariants as found
use Rattle.vfs_tree.specs.declared.walk.Leaf.{Leaf}
use Rattle.vfs_tree.specs.declared.walk.Leaf.TheVariants.{Follow, NoFollow, Parent, Create, Mount}
use Rattle.vfs_tree.specs.declared.walk.Need.{Need}
use Rattle.vfs_tree.specs.declared.walk.Step.{Step}
use Rattle.vfs_tree.specs.declared.walk.Step.TheVariants.{Go, Refuse, Wants}
use Rattle.vfs_tree.specs.declared.world.World.{World}
use Rattle.call_model.specs.Rows.{Way, found_at}
use Rattle.call_laws.proofs.ChildInduction.{Anything, Comes, comes_on, ChildComes}
use Rattle.call_laws.proofs.NamedLaws.{no_way}

-- ---- relative paths have a component

abbrev IsLong : {A : Type 0} → List A → Type 0
IsLong [] = ⊥
IsLong (x ∷ xs) = Unit {0}

long_map : {A B : Type 0} (g : A → B) (xs : List A) → IsLong xs → IsLong (map g xs)
long_map g [] h = absurd h
long_map g (x ∷ xs) h = tt

long_joined : {A : Type 0} (xs ys : List A) → IsLong xs → IsLong (xs ++ ys)
long_joined [] ys h = absurd h
long_joined (x ∷ xs) ys h = tt

abbrev is_part : List ℕ → Bool
is_part part = nat_lt 0 (length part)

some_part : (b : ℕ) (p : List ℕ) → is_part (b ∷ p) ≡ true
some_part b p = grind arith

first_part : (b : ℕ) (parts : List (List ℕ)) → IsLong (filter is_part (onto_first b parts))
first_part b [] = subst (λ x. IsLong (cond x ((b ∷ []) ∷ []) [])) (sym (some_part b [])) tt
first_part b (p ∷ ps) = subst (λ x. IsLong (cond x ((b ∷ p) ∷ filter is_part ps) (filter is_part ps))) (sym (some_part b p)) tt

long_parts : (bytes : List ℕ) → is_empty bytes ≡ false → is_absolute bytes ≡ false → IsLong (components bytes)
long_parts [] some relative = no_way (sym some)
long_parts (b ∷ bs) some relative =
    subst (λ x. IsLong (filter is_part (cond x ([] ∷ slice_split (λ b. b == 47) bs) (onto_first b (slice_split (λ b. b == 47) bs))))) (sym relative)
    (first_part b (slice_split (λ b. b == 47) bs))

-- ---- steps of a walk

comes_so : {A : Type 0} (N : Need → Type 0) (P Q : A → Type 0) (m : Step A Need) → ((a : A) → P a → Q a) → Comes N P m → Comes N Q m
comes_so N P Q (Go a) g h = g a h
comes_so N P Q (Refuse e) g h = tt
comes_so N P Q (Wants x) g h = h

pub comes_unless : {A : Type 0} (N : Need → Type 0) (P : A → Type 0) (b : Bool) (e : Errno) (k : Step A Need) → (b ≡ false → Comes N P k) → Comes N P (refuse_if b e >> k)
comes_unless N P true e k h = tt
comes_unless N P false e k h = h refl

-- a path as it is written
comes_parsed : {B : Type 0} (N : Need → Type 0) (Q : B → Type 0) (text : List ℕ) (k : Path → Step B Need) → ((path : Path) → (path.absolute ≡ false → IsLong path.parts) → Comes N Q (k path))
    → Comes N Q (parse text >>= k)
comes_parsed N Q text k h = by (is_empty text) (has_zero text) (is_too_long text) (λ some. h _ (λ relative. long_map component_of (components text) (long_parts text some relative)))
  where
    by : (a b c : Bool) → (a ≡ false → Comes N Q (k (record { absolute = is_absolute text; parts = map component_of (components text) })))
        → Comes N Q ((refuse_if a errno.ENOENT >> (refuse_if b errno.EINVAL >> (refuse_if c errno.ENAMETOOLONG >> Go (record { absolute = is_absolute text; parts = map component_of (components text) })))) >>= k)
    by true b c h = tt
    by false true c h = tt
    by false false true h = tt
    by false false false h = h refl

-- a directory that is looked into
comes_checked : {A : Type 0} (N : Need → Type 0) (P : A → Type 0) (f : Facts) (d : Seen) (k : Walked A) → (is_dir f d ≡ true → (let b = base f d in is_linked f b.store b.ino) ≡ true → Comes N P k)
    → Comes N P (check_dir f d >> k)
comes_checked N P f d k h = by (is_dir f d) (let b = base f d in is_linked f b.store b.ino) h
  where
    by : (a b : Bool) → (a ≡ true → b ≡ true → Comes N P k) → Comes N P ((refuse_if (not a) errno.ENOTDIR >> refuse_if (not b) errno.ENOENT) >> k)
    by true true h = h refl refl
    by true false h = tt
    by false b h = tt

-- ---- into the mounts that cover a place

pub root_mount : (m : ℕ) (k : Option MountKind) → mount_of (root_by m k) ≡ m
root_mount m (Some kind.Mem) = refl
root_mount m (Some (kind.Null layer)) = refl
root_mount m (Some (kind.Union s u l)) = refl
root_mount m None = refl

module _ (f : Facts) (N : Need → Type 0) (P : Seen → Type 0) where
  abbrev Onto : Bool → Type 0
  Onto into_cut = (p : Seen) (m : ℕ) → P p → f.covering p ≡ Some m → (not into_cut && is_cut f m) ≡ false → P (root_of f m)

  enter_case_so : (into_cut : Bool) → Onto into_cut → (on : Seen → Walked Seen) → ((p : Seen) → P p → Comes N P (on p)) → (p : Seen) → P p → (o : Option ℕ) → f.covering p ≡ o
      → Comes N P (enter_case on f into_cut p o)
  enter_case_so into_cut onto on g p h None is = h
  enter_case_so into_cut onto on g p h (Some m) is = comes_unless N P (not into_cut && is_cut f m) _ (on (root_of f m)) (λ cut. g (root_of f m) (onto p m h is cut))

  enter_so : (into_cut : Bool) → Onto into_cut → (k : ℕ) (p : Seen) → P p → Comes N P (enter_within k f into_cut p)
  enter_so into_cut onto zero p h = h
  enter_so into_cut onto (suc k) p h = enter_case_so into_cut onto (enter_within k f into_cut) (enter_so into_cut onto k) p h (f.covering p) refl

-- mounts that aren't cut are entered at places with the property
pub entered_at : (f : Facts) (N : Need → Type 0) (P : Seen → Type 0) → ((p : Seen) (m : ℕ) → f.covering p ≡ Some m → is_cut f m ≡ false → P (root_of f m)) → (k : ℕ) (p : Seen) → P p
    → Comes N P (enter_within k f false p)
entered_at f N P covers k p h = enter_so f N P false (λ p m _ is cut. covers p m is cut) k p h

-- ---- the scheme

-- what a name of a directory gives
abbrev pub NameSo : (Need → Type 0) → (Seen → Type 0) → (Option Seen → Type 0) → Child → Type 0
NameSo N At Named (child.At p) = At p × Named (Some p)
NameSo N At Named child.Absent = Named None
NameSo N At Named (child.Need x) = N x

pub record WalkKeeps (f : Facts) (N : Need → Type 0) (At End : Seen → Type 0) (Named : Seen → List ℕ → Option Seen → Type 0) (There : ℕ → Type 0) : Type 0 where
  pub root : At (Mem 0 1)
  pub above : (d : Seen) → At d → At (above f d)
  pub child : (d : Seen) (n : List ℕ) → At d → is_dir f d ≡ true → (let b = base f d in is_linked f b.store b.ino) ≡ true → NameSo N At (Named d n) (child_of f d n)
  pub covers : (p : Seen) (m : ℕ) → f.covering p ≡ Some m → is_cut f m ≡ false → At (root_of f m)
  -- where a walk ends
  pub ends : (p : Seen) → At p → Comes N End (enter_within steps f false p)
  -- mounts, those that are cut too
  pub mount : (p : Seen) → At p → There (mount_of p)
  pub into : (p : Seen) (m : ℕ) → f.covering p ≡ Some m → There m

-- what a path finds
abbrev pub FoundSo : (Need → Type 0) → (Seen → Type 0) → (Seen → List ℕ → Option Seen → Type 0) → (ℕ → Type 0) → Found → Type 0
FoundSo N End Named There (found.At p) = End p
FoundSo N End Named There (found.In d n o) = Named d n o
FoundSo N End Named There (found.Mount m) = There m
FoundSo N End Named There (found.Dot d) = Unit {0}
FoundSo N End Named There (found.Refused e) = Unit {0}
FoundSo N End Named There (found.Need x) = N x

and_false : (b : Bool) → (b && false) ≡ false
and_false true = refl
and_false false = refl

module _ (f : Facts) (N : Need → Type 0) (At End : Seen → Type 0) (Named : Seen → List ℕ → Option Seen → Type 0) (There : ℕ → Type 0) (keeps : WalkKeeps f N At End Named There) where
  enters : (p : Seen) → At p → Comes N At (enter_within steps f false p)
  enters p h = entered_at f N At keeps.covers steps p h

  -- ---- one walk, by what holds where it ends

  module _ (leaf : Leaf) (Last : Seen → Type 0) (arrives : (p : Seen) → At p → Comes N Last (entered f leaf [] p)) where
    -- what holds of where the rest of a path begins
    abbrev Stands : List Component → Seen → Type 0
    Stands [] d = Last d
    Stands (c ∷ cs) d = At d

    abbrev LastSo : Found → Type 0
    LastSo x = FoundSo N Last Named (λ m. ⊥) x

    abbrev WalkSo : Walked Found → Type 0
    WalkSo m = Comes N LastSo m

    entered_so : (rest : List Component) (p : Seen) → At p → Comes N (Stands rest) (entered f leaf rest p)
    entered_so [] p h = arrives p h
    entered_so (c ∷ cs) p h = subst (λ b. Comes N At (enter_within steps f b p)) (sym (and_false (is_mount leaf))) (enters p h)

    absent_so : (l : Leaf) (rest : List Component) (d : Seen) (n : List ℕ) → Named d n None → WalkSo (absent l rest d n)
    absent_so Create [] d n h = h
    absent_so Create (c ∷ rest) d n h = tt
    absent_so Follow rest d n h = tt
    absent_so NoFollow rest d n h = tt
    absent_so Parent rest d n h = tt
    absent_so Mount rest d n h = tt

    pass_so : (jump : List ℕ → Walked Found) → ((t : List ℕ) → WalkSo (jump t)) → (rest : List Component) (on : Seen → Walked Found) → ((p : Seen) → Stands rest p → WalkSo (on p))
        → (p : Seen) → At p → (o : Option (List ℕ)) → WalkSo (pass f leaf jump rest on p o)
    pass_so jump j rest on g p h None = comes_on N (Stands rest) LastSo (entered f leaf rest p) on (entered_so rest p h) g
    pass_so jump j rest on g p h (Some text) = j text

    pass_child_so : (jump : List ℕ → Walked Found) → ((t : List ℕ) → WalkSo (jump t)) → (rest : List Component) (on : Seen → Walked Found) → ((p : Seen) → Stands rest p → WalkSo (on p))
        → (d : Seen) (n : List ℕ) (c : Child) → NameSo N At (Named d n) c → WalkSo (pass_child f leaf jump rest on d n c)
    pass_child_so jump j rest on g d n (child.At p) h = pass_so jump j rest on g p h.0 (followed f leaf rest p)
    pass_child_so jump j rest on g d n child.Absent h = absent_so leaf rest d n h
    pass_child_so jump j rest on g d n (child.Need x) h = h

    abbrev JumpSo : Jump → Type 0
    JumpSo jump = (t : List ℕ) (rest : List Component) (d : Seen) → At d → WalkSo (jump t rest d)

    along_so : (jump : Jump) → JumpSo jump → (parts : List Component) (d : Seen) → Stands parts d → WalkSo (along f leaf jump parts d)
    along_so jump j [] d h = h
    along_so jump j (Dot ∷ rest) d h =
        comes_on N (Stands rest) LastSo (check_dir f d >> entered f leaf rest d) (along f leaf jump rest)
        (comes_checked N (Stands rest) f d (entered f leaf rest d) (λ _ _. entered_so rest d h)) (along_so jump j rest)
    along_so jump j (DotDot ∷ rest) d h =
        comes_on N (Stands rest) LastSo (check_dir f d >> entered f leaf rest (above f d)) (along f leaf jump rest)
        (comes_checked N (Stands rest) f d (entered f leaf rest (above f d)) (λ _ _. entered_so rest (above f d) (keeps.above d h))) (along_so jump j rest)
    along_so jump j (Name n ∷ rest) d h =
        comes_checked N LastSo f d (pass_child f leaf (λ text. jump text rest d) rest (along f leaf jump rest) d n (child_of f d n)) (λ dir linked.
        pass_child_so (λ text. jump text rest d) (λ text. j text rest d h) rest (along f leaf jump rest) (along_so jump j rest) d n (child_of f d n) (keeps.child d n h dir linked))

    begin_so : (path : Path) (d : Walked Seen) → (path.absolute ≡ false → Comes N (Stands path.parts) d) → Comes N (Stands path.parts) (begin f leaf path d)
    begin_so path d relative = by path.absolute refl
      where
        by : (b : Bool) → path.absolute ≡ b → Comes N (Stands path.parts) (cond b (entered f leaf path.parts (Mem 0 1)) d)
        by true is = entered_so path.parts (Mem 0 1) keeps.root
        by false is = relative is

    -- at the place itself where there are components, and else by what holds there
    stands : (parts : List Component) → IsLong parts → (d : Seen) → At d → Stands parts d
    stands [] long d h = absurd long
    stands (c ∷ cs) long d h = h

    long_begin : (path : Path) → (path.absolute ≡ false → IsLong path.parts) → (d : Walked Seen) → Comes N At d → Comes N (Stands path.parts) (begin f leaf path d)
    long_begin path long d h = begin_so path d (λ is. comes_so N At (Stands path.parts) d (stands path.parts (long is)) h)

    jump_along_so : (jump : Jump) → JumpSo jump → (path : Path) → (path.absolute ≡ false → IsLong path.parts) → (d : Seen) → At d → WalkSo (jump_along f leaf jump path d)
    jump_along_so jump j path long d h =
        comes_on N (Stands path.parts) LastSo (begin f leaf path (Go d)) (along f leaf jump path.parts) (long_begin path long (Go d) h) (along_so jump j path.parts)

    jump_so : (k : ℕ) → JumpSo (jump_within k f leaf)
    jump_so zero text rest d h = tt
    jump_so (suc k) text rest d h =
        comes_parsed N LastSo text (λ path. jump_along f leaf (jump_within k f leaf) (spliced path rest) d) (λ path long.
        jump_along_so (jump_within k f leaf) (jump_so k) (spliced path rest) (λ is. long_joined path.parts rest (long is)) d h)

    walk_so : (path : Path) (from : Walked Seen) → (path.absolute ≡ false → Comes N (Stands path.parts) from) → WalkSo (walk_path f leaf from path)
    walk_so path from relative =
        comes_on N (Stands path.parts) LastSo (begin f leaf path from) (walk_from f leaf path.parts) (begin_so path from relative) (along_so (jump_within 32 f leaf) (jump_so 32) path.parts)

    long_walk_so : (path : Path) → (path.absolute ≡ false → IsLong path.parts) → (from : Walked Seen) → Comes N At from → WalkSo (walk_path f leaf from path)
    long_walk_so path long from h = walk_so path from (λ is. comes_so N At (Stands path.parts) from (stands path.parts (long is)) h)

  -- ---- the five forms

  abbrev So : Found → Type 0
  So x = FoundSo N End Named There x

  ended : (x : Found) → FoundSo N End Named (λ m. ⊥) x → So x
  ended (found.At p) h = h
  ended (found.In d n o) h = h
  ended (found.Mount m) h = absurd h
  ended (found.Dot d) h = tt
  ended (found.Refused e) h = tt
  ended (found.Need x) h = h

  form_so : (leaf : Leaf) → ((p : Seen) → At p → Comes N End (entered f leaf [] p)) → (path : Path) → (path.absolute ≡ false → IsLong path.parts) → (from : Walked Seen) → Comes N At from
      → Comes N So (walk_path f leaf from path)
  form_so leaf arrives path long from h = comes_so N (FoundSo N End Named (λ m. ⊥)) So (walk_path f leaf from path) ended (long_walk_so leaf End arrives path long from h)

  named_so : (d : Seen) (n : List ℕ) (c : Child) → NameSo N At (Named d n) c → Comes N So (named d n c)
  named_so d n (child.At p) h = h.1
  named_so d n child.Absent h = h
  named_so d n (child.Need x) h = h

  parent_at_so : (o : Option (List ℕ)) (d : Seen) → At d → is_dir f d ≡ true → (let b = base f d in is_linked f b.store b.ino) ≡ true → Comes N So (parent_at f o d)
  parent_at_so None d h dir linked = tt
  parent_at_so (Some n) d h dir linked = named_so d n (child_of f d n) (keeps.child d n h dir linked)

  parent_found_so : (o : Option (List ℕ)) (x : Found) → FoundSo N At Named (λ m. ⊥) x → Comes N So (parent_found f o x)
  parent_found_so o (found.At d) h = comes_checked N So f d (parent_at f o d) (parent_at_so o d h)
  parent_found_so o (found.In d n c) h = h
  parent_found_so o (found.Mount m) h = absurd h
  parent_found_so o (found.Dot d) h = tt
  parent_found_so o (found.Refused e) h = tt
  parent_found_so o (found.Need x) h = h

  from_place : (parts : List Component) (d : Seen) → At d → Stands Follow At enters parts d
  from_place [] d h = h
  from_place (c ∷ cs) d h = h

  abbrev InMount : Seen → Type 0
  InMount p = There (mount_of p)

  onto_mount : (p : Seen) (m : ℕ) → f.covering p ≡ Some m → InMount (root_of f m)
  onto_mount p m is = subst There (sym (root_mount m (kind_in f m))) (keeps.into p m is)

  enters_mount : (p : Seen) → At p → Comes N InMount (entered f Mount [] p)
  enters_mount p h = enter_so f N InMount true (λ p m _ is _. onto_mount p m is) steps p (keeps.mount p h)

  mount_found_so : (x : Found) → FoundSo N InMount Named (λ m. ⊥) x → Comes N So (mount_found f x)
  mount_found_so (found.At p) h = comes_unless N So (not (is_root f p)) _ (Go (found.Mount (mount_of p))) (λ _. h)
  mount_found_so (found.In d n c) h = h
  mount_found_so (found.Mount m) h = absurd h
  mount_found_so (found.Dot d) h = tt
  mount_found_so (found.Refused e) h = tt
  mount_found_so (found.Need x) h = h

  forms_so : (leaf : Leaf) (from : Walked Seen) → Comes N At from → (path : Path) → (path.absolute ≡ false → IsLong path.parts) → Comes N So (walk f leaf from path)
  forms_so Follow from h path long = form_so Follow keeps.ends path long from h
  forms_so NoFollow from h path long = form_so NoFollow keeps.ends path long from h
  forms_so Create from h path long = form_so Create keeps.ends path long from h
  forms_so Mount from h path long =
      comes_on N (FoundSo N InMount Named (λ m. ⊥)) So (walk_path f Mount from path) (mount_found f) (long_walk_so Mount InMount enters_mount path long from h) mount_found_so
  forms_so Parent from h path long =
      let up : Path = record { absolute = path.absolute; parts = but_last path.parts } in
      comes_on N (FoundSo N At Named (λ m. ⊥)) So (walk_path f Follow from up) (parent_found f (last_name path.parts))
      (walk_so Follow At enters up from (λ _. comes_so N At (Stands Follow At enters up.parts) from (from_place up.parts) h)) (parent_found_so (last_name path.parts))

  found_of_so : (m : Walked Found) → Comes N So m → So (found_of m)
  found_of_so (Go x) h = h
  found_of_so (Refuse e) h = tt
  found_of_so (Wants x) h = h

  -- what a walk finds from a place with the property
  pub find_so : (leaf : Leaf) (from : Walked Seen) → Comes N At from → (text : List ℕ) → So (find f leaf from text)
  find_so leaf from h text = found_of_so (parse text >>= walk f leaf from) (comes_parsed N So text (walk f leaf from) (λ path long. forms_so leaf from h path long))

  in_cwd_so : (o : Option Cwd) → IfSome o (λ d. d.dead ≡ false → is_cut f (mount_of d.place) ≡ false → At d.place) → Comes N At (in_cwd f o)
  in_cwd_so (Some d) h = comes_unless N At d.dead _ (in_place f d.place) (λ alive. comes_unless N At (is_cut f (mount_of d.place)) _ (Go d.place) (λ cut. h alive cut))
  in_cwd_so None h = tt

module _ (w : World) (N : Need → Type 0) (At End : Seen → Type 0) (Named : Seen → List ℕ → Option Seen → Type 0) (There : ℕ → Type 0) (keeps : WalkKeeps (facts_of w) N At End Named There) where
  -- what a path of a call finds, where the caller's current directory has the property
  pub found_so : (c : ℕ) → IfSome (get w.cwds c) (λ d. d.dead ≡ false → is_cut (facts_of w) (mount_of d.place) ≡ false → At d.place) → (o : Option Way) → FoundSo N End Named There (found_at w c o)
  found_so c h (Some way) =
      let f = facts_of w in
      find_so f N At End Named There keeps way.leaf (in_cwd f (get w.cwds c)) (in_cwd_so f N At End Named There keeps (get w.cwds c) h) way.text
  found_so c h None = tt

-- ---- where nothing is said of places

module _ (f : Facts) (N : Need → Type 0) (looks : (d : Seen) (n : List ℕ) → ChildComes N Anything (child_of f d n)) where
  name_needs : (c : Child) → ChildComes N Anything c → NameSo N Anything Anything c
  name_needs (child.At p) h = (tt, tt)
  name_needs child.Absent h = tt
  name_needs (child.Need x) h = h

  needs_walk : WalkKeeps f N Anything Anything (λ d n. Anything) Anything
  needs_walk = record {
    root = tt;
    above = λ d h. tt;
    child = λ d n h dir linked. name_needs (child_of f d n) (looks d n);
    covers = λ p m is cut. tt;
    ends = λ p h. entered_at f N Anything (λ p m is cut. tt) steps p tt;
    mount = λ p h. tt;
    into = λ p m is. tt;
  }

-- what is found, where it is a need
abbrev pub FoundNeeds : (Need → Type 0) → Found → Type 0
FoundNeeds N x = FoundSo N Anything (λ d n. Anything) Anything x

some_cwd : (o : Option Cwd) (f : Facts) → IfSome o (λ d. d.dead ≡ false → is_cut f (mount_of d.place) ≡ false → Unit {0})
some_cwd (Some d) f = λ alive cut. tt
some_cwd None f = tt

-- what a path of a call needs, by what lookups need
pub needs_found : (w : World) (N : Need → Type 0) → ((d : Seen) (n : List ℕ) → ChildComes N Anything (child_of (facts_of w) d n)) → (c : ℕ) (o : Option Way) → FoundNeeds N (found_at w c o)
needs_found w N looks c o = found_so w N Anything Anything (λ d n. Anything) Anything (needs_walk (facts_of w) N looks) c (some_cwd (get w.cwds c) (facts_of w)) o
