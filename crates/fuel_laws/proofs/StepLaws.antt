-- Walks that may follow more links, and take more steps, find the same.
use Rattle.std.proofs.Common.{◌≡◌, ℕ, zero, suc, ◌+◌, ◌-◌, ◌≤◌, ◌⊎◌, inl, inr, Bool, true, false, not, ◌&&◌, ◌==◌, List, [], ◌∷◌, refl, ap, sym, ◌∙◌, subst, arith}
use Rattle.std.specs.Prelude.{Option, Some, None}
use Rattle.vfs_tree.specs.Child.{child_of, steps}
use Rattle.vfs_tree.specs.Facts.{Facts}
use Rattle.vfs_tree.specs.Layers.{is_root, on_of, is_cut, root_of}
use Rattle.vfs_tree.specs.Paths.{Path, parse}
use Rattle.vfs_tree.specs.Place.{Seen, mount_of}
use Rattle.vfs_tree.specs.Sound.{IsSound}
use Rattle.vfs_tree.specs.Steps.{◌>>=◌, ◌>>◌, refuse_if}
use Rattle.vfs_tree.specs.Views.{facts_of}
use Rattle.vfs_tree.specs.Walk.{Walked, enter_case, enter_within, enter_as, leave_case, leave_within, leave, above, check_dir, entered, followed, pass, pass_child, Jump, along, begin, spliced, jump_along, jump_within, but_last, last_name, parent_found, mount_found, found_of, find}
use Rattle.vfs_tree.specs.declared.errno.Errno.TheVariants as errno
use Rattle.vfs_tree.specs.declared.walk.Child.{Child}
use Rattle.vfs_tree.specs.declared.walk.Child.TheVariants as child
use Rattle.vfs_tree.specs.declared.walk.Component.{Component}
use Rattle.vfs_tree.specs.declared.walk.Component.TheVariants.{Dot, DotDot, Name}
use Rattle.vfs_tree.specs.declared.walk.Found.{Found}
use Rattle.vfs_tree.specs.declared.walk.Found.TheVariants as found
use Rattle.vfs_tree.specs.declared.walk.Leaf.{Leaf}
use Rattle.vfs_tree.specs.declared.walk.Leaf.TheVariants.{Follow, NoFollow, Parent, Create, Mount}
use Rattle.vfs_tree.specs.declared.walk.Step.TheVariants.{Go, Refuse, Wants}
use Rattle.vfs_tree.specs.declared.world.World.{World}
use Rattle.call_laws.specs.Lasting.{IsLasting}
use Rattle.model_laws.proofs.FuelLaws.{whole_enter, whole_leave}
use Rattle.fuel_laws.specs.Links.{walk_links, path_links, form_links, find_links}

-- ---- links

-- the first is refused for its links, or the second is the same
abbrev pub OrMore : {A : Type 0} → Walked A → Walked A → Type 0
OrMore a b = (a ≡ Refuse errno.ELOOP) ⊎ (b ≡ a)

-- a part, and then others that do so
more_then : {A B : Type 0} (m : Walked A) (a b : A → Walked B) → ((x : A) → OrMore (a x) (b x)) → OrMore (m >>= a) (m >>= b)
more_then (Go x) a b h = h x
more_then (Refuse e) a b h = inr refl
more_then (Wants x) a b h = inr refl

-- parts that do so, and then another
more_first : {A B : Type 0} (a b : Walked A) (k : A → Walked B) → OrMore a b → OrMore (a >>= k) (b >>= k)
more_first a b k (inl e) = inl (ap (λ (x : Walked _). x >>= k) e)
more_first a b k (inr e) = inr (ap (λ (x : Walked _). x >>= k) e)

module _ (f : Facts) (leaf : Leaf) where
  more_pass : (a b : List ℕ → Walked Found) (rest : List Component) (on onward : Seen → Walked Found) (p : Seen) (o : Option (List ℕ))
      → ((text : List ℕ) → OrMore (a text) (b text)) → ((q : Seen) → OrMore (on q) (onward q)) → OrMore (pass f leaf a rest on p o) (pass f leaf b rest onward p o)
  more_pass a b rest on onward p None h g = more_then (entered f leaf rest p) on onward g
  more_pass a b rest on onward p (Some text) h g = h text

  more_child : (a b : List ℕ → Walked Found) (rest : List Component) (on onward : Seen → Walked Found) (d : Seen) (n : List ℕ) (x : Child)
      → ((text : List ℕ) → OrMore (a text) (b text)) → ((q : Seen) → OrMore (on q) (onward q)) → OrMore (pass_child f leaf a rest on d n x) (pass_child f leaf b rest onward d n x)
  more_child a b rest on onward d n (child.At p) h g = more_pass a b rest on onward p (followed f leaf rest p) h g
  more_child a b rest on onward d n child.Absent h g = inr refl
  more_child a b rest on onward d n (child.Need x) h g = inr refl

  more_along : (a b : Jump) → ((text : List ℕ) (rest : List Component) (d : Seen) → OrMore (a text rest d) (b text rest d)) → (parts : List Component) (d : Seen)
      → OrMore (along f leaf a parts d) (along f leaf b parts d)
  more_along a b h [] d = inr refl
  more_along a b h (Dot ∷ rest) d = more_then (check_dir f d >> entered f leaf rest d) (along f leaf a rest) (along f leaf b rest) (more_along a b h rest)
  more_along a b h (DotDot ∷ rest) d = more_then (check_dir f d >> entered f leaf rest (above f d)) (along f leaf a rest) (along f leaf b rest) (more_along a b h rest)
  more_along a b h (Name n ∷ rest) d =
      more_then (check_dir f d) (λ _. pass_child f leaf (λ text. a text rest d) rest (along f leaf a rest) d n (child_of f d n))
      (λ _. pass_child f leaf (λ text. b text rest d) rest (along f leaf b rest) d n (child_of f d n))
      (λ _. more_child (λ text. a text rest d) (λ text. b text rest d) rest (along f leaf a rest) (along f leaf b rest) d n (child_of f d n) (λ text. h text rest d) (more_along a b h rest))

  more_jump : (k more : ℕ) (text : List ℕ) (rest : List Component) (d : Seen) → OrMore (jump_within k f leaf text rest d) (jump_within (k + more) f leaf text rest d)
  more_jump zero more text rest d = inl refl
  more_jump (suc k) more text rest d =
      let e : suc (k + more) ≡ suc k + more = omega arith in
      subst (λ n. OrMore (jump_within (suc k) f leaf text rest d) (jump_within n f leaf text rest d)) e
      (more_then (parse text) (λ path. jump_along f leaf (jump_within k f leaf) (spliced path rest) d) (λ path. jump_along f leaf (jump_within (k + more) f leaf) (spliced path rest) d)
      (λ path. more_then (begin f leaf (spliced path rest) (Go d)) (along f leaf (jump_within k f leaf) (spliced path rest).parts) (along f leaf (jump_within (k + more) f leaf) (spliced path rest).parts)
      (more_along (jump_within k f leaf) (jump_within (k + more) f leaf) (more_jump k more) (spliced path rest).parts)))

  pub more_walk : (k more : ℕ) (parts : List Component) (d : Seen) → OrMore (walk_links k f leaf parts d) (walk_links (k + more) f leaf parts d)
  more_walk k more parts d = more_along (jump_within k f leaf) (jump_within (k + more) f leaf) (more_jump k more) parts d

  more_path : (k more : ℕ) (from : Walked Seen) (path : Path) → OrMore (path_links k f leaf from path) (path_links (k + more) f leaf from path)
  more_path k more from path =
      more_then (begin f leaf path from) (walk_links k f leaf path.parts) (walk_links (k + more) f leaf path.parts) (more_walk k more path.parts)

more_form : (f : Facts) (leaf : Leaf) (k more : ℕ) (from : Walked Seen) (path : Path) → OrMore (form_links k f leaf from path) (form_links (k + more) f leaf from path)
more_form f Follow k more from path = more_path f Follow k more from path
more_form f NoFollow k more from path = more_path f NoFollow k more from path
more_form f Create k more from path = more_path f Create k more from path
more_form f Mount k more from path =
    more_first (path_links k f Mount from path) (path_links (k + more) f Mount from path) (mount_found f) (more_path f Mount k more from path)
more_form f Parent k more from path =
    let before : Path = record { absolute = path.absolute; parts = but_last path.parts } in
    more_first (path_links k f Follow from before) (path_links (k + more) f Follow from before) (parent_found f (last_name path.parts)) (more_path f Follow k more from before)

found_more : (a b : Walked Found) → OrMore a b → (found_of a ≡ found.Refused errno.ELOOP) ⊎ (found_of b ≡ found_of a)
found_more a b (inl e) = inl (ap found_of e)
found_more a b (inr e) = inr (ap found_of e)

pub more_find : (f : Facts) (leaf : Leaf) (k more : ℕ) (from : Walked Seen) (text : List ℕ)
    → (find_links k f leaf from text ≡ found.Refused errno.ELOOP) ⊎ (find_links (k + more) f leaf from text ≡ find_links k f leaf from text)
more_find f leaf k more from text =
    found_more (parse text >>= form_links k f leaf from) (parse text >>= form_links (k + more) f leaf from)
    (more_then (parse text) (form_links k f leaf from) (form_links (k + more) f leaf from) (more_form f leaf k more from))

pub find_is : (f : Facts) (leaf : Leaf) (from : Walked Seen) (text : List ℕ) → find f leaf from text ≡ find_links 32 f leaf from text
find_is f Follow from text = refl
find_is f NoFollow from text = refl
find_is f Create from text = refl
find_is f Mount from text = refl
find_is f Parent from text = refl

-- ---- steps

module _ (w : World) (sound : IsSound w) (lasts : IsLasting w) where
  abbrev f : Facts
  f = facts_of w

  same_case : (a b : Seen → Walked Seen) (into_cut : Bool) (p : Seen) (o : Option ℕ) → ((q : Seen) → a q ≡ b q) → enter_case a f into_cut p o ≡ enter_case b f into_cut p o
  same_case a b into_cut p None e = refl
  same_case a b into_cut p (Some m) e = ap (λ (x : Walked Seen). refuse_if (not into_cut && is_cut f m) errno.EIO >> x) (e (root_of f m))

  enter_by : (n k : ℕ) (into_cut : Bool) → k ≡ n + steps → (p : Seen) → enter_within k f into_cut p ≡ enter_as f into_cut p
  enter_by zero k into_cut e p = let same : k ≡ steps = omega (arith, e) in ap (λ x. enter_within x f into_cut p) same
  enter_by (suc n) k into_cut e p =
      let same : k ≡ suc (n + steps) = omega (arith, e) in
      ap (λ x. enter_within x f into_cut p) same
      ∙ same_case (enter_within (n + steps) f into_cut) (enter_as f into_cut) into_cut p (f.covering p) (enter_by n (n + steps) into_cut refl)
      ∙ sym (whole_enter w sound lasts into_cut p)

  pub enter_more : (k : ℕ) (into_cut : Bool) (p : Seen) → steps ≤ k → enter_within k f into_cut p ≡ enter_as f into_cut p
  enter_more k into_cut p most = let e : k ≡ (k - steps) + steps = omega (arith, most) in enter_by (k - steps) k into_cut e p

  same_out : (a b : Seen → Seen) (d : Seen) (here : Bool) (o : Option Seen) → ((q : Seen) → a q ≡ b q) → leave_case a d here o ≡ leave_case b d here o
  same_out a b d true (Some p) e = e p
  same_out a b d true None e = refl
  same_out a b d false p e = refl

  leave_by : (n k : ℕ) → k ≡ n + steps → (d : Seen) → leave_within k f d ≡ leave f d
  leave_by zero k e d = let same : k ≡ steps = omega (arith, e) in ap (λ x. leave_within x f d) same
  leave_by (suc n) k e d =
      let same : k ≡ suc (n + steps) = omega (arith, e) in
      ap (λ x. leave_within x f d) same
      ∙ same_out (leave_within (n + steps) f) (leave f) d (not (mount_of d == 0) && is_root f d) (on_of f (mount_of d)) (leave_by n (n + steps) refl)
      ∙ sym (whole_leave w sound lasts d)

  pub leave_more : (k : ℕ) (d : Seen) → steps ≤ k → leave_within k f d ≡ leave f d
  leave_more k d most = let e : k ≡ (k - steps) + steps = omega (arith, most) in leave_by (k - steps) k e d
