-- What walks find is sound.
use Rattle.std.proofs.Common.{◌≡◌, ℕ, zero, suc, ◌+◌, ◌≤◌, ◌<◌, true, false, List, refl, ap, sym, subst, arith}
use Rattle.std.specs.Prelude.{Option, Some, None, IsSome}
use Rattle.vfs_tree.specs.Child.{child_of, steps}
use Rattle.vfs_tree.specs.Facts.{Facts}
use Rattle.vfs_tree.specs.Layers.{kind_in, base, is_dir, is_linked, is_cut, root_of}
use Rattle.vfs_tree.specs.Place.{Seen, Mem, Null, UnionUp, UnionLow, mount_of}
use Rattle.vfs_tree.specs.Sound.{is_mem, is_null, is_union, names_mounts}
use Rattle.vfs_tree.specs.Walk.{enter_case, enter_within}
use Rattle.vfs_tree.specs.declared.walk.Child.{Child}
use Rattle.vfs_tree.specs.declared.walk.Child.TheVariants as child
use Rattle.vfs_tree.specs.declared.walk.Found.{Found}
use Rattle.call_laws.proofs.ChildInduction.{Comes}
use Rattle.call_laws.proofs.FoundLaws.{IsGood, UncutNeed, IsGoodView, good_root, GoodChild, good-child, good_above}
use Rattle.call_laws.proofs.SoundParts.{first_of, mem_there, null_there, union_there, mount_there}
use Rattle.call_laws.proofs.WalkInduction.{comes_unless, root_mount, NameSo, WalkKeeps, FoundSo}

abbrev pub stands_at : Option Seen → Child
stands_at (Some p) = child.At p
stands_at None = child.Absent

-- a name in a linked directory, and what stands at it
pub record IsTarget (f : Facts) (d : Seen) (n : List ℕ) (o : Option Seen) : Type 0 where
  pub good : IsGood f d
  pub dir : is_dir f d ≡ true
  pub linked : (let b = base f d in is_linked f b.store b.ino) ≡ true
  pub child : child_of f d n ≡ stands_at o

-- a place at which a walk ends: nothing covers it
pub record IsEnd (f : Facts) (p : Seen) : Type 0 where
  pub good : IsGood f p
  pub bare : f.covering p ≡ None

-- a mount that is there, also where it is cut; and no need is of a union that is cut
abbrev pub FoundWell : Facts → Found → Type 0
FoundWell f x = FoundSo (UncutNeed f) (IsEnd f) (IsTarget f) (λ m. IsSome (f.mount m)) x

-- the mount of a place is there
head_kind : (f : Facts) (p : Seen) → names_mounts f p ≡ true → IsSome (kind_in f (mount_of p))
head_kind f (Mem m i) h = mem_there (kind_in f m) h
head_kind f (Null m p) h = null_there (kind_in f m) (first_of (is_null (kind_in f m)) (names_mounts f p) h)
head_kind f (UnionUp m i) h = union_there (kind_in f m) h
head_kind f (UnionLow m u n p) h = union_there (kind_in f m) (first_of (is_union (kind_in f m)) (names_mounts f p) h)

pub head_there : (f : Facts) (p : Seen) → names_mounts f p ≡ true → IsSome (f.mount (mount_of p))
head_there f p h = mount_there (f.mount (mount_of p)) (head_kind f p h)

module _ (f : Facts) (view : IsGoodView f) where
  root_good : IsGood f (Mem 0 1)
  root_good = record {
    sound = record { mounts = ap is_mem view.sound.root; base = view.roots 0 view.sound.root; files = tt };
    uncut = view.first;
    over = tt;
    ready = tt;
  }

  pub covers_good : (p : Seen) (m : ℕ) → f.covering p ≡ Some m → is_cut f m ≡ false → IsGood f (root_of f m)
  covers_good p m is cut = good_root f view m (view.covers p m is) cut

  -- each mount that is entered has a greater number, so all are passed
  end_enter_case : (k : ℕ) → ((p : Seen) → 4294967295 ≤ k + mount_of p → IsGood f p → Comes (UncutNeed f) (IsEnd f) (enter_within k f false p))
      → (p : Seen) → 4294967295 ≤ suc k + mount_of p → IsGood f p → (o : Option ℕ) → f.covering p ≡ o → Comes (UncutNeed f) (IsEnd f) (enter_case (enter_within k f false) f false p o)
  end_enter_case k g p far h None is = record { good = h; bare = is }
  end_enter_case k g p far h (Some m) is =
      comes_unless (UncutNeed f) (IsEnd f) (is_cut f m) _ (enter_within k f false (root_of f m)) (λ cut.
      let rises : mount_of p < m = view.rises p m is in
      let at : mount_of (root_of f m) ≡ m = root_mount m (kind_in f m) in
      g (root_of f m) (subst (λ x. 4294967295 ≤ k + x) (sym at) (omega (arith, rises, far))) (covers_good p m is cut))

  end_enter : (k : ℕ) (p : Seen) → 4294967295 ≤ k + mount_of p → IsGood f p → Comes (UncutNeed f) (IsEnd f) (enter_within k f false p)
  end_enter zero p far h =
      let few : mount_of p < 4294967295 = view.few (mount_of p) (head_there f p h.sound.mounts) in
      absurd (omega (arith, few, far))
  end_enter (suc k) p far h = end_enter_case k (end_enter k) p far h (f.covering p) refl

  many_steps : (n : ℕ) → 4294967295 ≤ steps + n
  unfolding steps
  many_steps n = omega arith

  target : (d : Seen) (n : List ℕ) → IsGood f d → is_dir f d ≡ true → (let b = base f d in is_linked f b.store b.ino) ≡ true → (c : Child) → child_of f d n ≡ c → GoodChild f view (mount_of d) c
      → NameSo (UncutNeed f) (IsGood f) (IsTarget f d n) c
  target d n good dir linked (child.At p) is h = (h.0, record { good = good; dir = dir; linked = linked; child = is })
  target d n good dir linked child.Absent is h = record { good = good; dir = dir; linked = linked; child = is }
  target d n good dir linked (child.Need x) is h = h

  -- walks keep what is sound
  pub good_walks : WalkKeeps f (UncutNeed f) (IsGood f) (IsEnd f) (IsTarget f) (λ m. IsSome (f.mount m))
  good_walks = record {
    root = root_good;
    above = λ d h. good_above f view d h;
    child = λ d n h dir linked. target d n h dir linked (child_of f d n) refl (good-child f view d n h);
    covers = covers_good;
    ends = λ p h. end_enter steps p (many_steps (mount_of p)) h;
    mount = λ p h. head_there f p h.sound.mounts;
    into = view.covers;
  }
