-- What the parts of calls come to.
use Rattle.std.proofs.Common.{◌≡◌, ℕ, suc, Bool, true, false, not, List, refl, subst}
use Rattle.std.specs.Prelude.{Option, Some, None, is_some}
use Rattle.vfs_tree.specs.Facts.{Facts}
use Rattle.vfs_tree.specs.Layers.{is_dir}
use Rattle.vfs_tree.specs.Paths.{Path, parse, is_empty, has_zero, is_too_long}
use Rattle.vfs_tree.specs.Place.{Seen, Mem, Null, UnionUp, UnionLow, bare, mount_of}
use Rattle.vfs_tree.specs.Steps.{◌>>=◌, ◌>>◌, refuse_if}
use Rattle.vfs_tree.specs.Views.{facts_of}
use Rattle.vfs_tree.specs.declared.errno.Errno.{Errno}
use Rattle.vfs_tree.specs.declared.errno.Errno.TheVariants as errno
use Rattle.vfs_tree.specs.declared.walk.Found.{Found}
use Rattle.vfs_tree.specs.declared.walk.Found.TheVariants as found
use Rattle.vfs_tree.specs.declared.walk.Need.{Need}
use Rattle.vfs_tree.specs.declared.walk.Step.{Step}
use Rattle.vfs_tree.specs.declared.walk.Step.TheVariants.{Go, Refuse, Wants}
use Rattle.vfs_tree.specs.declared.world.World.{World}
use Rattle.call_model.specs.Checks.{Doing, is_full, upper_store, need_shadow, lifted, copied_place, copied, place_at, mount_at, target_at, there, dir_at, free_target}
use Rattle.call_model.specs.Rows.{Way, check_way}
use Rattle.call_model.specs.declared.entry.Inner.{Inner}
use Rattle.call_model.specs.declared.entry.Inner.TheVariants.{Shadow, CopyUp, Detach, Doom}
use Rattle.call_laws.specs.Needing.{IsFree}
use Rattle.call_laws.proofs.FoundLaws.{IsReady, ReadyChild, ready-within}
use Rattle.call_laws.proofs.NeedLaws.{FreeNeed, Free, FreeFound}
use Rattle.call_laws.proofs.WalkLaws.{IsTarget, FoundWell}
use Rattle.call_laws.proofs.Whole.{IsWhole}

-- what a part finds has the one property, and what it needs the other
abbrev pub Holds : {A : Type 0} → (A → Type 0) → (Inner → Type 0) → Doing A → Type 0
Holds P N (Go a) = P a
Holds P N (Refuse e) = Unit {0}
Holds P N (Wants x) = N x

-- the same under a name
pub record Keeps {A : Type 0} (P : A → Type 0) (N : Inner → Type 0) (m : Doing A) : Type 0 where
  pub holds : Holds P N m

-- whatever is found
abbrev pub Any : {A : Type 0} → A → Type 0
Any a = Unit {0}

pub found_so : {A : Type 0} {P : A → Type 0} {N : Inner → Type 0} {a : A} → P a → Keeps P N (Go a)
found_so h = record { holds = h }

pub refused : {A : Type 0} {P : A → Type 0} {N : Inner → Type 0} {e : Errno} → Keeps P N (Refuse e)
refused = record { holds = tt }

pub needed : {A : Type 0} {P : A → Type 0} {N : Inner → Type 0} {x : Inner} → N x → Keeps P N (Wants x)
needed h = record { holds = h }

-- what is more has what is less
pub weaker : {A : Type 0} {P Q : A → Type 0} {M N : Inner → Type 0} (m : Doing A) → ((a : A) → P a → Q a) → ((x : Inner) → M x → N x) → Keeps P M m → Keeps Q N m
weaker (Go a) f g h = found_so (f a h.holds)
weaker (Refuse e) f g h = refused
weaker (Wants x) f g h = needed (g x h.holds)

-- a part, and then one that takes what it found
pub then : {A B : Type 0} {P : B → Type 0} {N : Inner → Type 0} {Q : A → Type 0} (m : Doing A) {k : A → Doing B} → Keeps Q N m → ((a : A) → Q a → Keeps P N (k a)) → Keeps P N (m >>= k)
then (Go a) h more = more a h.holds
then (Refuse e) h more = refused
then (Wants x) h more = needed h.holds

-- a check, and then a part
pub unless : {A : Type 0} {P : A → Type 0} {N : Inner → Type 0} (b : Bool) (e : Errno) {m : Doing A} → (b ≡ false → Keeps P N m) → Keeps P N (refuse_if b e >> m)
unless true e h = refused
unless false e h = h refl

-- a check alone
pub check : {N : Inner → Type 0} (b : Bool) (e : Errno) → Keeps Any N (refuse_if b e)
check true e = refused
check false e = found_so tt

-- a node that is made where a number is left for it, and where the upper layer has nothing: of a copy this is known in
-- a sound world that lasts
abbrev pub MakesNode : World → Inner → Type 0
MakesNode w (Shadow m u n) = (is_full w (upper_store w m) ≡ false) × IsFree (facts_of w) m u n
MakesNode w (CopyUp m u n) = (is_full w (upper_store w m) ≡ false) × (IsWhole w → IsFree (facts_of w) m u n)
MakesNode w (Detach m) = ⊥
MakesNode w (Doom at) = ⊥

pub keeps-shadow : {A : Type 0} {P : A → Type 0} (w : World) (x : Need) → FreeNeed (facts_of w) x → Keeps P (MakesNode w) (need_shadow w x)
keeps-shadow w x free = unless (is_full w (upper_store w x.mount)) _ (λ e. needed (e, free))

pub keeps-lifted : {A : Type 0} (w : World) (x : Step A Need) → Free (facts_of w) x → Keeps Any (MakesNode w) (lifted w x)
keeps-lifted w (Go a) free = found_so tt
keeps-lifted w (Refuse e) free = refused
keeps-lifted w (Wants x) free = keeps-shadow w x free

-- a place whose name is free in the upper layer, in a sound world that lasts
abbrev pub Ready : World → Seen → Type 0
Ready w p = IsWhole w → IsReady (facts_of w) p

pub ready_bare : (f : Facts) (p : Seen) → IsReady f p → IsReady f (bare p)
ready_bare f (Mem m i) h = h
ready_bare f (Null m p) h = ready_bare f p h
ready_bare f (UnionUp m i) h = h
ready_bare f (UnionLow m u n p) h = h

keeps-copied_place : (w : World) (p : Seen) → Ready w p → Keeps Any (MakesNode w) (copied_place w p)
keeps-copied_place w (Mem m i) ready = found_so tt
keeps-copied_place w (Null m p) ready = found_so tt
keeps-copied_place w (UnionUp m i) ready = found_so tt
keeps-copied_place w (UnionLow m u n p) ready = unless (is_full w (upper_store w m)) _ (λ e. needed (e, ready))

pub keeps-copied : (w : World) (p : Seen) → Ready w p → Keeps Any (MakesNode w) (copied w p)
keeps-copied w p ready = keeps-copied_place w (bare p) (λ h. ready_bare (facts_of w) p (ready h))

-- what is found is well in a sound world that lasts
abbrev pub Well : World → Found → Type 0
Well w a = IsWhole w → FoundWell (facts_of w) a

pub ready_at : (w : World) (a : Found) (p : Seen) → Well w a → a ≡ found.At p → Ready w p
ready_at w a p well is h = let end : FoundWell (facts_of w) (found.At p) = subst (FoundWell (facts_of w)) is (well h) in end.good.ready

pub ready_child : (f : Facts) (d p : Seen) (n : List ℕ) → IsTarget f d n (Some p) → IsReady f p
ready_child f d p n t = subst (ReadyChild f) t.child (ready-within (suc (mount_of d)) f d n)

pub ready_in : (w : World) (a : Found) (d p : Seen) (n : List ℕ) → Well w a → a ≡ found.In d n (Some p) → Ready w p
ready_in w a d p n well is h = let t : FoundWell (facts_of w) (found.In d n (Some p)) = subst (FoundWell (facts_of w)) is (well h) in ready_child (facts_of w) d p n t

-- ---- what a walk found

pub keeps-place_at : (w : World) (a : Found) → FreeFound (facts_of w) a → Keeps Any (MakesNode w) (place_at w a)
keeps-place_at w (found.At p) free = found_so tt
keeps-place_at w (found.Need x) free = keeps-shadow w x free
keeps-place_at w _ free = refused

-- the place that is found
pub keeps-found_at : (w : World) (a : Found) → FreeFound (facts_of w) a → Keeps (λ p. a ≡ found.At p) (MakesNode w) (place_at w a)
keeps-found_at w (found.At p) free = found_so refl
keeps-found_at w (found.Need x) free = keeps-shadow w x free
keeps-found_at w _ free = refused

-- the name that is found, and what stands at it
pub keeps-found_in : (w : World) (dot : Errno) (a : Found) → FreeFound (facts_of w) a → Keeps (λ t. a ≡ found.In t.dir t.name t.child) (MakesNode w) (target_at w dot a)
keeps-found_in w dot (found.In d n c) free = found_so refl
keeps-found_in w dot (found.Need x) free = keeps-shadow w x free
keeps-found_in w dot _ free = refused

-- the mount that is found
pub keeps-found_mount : (w : World) (a : Found) → FreeFound (facts_of w) a → Keeps (λ m. a ≡ found.Mount m) (MakesNode w) (mount_at w a)
keeps-found_mount w (found.Mount m) free = found_so refl
keeps-found_mount w (found.Need x) free = keeps-shadow w x free
keeps-found_mount w _ free = refused

pub keeps-mount_at : (w : World) (a : Found) → FreeFound (facts_of w) a → Keeps Any (MakesNode w) (mount_at w a)
keeps-mount_at w (found.Mount m) free = found_so tt
keeps-mount_at w (found.Need x) free = keeps-shadow w x free
keeps-mount_at w _ free = refused

pub keeps-target_at : (w : World) (dot : Errno) (a : Found) → FreeFound (facts_of w) a → Keeps Any (MakesNode w) (target_at w dot a)
keeps-target_at w dot (found.In d n c) free = found_so tt
keeps-target_at w dot (found.Need x) free = keeps-shadow w x free
keeps-target_at w dot _ free = refused

pub keeps-there : {N : Inner → Type 0} (o : Option Seen) → Keeps Any N (there o)
keeps-there (Some p) = found_so tt
keeps-there None = refused

pub keeps-there_at : {N : Inner → Type 0} (o : Option Seen) → Keeps (λ p. o ≡ Some p) N (there o)
keeps-there_at (Some p) = found_so refl
keeps-there_at None = refused

pub keeps-dir_at : (w : World) (a : Found) → FreeFound (facts_of w) a → Keeps Any (MakesNode w) (dir_at w a)
keeps-dir_at w a free = then (place_at w a) (keeps-place_at w a free) (λ p _. unless (not (is_dir (facts_of w) p)) _ (λ _. found_so tt))

pub keeps-free_target : (w : World) (a : Found) → FreeFound (facts_of w) a → Keeps Any (MakesNode w) (free_target w a)
keeps-free_target w a free = then (target_at w errno.EEXIST a) (keeps-target_at w errno.EEXIST a free) (λ t _. unless (is_some t.child) _ (λ _. found_so tt))

-- ---- paths

keeps-parse : (bytes : List ℕ) → Keeps Any (λ x. ⊥) (parse bytes)
keeps-parse bytes = unless (is_empty bytes) _ (λ _. unless (has_zero bytes) _ (λ _. unless (is_too_long bytes) _ (λ _. found_so tt)))

-- a path that is one is nothing else
lawful : (N : Inner → Type 0) (m : Doing Path) → Keeps Any (λ x. ⊥) m → Keeps (λ (u : Unit {0}). (m >> Go (tt {0})) ≡ Go (tt {0})) N (m >> Go (tt {0}))
lawful N (Go a) h = found_so refl
lawful N (Refuse e) h = refused
lawful N (Wants x) h = absurd h.holds

pub keeps-check_way : (N : Inner → Type 0) (o : Option Way) → Keeps (λ (u : Unit {0}). check_way o ≡ Go tt) N (check_way o)
keeps-check_way N (Some way) = lawful N (parse way.text) (keeps-parse way.text)
keeps-check_way N None = found_so refl
