-- What the calls on mounts leave and need.
use Rattle.std.proofs.Common.{◌≡◌, ℕ, false, cond, not, ◌==◌, inl, inr, List, refl, ap, sym, ◌∙◌, subst, arith, nat_cmp}
use Rattle.std.specs.Prelude.{Option, Some, None, IfSome, IsSome, is_some, nat_lt}
use Rattle.std.specs.Cmp.{nat_cmp_total, unsigned_ties}
use Rattle.std.specs.FinMap.{FinMap, get, remove, len, get-remove}
use Rattle.std.specs.List.{list_any}
use Rattle.vfs_tree.specs.Layers.{is_file, same_place, depth, stores, base, same_node}
use Rattle.vfs_tree.specs.Mounts.{has_references, is_covered, is_of}
use Rattle.vfs_tree.specs.Place.{Seen, Mem, Null, UnionUp, UnionLow, mount_of}
use Rattle.vfs_tree.specs.Views.{facts_of}
use Rattle.vfs_tree.specs.declared.walk.Found.{Found}
use Rattle.vfs_tree.specs.declared.walk.Found.TheVariants as found
use Rattle.vfs_tree.specs.declared.walk.Leaf.TheVariants as leaf
use Rattle.vfs_tree.specs.declared.walk.Step.TheVariants.{Go}
use Rattle.vfs_tree.specs.declared.world.World.{World}
use Rattle.call_model.specs.Checks.{place_at, mount_at, dir_at}
use Rattle.call_model.specs.MountRows as rows
use Rattle.call_model.specs.Refs.{references, open_references, first_in, first_open}
use Rattle.call_model.specs.Rows.{way, check_way}
use Rattle.call_model.specs.declared.call.Call.{Call}
use Rattle.call_model.specs.declared.call.Call.TheVariants as call
use Rattle.call_model.specs.declared.entry.Inner.{Inner}
use Rattle.call_model.specs.declared.entry.Inner.TheVariants.{Shadow, CopyUp, Detach, Doom}
use Rattle.call_model.specs.declared.entry.Ref.{Ref}
use Rattle.call_model.specs.declared.reply.Reply.{Reply}
use Rattle.call_model.specs.declared.reply.Reply.TheVariants as reply
use Rattle.call_model.specs.Legal.{is_no_memory}
use Rattle.call_laws.specs.Fitting.{IsLive, Leaves, MayNeed}
use Rattle.call_laws.specs.Flags.{SetsNoFlag}
use Rattle.call_model.specs.NameEdits.{is_fail}
use Rattle.call_laws.specs.Needing.{IsFree}
use Rattle.call_laws.proofs.FlagLaws.{no_flag}
use Rattle.call_laws.proofs.NeedLaws.{FreeFound}
use Rattle.call_laws.specs.Leaving.{IsLeaver}
use Rattle.call_laws.specs.Live.{live}
use Rattle.call_laws.proofs.LiveCount.{first-live, references_stand, open_references_stand}
use Rattle.call_laws.proofs.Parts.{Keeps, Any, MakesNode, found_so, refused, needed, weaker, then, unless, check, keeps-place_at, keeps-mount_at, keeps-dir_at, Well, keeps-found_mount}
use Rattle.call_laws.proofs.WalkLaws.{FoundWell}
use Rattle.call_laws.proofs.Whole.{IsWhole}
use Rattle.call_laws.proofs.WeightLaws.{get_at-remove}
use Rattle.call_laws.proofs.NameParts.{Ends, alone-itself, plain}

-- ---- calls that don't leave a mount

-- no more is dead, and the reply is no refusal
pub record Answered (w new : World) (r : Reply) : Type 0 where
  pub flags : SetsNoFlag w new
  pub done : is_fail r ≡ false

-- what a call leaves
abbrev pub Left : World → ℕ → Call → World × Reply → Type 0
Left w c call x = Leaves w c call x.0 x.1 × Answered w x.0 x.1

-- what is no refusal is no want of memory
pub done_so : (r : Reply) → is_fail r ≡ false → is_no_memory r ≡ false
done_so (reply.Fail e) h = cc
done_so _ h = refl

-- a shadow directory or a copy is made where the upper layer has nothing, and a mount is detached that isn't the first and
-- isn't covered
abbrev pub FreeInner : World → Inner → Type 0
FreeInner w (Shadow m u n) = IsFree (facts_of w) m u n
FreeInner w (CopyUp m u n) = IsWhole w → IsFree (facts_of w) m u n
FreeInner w (Detach m) = ((m == 0) ≡ false) × (is_covered w m ≡ false) × (IsWhole w → IsSome (get w.mounts m))
FreeInner w (Doom at) = Unit {0}

-- what a call needs
abbrev pub Needed : World → ℕ → Call → Inner → Type 0
Needed w c call x = MayNeed w c call x × FreeInner w x

pub may_make : (w : World) (c : ℕ) (call : Call) (x : Inner) → MakesNode w x → Needed w c call x
may_make w c call (Shadow m u n) h = (h.0, h.1)
may_make w c call (CopyUp m u n) h = (h.0, h.1)
may_make w c call (Detach m) h = absurd h
may_make w c call (Doom at) h = absurd h

none_left : (o : Option ℕ) → IfSome o (λ m. ⊥) → o ≡ None
none_left (Some m) h = absurd h
none_left None h = refl

if_left : (o : Option ℕ) (P : Type 0) → (P → ⊥) → IfSome o (λ m. P) → IfSome o (λ m. ⊥)
if_left (Some m) P isnt h = isnt h
if_left None P isnt h = tt

pub left_plain : (w : World) (c : ℕ) (call : Call) → (IsLeaver (Some call) → ⊥) → (x : World × Reply) → Ends w x → Left w c call x
left_plain w c call isnt x h = (
  record {
    answered = done_so x.1 h.1;
    live = h.0.most;
    others = λ d apart. ap (λ m. get m d) h.0.leaving;
    own = λ leaver. ap (λ m. get m c) h.0.leaving ∙ none_left (get w.leaving c) (if_left (get w.leaving c) (IsLeaver (Some call)) isnt leaver);
  },
  record { flags = h.0.flags; done = h.1 },
)

-- ---- new mounts

keeps-check_mounts : (w : World) → Keeps Any (MakesNode w) (rows.check_mounts w)
keeps-check_mounts w = unless (not (nat_lt (len w.mounts) w.limits.mounts)) _ (λ _. check (w.next_mount == 4294967295) _)

pub keeps-mount_mem : (w : World) (a : Found) → FreeFound (facts_of w) a → Keeps (Ends w) (MakesNode w) (rows.mount_mem w a)
keeps-mount_mem w a fa =
    then (dir_at w a) (keeps-dir_at w a fa) (λ on _.
    then (rows.check_mounts w) (keeps-check_mounts w) (λ _ _. found_so (plain w _ (refl, refl, refl), refl)))

pub keeps-mount_null : (w : World) (a b : Found) → FreeFound (facts_of w) a → FreeFound (facts_of w) b → Keeps (Ends w) (MakesNode w) (rows.mount_null w a b)
keeps-mount_null w a b fa fb =
    then (dir_at w a) (keeps-dir_at w a fa) (λ layer _.
    then (dir_at w b) (keeps-dir_at w b fb) (λ on _.
    unless (same_place layer on) _ (λ _.
    unless (depth (facts_of w) layer == rows.most_depth) _ (λ _.
    then (rows.check_mounts w) (keeps-check_mounts w) (λ _ _. found_so (plain w _ (refl, refl, refl), refl))))))

keeps-upper_of : (w : World) (p : Seen) → Keeps Any (MakesNode w) (rows.upper_of p)
keeps-upper_of w (Mem m i) = found_so tt
keeps-upper_of w (Null m p) = refused
keeps-upper_of w (UnionUp m i) = refused
keeps-upper_of w (UnionLow m u n p) = refused

pub keeps-mount_union : (w : World) (a b : Found) → FreeFound (facts_of w) a → FreeFound (facts_of w) b → Keeps (Ends w) (MakesNode w) (rows.mount_union w a b)
keeps-mount_union w a b fa fb =
    then (dir_at w a) (keeps-dir_at w a fa) (λ up _.
    then (dir_at w b) (keeps-dir_at w b fb) (λ on _.
    then (rows.upper_of up) (keeps-upper_of w up) (λ upper _.
    unless (list_any (λ s. s == upper.store) (stores (facts_of w) on)) _ (λ _.
    unless (depth (facts_of w) on == rows.most_depth) _ (λ _.
    then (rows.check_mounts w) (keeps-check_mounts w) (λ _ _. found_so (plain w _ (refl, refl, refl), refl)))))))

-- ---- unmount(2)

pub keeps-umount : (w : World) (a : Found) → FreeFound (facts_of w) a → Keeps (Ends w) (MakesNode w) (rows.umount w a)
keeps-umount w a fa =
    then (mount_at w a) (keeps-mount_at w a fa) (λ m _.
    unless (m == 0) _ (λ _. unless (has_references w m) _ (λ _. found_so (plain w (rows.without_mount w m) (refl, refl, refl), refl))))

others_left : (m : FinMap nat_cmp ℕ) (c d : ℕ) → (d == c) ≡ false → get (remove m c) d ≡ get m d
others_left m c d apart = get-remove nat_cmp_total m c d ∙ ap (λ b. cond b None (get m d)) (sym (unsigned_ties d c) ∙ apart)

left_force : (w : World) (c m : ℕ) (p : List ℕ) → Left w c (call.UmountForce p) (rows.left w c m, reply.Done)
left_force w c m p =
    let new : World = rows.left w c m in
    let same : live new ≡ live w = refl in (
      record {
        answered = refl;
        live = omega arith;
        others = λ d apart. others_left w.leaving c d apart;
        own = λ _. get_at-remove nat_cmp_total w.leaving c;
      },
      record { flags = no_flag w new refl refl; done = refl },
    )

keeps-doom_next : (w : World) (c m : ℕ) (p : List ℕ) → IsSome (get w.leaving c) → (o : Option Ref) → IfSome o (IsLive w)
    → Keeps (Left w c (call.UmountForce p)) (Needed w c (call.UmountForce p)) (rows.doom_next w c m o)
keeps-doom_next w c m p leaving (Some at) h = needed ((h, inl leaving), tt)
keeps-doom_next w c m p leaving None h = found_so (left_force w c m p)

mount_there : (w : World) (a : Found) (m : ℕ) → Well w a → a ≡ found.Mount m → IsWhole w → IsSome (get w.mounts m)
mount_there w a m well is h = subst (FoundWell (facts_of w)) is (well h)

keeps-detach_first : (w : World) (c : ℕ) (p : List ℕ) (a : Found) → FreeFound (facts_of w) a → Well w a → get w.leaving c ≡ None → check_way (way leaf.Mount p) ≡ Go tt
    → Keeps (Left w c (call.UmountForce p)) (Needed w c (call.UmountForce p)) (rows.detach_first w a)
keeps-detach_first w c p a fa wa none lawful =
    then (mount_at w a) (weaker (mount_at w a) (λ _ h. h) (may_make w c (call.UmountForce p)) (keeps-found_mount w a fa)) (λ m is.
    unless (m == 0) _ (λ other. unless (is_covered w m) _ (λ free. needed ((none, lawful), (other, free, mount_there w a m wa is)))))

keeps-umount_by : (w : World) (c : ℕ) (p : List ℕ) (a : Found) → FreeFound (facts_of w) a → Well w a → check_way (way leaf.Mount p) ≡ Go tt → (o : Option ℕ) → get w.leaving c ≡ o
    → Keeps (Left w c (call.UmountForce p)) (Needed w c (call.UmountForce p)) (rows.umount_by w c a o)
keeps-umount_by w c p a fa wa lawful (Some m) is =
    keeps-doom_next w c m p (ap is_some is) (first_in w m) (first-live w (λ r. is_of w.mounts m (mount_of r.place)) (references w) (references_stand w))
keeps-umount_by w c p a fa wa lawful None is = keeps-detach_first w c p a fa wa is lawful

pub keeps-umount_force : (w : World) (c : ℕ) (p : List ℕ) (a : Found) → FreeFound (facts_of w) a → Well w a → check_way (way leaf.Mount p) ≡ Go tt
    → Keeps (Left w c (call.UmountForce p)) (Needed w c (call.UmountForce p)) (rows.umount_force w c a)
keeps-umount_force w c p a fa wa lawful = keeps-umount_by w c p a fa wa lawful (get w.leaving c) refl

-- ---- revoke(2)

keeps-revoke_next : (w : World) (c : ℕ) (p : List ℕ) (o : Option Ref) → IfSome o (IsLive w)
    → Keeps (Left w c (call.Revoke p)) (Needed w c (call.Revoke p)) (rows.revoke_next w o)
keeps-revoke_next w c p (Some at) h = needed ((h, inr tt), tt)
keeps-revoke_next w c p None h = found_so (left_plain w c (call.Revoke p) (λ x. x) (w, reply.Done) (plain w w (alone-itself w), refl))

pub keeps-revoke : (w : World) (c : ℕ) (p : List ℕ) (a : Found) → FreeFound (facts_of w) a → Keeps (Left w c (call.Revoke p)) (Needed w c (call.Revoke p)) (rows.revoke w a)
keeps-revoke w c p a fa =
    then (place_at w a) (weaker (place_at w a) (λ _ h. h) (may_make w c (call.Revoke p)) (keeps-place_at w a fa)) (λ q _.
    unless (not (is_file (facts_of w) q)) _ (λ _.
    keeps-revoke_next w c p (first_open w q) (first-live w (λ r. same_node (base (facts_of w) r.place) (base (facts_of w) q)) (open_references w) (open_references_stand w))))
