-- How far a step takes a call: it goes on, or it ends.
use Rattle.std.proofs.Common.{◌≡◌, ℕ, ◌+◌, ◌<◌, ◌≤◌, true, false, ◌++◌, List, [], ◌∷◌, map, refl, ap, sym, subst, ◌∙◌, inl, inr, arith, append_assoc}
use Rattle.std.specs.Prelude.{◌⊎◌, Option, Some, None, IsSome, IfSome, is_some, option_map}
use Rattle.std.specs.FinMap.{get}
use Rattle.std.proofs.lemmas.List.{append-nil}
use Rattle.vfs_tree.specs.Layers.{base}
use Rattle.vfs_tree.specs.Place.{Seen}
use Rattle.vfs_tree.specs.Views.{facts_of}
use Rattle.vfs_tree.specs.declared.errno.Errno.TheVariants as errno
use Rattle.vfs_tree.specs.declared.walk.NodeId.{NodeId}
use Rattle.vfs_tree.specs.declared.walk.Step.TheVariants.{Wants}
use Rattle.vfs_tree.specs.declared.world.World.{World}
use Rattle.call_model.specs.Checks.{Outcome}
use Rattle.call_model.specs.Effects.{doomed, effect}
use Rattle.call_model.specs.Legal.{MayAnswer}
use Rattle.call_model.specs.MountRows.{doom_next}
use Rattle.call_model.specs.Recorded.{Recorded}
use Rattle.call_model.specs.Refs.{first_in, place_of}
use Rattle.call_model.specs.Rows.{row}
use Rattle.call_model.specs.declared.call.Call.{Call}
use Rattle.call_model.specs.declared.entry.Entry.{Entry}
use Rattle.call_model.specs.declared.entry.Entry.TheVariants as entry
use Rattle.call_model.specs.declared.entry.Inner.{Inner}
use Rattle.call_model.specs.declared.entry.Inner.TheVariants.{Shadow, CopyUp, Detach, Doom}
use Rattle.call_model.specs.declared.entry.Ref.{Ref}
use Rattle.call_model.specs.declared.entry.Ref.TheVariants.{Fd, Cwd as Here}
use Rattle.call_model.specs.declared.reply.Reply.{Reply}
use Rattle.call_model.specs.declared.reply.Reply.TheVariants as reply
use Rattle.call_laws.specs.Fitting.{Fits, IsLive, IsRevoke, MayNeed, TakesNumber}
use Rattle.call_laws.specs.Leaving.{IsLeaver, IsLeaving}
use Rattle.call_laws.specs.Live.{live}
use Rattle.call_laws.specs.Revoking.{first_open_on}
use Rattle.call_laws.proofs.LiveLaws.{live-doomed, live-inner}
use Rattle.call_laws.proofs.RowLaws.{leaver_row, row_fits}
use Rattle.plain_effects.specs.Room.{HasRoom}
use Rattle.vfs_core.specs.Coming.{DoomsAll, DoomsOpen, Ends, Goes, doomed_by}
use Rattle.vfs_core.specs.Stepping.{dooms}
use Rattle.vfs_core.proofs.ComingLaws.{append_open, first_falls, may_answer, may_lack, revokes}

-- ---- what a call needs

pub needs_fit : (w : World) (c : ℕ) (call : Call) (x : Inner) → row w c call ≡ Wants x → MayNeed w c call x
needs_fit w c call x needs = subst (Fits w c call) needs (row_fits w c call)

room_in : (w : World) (c : ℕ) (call : Call) (x : Inner) → MayNeed w c call x → HasRoom w x
room_in w c call (Shadow m u n) h = h
room_in w c call (CopyUp m u n) h = h
room_in w c call (Detach m) h = tt
room_in w c call (Doom at) h = tt

pub room_for : (w : World) (c : ℕ) (call : Call) (x : Inner) → row w c call ≡ Wants x → HasRoom w x
room_for w c call x needs = room_in w c call x (needs_fit w c call x needs)

-- a caller that is leaving a mount needs dooms alone
wants_of : Option Ref → Outcome → Option Ref
wants_of d (Wants x) = doomed_by x
wants_of d _ = d

doom_alone : (w : World) (c m : ℕ) (o : Option Ref) (x : Inner) → doom_next w c m o ≡ Wants x → doomed_by x ≡ None → ⊥
unfolding wants_of
doom_alone w c m (Some at) x is none =
    let doom : Some at ≡ doomed_by x = ap (wants_of None) is in
    let clash : Some at ≡ None = doom ∙ none in
    cc
doom_alone w c m None x is none = cc

stays_by : (w : World) (c : ℕ) (call : Call) (x : Inner) (o : Option ℕ) → get w.leaving c ≡ o → IfSome o (λ m. IsLeaver (Some call)) → row w c call ≡ Wants x → doomed_by x ≡ None → o ≡ None
stays_by w c call x None is leaver needs none = refl
stays_by w c call x (Some m) is leaver needs none = absurd (doom_alone w c m (first_in w m) x (sym (leaver_row w c call m is leaver) ∙ needs) none)

stays_for : (w : World) (c : ℕ) (call : Call) (x : Inner) → IsLeaving w c (Some call) → row w c call ≡ Wants x → doomed_by x ≡ None → get w.leaving c ≡ None
stays_for w c call x leaver needs none = stays_by w c call x (get w.leaving c) refl leaver needs none

-- ---- a call that goes on

pub goes_other : (w v : World) (old new : Recorded) (c : ℕ) (call : Call) (x : Inner) → row w c call ≡ Wants x → doomed_by x ≡ None → v ≡ effect w c x → TakesNumber w x
    → new.entries ≡ old.entries ++ entry.Inner c x ∷ [] → old.spare ≤ new.spare → Goes w v old new c call x
goes_other w v old new c call x needs none is number entered room =
    let most : live v ≤ live w = subst (λ (y : World). live y ≤ live w) (sym is) (live-inner w c x) in
    record {
      needs = needs;
      world = is;
      number = number;
      entered = entered;
      room = omega arith;
      leaves = λ some. let clash : false ≡ true = sym (ap is_some none) ∙ some in absurd cc;
    }

left_of : {A B : Type 0} → A ⊎ B → (B → ⊥) → A
left_of (inl a) unfit = a
left_of (inr b) unfit = absurd (unfit b)

pub goes_doom : (w v : World) (old new : Recorded) (c : ℕ) (call : Call) (at : Ref) → row w c call ≡ Wants (Doom at) → (IsRevoke call → ⊥) → v ≡ doomed w at
    → new.entries ≡ old.entries ++ entry.Inner c (Doom at) ∷ [] → new.spare + 1 ≡ old.spare → Goes w v old new c call (Doom at)
goes_doom w v old new c call at needs plain is pushed spare =
    let may = needs_fit w c call (Doom at) needs in
    let fewer : live v < live w = subst (λ (y : World). live y < live w) (sym is) (live-doomed w at may.0) in
    record {
      needs = needs;
      world = is;
      number = tt;
      entered = pushed;
      room = omega arith;
      leaves = λ _. left_of may.1 plain;
    }

-- ---- a call that ends

-- its answer was at hand
pub ends_at_once : (w v : World) (old new : Recorded) (c : ℕ) (call : Call) (r : Reply) → MayAnswer w [] c call r v → new.entries ≡ old.entries → old.spare ≤ new.spare → Ends w v old new c call r
ends_at_once w v old new c call r answered same room = record {
  ats = [];
  mid = w;
  made = refl;
  entered = same ∙ sym (append-nil old.entries);
  room = omega arith;
  answered = answered;
  only = inl refl;
}

-- memory was wanting for what it needs
pub ends_lacking : (w v : World) (old new : Recorded) (c : ℕ) (call : Call) (x : Inner) (r : Reply) → IsLeaving w c (Some call) → row w c call ≡ Wants x → doomed_by x ≡ None
    → r ≡ reply.Fail errno.ENOMEM → v ≡ w → new.entries ≡ old.entries → old.spare ≤ new.spare → Ends w v old new c call r
ends_lacking w v old new c call x r leaver needs none lacks same kept room =
    ends_at_once w v old new c call r (subst (λ y. MayAnswer w [] c call y v) (sym lacks) (may_lack w v c call (stays_for w c call x leaver needs none) same)) kept room

-- it is a revoke that has made its dooms
pub ends_revoked : (w v : World) (old new : Recorded) (c : ℕ) (call : Call) (at : Ref) (node : NodeId) (r : Reply) → IsRevoke call → row w c call ≡ Wants (Doom at)
    → Some node ≡ option_map (base (facts_of w)) (place_of w at) → DoomsAll node c w v old new → first_open_on v node ≡ None → r ≡ reply.Done → Ends w v old new c call r
ends_revoked w v old new c call at node r revoke needs under all none done =
    let made = revokes w v c call at node all.ats revoke needs (sym under) all.made none in
    record {
      ats = all.ats;
      mid = v;
      made = made.needs;
      entered = all.entered;
      room = all.room;
      answered = subst (λ y. MayAnswer v (map (λ a. c) all.ats) c call y v) (sym done) (may_answer v v (map (λ a. c) all.ats) c call reply.Done made.done);
      only = inr revoke;
    }

under_some : (f : Seen → NodeId) (o : Option Seen) → IsSome o → None ≡ option_map f o → ⊥
under_some f None some none = cc
under_some f (Some p) some none = cc

some_place : {X : Type 0} (f : X → Seen) (o : Option X) → IsSome o → IsSome (option_map f o)
some_place f None some = cc
some_place f (Some x) some = refl

place_live : (w : World) (at : Ref) → IsLive w at → IsSome (place_of w at)
place_live w (Fd c d) h = some_place (λ o. o.place) (get w.opens (c, d)) h.1
place_live w (Here c) h = some_place (λ d. d.place) (get w.cwds c) h.1

-- what a call needs to doom is there
pub under_there : (w : World) (c : ℕ) (call : Call) (at : Ref) → row w c call ≡ Wants (Doom at) → None ≡ option_map (base (facts_of w)) (place_of w at) → ⊥
under_there w c call at needs none = under_some (base (facts_of w)) (place_of w at) (place_live w at (needs_fit w c call (Doom at) needs).0) none

-- ---- the dooms of a revoke

pub dooms_none : (node : NodeId) (c : ℕ) (w : World) (old : Recorded) → DoomsAll node c w w old old
dooms_none node c w old = record { ats = []; made = refl; entered = sym (append-nil old.entries); room = omega arith }

dooms_append : (c : ℕ) (ats : List Ref) (at : Ref) → dooms c (ats ++ at ∷ []) ≡ dooms c ats ++ entry.Inner c (Doom at) ∷ []
dooms_append c [] at = refl
dooms_append c (a ∷ ats) at = ap (λ es. entry.Inner c (Doom a) ∷ es) (dooms_append c ats at)

pub dooms_more : (node : NodeId) (c : ℕ) (w v x : World) (old mid new : Recorded) (at : Ref) → DoomsAll node c w v old mid → Some at ≡ first_open_on v node → x ≡ doomed v at
    → new.entries ≡ mid.entries ++ entry.Inner c (Doom at) ∷ [] → new.spare + 1 ≡ mid.spare → DoomsAll node c w x old new
dooms_more node c w v x old mid new at all first is pushed spare =
    let fewer : live x < live v = subst (λ (y : World). live y < live v) (sym is) (first_falls v node at (sym first)) in
    let before : live v + old.spare ≤ live w + mid.spare = all.room in
    record {
      ats = all.ats ++ at ∷ [];
      made = subst (λ (y : World). DoomsOpen node w (all.ats ++ at ∷ []) y) (sym is) (append_open node w v all.ats at all.made (sym first));
      entered = pushed
          ∙ ap (λ es. es ++ entry.Inner c (Doom at) ∷ []) all.entered
          ∙ append_assoc old.entries (dooms c all.ats) (entry.Inner c (Doom at) ∷ [])
          ∙ ap (λ es. old.entries ++ es) (sym (dooms_append c all.ats at));
      room = omega arith;
    }

pub falls_next : (v x : World) (node : NodeId) (at : Ref) → Some at ≡ first_open_on v node → x ≡ doomed v at → live x < live v
falls_next v x node at first is = subst (λ (y : World). live y < live v) (sym is) (first_falls v node at (sym first))
