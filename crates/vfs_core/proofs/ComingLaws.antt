-- What an answer leaves, and what a chain of dooms does.
use Rattle.std.proofs.Common.{◌≡◌, ℕ, ◌+◌, ◌-◌, ◌*◌, ◌<◌, ◌≤◌, ◌==◌, Bool, true, false, cond, ◌++◌, List, [], ◌∷◌, map, refl, ap, sym, subst, ◌∙◌, inl, inr, arith}
use Rattle.std.specs.Prelude.{Option, Some, None, IsSome, IfSome, is_some, MatchBool, option_map}
use Rattle.std.specs.List.{list_any}
use Rattle.std.specs.FinMap.{get}
use Rattle.std.proofs.lemmas.Option.{same_Some}
use Rattle.vfs_tree.specs.Layers.{base}
use Rattle.vfs_tree.specs.Nodes.{IsNumbered}
use Rattle.vfs_tree.specs.Place.{Seen}
use Rattle.vfs_tree.specs.Views.{facts_of}
use Rattle.vfs_tree.specs.declared.errno.Errno.{Errno}
use Rattle.vfs_tree.specs.declared.errno.Errno.TheVariants as errno
use Rattle.vfs_tree.specs.declared.walk.NodeId.{NodeId}
use Rattle.vfs_tree.specs.declared.walk.Step.TheVariants.{Go, Refuse, Wants}
use Rattle.vfs_tree.specs.declared.world.World.{World}
use Rattle.call_model.specs.Apply.{Applied, Finished, Needs, apply, settle}
use Rattle.call_model.specs.Checks.{Outcome}
use Rattle.call_model.specs.Effects.{doomed, doomed_place, effect}
use Rattle.call_model.specs.Legal.{MayAnswer, MayLackMemory, is_enomem, is_no_memory}
use Rattle.call_model.specs.MountRows.{doom_next, revoke_next}
use Rattle.call_model.specs.Refs.{first_in, place_of}
use Rattle.call_model.specs.Rows.{row}
use Rattle.call_model.specs.declared.call.Call.{Call}
use Rattle.call_model.specs.declared.call.Call.TheVariants.{Revoke}
use Rattle.call_model.specs.declared.entry.Inner.{Inner}
use Rattle.call_model.specs.declared.entry.Inner.TheVariants.{Shadow, CopyUp, Detach, Doom}
use Rattle.call_model.specs.declared.entry.Ref.{Ref}
use Rattle.call_model.specs.declared.reply.Reply.{Reply}
use Rattle.call_model.specs.declared.reply.Reply.TheVariants as reply
use Rattle.call_laws.specs.Fitting.{Fits, IsLive, IsRevoke, Leaves, MayNeed, TakesNumber}
use Rattle.call_laws.specs.Leaving.{IsLeaver, IsLeaving}
use Rattle.call_laws.specs.Live.{live}
use Rattle.call_laws.specs.Revoking.{IsRevoking, first_open_on}
use Rattle.call_laws.proofs.LeavingLaws.{all_leaving-doom}
use Rattle.call_laws.proofs.LiveLaws.{live-doomed}
use Rattle.call_laws.proofs.RevokeLaws.{live_open, open_there, revoking_first, revoking_next, revoking_row}
use Rattle.call_laws.proofs.RowLaws.{leaver_row, row_fits}
use Rattle.vfs_core.specs.Coming.{DoomsOpen, NeedsDooms, doomed_by}

-- ---- a caller that is leaving a mount is never refused

no_refusal : (w : World) (c m : ℕ) (o : Option Ref) (e : Errno) → doom_next w c m o ≡ Refuse e → ⊥
no_refusal w c m (Some at) e is = cc
no_refusal w c m None e is = cc

stays_by : (w : World) (c : ℕ) (call : Call) (e : Errno) (o : Option ℕ) → get w.leaving c ≡ o → IfSome o (λ m. IsLeaver (Some call)) → row w c call ≡ Refuse e → o ≡ None
stays_by w c call e None is leaver refused = refl
stays_by w c call e (Some m) is leaver refused = absurd (no_refusal w c m (first_in w m) e (sym (leaver_row w c call m is leaver) ∙ refused))

pub refused_stays : (w : World) (c : ℕ) (call : Call) (e : Errno) → IsLeaving w c (Some call) → row w c call ≡ Refuse e → get w.leaving c ≡ None
refused_stays w c call e leaver refused = stays_by w c call e (get w.leaving c) refl leaver refused

pub none_there : {X : Type 0} (o : Option X) → (IsSome o → ⊥) → o ≡ None
none_there None h = refl
none_there (Some x) h = absurd (h refl)

-- ---- answers

answered_by : (w new : World) (ds : List ℕ) (c : ℕ) (call : Call) (r : Reply) (b : Bool) → b ≡ false → apply w c call ≡ Finished new r → MatchBool b (MayLackMemory w ds c × (new ≡ w)) (apply w c call ≡ Finished new r)
answered_by w new ds c call r true not is = cc
answered_by w new ds c call r false not is = is

-- what a row leaves is an answer
pub may_answer : (w new : World) (ds : List ℕ) (c : ℕ) (call : Call) (r : Reply) → row w c call ≡ Go (new, r) → MayAnswer w ds c call r new
may_answer w new ds c call r is =
    let fits : Leaves w c call new r = subst (Fits w c call) is (row_fits w c call) in
    answered_by w new ds c call r (is_no_memory r) fits.answered (ap (settle w) is)

refused_by : (w : World) (c : ℕ) (call : Call) (e : Errno) (b : Bool) → get w.leaving c ≡ None → apply w c call ≡ Finished w (reply.Fail e)
    → MatchBool b (MayLackMemory w [] c × (w ≡ w)) (apply w c call ≡ Finished w (reply.Fail e))
refused_by w c call e true stays is = ((stays, refl), refl)
refused_by w c call e false stays is = is

-- a refusal is one
pub may_refuse : (w new : World) (c : ℕ) (call : Call) (e : Errno) → IsLeaving w c (Some call) → row w c call ≡ Refuse e → new ≡ w → MayAnswer w [] c call (reply.Fail e) new
may_refuse w new c call e leaver is same =
    subst (MayAnswer w [] c call (reply.Fail e)) (sym same) (refused_by w c call e (is_enomem e) (refused_stays w c call e leaver is) (ap (settle w) is))

-- and so is want of memory, of a caller that isn't leaving a mount
pub may_lack : (w new : World) (c : ℕ) (call : Call) → get w.leaving c ≡ None → new ≡ w → MayAnswer w [] c call (reply.Fail errno.ENOMEM) new
may_lack w new c call stays same = ((stays, refl), same)

-- what an answer leaves: at most one reference more is live, the caller leaves no mount, and the others do as before
pub record Left (w new : World) (c : ℕ) : Type 0 where
  pub live : live new ≤ live w + 1
  pub others : (d : ℕ) → (d == c) ≡ false → get new.leaving d ≡ get w.leaving d
  pub own : get new.leaving c ≡ None

first_of : World → Applied → World
first_of w (Finished new r) = new
first_of w (Needs x) = w

second_of : Reply → Applied → Reply
second_of d (Finished new r) = r
second_of d (Needs x) = d

left_same : (w new : World) (c : ℕ) → get w.leaving c ≡ None → new ≡ w → Left w new c
left_same w new c stays same = subst (λ (x : World). Left w x c) (sym same) (record { live = omega arith; others = λ d apart. refl; own = stays })

left_by : (w new : World) (c : ℕ) (call : Call) (r : Reply) (o : Outcome) → row w c call ≡ o → Fits w c call o → IsLeaving w c (Some call) → settle w o ≡ Finished new r → Left w new c
unfolding first_of
left_by w new c call r (Go x) is fits leaver answered =
    let same : x.0 ≡ new = ap (first_of w) answered in
    subst (λ (v : World). Left w v c) same (record { live = fits.live; others = fits.others; own = fits.own leaver })
left_by w new c call r (Refuse e) is fits leaver answered =
    let same : w ≡ new = ap (first_of w) answered in
    left_same w new c (refused_stays w c call e leaver is) (sym same)
left_by w new c call r (Wants x) is fits leaver answered = absurd cc

left_cases : (w new : World) (ds : List ℕ) (c : ℕ) (call : Call) (r : Reply) (b : Bool) → IsLeaving w c (Some call)
    → MatchBool b (MayLackMemory w ds c × (new ≡ w)) (apply w c call ≡ Finished new r) → Left w new c
left_cases w new ds c call r true leaver h = left_same w new c h.0.0 h.1
left_cases w new ds c call r false leaver h = left_by w new c call r (row w c call) refl (row_fits w c call) leaver h

pub answer_leaves : (w new : World) (ds : List ℕ) (c : ℕ) (call : Call) (r : Reply) → IsLeaving w c (Some call) → MayAnswer w ds c call r new → Left w new c
answer_leaves w new ds c call r leaver h = left_cases w new ds c call r (is_no_memory r) leaver h

-- ---- dooms

numbered_place : (w : World) (o : Option Seen) → IsNumbered w → IsNumbered (doomed_place w o)
numbered_place w (Some p) h = h
numbered_place w None h = h

pub numbered-doomed : (w : World) (at : Ref) → IsNumbered w → IsNumbered (doomed w at)
numbered-doomed w at h = numbered_place w (place_of w at) h

pub append_open : (node : NodeId) (w v : World) (ats : List Ref) (at : Ref) → DoomsOpen node w ats v → first_open_on v node ≡ Some at → DoomsOpen node w (ats ++ at ∷ []) (doomed v at)
append_open node w v [] at h is = (subst (λ (x : World). first_open_on x node ≡ Some at) h is, ap (λ (x : World). doomed x at) h)
append_open node w v (a ∷ ats) at h is = (h.0, append_open node (doomed w a) v ats at h.1 is)

-- the first live open file is live, so to doom it leaves fewer
pub first_falls : (w : World) (node : NodeId) (at : Ref) → first_open_on w node ≡ Some at → live (doomed w at) < live w
first_falls w node at is = live-doomed w at (live_open w node at is)

-- dooms change nothing of who is leaving a mount
pub leaving-dooms : (c : ℕ) (call : Call) (w v : World) (ats : List Ref) → NeedsDooms c call w ats v → v.leaving ≡ w.leaving
leaving-dooms c call w v [] h = ap (λ (x : World). x.leaving) h
leaving-dooms c call w v (at ∷ ats) h = leaving-dooms c call (doomed w at) v ats h.1 ∙ all_leaving-doom w c at

-- ---- a revoke

pub revoke_text : (call : Call) → IsRevoke call → (text : List ℕ) × (call ≡ Revoke text)
revoke_text (Revoke p) h = (p, refl)
revoke_text _ h = absurd h

needs_open : (c : ℕ) (text : List ℕ) (node : NodeId) (w v : World) (ats : List Ref) → IsRevoking w c text node → DoomsOpen node w ats v → NeedsDooms c (Revoke text) w ats v
needs_open c text node w v [] r h = h
needs_open c text node w v (at ∷ ats) r h =
    let there = open_there w node at h.0 in
    (revoking_row w c text node r ∙ ap (revoke_next w) h.0, needs_open c text node (doomed w at) v ats (revoking_next w c text node at there.0 r h.0 there.1) h.1)

still_revoking : (c : ℕ) (text : List ℕ) (node : NodeId) (w v : World) (ats : List Ref) → IsRevoking w c text node → DoomsOpen node w ats v → IsRevoking v c text node
still_revoking c text node w v [] r h = subst (λ (x : World). IsRevoking x c text node) (sym h) r
still_revoking c text node w v (at ∷ ats) r h =
    let there = open_there w node at h.0 in
    still_revoking c text node (doomed w at) v ats (revoking_next w c text node at there.0 r h.0 there.1) h.1

found_node : (w : World) (c : ℕ) (text : List ℕ) (at : Ref) (node : NodeId) (o : Option Seen) → place_of w at ≡ o → row w c (Revoke text) ≡ Wants (Doom at)
    → option_map (base (facts_of w)) o ≡ Some node → IsRevoking w c text node
found_node w c text at node (Some p) is needs under = subst (IsRevoking w c text) (same_Some (base (facts_of w) p) node under) (revoking_first w c text at p needs is)
found_node w c text at node None is needs under = absurd cc

-- a revoke that needs a doom: the dooms of all live open files on the node of that one, and then it is done
pub record Revokes (c : ℕ) (call : Call) (w v : World) (ats : List Ref) : Type 0 where
  pub needs : NeedsDooms c call w ats v
  pub done : row v c call ≡ Go (v, reply.Done)

pub revokes : (w v : World) (c : ℕ) (call : Call) (at : Ref) (node : NodeId) (ats : List Ref) → IsRevoke call → row w c call ≡ Wants (Doom at)
    → option_map (base (facts_of w)) (place_of w at) ≡ Some node → DoomsOpen node w ats v → first_open_on v node ≡ None → Revokes c call w v ats
revokes w v c call at node ats revoke needs under dooms none =
    let t = revoke_text call revoke in
    let first : row w c (Revoke t.0) ≡ Wants (Doom at) = subst (λ k. row w c k ≡ Wants (Doom at)) t.1 needs in
    let r = found_node w c t.0 at node (place_of w at) refl first under in
    let end = still_revoking c t.0 node w v ats r dooms in
    subst (λ k. Revokes c k w v ats) (sym t.1)
    (record { needs = needs_open c t.0 node w v ats r dooms; done = revoking_row v c t.0 node end ∙ ap (revoke_next v) none })
