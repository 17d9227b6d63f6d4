-- What a kernel keeps when a call begins, goes on and ends.
use Rattle.std.proofs.Common.{◌≡◌, ℕ, zero, suc, ◌+◌, ◌-◌, ◌*◌, ◌<◌, ◌≤◌, ◌==◌, Bool, true, false, cond, not, ◌++◌, List, [], ◌∷◌, map, refl, ap, sym, subst, ◌∙◌, inl, inr, arith, append_assoc, nat_cmp}
use Rattle.std.specs.Prelude.{◌||◌, Option, Some, None, IsSome, IfSome, is_some, MatchBool, filter}
use Rattle.std.specs.List.{list_any}
use Rattle.std.specs.Ordering.{eq_by_cmp}
use Rattle.std.specs.Cmp.{nat_cmp_total, unsigned_ties}
use Rattle.std.specs.FinMap.{FinMap, get, insert, remove, len, empty, entries, get-empty, get-insert, get-remove, len-insert, len-remove, len-empty, empty_of_len}
use Rattle.std.proofs.lemmas.Bool.Decides.{eqb_tells}
use Rattle.std.proofs.lemmas.List.{append-nil}
use Rattle.std.proofs.lemmas.Map.Lookups.{exact_unsigned}
use Rattle.std.proofs.lemmas.Map.Views.{any-filter_same}
use Rattle.finite_maps.specs.Keys.{pair_cmp}
use Rattle.finite_maps.proofs.EntryLaws.{by_key, entries-empty}
use Rattle.vfs_tree.specs.Limits.{IsLawful, IsCaller}
use Rattle.vfs_tree.specs.Nodes.{IsNumbered}
use Rattle.vfs_tree.specs.Start.{start_world, root_cwd, root_cwds}
use Rattle.vfs_tree.specs.declared.limits.Limits.{Limits}
use Rattle.vfs_tree.specs.declared.open.Cwd.{Cwd}
use Rattle.vfs_tree.specs.declared.open.Open.{Open}
use Rattle.vfs_tree.specs.declared.walk.Step.TheVariants.{Wants}
use Rattle.vfs_tree.specs.declared.world.World.{World}
use Rattle.call_model.specs.Apply.{Finished, apply, settle}
use Rattle.call_model.specs.Effects.{doomed, effect}
use Rattle.call_model.specs.Legal.{Pending, IsLegal, MayAnswer, MayLackMemory, is_no_memory, replay, calls_of, doomers_after, doomers_in}
use Rattle.call_model.specs.Recorded.{Recorded}
use Rattle.call_model.specs.Rows.{row}
use Rattle.call_model.specs.declared.call.Call.{Call}
use Rattle.call_model.specs.declared.entry.Entry.{Entry}
use Rattle.call_model.specs.declared.entry.Entry.TheVariants as entry
use Rattle.call_model.specs.declared.entry.Inner.{Inner}
use Rattle.call_model.specs.declared.entry.Inner.TheVariants.{Shadow, CopyUp, Detach, Doom}
use Rattle.call_model.specs.declared.entry.Ref.{Ref}
use Rattle.call_model.specs.declared.reply.Reply.{Reply}
use Rattle.call_model.proofs.HistoryLaws.{calls_of-append, legal-begin, legal-answer, replay-answer, legal-inner, replay-inner, doomers_in-append}
use Rattle.call_laws.specs.Fitting.{Fits, MayNeed}
use Rattle.call_laws.specs.Leaving.{IsLeaver, IsLeaving}
use Rattle.call_laws.specs.Live.{live, work_left}
use Rattle.call_laws.proofs.LeavingLaws.{leaving-shadow, leaving-copy_up, leaving-doom, leaving-inner, leaving_own}
use Rattle.call_laws.proofs.LiveCount.{cwd_one, open_one, live_cwds, live_opens, live-parts, cwds-insert}
use Rattle.call_laws.proofs.RowLaws.{row_fits}
use Rattle.call_laws.proofs.WeightLaws.{weigh}
use Rattle.call_laws.proofs.WorkLaws.{work_fell}
use Rattle.vfs_tree.proofs.StartLaws.{numbered-start}
use Rattle.vfs_core.specs.Coming.{Ends, Goes, NeedsDooms, doomed_by}
use Rattle.vfs_core.specs.Kernel.{IsKept, Kernel, work}
use Rattle.vfs_core.specs.Stepping.{dooms}
use Rattle.vfs_core.proofs.ComingLaws.{Left, answer_leaves, leaving-dooms}
use Rattle.vfs_core.proofs.TurnLaws.{calls_append, dooms_keep, inner_keeps}

-- ---- sizes of maps

some_len : {X : Type 0} (m : FinMap nat_cmp X) (k : ℕ) → IsSome (get m k) → 1 ≤ len m
some_len m k some =
    let none : len m ≡ 0 → ⊥ = λ e.
    let gone : get m k ≡ None = ap (λ x. get x k) (empty_of_len m e) ∙ get-empty nat_cmp k in
    let clash : false ≡ true = sym (ap is_some gone) ∙ some in
    cc
    in
    omega arith

-- one entry fewer
pub len-remove_there : {X : Type 0} (m : FinMap nat_cmp X) (k : ℕ) → IsSome (get m k) → len (remove m k) + 1 ≡ len m
len-remove_there m k some =
    let least : 1 ≤ len m = some_len m k some in
    let one : len (remove m k) ≡ len m - 1 = len-remove nat_cmp_total m k ∙ ap (λ b. cond b (len m - 1) (len m)) some in
    omega arith

-- one entry more
pub len-insert_new : {X : Type 0} (m : FinMap nat_cmp X) (k : ℕ) (v : X) → get m k ≡ None → len (insert m k v) ≡ len m + 1
len-insert_new m k v none = len-insert nat_cmp_total m k v ∙ ap (λ o. cond (is_some o) (len m) (len m + 1)) none

-- ---- what is pending

pub insert-each : (P : ℕ → Option Call → Type 0) (m : Pending) (k : ℕ) (v : Call) → P k (Some v) → ((c : ℕ) → P c (get m c)) → (c : ℕ) → P c (get (insert m k v) c)
insert-each P m k v here there c = by_key nat_cmp_total exact_unsigned m k v c (P c) (λ e. subst (λ x. P x (Some v)) (sym e) here) (there c)

apart_test : (d c : ℕ) → eq_by_cmp nat_cmp d c ≡ (d == c)
apart_test d c = sym (unsigned_ties d c)

pub removed_same : {X : Type 0} (m : FinMap nat_cmp X) (c d : ℕ) → d ≡ c → get (remove m c) d ≡ None
removed_same m c d e = get-remove nat_cmp_total m c d ∙ ap (λ b. cond b None (get m d)) (apart_test d c ∙ elim (eqb_tells d c) [ inl h ↦ h.0 | inr h ↦ absurd (h.1 e) ])

pub removed_other : {X : Type 0} (m : FinMap nat_cmp X) (c d : ℕ) → (d == c) ≡ false → get (remove m c) d ≡ get m d
removed_other m c d e = get-remove nat_cmp_total m c d ∙ ap (λ b. cond b None (get m d)) (apart_test d c ∙ e)

pub remove-each : (P : ℕ → Option Call → Type 0) (m : Pending) (k : ℕ) → P k None → ((c : ℕ) → (c == k) ≡ false → P c (get m c)) → (c : ℕ) → P c (get (remove m k) c)
remove-each P m k gone there c =
    elim (eqb_tells c k) [
      | inl e ↦ subst (P c) (sym (removed_same m k c e.1)) (subst (λ x. P x None) (sym e.1) gone)
      | inr e ↦ subst (P c) (sym (removed_other m k c e.0)) (there c e.0)
    ]

-- ---- who is leaving a mount

nobody_leaves : (o : Option ℕ) (P : Type 0) → IfSome o (λ m. ⊥) → IfSome o (λ m. P)
nobody_leaves None P h = tt
nobody_leaves (Some m) P h = absurd h

all_leave : (o : Option ℕ) (P : Type 0) → P → IfSome o (λ m. P)
all_leave None P h = tt
all_leave (Some m) P h = h

own_leaving : (w : World) (c : ℕ) (call : Call) (x : Inner) → MayNeed w c call x → IsLeaving w c (Some call) → IsLeaving (effect w c x) c (Some call)
own_leaving w c call (Shadow m u n) needs h = subst (λ o. IfSome o (λ m. IsLeaver (Some call))) (sym (leaving-shadow w c m u n)) h
own_leaving w c call (CopyUp m u n) needs h = subst (λ o. IfSome o (λ m. IsLeaver (Some call))) (sym (leaving-copy_up w c m u n)) h
own_leaving w c call (Detach m) needs h = all_leave (get (effect w c (Detach m)).leaving c) (IsLeaver (Some call)) needs.1
own_leaving w c call (Doom at) needs h = subst (λ o. IfSome o (λ m. IsLeaver (Some call))) (sym (leaving-doom w c at)) h

-- a caller that is leaving a mount is after an inner entry of any caller
still_leaving : (w : World) (c : ℕ) (x : Inner) (d : ℕ) → IsSome (get w.leaving d) → IsSome (get (effect w c x).leaving d)
still_leaving w c x d h =
    elim (eqb_tells d c) [
      | inl e ↦ subst (λ k. IsSome (get (effect w c x).leaving k)) (sym e.1) (leaving_own w c x (subst (λ k. IsSome (get w.leaving k)) e.1 h))
      | inr e ↦ ap is_some (leaving-inner w c x d e.0) ∙ h
    ]

-- ---- who has doomed something

same_test : (c d : ℕ) → (c == d) ≡ true → d ≡ c
same_test c d h = elim (eqb_tells c d) [ inl e ↦ sym e.1 | inr e ↦ let clash : false ≡ true = sym e.0 ∙ h in absurd cc ]

apart_sym : (c d : ℕ) → (d == c) ≡ false → (c == d) ≡ false
apart_sym c d h =
    elim (eqb_tells c d) [
      | inl e ↦
          let same : (d == c) ≡ true = elim (eqb_tells d c) [ inl f ↦ f.0 | inr f ↦ absurd (f.1 (sym e.1)) ] in
          let clash : false ≡ true = sym h ∙ same in
          absurd cc
      | inr e ↦ e.0
    ]

or_cases : (a b : Bool) (P : Type 0) → (a || b) ≡ true → (a ≡ true → P) → (b ≡ true → P) → P
or_cases true b P h left right = left refl
or_cases false b P h left right = right h

after_inner : (ds : List ℕ) (c d : ℕ) (x : Inner) (P : Type 0) → list_any (λ y. y == d) (doomers_after ds (entry.Inner c x)) ≡ true → (IsSome (doomed_by x) → d ≡ c → P) → (list_any (λ y. y == d) ds ≡ true → P) → P
after_inner ds c d (Shadow m u n) P h here there = there h
after_inner ds c d (CopyUp m u n) P h here there = there h
after_inner ds c d (Detach m) P h here there = there h
after_inner ds c d (Doom at) P h here there = or_cases (c == d) (list_any (λ y. y == d) ds) P h (λ e. here refl (same_test c d e)) there

-- dooms of a caller say nothing of another one
doomers_other : (c d : ℕ) → (d == c) ≡ false → (ats : List Ref) (es : List Entry) → list_any (λ y. y == d) (doomers_in [] (es ++ dooms c ats)) ≡ list_any (λ y. y == d) (doomers_in [] es)
doomers_other c d apart [] es = ap (λ x. list_any (λ y. y == d) (doomers_in [] x)) (append-nil es)
doomers_other c d apart (at ∷ ats) es =
    let e = entry.Inner c (Doom at) in
    ap (λ x. list_any (λ y. y == d) (doomers_in [] x)) (sym (append_assoc es (e ∷ []) (dooms c ats)))
    ∙ doomers_other c d apart ats (es ++ e ∷ [])
    ∙ ap (λ x. list_any (λ y. y == d) x) (doomers_in-append [] es e)
    ∙ ap (λ b. b || list_any (λ y. y == d) (doomers_in [] es)) (apart_sym c d apart)

-- a caller whose call ends has doomed nothing since
ended_none : (c : ℕ) (ds : List ℕ) → list_any (λ y. y == c) (filter (λ d. not (d == c)) ds) ≡ false
ended_none c ds = any-filter_same (λ y. y == c) (λ d. not (d == c)) false (λ k e. ap not e) ds

-- and the others what they had
ended_others : (c d : ℕ) → (d == c) ≡ false → (ds : List ℕ) → list_any (λ y. y == d) (filter (λ y. not (y == c)) ds) ≡ list_any (λ y. y == d) ds
ended_others c d apart ds =
    any-filter_same (λ y. y == d) (λ y. not (y == c)) true (λ k e. ap not (subst (λ x. (x == c) ≡ false) (same_test k d e) apart)) ds

-- ---- a chain of dooms at the end of a history

-- the history is legal with the dooms, and leaves the world to which they lead
record Chained (p : Pending) (w v : World) (es : List Entry) : Type 0 where
  legal : IsLegal p w es
  stands : v ≡ replay w es

chained : (p : Pending) (w : World) (c : ℕ) (call : Call) (v : World) → get p c ≡ Some call → (ats : List Ref) (es : List Entry) → IsLegal p w es → NeedsDooms c call (replay w es) ats v → Chained p w v (es ++ dooms c ats)
chained p w c call v its [] es legal needs = subst (λ x. Chained p w v x) (sym (append-nil es)) (record { legal = legal; stands = needs })
chained p w c call v its (at ∷ ats) es legal needs =
    let e = entry.Inner c (Doom at) in
    let more : IsLegal p w (es ++ e ∷ []) = legal-inner p w es c call (Doom at) legal its (ap (settle (replay w es)) needs.0) in
    let rest : NeedsDooms c call (replay w (es ++ e ∷ [])) ats v = subst (λ (x : World). NeedsDooms c call x ats v) (replay-inner w es c (Doom at)) needs.1 in
    subst (λ x. Chained p w v x) (append_assoc es (e ∷ []) (dooms c ats)) (chained p w c call v its ats (es ++ e ∷ []) more rest)

-- ---- the steps

-- a call begins
pub kept-begin : (limits : Limits) (w : World) (old new : Recorded) (p q : Pending) (c : ℕ) (call : Call)
    → IsKept limits w old p → new.entries ≡ old.entries → old.spare + 2 ≤ new.spare → q ≡ insert p c call → get p c ≡ None → IsCaller limits c → IsKept limits w new q
kept-begin limits w old new p q c call kept same room is idle caller =
    let legal : IsLegal (insert p c call) (start_world limits) old.entries = legal-begin p (start_world limits) old.entries c call idle kept.legal in
    let more : len q ≡ len p + 1 = ap (λ x. len x) is ∙ len-insert_new p c call idle in
    let before : live w + 2 * len p ≤ old.spare = kept.room in
    let nobody : IfSome (get w.leaving c) (λ m. ⊥) = subst (λ o. IsLeaving w c o) idle (kept.leaving c) in
    record {
      lawful = kept.lawful;
      legal = subst (λ x. IsLegal x (start_world limits) new.entries) (sym is) (subst (λ x. IsLegal (insert p c call) (start_world limits) x) (sym same) legal);
      stands = kept.stands ∙ ap (replay (start_world limits)) (sym same);
      room = omega arith;
      within = subst (λ x. (d : ℕ) → IsSome (get x d) → IsCaller limits d) (sym is) (insert-each (λ d o. IsSome o → IsCaller limits d) p c call (λ _. caller) kept.within);
      leaving = subst (λ x. (d : ℕ) → IsLeaving w d (get x d)) (sym is) (insert-each (λ d o. IsLeaving w d o) p c call (nobody_leaves (get w.leaving c) (IsLeaver (Some call)) nobody) kept.leaving);
      doomers = λ d h. kept.doomers d (sym (ap (λ x. list_any (λ y. y == d) (doomers_in [] x)) same) ∙ h);
      numbered = kept.numbered;
      callers = λ d stranger. ap (calls_of d) same ∙ kept.callers d stranger;
    }

-- more room is made
pub kept-room : (limits : Limits) (w : World) (old new : Recorded) (p : Pending) → IsKept limits w old p → new.entries ≡ old.entries → old.spare ≤ new.spare → IsKept limits w new p
kept-room limits w old new p kept same room =
    let before : live w + 2 * len p ≤ old.spare = kept.room in
    record {
      lawful = kept.lawful;
      legal = subst (λ x. IsLegal p (start_world limits) x) (sym same) kept.legal;
      stands = kept.stands ∙ ap (replay (start_world limits)) (sym same);
      room = omega arith;
      within = kept.within;
      leaving = kept.leaving;
      doomers = λ d h. kept.doomers d (sym (ap (λ x. list_any (λ y. y == d) (doomers_in [] x)) same) ∙ h);
      numbered = kept.numbered;
      callers = λ d stranger. ap (calls_of d) same ∙ kept.callers d stranger;
    }

-- what a call that goes on needs
needed : (w v : World) (old new : Recorded) (c : ℕ) (call : Call) (x : Inner) → Goes w v old new c call x → MayNeed w c call x
needed w v old new c call x goes = subst (Fits w c call) goes.needs (row_fits w c call)

-- a call goes on
pub kept-went : (limits : Limits) (w v : World) (old new : Recorded) (p : Pending) (c : ℕ) (call : Call) (x : Inner)
    → IsKept limits w old p → get p c ≡ Some call → Goes w v old new c call x → IsNumbered v → IsKept limits v new p
kept-went limits w v old new p c call x kept its goes numbered =
    let start = start_world limits in
    let needs : row (replay start old.entries) c call ≡ Wants x = subst (λ (y : World). row y c call ≡ Wants x) kept.stands goes.needs in
    let legal : IsLegal p start (old.entries ++ entry.Inner c x ∷ []) = legal-inner p start old.entries c call x kept.legal its (ap (settle (replay start old.entries)) needs) in
    let before : live w + 2 * len p ≤ old.spare = kept.room in
    let lasts : live v + old.spare ≤ live w + new.spare = goes.room in
    let may = needed w v old new c call x goes in
    record {
      lawful = kept.lawful;
      legal = subst (λ y. IsLegal p start y) (sym goes.entered) legal;
      stands = goes.world ∙ ap (λ (y : World). effect y c x) kept.stands ∙ replay-inner start old.entries c x ∙ ap (replay start) (sym goes.entered);
      room = omega arith;
      within = kept.within;
      leaving = λ d.
          subst (λ (y : World). IsLeaving y d (get p d)) (sym goes.world)
          (elim (eqb_tells d c) [
            | inl e ↦ subst (λ k. IsLeaving (effect w c x) k (get p k)) (sym e.1)
                (subst (λ o. IsLeaving (effect w c x) c o) (sym its) (own_leaving w c call x may (subst (λ o. IsLeaving w c o) its (kept.leaving c))))
            | inr e ↦ subst (λ o. IfSome o (λ m. IsLeaver (get p d))) (sym (leaving-inner w c x d e.0)) (kept.leaving d)
          ]);
      doomers = λ d h.
          subst (λ (y : World). IsSome (get y.leaving d)) (sym goes.world)
          (still_leaving w c x d
          (after_inner (doomers_in [] old.entries) c d x (IsSome (get w.leaving d))
          (sym (ap (λ y. list_any (λ z. z == d) y) (ap (doomers_in []) goes.entered ∙ doomers_in-append [] old.entries (entry.Inner c x))) ∙ h)
          (λ doom e. subst (λ k. IsSome (get w.leaving k)) (sym e) (goes.leaves doom))
          (kept.doomers d)));
      numbered = numbered;
      callers = λ d stranger. ap (calls_of d) goes.entered ∙ inner_keeps d old.entries c x ∙ kept.callers d stranger;
    }

-- and there is less work left
pub work-went : (limits : Limits) (w v : World) (old new : Recorded) (p : Pending) (c : ℕ) (call : Call) (x : Inner)
    → IsKept limits w old p → get p c ≡ Some call → Goes w v old new c call x → IsNumbered v
    → work_left limits (replay (start_world limits) new.entries) < work_left limits (replay (start_world limits) old.entries)
work-went limits w v old new p c call x kept its goes numbered =
    let after = kept-went limits w v old new p c call x kept its goes numbered in
    let caller = kept.within c (ap is_some its) in
    let fell : work_left limits (effect w c x) < work_left limits w = work_fell limits w c call x caller.first caller.last (needed w v old new c call x goes) goes.number in
    subst (λ (y : World). work_left limits y < work_left limits (replay (start_world limits) old.entries)) (sym goes.world ∙ after.stands)
    (subst (λ (y : World). work_left limits (effect w c x) < work_left limits y) kept.stands fell)

-- ---- the answer as the history has it

some_doomer : (c : ℕ) (at : Ref) (ats : List Ref) → list_any (λ y. y == c) (map (λ a. c) (at ∷ ats)) ≡ true
some_doomer c at ats = elim (eqb_tells c c) [ inl e ↦ ap (λ b. b || list_any (λ y. y == c) (map (λ a. c) ats)) e.0 | inr e ↦ absurd (e.1 refl) ]

no_doomers : (b : Bool) (P : Type 0) → (b ≡ true → P) → (P → ⊥) → b ≡ false
no_doomers true P h not = absurd (not (h refl))
no_doomers false P h not = refl

lacks_by : (limits : Limits) (w mid : World) (old : Recorded) (p : Pending) (c : ℕ) (call : Call) (ats : List Ref) → IsKept limits w old p → NeedsDooms c call w ats mid
    → MayLackMemory mid (map (λ a. c) ats) c → MayLackMemory mid (doomers_in [] (old.entries ++ dooms c ats)) c
lacks_by limits w mid old p c call [] kept needs h =
    let stays : get w.leaving c ≡ None = sym (ap (λ (y : World). get y.leaving c) needs) ∙ h.0 in (
      h.0,
      ap (λ x. list_any (λ y. y == c) (doomers_in [] x)) (append-nil old.entries)
          ∙ no_doomers (list_any (λ y. y == c) (doomers_in [] old.entries)) (IsSome (get w.leaving c)) (kept.doomers c) (λ some. let clash : false ≡ true = sym (ap is_some stays) ∙ some in cc),
    )
lacks_by limits w mid old p c call (at ∷ ats) kept needs h = let clash : true ≡ false = sym (some_doomer c at ats) ∙ h.1 in absurd cc

by_doomers : (m v : World) (ds es : List ℕ) (c : ℕ) (call : Call) (r : Reply) (b : Bool) → (MayLackMemory m ds c → MayLackMemory m es c)
    → MatchBool b (MayLackMemory m ds c × (v ≡ m)) (apply m c call ≡ Finished v r) → MatchBool b (MayLackMemory m es c × (v ≡ m)) (apply m c call ≡ Finished v r)
by_doomers m v ds es c call r true lacks h = (lacks h.0, h.1)
by_doomers m v ds es c call r false lacks h = h

-- the end of a caller's call is no call of anyone who is no caller
stranger_ended : (limits : Limits) (old mid new : Recorded) (c d : ℕ) (ats : List Ref) (call : Call) (r : Reply) → IsCaller limits c → (IsCaller limits d → ⊥)
    → new.entries ≡ mid.entries ++ entry.Call c call r ∷ [] → mid.entries ≡ old.entries ++ dooms c ats → calls_of d old.entries ≡ [] → calls_of d new.entries ≡ []
stranger_ended limits old mid new c d ats call r caller stranger pushed entered none =
    let apart : (d == c) ≡ false = elim (eqb_tells d c) [ inl e ↦ absurd (stranger (subst (IsCaller limits) (sym e.1) caller)) | inr e ↦ e.0 ] in
    let before : calls_of d mid.entries ≡ [] =
    ap (calls_of d) entered ∙ calls_append d old.entries (dooms c ats) ∙ ap (λ (t : List Call). t ++ calls_of d (dooms c ats)) none
    ∙ ap (calls_of d) (sym (append-nil (dooms c ats))) ∙ dooms_keep d c ats []
    in
    ap (calls_of d) pushed ∙ calls_of-append d c mid.entries call r ∙ ap (λ b. calls_of d mid.entries ++ cond b (call ∷ []) []) apart ∙ append-nil (calls_of d mid.entries) ∙ before

-- a call ends
pub kept-ended : (limits : Limits) (w v : World) (old mid new : Recorded) (p q : Pending) (c : ℕ) (call : Call) (r : Reply)
    → IsKept limits w old p → get p c ≡ Some call → Ends w v old mid c call r → q ≡ remove p c → new.entries ≡ mid.entries ++ entry.Call c call r ∷ [] → new.spare + 1 ≡ mid.spare → IsNumbered v
    → IsKept limits v new q
kept-ended limits w v old mid new p q c call r kept its ends gone pushed spare numbered =
    let start = start_world limits in
    let there : IsSome (get p c) = ap is_some its in
    let chain : Chained p start ends.mid (old.entries ++ dooms c ends.ats) =
    chained p start c call ends.mid its ends.ats old.entries kept.legal (subst (λ (y : World). NeedsDooms c call y ends.ats ends.mid) kept.stands ends.made) in
    let chain_mid : Chained p start ends.mid mid.entries = subst (λ x. Chained p start ends.mid x) (sym ends.entered) chain in
    let answered : MayAnswer ends.mid (doomers_in [] (old.entries ++ dooms c ends.ats)) c call r v =
    by_doomers ends.mid v (map (λ a. c) ends.ats) (doomers_in [] (old.entries ++ dooms c ends.ats)) c call r (is_no_memory r) (lacks_by limits w ends.mid old p c call ends.ats kept ends.made) ends.answered in
    let answered_mid : MayAnswer ends.mid (doomers_in [] mid.entries) c call r v = subst (λ x. MayAnswer ends.mid (doomers_in [] x) c call r v) (sym ends.entered) answered in
    let here : MayAnswer (replay start mid.entries) (doomers_in [] mid.entries) c call r v = subst (λ (y : World). MayAnswer y (doomers_in [] mid.entries) c call r v) chain_mid.stands answered_mid in
    let legal : IsLegal (remove p c) start (mid.entries ++ entry.Call c call r ∷ []) = legal-answer p start v mid.entries c call r chain_mid.legal its here in
    let same : ends.mid.leaving ≡ w.leaving = leaving-dooms c call w ends.mid ends.ats ends.made in
    let leaver : IsLeaving ends.mid c (Some call) = subst (λ l. IfSome (get l c) (λ m. IsLeaver (Some call))) (sym same) (subst (λ o. IsLeaving w c o) its (kept.leaving c)) in
    let left : Left ends.mid v c = answer_leaves ends.mid v (doomers_in [] mid.entries) c call r leaver answered_mid in
    let others : (d : ℕ) → (d == c) ≡ false → get v.leaving d ≡ get w.leaving d = λ d apart. left.others d apart ∙ ap (λ l. get l d) same in
    let fewer : len (remove p c) + 1 ≡ len p = len-remove_there p c there in
    let size : len q ≡ len (remove p c) = ap (λ x. len x) gone in
    let before : live w + 2 * len p ≤ old.spare = kept.room in
    let lasts : live ends.mid + old.spare ≤ live w + mid.spare = ends.room in
    let most : live v ≤ live ends.mid + 1 = left.live in
    let doomers_now : (d : ℕ) → list_any (λ y. y == d) (doomers_in [] new.entries) ≡ list_any (λ y. y == d) (filter (λ y. not (y == c)) (doomers_in [] mid.entries)) =
    λ d. ap (λ x. list_any (λ y. y == d) x) (ap (doomers_in []) pushed ∙ doomers_in-append [] mid.entries (entry.Call c call r)) in
    record {
      lawful = kept.lawful;
      legal = subst (λ x. IsLegal x start new.entries) (sym gone) (subst (λ x. IsLegal (remove p c) start x) (sym pushed) legal);
      stands = replay-answer start v mid.entries c call r here ∙ ap (replay start) (sym pushed);
      room = omega arith;
      within = subst (λ x. (d : ℕ) → IsSome (get x d) → IsCaller limits d) (sym gone)
          (remove-each (λ d o. IsSome o → IsCaller limits d) p c (λ none. absurd (let clash : false ≡ true = none in cc)) (λ d _. kept.within d));
      leaving = subst (λ x. (d : ℕ) → IsLeaving v d (get x d)) (sym gone)
          (remove-each (λ d o. IsLeaving v d o) p c
          (subst (λ o. IfSome o (λ m. ⊥)) (sym left.own) tt)
          (λ d apart. subst (λ o. IfSome o (λ m. IsLeaver (get p d))) (sym (others d apart)) (kept.leaving d)));
      doomers = λ d h.
          elim (eqb_tells d c) [
            | inl e ↦
                let none : list_any (λ y. y == d) (filter (λ y. not (y == c)) (doomers_in [] mid.entries)) ≡ false =
                subst (λ k. list_any (λ y. y == k) (filter (λ y. not (y == c)) (doomers_in [] mid.entries)) ≡ false) (sym e.1) (ended_none c (doomers_in [] mid.entries)) in
                let clash : false ≡ true = sym none ∙ sym (doomers_now d) ∙ h in
                absurd cc
            | inr e ↦
                let was : list_any (λ y. y == d) (doomers_in [] old.entries) ≡ true =
                sym (doomers_other c d e.0 ends.ats old.entries)
                ∙ ap (λ x. list_any (λ y. y == d) (doomers_in [] x)) (sym ends.entered)
                ∙ sym (ended_others c d e.0 (doomers_in [] mid.entries))
                ∙ sym (doomers_now d)
                ∙ h in
                ap is_some (others d e.0) ∙ kept.doomers d was
          ];
      numbered = numbered;
      callers = λ d stranger. stranger_ended limits old mid new c d ends.ats call r (kept.within c there) stranger pushed ends.entered (kept.callers d stranger);
    }

-- there is room for what is live, and more
pub some_room : (limits : Limits) (w : World) (h : Recorded) (p : Pending) (c : ℕ) → IsKept limits w h p → IsSome (get p c) → live w + 2 ≤ h.spare
some_room limits w h p c kept there =
    let least : 1 ≤ len p = some_len p c there in
    let held : live w + 2 * len p ≤ h.spare = kept.room in
    omega arith

-- after the dooms of a call there is room for its entry
pub end_room : (limits : Limits) (w v : World) (old mid : Recorded) (p : Pending) (c : ℕ) (call : Call) (r : Reply) → IsKept limits w old p → IsSome (get p c) → Ends w v old mid c call r → 1 ≤ mid.spare
end_room limits w v old mid p c call r kept there ends =
    let held = some_room limits w old p c kept there in
    let lasts : live ends.mid + old.spare ≤ live w + mid.spare = ends.room in
    omega arith

-- ---- what contracts see of the steps

pub went_view : (old : Kernel) (limits : Limits) (before now : List Entry) (p : Pending) (e : Entry) → record { limits = limits; history = before; pending = p } ≡ old → now ≡ before ++ e ∷ []
    → record { limits = limits; history = now; pending = p } ≡ record old { history = old.history ++ e ∷ [] }
went_view old limits before now p e is more =
    subst (λ (k : Kernel). record { limits = limits; history = now; pending = p } ≡ record k { history = k.history ++ e ∷ [] }) is
    (ap (λ h. record { limits = limits; history = h; pending = p }) more)

pub ended_view : (old : Kernel) (limits : Limits) (before now es : List Entry) (p q : Pending) (c : ℕ) → record { limits = limits; history = before; pending = p } ≡ old → now ≡ before ++ es → q ≡ remove p c
    → record { limits = limits; history = now; pending = q } ≡ record old { history = old.history ++ es; pending = remove old.pending c }
ended_view old limits before now es p q c is more gone =
    subst (λ (k : Kernel). record { limits = limits; history = now; pending = q } ≡ record k { history = k.history ++ es; pending = remove k.pending c }) is
    (ap (λ h. record { limits = limits; history = h; pending = q }) more ∙ ap (λ x. record { limits = limits; history = before ++ es; pending = x }) gone)

-- the entries of a call that ends: its dooms, and then its own
pub ended_entries : (w v : World) (old mid new : Recorded) (c : ℕ) (call : Call) (r : Reply) (ends : Ends w v old mid c call r) → new.entries ≡ mid.entries ++ entry.Call c call r ∷ []
    → new.entries ≡ old.entries ++ (dooms c ends.ats ++ entry.Call c call r ∷ [])
ended_entries w v old mid new c call r ends pushed =
    pushed ∙ ap (λ es. es ++ entry.Call c call r ∷ []) ends.entered ∙ append_assoc old.entries (dooms c ends.ats) (entry.Call c call r ∷ [])

pub less_work : (old : Kernel) (limits : Limits) (before now : List Entry) (p : Pending) → record { limits = limits; history = before; pending = p } ≡ old
    → work_left limits (replay (start_world limits) now) < work_left limits (replay (start_world limits) before)
    → work (record { limits = limits; history = now; pending = p }) < work old
less_work old limits before now p is fell = subst (λ (k : Kernel). work (record { limits = limits; history = now; pending = p }) < work k) is fell

-- ---- the kernel at the start

start_cwds : (n : ℕ) → live_cwds (root_cwds n) ≤ n
start_cwds zero = let none : live_cwds empty ≡ 0 = ap (weigh cwd_one) (entries-empty {X = Cwd} nat_cmp) in omega arith
start_cwds (suc n) =
    let rest = start_cwds n in
    let more = cwds-insert (root_cwds n) (suc n) root_cwd in
    omega arith

pub start_live : (limits : Limits) → live (start_world limits) ≤ limits.callers
start_live limits =
    let parts = live-parts (start_world limits) in
    let none : live_opens empty ≡ 0 = ap (weigh open_one) (entries-empty {X = Open} pair_cmp) in
    let most = start_cwds limits.callers in
    omega arith

pub kept-new : (limits : Limits) (w : World) (h : Recorded) (p : Pending) → IsLawful limits → w ≡ start_world limits → h.entries ≡ [] → limits.callers ≤ h.spare → p ≡ empty → IsKept limits w h p
kept-new limits w h p lawful start none room idle =
    let gone : (c : ℕ) → get p c ≡ None = λ c. ap (λ m. get m c) idle ∙ get-empty nat_cmp c in
    let size : len p ≡ 0 = ap (λ x. len x) idle ∙ len-empty nat_cmp Call in
    let alive : live w ≤ limits.callers = subst (λ (y : World). live y ≤ limits.callers) (sym start) (start_live limits) in
    record {
      lawful = lawful;
      legal = subst (λ x. IsLegal p (start_world limits) x) (sym none) tt;
      stands = start ∙ ap (replay (start_world limits)) (sym none);
      room = omega arith;
      within = λ c there. absurd (let clash : false ≡ true = sym (ap is_some (gone c)) ∙ there in cc);
      leaving = λ c. subst (λ (y : World). IsLeaving y c (get p c)) (sym start) (subst (λ o. IfSome o (λ m. IsLeaver (get p c))) (sym (get-empty nat_cmp c)) tt);
      doomers = λ c h. absurd (let clash : false ≡ true = sym (ap (λ x. list_any (λ y. y == c) (doomers_in [] x)) none) ∙ h in cc);
      numbered = subst IsNumbered (sym start) (numbered-start limits);
      callers = λ c _. ap (calls_of c) none;
    }
