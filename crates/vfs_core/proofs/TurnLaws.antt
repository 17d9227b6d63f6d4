-- What turns keep.
use Rattle.std.proofs.Common.{◌≡◌, ℕ, zero, suc, ◌+◌, ◌-◌, ◌*◌, ◌<◌, ◌≤◌, arith, length, eq-eqb, Bool, true, false, not, ◌==◌, ◌++◌, List, [], ◌∷◌, refl, ap, sym, ◌∙◌, subst, cond, append_assoc, inl, inr, map, drop, get_or, reverse, length-append}
use Rattle.std.specs.Prelude.{nat_lt, Result, Ok, Err, OnOk, Option, Some, None, IsSome, is_some, unwrap_or}
use Rattle.std.specs.Option.{option_to_list}
use Rattle.std.specs.List.{AllByRecursion}
use Rattle.std.specs.Ordering.{nat_cmp, eq_by_cmp, is_eq}
use Rattle.std.specs.Cmp.{nat_cmp_total, unsigned_ties}
use Rattle.std.specs.FinMap.{FinMap, get, insert, remove, empty, get-empty, get-insert, get-remove}
use Rattle.std.proofs.lemmas.Bool.Decides.{eqb_tells}
use Rattle.std.proofs.lemmas.List.{append-nil, reverse-append}
use Rattle.std.proofs.lemmas.Option.{same_Some}
use Rattle.std.proofs.lemmas.Cmp.{tied_itself}
use Rattle.std.proofs.lemmas.Map.Lookups.{exact_unsigned}
use Rattle.finite_maps.proofs.EntryLaws.{by_key, insert_same, remove-insert, get_at-insert}
use Rattle.vfs_tree.specs.Limits.{IsCaller}
use Rattle.vfs_tree.specs.Start.{start_world}
use Rattle.vfs_tree.specs.declared.limits.Limits.{Limits}
use Rattle.call_model.specs.Legal.{Pending, Extends, IsLegal, calls_of, calls_in}
use Rattle.call_model.specs.declared.call.Call.{Call}
use Rattle.call_model.specs.declared.call.Line.{Line}
use Rattle.call_model.specs.declared.entry.Entry.{Entry}
use Rattle.call_model.specs.declared.entry.Entry.TheVariants as entry
use Rattle.call_model.specs.declared.entry.Inner.{Inner}
use Rattle.call_model.specs.declared.entry.Ref.{Ref}
use Rattle.call_model.specs.declared.reply.Reply.{Reply}
use Rattle.call_model.proofs.HistoryLaws.{legal-begin}
use Rattle.vfs_core.specs.Kernel.{Kernel, work}
use Rattle.vfs_core.specs.Queues.{Queues, queue_at, BeginsNext}
use Rattle.vfs_core.specs.Stepping.{Steps, dooms}
use Rattle.vfs_core.specs.Work.{Work, IsRunning}
use Rattle.vfs_core.specs.Turning.{calls_at, calls_with, owed, times, callers_left, without_first, lines_left, Turns, Begins, FitsJob, Runs, IsDone, HasLeft, is_ready, ready_to, caller_work, work_to, calls_left, pace_of, Paces, lines_of, GoesOn, Ends, HasRun, RunsLine, StartsLine, RunsLines, IsSought}
use Rattle.vfs_core.specs.Filling.{IsFilled}
use Rattle.vfs_core.proofs.LineLaws.{apart, times_calls, times_low, times_left, all_left, each_left, without, callers_without, calls_without, others_without, first_gone}
use Rattle.vfs_core.specs.declared.job.Turned.{Turned}
use Rattle.vfs_core.specs.declared.job.Turned.TheVariants as turned
use Rattle.vfs_core.specs.declared.kern.Stepped.{Stepped}
use Rattle.vfs_core.specs.declared.kern.Stepped.TheVariants as stepped
use Rattle.vfs_core.specs.declared.queue.Begun.{Begun}
use Rattle.vfs_core.specs.declared.queue.Begun.TheVariants as begun

test_same : (x y : ℕ) → eq_by_cmp nat_cmp x y ≡ (x == y)
test_same x y = sym (unsigned_ties x y)

-- what stands at a key after an insert or a removal
pub get-put : {X : Type 0} (m : FinMap nat_cmp X) (k : ℕ) (v : X) (q : ℕ) → get (insert m k v) q ≡ cond (q == k) (Some v) (get m q)
get-put m k v q = get-insert nat_cmp_total m k v q ∙ ap (λ b. cond b (Some v) (get m q)) (test_same q k)

pub get-taken : {X : Type 0} (m : FinMap nat_cmp X) (k q : ℕ) → get (remove m k) q ≡ cond (q == k) None (get m q)
get-taken m k q = get-remove nat_cmp_total m k q ∙ ap (λ b. cond b None (get m q)) (test_same q k)

-- at a caller and at the others
by_caller : (c d : ℕ) (P : Bool → Type 0) → (d ≡ c → P true) → P false → P (d == c)
by_caller c d P here there = elim (eqb_tells d c) [ inl e ↦ subst P (sym e.0) (here e.1) | inr e ↦ subst P (sym e.0) there ]

-- ---- a call begins

began_same : (p : Pending) (q : Queues) (c d : ℕ) (call : Call) (rest : List Call) → get p c ≡ None → queue_at q c ≡ call ∷ rest
    → option_to_list (get (insert p c call) d) ++ queue_at (insert q c rest) d ≡ option_to_list (get p d) ++ queue_at q d
began_same p q c d call rest idle next =
    let goal : Bool → Type 0 = λ b. option_to_list (cond b (Some call) (get p d)) ++ unwrap_or (cond b (Some rest) (get q d)) [] ≡ option_to_list (get p d) ++ queue_at q d in
    let here : d ≡ c → call ∷ rest ≡ option_to_list (get p d) ++ queue_at q d = λ e. sym (ap (λ x. option_to_list (get p x) ++ queue_at q x) e ∙ ap (λ o. option_to_list o ++ queue_at q c) idle ∙ next) in
    ap (λ o. option_to_list o ++ queue_at (insert q c rest) d) (get-put p c call d) ∙ ap (λ o. option_to_list (cond (d == c) (Some call) (get p d)) ++ unwrap_or o []) (get-put q c rest d) ∙ by_caller c d goal here refl

began_keeps : (h : List Entry) (p : Pending) (q : Queues) (c d : ℕ) (call : Call) (rest : List Call) → get p c ≡ None → queue_at q c ≡ call ∷ rest
    → calls_of d h ++ (option_to_list (get (insert p c call) d) ++ queue_at (insert q c rest) d) ≡ calls_of d h ++ (option_to_list (get p d) ++ queue_at q d)
began_keeps h p q c d call rest idle next = ap (λ (t : List Call). calls_of d h ++ t) (began_same p q c d call rest idle next)

-- ---- entries more

pub calls_append : (d : ℕ) (h more : List Entry) → calls_of d (h ++ more) ≡ calls_of d h ++ calls_of d more
calls_append d [] more = refl
calls_append d (entry.Call e k s ∷ es) more =
    elim (d == e) as (λ b. cond b (k ∷ calls_of d (es ++ more)) (calls_of d (es ++ more)) ≡ cond b (k ∷ calls_of d es) (calls_of d es) ++ calls_of d more) [
      | true ↦ ap (λ (t : List Call). k ∷ t) (calls_append d es more)
      | false ↦ calls_append d es more
    ]
calls_append d (entry.Inner e x ∷ es) more = calls_append d es more

-- an inner entry is no call
pub inner_keeps : (d : ℕ) (h : List Entry) (c : ℕ) (x : Inner) → calls_of d (h ++ entry.Inner c x ∷ []) ≡ calls_of d h
inner_keeps d h c x = calls_append d h (entry.Inner c x ∷ []) ∙ append-nil (calls_of d h)

-- and no doom is one
pub dooms_keep : (d c : ℕ) (ats : List Ref) (es : List Entry) → calls_of d (dooms c ats ++ es) ≡ calls_of d es
dooms_keep d c [] es = refl
dooms_keep d c (at ∷ ats) es = dooms_keep d c ats es

-- ---- a call ends

pub ended_keeps : (h more : List Entry) (p : Pending) (q : Queues) (c d : ℕ) (call : Call) → get p c ≡ Some call → calls_of d more ≡ cond (d == c) (call ∷ []) []
    → calls_of d (h ++ more) ++ (option_to_list (get (remove p c) d) ++ queue_at q d) ≡ calls_of d h ++ (option_to_list (get p d) ++ queue_at q d)
ended_keeps h more p q c d call its one =
    let goal : Bool → Type 0 = λ b. (calls_of d h ++ cond b (call ∷ []) []) ++ (option_to_list (cond b None (get p d)) ++ queue_at q d) ≡ calls_of d h ++ (option_to_list (get p d) ++ queue_at q d) in
    let here : d ≡ c → (calls_of d h ++ (call ∷ [])) ++ queue_at q d ≡ calls_of d h ++ (option_to_list (get p d) ++ queue_at q d) = λ e.
    append_assoc (calls_of d h) (call ∷ []) (queue_at q d) ∙ ap (λ o. calls_of d h ++ (option_to_list o ++ queue_at q d)) (sym (ap (λ x. get p x) e ∙ its))
    in
    let there : (calls_of d h ++ []) ++ (option_to_list (get p d) ++ queue_at q d) ≡ calls_of d h ++ (option_to_list (get p d) ++ queue_at q d) = ap (λ (t : List Call). t ++ (option_to_list (get p d) ++ queue_at q d)) (append-nil (calls_of d h)) in
    ap (λ (t : List Call). t ++ (option_to_list (get (remove p c) d) ++ queue_at q d)) (calls_append d h more ∙ ap (λ (t : List Call). calls_of d h ++ t) one)
    ∙ ap (λ o. (calls_of d h ++ cond (d == c) (call ∷ []) []) ++ (option_to_list o ++ queue_at q d)) (get-taken p c d)
    ∙ by_caller c d goal here there

-- ---- a turn

-- each caller's calls are what they were
pub turn_keeps_calls : (old new : Work) (c : ℕ) (r : Turned) → Turns old new c r → (d : ℕ) → calls_with new d ≡ calls_with old d
turn_keeps_calls old new c turned.Idle h d = ap (λ (j : Work). calls_with j d) h.2
turn_keeps_calls old new c turned.NoMemory h d = ap (λ (j : Work). calls_with j d) h.4
turn_keeps_calls old new c turned.Began h d = ap (λ (j : Work). calls_with j d) h.4 ∙ began_keeps old.kern.history old.kern.pending old.left c d h.0 h.1 h.2 h.3
turn_keeps_calls old new c (turned.Did stepped.Went) h d =
    ap (λ (k : Kernel). calls_of d k.history ++ (option_to_list (get k.pending d) ++ queue_at new.left d)) h.0.1
    ∙ ap (λ (q : Queues). calls_of d (old.kern.history ++ entry.Inner c h.0.0 ∷ []) ++ (option_to_list (get old.kern.pending d) ++ queue_at q d)) h.1
    ∙ ap (λ (t : List Call). t ++ (option_to_list (get old.kern.pending d) ++ queue_at old.left d)) (inner_keeps d old.kern.history c h.0.0)
turn_keeps_calls old new c (turned.Did (stepped.Ended reply)) h d =
    let more : List Entry = dooms c h.0.1 ++ entry.Call c h.0.0 reply ∷ [] in
    ap (λ (k : Kernel). calls_of d k.history ++ (option_to_list (get k.pending d) ++ queue_at new.left d)) h.0.3
    ∙ ap (λ (q : Queues). calls_of d (old.kern.history ++ more) ++ (option_to_list (get (remove old.kern.pending c) d) ++ queue_at q d)) h.1
    ∙ ended_keeps old.kern.history more old.kern.pending old.left c d h.0.0 h.0.2 (dooms_keep d c h.0.1 (entry.Call c h.0.0 reply ∷ []))

same_history : (old new : List Entry) → new ≡ old → Extends old new
same_history old new e = record { more = []; is = e ∙ sym (append-nil old) }

-- the history begins with the one before
pub turn_extends : (old new : Work) (c : ℕ) (r : Turned) → Turns old new c r → Extends old.kern.history new.kern.history
turn_extends old new c turned.Idle h = same_history _ _ (ap (λ (j : Work). j.kern.history) h.2)
turn_extends old new c turned.NoMemory h = same_history _ _ (ap (λ (j : Work). j.kern.history) h.4)
turn_extends old new c turned.Began h = same_history _ _ (ap (λ (j : Work). j.kern.history) h.4)
turn_extends old new c (turned.Did stepped.Went) h = record { more = entry.Inner c h.0.0 ∷ []; is = ap (λ (k : Kernel). k.history) h.0.1 }
turn_extends old new c (turned.Did (stepped.Ended reply)) h = record { more = dooms c h.0.1 ++ entry.Call c h.0.0 reply ∷ []; is = ap (λ (k : Kernel). k.history) h.0.3 }

-- what begins is a turn
pub begins_turn : (old new : Work) (c : ℕ) (b : Begun) → Begins old new c b → (r : Turned) × Turns old new c r
begins_turn old new c begun.Idle h = (turned.Idle, h)
begins_turn old new c begun.NoMemory h = (turned.NoMemory, h)
begins_turn old new c begun.Began h = (turned.Began, h)

-- ---- the lines that are left

-- where each caller's calls live or left are what they were, so are the lines
lines_same : (lines : List Line) (old new : Work) → ((d : ℕ) → calls_at new d ≡ calls_at old d) → new.order ≡ old.order → HasLeft lines old → HasLeft lines new
lines_same lines old new same order h = record {
  order = h.order ∙ sym (λ i. callers_left (λ d. length (same d i)) (order i));
  left = λ d. same d ∙ h.left d;
}

-- where a live call ended, the first line of its caller is left no more
pub left_ended : (lines : List Line) (k n : Kernel) (q : Queues) (o : List ℕ) (c : ℕ) (call : Call) → get k.pending c ≡ Some call → n.pending ≡ remove k.pending c
    → HasLeft lines (record { kern = k; left = q; order = o }) → HasLeft (without_first c lines) (record { kern = n; left = q; order = o })
left_ended lines k n q o c call its taken h =
    let old : Work = record { kern = k; left = q; order = o } in
    let new : Work = record { kern = n; left = q; order = o } in
    let live : calls_at old c ≡ call ∷ queue_at q c = ap (λ o. option_to_list o ++ queue_at q c) its in
    let now : (d : ℕ) → calls_at new d ≡ option_to_list (cond (d == c) None (get k.pending d)) ++ queue_at q d = λ d.
    ap (λ (p : Pending). option_to_list (get p d) ++ queue_at q d) taken ∙ ap (λ o. option_to_list o ++ queue_at q d) (get-taken k.pending c d)
    in
    let here : calls_at new c ≡ queue_at q c = now c ∙ ap (λ b. option_to_list (cond b None (get k.pending c)) ++ queue_at q c) (eq-eqb c c refl) in
    let there : (d : ℕ) → (c == d) ≡ false → calls_at new d ≡ calls_at old d = λ d other.
    now d ∙ ap (λ b. option_to_list (cond b None (get k.pending d)) ++ queue_at q d) (apart c d other)
    in
    let some : suc (length (queue_at q c)) ≤ times c o =
    subst (λ x. x ≤ times c o) (sym (ap (times c) h.order) ∙ sym (times_calls c lines) ∙ ap length (sym (h.left c) ∙ live)) (times_left (owed old) c o)
    in
    record {
      order = callers_without c lines ∙ ap (without c) h.order
          ∙ sym (first_gone (owed old) (owed new) c (length (queue_at q c)) (ap length live) (ap length here) (λ d other. ap length (there d other)) o some);
      left = λ d. elim (eqb_tells c d) [
        | inl e ↦ subst (λ x. calls_at new x ≡ calls_in x (without_first c lines)) e.1 (here ∙ ap (λ (t : List Call). drop 1 t) (sym live ∙ h.left c) ∙ sym (calls_without c lines))
        | inr e ↦ there d e.0 ∙ h.left d ∙ sym (others_without c d lines e.0)
      ];
    }

-- the lines that are left after a turn
pub turn_left : (old new : Work) (c : ℕ) (r : Turned) → Turns old new c r → (lines : List Line) → HasLeft lines old → HasLeft (lines_left c r lines) new
turn_left old new c turned.Idle h lines had = subst (λ (j : Work). HasLeft lines j) (sym h.2) had
turn_left old new c turned.NoMemory h lines had = subst (λ (j : Work). HasLeft lines j) (sym h.4) had
turn_left old new c turned.Began h lines had =
    lines_same lines old new (λ d. ap (λ (j : Work). calls_at j d) h.4 ∙ began_same old.kern.pending old.left c d h.0 h.1 h.2 h.3) (ap (λ (j : Work). j.order) h.4) had
turn_left old new c (turned.Did stepped.Went) h lines had =
    let same : (d : ℕ) → calls_at new d ≡ calls_at old d = λ d.
    ap (λ (k : Kernel). option_to_list (get k.pending d) ++ queue_at new.left d) h.0.1 ∙ ap (λ (q : Queues). option_to_list (get old.kern.pending d) ++ queue_at q d) h.1
    in
    lines_same lines old new same h.2 had
turn_left old new c (turned.Did (stepped.Ended reply)) h lines had =
    let gone : HasLeft (without_first c lines) (record { kern = new.kern; left = old.left; order = old.order }) =
    left_ended lines old.kern new.kern old.left old.order c h.0.0 h.0.2 (ap (λ (k : Kernel). k.pending) h.0.3) had
    in
    lines_same (without_first c lines) (record { kern = new.kern; left = old.left; order = old.order }) new (λ d. ap (λ (q : Queues). option_to_list (get new.kern.pending d) ++ queue_at q d) h.1) h.2 gone

-- ---- what a job keeps

put-each : {X : Type 0} (P : ℕ → Option X → Type 0) (m : FinMap nat_cmp X) (k : ℕ) (v : X) → P k (Some v) → ((c : ℕ) → P c (get m c)) → (c : ℕ) → P c (get (insert m k v) c)
put-each P m k v here there c = by_key nat_cmp_total exact_unsigned m k v c (P c) (λ e. subst (λ x. P x (Some v)) (sym e) here) (there c)

taken-each : {X : Type 0} (P : ℕ → Option X → Type 0) (m : FinMap nat_cmp X) (k : ℕ) → ((c : ℕ) → P c None) → ((c : ℕ) → P c (get m c)) → (c : ℕ) → P c (get (remove m k) c)
taken-each P m k gone there c = subst (P c) (sym (get-remove nat_cmp_total m k c))
    (elim (eq_by_cmp nat_cmp c k) as (λ b. P c (cond b None (get m c))) [ true ↦ gone c | false ↦ there c ])

-- a call of a caller begins
pub running-began : (k : Kernel) (p : Queues) (o : List ℕ) (n : Kernel) (q : Queues) (c : ℕ) (call : Call) (rest : List Call) → IsRunning k p o → IsCaller k.limits c
    → n ≡ record k { pending = insert k.pending c call } → q ≡ insert p c rest → IsLegal n.pending (start_world n.limits) n.history → IsRunning n q o
running-began k p o n q c call rest running caller is put legal =
    let limits : n.limits ≡ k.limits = ap (λ (x : Kernel). x.limits) is in
    let live : (d : ℕ) → IsSome (get n.pending d) → IsCaller k.limits d = subst (λ (x : Pending). (d : ℕ) → IsSome (get x d) → IsCaller k.limits d) (sym (ap (λ (x : Kernel). x.pending) is)) (put-each (λ d o. IsSome o → IsCaller k.limits d) k.pending c call (λ _. caller) running.live) in
    let within : (d : ℕ) → IsSome (get q d) → IsCaller k.limits d = subst (λ (x : Queues). (d : ℕ) → IsSome (get x d) → IsCaller k.limits d) (sym put) (put-each (λ d o. IsSome o → IsCaller k.limits d) p c rest (λ _. caller) running.within) in
    record {
      legal = legal;
      live = subst (λ (l : Limits). (d : ℕ) → IsSome (get n.pending d) → IsCaller l d) (sym limits) live;
      within = subst (λ (l : Limits). (d : ℕ) → IsSome (get q d) → IsCaller l d) (sym limits) within;
      lines = subst (λ (l : Limits). AllByRecursion (IsCaller l) o) (sym limits) running.lines;
    }

-- a live call ended
pub running-ended : (k n : Kernel) (p : Queues) (o : List ℕ) (c : ℕ) → IsRunning k p o → n.limits ≡ k.limits → n.pending ≡ remove k.pending c → IsLegal n.pending (start_world n.limits) n.history → IsRunning n p o
running-ended k n p o c running limits taken legal =
    let live : (d : ℕ) → IsSome (get n.pending d) → IsCaller k.limits d = subst (λ (x : Pending). (d : ℕ) → IsSome (get x d) → IsCaller k.limits d) (sym taken) (taken-each (λ d o. IsSome o → IsCaller k.limits d) k.pending c (λ d none. absurd (let clash : false ≡ true = none in cc)) running.live) in
    record {
      legal = legal;
      live = subst (λ (l : Limits). (d : ℕ) → IsSome (get n.pending d) → IsCaller l d) (sym limits) live;
      within = subst (λ (l : Limits). (d : ℕ) → IsSome (get p d) → IsCaller l d) (sym limits) running.within;
      lines = subst (λ (l : Limits). AllByRecursion (IsCaller l) o) (sym limits) running.lines;
    }

-- a live call went on
running-went : (k n : Kernel) (p : Queues) (o : List ℕ) → IsRunning k p o → n.limits ≡ k.limits → n.pending ≡ k.pending → IsLegal n.pending (start_world n.limits) n.history → IsRunning n p o
running-went k n p o running limits same legal =
    let live : (d : ℕ) → IsSome (get n.pending d) → IsCaller k.limits d = subst (λ (x : Pending). (d : ℕ) → IsSome (get x d) → IsCaller k.limits d) (sym same) running.live in
    record {
      legal = legal;
      live = subst (λ (l : Limits). (d : ℕ) → IsSome (get n.pending d) → IsCaller l d) (sym limits) live;
      within = subst (λ (l : Limits). (d : ℕ) → IsSome (get p d) → IsCaller l d) (sym limits) running.within;
      lines = subst (λ (l : Limits). AllByRecursion (IsCaller l) o) (sym limits) running.lines;
    }

-- a step of a caller
pub running-stepped : (k n : Kernel) (p : Queues) (o : List ℕ) (c : ℕ) (s : Stepped) → IsRunning k p o → Steps k n c s → IsLegal n.pending (start_world n.limits) n.history → IsRunning n p o
running-stepped k n p o c stepped.Went running h legal = running-went k n p o running (ap (λ (x : Kernel). x.limits) h.1) (ap (λ (x : Kernel). x.pending) h.1) legal
running-stepped k n p o c (stepped.Ended reply) running h legal = running-ended k n p o c running (ap (λ (x : Kernel). x.limits) h.3) (ap (λ (x : Kernel). x.pending) h.3) legal

-- ---- the next call of a queue

-- a queue that was lent is left as it was
left_same : (p q : Queues) (c : ℕ) (old new : List Call) → Some old ≡ get p c → (IsSome (get p c) → q ≡ insert p c new) → new ≡ old → q ≡ p
left_same p q c old new was put same = put (ap is_some (sym was)) ∙ ap (insert p c) same ∙ insert_same nat_cmp_total exact_unsigned p c old (sym was)

lent_at : (p : Queues) (c : ℕ) (old : List Call) → Some old ≡ get p c → queue_at p c ≡ old
lent_at p c old was = ap (λ o. unwrap_or o []) (sym was)

-- what begins, where the caller has no live call
pub begins-next : (k n : Kernel) (p q : Queues) (o : List ℕ) (c : ℕ) (old new : List Call) (r : Begun) → get k.pending c ≡ None → Some old ≡ get p c → (IsSome (get p c) → q ≡ insert p c new) → BeginsNext old new k n c r
    → Begins (record { kern = k; left = p; order = o }) (record { kern = n; left = q; order = o }) c r
begins-next k n p q o c old new begun.Idle idle was put h =
    (idle, lent_at p c old was ∙ h.0, λ i. record { kern = h.2 i; left = left_same p q c old new was put h.1 i; order = o })
begins-next k n p q o c old new begun.NoMemory idle was put h =
    (h.0, h.1, idle, lent_at p c old was ∙ h.2, λ i. record { kern = h.4 i; left = left_same p q c old new was put h.3 i; order = o })
begins-next k n p q o c old new begun.Began idle was put h =
    let left : q ≡ insert p c h.1 = put (ap is_some (sym was)) ∙ ap (insert p c) h.3 in
    (h.0, h.1, idle, lent_at p c old was ∙ h.2, λ i. record { kern = h.4 i; left = left i; order = o })

-- what it keeps
pub running-next : (k n : Kernel) (p q : Queues) (o : List ℕ) (c : ℕ) (old new : List Call) (r : Begun) → IsRunning k p o → IsCaller k.limits c → get k.pending c ≡ None → Some old ≡ get p c → (IsSome (get p c) → q ≡ insert p c new) → BeginsNext old new k n c r → IsRunning n q o
running-next k n p q o c old new begun.Idle running caller idle was put h =
    subst (λ (x : Kernel). IsRunning x q o) (sym h.2) (subst (λ (x : Queues). IsRunning k x o) (sym (left_same p q c old new was put h.1)) running)
running-next k n p q o c old new begun.NoMemory running caller idle was put h =
    subst (λ (x : Kernel). IsRunning x q o) (sym h.4) (subst (λ (x : Queues). IsRunning k x o) (sym (left_same p q c old new was put h.3)) running)
running-next k n p q o c old new begun.Began running caller idle was put h =
    let left : q ≡ insert p c h.1 = put (ap is_some (sym was)) ∙ ap (insert p c) h.3 in
    let begun : IsLegal (insert k.pending c h.0) (start_world k.limits) k.history = legal-begin k.pending (start_world k.limits) k.history c h.0 idle running.legal in
    let legal : IsLegal n.pending (start_world n.limits) n.history = subst (λ (x : Kernel). IsLegal x.pending (start_world x.limits) x.history) (sym h.4) begun in
    running-began k p o n q c h.0 h.1 running caller h.4 left legal

-- ---- the queues of a job are filled

-- no line is queued
pub filled-start : (limits : Limits) (q : Queues) (o : List ℕ) (lines rest : List Line) → q ≡ empty → o ≡ [] → rest ≡ lines → AllByRecursion (FitsJob limits) lines → IsFilled limits q o lines rest
filled-start limits q o lines rest none first all fits =
    let gone : (c : ℕ) → get q c ≡ None = λ c. ap (λ m. get m c) none ∙ get-empty nat_cmp c in
    record {
      calls = λ c. ap (λ o. unwrap_or o [] ++ calls_in c rest) (gone c) ∙ ap (calls_in c) all;
      callers = ap (λ (x : List ℕ). x ++ map (λ (l : Line). l.caller) rest) first ∙ ap (λ (x : List Line). map (λ (l : Line). l.caller) x) all;
      fits = subst (λ (x : List Line). AllByRecursion (FitsJob limits) x) (sym all) fits;
      within = λ c there. absurd (let clash : false ≡ true = sym (ap is_some (gone c)) ∙ there in cc);
      runners = subst (λ (x : List ℕ). AllByRecursion (IsCaller limits) x) (sym first) tt;
    }

queued : (q : Queues) (k c : ℕ) (call : Call) (rest : List Line) → queue_at (insert q k (queue_at q k ++ call ∷ [])) c ++ calls_in c rest ≡ queue_at q c ++ calls_in c (record { caller = k; call = call } ∷ rest)
queued q k c call rest =
    let goal : Bool → Type 0 = λ b. unwrap_or (cond b (Some (queue_at q k ++ call ∷ [])) (get q c)) [] ++ calls_in c rest ≡ queue_at q c ++ cond b (call ∷ calls_in c rest) (calls_in c rest) in
    let here : c ≡ k → (queue_at q k ++ call ∷ []) ++ calls_in c rest ≡ queue_at q c ++ (call ∷ calls_in c rest) = λ e.
    append_assoc (queue_at q k) (call ∷ []) (calls_in c rest) ∙ ap (λ x. queue_at q x ++ (call ∷ calls_in c rest)) (sym e)
    in
    ap (λ o. unwrap_or o [] ++ calls_in c rest) (get-put q k (queue_at q k ++ call ∷ []) c) ∙ by_caller k c goal here refl

all_snoc : {X : Type 0} (P : X → Type 0) (xs : List X) (x : X) → AllByRecursion P xs → P x → AllByRecursion P (xs ++ x ∷ [])
all_snoc P [] x h here = (here, tt)
all_snoc P (y ∷ xs) x h here = (h.0, all_snoc P xs x h.1 here)

-- one line more is queued
pub filled-next : (limits : Limits) (q r : Queues) (o o' : List ℕ) (lines rest rest' : List Line) (k : ℕ) (call : Call) → IsFilled limits q o lines rest → rest ≡ record { caller = k; call = call } ∷ rest'
    → r ≡ insert q k (queue_at q k ++ call ∷ []) → o' ≡ o ++ k ∷ [] → IsFilled limits r o' lines rest'
filled-next limits q r o o' lines rest rest' k call filled is put pushed =
    let fits : AllByRecursion (FitsJob limits) (record { caller = k; call = call } ∷ rest') = subst (λ (x : List Line). AllByRecursion (FitsJob limits) x) is filled.fits in
    record {
      calls = λ c. ap (λ (x : Queues). queue_at x c ++ calls_in c rest') put ∙ queued q k c call rest' ∙ ap (λ (x : List Line). queue_at q c ++ calls_in c x) (sym is) ∙ filled.calls c;
      callers = ap (λ (x : List ℕ). x ++ map (λ (l : Line). l.caller) rest') pushed ∙ append_assoc o (k ∷ []) (map (λ (l : Line). l.caller) rest')
          ∙ ap (λ (x : List Line). o ++ map (λ (l : Line). l.caller) x) (sym is) ∙ filled.callers;
      fits = fits.1;
      within = subst (λ (x : Queues). (c : ℕ) → IsSome (get x c) → IsCaller limits c) (sym put) (put-each (λ c o. IsSome o → IsCaller limits c) q k (queue_at q k ++ call ∷ []) (λ _. fits.0) filled.within);
      runners = subst (λ (x : List ℕ). AllByRecursion (IsCaller limits) x) (sym pushed) (all_snoc (IsCaller limits) o k filled.runners fits.0);
    }

-- a job whose queues are filled
pub filled_calls : (k : Kernel) (q : Queues) (o : List ℕ) (lines rest : List Line) → k.pending ≡ empty → IsFilled k.limits q o lines rest → rest ≡ [] → (c : ℕ) → calls_with (record { kern = k; left = q; order = o }) c ≡ calls_of c k.history ++ calls_in c lines
filled_calls k q o lines rest idle filled none c =
    ap (λ o. calls_of c k.history ++ (option_to_list o ++ queue_at q c)) (ap (λ m. get m c) idle ∙ get-empty nat_cmp c)
    ∙ ap (λ (t : List Call). calls_of c k.history ++ t) (sym (append-nil (queue_at q c)) ∙ ap (λ (x : List Line). queue_at q c ++ calls_in c x) (sym none) ∙ filled.calls c)

pub filled_left : (k : Kernel) (q : Queues) (o : List ℕ) (lines rest : List Line) → k.pending ≡ empty → IsFilled k.limits q o lines rest → rest ≡ [] → HasLeft lines (record { kern = k; left = q; order = o })
filled_left k q o lines rest idle filled none =
    let job : Work = record { kern = k; left = q; order = o } in
    let calls : (c : ℕ) → calls_at job c ≡ calls_in c lines = λ c.
    ap (λ o. option_to_list o ++ queue_at q c) (ap (λ m. get m c) idle ∙ get-empty nat_cmp c)
    ∙ sym (append-nil (queue_at q c)) ∙ ap (λ (x : List Line). queue_at q c ++ calls_in c x) (sym none) ∙ filled.calls c
    in
    let callers : o ≡ map (λ (l : Line). l.caller) lines = sym (append-nil o) ∙ ap (λ (x : List Line). o ++ map (λ (l : Line). l.caller) x) (sym none) ∙ filled.callers in
    let enough : (c : ℕ) → times c o ≤ owed job c = λ c.
    subst (λ x. x ≤ owed job c) (ap length (calls c) ∙ times_calls c lines ∙ ap (times c) (sym callers)) (omega arith)
    in
    record { order = sym callers ∙ sym (all_left (owed job) o enough); left = calls }

pub filled_runs : (k : Kernel) (q : Queues) (o : List ℕ) (lines rest : List Line) → k.pending ≡ empty → IsFilled k.limits q o lines rest → IsLegal k.pending (start_world k.limits) k.history → IsRunning k q o
filled_runs k q o lines rest idle filled legal = record {
  legal = legal;
  live = λ c there. absurd (let clash : false ≡ true = sym (ap is_some (ap (λ m. get m c) idle ∙ get-empty nat_cmp c)) ∙ there in cc);
  within = filled.within;
  lines = filled.runners;
}

pub no_items : {X : Type 0} (xs : List X) → length xs ≡ 0 → xs ≡ []
no_items [] e = refl
no_items (x ∷ xs) e = absurd (omega (arith, e))

-- ---- many turns

extends-more : (a b c : List Entry) → Extends a b → Extends b c → Extends a c
extends-more a b c p q = record { more = p.more ++ q.more; is = q.is ∙ ap (λ (t : List Entry). t ++ q.more) p.is ∙ append_assoc a p.more q.more }

turn_limits : (old new : Work) (c : ℕ) (r : Turned) → Turns old new c r → new.kern.limits ≡ old.kern.limits
turn_limits old new c turned.Idle h = ap (λ (j : Work). j.kern.limits) h.2
turn_limits old new c turned.NoMemory h = ap (λ (j : Work). j.kern.limits) h.4
turn_limits old new c turned.Began h = ap (λ (j : Work). j.kern.limits) h.4
turn_limits old new c (turned.Did stepped.Went) h = ap (λ (k : Kernel). k.limits) h.0.1
turn_limits old new c (turned.Did (stepped.Ended reply)) h = ap (λ (k : Kernel). k.limits) h.0.3

pub runs_none : (job : Work) → Runs job job
runs_none job = record { limits = refl; extends = same_history _ _ refl; each_call = λ d. refl; left = λ lines h. (lines, h) }

pub runs_more : (a b c : Work) → Runs a b → Runs b c → Runs a c
runs_more a b c p q = record {
  limits = q.limits ∙ p.limits;
  extends = extends-more _ _ _ p.extends q.extends;
  each_call = λ d. q.each_call d ∙ p.each_call d;
  left = λ lines h. let mid = p.left lines h in q.left mid.0 mid.1;
}

pub runs_turn : (old new : Work) (c : ℕ) (r : Turned) → Turns old new c r → Runs old new
runs_turn old new c r turn = record {
  limits = turn_limits old new c r turn;
  extends = turn_extends old new c r turn;
  each_call = turn_keeps_calls old new c r turn;
  left = λ lines h. (lines_left c r lines, turn_left old new c r turn lines h);
}

-- ---- the work of callers

others_began : (old new : Work) (c : ℕ) → Turns old new c turned.Began → (d : ℕ) → (d == c) ≡ false → caller_work new d ≡ caller_work old d
others_began old new c h d other =
    ap (λ (j : Work). caller_work j d) h.4
    ∙ ap (λ o. 2 * length (queue_at (insert old.left c h.1) d) + length (option_to_list o)) (get-put old.kern.pending c h.0 d ∙ ap (λ b. cond b (Some h.0) (get old.kern.pending d)) other)
    ∙ ap (λ o. 2 * length (unwrap_or o []) + length (option_to_list (get old.kern.pending d))) (get-put old.left c h.1 d ∙ ap (λ b. cond b (Some h.1) (get old.left d)) other)

others_ended : (old new : Work) (c : ℕ) (r : Reply) → Turns old new c (turned.Did (stepped.Ended r)) → (d : ℕ) → (d == c) ≡ false → caller_work new d ≡ caller_work old d
others_ended old new c r h d other =
    ap (λ (q : Queues). 2 * length (queue_at q d) + length (option_to_list (get new.kern.pending d))) h.1
    ∙ ap (λ o. 2 * length (queue_at old.left d) + length (option_to_list o)) (ap (λ (k : Kernel). get k.pending d) h.0.3 ∙ get-taken old.kern.pending c d ∙ ap (λ b. cond b None (get old.kern.pending d)) other)

work_went : (old new : Work) (c : ℕ) → Turns old new c (turned.Did stepped.Went) → (d : ℕ) → caller_work new d ≡ caller_work old d
work_went old new c h d =
    ap (λ (q : Queues). 2 * length (queue_at q d) + length (option_to_list (get new.kern.pending d))) h.1
    ∙ ap (λ (k : Kernel). 2 * length (queue_at old.left d) + length (option_to_list (get k.pending d))) h.0.1

-- the work falls with a call that begins
work_began : (old new : Work) (c : ℕ) → Turns old new c turned.Began → caller_work new c + 1 ≡ caller_work old c
work_began old new c h =
    let here : eq_by_cmp nat_cmp c c ≡ true = ap (λ r. is_eq r) (tied_itself nat_cmp_total c) in
    let live : get new.kern.pending c ≡ Some h.0 = ap (λ (j : Work). get j.kern.pending c) h.4 ∙ get-insert nat_cmp_total old.kern.pending c h.0 c ∙ ap (λ b. cond b (Some h.0) (get old.kern.pending c)) here in
    let left : get new.left c ≡ Some h.1 = ap (λ (j : Work). get j.left c) h.4 ∙ get-insert nat_cmp_total old.left c h.1 c ∙ ap (λ b. cond b (Some h.1) (get old.left c)) here in
    let now : caller_work new c ≡ 2 * length h.1 + 1 = ap (λ o. 2 * length (unwrap_or o []) + length (option_to_list (get new.kern.pending c))) left ∙ ap (λ o. 2 * length h.1 + length (option_to_list o)) live in
    let before : caller_work old c ≡ 2 * length (h.0 ∷ h.1) + 0 = ap (λ (t : List Call). 2 * length t + length (option_to_list (get old.kern.pending c))) h.3 ∙ ap (λ o. 2 * length (h.0 ∷ h.1) + length (option_to_list o)) h.2 in
    omega arith

-- and with one that ends
work_ended : (old new : Work) (c : ℕ) (r : Reply) → Turns old new c (turned.Did (stepped.Ended r)) → caller_work new c + 1 ≡ caller_work old c
work_ended old new c reply h =
    let here : eq_by_cmp nat_cmp c c ≡ true = ap (λ r. is_eq r) (tied_itself nat_cmp_total c) in
    let live : get new.kern.pending c ≡ None = ap (λ (k : Kernel). get k.pending c) h.0.3 ∙ get-remove nat_cmp_total old.kern.pending c c ∙ ap (λ b. cond b None (get old.kern.pending c)) here in
    let now : caller_work new c ≡ 2 * length (queue_at old.left c) + 0 = ap (λ o. 2 * length (queue_at new.left c) + length (option_to_list o)) live ∙ ap (λ (q : Queues). 2 * length (queue_at q c) + 0) h.1 in
    let before : caller_work old c ≡ 2 * length (queue_at old.left c) + 1 = ap (λ o. 2 * length (queue_at old.left c) + length (option_to_list o)) h.0.2 in
    omega arith

work_same : (old new : Work) (n : ℕ) → ((d : ℕ) → d ≤ n → caller_work new d ≡ caller_work old d) → work_to new n ≡ work_to old n
unfolding work_to
work_same old new zero same = refl
work_same old new (suc n) same =
    let rest : work_to new n ≡ work_to old n = work_same old new n (λ d low. same d (omega arith)) in
    let here : caller_work new (suc n) ≡ caller_work old (suc n) = same (suc n) (omega arith) in
    ap (λ x. x + caller_work new (suc n)) rest ∙ ap (λ x. work_to old n + x) here

work_fell : (old new : Work) (c n : ℕ) → 1 ≤ c → c ≤ n → caller_work new c + 1 ≡ caller_work old c → ((d : ℕ) → (d == c) ≡ false → caller_work new d ≡ caller_work old d) → work_to new n + 1 ≡ work_to old n
unfolding work_to
work_fell old new c zero some low fell others = absurd (omega arith)
work_fell old new c (suc n) some low fell others = elim (eqb_tells (suc n) c) [
  | inl e ↦
      let lower : (d : ℕ) → d ≤ n → (d == c) ≡ false = λ d less. elim (eqb_tells d c) [ inl f ↦ (let is = f.1 in let at = e.1 in absurd (omega arith)) | inr f ↦ f.0 ] in
      let rest : work_to new n ≡ work_to old n = work_same old new n (λ d less. others d (lower d less)) in
      let here : caller_work new (suc n) + 1 ≡ caller_work old (suc n) = subst (λ x. caller_work new x + 1 ≡ caller_work old x) (sym e.1) fell in
      plus_one _ _ _ _ rest here
  | inr e ↦
      let apart : suc n ≡ c → ⊥ = λ same. let clash : true ≡ false = sym (ap (λ x. x == c) same ∙ eq-eqb c c refl) ∙ e.0 in cc in
      let rest : work_to new n + 1 ≡ work_to old n = work_fell old new c n some (omega arith) fell others in
      plus_low _ _ _ _ rest (others (suc n) e.0)
]
  where
    plus_one : (a b x y : ℕ) → a ≡ b → x + 1 ≡ y → a + x + 1 ≡ b + y
    plus_one a b x y e f = omega arith

    plus_low : (a b x y : ℕ) → a + 1 ≡ b → x ≡ y → a + x + 1 ≡ b + y
    plus_low a b x y e f = omega arith

left_fell : (old new : Work) (c : ℕ) → IsCaller old.kern.limits c → new.kern.limits ≡ old.kern.limits → caller_work new c + 1 ≡ caller_work old c → ((d : ℕ) → (d == c) ≡ false → caller_work new d ≡ caller_work old d) → calls_left new < calls_left old
left_fell old new c caller limits fell others =
    less _ _ _ (ap (λ (l : Limits). work_to new l.callers) limits) (work_fell old new c old.kern.limits.callers caller.first caller.last fell others)
  where
    less : (a b m : ℕ) → a ≡ m → m + 1 ≡ b → a < b
    less a b m e f = omega arith

-- ---- who is ready

pub ready_zero : (job : Work) → 0 ≡ ready_to job 0
unfolding ready_to
ready_zero job = refl

ready_next : (job : Work) (n m : ℕ) → m ≡ suc n → ready_to job m ≡ ready_to job n + cond (is_ready job m) 1 0
unfolding ready_to
ready_next job n m e = subst (λ x. ready_to job x ≡ ready_to job n + cond (is_ready job x) 1 0) (sym e) refl

-- one caller more, who is ready or isn't
pub ready_yes : (job : Work) (n : ℕ) → is_ready job (n + 1) ≡ true → ready_to job (n + 1) ≡ ready_to job n + 1
ready_yes job n there = ready_next job n (n + 1) (omega arith) ∙ ap (λ b. ready_to job n + cond b 1 0) there

pub ready_no : (job : Work) (n : ℕ) → is_ready job (n + 1) ≡ false → ready_to job (n + 1) ≡ ready_to job n
ready_no job n gone = ready_next job n (n + 1) (omega arith) ∙ ap (λ b. ready_to job n + cond b 1 0) gone ∙ omega arith

unready : (o : Option Call) (q : List Call) → cond (is_some o) true (not (length q == 0)) ≡ false → (o ≡ None) × (q ≡ [])
unready (Some x) q e = absurd (let clash : true ≡ false = e in cc)
unready None [] e = (refl, refl)
unready None (x ∷ q) e = elim (eqb_tells (length (x ∷ q)) 0) [
  | inl f ↦ (let none : length (x ∷ q) ≡ 0 = f.1 in absurd (omega arith))
  | inr f ↦ absurd (let clash : true ≡ false = sym (ap not f.0) ∙ e in cc)
]

none_ready : (job : Work) (n : ℕ) → ready_to job n ≡ 0 → (d : ℕ) → 1 ≤ d → d ≤ n → is_ready job d ≡ false
unfolding ready_to
none_ready job zero none d some low = absurd (omega arith)
none_ready job (suc n) none d some low = elim (eqb_tells d (suc n)) [
  | inl e ↦ ap (is_ready job) e.1 ∙ unready_one (is_ready job (suc n)) (ready_to job n) none
  | inr e ↦
      let apart : d ≡ suc n → ⊥ = λ same. let clash : true ≡ false = sym (ap (λ x. x == suc n) same ∙ eq-eqb (suc n) (suc n) refl) ∙ e.0 in cc in
      none_ready job n (no_more (is_ready job (suc n)) (ready_to job n) none) d some (omega arith)
]
  where
    unready_one : (b : Bool) (r : ℕ) → r + cond b 1 0 ≡ 0 → b ≡ false
    unready_one true r e = absurd (omega arith)
    unready_one false r e = refl

    no_more : (b : Bool) (r : ℕ) → r + cond b 1 0 ≡ 0 → r ≡ 0
    no_more b r e = omega arith

-- where each caller is done, nobody has anything left
all_done : (job : Work) → IsRunning job.kern job.left job.order → ((d : ℕ) → 1 ≤ d → d ≤ job.kern.limits.callers → IsDone job d) → (c : ℕ) → IsDone job c
all_done job running done c = record {
  live = elim (get job.kern.pending c) as (λ o. get job.kern.pending c ≡ o → o ≡ None) [
    | None ↦ λ e. refl
    | Some call ↦ λ e. let caller = running.live c (ap is_some e) in sym e ∙ (done c caller.first caller.last).live
  ] refl;
  left = elim (get job.left c) as (λ o. get job.left c ≡ o → unwrap_or o [] ≡ []) [
    | None ↦ λ e. refl
    | Some calls ↦ λ e. let caller = running.within c (ap is_some e) in sym (ap (λ o. unwrap_or o []) e) ∙ (done c caller.first caller.last).left
  ] refl;
}

-- where nobody is ready, all are done
pub all_over : (job : Work) → IsRunning job.kern job.left job.order → ready_to job job.kern.limits.callers ≡ 0 → (c : ℕ) → IsDone job c
all_over job running none = all_done job running (λ d some low.
    let both = unready (get job.kern.pending d) (queue_at job.left d) (none_ready job job.kern.limits.callers none d some low) in
    record { live = both.0; left = both.1 })

-- so it is where the count of those that are ready is none
pub over : (job inside : Work) (count n : ℕ) → inside ≡ job → IsRunning inside.kern inside.left inside.order → (count ≡ ready_to job n) × (count ≤ n) → n ≡ inside.kern.limits.callers → count ≡ 0 → (c : ℕ) → IsDone job c
over job inside count n is running all last none =
    subst (λ (j : Work). (c : ℕ) → IsDone j c) is (all_over inside running (ap (ready_to inside) (sym last) ∙ ap (λ (j : Work). ready_to j n) is ∙ sym all.0 ∙ none))

ready_idle : (o : Option Call) (q : List Call) → cond (is_some o) true (not (length q == 0)) ≡ true → o ≡ None → q ≡ [] → ⊥
ready_idle (Some x) q ready e f = let clash : true ≡ false = ap is_some e in cc
ready_idle None [] ready e f = let clash : false ≡ true = ready in cc
ready_idle None (x ∷ q) ready e f = omega (arith, ap length f)

-- what a turn of a caller that is ready means for the run
pub turn_paces : (old new : Work) (c : ℕ) (r : Turned) → IsCaller old.kern.limits c → is_ready old c ≡ true → Turns old new c r → Paces old new (pace_of r)
turn_paces old new c turned.Idle caller ready h = absurd (ready_idle (get old.kern.pending c) (queue_at old.left c) ready h.0 h.1)
turn_paces old new c turned.NoMemory caller ready h = tt
turn_paces old new c turned.Began caller ready h = left_fell old new c caller (turn_limits old new c turned.Began h) (work_began old new c h) (others_began old new c h)
turn_paces old new c (turned.Did stepped.Went) caller ready h =
    (ap (λ (l : Limits). work_to new l.callers) (ap (λ (k : Kernel). k.limits) h.0.1) ∙ work_same old new old.kern.limits.callers (λ d low. work_went old new c h d), h.0.2)
turn_paces old new c (turned.Did (stepped.Ended reply)) caller ready h =
    left_fell old new c caller (turn_limits old new c (turned.Did (stepped.Ended reply)) h) (work_ended old new c reply h) (others_ended old new c reply h)

-- ---- in the order of the lines

lines_append : (h more : List Entry) → lines_of (h ++ more) ≡ lines_of h ++ lines_of more
lines_append [] more = refl
lines_append (entry.Call c call r ∷ es) more = ap (λ (t : List Line). record { caller = c; call = call } ∷ t) (lines_append es more)
lines_append (entry.Inner c x ∷ es) more = lines_append es more

dooms_no_line : (c : ℕ) (ats : List Ref) (es : List Entry) → lines_of (dooms c ats ++ es) ≡ lines_of es
dooms_no_line c [] es = refl
dooms_no_line c (at ∷ ats) es = dooms_no_line c ats es

calls_lines : (d : ℕ) (es : List Entry) → calls_of d es ≡ calls_in d (lines_of es)
calls_lines d [] = refl
calls_lines d (entry.Call c call r ∷ es) = ap (λ (t : List Call). cond (d == c) (call ∷ t) t) (calls_lines d es)
calls_lines d (entry.Inner c x ∷ es) = calls_lines d es

-- it goes on
pub goes_on : (k m n : Kernel) (c : ℕ) → GoesOn k m → Steps m n c stepped.Went → GoesOn k n
goes_on k m n c g h = record {
  more = g.more ++ entry.Inner c h.0 ∷ [];
  none = lines_append g.more (entry.Inner c h.0 ∷ []) ∙ ap (λ (t : List Line). t ++ []) g.none;
  is = h.1 ∙ ap (λ (x : Kernel). record x { history = x.history ++ entry.Inner c h.0 ∷ [] }) g.is
      ∙ ap (λ (es : List Entry). record k { history = es }) (append_assoc k.history g.more (entry.Inner c h.0 ∷ []));
}

-- it ends
pub ends_now : (k m n : Kernel) (c : ℕ) (r : Reply) → GoesOn k m → Steps m n c (stepped.Ended r) → Ends k n c
ends_now k m n c r g h =
    let own : List Entry = dooms c h.1 ++ entry.Call c h.0 r ∷ [] in
    record {
      call = h.0;
      more = g.more ++ own;
      live = sym (ap (λ (x : Kernel). get x.pending c) g.is) ∙ h.2;
      line = lines_append g.more own ∙ ap (λ (t : List Line). t ++ lines_of own) g.none ∙ dooms_no_line c h.1 (entry.Call c h.0 r ∷ []);
      is = h.3 ∙ ap (λ (x : Kernel). record x { history = x.history ++ own; pending = remove x.pending c }) g.is
          ∙ ap (λ (es : List Entry). record k { history = es; pending = remove k.pending c }) (append_assoc k.history g.more own);
    }

pub ends_runs : (k n : Kernel) (q : Queues) (o : List ℕ) (c : ℕ) → Ends k n c → Runs (record { kern = k; left = q; order = o }) (record { kern = n; left = q; order = o })
ends_runs k n q o c e = record {
  limits = ap (λ (x : Kernel). x.limits) e.is;
  extends = record { more = e.more; is = ap (λ (x : Kernel). x.history) e.is };
  each_call = λ d. ap (λ (x : Kernel). calls_of d x.history ++ (option_to_list (get x.pending d) ++ queue_at q d)) e.is
      ∙ ended_keeps k.history e.more k.pending q c d e.call e.live (calls_lines d e.more ∙ ap (calls_in d) e.line);
  left = λ lines h. (without_first c lines, left_ended lines k n q o c e.call e.live (ap (λ (x : Kernel). x.pending) e.is) h);
}

pub running-ends : (k n : Kernel) (q : Queues) (o : List ℕ) (c : ℕ) → IsRunning k q o → Ends k n c → IsLegal n.pending (start_world n.limits) n.history → IsRunning n q o
running-ends k n q o c running e legal = running-ended k n q o c running (ap (λ (x : Kernel). x.limits) e.is) (ap (λ (x : Kernel). x.pending) e.is) legal

-- the first line that is left is of another caller where this one has no call live or left
pub idle_line : (old mid new : Work) (c : ℕ) (b : Begun) → Begins old mid c b → b ≡ begun.Idle → RunsLine c old new
idle_line old mid new c b begins is l rest had mine =
    let h : Begins old mid c begun.Idle = subst (λ x. Begins old mid c x) is begins in
    let first : (c == l.caller) ≡ true = ap (λ x. c == x) mine ∙ eq-eqb c c refl in
    let none : l.call ∷ calls_in c rest ≡ [] = sym (ap (λ b. cond b (l.call ∷ calls_in c rest) (calls_in c rest)) first) ∙ sym (had.left c) ∙ ap (λ o. option_to_list o ++ queue_at old.left c) h.0 ∙ h.1 in
    absurd (let some : suc (length (calls_in c rest)) ≡ 0 = ap length none in omega arith)

-- a line starts
pub starts_begun : (c : ℕ) (old mid new : Work) (b : Begun) → Begins old mid c b → b ≡ begun.Began → new ≡ mid → StartsLine c old new
starts_begun c old mid new b h is same = inl (subst (λ (j : Work). Begins old j c begun.Began) (sym same) (subst (λ x. Begins old mid c x) is h))

pub starts_here : (c : ℕ) (old inside new : Work) (b : Bool) → inside ≡ old → b ≡ is_some (get inside.kern.pending c) → b ≡ true → new ≡ old → StartsLine c old new
starts_here c old inside new b was live there same = inr (same, subst (λ (j : Work). IsSome (get j.kern.pending c)) was (sym live ∙ there))

-- its call is live
pub starts_live : (c : ℕ) (old mid : Work) → StartsLine c old mid → IsSome (get mid.kern.pending c)
starts_live c old mid (inl h) = ap is_some (ap (λ (j : Work). get j.kern.pending c) h.4 ∙ get_at-insert nat_cmp_total old.kern.pending c h.0)
starts_live c old mid (inr h) = subst (λ (j : Work). IsSome (get j.kern.pending c)) (sym h.0) h.1

-- and where it ends, turns were made
pub starts_runs : (c : ℕ) (old mid : Work) (n : Kernel) → StartsLine c old mid → Ends mid.kern n c → Runs old (record { kern = n; left = mid.left; order = mid.order })
starts_runs c old mid n (inl h) e = runs_more old mid _ (runs_turn old mid c turned.Began h) (ends_runs mid.kern n mid.left mid.order c e)
starts_runs c old mid n (inr h) e = runs_more old mid _ (subst (λ (j : Work). Runs old j) (sym h.0) (runs_none old)) (ends_runs mid.kern n mid.left mid.order c e)

starts_history : (c : ℕ) (old mid : Work) → StartsLine c old mid → mid.kern.history ≡ old.kern.history
starts_history c old mid (inl h) = ap (λ (j : Work). j.kern.history) h.4
starts_history c old mid (inr h) = ap (λ (j : Work). j.kern.history) h.0

starts_left : (c : ℕ) (old mid : Work) → StartsLine c old mid → (lines : List Line) → HasLeft lines old → HasLeft lines mid
starts_left c old mid (inl h) lines had = turn_left old mid c turned.Began h lines had
starts_left c old mid (inr h) lines had = subst (λ (j : Work). HasLeft lines j) (sym h.0) had

-- and the line was run
pub starts_line : (c : ℕ) (old mid : Work) (n : Kernel) → StartsLine c old mid → Ends mid.kern n c → RunsLine c old (record { kern = n; left = mid.left; order = mid.order })
starts_line c old mid n start e l rest had mine =
    let new : Work = record { kern = n; left = mid.left; order = mid.order } in
    let begun : HasLeft (l ∷ rest) mid = starts_left c old mid start (l ∷ rest) had in
    let ended : HasLeft (without_first c (l ∷ rest)) new = left_ended (l ∷ rest) mid.kern n mid.left mid.order c e.call e.live (ap (λ (x : Kernel). x.pending) e.is) begun in
    let first : (c == l.caller) ≡ true = ap (λ x. c == x) mine ∙ eq-eqb c c refl in
    let its : e.call ∷ queue_at mid.left c ≡ l.call ∷ calls_in c rest =
    sym (ap (λ o. option_to_list o ++ queue_at mid.left c) e.live) ∙ begun.left c ∙ ap (λ b. cond b (l.call ∷ calls_in c rest) (calls_in c rest)) first
    in
    let call : e.call ≡ l.call = ap (λ (t : List Call). get_or t 0 l.call) its in
    let line : record { caller = c; call = e.call } ≡ l = λ i. record { caller = sym mine i; call = call i } in (
      subst (λ (ls : List Line). HasLeft ls new) (ap (λ b. cond b rest (l ∷ without_first c rest)) first) ended,
      ap (λ (x : Kernel). lines_of x.history) e.is ∙ lines_append mid.kern.history e.more
          ∙ ap (λ (t : List Line). lines_of mid.kern.history ++ t) (e.line ∙ ap (λ (x : Line). x ∷ []) line)
          ∙ ap (λ (es : List Entry). lines_of es ++ l ∷ []) (starts_history c old mid start),
    )

-- ---- the callers of the lines that are left are sought from the last line on

pub sought-start : (owed : ℕ → ℕ) (callers : List ℕ) (later : FinMap nat_cmp ℕ) (rest : List ℕ) → callers ≡ [] → later ≡ empty → rest ≡ [] → IsSought owed callers later rest
sought-start owed callers later rest none first end = record {
  callers = ap reverse none ∙ sym (ap (callers_left owed) end);
  later = λ c. ap (λ m. unwrap_or (get m c) 0) first ∙ ap (λ o. unwrap_or o 0) (get-empty nat_cmp c) ∙ sym (ap (times c) end);
}

-- one line more is seen
pub sought-next : (owed : ℕ → ℕ) (callers callers' : List ℕ) (later later' : FinMap nat_cmp ℕ) (rest : List ℕ) (c : ℕ) (b : Bool) → IsSought owed callers later rest
    → b ≡ nat_lt (unwrap_or (get later c) 0) (owed c) → callers' ≡ cond b (callers ++ c ∷ []) callers → later' ≡ insert later c (unwrap_or (get later c) 0 + 1) → IsSought owed callers' later' (c ∷ rest)
sought-next owed callers callers' later later' rest c b sought test pushed put =
    let is : b ≡ nat_lt (times c rest) (owed c) = test ∙ ap (λ x. nat_lt x (owed c)) (sought.later c) in
    record {
      callers = ap reverse pushed ∙ (elim b as (λ b. reverse (cond b (callers ++ c ∷ []) callers) ≡ cond b (c ∷ callers_left owed rest) (callers_left owed rest)) [
        | true ↦ reverse-append callers (c ∷ []) ∙ ap (λ (t : List ℕ). c ∷ t) sought.callers
        | false ↦ sought.callers
      ])
          ∙ ap (λ x. cond x (c ∷ callers_left owed rest) (callers_left owed rest)) is;
      later = λ d. ap (λ m. unwrap_or (get m d) 0) put ∙ ap (λ o. unwrap_or o 0) (get-put later c (unwrap_or (get later c) 0 + 1) d) ∙ (elim (eqb_tells d c) [
        | inl e ↦
            ap (λ x. unwrap_or (cond x (Some (unwrap_or (get later c) 0 + 1)) (get later d)) 0) e.0 ∙ ap (λ x. x + 1) (sought.later c) ∙ one (times c rest)
            ∙ sym (ap (λ x. cond x (suc (times c rest)) (times c rest)) (eq-eqb c c refl)) ∙ ap (λ x. times x (c ∷ rest)) (sym e.1)
        | inr e ↦
            ap (λ x. unwrap_or (cond x (Some (unwrap_or (get later c) 0 + 1)) (get later d)) 0) e.0 ∙ sought.later d ∙ sym (ap (λ x. cond x (suc (times d rest)) (times d rest)) e.0)
      ]);
    }
  where
    one : (n : ℕ) → n + 1 ≡ suc n
    one n = omega arith

-- no line stands behind the last one
pub none_from : (n : ℕ) (cs : List ℕ) → n ≡ length cs → drop n cs ≡ []
none_from zero [] e = refl
none_from zero (c ∷ cs) e = absurd (omega arith)
none_from (suc n) [] e = absurd (omega arith)
none_from (suc n) (c ∷ cs) e = none_from n cs (omega arith)

-- the lines from a place on
pub callers_from : (n : ℕ) (cs : List ℕ) (d : ℕ) → n < length cs → drop n cs ≡ get_or cs n d ∷ drop (suc n) cs
callers_from n [] d low = absurd (omega arith)
callers_from zero (c ∷ cs) d low = refl
callers_from (suc n) (c ∷ cs) d low = callers_from n cs d (omega arith)

-- the next line before is seen
pub sought-step : (owed : ℕ → ℕ) (found found' : List ℕ) (seen seen' : FinMap nat_cmp ℕ) (n : ℕ) (order : List ℕ) (c m : ℕ) (b : Bool) → IsSought owed found seen (drop n order)
    → 1 ≤ n → n ≤ length order → get_or order (n - 1) c ≡ c → m ≡ unwrap_or (get seen c) 0 → b ≡ nat_lt m (owed c) → found' ≡ cond b (found ++ c ∷ []) found → seen' ≡ insert seen c (m + 1)
    → IsSought owed found' seen' (drop (n - 1) order)
sought-step owed found found' seen seen' n order c m b sought some low at is test pushed put =
    let from : drop (n - 1) order ≡ c ∷ drop n order =
    callers_from (n - 1) order c (omega arith) ∙ ap (λ x. x ∷ drop (suc (n - 1)) order) at ∙ ap (λ k. c ∷ drop k order) (back n some)
    in
    subst (λ (r : List ℕ). IsSought owed found' seen' r) (sym from)
    (sought-next owed found found' seen seen' (drop n order) c b sought (test ∙ ap (λ x. nat_lt x (owed c)) is) pushed (put ∙ ap (λ x. insert seen c (x + 1)) is))
  where
    back : (n : ℕ) → 1 ≤ n → suc (n - 1) ≡ n
    back n some = omega arith

-- no caller stands in it more often than there are lines
pub sought-low : (owed : ℕ → ℕ) (found : List ℕ) (seen : FinMap nat_cmp ℕ) (n : ℕ) (order : List ℕ) (c m : ℕ) → IsSought owed found seen (drop n order) → m ≡ unwrap_or (get seen c) 0 → m ≤ length order
sought-low owed found seen n order c m sought is = below _ _ _ _ (is ∙ sought.later c) (times_low c (drop n order)) (from n order)
  where
    below : (a b c d : ℕ) → a ≡ b → b ≤ c → c ≤ d → a ≤ d
    below a b c d e f g = omega arith

    from : (n : ℕ) (cs : List ℕ) → length (drop n cs) ≤ length cs
    from zero cs = omega arith
    from (suc n) [] = omega arith
    from (suc n) (c ∷ cs) = let low : length (drop n cs) ≤ length cs = from n cs in omega arith

-- they are callers
pub sought-fits : (limits : Limits) (owed : ℕ → ℕ) (found all : List ℕ) (seen : FinMap nat_cmp ℕ) (n : ℕ) (order : List ℕ) → IsSought owed found seen (drop n order) → n ≡ 0 → all ≡ reverse found
    → AllByRecursion (IsCaller limits) order → AllByRecursion (IsCaller limits) all
sought-fits limits owed found all seen n order sought end turned each =
    subst (λ (x : List ℕ). AllByRecursion (IsCaller limits) x) (sym (turned ∙ sought.callers ∙ ap (λ k. callers_left owed (drop k order)) end)) (each_left (IsCaller limits) owed order each)

-- ---- the lines that are left are run

pub lines_start : (job : Work) (cs : List ℕ) → cs ≡ callers_left (owed job) job.order → AllByRecursion (IsCaller job.kern.limits) cs → RunsLines cs job job
lines_start job cs is fits = record {
  runs = runs_none job;
  fits = fits;
  ordered = λ lines h. record { run = []; rest = lines; all = refl; theirs = h.order ∙ sym is; left = h; entered = sym (append-nil (lines_of job.kern.history)) };
}

first_line : (c : ℕ) (cs : List ℕ) (xs : List Line) → map (λ (l : Line). l.caller) xs ≡ c ∷ cs → (l : Line) × (ls : List Line) × (xs ≡ l ∷ ls) × (l.caller ≡ c) × (map (λ (l : Line). l.caller) ls ≡ cs)
first_line c cs [] e = absurd (let some : 0 ≡ suc (length cs) = ap length e in omega arith)
first_line c cs (l ∷ ls) e = (l, ls, refl, ap (λ (t : List ℕ). get_or t 0 c) e, ap (λ (t : List ℕ). drop 1 t) e)

-- one line more has been run
pub lines_next : (c : ℕ) (cs cs' : List ℕ) (old mid new : Work) → RunsLines cs old mid → cs ≡ c ∷ cs' → Runs mid new → RunsLine c mid new → RunsLines cs' old new
lines_next c cs cs' old mid new run is more one = record {
  runs = runs_more old mid new run.runs more;
  fits = let fits : AllByRecursion (IsCaller old.kern.limits) (c ∷ cs') = subst (λ (x : List ℕ). AllByRecursion (IsCaller old.kern.limits) x) is run.fits in fits.1;
  ordered = λ lines h.
      let was = run.ordered lines h in
      let its = first_line c cs' was.rest (was.theirs ∙ is) in
      let did = one its.0 its.1 (subst (λ (ls : List Line). HasLeft ls mid) its.2 was.left) its.3 in
      record {
        run = was.run ++ its.0 ∷ [];
        rest = its.1;
        all = was.all ∙ ap (λ (t : List Line). was.run ++ t) its.2 ∙ sym (append_assoc was.run (its.0 ∷ []) its.1);
        theirs = its.4;
        left = did.0;
        entered = did.1 ∙ ap (λ (t : List Line). t ++ its.0 ∷ []) was.entered ∙ append_assoc (lines_of old.kern.history) was.run (its.0 ∷ []);
      };
}

-- whose line is next
pub next_fits : (c : ℕ) (cs cs' : List ℕ) (old mid : Work) → RunsLines cs old mid → cs ≡ c ∷ cs' → IsCaller mid.kern.limits c
next_fits c cs cs' old mid run is =
    let fits : AllByRecursion (IsCaller old.kern.limits) (c ∷ cs') = subst (λ (x : List ℕ). AllByRecursion (IsCaller old.kern.limits) x) is run.fits in
    subst (λ (l : Limits). IsCaller l c) (sym run.runs.limits) fits.0

no_lines : (xs : List Line) → map (λ (l : Line). l.caller) xs ≡ [] → xs ≡ []
no_lines [] e = refl
no_lines (x ∷ xs) e = absurd (let some : suc (length (map (λ (l : Line). l.caller) xs)) ≡ 0 = ap length e in omega arith)

no_calls : (es : List Entry) → ((d : ℕ) → calls_of d es ≡ []) → lines_of es ≡ []
no_calls [] none = refl
no_calls (entry.Call c call r ∷ es) none =
    let here : call ∷ calls_of c es ≡ [] = sym (ap (λ b. cond b (call ∷ calls_of c es) (calls_of c es)) (eq-eqb c c refl)) ∙ none c in
    absurd (let some : suc (length (calls_of c es)) ≡ 0 = ap length here in omega arith)
no_calls (entry.Inner c x ∷ es) none = no_calls es none

no_more_calls : (a b x : List Call) → (a ++ b) ++ x ≡ a ++ [] → b ≡ []
no_more_calls a b x e =
    let long : length (a ++ b) + length x ≡ length a + 0 = sym (length-append (a ++ b) x) ∙ ap length e ∙ length-append a [] in
    let both : length (a ++ b) ≡ length a + length b = length-append a b in
    no_items b (omega arith)

-- all lines have been run, and nobody has anything left that a further run might run
pub lines_end : (cs : List ℕ) (old mid new : Work) → RunsLines cs old mid → cs ≡ [] → Runs mid new → (lines : List Line) → HasLeft lines old → lines_of new.kern.history ≡ lines_of old.kern.history ++ lines
lines_end cs old mid new run all more lines h =
    let was = run.ordered lines h in
    let whole : was.rest ≡ [] = no_lines was.rest (was.theirs ∙ all) in
    let idle : (d : ℕ) → calls_at mid d ≡ [] = λ d. was.left.left d ∙ ap (calls_in d) whole in
    let none : (d : ℕ) → calls_of d more.extends.more ≡ [] = λ d.
    no_more_calls (calls_of d mid.kern.history) (calls_of d more.extends.more) (calls_at new d)
    (ap (λ (t : List Call). t ++ calls_at new d) (sym (ap (calls_of d) more.extends.is ∙ calls_append d mid.kern.history more.extends.more))
    ∙ more.each_call d ∙ ap (λ (t : List Call). calls_of d mid.kern.history ++ t) (idle d))
    in
    ap lines_of more.extends.is ∙ lines_append mid.kern.history more.extends.more
    ∙ ap (λ (t : List Line). lines_of mid.kern.history ++ t) (no_calls more.extends.more none) ∙ append-nil (lines_of mid.kern.history)
    ∙ was.entered ∙ ap (λ (t : List Line). lines_of old.kern.history ++ t) (sym (was.all ∙ ap (λ (t : List Line). was.run ++ t) whole ∙ append-nil was.run))

pub on_ok : {A E : Type 0} (r : Result A E) (P : Type 0) → P → OnOk r P
on_ok (Ok x) P h = h
on_ok (Err e) P h = tt
