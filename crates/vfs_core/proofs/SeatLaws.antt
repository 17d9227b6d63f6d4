-- What turns and seats keep.
use Rattle.std.proofs.Common.{◌≡◌, ◌≢◌, ℕ, zero, suc, ◌+◌, ◌-◌, ◌≤◌, arith, length, Bool, true, false, ◌==◌, ◌++◌, List, [], ◌∷◌, refl, ap, sym, ◌∙◌, subst, cond, nat_eq, append_assoc, inl, inr, drop, length-append, eq-eqb, ne_eqb}
use Rattle.std.specs.Prelude.{Result, Ok, Err, OnOk, OnErr, Option, Some, None, IsSome, is_some, option_map, unwrap_or}
use Rattle.std.specs.Option.{option_or}
use Rattle.std.specs.Ordering.{nat_cmp}
use Rattle.std.specs.Cmp.{nat_cmp_total}
use Rattle.std.specs.FinMap.{FinMap, get, insert, remove, empty, get-empty, same_map, nat_cmp-IsAntisymmetric}
use Rattle.std.proofs.lemmas.Bool.Decides.{eqb_tells}
use Rattle.std.proofs.lemmas.List.{append-nil}
use Rattle.std.proofs.lemmas.Option.{same_Some}
use Rattle.vfs_tree.specs.Limits.{IsCaller}
use Rattle.vfs_tree.specs.Start.{start_world}
use Rattle.vfs_tree.specs.declared.limits.Limits.{Limits}
use Rattle.call_model.specs.Legal.{Pending, Extends, IsLegal, calls_of}
use Rattle.call_model.specs.declared.call.Call.{Call}
use Rattle.call_model.specs.declared.entry.Entry.{Entry}
use Rattle.call_model.specs.declared.entry.Entry.TheVariants as entry
use Rattle.call_model.specs.declared.entry.Inner.{Inner}
use Rattle.call_model.specs.declared.entry.Ref.{Ref}
use Rattle.call_model.specs.declared.reply.Reply.{Reply}
use Rattle.turn_lock.specs.Known.{Lock, Known, ComesFrom, StartsWith, known_part, part_in, is_in, longer}
use Rattle.turn_lock.specs.Known as lock
use Rattle.vfs_core.specs.Kernel.{Kernel}
use Rattle.vfs_core.specs.Stepping.{Steps, dooms}
use Rattle.vfs_core.specs.declared.kern.Stepped.{Stepped}
use Rattle.vfs_core.specs.declared.kern.Stepped.TheVariants as stepped
use Rattle.vfs_core.specs.Seats.{Part, part_of, Passing, Sharing, shared, Seating, seated, made, has_number, own_calls, mine, known_calls, IsSeatOf, IsSeated, IsResting, IsCalling, BeginsCall, ChangesOnce, MayEnd, HadTurn, TookTurn, EndsTurn, StepsTurn, Called, CameBack}
use Rattle.vfs_core.proofs.TurnLaws.{get-put, get-taken, calls_append, inner_keeps, dooms_keep}

-- ---- options

none_there : {X : Type 0} (o : Option X) → is_some o ≡ false → o ≡ None
none_there None h = refl
none_there (Some x) h = cc

pub some_there : {X : Type 0} (o : Option X) → is_some o ≡ true → (x : X) × (o ≡ Some x)
some_there None h = cc
some_there (Some x) h = (x, refl)

still_some : {X Y : Type 0} (f : X → Y) (o : Option X) → is_some (option_map f o) ≡ is_some o
still_some f None = refl
still_some f (Some x) = refl

first_there : {X : Type 0} (a b : Option X) → is_some a ≡ true → option_or a b ≡ a
first_there None b h = cc
first_there (Some x) b h = refl

second_there : {X : Type 0} (a b : Option X) → is_some b ≡ true → is_some (option_or a b) ≡ true
second_there None b h = h
second_there (Some x) b h = refl

-- ---- extended histories

pub extends_more : (a b c : List Entry) → Extends a b → Extends b c → Extends a c
extends_more a b c x y = record { more = x.more ++ y.more; is = y.is ∙ ap (λ t. t ++ y.more) x.is ∙ append_assoc a x.more y.more }

pub extends_same : (a b : List Entry) → b ≡ a → Extends a b
extends_same a b e = record { more = []; is = e ∙ sym (append-nil a) }

pub extends_from : (a b : List Entry) → StartsWith b a → Extends a b
extends_from a b h = record { more = h.0; is = h.1 }

-- ---- a turn: the value is entered, changed and left

pub record Enters (limits : Limits) (old mid : Passing) (y : Kernel) : Type 0 where
  pub holds : mid.held ≡ Some y
  pub later : StartsWith y.history old.seen
  pub seen : mid.seen ≡ y.history
  pub same : y.limits ≡ limits
  pub known : (n : ℕ) (q : Part) → known_part n old ≡ Some q → part_of y n ≡ q
  pub parts : mid.parts ≡ old.parts

pub record Leaves (mid new : Passing) (z : Kernel) : Type 0 where
  pub seen : new.seen ≡ z.history
  pub numbers : (n : ℕ) → lock.has_number n new ≡ lock.has_number n mid
  pub parts : (n : ℕ) → lock.has_number n new ≡ true → known_part n new ≡ Some (part_of z n)

-- a caller's part alone changed
pub record Changes (c : ℕ) (y z : Kernel) : Type 0 where
  pub limits : z.limits ≡ y.limits
  pub later : Extends y.history z.history
  pub others : (n : ℕ) → n ≢ c → part_of z n ≡ part_of y n

-- what is known of a number, where its part stays
kept_at : (limits : Limits) (old mid new : Passing) (y z : Kernel) → Enters limits old mid y → Leaves mid new z → (n : ℕ) → part_of z n ≡ part_of y n
    → (o : Option Part) → known_part n old ≡ o → known_part n new ≡ o
kept_at limits old mid new y z e l n stays None was =
    none_there (known_part n new) (l.numbers n ∙ ap (is_in n) e.parts ∙ ap is_some was)
kept_at limits old mid new y z e l n stays (Some q) was =
    l.parts n (l.numbers n ∙ ap (is_in n) e.parts ∙ ap is_some was) ∙ ap Some (stays ∙ e.known n q was)

pub kept_part : (limits : Limits) (old mid new : Passing) (y z : Kernel) → Enters limits old mid y → Leaves mid new z → (n : ℕ) → part_of z n ≡ part_of y n
    → known_part n new ≡ known_part n old
kept_part limits old mid new y z e l n stays = kept_at limits old mid new y z e l n stays (known_part n old) refl

-- what is known of a number that the pass has
pub new_part : (limits : Limits) (old mid new : Passing) (y z : Kernel) (n : ℕ) (q : Part) → Enters limits old mid y → Leaves mid new z → known_part n old ≡ Some q
    → known_part n new ≡ Some (part_of z n)
new_part limits old mid new y z n q e l was = l.parts n (l.numbers n ∙ ap (is_in n) e.parts ∙ ap is_some was)

pub took : (limits : Limits) (c : ℕ) (old mid new : Passing) (y z : Kernel) → Enters limits old mid y → Leaves mid new z → Changes c y z → IsLegal z.pending (start_world z.limits) z.history
    → TookTurn limits c old new
took limits c old mid new y z e l ch legal = record {
  later = record { more = e.later.0 ++ ch.later.more; is = l.seen ∙ ch.later.is ∙ ap (λ t. t ++ ch.later.more) e.later.1 ∙ append_assoc old.seen e.later.0 ch.later.more };
  pending = z.pending;
  legal = subst (λ h. IsLegal z.pending (start_world limits) h) (sym l.seen) (subst (λ x. IsLegal z.pending (start_world x) z.history) (ch.limits ∙ e.same) legal);
  known = λ n q is. same_Some q (part_of z n) (sym is ∙ l.parts n (ap is_some is)) ∙ ap (λ h. (calls_of n h, get z.pending n)) (sym l.seen);
  others = λ n apart. kept_part limits old mid new y z e l n (ch.others n apart);
}

-- ---- what a turn does to the kernel

apart_test : (n c : ℕ) → n ≢ c → (n == c) ≡ false
apart_test n c apart = elim (eqb_tells n c) [ inl e ↦ absurd (apart e.1) | inr e ↦ e.0 ]

same_test : (c : ℕ) → (c == c) ≡ true
same_test c = elim (eqb_tells c c) [ inl e ↦ e.0 | inr e ↦ absurd (e.1 refl) ]

begun_changes : (c : ℕ) (y z : Kernel) (call : Call) → z ≡ record y { pending = insert y.pending c call } → Changes c y z
begun_changes c y z call is = record {
  limits = ap (λ (k : Kernel). k.limits) is;
  later = extends_same y.history z.history (ap (λ (k : Kernel). k.history) is);
  others = λ n apart. ap (λ (k : Kernel). part_of k n) is ∙ ap (λ o. (calls_of n y.history, o)) (get-put y.pending c call n ∙ ap (λ b. cond b (Some call) (get y.pending n)) (apart_test n c apart));
}

same_changes : (c : ℕ) (y z : Kernel) → z ≡ y → Changes c y z
same_changes c y z is = record {
  limits = ap (λ (k : Kernel). k.limits) is;
  later = extends_same y.history z.history (ap (λ (k : Kernel). k.history) is);
  others = λ n apart. ap (λ (k : Kernel). part_of k n) is;
}

-- a call begins, or comes back
pub begin_changes : (c : ℕ) (y z : Kernel) (call : Call) (r : Result (Unit {0}) Call) → OnOk r (z ≡ record y { pending = insert y.pending c call }) → OnErr r (z ≡ y) → Changes c y z
begin_changes c y z call (Ok x) begun same = begun_changes c y z call begun
begin_changes c y z call (Err x) begun same = same_changes c y z same

-- the part of a caller whose call began
begun_part : (c : ℕ) (y z : Kernel) (call : Call) (calls : List Call) → z ≡ record y { pending = insert y.pending c call } → part_of y c ≡ (calls, None) → part_of z c ≡ (calls, Some call)
begun_part c y z call calls is was = ap (λ (k : Kernel). part_of k c) is
    ∙ ap (λ o. (calls_of c y.history, o)) (get-put y.pending c call c ∙ ap (λ b. cond b (Some call) (get y.pending c)) (same_test c))
    ∙ ap (λ (q : Part). (q.0, Some call)) was

pub begin_calls : (limits : Limits) (c : ℕ) (old mid new : Passing) (y z : Kernel) (call : Call) (r : Result (Unit {0}) Call) → Enters limits old mid y → Leaves mid new z
    → OnOk r (z ≡ record y { pending = insert y.pending c call }) → OnOk r ((calls : List Call) → IsResting c old calls → IsCalling c new calls call)
begin_calls limits c old mid new y z call (Ok x) e l begun = λ calls was.
    new_part limits old mid new y z c (calls, None) e l was ∙ ap Some (begun_part c y z call calls begun (e.known c (calls, None) was))
begin_calls limits c old mid new y z call (Err x) e l begun = tt

pub begin_same : (limits : Limits) (c : ℕ) (old mid new : Passing) (y z : Kernel) (r : Result (Unit {0}) Call) → Enters limits old mid y → Leaves mid new z
    → OnErr r (z ≡ y) → OnErr r (known_part c new ≡ known_part c old)
begin_same limits c old mid new y z (Ok x) e l same = tt
begin_same limits c old mid new y z (Err x) e l same = kept_part limits old mid new y z e l c (ap (λ (k : Kernel). part_of k c) same)

-- a call goes on, or ends
went_part : (c n : ℕ) (y z : Kernel) (x : Inner) → z ≡ record y { history = y.history ++ entry.Inner c x ∷ [] } → part_of z n ≡ part_of y n
went_part c n y z x is = ap (λ (k : Kernel). part_of k n) is ∙ ap (λ h. (h, get y.pending n)) (inner_keeps n y.history c x)

ended_part : (c n : ℕ) (y z : Kernel) (call : Call) (ats : List Ref) (reply : Reply)
    → z ≡ record y { history = y.history ++ (dooms c ats ++ entry.Call c call reply ∷ []); pending = remove y.pending c }
    → part_of z n ≡ (calls_of n y.history ++ cond (n == c) (call ∷ []) [], cond (n == c) None (get y.pending n))
ended_part c n y z call ats reply is = ap (λ (k : Kernel). part_of k n) is
    ∙ ap (λ h. (h, get (remove y.pending c) n)) (calls_append n y.history (dooms c ats ++ entry.Call c call reply ∷ []) ∙ ap (λ (t : List Call). calls_of n y.history ++ t) (dooms_keep n c ats (entry.Call c call reply ∷ [])))
    ∙ ap (λ o. (calls_of n y.history ++ cond (n == c) (call ∷ []) [], o)) (get-taken y.pending c n)

pub step_changes : (c : ℕ) (y z : Kernel) (r : Stepped) → Steps y z c r → Changes c y z
step_changes c y z stepped.Went h = record {
  limits = ap (λ (k : Kernel). k.limits) h.1;
  later = record { more = entry.Inner c h.0 ∷ []; is = ap (λ (k : Kernel). k.history) h.1 };
  others = λ n apart. went_part c n y z h.0 h.1;
}
step_changes c y z (stepped.Ended reply) h = record {
  limits = ap (λ (k : Kernel). k.limits) h.3;
  later = record { more = dooms c h.1 ++ entry.Call c h.0 reply ∷ []; is = ap (λ (k : Kernel). k.history) h.3 };
  others = λ n apart. ended_part c n y z h.0 h.1 reply h.3
      ∙ ap (λ b. (calls_of n y.history ++ cond b (h.0 ∷ []) [], cond b None (get y.pending n))) (apart_test n c apart)
      ∙ ap (λ (t : List Call). (t, get y.pending n)) (append-nil (calls_of n y.history));
}

ended_own : (c : ℕ) (y z : Kernel) (calls : List Call) (call its : Call) (ats : List Ref) (reply : Reply)
    → get y.pending c ≡ Some its → z ≡ record y { history = y.history ++ (dooms c ats ++ entry.Call c its reply ∷ []); pending = remove y.pending c }
    → part_of y c ≡ (calls, Some call) → (part_of z c ≡ (calls ++ call ∷ [], None)) × (its ≡ call)
ended_own c y z calls call its ats reply live is was =
    let same : its ≡ call = same_Some its call (sym live ∙ ap (λ (q : Part). q.1) was) in (
      ended_part c c y z its ats reply is
          ∙ ap (λ b. (calls_of c y.history ++ cond b (its ∷ []) [], cond b None (get y.pending c))) (same_test c)
          ∙ ap (λ (k : Call). (calls_of c y.history ++ k ∷ [], None)) same
          ∙ ap (λ (q : Part). (q.0 ++ call ∷ [], None)) was,
      same,
    )

pub step_turn : (limits : Limits) (c : ℕ) (old mid new : Passing) (y z : Kernel) (r : Stepped) → Enters limits old mid y → Leaves mid new z → Steps y z c r → StepsTurn c old new r
step_turn limits c old mid new y z stepped.Went e l h = kept_part limits old mid new y z e l c (went_part c c y z h.0 h.1)
step_turn limits c old mid new y z (stepped.Ended reply) e l h = λ calls call was.
    let own = ended_own c y z calls call h.0 h.1 reply h.2 h.3 (e.known c (calls, Some call) was) in
    record {
      rests = new_part limits old mid new y z c (calls, Some call) e l was ∙ ap Some own.0;
      more = y.history ++ dooms c h.1;
      last = l.seen ∙ ap (λ (k : Kernel). k.history) h.3 ∙ ap (λ (k : Call). y.history ++ (dooms c h.1 ++ entry.Call c k reply ∷ [])) own.1
          ∙ sym (append_assoc y.history (dooms c h.1) (entry.Call c call reply ∷ []));
    }

-- a turn changes its caller's part alone
once_changes : (c : ℕ) (y z : Kernel) → ChangesOnce c y z → Changes c y z
once_changes c y z (inl same) = same_changes c y z same
once_changes c y z (inr (inl begun)) = begun_changes c y z begun.0 begun.1.1
once_changes c y z (inr (inr step)) = step_changes c y z step.0 step.1

-- what the lock asks of a kernel that is given back
pub gives_held : (limits : Limits) (mid : Passing) (z : Kernel) → MayEnd limits mid z → IsSome mid.held
gives_held limits mid z t = ap is_some t.holds

pub gives_later : (limits : Limits) (mid : Passing) (z : Kernel) → MayEnd limits mid z → StartsWith z.history mid.seen
gives_later limits mid z t =
    let ch = once_changes t.caller t.out z t.once in
    (ch.later.more, ch.later.is ∙ ap (λ h. h ++ ch.later.more) (sym t.seen))

pub gives_same : (limits : Limits) (mid : Passing) (z : Kernel) → MayEnd limits mid z → z.limits ≡ limits
gives_same limits mid z t = (once_changes t.caller t.out z t.once).limits ∙ t.same

pub gives_others : (limits : Limits) (mid : Passing) (z : Kernel) → MayEnd limits mid z
    → (out : Kernel) (n : ℕ) → mid.held ≡ Some out → lock.has_number n mid ≡ false → part_of z n ≡ part_of out n
gives_others limits mid z t out n held none =
    let same : t.out ≡ out = same_Some t.out out (sym t.holds ∙ held) in
    let apart : n ≢ t.caller = λ is.
    let clash : false ≡ true = sym none ∙ ap (λ k. lock.has_number k mid) is ∙ t.has in
    cc
    in
    (once_changes t.caller t.out z t.once).others n apart ∙ ap (λ (k : Kernel). part_of k n) same

-- a turn may end after one `begin`, and after one `step`
begin_once : (c : ℕ) (y z : Kernel) (call : Call) (r : Result (Unit {0}) Call) → get y.pending c ≡ None
    → OnOk r (z ≡ record y { pending = insert y.pending c call }) → OnErr r (z ≡ y) → ChangesOnce c y z
begin_once c y z call (Ok x) idle begun same = inr (inl (call, (idle, begun)))
begin_once c y z call (Err x) idle begun same = inl same

may_end : (limits : Limits) (c : ℕ) (old mid : Passing) (y z : Kernel) → Enters limits old mid y → lock.has_number c old ≡ true → ChangesOnce c y z → MayEnd limits mid z
may_end limits c old mid y z e has once = record { out = y; holds = e.holds; seen = e.seen; same = e.same; caller = c; has = ap (is_in c) e.parts ∙ has; once = once }

pub begin_ends : (limits : Limits) (c : ℕ) (old mid : Passing) (y z : Kernel) (calls : List Call) (call : Call) (r : Result (Unit {0}) Call) → Enters limits old mid y → IsResting c old calls
    → OnOk r (z ≡ record y { pending = insert y.pending c call }) → OnErr r (z ≡ y) → MayEnd limits mid z
begin_ends limits c old mid y z calls call r e was begun same =
    may_end limits c old mid y z e (ap is_some was) (begin_once c y z call r (ap (λ (q : Part). q.1) (e.known c (calls, None) was)) begun same)

pub step_ends : (limits : Limits) (c : ℕ) (old mid : Passing) (y z : Kernel) (calls : List Call) (call : Call) (r : Stepped) → Enters limits old mid y → IsCalling c old calls call
    → Steps y z c r → MayEnd limits mid z
step_ends limits c old mid y z calls call r e was step = may_end limits c old mid y z e (ap is_some was) (inr (inr (r, step)))

-- what came out of the lock and what went back
had_turn : (limits : Limits) (old mid new : Passing) (y z : Kernel) → Enters limits old mid y → Leaves mid new z → HadTurn limits old new y z
had_turn limits old mid new y z e l = record { later = extends_from old.seen y.history e.later; same = e.same; seen = l.seen }

begins_call : (c : ℕ) (y z : Kernel) (call : Call) (r : Result (Unit {0}) Call) → get y.pending c ≡ None → OnOk r (z ≡ record y { pending = insert y.pending c call }) → OnOk r (BeginsCall y z c call)
begins_call c y z call (Ok x) idle begun = (idle, begun)
begins_call c y z call (Err x) idle begun = tt

pub one_begin : (limits : Limits) (c : ℕ) (old mid new : Passing) (y z : Kernel) (calls : List Call) (call : Call) (r : Result (Unit {0}) Call) → Enters limits old mid y → Leaves mid new z
    → IsResting c old calls → OnOk r (z ≡ record y { pending = insert y.pending c call }) → OnErr r (z ≡ y)
    → (out back : Kernel) × HadTurn limits old new out back × OnOk r (BeginsCall out back c call) × OnErr r (back ≡ out)
one_begin limits c old mid new y z calls call r e l was begun same =
    (y, z, had_turn limits old mid new y z e l, begins_call c y z call r (ap (λ (q : Part). q.1) (e.known c (calls, None) was)) begun, same)

pub one_step : (limits : Limits) (c : ℕ) (old mid new : Passing) (y z : Kernel) (r : Stepped) → Enters limits old mid y → Leaves mid new z → Steps y z c r
    → (out back : Kernel) × HadTurn limits old new out back × Steps out back c r
one_step limits c old mid new y z r e l step = (y, z, had_turn limits old mid new y z e l, step)

-- what a kernel has of a caller that rests, or calls
pub rests_at : (limits : Limits) (c : ℕ) (old mid : Passing) (y : Kernel) (calls : List Call) → Enters limits old mid y → IsResting c old calls → get y.pending c ≡ None
rests_at limits c old mid y calls e was = ap (λ (q : Part). q.1) (e.known c (calls, None) was)

pub calls_at : (limits : Limits) (c : ℕ) (old mid : Passing) (y : Kernel) (calls : List Call) (call : Call) → Enters limits old mid y → IsCalling c old calls call → IsSome (get y.pending c)
calls_at limits c old mid y calls call e was = ap is_some (ap (λ (q : Part). q.1) (e.known c (calls, Some call) was))

-- ---- turns, one after the other

-- turns were had, and nothing that is known changed
pub record Waits (c : ℕ) (old now : Passing) : Type 0 where
  pub later : Extends old.seen now.seen
  pub same : (n : ℕ) → known_part n now ≡ known_part n old

pub waits_none : (c : ℕ) (old : Passing) → Waits c old old
waits_none c old = record { later = extends_same old.seen old.seen refl; same = λ n. refl }

by_number : (n c : ℕ) (P : Type 0) → (n ≡ c → P) → (n ≢ c → P) → P
by_number n c P here there = elim (eqb_tells n c) [ inl e ↦ here e.1 | inr e ↦ there e.1 ]

pub waits_more : (limits : Limits) (c : ℕ) (old now new : Passing) → Waits c old now → TookTurn limits c now new → known_part c new ≡ known_part c now → Waits c old new
waits_more limits c old now new w t own = record {
  later = extends_more old.seen now.seen new.seen w.later t.later;
  same = λ n. by_number n c (known_part n new ≡ known_part n now) (λ e. ap (λ k. known_part k new) e ∙ own ∙ ap (λ k. known_part k now) (sym e)) (t.others n) ∙ w.same n;
}

pub took_after : (limits : Limits) (c : ℕ) (old now new : Passing) → Waits c old now → TookTurn limits c now new → TookTurn limits c old new
took_after limits c old now new w t = record {
  later = extends_more old.seen now.seen new.seen w.later t.later;
  pending = t.pending;
  legal = t.legal;
  known = t.known;
  others = λ n apart. t.others n apart ∙ w.same n;
}

-- a caller that calls does so still, and its call may end
pub calls_still : (c : ℕ) (old now : Passing) → Waits c old now → (calls : List Call) × (call : Call) × IsCalling c old calls call → (calls : List Call) × (call : Call) × IsCalling c now calls call
calls_still c old now w live = (live.0, live.1, w.same c ∙ live.2)

pub ends_after : (c : ℕ) (old now new : Passing) (reply : Reply) → Waits c old now → StepsTurn c now new (stepped.Ended reply)
    → (calls : List Call) (call : Call) → IsCalling c old calls call → EndsTurn c calls call reply new
ends_after c old now new reply w ended calls call was = ended calls call (w.same c ∙ was)

-- ---- seats and their passes

abbrev pub calls_in : Option Part → Option (List Call)
calls_in o = option_map (λ (q : Part). q.0) o

-- a seat has the numbers that its pass has
pub number_same : (n c : ℕ) (born : List Call) (p : Passing) → has_number n (seated c born p) ≡ lock.has_number n p
number_same n c born p = still_some (λ (q : Part). q.0) (known_part n p)

-- its calls are those that the pass knows
pub own_known : (c : ℕ) (born calls : List Call) (o : Option Call) (p : Passing) → known_part c p ≡ Some (calls, o) → own_calls (seated c born p) ≡ calls
own_known c born calls o p is = ap (λ (x : Option Part). unwrap_or (option_map (λ (q : Part). q.0) x) []) is

-- its own number rests
pub resting : (c : ℕ) (born : List Call) (p : Passing) → IsSeated c born p → (calls : List Call) × IsResting c p calls
resting c born p s =
    let q = some_there (known_part c p) s.own in
    (q.0.0, q.1 ∙ ap (λ o. Some (q.0.0, o)) (s.idle c q.0 q.1))

pub born_within : (c : ℕ) (born calls : List Call) (o : Option Call) (p : Passing) → IsSeated c born p → known_part c p ≡ Some (calls, o) → length born ≤ length calls
born_within c born calls o p s is = subst (λ (t : List Call). length born ≤ length t) (own_known c born calls o p is) s.since

-- a seat whose pass knows the same as before
pub seated_same : (c : ℕ) (born : List Call) (p r : Passing) → IsSeated c born p → r.held ≡ None → ((n : ℕ) → known_part n r ≡ known_part n p) → IsSeated c born r
seated_same c born p r s rests same = record {
  rests = rests;
  own = ap is_some (same c) ∙ s.own;
  idle = λ n q is. s.idle n q (sym (same n) ∙ is);
  since = subst (λ (o : Option Part). length born ≤ length (unwrap_or (option_map (λ (q : Part). q.0) o) [])) (sym (same c)) s.since;
}

-- a seat comes from the kernel that its pass comes from
pub of_lock : (l : Lock Limits) (v : Sharing) (c : ℕ) (born : List Call) (p : Passing) (s : Seating) → shared l ≡ v → seated c born p ≡ s → IsSeatOf v s → IsSeatOf (shared l) (seated c born p)
of_lock l v c born p s lv ps h = subst (λ (x : Sharing). IsSeatOf x (seated c born p)) (sym lv) (subst (λ (x : Seating). IsSeatOf v x) (sym ps) h)

pub comes : (l : Lock Limits) (c : ℕ) (born : List Call) (p : Passing) → IsSeatOf (shared l) (seated c born p) → ComesFrom l p
comes l c born p h = (h.home, h.limits)

pub its_caller : (l : Lock Limits) (c : ℕ) (born : List Call) (p : Passing) → IsSeatOf (shared l) (seated c born p) → IsSeated c born p → IsCaller l.fixed c
its_caller l c born p h s = h.callers c (number_same c c born p ∙ s.own)

-- and so does one that has no other numbers
pub seat_of : (l : Lock Limits) (c d : ℕ) (born other : List Call) (p r : Passing) → IsSeatOf (shared l) (seated c born p) → ComesFrom l r
    → ((n : ℕ) → lock.has_number n r ≡ true → lock.has_number n p ≡ true) → IsSeatOf (shared l) (seated d other r)
seat_of l c d born other p r h own fewer = record {
  home = own.0;
  limits = own.1;
  callers = λ n there. h.callers n (number_same n c born p ∙ fewer n (sym (number_same n d other r) ∙ there));
}

-- what is said of the lock's kernel and pass is said of the shared one and the seat
pub of_seat : (l : Lock Limits) (v : Sharing) (s : Seating) → shared l ≡ v → IsSeatOf (shared l) s → IsSeatOf v s
of_seat l v s lv h = subst (λ (x : Sharing). IsSeatOf x s) lv h

-- ---- a call

-- what a call that ended leaves known
known_end : (limits : Limits) (c : ℕ) (p r t : Passing) (n : ℕ) → n ≢ c → TookTurn limits c p r → TookTurn limits c r t → known_part n t ≡ known_part n p
known_end limits c p r t n apart a b = b.others n apart ∙ a.others n apart

-- a call that was begun in one turn and ended in others
pub record Runs (limits : Limits) (c : ℕ) (p r t : Passing) (call : Call) (reply : Reply) : Type 0 where
  pub first : TookTurn limits c p r
  pub begun : (calls : List Call) → IsResting c p calls → IsCalling c r calls call
  pub rest : TookTurn limits c r t
  pub ended : (calls : List Call) (k : Call) → IsCalling c r calls k → EndsTurn c calls k reply t

more_calls : (n : ℕ) (xs ys : List Call) → n ≤ length xs → drop n (xs ++ ys) ≡ drop n xs ++ ys
more_calls zero xs ys h = refl
more_calls (suc n) [] ys h = absurd (omega arith)
more_calls (suc n) (x ∷ xs) ys h = more_calls n xs ys (omega arith)

whole_calls : (n : ℕ) (xs : List Call) → n ≤ length xs → length xs ≡ n + length (drop n xs)
whole_calls zero xs h = omega arith
whole_calls (suc n) [] h = absurd (omega arith)
whole_calls (suc n) (x ∷ xs) h = let rest = whole_calls n xs (omega arith) in omega arith

pub called : (limits : Limits) (c : ℕ) (born : List Call) (p r t : Passing) (call : Call) (reply : Reply) → IsSeated c born p → Runs limits c p r t call reply
    → Called limits (seated c born p) (seated c born t) call reply
called limits c born p r t call reply s run =
    let was = resting c born p s in
    let calls : List Call = was.0 in
    let end = run.ended calls call (run.begun calls was.1) in
    let known : ◌≡◌ {A = Part} (calls ++ call ∷ [], None) (calls_of c t.seen, get run.rest.pending c) = run.rest.known c (calls ++ call ∷ [], None) end.rests in
    let low : length born ≤ length calls = born_within c born calls None p s was.1 in
    let now : own_calls (seated c born t) ≡ calls ++ call ∷ [] = own_known c born (calls ++ call ∷ []) None t end.rests in
    let old : own_calls (seated c born p) ≡ calls = own_known c born calls None p was.1 in
    let more : length (calls ++ call ∷ []) ≡ length calls + 1 = length-append calls (call ∷ []) in
    record {
      pending = run.rest.pending;
      legal = run.rest.legal;
      idle = sym (ap (λ (q : Part). q.1) known);
      later = extends_more p.seen r.seen t.seen run.first.later run.rest.later;
      more = end.more;
      last = end.last;
      calls = ap calls_in end.rests ∙ ap (λ (q : Part). Some q.0) known;
      one = ap calls_in end.rests ∙ ap (λ (k : List Call). Some (k ++ call ∷ [])) (sym old);
      mine_one = ap (drop (length born)) now ∙ more_calls (length born) calls (call ∷ []) low ∙ ap (λ (k : List Call). drop (length born) k ++ call ∷ []) (sym old);
      since = ap length (sym (ap (λ (q : Part). q.0) known)) ∙ whole_calls (length born) (calls ++ call ∷ []) (omega arith) ∙ ap (λ (k : List Call). length born + length (drop (length born) k)) (sym now);
      others = λ n apart. ap calls_in (known_end limits c p r t n apart run.first run.rest);
    }

pub called_seated : (limits : Limits) (c : ℕ) (born : List Call) (p r t : Passing) (call : Call) (reply : Reply) → IsSeated c born p → t.held ≡ None → Runs limits c p r t call reply → IsSeated c born t
called_seated limits c born p r t call reply s rests run =
    let was = resting c born p s in
    let calls : List Call = was.0 in
    let end = run.ended calls call (run.begun calls was.1) in
    let low : length born ≤ length calls = born_within c born calls None p s was.1 in
    let more : length (calls ++ call ∷ []) ≡ length calls + 1 = length-append calls (call ∷ []) in
    record {
      rests = rests;
      own = ap is_some end.rests;
      idle = λ n q is. by_number n c (q.1 ≡ None)
          (λ e. ap (λ (x : Part). x.1) (same_Some q (calls ++ call ∷ [], None) (sym is ∙ ap (λ k. known_part k t) e ∙ end.rests)))
          (λ apart. s.idle n q (sym (known_end limits c p r t n apart run.first run.rest) ∙ is));
      since = subst (λ (k : List Call). length born ≤ length k) (sym (own_known c born (calls ++ call ∷ []) None t end.rests)) (omega arith);
    }

-- all is known as before
pub all_same : (limits : Limits) (c : ℕ) (p r : Passing) → TookTurn limits c p r → known_part c r ≡ known_part c p → (n : ℕ) → known_part n r ≡ known_part n p
all_same limits c p r took same n = by_number n c (known_part n r ≡ known_part n p) (λ e. ap (λ k. known_part k r) e ∙ same ∙ ap (λ k. known_part k p) (sym e)) (took.others n)

-- a seat whose call came back knows the same as before
pub same_numbers : (limits : Limits) (c : ℕ) (p r : Passing) → TookTurn limits c p r → known_part c r ≡ known_part c p → (n : ℕ) → lock.has_number n r ≡ true → lock.has_number n p ≡ true
same_numbers limits c p r took same n there = ap is_some (sym (all_same limits c p r took same n)) ∙ there

pub called_numbers : (limits : Limits) (c : ℕ) (born : List Call) (p r t : Passing) (call : Call) (reply : Reply) → IsSeated c born p → Runs limits c p r t call reply
    → (n : ℕ) → lock.has_number n t ≡ true → lock.has_number n p ≡ true
called_numbers limits c born p r t call reply s run n there =
    by_number n c (lock.has_number n p ≡ true) (λ e. ap (λ k. lock.has_number k p) e ∙ s.own) (λ apart. ap is_some (sym (known_end limits c p r t n apart run.first run.rest)) ∙ there)

pub came_back : (limits : Limits) (c : ℕ) (born : List Call) (p r : Passing) → IsSeated c born p → TookTurn limits c p r → known_part c r ≡ known_part c p
    → CameBack limits (seated c born p) (seated c born r)
came_back limits c born p r s took same =
    let was = resting c born p s in
    let known : ◌≡◌ {A = Part} (was.0, None) (calls_of c r.seen, get took.pending c) = took.known c (was.0, None) (same ∙ was.1) in
    let low : length born ≤ length was.0 = born_within c born was.0 None p s was.1 in
    let now : own_calls (seated c born r) ≡ was.0 = own_known c born was.0 None r (same ∙ was.1) in
    record {
      pending = took.pending;
      legal = took.legal;
      idle = sym (ap (λ (q : Part). q.1) known);
      later = took.later;
      calls = ap calls_in (same ∙ was.1) ∙ ap (λ (q : Part). Some q.0) known;
      made_same = λ n. ap calls_in (all_same limits c p r took same n);
      mine_same = ap (λ o. drop (length born) (unwrap_or (calls_in o) [])) same;
      since = ap length (sym (ap (λ (q : Part). q.0) known)) ∙ whole_calls (length born) was.0 low ∙ ap (λ (k : List Call). length born + length (drop (length born) k)) (sym now);
    }

-- ---- a seat has the numbers that it had

pub numbers_end : (limits : Limits) (c : ℕ) (born : List Call) (p r t : Passing) (call : Call) (reply : Reply) → IsSeated c born p → Runs limits c p r t call reply
    → (n : ℕ) → has_number n (seated c born t) ≡ has_number n (seated c born p)
numbers_end limits c born p r t call reply s run n =
    let was = resting c born p s in
    let end = run.ended was.0 call (run.begun was.0 was.1) in
    by_number n c (has_number n (seated c born t) ≡ has_number n (seated c born p))
    (λ e. ap (λ k. has_number k (seated c born t)) e ∙ ap (λ o. is_some (calls_in o)) end.rests ∙ ap (λ o. is_some (calls_in o)) (sym was.1) ∙ ap (λ k. has_number k (seated c born p)) (sym e))
    (λ apart. ap (λ o. is_some (calls_in o)) (known_end limits c p r t n apart run.first run.rest))

pub numbers_back : (limits : Limits) (c : ℕ) (born : List Call) (p r : Passing) → TookTurn limits c p r → known_part c r ≡ known_part c p → (n : ℕ) → has_number n (seated c born r) ≡ has_number n (seated c born p)
numbers_back limits c born p r took same n = ap (λ o. is_some (calls_in o)) (all_same limits c p r took same n)

-- where one seat has one of two callers and another the other, together they have all
pub two_numbers : (limits : Limits) (a b r : Seating) → limits.callers ≡ 2 → has_number 1 a ≡ true → has_number 2 b ≡ true → ((n : ℕ) → made n r ≡ option_or (made n a) (made n b))
    → (n : ℕ) → IsCaller limits n → has_number n r ≡ true
two_numbers limits a b r two first second parts n caller =
    let high : n ≤ 2 = subst (λ k. n ≤ k) two caller.last in
    let low = caller.first in
    by_number n 1 (has_number n r ≡ true)
    (λ e. ap is_some (parts n) ∙ ap (λ k. is_some (option_or (made k a) (made k b))) e ∙ ap is_some (first_there (made 1 a) (made 1 b) first) ∙ first)
    (λ apart.
    let is : n ≡ 2 = omega (arith, apart) in
    ap is_some (parts n) ∙ ap (λ k. is_some (option_or (made k a) (made k b))) is ∙ second_there (made 2 a) (made 2 b) second)

-- ---- a number is cut off

cut_off : {X : Type 0} (n k : ℕ) (x y : X) → n ≢ k → cond (nat_eq n k) x y ≡ y
cut_off n k x y apart = ap (λ b. cond b x y) (ne_eqb n k apart)

cut_at : {X : Type 0} (n : ℕ) (x y : X) → cond (nat_eq n n) x y ≡ x
cut_at n x y = ap (λ b. cond b x y) (eq-eqb n n refl)

-- what is there of a number that was cut off, or kept
there_of : {X : Type 0} (b : Bool) (o : Option X) (q : X) → cond b None o ≡ Some q → o ≡ Some q
there_of true o q e = cc
there_of false o q e = e

there_in : {X : Type 0} (b : Bool) (o : Option X) (q : X) → cond b o None ≡ Some q → o ≡ Some q
there_in true o q e = e
there_in false o q e = cc

pub kept_seated : (c k : ℕ) (born : List Call) (p r : Passing) → IsSeated c born p → k ≢ c → r.held ≡ None → ((n : ℕ) → known_part n r ≡ cond (nat_eq n k) None (known_part n p)) → IsSeated c born r
kept_seated c k born p r s another rests kept =
    let same : known_part c r ≡ known_part c p = kept c ∙ cut_off c k None (known_part c p) (λ e. another (sym e)) in
    record {
      rests = rests;
      own = ap is_some same ∙ s.own;
      idle = λ n q is. s.idle n q (there_of (nat_eq n k) (known_part n p) q (sym (kept n) ∙ is));
      since = subst (λ (o : Option Part). length born ≤ length (unwrap_or (option_map (λ (q : Part). q.0) o) [])) (sym same) s.since;
    }

pub kept_mine : (c k : ℕ) (born : List Call) (p r : Passing) → k ≢ c → ((n : ℕ) → known_part n r ≡ cond (nat_eq n k) None (known_part n p)) → mine (seated c born r) ≡ mine (seated c born p)
kept_mine c k born p r another kept = ap (λ o. drop (length born) (unwrap_or (calls_in o) [])) (kept c ∙ cut_off c k None (known_part c p) (λ e. another (sym e)))

at_least : (n : ℕ) → n ≤ n
at_least n = omega arith

pub given_seated : (c k : ℕ) (born : List Call) (p r : Passing) → IsSeated c born p → lock.has_number k p ≡ true → r.held ≡ None
    → ((n : ℕ) → known_part n r ≡ cond (nat_eq n k) (known_part n p) None) → IsSeated k (known_calls k r) r
given_seated c k born p r s has rests given = record {
  rests = rests;
  own = ap is_some (given k ∙ cut_at k (known_part k p) None) ∙ has;
  idle = λ n q is. s.idle n q (there_in (nat_eq n k) (known_part n p) q (sym (given n) ∙ is));
  since = at_least (length (known_calls k r));
}

none_left : (xs : List Call) → drop (length xs) xs ≡ []
none_left [] = refl
none_left (x ∷ xs) = none_left xs

-- a seat has made nothing when it is made
pub born_mine : (c : ℕ) (born : List Call) (p : Passing) → born ≡ known_calls c p → mine (seated c born p) ≡ []
born_mine c born p e = ap (λ (k : List Call). drop (length k) (known_calls c p)) e ∙ none_left (known_calls c p)

pub fewer_kept : (k : ℕ) (p r : Passing) → ((n : ℕ) → known_part n r ≡ cond (nat_eq n k) None (known_part n p)) → (n : ℕ) → lock.has_number n r ≡ true → lock.has_number n p ≡ true
fewer_kept k p r kept n there = let q = some_there (known_part n r) there in ap is_some (there_of (nat_eq n k) (known_part n p) q.0 (sym (kept n) ∙ q.1))

pub fewer_given : (k : ℕ) (p r : Passing) → ((n : ℕ) → known_part n r ≡ cond (nat_eq n k) (known_part n p) None) → (n : ℕ) → lock.has_number n r ≡ true → lock.has_number n p ≡ true
fewer_given k p r given n there = let q = some_there (known_part n r) there in ap is_some (there_in (nat_eq n k) (known_part n p) q.0 (sym (given n) ∙ q.1))

calls_cut : (b : Bool) (x y : Option Part) → calls_in (cond b x y) ≡ cond b (calls_in x) (calls_in y)
calls_cut true x y = refl
calls_cut false x y = refl

pub made_kept : (k : ℕ) (p r : Passing) → ((n : ℕ) → known_part n r ≡ cond (nat_eq n k) None (known_part n p)) → (n : ℕ) → calls_in (known_part n r) ≡ cond (nat_eq n k) None (calls_in (known_part n p))
made_kept k p r kept n = ap calls_in (kept n) ∙ calls_cut (nat_eq n k) None (known_part n p)

pub made_given : (k : ℕ) (p r : Passing) → ((n : ℕ) → known_part n r ≡ cond (nat_eq n k) (known_part n p) None) → (n : ℕ) → calls_in (known_part n r) ≡ cond (nat_eq n k) (calls_in (known_part n p)) None
made_given k p r given n = ap calls_in (given n) ∙ calls_cut (nat_eq n k) (known_part n p) None

-- ---- numbers are taken in

abbrev pub Joins : Passing → Passing → Passing → Type 0
Joins p o r = (n : ℕ) → known_part n r ≡ option_or (known_part n p) (known_part n o)

of_either : {X : Type 0} (a b : Option X) (q : X) (P : Type 0) → option_or a b ≡ Some q → (a ≡ Some q → P) → (b ≡ Some q → P) → P
of_either None b q P e f g = g e
of_either (Some x) b q P e f g = f e

pub joined_own : (c : ℕ) (born : List Call) (p o r : Passing) → IsSeated c born p → Joins p o r → known_part c r ≡ known_part c p
joined_own c born p o r s parts = parts c ∙ first_there (known_part c p) (known_part c o) s.own

pub joined_seated : (c d : ℕ) (born other : List Call) (p o r : Passing) → IsSeated c born p → IsSeated d other o → r.held ≡ None → Joins p o r → IsSeated c born r
joined_seated c d born other p o r s t rests parts =
    let same = joined_own c born p o r s parts in
    record {
      rests = rests;
      own = ap is_some same ∙ s.own;
      idle = λ n q is. of_either (known_part n p) (known_part n o) q (q.1 ≡ None) (sym (parts n) ∙ is) (s.idle n q) (t.idle n q);
      since = subst (λ (x : Option Part). length born ≤ length (unwrap_or (option_map (λ (q : Part). q.0) x) [])) (sym same) s.since;
    }

pub joined_mine : (c : ℕ) (born : List Call) (p o r : Passing) → IsSeated c born p → Joins p o r → mine (seated c born r) ≡ mine (seated c born p)
joined_mine c born p o r s parts = ap (λ x. drop (length born) (unwrap_or (calls_in x) [])) (joined_own c born p o r s parts)

calls_or : (a b : Option Part) → calls_in (option_or a b) ≡ option_or (calls_in a) (calls_in b)
calls_or None b = refl
calls_or (Some x) b = refl

pub made_joined : (p o r : Passing) → Joins p o r → (n : ℕ) → calls_in (known_part n r) ≡ option_or (calls_in (known_part n p)) (calls_in (known_part n o))
made_joined p o r parts n = ap calls_in (parts n) ∙ calls_or (known_part n p) (known_part n o)

pub joined_of : (l : Lock Limits) (c d : ℕ) (born other : List Call) (p o r : Passing) → IsSeatOf (shared l) (seated c born p) → IsSeatOf (shared l) (seated d other o) → ComesFrom l r → Joins p o r
    → IsSeatOf (shared l) (seated c born r)
joined_of l c d born other p o r h k own parts = record {
  home = own.0;
  limits = own.1;
  callers = λ n there.
      let q = some_there (known_part n r) (sym (number_same n c born r) ∙ there) in
      of_either (known_part n p) (known_part n o) q.0 (IsCaller l.fixed n) (sym (parts n) ∙ q.1)
      (λ e. h.callers n (number_same n c born p ∙ ap is_some e))
      (λ e. k.callers n (number_same n d other o ∙ ap is_some e));
}

-- ---- the first seat

pub first_seated : (born : List Call) (p : Passing) (kern : Kernel) → born ≡ known_calls 1 p → p.held ≡ None → kern.pending ≡ empty → 1 ≤ kern.limits.callers
    → ((n : ℕ) → 1 ≤ n → n ≤ kern.limits.callers → known_part n p ≡ Some (part_of kern n))
    → ((n : ℕ) → lock.has_number n p ≡ true → (1 ≤ n) × (n ≤ kern.limits.callers))
    → IsSeated 1 born p
first_seated born p kern b rests idle some parts numbers = record {
  rests = rests;
  own = ap is_some (parts 1 (at_least 1) some);
  idle = λ n q is.
      let within = numbers n (ap is_some is) in
      ap (λ (x : Part). x.1) (same_Some q (part_of kern n) (sym is ∙ parts n within.0 within.1)) ∙ ap (λ m. get m n) idle ∙ get-empty nat_cmp n;
  since = subst (λ (k : List Call). length k ≤ length (known_calls 1 p)) (sym b) (at_least (length (known_calls 1 p)));
}

-- ---- the end

nowhere : (limits : Limits) (m : Pending) (n : ℕ) (o : Option Call) → ((k : ℕ) → IsSome (get m k) → IsCaller limits k) → ((k : ℕ) → IsCaller limits k → get m k ≡ None) → get m n ≡ o → get m n ≡ None
nowhere limits m n None within idle is = is
nowhere limits m n (Some k) within idle is = idle n (within n (ap is_some is))

-- where no caller has a live call, none is live
pub none_live : (limits : Limits) (m : Pending) → ((n : ℕ) → IsSome (get m n) → IsCaller limits n) → ((n : ℕ) → IsCaller limits n → get m n ≡ None) → m ≡ empty
none_live limits m within idle = same_map nat_cmp_total nat_cmp-IsAntisymmetric m empty (λ n. nowhere limits m n (get m n) within idle refl ∙ sym (get-empty nat_cmp n))

-- what a seat that has all numbers knows of the kernel
pub knows_all : (c : ℕ) (born : List Call) (p : Passing) (kern : Kernel) (n : ℕ) → IsSeated c born p → has_number n (seated c born p) ≡ true
    → ((k : ℕ) (q : Part) → known_part k p ≡ Some q → part_of kern k ≡ q) → (made n (seated c born p) ≡ Some (calls_of n kern.history)) × (get kern.pending n ≡ None)
knows_all c born p kern n s has known =
    let q = some_there (known_part n p) (sym (number_same n c born p) ∙ has) in
    let its : part_of kern n ≡ q.0 = known n q.0 q.1 in
    (ap calls_in q.1 ∙ ap (λ (x : Part). Some x.0) (sym its), ap (λ (x : Part). x.1) its ∙ s.idle n q.0 q.1)
