-- The calls of a script by caller, and what is left of them as lines.
use Rattle.std.proofs.Common.{◌≡◌, ◌≢◌, ℕ, zero, suc, ◌+◌, ◌-◌, ◌<◌, ◌≤◌, ◌==◌, true, false, cond, List, [], ◌∷◌, ◌++◌, map, length, get_or, set, refl, sym, ap, subst, ◌∙◌, arith, inl, inr, append_assoc, append-nil}
use Rattle.std.specs.Prelude.{Result, Ok, Err, IfOk}
use Rattle.std.specs.List.{AllByRecursion}
use Rattle.std.specs.FinMap.{empty}
use Rattle.std.proofs.lemmas.Bool.{cases_lt}
use Rattle.std.proofs.lemmas.Bool.Decides.{eqb_tells}
use Rattle.std.proofs.lemmas.List.{get_or-set_same, get_or-set_other, get_or_at, get_or_append_left, get_or-append_right, length-append, length-set}
use Rattle.vfs_tree.specs.Limits.{IsCaller}
use Rattle.vfs_tree.specs.declared.limits.Limits.{Limits}
use Rattle.call_model.specs.Legal.{calls_of, calls_in}
use Rattle.call_model.specs.declared.call.Call.{Call}
use Rattle.call_model.specs.declared.call.Line.{Line}
use Rattle.script_text.specs.Fits.{FitsLine}
use Rattle.script_text.specs.Script.{HasText}
use Rattle.script_text.specs.declared.script.Script.{Script}
use Rattle.vfs_core.specs.Kernel.{Kernel}
use Rattle.vfs_core.specs.Turning.{FitsJob, calls_with}
use Rattle.vfs_core.specs.Work.{Work}
use Rattle.vfs_cli.specs.Output.{IsAhead}
use Rattle.vfs_cli.specs.Workers.{IsUpTo, plan_at, ArePlans, line_of}

-- ---- callers

by_up : (P : Type 0) (n c : ℕ) → (IsUpTo n c → P) → ((IsUpTo n c → ⊥) → P) → P
by_up P n c its other =
    elim (cases_lt 0 c) [
      | inl some ↦ elim (cases_lt n c) [
        | inl above ↦ other (λ up. let l = up.last in omega arith)
        | inr within ↦ its (record { first = omega arith; last = within })
      ]
      | inr none ↦ other (λ up. let f = up.first in omega arith)
    ]

pub up_caller : (limits : Limits) (n c : ℕ) → n ≡ limits.callers → IsUpTo n c → IsCaller limits c
up_caller limits n c is up = record { first = up.first; last = subst (λ (k : ℕ). c ≤ k) is up.last }

pub caller_up : (limits : Limits) (n c : ℕ) → n ≡ limits.callers → IsCaller limits c → IsUpTo n c
caller_up limits n c is caller = record { first = caller.first; last = subst (λ (k : ℕ). c ≤ k) (sym is) caller.last }

-- ---- lines

calls_append : (c : ℕ) (xs ys : List Line) → calls_in c (xs ++ ys) ≡ calls_in c xs ++ calls_in c ys
calls_append c [] ys = refl
calls_append c (x ∷ xs) ys =
    elim (c == x.caller) as (λ b. cond b (x.call ∷ calls_in c (xs ++ ys)) (calls_in c (xs ++ ys)) ≡ cond b (x.call ∷ calls_in c xs) (calls_in c xs) ++ calls_in c ys) [
      | true ↦ ap (λ (t : List Call). x.call ∷ t) (calls_append c xs ys)
      | false ↦ calls_append c xs ys
    ]

-- who is no caller of the lines has no calls among them
none_in : (n c : ℕ) (lines : List Line) → AllByRecursion (λ (l : Line). IsUpTo n l.caller) lines → (IsUpTo n c → ⊥) → calls_in c lines ≡ []
none_in n c [] all other = refl
none_in n c (l ∷ lines) all other =
    let apart : (c == l.caller) ≡ false = elim (eqb_tells c l.caller) [ inl e ↦ absurd (other (subst (IsUpTo n) (sym e.1) all.0)) | inr e ↦ e.0 ] in
    ap (λ b. cond b (l.call ∷ calls_in c lines) (calls_in c lines)) apart ∙ none_in n c lines all.1 other

own_lines : (c : ℕ) (calls : List Call) → calls_in c (map (line_of c) calls) ≡ calls
own_lines c [] = refl
own_lines c (call ∷ calls) =
    let same : (c == c) ≡ true = elim (eqb_tells c c) [ inl e ↦ e.0 | inr e ↦ absurd (e.1 refl) ] in
    ap (λ b. cond b (call ∷ calls_in c (map (line_of c) calls)) (calls_in c (map (line_of c) calls))) same ∙ ap (λ (t : List Call). call ∷ t) (own_lines c calls)

-- the lines of another caller
others : (c k : ℕ) (calls : List Call) → (c == k) ≡ false → calls_in c (map (line_of k) calls) ≡ []
others c k [] apart = refl
others c k (call ∷ calls) apart = ap (λ b. cond b (call ∷ calls_in c (map (line_of k) calls)) (calls_in c (map (line_of k) calls))) apart ∙ others c k calls apart

lines_up : (n k : ℕ) (calls : List Call) → IsUpTo n k → AllByRecursion (λ (l : Line). IsUpTo n l.caller) (map (line_of k) calls)
lines_up n k [] up = tt
lines_up n k (call ∷ calls) up = (up, lines_up n k calls up)

all_append : {X : Type 0} (P : X → Type 0) (xs ys : List X) → AllByRecursion P xs → AllByRecursion P ys → AllByRecursion P (xs ++ ys)
all_append P [] ys h more = more
all_append P (x ∷ xs) ys h more = (h.0, all_append P xs ys h.1 more)

all_mapped : {X : Type 0} (P Q : X → Type 0) (xs : List X) → ((x : X) → P x → Q x) → AllByRecursion P xs → AllByRecursion Q xs
all_mapped P Q [] f h = tt
all_mapped P Q (x ∷ xs) f h = (f x h.0, all_mapped P Q xs f h.1)

-- ---- plans without calls

one_none : (k : ℕ) → get_or {A = List Call} ([] ∷ []) k [] ≡ []
one_none zero = refl
one_none (suc k) = refl

pub none_more : (plans plans' : List (List Call)) (plan : List Call) → ((c : ℕ) → plan_at plans c ≡ []) → plan ≡ [] → plans' ≡ plans ++ plan ∷ [] → (c : ℕ) → plan_at plans' c ≡ []
none_more plans plans' plan none empty put c =
    let same : plans' ≡ plans ++ [] ∷ [] = put ∙ ap (λ (p : List Call). plans ++ p ∷ []) empty in
    ap (λ (ps : List (List Call)). plan_at ps c) same
    ∙ elim (cases_lt (c - 1) (length plans)) [
      | inl low ↦ get_or_append_left plans ([] ∷ []) [] (c - 1) low ∙ none c
      | inr high ↦ get_or-append_right plans ([] ∷ []) (length plans) (c - 1) [] refl high ∙ one_none (c - 1 - length plans)
    ]

pub no_items : {X : Type 0} (xs : List X) → length xs ≡ 0 → xs ≡ []
no_items [] e = refl
no_items (x ∷ xs) e = absurd (omega (arith, e))

-- ---- the calls of the lines are dealt out

-- with these lines left of all, each caller's plan has its calls of the lines before
pub record IsDealt (n : ℕ) (plans : List (List Call)) (lines rest : List Line) : Type 0 where
  pub count : length plans ≡ n
  pub calls : (c : ℕ) → IsUpTo n c → plan_at plans c ++ calls_in c rest ≡ calls_in c lines
  pub fits : AllByRecursion (FitsLine n) rest

pub dealt_start : (n : ℕ) (plans : List (List Call)) (lines rest : List Line) → length plans ≡ n → ((c : ℕ) → plan_at plans c ≡ []) → rest ≡ lines → AllByRecursion (FitsLine n) lines → IsDealt n plans lines rest
dealt_start n plans lines rest count none all fits = record {
  count = count;
  calls = λ c up. ap (λ (t : List Call). t ++ calls_in c rest) (none c) ∙ ap (calls_in c) all;
  fits = subst (λ (x : List Line). AllByRecursion (FitsLine n) x) (sym all) fits;
}

-- the caller of the next line has a plan
pub dealt_has : (n : ℕ) (plans : List (List Call)) (lines rest rest' : List Line) (k : ℕ) (call : Call) → IsDealt n plans lines rest → rest ≡ line_of k call ∷ rest' → IsUpTo (length plans) k
dealt_has n plans lines rest rest' k call dealt is =
    let fits : AllByRecursion (FitsLine n) (line_of k call ∷ rest') = subst (λ (x : List Line). AllByRecursion (FitsLine n) x) is dealt.fits in
    record { first = fits.0.first; last = subst (λ (m : ℕ). k ≤ m) (sym dealt.count) fits.0.last }

dealt_at : (plans : List (List Call)) (k c : ℕ) (call : Call) (rest : List Line) → IsUpTo (length plans) k → IsUpTo (length plans) c
    → plan_at (set plans (k - 1) (plan_at plans k ++ call ∷ [])) c ++ calls_in c rest ≡ plan_at plans c ++ calls_in c (line_of k call ∷ rest)
dealt_at plans k c call rest up up' =
    let a = up.first in
    let b = up.last in
    let a' = up'.first in
    let low : k - 1 < length plans = omega arith in
    elim (eqb_tells c k) [
      | inl e ↦
          let at : plan_at (set plans (k - 1) (plan_at plans k ++ call ∷ [])) c ≡ plan_at plans c ++ call ∷ [] =
          ap (λ (m : ℕ). plan_at (set plans (k - 1) (plan_at plans k ++ call ∷ [])) m) e.1 ∙ get_or-set_same plans (k - 1) (plan_at plans k ++ call ∷ []) [] low ∙ ap (λ (m : ℕ). plan_at plans m ++ call ∷ []) (sym e.1)
          in
          ap (λ (t : List Call). t ++ calls_in c rest) at ∙ append_assoc (plan_at plans c) (call ∷ []) (calls_in c rest)
          ∙ ap (λ t. plan_at plans c ++ cond t (call ∷ calls_in c rest) (calls_in c rest)) (sym e.0)
      | inr e ↦
          let ne : (c - 1) ≢ (k - 1) = λ same. e.1 (omega arith) in
          ap (λ (t : List Call). t ++ calls_in c rest) (get_or-set_other plans (k - 1) (c - 1) (plan_at plans k ++ call ∷ []) [] ne)
          ∙ ap (λ t. plan_at plans c ++ cond t (call ∷ calls_in c rest) (calls_in c rest)) (sym e.0)
    ]

pub dealt_next : (n : ℕ) (plans plans' : List (List Call)) (lines rest rest' : List Line) (k : ℕ) (call : Call) → IsDealt n plans lines rest → rest ≡ line_of k call ∷ rest'
    → plans' ≡ set plans (k - 1) (plan_at plans k ++ call ∷ []) → IsDealt n plans' lines rest'
dealt_next n plans plans' lines rest rest' k call dealt is put =
    let fits : AllByRecursion (FitsLine n) (line_of k call ∷ rest') = subst (λ (x : List Line). AllByRecursion (FitsLine n) x) is dealt.fits in
    let has = dealt_has n plans lines rest rest' k call dealt is in
    record {
      count = ap length put ∙ length-set plans (k - 1) (plan_at plans k ++ call ∷ []) ∙ dealt.count;
      calls = λ c up.
          ap (λ (ps : List (List Call)). plan_at ps c ++ calls_in c rest') put
          ∙ dealt_at plans k c call rest' has (subst (λ (m : ℕ). IsUpTo m c) (sym dealt.count) up)
          ∙ ap (λ (x : List Line). plan_at plans c ++ calls_in c x) (sym is) ∙ dealt.calls c up;
      fits = fits.1;
    }

pub dealt_all : (n : ℕ) (plans : List (List Call)) (lines rest : List Line) → IsDealt n plans lines rest → rest ≡ [] → ArePlans n lines plans
dealt_all n plans lines rest dealt none = record {
  count = dealt.count;
  calls = λ c up. sym (append-nil (plan_at plans c)) ∙ ap (λ (x : List Line). plan_at plans c ++ calls_in c x) (sym none) ∙ dealt.calls c up;
}

-- ---- what is left is listed

-- the plans of the callers up to n are listed as lines, and these are the plans after them
pub record IsListed (plans rest : List (List Call)) (n : ℕ) (lines : List Line) : Type 0 where
  pub front : List (List Call)
  pub whole : plans ≡ front ++ rest
  pub long : length front ≡ n
  pub count : n + length rest ≡ length plans
  pub calls : (c : ℕ) → IsUpTo n c → calls_in c lines ≡ plan_at plans c
  pub callers : AllByRecursion (λ (l : Line). IsUpTo n l.caller) lines

pub listed_start : (plans rest : List (List Call)) (lines : List Line) → rest ≡ plans → lines ≡ [] → IsListed plans rest 0 lines
listed_start plans rest lines all none = record {
  front = [];
  whole = sym all;
  long = refl;
  count = let same : length rest ≡ length plans = ap length all in omega arith;
  calls = λ c up. let a = up.first in let b = up.last in absurd (omega arith);
  callers = subst (λ (x : List Line). AllByRecursion (λ (l : Line). IsUpTo 0 l.caller) x) (sym none) tt;
}

pub listed_next : (plans rest rest' : List (List Call)) (n m : ℕ) (lines lines' : List Line) (plan : List Call) → IsListed plans rest n lines → rest ≡ plan ∷ rest' → n + 1 ≡ m
    → lines' ≡ lines ++ map (line_of m) plan → IsListed plans rest' m lines'
listed_next plans rest rest' n m lines lines' plan was is next put =
    let whole : plans ≡ was.front ++ (plan ∷ rest') = was.whole ∙ ap (λ (ps : List (List Call)). was.front ++ ps) is in
    let long = was.long in
    let count = was.count in
    let size : length rest ≡ suc (length rest') = ap length is in
    let here : (c : ℕ) → calls_in c lines' ≡ calls_in c lines ++ calls_in c (map (line_of m) plan) = λ c. ap (calls_in c) put ∙ calls_append c lines (map (line_of m) plan) in
    let up : IsUpTo m m = record { first = omega arith; last = omega arith } in
    record {
      front = was.front ++ plan ∷ [];
      whole = whole ∙ sym (append_assoc was.front (plan ∷ []) rest');
      long = length-append was.front (plan ∷ []) ∙ omega arith;
      count = omega arith;
      calls = λ c u.
          elim (eqb_tells c m) [
            | inl e ↦
                let none : calls_in c lines ≡ [] = none_in n c lines was.callers (λ v. let l = v.last in let e1 = e.1 in omega arith) in
                let at : length was.front ≡ c - 1 = let e1 = e.1 in omega arith in
                here c ∙ ap (λ (t : List Call). t ++ calls_in c (map (line_of m) plan)) none
                ∙ ap (λ (k : ℕ). calls_in k (map (line_of m) plan)) e.1 ∙ own_lines m plan
                ∙ sym (ap (λ (ps : List (List Call)). get_or ps (c - 1) []) whole ∙ get_or_at was.front plan rest' [] (c - 1) at)
            | inr e ↦
                let l = u.last in
                let v : IsUpTo n c = record { first = u.first; last = let ne = e.1 in omega arith } in
                let none : calls_in c (map (line_of m) plan) ≡ [] = others c m plan e.0 in
                here c ∙ ap (λ (t : List Call). calls_in c lines ++ t) none ∙ append-nil (calls_in c lines) ∙ was.calls c v
          ];
      callers = subst (λ (x : List Line). AllByRecursion (λ (l : Line). IsUpTo m l.caller) x) (sym put)
          (all_append (λ (l : Line). IsUpTo m l.caller) lines (map (line_of m) plan)
          (all_mapped (λ (l : Line). IsUpTo n l.caller) (λ (l : Line). IsUpTo m l.caller) lines (λ l v. record { first = v.first; last = let b = v.last in omega arith }) was.callers)
          (lines_up m m plan up));
    }

pub listed_all : (plans rest : List (List Call)) (n : ℕ) (lines : List Line) → IsListed plans rest n lines → rest ≡ [] → n ≡ length plans
listed_all plans rest n lines was none =
    let size : length rest ≡ 0 = ap length none in
    let count = was.count in
    omega arith

-- the lines of a plan that are still to be listed
pub listing_next : (k : ℕ) (before lines lines' : List Line) (all plan plan' : List Call) (call : Call) → before ++ map (line_of k) all ≡ lines ++ map (line_of k) plan → plan ≡ call ∷ plan'
    → lines' ≡ lines ++ line_of k call ∷ [] → before ++ map (line_of k) all ≡ lines' ++ map (line_of k) plan'
listing_next k before lines lines' all plan plan' call was is put =
    was ∙ ap (λ (p : List Call). lines ++ map (line_of k) p) is ∙ sym (append_assoc lines (line_of k call ∷ []) (map (line_of k) plan'))
    ∙ ap (λ (x : List Line). x ++ map (line_of k) plan') (sym put)

-- ---- a job of what is left

-- it can be run
pub left_fits : (limits : Limits) (n : ℕ) (lines : List Line) → n ≡ limits.callers → AllByRecursion (λ (l : Line). IsUpTo n l.caller) lines → AllByRecursion (FitsJob limits) lines
left_fits limits n lines is all = all_mapped (λ (l : Line). IsUpTo n l.caller) (FitsJob limits) lines (λ l up. up_caller limits n l.caller is up) all

script_up : (n : ℕ) (lines : List Line) → AllByRecursion (FitsLine n) lines → AllByRecursion (λ (l : Line). IsUpTo n l.caller) lines
script_up n lines fits = all_mapped (FitsLine n) (λ (l : Line). IsUpTo n l.caller) lines (λ l f. record { first = f.first; last = f.last }) fits

-- each caller's calls in it, those that were made and those that are left, are its calls in the script
pub is_ahead : (script : Script) (kern : Kernel) (job : Work) (plans left : List (List Call)) (lines : List Line) → HasText script → ArePlans script.limits.callers script.lines plans → kern.limits ≡ script.limits
    → length left ≡ length plans
    → ((c : ℕ) → IsUpTo (length plans) c → calls_of c kern.history ++ plan_at left c ≡ plan_at plans c)
    → ((c : ℕ) → (IsCaller kern.limits c → ⊥) → calls_of c kern.history ≡ [])
    → ((c : ℕ) → IsUpTo (length left) c → calls_in c lines ≡ plan_at left c)
    → AllByRecursion (λ (l : Line). IsUpTo (length left) l.caller) lines
    → job.kern ≡ kern → ((c : ℕ) → calls_with job c ≡ calls_of c kern.history ++ calls_in c lines) → IsAhead script job
is_ahead script kern job plans left lines text are same count made strangers listed callers is each =
    let n = length plans in
    let all : n ≡ script.limits.callers = are.count in
    let long : n ≡ kern.limits.callers = all ∙ ap (λ (l : Limits). l.callers) (sym same) in
    record {
      limits = ap (λ (k : Kernel). k.limits) is ∙ same;
      calls = λ c.
          by_up (calls_with job c ≡ calls_in c script.lines) n c
          (λ up.
          let there : IsUpTo (length left) c = subst (λ (m : ℕ). IsUpTo m c) (sym count) up in
          each c ∙ ap (λ (t : List Call). calls_of c kern.history ++ t) (listed c there) ∙ made c up ∙ are.calls c (subst (λ (m : ℕ). IsUpTo m c) all up))
          (λ other.
          let stranger : calls_of c kern.history ≡ [] = strangers c (λ caller. other (caller_up kern.limits n c long caller)) in
          let nothing : calls_in c lines ≡ [] = none_in (length left) c lines callers (λ up. other (subst (λ (m : ℕ). IsUpTo m c) count up)) in
          let none : calls_in c script.lines ≡ [] = none_in script.limits.callers c script.lines (script_up script.limits.callers script.lines text.each) (λ up. other (subst (λ (m : ℕ). IsUpTo m c) (sym all) up)) in
          each c ∙ ap (λ (t : List Call). t ++ calls_in c lines) stranger ∙ nothing ∙ sym none);
    }

-- two facts on what an answer holds give a third
pub when_ok : {X E : Type 0} (r : Result X E) (P Q R : X → Type 0) → ((x : X) → P x → Q x → R x) → IfOk r P → IfOk r Q → IfOk r R
when_ok (Ok x) P Q R f p q = f x p q
when_ok (Err e) P Q R f p q = tt
