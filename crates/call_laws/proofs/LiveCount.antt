-- How many references are live, by the maps in which they stand.
use Rattle.std.proofs.Common.{◌≡◌, ℕ, ◌+◌, ◌≤◌, Bool, true, false, cond, not, ◌&&◌, List, [], ◌∷◌, ◌++◌, map, length, filter, refl, ap, sym, ◌∙◌, subst, arith, nat_cmp}
use Rattle.std.specs.Prelude.{Option, Some, None, IfSome, is_some, option_map}
use Rattle.std.specs.List.{AllByRecursion, fold}
use Rattle.std.specs.Cmp.{nat_cmp_total}
use Rattle.std.specs.FinMap.{FinMap, get, insert, remove, entries}
use Rattle.finite_maps.specs.Keys.{pair_cmp}
use Rattle.finite_maps.proofs.EntryLaws.{pair_total, pair_exact}
use Rattle.vfs_tree.specs.Facts.{Facts}
use Rattle.vfs_tree.specs.Views.{facts_of}
use Rattle.vfs_tree.specs.declared.open.Cwd.{Cwd}
use Rattle.vfs_tree.specs.declared.open.Open.{Open}
use Rattle.vfs_tree.specs.declared.world.World.{World}
use Rattle.call_model.specs.Refs.{Reference, references, open_references, open_reference, cwd_reference, first, first_of_two, first_case, stands_first, first_live}
use Rattle.call_laws.specs.Live.{live}
use Rattle.call_laws.specs.Fitting.{IsLive}
use Rattle.call_laws.proofs.WeightLaws.{weigh, weigh-insert, weigh-removed, all_given}

-- one for what isn't dead
abbrev pub one : Bool → ℕ
one true = 0
one false = 1

abbrev pub open_one : Open → ℕ
open_one o = one o.dead

abbrev pub cwd_one : Cwd → ℕ
cwd_one d = one d.dead

-- how many open files are live
abbrev pub live_opens : FinMap pair_cmp Open → ℕ
live_opens m = weigh open_one (entries m)

-- how many current directories are live
abbrev pub live_cwds : FinMap nat_cmp Cwd → ℕ
live_cwds m = weigh cwd_one (entries m)

pub one_most : (b : Bool) → one b ≤ 1
one_most true = omega arith
one_most false = omega arith

counted_one : (d : Bool) (x : Reference) (xs : List Reference) → length (cond (not d) (x ∷ xs) xs) ≡ one d + length xs
counted_one true x xs = omega arith
counted_one false x xs = omega arith

counted : {K X : Type 0} (f : K × X → Reference) (dead : X → Bool) → ((e : K × X) → (f e).dead ≡ dead e.1) → (es : List (K × X)) (rest : List Reference)
    → length (filter (λ (r : Reference). not r.dead) (map f es ++ rest)) ≡ weigh (λ x. one (dead x)) es + length (filter (λ (r : Reference). not r.dead) rest)
counted f dead same [] rest = omega arith
counted f dead same (e ∷ es) rest =
    let more = counted f dead same es rest in
    let here = counted_one (f e).dead (f e) (filter (λ (r : Reference). not r.dead) (map f es ++ rest)) in
    let at = ap one (same e) in
    omega arith

counted_all : {K X : Type 0} (f : K × X → Reference) (dead : X → Bool) → ((e : K × X) → (f e).dead ≡ dead e.1) → (es : List (K × X))
    → length (filter (λ (r : Reference). not r.dead) (map f es)) ≡ weigh (λ x. one (dead x)) es
counted_all f dead same [] = refl
counted_all f dead same (e ∷ es) =
    let more = counted_all f dead same es in
    let here = counted_one (f e).dead (f e) (filter (λ (r : Reference). not r.dead) (map f es)) in
    let at = ap one (same e) in
    omega arith

-- the live references are the live open files and the live current directories
pub live-parts : (w : World) → live w ≡ live_opens w.opens + live_cwds w.cwds
live-parts w =
    counted open_reference (λ o. o.dead) (λ e. refl) (entries w.opens) (map cwd_reference (entries w.cwds))
    ∙ ap (λ n. live_opens w.opens + n) (counted_all cwd_reference (λ d. d.dead) (λ e. refl) (entries w.cwds))

-- an open file more is at most one more
pub opens-insert : (m : FinMap pair_cmp Open) (k : ℕ × ℕ) (o : Open) → live_opens (insert m k o) ≤ live_opens m + 1
opens-insert m k o = let more = weigh-insert pair_cmp pair_total open_one m k o in let most = one_most o.dead in omega arith

-- a current directory that is set is at most one more
pub cwds-insert : (m : FinMap nat_cmp Cwd) (c : ℕ) (d : Cwd) → live_cwds (insert m c d) ≤ live_cwds m + 1
cwds-insert m c d = let more = weigh-insert nat_cmp nat_cmp_total cwd_one m c d in let most = one_most d.dead in omega arith

-- an open file that is closed adds none
pub opens-remove : (m : FinMap pair_cmp Open) (k : ℕ × ℕ) (o : Open) → get m k ≡ Some o → live_opens (remove m k) ≤ live_opens m
opens-remove m k o is = let less = weigh-removed pair_cmp pair_total open_one m pair_exact k o is in omega arith

-- ---- the first live reference is live

-- a reference that isn't dead is live in the world
abbrev pub Stands : World → Reference → Type 0
Stands w r = r.dead ≡ false → IsLive w r.at

live_open : (w : World) (e : (ℕ × ℕ) × Open) → get w.opens e.0 ≡ Some e.1 → Stands w (open_reference e)
live_open w e is alive = (subst (λ x. IfSome x (λ o. o.dead ≡ false)) (sym is) alive, ap is_some is)

live_cwd : (w : World) (e : ℕ × Cwd) → get w.cwds e.0 ≡ Some e.1 → Stands w (cwd_reference e)
live_cwd w e is alive = (subst (λ x. IfSome x (λ d. d.dead ≡ false)) (sym is) alive, ap is_some is)

opens_stand : (w : World) (es : List ((ℕ × ℕ) × Open)) → AllByRecursion (λ e. get w.opens e.0 ≡ Some e.1) es → AllByRecursion (Stands w) (map open_reference es)
opens_stand w [] h = tt
opens_stand w (e ∷ es) h = (live_open w e h.0, opens_stand w es h.1)

cwds_stand : (w : World) (es : List (ℕ × Cwd)) → AllByRecursion (λ e. get w.cwds e.0 ≡ Some e.1) es → AllByRecursion (Stands w) (map cwd_reference es)
cwds_stand w [] h = tt
cwds_stand w (e ∷ es) h = (live_cwd w e h.0, cwds_stand w es h.1)

all_joined : {X : Type 0} (P : X → Type 0) (xs ys : List X) → AllByRecursion P xs → AllByRecursion P ys → AllByRecursion P (xs ++ ys)
all_joined P [] ys h k = k
all_joined P (x ∷ xs) ys h k = (h.0, all_joined P xs ys h.1 k)

pub open_references_stand : (w : World) → AllByRecursion (Stands w) (open_references w)
open_references_stand w = opens_stand w (entries w.opens) (all_given pair_cmp pair_total w.opens)

pub references_stand : (w : World) → AllByRecursion (Stands w) (references w)
references_stand w =
    all_joined (Stands w) (open_references w) (map cwd_reference (entries w.cwds)) (open_references_stand w) (cwds_stand w (entries w.cwds) (all_given nat_cmp nat_cmp_total w.cwds))

alive_of : (a b : Bool) → (not a && b) ≡ true → a ≡ false
alive_of true b e = cc
alive_of false b e = refl

kept_live : (w : World) (test : Reference → Bool) (rs : List Reference) → AllByRecursion (Stands w) rs → AllByRecursion (λ r. IsLive w r.at) (filter (λ r. not r.dead && test r) rs)
kept_live w test [] h = tt
kept_live w test (r ∷ rs) h =
    let rest : AllByRecursion (λ r. IsLive w r.at) (filter (λ r. not r.dead && test r) rs) = kept_live w test rs h.1 in
    elim (not r.dead && test r) as (λ b. (not r.dead && test r) ≡ b → AllByRecursion (λ r. IsLive w r.at) (cond b (r ∷ filter (λ r. not r.dead && test r) rs) (filter (λ r. not r.dead && test r) rs))) [
      | true ↦ λ e. (h.0 (alive_of r.dead (test r) e), rest)
      | false ↦ λ e. rest
    ] refl

first_kept : (w : World) (best r : Reference) (b : Bool) → IsLive w best.at → IsLive w r.at → IfSome (first_case best r b) (λ r. IsLive w r.at)
first_kept w best r true h k = k
first_kept w best r false h k = h

step_kept : (w : World) (f : Facts) (o : Option Reference) (r : Reference) → IfSome o (λ r. IsLive w r.at) → IsLive w r.at → IfSome (first_of_two f o r) (λ r. IsLive w r.at)
step_kept w f None r h k = k
step_kept w f (Some best) r h k = first_kept w best r (stands_first f r best) h k

fold_kept : (w : World) (f : Facts) (o : Option Reference) (rs : List Reference) → IfSome o (λ r. IsLive w r.at) → AllByRecursion (λ r. IsLive w r.at) rs → IfSome (fold (first_of_two f) o rs) (λ r. IsLive w r.at)
fold_kept w f o [] h k = h
fold_kept w f o (r ∷ rs) h k = fold_kept w f (first_of_two f o r) rs (step_kept w f o r h k.0) k.1

at_of : (w : World) (o : Option Reference) → IfSome o (λ r. IsLive w r.at) → IfSome (option_map (λ r. r.at) o) (IsLive w)
at_of w None h = tt
at_of w (Some r) h = h

-- the first live reference of some is live
pub first-live : (w : World) (test : Reference → Bool) (rs : List Reference) → AllByRecursion (Stands w) rs → IfSome (first_live w test rs) (IsLive w)
first-live w test rs h =
    at_of w (first (facts_of w) (filter (λ r. not r.dead && test r) rs)) (fold_kept w (facts_of w) None (filter (λ r. not r.dead && test r) rs) tt (kept_live w test rs h))
