-- The ends of lists of components.
use Rattle.std.proofs.Common.{◌≡◌, ℕ, suc, ◌==◌, Bool, false, List, [], ◌∷◌, ◌++◌, length, reverse, refl, sym, ap, ◌∙◌, subst, arith}
use Rattle.std.specs.Prelude.{Option, Some, None}
use Rattle.std.specs.Option.{option_to_list}
use Rattle.std.proofs.lemmas.Bool.Decides.{nat_tests}
use Rattle.std.proofs.lemmas.List.{append-nil, reverse-append, length-reverse}
use Rattle.vfs_tree.specs.Walk.{is_last, but_last, last_name}
use Rattle.vfs_tree.specs.declared.walk.Component.{Component}
use Rattle.vfs_tree.specs.declared.walk.Component.TheVariants.{Dot, DotDot, Name}
use Rattle.vfs_paths.specs.Going.{Popped}

-- ---- what is left, which lies in reverse

not_last : (n : ℕ) → false ≡ (suc n == 0)
not_last n = grind (arith, nat_tests)

last_by_length : (xs : List Component) → is_last xs ≡ (length xs == 0)
last_by_length [] = refl
last_by_length (x ∷ xs) = not_last (length xs)

pub last_in_reverse : (xs ys : List Component) (n : ℕ) (r : Bool) → r ≡ (n == 0) → n ≡ length xs → reverse xs ≡ ys → r ≡ is_last ys
last_in_reverse xs ys n r e m same =
    e ∙ ap (λ n. n == 0) (m ∙ sym (length-reverse xs)) ∙ sym (last_by_length (reverse xs)) ∙ ap is_last same

none_left : (xs : List Component) → length xs ≡ 0 → xs ≡ []
none_left [] e = refl
none_left (x ∷ xs) e = absurd (omega (arith, e))

popped_of : (r : Option Component) (old new : List Component) → old ≡ new ++ option_to_list r → (r ≡ None → length new ≡ 0) → Popped r (reverse new) (reverse old)
popped_of (Some c) old new e h = ap reverse e ∙ reverse-append new (c ∷ [])
popped_of None old new e h =
    let none = none_left new (h refl) in
    (ap reverse (e ∙ append-nil new ∙ none), ap reverse none)

pub popped_by : (r : Option Component) (old new before : List Component) → old ≡ new ++ option_to_list r → (r ≡ None → length new ≡ 0) → reverse old ≡ before
    → Popped r (reverse new) before
popped_by r old new before e h same = subst (λ (b : List Component). Popped r (reverse new) b) same (popped_of r old new e h)

-- ---- all but the last

pub but_last_append : (xs : List Component) (c : Component) → but_last (xs ++ (c ∷ [])) ≡ xs
but_last_append [] c = refl
but_last_append (x ∷ []) c = refl
but_last_append (x ∷ y ∷ xs) c = ap (λ l. x ∷ l) (but_last_append (y ∷ xs) c)

last_more : (x c : Component) (xs : List Component) → last_name (x ∷ c ∷ xs) ≡ last_name (c ∷ xs)
last_more (Name n) c xs = refl
last_more Dot c xs = refl
last_more DotDot c xs = refl

pub last_name_append : (xs : List Component) (c : Component) → last_name (xs ++ (c ∷ [])) ≡ last_name (c ∷ [])
last_name_append [] c = refl
last_name_append (x ∷ []) c = last_more x c []
last_name_append (x ∷ y ∷ xs) c = last_more x y (xs ++ (c ∷ [])) ∙ last_name_append (y ∷ xs) c

pub front_of : (xs ys : List Component) (c : Component) → xs ≡ ys ++ (c ∷ []) → ys ≡ but_last xs
front_of xs ys c e = sym (ap but_last e ∙ but_last_append ys c)

pub last_of : (xs ys : List Component) (c : Component) (r : Option (List ℕ)) → xs ≡ ys ++ (c ∷ []) → r ≡ last_name (c ∷ []) → r ≡ last_name xs
last_of xs ys c r e is = is ∙ sym (ap last_name e ∙ last_name_append ys c)

pub no_front : (xs ys : List Component) → xs ≡ ys ++ [] → length ys ≡ 0 → ys ≡ but_last xs
no_front xs ys e h = let none = none_left ys h in none ∙ sym (ap but_last (e ∙ append-nil ys ∙ none))

pub no_last : (xs ys : List Component) → xs ≡ ys ++ [] → length ys ≡ 0 → None ≡ last_name xs
no_last xs ys e h = sym (ap last_name (e ∙ append-nil ys ∙ none_left ys h))
