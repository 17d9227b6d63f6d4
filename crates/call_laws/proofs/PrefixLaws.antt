-- Legal histories, one after the other.
use Rattle.std.proofs.Common.{◌≡◌, ℕ, ◌==◌, ◌++◌, List, [], ◌∷◌, refl, ap, sym, ◌∙◌, subst, cond}
use Rattle.std.specs.Prelude.{Some}
use Rattle.std.specs.Cmp.{nat_cmp_total, unsigned_ties}
use Rattle.std.specs.FinMap.{get, get-insert}
use Rattle.vfs_tree.specs.declared.world.World.{World}
use Rattle.call_model.specs.Legal.{Pending, after, replay, next_call, IsNeeded, doomers_after, doomers_in, IsRight, IsLegalFrom, IsLegal}
use Rattle.call_model.specs.declared.entry.Entry.{Entry}
use Rattle.call_model.specs.declared.entry.Entry.TheVariants as entry
use Rattle.call_laws.specs.Prefixes.{pending_before}

-- what is pending before some entries is the call of the next one of them, or what is pending after them
abbrev pub ComesTo : Pending → Pending → List Entry → Type 0
ComesTo q p fs = (c : ℕ) → get q c ≡ next_call p c fs

pub before_comes : (p : Pending) (fs : List Entry) → ComesTo (pending_before p fs) p fs
before_comes p [] c = refl
before_comes p (entry.Call d call r ∷ fs) c =
    get-insert nat_cmp_total (pending_before p fs) d call c
    ∙ ap (λ b. cond b (Some call) (get (pending_before p fs) c)) (sym (unsigned_ties c d))
    ∙ ap (cond (c == d) (Some call)) (before_comes p fs c)
before_comes p (entry.Inner d x ∷ fs) c = before_comes p fs c

next_joined : (q p : Pending) (fs : List Entry) → ComesTo q p fs → (c : ℕ) (es : List Entry) → next_call q c es ≡ next_call p c (es ++ fs)
next_joined q p fs same c [] = same c
next_joined q p fs same c (entry.Call d call r ∷ es) = ap (cond (c == d) (Some call)) (next_joined q p fs same c es)
next_joined q p fs same c (entry.Inner d x ∷ es) = next_joined q p fs same c es

right_joined : (q p : Pending) (fs : List Entry) → ComesTo q p fs → (ds : List ℕ) (w : World) (x : Entry) (es : List Entry) → IsRight q ds w x es → IsRight p ds w x (es ++ fs)
right_joined q p fs same ds w (entry.Call c call r) es h = h
right_joined q p fs same ds w (entry.Inner c x) es h = subst (λ o. IsNeeded w c o x) (next_joined q p fs same c es) h

right_split : (q p : Pending) (fs : List Entry) → ComesTo q p fs → (ds : List ℕ) (w : World) (x : Entry) (es : List Entry) → IsRight p ds w x (es ++ fs) → IsRight q ds w x es
right_split q p fs same ds w (entry.Call c call r) es h = h
right_split q p fs same ds w (entry.Inner c x) es h = subst (λ o. IsNeeded w c o x) (sym (next_joined q p fs same c es)) h

from_joined : (q p : Pending) (fs : List Entry) → ComesTo q p fs → (ds : List ℕ) (w : World) (es : List Entry)
    → IsLegalFrom q ds w es → IsLegalFrom p (doomers_in ds es) (replay w es) fs → IsLegalFrom p ds w (es ++ fs)
from_joined q p fs same ds w [] h more = more
from_joined q p fs same ds w (x ∷ es) h more =
    (right_joined q p fs same ds w x es h.0, from_joined q p fs same (doomers_after ds x) (after w x) es h.1 more)

from_before : (q p : Pending) (fs : List Entry) → ComesTo q p fs → (ds : List ℕ) (w : World) (es : List Entry)
    → IsLegalFrom p ds w (es ++ fs) → IsLegalFrom q ds w es
from_before q p fs same ds w [] h = tt
from_before q p fs same ds w (x ∷ es) h =
    (right_split q p fs same ds w x es h.0, from_before q p fs same (doomers_after ds x) (after w x) es h.1)

from_after : (p : Pending) (fs : List Entry) (ds : List ℕ) (w : World) (es : List Entry)
    → IsLegalFrom p ds w (es ++ fs) → IsLegalFrom p (doomers_in ds es) (replay w es) fs
from_after p fs ds w [] h = h
from_after p fs ds w (x ∷ es) h = from_after p fs (doomers_after ds x) (after w x) es h.1

pub legal-joined : (p : Pending) (w : World) (es fs : List Entry)
    → IsLegal (pending_before p fs) w es → IsLegalFrom p (doomers_in [] es) (replay w es) fs → IsLegal p w (es ++ fs)
legal-joined p w es fs h more = from_joined (pending_before p fs) p fs (before_comes p fs) [] w es h more

pub legal-before : (p : Pending) (w : World) (es fs : List Entry) → IsLegal p w (es ++ fs) → IsLegal (pending_before p fs) w es
legal-before p w es fs h = from_before (pending_before p fs) p fs (before_comes p fs) [] w es h

pub legal-after : (p : Pending) (w : World) (es fs : List Entry) → IsLegal p w (es ++ fs) → IsLegalFrom p (doomers_in [] es) (replay w es) fs
legal-after p w es fs h = from_after p fs [] w es h

pub replay-joined : (w : World) (es fs : List Entry) → replay w (es ++ fs) ≡ replay (replay w es) fs
replay-joined w [] fs = refl
replay-joined w (x ∷ es) fs = replay-joined (after w x) es fs
