-- The lists of the callers, seen as the vnodes of each.
use Rattle.std.proofs.Common.{ℕ, zero, suc, ◌≡◌, ◌<◌, ◌∙◌, refl, ap, sym, List, [], ◌∷◌, length, get_or, set, replicate}
use Rattle.std.proofs.lemmas.List.{map-set, get_or-map, length-map}
use Rattle.op_vector.specs.declared.data.Vid.{Vid}
use Rattle.vnode_lock.specs.Listed.{Listed, vids_of}

-- another list at a place
pub vids_with : (lists : List Listed) (at : ℕ) (list : Listed) (vids : List Vid) → list.vids ≡ vids → vids_of (set lists at list) ≡ set (vids_of lists) at vids
vids_with lists at list vids is = map-set (λ l. l.vids) lists at list ∙ ap (set (vids_of lists) at) is

-- the vnodes at a place, read from the list there
pub vids_at : (lists : List Listed) (at : ℕ) (read : Listed) → at < length (vids_of lists) → read ≡ get_or lists at read → get_or (vids_of lists) at [] ≡ read.vids
vids_at lists at read within is =
    let inside : at < length lists = rw (length-map lists (λ (l : Listed). l.vids)) at within in
    get_or-map (λ (l : Listed). l.vids) lists at read [] inside ∙ sym (ap (λ l. l.vids) is)

-- empty lists show no vnodes
pub vids_of_empty : (n slots : ℕ) → vids_of (replicate n (record { vids = []; slots = slots })) ≡ replicate n []
vids_of_empty zero slots = refl
vids_of_empty (suc n) slots = ap (λ lists. [] ∷ lists) (vids_of_empty n slots)
