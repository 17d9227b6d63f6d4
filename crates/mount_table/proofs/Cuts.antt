-- Seats that are changed one after another.
use Rattle.std.proofs.Common.{ℕ, Bool, true, false, ◌≡◌, ◌<◌, ◌+◌, ◌||◌, List, [], ◌∷◌, ◌++◌, map, length, take, drop, get_or, set, refl, ap, sym, ◌∙◌, arith}
use Rattle.std.proofs.lemmas.List.{length-drop, drop_more, take_more_set, map_more, drop-set-lt}
use Rattle.std.proofs.Math.Seq.{map-set_same}
use Rattle.vfs_tree.specs.Mounts.{Mounts, layers, is_of}
use Rattle.mount_table.specs.declared.seat.Seat.{Seat}
use Rattle.mount_table.specs.Seats.{layers_of, cut_seat}

-- one more element was changed
pub changed_more : {X : Type 0} (f : X → X) (now initial : List X) (i : ℕ) (d next : X) → i < length now
    → take i now ≡ map f (take i initial) → drop i now ≡ drop i initial → next ≡ f (get_or now i d)
    → (take (i + 1) (set now i next) ≡ map f (take (i + 1) initial)) × (drop (i + 1) (set now i next) ≡ drop (i + 1) initial)
changed_more f now initial i d next within front back is =
    let inside : i < length initial = omega (arith, simp length-drop at (ap length back)) in
    let at_now = drop_more now i d within in
    let at_first = drop_more initial i d inside in
    let heads : get_or now i d ≡ get_or initial i d = cc in
    let tails : drop (i + 1) now ≡ drop (i + 1) initial = cc in
    let put : take (i + 1) (set now i next) ≡ take i now ++ next ∷ [] = take_more_set now i next within in
    let more : map f (take (i + 1) initial) ≡ map f (take i initial) ++ f (get_or initial i d) ∷ [] = map_more f initial i d inside in
    let same : next ≡ f (get_or initial i d) = is ∙ ap f heads in
    let past : i < i + 1 = omega arith in
    (put ∙ rw (front, same) (sym more), drop-set-lt (i + 1) now i next past ∙ tails)

or_true : (b : Bool) → (b || true) ≡ true
or_true true = refl
or_true false = refl

or_false : (b : Bool) → (b || false) ≡ b
or_false true = refl
or_false false = refl

-- a seat that is cut, and one that stays
pub cut_is : (mounts : Mounts) (m : ℕ) (seat : Seat) → is_of mounts m seat.mount.number ≡ true → cut_seat mounts m seat ≡ record seat { mount = record seat.mount { cut = true } }
cut_is mounts m seat h = ap (λ b. record seat { mount = record seat.mount { cut = b } }) (ap (λ b. seat.mount.cut || b) h ∙ or_true seat.mount.cut)

pub cut_not : (mounts : Mounts) (m : ℕ) (seat : Seat) → is_of mounts m seat.mount.number ≡ false → cut_seat mounts m seat ≡ seat
cut_not mounts m seat h = ap (λ b. record seat { mount = record seat.mount { cut = b } }) (ap (λ b. seat.mount.cut || b) h ∙ or_false seat.mount.cut)

-- to cut a mount leaves its layers
pub layers_cut : (mounts : Mounts) (m : ℕ) (now : List Seat) (i : ℕ) (d next : Seat) → next ≡ cut_seat mounts m (get_or now i d) → layers_of (set now i next) ≡ layers_of now
layers_cut mounts m now i d next is =
    let key : Seat → ℕ × List ℕ = λ s. (s.mount.number, layers s.mount.kind) in
    map-set_same key now i next d (ap key is)
