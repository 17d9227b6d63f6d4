-- Which mount of seats covers a place.
use Rattle.std.proofs.Common.{ℕ, suc, Bool, true, false, not, ◌≡◌, ◌&&◌, cond, List, [], ◌∷◌, map, take, drop, get_or, refl, ap, sym, ◌∙◌, arith, All}
use Rattle.std.specs.Prelude.{Option, Some, is_some, option_map}
use Rattle.std.specs.List.{find}
use Rattle.vfs_tree.specs.Place.{Seen}
use Rattle.vfs_tree.specs.declared.mount.Mount.{Mount}
use Rattle.vfs_tree.specs.Mounts.{Leaving, is_left, is_on, covers, covering}
use Rattle.mount_table.specs.declared.seat.Seat.{Seat}
use Rattle.mount_table.specs.Seats.{mounts_in, leavers, leaving_in, AreRising, Once, covers_seat}
use Rattle.mount_table.proofs.Order.{around, values_of}
use Rattle.mount_table.proofs.Leavers.{left_at}

numbers : (b : Bool) (seat : Seat) (o : Option Mount) (p : Option Seat) → option_map (λ t. t.number) o ≡ option_map (λ s. s.mount.number) p
    → option_map (λ t. t.number) (cond b (Some seat.mount) o) ≡ option_map (λ s. s.mount.number) (cond b (Some seat) p)
numbers true seat o p same = refl
numbers false seat o p same = same

find_seat : (leaving : Leaving) (p : Seen) (seats : List Seat) → All (λ seat. is_left leaving seat.mount.number ≡ is_some seat.left_by) seats
    → option_map (λ t. t.number) (find (covers leaving p) (map (λ seat. seat.mount) seats)) ≡ option_map (λ seat. seat.mount.number) (find (covers_seat p) seats)
find_seat leaving p [] all = refl
find_seat leaving p (seat ∷ rest) all =
    let here : covers leaving p seat.mount ≡ covers_seat p seat = ap (λ b. is_on seat.mount.on p && not b) (all 0 seat (omega arith)) in
    ap (λ b. option_map (λ t. t.number) (cond b (Some seat.mount) (find (covers leaving p) (map (λ seat. seat.mount) rest)))) here
    ∙ numbers (covers_seat p seat) seat (find (covers leaving p) (map (λ seat. seat.mount) rest)) (find (covers_seat p) rest) (find_seat leaving p rest (λ k d h. all (suc k) d (omega arith)))

pub covering_seat : (seats : List Seat) (next : ℕ) (p : Seen) → AreRising 0 seats next → Once (leavers seats)
    → covering (mounts_in seats) (leaving_in seats) p ≡ option_map (λ seat. seat.mount.number) (find (covers_seat p) seats)
covering_seat seats next p rising once =
    ap (λ ts. option_map (λ t. t.number) (find (covers (leaving_in seats) p) ts)) (values_of 0 seats next rising)
    ∙ find_seat (leaving_in seats) p seats (λ k d within.
    let whole = around seats k d within in
    let told = left_at 0 (take k seats) (get_or seats k d) (drop (suc k) seats) next (rw whole rising) (rw whole once) in
    ap (λ l. is_left (leaving_in l) (get_or seats k d).mount.number) (sym whole) ∙ told)
