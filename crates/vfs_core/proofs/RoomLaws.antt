-- The rooms of pending reads, when a call begins, goes on and ends.
use Rattle.std.proofs.Common.{◌≡◌, ℕ, ◌==◌, true, false, cond, ap, refl, sym, subst, ◌∙◌, inl, inr, nat_cmp}
use Rattle.std.specs.Prelude.{Option, Some, None, IfSome}
use Rattle.std.specs.Cmp.{nat_cmp_total, unsigned_ties}
use Rattle.std.specs.FinMap.{FinMap, get, insert, remove, empty, get-empty, get-insert}
use Rattle.std.proofs.lemmas.Bool.Decides.{eqb_tells}
use Rattle.finite_maps.proofs.EntryLaws.{get_at-insert}
use Rattle.call_model.specs.Legal.{Pending}
use Rattle.call_model.specs.declared.call.Call.{Call}
use Rattle.call_model.specs.declared.call.Call.TheVariants as call
use Rattle.plain_calls.specs.Answering.{HasRoomFor, NeedsNoMemory}
use Rattle.vfs_core.specs.Kernel.{HaveRoom}
use Rattle.vfs_core.proofs.KernLaws.{insert-each, remove-each, removed_same}

-- ---- one room is put or taken

pub put_there : {X : Type 0} (m : FinMap nat_cmp X) (c : ℕ) (v : X) → get (insert m c v) c ≡ Some v
put_there m c v = get_at-insert nat_cmp_total m c v

pub taken_there : {X : Type 0} (m : FinMap nat_cmp X) (c : ℕ) → get (remove m c) c ≡ None
taken_there m c = removed_same m c c refl

-- and those of the others stay
pub put_others : {X : Type 0} (m : FinMap nat_cmp X) (c d : ℕ) (v : X) → (d == c) ≡ false → get (insert m c v) d ≡ get m d
put_others m c d v apart = get-insert nat_cmp_total m c v d ∙ ap (λ b. cond b (Some v) (get m d)) (sym (unsigned_ties d c) ∙ apart)

-- ---- the steps

abbrev RoomOf : FinMap nat_cmp ℕ → ℕ → Option Call → Type 0
RoomOf rooms c o = IfSome o (λ call. HasRoomFor call (get rooms c))

-- what is done for one caller says nothing of the others
by_caller : (p : Pending) (old new : FinMap nat_cmp ℕ) (c : ℕ) → HaveRoom p old → ((d : ℕ) → (d == c) ≡ false → get new d ≡ get old d) → RoomOf new c (get p c) → HaveRoom p new
by_caller p old new c have others here d =
    elim (eqb_tells d c) [
      | inl e ↦ subst (λ k. RoomOf new k (get p k)) (sym e.1) here
      | inr e ↦ subst (λ o. IfSome (get p d) (λ call. HasRoomFor call o)) (sym (others d e.0)) (have d)
    ]

-- a caller that has no call pending needs no room
pub rooms-idle : (p : Pending) (old new : FinMap nat_cmp ℕ) (c : ℕ) → HaveRoom p old → get p c ≡ None → ((d : ℕ) → (d == c) ≡ false → get new d ≡ get old d) → HaveRoom p new
rooms-idle p old new c have idle others = by_caller p old new c have others (subst (RoomOf new c) (sym idle) tt)

-- nor does one whose room is made and taken away again
pub rooms-back : (p q : Pending) (old made new : FinMap nat_cmp ℕ) (c : ℕ) → HaveRoom p old → get p c ≡ None → ((d : ℕ) → (d == c) ≡ false → get made d ≡ get old d)
    → ((d : ℕ) → (d == c) ≡ false → get new d ≡ get made d) → q ≡ p → HaveRoom q new
rooms-back p q old made new c have idle first second is =
    subst (λ x. HaveRoom x new) (sym is) (rooms-idle p old new c have idle (λ d apart. second d apart ∙ first d apart))

-- a call begins
pub rooms-begin : (p q : Pending) (old new : FinMap nat_cmp ℕ) (c : ℕ) (call : Call) → HaveRoom p old → get p c ≡ None → ((d : ℕ) → (d == c) ≡ false → get new d ≡ get old d)
    → HasRoomFor call (get new c) → q ≡ insert p c call → HaveRoom q new
rooms-begin p q old new c call have idle others room is =
    subst (λ x. HaveRoom x new) (sym is) (insert-each (RoomOf new) p c call room (rooms-idle p old new c have idle others))

without : (call : Call) (room : Option ℕ) → (NeedsNoMemory call → ⊥) → HasRoomFor call room
without (call.Read d n) room h = absurd (h tt)
without (call.Pread d n at) room h = absurd (h tt)
without _ room h = tt

-- a call that goes on reads no bytes
pub rooms-went : (p : Pending) (old new : FinMap nat_cmp ℕ) (c : ℕ) (call : Call) → HaveRoom p old → get p c ≡ Some call → ((d : ℕ) → (d == c) ≡ false → get new d ≡ get old d)
    → (NeedsNoMemory call → ⊥) → HaveRoom p new
rooms-went p old new c call have its others goes = by_caller p old new c have others (subst (RoomOf new c) (sym its) (without call (get new c) goes))

-- a call ends
pub rooms-ended : (p q : Pending) (old new : FinMap nat_cmp ℕ) (c : ℕ) → HaveRoom p old → ((d : ℕ) → (d == c) ≡ false → get new d ≡ get old d) → q ≡ remove p c → HaveRoom q new
rooms-ended p q old new c have others gone =
    subst (λ x. HaveRoom x new) (sym gone)
    (remove-each (RoomOf new) p c tt (λ d apart. subst (λ o. IfSome (get p d) (λ call. HasRoomFor call o)) (sym (others d apart)) (have d)))

-- the room of a pending call
pub room_taken : (p : Pending) (rooms : FinMap nat_cmp ℕ) (c : ℕ) (call : Call) (room : Option ℕ) → HaveRoom p rooms → get p c ≡ Some call → room ≡ get rooms c → HasRoomFor call room
room_taken p rooms c call room have its is = subst (HasRoomFor call) (sym is) (subst (RoomOf rooms c) its (have c))

-- no call is pending at the start
pub rooms-new : (p : Pending) (rooms : FinMap nat_cmp ℕ) → p ≡ empty → HaveRoom p rooms
rooms-new p rooms none d = subst (RoomOf rooms d) (sym (ap (λ x. get x d) none ∙ get-empty nat_cmp d)) tt
