-- A table in which nothing has been done.
use Rattle.std.proofs.Common.{ℕ, ◌≡◌, ◌<◌, ◌≤◌, ◌+◌, ◌*◌, ◌^◌, true, false, ◌==◌, ◌||◌, cond, sym, ap, ◌∙◌, subst, List, [], ◌∷◌, ◌++◌, length, arith, ltb, slice_get, All, count_by, Option, Some, None, IsSome}
use Rattle.std.proofs.lemmas.List.Sums.{sum_by-le}
use Rattle.std.proofs.lemmas.Option.{slice_get_within, get_or_from_slice_get}
use Rattle.op_vector.specs.declared.data.VKind.{VKind}
use Rattle.op_vector.specs.declared.data.VKind.TheVariants.{Mem, Null, Union, Dead}
use Rattle.op_vector.specs.declared.data.Vid.{Vid}
use Rattle.op_vector.specs.declared.rack.RackOf.{RackOf}
use Rattle.op_vector.specs.Rack.{boxes_of, room_of}
use Rattle.free_list.specs.Queue.{Queue, member}
use Rattle.free_list.specs.Links.{at}
use Rattle.free_list.proofs.Queues.{pushed}
use Rattle.vnode_rec.specs.declared.slot.Slot.{Slot}
use Rattle.vnode_rec.specs.Holders.{Held}
use Rattle.vnode_rec.specs.Vnodes.{empty_slot, is_live, slot_in, EachSlot, HasVector}
use Rattle.vnode_rec.specs.Sound.{IsListed, IsSound, has_kind}

-- what holds of each kind
pub by_kinds : (P : VKind → Type 0) → P Mem → P Null → P Union → P Dead → (k : VKind) → P k
by_kinds P mem null unions dead Mem = mem
by_kinds P mem null unions dead Null = null
by_kinds P mem null unions dead Union = unions
by_kinds P mem null unions dead Dead = dead

below_or : (s i : ℕ) → (ltb s i || (s == i)) ≡ ltb s (i + 1)
below_or s i = grind arith

-- a list of all numbers below one gets the next
pub one_more : (queue : List ℕ) (i : ℕ) → ((s : ℕ) → member s queue ≡ ltb s i) → (s : ℕ) → member s (queue ++ i ∷ []) ≡ ltb s (i + 1)
one_more queue i h s = pushed s i queue ∙ (ap (λ b. b || (s == i)) (h s) ∙ below_or s i)

module _ {X : Type 0} (slots : List (Slot X)) (all : All (λ slot. slot ≡ empty_slot 0) slots) where
  is_fresh : (s : ℕ) (x : Slot X) → slice_get slots s ≡ Some x → x ≡ empty_slot 0
  is_fresh s x e = sym (get_or_from_slice_get slots s x x e) ∙ all s x (slice_get_within slots s x e)

  pub nothing_matched : (vkind : X → VKind) → EachSlot (λ s slot. (box : X) → slot.vop ≡ Some box → HasVector vkind slot box) slots
  nothing_matched vkind s x e box had =
      let z : ◌≡◌ {A = Option X} None (Some box) = ap (λ (y : Slot X). y.vop) (sym (is_fresh s x e)) ∙ had in
      absurd (let k : ⊥ = cc in k)

  no_kind : (k : VKind) → count_by (has_kind k) slots ≡ 0
  no_kind k =
      let a = sum_by-le (λ (x : Slot X). cond (has_kind k x) 1 0) 0 slots (λ j d h. (let e = ap (λ (x : Slot X). cond {A = ℕ} (has_kind k x) 1 0) (all j d h) in omega (arith, e))) in
      omega (arith, a)

  pub fresh_sound : (held : Held) (free empty : Queue) (place : List ℕ) (linked chains : ℕ) (rack : RackOf X)
      → held.slots ≡ length slots → free.slots ≡ length slots → empty.slots ≡ length slots → linked ≡ length slots → length place ≡ length slots
      → 9 * length held.rows ≤ length slots → length slots < 2 ^ 32 → 0 < chains
      → All (λ row. row ≡ []) held.rows → free.queue ≡ [] → ((s : ℕ) → s < length slots → member s empty.queue ≡ true) → ((s : ℕ) → s < length slots → at place s ≡ chains)
      → ((kind : VKind) → length slots ≤ length (boxes_of kind rack)) → ((kind : VKind) → length (boxes_of kind rack) ≤ room_of kind rack)
      → IsSound slots held free empty place linked chains rack
  fresh_sound held free empty place linked chains rack hl fl el ll pl few small some none no_free all_empty nowhere enough room = record {
    sizes = record { held_len = hl; free_len = fl; empty_len = el; linked_len = ll; place_len = pl; few = few; small = small; some_chains = some };
    current = λ k d h. subst (All (λ (w : Vid). IsSome (slot_in slots w))) (sym (none k d h)) (λ j w i. absurd (omega (arith, i)));
    listed = λ s x e. (
        let within = slice_get_within slots s x e in
        subst (λ (y : Slot X). IsListed held.rows free.queue empty.queue place chains s y) (sym (is_fresh s x e)) (record {
          is_free = ap (member s) no_free;
          is_empty = all_empty s within;
          low = λ _. omega arith;
          placed = nowhere s within;
        })
        );
    unique = λ s t x y es et ls lt same. (
        let z : false ≡ true = ap (λ (w : Slot X). is_live w) (sym (is_fresh s x es)) ∙ ls in
        absurd (let k : ⊥ = cc in k)
        );
    supplied = λ k. (let z = no_kind k in let a = enough k in let b = room k in record { enough = omega (arith, z, a); room = omega (arith, z, b) });
  }
