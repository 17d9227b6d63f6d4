-- The vnode of an identity as a function of the slots.
use Rattle.std.proofs.Common.{ℕ, zero, suc, ◌≡◌, ◌+◌, Bool, true, false, ◌==◌, ◌&&◌, cond, refl, ap, ◌∙◌, subst, List, [], ◌∷◌, arith, slice_get, Option, Some, None, is_some}
use Rattle.free_list.proofs.Queues.{yes_eq, eq_yes}
use Rattle.op_vector.specs.declared.data.Vid.{Vid}
use Rattle.op_vector.specs.declared.data.VData.{VData}
use Rattle.op_vector.specs.declared.data.VData.TheVariants.{Empty, Mem, Null, Union}
use Rattle.vnode_rec.specs.declared.slot.Slot.{Slot}
use Rattle.vnode_rec.specs.Identity.{found_by, lower_if, identity, same_vid, same_lower, same_found, same_bytes, same_name, same_identity}
use Rattle.vnode_rec.specs.Vnodes.{is_live, identity_of, seek}
use Rattle.vnode_rec.proofs.Slots.{and_true, both_true}

vid_yes : (a b : Vid) → same_vid a b ≡ true → a ≡ b
vid_yes a b h =
    let both = and_true (a.slot == b.slot) (a.generation == b.generation) h in
    ap (λ n. record { slot = n; generation = a.generation }) (yes_eq a.slot b.slot both.0) ∙ ap (λ n. record { slot = b.slot; generation = n }) (yes_eq a.generation b.generation both.1)

vid_same : (a : Vid) → same_vid a a ≡ true
vid_same a = both_true (a.slot == a.slot) (a.generation == a.generation) (eq_yes a.slot a.slot refl) (eq_yes a.generation a.generation refl)

lower_yes : (a b : Option Vid) → same_lower a b ≡ true → a ≡ b
lower_yes None None h = refl
lower_yes None (Some b) h = cc
lower_yes (Some a) None h = cc
lower_yes (Some a) (Some b) h = ap (λ (v : Vid). Some v) (vid_yes a b h)

lower_same : (a : Option Vid) → same_lower a a ≡ true
lower_same None = refl
lower_same (Some a) = vid_same a

bytes_yes : (a b : List ℕ) → same_bytes a b ≡ true → a ≡ b
bytes_yes [] [] h = refl
bytes_yes [] (y ∷ ys) h = cc
bytes_yes (x ∷ xs) [] h = cc
bytes_yes (x ∷ xs) (y ∷ ys) h =
    let both = and_true (x == y) (same_bytes xs ys) h in
    ap (λ n. n ∷ xs) (yes_eq x y both.0) ∙ ap (λ l. y ∷ l) (bytes_yes xs ys both.1)

bytes_same : (a : List ℕ) → same_bytes a a ≡ true
bytes_same [] = refl
bytes_same (x ∷ xs) = both_true (x == x) (same_bytes xs xs) (eq_yes x x refl) (bytes_same xs)

name_yes : (a b : Option (List ℕ)) → same_name a b ≡ true → a ≡ b
name_yes None None h = refl
name_yes None (Some b) h = cc
name_yes (Some a) None h = cc
name_yes (Some a) (Some b) h = ap (λ (l : List ℕ). Some l) (bytes_yes a b h)

name_same : (a : Option (List ℕ)) → same_name a a ≡ true
name_same None = refl
name_same (Some a) = bytes_same a

found_yes : (a b : VData) (x y : Bool) → same_found (found_by a x) (found_by b y) ≡ true → found_by a x ≡ found_by b y
found_yes Empty Empty x y h = refl
found_yes Empty (Mem m i) x y h = cc
found_yes Empty (Null m l) x y h = cc
found_yes Empty (Union m i u l k) x y h = cc
found_yes (Mem mount ino) Empty x y h = cc
found_yes (Mem mount ino) (Mem m i) x y h =
    let both = and_true (mount == m) (ino == i) h in
    ap (λ n. Mem n ino) (yes_eq mount m both.0) ∙ ap (λ n. Mem m n) (yes_eq ino i both.1)
found_yes (Mem mount ino) (Null m l) x y h = cc
found_yes (Mem mount ino) (Union m i u l k) x y h = cc
found_yes (Null mount lower) Empty x y h = cc
found_yes (Null mount lower) (Mem m i) x y h = cc
found_yes (Null mount lower) (Null m l) x y h =
    let both = and_true (mount == m) (same_vid lower l) h in
    ap (λ n. Null n lower) (yes_eq mount m both.0) ∙ ap (λ v. Null m v) (vid_yes lower l both.1)
found_yes (Null mount lower) (Union m i u l k) x y h = cc
found_yes (Union mount ino upper lower at) Empty x y h = cc
found_yes (Union mount ino upper lower at) (Mem m i) x y h = cc
found_yes (Union mount ino upper lower at) (Null m l) x y h = cc
found_yes (Union mount ino upper lower at) (Union m i u l k) x y h =
    let both = and_true (mount == m) ((ino == i) && same_lower (lower_if x lower) (lower_if y l)) h in
    let more = and_true (ino == i) (same_lower (lower_if x lower) (lower_if y l)) both.1 in
    ap (λ n. Union n ino None (lower_if x lower) 0) (yes_eq mount m both.0) ∙ (ap (λ n. Union m n None (lower_if x lower) 0) (yes_eq ino i more.0) ∙ ap (λ o. Union m i None o 0) (lower_yes (lower_if x lower) (lower_if y l) more.1))

found_same : (a : VData) (x : Bool) → same_found (found_by a x) (found_by a x) ≡ true
found_same Empty x = refl
found_same (Mem mount ino) x = both_true (mount == mount) (ino == ino) (eq_yes mount mount refl) (eq_yes ino ino refl)
found_same (Null mount lower) x = both_true (mount == mount) (same_vid lower lower) (eq_yes mount mount refl) (vid_same lower)
found_same (Union mount ino upper lower at) x = both_true (mount == mount) ((ino == ino) && same_lower (lower_if x lower) (lower_if x lower)) (eq_yes mount mount refl) (both_true (ino == ino) (same_lower (lower_if x lower) (lower_if x lower)) (eq_yes ino ino refl) (lower_same (lower_if x lower)))

-- two identities are one exactly where the test says so
identity_yes : (a b : VData) (n m : Option (List ℕ)) → same_identity (identity a n) (identity b m) ≡ true → identity a n ≡ identity b m
identity_yes a b n m h =
    let both = and_true (same_found (found_by a (is_some n)) (found_by b (is_some m))) (same_name n m) h in
    ap (λ (d : VData). (d, n)) (found_yes a b (is_some n) (is_some m) both.0) ∙ ap (λ (o : Option (List ℕ)). (found_by b (is_some m), o)) (name_yes n m both.1)

identity_same : (a : VData) (n : Option (List ℕ)) → same_identity (identity a n) (identity a n) ≡ true
identity_same a n = both_true (same_found (found_by a (is_some n)) (found_by a (is_some n))) (same_name n n) (found_same a (is_some n)) (name_same n)

-- the first slot that passes is the one that has the identity
module _ {X : Type 0} (vd : VData) (name : Option (List ℕ)) where
  pub seek_none : (slots : List (Slot X)) (n : ℕ) → ((s : ℕ) (x : Slot X) → slice_get slots s ≡ Some x → is_live x ≡ true → identity_of x ≡ identity vd name → ⊥) → seek (identity vd name) n slots ≡ None
  seek_none [] n h = refl
  seek_none (y ∷ ys) n h = (elim (is_live y && same_identity (identity_of y) (identity vd name)) as (λ b. (is_live y && same_identity (identity_of y) (identity vd name)) ≡ b → cond b (Some (record { slot = n; generation = y.generation })) (seek (identity vd name) (suc n) ys) ≡ None) [
    | true ↦ λ t. (let both = and_true (is_live y) (same_identity (identity_of y) (identity vd name)) t in absurd (h 0 y refl both.0 (identity_yes y.vdata vd y.name name both.1)))
    | false ↦ λ t. seek_none ys (suc n) (λ s x e. h (suc s) x e)
  ]) refl

  pub seek_some : (slots : List (Slot X)) (n s : ℕ) (x : Slot X) → slice_get slots s ≡ Some x → is_live x ≡ true → identity_of x ≡ identity vd name
      → ((t : ℕ) (y : Slot X) → slice_get slots t ≡ Some y → is_live y ≡ true → identity_of y ≡ identity vd name → t ≡ s) → (k : ℕ) → k ≡ n + s → seek (identity vd name) n slots ≡ Some (record { slot = k; generation = x.generation })
  seek_some [] n s x e live same only k q = cc
  seek_some (y ∷ ys) n zero x e live same only k q =
      let one : y ≡ x = same_some y x e in
      let yes : (is_live y && same_identity (identity_of y) (identity vd name)) ≡ true = both_true (is_live y) (same_identity (identity_of y) (identity vd name)) (ap (λ (z : Slot X). is_live z) one ∙ live) (subst (λ (i : VData × Option (List ℕ)). same_identity (identity_of y) i ≡ true) (ap (λ (z : Slot X). identity_of z) one ∙ same) (identity_same y.vdata y.name)) in
      rw yes (ap (λ m. Some (record { slot = m; generation = y.generation })) (let j : n ≡ k = omega (arith, q) in j) ∙ ap (λ (z : Slot X). Some (record { slot = k; generation = z.generation })) one)
    where
      same_some : (a b : Slot X) → Some a ≡ Some b → a ≡ b
      same_some a b e = cc
  seek_some (y ∷ ys) n (suc s) x e live same only k q = (elim (is_live y && same_identity (identity_of y) (identity vd name)) as (λ b. (is_live y && same_identity (identity_of y) (identity vd name)) ≡ b → cond b (Some (record { slot = n; generation = y.generation })) (seek (identity vd name) (suc n) ys) ≡ Some (record { slot = k; generation = x.generation })) [
    | true ↦ λ t. (
        let both = and_true (is_live y) (same_identity (identity_of y) (identity vd name)) t in
        let z : 0 ≡ suc s = only 0 y refl both.0 (identity_yes y.vdata vd y.name name both.1) in
        absurd (omega (arith, z))
        )
    | false ↦ λ t. seek_some ys (suc n) s x e live same (λ r w f l i. (let z : suc r ≡ suc s = only (suc r) w f l i in omega (arith, z))) k (omega (arith, q))
  ]) refl
