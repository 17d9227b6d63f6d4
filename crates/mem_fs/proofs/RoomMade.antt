-- Room that was made before a write or a cut.
use Rattle.std.proofs.Common.{◌≡◌, ℕ, ◌≤◌, Bool, true, false, cond, ap, sym, subst, arith}
use Rattle.std.specs.Prelude.{Option, Some, None, option_map, IfSome, max}
use Rattle.std.specs.Ordering.{nat_cmp, eq_by_cmp, is_eq}
use Rattle.std.specs.Cmp.{nat_cmp_total}
use Rattle.std.specs.FinMap.{FinMap, get}
use Rattle.std.proofs.lemmas.Cmp.{tied_itself}
use Rattle.mem_fs.specs.Inodes.{edited}
use Rattle.mem_fs.proofs.Kept.{get-edited}

room_case : (len : ℕ) (b : Bool) (o : Option ℕ) → b ≡ true → IfSome (cond b (option_map (λ room. max room len) o) o) (λ room. len ≤ room)
room_case len true (Some room) e = omega arith
room_case len true None e = tt
room_case len false o e = absurd (let clash : false ≡ true = e in cc)

room_made : (m : FinMap nat_cmp ℕ) (k len : ℕ) → IfSome (get (edited (λ room. max room len) m k) k) (λ room. len ≤ room)
room_made m k len = subst (λ o. IfSome o (λ room. len ≤ room)) (sym (get-edited (λ room. max room len) m k k))
    (room_case len (eq_by_cmp nat_cmp k k) (get m k) (ap is_eq (tied_itself nat_cmp_total k)))

pub room_in : (m n : FinMap nat_cmp ℕ) (k len : ℕ) → n ≡ edited (λ room. max room len) m k → IfSome (get n k) (λ room. len ≤ room)
room_in m n k len is = subst (λ (x : FinMap nat_cmp ℕ). IfSome (get x k) (λ room. len ≤ room)) (sym is) (room_made m k len)
