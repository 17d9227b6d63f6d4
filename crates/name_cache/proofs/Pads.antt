-- A name with zeros behind it, as the code writes it.
use Rattle.std.proofs.Common.{◌≡◌, ℕ, ◌-◌, ◌≤◌, List, ◌++◌, length, drop, replicate, ◌∙◌, refl, arith, length-append, Bool, true, false, not, nat_lt, ◌&&◌, IsTrue}
use Rattle.vfs_tree.specs.Name.{is_name, has_few, is_dots, has_no_slash_or_zero}
use Rattle.std.proofs.lemmas.List.{length-drop, length-replicate, drop_at, drop-replicate}

pub padded : (t s d : List ℕ) → length s ≤ 255 → t ≡ s → d ≡ drop (length s) (replicate {A = ℕ} 255 0)
    → (length s ≤ 255) × (length (t ++ d) ≡ 255) × (drop (length s) (t ++ d) ≡ replicate (255 - length s) 0)
padded t s d le e f =
    let z : List ℕ = replicate {A = ℕ} 255 0 in (
      le,
      rw (e, f) (omega (arith, length-append s (drop (length s) z), length-drop (length s) z, length-replicate {A = ℕ} 255 0)),
      rw (e, f) (drop_at s (drop (length s) z) (length s) refl ∙ drop-replicate {X = ℕ} (length s) 255 0),
    )

both : (a b : Bool) → (a && b) ≡ true → (a ≡ true) × (b ≡ true)
both true b h = (refl, h)
both false b h = cc

-- a name has at most 255 bytes
pub few : (name : List ℕ) → IsTrue (is_name name) → length name ≤ 255
few name lawful =
    let first = both (has_few name) (not (is_dots name) && has_no_slash_or_zero name) lawful in
    let size = both (nat_lt 0 (length name)) (nat_lt (length name) 256) first.0 in
    let below = size.1 in
    grind arith
