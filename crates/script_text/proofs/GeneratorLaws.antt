-- The lines that are generated may stand in a script.
use Rattle.std.proofs.Common.{◌≡◌, ℕ, ◌+◌, ◌/◌, ◌%◌, ◌^◌, ◌<◌, ◌≤◌, zero, suc, Bool, true, false, nat_lt, ◌==◌, cond, List, [], ◌∷◌, ◌++◌, take, map, length, codes, refl, arith, lit≤}
use Rattle.std.specs.List.{AllByRecursion, list_all, range_with_len}
use Rattle.std.proofs.lemmas.Bool.{and_parts, ltb-true}
use Rattle.std.proofs.lemmas.List.FromFn.{length-map-range_with_len}
use Rattle.call_model.specs.declared.call.Call.{Call}
use Rattle.call_model.specs.declared.call.Line.{Line}
use Rattle.script_text.specs.declared.script.Script.{Script}
use Rattle.script_text.specs.Word.{IsBytes}
use Rattle.script_text.specs.Fits.{IsNumber, FitsCall, FitsLine}
use Rattle.script_text.specs.Script.{default_limits, HasText}
use Rattle.turn_order.specs.Scattering.{mix}
use Rattle.script_text.specs.Generator.{directory, file_path, first_path, second_path, chosen_descriptor, chosen_number, chosen_bytes, setup_call, low_row, high_row, last_row, chosen_call, gen_line, gen_lines}
use Rattle.script_text.proofs.ScriptLaws.{default_is_lawful}

-- ---- bytes

are_bytes : (bs : List ℕ) → list_all (λ b. nat_lt b 256) bs ≡ true → IsBytes bs
are_bytes [] e = tt
are_bytes (b ∷ bs) e =
    let p = and_parts (nat_lt b 256) (list_all (λ b. nat_lt b 256) bs) e in
    (ltb-true b 256 p.0, are_bytes bs p.1)

append_IsBytes : (xs ys : List ℕ) → IsBytes xs → IsBytes ys → IsBytes (xs ++ ys)
append_IsBytes [] ys p q = q
append_IsBytes (x ∷ xs) ys p q = (p.0, append_IsBytes xs ys p.1 q)

take_IsBytes : (n : ℕ) (bs : List ℕ) → IsBytes bs → IsBytes (take n bs)
take_IsBytes zero bs h = tt
take_IsBytes (suc n) [] h = tt
take_IsBytes (suc n) (b ∷ bs) h = (h.0, take_IsBytes n bs h.1)

cond_IsBytes : (b : Bool) (xs ys : List ℕ) → IsBytes xs → IsBytes ys → IsBytes (cond b xs ys)
cond_IsBytes true xs ys p q = p
cond_IsBytes false xs ys p q = q

directory_IsBytes : (v : ℕ) → IsBytes (directory v)
directory_IsBytes v =
    cond_IsBytes (v == 0) (codes "/base") _ (are_bytes (codes "/base") refl)
    (cond_IsBytes (v == 1) (codes "/view") _ (are_bytes (codes "/view") refl)
    (cond_IsBytes (v == 2) (codes "/up") (codes "/base/d0") (are_bytes (codes "/up") refl) (are_bytes (codes "/base/d0") refl)))

file_IsBytes : (v w : ℕ) → w < 8 → IsBytes (file_path v w)
file_IsBytes v w lt = append_IsBytes (directory v) (codes "/f" ++ (48 + w) ∷ []) (directory_IsBytes v) (append_IsBytes (codes "/f") ((48 + w) ∷ []) (are_bytes (codes "/f") refl) (omega arith, tt))

first_IsBytes : (r : ℕ) → IsBytes (first_path r)
unfolding first_path
first_IsBytes r = file_IsBytes (r / 2 ^ 8 % 4) (r / 2 ^ 16 % 8) (omega arith)

second_IsBytes : (r : ℕ) → IsBytes (second_path r)
unfolding second_path
second_IsBytes r = file_IsBytes (r / 2 ^ 24 % 4) (r / 2 ^ 32 % 8) (omega arith)

chosen_IsBytes : (r : ℕ) → IsBytes (chosen_bytes r)
unfolding chosen_bytes
chosen_IsBytes r = take_IsBytes (chosen_number r % 8 + 1) (codes "abcdefgh") (are_bytes (codes "abcdefgh") refl)

descriptor_IsNumber : (r : ℕ) → IsNumber (chosen_descriptor r)
descriptor_IsNumber r = let low : r / 2 ^ 40 % 4 < 4 = omega arith in omega arith

number_IsNumber : (r : ℕ) → IsNumber (chosen_number r)
number_IsNumber r = let low : r / 2 ^ 48 % 256 < 256 = omega arith in omega arith

-- ---- calls

either_fits : (b : Bool) (x y : Call) → FitsCall x → FitsCall y → FitsCall (cond b x y)
either_fits true x y p q = p
either_fits false x y p q = q

setup_fits : (j : ℕ) → FitsCall (setup_call j)
setup_fits j =
    either_fits (j == 0) _ _ (are_bytes (codes "/base") refl)
    (either_fits (j == 1) _ _ (are_bytes (codes "/up") refl)
    (either_fits (j == 2) _ _ (are_bytes (codes "/view") refl)
    (either_fits (j == 3) _ _ (are_bytes (codes "/base/d0") refl)
    (either_fits (j == 4) _ _ (are_bytes (codes "/up") refl)
    (either_fits (j == 5) _ _ (are_bytes (codes "/up") refl, are_bytes (codes "/base") refl)
    (either_fits (j == 6) _ _ (are_bytes (codes "/base") refl, are_bytes (codes "/view") refl)
    (are_bytes (codes "/base/f0") refl)))))))

low_fits : (row r : ℕ) → FitsCall (low_row row r)
low_fits row r =
    either_fits (row == 0) _ _ (first_IsBytes r)
    (either_fits (row == 1) _ _ (first_IsBytes r)
    (either_fits (row == 2) _ _ (first_IsBytes r)
    (either_fits (row == 3) _ _ (first_IsBytes r)
    (either_fits (row == 4) _ _ (descriptor_IsNumber r)
    (either_fits (row == 5) _ _ (descriptor_IsNumber r, number_IsNumber r)
    (either_fits (row == 6) _ _ (descriptor_IsNumber r, chosen_IsBytes r)
    (descriptor_IsNumber r, number_IsNumber r)))))))

last_fits : (r : ℕ) → FitsCall (last_row r)
last_fits r =
    either_fits (chosen_number r == 0) _ _ (are_bytes (codes "/view") refl)
    (either_fits (chosen_number r % 2 == 1) _ _ (first_IsBytes r) (second_IsBytes r))

high_fits : (row r : ℕ) → FitsCall (high_row row r)
high_fits row r =
    either_fits (row == 8) _ _ (first_IsBytes r, number_IsNumber r)
    (either_fits (row == 9) _ _ (first_IsBytes r)
    (either_fits (row == 10) _ _ (first_IsBytes r)
    (either_fits (row == 11) _ _ (first_IsBytes r, second_IsBytes r)
    (either_fits (row == 12) _ _ (first_IsBytes r, second_IsBytes r)
    (either_fits (row == 13) _ _ (descriptor_IsNumber r)
    (either_fits (row == 14) _ _ (first_IsBytes r) (last_fits r)))))))

chosen_fits : (r : ℕ) → FitsCall (chosen_call r)
chosen_fits r = either_fits (nat_lt (r % 16) 8) (low_row (r % 16) r) (high_row (r % 16) r) (low_fits (r % 16) r) (high_fits (r % 16) r)

-- ---- lines

either_line : (b : Bool) (x y : Line) → FitsLine 16 x → FitsLine 16 y → FitsLine 16 (cond b x y)
either_line true x y p q = p
either_line false x y p q = q

line_fits : (seed j : ℕ) → FitsLine 16 (gen_line seed j)
unfolding gen_line
line_fits seed j =
    let low : j % 4 < 4 = omega arith in
    either_line (nat_lt j 8) _ _ (record { first = lit≤ tt; last = lit≤ tt; call = setup_fits j }) (record { first = omega arith; last = omega arith; call = chosen_fits (mix seed j) })

lines_fit : (seed a n : ℕ) → AllByRecursion (FitsLine 16) (map (gen_line seed) (range_with_len a n))
lines_fit seed a zero = tt
lines_fit seed a (suc n) = (line_fits seed a, lines_fit seed (a + 1) n)

pub gen_HasText : (seed calls : ℕ) (script : Script) → calls ≤ 4096 → script.limits ≡ default_limits → script.lines ≡ gen_lines seed calls → HasText script
unfolding gen_lines
gen_HasText seed calls script few limits lines =
    let count : length (gen_lines seed calls) ≡ calls = length-map-range_with_len (gen_line seed) 0 calls in
    record {
      limits = rw limits default_is_lawful;
      count = rw (lines, count) few;
      each = rw (limits, lines) (lines_fit seed 0 calls);
    }
