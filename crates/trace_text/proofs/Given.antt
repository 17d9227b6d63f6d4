-- The inode numbers that names give, while the names are gone over.
use Rattle.std.proofs.Common.{◌≡◌, ℕ, Bool, true, false, ◌||◌, ◌==◌, cond, List, ◌∷◌, Option, Some, None, is_some, refl, sym, ap, ◌∙◌}
use Rattle.std.specs.List.{list_any}
use Rattle.std.specs.Ordering.{nat_cmp}
use Rattle.std.specs.Cmp.{nat_cmp_total, unsigned_tied}
use Rattle.std.specs.FinMap.{FinMap, empty, insert, get, get-empty, get-insert}
use Rattle.vfs_tree.specs.declared.node.Node.{Node}
use Rattle.vfs_tree.specs.declared.node.NameEntry.{NameEntry}
use Rattle.vfs_tree.specs.declared.node.NameEntry.TheVariants.{Ino}
use Rattle.trace_text.specs.Trees.{gives, is_of}

-- at the start no number is known
pub none_known : (given : FinMap nat_cmp (Unit {0})) (left nodes : List (ℕ × Node)) (ino : ℕ) → given ≡ empty → left ≡ nodes → (is_some (get given ino) || list_any (λ e. gives ino e.1) left) ≡ list_any (λ e. gives ino e.1) nodes
none_known given left nodes ino is same = rw (is, same, get-empty {X = Unit {0}} nat_cmp ino) refl

one_more : (same : Bool) (before : Option (Unit {0})) (rest : Bool) → (is_some (cond same (Some tt) before) || rest) ≡ (is_some before || (same || rest))
one_more true None rest = refl
one_more true (Some x) rest = refl
one_more false None rest = refl
one_more false (Some x) rest = refl

-- one number more is known
pub number_known : (given new : FinMap nat_cmp (Unit {0})) (entries left : List (List ℕ × NameEntry)) (name : List ℕ) (entry : NameEntry) (number ino : ℕ) (known : Bool) → entries ≡ (name, entry) ∷ left → entry ≡ Ino number → new ≡ insert given number tt → (is_some (get given ino) || list_any (λ e. is_of ino e.1) entries) ≡ known → (is_some (get new ino) || list_any (λ e. is_of ino e.1) left) ≡ known
number_known given new entries left name entry number ino known first gives is so_far =
    let rest = list_any (λ e. is_of ino e.1) left in
    let at : get new ino ≡ cond (ino == number) (Some tt) (get given ino) =
    ap (λ m. get m ino) is ∙ get-insert nat_cmp_total given number tt ino ∙ ap (λ b. cond b (Some tt) (get given ino)) (unsigned_tied ino number) in
    ap (λ o. is_some o || rest) at ∙ one_more (ino == number) (get given ino) rest ∙ sym (ap (λ e. is_some (get given ino) || (is_of ino e || rest)) gives)
    ∙ sym (ap (λ es. is_some (get given ino) || list_any (λ e. is_of ino e.1) es) first) ∙ so_far
