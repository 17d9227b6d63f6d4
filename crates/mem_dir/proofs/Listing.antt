-- Which names are listed.
use Rattle.std.proofs.Common.{◌≡◌, ℕ, ◌+◌, ◌<◌, Bool, true, false, cond, List, [], ◌∷◌, ◌++◌, length, get_or, take, refl, ap, sym, ◌∙◌, append_assoc, append-nil, Some, None, Option, Result, Ok, Err, IfOk}
use Rattle.std.specs.Prelude.{not}
use Rattle.std.specs.List.{filter_map, cons_option}
use Rattle.std.specs.FinMap.{entries, from_entries, insert, empty}
use Rattle.std.proofs.lemmas.Map.Lookups.{exact_bytes}
use Rattle.std.specs.Cmp.Lexicographic.{nat_list_cmp_total}
use Rattle.std.proofs.lemmas.List.{take_more}
use Rattle.std.proofs.lemmas.List.Elements.{filter_map-append}
use Rattle.finite_maps.proofs.EntryLaws.{entries_given, put_all, put_all-empty}
use Rattle.vfs_tree.specs.Nodes.{Names}
use Rattle.mem_dir.specs.Records.{Record, IsRising, with_records}
use Rattle.mem_dir.proofs.Search.{strict}
use Rattle.vfs_tree.specs.declared.node.NameEntry.TheVariants.{Ino, White}
use Rattle.mem_dir.specs.Directory.{listed}

pub listed_inode : (white : Bool) (n : List ℕ) (i : ℕ) → listed white (n, Ino i) ≡ cond (not white) (Some n) None
listed_inode true n i = refl
listed_inode false n i = refl

pub listed_white : (white : Bool) (n : List ℕ) → listed white (n, White) ≡ cond white (Some n) None
listed_white true n = refl
listed_white false n = refl

-- one more record, whose name is listed or is not
pub list_more : (f : Record → Option (List ℕ)) (rs : List Record) (i : ℕ) (r : Record) (n : List ℕ) (start old now : List (List ℕ)) → r ≡ get_or rs i r → i < length rs
    → old ≡ start ++ filter_map f (take i rs) → f r ≡ Some n → now ≡ old ++ n ∷ [] → now ≡ start ++ filter_map f (take (i + 1) rs)
list_more f rs i r n start old now is lt so_far listed more =
    more ∙ ap (λ x. x ++ n ∷ []) so_far ∙ append_assoc start (filter_map f (take i rs)) (n ∷ [])
    ∙ ap (λ x. start ++ x)
    (ap (λ x. filter_map f (take i rs) ++ cons_option x []) (sym listed)
    ∙ sym (ap (filter_map f) (take_more rs i r lt ∙ ap (λ x. take i rs ++ x ∷ []) (sym is)) ∙ filter_map-append f (take i rs) (r ∷ [])))

pub list_same : (f : Record → Option (List ℕ)) (rs : List Record) (i : ℕ) (r : Record) (start old now : List (List ℕ)) → r ≡ get_or rs i r → i < length rs
    → old ≡ start ++ filter_map f (take i rs) → f r ≡ None → now ≡ old → now ≡ start ++ filter_map f (take (i + 1) rs)
list_same f rs i r start old now is lt so_far listed same =
    same ∙ so_far
    ∙ ap (λ x. start ++ x)
    (sym (append-nil (filter_map f (take i rs)))
    ∙ ap (λ x. filter_map f (take i rs) ++ cons_option x []) (sym listed)
    ∙ sym (ap (filter_map f) (take_more rs i r lt ∙ ap (λ x. take i rs ++ x ∷ []) (sym is)) ∙ filter_map-append f (take i rs) (r ∷ [])))

-- what is known of a result for one value of it is known for another
pub ok_more : {X E : Type 0} (P Q : X → Type 0) (r : Result X E) → ((x : X) → P x → Q x) → IfOk r P → IfOk r Q
ok_more P Q (Ok x) f h = f x h
ok_more P Q (Err e) f h = tt

-- records in order are the entries of their finite map
pub entries_rising : (es : List Record) (m : Names) → IsRising es → from_entries es ≡ m → es ≡ entries m
entries_rising es m h is = sym (entries_given nat_list_cmp_total es (strict es h)) ∙ ap entries is

-- ---- copies

some_more : (m : Names) (xs : List Record) (x : Record) → with_records m (xs ++ x ∷ []) ≡ insert (with_records m xs) x.0 x.1
some_more m [] x = refl
some_more m (y ∷ xs) x = some_more (insert m y.0 y.1) xs x

-- one more record
pub copy_more : (rs : List Record) (i : ℕ) (r : Record) (start old now : Names) → r ≡ get_or rs i r → i < length rs → old ≡ with_records start (take i rs) → now ≡ insert old r.0 r.1 → now ≡ with_records start (take (i + 1) rs)
copy_more rs i r start old now is lt so_far more =
    more ∙ ap (λ x. insert x r.0 r.1) so_far
    ∙ sym (ap (with_records start) (take_more rs i r lt ∙ ap (λ x. take i rs ++ x ∷ []) (sym is)) ∙ some_more start (take i rs) r)

pub records_append : (m : Names) (xs ys : List Record) → with_records m (xs ++ ys) ≡ with_records (with_records m xs) ys
records_append m [] ys = refl
records_append m (x ∷ xs) ys = records_append (insert m x.0 x.1) xs ys

put_each : (m : Names) (es : List Record) → with_records m es ≡ put_all m es
put_each m [] = refl
put_each m (e ∷ es) = put_each (insert m e.0 e.1) es

-- records in order, each put in turn, are their finite map
pub records_rising : (es : List Record) → IsRising es → with_records empty es ≡ from_entries es
records_rising es h = put_each empty es ∙ put_all-empty nat_list_cmp_total exact_bytes es (strict es h)
