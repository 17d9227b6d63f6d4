-- The first of some references, found one reference at a time.
use Rattle.std.proofs.Common.{◌≡◌, Bool, true, false, List, [], ◌∷◌, cond, map, refl, ap, sym, ◌∙◌}
use Rattle.std.specs.Prelude.{not, ◌&&◌, Option, Some, None, option_map}
use Rattle.std.specs.List.{fold, filter}
use Rattle.std.specs.FinMap.{entries}
use Rattle.std.proofs.lemmas.List.Sums.{fold-append}
use Rattle.vfs_tree.specs.Views.{facts_of}
use Rattle.vfs_tree.specs.declared.world.World.{World}
use Rattle.call_model.specs.Refs.{Reference, first_case, first_of_two, first_live, stands_first, open_references, cwd_reference, references}
use Rattle.plain_mounts.specs.Ranking.{is_sought, ranked, better_case, better, offered_if, offered, best_of, at_of}
use Rattle.plain_mounts.specs.declared.first.Ranked.{Ranked}
use Rattle.plain_mounts.specs.declared.first.Sought.{Sought}

-- of two references, in full and as a search keeps them
one_case : (w : World) (best r : Reference) (b : Bool) → better_case (ranked w best) (ranked w r) b ≡ option_map (ranked w) (first_case best r b)
one_case w best r true = refl
one_case w best r false = refl

one : (w : World) (best : Option Reference) (r : Reference) → better (option_map (ranked w) best) (ranked w r) ≡ option_map (ranked w) (first_of_two (facts_of w) best r)
one w None r = refl
one w (Some best) r = one_case w best r (stands_first (facts_of w) r best)

-- the test of a search
abbrev pub passes : World → Sought → Reference → Bool
passes w sought r = not r.dead && is_sought w sought r.place

-- of many
many_case : (w : World) (sought : Sought) (best : Option Reference) (r : Reference) (rs fs : List Reference) (b : Bool)
    → ((o : Option Reference) → best_of w sought (option_map (ranked w) o) rs ≡ option_map (ranked w) (fold (first_of_two (facts_of w)) o fs))
    → best_of w sought (offered_if b (option_map (ranked w) best) (ranked w r)) rs ≡ option_map (ranked w) (fold (first_of_two (facts_of w)) best (cond b (r ∷ fs) fs))
many_case w sought best r rs fs true h = ap (λ o. best_of w sought o rs) (one w best r) ∙ h (first_of_two (facts_of w) best r)
many_case w sought best r rs fs false h = h best

many : (w : World) (sought : Sought) (best : Option Reference) (rs : List Reference)
    → best_of w sought (option_map (ranked w) best) rs ≡ option_map (ranked w) (fold (first_of_two (facts_of w)) best (filter (passes w sought) rs))
many w sought best [] = refl
many w sought best (r ∷ rs) = many_case w sought best r rs (filter (passes w sought) rs) (passes w sought r) (λ o. many w sought o rs)

at_ranked : (w : World) (o : Option Reference) → at_of (option_map (ranked w) o) ≡ option_map (λ r. r.at) o
at_ranked w None = refl
at_ranked w (Some r) = refl

-- what a search finds is the first live one
pub found : (w : World) (sought : Sought) (best : Option Ranked) → best ≡ best_of w sought None (open_references w) → at_of best ≡ first_live w (λ r. is_sought w sought r.place) (open_references w)
found w sought best is = ap at_of (is ∙ many w sought None (open_references w)) ∙ at_ranked w _

-- also where it goes on with the current directories
pub found_both : (w : World) (sought : Sought) (opens best : Option Ranked) → opens ≡ best_of w sought None (open_references w) → best ≡ best_of w sought opens (map cwd_reference (entries w.cwds))
    → at_of best ≡ first_live w (λ r. is_sought w sought r.place) (references w)
found_both w sought opens best first is =
    let whole : best ≡ best_of w sought None (references w) =
    is ∙ ap (λ o. best_of w sought o (map cwd_reference (entries w.cwds))) first ∙ sym (fold-append (offered w sought) None (open_references w) (map cwd_reference (entries w.cwds))) in
    ap at_of (whole ∙ many w sought None (references w)) ∙ at_ranked w _
