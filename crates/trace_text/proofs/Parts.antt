-- The parts of an output, one after the other, are the output.
use Rattle.std.proofs.Common.{◌≡◌, ℕ, List, [], ◌∷◌, ◌++◌, refl, sym, ap, ◌∙◌, map, flat_map, append-nil, append_assoc}
use Rattle.std.specs.Prelude.{Option, Some, None}
use Rattle.std.specs.List.{concat}
use Rattle.std.specs.FinMap.{entries, get}
use Rattle.std.proofs.lemmas.List.Folds.{concat-append}
use Rattle.vfs_tree.specs.declared.node.Store.{Store}
use Rattle.vfs_tree.specs.declared.mount.MountKind.{MountKind}
use Rattle.vfs_tree.specs.declared.mount.MountKind.TheVariants as kind
use Rattle.vfs_tree.specs.declared.world.World.{World}
use Rattle.call_model.specs.declared.entry.Entry.{Entry}
use Rattle.trace_text.specs.History.{entry_line, history_text}
use Rattle.trace_text.specs.Mount.{mount_text}
use Rattle.trace_text.specs.Trees.{shown_text, nodes_text, tree_text, trees_text}
use Rattle.trace_text.specs.Output.{first_line, trees_line, last_line, output_text}
use Rattle.trace_text.specs.Parts.{nodes_parts, tree_parts, output_parts}

-- one part for each
each_part : {A : Type 0} (f : A → List ℕ) (xs : List A) → concat (map f xs) ≡ flat_map f xs
each_part f [] = refl
each_part f (x ∷ xs) = ap (λ (t : List ℕ). f x ++ t) (each_part f xs)

-- some parts for each
each_parts : {A : Type 0} (f : A → List (List ℕ)) (g : A → List ℕ) (xs : List A) → ((x : A) → concat (f x) ≡ g x) → concat (flat_map f xs) ≡ flat_map g xs
each_parts f g [] same = refl
each_parts f g (x ∷ xs) same =
    concat-append (f x) (flat_map f xs) ∙ ap (λ (t : List ℕ). t ++ concat (flat_map f xs)) (same x) ∙ ap (λ (t : List ℕ). g x ++ t) (each_parts f g xs same)

parts_nodes : (mounted : MountKind) (store : Option Store) → concat (nodes_parts mounted store) ≡ nodes_text mounted store
parts_nodes kind.Mem (Some store) = each_part (λ e. shown_text store e.0 e.1) (entries store.nodes)
parts_nodes kind.Mem None = refl
parts_nodes (kind.Null layer) store = refl
parts_nodes (kind.Union s upper lower) store = refl

-- a part, some parts, a part, some parts and a part
joined : (a h m t l : List ℕ) (hs ts : List (List ℕ)) → concat hs ≡ h → concat ts ≡ t → concat (a ∷ (hs ++ m ∷ (ts ++ l ∷ []))) ≡ a ++ h ++ m ++ t ++ l
joined a h m t l hs ts one other =
    let grouped : a ++ h ++ m ++ t ++ l ≡ a ++ (h ++ (m ++ (t ++ l))) = simp append_assoc in
    let end : concat (ts ++ l ∷ []) ≡ t ++ l = concat-append ts (l ∷ []) ∙ ap (λ (x : List ℕ). concat ts ++ x) (append-nil l) ∙ ap (λ (x : List ℕ). x ++ l) other in
    ap (λ (x : List ℕ). a ++ x)
    (concat-append hs (m ∷ (ts ++ l ∷ [])) ∙ ap (λ (x : List ℕ). x ++ (m ++ concat (ts ++ l ∷ []))) one ∙ ap (λ (x : List ℕ). h ++ (m ++ x)) end) ∙ sym grouped

pub parts_output : (history : List Entry) (world : World) → concat (output_parts history world) ≡ output_text history world
parts_output history world =
    joined first_line (history_text history) trees_line (trees_text world) last_line (map entry_line history) (flat_map (λ e. tree_parts world.stores e.0 e.1) (entries world.mounts))
    (each_part entry_line history)
    (each_parts (λ e. tree_parts world.stores e.0 e.1) (λ e. tree_text world.stores e.0 e.1) (entries world.mounts)
    (λ e. ap (λ (t : List ℕ). mount_text e.0 e.1 ++ t) (parts_nodes e.1.kind (get world.stores e.0))))
