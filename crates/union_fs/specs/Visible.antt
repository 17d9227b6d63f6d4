-- The names that a union directory shows.
use Rattle.std.specs.Prelude.{ℕ, List, ◌⊎◌}
use Rattle.std.specs.List.{Contains}

-- a name of the upper layer, or one of the lower layer that neither an upper name nor a whiteout hides
abbrev pub IsVisible : List (List ℕ) → List (List ℕ) → List (List ℕ) → List ℕ → Type 0
IsVisible upper white lower name = Contains upper name ⊎ (Contains lower name × (¬ Contains upper name) × (¬ Contains white name))
